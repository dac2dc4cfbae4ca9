-- Files after one is made, and after one has a page more.
use Rattle.std.proofs.Common.{◌≡◌, ℕ, ◌++◌, ◌<◌, ◌≤◌, ◌&&◌, List, [], ◌∷◌, Bool, true, false, length, get_or, set, zero, suc, Option, Some, None, arith, refl, ap, sym, subst, ◌∙◌, cond, eqb, inl, inr}
use Rattle.std.proofs.lemmas.Bool.{both_ways, cases_Bool, eqb-true}
use Rattle.std.proofs.lemmas.Bool.Decides.{nat_tests}
use Rattle.std.proofs.lemmas.List.{length-set}
use Rattle.gm_base.specs.declared.numbers.TheConstants.{PAGE_LIMIT}
use Rattle.gm_base.specs.declared.values.Folio.{Folio}
use Rattle.gm_file.proofs.Caching.{lookup-put, rises-put}
use Rattle.gm_file.specs.Views.{FileView}
use Rattle.gm_flat.specs.Effects.{apply}
use Rattle.gm_flat.specs.FlatState.{FileState, Flat, cached}
use Rattle.gm_flat.specs.declared.effect.Effect.TheVariants.{File}
use Rattle.gm_radix.specs.Entries.{lookup}
use Rattle.gm_store.proofs.Basics.{flipped, not_some, self, set_else, set_here}
use Rattle.gm_store.specs.Stored.{FileKept, FilesStand, IsState, StoreStands, Stored, applied}
use Rattle.gm_store.specs.Views.{StoreView, file_in, new_file, pages_in, with_page}

-- one element more at the end
pub end_else : {A : Type 0} (xs : List A) (x d : A) (k : ℕ) → eqb (length xs) k ≡ false → get_or (xs ++ x ∷ []) k d ≡ get_or xs k d
end_else [] x d zero ne = absurd (both_ways true ne refl)
end_else [] x d (suc k) ne = refl
end_else (y ∷ ys) x d zero ne = refl
end_else (y ∷ ys) x d (suc k) ne = end_else ys x d k (less (length ys) k ne)
  where
    less : (n k : ℕ) → eqb (suc n) (suc k) ≡ false → eqb n k ≡ false
    less n k h = grind (arith, nat_tests)

pub end_here : {A : Type 0} (xs : List A) (x d : A) → get_or (xs ++ x ∷ []) (length xs) d ≡ x
end_here [] x d = refl
end_here (y ∷ ys) x d = end_here ys x d

pub past_end : {A : Type 0} (xs : List A) (k : ℕ) (d : A) → length xs ≤ k → get_or xs k d ≡ d
past_end [] k d h = refl
past_end (y ∷ ys) zero d h = absurd (omega arith)
past_end (y ∷ ys) (suc k) d h = past_end ys k d (omega arith)

pub length-end : {A : Type 0} (xs : List A) (x : A) → length (xs ++ x ∷ []) ≡ suc (length xs)
length-end [] x = refl
length-end (y ∷ ys) x = ap suc (length-end ys x)

abbrev pub with_state : FileState → Flat → Flat
with_state s f = record f { files = s ∷ f.files }

other_state : (x : Option FileView) (file : ℕ) (s : FileState) (files : List FileState) → eqb s.number file ≡ false → IsState x file files → IsState x file (s ∷ files)
other_state None file s files ne h = rw ne h
other_state (Some x) file s files ne h = rw ne h

other_made : (x : Option FileView) (file : ℕ) (s : FileState) (f : Flat) → eqb s.number file ≡ false → FileKept x file f → FileKept x file (with_state s f)
other_made x file s f ne h = record { state = other_state x file s f.files ne h.state; cached_are = h.cached_are; bound_are = h.bound_are; have_indexes = h.have_indexes; rises = h.rises; small = h.small }

pub file_made : (files : List (Option FileView)) (pages : ℕ) (block : Bool) (f : Flat) → pages ≤ PAGE_LIMIT → FilesStand files f → FilesStand (files ++ Some (new_file pages block) ∷ []) (apply (File (length f.files) pages block) f)
file_made files pages block f small s = record {
  count_is = length-end files (Some (new_file pages block)) ∙ ap suc s.count_is;
  each = λ k. elim (cases_Bool (eqb (length f.files) k)) [
    | inl e ↦ subst (λ (n : ℕ). FileKept (file_in (files ++ Some (new_file pages block) ∷ []) n) n after) (eqb-true (length f.files) k e) own
    | inr e ↦ subst (λ (x : Option FileView). FileKept x k after) (sym (end_else files (Some (new_file pages block)) None k (subst (λ (n : ℕ). eqb n k ≡ false) (sym s.count_is) e))) (other_made (file_in files k) k state f e (s.each k))
  ];
}
  where
    state : FileState
    state = record { number = length f.files; pages = pages; block = block; used = true }

    after : Flat
    after = with_state (record { number = length f.files; pages = pages; block = block; used = true }) f

    old : FileKept None (length f.files) f
    old = subst (λ (x : Option FileView). FileKept x (length f.files) f) (past_end files (length f.files) None (le (length files) (length f.files) s.count_is)) (s.each (length f.files))
      where
        le : (a b : ℕ) → a ≡ b → a ≤ b
        le a b e = omega arith

    made : FileKept (Some (new_file pages block)) (length f.files) after
    made = record {
      state = let e : eqb (length f.files) (length f.files) ≡ true = self (length f.files) in rw e refl;
      cached_are = old.cached_are;
      bound_are = old.bound_are;
      have_indexes = tt;
      rises = tt;
      small = small;
    }

    own : FileKept (file_in (files ++ Some (new_file pages block) ∷ []) (length f.files)) (length f.files) after
    own = subst (λ (x : Option FileView). FileKept x (length f.files) after) (sym (subst (λ (n : ℕ). get_or (files ++ Some (new_file pages block) ∷ []) n None ≡ Some (new_file pages block)) s.count_is (end_here files (Some (new_file pages block)) None))) made

-- a page more

abbrev pub with_new : ℕ → ℕ → Folio → Flat → Flat
with_new file index folio f = record f { cache = record { file = file; index = index; folio = folio } ∷ f.cache; folios = record { folio = folio; live = true } ∷ f.folios }

pub within_file : (index : ℕ) (x : Option FileView) → index < pages_in x → (y : FileView) × (x ≡ Some y)
within_file index None h = absurd (omega arith)
within_file index (Some y) h = (y, refl)

pub page_put : (files : List (Option FileView)) (file index : ℕ) (folio : Folio) (f : Flat) → index < pages_in (file_in files file) → FilesStand files f → FilesStand (set files file (with_page (file_in files file) index folio)) (with_new file index folio f)
page_put files file index folio f inside s = record {
  count_is = length-set files file (with_page (file_in files file) index folio) ∙ s.count_is;
  each = λ k. elim (cases_Bool (eqb file k)) [
    | inl e ↦ subst (λ (n : ℕ). FileKept (file_in (set files file (with_page (file_in files file) index folio)) n) n (with_new file index folio f)) (eqb-true file k e) own
    | inr e ↦ subst (λ (x : Option FileView). FileKept x k (with_new file index folio f)) (sym (set_else files file k (with_page (file_in files file) index folio) None e)) (other k e (s.each k))
  ];
}
  where
    both_false : (t u : Bool) → t ≡ false → (t && u) ≡ false
    both_false false u e = refl
    both_false true u e = absurd (both_ways true e refl)

    other : (k : ℕ) → eqb file k ≡ false → FileKept (file_in files k) k f → FileKept (file_in files k) k (with_new file index folio f)
    other k ne h = record { state = h.state; cached_are = λ i. let t : (eqb file k && eqb index i) ≡ false = both_false (eqb file k) (eqb index i) ne in rw t (h.cached_are i); bound_are = h.bound_are; have_indexes = h.have_indexes; rises = h.rises; small = h.small }

    there : (y : FileView) × (file_in files file ≡ Some y)
    there = within_file index (file_in files file) inside

    number : (xs : List (Option FileView)) (k : ℕ) (y : FileView) → get_or xs k None ≡ Some y → k < length xs
    number [] k y e = not_some y e
    number (x ∷ xs) zero y e = omega arith
    number (x ∷ xs) (suc k) y e = let h = number xs k y e in omega arith

    mine : (y : FileView) → index < y.pages → FileKept (Some y) file f → FileKept (with_page (Some y) index folio) file (with_new file index folio f)
    mine y below h = record { state = h.state; cached_are = λ i. lookup-put i index folio y.cached ∙ go i (eqb i index) refl; bound_are = h.bound_are; have_indexes = h.have_indexes; rises = rises-put 0 y.pages index folio y.cached (omega arith) below h.rises; small = h.small }
      where
        go : (i : ℕ) (t : Bool) → eqb i index ≡ t → cond t (Some folio) (lookup i y.cached) ≡ cached file i (with_new file index folio f).cache
        go i true e = let a : eqb index i ≡ true = flipped i index true e in let b : eqb file file ≡ true = self file in rw (a, b) refl
        go i false e = let a : eqb index i ≡ false = flipped i index false e in let b : eqb file file ≡ true = self file in rw (a, b) (h.cached_are i)

    own : FileKept (file_in (set files file (with_page (file_in files file) index folio)) file) file (with_new file index folio f)
    own =
        subst (λ (x : Option FileView). FileKept x file (with_new file index folio f)) (sym (set_here files file file (with_page (file_in files file) index folio) None (number files file there.0 there.1) refl))
        (subst (λ (x : Option FileView). FileKept (with_page x index folio) file (with_new file index folio f)) (sym there.1) (mine there.0 (subst (λ (x : Option FileView). index < pages_in x) there.1 inside) (subst (λ (x : Option FileView). FileKept x file f) there.1 (s.each file))))

pub created : (n : ℕ) (st : StoreView) (x : FileView) (files : List (Option FileView)) (spare pages : ℕ) (block : Bool) (k : Stored) → pages ≤ PAGE_LIMIT → x ≡ new_file pages block → files ≡ st.files ++ Some x ∷ [] → StoreStands n st k → StoreStands n (record st { files = files; spare = spare }) (applied (File (length k.flat.files) pages block) k)
created n st x files spare pages block k small new is s = record {
  files = subst (λ (fs : List (Option FileView)). FilesStand fs (apply (File (length k.flat.files) pages block) k.flat)) (ap (λ (y : FileView). st.files ++ Some y ∷ []) (sym new) ∙ sym is) (file_made st.files pages block k.flat small s.files);
  pool = s.pool;
  cache = s.cache;
  words = s.words;
}
