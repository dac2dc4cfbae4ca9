-- What a cut takes out of a file's cache, and what a close does.
use Rattle.std.proofs.Common.{◌≡◌, ℕ, ◌+◌, ◌<◌, ◌≤◌, ◌&&◌, ◌||◌, leb, ltb, List, [], ◌∷◌, Bool, true, false, length, get_or, set, zero, suc, Option, Some, None, arith, refl, ap, sym, subst, ◌∙◌, cond, eqb, inl, inr}
use Rattle.std.specs.Prelude.{IsSome}
use Rattle.std.proofs.lemmas.Bool.{both_ways, cases_Bool, eqb-true, eq-eqb}
use Rattle.std.proofs.lemmas.Bool.Decides.{nat_tests}
use Rattle.std.proofs.lemmas.List.{length-set}
use Rattle.gm_base.specs.declared.values.Folio.{Folio}
use Rattle.gm_file.proofs.Caching.{lookup-before, lookup-without, rises-without}
use Rattle.gm_file.specs.Views.{FileView}
use Rattle.gm_flat.specs.Effects.{is_cut, without}
use Rattle.gm_flat.specs.FlatState.{Flat, Triple, cached}
use Rattle.gm_radix.specs.Entries.{Rises, is_within, lookup, within, without as entries_without}
use Rattle.gm_store.proofs.Basics.{not_some, self, set_else, set_here, some_is}
use Rattle.gm_store.proofs.Caches.{both_parts, is_at}
use Rattle.gm_flat.specs.declared.effect.Effect.TheVariants.{Cut}
use Rattle.gm_store.proofs.Clearing.{clears, is_leaving}
use Rattle.gm_store.proofs.Parting.{Parted, TakenOut, has_serial, parted}
use Rattle.gm_store.specs.Frees.{FreesDue}
use Rattle.gm_store.specs.Left.{AllLive, left_by, unheld}
use Rattle.gm_store.specs.Stored.{CachedApart, FileKept, FilesStand, StoreStands, Stored, applied, has_triple}
use Rattle.gm_store.specs.Views.{StoreView, file_in}

abbrev pub in_cut : ℕ → ℕ → ℕ → ℕ → ℕ → Bool
in_cut file lo hi f i = eqb f file && (leb lo i && ltb i hi)

-- what is left at an index
pub cut_left : (file lo hi f i : ℕ) (ts : List Triple) → cached f i (without file lo hi ts) ≡ cond (in_cut file lo hi f i) None (cached f i ts)
cut_left file lo hi f i [] = none (in_cut file lo hi f i) None refl
  where
    none : (b : Bool) (o : Option Folio) → o ≡ None → o ≡ cond b None o
    none true o e = e
    none false o e = refl
cut_left file lo hi f i (t ∷ ts) = go (is_cut file lo hi t) (is_at f i t) refl refl (cut_left file lo hi f i ts)
  where
    same : is_at f i t ≡ true → is_cut file lo hi t ≡ in_cut file lo hi f i
    same a = let p = both_parts (eqb t.file f) (eqb t.index i) a in ap (λ (x : ℕ). in_cut file lo hi x t.index) (eqb-true t.file f p.0) ∙ ap (λ (x : ℕ). in_cut file lo hi f x) (eqb-true t.index i p.1)

    go : (b c : Bool) → is_cut file lo hi t ≡ b → is_at f i t ≡ c → cached f i (without file lo hi ts) ≡ cond (in_cut file lo hi f i) None (cached f i ts) → cached f i (cond b (without file lo hi ts) (t ∷ without file lo hi ts)) ≡ cond (in_cut file lo hi f i) None (cond c (Some t.folio) (cached f i ts))
    go true true b c ih = let x : in_cut file lo hi f i ≡ true = sym (same c) ∙ b in ih ∙ (ap (λ (d : Bool). cond d None (cached f i ts)) x ∙ sym (ap (λ (d : Bool). cond d None (Some t.folio)) x))
    go true false b c ih = ih
    go false true b c ih = let x : in_cut file lo hi f i ≡ false = sym (same c) ∙ b in ap (λ (d : Bool). cond d (Some t.folio) (cached f i (without file lo hi ts))) c ∙ sym (ap (λ (d : Bool). cond d None (Some t.folio)) x)
    go false false b c ih = ap (λ (d : Bool). cond d (Some t.folio) (cached f i (without file lo hi ts))) c ∙ ih

pub cut_fewer : (file lo hi s : ℕ) (ts : List Triple) → has_triple s (without file lo hi ts) ≡ true → has_triple s ts ≡ true
cut_fewer file lo hi s [] e = e
cut_fewer file lo hi s (t ∷ ts) e = go (is_cut file lo hi t) (eqb t.folio.serial s) refl (cut_fewer file lo hi s ts) e
  where
    go : (b c : Bool) → eqb t.folio.serial s ≡ c → (has_triple s (without file lo hi ts) ≡ true → has_triple s ts ≡ true) → has_triple s (cond b (without file lo hi ts) (t ∷ without file lo hi ts)) ≡ true → (c || has_triple s ts) ≡ true
    go b true c ih h = refl
    go true false c ih h = ih h
    go false false c ih h = ih (subst (λ (d : Bool). (d || has_triple s (without file lo hi ts)) ≡ true) c h)

pub not_true : (b : Bool) → (b ≡ true → ⊥) → b ≡ false
not_true true h = absurd (h refl)
not_true false h = refl

pub cut_apart : (file lo hi : ℕ) (ts : List Triple) → CachedApart ts → CachedApart (without file lo hi ts)
cut_apart file lo hi [] a = tt
cut_apart file lo hi (t ∷ ts) a = go (is_cut file lo hi t) (cut_apart file lo hi ts a.2)
  where
    none : (b : Bool) (o : Option Folio) → o ≡ None → cond b None o ≡ None
    none true o e = refl
    none false o e = e

    go : (b : Bool) → CachedApart (without file lo hi ts) → CachedApart (cond b (without file lo hi ts) (t ∷ without file lo hi ts))
    go true ih = ih
    go false ih = (cut_left file lo hi t.file t.index ts ∙ none (in_cut file lo hi t.file t.index) (cached t.file t.index ts) a.0, not_true (has_triple t.folio.serial (without file lo hi ts)) (λ h. both_ways (has_triple t.folio.serial ts) a.1 (cut_fewer file lo hi t.folio.serial ts h)), ih)

-- the entries of a file within a range

pub within_rises : (low limit lo hi : ℕ) (es : List (ℕ × Folio)) → Rises low limit es → Rises low limit (within lo hi es)
within_rises low limit lo hi [] r = tt
within_rises low limit lo hi (e ∷ es) r = go (is_within lo hi e) (within_rises (e.0 + 1) limit lo hi es r.1)
  where
    weaker : (a b : ℕ) (xs : List (ℕ × Folio)) → a ≤ b → Rises b limit xs → Rises a limit xs
    weaker a b [] le r = tt
    weaker a b (x ∷ xs) le r = ((most a b x.0 le r.0.0, r.0.1), r.1)
      where
        most : (a b c : ℕ) → a ≤ b → b ≤ c → a ≤ c
        most a b c h l = omega arith

    above : (a b : ℕ) → a ≤ b → a ≤ b + 1
    above a b h = omega arith

    go : (b : Bool) → Rises (e.0 + 1) limit (within lo hi es) → Rises low limit (cond b (e ∷ within lo hi es) (within lo hi es))
    go true ih = (r.0, ih)
    go false ih = weaker low (e.0 + 1) (within lo hi es) (above low e.0 r.0.0) ih

-- an entry within the range is an entry, and within it
pub within_looks : (low limit lo hi i : ℕ) (fo : Folio) (es : List (ℕ × Folio)) → Rises low limit es → lookup i (within lo hi es) ≡ Some fo → (lookup i es ≡ Some fo) × ((leb lo i && ltb i hi) ≡ true)
within_looks low limit lo hi i fo [] r e = not_some fo e
within_looks low limit lo hi i fo (x ∷ es) r e = go (is_within lo hi x) (eqb x.0 i) refl refl (within_looks (x.0 + 1) limit lo hi i fo es r.1) e
  where
    less : (a i : ℕ) → a ≡ i → i < a + 1
    less a i e = omega arith

    go : (b c : Bool) → is_within lo hi x ≡ b → eqb x.0 i ≡ c → (lookup i (within lo hi es) ≡ Some fo → (lookup i es ≡ Some fo) × ((leb lo i && ltb i hi) ≡ true)) → lookup i (cond b (x ∷ within lo hi es) (within lo hi es)) ≡ Some fo → (cond c (Some x.1) (lookup i es) ≡ Some fo) × ((leb lo i && ltb i hi) ≡ true)
    go true true b c ih h = (subst (λ (d : Bool). cond d (Some x.1) (lookup i (within lo hi es)) ≡ Some fo) c h, subst (λ (j : ℕ). (leb lo j && ltb j hi) ≡ true) (eqb-true x.0 i c) b)
    go true false b c ih h = ih (subst (λ (d : Bool). cond d (Some x.1) (lookup i (within lo hi es)) ≡ Some fo) c h)
    go false true b c ih h = let p = ih h in not_some fo (sym (lookup-before (x.0 + 1) limit i es r.1 (less x.0 i (eqb-true x.0 i c))) ∙ p.0)
    go false false b c ih h = ih h

-- an entry whose index is within the range is among them
pub within_has : (lo hi i : ℕ) (fo : Folio) (es : List (ℕ × Folio)) → (leb lo i && ltb i hi) ≡ true → lookup i es ≡ Some fo → has_serial fo.serial (within lo hi es) ≡ true
within_has lo hi i fo [] t e = not_some fo e
within_has lo hi i fo (x ∷ es) t e = go (is_within lo hi x) (eqb x.0 i) refl refl (within_has lo hi i fo es t) e
  where
    or_left : (a b : Bool) → a ≡ true → (a || b) ≡ true
    or_left true b e = refl
    or_left false b e = absurd (both_ways false refl e)

    or_right : (a b : Bool) → b ≡ true → (a || b) ≡ true
    or_right true b e = refl
    or_right false b e = e

    go : (b c : Bool) → is_within lo hi x ≡ b → eqb x.0 i ≡ c → (lookup i es ≡ Some fo → has_serial fo.serial (within lo hi es) ≡ true) → cond c (Some x.1) (lookup i es) ≡ Some fo → has_serial fo.serial (cond b (x ∷ within lo hi es) (within lo hi es)) ≡ true
    go true true b c ih h = or_left (eqb x.1.serial fo.serial) (has_serial fo.serial (within lo hi es)) (eq-eqb x.1.serial fo.serial (ap (λ (y : Folio). y.serial) (some_is x.1 fo h)))
    go false true b c ih h = absurd (both_ways (is_within lo hi x) b (subst (λ (j : ℕ). (leb lo j && ltb j hi) ≡ true) (sym (eqb-true x.0 i c)) t))
    go true false b c ih h = or_right (eqb x.1.serial fo.serial) (has_serial fo.serial (within lo hi es)) (ih h)
    go false false b c ih h = ih h

-- a cut takes out the entries of its file within its range
pub cut_taken : (file lo hi : ℕ) (x : FileView) (f : Flat) → CachedApart f.cache → FileKept (Some x) file f → TakenOut file x.pages (in_cut file lo hi) (within lo hi x.cached) f.cache (without file lo hi f.cache)
cut_taken file lo hi x f a k = record {
  left_is = λ g i. cut_left file lo hi g i f.cache;
  apart = cut_apart file lo hi f.cache a;
  fewer = λ s. cut_fewer file lo hi s f.cache;
  looks = λ i fo e. let p = within_looks 0 x.pages lo hi i fo x.cached k.rises e in (sym (k.cached_are i) ∙ p.0, (let s : eqb file file ≡ true = self file in rw s p.1));
  taken = λ g i fo t e. let p = both_parts (eqb g file) (leb lo i && ltb i hi) t in within_has lo hi i fo x.cached p.1 (k.cached_are i ∙ subst (λ (n : ℕ). cached n i f.cache ≡ Some fo) (eqb-true g file p.0) e);
  rises = within_rises 0 x.pages lo hi x.cached k.rises;
}

-- the files after a cut
pub cut_files : (files : List (Option FileView)) (file lo hi : ℕ) (x : FileView) (f : Flat) → file < length files → file_in files file ≡ Some x → FilesStand files f → FilesStand (set files file (Some (record x { cached = entries_without lo hi x.cached }))) (record f { cache = without file lo hi f.cache })
cut_files files file lo hi x f lt is s = record {
  count_is = length-set files file _ ∙ s.count_is;
  each = λ n. elim (cases_Bool (eqb file n)) [
    | inl e ↦ subst (λ (y : Option FileView). FileKept y n after) (sym (set_here files file n (Some y) None lt (eqb-true file n e))) (subst (λ (m : ℕ). FileKept (Some y) m after) (eqb-true file n e) own)
    | inr e ↦ subst (λ (z : Option FileView). FileKept z n after) (sym (set_else files file n (Some y) None e)) (other n e (s.each n))
  ];
}
  where
    y : FileView
    y = record x { cached = entries_without lo hi x.cached }

    after : Flat
    after = record f { cache = without file lo hi f.cache }

    k : FileKept (Some x) file f
    k = subst (λ (z : Option FileView). FileKept z file f) is (s.each file)

    own : FileKept (Some (record x { cached = entries_without lo hi x.cached })) file (record f { cache = without file lo hi f.cache })
    own = record {
      state = k.state;
      cached_are = λ i. lookup-without i lo hi x.cached ∙ (ap (λ (o : Option Folio). cond (leb lo i && ltb i hi) None o) (k.cached_are i) ∙ sym (cut_left file lo hi file i f.cache ∙ ap (λ (b : Bool). cond (b && (leb lo i && ltb i hi)) None (cached file i f.cache)) (self file)));
      bound_are = k.bound_are;
      have_indexes = k.have_indexes;
      rises = rises-without 0 x.pages lo hi x.cached k.rises;
      small = k.small;
    }

    other : (n : ℕ) → eqb file n ≡ false → FileKept (file_in files n) n f → FileKept (file_in files n) n (record f { cache = without file lo hi f.cache })
    other n ne h = record {
      state = h.state;
      cached_are = λ i. h.cached_are i ∙ sym (cut_left file lo hi n i f.cache ∙ ap (λ (b : Bool). cond (b && (leb lo i && ltb i hi)) None (cached n i f.cache)) (flip file n ne));
      bound_are = h.bound_are;
      have_indexes = h.have_indexes;
      rises = h.rises;
      small = h.small;
    }
      where
        flip : (a b : ℕ) → eqb a b ≡ false → eqb b a ≡ false
        flip a b e = grind (arith, nat_tests)

-- a file that is there
pub found_file : (xs : List (Option FileView)) (k : ℕ) (o : Option FileView) (x : FileView) → IsSome (get_or xs k None) → o ≡ get_or xs k o → o ≡ Some x → (k < length xs) × (get_or xs k None ≡ Some x)
found_file [] k o x h e is = absurd (both_ways true (sym h) refl)
found_file (y ∷ ys) zero o x h e is = (omega arith, sym e ∙ is)
found_file (y ∷ ys) (suc k) o x h e is = let p = found_file ys k o x h e is in (less k (length ys) p.0, p.1)
  where
    less : (a b : ℕ) → a < b → suc a < suc b
    less a b h = omega arith

pub cut_parted : (n : ℕ) (st : StoreView) (k : Stored) (file lo hi : ℕ) (x : FileView) → StoreStands n st k → file_in st.files file ≡ Some x → Parted x.pages (within lo hi x.cached) k.flat.cache (without file lo hi k.flat.cache) k.flat.folios
cut_parted n st k file lo hi x s is = parted file x.pages (in_cut file lo hi) (within lo hi x.cached) k.flat.cache (without file lo hi k.flat.cache) k.flat.folios s.cache (cut_taken file lo hi x k.flat s.cache.apart (subst (λ (z : Option FileView). FileKept z file k.flat) is (s.files.each file)))

-- a cut of a file
pub cut_live : (n : ℕ) (st : StoreView) (k : Stored) (file lo hi : ℕ) (x : FileView) → StoreStands n st k → file_in st.files file ≡ Some x → AllLive st.pool (within lo hi x.cached)
cut_live n st k file lo hi x s is = is_leaving n x.pages st k (without file lo hi k.flat.cache) (within lo hi x.cached) s (cut_parted n st k file lo hi x s is)

pub cut_due : (n : ℕ) (st : StoreView) (k : Stored) (file lo hi : ℕ) (x : FileView) → StoreStands n st k → file < length st.files → file_in st.files file ≡ Some x → FreesDue n k (applied (Cut file lo hi) k) (unheld (within lo hi x.cached) st.pool) (record st { files = set st.files file (Some (record x { cached = entries_without lo hi x.cached })); pool = left_by (within lo hi x.cached) st.pool })
cut_due n st k file lo hi x s lt is = clears n x.pages st (set st.files file (Some (record x { cached = entries_without lo hi x.cached }))) k (record k.flat { cache = without file lo hi k.flat.cache }) (within lo hi x.cached) s (cut_parted n st k file lo hi x s is) refl (cut_files st.files file lo hi x k.flat lt is s.files)
