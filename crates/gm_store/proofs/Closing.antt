-- What a close takes out of a file's cache.
use Rattle.std.proofs.Common.{◌≡◌, ℕ, ◌<◌, ◌≤◌, ◌&&◌, ◌||◌, leb, ltb, List, [], ◌∷◌, Bool, true, false, length, set, suc, Option, Some, None, arith, refl, ap, sym, subst, ◌∙◌, cond, eqb, inl, inr}
use Rattle.std.specs.Prelude.{IsSome}
use Rattle.std.proofs.lemmas.Bool.{both_ways, cases_Bool, eqb-true}
use Rattle.std.proofs.lemmas.Bool.Decides.{nat_tests}
use Rattle.std.proofs.lemmas.List.{length-set}
use Rattle.gm_base.specs.declared.numbers.TheConstants.{PAGE_LIMIT}
use Rattle.gm_base.specs.declared.values.Folio.{Folio}
use Rattle.gm_calls.specs.Lent.{ranges_of}
use Rattle.gm_file.proofs.Caching.{cached_inside}
use Rattle.gm_file.specs.Views.{FileView}
use Rattle.gm_flat.specs.Calls.{put_by_index, slots_of_file}
use Rattle.gm_flat.specs.Effects.{shut, shut_files, shut_slot, shut_slots, without_file}
use Rattle.gm_flat.specs.FlatState.{FileState, Flat, Triple, cached, file_by_number, in_use, was_made}
use Rattle.gm_flat.specs.Slots.{is_file}
use Rattle.gm_flat.specs.declared.effect.Effect.TheVariants.{Shut}
use Rattle.gm_flat.specs.declared.views.SlotView.{SlotView}
use Rattle.gm_radix.specs.Entries.{lookup, within}
use Rattle.gm_store.proofs.Basics.{not_some, self, set_else, set_here}
use Rattle.gm_store.proofs.Caches.{both_parts, is_at}
use Rattle.gm_store.proofs.Clearing.{clears, is_leaving}
use Rattle.gm_store.proofs.Parting.{Parted, TakenOut, parted}
use Rattle.gm_store.proofs.Punching.{not_true, within_has, within_looks, within_rises}
use Rattle.gm_store.specs.Frees.{FreesDue}
use Rattle.gm_store.specs.Left.{AllLive, left_by, unheld}
use Rattle.gm_store.specs.Stored.{CachedApart, FileKept, FilesStand, IsState, StoreStands, Stored, applied, has_triple}
use Rattle.gm_store.specs.Views.{StoreView, file_in}

-- what is left at an index
pub file_left : (file f i : ℕ) (ts : List Triple) → cached f i (without_file file ts) ≡ cond (eqb f file) None (cached f i ts)
file_left file f i [] = none (eqb f file) None refl
  where
    none : (b : Bool) (o : Option Folio) → o ≡ None → o ≡ cond b None o
    none true o e = e
    none false o e = refl
file_left file f i (t ∷ ts) = go (eqb t.file file) (is_at f i t) refl refl (file_left file f i ts)
  where
    same : is_at f i t ≡ true → eqb t.file file ≡ eqb f file
    same a = let p = both_parts (eqb t.file f) (eqb t.index i) a in ap (λ (x : ℕ). eqb x file) (eqb-true t.file f p.0)

    go : (b c : Bool) → eqb t.file file ≡ b → is_at f i t ≡ c → cached f i (without_file file ts) ≡ cond (eqb f file) None (cached f i ts) → cached f i (cond b (without_file file ts) (t ∷ without_file file ts)) ≡ cond (eqb f file) None (cond c (Some t.folio) (cached f i ts))
    go true true b c ih = let x : eqb f file ≡ true = sym (same c) ∙ b in ih ∙ (ap (λ (d : Bool). cond d None (cached f i ts)) x ∙ sym (ap (λ (d : Bool). cond d None (Some t.folio)) x))
    go true false b c ih = ih
    go false true b c ih = let x : eqb f file ≡ false = sym (same c) ∙ b in ap (λ (d : Bool). cond d (Some t.folio) (cached f i (without_file file ts))) c ∙ sym (ap (λ (d : Bool). cond d None (Some t.folio)) x)
    go false false b c ih = ap (λ (d : Bool). cond d (Some t.folio) (cached f i (without_file file ts))) c ∙ ih

pub file_fewer : (file s : ℕ) (ts : List Triple) → has_triple s (without_file file ts) ≡ true → has_triple s ts ≡ true
file_fewer file s [] e = e
file_fewer file s (t ∷ ts) e = go (eqb t.file file) (eqb t.folio.serial s) refl (file_fewer file s ts) e
  where
    go : (b c : Bool) → eqb t.folio.serial s ≡ c → (has_triple s (without_file file ts) ≡ true → has_triple s ts ≡ true) → has_triple s (cond b (without_file file ts) (t ∷ without_file file ts)) ≡ true → (c || has_triple s ts) ≡ true
    go b true c ih h = refl
    go true false c ih h = ih h
    go false false c ih h = ih (subst (λ (d : Bool). (d || has_triple s (without_file file ts)) ≡ true) c h)

pub file_apart : (file : ℕ) (ts : List Triple) → CachedApart ts → CachedApart (without_file file ts)
file_apart file [] a = tt
file_apart file (t ∷ ts) a = go (eqb t.file file) (file_apart file ts a.2)
  where
    none : (b : Bool) (o : Option Folio) → o ≡ None → cond b None o ≡ None
    none true o e = refl
    none false o e = e

    go : (b : Bool) → CachedApart (without_file file ts) → CachedApart (cond b (without_file file ts) (t ∷ without_file file ts))
    go true ih = ih
    go false ih = (file_left file t.file t.index ts ∙ none (eqb t.file file) (cached t.file t.index ts) a.0, not_true (has_triple t.folio.serial (without_file file ts)) (λ h. both_ways (has_triple t.folio.serial ts) a.1 (file_fewer file t.folio.serial ts h)), ih)

-- a close takes out all that is cached of its file
pub shut_taken : (file : ℕ) (x : FileView) (f : Flat) → CachedApart f.cache → FileKept (Some x) file f → TakenOut file x.pages (λ g i. eqb g file) (within 0 PAGE_LIMIT x.cached) f.cache (without_file file f.cache)
shut_taken file x f a k = record {
  left_is = λ g i. file_left file g i f.cache;
  apart = file_apart file f.cache a;
  fewer = λ s. file_fewer file s f.cache;
  looks = λ i fo e. let p = within_looks 0 x.pages 0 PAGE_LIMIT i fo x.cached k.rises e in (sym (k.cached_are i) ∙ p.0, self file);
  taken = λ g i fo t e.
      let l : lookup i x.cached ≡ Some fo = k.cached_are i ∙ subst (λ (n : ℕ). cached n i f.cache ≡ Some fo) (eqb-true g file t) e in
      within_has 0 PAGE_LIMIT i fo x.cached (inside i (cached_inside x.pages i x.cached k.rises (there (lookup i x.cached) fo l))) l;
  rises = within_rises 0 x.pages 0 PAGE_LIMIT x.cached k.rises;
}
  where
    there : (o : Option Folio) (fo : Folio) → o ≡ Some fo → IsSome o
    there None fo e = not_some fo e
    there (Some y) fo e = refl

    inside : (i : ℕ) → i < x.pages → (leb 0 i && ltb i PAGE_LIMIT) ≡ true
    inside i lt = plain i x.pages lt k.small
      where
        plain : (i p : ℕ) → i < p → p ≤ 4503599627370496 → (leb 0 i && ltb i 4503599627370496) ≡ true
        plain i p h l = grind (arith, nat_tests)

-- files and slots after a close

pub shut-length : (file : ℕ) (fs : List FileState) → length (shut_files file fs) ≡ length fs
shut-length file [] = refl
shut-length file (f ∷ fs) = go (eqb f.number file) (shut-length file fs)
  where
    go : (b : Bool) → length (shut_files file fs) ≡ length fs → length (cond b (record f { used = false } ∷ fs) (f ∷ shut_files file fs)) ≡ suc (length fs)
    go true ih = refl
    go false ih = ap suc ih

pub unused_now : (file : ℕ) (fs : List FileState) → in_use file (shut_files file fs) ≡ false
unused_now file [] = refl
unused_now file (f ∷ fs) = go (eqb f.number file) refl (unused_now file fs)
  where
    go : (b : Bool) → eqb f.number file ≡ b → in_use file (shut_files file fs) ≡ false → in_use file (cond b (record f { used = false } ∷ fs) (f ∷ shut_files file fs)) ≡ false
    go true b ih = ap (λ (d : Bool). cond d false (in_use file fs)) b
    go false b ih = ap (λ (d : Bool). cond d f.used (in_use file (shut_files file fs))) b ∙ ih

other_used : (file n : ℕ) (fs : List FileState) → eqb file n ≡ false → in_use n (shut_files file fs) ≡ in_use n fs
other_used file n [] ne = refl
other_used file n (f ∷ fs) ne = go (eqb f.number file) refl (other_used file n fs ne)
  where
    apart : (a b n : ℕ) → eqb a b ≡ true → eqb b n ≡ false → eqb a n ≡ false
    apart a b n e h = grind (arith, nat_tests)

    go : (b : Bool) → eqb f.number file ≡ b → in_use n (shut_files file fs) ≡ in_use n fs → in_use n (cond b (record f { used = false } ∷ fs) (f ∷ shut_files file fs)) ≡ cond (eqb f.number n) f.used (in_use n fs)
    go true b ih = let a : eqb f.number n ≡ false = apart f.number file n b ne in rw a refl
    go false b ih = ap (cond (eqb f.number n) f.used) ih

other_number : (file n : ℕ) (fs : List FileState) → eqb file n ≡ false → file_by_number n (shut_files file fs) ≡ file_by_number n fs
other_number file n [] ne = refl
other_number file n (f ∷ fs) ne = go (eqb f.number file) refl (other_number file n fs ne)
  where
    apart : (a b n : ℕ) → eqb a b ≡ true → eqb b n ≡ false → eqb a n ≡ false
    apart a b n e h = grind (arith, nat_tests)

    go : (b : Bool) → eqb f.number file ≡ b → file_by_number n (shut_files file fs) ≡ file_by_number n fs → file_by_number n (cond b (record f { used = false } ∷ fs) (f ∷ shut_files file fs)) ≡ cond (eqb f.number n) (Some f) (file_by_number n fs)
    go true b ih = let a : eqb f.number n ≡ false = apart f.number file n b ne in rw a refl
    go false b ih = ap (cond (eqb f.number n) (Some f)) ih

other_state : (file n : ℕ) (y : Option FileView) (fs : List FileState) → eqb file n ≡ false → IsState y n fs → IsState y n (shut_files file fs)
other_state file n None fs ne h = other_used file n fs ne ∙ h
other_state file n (Some y) fs ne h = other_number file n fs ne ∙ h

none_named : (file : ℕ) (o : Option ℕ) → is_file (cond (is_file o file) None o) file ≡ false
none_named file o = go (is_file o file) refl
  where
    go : (b : Bool) → is_file o file ≡ b → is_file (cond b None o) file ≡ false
    go true e = refl
    go false e = e

pub no_slots_now : (file : ℕ) (ss : List SlotView) → slots_of_file file (shut_slots file ss) ≡ []
no_slots_now file [] = refl
no_slots_now file (s ∷ ss) = ap (λ (b : Bool). cond b (put_by_index (shut_slot file s) (slots_of_file file (shut_slots file ss))) (slots_of_file file (shut_slots file ss))) (none_named file s.file) ∙ no_slots_now file ss

other_slots : (file n : ℕ) (ss : List SlotView) → eqb file n ≡ false → slots_of_file n (shut_slots file ss) ≡ slots_of_file n ss
other_slots file n [] ne = refl
other_slots file n (s ∷ ss) ne = go (is_file s.file file) refl (other_slots file n ss ne)
  where
    apart : (o : Option ℕ) → is_file o file ≡ true → is_file o n ≡ false
    apart None e = refl
    apart (Some a) e = plain a file n e ne
      where
        plain : (a b n : ℕ) → eqb a b ≡ true → eqb b n ≡ false → eqb a n ≡ false
        plain a b n e h = grind (arith, nat_tests)

    go : (b : Bool) → is_file s.file file ≡ b → slots_of_file n (shut_slots file ss) ≡ slots_of_file n ss → cond (is_file (cond b None s.file) n) (put_by_index (record s { file = cond b None s.file }) (slots_of_file n (shut_slots file ss))) (slots_of_file n (shut_slots file ss)) ≡ cond (is_file s.file n) (put_by_index s (slots_of_file n ss)) (slots_of_file n ss)
    go true b ih = ih ∙ sym (ap (λ (d : Bool). cond d (put_by_index s (slots_of_file n ss)) (slots_of_file n ss)) (apart s.file b))
    go false b ih = ap (λ (xs : List SlotView). cond (is_file s.file n) (put_by_index s xs) xs) ih

made_is : (file : ℕ) (s : FileState) (fs : List FileState) → file_by_number file fs ≡ Some s → was_made file fs ≡ true
made_is file s [] e = not_some s e
made_is file s (f ∷ fs) e = go (eqb f.number file) (made_is file s fs) e
  where
    go : (b : Bool) → (file_by_number file fs ≡ Some s → was_made file fs ≡ true) → cond b (Some f) (file_by_number file fs) ≡ Some s → (b || was_made file fs) ≡ true
    go true ih h = refl
    go false ih h = ih h

abbrev pub shut_flat : ℕ → Flat → Flat
shut_flat file f = record f { slots = shut_slots file f.slots; files = shut_files file f.files; cache = without_file file f.cache }

pub shut_stands : (files : List (Option FileView)) (file : ℕ) (f : Flat) → file < length files → FilesStand files f → FilesStand (set files file None) (shut_flat file f)
shut_stands files file f lt s = record {
  count_is = length-set files file None ∙ (s.count_is ∙ sym (shut-length file f.files));
  each = λ n. elim (cases_Bool (eqb file n)) [
    | inl e ↦ subst (λ (y : Option FileView). FileKept y n (shut_flat file f)) (sym (set_here files file n None None lt (eqb-true file n e))) (subst (λ (m : ℕ). FileKept None m (shut_flat file f)) (eqb-true file n e) own)
    | inr e ↦ subst (λ (z : Option FileView). FileKept z n (shut_flat file f)) (sym (set_else files file n None None e)) (other n e (s.each n))
  ];
}
  where
    own : FileKept None file (shut_flat file f)
    own = record {
      state = unused_now file f.files;
      cached_are = λ i. sym (file_left file file i f.cache ∙ ap (λ (b : Bool). cond b None (cached file i f.cache)) (self file));
      bound_are = sym (ap ranges_of (no_slots_now file f.slots));
      have_indexes = tt;
      rises = tt;
      small = omega arith;
    }

    flip : (a b : ℕ) → eqb a b ≡ false → eqb b a ≡ false
    flip a b e = grind (arith, nat_tests)

    other : (n : ℕ) → eqb file n ≡ false → FileKept (file_in files n) n f → FileKept (file_in files n) n (shut_flat file f)
    other n ne h = record {
      state = other_state file n (file_in files n) f.files ne h.state;
      cached_are = λ i. h.cached_are i ∙ sym (file_left file n i f.cache ∙ ap (λ (b : Bool). cond b None (cached n i f.cache)) (flip file n ne));
      bound_are = h.bound_are ∙ sym (ap ranges_of (other_slots file n f.slots ne));
      have_indexes = h.have_indexes;
      rises = h.rises;
      small = h.small;
    }

pub shut_parted : (n : ℕ) (st : StoreView) (k : Stored) (file : ℕ) (x : FileView) → StoreStands n st k → file_in st.files file ≡ Some x → Parted x.pages (within 0 PAGE_LIMIT x.cached) k.flat.cache (without_file file k.flat.cache) k.flat.folios
shut_parted n st k file x s is = parted file x.pages (λ g i. eqb g file) (within 0 PAGE_LIMIT x.cached) k.flat.cache (without_file file k.flat.cache) k.flat.folios s.cache (shut_taken file x k.flat s.cache.apart (subst (λ (z : Option FileView). FileKept z file k.flat) is (s.files.each file)))

pub shut_live : (n : ℕ) (st : StoreView) (k : Stored) (file : ℕ) (x : FileView) → StoreStands n st k → file_in st.files file ≡ Some x → AllLive st.pool (within 0 PAGE_LIMIT x.cached)
shut_live n st k file x s is = is_leaving n x.pages st k (without_file file k.flat.cache) (within 0 PAGE_LIMIT x.cached) s (shut_parted n st k file x s is)

pub shut_due : (n : ℕ) (st : StoreView) (k : Stored) (file : ℕ) (x : FileView) → StoreStands n st k → file < length st.files → file_in st.files file ≡ Some x → FreesDue n k (applied (Shut file) k) (unheld (within 0 PAGE_LIMIT x.cached) st.pool) (record st { files = set st.files file None; pool = left_by (within 0 PAGE_LIMIT x.cached) st.pool })
shut_due n st k file x s lt is =
    subst (λ (g : Flat). FreesDue n k (record k { flat = g }) (unheld (within 0 PAGE_LIMIT x.cached) st.pool) (record st { files = set st.files file None; pool = left_by (within 0 PAGE_LIMIT x.cached) st.pool })) (sym made)
    (clears n x.pages st (set st.files file None) k (shut_flat file k.flat) (within 0 PAGE_LIMIT x.cached) s (shut_parted n st k file x s is) refl (shut_stands st.files file k.flat lt s.files))
  where
    kept : FileKept (Some x) file k.flat
    kept = subst (λ (z : Option FileView). FileKept z file k.flat) is (s.files.each file)

    made : shut file k.flat ≡ shut_flat file k.flat
    made = ap (λ (b : Bool). cond b (shut_flat file k.flat) k.flat) (made_is file _ k.flat.files kept.state)
