-- Folios that a change leaves to be freed are few: no more than frames, and no more than are cached of the file.
use Rattle.std.proofs.Common.{◌≡◌, ℕ, ◌+◌, ◌<◌, ◌≤◌, ◌||◌, List, [], ◌∷◌, Bool, true, false, zero, suc, length, map, Option, Some, None, IsSome, arith, subst, sym, ◌∙◌, ap, cond, eqb, eqb-true, ne_eqb, inl, inr, refl}
use Rattle.std.proofs.lemmas.Bool.{cases_Bool}
use Rattle.std.proofs.lemmas.Bool.Decides.{nat_tests}
use Rattle.std.proofs.lemmas.List.{length-map}
use Rattle.std.proofs.lemmas.Map.Steps.{length-le_from_distinct_below}
use Rattle.std.specs.List.{AllByRecursion, IsDistinct, list_any}
use Rattle.gm_base.specs.declared.values.Folio.{Folio}
use Rattle.gm_file.specs.Views.{FileView}
use Rattle.gm_flat.specs.Effects.{apply, shut_files, shut_slots, slot_fits, without_file}
use Rattle.gm_flat.specs.FlatState.{Flat, FolioState, Triple, cached, was_made}
use Rattle.gm_flat.specs.RightLives.{frame_of, index_of_folio}
use Rattle.gm_flat.specs.declared.effect.Effect.{Effect}
use Rattle.gm_flat.specs.declared.effect.Effect.TheVariants.{Cut, Shut, Slot}
use Rattle.gm_pool.specs.Pools.{use_in}
use Rattle.gm_pool.specs.declared.uses.Use.{Use}
use Rattle.gm_radix.specs.Entries.{Rises, lookup}
use Rattle.gm_store.proofs.Caches.{cached_index, has_cached}
use Rattle.gm_store.proofs.Closing.{file_left}
use Rattle.gm_store.proofs.Parting.{index_has}
use Rattle.gm_store.proofs.Punching.{cut_left, in_cut}
use Rattle.gm_store.specs.Frees.{AllDue, IsDue}
use Rattle.gm_store.specs.Stored.{CachedApart, FileKept, HasUse, StoreStands, Stored, applied}
use Rattle.gm_store.specs.Views.{StoreView, cached_in, file_in, pairs_in}

-- frames

same_folios : (effect : Effect) (f : Flat) → (apply effect f).folios ≡ f.folios
same_folios (Slot slot base pages user flags file index) f = by_fit (slot_fits (record { id = slot; base = base; pages = pages; user = user; flags = flags; file = file; index = index; invalid = false }))
  where
    by_fit : (t : Bool) → (cond t (record f { slots = record { id = slot; base = base; pages = pages; user = user; flags = flags; file = file; index = index; invalid = false } ∷ f.slots }) f).folios ≡ f.folios
    by_fit true = refl
    by_fit false = refl
same_folios (Shut file) f = by_made (was_made file f.files)
  where
    by_made : (t : Bool) → (cond t (record f { slots = shut_slots file f.slots; files = shut_files file f.files; cache = without_file file f.cache }) f).folios ≡ f.folios
    by_made true = refl
    by_made false = refl
same_folios _ f = refl

use_below : (uses : List (Option Use)) (frame serial : ℕ) → HasUse serial (use_in uses frame) → frame < length uses
use_below [] frame serial h = absurd h
use_below (u ∷ uses) zero serial h = omega arith
use_below (u ∷ uses) (suc frame) serial h = let l : frame < length uses = use_below uses frame serial h in omega arith

same_serial : (o : Option Use) (s t : ℕ) → HasUse s o → HasUse t o → s ≡ t
same_serial None s t a b = absurd a
same_serial (Some u) s t a b = sym a ∙ b

live_at : (effect : Effect) (k : Stored) (cache : List Triple) (i s r : ℕ) → IsDue cache (applied effect k) i s r → frame_of s k.flat.folios ≡ Some r
live_at effect k cache i s r d = subst (λ (xs : List FolioState). frame_of s xs ≡ Some r) (same_folios effect k.flat) d.live

some_same : (i j : ℕ) → Some i ≡ Some j → i ≡ j
some_same i j e = cc

abbrev frames_of : List (ℕ × Folio) → List ℕ
frames_of ps = map (λ (p : ℕ × Folio). p.1.frame) ps

frames_apart : (n : ℕ) (st : StoreView) (k : Stored) (effect : Effect) (i s r lo : ℕ) (ps : List (ℕ × Folio)) → StoreStands n st k → IsDue k.flat.cache (applied effect k) i s r → i < lo → AllDue k.flat.cache (applied effect k) lo ps → AllByRecursion (λ (m : ℕ). eqb r m ≡ false) (frames_of ps)
frames_apart n st k effect i s r lo [] stands d lt due = tt
frames_apart n st k effect i s r lo (p ∷ ps) stands d lt due =
    let a = due.0 in (
      ne_eqb r p.1.frame (λ e. clash e),
      frames_apart n st k effect i s r (p.0 + 1) ps stands d (omega arith) due.2,
    )
  where
    clash : r ≡ p.1.frame → ⊥
    clash e =
        let x = stands.pool.has_use s r (live_at effect k k.flat.cache i s r d) in
        let y = stands.pool.has_use p.1.serial p.1.frame (live_at effect k k.flat.cache p.0 p.1.serial p.1.frame due.1) in
        let q : s ≡ p.1.serial = same_serial (use_in st.pool.uses r) s p.1.serial x (subst (λ (m : ℕ). HasUse p.1.serial (use_in st.pool.uses m)) (sym e) y) in
        let z : i ≡ p.0 = some_same i p.0 (sym d.at ∙ (ap (λ (m : ℕ). index_of_folio m k.flat.cache) q ∙ due.1.at)) in
        let a = due.0 in
        omega arith

frames_distinct : (n : ℕ) (st : StoreView) (k : Stored) (effect : Effect) (lo : ℕ) (ps : List (ℕ × Folio)) → StoreStands n st k → AllDue k.flat.cache (applied effect k) lo ps → IsDistinct eqb (frames_of ps)
unfolding IsDistinct
frames_distinct n st k effect lo [] stands due = tt
frames_distinct n st k effect lo (p ∷ ps) stands due = (frames_apart n st k effect p.0 p.1.serial p.1.frame (p.0 + 1) ps stands due.1 (omega arith) due.2, frames_distinct n st k effect (p.0 + 1) ps stands due.2)

frames_below : (n : ℕ) (st : StoreView) (k : Stored) (effect : Effect) (lo q : ℕ) (ps : List (ℕ × Folio)) → StoreStands n st k → AllDue k.flat.cache (applied effect k) lo ps → list_any (eqb q) (frames_of ps) ≡ true → q < n
frames_below n st k effect lo q [] stands due h = absurd cc
frames_below n st k effect lo q (p ∷ ps) stands due h = choose (eqb q p.1.frame) refl (λ e. frames_below n st k effect (p.0 + 1) q ps stands due.2 e)
  where
    here : q ≡ p.1.frame → q < n
    here e =
        let b = use_below st.pool.uses p.1.frame p.1.serial (stands.pool.has_use p.1.serial p.1.frame (live_at effect k k.flat.cache p.0 p.1.serial p.1.frame due.1)) in
        let c = stands.pool.count_is in
        omega arith

    choose : (t : Bool) → eqb q p.1.frame ≡ t → (list_any (eqb q) (frames_of ps) ≡ true → q < n) → q < n
    choose true e rest = here (eqb-true q p.1.frame e)
    choose false e rest = rest (sym (ap (λ (t : Bool). t || list_any (eqb q) (frames_of ps)) e) ∙ h)

pub few_frames : (n : ℕ) (st : StoreView) (k : Stored) (effect : Effect) (ps : List (ℕ × Folio)) → StoreStands n st k → AllDue k.flat.cache (applied effect k) 0 ps → length ps ≤ n
few_frames n st k effect ps stands due =
    omega (arith, length-le_from_distinct_below (frames_of ps) n (frames_distinct n st k effect 0 ps stands due) (λ q h. frames_below n st k effect 0 q ps stands due h), length-map ps (λ (p : ℕ × Folio). p.1.frame))

-- what is cached of the file

abbrev AllFound : List (ℕ × Folio) → List (ℕ × Folio) → Type 0
AllFound es [] = Unit {0}
AllFound es (p ∷ ps) = IsSome (lookup p.0 es) × AllFound es ps

past_first : (e : ℕ × Folio) (es : List (ℕ × Folio)) (i : ℕ) → eqb e.0 i ≡ false → IsSome (lookup i (e ∷ es)) → IsSome (lookup i es)
past_first e es i n h = subst (λ (t : Bool). IsSome (cond t (Some e.1) (lookup i es))) n h

above : (lo hi i : ℕ) (es : List (ℕ × Folio)) → Rises lo hi es → IsSome (lookup i es) → lo ≤ i
above lo hi i [] r h = absurd (cc)
above lo hi i (e ∷ es) r h = elim (cases_Bool (eqb e.0 i)) [
  | inl y ↦ let x = eqb-true e.0 i y in let l = r.0.0 in omega arith
  | inr n ↦ let l = r.0.0 in let a = above (e.0 + 1) hi i es r.1 (past_first e es i n h) in omega arith
]

not_eq : (a b : ℕ) → a < b → eqb a b ≡ false
not_eq a b h = grind (arith, nat_tests)

less_found : (cache : List Triple) (after : Stored) (e : ℕ × Folio) (es ps : List (ℕ × Folio)) (low : ℕ) → e.0 < low → AllDue cache after low ps → AllFound (e ∷ es) ps → AllFound es ps
less_found cache after e es [] low lt due f = tt
less_found cache after e es (p ∷ ps) low lt due f =
    let a = due.0 in
    (past_first e es p.0 (not_eq e.0 p.0 (omega arith)) f.0, less_found cache after e es ps (p.0 + 1) (omega arith) due.2 f.1)

rising_few : (cache : List Triple) (after : Stored) (lo hi : ℕ) (es ps : List (ℕ × Folio)) (low : ℕ) → Rises lo hi es → AllDue cache after low ps → AllFound es ps → length ps ≤ length es
rising_few cache after lo hi es [] low r due f = omega arith
rising_few cache after lo hi [] (p ∷ ps) low r due f = let h : false ≡ true = f.0 in absurd (cc)
rising_few cache after lo hi (e ∷ es) (p ∷ ps) low r due f = elim (cases_Bool (eqb e.0 p.0)) [
  | inl y ↦
      let x = eqb-true e.0 p.0 y in
      let l = rising_few cache after (e.0 + 1) hi es ps (p.0 + 1) r.1 due.2 (less_found cache after e es ps (p.0 + 1) (omega arith) due.2 f.1) in
      omega arith
  | inr n ↦
      let found = past_first e es p.0 n f.0 in
      let a = above (e.0 + 1) hi p.0 es r.1 found in
      let l = rising_few cache after (e.0 + 1) hi es (p ∷ ps) low r.1 due (found, less_found cache after e es ps (p.0 + 1) (omega arith) due.2 f.1) in
      omega arith
]

-- an effect that leaves what is cached of other files
abbrev pub LeavesOthers : ℕ → Stored → Stored → Type 0
LeavesOthers file k after = (f i : ℕ) → eqb f file ≡ false → cached f i after.flat.cache ≡ cached f i k.flat.cache

found_one : (file : ℕ) (x : Option FileView) (k after : Stored) (i s r : ℕ) → CachedApart k.flat.cache → LeavesOthers file k after → FileKept x file k.flat → IsDue k.flat.cache after i s r → IsSome (cached_in i x)
found_one file x k after i s r apart leaves kept d =
    let ts = k.flat.cache in
    let h = has_cached s ts apart (index_has s i ts d.at) in
    let at : i ≡ h.1 = some_same i h.1 (sym d.at ∙ (ap (λ (m : ℕ). index_of_folio m ts) (sym h.4) ∙ cached_index h.0 h.1 h.2 ts apart h.3)) in
    elim (cases_Bool (eqb h.0 file)) [
      | inl y ↦ subst (λ (o : Option Folio). IsSome o) (sym (kept.cached_are i ∙ (ap (λ (m : ℕ). cached m i ts) (sym (eqb-true h.0 file y)) ∙ (ap (λ (m : ℕ). cached h.0 m ts) at ∙ h.3)))) refl
      | inr n ↦ absurd (d.not_cached (h.0, h.1, h.2, leaves h.0 h.1 n ∙ h.3, h.4))
    ]

found_all : (file : ℕ) (x : FileView) (k after : Stored) (low : ℕ) (ps : List (ℕ × Folio)) → CachedApart k.flat.cache → LeavesOthers file k after → FileKept (Some x) file k.flat → AllDue k.flat.cache after low ps → AllFound x.cached ps
found_all file x k after low [] apart leaves kept due = tt
found_all file x k after low (p ∷ ps) apart leaves kept due = (found_one file (Some x) k after p.0 p.1.serial p.1.frame apart leaves kept due.1, found_all file x k after (p.0 + 1) ps apart leaves kept due.2)

of_file : (file : ℕ) (o : Option FileView) (k after : Stored) (ps : List (ℕ × Folio)) → CachedApart k.flat.cache → LeavesOthers file k after → FileKept o file k.flat → AllDue k.flat.cache after 0 ps → length ps ≤ length (pairs_in o)
of_file file None k after [] apart leaves kept due = omega arith
of_file file None k after (p ∷ ps) apart leaves kept due = absurd (no_file (found_one file None k after p.0 p.1.serial p.1.frame apart leaves kept due.1))
  where
    no_file : IsSome (cached_in p.0 None) → ⊥
    no_file h = cc
of_file file (Some x) k after ps apart leaves kept due = rising_few k.flat.cache after 0 x.pages x.cached ps 0 kept.rises due (found_all file x k after 0 ps apart leaves kept due)

uncut : (file lo hi f i : ℕ) → eqb f file ≡ false → in_cut file lo hi f i ≡ false
uncut file lo hi f i n = rw n refl

pub few_cut : (n : ℕ) (st : StoreView) (k : Stored) (file lo hi : ℕ) (ps : List (ℕ × Folio)) → StoreStands n st k → AllDue k.flat.cache (applied (Cut file lo hi) k) 0 ps → length ps ≤ length (pairs_in (file_in st.files file))
few_cut n st k file lo hi ps stands due = of_file file (file_in st.files file) k (applied (Cut file lo hi) k) ps stands.cache.apart (λ f i e. cut_left file lo hi f i k.flat.cache ∙ ap (λ (t : Bool). cond t None (cached f i k.flat.cache)) (uncut file lo hi f i e)) (stands.files.each file) due

pub few_shut : (n : ℕ) (st : StoreView) (k : Stored) (file : ℕ) (ps : List (ℕ × Folio)) → StoreStands n st k → AllDue k.flat.cache (applied (Shut file) k) 0 ps → length ps ≤ length (pairs_in (file_in st.files file))
few_shut n st k file ps stands due = of_file file (file_in st.files file) k (applied (Shut file) k) ps stands.cache.apart (λ f i e. by_made (was_made file k.flat.files) f i e) (stands.files.each file) due
  where
    by_made : (t : Bool) (f i : ℕ) → eqb f file ≡ false → cached f i (cond t (record k.flat { slots = shut_slots file k.flat.slots; files = shut_files file k.flat.files; cache = without_file file k.flat.cache }) k.flat).cache ≡ cached f i k.flat.cache
    by_made true f i e = file_left file f i k.flat.cache ∙ ap (λ (t : Bool). cond t None (cached f i k.flat.cache)) e
    by_made false f i e = refl
