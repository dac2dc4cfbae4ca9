-- How slots and files stand to each other is kept by every entry.
use Rattle.std.proofs.Common.{◌&&◌, ◌+◌, ◌<◌, Bool, List, None, Option, Some, [], ap, arith, cond, eq-eqb, eqb, eqb-true, false, inl, inr, length, ltb, refl, subst, suc, sym, true, zero, ℕ, ◌∙◌, ◌∷◌, ◌≡◌, ◌⊎◌}
use Rattle.std.proofs.lemmas.Bool.{and_from, and_parts, both_ways, cases_eq, cond-false, cond-true, or_parts}
use Rattle.gm_base.specs.Aim.{Aim}
use Rattle.gm_base.specs.Extent.{Extent, meets}
use Rattle.gm_base.specs.Scripts.{Orders}
use Rattle.gm_base.specs.declared.calls.Ioctl.{Ioctl}
use Rattle.gm_base.specs.declared.values.Actor.{Actor}
use Rattle.gm_base.specs.declared.values.Actor.TheVariants.{Caller, Vcpu}
use Rattle.gm_base.specs.declared.values.Folio.{Folio}
use Rattle.gm_base.specs.declared.values.Setup.{Setup}
use Rattle.gm_flat.specs.Calls.{Bracketed, PagePlan, Paged, Plan, Reads, Refused, Same, Short, bound_range, has_memfd, meets_bound, meets_slot, plan}
use Rattle.gm_flat.specs.Effects.{Addition, add, apply, dropped, get_addition, marked, moved, shut_files, shut_slot, shut_slots, slot_fits, with_run, without_file}
use Rattle.gm_flat.specs.FlatState.{FileState, Flat, Triple, cached, in_use, was_made}
use Rattle.gm_flat.specs.Histories.{Bracket, Call, Fault, Faulting, NoFault, Seen, bracket, call, fault, is_mark}
use Rattle.gm_flat.specs.Locks.{FileLock, takes, takes_file}
use Rattle.gm_flat.specs.Replay.{adds, flat, flat_at, get_adds, index_in, looked_slot, page_adds, states}
use Rattle.gm_flat.specs.RightCalls.{IsPage, RightPage}
use Rattle.gm_flat.specs.RightHistory.{Right}
use Rattle.gm_flat.specs.RightInstall.{FileGet, GetBy, RightGet}
use Rattle.gm_flat.specs.RightLives.{PageAdds, RightPageAdds, plan_of}
use Rattle.gm_flat.specs.RightLook.{Route, ToAgain, ToFault, ToFile, ToMmio, ToUser, route_seen}
use Rattle.gm_flat.specs.RightOrder.{IsLooked}
use Rattle.gm_flat.specs.Slots.{slot_span}
use Rattle.gm_flat.specs.declared.effect.Backing.{Backing}
use Rattle.gm_flat.specs.declared.effect.Backing.TheVariants.{Folio as InFolio, User}
use Rattle.gm_flat.specs.declared.effect.Effect.{Effect}
use Rattle.gm_flat.specs.declared.effect.Effect.TheVariants.{Attr, Cut, File, Mark, Move, NoSlot, Shut, Slot, Word}
use Rattle.gm_flat.specs.declared.entry.Entry.{Entry}
use Rattle.gm_flat.specs.declared.entry.What.{What}
use Rattle.gm_flat.specs.declared.entry.What.TheVariants.{Change, Get, Judge, Page}
use Rattle.gm_flat.specs.declared.views.SlotView.{SlotView}
use Rattle.gm_laws.proofs.Adds.{get_made, user_none}
use Rattle.gm_laws.proofs.Flats.{cond_P, of_file, with_id}
use Rattle.gm_laws.proofs.Folios.{cached_shut, shut_none}
use Rattle.gm_laws.proofs.Frames.{effect_cached}
use Rattle.gm_laws.proofs.Fronts.{front_follows}
use Rattle.gm_laws.proofs.Grow.{same_state}
use Rattle.gm_laws.proofs.Ids.{MemSlot}
use Rattle.gm_laws.proofs.Kit.{by, cond_is, flat_at_all, none_is, some_same}
use Rattle.gm_laws.proofs.Locks.{ChangeIn, Facts, Locks, MarkIn, SlotFiles, in_use-shut, still_file}
use Rattle.gm_laws.proofs.LocksKeep.{CanChange, can_change, changer, inverted, new_then, no_new, then_same}
use Rattle.gm_laws.proofs.Plans.{FilesUsed, Fits, fits}
use Rattle.gm_laws.proofs.RightIsRuled.{ruled}
use Rattle.gm_laws.proofs.Touches.{locks}
use Rattle.gm_laws.specs.May.{May}
use Rattle.gm_laws.specs.Ruled.{Follows}
use Rattle.gm_laws.specs.SlotsStand.{AllOf, HasOtherId, IsBoundApart, LiesApart, Pairwise, SlotsStand}
use Rattle.gm_laws.specs.Stands.{Stands}

-- lists of slots
pub all_map : (P Q : SlotView → Type 0) (rs : List SlotView) → ((r : SlotView) → P r → Q r) → AllOf P rs → AllOf Q rs
all_map P Q [] f a = tt
all_map P Q (r ∷ rs) f a = (f r a.0, all_map P Q rs f a.1)

pub all_dropped : (P : SlotView → Type 0) (id : ℕ) (rs : List SlotView) → AllOf P rs → AllOf P (dropped id rs)
all_dropped P id [] a = tt
all_dropped P id (r ∷ rs) a = cond_P (AllOf P) (eqb r.id id) rs (r ∷ dropped id rs) a.1 (a.0, all_dropped P id rs a.1)

pub all_shut : (P Q : SlotView → Type 0) (F : ℕ) (rs : List SlotView) → ((r : SlotView) → P r → Q (shut_slot F r)) → AllOf P rs → AllOf Q (shut_slots F rs)
all_shut P Q F [] f a = tt
all_shut P Q F (r ∷ rs) f a = (f r a.0, all_shut P Q F rs f a.1)

-- of the slot that moves and of the others
pub all_moved : (P : SlotView → Type 0) (id base : ℕ) (rs : List SlotView) → ((r : SlotView) → with_id id rs ≡ Some r → P (record r { base = base; invalid = false })) → AllOf P rs → AllOf P (moved id base rs)
all_moved P id base [] f a = tt
all_moved P id base (r ∷ rs) f a = go (eqb r.id id) refl (λ g. all_moved P id base rs g a.1)
  where
    go : (t : Bool) → eqb r.id id ≡ t → (((q : SlotView) → with_id id rs ≡ Some q → P (record q { base = base; invalid = false })) → AllOf P (moved id base rs)) → AllOf P (cond t (record r { base = base; invalid = false } ∷ rs) (r ∷ moved id base rs))
    go true e ih = (f r (cond-true (eqb r.id id) (Some r) (with_id id rs) e), a.1)
    go false e ih = (a.0, ih (λ q h. f q (cond-false (eqb r.id id) (Some r) (with_id id rs) e ∙ h)))

-- the slot that is marked, and the others
pub all_marked : (P : SlotView → Type 0) (id : ℕ) (rs : List SlotView) → ((r : SlotView) → P r → P (record r { invalid = true })) → AllOf P rs → AllOf P (marked id rs)
all_marked P id [] f a = tt
all_marked P id (r ∷ rs) f a = cond_P (AllOf P) (eqb r.id id) (record r { invalid = true } ∷ rs) (r ∷ marked id rs) (f r a.0, a.1) (a.0, all_marked P id rs f a.1)

pair_dropped : (R : SlotView → SlotView → Type 0) (id : ℕ) (rs : List SlotView) → Pairwise R rs → Pairwise R (dropped id rs)
pair_dropped R id [] a = tt
pair_dropped R id (r ∷ rs) a = cond_P (Pairwise R) (eqb r.id id) rs (r ∷ dropped id rs) a.1 (all_dropped (R r) id rs a.0, pair_dropped R id rs a.1)

pair_shut : (R : SlotView → SlotView → Type 0) (F : ℕ) (rs : List SlotView) → ((r q : SlotView) → R r q → R (shut_slot F r) (shut_slot F q)) → Pairwise R rs → Pairwise R (shut_slots F rs)
pair_shut R F [] f a = tt
pair_shut R F (r ∷ rs) f a = (all_shut (R r) (R (shut_slot F r)) F rs (f r) a.0, pair_shut R F rs f a.1)

-- a relation that doesn't look at the base
abbrev BaseFree : (SlotView → SlotView → Type 0) → Type 0
BaseFree R = (r q : SlotView) (base : ℕ) → R r q → R (record r { base = base; invalid = false }) q × R r (record q { base = base; invalid = false })

pub all_with : (P : SlotView → Type 0) (id : ℕ) (r : SlotView) (rs : List SlotView) → with_id id rs ≡ Some r → AllOf P rs → P r
all_with P id r [] e a = absurd (none_is r e)
all_with P id r (x ∷ xs) e a = elim (cond_is (eqb x.id id) (Some x) (with_id id xs) (Some r) e) [
  | inl y ↦ subst P (some_same x r y.1) a.0
  | inr y ↦ all_with P id r xs y.1 a.1
]

pair_moved : (R : SlotView → SlotView → Type 0) (id base : ℕ) (rs : List SlotView) → BaseFree R → Pairwise R rs → Pairwise R (moved id base rs)
pair_moved R id base [] f a = tt
pair_moved R id base (r ∷ rs) f a = cond_P (Pairwise R) (eqb r.id id) (record r { base = base; invalid = false } ∷ rs) (r ∷ moved id base rs)
    (all_map (R r) (R (record r { base = base; invalid = false })) rs (λ q h. (f r q base h).0) a.0, a.1)
    (all_moved (R r) id base rs (λ q h. (f r q base (all_with (R r) id q rs h a.0)).1) a.0, pair_moved R id base rs f a.1)

-- a relation that doesn't look at marks
abbrev MarkFree : (SlotView → SlotView → Type 0) → Type 0
MarkFree R = (r q : SlotView) → R r q → R (record r { invalid = true }) q × R r (record q { invalid = true })

pair_marked : (R : SlotView → SlotView → Type 0) (id : ℕ) (rs : List SlotView) → MarkFree R → Pairwise R rs → Pairwise R (marked id rs)
pair_marked R id [] f a = tt
pair_marked R id (r ∷ rs) f a = cond_P (Pairwise R) (eqb r.id id) (record r { invalid = true } ∷ rs) (r ∷ marked id rs)
    (all_map (R r) (R (record r { invalid = true })) rs (λ q h. (f r q h).0) a.0, a.1)
    (all_marked (R r) id rs (λ q h. (f r q h).1) a.0, pair_marked R id rs f a.1)

-- slots that lie apart
meets_all : (s : SlotView) (rs : List SlotView) → meets_slot s.base s.pages rs ≡ false → AllOf (LiesApart s) rs
meets_all s [] e = tt
meets_all s (r ∷ rs) e = let x = or_parts (meets (slot_span s) (slot_span r)) (meets_slot s.base s.pages rs) e in (x.0, meets_all s rs x.1)

apart_sym : (s r : SlotView) → LiesApart s r → LiesApart r s
apart_sym s r h = flip_and (ltb s.base (r.base + r.pages)) (ltb r.base (s.base + s.pages)) h
  where
    flip_and : (a b : Bool) → (a && b) ≡ false → (b && a) ≡ false
    flip_and a b h = grind arith

move_apart : (id base : ℕ) (rs : List SlotView) → ((s : SlotView) → with_id id rs ≡ Some s → meets_slot base s.pages (dropped id rs) ≡ false) → Pairwise LiesApart rs → Pairwise LiesApart (moved id base rs)
move_apart id base [] f a = tt
move_apart id base (r ∷ rs) f a = go (eqb r.id id) refl (λ g. move_apart id base rs g a.1)
  where
    go : (t : Bool) → eqb r.id id ≡ t → (((s : SlotView) → with_id id rs ≡ Some s → meets_slot base s.pages (dropped id rs) ≡ false) → Pairwise LiesApart (moved id base rs)) → Pairwise LiesApart (cond t (record r { base = base; invalid = false } ∷ rs) (r ∷ moved id base rs))
    go true e ih =
        let m : meets_slot base r.pages (dropped id (r ∷ rs)) ≡ false = f r (cond-true (eqb r.id id) (Some r) (with_id id rs) e) in
        (meets_all (record r { base = base; invalid = false }) rs (ap (λ (ss : List SlotView). meets_slot base r.pages ss) (sym (cond-true (eqb r.id id) rs (r ∷ dropped id rs) e)) ∙ m), a.1)
    go false e ih =
        let m : (s : SlotView) → with_id id rs ≡ Some s → meets_slot base s.pages (r ∷ dropped id rs) ≡ false = λ s h. ap (λ (ss : List SlotView). meets_slot base s.pages ss) (sym (cond-false (eqb r.id id) rs (r ∷ dropped id rs) e)) ∙ f s (cond-false (eqb r.id id) (Some r) (with_id id rs) e ∙ h) in (
          all_moved (LiesApart r) id base rs (λ s h. apart_sym (record s { base = base; invalid = false }) r (or_parts (meets (slot_span (record s { base = base; invalid = false })) (slot_span r)) (meets_slot base s.pages (dropped id rs)) (m s h)).0) a.0,
          ih (λ s h. (or_parts (meets (slot_span (record s { base = base; invalid = false })) (slot_span r)) (meets_slot base s.pages (dropped id rs)) (m s h)).1),
        )

-- ids
other_ids : (s : SlotView) (rs : List SlotView) → with_id s.id rs ≡ None → AllOf (HasOtherId s) rs
other_ids s [] e = tt
other_ids s (r ∷ rs) e = elim (cond_is (eqb r.id s.id) (Some r) (with_id s.id rs) None e) [
  | inl y ↦ absurd (none_is r (sym y.1))
  | inr y ↦ ((λ q. both_ways (eqb r.id s.id) y.0 (eq-eqb r.id s.id (sym q))), other_ids s rs y.1)
]

-- bound ranges
bound_all : (F : ℕ) (s : SlotView) (rs : List SlotView) → of_file F s.file ≡ true → meets_bound F s.index s.pages rs ≡ false → AllOf (λ r. of_file F r.file ≡ true → meets (bound_range s) (bound_range r) ≡ false) rs
bound_all F s [] e m = tt
bound_all F s (r ∷ rs) e m =
    let x = or_parts (of_file F r.file && meets (bound_range s) (bound_range r)) (meets_bound F s.index s.pages rs) m in
    ((λ h. in_and (of_file F r.file) (meets (bound_range s) (bound_range r)) x.0 h), bound_all F s rs e x.1)
  where
    in_and : (a b : Bool) → (a && b) ≡ false → a ≡ true → b ≡ false
    in_and a b h k = grind arith

no_bound : (s : SlotView) (rs : List SlotView) → s.file ≡ None → AllOf (IsBoundApart s) rs
no_bound s [] e = tt
no_bound s (r ∷ rs) e = ((λ F h k. absurd (both_ways (of_file F s.file) (ap (of_file F) e) h)), no_bound s rs e)

same_file : (F K : ℕ) (o : Option ℕ) → o ≡ Some K → of_file F o ≡ true → K ≡ F
same_file F K o e h = eqb-true K F (sym (ap (of_file F) e) ∙ h)

new_bound_apart : (s : SlotView) (rs : List SlotView) (o : Option ℕ) → s.file ≡ o → ((F : ℕ) → of_file F s.file ≡ true → meets_bound F s.index s.pages rs ≡ false) → AllOf (IsBoundApart s) rs
new_bound_apart s rs None e f = no_bound s rs e
new_bound_apart s rs (Some K) e f =
    let own : of_file K s.file ≡ true = ap (of_file K) e ∙ eq-eqb K K refl in
    all_map (λ r. of_file K r.file ≡ true → meets (bound_range s) (bound_range r) ≡ false) (IsBoundApart s) rs
    (λ r h F p q. h (subst (λ (x : ℕ). of_file x r.file ≡ true) (sym (same_file F K s.file e p)) q))
    (bound_all K s rs own (f K own))

shut_bound_apart : (F : ℕ) (r q : SlotView) → IsBoundApart r q → IsBoundApart (shut_slot F r) (shut_slot F q)
shut_bound_apart F r q h K a b = h K (still_file K F r.file a).0 (still_file K F q.file b).0

-- each entry
files_all : (f : Flat) (rs : List SlotView) → ((r : SlotView) → MemSlot r rs → (F : ℕ) → of_file F r.file ≡ true → (in_use F f.files ≡ true) × (has_memfd r ≡ true)) → AllOf (λ s. (F : ℕ) → of_file F s.file ≡ true → (in_use F f.files ≡ true) × (has_memfd s ≡ true)) rs
files_all f [] h = tt
files_all f (r ∷ rs) h = (h r (inl refl), files_all f rs (λ q m. h q (inr m)))

-- the parts that concern slots alone
pub record SlotsApart (rs : List SlotView) : Type 0 where
  pub ids : Pairwise HasOtherId rs
  pub lie : Pairwise LiesApart rs
  pub bound : Pairwise IsBoundApart rs

slots_effect : (e : Effect) (i : Ioctl) (h f : Flat) → Facts e i h f → SlotsApart f.slots → SlotsApart (apply e f).slots
slots_effect (Slot id base pages user flags file index) i h f x a =
    let s : SlotView = record { id = id; base = base; pages = pages; user = user; flags = flags; file = file; index = index; invalid = false } in
    cond_P (λ (z : Flat). SlotsApart z.slots) (slot_fits s) (record f { slots = s ∷ f.slots }) f
    (record { ids = (other_ids s f.slots x.3, a.ids); lie = (meets_all s f.slots x.4, a.lie); bound = (new_bound_apart s f.slots file refl x.5, a.bound) })
    a
slots_effect (NoSlot id) i h f x a = record { ids = pair_dropped HasOtherId id f.slots a.ids; lie = pair_dropped LiesApart id f.slots a.lie; bound = pair_dropped IsBoundApart id f.slots a.bound }
slots_effect (Mark id) i h f x a = record { ids = pair_marked HasOtherId id f.slots (λ r q k. (k, k)) a.ids; lie = pair_marked LiesApart id f.slots (λ r q k. (k, k)) a.lie; bound = pair_marked IsBoundApart id f.slots (λ r q k. (k, k)) a.bound }
slots_effect (Move id base) i h f x a =
    record {
      ids = pair_moved HasOtherId id base f.slots (λ r q b k. (k, k)) a.ids;
      lie = move_apart id base f.slots x.2 a.lie;
      bound = pair_moved IsBoundApart id base f.slots (λ r q b k. (k, k)) a.bound;
    }
slots_effect (Shut F) i h f x a = cond_P (λ (z : Flat). SlotsApart z.slots) (was_made F f.files) (record f { slots = shut_slots F f.slots; files = shut_files F f.files; cache = without_file F f.cache }) f
    (record { ids = pair_shut HasOtherId F f.slots (λ r q k. k) a.ids; lie = pair_shut LiesApart F f.slots (λ r q k. k) a.lie; bound = pair_shut IsBoundApart F f.slots (shut_bound_apart F) a.bound })
    a
slots_effect (Attr span kind) i h f x a = a
slots_effect (Cut F lo hi) i h f x a = a
slots_effect (File file pages block) i h f x a = a
slots_effect (Word page word value) i h f x a = a

apart_keep : (o : Orders) (t : ℕ) (w : What) (a : Actor) (past : List Entry) → Locks o.setup past → May o w a past → SlotsApart (flat past).slots → SlotsApart (flat (by t a w ∷ past)).slots
apart_keep o t (Change e) (Caller d) past k m s = let y = changer e d past (call d past) k refl (can_change o.setup e past (call d past) (bracket d past) m) in slots_effect e y.0.ioctl (flat_at y.0.judged past) (flat past) y.2 s
apart_keep o t (Change e) (Vcpu v) past k m s = absurd m
apart_keep o t w a past k m s = subst SlotsApart (sym (same_state t w a past refl).0) s

slots_apart : (o : Orders) (past : List Entry) → Follows o past → SlotsApart (flat past).slots
slots_apart o [] r = record { ids = tt; lie = tt; bound = tt }
slots_apart o (e ∷ past) r = apart_keep o e.turn e.what e.actor past (locks o past r.1) r.0.may (slots_apart o past r.1)

-- the file that a call in progress adds pages to is in use
abbrev PagedUse : Setup → List Entry → Type 0
PagedUse s past = (c : ℕ) (x : Call) (p : PagePlan) → call c past ≡ Some x → plan s x.ioctl (flat_at x.judged past) ≡ Paged p → in_use p.file (flat past).files ≡ true

used_slots : (f : Flat) → SlotFiles f → FilesUsed f
used_slots f s r F m e = (s r F m e).0

paged_fits : (s : Setup) (i : Ioctl) (f : Flat) (p : PagePlan) → plan s i f ≡ Paged p → Fits i f (Paged p)
paged_fits s i f p e = subst (λ (z : Plan). Fits i f z) e (fits s i f)

paged_takes : (s : Setup) (i : Ioctl) (f : Flat) (p : PagePlan) → SlotFiles f → plan s i f ≡ Paged p → takes (FileLock p.file) i f ≡ true
paged_takes s i f p sf e = let y = paged_fits s i f p e in and_from (takes_file p.file i f) (in_use p.file f.files) y.0 (y.1 (used_slots f sf))

change_paged : (s : Setup) (e : Effect) (past : List Entry) (x : Call) (b : Option Bracket) (p : PagePlan) → ChangeIn s e past x b → plan s x.ioctl (flat_at x.judged past) ≡ Paged p → ⊥
change_paged s e past x None p m q = clash m.1.0 (sym m.1.1 ∙ q)
  where
    clash : (n : ℕ) → Short e n ≡ Paged p → ⊥
    clash n e = cc
change_paged s e past x (Some b) p m q = clash m.1.0 (sym m.1.1 ∙ q)
  where
    clash : (ss : List Extent) → Bracketed e ss ≡ Paged p → ⊥
    clash ss e = cc

mark_paged : (s : Setup) (e : Effect) (past : List Entry) (x : Call) (b : Option Bracket) (p : PagePlan) → MarkIn s e past x b → plan s x.ioctl (flat_at x.judged past) ≡ Paged p → ⊥
mark_paged s e past x None p m q = m
mark_paged s e past x (Some b) p m q = clash m.1.0 m.1.1 (sym m.1.2 ∙ q)
  where
    clash : (f : Effect) (ss : List Extent) → Bracketed f ss ≡ Paged p → ⊥
    clash f ss e = cc

not_paged : (s : Setup) (e : Effect) (past : List Entry) (x : Call) (b : Option Bracket) (p : PagePlan) → ((is_mark e ≡ false) × ChangeIn s e past x b) ⊎ MarkIn s e past x b → plan s x.ioctl (flat_at x.judged past) ≡ Paged p → ⊥
not_paged s e past x b p (inl m) q = change_paged s e past x b p m.1 q
not_paged s e past x b p (inr m) q = mark_paged s e past x b p m q

own_paged : (s : Setup) (e : Effect) (past : List Entry) (d : ℕ) (o : Option Call) (b : Option Bracket) (y : Call) (p : PagePlan) → call d past ≡ o → CanChange s e past o b → call d past ≡ Some y → plan s y.ioctl (flat_at y.judged past) ≡ Paged p → ⊥
own_paged s e past d None b y p eo m ey q = m
own_paged s e past d (Some x) b y p eo m ey q =
    let same : x ≡ y = some_same x y (sym eo ∙ ey) in
    not_paged s e past x b p m.1 (subst (λ (z : Call). plan s z.ioctl (flat_at z.judged past) ≡ Paged p) (sym same) q)

old_plan_is : (s : Setup) (t : ℕ) (w : What) (a : Actor) (past : List Entry) (x y : Call) (p : PagePlan) → y.judged < length past → y.judged ≡ x.judged → y.ioctl ≡ x.ioctl → plan s x.ioctl (flat_at x.judged (by t a w ∷ past)) ≡ Paged p → plan s y.ioctl (flat_at y.judged past) ≡ Paged p
old_plan_is s t w a past x y p lt e f q = ap (λ (i : Ioctl). plan s i (flat_at y.judged past)) f ∙ (ap (λ (z : Flat). plan s x.ioctl z) (sym (then_same t w a past x y lt e)) ∙ q)

use_cons : (t u : Bool) → u ≡ true → cond t true u ≡ true
use_cons t u e = grind arith

in_use_or : (F : ℕ) (e : Effect) (i : Ioctl) (h f : Flat) → Facts e i h f → in_use F f.files ≡ true → (in_use F (apply e f).files ≡ true) ⊎ (takes (FileLock F) i h ≡ true)
in_use_or F (Shut K) i h f x u = elim (cases_eq K F) [
  | inl y ↦ inr (subst (λ (z : ℕ). takes (FileLock z) i h ≡ true) y x.1)
  | inr y ↦ inl (cond_P (λ (z : Flat). in_use F z.files ≡ true) (was_made K f.files) (record f { slots = shut_slots K f.slots; files = shut_files K f.files; cache = without_file K f.cache }) f (in_use-shut F K f.files y ∙ u) u)
]
in_use_or F (File file pages block) i h f x u = inl (use_cons (eqb file F) (in_use F f.files) u)
in_use_or F (Slot id base pages user flags file index) i h f x u =
    let s : SlotView = record { id = id; base = base; pages = pages; user = user; flags = flags; file = file; index = index; invalid = false } in
    inl (cond_P (λ (z : Flat). in_use F z.files ≡ true) (slot_fits s) (record f { slots = s ∷ f.slots }) f u u)
in_use_or F (Mark id) i h f x u = inl u
in_use_or F (NoSlot id) i h f x u = inl u
in_use_or F (Move id base) i h f x u = inl u
in_use_or F (Attr span kind) i h f x u = inl u
in_use_or F (Cut K lo hi) i h f x u = inl u
in_use_or F (Word page word value) i h f x u = inl u

new_use : (o : Orders) (t : ℕ) (i : Ioctl) (d : ℕ) (past : List Entry) (x : Call) (p : PagePlan) → Locks o.setup past → x.judged ≡ length past → plan o.setup x.ioctl (flat_at x.judged (by t (Caller d) (Judge i) ∷ past)) ≡ Paged p → in_use p.file (flat past).files ≡ true
new_use o t i d past x p k e q =
    let f : plan o.setup x.ioctl (flat past) ≡ Paged p = ap (λ (z : Flat). plan o.setup x.ioctl z) (sym (new_then t (Judge i) (Caller d) past x e)) ∙ q in
    (paged_fits o.setup x.ioctl (flat past) p f).1 (used_slots (flat past) (subst SlotFiles (flat_at_all past) (k.files_at (length past))))

paged_keep : (o : Orders) (t : ℕ) (w : What) (a : Actor) (past : List Entry) → Locks o.setup past → May o w a past → PagedUse o.setup past → PagedUse o.setup (by t a w ∷ past)
paged_keep o t (Change e) (Caller d) past k m u = λ c x p ec q.
    elim (inverted t (Change e) (Caller d) past c x ec) [
      | inl n ↦ absurd n
      | inr y ↦
          let old : plan o.setup y.0.ioctl (flat_at y.0.judged past) ≡ Paged p = old_plan_is o.setup t (Change e) (Caller d) past x y.0 p (k.call_lt c y.0 y.1) y.2 y.3 q in
          let can = can_change o.setup e past (call d past) (bracket d past) m in
          elim (cases_eq d c) [
            | inl same ↦ absurd (own_paged o.setup e past d (call d past) (bracket d past) y.0 p refl can (ap (λ (z : ℕ). call z past) same ∙ y.1) old)
            | inr ne ↦
                let z = changer e d past (call d past) k refl can in
                elim (in_use_or p.file e z.0.ioctl (flat_at z.0.judged past) (flat past) z.2 (u c y.0 p y.1 old)) [
                  | inl v ↦ v
                  | inr lock ↦ absurd (both_ways (takes (FileLock p.file) y.0.ioctl (flat_at y.0.judged past)) (k.apart d c z.0 y.0 (FileLock p.file) ne z.1 y.1 lock) (paged_takes o.setup y.0.ioctl (flat_at y.0.judged past) p (k.files_at y.0.judged) old))
                ]
          ]
    ]
paged_keep o t (Change e) (Vcpu v) past k m u = absurd m
paged_keep o t (Judge i) (Vcpu v) past k m u = absurd m
paged_keep o t (Judge i) (Caller d) past k m u = λ c x p ec q.
    elim (inverted t (Judge i) (Caller d) past c x ec) [
      | inl n ↦ new_use o t i d past x p k n.1 q
      | inr y ↦ u c y.0 p y.1 (old_plan_is o.setup t (Judge i) (Caller d) past x y.0 p (k.call_lt c y.0 y.1) y.2 y.3 q)
    ]
paged_keep o t w a past k m u = λ c x p ec q.
    elim (inverted t w a past c x ec) [
      | inl n ↦ absurd (no_new w a c x past refl n)
      | inr y ↦ ap (λ (fs : List FileState). in_use p.file fs) (same_state t w a past refl).2 ∙ u c y.0 p y.1 (old_plan_is o.setup t w a past x y.0 p (k.call_lt c y.0 y.1) y.2 y.3 q)
    ]

paged_use : (o : Orders) (past : List Entry) → Follows o past → PagedUse o.setup past
paged_use o [] r = λ c x p e. absurd (none_is x e)
paged_use o (e ∷ past) r = paged_keep o e.turn e.what e.actor past (locks o past r.1) r.0.may (paged_use o past r.1)

-- what is added goes to a file in use
abbrev AddsToUsed : Option Addition → Flat → Type 0
AddsToUsed None f = Unit {0}
AddsToUsed (Some d) f = in_use d.file f.files ≡ true

none_used : (d : Option Addition) (f : Flat) → d ≡ None → AddsToUsed d f
none_used d f e = subst (λ (x : Option Addition). AddsToUsed x f) (sym e) tt

made_used : (b : Backing) (fresh F i : ℕ) (f : Flat) (d : Option Addition) → get_addition b fresh (Some F) (Some i) f.files ≡ d → in_use F f.files ≡ true → AddsToUsed d f
made_used b fresh F i f None e u = tt
made_used (User x) fresh F i f (Some d) e u = absurd (none_is d e)
made_used (InFolio fo) fresh F i f (Some d) e u = ap (λ (K : ℕ). in_use K f.files) (get_made fo fresh F i f.files d e).file_is ∙ u

file_used : (b : Backing) (fresh : ℕ) (F I : Option ℕ) (f : Flat) → FileGet b fresh F I f → AddsToUsed (get_addition b fresh F I f.files) f
file_used b fresh (Some F) (Some i) f g = made_used b fresh F i f (get_addition b fresh (Some F) (Some i) f.files) refl g.0
file_used b fresh (Some F) None f g = absurd g
file_used b fresh None I f g = absurd g

route_used : (r : Route) (b : Backing) (fresh : ℕ) (a : Aim) (l : Seen) (past : List Entry) → GetBy r b fresh a l past → AddsToUsed (get_addition b fresh l.file (index_in a.page (looked_slot l past)) (flat past).files) (flat past)
route_used ToUser b fresh a l past g = none_used (get_addition b fresh l.file (index_in a.page (looked_slot l past)) (flat past).files) (flat past) (user_none b fresh a.page (looked_slot l past) l.file (index_in a.page (looked_slot l past)) (flat past).files g)
route_used ToFile b fresh a l past g = file_used b fresh l.file (index_in a.page (looked_slot l past)) (flat past) g
route_used ToAgain b fresh a l past g = absurd g
route_used ToFault b fresh a l past g = absurd g
route_used ToMmio b fresh a l past g = absurd g

get_used : (b : Backing) (fresh : ℕ) (x : Fault) (past : List Entry) → IsLooked x → RightGet b fresh past x → AddsToUsed (get_adds b fresh x (states past)) (flat past)
get_used b fresh (Faulting a m (Some s) (Some l) None) past i g = route_used (route_seen a l past) b fresh a l past g
get_used b fresh (Faulting a m (Some s) (Some l) (Some q)) past i g = absurd i
get_used b fresh (Faulting a m (Some s) None q) past i g = absurd i
get_used b fresh (Faulting a m None l q) past i g = absurd i
get_used b fresh NoFault past i g = absurd i

paged_used : (frames i : ℕ) (x : Call) (plan : Plan) (a : Option Addition) (f : Flat) → IsPage i x plan f → PageAdds frames plan a f → ((p : PagePlan) → plan ≡ Paged p → in_use p.file f.files ≡ true) → AddsToUsed a f
paged_used frames i x (Paged p) (Some d) f page h u = ap (λ (K : ℕ). in_use K f.files) h.0 ∙ u p refl
paged_used frames i x (Paged p) None f page h u = tt
paged_used frames i x (Refused r) a f page h u = absurd page
paged_used frames i x (Same r) a f page h u = absurd page
paged_used frames i x (Reads p w) a f page h u = absurd page
paged_used frames i x (Short r w) a f page h u = absurd page
paged_used frames i x (Bracketed r w) a f page h u = absurd page

page_used : (o : Orders) (c i : ℕ) (fo : Folio) (n : ℕ) (past : List Entry) (x : Option Call) → call c past ≡ x → PagedUse o.setup past → RightPage o.setup i x past → RightPageAdds o.setup x (page_adds i fo n x (states past)) past → AddsToUsed (page_adds i fo n x (states past)) (flat past)
page_used o c i fo n past None e u page h = absurd page
page_used o c i fo n past (Some x) e u page h = paged_used o.setup.frames i x (plan_of o.setup x past) (page_adds i fo n (Some x) (states past)) (flat past) page h (λ p r. u c x p e r)

-- what is cached is cached in a file in use
abbrev CachedUsed : Flat → Type 0
CachedUsed f = (F i : ℕ) (fo : Folio) → cached F i f.cache ≡ Some fo → in_use F f.files ≡ true

run_file : (n K j F i s r : ℕ) (fo : Folio) (ts : List Triple) → cached K j (with_run n F i s r ts) ≡ Some fo → (cached K j ts ≡ Some fo) ⊎ (F ≡ K)
run_file zero K j F i s r fo ts h = inl h
run_file (suc k) K j F i s r fo ts h =
    elim (cond_is (eqb F K && eqb (i + k) j) (Some (record { serial = s + k; frame = r + k })) (cached K j (with_run k F i s r ts)) (Some fo) h) [
      | inl y ↦ inr (eqb-true F K (and_parts (eqb F K) (eqb (i + k) j) y.0).0)
      | inr y ↦ run_file k K j F i s r fo ts y.1
    ]

add_used : (o : Option Addition) (f : Flat) → AddsToUsed o f → CachedUsed f → CachedUsed (add o f)
add_used None f u c = c
add_used (Some d) f u c = λ F i fo h. elim (run_file d.pages F i d.file d.index d.serial d.frame fo f.cache h) [
  | inl y ↦ c F i fo y
  | inr y ↦ ap (λ (K : ℕ). in_use K f.files) (sym y) ∙ u
]

effect_used : (e : Effect) (f : Flat) → CachedUsed f → CachedUsed (apply e f)
effect_used (Cut F lo hi) f c = λ K i fo h. c K i fo (effect_cached (Cut F lo hi) f K i fo h)
effect_used (Shut F) f c = cond_P CachedUsed (was_made F f.files) (record f { slots = shut_slots F f.slots; files = shut_files F f.files; cache = without_file F f.cache }) f
    (λ K i fo h. elim (cases_eq F K) [
      | inl e ↦ absurd (shut_none K i F f.cache fo (eq-eqb K F (sym e)) h)
      | inr ne ↦ in_use-shut K F f.files ne ∙ c K i fo (cached_shut K i F f.cache fo h)
    ])
    c
effect_used (Slot id base pages user flags file index) f c =
    let s : SlotView = record { id = id; base = base; pages = pages; user = user; flags = flags; file = file; index = index; invalid = false } in
    cond_P CachedUsed (slot_fits s) (record f { slots = s ∷ f.slots }) f c c
effect_used (Mark id) f c = c
effect_used (NoSlot id) f c = c
effect_used (Move id base) f c = c
effect_used (Attr span kind) f c = c
effect_used (File file pages block) f c = λ K i fo h. use_cons (eqb file K) (in_use K f.files) (c K i fo h)
effect_used (Word page word value) f c = c

cached_keep : (o : Orders) (t : ℕ) (w : What) (a : Actor) (past : List Entry) → PagedUse o.setup past → May o w a past → CachedUsed (flat past) → CachedUsed (flat (by t a w ∷ past))
cached_keep o t (Get b n) (Vcpu v) past u m c = add_used (adds (Get b n) (Vcpu v) past (states past)) (flat past) (get_used b n (fault v past) past m.0 m.1) c
cached_keep o t (Get b n) (Caller d) past u m c = absurd m
cached_keep o t (Page i fo n) (Caller d) past u m c = add_used (adds (Page i fo n) (Caller d) past (states past)) (flat past) (page_used o d i fo n past (call d past) refl u m.1 m.2) c
cached_keep o t (Page i fo n) (Vcpu v) past u m c = absurd m
cached_keep o t (Change e) a past u m c = effect_used e (flat past) c
cached_keep o t w a past u m c = c

cached_used : (o : Orders) (past : List Entry) → Follows o past → CachedUsed (flat past)
cached_used o [] r = λ F i fo e. absurd (none_is fo e)
cached_used o (e ∷ past) r = cached_keep o e.turn e.what e.actor past (paged_use o past r.1) r.0.may (cached_used o past r.1)

slots_stand_by : (o : Orders) (past : List Entry) → Follows o past → SlotsStand (flat past)
slots_stand_by o past r =
    let a = slots_apart o past r in
    let k = locks o past r in
    record {
      ids_differ = a.ids;
      lie_apart = a.lie;
      bound_apart = a.bound;
      files_in_use = files_all (flat past) (flat past).slots (λ s m F e. (subst SlotFiles (flat_at_all past) (k.files_at (length past))) s F m e);
      cached_in_use = cached_used o past r;
    }

pub slots_now : (o : Orders) (past : List Entry) → Right o past → SlotsStand (flat past)
slots_now o past r = slots_stand_by o past (ruled o past r).follows

pub slots_then : (o : Orders) (e : Entry) (before past : List Entry) → Right o past → Stands e before past → SlotsStand (flat before)
slots_then o e before past r s = slots_stand_by o before (front_follows o e before past s (ruled o past r).follows).1
