-- What each entry leaves of names, looks and staleness.
use Rattle.std.proofs.Common.{◌&&◌, ◌+◌, ltb, ◌<◌, Bool, List, None, Option, Some, [], ap, arith, cond, eqb, eqb-true, false, inl, inr, le-leb, leb, length, not, refl, subst, sym, true, ℕ, ◌∙◌, ◌∷◌, ◌≡◌, ◌≤◌, ◌⊎◌, ◌||◌}
use Rattle.std.proofs.lemmas.Bool.{both_ways, cases_Bool, cond-true, or_left, or_right}
use Rattle.std.proofs.lemmas.Bool.Decides.{nat_tests}
use Rattle.gm_base.specs.Aim.{Aim}
use Rattle.gm_base.specs.Extent.{Extent}
use Rattle.gm_base.specs.Scripts.{Orders}
use Rattle.gm_base.specs.Values.{permits}
use Rattle.gm_base.specs.declared.numbers.TheConstants.{KVM_MEM_READONLY}
use Rattle.gm_base.specs.declared.values.Actor.{Actor}
use Rattle.gm_base.specs.declared.values.Actor.TheVariants.{Caller, Vcpu}
use Rattle.gm_base.specs.declared.values.Folio.{Folio}
use Rattle.gm_base.specs.declared.values.Kind.{Kind}
use Rattle.gm_base.specs.declared.values.Kind.TheVariants.{Private, Shared}
use Rattle.gm_base.specs.declared.values.Op.{Op}
use Rattle.gm_base.specs.declared.values.Op.TheVariants.{Read, Write}
use Rattle.gm_flat.specs.Attribute.{attr_of}
use Rattle.gm_flat.specs.Effects.{Addition, add, get_addition}
use Rattle.gm_flat.specs.FlatState.{Flat, cached, has_flag}
use Rattle.gm_flat.specs.Histories.{Faulting, Seen, call, fault}
use Rattle.gm_flat.specs.Invalidation.{count, ended, ended_step, hull, in_hull, stale, widened}
use Rattle.gm_flat.specs.NamedPage.{Named, file_named, folio_named, named, named_aside, named_by, unmarked, user_named}
use Rattle.gm_flat.specs.Replay.{adds, flat, flat_at, get_adds, index_in, looked_slot, slot_by, states}
use Rattle.gm_flat.specs.RightInstall.{GetBy, RightGet, UserGet}
use Rattle.gm_flat.specs.RightLives.{GetAdds, RightGetAdds}
use Rattle.gm_flat.specs.RightLook.{Route, is_marked, ToAgain, ToFault, ToFile, ToMmio, ToUser, file_of, route_seen}
use Rattle.gm_flat.specs.RightTouch.{CanUse}
use Rattle.gm_flat.specs.Slots.{index_of, lies_over, user_page_of}
use Rattle.gm_flat.specs.declared.effect.Backing.{Backing}
use Rattle.gm_flat.specs.declared.effect.Backing.TheVariants.{Folio as InFolio, User}
use Rattle.gm_flat.specs.declared.entry.Entry.{Entry}
use Rattle.gm_flat.specs.declared.entry.What.{What}
use Rattle.gm_flat.specs.declared.entry.What.TheVariants.{Begin, Change, End, Get, Page}
use Rattle.gm_flat.specs.declared.views.SlotView.{SlotView}
use Rattle.gm_laws.proofs.Adds.{FileHas, Looks, add_look, add_names, file_get, get_free, page_free, user_none}
use Rattle.gm_laws.proofs.Flats.{named_with, over}
use Rattle.gm_laws.proofs.Good.{Grows, HullNone, LookOk, LooksSince, SameLook}
use Rattle.gm_laws.proofs.Ids.{IdsAt, by_id_of, over_mem}
use Rattle.gm_laws.proofs.Kit.{by, widened_keeps}
use Rattle.gm_laws.proofs.Routes.{file_open, route_file, route_user, user_open}
use Rattle.gm_laws.specs.May.{May}

abbrev pub is_change : What → Bool
is_change (Change e) = true
is_change _ = false

grow_with : (U : Option SlotView → Option SlotView) (o : Orders) (t : ℕ) (w : What) (a : Actor) (past : List Entry) → is_change w ≡ false → May o w a past → (g : ℕ) (m : Named) → named_with U (flat past) g ≡ Some m → named_with U (flat (by t a w ∷ past)) g ≡ Some m
grow_with U o t (Get b k) (Vcpu v) past e may g m x = add_names U (adds (Get b k) (Vcpu v) past (states past)) (flat past) g m (get_free b k o.setup.frames (fault v past) past may.0 may.1 may.2) x
grow_with U o t (Get b k) (Caller c) past e may g m x = absurd may
grow_with U o t (Page i fo k) (Caller c) past e may g m x = add_names U (adds (Page i fo k) (Caller c) past (states past)) (flat past) g m (page_free o.setup i fo k (call c past) past may.1 may.2) x
grow_with U o t (Page i fo k) (Vcpu v) past e may g m x = absurd may
grow_with U o t (Change effect) a past e may g m x = absurd (both_ways true e refl)
grow_with U o t w a past e may g m x = x

pub grow : (o : Orders) (t : ℕ) (w : What) (a : Actor) (past : List Entry) → is_change w ≡ false → May o w a past → Grows (by t a w) past
grow o t w a past e may = grow_with unmarked o t w a past e may

-- with marks left aside too
pub grow_aside : (o : Orders) (t : ℕ) (w : What) (a : Actor) (past : List Entry) → is_change w ≡ false → May o w a past → (g : ℕ) (m : Named) → named_aside (flat past) g ≡ Some m → named_aside (flat (by t a w ∷ past)) g ≡ Some m
grow_aside o t w a past e may = grow_with (λ r. r) o t w a past e may

-- slots, attributes and files stay but for changes
pub same_state : (t : ℕ) (w : What) (a : Actor) (past : List Entry) → is_change w ≡ false → Looks (flat (by t a w ∷ past)) (flat past)
same_state t (Get b k) a past e = add_look (adds (Get b k) a past (states past)) (flat past)
same_state t (Page i fo k) a past e = add_look (adds (Page i fo k) a past (states past)) (flat past)
same_state t (Change effect) a past e = absurd (both_ways true e refl)
same_state t w a past e = (refl, refl, refl)

pub same_look : (t : ℕ) (w : What) (a : Actor) (past : List Entry) → is_change w ≡ false → SameLook (by t a w) past
same_look t w a past e = let x = same_state t w a past e in (x.0, x.1)

-- a stale page stays stale
stale_begin : (x n g : Bool) → (x || n) ≡ true → (n ≡ true → g ≡ true) → (x || g) ≡ true
stale_begin x n g e f = grind arith

pub hull_begin : (n g : ℕ) (h : Option Extent) (ss : List Extent) → (n ≡ 0 → h ≡ None) → in_hull g h ≡ true → in_hull g (widened (cond (eqb n 0) None h) ss) ≡ true
hull_begin n g h ss f e =
    elim (cases_Bool (eqb n 0)) [
      | inl y ↦ absurd (both_ways (in_hull g h) (ap (λ (o : Option Extent). in_hull g o) (f (eqb-true n 0 y))) e)
      | inr y ↦ widened_keeps g ss (cond (eqb n 0) None h) (rw y e)
    ]

pub stale_keep : (t s g : ℕ) (w : What) (a : Actor) (past : List Entry) → HullNone past → s ≤ length past → stale (Some s) g past ≡ true → stale (Some s) g (by t a w ∷ past) ≡ true
stale_keep t s g (Begin spans) a past none le e = stale_begin (ended s past) (in_hull g (hull past)) (in_hull g (widened (cond (eqb (count past) 0) None (hull past)) spans.list)) e (hull_begin (count past) g (hull past) spans.list none)
stale_keep t s g End a past none le e = or_left (leb s (length past) || ended s past) (in_hull g (cond (leb (count past) 1) None (hull past))) (or_left (leb s (length past)) (ended s past) (le-leb s (length past) le))
stale_keep t s g w a past none le e = e

ended_step-mono : (s k n : ℕ) (w : What) (x y : Bool) → s ≤ k → (x ≡ true → y ≡ true) → ended_step k w n x ≡ true → ended_step s w n y ≡ true
ended_step-mono s k n End x y h f e = both s k n x y h f e
  where
    both : (s k n : ℕ) (x y : Bool) → s ≤ k → (x ≡ true → y ≡ true) → (leb k n || x) ≡ true → (leb s n || y) ≡ true
    both s k n x y h f e = grind (arith, nat_tests)
ended_step-mono s k n _ x y h f e = f e

pub ended-mono : (s k : ℕ) (past : List Entry) → s ≤ k → ended k past ≡ true → ended s past ≡ true
ended-mono s k [] h e = e
ended-mono s k (x ∷ past) h e = ended_step-mono s k (length past) x.what (ended k past) (ended s past) h (ended-mono s k past h) e

pub stale_since : (s k g : ℕ) (past : List Entry) → s ≤ k → (ended k past ≡ true) ⊎ (in_hull g (hull past) ≡ true) → stale (Some s) g past ≡ true
stale_since s k g past le (inl x) = or_left (ended s past) (in_hull g (hull past)) (ended-mono s k past le x)
stale_since s k g past le (inr x) = or_right (ended s past) (in_hull g (hull past)) x

-- what a get gives is named right after it, or its page is stale
abbrev pub GotUse : ℕ → Aim → Backing → Flat → List Entry → Type 0
GotUse s a b f past = (stale (Some s) a.page past ≡ true) ⊎ CanUse a b (named f a.page)

-- the slot that a fault looked up is the one over its page
pub looked_over : (a : Aim) (s : ℕ) (l : Seen) (past : List Entry) → IdsAt past → LookOk a s l past → looked_slot l past ≡ over a.page (flat_at l.at past).slots
looked_over a s l past ids ok =
    cond-true (leb l.at l.place) (slot_by l.slot (flat_at l.at past).slots) None (le-leb l.at l.place ok.at_le)
    ∙ (ap (λ (o : Option ℕ). slot_by o (flat_at l.at past).slots) ok.slot_is ∙ by_id_of a.page (flat_at l.at past).slots (over a.page (flat_at l.at past).slots) (ids l.at) refl)

user_use : (a : Aim) (b : Backing) (s : SlotView) → a.kind ≡ Shared → permits (not (has_flag KVM_MEM_READONLY s.flags)) a.op ≡ true → b ≡ User (user_page_of s a.page) → CanUse a b (user_named a.page (Some s))
user_use a b s k p e = (sym k, sym e, p)

user_backing : (b : Backing) (n page : ℕ) (o : Option SlotView) (s : SlotView) → o ≡ Some s → UserGet b n page o → b ≡ User (user_page_of s page)
user_backing b n page o s e g = (subst (λ (x : Option SlotView). UserGet b n page x) e g).0

-- a slot that isn't marked stays
unmarked_one : (r : SlotView) → r.invalid ≡ false → unmarked (Some r) ≡ Some r
unmarked_one r e = rw e refl

user_ok : (b : Backing) (n s : ℕ) (a : Aim) (l : Seen) (r : SlotView) (past : List Entry) → LooksSince past → LookOk a s l past → over a.page (flat_at l.at past).slots ≡ Some r → r.invalid ≡ false → l.attr ≡ Shared → a.kind ≡ Shared → permits (not (has_flag KVM_MEM_READONLY r.flags)) a.op ≡ true → b ≡ User (user_page_of r a.page) → GotUse s a b (flat past) past
user_ok b n s a l r past looks ok e clear k kind p g =
    elim (looks l.at a.page r (let x = ok.at_le in let y = ok.place_lt in omega arith) e) [
      | inl x ↦ inl (stale_since s l.at a.page past ok.sampled (inl x))
      | inr y ↦ elim y [
        | inl x ↦ inl (stale_since s l.at a.page past ok.sampled (inr x))
        | inr x ↦ inr (
            let now : named (flat past) a.page ≡ user_named a.page (Some r) =
            ap (λ (row : Option SlotView). named_by a.page (flat past).cache (attr_of a.page (flat past).attrs) (unmarked row)) x.0 ∙ (ap (λ (row : Option SlotView). named_by a.page (flat past).cache (attr_of a.page (flat past).attrs) row) (unmarked_one r clear) ∙ ap (λ (kind : Kind). named_by a.page (flat past).cache kind (Some r)) (x.1 ∙ (sym ok.attr_is ∙ k))) in
            subst (λ (o : Option Named). CanUse a b o) (sym now) (user_use a b r kind p g))
      ]
    ]

-- of a file's folio
has_folio : (b : Backing) (F i : ℕ) (f : Flat) → FileHas b (Some F) (Some i) f → (fo : Folio) × (b ≡ InFolio fo) × (cached F i f.cache ≡ Some fo)
has_folio (User u) F i f h = absurd h
has_folio (InFolio fo) F i f h = (fo, refl, h)

pub name_private : (f : Flat) (g F : ℕ) (r : SlotView) (fo : Folio) → over g f.slots ≡ Some r → r.invalid ≡ false → r.file ≡ Some F → attr_of g f.attrs ≡ Private → cached F (index_of r g) f.cache ≡ Some fo → named f g ≡ Some (record { kind = Private; backing = InFolio fo; writable = true })
name_private f g F r fo e clear q k c =
    ap (λ (row : Option SlotView). named_by g f.cache (attr_of g f.attrs) (unmarked row)) e ∙ (ap (λ (row : Option SlotView). named_by g f.cache (attr_of g f.attrs) row) (unmarked_one r clear) ∙ (ap (λ (kind : Kind). named_by g f.cache kind (Some r)) k ∙ (ap (λ (o : Option ℕ). file_named (index_of r g) f.cache o) q ∙ ap folio_named c)))

any_op : (op : Op) → permits true op ≡ true
any_op Read = refl
any_op (Write x) = refl

private_use : (a : Aim) (b : Backing) (fo : Folio) (o : Option Named) → a.kind ≡ Private → b ≡ InFolio fo → o ≡ Some (record { kind = Private; backing = InFolio fo; writable = true }) → CanUse a b o
private_use a b fo o k e n = subst (λ (x : Option Named). CanUse a b x) (sym n) (sym k, sym e, any_op a.op)

file_ok : (b : Backing) (s F : ℕ) (a : Aim) (l : Seen) (r : SlotView) (f : Flat) (past : List Entry) → LooksSince past → LookOk a s l past → over a.page (flat_at l.at past).slots ≡ Some r → r.invalid ≡ false → r.file ≡ Some F → l.attr ≡ Private → a.kind ≡ Private → Looks f (flat past) → FileHas b (Some F) (Some (index_of r a.page)) f → GotUse s a b f past
file_ok b s F a l r f past looks ok e clear q k kind same h =
    elim (looks l.at a.page r (let x = ok.at_le in let y = ok.place_lt in omega arith) e) [
      | inl x ↦ inl (stale_since s l.at a.page past ok.sampled (inl x))
      | inr y ↦ elim y [
        | inl x ↦ inl (stale_since s l.at a.page past ok.sampled (inr x))
        | inr x ↦ inr (
            let z = has_folio b F (index_of r a.page) f h in
            private_use a b z.0 (named f a.page) kind z.1 (name_private f a.page F r z.0 (ap (over a.page) same.0 ∙ x.0) clear q (ap (attr_of a.page) same.1 ∙ (x.1 ∙ (sym ok.attr_is ∙ k))) z.2))
      ]
    ]

-- of a slot over its page
open_slot : (o : Option SlotView) (r : SlotView) → o ≡ Some r → is_marked o ≡ false → r.invalid ≡ false
open_slot o r e h = sym (ap is_marked e) ∙ h

own_index : (g : ℕ) (r : SlotView) → lies_over r g ≡ true → index_in g (Some r) ≡ Some (index_of r g)
own_index g r h = let e : leb r.base (r.index + g) ≡ true = low r.base r.index r.pages g h in rw e refl
  where
    low : (base index pages g : ℕ) → (leb base g && ltb g (base + pages)) ≡ true → leb base (index + g) ≡ true
    low base index pages g h = grind (arith, nat_tests)

-- by its route
abbrev get_done : Backing → ℕ → Aim → Seen → List Entry → Option Addition
get_done b n a l past = get_addition b n l.file (index_in a.page (looked_slot l past)) (flat past).files

route_ok : (r : Route) (b : Backing) (n s frames : ℕ) (a : Aim) (l : Seen) (past : List Entry) → LooksSince past → IdsAt past → LookOk a s l past → route_seen a l past ≡ r → GetBy r b n a l past → (0 < n → GetAdds frames (index_in a.page (looked_slot l past)) (get_done b n a l past) (flat past)) → GotUse s a b (add (get_done b n a l past) (flat past)) past
route_ok ToUser b n s frames a l past looks ids ok e g adding =
    let u = route_user a l.attr (looked_slot l past) e in
    let row : over a.page (flat_at l.at past).slots ≡ Some u.2.0 = sym (looked_over a s l past ids ok) ∙ u.2.1 in
    subst (λ (x : Option Addition). GotUse s a b (add x (flat past)) past) (sym (user_none b n a.page (looked_slot l past) l.file (index_in a.page (looked_slot l past)) (flat past).files g))
    (user_ok b n s a l u.2.0 past looks ok row (open_slot (looked_slot l past) u.2.0 u.2.1 (user_open a l.attr (looked_slot l past) e)) u.1 u.0 u.2.2 (user_backing b n a.page (looked_slot l past) u.2.0 u.2.1 g))
route_ok ToFile b n s frames a l past looks ids ok e g adding =
    let u = route_file a l.attr (looked_slot l past) e in
    let row : over a.page (flat_at l.at past).slots ≡ Some u.2.0 = sym (looked_over a s l past ids ok) ∙ u.2.2 in
    let file : l.file ≡ Some u.2.1 = ok.file_is ∙ (ap file_of row ∙ u.2.3) in
    let has = (file_get b n frames l.file (index_in a.page (looked_slot l past)) (flat past) g adding).1 in
    let f : Flat = add (get_done b n a l past) (flat past) in
    file_ok b s u.2.1 a l u.2.0 f past looks ok row (open_slot (looked_slot l past) u.2.0 u.2.2 (file_open a l.attr (looked_slot l past) e)) u.2.3 u.1 u.0 (add_look (get_done b n a l past) (flat past))
    (subst (λ (i : Option ℕ). FileHas b (Some u.2.1) i f) (ap (index_in a.page) u.2.2 ∙ own_index a.page u.2.0 (over_mem a.page u.2.0 (flat_at l.at past).slots row).1) (subst (λ (F : Option ℕ). FileHas b F (index_in a.page (looked_slot l past)) f) file has))
route_ok ToAgain b n s frames a l past looks ids ok e g adding = absurd g
route_ok ToFault b n s frames a l past looks ids ok e g adding = absurd g
route_ok ToMmio b n s frames a l past looks ids ok e g adding = absurd g

pub get_ok : (b : Backing) (n s frames m : ℕ) (a : Aim) (l : Seen) (past : List Entry) → LooksSince past → IdsAt past → LookOk a s l past → RightGet b n past (Faulting a m (Some s) (Some l) None) → RightGetAdds frames n (Faulting a m (Some s) (Some l) None) (get_adds b n (Faulting a m (Some s) (Some l) None) (states past)) past → GotUse s a b (add (get_adds b n (Faulting a m (Some s) (Some l) None) (states past)) (flat past)) past
get_ok b n s frames m a l past looks ids ok g adding = route_ok (route_seen a l past) b n s frames a l past looks ids ok refl g adding
