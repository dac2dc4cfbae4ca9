-- The user pages and indexes of a history's slots are within their types.
use Rattle.std.proofs.Common.{◌≡◌, ℕ, ◌+◌, ◌-◌, ◌<◌, ◌≤◌, List, [], ◌∷◌, Bool, true, false, not, cond, eqb, ltb, Option, None, Some, refl, sym, ◌∙◌, ap, subst, arith}
use Rattle.std.proofs.lemmas.Bool.Decides.{nat_tests}
use Rattle.gm_base.specs.declared.numbers.TheConstants.{KVM_MEM_READONLY}
use Rattle.gm_base.specs.declared.values.Kind.{Kind}
use Rattle.gm_base.specs.declared.values.Kind.TheVariants.{Shared}
use Rattle.gm_flat.specs.declared.effect.Backing.TheVariants.{User}
use Rattle.gm_flat.specs.Attribute.{attr_of}
use Rattle.gm_flat.specs.NamedPage.{Named, named, named_by, unmarked, user_named}
use Rattle.gm_flat.specs.declared.effect.Effect.{Effect}
use Rattle.gm_flat.specs.declared.effect.Effect.TheVariants.{Slot, Mark, NoSlot, Move, Shut}
use Rattle.gm_flat.specs.declared.entry.Entry.{Entry}
use Rattle.gm_flat.specs.declared.views.SlotView.{SlotView}
use Rattle.gm_flat.specs.Effects.{U64_LIMIT, dropped, marked, moved, shut_files, shut_slots, slot_fits, without_file}
use Rattle.gm_flat.specs.FlatState.{Flat, has_flag, was_made}
use Rattle.gm_flat.specs.Replay.{states, flat}
use Rattle.gm_flat.specs.Replayed.{AllFit, applied, change_in, within}
use Rattle.gm_flat.specs.Slots.{slot_over, lies_over, index_of}
use Rattle.gm_flat.proofs.Replays.{change_slots}

dropped_step : (b : Bool) (s : SlotView) (slots rest : List SlotView) → slot_fits s ≡ true → AllFit slots → AllFit rest → AllFit (cond b slots (s ∷ rest))
dropped_step true s slots rest e h k = h
dropped_step false s slots rest e h k = (e, k)

dropped_fit : (id : ℕ) (slots : List SlotView) → AllFit slots → AllFit (dropped id slots)
dropped_fit id [] h = tt
dropped_fit id (s ∷ slots) h = dropped_step (eqb s.id id) s slots (dropped id slots) h.0 h.1 (dropped_fit id slots h.1)

moved_step : (b : Bool) (base : ℕ) (s : SlotView) (slots rest : List SlotView) → slot_fits s ≡ true → AllFit slots → AllFit rest → AllFit (cond b (record s { base = base; invalid = false } ∷ slots) (s ∷ rest))
moved_step true base s slots rest e h k = (e, h)
moved_step false base s slots rest e h k = (e, k)

moved_fit : (id base : ℕ) (slots : List SlotView) → AllFit slots → AllFit (moved id base slots)
moved_fit id base [] h = tt
moved_fit id base (s ∷ slots) h = moved_step (eqb s.id id) base s slots (moved id base slots) h.0 h.1 (moved_fit id base slots h.1)

marked_step : (b : Bool) (s : SlotView) (slots rest : List SlotView) → slot_fits s ≡ true → AllFit slots → AllFit rest → AllFit (cond b (record s { invalid = true } ∷ slots) (s ∷ rest))
marked_step true s slots rest e h k = (e, h)
marked_step false s slots rest e h k = (e, k)

marked_fit : (id : ℕ) (slots : List SlotView) → AllFit slots → AllFit (marked id slots)
marked_fit id [] h = tt
marked_fit id (s ∷ slots) h = marked_step (eqb s.id id) s slots (marked id slots) h.0 h.1 (marked_fit id slots h.1)

shut_fit : (file : ℕ) (slots : List SlotView) → AllFit slots → AllFit (shut_slots file slots)
shut_fit file [] h = tt
shut_fit file (s ∷ slots) h = (h.0, shut_fit file slots h.1)

made_step : (b : Bool) (s : SlotView) (f : Flat) → slot_fits s ≡ b → AllFit f.slots → AllFit (cond b (record f { slots = s ∷ f.slots }) f).slots
made_step true s f e h = (e, h)
made_step false s f e h = h

shut_step : (b : Bool) (x y : Flat) → AllFit x.slots → AllFit y.slots → AllFit (cond b x y).slots
shut_step true x y h k = h
shut_step false x y h k = k

applied_fit : (x : Option Effect) (f : Flat) → AllFit f.slots → AllFit (applied x f).slots
applied_fit None f h = h
applied_fit (Some (Slot slot base pages user flags file index)) f h =
    let s : SlotView = record { id = slot; base = base; pages = pages; user = user; flags = flags; file = file; index = index; invalid = false } in
    made_step (slot_fits s) s f refl h
applied_fit (Some (Mark slot)) f h = marked_fit slot f.slots h
applied_fit (Some (NoSlot slot)) f h = dropped_fit slot f.slots h
applied_fit (Some (Move slot base)) f h = moved_fit slot base f.slots h
applied_fit (Some (Shut file)) f h =
    shut_step (was_made file f.files) (record f { slots = shut_slots file f.slots; files = shut_files file f.files; cache = without_file file f.cache }) f (shut_fit file f.slots h) h
applied_fit (Some _) f h = h

pub flat_fit : (past : List Entry) → AllFit (flat past).slots
flat_fit [] = tt
flat_fit (e ∷ past) =
    subst (λ (l : List SlotView). AllFit l) (sym (change_slots e.what e.actor past (states past))) (applied_fit (change_in e.what) (flat past) (flat_fit past))

-- the slot over a page
pub record Over (s : SlotView) (page : ℕ) : Type 0 where
  pub fits : slot_fits s ≡ true
  pub over : lies_over s page ≡ true

over_step : (b : Bool) (t s : SlotView) (page : ℕ) (rest : Option SlotView) → lies_over t page ≡ b → slot_fits t ≡ true → (rest ≡ Some s → Over s page) → cond b (Some t) rest ≡ Some s → Over s page
over_step true t s page rest over fits h e =
    let same : t ≡ s = cc in
    subst (λ (x : SlotView). Over x page) same (record { fits = fits; over = over })
over_step false t s page rest over fits h e = h e

found_over : (slots : List SlotView) (page : ℕ) (s : SlotView) → AllFit slots → slot_over slots page ≡ Some s → Over s page
found_over [] page s h e = absurd (none s e)
  where
    none : (s : SlotView) → None ≡ Some s → ⊥
    none s e = cc
found_over (t ∷ slots) page s h e =
    over_step (lies_over t page) t s page (slot_over slots page) refl h.0 (found_over slots page s h.1) e

-- a slot that isn't marked is the one found
unmarked_is : (o : Option SlotView) (s : SlotView) → unmarked o ≡ Some s → o ≡ Some s
unmarked_is None s e = absurd (none s e)
  where
    none : (s : SlotView) → None ≡ Some s → ⊥
    none s e = cc
unmarked_is (Some t) s e = unmarked_by t.invalid t s e
  where
    unmarked_by : (b : Bool) (t s : SlotView) → cond b None (Some t) ≡ Some s → Some t ≡ Some s
    unmarked_by true t s e = absurd (none s e)
      where
        none : (s : SlotView) → None ≡ Some s → ⊥
        none s e = cc
    unmarked_by false t s e = e

pub found_unmarked : (slots : List SlotView) (page : ℕ) (s : SlotView) → AllFit slots → unmarked (slot_over slots page) ≡ Some s → Over s page
found_unmarked slots page s h e = found_over slots page s h (unmarked_is (slot_over slots page) s e)

pub over_low : (s : SlotView) (page : ℕ) → Over s page → s.base ≤ page
over_low s page o = low s page o.over
  where
    low : (s : SlotView) (page : ℕ) → lies_over s page ≡ true → s.base ≤ page
    low s page h = grind (arith, nat_tests)

pub over_user : (s : SlotView) (page : ℕ) → Over s page → s.user + (page - s.base) < U64_LIMIT
over_user s page o = user s page o.fits o.over
  where
    user : (s : SlotView) (page : ℕ) → slot_fits s ≡ true → lies_over s page ≡ true → s.user + (page - s.base) < U64_LIMIT
    user s page h k = grind (arith, nat_tests)

pub over_index : (s : SlotView) (page : ℕ) → Over s page → within (Some (index_of s page)) ≡ None → ⊥
over_index s page o e = absurd (apart (index_of s page) (sym (ap (λ (b : Bool). cond b (Some (index_of s page)) None) (index s page o.fits o.over)) ∙ e))
  where
    index : (s : SlotView) (page : ℕ) → slot_fits s ≡ true → lies_over s page ≡ true → ltb (index_of s page) U64_LIMIT ≡ true
    index s page h k = grind (arith, nat_tests)

    apart : (n : ℕ) → Some n ≡ None → ⊥
    apart n e = cc

-- what is named at a page whose attribute is shared
pub named_shared : (f : Flat) (page n : ℕ) (s : SlotView) (read_only : Bool) → n ≡ page → attr_of n f.attrs ≡ Shared → unmarked (slot_over f.slots n) ≡ Some s → s.base ≤ n → read_only ≡ has_flag KVM_MEM_READONLY s.flags → named f page ≡ Some (record { kind = Shared; backing = User (s.user + (n - s.base)); writable = not read_only })
named_shared f page n s read_only same shared found low is =
    ap (λ (p : ℕ). named f p) (sym same)
    ∙ (ap (λ (k : Kind). named_by n f.cache k (unmarked (slot_over f.slots n))) shared
    ∙ (ap (λ (o : Option SlotView). user_named n o) found
    ∙ (ap (λ (u : ℕ). plain u (has_flag KVM_MEM_READONLY s.flags)) (user s.user n s.base low)
    ∙ ap (λ (b : Bool). plain (s.user + (n - s.base)) b) (sym is))))
  where
    plain : ℕ → Bool → Option Named
    plain u b = Some (record { kind = Shared; backing = User u; writable = not b })

    user : (u n b : ℕ) → b ≤ n → (u + n) - b ≡ u + (n - b)
    user u n b h = omega arith
