-- Where no slot over a page is marked, a touch has what is named.
use Rattle.std.proofs.Common.{Bool, List, None, Option, Some, [], ap, cond, false, inl, inr, refl, subst, sym, true, ℕ, ◌∙◌, ◌∷◌, ◌≡◌}
use Rattle.std.proofs.lemmas.Bool.{both_ways, cases_Bool}
use Rattle.gm_base.specs.Aim.{Aim}
use Rattle.gm_base.specs.Scripts.{Orders}
use Rattle.gm_base.specs.declared.values.Actor.{Actor}
use Rattle.gm_base.specs.declared.values.Actor.TheVariants.{Caller, Vcpu}
use Rattle.gm_flat.specs.Effects.{apply, slot_fits}
use Rattle.gm_flat.specs.FlatState.{Flat}
use Rattle.gm_flat.specs.Attribute.{attr_of}
use Rattle.gm_flat.specs.NamedPage.{Named, named, named_aside, named_by, unmarked}
use Rattle.gm_flat.specs.Replay.{flat}
use Rattle.gm_flat.specs.RightHistory.{Each, Right}
use Rattle.gm_flat.specs.RightTouch.{CanUse}
use Rattle.gm_flat.specs.declared.effect.Backing.{Backing}
use Rattle.gm_flat.specs.declared.effect.Effect.{Effect}
use Rattle.gm_flat.specs.declared.effect.Effect.TheVariants.{Attr, Cut, File, Mark, Move, NoSlot, Shut, Slot, Word}
use Rattle.gm_flat.specs.declared.entry.Entry.{Entry}
use Rattle.gm_flat.specs.declared.entry.What.{What}
use Rattle.gm_flat.specs.declared.entry.What.TheVariants.{Change, Touch}
use Rattle.gm_flat.specs.declared.views.SlotView.{SlotView}
use Rattle.gm_laws.proofs.Flats.{cond_P, over}
use Rattle.gm_laws.proofs.Grow.{same_state}
use Rattle.gm_laws.proofs.Ids.{MemSlot, over_mem}
use Rattle.gm_laws.proofs.Kit.{by, none_is}
use Rattle.gm_laws.proofs.Marks.{MarksTaken, marks_taken}
use Rattle.gm_laws.proofs.RightIsRuled.{ruled}
use Rattle.gm_laws.proofs.RuledIsRight.{each}
use Rattle.gm_laws.proofs.Touches.{good, touched}
use Rattle.gm_laws.specs.May.{May}
use Rattle.gm_laws.specs.Ruled.{Follows}
use Rattle.gm_laws.specs.TouchesNow.{IsQuiet, IsQuietEffect, IsQuietWhat, NoneOpen, QuietNames, QuietTouches}

-- no slot over the page is marked
abbrev IsClear : ℕ → Flat → Type 0
IsClear g f = (r : SlotView) → over g f.slots ≡ Some r → r.invalid ≡ false

clear_named : (f : Flat) (g : ℕ) → IsClear g f → named f g ≡ named_aside f g
clear_named f g h = ap (λ (o : Option SlotView). named_by g f.cache (attr_of g f.attrs) o) (go (over g f.slots) h)
  where
    go : (o : Option SlotView) → ((r : SlotView) → o ≡ Some r → r.invalid ≡ false) → unmarked o ≡ o
    go None h = refl
    go (Some r) h = let e : r.invalid ≡ false = h r refl in rw e refl

quiet_touch : (o : Orders) (w : What) (a : Actor) (past : List Entry) → Follows o past → May o w a past → QuietTouches w a past
quiet_touch o (Touch a b level value fill) (Vcpu u) past r m = λ none.
    subst (λ (n : Option Named). CanUse a b n)
    (sym (clear_named (flat past) a.page (λ q e. elim (cases_Bool q.invalid) [
      | inl y ↦ let x = marks_taken o past r q (over_mem a.page q (flat past).slots e).0 y in absurd (none_is x.1.open_bracket (sym (none x.0) ∙ x.1.is_open))
      | inr y ↦ y
    ])))
    (touched o u fill value a b level past (good o past r) m).now_named
quiet_touch o (Touch a b level value fill) (Caller c) past r m = absurd m
quiet_touch o w a past r m = tt

pub quiet_touches : (o : Orders) (past : List Entry) → Right o past → Each (λ e p. QuietTouches e.what e.actor p) past
quiet_touches o past r = each o (λ e p. QuietTouches e.what e.actor p) (λ e p x f. quiet_touch o e.what e.actor p f x.may) past (ruled o past r).follows

-- no slot is marked where no change marks one
abbrev AllClear : List SlotView → Type 0
AllClear rs = (r : SlotView) → MemSlot r rs → r.invalid ≡ false

clear_effect : (e : Effect) (f : Flat) → IsQuietEffect e → AllClear f.slots → AllClear (apply e f).slots
clear_effect (File file pages block) f q h = h
clear_effect (Word page word value) f q h = h
clear_effect (Slot id base pages user flags file index) f q h =
    let s : SlotView = record { id = id; base = base; pages = pages; user = user; flags = flags; file = file; index = index; invalid = false } in
    cond_P (λ (z : Flat). AllClear z.slots) (slot_fits s) (record f { slots = s ∷ f.slots }) f
    (λ r m. elim m [ inl y ↦ ap (λ (z : SlotView). z.invalid) y | inr y ↦ h r y ])
    h
clear_effect (Mark id) f q h = absurd q
clear_effect (NoSlot id) f q h = absurd q
clear_effect (Move id base) f q h = absurd q
clear_effect (Attr span kind) f q h = absurd q
clear_effect (Cut file lo hi) f q h = absurd q
clear_effect (Shut file) f q h = absurd q

clear_entry : (t : ℕ) (w : What) (a : Actor) (past : List Entry) → IsQuietWhat w → AllClear (flat past).slots → AllClear (flat (by t a w ∷ past)).slots
clear_entry t (Change e) a past q h = clear_effect e (flat past) q h
clear_entry t w a past q h = subst AllClear (sym (same_state t w a past refl).0) h

all_clear : (past : List Entry) → IsQuiet past → AllClear (flat past).slots
all_clear [] q = λ r m. absurd m
all_clear (e ∷ past) q = clear_entry e.turn e.what e.actor past q.0 (all_clear past q.1)

quiet_name : (o : Orders) (w : What) (a : Actor) (past : List Entry) → Follows o past → May o w a past → QuietNames w a past
quiet_name o (Touch a b level value fill) (Vcpu u) past r m = λ quiet.
    subst (λ (n : Option Named). CanUse a b n)
    (sym (clear_named (flat past) a.page (λ q e. all_clear past quiet q (over_mem a.page q (flat past).slots e).0)))
    (touched o u fill value a b level past (good o past r) m).now_named
quiet_name o (Touch a b level value fill) (Caller c) past r m = absurd m
quiet_name o w a past r m = tt

pub quiet_names : (o : Orders) (past : List Entry) → Right o past → Each (λ e p. QuietNames e.what e.actor p) past
quiet_names o past r = each o (λ e p. QuietNames e.what e.actor p) (λ e p x f. quiet_name o e.what e.actor p f x.may) past (ruled o past r).follows
