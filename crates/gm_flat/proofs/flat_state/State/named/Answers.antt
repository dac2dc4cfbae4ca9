use Rattle.std.proofs.Common.{◌≡◌, List, Some, ap, sym, ◌∙◌, arith}
use Rattle.gm_flat.specs.Attribute.{attr_of}
use Rattle.gm_flat.specs.FlatState.{AttrCall}
use Rattle.gm_flat.specs.NamedPage.{unmarked}
use Rattle.gm_flat.specs.Slots.{slot_over}
use Rattle.gm_flat.specs.Replayed.{shown}
use Rattle.gm_flat.specs.declared.views.SlotView.{SlotView}
use Rattle.gm_flat.proofs.Fitting.{found_unmarked, over_low, over_user, over_index, named_shared}
use Rattle.gm_flat.proofs.flat_state.State.named.Goals as goal

pub overflow_sub-backing : goal.overflow_sub-backing
overflow_sub-backing c =
    over_low c.in_ok-slot.slot c.number-page.result
    (found_unmarked c.args.self.now.slots.items c.number-page.result c.in_ok-slot.slot c.requires (ap (λ (l : List SlotView). unmarked (slot_over l c.number-page.result)) (sym c.deref.ensures.value) ∙ (sym c.find_unmarked.ensures.found ∙ c.in_ok-slot.was)))

pub overflow_add-backing : goal.overflow_add-backing
overflow_add-backing c =
    omega (
      arith,
      over_user c.in_ok-slot.slot c.number-page.result
          (found_unmarked c.args.self.now.slots.items c.number-page.result c.in_ok-slot.slot c.requires (ap (λ (l : List SlotView). unmarked (slot_over l c.number-page.result)) (sym c.deref.ensures.value) ∙ (sym c.find_unmarked.ensures.found ∙ c.in_ok-slot.was))),
    )

pub returns-in_err-index-in-Private : goal.returns-in_err-index-in-Private
returns-in_err-index-in-Private c =
    absurd (over_index c.in_ok-slot.slot c.number-page.result
    (found_unmarked c.args.self.now.slots.items c.number-page.result c.in_ok-slot.slot c.requires (ap (λ (l : List SlotView). unmarked (slot_over l c.number-page.result)) (sym c.deref.ensures.value) ∙ (sym c.find_unmarked.ensures.found ∙ c.in_ok-slot.was)))
    (sym c.index_over.ensures ∙ c.in_err-index-in-Private.was))

pub returns-in-Shared : goal.returns-in-Shared
returns-in-Shared c =
    let e : unmarked (slot_over c.args.self.now.slots.items c.number-page.result) ≡ Some c.in_ok-slot.slot = ap (λ (l : List SlotView). unmarked (slot_over l c.number-page.result)) (sym c.deref.ensures.value) ∙ (sym c.find_unmarked.ensures.found ∙ c.in_ok-slot.was) in
    named_shared (shown c.args.self.now) c.args.page c.number-page.result c.in_ok-slot.slot c.is_read_only.result c.number-page.ensures.number
    (ap (λ (l : List AttrCall). attr_of c.number-page.result l) (sym c.deref-2.ensures.value) ∙ (sym c.attr_at.ensures ∙ c.in-Shared.is))
    e (over_low c.in_ok-slot.slot c.number-page.result (found_unmarked c.args.self.now.slots.items c.number-page.result c.in_ok-slot.slot c.requires e))
    c.is_read_only.ensures
