use Rattle.std.proofs.Common.{sym, ◌∙◌, ap, reverse, List}
use Rattle.gm_tlb.specs.Fills.{latest}
use Rattle.gm_tlb.specs.declared.tlb.Fill.{Fill}
use Rattle.gm_tlb.proofs.Newest.{newer_first}
use Rattle.gm_tlb.proofs.tlb.Tlb.hit.Goals as goal

pub returns-in-Some : goal.returns-in-Some
returns-in-Some c =
    let both = newer_first c.as_slices.result.0.now c.as_slices.result.1.now c.args.access.now _ (sym c.in-Some.is ∙ c.latest_of.ensures) in
    rw (sym c.self.view_is) (sym (ap (λ (fills : List Fill). latest (reverse fills) c.args.access.now) (sym c.as_slices.ensures) ∙ both))

pub returns-in-None : goal.returns-in-None
returns-in-None c =
    let both = newer_first c.as_slices.result.0.now c.as_slices.result.1.now c.args.access.now _ (sym c.in-None.is ∙ c.latest_of.ensures) in
    rw (sym c.self.view_is) (c.latest_of-in-None.ensures ∙ sym (ap (λ (fills : List Fill). latest (reverse fills) c.args.access.now) (sym c.as_slices.ensures) ∙ both))
