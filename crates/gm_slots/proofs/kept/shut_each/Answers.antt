use Rattle.std.proofs.Common.{sym, ◌∙◌, ap, get_or, Vec, arith}
use Rattle.std.proofs.lemmas.List.{get_or_default}
use Rattle.gm_slots.specs.declared.order.Begin.{Begin}
use Rattle.gm_slots.proofs.Keeping.{shut_same, shut_some}
use Rattle.gm_slots.proofs.kept.shut_each.Goals.{in-Some, in_default}
use Rattle.gm_slots.proofs.kept.shut_each.Goals as goal

abbrev blank : Begin
blank = record { base = 0; id = 0 }

pub loop-begin-preserved : goal.loop-begin-preserved
loop-begin-preserved c = elim c.match-index.branch [
  | in-Some w ↦ shut_some c.args.file c.loop-begin.begin-index c.args.order.now c.args.table.now.items c.loop-begin.table.items c.match-index.table.items (get_or c.args.order.now c.loop-begin.begin-index blank) w.in-Some.slot w.shut.result c.loop-begin.invariant
      (λ d. get_or_default c.args.order.now c.loop-begin.begin-index d blank c.loop-begin-test.true)
      (omega (arith, c.requires c.loop-begin.begin-index blank c.loop-begin-test.true, c.loop-begin.invariant.places))
      (λ d. get_or_default c.loop-begin.table.items _ d _ (omega (arith, c.requires c.loop-begin.begin-index blank c.loop-begin-test.true, c.loop-begin.invariant.places)) ∙ (sym c.index.ensures ∙ w.in-Some.is))
      w.shut.ensures
      (ap (λ (v : Vec _ _). v.items) w.table-is)
  | in_default w ↦ shut_same c.args.file c.loop-begin.begin-index c.args.order.now c.args.table.now.items c.loop-begin.table.items c.match-index.table.items (get_or c.args.order.now c.loop-begin.begin-index blank) c.loop-begin.invariant
      (λ d. get_or_default c.args.order.now c.loop-begin.begin-index d blank c.loop-begin-test.true)
      (λ d. get_or_default c.loop-begin.table.items _ d _ (omega (arith, c.requires c.loop-begin.begin-index blank c.loop-begin-test.true, c.loop-begin.invariant.places)) ∙ (sym c.index.ensures ∙ w.in_default.is))
      (ap (λ (v : Vec _ _). v.items) w.table-is)
]
