use Rattle.std.proofs.Common.{◌≡◌, Ok, []}
use Rattle.gm_slots.specs.Changes.{change_of}
use Rattle.gm_slots.specs.declared.change.Change.TheVariants.{Make}
use Rattle.gm_calls.specs.Rows.{binding_rows}
use Rattle.gm_calls.proofs.AtOnceRows.{region_made}
use Rattle.gm_calls.proofs.at_once.slot_at_once.Goals as goal

pub returns-in-Ok-Make : goal.returns-in-Ok-Make
returns-in-Ok-Make c =
    let e : change_of c.args.region.now c.args.parts.now.slots.now.slots ≡ Ok Make = cc in
    λ f st. region_made c.args.parts.now.user.now c.args.parts.now f c.args.region.now _ st e (c.effect_of.ensures c.args.parts.now.user.now (binding_rows c.args.region.now f) [] (c.judge_binding.ensures f st))
