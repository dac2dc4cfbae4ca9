use Rattle.std.proofs.Common.{◌≡◌, Ok}
use Rattle.gm_flat.specs.Calls.{slot_plan}
use Rattle.gm_flat.specs.Slots.{slot_by_id}
use Rattle.gm_slots.specs.Changes.{change_of}
use Rattle.gm_slots.specs.declared.change.Change.TheVariants.{Nothing, Make, Delete, Move}
use Rattle.gm_calls.proofs.Filling.{is_same, no_spans}
use Rattle.gm_calls.proofs.SlotRows.{deleted, exists_of, known_lent, lent_by_id, moved_to, told}
use Rattle.gm_calls.specs.Rows.{binding_rows}
use Rattle.gm_calls.proofs.regions.judge_change.Goals as goal

pub returns-in-Nothing : goal.returns-in-Nothing
returns-in-Nothing c =
    let e : change_of c.args.region.now c.args.parts.now.slots.now.slots ≡ Ok Nothing = cc in
    λ f st. (is_same c.args.parts.now.user.now (slot_plan c.args.region.now f (slot_by_id f.slots c.args.region.now.slot)) 0 (told c.args.parts.now f c.args.region.now (Ok Nothing) st e), c.requires.empty)

pub judge_binding-requires-clause-some : goal.judge_binding-requires-clause-some
judge_binding-requires-clause-some c =
    let e : change_of c.args.region.now c.args.parts.now.slots.now.slots ≡ Ok Make = cc in
    (told c.args.parts.now c.requires.state.0 c.args.region.now (Ok Make) c.requires.state.1 e).0

pub returns-in-Make : goal.returns-in-Make
returns-in-Make c =
    let e : change_of c.args.region.now c.args.parts.now.slots.now.slots ≡ Ok Make = cc in
    λ f st. no_spans c.args.parts.now.user.now (slot_plan c.args.region.now f (slot_by_id f.slots c.args.region.now.slot)) (binding_rows c.args.region.now f) c.judge_binding.result c.args.spans.now.list (told c.args.parts.now f c.args.region.now (Ok Make) st e).1 c.requires.empty (c.judge_binding.ensures f st)

pub put_whole-requires-clause-known : goal.put_whole-requires-clause-known
put_whole-requires-clause-known c = known_lent c.args.parts.now c.requires.state.0 c.requires.state.1

pub put_whole-requires-clause-exists : goal.put_whole-requires-clause-exists
put_whole-requires-clause-exists c =
    let e : change_of c.args.region.now c.args.parts.now.slots.now.slots ≡ Ok Delete = cc in
    let t = told c.args.parts.now c.requires.state.0 c.args.region.now (Ok Delete) c.requires.state.1 e in
    exists_of (slot_by_id c.args.parts.now.slots.now.slots c.args.region.now.slot) t.0 (lent_by_id c.args.parts.now c.requires.state.0 c.args.region.now.slot t.0 c.requires.state.1 t.1)

pub returns-in-Delete : goal.returns-in-Delete
returns-in-Delete c =
    let e : change_of c.args.region.now c.args.parts.now.slots.now.slots ≡ Ok Delete = cc in
    λ f st. deleted c.args.parts.now f c.args.region.now c.args.spans.now.list c.put_whole.new.spans.list st e c.requires.empty c.put_whole.ensures

pub put_whole-requires-in-Move-clause-known : goal.put_whole-requires-in-Move-clause-known
put_whole-requires-in-Move-clause-known c = known_lent c.args.parts.now c.requires.state.0 c.requires.state.1

pub put_whole-requires-in-Move-clause-exists : goal.put_whole-requires-in-Move-clause-exists
put_whole-requires-in-Move-clause-exists c =
    let e : change_of c.args.region.now c.args.parts.now.slots.now.slots ≡ Ok Move = cc in
    let t = told c.args.parts.now c.requires.state.0 c.args.region.now (Ok Move) c.requires.state.1 e in
    exists_of (slot_by_id c.args.parts.now.slots.now.slots c.args.region.now.slot) t.0 (lent_by_id c.args.parts.now c.requires.state.0 c.args.region.now.slot t.0 c.requires.state.1 t.1)

pub returns-in-Move : goal.returns-in-Move
returns-in-Move c =
    let e : change_of c.args.region.now c.args.parts.now.slots.now.slots ≡ Ok Move = cc in
    λ f st. moved_to c.args.parts.now f c.args.region.now c.args.spans.now.list c.put_whole-in-Move.new.spans.list st e c.requires.empty c.put_whole-in-Move.ensures
