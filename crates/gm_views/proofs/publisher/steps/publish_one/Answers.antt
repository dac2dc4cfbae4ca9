use Rattle.left_right.specs.Sides.{view}
use Rattle.gm_views.proofs.Publishing.{puts, one_change, of_ok}
use Rattle.gm_views.proofs.publisher.steps.publish_one.Goals as goal

pub publish_as-writer-requires : goal.publish_as-writer-requires
publish_as-writer-requires g c next is = puts _ _ _ next _ c.requires.shown c.requires.waiting c.requires.room c.requires.later is

pub returns-clause-change : goal.returns-clause-change
returns-clause-change g c =
    let w = c.args.writer.desk in
    let done = of_ok _ _ _ (c.publish_as-writer.ensures.succeeds tt) c.publish_as-writer.ensures.values in
    (one_change (view w.place) w.shown.value c.publish_as-writer.result.0.desk.shown.value _ c.requires.shown c.requires.waiting c.requires.room done.0).0

pub returns-clause-room : goal.returns-clause-room
returns-clause-room g c =
    let w = c.args.writer.desk in
    let done = of_ok _ _ _ (c.publish_as-writer.ensures.succeeds tt) c.publish_as-writer.ensures.values in
    (one_change (view w.place) w.shown.value c.publish_as-writer.result.0.desk.shown.value _ c.requires.shown c.requires.waiting c.requires.room done.0).1
