use Rattle.std.proofs.Common.{subst, sym}
use Rattle.gm_flat.specs.declared.effect.Reply.{Reply}
use Rattle.gm_flat.specs.Replay.{flat}
use Rattle.gm_flat.specs.RightCalls.{PagesEnd}
use Rattle.gm_calls.specs.Judgements.{pages_of}
use Rattle.gm_callers.specs.Callers.{caller_at, pages_in}
use Rattle.gm_turns.proofs.Populations.{ends_early}
use Rattle.gm_turns.proofs.pages.stop.Goals as goal

pub answer_pages-requires-clause-ends : goal.answer_pages-requires-clause-ends
answer_pages-requires-clause-ends c =
    let k = c.args.core.now in
    let q = c.args.plan in (
      q,
      c.requires.at.adds,
      subst (λ (x : Reply). PagesEnd k.setup.frames x (pages_of q) q.base (pages_in (caller_at k.callers c.args.c).call) (flat k.log.past)) (sym c.part_done.ensures)
          (ends_early k c.args.c c.args.base c.args.from c.args.pages q c.args.errno c.requires.at c.requires.stops),
    )
