use Rattle.gm_turns.proofs.Growing.{err_any, longer, not_longer, on_err}
use Rattle.gm_turns.proofs.Rooming.{on_ok, roomier}
use Rattle.gm_turns.proofs.pushing.push.Goals as goal

pub returns-in_err-reserve_for_region-clause-err : goal.returns-in_err-reserve_for_region-clause-err
returns-in_err-reserve_for_region-clause-err c = err_any c.from_residual.result (roomier c.args.core.now c.reserve_for_region.new.core c.reserve_for_region.ensures.more)

pub returns-clause-ok : goal.returns-clause-ok
returns-clause-ok c =
    on_ok c.append.result (λ o. longer c.args.core.now c.reserve_for_region.new.core c.append.new.core c.args.actor c.args.command c.reserve_for_region.ensures.more c.in_ok-reserve_for_region.ensures.ok c.append.ensures.others o c.requires.kind c.requires.present c.requires.settled) c.append.ensures.ok

pub returns-clause-err : goal.returns-clause-err
returns-clause-err c =
    on_err c.append.result (λ o. not_longer c.args.core.now c.reserve_for_region.new.core c.append.new.core c.reserve_for_region.ensures.more c.append.ensures.others o) c.append.ensures.err
