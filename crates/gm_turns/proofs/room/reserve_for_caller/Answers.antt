use Rattle.gm_turns.proofs.Rooming.{core_over, one_reserved, settled_still, unreserved}
use Rattle.gm_turns.proofs.room.reserve_for_caller.Goals as goal

pub returns-in_err-reserve-clause-more : goal.returns-in_err-reserve-clause-more
returns-in_err-reserve-clause-more c = unreserved c.args.core.now c.reserve.new.self c.in_err-reserve.ensures.err

pub reserve_for_command-requires-clause-settled : goal.reserve_for_command-requires-clause-settled
reserve_for_command-requires-clause-settled c =
    let k = c.args.core.now in
    settled_still k (record k { callers = c.reserve.new.self }) (one_reserved k c.reserve.new.self c.args.c c.requires.settled c.requires.actor c.in_ok-reserve.ensures.ok) c.requires.settled

pub returns-in-Command-clause-more : goal.returns-in-Command-clause-more
returns-in-Command-clause-more c =
    let k = c.args.core.now in
    core_over k (record k { callers = c.reserve.new.self }) c.reserve_for_command.new.core (one_reserved k c.reserve.new.self c.args.c c.requires.settled c.requires.actor c.in_ok-reserve.ensures.ok) c.reserve_for_command.ensures.more

pub returns-in-PagesIn-clause-more : goal.returns-in-PagesIn-clause-more
returns-in-PagesIn-clause-more c =
    let k = c.args.core.now in
    core_over k (record k { callers = c.reserve.new.self }) c.reserve_pages.new.core (one_reserved k c.reserve.new.self c.args.c c.requires.settled c.requires.actor c.in_ok-reserve.ensures.ok) c.reserve_pages.ensures.more

pub returns-in-FreesOf-clause-more : goal.returns-in-FreesOf-clause-more
returns-in-FreesOf-clause-more c =
    let k = c.args.core.now in
    core_over k (record k { callers = c.reserve.new.self }) c.reserve_frees.new.core (one_reserved k c.reserve.new.self c.args.c c.requires.settled c.requires.actor c.in_ok-reserve.ensures.ok) c.reserve_frees.ensures.more

pub returns-in-Nothing-clause-more : goal.returns-in-Nothing-clause-more
returns-in-Nothing-clause-more c = one_reserved c.args.core.now c.reserve.new.self c.args.c c.requires.settled c.requires.actor c.in_ok-reserve.ensures.ok
