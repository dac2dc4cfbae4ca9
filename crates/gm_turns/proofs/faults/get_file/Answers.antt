use Rattle.std.proofs.Common.{sym, ◌∙◌}
use Rattle.gm_turns.proofs.FileGets.{frame_cached, may_again, may_get}
use Rattle.gm_turns.proofs.NewFolios.{route_looked}
use Rattle.gm_turns.proofs.faults.get_file.Goals as goal
use Rattle.gm_turns.specs.Standing.{memory_of}

pub again-requires-clause-looked : goal.again-requires-clause-looked
again-requires-clause-looked c = route_looked _ _ c.requires.route

pub again-requires-clause-may : goal.again-requires-clause-may
again-requires-clause-may c =
    let k = c.args.core.now in
    let shut = sym (c.is_used.ensures k.setup (memory_of k.setup k.log.past) c.requires.ready.settled.stands.state.is) ∙ c.if-is_used.false in
    may_again k c.args.v c.args.file c.args.index c.requires.ready c.requires.route shut

pub get_cached-requires-clause-looked : goal.get_cached-requires-clause-looked
get_cached-requires-clause-looked c = route_looked _ _ c.requires.route

pub get_cached-requires-clause-live : goal.get_cached-requires-clause-live
get_cached-requires-clause-live c =
    let k = c.args.core.now in
    let here = sym (c.cached.ensures k.setup (memory_of k.setup k.log.past) c.requires.ready.settled.stands.state.is) ∙ c.in-Some.is in
    frame_cached k c.args.v c.args.file c.args.index c.in-Some.folio c.requires.ready here

pub get_cached-requires-clause-may : goal.get_cached-requires-clause-may
get_cached-requires-clause-may c =
    let k = c.args.core.now in
    let tie = c.requires.ready.settled.stands.state.is in
    let used = sym (c.is_used.ensures k.setup (memory_of k.setup k.log.past) tie) ∙ c.if-is_used.true in
    let here = sym (c.cached.ensures k.setup (memory_of k.setup k.log.past) tie) ∙ c.in-Some.is in
    may_get k c.args.v c.args.file c.args.index c.in-Some.folio c.requires.ready c.requires.route used here

pub get_new-requires-clause-used : goal.get_new-requires-clause-used
get_new-requires-clause-used c =
    let k = c.args.core.now in
    sym (c.is_used.ensures k.setup (memory_of k.setup k.log.past) c.requires.ready.settled.stands.state.is) ∙ c.if-is_used.true

pub get_new-requires-clause-free : goal.get_new-requires-clause-free
get_new-requires-clause-free c =
    let k = c.args.core.now in
    sym (c.cached.ensures k.setup (memory_of k.setup k.log.past) c.requires.ready.settled.stands.state.is) ∙ c.in-None.is
