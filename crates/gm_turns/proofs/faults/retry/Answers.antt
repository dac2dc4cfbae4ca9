use Rattle.std.proofs.Common.{ap, sym, ◌∙◌}
use Rattle.gm_state.specs.Views.{StateView}
use Rattle.gm_turns.proofs.Freeing.{free_turn}
use Rattle.gm_turns.proofs.Retrying.{may_let_go, retry_turn}
use Rattle.gm_turns.proofs.faults.retry.Goals as goal
use Rattle.gm_turns.specs.Standing.{memory_of}

pub release-freed-requires : goal.release-freed-requires
release-freed-requires c = may_let_go c.args.core.now c.args.v c.args.backing c.requires.ready c.requires.stale

pub returns-in-Some : goal.returns-in-Some
returns-in-Some c =
    let k = c.args.core.now in
    let memory = memory_of k.setup k.log.past in
    let tie = c.requires.ready.settled.stands.state.is in
    rw (c.note-in-Some.ensures, c.note.ensures, c.settle.ensures)
    (free_turn k c.args.v c.args.backing c.in-Some.folio c.release-freed.new.self c.requires.ready c.requires.stale (sym (c.release-freed.ensures.freed k.setup memory tie) ∙ c.in-Some.is)
    (record { slots_are = ap (λ (x : StateView). x.slots) c.release-freed.ensures.others; is = c.release-freed.ensures.is k.setup memory tie }))

pub returns-in-None : goal.returns-in-None
returns-in-None c =
    let k = c.args.core.now in
    let memory = memory_of k.setup k.log.past in
    let tie = c.requires.ready.settled.stands.state.is in
    rw (c.note.ensures, c.settle.ensures)
    (retry_turn k c.args.v c.args.backing c.release-freed.new.self c.requires.ready c.requires.stale (sym (c.release-freed.ensures.freed k.setup memory tie) ∙ c.in-None.is)
    (record { slots_are = ap (λ (x : StateView). x.slots) c.release-freed.ensures.others; is = c.release-freed.ensures.is k.setup memory tie }))
