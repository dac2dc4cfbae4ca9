use Rattle.gm_turns.proofs.GuestTurns.{flush_turn, flushed_mmu}
use Rattle.gm_turns.proofs.guest.flush.Goals as goal

pub returns : goal.returns
returns c =
    let mmu = flushed_mmu c.args.core.now.mmu c.flush.new.self _ _ c.flush.ensures.fills c.flush.ensures.requests c.flush.ensures.rest in
    rw (c.note.ensures, mmu) (flush_turn c.args.core.now c.args.v c.requires.ready c.requires.asked)
