use Rattle.gm_turns.proofs.GuestTurns.{flush_enter_turn, flushed_mmu}
use Rattle.gm_turns.proofs.guest.flush_and_enter.Goals as goal

pub returns : goal.returns
returns c =
    let mmu = flushed_mmu c.args.core.now.mmu c.flush.new.self _ _ c.flush.ensures.fills c.flush.ensures.requests c.flush.ensures.rest in
    rw (c.note-2.ensures, c.enter.ensures, c.note.ensures, mmu) (flush_enter_turn c.args.core.now c.args.v c.requires.ready c.requires.outside c.requires.no_fault c.requires.asked c.requires.waiting)
