use Rattle.std.proofs.Common.{◌≡◌, List, Option, Some, None, ap, sym, subst, ◌∙◌}
use Rattle.gm_base.specs.Extent.{Extent}
use Rattle.gm_callers.proofs.Stepping.{has_spans}
use Rattle.gm_callers.specs.Callers.{caller_at, spans_in}
use Rattle.gm_callers.specs.declared.caller.InProgress.{InProgress}
use Rattle.gm_mapping.specs.Opened.{Opened}
use Rattle.gm_state.specs.Marked.{mark_slot}
use Rattle.gm_turns.proofs.BeginTurns.{asked_fits, begin_turn, count_fits, mark_by, mark_turn, slot_there}
use Rattle.gm_turns.specs.Brackets.{slot_to_mark}
use Rattle.gm_turns.proofs.brackets.begin.Goals as goal

pub spans-requires-clause-spans : goal.spans-requires-clause-spans
spans-requires-clause-spans c = has_spans c.args.c c.requires.at.0 c.requires.ready.settled.stands.callers c.requires.ready.actor_is c.requires.at.1

pub begin-request-requires-clause-count : goal.begin-request-requires-clause-count
begin-request-requires-clause-count c = count_fits c.args.core.now c.args.c c.requires.ready

pub begin-request-requires-clause-asked : goal.begin-request-requires-clause-asked
begin-request-requires-clause-asked c = asked_fits c.args.core.now c.args.c c.requires.ready

pub begin-spans-requires-clause-spans : goal.begin-spans-requires-clause-spans
begin-spans-requires-clause-spans c = has_spans c.args.c c.requires.at.0 c.requires.ready.settled.stands.callers c.requires.ready.actor_is c.requires.at.1

pub mark-requires-clause-exists : goal.mark-requires-clause-exists
mark-requires-clause-exists c =
    let k = c.args.core.now in
    let marks : mark_slot c.requires.at.0 ≡ Some c.in-Some.slot = sym (c.slot_to_mark-marked.ensures ∙ (ap (λ (o : Option InProgress). slot_to_mark o) c.call.ensures ∙ mark_by c.requires.at.0 (caller_at k.callers c.args.c).call c.requires.at.1)) ∙ c.in-Some.is in
    rw c.note.ensures (slot_there k c.args.c c.requires.at.0 c.in-Some.slot c.requires.ready c.requires.at.1 marks)

pub returns-in-Some : goal.returns-in-Some
returns-in-Some c =
    let k = c.args.core.now in
    let e = c.begin-request.ensures in
    let ss = spans_in (caller_at k.callers c.args.c).call in
    let o : Opened k.mmu c.begin-request.new.self ss.list = subst (λ (l : List Extent). Opened k.mmu c.begin-request.new.self l) c.spans.ensures (record { over = e.over; progress = e.progress; requests = e.requests; fills = e.fills }) in
    let marks : mark_slot c.requires.at.0 ≡ Some c.in-Some.slot = sym (c.slot_to_mark-marked.ensures ∙ (ap (λ (o : Option InProgress). slot_to_mark o) c.call.ensures ∙ mark_by c.requires.at.0 (caller_at k.callers c.args.c).call c.requires.at.1)) ∙ c.in-Some.is in
    rw (c.note-in-Some.ensures, c.mark.ensures, c.note.ensures, c.begin-spans.ensures.callers, c.begin-spans.ensures.spans)
    (mark_turn k c.args.c c.requires.at.0 c.begin-request.new.self c.begin-request.result c.in-Some.slot c.requires.ready c.requires.at.1 o e.number marks)

pub returns-in_default : goal.returns-in_default
returns-in_default c =
    let k = c.args.core.now in
    let e = c.begin-request.ensures in
    let ss = spans_in (caller_at k.callers c.args.c).call in
    let o : Opened k.mmu c.begin-request.new.self ss.list = subst (λ (l : List Extent). Opened k.mmu c.begin-request.new.self l) c.spans.ensures (record { over = e.over; progress = e.progress; requests = e.requests; fills = e.fills }) in
    let marks : mark_slot c.requires.at.0 ≡ None = sym (c.slot_to_mark-marked.ensures ∙ (ap (λ (o : Option InProgress). slot_to_mark o) c.call.ensures ∙ mark_by c.requires.at.0 (caller_at k.callers c.args.c).call c.requires.at.1)) ∙ c.in_default.is in
    rw (c.note.ensures, c.begin-spans.ensures.callers, c.begin-spans.ensures.spans)
    (begin_turn k c.args.c c.requires.at.0 c.begin-request.new.self c.begin-request.result c.requires.ready c.requires.at.1 o e.number marks)
