use Rattle.std.proofs.Common.{◌+◌, ◌∷◌, Some, None, false, sym, subst}
use Rattle.gm_base.specs.declared.values.Actor.TheVariants.{Caller}
use Rattle.gm_calls.specs.declared.judged.Judged.{Judged}
use Rattle.gm_calls.specs.declared.judged.Judged.TheVariants as judgement
use Rattle.gm_callers.specs.Stand.{IsJudged}
use Rattle.gm_flat.specs.Calls.{plan}
use Rattle.gm_flat.specs.Replay.{flat}
use Rattle.gm_flat.specs.declared.entry.What.TheVariants.{Judge}
use Rattle.gm_laws.proofs.Kit.{by}
use Rattle.gm_state.proofs.PlannedReads.{short_uncut}
use Rattle.gm_turns.proofs.Blocking.{lent_stands}
use Rattle.gm_turns.proofs.JudgeTurns.{go_turn, may_judge, refuse_turn, same_turn, taken_ended, told}
use Rattle.gm_turns.proofs.ShortTurns.{can_change, change_turn, makes_it, short_room}
use Rattle.gm_turns.specs.Ready.{Turned}
use Rattle.gm_turns.specs.Standing.{memory_of}
use Rattle.gm_turns.specs.declared.parts.Core.{Core}
use Rattle.gm_turns.proofs.calls.judge_call.Goals as goal

pub judge-judged-requires-clause-state : goal.judge-judged-requires-clause-state
judge-judged-requires-clause-state c = (flat c.args.core.now.log.past, lent_stands c.args.core.now c.parts.result c.requires.ready.settled (record { slots = c.parts.ensures.slots; files = c.parts.ensures.files; attrs = c.parts.ensures.attrs }))

pub answer_now-requires-clause-bound : goal.answer_now-requires-clause-bound
answer_now-requires-clause-bound c = rw c.take_spans-spans.ensures.callers (taken_ended c.args.core.now c.args.c c.requires.ready)

pub answer_now-requires-in-Same-clause-bound : goal.answer_now-requires-in-Same-clause-bound
answer_now-requires-in-Same-clause-bound c = rw c.take_spans-spans.ensures.callers (taken_ended c.args.core.now c.args.c c.requires.ready)

pub change_now-requires-clause-bound : goal.change_now-requires-clause-bound
change_now-requires-clause-bound c = rw c.take_spans-spans.ensures.callers (taken_ended c.args.core.now c.args.c c.requires.ready)

pub change_now-requires-clause-can : goal.change_now-requires-clause-can
change_now-requires-clause-can c =
    let k = c.args.core.now in
    let i = c.args.ioctl.now in
    let tells = told k c.args.c c.parts.result i (judgement.Short c.in-Short.effect c.in-Short.answer) c.judge-judged.new.spans.list c.requires.ready (record { state = record { slots = c.parts.ensures.slots; files = c.parts.ensures.files; attrs = c.parts.ensures.attrs }; user = c.parts.ensures.user; setup = c.parts.ensures.setup }) c.in-Short.ensures in
    (k.setup, memory_of k.setup (by (k.turns + 1) (Caller c.args.c) (Judge i) ∷ k.log.past), can_change k c.args.c i c.in-Short.effect c.in-Short.answer c.requires.ready tells.0)

pub change_now-requires-clause-fits : goal.change_now-requires-clause-fits
change_now-requires-clause-fits c =
    let k = c.args.core.now in
    let i = c.args.ioctl.now in
    let tells = told k c.args.c c.parts.result i (judgement.Short c.in-Short.effect c.in-Short.answer) c.judge-judged.new.spans.list c.requires.ready (record { state = record { slots = c.parts.ensures.slots; files = c.parts.ensures.files; attrs = c.parts.ensures.attrs }; user = c.parts.ensures.user; setup = c.parts.ensures.setup }) c.in-Short.ensures in
    short_room k c.args.c i c.in-Short.effect c.requires.ready c.requires.idle c.requires.command (makes_it k i c.in-Short.effect c.in-Short.answer tells.0) (short_uncut k.setup i (flat k.log.past) c.in-Short.effect c.in-Short.answer tells.0)

pub returns-in-Refused : goal.returns-in-Refused
returns-in-Refused c =
    let k = c.args.core.now in
    let i = c.args.ioctl.now in
    let judges = may_judge k c.args.c i c.args.needed c.requires.ready c.requires.idle c.requires.command c.requires.locks c.requires.free in
    let tells = told k c.args.c c.parts.result i (judgement.Refused c.in-Refused.errno) c.judge-judged.new.spans.list c.requires.ready (record { state = record { slots = c.parts.ensures.slots; files = c.parts.ensures.files; attrs = c.parts.ensures.attrs }; user = c.parts.ensures.user; setup = c.parts.ensures.setup }) c.in-Refused.ensures in
    rw (c.answer_now.ensures, c.take_spans-spans.ensures.callers) (refuse_turn k c.args.c i c.in-Refused.errno c.requires.ready c.requires.idle judges tells.0)

pub returns-in-Same : goal.returns-in-Same
returns-in-Same c =
    let k = c.args.core.now in
    let i = c.args.ioctl.now in
    let judges = may_judge k c.args.c i c.args.needed c.requires.ready c.requires.idle c.requires.command c.requires.locks c.requires.free in
    let tells = told k c.args.c c.parts.result i (judgement.Same c.in-Same.answer) c.judge-judged.new.spans.list c.requires.ready (record { state = record { slots = c.parts.ensures.slots; files = c.parts.ensures.files; attrs = c.parts.ensures.attrs }; user = c.parts.ensures.user; setup = c.parts.ensures.setup }) c.in-Same.ensures in
    rw (c.answer_now-in-Same.ensures, c.take_spans-spans.ensures.callers) (same_turn k c.args.c i c.in-Same.answer c.requires.ready c.requires.idle judges tells.0)

pub returns-in-Short : goal.returns-in-Short
returns-in-Short c =
    let k = c.args.core.now in
    let i = c.args.ioctl.now in
    let judges = may_judge k c.args.c i c.args.needed c.requires.ready c.requires.idle c.requires.command c.requires.locks c.requires.free in
    let tells = told k c.args.c c.parts.result i (judgement.Short c.in-Short.effect c.in-Short.answer) c.judge-judged.new.spans.list c.requires.ready (record { state = record { slots = c.parts.ensures.slots; files = c.parts.ensures.files; attrs = c.parts.ensures.attrs }; user = c.parts.ensures.user; setup = c.parts.ensures.setup }) c.in-Short.ensures in
    let m = memory_of k.setup (by (k.turns + 1) (Caller c.args.c) (Judge i) ∷ k.log.past) in
    let applied = c.change_now.ensures.applied k.setup m (can_change k c.args.c i c.in-Short.effect c.in-Short.answer c.requires.ready tells.0) in
    subst (λ (n : Core). Turned k n (Caller c.args.c) false) (sym c.change_now.ensures.core)
    (rw c.take_spans-spans.ensures.callers (change_turn k c.args.c i c.in-Short.effect c.in-Short.answer c.change_now.new.core.state c.requires.ready c.requires.idle judges tells.0 applied c.change_now.ensures.generation))

pub returns-in-Bracket : goal.returns-in-Bracket
returns-in-Bracket c =
    let k = c.args.core.now in
    let i = c.args.ioctl.now in
    let judges = may_judge k c.args.c i c.args.needed c.requires.ready c.requires.idle c.requires.command c.requires.locks c.requires.free in
    let tells = told k c.args.c c.parts.result i (judgement.Bracket c.in-Bracket.field-0) c.judge-judged.new.spans.list c.requires.ready (record { state = record { slots = c.parts.ensures.slots; files = c.parts.ensures.files; attrs = c.parts.ensures.attrs }; user = c.parts.ensures.user; setup = c.parts.ensures.setup }) c.in-Bracket.ensures in
    let is : IsJudged c.judge-judged.result (Some c.judge-judged.new.spans) (plan k.setup i (flat k.log.past)) = subst (λ (j : Judged). IsJudged j (Some c.judge-judged.new.spans) (plan k.setup i (flat k.log.past))) (sym c.in-Bracket.is) tells in
    rw (c.go_on.ensures, c.begin_call.ensures, c.take_spans-spans.ensures.callers) (go_turn k c.args.c i c.args.needed c.judge-judged.result (Some c.judge-judged.new.spans) c.requires.ready c.requires.idle judges c.requires.locks is)

pub returns-in-Pages : goal.returns-in-Pages
returns-in-Pages c =
    let k = c.args.core.now in
    let i = c.args.ioctl.now in
    let judges = may_judge k c.args.c i c.args.needed c.requires.ready c.requires.idle c.requires.command c.requires.locks c.requires.free in
    let tells = told k c.args.c c.parts.result i (judgement.Pages c.in-Pages.field-0) c.judge-judged.new.spans.list c.requires.ready (record { state = record { slots = c.parts.ensures.slots; files = c.parts.ensures.files; attrs = c.parts.ensures.attrs }; user = c.parts.ensures.user; setup = c.parts.ensures.setup }) c.in-Pages.ensures in
    let is : IsJudged c.judge-judged.result None (plan k.setup i (flat k.log.past)) = subst (λ (j : Judged). IsJudged j None (plan k.setup i (flat k.log.past))) (sym c.in-Pages.is) tells.0 in
    rw (c.go_on-in-Pages.ensures, c.begin_call-in-Pages.ensures, c.give_back.ensures, c.take_spans-spans.ensures.callers) (go_turn k c.args.c i c.args.needed c.judge-judged.result None c.requires.ready c.requires.idle judges c.requires.locks is)
