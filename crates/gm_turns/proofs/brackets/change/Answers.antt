use Rattle.std.proofs.Common.{◌≡◌, ◌+◌, ◌∷◌, ◌∙◌, sym, subst, ap, refl}
use Rattle.gm_base.specs.declared.calls.Ioctl.{Ioctl}
use Rattle.gm_callers.specs.Callers.{caller_at}
use Rattle.gm_callers.specs.Stand.{IsAt}
use Rattle.gm_callers.specs.declared.caller.InProgress.{InProgress}
use Rattle.gm_calls.specs.declared.call.Step.TheVariants.{Acked}
use Rattle.std.proofs.Common.{List, Option, Some}
use Rattle.gm_flat.specs.declared.entry.Entry.{Entry}
use Rattle.gm_turns.specs.Logs.{LogView}
use Rattle.gm_flat.specs.declared.effect.Effect.{Effect}
use Rattle.gm_state.specs.Applying.{CanApply, HasRoomFor}
use Rattle.gm_turns.proofs.ChangeNeeds.{can_make, freed_count, freed_room, state_room}
use Rattle.gm_turns.proofs.ChangeTurns.{change_turn}
use Rattle.gm_turns.specs.Brackets.{ioctl_in}
use Rattle.gm_base.specs.declared.values.Actor.TheVariants.{Caller}
use Rattle.gm_flat.specs.declared.entry.What.TheVariants.{Change}
use Rattle.gm_laws.specs.Turns.{onto}
use Rattle.gm_turns.specs.Runs.{frees, runs}
use Rattle.gm_turns.specs.Standing.{memory_of}
use Rattle.gm_turns.proofs.brackets.change.Goals as goal

logged : (l : LogView) (past : List Entry) → l.past ≡ past → l ≡ record { past = past; spare = l.spare }
logged l past e = ap (λ (p : List Entry). record { past = p; spare = l.spare }) e

pub apply-requires-clause-can : goal.apply-requires-clause-can
apply-requires-clause-can c =
    let k = c.args.core.now in
    let effect : c.effect_of-effect.result ≡ c.requires.at.0 = c.effect_of-effect.ensures c.requires.at.0 (subst (λ (o : Option InProgress). IsAt c.requires.at.0 (Some Acked) o) (sym c.call-2.ensures) c.requires.at.1) in
    let asked : c.ioctl_of-ioctl.result ≡ ioctl_in (caller_at k.callers c.args.c).call = c.ioctl_of-ioctl.ensures ∙ ap (λ (o : Option InProgress). ioctl_in o) c.call.ensures in
    (k.setup, memory_of k.setup k.log.past, subst (λ (e : Effect). CanApply k.setup k.state (memory_of k.setup k.log.past) c.ioctl_of-ioctl.result e) (sym effect) (subst (λ (i : Ioctl). CanApply k.setup k.state (memory_of k.setup k.log.past) i c.requires.at.0) (sym asked) (can_make k c.args.c c.requires.at.0 c.requires.ready c.requires.at.1)))

pub apply-requires-clause-room : goal.apply-requires-clause-room
apply-requires-clause-room c =
    let k = c.args.core.now in
    let effect : c.effect_of-effect.result ≡ c.requires.at.0 = c.effect_of-effect.ensures c.requires.at.0 (subst (λ (o : Option InProgress). IsAt c.requires.at.0 (Some Acked) o) (sym c.call-2.ensures) c.requires.at.1) in
    subst (λ (e : Effect). HasRoomFor k.state e) (sym effect) (state_room k c.args.c c.requires.at.0 c.requires.ready c.requires.at.1)

pub free_all-requires-clause-count : goal.free_all-requires-clause-count
free_all-requires-clause-count c =
    let k = c.args.core.now in
    let effect : c.effect_of-effect.result ≡ c.requires.at.0 = c.effect_of-effect.ensures c.requires.at.0 (subst (λ (o : Option InProgress). IsAt c.requires.at.0 (Some Acked) o) (sym c.call-2.ensures) c.requires.at.1) in
    let asked : c.ioctl_of-ioctl.result ≡ ioctl_in (caller_at k.callers c.args.c).call = c.ioctl_of-ioctl.ensures ∙ ap (λ (o : Option InProgress). ioctl_in o) c.call.ensures in
    let can = subst (λ (e : Effect). CanApply k.setup k.state (memory_of k.setup k.log.past) c.ioctl_of-ioctl.result e) (sym effect) (subst (λ (i : Ioctl). CanApply k.setup k.state (memory_of k.setup k.log.past) i c.requires.at.0) (sym asked) (can_make k c.args.c c.requires.at.0 c.requires.ready c.requires.at.1)) in
    let applied = c.apply.ensures.applied k.setup (memory_of k.setup k.log.past) can in
    rw (c.freed.ensures, c.note.ensures) (freed_count k c.args.c c.effect_of-effect.result c.apply.new.self c.requires.ready applied)

pub free_all-requires-clause-room : goal.free_all-requires-clause-room
free_all-requires-clause-room c =
    let k = c.args.core.now in
    let effect : c.effect_of-effect.result ≡ c.requires.at.0 = c.effect_of-effect.ensures c.requires.at.0 (subst (λ (o : Option InProgress). IsAt c.requires.at.0 (Some Acked) o) (sym c.call-2.ensures) c.requires.at.1) in
    let asked : c.ioctl_of-ioctl.result ≡ ioctl_in (caller_at k.callers c.args.c).call = c.ioctl_of-ioctl.ensures ∙ ap (λ (o : Option InProgress). ioctl_in o) c.call.ensures in
    let can = subst (λ (e : Effect). CanApply k.setup k.state (memory_of k.setup k.log.past) c.ioctl_of-ioctl.result e) (sym effect) (subst (λ (i : Ioctl). CanApply k.setup k.state (memory_of k.setup k.log.past) i c.requires.at.0) (sym asked) (can_make k c.args.c c.requires.at.0 c.requires.ready c.requires.at.1)) in
    let applied = c.apply.ensures.applied k.setup (memory_of k.setup k.log.past) can in
    let at = subst (λ (e : Effect). IsAt e (Some Acked) (caller_at k.callers c.args.c).call) (sym effect) c.requires.at.1 in
    rw (c.freed.ensures, c.note.ensures) (freed_room k c.args.c c.effect_of-effect.result c.apply.new.self c.requires.ready at applied)

pub returns : goal.returns
returns c =
    let k = c.args.core.now in
    let effect : c.effect_of-effect.result ≡ c.requires.at.0 = c.effect_of-effect.ensures c.requires.at.0 (subst (λ (o : Option InProgress). IsAt c.requires.at.0 (Some Acked) o) (sym c.call-2.ensures) c.requires.at.1) in
    let asked : c.ioctl_of-ioctl.result ≡ ioctl_in (caller_at k.callers c.args.c).call = c.ioctl_of-ioctl.ensures ∙ ap (λ (o : Option InProgress). ioctl_in o) c.call.ensures in
    let can = subst (λ (e : Effect). CanApply k.setup k.state (memory_of k.setup k.log.past) c.ioctl_of-ioctl.result e) (sym effect) (subst (λ (i : Ioctl). CanApply k.setup k.state (memory_of k.setup k.log.past) i c.requires.at.0) (sym asked) (can_make k c.args.c c.requires.at.0 c.requires.ready c.requires.at.1)) in
    let applied = c.apply.ensures.applied k.setup (memory_of k.setup k.log.past) can in
    let at = subst (λ (e : Effect). IsAt e (Some Acked) (caller_at k.callers c.args.c).call) (sym effect) c.requires.at.1 in
    let all : List Entry = onto (k.turns + 1) (Caller c.args.c) (Change c.effect_of-effect.result ∷ frees (runs c.apply.new.self.freed.list)) k.log.past in
    let past : c.free_all.new.log.past ≡ all = c.free_all.ensures ∙ rw (c.freed.ensures, c.note.ensures) refl in
    let log : c.free_all.new.log ≡ record { past = all; spare = c.free_all.new.log.spare } = logged c.free_all.new.log all past in
    rw (log, c.note.ensures, c.step.ensures) (change_turn k c.args.c c.effect_of-effect.result c.apply.new.self c.free_all.new.log.spare c.requires.ready at applied c.apply.ensures.generation)
