use Rattle.std.proofs.Common.{◌≡◌, ap, arith, length, subst}
use Rattle.std.proofs.lemmas.List.{length-reverse}
use Rattle.gm_flat.specs.declared.views.Sighting.{Sighting}
use Rattle.gm_base.specs.declared.values.Actor.TheVariants.{Vcpu}
use Rattle.gm_machine.specs.Deposits.{Deposits}
use Rattle.gm_machine.specs.Flags.{with_flag}
use Rattle.gm_machine.specs.Steps.{Seen}
use Rattle.gm_publish.proofs.Counts.{counted_le}
use Rattle.gm_publish.proofs.Turning.{deposit_tied, deposits_as, room_tied}
use Rattle.gm_publish.specs.Publisheds.{DepositsAs, PublishedSeen}
use Rattle.gm_publish.specs.Sightings.{present}
use Rattle.gm_turns.specs.Depositing.{IsTrueSight}
use Rattle.gm_publish.proofs.published.Published.deposit.Goals as goal

pub deposit-requires-clause-turns : goal.deposit-requires-clause-turns
deposit-requires-clause-turns c =
    let m = c.self.inside.machine in
    let k = counted_le m.turns m.past c.self.invariant.sound.counted in
    let same : c.make_room.new.self.turns ≡ m.turns = ap (λ (s : Seen). s.turns) c.in_ok-make_room.ensures.ok in
    omega (arith, k, same, ap length c.history-entries.ensures.history, length-reverse c.history-entries.result.now)

pub returns-clause-otherwise : goal.returns-clause-otherwise
returns-clause-otherwise c =
    let m = c.self.inside.machine in
    let n = c.deposit.new.self in
    let v = c.args.vcpu in
    let old : PublishedSeen = record { orders = m.orders; past = m.past; turns = m.turns; published = c.self.inside.publisher.published } in
    let new : PublishedSeen = record { orders = n.orders; past = n.past; turns = n.turns; published = c.self.inside.publisher.published } in
    let d = subst (λ (s : Seen). Deposits s n v c.in_ok-kept.kept) c.in_ok-make_room.ensures.ok c.deposit.ensures.deposits in
    subst (λ (p : PublishedSeen). (IsTrueSight v c.args.sight p.past → ⊥) → DepositsAs p new v (present v p.past)) c.self.view_is
    (λ not_true. subst (λ (s : Sighting). DepositsAs old new v s) (c.in_ok-kept.ensures.other not_true) (deposits_as old new (with_flag m.room (Vcpu v)) n.room v c.in_ok-kept.kept d))

pub invariant_of-self-2 : goal.invariant_of-self-2
invariant_of-self-2 c =
    let t = room_tied c.self.inside.machine c.make_room.new.self c.self.inside.publisher c.self.inside.kept.items _ c.in_ok-make_room.ensures.ok c.self.invariant in
    deposit_tied c.make_room.new.self c.deposit.new.self c.self.inside.publisher c.self.inside.kept.items c.args.vcpu c.in_ok-kept.kept t c.deposit.ensures.deposits
