use Rattle.std.proofs.Common.{◌≡◌, ◌∙◌, List, [], ◌∷◌, ◌++◌, arith, ap, length, sym, subst}
use Rattle.std.proofs.lemmas.List.{length-reverse}
use Rattle.gm_machine.specs.Steps.{Seen}
use Rattle.gm_publish.proofs.Counts.{counted_le}
use Rattle.gm_views.specs.declared.shown.Change.{Change}
use Rattle.gm_publish.specs.Kept.{AreTied}
use Rattle.gm_publish.proofs.Turning.{Publishes, adds_none, adds_one, noted, noted_later, published_tied, room_tied, steps_add, still_tied}
use Rattle.gm_publish.proofs.published.turning.take_turn.Goals as goal

pub ahead-requires-clause-turns : goal.ahead-requires-clause-turns
ahead-requires-clause-turns g c =
    let m = c.args.machine.now in
    let k = counted_le m.turns m.past c.requires.tied.sound.counted in
    let same : c.make_room.new.self.turns ≡ m.turns = ap (λ (s : Seen). s.turns) c.in_ok-make_room.ensures.ok in
    omega (arith, k, same, ap length c.history-entries.ensures.history, length-reverse c.history-entries.result.now)

pub step-requires-clause-turns : goal.step-requires-clause-turns
step-requires-clause-turns g c =
    let m = c.args.machine.now in
    let k = counted_le m.turns m.past c.requires.tied.sound.counted in
    let same : c.make_room.new.self.turns ≡ m.turns = ap (λ (s : Seen). s.turns) c.in_ok-make_room.ensures.ok in
    omega (arith, k, same, ap length c.history-entries.ensures.history, length-reverse c.history-entries.result.now)

pub returns-in_default-clause-tied : goal.returns-in_default-clause-tied
returns-in_default-clause-tied g c =
    let m = c.make_room.new.self in
    let n = c.step.new.self in
    let t = room_tied c.args.machine.now m c.args.publisher.now c.args.kept.now.items _ c.in_ok-make_room.ensures.ok c.requires.tied in
    let d = steps_add m n c.args.actor c.args.how c.step.result c.step.ensures t.sound in
    still_tied m n c.args.publisher.now c.args.kept.now.items t d.sound (adds_none m n c.args.actor t.sound d (c.in_default.ensures n c.step.result c.step.ensures))

pub step-outcome-requires-clause-turns : goal.step-outcome-requires-clause-turns
step-outcome-requires-clause-turns g c =
    let m = c.args.machine.now in
    let k = counted_le m.turns m.past c.requires.tied.sound.counted in
    let same : c.make_room.new.self.turns ≡ m.turns = ap (λ (s : Seen). s.turns) c.in_ok-make_room.ensures.ok in
    omega (arith, k, same, ap length c.history-entries.ensures.history, length-reverse c.history-entries.result.now)

pub publish-requires-clause-later : goal.publish-requires-clause-later
publish-requires-clause-later g c =
    let m = c.make_room.new.self in
    let n = c.step-outcome.new.self in
    let p = c.args.publisher.now in
    let change = c.change_by.result in
    let t = room_tied c.args.machine.now m p c.args.kept.now.items _ c.in_ok-make_room.ensures.ok c.requires.tied in
    let d = steps_add m n c.args.actor c.args.how c.step-outcome.result c.step-outcome.ensures t.sound in
    let one = adds_one m n c.args.actor t.sound d c.in-Some.ahead (c.in-Some.ensures n c.step-outcome.result c.step-outcome.ensures) in
    let shown : Publishes m.past n.past change = subst (Publishes m.past n.past) (sym c.change_by.ensures) one in
    noted_later m p c.append.new.self change (noted m p c.append.new.self c.args.kept.now.items change t c.in_ok-append.ensures.ok) shown.later

pub returns-clause-tied : goal.returns-clause-tied
returns-clause-tied g c =
    let m = c.make_room.new.self in
    let n = c.step-outcome.new.self in
    let p = c.args.publisher.now in
    let changes = c.args.kept.now.items in
    let change = c.change_by.result in
    let t = room_tied c.args.machine.now m p changes _ c.in_ok-make_room.ensures.ok c.requires.tied in
    let d = steps_add m n c.args.actor c.args.how c.step-outcome.result c.step-outcome.ensures t.sound in
    let one = adds_one m n c.args.actor t.sound d c.in-Some.ahead (c.in-Some.ensures n c.step-outcome.result c.step-outcome.ensures) in
    let shown : Publishes m.past n.past change = subst (Publishes m.past n.past) (sym c.change_by.ensures) one in
    let kept : c.push_reserved.new.self.items ≡ changes ++ change ∷ [] =
    c.push_reserved.ensures.items
    ∙ (ap (λ (l : List Change). l ++ c.change_by-2.result ∷ []) c.reserve.ensures.items
    ∙ ap (λ (x : Change). changes ++ x ∷ []) (c.change_by-2.ensures ∙ sym c.change_by.ensures)) in
    subst (AreTied n c.publish.new.self) (sym kept)
    (published_tied m n p c.append.new.self c.publish.new.self changes change t d.sound shown (noted m p c.append.new.self changes change t c.in_ok-append.ensures.ok) c.publish.ensures.published c.publish.ensures.waiting)
