use Rattle.std.proofs.Common.{◌≡◌, ℕ, ◌+◌, ◌-◌, Some, subst, sym, ◌∙◌, arith}
use Rattle.gm_flat.specs.Replay.{flat}
use Rattle.gm_flat.specs.RightLives.{frame_of}
use Rattle.gm_laws.proofs.Kit.{some_same}
use Rattle.gm_store.proofs.Telling.{frame_within}
use Rattle.gm_flat.specs.declared.effect.Backing.TheVariants.{Folio as InFolio}
use Rattle.gm_turns.proofs.GuestTouches.{IsServedBy, begins_before, from_folio, from_user}
use Rattle.gm_turns.specs.Standing.{memory_of, stored_of}
use Rattle.gm_turns.proofs.touches.backing_of.Goals as goal

pub overflow_sub-offset : goal.overflow_sub-offset
overflow_sub-offset c = begins_before c.args.core.now c.args.v _ c.args.access c.args.fill c.requires.settled c.requires.actor c.requires.serves (c.number.ensures.number ∙ c.page.ensures)

pub overflow_add-result : goal.overflow_add-result
overflow_add-result c =
    let u = (from_user c.args.core.now c.args.v _ c.args.access c.args.fill c.in-User.first c.requires.settled c.requires.actor c.requires.serves c.in-User.is (c.number.ensures.number ∙ c.page.ensures)).1 in
    let l = c.requires.settled.limits.user in
    omega arith

pub overflow_cast-frame-in-Frame : goal.overflow_cast-frame-in-Frame
overflow_cast-frame-in-Frame c =
    let k = c.args.core.now in
    let f = from_folio k c.args.v _ c.args.access c.args.fill c.in-Frame.first c.requires.settled c.requires.actor c.requires.is_inside c.requires.serves c.in-Frame.is (c.number.ensures.number ∙ c.page.ensures) in
    let b = frame_within k.setup.frames k.state.store (stored_of k.setup k.log.past) f.serial _ c.requires.settled.stands.state.is.store f.live in
    let l = c.requires.settled.limits.frames in
    omega arith

pub unreachable-requires : goal.unreachable-requires
unreachable-requires c =
    let k = c.args.core.now in
    let f = from_folio k c.args.v _ c.args.access c.args.fill c.in-Frame.first c.requires.settled c.requires.actor c.requires.is_inside c.requires.serves c.in-Frame.is (c.number.ensures.number ∙ c.page.ensures) in
    let e = c.serial_of.ensures k.setup (memory_of k.setup k.log.past) f.serial c.requires.settled.stands.state.is f.live in
    let n = sym e ∙ c.in-None.is in
    absurd (cc)

pub returns-in-User-clause-served_by : goal.returns-in-User-clause-served_by
returns-in-User-clause-served_by c = (from_user c.args.core.now c.args.v _ c.args.access c.args.fill c.in-User.first c.requires.settled c.requires.actor c.requires.serves c.in-User.is (c.number.ensures.number ∙ c.page.ensures)).0

pub returns-in-User-clause-there : goal.returns-in-User-clause-there
returns-in-User-clause-there c = (from_user c.args.core.now c.args.v _ c.args.access c.args.fill c.in-User.first c.requires.settled c.requires.actor c.requires.serves c.in-User.is (c.number.ensures.number ∙ c.page.ensures)).1

pub returns-in-Some-clause-served_by : goal.returns-in-Some-clause-served_by
returns-in-Some-clause-served_by c =
    let k = c.args.core.now in
    let f = from_folio k c.args.v _ c.args.access c.args.fill c.in-Frame.first c.requires.settled c.requires.actor c.requires.is_inside c.requires.serves c.in-Frame.is (c.number.ensures.number ∙ c.page.ensures) in
    let e = c.serial_of.ensures k.setup (memory_of k.setup k.log.past) f.serial c.requires.settled.stands.state.is f.live in
    subst (λ (n : ℕ). IsServedBy k c.args.v c.args.access c.args.fill (InFolio (record { serial = n; frame = c.in-Frame.first + (c.number.result - c.args.fill.leaf.first) }))) (some_same _ _ (sym e ∙ c.in-Some.is)) f.served_by

pub returns-in-Some-clause-there : goal.returns-in-Some-clause-there
returns-in-Some-clause-there c =
    let k = c.args.core.now in
    let f = from_folio k c.args.v _ c.args.access c.args.fill c.in-Frame.first c.requires.settled c.requires.actor c.requires.is_inside c.requires.serves c.in-Frame.is (c.number.ensures.number ∙ c.page.ensures) in
    let e = c.serial_of.ensures k.setup (memory_of k.setup k.log.past) f.serial c.requires.settled.stands.state.is f.live in
    subst (λ (n : ℕ). frame_of n (flat k.log.past).folios ≡ Some (c.in-Frame.first + (c.number.result - c.args.fill.leaf.first))) (some_same _ _ (sym e ∙ c.in-Some.is)) f.live
