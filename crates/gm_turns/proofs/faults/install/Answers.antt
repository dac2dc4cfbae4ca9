use Rattle.std.proofs.Common.{ap, subst, sym, ℕ, ◌%◌, ◌≡◌}
use Rattle.gm_base.specs.declared.leaf.Leaf.{Leaf}
use Rattle.gm_base.specs.declared.numbers.TheConstants.{BLOCK_PAGES}
use Rattle.gm_flat.specs.Replay.{flat}
use Rattle.gm_mapping.proofs.Filling.{InstallsIn}
use Rattle.gm_mapping.specs.Alike.{LieAlike}
use Rattle.gm_state.specs.Views.{StateView}
use Rattle.gm_turns.proofs.Installing.{install_turn, leaf_is, level_asked, may_make_leaf, may_release}
use Rattle.gm_turns.proofs.faults.install.Goals as goal
use Rattle.gm_turns.specs.Standing.{memory_of}

pub release-requires : goal.release-requires
release-requires c = may_release c.args.core.now c.args.v c.args.access c.args.backing c.requires.ready c.requires.got

pub leaf_of-requires : goal.leaf_of-requires
leaf_of-requires c = λ e.
    let k = c.args.core.now in
    let level = level_asked k c.args.v c.args.access c.level-level.result c.page-page.result c.hull.result c.requires.ready c.page-page.ensures c.hull.ensures c.level-level.ensures in
    subst (λ (p : ℕ). LieAlike p c.args.backing) (sym c.page-page.ensures) (may_make_leaf k c.args.v c.args.access c.args.backing c.level-level.result c.requires.ready c.requires.got level e)

pub returns : goal.returns
returns c =
    let k = c.args.core.now in
    let memory = memory_of k.setup k.log.past in
    let tie = c.requires.ready.settled.stands.state.is in
    let level = level_asked k c.args.v c.args.access c.level-level.result c.page-page.result c.hull.result c.requires.ready c.page-page.ensures c.hull.ensures c.level-level.ensures in
    let leaf = leaf_is c.level-level.result c.args.access c.args.backing (flat k.log.past) c.page-page.result c.kind-kind.result c.find.result c.is_writable-writable.result c.leaf_of.result c.leaf_of.ensures.leaf c.page-page.ensures c.kind-kind.ensures c.is_writable-writable.ensures (c.find.ensures k.setup memory tie) in
    rw (c.note.ensures, c.settle.ensures, c.page-page.ensures)
    (install_turn k c.args.v c.args.access c.args.backing c.level-level.result c.install.new.self c.release.new.self c.requires.ready c.requires.got level
    (subst (λ (l : Leaf). InstallsIn k.mmu c.install.new.self l) leaf (record { over_is = c.install.ensures.over; rest = c.install.ensures.rest }))
    (record { slots_are = ap (λ (x : StateView). x.slots) c.release.ensures.others; is = c.release.ensures.is k.setup memory tie }))
