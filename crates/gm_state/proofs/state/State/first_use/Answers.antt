use Rattle.std.proofs.Common.{subst, sym}
use Rattle.gm_state.proofs.Storing.{first_state, own_live}
use Rattle.gm_state.proofs.state.State.first_use.Goals as goal
use Rattle.gm_state.specs.Stand.{StateIs}
use Rattle.gm_state.specs.Views.{StateView}

pub hold-requires : goal.hold-requires
hold-requires c =
    let t = c.requires.stands in
    let inside = subst (λ (x : StateView). StateIs t.0 x t.1) (sym c.self.view_is) t.2 in
    own_live t.0.frames c.args.file c.args.index c.in-Some.used c.self.inside.store c.first_use.new.self t.1.stored inside.store (c.in-Some.ensures.some t.0.frames t.1.stored inside.store)

pub returns-in-Some-clause-some : goal.returns-in-Some-clause-some
returns-in-Some-clause-some c = λ s m i.
    let inside = subst (λ (x : StateView). StateIs s x m) (sym c.self.view_is) i in
    let f = c.in-Some.ensures.some s.frames m.stored inside.store in
    first_state s c.args.file c.args.index c.in-Some.used _ c.first_use.new.self c.hold.new.self m f (c.hold.ensures.stands s.frames _ f.stands) inside

pub returns-in-None-clause-none : goal.returns-in-None-clause-none
returns-in-None-clause-none c = λ s m i.
    let inside = subst (λ (x : StateView). StateIs s x m) (sym c.self.view_is) i in
    c.in-None.ensures.none s.frames m.stored inside.store
