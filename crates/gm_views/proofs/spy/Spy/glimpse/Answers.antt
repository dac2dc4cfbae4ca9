use Rattle.std.proofs.Common.{◌∙◌, refl, ap, sym}
use Rattle.gm_views.specs.Spies.{SpySeen}
use Rattle.gm_views.proofs.Spying.{some_answers}
use Rattle.gm_views.proofs.spy.Spy.glimpse.Goals as goal

pub returns-clause-some : goal.returns-clause-some
returns-clause-some c =
    let h = some_answers c.self.inside.door.refused c.self.inside.told_at c.self.inside.last c.self.inside.at c.args.page c.in_ok-seen.seen _ _ _ refl refl refl refl c.self.invariant c.in_ok-seen.ensures.some in
    let asked = c.requires ∙ ap (λ (s : SpySeen). s.told_at) (sym c.self.view_is) in
    rw (← c.self.view_is, c.max-at.ensures, asked, c.in_ok-seen.ensures.count) h
