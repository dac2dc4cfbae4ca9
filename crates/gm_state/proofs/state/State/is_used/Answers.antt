use Rattle.std.proofs.Common.{None, List, Option, ap, get_or, subst, sym, ◌∙◌}
use Rattle.gm_file.specs.Views.{FileView}
use Rattle.gm_state.proofs.Storing.{some_used}
use Rattle.gm_state.proofs.state.State.is_used.Goals as goal
use Rattle.gm_state.specs.Stand.{StateIs}
use Rattle.gm_state.specs.Views.{StateView}
use Rattle.gm_store.specs.Stored.{IsState}

pub returns-in-Some-Some : goal.returns-in-Some-Some
returns-in-Some-Some c = λ s m i.
    let inside = subst (λ (x : StateView). StateIs s x m) (sym c.self.view_is) i in
    let files = ap (λ (xs : List (Option FileView)). get_or xs c.args.file None) c.files.ensures in
    let seen = c.in-Some-Some.ensures.lookup.3.1 None in
    sym (some_used c.in-Some-Some.field-0-0 c.args.file m.stored.flat (subst (λ (o : Option FileView). IsState o c.args.file m.stored.flat.files) (sym files ∙ (sym seen ∙ c.in-Some-Some.field-0-is)) (inside.store.files.each c.args.file).state))
