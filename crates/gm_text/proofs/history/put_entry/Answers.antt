use Rattle.std.proofs.Common.{codes, [], ◌∷◌}
use Rattle.std.specs.Fmt.{decimal}
use Rattle.gm_io.proofs.Adding.{Adds_after, Adds_longer}
use Rattle.gm_text.specs.Text.{joined, actor_letter, actor_number, what_text}
use Rattle.gm_text.proofs.history.put_entry.Goals as goal

pub returns-in-Err : goal.returns-in-Err
returns-in-Err g c =
    Adds_longer _ _ (joined (decimal c.args.entry.now.turn ∷ codes " " ∷ actor_letter c.args.entry.now.actor ∷ decimal (actor_number c.args.entry.now.actor) ∷ codes " " ∷ [])) _ _ (c.in-Err.ensures {u = tt})

pub returns-in-Err-put_what : goal.returns-in-Err-put_what
returns-in-Err-put_what g c =
    Adds_after _ _ _ (joined (decimal c.args.entry.now.turn ∷ codes " " ∷ actor_letter c.args.entry.now.actor ∷ decimal (actor_number c.args.entry.now.actor) ∷ codes " " ∷ [])) _ tt _ (c.in-Ok.ensures {u = tt})
    (Adds_longer _ _ (what_text c.args.entry.now.what) _ _ (c.in-Err-put_what.ensures {u = tt}))

pub returns : goal.returns
returns g c =
    Adds_after _ _ _ (joined (decimal c.args.entry.now.turn ∷ codes " " ∷ actor_letter c.args.entry.now.actor ∷ decimal (actor_number c.args.entry.now.actor) ∷ codes " " ∷ [])) _ tt _ (c.in-Ok.ensures {u = tt})
    (Adds_after _ _ _ (what_text c.args.entry.now.what) _ tt _ (c.in-Ok-put_what.ensures {u = tt}) c.add.ensures)
