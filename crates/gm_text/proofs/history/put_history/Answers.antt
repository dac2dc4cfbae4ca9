use Rattle.std.proofs.Common.{codes}
use Rattle.gm_io.proofs.Adding.{Adds_after, Adds_longer}
use Rattle.gm_text.specs.Text.{machine_text, entries_text}
use Rattle.gm_text.proofs.history.put_history.Goals as goal

pub returns-in-Err : goal.returns-in-Err
returns-in-Err g c = Adds_longer _ _ (codes "gmem-history 2\n") _ _ (c.in-Err.ensures {u = tt})

pub returns-in-Err-put_setup : goal.returns-in-Err-put_setup
returns-in-Err-put_setup g c =
    Adds_after _ _ _ (codes "gmem-history 2\n") _ tt _ (c.in-Ok.ensures {u = tt})
    (Adds_longer _ _ (machine_text c.args.setup) _ _ (c.in-Err-put_setup.ensures {u = tt}))

pub returns-in-Err-put_entries : goal.returns-in-Err-put_entries
returns-in-Err-put_entries g c =
    Adds_after _ _ _ (codes "gmem-history 2\n") _ tt _ (c.in-Ok.ensures {u = tt})
    (Adds_after _ _ _ (machine_text c.args.setup) _ tt _ (c.in-Ok-put_setup.ensures {u = tt})
    (Adds_longer _ _ (entries_text c.args.entries.now) _ _ (c.in-Err-put_entries.ensures {u = tt})))

pub returns : goal.returns
returns g c =
    Adds_after _ _ _ (codes "gmem-history 2\n") _ tt _ (c.in-Ok.ensures {u = tt})
    (Adds_after _ _ _ (machine_text c.args.setup) _ tt _ (c.in-Ok-put_setup.ensures {u = tt})
    (Adds_after _ _ _ (entries_text c.args.entries.now) _ tt _ (c.in-Ok-put_entries.ensures {u = tt}) c.put_pieces.ensures))
