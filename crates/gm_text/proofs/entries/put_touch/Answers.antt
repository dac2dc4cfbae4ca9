use Rattle.std.proofs.Common.{codes, ◌++◌}
use Rattle.gm_io.proofs.Adding.{Adds_after, Adds_longer}
use Rattle.gm_text.specs.Text.{access_text, backing_text}
use Rattle.gm_text.proofs.entries.put_touch.Goals as goal

pub returns-in-Err : goal.returns-in-Err
returns-in-Err g c = Adds_longer _ _ (codes "touch " ++ access_text c.args.access) _ _ (c.in-Err.ensures {u = tt})

pub returns-in-Err-put_backing : goal.returns-in-Err-put_backing
returns-in-Err-put_backing g c =
    Adds_after _ _ _ (codes "touch " ++ access_text c.args.access) _ tt _ (c.in-Ok.ensures {u = tt})
    (Adds_longer _ _ (codes " " ++ backing_text c.args.backing) _ _ (c.in-Err-put_backing.ensures {u = tt}))

pub returns : goal.returns
returns g c =
    Adds_after _ _ _ (codes "touch " ++ access_text c.args.access) _ tt _ (c.in-Ok.ensures {u = tt})
    (Adds_after _ _ _ (codes " " ++ backing_text c.args.backing) _ tt _ (c.in-Ok-put_backing.ensures {u = tt})
    c.put_read.ensures)
