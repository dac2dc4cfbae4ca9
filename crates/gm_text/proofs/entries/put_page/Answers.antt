use Rattle.std.proofs.Common.{codes, ◌++◌}
use Rattle.std.specs.Fmt.{decimal}
use Rattle.std.proofs.lemmas.List.{append-nil}
use Rattle.gm_io.proofs.Adding.{Adds_after, Adds_longer}
use Rattle.gm_text.proofs.entries.put_page.Goals as goal

pub returns-in-Err : goal.returns-in-Err
returns-in-Err g c = Adds_longer _ _ (codes "page index=" ++ decimal c.args.index) _ _ (rw (append-nil (decimal c.args.index)) at (c.in-Err.ensures {u = tt}))

pub returns : goal.returns
returns g c = Adds_after _ _ _ (codes "page index=" ++ decimal c.args.index) _ tt _ (rw (append-nil (decimal c.args.index)) at (c.in-Ok.ensures {u = tt})) c.put_folio.ensures
