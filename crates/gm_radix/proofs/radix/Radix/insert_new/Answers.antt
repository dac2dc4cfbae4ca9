use Rattle.gm_radix.proofs.Descents.{length-put_new}
use Rattle.gm_radix.proofs.radix.Radix.insert_new.Goals as goal

pub insert_counted-requires-clause-added : goal.insert_counted-requires-clause-added
insert_counted-requires-clause-added g c = length-put_new c.args.index c.args.value c.args.self.now.entries c.requires.free
