use Rattle.std.proofs.Common.{arith, sym, ◌∙◌}
use Rattle.gm_radix.proofs.Descents.{length-put_again, length-put_new}
use Rattle.gm_radix.proofs.radix.Radix.insert.Goals as goal

pub insert_counted-requires-clause-added : goal.insert_counted-requires-clause-added
insert_counted-requires-clause-added g c =
    omega (arith, length-put_again c.args.index 0 _ c.args.value c.in-Some.field-0 c.args.self.now.entries c.get.ensures.rises (sym c.get.ensures.value ∙ c.in-Some.is))

pub insert_counted-requires-in-None-clause-added : goal.insert_counted-requires-in-None-clause-added
insert_counted-requires-in-None-clause-added g c =
    length-put_new c.args.index c.args.value c.args.self.now.entries (sym c.get.ensures.value ∙ c.in-None.is)
