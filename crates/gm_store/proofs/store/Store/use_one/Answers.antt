-- One folio is what a first use adds where it takes no block.
use Rattle.gm_store.proofs.Uses.{one_first}
use Rattle.gm_store.proofs.store.Store.use_one.Goals as goal

pub returns-clause-some : goal.returns-clause-some
returns-clause-some c = λ frames k st no_block. one_first frames c.args.file c.args.index c.in_ok-own.own c.add_zero.new.self k (c.in_ok-own.ensures.some frames k st) no_block
