-- A block is what a first use adds where one is open and free.
use Rattle.std.proofs.Common.{subst, ℕ, IfNone}
use Rattle.gm_flat.specs.RightLook.{IsFull}
use Rattle.gm_store.proofs.Uses.{block_first}
use Rattle.gm_store.specs.Stored.{StoreStands, Stored}
use Rattle.gm_store.specs.Views.{StoreView}
use Rattle.gm_store.proofs.store.Store.use_block.Goals as goal

pub returns-in-Some-clause-some : goal.returns-in-Some-clause-some
returns-in-Some-clause-some c = λ frames k st. block_first frames c.args.self.now c.add_block.new.self k c.args.file c.args.index c.args.first c.block_pages-count.result c.in-Some.folio st c.requires.first c.block_pages-count.ensures c.requires.open (c.in-Some.ensures.some frames k st)

pub returns-in-None-clause-none : goal.returns-in-None-clause-none
returns-in-None-clause-none c = subst (λ (v : StoreView). IfNone c.use_one.result ((frames : ℕ) (k : Stored) → StoreStands frames v k → IsFull frames k.flat.folios)) c.in-None.ensures.unchanged c.use_one.ensures.none
