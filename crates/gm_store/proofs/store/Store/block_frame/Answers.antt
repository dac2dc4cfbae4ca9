-- What the file tells, and nothing of a file that isn't there.
use Rattle.std.proofs.Common.{subst, sym, ◌≡◌, Some, None, arith}
use Rattle.std.proofs.lemmas.Grind.{common_steps}
use Rattle.gm_store.proofs.BlockFrames.{block_none, block_some, no_block}
use Rattle.gm_store.specs.Stored.{StoreStands}
use Rattle.gm_store.specs.Views.{StoreView, file_in}
use Rattle.gm_store.specs.contracts.store.Store.{the_view}
use Rattle.gm_store.proofs.store.Store.block_frame.Goals as goal

there : (c : goal.After-block_frame) → file_in (the_view c.self.inside).files c.args.file ≡ Some c.in-Some-Some.x
there c = grind (arith, common_steps, c.in-Some-Some.ensures.lookup)

pub returns-in-Some-Some-clause-some : goal.returns-in-Some-Some-clause-some
returns-in-Some-Some-clause-some c = λ frames k st. block_some frames (the_view c.self.inside) k c.args.file c.args.index c.in-Some-Some.x c.block_frame.result (subst (λ (v : StoreView). StoreStands frames v k) (sym c.self.view_is) st) (there c) c.block_frame.ensures.some c.block_frame.ensures.follow

pub returns-in-Some-Some-clause-none : goal.returns-in-Some-Some-clause-none
returns-in-Some-Some-clause-none c = λ frames k st. block_none frames (the_view c.self.inside) k c.args.file c.args.index c.in-Some-Some.x c.block_frame.result (subst (λ (v : StoreView). StoreStands frames v k) (sym c.self.view_is) st) (there c) c.block_frame.ensures.none

missing : (c : goal.In_default-2) → file_in (the_view c.self.inside).files c.args.file ≡ None
missing c = grind (arith, common_steps, c.get.ensures.lookup, c.in_default.is)

pub returns-in_default-2-clause-none : goal.returns-in_default-2-clause-none
returns-in_default-2-clause-none c = λ frames k st. no_block frames (the_view c.self.inside) k c.args.file c.args.index (subst (λ (v : StoreView). StoreStands frames v k) (sym c.self.view_is) st) (missing c)
