-- What the file tells, and nothing of a file that isn't there.
use Rattle.std.proofs.Common.{subst, sym, ◌≡◌, Some, arith}
use Rattle.std.proofs.lemmas.Grind.{common_steps}
use Rattle.gm_store.proofs.Telling.{all_cached, first_free}
use Rattle.gm_store.specs.Stored.{StoreStands}
use Rattle.gm_store.specs.Views.{StoreView, file_in}
use Rattle.gm_store.specs.contracts.store.Store.{the_view}
use Rattle.gm_store.proofs.store.Store.next_free.Goals as goal

there : (c : goal.After-next_free) → file_in (the_view c.self.inside).files c.args.file ≡ Some c.in-Some-Some.x
there c = grind (arith, common_steps, c.in-Some-Some.ensures.lookup)

pub returns-in-Some-Some-clause-first : goal.returns-in-Some-Some-clause-first
returns-in-Some-Some-clause-first c = λ frames k st. first_free frames (the_view c.self.inside) k c.args.file c.args.lo c.args.hi c.in-Some-Some.x c.next_free.result (subst (λ (v : StoreView). StoreStands frames v k) (sym c.self.view_is) st) (there c) c.next_free.ensures.first c.next_free.ensures.below

pub returns-in-Some-Some-clause-none : goal.returns-in-Some-Some-clause-none
returns-in-Some-Some-clause-none c = λ frames k st. all_cached frames (the_view c.self.inside) k c.args.file c.args.lo c.args.hi c.in-Some-Some.x c.next_free.result (subst (λ (v : StoreView). StoreStands frames v k) (sym c.self.view_is) st) (there c) c.next_free.ensures.none
