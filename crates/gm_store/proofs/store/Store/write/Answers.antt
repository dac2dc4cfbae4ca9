-- The frame's page has the word.
use Rattle.std.proofs.Common.{subst, sym}
use Rattle.gm_store.proofs.Telling.{word_put}
use Rattle.gm_store.specs.Stored.{StoreStands}
use Rattle.gm_store.specs.Views.{StoreView}
use Rattle.gm_store.specs.contracts.store.Store.{the_view}
use Rattle.gm_store.proofs.store.Store.write.Goals as goal

pub returns-clause-stands : goal.returns-clause-stands
returns-clause-stands c = λ frames k serial st e. word_put frames (the_view c.self.inside) c.write.new.self k serial c.args.frame c.args.word c.args.value (subst (λ (v : StoreView). StoreStands frames v k) (sym c.self.view_is) st) e c.requires.word c.write.ensures.page
