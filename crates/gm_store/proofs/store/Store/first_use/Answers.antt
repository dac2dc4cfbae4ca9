-- One folio is added where no block is open.
use Rattle.std.proofs.Common.{subst, sym, ℕ, ◌-◌, ◌%◌, Option, List}
use Rattle.std.proofs.lemmas.Bool.{both_ways}
use Rattle.gm_file.specs.Views.{FileView}
use Rattle.gm_flat.specs.RightLives.{TakesBlock}
use Rattle.gm_store.proofs.Basics.{where_some}
use Rattle.gm_store.proofs.Uses.{not_open}
use Rattle.gm_store.specs.Added.{FirstUsed}
use Rattle.gm_store.specs.Opened.{IsOpenBlock}
use Rattle.gm_store.specs.Stored.{StoreStands, Stored}
use Rattle.gm_store.specs.Views.{StoreView, file_in}
use Rattle.gm_store.specs.declared.first_use.Used.{Used}
use Rattle.gm_store.proofs.store.Store.first_use.Goals as goal

pub returns-else-is_open_block-clause-some : goal.returns-else-is_open_block-clause-some
returns-else-is_open_block-clause-some c =
    where_some (λ (used : Used). (frames : ℕ) (k : Stored) → StoreStands frames c.args.self.now k → (TakesBlock frames c.args.file c.args.index k.flat → ⊥) → FirstUsed frames c.args.file c.args.index used c.use_one.new.self k) _ c.use_one.result
    (λ used h frames k st. h frames k st (not_open frames c.args.self.now k c.args.file c.args.index st c.requires.inside (λ o. both_ways c.is_open_block.result c.if-is_open_block.false (c.is_open_block.ensures.no (subst (λ (fs : List (Option FileView)). IsOpenBlock (file_in fs c.args.file) (c.args.index - c.args.index % 512)) (sym c.deref.ensures.value) (subst (λ (v : StoreView). IsOpenBlock (file_in v.files c.args.file) (c.args.index - c.args.index % 512)) (sym c.self.view_is) o))))))
    c.use_one.ensures.some
