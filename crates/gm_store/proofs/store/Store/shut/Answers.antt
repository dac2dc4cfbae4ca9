-- What is due after a close.
use Rattle.std.proofs.Common.{subst, sym, ◌≡◌, ◌∙◌, ◌++◌, ap, Option, Some, None, length, set, ℕ, List, []}
use Rattle.std.specs.Prelude.{IsSome}
use Rattle.std.proofs.lemmas.List.{set-set}
use Rattle.gm_base.specs.declared.numbers.TheConstants.{PAGE_LIMIT}
use Rattle.gm_base.specs.declared.values.Folio.{Folio}
use Rattle.gm_file.specs.Views.{FileView, FolioList}
use Rattle.gm_flat.specs.declared.effect.Effect.TheVariants.{Shut}
use Rattle.gm_pool.specs.Pools.{Frames}
use Rattle.gm_radix.specs.Entries.{within}
use Rattle.gm_store.proofs.Clearing.{left-length}
use Rattle.gm_store.proofs.Punching.{found_file}
use Rattle.gm_store.proofs.Closing.{shut_due, shut_live}
use Rattle.gm_store.specs.Frees.{FreesDue}
use Rattle.gm_store.specs.Left.{AllLive, left_by, unheld}
use Rattle.gm_store.specs.Stored.{StoreStands, applied}
use Rattle.gm_store.specs.Views.{StoreView, file_in}
use Rattle.gm_store.specs.contracts.store.Store.{the_view}
use Rattle.gm_store.proofs.store.Store.shut.Goals as goal

-- what was taken out
taken : (new cleared old : FolioList) (ps : List (ℕ × Folio)) → new ≡ record cleared { list = cleared.list ++ ps } → cleared ≡ record old { list = [] } → new.list ≡ ps
taken new cleared old ps e h = ap (λ (o : FolioList). o.list) e ∙ ap (λ (o : FolioList). o.list ++ ps) h

pub keep_freed-requires : goal.keep_freed-requires
keep_freed-requires c =
    let s = c.requires.stands in
    let there = found_file c.self.inside.files.items c.args.file c.index_mut.result.now c.in-Some.x (subst (λ (v : StoreView). IsSome (file_in v.files c.args.file)) (sym c.self.view_is) c.requires.used) c.index_mut.ensures.value c.in-Some.is in
    let list_is = taken c.cut.new.out c.clear.new.self c.args.out.now (within 0 PAGE_LIMIT c.in-Some.x.cached) c.cut.ensures.taken c.clear.ensures in
    subst (AllLive c.self.inside.pool) (sym list_is) (shut_live s.0 (the_view c.self.inside) s.1 c.args.file c.in-Some.x (subst (λ (v : StoreView). StoreStands s.0 v s.1) (sym c.self.view_is) s.2) there.1)

pub invariant_of-self : goal.invariant_of-self
invariant_of-self c = (c.self.invariant.0, c.self.invariant.1 ∙ sym (ap (λ (p : Frames). length p.uses) c.keep_freed.ensures.pool ∙ left-length c.cut.new.out.list c.self.inside.pool))

pub returns-clause-due : goal.returns-clause-due
returns-clause-due c = λ frames k st.
    let there = found_file c.self.inside.files.items c.args.file c.index_mut.result.now c.in-Some.x (subst (λ (v : StoreView). IsSome (file_in v.files c.args.file)) (sym c.self.view_is) c.requires.used) c.index_mut.ensures.value c.in-Some.is in
    let list_is = taken c.cut.new.out c.clear.new.self c.args.out.now (within 0 PAGE_LIMIT c.in-Some.x.cached) c.cut.ensures.taken c.clear.ensures in
    let due = shut_due frames (the_view c.self.inside) k c.args.file c.in-Some.x (subst (λ (v : StoreView). StoreStands frames v k) (sym c.self.view_is) st) there.0 there.1 in
    subst (λ (fs : List (Option FileView)). FreesDue frames k (applied (Shut c.args.file) k) c.keep_freed.new.out.list (record (the_view c.self.inside) { files = fs; pool = c.keep_freed.new.pool })) (sym (set-set c.self.inside.files.items c.args.file (Some c.cut.new.self) None))
    (subst (λ (p : Frames). FreesDue frames k (applied (Shut c.args.file) k) c.keep_freed.new.out.list (record (the_view c.self.inside) { files = set c.self.inside.files.items c.args.file None; pool = p })) (sym (c.keep_freed.ensures.pool ∙ ap (λ (l : List (ℕ × Folio)). left_by l c.self.inside.pool) list_is))
    (subst (λ (ys : List (ℕ × Folio)). FreesDue frames k (applied (Shut c.args.file) k) ys (record (the_view c.self.inside) { files = set c.self.inside.files.items c.args.file None; pool = left_by (within 0 PAGE_LIMIT c.in-Some.x.cached) c.self.inside.pool })) (sym (c.keep_freed.ensures.list ∙ ap (λ (l : List (ℕ × Folio)). unheld l c.self.inside.pool) list_is)) due))
