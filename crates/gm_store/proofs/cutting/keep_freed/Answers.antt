-- One folio more has left its cache.
use Rattle.std.proofs.Common.{subst, sym, ◌≡◌, ◌+◌, ◌∙◌, ℕ, ap, List, length, ◌<◌, get_or, set}
use Rattle.std.specs.Prelude.{IfSome}
use Rattle.gm_base.specs.declared.values.Folio.{Folio}
use Rattle.gm_file.specs.Views.{FolioList}
use Rattle.gm_pool.specs.Pools.{Settles, uncached, use_of}
use Rattle.gm_store.proofs.Leaving.{SoFar, later, now}
use Rattle.gm_store.proofs.cutting.keep_freed.Goals as goal
use Rattle.gm_store.proofs.cutting.keep_freed.Goals.{in-Now, in-Later}

abbrev nothing : ℕ × Folio
nothing = (0, record { serial = 0; frame = 0 })

within : (c : goal.Joined-detach) → c.pairs.at < length c.pairs.out.list
within c = subst (λ (n : ℕ). c.pairs.at < n) (c.pairs.invariant.count_is ∙ sym c.pairs.invariant.so_far.len) c.pairs-test.true

settles : (c : goal.Joined-detach) → IfSome (use_of c.pairs.pool (get_or c.pairs.out.list c.pairs.at nothing).1.frame) (λ usage. Settles c.pairs.pool c.detach.new.self (get_or c.pairs.out.list c.pairs.at nothing).1.frame (uncached usage) c.detach.result)
settles c = subst (λ (xs : List (ℕ × Folio)). IfSome (use_of c.pairs.pool (get_or xs c.pairs.at nothing).1.frame) (λ usage. Settles c.pairs.pool c.detach.new.self (get_or xs c.pairs.at nothing).1.frame (uncached usage) c.detach.result)) c.list.ensures c.detach.ensures

pub pairs-preserved : goal.pairs-preserved
pairs-preserved c = elim c.match-detach.branch [
  | in-Now w ↦
      let put : c.match-detach.out ≡ record { list = set c.pairs.out.list c.pairs.kept (get_or c.pairs.out.list c.pairs.at nothing); room = c.pairs.out.room } =
      w.out-is ∙ (w.put.ensures ∙ ap (λ (xs : List (ℕ × Folio)). record { list = set c.pairs.out.list c.pairs.kept (get_or xs c.pairs.at nothing); room = c.pairs.out.room }) c.list.ensures) in
      record {
        so_far =
            subst (λ (k : ℕ). SoFar c.match-detach.out.list c.detach.new.self (c.pairs.at + 1) k c.args.out.now.list c.args.pool.now) (sym w.kept-is)
            (subst (λ (o : FolioList). SoFar o.list c.detach.new.self (c.pairs.at + 1) (c.pairs.kept + 1) c.args.out.now.list c.args.pool.now) (sym put)
            (now c.pairs.out.list c.args.out.now.list c.pairs.pool c.detach.new.self c.args.pool.now c.pairs.at c.pairs.kept nothing c.detach.result c.pairs.invariant.so_far (within c) (settles c) w.in-Now.is));
        count_is = c.pairs.invariant.count_is;
        room = ap (λ (o : FolioList). o.room) put ∙ c.pairs.invariant.room;
      }
  | in-Later w ↦ record {
    so_far =
        subst (λ (k : ℕ). SoFar c.match-detach.out.list c.detach.new.self (c.pairs.at + 1) k c.args.out.now.list c.args.pool.now) (sym w.kept-is)
        (subst (λ (o : FolioList). SoFar o.list c.detach.new.self (c.pairs.at + 1) c.pairs.kept c.args.out.now.list c.args.pool.now) (sym w.out-is)
        (later c.pairs.out.list c.args.out.now.list c.pairs.pool c.detach.new.self c.args.pool.now c.pairs.at c.pairs.kept nothing c.detach.result c.pairs.invariant.so_far (within c) (settles c) w.in-Later.is));
    count_is = c.pairs.invariant.count_is;
    room = ap (λ (o : FolioList). o.room) w.out-is ∙ c.pairs.invariant.room;
  }
]
