-- The lowest free block gets pages of zeros.
use Rattle.std.proofs.Common.{subst, sym, ◌≡◌, ◌<◌, ◌≤◌, ◌+◌, ◌∙◌, ap, ℕ, length, arith, refl, lit<}
use Rattle.gm_flat.specs.RightLives.{IsFreeBlock}
use Rattle.gm_pool.specs.Pools.{use_after}
use Rattle.gm_store.proofs.Basics.{where_none}
use Rattle.gm_store.proofs.Running.{block_added, no_block}
use Rattle.gm_store.proofs.Taking.{no_use}
use Rattle.gm_store.specs.Opened.{IsOpenBlock}
use Rattle.gm_store.specs.Stored.{StoreStands, Stored}
use Rattle.gm_store.specs.Views.{StoreView, file_in, pages_in}
use Rattle.gm_store.specs.contracts.store.Store.{the_view}
use Rattle.gm_store.proofs.store.Store.add_block.Goals as goal

pub returns-in_err-folio-clause-none : goal.returns-in_err-folio-clause-none
returns-in_err-folio-clause-none c = where_none ((frames : ℕ) (k : Stored) → StoreStands frames c.args.self.now k → (frame : ℕ) → IsFreeBlock frames frame k.flat.folios → ⊥) _ (λ frames k st. no_block (subst (λ (v : StoreView). StoreStands frames v k) (sym c.self.view_is) st).pool c.in_err-folio.ensures.none)

below : (a m n count : ℕ) → a + 511 < m → n ≡ m → count ≡ 512 → a + count ≤ n
below a m n count h e c = omega arith

pub put_run-requires-clause-frames : goal.put_run-requires-clause-frames
put_run-requires-clause-frames c = below c.in_ok-folio.folio.frame (length c.self.inside.pool.uses) (length c.self.inside.bank) c.args.count (no_use c.self.inside.pool (c.in_ok-folio.folio.frame + 511) (c.in_ok-folio.ensures.free 511 (lit< tt))).0 c.self.invariant.1 c.requires.count

pub returns-clause-some : goal.returns-clause-some
returns-clause-some c = λ frames k st.
    let open_is = subst (λ (v : StoreView). IsOpenBlock (file_in v.files c.args.file) c.args.first) (sym c.self.view_is) c.requires.open in
    block_added frames (the_view c.self.inside) c.take_block.new.self c.put_run.new.files.items c.put_run.new.bank c.args.file c.args.first c.args.count c.in_ok-folio.folio k
    (record {
      open_here = λ j lt. open_is.open_here j (subst (λ (n : ℕ). j < n) c.requires.count lt);
      inside = subst (λ (n : ℕ). c.args.first + n ≤ pages_in (file_in c.self.inside.files.items c.args.file)) (sym c.requires.count) open_is.inside;
      free = λ j lt. c.in_ok-folio.ensures.free j (subst (λ (n : ℕ). j < n) c.requires.count lt);
      below = below c.in_ok-folio.folio.frame (length c.self.inside.pool.uses) (length c.self.inside.pool.uses) c.args.count (no_use c.self.inside.pool (c.in_ok-folio.folio.frame + 511) (c.in_ok-folio.ensures.free 511 (lit< tt))).0 refl c.requires.count;
      serial_is = c.in_ok-folio.ensures.serial;
    })
    (record {
      aligned = c.in_ok-folio.ensures.aligned;
      free = c.in_ok-folio.ensures.free;
      serial_is = c.in_ok-folio.ensures.serial;
      uses_are = λ frame. c.in_ok-folio.ensures.uses frame ∙ ap (λ (n : ℕ). use_after c.self.inside.pool.uses c.in_ok-folio.folio.frame n c.in_ok-folio.folio.serial frame) (sym c.requires.count);
      len = c.in_ok-folio.ensures.len;
      more = c.in_ok-folio.ensures.next ∙ ap (λ (n : ℕ). c.self.inside.pool.next + n) (sym c.requires.count);
    })
    c.put_run.ensures.items c.put_run.ensures.bank
    (subst (λ (v : StoreView). StoreStands frames v k) (sym c.self.view_is) st)

small : (a count n r : ℕ) → a + count ≤ n → count ≡ 512 → r ≡ n → r < 4294967296 → a + 512 < 4294967296 + 1
small a count n r h c e l = omega arith

pub returns-clause-frame : goal.returns-clause-frame
returns-clause-frame c = let h = put_run-requires-clause-frames c.before in let e = c.pages-frames.ensures.pages in let l = c.pages-frames.type_inv in let m = c.pages-frames.auto in omega (arith, h, e, c.requires.count)
