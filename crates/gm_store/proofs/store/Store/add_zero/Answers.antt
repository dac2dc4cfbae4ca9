-- The lowest free frame gets the words.
use Rattle.std.proofs.Common.{subst, sym, ◌≡◌, ◌<◌, None, ℕ}
use Rattle.gm_flat.specs.RightLook.{IsFull}
use Rattle.gm_words.proofs.Tables.{get_or-alike, length-alike}
use Rattle.gm_words.specs.Banks.{zero_page}
use Rattle.gm_store.proofs.Basics.{where_none}
use Rattle.gm_store.proofs.Taking.{full_is, one_added}
use Rattle.gm_store.specs.Stored.{StoreStands, Stored}
use Rattle.gm_store.specs.Views.{StoreView, cached_in, file_in, pages_in}
use Rattle.gm_store.specs.contracts.store.Store.{the_view}
use Rattle.gm_store.proofs.store.Store.add_zero.Goals as goal

pub returns-in_err-folio-clause-none : goal.returns-in_err-folio-clause-none
returns-in_err-folio-clause-none c = where_none ((frames : ℕ) (k : Stored) → StoreStands frames c.args.self.now k → IsFull frames k.flat.folios) _ (λ frames k st. full_is (subst (λ (v : StoreView). StoreStands frames v k) (sym c.self.view_is) st).pool c.in_err-folio.ensures.none)

pub returns-clause-some : goal.returns-clause-some
returns-clause-some c = λ frames k st.
    one_added frames (the_view c.self.inside) (record { files = c.put_page.new.files.items; spare = c.self.inside.spare; pool = c.take_one.new.self; bank = c.clear.new.self }) c.args.file c.args.index c.in_ok-folio.folio zero_page (λ word. 0) k
    (record {
      open_here = subst (λ (v : StoreView). cached_in c.args.index (file_in v.files c.args.file) ≡ None) (sym c.self.view_is) c.requires.free;
      inside = subst (λ (v : StoreView). c.args.index < pages_in (file_in v.files c.args.file)) (sym c.self.view_is) c.requires.inside;
      free = c.in_ok-folio.ensures.free;
      serial_is = c.in_ok-folio.ensures.serial;
      uses_are = c.in_ok-folio.ensures.uses;
      next_is = c.in_ok-folio.ensures.next;
      files_are = c.put_page.ensures.items;
      bank_is = c.clear.ensures.page;
      whole = length-alike 512 0;
    })
    c.in_ok-folio.ensures.lowest
    (λ w lt. get_or-alike 512 0 w 0 lt)
    (subst (λ (v : StoreView). StoreStands frames v k) (sym c.self.view_is) st)
