-- One folio more of the run.
use Rattle.std.proofs.Common.{subst, sym, ◌≡◌, ◌<◌, ◌≤◌, ◌+◌, ◌∙◌, ap, ℕ, arith}
use Rattle.gm_store.proofs.Blocks.{cached_later, file_below, pages_same, room_left, run_file, run_more}
use Rattle.gm_store.specs.Views.{cached_in, file_in, page_room, pages_in, with_pages}
use Rattle.gm_store.proofs.first_use.put_run.Goals as goal

within : (old_pages first count j : ℕ) → j < count → first + count ≤ old_pages → first + j < old_pages
within p first count j lt le = omega arith

left : (a j r count : ℕ) → a + j ≡ r → j < count → count ≤ r → 1 ≤ a
left a j r count e lt le = omega arith

less : (j r count : ℕ) → j < count → count ≤ r → j ≤ r
less j r count lt le = omega arith

same : (a : ℕ) → a ≤ a
same a = omega arith

pub put_page-requires-clause-free : goal.put_page-requires-clause-free
put_page-requires-clause-free c =
    let lt = file_below c.args.files.now.items c.args.file (c.args.first + c.pages.j) (within (pages_in (file_in c.args.files.now.items c.args.file)) c.args.first c.args.count c.pages.j c.pages-test.true c.requires.inside) in
    ap (cached_in (c.args.first + c.pages.j)) (run_file c.pages.files.items c.args.files.now.items c.pages.bank c.args.bank.now c.args.file c.args.first c.pages.j c.args.folio lt c.pages.invariant.so_far)
    ∙ (cached_later c.pages.j (file_in c.args.files.now.items c.args.file) c.args.first (c.args.first + c.pages.j) c.args.folio (same (c.args.first + c.pages.j)) ∙ c.requires.free c.pages.j c.pages-test.true)

pub put_page-requires-clause-inside : goal.put_page-requires-clause-inside
put_page-requires-clause-inside c =
    let in_old = within (pages_in (file_in c.args.files.now.items c.args.file)) c.args.first c.args.count c.pages.j c.pages-test.true c.requires.inside in
    let lt = file_below c.args.files.now.items c.args.file (c.args.first + c.pages.j) in_old in
    subst (λ (p : ℕ). c.args.first + c.pages.j < p) (sym (ap pages_in (run_file c.pages.files.items c.args.files.now.items c.pages.bank c.args.bank.now c.args.file c.args.first c.pages.j c.args.folio lt c.pages.invariant.so_far) ∙ pages_same c.pages.j (file_in c.args.files.now.items c.args.file) c.args.first c.args.folio)) in_old

pub put_page-requires-clause-room : goal.put_page-requires-clause-room
put_page-requires-clause-room c =
    let in_old = within (pages_in (file_in c.args.files.now.items c.args.file)) c.args.first c.args.count c.pages.j c.pages-test.true c.requires.inside in
    let lt = file_below c.args.files.now.items c.args.file (c.args.first + c.pages.j) in_old in
    subst (λ (p : ℕ). 1 ≤ p) (sym (ap page_room (run_file c.pages.files.items c.args.files.now.items c.pages.bank c.args.bank.now c.args.file c.args.first c.pages.j c.args.folio lt c.pages.invariant.so_far)))
    (left (page_room (with_pages c.pages.j (file_in c.args.files.now.items c.args.file) c.args.first c.args.folio)) c.pages.j (page_room (file_in c.args.files.now.items c.args.file)) c.args.count (room_left c.pages.j (file_in c.args.files.now.items c.args.file) c.args.first c.args.folio (less c.pages.j (page_room (file_in c.args.files.now.items c.args.file)) c.args.count c.pages-test.true c.requires.room)) c.pages-test.true c.requires.room)

pub pages-preserved : goal.pages-preserved
pages-preserved c =
    let in_old = within (pages_in (file_in c.args.files.now.items c.args.file)) c.args.first c.args.count c.pages.j c.pages-test.true c.requires.inside in
    let lt = file_below c.args.files.now.items c.args.file (c.args.first + c.pages.j) in_old in
    record {
      so_far = run_more c.pages.files.items c.args.files.now.items c.put_page.new.files.items c.pages.bank c.args.bank.now c.clear.new.self c.args.file c.args.first c.pages.j c.args.folio lt c.pages.invariant.so_far c.put_page.ensures.items c.clear.ensures.page;
      len = c.put_page.ensures.len ∙ c.pages.invariant.len;
      capacity = c.put_page.ensures.capacity ∙ c.pages.invariant.capacity;
      frames = c.clear.ensures.len ∙ c.pages.invariant.frames;
    }
