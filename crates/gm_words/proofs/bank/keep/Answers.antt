use Rattle.std.proofs.Common.{◌/◌, None, Some, set, sym, ◌∙◌, arith, length-set, get_or-set_same, get_or-set_other}
use Rattle.gm_words.proofs.Places.{found, placed-length, placed-room, Adds, adds_kept, adds_same}
use Rattle.gm_words.proofs.bank.keep.Goals as goal

pub overflow_cast-place-2 : goal.overflow_cast-place-2
overflow_cast-place-2 c =
    omega (arith, c.requires.kept.whole, c.requires.kept.length_of, placed-length c.args.places.now.items)

pub add_page-requires : goal.add_page-requires
add_page-requires c =
    let kept = c.requires.kept in
    let none = found c.args.places.now.items c.deref.result.now c.args.page None c.deref.ensures.value (sym c.in_default.is ∙ c.find.ensures) in
    omega (arith, kept.whole, kept.for_words, placed-room c.args.places.now.items c.args.page c.args.pages none c.requires.page kept.length_of)

-- what the call adds
adds : (c : goal.After-add_page) → Adds c.args.places.now.items (set c.reach.new.places.items c.args.page (Some (c.len.result / 512))) c.args.words.now.items c.add_page.new.words.items c.args.page (c.len.result / 512)
adds c =
    let old = c.args.places.now.items in
    let long = c.reach.new.places.items in
    let page = c.args.page in
    let place = c.len.result / 512 in
    record {
      none = found old c.deref.result.now page None c.deref.ensures.value (sym c.in_default.is ∙ c.find.ensures);
      here = get_or-set_same long page (Some place) None c.reach.ensures.long;
      others = λ p ne. get_or-set_other long page p (Some place) None ne ∙ c.reach.ensures.same p;
      last = omega (arith, c.requires.kept.whole, c.len.ensures);
      longer = c.add_page.ensures.len;
      same = c.add_page.ensures.same;
    }

pub returns-clause-kept : goal.returns-clause-kept
returns-clause-kept c =
    let kept = c.requires.kept in
    let long = c.reach.new.places.items in
    adds_kept c.args.pages c.args.places.now.items _ c.args.words.now.items _ c.args.page (c.len.result / 512) _ _ _ _ (adds c) kept (omega (arith, length-set long c.args.page (Some (c.len.result / 512)), c.reach.ensures.len c.args.pages kept.length_of c.requires.page)) c.reach.ensures.capacity c.add_page.ensures.capacity

pub returns-clause-same : goal.returns-clause-same
returns-clause-same c = adds_same c.args.pages c.args.places.now.items _ c.args.words.now.items _ c.args.page (c.len.result / 512) (adds c)
