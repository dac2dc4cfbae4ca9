use Rattle.std.proofs.Common.{◌≡◌, ◌+◌, List, length, None, false, sym, ap, subst, ◌∙◌, arith}
use Rattle.gm_base.specs.declared.numbers.TheConstants.{PAGE_LIMIT}
use Rattle.gm_radix.specs.Entries.{Rises, count_within, lookup}
use Rattle.gm_radix.proofs.Counts.{count_within-length}
use Rattle.gm_radix.proofs.Lists.{length-Rises}
use Rattle.gm_ranges.specs.Runs.{edges_of, odd, turned, with_turn}
use Rattle.gm_ranges.proofs.Counting.{count_taken}
use Rattle.gm_ranges.proofs.Painting.{end_free, painted_of, rises_painted, value_painted}
use Rattle.gm_ranges.proofs.Rising.{lookup_without}
use Rattle.gm_ranges.proofs.edges.paint.Goals as goal

pub returns-clause-rises : goal.returns-clause-rises
returns-clause-rises c =
    let es = c.args.edges.now.entries in
    let lo = c.lo-lo.result in
    let hi = c.hi-hi.result in
    let gone = subst (λ (left : List _). c.discard-inside.result + length left ≡ length es) c.discard-inside.ensures.entries c.discard-inside.ensures.count in
    let after : c.count_in-before.result + c.discard-inside.result ≡ count_within 0 (hi + 1) es = omega (arith, c.count_in-before.ensures, count_taken lo (hi + 1) c.discard-inside.result es (omega arith) gone) in
    let is = painted_of es c.discard-inside.new.self.entries c.turn.new.edges.entries c.turn-2.new.edges.entries lo hi c.args.span.lo c.args.span.hi c.args.value c.is_odd.result c.is_odd-2.result c.is_turn.result c.is_turn-2.result c.discard-inside.ensures.entries c.turn.ensures.entries c.turn-2.ensures.entries c.is_turn.ensures c.is_turn-2.ensures (c.is_odd.ensures ∙ ap odd c.count_in-before.ensures) (c.is_odd-2.ensures ∙ ap odd after) c.lo-lo.ensures.lo c.hi-hi.ensures.hi in
    subst (λ (es : List _). Rises 0 PAGE_LIMIT es) (sym is) (rises_painted es c.args.span.lo c.args.span.hi c.args.value c.requires.rises)

pub returns-clause-pages : goal.returns-clause-pages
returns-clause-pages c = λ page.
    let es = c.args.edges.now.entries in
    let lo = c.lo-lo.result in
    let hi = c.hi-hi.result in
    let gone = subst (λ (left : List _). c.discard-inside.result + length left ≡ length es) c.discard-inside.ensures.entries c.discard-inside.ensures.count in
    let after : c.count_in-before.result + c.discard-inside.result ≡ count_within 0 (hi + 1) es = omega (arith, c.count_in-before.ensures, count_taken lo (hi + 1) c.discard-inside.result es (omega arith) gone) in
    let is = painted_of es c.discard-inside.new.self.entries c.turn.new.edges.entries c.turn-2.new.edges.entries lo hi c.args.span.lo c.args.span.hi c.args.value c.is_odd.result c.is_odd-2.result c.is_turn.result c.is_turn-2.result c.discard-inside.ensures.entries c.turn.ensures.entries c.turn-2.ensures.entries c.is_turn.ensures c.is_turn-2.ensures (c.is_odd.ensures ∙ ap odd c.count_in-before.ensures) (c.is_odd-2.ensures ∙ ap odd after) c.lo-lo.ensures.lo c.hi-hi.ensures.hi in
    ap (λ (es : List _). turned false (edges_of es) page) is ∙ value_painted es c.args.span c.args.value page c.requires.rises (omega arith) (omega arith)

pub overflow_add-before : goal.overflow_add-before
overflow_add-before c =
    let es = c.args.edges.now.entries in
    omega (arith, c.count_in-before.ensures, count_within-length 0 c.lo-lo.result es, c.discard-inside.ensures.count, length-Rises 0 PAGE_LIMIT es c.requires.rises)

pub turn-requires-clause-free : goal.turn-requires-clause-free
turn-requires-clause-free c =
    subst (λ (es : List _). lookup c.lo-lo.result es ≡ None)
    (sym c.discard-inside.ensures.entries)
    (lookup_without c.lo-lo.result (c.hi-hi.result + 1) c.lo-lo.result c.args.edges.now.entries (omega arith) (omega arith))

pub turn-requires-2-clause-free : goal.turn-requires-2-clause-free
turn-requires-2-clause-free c =
    subst (λ (es : List _). lookup c.hi-hi.result es ≡ None)
    (sym (c.turn.ensures.entries ∙ ap (λ (es : List _). with_turn c.is_turn.result c.lo-lo.result es) c.discard-inside.ensures.entries))
    (end_free c.is_turn.result c.lo-lo.result c.hi-hi.result c.args.edges.now.entries (omega arith))
