use Rattle.std.proofs.Common.{◌++◌, ◌∷◌, [], List, arith, ap, sym, ◌∙◌, append_assoc, take}
use Rattle.gm_base.specs.Extent.{Extent}
use Rattle.gm_flat.specs.Calls.{part_span, slots_of_file}
use Rattle.gm_calls.proofs.Meeting.{all_found, found, is_there, length_file, length_meeting, meeting, next_one, spans_of}
use Rattle.gm_calls.proofs.spanned.put_parts.Goals as goal

pub part_of-requires-clause-some : goal.part_of-requires-clause-some
part_of-requires-clause-some c = (found c.args.slots.now.slots c.args.fd c.args.lo c.args.hi c.loop-range.range-index c.args.file.now.bound c.bound_within-range-items.result.now _ c.in-Some.slot c.requires.order c.requires.known c.requires.bound c.bound_within-range-items.ensures c.loop-range-test.true (sym c.by_id.ensures ∙ c.in-Some.is)).known.some

pub part_of-requires-clause-limit : goal.part_of-requires-clause-limit
part_of-requires-clause-limit c = (found c.args.slots.now.slots c.args.fd c.args.lo c.args.hi c.loop-range.range-index c.args.file.now.bound c.bound_within-range-items.result.now _ c.in-Some.slot c.requires.order c.requires.known c.requires.bound c.bound_within-range-items.ensures c.loop-range-test.true (sym c.by_id.ensures ∙ c.in-Some.is)).known.limit

pub part_of-requires-clause-indexes : goal.part_of-requires-clause-indexes
part_of-requires-clause-indexes c = (found c.args.slots.now.slots c.args.fd c.args.lo c.args.hi c.loop-range.range-index c.args.file.now.bound c.bound_within-range-items.result.now _ c.in-Some.slot c.requires.order c.requires.known c.requires.bound c.bound_within-range-items.ensures c.loop-range-test.true (sym c.by_id.ensures ∙ c.in-Some.is)).known.indexes

pub part_of-requires-clause-above : goal.part_of-requires-clause-above
part_of-requires-clause-above c = (found c.args.slots.now.slots c.args.fd c.args.lo c.args.hi c.loop-range.range-index c.args.file.now.bound c.bound_within-range-items.result.now _ c.in-Some.slot c.requires.order c.requires.known c.requires.bound c.bound_within-range-items.ensures c.loop-range-test.true (sym c.by_id.ensures ∙ c.in-Some.is)).above

pub part_of-requires-clause-below : goal.part_of-requires-clause-below
part_of-requires-clause-below c = (found c.args.slots.now.slots c.args.fd c.args.lo c.args.hi c.loop-range.range-index c.args.file.now.bound c.bound_within-range-items.result.now _ c.in-Some.slot c.requires.order c.requires.known c.requires.bound c.bound_within-range-items.ensures c.loop-range-test.true (sym c.by_id.ensures ∙ c.in-Some.is)).below

pub put-requires : goal.put-requires
put-requires c =
    let f = found c.args.slots.now.slots c.args.fd c.args.lo c.args.hi c.loop-range.range-index c.args.file.now.bound c.bound_within-range-items.result.now _ c.in-Some.slot c.requires.order c.requires.known c.requires.bound c.bound_within-range-items.ensures c.loop-range-test.true (sym c.by_id.ensures ∙ c.in-Some.is) in
    let m = f.more in
    let l = length_meeting c.args.lo c.args.hi (slots_of_file c.args.fd c.args.slots.now.slots) in
    let k = length_file c.args.fd c.args.slots.now.slots in
    let r = c.requires.room in
    let s = c.loop-range.invariant.spare in
    omega arith

pub unreachable-requires : goal.unreachable-requires
unreachable-requires c = is_there c.args.slots.now.slots c.args.fd c.args.lo c.args.hi c.loop-range.range-index c.args.file.now.bound c.bound_within-range-items.result.now _ c.requires.order c.requires.known c.requires.bound c.bound_within-range-items.ensures c.loop-range-test.true (sym c.by_id.ensures ∙ c.in-None.is)

pub loop-range-preserved : goal.loop-range-preserved
loop-range-preserved c =
    let f = found c.args.slots.now.slots c.args.fd c.args.lo c.args.hi c.loop-range.range-index c.args.file.now.bound c.bound_within-range-items.result.now _ c.in-Some.slot c.requires.order c.requires.known c.requires.bound c.bound_within-range-items.ensures c.loop-range-test.true (sym c.by_id.ensures ∙ c.in-Some.is) in
    let i = c.loop-range.invariant in
    let p = c.put.ensures in
    record {
      put = p.list ∙ ap (λ (e : Extent). c.loop-range.spans.list ++ e ∷ []) c.part_of.ensures ∙ ap (λ (es : List Extent). es ++ part_span c.args.lo c.args.hi c.in-Some.slot ∷ []) i.put ∙ append_assoc c.args.spans.now.list (spans_of c.args.lo c.args.hi (take c.loop-range.range-index (meeting c.args.lo c.args.hi (slots_of_file c.args.fd c.args.slots.now.slots)))) (part_span c.args.lo c.args.hi c.in-Some.slot ∷ []) ∙ ap (λ (es : List Extent). c.args.spans.now.list ++ es) (sym (next_one f));
      spare =
          let s = i.spare in
          let q = p.spare in
          omega arith;
    }

pub returns : goal.returns
returns c = c.loop-range.invariant.put ∙ ap (λ (es : List Extent). c.args.spans.now.list ++ es) (all_found c.args.slots.now.slots c.args.fd c.args.lo c.args.hi c.loop-range.range-index c.args.file.now.bound c.bound_within-range-items.result.now c.requires.order c.requires.bound c.bound_within-range-items.ensures (omega arith))
