use Rattle.std.proofs.Common.{◌≤◌, List, length, ap, sym, ◌∙◌, arith}
use Rattle.std.proofs.lemmas.List.{drop_all}
use Rattle.gm_base.specs.Extent.{Extent}
use Rattle.gm_mmu.specs.Served.{apart_from_all}
use Rattle.gm_mmu.proofs.Spans.{apart_from_all-none}
use Rattle.gm_mmu.proofs.mmu.zap_all.Goals as goal

pub returns-clause-leaves : goal.returns-clause-leaves
returns-clause-leaves c =
    let end : length c.args.spans.now ≤ c.loop-span.span-index = omega arith in
    sym (apart_from_all-none c.loop-span.table.leaves)
    ∙ (ap (λ (ss : List Extent). apart_from_all ss c.loop-span.table.leaves) (sym (drop_all c.loop-span.span-index c.args.spans.now end))
    ∙ c.loop-span.invariant.leaves)
