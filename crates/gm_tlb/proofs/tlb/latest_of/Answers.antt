use Rattle.std.proofs.Common.{sym, ◌∙◌}
use Rattle.gm_tlb.proofs.Newest.{last_found}
use Rattle.gm_tlb.proofs.tlb.latest_of.Goals as goal

pub returns-then-serves : goal.returns-then-serves
returns-then-serves c = last_found c.loop-rest.rest.now c.args.access.now _ _ c.in-len1-up.len_at_least c.loop-rest.invariant.same (sym c.serves.ensures ∙ c.if-serves.true)
