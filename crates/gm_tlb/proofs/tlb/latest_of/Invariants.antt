-- The fills that are left to look at give the same answer as all of them.
use Rattle.std.proofs.Common.{◌≡◌, ◌≤◌, length, reverse}
use Rattle.gm_tlb.specs.Fills.{latest}
use Rattle.gm_tlb.proofs.tlb.latest_of.Given as goal

abbrev pub invariant-loop-rest : goal.invariant-loop-rest
invariant-loop-rest l = record {
  same : latest (reverse l.rest) l.wanted ≡ latest (reverse l.fills) l.wanted;
  short : length l.rest ≤ length l.fills;
}

abbrev pub decreases-loop-rest : goal.decreases-loop-rest
decreases-loop-rest l = length l.rest
