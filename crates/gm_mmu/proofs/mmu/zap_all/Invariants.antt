use Rattle.std.proofs.Common.{◌≡◌, ℕ, drop}
use Rattle.gm_mmu.specs.Served.{apart_from_all, unless_one_met}
use Rattle.gm_table.specs.Leaves.{leaf_over}
use Rattle.gm_mmu.proofs.mmu.zap_all.Given as goal

abbrev pub invariant-loop-span : goal.invariant-loop-span
invariant-loop-span l =
    record {
      leaves : apart_from_all (drop l.span-index l.spans) l.table.leaves ≡ apart_from_all l.spans l.initial.table.leaves;
      over : (page : ℕ) → unless_one_met (drop l.span-index l.spans) (leaf_over l.table.leaves page) ≡ unless_one_met l.spans (leaf_over l.initial.table.leaves page);
      spare : l.table.spare ≡ l.initial.table.spare;
    }
