use Rattle.std.proofs.Common.{◌≡◌, ℕ, ◌+◌, ◌-◌, ◌≤◌, ◌&&◌, ◌||◌}
use Rattle.std.specs.Prelude.{nat_le, nat_lt, is_some}
use Rattle.gm_radix.specs.Entries.{lookup}
use Rattle.gm_attr.specs.Flags.{FlagsAre}
use Rattle.gm_attr.proofs.flags.add_blocks.Given as goal

abbrev pub invariant-loop-block : goal.invariant-loop-block
invariant-loop-block l = record {
  tracked : (k : ℕ) → is_some (lookup k l.tracked.entries) ≡ ((nat_le l.first k && nat_lt k l.block) || is_some (lookup k l.fn.tracked.entries));
  flags : FlagsAre l.runs.edges l.tracked.entries l.mixed.entries;
  spare : l.fn.tracked.spare ≤ l.tracked.spare + (l.block - l.first);
  mixed_spare : l.fn.mixed.spare ≤ l.mixed.spare + (l.block - l.first);
}
