use Rattle.std.proofs.Common.{◌≡◌, reverse, take}
use Rattle.gm_flat.specs.Replay.{flat}
use Rattle.gm_flat.proofs.flat_past.slots_after.Given as goal

abbrev pub invariant-loop-entry : goal.invariant-loop-entry
invariant-loop-entry l = record {
  slots : l.state.slots.items ≡ (flat (reverse (take l.entry-index l.entries))).slots;
  files : l.state.files.items ≡ (flat (reverse (take l.entry-index l.entries))).files;
}
