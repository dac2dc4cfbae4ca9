-- What is lent at the start: no slot, no file and no private page.
use Rattle.std.proofs.Common.{◌≡◌, List, [], Option, None, length, arith, ap, refl, subst, sym, slice_index_or}
use Rattle.gm_attr.specs.Kinds.{Tells as TellsKinds}
use Rattle.gm_file.specs.Views.{FileView}
use Rattle.gm_flat.specs.FlatState.{start}
use Rattle.gm_calls.specs.Lent.{FileIs, LentStand}
use Rattle.gm_calls.specs.declared.parts.Parts.{Parts}

pub stands_at_the_start : (p : Parts) → p.slots.now.slots ≡ [] → p.files.now ≡ [] → TellsKinds p.attrs.now [] → LentStand p start
stands_at_the_start p slots files attrs = record {
  slots_are = slots;
  files_are = λ file. subst (λ (fs : List (Option FileView)). FileIs (slice_index_or fs file None) file start) (sym files) refl;
  made = ap (λ (fs : List (Option FileView)). length fs) files;
  attrs_are = attrs;
  known = tt;
  count = grind arith;
}
