-- The entry of a touch by a fill.
use Rattle.std.specs.Prelude.{ℕ}
use Rattle.gm_base.specs.Aim.{Aim}
use Rattle.gm_flat.specs.declared.effect.Backing.{Backing}
use Rattle.gm_flat.specs.declared.entry.What.{What}
use Rattle.gm_flat.specs.declared.entry.What.TheVariants.{Touch}
use Rattle.gm_tlb.specs.declared.tlb.Fill.{Fill}

-- it names the position of the fill, which is its own where a leaf serves
abbrev pub touch_entry : Aim → Backing → ℕ → Fill → What
touch_entry a b value f = Touch a b f.leaf.level value f.at
