use Rattle.std.specs.Prelude.{ℕ, ◌+◌, ◌*◌}
use Rattle.gm_base.specs.declared.values.Op.{Op}
use Rattle.gm_base.specs.declared.values.Kind.{Kind}
use Rattle.gm_base.specs.declared.numbers.TheConstants.{PAGE_BYTES, WORD_BYTES}

-- what an access aims at
pub record Aim : Type 0 where
  pub page : ℕ
  pub word : ℕ
  pub op : Op
  pub kind : Kind

-- the guest address of its word
abbrev pub address_of : Aim → ℕ
address_of a = PAGE_BYTES * a.page + WORD_BYTES * a.word
