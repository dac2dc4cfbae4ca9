use Rattle.std.specs.Prelude.{ℕ, Bool, true, false}
use Rattle.gm_base.specs.declared.values.Errno.{Errno}
use Rattle.gm_base.specs.declared.values.Errno.TheVariants.{NoEnt, BadF, NoMem, Fault, Exist, Inval}
use Rattle.gm_base.specs.declared.values.Level.{Level}
use Rattle.gm_base.specs.declared.values.Level.TheVariants.{Small, Block}
use Rattle.gm_base.specs.declared.values.Kind.{Kind}
use Rattle.gm_base.specs.declared.values.Kind.TheVariants.{Private, Shared}
use Rattle.gm_base.specs.declared.values.Op.{Op}
use Rattle.gm_base.specs.declared.values.Op.TheVariants.{Read, Write}

-- an error's number
abbrev pub number_of : Errno → ℕ
number_of NoEnt = 2
number_of BadF = 9
number_of NoMem = 12
number_of Fault = 14
number_of Exist = 17
number_of Inval = 22

-- how many pages a leaf of this size covers
abbrev pub pages_of : Level → ℕ
pages_of Small = 1
pages_of Block = 512

-- whether two kinds are the same
abbrev pub same_kind : Kind → Kind → Bool
same_kind Private Private = true
same_kind Private Shared = false
same_kind Shared Private = false
same_kind Shared Shared = true

-- whether an access may go by what is writable or not
abbrev pub permits : Bool → Op → Bool
permits writable Read = true
permits writable (Write value) = writable
