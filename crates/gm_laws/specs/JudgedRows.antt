-- What a call in progress sees of the row by which it was judged.
use Rattle.std.specs.Prelude.{◌≡◌, ℕ, List, false, Some}
use Rattle.gm_base.specs.declared.values.Setup.{Setup}
use Rattle.gm_flat.specs.declared.entry.Entry.{Entry}
use Rattle.gm_flat.specs.Histories.{Call, call}
use Rattle.gm_flat.specs.Calls.{Plan, Bracketed, Paged, plan}
use Rattle.gm_flat.specs.Replay.{flat}
use Rattle.gm_flat.specs.RightLives.{plan_of}

-- until it has made its change, a call has over the present state the row that it had at its Judge: the same effect and
-- spans, the same file and range
abbrev pub SeesItsRow : Setup → List Entry → Type 0
SeesItsRow s past = (c : ℕ) (x : Call) → call c past ≡ Some x → x.made ≡ false → plan s x.ioctl (flat past) ≡ plan_of s x past

-- a row whose call goes on after the turn of its Judge: a change in a bracket, or pages one after another
abbrev pub GoesOn : Plan → Type 0
GoesOn (Bracketed effect spans) = Unit {0}
GoesOn (Paged pages) = Unit {0}
GoesOn _ = ⊥

-- each call in progress is one that goes on
abbrev pub CallsGoOn : Setup → List Entry → Type 0
CallsGoOn s past = (c : ℕ) (x : Call) → call c past ≡ Some x → GoesOn (plan_of s x past)
