-- The change of a call that makes it in the turn in which it is judged.
use Rattle.std.specs.Prelude.{Some, None}
use Rattle.std.specs.declared.option.Option.{Option}
use Rattle.gm_flat.specs.Calls.{Plan, Refused, Same, Reads, Short, Bracketed, Paged}
use Rattle.gm_flat.specs.declared.effect.Effect.{Effect}

-- the effect of a plan that is a change at once; all else has none
abbrev pub effect_at_once : Plan → Option Effect
effect_at_once (Short effect answer) = Some effect
effect_at_once (Refused errno) = None
effect_at_once (Same answer) = None
effect_at_once (Reads page word) = None
effect_at_once (Bracketed effect spans) = None
effect_at_once (Paged pages) = None
