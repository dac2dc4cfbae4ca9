-- The turns of turn lines, written out.
use Rattle.std.specs.Prelude.{ℕ, zero, suc, List, [], ◌∷◌, ◌++◌}
use Rattle.gm_base.specs.declared.values.Setup.{Setup}
use Rattle.gm_base.specs.declared.values.Actor.TheVariants.{Vcpu, Caller}
use Rattle.gm_base.specs.declared.script.Turn.{Turn}
use Rattle.gm_base.specs.declared.script.Turn.TheVariants.{Next, Kick}

-- for each vCPU below n in rising order a kick and a turn
abbrev pub vcpus_round : ℕ → List Turn
vcpus_round zero = []
vcpus_round (suc n) = vcpus_round n ++ (Kick n ∷ Next (Vcpu n) ∷ [])

-- for each caller below n in rising order a turn
abbrev pub callers_round : ℕ → List Turn
callers_round zero = []
callers_round (suc n) = callers_round n ++ (Next (Caller n) ∷ [])

-- one round of the machine
unfoldable pub round_of : Setup → List Turn
round_of s = vcpus_round s.vcpus ++ callers_round s.callers

-- so many rounds
abbrev pub rounds_of : Setup → ℕ → List Turn
rounds_of s zero = []
rounds_of s (suc count) = rounds_of s count ++ round_of s
