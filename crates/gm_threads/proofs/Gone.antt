-- Each actor is gone.
use Rattle.std.proofs.Common.{◌≡◌, ◌<◌, ℕ, List, true}
use Rattle.gm_base.specs.Scripts.{IsOf}
use Rattle.gm_base.specs.declared.values.Actor.{Actor}
use Rattle.gm_base.specs.declared.values.Actor.TheVariants.{Caller, Vcpu}
use Rattle.gm_base.specs.declared.values.Setup.{Setup}
use Rattle.gm_flat.specs.Histories.{gone}
use Rattle.gm_flat.specs.declared.entry.Entry.{Entry}

pub each_gone : (s : Setup) (past : List Entry) → ((v : ℕ) → v < s.vcpus → gone (Vcpu v) past ≡ true) → ((c : ℕ) → c < s.callers → gone (Caller c) past ≡ true) → (a : Actor) → IsOf s a → gone a past ≡ true
each_gone s past vcpus callers (Vcpu v) h = vcpus v h
each_gone s past vcpus callers (Caller c) h = callers c h
