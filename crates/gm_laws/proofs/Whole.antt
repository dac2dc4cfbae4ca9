-- Which histories are whole, by computing.
use Rattle.std.proofs.Common.{◌≡◌, ◌<◌, ℕ, [], arith, ap, refl, sym, true}
use Rattle.gm_base.specs.Scripts.{IsOf}
use Rattle.gm_base.specs.declared.values.Actor.{Actor}
use Rattle.gm_base.specs.declared.values.Actor.TheVariants.{Caller, Vcpu}
use Rattle.gm_flat.specs.Histories.{gone}
use Rattle.gm_flat.specs.Plays.{Full}
use Rattle.gm_laws.proofs.Rows.{false_true}
use Rattle.gm_laws.specs.Smallest.{one_caller_orders, smallest, smallest_orders}

all_gone : (a : Actor) → IsOf smallest_orders.setup a → gone a smallest ≡ true
all_gone (Vcpu v) h =
    let first : 0 ≡ v = omega arith in
    ap (λ (n : ℕ). gone (Vcpu n) smallest) (sym first)
all_gone (Caller c) h = absurd (none c h)
  where
    none : (c : ℕ) → c < 0 → ⊥
    none c h = omega arith

pub smallest_is_full : Full smallest_orders smallest
smallest_is_full = record { all_gone = all_gone; counted = (refl, tt) }

pub no_entry_is_not_full : Full smallest_orders [] → ⊥
no_entry_is_not_full f = false_true (f.all_gone (Vcpu 0) (omega arith))

pub caller_left_is_not_full : Full one_caller_orders smallest → ⊥
caller_left_is_not_full f = false_true (f.all_gone (Caller 0) (omega arith))
