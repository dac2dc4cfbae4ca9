-- The invalidations in progress, and when a fault is stale. (kvm_main.c, begin and end; kvm_host.h, the retry test. The
-- code keeps one sequence number, a count and a range; here are End entries and spans of the history.)
use Rattle.std.specs.Prelude.{ℕ, suc, ◌-◌, List, [], ◌∷◌, Bool, false, ◌||◌, length, Some, None, nat_eq, nat_le, if◌then◌else◌}
use Rattle.std.specs.declared.option.Option.{Option}
use Rattle.gm_base.specs.Extent.{Extent, holds, meets, cover}
use Rattle.gm_flat.specs.declared.entry.Entry.{Entry}
use Rattle.gm_flat.specs.declared.entry.What.{What}
use Rattle.gm_flat.specs.declared.entry.What.TheVariants.{Begin, End}

-- the number of Begins less the number of Ends; an End at 0 takes nothing
abbrev pub count_step : What → ℕ → ℕ
count_step (Begin spans) n = suc n
count_step End n = n - 1
count_step _ n = n

abbrev pub count : List Entry → ℕ
count [] = 0
count (e ∷ past) = count_step e.what (count past)

-- the least span that covers what was kept and one more, or all of a list
abbrev pub widened_by : Option Extent → Extent → Extent
widened_by None s = s
widened_by (Some t) s = cover t s

abbrev pub widened : Option Extent → List Extent → Option Extent
widened kept [] = kept
widened kept (s ∷ spans) = widened (Some (widened_by kept s)) spans

-- the least span that covers all spans of the Begins since the count last rose from 0, where the count isn't 0
abbrev pub hull_step : What → ℕ → Option Extent → Option Extent
hull_step (Begin spans) n kept = widened (if nat_eq n 0 then None else kept) spans.list
hull_step End n kept = if nat_le n 1 then None else kept
hull_step _ n kept = kept

abbrev pub hull : List Entry → Option Extent
hull [] = None
hull (e ∷ past) = hull_step e.what (count past) (hull past)

abbrev pub in_hull : ℕ → Option Extent → Bool
in_hull page None = false
in_hull page (Some s) = holds s page

abbrev pub hull_meets : Extent → Option Extent → Bool
hull_meets e None = false
hull_meets e (Some s) = meets e s

-- whether an End stands at or after position i
abbrev pub ended_step : ℕ → What → ℕ → Bool → Bool
ended_step i End n x = nat_le i n || x
ended_step i _ n x = x

abbrev pub ended : ℕ → List Entry → Bool
ended i [] = false
ended i (e ∷ past) = ended_step i e.what (length past) (ended i past)

-- whether a fault is stale: an End stands at or after its sample's `at`, or its page lies in the hull
abbrev pub ended_since : Option ℕ → List Entry → Bool
ended_since None past = false
ended_since (Some sample) past = ended sample past

abbrev pub stale : Option ℕ → ℕ → List Entry → Bool
stale sample page past = ended_since sample past || in_hull page (hull past)
