-- Widening by each span in turn gives the least range over them all.
use Rattle.std.proofs.Common.{◌≡◌, ℕ, ◌+◌, ◌<◌, ◌≤◌, List, [], ◌∷◌, length, drop, get_or, arith, refl, add-one, min, max}
use Rattle.std.specs.Prelude.{None, Some}
use Rattle.std.specs.declared.option.Option.{Option}
use Rattle.std.proofs.Math.Seq.{drop-cons}
use Rattle.gm_base.specs.Extent.{Extent}
use Rattle.gm_inval.specs.Range.{widen, widen_all, Covers, CoversRange, IsLeastOver}

bounds_split : (a b c d e f : ℕ) → (a ≤ min b c) × (max d e ≤ f) → (((a ≤ b) × (d ≤ f)) × ((a ≤ c) × (e ≤ f)))
bounds_split a b c d e f h = ((omega arith, omega arith), (omega arith, omega arith))

bounds_join : (a b c d e f : ℕ) → (a ≤ b) × (d ≤ f) → (a ≤ c) × (e ≤ f) → (a ≤ min b c) × (max d e ≤ f)
bounds_join a b c d e f h g = (omega arith, omega arith)

pub covers-widen_split : (range first : Option Extent) (s : Extent) → CoversRange range (widen first s) → CoversRange range first × Covers range s
covers-widen_split range None s h = (tt, h)
covers-widen_split None (Some f) s h = (h, h)
covers-widen_split (Some r) (Some f) s h = bounds_split r.lo f.lo s.lo f.hi s.hi r.hi h

pub covers-widen_join : (range first : Option Extent) (s : Extent) → CoversRange range first → Covers range s → CoversRange range (widen first s)
covers-widen_join range None s h g = g
covers-widen_join None (Some f) s h g = h
covers-widen_join (Some r) (Some f) s h g = bounds_join r.lo f.lo s.lo f.hi s.hi r.hi h g

least_of_none : (first : Option Extent) → CoversRange first first
least_of_none None = tt
least_of_none (Some f) = (omega arith, omega arith)

least_of_more : (first : Option Extent) (s : Extent) (spans : List Extent) (range : Option Extent) → IsLeastOver (widen first s) spans range → IsLeastOver first (s ∷ spans) range
least_of_more first s spans range h =
    let parts = covers-widen_split range first s h.covers_first in
    record {
      covers_first = parts.0;
      covers_spans = (parts.1, h.covers_spans);
      least = λ other f g. h.least other (covers-widen_join other first s f g.0) g.1;
    }

-- the fold is the least range
pub widen_all-least : (first : Option Extent) (spans : List Extent) → IsLeastOver first spans (widen_all first spans)
widen_all-least first [] = record { covers_first = least_of_none first; covers_spans = tt; least = λ other f g. f }
widen_all-least first (s ∷ spans) = least_of_more first s spans (widen_all (widen first s) spans) (widen_all-least (widen first s) spans)

-- the step of a loop that widens by each span
pub widen_all-step : (range : Option Extent) (spans : List Extent) (i : ℕ) (d : Extent) → i < length spans → widen_all range (drop i spans) ≡ widen_all (widen range (get_or spans i d)) (drop (i + 1) spans)
widen_all-step range spans i d h = rw (add-one, drop-cons spans i d) refl

pub ruleset widening = (widen_all-step)
