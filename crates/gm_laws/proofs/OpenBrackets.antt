-- How many brackets are open at once.
use Rattle.std.proofs.Common.{◌≡◌, ℕ, ◌+◌, ◌≤◌, List, Option, Some, None, arith, zero, suc}
use Rattle.gm_flat.specs.Histories.{Bracket, bracket}
use Rattle.gm_flat.specs.Invalidation.{count}
use Rattle.gm_flat.specs.declared.entry.Entry.{Entry}
use Rattle.gm_laws.proofs.Good.{Good}
use Rattle.gm_laws.proofs.Tally.{one, tally}

one_most : (x : Option Bracket) → one x ≤ 1
one_most None = omega arith
one_most (Some b) = omega arith

tally_most : (n : ℕ) (f : ℕ → Option Bracket) → tally n f ≤ n
tally_most zero f = omega arith
tally_most (suc k) f =
    let h : tally k f ≤ k = tally_most k f in
    let o : one (f k) ≤ 1 = one_most (f k) in
    omega arith

-- at most one for each caller
pub open_most : (n : ℕ) (past : List Entry) → Good n past → count past ≤ n
open_most n past g =
    let t = tally_most n (λ c. bracket c past) in
    let y = g.count_is in
    omega arith
