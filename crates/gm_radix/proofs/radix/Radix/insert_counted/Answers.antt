use Rattle.std.proofs.Common.{Some, [], ◌∷◌, ◌≡◌, ◌+◌, length, refl, arith, ap, subst, sym}
use Rattle.gm_radix.specs.Entries.{Indexed, put}
use Rattle.gm_radix.specs.Nodes.{under, leaf}
use Rattle.gm_radix.proofs.Frames.{entries_of-HoldsRest}
use Rattle.gm_radix.proofs.Held.{Holds-some}
use Rattle.gm_radix.proofs.Lists.{length-put}
use Rattle.gm_radix.proofs.Kept.{IsKept-HoldsRest}
use Rattle.gm_radix.proofs.radix.Radix.insert_counted.Goals as goal
use Rattle.gm_radix.proofs.radix.Radix.insert_counted.Goals.{in-Some, in-None}

pub invariant_of-self : goal.invariant_of-self
invariant_of-self g c =
    let spare = ap (λ (v : Indexed _). v.spare) c.self.view_is in
    elim c.match-self.branch [
      | in-Some w ↦ (
          let kept = rw w.in-Some.is at c.self.invariant in
          let entries = under c.self.inside.nodes.slots w.in-Some.key in
          let insert = w.insert.ensures in
          let same : entries ≡ c.args.self.now.entries = rw (← c.self.view_is, w.in-Some.is) refl in
          let added = subst (λ es. length (put c.args.index c.args.value es) ≡ length es + c.args.added) (sym same) c.requires.added in
          rw (w.self-inside-is, w.in-Some.is) (IsKept-HoldsRest _ (Some w.in-Some.key) (put c.args.index c.args.value entries) _ _ _ insert.entries (omega (arith, kept.nodes, insert.nodes, Holds-some kept.rest, added)) (omega (arith, kept.room, insert.nodes, insert.capacity, spare, length-put c.args.index c.args.value entries))))
      | in-None w ↦ (
          let kept = rw w.in-None.is at c.self.invariant in
          let insert = w.insert_reserved.ensures in
          rw w.self-inside-is (IsKept-HoldsRest _ (Some w.insert_reserved.result) ((c.args.index, c.args.value) ∷ []) _ _ _ (leaf insert.updates.changed (omega arith) c.requires.limit) (omega (arith, kept.nodes, insert.len)) (omega (arith, kept.room, insert.len, insert.capacity, spare))))
    ]

pub returns-clause-entries : goal.returns-clause-entries
returns-clause-entries g c =
    elim c.match-self.branch [
      | in-Some w ↦ rw (w.self-inside-is, w.in-Some.is, ← c.self.view_is, w.in-Some.is) (entries_of-HoldsRest _ 0 _ _ (Some w.in-Some.key) (omega arith) w.insert.ensures.entries)
      | in-None w ↦ rw (w.self-inside-is, ← c.self.view_is, w.in-None.is) (entries_of-HoldsRest _ 0 _ _ (Some w.insert_reserved.result) (omega arith) (leaf w.insert_reserved.ensures.updates.changed (omega arith) c.requires.limit))
    ]
