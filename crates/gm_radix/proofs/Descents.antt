-- The way down to where an entry is added.
use Rattle.std.proofs.Common.{◌≡◌, ℕ, suc, ◌+◌, ◌-◌, ◌<◌, ◌≤◌, ◌⊎◌, inl, inr, List, [], ◌∷◌, length, refl, ap, sym, ◌∙◌, subst, arith, Bool, true, false, length-append}
use Rattle.std.specs.Prelude.{None, Some, nat_eq, nat_lt, if◌then◌else◌}
use Rattle.std.proofs.lemmas.Bool.{cases_lt, le-ltb}
use Rattle.std.specs.declared.option.Option.{Option}
use Rattle.slab.specs.Slab.{Slab, Updates}
use Rattle.gm_base.specs.declared.numbers.TheConstants.{PAGE_LIMIT}
use Rattle.gm_radix.specs.declared.node.Node.{Node}
use Rattle.gm_radix.specs.declared.node.Node.TheVariants.{Fork}
use Rattle.gm_radix.specs.declared.node.Parts.{Parts}
use Rattle.gm_radix.specs.declared.inserting.Half.{Half}
use Rattle.gm_radix.specs.Entries.{lookup, put, Rises}
use Rattle.gm_radix.specs.Nodes.{node_at, under, HasHalf, Holds, fork, IsPart, Keeps}
use Rattle.gm_radix.proofs.Frames.{Holds-apart, Holds-updates, Keeps-then, Keeps-updates, Keeps-wider}
use Rattle.gm_radix.proofs.Held.{Holds-order, at_fork, under-Holds}
use Rattle.gm_radix.proofs.Lists.{length-put, length-Rises, lookup-outside, put-left, put-right}

module _ {V : Type 0} where
  -- a put at an index that has no value adds one entry
  pub length-put_new : (index : ℕ) (value : V) (es : List (ℕ × V)) → lookup index es ≡ None → length (put index value es) ≡ length es + 1
  length-put_new index value [] free = refl
  length-put_new index value (e ∷ es) free = cases (nat_lt index e.0) (nat_eq e.0 index) free (length-put_new index value es)
    where
      cases : (a b : Bool) → (if b then Some e.1 else lookup index es) ≡ None → (lookup index es ≡ None → length (put index value es) ≡ length es + 1) → length (if a then (index, value) ∷ e ∷ es else (if b then (index, value) ∷ es else e ∷ put index value es)) ≡ suc (length es) + 1
      cases true b f r = omega arith
      cases false true f r = absurd cc
      cases false false f r = omega (arith, r f)

  -- one at an index that has a value adds none
  pub length-put_again : (index lo hi : ℕ) (value there : V) (es : List (ℕ × V)) → Rises lo hi es → lookup index es ≡ Some there → length (put index value es) ≡ length es
  length-put_again index lo hi value there [] h some = absurd cc
  length-put_again index lo hi value there (e ∷ es) h some =
      elim (cases_lt index e.0) [
        | inl p ↦ let none = lookup-outside index e.0 hi (e ∷ es) ((omega arith, h.0.1), h.1) (inl p) in absurd cc
        | inr p ↦ rw (le-ltb index e.0 (omega arith)) (cases (nat_eq e.0 index) some (length-put_again index (e.0 + 1) hi value there es h.1))
      ]
    where
      cases : (b : Bool) → (if b then Some e.1 else lookup index es) ≡ Some there → (lookup index es ≡ Some there → length (put index value es) ≡ length es) → length (if b then (index, value) ∷ es else e ∷ put index value es) ≡ suc (length es)
      cases true s r = refl
      cases false s r = omega (arith, r s)

  -- the way has come to this key: a tree stands there, to which the entry adds so many; and once it is put into it, and
  -- nothing else changes, the whole tree has it
  pub record Descends (old now : Slab (Node V)) (root key from to index added : ℕ) (value : V) : Type 0 where
    pub part : IsPart now.slots key from to
    pub grows : length (put index value (under now.slots key)) ≡ length (under now.slots key) + added
    pub low : from ≤ index
    pub high : index < to
    pub limit : to ≤ PAGE_LIMIT
    pub onward : (new : List (Option (Node V))) → Holds new key from to (put index value (under now.slots key)) → Keeps now.slots new from to → Holds new root 0 PAGE_LIMIT (put index value (under old.slots root))

  pub sets_out : {now : Slab (Node V)} (root index added : ℕ) (value : V) → IsPart now.slots root 0 PAGE_LIMIT → length (put index value (under now.slots root)) ≡ length (under now.slots root) + added → index < PAGE_LIMIT → Descends now now root root 0 PAGE_LIMIT index added value
  sets_out root index added value h grows high =
      record { part = h; grows = grows; low = omega arith; high = high; limit = omega arith; onward = λ new holds keeps. holds }

  -- what a part's tree is after its fork has counted one more
  counted_part : {now next : Slab (Node V)} {key lo hi : ℕ} {slot : Option (Node V)} (parts : Parts) (part : ℕ) → Updates now next key slot → node_at now.slots key ≡ Some (Fork parts) → (parts.block.first < lo) ⊎ (hi < parts.block.end) → hi ≤ PAGE_LIMIT → IsPart now.slots part lo hi → (under next.slots part ≡ under now.slots part) × Holds next.slots part lo hi (under now.slots part)
  counted_part parts part u found out limit h =
      let stays = Holds-updates (Fork parts) u found out h in
      (under-Holds limit stays, stays)

  goes_left : {old now next : Slab (Node V)} {root key from to index added : ℕ} {value : V} (parts : Parts) → Descends old now root key from to index added value → node_at now.slots key ≡ Some (Fork parts) → parts.block.first ≤ index → index < parts.block.pivot → Updates now next key (Some (Fork (record parts { count = parts.count + added }))) → Descends old next root parts.left parts.block.first parts.block.pivot index added value
  goes_left {old} {now} {next} {root} {key} {from} {to} {index} {added} {value} parts d found low high u =
      let f = at_fork parts d.limit found d.part in
      let a = Holds-order f.left.holds in
      let b = Holds-order f.right.holds in
      let limit = d.limit in
      let top = f.high in
      let bottom = f.low in
      let l = under now.slots parts.left in
      let r = under now.slots parts.right in
      let stays = counted_part parts parts.left u found (inr b) (omega arith) f.left.holds in
      let whole = ap (λ (es : List (ℕ × V)). put index value es) f.is ∙ put-left index value _ _ l r high f.right.rises in
      let grows : length (put index value l) ≡ length l + added = omega (arith, d.grows, ap (λ (es : List (ℕ × V)). length es) whole, ap (λ (es : List (ℕ × V)). length es) f.is, length-append l r, length-append (put index value l) r) in
      record {
        part = subst (λ (es : List (ℕ × V)). Holds next.slots parts.left parts.block.first parts.block.pivot es) (sym stays.0) stays.1;
        grows = rw stays.0 grows;
        low = low;
        high = high;
        limit = omega arith;
        onward = λ new h k. d.onward new
            (subst (λ (es : List (ℕ × V)). Holds new key from to es)
            (sym whole)
            (fork (k.outside key _ u.changed (inr b)) f.low f.high
            (omega (arith, f.count, ap (λ (es : List (ℕ × V)). length es) f.is, length-append l r, length-append (put index value l) r, grows))
            (subst (λ (es : List (ℕ × V)). Holds new parts.left parts.block.first parts.block.pivot (put index value es)) stays.0 h)
            (Holds-apart k (inr (omega arith)) (Holds-updates (Fork parts) u found (inl a) f.right.holds))
            refl))
            (Keeps-then (Keeps-updates (Fork parts) u found f.low f.high) (Keeps-wider from to (omega arith) (omega arith) k));
      }

  goes_right : {old now next : Slab (Node V)} {root key from to index added : ℕ} {value : V} (parts : Parts) → Descends old now root key from to index added value → node_at now.slots key ≡ Some (Fork parts) → parts.block.pivot ≤ index → index < parts.block.end → Updates now next key (Some (Fork (record parts { count = parts.count + added }))) → Descends old next root parts.right parts.block.pivot parts.block.end index added value
  goes_right {old} {now} {next} {root} {key} {from} {to} {index} {added} {value} parts d found low high u =
      let f = at_fork parts d.limit found d.part in
      let a = Holds-order f.left.holds in
      let b = Holds-order f.right.holds in
      let limit = d.limit in
      let top = f.high in
      let bottom = f.low in
      let l = under now.slots parts.left in
      let r = under now.slots parts.right in
      let stays = counted_part parts parts.right u found (inl a) (omega arith) f.right.holds in
      let whole = ap (λ (es : List (ℕ × V)). put index value es) f.is ∙ put-right index value _ _ l r low f.left.rises in
      let grows : length (put index value r) ≡ length r + added = omega (arith, d.grows, ap (λ (es : List (ℕ × V)). length es) whole, ap (λ (es : List (ℕ × V)). length es) f.is, length-append l r, length-append l (put index value r)) in
      record {
        part = subst (λ (es : List (ℕ × V)). Holds next.slots parts.right parts.block.pivot parts.block.end es) (sym stays.0) stays.1;
        grows = rw stays.0 grows;
        low = low;
        high = high;
        limit = omega arith;
        onward = λ new h k. d.onward new
            (subst (λ (es : List (ℕ × V)). Holds new key from to es)
            (sym whole)
            (fork (k.outside key _ u.changed (inl a)) f.low f.high
            (omega (arith, f.count, ap (λ (es : List (ℕ × V)). length es) f.is, length-append l r, length-append l (put index value r), grows))
            (Holds-apart k (inl (omega arith)) (Holds-updates (Fork parts) u found (inr b) f.left.holds))
            (subst (λ (es : List (ℕ × V)). Holds new parts.right parts.block.pivot parts.block.end (put index value es)) stays.0 h)
            refl))
            (Keeps-then (Keeps-updates (Fork parts) u found f.low f.high) (Keeps-wider from to (omega arith) (omega arith) k));
      }

  -- a fork's count has room for one more, and one is the most that is added
  pub room_to_count : {old now : Slab (Node V)} {root key from to index added : ℕ} {value : V} (parts : Parts) → Descends old now root key from to index added value → node_at now.slots key ≡ Some (Fork parts) → parts.count + added ≤ PAGE_LIMIT + 1
  room_to_count {now = now} {key = key} {index = index} {value = value} parts d found =
      let f = at_fork parts d.limit found d.part in
      let limit = d.limit in
      let top = f.high in
      omega (arith, f.count, d.grows, length-put index value (under now.slots key), length-Rises parts.block.first parts.block.end (under now.slots key) f.rises)

  -- the bounds come closer
  closer_left : {old now : Slab (Node V)} {root key from to index added : ℕ} {value : V} (parts : Parts) → Descends old now root key from to index added value → node_at now.slots key ≡ Some (Fork parts) → parts.block.pivot - parts.block.first < to - from
  closer_left parts d found =
      let f = at_fork parts d.limit found d.part in
      let a = Holds-order f.left.holds in
      let b = Holds-order f.right.holds in
      let top = f.high in
      let bottom = f.low in
      omega arith

  closer_right : {old now : Slab (Node V)} {root key from to index added : ℕ} {value : V} (parts : Parts) → Descends old now root key from to index added value → node_at now.slots key ≡ Some (Fork parts) → parts.block.end - parts.block.pivot < to - from
  closer_right parts d found =
      let f = at_fork parts d.limit found d.part in
      let a = Holds-order f.left.holds in
      let b = Holds-order f.right.holds in
      let top = f.high in
      let bottom = f.low in
      omega arith

  -- the way goes on in the half that has the index
  pub goes_on : {old now next : Slab (Node V)} {root key from to index added : ℕ} {value : V} (parts : Parts) (half : Half) → Descends old now root key from to index added value → node_at now.slots key ≡ Some (Fork parts) → parts.block.first ≤ index → index < parts.block.end → Updates now next key (Some (Fork (record parts { count = parts.count + added }))) → HasHalf parts index half → Descends old next root half.key half.from half.to index added value
  goes_on parts half d found low high u (inl h) = rw h.1 (goes_left parts d found low h.0 u)
  goes_on parts half d found low high u (inr h) = rw h.1 (goes_right parts d found h.0 high u)

  pub closer : {old now : Slab (Node V)} {root key from to index added : ℕ} {value : V} (parts : Parts) (half : Half) → Descends old now root key from to index added value → node_at now.slots key ≡ Some (Fork parts) → HasHalf parts index half → half.to - half.from < to - from
  closer parts half d found (inl h) = rw h.1 (closer_left parts d found)
  closer parts half d found (inr h) = rw h.1 (closer_right parts d found)
