use Rattle.std.proofs.Common.{ℕ, ◌<◌, List, get_or, length, subst, sym, arith}
use Rattle.gm_slots.specs.declared.order.Begin.{Begin}
use Rattle.gm_slots.specs.Kept.{IsKept, IsShut}
use Rattle.gm_slots.proofs.Keeping.{kept_listed, kept_now, kept_shut, kept_view, order_ids}
use Rattle.gm_slots.proofs.kept.KeptSlots.shut.Goals as goal

pub shut_each-requires : goal.shut_each-requires
shut_each-requires c =
    let k : IsKept c.args.self.now c.self.inside.table.items c.self.inside.ages.items c.self.inside.order.items = kept_now _ _ _ _ c.self.view_is c.self.invariant.0 in
    subst (λ (l : List Begin). (at : ℕ) (d : Begin) → at < length l → (get_or l at d).id < c.self.inside.table.len) (sym c.deref.ensures.value) (λ at d h. omega (arith, k.by_id.places, order_ids c.args.self.now c.self.inside.order.items at d k.good k.by_base h))

pub invariant_of-self : goal.invariant_of-self
invariant_of-self c =
    let k : IsKept c.args.self.now c.self.inside.table.items c.self.inside.ages.items c.self.inside.order.items = kept_now _ _ _ _ c.self.view_is c.self.invariant.0 in
    (kept_view _ _ _ _ (kept_shut c.args.self.now c.self.inside.table.items _ _ c.self.inside.order.items c.args.file k (subst (λ (l : List Begin). IsShut c.args.file l c.self.inside.table.items c.shut_each.new.table.items) c.deref.ensures.value c.shut_each.ensures)), c.self.invariant.1, c.self.invariant.2)

pub returns : goal.returns
returns c =
    let k : IsKept c.args.self.now c.self.inside.table.items c.self.inside.ages.items c.self.inside.order.items = kept_now _ _ _ _ c.self.view_is c.self.invariant.0 in
    kept_listed _ _ _ _ (kept_shut c.args.self.now c.self.inside.table.items _ _ c.self.inside.order.items c.args.file k (subst (λ (l : List Begin). IsShut c.args.file l c.self.inside.table.items c.shut_each.new.table.items) c.deref.ensures.value c.shut_each.ensures))
