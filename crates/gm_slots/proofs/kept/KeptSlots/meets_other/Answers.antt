use Rattle.std.proofs.Common.{◌≡◌, ℕ, ◌+◌, ◌-◌, ◌<◌, List, get_or, subst, sym, ◌∙◌}
use Rattle.gm_slots.specs.declared.order.Begin.{Begin}
use Rattle.gm_slots.specs.Kept.{ByBase, IsKept}
use Rattle.gm_slots.specs.Order.{IsLastOther}
use Rattle.gm_slots.proofs.ById.{by_id_some, pages_of}
use Rattle.gm_slots.proofs.Finding.{Begun}
use Rattle.gm_slots.proofs.Keeping.{kept_now}
use Rattle.gm_slots.proofs.Meeting.{last_decides, none_meet}
use Rattle.gm_slots.proofs.kept.KeptSlots.meets_other.Goals as goal

pub ranges_meet-requires-clause-other : goal.ranges_meet-requires-clause-other
ranges_meet-requires-clause-other c =
    let k : IsKept c.args.self.now c.self.inside.table.items c.self.inside.ages.items c.self.inside.order.items = kept_now _ _ _ _ c.self.view_is c.self.invariant.0 in
    pages_of c.args.self.now c.in-Some-by_id.slot k.good (by_id_some c.args.self.now _ c.in-Some-by_id.slot (sym c.by_id.ensures ∙ c.in-Some-by_id.is)).0

pub returns-in-None : goal.returns-in-None
returns-in-None c =
    let k : IsKept c.args.self.now c.self.inside.table.items c.self.inside.ages.items c.self.inside.order.items = kept_now _ _ _ _ c.self.view_is c.self.invariant.0 in
    let by : ByBase c.args.self.now c.deref.result.now = subst (λ (l : List Begin). ByBase c.args.self.now l) (sym c.deref.ensures.value) k.by_base in
    let same : c.deref-2.result.now ≡ c.deref.result.now = c.deref-2.ensures.value ∙ sym c.deref.ensures.value in
    let begun : Begun c.deref.result.now (c.args.base + (c.args.pages - 1)) c.count_begun-count.result = record { bound = c.count_begun-count.ensures.bound; low = c.count_begun-count.ensures.low; high = c.count_begun-count.ensures.high } in
    sym (none_meet c.args.self.now c.deref.result.now c.args.base c.args.pages c.args.id c.count_begun-count.result k.good by c.requires.some begun
    (subst (λ (l : List Begin). (at : ℕ) (d : Begin) → at < c.count_begun-count.result → (get_or l at d).id ≡ c.args.id) same c.in-None.ensures.none))

pub returns-in-Some-by_id : goal.returns-in-Some-by_id
returns-in-Some-by_id c =
    let k : IsKept c.args.self.now c.self.inside.table.items c.self.inside.ages.items c.self.inside.order.items = kept_now _ _ _ _ c.self.view_is c.self.invariant.0 in
    let by : ByBase c.args.self.now c.deref.result.now = subst (λ (l : List Begin). ByBase c.args.self.now l) (sym c.deref.ensures.value) k.by_base in
    let same : c.deref-2.result.now ≡ c.deref.result.now = c.deref-2.ensures.value ∙ sym c.deref.ensures.value in
    let begun : Begun c.deref.result.now (c.args.base + (c.args.pages - 1)) c.count_begun-count.result = record { bound = c.count_begun-count.ensures.bound; low = c.count_begun-count.ensures.low; high = c.count_begun-count.ensures.high } in
    c.ranges_meet.ensures
    ∙ sym (last_decides c.args.self.now c.deref.result.now c.args.base c.args.pages c.args.id c.count_begun-count.result c.in-Some.begin c.in-Some-by_id.slot k.good by c.requires.some begun
    (subst (λ (l : List Begin). IsLastOther l c.count_begun-count.result c.args.id c.in-Some.begin) same c.in-Some.ensures.some)
    (sym c.by_id.ensures ∙ c.in-Some-by_id.is))
