-- The frame is free where the use is neither held nor cached any more.
use Rattle.std.proofs.Common.{subst, sym, ◌<◌, ℕ, ap, ◌∙◌, Bool, ◌≡◌}
use Rattle.gm_pool.specs.Pools.{IsLive}
use Rattle.gm_store.proofs.Holds.{HoldEnds, hold_ends, is_now}
use Rattle.gm_store.specs.Frees.{hold_dropped}
use Rattle.gm_store.specs.Stored.{StoreStands, Stored}
use Rattle.gm_store.specs.Views.{StoreView}
use Rattle.gm_store.specs.contracts.store.Store.{the_view}
use Rattle.gm_store.proofs.store.Store.drop_hold.Goals as goal
use Rattle.gm_store.proofs.store.Store.drop_hold.Goals.{in-Now, in-Later}

ends : (c : goal.Joined-drop_hold) → (frames : ℕ) (k : Stored) → StoreStands frames c.args.self.now k → HoldEnds frames (record (the_view c.self.inside) { pool = c.drop_hold.new.self }) (is_now c.drop_hold.result) c.args.folio.serial k
ends c frames k st =
    hold_ends frames (the_view c.self.inside) c.drop_hold.new.self c.args.folio c.drop_hold.result k
    (subst (λ (v : StoreView). IsLive v.pool c.args.folio (λ usage. 0 < usage.holds)) (sym c.self.view_is) c.requires)
    c.drop_hold.ensures
    (subst (λ (v : StoreView). StoreStands frames v k) (sym c.self.view_is) st)

told : (c : goal.Joined-drop_hold) → is_now c.drop_hold.result ≡ c.match-drop_hold.result
told c = elim c.match-drop_hold.branch [ in-Now w ↦ ap is_now w.in-Now.is ∙ sym w.result-is | in-Later w ↦ ap is_now w.in-Later.is ∙ sym w.result-is ]

pub returns-clause-freed : goal.returns-clause-freed
returns-clause-freed c = λ frames k st. sym (told c) ∙ (ends c frames k st).freed_is

pub returns-clause-stands : goal.returns-clause-stands
returns-clause-stands c = λ frames k st. subst (λ (b : Bool). StoreStands frames (record (the_view c.self.inside) { pool = c.drop_hold.new.self }) (hold_dropped b c.args.folio.serial k)) (told c) (ends c frames k st).stands
