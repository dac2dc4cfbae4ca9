-- The parts of the invariant, in their own words.
use Rattle.std.proofs.Common.{◌<◌, List, false, None, Option, Some, [], ap, arith, inl, inr, length, refl, subst, suc, sym, true, ℕ, ◌∙◌, ◌∷◌, ◌≡◌, ◌≤◌, ◌⊎◌}
use Rattle.std.proofs.lemmas.Bool.{both_ways}
use Rattle.gm_base.specs.Aim.{Aim}
use Rattle.gm_base.specs.Scripts.{Orders}
use Rattle.gm_base.specs.declared.values.Actor.{Actor}
use Rattle.gm_base.specs.declared.values.Actor.TheVariants.{Caller, Vcpu}
use Rattle.gm_base.specs.declared.values.Kind.{Kind}
use Rattle.gm_base.specs.declared.values.Level.{Level}
use Rattle.gm_flat.specs.FlatState.{Flat}
use Rattle.gm_flat.specs.Histories.{Fault, Faulting, Gotten, NoFault, Seen, fault}
use Rattle.gm_flat.specs.Invalidation.{stale}
use Rattle.gm_flat.specs.Mappings.{Mapping, covered, fills, inside, leaves, off_extent}
use Rattle.gm_flat.specs.NamedPage.{Named, named, named_aside}
use Rattle.gm_flat.specs.Replay.{flat, flat_at, looked_slot}
use Rattle.gm_flat.specs.RightHistory.{Right}
use Rattle.gm_flat.specs.RightTouch.{CanUse}
use Rattle.gm_flat.specs.declared.entry.Entry.{Entry}
use Rattle.gm_flat.specs.declared.entry.What.{What}
use Rattle.gm_flat.specs.declared.entry.What.TheVariants.{Begin, Install}
use Rattle.gm_flat.specs.declared.views.SlotView.{SlotView}
use Rattle.gm_flat.specs.Attribute.{attr_of}
use Rattle.gm_flat.specs.RightLives.{IsCached}
use Rattle.gm_flat.specs.RightLook.{file_of}
use Rattle.gm_base.specs.declared.values.Folio.{Folio}
use Rattle.gm_laws.proofs.Closed.{all_since}
use Rattle.gm_laws.proofs.Fates.{named_folio}
use Rattle.gm_laws.proofs.Flats.{named_is_aside, over}
use Rattle.gm_laws.proofs.Fronts.{front_follows}
use Rattle.gm_laws.proofs.LooksKept.{LookKept, looks_kept}
use Rattle.gm_laws.proofs.Good.{FaultOk, GotOk, KindIs, LookOk, LooksSince, Since}
use Rattle.gm_laws.proofs.Grow.{looked_over, stale_since}
use Rattle.gm_laws.proofs.Ids.{IdsAt}
use Rattle.gm_laws.proofs.KeepVcpu.{IsNewLeaf, Mem-install, use_now}
use Rattle.gm_laws.proofs.Kit.{Mem, Mem-off_extent, Mem-off_spans, by, by_test, flat_at_all, flat_at_keep}
use Rattle.gm_laws.proofs.RightIsRuled.{ruled}
use Rattle.gm_laws.proofs.Touches.{good, locks}
use Rattle.gm_laws.specs.Invariant.{GivesFolio, HasKind, Invariant, IsTrueFault, IsTrueLook}
use Rattle.gm_laws.specs.Readings.{Among}
use Rattle.gm_laws.specs.Ruled.{Follows}
use Rattle.gm_laws.specs.Stands.{Stands}

kind_has : (k : Kind) (o : Option Named) → KindIs k o → HasKind k o
kind_has k None h = h
kind_has k (Some m) h = h

mem_among : (m : Mapping) (ms : List Mapping) → Among m ms → Mem m ms
mem_among m [] h = h
mem_among m (x ∷ xs) h = elim h [ inl e ↦ inl e | inr k ↦ inr (mem_among m xs k) ]

-- a leaf gives what was named at its Install
abbrev LeafAt : List Entry → Type 0
LeafAt past = (m : Mapping) → Mem m (leaves past) → (m.made < length past) × ((h : ℕ) → named (flat_at m.made past) h ≡ m.gives h)

leaf_more : (e : Entry) (past : List Entry) (m : Mapping) → (m.made < length past) × ((h : ℕ) → named (flat_at m.made past) h ≡ m.gives h) → (m.made < suc (length past)) × ((h : ℕ) → named (flat_at m.made (e ∷ past)) h ≡ m.gives h)
leaf_more e past m x = (less m.made (length past) x.0, λ h. ap (λ (f : Flat). named f h) (flat_at_keep m.made e past (le m.made (length past) x.0)) ∙ x.1 h)
  where
    less : (a b : ℕ) → a < b → a < suc b
    less a b h = omega arith

    le : (a b : ℕ) → a < b → a ≤ b
    le a b h = omega arith

leaf_new : (e : Entry) (m : Mapping) (page : ℕ) (level : Level) (past : List Entry) (x : Fault) → IsNewLeaf m (length past) page level (flat past) x → (m.made < suc (length past)) × ((h : ℕ) → named (flat_at m.made (e ∷ past)) h ≡ m.gives h)
leaf_new e m page level past (Faulting a k s l (Some q)) i =
    subst (λ (z : Mapping). (z.made < suc (length past)) × ((h : ℕ) → named (flat_at z.made (e ∷ past)) h ≡ z.gives h)) (sym i)
    (own (length past), λ h. ap (λ (f : Flat). named f h) (flat_at_keep (length past) e past (self (length past)) ∙ flat_at_all past))
  where
    own : (n : ℕ) → n < suc n
    own n = omega arith

    self : (n : ℕ) → n ≤ n
    self n = omega arith
leaf_new e m page level past (Faulting a k s l None) i = absurd i
leaf_new e m page level past NoFault i = absurd i

leaf_keep : (t : ℕ) (w : What) (a : Actor) (past : List Entry) → LeafAt past → LeafAt (by t a w ∷ past)
leaf_keep t (Install page level) (Vcpu u) past f m i =
    elim (Mem-install m (length past) page level (flat past) (fault u past) (off_extent (covered level page) (leaves past)) i) [
      | inl new ↦ leaf_new (by t (Vcpu u) (Install page level)) m page level past (fault u past) new
      | inr old ↦ leaf_more (by t (Vcpu u) (Install page level)) past m (f m (Mem-off_extent (covered level page) m (leaves past) old))
    ]
leaf_keep t (Install page level) (Caller c) past f m i = leaf_more (by t (Caller c) (Install page level)) past m (f m (Mem-off_extent (covered level page) m (leaves past) i))
leaf_keep t (Begin spans) a past f m i = leaf_more (by t a (Begin spans)) past m (f m (Mem-off_spans spans.list m (leaves past) i))
leaf_keep t w a past f m i = leaf_more (by t a w) past m (f m i)

leaf_at : (past : List Entry) → LeafAt past
leaf_at [] m i = absurd i
leaf_at (e ∷ past) m i = leaf_keep e.turn e.what e.actor past (leaf_at past) m i

-- faults
true_look : (a : Aim) (s : ℕ) (l : Seen) (past : List Entry) (o : Option SlotView) → looked_slot l past ≡ o → LooksSince past → IdsAt past → LookOk a s l past → IsTrueLook a s l o past
true_look a s l past None e looks ids ok = tt
true_look a s l past (Some r) e looks ids ok =
    elim (looks l.at a.page r (let x = ok.at_le in let y = ok.place_lt in omega arith) (sym (looked_over a s l past ids ok) ∙ e)) [
      | inl x ↦ inl (stale_since s l.at a.page past ok.sampled (inl x))
      | inr y ↦ elim y [
        | inl x ↦ inl (stale_since s l.at a.page past ok.sampled (inr x))
        | inr x ↦ inr (x.0, (ok.file_is ∙ ap file_of (sym (looked_over a s l past ids ok) ∙ e)), x.1 ∙ sym ok.attr_is)
      ]
    ]

true_got : (a : Aim) (s : ℕ) (q : Gotten) (past : List Entry) → Since past → GotOk a s q past → (stale (Some s) a.page past ≡ true) ⊎ CanUse a q.backing (named (flat past) a.page)
true_got a s q past since ok =
    elim ok.usable [
      | inl x ↦ inl x
      | inr x ↦ by_test (stale (Some s) a.page past) (λ y. inl y) (λ n. inr (use_now past s q.after a.page a q.backing (named (flat_at q.after past) a.page) since ok.sampled ok.after_le refl n x))
    ]

true_fault : (x : Fault) (past : List Entry) → LooksSince past → Since past → IdsAt past → FaultOk past x → LookKept past x → IsTrueFault past x
true_fault (Faulting a m (Some s) (Some l) None) past looks since ids ok k = (true_look a s l past (looked_slot l past) refl looks ids k, tt)
true_fault (Faulting a m (Some s) (Some l) (Some q)) past looks since ids ok k = (true_look a s l past (looked_slot l past) refl looks ids k, true_got a s q past since ok)
true_fault (Faulting a m (Some s) None q) past looks since ids ok k = tt
true_fault (Faulting a m None l q) past looks since ids ok k = tt
true_fault NoFault past looks since ids ok k = tt

-- a folio that is given is cached
given_cached : (folio : Folio) (f : Flat) (h : ℕ) (o : Option Named) → named_aside f h ≡ o → GivesFolio folio o → IsCached folio.serial f
given_cached folio f h None e g = absurd g
given_cached folio f h (Some m) e g = let x = named_folio f h folio (attr_of h f.attrs) (over h f.slots) m e g in (x.0, x.1, folio, x.2, refl)

leaf_cached : (folio : Folio) (f : Flat) (h : ℕ) (o : Option Named) → named f h ≡ o → GivesFolio folio o → IsCached folio.serial f
leaf_cached folio f h None e g = absurd g
leaf_cached folio f h (Some m) e g = given_cached folio f h (Some m) (named_is_aside f h m e) g

pub invariant_by : (o : Orders) (past : List Entry) → Follows o past → Invariant past
invariant_by o past r =
    let g = good o past r in
    let k = locks o past r in
    record {
      leaves_name_now = λ m h i c.
          let x = g.leaf_names m h (mem_among m (leaves past) i) c in
          record { then_named = (leaf_at past m (mem_among m (leaves past) i)).1 h; now_named = x.0; has_kind = kind_has m.kind (m.gives h) x.1 };
      no_leaf_under_bracket = record {
        no_leaf = λ c h b m e i q. g.no_leaf c h b m e (mem_among m (leaves past) i) q;
        old_fill = λ c v h b m e i q u. g.old_fill c v h b m e (mem_among m (fills v past) i) q u;
      };
      fills_name_then = λ v h m i c.
          let x = g.fill_in v m (mem_among m (fills v past) i) in
          record { since_flush = x.0; then_named = x.1.1 h; has_kind = kind_has m.kind (m.gives h) (x.1.2 h c); now_or_out = g.fill_names v h m (mem_among m (fills v past) i) c };
      flushed_inside = record { is_flushed = g.is_flushed; is_asked = g.asked; in_hull_of = g.in_hull_of };
      since_brackets = record {
        not_between = λ v h x m i f c q. (all_since o past r x i).fresh v h m (mem_among m (fills v past) f) c q;
        is_flushed = λ v x i q n. (all_since o past r x i).is_flushed v q n;
      };
      faults_are_stale_or_true = λ v. true_fault (fault v past) past g.looks g.since k.ids (g.faults v) (looks_kept o past r v);
      names_cached = record {
        by_leaf = λ m h folio i c q. leaf_cached folio (flat past) h (m.gives h) (g.leaf_names m h (mem_among m (leaves past) i) c).0 q;
        by_fill = λ v m h folio n i c q. elim (g.fill_names v h m (mem_among m (fills v past) i) c) [
          | inl x ↦ given_cached folio (flat past) h (m.gives h) x.0 q
          | inr x ↦ absurd (both_ways (inside v past) x.0 n)
        ];
      };
    }

pub invariant_now : (o : Orders) (past : List Entry) → Right o past → Invariant past
invariant_now o past r = invariant_by o past (ruled o past r).follows

pub invariant_then : (o : Orders) (e : Entry) (before past : List Entry) → Right o past → Stands e before past → Invariant before
invariant_then o e before past r s = invariant_by o before (front_follows o e before past s (ruled o past r).follows).1
