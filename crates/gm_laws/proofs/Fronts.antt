-- What holds at every position, and of the fronts of a right history.
use Rattle.std.proofs.Common.{◌+◌, ◌<◌, List, [], ap, arith, false, inl, inr, refl, subst, suc, true, zero, ℕ, ◌↔◌, ◌∙◌, ◌∷◌, ◌≡◌, ◌⊎◌}
use Rattle.std.proofs.lemmas.Bool.{and_from, and_parts, cases_lt}
use Rattle.gm_base.specs.Scripts.{Orders}
use Rattle.gm_base.specs.Values.{same_kind}
use Rattle.gm_base.specs.declared.values.Kind.{Kind}
use Rattle.gm_base.specs.declared.values.Kind.TheVariants.{Private, Shared}
use Rattle.gm_flat.specs.Attribute.{attr_of}
use Rattle.gm_flat.specs.Calls.{all_have}
use Rattle.gm_flat.specs.FlatState.{AttrCall}
use Rattle.gm_flat.specs.Histories.{same_turn}
use Rattle.gm_flat.specs.RightHistory.{Right}
use Rattle.gm_flat.specs.declared.entry.Entry.{Entry}
use Rattle.gm_laws.proofs.Folios.{LivesOk, lives}
use Rattle.gm_laws.proofs.KeepVcpu.{kind_is}
use Rattle.gm_laws.proofs.RightIsRuled.{ruled}
use Rattle.gm_laws.proofs.RuledIsRight.{right}
use Rattle.gm_laws.specs.LivesEverywhere.{LivesEverywhere}
use Rattle.gm_laws.specs.Ruled.{Follows, FollowsRules}
use Rattle.gm_laws.specs.Stands.{Stands}

pub front_follows : (o : Orders) (e : Entry) (before past : List Entry) → Stands e before past → Follows o past → FollowsRules o e before × Follows o before
front_follows o e before [] s r = absurd s
front_follows o e before (d ∷ past) (inl s) r = subst (λ (p : List Entry). FollowsRules o e p × Follows o p) s.1 (subst (λ (x : Entry). FollowsRules o x past) s.0 r.0, r.1)
front_follows o e before (d ∷ past) (inr s) r = front_follows o e before past s r.1

pub front_right : (o : Orders) (e : Entry) (before past : List Entry) → Right o past → Stands e before past → same_turn e before ≡ false → Right o before
front_right o e before past r s new =
    let f = front_follows o e before past s (ruled o past r).follows in
    right o before (record { follows = f.1; row = f.0.row new; freed = f.0.freed new })

everywhere : (past : List Entry) → LivesOk past → LivesEverywhere past
everywhere past l =
    record {
      used_is_live = λ s u. elim u [ inl c ↦ l.cached_live s c | inr h ↦ l.held_live s h ];
      frames_differ = l.frames_differ;
    }

pub front_lives : (o : Orders) (past : List Entry) → Right o past → LivesEverywhere past × ((e : Entry) (before : List Entry) → Stands e before past → LivesEverywhere before)
front_lives o past r =
    let f = (ruled o past r).follows in
    (everywhere past (lives o past f), λ e before s. everywhere before (lives o before (front_follows o e before past s f).1))

-- a count of pages with one kind
same_kind_self : (k : Kind) → same_kind k k ≡ true
same_kind_self Private = refl
same_kind_self Shared = refl

pub all_have_each : (kind : Kind) (page n : ℕ) (calls : List AttrCall) → (all_have kind page n calls ≡ true) ↔ ((k : ℕ) → k < n → attr_of (page + k) calls ≡ kind)
all_have_each kind page zero calls = (λ e k h. absurd (none k h), λ h. refl)
  where
    none : (k : ℕ) → k < 0 → ⊥
    none k h = omega arith
all_have_each kind page (suc n) calls = go (all_have_each kind page n calls)
  where
    at_or_below : (k : ℕ) → k < suc n → (k ≡ n) ⊎ (k < n)
    at_or_below k h = elim (cases_lt k n) [ inl lt ↦ inr lt | inr ge ↦ inl (omega arith) ]

    less : (k : ℕ) → k < n → k < suc n
    less k h = omega arith

    own : n < suc n
    own = omega arith

    go : (all_have kind page n calls ≡ true) ↔ ((k : ℕ) → k < n → attr_of (page + k) calls ≡ kind) → (all_have kind page (suc n) calls ≡ true) ↔ ((k : ℕ) → k < suc n → attr_of (page + k) calls ≡ kind)
    go ih = (
      (λ e k h.
          let p = and_parts (same_kind (attr_of (page + n) calls) kind) (all_have kind page n calls) e in
          elim (at_or_below k h) [
            | inl q ↦ ap (λ (j : ℕ). attr_of (page + j) calls) q ∙ kind_is (attr_of (page + n) calls) kind p.0
            | inr lt ↦ ih.0 p.1 k lt
          ]),
      (λ h. and_from (same_kind (attr_of (page + n) calls) kind) (all_have kind page n calls) (ap (λ (z : Kind). same_kind z kind) (h n own) ∙ same_kind_self kind) (ih.1 (λ k lt. h k (less k lt)))),
    )
