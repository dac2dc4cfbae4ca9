-- The entries of a bracket keep the invariant.
use Rattle.std.proofs.Common.{◌-◌, ◌<◌, Bool, List, None, Option, Some, ap, arith, cond, eqb, eqb-true, false, inl, inr, le-leb, leb, length, refl, subst, suc, sym, true, ℕ, ◌∙◌, ◌∷◌, ◌≡◌, ◌≤◌, ◌⊎◌}
use Rattle.std.proofs.lemmas.Bool.{both_ways, cases_Bool, cases_lt, eqb-false, or_left}
use Rattle.std.proofs.lemmas.Bool.Decides.{nat_tests}
use Rattle.gm_base.specs.Extent.{Extent}
use Rattle.gm_base.specs.Scripts.{Orders}
use Rattle.gm_base.specs.declared.values.Actor.TheVariants.{Caller}
use Rattle.gm_base.specs.declared.values.Kind.{Kind}
use Rattle.gm_base.specs.declared.values.Kind.TheVariants.{Private, Shared}
use Rattle.gm_flat.specs.Attribute.{attr_of}
use Rattle.gm_flat.specs.FlatState.{Flat, Triple}
use Rattle.gm_flat.specs.Histories.{Bracket, Call, bracket, call, with_acked}
use Rattle.gm_flat.specs.Invalidation.{count, ended, hull, in_hull}
use Rattle.gm_flat.specs.Mappings.{Mapping, any_holds, covered, covers, fills, flushed, inside, leaves, pending}
use Rattle.gm_flat.specs.NamedPage.{Named, named, named_aside, named_by, unmarked}
use Rattle.gm_flat.specs.Replay.{flat}
use Rattle.gm_flat.specs.RightOrder.{Acks, Begins, Ends}
use Rattle.gm_flat.specs.Roomy.{Roomy}
use Rattle.gm_flat.specs.Window.{is_on}
use Rattle.gm_flat.specs.declared.effect.Effect.{Effect}
use Rattle.gm_flat.specs.declared.entry.Entry.{Entry}
use Rattle.gm_flat.specs.declared.entry.What.TheVariants.{Acked, Begin, Change, End}
use Rattle.gm_flat.specs.declared.views.SlotView.{SlotView}
use Rattle.gm_laws.proofs.Flats.{alters, aside_keep, attr_keep, named_keep, on_altered, over, slot_keep}
use Rattle.gm_laws.proofs.Good.{Good, KindIs, fill_at_more, from_more, looks_more, since_more}
use Rattle.gm_laws.proofs.Grow.{hull_begin}
use Rattle.gm_laws.proofs.Ids.{IdsAt}
use Rattle.gm_laws.proofs.Keep.{faults_keep}
use Rattle.gm_laws.proofs.Kit.{Mem, Mem-off_spans, by, cond_is, flat_at_here, flat_at_keep, off_spans-page, some_same, widened_covers}
use Rattle.gm_laws.proofs.Tally.{one, tally_open, tally_same, tally_shut, tally_two}
use Rattle.gm_laws.specs.May.{May}

-- begin
pub new_bracket : (d c : ℕ) (a b : Bracket) (x : Option Bracket) → cond (eqb d c) (Some a) x ≡ Some b → ((d ≡ c) × (a ≡ b)) ⊎ (x ≡ Some b)
new_bracket d c a b x e =
    elim (cond_is (eqb d c) (Some a) x (Some b) e) [
      | inl y ↦ inl (eqb-true d c y.0, some_same a b y.1)
      | inr y ↦ inr y.1
    ]

hull_open : (n : ℕ) (h : Option Extent) → 1 ≤ n → h ≡ cond (eqb n 0) None h
hull_open n h le = let e : eqb n 0 ≡ false = grind (arith, nat_tests) in rw e refl

abbrev pub opened : ℕ → List Extent → Bracket
opened n spans = record { begun = n; spans = spans; acked = false }

same_covers : (a b : Bracket) (g : ℕ) → a ≡ b → any_holds a.spans g ≡ any_holds b.spans g
same_covers a b g e = ap (λ (x : Bracket). any_holds x.spans g) e

begins_none : (x : Option Call) (b : Option Bracket) → Begins x b → b ≡ None
begins_none (Some x) None h = refl
begins_none (Some x) (Some b) h = absurd h
begins_none None b h = absurd h

pub keep_begin : (o : Orders) (t d : ℕ) (spans : Roomy) (past : List Entry) → d < o.setup.callers → IdsAt past → Good o.setup.callers past → May o (Begin spans) (Caller d) past → Good o.setup.callers (by t (Caller d) (Begin spans) ∷ past)
keep_begin o t d spans past lt ids g m =
    record {
      count_is = ap (λ (k : ℕ). suc k) g.count_is ∙ sym (tally_open o.setup.callers d (opened (length past) spans.list) (λ c. bracket c past) lt (begins_none (call d past) (bracket d past) m.0));
      hull_none = λ e. absurd (omega arith);
      from_lt = λ c b e. elim (new_bracket d c (opened (length past) spans.list) b (bracket c past) e) [
        | inl y ↦ (subst (λ (x : ℕ). x < o.setup.callers) y.0 lt, subst (λ (x : Bracket). x.begun < suc (length past)) y.1 (omega arith))
        | inr y ↦ from_more o.setup.callers past g.from_lt c b y
      ];
      asked = λ c v b e. inr refl;
      in_hull_of = λ c p b e k. elim (new_bracket d c (opened (length past) spans.list) b (bracket c past) e) [
        | inl y ↦ widened_covers p spans.list (cond (eqb (count past) 0) None (hull past)) (same_covers (opened (length past) spans.list) b p y.1 ∙ k)
        | inr y ↦ hull_begin (count past) p (hull past) spans.list g.hull_none (g.in_hull_of c p b y k)
      ];
      no_leaf = λ c h b l e i k. elim (new_bracket d c (opened (length past) spans.list) b (bracket c past) e) [
        | inl y ↦ sym (same_covers (opened (length past) spans.list) b h y.1) ∙ off_spans-page spans.list l h (leaves past) i k
        | inr y ↦ g.no_leaf c h b l y (Mem-off_spans spans.list l (leaves past) i) k
      ];
      old_fill = λ c v h b f e i q k. elim (new_bracket d c (opened (length past) spans.list) b (bracket c past) e) [
        | inl y ↦ subst (λ (x : Bracket). f.made < x.begun) y.1 (g.fill_in v f i).1.0
        | inr y ↦ g.old_fill c v h b f y i q k
      ];
      is_flushed = λ c v b e k i. elim (new_bracket d c (opened (length past) spans.list) b (bracket c past) e) [
        | inl y ↦ absurd (both_ways b.acked (sym (ap (λ (x : Bracket). x.acked) y.1)) k)
        | inr y ↦ g.is_flushed c v b y k i
      ];
      fill_in = λ v f i. ((g.fill_in v f i).0, fill_at_more (by t (Caller d) (Begin spans)) past f (g.fill_in v f i).1);
      leaf_names = λ l h i k. g.leaf_names l h (Mem-off_spans spans.list l (leaves past) i) k;
      fill_names = λ v h f i k. elim (g.fill_names v h f i k) [ inl y ↦ inl y | inr y ↦ inr (y.0, refl) ];
      since = λ p q x le e. elim (since_more (by t (Caller d) (Begin spans)) past (λ r z y. y) g.since p q x le e) [
        | inl y ↦ inl y
        | inr y ↦ elim y [
          | inl z ↦ inr (inl (hull_begin (count past) q (hull past) spans.list g.hull_none z))
          | inr z ↦ inr (inr z)
        ]
      ];
      looks = λ p q x le e. elim (looks_more (by t (Caller d) (Begin spans)) past (refl, refl) g.looks p q x le e) [
        | inl y ↦ inl y
        | inr y ↦ elim y [
          | inl z ↦ inr (inl (hull_begin (count past) q (hull past) spans.list g.hull_none z))
          | inr z ↦ inr (inr z)
        ]
      ];
      faults = faults_keep o t (Begin spans) (Caller d) past ids g m;
    }

-- acked
abbrev pub Was : ℕ → ℕ → Bracket → Option Bracket → Type 0
Was d c b x = (a : Bracket) × (x ≡ Some a) × (a.begun ≡ b.begun) × (a.spans ≡ b.spans) × ((a.acked ≡ true) ⊎ ((d ≡ c) ⊎ (b.acked ≡ false)))

pub acked_bracket : (d c : ℕ) (b : Bracket) (x : Option Bracket) → cond (eqb d c) (with_acked x) x ≡ Some b → Was d c b x
acked_bracket d c b None e = elim (cond_is (eqb d c) None None (Some b) e) [ inl y ↦ absurd (cc (y.1)) | inr y ↦ absurd (cc (y.1)) ]
acked_bracket d c b (Some a) e =
    elim (cond_is (eqb d c) (Some (record a { acked = true })) (Some a) (Some b) e) [
      | inl y ↦ let z : record a { acked = true } ≡ b = some_same _ b y.1 in (a, refl, ap (λ (x : Bracket). x.begun) z, ap (λ (x : Bracket). x.spans) z, inr (inl (eqb-true d c y.0)))
      | inr y ↦ let z : a ≡ b = some_same a b y.1 in (a, refl, ap (λ (x : Bracket). x.begun) z, ap (λ (x : Bracket). x.spans) z, acked_or d c a b z)
    ]
  where
    acked_or : (d c : ℕ) (a b : Bracket) → a ≡ b → (a.acked ≡ true) ⊎ ((d ≡ c) ⊎ (b.acked ≡ false))
    acked_or d c a b e = elim (cases_Bool a.acked) [ inl y ↦ inl y | inr y ↦ inr (inr (sym (ap (λ (x : Bracket). x.acked) e) ∙ y)) ]

one_acked : (t : Bool) (x : Option Bracket) → one (cond t (with_acked x) x) ≡ one x
one_acked true None = refl
one_acked true (Some b) = refl
one_acked false x = refl

ack_flushed : (d c v : ℕ) (a : Bracket) (past : List Entry) → Acks (bracket d past) past → d ≡ c → bracket c past ≡ Some a → inside v past ≡ true → a.begun < flushed v past
ack_flushed d c v a past m e k i =
    let x = subst (λ (o : Option Bracket). Acks o past) (ap (λ (z : ℕ). bracket z past) e ∙ k) m in
    elim (cases_lt a.begun (flushed v past)) [
      | inl lt ↦ lt
      | inr ge ↦ absurd (x.1 (record { vcpu = v; is_inside = i; not_flushed = ge }))
    ]

pub keep_acked : (o : Orders) (t d : ℕ) (past : List Entry) → IdsAt past → Good o.setup.callers past → May o Acked (Caller d) past → Good o.setup.callers (by t (Caller d) Acked ∷ past)
keep_acked o t d past ids g m =
    record {
      count_is = g.count_is ∙ sym (tally_same o.setup.callers (λ c. cond (eqb d c) (with_acked (bracket c past)) (bracket c past)) (λ c. bracket c past) (λ c. one_acked (eqb d c) (bracket c past)));
      hull_none = g.hull_none;
      from_lt = λ c b e. let w = acked_bracket d c b (bracket c past) e in subst (λ (x : ℕ). (c < o.setup.callers) × (x < suc (length past))) w.2 (from_more o.setup.callers past g.from_lt c w.0 w.1);
      asked = λ c v b e. let w = acked_bracket d c b (bracket c past) e in subst (λ (x : ℕ). (x < flushed v past) ⊎ (pending v past ≡ true)) w.2 (g.asked c v w.0 w.1);
      in_hull_of = λ c p b e k. let w = acked_bracket d c b (bracket c past) e in g.in_hull_of c p w.0 w.1 (ap (λ (x : List Extent). any_holds x p) w.3 ∙ k);
      no_leaf = λ c h b l e i k. let w = acked_bracket d c b (bracket c past) e in sym (ap (λ (x : List Extent). any_holds x h) w.3) ∙ g.no_leaf c h w.0 l w.1 i k;
      old_fill = λ c v h b f e i q k. let w = acked_bracket d c b (bracket c past) e in subst (λ (x : ℕ). f.made < x) w.2 (g.old_fill c v h w.0 f w.1 i q (ap (λ (x : List Extent). any_holds x h) w.3 ∙ k));
      is_flushed = λ c v b e k i. let w = acked_bracket d c b (bracket c past) e in subst (λ (x : ℕ). x < flushed v past) w.2 (elim w.4 [
        | inl y ↦ g.is_flushed c v w.0 w.1 y i
        | inr y ↦ elim y [
          | inl z ↦ ack_flushed d c v w.0 past m z w.1 i
          | inr z ↦ absurd (both_ways b.acked z k)
        ]
      ]);
      fill_in = λ v f i. ((g.fill_in v f i).0, fill_at_more (by t (Caller d) Acked) past f (g.fill_in v f i).1);
      leaf_names = g.leaf_names;
      fill_names = g.fill_names;
      since = since_more (by t (Caller d) Acked) past (λ r z y. y) g.since;
      looks = looks_more (by t (Caller d) Acked) past (refl, refl) g.looks;
      faults = faults_keep o t Acked (Caller d) past ids g m;
    }

-- a change
abbrev pub IsCovered : ℕ → ℕ → List Entry → Type 0
IsCovered d g past = (b : Bracket) × (bracket d past ≡ Some b) × (b.acked ≡ true) × (any_holds b.spans g ≡ true)

-- a change is on a page only where its acknowledged bracket covers it, or no slot lies there
abbrev pub Safe : Effect → ℕ → List Entry → Type 0
Safe effect d past = (g : ℕ) → is_on effect (flat past) g ≡ true → IsCovered d g past ⊎ (over g (flat past).slots ≡ None)

-- what an effect alters lies under the bracket of its call, acknowledged or not, or under no slot
abbrev pub IsUnder : ℕ → ℕ → List Entry → Type 0
IsUnder d g past = (b : Bracket) × (bracket d past ≡ Some b) × (any_holds b.spans g ≡ true)

abbrev pub SafeAll : Effect → ℕ → List Entry → Type 0
SafeAll effect d past = (g : ℕ) → alters effect (flat past) g ≡ true → IsUnder d g past ⊎ (over g (flat past).slots ≡ None)

by_altered : {P : Type 0} (d g : ℕ) (effect : Effect) (past : List Entry) → SafeAll effect d past → (alters effect (flat past) g ≡ false → P) → (IsUnder d g past → P) → (over g (flat past).slots ≡ None → P) → P
by_altered d g effect past m off covered none =
    elim (cases_Bool (alters effect (flat past) g)) [
      | inl y ↦ elim (m g y) [ inl z ↦ covered z | inr z ↦ none z ]
      | inr y ↦ off y
    ]

by_page : {P : Type 0} (d g : ℕ) (effect : Effect) (past : List Entry) → Safe effect d past → (is_on effect (flat past) g ≡ false → P) → (IsCovered d g past → P) → (over g (flat past).slots ≡ None → P) → P
by_page d g effect past m off covered none =
    elim (cases_Bool (is_on effect (flat past) g)) [
      | inl y ↦ elim (m g y) [ inl z ↦ covered z | inr z ↦ none z ]
      | inr y ↦ off y
    ]

no_name : (g : ℕ) (ts : List Triple) (kind : Kind) → named_by g ts kind None ≡ None
no_name g ts Shared = refl
no_name g ts Private = refl

unnamed : (f : Flat) (g : ℕ) → over g f.slots ≡ None → named f g ≡ None
unnamed f g e = ap (λ (o : Option SlotView). named_by g f.cache (attr_of g f.attrs) (unmarked o)) e ∙ no_name g f.cache (attr_of g f.attrs)

unnamed_aside : (f : Flat) (g : ℕ) → over g f.slots ≡ None → named_aside f g ≡ None
unnamed_aside f g e = ap (λ (o : Option SlotView). named_by g f.cache (attr_of g f.attrs) o) e ∙ no_name g f.cache (attr_of g f.attrs)

none_aside : (f : Flat) (g : ℕ) (kind : Kind) (o : Option Named) → over g f.slots ≡ None → named_aside f g ≡ o → KindIs kind o → ⊥
none_aside f g kind None a b k = k
none_aside f g kind (Some m) a b k = let x = unnamed_aside f g a in cc

none_kind : (f : Flat) (g : ℕ) (kind : Kind) (o : Option Named) → over g f.slots ≡ None → named f g ≡ o → KindIs kind o → ⊥
none_kind f g kind None a b k = k
none_kind f g kind (Some m) a b k = let x = unnamed f g a in cc

none_some : (f : Flat) (g : ℕ) (m : Named) → over g f.slots ≡ None → named f g ≡ Some m → ⊥
none_some f g m a b = none_kind f g m.kind (Some m) a b refl

none_row : (f : Flat) (g : ℕ) (r : SlotView) → over g f.slots ≡ None → over g f.slots ≡ Some r → ⊥
none_row f g r a b = cc

apart : (x y z : ℕ) → x < y → z ≤ x → y < z → ⊥
apart x y z p q r = omega arith

-- a fill under an acknowledged bracket is of a vCPU that is outside and flushes before it enters
covered_fill : (n d v h : ℕ) (f : Mapping) (past : List Entry) → Good n past → Mem f (fills v past) → covers f h ≡ true → IsCovered d h past → (inside v past ≡ false) × (pending v past ≡ true)
covered_fill n d v h f past g i k w =
    let old : f.made < w.0.begun = g.old_fill d v h w.0 f w.1 i k w.3 in
    let new : flushed v past ≤ f.made = (g.fill_in v f i).0 in
    (outside, elim (g.asked d v w.0 w.1) [ inl y ↦ absurd (omega arith) | inr y ↦ y ])
  where
    outside : inside v past ≡ false
    outside = elim (cases_Bool (inside v past)) [
      | inl y ↦ absurd (apart f.made w.0.begun (flushed v past) (g.old_fill d v h w.0 f w.1 i k w.3) (g.fill_in v f i).0 (g.is_flushed d v w.0 w.1 w.2 y))
      | inr y ↦ y
    ]

pub keep_change : (o : Orders) (t d : ℕ) (effect : Effect) (past : List Entry) → IdsAt past → Good o.setup.callers past → May o (Change effect) (Caller d) past → Safe effect d past → SafeAll effect d past → Good o.setup.callers (by t (Caller d) (Change effect) ∷ past)
keep_change o t d effect past ids g may m n =
    record {
      count_is = g.count_is;
      hull_none = g.hull_none;
      from_lt = from_more o.setup.callers past g.from_lt;
      asked = g.asked;
      in_hull_of = g.in_hull_of;
      no_leaf = g.no_leaf;
      old_fill = g.old_fill;
      is_flushed = g.is_flushed;
      fill_in = λ v f i. ((g.fill_in v f i).0, fill_at_more (by t (Caller d) (Change effect)) past f (g.fill_in v f i).1);
      leaf_names = λ l h i k. by_altered d h effect past n
          (λ off. (named_keep effect (flat past) h off ∙ (g.leaf_names l h i k).0, (g.leaf_names l h i k).1))
          (λ w. absurd (both_ways (any_holds w.0.spans h) (g.no_leaf d h w.0 l w.1 i k) w.2))
          (λ e. absurd (none_kind (flat past) h l.kind (l.gives h) e (g.leaf_names l h i k).0 (g.leaf_names l h i k).1));
      fill_names = λ v h f i k. by_page d h effect past m
          (λ off. elim (g.fill_names v h f i k) [
            | inl y ↦ inl (aside_keep effect (flat past) h off ∙ y.0, rw off y.1)
            | inr y ↦ inr y
          ])
          (λ w. inr (covered_fill o.setup.callers d v h f past g i k w))
          (λ e. elim (g.fill_names v h f i k) [
            | inl y ↦ absurd (none_aside (flat past) h f.kind (f.gives h) e y.0 ((g.fill_in v f i).1.2 h k))
            | inr y ↦ inr y
          ]);
      since = λ p q x le e. elim (cases_lt (length past) p) [
        | inl lt ↦ inr (inr (sym (ap (λ (y : Flat). named y q) (flat_at_here p (by t (Caller d) (Change effect)) past lt)) ∙ e))
        | inr ge ↦ elim (g.since p q x ge (sym (ap (λ (y : Flat). named y q) (flat_at_keep p (by t (Caller d) (Change effect)) past ge)) ∙ e)) [
          | inl y ↦ inl y
          | inr y ↦ elim y [
            | inl z ↦ inr (inl z)
            | inr z ↦ by_altered d q effect past n
                (λ off. inr (inr (named_keep effect (flat past) q off ∙ z)))
                (λ w. inr (inl (g.in_hull_of d q w.0 w.1 w.2)))
                (λ e. absurd (none_some (flat past) q x e z))
          ]
        ]
      ];
      looks = λ p q x le e. elim (cases_lt (length past) p) [
        | inl lt ↦ inr (inr (sym (ap (λ (y : Flat). over q y.slots) (flat_at_here p (by t (Caller d) (Change effect)) past lt)) ∙ e, ap (λ (y : Flat). attr_of q y.attrs) (sym (flat_at_here p (by t (Caller d) (Change effect)) past lt))))
        | inr ge ↦ elim (g.looks p q x ge (sym (ap (λ (y : Flat). over q y.slots) (flat_at_keep p (by t (Caller d) (Change effect)) past ge)) ∙ e)) [
          | inl y ↦ inl y
          | inr y ↦ elim y [
            | inl z ↦ inr (inl z)
            | inr z ↦ by_altered d q effect past n
                (λ off. inr (inr (slot_keep effect (flat past) q off ∙ z.0, attr_keep effect (flat past) q (on_altered effect (flat past) q off) ∙ (z.1 ∙ ap (λ (y : Flat). attr_of q y.attrs) (sym (flat_at_keep p (by t (Caller d) (Change effect)) past ge))))))
                (λ w. inr (inl (g.in_hull_of d q w.0 w.1 w.2)))
                (λ e. absurd (none_row (flat past) q x e z.0))
          ]
        ]
      ];
      faults = faults_keep o t (Change effect) (Caller d) past ids g may;
    }

-- end
pub shut_bracket : (d c : ℕ) (b : Bracket) (x : Option Bracket) → cond (eqb d c) None x ≡ Some b → (d ≡ c → ⊥) × (x ≡ Some b)
shut_bracket d c b x e =
    elim (cond_is (eqb d c) None x (Some b) e) [
      | inl y ↦ absurd (cc (y.1))
      | inr y ↦ (eqb-false d c y.0, y.1)
    ]

open_is : (x : Option Call) (o : Option Bracket) → Ends x o → (b : Bracket) × (o ≡ Some b)
open_is None o m = absurd m
open_is (Some x) None m = absurd m
open_is (Some x) (Some b) m = (b, refl)

hull_end : (n : ℕ) (h : Option Extent) → 2 ≤ n → h ≡ cond (leb n 1) None h
hull_end n h le = let e : leb n 1 ≡ false = grind (arith, nat_tests) in rw e refl

hull_ended : (n : ℕ) (h : Option Extent) → n - 1 ≡ 0 → cond (leb n 1) None h ≡ None
hull_ended n h z = let e : leb n 1 ≡ true = grind (arith, nat_tests) in rw e refl

pub keep_end : (o : Orders) (t d : ℕ) (past : List Entry) → d < o.setup.callers → IdsAt past → Good o.setup.callers past → May o End (Caller d) past → Good o.setup.callers (by t (Caller d) End ∷ past)
keep_end o t d past lt ids g m =
    record {
      count_is = let x = open_is (call d past) (bracket d past) m in let z = tally_shut o.setup.callers d x.0 (λ c. bracket c past) lt x.1 in let y = g.count_is in omega arith;
      hull_none = λ e. hull_ended (count past) (hull past) e;
      from_lt = λ c b e. from_more o.setup.callers past g.from_lt c b (shut_bracket d c b (bracket c past) e).1;
      asked = λ c v b e. g.asked c v b (shut_bracket d c b (bracket c past) e).1;
      in_hull_of = λ c p b e k.
          let s = shut_bracket d c b (bracket c past) e in
          let x = open_is (call d past) (bracket d past) m in
          let two = tally_two o.setup.callers c d b x.0 (λ q. bracket q past) (g.from_lt c b s.1).0 lt s.0 s.1 x.1 in
          let y = g.count_is in
          subst (λ (h : Option Extent). in_hull p h ≡ true) (hull_end (count past) (hull past) (omega arith)) (g.in_hull_of c p b s.1 k);
      no_leaf = λ c h b l e i k. g.no_leaf c h b l (shut_bracket d c b (bracket c past) e).1 i k;
      old_fill = λ c v h b f e i q k. g.old_fill c v h b f (shut_bracket d c b (bracket c past) e).1 i q k;
      is_flushed = λ c v b e k i. g.is_flushed c v b (shut_bracket d c b (bracket c past) e).1 k i;
      fill_in = λ v f i. ((g.fill_in v f i).0, fill_at_more (by t (Caller d) End) past f (g.fill_in v f i).1);
      leaf_names = g.leaf_names;
      fill_names = g.fill_names;
      since = λ p q x le e. elim (cases_lt (length past) p) [
        | inl lt ↦ inr (inr (sym (ap (λ (y : Flat). named y q) (flat_at_here p (by t (Caller d) End) past lt)) ∙ e))
        | inr ge ↦ inl (or_left (leb p (length past)) (ended p past) (le-leb p (length past) ge))
      ];
      looks = λ p q x le e. elim (cases_lt (length past) p) [
        | inl lt ↦ inr (inr (sym (ap (λ (y : Flat). over q y.slots) (flat_at_here p (by t (Caller d) End) past lt)) ∙ e, ap (λ (y : Flat). attr_of q y.attrs) (sym (flat_at_here p (by t (Caller d) End) past lt))))
        | inr ge ↦ inl (or_left (leb p (length past)) (ended p past) (le-leb p (length past) ge))
      ];
      faults = faults_keep o t End (Caller d) past ids g m;
    }
