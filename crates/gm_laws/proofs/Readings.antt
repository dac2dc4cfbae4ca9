-- Each reading says what its definition says in words.
use Rattle.std.proofs.Common.{◌++◌, ◌<◌, Bool, List, [], ap, arith, cond, false, inl, inr, length, refl, subst, suc, sym, true, ℕ, ◌↔◌, ◌∙◌, ◌∷◌, ◌≡◌, ◌≤◌, ◌⊎◌}
use Rattle.std.proofs.lemmas.Bool.{both_ways}
use Rattle.gm_base.specs.Extent.{Extent, meets}
use Rattle.gm_base.specs.declared.values.Actor.{Actor}
use Rattle.gm_flat.specs.Mappings.{Mapping, any_meets, covered, flushed, flushed_step, inside, inside_step, leaves, leaves_step, new_leaf, off_extent, off_spans, pending, pending_step}
use Rattle.gm_flat.specs.declared.entry.Entry.{Entry}
use Rattle.gm_flat.specs.declared.entry.What.{What}
use Rattle.gm_flat.specs.declared.entry.What.TheVariants.{Begin, Enter, Flush, Gone, Install, Miss}
use Rattle.gm_laws.proofs.Kit.{by_test}
use Rattle.gm_laws.proofs.Rows.{false_true}
use Rattle.gm_laws.proofs.Stands.{last_here, last_skip, newest_none, none_after_here, none_after_less, none_after_skip, none_skip, stands_lt}
use Rattle.gm_laws.proofs.Touches.{flushed-le}
use Rattle.gm_laws.specs.Readings.{Among, FlushedIsLast, HasBeginFrom, IsStanding, LastIsEnter, away_with, flush_of, is_begin, is_enter, is_flush, is_move, made_by, move_of, takes_away}

-- flushed
pub flush_yes : (v : ℕ) (w : What) (a : Actor) (n x : ℕ) → is_flush v w a ≡ true → flushed_step v w a n x ≡ suc n
flush_yes v Flush a n x e = rw e refl
flush_yes v _ a n x e = false_true e

pub flush_no : (v : ℕ) (w : What) (a : Actor) (n x : ℕ) → is_flush v w a ≡ false → flushed_step v w a n x ≡ x
flush_no v Flush a n x e = rw e refl
flush_no v _ a n x e = refl

pub flushed_is_last : (v : ℕ) (past : List Entry) → FlushedIsLast v past
flushed_is_last v [] = inl (refl, λ e before s. absurd s)
flushed_is_last v (e ∷ past) = go (flushed_is_last v past)
  where
    go : FlushedIsLast v past → FlushedIsLast v (e ∷ past)
    go ih = by_test (flush_of v e)
        (λ y. inr (e, past, last_here (flush_of v) e past y, flush_yes v e.what e.actor (length past) (flushed v past) y))
        (λ n. elim ih [
          | inl x ↦ inl (flush_no v e.what e.actor (length past) (flushed v past) n ∙ x.0, none_skip (flush_of v) e past n x.1)
          | inr x ↦ inr (x.0, x.1, last_skip (flush_of v) e x.0 x.1 past n x.2, flush_no v e.what e.actor (length past) (flushed v past) n ∙ x.3)
        ])

-- pending
flushed_le : (past : List Entry) (v : ℕ) → flushed v past ≤ length past
flushed_le past v = flushed-le past v

begin_old : (n : ℕ) (x : Entry) (past : List Entry) → HasBeginFrom n past → HasBeginFrom n (x ∷ past)
begin_old n x past h = (h.0, h.1, inr h.2, h.3, h.4)

no_begin_flushed : (n : ℕ) (e : Entry) (past : List Entry) → n ≡ suc (length past) → HasBeginFrom n (e ∷ past) → ⊥
no_begin_flushed n e past q h = elim h.2 [
  | inl x ↦ same (length h.1) (length past) n h.4 (ap length x.1) q
  | inr y ↦ older (length h.1) (length past) n h.4 (stands_lt h.0 h.1 past y) q
]
  where
    same : (a b n : ℕ) → n ≤ a → b ≡ a → n ≡ suc b → ⊥
    same a b n h e q = omega arith

    older : (a b n : ℕ) → n ≤ a → a < b → n ≡ suc b → ⊥
    older a b n h e q = omega arith

begin_less : (n m : ℕ) (e : Entry) (past : List Entry) → is_begin e.what ≡ false → n ≡ m → HasBeginFrom n (e ∷ past) → HasBeginFrom m past
begin_less n m e past b q h = elim h.2 [
  | inl x ↦ absurd (both_ways (is_begin e.what) b (ap (λ (z : Entry). is_begin z.what) x.0 ∙ h.3))
  | inr y ↦ (h.0, h.1, y, h.3, subst (λ (k : ℕ). k ≤ length h.1) q h.4)
]

-- what a step does: a Begin asks, a Flush of the vCPU answers, and all else leaves it
pending_yes : (v : ℕ) (w : What) (a : Actor) (x : Bool) → is_begin w ≡ true → pending_step v w a x ≡ true
pending_yes v (Begin spans) a x e = refl
pending_yes v _ a x e = false_true e

pending_no : (v : ℕ) (w : What) (a : Actor) (x : Bool) → is_flush v w a ≡ true → pending_step v w a x ≡ false
pending_no v Flush a x e = rw e refl
pending_no v _ a x e = false_true e

pending_same : (v : ℕ) (w : What) (a : Actor) (x : Bool) → is_begin w ≡ false → is_flush v w a ≡ false → pending_step v w a x ≡ x
pending_same v Flush a x b e = rw e refl
pending_same v (Begin spans) a x b e = false_true (sym b)
pending_same v _ a x b e = refl

not_both : (v : ℕ) (w : What) (a : Actor) → is_begin w ≡ true → is_flush v w a ≡ false
not_both v (Begin spans) a e = refl
not_both v _ a e = false_true e

pub pending_is_begin : (v : ℕ) (past : List Entry) → (pending v past ≡ true) ↔ HasBeginFrom (flushed v past) past
pending_is_begin v [] = (λ e. false_true e, λ h. absurd h.2)
pending_is_begin v (e ∷ past) = go (pending_is_begin v past)
  where
    go : (pending v past ≡ true) ↔ HasBeginFrom (flushed v past) past → (pending v (e ∷ past) ≡ true) ↔ HasBeginFrom (flushed v (e ∷ past)) (e ∷ past)
    go ih = by_test (is_begin e.what)
        (λ b.
        let same : flushed v (e ∷ past) ≡ flushed v past = flush_no v e.what e.actor (length past) (flushed v past) (not_both v e.what e.actor b) in
        ((λ _. (e, past, inl (refl, refl), b, subst (λ (k : ℕ). k ≤ length past) (sym same) (flushed_le past v))), (λ _. pending_yes v e.what e.actor (pending v past) b)))
        (λ b. by_test (flush_of v e)
        (λ y. (
          (λ p. absurd (both_ways (pending v (e ∷ past)) (pending_no v e.what e.actor (pending v past) y) p)),
          (λ h. absurd (no_begin_flushed (flushed v (e ∷ past)) e past (flush_yes v e.what e.actor (length past) (flushed v past) y) h)),
        ))
        (λ n.
        let same : pending v (e ∷ past) ≡ pending v past = pending_same v e.what e.actor (pending v past) b n in
        let at : flushed v (e ∷ past) ≡ flushed v past = flush_no v e.what e.actor (length past) (flushed v past) n in (
          (λ p. begin_old (flushed v (e ∷ past)) e past (subst (λ (k : ℕ). HasBeginFrom k past) (sym at) (ih.0 (sym same ∙ p)))),
          (λ h. same ∙ ih.1 (begin_less (flushed v (e ∷ past)) (flushed v past) e past b at h)),
        )))

-- inside
move_enter : (v : ℕ) (w : What) (a : Actor) (x : Bool) → is_move v w a ≡ true → inside_step v w a x ≡ is_enter w
move_enter v Enter a x e = rw e refl
move_enter v (Miss access) a x e = rw e refl
move_enter v Gone a x e = rw e refl
move_enter v _ a x e = false_true e

move_no : (v : ℕ) (w : What) (a : Actor) (x : Bool) → is_move v w a ≡ false → inside_step v w a x ≡ x
move_no v Enter a x e = rw e refl
move_no v (Miss access) a x e = rw e refl
move_no v Gone a x e = rw e refl
move_no v _ a x e = refl

pub inside_is_enter : (v : ℕ) (past : List Entry) → (inside v past ≡ true) ↔ LastIsEnter v past
inside_is_enter v [] = (λ e. false_true e, λ h. absurd h.2.stands)
inside_is_enter v (e ∷ past) = go (inside_is_enter v past)
  where
    go : (inside v past ≡ true) ↔ LastIsEnter v past → (inside v (e ∷ past) ≡ true) ↔ LastIsEnter v (e ∷ past)
    go ih = by_test (move_of v e)
        (λ y.
        let at : inside v (e ∷ past) ≡ is_enter e.what = move_enter v e.what e.actor (inside v past) y in (
          (λ i. (e, past, last_here (move_of v) e past y, sym at ∙ i)),
          (λ h. at ∙ elim h.2.stands [
            | inl x ↦ ap (λ (z : Entry). is_enter z.what) x.0 ∙ h.3
            | inr x ↦ absurd (both_ways (move_of v e) (h.2.last e past (inl (refl, refl)) (stands_lt h.0 h.1 past x)) y)
          ]),
        ))
        (λ n.
        let same : inside v (e ∷ past) ≡ inside v past = move_no v e.what e.actor (inside v past) n in (
          (λ i. let x = ih.0 (sym same ∙ i) in (x.0, x.1, last_skip (move_of v) e x.0 x.1 past n x.2, x.3)),
          (λ h. same ∙ ih.1 (elim h.2.stands [
            | inl x ↦ absurd (both_ways (move_of v e) n (ap (move_of v) x.0 ∙ h.2.passes))
            | inr x ↦ (h.0, h.1, record { stands = x; passes = h.2.passes; last = none_after_less (length h.1) (move_of v) e past h.2.last }, h.3)
          ])),
        ))

-- leaves
pub among_append : (m : Mapping) (xs ys : List Mapping) → Among m (xs ++ ys) ↔ (Among m xs ⊎ Among m ys)
among_append m [] ys = (λ h. inr h, λ h. elim h [ inl x ↦ absurd x | inr y ↦ y ])
among_append m (x ∷ xs) ys = go (among_append m xs ys)
  where
    go : Among m (xs ++ ys) ↔ (Among m xs ⊎ Among m ys) → Among m (x ∷ (xs ++ ys)) ↔ (Among m (x ∷ xs) ⊎ Among m ys)
    go ih = (
      (λ h. elim h [ inl e ↦ inl (inl e) | inr k ↦ elim (ih.0 k) [ inl a ↦ inl (inr a) | inr b ↦ inr b ] ]),
      (λ h. elim h [ inl k ↦ elim k [ inl e ↦ inl e | inr a ↦ inr (ih.1 (inl a)) ] | inr b ↦ inr (ih.1 (inr b)) ]),
    )

off_extent_is : (e : Extent) (m : Mapping) (xs : List Mapping) → Among m (off_extent e xs) ↔ (Among m xs × (meets e (covered m.level m.page) ≡ false))
off_extent_is e m [] = (λ h. absurd h, λ h. h.0)
off_extent_is e m (x ∷ xs) = go (meets e (covered x.level x.page)) refl (off_extent_is e m xs)
  where
    go : (t : Bool) → meets e (covered x.level x.page) ≡ t → Among m (off_extent e xs) ↔ (Among m xs × (meets e (covered m.level m.page) ≡ false)) → Among m (cond t (off_extent e xs) (x ∷ off_extent e xs)) ↔ (Among m (x ∷ xs) × (meets e (covered m.level m.page) ≡ false))
    go true q ih = (
      (λ h. let y = ih.0 h in (inr y.0, y.1)),
      (λ h. elim h.0 [ inl s ↦ absurd (both_ways (meets e (covered x.level x.page)) (ap (λ (z : Mapping). meets e (covered z.level z.page)) (sym s) ∙ h.1) q) | inr k ↦ ih.1 (k, h.1) ]),
    )
    go false q ih = (
      (λ h. elim h [ inl s ↦ (inl s, ap (λ (z : Mapping). meets e (covered z.level z.page)) s ∙ q) | inr k ↦ let y = ih.0 k in (inr y.0, y.1) ]),
      (λ h. elim h.0 [ inl s ↦ inl s | inr k ↦ inr (ih.1 (k, h.1)) ]),
    )

off_spans_is : (ss : List Extent) (m : Mapping) (xs : List Mapping) → Among m (off_spans ss xs) ↔ (Among m xs × (any_meets ss (covered m.level m.page) ≡ false))
off_spans_is ss m [] = (λ h. absurd h, λ h. h.0)
off_spans_is ss m (x ∷ xs) = go (any_meets ss (covered x.level x.page)) refl (off_spans_is ss m xs)
  where
    go : (t : Bool) → any_meets ss (covered x.level x.page) ≡ t → Among m (off_spans ss xs) ↔ (Among m xs × (any_meets ss (covered m.level m.page) ≡ false)) → Among m (cond t (off_spans ss xs) (x ∷ off_spans ss xs)) ↔ (Among m (x ∷ xs) × (any_meets ss (covered m.level m.page) ≡ false))
    go true q ih = (
      (λ h. let y = ih.0 h in (inr y.0, y.1)),
      (λ h. elim h.0 [ inl s ↦ absurd (both_ways (any_meets ss (covered x.level x.page)) (ap (λ (z : Mapping). any_meets ss (covered z.level z.page)) (sym s) ∙ h.1) q) | inr k ↦ ih.1 (k, h.1) ]),
    )
    go false q ih = (
      (λ h. elim h [ inl s ↦ (inl s, ap (λ (z : Mapping). any_meets ss (covered z.level z.page)) s ∙ q) | inr k ↦ let y = ih.0 k in (inr y.0, y.1) ]),
      (λ h. elim h.0 [ inl s ↦ inl s | inr k ↦ inr (ih.1 (k, h.1)) ]),
    )

-- a step: what is new, and what stays
leaves_next : (m : Mapping) (w : What) (a : Actor) (past : List Entry) → Among m (leaves_step w a past (leaves past)) ↔ (Among m (made_by w a past) ⊎ (Among m (leaves past) × (takes_away m w ≡ false)))
leaves_next m (Install page level) a past =
    let x = among_append m (new_leaf page level a past) (off_extent (covered level page) (leaves past)) in
    let y = off_extent_is (covered level page) m (leaves past) in
    ((λ h. elim (x.0 h) [ inl k ↦ inl k | inr k ↦ inr (y.0 k) ]), (λ h. x.1 (elim h [ inl k ↦ inl k | inr k ↦ inr (y.1 k) ])))
leaves_next m (Begin spans) a past = let y = off_spans_is spans.list m (leaves past) in ((λ h. inr (y.0 h)), (λ h. elim h [ inl k ↦ absurd k | inr k ↦ y.1 k ]))
leaves_next m w a past = ((λ h. inr (h, refl)), (λ h. elim h [ inl k ↦ absurd k | inr k ↦ k.0 ]))

pub leaves_stand : (m : Mapping) (past : List Entry) → Among m (leaves past) ↔ IsStanding m past
leaves_stand m [] = (λ h. absurd h, λ h. absurd h.2)
leaves_stand m (e ∷ past) = go (leaves_stand m past) (leaves_next m e.what e.actor past)
  where
    go : Among m (leaves past) ↔ IsStanding m past → Among m (leaves (e ∷ past)) ↔ (Among m (made_by e.what e.actor past) ⊎ (Among m (leaves past) × (takes_away m e.what ≡ false))) → Among m (leaves (e ∷ past)) ↔ IsStanding m (e ∷ past)
    go ih next = (
      (λ h. elim (next.0 h) [
        | inl k ↦ (e, past, inl (refl, refl), k, none_after_here (away_with m) e past)
        | inr k ↦ let x = ih.0 k.0 in (x.0, x.1, inr x.2, x.3, none_after_skip (length x.1) (away_with m) e past k.1 x.4)
      ]),
      (λ h. next.1 (elim h.2 [
        | inl x ↦ inl (subst (λ (p : List Entry). Among m (made_by e.what e.actor p)) (sym x.1) (subst (λ (d : Entry). Among m (made_by d.what d.actor h.1)) (sym x.0) h.3))
        | inr x ↦ inr (ih.1 (h.0, h.1, x, h.3, none_after_less (length h.1) (away_with m) e past h.4), newest_none (length h.1) (away_with m) e past (stands_lt h.0 h.1 past x) h.4)
      ])),
    )
