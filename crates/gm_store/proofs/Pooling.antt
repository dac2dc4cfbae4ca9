-- How a pool stands for the folios after one is taken, held, left or freed.
use Rattle.std.proofs.Common.{◌≡◌, ℕ, ◌+◌, ◌<◌, ◌≤◌, ◌||◌, List, [], ◌∷◌, Bool, true, false, length, get_or, set, zero, suc, Option, Some, None, arith, refl, ap, sym, subst, ◌∙◌, cond, eqb, inl, inr}
use Rattle.std.proofs.lemmas.Bool.{both_ways, cases_Bool, eqb-true, eq-eqb}
use Rattle.std.proofs.lemmas.Bool.Decides.{nat_tests}
use Rattle.std.proofs.lemmas.List.{length-set}
use Rattle.gm_flat.specs.Effects.{free_one}
use Rattle.gm_flat.specs.FlatState.{FolioState, is_free, is_live}
use Rattle.gm_flat.specs.RightLives.{frame_of}
use Rattle.gm_pool.specs.Pools.{Frames, fresh, use_of, with_use}
use Rattle.gm_pool.specs.declared.uses.Use.{Use}
use Rattle.gm_store.proofs.Basics.{differ, not_some, self, set_else, set_here, some_is}
use Rattle.gm_store.proofs.Folios.{frame_gone, frame_kept, frame_live, free-length, free_left, free_now, free_numbered, live_kept, serial_below, unadded}
use Rattle.gm_store.specs.Stored.{HasUse, PoolStands, UseIs, UseStands}

-- a frame of which a use is given is one of the pool's
pub used_within : (uses : List (Option Use)) (frame : ℕ) (u : Use) → get_or uses frame None ≡ Some u → frame < length uses
used_within [] frame u e = not_some u e
used_within (x ∷ xs) zero u e = omega arith
used_within (x ∷ xs) (suc frame) u e = let h = used_within xs frame u e in omega arith

pub use_there : (serial frame : ℕ) (o : Option Use) → HasUse serial o → (u : Use) × (o ≡ Some u) × (u.serial ≡ serial)
use_there serial frame None h = absurd h
use_there serial frame (Some u) h = (u, refl, h)

-- the use of a live folio
pub use_of_live : {n : ℕ} {pool : Frames} {xs : List FolioState} {marked : ℕ → Bool} {holds : ℕ → ℕ} (serial frame : ℕ) → PoolStands n pool xs marked holds → frame_of serial xs ≡ Some frame → (u : Use) × (use_of pool frame ≡ Some u) × (u.serial ≡ serial) × (u.cached ≡ marked serial) × (u.holds ≡ holds serial)
use_of_live {pool = pool} {xs = xs} {marked = marked} {holds = holds} serial frame p e = go (use_of pool frame) refl (p.has_use serial frame e) (p.uses_are frame)
  where
    go : (o : Option Use) → use_of pool frame ≡ o → HasUse serial o → UseIs o frame xs marked holds → (u : Use) × (use_of pool frame ≡ Some u) × (u.serial ≡ serial) × (u.cached ≡ marked serial) × (u.holds ≡ holds serial)
    go None h has i = absurd has
    go (Some u) h has i = (u, h, has, i.mark_is ∙ ap marked has, i.holds_are ∙ ap holds has)

-- a new folio in a free frame

abbrev pub new_folio : ℕ → ℕ → FolioState
new_folio serial frame = record { folio = record { serial = serial; frame = frame }; live = true }

pub pool_taken : {n : ℕ} {pool : Frames} {xs : List FolioState} {marked : ℕ → Bool} {holds : ℕ → ℕ} (next : Frames) (serial frame : ℕ) → PoolStands n pool xs marked holds → frame < n → use_of pool frame ≡ None → serial ≡ pool.next → next.uses ≡ set pool.uses frame (Some (fresh serial)) → next.next ≡ pool.next + 1 → PoolStands n next (new_folio serial frame ∷ xs) (λ s. eqb serial s || marked s) holds
pool_taken {n = n} {pool = pool} {xs = xs} {marked = marked} {holds = holds} next serial frame p lt none is_next uses more = record {
  count_is = ap length uses ∙ (length-set pool.uses frame (Some (fresh serial)) ∙ p.count_is);
  next_is = plus_one next.next pool.next (length xs) more p.next_is;
  numbered = (number, p.numbered);
  uses_are = λ k. elim (cases_Bool (eqb frame k)) [
    | inl e ↦ subst (λ (o : Option Use). UseIs o k (new_folio serial frame ∷ xs) (λ s. eqb serial s || marked s) holds) (sym (here k e)) (own k (eqb-true frame k e))
    | inr e ↦ subst (λ (o : Option Use). UseIs o k (new_folio serial frame ∷ xs) (λ s. eqb serial s || marked s) holds) (sym (there k e)) (other k e (use_of pool k) (p.uses_are k))
  ];
  has_use = λ s r e. has s r (eqb serial s) refl e;
  held_live = λ s h. lives s (eqb serial s) (p.held_live s h);
}
  where
    number : serial ≡ length xs
    number = is_next ∙ p.next_is

    plus_one : (a b c : ℕ) → a ≡ b + 1 → b ≡ c → a ≡ suc c
    plus_one a b c h e = omega arith

    here : (k : ℕ) → eqb frame k ≡ true → use_of next k ≡ Some (fresh serial)
    here k e = ap (λ (us : List (Option Use)). get_or us k None) uses ∙ set_here pool.uses frame k (Some (fresh serial)) None (subst (λ (m : ℕ). frame < m) (sym p.count_is) lt) (eqb-true frame k e)

    there : (k : ℕ) → eqb frame k ≡ false → use_of next k ≡ use_of pool k
    there k e = ap (λ (us : List (Option Use)). get_or us k None) uses ∙ set_else pool.uses frame k (Some (fresh serial)) None e

    zero_is : (a : ℕ) → (0 < a → ⊥) → 0 ≡ a
    zero_is zero h = refl
    zero_is (suc a) h = absurd (h (omega arith))

    or_true : (t b : Bool) → t ≡ true → true ≡ (t || b)
    or_true true b e = refl
    or_true false b e = absurd (both_ways false refl e)

    or_false : (t b : Bool) → t ≡ false → b ≡ (t || b)
    or_false false b e = refl
    or_false true b e = absurd (both_ways true e refl)

    own : (k : ℕ) → frame ≡ k → UseStands (fresh serial) k (new_folio serial frame ∷ xs) (λ s. eqb serial s || marked s) holds
    own k e = record {
      frame_is = let a : eqb serial serial ≡ true = self serial in rw a (ap Some e);
      mark_is = or_true (eqb serial serial) (marked serial) (self serial);
      holds_are = zero_is (holds serial) (λ h. both_ways (is_live serial xs) (unadded serial xs p.numbered (le serial (length xs) number)) (p.held_live serial h));
    }
      where
        le : (a b : ℕ) → a ≡ b → b ≤ a
        le a b e = omega arith

    above : (s : ℕ) → s < length xs → eqb serial s ≡ false
    above s lt = go serial s (length xs) number lt
      where
        go : (a s k : ℕ) → a ≡ k → s < k → eqb a s ≡ false
        go a s k e h = grind (arith, nat_tests)

    other : (k : ℕ) → eqb frame k ≡ false → (o : Option Use) → UseIs o k xs marked holds → UseIs o k (new_folio serial frame ∷ xs) (λ s. eqb serial s || marked s) holds
    other k ne None h = rw ne h
    other k ne (Some u) h =
        let a : eqb serial u.serial ≡ false = above u.serial (serial_below u.serial k xs p.numbered h.frame_is) in
        record { frame_is = rw a h.frame_is; mark_is = h.mark_is ∙ or_false (eqb serial u.serial) (marked u.serial) a; holds_are = h.holds_are }

    has : (s r : ℕ) (t : Bool) → eqb serial s ≡ t → cond t (Some frame) (frame_of s xs) ≡ Some r → HasUse s (use_of next r)
    has s r true a e = subst (HasUse s) (sym (here r (eq-eqb frame r (some_is frame r e)))) (eqb-true serial s a)
    has s r false a e =
        let old : HasUse s (use_of pool r) = p.has_use s r e in
        elim (cases_Bool (eqb frame r)) [
          | inl f ↦ absurd (subst (HasUse s) none (subst (λ (m : ℕ). HasUse s (use_of pool m)) (sym (eqb-true frame r f)) old))
          | inr f ↦ subst (HasUse s) (sym (there r f)) old
        ]

    lives : (s : ℕ) (t : Bool) → is_live s xs ≡ true → cond t true (is_live s xs) ≡ true
    lives s true h = refl
    lives s false h = h

-- the same by other words on marks and holds
pub pool_same : {n : ℕ} {pool : Frames} {xs : List FolioState} {marked : ℕ → Bool} {holds : ℕ → ℕ} (other : ℕ → Bool) (counts : ℕ → ℕ) → PoolStands n pool xs marked holds → ((s : ℕ) → marked s ≡ other s) → ((s : ℕ) → holds s ≡ counts s) → PoolStands n pool xs other counts
pool_same {pool = pool} {xs = xs} {marked = marked} {holds = holds} other counts p m h = record {
  count_is = p.count_is;
  next_is = p.next_is;
  numbered = p.numbered;
  uses_are = λ k. go k (use_of pool k) (p.uses_are k);
  has_use = p.has_use;
  held_live = λ s lt. p.held_live s (subst (λ (c : ℕ). 0 < c) (sym (h s)) lt);
}
  where
    go : (k : ℕ) (o : Option Use) → UseIs o k xs marked holds → UseIs o k xs other counts
    go k None i = i
    go k (Some u) i = record { frame_is = i.frame_is; mark_is = i.mark_is ∙ m u.serial; holds_are = i.holds_are ∙ h u.serial }

-- a live folio's use becomes another
pub pool_used : {n : ℕ} {pool : Frames} {xs : List FolioState} {marked : ℕ → Bool} {holds : ℕ → ℕ} (next : Frames) (u : Use) (frame : ℕ) (other : ℕ → Bool) (counts : ℕ → ℕ) → PoolStands n pool xs marked holds → frame_of u.serial xs ≡ Some frame → next ≡ with_use pool frame (Some u) → u.cached ≡ other u.serial → u.holds ≡ counts u.serial → ((s : ℕ) → eqb u.serial s ≡ false → marked s ≡ other s) → ((s : ℕ) → eqb u.serial s ≡ false → holds s ≡ counts s) → PoolStands n next xs other counts
pool_used {n = n} {pool = pool} {xs = xs} {marked = marked} {holds = holds} next u frame other counts p at is mark held m h = subst (λ (q : Frames). PoolStands n q xs other counts) (sym is) whole
  where
    before : (v : Use) × (use_of pool frame ≡ Some v) × (v.serial ≡ u.serial) × (v.cached ≡ marked u.serial) × (v.holds ≡ holds u.serial)
    before = use_of_live u.serial frame p at

    within : frame < length pool.uses
    within = used_within pool.uses frame before.0 before.1

    here : (k : ℕ) → eqb frame k ≡ true → use_of (with_use pool frame (Some u)) k ≡ Some u
    here k e = set_here pool.uses frame k (Some u) None within (eqb-true frame k e)

    there : (k : ℕ) → eqb frame k ≡ false → use_of (with_use pool frame (Some u)) k ≡ use_of pool k
    there k e = set_else pool.uses frame k (Some u) None e

    own : (k : ℕ) → eqb frame k ≡ true → UseStands u k xs other counts
    own k e = record { frame_is = at ∙ ap Some (eqb-true frame k e); mark_is = mark; holds_are = held }

    -- the frame of another use is that of another folio
    apart : (k : ℕ) (w : Use) → eqb frame k ≡ false → frame_of w.serial xs ≡ Some k → eqb u.serial w.serial ≡ false
    apart k w ne e = differ u.serial w.serial (λ s. both_ways (eqb frame k) ne (eq-eqb frame k (some_is frame k (sym at ∙ (ap (λ (j : ℕ). frame_of j xs) s ∙ e)))))

    else_used : (k : ℕ) → eqb frame k ≡ false → (o : Option Use) → use_of pool k ≡ o → UseIs o k xs marked holds → UseIs o k xs other counts
    else_used k ne None g i = i
    else_used k ne (Some w) g i = let a = apart k w ne i.frame_is in record { frame_is = i.frame_is; mark_is = i.mark_is ∙ m w.serial a; holds_are = i.holds_are ∙ h w.serial a }

    same : (s r : ℕ) → eqb frame r ≡ true → frame_of s xs ≡ Some r → u.serial ≡ s
    same s r f e = sym before.2 ∙ subst (HasUse s) before.1 (subst (λ (j : ℕ). HasUse s (use_of pool j)) (sym (eqb-true frame r f)) (p.has_use s r e))

    whole : PoolStands n (with_use pool frame (Some u)) xs other counts
    whole = record {
      count_is = length-set pool.uses frame (Some u) ∙ p.count_is;
      next_is = p.next_is;
      numbered = p.numbered;
      uses_are = λ k. elim (cases_Bool (eqb frame k)) [
        | inl e ↦ subst (λ (o : Option Use). UseIs o k xs other counts) (sym (here k e)) (own k e)
        | inr e ↦ subst (λ (o : Option Use). UseIs o k xs other counts) (sym (there k e)) (else_used k e (use_of pool k) refl (p.uses_are k))
      ];
      has_use = λ s r e. elim (cases_Bool (eqb frame r)) [
        | inl f ↦ subst (HasUse s) (sym (here r f)) (same s r f e)
        | inr f ↦ subst (HasUse s) (sym (there r f)) (p.has_use s r e)
      ];
      held_live = λ s lt. elim (cases_Bool (eqb u.serial s)) [
        | inl e ↦ subst (λ (j : ℕ). is_live j xs ≡ true) (eqb-true u.serial s e) (frame_live u.serial frame xs at)
        | inr e ↦ p.held_live s (subst (λ (c : ℕ). 0 < c) (sym (h s e)) lt)
      ];
    }

-- a live folio is freed
pub pool_freed : {n : ℕ} {pool : Frames} {xs : List FolioState} {marked : ℕ → Bool} {holds : ℕ → ℕ} (next : Frames) (serial frame : ℕ) (other : ℕ → Bool) (counts : ℕ → ℕ) → PoolStands n pool xs marked holds → frame_of serial xs ≡ Some frame → next ≡ with_use pool frame None → counts serial ≡ 0 → ((s : ℕ) → eqb serial s ≡ false → marked s ≡ other s) → ((s : ℕ) → eqb serial s ≡ false → holds s ≡ counts s) → PoolStands n next (free_one serial xs) other counts
pool_freed {n = n} {pool = pool} {xs = xs} {marked = marked} {holds = holds} next serial frame other counts p at is none m h = subst (λ (q : Frames). PoolStands n q (free_one serial xs) other counts) (sym is) whole
  where
    positive : (c : ℕ) → c ≡ 0 → 0 < c → ⊥
    positive c e l = omega arith

    before : (v : Use) × (use_of pool frame ≡ Some v) × (v.serial ≡ serial) × (v.cached ≡ marked serial) × (v.holds ≡ holds serial)
    before = use_of_live serial frame p at

    within : frame < length pool.uses
    within = used_within pool.uses frame before.0 before.1

    here : (k : ℕ) → eqb frame k ≡ true → use_of (with_use pool frame None) k ≡ None
    here k e = set_here pool.uses frame k None None within (eqb-true frame k e)

    there : (k : ℕ) → eqb frame k ≡ false → use_of (with_use pool frame None) k ≡ use_of pool k
    there k e = set_else pool.uses frame k None None e

    alone : (s : ℕ) → frame_of s xs ≡ Some frame → s ≡ serial
    alone s e = sym (subst (HasUse s) before.1 (p.has_use s frame e)) ∙ before.2

    apart : (k s : ℕ) → eqb frame k ≡ false → frame_of s xs ≡ Some k → eqb serial s ≡ false
    apart k s ne e = differ serial s (λ j. both_ways (eqb frame k) ne (eq-eqb frame k (some_is frame k (sym at ∙ (ap (λ (i : ℕ). frame_of i xs) j ∙ e)))))

    else_used : (k : ℕ) → eqb frame k ≡ false → (o : Option Use) → UseIs o k xs marked holds → UseIs o k (free_one serial xs) other counts
    else_used k ne None i = free_left serial k xs i
    else_used k ne (Some w) i = let a = apart k w.serial ne i.frame_is in record { frame_is = frame_kept serial w.serial xs a ∙ i.frame_is; mark_is = i.mark_is ∙ m w.serial a; holds_are = i.holds_are ∙ h w.serial a }

    has : (s r : ℕ) → frame_of s (free_one serial xs) ≡ Some r → HasUse s (use_of (with_use pool frame None) r)
    has s r e = elim (cases_Bool (eqb serial s)) [
      | inl t ↦ absurd (frame_gone serial r xs (subst (λ (j : ℕ). frame_of j (free_one serial xs) ≡ Some r) (sym (eqb-true serial s t)) e))
      | inr t ↦
          let old : frame_of s xs ≡ Some r = sym (frame_kept serial s xs t) ∙ e in
          elim (cases_Bool (eqb frame r)) [
            | inl f ↦ absurd (both_ways (eqb serial s) t (eq-eqb serial s (sym (alone s (old ∙ ap Some (sym (eqb-true frame r f)))))))
            | inr f ↦ subst (HasUse s) (sym (there r f)) (p.has_use s r old)
          ]
    ]

    whole : PoolStands n (with_use pool frame None) (free_one serial xs) other counts
    whole = record {
      count_is = length-set pool.uses frame None ∙ p.count_is;
      next_is = p.next_is ∙ sym (free-length serial xs);
      numbered = free_numbered serial xs p.numbered;
      uses_are = λ k. elim (cases_Bool (eqb frame k)) [
        | inl e ↦ subst (λ (o : Option Use). UseIs o k (free_one serial xs) other counts) (sym (here k e)) (subst (λ (j : ℕ). is_free j (free_one serial xs) ≡ true) (eqb-true frame k e) (free_now serial frame xs p.numbered alone))
        | inr e ↦ subst (λ (o : Option Use). UseIs o k (free_one serial xs) other counts) (sym (there k e)) (else_used k e (use_of pool k) (p.uses_are k))
      ];
      has_use = λ s r e. has s r e;
      held_live = λ s lt. elim (cases_Bool (eqb serial s)) [
        | inl e ↦ absurd (positive (counts s) (ap counts (sym (eqb-true serial s e)) ∙ none) lt)
        | inr e ↦ live_kept serial s xs e ∙ p.held_live s (subst (λ (c : ℕ). 0 < c) (sym (h s e)) lt)
      ];
    }
