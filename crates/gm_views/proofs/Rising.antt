-- Lists of views that grow by one.
use Rattle.std.proofs.Common.{◌≡◌, ℕ, ◌+◌, ◌<◌, ◌≤◌, List, [], ◌∷◌, ◌++◌, length, get_or, ap, sym, ◌∙◌, arith, length-append, lt_of_not-le}
use Rattle.std.proofs.Math.ListN.{get_or-append}
use Rattle.std.proofs.Math.Seq.{get_or-append_seam}
use native.Mathlib.Decide.{dec_le}
use mathlib.Core.List.{IsPrefix}
use Rattle.gm_views.specs.declared.sights.Sight.{Sight}
use Rattle.gm_views.specs.Sights.{opening, sight_at, last_of, Rises}
use Rattle.gm_views.proofs.Prefixes.{prefix_at}

-- the views before the last stay
pub front : (l : List Sight) (s : Sight) (k : ℕ) → k ≤ length l → sight_at (l ++ s ∷ []) k ≡ sight_at l k
front l s k le = get_or-append (opening ∷ l) (s ∷ []) opening k (omega arith)

pub back : (l : List Sight) (s : Sight) → sight_at (l ++ s ∷ []) (length l + 1) ≡ s
back l s = let at : length (opening ∷ l) ≡ length l + 1 = omega arith in
    ap (λ (k : ℕ). get_or (opening ∷ (l ++ s ∷ [])) k opening) (sym at) ∙ get_or-append_seam (opening ∷ l) s [] opening

pub last_snoc : (l : List Sight) (s : Sight) → last_of (l ++ s ∷ []) ≡ s
last_snoc l s = let n : length (l ++ s ∷ []) ≡ length l + 1 = length-append l (s ∷ []) in
    ap (λ (k : ℕ). sight_at (l ++ s ∷ []) k) n ∙ back l s

position_of : Sight → ℕ
position_of s = s.position

module _ (l : List Sight) (s : Sight) (rises : Rises l) (up : (last_of l).position ≤ s.position) where
  late : (j k : ℕ) → j ≤ k → k ≡ length l + 1 → Dec (j ≤ length l) → (sight_at (l ++ s ∷ []) j).position ≤ (sight_at (l ++ s ∷ []) k).position
  late j k jk is (yes d) =
      let a : (sight_at (l ++ s ∷ []) j).position ≡ (sight_at l j).position = ap (λ (t : Sight). t.position) (front l s j d) in
      let b : (sight_at (l ++ s ∷ []) k).position ≡ s.position = ap (λ (i : ℕ). (sight_at (l ++ s ∷ []) i).position) is ∙ ap (λ (t : Sight). t.position) (back l s) in
      let m : (sight_at l j).position ≤ (last_of l).position = rises j (length l) d (omega arith) in
      omega arith
  late j k jk is (no n) =
      let same : j ≡ k = let past : length l < j = lt_of_not-le n in omega arith in
      let e : (sight_at (l ++ s ∷ []) j).position ≡ (sight_at (l ++ s ∷ []) k).position = ap (λ (i : ℕ). (sight_at (l ++ s ∷ []) i).position) same in
      omega arith

  by_place : (j k : ℕ) → j ≤ k → k ≤ length l + 1 → Dec (k ≤ length l) → (sight_at (l ++ s ∷ []) j).position ≤ (sight_at (l ++ s ∷ []) k).position
  by_place j k jk le (yes d) =
      let a : (sight_at (l ++ s ∷ []) j).position ≡ (sight_at l j).position = ap (λ (t : Sight). t.position) (front l s j (omega arith)) in
      let b : (sight_at (l ++ s ∷ []) k).position ≡ (sight_at l k).position = ap (λ (t : Sight). t.position) (front l s k d) in
      let m : (sight_at l j).position ≤ (sight_at l k).position = rises j k jk d in
      omega arith
  by_place j k jk le (no n) = late j k jk (let past : length l < k = lt_of_not-le n in omega arith) (dec_le j (length l))

  pub rises_snoc : Rises (l ++ s ∷ [])
  rises_snoc j k jk le = by_place j k jk (let n : length (l ++ s ∷ []) ≡ length l + 1 = length-append l (s ∷ []) in omega arith) (dec_le k (length l))

-- a view of a beginning is the view of that number of the whole
pub sight_prefix : (xs ys : List Sight) (k : ℕ) → IsPrefix xs ys → k ≤ length xs → sight_at xs k ≡ sight_at ys k
sight_prefix xs ys k p le = prefix_at (opening ∷ xs) (opening ∷ ys) k opening (p.0, ap (λ (l : List Sight). opening ∷ l) p.1) (omega arith)
