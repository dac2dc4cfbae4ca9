-- What stays of a cache.
use Rattle.std.proofs.Common.{◌≡◌, ℕ, suc, ◌+◌, ◌-◌, ◌<◌, ◌≤◌, List, [], ◌∷◌, ◌++◌, Bool, true, false, not, cond, eqb, refl, sym, ◌∙◌, ap, arith}
use Rattle.std.specs.List.{filter}
use Rattle.std.proofs.lemmas.List.{append_assoc}
use Rattle.gm_flat.specs.FlatState.{Triple}
use Rattle.gm_flat.specs.Effects.{is_cut, with_run, without, without_file}

kept : (b : Bool) (t : Triple) (xs ys : List Triple) → xs ≡ ys → cond (not b) (t ∷ xs) xs ≡ cond b ys (t ∷ ys)
kept true t xs ys e = e
kept false t xs ys e = ap (λ (l : List Triple). t ∷ l) e

pub filter_cut : (file lo hi : ℕ) (ts : List Triple) → filter (λ t. not (is_cut file lo hi t)) ts ≡ without file lo hi ts
filter_cut file lo hi [] = refl
filter_cut file lo hi (t ∷ ts) = kept (is_cut file lo hi t) t _ _ (filter_cut file lo hi ts)

pub filter_file : (file : ℕ) (ts : List Triple) → filter (λ t. not (eqb t.file file)) ts ≡ without_file file ts
filter_file file [] = refl
filter_file file (t ∷ ts) = kept (eqb t.file file) t _ _ (filter_file file ts)

-- one more page of a run, from its last on
pub run_more : (n file index serial frame count : ℕ) (made ts : List Triple) → count < n → with_run n file index serial frame ts ≡ made ++ with_run (n - count) file index serial frame ts → with_run n file index serial frame ts ≡ (made ++ record { file = file; index = index + (n - 1 - count); folio = record { serial = serial + (n - 1 - count); frame = frame + (n - 1 - count) } } ∷ []) ++ with_run (n - (count + 1)) file index serial frame ts
run_more n file index serial frame count made ts h e =
    e ∙ (ap (λ (k : ℕ). made ++ with_run k file index serial frame ts) step
    ∙ (sym (append_assoc made (page (n - 1 - count) ∷ []) (with_run (n - 1 - count) file index serial frame ts))
    ∙ ap (λ (k : ℕ). (made ++ page (n - 1 - count) ∷ []) ++ with_run k file index serial frame ts) rest))
  where
    page : ℕ → Triple
    page k = record { file = file; index = index + k; folio = record { serial = serial + k; frame = frame + k } }

    step : n - count ≡ suc (n - 1 - count)
    step = omega arith

    rest : n - 1 - count ≡ n - (count + 1)
    rest = omega arith

pub run_ended : (n file index serial frame count : ℕ) (made ts : List Triple) → n ≤ count → with_run n file index serial frame ts ≡ made ++ with_run (n - count) file index serial frame ts → made ++ ts ≡ with_run n file index serial frame ts
run_ended n file index serial frame count made ts h e =
    sym (e ∙ ap (λ (k : ℕ). made ++ with_run k file index serial frame ts) none)
  where
    none : n - count ≡ 0
    none = omega arith

-- one more page, with its numbers as they were computed
pub run_pushed : (n file index serial frame count a b d : ℕ) (made new ts : List Triple) → count < n → a ≡ n - 1 - count → b ≡ n - 1 - count → d ≡ n - 1 - count → new ≡ made ++ record { file = file; index = index + a; folio = record { serial = serial + b; frame = frame + d } } ∷ [] → with_run n file index serial frame ts ≡ made ++ with_run (n - count) file index serial frame ts → with_run n file index serial frame ts ≡ new ++ with_run (n - (count + 1)) file index serial frame ts
run_pushed n file index serial frame count a b d made new ts h ea eb ed is e =
    run_more n file index serial frame count made ts h e
    ∙ ap (λ (l : List Triple). l ++ with_run (n - (count + 1)) file index serial frame ts) (sym (is ∙ (ap (λ (k : ℕ). made ++ page k b d ∷ []) ea ∙ (ap (λ (k : ℕ). made ++ page (n - 1 - count) k d ∷ []) eb ∙ ap (λ (k : ℕ). made ++ page (n - 1 - count) (n - 1 - count) k ∷ []) ed))))
  where
    page : ℕ → ℕ → ℕ → Triple
    page a b d = record { file = file; index = index + a; folio = record { serial = serial + b; frame = frame + d } }
