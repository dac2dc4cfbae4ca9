-- Each kind of step keeps the rule of the views.
use Rattle.std.proofs.Common.{◌≡◌, ◌≢◌, ℕ, List, [], ◌∷◌, ◌++◌, set, refl, subst, ⊎_elim}
use mathlib.Core.Option.{some}
use lib.ListN.{get_elem?}
use Rattle.crossbeam_utils.specs.Register.{Admits, TurnsAt, Forks, Merges}
use Rattle.atomic_table.proofs.Lists.{at_set, at_snoc}
use Rattle.gm_views.specs.declared.sights.Sight.{Sight}
use Rattle.gm_views.specs.declared.shown.Shown.{Shown}
use Rattle.gm_views.specs.declared.rule.Known.{Known}
use Rattle.gm_views.specs.Rules.{Knows, Keeps, newcomer, informed, Looks}
use Rattle.gm_views.proofs.Prefixes.{prefix_self, prefix_nil}

abbrev pub EachKnows : List Sight → List Known → Type 0
EachKnows published seats = (seat : ℕ) (v : Known) → get_elem? seats seat ≡ some v → Knows published v

-- each seat knows still, after one seat's view was changed to one that knows
pub each_set : (published : List Sight) (seats : List Known) (seat : ℕ) (w : Known) → EachKnows published seats → Knows published w → EachKnows published (set seats seat w)
each_set published seats seat w each knows j u e =
    ⊎_elim (λ (t : (j ≡ seat) × (w ≡ u)). subst (λ (z : Known). Knows published z) t.1 knows)
    (λ (t : (j ≢ seat) × (get_elem? seats j ≡ some u)). each j u t.1)
    (at_set seats seat j w u e)

each_snoc : (published : List Sight) (seats : List Known) (w : Known) → EachKnows published seats → Knows published w → EachKnows published (seats ++ w ∷ [])
each_snoc published seats w each knows j u e =
    ⊎_elim (λ (t : get_elem? seats j ≡ some u). each j u t)
    (λ (t : w ≡ u). subst (λ (z : Known). Knows published z) t knows)
    (at_snoc seats w u j e)

newcomer_knows : (published : List Sight) → Knows published newcomer
newcomer_knows published = (prefix_nil published, prefix_nil published)

-- a reader may be made at any time
pub admits : Admits Keeps newcomer
admits x seats kept = (kept.0, kept.1, each_snoc kept.0 seats newcomer kept.2 (newcomer_knows kept.0))

-- enter
pub looks : (seat : ℕ) (v : Known) (x : Shown) → TurnsAt Keeps seat v x x Looks
looks seat v x seats kept here =
    let all = kept.0 in
    let mine = kept.2 seat v here in
    let w : Known = record { seen = all; told = v.told } in
    (w, (all, kept.1, each_set all seats seat w kept.2 (prefix_self all, mine.1)), record { seen = mine.0; told = mine.1; same = refl; shown = kept.1 })

-- tell
pub forks : (seat : ℕ) (v : Known) → Forks Keeps seat v v v
forks seat v x seats kept here =
    let mine = kept.2 seat v here in
    (kept.0, kept.1, each_snoc kept.0 (set seats seat v) v (each_set kept.0 seats seat v kept.2 mine) mine)

-- learn
pub merges : (seat : ℕ) (v : Known) (other : ℕ) (w : Known) → Merges Keeps seat v other w (informed v w) newcomer
merges seat v other w x seats kept here apart there =
    let mine = kept.2 seat v here in
    let theirs : Knows kept.0 w = ⊎_elim (λ (t : (other ≡ seat) × (informed v w ≡ w)). absurd (apart t.0))
    (λ (t : (other ≢ seat) × (get_elem? seats other ≡ some w)). kept.2 other w t.1)
    (at_set seats seat other (informed v w) w there) in
    let both : Knows kept.0 (informed v w) = (mine.0, theirs.0) in
    (kept.0, kept.1, each_set kept.0 (set seats seat (informed v w)) other newcomer (each_set kept.0 seats seat (informed v w) kept.2 both) (newcomer_knows kept.0))
