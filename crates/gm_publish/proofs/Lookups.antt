-- The view that kept changes tell of a position.
use Rattle.std.proofs.Common.{◌≡◌, ℕ, ◌+◌, ◌-◌, ◌<◌, ◌≤◌, List, [], ◌∷◌, ◌++◌, fold, get_or, length, slice_index_or, None, take, arith, refl, ap, sym, ◌∙◌, subst}
use Rattle.std.proofs.lemmas.List.{take_more}
use Rattle.gm_views.proofs.Rising.{last_snoc}
use Rattle.gm_views.specs.Shows.{changed, shown_after}
use Rattle.gm_views.specs.Sights.{last_of, opening}
use Rattle.gm_views.specs.declared.shown.Change.{Change}
use Rattle.gm_views.specs.declared.sights.Sight.{Sight}
use Rattle.gm_flat.specs.declared.entry.Entry.{Entry}
use Rattle.gm_publish.specs.Kept.{IsKept, views_by}
use Rattle.gm_publish.specs.Lookups.{sight_by, view_by}
use Rattle.gm_publish.proofs.Looking.{Agrees, by_last, by_others}
use Rattle.gm_publish.proofs.Showing.{IsLatest, latest, tells}

pub fold_snoc : {A B : Type 0} (f : B → A → B) (b : B) (xs : List A) (x : A) → fold f b (xs ++ x ∷ []) ≡ f (fold f b xs) x
fold_snoc f b [] x = refl
fold_snoc f b (y ∷ ys) x = fold_snoc f (f b y) ys x

-- one change more makes one view more
views_snoc : (s : Sight) (changes : List Change) (c : Change) → views_by s (changes ++ c ∷ []) ≡ views_by s changes ++ changed (fold changed s changes) c ∷ []
views_snoc s [] c = refl
views_snoc s (d ∷ changes) c = ap (λ (l : List Sight). changed s d ∷ l) (views_snoc (changed s d) changes c)

pub views_more : (changes : List Change) (c : Change) → views_by opening (changes ++ c ∷ []) ≡ views_by opening changes ++ changed (shown_after changes) c ∷ []
views_more changes c = views_snoc opening changes c

-- the last view is the one after all changes
last_view : (s : Sight) (changes : List Change) (c : Change) → last_of (views_by s (changes ++ c ∷ [])) ≡ changed (fold changed s changes) c
last_view s changes c = ap last_of (views_snoc s changes c) ∙ last_snoc (views_by s changes) (changed (fold changed s changes) c)

-- a change that comes later shows nothing at a position, and one that has come shows all
pub later_change : (at : ℕ) (changes : List Change) (c : Change) → at < c.position → view_by at (changes ++ c ∷ []) ≡ view_by at changes
later_change at changes c h = ap (sight_by at) (views_more changes c) ∙ by_others at (views_by opening changes) (changed (shown_after changes) c) h

pub come_change : (at : ℕ) (changes : List Change) (c : Change) → c.position ≤ at → view_by at (changes ++ c ∷ []) ≡ shown_after (changes ++ c ∷ [])
come_change at changes c h = ap (sight_by at) (views_more changes c) ∙ (by_last at (views_by opening changes) (changed (shown_after changes) c) h ∙ sym (fold_snoc changed opening changes c))

-- the last of the first so many changes
take_last : (changes : List Change) (count : ℕ) (d : Change) → 0 < count → count ≤ length changes → take count changes ≡ take (count - 1) changes ++ get_or changes (count - 1) d ∷ []
take_last changes count d h k =
    let e : count ≡ count - 1 + 1 = omega arith in
    ap (λ (n : ℕ). take n changes) e ∙ take_more changes (count - 1) d (omega arith)

pub later_take : (at : ℕ) (changes : List Change) (count : ℕ) (d : Change) → 0 < count → count ≤ length changes → at < (get_or changes (count - 1) d).position → view_by at (take count changes) ≡ view_by at (take (count - 1) changes)
later_take at changes count d h k l = ap (view_by at) (take_last changes count d h k) ∙ later_change at (take (count - 1) changes) (get_or changes (count - 1) d) l

pub come_take : (at : ℕ) (changes : List Change) (count : ℕ) (d : Change) → 0 < count → count ≤ length changes → (get_or changes (count - 1) d).position ≤ at → view_by at (take count changes) ≡ shown_after (take count changes)
come_take at changes count d h k l =
    let e = take_last changes count d h k in
    ap (view_by at) e ∙ (come_change at (take (count - 1) changes) (get_or changes (count - 1) d) l ∙ sym (ap shown_after e))

-- the last of the views is that after all changes
end_view : (s : Sight) (changes : List Change) → slice_index_or (s ∷ views_by s changes) (length (views_by s changes)) opening ≡ fold changed s changes
end_view s [] = refl
end_view s (c ∷ changes) = end_view (changed s c) changes

pub last_shown : (changes : List Change) → last_of (views_by opening changes) ≡ shown_after changes
last_shown changes = end_view opening changes

-- the views of a history, by the kept changes

pub agrees : (at : ℕ) (past : List Entry) (changes : List Change) → IsKept past changes → Agrees at past (view_by at changes)
agrees at past changes k = subst (λ (views : List Sight). Agrees at past (sight_by at views)) k.views (tells at past k.calm None tt)

pub latest_shown : (past : List Entry) (changes : List Change) → IsKept past changes → IsLatest past (shown_after changes)
latest_shown past changes k = subst (IsLatest past) (ap last_of k.views ∙ last_shown changes) (latest past None tt)
