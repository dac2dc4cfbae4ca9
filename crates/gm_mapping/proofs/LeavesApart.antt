-- The leaves of a table are those of the history, page by page.
use Rattle.std.proofs.Common.{◌≡◌, ℕ, ◌&&◌, List, [], ◌∷◌, ◌++◌, Bool, true, false, length, Option, Some, None, arith, subst, sym, ◌∙◌, ap, refl, cond, leb, ltb}
use Rattle.std.proofs.lemmas.Bool.{both_ways, and_parts}
use Rattle.std.proofs.lemmas.Bool.Decides.{nat_tests}
use Rattle.gm_base.specs.Aim.{Aim}
use Rattle.gm_base.specs.Extent.{Extent, holds, meets}
use Rattle.gm_base.specs.Leaf.{covers as leaf_covers, meets_leaf, serves as leaf_serves}
use Rattle.gm_base.specs.declared.leaf.Leaf.{Leaf}
use Rattle.gm_base.specs.declared.values.Actor.{Actor}
use Rattle.gm_base.specs.declared.values.Actor.TheVariants.{Vcpu, Caller}
use Rattle.gm_base.specs.declared.values.Level.{Level}
use Rattle.gm_flat.specs.FlatState.{Flat}
use Rattle.gm_flat.specs.Histories.{Fault, NoFault, Faulting, fault}
use Rattle.gm_flat.specs.Mappings.{Mapping, any_meets, covered, covers, first_serving, leaf_by, leaves, leaves_step, off_extent, off_spans, serves}
use Rattle.gm_flat.specs.Replay.{flat}
use Rattle.gm_flat.specs.declared.entry.Entry.{Entry}
use Rattle.gm_flat.specs.declared.entry.What.{What}
use Rattle.gm_flat.specs.declared.entry.What.TheVariants.{Begin, Install}
use Rattle.gm_laws.proofs.Kit.{some_same}
use Rattle.gm_mmu.specs.Served.{walked}
use Rattle.gm_table.specs.Leaves.{extent_of, leaf_over, unless_met}
use Rattle.gm_tlb.specs.declared.tlb.Fill.{Fill}
use Rattle.gm_mapping.proofs.Alike.{serves_same}
use Rattle.gm_mapping.specs.Alike.{IsAlike, LeafIs, over}

-- no two leaves cover one page
abbrev pub Apart : List Mapping → Type 0
Apart [] = Unit {0}
Apart (m ∷ ms) = ((page : ℕ) → covers m page ≡ true → over page ms ≡ None) × Apart ms

skip_none : (page : ℕ) (x : Mapping) (ys : List Mapping) (t : Bool) → over page (x ∷ ys) ≡ None → over page ys ≡ None → over page (cond t ys (x ∷ ys)) ≡ None
skip_none page x ys true h k = k
skip_none page x ys false h k = h

tail_none : (t : Bool) (x : Mapping) (o : Option Mapping) → cond t (Some x) o ≡ None → (t ≡ false) × (o ≡ None)
tail_none true x o h = absurd (cc)
tail_none false x o h = (refl, h)

off_none : (e : Extent) (page : ℕ) (ms : List Mapping) → over page ms ≡ None → over page (off_extent e ms) ≡ None
off_none e page [] h = refl
off_none e page (x ∷ ms) h =
    let p = tail_none (covers x page) x (over page ms) h in
    let k : over page (off_extent e ms) ≡ None = off_none e page ms p.1 in
    skip_none page x (off_extent e ms) (meets e (covered x.level x.page)) (rw p.0 k) k

spans_none : (ss : List Extent) (page : ℕ) (ms : List Mapping) → over page ms ≡ None → over page (off_spans ss ms) ≡ None
spans_none ss page [] h = refl
spans_none ss page (x ∷ ms) h =
    let p = tail_none (covers x page) x (over page ms) h in
    let k : over page (off_spans ss ms) ≡ None = spans_none ss page ms p.1 in
    skip_none page x (off_spans ss ms) (any_meets ss (covered x.level x.page)) (rw p.0 k) k

keep_apart : (x : Mapping) (ys : List Mapping) (t : Bool) → ((page : ℕ) → covers x page ≡ true → over page ys ≡ None) → Apart ys → Apart (cond t ys (x ∷ ys))
keep_apart x ys true h a = a
keep_apart x ys false h a = (h, a)

off_apart : (e : Extent) (ms : List Mapping) → Apart ms → Apart (off_extent e ms)
off_apart e [] a = tt
off_apart e (x ∷ ms) a = keep_apart x (off_extent e ms) (meets e (covered x.level x.page)) (λ page c. off_none e page ms (a.0 page c)) (off_apart e ms a.1)

spans_apart : (ss : List Extent) (ms : List Mapping) → Apart ms → Apart (off_spans ss ms)
spans_apart ss [] a = tt
spans_apart ss (x ∷ ms) a = keep_apart x (off_spans ss ms) (any_meets ss (covered x.level x.page)) (λ page c. spans_none ss page ms (a.0 page c)) (spans_apart ss ms a.1)

-- a page in both is where they meet
both_meet : (a b c d h : ℕ) → (leb a h && ltb h b) ≡ true → (leb c h && ltb h d) ≡ true → (ltb a d && ltb c b) ≡ true
both_meet a b c d h e f = grind (arith, nat_tests)

clear_step : (e : Extent) (page : ℕ) (x : Mapping) (ys : List Mapping) (t u : Bool) → meets e (covered x.level x.page) ≡ t → covers x page ≡ u → holds e page ≡ true → over page ys ≡ None → over page (cond t ys (x ∷ ys)) ≡ None
clear_step e page x ys true u m c h k = k
clear_step e page x ys false true m c h k = absurd (both_ways _ m (both_meet e.lo e.hi (covered x.level x.page).lo (covered x.level x.page).hi page h c))
clear_step e page x ys false false m c h k = rw c k

-- no leaf is left on the pages of the extent
off_clear : (e : Extent) (page : ℕ) (ms : List Mapping) → holds e page ≡ true → over page (off_extent e ms) ≡ None
off_clear e page [] h = refl
off_clear e page (x ∷ ms) h = clear_step e page x (off_extent e ms) (meets e (covered x.level x.page)) (covers x page) refl refl h (off_clear e page ms h)

new_apart : (n page : ℕ) (level : Level) (f : Flat) (x : Fault) (ms : List Mapping) → Apart ms → Apart (leaf_by n page level f x ++ off_extent (covered level page) ms)
new_apart n page level f (Faulting x m s l (Some g)) ms a = ((λ h c. off_clear (covered level page) h ms c), off_apart (covered level page) ms a)
new_apart n page level f (Faulting x m s l None) ms a = off_apart (covered level page) ms a
new_apart n page level f NoFault ms a = off_apart (covered level page) ms a

apart_step : (w : What) (a : Actor) (past : List Entry) (ms : List Mapping) → Apart ms → Apart (leaves_step w a past ms)
apart_step (Install page level) (Vcpu v) past ms a = new_apart (length past) page level (flat past) (fault v past) ms a
apart_step (Install page level) (Caller c) past ms a = off_apart (covered level page) ms a
apart_step (Begin spans) b past ms a = spans_apart spans.list ms a
apart_step _ b past ms a = a

pub apart : (past : List Entry) → Apart (leaves past)
apart [] = tt
apart (e ∷ past) = apart_step e.what e.actor past (leaves past) (apart past)

-- the leaf over the access's page is the one that may serve it
abbrev pub serving : Aim → Option Mapping → Option Mapping
serving a None = None
serving a (Some m) = cond (serves a m) (Some m) None

first_none : (a : Aim) (ms : List Mapping) → over a.page ms ≡ None → first_serving a ms ≡ None
first_none a [] h = refl
first_none a (m ∷ ms) h =
    let p = tail_none (covers m a.page) m (over a.page ms) h in
    rw p.0 (first_none a ms p.1)

first_step : (a : Aim) (m : Mapping) (ms : List Mapping) (t u : Bool) → covers m a.page ≡ t → serves a m ≡ u → Apart (m ∷ ms) → first_serving a ms ≡ serving a (over a.page ms) → cond u (Some m) (first_serving a ms) ≡ serving a (cond t (Some m) (over a.page ms))
first_step a m ms true true c s p ih = rw s refl
first_step a m ms true false c s p ih = let k : over a.page ms ≡ None = p.0 a.page c in rw s (first_none a ms k)
first_step a m ms false true c s p ih = absurd (both_ways _ c (and_parts _ _ s).0)
first_step a m ms false false c s p ih = ih

pub first_over : (a : Aim) (ms : List Mapping) → Apart ms → first_serving a ms ≡ serving a (over a.page ms)
first_over a [] p = refl
first_over a (m ∷ ms) p = first_step a m ms (covers m a.page) (serves a m) refl refl p (first_over a ms p.1)

-- what a walk that serves says
pub record Walk (user : ℕ) (a : Aim) (at : ℕ) (f : Fill) (past : List Entry) : Type 0 where
  pub mapping : Mapping
  pub first : first_serving a (leaves past) ≡ Some mapping
  pub over_is : over a.page (leaves past) ≡ Some mapping
  pub at_is : f.at ≡ at
  pub alike : IsAlike user f.leaf mapping
  pub is_serving : leaf_serves f.leaf a ≡ true

walk_step : (user : ℕ) (a : Aim) (at : ℕ) (f : Fill) (past : List Entry) (leaf : Leaf) (m : Mapping) (t : Bool) → leaf_serves leaf a ≡ t → IsAlike user leaf m → over a.page (leaves past) ≡ Some m → cond {A = Option Fill} t (Some (record { leaf = leaf; at = at })) None ≡ Some f → Walk user a at f past
walk_step user a at f past leaf m true e i o h =
    let s : record { leaf = leaf; at = at } ≡ f = some_same (record { leaf = leaf; at = at }) f h in
    subst (λ (y : Fill). Walk user a at y past) s (record {
      mapping = m;
      first = let q : serves a m ≡ true = sym (serves_same user leaf m a i) ∙ e in first_over a (leaves past) (apart past) ∙ (ap (serving a) o ∙ rw q refl);
      over_is = o;
      at_is = refl;
      alike = i;
      is_serving = e;
    })
walk_step user a at f past leaf m false e i o h = absurd (cc)

walk_by : (user : ℕ) (a : Aim) (at : ℕ) (f : Fill) (past : List Entry) (x : Option Leaf) (y : Option Mapping) → over a.page (leaves past) ≡ y → LeafIs user x y → walked x a at ≡ Some f → Walk user a at f past
walk_by user a at f past None y o i h = absurd (cc)
walk_by user a at f past (Some leaf) None o i h = absurd i
walk_by user a at f past (Some leaf) (Some m) o i h = walk_step user a at f past leaf m (leaf_serves leaf a) refl i o h

pub walk : (user : ℕ) (a : Aim) (at : ℕ) (f : Fill) (ls : List Leaf) (past : List Entry) → ((page : ℕ) → LeafIs user (leaf_over ls page) (over page (leaves past))) → walked (leaf_over ls a.page) a at ≡ Some f → Walk user a at f past
walk user a at f ls past t h = walk_by user a at f past (leaf_over ls a.page) (over a.page (leaves past)) refl (t a.page) h

unwalk_step : (user : ℕ) (a : Aim) (at : ℕ) (leaf : Leaf) (m : Mapping) (t : Bool) → leaf_serves leaf a ≡ t → IsAlike user leaf m → cond {A = Option Fill} t (Some (record { leaf = leaf; at = at })) None ≡ None → serving a (Some m) ≡ None
unwalk_step user a at leaf m true e i h = absurd (cc)
unwalk_step user a at leaf m false e i h = let q : serves a m ≡ false = sym (serves_same user leaf m a i) ∙ e in rw q refl

unwalk_by : (user : ℕ) (a : Aim) (at : ℕ) (x : Option Leaf) (y : Option Mapping) → LeafIs user x y → walked x a at ≡ None → serving a y ≡ None
unwalk_by user a at None None i h = refl
unwalk_by user a at None (Some m) i h = absurd i
unwalk_by user a at (Some leaf) None i h = absurd i
unwalk_by user a at (Some leaf) (Some m) i h = unwalk_step user a at leaf m (leaf_serves leaf a) refl i h

-- where no leaf serves, none of the history's does
pub unwalk : (user : ℕ) (a : Aim) (at : ℕ) (ls : List Leaf) (past : List Entry) → ((page : ℕ) → LeafIs user (leaf_over ls page) (over page (leaves past))) → walked (leaf_over ls a.page) a at ≡ None → first_serving a (leaves past) ≡ None
unwalk user a at ls past t h = first_over a (leaves past) (apart past) ∙ unwalk_by user a at (leaf_over ls a.page) (over a.page (leaves past)) (t a.page) h

-- an install

abbrev unless : Extent → Option Mapping → Option Mapping
unless e None = None
unless e (Some m) = cond (meets e (covered m.level m.page)) None (Some m)

over_step : (e : Extent) (page : ℕ) (x : Mapping) (ys ms : List Mapping) (t u : Bool) → covers x page ≡ t → meets e (covered x.level x.page) ≡ u → (t ≡ true → over page ys ≡ None) → over page ys ≡ unless e (over page ms) → over page (cond u ys (x ∷ ys)) ≡ unless e (cond t (Some x) (over page ms))
over_step e page x ys ms true true c m n ih = rw m (n refl)
over_step e page x ys ms true false c m n ih = rw (c, m) refl
over_step e page x ys ms false true c m n ih = ih
over_step e page x ys ms false false c m n ih = rw c ih

over_off : (e : Extent) (page : ℕ) (ms : List Mapping) → Apart ms → over page (off_extent e ms) ≡ unless e (over page ms)
over_off e page [] p = refl
over_off e page (x ∷ ms) p = over_step e page x (off_extent e ms) ms (covers x page) (meets e (covered x.level x.page)) refl refl (λ c. off_none e page ms (p.0 page c)) (over_off e page ms p.1)

met_same : (user : ℕ) (e : Extent) (leaf : Leaf) (m : Mapping) (t u : Bool) → t ≡ u → IsAlike user leaf m → LeafIs user (cond t None (Some leaf)) (cond u None (Some m))
met_same user e leaf m true true s i = tt
met_same user e leaf m false false s i = i
met_same user e leaf m true false s i = absurd (both_ways true s refl)
met_same user e leaf m false true s i = absurd (both_ways false refl s)

unless_same : (user : ℕ) (e : Extent) (x : Option Leaf) (y : Option Mapping) → LeafIs user x y → LeafIs user (unless_met e x) (unless e y)
unless_same user e None None i = tt
unless_same user e None (Some m) i = absurd i
unless_same user e (Some leaf) None i = absurd i
unless_same user e (Some leaf) (Some m) i = met_same user e leaf m (meets_leaf leaf e) (meets e (covered m.level m.page)) (i.meets_is e) i

placed : (user : ℕ) (leaf : Leaf) (m : Mapping) (t u : Bool) (x : Option Leaf) (y : Option Mapping) → t ≡ u → IsAlike user leaf m → LeafIs user x y → LeafIs user (cond t (Some leaf) x) (cond u (Some m) y)
placed user leaf m true true x y e i j = i
placed user leaf m false false x y e i j = j
placed user leaf m true false x y e i j = absurd (both_ways true e refl)
placed user leaf m false true x y e i j = absurd (both_ways false refl e)

-- the leaves after one is installed that is alike to a new one of the history
pub install_leaves : (user : ℕ) (leaf : Leaf) (m : Mapping) (old new : List Leaf) (past : List Entry) → ((page : ℕ) → LeafIs user (leaf_over old page) (over page (leaves past))) → IsAlike user leaf m → extent_of leaf ≡ covered m.level m.page → ((page : ℕ) → leaf_over new page ≡ cond (leaf_covers leaf page) (Some leaf) (unless_met (extent_of leaf) (leaf_over old page))) → (page : ℕ) → LeafIs user (leaf_over new page) (over page (m ∷ off_extent (covered m.level m.page) (leaves past)))
install_leaves user leaf m old new past t i e n page =
    let e2 : over page (off_extent (covered m.level m.page) (leaves past)) ≡ unless (covered m.level m.page) (over page (leaves past)) = over_off (covered m.level m.page) page (leaves past) (apart past) in
    let k : LeafIs user (unless_met (extent_of leaf) (leaf_over old page)) (unless (covered m.level m.page) (over page (leaves past))) = subst (λ (x : Extent). LeafIs user (unless_met (extent_of leaf) (leaf_over old page)) (unless x (over page (leaves past)))) e (unless_same user (extent_of leaf) (leaf_over old page) (over page (leaves past)) (t page)) in
    subst (λ (x : Option Leaf). LeafIs user x (over page (m ∷ off_extent (covered m.level m.page) (leaves past)))) (sym (n page))
    (subst (λ (y : Option Mapping). LeafIs user (cond (leaf_covers leaf page) (Some leaf) (unless_met (extent_of leaf) (leaf_over old page))) (cond (covers m page) (Some m) y)) (sym e2)
    (placed user leaf m (leaf_covers leaf page) (covers m page) _ _ (i.covers_is page) i k))
