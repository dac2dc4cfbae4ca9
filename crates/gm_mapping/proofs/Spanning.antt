-- A bracket begins, and what is mapped stands for it.
use Rattle.std.proofs.Common.{◌≡◌, ℕ, ◌+◌, ◌-◌, ◌<◌, ◌&&◌, List, [], ◌∷◌, Bool, true, false, length, get_or, suc, Option, Some, None, arith, subst, sym, refl, ◌∙◌, ap, cond, eqb, leb, ltb}
use Rattle.std.proofs.lemmas.Bool.Decides.{nat_tests}
use Rattle.gm_base.specs.Extent.{Extent, cover, meets}
use Rattle.gm_base.specs.Leaf.{meets_leaf}
use Rattle.gm_base.specs.declared.leaf.Leaf.{Leaf}
use Rattle.gm_base.specs.declared.values.Setup.{Setup}
use Rattle.gm_flat.specs.Invalidation.{count, hull, widened}
use Rattle.gm_flat.specs.Mappings.{Mapping, any_meets, covered, covers, fills, leaves, off_spans}
use Rattle.gm_flat.specs.Roomy.{Roomy}
use Rattle.gm_flat.specs.declared.entry.Entry.{Entry}
use Rattle.gm_flat.specs.declared.entry.What.TheVariants.{Begin, End}
use Rattle.gm_inval.specs.Range.{Progress, begun, open_range, widen_all}
use Rattle.gm_mapping.proofs.LeavesApart.{Apart, apart}
use Rattle.gm_mapping.specs.Alike.{FillsAre, IsAlike, LeafIs, over}
use Rattle.gm_mmu.specs.Served.{Serving, meets_one, unless_one_met}
use Rattle.gm_table.specs.Leaves.{leaf_over}
use Rattle.gm_tlb.specs.Requests.{Requests}
use Rattle.gm_tlb.specs.declared.tlb.Fill.{Fill}
use Rattle.gm_base.specs.declared.values.Actor.TheVariants.{Caller}
use Rattle.gm_laws.proofs.Kit.{by}
use Rattle.gm_laws.specs.Counting.{asked, ends}
use Rattle.gm_mapping.proofs.Quiet.{seat_stays}
use Rattle.gm_mapping.specs.Mapping.{MappingStands, SeatIs}
use Rattle.gm_mapping.specs.Opened.{Opened}

-- leaves
abbrev unless_meets : List Extent → Option Mapping → Option Mapping
unless_meets ss None = None
unless_meets ss (Some m) = cond (any_meets ss (covered m.level m.page)) None (Some m)

over_step : (ss : List Extent) (page : ℕ) (m : Mapping) (ms : List Mapping) (t u : Bool) → any_meets ss (covered m.level m.page) ≡ t → covers m page ≡ u → (covers m page ≡ true → over page ms ≡ None) → over page (off_spans ss ms) ≡ unless_meets ss (over page ms) → over page (cond t (off_spans ss ms) (m ∷ off_spans ss ms)) ≡ unless_meets ss (cond u (Some m) (over page ms))
over_step ss page m ms true true e c a ih = let n = a c in ih ∙ ap (unless_meets ss) n ∙ sym (ap (λ (b : Bool). cond b None (Some m)) e)
over_step ss page m ms true false e c a ih = ih
over_step ss page m ms false true e c a ih = rw (c, e) refl
over_step ss page m ms false false e c a ih = rw c ih

over_off : (ss : List Extent) (page : ℕ) (ms : List Mapping) → Apart ms → over page (off_spans ss ms) ≡ unless_meets ss (over page ms)
over_off ss page [] a = refl
over_off ss page (m ∷ ms) a = over_step ss page m ms (any_meets ss (covered m.level m.page)) (covers m page) refl refl (a.0 page) (over_off ss page ms a.1)

meets_flip : (a b c d : ℕ) → (ltb a d && ltb c b) ≡ (ltb c b && ltb a d)
meets_flip a b c d = grind (arith, nat_tests)

one_met : (user : ℕ) (leaf : Leaf) (m : Mapping) (ss : List Extent) → IsAlike user leaf m → meets_one ss leaf ≡ any_meets ss (covered m.level m.page)
one_met user leaf m [] h = refl
one_met user leaf m (s ∷ ss) h =
    let x : meets_leaf leaf s ≡ meets (covered m.level m.page) s = h.meets_is s ∙ meets_flip s.lo s.hi (covered m.level m.page).lo (covered m.level m.page).hi in
    let y : meets_one ss leaf ≡ any_meets ss (covered m.level m.page) = one_met user leaf m ss h in
    rw (x, y) refl

leaf_unless : (user : ℕ) (leaf : Leaf) (m : Mapping) (t : Bool) → IsAlike user leaf m → LeafIs user (cond t None (Some leaf)) (cond t None (Some m))
leaf_unless user leaf m true h = tt
leaf_unless user leaf m false h = h

leaf_off : (user : ℕ) (ss : List Extent) (x : Option Leaf) (y : Option Mapping) → LeafIs user x y → LeafIs user (unless_one_met ss x) (unless_meets ss y)
leaf_off user ss None None h = tt
leaf_off user ss (Some leaf) (Some m) h = rw (one_met user leaf m ss h) (leaf_unless user leaf m (any_meets ss (covered m.level m.page)) h)
leaf_off user ss None (Some m) h = absurd h
leaf_off user ss (Some leaf) None h = absurd h

-- the range
widen_same : (ss : List Extent) (r : Option Extent) → widen_all r ss ≡ widened r ss
widen_same [] r = refl
widen_same (s ∷ ss) None = widen_same ss (Some s)
widen_same (s ∷ ss) (Some t) = widen_same ss (Some (cover t s))

none_kept : (n : ℕ) (kept : Option Extent) → cond (eqb n 0) None (cond (eqb n 0) None kept) ≡ cond (eqb n 0) None kept
none_kept n kept = by_test (eqb n 0) kept
  where
    by_test : (t : Bool) (kept : Option Extent) → cond t None (cond t None kept) ≡ cond t None kept
    by_test true kept = refl
    by_test false kept = refl

-- the range that a bracket would keep if it began
pub range_would : (p : Progress) (n : ℕ) (h : Option Extent) (ss : List Extent) → p.count ≡ n → open_range p ≡ h → widen_all (open_range p) ss ≡ widened (cond (eqb n 0) None h) ss
range_would p n h ss e r =
    let q : cond (eqb n 0) None h ≡ open_range p = rw (← r, ← e) (none_kept p.count p.kept) in
    rw q (widen_same ss (open_range p))

range_opens : (p : Progress) (n : ℕ) (h : Option Extent) (ss : List Extent) → p.count ≡ n → open_range p ≡ h → open_range (begun p ss) ≡ widened (cond (eqb n 0) None h) ss
range_opens p n h ss e r =
    let k : eqb (p.count + 1) 0 ≡ false = more p.count in
    let q : cond (eqb n 0) None h ≡ open_range p = rw (← r, ← e) (none_kept p.count p.kept) in
    rw (k, q) (widen_same ss (open_range p))
  where
    more : (n : ℕ) → eqb (n + 1) 0 ≡ false
    more n = grind (arith, nat_tests)

pub plus_one : (a b : ℕ) → a ≡ b → a + 1 ≡ suc b
plus_one a b h = omega arith

-- a bracket begins
pub opened : {s : Setup} {m : Serving} {past : List Entry} (t c : ℕ) (ss : Roomy) (n : Serving) → Opened m n ss.list → MappingStands s m past → MappingStands s n (by t (Caller c) (Begin ss) ∷ past)
opened {s = s} {m = m} {past = past} t c ss n o st = record {
  seat_count = ap (λ (r : Requests). length r.seats) o.requests ∙ st.seat_count;
  buffer_count = ap (λ (b : List (List Fill)). length b) o.fills ∙ st.buffer_count;
  asked_is = ap (λ (r : Requests). r.asked) o.requests ∙ plus_one m.requests.asked (asked past) st.asked_is;
  seats_are = λ v d lt. subst (λ (r : Requests). SeatIs (get_or r.seats v d) v (by t (Caller c) (Begin ss) ∷ past)) (sym o.requests) (seat_stays (get_or m.requests.seats v d) v (by t (Caller c) (Begin ss)) past refl refl (st.seats_are v d lt));
  none_beyond = st.none_beyond;
  buffers_are = λ v d lt. subst (λ (b : List (List Fill)). FillsAre s.user (get_or b v d) (fills v past)) (sym o.fills) (st.buffers_are v d lt);
  leaves_are = λ page.
      subst (λ (x : Option Leaf). LeafIs s.user x (over page (off_spans ss.list (leaves past)))) (sym (o.over page))
      (subst (λ (y : Option Mapping). LeafIs s.user (unless_one_met ss.list (leaf_over m.leaves page)) y) (sym (over_off ss.list page (leaves past) (apart past)))
      (leaf_off s.user ss.list (leaf_over m.leaves page) (over page (leaves past)) (st.leaves_are page)));
  count_is = ap (λ (p : Progress). p.count) o.progress ∙ plus_one m.progress.count (count past) st.count_is;
  range_is = ap (λ (p : Progress). open_range p) o.progress ∙ range_opens m.progress (count past) (hull past) ss.list st.count_is st.range_is;
  seq_is = ap (λ (p : Progress). p.seq) o.progress ∙ st.seq_is;
}

-- a bracket ends
less_one : (a b : ℕ) → a ≡ b → a - 1 ≡ b - 1
less_one a b h = ap (λ (n : ℕ). n - 1) h

range_ends : (p : Progress) (n : ℕ) (h : Option Extent) → p.count ≡ n → 0 < n → open_range p ≡ h → cond (eqb (p.count - 1) 0) None p.kept ≡ cond (leb n 1) None h
range_ends p n h e lt r =
    let a : eqb (p.count - 1) 0 ≡ leb n 1 = at_one p.count n e lt in
    let k : eqb p.count 0 ≡ false = above p.count n e lt in
    let q : h ≡ p.kept = sym r ∙ ap (λ (t : Bool). cond t None p.kept) k in
    rw (a, q) refl
  where
    at_one : (m n : ℕ) → m ≡ n → 0 < n → eqb (m - 1) 0 ≡ leb n 1
    at_one m n e lt = grind (arith, nat_tests)

    above : (m n : ℕ) → m ≡ n → 0 < n → eqb m 0 ≡ false
    above m n e lt = grind (arith, nat_tests)

pub closed : {s : Setup} {m : Serving} {past : List Entry} (t c : ℕ) → 0 < count past → MappingStands s m past → MappingStands s (record m { progress = record { seq = m.progress.seq + 1; count = m.progress.count - 1; kept = m.progress.kept } }) (by t (Caller c) End ∷ past)
closed {s = s} {m = m} {past = past} t c lt st = record {
  seat_count = st.seat_count;
  buffer_count = st.buffer_count;
  asked_is = st.asked_is;
  seats_are = λ v d l. seat_stays (get_or m.requests.seats v d) v (by t (Caller c) End) past refl refl (st.seats_are v d l);
  none_beyond = st.none_beyond;
  buffers_are = st.buffers_are;
  leaves_are = st.leaves_are;
  count_is = less_one m.progress.count (count past) st.count_is;
  range_is = range_ends m.progress (count past) (hull past) st.count_is lt st.range_is;
  seq_is = plus_one m.progress.seq (ends past) st.seq_is;
}
