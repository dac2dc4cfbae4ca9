-- Flags of blocks after a change of pages.
use Rattle.std.proofs.Common.{◌≡◌, ◌≢◌, ◌⊎◌, inl, inr, ℕ, ◌+◌, ◌-◌, ◌*◌, ◌/◌, ◌<◌, ◌≤◌, List, Bool, true, false, ◌&&◌, cond, Option, None, Some, refl, sym, ◌∙◌, ap, subst, arith}
use Rattle.std.specs.Prelude.{nat_eq, nat_lt, nat_le, IsSome}
use Rattle.std.proofs.lemmas.Bool.Decides.{nat_tests}
use Rattle.gm_base.specs.Extent.{Extent, holds}
use Rattle.gm_radix.specs.Entries.{lookup, put, without}
use Rattle.gm_ranges.specs.Runs.{turned}
use Rattle.gm_attr.specs.Flags.{FlagIs, FlagsAre}
use Rattle.gm_attr.specs.Kinds.{block_extent, end_whole, first_whole, lies_in}
use Rattle.gm_attr.proofs.Lookups.{Blocks, lookup-without, put_other}

-- a block without an entry has pages of one value
pub flag_none : (edges : List ℕ) (block : ℕ) (span : Extent) (value : Bool) (o : Option (Unit {0})) → o ≡ None → span ≡ block_extent block → ((page : ℕ) → holds span page ≡ true → turned false edges page ≡ value) → FlagIs edges block o
flag_none edges block span value o none is all =
    subst (λ (x : Option (Unit {0})). FlagIs edges block x) (sym none)
    (value, (λ page held. all page (ap (λ (s : Extent). holds s page) is ∙ held)))

-- and one with an entry of both
pub flag_some : (edges : List ℕ) (block : ℕ) (span : Extent) (o : Option (Unit {0})) → o ≡ Some tt → span ≡ block_extent block → ((page : ℕ) × (other : ℕ) × (holds span page ≡ true) × (holds span other ≡ true) × (turned false edges page ≡ true) × (turned false edges other ≡ false)) → FlagIs edges block o
flag_some edges block span o some is two =
    subst (λ (x : Option (Unit {0})). FlagIs edges block x) (sym some)
    (two.0, two.1, ap (λ (s : Extent). holds s two.0) (sym is) ∙ two.2, ap (λ (s : Extent). holds s two.1) (sym is) ∙ two.3, two.4, two.5)

-- a flag stays right where the pages of its block stay
flag_stays : (old new : List ℕ) (block : ℕ) (o : Option (Unit {0})) → ((page : ℕ) → holds (block_extent block) page ≡ true → turned false new page ≡ turned false old page) → FlagIs old block o → FlagIs new block o
flag_stays old new block None stays f = (f.0, λ page held. stays page held ∙ f.1 page held)
flag_stays old new block (Some flag) stays f = (f.0, f.1, f.2, f.3, stays f.0 f.2 ∙ f.4, stays f.1 f.3 ∙ f.5)

-- a block lies wholly in a span where its number is from the first whole one on and before the end
pub lies_in_is : (span : Extent) (block : ℕ) → lies_in span block ≡ (nat_le (first_whole span) block && nat_lt block (end_whole span))
lies_in_is span block = both (starts span.lo block) (ends span.hi block)
  where
    starts : (lo k : ℕ) → nat_le lo (512 * k) ≡ nat_le ((lo + 511) / 512) k
    starts lo k = grind (arith, nat_tests)

    ends : (hi k : ℕ) → nat_le (512 * k + 512) hi ≡ nat_lt k (hi / 512)
    ends hi k = grind (arith, nat_tests)

    both : {a b c d : Bool} → a ≡ b → c ≡ d → (a && c) ≡ (b && d)
    both p q = cc

-- a span holds the pages of a block in it
held_whole : (lo hi k page : ℕ) → ((lo + 511) / 512) ≤ k → k < hi / 512 → 512 * k ≤ page → page < 512 * k + 512 → (lo ≤ page) × (page < hi)
held_whole lo hi k page a b c d = (omega arith, omega arith)

-- and none of a block that isn't in it and has neither end
held_apart : (lo hi k page : ℕ) → k ≢ lo / 512 → k ≢ (hi - 1) / 512 → ((lo + 511) / 512 ≤ k → k < hi / 512 → ⊥) → 512 * k ≤ page → page < 512 * k + 512 → lo ≤ page → page < hi → ⊥
held_apart lo hi k page a b out c d e f =
    let one : lo / 512 ≤ k = omega arith in
    let two : lo / 512 < k = omega arith in
    let three : (lo + 511) / 512 ≤ k = omega arith in
    let four : k ≤ (hi - 1) / 512 = omega arith in
    let five : k < (hi - 1) / 512 = omega arith in
    let six : k < hi / 512 = omega arith in
    out three six

-- what a call leaves of the flags, before the blocks that its ends cut are renewed
between : (old new : List ℕ) (span : Extent) (value : Bool) (tracked mixed : Blocks) (k : ℕ) → ((page : ℕ) → turned false new page ≡ cond (holds span page) value (turned false old page)) → FlagIs old k (lookup k mixed) → k ≢ span.lo / 512 → k ≢ (span.hi - 1) / 512 → FlagIs new k (lookup k (without (first_whole span) (end_whole span) mixed))
between old new span value tracked mixed k pages f a b =
    subst (λ (x : Option (Unit {0})). FlagIs new k x) (sym (lookup-without k (first_whole span) (end_whole span) mixed)) (cases (nat_le (first_whole span) k && nat_lt k (end_whole span)) refl)
  where
    held : (page : ℕ) (b : Bool) → holds span page ≡ b → turned false new page ≡ cond b value (turned false old page)
    held page b e = pages page ∙ ap (λ (x : Bool). cond x value (turned false old page)) e

    inside : (nat_le (first_whole span) k && nat_lt k (end_whole span)) ≡ true → (page : ℕ) → holds (block_extent k) page ≡ true → holds span page ≡ true
    inside p page h = whole span.lo span.hi p h
      where
        whole : (lo hi : ℕ) → (nat_le ((lo + 511) / 512) k && nat_lt k (hi / 512)) ≡ true → (nat_le (512 * k) page && nat_lt page (512 * k + 512)) ≡ true → (nat_le lo page && nat_lt page hi) ≡ true
        whole lo hi p h =
            let q : ((lo + 511) / 512 ≤ k) × (k < hi / 512) = grind (arith, nat_tests) in
            let r : (512 * k ≤ page) × (page < 512 * k + 512) = grind (arith, nat_tests) in
            let s = held_whole lo hi k page q.0 q.1 r.0 r.1 in
            grind (arith, nat_tests)

    outside : (nat_le (first_whole span) k && nat_lt k (end_whole span)) ≡ false → (page : ℕ) → holds (block_extent k) page ≡ true → holds span page ≡ false
    outside p page h = apart span.lo span.hi a b p h (holds span page) refl
      where
        apart : (lo hi : ℕ) → k ≢ lo / 512 → k ≢ (hi - 1) / 512 → (nat_le ((lo + 511) / 512) k && nat_lt k (hi / 512)) ≡ false → (nat_le (512 * k) page && nat_lt page (512 * k + 512)) ≡ true → (x : Bool) → (nat_le lo page && nat_lt page hi) ≡ x → x ≡ false
        apart lo hi a b p h false e = refl
        apart lo hi a b p h true e =
            let r : (512 * k ≤ page) × (page < 512 * k + 512) = grind (arith, nat_tests) in
            let s : (lo ≤ page) × (page < hi) = grind (arith, nat_tests) in
            let out : (lo + 511) / 512 ≤ k → k < hi / 512 → ⊥ = λ c d. contrary (c) (d) p in
            absurd (held_apart lo hi k page a b out r.0 r.1 s.0 s.1)
          where
            contrary : (lo + 511) / 512 ≤ k → k < hi / 512 → (nat_le ((lo + 511) / 512) k && nat_lt k (hi / 512)) ≡ false → ⊥
            contrary c d p = grind (arith, nat_tests)

    cases : (b : Bool) → (nat_le (first_whole span) k && nat_lt k (end_whole span)) ≡ b → FlagIs new k (cond b None (lookup k mixed))
    cases true p = (value, λ page h. held page true (inside p page h))
    cases false p = flag_stays old new k (lookup k mixed) (λ page h. held page false (outside p page h)) f

same_or_not : (a b : ℕ) → (a ≡ b) ⊎ (a ≢ b)
same_or_not a b = cases (nat_eq a b) refl
  where
    cases : (x : Bool) → nat_eq a b ≡ x → (a ≡ b) ⊎ (a ≢ b)
    cases true p = inl (grind (arith, nat_tests))
    cases false p = inr (λ e. apart e)
      where
        apart : a ≡ b → ⊥
        apart e = grind (arith, nat_tests)

-- a flag that is renewed, or as it was
pub record Renewed (edges : List ℕ) (tracked before after : Blocks) (block : ℕ) : Type 0 where
  pub flag : IsSome (lookup block tracked) → FlagIs edges block (lookup block after)
  pub others : (k : ℕ) → k ≢ block → lookup k after ≡ lookup k before

at_block : (edges : List ℕ) (tracked before after : Blocks) (block k : ℕ) → Renewed edges tracked before after block → IsSome (lookup k tracked) → (k ≢ block → FlagIs edges k (lookup k before)) → FlagIs edges k (lookup k after)
at_block edges tracked before after block k r t f = cases (same_or_not k block)
  where
    cases : (k ≡ block) ⊎ (k ≢ block) → FlagIs edges k (lookup k after)
    cases (inl e) = subst (λ (n : ℕ). FlagIs edges n (lookup n after)) (sym e) (r.flag (subst (λ (n : ℕ). IsSome (lookup n tracked)) e t))
    cases (inr ne) = subst (λ (x : Option (Unit {0})). FlagIs edges k x) (sym (r.others k ne)) (f ne)

-- so after a call that renews the blocks of its ends each flag is right
pub set_flags : (old new : List ℕ) (span : Extent) (value : Bool) (tracked mixed cleared once twice : Blocks) (one two : ℕ) → ((page : ℕ) → turned false new page ≡ cond (holds span page) value (turned false old page)) → FlagsAre old tracked mixed → cleared ≡ without (first_whole span) (end_whole span) mixed → one ≡ span.lo / 512 → two ≡ (span.hi - 1) / 512 → Renewed new tracked cleared once one → Renewed new tracked once twice two → FlagsAre new tracked twice
set_flags old new span value tracked mixed cleared once twice one two pages flags is lo hi first second k t =
    at_block new tracked once twice two k second t
    (λ b. at_block new tracked cleared once one k first t
    (λ a. subst (λ (x : Option (Unit {0})). FlagIs new k x) (ap (λ (es : Blocks). lookup k es) (sym is)) (between old new span value tracked mixed k pages (flags k t) (λ e. a (e ∙ sym lo)) (λ e. b (e ∙ sym hi)))))

-- and after a block is tracked
pub put_flags : (edges : List ℕ) (tracked before after : Blocks) (block : ℕ) → FlagsAre edges tracked before → FlagIs edges block (lookup block after) → ((k : ℕ) → k ≢ block → lookup k after ≡ lookup k before) → FlagsAre edges (put block tt tracked) after
put_flags edges tracked before after block flags here others k t = cases (same_or_not k block)
  where
    cases : (k ≡ block) ⊎ (k ≢ block) → FlagIs edges k (lookup k after)
    cases (inl e) = subst (λ (n : ℕ). FlagIs edges n (lookup n after)) (sym e) here
    cases (inr ne) =
        subst (λ (x : Option (Unit {0})). FlagIs edges k x) (sym (others k ne))
        (flags k (subst (λ (x : Option (Unit {0})). IsSome x) (put_other k block tracked ne) t))

-- and after blocks are tracked no more
pub drop_flags : (edges : List ℕ) (tracked mixed : Blocks) (lo hi : ℕ) → FlagsAre edges tracked mixed → FlagsAre edges (without lo hi tracked) (without lo hi mixed)
drop_flags edges tracked mixed lo hi flags k t =
    subst (λ (x : Option (Unit {0})). FlagIs edges k x) (sym (lookup-without k lo hi mixed))
    (cases (nat_le lo k && nat_lt k hi) (subst (λ (x : Option (Unit {0})). IsSome x) (lookup-without k lo hi tracked) t))
  where
    cases : (b : Bool) → IsSome (cond b None (lookup k tracked)) → FlagIs edges k (cond b None (lookup k mixed))
    cases true s = absurd (nothing s)
      where
        nothing : IsSome {T = Unit {0}} None → ⊥
        nothing s = cc
    cases false s = flags k s
