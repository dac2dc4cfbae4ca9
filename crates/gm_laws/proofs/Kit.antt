-- Lemmas over plain variables: lists of mappings, spans, positions, hulls.
use Rattle.std.proofs.Common.{◌&&◌, ◌*◌, ◌+◌, ◌/◌, ◌<◌, Bool, List, None, Option, Some, [], ap, arith, cond, false, inl, inr, le-leb, leb, length, ltb, max, min, refl, suc, take, true, zero, ℕ, ◌∙◌, ◌∷◌, ◌≡◌, ◌≤◌, ◌⊎◌}
use Rattle.std.proofs.lemmas.Bool.{both_ways, lt-leb, or_cases, or_parts}
use Rattle.std.proofs.lemmas.Bool.Decides.{nat_tests}
use Rattle.gm_base.specs.Extent.{Extent, holds, meets}
use Rattle.gm_base.specs.declared.values.Actor.{Actor}
use Rattle.gm_base.specs.declared.values.Actor.TheVariants.{Caller, Vcpu}
use Rattle.gm_base.specs.declared.values.Level.{Level}
use Rattle.gm_base.specs.declared.values.Level.TheVariants.{Block, Small}
use Rattle.gm_flat.specs.Histories.{call, is_caller}
use Rattle.gm_flat.specs.Invalidation.{in_hull, widened, widened_by}
use Rattle.gm_flat.specs.Mappings.{Mapping, any_holds, any_meets, covered, covers, off_extent, off_spans}
use Rattle.gm_flat.specs.Replay.{flat, flat_at}
use Rattle.gm_flat.specs.Window.{changed, changed_step, is_on, own_change, own_step, settled, settled_step}
use Rattle.gm_flat.specs.declared.entry.Entry.{Entry}
use Rattle.gm_flat.specs.declared.entry.What.{What}
use Rattle.gm_flat.specs.declared.entry.What.TheVariants.{Answer, Change, Judge}

abbrev pub by : ℕ → Actor → What → Entry
by t a w = record { turn = t; actor = a; what = w }

abbrev pub in_leaf : Level → ℕ → ℕ → Bool
in_leaf level p h = holds (covered level p) h

abbrev pub Mem : Mapping → List Mapping → Type 0
Mem x [] = ⊥
Mem x (y ∷ ys) = (x ≡ y) ⊎ Mem x ys

pub some_same : {A : Type 0} (x y : A) → Some x ≡ Some y → x ≡ y
some_same x y e = cc

pub none_is : {A : Type 0} (x : A) → None ≡ Some x → ⊥
none_is x e = cc

pub cond_is : {A : Type 0} (t : Bool) (x y z : A) → cond t x y ≡ z → ((t ≡ true) × (x ≡ z)) ⊎ ((t ≡ false) × (y ≡ z))
cond_is true x y z e = inl (refl, e)
cond_is false x y z e = inr (refl, e)

pub by_test : {P : Type 0} (t : Bool) → (t ≡ true → P) → (t ≡ false → P) → P
by_test true a b = a refl
by_test false a b = b refl

-- a filter's step: ys is what is kept of xs
Mem-skip : (t : Bool) (l x : Mapping) (xs ys : List Mapping) → (Mem l ys → Mem l xs) → Mem l (cond t ys (x ∷ ys)) → Mem l (x ∷ xs)
Mem-skip true l x xs ys f h = inr (f h)
Mem-skip false l x xs ys f h = elim h [ inl e ↦ inl e | inr k ↦ inr (f k) ]

pub Mem-off_extent : (e : Extent) (l : Mapping) (ls : List Mapping) → Mem l (off_extent e ls) → Mem l ls
Mem-off_extent e l [] m = m
Mem-off_extent e l (x ∷ xs) m = Mem-skip (meets e (covered x.level x.page)) l x xs (off_extent e xs) (Mem-off_extent e l xs) m

pub Mem-off_spans : (ss : List Extent) (l : Mapping) (ls : List Mapping) → Mem l (off_spans ss ls) → Mem l ls
Mem-off_spans ss l [] m = m
Mem-off_spans ss l (x ∷ xs) m = Mem-skip (any_meets ss (covered x.level x.page)) l x xs (off_spans ss xs) (Mem-off_spans ss l xs) m

off_skip : (ss : List Extent) (t : Bool) (l x : Mapping) (ys : List Mapping) → any_meets ss (covered x.level x.page) ≡ t → (Mem l ys → any_meets ss (covered l.level l.page) ≡ false) → Mem l (cond t ys (x ∷ ys)) → any_meets ss (covered l.level l.page) ≡ false
off_skip ss true l x ys e f h = f h
off_skip ss false l x ys e f h = elim h [ inl same ↦ ap (λ (y : Mapping). any_meets ss (covered y.level y.page)) same ∙ e | inr k ↦ f k ]

off_spans-off : (ss : List Extent) (l : Mapping) (ls : List Mapping) → Mem l (off_spans ss ls) → any_meets ss (covered l.level l.page) ≡ false
off_spans-off ss l [] m = absurd m
off_spans-off ss l (x ∷ xs) m = off_skip ss (any_meets ss (covered x.level x.page)) l x (off_spans ss xs) refl (off_spans-off ss l xs) m

-- an extent that doesn't meet another has none of its pages
pub apart_page : (a b c d h : ℕ) → (ltb a d && ltb c b) ≡ false → (leb a h && ltb h b) ≡ true → (leb c h && ltb h d) ≡ false
apart_page a b c d h e k = grind (arith, nat_tests)

apart_spans : (e : Extent) (h : ℕ) (ss : List Extent) → holds e h ≡ true → any_meets ss e ≡ false → any_holds ss h ≡ false
apart_spans e h [] k f = refl
apart_spans e h (s ∷ ss) k f =
    let x = or_parts (meets e s) (any_meets ss e) f in
    let y : holds s h ≡ false = apart_page e.lo e.hi s.lo s.hi h x.0 k in
    let z : any_holds ss h ≡ false = apart_spans e h ss k x.1 in
    rw (y, z) refl

pub off_spans-page : (ss : List Extent) (l : Mapping) (h : ℕ) (ls : List Mapping) → Mem l (off_spans ss ls) → covers l h ≡ true → any_holds ss h ≡ false
off_spans-page ss l h ls m e = apart_spans (covered l.level l.page) h ss e (off_spans-off ss l ls m)

pub small_page : (p h : ℕ) → (leb p h && ltb h (p + 1)) ≡ true → h ≡ p
small_page p h e = grind (arith, nat_tests)

pub in_leaf_self : (level : Level) (p : ℕ) → in_leaf level p p ≡ true
in_leaf_self Small p = grind (arith, nat_tests)
in_leaf_self Block p = grind (arith, nat_tests)

-- the pages of a leaf at q of p's are those of a leaf at p
pub in_leaf_same : (level : Level) (p q h : ℕ) → in_leaf level p q ≡ true → in_leaf level q h ≡ true → in_leaf level p h ≡ true
in_leaf_same Small p q h e f = grind (arith, nat_tests)
in_leaf_same Block p q h e f = block_same p q h e f
  where
    block_same : (p q h : ℕ) → (leb (512 * (p / 512)) q && ltb q (512 * (p / 512) + 512)) ≡ true → (leb (512 * (q / 512)) h && ltb h (512 * (q / 512) + 512)) ≡ true → (leb (512 * (p / 512)) h && ltb h (512 * (p / 512) + 512)) ≡ true
    block_same p q h e f = grind (arith, nat_tests)

pub Mem-take : (n : ℕ) (l : Mapping) (ls : List Mapping) → Mem l (take n ls) → Mem l ls
Mem-take zero l ls m = absurd m
Mem-take (suc n) l [] m = absurd m
Mem-take (suc n) l (x ∷ xs) m = elim m [ inl e ↦ inl e | inr k ↦ inr (Mem-take n l xs k) ]

-- positions
pub flat_at_keep : (i : ℕ) (e : Entry) (past : List Entry) → i ≤ length past → flat_at i (e ∷ past) ≡ flat_at i past
flat_at_keep i e past h = rw (le-leb i (length past) h) refl

pub flat_at_here : (i : ℕ) (e : Entry) (past : List Entry) → length past < i → flat_at i (e ∷ past) ≡ flat (e ∷ past)
flat_at_here i e past h = rw (lt-leb i (length past) h) refl

pub flat_at_all : (past : List Entry) → flat_at (length past) past ≡ flat past
flat_at_all [] = refl
flat_at_all (e ∷ past) = flat_at_here (suc (length past)) e past (omega arith)

-- hulls
pub widened_by_keeps : (g : ℕ) (h : Option Extent) (s : Extent) → in_hull g h ≡ true → holds (widened_by h s) g ≡ true
widened_by_keeps g None s e = absurd (both_ways _ refl e)
widened_by_keeps g (Some t) s e = joined_left g t.lo t.hi s.lo s.hi e
  where
    joined_left : (g a b c d : ℕ) → (leb a g && ltb g b) ≡ true → (leb (min a c) g && ltb g (max b d)) ≡ true
    joined_left g a b c d e = grind (arith, nat_tests)

joined_covers : (g : ℕ) (h : Option Extent) (s : Extent) → holds s g ≡ true → holds (widened_by h s) g ≡ true
joined_covers g None s e = e
joined_covers g (Some t) s e = joined_right g t.lo t.hi s.lo s.hi e
  where
    joined_right : (g a b c d : ℕ) → (leb c g && ltb g d) ≡ true → (leb (min a c) g && ltb g (max b d)) ≡ true
    joined_right g a b c d e = grind (arith, nat_tests)

pub widened_keeps : (g : ℕ) (ss : List Extent) (h : Option Extent) → in_hull g h ≡ true → in_hull g (widened h ss) ≡ true
widened_keeps g [] h e = e
widened_keeps g (s ∷ ss) h e = widened_keeps g ss (Some (widened_by h s)) (widened_by_keeps g h s e)

pub widened_covers : (g : ℕ) (ss : List Extent) (h : Option Extent) → any_holds ss g ≡ true → in_hull g (widened h ss) ≡ true
widened_covers g [] h e = absurd (both_ways _ refl e)
widened_covers g (s ∷ ss) h e =
    elim (or_cases (holds s g) (any_holds ss g) e) [
      | inl a ↦ widened_keeps g ss (Some (widened_by h s)) (joined_covers g h s a)
      | inr b ↦ widened_covers g ss (Some (widened_by h s)) b
    ]

-- changes
changed_step-le : (g : ℕ) (w : What) (past : List Entry) (x : ℕ) → x ≤ length past → changed_step g w past x ≤ suc (length past)
changed_step-le g (Change effect) past x h = cond_le (is_on effect (flat past) g) (length past) x h
  where
    cond_le : (t : Bool) (n x : ℕ) → x ≤ n → cond t (suc n) x ≤ suc n
    cond_le t n x h = grind arith
changed_step-le g _ past x h = omega arith

pub changed-le : (g : ℕ) (past : List Entry) → changed g past ≤ length past
changed-le g [] = omega arith
changed-le g (e ∷ past) = changed_step-le g e.what past (changed g past) (changed-le g past)

cond_zero : (t : Bool) (x y : ℕ) → x ≤ y → cond t 0 x ≤ y
cond_zero t x y h = grind arith

cond_two : (t o : Bool) (n x y : ℕ) → x ≤ y → y ≤ n → cond t (cond o (suc n) x) x ≤ cond o (suc n) y
cond_two t o n x y h k = grind arith

cond_same : (t : Bool) (x y : ℕ) → x ≤ y → cond t x x ≤ y
cond_same t x y h = grind arith

own_step-le : (c g : ℕ) (w : What) (a : Actor) (past : List Entry) (x y : ℕ) → x ≤ y → y ≤ length past → cond (is_caller c a) (own_step g w past x) x ≤ changed_step g w past y
own_step-le c g (Judge call) a past x y h k = cond_zero (is_caller c a) x y h
own_step-le c g (Answer reply) a past x y h k = cond_zero (is_caller c a) x y h
own_step-le c g (Change effect) a past x y h k = cond_two (is_caller c a) (is_on effect (flat past) g) (length past) x y h k
own_step-le c g _ a past x y h k = cond_same (is_caller c a) x y h

pub own_change-le : (c g : ℕ) (past : List Entry) → own_change c g past ≤ changed g past
own_change-le c g [] = omega arith
own_change-le c g (e ∷ past) = own_step-le c g e.what e.actor past (own_change c g past) (changed g past) (own_change-le c g past) (changed-le g past)

max-le : (a b y : ℕ) → a ≤ y → b ≤ y → max a b ≤ y
max-le a b y h k = omega arith

grow : (t : Bool) (n x y : ℕ) → x ≤ y → y ≤ n → x ≤ cond t (suc n) y
grow t n x y h k = grind arith

settled_step-le : (g : ℕ) (w : What) (a : Actor) (past : List Entry) (x : ℕ) → x ≤ changed g past → settled_step g w a past x ≤ changed_step g w past (changed g past)
settled_step-le g (Answer reply) (Caller c) past x h = max-le (own_change c g past) x (changed g past) (own_change-le c g past) h
settled_step-le g (Answer reply) (Vcpu v) past x h = h
settled_step-le g (Change effect) a past x h = grow (is_on effect (flat past) g) (length past) x (changed g past) h (changed-le g past)
settled_step-le g _ a past x h = h

pub settled-le : (g : ℕ) (past : List Entry) → settled g past ≤ changed g past
settled-le g [] = omega arith
settled-le g (e ∷ past) = settled_step-le g e.what e.actor past (settled g past) (settled-le g past)
