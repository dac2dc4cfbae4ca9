-- The sets of free frames and blocks, after a frame is taken or given back.
use Rattle.std.proofs.Common.{◌≡◌, ◌≢◌, ℕ, ◌+◌, ◌-◌, ◌*◌, ◌/◌, ◌%◌, ◌<◌, ◌≤◌, List, length, set, Bool, true, false, cond, eqb, leb, ltb, ltb-true, ◌&&◌, replicate, IsSomeAnd, Option, None, Some, is_none, refl, sym, ◌∙◌, ap, arith, ◌⊎◌, inl, inr, get_or-set_same, get_or-set_other, length-set}
use Rattle.std.proofs.lemmas.List.{get_or-replicate, length-replicate, get_or_past}
use Rattle.std.proofs.lemmas.Bool.Decides.{nat_tests}
use Rattle.std.proofs.lemmas.Bool.{cases_eq, cases_lt}
use Rattle.gm_pool.specs.declared.uses.Use.{Use}
use Rattle.gm_pool.specs.Bits.{bit_in, HasRun}
use Rattle.gm_pool.specs.Pools.{Stands, free_in, use_in, use_after, fresh, FreeBlock}

pub at_number : (value old : Bool) (n m : ℕ) → n ≡ m → cond (eqb n m) value old ≡ value
at_number value old n m e = grind (arith, nat_tests)

pub at_other : (value old : Bool) (n m : ℕ) → n ≢ m → cond (eqb n m) value old ≡ old
at_other value old n m ne = grind (arith, nat_tests)

less : (n m : ℕ) → n < m → ltb n m ≡ true
less n m h = grind (arith, nat_tests)

pub no_true : {A : Type 0} (b : Bool) → b ≡ false → b ≡ true → A
no_true b f t = absurd cc

-- a free frame is one that there is
pub free_within : (uses : List (Option Use)) (frame : ℕ) → free_in uses frame ≡ true → frame < length uses
free_within uses frame h = by_length (cases_lt frame (length uses))
  where
    past : (b : Bool) → length uses ≤ frame → (ltb frame (length uses) && b) ≡ false
    past b l = grind (arith, nat_tests)

    by_length : ((frame < length uses) ⊎ (length uses ≤ frame)) → frame < length uses
    by_length (inl l) = l
    by_length (inr l) = no_true (free_in uses frame) (past (is_none (use_in uses frame)) l) h

-- the frames that are free after the use of one is set
pub free_set : (uses : List (Option Use)) (frame other : ℕ) (usage : Option Use) → frame < length uses → free_in (set uses frame usage) other ≡ cond (eqb other frame) (is_none usage) (free_in uses other)
free_set uses frame other usage h = by_frame (cases_eq other frame)
  where
    short : ltb other (length (set uses frame usage)) ≡ ltb other (length uses)
    short = ap (λ n. ltb other n) (length-set uses frame usage)

    by_frame : ((other ≡ frame) ⊎ (other ≢ frame)) → free_in (set uses frame usage) other ≡ cond (eqb other frame) (is_none usage) (free_in uses other)
    by_frame (inl e) =
        ap (λ (b : Bool). b && is_none (use_in (set uses frame usage) other)) (short ∙ less other (length uses) (omega arith))
        ∙ (ap (λ (n : ℕ). is_none (use_in (set uses frame usage) n)) e
        ∙ (ap (λ (u : Option Use). is_none u) (get_or-set_same uses frame usage None h) ∙ sym (at_number (is_none usage) (free_in uses other) other frame e)))
    by_frame (inr ne) =
        ap (λ (b : Bool). b && is_none (use_in (set uses frame usage) other)) short
        ∙ (ap (λ (u : Option Use). ltb other (length uses) && is_none u) (get_or-set_other uses frame other usage None ne) ∙ sym (at_other (is_none usage) (free_in uses other) other frame ne))

-- another block's frames stay as they were
elsewhere : (uses : List (Option Use)) (frame block k : ℕ) (usage : Option Use) → frame < length uses → block ≢ frame / 512 → k < 512 → free_in (set uses frame usage) (512 * block + k) ≡ free_in uses (512 * block + k)
elsewhere uses frame block k usage h ne l =
    free_set uses frame (512 * block + k) usage h ∙ at_other (is_none usage) (free_in uses (512 * block + k)) (512 * block + k) frame (omega arith)

-- after a free frame is taken
pub stands_taken : (uses : List (Option Use)) (free blocks frees wholes : List ℕ) (frame : ℕ) (usage : Use) → Stands uses free blocks → free_in uses frame ≡ true → ((n : ℕ) → bit_in frees n ≡ cond (eqb n frame) false (bit_in free n)) → length frees ≡ length free → ((b : ℕ) → bit_in wholes b ≡ cond (eqb b (frame / 512)) false (bit_in blocks b)) → length wholes ≡ length blocks → Stands (set uses frame (Some usage)) frees wholes
stands_taken uses free blocks frees wholes frame usage s f frees_are frees_long wholes_are wholes_long = record {
  frames = λ n. frees_are n ∙ (ap (λ (b : Bool). cond (eqb n frame) false b) (s.frames n) ∙ sym (free_set uses frame n (Some usage) within));
  whole = whole_of;
  block = block_of;
  room = omega (arith, s.room, long);
  blocks_room = omega (arith, s.blocks_room, long);
  small = omega (arith, s.small, long);
}
  where
    within : frame < length uses
    within = free_within uses frame f

    long : length (set uses frame (Some usage)) ≡ length uses
    long = length-set uses frame (Some usage)

    whole_of : (block : ℕ) → bit_in wholes block ≡ true → FreeBlock (set uses frame (Some usage)) (512 * block)
    whole_of block e k l = by_block (cases_eq block (frame / 512))
      where
        by_block : ((block ≡ frame / 512) ⊎ (block ≢ frame / 512)) → free_in (set uses frame (Some usage)) (512 * block + k) ≡ true
        by_block (inl same) = no_true (bit_in wholes block) (wholes_are block ∙ at_number false (bit_in blocks block) block (frame / 512) same) e
        by_block (inr ne) = elsewhere uses frame block k (Some usage) within ne l ∙ s.whole block (sym (at_other false (bit_in blocks block) block (frame / 512) ne) ∙ (sym (wholes_are block) ∙ e)) k l

    block_of : (block : ℕ) → FreeBlock (set uses frame (Some usage)) (512 * block) → bit_in wholes block ≡ true
    block_of block all = by_block (cases_eq block (frame / 512))
      where
        taken : free_in (set uses frame (Some usage)) frame ≡ false
        taken = free_set uses frame frame (Some usage) within ∙ at_number false (free_in uses frame) frame frame refl

        by_block : ((block ≡ frame / 512) ⊎ (block ≢ frame / 512)) → bit_in wholes block ≡ true
        by_block (inl same) =
            no_true (free_in (set uses frame (Some usage)) frame) taken
            (ap (λ (n : ℕ). free_in (set uses frame (Some usage)) n) (omega arith) ∙ all (frame % 512) (omega arith))
        by_block (inr ne) =
            wholes_are block ∙ (at_other false (bit_in blocks block) block (frame / 512) ne ∙ s.block block (λ k l. sym (elsewhere uses frame block k (Some usage) within ne l) ∙ all k l))

-- after a frame in use is given back: the block is found to be free or not
pub stands_released : (uses : List (Option Use)) (free blocks frees wholes : List ℕ) (frame : ℕ) → Stands uses free blocks → frame < length uses → free_in uses frame ≡ false → ((n : ℕ) → bit_in frees n ≡ cond (eqb n frame) true (bit_in free n)) → length frees ≡ length free → ((b : ℕ) → b ≢ frame / 512 → bit_in wholes b ≡ bit_in blocks b) → (bit_in wholes (frame / 512) ≡ true → HasRun frees (frame / 512 * 512) 512) → (HasRun frees (frame / 512 * 512) 512 → bit_in wholes (frame / 512) ≡ true) → length wholes ≡ length blocks → Stands (set uses frame None) frees wholes
stands_released uses free blocks frees wholes frame s within used frees_are frees_long others whole_if if_whole wholes_long = record {
  frames = frames_of;
  whole = whole_of;
  block = block_of;
  room = omega (arith, s.room, long);
  blocks_room = omega (arith, s.blocks_room, long);
  small = omega (arith, s.small, long);
}
  where
    long : length (set uses frame None) ≡ length uses
    long = length-set uses frame None

    frames_of : (n : ℕ) → bit_in frees n ≡ free_in (set uses frame None) n
    frames_of n = frees_are n ∙ (ap (λ (b : Bool). cond (eqb n frame) true b) (s.frames n) ∙ sym (free_set uses frame n None within))

    whole_of : (block : ℕ) → bit_in wholes block ≡ true → FreeBlock (set uses frame None) (512 * block)
    whole_of block e k l = by_block (cases_eq block (frame / 512))
      where
        by_block : ((block ≡ frame / 512) ⊎ (block ≢ frame / 512)) → free_in (set uses frame None) (512 * block + k) ≡ true
        by_block (inl same) =
            sym (frames_of (512 * block + k)) ∙ (ap (λ n. bit_in frees n) (omega arith) ∙ whole_if (ap (λ b. bit_in wholes b) (sym same) ∙ e) k l)
        by_block (inr ne) = elsewhere uses frame block k None within ne l ∙ s.whole block (sym (others block ne) ∙ e) k l

    block_of : (block : ℕ) → FreeBlock (set uses frame None) (512 * block) → bit_in wholes block ≡ true
    block_of block all = by_block (cases_eq block (frame / 512))
      where
        by_block : ((block ≡ frame / 512) ⊎ (block ≢ frame / 512)) → bit_in wholes block ≡ true
        by_block (inl same) =
            ap (λ b. bit_in wholes b) same ∙ if_whole (λ k l. ap (λ n. bit_in frees n) (omega arith) ∙ (frames_of (512 * block + k) ∙ all k l))
        by_block (inr ne) = others block ne ∙ s.block block (λ k l. sym (elsewhere uses frame block k None within ne l) ∙ all k l)

-- no block with a frame in use is among the free ones
pub used_block : {A : Type 0} (uses : List (Option Use)) (free blocks : List ℕ) (frame : ℕ) → Stands uses free blocks → free_in uses frame ≡ false → bit_in blocks (frame / 512) ≡ true → A
used_block uses free blocks frame s used e =
    no_true (free_in uses frame) used (ap (λ (n : ℕ). free_in uses n) (omega arith) ∙ s.whole (frame / 512) e (frame % 512) (omega arith))

-- a free block lies within the frames
pub block_within : (uses : List (Option Use)) (free blocks frees : List ℕ) (frame : ℕ) → Stands uses free blocks → frame < length uses → ((n : ℕ) → bit_in frees n ≡ cond (eqb n frame) true (bit_in free n)) → HasRun frees (frame / 512 * 512) 512 → frame / 512 < 64 * length blocks
block_within uses free blocks frees frame s within frees_are run = omega (arith, s.blocks_room, last)
  where
    seen : free_in (set uses frame None) (frame / 512 * 512 + 511) ≡ true
    seen =
        free_set uses frame (frame / 512 * 512 + 511) None within
        ∙ (ap (λ (b : Bool). cond (eqb (frame / 512 * 512 + 511) frame) true b) (sym (s.frames (frame / 512 * 512 + 511)))
        ∙ (sym (frees_are (frame / 512 * 512 + 511)) ∙ run 511 (omega arith)))

    last : frame / 512 * 512 + 511 < length uses
    last = omega (arith, free_within (set uses frame None) (frame / 512 * 512 + 511) seen, length-set uses frame None)

-- uses with the same free frames
stands_alike : (uses now : List (Option Use)) (free blocks : List ℕ) → Stands uses free blocks → ((n : ℕ) → free_in now n ≡ free_in uses n) → length now ≡ length uses → Stands now free blocks
stands_alike uses now free blocks s same long = record {
  frames = λ n. s.frames n ∙ sym (same n);
  whole = λ block e k l. same (512 * block + k) ∙ s.whole block e k l;
  block = λ block all. s.block block (λ k l. sym (same (512 * block + k)) ∙ all k l);
  room = omega (arith, s.room);
  blocks_room = omega (arith, s.blocks_room);
  small = omega (arith, s.small);
}

-- another use of a frame in use
pub stands_used : (uses : List (Option Use)) (free blocks : List ℕ) (frame : ℕ) (usage : Use) → Stands uses free blocks → frame < length uses → free_in uses frame ≡ false → Stands (set uses frame (Some usage)) free blocks
stands_used uses free blocks frame usage s h used =
    stands_alike uses (set uses frame (Some usage)) free blocks s same (length-set uses frame (Some usage))
  where
    same : (n : ℕ) → free_in (set uses frame (Some usage)) n ≡ free_in uses n
    same n = free_set uses frame n (Some usage) h ∙ by_frame (cases_eq n frame)
      where
        by_frame : ((n ≡ frame) ⊎ (n ≢ frame)) → cond (eqb n frame) false (free_in uses n) ≡ free_in uses n
        by_frame (inl e) = at_number false (free_in uses n) n frame e ∙ sym (ap (λ (m : ℕ). free_in uses m) e ∙ used)
        by_frame (inr ne) = at_other false (free_in uses n) n frame ne

-- frames that are all free
free_new : (count n : ℕ) → free_in (replicate count None) n ≡ ltb n count
free_new count n = by_length (cases_lt n count)
  where
    long : length (replicate {A = Option Use} count None) ≡ count
    long = length-replicate count None

    and_none : (b : Bool) (u : Option Use) → u ≡ None → (b && is_none u) ≡ b
    and_none true u e = ap (λ (v : Option Use). is_none v) e
    and_none false u e = refl

    none : ((n < count) ⊎ (count ≤ n)) → use_in (replicate count None) n ≡ None
    none (inl h) = get_or-replicate count n None None h
    none (inr h) = get_or_past (replicate count None) n None (omega (arith, long))

    by_length : ((n < count) ⊎ (count ≤ n)) → free_in (replicate count None) n ≡ ltb n count
    by_length h = and_none (ltb n (length (replicate {A = Option Use} count None))) (use_in (replicate count None) n) (none h) ∙ ap (λ m. ltb n m) long

pub stands_new : (uses : List (Option Use)) (free blocks : List ℕ) (count : ℕ) → uses ≡ replicate count None → count < 4294967296 → ((n : ℕ) → bit_in free n ≡ ltb n count) → count ≤ 64 * length free → ((b : ℕ) → bit_in blocks b ≡ ltb b (count / 512)) → count / 512 ≤ 64 * length blocks → Stands uses free blocks
stands_new uses free blocks count is h frees room wholes blocks_room = record {
  frames = λ n. frees n ∙ sym (same n);
  whole = λ block e k l. same (512 * block + k) ∙ less (512 * block + k) count (omega (arith, ltb-true block (count / 512) (sym (wholes block) ∙ e)));
  block = λ block all. wholes block ∙ less block (count / 512) (omega (arith, ltb-true (512 * block + 511) count (sym (same (512 * block + 511)) ∙ all 511 (omega arith))));
  room = omega (arith, long);
  blocks_room = omega (arith, long);
  small = omega (arith, long);
}
  where
    same : (n : ℕ) → free_in uses n ≡ ltb n count
    same n = ap (λ (us : List (Option Use)). free_in us n) is ∙ free_new count n

    long : length uses ≡ count
    long = ap (λ (us : List (Option Use)). length us) is ∙ length-replicate count None

-- a free block lies within the frames
pub block_small : (uses : List (Option Use)) (free blocks : List ℕ) (block : ℕ) → Stands uses free blocks → bit_in blocks block ≡ true → (512 * block + 511 < length uses) × (length uses < 4294967296)
block_small uses free blocks block s e = (free_within uses (512 * block + 511) (s.whole block e 511 (omega arith)), s.small)

-- the use of a frame, when one more is taken
pub taken_more : (uses now : List (Option Use)) (first count serial frame : ℕ) → ((n : ℕ) → use_in now n ≡ use_after uses first count serial n) → first + count < length now → use_in (set now (first + count) (Some (fresh (serial + count)))) frame ≡ use_after uses first (count + 1) serial frame
taken_more uses now first count serial frame taken h = by_frame (cases_eq frame (first + count))
  where
    same_test : frame ≢ first + count → (leb first frame && ltb frame (first + count)) ≡ (leb first frame && ltb frame (first + (count + 1)))
    same_test ne = grind (arith, nat_tests)

    in_test : frame ≡ first + count → (leb first frame && ltb frame (first + (count + 1))) ≡ true
    in_test e = grind (arith, nat_tests)

    by_frame : ((frame ≡ first + count) ⊎ (frame ≢ first + count)) → use_in (set now (first + count) (Some (fresh (serial + count)))) frame ≡ use_after uses first (count + 1) serial frame
    by_frame (inl e) =
        ap (λ n. use_in (set now (first + count) (Some (fresh (serial + count)))) n) e
        ∙ (get_or-set_same now (first + count) (Some (fresh (serial + count))) None h
        ∙ (ap (λ n. Some (fresh n)) (omega arith)
        ∙ sym (ap (λ (b : Bool). cond b (Some (fresh ((serial + frame) - first))) (use_in uses frame)) (in_test e))))
    by_frame (inr ne) =
        get_or-set_other now (first + count) frame (Some (fresh (serial + count))) None ne
        ∙ (taken frame ∙ ap (λ (b : Bool). cond b (Some (fresh ((serial + frame) - first))) (use_in uses frame)) (same_test ne))

-- a frame that isn't taken yet is still free
pub still_free : (uses now : List (Option Use)) (first count serial : ℕ) → FreeBlock uses first → ((n : ℕ) → use_in now n ≡ use_after uses first count serial n) → length now ≡ length uses → count < 512 → free_in now (first + count) ≡ true
still_free uses now first count serial free taken long h =
    ap (λ (n : ℕ). ltb (first + count) n && is_none (use_in now (first + count))) long
    ∙ (ap (λ (u : Option Use). ltb (first + count) (length uses) && is_none u) (taken (first + count) ∙ not_yet)
    ∙ free count h)
  where
    test : (leb first (first + count) && ltb (first + count) (first + count)) ≡ false
    test = grind (arith, nat_tests)

    not_yet : use_after uses first count serial (first + count) ≡ use_in uses (first + count)
    not_yet = ap (λ (b : Bool). cond b (Some (fresh ((serial + (first + count)) - first))) (use_in uses (first + count))) test

pub length_taken : (uses : List (Option Use)) (frame serial : ℕ) → length (set uses frame (Some (fresh serial))) ≡ length uses
length_taken uses frame serial = length-set uses frame (Some (fresh serial))

-- a frame with a use is in use
pub used_frame : (uses : List (Option Use)) (frame : ℕ) (usage : Use) → use_in uses frame ≡ Some usage → (frame < length uses) × (free_in uses frame ≡ false)
used_frame uses frame usage e = (within (cases_lt frame (length uses)), ap (λ (u : Option Use). ltb frame (length uses) && is_none u) e ∙ and_false (ltb frame (length uses)))
  where
    and_false : (b : Bool) → (b && false) ≡ false
    and_false true = refl
    and_false false = refl

    within : ((frame < length uses) ⊎ (length uses ≤ frame)) → frame < length uses
    within (inl h) = h
    within (inr h) =
        let none : None ≡ Some usage = sym (get_or_past uses frame None h) ∙ e in
        absurd cc

-- so is a live folio's
pub live_frame : (uses : List (Option Use)) (frame : ℕ) (Such : Use → Type 0) → IsSomeAnd (use_in uses frame) Such → (frame < length uses) × (free_in uses frame ≡ false)
live_frame uses frame Such h = at (use_in uses frame) refl h
  where
    at : (u : Option Use) → use_in uses frame ≡ u → IsSomeAnd u Such → (frame < length uses) × (free_in uses frame ≡ false)
    at None e h = absurd h
    at (Some usage) e h = used_frame uses frame usage e
