-- A store after a block is added.
use Rattle.std.proofs.Common.{◌≡◌, ℕ, ◌+◌, ◌-◌, ◌*◌, ◌/◌, ◌%◌, ◌<◌, ◌≤◌, ◌&&◌, leb, ltb, List, Bool, true, false, length, get_or, set, zero, suc, Option, Some, None, arith, refl, ap, sym, subst, ◌∙◌, cond, eqb, inl, inr, add-zero, lit<}
use Rattle.std.proofs.lemmas.Bool.{cases_Bool, eqb-true}
use Rattle.std.proofs.lemmas.Bool.Decides.{nat_tests}
use Rattle.std.proofs.lemmas.List.{length-set, set-get_or, set-set}
use Rattle.gm_base.specs.declared.numbers.TheConstants.{BLOCK_PAGES}
use Rattle.gm_base.specs.declared.values.Folio.{Folio}
use Rattle.gm_file.specs.Views.{FileView}
use Rattle.gm_flat.specs.Effects.{add}
use Rattle.gm_flat.specs.FlatState.{FolioState}
use Rattle.gm_flat.specs.RightLives.{IsFreeBlock, IsLowestBlock}
use Rattle.gm_pool.specs.Pools.{Frames, FreeBlock, fresh, is_free as frame_is_free, use_after, use_in, use_of}
use Rattle.gm_pool.specs.declared.uses.Use.{Use}
use Rattle.gm_words.proofs.Tables.{get_or-alike, length-alike}
use Rattle.gm_words.specs.Banks.{zero_page}
use Rattle.gm_store.proofs.Basics.{set_else, set_here}
use Rattle.gm_store.proofs.Blocks.{cached_later, file_below, pages_same}
use Rattle.gm_store.proofs.Taking.{Takes, free_is, no_use, taken_stands}
use Rattle.gm_store.proofs.Telling.{stored_as}
use Rattle.gm_store.specs.Added.{AddedBlock, run_of}
use Rattle.gm_store.specs.Stored.{HasUse, PoolStands, StoreStands, Stored, UseIs, with_addition, words_after}
use Rattle.gm_store.specs.Views.{StoreView, cached_in, file_in, pages_in, with_page, with_pages, with_zeros}

abbrev pub pool_run : ℕ → Frames → Folio → Frames
pool_run zero pool folio = pool
pool_run (suc j) pool folio = record { uses = set (pool_run j pool folio).uses (folio.frame + j) (Some (fresh (folio.serial + j))); next = (pool_run j pool folio).next + 1 }

abbrev pub view_run : ℕ → StoreView → ℕ → ℕ → Folio → StoreView
view_run j st file first folio = record { files = set st.files file (with_pages j (file_in st.files file) first folio); spare = st.spare; pool = pool_run j st.pool folio; bank = with_zeros j folio.frame st.bank }

abbrev pub words_run : ℕ → Folio → (ℕ → ℕ → ℕ) → ℕ → ℕ → ℕ
words_run zero folio words = words
words_run (suc j) folio words = words_after (folio.serial + j) 1 (λ w. 0) (words_run j folio words)

abbrev pub stored_run : ℕ → ℕ → ℕ → Folio → Stored → Stored
stored_run j file first folio k = record { flat = add (Some (run_of file first j folio)) k.flat; holds = k.holds; words = words_run j folio k.words }

next_run : (j : ℕ) (pool : Frames) (folio : Folio) → (pool_run j pool folio).next ≡ pool.next + j
next_run zero pool folio = sym (add-zero pool.next)
next_run (suc j) pool folio = more (pool_run j pool folio).next pool.next j (next_run j pool folio)
  where
    more : (a b j : ℕ) → a ≡ b + j → a + 1 ≡ b + suc j
    more a b j e = omega arith

length_run : (j : ℕ) (pool : Frames) (folio : Folio) → length (pool_run j pool folio).uses ≡ length pool.uses
length_run zero pool folio = refl
length_run (suc j) pool folio = length-set (pool_run j pool folio).uses (folio.frame + j) (Some (fresh (folio.serial + j))) ∙ length_run j pool folio

-- a frame's use so far
use_run : (j i : ℕ) (pool : Frames) (folio : Folio) → folio.frame + j ≤ length pool.uses → use_of (pool_run j pool folio) i ≡ use_after pool.uses folio.frame j folio.serial i
use_run zero i pool folio le = let e : (leb folio.frame i && ltb i (folio.frame + 0)) ≡ false = none folio.frame i in rw e refl
  where
    none : (a i : ℕ) → (leb a i && ltb i (a + 0)) ≡ false
    none a i = grind (arith, nat_tests)
use_run (suc j) i pool folio le = go (eqb (folio.frame + j) i) refl (use_run j i pool folio (less folio.frame j (length pool.uses) le))
  where
    less : (a j n : ℕ) → a + suc j ≤ n → a + j ≤ n
    less a j n h = omega arith

    within : (a j n m : ℕ) → a + suc j ≤ n → m ≡ n → a + j < m
    within a j n m h e = omega arith

    hit : (a j i : ℕ) → eqb (a + j) i ≡ true → (leb a i && ltb i (a + suc j)) ≡ true
    hit a j i e = grind (arith, nat_tests)

    number : (s a j i : ℕ) → eqb (a + j) i ≡ true → (s + i) - a ≡ s + j
    number s a j i e = grind (arith, nat_tests)

    miss : (a j i : ℕ) → eqb (a + j) i ≡ false → (leb a i && ltb i (a + suc j)) ≡ (leb a i && ltb i (a + j))
    miss a j i e = elim (cases_Bool (leb a i && ltb i (a + j))) [ inl y ↦ wide a j i y ∙ sym y | inr y ↦ narrow a j i e y ∙ sym y ]
      where
        wide : (a j i : ℕ) → (leb a i && ltb i (a + j)) ≡ true → (leb a i && ltb i (a + suc j)) ≡ true
        wide a j i y = grind (arith, nat_tests)

        narrow : (a j i : ℕ) → eqb (a + j) i ≡ false → (leb a i && ltb i (a + j)) ≡ false → (leb a i && ltb i (a + suc j)) ≡ false
        narrow a j i e y = grind (arith, nat_tests)

    go : (t : Bool) → eqb (folio.frame + j) i ≡ t → use_of (pool_run j pool folio) i ≡ use_after pool.uses folio.frame j folio.serial i → get_or (set (pool_run j pool folio).uses (folio.frame + j) (Some (fresh (folio.serial + j)))) i None ≡ use_after pool.uses folio.frame (suc j) folio.serial i
    go true e ih =
        set_here (pool_run j pool folio).uses (folio.frame + j) i (Some (fresh (folio.serial + j))) None (within folio.frame j (length pool.uses) (length (pool_run j pool folio).uses) le (length_run j pool folio)) (eqb-true (folio.frame + j) i e)
        ∙ sym (ap (λ (b : Bool). cond b (Some (fresh ((folio.serial + i) - folio.frame))) (use_in pool.uses i)) (hit folio.frame j i e) ∙ ap (λ (s : ℕ). Some (fresh s)) (number folio.serial folio.frame j i e))
    go false e ih =
        set_else (pool_run j pool folio).uses (folio.frame + j) i (Some (fresh (folio.serial + j))) None e
        ∙ (ih ∙ sym (ap (λ (b : Bool). cond b (Some (fresh ((folio.serial + i) - folio.frame))) (use_in pool.uses i)) (miss folio.frame j i e)))

words_same : (j : ℕ) (folio : Folio) (words : ℕ → ℕ → ℕ) (s w : ℕ) → words_run j folio words s w ≡ words_after folio.serial j (λ x. 0) words s w
words_same zero folio words s w = let e : (leb folio.serial s && ltb s (folio.serial + 0)) ≡ false = none folio.serial s in rw e refl
  where
    none : (a i : ℕ) → (leb a i && ltb i (a + 0)) ≡ false
    none a i = grind (arith, nat_tests)
words_same (suc j) folio words s w = ap (λ (v : ℕ). cond (leb (folio.serial + j) s && ltb s ((folio.serial + j) + 1)) 0 v) (words_same j folio words s w) ∙ go (leb (folio.serial + j) s && ltb s ((folio.serial + j) + 1)) refl
  where
    hit : (a j s : ℕ) → (leb (a + j) s && ltb s ((a + j) + 1)) ≡ true → (leb a s && ltb s (a + suc j)) ≡ true
    hit a j s e = grind (arith, nat_tests)

    miss : (a j s : ℕ) → (leb (a + j) s && ltb s ((a + j) + 1)) ≡ false → (leb a s && ltb s (a + suc j)) ≡ (leb a s && ltb s (a + j))
    miss a j s e = elim (cases_Bool (leb a s && ltb s (a + j))) [ inl y ↦ wide a j s y ∙ sym y | inr y ↦ narrow a j s e y ∙ sym y ]
      where
        wide : (a j i : ℕ) → (leb a i && ltb i (a + j)) ≡ true → (leb a i && ltb i (a + suc j)) ≡ true
        wide a j i y = grind (arith, nat_tests)

        narrow : (a j i : ℕ) → (leb (a + j) i && ltb i ((a + j) + 1)) ≡ false → (leb a i && ltb i (a + j)) ≡ false → (leb a i && ltb i (a + suc j)) ≡ false
        narrow a j i e y = grind (arith, nat_tests)

    go : (t : Bool) → (leb (folio.serial + j) s && ltb s ((folio.serial + j) + 1)) ≡ t → cond t 0 (words_after folio.serial j (λ x. 0) words s w) ≡ words_after folio.serial (suc j) (λ x. 0) words s w
    go true e = sym (ap (λ (b : Bool). cond b 0 (words s w)) (hit folio.serial j s e))
    go false e = sym (ap (λ (b : Bool). cond b 0 (words s w)) (miss folio.serial j s e))

-- what a call does that adds a run
pub record TakesRun (st : StoreView) (file first count : ℕ) (folio : Folio) : Type 0 where
  pub open_here : (j : ℕ) → j < count → cached_in (first + j) (file_in st.files file) ≡ None
  pub inside : first + count ≤ pages_in (file_in st.files file)
  pub free : (j : ℕ) → j < count → frame_is_free st.pool (folio.frame + j) ≡ true
  pub below : folio.frame + count ≤ length st.pool.uses
  pub serial_is : folio.serial ≡ st.pool.next

pub run_stands : (n : ℕ) (st : StoreView) (file first count : ℕ) (folio : Folio) (k : Stored) → TakesRun st file first count folio → StoreStands n st k → (j : ℕ) → j ≤ count → StoreStands n (view_run j st file first folio) (stored_run j file first folio k)
run_stands n st file first count folio k t s zero le = subst (λ (fs : List (Option FileView)). StoreStands n (record st { files = fs }) k) (sym (set-get_or st.files file None)) s
run_stands n st file first count folio k t s (suc j) le = taken_stands n (view_run j st file first folio) (view_run (suc j) st file first folio) file (first + j) (record { serial = folio.serial + j; frame = folio.frame + j }) zero_page (λ w. 0) (stored_run j file first folio k) takes (λ w lt. get_or-alike 512 0 w 0 lt) (run_stands n st file first count folio k t s j (less j count le))
  where
    less : (j c : ℕ) → suc j ≤ c → j ≤ c
    less j c h = omega arith

    lt : j < count
    lt = omega arith

    in_file : first + j < pages_in (file_in st.files file)
    in_file = plain first count j (pages_in (file_in st.files file)) le t.inside
      where
        plain : (a c j p : ℕ) → suc j ≤ c → a + c ≤ p → a + j < p
        plain a c j p h l = omega arith

    here : file_in (view_run j st file first folio).files file ≡ with_pages j (file_in st.files file) first folio
    here = set_here st.files file file (with_pages j (file_in st.files file) first folio) None (file_below st.files file (first + j) in_file) refl

    same : (a : ℕ) → a ≤ a
    same a = omega arith

    use_free : frame_is_free (pool_run j st.pool folio) (folio.frame + j) ≡ true
    use_free =
        let f = no_use st.pool (folio.frame + j) (t.free j lt) in
        let u : use_of (pool_run j st.pool folio) (folio.frame + j) ≡ None = use_run j (folio.frame + j) st.pool folio (plain folio.frame j count (length st.pool.uses) le t.below) ∙ (ap (λ (b : Bool). cond b (Some (fresh ((folio.serial + (folio.frame + j)) - folio.frame))) (use_in st.pool.uses (folio.frame + j))) (out folio.frame j) ∙ f.1) in
        let l : ltb (folio.frame + j) (length (pool_run j st.pool folio).uses) ≡ true = test (folio.frame + j) (length st.pool.uses) (length (pool_run j st.pool folio).uses) f.0 (length_run j st.pool folio) in
        rw (l, u) refl
      where
        plain : (a j c n : ℕ) → suc j ≤ c → a + c ≤ n → a + j ≤ n
        plain a j c n h l = omega arith

        out : (a j : ℕ) → (leb a (a + j) && ltb (a + j) (a + j)) ≡ false
        out a j = grind (arith, nat_tests)

        test : (a n m : ℕ) → a < n → m ≡ n → ltb a m ≡ true
        test a n m h e = grind (arith, nat_tests)

    takes : Takes (view_run j st file first folio) (view_run (suc j) st file first folio) file (first + j) (record { serial = folio.serial + j; frame = folio.frame + j }) zero_page
    takes = record {
      open_here = ap (cached_in (first + j)) here ∙ (cached_later j (file_in st.files file) first (first + j) folio (same (first + j)) ∙ t.open_here j lt);
      inside = subst (λ (p : ℕ). first + j < p) (sym (ap pages_in here ∙ pages_same j (file_in st.files file) first folio)) in_file;
      free = use_free;
      serial_is = ap (λ (a : ℕ). a + j) t.serial_is ∙ sym (next_run j st.pool folio);
      uses_are = refl;
      next_is = refl;
      files_are = sym (ap (λ (x : Option FileView). set (view_run j st file first folio).files file (with_page x (first + j) (record { serial = folio.serial + j; frame = folio.frame + j }))) here ∙ set-set st.files file (with_pages j (file_in st.files file) first folio) (with_pages (suc j) (file_in st.files file) first folio));
      bank_is = refl;
      whole = length-alike 512 0;
    }

-- a pool with the same uses
pool_as : {n : ℕ} {pool : Frames} {xs : List FolioState} {marked : ℕ → Bool} {holds : ℕ → ℕ} (next : Frames) → PoolStands n pool xs marked holds → length next.uses ≡ length pool.uses → next.next ≡ pool.next → ((i : ℕ) → use_of next i ≡ use_of pool i) → PoolStands n next xs marked holds
pool_as {xs = xs} {marked = marked} {holds = holds} next p len more same = record {
  count_is = len ∙ p.count_is;
  next_is = more ∙ p.next_is;
  numbered = p.numbered;
  uses_are = λ i. subst (λ (o : Option Use). UseIs o i xs marked holds) (sym (same i)) (p.uses_are i);
  has_use = λ s r e. subst (HasUse s) (sym (same r)) (p.has_use s r e);
  held_live = p.held_live;
}

-- what the pool tells of the block that it gave
pub record GivesBlock (pool next : Frames) (folio : Folio) (count : ℕ) : Type 0 where
  pub aligned : (block : ℕ) × (folio.frame ≡ BLOCK_PAGES * block) × ((other : ℕ) → other < block → FreeBlock pool.uses (BLOCK_PAGES * other) → ⊥)
  pub free : FreeBlock pool.uses folio.frame
  pub serial_is : folio.serial ≡ pool.next
  pub uses_are : (frame : ℕ) → use_of next frame ≡ use_after pool.uses folio.frame count folio.serial frame
  pub len : length next.uses ≡ length pool.uses
  pub more : next.next ≡ pool.next + count

-- a free block of the state is one of the pool's
pub block_free : {n : ℕ} {pool : Frames} {xs : List FolioState} {marked : ℕ → Bool} {holds : ℕ → ℕ} (frame : ℕ) → PoolStands n pool xs marked holds → IsFreeBlock n frame xs → FreeBlock pool.uses (512 * (frame / 512))
block_free {n = n} {pool = pool} frame p b = λ j lt. subst (λ (a : ℕ). frame_is_free pool (a + j) ≡ true) (multiple frame b.aligned) (free_is (frame + j) p (less frame j n lt b.below) ∙ b.free j lt)
  where
    multiple : (a : ℕ) → a % 512 ≡ 0 → a ≡ 512 * (a / 512)
    multiple a h = omega arith

    less : (a j n : ℕ) → j < 512 → a + 512 ≤ n → a + j < n
    less a j n h l = omega arith

pub no_block : {n : ℕ} {pool : Frames} {xs : List FolioState} {marked : ℕ → Bool} {holds : ℕ → ℕ} → PoolStands n pool xs marked holds → ((block : ℕ) → FreeBlock pool.uses (BLOCK_PAGES * block) → ⊥) → (frame : ℕ) → IsFreeBlock n frame xs → ⊥
no_block p h frame b = h (frame / 512) (block_free frame p b)

pub lowest_block : {n : ℕ} {pool : Frames} {xs : List FolioState} {marked : ℕ → Bool} {holds : ℕ → ℕ} (next : Frames) (folio : Folio) (count : ℕ) → PoolStands n pool xs marked holds → GivesBlock pool next folio count → IsLowestBlock n folio.frame xs
lowest_block {n = n} {pool = pool} {xs = xs} next folio count p g = record {
  block = record { aligned = multiple folio.frame g.aligned.0 g.aligned.1; below = last; free = λ j lt. sym (free_is (folio.frame + j) p (less folio.frame j n lt last)) ∙ g.free j lt };
  lowest = λ other lt b. g.aligned.2 (other / 512) (quotient other folio.frame g.aligned.0 lt g.aligned.1) (block_free other p b);
}
  where
    multiple : (a b : ℕ) → a ≡ 512 * b → a % 512 ≡ 0
    multiple a b e = omega arith

    quotient : (o a b : ℕ) → o < a → a ≡ 512 * b → o / 512 < b
    quotient o a b h e = omega arith

    less : (a j n : ℕ) → j < 512 → a + 512 ≤ n → a + j < n
    less a j n h l = omega arith

    last : folio.frame + 512 ≤ n
    last = plain folio.frame (length pool.uses) n (no_use pool (folio.frame + 511) (g.free 511 (lit< tt))).0 p.count_is
      where
        plain : (a m n : ℕ) → a + 511 < m → m ≡ n → a + 512 ≤ n
        plain a m n h e = omega arith

pub block_added : (n : ℕ) (st : StoreView) (next : Frames) (files : List (Option FileView)) (bank : List (List ℕ)) (file first count : ℕ) (folio : Folio) (k : Stored) → TakesRun st file first count folio → GivesBlock st.pool next folio count → files ≡ set st.files file (with_pages count (file_in st.files file) first folio) → bank ≡ with_zeros count folio.frame st.bank → StoreStands n st k → AddedBlock n file first count folio (record st { files = files; pool = next; bank = bank }) k
block_added n st next files bank file first count folio k t g fe be s = record {
  lowest = lowest_block next folio count s.pool g;
  serial_is = g.serial_is ∙ s.pool.next_is;
  stands = subst (λ (fs : List (Option FileView)). StoreStands n (record st { files = fs; pool = next; bank = bank }) (with_addition (run_of file first count folio) (λ w. 0) k)) (sym fe)
      (subst (λ (b : List (List ℕ)). StoreStands n (record st { files = set st.files file (with_pages count (file_in st.files file) first folio); pool = next; bank = b }) (with_addition (run_of file first count folio) (λ w. 0) k)) (sym be)
      (stored_as n (record st { files = set st.files file (with_pages count (file_in st.files file) first folio); pool = next; bank = with_zeros count folio.frame st.bank }) (stored_run count file first folio k) k.holds (words_after folio.serial count (λ w. 0) k.words) own (λ j. refl) (λ j w lt. words_same count folio k.words j w)));
}
  where
    same : (a : ℕ) → a ≤ a
    same a = omega arith

    whole : StoreStands n (view_run count st file first folio) (stored_run count file first folio k)
    whole = run_stands n st file first count folio k t s count (same count)

    own : StoreStands n (record st { files = set st.files file (with_pages count (file_in st.files file) first folio); pool = next; bank = with_zeros count folio.frame st.bank }) (stored_run count file first folio k)
    own = record {
      files = whole.files;
      pool = pool_as next whole.pool (g.len ∙ sym (length_run count st.pool folio)) (g.more ∙ sym (next_run count st.pool folio)) (λ i. g.uses_are i ∙ sym (use_run count i st.pool folio t.below));
      cache = whole.cache;
      words = whole.words;
    }
