-- A store after a folio is added.
use Rattle.std.proofs.Common.{◌≡◌, ℕ, ◌+◌, ◌<◌, ◌&&◌, ltb, List, ◌∷◌, Bool, true, false, length, get_or, set, Option, Some, None, arith, refl, sym, subst, ◌∙◌, cond, eqb, inl, inr, add-zero}
use Rattle.std.specs.Prelude.{is_none}
use Rattle.std.proofs.lemmas.Bool.{both_ways, cases_Bool}
use Rattle.std.proofs.lemmas.Bool.Decides.{nat_tests}
use Rattle.gm_base.specs.declared.numbers.TheConstants.{PAGE_WORDS}
use Rattle.gm_base.specs.declared.values.Folio.{Folio}
use Rattle.gm_file.specs.Views.{FileView}
use Rattle.gm_flat.specs.Effects.{add}
use Rattle.gm_flat.specs.FlatState.{Flat, FolioState, Triple, cached, is_free}
use Rattle.gm_flat.specs.RightLives.{frame_of}
use Rattle.gm_flat.specs.RightLook.{IsFull}
use Rattle.gm_pool.specs.Pools.{Frames, fresh, is_free as frame_is_free, use_of}
use Rattle.gm_pool.specs.declared.uses.Use.{Use}
use Rattle.gm_store.proofs.Basics.{self, some_is}
use Rattle.gm_store.proofs.Caches.{has_cached}
use Rattle.gm_store.proofs.Filing.{page_put, with_new}
use Rattle.gm_store.proofs.Folios.{free_none, serial_below}
use Rattle.gm_store.proofs.Pooling.{pool_taken}
use Rattle.gm_store.proofs.Words.{words_added}
use Rattle.gm_store.specs.Added.{AddedOne, one_page}
use Rattle.gm_store.specs.Stored.{CacheStands, FilesStand, PoolStands, StoreStands, Stored, UseIs, has_triple, words_after}
use Rattle.gm_store.specs.Views.{StoreView, cached_in, file_in, pages_in, with_page}

-- a frame of the pool is free exactly where no live folio has it
pub free_is : {n : ℕ} {pool : Frames} {xs : List FolioState} {marked : ℕ → Bool} {holds : ℕ → ℕ} (frame : ℕ) → PoolStands n pool xs marked holds → frame < n → frame_is_free pool frame ≡ is_free frame xs
free_is {n = n} {pool = pool} {xs = xs} {marked = marked} {holds = holds} frame p lt = go (use_of pool frame) (p.uses_are frame)
  where
    within : ltb frame (length pool.uses) ≡ true
    within = plain frame (length pool.uses) (subst (λ (m : ℕ). frame < m) (sym p.count_is) lt)
      where
        plain : (a b : ℕ) → a < b → ltb a b ≡ true
        plain a b h = grind (arith, nat_tests)

    used : (s : ℕ) → frame_of s xs ≡ Some frame → false ≡ is_free frame xs
    used s e = elim (cases_Bool (is_free frame xs)) [ inl f ↦ absurd (free_none s frame xs f e) | inr f ↦ sym f ]

    go : (o : Option Use) → UseIs o frame xs marked holds → (ltb frame (length pool.uses) && is_none o) ≡ is_free frame xs
    go None i = rw within (sym i)
    go (Some u) i = rw within (used u.serial i.frame_is)

pub no_use : (pool : Frames) (frame : ℕ) → frame_is_free pool frame ≡ true → (frame < length pool.uses) × (use_of pool frame ≡ None)
no_use pool frame e = go (use_of pool frame) (ltb frame (length pool.uses)) refl refl e
  where
    plain : (a b : ℕ) → ltb a b ≡ true → a < b
    plain a b h = grind (arith, nat_tests)

    go : (o : Option Use) (t : Bool) → use_of pool frame ≡ o → ltb frame (length pool.uses) ≡ t → (t && is_none o) ≡ true → (frame < length pool.uses) × (use_of pool frame ≡ None)
    go None true u l h = (plain frame (length pool.uses) l, u)
    go (Some x) true u l h = absurd (both_ways false refl h)
    go o false u l h = absurd (both_ways false refl h)

-- no frame is free
pub full_is : {n : ℕ} {pool : Frames} {xs : List FolioState} {marked : ℕ → Bool} {holds : ℕ → ℕ} → PoolStands n pool xs marked holds → ((frame : ℕ) → frame_is_free pool frame ≡ false) → IsFull n xs
full_is p h = λ frame lt. sym (free_is frame p lt) ∙ h frame

-- what is added is cached
pub cache_added : {cache : List Triple} {xs : List FolioState} {n : ℕ} {pool : Frames} {marked : ℕ → Bool} {holds : ℕ → ℕ} (file index : ℕ) (folio : Folio) → CacheStands cache xs → PoolStands n pool xs marked holds → cached file index cache ≡ None → folio.serial ≡ length xs → CacheStands (record { file = file; index = index; folio = folio } ∷ cache) (record { folio = folio; live = true } ∷ xs)
cache_added {cache = cache} {xs = xs} file index folio c p none is = record {
  apart = (none, new_serial, c.apart);
  live = λ f i fo e. go f i fo (eqb file f && eqb index i) e;
}
  where
    apart : (s : ℕ) → s < length xs → eqb folio.serial s ≡ false
    apart s lt = plain folio.serial s (length xs) is lt
      where
        plain : (a s k : ℕ) → a ≡ k → s < k → eqb a s ≡ false
        plain a s k e h = grind (arith, nat_tests)

    new_serial : has_triple folio.serial cache ≡ false
    new_serial = elim (cases_Bool (has_triple folio.serial cache)) [
      | inl e ↦
          let x = has_cached folio.serial cache c.apart e in
          absurd (both_ways (eqb folio.serial folio.serial) (subst (λ (s : ℕ). eqb folio.serial s ≡ false) x.4 (apart x.2.serial (serial_below x.2.serial x.2.frame xs p.numbered (c.live x.0 x.1 x.2 x.3)))) (self folio.serial))
      | inr e ↦ e
    ]

    go : (f i : ℕ) (fo : Folio) (t : Bool) → cond t (Some folio) (cached f i cache) ≡ Some fo → frame_of fo.serial (record { folio = folio; live = true } ∷ xs) ≡ Some fo.frame
    go f i fo true e = subst (λ (x : Folio). frame_of x.serial (record { folio = folio; live = true } ∷ xs) ≡ Some x.frame) (some_is folio fo e) (let a : eqb folio.serial folio.serial ≡ true = self folio.serial in rw a refl)
    go f i fo false e =
        let old : frame_of fo.serial xs ≡ Some fo.frame = c.live f i fo e in
        let a : eqb folio.serial fo.serial ≡ false = apart fo.serial (serial_below fo.serial fo.frame xs p.numbered old) in
        rw a old

-- what a call does that adds one folio
pub record Takes (st next : StoreView) (file index : ℕ) (folio : Folio) (page : List ℕ) : Type 0 where
  pub open_here : cached_in index (file_in st.files file) ≡ None
  pub inside : index < pages_in (file_in st.files file)
  pub free : frame_is_free st.pool folio.frame ≡ true
  pub serial_is : folio.serial ≡ st.pool.next
  pub uses_are : next.pool.uses ≡ set st.pool.uses folio.frame (Some (fresh folio.serial))
  pub next_is : next.pool.next ≡ st.pool.next + 1
  pub files_are : next.files ≡ set st.files file (with_page (file_in st.files file) index folio)
  pub bank_is : next.bank ≡ set st.bank folio.frame page
  pub whole : length page ≡ PAGE_WORDS

abbrev pub new_words : Folio → (ℕ → ℕ) → Stored → ℕ → ℕ → ℕ
new_words folio now k = words_after folio.serial 1 now k.words

pub taken_stands : (n : ℕ) (st next : StoreView) (file index : ℕ) (folio : Folio) (page : List ℕ) (now : ℕ → ℕ) (k : Stored) → Takes st next file index folio page → ((w : ℕ) → w < PAGE_WORDS → get_or page w 0 ≡ now w) → StoreStands n st k → StoreStands n next (record { flat = with_new file index folio k.flat; holds = k.holds; words = new_words folio now k })
taken_stands n st next file index folio page now k t page_is s =
    let free = no_use st.pool folio.frame t.free in
    let lt : folio.frame < n = subst (λ (m : ℕ). folio.frame < m) s.pool.count_is free.0 in
    let is_free : is_free folio.frame k.flat.folios ≡ true = sym (free_is folio.frame s.pool lt) ∙ t.free in
    record {
      files = subst (λ (fs : List (Option FileView)). FilesStand fs (with_new file index folio k.flat)) (sym t.files_are) (page_put st.files file index folio k.flat t.inside s.files);
      pool = pool_taken next.pool folio.serial folio.frame s.pool lt free.1 t.serial_is t.uses_are t.next_is;
      cache = cache_added file index folio s.cache s.pool (sym ((s.files.each file).cached_are index) ∙ t.open_here) (t.serial_is ∙ s.pool.next_is);
      words = words_added next.bank folio.serial folio.frame page now s.words lt (λ j. free_none j folio.frame k.flat.folios is_free) t.whole page_is t.bank_is;
    }

-- the same by the definition
pub add_is : (file index : ℕ) (folio : Folio) (f : Flat) → with_new file index folio f ≡ add (Some (one_page file index folio)) f
add_is file index folio f = rw (add-zero, add-zero, add-zero) refl

pub one_added : (n : ℕ) (st next : StoreView) (file index : ℕ) (folio : Folio) (page : List ℕ) (now : ℕ → ℕ) (k : Stored) → Takes st next file index folio page → ((frame : ℕ) → frame < folio.frame → frame_is_free st.pool frame ≡ false) → ((w : ℕ) → w < PAGE_WORDS → get_or page w 0 ≡ now w) → StoreStands n st k → AddedOne n file index folio now next k
one_added n st next file index folio page now k t lowest page_is s =
    let free = no_use st.pool folio.frame t.free in
    let lt : folio.frame < n = subst (λ (m : ℕ). folio.frame < m) s.pool.count_is free.0 in
    record {
      adds = record {
        pages = refl;
        index_is = refl;
        frame = record { below = lt; free = sym (free_is folio.frame s.pool lt) ∙ t.free; lowest = λ other h. sym (free_is other s.pool (less other folio.frame n h lt)) ∙ lowest other h };
      };
      serial_is = t.serial_is ∙ s.pool.next_is;
      stands = subst (λ (g : Flat). StoreStands n next (record { flat = g; holds = k.holds; words = new_words folio now k })) (add_is file index folio k.flat) (taken_stands n st next file index folio page now k t page_is s);
    }
  where
    less : (a b c : ℕ) → a < b → b < c → a < c
    less a b c h l = omega arith
