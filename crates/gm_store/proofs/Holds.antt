-- A store after a hold, and after one ends.
use Rattle.std.proofs.Common.{◌≡◌, ℕ, ◌+◌, ◌-◌, ◌<◌, ◌&&◌, List, Bool, true, false, not, Option, Some, None, arith, refl, ap, sym, subst, ◌∙◌, cond, eqb, inl, inr}
use Rattle.std.specs.Prelude.{IsSomeAnd, IfSome, option_map}
use Rattle.std.specs.Bool.{MatchBool}
use Rattle.std.proofs.lemmas.Bool.{both_ways, cases_Bool, eqb-true, eq-eqb}
use Rattle.std.proofs.lemmas.Bool.Decides.{nat_tests}
use Rattle.gm_base.specs.declared.values.Folio.{Folio}
use Rattle.gm_flat.specs.Effects.{free_one}
use Rattle.gm_flat.specs.FlatState.{FolioState, Triple}
use Rattle.gm_flat.specs.RightLives.{frame_of}
use Rattle.gm_pool.specs.Pools.{Frames, IsLive, Settles, is_idle, one_less, one_more, use_of, with_use}
use Rattle.gm_pool.specs.declared.uses.Freed.{Freed}
use Rattle.gm_pool.specs.declared.uses.Freed.TheVariants.{Now, Later}
use Rattle.gm_pool.specs.declared.uses.Use.{Use}
use Rattle.gm_store.proofs.Basics.{self}
use Rattle.gm_store.proofs.Caches.{cached_has}
use Rattle.gm_store.proofs.Folios.{frame_gone, frame_kept}
use Rattle.gm_store.proofs.Pooling.{pool_freed, pool_used}
use Rattle.gm_store.specs.Frees.{hold_dropped, is_last_hold}
use Rattle.gm_store.specs.Stored.{CacheStands, PoolStands, StoreStands, Stored, UseIs, WordsStand, has_triple, held_more, held_less}
use Rattle.gm_store.specs.Views.{StoreView}

-- the use of a live folio of a pool
pub live_use : (Such : Use → Type 0) (pool : Frames) (folio : Folio) → IsLive pool folio Such → (u : Use) × (use_of pool folio.frame ≡ Some u) × (u.serial ≡ folio.serial) × Such u
live_use Such pool folio h = go (use_of pool folio.frame) refl h
  where
    go : (o : Option Use) → use_of pool folio.frame ≡ o → IsSomeAnd o (λ usage. (usage.serial ≡ folio.serial) × Such usage) → (u : Use) × (use_of pool folio.frame ≡ Some u) × (u.serial ≡ folio.serial) × Such u
    go None e x = absurd x
    go (Some u) e x = (u, e, x.0, x.1)

-- its frame
pub used_frame : {n : ℕ} {pool : Frames} {xs : List FolioState} {marked : ℕ → Bool} {holds : ℕ → ℕ} (frame : ℕ) (u : Use) → PoolStands n pool xs marked holds → use_of pool frame ≡ Some u → (frame_of u.serial xs ≡ Some frame) × (u.cached ≡ marked u.serial) × (u.holds ≡ holds u.serial)
used_frame {xs = xs} {marked = marked} {holds = holds} frame u p e = let i = subst (λ (o : Option Use). UseIs o frame xs marked holds) e (p.uses_are frame) in (i.frame_is, i.mark_is, i.holds_are)

pub held_stands : (Such : Use → Type 0) (n : ℕ) (st : StoreView) (next : Frames) (folio : Folio) (k : Stored) → IsLive st.pool folio Such → next ≡ with_use st.pool folio.frame (option_map one_more (use_of st.pool folio.frame)) → StoreStands n st k → StoreStands n (record st { pool = next }) (held_more folio.serial k)
held_stands Such n st next folio k live is s =
    let l = live_use Such st.pool folio live in
    let u = l.0 in
    let f = used_frame folio.frame u s.pool l.1 in
    record {
      files = s.files;
      pool = pool_used next (one_more u) folio.frame (λ j. has_triple j k.flat.cache) (held_more folio.serial k).holds s.pool f.0 (is ∙ ap (λ (o : Option Use). with_use st.pool folio.frame (option_map one_more o)) l.1) f.1 (more u l.2 f.2) (λ j e. refl) (λ j e. other u j l.2 e);
      cache = s.cache;
      words = s.words;
    }
  where
    more : (u : Use) → u.serial ≡ folio.serial → u.holds ≡ k.holds u.serial → u.holds + 1 ≡ cond (eqb u.serial folio.serial) (k.holds u.serial + 1) (k.holds u.serial)
    more u e h = let a : eqb u.serial folio.serial ≡ true = eq-eqb u.serial folio.serial e in rw a (ap (λ (x : ℕ). x + 1) h)

    other : (u : Use) (j : ℕ) → u.serial ≡ folio.serial → eqb u.serial j ≡ false → k.holds j ≡ cond (eqb j folio.serial) (k.holds j + 1) (k.holds j)
    other u j e ne = let a : eqb j folio.serial ≡ false = apart u.serial folio.serial j e ne in rw a refl
      where
        apart : (a b j : ℕ) → a ≡ b → eqb a j ≡ false → eqb j b ≡ false
        apart a b j e ne = grind (arith, nat_tests)

-- what holds after a folio that isn't cached is freed
pub cache_freed : {cache : List Triple} {xs : List FolioState} (serial : ℕ) → CacheStands cache xs → has_triple serial cache ≡ false → CacheStands cache (free_one serial xs)
cache_freed {cache = cache} {xs = xs} serial c h = record {
  apart = c.apart;
  live = λ file index fo e. frame_kept serial fo.serial xs (apart fo (cached_has file index fo cache e)) ∙ c.live file index fo e;
}
  where
    apart : (fo : Folio) → has_triple fo.serial cache ≡ true → eqb serial fo.serial ≡ false
    apart fo e = elim (cases_Bool (eqb serial fo.serial)) [ inl t ↦ absurd (both_ways (has_triple serial cache) h (subst (λ (j : ℕ). has_triple j cache ≡ true) (sym (eqb-true serial fo.serial t)) e)) | inr t ↦ t ]

-- a folio that is live after a free was so before, and is another one
pub left : (serial s r : ℕ) (xs : List FolioState) → frame_of s (free_one serial xs) ≡ Some r → frame_of s xs ≡ Some r
left serial s r xs e = elim (cases_Bool (eqb serial s)) [
  | inl t ↦ absurd (frame_gone serial r xs (subst (λ (j : ℕ). frame_of j (free_one serial xs) ≡ Some r) (sym (eqb-true serial s t)) e))
  | inr t ↦ sym (frame_kept serial s xs t) ∙ e
]

pub words_freed : {n : ℕ} {bank : List (List ℕ)} {xs : List FolioState} {words : ℕ → ℕ → ℕ} (serial : ℕ) → WordsStand n bank xs words → WordsStand n bank (free_one serial xs) words
words_freed {xs = xs} serial w = record { count_is = w.count_is; whole = w.whole; words_are = λ s r word e lt. w.words_are s r word (left serial s r xs e) lt }

-- whether the hold that ends is the last, and what the store stands for then
pub record HoldEnds (n : ℕ) (next : StoreView) (freed : Bool) (serial : ℕ) (k : Stored) : Type 0 where
  pub freed_is : freed ≡ is_last_hold serial k
  pub stands : StoreStands n next (hold_dropped freed serial k)

abbrev pub is_now : Freed → Bool
is_now Now = true
is_now Later = false

pub hold_ends : (n : ℕ) (st : StoreView) (next : Frames) (folio : Folio) (freed : Freed) (k : Stored) → IsLive st.pool folio (λ usage. 0 < usage.holds) → IfSome (use_of st.pool folio.frame) (λ usage. Settles st.pool next folio.frame (one_less usage) freed) → StoreStands n st k → HoldEnds n (record st { pool = next }) (is_now freed) folio.serial k
hold_ends n st next folio freed k live settles s =
    let l = live_use (λ usage. 0 < usage.holds) st.pool folio live in
    let f = used_frame folio.frame l.0 s.pool l.1 in
    go l.0 l.1 l.2 l.3 f.0 f.1 f.2 (is_idle (one_less l.0)) refl freed (subst (λ (o : Option Use). IfSome o (λ usage. Settles st.pool next folio.frame (one_less usage) freed)) l.1 settles)
  where
    idle_is : (u : Use) (b : Bool) → is_idle (one_less u) ≡ b → 0 < u.holds → u.serial ≡ folio.serial → u.cached ≡ has_triple u.serial k.flat.cache → u.holds ≡ k.holds u.serial → b ≡ is_last_hold folio.serial k
    idle_is u b e some is mark held =
        sym e ∙ (ap (λ (h : ℕ). eqb h 0 && not u.cached) refl ∙ (tests u.holds u.cached some ∙ (ap (λ (h : ℕ). eqb h 1 && not u.cached) (held ∙ ap k.holds is) ∙ ap (λ (c : Bool). eqb (k.holds folio.serial) 1 && not c) (mark ∙ ap (λ (j : ℕ). has_triple j k.flat.cache) is))))
      where
        tests : (h : ℕ) (c : Bool) → 0 < h → (eqb (h - 1) 0 && not c) ≡ (eqb h 1 && not c)
        tests h c lt = ap (λ (b : Bool). b && not c) (plain h lt)
          where
            plain : (h : ℕ) → 0 < h → eqb (h - 1) 0 ≡ eqb h 1
            plain h lt = grind (arith, nat_tests)

    less : (u : Use) → u.serial ≡ folio.serial → u.holds ≡ k.holds u.serial → u.holds - 1 ≡ (held_less folio.serial k).holds u.serial
    less u e h = let a : eqb u.serial folio.serial ≡ true = eq-eqb u.serial folio.serial e in rw a (ap (λ (x : ℕ). x - 1) h)

    other : (a j : ℕ) → a ≡ folio.serial → eqb a j ≡ false → k.holds j ≡ (held_less folio.serial k).holds j
    other a j e ne = let t : eqb j folio.serial ≡ false = apart a folio.serial j e ne in rw t refl
      where
        apart : (a b j : ℕ) → a ≡ b → eqb a j ≡ false → eqb j b ≡ false
        apart a b j e ne = grind (arith, nat_tests)

    none_left : is_last_hold folio.serial k ≡ true → (held_less folio.serial k).holds folio.serial ≡ 0
    none_left e = let a : eqb folio.serial folio.serial ≡ true = self folio.serial in rw a (plain (k.holds folio.serial) (not (has_triple folio.serial k.flat.cache)) e)
      where
        plain : (h : ℕ) (b : Bool) → (eqb h 1 && b) ≡ true → h - 1 ≡ 0
        plain h true e = grind (arith, nat_tests)
        plain h false e = grind (arith, nat_tests)

    uncached : is_last_hold folio.serial k ≡ true → has_triple folio.serial k.flat.cache ≡ false
    uncached e = plain (eqb (k.holds folio.serial) 1) (has_triple folio.serial k.flat.cache) e
      where
        plain : (a b : Bool) → (a && not b) ≡ true → b ≡ false
        plain a false e = refl
        plain true true e = absurd (both_ways false refl e)
        plain false true e = absurd (both_ways false refl e)

    go : (u : Use) → use_of st.pool folio.frame ≡ Some u → u.serial ≡ folio.serial → 0 < u.holds → frame_of u.serial k.flat.folios ≡ Some folio.frame → u.cached ≡ has_triple u.serial k.flat.cache → u.holds ≡ k.holds u.serial → (b : Bool) → is_idle (one_less u) ≡ b → (x : Freed) → MatchBool b ((x ≡ Now) × (next ≡ with_use st.pool folio.frame None)) ((x ≡ Later) × (next ≡ with_use st.pool folio.frame (Some (one_less u)))) → HoldEnds n (record st { pool = next }) (is_now x) folio.serial k
    go u e is some at mark held true i x m =
        let last : true ≡ is_last_hold folio.serial k = idle_is u true i some is mark held in
        subst (λ (y : Freed). HoldEnds n (record st { pool = next }) (is_now y) folio.serial k) (sym m.0) (record {
          freed_is = last;
          stands = record {
            files = record { count_is = s.files.count_is; each = λ file. let a = s.files.each file in record { state = a.state; cached_are = a.cached_are; bound_are = a.bound_are; have_indexes = a.have_indexes; rises = a.rises; small = a.small } };
            pool = pool_freed next folio.serial folio.frame (λ j. has_triple j k.flat.cache) (held_less folio.serial k).holds s.pool (subst (λ (j : ℕ). frame_of j k.flat.folios ≡ Some folio.frame) is at) m.1 (none_left (sym last)) (λ j ne. refl) (λ j ne. other folio.serial j refl ne);
            cache = cache_freed folio.serial s.cache (uncached (sym last));
            words = words_freed folio.serial s.words;
          };
        })
    go u e is some at mark held false i x m =
        let last : false ≡ is_last_hold folio.serial k = idle_is u false i some is mark held in
        subst (λ (y : Freed). HoldEnds n (record st { pool = next }) (is_now y) folio.serial k) (sym m.0) (record {
          freed_is = last;
          stands = record {
            files = s.files;
            pool = pool_used next (one_less u) folio.frame (λ j. has_triple j k.flat.cache) (held_less folio.serial k).holds s.pool at m.1 mark (less u is held) (λ j ne. refl) (λ j ne. other u.serial j is ne);
            cache = s.cache;
            words = s.words;
          };
        })
