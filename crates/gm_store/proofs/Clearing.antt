-- A store after folios left the cache and those that nothing holds are freed.
use Rattle.std.proofs.Common.{◌≡◌, ℕ, ◌+◌, ◌<◌, ◌&&◌, ◌||◌, List, [], ◌∷◌, Bool, true, false, length, Option, Some, None, arith, refl, ap, sym, subst, ◌∙◌, cond, eqb, inl, inr, ◌⊎◌}
use Rattle.std.specs.Prelude.{IsSomeAnd}
use Rattle.std.proofs.lemmas.Bool.{both_ways, eqb-true, eq-eqb}
use Rattle.std.proofs.lemmas.Bool.Decides.{nat_tests}
use Rattle.std.proofs.lemmas.List.{length-set}
use Rattle.gm_base.specs.declared.values.Folio.{Folio}
use Rattle.gm_file.specs.Views.{FileView}
use Rattle.gm_flat.specs.Effects.{free_one}
use Rattle.gm_flat.specs.FlatState.{Flat, FolioState, Triple, cached}
use Rattle.gm_flat.specs.RightLives.{IsCached, frame_of}
use Rattle.gm_pool.specs.Pools.{Frames, is_idle, uncached, use_of, with_use}
use Rattle.gm_pool.specs.declared.uses.Use.{Use}
use Rattle.gm_radix.specs.Entries.{Rises}
use Rattle.gm_store.proofs.Basics.{self, some_is}
use Rattle.gm_store.proofs.Caches.{cached_has, has_cached}
use Rattle.gm_store.proofs.Folios.{frame_kept}
use Rattle.gm_store.proofs.Holds.{cache_freed, words_freed}
use Rattle.gm_store.proofs.Parting.{AllOut, Parted, all_due, due_of, has_serial, held_or_due, not_among}
use Rattle.gm_store.proofs.Pooling.{pool_freed, pool_same, pool_used, use_of_live}
use Rattle.gm_store.specs.Frees.{FreesDue, HasSerial, free_pairs, with_frees}
use Rattle.gm_store.specs.Left.{AllLive, NoneIn, is_unheld, left_by, left_one, unheld, use_left}
use Rattle.gm_store.specs.Stored.{CacheStands, FilesStand, PoolStands, StoreStands, Stored, WordsStand, has_triple}
use Rattle.gm_store.specs.Views.{StoreView}

pub left-length : (ps : List (ℕ × Folio)) (pool : Frames) → length (left_by ps pool).uses ≡ length pool.uses
left-length [] pool = refl
left-length (p ∷ ps) pool = left-length ps (left_one p.1 pool) ∙ length-set pool.uses p.1.frame (use_left (use_of pool p.1.frame))

-- folios that are marked as cached still, and are to leave: live, unmarked otherwise, and different
abbrev pub Leaving : (ℕ → Bool) → List FolioState → List (ℕ × Folio) → Type 0
Leaving other xs [] = Unit {0}
Leaving other xs (p ∷ ps) = (frame_of p.1.serial xs ≡ Some p.1.frame) × (other p.1.serial ≡ false) × (has_serial p.1.serial ps ≡ false) × Leaving other xs ps

-- they stay so after another is freed
leaving_freed : (other : ℕ → Bool) (xs : List FolioState) (serial : ℕ) (ps : List (ℕ × Folio)) → has_serial serial ps ≡ false → Leaving other xs ps → Leaving other (free_one serial xs) ps
leaving_freed other xs serial [] h l = tt
leaving_freed other xs serial (p ∷ ps) h l =
    let e = parts (eqb p.1.serial serial) (has_serial serial ps) h in
    (frame_kept serial p.1.serial xs (flip p.1.serial serial e.0) ∙ l.0, l.1, l.2, leaving_freed other xs serial ps e.1 l.3)
  where
    flip : (a b : ℕ) → eqb a b ≡ false → eqb b a ≡ false
    flip a b e = grind (arith, nat_tests)

    parts : (a b : Bool) → (a || b) ≡ false → (a ≡ false) × (b ≡ false)
    parts false b e = (refl, e)
    parts true b e = absurd (both_ways true e refl)

-- the pool after all left
pub record AllLeft (n : ℕ) (pool : Frames) (xs : List FolioState) (other : ℕ → Bool) (holds : ℕ → ℕ) (ps : List (ℕ × Folio)) : Type 0 where
  pub pairs : unheld ps pool ≡ due_of holds ps
  pub stands : PoolStands n (left_by ps pool) (free_pairs (due_of holds ps) xs) other holds

pub all_left : (n : ℕ) (pool : Frames) (xs : List FolioState) (other : ℕ → Bool) (holds : ℕ → ℕ) (ps : List (ℕ × Folio)) → PoolStands n pool xs (λ s. other s || has_serial s ps) holds → Leaving other xs ps → AllLeft n pool xs other holds ps
all_left n pool xs other holds [] p l = record { pairs = refl; stands = pool_same other holds p (λ s. or_none (other s)) (λ s. refl) }
  where
    or_none : (b : Bool) → (b || false) ≡ b
    or_none true = refl
    or_none false = refl
all_left n pool xs other holds (q ∷ qs) p l =
    let u = use_of_live q.1.serial q.1.frame p l.0 in
    go u.0 u.1 u.2 u.4 (λ pool2 xs2 a b. all_left n pool2 xs2 other holds qs a b) (eqb (holds q.1.serial) 0) refl
  where
    rest : (s : ℕ) → eqb q.1.serial s ≡ false → (other s || (eqb q.1.serial s || has_serial s qs)) ≡ (other s || has_serial s qs)
    rest s e = ap (λ (b : Bool). other s || (b || has_serial s qs)) e

    unmarked : false ≡ (other q.1.serial || has_serial q.1.serial qs)
    unmarked = sym (ap (λ (b : Bool). b || has_serial q.1.serial qs) l.1 ∙ l.2)

    idle : (u : Use) → u.serial ≡ q.1.serial → u.holds ≡ holds q.1.serial → is_idle (uncached u) ≡ eqb (holds q.1.serial) 0
    idle u s h = and_true (eqb u.holds 0) ∙ ap (λ (a : ℕ). eqb a 0) h
      where
        and_true : (b : Bool) → (b && true) ≡ b
        and_true true = refl
        and_true false = refl

    go : (u : Use) → use_of pool q.1.frame ≡ Some u → u.serial ≡ q.1.serial → u.holds ≡ holds q.1.serial → ((pool2 : Frames) (xs2 : List FolioState) → PoolStands n pool2 xs2 (λ s. other s || has_serial s qs) holds → Leaving other xs2 qs → AllLeft n pool2 xs2 other holds qs) → (b : Bool) → eqb (holds q.1.serial) 0 ≡ b → AllLeft n pool xs other holds (q ∷ qs)
    go u e s h ih true b =
        let i : is_idle (uncached u) ≡ true = idle u s h ∙ b in
        let next : left_one q.1 pool ≡ with_use pool q.1.frame None = ap (λ (o : Option Use). with_use pool q.1.frame (use_left o)) e ∙ ap (λ (c : Bool). with_use pool q.1.frame (cond c None (Some (uncached u)))) i in
        let r = ih (left_one q.1 pool) (free_one q.1.serial xs) (pool_freed (left_one q.1 pool) q.1.serial q.1.frame (λ j. other j || has_serial j qs) holds p l.0 next (eqb-true (holds q.1.serial) 0 b) rest (λ j ne. refl)) (leaving_freed other xs q.1.serial qs l.2 l.3) in
        record {
          pairs = ap (λ (c : Bool). cond c (q ∷ unheld qs (left_one q.1 pool)) (unheld qs (left_one q.1 pool))) (ap is_unheld e ∙ i) ∙ (ap (λ (ys : List (ℕ × Folio)). q ∷ ys) r.pairs ∙ sym (ap (λ (c : Bool). cond c (q ∷ due_of holds qs) (due_of holds qs)) b));
          stands = subst (λ (ys : List (ℕ × Folio)). PoolStands n (left_by qs (left_one q.1 pool)) (free_pairs ys xs) other holds) (sym (ap (λ (c : Bool). cond c (q ∷ due_of holds qs) (due_of holds qs)) b)) r.stands;
        }
    go u e s h ih false b =
        let i : is_idle (uncached u) ≡ false = idle u s h ∙ b in
        let next : left_one q.1 pool ≡ with_use pool q.1.frame (Some (uncached u)) = ap (λ (o : Option Use). with_use pool q.1.frame (use_left o)) e ∙ ap (λ (c : Bool). with_use pool q.1.frame (cond c None (Some (uncached u)))) i in
        let r = ih (left_one q.1 pool) xs (pool_used (left_one q.1 pool) (uncached u) q.1.frame (λ j. other j || has_serial j qs) holds p (ap (λ (j : ℕ). frame_of j xs) s ∙ l.0) next (unmarked ∙ ap (λ (j : ℕ). other j || has_serial j qs) (sym s)) (h ∙ ap holds (sym s)) (λ j ne. rest j (subst (λ (a : ℕ). eqb a j ≡ false) s ne)) (λ j ne. refl)) l.3 in
        record {
          pairs = ap (λ (c : Bool). cond c (q ∷ unheld qs (left_one q.1 pool)) (unheld qs (left_one q.1 pool))) (ap is_unheld e ∙ i) ∙ (r.pairs ∙ sym (ap (λ (c : Bool). cond c (q ∷ due_of holds qs) (due_of holds qs)) b));
          stands = subst (λ (ys : List (ℕ × Folio)). PoolStands n (left_by qs (left_one q.1 pool)) (free_pairs ys xs) other holds) (sym (ap (λ (c : Bool). cond c (q ∷ due_of holds qs) (due_of holds qs)) b)) r.stands;
        }

-- what is taken out is to leave
pub leaving : (lo limit : ℕ) (cache left : List Triple) (xs : List FolioState) (ps : List (ℕ × Folio)) → Rises lo limit ps → AllOut cache left xs ps → Leaving (λ s. has_triple s left) xs ps
leaving lo limit cache left xs [] r o = tt
leaving lo limit cache left xs (p ∷ ps) r o = (o.1, o.2, not_among p.1.serial p.0 (p.0 + 1) limit cache left xs ps o.0 (one p.0) r.1 o.3, leaving (p.0 + 1) limit cache left xs ps r.1 o.3)
  where
    one : (a : ℕ) → a < a + 1
    one a = omega arith

-- each is live and cached in the pool
pub all_live : {n : ℕ} {pool : Frames} {xs : List FolioState} {marked : ℕ → Bool} {holds : ℕ → ℕ} (other : ℕ → Bool) (ps : List (ℕ × Folio)) → PoolStands n pool xs marked holds → ((s : ℕ) → has_serial s ps ≡ true → marked s ≡ true) → Leaving other xs ps → AllLive pool ps
all_live other [] p m l = tt
all_live {pool = pool} {xs = xs} {marked = marked} other (q ∷ qs) p m l =
    let u = use_of_live q.1.serial q.1.frame p l.0 in (
      subst (λ (o : Option Use). IsSomeAnd o (λ usage. (usage.serial ≡ q.1.serial) × (usage.cached ≡ true))) (sym u.1) (u.2, u.3 ∙ m q.1.serial (first (eqb q.1.serial q.1.serial) (has_serial q.1.serial qs) (self q.1.serial))),
      none qs l.2 l.3,
      all_live other qs p (λ s h. m s (second (eqb q.1.serial s) (has_serial s qs) h)) l.3,
    )
  where
    first : (a b : Bool) → a ≡ true → (a || b) ≡ true
    first true b e = refl
    first false b e = absurd (both_ways false refl e)

    second : (a b : Bool) → b ≡ true → (a || b) ≡ true
    second true b e = refl
    second false b e = e

    parts : (a b : Bool) → (a || b) ≡ false → (a ≡ false) × (b ≡ false)
    parts false b e = (refl, e)
    parts true b e = absurd (both_ways true e refl)

    none : (rs : List (ℕ × Folio)) → has_serial q.1.serial rs ≡ false → Leaving other xs rs → NoneIn q.1.frame rs
    none [] h x = tt
    none (r ∷ rs) h x =
        let e = parts (eqb r.1.serial q.1.serial) (has_serial q.1.serial rs) h in
        (λ f. apart r f x.0 e.0, none rs e.1 x.3)
      where
        apart : (r : ℕ × Folio) → q.1.frame ≡ r.1.frame → frame_of r.1.serial xs ≡ Some r.1.frame → eqb r.1.serial q.1.serial ≡ false → ⊥
        apart r f at ne =
            let u = use_of_live q.1.serial q.1.frame p l.0 in
            let v = use_of_live r.1.serial r.1.frame p at in
            let same : v.0 ≡ u.0 = some_is v.0 u.0 (sym v.1 ∙ (ap (use_of pool) (sym f) ∙ u.1)) in
            both_ways (eqb r.1.serial q.1.serial) ne (eq-eqb r.1.serial q.1.serial (sym v.2 ∙ (ap (λ (w : Use). w.serial) same ∙ u.2)))

-- the cache and the words after folios that aren't cached are freed
cache_freed_all : (left : List Triple) (xs : List FolioState) (ps : List (ℕ × Folio)) → CacheStands left xs → ((s : ℕ) → has_serial s ps ≡ true → has_triple s left ≡ false) → CacheStands left (free_pairs ps xs)
cache_freed_all left xs [] c h = c
cache_freed_all left xs (p ∷ ps) c h = cache_freed_all left (free_one p.1.serial xs) ps (cache_freed p.1.serial c (h p.1.serial (first (eqb p.1.serial p.1.serial) (has_serial p.1.serial ps) (self p.1.serial)))) (λ s e. h s (second (eqb p.1.serial s) (has_serial s ps) e))
  where
    first : (a b : Bool) → a ≡ true → (a || b) ≡ true
    first true b e = refl
    first false b e = absurd (both_ways false refl e)

    second : (a b : Bool) → b ≡ true → (a || b) ≡ true
    second true b e = refl
    second false b e = e

words_freed_all : {n : ℕ} {bank : List (List ℕ)} {words : ℕ → ℕ → ℕ} (xs : List FolioState) (ps : List (ℕ × Folio)) → WordsStand n bank xs words → WordsStand n bank (free_pairs ps xs) words
words_freed_all xs [] w = w
words_freed_all xs (p ∷ ps) w = words_freed_all (free_one p.1.serial xs) ps (words_freed p.1.serial w)

due_has : (holds : ℕ → ℕ) (s : ℕ) (ps : List (ℕ × Folio)) → has_serial s (due_of holds ps) ≡ true → has_serial s ps ≡ true
due_has holds s [] e = e
due_has holds s (p ∷ ps) e = go (eqb (holds p.1.serial) 0) (eqb p.1.serial s) (due_has holds s ps) e
  where
    go : (b c : Bool) → (has_serial s (due_of holds ps) ≡ true → has_serial s ps ≡ true) → has_serial s (cond b (p ∷ due_of holds ps) (due_of holds ps)) ≡ true → (eqb p.1.serial s || has_serial s ps) ≡ true
    go true c ih h = here (eqb p.1.serial s) ih h
      where
        here : (a : Bool) → (has_serial s (due_of holds ps) ≡ true → has_serial s ps ≡ true) → (a || has_serial s (due_of holds ps)) ≡ true → (a || has_serial s ps) ≡ true
        here true ih h = refl
        here false ih h = ih h
    go false c ih h = there (eqb p.1.serial s) (ih h)
      where
        there : (a : Bool) → has_serial s ps ≡ true → (a || has_serial s ps) ≡ true
        there true h = refl
        there false h = h

out_has : (cache left : List Triple) (xs : List FolioState) (s : ℕ) (ps : List (ℕ × Folio)) → AllOut cache left xs ps → has_serial s ps ≡ true → has_triple s left ≡ false
out_has cache left xs s [] o e = absurd (both_ways false refl e)
out_has cache left xs s (p ∷ ps) o e = go (eqb p.1.serial s) refl (out_has cache left xs s ps o.3) e
  where
    go : (b : Bool) → eqb p.1.serial s ≡ b → (has_serial s ps ≡ true → has_triple s left ≡ false) → (b || has_serial s ps) ≡ true → has_triple s left ≡ false
    go true b ih h = subst (λ (j : ℕ). has_triple j left ≡ false) (eqb-true p.1.serial s b) o.2
    go false b ih h = ih h

-- a store whose pool is to let the folios go
pub is_leaving : (n limit : ℕ) (st : StoreView) (k : Stored) (left : List Triple) (ps : List (ℕ × Folio)) → StoreStands n st k → Parted limit ps k.flat.cache left k.flat.folios → AllLive st.pool ps
is_leaving n limit st k left ps s p = all_live (λ j. has_triple j left) ps s.pool (λ j e. p.has j ∙ second (has_triple j left) (has_serial j ps) e) (leaving 0 limit k.flat.cache left k.flat.folios ps p.rises p.out)
  where
    second : (a b : Bool) → b ≡ true → (a || b) ≡ true
    second true b e = refl
    second false b e = e

-- and what is due then
pub clears : (n limit : ℕ) (st : StoreView) (files : List (Option FileView)) (k : Stored) (g : Flat) (ps : List (ℕ × Folio)) → StoreStands n st k → Parted limit ps k.flat.cache g.cache k.flat.folios → g.folios ≡ k.flat.folios → FilesStand files g → FreesDue n k (record k { flat = g }) (unheld ps st.pool) (record st { files = files; pool = left_by ps st.pool })
clears n limit st files k g ps s p e fs = subst (λ (ys : List (ℕ × Folio)). FreesDue n k (record k { flat = g }) ys (record st { files = files; pool = left_by ps st.pool })) (sym all.pairs) whole
  where
    marks : (s : ℕ) → has_triple s k.flat.cache ≡ (has_triple s g.cache || has_serial s ps)
    marks = p.has

    all : AllLeft n st.pool k.flat.folios (λ j. has_triple j g.cache) k.holds ps
    all = all_left n st.pool k.flat.folios (λ j. has_triple j g.cache) k.holds ps (pool_same (λ j. has_triple j g.cache || has_serial j ps) k.holds s.pool p.has (λ j. refl)) (leaving 0 limit k.flat.cache g.cache k.flat.folios ps p.rises p.out)

    live : (f i : ℕ) (fo : Folio) → cached f i g.cache ≡ Some fo → frame_of fo.serial k.flat.folios ≡ Some fo.frame
    live f i fo h = s.cache.live f i fo (p.stays f i fo h)

    cover : (j : ℕ) → (b c : Bool) → has_triple j g.cache ≡ b → has_serial j ps ≡ c → (b || c) ≡ true → IsCached j g ⊎ ((0 < k.holds j) ⊎ HasSerial j (due_of k.holds ps))
    cover j true c x y h = inl (has_cached j g.cache p.apart x)
    cover j false true x y h = inr (held_or_due k.holds j ps y)
    cover j false false x y h = absurd (both_ways false refl h)

    plain : (j : ℕ) → IsCached j k.flat → (has_triple j g.cache || has_serial j ps) ≡ true
    plain j x = sym (p.has j) ∙ subst (λ (i : ℕ). has_triple i k.flat.cache ≡ true) x.4 (cached_has x.0 x.1 x.2 k.flat.cache x.3)

    cleared : StoreStands n (record st { files = files; pool = left_by ps st.pool }) (with_frees (due_of k.holds ps) (record k { flat = g }))
    cleared = record {
      files = record { count_is = fs.count_is; each = λ file. let a = fs.each file in record { state = a.state; cached_are = a.cached_are; bound_are = a.bound_are; have_indexes = a.have_indexes; rises = a.rises; small = a.small } };
      pool = subst (λ (xs : List FolioState). PoolStands n (left_by ps st.pool) (free_pairs (due_of k.holds ps) xs) (λ j. has_triple j g.cache) k.holds) (sym e) all.stands;
      cache = subst (λ (xs : List FolioState). CacheStands g.cache (free_pairs (due_of k.holds ps) xs)) (sym e) (cache_freed_all g.cache k.flat.folios (due_of k.holds ps) (record { apart = p.apart; live = live }) (λ j h. out_has k.flat.cache g.cache k.flat.folios j ps p.out (due_has k.holds j ps h)));
      words = subst (λ (xs : List FolioState). WordsStand n st.bank (free_pairs (due_of k.holds ps) xs) k.words) (sym e) (words_freed_all k.flat.folios (due_of k.holds ps) s.words);
    }

    whole : FreesDue n k (record k { flat = g }) (due_of k.holds ps) (record st { files = files; pool = left_by ps st.pool })
    whole = record {
      due = all_due k.flat.cache g.cache (record k { flat = g }) 0 limit ps refl p.rises (subst (λ (xs : List FolioState). AllOut k.flat.cache g.cache xs ps) (sym e) p.out);
      covered = λ j x. cover j (has_triple j g.cache) (has_serial j ps) refl refl (plain j x);
      stands = cleared;
    }
