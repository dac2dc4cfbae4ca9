-- A list of folios that leave their cache, one at a time.
use Rattle.std.proofs.Common.{◌≡◌, ℕ, ◌+◌, ◌++◌, ◌<◌, ◌≤◌, List, [], ◌∷◌, Bool, true, false, length, get_or, set, take, drop, Option, Some, None, arith, refl, ap, sym, subst, ◌∙◌, cond, add-one, append_assoc, drop-cons}
use Rattle.std.specs.Prelude.{IfSome, IsSomeAnd}
use Rattle.std.specs.Bool.{MatchBool}
use Rattle.std.proofs.lemmas.List.{drop-set-lt, take_more_set, length-set}
use Rattle.gm_base.specs.declared.values.Folio.{Folio}
use Rattle.gm_pool.specs.Pools.{Frames, IsLive, Settles, is_idle, uncached, use_of, with_use}
use Rattle.gm_pool.specs.declared.uses.Freed.{Freed}
use Rattle.gm_pool.specs.declared.uses.Freed.TheVariants.{Now, Later}
use Rattle.gm_pool.specs.declared.uses.Use.{Use}
use Rattle.gm_store.proofs.Basics.{differ, set_else}
use Rattle.gm_store.specs.Left.{AllLive, NoneIn, is_unheld, left_by, left_one, unheld, use_left}

-- what one folio's leaving does, by what the pool tells
pub record LeavesOne (pool next : Frames) (folio : Folio) (freed : Freed) : Type 0 where
  pub pool_is : next ≡ left_one folio pool
  pub when_now : freed ≡ Now → is_unheld (use_of pool folio.frame) ≡ true
  pub when_later : freed ≡ Later → is_unheld (use_of pool folio.frame) ≡ false

pub leaves_one : (pool next : Frames) (folio : Folio) (freed : Freed) → IsLive pool folio (λ usage. usage.cached ≡ true) → IfSome (use_of pool folio.frame) (λ usage. Settles pool next folio.frame (uncached usage) freed) → LeavesOne pool next folio freed
leaves_one pool next folio freed live settles = go (use_of pool folio.frame) refl live settles
  where
    by_idle : (u : Use) (b : Bool) → is_idle (uncached u) ≡ b → use_of pool folio.frame ≡ Some u → MatchBool b ((freed ≡ Now) × (next ≡ with_use pool folio.frame None)) ((freed ≡ Later) × (next ≡ with_use pool folio.frame (Some (uncached u)))) → LeavesOne pool next folio freed
    by_idle u true i e m = record {
      pool_is = m.1 ∙ sym (ap (λ (o : Option Use). with_use pool folio.frame (use_left o)) e ∙ ap (λ (b : Bool). with_use pool folio.frame (cond b None (Some (uncached u)))) i);
      when_now = λ h. ap is_unheld e ∙ i;
      when_later = λ h. let a : freed ≡ Now = m.0 in absurd (cc);
    }
    by_idle u false i e m = record {
      pool_is = m.1 ∙ sym (ap (λ (o : Option Use). with_use pool folio.frame (use_left o)) e ∙ ap (λ (b : Bool). with_use pool folio.frame (cond b None (Some (uncached u)))) i);
      when_now = λ h. let a : freed ≡ Later = m.0 in absurd (cc);
      when_later = λ h. ap is_unheld e ∙ i;
    }

    go : (o : Option Use) → use_of pool folio.frame ≡ o → IsSomeAnd o (λ usage. (usage.serial ≡ folio.serial) × (usage.cached ≡ true)) → IfSome o (λ usage. Settles pool next folio.frame (uncached usage) freed) → LeavesOne pool next folio freed
    go None e live s = absurd live
    go (Some u) e live s = by_idle u (is_idle (uncached u)) refl e s

-- the others stay as they are
pub live_left : (pool : Frames) (folio : Folio) (ps : List (ℕ × Folio)) → NoneIn folio.frame ps → AllLive pool ps → AllLive (left_one folio pool) ps
live_left pool folio [] n a = tt
live_left pool folio (p ∷ ps) n a =
    let same : use_of (left_one folio pool) p.1.frame ≡ use_of pool p.1.frame = set_else pool.uses folio.frame p.1.frame (use_left (use_of pool folio.frame)) None (differ folio.frame p.1.frame n.0) in
    (subst (λ (o : Option Use). IsSomeAnd o (λ usage. (usage.serial ≡ p.1.serial) × (usage.cached ≡ true))) (sym same) a.0, a.1, live_left pool folio ps n.1 a.2)

-- what is so at place `at` of the list, where the first `kept` are those that are freed
pub record SoFar (list : List (ℕ × Folio)) (pool : Frames) (at kept : ℕ) (whole : List (ℕ × Folio)) (before : Frames) : Type 0 where
  pub small : kept ≤ at
  pub len : length list ≡ length whole
  pub pool_is : left_by (drop at list) pool ≡ left_by whole before
  pub list_is : take kept list ++ unheld (drop at list) pool ≡ unheld whole before
  pub live : AllLive pool (drop at list)

-- the rest of the list
rest_is : (list : List (ℕ × Folio)) (at : ℕ) (d : ℕ × Folio) → at < length list → drop at list ≡ get_or list at d ∷ drop (at + 1) list
rest_is list at d lt = rw add-one (drop-cons list at d lt)

-- one more
pub later : (list whole : List (ℕ × Folio)) (pool next before : Frames) (at kept : ℕ) (d : ℕ × Folio) (freed : Freed) → SoFar list pool at kept whole before → at < length list → IfSome (use_of pool (get_or list at d).1.frame) (λ usage. Settles pool next (get_or list at d).1.frame (uncached usage) freed) → freed ≡ Later → SoFar list next (at + 1) kept whole before
later list whole pool next before at kept d freed s lt settles is =
    let p : ℕ × Folio = get_or list at d in
    let live : AllLive pool (get_or list at d ∷ drop (at + 1) list) = subst (AllLive pool) (rest_is list at d lt) s.live in
    let one : LeavesOne pool next (get_or list at d).1 freed = leaves_one pool next (get_or list at d).1 freed live.0 settles in
    record {
      small = more s.small;
      len = s.len;
      pool_is = ap (left_by (drop (at + 1) list)) one.pool_is ∙ (sym (ap (λ (ps : List (ℕ × Folio)). left_by ps pool) (rest_is list at d lt)) ∙ s.pool_is);
      list_is = ap (λ (ps : List (ℕ × Folio)). take kept list ++ ps) (ap (unheld (drop (at + 1) list)) one.pool_is ∙ (sym (ap (λ (b : Bool). cond b (get_or list at d ∷ unheld (drop (at + 1) list) (left_one (get_or list at d).1 pool)) (unheld (drop (at + 1) list) (left_one (get_or list at d).1 pool))) (one.when_later is)) ∙ sym (ap (λ (ps : List (ℕ × Folio)). unheld ps pool) (rest_is list at d lt)))) ∙ s.list_is;
      live = subst (λ (q : Frames). AllLive q (drop (at + 1) list)) (sym one.pool_is) (live_left pool (get_or list at d).1 (drop (at + 1) list) live.1 live.2);
    }
  where
    more : kept ≤ at → kept ≤ at + 1
    more h = omega arith

pub now : (list whole : List (ℕ × Folio)) (pool next before : Frames) (at kept : ℕ) (d : ℕ × Folio) (freed : Freed) → SoFar list pool at kept whole before → at < length list → IfSome (use_of pool (get_or list at d).1.frame) (λ usage. Settles pool next (get_or list at d).1.frame (uncached usage) freed) → freed ≡ Now → SoFar (set list kept (get_or list at d)) next (at + 1) (kept + 1) whole before
now list whole pool next before at kept d freed s lt settles is =
    let live : AllLive pool (get_or list at d ∷ drop (at + 1) list) = subst (AllLive pool) (rest_is list at d lt) s.live in
    let one : LeavesOne pool next (get_or list at d).1 freed = leaves_one pool next (get_or list at d).1 freed live.0 settles in
    let same : drop (at + 1) (set list kept (get_or list at d)) ≡ drop (at + 1) list = drop-set-lt (at + 1) list kept (get_or list at d) (less s.small) in
    record {
      small = both s.small;
      len = length-set list kept (get_or list at d) ∙ s.len;
      pool_is = ap (λ (ps : List (ℕ × Folio)). left_by ps next) same ∙ (ap (left_by (drop (at + 1) list)) one.pool_is ∙ (sym (ap (λ (ps : List (ℕ × Folio)). left_by ps pool) (rest_is list at d lt)) ∙ s.pool_is));
      list_is =
          ap (λ (ps : List (ℕ × Folio)). take (kept + 1) (set list kept (get_or list at d)) ++ unheld ps next) same
          ∙ (ap (λ (ps : List (ℕ × Folio)). ps ++ unheld (drop (at + 1) list) next) (take_more_set list kept (get_or list at d) (within s.small lt))
          ∙ (append_assoc (take kept list) (get_or list at d ∷ []) (unheld (drop (at + 1) list) next)
          ∙ (ap (λ (ps : List (ℕ × Folio)). take kept list ++ ps) (ap (λ (q : Frames). get_or list at d ∷ unheld (drop (at + 1) list) q) one.pool_is ∙ (sym (ap (λ (b : Bool). cond b (get_or list at d ∷ unheld (drop (at + 1) list) (left_one (get_or list at d).1 pool)) (unheld (drop (at + 1) list) (left_one (get_or list at d).1 pool))) (one.when_now is)) ∙ sym (ap (λ (ps : List (ℕ × Folio)). unheld ps pool) (rest_is list at d lt)))) ∙ s.list_is)));
      live = subst (AllLive next) (sym same) (subst (λ (q : Frames). AllLive q (drop (at + 1) list)) (sym one.pool_is) (live_left pool (get_or list at d).1 (drop (at + 1) list) live.1 live.2));
    }
  where
    less : kept ≤ at → kept < at + 1
    less h = omega arith

    both : kept ≤ at → kept + 1 ≤ at + 1
    both h = omega arith

    within : kept ≤ at → at < length list → kept < length list
    within h l = omega arith
