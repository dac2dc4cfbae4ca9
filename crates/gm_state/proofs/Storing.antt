-- The state after its store has changed.
use Rattle.std.proofs.Common.{◌≡◌, ℕ, ◌+◌, ◌-◌, ◌<◌, ◌≤◌, arith, inl, inr, zero, suc, List, [], ◌∷◌, Bool, true, false, Option, Some, None, cond, eqb, subst, sym, refl, ◌∙◌, ap}
use Rattle.std.proofs.lemmas.Bool.{both_ways}
use Rattle.std.proofs.lemmas.Bool.Decides.{nat_tests}
use Rattle.gm_attr.specs.Kinds.{Tells}
use Rattle.gm_base.specs.declared.values.Folio.{Folio}
use Rattle.gm_base.specs.declared.values.Setup.{Setup}
use Rattle.gm_file.specs.Views.{FileView}
use Rattle.gm_flat.specs.Effects.{Addition, with_folios}
use Rattle.gm_flat.specs.FlatState.{Flat, FileState, FolioState, added, file_by_number, in_use, is_live}
use Rattle.gm_flat.specs.RightLives.{UsesFirst, frame_of}
use Rattle.gm_laws.specs.SlotsStand.{AllOf}
use Rattle.gm_pool.specs.Pools.{IsLive, use_of}
use Rattle.gm_pool.specs.declared.uses.Use.{Use}
use Rattle.gm_store.proofs.Folios.{unadded}
use Rattle.gm_store.specs.Added.{FirstUsed, addition_of}
use Rattle.gm_store.specs.declared.first_use.Used.{Used}
use Rattle.gm_state.specs.Holding.{FirstHeld}
use Rattle.gm_store.specs.Frees.{hold_dropped}
use Rattle.gm_store.specs.Stored.{HasUse, IsState, StoreStands, Stored, UseIs, has_triple, held_more, with_addition}
use Rattle.gm_store.specs.Views.{StoreView}
use Rattle.std.specs.Prelude.{IsSomeAnd}
use Rattle.gm_state.specs.Stand.{IsBounded, Memory, StateIs}
use Rattle.gm_state.specs.Tracking.{BlocksStand}
use Rattle.gm_state.specs.Views.{StateView}

-- a file that is seen is in use
seen_used : (file : ℕ) (x : FileState) (files : List FileState) → file_by_number file files ≡ Some x → in_use file files ≡ x.used
seen_used file x [] e = absurd (cc)
seen_used file x (y ∷ ys) e = go (eqb y.number file) e (seen_used file x ys)
  where
    go : (t : Bool) → cond t (Some y) (file_by_number file ys) ≡ Some x → (file_by_number file ys ≡ Some x → in_use file ys ≡ x.used) → cond t y.used (in_use file ys) ≡ x.used
    go true e ih = let p : y ≡ x = cc in ap (λ (z : FileState). z.used) p
    go false e ih = ih e

pub some_used : (v : FileView) (file : ℕ) (f : Flat) → IsState (Some v) file f.files → in_use file f.files ≡ true
some_used v file f e = seen_used file _ f.files e

-- a live folio of the history is one of the pool
pub pool_live : (frames : ℕ) (st : StoreView) (k : Stored) (folio : Folio) (Such : Use → Type 0) → StoreStands frames st k → frame_of folio.serial k.flat.folios ≡ Some folio.frame → ((u : Use) → u.holds ≡ k.holds folio.serial → Such u) → IsLive st.pool folio Such
pool_live frames st k folio Such s e such = go (use_of st.pool folio.frame) (s.pool.uses_are folio.frame) (s.pool.has_use folio.serial folio.frame e)
  where
    go : (o : Option Use) → UseIs o folio.frame k.flat.folios (λ serial. has_triple serial k.flat.cache) k.holds → HasUse folio.serial o → IsSomeAnd o (λ usage. (usage.serial ≡ folio.serial) × Such usage)
    go None i h = absurd h
    go (Some u) i h = (h, such u (i.holds_are ∙ ap k.holds h))

-- another store, that stands for the same slots and attributes
pub with_store : (s : Setup) (st : StateView) (next : StoreView) (m : Memory) (k : Stored) → k.flat.slots ≡ m.stored.flat.slots → k.flat.attrs ≡ m.stored.flat.attrs → StoreStands s.frames next k → StateIs s st m → StateIs s (record st { store = next }) (record m { stored = k })
with_store s st next m k e a t i = record {
  slots_are = i.slots_are ∙ sym e;
  attrs_are = subst (Tells st.attrs) (sym a) i.attrs_are;
  user = i.user;
  store = t;
  bounded = subst (AllOf (IsBounded s.user)) (sym e) i.bounded;
  blocks = subst (BlocksStand s.huge st.huge st.attrs) (sym e) i.blocks;
}

pub held_state : (s : Setup) (st : StateView) (next : StoreView) (m : Memory) (serial : ℕ) → StoreStands s.frames next (held_more serial m.stored) → StateIs s st m → StateIs s (record st { store = next }) (record m { stored = held_more serial m.stored })
held_state s st next m serial t i = with_store s st next m (held_more serial m.stored) refl refl t i

-- after a hold that ended, by whether the folio was freed
pub dropped_state : (s : Setup) (st : StateView) (next : StoreView) (m : Memory) (serial : ℕ) (t u : Bool) → t ≡ u → StoreStands s.frames next (hold_dropped t serial m.stored) → StateIs s st m → StateIs s (record st { store = next }) (record m { stored = hold_dropped u serial m.stored })
dropped_state s st next m serial true true e h i = with_store s st next m (hold_dropped true serial m.stored) refl refl h i
dropped_state s st next m serial false false e h i = with_store s st next m (hold_dropped false serial m.stored) refl refl h i
dropped_state s st next m serial true false e h i = absurd (cc)
dropped_state s st next m serial false true e h i = absurd (cc)

-- the folio of a first use is live, and nobody holds it

frame_run : (n k s0 r0 : ℕ) (xs : List FolioState) → k < n → frame_of (s0 + k) (with_folios n s0 r0 xs) ≡ Some (r0 + k)
frame_run zero k s0 r0 xs h = absurd (omega arith)
frame_run (suc j) k s0 r0 xs h = go (eqb (s0 + j) (s0 + k)) refl (λ lt. frame_run j k s0 r0 xs lt)
  where
    same : (s0 j k : ℕ) → eqb (s0 + j) (s0 + k) ≡ true → j ≡ k
    same s0 j k e = grind (arith, nat_tests)

    less : (s0 j k : ℕ) → eqb (s0 + j) (s0 + k) ≡ false → k < suc j → k < j
    less s0 j k e h = grind (arith, nat_tests)

    go : (t : Bool) → eqb (s0 + j) (s0 + k) ≡ t → (k < j → frame_of (s0 + k) (with_folios j s0 r0 xs) ≡ Some (r0 + k)) → cond t (Some (r0 + j)) (frame_of (s0 + k) (with_folios j s0 r0 xs)) ≡ Some (r0 + k)
    go true e ih = ap (λ (x : ℕ). Some (r0 + x)) (same s0 j k e)
    go false e ih = ih (less s0 j k e h)

in_run : (frames index : ℕ) (d : Addition) (f : Flat) → UsesFirst frames index d f → index - d.index < d.pages
in_run frames index d f (inl b) = let p = b.pages in let i = b.index_is in omega arith
in_run frames index d f (inr o) = let p = o.0.pages in let i = o.0.index_is in omega arith

none_holds : (frames : ℕ) (st : StoreView) (k : Stored) (serial : ℕ) → StoreStands frames st k → added k.flat ≤ serial → k.holds serial ≡ 0
none_holds frames st k serial s le = by_count (k.holds serial) (λ some. both_ways (is_live serial k.flat.folios) (unadded serial k.flat.folios s.pool.numbered le) (s.pool.held_live serial some))
  where
    by_count : (n : ℕ) → (0 < n → ⊥) → n ≡ 0
    by_count zero h = refl
    by_count (suc n) h = absurd (h (omega arith))

pub own_live : (frames file index : ℕ) (u : Used) (st next : StoreView) (k : Stored) → StoreStands frames st k → FirstUsed frames file index u next k → IsLive next.pool u.own (λ usage. usage.holds < 4294967295)
own_live frames file index u st next k s f =
    let d : Addition = addition_of file u in
    let run = frame_run u.pages (index - u.index) u.first.serial u.first.frame k.flat.folios (in_run frames index d k.flat f.adds) in
    let frame : frame_of u.own.serial (with_folios u.pages u.first.serial u.first.frame k.flat.folios) ≡ Some u.own.frame =
    ap (λ (n : ℕ). frame_of n (with_folios u.pages u.first.serial u.first.frame k.flat.folios)) f.own_serial ∙ (run ∙ ap (λ (n : ℕ). Some n) (sym f.own_frame)) in
    let none : k.holds u.own.serial ≡ 0 = none_holds frames st k u.own.serial s (above (added k.flat) u.first.serial u.own.serial (index - u.index) f.serial_is f.own_serial) in
    pool_live frames next (with_addition d (λ word. 0) k) u.own (λ usage. usage.holds < 4294967295) f.stands frame (λ x e. few x.holds (k.holds u.own.serial) e none)
  where
    above : (n a b c : ℕ) → a ≡ n → b ≡ a + c → n ≤ b
    above n a b c e g = omega arith

    few : (x h : ℕ) → x ≡ h → h ≡ 0 → x < 4294967295
    few x h e z = omega arith

pub first_state : (s : Setup) (file index : ℕ) (u : Used) (st : StateView) (used last : StoreView) (m : Memory) → FirstUsed s.frames file index u used m.stored → StoreStands s.frames last (held_more u.own.serial (with_addition (addition_of file u) (λ word. 0) m.stored)) → StateIs s st m → FirstHeld s file index u (record st { store = last }) m
first_state s file index u st used last m f h i = record {
  adds = f.adds;
  serial_is = f.serial_is;
  own_serial = f.own_serial;
  own_frame = f.own_frame;
  is = with_store s st last m (held_more u.own.serial (with_addition (addition_of file u) (λ word. 0) m.stored)) refl refl h i;
}
