-- A first use adds what the rule of lives says.
use Rattle.std.proofs.Common.{◌≡◌, ℕ, ◌+◌, ◌-◌, ◌<◌, ◌≤◌, Bool, true, false, Option, Some, None, arith, refl, sym, subst, ◌∙◌, cond, inl, inr}
use Rattle.gm_base.specs.declared.numbers.TheConstants.{BLOCK_PAGES}
use Rattle.gm_base.specs.declared.values.Folio.{Folio}
use Rattle.gm_file.specs.Views.{FileView}
use Rattle.gm_flat.specs.FlatState.{Flat, cached, file_by_number}
use Rattle.gm_flat.specs.RightLives.{HoldsBlock, IsFreeBlock, TakesBlock, first_of_run}
use Rattle.gm_store.proofs.Filing.{within_file}
use Rattle.gm_store.specs.Added.{AddedBlock, AddedOne, FirstUsed}
use Rattle.gm_store.specs.Opened.{IsOpenBlock}
use Rattle.gm_store.specs.Stored.{FileKept, StoreStands, Stored}
use Rattle.gm_store.specs.Views.{StoreView, file_in, first_room, page_room, pages_in}

-- nothing else is taken
no_more : (a i : ℕ) → a ≡ a + (i - i)
no_more a i = omega arith

pub one_first : (n file index : ℕ) (folio : Folio) (st : StoreView) (k : Stored) → AddedOne n file index folio (λ w. 0) st k → (TakesBlock n file index k.flat → ⊥) → FirstUsed n file index (record { first = folio; own = folio; index = index; pages = 1 }) st k
one_first n file index folio st k a no_block = record { adds = inr (a.adds, no_block); serial_is = a.serial_is; own_serial = no_more folio.serial index; own_frame = no_more folio.frame index; stands = a.stands }

holds_block : (x : Option FileView) (file first : ℕ) (f : Flat) → FileKept x file f → IsOpenBlock x first → HoldsBlock (first + BLOCK_PAGES) (file_by_number file f.files)
holds_block None file first f k o = absurd o.block
holds_block (Some x) file first f k o = subst (HoldsBlock (first + 512)) (sym k.state) (o.block, o.inside)

-- a block that is open is taken where one of frames is free
pub takes_block : (n : ℕ) (st : StoreView) (k : Stored) (file index frame : ℕ) → StoreStands n st k → IsOpenBlock (file_in st.files file) (first_of_run index) → IsFreeBlock n frame k.flat.folios → TakesBlock n file index k.flat
takes_block n st k file index frame s o b = record {
  in_file = holds_block (file_in st.files file) file (first_of_run index) k.flat (s.files.each file) o;
  none_cached = λ j lt. sym ((s.files.each file).cached_are (first_of_run index + j)) ∙ o.open_here j lt;
  has_frames = (frame, b);
}

pub block_first : (n : ℕ) (st next : StoreView) (k : Stored) (file index first count : ℕ) (folio : Folio) → StoreStands n st k → first ≡ first_of_run index → count ≡ BLOCK_PAGES → IsOpenBlock (file_in st.files file) first → AddedBlock n file first count folio next k → FirstUsed n file index (record { first = folio; own = record { serial = folio.serial + (index - first); frame = folio.frame + (index - first) }; index = first; pages = count }) next k
block_first n st next k file index first count folio s fe ce o a = record {
  adds = inl (record { pages = ce; index_is = fe; frame = a.lowest; takes = takes_block n st k file index folio.frame s (subst (IsOpenBlock (file_in st.files file)) fe o) a.lowest.block });
  serial_is = a.serial_is;
  own_serial = refl;
  own_frame = refl;
  stands = a.stands;
}

open_from : (x : FileView) (file index : ℕ) (f : Flat) → FileKept (Some x) file f → HoldsBlock (first_of_run index + BLOCK_PAGES) (file_by_number file f.files) → ((j : ℕ) → j < BLOCK_PAGES → cached file (first_of_run index + j) f.cache ≡ None) → IsOpenBlock (Some x) (first_of_run index)
open_from x file index f k h none =
    let b = subst (HoldsBlock (first_of_run index + 512)) k.state h in
    record { block = b.0; inside = b.1; open_here = λ j lt. k.cached_are (first_of_run index + j) ∙ none j lt }

-- a block that isn't open isn't taken
pub not_open : (n : ℕ) (st : StoreView) (k : Stored) (file index : ℕ) → StoreStands n st k → index < pages_in (file_in st.files file) → (IsOpenBlock (file_in st.files file) (first_of_run index) → ⊥) → TakesBlock n file index k.flat → ⊥
not_open n st k file index s inside h t =
    let x = within_file index (file_in st.files file) inside in
    h (subst (λ (y : Option FileView). IsOpenBlock y (first_of_run index)) (sym x.1) (open_from x.0 file index k.flat (subst (λ (y : Option FileView). FileKept y file k.flat) x.1 (s.files.each file)) t.in_file t.none_cached))

pub not_free : (n : ℕ) (k : Stored) (file index : ℕ) → ((frame : ℕ) → IsFreeBlock n frame k.flat.folios → ⊥) → TakesBlock n file index k.flat → ⊥
not_free n k file index h t = h t.has_frames.0 t.has_frames.1

-- room
pub room_for_block : (x : Option FileView) (first : ℕ) → IsOpenBlock x first → first_room x ≤ page_room x → BLOCK_PAGES ≤ page_room x
room_for_block None first o le = absurd o.block
room_for_block (Some x) first o le = subst (λ (b : Bool). cond b 512 1 ≤ x.page_spare) o.block le

pub room_for_one : (x : Option FileView) → first_room x ≤ page_room x → 1 ≤ page_room x
room_for_one None le = le
room_for_one (Some x) le = go x.block le
  where
    go : (b : Bool) → cond b 512 1 ≤ x.page_spare → 1 ≤ x.page_spare
    go true h = omega arith
    go false h = h
