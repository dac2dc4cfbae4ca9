-- More room in a part of the state.
use Rattle.std.proofs.Common.{◌≡◌, ℕ, ◌≤◌, List, length, Option, Some, None, arith, refl, ◌∙◌, ap, sym, subst}
use Rattle.gm_attr.specs.Kinds.{AttrsView, Tells}
use Rattle.gm_file.specs.Views.{FileView, FolioList}
use Rattle.gm_radix.proofs.Counts.{count_within-inside}
use Rattle.gm_radix.specs.Entries.{count_within}
use Rattle.gm_store.specs.Rooms.{RoomKept, RoomsKept, with_room}
use Rattle.gm_store.specs.Stored.{RisesIn, Stored, StoreStands}
use Rattle.gm_store.specs.Views.{StoreView, bind_room, file_in, page_room}
use Rattle.gm_state.proofs.Tracked.{blocks_same}
use Rattle.gm_state.specs.HasMoreRoom.{StateHasMoreRoom}
use Rattle.gm_state.specs.Views.{StateView}

same_room : (x : Option FileView) → x ≡ with_room (page_room x) (bind_room x) x
same_room None = refl
same_room (Some x) = refl

room_again : (a b c d : ℕ) (x : Option FileView) → with_room a b (with_room c d x) ≡ with_room a b x
room_again a b c d None = refl
room_again a b c d (Some x) = refl

pub same_rooms : (xs : List (Option FileView)) → RoomsKept xs xs
same_rooms xs = record {
  count_is = refl;
  each = λ file. record { file_is = same_room (file_in xs file); pages_not_less = omega arith; binds_not_less = omega arith };
}

room_over : (x y z : Option FileView) → RoomKept x y → RoomKept y z → RoomKept x z
room_over x y z h g =
    let p = h.pages_not_less in
    let q = g.pages_not_less in
    let b = h.binds_not_less in
    let d = g.binds_not_less in
    record {
      file_is = g.file_is ∙ (ap (with_room (page_room z) (bind_room z)) h.file_is ∙ room_again (page_room z) (bind_room z) (page_room y) (bind_room y) x);
      pages_not_less = omega arith;
      binds_not_less = omega arith;
    }

rooms_over : (xs ys zs : List (Option FileView)) → RoomsKept xs ys → RoomsKept ys zs → RoomsKept xs zs
rooms_over xs ys zs h g = record {
  count_is = g.count_is ∙ h.count_is;
  each = λ file. room_over (file_in xs file) (file_in ys file) (file_in zs file) (h.each file) (g.each file);
}

pub same_state : (st : StateView) → StateHasMoreRoom st st
same_state st = record {
  others = refl;
  attrs_are = refl;
  store_is = refl;
  freed_is = refl;
  calls = omega arith;
  blocks = omega arith;
  files = omega arith;
  rooms = same_rooms st.store.files;
  freed = omega arith;
  stands = λ s m h. h;
}

-- one step after another
pub more_over : (x y z : StateView) → StateHasMoreRoom x y → StateHasMoreRoom y z → StateHasMoreRoom x z
more_over x y z h g =
    let a = h.calls in
    let b = g.calls in
    let c = h.files in
    let d = g.files in
    let e = h.freed in
    let f = g.freed in
    let i = h.blocks in
    let j = g.blocks in
    record {
      others = g.others ∙ ap (λ (w : StateView). record w { attrs = z.attrs; store = z.store; freed = z.freed }) h.others;
      attrs_are = g.attrs_are ∙ ap (λ (w : AttrsView). record w { call_spare = z.attrs.call_spare; block_spare = z.attrs.block_spare }) h.attrs_are;
      store_is = g.store_is ∙ ap (λ (w : StoreView). record w { files = z.store.files; spare = z.store.spare }) h.store_is;
      freed_is = g.freed_is ∙ ap (λ (w : FolioList). record w { room = z.freed.room }) h.freed_is;
      calls = omega arith;
      blocks = omega arith;
      files = omega arith;
      rooms = rooms_over x.store.files y.store.files z.store.files h.rooms g.rooms;
      freed = omega arith;
      stands = λ s m k. g.stands s m (h.stands s m k);
    }

pub attrs_more : (st : StateView) (a : AttrsView) → a ≡ record st.attrs { call_spare = a.call_spare; block_spare = a.block_spare } → st.attrs.call_spare ≤ a.call_spare → st.attrs.block_spare ≤ a.block_spare → StateHasMoreRoom st (record st { attrs = a })
attrs_more st a same le more = record {
  others = refl;
  attrs_are = same;
  store_is = refl;
  freed_is = refl;
  calls = le;
  blocks = more;
  files = omega arith;
  rooms = same_rooms st.store.files;
  freed = omega arith;
  stands = λ s m h. record {
    slots_are = h.slots_are;
    attrs_are = subst (λ (x : AttrsView). Tells x m.stored.flat.attrs) (sym same) h.attrs_are;
    user = h.user;
    store = h.store;
    bounded = h.bounded;
    blocks = blocks_same s.huge st.huge st.attrs a m.stored.flat.slots m.stored.flat.slots (ap (λ (x : AttrsView). x.tracked) same) (λ block. refl) h.blocks;
  };
}

pub store_more : (st : StateView) (x : StoreView) → x ≡ record st.store { files = x.files; spare = x.spare } → RoomsKept st.store.files x.files → st.store.spare ≤ x.spare → ((frames : ℕ) (k : Stored) → StoreStands frames st.store k → StoreStands frames x k) → StateHasMoreRoom st (record st { store = x })
store_more st x same rooms le stands = record {
  others = refl;
  attrs_are = refl;
  store_is = same;
  freed_is = refl;
  calls = omega arith;
  blocks = omega arith;
  files = le;
  rooms = rooms;
  freed = omega arith;
  stands = λ s m h. record { slots_are = h.slots_are; attrs_are = h.attrs_are; user = h.user; store = stands s.frames m.stored h.store; bounded = h.bounded; blocks = h.blocks };
}

pub freed_more : (st : StateView) (f : FolioList) → f ≡ record st.freed { room = f.room } → st.freed.room ≤ f.room → StateHasMoreRoom st (record st { freed = f })
freed_more st f same le = record {
  others = refl;
  attrs_are = refl;
  store_is = refl;
  freed_is = same;
  calls = omega arith;
  blocks = omega arith;
  files = omega arith;
  rooms = same_rooms st.store.files;
  freed = le;
  stands = λ s m h. record { slots_are = h.slots_are; attrs_are = h.attrs_are; user = h.user; store = h.store; bounded = h.bounded; blocks = h.blocks };
}

-- all that is cached of a file is counted
pub all_counted : (x : FileView) → RisesIn (Some x) → count_within 0 x.pages x.cached ≡ length x.cached
all_counted x h = count_within-inside 0 x.pages 0 x.pages x.cached h (omega arith) (omega arith)
