-- What each effect makes of the state.
use Rattle.std.proofs.Common.{◌≡◌, ℕ, ◌+◌, ◌*◌, ◌/◌, ◌%◌, ◌<◌, ◌≤◌, ◌&&◌, ◌||◌, not, List, [], ◌∷◌, Bool, true, false, length, get_or, set, Option, Some, None, arith, refl, ◌∙◌, ap, sym, subst, cond, eqb, leb, inl, inr}
use Rattle.std.specs.Prelude.{IfSome, IsSome}
use Rattle.std.proofs.lemmas.Bool.{both_ways, cases_Bool, cond-true, cond-false, eqb-true, eqb-false, eq-eqb}
use Rattle.std.proofs.lemmas.Bool.Decides.{nat_tests}
use Rattle.std.proofs.lemmas.List.{get_or-set_same, get_or-set_other, length-set}
use Rattle.gm_attr.specs.Kinds.{AttrsView, Tells, blocks_in, is_tracked, kind_if, lies_in}
use Rattle.gm_base.specs.Extent.{Extent}
use Rattle.gm_base.specs.declared.calls.Ioctl.{Ioctl}
use Rattle.gm_base.specs.declared.calls.Ioctl.TheVariants.{Allocate, Attrs, Close, Create, Peek, Poke, Populate, Punch, Region2}
use Rattle.gm_base.specs.declared.calls.Region.{Region}
use Rattle.gm_base.specs.declared.numbers.TheConstants.{PAGE_WORDS}
use Rattle.gm_base.specs.declared.values.Folio.{Folio}
use Rattle.gm_base.specs.declared.values.Kind.{Kind}
use Rattle.gm_base.specs.declared.values.Setup.{Setup}
use Rattle.gm_flat.specs.Calls.{new_slot, page_of, wants_file}
use Rattle.gm_flat.specs.Effects.{apply, dropped, moved, shut_slot, shut_slots, slot_fits}
use Rattle.gm_flat.specs.FlatState.{AttrCall, Flat, Triple, in_use, was_made}
use Rattle.gm_flat.specs.RightLives.{IsCached}
use Rattle.gm_flat.specs.RightLook.{file_of}
use Rattle.gm_flat.specs.Slots.{is_file, slot_by_id, slot_span}
use Rattle.gm_flat.specs.Words.{poked}
use Rattle.gm_flat.specs.declared.effect.Effect.{Effect}
use Rattle.gm_flat.specs.declared.effect.Effect.TheVariants.{Attr, Cut, File, Move, NoSlot, Shut, Slot, Word}
use Rattle.gm_flat.specs.declared.views.SlotView.{SlotView}
use Rattle.gm_laws.proofs.BoundRanges.{used_made}
use Rattle.gm_laws.proofs.SlotsKeep.{all_dropped, all_moved, all_shut, all_with}
use Rattle.gm_laws.specs.SlotsStand.{AllOf, HasOtherId, LiesApart, Pairwise, SlotsStand}
use Rattle.gm_ioctl.specs.InRange.{RegionInRange}
use Rattle.gm_ranges.specs.Runs.{turned}
use Rattle.gm_slots.specs.Changes.{made_slot}
use Rattle.gm_store.proofs.SlotEffects.{attribute_set, meets_none, slot_dropped, slot_made, slot_moved, word_written}
use Rattle.gm_store.specs.Bindings.{HasIdAlone, IsSlotAt, makes}
use Rattle.gm_store.specs.Frees.{FreesDue, with_frees}
use Rattle.gm_store.specs.Stored.{Stored, StoreStands, applied}
use Rattle.gm_file.specs.Ranges.{met}
use Rattle.gm_store.specs.Views.{StoreView, bound_in, file_in}
use Rattle.gm_words.specs.Banks.{page_in, word_in}
use Rattle.gm_state.specs.Promised.{DropsSlot, Makes, MakesSlot, MovesSlot}
use Rattle.gm_state.specs.Stand.{Applied, IsBounded, Memory, StateIs, UserStands, after_effect}
use Rattle.gm_state.proofs.Tracked.{blocks_dropped, blocks_more, blocks_moved, blocks_same, blocks_shut, few_blocks}
use Rattle.gm_state.proofs.SlotMarks as marks
use Rattle.gm_state.specs.Applying.{HasBlockRoom, HasRoomFor}
use Rattle.gm_state.specs.Tracking.{BlocksStand, lies_in_slot, lies_in_slots, region_span}
use Rattle.gm_state.specs.Views.{StateView}

-- an effect that takes nothing out of a cache

pub record Calm (s : Setup) (m : Memory) (effect : Effect) (new : StateView) : Type 0 where
  pub freed : new.freed.list ≡ []
  pub same_cache : (apply effect m.stored.flat).cache ≡ m.stored.flat.cache
  pub slots_are : new.slots.slots ≡ (apply effect m.stored.flat).slots
  pub attrs_are : Tells new.attrs (apply effect m.stored.flat).attrs
  pub user : UserStands s.user new.user (λ page word. poked page word effect (m.user_words page word))
  pub store : StoreStands s.frames new.store (applied effect m.stored)
  pub bounded : AllOf (IsBounded s.user) (apply effect m.stored.flat).slots
  pub blocks : BlocksStand s.huge new.huge new.attrs (apply effect m.stored.flat).slots

pub calm : (s : Setup) (m : Memory) (effect : Effect) (new : StateView) → Calm s m effect new → Applied s m effect new
calm s m effect new c = record {
  frees = subst (λ (ps : List (ℕ × Folio)). FreesDue s.frames m.stored (applied effect m.stored) ps new.store) (sym c.freed) (record {
    due = tt;
    covered = λ serial h. inl (subst (λ (ts : List Triple). IsCached serial (record m.stored.flat { cache = ts })) (sym c.same_cache) h);
    stands = again s.frames new.store (applied effect m.stored) c.store;
  });
  is = subst (λ (ps : List (ℕ × Folio)). StateIs s new (after_effect effect ps m)) (sym c.freed) (record { slots_are = c.slots_are; attrs_are = c.attrs_are; user = c.user; store = again s.frames new.store (applied effect m.stored) c.store; bounded = c.bounded; blocks = c.blocks });
}
  where
    again : (frames : ℕ) (st : StoreView) (k : Stored) → StoreStands frames st k → StoreStands frames st (with_frees [] k)
    again frames st k h = record { files = h.files; pool = h.pool; cache = h.cache; words = h.words }

-- user memory

word_set : (xs : List ℕ) (word q value : ℕ) → word < length xs → get_or (set xs word value) q 0 ≡ cond (eqb word q) value (get_or xs q 0)
word_set xs word q value lt = elim (cases_Bool (eqb word q)) [
  | inl e ↦ let s : word ≡ q = eqb-true word q e in subst (λ (k : ℕ). get_or (set xs word value) k 0 ≡ cond (eqb word k) value (get_or xs k 0)) s (get_or-set_same xs word value 0 lt ∙ sym (cond-true (eqb word word) value (get_or xs word 0) (eq-eqb word word refl)))
  | inr e ↦ get_or-set_other xs word q value 0 (λ s. eqb-false word q e (sym s)) ∙ sym (cond-false (eqb word q) value (get_or xs q 0) e)
]

page_set : (bank : List (List ℕ)) (page p : ℕ) (x : List ℕ) → page < length bank → get_or (set bank page x) p [] ≡ cond (eqb page p) x (get_or bank p [])
page_set bank page p x lt = elim (cases_Bool (eqb page p)) [
  | inl e ↦ let s : page ≡ p = eqb-true page p e in subst (λ (k : ℕ). get_or (set bank page x) k [] ≡ cond (eqb page k) x (get_or bank k [])) s (get_or-set_same bank page x [] lt ∙ sym (cond-true (eqb page page) x (get_or bank page []) (eq-eqb page page refl)))
  | inr e ↦ get_or-set_other bank page p x [] (λ s. eqb-false page p e (sym s)) ∙ sym (cond-false (eqb page p) x (get_or bank p []) e)
]

two_steps : (bank : List (List ℕ)) (page p word q value : ℕ) (t : Bool) → eqb page p ≡ t → word < length (page_in bank page) → get_or (cond t (set (get_or bank page []) word value) (get_or bank p [])) q 0 ≡ cond (t && eqb word q) value (get_or (get_or bank p []) q 0)
two_steps bank page p word q value true e lt =
    let s : page ≡ p = eqb-true page p e in
    word_set (get_or bank page []) word q value lt ∙ ap (λ (k : ℕ). cond (eqb word q) value (get_or (get_or bank k []) q 0)) s
two_steps bank page p word q value false e lt = refl

pub written_word : (bank : List (List ℕ)) (page p word q value : ℕ) → page < length bank → word < length (page_in bank page) → word_in (set bank page (set (page_in bank page) word value)) p q ≡ cond (eqb page p && eqb word q) value (word_in bank p q)
written_word bank page p word q value lt lw =
    ap (λ (xs : List ℕ). get_or xs q 0) (page_set bank page p (set (page_in bank page) word value) lt) ∙ two_steps bank page p word q value (eqb page p) refl lw

whole_after : (bank : List (List ℕ)) (page p word value : ℕ) → page < length bank → length (page_in bank p) ≡ PAGE_WORDS → length (page_in bank page) ≡ PAGE_WORDS → length (page_in (set bank page (set (page_in bank page) word value)) p) ≡ PAGE_WORDS
whole_after bank page p word value lt hp h = ap (λ (xs : List ℕ). length xs) (page_set bank page p (set (page_in bank page) word value) lt) ∙ by_test (eqb page p)
  where
    by_test : (t : Bool) → length (cond t (set (page_in bank page) word value) (get_or bank p [])) ≡ PAGE_WORDS
    by_test true = length-set (page_in bank page) word value ∙ h
    by_test false = hp

pub user_written : (user : ℕ) (bank : List (List ℕ)) (words : ℕ → ℕ → ℕ) (page word value : ℕ) → UserStands user bank words → page < user → word < PAGE_WORDS → UserStands user (set bank page (set (page_in bank page) word value)) (λ p q. cond (eqb page p && eqb word q) value (words p q))
user_written user bank words page word value u lp lw =
    let n : page < length bank = let c = u.count_is in omega arith in
    let w : word < length (page_in bank page) = let c = u.whole page lp in omega arith in
    record {
      count_is = length-set bank page _ ∙ u.count_is;
      whole = λ p lt. whole_after bank page p word value n (u.whole p lt) (u.whole page lp);
      words_are = λ p q lt lq. written_word bank page p word q value n w ∙ ap (λ (x : ℕ). cond (eqb page p && eqb word q) value x) (u.words_are p q lt lq);
    }

-- one case after another

pub file_applied : (s : Setup) (old new : StateView) (m : Memory) (file pages : ℕ) (block : Bool) → StateIs s old m → new ≡ record old { store = new.store; freed = new.freed } → new.freed.list ≡ [] → StoreStands s.frames new.store (applied (File file pages block) m.stored) → Applied s m (File file pages block) new
file_applied s old new m file pages block t same none store = calm s m (File file pages block) new (record {
  freed = none;
  same_cache = refl;
  slots_are = ap (λ (x : StateView). x.slots.slots) same ∙ t.slots_are;
  attrs_are = subst (λ (x : StateView). Tells x.attrs m.stored.flat.attrs) (sym same) t.attrs_are;
  user = subst (λ (x : StateView). UserStands s.user x.user m.user_words) (sym same) t.user;
  store = store;
  bounded = t.bounded;
  blocks = subst (λ (x : StateView). BlocksStand s.huge x.huge x.attrs m.stored.flat.slots) (sym same) t.blocks;
})

pub attr_applied : (s : Setup) (old new : StateView) (m : Memory) (span : Extent) (kind : Kind) → StateIs s old m → new ≡ record old { attrs = new.attrs; freed = new.freed } → new.freed.list ≡ [] → ((calls : List AttrCall) → Tells old.attrs calls → Tells new.attrs (record { span = span; kind = kind } ∷ calls)) → new.attrs.tracked ≡ old.attrs.tracked → Applied s m (Attr span kind) new
attr_applied s old new m span kind t same none tells tracked = calm s m (Attr span kind) new (record {
  freed = none;
  same_cache = refl;
  slots_are = ap (λ (x : StateView). x.slots.slots) same ∙ t.slots_are;
  attrs_are = tells m.stored.flat.attrs t.attrs_are;
  user = subst (λ (x : StateView). UserStands s.user x.user m.user_words) (sym same) t.user;
  store = subst (λ (x : StateView). StoreStands s.frames x.store (applied (Attr span kind) m.stored)) (sym same) (attribute_set s.frames old.store m.stored span kind t.store);
  bounded = t.bounded;
  blocks = subst (λ (b : Bool). BlocksStand s.huge b new.attrs m.stored.flat.slots) (sym (ap (λ (x : StateView). x.huge) same)) (blocks_same s.huge old.huge old.attrs new.attrs m.stored.flat.slots m.stored.flat.slots tracked (λ block. refl) t.blocks);
})

pub word_applied : (s : Setup) (old new : StateView) (m : Memory) (page word value : ℕ) → StateIs s old m → new ≡ record old { user = set old.user page (set (page_in old.user page) word value); freed = new.freed } → new.freed.list ≡ [] → page < s.user → word < PAGE_WORDS → Applied s m (Word page word value) new
word_applied s old new m page word value t same none lp lw = calm s m (Word page word value) new (record {
  freed = none;
  same_cache = refl;
  slots_are = ap (λ (x : StateView). x.slots.slots) same ∙ t.slots_are;
  attrs_are = subst (λ (x : StateView). Tells x.attrs m.stored.flat.attrs) (sym same) t.attrs_are;
  user = subst (λ (x : StateView). UserStands s.user x.user (λ p q. poked p q (Word page word value) (m.user_words p q))) (sym same) (user_written s.user old.user m.user_words page word value t.user lp lw);
  store = subst (λ (x : StateView). StoreStands s.frames x.store (applied (Word page word value) m.stored)) (sym same) (word_written s.frames old.store m.stored page word value t.store);
  bounded = t.bounded;
  blocks = subst (λ (x : StateView). BlocksStand s.huge x.huge x.attrs m.stored.flat.slots) (sym same) t.blocks;
})

pub cut_applied : (s : Setup) (old new : StateView) (m : Memory) (file lo hi : ℕ) → StateIs s old m → new ≡ record old { store = new.store; freed = new.freed } → FreesDue s.frames m.stored (applied (Cut file lo hi) m.stored) new.freed.list new.store → Applied s m (Cut file lo hi) new
cut_applied s old new m file lo hi t same due = record {
  frees = due;
  is = record {
    slots_are = ap (λ (x : StateView). x.slots.slots) same ∙ t.slots_are;
    attrs_are = subst (λ (x : StateView). Tells x.attrs m.stored.flat.attrs) (sym same) t.attrs_are;
    user = subst (λ (x : StateView). UserStands s.user x.user m.user_words) (sym same) t.user;
    store = due.stands;
    bounded = t.bounded;
    blocks = subst (λ (x : StateView). BlocksStand s.huge x.huge x.attrs m.stored.flat.slots) (sym same) t.blocks;
  };
}

shut_bounded : (user file : ℕ) (r : SlotView) → IsBounded user r → IsBounded user (shut_slot file r)
shut_bounded user file r b = record { id = b.id; some = b.some; pages = b.pages; users = b.users; indexes = b.indexes; flagged = λ f h. b.flagged f (was_file (is_file r.file file) r.file f h) }
  where
    was_file : (t : Bool) (o : Option ℕ) (f : ℕ) → is_file (cond t None o) f ≡ true → is_file o f ≡ true
    was_file true o f h = absurd (both_ways false refl h)
    was_file false o f h = h

pub shut_applied : (s : Setup) (old new : StateView) (m : Memory) (file : ℕ) → StateIs s old m → in_use file m.stored.flat.files ≡ true → new ≡ record old { slots = new.slots; store = new.store; freed = new.freed } → new.slots.slots ≡ shut_slots file old.slots.slots → FreesDue s.frames m.stored (applied (Shut file) m.stored) new.freed.list new.store → Applied s m (Shut file) new
shut_applied s old new m file t used same slots due =
    let made : was_made file m.stored.flat.files ≡ true = used_made file m.stored.flat.files used in
    record {
      frees = due;
      is = record {
        slots_are = slots ∙ (ap (shut_slots file) t.slots_are ∙ rw made refl);
        attrs_are = subst (λ (x : StateView). Tells x.attrs (apply (Shut file) m.stored.flat).attrs) (sym same) (rw made t.attrs_are);
        user = subst (λ (x : StateView). UserStands s.user x.user m.user_words) (sym same) t.user;
        store = due.stands;
        bounded = rw made (all_shut (IsBounded s.user) (IsBounded s.user) file m.stored.flat.slots (λ r b. shut_bounded s.user file r b) t.bounded);
        blocks = rw made (blocks_shut s.huge new.huge new.attrs file m.stored.flat.slots (subst (λ (x : StateView). BlocksStand s.huge x.huge x.attrs m.stored.flat.slots) (sym same) t.blocks));
      };
    }

-- slots

small_end : (gpa size : ℕ) → gpa % 4096 ≡ 0 → size % 4096 ≡ 0 → gpa + size < 18446744073709551616 → gpa / 4096 + size / 4096 ≤ 4503599627370496
small_end gpa size a b h = omega (arith, a, b, h)

user_end : (from size user : ℕ) → from % 4096 ≡ 0 → size % 4096 ≡ 0 → from + size ≤ 4096 * user → from / 4096 + size / 4096 ≤ user
user_end from size user a b h = omega (arith, a, b, h)

-- attributes that change at the same pages
tells_same : (old new : AttrsView) (calls : List AttrCall) → new.edges ≡ old.edges → Tells old calls → Tells new calls
tells_same old new calls e h = λ page. ap (λ (es : List ℕ). kind_if (turned false es page)) e ∙ h page

-- what becomes of the tracked blocks where a slot goes
pub record Untracks (huge : Bool) (slot : Option SlotView) (old new : AttrsView) : Type 0 where
  pub edges : new.edges ≡ old.edges
  pub tracked : (block : ℕ) → is_tracked new block ≡ (not (huge && lies_in_slot slot block) && is_tracked old block)

-- and where one comes
pub record Tracks (huge : Bool) (span : Extent) (old new : AttrsView) : Type 0 where
  pub edges : new.edges ≡ old.edges
  pub tracked : (block : ℕ) → is_tracked new block ≡ ((huge && lies_in span block) || is_tracked old block)

pub untracks : (huge : Bool) (o p : Option SlotView) (old new : AttrsView) → o ≡ p → new.edges ≡ old.edges → ((block : ℕ) → is_tracked new block ≡ (not (huge && lies_in_slot o block) && is_tracked old block)) → Untracks huge p old new
untracks huge o p old new e edges tracked = subst (λ (x : Option SlotView). Untracks huge x old new) e (record { edges = edges; tracked = tracked })

pub tracks : (huge : Bool) (x y : Extent) (old new : AttrsView) → x ≡ y → new.edges ≡ old.edges → ((block : ℕ) → is_tracked new block ≡ ((huge && lies_in x block) || is_tracked old block)) → Tracks huge y old new
tracks huge x y old new e edges tracked = subst (λ (z : Extent). Tracks huge z old new) e (record { edges = edges; tracked = tracked })

-- the slot that moves
pub record TheMoved (r : Region) (f : Flat) (user : ℕ) : Type 0 where
  pub slot : SlotView
  pub is : slot_by_id f.slots r.slot ≡ Some slot
  pub pages_are : slot.pages ≡ page_of r.size
  pub bounded : IsBounded user slot

pub the_moved : (s : Setup) (r : Region) (f : Flat) (id base : ℕ) → MovesSlot s r f id base → AllOf (IsBounded s.user) f.slots → TheMoved r f s.user
the_moved s r f id base k b = go (slot_by_id f.slots r.slot) refl (marks.moves r f.slots (slot_by_id f.slots r.slot) k.changes)
  where
    go : (o : Option SlotView) → slot_by_id f.slots r.slot ≡ o → IsSome o → TheMoved r f s.user
    go None e h = absurd (cc)
    go (Some q) e h = record { slot = q; is = e; pages_are = (k.plain q e).1; bounded = all_with (IsBounded s.user) r.slot q f.slots e b }

pub move_applied : (s : Setup) (old new : StateView) (m : Memory) (r : Region) (between : AttrsView) → StateIs s old m → MovesSlot s r m.stored.flat r.slot (page_of r.gpa) → Pairwise LiesApart m.stored.flat.slots → new ≡ record old { slots = new.slots; attrs = new.attrs; freed = new.freed } → new.freed.list ≡ [] → new.slots.slots ≡ moved r.slot (page_of r.gpa) old.slots.slots → Untracks old.huge (slot_by_id old.slots.slots r.slot) old.attrs between → Tracks old.huge (region_span r) between new.attrs → Applied s m (Move r.slot (page_of r.gpa)) new
move_applied s old new m r between t makes_it apart same none slots less more =
    let mover = the_moved s r m.stored.flat r.slot (page_of r.gpa) makes_it t.bounded in
    calm s m (Move r.slot (page_of r.gpa)) new (record {
      freed = none;
      same_cache = refl;
      slots_are = slots ∙ ap (moved r.slot (page_of r.gpa)) t.slots_are;
      attrs_are = tells_same between new.attrs m.stored.flat.attrs more.edges (tells_same old.attrs between m.stored.flat.attrs less.edges t.attrs_are);
      user = subst (λ (x : StateView). UserStands s.user x.user m.user_words) (sym same) t.user;
      store = subst (λ (x : StateView). StoreStands s.frames x.store (applied (Move r.slot (page_of r.gpa)) m.stored)) (sym same) (slot_moved s.frames old.store m.stored r.slot (page_of r.gpa) t.store);
      bounded = all_moved (IsBounded s.user) r.slot (page_of r.gpa) m.stored.flat.slots (λ q h.
          let b = all_with (IsBounded s.user) r.slot q m.stored.flat.slots h t.bounded in
          let pages = (makes_it.plain q h).1 in
          let end = small_end r.gpa r.size makes_it.in_range.gpa makes_it.in_range.size makes_it.in_range.guest_end in
          record { id = b.id; some = b.some; pages = fits (page_of r.gpa) q.pages (page_of r.size) pages end; users = b.users; indexes = b.indexes; flagged = b.flagged }) t.bounded;
      blocks = subst (λ (b : Bool). BlocksStand s.huge b new.attrs (moved r.slot (page_of r.gpa) m.stored.flat.slots)) (sym (ap (λ (x : StateView). x.huge) same))
          (blocks_moved s.huge old.huge old.attrs between new.attrs r.slot (page_of r.gpa) (page_of r.size) m.stored.flat.slots mover.slot apart mover.is mover.pages_are
          (subst (λ (xs : List SlotView). (block : ℕ) → is_tracked between block ≡ (not (old.huge && lies_in_slot (slot_by_id xs r.slot) block) && is_tracked old.attrs block)) t.slots_are less.tracked)
          more.tracked t.blocks);
    })
  where
    fits : (a b d : ℕ) → b ≡ d → a + d ≤ 4503599627370496 → a + b ≤ 4503599627370496
    fits a b d f h = omega arith

none_other : (id : ℕ) (r : SlotView) (rs : List SlotView) → r.id ≡ id → AllOf (HasOtherId r) rs → slot_by_id rs id ≡ None
none_other id r [] e h = refl
none_other id r (x ∷ rs) e h = let n : eqb x.id id ≡ false = differs x.id r.id id e h.0 in rw n (none_other id r rs e h.1)
  where
    differs : (a b c : ℕ) → b ≡ c → (b ≡ a → ⊥) → eqb a c ≡ false
    differs a b c e h = not_true (eqb a c) (λ t. h (e ∙ sym (eqb-true a c t)))
      where
        not_true : (t : Bool) → (t ≡ true → ⊥) → t ≡ false
        not_true true h = absurd (h refl)
        not_true false h = refl

pub alone : (id : ℕ) (rs : List SlotView) → Pairwise HasOtherId rs → HasIdAlone id rs
alone id [] h = refl
alone id (r ∷ rs) h = by_test (eqb r.id id) refl (alone id rs h.1)
  where
    by_test : (t : Bool) → eqb r.id id ≡ t → slot_by_id (dropped id rs) id ≡ None → slot_by_id (cond t rs (r ∷ dropped id rs)) id ≡ None
    by_test true e ih = none_other id r rs (eqb-true r.id id e) h.0
    by_test false e ih = rw e ih

pub drop_applied : (s : Setup) (old new : StateView) (m : Memory) (id : ℕ) → StateIs s old m → Pairwise LiesApart m.stored.flat.slots → new ≡ record old { slots = new.slots; attrs = new.attrs; store = new.store; freed = new.freed } → new.freed.list ≡ [] → new.slots.slots ≡ dropped id old.slots.slots → Untracks old.huge (slot_by_id old.slots.slots id) old.attrs new.attrs → StoreStands s.frames new.store (applied (NoSlot id) m.stored) → Applied s m (NoSlot id) new
drop_applied s old new m id t apart same none slots less store = calm s m (NoSlot id) new (record {
  freed = none;
  same_cache = refl;
  slots_are = slots ∙ ap (dropped id) t.slots_are;
  attrs_are = tells_same old.attrs new.attrs m.stored.flat.attrs less.edges t.attrs_are;
  user = subst (λ (x : StateView). UserStands s.user x.user m.user_words) (sym same) t.user;
  store = store;
  bounded = all_dropped (IsBounded s.user) id m.stored.flat.slots t.bounded;
  blocks = subst (λ (b : Bool). BlocksStand s.huge b new.attrs (dropped id m.stored.flat.slots)) (sym (ap (λ (x : StateView). x.huge) same))
      (blocks_dropped s.huge old.huge old.attrs new.attrs id m.stored.flat.slots apart
      (subst (λ (xs : List SlotView). (block : ℕ) → is_tracked new.attrs block ≡ (not (old.huge && lies_in_slot (slot_by_id xs id) block) && is_tracked old.attrs block)) t.slots_are less.tracked)
      t.blocks);
})

-- the slot that a region makes

abbrev pub slot_of : Region → Bool → SlotView
slot_of r true = record { id = r.slot; base = page_of r.gpa; pages = page_of r.size; user = page_of r.user; flags = r.flags; file = Some r.fd; index = page_of r.offset; invalid = false }
slot_of r false = record { id = r.slot; base = page_of r.gpa; pages = page_of r.size; user = page_of r.user; flags = r.flags; file = None; index = 0; invalid = false }

-- which effect it is

pub shut_used : (s : Setup) (i : Ioctl) (f : Flat) (file : ℕ) → Makes s i f (Shut file) → in_use file f.files ≡ true
shut_used s (Create size flags) f file h = absurd h
shut_used s (Region2 r) f file h = absurd h
shut_used s (Attrs address size attributes flags) f file h = absurd h
shut_used s (Punch fd offset bytes) f file h = absurd h
shut_used s (Allocate fd offset bytes) f file h = absurd h
shut_used s (Close fd) f file h = h
shut_used s (Populate gpa pages user) f file h = absurd h
shut_used s (Poke address value) f file h = absurd h
shut_used s (Peek address) f file h = absurd h

-- the list of what is to be freed doesn't matter
pub cleared : (s : Setup) (old new : StateView) (m : Memory) → StateIs s old m → new ≡ record old { freed = new.freed } → StateIs s new m
cleared s old new m t e = subst (λ (x : StateView). StateIs s x m) (sym e) (record { slots_are = t.slots_are; attrs_are = t.attrs_are; user = t.user; store = t.store; bounded = t.bounded; blocks = t.blocks })

pub word_there : (s : Setup) (i : Ioctl) (f : Flat) (page word value : ℕ) → Makes s i f (Word page word value) → (page < s.user) × (word < PAGE_WORDS)
word_there s (Create size flags) f page word value h = absurd h
word_there s (Region2 r) f page word value h = absurd h
word_there s (Attrs address size attributes flags) f page word value h = absurd h
word_there s (Punch fd offset bytes) f page word value h = absurd h
word_there s (Allocate fd offset bytes) f page word value h = absurd h
word_there s (Close fd) f page word value h = absurd h
word_there s (Populate gpa pages user) f page word value h = absurd h
word_there s (Poke address written) f page word value h = h
word_there s (Peek address) f page word value h = absurd h

pub made_effect : (s : Setup) (r : Region) (f : Flat) (effect : Effect) (slot base pages user flags : ℕ) (file : Option ℕ) (index : ℕ) → effect ≡ Slot slot base pages user flags file index → Makes s (Region2 r) f effect → effect ≡ new_slot r (wants_file r)
made_effect s r f effect slot base pages user flags file index e h = let k : MakesSlot s r f (Slot slot base pages user flags file index) = subst (Makes s (Region2 r) f) e h in e ∙ k.effect_is

pub drops_it : (s : Setup) (r : Region) (f : Flat) (effect : Effect) (slot : ℕ) → effect ≡ NoSlot slot → Makes s (Region2 r) f effect → effect ≡ NoSlot r.slot
drops_it s r f effect slot e h = let k : DropsSlot s r f slot = subst (Makes s (Region2 r) f) e h in e ∙ ap (λ (n : ℕ). NoSlot n) k.id_is

pub moves_it : (s : Setup) (r : Region) (f : Flat) (effect : Effect) (slot base : ℕ) → effect ≡ Move slot base → Makes s (Region2 r) f effect → effect ≡ Move r.slot (page_of r.gpa)
moves_it s r f effect slot base e h = let k : MovesSlot s r f slot base = subst (Makes s (Region2 r) f) e h in e ∙ (ap (λ (n : ℕ). Move n base) k.id_is ∙ ap (λ (n : ℕ). Move r.slot n) k.base_is)

-- the same, of an effect that is known by an equation

pub cut_by : (s : Setup) (old new : StateView) (m : Memory) (effect : Effect) (file lo hi : ℕ) → effect ≡ Cut file lo hi → StateIs s old m → new ≡ record old { store = new.store; freed = new.freed } → FreesDue s.frames m.stored (applied (Cut file lo hi) m.stored) new.freed.list new.store → Applied s m effect new
cut_by s old new m effect file lo hi e t same due = subst (λ (x : Effect). Applied s m x new) (sym e) (cut_applied s old new m file lo hi t same due)

pub shut_by : (s : Setup) (old new : StateView) (m : Memory) (effect : Effect) (i : Ioctl) (file : ℕ) → effect ≡ Shut file → Makes s i m.stored.flat effect → StateIs s old m → new ≡ record old { slots = new.slots; store = new.store; freed = new.freed } → new.slots.slots ≡ shut_slots file old.slots.slots → FreesDue s.frames m.stored (applied (Shut file) m.stored) new.freed.list new.store → Applied s m effect new
shut_by s old new m effect i file e makes_it t same slots due = subst (λ (x : Effect). Applied s m x new) (sym e) (shut_applied s old new m file t (shut_used s i m.stored.flat file (subst (Makes s i m.stored.flat) e makes_it)) same slots due)

pub word_by : (s : Setup) (old new : StateView) (m : Memory) (effect : Effect) (i : Ioctl) (page word value : ℕ) → effect ≡ Word page word value → Makes s i m.stored.flat effect → StateIs s old m → new ≡ record old { user = new.user; freed = new.freed } → new.user ≡ set old.user page (set (page_in old.user page) word value) → new.freed.list ≡ [] → Applied s m effect new
word_by s old new m effect i page word value e makes_it t same written none =
    let h = word_there s i m.stored.flat page word value (subst (Makes s i m.stored.flat) e makes_it) in
    subst (λ (x : Effect). Applied s m x new) (sym e) (word_applied s old new m page word value t (same ∙ ap (λ (u : List (List ℕ)). record old { user = u; freed = new.freed }) written) none h.0 h.1)

-- a slot goes, and its binding with it

slot_there : (o : Option SlotView) (file : ℕ) → file_of o ≡ Some file → (t : SlotView) × (o ≡ Some t) × (t.file ≡ Some file)
slot_there None file h = absurd (cc)
slot_there (Some t) file h = (t, refl, h)

pub drop_bound : (s : Setup) (old new : StateView) (m : Memory) (id file : ℕ) → StateIs s old m → SlotsStand m.stored.flat → new ≡ record old { slots = new.slots; attrs = new.attrs; store = new.store; freed = new.freed } → new.freed.list ≡ [] → new.slots.slots ≡ dropped id old.slots.slots → Untracks old.huge (slot_by_id old.slots.slots id) old.attrs new.attrs → file_of (slot_by_id old.slots.slots id) ≡ Some file → ((frames : ℕ) (k : Stored) (t : SlotView) → StoreStands frames old.store k → slot_by_id k.flat.slots id ≡ Some t → t.file ≡ Some file → HasIdAlone id k.flat.slots → StoreStands frames new.store (applied (NoSlot id) k)) → Applied s m (NoSlot id) new
drop_bound s old new m id file t apart same none slots less is stands =
    let o = slot_there (slot_by_id m.stored.flat.slots id) file (sym (ap (λ (xs : List SlotView). file_of (slot_by_id xs id)) t.slots_are) ∙ is) in
    drop_applied s old new m id t apart.lie_apart same none slots less (stands s.frames m.stored o.0 t.store o.1 o.2 (alone id m.stored.flat.slots apart.ids_differ))

pub drop_plain : (s : Setup) (old new : StateView) (m : Memory) (id : ℕ) → StateIs s old m → SlotsStand m.stored.flat → new ≡ record old { slots = new.slots; attrs = new.attrs; freed = new.freed } → new.freed.list ≡ [] → new.slots.slots ≡ dropped id old.slots.slots → Untracks old.huge (slot_by_id old.slots.slots id) old.attrs new.attrs → file_of (slot_by_id old.slots.slots id) ≡ None → Applied s m (NoSlot id) new
drop_plain s old new m id t apart same none slots less is =
    drop_applied s old new m id t apart.lie_apart (same ∙ ap (λ (x : StoreView). record old { slots = new.slots; attrs = new.attrs; store = x; freed = new.freed }) (sym (ap (λ (x : StateView). x.store) same))) none slots less
    (subst (λ (x : StateView). StoreStands s.frames x.store (applied (NoSlot id) m.stored)) (sym same) (slot_dropped s.frames old.store m.stored id (sym (ap (λ (xs : List SlotView). file_of (slot_by_id xs id)) t.slots_are) ∙ is) t.store))

-- a slot is made

page_end : (from size user : ℕ) → from / 4096 + size / 4096 ≤ user → user ≤ 65536 → from / 4096 + size / 4096 ≤ 18446744073709551616
page_end from size user h k = omega arith

pub bounded_slot : (s : Setup) (r : Region) (f : Flat) (t : Bool) → wants_file r ≡ t → MakesSlot s r f (new_slot r t) → IsBounded s.user (slot_of r t)
bounded_slot s r f true e k = record {
  id = k.in_range.slot;
  some = k.some;
  pages = small_end r.gpa r.size k.in_range.gpa k.in_range.size k.in_range.guest_end;
  users = user_end r.user r.size s.user k.in_range.user_address k.in_range.size k.in_range.user_end;
  indexes = small_end r.offset r.size (k.in_range.offset e) k.in_range.size (k.in_range.offset_end e);
  flagged = λ file h. e;
}
bounded_slot s r f false e k = record {
  id = k.in_range.slot;
  some = k.some;
  pages = small_end r.gpa r.size k.in_range.gpa k.in_range.size k.in_range.guest_end;
  users = user_end r.user r.size s.user k.in_range.user_address k.in_range.size k.in_range.user_end;
  indexes = let x = small_end r.gpa r.size k.in_range.gpa k.in_range.size k.in_range.guest_end in omega arith;
  flagged = λ file h. absurd (both_ways false refl h);
}

pub fits_slot : (user : ℕ) (t : SlotView) → user ≤ 65536 → IsBounded user t → slot_fits t ≡ true
fits_slot user t small b = both (t.user + t.pages) (t.index + t.pages) user b.users b.indexes small
  where
    both : (a b user : ℕ) → a ≤ user → b ≤ 4503599627370496 → user ≤ 65536 → (leb a 18446744073709551616 && leb b 18446744073709551616) ≡ true
    both a b user h k l = grind (arith, nat_tests)

made_is : (r : Region) (t : Bool) → wants_file r ≡ t → made_slot r ≡ slot_of r t
made_is r true e = rw e refl
made_is r false e = rw e refl

slots_with : (r : Region) (t : Bool) (f : Flat) → slot_fits (slot_of r t) ≡ true → (apply (new_slot r t) f).slots ≡ slot_of r t ∷ f.slots
slots_with r true f h = rw h refl
slots_with r false f h = rw h refl

attrs_with : (r : Region) (t : Bool) (f : Flat) → (apply (new_slot r t) f).attrs ≡ f.attrs
attrs_with r true f = by_cond (slot_fits (slot_of r true)) f (slot_of r true)
  where
    by_cond : (b : Bool) (f : Flat) (x : SlotView) → (cond b (record f { slots = x ∷ f.slots }) f).attrs ≡ f.attrs
    by_cond true f x = refl
    by_cond false f x = refl
attrs_with r false f = by_cond (slot_fits (slot_of r false)) f (slot_of r false)
  where
    by_cond : (b : Bool) (f : Flat) (x : SlotView) → (cond b (record f { slots = x ∷ f.slots }) f).attrs ≡ f.attrs
    by_cond true f x = refl
    by_cond false f x = refl

cache_with : (r : Region) (t : Bool) (f : Flat) → (apply (new_slot r t) f).cache ≡ f.cache
cache_with r true f = by_cond (slot_fits (slot_of r true)) f (slot_of r true)
  where
    by_cond : (b : Bool) (f : Flat) (x : SlotView) → (cond b (record f { slots = x ∷ f.slots }) f).cache ≡ f.cache
    by_cond true f x = refl
    by_cond false f x = refl
cache_with r false f = by_cond (slot_fits (slot_of r false)) f (slot_of r false)
  where
    by_cond : (b : Bool) (f : Flat) (x : SlotView) → (cond b (record f { slots = x ∷ f.slots }) f).cache ≡ f.cache
    by_cond true f x = refl
    by_cond false f x = refl

words_with : (r : Region) (t : Bool) (page word x : ℕ) → poked page word (new_slot r t) x ≡ x
words_with r true page word x = refl
words_with r false page word x = refl

user_same : (user : ℕ) (bank : List (List ℕ)) (old new : ℕ → ℕ → ℕ) → ((page word : ℕ) → new page word ≡ old page word) → UserStands user bank old → UserStands user bank new
user_same user bank old new e u = record { count_is = u.count_is; whole = u.whole; words_are = λ page word lp lw. u.words_are page word lp lw ∙ sym (e page word) }

made_span : (r : Region) (t : Bool) → slot_span (slot_of r t) ≡ region_span r
made_span r true = refl
made_span r false = refl

pub make_applied : (s : Setup) (old new : StateView) (m : Memory) (r : Region) (t : Bool) → StateIs s old m → s.user ≤ 65536 → wants_file r ≡ t → MakesSlot s r m.stored.flat (new_slot r t) → new ≡ record old { slots = new.slots; attrs = new.attrs; store = new.store; freed = new.freed } → new.freed.list ≡ [] → new.slots.slots ≡ made_slot r ∷ old.slots.slots → Tracks old.huge (region_span r) old.attrs new.attrs → StoreStands s.frames new.store (applied (new_slot r t) m.stored) → Applied s m (new_slot r t) new
make_applied s old new m r t is small e k same none slots more store =
    let b = bounded_slot s r m.stored.flat t e k in
    let fits = fits_slot s.user (slot_of r t) small b in
    let with_it = slots_with r t m.stored.flat fits in
    calm s m (new_slot r t) new (record {
      freed = none;
      same_cache = cache_with r t m.stored.flat;
      slots_are = slots ∙ (ap (λ (x : SlotView). x ∷ old.slots.slots) (made_is r t e) ∙ (ap (λ (xs : List SlotView). slot_of r t ∷ xs) is.slots_are ∙ sym with_it));
      attrs_are = subst (λ (calls : List AttrCall). Tells new.attrs calls) (sym (attrs_with r t m.stored.flat)) (tells_same old.attrs new.attrs m.stored.flat.attrs more.edges is.attrs_are);
      user = user_same s.user new.user m.user_words (λ page word. poked page word (new_slot r t) (m.user_words page word)) (λ page word. words_with r t page word (m.user_words page word)) (subst (λ (x : StateView). UserStands s.user x.user m.user_words) (sym same) is.user);
      store = store;
      bounded = subst (λ (xs : List SlotView). AllOf (IsBounded s.user) xs) (sym with_it) (b, is.bounded);
      blocks = subst (λ (xs : List SlotView). BlocksStand s.huge new.huge new.attrs xs) (sym with_it)
          (subst (λ (h : Bool). BlocksStand s.huge h new.attrs (slot_of r t ∷ m.stored.flat.slots)) (sym (ap (λ (x : StateView). x.huge) same))
          (blocks_more s.huge old.huge old.attrs new.attrs (region_span r) m.stored.flat.slots (slot_of r t ∷ m.stored.flat.slots) more.tracked (λ block. ap (λ (x : Extent). lies_in x block || lies_in_slots m.stored.flat.slots block) (made_span r t)) is.blocks));
    })

pub make_plain : (s : Setup) (old new : StateView) (m : Memory) (r : Region) → StateIs s old m → s.user ≤ 65536 → wants_file r ≡ false → MakesSlot s r m.stored.flat (new_slot r (wants_file r)) → new ≡ record old { slots = new.slots; attrs = new.attrs; freed = new.freed } → new.freed.list ≡ [] → new.slots.slots ≡ made_slot r ∷ old.slots.slots → Tracks old.huge (region_span r) old.attrs new.attrs → Applied s m (new_slot r (wants_file r)) new
make_plain s old new m r is small e k same none slots more =
    subst (λ (b : Bool). Applied s m (new_slot r b) new) (sym e)
    (make_applied s old new m r false is small e (subst (λ (b : Bool). MakesSlot s r m.stored.flat (new_slot r b)) e k) (same ∙ ap (λ (x : StoreView). record old { slots = new.slots; attrs = new.attrs; store = x; freed = new.freed }) (sym (ap (λ (x : StateView). x.store) same))) none slots more
    (subst (λ (x : StateView). StoreStands s.frames x.store (applied (new_slot r false) m.stored)) (sym same) (slot_made s.frames old.store m.stored r.slot (page_of r.gpa) (page_of r.size) (page_of r.user) r.flags 0 is.store)))

pub make_bound : (s : Setup) (old new : StateView) (m : Memory) (r : Region) → StateIs s old m → s.user ≤ 65536 → wants_file r ≡ true → MakesSlot s r m.stored.flat (new_slot r (wants_file r)) → new ≡ record old { slots = new.slots; attrs = new.attrs; store = new.store; freed = new.freed } → new.freed.list ≡ [] → new.slots.slots ≡ made_slot r ∷ old.slots.slots → Tracks old.huge (region_span r) old.attrs new.attrs → ((frames : ℕ) (k : Stored) (t : SlotView) → StoreStands frames old.store k → IsSlotAt r.fd (page_of r.offset) (page_of r.offset + page_of r.size) r.slot t → StoreStands frames new.store (applied (makes t) k)) → Applied s m (new_slot r (wants_file r)) new
make_bound s old new m r is small e k same none slots more stands =
    let k2 : MakesSlot s r m.stored.flat (new_slot r true) = subst (λ (b : Bool). MakesSlot s r m.stored.flat (new_slot r b)) e k in
    let b = bounded_slot s r m.stored.flat true e k2 in
    let fits = fits_slot s.user (slot_of r true) small b in
    subst (λ (x : Bool). Applied s m (new_slot r x) new) (sym e)
    (make_applied s old new m r true is small e k2 same none slots more
    (stands s.frames m.stored (slot_of r true) is.store (record { file_is = refl; lo_is = refl; hi_is = refl; id_is = refl; fits = fits })))

-- there is room for the blocks of the slot that is made or moves

pub region_pages : (s : Setup) (r : Region) → RegionInRange s.user r → s.user ≤ 65536 → page_of r.size ≤ 65536
region_pages s r i small = let e = user_end r.user r.size s.user i.user_address i.size i.user_end in omega arith

pub region_end : (s : Setup) (r : Region) → RegionInRange s.user r → page_of r.gpa + page_of r.size ≤ 4503599627370496
region_end s r i = small_end r.gpa r.size i.gpa i.size i.guest_end

pub region_blocks : (s : Setup) (st : StateView) (r : Region) → RegionInRange s.user r → s.user ≤ 65536 → HasBlockRoom st → st.huge ≡ true → blocks_in (region_span r) ≤ st.attrs.block_spare
region_blocks s st r i small room h = few_blocks (page_of r.gpa) (page_of r.size) st.attrs.block_spare (region_pages s r i small) (room h)

pub slot_room : (st : StateView) (r : Region) (t : Bool) → HasRoomFor st (new_slot r t) → HasBlockRoom st
slot_room st r true h = h.1
slot_room st r false h = h.1

pub old_bounded : (s : Setup) (st : StateView) (m : Memory) → StateIs s st m → AllOf (IsBounded s.user) st.slots.slots
old_bounded s st m t = subst (AllOf (IsBounded s.user)) (sym t.slots_are) t.bounded

-- a slot that goes or moves has a page, and none from 2^52 on
pub old_pages : (user : ℕ) (id : ℕ) (slots : List SlotView) (o : Option SlotView) → slot_by_id slots id ≡ o → AllOf (IsBounded user) slots → IfSome o (λ (s : SlotView). (0 < s.pages) × (s.base + s.pages ≤ 4503599627370496))
old_pages user id slots None e b = tt
old_pages user id slots (Some s) e b = let k = all_with (IsBounded user) id s slots e b in (k.some, k.pages)

pub bind_free : (s : Setup) (old : StateView) (m : Memory) (r : Region) → StateIs s old m → wants_file r ≡ true → MakesSlot s r m.stored.flat (new_slot r (wants_file r)) → met (page_of r.offset) (page_of r.offset + page_of r.size) (bound_in (file_in old.store.files r.fd)) ≡ []
bind_free s old m r is e k = meets_none s.frames old.store m.stored r.fd (page_of r.offset) (page_of r.size) k.some is.store (k.binds e).unbound

pub slot_promised : (s : Setup) (r : Region) (f : Flat) (t : Bool) → Makes s (Region2 r) f (new_slot r t) → MakesSlot s r f (new_slot r t)
slot_promised s r f true h = h
slot_promised s r f false h = h
