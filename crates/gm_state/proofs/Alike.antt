-- Memory that has the same flat state, holds and words is stood for by the same state.
use Rattle.std.proofs.Common.{◌≡◌, ℕ, ◌<◌, Bool, List, subst, sym, ◌∙◌}
use Rattle.gm_attr.specs.Kinds.{Tells}
use Rattle.gm_base.specs.declared.values.Setup.{Setup}
use Rattle.gm_flat.specs.FlatState.{Flat, FolioState}
use Rattle.gm_laws.specs.SlotsStand.{AllOf}
use Rattle.gm_pool.specs.Pools.{use_of}
use Rattle.gm_pool.specs.declared.uses.Use.{Use}
use Rattle.gm_store.specs.Stored.{StoreStands, UseIs, has_triple}
use Rattle.gm_store.specs.Views.{StoreView}
use Rattle.std.proofs.Common.{Option, Some, None}
use Rattle.gm_state.specs.Stand.{IsBounded, Memory, StateIs}
use Rattle.gm_state.specs.Tracking.{BlocksStand}
use Rattle.gm_state.specs.Views.{StateView}

-- two memories are the same, point by point
pub record SameMemory (m n : Memory) : Type 0 where
  pub flat : n.stored.flat ≡ m.stored.flat
  pub holds : (serial : ℕ) → n.stored.holds serial ≡ m.stored.holds serial
  pub words : (serial word : ℕ) → n.stored.words serial word ≡ m.stored.words serial word
  pub user_words : (page word : ℕ) → n.user_words page word ≡ m.user_words page word

use_alike : (o : Option Use) (frame : ℕ) (folios : List FolioState) (marked : ℕ → Bool) (old new : ℕ → ℕ) → ((serial : ℕ) → new serial ≡ old serial) → UseIs o frame folios marked old → UseIs o frame folios marked new
use_alike None frame folios marked old new e h = h
use_alike (Some u) frame folios marked old new e h = record { frame_is = h.frame_is; mark_is = h.mark_is; holds_are = h.holds_are ∙ sym (e u.serial) }

-- the same for a store
store_alike : (frames : ℕ) (st : StoreView) (f : Flat) (h g : ℕ → ℕ) (w x : ℕ → ℕ → ℕ) → ((serial : ℕ) → g serial ≡ h serial) → ((serial word : ℕ) → x serial word ≡ w serial word) → StoreStands frames st (record { flat = f; holds = h; words = w }) → StoreStands frames st (record { flat = f; holds = g; words = x })
store_alike frames st f h g w x e d t = record {
  files = t.files;
  pool = record {
    count_is = t.pool.count_is;
    next_is = t.pool.next_is;
    numbered = t.pool.numbered;
    uses_are = λ frame. use_alike (use_of st.pool frame) frame f.folios (λ serial. has_triple serial f.cache) h g e (t.pool.uses_are frame);
    has_use = t.pool.has_use;
    held_live = λ serial lt. t.pool.held_live serial (subst (λ (n : ℕ). 0 < n) (e serial) lt);
  };
  cache = t.cache;
  words = record {
    count_is = t.words.count_is;
    whole = t.words.whole;
    words_are = λ serial frame word is lt. t.words.words_are serial frame word is lt ∙ sym (d serial word);
  };
}

pub alike : (s : Setup) (st : StateView) (m n : Memory) → SameMemory m n → StateIs s st m → StateIs s st n
alike s st m n e t = record {
  slots_are = subst (λ (f : Flat). st.slots.slots ≡ f.slots) (sym e.flat) t.slots_are;
  attrs_are = subst (λ (f : Flat). Tells st.attrs f.attrs) (sym e.flat) t.attrs_are;
  user = record { count_is = t.user.count_is; whole = t.user.whole; words_are = λ page word lp lw. t.user.words_are page word lp lw ∙ sym (e.user_words page word) };
  store = subst (λ (f : Flat). StoreStands s.frames st.store (record { flat = f; holds = n.stored.holds; words = n.stored.words })) (sym e.flat) (store_alike s.frames st.store m.stored.flat m.stored.holds n.stored.holds m.stored.words n.stored.words e.holds e.words t.store);
  bounded = subst (λ (f : Flat). AllOf (IsBounded s.user) f.slots) (sym e.flat) t.bounded;
  blocks = subst (λ (f : Flat). BlocksStand s.huge st.huge st.attrs f.slots) (sym e.flat) t.blocks;
}
