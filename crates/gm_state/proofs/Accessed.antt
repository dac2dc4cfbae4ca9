-- Memory after an access.
use Rattle.std.proofs.Common.{◌≡◌, ℕ, ◌<◌, Bool, true, false, ◌&&◌, length, set, Some, subst, sym, ◌∙◌, refl, cond, eqb}
use Rattle.std.proofs.lemmas.Bool.Decides.{nat_tests}
use Rattle.std.proofs.Common.{arith}
use Rattle.gm_base.specs.Aim.{Aim}
use Rattle.gm_base.specs.declared.numbers.TheConstants.{PAGE_WORDS}
use Rattle.gm_base.specs.declared.values.Folio.{Folio as OneFolio}
use Rattle.gm_base.specs.declared.values.Op.{Op}
use Rattle.gm_base.specs.declared.values.Op.TheVariants.{Read, Write}
use Rattle.gm_base.specs.declared.values.Setup.{Setup}
use Rattle.gm_flat.specs.RightLives.{frame_of}
use Rattle.gm_flat.specs.Words.{written}
use Rattle.gm_flat.specs.declared.effect.Backing.{Backing}
use Rattle.gm_flat.specs.declared.effect.Backing.TheVariants.{User, Folio as InFolio}
use Rattle.gm_store.proofs.Telling.{frame_within}
use Rattle.gm_store.specs.Stored.{StoreStands, with_word}
use Rattle.gm_words.specs.Banks.{page_in}
use Rattle.gm_state.proofs.Alike.{alike}
use Rattle.gm_state.proofs.Effecting.{user_written}
use Rattle.gm_state.specs.Accessing.{accessed}
use Rattle.gm_state.specs.Stand.{Memory, StateIs}
use Rattle.gm_state.specs.Views.{StateView}

read_same : (t : Bool) (op : Op) (x : ℕ) → op ≡ Read → written t op x ≡ x
read_same true op x e = rw e refl
read_same false op x e = refl

write_is : (t : Bool) (op : Op) (value x : ℕ) → op ≡ Write value → written t op x ≡ cond t value x
write_is true op value x e = rw e refl
write_is false op value x e = refl

flip : (a b c d : ℕ) (value x : ℕ) → cond (eqb a b && eqb c d) value x ≡ cond (eqb b a && eqb d c) value x
flip a b c d value x = grind (arith, nat_tests)

-- a read leaves memory as it was
pub read_is : (s : Setup) (st : StateView) (m : Memory) (a : Aim) (b : Backing) → StateIs s st m → a.op ≡ Read → StateIs s st (accessed a b m)
read_is s st m a b t e = alike s st m (accessed a b m) (record { flat = refl; holds = λ serial. refl; words = λ serial word. read_same _ a.op _ e; user_words = λ page word. read_same _ a.op _ e }) t

-- a write of a user page
pub user_write_is : (s : Setup) (old new : StateView) (m : Memory) (a : Aim) (page value : ℕ) → StateIs s old m → a.op ≡ Write value → new ≡ record old { user = set old.user page (set (page_in old.user page) a.word value) } → page < s.user → a.word < PAGE_WORDS → StateIs s new (accessed a (User page) m)
user_write_is s old new m a page value t e same lp lw =
    let mid : Memory = record { stored = m.stored; user_words = λ p q. cond (eqb page p && eqb a.word q) value (m.user_words p q) } in
    let is : StateIs s (record old { user = set old.user page (set (page_in old.user page) a.word value) }) mid = record {
      slots_are = t.slots_are;
      attrs_are = t.attrs_are;
      user = user_written s.user old.user m.user_words page a.word value t.user lp lw;
      store = t.store;
      bounded = t.bounded;
      blocks = t.blocks;
    } in
    subst (λ (x : StateView). StateIs s x (accessed a (User page) m)) (sym same)
    (alike s _ mid (accessed a (User page) m) (record { flat = refl; holds = λ serial. refl; words = λ serial word. refl; user_words = λ p q. write_is (eqb page p && eqb a.word q) a.op value (m.user_words p q) e }) is)

-- a write of a folio
pub folio_write_is : (s : Setup) (old new : StateView) (m : Memory) (a : Aim) (folio : OneFolio) (value : ℕ) → StateIs s old m → a.op ≡ Write value → new ≡ record old { store = new.store } → StoreStands s.frames new.store (with_word folio.serial a.word value m.stored) → StateIs s new (accessed a (InFolio folio) m)
folio_write_is s old new m a folio value t e same st =
    let mid : Memory = record { stored = with_word folio.serial a.word value m.stored; user_words = m.user_words } in
    let is : StateIs s (record old { store = new.store }) mid = record {
      slots_are = t.slots_are;
      attrs_are = t.attrs_are;
      user = t.user;
      store = st;
      bounded = t.bounded;
      blocks = t.blocks;
    } in
    subst (λ (x : StateView). StateIs s x (accessed a (InFolio folio) m)) (sym same)
    (alike s _ mid (accessed a (InFolio folio) m) (record { flat = refl; holds = λ serial. refl; words = λ p q. write_is (eqb folio.serial p && eqb a.word q) a.op value (m.stored.words p q) e ∙ flip folio.serial p a.word q value (m.stored.words p q); user_words = λ p q. refl }) is)

-- a live folio's frame has a page
pub frame_there : (s : Setup) (st : StateView) (m : Memory) (folio : OneFolio) → StateIs s st m → frame_of folio.serial m.stored.flat.folios ≡ Some folio.frame → folio.frame < length st.store.bank
frame_there s st m folio t e = subst (λ (n : ℕ). folio.frame < n) (sym t.store.words.count_is) (frame_within s.frames st.store m.stored folio.serial folio.frame t.store e)
