-- Memory after pages that calls add.
use Rattle.std.proofs.Common.{◌≡◌, ℕ, ◌+◌, ◌<◌, ◌&&◌, Bool, true, false, refl, cond, leb, ltb, Option, Some, None, ◌∙◌}
use Rattle.std.specs.Prelude.{IfNone, IfSome}
use Rattle.gm_base.specs.declared.numbers.TheConstants.{PAGE_WORDS}
use Rattle.gm_base.specs.declared.values.Folio.{Folio}
use Rattle.gm_base.specs.declared.values.Setup.{Setup}
use Rattle.gm_flat.specs.Effects.{Addition}
use Rattle.gm_store.specs.Added.{AddedOne, FirstUsed, addition_of, one_page}
use Rattle.gm_store.specs.Stored.{StoreStands, Stored, with_addition}
use Rattle.gm_store.specs.Views.{StoreView}
use Rattle.gm_store.specs.declared.first_use.Used.{Used}
use Rattle.gm_words.specs.Banks.{word_in}
use Rattle.gm_state.proofs.Storing.{with_store}
use Rattle.gm_state.specs.Paging.{CopyAdded, FirstAdded}
use Rattle.gm_state.specs.Stand.{Memory, StateIs}
use Rattle.gm_state.specs.Views.{StateView}

-- a first use
pub first_added : (s : Setup) (file index : ℕ) (u : Used) (st : StateView) (used : StoreView) (m : Memory) → FirstUsed s.frames file index u used m.stored → StateIs s st m → FirstAdded s file index u (record st { store = used }) m
first_added s file index u st used m f i = record {
  adds = f.adds;
  serial_is = f.serial_is;
  is = with_store s st used m (with_addition (addition_of file u) (λ word. 0) m.stored) refl refl f.stands i;
}

-- words that are the same below the words of a page
either_word : (t : Bool) (a b c : ℕ) → a ≡ b → cond t a c ≡ cond t b c
either_word true a b c e = e
either_word false a b c e = refl

same_words : (frames : ℕ) (st : StoreView) (d : Addition) (now then : ℕ → ℕ) (k : Stored) → ((word : ℕ) → word < PAGE_WORDS → now word ≡ then word) → StoreStands frames st (with_addition d now k) → StoreStands frames st (with_addition d then k)
same_words frames st d now then k e t = record {
  files = t.files;
  pool = t.pool;
  cache = t.cache;
  words = record {
    count_is = t.words.count_is;
    whole = t.words.whole;
    words_are = λ serial frame word is lt. t.words.words_are serial frame word is lt ∙ either_word (leb d.serial serial && ltb serial (d.serial + d.pages)) (now word) (then word) (k.words serial word) (e word lt);
  };
}

-- a copy of a user page
pub copy_added : (s : Setup) (file index page : ℕ) (folio : Folio) (st : StateView) (used : StoreView) (m : Memory) → page < s.user → AddedOne s.frames file index folio (λ word. word_in st.user page word) used m.stored → StateIs s st m → CopyAdded s file index page folio (record st { store = used }) m
copy_added s file index page folio st used m lt a i =
    let d : Addition = one_page file index folio in
    record {
      adds = a.adds;
      serial_is = a.serial_is;
      is = with_store s st used m (with_addition d (λ word. m.user_words page word) m.stored) refl refl
          (same_words s.frames used d (λ word. word_in st.user page word) (λ word. m.user_words page word) m.stored (λ word below. i.user.words_are page word lt below) a.stands) i;
    }

-- from what holds of the store's answer to what holds of the state's
pub when_some : {A : Type 0} (P Q : A → Type 0) (o : Option A) → ((x : A) → P x → Q x) → IfSome o P → IfSome o Q
when_some P Q None f h = tt
when_some P Q (Some x) f h = f x h

pub when_none : {A : Type 0} (P Q : Type 0) (o : Option A) → (P → Q) → IfNone o P → IfNone o Q
when_none P Q None f h = f h
when_none P Q (Some x) f h = tt
