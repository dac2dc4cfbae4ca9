-- The words of folios after a write, and after a folio is added.
use Rattle.std.proofs.Common.{◌≡◌, ℕ, ◌+◌, ◌<◌, ◌&&◌, leb, ltb, List, [], ◌∷◌, Bool, true, false, length, get_or, set, Some, arith, refl, ap, sym, subst, ◌∙◌, cond, eqb, inl, inr}
use Rattle.std.proofs.lemmas.Bool.{both_ways, cases_Bool, eqb-true, eq-eqb}
use Rattle.std.proofs.lemmas.Bool.Decides.{nat_tests}
use Rattle.std.proofs.lemmas.List.{length-set}
use Rattle.gm_base.specs.declared.numbers.TheConstants.{PAGE_WORDS}
use Rattle.gm_flat.specs.FlatState.{FolioState}
use Rattle.gm_flat.specs.RightLives.{frame_of}
use Rattle.gm_words.specs.Banks.{page_in, word_in}
use Rattle.gm_store.proofs.Basics.{differ, flipped, set_else, set_here, some_is}
use Rattle.gm_store.proofs.Pooling.{new_folio}
use Rattle.gm_store.specs.Stored.{WordsStand, words_after}

-- a frame's page is replaced
pub page_whole : (n : ℕ) (bank : List (List ℕ)) (frame : ℕ) (page : List ℕ) → length bank ≡ n → frame < n → length page ≡ PAGE_WORDS → ((k : ℕ) → k < n → length (page_in bank k) ≡ PAGE_WORDS) → (k : ℕ) → k < n → length (page_in (set bank frame page) k) ≡ PAGE_WORDS
page_whole n bank frame page len lt whole each k lk = elim (cases_Bool (eqb frame k)) [
  | inl e ↦ ap length (set_here bank frame k page [] (subst (λ (m : ℕ). frame < m) (sym len) lt) (eqb-true frame k e)) ∙ whole
  | inr e ↦ ap length (set_else bank frame k page [] e) ∙ each k lk
]

-- a new folio in a frame that no folio has
pub words_added : {n : ℕ} {bank : List (List ℕ)} {xs : List FolioState} {words : ℕ → ℕ → ℕ} (next : List (List ℕ)) (serial frame : ℕ) (page : List ℕ) (now : ℕ → ℕ) → WordsStand n bank xs words → frame < n → ((s : ℕ) → frame_of s xs ≡ Some frame → ⊥) → length page ≡ PAGE_WORDS → ((w : ℕ) → w < PAGE_WORDS → get_or page w 0 ≡ now w) → next ≡ set bank frame page → WordsStand n next (new_folio serial frame ∷ xs) (words_after serial 1 now words)
words_added {n = n} {bank = bank} {xs = xs} {words = words} next serial frame page now b lt alone whole page_is is = subst (λ (q : List (List ℕ)). WordsStand n q (new_folio serial frame ∷ xs) (words_after serial 1 now words)) (sym is) stands
  where
    just : (s : ℕ) → (leb serial s && ltb s (serial + 1)) ≡ eqb serial s
    just s = elim (cases_Bool (eqb serial s)) [ inl e ↦ hit serial s e ∙ sym e | inr e ↦ miss serial s e ∙ sym e ]
      where
        hit : (a s : ℕ) → eqb a s ≡ true → (leb a s && ltb s (a + 1)) ≡ true
        hit a s e = grind (arith, nat_tests)

        miss : (a s : ℕ) → eqb a s ≡ false → (leb a s && ltb s (a + 1)) ≡ false
        miss a s e = grind (arith, nat_tests)

    within : frame < length bank
    within = subst (λ (m : ℕ). frame < m) (sym b.count_is) lt

    go : (s r w : ℕ) (t : Bool) → eqb serial s ≡ t → cond t (Some frame) (frame_of s xs) ≡ Some r → w < PAGE_WORDS → word_in (set bank frame page) r w ≡ cond t (now w) (words s w)
    go s r w true a e lw = ap (λ (p : List ℕ). get_or p w 0) (set_here bank frame r page [] within (some_is frame r e)) ∙ page_is w lw
    go s r w false a e lw = ap (λ (p : List ℕ). get_or p w 0) (set_else bank frame r page [] (differ frame r (λ f. alone s (e ∙ ap Some (sym f))))) ∙ b.words_are s r w e lw

    stands : WordsStand n (set bank frame page) (new_folio serial frame ∷ xs) (words_after serial 1 now words)
    stands = record {
      count_is = length-set bank frame page ∙ b.count_is;
      whole = page_whole n bank frame page b.count_is lt whole b.whole;
      words_are = λ s r w e lw. go s r w (eqb serial s) refl e lw ∙ ap (λ (t : Bool). cond t (now w) (words s w)) (sym (just s));
    }

-- a word of a live folio is written
pub word_written : {n : ℕ} {bank : List (List ℕ)} {xs : List FolioState} {words : ℕ → ℕ → ℕ} (next : List (List ℕ)) (serial frame word value : ℕ) → WordsStand n bank xs words → frame < n → word < PAGE_WORDS → frame_of serial xs ≡ Some frame → ((s : ℕ) → frame_of s xs ≡ Some frame → s ≡ serial) → next ≡ set bank frame (set (page_in bank frame) word value) → WordsStand n next xs (λ s w. cond (eqb s serial && eqb w word) value (words s w))
word_written {n = n} {bank = bank} {xs = xs} {words = words} next serial frame word value b lt lw at alone is = subst (λ (q : List (List ℕ)). WordsStand n q xs (λ s w. cond (eqb s serial && eqb w word) value (words s w))) (sym is) stands
  where
    within : frame < length bank
    within = subst (λ (m : ℕ). frame < m) (sym b.count_is) lt

    page : List ℕ
    page = set (page_in bank frame) word value

    whole : length (set (page_in bank frame) word value) ≡ PAGE_WORDS
    whole = length-set (page_in bank frame) word value ∙ b.whole frame lt

    inside : word < length (page_in bank frame)
    inside = subst (λ (m : ℕ). word < m) (sym (b.whole frame lt)) lw

    here : (r w : ℕ) → eqb frame r ≡ true → word_in (set bank frame (set (page_in bank frame) word value)) r w ≡ get_or (set (page_in bank frame) word value) w 0
    here r w e = ap (λ (p : List ℕ). get_or p w 0) (set_here bank frame r (set (page_in bank frame) word value) [] within (eqb-true frame r e))

    own : (s r w : ℕ) (t : Bool) → eqb w word ≡ t → eqb frame r ≡ true → frame_of s xs ≡ Some r → w < PAGE_WORDS → eqb s serial ≡ true → word_in (set bank frame (set (page_in bank frame) word value)) r w ≡ cond t value (words s w)
    own s r w true a e f l q = here r w e ∙ set_here (page_in bank frame) word w value 0 inside (sym (eqb-true w word a))
    own s r w false a e f l q = here r w e ∙ (set_else (page_in bank frame) word w value 0 (flipped w word false a) ∙ (ap (λ (k : ℕ). word_in bank k w) (eqb-true frame r e) ∙ b.words_are s r w f l))

    go : (s r w : ℕ) (t : Bool) → eqb s serial ≡ t → frame_of s xs ≡ Some r → w < PAGE_WORDS → word_in (set bank frame (set (page_in bank frame) word value)) r w ≡ cond (t && eqb w word) value (words s w)
    go s r w true a e l = own s r w (eqb w word) refl (eq-eqb frame r (some_is frame r (sym at ∙ (ap (λ (j : ℕ). frame_of j xs) (sym (eqb-true s serial a)) ∙ e)))) e l a
    go s r w false a e l = ap (λ (p : List ℕ). get_or p w 0) (set_else bank frame r (set (page_in bank frame) word value) [] (differ frame r (λ f. both_ways (eqb s serial) a (eq-eqb s serial (alone s (e ∙ ap Some (sym f))))))) ∙ b.words_are s r w e l

    stands : WordsStand n (set bank frame (set (page_in bank frame) word value)) xs (λ s w. cond (eqb s serial && eqb w word) value (words s w))
    stands = record {
      count_is = length-set bank frame (set (page_in bank frame) word value) ∙ b.count_is;
      whole = page_whole n bank frame (set (page_in bank frame) word value) b.count_is lt whole b.whole;
      words_are = λ s r w e l. go s r w (eqb s serial) refl e l;
    }
