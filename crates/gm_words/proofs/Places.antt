-- Pages that have places.
use Rattle.std.proofs.Common.{◌≡◌, ◌≢◌, ℕ, zero, suc, ◌+◌, ◌*◌, ◌<◌, ◌≤◌, List, [], ◌∷◌, length, get_or, refl, sym, ◌∙◌, ap, arith, inl, inr}
use Rattle.std.specs.Prelude.{None, Some}
use Rattle.std.specs.declared.option.Option.{Option}
use Rattle.std.proofs.lemmas.List.{get_or_past}
use Rattle.std.proofs.lemmas.Bool.{cases_eq}
use Rattle.gm_base.specs.declared.numbers.TheConstants.{PAGE_WORDS}
use Rattle.gm_words.specs.Banks.{zero_page, page_at, page_from, place_of, bank_from, placed, IsKept}
use Rattle.gm_words.proofs.Tables.{same_table, is_table, length-alike, get_or-alike, page_same}

-- the place that a look-up found
pub found : (places seen : List (Option ℕ)) (page : ℕ) (o : Option ℕ) → seen ≡ places → o ≡ place_of seen page → place_of places page ≡ o
found places seen page o e is = ap (λ (ps : List (Option ℕ)). place_of ps page) (sym e) ∙ sym is

pub placed-length : (ps : List (Option ℕ)) → placed ps ≤ length ps
placed-length [] = omega arith
placed-length (None ∷ ps) = omega (arith, placed-length ps)
placed-length (Some p ∷ ps) = omega (arith, placed-length ps)

-- where a page has no place, not all have one
pub placed-room : (ps : List (Option ℕ)) (at n : ℕ) → place_of ps at ≡ None → at < n → length ps ≤ n → placed ps < n
placed-room [] at n is h l = omega arith
placed-room (None ∷ ps) at n is h l = omega (arith, placed-length ps)
placed-room (Some p ∷ ps) zero n is h l = absurd cc
placed-room (Some p ∷ ps) (suc at) zero is h l = absurd (omega arith)
placed-room (Some p ∷ ps) (suc at) (suc n) is h l = omega (arith, placed-room ps at n is (omega arith) (omega arith))

-- lists of the same places have as many
pub placed-same : (a b : List (Option ℕ)) → ((p : ℕ) → place_of b p ≡ place_of a p) → placed b ≡ placed a
placed-same [] [] same = refl
placed-same [] (None ∷ b) same = placed-same [] b (λ p. same (suc p))
placed-same [] (Some y ∷ b) same = let h = same 0 in absurd cc
placed-same (None ∷ a) [] same = placed-same a [] (λ p. same (suc p))
placed-same (Some x ∷ a) [] same = let h = same 0 in absurd cc
placed-same (None ∷ a) (None ∷ b) same = placed-same a b (λ p. same (suc p))
placed-same (None ∷ a) (Some y ∷ b) same = let h = same 0 in absurd cc
placed-same (Some x ∷ a) (None ∷ b) same = let h = same 0 in absurd cc
placed-same (Some x ∷ a) (Some y ∷ b) same = ap (λ n. n + 1) (placed-same a b (λ p. same (suc p)))

-- one more
pub placed-more : (a b : List (Option ℕ)) (at x : ℕ) → place_of a at ≡ None → place_of b at ≡ Some x → ((p : ℕ) → p ≢ at → place_of b p ≡ place_of a p) → placed b ≡ placed a + 1
placed-more a [] at x none is same = absurd cc
placed-more [] (None ∷ b) zero x none is same = absurd cc
placed-more [] (Some y ∷ b) zero x none is same = ap (λ n. n + 1) (placed-same [] b (λ p. same (suc p) (omega arith)))
placed-more (None ∷ a) (None ∷ b) zero x none is same = absurd cc
placed-more (None ∷ a) (Some y ∷ b) zero x none is same = ap (λ n. n + 1) (placed-same a b (λ p. same (suc p) (omega arith)))
placed-more (Some z ∷ a) (y ∷ b) zero x none is same = absurd cc
placed-more [] (None ∷ b) (suc at) x none is same = placed-more [] b at x refl is (λ p ne. same (suc p) (omega arith))
placed-more [] (Some y ∷ b) (suc at) x none is same = let h = same 0 (omega arith) in absurd cc
placed-more (None ∷ a) (None ∷ b) (suc at) x none is same = placed-more a b at x none is (λ p ne. same (suc p) (omega arith))
placed-more (None ∷ a) (Some y ∷ b) (suc at) x none is same = let h = same 0 (omega arith) in absurd cc
placed-more (Some z ∷ a) (None ∷ b) (suc at) x none is same = let h = same 0 (omega arith) in absurd cc
placed-more (Some z ∷ a) (Some y ∷ b) (suc at) x none is same = ap (λ n. n + 1) (placed-more a b at x none is (λ p ne. same (suc p) (omega arith)))

-- a page gets a place, and a page of zeros is added for it
pub record Adds (places after : List (Option ℕ)) (words next : List ℕ) (page place : ℕ) : Type 0 where
  pub none : place_of places page ≡ None
  pub here : place_of after page ≡ Some place
  pub others : (p : ℕ) → p ≢ page → place_of after p ≡ place_of places p
  pub last : length words ≡ PAGE_WORDS * place
  pub longer : length next ≡ length words + PAGE_WORDS
  pub same : (n : ℕ) → get_or next n 0 ≡ get_or words n 0

pub adds_kept : (pages : ℕ) (places after : List (Option ℕ)) (words next : List ℕ) (page place r0 s0 r s : ℕ) → Adds places after words next page place → IsKept pages places words r0 s0 → length after ≤ pages → r0 ≤ r → s0 ≤ s → IsKept pages after next r s
adds_kept pages places after words next page place r0 s0 r s a k l p q =
    record {
      length_of = l;
      whole = omega (arith, more, k.whole, a.longer);
      inside = within;
      apart = differ;
      for_places = omega (arith, k.for_places);
      for_words = omega (arith, k.for_words);
    }
  where
    more : placed after ≡ placed places + 1
    more = placed-more places after page place a.none a.here a.others

    is_last : place ≡ placed places
    is_last = omega (arith, a.last, k.whole)

    within : (p found : ℕ) → place_of after p ≡ Some found → found < placed after
    within p found is = elim (cases_eq p page) [
      | inl e ↦ (let same : Some found ≡ Some place = sym is ∙ (ap (λ n. place_of after n) e ∙ a.here) in let also : found ≡ place = cc in omega (arith, more, is_last))
      | inr ne ↦ omega (arith, more, k.inside p found (sym (a.others p ne) ∙ is))
    ]

    new_alone : (p found : ℕ) → p ≢ page → found ≡ place → place_of after p ≡ Some found → ⊥
    new_alone p found ne e is = omega (arith, is_last, k.inside p found (sym (a.others p ne) ∙ is))

    place_here : (p found : ℕ) → p ≡ page → place_of after p ≡ Some found → found ≡ place
    place_here p found e is =
        let same : Some found ≡ Some place = sym is ∙ (ap (λ n. place_of after n) e ∙ a.here) in
        cc

    differ : (x y found : ℕ) → place_of after x ≡ Some found → place_of after y ≡ Some found → x ≡ y
    differ x y found f g = elim (cases_eq x page) [
      | inl e ↦ (elim (cases_eq y page) [
        | inl d ↦ omega arith
        | inr d ↦ absurd (new_alone y found d (place_here x found e f) g)
      ])
      | inr e ↦ (elim (cases_eq y page) [
        | inl d ↦ absurd (new_alone x found e (place_here y found d g) f)
        | inr d ↦ k.apart x y found (sym (a.others x e) ∙ f) (sym (a.others y d) ∙ g)
      ])
    ]

-- the bank stays
pub adds_same : (pages : ℕ) (places after : List (Option ℕ)) (words next : List ℕ) (page place : ℕ) → Adds places after words next page place → bank_from pages after next ≡ bank_from pages places words
adds_same pages places after words next page place a =
    same_table pages (λ p. page_from next (place_of after p)) (λ p. page_from words (place_of places p)) each
  where
    stays : (o : Option ℕ) → page_from next o ≡ page_from words o
    stays None = refl
    stays (Some q) = page_same words next q (λ w l. a.same (PAGE_WORDS * q + w))

    zero_there : page_at words place ≡ zero_page
    zero_there =
        sym (is_table zero_page PAGE_WORDS (λ w. get_or words (PAGE_WORDS * place + w) 0) (length-alike PAGE_WORDS 0) (λ w d l. get_or-alike PAGE_WORDS 0 w d l ∙ sym (get_or_past words (PAGE_WORDS * place + w) 0 (omega (arith, a.last)))))

    each : (p : ℕ) → p < pages → page_from next (place_of after p) ≡ page_from words (place_of places p)
    each p l = stays (place_of after p) ∙ elim (cases_eq p page) [
      | inl e ↦ (ap (λ (o : Option ℕ). page_from words o) (ap (λ n. place_of after n) e ∙ a.here) ∙ (zero_there ∙ ap (λ (o : Option ℕ). page_from words o) (sym (ap (λ n. place_of places n) e ∙ a.none))))
      | inr ne ↦ ap (λ (o : Option ℕ). page_from words o) (a.others p ne)
    ]
