-- A whole page written at once.
use Rattle.std.proofs.Common.{[], ◌≡◌, ◌≢◌, ℕ, ◌+◌, ◌*◌, ◌<◌, ◌≤◌, List, length, get_or, set, sym, ◌∙◌, ap, arith, replicate, take, drop, length-take, length-drop, get_or-take, get_or-drop, ◌⊎◌, inl, inr}
use Rattle.std.specs.Prelude.{None, Some}
use Rattle.std.specs.declared.option.Option.{Option}
use Rattle.std.proofs.lemmas.List.{places, get_or_default, set-get_or, same_lists, length-replicate, get_or-replicate}
use Rattle.std.proofs.lemmas.Bool.{cases_lt}
use borrow.Rule.Slice.PartMut.{put_mid}
use Rattle.gm_base.specs.declared.numbers.TheConstants.{PAGE_WORDS}
use Rattle.gm_words.specs.Banks.{bank_from, page_in, place_of, zero_page}
use Rattle.gm_words.proofs.Tables.{set_page, get_or-alike, length-alike, is_table, placed_page}

pub below_mid : (a k i : ℕ) (xs ys : List ℕ) → a ≤ length xs → i < a → get_or (put_mid a k xs ys) i 0 ≡ get_or xs i 0
below_mid a k i xs ys h l = grind (arith, places)

pub in_mid : (a k i : ℕ) (xs ys : List ℕ) (d : ℕ) → a ≤ length xs → i < length ys → get_or ys i d ≡ get_or (put_mid a k xs ys) (a + i) 0
in_mid a k i xs ys d h l = grind (arith, places)

pub above_mid : (a k i : ℕ) (xs ys : List ℕ) → a ≤ length xs → length ys ≡ k → a + k ≤ i → get_or (put_mid a k xs ys) i 0 ≡ get_or xs i 0
above_mid a k i xs ys h e l = grind (arith, places)

-- the words of a page are written
pub put_bank : (bank : List (List ℕ)) (pages : ℕ) (homes : List (Option ℕ)) (kept next words : List ℕ) (page place at k : ℕ) → bank_from pages homes kept ≡ bank → page < length bank → place_of homes page ≡ Some place → ((a b place : ℕ) → place_of homes a ≡ Some place → place_of homes b ≡ Some place → a ≡ b) → length next ≡ PAGE_WORDS → at ≡ place * PAGE_WORDS → k ≡ PAGE_WORDS → at + PAGE_WORDS ≤ length kept → words ≡ put_mid at k kept next → bank_from pages homes words ≡ set bank page next
put_bank bank pages homes kept next words page place at k e h found apart long at_is k_is room is =
    ap (λ (xs : List ℕ). bank_from pages homes xs) is
    ∙ set_page bank pages homes kept (put_mid at k kept next) page place next e h found apart others long here
  where
    others : (p w : ℕ) → p ≢ place → w < PAGE_WORDS → get_or (put_mid at k kept next) (PAGE_WORDS * p + w) 0 ≡ get_or kept (PAGE_WORDS * p + w) 0
    others p w ne l = side p w ne l (cases_lt p place)
      where
        side : (p w : ℕ) → p ≢ place → w < PAGE_WORDS → ((p < place) ⊎ (place ≤ p)) → get_or (put_mid at k kept next) (PAGE_WORDS * p + w) 0 ≡ get_or kept (PAGE_WORDS * p + w) 0
        side p w ne l (inl before) = below_mid at k (PAGE_WORDS * p + w) kept next (omega arith) (omega arith)
        side p w ne l (inr after) =
            above_mid at k (PAGE_WORDS * p + w) kept next (omega arith) (omega arith) (omega arith)

    here : (w d : ℕ) → w < PAGE_WORDS → get_or next w d ≡ get_or (put_mid at k kept next) (PAGE_WORDS * place + w) 0
    here w d l =
        in_mid at k w kept next d (omega arith) (omega arith)
        ∙ ap (λ n. get_or (put_mid at k kept next) n 0) (omega arith)

-- a page without a place is zero already
pub zero_already : (bank : List (List ℕ)) (pages : ℕ) (homes : List (Option ℕ)) (words : List ℕ) (page : ℕ) → bank_from pages homes words ≡ bank → page < length bank → place_of homes page ≡ None → bank ≡ set bank page zero_page
zero_already bank pages homes words page e h is =
    sym (ap (λ (next : List ℕ). set bank page next) (sym (placed_page bank pages homes words page None e h is)) ∙ set-get_or bank page [])

-- a write to a part keeps the length
pub length_mid : (a k : ℕ) (xs ys : List ℕ) → a + k ≤ length xs → length ys ≡ k → length (put_mid a k xs ys) ≡ length xs
length_mid a k xs ys h e = grind (arith, places)

-- a list of zeros is a page of them
pub replicate_zero : (n : ℕ) → n ≡ PAGE_WORDS → replicate n 0 ≡ zero_page
replicate_zero n e =
    let zeros : length zero_page ≡ PAGE_WORDS = length-alike PAGE_WORDS 0 in
    sym (same_lists zero_page (replicate n 0) (zeros ∙ (sym e ∙ sym (length-replicate n 0))) (λ i d h. get_or-alike PAGE_WORDS 0 i d (omega arith) ∙ sym (get_or-replicate n i 0 d (omega arith))))

-- the length of a part of the words
pub part_length : (at k : ℕ) (words seen : List ℕ) → seen ≡ words → at + k ≤ length words → k ≡ PAGE_WORDS → length (take k (drop at seen)) ≡ PAGE_WORDS
part_length at k words seen is room whole = simp (length-take, length-drop) (omega (arith, ap length is))

-- a part of the words that is one page of a bank
pub kept_page : (bank : List (List ℕ)) (pages : ℕ) (homes : List (Option ℕ)) (words seen : List ℕ) (page place at k : ℕ) → bank_from pages homes words ≡ bank → page < length bank → place_of homes page ≡ Some place → seen ≡ words → at ≡ place * PAGE_WORDS → k ≡ PAGE_WORDS → at + k ≤ length words → take k (drop at seen) ≡ page_in bank page
kept_page bank pages homes words seen page place at k e h found is at_is whole room =
    is_table (take k (drop at seen)) PAGE_WORDS (λ w. get_or words (PAGE_WORDS * place + w) 0) long (λ w d l. get_or_default (take k (drop at seen)) w d 0 (omega (arith, long)) ∙ here w l)
    ∙ sym (placed_page bank pages homes words page (Some place) e h found)
  where
    long : length (take k (drop at seen)) ≡ PAGE_WORDS
    long = part_length at k words seen is room whole

    here : (w : ℕ) → w < PAGE_WORDS → get_or (take k (drop at seen)) w 0 ≡ get_or words (PAGE_WORDS * place + w) 0
    here w l =
        get_or-take k (drop at seen) w 0 (omega arith)
        ∙ (get_or-drop at seen w 0 ∙ (ap (λ (xs : List ℕ). get_or xs (at + w) 0) is ∙ ap (λ n. get_or words n 0) (omega arith)))
