-- Tables, and banks that are made of them.
use Rattle.std.proofs.Common.{◌≡◌, ◌≢◌, ℕ, ◌+◌, ◌*◌, ◌<◌, ◌≤◌, List, [], length, get_or, set, refl, sym, ◌∙◌, ap, arith, ◌⊎◌, inl, inr, get_or-set_same, get_or-set_other, length-set}
use Rattle.std.specs.Prelude.{None, Some}
use Rattle.std.specs.declared.option.Option.{Option}
use Rattle.std.proofs.lemmas.List.{same_lists, get_or_past, get_or_default, get_or-replicate, length-replicate}
use Rattle.std.proofs.lemmas.List.FromFn.{length-map-range_with_len, get_or-map-range_with_len}
use Rattle.std.proofs.lemmas.Bool.{cases_eq, cases_lt}
use Rattle.gm_base.specs.declared.numbers.TheConstants.{PAGE_WORDS}
use Rattle.gm_words.specs.Banks.{table, alike, zero_page, page_at, page_from, place_of, bank_from, page_in}

pub length-table : {A : Type 0} (n : ℕ) (f : ℕ → A) → length (table n f) ≡ n
unfolding table
length-table n f = length-map-range_with_len f 0 n

pub get_or-table : {A : Type 0} (n : ℕ) (f : ℕ → A) (i : ℕ) (d : A) → i < n → get_or (table n f) i d ≡ f i
unfolding table
get_or-table n f i d h = get_or-map-range_with_len f 0 n i i d h (omega arith)

pub length-alike : {A : Type 0} (n : ℕ) (a : A) → length (alike n a) ≡ n
unfolding alike
length-alike n a = length-replicate n a

pub get_or-alike : {A : Type 0} (n : ℕ) (a : A) (i : ℕ) (d : A) → i < n → get_or (alike n a) i d ≡ a
unfolding alike
get_or-alike n a i d h = get_or-replicate n i a d h

-- a list is a table of what it has
pub is_table : {A : Type 0} (xs : List A) (n : ℕ) (f : ℕ → A) → length xs ≡ n → ((i : ℕ) (d : A) → i < n → get_or xs i d ≡ f i) → xs ≡ table n f
is_table xs n f l at =
    same_lists xs (table n f) (l ∙ sym (length-table n f)) (λ i d h. at i d (omega (arith, l)) ∙ sym (get_or-table n f i d (omega (arith, l))))

pub same_table : {A : Type 0} (n : ℕ) (f g : ℕ → A) → ((i : ℕ) → i < n → f i ≡ g i) → table n f ≡ table n g
same_table n f g same =
    is_table (table n f) n g (length-table n f) (λ i d h. get_or-table n f i d h ∙ same i h)

-- a table with one place set
pub set-table : {A : Type 0} (n : ℕ) (f g : ℕ → A) (at : ℕ) → at < n → ((i : ℕ) → i < n → i ≢ at → f i ≡ g i) → table n f ≡ set (table n g) at (f at)
set-table {A} n f g at within same =
    sym (is_table (set (table n g) at (f at)) n f (length-set (table n g) at (f at) ∙ length-table n g) (λ i d h. place i d h (cases_eq i at)))
  where
    place : (i : ℕ) (d : A) → i < n → ((i ≡ at) ⊎ (i ≢ at)) → get_or (set (table n g) at (f at)) i d ≡ f i
    place i d h (inl e) =
        let l : at < length (table n g) = omega (arith, length-table n g) in
        ap (λ k. get_or (set (table n g) at (f at)) k d) e ∙ (get_or-set_same (table n g) at (f at) d l ∙ ap f (sym e))
    place i d h (inr ne) =
        get_or-set_other (table n g) at i (f at) d ne ∙ (get_or-table n g i d h ∙ sym (same i h ne))

-- no page has a place, so every one is zero
pub empty_bank : (pages : ℕ) (words : List ℕ) → bank_from pages [] words ≡ alike pages zero_page
empty_bank pages words =
    sym (is_table (alike pages zero_page) pages (λ page. page_from words (place_of [] page)) (length-alike pages zero_page) (λ i d h. get_or-alike pages zero_page i d h))

pub page_of_bank : (pages : ℕ) (places : List (Option ℕ)) (words : List ℕ) (page : ℕ) → page < pages → page_in (bank_from pages places words) page ≡ page_from words (place_of places page)
page_of_bank pages places words page h = get_or-table pages (λ page. page_from words (place_of places page)) page [] h

pub length_bank : (bank : List (List ℕ)) (pages : ℕ) (places : List (Option ℕ)) (words : List ℕ) → bank_from pages places words ≡ bank → length bank ≡ pages
length_bank bank pages places words e = ap length (sym e) ∙ length-table pages (λ page. page_from words (place_of places page))

-- a page of a bank, by its place
pub placed_page : (bank : List (List ℕ)) (pages : ℕ) (places : List (Option ℕ)) (words : List ℕ) (page : ℕ) (place : Option ℕ) → bank_from pages places words ≡ bank → page < length bank → place_of places page ≡ place → page_in bank page ≡ page_from words place
placed_page bank pages places words page place e h is =
    ap (λ (b : List (List ℕ)). page_in b page) (sym e)
    ∙ (page_of_bank pages places words page (omega (arith, length_bank bank pages places words e)) ∙ ap (λ (o : Option ℕ). page_from words o) is)

-- what a bank's word is
pub read_bank : (bank : List (List ℕ)) (pages : ℕ) (places : List (Option ℕ)) (words : List ℕ) (page word place at : ℕ) → bank_from pages places words ≡ bank → page < length bank → word < PAGE_WORDS → place_of places page ≡ Some place → at ≡ place * PAGE_WORDS + word → get_or words at 0 ≡ get_or (page_in bank page) word 0
read_bank bank pages places words page word place at e h k is sum =
    ap (λ n. get_or words n 0) (sum ∙ turned)
    ∙ (sym (get_or-table PAGE_WORDS (λ w. get_or words (PAGE_WORDS * place + w) 0) word 0 k) ∙ ap (λ (xs : List ℕ). get_or xs word 0) (sym (placed_page bank pages places words page (Some place) e h is)))
  where
    turned : place * PAGE_WORDS + word ≡ PAGE_WORDS * place + word
    turned = omega arith

-- and of a page without a place
pub read_zero : (bank : List (List ℕ)) (pages : ℕ) (places : List (Option ℕ)) (words : List ℕ) (page word : ℕ) → bank_from pages places words ≡ bank → page < length bank → word < PAGE_WORDS → place_of places page ≡ None → 0 ≡ get_or (page_in bank page) word 0
read_zero bank pages places words page word e h k is =
    sym (get_or-alike PAGE_WORDS 0 word 0 k) ∙ ap (λ (xs : List ℕ). get_or xs word 0) (sym (placed_page bank pages places words page None e h is))

-- a page has its words
pub whole_page : (bank : List (List ℕ)) (pages : ℕ) (places : List (Option ℕ)) (words : List ℕ) (page : ℕ) → bank_from pages places words ≡ bank → page < length bank → length (page_in bank page) ≡ PAGE_WORDS
whole_page bank pages places words page e h =
    ap (λ (xs : List ℕ). length xs) (placed_page bank pages places words page (place_of places page) e h refl) ∙ whole (place_of places page)
  where
    whole : (o : Option ℕ) → length (page_from words o) ≡ PAGE_WORDS
    whole None = length-alike PAGE_WORDS 0
    whole (Some place) = length-table PAGE_WORDS (λ w. get_or words (PAGE_WORDS * place + w) 0)

-- a page is the same where its words are
pub page_same : (old new : List ℕ) (place : ℕ) → ((w : ℕ) → w < PAGE_WORDS → get_or new (PAGE_WORDS * place + w) 0 ≡ get_or old (PAGE_WORDS * place + w) 0) → page_at new place ≡ page_at old place
page_same old new place same = same_table PAGE_WORDS (λ w. get_or new (PAGE_WORDS * place + w) 0) (λ w. get_or old (PAGE_WORDS * place + w) 0) same

-- one page of a bank is set, by what the words at its place become
pub set_page : (bank : List (List ℕ)) (pages : ℕ) (places : List (Option ℕ)) (old new : List ℕ) (page place : ℕ) (next : List ℕ) → bank_from pages places old ≡ bank → page < length bank → place_of places page ≡ Some place → ((a b place : ℕ) → place_of places a ≡ Some place → place_of places b ≡ Some place → a ≡ b) → ((p w : ℕ) → p ≢ place → w < PAGE_WORDS → get_or new (PAGE_WORDS * p + w) 0 ≡ get_or old (PAGE_WORDS * p + w) 0) → length next ≡ PAGE_WORDS → ((w d : ℕ) → w < PAGE_WORDS → get_or next w d ≡ get_or new (PAGE_WORDS * place + w) 0) → bank_from pages places new ≡ set bank page next
set_page bank pages places old new page place next e h is apart others long at =
    set-table pages (λ p. page_from new (place_of places p)) (λ p. page_from old (place_of places p)) page (omega (arith, length_bank bank pages places old e)) (λ p l ne. other (place_of places p) (λ q found same. ne (apart p page place (found ∙ ap (λ (n : ℕ). Some n) same) is)))
    ∙ (ap (λ (xs : List ℕ). set (bank_from pages places old) page xs) here ∙ ap (λ (b : List (List ℕ)). set b page next) e)
  where
    here : page_from new (place_of places page) ≡ next
    here =
        ap (λ (o : Option ℕ). page_from new o) is
        ∙ sym (is_table next PAGE_WORDS (λ w. get_or new (PAGE_WORDS * place + w) 0) long at)

    other : (o : Option ℕ) → ((q : ℕ) → o ≡ Some q → q ≡ place → ⊥) → page_from new o ≡ page_from old o
    other None differs = refl
    other (Some q) differs = page_same old new q (λ w k. others q w (differs q refl) k)

-- a write of one word
pub write_bank : (bank : List (List ℕ)) (pages : ℕ) (places : List (Option ℕ)) (words : List ℕ) (page place word value at : ℕ) → bank_from pages places words ≡ bank → page < length bank → word < PAGE_WORDS → place_of places page ≡ Some place → ((a b place : ℕ) → place_of places a ≡ Some place → place_of places b ≡ Some place → a ≡ b) → at ≡ place * PAGE_WORDS + word → at < length words → bank_from pages places (set words at value) ≡ set bank page (set (page_in bank page) word value)
write_bank bank pages places words page place word value at e h k found apart is within =
    set_page bank pages places words (set words at value) page place (set (page_in bank page) word value) e h found apart others long here
  where
    others : (p w : ℕ) → p ≢ place → w < PAGE_WORDS → get_or (set words at value) (PAGE_WORDS * p + w) 0 ≡ get_or words (PAGE_WORDS * p + w) 0
    others p w ne l = get_or-set_other words at (PAGE_WORDS * p + w) value 0 (omega arith)

    page_length : length (page_in bank page) ≡ PAGE_WORDS
    page_length = whole_page bank pages places words page e h

    long : length (set (page_in bank page) word value) ≡ PAGE_WORDS
    long = length-set (page_in bank page) word value ∙ page_length

    here : (w d : ℕ) → w < PAGE_WORDS → get_or (set (page_in bank page) word value) w d ≡ get_or (set words at value) (PAGE_WORDS * place + w) 0
    here w d l = at_word w d l (cases_eq w word)
      where
        at_word : (w d : ℕ) → w < PAGE_WORDS → ((w ≡ word) ⊎ (w ≢ word)) → get_or (set (page_in bank page) word value) w d ≡ get_or (set words at value) (PAGE_WORDS * place + w) 0
        at_word w d l (inl same_word) =
            ap (λ n. get_or (set (page_in bank page) word value) n d) same_word
            ∙ (get_or-set_same (page_in bank page) word value d (omega (arith, page_length))
            ∙ (sym (get_or-set_same words at value 0 within) ∙ ap (λ n. get_or (set words at value) n 0) (omega (arith, is, same_word))))
        at_word w d l (inr other) =
            get_or-set_other (page_in bank page) word w value d other
            ∙ (get_or_default (page_in bank page) w d 0 (omega (arith, page_length))
            ∙ (sym (read_bank bank pages places words page w place (place * PAGE_WORDS + w) e h l found refl)
            ∙ (ap (λ n. get_or words n 0) (omega arith) ∙ sym (get_or-set_other words at (PAGE_WORDS * place + w) value 0 (omega arith)))))

-- a bank of zeros has no other word
pub zero_words : (pages page word : ℕ) → get_or (page_in (alike pages zero_page) page) word 0 ≡ 0
zero_words pages page word = inside (cases_lt page pages)
  where
    in_page : ((word < PAGE_WORDS) ⊎ (PAGE_WORDS ≤ word)) → get_or zero_page word 0 ≡ 0
    in_page (inl h) = get_or-alike PAGE_WORDS 0 word 0 h
    in_page (inr h) = get_or_past zero_page word 0 (omega (arith, length-alike {A = ℕ} PAGE_WORDS 0))

    inside : ((page < pages) ⊎ (pages ≤ page)) → get_or (page_in (alike pages zero_page) page) word 0 ≡ 0
    inside (inl h) = ap (λ (xs : List ℕ). get_or xs word 0) (get_or-alike pages zero_page page [] h) ∙ in_page (cases_lt word PAGE_WORDS)
    inside (inr h) = ap (λ (xs : List ℕ). get_or xs word 0) (get_or_past (alike pages zero_page) page [] (omega (arith, length-alike pages zero_page)))

-- banks of as many pages have the same length
pub same_length : (bank : List (List ℕ)) (pages : ℕ) (places then : List (Option ℕ)) (old new : List ℕ) → bank_from pages places old ≡ bank → length (bank_from pages then new) ≡ length bank
same_length bank pages places then old new e =
    length-table pages (λ page. page_from new (place_of then page)) ∙ sym (length_bank bank pages places old e)
