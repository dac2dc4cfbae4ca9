-- A bank: pages of words.
use Rattle.std.specs.Prelude.{◌≡◌, ℕ, ◌+◌, ◌*◌, ◌<◌, ◌≤◌, List, [], ◌∷◌, None, Some, length, map, replicate, slice_index, slice_index_or}
use Rattle.std.specs.declared.option.Option.{Option}
use Rattle.std.specs.List.{range_with_len}
use Rattle.gm_base.specs.declared.numbers.TheConstants.{PAGE_WORDS}

-- the list of the values of f at the numbers below n
unfoldable pub table : {A : Type 0} → ℕ → (ℕ → A) → List A
table n f = map f (range_with_len 0 n)

-- n times the same
unfoldable pub alike : {A : Type 0} → ℕ → A → List A
alike n a = replicate n a

-- a page of zeros
abbrev pub zero_page : List ℕ
zero_page = alike PAGE_WORDS 0

-- a page of words that lie page after page; the words past their end are zero
abbrev pub page_at : List ℕ → ℕ → List ℕ
page_at words place = table PAGE_WORDS (λ word. slice_index words (PAGE_WORDS * place + word))

-- a page with this place among them, or none
abbrev pub page_from : List ℕ → Option ℕ → List ℕ
page_from words None = zero_page
page_from words (Some place) = page_at words place

-- the place of a page's words; pages past the end of the list have none
abbrev pub place_of : List (Option ℕ) → ℕ → Option ℕ
place_of places page = slice_index_or places page None

-- so many pages that have these places
abbrev pub bank_from : ℕ → List (Option ℕ) → List ℕ → List (List ℕ)
bank_from pages places words = table pages (λ page. page_from words (place_of places page))

-- how many pages have places
abbrev pub placed : List (Option ℕ) → ℕ
placed [] = 0
placed (None ∷ places) = placed places
placed (Some place ∷ places) = placed places + 1

-- each place is of one page, there are words for each place and no more, and there is room for the other pages
pub record IsKept (pages : ℕ) (places : List (Option ℕ)) (words : List ℕ) (places_room words_room : ℕ) : Type 0 where
  pub length_of : length places ≤ pages
  pub whole : length words ≡ PAGE_WORDS * placed places
  pub inside : (page place : ℕ) → place_of places page ≡ Some place → place < placed places
  pub apart : (a b place : ℕ) → place_of places a ≡ Some place → place_of places b ≡ Some place → a ≡ b
  pub for_places : pages ≤ places_room
  pub for_words : PAGE_WORDS * pages ≤ words_room

-- a page of a bank
abbrev pub page_in : List (List ℕ) → ℕ → List ℕ
page_in bank page = slice_index_or bank page []

-- a word of a bank
abbrev pub word_in : List (List ℕ) → ℕ → ℕ → ℕ
word_in bank page word = slice_index (page_in bank page) word
