-- What is read where a word was written.
use Rattle.std.proofs.Common.{◌≡◌, ℕ, ◌<◌, List, [], get_or, set, length, ap, ◌∙◌, arith}
use Rattle.std.proofs.lemmas.List.{get_or-set_same}
use Rattle.gm_base.specs.declared.numbers.TheConstants.{PAGE_WORDS}
use Rattle.gm_words.specs.Banks.{page_in, word_in}

-- the word of a bank that was written last is the value
pub word_back : (old new : List (List ℕ)) (page word value : ℕ) → new ≡ set old page (set (page_in old page) word value) → page < length old → length (page_in old page) ≡ PAGE_WORDS → word < PAGE_WORDS → word_in new page word ≡ value
word_back old new page word value e h whole k =
    ap (λ (bank : List (List ℕ)). word_in bank page word) e
    ∙ ap (λ (words : List ℕ). get_or words word 0) (get_or-set_same old page (set (page_in old page) word value) [] h)
    ∙ get_or-set_same (page_in old page) word value 0 (omega arith)
