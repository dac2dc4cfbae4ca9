use Rattle.std.proofs.Common.{◌≡◌, List, [], ℕ, ap, ◌∙◌, get_or, length}
use Rattle.std.specs.declared.option.Option.{Option}
use Rattle.gm_words.specs.Banks.{alike, zero_page, page_in, bank_from}
use Rattle.gm_words.proofs.Tables.{empty_bank, zero_words, length-alike}
use Rattle.gm_words.proofs.bank.Bank.new.Goals as goal

made : (pages : ℕ) (places : List (Option ℕ)) (words : List ℕ) → places ≡ [] → bank_from pages places words ≡ alike pages zero_page
made pages places words e = ap (λ (ps : List (Option ℕ)). bank_from pages ps words) e ∙ empty_bank pages words

pub returns : goal.returns
returns c =
    let bank = made c.args.pages c.in_ok-places.places.items c.in_ok-words.words.items c.in_ok-places.ensures.items in
    record {
      pages = bank;
      len = ap length bank ∙ length-alike c.args.pages zero_page;
      zero = λ page word. ap (λ (b : List (List ℕ)). get_or (page_in b page) word 0) bank ∙ zero_words c.args.pages page word;
    }
