-- The number that digits make.
use Rattle.std.proofs.Common.{◌≡◌, ℕ, ◌+◌, ◌*◌, ◌-◌, ◌<◌, ◌≤◌, List, [], ◌∷◌, length, drop, get_or, refl, arith, ◌∙◌, sym, subst}
use Rattle.std.proofs.lemmas.List.{drop_more}
use Rattle.gm_history.specs.Numerals.{read_on, NUMBER_LIMIT}

-- more digits make no lesser number
pub read_grows : (limit n : ℕ) (ds : List ℕ) → limit ≤ n → limit ≤ read_on n ds
read_grows limit n [] h = h
read_grows limit n (d ∷ ds) h = read_grows limit (10 * n + (d - 48)) ds (omega arith)

-- a number that is too great stays so
pub stays_great : (n i : ℕ) (ds : List ℕ) → i < length ds → NUMBER_LIMIT ≤ 10 * n + (get_or ds i 0 - 48) → read_on n (drop i ds) ≡ read_on 0 ds → NUMBER_LIMIT ≤ read_on 0 ds
stays_great n i ds h g e =
    let here : read_on n (drop i ds) ≡ read_on (10 * n + (get_or ds i 0 - 48)) (drop (i + 1) ds) = rw (drop_more ds i 0 h) refl in
    subst (λ m. NUMBER_LIMIT ≤ m) (sym here ∙ e) (read_grows NUMBER_LIMIT (10 * n + (get_or ds i 0 - 48)) (drop (i + 1) ds) g)
