-- Words by where they begin and end.
use Rattle.std.proofs.Common.{◌≡◌, ℕ, zero, suc, ◌+◌, ◌<◌, ◌≤◌, List, [], ◌∷◌, length, take, drop, refl, arith, Bool, true, false, eqb, cond, get_or, ap, ◌∙◌, sym, add-one}
use Rattle.std.proofs.lemmas.List.{drop_more, drop_all}
use Rattle.std.proofs.lemmas.Grind.{common_steps}
use Rattle.gm_script.specs.Split.{cut_of, split_at, onto_first}
use Rattle.gm_script.specs.Lines.{words_of, full_pieces}

-- before a space no word ends
pub skip_space : (xs : List ℕ) (i d : ℕ) → i < length xs → get_or xs i d ≡ 32 → words_of (drop i xs) ≡ words_of (drop (i + 1) xs)
unfolding words_of
skip_space xs i d h e = rw (drop_more xs i d h, e) refl

-- the pieces after the first
tail_of : List ℕ → List (List ℕ)
tail_of [] = []
tail_of (x ∷ xs) = cond (eqb x 32) (split_at 32 xs) (tail_of xs)

split_step : (b : Bool) (x n : ℕ) (xs : List ℕ) (pieces tail : List (List ℕ)) → pieces ≡ take n xs ∷ tail → cond b ([] ∷ pieces) (onto_first x pieces) ≡ take (cond b 0 (n + 1)) (x ∷ xs) ∷ cond b pieces tail
split_step true x n xs pieces tail h = refl
split_step false x n xs pieces tail h = rw (h, add-one) refl

split_tail : (xs : List ℕ) → split_at 32 xs ≡ take (cut_of 32 xs) xs ∷ tail_of xs
unfolding tail_of
split_tail [] = refl
split_tail (x ∷ xs) = split_step (eqb x 32) x (cut_of 32 xs) xs (split_at 32 xs) (tail_of xs) (split_tail xs)

tail_step : (b : Bool) (x n : ℕ) (xs : List ℕ) (tail : List (List ℕ)) → full_pieces (split_at 32 (drop n xs)) ≡ full_pieces tail → b ≡ eqb x 32 → full_pieces (split_at 32 (drop (cond b 0 (n + 1)) (x ∷ xs))) ≡ full_pieces (cond b (split_at 32 xs) tail)
tail_step true x n xs tail h e = rw (← e) refl
tail_step false x n xs tail h e = rw add-one h

tail_words : (xs : List ℕ) → full_pieces (split_at 32 (drop (cut_of 32 xs) xs)) ≡ full_pieces (tail_of xs)
unfolding tail_of
tail_words [] = refl
tail_words (x ∷ xs) = tail_step (eqb x 32) x (cut_of 32 xs) xs (tail_of xs) (tail_words xs) refl

full_first : (piece : List ℕ) (pieces : List (List ℕ)) → 0 < length piece → full_pieces (piece ∷ pieces) ≡ piece ∷ full_pieces pieces
full_first [] pieces h = absurd (omega arith)
full_first (x ∷ xs) pieces h = refl

some_taken : (n : ℕ) (xs : List ℕ) → 0 < n → 0 < length xs → 0 < length (take n xs)
some_taken n xs h k = grind (arith, common_steps)

-- the first word, and then those of the rest
pub words_more : (xs : List ℕ) → 0 < cut_of 32 xs → 0 < length xs → words_of xs ≡ take (cut_of 32 xs) xs ∷ words_of (drop (cut_of 32 xs) xs)
unfolding words_of
words_more xs h k = ap full_pieces (split_tail xs) ∙ full_first (take (cut_of 32 xs) xs) (tail_of xs) (some_taken (cut_of 32 xs) xs h k) ∙ ap (λ (ws : List (List ℕ)). take (cut_of 32 xs) xs ∷ ws) (sym (tail_words xs))

-- a cut that isn't at the start
pub some_cut_of : (n : ℕ) → (n ≡ 0 → ⊥) → 0 < n
some_cut_of zero h = absurd (h refl)
some_cut_of (suc n) h = omega arith

pub none_left : (xs : List ℕ) (i : ℕ) → length xs ≤ i → length (words_of (drop i xs)) ≡ 0
unfolding words_of
none_left xs i h = rw (drop_all i xs h) refl
