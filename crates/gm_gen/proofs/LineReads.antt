-- Lines of words are read back: their bytes, their words, and what stands after them.
use Rattle.std.proofs.Common.{◌≡◌, ℕ, zero, suc, ◌+◌, ◌<◌, ◌≤◌, List, [], ◌∷◌, ◌++◌, length, Bool, true, false, not, ◌&&◌, ◌||◌, leb, eqb, cond, codes, refl, sym, ap, subst, ◌∙◌, append_assoc, append-nil, arith, Result, Ok, Err, Option, Some, None}
use Rattle.std.proofs.lemmas.Bool.{and_parts}
use Rattle.std.proofs.lemmas.Bool.Decides.{nat_tests}
use Rattle.gm_script.specs.Grammar.{Draft, Verdict, after_line, going, judged, judged_on, later_line, said}
use Rattle.gm_script.specs.Lines.{Line, full_pieces, has_bad_byte, is_skipped, is_text, lines_of, onto_line, words_of}
use Rattle.gm_script.specs.Split.{onto_first, split_at}
use Rattle.gm_script.specs.declared.error.Cause.{Cause}
use Rattle.gm_gen.specs.Lines.{ending, line_of}

-- bytes of a word: no space and no newline
abbrev pub is_word_byte : ℕ → Bool
is_word_byte b = leb 33 b && leb b 126

abbrev pub all_word : List ℕ → Bool
all_word [] = true
all_word (b ∷ bs) = is_word_byte b && all_word bs

pub record IsWord (w : List ℕ) : Type 0 where
  pub bytes : all_word w ≡ true
  pub some : 0 < length w

abbrev pub AreWords : List (List ℕ) → Type 0
AreWords [] = Unit {0}
AreWords (w ∷ ws) = IsWord w × AreWords ws

-- the words after the first, each after a space
abbrev pub tail_of : List (List ℕ) → List ℕ
tail_of [] = []
tail_of (w ∷ ws) = 32 ∷ (w ++ tail_of ws)

ending_is : (ws : List (List ℕ)) (x : List ℕ) → ending ws ++ x ≡ tail_of ws ++ 10 ∷ x
ending_is [] x = refl
ending_is (w ∷ ws) x = ap (λ (t : List ℕ). 32 ∷ t) (append_assoc w (ending ws) x ∙ ap (λ (t : List ℕ). w ++ t) (ending_is ws x) ∙ sym (append_assoc w (tail_of ws) (10 ∷ x)))

line_is : (first : List ℕ) (rest : List (List ℕ)) (x : List ℕ) → line_of first rest ++ x ≡ (first ++ tail_of rest) ++ 10 ∷ x
line_is first rest x = append_assoc first (ending rest) x ∙ ap (λ (t : List ℕ). first ++ t) (ending_is rest x) ∙ sym (append_assoc first (tail_of rest) (10 ∷ x))

-- words

not_space : (b : ℕ) → is_word_byte b ≡ true → eqb b 32 ≡ false
not_space b h = grind (arith, nat_tests)

split_word : (w x : List ℕ) → all_word w ≡ true → split_at 32 (w ++ 32 ∷ x) ≡ w ∷ split_at 32 x
split_word [] x h = refl
split_word (b ∷ w) x h =
    let q = and_parts (is_word_byte b) (all_word w) h in
    rw (not_space b q.0, split_word w x q.1) refl

split_last : (w : List ℕ) → all_word w ≡ true → split_at 32 w ≡ w ∷ []
split_last [] h = refl
split_last (b ∷ w) h =
    let q = and_parts (is_word_byte b) (all_word w) h in
    rw (not_space b q.0, split_last w q.1) refl

split_line : (first : List ℕ) (rest : List (List ℕ)) → IsWord first → AreWords rest → split_at 32 (first ++ tail_of rest) ≡ first ∷ rest
split_line first [] h k = ap (split_at 32) (append-nil first) ∙ split_last first h.bytes
split_line first (w ∷ ws) h k = split_word first (w ++ tail_of ws) h.bytes ∙ ap (λ (l : List (List ℕ)). first ∷ l) (split_line w ws k.0 k.1)

full_first : (w : List ℕ) (ws : List (List ℕ)) → 0 < length w → full_pieces (w ∷ ws) ≡ w ∷ full_pieces ws
full_first [] ws h = absurd (omega arith)
full_first (b ∷ w) ws h = refl

full_words : (ws : List (List ℕ)) → AreWords ws → full_pieces ws ≡ ws
full_words [] h = refl
full_words (w ∷ ws) h = full_first w ws h.0.some ∙ ap (λ (l : List (List ℕ)). w ∷ l) (full_words ws h.1)

pub words_read : (first : List ℕ) (rest : List (List ℕ)) → IsWord first → AreWords rest → words_of (first ++ tail_of rest) ≡ first ∷ rest
unfolding words_of
words_read first rest h k = ap full_pieces (split_line first rest h k) ∙ full_words (first ∷ rest) (h, k)

-- bytes

word_text_byte : (b : ℕ) → is_word_byte b ≡ true → is_text b ≡ true
word_text_byte b h = grind (arith, nat_tests)

fine_word : (w x : List ℕ) → all_word w ≡ true → has_bad_byte x ≡ false → has_bad_byte (w ++ x) ≡ false
fine_word [] x h e = e
fine_word (b ∷ w) x h e =
    let q = and_parts (is_word_byte b) (all_word w) h in
    rw (word_text_byte b q.0) (fine_word w x q.1 e)

fine_tail : (ws : List (List ℕ)) → AreWords ws → has_bad_byte (tail_of ws) ≡ false
fine_tail [] h = refl
fine_tail (w ∷ ws) h = fine_word w (tail_of ws) h.0.bytes (fine_tail ws h.1)

-- lines

or_parts : (a b : Bool) → (not a || b) ≡ false → (a ≡ true) × (b ≡ false)
or_parts true false e = (refl, refl)
or_parts true true e = absurd cc
or_parts false b e = absurd cc

not_newline : (b : ℕ) → is_text b ≡ true → eqb b 10 ≡ false
not_newline b h = grind (arith, nat_tests)

line_first : (xs x : List ℕ) → has_bad_byte xs ≡ false → lines_of (xs ++ 10 ∷ x) ≡ record { bytes = xs; is_ended = true } ∷ lines_of x
line_first [] x h = refl
line_first (b ∷ xs) x h =
    let q = or_parts (is_text b) (has_bad_byte xs) h in
    rw (not_newline b q.0, line_first xs x q.1) refl

after_is : (d d' : Draft) (bytes : List ℕ) (words : List (List ℕ)) → has_bad_byte bytes ≡ false → words_of bytes ≡ words → is_skipped words ≡ false → later_line d words ≡ Ok d'
    → after_line (Some d) (record { bytes = bytes; is_ended = true }) ≡ Ok (Some d')
unfolding after_line
after_is d d' bytes words e f g h = rw (e, f, g, h) refl

-- a line of words makes of a script what its words say, and is followed by what stands after it
pub line_read : (d d' : Draft) (first : List ℕ) (rest : List (List ℕ)) → IsWord first → AreWords rest → is_skipped (first ∷ rest) ≡ false → later_line d (first ∷ rest) ≡ Ok d'
    → (number : ℕ) (x : List ℕ) → judged (lines_of (line_of first rest ++ x)) number (Some d) ≡ judged (lines_of x) (number + 1) (Some d')
line_read d d' first rest h k s e number x =
    ap (λ (l : List Line). judged l number (Some d)) (ap lines_of (line_is first rest x) ∙ line_first (first ++ tail_of rest) x (fine_word first (tail_of rest) h.bytes (fine_tail rest k)))
    ∙ ap (λ (r : Result (Option Draft) Cause). judged_on number r (judged (lines_of x) (number + 1)))
    (after_is d d' (first ++ tail_of rest) (first ∷ rest) (fine_word first (tail_of rest) h.bytes (fine_tail rest k)) (words_read first rest h k) s e)
