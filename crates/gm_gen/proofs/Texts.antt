-- Texts that are added to, word by word and line by line.
use Rattle.std.proofs.Common.{◌≡◌, ℕ, zero, suc, ◌+◌, ◌-◌, ◌<◌, ◌≤◌, List, [], ◌∷◌, ◌++◌, length, get_or, drop, map, refl, subst, sym, ap, ◌∙◌, append_assoc, append-nil, arith, codes, Result, Ok, Err}
use Rattle.std.specs.Result.{OnOk}
use Rattle.std.proofs.lemmas.List.{drop_more, drop_all}
use Rattle.gm_gen.specs.Lines.{ending, line_of, line_text, word_text}
use Rattle.gm_gen.specs.Workload.{Step, command_drawn, command_lines, drawn_out, head_text, lines_drawn, turn_drawn, turn_lines, workload_text}
use Rattle.gm_gen.specs.declared.words.Word.{Word}

-- one word more
pub word_added : (before start now : List ℕ) (words : List Word) (i : ℕ) (d : Word) → i < length words
    → before ++ ending (map word_text (drop i words)) ≡ start
    → now ≡ (before ++ codes " ") ++ word_text (get_or words i d)
    → now ++ ending (map word_text (drop (i + 1) words)) ≡ start
word_added before start now words i d lt e f =
    ap (λ (t : List ℕ). t ++ ending (map word_text (drop (i + 1) words))) f
    ∙ append_assoc (before ++ codes " ") (word_text (get_or words i d)) (ending (map word_text (drop (i + 1) words)))
    ∙ append_assoc before (codes " ") (word_text (get_or words i d) ++ ending (map word_text (drop (i + 1) words)))
    ∙ ap (λ (ws : List Word). before ++ ending (map word_text ws)) (sym (drop_more words i d lt))
    ∙ e

-- one line more
pub line_added : (way : ℕ → Step) (before start now : List ℕ) (n x : ℕ)
    → before ++ lines_drawn way (suc n) x ≡ start
    → now ≡ before ++ line_text (way x).line
    → now ++ lines_drawn way n (way x).x ≡ start
line_added way before start now n x e f =
    ap (λ (t : List ℕ). t ++ lines_drawn way n (way x).x) f ∙ append_assoc before (line_text (way x).line) (lines_drawn way n (way x).x) ∙ e

-- the newline after the last word
pub line_closed : (old first start before : List ℕ) (words : List Word) (i : ℕ) (d : Word) → length words ≤ i
    → before ++ ending (map word_text (drop i words)) ≡ start ++ ending (map word_text words)
    → start ≡ old ++ first
    → (now : List ℕ) → now ≡ before ++ codes "\n" → now ≡ old ++ line_of first (map word_text words)
line_closed old first start before words i d le e f now g =
    g
    ∙ ap (λ (ws : List Word). before ++ ending (map word_text ws)) (sym (drop_all i words le))
    ∙ e
    ∙ ap (λ (t : List ℕ). t ++ ending (map word_text words)) f
    ∙ append_assoc old first (ending (map word_text words))

-- of an Ok that tells something
pub ok_tells : {A E : Type 0} (r : Result A E) (P Q : Type 0) → (P → Q) → OnOk r P → OnOk r Q
ok_tells (Ok x) P Q f p = f p
ok_tells (Err e) P Q f p = tt

-- a turn of a loop that adds lines: how many are left
left_is : (count i : ℕ) → i < count → count - i ≡ suc (count - (i + 1))
left_is count i h = omega arith

none_left : (count i : ℕ) → count ≤ i → count - i ≡ 0
none_left count i h = omega arith

pub lines_step : (way : ℕ → Step) (before start now : List ℕ) (count i x y : ℕ) → i < count → y ≡ (way x).x
    → before ++ lines_drawn way (count - i) x ≡ start
    → now ≡ before ++ line_text (way x).line
    → now ++ lines_drawn way (count - (i + 1)) y ≡ start
lines_step way before start now count i x y lt e p q =
    subst (λ (z : ℕ). now ++ lines_drawn way (count - (i + 1)) z ≡ start) (sym e)
    (line_added way before start now (count - (i + 1)) x (subst (λ (n : ℕ). before ++ lines_drawn way n x ≡ start) (left_is count i lt) p) q)

pub drawn_step : (way : ℕ → Step) (count i x y end : ℕ) → i < count → y ≡ (way x).x
    → drawn_out way (count - i) x ≡ end → drawn_out way (count - (i + 1)) y ≡ end
drawn_step way count i x y end lt e p =
    subst (λ (z : ℕ). drawn_out way (count - (i + 1)) z ≡ end) (sym e) (subst (λ (n : ℕ). drawn_out way n x ≡ end) (left_is count i lt) p)

pub lines_done : (way : ℕ → Step) (before start : List ℕ) (count i x : ℕ) → count ≤ i → before ++ lines_drawn way (count - i) x ≡ start → before ≡ start
lines_done way before start count i x h p =
    sym (append-nil before) ∙ subst (λ (n : ℕ). before ++ lines_drawn way n x ≡ start) (none_left count i h) p

pub drawn_done : (way : ℕ → Step) (count i x end : ℕ) → count ≤ i → drawn_out way (count - i) x ≡ end → x ≡ end
drawn_done way count i x end h p = subst (λ (n : ℕ). drawn_out way n x ≡ end) (none_left count i h) p

all_left : (count : ℕ) → count - 0 ≡ count
all_left count = omega arith

pub lines_begin : (way : ℕ → Step) (before : List ℕ) (count x : ℕ) → before ++ lines_drawn way (count - 0) x ≡ before ++ lines_drawn way count x
lines_begin way before count x = ap (λ (n : ℕ). before ++ lines_drawn way n x) (all_left count)

pub drawn_begin : (way : ℕ → Step) (count x : ℕ) → drawn_out way (count - 0) x ≡ drawn_out way count x
drawn_begin way count x = ap (λ (n : ℕ). drawn_out way n x) (all_left count)

-- the head, the commands and the turns
pub workload_is : (number turns x : ℕ) (head both all : List ℕ)
    → head ≡ head_text
    → both ≡ head ++ lines_drawn command_drawn (command_lines turns) number
    → x ≡ drawn_out command_drawn (command_lines turns) number
    → all ≡ both ++ lines_drawn turn_drawn (turn_lines turns) x
    → all ≡ workload_text number turns
unfolding workload_text
workload_is number turns x head both all e f g h =
    h
    ∙ ap (λ (y : ℕ). both ++ lines_drawn turn_drawn (turn_lines turns) y) g
    ∙ ap (λ (t : List ℕ). t ++ lines_drawn turn_drawn (turn_lines turns) (drawn_out command_drawn (command_lines turns) number)) (f ∙ ap (λ (t : List ℕ). t ++ lines_drawn command_drawn (command_lines turns) number) e)
    ∙ append_assoc head_text (lines_drawn command_drawn (command_lines turns) number) (lines_drawn turn_drawn (turn_lines turns) (drawn_out command_drawn (command_lines turns) number))
