-- The words of a line are found one after another.
use Rattle.std.proofs.Common.{◌≡◌, ℕ, ◌+◌, ◌-◌, ◌<◌, ◌≤◌, List, [], ◌∷◌, length, take, drop, set, get_or, refl, arith, inl, inr, ap, ◌∙◌, sym, subst, add-one}
use Rattle.std.proofs.lemmas.List.{drop_all, drop-drop, get_or-set_other, get_or-set_same, length-set}
use Rattle.std.proofs.lemmas.Bool.{cases_lt, cases_eq}
use Rattle.std.proofs.lemmas.Grind.{common_steps}
use Rattle.gm_script.specs.Split.{cut_of}
use Rattle.gm_script.specs.Lines.{words_of, word_at}
use Rattle.gm_script.specs.Places.{AreFound, IsWordAt}
use Rattle.gm_script.proofs.WordCuts.{none_left, some_cut_of, words_more}

-- before a place that begins a word, or is the line's end: so many words were found
pub record FoundTo (line : List ℕ) (at count : ℕ) (starts ends : List ℕ) : Type 0 where
  pub within : at ≤ length line
  pub begun : cut_of 32 (drop at line) ≡ 0 → drop at line ≡ []
  pub counted : count + length (words_of (drop at line)) ≡ length (words_of line)
  pub rest : (n : ℕ) → word_at (words_of (drop at line)) n ≡ word_at (words_of line) (count + n)
  pub few : count ≤ at
  pub starts_long : length starts ≡ 9
  pub ends_long : length ends ≡ 9
  pub places : (n : ℕ) → n < 9 → n < count → IsWordAt line n (get_or starts n 0) (get_or ends n 0)
  pub beyond : (n : ℕ) → count ≤ n → (get_or starts n 0 ≡ 0) × (get_or ends n 0 ≡ 0)

none_more : (n : ℕ) → n ≡ 0 + n
none_more n = omega arith

pub found_none : (line : List ℕ) (gap : ℕ) (starts ends : List ℕ) → gap ≤ length line → words_of (drop gap line) ≡ words_of line → (cut_of 32 (drop gap line) ≡ 0 → drop gap line ≡ []) → length starts ≡ 9 → length ends ≡ 9 → ((n : ℕ) → get_or starts n 0 ≡ 0) → ((n : ℕ) → get_or ends n 0 ≡ 0) → FoundTo line gap 0 starts ends
found_none line gap starts ends within words begun sl el ss es = record {
  within = within;
  begun = begun;
  counted = let a = ap length words in omega (arith, a);
  rest = λ n. ap (λ (ws : List (List ℕ)). word_at ws n) words ∙ ap (word_at (words_of line)) (none_more n);
  few = omega arith;
  starts_long = sl;
  ends_long = el;
  places = λ n h k. absurd (omega (arith, k));
  beyond = λ n h. (ss n, es n);
}

-- one word more
next_at : (w : List ℕ) (ws : List (List ℕ)) (n : ℕ) → word_at ws n ≡ word_at (w ∷ ws) (n + 1)
next_at w ws n = rw add-one refl

not_empty_at : (line : List ℕ) (at : ℕ) → at < length line → drop at line ≡ [] → ⊥
not_empty_at line at h e = let l = ap length e in grind (arith, common_steps)

head_of : (line : List ℕ) (at : ℕ) → at < length line → (cut_of 32 (drop at line) ≡ 0 → drop at line ≡ []) → words_of (drop at line) ≡ take (cut_of 32 (drop at line)) (drop at line) ∷ words_of (drop (at + cut_of 32 (drop at line)) line)
head_of line at h begun =
    let k : ℕ = cut_of 32 (drop at line) in
    words_more (drop at line) (some_cut_of k (λ e. not_empty_at line at h (begun e))) (grind (arith, common_steps))
    ∙ ap (λ (xs : List ℕ). take k (drop at line) ∷ words_of xs) (drop-drop k at line)

taken : (line : List ℕ) (at k : ℕ) → take ((at + k) - at) (drop at line) ≡ take k (drop at line)
taken line at k = ap (λ (n : ℕ). take n (drop at line)) (minus at k)
  where
    minus : (a b : ℕ) → (a + b) - a ≡ b
    minus a b = omega arith

pub found_more : (line : List ℕ) (at count gap : ℕ) (starts ends : List ℕ) → at < length line → FoundTo line at count starts ends → cut_of 32 (drop at line) ≤ length (drop at line) → gap ≤ length (drop (at + cut_of 32 (drop at line)) line) → words_of (drop gap (drop (at + cut_of 32 (drop at line)) line)) ≡ words_of (drop (at + cut_of 32 (drop at line)) line) → (cut_of 32 (drop gap (drop (at + cut_of 32 (drop at line)) line)) ≡ 0 → drop gap (drop (at + cut_of 32 (drop at line)) line) ≡ []) → FoundTo line ((at + cut_of 32 (drop at line)) + gap) (count + 1) (set starts count at) (set ends count (at + cut_of 32 (drop at line)))
found_more line at count gap starts ends h f cut_in gap_in words begun =
    record {
      within = grind (arith, common_steps);
      begun = λ e. sym drops ∙ begun (ap (cut_of 32) drops ∙ e);
      counted = let a = f.counted in let b = ap length head in let c = ap length left in omega arith;
      rest = rest;
      few = let a = f.few in omega (arith, a, some);
      starts_long = length-set starts count at ∙ f.starts_long;
      ends_long = length-set ends count end ∙ f.ends_long;
      places = places;
      beyond = beyond;
    }
  where
    k : ℕ
    k = cut_of 32 (drop at line)

    end : ℕ
    end = at + k

    some : 0 < k
    some = some_cut_of k (λ e. not_empty_at line at h (f.begun e))

    head : words_of (drop at line) ≡ take k (drop at line) ∷ words_of (drop end line)
    head = head_of line at h f.begun

    drops : drop gap (drop end line) ≡ drop (end + gap) line
    drops = drop-drop gap end line

    left : words_of (drop (end + gap) line) ≡ words_of (drop end line)
    left = ap words_of (sym drops) ∙ words

    shift : (c n : ℕ) → c + (n + 1) ≡ (c + 1) + n
    shift c n = omega arith

    rest : (n : ℕ) → word_at (words_of (drop (end + gap) line)) n ≡ word_at (words_of line) ((count + 1) + n)
    rest n =
        ap (λ (ws : List (List ℕ)). word_at ws n) left
        ∙ (next_at (take k (drop at line)) (words_of (drop end line)) n
        ∙ (ap (λ (ws : List (List ℕ)). word_at ws (n + 1)) (sym head)
        ∙ (f.rest (n + 1) ∙ ap (word_at (words_of line)) (shift count n))))

    here : IsWordAt line count at end
    here = record {
      in_order = omega arith;
      within = grind (arith, common_steps);
      word_is = taken line at k ∙ (ap (λ (ws : List (List ℕ)). word_at ws 0) (sym head) ∙ (f.rest 0 ∙ ap (word_at (words_of line)) (plus count)));
    }
      where
        plus : (c : ℕ) → c + 0 ≡ c
        plus c = omega arith

    here_at : (n : ℕ) → n ≡ count → n < 9 → IsWordAt line n (get_or (set starts count at) n 0) (get_or (set ends count end) n 0)
    here_at n e b =
        subst (λ (m : ℕ). IsWordAt line m (get_or (set starts count at) m 0) (get_or (set ends count end) m 0)) (sym e)
        (subst (λ (lo : ℕ). IsWordAt line count lo (get_or (set ends count end) count 0)) (sym (get_or-set_same starts count at 0 (let l = f.starts_long in omega (arith, l, e, b))))
        (subst (λ (hi : ℕ). IsWordAt line count at hi) (sym (get_or-set_same ends count end 0 (let l = f.ends_long in omega (arith, l, e, b)))) here))

    before : (n : ℕ) → (n ≡ count → ⊥) → n < 9 → n < count + 1 → IsWordAt line n (get_or (set starts count at) n 0) (get_or (set ends count end) n 0)
    before n e b c =
        subst (λ (lo : ℕ). IsWordAt line n lo (get_or (set ends count end) n 0)) (sym (get_or-set_other starts count n at 0 e))
        (subst (λ (hi : ℕ). IsWordAt line n (get_or starts n 0) hi) (sym (get_or-set_other ends count n end 0 e)) (f.places n b (omega (arith, e, c))))

    places : (n : ℕ) → n < 9 → n < count + 1 → IsWordAt line n (get_or (set starts count at) n 0) (get_or (set ends count end) n 0)
    places n b c = elim (cases_eq n count) [
      | inl e ↦ here_at n e b
      | inr e ↦ before n e b c
    ]

    beyond : (n : ℕ) → count + 1 ≤ n → (get_or (set starts count at) n 0 ≡ 0) × (get_or (set ends count end) n 0 ≡ 0)
    beyond n b =
        let e : (n ≡ count → ⊥) = λ same. absurd (omega (arith, same, b)) in
        let old = f.beyond n (omega (arith, b)) in
        (get_or-set_other starts count n at 0 e ∙ old.0, get_or-set_other ends count n end 0 e ∙ old.1)

no_words : (line : List ℕ) (at : ℕ) → length line ≤ at → words_of (drop at line) ≡ []
unfolding words_of
no_words line at h = ap words_of (drop_all at line h)

-- at the line's end all are found
pub found_all : (line : List ℕ) (at count : ℕ) (starts ends : List ℕ) → length line ≤ at → FoundTo line at count starts ends → AreFound line count starts ends
found_all line at count starts ends h f =
    record {
      counted = let a = f.counted in let b = none_left line at h in omega (arith, a, b);
      places = λ n b. elim (cases_lt n count) [
        | inl c ↦ f.places n b c
        | inr c ↦ past n c
      ];
    }
  where
    none : words_of (drop at line) ≡ []
    none = no_words line at h

    empty_at : (ws : List (List ℕ)) (n : ℕ) → ws ≡ [] → word_at ws n ≡ []
    empty_at ws n e = rw e (grind (arith, common_steps))

    gone : (n : ℕ) → count ≤ n → word_at (words_of line) n ≡ []
    gone n c = ap (word_at (words_of line)) (plus n c) ∙ (sym (f.rest (n - count)) ∙ empty_at (words_of (drop at line)) (n - count) none)
      where
        plus : (n : ℕ) → count ≤ n → n ≡ count + (n - count)
        plus n c = omega (arith, c)

    past : (n : ℕ) → count ≤ n → IsWordAt line n (get_or starts n 0) (get_or ends n 0)
    past n c =
        let z = f.beyond n c in
        rw (z.0, z.1) (record { in_order = omega arith; within = omega arith; word_is = sym (gone n c) })

pub found_next : (line : List ℕ) (at count k gap : ℕ) (starts ends : List ℕ) → at < length line → FoundTo line at count starts ends → k ≡ cut_of 32 (drop at line) → k ≤ length (drop at line) → gap ≤ length (drop (at + k) line) → words_of (drop gap (drop (at + k) line)) ≡ words_of (drop (at + k) line) → (cut_of 32 (drop gap (drop (at + k) line)) ≡ 0 → drop gap (drop (at + k) line) ≡ []) → FoundTo line ((at + k) + gap) (count + 1) (set starts count at) (set ends count (at + k))
found_next line at count k gap starts ends h f is =
    subst (λ (m : ℕ). m ≤ length (drop at line) → gap ≤ length (drop (at + m) line) → words_of (drop gap (drop (at + m) line)) ≡ words_of (drop (at + m) line) → (cut_of 32 (drop gap (drop (at + m) line)) ≡ 0 → drop gap (drop (at + m) line) ≡ []) → FoundTo line ((at + m) + gap) (count + 1) (set starts count at) (set ends count (at + m))) (sym is)
    (found_more line at count gap starts ends h f)

-- a word more comes nearer to the end
pub nearer : (line : List ℕ) (at k gap : ℕ) → at < length line → (cut_of 32 (drop at line) ≡ 0 → drop at line ≡ []) → k ≡ cut_of 32 (drop at line) → length line - ((at + k) + gap) < length line - at
nearer line at k gap h begun is = let some = some_cut_of k (λ e. not_empty_at line at h (begun (sym is ∙ e))) in omega (arith, some)
