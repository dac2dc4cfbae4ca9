-- The spans of a bracket's line are read back, and what is read is such a line.
use Rattle.std.proofs.Common.{◌≡◌, ℕ, List, [], ◌∷◌, ◌++◌, Bool, true, false, not, cond, eqb, Option, None, Some, refl, sym, ◌∙◌, ap, subst, append-nil, arith, eq-eqb}
use Rattle.std.specs.Prelude.{codes}
use Rattle.std.specs.Fmt.{decimal}
use Rattle.std.proofs.lemmas.Bool.{and_parts}
use Rattle.std.proofs.lemmas.Bool.Decides.{nat_tests}
use Rattle.gm_base.specs.Extent.{Extent}
use Rattle.gm_flat.specs.Roomy.{AreOfPages, IsOfPages}
use Rattle.gm_flat.specs.declared.entry.What.{What}
use Rattle.gm_flat.specs.declared.entry.What.TheVariants.{Begin}
use Rattle.gm_text.specs.Text.{spans_text, span_text}
use Rattle.gm_history.specs.Cuts.{strip, split_at, onto_first}
use Rattle.gm_history.specs.Fields.{OfSpan, part_text, span_at}
use Rattle.gm_history.specs.Numerals.{Got, with_got}
use Rattle.gm_history.specs.Patterns.{ended}
use Rattle.gm_history.specs.Reading.{Verdict, Bad, if_more}
use Rattle.gm_history.proofs.Splits.{more_after}
use Rattle.gm_history.specs.Whats.{span_on, spans_of, word_span_of, begun, begin_on, begin_words, begin_of}
use Rattle.gm_history.proofs.NumberReads.{lacks}
use Rattle.gm_history.proofs.FieldReads.{none_some, some_is, strip_sound, with_got_sound, span_sound, span_gives, field_lacks}
use Rattle.gm_history.proofs.Weaving.{ended_sound}
use Rattle.gm_history.proofs.Says.{Said}

split_free : (t : Bool) (x b : ℕ) (xs : List ℕ) (pieces : List (List ℕ)) → t ≡ eqb x b → not (eqb x b) ≡ true → pieces ≡ xs ∷ [] → cond t ([] ∷ pieces) (onto_first x pieces) ≡ (x ∷ xs) ∷ []
split_free true x b xs pieces h n e = absurd (clash (eqb x b) h n)
  where
    clash : (t : Bool) → true ≡ t → not t ≡ true → ⊥
    clash true h n = cc
    clash false h n = cc
split_free false x b xs pieces h n e = ap (onto_first x) e

-- bytes without the separator are one piece
pub split_lacks : (b : ℕ) (w : List ℕ) → lacks b w ≡ true → split_at b w ≡ w ∷ []
split_lacks b [] h = refl
split_lacks b (x ∷ w) h =
    let q = and_parts (not (eqb x b)) (lacks b w) h in
    split_free (eqb x b) x b w (split_at b w) refl q.0 (split_lacks b w q.1)

split_on : (t : Bool) (x b : ℕ) (w : List ℕ) (pieces more : List (List ℕ)) → t ≡ eqb x b → not (eqb x b) ≡ true → pieces ≡ w ∷ more → cond t ([] ∷ pieces) (onto_first x pieces) ≡ (x ∷ w) ∷ more
split_on true x b w pieces more h n e = absurd (clash (eqb x b) h n)
  where
    clash : (t : Bool) → true ≡ t → not t ≡ true → ⊥
    clash true h n = cc
    clash false h n = cc
split_on false x b w pieces more h n e = ap (onto_first x) e

split_here : (t : Bool) (b : ℕ) (pieces : List (List ℕ)) → t ≡ true → cond t ([] ∷ pieces) (onto_first b pieces) ≡ [] ∷ pieces
split_here true b pieces h = refl
split_here false b pieces h = absurd cc

-- a piece, the separator, and more
pub split_more : (b : ℕ) (w x : List ℕ) → lacks b w ≡ true → split_at b (w ++ (b ∷ x)) ≡ w ∷ split_at b x
split_more b [] x h = split_here (eqb b b) b (split_at b x) (eq-eqb b b refl)
split_more b (a ∷ w) x h =
    let q = and_parts (not (eqb a b)) (lacks b w) h in
    split_on (eqb a b) a b w (split_at b (w ++ (b ∷ x))) (split_at b x) refl q.0 (split_more b w x q.1)

-- pieces, each after the separator
abbrev pub tails : ℕ → List (List ℕ) → List ℕ
tails b [] = []
tails b (p ∷ ps) = b ∷ (p ++ tails b ps)

abbrev pub unsplit : ℕ → List (List ℕ) → List ℕ
unsplit b [] = []
unsplit b (p ∷ ps) = p ++ tails b ps

unsplit_step : (t : Bool) (x b : ℕ) (xs : List ℕ) (p : List ℕ) (ps : List (List ℕ)) → t ≡ eqb x b → p ++ tails b ps ≡ xs → unsplit b (cond t ([] ∷ (p ∷ ps)) ((x ∷ p) ∷ ps)) ≡ x ∷ xs
unsplit_step true x b xs p ps h e = ap (λ (l : List ℕ). b ∷ l) e ∙ ap (λ (n : ℕ). n ∷ xs) (is_same x b h)
  where
    is_same : (x b : ℕ) → true ≡ eqb x b → b ≡ x
    is_same x b h = grind (arith, nat_tests)
unsplit_step false x b xs p ps h e = ap (λ (l : List ℕ). x ∷ l) e

unsplit_on : (x b : ℕ) (xs : List ℕ) (pieces : List (List ℕ)) → ((number : ℕ) (verdict : Verdict) → if_more number pieces verdict ≡ verdict) → unsplit b pieces ≡ xs → unsplit b (cond (eqb x b) ([] ∷ pieces) (onto_first x pieces)) ≡ x ∷ xs
unsplit_on x b xs [] h e = absurd (clash (h 0 (Bad 1)))
  where
    clash : Bad 0 ≡ Bad 1 → ⊥
    clash e = cc
unsplit_on x b xs (p ∷ ps) h e = unsplit_step (eqb x b) x b xs p ps refl e

pub unsplit_is : (b : ℕ) (xs : List ℕ) → unsplit b (split_at b xs) ≡ xs
unsplit_is b [] = refl
unsplit_is b (x ∷ xs) = unsplit_on x b xs (split_at b xs) (λ number verdict. more_after number b xs verdict) (unsplit_is b xs)

-- a span's word
abbrev span_word : Extent → List ℕ
span_word s = part_text OfSpan s

word_text : (s : Extent) (x : List ℕ) → span_text s ++ x ≡ 32 ∷ (span_word s ++ x)
word_text s x = ap (λ (l : List ℕ). (32 ∷ (decimal s.lo ++ (codes "-" ++ l))) ++ x) (append-nil (decimal s.hi))

span_words : List Extent → List (List ℕ)
span_words [] = []
span_words (s ∷ ss) = span_word s ∷ span_words ss

spans_split : (w : List ℕ) (ss : List Extent) → lacks 32 w ≡ true → AreOfPages ss → split_at 32 (w ++ spans_text ss) ≡ w ∷ span_words ss
unfolding span_words
spans_split w [] h r = ap (split_at 32) (append-nil w) ∙ split_lacks 32 w h
spans_split w (s ∷ ss) h r =
    ap (λ (l : List ℕ). split_at 32 (w ++ l)) (word_text s (spans_text ss))
    ∙ split_more 32 w (span_word s ++ spans_text ss) h
    ∙ ap (λ (l : List (List ℕ)). w ∷ l) (spans_split (span_word s) ss (field_lacks 32 OfSpan s (omega arith) r.0) r.1)

word_gives : (s : Extent) → IsOfPages s → word_span_of (span_word s) ≡ Some s
unfolding word_span_of
word_gives s r =
    ap (λ (l : List ℕ). with_got (span_at l) (λ s rest. ended s rest)) (sym (append-nil (span_word s)))
    ∙ ap (λ (o : Option (Got Extent)). with_got o (λ s rest. ended s rest)) (span_gives s [] r tt)

spans_give : (ss : List Extent) → AreOfPages ss → spans_of (span_words ss) ≡ Some ss
unfolding span_words
spans_give [] r = refl
spans_give (s ∷ ss) r =
    ap (λ (o : Option Extent). span_on o (spans_of (span_words ss))) (word_gives s r.0)
    ∙ ap (λ (o : Option (List Extent)). span_on (Some s) o) (spans_give ss r.1)

pub begin_gives : (ss : List Extent) → AreOfPages ss → begin_of (codes "begin" ++ spans_text ss) ≡ Some (Begin (record { list = ss; spare = 0 }))
unfolding begin_of strip
begin_gives ss r = ap begin_words (spans_split (codes "begin") ss refl r) ∙ ap begun (spans_give ss r)

-- the other way
span_on_sound : (o : Option Extent) (p : Option (List Extent)) (ss : List Extent) → span_on o p ≡ Some ss → (s : Extent) × (o ≡ Some s) × ((more : List Extent) × (p ≡ Some more) × (s ∷ more ≡ ss))
span_on_sound None p ss e = none_some e
span_on_sound (Some s) None ss e = none_some e
span_on_sound (Some s) (Some more) ss e = (s, refl, (more, refl, some_is e))

word_sound : (w : List ℕ) (s : Extent) → word_span_of w ≡ Some s → (w ≡ span_word s) × IsOfPages s
unfolding word_span_of
word_sound w s e =
    let a = with_got_sound (span_at w) (λ s rest. ended s rest) s e in
    let b = ended_sound a.0.value a.0.rest s a.2 in
    let c = span_sound w a.0 a.1 in
    subst (λ (z : Extent). (w ≡ span_word z) × IsOfPages z) b.1 (c.0 ∙ ap (λ (l : List ℕ). span_word a.0.value ++ l) b.0 ∙ append-nil (span_word a.0.value), c.1)

spans_sound : (ws : List (List ℕ)) (ss : List Extent) → spans_of ws ≡ Some ss → (spans_text ss ≡ tails 32 ws) × AreOfPages ss
spans_sound [] ss e = subst (λ (l : List Extent). (spans_text l ≡ []) × AreOfPages l) (some_is e) (refl, tt)
spans_sound (w ∷ ws) ss e =
    let a = span_on_sound (word_span_of w) (spans_of ws) ss e in
    let b = word_sound w a.0 a.1 in
    let c = spans_sound ws a.2.0 a.2.1 in
    subst (λ (l : List Extent). (spans_text l ≡ tails 32 (w ∷ ws)) × AreOfPages l) a.2.2
    (word_text a.0 (spans_text a.2.0) ∙ ap (λ (l : List ℕ). 32 ∷ (l ++ spans_text a.2.0)) (sym b.0) ∙ ap (λ (l : List ℕ). 32 ∷ (w ++ l)) c.0, (b.1, c.1))

begun_sound : (o : Option (List Extent)) (w : What) → begun o ≡ Some w → (ss : List Extent) × (o ≡ Some ss) × (Begin (record { list = ss; spare = 0 }) ≡ w)
begun_sound None w e = none_some e
begun_sound (Some ss) w e = (ss, refl, some_is e)

begin_on_sound : (o : Option (List ℕ)) (ws : List (List ℕ)) (w : What) → begin_on o ws ≡ Some w → (o ≡ Some []) × (begun (spans_of ws) ≡ Some w)
begin_on_sound None ws w e = none_some e
begin_on_sound (Some []) ws w e = (refl, e)
begin_on_sound (Some (b ∷ rest)) ws w e = none_some e

words_sound : (pieces : List (List ℕ)) (w : What) → begin_words pieces ≡ Some w → Said (unsplit 32 pieces) w
words_sound [] w e = none_some e
words_sound (p ∷ ps) w e =
    let a = begin_on_sound (strip (codes "begin") p) ps w e in
    let b = begun_sound (spans_of ps) w a.1 in
    let c = spans_sound ps b.0 b.1 in
    let word : p ≡ codes "begin" = strip_sound (codes "begin") p [] a.0 in
    subst (λ (v : What). Said (p ++ tails 32 ps) v) b.2
    (record { text = ap (λ (l : List ℕ). codes "begin" ++ l) c.0 ∙ ap (λ (l : List ℕ). l ++ tails 32 ps) (sym word); plain = tt; ranged = c.1 })

pub begin_sound : (line : List ℕ) (w : What) → begin_of line ≡ Some w → Said line w
unfolding begin_of
begin_sound line w e = subst (λ (l : List ℕ). Said l w) (unsplit_is 32 line) (words_sound (split_at 32 line) w e)
