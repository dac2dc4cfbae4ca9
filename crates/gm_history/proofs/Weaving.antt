-- Patterns are read back from their texts, and what is read is such a text.
use Rattle.std.proofs.Common.{◌≡◌, ℕ, ◌<◌, List, [], ◌∷◌, ◌++◌, Bool, true, false, not, ◌&&◌, Option, Some, refl, sym, ◌∙◌, ap, subst, append_assoc, append-nil}
use Rattle.std.proofs.lemmas.Bool.{and_parts, both_ways}
use Rattle.gm_history.specs.Cuts.{strip}
use Rattle.gm_history.specs.Fields.{Part, Value, IsRanged, part_text, field_at, after}
use Rattle.gm_history.specs.Numerals.{Got, got, with_got, with_rest, is_digit}
use Rattle.gm_history.specs.Patterns.{Piece, Say, Holes, AreHolesRanged, weave, parse, ended, whole}
use Rattle.gm_history.proofs.NumberReads.{NoDigit, lacks, lacks_append}
use Rattle.gm_history.proofs.FieldReads.{strip_sound, strip_gives, with_got_sound, with_rest_sound, field_sound, field_gives, field_lacks, none_some, some_is}

-- a word begins with a byte that is no digit
abbrev begins : List ℕ → Bool
begins [] = false
begins (b ∷ w) = not (is_digit b)

-- the words but for the first do
abbrev all_begin : List Piece → Bool
all_begin [] = true
all_begin (Say word part ∷ pieces) = begins word && all_begin pieces

abbrev pub separated : List Piece → Bool
separated [] = true
separated (Say word part ∷ pieces) = all_begin pieces

-- what was read: the values and what stands after them
pub record Found {A : Type 0} (pieces : List Piece) (bytes : List ℕ) (next : Holes pieces → List ℕ → Option A) (v : A) : Type 0 where
  pub holes : Holes pieces
  pub rest : List ℕ
  pub text : bytes ≡ weave pieces holes ++ rest
  pub ranged : AreHolesRanged pieces holes
  pub value : next holes rest ≡ Some v

after_sound : (word : List ℕ) (p : Part) (bytes : List ℕ) (g : Got (Value p)) → after word p bytes ≡ Some g → (bytes ≡ word ++ (part_text p g.value ++ g.rest)) × IsRanged p g.value
unfolding after
after_sound word p bytes g e =
    let a = with_rest_sound (strip word bytes) (λ rest. field_at p rest) g e in
    let b = field_sound p a.0 g a.2 in
    (strip_sound word bytes a.0 a.1 ∙ ap (λ (l : List ℕ). word ++ l) b.0, b.1)

after_gives : (word : List ℕ) (p : Part) (v : Value p) (x : List ℕ) → IsRanged p v → NoDigit x → after word p (word ++ (part_text p v ++ x)) ≡ Some (got v x)
unfolding after
after_gives word p v x r d = ap (λ (o : Option (List ℕ)). with_rest o (λ rest. field_at p rest)) (strip_gives word (part_text p v ++ x)) ∙ field_gives p v x r d

grouped : (w t r x : List ℕ) → (w ++ (t ++ r)) ++ x ≡ w ++ (t ++ (r ++ x))
grouped w t r x = append_assoc w (t ++ r) x ∙ ap (λ (l : List ℕ). w ++ l) (append_assoc t r x)

pub parse_sound : {A : Type 0} (pieces : List Piece) (bytes : List ℕ) (next : Holes pieces → List ℕ → Option A) (v : A) → parse pieces bytes next ≡ Some v → Found pieces bytes next v
parse_sound [] bytes next v e = record { holes = tt; rest = bytes; text = refl; ranged = tt; value = e }
parse_sound (Say word part ∷ pieces) bytes next v e =
    let a = with_got_sound (after word part bytes) (λ value rest. parse pieces rest (λ h more. next (value, h) more)) v e in
    let b = after_sound word part bytes a.0 a.1 in
    let c = parse_sound pieces a.0.rest (λ h more. next (a.0.value, h) more) v a.2 in
    record {
      holes = (a.0.value, c.holes);
      rest = c.rest;
      text = b.0 ∙ ap (λ (l : List ℕ). word ++ (part_text part a.0.value ++ l)) c.text ∙ sym (grouped word (part_text part a.0.value) (weave pieces c.holes) c.rest);
      ranged = (b.1, c.ranged);
      value = c.value;
    }

word_begins : (w x : List ℕ) → begins w ≡ true → NoDigit (w ++ x)
word_begins [] x e = absurd (both_ways false refl e)
word_begins (b ∷ w) x e = flip (is_digit b) e
  where
    flip : (t : Bool) → not t ≡ true → t ≡ false
    flip true e = absurd (both_ways false refl e)
    flip false e = refl

weave_begins : (pieces : List Piece) (h : Holes pieces) (x : List ℕ) → all_begin pieces ≡ true → NoDigit x → NoDigit (weave pieces h ++ x)
weave_begins [] h x s d = d
weave_begins (Say word part ∷ pieces) h x s d =
    subst NoDigit (sym (append_assoc word (part_text part h.0 ++ weave pieces h.1) x)) (word_begins word ((part_text part h.0 ++ weave pieces h.1) ++ x) (and_parts (begins word) (all_begin pieces) s).0)

all_separated : (pieces : List Piece) → all_begin pieces ≡ true → separated pieces ≡ true
all_separated [] s = refl
all_separated (Say word part ∷ pieces) s = (and_parts (begins word) (all_begin pieces) s).1

pub parse_gives : {A : Type 0} (pieces : List Piece) (h : Holes pieces) (x : List ℕ) (next : Holes pieces → List ℕ → Option A) → AreHolesRanged pieces h → separated pieces ≡ true → NoDigit x → parse pieces (weave pieces h ++ x) next ≡ next h x
parse_gives [] h x next r s d = refl
parse_gives (Say word part ∷ pieces) h x next r s d =
    ap (λ (l : List ℕ). parse (Say word part ∷ pieces) l next) (grouped word (part_text part h.0) (weave pieces h.1) x)
    ∙ ap (λ (o : Option (Got (Value part))). with_got o (λ value rest. parse pieces rest (λ k more. next (value, k) more))) (after_gives word part h.0 (weave pieces h.1 ++ x) r.0 (weave_begins pieces h.1 x s d))
    ∙ parse_gives pieces h.1 x (λ k more. next (h.0, k) more) r.1 (all_separated pieces s) d

pub ended_sound : {A : Type 0} (a : A) (rest : List ℕ) (v : A) → ended a rest ≡ Some v → (rest ≡ []) × (a ≡ v)
ended_sound a [] v e = (refl, some_is e)
ended_sound a (b ∷ rest) v e = none_some e

-- what a whole line says
pub record IsWhole {A : Type 0} (pieces : List Piece) (build : Holes pieces → A) (line : List ℕ) (v : A) : Type 0 where
  pub holes : Holes pieces
  pub text : line ≡ weave pieces holes
  pub ranged : AreHolesRanged pieces holes
  pub value : build holes ≡ v

pub whole_sound : {A : Type 0} (pieces : List Piece) (build : Holes pieces → A) (line : List ℕ) (v : A) → whole pieces build line ≡ Some v → IsWhole pieces build line v
whole_sound pieces build line v e =
    let f = parse_sound pieces line (λ h rest. ended (build h) rest) v e in
    let g = ended_sound (build f.holes) f.rest v f.value in
    record {
      holes = f.holes;
      text = f.text ∙ ap (λ (l : List ℕ). weave pieces f.holes ++ l) g.0 ∙ append-nil (weave pieces f.holes);
      ranged = f.ranged;
      value = g.1;
    }

pub whole_gives : {A : Type 0} (pieces : List Piece) (build : Holes pieces → A) (h : Holes pieces) → AreHolesRanged pieces h → separated pieces ≡ true → whole pieces build (weave pieces h) ≡ Some (build h)
whole_gives pieces build h r s =
    ap (λ (l : List ℕ). whole pieces build l) (sym (append-nil (weave pieces h))) ∙ parse_gives pieces h [] (λ k rest. ended (build k) rest) r s tt

-- no line has a byte that no word has
abbrev pub words_lack : ℕ → List Piece → Bool
words_lack b [] = true
words_lack b (Say word part ∷ pieces) = lacks b word && words_lack b pieces

pub weave_lacks : (b : ℕ) (pieces : List Piece) (h : Holes pieces) → b < 45 → AreHolesRanged pieces h → words_lack b pieces ≡ true → lacks b (weave pieces h) ≡ true
weave_lacks b [] h k r s = refl
weave_lacks b (Say word part ∷ pieces) h k r s =
    let q = and_parts (lacks b word) (words_lack b pieces) s in
    lacks_append b word (part_text part h.0 ++ weave pieces h.1) q.0 (lacks_append b (part_text part h.0) (weave pieces h.1) (field_lacks b part h.0 k r.0) (weave_lacks b pieces h.1 k r.1 q.1))

-- the first field is read
pub parse_more : {A : Type 0} (word : List ℕ) (p : Part) (pieces : List Piece) (v : Value p) (x : List ℕ) (next : Holes (Say word p ∷ pieces) → List ℕ → Option A) → IsRanged p v → NoDigit x → parse (Say word p ∷ pieces) (word ++ (part_text p v ++ x)) next ≡ parse pieces x (λ h more. next (v, h) more)
parse_more word p pieces v x next r d = ap (λ (o : Option (Got (Value p))). with_got o (λ value rest. parse pieces rest (λ h more. next (value, h) more))) (after_gives word p v x r d)
