-- What bytes of form 1 are brought up to.
use Rattle.std.proofs.Common.{◌≡◌, ℕ, ◌+◌, List, [], ◌∷◌, ◌++◌, length, refl, sym, ◌∙◌, ap, arith}
use Rattle.std.specs.Prelude.{codes}
use Rattle.gm_flat.specs.InTypes.{roomless, roomless_entries}
use Rattle.gm_flat.specs.declared.entry.Entry.{Entry}
use Rattle.gm_flat.specs.declared.entry.What.{What}
use Rattle.gm_flat.specs.declared.entry.What.TheVariants.{Begin}
use Rattle.gm_text.specs.Text.{end_text, entries_text, line_text, machine_text, what_text}
use Rattle.gm_history.specs.declared.version.Version.TheVariants.{One, Two}
use Rattle.gm_history.specs.Given.{AreOld}
use Rattle.gm_history.specs.TextForm.{Told, IsTellable, IsBroughtUp, roomless_told, text_in}
use Rattle.gm_history.proofs.Judging.{one_told}

-- spare room isn't in the text
what_same : (w : What) → what_text (roomless w) ≡ what_text w
what_same (Begin spans) = refl
what_same w = refl

entries_same : (es : List Entry) → entries_text (roomless_entries es) ≡ entries_text es
entries_same [] = refl
entries_same (e ∷ es) = ap (λ (l : List ℕ). line_text e l ++ entries_text (roomless_entries es)) (what_same e.what) ∙ ap (λ (l : List ℕ). line_text e (what_text e.what) ++ l) (entries_same es)

length_same : (es : List Entry) → length (roomless_entries es) ≡ length es
length_same [] = refl
length_same (e ∷ es) = omega (arith, length_same es)

abbrev text_by : Told → List ℕ → ℕ → List ℕ
text_by h lines count = codes "gmem-history 2\n" ++ (machine_text h.setup ++ (lines ++ end_text h.turns count))

text_same : (h : Told) → text_in Two (roomless_told h) ≡ text_in Two h
text_same h =
    ap (λ (l : List ℕ). text_by h l (length (roomless_entries h.entries))) (entries_same h.entries)
    ∙ ap (λ (n : ℕ). text_by h (entries_text h.entries) n) (length_same h.entries)

-- bytes are brought up to one text
pub one_up : (bytes one two : List ℕ) → IsBroughtUp bytes one → IsBroughtUp bytes two → one ≡ two
one_up bytes one two p q =
    p.text_is ∙ sym (text_same p.history) ∙ ap (text_in Two) (one_told One bytes p.history q.history p.tells q.tells) ∙ text_same q.history ∙ sym q.text_is

-- the text of a history that version 1 can say
pub text_up : (h : Told) → IsTellable h → AreOld [] h.entries → IsBroughtUp (text_in One h) (text_in Two h)
text_up h t a = record { history = h; tells = record { tellable = t; said = a; text = refl }; text_is = refl }
