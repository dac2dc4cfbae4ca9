-- Where too many bytes were taken, or the whole line of a refusal was put, the run says so.
use Rattle.std.proofs.Common.{◌+◌, ◌++◌, ◌<◌, ◌≤◌, IfSome, List, None, Option, Some, [], ap, arith, length, subst, sym, ℕ, ◌∙◌, ◌∷◌, ◌≡◌}
use Rattle.std.specs.Io.KnownBytes.{Consumes}
use Rattle.gm_io.specs.Held.{GainsFront}
use Rattle.gm_script.specs.Grammar.{script_of, Bad}
use Rattle.gm_script.specs.declared.error.Cause.{Cause}
use Rattle.gmemrun.specs.Coming.{PutAll}
use Rattle.gmemrun.specs.Reading.{TookTooMuch}
use Rattle.gmemrun.specs.Refusal.{cause_text, refusal_by, refusal_text}
use Rattle.gmemrun.specs.Running.{StepsDue}
use Rattle.gmemrun.specs.declared.status.Status.{Status}
use Rattle.gmemrun.specs.declared.status.Status.TheVariants.{BadScript}

pub length_joined : (xs ys : List ℕ) → length (xs ++ ys) ≡ length xs + length ys
length_joined [] ys = grind arith
length_joined (x ∷ xs) ys = let h = length_joined xs ys in omega (arith, h)

too_many : (m n k limit : ℕ) → m ≤ limit → limit < n → m + k ≡ n + k → ⊥
too_many m n k limit h e f = omega arith

-- a source that gave no more than may be read didn't give more
pub not_long : (P : Type 0) (most : ℕ) (a b : Option (List ℕ)) (bytes : List ℕ) → Consumes a b bytes → length bytes ≤ most → IfSome a (λ _. TookTooMuch most a b → P)
not_long P most None b bytes c h = tt
not_long P most (Some x) None bytes c h = absurd c
not_long P most (Some x) (Some y) bytes c h = λ t.
    absurd (too_many (length bytes) (length t.bytes) (length y) most h t.beyond
    (sym (length_joined bytes y) ∙ (ap (λ (l : List ℕ). length l) (sym c ∙ t.taken) ∙ length_joined t.bytes y)))

-- no text that is due with the status is empty
abbrev pub HasText : (List ℕ → Status → List ℕ → Type 0) → Status → Type 0
HasText Due status = (bytes text : List ℕ) → Due bytes status text → 0 < length text

-- a sink that got nothing didn't get a text that isn't empty
longer : (n m : ℕ) → 0 < m → n ≡ n + m → ⊥
longer n m e f = omega arith

not_put : (x text : List ℕ) → 0 < length text → x ≡ x ++ text → ⊥
not_put x text h e = longer (length x) (length text) h (ap (λ (l : List ℕ). length l) e ∙ length_joined x text)

pub not_refused : (P : Type 0) (Due : List ℕ → Status → List ℕ → Type 0) (status : Status) (bytes : List ℕ) (held : Option (List ℕ)) → HasText Due status → IfSome held (λ _. PutAll Due bytes status held held → P)
not_refused P Due status bytes None has = tt
not_refused P Due status bytes (Some x) has = λ r. absurd (not_put x r.text (has bytes r.text r.due) r.written)

pub silent : (P : Type 0) (Due : List ℕ → Status → List ℕ → Type 0) (status : Status) (left held : Option (List ℕ)) → HasText Due status → IfSome left (λ bytes. IfSome held (λ _. PutAll Due bytes status held held → P))
silent P Due status None held has = tt
silent P Due status (Some bytes) held has = not_refused P Due status bytes held has

short_of : (x f r : ℕ) → 0 < r → x + f ≡ x + (f + r) → ⊥
short_of x f r h e = omega arith

-- a sink that got a front of the one text that is due, and not the whole, didn't get the whole
pub not_whole : (P : Type 0) (Due : List ℕ → Status → List ℕ → Type 0) (status : Status) (bytes text : List ℕ) (old new : Option (List ℕ)) → ((other : List ℕ) → Due bytes status other → other ≡ text) → GainsFront old new text → IfSome new (λ _. PutAll Due bytes status old new → P)
not_whole P Due status bytes text old None one g = tt
not_whole P Due status bytes text None (Some y) one g = λ r. absurd r.written
not_whole P Due status bytes text (Some x) (Some y) one g = λ r.
    let same : r.text ≡ g.front ++ g.rest = one r.text r.due ∙ g.split in
    let both : x ++ g.front ≡ x ++ (g.front ++ g.rest) = sym g.gains ∙ (r.written ∙ ap (λ (l : List ℕ). x ++ l) same) in
    absurd (short_of (length x) (length g.front) (length g.rest) g.short
    (sym (length_joined x g.front) ∙ (ap (λ (l : List ℕ). length l) both ∙ (length_joined x (g.front ++ g.rest) ∙ ap (λ (n : ℕ). length x + n) (length_joined g.front g.rest)))))

-- a line of a refusal isn't empty
pub some_line : (line : ℕ) (word text : List ℕ) → text ≡ refusal_by line word → 0 < length text
some_line line word text e = subst (λ (l : List ℕ). 0 < length l) (sym e) (omega arith)

-- of a script

pub steps_text : HasText StepsDue BadScript
steps_text bytes text due = some_line due.line (cause_text due.cause) text due.is_text

one_line : (l m : ℕ) (c d : Cause) → Bad l c ≡ Bad m d → refusal_text l c ≡ refusal_text m d
one_line l m c d e =
    let n : l ≡ m = cc in
    let k : c ≡ d = cc in
    ap (λ (x : ℕ). refusal_text x c) n ∙ ap (λ (x : Cause). refusal_text m x) k

-- one line alone is due
pub one_refusal : (bytes : List ℕ) (line : ℕ) (cause : Cause) → script_of bytes ≡ Bad line cause → (other : List ℕ) → StepsDue bytes BadScript other → other ≡ refusal_text line cause
one_refusal bytes line cause e other due = due.is_text ∙ one_line due.line line due.cause cause (sym due.no_script ∙ e)
