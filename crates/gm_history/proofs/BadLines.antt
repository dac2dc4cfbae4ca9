-- The bad line of bytes that aren't of a form: the lines up to it begin no text of the form, and those before it do.
use Rattle.std.proofs.Common.{◌≡◌, ℕ, zero, suc, ◌+◌, ◌-◌, ◌^◌, ◌<◌, ◌≤◌, List, [], ◌∷◌, ◌++◌, length, take, Bool, true, false, cond, eqb, ltb, Some, refl, sym, ◌∙◌, ap, subst, append_assoc, append-nil, arith}
use Rattle.std.specs.Prelude.{codes}
use Rattle.std.proofs.lemmas.Bool.Decides.{nat_tests}
use Rattle.gm_base.specs.declared.values.Setup.{Setup}
use Rattle.gm_flat.specs.declared.entry.Entry.{Entry}
use Rattle.gm_text.specs.Text.{end_text, machine_text}
use Rattle.gm_history.specs.declared.version.Version.{Version}
use Rattle.gm_history.specs.Cuts.{split_at, onto_first}
use Rattle.gm_history.specs.Given.{given}
use Rattle.gm_history.specs.Lines.{Counts, counts_of, entry_in, setup_of}
use Rattle.gm_history.specs.Ranges.{IsU64, IsWithin}
use Rattle.gm_history.specs.Reading.{Bad, header, is_header, last_line, lines_on, machine_on, told_on}
use Rattle.gm_history.specs.TextForm.{Told, IsTellable, TellsIn, IsForm, IsBadLine, Starts, last_turn, lines_text, text_in}
use Rattle.gm_history.proofs.EntryReads.{SaidEntry, counts_sound, end_grouped, entry_sound, machine_grouped, machine_line, setup_sound}
use Rattle.gm_history.proofs.Judging.{IsRest, bad_sound, body_of, entry_before, header_sound, said_none, text_lines, told}
use Rattle.gm_history.proofs.LastTurns.{last_push}
use Rattle.gm_history.proofs.Runs.{given_small}
use Rattle.gm_history.proofs.SameLines.{LastBad, Here, Next, more_bad, entry_bad, setup_bad, header_bad, last_bad, bad_few, machine_late, length_push, pieces_some, same_bytes}

-- lines that others may follow
record GoesOn (version : Version) (s : Setup) (front : List ℕ) (done : List Entry) : Type 0 where
  told : Told
  rest : List ℕ
  right : IsRest version s (front ++ rest) done told

-- the last line may come at once
ends_here : (version : Version) (s : Setup) (done : List Entry) → IsU64 (last_turn done) → IsU64 (length done) → GoesOn version s [] done
ends_here version s done t c =
    let turn : ℕ = last_turn done in
    record {
      told = told s (done ++ []) turn;
      rest = end_text turn (length (done ++ []));
      right = record { more = []; told = refl; text = refl; plain = tt; ranged = tt; said = said_none version (given done); turns = t; count = subst (λ (l : List Entry). IsU64 (length l)) (sym (append-nil done)) c; late = subst (λ (l : List Entry). last_turn l ≤ turn) (sym (append-nil done)) (same turn) };
    }
  where
    same : (n : ℕ) → n ≤ n
    same n = omega arith

-- a right last line
ended_here : (version : Version) (s : Setup) (done : List Entry) (line front : List ℕ) (c : Counts) → counts_of line ≡ Some c → c.entries ≡ length done → last_turn done ≤ c.turns → front ≡ [] → GoesOn version s (line ++ (10 ∷ front)) done
ended_here version s done line front c p n late z =
    let f = counts_sound line c p in
    let text : (line ++ (10 ∷ front)) ++ [] ≡ end_text c.turns (length (done ++ [])) =
    append-nil (line ++ (10 ∷ front)) ∙ ap (λ (l : List ℕ). line ++ (10 ∷ l)) z ∙ ap (λ (l : List ℕ). l ++ (10 ∷ [])) (sym f.0) ∙ sym (end_grouped c.turns c.entries) ∙ ap (end_text c.turns) (n ∙ ap length (sym (append-nil done))) in
    record {
      told = told s (done ++ []) c.turns;
      rest = [];
      right = record { more = []; told = refl; text = text; plain = tt; ranged = tt; said = said_none version (given done); turns = f.1.0; count = subst IsU64 (n ∙ ap length (sym (append-nil done))) f.1.1; late = subst (λ (l : List Entry). last_turn l ≤ c.turns) (sym (append-nil done)) late };
    }

entry_goes : (version : Version) (s : Setup) (line front : List ℕ) (done : List Entry) (e : Entry) → SaidEntry version (given done) line e → GoesOn version s front (done ++ e ∷ []) → GoesOn version s (line ++ (10 ∷ front)) done
entry_goes version s line front done e said g =
    record {
      told = g.told;
      rest = g.rest;
      right = subst (λ (l : List ℕ). IsRest version s l done g.told) (sym (append_assoc line (10 ∷ front) g.rest)) (entry_before version s line (front ++ g.rest) done g.told e said g.right);
    }

last_goes : (version : Version) (s : Setup) (line : List ℕ) (k : ℕ) (lines : List (List ℕ)) (done : List Entry) (n : ℕ) → k + 1 + (length done + 3) ≤ n → LastBad s done (counts_of line) n → GoesOn version s (line ++ (10 ∷ lines_text (take k lines))) done
last_goes version s line k lines done n h (Here e f) = absurd (omega (arith, h, e))
last_goes version s line k lines done n h (Next c p r l e) =
    let z : k ≡ 0 = omega (arith, h, e) in
    ended_here version s done line (lines_text (take k lines)) c p r l (ap (λ (j : ℕ). lines_text (take j lines)) z)

open_on : (version : Version) (s : Setup) (k : ℕ) (ps : List (List ℕ)) (done : List Entry) (n : ℕ) → told_on version s ps done ≡ Bad n → k + (length done + 3) ≤ n → k < length ps → IsU64 (last_turn done) → length done + length ps < 2 ^ 64 → GoesOn version s (lines_text (take k ps)) done
open_on version s zero ps done n e h l t c = ends_here version s done t (omega (arith, c))
open_on version s (suc k) [] done n e h l t c = absurd (omega (arith, l))
open_on version s (suc k) (line ∷ []) done n e h l t c = absurd (omega (arith, l))
open_on version s (suc k) (line ∷ (next ∷ lines)) done n e h l t c =
    entry_bad (entry_in version (given done) line) (λ f. told_on version s (next ∷ lines) (done ++ f ∷ [])) (last_line s done (counts_of line) (next ∷ lines)) n (GoesOn version s (line ++ (10 ∷ lines_text (take k (next ∷ lines)))) done)
    (λ f p r.
    let said = entry_sound version (given done) line f (given_small done) p in
    let turn : IsU64 (last_turn (done ++ f ∷ [])) = subst IsU64 (sym (last_push done f)) said.ranged.0 in
    entry_goes version s line (lines_text (take k (next ∷ lines))) done f said (open_on version s k (next ∷ lines) (done ++ f ∷ []) n r (omega (arith, h, length_push done f)) (omega (arith, l)) turn (omega (arith, c, length_push done f))))
    (λ p r. last_goes version s line k (next ∷ lines) done n (omega (arith, h)) (last_bad s done (counts_of line) (next ∷ lines) n r)) e

-- lines that begin a text
Begins : Version → List ℕ → Type 0
Begins version front = (rest : List ℕ) × IsForm version (front ++ rest)

abbrev least : Setup
least = record { frames = 0; user = 0; vcpus = 1; callers = 0; huge = false }

least_within : IsWithin least
least_within = record { frames = omega arith; user = omega arith; some_vcpu = omega arith; vcpus = omega arith; callers = omega arith }

least_tellable : IsTellable (told least [] 0)
least_tellable = record { setup = least_within; plain = tt; ranged = tt; turns = omega arith; count = omega arith; late = omega arith }

rest_tells : (version : Version) (s : Setup) (x : List ℕ) (h : Told) → IsWithin s → IsRest version s x [] h → TellsIn version (header version ++ (10 ∷ (machine_text s ++ x))) h
rest_tells version s x h w r =
    let mine : Told = told s r.more h.turns in
    let text : header version ++ (10 ∷ (machine_text s ++ x)) ≡ text_in version mine = ap (λ (l : List ℕ). header version ++ (10 ∷ (machine_text s ++ l))) r.text ∙ sym (text_lines version mine) in
    subst (TellsIn version (header version ++ (10 ∷ (machine_text s ++ x)))) r.told
    (record { tellable = record { setup = w; plain = r.plain; ranged = r.ranged; turns = r.turns; count = r.count; late = r.late }; said = r.said; text = text })

goes_begins : (version : Version) (s : Setup) (first line x : List ℕ) → first ≡ header version → machine_line s ≡ line → IsWithin s → GoesOn version s x [] → Begins version (first ++ (10 ∷ (line ++ (10 ∷ x))))
unfolding Begins
goes_begins version s first line x p q w g =
    let same : header version ++ (10 ∷ (machine_text s ++ (x ++ g.rest))) ≡ (first ++ (10 ∷ (line ++ (10 ∷ x)))) ++ g.rest =
    ap (λ (l : List ℕ). header version ++ (10 ∷ l)) (machine_grouped s (x ++ g.rest) ∙ ap (λ (l : List ℕ). l ++ (10 ∷ (x ++ g.rest))) q ∙ sym (append_assoc line (10 ∷ x) g.rest))
    ∙ ap (λ (l : List ℕ). l ++ (10 ∷ ((line ++ (10 ∷ x)) ++ g.rest))) (sym p)
    ∙ sym (append_assoc first (10 ∷ (line ++ (10 ∷ x))) g.rest) in
    (g.rest, (g.told, subst (λ (l : List ℕ). TellsIn version l g.told) same (rest_tells version s (x ++ g.rest) g.told w g.right)))

first_begins : (version : Version) (first : List ℕ) → first ≡ header version → Begins version (first ++ (10 ∷ []))
unfolding Begins
first_begins version first p =
    let h : Told = told least [] 0 in
    let rest : List ℕ = machine_text least ++ body_of version h in
    let text : (first ++ (10 ∷ [])) ++ rest ≡ text_in version h = ap (λ (l : List ℕ). (l ++ (10 ∷ [])) ++ rest) p ∙ append_assoc (header version) (10 ∷ []) rest ∙ sym (text_lines version h) in
    (rest, (h, record { tellable = least_tellable; said = said_none version []; text = text }))

nothing_begins : (version : Version) → Begins version []
unfolding Begins
nothing_begins version = (text_in version (told least [] 0), (told least [] 0, record { tellable = least_tellable; said = said_none version []; text = refl }))

open_lines : (version : Version) (k : ℕ) (ps : List (List ℕ)) (n : ℕ) → lines_on version ps ≡ Bad n → k < n → k < length ps → length ps < 2 ^ 64 → Begins version (lines_text (take k ps))
open_lines version zero ps n e h l c = nothing_begins version
open_lines version (suc k) [] n e h l c = absurd (omega (arith, l))
open_lines version (suc k) (line ∷ []) n e h l c = absurd (omega (arith, l))
open_lines version (suc zero) (line ∷ (next ∷ lines)) n e h l c =
    header_bad (is_header version line) (machine_on version (next ∷ lines)) n (Begins version (line ++ (10 ∷ [])))
    (λ t r. first_begins version line (header_sound version line t))
    (λ t r. absurd (omega (arith, h, r))) e
open_lines version (suc (suc k)) (line ∷ (next ∷ [])) n e h l c = absurd (omega (arith, l))
open_lines version (suc (suc k)) (line ∷ (next ∷ (third ∷ lines))) n e h l c =
    let x : List ℕ = lines_text (take k (third ∷ lines)) in
    header_bad (is_header version line) (machine_on version (next ∷ (third ∷ lines))) n (Begins version (line ++ (10 ∷ (next ++ (10 ∷ x)))))
    (λ t r. setup_bad version (setup_of next) (third ∷ lines) n (Begins version (line ++ (10 ∷ (next ++ (10 ∷ x)))))
    (λ s p q. let w = setup_sound next s p in
    goes_begins version s line next x (header_sound version line t) w.0 w.1 (open_on version s k (third ∷ lines) [] n q (omega (arith, h)) (omega (arith, l)) (omega arith) (omega (arith, c))))
    (λ p q. absurd (omega (arith, h, q))) r)
    (λ t r. absurd (omega (arith, h, r))) e

lines_late : (version : Version) (ps : List (List ℕ)) (n : ℕ) → lines_on version ps ≡ Bad n → 1 ≤ n
lines_late version [] n e = let k : 1 ≡ n = is e in omega (arith, k)
  where
    is : {a b : ℕ} → Bad a ≡ Bad b → a ≡ b
    is e = cc
lines_late version (line ∷ lines) n e =
    more_bad 1 lines (cond (is_header version line) (machine_on version lines) (Bad 1)) n (1 ≤ n) (λ z h. omega (arith, h))
    (λ k. header_bad (is_header version line) (machine_on version lines) n (1 ≤ n) (λ t r. omega (arith, machine_late version lines n r)) (λ t r. omega (arith, r)) k) e

machine_few : (version : Version) (ps : List (List ℕ)) (n : ℕ) → 0 < length ps → machine_on version ps ≡ Bad n → n ≤ length ps + 1
machine_few version [] n l e = absurd (omega (arith, l))
machine_few version (line ∷ []) n l e = let k : 2 ≡ n = is e in omega (arith, k)
  where
    is : {a b : ℕ} → Bad a ≡ Bad b → a ≡ b
    is e = cc
machine_few version (line ∷ (next ∷ lines)) n l e =
    setup_bad version (setup_of line) (next ∷ lines) n (n ≤ length (line ∷ (next ∷ lines)) + 1)
    (λ s p q. let b : n ≤ 2 + length (next ∷ lines) = bad_few version s (next ∷ lines) [] n (omega arith) q in omega (arith, b))
    (λ p q. omega (arith, q)) e

lines_few : (version : Version) (ps : List (List ℕ)) (n : ℕ) → 0 < length ps → lines_on version ps ≡ Bad n → n ≤ length ps
lines_few version [] n l e = absurd (omega (arith, l))
lines_few version (line ∷ []) n l e = let k : 1 ≡ n = is e in omega (arith, k)
  where
    is : {a b : ℕ} → Bad a ≡ Bad b → a ≡ b
    is e = cc
lines_few version (line ∷ (next ∷ lines)) n l e =
    header_bad (is_header version line) (machine_on version (next ∷ lines)) n (n ≤ length (line ∷ (next ∷ lines)))
    (λ t r. omega (arith, machine_few version (next ∷ lines) n (omega arith) r))
    (λ t r. omega (arith, r)) e

-- there are no more pieces than bytes, and one
few_step : (t : Bool) (x m : ℕ) (ps : List (List ℕ)) → length ps ≤ m + 1 → length (cond t ([] ∷ ps) (onto_first x ps)) ≤ m + 2
few_step true x m ps h = omega (arith, h)
few_step false x m [] h = omega arith
few_step false x m (p ∷ ps) h = omega (arith, h)

pieces_few : (xs : List ℕ) → length (split_at 10 xs) ≤ length xs + 1
pieces_few [] = omega arith
pieces_few (x ∷ xs) = omega (arith, few_step (eqb x 10) x (length xs) (split_at 10 xs) (pieces_few xs))

pieces_more : (xs : List ℕ) → 0 < length (split_at 10 xs)
pieces_more xs = let s = pieces_some xs in subst (λ (l : List (List ℕ)). 0 < length l) (sym s.1.1) (omega arith)

closed : (version : Version) (t : Bool) (bytes : List ℕ) (k n : ℕ) → lines_on version (split_at 10 bytes) ≡ Bad n → n ≡ k + 1 → t ≡ ltb n (length (split_at 10 bytes)) → Starts t (IsForm version) (lines_text (take n (split_at 10 bytes))) bytes → ⊥
closed version true bytes k n e h t o =
    let more : k + 1 < length (split_at 10 bytes) = omega (arith, h, is_less n (length (split_at 10 bytes)) t) in
    let next : n ≡ suc k = omega (arith, h) in
    let same : lines_text (take n (split_at 10 bytes)) ≡ lines_text (take (suc k) (split_at 10 bytes)) = ap (λ (j : ℕ). lines_text (take j (split_at 10 bytes))) next in
    let form : IsForm version (lines_text (take (suc k) (split_at 10 bytes)) ++ o.0) = subst (λ (l : List ℕ). IsForm version (l ++ o.0)) same o.1 in
    bad_sound version (lines_text (take (suc k) (split_at 10 bytes)) ++ o.0) n (same_bytes version bytes o.0 k n e h more) form
  where
    is_less : (a b : ℕ) → true ≡ ltb a b → a < b
    is_less a b h = grind (arith, nat_tests)
closed version false bytes k n e h t o = bad_sound version bytes n e o

open_starts : (version : Version) (t : Bool) (bytes : List ℕ) (front : List ℕ) → t ≡ true → Begins version front → Starts t (IsForm version) front bytes
unfolding Begins
open_starts version true bytes front h b = b
open_starts version false bytes front h b = absurd cc

bad_line : (version : Version) (bytes : List ℕ) (line : ℕ) → length bytes < 2 ^ 63 → lines_on version (split_at 10 bytes) ≡ Bad line → IsBadLine (IsForm version) bytes line
bad_line version bytes line h e =
    let ps : List (List ℕ) = split_at 10 bytes in
    let late = lines_late version ps line e in
    let few = lines_few version ps line (pieces_more bytes) e in
    record {
      bad = λ o. closed version (ltb line (length ps)) bytes (line - 1) line e (omega (arith, late)) refl o;
      least = λ count less.
          let here : count < length ps = omega (arith, less, few) in
          open_starts version (ltb count (length ps)) bytes (lines_text (take count ps)) (less_is count (length ps) here) (open_lines version count ps line e less here (omega (arith, h, pieces_few bytes)));
    }
  where
    less_is : (a b : ℕ) → a < b → ltb a b ≡ true
    less_is a b h = grind (arith, nat_tests)

pub refused_line : (version : Version) (bytes : List ℕ) (line : ℕ) → length bytes < 2 ^ 63 → lines_on version (split_at 10 bytes) ≡ Bad line → (IsForm version bytes → ⊥) × IsBadLine (IsForm version) bytes line
refused_line version bytes line h e = (bad_sound version bytes line e, bad_line version bytes line h e)
