-- The text of a history is judged to be that history, and what is judged to be a history has its text.
use Rattle.std.proofs.Common.{◌≡◌, ℕ, ◌+◌, ◌≤◌, List, [], ◌∷◌, ◌++◌, length, Bool, true, false, ◌&&◌, cond, eqb, leb, Option, None, Some, refl, sym, ◌∙◌, ap, subst, append_assoc, append-nil, arith}
use Rattle.std.specs.Prelude.{codes}
use Rattle.std.proofs.lemmas.Bool.{and_parts}
use Rattle.std.proofs.lemmas.Bool.Decides.{nat_tests}
use Rattle.gm_base.specs.declared.values.Setup.{Setup}
use Rattle.gm_flat.specs.InTypes.{roomless_entries}
use Rattle.gm_flat.specs.Plain.{IsPlain, IsPlainWhat}
use Rattle.gm_flat.specs.declared.entry.Entry.{Entry}
use Rattle.gm_text.specs.Text.{end_text, entries_text, entry_text, line_text, machine_text}
use Rattle.gm_text.specs.TextOne.{entries_text_one, what_text_one}
use Rattle.gm_history.specs.declared.given.Giving.{Giving}
use Rattle.gm_history.specs.declared.given.Run.{Run}
use Rattle.gm_history.specs.declared.version.Version.{Version}
use Rattle.gm_history.specs.declared.version.Version.TheVariants.{One, Two}
use Rattle.gm_history.specs.Cuts.{split_at, strip}
use Rattle.gm_history.specs.Given.{given, giving_of, after_giving, given_after}
use Rattle.gm_history.specs.Lines.{Counts, counts_of, entry_in, setup_of}
use Rattle.gm_history.specs.Ranges.{AreRanged, IsEntryRanged, IsU64}
use Rattle.gm_history.specs.Reading.{Verdict, Good, Bad, entry_or, header, if_more, is_header, is_nothing, last_line, lines_on, machine_on, setup_or, told_at, told_on, verdict_of}
use Rattle.gm_history.specs.TextForm.{Told, AreSaid, IsTellable, Tells, TellsIn, IsForm, IsFormTwo, last_turn, roomless_told, text_in, text_of_told, turn_of_last}
use Rattle.gm_history.proofs.EntryReads.{SaidEntry, counts_give, counts_sound, end_grouped, end_lacks, end_line, end_no_entry, entry_gives, entry_grouped, entry_lacks, entry_line, entry_sound, machine_grouped, machine_lacks, machine_line, roomless_entry, setup_gives, setup_sound}
use Rattle.gm_history.proofs.FieldReads.{strip_sound}
use Rattle.gm_history.proofs.LastTurns.{last_push}
use Rattle.gm_history.proofs.NumberReads.{lacks}
use Rattle.gm_history.proofs.OldReads.{IsSaid, what_text_in}
use Rattle.gm_history.proofs.Runs.{given_push, given_small, giving_roomless}
use Rattle.gm_history.proofs.SpanReads.{split_more, tails, unsplit, unsplit_is}
use Rattle.gm_history.proofs.Splits.{more_after}

abbrev pub told : Setup → List Entry → ℕ → Told
told s es turns = record { setup = s; entries = es; turns = turns }

if_true : (t : Bool) (v u : Verdict) → t ≡ true → cond t v u ≡ v
if_true true v u h = refl
if_true false v u h = absurd cc

right_counts : (n m a b : ℕ) → n ≡ m → a ≤ b → (eqb n m && leb a b) ≡ true
right_counts n m a b h k = grind (arith, nat_tests)

length_push : (es : List Entry) (e : Entry) → length (es ++ e ∷ []) ≡ length es + 1
length_push [] e = refl
length_push (f ∷ es) e = omega (arith, length_push es e)

-- the last line
end_gives : (version : Version) (s : Setup) (done : List Entry) (turns n : ℕ) → IsU64 turns → IsU64 n → n ≡ length done → last_turn done ≤ turns → told_on version s (split_at 10 (end_text turns n)) done ≡ Good (told s done turns)
end_gives version s done turns n p q h k =
    ap (λ (l : List ℕ). told_on version s (split_at 10 l) done) (end_grouped turns n)
    ∙ ap (λ (l : List (List ℕ)). told_on version s l done) (split_more 10 (end_line turns n) [] (end_lacks turns n p q))
    ∙ ap (λ (o : Option Entry). entry_or o (λ e. told_on version s ([] ∷ []) (done ++ e ∷ [])) (last_line s done (counts_of (end_line turns n)) ([] ∷ []))) (end_no_entry version (given done) turns n)
    ∙ ap (λ (o : Option Counts). last_line s done o ([] ∷ [])) (counts_give turns n p q)
    ∙ if_true (eqb n (length done) && leb (last_turn done) turns) (Good (told s done turns)) (Bad (length done + 3)) (right_counts n (length done) (last_turn done) turns h k)

-- lines of entries
abbrev pub lines_of : Version → List Entry → List ℕ
lines_of version [] = []
lines_of version (e ∷ es) = line_text e (what_text_in version e.what) ++ lines_of version es

-- one entry's line
step_gives : (version : Version) (s : Setup) (e : Entry) (x : List ℕ) (done : List Entry) → IsPlainWhat e.what → IsEntryRanged e → IsSaid version (given done) e.what → told_on version s (split_at 10 (line_text e (what_text_in version e.what) ++ x)) done ≡ told_on version s (split_at 10 x) (done ++ roomless_entry e ∷ [])
step_gives version s e x done i r d =
    let line : List ℕ = entry_line version e in
    let next : Entry → Verdict = λ f. told_on version s (split_at 10 x) (done ++ f ∷ []) in
    let other : Verdict = last_line s done (counts_of line) (split_at 10 x) in
    ap (λ (l : List ℕ). told_on version s (split_at 10 l) done) (entry_grouped version e x)
    ∙ ap (λ (l : List (List ℕ)). told_on version s l done) (split_more 10 line x (entry_lacks version e i r))
    ∙ more_after (length done + 3) 10 x (entry_or (entry_in version (given done) line) next other)
    ∙ ap (λ (o : Option Entry). entry_or o next other) (entry_gives version (given done) e i r d)

-- what a version can say of the first entry, and of the others
said_first : (version : Version) (runs : List Run) (e : Entry) (es : List Entry) → AreSaid version runs (e ∷ es) → IsSaid version runs e.what × AreSaid version (after_giving (giving_of e.what) runs) es
said_first One runs e es a = a
said_first Two runs e es a = (tt, tt)

said_both : (version : Version) (runs : List Run) (e : Entry) (es : List Entry) → IsSaid version runs e.what → AreSaid version (after_giving (giving_of e.what) runs) es → AreSaid version runs (e ∷ es)
said_both One runs e es a b = (a, b)
said_both Two runs e es a b = tt

pub said_none : (version : Version) (runs : List Run) → AreSaid version runs []
said_none One runs = tt
said_none Two runs = tt

given_more : (done : List Entry) (e : Entry) → given (done ++ roomless_entry e ∷ []) ≡ after_giving (giving_of e.what) (given done)
given_more done e = given_push done (roomless_entry e) ∙ ap (λ (g : Giving). after_giving g (given done)) (giving_roomless e.what)

entries_give : (version : Version) (s : Setup) (es done : List Entry) (turns n : ℕ) → IsPlain es → AreRanged es → AreSaid version (given done) es → IsU64 turns → IsU64 n → n ≡ length done + length es → turn_of_last (last_turn done) es ≤ turns → told_on version s (split_at 10 (lines_of version es ++ end_text turns n)) done ≡ Good (told s (done ++ roomless_entries es) turns)
entries_give version s [] done turns n i r d p q h k =
    end_gives version s done turns n p q (omega (arith, h)) k ∙ ap (λ (l : List Entry). Good (told s l turns)) (sym (append-nil done))
entries_give version s (e ∷ es) done turns n i r d p q h k =
    let more : List Entry = done ++ roomless_entry e ∷ [] in
    let late : turn_of_last (last_turn more) es ≤ turns = subst (λ (t : ℕ). turn_of_last t es ≤ turns) (sym (last_push done (roomless_entry e))) k in
    let count : n ≡ length more + length es = omega (arith, h, length_push done (roomless_entry e)) in
    let a = said_first version (given done) e es d in
    let said : AreSaid version (given more) es = subst (λ (runs : List Run). AreSaid version runs es) (sym (given_more done e)) a.1 in
    ap (λ (l : List ℕ). told_on version s (split_at 10 l) done) (append_assoc (line_text e (what_text_in version e.what)) (lines_of version es) (end_text turns n))
    ∙ step_gives version s e (lines_of version es ++ end_text turns n) done i.0 r.0 a.0
    ∙ entries_give version s es more turns n i.1 r.1 said p q count late
    ∙ ap (λ (l : List Entry). Good (told s l turns)) (append_assoc done (roomless_entry e ∷ []) (roomless_entries es))

header_is : (version : Version) → is_header version (header version) ≡ true
unfolding is_header strip
header_is One = refl
header_is Two = refl

header_lacks : (version : Version) → lacks 10 (header version) ≡ true
header_lacks One = refl
header_lacks Two = refl

-- a text, line after line
lines_one : (es : List Entry) → entries_text_one es ≡ lines_of One es
lines_one [] = refl
lines_one (e ∷ es) = ap (λ (l : List ℕ). line_text e (what_text_one e.what) ++ l) (lines_one es)

lines_two : (es : List Entry) → entries_text es ≡ lines_of Two es
lines_two [] = refl
lines_two (e ∷ es) = ap (λ (l : List ℕ). entry_text e ++ l) (lines_two es)

abbrev pub body_of : Version → Told → List ℕ
body_of version h = lines_of version h.entries ++ end_text h.turns (length h.entries)

pub text_lines : (version : Version) (h : Told) → text_in version h ≡ header version ++ (10 ∷ (machine_text h.setup ++ body_of version h))
text_lines One h = ap (λ (l : List ℕ). codes "gmem-history 1\n" ++ (machine_text h.setup ++ (l ++ end_text h.turns (length h.entries)))) (lines_one h.entries)
text_lines Two h = ap (λ (l : List ℕ). codes "gmem-history 2\n" ++ (machine_text h.setup ++ (l ++ end_text h.turns (length h.entries)))) (lines_two h.entries)

pub good_gives : (version : Version) (h : Told) → IsTellable h → AreSaid version [] h.entries → verdict_of version (text_in version h) ≡ Good (roomless_told h)
unfolding verdict_of
good_gives version h t d =
    let body : List ℕ = body_of version h in
    let rest : List ℕ = machine_text h.setup ++ body in
    ap (λ (l : List ℕ). lines_on version (split_at 10 l)) (text_lines version h)
    ∙ ap (lines_on version) (split_more 10 (header version) rest (header_lacks version))
    ∙ more_after 1 10 rest (cond (is_header version (header version)) (machine_on version (split_at 10 rest)) (Bad 1))
    ∙ if_true (is_header version (header version)) (machine_on version (split_at 10 rest)) (Bad 1) (header_is version)
    ∙ ap (λ (l : List ℕ). machine_on version (split_at 10 l)) (machine_grouped h.setup body)
    ∙ ap (machine_on version) (split_more 10 (machine_line h.setup) body (machine_lacks h.setup t.setup))
    ∙ more_after 2 10 body (setup_or version (setup_of (machine_line h.setup)) (split_at 10 body))
    ∙ ap (λ (o : Option Setup). setup_or version o (split_at 10 body)) (setup_gives h.setup t.setup)
    ∙ entries_give version h.setup h.entries [] h.turns (length h.entries) t.plain t.ranged d t.turns t.count (omega arith) t.late

-- the other way

clash_of : {A : Type 0} {n : ℕ} {h : Told} → Bad n ≡ Good h → A
clash_of e = absurd (clash e)
  where
    clash : {n : ℕ} {h : Told} → Bad n ≡ Good h → ⊥
    clash e = cc

good_is : {g h : Told} → Good g ≡ Good h → g ≡ h
good_is e = cc

more_sound : (number : ℕ) (lines : List (List ℕ)) (v : Verdict) (h : Told) → if_more number lines v ≡ Good h → (v ≡ Good h) × (tails 10 lines ≡ 10 ∷ unsplit 10 lines)
more_sound number [] v h e = clash_of e
more_sound number (line ∷ lines) v h e = (e, refl)

told_at_sound : (s : Setup) (es : List Entry) (turns : ℕ) (lines : List (List ℕ)) (h : Told) → told_at s es turns lines ≡ Good h → (lines ≡ [] ∷ []) × (told s es turns ≡ h)
told_at_sound s es turns [] h e = clash_of e
told_at_sound s es turns ([] ∷ []) h e = (refl, good_is e)
told_at_sound s es turns ([] ∷ (p ∷ ps)) h e = clash_of e
told_at_sound s es turns ((x ∷ xs) ∷ ps) h e = clash_of e

if_sound : (t : Bool) (v : Verdict) (n : ℕ) (h : Told) → cond t v (Bad n) ≡ Good h → (t ≡ true) × (v ≡ Good h)
if_sound true v n h e = (refl, e)
if_sound false v n h e = clash_of e

-- what stands after the lines of entries
pub record IsRest (version : Version) (s : Setup) (body : List ℕ) (done : List Entry) (h : Told) : Type 0 where
  pub more : List Entry
  pub told : told s (done ++ more) h.turns ≡ h
  pub text : body ≡ lines_of version more ++ end_text h.turns (length (done ++ more))
  pub plain : IsPlain more
  pub ranged : AreRanged more
  pub said : AreSaid version (given done) more
  pub turns : IsU64 h.turns
  pub count : IsU64 (length (done ++ more))
  pub late : last_turn (done ++ more) ≤ h.turns

equal_is : (m n : ℕ) → eqb m n ≡ true → m ≡ n
equal_is m n h = grind (arith, nat_tests)

most_is : (m n : ℕ) → leb m n ≡ true → m ≤ n
most_is m n h = grind (arith, nat_tests)

last_sound : (version : Version) (s : Setup) (line : List ℕ) (lines : List (List ℕ)) (done : List Entry) (h : Told) (o : Option Counts) → counts_of line ≡ o → tails 10 lines ≡ 10 ∷ unsplit 10 lines → last_line s done o lines ≡ Good h → IsRest version s (unsplit 10 (line ∷ lines)) done h
last_sound version s line lines done h None c m e = clash_of e
last_sound version s line lines done h (Some c) k m e =
    let a = if_sound (eqb c.entries (length done) && leb (last_turn done) c.turns) (told_at s done c.turns lines) (length done + 3) h e in
    let b = and_parts (eqb c.entries (length done)) (leb (last_turn done) c.turns) a.0 in
    let d = told_at_sound s done c.turns lines h a.1 in
    let f = counts_sound line c k in
    let n : c.entries ≡ length done = equal_is c.entries (length done) b.0 in
    let empty : tails 10 lines ≡ 10 ∷ [] = ap (tails 10) d.0 in
    let text : line ++ tails 10 lines ≡ end_text c.turns (length done) = ap (λ (l : List ℕ). line ++ l) empty ∙ ap (λ (l : List ℕ). l ++ (10 ∷ [])) (sym f.0) ∙ sym (end_grouped c.turns c.entries) ∙ ap (end_text c.turns) n in
    subst (IsRest version s (line ++ tails 10 lines) done) d.1
    (subst (λ (es : List Entry). IsRest version s (line ++ tails 10 lines) done (told s es c.turns)) (append-nil done)
    (record {
      more = [];
      told = refl;
      text = text ∙ ap (λ (l : List Entry). end_text c.turns (length l)) (sym (append-nil done));
      plain = tt;
      ranged = tt;
      said = said_none version (given done);
      turns = f.1.0;
      count = subst IsU64 (n ∙ ap length (sym (append-nil done))) f.1.1;
      late = subst (λ (l : List Entry). last_turn l ≤ c.turns) (sym (append-nil done)) (most_is (last_turn done) c.turns b.1);
    }))

-- one entry more in front
pub entry_before : (version : Version) (s : Setup) (line x : List ℕ) (done : List Entry) (h : Told) (e : Entry) → SaidEntry version (given done) line e → IsRest version s x (done ++ e ∷ []) h → IsRest version s (line ++ (10 ∷ x)) done h
entry_before version s line x done h e said r =
    let all : (done ++ e ∷ []) ++ r.more ≡ done ++ e ∷ r.more = append_assoc done (e ∷ []) r.more in
    let end : List ℕ = end_text h.turns (length (done ++ e ∷ r.more)) in
    record {
      more = e ∷ r.more;
      told = ap (λ (l : List Entry). told s l h.turns) (sym all) ∙ r.told;
      text = ap (λ (l : List ℕ). line ++ (10 ∷ l)) (r.text ∙ ap (λ (l : List Entry). lines_of version r.more ++ end_text h.turns (length l)) all)
          ∙ ap (λ (l : List ℕ). l ++ (10 ∷ (lines_of version r.more ++ end))) (sym said.text)
          ∙ sym (entry_grouped version e (lines_of version r.more ++ end))
          ∙ sym (append_assoc (line_text e (what_text_in version e.what)) (lines_of version r.more) end);
      plain = (said.plain, r.plain);
      ranged = (said.ranged, r.ranged);
      said = said_both version (given done) e r.more said.said (subst (λ (runs : List Run). AreSaid version runs r.more) (given_push done e) r.said);
      turns = r.turns;
      count = subst (λ (l : List Entry). IsU64 (length l)) all r.count;
      late = subst (λ (l : List Entry). last_turn l ≤ h.turns) all r.late;
    }

entry_sound_on : (version : Version) (s : Setup) (line : List ℕ) (lines : List (List ℕ)) (done : List Entry) (h : Told) (e : Entry) → SaidEntry version (given done) line e → tails 10 lines ≡ 10 ∷ unsplit 10 lines → IsRest version s (unsplit 10 lines) (done ++ e ∷ []) h → IsRest version s (unsplit 10 (line ∷ lines)) done h
entry_sound_on version s line lines done h e said m r = subst (λ (l : List ℕ). IsRest version s (line ++ l) done h) (sym m) (entry_before version s line (unsplit 10 lines) done h e said r)

line_sound : (version : Version) (s : Setup) (line : List ℕ) (lines : List (List ℕ)) (done : List Entry) (h : Told) (o : Option Entry) → entry_in version (given done) line ≡ o → tails 10 lines ≡ 10 ∷ unsplit 10 lines → ((done : List Entry) → told_on version s lines done ≡ Good h → IsRest version s (unsplit 10 lines) done h) → entry_or o (λ e. told_on version s lines (done ++ e ∷ [])) (last_line s done (counts_of line) lines) ≡ Good h → IsRest version s (unsplit 10 (line ∷ lines)) done h
line_sound version s line lines done h None k m rest e = last_sound version s line lines done h (counts_of line) refl m e
line_sound version s line lines done h (Some f) k m rest e = entry_sound_on version s line lines done h f (entry_sound version (given done) line f (given_small done) k) m (rest (done ++ f ∷ []) e)

entries_sound : (version : Version) (s : Setup) (lines : List (List ℕ)) (done : List Entry) (h : Told) → told_on version s lines done ≡ Good h → IsRest version s (unsplit 10 lines) done h
entries_sound version s [] done h e = clash_of e
entries_sound version s (line ∷ lines) done h e =
    let m = more_sound (length done + 3) lines (entry_or (entry_in version (given done) line) (λ f. told_on version s lines (done ++ f ∷ [])) (last_line s done (counts_of line) lines)) h e in
    line_sound version s line lines done h (entry_in version (given done) line) refl m.1 (λ more k. entries_sound version s lines more h k) m.0

setup_or_sound : (version : Version) (o : Option Setup) (lines : List (List ℕ)) (h : Told) → setup_or version o lines ≡ Good h → (s : Setup) × (o ≡ Some s) × (told_on version s lines [] ≡ Good h)
setup_or_sound version None lines h e = clash_of e
setup_or_sound version (Some s) lines h e = (s, refl, e)

nothing_is : (o : Option (List ℕ)) → is_nothing o ≡ true → o ≡ Some []
nothing_is None e = absurd cc
nothing_is (Some []) e = refl
nothing_is (Some (b ∷ rest)) e = absurd cc

pub header_sound : (version : Version) (line : List ℕ) → is_header version line ≡ true → line ≡ header version
unfolding is_header
header_sound version line e = strip_sound (header version) line [] (nothing_is (strip (header version) line) e) ∙ append-nil (header version)

-- a history that was told is one that can be
pub record IsSound (version : Version) (h : Told) : Type 0 where
  pub tellable : IsTellable h
  pub said : AreSaid version [] h.entries

-- the lines after the first
machine_sound : (version : Version) (lines : List (List ℕ)) (h : Told) → machine_on version lines ≡ Good h → IsSound version h × (unsplit 10 lines ≡ machine_text h.setup ++ body_of version h)
machine_sound version [] h e = clash_of e
machine_sound version (line ∷ lines) h e =
    let m = more_sound 2 lines (setup_or version (setup_of line) lines) h e in
    let a = setup_or_sound version (setup_of line) lines h m.0 in
    let s : Setup = a.0 in
    let b = setup_sound line s a.1 in
    let r = entries_sound version s lines [] h a.2 in
    let body : List ℕ = lines_of version r.more ++ end_text h.turns (length r.more) in
    let text : line ++ tails 10 lines ≡ machine_text s ++ body = ap (λ (l : List ℕ). line ++ l) m.1 ∙ ap (λ (l : List ℕ). line ++ (10 ∷ l)) r.text ∙ ap (λ (l : List ℕ). l ++ (10 ∷ body)) (sym b.0) ∙ sym (machine_grouped s body) in
    subst (λ (z : Told). IsSound version z × (line ++ tails 10 lines ≡ machine_text z.setup ++ body_of version z)) r.told
    (record { tellable = record { setup = b.1; plain = r.plain; ranged = r.ranged; turns = r.turns; count = r.count; late = r.late }; said = r.said }, text)

lines_sound : (version : Version) (lines : List (List ℕ)) (h : Told) → lines_on version lines ≡ Good h → TellsIn version (unsplit 10 lines) h
lines_sound version [] h e = clash_of e
lines_sound version (line ∷ lines) h e =
    let m = more_sound 1 lines (cond (is_header version line) (machine_on version lines) (Bad 1)) h e in
    let a = if_sound (is_header version line) (machine_on version lines) 1 h m.0 in
    let b = machine_sound version lines h a.1 in
    record {
      tellable = b.0.tellable;
      said = b.0.said;
      text = ap (λ (l : List ℕ). line ++ l) m.1 ∙ ap (λ (l : List ℕ). l ++ (10 ∷ unsplit 10 lines)) (header_sound version line a.0) ∙ ap (λ (l : List ℕ). header version ++ (10 ∷ l)) b.1 ∙ sym (text_lines version h);
    }

pub good_sound : (version : Version) (bytes : List ℕ) (h : Told) → lines_on version (split_at 10 bytes) ≡ Good h → TellsIn version bytes h
good_sound version bytes h e = subst (λ (l : List ℕ). TellsIn version l h) (unsplit_is 10 bytes) (lines_sound version (split_at 10 bytes) h e)

-- bytes that are judged bad are not of the form
pub bad_sound : (version : Version) (bytes : List ℕ) (line : ℕ) → lines_on version (split_at 10 bytes) ≡ Bad line → IsForm version bytes → ⊥
unfolding verdict_of
bad_sound version bytes line e f = clash (sym e ∙ ap (λ (l : List ℕ). lines_on version (split_at 10 l)) f.1.text ∙ good_gives version f.0 f.1.tellable f.1.said)
  where
    clash : {n : ℕ} {h : Told} → Bad n ≡ Good h → ⊥
    clash e = cc

good_same : {g h : Told} → Good g ≡ Good h → g ≡ h
good_same e = cc

-- bytes tell one history
pub one_told : (version : Version) (bytes : List ℕ) (g h : Told) → TellsIn version bytes g → TellsIn version bytes h → roomless_told g ≡ roomless_told h
one_told version bytes g h p q = good_same (sym (good_gives version g p.tellable p.said) ∙ ap (verdict_of version) (sym p.text ∙ q.text) ∙ good_gives version h q.tellable q.said)

pub one_history : (bytes : List ℕ) (g h : Told) → Tells bytes g → Tells bytes h → roomless_told g ≡ roomless_told h
one_history bytes g h p q = one_told Two bytes g h p q

pub text_is_of_form : (h : Told) → IsTellable h → IsFormTwo (text_of_told h)
text_is_of_form h t = (h, record { tellable = t; said = tt; text = refl })
