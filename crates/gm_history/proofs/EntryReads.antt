-- The lines of entries, the `machine` line and the last line are read back, and what is read is such a line.
use Rattle.std.proofs.Common.{◌≡◌, ℕ, ◌<◌, ◌≤◌, List, [], ◌∷◌, ◌++◌, Bool, true, false, not, ◌&&◌, cond, eqb, leb, Option, None, Some, refl, sym, ◌∙◌, ap, subst, append_assoc, arith, lit<}
use Rattle.std.specs.Prelude.{codes}
use Rattle.std.specs.Fmt.{decimal}
use Rattle.std.proofs.lemmas.Bool.{and_parts}
use Rattle.std.proofs.lemmas.Bool.Decides.{nat_tests}
use Rattle.gm_base.specs.declared.numbers.TheConstants.{MOST_FRAMES, MOST_USER_PAGES, MOST_VCPUS, MOST_CALLERS}
use Rattle.gm_base.specs.declared.values.Actor.{Actor}
use Rattle.gm_base.specs.declared.values.Setup.{Setup}
use Rattle.gm_flat.specs.InTypes.{roomless}
use Rattle.gm_flat.specs.Plain.{IsPlainWhat}
use Rattle.gm_flat.specs.declared.entry.Entry.{Entry}
use Rattle.gm_flat.specs.declared.entry.What.{What}
use Rattle.gm_text.specs.Text.{actor_letter, actor_number, end_text, line_text, machine_text}
use Rattle.gm_history.specs.declared.given.Run.{Run}
use Rattle.gm_history.specs.declared.version.Version.{Version}
use Rattle.gm_history.specs.Cuts.{strip}
use Rattle.gm_history.specs.Fields.{U64, OfActor, Nothing, after}
use Rattle.gm_history.specs.Lines.{Counts, counts_of, end_pieces, entry_by, entry_in, head_pieces, if_within, is_within, machine_of, machine_pieces, setup_by, setup_of}
use Rattle.gm_history.specs.Numerals.{Got, got, with_got, with_rest, number_at}
use Rattle.gm_history.specs.Patterns.{Say, Holes, AreHolesRanged, parse, weave, whole}
use Rattle.gm_history.specs.Ranges.{IsEntryRanged, IsU64, IsWithin}
use Rattle.gm_history.specs.OldWhats.{what_in}
use Rattle.gm_history.proofs.FieldReads.{none_some, some_is, strip_gives}
use Rattle.gm_history.proofs.NumberReads.{lacks, lacks_append}
use Rattle.gm_history.proofs.OldReads.{IsSaid, what_in_gives, what_in_lacks, what_in_sound, what_text_in}
use Rattle.gm_history.proofs.Runs.{AreSmall}
use Rattle.gm_history.proofs.Weaving.{parse_more, parse_sound, weave_lacks, whole_gives, whole_sound}

abbrev pub entry : ℕ → Actor → What → Entry
entry turn actor what = record { turn = turn; actor = actor; what = what }

abbrev pub roomless_entry : Entry → Entry
roomless_entry e = entry e.turn e.actor (roomless e.what)

abbrev head : Entry → Holes head_pieces
head e = (e.turn, (e.actor, (tt, tt)))

-- an entry's line without its newline
abbrev pub entry_line : Version → Entry → List ℕ
entry_line version e = weave head_pieces (head e) ++ what_text_in version e.what

pub entry_grouped : (version : Version) (e : Entry) (x : List ℕ) → line_text e (what_text_in version e.what) ++ x ≡ entry_line version e ++ (10 ∷ x)
entry_grouped version e x = simp append_assoc refl

word_only : (word x : List ℕ) → after word Nothing (word ++ x) ≡ Some (got tt x)
unfolding after
word_only word x = ap (λ (o : Option (List ℕ)). with_rest o (λ rest. Some (got tt rest))) (strip_gives word x)

head_right : (version : Version) (e : Entry) → entry_line version e ≡ decimal e.turn ++ (codes " " ++ ((actor_letter e.actor ++ decimal (actor_number e.actor)) ++ (codes " " ++ what_text_in version e.what)))
head_right version e = simp append_assoc refl

pub entry_gives : (version : Version) (runs : List Run) (e : Entry) → IsPlainWhat e.what → IsEntryRanged e → IsSaid version runs e.what → entry_in version runs (entry_line version e) ≡ Some (roomless_entry e)
unfolding entry_in
entry_gives version runs e i r s =
    let next : Holes head_pieces → List ℕ → Option Entry = λ h rest. entry_by h.0 h.1.0 (what_in version runs rest) in
    let what : List ℕ = what_text_in version e.what in
    ap (λ (l : List ℕ). parse head_pieces l next) (head_right version e)
    ∙ parse_more [] U64 (Say (codes " ") OfActor ∷ Say (codes " ") Nothing ∷ []) e.turn (codes " " ++ ((actor_letter e.actor ++ decimal (actor_number e.actor)) ++ (codes " " ++ what))) next r.0 refl
    ∙ parse_more (codes " ") OfActor (Say (codes " ") Nothing ∷ []) e.actor (codes " " ++ what) (λ h more. next (e.turn, h) more) r.1 refl
    ∙ ap (λ (o : Option (Got (Unit {0}))). with_got o (λ value rest. next (e.turn, (e.actor, (value, tt))) rest)) (word_only (codes " ") what)
    ∙ ap (entry_by e.turn e.actor) (what_in_gives version runs e.what i r.2 s)

pub entry_lacks : (version : Version) (e : Entry) → IsPlainWhat e.what → IsEntryRanged e → lacks 10 (entry_line version e) ≡ true
entry_lacks version e i r = lacks_append 10 (weave head_pieces (head e)) (what_text_in version e.what) (weave_lacks 10 head_pieces (head e) (omega arith) (r.0, (r.1, (tt, tt))) refl) (what_in_lacks version e.what i r.2)

-- what an entry's line says
pub record SaidEntry (version : Version) (runs : List Run) (line : List ℕ) (e : Entry) : Type 0 where
  pub text : entry_line version e ≡ line
  pub plain : IsPlainWhat e.what
  pub ranged : IsEntryRanged e
  pub said : IsSaid version runs e.what

entry_by_sound : (turn : ℕ) (actor : Actor) (o : Option What) (e : Entry) → entry_by turn actor o ≡ Some e → (w : What) × (o ≡ Some w) × (entry turn actor w ≡ e)
entry_by_sound turn actor None e h = none_some h
entry_by_sound turn actor (Some w) e h = (w, refl, some_is h)

pub entry_sound : (version : Version) (runs : List Run) (line : List ℕ) (e : Entry) → AreSmall runs → entry_in version runs line ≡ Some e → SaidEntry version runs line e
unfolding entry_in
entry_sound version runs line e small h =
    let f = parse_sound head_pieces line (λ h rest. entry_by h.0 h.1.0 (what_in version runs rest)) e h in
    let a = entry_by_sound f.holes.0 f.holes.1.0 (what_in version runs f.rest) e f.value in
    let s = what_in_sound version runs f.rest a.0 small a.1 in
    subst (SaidEntry version runs line) a.2
    (record { text = ap (λ (l : List ℕ). weave head_pieces f.holes ++ l) s.text ∙ sym f.text; plain = s.plain; ranged = (f.ranged.0, f.ranged.1.0, s.ranged); said = s.said })

-- the `machine` line
abbrev machine : Setup → Holes machine_pieces
machine s = (s.frames, (s.user, (s.vcpus, (s.callers, (s.huge, tt)))))

abbrev pub machine_line : Setup → List ℕ
machine_line s = weave machine_pieces (machine s)

pub machine_grouped : (s : Setup) (x : List ℕ) → machine_text s ++ x ≡ machine_line s ++ (10 ∷ x)
machine_grouped s x = simp append_assoc refl

within_true : (frames user vcpus callers : ℕ) → frames ≤ MOST_FRAMES → user ≤ MOST_USER_PAGES → 1 ≤ vcpus → vcpus ≤ MOST_VCPUS → callers ≤ MOST_CALLERS → (leb frames MOST_FRAMES && leb user MOST_USER_PAGES && not (eqb vcpus 0) && leb vcpus MOST_VCPUS && leb callers MOST_CALLERS) ≡ true
within_true frames user vcpus callers a b c d e = grind (arith, nat_tests)

is_ranged : (s : Setup) → IsWithin s → AreHolesRanged machine_pieces (machine s)
is_ranged s w = (small s.frames MOST_FRAMES w.frames (lit< tt), (small s.user MOST_USER_PAGES w.user (lit< tt), (small s.vcpus MOST_VCPUS w.vcpus (lit< tt), (small s.callers MOST_CALLERS w.callers (lit< tt), (tt, tt)))))
  where
    small : (n most : ℕ) → n ≤ most → most < 4294967296 → n < 4294967296
    small n most h k = omega arith

if_true : (t : Bool) (s : Setup) → t ≡ true → cond t (Some s) None ≡ Some s
if_true true s h = refl
if_true false s h = absurd cc

pub setup_gives : (s : Setup) → IsWithin s → setup_of (machine_line s) ≡ Some s
unfolding setup_of machine_of is_within
setup_gives s w =
    ap if_within (whole_gives machine_pieces setup_by (machine s) (is_ranged s w) refl)
    ∙ if_true (is_within s) s (within_true s.frames s.user s.vcpus s.callers w.frames w.user w.some_vcpu w.vcpus w.callers)

pub machine_lacks : (s : Setup) → IsWithin s → lacks 10 (machine_line s) ≡ true
machine_lacks s w = weave_lacks 10 machine_pieces (machine s) (omega arith) (is_ranged s w) refl

within_sound : (s : Setup) → is_within s ≡ true → IsWithin s
unfolding is_within
within_sound s h =
    let a = and_parts _ _ h in
    let b = and_parts _ _ a.0 in
    let c = and_parts _ _ b.0 in
    let d = and_parts _ _ c.0 in
    record {
      frames = most s.frames MOST_FRAMES d.0;
      user = most s.user MOST_USER_PAGES d.1;
      some_vcpu = some s.vcpus c.1;
      vcpus = most s.vcpus MOST_VCPUS b.1;
      callers = most s.callers MOST_CALLERS a.1;
    }
  where
    most : (m n : ℕ) → leb m n ≡ true → m ≤ n
    most m n h = grind (arith, nat_tests)

    some : (n : ℕ) → not (eqb n 0) ≡ true → 1 ≤ n
    some n h = grind (arith, nat_tests)

if_within_sound : (o : Option Setup) (s : Setup) → if_within o ≡ Some s → (o ≡ Some s) × IsWithin s
if_within_sound None s h = none_some h
if_within_sound (Some r) s h = step (is_within r) r s refl h
  where
    step : (t : Bool) (r s : Setup) → t ≡ is_within r → cond t (Some r) None ≡ Some s → (Some r ≡ Some s) × IsWithin s
    step true r s e h = (h, subst IsWithin (some_is h) (within_sound r (sym e)))
    step false r s e h = none_some h

pub setup_sound : (line : List ℕ) (s : Setup) → setup_of line ≡ Some s → (machine_line s ≡ line) × IsWithin s
unfolding setup_of machine_of
setup_sound line s h =
    let a = if_within_sound (whole machine_pieces setup_by line) s h in
    let f = whole_sound machine_pieces setup_by line s a.0 in
    (ap machine_line (sym f.value) ∙ sym f.text, a.1)

-- the last line
abbrev pub end_line : ℕ → ℕ → List ℕ
end_line turns entries = weave end_pieces (turns, (entries, tt))

pub end_grouped : (turns entries : ℕ) → end_text turns entries ≡ end_line turns entries ++ (10 ∷ [])
end_grouped turns entries = simp append_assoc refl

pub counts_give : (turns entries : ℕ) → IsU64 turns → IsU64 entries → counts_of (end_line turns entries) ≡ Some (record { turns = turns; entries = entries })
unfolding counts_of
counts_give turns entries p q = whole_gives end_pieces (λ h. record { turns = h.0; entries = h.1.0 }) (turns, (entries, tt)) (p, (q, tt)) refl

pub counts_sound : (line : List ℕ) (c : Counts) → counts_of line ≡ Some c → (end_line c.turns c.entries ≡ line) × (IsU64 c.turns × IsU64 c.entries)
unfolding counts_of
counts_sound line c h =
    let build : Holes end_pieces → Counts = λ h. record { turns = h.0; entries = h.1.0 } in
    let f = whole_sound end_pieces build line c h in
    subst (λ (z : Counts). (end_line z.turns z.entries ≡ line) × (IsU64 z.turns × IsU64 z.entries)) f.value (sym f.text, (f.ranged.0, f.ranged.1.0))

pub end_lacks : (turns entries : ℕ) → IsU64 turns → IsU64 entries → lacks 10 (end_line turns entries) ≡ true
end_lacks turns entries p q = weave_lacks 10 end_pieces (turns, (entries, tt)) (omega arith) (p, (q, tt)) refl

-- it is no entry's line
pub end_no_entry : (version : Version) (runs : List Run) (turns entries : ℕ) → entry_in version runs (end_line turns entries) ≡ None
unfolding entry_in after strip number_at
end_no_entry version runs turns entries = refl
