-- The lines up to a bad one are bad, whatever follows them.
use Rattle.std.proofs.Common.{◌≡◌, ℕ, zero, suc, ◌+◌, ◌<◌, ◌≤◌, List, [], ◌∷◌, ◌++◌, length, take, Bool, true, false, not, ◌&&◌, cond, eqb, leb, Option, None, Some, refl, sym, ◌∙◌, ap, append_assoc, arith}
use Rattle.std.proofs.lemmas.Bool.{and_parts}
use Rattle.std.proofs.lemmas.Bool.Decides.{nat_tests}
use Rattle.gm_base.specs.declared.values.Setup.{Setup}
use Rattle.gm_flat.specs.declared.entry.Entry.{Entry}
use Rattle.gm_history.specs.declared.version.Version.{Version}
use Rattle.gm_history.specs.Cuts.{split_at, onto_first}
use Rattle.gm_history.specs.Given.{given}
use Rattle.gm_history.specs.Lines.{Counts, counts_of, entry_in, setup_of}
use Rattle.gm_history.specs.Reading.{Verdict, Good, Bad, entry_or, if_more, is_header, last_line, lines_on, machine_on, setup_or, told_at, told_on}
use Rattle.gm_history.specs.TextForm.{Told, last_turn, lines_text}
use Rattle.gm_history.proofs.NumberReads.{lacks}
use Rattle.gm_history.proofs.SpanReads.{split_more}

-- numbers of bad lines

bad_is : {m n : ℕ} → Bad m ≡ Bad n → m ≡ n
bad_is e = cc

good_bad : {A : Type 0} {h : Told} {n : ℕ} → Good h ≡ Bad n → A
good_bad e = absurd (clash e)
  where
    clash : {h : Told} {n : ℕ} → Good h ≡ Bad n → ⊥
    clash e = cc

pub length_push : (es : List Entry) (e : Entry) → length (es ++ e ∷ []) ≡ length es + 1
length_push [] e = refl
length_push (f ∷ es) e = omega (arith, length_push es e)

-- a last line is bad itself, or the one after it is
told_at_bad : (s : Setup) (es : List Entry) (turns : ℕ) (lines : List (List ℕ)) (n : ℕ) → told_at s es turns lines ≡ Bad n → n ≡ length es + 4
told_at_bad s es turns [] n e = sym (bad_is e)
told_at_bad s es turns ([] ∷ []) n e = good_bad e
told_at_bad s es turns ([] ∷ (p ∷ ps)) n e = sym (bad_is e)
told_at_bad s es turns ((x ∷ xs) ∷ ps) n e = sym (bad_is e)

-- what last lines are: bad, or right with the next line bad
pub data LastBad (s : Setup) (es : List Entry) (o : Option Counts) (n : ℕ) : Type 0 where
  Here : n ≡ length es + 3 → ((lines : List (List ℕ)) → last_line s es o lines ≡ Bad n) → LastBad s es o n
  Next : (c : Counts) → o ≡ Some c → c.entries ≡ length es → last_turn es ≤ c.turns → n ≡ length es + 4 → LastBad s es o n

last_bad_on : (t : Bool) (s : Setup) (es : List Entry) (c : Counts) (lines : List (List ℕ)) (n : ℕ) → t ≡ (eqb c.entries (length es) && leb (last_turn es) c.turns) → cond t (told_at s es c.turns lines) (Bad (length es + 3)) ≡ Bad n → LastBad s es (Some c) n
last_bad_on true s es c lines n h e =
    let q = and_parts (eqb c.entries (length es)) (leb (last_turn es) c.turns) (sym h) in
    Next c refl (equal_is c.entries (length es) q.0) (most_is (last_turn es) c.turns q.1) (told_at_bad s es c.turns lines n e)
  where
    equal_is : (a b : ℕ) → eqb a b ≡ true → a ≡ b
    equal_is a b k = grind (arith, nat_tests)

    most_is : (a b : ℕ) → leb a b ≡ true → a ≤ b
    most_is a b k = grind (arith, nat_tests)
last_bad_on false s es c lines n h e =
    Here (sym (bad_is e)) (λ more. if_not (eqb c.entries (length es) && leb (last_turn es) c.turns) (told_at s es c.turns more) (Bad (length es + 3)) h ∙ e)
  where
    if_not : (t : Bool) (v u : Verdict) → false ≡ t → cond t v u ≡ u
    if_not true v u h = absurd cc
    if_not false v u h = refl

pub last_bad : (s : Setup) (es : List Entry) (o : Option Counts) (lines : List (List ℕ)) (n : ℕ) → last_line s es o lines ≡ Bad n → LastBad s es o n
last_bad s es None lines n e = Here (sym (bad_is e)) (λ more. e)
last_bad s es (Some c) lines n e = last_bad_on (eqb c.entries (length es) && leb (last_turn es) c.turns) s es c lines n refl e

-- what a bad line follows from

pub more_bad : (number : ℕ) (lines : List (List ℕ)) (v : Verdict) (n : ℕ) (P : Type 0) → (lines ≡ [] → number ≡ n → P) → (v ≡ Bad n → P) → if_more number lines v ≡ Bad n → P
more_bad number [] v n P p q e = p refl (bad_is e)
more_bad number (line ∷ lines) v n P p q e = q e

pub entry_bad : (o : Option Entry) (next : Entry → Verdict) (other : Verdict) (n : ℕ) (P : Type 0) → ((e : Entry) → o ≡ Some e → next e ≡ Bad n → P) → (o ≡ None → other ≡ Bad n → P) → entry_or o next other ≡ Bad n → P
entry_bad None next other n P p q e = q refl e
entry_bad (Some f) next other n P p q e = p f refl e

pub setup_bad : (version : Version) (o : Option Setup) (lines : List (List ℕ)) (n : ℕ) (P : Type 0) → ((s : Setup) → o ≡ Some s → told_on version s lines [] ≡ Bad n → P) → (o ≡ None → 2 ≡ n → P) → setup_or version o lines ≡ Bad n → P
setup_bad version None lines n P p q e = q refl (bad_is e)
setup_bad version (Some s) lines n P p q e = p s refl e

pub header_bad : (t : Bool) (v : Verdict) (n : ℕ) (P : Type 0) → (t ≡ true → v ≡ Bad n → P) → (t ≡ false → 1 ≡ n → P) → cond t v (Bad 1) ≡ Bad n → P
header_bad true v n P p q e = p refl e
header_bad false v n P p q e = q refl (bad_is e)

last_late : (s : Setup) (es : List Entry) (o : Option Counts) (n : ℕ) → LastBad s es o n → length es + 3 ≤ n
last_late s es o n (Here h f) = omega (arith, h)
last_late s es o n (Next c p q r h) = omega (arith, h)

-- the bad line is not one before these
pub bad_late : (version : Version) (s : Setup) (ps : List (List ℕ)) (done : List Entry) (n : ℕ) → told_on version s ps done ≡ Bad n → length done + 3 ≤ n
bad_late version s [] done n e = let k : length done + 3 ≡ n = bad_is e in omega (arith, k)
bad_late version s (line ∷ lines) done n e =
    more_bad (length done + 3) lines (entry_or (entry_in version (given done) line) (λ f. told_on version s lines (done ++ f ∷ [])) (last_line s done (counts_of line) lines)) n (length done + 3 ≤ n)
    (λ z h. omega (arith, h))
    (λ k. entry_bad (entry_in version (given done) line) (λ f. told_on version s lines (done ++ f ∷ [])) (last_line s done (counts_of line) lines) n (length done + 3 ≤ n)
    (λ f p q. omega (arith, length_push done f, bad_late version s lines (done ++ f ∷ []) n q))
    (λ p q. last_late s done (counts_of line) n (last_bad s done (counts_of line) lines n q)) k) e

pub no_lines : (lines : List (List ℕ)) → lines ≡ [] → length lines ≡ 0
no_lines lines e = ap length e

-- nor one after the last
last_few : (s : Setup) (es : List Entry) (o : Option Counts) (n : ℕ) → LastBad s es o n → n ≤ length es + 4
last_few s es o n (Here h f) = omega (arith, h)
last_few s es o n (Next c p q r h) = omega (arith, h)

pub bad_few : (version : Version) (s : Setup) (ps : List (List ℕ)) (done : List Entry) (n : ℕ) → 0 < length ps → told_on version s ps done ≡ Bad n → n ≤ length done + 2 + length ps
bad_few version s [] done n l e = absurd (omega arith)
bad_few version s (line ∷ []) done n l e = let k : length done + 3 ≡ n = bad_is e in omega (arith, k)
bad_few version s (line ∷ (next ∷ lines)) done n l e =
    entry_bad (entry_in version (given done) line) (λ f. told_on version s (next ∷ lines) (done ++ f ∷ [])) (last_line s done (counts_of line) (next ∷ lines)) n (n ≤ length done + 2 + length (line ∷ (next ∷ lines)))
    (λ f p q. omega (arith, length_push done f, bad_few version s (next ∷ lines) (done ++ f ∷ []) n (omega arith) q))
    (λ p q. omega (arith, last_few s done (counts_of line) n (last_bad s done (counts_of line) (next ∷ lines) n q))) e

-- the lines up to the bad one are bad, whatever follows them

if_some : (number : ℕ) (xs : List (List ℕ)) (q : List ℕ) (qs : List (List ℕ)) (v : Verdict) → if_more number (xs ++ (q ∷ qs)) v ≡ v
if_some number [] q qs v = refl
if_some number (x ∷ xs) q qs v = refl

told_at_more : (s : Setup) (es : List Entry) (turns : ℕ) (l : List ℕ) (xs : List (List ℕ)) (q : List ℕ) (qs : List (List ℕ)) → told_at s es turns (l ∷ (xs ++ (q ∷ qs))) ≡ Bad (length es + 4)
told_at_more s es turns [] [] q qs = refl
told_at_more s es turns [] (x ∷ xs) q qs = refl
told_at_more s es turns (b ∷ l) xs q qs = refl

right_counts : (n m a b : ℕ) → n ≡ m → a ≤ b → (eqb n m && leb a b) ≡ true
right_counts n m a b h k = grind (arith, nat_tests)

if_true : (t : Bool) (v u : Verdict) → t ≡ true → cond t v u ≡ v
if_true true v u h = refl
if_true false v u h = absurd cc

-- a right last line with something after it
next_bad : (s : Setup) (es : List Entry) (o : Option Counts) (c : Counts) (l : List ℕ) (xs : List (List ℕ)) (q : List ℕ) (qs : List (List ℕ)) (n : ℕ) → o ≡ Some c → c.entries ≡ length es → last_turn es ≤ c.turns → n ≡ length es + 4 → last_line s es o (l ∷ (xs ++ (q ∷ qs))) ≡ Bad n
next_bad s es o c l xs q qs n p h k z =
    ap (λ (o : Option Counts). last_line s es o (l ∷ (xs ++ (q ∷ qs)))) p
    ∙ if_true (eqb c.entries (length es) && leb (last_turn es) c.turns) (told_at s es c.turns (l ∷ (xs ++ (q ∷ qs)))) (Bad (length es + 3)) (right_counts c.entries (length es) (last_turn es) c.turns h k)
    ∙ told_at_more s es c.turns l xs q qs ∙ ap (λ (m : ℕ). Bad m) (sym z)

same_last : (s : Setup) (es : List Entry) (o : Option Counts) (q : List ℕ) (qs : List (List ℕ)) (n : ℕ) → n ≡ length es + 3 → LastBad s es o n → last_line s es o (q ∷ qs) ≡ Bad n
same_last s es o q qs n h (Here k f) = f (q ∷ qs)
same_last s es o q qs n h (Next c p r l k) = absurd (omega (arith, h, k))

same_next : (s : Setup) (es : List Entry) (o : Option Counts) (l : List ℕ) (xs : List (List ℕ)) (q : List ℕ) (qs : List (List ℕ)) (n : ℕ) → length es + 3 < n → LastBad s es o n → last_line s es o (l ∷ (xs ++ (q ∷ qs))) ≡ Bad n
same_next s es o l xs q qs n h (Here k f) = absurd (omega (arith, h, k))
same_next s es o l xs q qs n h (Next c p r t k) = next_bad s es o c l xs q qs n p r t k

entry_same : (version : Version) (s : Setup) (line : List ℕ) (done : List Entry) (xs : List (List ℕ)) (q : List ℕ) (qs : List (List ℕ)) (o : Option Entry) → entry_in version (given done) line ≡ o → told_on version s (line ∷ (xs ++ (q ∷ qs))) done ≡ entry_or o (λ f. told_on version s (xs ++ (q ∷ qs)) (done ++ f ∷ [])) (last_line s done (counts_of line) (xs ++ (q ∷ qs)))
entry_same version s line done xs q qs o p =
    if_some (length done + 3) xs q qs (entry_or (entry_in version (given done) line) (λ f. told_on version s (xs ++ (q ∷ qs)) (done ++ f ∷ [])) (last_line s done (counts_of line) (xs ++ (q ∷ qs))))
    ∙ ap (λ (o : Option Entry). entry_or o (λ f. told_on version s (xs ++ (q ∷ qs)) (done ++ f ∷ [])) (last_line s done (counts_of line) (xs ++ (q ∷ qs)))) p

same_on : (version : Version) (s : Setup) (k : ℕ) (ps : List (List ℕ)) (done : List Entry) (n : ℕ) (q : List ℕ) (qs : List (List ℕ)) → told_on version s ps done ≡ Bad n → n ≡ length done + 3 + k → k + 1 < length ps → told_on version s (take (suc k) ps ++ (q ∷ qs)) done ≡ Bad n
same_on version s k [] done n q qs e h l = absurd (omega arith)
same_on version s k (line ∷ []) done n q qs e h l = absurd (omega arith)
same_on version s zero (line ∷ (next ∷ lines)) done n q qs e h l =
    entry_bad (entry_in version (given done) line) (λ f. told_on version s (next ∷ lines) (done ++ f ∷ [])) (last_line s done (counts_of line) (next ∷ lines)) n (told_on version s (line ∷ (q ∷ qs)) done ≡ Bad n)
    (λ f p r. absurd (omega (arith, length_push done f, bad_late version s (next ∷ lines) (done ++ f ∷ []) n r, h)))
    (λ p r. entry_same version s line done [] q qs None p ∙ same_last s done (counts_of line) q qs n (omega (arith, h)) (last_bad s done (counts_of line) (next ∷ lines) n r)) e
same_on version s (suc k) (line ∷ (next ∷ lines)) done n q qs e h l =
    entry_bad (entry_in version (given done) line) (λ f. told_on version s (next ∷ lines) (done ++ f ∷ [])) (last_line s done (counts_of line) (next ∷ lines)) n (told_on version s (line ∷ (take (suc k) (next ∷ lines) ++ (q ∷ qs))) done ≡ Bad n)
    (λ f p r. entry_same version s line done (take (suc k) (next ∷ lines)) q qs (Some f) p ∙ same_on version s k (next ∷ lines) (done ++ f ∷ []) n q qs r (omega (arith, h, length_push done f)) (omega (arith, l)))
    (λ p r. entry_same version s line done (take (suc k) (next ∷ lines)) q qs None p ∙ same_next s done (counts_of line) next (take k lines) q qs n (omega (arith, h)) (last_bad s done (counts_of line) (next ∷ lines) n r)) e

pub machine_late : (version : Version) (ps : List (List ℕ)) (n : ℕ) → machine_on version ps ≡ Bad n → 2 ≤ n
machine_late version [] n e = let k : 2 ≡ n = bad_is e in omega (arith, k)
machine_late version (line ∷ lines) n e =
    more_bad 2 lines (setup_or version (setup_of line) lines) n (2 ≤ n) (λ z h. omega (arith, h))
    (λ k. setup_bad version (setup_of line) lines n (2 ≤ n) (λ s p q. let b : 3 ≤ n = bad_late version s lines [] n q in omega (arith, b)) (λ p h. omega (arith, h)) k) e

same_machine : (version : Version) (k : ℕ) (ps : List (List ℕ)) (n : ℕ) (q : List ℕ) (qs : List (List ℕ)) → machine_on version ps ≡ Bad n → n ≡ k + 2 → k + 1 < length ps → machine_on version (take (suc k) ps ++ (q ∷ qs)) ≡ Bad n
same_machine version k [] n q qs e h l = absurd (omega arith)
same_machine version k (line ∷ []) n q qs e h l = absurd (omega arith)
same_machine version zero (line ∷ (next ∷ lines)) n q qs e h l =
    setup_bad version (setup_of line) (next ∷ lines) n (machine_on version (line ∷ (q ∷ qs)) ≡ Bad n)
    (λ s p r. let b : 3 ≤ n = bad_late version s (next ∷ lines) [] n r in absurd (omega (arith, b, h)))
    (λ p r. ap (λ (o : Option Setup). setup_or version o (q ∷ qs)) p ∙ ap (λ (m : ℕ). Bad m) r) e
same_machine version (suc k) (line ∷ (next ∷ lines)) n q qs e h l =
    let xs : List (List ℕ) = take (suc k) (next ∷ lines) in
    setup_bad version (setup_of line) (next ∷ lines) n (machine_on version (line ∷ (xs ++ (q ∷ qs))) ≡ Bad n)
    (λ s p r. if_some 2 xs q qs (setup_or version (setup_of line) (xs ++ (q ∷ qs))) ∙ ap (λ (o : Option Setup). setup_or version o (xs ++ (q ∷ qs))) p ∙ same_on version s k (next ∷ lines) [] n q qs r (omega (arith, h)) (omega (arith, l)))
    (λ p r. absurd (omega (arith, h, r))) e

same_lines : (version : Version) (k : ℕ) (ps : List (List ℕ)) (n : ℕ) (q : List ℕ) (qs : List (List ℕ)) → lines_on version ps ≡ Bad n → n ≡ k + 1 → k + 1 < length ps → lines_on version (take (suc k) ps ++ (q ∷ qs)) ≡ Bad n
same_lines version k [] n q qs e h l = absurd (omega arith)
same_lines version k (line ∷ []) n q qs e h l = absurd (omega arith)
same_lines version zero (line ∷ (next ∷ lines)) n q qs e h l =
    header_bad (is_header version line) (machine_on version (next ∷ lines)) n (lines_on version (line ∷ (q ∷ qs)) ≡ Bad n)
    (λ t r. absurd (omega (arith, machine_late version (next ∷ lines) n r, h)))
    (λ t r. ap (λ (b : Bool). cond b (machine_on version (q ∷ qs)) (Bad 1)) t ∙ ap (λ (m : ℕ). Bad m) r) e
same_lines version (suc k) (line ∷ (next ∷ lines)) n q qs e h l =
    let xs : List (List ℕ) = take (suc k) (next ∷ lines) in
    header_bad (is_header version line) (machine_on version (next ∷ lines)) n (lines_on version (line ∷ (xs ++ (q ∷ qs))) ≡ Bad n)
    (λ t r. if_some 1 xs q qs (cond (is_header version line) (machine_on version (xs ++ (q ∷ qs))) (Bad 1)) ∙ ap (λ (b : Bool). cond b (machine_on version (xs ++ (q ∷ qs))) (Bad 1)) t ∙ same_machine version k (next ∷ lines) n q qs r (omega (arith, h)) (omega (arith, l)))
    (λ t r. absurd (omega (arith, h, r))) e

-- pieces and lines

abbrev AllLack : List (List ℕ) → Type 0
AllLack [] = Unit {0}
AllLack (p ∷ ps) = (lacks 10 p ≡ true) × AllLack ps

lack_step : (t : Bool) (x : ℕ) (ps : List (List ℕ)) → t ≡ eqb x 10 → AllLack ps → AllLack (cond t ([] ∷ ps) (onto_first x ps))
lack_step true x ps h a = (refl, a)
lack_step false x [] h a = (no_ten x h, tt)
  where
    no_ten : (x : ℕ) → false ≡ eqb x 10 → (not (eqb x 10) && true) ≡ true
    no_ten x h = grind (arith, nat_tests)
lack_step false x (p ∷ ps) h a = (no_ten x (lacks 10 p) h a.0, a.1)
  where
    no_ten : (x : ℕ) (t : Bool) → false ≡ eqb x 10 → t ≡ true → (not (eqb x 10) && t) ≡ true
    no_ten x t h k = grind (arith, nat_tests)

pieces_lack : (xs : List ℕ) → AllLack (split_at 10 xs)
pieces_lack [] = (refl, tt)
pieces_lack (x ∷ xs) = lack_step (eqb x 10) x (split_at 10 xs) refl (pieces_lack xs)

take_lack : (k : ℕ) (ps : List (List ℕ)) → AllLack ps → AllLack (take k ps)
take_lack zero ps a = tt
take_lack (suc k) [] a = tt
take_lack (suc k) (p ∷ ps) a = (a.0, take_lack k ps a.1)

split_lines : (ls : List (List ℕ)) (rest : List ℕ) → AllLack ls → split_at 10 (lines_text ls ++ rest) ≡ ls ++ split_at 10 rest
split_lines [] rest a = refl
split_lines (l ∷ ls) rest a =
    ap (split_at 10) (append_assoc l (10 ∷ lines_text ls) rest) ∙ split_more 10 l (lines_text ls ++ rest) a.0 ∙ ap (λ (ps : List (List ℕ)). l ∷ ps) (split_lines ls rest a.1)

some_step : (t : Bool) (x : ℕ) (ps : List (List ℕ)) → (q : List ℕ) × ((qs : List (List ℕ)) × (cond t ([] ∷ ps) (onto_first x ps) ≡ q ∷ qs))
some_step true x ps = ([], (ps, refl))
some_step false x [] = (x ∷ [], ([], refl))
some_step false x (p ∷ ps) = (x ∷ p, (ps, refl))

pub pieces_some : (xs : List ℕ) → (q : List ℕ) × ((qs : List (List ℕ)) × (split_at 10 xs ≡ q ∷ qs))
pieces_some [] = ([], ([], refl))
pieces_some (x ∷ xs) = some_step (eqb x 10) x (split_at 10 xs)

pub same_bytes : (version : Version) (bytes rest : List ℕ) (k n : ℕ) → lines_on version (split_at 10 bytes) ≡ Bad n → n ≡ k + 1 → k + 1 < length (split_at 10 bytes) → lines_on version (split_at 10 (lines_text (take (suc k) (split_at 10 bytes)) ++ rest)) ≡ Bad n
same_bytes version bytes rest k n e h l =
    let ps : List (List ℕ) = split_at 10 bytes in
    let some = pieces_some rest in
    ap (lines_on version) (split_lines (take (suc k) ps) rest (take_lack (suc k) ps (pieces_lack bytes)) ∙ ap (λ (qs : List (List ℕ)). take (suc k) ps ++ qs) some.1.1)
    ∙ same_lines version k ps n some.0 some.1.0 e h l
