-- Walks along lists to the first item that is asked for.
use Rattle.std.proofs.Common.{◌≡◌, ◌≢◌, ℕ, zero, suc, ◌+◌, ◌<◌, ◌≤◌, List, [], ◌∷◌, ◌++◌, length, get_or, set, take, drop, Bool, true, false, cond, eqb, refl, sym, ◌∙◌, ap, arith}
use Rattle.std.specs.List.{remove}
use Rattle.std.proofs.lemmas.List.{drop_more, take_more, append_assoc, append-nil, set_split, same_lists, take_all, drop_all, get_or_default}
use Rattle.std.proofs.lemmas.Bool.Decides.{nat_tests}
use Rattle.gm_flat.specs.declared.views.SlotView.{SlotView}
use Rattle.gm_flat.specs.FlatState.{FileState, was_made}
use Rattle.gm_flat.specs.Effects.{dropped, marked, moved, shut_slot, shut_slots, shut_files}

differ : (a b : ℕ) → a ≢ b → eqb a b ≡ false
differ a b ne = grind (arith, nat_tests)

same : (a b : ℕ) → a ≡ b → eqb a b ≡ true
same a b e = grind (arith, nat_tests)

suc_is : (n : ℕ) → suc n ≡ n + 1
suc_is n = omega arith

-- one step along a list under a function of it that keeps the item
along : {X : Type 0} (xs : List X) (at : ℕ) (d : X) (F : List X → List X) → at < length xs → F (get_or xs at d ∷ drop (at + 1) xs) ≡ get_or xs at d ∷ F (drop (at + 1) xs) → take at xs ++ F (drop at xs) ≡ take (at + 1) xs ++ F (drop (at + 1) xs)
along {X = X} xs at d F h step =
    ap (λ (l : List X). take at xs ++ F l) (drop_more xs at d h)
    ∙ (ap (λ (l : List X). take at xs ++ l) step
    ∙ (sym (append_assoc (take at xs) (get_or xs at d ∷ []) (F (drop (at + 1) xs))) ∙ ap (λ (l : List X). l ++ F (drop (at + 1) xs)) (sym (take_more xs at d h))))

-- nothing is left at the end
ended : {X : Type 0} (xs : List X) (at : ℕ) (F : List X → List X) → F [] ≡ [] → length xs ≤ at → take at xs ++ F (drop at xs) ≡ xs
ended {X = X} xs at F e h =
    ap (λ (l : List X). take at xs ++ F l) (drop_all at xs h)
    ∙ (ap (λ (l : List X). take at xs ++ l) e ∙ (append-nil (take at xs) ∙ take_all at xs h))

-- what is kept before the first slot of an id, when a slot is dropped, marked or moved
pub record Passed (slots : List SlotView) (at id : ℕ) : Type 0 where
  pub drops : dropped id slots ≡ take at slots ++ dropped id (drop at slots)
  pub moves : (base : ℕ) → moved id base slots ≡ take at slots ++ moved id base (drop at slots)
  pub marks : marked id slots ≡ take at slots ++ marked id (drop at slots)

pub passed_none : (slots : List SlotView) (id : ℕ) → Passed slots 0 id
passed_none slots id = record { drops = refl; moves = λ base. refl; marks = refl }

pub passed_more : (slots : List SlotView) (at id : ℕ) (d : SlotView) → Passed slots at id → at < length slots → (get_or slots at d).id ≢ id → Passed slots (at + 1) id
passed_more slots at id d p h ne =
    let s : SlotView = get_or slots at d in
    let rest : List SlotView = drop (at + 1) slots in
    record {
      drops = p.drops ∙ along slots at d (λ (l : List SlotView). dropped id l) h (ap (λ (b : Bool). cond b rest (s ∷ dropped id rest)) (differ s.id id ne));
      moves = λ base. p.moves base ∙ along slots at d (λ (l : List SlotView). moved id base l) h (ap (λ (b : Bool). cond b (record s { base = base; invalid = false } ∷ rest) (s ∷ moved id base rest)) (differ s.id id ne));
      marks = p.marks ∙ along slots at d (λ (l : List SlotView). marked id l) h (ap (λ (b : Bool). cond b (record s { invalid = true } ∷ rest) (s ∷ marked id rest)) (differ s.id id ne));
    }

pub drop_found : (slots : List SlotView) (at id : ℕ) (d : SlotView) → Passed slots at id → at < length slots → (get_or slots at d).id ≡ id → remove slots at ≡ dropped id slots
drop_found slots at id d p h here =
    let s : SlotView = get_or slots at d in
    ap (λ (n : ℕ). take at slots ++ drop n slots) (suc_is at)
    ∙ sym (p.drops ∙ (ap (λ (l : List SlotView). take at slots ++ dropped id l) (drop_more slots at d h)
    ∙ ap (λ (b : Bool). take at slots ++ cond b (drop (at + 1) slots) (s ∷ dropped id (drop (at + 1) slots))) (same s.id id here)))

pub move_found : (slots : List SlotView) (at id base : ℕ) (d s : SlotView) → Passed slots at id → at < length slots → (get_or slots at d).id ≡ id → s ≡ get_or slots at s → set slots at (record s { base = base; invalid = false }) ≡ moved id base slots
move_found slots at id base d s p h here is =
    let e : s ≡ get_or slots at d = is ∙ get_or_default slots at s d h in
    set_split slots at (record s { base = base; invalid = false }) h
    ∙ (ap (λ (n : ℕ). take at slots ++ record s { base = base; invalid = false } ∷ drop n slots) (suc_is at)
    ∙ (ap (λ (x : SlotView). take at slots ++ record x { base = base; invalid = false } ∷ drop (at + 1) slots) e
    ∙ sym (p.moves base ∙ (ap (λ (l : List SlotView). take at slots ++ moved id base l) (drop_more slots at d h)
    ∙ ap (λ (b : Bool). take at slots ++ cond b (record (get_or slots at d) { base = base; invalid = false } ∷ drop (at + 1) slots) (get_or slots at d ∷ moved id base (drop (at + 1) slots))) (same (get_or slots at d).id id here)))))

pub mark_found : (slots : List SlotView) (at id : ℕ) (d s : SlotView) → Passed slots at id → at < length slots → (get_or slots at d).id ≡ id → s ≡ get_or slots at s → set slots at (record s { invalid = true }) ≡ marked id slots
mark_found slots at id d s p h here is =
    let e : s ≡ get_or slots at d = is ∙ get_or_default slots at s d h in
    set_split slots at (record s { invalid = true }) h
    ∙ (ap (λ (n : ℕ). take at slots ++ record s { invalid = true } ∷ drop n slots) (suc_is at)
    ∙ (ap (λ (x : SlotView). take at slots ++ record x { invalid = true } ∷ drop (at + 1) slots) e
    ∙ sym (p.marks ∙ (ap (λ (l : List SlotView). take at slots ++ marked id l) (drop_more slots at d h)
    ∙ ap (λ (b : Bool). take at slots ++ cond b (record (get_or slots at d) { invalid = true } ∷ drop (at + 1) slots) (get_or slots at d ∷ marked id (drop (at + 1) slots))) (same (get_or slots at d).id id here)))))

pub drops_ended : (slots : List SlotView) (at id : ℕ) → Passed slots at id → length slots ≤ at → dropped id slots ≡ slots
drops_ended slots at id p h = p.drops ∙ ended slots at (λ (l : List SlotView). dropped id l) refl h

pub moves_ended : (slots : List SlotView) (at id base : ℕ) → Passed slots at id → length slots ≤ at → moved id base slots ≡ slots
moves_ended slots at id base p h = p.moves base ∙ ended slots at (λ (l : List SlotView). moved id base l) refl h

pub marks_ended : (slots : List SlotView) (at id : ℕ) → Passed slots at id → length slots ≤ at → marked id slots ≡ slots
marks_ended slots at id p h = p.marks ∙ ended slots at (λ (l : List SlotView). marked id l) refl h

-- what is kept before the first file of a number, when one is shut
pub record PassedFiles (files : List FileState) (at number : ℕ) : Type 0 where
  pub made : was_made number files ≡ was_made number (drop at files)
  pub shuts : shut_files number files ≡ take at files ++ shut_files number (drop at files)

pub files_more : (files : List FileState) (at number : ℕ) (d : FileState) → PassedFiles files at number → at < length files → eqb (get_or files at d).number number ≡ false → PassedFiles files (at + 1) number
files_more files at number d p h e =
    let f : FileState = get_or files at d in
    let rest : List FileState = drop (at + 1) files in
    record {
      made = p.made ∙ (ap (λ (l : List FileState). was_made number l) (drop_more files at d h) ∙ rw e refl);
      shuts = p.shuts ∙ along files at d (λ (l : List FileState). shut_files number l) h (ap (λ (b : Bool). cond b (record f { used = false } ∷ rest) (f ∷ shut_files number rest)) e);
    }

pub made_found : (files : List FileState) (at number : ℕ) (d : FileState) → PassedFiles files at number → at < length files → eqb (get_or files at d).number number ≡ true → was_made number files ≡ true
made_found files at number d p h e = p.made ∙ (ap (λ (l : List FileState). was_made number l) (drop_more files at d h) ∙ rw e refl)

pub made_ended : (files : List FileState) (at number : ℕ) → PassedFiles files at number → length files ≤ at → was_made number files ≡ false
made_ended files at number p h = p.made ∙ ap (λ (l : List FileState). was_made number l) (drop_all at files h)

pub shut_found : (files : List FileState) (at number : ℕ) (d f : FileState) → PassedFiles files at number → at < length files → eqb (get_or files at d).number number ≡ true → f ≡ get_or files at f → set files at (record f { used = false }) ≡ shut_files number files
shut_found files at number d f p h here is =
    let e : f ≡ get_or files at d = is ∙ get_or_default files at f d h in
    set_split files at (record f { used = false }) h
    ∙ (ap (λ (n : ℕ). take at files ++ record f { used = false } ∷ drop n files) (suc_is at)
    ∙ (ap (λ (x : FileState). take at files ++ record x { used = false } ∷ drop (at + 1) files) e
    ∙ sym (p.shuts ∙ (ap (λ (l : List FileState). take at files ++ shut_files number l) (drop_more files at d h)
    ∙ ap (λ (b : Bool). take at files ++ cond b (record (get_or files at d) { used = false } ∷ drop (at + 1) files) (get_or files at d ∷ shut_files number (drop (at + 1) files))) here))))

-- the slots of a file, place by place
length_shut : (file : ℕ) (slots : List SlotView) → length (shut_slots file slots) ≡ length slots
length_shut file [] = refl
length_shut file (s ∷ slots) = ap suc (length_shut file slots)

get_shut : (file : ℕ) (slots : List SlotView) (at : ℕ) (d : SlotView) → at < length slots → get_or (shut_slots file slots) at d ≡ shut_slot file (get_or slots at d)
get_shut file [] at d h = absurd (omega arith)
get_shut file (s ∷ slots) zero d h = refl
get_shut file (s ∷ slots) (suc at) d h = get_shut file slots at d (omega arith)

pub are_shut : (file : ℕ) (old new : List SlotView) → length new ≡ length old → ((at : ℕ) (d : SlotView) → at < length old → get_or new at d ≡ shut_slot file (get_or old at d)) → new ≡ shut_slots file old
are_shut file old new long each =
    same_lists new (shut_slots file old) (long ∙ sym (length_shut file old)) (λ at d h. each at d (omega (arith, long)) ∙ sym (get_shut file old at d (omega (arith, long))))
