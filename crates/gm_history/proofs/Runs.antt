-- Runs of serials that lines give.
use Rattle.std.proofs.Common.{◌≡◌, ℕ, ◌+◌, ◌-◌, ◌%◌, ◌<◌, ◌≤◌, List, [], ◌∷◌, ◌++◌, Bool, true, false, ◌&&◌, cond, eqb, leb, ltb, None, Some, refl, arith}
use Rattle.std.proofs.lemmas.Bool.Decides.{nat_tests}
use Rattle.gm_base.specs.declared.numbers.TheConstants.{BLOCK_PAGES}
use Rattle.gm_base.specs.declared.values.Folio.{Folio}
use Rattle.gm_flat.specs.Effects.{U32_LIMIT, U64_LIMIT}
use Rattle.gm_flat.specs.InTypes.{roomless}
use Rattle.gm_flat.specs.declared.effect.Backing.TheVariants.{User, Folio as InFolio}
use Rattle.gm_flat.specs.declared.effect.Effect.TheVariants.{Mark}
use Rattle.gm_flat.specs.declared.entry.Entry.{Entry}
use Rattle.gm_flat.specs.declared.entry.What.{What}
use Rattle.gm_flat.specs.declared.entry.What.TheVariants.{Get, Touch, Change, Page, Begin}
use Rattle.gm_history.specs.declared.given.Giving.{Giving}
use Rattle.gm_history.specs.declared.given.Giving.TheVariants.{NoSerial, Serials, Refused}
use Rattle.gm_history.specs.declared.given.Run.{Run}
use Rattle.gm_history.specs.Given.{run, giving_run, giving_block, giving_got, giving_of, GivesInRange, after_giving, given_after, given, gives, frame_given}
use Rattle.gm_history.proofs.FieldReads.{none_some, some_is}

-- what is given is in range

run_by : (r : Run) (t u : Bool) → leb (r.serial + r.pages) U64_LIMIT ≡ t → leb (r.frame + r.pages) U32_LIMIT ≡ u → GivesInRange (cond (t && u) (Serials r) Refused)
run_by r true true h k = (most (r.serial + r.pages) U64_LIMIT h, most (r.frame + r.pages) U32_LIMIT k)
  where
    most : (a b : ℕ) → leb a b ≡ true → a ≤ b
    most a b h = grind (arith, nat_tests)
run_by r true false h k = tt
run_by r false u h k = tt

run_ranged : (r : Run) → GivesInRange (giving_run r)
run_ranged r = run_by r (leb (r.serial + r.pages) U64_LIMIT) (leb (r.frame + r.pages) U32_LIMIT) refl refl

either_ranged : (t : Bool) (a b : Giving) → GivesInRange a → GivesInRange b → GivesInRange (cond t a b)
either_ranged true a b h k = h
either_ranged false a b h k = k

got_ranged : (folio : Folio) (fresh : ℕ) → GivesInRange (giving_got folio fresh)
got_ranged folio fresh =
    let m : ℕ = folio.frame % BLOCK_PAGES in
    let block : Run = run (folio.serial - m) (folio.frame - m) BLOCK_PAGES in
    let one : Run = run folio.serial folio.frame 1 in
    either_ranged (eqb fresh BLOCK_PAGES) (giving_block folio) (giving_run one) (either_ranged (leb m folio.serial) (giving_run block) Refused (run_ranged block) tt) (run_ranged one)

giving_ranged : (w : What) → GivesInRange (giving_of w)
giving_ranged (Get (InFolio folio) fresh) = got_ranged folio fresh
giving_ranged (Get (User page) fresh) = tt
giving_ranged (Page index folio pages) = run_ranged (run folio.serial folio.frame pages)
giving_ranged (Touch access (InFolio folio) level value fill) = tt
giving_ranged (Touch access (User page) level value fill) = tt
giving_ranged (Change (Mark slot)) = tt
giving_ranged w = tt

-- so each frame that is given is within its type
abbrev pub AreSmall : List Run → Type 0
AreSmall runs = (serial frame : ℕ) → frame_given runs serial ≡ Some frame → frame < 4294967296

run_small : (runs : List Run) (r : Run) → r.frame + r.pages ≤ U32_LIMIT → AreSmall runs → AreSmall (r ∷ runs)
run_small runs r h old serial frame e = by (gives r serial) refl e
  where
    within : (a n f s x : ℕ) → (leb a s && ltb s (a + n)) ≡ true → f + n ≤ 4294967296 → f + (s - a) ≡ x → x < 4294967296
    within a n f s x h k e = grind (arith, nat_tests)

    by : (t : Bool) → gives r serial ≡ t → cond t (Some (r.frame + (serial - r.serial))) (frame_given runs serial) ≡ Some frame → frame < 4294967296
    by true k e = within r.serial r.pages r.frame serial frame k h (some_is e)
    by false k e = old serial frame e

giving_small : (g : Giving) (runs : List Run) → GivesInRange g → AreSmall runs → AreSmall (after_giving g runs)
giving_small (Serials r) runs h old = run_small runs r h.1 old
giving_small NoSerial runs h old = old
giving_small Refused runs h old = old

small_after : (es : List Entry) (runs : List Run) → AreSmall runs → AreSmall (given_after runs es)
small_after [] runs old = old
small_after (e ∷ es) runs old = small_after es (after_giving (giving_of e.what) runs) (giving_small (giving_of e.what) runs (giving_ranged e.what) old)

pub given_small : (es : List Entry) → AreSmall (given es)
given_small es = small_after es [] (λ serial frame e. none_some e)

-- one entry more
after_push : (runs : List Run) (es fs : List Entry) → given_after runs (es ++ fs) ≡ given_after (given_after runs es) fs
after_push runs [] fs = refl
after_push runs (e ∷ es) fs = after_push (after_giving (giving_of e.what) runs) es fs

pub given_push : (es : List Entry) (e : Entry) → given (es ++ e ∷ []) ≡ after_giving (giving_of e.what) (given es)
given_push es e = after_push [] es (e ∷ [])

-- spare room gives nothing
pub giving_roomless : (w : What) → giving_of (roomless w) ≡ giving_of w
giving_roomless (Begin spans) = refl
giving_roomless w = refl
