-- What a run that brings a history up comes to.
use Rattle.std.proofs.Common.{◌≡◌, ◌<◌, ◌≤◌, inl, IfSome, List, None, Option, Some, ap, arith, length, ltb, refl, true, false, Bool, ℕ, ◌∙◌}
use Rattle.std.proofs.lemmas.Bool.Decides.{nat_tests}
use Rattle.std.specs.Prelude.{codes}
use Rattle.gm_history.specs.Refusals.{IsRefused}
use Rattle.gm_history.specs.TextForm.{IsBadLine, IsBroughtUp, IsForm, IsFormOne}
use Rattle.gm_history.specs.declared.limits.TheConstants.{MOST_HISTORY_BYTES}
use Rattle.gm_history.specs.declared.version.Version.TheVariants.{One}
use Rattle.gmemrun.proofs.Exactly.{HasText, some_line}
use Rattle.gmemrun.specs.Coming.{PutAll}
use Rattle.gmemrun.specs.Migrating.{MigrateDue, MigrateEndsAs, MigrateEndsBy}
use Rattle.gmemrun.specs.Refusal.{bad_history_text}
use Rattle.gmemrun.specs.declared.status.Status.{Status}
use Rattle.gmemrun.specs.declared.status.Status.TheVariants.{Ok, BadHistory}

pub migrate_text : HasText MigrateDue BadHistory
migrate_text bytes text due = some_line due.line (codes "history") text due.is_text

-- bytes have one bad line
one_bad : (Form : List ℕ → Type 0) (bytes : List ℕ) (l m : ℕ) → IsBadLine Form bytes l → IsBadLine Form bytes m → l ≡ m
one_bad Form bytes l m p q = by (ltb l m) (ltb m l) refl refl
  where
    by : (t u : Bool) → ltb l m ≡ t → ltb m l ≡ u → l ≡ m
    by true u e f = absurd (p.bad (q.least l (grind (arith, nat_tests))))
    by false true e f = absurd (q.bad (p.least m (grind (arith, nat_tests))))
    by false false e f = grind (arith, nat_tests)

pub one_bad_line : (bytes : List ℕ) (line : ℕ) → IsRefused One bytes line → (other : List ℕ) → MigrateDue bytes BadHistory other → other ≡ bad_history_text line
one_bad_line bytes line r other due = due.is_text ∙ ap bad_history_text (one_bad (IsForm One) bytes due.line line due.refused.1 r.1)

-- no line is due where the bytes are of form 1
pub is_form : (bytes text : List ℕ) → IsBroughtUp bytes text → IsFormOne bytes
is_form bytes text up = (up.history, up.tells)

pub not_due : (P : Type 0) (bytes text : List ℕ) (old new : Option (List ℕ)) → IsBroughtUp bytes text → IfSome new (λ _. PutAll MigrateDue bytes BadHistory old new → P)
not_due P bytes text old None up = tt
not_due P bytes text old (Some y) up = λ r. absurd (r.due.refused.0 (is_form bytes text up))

-- how it ends
above : (n limit : ℕ) → n ≤ limit → limit < n → ⊥
above n limit h k = omega arith

pub by_history : (bytes : List ℕ) (status : Status) → length bytes ≤ MOST_HISTORY_BYTES → MigrateEndsAs bytes status → MigrateEndsBy bytes status
by_history bytes status le h = record { within = λ _. h; beyond = λ gt. absurd (above (length bytes) MOST_HISTORY_BYTES le gt) }

pub came_up : (bytes text : List ℕ) → IsBroughtUp bytes text → MigrateEndsAs bytes Ok
came_up bytes text up = record { form = λ f. inl refl; none = λ n. absurd (n (is_form bytes text up)) }

pub was_bad : (bytes : List ℕ) (line : ℕ) → IsRefused One bytes line → MigrateEndsAs bytes BadHistory
was_bad bytes line r = record { form = λ f. absurd (r.0 f); none = λ n. inl refl }
