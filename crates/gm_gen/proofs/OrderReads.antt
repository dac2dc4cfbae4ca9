-- What a generated line asks for, as a script's grammar reads it.
use Rattle.std.proofs.Common.{◌≡◌, ℕ, zero, suc, ◌+◌, ◌*◌, ◌%◌, ◌^◌, ◌<◌, ◌≤◌, List, [], ◌∷◌, ◌++◌, length, Bool, true, false, not, ◌&&◌, leb, ltb, eqb, cond, codes, refl, sym, ap, subst, ◌∙◌, arith, Result, Ok, Err, Option, Some, None}
use Rattle.std.proofs.Common.{replicate}
use Rattle.std.specs.Fmt.{decimal}
use Rattle.std.proofs.lemmas.Bool.Decides.{nat_tests}
use Rattle.std.proofs.lemmas.List.{length-append}
use Rattle.gm_base.specs.declared.calls.Ioctl.{Ioctl}
use Rattle.gm_base.specs.declared.calls.Ioctl.TheVariants as ioctl
use Rattle.gm_base.specs.declared.values.Kind.{Kind}
use Rattle.gm_base.specs.declared.values.Kind.TheVariants.{Private, Shared}
use Rattle.gm_base.specs.declared.values.Op.{Op}
use Rattle.gm_base.specs.declared.values.Op.TheVariants as op
use Rattle.gm_base.specs.declared.values.Setup.{Setup}
use Rattle.gm_script.specs.Actors.{named_of}
use Rattle.gm_script.specs.Forms.{access_form, call_name_of, form_of, kind_of}
use Rattle.gm_script.specs.Grammar.{Draft, has_actor, has_room, is_aligned, later_line, after_order, ordered}
use Rattle.gm_script.specs.Lines.{is_skipped}
use Rattle.gm_script.specs.Numbers.{digits_of, number_of, small_number_of, below_of}
use Rattle.gm_script.specs.Orders.{attrs_of, order_of, populate_of, punch_of}
use Rattle.gm_script.specs.Split.{begins_with}
use Rattle.gm_script.specs.declared.actors.Named.{Named}
use Rattle.gm_script.specs.declared.actors.Named.TheVariants.{Vcpu as NamedVcpu, Caller as NamedCaller}
use Rattle.gm_script.specs.declared.error.Cause.{Cause}
use Rattle.gm_script.specs.declared.orders.Order.{Order}
use Rattle.gm_script.specs.declared.orders.Order.TheVariants as order
use Rattle.gm_gen.specs.Lines.{kind_text}

-- the machine of each generated script
abbrev pub SETUP : Setup
SETUP = record { frames = 4096; user = 8192; vcpus = 4; callers = 2; huge = true }

-- a script so far, with so many commands and turns
pub record Holds (d : Draft) (c t : ℕ) : Type 0 where
  pub setup : d.setup ≡ SETUP
  pub commands : d.commands ≡ c
  pub turns : length d.turns ≡ t

-- by cases on a number
pub two : (P : ℕ → Type 0) → P 0 → P 1 → (n : ℕ) → n < 2 → P n
two P a b zero h = a
two P a b (suc zero) h = b
two P a b (suc (suc n)) h = absurd (omega arith)

pub four : (P : ℕ → Type 0) → P 0 → P 1 → P 2 → P 3 → (n : ℕ) → n < 4 → P n
four P a b c d zero h = a
four P a b c d (suc zero) h = b
four P a b c d (suc (suc zero)) h = c
four P a b c d (suc (suc (suc zero))) h = d
four P a b c d (suc (suc (suc (suc n)))) h = absurd (omega arith)

-- the words of lines: the name of a vCPU or a caller in one digit, and words of numbers

abbrev pub vcpu_word : ℕ → List ℕ
vcpu_word v = 118 ∷ (48 + v) ∷ []

abbrev pub caller_word : ℕ → List ℕ
caller_word c = 99 ∷ (48 + c) ∷ []

pub reads_read : (d : Draft) (kind : Kind) (g : List ℕ) (gpa : ℕ) → number_of g ≡ Some gpa → (v : ℕ) → v < 4 → later_line d (vcpu_word v ∷ codes "read" ∷ kind_text kind ∷ g ∷ []) ≡ ordered d (order.Touch v kind gpa op.Read)
unfolding later_line form_of ordered named_of has_actor begins_with is_aligned digits_of has_room access_form after_order kind_of order_of call_name_of attrs_of punch_of populate_of
reads_read d Private g gpa e = four (λ n. later_line d (vcpu_word n ∷ codes "read" ∷ kind_text Private ∷ g ∷ []) ≡ ordered d (order.Touch n Private gpa op.Read)) (rw e refl) (rw e refl) (rw e refl) (rw e refl)
reads_read d Shared g gpa e = four (λ n. later_line d (vcpu_word n ∷ codes "read" ∷ kind_text Shared ∷ g ∷ []) ≡ ordered d (order.Touch n Shared gpa op.Read)) (rw e refl) (rw e refl) (rw e refl) (rw e refl)

pub reads_write : (d : Draft) (kind : Kind) (g z : List ℕ) (gpa value : ℕ) → number_of g ≡ Some gpa → number_of z ≡ Some value → (v : ℕ) → v < 4 → later_line d (vcpu_word v ∷ codes "write" ∷ kind_text kind ∷ g ∷ z ∷ []) ≡ ordered d (order.Touch v kind gpa (op.Write value))
unfolding later_line form_of ordered named_of has_actor begins_with is_aligned digits_of has_room access_form after_order kind_of order_of call_name_of attrs_of punch_of populate_of
reads_write d Private g z gpa value e f = four (λ n. later_line d (vcpu_word n ∷ codes "write" ∷ kind_text Private ∷ g ∷ z ∷ []) ≡ ordered d (order.Touch n Private gpa (op.Write value))) (rw (e, f) refl) (rw (e, f) refl) (rw (e, f) refl) (rw (e, f) refl)
reads_write d Shared g z gpa value e f = four (λ n. later_line d (vcpu_word n ∷ codes "write" ∷ kind_text Shared ∷ g ∷ z ∷ []) ≡ ordered d (order.Touch n Shared gpa (op.Write value))) (rw (e, f) refl) (rw (e, f) refl) (rw (e, f) refl) (rw (e, f) refl)

pub reads_attrs : (d : Draft) (p q r s : List ℕ) (address size attributes flags : ℕ) → number_of p ≡ Some address → number_of q ≡ Some size → number_of r ≡ Some attributes → number_of s ≡ Some flags → (c : ℕ) → c < 2 → later_line d (caller_word c ∷ codes "attrs" ∷ p ∷ q ∷ r ∷ s ∷ []) ≡ ordered d (order.Call c (ioctl.Attrs address size attributes flags))
unfolding later_line form_of ordered named_of has_actor begins_with is_aligned digits_of has_room access_form after_order kind_of order_of call_name_of attrs_of punch_of populate_of
reads_attrs d p q r s address size attributes flags e f g h = two (λ n. later_line d (caller_word n ∷ codes "attrs" ∷ p ∷ q ∷ r ∷ s ∷ []) ≡ ordered d (order.Call n (ioctl.Attrs address size attributes flags))) (rw (e, f, g, h) refl) (rw (e, f, g, h) refl)

pub reads_punch : (d : Draft) (p q r : List ℕ) (file offset size : ℕ) → small_number_of p ≡ Some file → number_of q ≡ Some offset → number_of r ≡ Some size → (c : ℕ) → c < 2 → later_line d (caller_word c ∷ codes "punch" ∷ p ∷ q ∷ r ∷ []) ≡ ordered d (order.Call c (ioctl.Punch file offset size))
unfolding later_line form_of ordered named_of has_actor begins_with is_aligned digits_of has_room access_form after_order kind_of order_of call_name_of attrs_of punch_of populate_of
reads_punch d p q r file offset size e f g = two (λ n. later_line d (caller_word n ∷ codes "punch" ∷ p ∷ q ∷ r ∷ []) ≡ ordered d (order.Call n (ioctl.Punch file offset size))) (rw (e, f, g) refl) (rw (e, f, g) refl)

pub reads_populate : (d : Draft) (p q r : List ℕ) (gpa pages user : ℕ) → number_of p ≡ Some gpa → number_of q ≡ Some pages → number_of r ≡ Some user → (c : ℕ) → c < 2 → later_line d (caller_word c ∷ codes "populate" ∷ p ∷ q ∷ r ∷ []) ≡ ordered d (order.Call c (ioctl.Populate gpa pages user))
unfolding later_line form_of ordered named_of has_actor begins_with is_aligned digits_of has_room access_form after_order kind_of order_of call_name_of attrs_of punch_of populate_of
reads_populate d p q r gpa pages user e f g = two (λ n. later_line d (caller_word n ∷ codes "populate" ∷ p ∷ q ∷ r ∷ []) ≡ ordered d (order.Call n (ioctl.Populate gpa pages user))) (rw (e, f, g) refl) (rw (e, f, g) refl)

pub reads_turn : (d : Draft) (v : ℕ) → v < 4 → later_line d (codes "turn" ∷ vcpu_word v ∷ []) ≡ ordered d (order.Turns (NamedVcpu v) 1)
unfolding later_line form_of ordered named_of has_actor begins_with is_aligned digits_of has_room access_form after_order kind_of order_of call_name_of attrs_of punch_of populate_of
reads_turn d = four (λ n. later_line d (codes "turn" ∷ vcpu_word n ∷ []) ≡ ordered d (order.Turns (NamedVcpu n) 1)) refl refl refl refl

pub reads_caller_turn : (d : Draft) (c : ℕ) → c < 2 → later_line d (codes "turn" ∷ caller_word c ∷ []) ≡ ordered d (order.Turns (NamedCaller c) 1)
unfolding later_line form_of ordered named_of has_actor begins_with is_aligned digits_of has_room access_form after_order kind_of order_of call_name_of attrs_of punch_of populate_of
reads_caller_turn d = two (λ n. later_line d (codes "turn" ∷ caller_word n ∷ []) ≡ ordered d (order.Turns (NamedCaller n) 1)) refl refl

pub reads_kick : (d : Draft) (v : ℕ) → v < 4 → later_line d (codes "kick" ∷ vcpu_word v ∷ []) ≡ ordered d (order.Kick v)
unfolding later_line form_of ordered named_of has_actor begins_with is_aligned digits_of has_room access_form after_order kind_of order_of call_name_of attrs_of punch_of populate_of
reads_kick d = four (λ n. later_line d (codes "kick" ∷ vcpu_word n ∷ []) ≡ ordered d (order.Kick n)) refl refl refl refl

pub small_reads : (w : List ℕ) (n : ℕ) → number_of w ≡ Some n → n < 2 ^ 32 → small_number_of w ≡ Some n
small_reads w n e h = rw e (choose (ltb n 4294967296) (Some n) None (grind (arith, nat_tests)))
  where
    choose : (b : Bool) (x y : Option ℕ) → b ≡ true → cond b x y ≡ x
    choose true x y f = refl
    choose false x y f = absurd cc

-- what an order that may be makes of a script
pub ordered_is : (d : Draft) (o : Order) → has_actor d.setup o ≡ true → is_aligned o ≡ true → has_room d o ≡ true → ordered d o ≡ Ok (after_order d o)
unfolding ordered
ordered_is d o e f g = rw (e, f, g) refl

both : (a b : Bool) → a ≡ true → b ≡ true → (a && b) ≡ true
both true true e f = refl
both true false e f = absurd cc
both false b e f = absurd cc

within : (a b : ℕ) → a ≤ b → leb a b ≡ true
within a b h = grind (arith, nat_tests)

below : (a b : ℕ) → a < b → ltb a b ≡ true
below a b h = grind (arith, nat_tests)

whole : (n : ℕ) → n ≡ 0 → eqb n 0 ≡ true
whole n e = rw e refl

pub touch_room : (d : Draft) (c t v gpa : ℕ) (kind : Kind) (what : Op) → Holds d c t → c < 65536 → t ≤ 262144 → has_room d (order.Touch v kind gpa what) ≡ true
unfolding has_room
touch_room d c t v gpa kind what h lt le = both (leb (d.commands + 1) 65536) (leb (length d.turns + 0) 262144) (within (d.commands + 1) 65536 (omega (arith, h.commands))) (within (length d.turns + 0) 262144 (omega (arith, h.turns)))

pub call_room : (d : Draft) (c t caller : ℕ) (call : Ioctl) → Holds d c t → c < 65536 → t ≤ 262144 → has_room d (order.Call caller call) ≡ true
unfolding has_room
call_room d c t caller call h lt le = both (leb (d.commands + 1) 65536) (leb (length d.turns + 0) 262144) (within (d.commands + 1) 65536 (omega (arith, h.commands))) (within (length d.turns + 0) 262144 (omega (arith, h.turns)))

pub turn_room : (d : Draft) (c t : ℕ) (actor : Named) → Holds d c t → c ≤ 65536 → t < 262144 → has_room d (order.Turns actor 1) ≡ true
unfolding has_room
turn_room d c t actor h le lt = both (leb (d.commands + 0) 65536) (leb (length d.turns + 1) 262144) (within (d.commands + 0) 65536 (omega (arith, h.commands))) (within (length d.turns + 1) 262144 (omega (arith, h.turns)))

pub kick_room : (d : Draft) (c t v : ℕ) → Holds d c t → c ≤ 65536 → t < 262144 → has_room d (order.Kick v) ≡ true
unfolding has_room
kick_room d c t v h le lt = both (leb (d.commands + 0) 65536) (leb (length d.turns + 1) 262144) (within (d.commands + 0) 65536 (omega (arith, h.commands))) (within (length d.turns + 1) 262144 (omega (arith, h.turns)))

pub touch_actor : (d : Draft) (c t v gpa : ℕ) (kind : Kind) (what : Op) → Holds d c t → v < 4 → has_actor d.setup (order.Touch v kind gpa what) ≡ true
unfolding has_actor
touch_actor d c t v gpa kind what h lt = rw h.setup (below v 4 lt)

pub call_actor : (d : Draft) (c t caller : ℕ) (call : Ioctl) → Holds d c t → caller < 2 → has_actor d.setup (order.Call caller call) ≡ true
unfolding has_actor
call_actor d c t caller call h lt = rw h.setup (below caller 2 lt)

pub vcpu_actor : (d : Draft) (c t v : ℕ) → Holds d c t → v < 4 → has_actor d.setup (order.Turns (NamedVcpu v) 1) ≡ true
unfolding has_actor
vcpu_actor d c t v h lt = rw h.setup (below v 4 lt)

pub caller_actor : (d : Draft) (c t n : ℕ) → Holds d c t → n < 2 → has_actor d.setup (order.Turns (NamedCaller n) 1) ≡ true
unfolding has_actor
caller_actor d c t n h lt = rw h.setup (below n 2 lt)

pub kick_actor : (d : Draft) (c t v : ℕ) → Holds d c t → v < 4 → has_actor d.setup (order.Kick v) ≡ true
unfolding has_actor
kick_actor d c t v h lt = rw h.setup (below v 4 lt)

pub touch_aligned : (v gpa : ℕ) (kind : Kind) (what : Op) → gpa % 8 ≡ 0 → is_aligned (order.Touch v kind gpa what) ≡ true
unfolding is_aligned
touch_aligned v gpa kind what e = whole (gpa % 8) e

pub others_aligned : (d : Draft) (caller v : ℕ) (call : Ioctl) (actor : Named) → (is_aligned (order.Call caller call) ≡ true) × (is_aligned (order.Turns actor 1) ≡ true) × (is_aligned (order.Kick v) ≡ true)
unfolding is_aligned
others_aligned d caller v call actor = (refl, refl, refl)

-- what a line adds to the counts

one_longer : {A : Type 0} (xs : List A) (x : A) → length (xs ++ x ∷ []) ≡ length xs + 1
one_longer xs x = length-append xs (x ∷ [])

pub touch_holds : (d : Draft) (c t v gpa : ℕ) (kind : Kind) (what : Op) → Holds d c t → Holds (after_order d (order.Touch v kind gpa what)) (c + 1) t
unfolding after_order
touch_holds d c t v gpa kind what h = record { setup = h.setup; commands = ap (λ (n : ℕ). n + 1) h.commands; turns = h.turns }

pub call_holds : (d : Draft) (c t caller : ℕ) (call : Ioctl) → Holds d c t → Holds (after_order d (order.Call caller call)) (c + 1) t
unfolding after_order
call_holds d c t caller call h = record { setup = h.setup; commands = ap (λ (n : ℕ). n + 1) h.commands; turns = h.turns }

pub turn_holds : (d : Draft) (c t : ℕ) (actor : Named) → Holds d c t → Holds (after_order d (order.Turns actor 1)) c (t + 1)
unfolding after_order
turn_holds d c t actor h = record { setup = h.setup; commands = h.commands; turns = one_longer d.turns _ ∙ ap (λ (n : ℕ). n + 1) h.turns }

pub kick_holds : (d : Draft) (c t v : ℕ) → Holds d c t → Holds (after_order d (order.Kick v)) c (t + 1)
unfolding after_order
kick_holds d c t v h = record { setup = h.setup; commands = h.commands; turns = one_longer d.turns _ ∙ ap (λ (n : ℕ). n + 1) h.turns }
