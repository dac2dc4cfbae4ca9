-- A line keeps what is known of a script.
use Rattle.std.proofs.Common.{◌≡◌, ℕ, ◌+◌, ◌*◌, ◌<◌, ◌≤◌, List, [], ◌∷◌, length, Bool, true, false, if◌then◌else◌, codes, not, ◌&&◌, ltb, leb, Some, None, Option, Ok, Err, Result, refl, ap, subst, arith, replicate, length-append, length-set}
use Rattle.std.specs.List.{All}
use Rattle.std.proofs.lemmas.List.{length-replicate}
use Rattle.std.proofs.lemmas.List.Elements.{All-nil, All-cons, All-append, All-replicate}
use Rattle.std.proofs.lemmas.Bool.Decides.{nat_tests}
use Rattle.gm_base.specs.Scripts.{IsOf, IsTurnOf}
use Rattle.gm_base.specs.declared.calls.Ioctl.{Ioctl}
use Rattle.gm_base.specs.declared.values.Setup.{Setup}
use Rattle.gm_base.specs.declared.values.Kind.{Kind}
use Rattle.gm_base.specs.declared.values.Op.{Op}
use Rattle.gm_base.specs.declared.script.Command.TheVariants as command
use Rattle.gm_base.specs.declared.script.Turn.{Turn}
use Rattle.gm_base.specs.declared.script.Turn.TheVariants as turn
use Rattle.gm_base.specs.declared.numbers.TheConstants.{MOST_COMMANDS, MOST_TURNS}
use Rattle.gm_script.specs.declared.actors.Named.{Named}
use Rattle.gm_script.specs.declared.actors.Named.TheVariants.{Vcpu as NamedVcpu, Caller as NamedCaller}
use Rattle.gm_script.specs.declared.orders.Order.{Order}
use Rattle.gm_script.specs.declared.orders.Order.TheVariants.{Touch, Call, Turns, Kick, Round}
use Rattle.gm_script.specs.Actors.{is_known, actor_of}
use Rattle.gm_script.specs.Rounds.{rounds_of}
use Rattle.gm_script.specs.Schedules.{IsCall, IsTouch, IsWithin}
use Rattle.gm_script.specs.Grammar.{Draft, empty_draft, has_actor, is_aligned, has_room, aim_of, with_turns, after_order, ordered, numbered, formed, later_line, going, after_line}
use Rattle.gm_script.specs.Lines.{Line, words_of, word_at, is_skipped, has_bad_byte}
use Rattle.gm_script.specs.Split.{same_bytes}
use Rattle.gm_script.specs.Forms.{form_of}
use Rattle.gm_script.specs.Orders.{order_of}
use Rattle.gm_script.specs.declared.forms.Form.{Form}
use Rattle.gm_script.specs.declared.error.Cause.{Cause}
use Rattle.gm_script.specs.declared.error.Cause.TheVariants.{Bytes, Cut, Machine, Actor, Align, Limit}
use Rattle.gm_script.specs.Drafts.{IsScriptDraft}
use Rattle.gm_script.proofs.Puts.{each_put, each_pushed, count_put, no_list, no_command}
use Rattle.gm_script.proofs.Turns.{count_rounds, rounds_known}

-- at the `machine` line

pub even_empty : (s : Setup) → IsWithin s → IsScriptDraft (empty_draft s)
even_empty s w = record {
  even = record {
    setup = w;
    vcpus = length-replicate s.vcpus [];
    callers = length-replicate s.callers [];
    touches = λ v k. rw (no_list s.vcpus v) tt;
    calls = λ c k. rw (no_list s.callers c) tt;
    turns = All-nil (IsTurnOf s);
    commands = omega (arith, no_command s.vcpus, no_command s.callers);
    turn_count = omega arith;
  };
  counted = omega (arith, no_command s.vcpus, no_command s.callers);
}

-- an access

both_true : (a b : Bool) → (a && b) ≡ true → (a ≡ true) × (b ≡ true)
both_true true b h = (refl, h)
both_true false b h = absurd cc

is_below : (a b : ℕ) → ltb a b ≡ true → a < b
is_below a b h = grind (arith, nat_tests)

is_at_most : (a b : ℕ) → leb a b ≡ true → a ≤ b
is_at_most a b h = grind (arith, nat_tests)

even_access : (d : Draft) (v : ℕ) (kind : Kind) (gpa : ℕ) (op : Op) → IsScriptDraft d → v < d.setup.vcpus → d.commands + 1 ≤ MOST_COMMANDS → IsScriptDraft (after_order d (Touch v kind gpa op))
unfolding after_order
even_access d v kind gpa op h a r =
    let n : v < length d.vcpus = omega (arith, h.even.vcpus) in
    let count = count_put d.vcpus v (command.Touch (aim_of kind gpa op)) n in
    record {
      even = record {
        setup = h.even.setup;
        vcpus = simp length-set h.even.vcpus;
        callers = h.even.callers;
        touches = each_put IsTouch d.vcpus v _ h.even.touches (each_pushed IsTouch _ _ (h.even.touches v) tt);
        calls = h.even.calls;
        turns = h.even.turns;
        commands = omega (arith, count, h.counted);
        turn_count = h.even.turn_count;
      };
      counted = omega (arith, count, h.counted);
    }

-- a call

even_call : (d : Draft) (c : ℕ) (call : Ioctl) → IsScriptDraft d → c < d.setup.callers → d.commands + 1 ≤ MOST_COMMANDS → IsScriptDraft (after_order d (Call c call))
unfolding after_order
even_call d c call h a r =
    let n : c < length d.callers = omega (arith, h.even.callers) in
    let count = count_put d.callers c (command.Call call) n in
    record {
      even = record {
        setup = h.even.setup;
        vcpus = h.even.vcpus;
        callers = simp length-set h.even.callers;
        touches = h.even.touches;
        calls = each_put IsCall d.callers c _ h.even.calls (each_pushed IsCall _ _ (h.even.calls c) tt);
        turns = h.even.turns;
        commands = omega (arith, count, h.counted);
        turn_count = h.even.turn_count;
      };
      counted = omega (arith, count, h.counted);
    }

-- turns

even_turns : (d : Draft) (turns : List Turn) → IsScriptDraft d → All (IsTurnOf d.setup) turns → length d.turns + length turns ≤ MOST_TURNS → IsScriptDraft (with_turns d turns)
even_turns d turns h known room = record {
  even = record {
    setup = h.even.setup;
    vcpus = h.even.vcpus;
    callers = h.even.callers;
    touches = h.even.touches;
    calls = h.even.calls;
    turns = All-append (IsTurnOf d.setup) d.turns turns h.even.turns known;
    commands = h.even.commands;
    turn_count = simp length-append room;
  };
  counted = h.counted;
}

known_actor : (s : Setup) (a : Named) → is_known s a ≡ true → IsOf s (actor_of a)
known_actor s (NamedVcpu v) h = is_below v s.vcpus h
known_actor s (NamedCaller c) h = is_below c s.callers h

-- each order

pub even_order : (d : Draft) (o : Order) → IsScriptDraft d → has_actor d.setup o ≡ true → has_room d o ≡ true → IsScriptDraft (after_order d o)
unfolding has_actor has_room aim_of after_order
even_order d (Touch v kind gpa op) h a r =
    let room = both_true (leb (d.commands + 1) MOST_COMMANDS) (leb (length d.turns + 0) MOST_TURNS) r in
    even_access d v kind gpa op h (is_below v d.setup.vcpus a) (is_at_most (d.commands + 1) MOST_COMMANDS room.0)
even_order d (Call c call) h a r =
    let room = both_true (leb (d.commands + 1) MOST_COMMANDS) (leb (length d.turns + 0) MOST_TURNS) r in
    even_call d c call h (is_below c d.setup.callers a) (is_at_most (d.commands + 1) MOST_COMMANDS room.0)
even_order d (Turns actor count) h a r =
    let room = both_true (leb (d.commands + 0) MOST_COMMANDS) (leb (length d.turns + count) MOST_TURNS) r in
    let next : Turn = turn.Next (actor_of actor) in
    even_turns d (replicate count next) h (All-replicate (IsTurnOf d.setup) count next (known_actor d.setup actor a)) (simp length-replicate (is_at_most (length d.turns + count) MOST_TURNS room.1))
even_order d (Kick v) h a r =
    let room = both_true (leb (d.commands + 0) MOST_COMMANDS) (leb (length d.turns + 1) MOST_TURNS) r in
    even_turns d (turn.Kick v ∷ []) h (All-cons (IsTurnOf d.setup) (turn.Kick v) [] (is_below v d.setup.vcpus a) (All-nil (IsTurnOf d.setup))) (is_at_most (length d.turns + 1) MOST_TURNS room.1)
even_order d (Round count) h a r =
    let room = both_true (leb (d.commands + 0) MOST_COMMANDS) (leb (length d.turns + count * (2 * d.setup.vcpus + d.setup.callers)) MOST_TURNS) r in
    even_turns d (rounds_of d.setup count) h (rounds_known d.setup count) (rw (count_rounds d.setup count) (is_at_most (length d.turns + count * (2 * d.setup.vcpus + d.setup.callers)) MOST_TURNS room.1))

-- each line

chain : (a b c : Bool) (x y : Draft) → (if not a then Err Actor else if not b then Err Align else if not c then Err Limit else Ok x) ≡ Ok y → (a ≡ true) × (c ≡ true) × (x ≡ y)
chain false b c x y h = absurd cc
chain true false c x y h = absurd cc
chain true true false x y h = absurd cc
chain true true true x y h = (refl, refl, cc)

even_ordered : (d : Draft) (o : Order) (y : Draft) → IsScriptDraft d → ordered d o ≡ Ok y → IsScriptDraft y
unfolding ordered
even_ordered d o y h e =
    let tests = chain (has_actor d.setup o) (is_aligned o) (has_room d o) (after_order d o) y e in
    subst (λ (x : Draft). IsScriptDraft x) tests.2 (even_order d o h tests.0 tests.1)

even_numbered : (d : Draft) (o : Option Order) (y : Draft) → IsScriptDraft d → numbered d o ≡ Ok y → IsScriptDraft y
even_numbered d None y h e = absurd cc
even_numbered d (Some o) y h e = even_ordered d o y h e

even_formed : (d : Draft) (words : List (List ℕ)) (form : Option Form) (y : Draft) → IsScriptDraft d → formed d words form ≡ Ok y → IsScriptDraft y
even_formed d words None y h e = absurd cc
even_formed d words (Some form) y h e = even_numbered d (order_of form words) y h e

else_ok : (b : Bool) (cause : Cause) {A : Type 0} (r : Result A Cause) (y : A) → (if b then Err cause else r) ≡ Ok y → r ≡ Ok y
else_ok true cause r y h = absurd cc
else_ok false cause r y h = h

even_later : (d : Draft) (words : List (List ℕ)) (y : Draft) → IsScriptDraft d → later_line d words ≡ Ok y → IsScriptDraft y
unfolding later_line
even_later d words y h e = even_formed d words (form_of words) y h (else_ok (same_bytes (word_at words 0) (codes "machine")) Machine (formed d words (form_of words)) y e)

gone_on : (r : Result Draft Cause) (y : Draft) → going r ≡ Ok (Some y) → r ≡ Ok y
gone_on (Err cause) y h = absurd cc
gone_on (Ok x) y h = let same : x ≡ y = cc in ap (λ (z : Draft). Ok z) same

even_unless : (skips : Bool) (d : Draft) (words : List (List ℕ)) (y : Draft) → IsScriptDraft d → (if skips then Ok (Some d) else going (later_line d words)) ≡ Ok (Some y) → IsScriptDraft y
even_unless true d words y h e = let same : d ≡ y = cc in subst (λ (x : Draft). IsScriptDraft x) same h
even_unless false d words y h e = even_later d words y h (gone_on (later_line d words) y e)

pub even_line : (d : Draft) (line : Line) (y : Draft) → IsScriptDraft d → after_line (Some d) line ≡ Ok (Some y) → IsScriptDraft y
unfolding after_line
even_line d line y h e =
    let whole = else_ok (has_bad_byte line.bytes) Bytes _ (Some y) e in
    let ended = else_ok (not line.is_ended) Cut _ (Some y) whole in
    even_unless (is_skipped (words_of line.bytes)) d (words_of line.bytes) y h ended
