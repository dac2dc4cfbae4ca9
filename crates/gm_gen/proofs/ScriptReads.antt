-- A generated text is a script.
use Rattle.std.proofs.Common.{◌≡◌, ℕ, zero, suc, ◌+◌, ◌-◌, ◌*◌, ◌/◌, ◌%◌, ◌^◌, ◌<◌, ◌≤◌, List, [], ◌∷◌, ◌++◌, length, Bool, true, false, leb, ltb, eqb, cond, codes, refl, sym, ap, subst, ◌∙◌, append_assoc, append-nil, arith, None, Some, Ok}
use Rattle.std.proofs.Common.{replicate}
use Rattle.std.specs.Fmt.{decimal}
use Rattle.std.proofs.lemmas.Bool.{and_parts}
use Rattle.std.proofs.lemmas.Bool.Decides.{nat_tests}
use Rattle.std.proofs.lemmas.Fmt.{decimal_digit}
use Rattle.gm_base.specs.Scripts.{Schedule}
use Rattle.gm_base.specs.declared.calls.Ioctl.{Ioctl}
use Rattle.gm_base.specs.declared.calls.Ioctl.TheVariants as ioctl
use Rattle.gm_base.specs.declared.script.Command.TheVariants as command
use Rattle.gm_base.specs.declared.script.Turn.TheVariants as turn
use Rattle.gm_base.specs.declared.values.Actor.TheVariants.{Caller}
use Rattle.gm_base.specs.declared.values.Kind.{Kind}
use Rattle.gm_base.specs.declared.values.Kind.TheVariants.{Private, Shared}
use Rattle.gm_base.specs.declared.values.Op.TheVariants as op
use Rattle.gm_script.specs.Actors.{named_of}
use Rattle.gm_script.specs.Forms.{access_form, call_name_of, form_of}
use Rattle.gm_script.specs.Grammar.{Draft, Good, Verdict, after_line, after_order, finished_draft, has_actor, has_room, is_aligned, judged, later_line, ordered, script_of}
use Rattle.gm_script.specs.Lines.{is_skipped, lines_of, words_of}
use Rattle.gm_script.specs.Numbers.{digits_of, number_of}
use Rattle.gm_script.specs.Orders.{create_of, order_of, region_of}
use Rattle.gm_script.specs.Setups.{counts_of, huge_of, is_machine, is_within, setup_of}
use Rattle.gm_script.specs.Split.{begins_with}
use Rattle.gm_script.specs.declared.actors.Named.TheVariants.{Vcpu as NamedVcpu, Caller as NamedCaller}
use Rattle.gm_script.specs.declared.orders.Order.{Order}
use Rattle.gm_script.specs.declared.orders.Order.TheVariants as order
use Rattle.gm_gen.specs.Draws.{after, drawn, next, picked}
use Rattle.gm_gen.specs.Lines.{caller_text, kind_text, line_of, line_text, vcpu_text}
use Rattle.gm_gen.specs.Workload.{Step, access_drawn, address_of, command_by, command_drawn, command_lines, conversion_drawn, drawn_out, head_text, hole_drawn, kind_drawn, lines_drawn, population_drawn, turn_by, turn_drawn, turn_lines, workload_text}
use Rattle.gm_gen.specs.declared.line.Line.{Line}
use Rattle.gm_gen.specs.declared.line.Line.TheVariants as line
use Rattle.gm_gen.specs.declared.line.Call.TheVariants as call
use Rattle.gm_gen.proofs.LineReads.{AreWords, IsWord, all_word, is_word_byte, line_read}
use Rattle.gm_gen.proofs.NumberReads.{all_digits, decimal_read, is_digit, number_reads}
use Rattle.gm_gen.proofs.OrderReads.{Holds, SETUP, caller_word, call_actor, call_holds, call_room, caller_actor, four, kick_actor, kick_holds, kick_room, ordered_is, others_aligned, reads_attrs, reads_caller_turn, reads_kick, reads_populate, reads_punch, reads_read, reads_turn, reads_write, small_reads, touch_actor, touch_aligned, touch_holds, touch_room, turn_holds, turn_room, two, vcpu_actor, vcpu_word}

-- words

digit_word : (b : ℕ) → is_digit b ≡ true → is_word_byte b ≡ true
digit_word b h = grind (arith, nat_tests)

digits_word : (ds : List ℕ) → all_digits ds ≡ true → all_word ds ≡ true
digits_word [] h = refl
digits_word (d ∷ ds) h =
    let q = and_parts (is_digit d) (all_digits ds) h in
    rw (digit_word d q.0, digits_word ds q.1) refl

number_word : (n : ℕ) → n < 2 ^ 64 → IsWord (decimal n)
number_word n h = let r = decimal_read n h in record { bytes = digits_word (decimal n) r.digits; some = r.some }

kind_word : (kind : Kind) → IsWord (kind_text kind)
kind_word Private = record { bytes = refl; some = omega arith }
kind_word Shared = record { bytes = refl; some = omega arith }

vcpu_is : (v : ℕ) → v < 4 → vcpu_text v ≡ vcpu_word v
vcpu_is v h = ap (λ (ds : List ℕ). 118 ∷ ds) (decimal_digit v (omega arith))

caller_is : (c : ℕ) → c < 2 → caller_text c ≡ caller_word c
caller_is c h = ap (λ (ds : List ℕ). 99 ∷ ds) (decimal_digit c (omega arith))

name_byte : (n : ℕ) → n < 4 → is_word_byte (48 + n) ≡ true
name_byte n h = grind (arith, nat_tests)

vcpu_is_word : (v : ℕ) → v < 4 → IsWord (vcpu_word v)
vcpu_is_word v h = record { bytes = rw (name_byte v h) refl; some = omega arith }

caller_is_word : (c : ℕ) → c < 2 → IsWord (caller_word c)
caller_is_word c h = record { bytes = rw (name_byte c (omega arith)) refl; some = omega arith }

some_more : (n : ℕ) → eqb (suc n) 0 ≡ false
some_more n = grind (arith, nat_tests)

not_skipped : (b : ℕ) (bs : List ℕ) (rest : List (List ℕ)) → eqb 35 b ≡ false → is_skipped ((b ∷ bs) ∷ rest) ≡ false
unfolding is_skipped begins_with
not_skipped b bs rest h = rw (h, some_more (length rest)) refl

-- lines

-- a line goes on with a script of so many commands and turns
pub record GoesOn (d : Draft) (text : List ℕ) (c t : ℕ) : Type 0 where
  pub next : Draft
  pub holds : Holds next c t
  pub reads : (number : ℕ) (x : List ℕ) → judged (lines_of (text ++ x)) number (Some d) ≡ judged (lines_of x) (number + 1) (Some next)

access_line : (d : Draft) (c t v gpa : ℕ) (kind : Kind) → Holds d c t → c < 65536 → t ≤ 262144 → v < 4 → gpa < 2 ^ 64 → gpa % 8 ≡ 0 → GoesOn d (line_text (line.Read v kind gpa)) (c + 1) t
access_line d c t v gpa kind h lt le b g m =
    let o : Order = order.Touch v kind gpa op.Read in
    record {
      next = after_order d o;
      holds = touch_holds d c t v gpa kind op.Read h;
      reads = λ number x. subst (λ (w : List ℕ). judged (lines_of (line_of w (codes "read" ∷ kind_text kind ∷ decimal gpa ∷ []) ++ x)) number (Some d) ≡ judged (lines_of x) (number + 1) (Some (after_order d o))) (sym (vcpu_is v b))
          (line_read d (after_order d o) (vcpu_word v) (codes "read" ∷ kind_text kind ∷ decimal gpa ∷ []) (vcpu_is_word v b) (record { bytes = refl; some = omega arith }, (kind_word kind, (number_word gpa g, tt))) (not_skipped 118 _ _ refl)
          (reads_read d kind (decimal gpa) gpa (number_reads gpa g) v b ∙ ordered_is d o (touch_actor d c t v gpa kind op.Read h b) (touch_aligned v gpa kind op.Read m) (touch_room d c t v gpa kind op.Read h lt le)) number x);
    }

write_line : (d : Draft) (c t v gpa value : ℕ) (kind : Kind) → Holds d c t → c < 65536 → t ≤ 262144 → v < 4 → gpa < 2 ^ 64 → gpa % 8 ≡ 0 → value < 2 ^ 64 → GoesOn d (line_text (line.Write v kind gpa value)) (c + 1) t
write_line d c t v gpa value kind h lt le b g m z =
    let o : Order = order.Touch v kind gpa (op.Write value) in
    record {
      next = after_order d o;
      holds = touch_holds d c t v gpa kind (op.Write value) h;
      reads = λ number x. subst (λ (w : List ℕ). judged (lines_of (line_of w (codes "write" ∷ kind_text kind ∷ decimal gpa ∷ decimal value ∷ []) ++ x)) number (Some d) ≡ judged (lines_of x) (number + 1) (Some (after_order d o))) (sym (vcpu_is v b))
          (line_read d (after_order d o) (vcpu_word v) (codes "write" ∷ kind_text kind ∷ decimal gpa ∷ decimal value ∷ []) (vcpu_is_word v b) (record { bytes = refl; some = omega arith }, (kind_word kind, (number_word gpa g, (number_word value z, tt)))) (not_skipped 118 _ _ refl)
          (reads_write d kind (decimal gpa) (decimal value) gpa value (number_reads gpa g) (number_reads value z) v b ∙ ordered_is d o (touch_actor d c t v gpa kind (op.Write value) h b) (touch_aligned v gpa kind (op.Write value) m) (touch_room d c t v gpa kind (op.Write value) h lt le)) number x);
    }

-- a line of a call, whatever its words are
call_line : (d : Draft) (c t caller : ℕ) (what : Ioctl) (rest : List (List ℕ)) → Holds d c t → c < 65536 → t ≤ 262144 → caller < 2 → AreWords rest
    → later_line d (caller_word caller ∷ rest) ≡ ordered d (order.Call caller what)
    → GoesOn d (line_of (caller_text caller) rest) (c + 1) t
call_line d c t caller what rest h lt le b k e =
    let o : Order = order.Call caller what in
    record {
      next = after_order d o;
      holds = call_holds d c t caller what h;
      reads = λ number x. subst (λ (w : List ℕ). judged (lines_of (line_of w rest ++ x)) number (Some d) ≡ judged (lines_of x) (number + 1) (Some (after_order d o))) (sym (caller_is caller b))
          (line_read d (after_order d o) (caller_word caller) rest (caller_is_word caller b) k (not_skipped 99 _ _ refl)
          (e ∙ ordered_is d o (call_actor d c t caller what h b) (others_aligned d caller 0 what (NamedVcpu 0)).0 (call_room d c t caller what h lt le)) number x);
    }

word : (w : List ℕ) → all_word w ≡ true → 0 < length w → IsWord w
word w e h = record { bytes = e; some = h }

attrs_line : (d : Draft) (c t caller address size attributes : ℕ) → Holds d c t → c < 65536 → t ≤ 262144 → caller < 2 → address < 2 ^ 64 → size < 2 ^ 64 → attributes < 2 ^ 64
    → GoesOn d (line_text (line.Call caller (call.Attrs address size attributes))) (c + 1) t
attrs_line d c t caller address size attributes h lt le b p q r =
    call_line d c t caller (ioctl.Attrs address size attributes 0) (codes "attrs" ∷ decimal address ∷ decimal size ∷ decimal attributes ∷ decimal 0 ∷ []) h lt le b
    (word (codes "attrs") refl (omega arith), (number_word address p, (number_word size q, (number_word attributes r, (number_word 0 (omega arith), tt)))))
    (reads_attrs d (decimal address) (decimal size) (decimal attributes) (decimal 0) address size attributes 0 (number_reads address p) (number_reads size q) (number_reads attributes r) (number_reads 0 (omega arith)) caller b)

punch_line : (d : Draft) (c t caller file offset size : ℕ) → Holds d c t → c < 65536 → t ≤ 262144 → caller < 2 → file < 2 ^ 32 → offset < 2 ^ 64 → size < 2 ^ 64
    → GoesOn d (line_text (line.Call caller (call.Punch file offset size))) (c + 1) t
punch_line d c t caller file offset size h lt le b p q r =
    call_line d c t caller (ioctl.Punch file offset size) (codes "punch" ∷ decimal file ∷ decimal offset ∷ decimal size ∷ []) h lt le b
    (word (codes "punch") refl (omega arith), (number_word file (omega (arith, p)), (number_word offset q, (number_word size r, tt))))
    (reads_punch d (decimal file) (decimal offset) (decimal size) file offset size (small_reads (decimal file) file (number_reads file (omega (arith, p))) p) (number_reads offset q) (number_reads size r) caller b)

populate_line : (d : Draft) (c t caller gpa pages : ℕ) → Holds d c t → c < 65536 → t ≤ 262144 → caller < 2 → gpa < 2 ^ 64 → pages < 2 ^ 64
    → GoesOn d (line_text (line.Call caller (call.Populate gpa pages))) (c + 1) t
populate_line d c t caller gpa pages h lt le b p q =
    call_line d c t caller (ioctl.Populate gpa pages 0) (codes "populate" ∷ decimal gpa ∷ decimal pages ∷ decimal 0 ∷ []) h lt le b
    (word (codes "populate") refl (omega arith), (number_word gpa p, (number_word pages q, (number_word 0 (omega arith), tt))))
    (reads_populate d (decimal gpa) (decimal pages) (decimal 0) gpa pages 0 (number_reads gpa p) (number_reads pages q) (number_reads 0 (omega arith)) caller b)

turn_line : (d : Draft) (c t v : ℕ) → Holds d c t → c ≤ 65536 → t < 262144 → v < 4 → GoesOn d (line_text (line.Turn v)) c (t + 1)
turn_line d c t v h le lt b =
    let o : Order = order.Turns (NamedVcpu v) 1 in
    record {
      next = after_order d o;
      holds = turn_holds d c t (NamedVcpu v) h;
      reads = λ number x. subst (λ (w : List ℕ). judged (lines_of (line_of (codes "turn") (w ∷ []) ++ x)) number (Some d) ≡ judged (lines_of x) (number + 1) (Some (after_order d o))) (sym (vcpu_is v b))
          (line_read d (after_order d o) (codes "turn") (vcpu_word v ∷ []) (word (codes "turn") refl (omega arith)) (vcpu_is_word v b, tt) (not_skipped 116 _ _ refl)
          (reads_turn d v b ∙ ordered_is d o (vcpu_actor d c t v h b) (others_aligned d 0 0 (ioctl.Peek 0) (NamedVcpu v)).1 (turn_room d c t (NamedVcpu v) h le lt)) number x);
    }

caller_turn_line : (d : Draft) (c t n : ℕ) → Holds d c t → c ≤ 65536 → t < 262144 → n < 2 → GoesOn d (line_text (line.CallerTurn n)) c (t + 1)
caller_turn_line d c t n h le lt b =
    let o : Order = order.Turns (NamedCaller n) 1 in
    record {
      next = after_order d o;
      holds = turn_holds d c t (NamedCaller n) h;
      reads = λ number x. subst (λ (w : List ℕ). judged (lines_of (line_of (codes "turn") (w ∷ []) ++ x)) number (Some d) ≡ judged (lines_of x) (number + 1) (Some (after_order d o))) (sym (caller_is n b))
          (line_read d (after_order d o) (codes "turn") (caller_word n ∷ []) (word (codes "turn") refl (omega arith)) (caller_is_word n b, tt) (not_skipped 116 _ _ refl)
          (reads_caller_turn d n b ∙ ordered_is d o (caller_actor d c t n h b) (others_aligned d 0 0 (ioctl.Peek 0) (NamedCaller n)).1 (turn_room d c t (NamedCaller n) h le lt)) number x);
    }

kick_line : (d : Draft) (c t v : ℕ) → Holds d c t → c ≤ 65536 → t < 262144 → v < 4 → GoesOn d (line_text (line.Kick v)) c (t + 1)
kick_line d c t v h le lt b =
    let o : Order = order.Kick v in
    record {
      next = after_order d o;
      holds = kick_holds d c t v h;
      reads = λ number x. subst (λ (w : List ℕ). judged (lines_of (line_of (codes "kick") (w ∷ []) ++ x)) number (Some d) ≡ judged (lines_of x) (number + 1) (Some (after_order d o))) (sym (vcpu_is v b))
          (line_read d (after_order d o) (codes "kick") (vcpu_word v ∷ []) (word (codes "kick") refl (omega arith)) (vcpu_is_word v b, tt) (not_skipped 107 _ _ refl)
          (reads_kick d v b ∙ ordered_is d o (kick_actor d c t v h b) (others_aligned d 0 v (ioctl.Peek 0) (NamedVcpu v)).2 (kick_room d c t v h le lt)) number x);
    }

-- what is drawn is within its bounds

below_2 : (a : ℕ) → a % 2 < 2
below_2 a = omega arith

below_4 : (a : ℕ) → a % 4 < 4
below_4 a = omega arith

below_16 : (a : ℕ) → a % 16 < 16
below_16 a = omega arith

below_64 : (a : ℕ) → a % 64 < 64
below_64 a = omega arith

below_512 : (a : ℕ) → a % 512 < 512
below_512 a = omega arith

below_2000 : (a : ℕ) → a % 2000 < 2000
below_2000 a = omega arith

below_6000 : (a : ℕ) → a % 6000 < 6000
below_6000 a = omega arith

below_6144 : (a : ℕ) → a % 6144 < 6144
below_6144 a = omega arith

below_1000000 : (a : ℕ) → a % 1000000 < 1000000
below_1000000 a = omega arith

address_small : (p o : ℕ) → p < 6144 → o < 512 → 4096 * p + 8 * o < 2 ^ 64
address_small p o h k = omega arith

address_whole : (p o : ℕ) → (4096 * p + 8 * o) % 8 ≡ 0
address_whole p o = omega arith

pages_small : (p : ℕ) → p < 6000 → 4096 * p < 2 ^ 64
pages_small p h = omega arith

some_small : (p : ℕ) → p < 64 → 4096 * (1 + p) < 2 ^ 64
some_small p h = omega arith

-- a command and a turn

either : (P : Step → Type 0) (b : Bool) (p q : Step) → P p → P q → P (cond b p q)
either P true p q h k = h
either P false p q h k = k

abbrev OneMore : Draft → ℕ → ℕ → Step → Type 0
OneMore d c t s = GoesOn d (line_text s.line) c t

command_line : (d : Draft) (c t x : ℕ) → Holds d c t → c < 65536 → t ≤ 262144 → OneMore d (c + 1) t (command_drawn x)
command_line d c t x h lt le =
    let y : ℕ = next x in
    let read : OneMore d (c + 1) t (access_drawn y) = either (OneMore d (c + 1) t) (eqb (drawn 2 2 y) 0) _ _
    (access_line d c t (drawn 1 4 y) (address_of (drawn 4 6144 y) (drawn 5 512 y)) (kind_drawn (drawn 3 2 y)) h lt le (below_4 _) (address_small _ _ (below_6144 _) (below_512 _)) (address_whole (drawn 4 6144 y) (drawn 5 512 y)))
    (write_line d c t (drawn 1 4 y) (address_of (drawn 4 6144 y) (drawn 5 512 y)) (drawn 6 1000000 y) (kind_drawn (drawn 3 2 y)) h lt le (below_4 _) (address_small _ _ (below_6144 _) (below_512 _)) (address_whole (drawn 4 6144 y) (drawn 5 512 y)) (million _ (below_1000000 _))) in
    let convert : OneMore d (c + 1) t (conversion_drawn y) =
    attrs_line d c t (drawn 1 2 y) (4096 * drawn 2 6000 y) (4096 * (1 + drawn 3 64 y)) (8 * drawn 4 2 y) h lt le (below_2 _) (pages_small _ (below_6000 _)) (some_small _ (below_64 _)) (eights _ (below_2 _)) in
    let punch : OneMore d (c + 1) t (hole_drawn y) =
    punch_line d c t (drawn 1 2 y) (drawn 2 2 y) (4096 * drawn 3 2000 y) (4096 * (1 + drawn 4 16 y)) h lt le (below_2 _) (file_small _ (below_2 _)) (pages_small _ (less _ (below_2000 _))) (some_small _ (fewer _ (below_16 _))) in
    let populate : OneMore d (c + 1) t (population_drawn y) =
    populate_line d c t (drawn 1 2 y) (4096 * drawn 2 6000 y) (1 + drawn 3 4 y) h lt le (below_2 _) (pages_small _ (below_6000 _)) (count_small _ (below_4 _)) in
    either (OneMore d (c + 1) t) (ltb (drawn 1 8 x) 5) _ _ read (either (OneMore d (c + 1) t) (eqb (drawn 1 8 x) 5) _ _ convert (either (OneMore d (c + 1) t) (eqb (drawn 1 8 x) 6) _ _ punch populate))
  where
    million : (n : ℕ) → n < 1000000 → n < 2 ^ 64
    million n k = omega arith

    eights : (n : ℕ) → n < 2 → 8 * n < 2 ^ 64
    eights n k = omega arith

    file_small : (n : ℕ) → n < 2 → n < 2 ^ 32
    file_small n k = omega arith

    less : (n : ℕ) → n < 2000 → n < 6000
    less n k = omega arith

    fewer : (n : ℕ) → n < 16 → n < 64
    fewer n k = omega arith

    count_small : (n : ℕ) → n < 4 → 1 + n < 2 ^ 64
    count_small n k = omega arith

tested : (P : Step → Type 0) (b : Bool) (p q : Step) → (b ≡ true → P p) → P q → P (cond b p q)
tested P true p q h k = h refl
tested P false p q h k = k

one_turn : (d : Draft) (c t x : ℕ) → Holds d c t → c ≤ 65536 → t < 262144 → OneMore d c (t + 1) (turn_drawn x)
one_turn d c t x h le lt =
    tested (OneMore d c (t + 1)) (ltb (drawn 1 8 x) 4) _ _ (λ e. turn_line d c t (drawn 1 8 x) h le lt (is_below _ e))
    (either (OneMore d c (t + 1)) (eqb (drawn 1 8 x) 4) _ _ (caller_turn_line d c t 0 h le lt (omega arith))
    (either (OneMore d c (t + 1)) (eqb (drawn 1 8 x) 5) _ _ (caller_turn_line d c t 1 h le lt (omega arith))
    (either (OneMore d c (t + 1)) (eqb (drawn 1 8 x) 6) _ _ (kick_line d c t (drawn 1 4 (next x)) h le lt (below_4 _)) (turn_line d c t (drawn 1 4 (next x)) h le lt (below_4 _)))))
  where
    is_below : (n : ℕ) → ltb n 4 ≡ true → n < 4
    is_below n e = grind (arith, nat_tests)

-- all lines

pub record Reaches (d : Draft) (text : List ℕ) (n c t : ℕ) : Type 0 where
  pub next : Draft
  pub holds : Holds next c t
  pub reads : (number : ℕ) (x : List ℕ) → judged (lines_of (text ++ x)) number (Some d) ≡ judged (lines_of x) (number + n) (Some next)

none_more : (n : ℕ) → n ≡ n + 0
none_more n = omega arith

one_later : (n k : ℕ) → n + 1 + k ≡ n + suc k
one_later n k = omega arith

first_then : (d : Draft) (one more : List ℕ) (n c t c' t' : ℕ) (g : GoesOn d one c t) → Reaches g.next more n c' t' → Reaches d (one ++ more) (suc n) c' t'
first_then d one more n c t c' t' g r = record {
  next = r.next;
  holds = r.holds;
  reads = λ number x.
      ap (λ (l : List ℕ). judged (lines_of l) number (Some d)) (append_assoc one more x)
      ∙ g.reads number (more ++ x)
      ∙ r.reads (number + 1) x
      ∙ ap (λ (k : ℕ). judged (lines_of x) k (Some r.next)) (one_later number n);
}

nothing_more : (d : Draft) (c t : ℕ) → Holds d c t → Reaches d [] 0 c t
nothing_more d c t h = record { next = d; holds = h; reads = λ number x. ap (λ (k : ℕ). judged (lines_of x) k (Some d)) (none_more number) }

commands_read : (n : ℕ) (d : Draft) (c t x : ℕ) → Holds d c t → c + n ≤ 65536 → t ≤ 262144 → Reaches d (lines_drawn command_drawn n x) n (c + n) t
commands_read zero d c t x h le k = subst (λ (m : ℕ). Reaches d [] 0 m t) (none_more c) (nothing_more d c t h)
commands_read (suc n) d c t x h le k =
    let g = command_line d c t x h (fits c n le) k in
    first_then d (line_text (command_drawn x).line) (lines_drawn command_drawn n (command_drawn x).x) n (c + 1) t (c + suc n) t g
    (subst (λ (m : ℕ). Reaches g.next (lines_drawn command_drawn n (command_drawn x).x) n m t) (one_later c n) (commands_read n g.next (c + 1) t (command_drawn x).x g.holds (fits_on c n le) k))
  where
    fits : (c n : ℕ) → c + suc n ≤ 65536 → c < 65536
    fits c n le = omega arith

    fits_on : (c n : ℕ) → c + suc n ≤ 65536 → c + 1 + n ≤ 65536
    fits_on c n le = omega arith

turns_read : (n : ℕ) (d : Draft) (c t x : ℕ) → Holds d c t → c ≤ 65536 → t + n ≤ 262144 → Reaches d (lines_drawn turn_drawn n x) n c (t + n)
turns_read zero d c t x h k le = subst (λ (m : ℕ). Reaches d [] 0 c m) (none_more t) (nothing_more d c t h)
turns_read (suc n) d c t x h k le =
    let g = one_turn d c t x h k (fits t n le) in
    first_then d (line_text (turn_drawn x).line) (lines_drawn turn_drawn n (turn_drawn x).x) n c (t + 1) c (t + suc n) g
    (subst (λ (m : ℕ). Reaches g.next (lines_drawn turn_drawn n (turn_drawn x).x) n c m) (one_later t n) (turns_read n g.next c (t + 1) (turn_drawn x).x g.holds k (fits_on t n le)))
  where
    fits : (t n : ℕ) → t + suc n ≤ 262144 → t < 262144
    fits t n le = omega arith

    fits_on : (t n : ℕ) → t + suc n ≤ 262144 → t + 1 + n ≤ 262144
    fits_on t n le = omega arith

-- the script after the head
HEAD_DRAFT : Draft
HEAD_DRAFT = record {
  setup = SETUP;
  vcpus = [] ∷ [] ∷ [] ∷ [] ∷ [];
  callers = (command.Call (ioctl.Create 16777216 1) ∷ command.Call (ioctl.Create 8388608 0) ∷ command.Call (ioctl.Region2 (record { slot = 0; flags = 4; gpa = 0; size = 16777216; user = 0; fd = 0; offset = 0 })) ∷ command.Call (ioctl.Region2 (record { slot = 1; flags = 4; gpa = 16777216; size = 8388608; user = 16777216; fd = 1; offset = 0 })) ∷ []) ∷ [] ∷ [];
  turns = turn.Next (Caller 0) ∷ turn.Next (Caller 0) ∷ turn.Next (Caller 0) ∷ turn.Next (Caller 0) ∷ [];
  commands = 4;
}

head_holds : Holds HEAD_DRAFT 4 4
unfolding HEAD_DRAFT
head_holds = record { setup = refl; commands = refl; turns = refl }

head_reads : (x : List ℕ) → judged (lines_of (head_text ++ x)) 1 None ≡ judged (lines_of x) 7 (Some HEAD_DRAFT)
unfolding HEAD_DRAFT head_text after_line is_skipped words_of setup_of later_line begins_with is_machine huge_of counts_of number_of digits_of is_within form_of access_form call_name_of order_of create_of region_of named_of ordered has_actor is_aligned has_room after_order
head_reads x = refl

abbrev IsScript : List ℕ → Type 0
IsScript text = (script : Schedule) × (script_of text ≡ Good script)

commands_fit : (turns : ℕ) → turns ≤ 262144 → 4 + turns / 16 ≤ 65536
commands_fit turns h = omega arith

turns_fit : (turns : ℕ) → turns ≤ 262144 → 4 + (turns - 4) ≤ 262144
turns_fit turns h = omega arith

pub is_script : (number turns : ℕ) → turns ≤ 262144 → IsScript (workload_text number turns)
unfolding workload_text script_of
is_script number turns h =
    let first = commands_read (command_lines turns) HEAD_DRAFT 4 4 number head_holds (commands_fit turns h) (omega arith) in
    let last = turns_read (turn_lines turns) first.next (4 + command_lines turns) 4 (drawn_out command_drawn (command_lines turns) number) first.holds (commands_fit turns h) (turns_fit turns h) in
    let commands : List ℕ = lines_drawn command_drawn (command_lines turns) number in
    let rest : List ℕ = lines_drawn turn_drawn (turn_lines turns) (drawn_out command_drawn (command_lines turns) number) in (
      finished_draft last.next,
      head_reads (commands ++ rest)
          ∙ first.reads 7 rest
          ∙ ap (λ (l : List ℕ). judged (lines_of l) (7 + command_lines turns) (Some first.next)) (sym (append-nil rest))
          ∙ last.reads (7 + command_lines turns) [],
    )
