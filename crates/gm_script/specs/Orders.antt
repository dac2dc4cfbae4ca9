-- What a line of a form asks for, by its numbers. A line with a number that isn't one has the cause `number`; so has one
-- whose SLOT, FLAGS of a region or FD is 2^32 or more.
use Rattle.std.specs.Prelude.{ℕ, List, Some, None}
use Rattle.std.specs.declared.option.Option.{Option}
use Rattle.gm_base.specs.declared.calls.Ioctl.{Ioctl}
use Rattle.gm_base.specs.declared.calls.Ioctl.TheVariants.{Create, Region2, Attrs, Punch, Allocate, Close, Populate, Poke, Peek}
use Rattle.gm_base.specs.declared.values.Op.TheVariants as op
use Rattle.gm_script.specs.declared.forms.CallName.{CallName}
use Rattle.gm_script.specs.declared.forms.CallName.TheVariants as call
use Rattle.gm_script.specs.declared.forms.Form.{Form}
use Rattle.gm_script.specs.declared.forms.Form.TheVariants as form
use Rattle.gm_script.specs.declared.orders.Order.{Order}
use Rattle.gm_script.specs.declared.orders.Order.TheVariants.{Touch, Call, Turns, Kick, Round}
use Rattle.gm_script.specs.Lines.{word_at}
use Rattle.gm_script.specs.Numbers.{number_of, small_number_of}

-- none where there is no number
abbrev pub with_number : {A : Type 0} → Option ℕ → (ℕ → Option A) → Option A
with_number None f = None
with_number (Some n) f = f n

-- SIZE FLAGS
unfoldable pub create_of : List (List ℕ) → Option Ioctl
create_of words =
    with_number (number_of (word_at words 2)) (λ size. with_number (number_of (word_at words 3)) (λ flags. Some (Create size flags)))

-- SLOT FLAGS GPA SIZE USER FD OFFSET
unfoldable pub region_of : List (List ℕ) → Option Ioctl
region_of words =
    with_number (small_number_of (word_at words 2)) (λ slot. with_number (small_number_of (word_at words 3)) (λ flags. with_number (number_of (word_at words 4)) (λ gpa. with_number (number_of (word_at words 5)) (λ size. with_number (number_of (word_at words 6)) (λ user. with_number (small_number_of (word_at words 7)) (λ fd. with_number (number_of (word_at words 8)) (λ offset.
    Some (Region2 (record { slot = slot; flags = flags; gpa = gpa; size = size; user = user; fd = fd; offset = offset })))))))))

-- ADDRESS SIZE ATTRIBUTES FLAGS
unfoldable pub attrs_of : List (List ℕ) → Option Ioctl
attrs_of words =
    with_number (number_of (word_at words 2)) (λ address. with_number (number_of (word_at words 3)) (λ size. with_number (number_of (word_at words 4)) (λ attributes. with_number (number_of (word_at words 5)) (λ flags.
    Some (Attrs address size attributes flags)))))

-- FD OFFSET LENGTH
unfoldable pub punch_of : List (List ℕ) → Option Ioctl
punch_of words =
    with_number (small_number_of (word_at words 2)) (λ fd. with_number (number_of (word_at words 3)) (λ offset. with_number (number_of (word_at words 4)) (λ length. Some (Punch fd offset length))))

-- FD OFFSET LENGTH
unfoldable pub allocate_of : List (List ℕ) → Option Ioctl
allocate_of words =
    with_number (small_number_of (word_at words 2)) (λ fd. with_number (number_of (word_at words 3)) (λ offset. with_number (number_of (word_at words 4)) (λ length. Some (Allocate fd offset length))))

-- FD
unfoldable pub close_of : List (List ℕ) → Option Ioctl
close_of words = with_number (small_number_of (word_at words 2)) (λ fd. Some (Close fd))

-- GPA PAGES USER
unfoldable pub populate_of : List (List ℕ) → Option Ioctl
populate_of words =
    with_number (number_of (word_at words 2)) (λ gpa. with_number (number_of (word_at words 3)) (λ pages. with_number (number_of (word_at words 4)) (λ user. Some (Populate gpa pages user))))

-- ADDRESS VALUE
unfoldable pub poke_of : List (List ℕ) → Option Ioctl
poke_of words =
    with_number (number_of (word_at words 2)) (λ address. with_number (number_of (word_at words 3)) (λ value. Some (Poke address value)))

-- ADDRESS
unfoldable pub peek_of : List (List ℕ) → Option Ioctl
peek_of words = with_number (number_of (word_at words 2)) (λ address. Some (Peek address))

-- the call with its arguments
abbrev pub call_of : CallName → List (List ℕ) → Option Ioctl
call_of call.Create words = create_of words
call_of call.Region words = region_of words
call_of call.Attrs words = attrs_of words
call_of call.Punch words = punch_of words
call_of call.Allocate words = allocate_of words
call_of call.Close words = close_of words
call_of call.Populate words = populate_of words
call_of call.Poke words = poke_of words
call_of call.Peek words = peek_of words

abbrev pub call_order : ℕ → Option Ioctl → Option Order
call_order caller None = None
call_order caller (Some ioctl) = Some (Call caller ioctl)

-- what a line of the form asks for
unfoldable pub order_of : Form → List (List ℕ) → Option Order
order_of (form.Read vcpu kind) words = with_number (number_of (word_at words 3)) (λ gpa. Some (Touch vcpu kind gpa op.Read))
order_of (form.Write vcpu kind) words =
    with_number (number_of (word_at words 3)) (λ gpa. with_number (number_of (word_at words 4)) (λ value. Some (Touch vcpu kind gpa (op.Write value))))
order_of (form.Call caller name) words = call_order caller (call_of name words)
order_of (form.Turn actor) words = Some (Turns actor 1)
order_of (form.Turns actor) words = with_number (number_of (word_at words 2)) (λ count. Some (Turns actor count))
order_of (form.Kick vcpu) words = Some (Kick vcpu)
order_of form.Round words = with_number (number_of (word_at words 1)) (λ count. Some (Round count))
