-- The locks of a call by the files that it names.
use Rattle.std.proofs.Common.{◌≡◌, ℕ, ◌&&◌, ◌||◌, List, Bool, true, false, Option, Some, None, refl, sym, ◌∙◌, ap, cond, eqb, eqb-true}
use Rattle.gm_base.specs.declared.calls.Ioctl.{Ioctl}
use Rattle.gm_base.specs.declared.calls.Ioctl.TheVariants.{Create, Region2, Attrs, Punch, Allocate, Close, Populate, Poke, Peek}
use Rattle.gm_flat.specs.Calls.{page_of, wants_file}
use Rattle.gm_flat.specs.FlatState.{Flat, in_use}
use Rattle.gm_flat.specs.Locks.{Lock, SlotsLock, FileLock, takes, takes_file, takes_slots}
use Rattle.gm_flat.specs.RightLook.{file_of}
use Rattle.gm_flat.specs.Slots.{is_file, slot_by_id, slot_over}
use Rattle.gm_flat.specs.declared.views.SlotView.{SlotView}
use Rattle.gm_calls.specs.LockSets.{first_file, has_lock, second_file}
use Rattle.gm_calls.specs.declared.lock_set.LockSet.{LockSet}

or_false : (b : Bool) → (b || false) ≡ b
or_false true = refl
or_false false = refl

and_false : (b : Bool) → (b && false) ≡ false
and_false true = refl
and_false false = refl

and_true : (b : Bool) → (b && true) ≡ b
and_true true = refl
and_true false = refl

both : (a b u t : Bool) → (a || b) ≡ t → ((a && u) || (b && u)) ≡ (t && u)
both true b true t h = h ∙ sym (and_true t)
both true b false t h = and_false b ∙ sym (and_false t)
both false b u t h = ap (λ (z : Bool). z && u) h

wanted : (w : Bool) (fd file : ℕ) → is_file (cond w (Some fd) None) file ≡ (w && eqb fd file)
wanted true fd file = refl
wanted false fd file = refl

-- the files that a call names are those of its file locks, before it is asked whether they are in use
named : (ioctl : Ioctl) (f : Flat) (file : ℕ) → (is_file (first_file ioctl f.slots) file || is_file (second_file ioctl f.slots) file) ≡ takes_file file ioctl f
named (Create size flags) f file = refl
named (Region2 r) f file = ap (λ (b : Bool). b || is_file (file_of (slot_by_id f.slots r.slot)) file) (wanted (wants_file r) r.fd file)
named (Attrs address size attributes flags) f file = refl
named (Punch fd offset length) f file = or_false (eqb fd file)
named (Allocate fd offset length) f file = or_false (eqb fd file)
named (Close fd) f file = or_false (eqb fd file)
named (Populate gpa pages user) f file = or_false (is_file (file_of (slot_over f.slots (page_of gpa))) file)
named (Poke address value) f file = refl
named (Peek address) f file = refl

-- the set of the two named files, as far as they are in use, has the locks of the call
pub sets : (f : Flat) (ioctl : Ioctl) (slots : List SlotView) (set : LockSet) (first second : Option ℕ) → slots ≡ f.slots → set.slots ≡ takes_slots ioctl → first ≡ first_file ioctl slots → second ≡ second_file ioctl slots → ((file : ℕ) → is_file set.first file ≡ (is_file first file && in_use file f.files)) → ((file : ℕ) → is_file set.second file ≡ (is_file second file && in_use file f.files)) → (lock : Lock) → has_lock lock set ≡ takes lock ioctl f
sets f ioctl slots set first second same s e g one two SlotsLock = s
sets f ioctl slots set first second same s e g one two (FileLock file) =
    ap (λ (b : Bool). b || is_file set.second file) (one file)
    ∙ ap (λ (b : Bool). (is_file first file && in_use file f.files) || b) (two file)
    ∙ ap (λ (o : Option ℕ). (is_file o file && in_use file f.files) || (is_file second file && in_use file f.files)) e
    ∙ ap (λ (o : Option ℕ). (is_file (first_file ioctl slots) file && in_use file f.files) || (is_file o file && in_use file f.files)) g
    ∙ ap (λ (ss : List SlotView). (is_file (first_file ioctl ss) file && in_use file f.files) || (is_file (second_file ioctl ss) file && in_use file f.files)) same
    ∙ both (is_file (first_file ioctl f.slots) file) (is_file (second_file ioctl f.slots) file) (in_use file f.files) (takes_file file ioctl f) (named ioctl f file)

-- a file in use keeps its lock, and another one has none
pub is_used : (fd file : ℕ) (u : ℕ → Bool) → u fd ≡ true → eqb fd file ≡ (eqb fd file && u file)
is_used fd file u e = by_test (eqb fd file) refl
  where
    by_test : (b : Bool) → eqb fd file ≡ b → b ≡ (b && u file)
    by_test false h = refl
    by_test true h = sym e ∙ ap u (eqb-true fd file h)

pub not_used : (fd file : ℕ) (u : ℕ → Bool) → u fd ≡ false → false ≡ (eqb fd file && u file)
not_used fd file u e = by_test (eqb fd file) refl
  where
    by_test : (b : Bool) → eqb fd file ≡ b → false ≡ (b && u file)
    by_test false h = refl
    by_test true h = sym e ∙ ap u (eqb-true fd file h)
