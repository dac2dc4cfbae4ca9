-- The rows on files.
use Rattle.std.proofs.Common.{◌≡◌, ℕ, ◌+◌, ◌*◌, ◌/◌, ◌%◌, ◌<◌, ◌≤◌, ◌++◌, ◌&&◌, List, [], ◌∷◌, Bool, true, false, not, Option, Some, None, arith, refl, ◌∙◌, ap, subst, cond, eqb, ltb, slice_index_or}
use Rattle.std.proofs.lemmas.Bool.Decides.{nat_tests}
use Rattle.gm_base.specs.Extent.{Extent}
use Rattle.gm_base.specs.declared.numbers.TheConstants.{PAGE_LIMIT}
use Rattle.gm_base.specs.declared.calls.Region.{Region}
use Rattle.gm_base.specs.declared.values.Errno.TheVariants.{BadF, Inval}
use Rattle.gm_file.specs.Views.{FileView}
use Rattle.gm_flat.specs.Calls.{Plan, Bracketed, Paged, Refused, Short, close_plan, file_pages, meets_bound, new_slot, page_of, part_spans, slots_of_file, wants_file, whole_spans}
use Rattle.gm_flat.specs.FlatState.{FileState, Flat, file_by_number, in_use}
use Rattle.gm_flat.specs.declared.effect.Effect.TheVariants.{Cut, Shut}
use Rattle.gm_flat.specs.declared.views.SlotView.{SlotView}
use Rattle.gm_ioctl.specs.Remaining.{add_range, cut_range}
use Rattle.gm_calls.proofs.Filling.{filled}
use Rattle.gm_calls.proofs.Meeting.{known_file, used, whole}
use Rattle.gm_calls.specs.Lent.{FileIs, FileStands, LentStand}
use Rattle.gm_calls.specs.Rows.{binding_rows}
use Rattle.gm_calls.specs.declared.parts.Parts.{Parts}

pub file_stands : (p : Parts) (f : Flat) (fd : ℕ) (x : FileView) → LentStand p f → slice_index_or p.files.now fd None ≡ Some x → FileStands x fd f
file_stands p f fd x st e = subst (λ (o : Option FileView). FileIs o fd f) e (st.files_are fd)

pub no_file : (p : Parts) (f : Flat) (fd : ℕ) → LentStand p f → slice_index_or p.files.now fd None ≡ None → in_use fd f.files ≡ false
no_file p f fd st e = subst (λ (o : Option FileView). FileIs o fd f) e (st.files_are fd)

pub in_use_here : (x : FileView) (fd : ℕ) (f : Flat) → FileStands x fd f → in_use fd f.files ≡ true
in_use_here x fd f h = used fd x.pages x.block f.files h.state_is

pages_listed : (fd pages : ℕ) (block : Bool) (fs : List FileState) → file_by_number fd fs ≡ Some (record { number = fd; pages = pages; block = block; used = true }) → file_pages fd fs ≡ pages
pages_listed fd pages block [] e = absurd (cc)
pages_listed fd pages block (f ∷ fs) e = step (eqb f.number fd) (pages_listed fd pages block fs) e
  where
    some_same : (x y : FileState) → Some x ≡ Some y → x ≡ y
    some_same x y e = cc

    step : (t : Bool) → (file_by_number fd fs ≡ Some (record { number = fd; pages = pages; block = block; used = true }) → file_pages fd fs ≡ pages) → cond t (Some f) (file_by_number fd fs) ≡ Some (record { number = fd; pages = pages; block = block; used = true }) → cond t f.pages (file_pages fd fs) ≡ pages
    step true ih e = ap (λ (x : FileState). x.pages) (some_same f _ e)
    step false ih e = ih e

pub pages_here : (x : FileView) (fd : ℕ) (f : Flat) → FileStands x fd f → file_pages fd f.files ≡ x.pages
pages_here x fd f h = pages_listed fd x.pages x.block f.files h.state_is

-- a punch and a close that go on
pub punched : (p : Parts) (f : Flat) (fd offset bytes : ℕ) (x : FileView) (old new : List Extent) → LentStand p f → slice_index_or p.files.now fd None ≡ Some x → old ≡ [] → new ≡ old ++ part_spans (page_of offset) (page_of (offset + bytes)) (slots_of_file fd p.slots.now.slots) → cut_range fd offset bytes f ≡ Bracketed (Cut fd (page_of offset) (page_of (offset + bytes))) new
punched p f fd offset bytes x old new st e empty is =
    let h = file_stands p f fd x st e in
    let u : in_use fd f.files ≡ true = in_use_here x fd f h in
    let n : new ≡ part_spans (page_of offset) (page_of (offset + bytes)) (slots_of_file fd f.slots) = filled old new _ empty is ∙ ap (λ (ss : List SlotView). part_spans (page_of offset) (page_of (offset + bytes)) (slots_of_file fd ss)) st.slots_are in
    rw (u, n) refl

pub closed : (p : Parts) (f : Flat) (fd : ℕ) (x : FileView) (old new : List Extent) → LentStand p f → slice_index_or p.files.now fd None ≡ Some x → old ≡ [] → new ≡ old ++ part_spans 0 PAGE_LIMIT (slots_of_file fd p.slots.now.slots) → close_plan fd f ≡ Bracketed (Shut fd) new
closed p f fd x old new st e empty is =
    let h = file_stands p f fd x st e in
    let u : in_use fd f.files ≡ true = in_use_here x fd f h in
    let n : new ≡ whole_spans (slots_of_file fd f.slots) = filled old new _ empty is ∙ ap (λ (ss : List SlotView). part_spans 0 PAGE_LIMIT (slots_of_file fd ss)) st.slots_are ∙ whole f.slots (slots_of_file fd f.slots) (known_file f.slots fd f.slots st.known) in
    rw (u, n) refl

-- whole pages past a file's size
pub too_long : (pages bytes : ℕ) → bytes % 4096 ≡ 0 → pages < bytes / 4096 → ltb (4096 * pages) bytes ≡ true
too_long pages bytes h k = grind (arith, nat_tests)

pub fits : (pages bytes : ℕ) → bytes % 4096 ≡ 0 → bytes / 4096 ≤ pages → ltb (4096 * pages) bytes ≡ false
fits pages bytes h k = grind (arith, nat_tests)

pub whole_sum : (a b : ℕ) → a % 4096 ≡ 0 → b % 4096 ≡ 0 → (a + b) % 4096 ≡ 0
whole_sum a b h k = omega arith

-- the rows of an allocation, by their tests
abbrev allocation_by : Bool → Bool → ℕ → ℕ → ℕ → Plan
allocation_by u l fd offset bytes = cond (not u) (Refused BadF) (cond l (Refused Inval) (Paged (record { file = fd; index = page_of offset; pages = page_of bytes; base = None; copy = None })))

pub past_the_file : (f : Flat) (fd offset bytes : ℕ) (x : FileView) → FileStands x fd f → offset % 4096 ≡ 0 → bytes % 4096 ≡ 0 → x.pages < (offset + bytes) / 4096 → add_range fd offset bytes f ≡ Refused Inval
past_the_file f fd offset bytes x h a b long =
    ap (λ (u : Bool). allocation_by u (ltb (4096 * file_pages fd f.files) (offset + bytes)) fd offset bytes) (in_use_here x fd f h)
    ∙ ap (λ (n : ℕ). allocation_by true (ltb (4096 * n) (offset + bytes)) fd offset bytes) (pages_here x fd f h)
    ∙ ap (λ (l : Bool). allocation_by true l fd offset bytes) (too_long x.pages (offset + bytes) (whole_sum offset bytes a b) long)

pub in_the_file : (f : Flat) (fd offset bytes : ℕ) (x : FileView) → FileStands x fd f → offset % 4096 ≡ 0 → bytes % 4096 ≡ 0 → (offset + bytes) / 4096 ≤ x.pages → add_range fd offset bytes f ≡ Paged (record { file = fd; index = page_of offset; pages = page_of bytes; base = None; copy = None })
in_the_file f fd offset bytes x h a b short =
    ap (λ (u : Bool). allocation_by u (ltb (4096 * file_pages fd f.files) (offset + bytes)) fd offset bytes) (in_use_here x fd f h)
    ∙ ap (λ (n : ℕ). allocation_by true (ltb (4096 * n) (offset + bytes)) fd offset bytes) (pages_here x fd f h)
    ∙ ap (λ (l : Bool). allocation_by true l fd offset bytes) (fits x.pages (offset + bytes) (whole_sum offset bytes a b) short)

-- the rows on the file of a new slot, by their tests
abbrev binding_by : Region → Bool → Bool → Bool → Bool → Plan
binding_by r w u l m = cond (w && not u) (Refused BadF) (cond (w && l) (Refused Inval) (cond (w && m) (Refused Inval) (Short (new_slot r w) 0)))

binding_is : (r : Region) (f : Flat) → binding_rows r f ≡ binding_by r (wants_file r) (in_use r.fd f.files) (ltb (4096 * file_pages r.fd f.files) (r.offset + r.size)) (meets_bound r.fd (page_of r.offset) (page_of r.size) f.slots)
binding_is r f = refl

by_unbacked : (r : Region) (w u l m : Bool) → w ≡ false → binding_by r w u l m ≡ Short (new_slot r false) 0
by_unbacked r true u l m e = absurd (cc)
by_unbacked r false u l m e = refl

by_no_file : (r : Region) (w u l m : Bool) → w ≡ true → u ≡ false → binding_by r w u l m ≡ Refused BadF
by_no_file r false u l m e h = absurd (cc)
by_no_file r true true l m e h = absurd (cc)
by_no_file r true false l m e h = refl

by_length : (r : Region) (w u l m : Bool) → w ≡ true → u ≡ true → l ≡ true → binding_by r w u l m ≡ Refused Inval
by_length r false u l m e h k = absurd (cc)
by_length r true false l m e h k = absurd (cc)
by_length r true true false m e h k = absurd (cc)
by_length r true true true m e h k = refl

by_bound : (r : Region) (w u l m : Bool) → w ≡ true → u ≡ true → l ≡ false → m ≡ true → binding_by r w u l m ≡ Refused Inval
by_bound r false u l m e h k i = absurd (cc)
by_bound r true false l m e h k i = absurd (cc)
by_bound r true true true m e h k i = absurd (cc)
by_bound r true true false false e h k i = absurd (cc)
by_bound r true true false true e h k i = refl

by_free : (r : Region) (w u l m : Bool) → w ≡ true → u ≡ true → l ≡ false → m ≡ false → binding_by r w u l m ≡ Short (new_slot r true) 0
by_free r false u l m e h k i = absurd (cc)
by_free r true false l m e h k i = absurd (cc)
by_free r true true true m e h k i = absurd (cc)
by_free r true true false true e h k i = absurd (cc)
by_free r true true false false e h k i = refl

pub unbacked : (r : Region) (f : Flat) → wants_file r ≡ false → binding_rows r f ≡ Short (new_slot r false) 0
unbacked r f w = by_unbacked r (wants_file r) (in_use r.fd f.files) (ltb (4096 * file_pages r.fd f.files) (r.offset + r.size)) (meets_bound r.fd (page_of r.offset) (page_of r.size) f.slots) w

pub unknown_file : (r : Region) (f : Flat) → wants_file r ≡ true → in_use r.fd f.files ≡ false → binding_rows r f ≡ Refused BadF
unknown_file r f w u = by_no_file r (wants_file r) (in_use r.fd f.files) (ltb (4096 * file_pages r.fd f.files) (r.offset + r.size)) (meets_bound r.fd (page_of r.offset) (page_of r.size) f.slots) w u

-- what is known of a region with a file in use
pub record IsBacked (r : Region) (x : FileView) (f : Flat) : Type 0 where
  pub wants : wants_file r ≡ true
  pub stands : FileStands x r.fd f
  pub offset : r.offset % 4096 ≡ 0
  pub size : r.size % 4096 ≡ 0

past_size : (r : Region) (x : FileView) (f : Flat) → IsBacked r x f → x.pages < (r.offset + r.size) / 4096 → ltb (4096 * file_pages r.fd f.files) (r.offset + r.size) ≡ true
past_size r x f b long = ap (λ (n : ℕ). ltb (4096 * n) (r.offset + r.size)) (pages_here x r.fd f b.stands) ∙ too_long x.pages (r.offset + r.size) (whole_sum r.offset r.size b.offset b.size) long

in_size : (r : Region) (x : FileView) (f : Flat) → IsBacked r x f → (r.offset + r.size) / 4096 ≤ x.pages → ltb (4096 * file_pages r.fd f.files) (r.offset + r.size) ≡ false
in_size r x f b short = ap (λ (n : ℕ). ltb (4096 * n) (r.offset + r.size)) (pages_here x r.fd f b.stands) ∙ fits x.pages (r.offset + r.size) (whole_sum r.offset r.size b.offset b.size) short

pub past_its_file : (r : Region) (x : FileView) (f : Flat) → IsBacked r x f → x.pages < (r.offset + r.size) / 4096 → binding_rows r f ≡ Refused Inval
past_its_file r x f b long = by_length r (wants_file r) (in_use r.fd f.files) (ltb (4096 * file_pages r.fd f.files) (r.offset + r.size)) (meets_bound r.fd (page_of r.offset) (page_of r.size) f.slots) b.wants (in_use_here x r.fd f b.stands) (past_size r x f b long)

pub on_bound_pages : (r : Region) (x : FileView) (f : Flat) → IsBacked r x f → (r.offset + r.size) / 4096 ≤ x.pages → meets_bound r.fd (page_of r.offset) (page_of r.size) f.slots ≡ true → binding_rows r f ≡ Refused Inval
on_bound_pages r x f b short m = by_bound r (wants_file r) (in_use r.fd f.files) (ltb (4096 * file_pages r.fd f.files) (r.offset + r.size)) (meets_bound r.fd (page_of r.offset) (page_of r.size) f.slots) b.wants (in_use_here x r.fd f b.stands) (in_size r x f b short) m

pub on_free_pages : (r : Region) (x : FileView) (f : Flat) → IsBacked r x f → (r.offset + r.size) / 4096 ≤ x.pages → meets_bound r.fd (page_of r.offset) (page_of r.size) f.slots ≡ false → binding_rows r f ≡ Short (new_slot r true) 0
on_free_pages r x f b short m = by_free r (wants_file r) (in_use r.fd f.files) (ltb (4096 * file_pages r.fd f.files) (r.offset + r.size)) (meets_bound r.fd (page_of r.offset) (page_of r.size) f.slots) b.wants (in_use_here x r.fd f b.stands) (in_size r x f b short) m
