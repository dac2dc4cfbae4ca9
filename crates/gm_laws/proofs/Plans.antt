-- What a plan promises of its effect.
use Rattle.std.proofs.Common.{◌&&◌, ◌*◌, ◌+◌, ◌-◌, Bool, List, None, Option, Some, [], ap, arith, cond, eq-eqb, eqb, eqb-true, false, inl, inr, leb, length, ltb, max, min, not, refl, subst, sym, true, ℕ, ◌∙◌, ◌∷◌, ◌≡◌, ◌⊎◌, ◌||◌}
use Rattle.std.proofs.lemmas.Bool.{and_from, both_ways, cases_Bool, or_left, or_parts, or_right}
use Rattle.std.proofs.lemmas.Bool.Decides.{nat_tests}
use Rattle.gm_base.specs.Extent.{Extent, holds, meets}
use Rattle.gm_base.specs.declared.calls.Ioctl.{Ioctl}
use Rattle.gm_base.specs.declared.calls.Ioctl.TheVariants.{Allocate, Attrs, Close, Create, Peek, Poke, Populate, Punch, Region2}
use Rattle.gm_base.specs.declared.calls.Region.{Region}
use Rattle.gm_base.specs.declared.numbers.TheConstants.{BLOCK, KVM_MEMORY_ATTRIBUTE_PRIVATE, KVM_MEM_GUEST_MEMFD, KVM_MEM_READONLY, PAGE_BYTES, SLOT_IDS}
use Rattle.gm_base.specs.declared.values.Errno.TheVariants.{BadF, Exist, Inval}
use Rattle.gm_base.specs.declared.values.Setup.{Setup}
use Rattle.gm_flat.specs.Calls.{Bracketed, OFFSET_LIMIT, Paged, Plan, Reads, Refused, Same, Short, all_have, attrs_plan, bad_range, bad_word, bound_range, close_plan, cut_at_end, differs, file_pages, file_populate, has_memfd, is_paged, is_readonly, kind_of, make_plan, meets_bound, meets_slot, new_slot, old_plan, page_of, part_span, part_spans, plan, punch_plan, put_by_index, region_plan, same_truth, slot_plan, slot_populate, slots_of_file, user_bytes, wants_file, whole_spans, word_in}
use Rattle.gm_flat.specs.Effects.{U64_LIMIT, dropped}
use Rattle.gm_flat.specs.FlatState.{Flat, has_flag, in_use}
use Rattle.gm_flat.specs.Locks.{takes_file, takes_slots}
use Rattle.gm_flat.specs.Mappings.{any_holds}
use Rattle.gm_flat.specs.RightLook.{file_of}
use Rattle.gm_flat.specs.Slots.{index_of, lies_over, slot_span}
use Rattle.gm_flat.specs.Window.{in_old_or_new, in_slot}
use Rattle.gm_flat.specs.declared.effect.Effect.TheVariants.{Attr, Cut, File, Move, NoSlot, Shut, Slot, Word}
use Rattle.gm_flat.specs.declared.views.SlotView.{SlotView}
use Rattle.gm_laws.proofs.Flats.{of_file, over, over-dropped, with_id}
use Rattle.gm_laws.proofs.Ids.{MemSlot, over_mem}
use Rattle.gm_laws.proofs.Kit.{some_same}

abbrev pub IsFlagged : Option ℕ → ℕ → Type 0
IsFlagged file flags = (F : ℕ) → of_file F file ≡ true → has_flag KVM_MEM_GUEST_MEMFD flags ≡ true

abbrev pub FileOk : Option ℕ → Ioctl → Flat → Type 0
FileOk file i f = (F : ℕ) → of_file F file ≡ true → (takes_file F i f ≡ true) × (in_use F f.files ≡ true)

abbrev pub Takes : Option ℕ → Ioctl → Flat → Type 0
Takes file i f = (F : ℕ) → of_file F file ≡ true → takes_file F i f ≡ true

abbrev pub NoMemfd : Option SlotView → Type 0
NoMemfd None = ⊥
NoMemfd (Some s) = has_memfd s ≡ false

abbrev pub CutCovers : ℕ → ℕ → ℕ → List Extent → List SlotView → Type 0
CutCovers F lo hi spans rows = (g : ℕ) (r : SlotView) → MemSlot r rows → lies_over r g ≡ true → of_file F r.file ≡ true → (leb lo (index_of r g) && ltb (index_of r g) hi) ≡ true → any_holds spans g ≡ true

abbrev pub ShutCovers : ℕ → List Extent → List SlotView → Type 0
ShutCovers F spans rows = (g : ℕ) (r : SlotView) → MemSlot r rows → lies_over r g ≡ true → of_file F r.file ≡ true → any_holds spans g ≡ true

-- the files that slots name are in use
abbrev pub FilesUsed : Flat → Type 0
FilesUsed f = (r : SlotView) (F : ℕ) → MemSlot r f.slots → of_file F r.file ≡ true → in_use F f.files ≡ true

abbrev pub Fits : Ioctl → Flat → Plan → Type 0
Fits i f (Short (File file pages block) n) = Unit {0}
Fits i f (Short (Word page word value) n) = Unit {0}
Fits i f (Short (Slot id base pages user flags file index) n) = (takes_slots i ≡ true) × ((g : ℕ) → (leb base g && ltb g (base + pages)) ≡ true → over g f.slots ≡ None) × FileOk file i f × IsFlagged file flags × (with_id id f.slots ≡ None) × (meets_slot base pages f.slots ≡ false) × ((F : ℕ) → of_file F file ≡ true → meets_bound F index pages f.slots ≡ false)
Fits i f (Short _ n) = ⊥
Fits i f (Bracketed (NoSlot id) spans) = (takes_slots i ≡ true) × ((g : ℕ) → in_slot g (with_id id f.slots) ≡ true → any_holds spans g ≡ true) × Takes (file_of (with_id id f.slots)) i f
Fits i f (Bracketed (Move id base) spans) = (takes_slots i ≡ true) × ((g : ℕ) → in_old_or_new g base (with_id id f.slots) ≡ true → (any_holds spans g ≡ true) ⊎ (over g f.slots ≡ None)) × NoMemfd (with_id id f.slots) × ((s : SlotView) → with_id id f.slots ≡ Some s → meets_slot base s.pages (dropped id f.slots) ≡ false)
Fits i f (Bracketed (Attr span kind) spans) = (takes_slots i ≡ true) × ((g : ℕ) → holds span g ≡ true → any_holds spans g ≡ true)
Fits i f (Bracketed (Cut F lo hi) spans) = (takes_file F i f ≡ true) × (in_use F f.files ≡ true) × CutCovers F lo hi spans f.slots
Fits i f (Bracketed (Shut F) spans) = (takes_slots i ≡ true) × (takes_file F i f ≡ true) × (in_use F f.files ≡ true) × ShutCovers F spans f.slots
Fits i f (Bracketed _ spans) = ⊥
Fits i f (Paged p) = (takes_file p.file i f ≡ true) × (FilesUsed f → in_use p.file f.files ≡ true)
Fits i f _ = Unit {0}

pub fits_cond : (i : Ioctl) (f : Flat) (t : Bool) (p q : Plan) → (t ≡ true → Fits i f p) → (t ≡ false → Fits i f q) → Fits i f (cond t p q)
fits_cond i f true p q a b = a refl
fits_cond i f false p q a b = b refl

row_apart : (b p base n g : ℕ) → (ltb base (b + p) && ltb b (base + n)) ≡ false → (leb base g && ltb g (base + n)) ≡ true → (leb b g && ltb g (b + p)) ≡ false
row_apart b p base n g e h = grind (arith, nat_tests)

meets_none : (base n g : ℕ) (rows : List SlotView) → meets_slot base n rows ≡ false → (leb base g && ltb g (base + n)) ≡ true → over g rows ≡ None
meets_none base n g [] e h = refl
meets_none base n g (r ∷ rs) e h =
    let x = or_parts (ltb base (r.base + r.pages) && ltb r.base (base + n)) (meets_slot base n rs) e in
    let y : lies_over r g ≡ false = row_apart r.base r.pages base n g x.0 h in
    let z : over g rs ≡ None = meets_none base n g rs x.1 h in
    rw (y, z) refl

row_covers : (s : SlotView) (g : ℕ) → lies_over s g ≡ true → any_holds (slot_span s ∷ []) g ≡ true
row_covers s g e = or_left (lies_over s g) false e

own_file : (r : Region) (f : Flat) (F : ℕ) → of_file F (file_of (with_id r.slot f.slots)) ≡ true → takes_file F (Region2 r) f ≡ true
own_file r f F e = or_right (wants_file r && eqb r.fd F) (of_file F (file_of (with_id r.slot f.slots))) e

-- a new slot
slot_fits_plan : (r : Region) (f : Flat) (t : Bool) → with_id r.slot f.slots ≡ None → wants_file r ≡ t → (t ≡ true → in_use r.fd f.files ≡ true) → meets_slot (page_of r.gpa) (page_of r.size) f.slots ≡ false → (t ≡ true → meets_bound r.fd (page_of r.offset) (page_of r.size) f.slots ≡ false) → Fits (Region2 r) f (Short (new_slot r t) 0)
slot_fits_plan r f true n e used m b = (
  refl,
  (λ g h. meets_none (page_of r.gpa) (page_of r.size) g f.slots m h),
  (λ F h. (
    or_left (wants_file r && eqb r.fd F) (of_file F (file_of (with_id r.slot f.slots))) (and_from (wants_file r) (eqb r.fd F) e h),
    subst (λ (x : ℕ). in_use x f.files ≡ true) (eqb-true r.fd F h) (used refl),
  )),
  (λ F h. e),
  n,
  m,
  λ F h. subst (λ (x : ℕ). meets_bound x (page_of r.offset) (page_of r.size) f.slots ≡ false) (eqb-true r.fd F h) (b refl),
)
slot_fits_plan r f false n e used m b = (refl, (λ g h. meets_none (page_of r.gpa) (page_of r.size) g f.slots m h), (λ F h. absurd (both_ways false refl h)), (λ F h. absurd (both_ways false refl h)), n, m, λ F h. absurd (both_ways false refl h))

apart_if : (t u : Bool) → (t && u) ≡ false → t ≡ true → u ≡ false
apart_if t u e h = grind arith

used_if : (t u : Bool) → (t && not u) ≡ false → t ≡ true → u ≡ true
used_if t u e h = grind arith

make_fits : (r : Region) (f : Flat) → with_id r.slot f.slots ≡ None → Fits (Region2 r) f (make_plan r f)
make_fits r f n =
    fits_cond (Region2 r) f (meets_slot (page_of r.gpa) (page_of r.size) f.slots) (Refused Exist) _ (λ _. tt)
    (λ m. fits_cond (Region2 r) f (wants_file r && not (in_use r.fd f.files)) (Refused BadF) _ (λ _. tt)
    (λ u. fits_cond (Region2 r) f (wants_file r && ltb (PAGE_BYTES * file_pages r.fd f.files) (r.offset + r.size)) (Refused Inval) _ (λ _. tt)
    (λ _. fits_cond (Region2 r) f (wants_file r && meets_bound r.fd (page_of r.offset) (page_of r.size) f.slots) (Refused Inval) (Short (new_slot r (wants_file r)) 0) (λ _. tt)
    (λ b. slot_fits_plan r f (wants_file r) n refl (used_if (wants_file r) (in_use r.fd f.files) u) m (apart_if (wants_file r) (meets_bound r.fd (page_of r.offset) (page_of r.size) f.slots) b)))))

-- a slot that is there
move_covers : (r : Region) (s : SlotView) (f : Flat) (g : ℕ) → with_id r.slot f.slots ≡ Some s → meets_slot (page_of r.gpa) (page_of r.size) (dropped r.slot f.slots) ≡ false → s.pages ≡ page_of r.size → in_old_or_new g (page_of r.gpa) (Some s) ≡ true → (any_holds (slot_span s ∷ []) g ≡ true) ⊎ (over g f.slots ≡ None)
move_covers r s f g e m p h =
    elim (cases_Bool (lies_over s g)) [
      | inl y ↦ inl (row_covers s g y)
      | inr y ↦ inr (
          let gone_slot : over g (dropped r.slot f.slots) ≡ over g f.slots = over-dropped g r.slot f.slots (ap (in_slot g) e ∙ y) in
          sym gone_slot ∙ meets_none (page_of r.gpa) (page_of r.size) g (dropped r.slot f.slots) m (subst (λ (x : ℕ). (leb (page_of r.gpa) g && ltb g ((page_of r.gpa) + x)) ≡ true) p (new_part (lies_over s g) (leb (page_of r.gpa) g && ltb g ((page_of r.gpa) + s.pages)) y h)))
    ]
  where
    new_part : (a b : Bool) → a ≡ false → (a || b) ≡ true → b ≡ true
    new_part a b e h = grind arith

same_pages : (a b : ℕ) (t u : Bool) → (t || (not (eqb a b) || u)) ≡ false → a ≡ b
same_pages a b t u e = grind (arith, nat_tests)

old_fits : (r : Region) (f : Flat) (s : SlotView) → with_id r.slot f.slots ≡ Some s → Fits (Region2 r) f (old_plan r f s)
old_fits r f s e =
    fits_cond (Region2 r) f (eqb r.size 0) (Bracketed (NoSlot r.slot) (slot_span s ∷ [])) _
    (λ _. (refl, (λ g h. row_covers s g (sym (ap (in_slot g) e) ∙ h)), λ F h. own_file r f F h))
    (λ _. fits_cond (Region2 r) f (has_memfd s || wants_file r) (Refused Inval) _ (λ _. tt)
    (λ n. fits_cond (Region2 r) f (differs r s) (Refused Inval) _ (λ _. tt)
    (λ p. fits_cond (Region2 r) f (eqb s.base (page_of r.gpa)) (Same 0) _ (λ _. tt)
    (λ _. fits_cond (Region2 r) f (meets_slot (page_of r.gpa) (page_of r.size) (dropped r.slot f.slots)) (Refused Exist) (Bracketed (Move r.slot (page_of r.gpa)) (slot_span s ∷ [])) (λ _. tt)
    (λ m. (
      refl,
      (λ g h. move_covers r s f g e m (same_pages s.pages (page_of r.size) (not (eqb s.user (page_of r.user))) (not (same_truth (is_readonly s.flags) (is_readonly r.flags))) p) (sym (ap (in_old_or_new g (page_of r.gpa)) e) ∙ h)),
      subst (λ (o : Option SlotView). NoMemfd o) (sym e) (or_parts (has_memfd s) (wants_file r) n).0,
      (λ q h. ap (λ (x : ℕ). meets_slot (page_of r.gpa) x (dropped r.slot f.slots)) (ap (λ (z : SlotView). z.pages) (some_same q s (sym h ∙ e)) ∙ same_pages s.pages (page_of r.size) (not (eqb s.user (page_of r.user))) (not (same_truth (is_readonly s.flags) (is_readonly r.flags))) p) ∙ m),
    ))))))

slot_plan_fits : (r : Region) (f : Flat) (o : Option SlotView) → with_id r.slot f.slots ≡ o → Fits (Region2 r) f (slot_plan r f o)
slot_plan_fits r f None e = fits_cond (Region2 r) f (eqb r.size 0) (Refused Inval) (make_plan r f) (λ _. tt) (λ _. make_fits r f e)
slot_plan_fits r f (Some s) e = old_fits r f s e

region_fits : (s : Setup) (r : Region) (f : Flat) → Fits (Region2 r) f (region_plan s r f)
region_fits s r f =
    fits_cond (Region2 r) f (not (eqb r.flags 0 || (eqb r.flags KVM_MEM_READONLY || eqb r.flags KVM_MEM_GUEST_MEMFD))) (Refused Inval) _ (λ _. tt)
    (λ _. fits_cond (Region2 r) f (not (is_paged r.size && (is_paged r.gpa && is_paged r.user)) || (wants_file r && not (is_paged r.offset))) (Refused Inval) _ (λ _. tt)
    (λ _. fits_cond (Region2 r) f (leb U64_LIMIT (r.gpa + r.size) || (wants_file r && leb U64_LIMIT (r.offset + r.size))) (Refused Inval) _ (λ _. tt)
    (λ _. fits_cond (Region2 r) f (ltb (user_bytes s) (r.user + r.size)) (Refused Inval) _ (λ _. tt)
    (λ _. fits_cond (Region2 r) f (leb SLOT_IDS r.slot) (Refused Inval) (slot_plan r f (with_id r.slot f.slots)) (λ _. tt)
    (λ _. slot_plan_fits r f (with_id r.slot f.slots) refl)))))

-- the slots of a file
MemSlot-put : (r s : SlotView) (xs : List SlotView) → (r ≡ s) ⊎ MemSlot r xs → MemSlot r (put_by_index s xs)
MemSlot-put r s [] m = m
MemSlot-put r s (x ∷ xs) m = go (leb s.index x.index) (λ k. MemSlot-put r s xs k)
  where
    go : (t : Bool) → ((r ≡ s) ⊎ MemSlot r xs → MemSlot r (put_by_index s xs)) → MemSlot r (cond t (s ∷ x ∷ xs) (x ∷ put_by_index s xs))
    go true ih = elim m [ inl e ↦ inl e | inr k ↦ inr k ]
    go false ih = elim m [ inl e ↦ inr (ih (inl e)) | inr k ↦ elim k [ inl e ↦ inl e | inr z ↦ inr (ih (inr z)) ] ]

MemSlot-of_file : (F : ℕ) (r : SlotView) (xs : List SlotView) → MemSlot r xs → of_file F r.file ≡ true → MemSlot r (slots_of_file F xs)
MemSlot-of_file F r [] m e = absurd m
MemSlot-of_file F r (x ∷ xs) m e = go (of_file F x.file) refl (λ k. MemSlot-of_file F r xs k e)
  where
    go : (t : Bool) → of_file F x.file ≡ t → (MemSlot r xs → MemSlot r (slots_of_file F xs)) → MemSlot r (cond t (put_by_index x (slots_of_file F xs)) (slots_of_file F xs))
    go true q ih = MemSlot-put r x (slots_of_file F xs) (elim m [ inl k ↦ inl k | inr k ↦ inr (ih k) ])
    go false q ih = elim m [
      | inl k ↦ absurd (both_ways (of_file F x.file) q (ap (λ (y : SlotView). of_file F y.file) (sym k) ∙ e))
      | inr k ↦ ih k
    ]

-- spans of a file's pages
part_in : (base pages index lo hi g : ℕ) → (leb base g && ltb g (base + pages)) ≡ true → (leb lo ((index + g) - base) && ltb ((index + g) - base) hi) ≡ true → ((ltb index hi && ltb lo (index + pages)) ≡ true) × ((leb (base + (max lo index - index)) g && ltb g (base + (min hi (index + pages) - index))) ≡ true)
part_in base pages index lo hi g e h = (grind (arith, nat_tests), grind (arith, nat_tests))

cut_step : (t : Bool) (s : Extent) (ss : List Extent) (g : ℕ) → ((t ≡ true) × (holds s g ≡ true)) ⊎ (any_holds ss g ≡ true) → any_holds (cond t (s ∷ ss) ss) g ≡ true
cut_step true s ss g (inl x) = or_left (holds s g) (any_holds ss g) x.1
cut_step true s ss g (inr x) = or_right (holds s g) (any_holds ss g) x
cut_step false s ss g (inl x) = absurd (both_ways false refl x.0)
cut_step false s ss g (inr x) = x

part_covers : (lo hi g : ℕ) (r : SlotView) (xs : List SlotView) → MemSlot r xs → lies_over r g ≡ true → (leb lo (index_of r g) && ltb (index_of r g) hi) ≡ true → any_holds (part_spans lo hi xs) g ≡ true
part_covers lo hi g r [] m i c = absurd m
part_covers lo hi g r (x ∷ xs) m i c =
    cut_step (meets (bound_range x) (record { lo = lo; hi = hi })) (part_span lo hi x) (part_spans lo hi xs) g (elim m [
      | inl e ↦ inl (
          let p = part_in r.base r.pages r.index lo hi g i c in
          subst (λ (y : SlotView). (meets (bound_range y) (record { lo = lo; hi = hi }) ≡ true) × (holds (part_span lo hi y) g ≡ true)) e (p.0, p.1))
      | inr k ↦ inr (part_covers lo hi g r xs k i c)
    ])

whole_covers : (g : ℕ) (r : SlotView) (xs : List SlotView) → MemSlot r xs → lies_over r g ≡ true → any_holds (whole_spans xs) g ≡ true
whole_covers g r [] m i = absurd m
whole_covers g r (x ∷ xs) m i = elim m [
  | inl e ↦ or_left (lies_over x g) (any_holds (whole_spans xs) g) (ap (λ (y : SlotView). lies_over y g) (sym e) ∙ i)
  | inr k ↦ or_right (lies_over x g) (any_holds (whole_spans xs) g) (whole_covers g r xs k i)
]

not_not : (t : Bool) → not t ≡ false → t ≡ true
not_not t e = grind arith

punch_fits : (fd offset n : ℕ) (f : Flat) → Fits (Punch fd offset n) f (punch_plan fd offset n f)
punch_fits fd offset n f =
    fits_cond (Punch fd offset n) f (bad_range offset n) (Refused Inval) _ (λ _. tt)
    (λ _. fits_cond (Punch fd offset n) f (not (in_use fd f.files)) (Refused BadF) (Bracketed (Cut fd (page_of offset) (page_of (offset + n))) (part_spans (page_of offset) (page_of (offset + n)) (slots_of_file fd f.slots))) (λ _. tt)
    (λ u. (
      eq-eqb fd fd refl,
      not_not (in_use fd f.files) u,
      λ g r m i q c. part_covers (page_of offset) (page_of (offset + n)) g r (slots_of_file fd f.slots) (MemSlot-of_file fd r f.slots m q) i c,
    )))

close_fits : (fd : ℕ) (f : Flat) → Fits (Close fd) f (close_plan fd f)
close_fits fd f =
    fits_cond (Close fd) f (in_use fd f.files) (Bracketed (Shut fd) (whole_spans (slots_of_file fd f.slots))) (Refused BadF)
    (λ u. (refl, eq-eqb fd fd refl, u, λ g r m i q. whole_covers g r (slots_of_file fd f.slots) (MemSlot-of_file fd r f.slots m q) i))
    (λ _. tt)

attrs_fits : (address size attributes flags : ℕ) (f : Flat) → Fits (Attrs address size attributes flags) f (attrs_plan address size attributes flags f)
attrs_fits address size attributes flags f =
    fits_cond (Attrs address size attributes flags) f (not (eqb flags 0) || not (eqb attributes 0 || eqb attributes KVM_MEMORY_ATTRIBUTE_PRIVATE)) (Refused Inval) _ (λ _. tt)
    (λ _. fits_cond (Attrs address size attributes flags) f (eqb size 0 || leb U64_LIMIT (address + size)) (Refused Inval) _ (λ _. tt)
    (λ _. fits_cond (Attrs address size attributes flags) f (not (is_paged address && is_paged size)) (Refused Inval) _ (λ _. tt)
    (λ _. fits_cond (Attrs address size attributes flags) f (all_have (kind_of attributes) (page_of address) (page_of size) f.attrs) (Same 0) _ (λ _. tt)
    (λ _. (refl, λ g h. or_left (holds (record { lo = page_of address; hi = page_of (address + size) }) g) false h)))))

over_used : (F g : ℕ) (f : Flat) (o : Option SlotView) → over g f.slots ≡ o → FilesUsed f → of_file F (file_of o) ≡ true → in_use F f.files ≡ true
over_used F g f None e u h = absurd (both_ways false refl h)
over_used F g f (Some r) e u h = u r F (over_mem g r f.slots e).0 h

file_populate-fits : (s : Setup) (i : Ioctl) (page pages user : ℕ) (f : Flat) (r : SlotView) (o : Option ℕ) → ((F : ℕ) → of_file F o ≡ true → (takes_file F i f ≡ true) × (FilesUsed f → in_use F f.files ≡ true)) → Fits i f (file_populate s page pages user r o)
file_populate-fits s i page pages user f r None g = tt
file_populate-fits s i page pages user f r (Some F) g = fits_cond i f (ltb (user_bytes s) (user + PAGE_BYTES * cut_at_end page pages r)) (Refused Inval) (Paged (record { file = F; index = index_of r page; pages = cut_at_end page pages r; base = Some page; copy = Some (page_of user) })) (λ _. tt) (λ _. g F (eq-eqb F F refl))

slot_populate-fits : (s : Setup) (i : Ioctl) (page pages user : ℕ) (f : Flat) (o : Option SlotView) → ((F : ℕ) → of_file F (file_of o) ≡ true → (takes_file F i f ≡ true) × (FilesUsed f → in_use F f.files ≡ true)) → Fits i f (slot_populate s page pages user o)
slot_populate-fits s i page pages user f None g = tt
slot_populate-fits s i page pages user f (Some r) g = fits_cond i f (has_memfd r) (file_populate s page pages user r r.file) (Refused Inval) (λ _. file_populate-fits s i page pages user f r r.file g) (λ _. tt)

-- every plan fits
pub fits : (s : Setup) (i : Ioctl) (f : Flat) → Fits i f (plan s i f)
fits s (Create size flags) f =
    fits_cond (Create size flags) f (eqb size 0 || (leb OFFSET_LIMIT size || not (is_paged size))) (Refused Inval) _ (λ _. tt)
    (λ _. fits_cond (Create size flags) f (not (eqb flags 0 || eqb flags BLOCK)) (Refused Inval) (Short (File (length f.files) (page_of size) (eqb flags BLOCK)) (length f.files)) (λ _. tt) (λ _. tt))
fits s (Region2 r) f = region_fits s r f
fits s (Attrs address size attributes flags) f = attrs_fits address size attributes flags f
fits s (Punch fd offset n) f = punch_fits fd offset n f
fits s (Close fd) f = close_fits fd f
fits s (Poke address value) f = fits_cond (Poke address value) f (bad_word s address) (Refused Inval) (Short (Word (page_of address) (word_in address) value) 0) (λ _. tt) (λ _. tt)
fits s (Peek address) f = fits_cond (Peek address) f (bad_word s address) (Refused Inval) (Reads (page_of address) (word_in address)) (λ _. tt) (λ _. tt)
fits s (Allocate fd offset n) f =
    fits_cond (Allocate fd offset n) f (bad_range offset n) (Refused Inval) _ (λ _. tt)
    (λ _. fits_cond (Allocate fd offset n) f (not (in_use fd f.files)) (Refused BadF) _ (λ _. tt)
    (λ u. fits_cond (Allocate fd offset n) f (ltb (PAGE_BYTES * file_pages fd f.files) (offset + n)) (Refused Inval) (Paged (record { file = fd; index = page_of offset; pages = page_of n; base = None; copy = None })) (λ _. tt) (λ _. (eq-eqb fd fd refl, λ _. not_not (in_use fd f.files) u))))
fits s (Populate gpa pages user) f =
    fits_cond (Populate gpa pages user) f (not (is_paged gpa && is_paged user) || eqb pages 0) (Refused Inval) (slot_populate s (page_of gpa) pages user (over (page_of gpa) f.slots)) (λ _. tt)
    (λ _. slot_populate-fits s (Populate gpa pages user) (page_of gpa) pages user f (over (page_of gpa) f.slots) (λ F h. (h, λ u. over_used F (page_of gpa) f (over (page_of gpa) f.slots) refl u h)))
