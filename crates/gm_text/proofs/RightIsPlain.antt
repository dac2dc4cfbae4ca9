-- Each entry of a right history is plain.
use Rattle.std.proofs.Common.{◌≡◌, ℕ, zero, suc, ◌+◌, ◌*◌, ◌<◌, List, [], ◌∷◌, length, Bool, true, false, not, ◌&&◌, ◌||◌, cond, eqb, leb, ltb, Option, None, Some, refl, sym, subst, arith}
use Rattle.gm_base.specs.Scripts.{Orders}
use Rattle.gm_base.specs.Extent.{Extent}
use Rattle.gm_base.specs.declared.numbers.TheConstants.{BLOCK, KVM_MEM_GUEST_MEMFD, KVM_MEM_READONLY, KVM_MEMORY_ATTRIBUTE_PRIVATE, PAGE_BYTES, SLOT_IDS}
use Rattle.gm_base.specs.declared.values.Errno.{Errno}
use Rattle.gm_base.specs.declared.values.Errno.TheVariants.{BadF, Exist, Inval}
use Rattle.gm_base.specs.declared.calls.Ioctl.{Ioctl}
use Rattle.gm_base.specs.declared.calls.Ioctl.TheVariants.{Create, Region2, Attrs, Punch, Allocate, Close, Populate, Poke, Peek}
use Rattle.gm_base.specs.declared.calls.Region.{Region}
use Rattle.gm_base.specs.declared.values.Actor.{Actor}
use Rattle.gm_base.specs.declared.values.Actor.TheVariants.{Vcpu, Caller}
use Rattle.gm_base.specs.declared.values.Setup.{Setup}
use Rattle.gm_flat.specs.declared.effect.Backing.{Backing}
use Rattle.gm_flat.specs.declared.effect.Backing.TheVariants.{User, Folio as InFolio}
use Rattle.gm_flat.specs.declared.effect.Effect.{Effect}
use Rattle.gm_flat.specs.declared.effect.Effect.TheVariants.{File, Slot, Mark, NoSlot, Move, Attr, Cut, Shut, Word}
use Rattle.gm_flat.specs.declared.effect.Exit.{Exit}
use Rattle.gm_flat.specs.declared.effect.Exit.TheVariants.{Fault as MemoryFault, Mmio, NoFrame}
use Rattle.gm_flat.specs.declared.entry.Entry.{Entry}
use Rattle.gm_flat.specs.declared.entry.What.{What}
use Rattle.gm_flat.specs.declared.entry.What.TheVariants.{Get, Left, Change}
use Rattle.gm_flat.specs.declared.views.SlotView.{SlotView}
use Rattle.gm_flat.specs.Calls.{OFFSET_LIMIT, Plan, Refused, Same, Reads, Short, Bracketed, Paged, all_have, attrs_plan, bad_range, bad_word, cut_at_end, differs, file_pages, file_populate, has_memfd, is_paged, kind_of, make_plan, meets_bound, meets_slot, new_slot, old_plan, page_of, part_spans, plan, region_plan, slot_plan, slot_populate, slots_of_file, user_bytes, wants_file, whole_spans, word_in}
use Rattle.gm_flat.specs.Effects.{Addition, U64_LIMIT, dropped}
use Rattle.gm_flat.specs.FlatState.{Flat, in_use}
use Rattle.gm_flat.specs.Histories.{Call, Fault, Faulting, NoFault, call, fault, is_mark}
use Rattle.gm_flat.specs.Plain.{IsPlain, IsPlainEffect, IsPlainExit, IsPlainGet, IsPlainWhat}
use Rattle.gm_flat.specs.Replay.{States, flat, get_adds, states}
use Rattle.gm_flat.specs.Slots.{index_of, slot_by_id, slot_over, slot_span}
use Rattle.gm_flat.specs.RightCalls.{IsChange, IsEffect, RightCalls, RightChange}
use Rattle.gm_flat.specs.RightHistory.{Each, Right}
use Rattle.gm_flat.specs.RightLives.{GetAdds, LivesOf, RightGetAdds, RightLives, looked_index, plan_of}
use Rattle.gm_flat.specs.RightLook.{RightExit, RightLook}

-- exits
plain_exit : (frames : ℕ) (why : Exit) (past : List Entry) (f : Fault) → RightExit frames why past f → IsPlainExit why
plain_exit frames (MemoryFault flags gpa size) past (Faulting a missed sample (Some seen) got) h = h.right_size
plain_exit frames (MemoryFault flags gpa size) past (Faulting a missed sample None got) h = absurd h
plain_exit frames (MemoryFault flags gpa size) past NoFault h = absurd h
plain_exit frames (Mmio gpa) past f h = tt
plain_exit frames NoFrame past f h = tt

-- gets: one of a user page adds nothing
user_adds : (page fresh : ℕ) (f : Fault) (st : States) → get_adds (User page) fresh f st ≡ None
user_adds page fresh NoFault st = refl
user_adds page fresh (Faulting access missed sample None got) st = refl
user_adds page fresh (Faulting access missed sample (Some seen) got) st = refl

none_added : (frames : ℕ) (i : Option ℕ) (f : Flat) → GetAdds frames i None f → ⊥
none_added frames None f h = h
none_added frames (Some i) f h = h

not_above : (n : ℕ) → (0 < n → ⊥) → n ≡ 0
not_above zero h = refl
not_above (suc n) h = absurd (h (omega arith))

plain_get : (b : Backing) (fresh frames : ℕ) (f : Fault) (past : List Entry) → RightGetAdds frames fresh f (get_adds b fresh f (states past)) past → IsPlainGet b fresh
plain_get (InFolio folio) fresh frames f past h = tt
plain_get (User page) fresh frames f past h =
    not_above fresh (λ lt. none_added frames (looked_index f past) (flat past) (subst (λ (d : Option Addition). GetAdds frames (looked_index f past) d (flat past)) (user_adds page fresh f (states past)) (h lt)))

-- changes: the effect of each plan is plain
abbrev IsPlainPlan : Plan → Type 0
IsPlainPlan (Short effect answer) = IsPlainEffect effect
IsPlainPlan (Bracketed effect spans) = IsPlainEffect effect
IsPlainPlan _ = Unit {0}

either : (b : Bool) (p q : Plan) → IsPlainPlan p → IsPlainPlan q → IsPlainPlan (cond b p q)
either true p q h k = h
either false p q h k = k

-- after a row that refuses
unless : (b : Bool) (e : Errno) (q : Plan) → IsPlainPlan q → IsPlainPlan (cond b (Refused e) q)
unless b e q h = either b (Refused e) q tt h

plain_slot : (r : Region) (b : Bool) → IsPlainEffect (new_slot r b)
plain_slot r true = tt
plain_slot r false = refl

plain_make : (r : Region) (f : Flat) → IsPlainPlan (make_plan r f)
plain_make r f =
    unless (meets_slot (page_of r.gpa) (page_of r.size) f.slots) Exist _
    (unless (wants_file r && not (in_use r.fd f.files)) BadF _
    (unless (wants_file r && ltb (PAGE_BYTES * file_pages r.fd f.files) (r.offset + r.size)) Inval _
    (unless (wants_file r && meets_bound r.fd (page_of r.offset) (page_of r.size) f.slots) Inval (Short (new_slot r (wants_file r)) 0) (plain_slot r (wants_file r)))))

plain_old : (r : Region) (f : Flat) (s : SlotView) → IsPlainPlan (old_plan r f s)
plain_old r f s =
    either (eqb r.size 0) (Bracketed (NoSlot r.slot) (slot_span s ∷ [])) _ tt
    (unless (has_memfd s || wants_file r) Inval _
    (unless (differs r s) Inval _
    (either (eqb s.base (page_of r.gpa)) (Same 0) _ tt
    (unless (meets_slot (page_of r.gpa) (page_of r.size) (dropped r.slot f.slots)) Exist (Bracketed (Move r.slot (page_of r.gpa)) (slot_span s ∷ [])) tt))))

plain_found : (r : Region) (f : Flat) (s : Option SlotView) → IsPlainPlan (slot_plan r f s)
plain_found r f None = unless (eqb r.size 0) Inval (make_plan r f) (plain_make r f)
plain_found r f (Some s) = plain_old r f s

plain_region : (s : Setup) (r : Region) (f : Flat) → IsPlainPlan (region_plan s r f)
plain_region s r f =
    unless (not (eqb r.flags 0 || (eqb r.flags KVM_MEM_READONLY || eqb r.flags KVM_MEM_GUEST_MEMFD))) Inval _
    (unless (not (is_paged r.size && (is_paged r.gpa && is_paged r.user)) || (wants_file r && not (is_paged r.offset))) Inval _
    (unless (leb U64_LIMIT (r.gpa + r.size) || (wants_file r && leb U64_LIMIT (r.offset + r.size))) Inval _
    (unless (ltb (user_bytes s) (r.user + r.size)) Inval _
    (unless (leb SLOT_IDS r.slot) Inval (slot_plan r f (slot_by_id f.slots r.slot)) (plain_found r f (slot_by_id f.slots r.slot))))))

plain_attrs : (address size attributes flags : ℕ) (f : Flat) → IsPlainPlan (attrs_plan address size attributes flags f)
plain_attrs address size attributes flags f =
    unless (not (eqb flags 0) || not (eqb attributes 0 || eqb attributes KVM_MEMORY_ATTRIBUTE_PRIVATE)) Inval _
    (unless (eqb size 0 || leb U64_LIMIT (address + size)) Inval _
    (unless (not (is_paged address && is_paged size)) Inval _
    (either (all_have (kind_of attributes) (page_of address) (page_of size) f.attrs) (Same 0) (Bracketed (Attr (span (page_of address) (page_of (address + size))) (kind_of attributes)) (span (page_of address) (page_of (address + size)) ∷ [])) tt tt)))
  where
    span : ℕ → ℕ → Extent
    span lo hi = record { lo = lo; hi = hi }

plain_populate : (s : Setup) (page pages user : ℕ) (slot : SlotView) (file : Option ℕ) → IsPlainPlan (file_populate s page pages user slot file)
plain_populate s page pages user slot None = tt
plain_populate s page pages user slot (Some file) = unless (ltb (user_bytes s) (user + PAGE_BYTES * cut_at_end page pages slot)) Inval (Paged (record { file = file; index = index_of slot page; pages = cut_at_end page pages slot; base = Some page; copy = Some (page_of user) })) tt

plain_over : (s : Setup) (page pages user : ℕ) (slot : Option SlotView) → IsPlainPlan (slot_populate s page pages user slot)
plain_over s page pages user None = tt
plain_over s page pages user (Some slot) = either (has_memfd slot) (file_populate s page pages user slot slot.file) (Refused Inval) (plain_populate s page pages user slot slot.file) tt

plain_plan : (s : Setup) (c : Ioctl) (f : Flat) → IsPlainPlan (plan s c f)
plain_plan s (Create size flags) f =
    unless (eqb size 0 || (leb OFFSET_LIMIT size || not (is_paged size))) Inval _
    (unless (not (eqb flags 0 || eqb flags BLOCK)) Inval (Short (File (length f.files) (page_of size) (eqb flags BLOCK)) (length f.files)) tt)
plain_plan s (Region2 r) f = plain_region s r f
plain_plan s (Attrs address size attributes flags) f = plain_attrs address size attributes flags f
plain_plan s (Punch fd offset len) f =
    unless (bad_range offset len) Inval _
    (unless (not (in_use fd f.files)) BadF (Bracketed (Cut fd (page_of offset) (page_of (offset + len))) (part_spans (page_of offset) (page_of (offset + len)) (slots_of_file fd f.slots))) tt)
plain_plan s (Allocate fd offset len) f =
    unless (bad_range offset len) Inval _
    (unless (not (in_use fd f.files)) BadF _
    (unless (ltb (PAGE_BYTES * file_pages fd f.files) (offset + len)) Inval (Paged (record { file = fd; index = page_of offset; pages = page_of len; base = None; copy = None })) tt))
plain_plan s (Close fd) f = either (in_use fd f.files) (Bracketed (Shut fd) (whole_spans (slots_of_file fd f.slots))) (Refused BadF) tt tt
plain_plan s (Populate gpa pages user) f = unless (not (is_paged gpa && is_paged user) || eqb pages 0) Inval (slot_populate s (page_of gpa) pages user (slot_over f.slots (page_of gpa))) (plain_over s (page_of gpa) pages user (slot_over f.slots (page_of gpa)))
plain_plan s (Poke address value) f = unless (bad_word s address) Inval (Short (Word (page_of address) (word_in address) value) 0) tt
plain_plan s (Peek address) f = unless (bad_word s address) Inval (Reads (page_of address) (word_in address)) tt

plain_effect : (effect : Effect) (p : Plan) → IsPlainPlan p → IsEffect effect p → IsPlainEffect effect
plain_effect effect (Short e answer) h k = subst (λ (z : Effect). IsPlainEffect z) (sym k) h
plain_effect effect (Bracketed e spans) h k = subst (λ (z : Effect). IsPlainEffect z) (sym k) h
plain_effect effect (Refused errno) h k = absurd k
plain_effect effect (Same answer) h k = absurd k
plain_effect effect (Reads page word) h k = absurd k
plain_effect effect (Paged p) h k = absurd k

change_by : (effect : Effect) (p : Plan) → IsPlainPlan p → IsChange (is_mark effect) effect p → IsPlainEffect effect
change_by (Mark slot) p h k = tt
change_by (File file pages block) p h k = tt
change_by (Slot slot base pages user flags file index) p h k = plain_effect (Slot slot base pages user flags file index) p h k
change_by (NoSlot slot) p h k = tt
change_by (Move slot base) p h k = tt
change_by (Attr span kind) p h k = tt
change_by (Cut file lo hi) p h k = tt
change_by (Shut file) p h k = tt
change_by (Word page word value) p h k = tt

plain_change : (s : Setup) (effect : Effect) (x : Option Call) (past : List Entry) → RightChange s effect x past → IsPlainEffect effect
plain_change s effect None past h = absurd h
plain_change s effect (Some x) past h = change_by effect (plan_of s x past) (plain_plan s x.ioctl _) h

-- each entry
plain_what : (s : Setup) (w : What) (a : Actor) (past : List Entry) → RightLook s w a past → LivesOf s w a past → RightCalls s w a past → IsPlainWhat w
plain_what s (Left why) (Vcpu v) past look lives calls = plain_exit s.frames why past (fault v past) look
plain_what s (Left why) (Caller c) past look lives calls = absurd look
plain_what s (Get b fresh) (Vcpu v) past look lives calls = plain_get b fresh s.frames (fault v past) past lives
plain_what s (Get b fresh) (Caller c) past look lives calls = absurd lives
plain_what s (Change effect) (Caller c) past look lives calls = plain_change s effect (call c past) past calls
plain_what s (Change effect) (Vcpu v) past look lives calls = absurd calls
plain_what s w a past look lives calls = tt

plain_each : (s : Setup) (past : List Entry) → Each (λ e p. RightLook s e.what e.actor p) past → Each (λ e p. RightLives s e p) past → Each (λ e p. RightCalls s e.what e.actor p) past → IsPlain past
plain_each s [] look lives calls = tt
plain_each s (e ∷ past) look lives calls = (plain_what s e.what e.actor past look.0 lives.0.here calls.0, plain_each s past look.1 lives.1 calls.1)

pub right_is_plain : (o : Orders) (past : List Entry) → Right o past → IsPlain past
right_is_plain o past h = plain_each o.setup past h.looks h.lives h.calls
