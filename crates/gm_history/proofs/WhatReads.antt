-- What lines say is what entries have as their text.
use Rattle.std.proofs.Common.{◌≡◌, ℕ, List, [], ◌∷◌, ◌++◌, Option, None, Some, refl, sym, ◌∙◌, ap, subst, append_assoc, append-nil, arith}
use Rattle.std.specs.Prelude.{codes}
use Rattle.std.specs.Fmt.{decimal, digits}
use Rattle.gm_base.specs.Aim.{Aim}
use Rattle.gm_base.specs.Extent.{Extent}
use Rattle.gm_base.specs.declared.calls.Ioctl.TheVariants.{Create, Region2, Attrs, Punch, Allocate, Close, Populate, Poke, Peek}
use Rattle.gm_base.specs.declared.values.Kind.{Kind}
use Rattle.gm_base.specs.declared.values.Op.TheVariants.{Read, Write}
use Rattle.gm_flat.specs.declared.effect.Backing.{Backing}
use Rattle.gm_flat.specs.declared.effect.Backing.TheVariants.{User, Folio as InFolio}
use Rattle.gm_flat.specs.declared.effect.Effect.TheVariants.{File, Slot, Mark, NoSlot, Move, Attr, Cut, Shut, Word}
use Rattle.gm_flat.specs.declared.effect.Exit.TheVariants.{Fault, Mmio, NoFrame}
use Rattle.gm_flat.specs.declared.effect.Reply.TheVariants.{Good, Bad}
use Rattle.gm_flat.specs.declared.entry.What.{What}
use Rattle.gm_flat.specs.declared.entry.What.TheVariants.{Enter, Flush, Miss, Sample, Look, Get, Install, Retry, Touch, Left, Judge, Acked, Change, Page, End, Answer, Free, Gone}
use Rattle.gm_text.specs.Text.{what_text, access_text, backing_text}
use Rattle.gm_history.specs.Cuts.{strip}
use Rattle.gm_history.specs.Numerals.{Got, got, with_got, with_rest}
use Rattle.gm_history.specs.Ranges.{IsAimRanged, IsBackingRanged}
use Rattle.gm_history.specs.Fields.{U64, U32, U16, PageNumber, Maybe, OfKind, OfLevel, Bit, OfErrno, OfSpan, Nothing, part_text}
use Rattle.gm_history.specs.Patterns.{Piece, Say, Holes, AreHolesRanged, weave, ended, whole}
use Rattle.gm_history.specs.Whats.{folio, bare_of, aim, read_pieces, write_pieces, read_at, write_at, or_got, access_at, user_at, folio_at, backing_at, touch_pieces, touch_on, region_pieces, slot_pieces, touch_of, miss_of, sample_of, look_of, get_user_of, get_folio_of, install_of, fault_of, mmio_of, create_of, region_of, attrs_of, punch_of, allocate_of, close_of, populate_of, poke_of, peek_of, file_of, filed_slot_of, plain_slot_of, mark_of, noslot_of, move_of, attr_of, cut_line_of, shut_of, word_of, added_of, good_of, refused_of, free_of, or_else, bare_line_of, fault_line_of, call_of, effect_of, reply_line_of, begin_of, what_of}
use Rattle.gm_history.proofs.FieldReads.{some_is, strip_sound, with_got_sound, with_rest_sound}
use Rattle.gm_history.proofs.Weaving.{parse_sound, whole_sound, ended_sound}
use Rattle.gm_history.proofs.SpanReads.{begin_sound}
use Rattle.gm_history.proofs.Says.{Said, said_on}

four : decimal 4096 ≡ codes "4096"
unfolding digits
four = refl

naught : decimal 0 ≡ codes "0"
unfolding digits
naught = refl

case_sound : (pieces : List Piece) (build : Holes pieces → What) (line : List ℕ) (w : What) → ((h : Holes pieces) → AreHolesRanged pieces h → Said (weave pieces h) (build h)) → whole pieces build line ≡ Some w → Said line w
case_sound pieces build line w says e =
    let f = whole_sound pieces build line w e in
    subst (λ (v : What). Said line v) f.value (said_on (build f.holes) (weave pieces f.holes) line (sym f.text) (says f.holes f.ranged))

or_sound : (a b : Option What) (w : What) (P : Type 0) → (a ≡ Some w → P) → (b ≡ Some w → P) → or_else a b ≡ Some w → P
or_sound (Some v) b w P f g e = f e
or_sound None b w P f g e = g e

-- accesses and backings
abbrev pub AccessRead : List ℕ → Got Aim → Type 0
AccessRead bytes g = (bytes ≡ access_text g.value ++ g.rest) × IsAimRanged g.value

read_sound : (bytes : List ℕ) (g : Got Aim) → read_at bytes ≡ Some g → AccessRead bytes g
unfolding read_at
read_sound bytes g e =
    let f = parse_sound read_pieces bytes (λ h rest. Some (got (aim h.1.0 Read h.0) rest)) g e in
    subst (AccessRead bytes) (some_is f.value) (f.text, (f.ranged.1.0.0, f.ranged.1.0.1, tt))

write_sound : (bytes : List ℕ) (g : Got Aim) → write_at bytes ≡ Some g → AccessRead bytes g
unfolding write_at
write_sound bytes g e =
    let f = parse_sound write_pieces bytes (λ h rest. Some (got (aim h.1.0 (Write h.1.1.0) h.0) rest)) g e in
    subst (AccessRead bytes) (some_is f.value) (f.text, (f.ranged.1.0.0, f.ranged.1.0.1, f.ranged.1.1.0))

or_got_sound : {A : Type 0} (a b : Option (Got A)) (g : Got A) (P : Type 0) → (a ≡ Some g → P) → (b ≡ Some g → P) → or_got a b ≡ Some g → P
or_got_sound (Some v) b g P p q e = p e
or_got_sound None b g P p q e = q e

pub access_sound : (bytes : List ℕ) (g : Got Aim) → access_at bytes ≡ Some g → AccessRead bytes g
unfolding access_at
access_sound bytes g e = or_got_sound (read_at bytes) (write_at bytes) g (AccessRead bytes g) (read_sound bytes g) (write_sound bytes g) e

abbrev BackingRead : List ℕ → Got Backing → Type 0
BackingRead bytes g = (bytes ≡ backing_text g.value ++ g.rest) × IsBackingRanged g.value

user_sound : (bytes : List ℕ) (g : Got Backing) → user_at bytes ≡ Some g → BackingRead bytes g
unfolding user_at
user_sound bytes g e =
    let f = parse_sound (Say (codes "user=") U64 ∷ []) bytes (λ h rest. Some (got (User h.0) rest)) g e in
    subst (BackingRead bytes) (some_is f.value) (f.text, f.ranged.0)

folio_sound : (bytes : List ℕ) (g : Got Backing) → folio_at bytes ≡ Some g → BackingRead bytes g
unfolding folio_at
folio_sound bytes g e =
    let f = parse_sound (Say (codes "serial=") U64 ∷ Say (codes " frame=") U32 ∷ []) bytes (λ h rest. Some (got (InFolio (folio h.0 h.1.0)) rest)) g e in
    subst (BackingRead bytes) (some_is f.value) (f.text, (f.ranged.0, f.ranged.1.0))

backing_sound : (bytes : List ℕ) (g : Got Backing) → backing_at bytes ≡ Some g → BackingRead bytes g
unfolding backing_at
backing_sound bytes g e = or_got_sound (user_at bytes) (folio_at bytes) g (BackingRead bytes g) (user_sound bytes g) (folio_sound bytes g) e

miss_sound : (line : List ℕ) (w : What) → miss_of line ≡ Some w → Said line w
unfolding miss_of
miss_sound line w e =
    let a = with_rest_sound (strip (codes "miss ") line) (λ rest. with_got (access_at rest) (λ access more. ended (Miss access) more)) w e in
    let b = with_got_sound (access_at a.0) (λ access more. ended (Miss access) more) w a.2 in
    let c = access_sound a.0 b.0 b.1 in
    let d = ended_sound (Miss b.0.value) b.0.rest w b.2 in
    let text : line ≡ codes "miss " ++ access_text b.0.value = strip_sound (codes "miss ") line a.0 a.1 ∙ ap (λ (l : List ℕ). codes "miss " ++ l) (c.0 ∙ ap (λ (l : List ℕ). access_text b.0.value ++ l) d.0 ∙ append-nil (access_text b.0.value)) in
    subst (λ (v : What). Said line v) d.1 (record { text = sym text; plain = tt; ranged = c.1 })

touch_sound : (line : List ℕ) (w : What) → touch_of line ≡ Some w → Said line w
unfolding touch_of
touch_sound line w e =
    let a = with_rest_sound (strip (codes "touch ") line) (λ a. with_got (access_at a) (λ access b. with_rest (strip (codes " ") b) (λ c. with_got (backing_at c) (λ backing d. touch_on access backing d)))) w e in
    let b = with_got_sound (access_at a.0) (λ access b. with_rest (strip (codes " ") b) (λ c. with_got (backing_at c) (λ backing d. touch_on access backing d))) w a.2 in
    let access : Aim = b.0.value in
    let c = with_rest_sound (strip (codes " ") b.0.rest) (λ c. with_got (backing_at c) (λ backing d. touch_on access backing d)) w b.2 in
    let d = with_got_sound (backing_at c.0) (λ backing d. touch_on access backing d) w c.2 in
    let backing : Backing = d.0.value in
    let f = whole_sound touch_pieces (λ h. Touch access backing h.0 h.1.0 h.1.1.0) d.0.rest w d.2 in
    let p = access_sound a.0 b.0 b.1 in
    let q = backing_sound c.0 d.0 d.1 in
    let one : line ≡ codes "touch " ++ a.0 = strip_sound (codes "touch ") line a.0 a.1 in
    let two : a.0 ≡ access_text access ++ b.0.rest = p.0 in
    let three : b.0.rest ≡ codes " " ++ c.0 = strip_sound (codes " ") b.0.rest c.0 c.1 in
    let last : c.0 ≡ backing_text backing ++ weave touch_pieces f.holes = q.0 ∙ ap (λ (l : List ℕ). backing_text backing ++ l) f.text in
    let text : line ≡ codes "touch " ++ (access_text access ++ (codes " " ++ (backing_text backing ++ weave touch_pieces f.holes))) = one ∙ ap (λ (l : List ℕ). codes "touch " ++ l) (two ∙ ap (λ (l : List ℕ). access_text access ++ l) (three ∙ ap (λ (l : List ℕ). codes " " ++ l) last)) in
    subst (λ (v : What). Said line v) f.value (record { text = sym text; plain = tt; ranged = (p.1, q.1, f.ranged.1.0, f.ranged.1.1.0) })

attr_text : (s : Extent) (k : Kind) → what_text (Change (Attr s k)) ≡ weave (Say (codes "change attr ") OfSpan ∷ Say (codes " ") OfKind ∷ []) (s, (k, tt))
attr_text s k = ap (λ (l : List ℕ). codes "change attr " ++ l) (sym (append_assoc (decimal s.lo) (codes "-" ++ decimal s.hi) (codes " " ++ (part_text OfKind k ++ []))))

sample_sound : (line : List ℕ) (w : What) → sample_of line ≡ Some w → Said line w
unfolding sample_of
sample_sound line w e = case_sound ((Say (codes "sample at=") U64 ∷ [])) (λ h. Sample h.0) line w (λ h r. record { text = refl; plain = tt; ranged = r.0 }) e

look_sound : (line : List ℕ) (w : What) → look_of line ≡ Some w → Said line w
unfolding look_of
look_sound line w e = case_sound ((Say (codes "look at=") U64 ∷ Say (codes " slot=") Maybe ∷ Say (codes " attr=") OfKind ∷ Say (codes " file=") Maybe ∷ [])) (λ h. Look h.0 h.1.0 h.1.1.0 h.1.1.1.0) line w (λ h r. record { text = refl; plain = tt; ranged = (r.0, r.1.0, r.1.1.1.0) }) e

get_user_sound : (line : List ℕ) (w : What) → get_user_of line ≡ Some w → Said line w
unfolding get_user_of
get_user_sound line w e = case_sound ((Say (codes "get user=") U64 ∷ [])) (λ h. Get (User h.0) 0) line w (λ h r. record { text = refl; plain = refl; ranged = (r.0, (omega arith)) }) e

get_folio_sound : (line : List ℕ) (w : What) → get_folio_of line ≡ Some w → Said line w
unfolding get_folio_of
get_folio_sound line w e = case_sound ((Say (codes "get serial=") U64 ∷ Say (codes " frame=") U32 ∷ Say (codes " fresh=") U16 ∷ [])) (λ h. Get (InFolio (folio h.0 h.1.0)) h.1.1.0) line w (λ h r. record { text = refl; plain = tt; ranged = ((r.0, r.1.0), r.1.1.0) }) e

install_sound : (line : List ℕ) (w : What) → install_of line ≡ Some w → Said line w
unfolding install_of
install_sound line w e = case_sound ((Say (codes "install page=") PageNumber ∷ Say (codes " level=") OfLevel ∷ [])) (λ h. Install h.0 h.1.0) line w (λ h r. record { text = refl; plain = tt; ranged = r.0 }) e

fault_sound : (line : List ℕ) (w : What) → fault_of line ≡ Some w → Said line w
unfolding fault_of
fault_sound line w e = case_sound ((Say (codes "exit reason=39 errno=14 flags=") U64 ∷ Say (codes " gpa=") U64 ∷ Say (codes " size=4096") Nothing ∷ [])) (λ h. Left (Fault h.0 h.1.0 4096)) line w (λ h r. record { text = ap (λ (l : List ℕ). codes "exit reason=39 errno=14 flags=" ++ (decimal h.0 ++ (codes " gpa=" ++ (decimal h.1.0 ++ (codes " size=" ++ (l ++ [])))))) four; plain = refl; ranged = (r.0, r.1.0, (omega arith)) }) e

mmio_sound : (line : List ℕ) (w : What) → mmio_of line ≡ Some w → Said line w
unfolding mmio_of
mmio_sound line w e = case_sound ((Say (codes "exit reason=6 gpa=") U64 ∷ [])) (λ h. Left (Mmio h.0)) line w (λ h r. record { text = refl; plain = tt; ranged = r.0 }) e

create_sound : (line : List ℕ) (w : What) → create_of line ≡ Some w → Said line w
unfolding create_of
create_sound line w e = case_sound ((Say (codes "judge create ") U64 ∷ Say (codes " ") U64 ∷ [])) (λ h. Judge (Create h.0 h.1.0)) line w (λ h r. record { text = refl; plain = tt; ranged = (r.0, r.1.0) }) e

region_sound : (line : List ℕ) (w : What) → region_of line ≡ Some w → Said line w
unfolding region_of
region_sound line w e = case_sound (region_pieces) (λ h. Judge (Region2 (record { slot = h.0; flags = h.1.0; gpa = h.1.1.0; size = h.1.1.1.0; user = h.1.1.1.1.0; fd = h.1.1.1.1.1.0; offset = h.1.1.1.1.1.1.0 }))) line w (λ h r. record { text = refl; plain = tt; ranged = (r.0, r.1.0, r.1.1.0, r.1.1.1.0, r.1.1.1.1.0, r.1.1.1.1.1.0, r.1.1.1.1.1.1.0) }) e

attrs_sound : (line : List ℕ) (w : What) → attrs_of line ≡ Some w → Said line w
unfolding attrs_of
attrs_sound line w e = case_sound ((Say (codes "judge attrs ") U64 ∷ Say (codes " ") U64 ∷ Say (codes " ") U64 ∷ Say (codes " ") U64 ∷ [])) (λ h. Judge (Attrs h.0 h.1.0 h.1.1.0 h.1.1.1.0)) line w (λ h r. record { text = refl; plain = tt; ranged = (r.0, r.1.0, r.1.1.0, r.1.1.1.0) }) e

punch_sound : (line : List ℕ) (w : What) → punch_of line ≡ Some w → Said line w
unfolding punch_of
punch_sound line w e = case_sound ((Say (codes "judge punch ") U32 ∷ Say (codes " ") U64 ∷ Say (codes " ") U64 ∷ [])) (λ h. Judge (Punch h.0 h.1.0 h.1.1.0)) line w (λ h r. record { text = refl; plain = tt; ranged = (r.0, r.1.0, r.1.1.0) }) e

allocate_sound : (line : List ℕ) (w : What) → allocate_of line ≡ Some w → Said line w
unfolding allocate_of
allocate_sound line w e = case_sound ((Say (codes "judge allocate ") U32 ∷ Say (codes " ") U64 ∷ Say (codes " ") U64 ∷ [])) (λ h. Judge (Allocate h.0 h.1.0 h.1.1.0)) line w (λ h r. record { text = refl; plain = tt; ranged = (r.0, r.1.0, r.1.1.0) }) e

close_sound : (line : List ℕ) (w : What) → close_of line ≡ Some w → Said line w
unfolding close_of
close_sound line w e = case_sound ((Say (codes "judge close ") U32 ∷ [])) (λ h. Judge (Close h.0)) line w (λ h r. record { text = refl; plain = tt; ranged = r.0 }) e

populate_sound : (line : List ℕ) (w : What) → populate_of line ≡ Some w → Said line w
unfolding populate_of
populate_sound line w e = case_sound ((Say (codes "judge populate ") U64 ∷ Say (codes " ") U64 ∷ Say (codes " ") U64 ∷ [])) (λ h. Judge (Populate h.0 h.1.0 h.1.1.0)) line w (λ h r. record { text = refl; plain = tt; ranged = (r.0, r.1.0, r.1.1.0) }) e

poke_sound : (line : List ℕ) (w : What) → poke_of line ≡ Some w → Said line w
unfolding poke_of
poke_sound line w e = case_sound ((Say (codes "judge poke ") U64 ∷ Say (codes " ") U64 ∷ [])) (λ h. Judge (Poke h.0 h.1.0)) line w (λ h r. record { text = refl; plain = tt; ranged = (r.0, r.1.0) }) e

peek_sound : (line : List ℕ) (w : What) → peek_of line ≡ Some w → Said line w
unfolding peek_of
peek_sound line w e = case_sound ((Say (codes "judge peek ") U64 ∷ [])) (λ h. Judge (Peek h.0)) line w (λ h r. record { text = refl; plain = tt; ranged = r.0 }) e

file_sound : (line : List ℕ) (w : What) → file_of line ≡ Some w → Said line w
unfolding file_of
file_sound line w e = case_sound ((Say (codes "change file ") U32 ∷ Say (codes " pages=") U64 ∷ Say (codes " block=") Bit ∷ [])) (λ h. Change (File h.0 h.1.0 h.1.1.0)) line w (λ h r. record { text = refl; plain = tt; ranged = (r.0, r.1.0) }) e

filed_slot_sound : (line : List ℕ) (w : What) → filed_slot_of line ≡ Some w → Said line w
unfolding filed_slot_of
filed_slot_sound line w e = case_sound ((slot_pieces (Say (codes " file=") U32 ∷ Say (codes " index=") U64 ∷ []))) (λ h. Change (Slot h.0 h.1.0 h.1.1.0 h.1.1.1.0 h.1.1.1.1.0 (Some h.1.1.1.1.1.0) h.1.1.1.1.1.1.0)) line w (λ h r. record { text = refl; plain = tt; ranged = (r.0, r.1.0, r.1.1.0, r.1.1.1.0, r.1.1.1.1.0, r.1.1.1.1.1.0, r.1.1.1.1.1.1.0) }) e

plain_slot_sound : (line : List ℕ) (w : What) → plain_slot_of line ≡ Some w → Said line w
unfolding plain_slot_of
plain_slot_sound line w e = case_sound ((slot_pieces (Say (codes " file=- index=0") Nothing ∷ []))) (λ h. Change (Slot h.0 h.1.0 h.1.1.0 h.1.1.1.0 h.1.1.1.1.0 None 0)) line w (λ h r. record { text = ap (λ (l : List ℕ). codes "change slot " ++ (decimal h.0 ++ (codes " base=" ++ (decimal h.1.0 ++ (codes " pages=" ++ (decimal h.1.1.0 ++ (codes " user=" ++ (decimal h.1.1.1.0 ++ (codes " flags=" ++ (decimal h.1.1.1.1.0 ++ (codes " file=" ++ (codes "-" ++ (codes " index=" ++ (l ++ [])))))))))))))) naught; plain = refl; ranged = (r.0, r.1.0, r.1.1.0, r.1.1.1.0, r.1.1.1.1.0, tt, (omega arith)) }) e

mark_sound : (line : List ℕ) (w : What) → mark_of line ≡ Some w → Said line w
unfolding mark_of
mark_sound line w e = case_sound ((Say (codes "change mark ") U32 ∷ [])) (λ h. Change (Mark h.0)) line w (λ h r. record { text = refl; plain = tt; ranged = r.0 }) e

noslot_sound : (line : List ℕ) (w : What) → noslot_of line ≡ Some w → Said line w
unfolding noslot_of
noslot_sound line w e = case_sound ((Say (codes "change noslot ") U32 ∷ [])) (λ h. Change (NoSlot h.0)) line w (λ h r. record { text = refl; plain = tt; ranged = r.0 }) e

move_sound : (line : List ℕ) (w : What) → move_of line ≡ Some w → Said line w
unfolding move_of
move_sound line w e = case_sound ((Say (codes "change move ") U32 ∷ Say (codes " base=") U64 ∷ [])) (λ h. Change (Move h.0 h.1.0)) line w (λ h r. record { text = refl; plain = tt; ranged = (r.0, r.1.0) }) e

attr_sound : (line : List ℕ) (w : What) → attr_of line ≡ Some w → Said line w
unfolding attr_of
attr_sound line w e = case_sound ((Say (codes "change attr ") OfSpan ∷ Say (codes " ") OfKind ∷ [])) (λ h. Change (Attr h.0 h.1.0)) line w (λ h r. record { text = attr_text h.0 h.1.0; plain = tt; ranged = r.0 }) e

cut_line_sound : (line : List ℕ) (w : What) → cut_line_of line ≡ Some w → Said line w
unfolding cut_line_of
cut_line_sound line w e = case_sound ((Say (codes "change cut ") U32 ∷ Say (codes " ") U64 ∷ Say (codes "-") U64 ∷ [])) (λ h. Change (Cut h.0 h.1.0 h.1.1.0)) line w (λ h r. record { text = refl; plain = tt; ranged = (r.0, r.1.0, r.1.1.0) }) e

shut_sound : (line : List ℕ) (w : What) → shut_of line ≡ Some w → Said line w
unfolding shut_of
shut_sound line w e = case_sound ((Say (codes "change shut ") U32 ∷ [])) (λ h. Change (Shut h.0)) line w (λ h r. record { text = refl; plain = tt; ranged = r.0 }) e

word_sound : (line : List ℕ) (w : What) → word_of line ≡ Some w → Said line w
unfolding word_of
word_sound line w e = case_sound ((Say (codes "change word page=") U64 ∷ Say (codes " word=") U16 ∷ Say (codes " value=") U64 ∷ [])) (λ h. Change (Word h.0 h.1.0 h.1.1.0)) line w (λ h r. record { text = refl; plain = tt; ranged = (r.0, r.1.0, r.1.1.0) }) e

added_sound : (line : List ℕ) (w : What) → added_of line ≡ Some w → Said line w
unfolding added_of
added_sound line w e = case_sound ((Say (codes "page index=") U64 ∷ Say (codes " serial=") U64 ∷ Say (codes " frame=") U32 ∷ Say (codes " pages=") U16 ∷ [])) (λ h. Page h.0 (folio h.1.0 h.1.1.0) h.1.1.1.0) line w (λ h r. record { text = refl; plain = tt; ranged = (r.0, (r.1.0, r.1.1.0), r.1.1.1.0) }) e

good_sound : (line : List ℕ) (w : What) → good_of line ≡ Some w → Said line w
unfolding good_of
good_sound line w e = case_sound ((Say (codes "answer ok=") U64 ∷ [])) (λ h. Answer (Good h.0)) line w (λ h r. record { text = refl; plain = tt; ranged = r.0 }) e

refused_sound : (line : List ℕ) (w : What) → refused_of line ≡ Some w → Said line w
unfolding refused_of
refused_sound line w e = case_sound ((Say (codes "answer errno=") OfErrno ∷ [])) (λ h. Answer (Bad h.0)) line w (λ h r. record { text = refl; plain = tt; ranged = tt }) e

free_sound : (line : List ℕ) (w : What) → free_of line ≡ Some w → Said line w
unfolding free_of
free_sound line w e = case_sound ((Say (codes "free serial=") U64 ∷ Say (codes " frame=") U32 ∷ Say (codes " pages=") U32 ∷ [])) (λ h. Free (folio h.0 h.1.0) h.1.1.0) line w (λ h r. record { text = refl; plain = tt; ranged = ((r.0, r.1.0), r.1.1.0) }) e

bare_sound : (word : List ℕ) (what : What) (line : List ℕ) (w : What) → Said word what → bare_of word what line ≡ Some w → Said line w
unfolding bare_of
bare_sound word what line w s e = case_sound (Say word Nothing ∷ []) (λ h. what) line w (λ h r. said_on what word (word ++ []) (sym (append-nil word)) s) e

fault_line_sound : (line : List ℕ) (w : What) → fault_line_of line ≡ Some w → Said line w
unfolding fault_line_of
fault_line_sound line w e = (or_sound (touch_of line) (or_else (miss_of line) (or_else (sample_of line) (or_else (look_of line) (or_else (get_user_of line) (or_else (get_folio_of line) (or_else (install_of line) (or_else (fault_of line) (mmio_of line)))))))) w (Said line w) (touch_sound line w) (or_sound (miss_of line) (or_else (sample_of line) (or_else (look_of line) (or_else (get_user_of line) (or_else (get_folio_of line) (or_else (install_of line) (or_else (fault_of line) (mmio_of line))))))) w (Said line w) (miss_sound line w) (or_sound (sample_of line) (or_else (look_of line) (or_else (get_user_of line) (or_else (get_folio_of line) (or_else (install_of line) (or_else (fault_of line) (mmio_of line)))))) w (Said line w) (sample_sound line w) (or_sound (look_of line) (or_else (get_user_of line) (or_else (get_folio_of line) (or_else (install_of line) (or_else (fault_of line) (mmio_of line))))) w (Said line w) (look_sound line w) (or_sound (get_user_of line) (or_else (get_folio_of line) (or_else (install_of line) (or_else (fault_of line) (mmio_of line)))) w (Said line w) (get_user_sound line w) (or_sound (get_folio_of line) (or_else (install_of line) (or_else (fault_of line) (mmio_of line))) w (Said line w) (get_folio_sound line w) (or_sound (install_of line) (or_else (fault_of line) (mmio_of line)) w (Said line w) (install_sound line w) (or_sound (fault_of line) (mmio_of line) w (Said line w) (fault_sound line w) (mmio_sound line w))))))))) e

bare_line_sound : (line : List ℕ) (w : What) → bare_line_of line ≡ Some w → Said line w
unfolding bare_line_of
bare_line_sound line w e = (or_sound (bare_of (codes "enter") Enter line) (or_else (bare_of (codes "flush") Flush line) (or_else (bare_of (codes "retry") Retry line) (or_else (bare_of (codes "acked") Acked line) (or_else (bare_of (codes "end") End line) (or_else (bare_of (codes "gone") Gone line) (bare_of (codes "exit errno=12") (Left NoFrame) line)))))) w (Said line w) (bare_sound (codes "enter") Enter line w (record { text = refl; plain = tt; ranged = tt })) (or_sound (bare_of (codes "flush") Flush line) (or_else (bare_of (codes "retry") Retry line) (or_else (bare_of (codes "acked") Acked line) (or_else (bare_of (codes "end") End line) (or_else (bare_of (codes "gone") Gone line) (bare_of (codes "exit errno=12") (Left NoFrame) line))))) w (Said line w) (bare_sound (codes "flush") Flush line w (record { text = refl; plain = tt; ranged = tt })) (or_sound (bare_of (codes "retry") Retry line) (or_else (bare_of (codes "acked") Acked line) (or_else (bare_of (codes "end") End line) (or_else (bare_of (codes "gone") Gone line) (bare_of (codes "exit errno=12") (Left NoFrame) line)))) w (Said line w) (bare_sound (codes "retry") Retry line w (record { text = refl; plain = tt; ranged = tt })) (or_sound (bare_of (codes "acked") Acked line) (or_else (bare_of (codes "end") End line) (or_else (bare_of (codes "gone") Gone line) (bare_of (codes "exit errno=12") (Left NoFrame) line))) w (Said line w) (bare_sound (codes "acked") Acked line w (record { text = refl; plain = tt; ranged = tt })) (or_sound (bare_of (codes "end") End line) (or_else (bare_of (codes "gone") Gone line) (bare_of (codes "exit errno=12") (Left NoFrame) line)) w (Said line w) (bare_sound (codes "end") End line w (record { text = refl; plain = tt; ranged = tt })) (or_sound (bare_of (codes "gone") Gone line) (bare_of (codes "exit errno=12") (Left NoFrame) line) w (Said line w) (bare_sound (codes "gone") Gone line w (record { text = refl; plain = tt; ranged = tt })) (bare_sound (codes "exit errno=12") (Left NoFrame) line w (record { text = refl; plain = tt; ranged = tt })))))))) e

call_sound : (line : List ℕ) (w : What) → call_of line ≡ Some w → Said line w
unfolding call_of
call_sound line w e = (or_sound (create_of line) (or_else (region_of line) (or_else (attrs_of line) (or_else (punch_of line) (or_else (allocate_of line) (or_else (close_of line) (or_else (populate_of line) (or_else (poke_of line) (peek_of line)))))))) w (Said line w) (create_sound line w) (or_sound (region_of line) (or_else (attrs_of line) (or_else (punch_of line) (or_else (allocate_of line) (or_else (close_of line) (or_else (populate_of line) (or_else (poke_of line) (peek_of line))))))) w (Said line w) (region_sound line w) (or_sound (attrs_of line) (or_else (punch_of line) (or_else (allocate_of line) (or_else (close_of line) (or_else (populate_of line) (or_else (poke_of line) (peek_of line)))))) w (Said line w) (attrs_sound line w) (or_sound (punch_of line) (or_else (allocate_of line) (or_else (close_of line) (or_else (populate_of line) (or_else (poke_of line) (peek_of line))))) w (Said line w) (punch_sound line w) (or_sound (allocate_of line) (or_else (close_of line) (or_else (populate_of line) (or_else (poke_of line) (peek_of line)))) w (Said line w) (allocate_sound line w) (or_sound (close_of line) (or_else (populate_of line) (or_else (poke_of line) (peek_of line))) w (Said line w) (close_sound line w) (or_sound (populate_of line) (or_else (poke_of line) (peek_of line)) w (Said line w) (populate_sound line w) (or_sound (poke_of line) (peek_of line) w (Said line w) (poke_sound line w) (peek_sound line w))))))))) e

effect_sound : (line : List ℕ) (w : What) → effect_of line ≡ Some w → Said line w
unfolding effect_of
effect_sound line w e = (or_sound (file_of line) (or_else (filed_slot_of line) (or_else (plain_slot_of line) (or_else (mark_of line) (or_else (noslot_of line) (or_else (move_of line) (or_else (attr_of line) (or_else (cut_line_of line) (or_else (shut_of line) (word_of line))))))))) w (Said line w) (file_sound line w) (or_sound (filed_slot_of line) (or_else (plain_slot_of line) (or_else (mark_of line) (or_else (noslot_of line) (or_else (move_of line) (or_else (attr_of line) (or_else (cut_line_of line) (or_else (shut_of line) (word_of line)))))))) w (Said line w) (filed_slot_sound line w) (or_sound (plain_slot_of line) (or_else (mark_of line) (or_else (noslot_of line) (or_else (move_of line) (or_else (attr_of line) (or_else (cut_line_of line) (or_else (shut_of line) (word_of line))))))) w (Said line w) (plain_slot_sound line w) (or_sound (mark_of line) (or_else (noslot_of line) (or_else (move_of line) (or_else (attr_of line) (or_else (cut_line_of line) (or_else (shut_of line) (word_of line)))))) w (Said line w) (mark_sound line w) (or_sound (noslot_of line) (or_else (move_of line) (or_else (attr_of line) (or_else (cut_line_of line) (or_else (shut_of line) (word_of line))))) w (Said line w) (noslot_sound line w) (or_sound (move_of line) (or_else (attr_of line) (or_else (cut_line_of line) (or_else (shut_of line) (word_of line)))) w (Said line w) (move_sound line w) (or_sound (attr_of line) (or_else (cut_line_of line) (or_else (shut_of line) (word_of line))) w (Said line w) (attr_sound line w) (or_sound (cut_line_of line) (or_else (shut_of line) (word_of line)) w (Said line w) (cut_line_sound line w) (or_sound (shut_of line) (word_of line) w (Said line w) (shut_sound line w) (word_sound line w)))))))))) e

reply_line_sound : (line : List ℕ) (w : What) → reply_line_of line ≡ Some w → Said line w
unfolding reply_line_of
reply_line_sound line w e = (or_sound (added_of line) (or_else (good_of line) (or_else (refused_of line) (free_of line))) w (Said line w) (added_sound line w) (or_sound (good_of line) (or_else (refused_of line) (free_of line)) w (Said line w) (good_sound line w) (or_sound (refused_of line) (free_of line) w (Said line w) (refused_sound line w) (free_sound line w)))) e

pub what_sound : (line : List ℕ) (w : What) → what_of line ≡ Some w → Said line w
unfolding what_of
what_sound line w e = (or_sound (fault_line_of line) (or_else (bare_line_of line) (or_else (call_of line) (or_else (effect_of line) (or_else (reply_line_of line) (begin_of line))))) w (Said line w) (fault_line_sound line w) (or_sound (bare_line_of line) (or_else (call_of line) (or_else (effect_of line) (or_else (reply_line_of line) (begin_of line)))) w (Said line w) (bare_line_sound line w) (or_sound (call_of line) (or_else (effect_of line) (or_else (reply_line_of line) (begin_of line))) w (Said line w) (call_sound line w) (or_sound (effect_of line) (or_else (reply_line_of line) (begin_of line)) w (Said line w) (effect_sound line w) (or_sound (reply_line_of line) (begin_of line) w (Said line w) (reply_line_sound line w) (begin_sound line w)))))) e
