-- The text of what an entry says is read back.
use Rattle.std.proofs.Common.{◌≡◌, ℕ, List, [], ◌∷◌, ◌++◌, Option, None, Some, refl, sym, ◌∙◌, ap, append_assoc, append-nil, arith}
use Rattle.std.specs.Prelude.{codes}
use Rattle.std.specs.Fmt.{decimal, digits}
use Rattle.gm_base.specs.Aim.{Aim}
use Rattle.gm_base.specs.Extent.{Extent}
use Rattle.gm_base.specs.declared.calls.Ioctl.TheVariants.{Create, Region2, Attrs, Punch, Allocate, Close, Populate, Poke, Peek}
use Rattle.gm_base.specs.declared.values.Kind.{Kind}
use Rattle.gm_base.specs.declared.values.Op.{Op}
use Rattle.gm_base.specs.declared.values.Op.TheVariants.{Read, Write}
use Rattle.gm_flat.specs.Plain.{IsPlainWhat}
use Rattle.gm_flat.specs.InTypes.{roomless}
use Rattle.gm_flat.specs.declared.effect.Backing.{Backing}
use Rattle.gm_flat.specs.declared.effect.Backing.TheVariants.{User, Folio as InFolio}
use Rattle.gm_flat.specs.declared.effect.Effect.TheVariants.{File, Slot, Mark, NoSlot, Move, Attr, Cut, Shut, Word}
use Rattle.gm_flat.specs.declared.effect.Exit.TheVariants.{Fault, Mmio, NoFrame}
use Rattle.gm_flat.specs.declared.effect.Reply.TheVariants.{Good, Bad}
use Rattle.gm_flat.specs.declared.entry.What.{What}
use Rattle.gm_flat.specs.declared.entry.What.TheVariants.{Enter, Flush, Miss, Sample, Look, Get, Install, Retry, Touch, Left, Judge, Begin, Acked, Change, Page, End, Answer, Free, Gone}
use Rattle.gm_text.specs.Text.{what_text, access_text, backing_text}
use Rattle.gm_history.specs.Cuts.{strip}
use Rattle.gm_history.specs.Numerals.{Got, got, with_got, with_rest, number_at}
use Rattle.gm_history.specs.Ranges.{IsWhatRanged, IsAimRanged, IsBackingRanged, IsU64}
use Rattle.gm_history.specs.Fields.{U64, U32, U16, PageNumber, Maybe, OfKind, OfLevel, Bit, OfErrno, OfSpan, Nothing, after, small_at, part_text}
use Rattle.gm_history.specs.Patterns.{Say, Holes, AreHolesRanged, weave, parse, ended, whole}
use Rattle.gm_history.specs.Whats.{folio, bare_of, aim, read_pieces, write_pieces, read_at, write_at, or_got, access_at, user_at, folio_at, backing_at, touch_pieces, touch_on, region_pieces, slot_pieces, touch_of, miss_of, sample_of, look_of, get_user_of, get_folio_of, install_of, fault_of, mmio_of, create_of, region_of, attrs_of, punch_of, allocate_of, close_of, populate_of, poke_of, peek_of, file_of, filed_slot_of, plain_slot_of, mark_of, noslot_of, move_of, attr_of, cut_line_of, shut_of, word_of, added_of, good_of, refused_of, free_of, or_else, bare_line_of, fault_line_of, call_of, effect_of, reply_line_of, begin_of, what_of}
use Rattle.gm_history.proofs.FieldReads.{strip_gives}
use Rattle.gm_history.proofs.NumberReads.{NoDigit}
use Rattle.gm_history.proofs.SpanReads.{begin_gives}
use Rattle.gm_history.proofs.Weaving.{parse_gives, whole_gives, parse_more}

four : decimal 4096 ≡ codes "4096"
unfolding digits
four = refl

naught : decimal 0 ≡ codes "0"
unfolding digits
naught = refl

hit : {A : Type 0} (a b : Option A) (v : A) → a ≡ Some v → or_else a b ≡ Some v
hit a b v e = ap (λ (o : Option _). or_else o b) e

-- within a group and among the groups
hit_in : (a b c : Option What) (v : What) → a ≡ Some v → or_else (or_else a b) c ≡ Some v
hit_in a b c v e = ap (λ (o : Option What). or_else (or_else o b) c) e

access_by : (op : Op) (page word : ℕ) (kind : Kind) (x : List ℕ) → IsAimRanged (record { page = page; word = word; op = op; kind = kind }) → NoDigit x → access_at (access_text (record { page = page; word = word; op = op; kind = kind }) ++ x) ≡ Some (got (record { page = page; word = word; op = op; kind = kind }) x)
unfolding access_at read_at write_at after strip
access_by Read page word kind x r d = ap (λ (o : Option (Got Aim)). or_got o (write_at (access_text (record { page = page; word = word; op = Read; kind = kind }) ++ x))) (parse_gives read_pieces (kind, (record { page = page; word = word }, tt)) x (λ h rest. Some (got (aim h.1.0 Read h.0) rest)) (tt, ((r.0, r.1), tt)) refl d)
access_by (Write value) page word kind x r d = parse_gives write_pieces (kind, (record { page = page; word = word }, (value, tt))) x (λ h rest. Some (got (aim h.1.0 (Write h.1.1.0) h.0) rest)) (tt, ((r.0, r.1), (r.2, tt))) refl d

pub access_gives : (a : Aim) (x : List ℕ) → IsAimRanged a → NoDigit x → access_at (access_text a ++ x) ≡ Some (got a x)
access_gives a x r d = access_by a.op a.page a.word a.kind x r d

backing_gives : (b : Backing) (x : List ℕ) → IsBackingRanged b → NoDigit x → backing_at (backing_text b ++ x) ≡ Some (got b x)
unfolding backing_at user_at folio_at after strip
backing_gives (User page) x r d = ap (λ (o : Option (Got Backing)). or_got o (folio_at (backing_text (User page) ++ x))) (parse_gives (Say (codes "user=") U64 ∷ []) (page, tt) x (λ h rest. Some (got (User h.0) rest)) (r, tt) refl d)
backing_gives (InFolio f) x r d = parse_gives (Say (codes "serial=") U64 ∷ Say (codes " frame=") U32 ∷ []) (f.serial, (f.frame, tt)) x (λ h rest. Some (got (InFolio (folio h.0 h.1.0)) rest)) (r.0, (r.1, tt)) refl d

miss_gives : (a : Aim) → IsAimRanged a → miss_of (what_text (Miss a)) ≡ Some (Miss a)
unfolding miss_of
miss_gives a r =
    ap (λ (o : Option (List ℕ)). with_rest o (λ rest. with_got (access_at rest) (λ access more. ended (Miss access) more))) (strip_gives (codes "miss ") (access_text a))
    ∙ ap (λ (l : List ℕ). with_got (access_at l) (λ access more. ended (Miss access) more)) (sym (append-nil (access_text a)))
    ∙ ap (λ (o : Option (Got Aim)). with_got o (λ access more. ended (Miss access) more)) (access_gives a [] r tt)

touch_gives : (w : What) (a : Aim) (b : Backing) (h : Holes touch_pieces) → w ≡ Touch a b h.0 h.1.0 h.1.1.0 → IsAimRanged a → IsBackingRanged b → AreHolesRanged touch_pieces h → touch_of (codes "touch " ++ (access_text a ++ (codes " " ++ (backing_text b ++ weave touch_pieces h)))) ≡ Some w
unfolding touch_of
touch_gives w a b h e p q r =
    let tail : List ℕ = weave touch_pieces h in
    ap (λ (o : Option (List ℕ)). with_rest o (λ a. with_got (access_at a) (λ access b. with_rest (strip (codes " ") b) (λ c. with_got (backing_at c) (λ backing d. touch_on access backing d))))) (strip_gives (codes "touch ") (access_text a ++ (codes " " ++ (backing_text b ++ tail))))
    ∙ ap (λ (o : Option (Got Aim)). with_got o (λ access b. with_rest (strip (codes " ") b) (λ c. with_got (backing_at c) (λ backing d. touch_on access backing d)))) (access_gives a (codes " " ++ (backing_text b ++ tail)) p refl)
    ∙ ap (λ (o : Option (List ℕ)). with_rest o (λ c. with_got (backing_at c) (λ backing d. touch_on a backing d))) (strip_gives (codes " ") (backing_text b ++ tail))
    ∙ ap (λ (o : Option (Got Backing)). with_got o (λ backing d. touch_on a backing d)) (backing_gives b tail q refl)
    ∙ whole_gives touch_pieces (λ k. Touch a b k.0 k.1.0 k.1.1.0) h r refl
    ∙ ap (λ (v : What). Some v) (sym e)

sample_gives : (h : Holes ((Say (codes "sample at=") U64 ∷ []))) → AreHolesRanged ((Say (codes "sample at=") U64 ∷ [])) h → sample_of (weave ((Say (codes "sample at=") U64 ∷ [])) h) ≡ Some (Sample h.0)
unfolding sample_of
sample_gives h r = whole_gives ((Say (codes "sample at=") U64 ∷ [])) (λ h. Sample h.0) h r refl

look_gives : (h : Holes ((Say (codes "look at=") U64 ∷ Say (codes " slot=") Maybe ∷ Say (codes " attr=") OfKind ∷ Say (codes " file=") Maybe ∷ []))) → AreHolesRanged ((Say (codes "look at=") U64 ∷ Say (codes " slot=") Maybe ∷ Say (codes " attr=") OfKind ∷ Say (codes " file=") Maybe ∷ [])) h → look_of (weave ((Say (codes "look at=") U64 ∷ Say (codes " slot=") Maybe ∷ Say (codes " attr=") OfKind ∷ Say (codes " file=") Maybe ∷ [])) h) ≡ Some (Look h.0 h.1.0 h.1.1.0 h.1.1.1.0)
unfolding look_of
look_gives h r = whole_gives ((Say (codes "look at=") U64 ∷ Say (codes " slot=") Maybe ∷ Say (codes " attr=") OfKind ∷ Say (codes " file=") Maybe ∷ [])) (λ h. Look h.0 h.1.0 h.1.1.0 h.1.1.1.0) h r refl

get_user_gives : (h : Holes ((Say (codes "get user=") U64 ∷ []))) → AreHolesRanged ((Say (codes "get user=") U64 ∷ [])) h → get_user_of (weave ((Say (codes "get user=") U64 ∷ [])) h) ≡ Some (Get (User h.0) 0)
unfolding get_user_of
get_user_gives h r = whole_gives ((Say (codes "get user=") U64 ∷ [])) (λ h. Get (User h.0) 0) h r refl

get_folio_gives : (h : Holes ((Say (codes "get serial=") U64 ∷ Say (codes " frame=") U32 ∷ Say (codes " fresh=") U16 ∷ []))) → AreHolesRanged ((Say (codes "get serial=") U64 ∷ Say (codes " frame=") U32 ∷ Say (codes " fresh=") U16 ∷ [])) h → get_folio_of (weave ((Say (codes "get serial=") U64 ∷ Say (codes " frame=") U32 ∷ Say (codes " fresh=") U16 ∷ [])) h) ≡ Some (Get (InFolio (folio h.0 h.1.0)) h.1.1.0)
unfolding get_folio_of
get_folio_gives h r = whole_gives ((Say (codes "get serial=") U64 ∷ Say (codes " frame=") U32 ∷ Say (codes " fresh=") U16 ∷ [])) (λ h. Get (InFolio (folio h.0 h.1.0)) h.1.1.0) h r refl

install_gives : (h : Holes ((Say (codes "install page=") PageNumber ∷ Say (codes " level=") OfLevel ∷ []))) → AreHolesRanged ((Say (codes "install page=") PageNumber ∷ Say (codes " level=") OfLevel ∷ [])) h → install_of (weave ((Say (codes "install page=") PageNumber ∷ Say (codes " level=") OfLevel ∷ [])) h) ≡ Some (Install h.0 h.1.0)
unfolding install_of
install_gives h r = whole_gives ((Say (codes "install page=") PageNumber ∷ Say (codes " level=") OfLevel ∷ [])) (λ h. Install h.0 h.1.0) h r refl

fault_gives : (h : Holes ((Say (codes "exit reason=39 errno=14 flags=") U64 ∷ Say (codes " gpa=") U64 ∷ Say (codes " size=4096") Nothing ∷ []))) → AreHolesRanged ((Say (codes "exit reason=39 errno=14 flags=") U64 ∷ Say (codes " gpa=") U64 ∷ Say (codes " size=4096") Nothing ∷ [])) h → fault_of (weave ((Say (codes "exit reason=39 errno=14 flags=") U64 ∷ Say (codes " gpa=") U64 ∷ Say (codes " size=4096") Nothing ∷ [])) h) ≡ Some (Left (Fault h.0 h.1.0 4096))
unfolding fault_of
fault_gives h r = whole_gives ((Say (codes "exit reason=39 errno=14 flags=") U64 ∷ Say (codes " gpa=") U64 ∷ Say (codes " size=4096") Nothing ∷ [])) (λ h. Left (Fault h.0 h.1.0 4096)) h r refl

mmio_gives : (h : Holes ((Say (codes "exit reason=6 gpa=") U64 ∷ []))) → AreHolesRanged ((Say (codes "exit reason=6 gpa=") U64 ∷ [])) h → mmio_of (weave ((Say (codes "exit reason=6 gpa=") U64 ∷ [])) h) ≡ Some (Left (Mmio h.0))
unfolding mmio_of
mmio_gives h r = whole_gives ((Say (codes "exit reason=6 gpa=") U64 ∷ [])) (λ h. Left (Mmio h.0)) h r refl

create_gives : (h : Holes ((Say (codes "judge create ") U64 ∷ Say (codes " ") U64 ∷ []))) → AreHolesRanged ((Say (codes "judge create ") U64 ∷ Say (codes " ") U64 ∷ [])) h → create_of (weave ((Say (codes "judge create ") U64 ∷ Say (codes " ") U64 ∷ [])) h) ≡ Some (Judge (Create h.0 h.1.0))
unfolding create_of
create_gives h r = whole_gives ((Say (codes "judge create ") U64 ∷ Say (codes " ") U64 ∷ [])) (λ h. Judge (Create h.0 h.1.0)) h r refl

region_gives : (h : Holes (region_pieces)) → AreHolesRanged (region_pieces) h → region_of (weave (region_pieces) h) ≡ Some (Judge (Region2 (record { slot = h.0; flags = h.1.0; gpa = h.1.1.0; size = h.1.1.1.0; user = h.1.1.1.1.0; fd = h.1.1.1.1.1.0; offset = h.1.1.1.1.1.1.0 })))
unfolding region_of
region_gives h r = whole_gives (region_pieces) (λ h. Judge (Region2 (record { slot = h.0; flags = h.1.0; gpa = h.1.1.0; size = h.1.1.1.0; user = h.1.1.1.1.0; fd = h.1.1.1.1.1.0; offset = h.1.1.1.1.1.1.0 }))) h r refl

attrs_gives : (h : Holes ((Say (codes "judge attrs ") U64 ∷ Say (codes " ") U64 ∷ Say (codes " ") U64 ∷ Say (codes " ") U64 ∷ []))) → AreHolesRanged ((Say (codes "judge attrs ") U64 ∷ Say (codes " ") U64 ∷ Say (codes " ") U64 ∷ Say (codes " ") U64 ∷ [])) h → attrs_of (weave ((Say (codes "judge attrs ") U64 ∷ Say (codes " ") U64 ∷ Say (codes " ") U64 ∷ Say (codes " ") U64 ∷ [])) h) ≡ Some (Judge (Attrs h.0 h.1.0 h.1.1.0 h.1.1.1.0))
unfolding attrs_of
attrs_gives h r = whole_gives ((Say (codes "judge attrs ") U64 ∷ Say (codes " ") U64 ∷ Say (codes " ") U64 ∷ Say (codes " ") U64 ∷ [])) (λ h. Judge (Attrs h.0 h.1.0 h.1.1.0 h.1.1.1.0)) h r refl

punch_gives : (h : Holes ((Say (codes "judge punch ") U32 ∷ Say (codes " ") U64 ∷ Say (codes " ") U64 ∷ []))) → AreHolesRanged ((Say (codes "judge punch ") U32 ∷ Say (codes " ") U64 ∷ Say (codes " ") U64 ∷ [])) h → punch_of (weave ((Say (codes "judge punch ") U32 ∷ Say (codes " ") U64 ∷ Say (codes " ") U64 ∷ [])) h) ≡ Some (Judge (Punch h.0 h.1.0 h.1.1.0))
unfolding punch_of
punch_gives h r = whole_gives ((Say (codes "judge punch ") U32 ∷ Say (codes " ") U64 ∷ Say (codes " ") U64 ∷ [])) (λ h. Judge (Punch h.0 h.1.0 h.1.1.0)) h r refl

allocate_gives : (h : Holes ((Say (codes "judge allocate ") U32 ∷ Say (codes " ") U64 ∷ Say (codes " ") U64 ∷ []))) → AreHolesRanged ((Say (codes "judge allocate ") U32 ∷ Say (codes " ") U64 ∷ Say (codes " ") U64 ∷ [])) h → allocate_of (weave ((Say (codes "judge allocate ") U32 ∷ Say (codes " ") U64 ∷ Say (codes " ") U64 ∷ [])) h) ≡ Some (Judge (Allocate h.0 h.1.0 h.1.1.0))
unfolding allocate_of
allocate_gives h r = whole_gives ((Say (codes "judge allocate ") U32 ∷ Say (codes " ") U64 ∷ Say (codes " ") U64 ∷ [])) (λ h. Judge (Allocate h.0 h.1.0 h.1.1.0)) h r refl

close_gives : (h : Holes ((Say (codes "judge close ") U32 ∷ []))) → AreHolesRanged ((Say (codes "judge close ") U32 ∷ [])) h → close_of (weave ((Say (codes "judge close ") U32 ∷ [])) h) ≡ Some (Judge (Close h.0))
unfolding close_of
close_gives h r = whole_gives ((Say (codes "judge close ") U32 ∷ [])) (λ h. Judge (Close h.0)) h r refl

populate_gives : (h : Holes ((Say (codes "judge populate ") U64 ∷ Say (codes " ") U64 ∷ Say (codes " ") U64 ∷ []))) → AreHolesRanged ((Say (codes "judge populate ") U64 ∷ Say (codes " ") U64 ∷ Say (codes " ") U64 ∷ [])) h → populate_of (weave ((Say (codes "judge populate ") U64 ∷ Say (codes " ") U64 ∷ Say (codes " ") U64 ∷ [])) h) ≡ Some (Judge (Populate h.0 h.1.0 h.1.1.0))
unfolding populate_of
populate_gives h r = whole_gives ((Say (codes "judge populate ") U64 ∷ Say (codes " ") U64 ∷ Say (codes " ") U64 ∷ [])) (λ h. Judge (Populate h.0 h.1.0 h.1.1.0)) h r refl

poke_gives : (h : Holes ((Say (codes "judge poke ") U64 ∷ Say (codes " ") U64 ∷ []))) → AreHolesRanged ((Say (codes "judge poke ") U64 ∷ Say (codes " ") U64 ∷ [])) h → poke_of (weave ((Say (codes "judge poke ") U64 ∷ Say (codes " ") U64 ∷ [])) h) ≡ Some (Judge (Poke h.0 h.1.0))
unfolding poke_of
poke_gives h r = whole_gives ((Say (codes "judge poke ") U64 ∷ Say (codes " ") U64 ∷ [])) (λ h. Judge (Poke h.0 h.1.0)) h r refl

peek_gives : (h : Holes ((Say (codes "judge peek ") U64 ∷ []))) → AreHolesRanged ((Say (codes "judge peek ") U64 ∷ [])) h → peek_of (weave ((Say (codes "judge peek ") U64 ∷ [])) h) ≡ Some (Judge (Peek h.0))
unfolding peek_of
peek_gives h r = whole_gives ((Say (codes "judge peek ") U64 ∷ [])) (λ h. Judge (Peek h.0)) h r refl

file_gives : (h : Holes ((Say (codes "change file ") U32 ∷ Say (codes " pages=") U64 ∷ Say (codes " block=") Bit ∷ []))) → AreHolesRanged ((Say (codes "change file ") U32 ∷ Say (codes " pages=") U64 ∷ Say (codes " block=") Bit ∷ [])) h → file_of (weave ((Say (codes "change file ") U32 ∷ Say (codes " pages=") U64 ∷ Say (codes " block=") Bit ∷ [])) h) ≡ Some (Change (File h.0 h.1.0 h.1.1.0))
unfolding file_of
file_gives h r = whole_gives ((Say (codes "change file ") U32 ∷ Say (codes " pages=") U64 ∷ Say (codes " block=") Bit ∷ [])) (λ h. Change (File h.0 h.1.0 h.1.1.0)) h r refl

filed_slot_gives : (h : Holes ((slot_pieces (Say (codes " file=") U32 ∷ Say (codes " index=") U64 ∷ [])))) → AreHolesRanged ((slot_pieces (Say (codes " file=") U32 ∷ Say (codes " index=") U64 ∷ []))) h → filed_slot_of (weave ((slot_pieces (Say (codes " file=") U32 ∷ Say (codes " index=") U64 ∷ []))) h) ≡ Some (Change (Slot h.0 h.1.0 h.1.1.0 h.1.1.1.0 h.1.1.1.1.0 (Some h.1.1.1.1.1.0) h.1.1.1.1.1.1.0))
unfolding filed_slot_of
filed_slot_gives h r = whole_gives ((slot_pieces (Say (codes " file=") U32 ∷ Say (codes " index=") U64 ∷ []))) (λ h. Change (Slot h.0 h.1.0 h.1.1.0 h.1.1.1.0 h.1.1.1.1.0 (Some h.1.1.1.1.1.0) h.1.1.1.1.1.1.0)) h r refl

plain_slot_gives : (h : Holes ((slot_pieces (Say (codes " file=- index=0") Nothing ∷ [])))) → AreHolesRanged ((slot_pieces (Say (codes " file=- index=0") Nothing ∷ []))) h → plain_slot_of (weave ((slot_pieces (Say (codes " file=- index=0") Nothing ∷ []))) h) ≡ Some (Change (Slot h.0 h.1.0 h.1.1.0 h.1.1.1.0 h.1.1.1.1.0 None 0))
unfolding plain_slot_of
plain_slot_gives h r = whole_gives ((slot_pieces (Say (codes " file=- index=0") Nothing ∷ []))) (λ h. Change (Slot h.0 h.1.0 h.1.1.0 h.1.1.1.0 h.1.1.1.1.0 None 0)) h r refl

mark_gives : (h : Holes ((Say (codes "change mark ") U32 ∷ []))) → AreHolesRanged ((Say (codes "change mark ") U32 ∷ [])) h → mark_of (weave ((Say (codes "change mark ") U32 ∷ [])) h) ≡ Some (Change (Mark h.0))
unfolding mark_of
mark_gives h r = whole_gives ((Say (codes "change mark ") U32 ∷ [])) (λ h. Change (Mark h.0)) h r refl

noslot_gives : (h : Holes ((Say (codes "change noslot ") U32 ∷ []))) → AreHolesRanged ((Say (codes "change noslot ") U32 ∷ [])) h → noslot_of (weave ((Say (codes "change noslot ") U32 ∷ [])) h) ≡ Some (Change (NoSlot h.0))
unfolding noslot_of
noslot_gives h r = whole_gives ((Say (codes "change noslot ") U32 ∷ [])) (λ h. Change (NoSlot h.0)) h r refl

move_gives : (h : Holes ((Say (codes "change move ") U32 ∷ Say (codes " base=") U64 ∷ []))) → AreHolesRanged ((Say (codes "change move ") U32 ∷ Say (codes " base=") U64 ∷ [])) h → move_of (weave ((Say (codes "change move ") U32 ∷ Say (codes " base=") U64 ∷ [])) h) ≡ Some (Change (Move h.0 h.1.0))
unfolding move_of
move_gives h r = whole_gives ((Say (codes "change move ") U32 ∷ Say (codes " base=") U64 ∷ [])) (λ h. Change (Move h.0 h.1.0)) h r refl

attr_gives : (h : Holes ((Say (codes "change attr ") OfSpan ∷ Say (codes " ") OfKind ∷ []))) → AreHolesRanged ((Say (codes "change attr ") OfSpan ∷ Say (codes " ") OfKind ∷ [])) h → attr_of (weave ((Say (codes "change attr ") OfSpan ∷ Say (codes " ") OfKind ∷ [])) h) ≡ Some (Change (Attr h.0 h.1.0))
unfolding attr_of
attr_gives h r = whole_gives ((Say (codes "change attr ") OfSpan ∷ Say (codes " ") OfKind ∷ [])) (λ h. Change (Attr h.0 h.1.0)) h r refl

cut_line_gives : (h : Holes ((Say (codes "change cut ") U32 ∷ Say (codes " ") U64 ∷ Say (codes "-") U64 ∷ []))) → AreHolesRanged ((Say (codes "change cut ") U32 ∷ Say (codes " ") U64 ∷ Say (codes "-") U64 ∷ [])) h → cut_line_of (weave ((Say (codes "change cut ") U32 ∷ Say (codes " ") U64 ∷ Say (codes "-") U64 ∷ [])) h) ≡ Some (Change (Cut h.0 h.1.0 h.1.1.0))
unfolding cut_line_of
cut_line_gives h r = whole_gives ((Say (codes "change cut ") U32 ∷ Say (codes " ") U64 ∷ Say (codes "-") U64 ∷ [])) (λ h. Change (Cut h.0 h.1.0 h.1.1.0)) h r refl

shut_gives : (h : Holes ((Say (codes "change shut ") U32 ∷ []))) → AreHolesRanged ((Say (codes "change shut ") U32 ∷ [])) h → shut_of (weave ((Say (codes "change shut ") U32 ∷ [])) h) ≡ Some (Change (Shut h.0))
unfolding shut_of
shut_gives h r = whole_gives ((Say (codes "change shut ") U32 ∷ [])) (λ h. Change (Shut h.0)) h r refl

word_gives : (h : Holes ((Say (codes "change word page=") U64 ∷ Say (codes " word=") U16 ∷ Say (codes " value=") U64 ∷ []))) → AreHolesRanged ((Say (codes "change word page=") U64 ∷ Say (codes " word=") U16 ∷ Say (codes " value=") U64 ∷ [])) h → word_of (weave ((Say (codes "change word page=") U64 ∷ Say (codes " word=") U16 ∷ Say (codes " value=") U64 ∷ [])) h) ≡ Some (Change (Word h.0 h.1.0 h.1.1.0))
unfolding word_of
word_gives h r = whole_gives ((Say (codes "change word page=") U64 ∷ Say (codes " word=") U16 ∷ Say (codes " value=") U64 ∷ [])) (λ h. Change (Word h.0 h.1.0 h.1.1.0)) h r refl

added_gives : (h : Holes ((Say (codes "page index=") U64 ∷ Say (codes " serial=") U64 ∷ Say (codes " frame=") U32 ∷ Say (codes " pages=") U16 ∷ []))) → AreHolesRanged ((Say (codes "page index=") U64 ∷ Say (codes " serial=") U64 ∷ Say (codes " frame=") U32 ∷ Say (codes " pages=") U16 ∷ [])) h → added_of (weave ((Say (codes "page index=") U64 ∷ Say (codes " serial=") U64 ∷ Say (codes " frame=") U32 ∷ Say (codes " pages=") U16 ∷ [])) h) ≡ Some (Page h.0 (folio h.1.0 h.1.1.0) h.1.1.1.0)
unfolding added_of
added_gives h r = whole_gives ((Say (codes "page index=") U64 ∷ Say (codes " serial=") U64 ∷ Say (codes " frame=") U32 ∷ Say (codes " pages=") U16 ∷ [])) (λ h. Page h.0 (folio h.1.0 h.1.1.0) h.1.1.1.0) h r refl

good_gives : (h : Holes ((Say (codes "answer ok=") U64 ∷ []))) → AreHolesRanged ((Say (codes "answer ok=") U64 ∷ [])) h → good_of (weave ((Say (codes "answer ok=") U64 ∷ [])) h) ≡ Some (Answer (Good h.0))
unfolding good_of
good_gives h r = whole_gives ((Say (codes "answer ok=") U64 ∷ [])) (λ h. Answer (Good h.0)) h r refl

refused_gives : (h : Holes ((Say (codes "answer errno=") OfErrno ∷ []))) → AreHolesRanged ((Say (codes "answer errno=") OfErrno ∷ [])) h → refused_of (weave ((Say (codes "answer errno=") OfErrno ∷ [])) h) ≡ Some (Answer (Bad h.0))
unfolding refused_of
refused_gives h r = whole_gives ((Say (codes "answer errno=") OfErrno ∷ [])) (λ h. Answer (Bad h.0)) h r refl

free_gives : (h : Holes ((Say (codes "free serial=") U64 ∷ Say (codes " frame=") U32 ∷ Say (codes " pages=") U32 ∷ []))) → AreHolesRanged ((Say (codes "free serial=") U64 ∷ Say (codes " frame=") U32 ∷ Say (codes " pages=") U32 ∷ [])) h → free_of (weave ((Say (codes "free serial=") U64 ∷ Say (codes " frame=") U32 ∷ Say (codes " pages=") U32 ∷ [])) h) ≡ Some (Free (folio h.0 h.1.0) h.1.1.0)
unfolding free_of
free_gives h r = whole_gives ((Say (codes "free serial=") U64 ∷ Say (codes " frame=") U32 ∷ Say (codes " pages=") U32 ∷ [])) (λ h. Free (folio h.0 h.1.0) h.1.1.0) h r refl

bare_gives : (word : List ℕ) (what : What) → bare_of word what word ≡ Some what
unfolding bare_of
bare_gives word what = ap (λ (l : List ℕ). whole (Say word Nothing ∷ []) (λ h. what) l) (sym (append-nil word)) ∙ whole_gives (Say word Nothing ∷ []) (λ h. what) (tt, tt) (tt, tt) refl

fault_all : (flags gpa : ℕ) → IsU64 flags → IsU64 gpa → what_of (weave (Say (codes "exit reason=39 errno=14 flags=") U64 ∷ Say (codes " gpa=") U64 ∷ Say (codes " size=4096") Nothing ∷ []) (flags, (gpa, (tt, tt)))) ≡ Some (Left (Fault flags gpa 4096))
unfolding what_of bare_of fault_line_of bare_line_of call_of effect_of reply_line_of touch_of miss_of sample_of look_of get_user_of get_folio_of install_of fault_of mmio_of create_of region_of attrs_of punch_of allocate_of close_of populate_of poke_of peek_of file_of filed_slot_of plain_slot_of mark_of noslot_of move_of attr_of cut_line_of shut_of word_of added_of good_of refused_of free_of after strip
fault_all flags gpa p q = hit_in (fault_of (weave (Say (codes "exit reason=39 errno=14 flags=") U64 ∷ Say (codes " gpa=") U64 ∷ Say (codes " size=4096") Nothing ∷ []) (flags, (gpa, (tt, tt))))) (mmio_of (weave (Say (codes "exit reason=39 errno=14 flags=") U64 ∷ Say (codes " gpa=") U64 ∷ Say (codes " size=4096") Nothing ∷ []) (flags, (gpa, (tt, tt))))) (or_else (bare_line_of (weave (Say (codes "exit reason=39 errno=14 flags=") U64 ∷ Say (codes " gpa=") U64 ∷ Say (codes " size=4096") Nothing ∷ []) (flags, (gpa, (tt, tt))))) (or_else (call_of (weave (Say (codes "exit reason=39 errno=14 flags=") U64 ∷ Say (codes " gpa=") U64 ∷ Say (codes " size=4096") Nothing ∷ []) (flags, (gpa, (tt, tt))))) (or_else (effect_of (weave (Say (codes "exit reason=39 errno=14 flags=") U64 ∷ Say (codes " gpa=") U64 ∷ Say (codes " size=4096") Nothing ∷ []) (flags, (gpa, (tt, tt))))) (or_else (reply_line_of (weave (Say (codes "exit reason=39 errno=14 flags=") U64 ∷ Say (codes " gpa=") U64 ∷ Say (codes " size=4096") Nothing ∷ []) (flags, (gpa, (tt, tt))))) (begin_of (weave (Say (codes "exit reason=39 errno=14 flags=") U64 ∷ Say (codes " gpa=") U64 ∷ Say (codes " size=4096") Nothing ∷ []) (flags, (gpa, (tt, tt))))))))) (Left (Fault flags gpa 4096)) (fault_gives (flags, (gpa, (tt, tt))) (p, (q, (tt, tt))))

fault_text : (flags gpa size : ℕ) → size ≡ 4096 → what_text (Left (Fault flags gpa size)) ≡ (weave (Say (codes "exit reason=39 errno=14 flags=") U64 ∷ Say (codes " gpa=") U64 ∷ Say (codes " size=4096") Nothing ∷ []) (flags, (gpa, (tt, tt))))
fault_text flags gpa size e = ap (λ (l : List ℕ). codes "exit reason=39 errno=14 flags=" ++ (decimal flags ++ (codes " gpa=" ++ (decimal gpa ++ (codes " size=" ++ (l ++ [])))))) (ap decimal e ∙ four)

attr_all : (s : Extent) (k : Kind) → IsWhatRanged (Change (Attr s k)) → what_of (weave (Say (codes "change attr ") OfSpan ∷ Say (codes " ") OfKind ∷ []) (s, (k, tt))) ≡ Some (Change (Attr s k))
unfolding what_of bare_of fault_line_of bare_line_of call_of effect_of reply_line_of touch_of miss_of sample_of look_of get_user_of get_folio_of install_of fault_of mmio_of create_of region_of attrs_of punch_of allocate_of close_of populate_of poke_of peek_of file_of filed_slot_of plain_slot_of mark_of noslot_of move_of attr_of cut_line_of shut_of word_of added_of good_of refused_of free_of after strip
attr_all s k r = hit_in (attr_of (weave (Say (codes "change attr ") OfSpan ∷ Say (codes " ") OfKind ∷ []) (s, (k, tt)))) (or_else (cut_line_of (weave (Say (codes "change attr ") OfSpan ∷ Say (codes " ") OfKind ∷ []) (s, (k, tt)))) (or_else (shut_of (weave (Say (codes "change attr ") OfSpan ∷ Say (codes " ") OfKind ∷ []) (s, (k, tt)))) (word_of (weave (Say (codes "change attr ") OfSpan ∷ Say (codes " ") OfKind ∷ []) (s, (k, tt)))))) (or_else (reply_line_of (weave (Say (codes "change attr ") OfSpan ∷ Say (codes " ") OfKind ∷ []) (s, (k, tt)))) (begin_of (weave (Say (codes "change attr ") OfSpan ∷ Say (codes " ") OfKind ∷ []) (s, (k, tt))))) (Change (Attr s k)) (attr_gives (s, (k, tt)) (r, (tt, tt)))

attr_text : (s : Extent) (k : Kind) → what_text (Change (Attr s k)) ≡ (weave (Say (codes "change attr ") OfSpan ∷ Say (codes " ") OfKind ∷ []) (s, (k, tt)))
attr_text s k = ap (λ (l : List ℕ). codes "change attr " ++ l) (sym (append_assoc (decimal s.lo) (codes "-" ++ decimal s.hi) (codes " " ++ (part_text OfKind k ++ []))))

abbrev filed : Holes (slot_pieces (Say (codes " file=") U32 ∷ Say (codes " index=") U64 ∷ [])) → What
filed h = Change (Slot h.0 h.1.0 h.1.1.0 h.1.1.1.0 h.1.1.1.1.0 (Some h.1.1.1.1.1.0) h.1.1.1.1.1.1.0)

-- a hyphen is no number
no_number : (slot base pages user flags : ℕ) → parse (Say (codes " file=") U32 ∷ Say (codes " index=") U64 ∷ []) (codes " file=- index=0" ++ []) (λ h rest. ended (filed (slot, (base, (pages, (user, (flags, h)))))) rest) ≡ None
unfolding after strip small_at number_at
no_number slot base pages user flags = refl

no_file : (slot base pages user flags : ℕ) → IsWhatRanged (Change (Slot slot base pages user flags None 0)) → filed_slot_of (weave (slot_pieces (Say (codes " file=- index=0") Nothing ∷ [])) (slot, (base, (pages, (user, (flags, (tt, tt))))))) ≡ None
unfolding filed_slot_of
no_file slot base pages user flags r =
    parse_more (codes "change slot ") U32 (Say (codes " base=") U64 ∷ Say (codes " pages=") U64 ∷ Say (codes " user=") U64 ∷ Say (codes " flags=") U32 ∷ Say (codes " file=") U32 ∷ Say (codes " index=") U64 ∷ []) slot (codes " base=" ++ (decimal base ++ (codes " pages=" ++ (decimal pages ++ (codes " user=" ++ (decimal user ++ (codes " flags=" ++ (decimal flags ++ (codes " file=- index=0" ++ []))))))))) (λ h rest. ended (filed h) rest) r.0 refl
    ∙ parse_more (codes " base=") U64 (Say (codes " pages=") U64 ∷ Say (codes " user=") U64 ∷ Say (codes " flags=") U32 ∷ Say (codes " file=") U32 ∷ Say (codes " index=") U64 ∷ []) base (codes " pages=" ++ (decimal pages ++ (codes " user=" ++ (decimal user ++ (codes " flags=" ++ (decimal flags ++ (codes " file=- index=0" ++ []))))))) (λ h rest. ended (filed (slot, h)) rest) r.1 refl
    ∙ parse_more (codes " pages=") U64 (Say (codes " user=") U64 ∷ Say (codes " flags=") U32 ∷ Say (codes " file=") U32 ∷ Say (codes " index=") U64 ∷ []) pages (codes " user=" ++ (decimal user ++ (codes " flags=" ++ (decimal flags ++ (codes " file=- index=0" ++ []))))) (λ h rest. ended (filed (slot, (base, h))) rest) r.2 refl
    ∙ parse_more (codes " user=") U64 (Say (codes " flags=") U32 ∷ Say (codes " file=") U32 ∷ Say (codes " index=") U64 ∷ []) user (codes " flags=" ++ (decimal flags ++ (codes " file=- index=0" ++ []))) (λ h rest. ended (filed (slot, (base, (pages, h)))) rest) r.3 refl
    ∙ parse_more (codes " flags=") U32 (Say (codes " file=") U32 ∷ Say (codes " index=") U64 ∷ []) flags (codes " file=- index=0" ++ []) (λ h rest. ended (filed (slot, (base, (pages, (user, h))))) rest) r.4 refl
    ∙ no_number slot base pages user flags

slot_all : (slot base pages user flags : ℕ) → IsWhatRanged (Change (Slot slot base pages user flags None 0)) → what_of (weave (slot_pieces (Say (codes " file=- index=0") Nothing ∷ [])) (slot, (base, (pages, (user, (flags, (tt, tt))))))) ≡ Some (Change (Slot slot base pages user flags None 0))
unfolding what_of bare_of fault_line_of bare_line_of call_of effect_of reply_line_of touch_of miss_of sample_of look_of get_user_of get_folio_of install_of fault_of mmio_of create_of region_of attrs_of punch_of allocate_of close_of populate_of poke_of peek_of file_of filed_slot_of plain_slot_of mark_of noslot_of move_of attr_of cut_line_of shut_of word_of added_of good_of refused_of free_of after strip
slot_all slot base pages user flags r =
    ap (λ (o : Option What). or_else (or_else o (or_else (plain_slot_of (weave (slot_pieces (Say (codes " file=- index=0") Nothing ∷ [])) (slot, (base, (pages, (user, (flags, (tt, tt)))))))) (or_else (mark_of (weave (slot_pieces (Say (codes " file=- index=0") Nothing ∷ [])) (slot, (base, (pages, (user, (flags, (tt, tt)))))))) (or_else (noslot_of (weave (slot_pieces (Say (codes " file=- index=0") Nothing ∷ [])) (slot, (base, (pages, (user, (flags, (tt, tt)))))))) (or_else (move_of (weave (slot_pieces (Say (codes " file=- index=0") Nothing ∷ [])) (slot, (base, (pages, (user, (flags, (tt, tt)))))))) (or_else (attr_of (weave (slot_pieces (Say (codes " file=- index=0") Nothing ∷ [])) (slot, (base, (pages, (user, (flags, (tt, tt)))))))) (or_else (cut_line_of (weave (slot_pieces (Say (codes " file=- index=0") Nothing ∷ [])) (slot, (base, (pages, (user, (flags, (tt, tt)))))))) (or_else (shut_of (weave (slot_pieces (Say (codes " file=- index=0") Nothing ∷ [])) (slot, (base, (pages, (user, (flags, (tt, tt)))))))) (word_of (weave (slot_pieces (Say (codes " file=- index=0") Nothing ∷ [])) (slot, (base, (pages, (user, (flags, (tt, tt)))))))))))))))) (or_else (reply_line_of (weave (slot_pieces (Say (codes " file=- index=0") Nothing ∷ [])) (slot, (base, (pages, (user, (flags, (tt, tt)))))))) (begin_of (weave (slot_pieces (Say (codes " file=- index=0") Nothing ∷ [])) (slot, (base, (pages, (user, (flags, (tt, tt)))))))))) (no_file slot base pages user flags r)
    ∙ hit_in (plain_slot_of (weave (slot_pieces (Say (codes " file=- index=0") Nothing ∷ [])) (slot, (base, (pages, (user, (flags, (tt, tt)))))))) (or_else (mark_of (weave (slot_pieces (Say (codes " file=- index=0") Nothing ∷ [])) (slot, (base, (pages, (user, (flags, (tt, tt)))))))) (or_else (noslot_of (weave (slot_pieces (Say (codes " file=- index=0") Nothing ∷ [])) (slot, (base, (pages, (user, (flags, (tt, tt)))))))) (or_else (move_of (weave (slot_pieces (Say (codes " file=- index=0") Nothing ∷ [])) (slot, (base, (pages, (user, (flags, (tt, tt)))))))) (or_else (attr_of (weave (slot_pieces (Say (codes " file=- index=0") Nothing ∷ [])) (slot, (base, (pages, (user, (flags, (tt, tt)))))))) (or_else (cut_line_of (weave (slot_pieces (Say (codes " file=- index=0") Nothing ∷ [])) (slot, (base, (pages, (user, (flags, (tt, tt)))))))) (or_else (shut_of (weave (slot_pieces (Say (codes " file=- index=0") Nothing ∷ [])) (slot, (base, (pages, (user, (flags, (tt, tt)))))))) (word_of (weave (slot_pieces (Say (codes " file=- index=0") Nothing ∷ [])) (slot, (base, (pages, (user, (flags, (tt, tt)))))))))))))) (or_else (reply_line_of (weave (slot_pieces (Say (codes " file=- index=0") Nothing ∷ [])) (slot, (base, (pages, (user, (flags, (tt, tt)))))))) (begin_of (weave (slot_pieces (Say (codes " file=- index=0") Nothing ∷ [])) (slot, (base, (pages, (user, (flags, (tt, tt))))))))) (Change (Slot slot base pages user flags None 0)) (plain_slot_gives (slot, (base, (pages, (user, (flags, (tt, tt)))))) (r.0, (r.1, (r.2, (r.3, (r.4, (tt, tt)))))))

slot_text : (slot base pages user flags index : ℕ) → index ≡ 0 → what_text (Change (Slot slot base pages user flags None index)) ≡ (weave (slot_pieces (Say (codes " file=- index=0") Nothing ∷ [])) (slot, (base, (pages, (user, (flags, (tt, tt)))))))
slot_text slot base pages user flags index e = ap (λ (l : List ℕ). codes "change slot " ++ (decimal slot ++ (codes " base=" ++ (decimal base ++ (codes " pages=" ++ (decimal pages ++ (codes " user=" ++ (decimal user ++ (codes " flags=" ++ (decimal flags ++ (codes " file=" ++ (codes "-" ++ (codes " index=" ++ (l ++ [])))))))))))))) (ap decimal e ∙ naught)

get_all : (page : ℕ) → IsU64 page → what_of (weave (Say (codes "get user=") U64 ∷ []) (page, tt)) ≡ Some (Get (User page) 0)
unfolding what_of bare_of fault_line_of bare_line_of call_of effect_of reply_line_of touch_of miss_of sample_of look_of get_user_of get_folio_of install_of fault_of mmio_of create_of region_of attrs_of punch_of allocate_of close_of populate_of poke_of peek_of file_of filed_slot_of plain_slot_of mark_of noslot_of move_of attr_of cut_line_of shut_of word_of added_of good_of refused_of free_of after strip
get_all page r = hit_in (get_user_of (weave (Say (codes "get user=") U64 ∷ []) (page, tt))) (or_else (get_folio_of (weave (Say (codes "get user=") U64 ∷ []) (page, tt))) (or_else (install_of (weave (Say (codes "get user=") U64 ∷ []) (page, tt))) (or_else (fault_of (weave (Say (codes "get user=") U64 ∷ []) (page, tt))) (mmio_of (weave (Say (codes "get user=") U64 ∷ []) (page, tt)))))) (or_else (bare_line_of (weave (Say (codes "get user=") U64 ∷ []) (page, tt))) (or_else (call_of (weave (Say (codes "get user=") U64 ∷ []) (page, tt))) (or_else (effect_of (weave (Say (codes "get user=") U64 ∷ []) (page, tt))) (or_else (reply_line_of (weave (Say (codes "get user=") U64 ∷ []) (page, tt))) (begin_of (weave (Say (codes "get user=") U64 ∷ []) (page, tt))))))) (Get (User page) 0) (get_user_gives (page, tt) (r, tt))

pub what_gives : (w : What) → IsPlainWhat w → IsWhatRanged w → what_of (what_text w) ≡ Some (roomless w)
unfolding what_of bare_of fault_line_of bare_line_of call_of effect_of reply_line_of touch_of miss_of sample_of look_of get_user_of get_folio_of install_of fault_of mmio_of create_of region_of attrs_of punch_of allocate_of close_of populate_of poke_of peek_of file_of filed_slot_of plain_slot_of mark_of noslot_of move_of attr_of cut_line_of shut_of word_of added_of good_of refused_of free_of after strip
what_gives Enter i r = hit_in (bare_of (codes "enter") Enter (codes "enter")) (or_else (bare_of (codes "flush") Flush (codes "enter")) (or_else (bare_of (codes "retry") Retry (codes "enter")) (or_else (bare_of (codes "acked") Acked (codes "enter")) (or_else (bare_of (codes "end") End (codes "enter")) (or_else (bare_of (codes "gone") Gone (codes "enter")) (bare_of (codes "exit errno=12") (Left NoFrame) (codes "enter"))))))) (or_else (call_of (codes "enter")) (or_else (effect_of (codes "enter")) (or_else (reply_line_of (codes "enter")) (begin_of (codes "enter"))))) (Enter) (bare_gives (codes "enter") Enter)
what_gives Flush i r = hit_in (bare_of (codes "flush") Flush (codes "flush")) (or_else (bare_of (codes "retry") Retry (codes "flush")) (or_else (bare_of (codes "acked") Acked (codes "flush")) (or_else (bare_of (codes "end") End (codes "flush")) (or_else (bare_of (codes "gone") Gone (codes "flush")) (bare_of (codes "exit errno=12") (Left NoFrame) (codes "flush")))))) (or_else (call_of (codes "flush")) (or_else (effect_of (codes "flush")) (or_else (reply_line_of (codes "flush")) (begin_of (codes "flush"))))) (Flush) (bare_gives (codes "flush") Flush)
what_gives Retry i r = hit_in (bare_of (codes "retry") Retry (codes "retry")) (or_else (bare_of (codes "acked") Acked (codes "retry")) (or_else (bare_of (codes "end") End (codes "retry")) (or_else (bare_of (codes "gone") Gone (codes "retry")) (bare_of (codes "exit errno=12") (Left NoFrame) (codes "retry"))))) (or_else (call_of (codes "retry")) (or_else (effect_of (codes "retry")) (or_else (reply_line_of (codes "retry")) (begin_of (codes "retry"))))) (Retry) (bare_gives (codes "retry") Retry)
what_gives Acked i r = hit_in (bare_of (codes "acked") Acked (codes "acked")) (or_else (bare_of (codes "end") End (codes "acked")) (or_else (bare_of (codes "gone") Gone (codes "acked")) (bare_of (codes "exit errno=12") (Left NoFrame) (codes "acked")))) (or_else (call_of (codes "acked")) (or_else (effect_of (codes "acked")) (or_else (reply_line_of (codes "acked")) (begin_of (codes "acked"))))) (Acked) (bare_gives (codes "acked") Acked)
what_gives End i r = hit_in (bare_of (codes "end") End (codes "end")) (or_else (bare_of (codes "gone") Gone (codes "end")) (bare_of (codes "exit errno=12") (Left NoFrame) (codes "end"))) (or_else (call_of (codes "end")) (or_else (effect_of (codes "end")) (or_else (reply_line_of (codes "end")) (begin_of (codes "end"))))) (End) (bare_gives (codes "end") End)
what_gives Gone i r = hit_in (bare_of (codes "gone") Gone (codes "gone")) (bare_of (codes "exit errno=12") (Left NoFrame) (codes "gone")) (or_else (call_of (codes "gone")) (or_else (effect_of (codes "gone")) (or_else (reply_line_of (codes "gone")) (begin_of (codes "gone"))))) (Gone) (bare_gives (codes "gone") Gone)
what_gives (Left NoFrame) i r = hit (bare_of (codes "exit errno=12") (Left NoFrame) (codes "exit errno=12")) (or_else (call_of (codes "exit errno=12")) (or_else (effect_of (codes "exit errno=12")) (or_else (reply_line_of (codes "exit errno=12")) (begin_of (codes "exit errno=12"))))) ((Left NoFrame)) (bare_gives (codes "exit errno=12") (Left NoFrame))
what_gives (Miss a) i r = hit_in (miss_of (what_text (Miss a))) (or_else (sample_of (what_text (Miss a))) (or_else (look_of (what_text (Miss a))) (or_else (get_user_of (what_text (Miss a))) (or_else (get_folio_of (what_text (Miss a))) (or_else (install_of (what_text (Miss a))) (or_else (fault_of (what_text (Miss a))) (mmio_of (what_text (Miss a))))))))) (or_else (bare_line_of (what_text (Miss a))) (or_else (call_of (what_text (Miss a))) (or_else (effect_of (what_text (Miss a))) (or_else (reply_line_of (what_text (Miss a))) (begin_of (what_text (Miss a))))))) (Miss a) (miss_gives a r)
what_gives (Sample at) i r = hit_in (sample_of (what_text (Sample at))) (or_else (look_of (what_text (Sample at))) (or_else (get_user_of (what_text (Sample at))) (or_else (get_folio_of (what_text (Sample at))) (or_else (install_of (what_text (Sample at))) (or_else (fault_of (what_text (Sample at))) (mmio_of (what_text (Sample at)))))))) (or_else (bare_line_of (what_text (Sample at))) (or_else (call_of (what_text (Sample at))) (or_else (effect_of (what_text (Sample at))) (or_else (reply_line_of (what_text (Sample at))) (begin_of (what_text (Sample at))))))) (Sample at) (sample_gives (at, tt) (r, tt))
what_gives (Look at slot attr file) i r = hit_in (look_of (what_text (Look at slot attr file))) (or_else (get_user_of (what_text (Look at slot attr file))) (or_else (get_folio_of (what_text (Look at slot attr file))) (or_else (install_of (what_text (Look at slot attr file))) (or_else (fault_of (what_text (Look at slot attr file))) (mmio_of (what_text (Look at slot attr file))))))) (or_else (bare_line_of (what_text (Look at slot attr file))) (or_else (call_of (what_text (Look at slot attr file))) (or_else (effect_of (what_text (Look at slot attr file))) (or_else (reply_line_of (what_text (Look at slot attr file))) (begin_of (what_text (Look at slot attr file))))))) (Look at slot attr file) (look_gives (at, (slot, (attr, (file, tt)))) (r.0, (r.1, (tt, (r.2, tt)))))
what_gives (Get (InFolio f) fresh) i r = hit_in (get_folio_of (what_text (Get (InFolio f) fresh))) (or_else (install_of (what_text (Get (InFolio f) fresh))) (or_else (fault_of (what_text (Get (InFolio f) fresh))) (mmio_of (what_text (Get (InFolio f) fresh))))) (or_else (bare_line_of (what_text (Get (InFolio f) fresh))) (or_else (call_of (what_text (Get (InFolio f) fresh))) (or_else (effect_of (what_text (Get (InFolio f) fresh))) (or_else (reply_line_of (what_text (Get (InFolio f) fresh))) (begin_of (what_text (Get (InFolio f) fresh))))))) (Get (InFolio f) fresh) (get_folio_gives (f.serial, (f.frame, (fresh, tt))) (r.0.0, (r.0.1, (r.1, tt))))
what_gives (Install page level) i r = hit_in (install_of (what_text (Install page level))) (or_else (fault_of (what_text (Install page level))) (mmio_of (what_text (Install page level)))) (or_else (bare_line_of (what_text (Install page level))) (or_else (call_of (what_text (Install page level))) (or_else (effect_of (what_text (Install page level))) (or_else (reply_line_of (what_text (Install page level))) (begin_of (what_text (Install page level))))))) (Install page level) (install_gives (page, (level, tt)) (r, (tt, tt)))
what_gives (Touch a b level value fill) i r = hit_in (touch_of (what_text (Touch a b level value fill))) (or_else (miss_of (what_text (Touch a b level value fill))) (or_else (sample_of (what_text (Touch a b level value fill))) (or_else (look_of (what_text (Touch a b level value fill))) (or_else (get_user_of (what_text (Touch a b level value fill))) (or_else (get_folio_of (what_text (Touch a b level value fill))) (or_else (install_of (what_text (Touch a b level value fill))) (or_else (fault_of (what_text (Touch a b level value fill))) (mmio_of (what_text (Touch a b level value fill)))))))))) (or_else (bare_line_of (what_text (Touch a b level value fill))) (or_else (call_of (what_text (Touch a b level value fill))) (or_else (effect_of (what_text (Touch a b level value fill))) (or_else (reply_line_of (what_text (Touch a b level value fill))) (begin_of (what_text (Touch a b level value fill))))))) (Touch a b level value fill) (touch_gives (Touch a b level value fill) a b (level, (value, (fill, tt))) refl r.0 r.1 (tt, (r.2, (r.3, tt))))
what_gives (Left (Mmio gpa)) i r = hit (mmio_of (what_text (Left (Mmio gpa)))) (or_else (bare_line_of (what_text (Left (Mmio gpa)))) (or_else (call_of (what_text (Left (Mmio gpa)))) (or_else (effect_of (what_text (Left (Mmio gpa)))) (or_else (reply_line_of (what_text (Left (Mmio gpa)))) (begin_of (what_text (Left (Mmio gpa)))))))) (Left (Mmio gpa)) (mmio_gives (gpa, tt) (r, tt))
what_gives (Judge (Create size flags)) i r = hit_in (create_of (what_text (Judge (Create size flags)))) (or_else (region_of (what_text (Judge (Create size flags)))) (or_else (attrs_of (what_text (Judge (Create size flags)))) (or_else (punch_of (what_text (Judge (Create size flags)))) (or_else (allocate_of (what_text (Judge (Create size flags)))) (or_else (close_of (what_text (Judge (Create size flags)))) (or_else (populate_of (what_text (Judge (Create size flags)))) (or_else (poke_of (what_text (Judge (Create size flags)))) (peek_of (what_text (Judge (Create size flags))))))))))) (or_else (effect_of (what_text (Judge (Create size flags)))) (or_else (reply_line_of (what_text (Judge (Create size flags)))) (begin_of (what_text (Judge (Create size flags)))))) (Judge (Create size flags)) (create_gives (size, (flags, tt)) (r.0, (r.1, tt)))
what_gives (Judge (Region2 q)) i r = hit_in (region_of (what_text (Judge (Region2 q)))) (or_else (attrs_of (what_text (Judge (Region2 q)))) (or_else (punch_of (what_text (Judge (Region2 q)))) (or_else (allocate_of (what_text (Judge (Region2 q)))) (or_else (close_of (what_text (Judge (Region2 q)))) (or_else (populate_of (what_text (Judge (Region2 q)))) (or_else (poke_of (what_text (Judge (Region2 q)))) (peek_of (what_text (Judge (Region2 q)))))))))) (or_else (effect_of (what_text (Judge (Region2 q)))) (or_else (reply_line_of (what_text (Judge (Region2 q)))) (begin_of (what_text (Judge (Region2 q)))))) (Judge (Region2 q)) (region_gives (q.slot, (q.flags, (q.gpa, (q.size, (q.user, (q.fd, (q.offset, tt))))))) (r.0, (r.1, (r.2, (r.3, (r.4, (r.5, (r.6, tt))))))))
what_gives (Judge (Attrs address size attributes flags)) i r = hit_in (attrs_of (what_text (Judge (Attrs address size attributes flags)))) (or_else (punch_of (what_text (Judge (Attrs address size attributes flags)))) (or_else (allocate_of (what_text (Judge (Attrs address size attributes flags)))) (or_else (close_of (what_text (Judge (Attrs address size attributes flags)))) (or_else (populate_of (what_text (Judge (Attrs address size attributes flags)))) (or_else (poke_of (what_text (Judge (Attrs address size attributes flags)))) (peek_of (what_text (Judge (Attrs address size attributes flags))))))))) (or_else (effect_of (what_text (Judge (Attrs address size attributes flags)))) (or_else (reply_line_of (what_text (Judge (Attrs address size attributes flags)))) (begin_of (what_text (Judge (Attrs address size attributes flags)))))) (Judge (Attrs address size attributes flags)) (attrs_gives (address, (size, (attributes, (flags, tt)))) (r.0, (r.1, (r.2, (r.3, tt)))))
what_gives (Judge (Punch fd offset len)) i r = hit_in (punch_of (what_text (Judge (Punch fd offset len)))) (or_else (allocate_of (what_text (Judge (Punch fd offset len)))) (or_else (close_of (what_text (Judge (Punch fd offset len)))) (or_else (populate_of (what_text (Judge (Punch fd offset len)))) (or_else (poke_of (what_text (Judge (Punch fd offset len)))) (peek_of (what_text (Judge (Punch fd offset len)))))))) (or_else (effect_of (what_text (Judge (Punch fd offset len)))) (or_else (reply_line_of (what_text (Judge (Punch fd offset len)))) (begin_of (what_text (Judge (Punch fd offset len)))))) (Judge (Punch fd offset len)) (punch_gives (fd, (offset, (len, tt))) (r.0, (r.1, (r.2, tt))))
what_gives (Judge (Allocate fd offset len)) i r = hit_in (allocate_of (what_text (Judge (Allocate fd offset len)))) (or_else (close_of (what_text (Judge (Allocate fd offset len)))) (or_else (populate_of (what_text (Judge (Allocate fd offset len)))) (or_else (poke_of (what_text (Judge (Allocate fd offset len)))) (peek_of (what_text (Judge (Allocate fd offset len))))))) (or_else (effect_of (what_text (Judge (Allocate fd offset len)))) (or_else (reply_line_of (what_text (Judge (Allocate fd offset len)))) (begin_of (what_text (Judge (Allocate fd offset len)))))) (Judge (Allocate fd offset len)) (allocate_gives (fd, (offset, (len, tt))) (r.0, (r.1, (r.2, tt))))
what_gives (Judge (Close fd)) i r = hit_in (close_of (what_text (Judge (Close fd)))) (or_else (populate_of (what_text (Judge (Close fd)))) (or_else (poke_of (what_text (Judge (Close fd)))) (peek_of (what_text (Judge (Close fd)))))) (or_else (effect_of (what_text (Judge (Close fd)))) (or_else (reply_line_of (what_text (Judge (Close fd)))) (begin_of (what_text (Judge (Close fd)))))) (Judge (Close fd)) (close_gives (fd, tt) (r, tt))
what_gives (Judge (Populate gpa pages user)) i r = hit_in (populate_of (what_text (Judge (Populate gpa pages user)))) (or_else (poke_of (what_text (Judge (Populate gpa pages user)))) (peek_of (what_text (Judge (Populate gpa pages user))))) (or_else (effect_of (what_text (Judge (Populate gpa pages user)))) (or_else (reply_line_of (what_text (Judge (Populate gpa pages user)))) (begin_of (what_text (Judge (Populate gpa pages user)))))) (Judge (Populate gpa pages user)) (populate_gives (gpa, (pages, (user, tt))) (r.0, (r.1, (r.2, tt))))
what_gives (Judge (Poke address value)) i r = hit_in (poke_of (what_text (Judge (Poke address value)))) (peek_of (what_text (Judge (Poke address value)))) (or_else (effect_of (what_text (Judge (Poke address value)))) (or_else (reply_line_of (what_text (Judge (Poke address value)))) (begin_of (what_text (Judge (Poke address value)))))) (Judge (Poke address value)) (poke_gives (address, (value, tt)) (r.0, (r.1, tt)))
what_gives (Judge (Peek address)) i r = hit (peek_of (what_text (Judge (Peek address)))) (or_else (effect_of (what_text (Judge (Peek address)))) (or_else (reply_line_of (what_text (Judge (Peek address)))) (begin_of (what_text (Judge (Peek address)))))) (Judge (Peek address)) (peek_gives (address, tt) (r, tt))
what_gives (Change (File file pages block)) i r = hit_in (file_of (what_text (Change (File file pages block)))) (or_else (filed_slot_of (what_text (Change (File file pages block)))) (or_else (plain_slot_of (what_text (Change (File file pages block)))) (or_else (mark_of (what_text (Change (File file pages block)))) (or_else (noslot_of (what_text (Change (File file pages block)))) (or_else (move_of (what_text (Change (File file pages block)))) (or_else (attr_of (what_text (Change (File file pages block)))) (or_else (cut_line_of (what_text (Change (File file pages block)))) (or_else (shut_of (what_text (Change (File file pages block)))) (word_of (what_text (Change (File file pages block)))))))))))) (or_else (reply_line_of (what_text (Change (File file pages block)))) (begin_of (what_text (Change (File file pages block))))) (Change (File file pages block)) (file_gives (file, (pages, (block, tt))) (r.0, (r.1, (tt, tt))))
what_gives (Change (Slot slot base pages user flags (Some file) index)) i r = hit_in (filed_slot_of (what_text (Change (Slot slot base pages user flags (Some file) index)))) (or_else (plain_slot_of (what_text (Change (Slot slot base pages user flags (Some file) index)))) (or_else (mark_of (what_text (Change (Slot slot base pages user flags (Some file) index)))) (or_else (noslot_of (what_text (Change (Slot slot base pages user flags (Some file) index)))) (or_else (move_of (what_text (Change (Slot slot base pages user flags (Some file) index)))) (or_else (attr_of (what_text (Change (Slot slot base pages user flags (Some file) index)))) (or_else (cut_line_of (what_text (Change (Slot slot base pages user flags (Some file) index)))) (or_else (shut_of (what_text (Change (Slot slot base pages user flags (Some file) index)))) (word_of (what_text (Change (Slot slot base pages user flags (Some file) index))))))))))) (or_else (reply_line_of (what_text (Change (Slot slot base pages user flags (Some file) index)))) (begin_of (what_text (Change (Slot slot base pages user flags (Some file) index))))) (Change (Slot slot base pages user flags (Some file) index)) (filed_slot_gives (slot, (base, (pages, (user, (flags, (file, (index, tt))))))) (r.0, (r.1, (r.2, (r.3, (r.4, (r.5, (r.6, tt))))))))
what_gives (Change (Mark slot)) i r = hit_in (mark_of (what_text (Change (Mark slot)))) (or_else (noslot_of (what_text (Change (Mark slot)))) (or_else (move_of (what_text (Change (Mark slot)))) (or_else (attr_of (what_text (Change (Mark slot)))) (or_else (cut_line_of (what_text (Change (Mark slot)))) (or_else (shut_of (what_text (Change (Mark slot)))) (word_of (what_text (Change (Mark slot))))))))) (or_else (reply_line_of (what_text (Change (Mark slot)))) (begin_of (what_text (Change (Mark slot))))) (Change (Mark slot)) (mark_gives (slot, tt) (r, tt))
what_gives (Change (NoSlot slot)) i r = hit_in (noslot_of (what_text (Change (NoSlot slot)))) (or_else (move_of (what_text (Change (NoSlot slot)))) (or_else (attr_of (what_text (Change (NoSlot slot)))) (or_else (cut_line_of (what_text (Change (NoSlot slot)))) (or_else (shut_of (what_text (Change (NoSlot slot)))) (word_of (what_text (Change (NoSlot slot)))))))) (or_else (reply_line_of (what_text (Change (NoSlot slot)))) (begin_of (what_text (Change (NoSlot slot))))) (Change (NoSlot slot)) (noslot_gives (slot, tt) (r, tt))
what_gives (Change (Move slot base)) i r = hit_in (move_of (what_text (Change (Move slot base)))) (or_else (attr_of (what_text (Change (Move slot base)))) (or_else (cut_line_of (what_text (Change (Move slot base)))) (or_else (shut_of (what_text (Change (Move slot base)))) (word_of (what_text (Change (Move slot base))))))) (or_else (reply_line_of (what_text (Change (Move slot base)))) (begin_of (what_text (Change (Move slot base))))) (Change (Move slot base)) (move_gives (slot, (base, tt)) (r.0, (r.1, tt)))
what_gives (Change (Cut file lo hi)) i r = hit_in (cut_line_of (what_text (Change (Cut file lo hi)))) (or_else (shut_of (what_text (Change (Cut file lo hi)))) (word_of (what_text (Change (Cut file lo hi))))) (or_else (reply_line_of (what_text (Change (Cut file lo hi)))) (begin_of (what_text (Change (Cut file lo hi))))) (Change (Cut file lo hi)) (cut_line_gives (file, (lo, (hi, tt))) (r.0, (r.1, (r.2, tt))))
what_gives (Change (Shut file)) i r = hit_in (shut_of (what_text (Change (Shut file)))) (word_of (what_text (Change (Shut file)))) (or_else (reply_line_of (what_text (Change (Shut file)))) (begin_of (what_text (Change (Shut file))))) (Change (Shut file)) (shut_gives (file, tt) (r, tt))
what_gives (Change (Word page word value)) i r = hit (word_of (what_text (Change (Word page word value)))) (or_else (reply_line_of (what_text (Change (Word page word value)))) (begin_of (what_text (Change (Word page word value))))) (Change (Word page word value)) (word_gives (page, (word, (value, tt))) (r.0, (r.1, (r.2, tt))))
what_gives (Page index f pages) i r = hit_in (added_of (what_text (Page index f pages))) (or_else (good_of (what_text (Page index f pages))) (or_else (refused_of (what_text (Page index f pages))) (free_of (what_text (Page index f pages))))) (begin_of (what_text (Page index f pages))) (Page index f pages) (added_gives (index, (f.serial, (f.frame, (pages, tt)))) (r.0, (r.1.0, (r.1.1, (r.2, tt)))))
what_gives (Answer (Good n)) i r = hit_in (good_of (what_text (Answer (Good n)))) (or_else (refused_of (what_text (Answer (Good n)))) (free_of (what_text (Answer (Good n))))) (begin_of (what_text (Answer (Good n)))) (Answer (Good n)) (good_gives (n, tt) (r, tt))
what_gives (Answer (Bad e)) i r = hit_in (refused_of (what_text (Answer (Bad e)))) (free_of (what_text (Answer (Bad e)))) (begin_of (what_text (Answer (Bad e)))) (Answer (Bad e)) (refused_gives (e, tt) (tt, tt))
what_gives (Free f pages) i r = hit (free_of (what_text (Free f pages))) (begin_of (what_text (Free f pages))) (Free f pages) (free_gives (f.serial, (f.frame, (pages, tt))) (r.0.0, (r.0.1, (r.1, tt))))
what_gives (Left (Fault flags gpa size)) i r = ap what_of (fault_text flags gpa size i) ∙ fault_all flags gpa r.0 r.1 ∙ ap (λ (n : ℕ). Some (Left (Fault flags gpa n))) (sym i)
what_gives (Change (Attr s k)) i r = ap what_of (attr_text s k) ∙ attr_all s k r
what_gives (Change (Slot slot base pages user flags None index)) i r = ap what_of (slot_text slot base pages user flags index i) ∙ slot_all slot base pages user flags (r.0, r.1, r.2, r.3, r.4, tt, (omega arith)) ∙ ap (λ (n : ℕ). Some (Change (Slot slot base pages user flags None n))) (sym i)
what_gives (Get (User page) fresh) i r = get_all page r.0 ∙ ap (λ (n : ℕ). Some (Get (User page) n)) (sym i)
what_gives (Begin spans) i r = begin_gives spans.list r
