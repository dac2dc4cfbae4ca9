-- No text of what an entry says has a newline.
use Rattle.std.proofs.Common.{◌≡◌, ℕ, List, [], ◌∷◌, ◌++◌, true, None, Some, refl, sym, ap, subst, append_assoc, arith}
use Rattle.std.specs.Prelude.{codes}
use Rattle.std.specs.Fmt.{decimal, digits}
use Rattle.gm_base.specs.Aim.{Aim}
use Rattle.gm_base.specs.Extent.{Extent}
use Rattle.gm_base.specs.declared.calls.Ioctl.TheVariants.{Create, Region2, Attrs, Punch, Allocate, Close, Populate, Poke, Peek}
use Rattle.gm_base.specs.declared.values.Kind.{Kind}
use Rattle.gm_base.specs.declared.values.Op.{Op}
use Rattle.gm_base.specs.declared.values.Op.TheVariants.{Read, Write}
use Rattle.gm_flat.specs.Plain.{IsPlainWhat}
use Rattle.gm_flat.specs.Roomy.{AreOfPages}
use Rattle.gm_flat.specs.declared.effect.Backing.{Backing}
use Rattle.gm_flat.specs.declared.effect.Backing.TheVariants.{User, Folio as InFolio}
use Rattle.gm_flat.specs.declared.effect.Effect.TheVariants.{File, Slot, Mark, NoSlot, Move, Attr, Cut, Shut, Word}
use Rattle.gm_flat.specs.declared.effect.Exit.TheVariants.{Fault, Mmio, NoFrame}
use Rattle.gm_flat.specs.declared.effect.Reply.TheVariants.{Good, Bad}
use Rattle.gm_flat.specs.declared.entry.What.{What}
use Rattle.gm_flat.specs.declared.entry.What.TheVariants.{Enter, Flush, Miss, Sample, Look, Get, Install, Retry, Touch, Left, Judge, Begin, Acked, Change, Page, End, Answer, Free, Gone}
use Rattle.gm_text.specs.Text.{what_text, access_text, backing_text, spans_text, span_text}
use Rattle.gm_history.specs.Ranges.{IsWhatRanged, IsAimRanged, IsBackingRanged}
use Rattle.gm_history.specs.Fields.{U64, U32, U16, PageNumber, Maybe, OfKind, OfLevel, Bit, OfErrno, OfSpan, part_text}
use Rattle.gm_history.specs.Patterns.{Say, weave}
use Rattle.gm_history.specs.Whats.{read_pieces, write_pieces, touch_pieces, region_pieces, slot_pieces}
use Rattle.gm_history.proofs.NumberReads.{lacks, lacks_append}
use Rattle.gm_history.proofs.Weaving.{weave_lacks}

four : decimal 4096 ≡ codes "4096"
unfolding digits
four = refl

aim_lacks : (op : Op) (page word : ℕ) (kind : Kind) → IsAimRanged (record { page = page; word = word; op = op; kind = kind }) → lacks 10 (access_text (record { page = page; word = word; op = op; kind = kind })) ≡ true
aim_lacks Read page word kind r = weave_lacks 10 read_pieces (kind, (record { page = page; word = word }, tt)) (omega arith) (tt, ((r.0, r.1), tt)) refl
aim_lacks (Write value) page word kind r = weave_lacks 10 write_pieces (kind, (record { page = page; word = word }, (value, tt))) (omega arith) (tt, ((r.0, r.1), (r.2, tt))) refl

pub access_lacks : (a : Aim) → IsAimRanged a → lacks 10 (access_text a) ≡ true
access_lacks a r = aim_lacks a.op a.page a.word a.kind r

backing_lacks : (b : Backing) → IsBackingRanged b → lacks 10 (backing_text b) ≡ true
backing_lacks (User page) r = weave_lacks 10 (Say (codes "user=") U64 ∷ []) (page, tt) (omega arith) (r, tt) refl
backing_lacks (InFolio f) r = weave_lacks 10 (Say (codes "serial=") U64 ∷ Say (codes " frame=") U32 ∷ []) (f.serial, (f.frame, tt)) (omega arith) (r.0, (r.1, tt)) refl

spans_lack : (ss : List Extent) → AreOfPages ss → lacks 10 (spans_text ss) ≡ true
spans_lack [] r = refl
spans_lack (s ∷ ss) r = lacks_append 10 (span_text s) (spans_text ss) (weave_lacks 10 (Say (codes " ") U64 ∷ Say (codes "-") U64 ∷ []) (s.lo, (s.hi, tt)) (omega arith) ((omega (arith, r.0.0, r.0.1)), ((omega (arith, r.0.1)), tt)) refl) (spans_lack ss r.1)

attr_text : (s : Extent) (k : Kind) → what_text (Change (Attr s k)) ≡ weave (Say (codes "change attr ") OfSpan ∷ Say (codes " ") OfKind ∷ []) (s, (k, tt))
attr_text s k = ap (λ (l : List ℕ). codes "change attr " ++ l) (sym (append_assoc (decimal s.lo) (codes "-" ++ decimal s.hi) (codes " " ++ (part_text OfKind k ++ []))))

pub what_lacks : (w : What) → IsPlainWhat w → IsWhatRanged w → lacks 10 (what_text w) ≡ true
what_lacks Enter i r = refl
what_lacks Flush i r = refl
what_lacks Retry i r = refl
what_lacks Acked i r = refl
what_lacks End i r = refl
what_lacks Gone i r = refl
what_lacks (Left NoFrame) i r = refl
what_lacks (Sample at) i r = weave_lacks 10 ((Say (codes "sample at=") U64 ∷ [])) (at, tt) (omega arith) (r, tt) refl
what_lacks (Look at slot attr file) i r = weave_lacks 10 ((Say (codes "look at=") U64 ∷ Say (codes " slot=") Maybe ∷ Say (codes " attr=") OfKind ∷ Say (codes " file=") Maybe ∷ [])) (at, (slot, (attr, (file, tt)))) (omega arith) (r.0, (r.1, (tt, (r.2, tt)))) refl
what_lacks (Get (InFolio f) fresh) i r = weave_lacks 10 ((Say (codes "get serial=") U64 ∷ Say (codes " frame=") U32 ∷ Say (codes " fresh=") U16 ∷ [])) (f.serial, (f.frame, (fresh, tt))) (omega arith) (r.0.0, (r.0.1, (r.1, tt))) refl
what_lacks (Install page level) i r = weave_lacks 10 ((Say (codes "install page=") PageNumber ∷ Say (codes " level=") OfLevel ∷ [])) (page, (level, tt)) (omega arith) (r, (tt, tt)) refl
what_lacks (Left (Mmio gpa)) i r = weave_lacks 10 ((Say (codes "exit reason=6 gpa=") U64 ∷ [])) (gpa, tt) (omega arith) (r, tt) refl
what_lacks (Judge (Create size flags)) i r = weave_lacks 10 ((Say (codes "judge create ") U64 ∷ Say (codes " ") U64 ∷ [])) (size, (flags, tt)) (omega arith) (r.0, (r.1, tt)) refl
what_lacks (Judge (Region2 q)) i r = weave_lacks 10 (region_pieces) (q.slot, (q.flags, (q.gpa, (q.size, (q.user, (q.fd, (q.offset, tt))))))) (omega arith) (r.0, (r.1, (r.2, (r.3, (r.4, (r.5, (r.6, tt))))))) refl
what_lacks (Judge (Attrs address size attributes flags)) i r = weave_lacks 10 ((Say (codes "judge attrs ") U64 ∷ Say (codes " ") U64 ∷ Say (codes " ") U64 ∷ Say (codes " ") U64 ∷ [])) (address, (size, (attributes, (flags, tt)))) (omega arith) (r.0, (r.1, (r.2, (r.3, tt)))) refl
what_lacks (Judge (Punch fd offset len)) i r = weave_lacks 10 ((Say (codes "judge punch ") U32 ∷ Say (codes " ") U64 ∷ Say (codes " ") U64 ∷ [])) (fd, (offset, (len, tt))) (omega arith) (r.0, (r.1, (r.2, tt))) refl
what_lacks (Judge (Allocate fd offset len)) i r = weave_lacks 10 ((Say (codes "judge allocate ") U32 ∷ Say (codes " ") U64 ∷ Say (codes " ") U64 ∷ [])) (fd, (offset, (len, tt))) (omega arith) (r.0, (r.1, (r.2, tt))) refl
what_lacks (Judge (Close fd)) i r = weave_lacks 10 ((Say (codes "judge close ") U32 ∷ [])) (fd, tt) (omega arith) (r, tt) refl
what_lacks (Judge (Populate gpa pages user)) i r = weave_lacks 10 ((Say (codes "judge populate ") U64 ∷ Say (codes " ") U64 ∷ Say (codes " ") U64 ∷ [])) (gpa, (pages, (user, tt))) (omega arith) (r.0, (r.1, (r.2, tt))) refl
what_lacks (Judge (Poke address value)) i r = weave_lacks 10 ((Say (codes "judge poke ") U64 ∷ Say (codes " ") U64 ∷ [])) (address, (value, tt)) (omega arith) (r.0, (r.1, tt)) refl
what_lacks (Judge (Peek address)) i r = weave_lacks 10 ((Say (codes "judge peek ") U64 ∷ [])) (address, tt) (omega arith) (r, tt) refl
what_lacks (Change (File file pages block)) i r = weave_lacks 10 ((Say (codes "change file ") U32 ∷ Say (codes " pages=") U64 ∷ Say (codes " block=") Bit ∷ [])) (file, (pages, (block, tt))) (omega arith) (r.0, (r.1, (tt, tt))) refl
what_lacks (Change (Slot slot base pages user flags (Some file) index)) i r = weave_lacks 10 ((slot_pieces (Say (codes " file=") U32 ∷ Say (codes " index=") U64 ∷ []))) (slot, (base, (pages, (user, (flags, (file, (index, tt))))))) (omega arith) (r.0, (r.1, (r.2, (r.3, (r.4, (r.5, (r.6, tt))))))) refl
what_lacks (Change (Mark slot)) i r = weave_lacks 10 ((Say (codes "change mark ") U32 ∷ [])) (slot, tt) (omega arith) (r, tt) refl
what_lacks (Change (NoSlot slot)) i r = weave_lacks 10 ((Say (codes "change noslot ") U32 ∷ [])) (slot, tt) (omega arith) (r, tt) refl
what_lacks (Change (Move slot base)) i r = weave_lacks 10 ((Say (codes "change move ") U32 ∷ Say (codes " base=") U64 ∷ [])) (slot, (base, tt)) (omega arith) (r.0, (r.1, tt)) refl
what_lacks (Change (Cut file lo hi)) i r = weave_lacks 10 ((Say (codes "change cut ") U32 ∷ Say (codes " ") U64 ∷ Say (codes "-") U64 ∷ [])) (file, (lo, (hi, tt))) (omega arith) (r.0, (r.1, (r.2, tt))) refl
what_lacks (Change (Shut file)) i r = weave_lacks 10 ((Say (codes "change shut ") U32 ∷ [])) (file, tt) (omega arith) (r, tt) refl
what_lacks (Change (Word page word value)) i r = weave_lacks 10 ((Say (codes "change word page=") U64 ∷ Say (codes " word=") U16 ∷ Say (codes " value=") U64 ∷ [])) (page, (word, (value, tt))) (omega arith) (r.0, (r.1, (r.2, tt))) refl
what_lacks (Page index f pages) i r = weave_lacks 10 ((Say (codes "page index=") U64 ∷ Say (codes " serial=") U64 ∷ Say (codes " frame=") U32 ∷ Say (codes " pages=") U16 ∷ [])) (index, (f.serial, (f.frame, (pages, tt)))) (omega arith) (r.0, (r.1.0, (r.1.1, (r.2, tt)))) refl
what_lacks (Answer (Good n)) i r = weave_lacks 10 ((Say (codes "answer ok=") U64 ∷ [])) (n, tt) (omega arith) (r, tt) refl
what_lacks (Answer (Bad e)) i r = weave_lacks 10 ((Say (codes "answer errno=") OfErrno ∷ [])) (e, tt) (omega arith) (tt, tt) refl
what_lacks (Free f pages) i r = weave_lacks 10 ((Say (codes "free serial=") U64 ∷ Say (codes " frame=") U32 ∷ Say (codes " pages=") U32 ∷ [])) (f.serial, (f.frame, (pages, tt))) (omega arith) (r.0.0, (r.0.1, (r.1, tt))) refl
what_lacks (Miss a) i r = lacks_append 10 (codes "miss ") (access_text a) refl (access_lacks a r)
what_lacks (Touch a b level value fill) i r = lacks_append 10 (codes "touch ") (access_text a ++ (codes " " ++ (backing_text b ++ weave touch_pieces (level, (value, (fill, tt)))))) refl (lacks_append 10 (access_text a) (codes " " ++ (backing_text b ++ weave touch_pieces (level, (value, (fill, tt))))) (access_lacks a r.0) (lacks_append 10 (backing_text b) (weave touch_pieces (level, (value, (fill, tt)))) (backing_lacks b r.1) (weave_lacks 10 touch_pieces (level, (value, (fill, tt))) (omega arith) (tt, (r.2, (r.3, tt))) refl)))
what_lacks (Left (Fault flags gpa size)) i r = weave_lacks 10 (Say (codes "exit reason=39 errno=14 flags=") U64 ∷ Say (codes " gpa=") U64 ∷ Say (codes " size=") U64 ∷ []) (flags, (gpa, (size, tt))) (omega arith) (r.0, (r.1, (r.2, tt))) refl
what_lacks (Change (Attr s k)) i r = subst (λ (t : List ℕ). lacks 10 t ≡ true) (sym (attr_text s k)) (weave_lacks 10 (Say (codes "change attr ") OfSpan ∷ Say (codes " ") OfKind ∷ []) (s, (k, tt)) (omega arith) (r, (tt, tt)) refl)
what_lacks (Change (Slot slot base pages user flags None index)) i r = weave_lacks 10 (slot_pieces (Say (codes " file=") Maybe ∷ Say (codes " index=") U64 ∷ [])) (slot, (base, (pages, (user, (flags, (None, (index, tt))))))) (omega arith) (r.0, (r.1, (r.2, (r.3, (r.4, (tt, (r.6, tt))))))) refl
what_lacks (Get (User page) fresh) i r = weave_lacks 10 (Say (codes "get user=") U64 ∷ []) (page, tt) (omega arith) (r.0, tt) refl
what_lacks (Begin spans) i r = lacks_append 10 (codes "begin") (spans_text spans.list) refl (spans_lack spans.list r)
