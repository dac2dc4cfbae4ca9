-- What lines say in a version is what entries have as their text in it.
use Rattle.std.proofs.Common.{◌≡◌, ℕ, ◌<◌, List, [], ◌∷◌, ◌++◌, true, Option, None, Some, refl, sym, ◌∙◌, ap, subst, append-nil, arith}
use Rattle.std.specs.Prelude.{codes, IfSome}
use Rattle.std.specs.Fmt.{decimal}
use Rattle.gm_base.specs.Aim.{Aim}
use Rattle.gm_base.specs.declared.values.Folio.{Folio}
use Rattle.gm_base.specs.declared.values.Level.{Level}
use Rattle.gm_flat.specs.InTypes.{roomless}
use Rattle.gm_flat.specs.Plain.{IsPlainWhat}
use Rattle.gm_flat.specs.declared.effect.Backing.{Backing}
use Rattle.gm_flat.specs.declared.effect.Backing.TheVariants.{User, Folio as InFolio}
use Rattle.gm_flat.specs.declared.effect.Exit.TheVariants.{NoFrame}
use Rattle.gm_flat.specs.declared.entry.What.{What}
use Rattle.gm_flat.specs.declared.entry.What.TheVariants.{Enter, Flush, Retry, Acked, End, Gone, Left, Touch}
use Rattle.gm_text.specs.Text.{access_text, backing_text, what_text}
use Rattle.gm_text.specs.TextOne.{what_text_one}
use Rattle.gm_history.specs.declared.given.Giving.{Giving}
use Rattle.gm_history.specs.declared.given.Giving.TheVariants.{NoSerial, Serials, Refused}
use Rattle.gm_history.specs.declared.given.Run.{Run}
use Rattle.gm_history.specs.declared.version.Version.{Version}
use Rattle.gm_history.specs.declared.version.Version.TheVariants.{One, Two}
use Rattle.gm_history.specs.Cuts.{strip}
use Rattle.gm_history.specs.Fields.{U64, U32, after}
use Rattle.gm_history.specs.Given.{after_giving, frame_given, giving_of, HasLine, IsOld}
use Rattle.gm_history.specs.Numerals.{Got, with_got, with_rest}
use Rattle.gm_history.specs.OldWhats.{touch_by, old_touch_on, old_touch_of, if_kept, old_by, old_what_of, what_in}
use Rattle.gm_history.specs.Patterns.{Say, Holes, AreHolesRanged, weave, parse}
use Rattle.gm_history.specs.Ranges.{IsAimRanged, IsFolioRanged, IsWhatRanged, IsU64}
use Rattle.gm_history.specs.Whats.{access_at, backing_at, folio, folio_at, or_got, or_else, touch_on, touch_pieces, user_at, bare_of, touch_of, miss_of, sample_of, look_of, get_user_of, get_folio_of, install_of, fault_of, mmio_of, create_of, region_of, attrs_of, punch_of, allocate_of, close_of, populate_of, poke_of, peek_of, file_of, filed_slot_of, plain_slot_of, mark_of, noslot_of, move_of, attr_of, cut_line_of, shut_of, word_of, added_of, good_of, refused_of, free_of, bare_line_of, fault_line_of, call_of, effect_of, reply_line_of, begin_of, what_of}
use Rattle.gm_history.proofs.FieldReads.{none_some, some_is, strip_gives, strip_sound, with_got_sound, with_rest_sound}
use Rattle.gm_history.proofs.NumberReads.{NoDigit, lacks, lacks_append}
use Rattle.gm_history.proofs.Runs.{AreSmall, giving_roomless}
use Rattle.gm_history.proofs.Weaving.{parse_gives, parse_more, parse_sound, weave_lacks, whole_gives, whole_sound}
use Rattle.gm_history.proofs.WhatLines.{access_lacks, what_lacks}
use Rattle.gm_history.proofs.WhatReads.{access_sound, what_sound}
use Rattle.gm_history.proofs.WhatTexts.{access_gives, what_gives}

abbrev pub what_text_in : Version → What → List ℕ
what_text_in One w = what_text_one w
what_text_in Two w = what_text w

-- the version can say it after lines that gave these runs
abbrev pub IsSaid : Version → List Run → What → Type 0
IsSaid One runs w = IsOld runs w
IsSaid Two runs w = Unit {0}

-- the line is the text of what an entry says, which is plain and in its ranges
pub record SaidIn (version : Version) (runs : List Run) (line : List ℕ) (w : What) : Type 0 where
  pub text : what_text_in version w ≡ line
  pub plain : IsPlainWhat w
  pub ranged : IsWhatRanged w
  pub said : IsSaid version runs w

-- lines that both versions have

kept_text : (w : What) → HasLine (giving_of w) → what_text_one w ≡ what_text w
kept_text (Touch access (User page) level value fill) h = refl
kept_text (Touch access (InFolio f) level value fill) h = absurd h
kept_text w h = refl

kept_old : (runs : List Run) (w : What) → HasLine (giving_of w) → IsOld runs w
kept_old runs (Touch access (User page) level value fill) h = h
kept_old runs (Touch access (InFolio f) level value fill) h = absurd h
kept_old runs w h = h

if_kept_sound : (g : Giving) (w v : What) → if_kept g w ≡ Some v → HasLine g × (w ≡ v)
if_kept_sound Refused w v e = none_some e
if_kept_sound NoSerial w v e = (tt, some_is e)
if_kept_sound (Serials r) w v e = (tt, some_is e)

if_kept_gives : (g : Giving) (w : What) → HasLine g → if_kept g w ≡ Some w
if_kept_gives Refused w h = absurd h
if_kept_gives NoSerial w h = refl
if_kept_gives (Serials r) w h = refl

-- a touch of a folio

abbrev touch_end : Level → ℕ → ℕ → List ℕ
touch_end level value fill = weave touch_pieces (level, (value, (fill, tt)))

abbrev old_touch_text : Aim → ℕ → List ℕ → List ℕ
old_touch_text access serial tail = codes "touch " ++ (access_text access ++ (codes " serial=" ++ (decimal serial ++ tail)))

old_text_is : (access : Aim) (f : Folio) (level : Level) (value fill : ℕ) → what_text_one (Touch access (InFolio f) level value fill) ≡ old_touch_text access f.serial (touch_end level value fill)
old_text_is access f level value fill = ap (λ (l : List ℕ). codes "touch " ++ (access_text access ++ (codes " serial=" ++ (l ++ touch_end level value fill)))) (append-nil (decimal f.serial))

touch_by_sound : (access : Aim) (serial : ℕ) (o : Option ℕ) (rest : List ℕ) (w : What) → touch_by access serial o rest ≡ Some w → (frame : ℕ) × (o ≡ Some frame) × (touch_on access (InFolio (folio serial frame)) rest ≡ Some w)
touch_by_sound access serial None rest w e = none_some e
touch_by_sound access serial (Some frame) rest w e = (frame, refl, e)

old_touch_sound : (runs : List Run) (line : List ℕ) (w : What) → AreSmall runs → old_touch_of runs line ≡ Some w → SaidIn One runs line w
unfolding old_touch_of
old_touch_sound runs line w small e =
    let a = with_rest_sound (strip (codes "touch ") line) (λ a. with_got (access_at a) (λ access b. old_touch_on runs access b)) w e in
    let b = with_got_sound (access_at a.0) (λ access b. old_touch_on runs access b) w a.2 in
    let access : Aim = b.0.value in
    let c = parse_sound (Say (codes " serial=") U64 ∷ []) b.0.rest (λ h rest. touch_by access h.0 (frame_given runs h.0) rest) w b.2 in
    let serial : ℕ = c.holes.0 in
    let d = touch_by_sound access serial (frame_given runs serial) c.rest w c.value in
    let frame : ℕ = d.0 in
    let backing : Backing = InFolio (folio serial frame) in
    let f = whole_sound touch_pieces (λ h. Touch access backing h.0 h.1.0 h.1.1.0) c.rest w d.2 in
    let p = access_sound a.0 b.0 b.1 in
    let one : line ≡ codes "touch " ++ a.0 = strip_sound (codes "touch ") line a.0 a.1 in
    let two : a.0 ≡ access_text access ++ b.0.rest = p.0 in
    let three : b.0.rest ≡ weave (Say (codes " serial=") U64 ∷ []) c.holes ++ weave touch_pieces f.holes = c.text ∙ ap (λ (l : List ℕ). weave (Say (codes " serial=") U64 ∷ []) c.holes ++ l) f.text in
    let text : line ≡ codes "touch " ++ (access_text access ++ (weave (Say (codes " serial=") U64 ∷ []) c.holes ++ weave touch_pieces f.holes)) = one ∙ ap (λ (l : List ℕ). codes "touch " ++ l) (two ∙ ap (λ (l : List ℕ). access_text access ++ l) three) in
    subst (λ (v : What). SaidIn One runs line v) f.value (record { text = sym text; plain = tt; ranged = (p.1, (c.ranged.0, small serial frame d.1), f.ranged.1.0, f.ranged.1.1.0); said = d.1 })

-- it gives nothing
touch_gives_none : (access : Aim) (serial : ℕ) (o : Option ℕ) (rest : List ℕ) (w : What) → touch_by access serial o rest ≡ Some w → giving_of w ≡ Refused
touch_gives_none access serial None rest w e = none_some e
touch_gives_none access serial (Some frame) rest w e =
    let f = whole_sound touch_pieces (λ h. Touch access (InFolio (folio serial frame)) h.0 h.1.0 h.1.1.0) rest w e in
    ap giving_of (sym f.value)

old_gives_none : (runs : List Run) (line : List ℕ) (w : What) → old_touch_of runs line ≡ Some w → giving_of w ≡ Refused
unfolding old_touch_of
old_gives_none runs line w e =
    let a = with_rest_sound (strip (codes "touch ") line) (λ a. with_got (access_at a) (λ access b. old_touch_on runs access b)) w e in
    let b = with_got_sound (access_at a.0) (λ access b. old_touch_on runs access b) w a.2 in
    let c = parse_sound (Say (codes " serial=") U64 ∷ []) b.0.rest (λ h rest. touch_by b.0.value h.0 (frame_given runs h.0) rest) w b.2 in
    touch_gives_none b.0.value c.holes.0 (frame_given runs c.holes.0) c.rest w c.value

pub old_known : (runs : List Run) (line : List ℕ) (o : Option What) (P : List Run → Type 0) → o ≡ old_touch_of runs line → P runs → IfSome o (λ w. P (after_giving (giving_of w) runs))
old_known runs line None P e h = tt
old_known runs line (Some w) P e h = subst (λ (g : Giving). P (after_giving g runs)) (sym (old_gives_none runs line w (sym e))) h

-- version 2 has another line for it
backing_none : (serial : ℕ) (h : Holes touch_pieces) → IsU64 serial → backing_at (codes "serial=" ++ (decimal serial ++ weave touch_pieces h)) ≡ None
unfolding backing_at user_at folio_at after strip
backing_none serial h r = parse_more (codes "serial=") U64 (Say (codes " frame=") U32 ∷ []) serial (weave touch_pieces h) (λ k rest. Some (record { value = InFolio (folio k.0 k.1.0); rest = rest })) r refl

touch_none : (access : Aim) (serial : ℕ) (h : Holes touch_pieces) → IsAimRanged access → IsU64 serial → touch_of (old_touch_text access serial (weave touch_pieces h)) ≡ None
unfolding touch_of
touch_none access serial h p r =
    let tail : List ℕ = decimal serial ++ weave touch_pieces h in
    ap (λ (o : Option (List ℕ)). with_rest o (λ a. with_got (access_at a) (λ access b. with_rest (strip (codes " ") b) (λ c. with_got (backing_at c) (λ backing d. touch_on access backing d))))) (strip_gives (codes "touch ") (access_text access ++ (codes " serial=" ++ tail)))
    ∙ ap (λ (o : Option (Got Aim)). with_got o (λ access b. with_rest (strip (codes " ") b) (λ c. with_got (backing_at c) (λ backing d. touch_on access backing d)))) (access_gives access (codes " serial=" ++ tail) p refl)
    ∙ ap (λ (o : Option (List ℕ)). with_rest o (λ c. with_got (backing_at c) (λ backing d. touch_on access backing d))) (strip_gives (codes " ") (codes "serial=" ++ tail))
    ∙ ap (λ (o : Option (Got Backing)). with_got o (λ backing d. touch_on access backing d)) (backing_none serial h r)

what_none : (access : Aim) (serial : ℕ) (h : Holes touch_pieces) → IsAimRanged access → IsU64 serial → what_of (old_touch_text access serial (weave touch_pieces h)) ≡ None
unfolding what_of bare_of fault_line_of bare_line_of call_of effect_of reply_line_of miss_of sample_of look_of get_user_of get_folio_of install_of fault_of mmio_of create_of region_of attrs_of punch_of allocate_of close_of populate_of poke_of peek_of file_of filed_slot_of plain_slot_of mark_of noslot_of move_of attr_of cut_line_of shut_of word_of added_of good_of refused_of free_of begin_of after strip
what_none access serial h p r =
    let line : List ℕ = old_touch_text access serial (weave touch_pieces h) in
    ap (λ (o : Option What). or_else (or_else o (or_else (miss_of line) (or_else (sample_of line) (or_else (look_of line) (or_else (get_user_of line) (or_else (get_folio_of line) (or_else (install_of line) (or_else (fault_of line) (mmio_of line))))))))) (or_else (bare_line_of line) (or_else (call_of line) (or_else (effect_of line) (or_else (reply_line_of line) (begin_of line)))))) (touch_none access serial h p r)

old_touch_gives : (runs : List Run) (access : Aim) (f : Folio) (h : Holes touch_pieces) → IsAimRanged access → IsU64 f.serial → AreHolesRanged touch_pieces h → frame_given runs f.serial ≡ Some f.frame → old_touch_of runs (old_touch_text access f.serial (weave touch_pieces h)) ≡ Some (Touch access (InFolio f) h.0 h.1.0 h.1.1.0)
unfolding old_touch_of
old_touch_gives runs access f h p r k e =
    let tail : List ℕ = weave touch_pieces h in
    ap (λ (o : Option (List ℕ)). with_rest o (λ a. with_got (access_at a) (λ access b. old_touch_on runs access b))) (strip_gives (codes "touch ") (access_text access ++ (codes " serial=" ++ (decimal f.serial ++ tail))))
    ∙ ap (λ (o : Option (Got Aim)). with_got o (λ access b. old_touch_on runs access b)) (access_gives access (codes " serial=" ++ (decimal f.serial ++ tail)) p refl)
    ∙ parse_more (codes " serial=") U64 [] f.serial tail (λ h rest. touch_by access h.0 (frame_given runs h.0) rest) r refl
    ∙ ap (λ (o : Option ℕ). touch_by access f.serial o tail) e
    ∙ whole_gives touch_pieces (λ k. Touch access (InFolio f) k.0 k.1.0 k.1.1.0) h k refl

-- what is read is what was said

old_by_sound : (runs : List Run) (line : List ℕ) (w : What) (o : Option What) → AreSmall runs → what_of line ≡ o → old_by o (old_touch_of runs line) ≡ Some w → SaidIn One runs line w
old_by_sound runs line w None small k e = old_touch_sound runs line w small e
old_by_sound runs line w (Some v) small k e =
    let a = if_kept_sound (giving_of v) v w e in
    let s = what_sound line v k in
    subst (λ (z : What). SaidIn One runs line z) a.1 (record { text = kept_text v a.0 ∙ s.text; plain = s.plain; ranged = s.ranged; said = kept_old runs v a.0 })

pub what_in_sound : (version : Version) (runs : List Run) (line : List ℕ) (w : What) → AreSmall runs → what_in version runs line ≡ Some w → SaidIn version runs line w
unfolding old_what_of
what_in_sound One runs line w small e = old_by_sound runs line w (what_of line) small refl e
what_in_sound Two runs line w small e =
    let s = what_sound line w e in
    record { text = s.text; plain = s.plain; ranged = s.ranged; said = tt }

-- and what was said is read

kept_gives : (runs : List Run) (w : What) → IsPlainWhat w → IsWhatRanged w → HasLine (giving_of w) → old_what_of runs (what_text_one w) ≡ Some (roomless w)
unfolding old_what_of
kept_gives runs w i r h =
    ap (λ (l : List ℕ). old_by (what_of l) (old_touch_of runs l)) (kept_text w h)
    ∙ ap (λ (o : Option What). old_by o (old_touch_of runs (what_text w))) (what_gives w i r)
    ∙ if_kept_gives (giving_of (roomless w)) (roomless w) (subst HasLine (sym (giving_roomless w)) h)

touch_gives : (runs : List Run) (access : Aim) (f : Folio) (level : Level) (value fill : ℕ) → IsWhatRanged (Touch access (InFolio f) level value fill) → frame_given runs f.serial ≡ Some f.frame → old_what_of runs (what_text_one (Touch access (InFolio f) level value fill)) ≡ Some (Touch access (InFolio f) level value fill)
unfolding old_what_of
touch_gives runs access f level value fill r e =
    let h : Holes touch_pieces = (level, (value, (fill, tt))) in
    let line : List ℕ = old_touch_text access f.serial (weave touch_pieces h) in
    ap (λ (l : List ℕ). old_by (what_of l) (old_touch_of runs l)) (old_text_is access f level value fill)
    ∙ ap (λ (o : Option What). old_by o (old_touch_of runs line)) (what_none access f.serial h r.0 r.1.0)
    ∙ old_touch_gives runs access f h r.0 r.1.0 (tt, (r.2, (r.3, tt))) e

old_gives : (runs : List Run) (w : What) → IsPlainWhat w → IsWhatRanged w → IsOld runs w → old_what_of runs (what_text_one w) ≡ Some (roomless w)
old_gives runs (Touch access (User page) level value fill) i r s = kept_gives runs (Touch access (User page) level value fill) i r s
old_gives runs (Touch access (InFolio f) level value fill) i r s = touch_gives runs access f level value fill r s
old_gives runs w i r s = kept_gives runs w i r s

pub what_in_gives : (version : Version) (runs : List Run) (w : What) → IsPlainWhat w → IsWhatRanged w → IsSaid version runs w → what_in version runs (what_text_in version w) ≡ Some (roomless w)
what_in_gives One runs w i r s = old_gives runs w i r s
what_in_gives Two runs w i r s = what_gives w i r

-- no text of what an entry says has a newline

old_lacks : (w : What) → IsPlainWhat w → IsWhatRanged w → lacks 10 (what_text_one w) ≡ true
old_lacks (Touch access (User page) level value fill) i r = what_lacks (Touch access (User page) level value fill) i r
old_lacks (Touch access (InFolio f) level value fill) i r =
    let h : Holes touch_pieces = (level, (value, (fill, tt))) in
    let serial : List ℕ = weave (Say (codes " serial=") U64 ∷ []) (f.serial, tt) in
    lacks_append 10 (codes "touch ") (access_text access ++ (serial ++ weave touch_pieces h)) refl
    (lacks_append 10 (access_text access) (serial ++ weave touch_pieces h) (access_lacks access r.0)
    (lacks_append 10 serial (weave touch_pieces h) (weave_lacks 10 (Say (codes " serial=") U64 ∷ []) (f.serial, tt) (omega arith) (r.1.0, tt) refl) (weave_lacks 10 touch_pieces h (omega arith) (tt, (r.2, (r.3, tt))) refl)))
old_lacks w i r = what_lacks w i r

pub what_in_lacks : (version : Version) (w : What) → IsPlainWhat w → IsWhatRanged w → lacks 10 (what_text_in version w) ≡ true
what_in_lacks One w i r = old_lacks w i r
what_in_lacks Two w i r = what_lacks w i r
