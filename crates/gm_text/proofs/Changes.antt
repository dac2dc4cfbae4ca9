-- Calls, effects and entries are read back from their texts.
use Rattle.std.proofs.Common.{◌≡◌, ℕ, List, [], ◌∷◌, ◌++◌, eqb, false, refl, sym, ◌∙◌, ap, drop}
use Rattle.std.specs.Prelude.{codes}
use Rattle.gm_base.specs.declared.calls.Ioctl.{Ioctl}
use Rattle.gm_base.specs.declared.calls.Ioctl.TheVariants.{Create, Region2, Attrs, Punch, Allocate, Close, Populate, Poke, Peek}
use Rattle.gm_base.specs.declared.calls.Region.{Region}
use Rattle.gm_flat.specs.declared.effect.Effect.{Effect}
use Rattle.gm_flat.specs.declared.effect.Effect.TheVariants.{File, Slot, Mark, NoSlot, Move, Attr, Cut, Shut, Word}
use Rattle.gm_flat.specs.InTypes.{IsCallInTypes, IsEffectInTypes}
use Rattle.gm_text.specs.Text.{call_text, effect_text}
use Rattle.gm_text.proofs.Decimals.{NoDigit}
use Rattle.gm_text.proofs.Parts.{tag, clash, extent_is}
use Rattle.gm_text.proofs.Weaves.{Num, Maybe, OfKind, Bit, weave_apart}

abbrev region : ℕ → ℕ → ℕ → ℕ → ℕ → ℕ → ℕ → Region
region slot flags gpa size user fd offset = record { slot = slot; flags = flags; gpa = gpa; size = size; user = user; fd = fd; offset = offset }

region_same : (r s : Region) → (Num r.slot ∷ Num r.flags ∷ Num r.gpa ∷ Num r.size ∷ Num r.user ∷ Num r.fd ∷ Num r.offset ∷ []) ≡ (Num s.slot ∷ Num s.flags ∷ Num s.gpa ∷ Num s.size ∷ Num s.user ∷ Num s.fd ∷ Num s.offset ∷ []) → r ≡ s
region_same r s h =
    let e0 : r.slot ≡ s.slot = cc in
    let e1 : r.flags ≡ s.flags = cc in
    let e2 : r.gpa ≡ s.gpa = cc in
    let e3 : r.size ≡ s.size = cc in
    let e4 : r.user ≡ s.user = cc in
    let e5 : r.fd ≡ s.fd = cc in
    let e6 : r.offset ≡ s.offset = cc in
    ap (λ (n : ℕ). region n r.flags r.gpa r.size r.user r.fd r.offset) e0
    ∙ (ap (λ (n : ℕ). region s.slot n r.gpa r.size r.user r.fd r.offset) e1
    ∙ (ap (λ (n : ℕ). region s.slot s.flags n r.size r.user r.fd r.offset) e2
    ∙ (ap (λ (n : ℕ). region s.slot s.flags s.gpa n r.user r.fd r.offset) e3
    ∙ (ap (λ (n : ℕ). region s.slot s.flags s.gpa s.size n r.fd r.offset) e4
    ∙ (ap (λ (n : ℕ). region s.slot s.flags s.gpa s.size s.user n r.offset) e5
    ∙ (ap (λ (n : ℕ). region s.slot s.flags s.gpa s.size s.user s.fd n) e6))))))

-- which call it is, by the three bytes after `judge `
abbrev call_code : Ioctl → ℕ
call_code (Create size flags) = tag (codes "create")
call_code (Region2 r) = tag (codes "region")
call_code (Attrs address size attributes flags) = tag (codes "attrs")
call_code (Punch fd offset len) = tag (codes "punch")
call_code (Allocate fd offset len) = tag (codes "allocate")
call_code (Close fd) = tag (codes "close")
call_code (Populate gpa pages user) = tag (codes "populate")
call_code (Poke address value) = tag (codes "poke")
call_code (Peek address) = tag (codes "peek")

call_tag : (c : Ioctl) (x : List ℕ) → tag (drop 6 (call_text c ++ x)) ≡ call_code c
call_tag (Create size flags) x = refl
call_tag (Region2 r) x = refl
call_tag (Attrs address size attributes flags) x = refl
call_tag (Punch fd offset len) x = refl
call_tag (Allocate fd offset len) x = refl
call_tag (Close fd) x = refl
call_tag (Populate gpa pages user) x = refl
call_tag (Poke address value) x = refl
call_tag (Peek address) x = refl

other_call : {A : Type 0} (c d : Ioctl) (x y : List ℕ) → eqb (call_code c) (call_code d) ≡ false → call_text c ++ x ≡ call_text d ++ y → A
other_call c d x y ne e = clash (call_code c) (call_code d) ne (sym (call_tag c x) ∙ (ap (λ (l : List ℕ). tag (drop 6 l)) e ∙ call_tag d y))

pub call_apart : (c d : Ioctl) (x y : List ℕ) → IsCallInTypes c → IsCallInTypes d → NoDigit x → NoDigit y → call_text c ++ x ≡ call_text d ++ y → (c ≡ d) × (x ≡ y)
call_apart (Create size flags) (Create size2 flags2) x y p q hx hy e =
    let r = weave_apart (codes "judge create " ∷ codes " " ∷ []) (Num size ∷ Num flags ∷ []) (Num size2 ∷ Num flags2 ∷ []) x y ((p.0, q.0), ((p.1, q.1), tt)) refl hx hy e in
    let s : (Num size ∷ Num flags ∷ []) ≡ (Num size2 ∷ Num flags2 ∷ []) = r.0 in
    ((cc), r.1)
call_apart (Create size flags) d x y p q hx hy e = other_call (Create size flags) d x y refl e
call_apart (Region2 r) (Region2 s) x y p q hx hy e =
    let k = weave_apart (codes "judge region " ∷ codes " " ∷ codes " " ∷ codes " " ∷ codes " " ∷ codes " " ∷ codes " " ∷ []) (Num r.slot ∷ Num r.flags ∷ Num r.gpa ∷ Num r.size ∷ Num r.user ∷ Num r.fd ∷ Num r.offset ∷ []) (Num s.slot ∷ Num s.flags ∷ Num s.gpa ∷ Num s.size ∷ Num s.user ∷ Num s.fd ∷ Num s.offset ∷ []) x y ((p.0, q.0), ((p.1, q.1), ((p.2, q.2), ((p.3, q.3), ((p.4, q.4), ((p.5, q.5), ((p.6, q.6), tt))))))) refl hx hy e in
    let same : (Num r.slot ∷ Num r.flags ∷ Num r.gpa ∷ Num r.size ∷ Num r.user ∷ Num r.fd ∷ Num r.offset ∷ []) ≡ (Num s.slot ∷ Num s.flags ∷ Num s.gpa ∷ Num s.size ∷ Num s.user ∷ Num s.fd ∷ Num s.offset ∷ []) = k.0 in
    (ap (λ (z : Region). Region2 z) (region_same r s same), k.1)
call_apart (Region2 r) d x y p q hx hy e = other_call (Region2 r) d x y refl e
call_apart (Attrs address size attributes flags) (Attrs address2 size2 attributes2 flags2) x y p q hx hy e =
    let r = weave_apart (codes "judge attrs " ∷ codes " " ∷ codes " " ∷ codes " " ∷ []) (Num address ∷ Num size ∷ Num attributes ∷ Num flags ∷ []) (Num address2 ∷ Num size2 ∷ Num attributes2 ∷ Num flags2 ∷ []) x y ((p.0, q.0), ((p.1, q.1), ((p.2, q.2), ((p.3, q.3), tt)))) refl hx hy e in
    let s : (Num address ∷ Num size ∷ Num attributes ∷ Num flags ∷ []) ≡ (Num address2 ∷ Num size2 ∷ Num attributes2 ∷ Num flags2 ∷ []) = r.0 in
    ((cc), r.1)
call_apart (Attrs address size attributes flags) d x y p q hx hy e = other_call (Attrs address size attributes flags) d x y refl e
call_apart (Punch fd offset len) (Punch fd2 offset2 len2) x y p q hx hy e =
    let r = weave_apart (codes "judge punch " ∷ codes " " ∷ codes " " ∷ []) (Num fd ∷ Num offset ∷ Num len ∷ []) (Num fd2 ∷ Num offset2 ∷ Num len2 ∷ []) x y ((p.0, q.0), ((p.1, q.1), ((p.2, q.2), tt))) refl hx hy e in
    let s : (Num fd ∷ Num offset ∷ Num len ∷ []) ≡ (Num fd2 ∷ Num offset2 ∷ Num len2 ∷ []) = r.0 in
    ((cc), r.1)
call_apart (Punch fd offset len) d x y p q hx hy e = other_call (Punch fd offset len) d x y refl e
call_apart (Allocate fd offset len) (Allocate fd2 offset2 len2) x y p q hx hy e =
    let r = weave_apart (codes "judge allocate " ∷ codes " " ∷ codes " " ∷ []) (Num fd ∷ Num offset ∷ Num len ∷ []) (Num fd2 ∷ Num offset2 ∷ Num len2 ∷ []) x y ((p.0, q.0), ((p.1, q.1), ((p.2, q.2), tt))) refl hx hy e in
    let s : (Num fd ∷ Num offset ∷ Num len ∷ []) ≡ (Num fd2 ∷ Num offset2 ∷ Num len2 ∷ []) = r.0 in
    ((cc), r.1)
call_apart (Allocate fd offset len) d x y p q hx hy e = other_call (Allocate fd offset len) d x y refl e
call_apart (Close fd) (Close fd2) x y p q hx hy e =
    let r = weave_apart (codes "judge close " ∷ []) (Num fd ∷ []) (Num fd2 ∷ []) x y ((p, q), tt) refl hx hy e in
    let s : (Num fd ∷ []) ≡ (Num fd2 ∷ []) = r.0 in
    ((cc), r.1)
call_apart (Close fd) d x y p q hx hy e = other_call (Close fd) d x y refl e
call_apart (Populate gpa pages user) (Populate gpa2 pages2 user2) x y p q hx hy e =
    let r = weave_apart (codes "judge populate " ∷ codes " " ∷ codes " " ∷ []) (Num gpa ∷ Num pages ∷ Num user ∷ []) (Num gpa2 ∷ Num pages2 ∷ Num user2 ∷ []) x y ((p.0, q.0), ((p.1, q.1), ((p.2, q.2), tt))) refl hx hy e in
    let s : (Num gpa ∷ Num pages ∷ Num user ∷ []) ≡ (Num gpa2 ∷ Num pages2 ∷ Num user2 ∷ []) = r.0 in
    ((cc), r.1)
call_apart (Populate gpa pages user) d x y p q hx hy e = other_call (Populate gpa pages user) d x y refl e
call_apart (Poke address value) (Poke address2 value2) x y p q hx hy e =
    let r = weave_apart (codes "judge poke " ∷ codes " " ∷ []) (Num address ∷ Num value ∷ []) (Num address2 ∷ Num value2 ∷ []) x y ((p.0, q.0), ((p.1, q.1), tt)) refl hx hy e in
    let s : (Num address ∷ Num value ∷ []) ≡ (Num address2 ∷ Num value2 ∷ []) = r.0 in
    ((cc), r.1)
call_apart (Poke address value) d x y p q hx hy e = other_call (Poke address value) d x y refl e
call_apart (Peek address) (Peek address2) x y p q hx hy e =
    let r = weave_apart (codes "judge peek " ∷ []) (Num address ∷ []) (Num address2 ∷ []) x y ((p, q), tt) refl hx hy e in
    let s : (Num address ∷ []) ≡ (Num address2 ∷ []) = r.0 in
    ((cc), r.1)
call_apart (Peek address) d x y p q hx hy e = other_call (Peek address) d x y refl e

-- which effect it is, by the three bytes after `change `
abbrev effect_code : Effect → ℕ
effect_code (File file pages block) = tag (codes "file")
effect_code (Slot slot base pages user flags file index) = tag (codes "slot")
effect_code (Mark slot) = tag (codes "mark")
effect_code (NoSlot slot) = tag (codes "noslot")
effect_code (Move slot base) = tag (codes "move")
effect_code (Attr span kind) = tag (codes "attr")
effect_code (Cut file lo hi) = tag (codes "cut")
effect_code (Shut file) = tag (codes "shut")
effect_code (Word page word value) = tag (codes "word")

effect_tag : (c : Effect) (x : List ℕ) → tag (drop 7 (effect_text c ++ x)) ≡ effect_code c
effect_tag (File file pages block) x = refl
effect_tag (Slot slot base pages user flags file index) x = refl
effect_tag (Mark slot) x = refl
effect_tag (NoSlot slot) x = refl
effect_tag (Move slot base) x = refl
effect_tag (Attr span kind) x = refl
effect_tag (Cut file lo hi) x = refl
effect_tag (Shut file) x = refl
effect_tag (Word page word value) x = refl

other_effect : {A : Type 0} (c d : Effect) (x y : List ℕ) → eqb (effect_code c) (effect_code d) ≡ false → effect_text c ++ x ≡ effect_text d ++ y → A
other_effect c d x y ne e = clash (effect_code c) (effect_code d) ne (sym (effect_tag c x) ∙ (ap (λ (l : List ℕ). tag (drop 7 l)) e ∙ effect_tag d y))

pub effect_apart : (c d : Effect) (x y : List ℕ) → IsEffectInTypes c → IsEffectInTypes d → NoDigit x → NoDigit y → effect_text c ++ x ≡ effect_text d ++ y → (c ≡ d) × (x ≡ y)
effect_apart (File file pages block) (File file2 pages2 block2) x y p q hx hy e =
    let r = weave_apart (codes "change file " ∷ codes " pages=" ∷ codes " block=" ∷ []) (Num file ∷ Num pages ∷ Bit block ∷ []) (Num file2 ∷ Num pages2 ∷ Bit block2 ∷ []) x y ((p.0, q.0), ((p.1, q.1), (tt, tt))) refl hx hy e in
    let s : (Num file ∷ Num pages ∷ Bit block ∷ []) ≡ (Num file2 ∷ Num pages2 ∷ Bit block2 ∷ []) = r.0 in
    ((cc), r.1)
effect_apart (File file pages block) d x y p q hx hy e = other_effect (File file pages block) d x y refl e
effect_apart (Slot slot base pages user flags file index) (Slot slot2 base2 pages2 user2 flags2 file2 index2) x y p q hx hy e =
    let r = weave_apart (codes "change slot " ∷ codes " base=" ∷ codes " pages=" ∷ codes " user=" ∷ codes " flags=" ∷ codes " file=" ∷ codes " index=" ∷ []) (Num slot ∷ Num base ∷ Num pages ∷ Num user ∷ Num flags ∷ Maybe file ∷ Num index ∷ []) (Num slot2 ∷ Num base2 ∷ Num pages2 ∷ Num user2 ∷ Num flags2 ∷ Maybe file2 ∷ Num index2 ∷ []) x y ((p.0, q.0), ((p.1, q.1), ((p.2, q.2), ((p.3, q.3), ((p.4, q.4), ((p.5, q.5), ((p.6, q.6), tt))))))) refl hx hy e in
    let s : (Num slot ∷ Num base ∷ Num pages ∷ Num user ∷ Num flags ∷ Maybe file ∷ Num index ∷ []) ≡ (Num slot2 ∷ Num base2 ∷ Num pages2 ∷ Num user2 ∷ Num flags2 ∷ Maybe file2 ∷ Num index2 ∷ []) = r.0 in
    ((cc), r.1)
effect_apart (Slot slot base pages user flags file index) d x y p q hx hy e = other_effect (Slot slot base pages user flags file index) d x y refl e
effect_apart (Mark slot) (Mark slot2) x y p q hx hy e =
    let r = weave_apart (codes "change mark " ∷ []) (Num slot ∷ []) (Num slot2 ∷ []) x y ((p, q), tt) refl hx hy e in
    let s : (Num slot ∷ []) ≡ (Num slot2 ∷ []) = r.0 in
    ((cc), r.1)
effect_apart (Mark slot) d x y p q hx hy e = other_effect (Mark slot) d x y refl e
effect_apart (NoSlot slot) (NoSlot slot2) x y p q hx hy e =
    let r = weave_apart (codes "change noslot " ∷ []) (Num slot ∷ []) (Num slot2 ∷ []) x y ((p, q), tt) refl hx hy e in
    let s : (Num slot ∷ []) ≡ (Num slot2 ∷ []) = r.0 in
    ((cc), r.1)
effect_apart (NoSlot slot) d x y p q hx hy e = other_effect (NoSlot slot) d x y refl e
effect_apart (Move slot base) (Move slot2 base2) x y p q hx hy e =
    let r = weave_apart (codes "change move " ∷ codes " base=" ∷ []) (Num slot ∷ Num base ∷ []) (Num slot2 ∷ Num base2 ∷ []) x y ((p.0, q.0), ((p.1, q.1), tt)) refl hx hy e in
    let s : (Num slot ∷ Num base ∷ []) ≡ (Num slot2 ∷ Num base2 ∷ []) = r.0 in
    ((cc), r.1)
effect_apart (Move slot base) d x y p q hx hy e = other_effect (Move slot base) d x y refl e
effect_apart (Cut file lo hi) (Cut file2 lo2 hi2) x y p q hx hy e =
    let r = weave_apart (codes "change cut " ∷ codes " " ∷ codes "-" ∷ []) (Num file ∷ Num lo ∷ Num hi ∷ []) (Num file2 ∷ Num lo2 ∷ Num hi2 ∷ []) x y ((p.0, q.0), ((p.1, q.1), ((p.2, q.2), tt))) refl hx hy e in
    let s : (Num file ∷ Num lo ∷ Num hi ∷ []) ≡ (Num file2 ∷ Num lo2 ∷ Num hi2 ∷ []) = r.0 in
    ((cc), r.1)
effect_apart (Cut file lo hi) d x y p q hx hy e = other_effect (Cut file lo hi) d x y refl e
effect_apart (Shut file) (Shut file2) x y p q hx hy e =
    let r = weave_apart (codes "change shut " ∷ []) (Num file ∷ []) (Num file2 ∷ []) x y ((p, q), tt) refl hx hy e in
    let s : (Num file ∷ []) ≡ (Num file2 ∷ []) = r.0 in
    ((cc), r.1)
effect_apart (Shut file) d x y p q hx hy e = other_effect (Shut file) d x y refl e
effect_apart (Word page word value) (Word page2 word2 value2) x y p q hx hy e =
    let r = weave_apart (codes "change word page=" ∷ codes " word=" ∷ codes " value=" ∷ []) (Num page ∷ Num word ∷ Num value ∷ []) (Num page2 ∷ Num word2 ∷ Num value2 ∷ []) x y ((p.0, q.0), ((p.1, q.1), ((p.2, q.2), tt))) refl hx hy e in
    let s : (Num page ∷ Num word ∷ Num value ∷ []) ≡ (Num page2 ∷ Num word2 ∷ Num value2 ∷ []) = r.0 in
    ((cc), r.1)
effect_apart (Word page word value) d x y p q hx hy e = other_effect (Word page word value) d x y refl e
effect_apart (Attr span kind) (Attr span2 kind2) x y p q hx hy e =
    let r = weave_apart (codes "change attr " ∷ codes "-" ∷ codes " " ∷ []) (Num span.lo ∷ Num span.hi ∷ OfKind kind ∷ []) (Num span2.lo ∷ Num span2.hi ∷ OfKind kind2 ∷ []) x y ((p.0, q.0), ((p.1, q.1), (tt, tt))) refl hx hy e in
    let s : (Num span.lo ∷ Num span.hi ∷ OfKind kind ∷ []) ≡ (Num span2.lo ∷ Num span2.hi ∷ OfKind kind2 ∷ []) = r.0 in
    let low : span.lo ≡ span2.lo = cc in
    let high : span.hi ≡ span2.hi = cc in
    let same : span ≡ span2 = extent_is span span2 low high in
    ((cc), r.1)
effect_apart (Attr span kind) d x y p q hx hy e = other_effect (Attr span kind) d x y refl e
