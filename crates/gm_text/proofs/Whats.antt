-- Entries and histories are read back from their texts.
use Rattle.std.proofs.Common.{◌≡◌, ℕ, List, [], ◌∷◌, ◌++◌, eqb, false, refl, sym, ◌∙◌, ap, append_assoc}
use Rattle.std.specs.Prelude.{codes}
use Rattle.std.specs.Fmt.{decimal}
use Rattle.std.proofs.lemmas.List.{append_cancel_left}
use Rattle.std.proofs.lemmas.Bool.{both_ways}
use Rattle.gm_base.specs.Aim.{Aim}
use Rattle.gm_base.specs.Extent.{Extent}
use Rattle.gm_base.specs.declared.calls.Ioctl.{Ioctl}
use Rattle.gm_base.specs.declared.calls.Ioctl.TheVariants.{Create, Region2, Attrs, Punch, Allocate, Close, Populate, Poke, Peek}
use Rattle.gm_base.specs.declared.values.Actor.{Actor}
use Rattle.gm_base.specs.declared.values.Actor.TheVariants.{Vcpu, Caller}
use Rattle.gm_base.specs.declared.values.Folio.{Folio}
use Rattle.gm_base.specs.declared.values.Level.{Level}
use Rattle.gm_flat.specs.declared.effect.Backing.{Backing}
use Rattle.gm_flat.specs.declared.effect.Backing.TheVariants.{User, Folio as InFolio}
use Rattle.gm_flat.specs.declared.effect.Effect.{Effect}
use Rattle.gm_flat.specs.declared.effect.Effect.TheVariants.{File, Slot, Mark, NoSlot, Move, Attr, Cut, Shut, Word}
use Rattle.gm_flat.specs.declared.effect.Exit.{Exit}
use Rattle.gm_flat.specs.declared.effect.Exit.TheVariants.{Fault, Mmio, NoFrame}
use Rattle.gm_flat.specs.declared.effect.Reply.{Reply}
use Rattle.gm_flat.specs.declared.effect.Reply.TheVariants.{Good, Bad}
use Rattle.gm_flat.specs.declared.entry.Entry.{Entry}
use Rattle.gm_flat.specs.declared.entry.What.{What}
use Rattle.gm_flat.specs.declared.entry.What.TheVariants.{Enter, Flush, Miss, Sample, Look, Get, Install, Retry, Touch, Left, Judge, Begin, Acked, Change, Page, End, Answer, Free, Gone}
use Rattle.gm_flat.specs.InTypes.{IsU64, IsActorInTypes, IsAimInTypes, IsBackingInTypes, IsWhatInTypes, AreInTypes, roomless, roomless_entries}
use Rattle.gm_flat.specs.Plain.{IsPlain, IsPlainWhat}
use Rattle.gm_text.specs.Text.{access_text, actor_letter, actor_number, backing_text, entries_text, entry_text, joined, level_text, what_text}
use Rattle.gm_text.proofs.Changes.{call_apart, effect_apart}
use Rattle.gm_text.proofs.Decimals.{NoDigit, is_digit, decimal_apart, decimal_first}
use Rattle.gm_text.proofs.Parts.{tag, clash, access_apart, backing_apart, exit_apart, folio_is, get_apart, reply_apart, spans_apart}
use Rattle.gm_text.proofs.Weaves.{Num, Maybe, OfKind, OfLevel, heads, weave_apart}

-- which kind of entry it is, by the first three bytes of what it says
abbrev code : What → ℕ
code Enter = tag (codes "enter")
code Flush = tag (codes "flush")
code (Miss access) = tag (codes "miss")
code (Sample at) = tag (codes "sample")
code (Look at slot attr file) = tag (codes "look")
code (Get backing fresh) = tag (codes "get")
code (Install page level) = tag (codes "install")
code Retry = tag (codes "retry")
code (Touch access backing level value fill) = tag (codes "touch")
code (Left why) = tag (codes "exit")
code (Judge call) = tag (codes "judge")
code (Begin spans) = tag (codes "begin")
code Acked = tag (codes "acked")
code (Change effect) = tag (codes "change")
code (Page index folio pages) = tag (codes "page")
code End = tag (codes "end")
code (Answer reply) = tag (codes "answer")
code (Free folio pages) = tag (codes "free")
code Gone = tag (codes "gone")

what_tag : (w : What) (x : List ℕ) → tag (what_text w ++ x) ≡ code w
what_tag Enter x = refl
what_tag Flush x = refl
what_tag (Miss access) x = refl
what_tag (Sample at) x = refl
what_tag (Look at slot attr file) x = refl
what_tag (Get (User page) fresh) x = refl
what_tag (Get (InFolio folio) fresh) x = refl
what_tag (Install page level) x = refl
what_tag Retry x = refl
what_tag (Touch access backing level value fill) x = refl
what_tag (Left (Fault flags gpa size)) x = refl
what_tag (Left (Mmio gpa)) x = refl
what_tag (Left NoFrame) x = refl
what_tag (Judge (Create size flags)) x = refl
what_tag (Judge (Region2 r)) x = refl
what_tag (Judge (Attrs address size attributes flags)) x = refl
what_tag (Judge (Punch fd offset len)) x = refl
what_tag (Judge (Allocate fd offset len)) x = refl
what_tag (Judge (Close fd)) x = refl
what_tag (Judge (Populate gpa pages user)) x = refl
what_tag (Judge (Poke address value)) x = refl
what_tag (Judge (Peek address)) x = refl
what_tag (Begin spans) x = refl
what_tag Acked x = refl
what_tag (Change (File file pages block)) x = refl
what_tag (Change (Slot slot base pages user flags file index)) x = refl
what_tag (Change (Mark slot)) x = refl
what_tag (Change (NoSlot slot)) x = refl
what_tag (Change (Move slot base)) x = refl
what_tag (Change (Attr span kind)) x = refl
what_tag (Change (Cut file lo hi)) x = refl
what_tag (Change (Shut file)) x = refl
what_tag (Change (Word page word value)) x = refl
what_tag (Page index folio pages) x = refl
what_tag End x = refl
what_tag (Answer (Good n)) x = refl
what_tag (Answer (Bad errno)) x = refl
what_tag (Free folio pages) x = refl
what_tag Gone x = refl

other : {A : Type 0} (w v : What) (x y : List ℕ) → eqb (code w) (code v) ≡ false → what_text w ++ x ≡ what_text v ++ y → A
other w v x y ne e = clash (code w) (code v) ne (sym (what_tag w x) ∙ (ap tag e ∙ what_tag v y))

-- the end of a touch
abbrev touch_end : Level → ℕ → ℕ → List ℕ
touch_end level value fill = joined (codes " level=" ∷ level_text level ∷ codes " value=" ∷ decimal value ∷ codes " fill=" ∷ decimal fill ∷ [])

touch_apart : (a b : Aim) (c d : Backing) (k l : Level) (m n f g : ℕ) (x y : List ℕ) → IsAimInTypes a → IsAimInTypes b → IsBackingInTypes c → IsBackingInTypes d → IsU64 m → IsU64 n → IsU64 f → IsU64 g → what_text (Touch a c k m f) ++ 10 ∷ x ≡ what_text (Touch b d l n g) ++ 10 ∷ y → (Touch a c k m f ≡ Touch b d l n g) × (10 ∷ x ≡ 10 ∷ y)
touch_apart a b c d k l m n f g x y pa pb pc pd pm pn pf pg e =
    let e1 : (access_text a ++ 32 ∷ (backing_text c ++ touch_end k m f)) ++ 10 ∷ x ≡ (access_text b ++ 32 ∷ (backing_text d ++ touch_end l n g)) ++ 10 ∷ y = append_cancel_left (codes "touch ") _ _ e in
    let e2 : access_text a ++ 32 ∷ ((backing_text c ++ touch_end k m f) ++ 10 ∷ x) ≡ access_text b ++ 32 ∷ ((backing_text d ++ touch_end l n g) ++ 10 ∷ y) = sym (append_assoc (access_text a) (32 ∷ (backing_text c ++ touch_end k m f)) (10 ∷ x)) ∙ (e1 ∙ append_assoc (access_text b) (32 ∷ (backing_text d ++ touch_end l n g)) (10 ∷ y)) in
    let r = access_apart a b _ _ pa pb refl refl e2 in
    let e3 : (backing_text c ++ touch_end k m f) ++ 10 ∷ x ≡ (backing_text d ++ touch_end l n g) ++ 10 ∷ y = append_cancel_left (codes " ") _ _ r.1 in
    let e4 : backing_text c ++ (touch_end k m f ++ 10 ∷ x) ≡ backing_text d ++ (touch_end l n g ++ 10 ∷ y) = sym (append_assoc (backing_text c) (touch_end k m f) (10 ∷ x)) ∙ (e3 ∙ append_assoc (backing_text d) (touch_end l n g) (10 ∷ y)) in
    let s = backing_apart c d _ _ pc pd refl refl e4 in
    let t = weave_apart (codes " level=" ∷ codes " value=" ∷ codes " fill=" ∷ []) (OfLevel k ∷ Num m ∷ Num f ∷ []) (OfLevel l ∷ Num n ∷ Num g ∷ []) (10 ∷ x) (10 ∷ y) (tt, ((pm, pn), ((pf, pg), tt))) refl refl refl s.1 in
    let same_aim : a ≡ b = r.0 in
    let same_backing : c ≡ d = s.0 in
    let rest : (OfLevel k ∷ Num m ∷ Num f ∷ []) ≡ (OfLevel l ∷ Num n ∷ Num g ∷ []) = t.0 in
    let same_level : k ≡ l = cc in
    let same_value : m ≡ n = cc in
    let same_fill : f ≡ g = cc in
    (ap (λ (z : Aim). Touch z c k m f) same_aim ∙ (ap (λ (z : Backing). Touch b z k m f) same_backing ∙ (ap (λ (z : Level). Touch b d z m f) same_level ∙ (ap (λ (z : ℕ). Touch b d l z f) same_value ∙ ap (λ (z : ℕ). Touch b d l n z) same_fill))), t.1)

folio_page : (f g : Folio) (i j m n : ℕ) → (Num i ∷ Num f.serial ∷ Num f.frame ∷ Num m ∷ []) ≡ (Num j ∷ Num g.serial ∷ Num g.frame ∷ Num n ∷ []) → Page i f m ≡ Page j g n
folio_page f g i j m n s =
    let a : f.serial ≡ g.serial = cc in
    let b : f.frame ≡ g.frame = cc in
    let t : f ≡ g = folio_is f g a b in
    let u : i ≡ j = cc in
    let v : m ≡ n = cc in
    cc

folio_free : (f g : Folio) (m n : ℕ) → (Num f.serial ∷ Num f.frame ∷ Num m ∷ []) ≡ (Num g.serial ∷ Num g.frame ∷ Num n ∷ []) → Free f m ≡ Free g n
folio_free f g m n s =
    let a : f.serial ≡ g.serial = cc in
    let b : f.frame ≡ g.frame = cc in
    let t : f ≡ g = folio_is f g a b in
    let v : m ≡ n = cc in
    cc

what_apart : (w v : What) (x y : List ℕ) → IsPlainWhat w → IsPlainWhat v → IsWhatInTypes w → IsWhatInTypes v → what_text w ++ 10 ∷ x ≡ what_text v ++ 10 ∷ y → (roomless w ≡ roomless v) × (10 ∷ x ≡ 10 ∷ y)
what_apart Enter Enter x y i j p q e = (refl, append_cancel_left (codes "enter") _ _ e)
what_apart Enter v x y i j p q e = other Enter v _ _ refl e
what_apart Flush Flush x y i j p q e = (refl, append_cancel_left (codes "flush") _ _ e)
what_apart Flush v x y i j p q e = other Flush v _ _ refl e
what_apart (Miss a) (Miss b) x y i j p q e =
    let r = access_apart a b (10 ∷ x) (10 ∷ y) p q refl refl (append_cancel_left (codes "miss ") _ _ e) in
    (ap (λ (z : Aim). Miss z) r.0, r.1)
what_apart (Miss access) v x y i j p q e = other (Miss access) v _ _ refl e
what_apart (Sample m) (Sample n) x y i j p q e =
    let r = weave_apart (codes "sample at=" ∷ []) (Num m ∷ []) (Num n ∷ []) (10 ∷ x) (10 ∷ y) ((p, q), tt) refl refl refl e in
    let s : (Num m ∷ []) ≡ (Num n ∷ []) = r.0 in
    ((cc), r.1)
what_apart (Sample at) v x y i j p q e = other (Sample at) v _ _ refl e
what_apart (Look at slot attr file) (Look at2 slot2 attr2 file2) x y i j p q e =
    let r = weave_apart (codes "look at=" ∷ codes " slot=" ∷ codes " attr=" ∷ codes " file=" ∷ []) (Num at ∷ Maybe slot ∷ OfKind attr ∷ Maybe file ∷ []) (Num at2 ∷ Maybe slot2 ∷ OfKind attr2 ∷ Maybe file2 ∷ []) (10 ∷ x) (10 ∷ y) ((p.0, q.0), ((p.1, q.1), (tt, ((p.2, q.2), tt)))) refl refl refl e in
    let s : (Num at ∷ Maybe slot ∷ OfKind attr ∷ Maybe file ∷ []) ≡ (Num at2 ∷ Maybe slot2 ∷ OfKind attr2 ∷ Maybe file2 ∷ []) = r.0 in
    ((cc), r.1)
what_apart (Look at slot attr file) v x y i j p q e = other (Look at slot attr file) v _ _ refl e
what_apart (Get b m) (Get c n) x y i j p q e = get_apart b c m n (10 ∷ x) (10 ∷ y) i j p.0 q.0 p.1 q.1 refl refl e
what_apart (Get backing fresh) v x y i j p q e = other (Get backing fresh) v _ _ refl e
what_apart (Install page level) (Install page2 level2) x y i j p q e =
    let r = weave_apart (codes "install page=" ∷ codes " level=" ∷ []) (Num page ∷ OfLevel level ∷ []) (Num page2 ∷ OfLevel level2 ∷ []) (10 ∷ x) (10 ∷ y) ((p, q), (tt, tt)) refl refl refl e in
    let s : (Num page ∷ OfLevel level ∷ []) ≡ (Num page2 ∷ OfLevel level2 ∷ []) = r.0 in
    ((cc), r.1)
what_apart (Install page level) v x y i j p q e = other (Install page level) v _ _ refl e
what_apart Retry Retry x y i j p q e = (refl, append_cancel_left (codes "retry") _ _ e)
what_apart Retry v x y i j p q e = other Retry v _ _ refl e
what_apart (Touch a c k m f) (Touch b d l n g) x y i j p q e = touch_apart a b c d k l m n f g x y p.0 q.0 p.1 q.1 p.2 q.2 p.3 q.3 e
what_apart (Touch access backing level value fill) v x y i j p q e = other (Touch access backing level value fill) v _ _ refl e
what_apart (Left v) (Left w) x y i j p q e =
    let r = exit_apart v w (10 ∷ x) (10 ∷ y) p q refl refl e in
    (ap (λ (z : Exit). Left z) r.0, r.1)
what_apart (Left why) v x y i j p q e = other (Left why) v _ _ refl e
what_apart (Judge c) (Judge d) x y i j p q e =
    let r = call_apart c d (10 ∷ x) (10 ∷ y) p q refl refl e in
    (ap (λ (z : Ioctl). Judge z) r.0, r.1)
what_apart (Judge call) v x y i j p q e = other (Judge call) v _ _ refl e
what_apart (Begin s) (Begin t) x y i j p q e =
    let r = spans_apart s.list t.list x y p q (append_cancel_left (codes "begin") _ _ e) in
    (ap (λ (l : List Extent). Begin (record { list = l; spare = 0 })) r.0, r.1)
what_apart (Begin spans) v x y i j p q e = other (Begin spans) v _ _ refl e
what_apart Acked Acked x y i j p q e = (refl, append_cancel_left (codes "acked") _ _ e)
what_apart Acked v x y i j p q e = other Acked v _ _ refl e
what_apart (Change c) (Change d) x y i j p q e =
    let r = effect_apart c d (10 ∷ x) (10 ∷ y) p q refl refl e in
    (ap (λ (z : Effect). Change z) r.0, r.1)
what_apart (Change effect) v x y i j p q e = other (Change effect) v _ _ refl e
what_apart (Page k f m) (Page l g n) x y i j p q e =
    let r = weave_apart (codes "page index=" ∷ codes " serial=" ∷ codes " frame=" ∷ codes " pages=" ∷ []) (Num k ∷ Num f.serial ∷ Num f.frame ∷ Num m ∷ []) (Num l ∷ Num g.serial ∷ Num g.frame ∷ Num n ∷ []) (10 ∷ x) (10 ∷ y) ((p.0, q.0), ((p.1.0, q.1.0), ((p.1.1, q.1.1), ((p.2, q.2), tt)))) refl refl refl e in
    (folio_page f g k l m n r.0, r.1)
what_apart (Page index folio pages) v x y i j p q e = other (Page index folio pages) v _ _ refl e
what_apart End End x y i j p q e = (refl, append_cancel_left (codes "end") _ _ e)
what_apart End v x y i j p q e = other End v _ _ refl e
what_apart (Answer v) (Answer w) x y i j p q e =
    let r = reply_apart v w (10 ∷ x) (10 ∷ y) p q refl refl e in
    (ap (λ (z : Reply). Answer z) r.0, r.1)
what_apart (Answer reply) v x y i j p q e = other (Answer reply) v _ _ refl e
what_apart (Free f m) (Free g n) x y i j p q e =
    let r = weave_apart (codes "free serial=" ∷ codes " frame=" ∷ codes " pages=" ∷ []) (Num f.serial ∷ Num f.frame ∷ Num m ∷ []) (Num g.serial ∷ Num g.frame ∷ Num n ∷ []) (10 ∷ x) (10 ∷ y) ((p.0.0, q.0.0), ((p.0.1, q.0.1), ((p.1, q.1), tt))) refl refl refl e in
    (folio_free f g m n r.0, r.1)
what_apart (Free folio pages) v x y i j p q e = other (Free folio pages) v _ _ refl e
what_apart Gone Gone x y i j p q e = (refl, append_cancel_left (codes "gone") _ _ e)
what_apart Gone v x y i j p q e = other Gone v _ _ refl e

-- actors
actor_apart : (a b : Actor) (x y : List ℕ) → IsActorInTypes a → IsActorInTypes b → NoDigit x → NoDigit y → actor_letter a ++ (decimal (actor_number a) ++ x) ≡ actor_letter b ++ (decimal (actor_number b) ++ y) → (a ≡ b) × (x ≡ y)
actor_apart (Vcpu m) (Vcpu n) x y p q hx hy e =
    let r = decimal_apart m n x y p q hx hy (append_cancel_left (codes "v") _ _ e) in
    (ap (λ (k : ℕ). Vcpu k) r.0, r.1)
actor_apart (Caller m) (Caller n) x y p q hx hy e =
    let r = decimal_apart m n x y p q hx hy (append_cancel_left (codes "c") _ _ e) in
    (ap (λ (k : ℕ). Caller k) r.0, r.1)
actor_apart (Vcpu m) (Caller n) x y p q hx hy e = heads 118 99 _ _ refl e
actor_apart (Caller m) (Vcpu n) x y p q hx hy e = heads 99 118 _ _ refl e

-- an actor's letter is no digit
letter_first : (a : Actor) (x : List ℕ) → NoDigit (actor_letter a ++ x)
letter_first (Vcpu v) x = refl
letter_first (Caller c) x = refl

-- a line, grouped to the right
line : (e : Entry) (x : List ℕ) → entry_text e ++ x ≡ decimal e.turn ++ 32 ∷ (actor_letter e.actor ++ (decimal (actor_number e.actor) ++ 32 ∷ (what_text e.what ++ 10 ∷ x)))
line e x = simp append_assoc

abbrev entry : ℕ → Actor → What → Entry
entry turn actor what = record { turn = turn; actor = actor; what = what }

abbrev roomless_entry : Entry → Entry
roomless_entry e = entry e.turn e.actor (roomless e.what)

entry_apart : (e f : Entry) (x y : List ℕ) → IsPlainWhat e.what → IsPlainWhat f.what → IsU64 e.turn × IsActorInTypes e.actor × IsWhatInTypes e.what → IsU64 f.turn × IsActorInTypes f.actor × IsWhatInTypes f.what → entry_text e ++ x ≡ entry_text f ++ y → (roomless_entry e ≡ roomless_entry f) × (x ≡ y)
entry_apart e f x y i j p q h =
    let r = decimal_apart e.turn f.turn _ _ p.0 q.0 refl refl (sym (line e x) ∙ (h ∙ line f y)) in
    let a : actor_letter e.actor ++ (decimal (actor_number e.actor) ++ 32 ∷ (what_text e.what ++ 10 ∷ x)) ≡ actor_letter f.actor ++ (decimal (actor_number f.actor) ++ 32 ∷ (what_text f.what ++ 10 ∷ y)) = append_cancel_left (codes " ") _ _ r.1 in
    let s = actor_apart e.actor f.actor _ _ p.1 q.1 refl refl a in
    let t = what_apart e.what f.what x y i j p.2 q.2 (append_cancel_left (codes " ") _ _ s.1) in
    (ap (λ (n : ℕ). entry n e.actor (roomless e.what)) r.0 ∙ (ap (λ (z : Actor). entry f.turn z (roomless e.what)) s.0 ∙ ap (λ (z : What). entry f.turn f.actor z) t.0), append_cancel_left (codes "\n") x y t.1)

-- entries up to a line that begins with no digit
no_line : {A : Type 0} (f : Entry) (fs : List Entry) (x y : List ℕ) → IsU64 f.turn → 101 ∷ x ≡ (entry_text f ++ entries_text fs) ++ y → A
no_line f fs x y p e =
    absurd (both_ways (is_digit 101) refl (decimal_first f.turn 101 _ x p (sym (e ∙ (append_assoc (entry_text f) (entries_text fs) y ∙ line f (entries_text fs ++ y))))))

pub entries_apart : (es fs : List Entry) (x y : List ℕ) → IsPlain es → IsPlain fs → AreInTypes es → AreInTypes fs → entries_text es ++ 101 ∷ x ≡ entries_text fs ++ 101 ∷ y → (roomless_entries es ≡ roomless_entries fs) × (101 ∷ x ≡ 101 ∷ y)
entries_apart [] [] x y i j p q e = (refl, e)
entries_apart [] (f ∷ fs) x y i j p q e = no_line f fs x (101 ∷ y) q.0.0 e
entries_apart (f ∷ fs) [] x y i j p q e = no_line f fs y (101 ∷ x) p.0.0 (sym e)
entries_apart (f ∷ fs) (g ∷ gs) x y i j p q e =
    let r = entry_apart f g (entries_text fs ++ 101 ∷ x) (entries_text gs ++ 101 ∷ y) i.0 j.0 p.0 q.0 (sym (append_assoc (entry_text f) (entries_text fs) (101 ∷ x)) ∙ (e ∙ append_assoc (entry_text g) (entries_text gs) (101 ∷ y))) in
    let s = entries_apart fs gs x y i.1 j.1 p.1 q.1 r.1 in
    (ap (λ (z : Entry). z ∷ roomless_entries fs) r.0 ∙ ap (λ (l : List Entry). roomless_entry g ∷ l) s.0, s.1)
