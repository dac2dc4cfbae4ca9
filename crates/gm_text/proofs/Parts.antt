-- The parts of entries are read back from their texts.
use Rattle.std.proofs.Common.{◌≡◌, ℕ, ◌+◌, ◌*◌, ◌^◌, ◌<◌, List, [], ◌∷◌, ◌++◌, false, eqb, refl, sym, ◌∙◌, ap, append_assoc, arith, eq-eqb}
use Rattle.std.specs.Prelude.{codes}
use Rattle.std.proofs.lemmas.List.{append_cancel_left}
use Rattle.std.proofs.lemmas.Bool.{both_ways}
use Rattle.gm_base.specs.Aim.{Aim, address_of}
use Rattle.gm_base.specs.Extent.{Extent}
use Rattle.gm_base.specs.Values.{number_of}
use Rattle.gm_base.specs.declared.values.Errno.{Errno}
use Rattle.gm_base.specs.declared.values.Errno.TheVariants.{NoEnt, BadF, NoMem, Fault as BadAddress, Exist, Inval}
use Rattle.gm_base.specs.declared.values.Folio.{Folio}
use Rattle.gm_base.specs.declared.values.Kind.{Kind}
use Rattle.gm_base.specs.declared.values.Op.{Op}
use Rattle.gm_base.specs.declared.values.Op.TheVariants.{Read, Write}
use Rattle.gm_flat.specs.declared.effect.Backing.{Backing}
use Rattle.gm_flat.specs.declared.effect.Backing.TheVariants.{User, Folio as InFolio}
use Rattle.gm_flat.specs.declared.effect.Exit.{Exit}
use Rattle.gm_flat.specs.declared.effect.Exit.TheVariants.{Fault, Mmio, NoFrame}
use Rattle.gm_flat.specs.declared.effect.Reply.{Reply}
use Rattle.gm_flat.specs.declared.effect.Reply.TheVariants.{Good, Bad}
use Rattle.gm_flat.specs.declared.entry.What.TheVariants.{Get}
use Rattle.gm_flat.specs.InTypes.{IsU64, IsOpInTypes, IsAimInTypes, IsBackingInTypes, IsExitInTypes, IsReplyInTypes, AreSpansInTypes}
use Rattle.gm_flat.specs.Plain.{IsPlainGet}
use Rattle.gm_text.specs.Text.{access_text, access_text_by, backing_text, exit_text, get_text, reply_text, span_text, spans_text}
use Rattle.gm_text.proofs.Decimals.{NoDigit}
use Rattle.gm_text.proofs.Weaves.{Num, OfKind, heads, weave_apart}

-- the first three bytes as one number
abbrev pub tag : List ℕ → ℕ
tag (a ∷ b ∷ c ∷ x) = (a * 65536 + b * 256) + c
tag x = 0

pub clash : {A : Type 0} (m n : ℕ) → eqb m n ≡ false → m ≡ n → A
clash m n e h = absurd (both_ways (eqb m n) e (eq-eqb m n h))

-- accesses
op_apart : (o p : Op) (k l : Kind) (g h : ℕ) (x y : List ℕ) → IsOpInTypes o → IsOpInTypes p → IsU64 g → IsU64 h → NoDigit x → NoDigit y → access_text_by o k g ++ x ≡ access_text_by p l h ++ y → (o ≡ p) × (k ≡ l) × (g ≡ h) × (x ≡ y)
op_apart Read Read k l g h x y a b p q hx hy e =
    let r = weave_apart (codes "read " ∷ codes " " ∷ []) (OfKind k ∷ Num g ∷ []) (OfKind l ∷ Num h ∷ []) x y (tt, ((p, q), tt)) refl hx hy e in
    let s : (OfKind k ∷ Num g ∷ []) ≡ (OfKind l ∷ Num h ∷ []) = r.0 in
    (refl, (cc), (cc), r.1)
op_apart (Write m) (Write n) k l g h x y a b p q hx hy e =
    let r = weave_apart (codes "write " ∷ codes " " ∷ codes " " ∷ []) (OfKind k ∷ Num g ∷ Num m ∷ []) (OfKind l ∷ Num h ∷ Num n ∷ []) x y (tt, ((p, q), ((a, b), tt))) refl hx hy e in
    let s : (OfKind k ∷ Num g ∷ Num m ∷ []) ≡ (OfKind l ∷ Num h ∷ Num n ∷ []) = r.0 in
    ((cc), (cc), (cc), r.1)
op_apart Read (Write n) k l g h x y a b p q hx hy e = heads 114 119 _ _ refl e
op_apart (Write m) Read k l g h x y a b p q hx hy e = heads 119 114 _ _ refl e

abbrev aim : ℕ → ℕ → Op → Kind → Aim
aim page word op kind = record { page = page; word = word; op = op; kind = kind }

aim_is : (a b : Aim) → a.page ≡ b.page → a.word ≡ b.word → a.op ≡ b.op → a.kind ≡ b.kind → a ≡ b
aim_is a b p w o k =
    ap (λ (n : ℕ). aim n a.word a.op a.kind) p
    ∙ (ap (λ (n : ℕ). aim b.page n a.op a.kind) w ∙ (ap (λ (z : Op). aim b.page b.word z a.kind) o ∙ ap (λ (z : Kind). aim b.page b.word b.op z) k))

address_small : (page word : ℕ) → page < 4503599627370496 → word < 512 → 4096 * page + 8 * word < 2 ^ 64
address_small page word p w = omega arith

same_page : (p q v w : ℕ) → v < 512 → w < 512 → 4096 * p + 8 * v ≡ 4096 * q + 8 * w → p ≡ q
same_page p q v w h k e = omega arith

same_word : (p q v w : ℕ) → v < 512 → w < 512 → 4096 * p + 8 * v ≡ 4096 * q + 8 * w → v ≡ w
same_word p q v w h k e = omega arith

pub access_apart : (a b : Aim) (x y : List ℕ) → IsAimInTypes a → IsAimInTypes b → NoDigit x → NoDigit y → access_text a ++ x ≡ access_text b ++ y → (a ≡ b) × (x ≡ y)
access_apart a b x y p q hx hy e =
    let r = op_apart a.op b.op a.kind b.kind (address_of a) (address_of b) x y p.2 q.2 (address_small a.page a.word p.0 p.1) (address_small b.page b.word q.0 q.1) hx hy e in
    (aim_is a b (same_page a.page b.page a.word b.word p.1 q.1 r.2) (same_word a.page b.page a.word b.word p.1 q.1 r.2) r.0 r.1, r.3)

-- what backs a page
abbrev folio_by : ℕ → ℕ → Folio
folio_by serial frame = record { serial = serial; frame = frame }

pub folio_is : (f g : Folio) → f.serial ≡ g.serial → f.frame ≡ g.frame → f ≡ g
folio_is f g s r = ap (λ (n : ℕ). folio_by n f.frame) s ∙ ap (λ (n : ℕ). folio_by g.serial n) r

pub backing_apart : (b c : Backing) (x y : List ℕ) → IsBackingInTypes b → IsBackingInTypes c → NoDigit x → NoDigit y → backing_text b ++ x ≡ backing_text c ++ y → (b ≡ c) × (x ≡ y)
backing_apart (User m) (User n) x y p q hx hy e =
    let r = weave_apart (codes "user=" ∷ []) (Num m ∷ []) (Num n ∷ []) x y ((p, q), tt) refl hx hy e in
    let s : (Num m ∷ []) ≡ (Num n ∷ []) = r.0 in
    ((cc), r.1)
backing_apart (InFolio f) (InFolio g) x y p q hx hy e =
    let r = weave_apart (codes "serial=" ∷ codes " frame=" ∷ []) (Num f.serial ∷ Num f.frame ∷ []) (Num g.serial ∷ Num g.frame ∷ []) x y ((p.0, q.0), ((p.1, q.1), tt)) refl hx hy e in
    let s : (Num f.serial ∷ Num f.frame ∷ []) ≡ (Num g.serial ∷ Num g.frame ∷ []) = r.0 in
    let a : f.serial ≡ g.serial = cc in
    let b : f.frame ≡ g.frame = cc in
    (ap (λ (z : Folio). InFolio z) (folio_is f g a b), r.1)
backing_apart (User m) (InFolio g) x y p q hx hy e = heads 117 115 _ _ refl e
backing_apart (InFolio f) (User n) x y p q hx hy e = heads 115 117 _ _ refl e

-- a get's line has no `fresh` with a user page, where a plain one has 0
pub get_apart : (b c : Backing) (m n : ℕ) (x y : List ℕ) → IsPlainGet b m → IsPlainGet c n → IsBackingInTypes b → IsBackingInTypes c → IsU64 m → IsU64 n → NoDigit x → NoDigit y → get_text b m ++ x ≡ get_text c n ++ y → (Get b m ≡ Get c n) × (x ≡ y)
get_apart (User a) (User b) m n x y u v p q h k hx hy e =
    let r = weave_apart (codes "get user=" ∷ []) (Num a ∷ []) (Num b ∷ []) x y ((p, q), tt) refl hx hy e in
    let s : (Num a ∷ []) ≡ (Num b ∷ []) = r.0 in
    let t : a ≡ b = cc in
    (ap (λ (z : ℕ). Get (User z) m) t ∙ ap (λ (z : ℕ). Get (User b) z) (u ∙ sym v), r.1)
get_apart (InFolio f) (InFolio g) m n x y u v p q h k hx hy e =
    let r = weave_apart (codes "get serial=" ∷ codes " frame=" ∷ codes " fresh=" ∷ []) (Num f.serial ∷ Num f.frame ∷ Num m ∷ []) (Num g.serial ∷ Num g.frame ∷ Num n ∷ []) x y ((p.0, q.0), ((p.1, q.1), ((h, k), tt))) refl hx hy e in
    let s : (Num f.serial ∷ Num f.frame ∷ Num m ∷ []) ≡ (Num g.serial ∷ Num g.frame ∷ Num n ∷ []) = r.0 in
    let a : f.serial ≡ g.serial = cc in
    let b : f.frame ≡ g.frame = cc in
    let t : f ≡ g = folio_is f g a b in
    let w : m ≡ n = cc in
    (ap (λ (z : Folio). Get (InFolio z) m) t ∙ ap (λ (z : ℕ). Get (InFolio g) z) w, r.1)
get_apart (User a) (InFolio g) m n x y u v p q h k hx hy e = heads 117 115 _ _ refl (append_cancel_left (codes "get ") _ _ e)
get_apart (InFolio f) (User b) m n x y u v p q h k hx hy e = heads 115 117 _ _ refl (append_cancel_left (codes "get ") _ _ e)

-- exits
pub exit_apart : (v w : Exit) (x y : List ℕ) → IsExitInTypes v → IsExitInTypes w → NoDigit x → NoDigit y → exit_text v ++ x ≡ exit_text w ++ y → (v ≡ w) × (x ≡ y)
exit_apart (Fault a b c) (Fault f g h) x y p q hx hy e =
    let r = weave_apart (codes "exit reason=39 errno=14 flags=" ∷ codes " gpa=" ∷ codes " size=" ∷ []) (Num a ∷ Num b ∷ Num c ∷ []) (Num f ∷ Num g ∷ Num h ∷ []) x y ((p.0, q.0), ((p.1, q.1), ((p.2, q.2), tt))) refl hx hy e in
    let s : (Num a ∷ Num b ∷ Num c ∷ []) ≡ (Num f ∷ Num g ∷ Num h ∷ []) = r.0 in
    ((cc), r.1)
exit_apart (Mmio a) (Mmio b) x y p q hx hy e =
    let r = weave_apart (codes "exit reason=6 gpa=" ∷ []) (Num a ∷ []) (Num b ∷ []) x y ((p, q), tt) refl hx hy e in
    let s : (Num a ∷ []) ≡ (Num b ∷ []) = r.0 in
    ((cc), r.1)
exit_apart NoFrame NoFrame x y p q hx hy e = (refl, append_cancel_left (codes "exit errno=12") x y e)
exit_apart (Fault a b c) (Mmio g) x y p q hx hy e = heads 51 54 _ _ refl (append_cancel_left (codes "exit reason=") _ _ e)
exit_apart (Mmio g) (Fault a b c) x y p q hx hy e = heads 54 51 _ _ refl (append_cancel_left (codes "exit reason=") _ _ e)
exit_apart (Fault a b c) NoFrame x y p q hx hy e = heads 114 101 _ _ refl (append_cancel_left (codes "exit ") _ _ e)
exit_apart NoFrame (Fault a b c) x y p q hx hy e = heads 101 114 _ _ refl (append_cancel_left (codes "exit ") _ _ e)
exit_apart (Mmio g) NoFrame x y p q hx hy e = heads 114 101 _ _ refl (append_cancel_left (codes "exit ") _ _ e)
exit_apart NoFrame (Mmio g) x y p q hx hy e = heads 101 114 _ _ refl (append_cancel_left (codes "exit ") _ _ e)

-- answers
number_small : (e : Errno) → number_of e < 2 ^ 64
number_small NoEnt = omega arith
number_small BadF = omega arith
number_small NoMem = omega arith
number_small BadAddress = omega arith
number_small Exist = omega arith
number_small Inval = omega arith

same_errno : (e f : Errno) → number_of e ≡ number_of f → e ≡ f
same_errno NoEnt NoEnt h = refl
same_errno NoEnt f h = clash 2 (number_of f) refl h
same_errno BadF BadF h = refl
same_errno BadF f h = clash 9 (number_of f) refl h
same_errno NoMem NoMem h = refl
same_errno NoMem f h = clash 12 (number_of f) refl h
same_errno BadAddress BadAddress h = refl
same_errno BadAddress f h = clash 14 (number_of f) refl h
same_errno Exist Exist h = refl
same_errno Exist f h = clash 17 (number_of f) refl h
same_errno Inval Inval h = refl
same_errno Inval f h = clash 22 (number_of f) refl h

pub reply_apart : (v w : Reply) (x y : List ℕ) → IsReplyInTypes v → IsReplyInTypes w → NoDigit x → NoDigit y → reply_text v ++ x ≡ reply_text w ++ y → (v ≡ w) × (x ≡ y)
reply_apart (Good m) (Good n) x y p q hx hy e =
    let r = weave_apart (codes "answer ok=" ∷ []) (Num m ∷ []) (Num n ∷ []) x y ((p, q), tt) refl hx hy e in
    let s : (Num m ∷ []) ≡ (Num n ∷ []) = r.0 in
    ((cc), r.1)
reply_apart (Bad m) (Bad n) x y p q hx hy e =
    let r = weave_apart (codes "answer errno=" ∷ []) (Num (number_of m) ∷ []) (Num (number_of n) ∷ []) x y ((number_small m, number_small n), tt) refl hx hy e in
    let s : (Num (number_of m) ∷ []) ≡ (Num (number_of n) ∷ []) = r.0 in
    let t : number_of m ≡ number_of n = cc in
    (ap (λ (z : Errno). Bad z) (same_errno m n t), r.1)
reply_apart (Good m) (Bad n) x y p q hx hy e = heads 111 101 _ _ refl (append_cancel_left (codes "answer ") _ _ e)
reply_apart (Bad m) (Good n) x y p q hx hy e = heads 101 111 _ _ refl (append_cancel_left (codes "answer ") _ _ e)

-- spans
abbrev extent : ℕ → ℕ → Extent
extent lo hi = record { lo = lo; hi = hi }

pub extent_is : (s t : Extent) → s.lo ≡ t.lo → s.hi ≡ t.hi → s ≡ t
extent_is s t l h = ap (λ (n : ℕ). extent n s.hi) l ∙ ap (λ (n : ℕ). extent t.lo n) h

spans_end : (ss : List Extent) (x : List ℕ) → NoDigit (spans_text ss ++ 10 ∷ x)
spans_end [] x = refl
spans_end (s ∷ ss) x = refl

pub spans_apart : (ss ts : List Extent) (x y : List ℕ) → AreSpansInTypes ss → AreSpansInTypes ts → spans_text ss ++ 10 ∷ x ≡ spans_text ts ++ 10 ∷ y → (ss ≡ ts) × (10 ∷ x ≡ 10 ∷ y)
spans_apart [] [] x y p q e = (refl, e)
spans_apart [] (t ∷ ts) x y p q e = heads 10 32 _ _ refl e
spans_apart (s ∷ ss) [] x y p q e = heads 32 10 _ _ refl e
spans_apart (s ∷ ss) (t ∷ ts) x y p q e =
    let e1 : span_text s ++ (spans_text ss ++ 10 ∷ x) ≡ span_text t ++ (spans_text ts ++ 10 ∷ y) = sym (append_assoc (span_text s) (spans_text ss) (10 ∷ x)) ∙ (e ∙ append_assoc (span_text t) (spans_text ts) (10 ∷ y)) in
    let r = weave_apart (codes " " ∷ codes "-" ∷ []) (Num s.lo ∷ Num s.hi ∷ []) (Num t.lo ∷ Num t.hi ∷ []) (spans_text ss ++ 10 ∷ x) (spans_text ts ++ 10 ∷ y) ((p.0.0, q.0.0), ((p.0.1, q.0.1), tt)) refl (spans_end ss x) (spans_end ts y) e1 in
    let k : (Num s.lo ∷ Num s.hi ∷ []) ≡ (Num t.lo ∷ Num t.hi ∷ []) = r.0 in
    let low : s.lo ≡ t.lo = cc in
    let high : s.hi ≡ t.hi = cc in
    let same : s ≡ t = extent_is s t low high in
    let rest = spans_apart ss ts x y p.1 q.1 r.1 in
    (ap (λ (z : Extent). z ∷ ss) same ∙ ap (λ (l : List Extent). t ∷ l) rest.0, rest.1)
