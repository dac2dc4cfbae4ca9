-- Fields are read back from their texts, and what is read is such a text.
use Rattle.std.proofs.Common.{◌≡◌, ℕ, ◌+◌, ◌*◌, ◌/◌, ◌%◌, ◌^◌, ◌<◌, ◌≤◌, List, [], ◌∷◌, ◌++◌, Bool, true, false, ◌&&◌, cond, eqb, ltb, leb, Option, None, Some, refl, sym, ◌∙◌, ap, subst, append_assoc, arith, eq-eqb}
use Rattle.std.specs.Prelude.{codes}
use Rattle.std.specs.Fmt.{decimal}
use Rattle.std.proofs.lemmas.Bool.Decides.{nat_tests}
use Rattle.gm_base.specs.Extent.{Extent}
use Rattle.gm_base.specs.Values.{number_of}
use Rattle.gm_base.specs.declared.numbers.TheConstants.{PAGE_LIMIT, PAGE_BYTES, WORD_BYTES}
use Rattle.gm_base.specs.declared.values.Actor.{Actor}
use Rattle.gm_base.specs.declared.values.Actor.TheVariants.{Vcpu, Caller}
use Rattle.gm_base.specs.declared.values.Errno.{Errno}
use Rattle.gm_base.specs.declared.values.Errno.TheVariants.{NoEnt, BadF, NoMem, Fault, Exist, Inval}
use Rattle.gm_base.specs.declared.values.Kind.TheVariants.{Private, Shared}
use Rattle.gm_base.specs.declared.values.Level.TheVariants.{Small, Block}
use Rattle.gm_text.specs.Text.{bit_text, huge_text, kind_text, level_text, maybe_text}
use Rattle.gm_history.specs.Cuts.{strip}
use Rattle.gm_history.specs.declared.fields.Place.{Place}
use Rattle.gm_history.specs.Fields.{Part, Value, IsRanged, part_text, field_at, word_on, word_or, maybe_on, errno_by, errno_got, actor_got, actor_on, place_got, span_got, small_at, tiny_at, page_at, maybe_at, kind_at, level_at, bit_at, huge_at, errno_at, actor_at, address_at, span_at, U64, U32, U16, PageNumber, Maybe, OfKind, OfLevel, Bit, Huge, OfErrno, OfActor, Address, OfSpan, Nothing}
use Rattle.gm_history.specs.Numerals.{Got, got, with_got, with_rest, number_at, below}
use Rattle.gm_history.proofs.NumberReads.{NoDigit, lacks, number_sound, number_gives, decimal_lacks, lacks_append}

pub none_some : {A B : Type 0} {v : A} → None ≡ Some v → B
none_some e = absurd (clash e)
  where
    clash : {A : Type 0} {v : A} → None ≡ Some v → ⊥
    clash e = cc

pub some_is : {A : Type 0} {v w : A} → Some v ≡ Some w → v ≡ w
some_is e = cc

strip_step : (t : Bool) (w x : ℕ) (ws xs rest : List ℕ) → t ≡ eqb w x → (strip ws xs ≡ Some rest → xs ≡ ws ++ rest) → cond t (strip ws xs) None ≡ Some rest → x ∷ xs ≡ w ∷ (ws ++ rest)
strip_step true w x ws xs rest h step e =
    let same : w ≡ x = is_same w x h in
    let more : xs ≡ ws ++ rest = step e in
    cc
  where
    is_same : (w x : ℕ) → true ≡ eqb w x → w ≡ x
    is_same w x h = grind (arith, nat_tests)
strip_step false w x ws xs rest h step e = none_some e

pub strip_sound : (word bytes rest : List ℕ) → strip word bytes ≡ Some rest → bytes ≡ word ++ rest
unfolding strip
strip_sound [] bytes rest e = some_is e
strip_sound (w ∷ ws) [] rest e = none_some e
strip_sound (w ∷ ws) (x ∷ xs) rest e = strip_step (eqb w x) w x ws xs rest refl (strip_sound ws xs rest) e

strip_same : (t : Bool) (w : ℕ) (o p : Option (List ℕ)) → t ≡ true → o ≡ p → cond t o None ≡ p
strip_same true w o p h e = e
strip_same false w o p h e = absurd cc

pub strip_gives : (word x : List ℕ) → strip word (word ++ x) ≡ Some x
unfolding strip
strip_gives [] x = refl
strip_gives (w ∷ ws) x = strip_same (eqb w w) w (strip ws (ws ++ x)) (Some x) (eq-eqb w w refl) (strip_gives ws x)

below_step : (t : Bool) (limit : ℕ) (f g : Got ℕ) → t ≡ ltb f.value limit → cond t (Some f) None ≡ Some g → (Some f ≡ Some g) × (g.value < limit)
below_step true limit f g h e =
    let same : f ≡ g = some_is e in
    (e, subst (λ (z : Got ℕ). z.value < limit) same (is_less f.value limit h))
  where
    is_less : (a b : ℕ) → true ≡ ltb a b → a < b
    is_less a b h = grind (arith, nat_tests)
below_step false limit f g h e = none_some e

pub below_sound : (limit : ℕ) (o : Option (Got ℕ)) (g : Got ℕ) → below limit o ≡ Some g → (o ≡ Some g) × (g.value < limit)
below_sound limit None g e = none_some e
below_sound limit (Some f) g e = below_step (ltb f.value limit) limit f g refl e

below_true : (t : Bool) (o p : Option (Got ℕ)) → t ≡ true → o ≡ p → cond t o None ≡ p
below_true true o p h e = e
below_true false o p h e = absurd cc

less_is : (a b : ℕ) → a < b → ltb a b ≡ true
less_is a b h = grind (arith, nat_tests)

below_reads : (limit : ℕ) (bytes : List ℕ) (g : Got ℕ) → below limit (number_at bytes) ≡ Some g → (bytes ≡ decimal g.value ++ g.rest) × (g.value < limit)
below_reads limit bytes g e =
    let b = below_sound limit (number_at bytes) g e in
    ((number_sound bytes g b.0).0, b.1)

below_gives : (limit n : ℕ) (x : List ℕ) → n < 2 ^ 64 → n < limit → NoDigit x → below limit (number_at (decimal n ++ x)) ≡ Some (got n x)
below_gives limit n x h k d =
    ap (below limit) (number_gives n x h d) ∙ below_true (ltb n limit) (Some (got n x)) (Some (got n x)) (less_is n limit k) refl

-- one of two words
word_on_sound : {A : Type 0} (P : Got A → Type 0) (o : Option (List ℕ)) (value : A) (other : Option (Got A)) (g : Got A) → word_on o value other ≡ Some g → ((rest : List ℕ) → o ≡ Some rest → P (got value rest)) → (other ≡ Some g → P g) → P g
word_on_sound P (Some rest) value other g e one two = subst P (some_is e) (one rest refl)
word_on_sound P None value other g e one two = two e

two_words : {A : Type 0} (text : A → List ℕ) (w v : List ℕ) (a b : A) (bytes : List ℕ) (g : Got A) → text a ≡ w → text b ≡ v → word_or w a bytes (word_or v b bytes None) ≡ Some g → bytes ≡ text g.value ++ g.rest
two_words text w v a b bytes g ta tb e =
    word_on_sound (λ (z : Got _). bytes ≡ text z.value ++ z.rest) (strip w bytes) a (word_or v b bytes None) g e
    (λ rest s. strip_sound w bytes rest s ∙ ap (λ (t : List ℕ). t ++ rest) (sym ta))
    (λ k. word_on_sound (λ (z : Got _). bytes ≡ text z.value ++ z.rest) (strip v bytes) b None g k
    (λ rest s. strip_sound v bytes rest s ∙ ap (λ (t : List ℕ). t ++ rest) (sym tb))
    (λ n. none_some n))

pub with_got_sound : {A B : Type 0} (o : Option (Got A)) (k : A → List ℕ → Option B) (v : B) → with_got o k ≡ Some v → (g : Got A) × (o ≡ Some g) × (k g.value g.rest ≡ Some v)
with_got_sound None k v e = none_some e
with_got_sound (Some g) k v e = (g, refl, e)

pub with_rest_sound : {B : Type 0} (o : Option (List ℕ)) (k : List ℕ → Option B) (v : B) → with_rest o k ≡ Some v → (rest : List ℕ) × (o ≡ Some rest) × (k rest ≡ Some v)
with_rest_sound None k v e = none_some e
with_rest_sound (Some rest) k v e = (rest, refl, e)

maybe_parts : (o : Option (List ℕ)) (n : Option (Got ℕ)) (bytes : List ℕ) (g : Got (Option ℕ)) → ((rest : List ℕ) → o ≡ Some rest → bytes ≡ codes "-" ++ rest) → ((f : Got ℕ) → n ≡ Some f → (bytes ≡ decimal f.value ++ f.rest) × (f.value < 4294967296)) → maybe_on o n ≡ Some g → (bytes ≡ maybe_text g.value ++ g.rest) × IsRanged Maybe g.value
maybe_parts (Some rest) n bytes g p q e = subst (λ (z : Got (Option ℕ)). (bytes ≡ maybe_text z.value ++ z.rest) × IsRanged Maybe z.value) (some_is e) (p rest refl, tt)
maybe_parts None None bytes g p q e = none_some e
maybe_parts None (Some f) bytes g p q e = subst (λ (z : Got (Option ℕ)). (bytes ≡ maybe_text z.value ++ z.rest) × IsRanged Maybe z.value) (some_is e) (q f refl)

errno_step : (t : Bool) (n k : ℕ) (e f : Errno) (other : Option Errno) → t ≡ eqb n k → number_of f ≡ k → (other ≡ Some e → number_of e ≡ n) → cond t (Some f) other ≡ Some e → number_of e ≡ n
errno_step true n k e f other h p q r =
    let same : n ≡ k = is_same n k h in
    ap number_of (sym (some_is r)) ∙ p ∙ sym same
  where
    is_same : (n k : ℕ) → true ≡ eqb n k → n ≡ k
    is_same n k h = grind (arith, nat_tests)
errno_step false n k e f other h p q r = q r

errno_sound : (n : ℕ) (e : Errno) → errno_by n ≡ Some e → number_of e ≡ n
errno_sound n e r =
    errno_step (eqb n 2) n 2 e NoEnt _ refl refl
    (λ r. errno_step (eqb n 9) n 9 e BadF _ refl refl
    (λ r. errno_step (eqb n 12) n 12 e NoMem _ refl refl
    (λ r. errno_step (eqb n 14) n 14 e Fault _ refl refl
    (λ r. errno_step (eqb n 17) n 17 e Exist _ refl refl
    (λ r. errno_step (eqb n 22) n 22 e Inval _ refl refl (λ r. none_some r) r) r) r) r) r) r

errno_got_sound : (o : Option Errno) (rest : List ℕ) (g : Got Errno) → errno_got o rest ≡ Some g → (o ≡ Some g.value) × (rest ≡ g.rest)
errno_got_sound None rest g e = none_some e
errno_got_sound (Some f) rest g e =
    let same : got f rest ≡ g = some_is e in
    (ap (λ (z : Got Errno). Some z.value) same, ap (λ (z : Got Errno). z.rest) same)

actor_got_sound : (make : ℕ → Actor) (o : Option (Got ℕ)) (g : Got Actor) → actor_got make o ≡ Some g → (f : Got ℕ) × (o ≡ Some f) × (got (make f.value) f.rest ≡ g)
actor_got_sound make None g e = none_some e
actor_got_sound make (Some f) g e = (f, refl, some_is e)

abbrev ReadsActor : List ℕ → Got Actor → Type 0
ReadsActor bytes g = (bytes ≡ part_text OfActor g.value ++ g.rest) × IsRanged OfActor g.value

actor_step : (letter : List ℕ) (make : ℕ → Actor) (bytes : List ℕ) (o : Option (List ℕ)) (other : Option (Got Actor)) (g : Got Actor) → ((n : ℕ) → part_text OfActor (make n) ≡ letter ++ decimal n) → ((n : ℕ) → n < 4294967296 → IsRanged OfActor (make n)) → ((rest : List ℕ) → o ≡ Some rest → bytes ≡ letter ++ rest) → (other ≡ Some g → ReadsActor bytes g) → actor_on o make other ≡ Some g → ReadsActor bytes g
actor_step letter make bytes None other g t r p q e = q e
actor_step letter make bytes (Some rest) other g t r p q e =
    let a = actor_got_sound make (below 4294967296 (number_at rest)) g e in
    let b = below_reads 4294967296 rest a.0 a.1 in
    subst (ReadsActor bytes) a.2
    (p rest refl ∙ ap (λ (l : List ℕ). letter ++ l) b.0 ∙ sym (append_assoc letter (decimal a.0.value) a.0.rest) ∙ ap (λ (l : List ℕ). l ++ a.0.rest) (sym (t a.0.value)), r a.0.value b.1)

place_step : (t : Bool) (n : ℕ) (rest : List ℕ) (g : Got Place) → t ≡ eqb (n % WORD_BYTES) 0 → cond t (Some (got (record { page = n / PAGE_BYTES; word = n % PAGE_BYTES / WORD_BYTES }) rest)) None ≡ Some g → (n % 8 ≡ 0) × (got (record { page = n / PAGE_BYTES; word = n % PAGE_BYTES / WORD_BYTES }) rest ≡ g)
place_step true n rest g h e = (is_zero (n % 8) h, some_is e)
  where
    is_zero : (m : ℕ) → true ≡ eqb m 0 → m ≡ 0
    is_zero m h = grind (arith, nat_tests)
place_step false n rest g h e = none_some e

address_is : (n : ℕ) → n % 8 ≡ 0 → n ≡ 4096 * (n / 4096) + 8 * (n % 4096 / 8)
address_is n h = omega arith

page_small : (n : ℕ) → n < 2 ^ 64 → n / 4096 < 4503599627370496
page_small n h = omega arith

word_small : (n : ℕ) → n % 4096 / 8 < 512
word_small n = omega arith

address_sound : (bytes : List ℕ) (g : Got Place) → address_at bytes ≡ Some g → (bytes ≡ part_text Address g.value ++ g.rest) × IsRanged Address g.value
unfolding address_at
address_sound bytes g e =
    let a = with_got_sound (number_at bytes) (λ n rest. place_got n rest) g e in
    let b = number_sound bytes a.0 a.1 in
    let n : ℕ = a.0.value in
    let c = place_step (eqb (n % WORD_BYTES) 0) n a.0.rest g refl a.2 in
    subst (λ (z : Got Place). (bytes ≡ part_text Address z.value ++ z.rest) × IsRanged Address z.value) c.1
    (b.0 ∙ ap (λ (m : ℕ). decimal m ++ a.0.rest) (address_is n c.0), (page_small n b.1, word_small n))

span_step : (p q : Bool) (lo hi : ℕ) (rest : List ℕ) (g : Got Extent) → p ≡ ltb lo hi → q ≡ leb hi PAGE_LIMIT → cond (p && q) (Some (got (record { lo = lo; hi = hi }) rest)) None ≡ Some g → (lo < hi) × (hi ≤ PAGE_LIMIT) × (got (record { lo = lo; hi = hi }) rest ≡ g)
span_step true true lo hi rest g h k e = (is_less lo hi h, is_most hi PAGE_LIMIT k, some_is e)
  where
    is_less : (a b : ℕ) → true ≡ ltb a b → a < b
    is_less a b h = grind (arith, nat_tests)

    is_most : (a b : ℕ) → true ≡ leb a b → a ≤ b
    is_most a b h = grind (arith, nat_tests)
span_step true false lo hi rest g h k e = none_some e
span_step false q lo hi rest g h k e = none_some e

pub span_sound : (bytes : List ℕ) (g : Got Extent) → span_at bytes ≡ Some g → (bytes ≡ part_text OfSpan g.value ++ g.rest) × IsRanged OfSpan g.value
unfolding span_at
span_sound bytes g e =
    let a = with_got_sound (number_at bytes) (λ lo more. with_rest (strip (codes "-") more) (λ last. with_got (number_at last) (λ hi rest. span_got lo hi rest))) g e in
    let b = with_rest_sound (strip (codes "-") a.0.rest) (λ last. with_got (number_at last) (λ hi rest. span_got a.0.value hi rest)) g a.2 in
    let c = with_got_sound (number_at b.0) (λ hi rest. span_got a.0.value hi rest) g b.2 in
    let lo : ℕ = a.0.value in
    let hi : ℕ = c.0.value in
    let d = span_step (ltb lo hi) (leb hi PAGE_LIMIT) lo hi c.0.rest g refl refl c.2 in
    let first : bytes ≡ decimal lo ++ a.0.rest = (number_sound bytes a.0 a.1).0 in
    let second : a.0.rest ≡ codes "-" ++ b.0 = strip_sound (codes "-") a.0.rest b.0 b.1 in
    let third : b.0 ≡ decimal hi ++ c.0.rest = (number_sound b.0 c.0 c.1).0 in
    subst (λ (z : Got Extent). (bytes ≡ part_text OfSpan z.value ++ z.rest) × IsRanged OfSpan z.value) d.2
    (first ∙ ap (λ (l : List ℕ). decimal lo ++ l) (second ∙ ap (λ (l : List ℕ). codes "-" ++ l) third) ∙ sym (append_assoc (decimal lo) (codes "-" ++ decimal hi) c.0.rest), (d.0, d.1))

pub field_sound : (p : Part) (bytes : List ℕ) (g : Got (Value p)) → field_at p bytes ≡ Some g → (bytes ≡ part_text p g.value ++ g.rest) × IsRanged p g.value
unfolding small_at tiny_at page_at maybe_at kind_at level_at bit_at huge_at errno_at actor_at
field_sound U64 bytes g e = number_sound bytes g e
field_sound U32 bytes g e = below_reads 4294967296 bytes g e
field_sound U16 bytes g e = below_reads 65536 bytes g e
field_sound PageNumber bytes g e = below_reads PAGE_LIMIT bytes g e
field_sound Maybe bytes g e = maybe_parts (strip (codes "-") bytes) (below 4294967296 (number_at bytes)) bytes g (λ rest s. strip_sound (codes "-") bytes rest s) (λ f s. below_reads 4294967296 bytes f s) e
field_sound OfKind bytes g e = (two_words kind_text (codes "private") (codes "shared") Private Shared bytes g refl refl e, tt)
field_sound OfLevel bytes g e = (two_words level_text (codes "4k") (codes "2m") Small Block bytes g refl refl e, tt)
field_sound Bit bytes g e = (two_words bit_text (codes "1") (codes "0") true false bytes g refl refl e, tt)
field_sound Huge bytes g e = (two_words huge_text (codes "on") (codes "off") true false bytes g refl refl e, tt)
field_sound OfErrno bytes g e =
    let a = with_got_sound (number_at bytes) (λ n rest. errno_got (errno_by n) rest) g e in
    let b = errno_got_sound (errno_by a.0.value) a.0.rest g a.2 in
    let n : number_of g.value ≡ a.0.value = errno_sound a.0.value g.value b.0 in
    ((number_sound bytes a.0 a.1).0 ∙ ap (λ (m : ℕ). decimal m ++ a.0.rest) (sym n) ∙ ap (λ (l : List ℕ). decimal (number_of g.value) ++ l) b.1, tt)
field_sound OfActor bytes g e =
    actor_step (codes "v") (λ n. Vcpu n) bytes (strip (codes "v") bytes) (actor_on (strip (codes "c") bytes) (λ n. Caller n) None) g (λ n. refl) (λ n r. r) (λ rest s. strip_sound (codes "v") bytes rest s)
    (λ k. actor_step (codes "c") (λ n. Caller n) bytes (strip (codes "c") bytes) None g (λ n. refl) (λ n r. r) (λ rest s. strip_sound (codes "c") bytes rest s) (λ n. none_some n) k) e
field_sound Address bytes g e = address_sound bytes g e
field_sound OfSpan bytes g e = span_sound bytes g e
field_sound Nothing bytes g e = (ap (λ (z : Got (Unit {0})). z.rest) (some_is e), tt)

-- the other way

hyphen : (rest : List ℕ) → number_at (codes "-" ++ rest) ≡ None
unfolding number_at
hyphen rest = refl

dash_none : (n : ℕ) (x : List ℕ) (o : Option (List ℕ)) → n < 2 ^ 64 → NoDigit x → strip (codes "-") (decimal n ++ x) ≡ o → o ≡ None
dash_none n x None h d e = refl
dash_none n x (Some rest) h d e =
    let same : decimal n ++ x ≡ codes "-" ++ rest = strip_sound (codes "-") (decimal n ++ x) rest e in
    none_some (sym (hyphen rest) ∙ ap number_at (sym same) ∙ number_gives n x h d)

small_wide : (n : ℕ) → n < 4294967296 → n < 2 ^ 64
small_wide n h = omega arith

maybe_gives : (n : ℕ) (x : List ℕ) → n < 4294967296 → NoDigit x → maybe_at (decimal n ++ x) ≡ Some (got (Some n) x)
unfolding maybe_at small_at
maybe_gives n x h d =
    rw (dash_none n x (strip (codes "-") (decimal n ++ x)) (small_wide n h) d refl, below_gives 4294967296 n x (small_wide n h) h d) refl

errno_gives : (e : Errno) (x : List ℕ) → errno_got (errno_by (number_of e)) x ≡ Some (got e x)
errno_gives NoEnt x = refl
errno_gives BadF x = refl
errno_gives NoMem x = refl
errno_gives Fault x = refl
errno_gives Exist x = refl
errno_gives Inval x = refl

number_small : (e : Errno) → number_of e < 2 ^ 64
number_small NoEnt = omega arith
number_small BadF = omega arith
number_small NoMem = omega arith
number_small Fault = omega arith
number_small Exist = omega arith
number_small Inval = omega arith

place_is : (t : Bool) (p q : Place) (x : List ℕ) → t ≡ true → p ≡ q → cond t (Some (got p x)) None ≡ Some (got q x)
place_is true p q x h e = ap (λ (z : Place). Some (got z x)) e
place_is false p q x h e = absurd cc

eq_is : (a b : ℕ) → a ≡ b → eqb a b ≡ true
eq_is a b h = grind (arith, nat_tests)

place_gives : (a : Place) (x : List ℕ) → a.word < 512 → place_got (4096 * a.page + 8 * a.word) x ≡ Some (got a x)
place_gives a x h =
    let n : ℕ = 4096 * a.page + 8 * a.word in
    let p : n / 4096 ≡ a.page = page_of a.page a.word h in
    let w : n % 4096 / 8 ≡ a.word = word_of a.page a.word h in
    place_is (eqb (n % 8) 0) (record { page = n / 4096; word = n % 4096 / 8 }) a x (eq_is (n % 8) 0 (even a.page a.word))
    (ap (λ (m : ℕ). place m (n % 4096 / 8)) p ∙ ap (λ (m : ℕ). place a.page m) w)
  where
    page_of : (p w : ℕ) → w < 512 → (4096 * p + 8 * w) / 4096 ≡ p
    page_of p w h = omega arith

    word_of : (p w : ℕ) → w < 512 → (4096 * p + 8 * w) % 4096 / 8 ≡ w
    word_of p w h = omega arith

    even : (p w : ℕ) → (4096 * p + 8 * w) % 8 ≡ 0
    even p w = omega arith

    place : ℕ → ℕ → Place
    place p w = record { page = p; word = w }

address_small : (p w : ℕ) → p < 4503599627370496 → w < 512 → 4096 * p + 8 * w < 2 ^ 64
address_small p w h k = omega arith

span_is : (p q : Bool) (s : Extent) (x : List ℕ) → p ≡ true → q ≡ true → cond (p && q) (Some (got (record { lo = s.lo; hi = s.hi }) x)) None ≡ Some (got s x)
span_is true true s x h k = refl
span_is true false s x h k = absurd cc
span_is false q s x h k = absurd cc

most_is : (a b : ℕ) → a ≤ b → leb a b ≡ true
most_is a b h = grind (arith, nat_tests)

lo_small : (lo hi : ℕ) → lo < hi → hi ≤ 4503599627370496 → lo < 2 ^ 64
lo_small lo hi h k = omega arith

hi_small : (hi : ℕ) → hi ≤ 4503599627370496 → hi < 2 ^ 64
hi_small hi k = omega arith

pub span_gives : (s : Extent) (x : List ℕ) → IsRanged OfSpan s → NoDigit x → span_at (part_text OfSpan s ++ x) ≡ Some (got s x)
unfolding span_at strip
span_gives s x r d =
    rw (append_assoc (decimal s.lo) (codes "-" ++ decimal s.hi) x, number_gives s.lo (codes "-" ++ (decimal s.hi ++ x)) (lo_small s.lo s.hi r.0 r.1) refl, number_gives s.hi x (hi_small s.hi r.1) d)
    (span_is (ltb s.lo s.hi) (leb s.hi PAGE_LIMIT) s x (less_is s.lo s.hi r.0) (most_is s.hi PAGE_LIMIT r.1))

pub field_gives : (p : Part) (v : Value p) (x : List ℕ) → IsRanged p v → NoDigit x → field_at p (part_text p v ++ x) ≡ Some (got v x)
unfolding strip small_at tiny_at page_at maybe_at kind_at level_at bit_at huge_at errno_at actor_at address_at
field_gives U64 n x r d = number_gives n x r d
field_gives U32 n x r d = below_gives 4294967296 n x (small_wide n r) r d
field_gives U16 n x r d = below_gives 65536 n x (omega arith) r d
field_gives PageNumber n x r d = below_gives PAGE_LIMIT n x (omega arith) r d
field_gives Maybe None x r d = refl
field_gives Maybe (Some n) x r d = maybe_gives n x r d
field_gives OfKind Private x r d = refl
field_gives OfKind Shared x r d = refl
field_gives OfLevel Small x r d = refl
field_gives OfLevel Block x r d = refl
field_gives Bit true x r d = refl
field_gives Bit false x r d = refl
field_gives Huge true x r d = refl
field_gives Huge false x r d = refl
field_gives OfErrno e x r d = rw (number_gives (number_of e) x (number_small e) d) (errno_gives e x)
field_gives OfActor (Vcpu n) x r d = rw (below_gives 4294967296 n x (small_wide n r) r d) refl
field_gives OfActor (Caller n) x r d = rw (below_gives 4294967296 n x (small_wide n r) r d) refl
field_gives Address a x r d = rw (number_gives (4096 * a.page + 8 * a.word) x (address_small a.page a.word r.0 r.1) d) (place_gives a x r.1)
field_gives OfSpan s x r d = span_gives s x r d
field_gives Nothing v x r d = refl

-- no field has a byte below 45
pub field_lacks : (b : ℕ) (p : Part) (v : Value p) → b < 45 → IsRanged p v → lacks b (part_text p v) ≡ true
field_lacks b U64 n h r = decimal_lacks b n (omega arith) r
field_lacks b U32 n h r = decimal_lacks b n (omega arith) (small_wide n r)
field_lacks b U16 n h r = decimal_lacks b n (omega arith) (omega arith)
field_lacks b PageNumber n h r = decimal_lacks b n (omega arith) (omega arith)
field_lacks b Maybe None h r = grind (arith, nat_tests)
field_lacks b Maybe (Some n) h r = decimal_lacks b n (omega arith) (small_wide n r)
field_lacks b OfKind Private h r = grind (arith, nat_tests)
field_lacks b OfKind Shared h r = grind (arith, nat_tests)
field_lacks b OfLevel Small h r = grind (arith, nat_tests)
field_lacks b OfLevel Block h r = grind (arith, nat_tests)
field_lacks b Bit true h r = grind (arith, nat_tests)
field_lacks b Bit false h r = grind (arith, nat_tests)
field_lacks b Huge true h r = grind (arith, nat_tests)
field_lacks b Huge false h r = grind (arith, nat_tests)
field_lacks b OfErrno e h r = decimal_lacks b (number_of e) (omega arith) (number_small e)
field_lacks b OfActor (Vcpu n) h r = lacks_append b (codes "v") (decimal n) (grind (arith, nat_tests)) (decimal_lacks b n (omega arith) (small_wide n r))
field_lacks b OfActor (Caller n) h r = lacks_append b (codes "c") (decimal n) (grind (arith, nat_tests)) (decimal_lacks b n (omega arith) (small_wide n r))
field_lacks b Address a h r = decimal_lacks b (4096 * a.page + 8 * a.word) (omega arith) (address_small a.page a.word r.0 r.1)
field_lacks b OfSpan s h r = lacks_append b (decimal s.lo) (codes "-" ++ decimal s.hi) (decimal_lacks b s.lo (omega arith) (lo_small s.lo s.hi r.0 r.1)) (lacks_append b (codes "-") (decimal s.hi) (grind (arith, nat_tests)) (decimal_lacks b s.hi (omega arith) (hi_small s.hi r.1)))
field_lacks b Nothing v h r = refl
