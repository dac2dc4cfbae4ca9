-- The entries of a call are determined by their kinds and by what stands before them.
use Rattle.std.proofs.Common.{◌+◌, ◌<◌, Bool, List, None, Option, Some, ap, arith, false, inl, inr, refl, subst, sym, true, ℕ, ◌∙◌, ◌≡◌}
use Rattle.std.proofs.lemmas.Bool.{cases_lt}
use Rattle.gm_base.specs.declared.values.Errno.{Errno}
use Rattle.gm_base.specs.declared.values.Errno.TheVariants.{BadF, Exist, Fault, Inval, NoEnt, NoMem}
use Rattle.gm_base.specs.declared.values.Folio.{Folio}
use Rattle.gm_base.specs.declared.values.Kind.{Kind}
use Rattle.gm_base.specs.declared.values.Kind.TheVariants.{Private, Shared}
use Rattle.gm_base.specs.declared.values.Setup.{Setup}
use Rattle.gm_flat.specs.Attribute.{attr_of}
use Rattle.gm_flat.specs.Calls.{Bracketed, PagePlan, Paged, Plan, Reads, Refused, Same, Short, mark_of}
use Rattle.gm_flat.specs.Effects.{Addition, source}
use Rattle.gm_flat.specs.FlatState.{Flat, cached}
use Rattle.gm_flat.specs.Histories.{Call, is_mark}
use Rattle.gm_flat.specs.Replay.{flat, flat_at, page_adds, states}
use Rattle.gm_flat.specs.RightCalls.{AllocateEnds, IsAnswer, IsChange, IsEffect, IsMark, IsPage, IsPageOf, PagesEnd, PopulateEnds, RightAnswer, RightBegin, RightChange, RightPage, Stops, part_done}
use Rattle.gm_flat.specs.RightLives.{IsFirstOpen, IsNext, PageAdds, PageAddsBy, RightPageAdds, UsesFirst, plan_of}
use Rattle.gm_flat.specs.declared.effect.Effect.{Effect}
use Rattle.gm_flat.specs.declared.effect.Reply.{Reply}
use Rattle.gm_flat.specs.declared.entry.Entry.{Entry}
use Rattle.gm_flat.specs.declared.entry.What.TheVariants.{Page}
use Rattle.gm_base.specs.Extent.{Extent}
use Rattle.gm_laws.proofs.Kit.{some_same}
use Rattle.gm_determined.proofs.Entries.{OneAddition, folio_is, lowest_same, one_full, uses_full, uses_same}
use Rattle.gm_determined.proofs.Made.{Paid, page_made}

-- begins and changes
spans_by : (p : Plan) (e d : Effect) (xs ys : List Extent) → p ≡ Bracketed e xs → p ≡ Bracketed d ys → xs ≡ ys
spans_by p e d xs ys x y = go (sym x ∙ y)
  where
    go : Bracketed e xs ≡ Bracketed d ys → xs ≡ ys
    go h = cc

pub spans_same : (s : Setup) (xs ys : List Extent) (z : Option Call) (past : List Entry) → RightBegin s xs z past → RightBegin s ys z past → xs ≡ ys
spans_same s xs ys (Some c) past x y = spans_by (plan_of s c past) x.0 y.0 xs ys x.1 y.1
spans_same s xs ys None past x y = absurd x

effect_same : (e d : Effect) (p : Plan) → IsEffect e p → IsEffect d p → e ≡ d
effect_same e d (Short f n) x y = x ∙ sym y
effect_same e d (Bracketed f n) x y = x ∙ sym y
effect_same e d (Refused r) x y = absurd x
effect_same e d (Same r) x y = absurd x
effect_same e d (Reads r w) x y = absurd x
effect_same e d (Paged r) x y = absurd x

mark_same : (e d : Effect) (p : Plan) → IsMark e p → IsMark d p → e ≡ d
mark_same e d (Bracketed f n) x y = some_same e d (sym x ∙ y)
mark_same e d (Short f n) x y = absurd x
mark_same e d (Refused r) x y = absurd x
mark_same e d (Same r) x y = absurd x
mark_same e d (Reads r w) x y = absurd x
mark_same e d (Paged r) x y = absurd x

change_by : (t : Bool) (e d : Effect) (p : Plan) → IsChange t e p → IsChange t d p → e ≡ d
change_by true e d p x y = mark_same e d p x y
change_by false e d p x y = effect_same e d p x y

-- of two marks, and of two changes that aren't marks
pub change_same : (s : Setup) (e d : Effect) (z : Option Call) (past : List Entry) → is_mark d ≡ is_mark e → RightChange s e z past → RightChange s d z past → e ≡ d
change_same s e d (Some c) past h x y = change_by (is_mark e) e d (plan_of s c past) x (subst (λ (t : Bool). IsChange t d (plan_of s c past)) h y)
change_same s e d None past h x y = absurd x

-- the mark that comes with a Begin
pub mark_is : (s : Setup) (e d : Effect) (spans : List Extent) (c : Call) (past : List Entry) → plan_of s c past ≡ Bracketed e spans → is_mark d ≡ true → RightChange s d (Some c) past → mark_of e ≡ Some d
mark_is s e d spans c past p m x = subst (IsMark d) p (subst (λ (t : Bool). IsChange t d (plan_of s c past)) m x)

-- pages
first_open : (p : PagePlan) (i j : ℕ) (f : Flat) → IsFirstOpen p i f → IsFirstOpen p j f → i ≡ j
first_open p i j f x y = elim (cases_lt i j) [
  | inl lt ↦ absurd (y.none_before i x.from lt x.open_here)
  | inr ge ↦ elim (cases_lt j i) [
    | inl lt ↦ absurd (x.none_before j y.from lt y.open_here)
    | inr le ↦ omega arith
  ]
]

page_is : (i j : ℕ) (fo go : Folio) (m n : ℕ) → i ≡ j → fo ≡ go → m ≡ n → Page i fo m ≡ Page j go n
page_is i j fo go m n p q r = cc

page_of : (i j : ℕ) (fo go : Folio) (m n : ℕ) (d e : Addition) (f : Flat) → Paid i fo m d → Paid j go n e → IsNext d f → IsNext e f → OneAddition d e → Page i fo m ≡ Page j go n
page_of i j fo go m n d e f x y p q s =
    page_is i j fo go m n (sym x.index_is ∙ (s.index ∙ y.index_is))
    (folio_is fo go (sym x.serial_is ∙ (p ∙ (sym q ∙ y.serial_is))) (sym x.frame_is ∙ (s.frame ∙ y.frame_is)))
    (sym x.pages_is ∙ (s.pages ∙ y.pages_is))

adds_by : (frames i j pages : ℕ) (p : PagePlan) (base : Option ℕ) (d e : Addition) (f : Flat) → d.file ≡ e.file → d.index ≡ i → e.index ≡ j → IsPageOf p base i pages f → IsPageOf p base j pages f → PageAddsBy frames p base d f → PageAddsBy frames p base e f → OneAddition d e
adds_by frames i j pages p None d e f same di ei x y u v =
    uses_same frames x.0 d e f same (u x.0 x.1) (subst (λ (n : ℕ). UsesFirst frames n e f) (first_open p y.0 x.0 f y.1 x.1) (v y.0 y.1))
adds_by frames i j pages p (Some base) d e f same di ei x y u v =
    record {
      pages = u.pages ∙ sym v.pages;
      frame = lowest_same frames d.frame e.frame f.folios u.frame v.frame;
      index = di ∙ (x.index_is ∙ (sym y.index_is ∙ sym ei));
    }

page_by : (frames i j : ℕ) (fo go : Folio) (m n : ℕ) (c : Call) (p : Plan) (f : Flat) (a b : Option Addition) → ((d : Addition) → a ≡ Some d → Paid i fo m d) → ((e : Addition) → b ≡ Some e → Paid j go n e) → IsPage i c p f → IsPage j c p f → PageAdds frames p a f → PageAdds frames p b f → Page i fo m ≡ Page j go n
page_by frames i j fo go m n c (Paged p) f (Some d) (Some e) x y u v s t =
    let k = x d refl in
    let l = y e refl in
    page_of i j fo go m n d e f k l s.1 t.1 (adds_by frames i j c.pages p p.base d e f (s.0 ∙ sym t.0) k.index_is l.index_is u v s.2 t.2)
page_by frames i j fo go m n c (Paged p) f None b x y u v s t = absurd s
page_by frames i j fo go m n c (Paged p) f (Some d) None x y u v s t = absurd t
page_by frames i j fo go m n c (Refused r) f a b x y u v s t = absurd u
page_by frames i j fo go m n c (Same r) f a b x y u v s t = absurd u
page_by frames i j fo go m n c (Reads r w) f a b x y u v s t = absurd u
page_by frames i j fo go m n c (Short r w) f a b x y u v s t = absurd u
page_by frames i j fo go m n c (Bracketed r w) f a b x y u v s t = absurd u

pub page_same : (s : Setup) (i j : ℕ) (fo go : Folio) (m n : ℕ) (z : Option Call) (past : List Entry) → RightPage s i z past → RightPage s j z past → RightPageAdds s z (page_adds i fo m z (states past)) past → RightPageAdds s z (page_adds j go n z (states past)) past → Page i fo m ≡ Page j go n
page_same s i j fo go m n (Some c) past x y u v =
    page_by s.frames i j fo go m n c (plan_of s c past) (flat past) (page_adds i fo m (Some c) (states past)) (page_adds j go n (Some c) (states past))
    (λ d e. page_made i fo m (source c.ioctl i (flat_at c.judged past).slots) (flat past).files d e)
    (λ d e. page_made j go n (source c.ioctl j (flat_at c.judged past).slots) (flat past).files d e)
    x y u v
page_same s i j fo go m n None past x y u v = absurd x

-- answers
allocate_same : (frames : ℕ) (r q : Reply) (p : PagePlan) (f : Flat) → AllocateEnds frames r p f → AllocateEnds frames q p f → r ≡ q
allocate_same frames r q p f (inl x) (inl y) = x.0 ∙ sym y.0
allocate_same frames r q p f (inr x) (inr y) = x.0 ∙ sym y.0
allocate_same frames r q p f (inl x) (inr y) = absurd (x.1 y.1.0 y.1.1.from y.1.1.below y.1.1.open_here)
allocate_same frames r q p f (inr x) (inl y) = absurd (y.1 x.1.0 x.1.1.from x.1.1.below x.1.1.open_here)

kinds_clash : (k : Kind) → k ≡ Private → k ≡ Shared → ⊥
kinds_clash k e f = go (sym e ∙ f)
  where
    go : Private ≡ Shared → ⊥
    go e = cc

stops_same : (frames : ℕ) (r q : Errno) (p : PagePlan) (base pages : ℕ) (f : Flat) → Stops frames r p base pages f → Stops frames q p base pages f → r ≡ q
stops_same frames Exist Exist p base pages f x y = refl
stops_same frames Inval Inval p base pages f x y = refl
stops_same frames NoMem NoMem p base pages f x y = refl
stops_same frames Exist Inval p base pages f x y = absurd (x y.0)
stops_same frames Exist NoMem p base pages f x y = absurd (x y.0)
stops_same frames Inval Exist p base pages f x y = absurd (y x.0)
stops_same frames NoMem Exist p base pages f x y = absurd (y x.0)
stops_same frames Inval NoMem p base pages f x y = absurd (kinds_clash (attr_of (base + pages) f.attrs) y.1 x.1)
stops_same frames NoMem Inval p base pages f x y = absurd (kinds_clash (attr_of (base + pages) f.attrs) x.1 y.1)
stops_same frames NoEnt q p base pages f x y = absurd x
stops_same frames BadF q p base pages f x y = absurd x
stops_same frames Fault q p base pages f x y = absurd x
stops_same frames Exist NoEnt p base pages f x y = absurd y
stops_same frames Exist BadF p base pages f x y = absurd y
stops_same frames Exist Fault p base pages f x y = absurd y
stops_same frames Inval NoEnt p base pages f x y = absurd y
stops_same frames Inval BadF p base pages f x y = absurd y
stops_same frames Inval Fault p base pages f x y = absurd y
stops_same frames NoMem NoEnt p base pages f x y = absurd y
stops_same frames NoMem BadF p base pages f x y = absurd y
stops_same frames NoMem Fault p base pages f x y = absurd y

not_all : (a b : ℕ) → a ≡ b → a < b → ⊥
not_all a b e h = omega arith

populate_same : (frames : ℕ) (r q : Reply) (p : PagePlan) (base pages : ℕ) (f : Flat) → PopulateEnds frames r p base pages f → PopulateEnds frames q p base pages f → r ≡ q
populate_same frames r q p base pages f (inl x) (inl y) = x.1 ∙ sym y.1
populate_same frames r q p base pages f (inl x) (inr y) = absurd (not_all pages p.pages x.0 y.0)
populate_same frames r q p base pages f (inr x) (inl y) = absurd (not_all pages p.pages y.0 x.0)
populate_same frames r q p base pages f (inr x) (inr y) = x.1.2 ∙ (ap (λ (e : Errno). part_done pages e) (stops_same frames x.1.0 y.1.0 p base pages f x.1.1 y.1.1) ∙ sym y.1.2)

pages_end : (frames : ℕ) (r q : Reply) (p : PagePlan) (base : Option ℕ) (pages : ℕ) (f : Flat) → PagesEnd frames r p base pages f → PagesEnd frames q p base pages f → r ≡ q
pages_end frames r q p None pages f x y = allocate_same frames r q p f x y
pages_end frames r q p (Some base) pages f x y = populate_same frames r q p base pages f x y

answer_by : (s : Setup) (r q : Reply) (c : Call) (p : Plan) (past : List Entry) → IsAnswer s r c p past → IsAnswer s q c p past → r ≡ q
answer_by s r q c (Refused e) past x y = x ∙ sym y
answer_by s r q c (Same n) past x y = x ∙ sym y
answer_by s r q c (Reads g w) past x y = x ∙ sym y
answer_by s r q c (Short e n) past x y = x.1 ∙ sym y.1
answer_by s r q c (Bracketed e n) past x y = x.1 ∙ sym y.1
answer_by s r q c (Paged p) past x y = pages_end s.frames r q p p.base c.pages (flat past) x y

pub answer_same : (s : Setup) (r q : Reply) (z : Option Call) (past : List Entry) → RightAnswer s r z past → RightAnswer s q z past → r ≡ q
answer_same s r q (Some c) past x y = answer_by s r q c (plan_of s c past) past x y
answer_same s r q None past x y = absurd x

-- a page and an answer exclude each other
page_ends : (frames i : ℕ) (r : Reply) (p : PagePlan) (base : Option ℕ) (pages : ℕ) (d : Addition) (f : Flat) → IsPageOf p base i pages f → PageAddsBy frames p base d f → PagesEnd frames r p base pages f → ⊥
page_ends frames i r p None pages d f x u (inl y) = y.1 x.0 x.1.from x.1.below x.1.open_here
page_ends frames i r p None pages d f x u (inr y) = uses_full frames x.0 d f (u x.0 x.1) y.2
page_ends frames i r p (Some base) pages d f x u (inl y) = not_all pages p.pages y.0 x.more
page_ends frames i r p (Some base) pages d f x u (inr y) = stop y.1.0 y.1.1
  where
    here : cached p.file (p.index + pages) f.cache ≡ None
    here = subst (λ (n : ℕ). cached p.file n f.cache ≡ None) x.index_is x.open_here

    stop : (e : Errno) → Stops frames e p base pages f → ⊥
    stop Exist z = z here
    stop Inval z = kinds_clash (attr_of (base + pages) f.attrs) x.is_private z.1
    stop NoMem z = one_full frames d.index d f u z.2
    stop NoEnt z = z
    stop BadF z = z
    stop Fault z = z

page_answer_by : (s : Setup) (i : ℕ) (r : Reply) (c : Call) (p : Plan) (a : Option Addition) (past : List Entry) → IsPage i c p (flat past) → PageAdds s.frames p a (flat past) → IsAnswer s r c p past → ⊥
page_answer_by s i r c (Paged p) (Some d) past x u y = page_ends s.frames i r p p.base c.pages d (flat past) x u.2 y
page_answer_by s i r c (Paged p) None past x u y = u
page_answer_by s i r c (Refused e) a past x u y = x
page_answer_by s i r c (Same e) a past x u y = x
page_answer_by s i r c (Reads e w) a past x u y = x
page_answer_by s i r c (Short e w) a past x u y = x
page_answer_by s i r c (Bracketed e w) a past x u y = x

pub page_answer : (s : Setup) (i : ℕ) (fo : Folio) (n : ℕ) (r : Reply) (z : Option Call) (past : List Entry) → RightPage s i z past → RightPageAdds s z (page_adds i fo n z (states past)) past → RightAnswer s r z past → ⊥
page_answer s i fo n r (Some c) past x u y = page_answer_by s i r c (plan_of s c past) (page_adds i fo n (Some c) (states past)) past x u y
page_answer s i fo n r None past x u y = x
