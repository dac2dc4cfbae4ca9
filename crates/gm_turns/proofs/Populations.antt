-- A caller's call populates: what it asks of the state, what its entry owes, and how it ends.
use Rattle.std.proofs.Common.{◌≡◌, ℕ, ◌+◌, ◌-◌, ◌<◌, ◌≤◌, ◌&&◌, List, Bool, true, false, set, Option, Some, None, arith, refl, ap, cond, eqb, eqb-true, leb, ltb, inl, inr, subst, sym, ◌∙◌}
use Rattle.std.proofs.lemmas.Bool.Decides.{nat_tests}
use Rattle.gm_base.specs.declared.calls.Ioctl.{Ioctl}
use Rattle.gm_base.specs.declared.numbers.TheConstants.{PAGE_LIMIT}
use Rattle.gm_base.specs.declared.values.Actor.TheVariants.{Caller}
use Rattle.gm_base.specs.declared.values.Errno.{Errno}
use Rattle.gm_base.specs.declared.values.Folio.{Folio}
use Rattle.gm_base.specs.declared.values.Kind.TheVariants.{Private}
use Rattle.gm_callers.proofs.Added.{pages_added}
use Rattle.gm_callers.specs.Added.{copy_at}
use Rattle.gm_callers.specs.Callers.{caller_at, paged, pages_in}
use Rattle.gm_callers.specs.Stand.{AddsPages}
use Rattle.gm_calls.specs.Judgements.{pages_of}
use Rattle.gm_calls.specs.declared.judged.PagePlan.{PagePlan}
use Rattle.gm_flat.specs.Attribute.{attr_of}
use Rattle.gm_flat.specs.Calls.{PagePlan as Planned}
use Rattle.gm_flat.specs.Effects.{Addition, addition_fits, if_fits}
use Rattle.gm_flat.specs.FlatState.{Flat, cached, was_made}
use Rattle.gm_flat.specs.Replay.{added_by, flat}
use Rattle.gm_flat.specs.RightCalls.{IsPageOf, PagesEnd, PopulateEnds, PopulatesPage, Stops, part_done}
use Rattle.gm_flat.specs.RightLives.{AddsOne, PageAddsBy}
use Rattle.gm_flat.specs.Words.{folio_word, user_word}
use Rattle.gm_flat.specs.declared.effect.Reply.{Reply}
use Rattle.gm_flat.specs.declared.effect.Reply.TheVariants.{Good}
use Rattle.gm_flat.specs.declared.entry.What.TheVariants.{Page}
use Rattle.gm_flat.specs.declared.entry.Entry.{Entry}
use Rattle.gm_laws.proofs.BoundRanges.{used_made}
use Rattle.gm_state.specs.Paging.{CopyAdded}
use Rattle.gm_state.specs.Views.{StateView}
use Rattle.gm_store.specs.Added.{one_page}
use Rattle.gm_turns.proofs.NewPages.{adding, all_fit, if_fits_is, next_small, pages_stand, range_ends}
use Rattle.gm_turns.proofs.PageCounts.{pages_within}
use Rattle.gm_turns.proofs.PagePlans.{CopyFits}
use Rattle.gm_turns.proofs.PageTurns.{page_turn}
use Rattle.gm_turns.specs.Populating.{IsPopulating}
use Rattle.gm_turns.specs.Ready.{IsReady, Turned, noted}
use Rattle.gm_turns.specs.Room.{orders_of}
use Rattle.gm_turns.specs.Standing.{memory_of}
use Rattle.gm_turns.specs.declared.parts.Core.{Core}

-- its pages

copies : (user base from : ℕ) (p : Planned) (i : Ioctl) (b c : Option ℕ) → CopyFits user p i b c → b ≡ Some base → c ≡ Some from → (base + p.pages ≤ PAGE_LIMIT) × (from + p.pages ≤ user)
copies user base from p i None c h e g = absurd (cc)
copies user base from p i (Some b) None h e g = absurd (cc)
copies user base from p i (Some b) (Some f) h e g =
    let x : b ≡ base = cc in
    let y : f ≡ from = cc in
    (subst (λ (n : ℕ). n + p.pages ≤ PAGE_LIMIT) x h.0, subst (λ (n : ℕ). n + p.pages ≤ user) y h.1)

pub copy_inside : (k : Core) (c base from pages : ℕ) (q : PagePlan) → IsReady k (Caller c) → IsPopulating k c q base from pages → (base + q.pages ≤ PAGE_LIMIT) × (from + q.pages ≤ k.setup.user)
copy_inside k c base from pages q r at = let a = adding k c q r at.adds in copies k.setup.user base from (pages_of q) a.y.ioctl q.base q.copy a.fit.copy_fits at.populates at.copies

no_source : (user base : ℕ) (p : Planned) (i : Ioctl) (b c : Option ℕ) → CopyFits user p i b c → b ≡ Some base → c ≡ None → ⊥
no_source user base p i None c h e g = absurd (cc)
no_source user base p i (Some b) None h e g = h
no_source user base p i (Some b) (Some f) h e g = absurd (cc)

-- a population has user pages
pub has_source : (k : Core) (c base : ℕ) (q : PagePlan) → IsReady k (Caller c) → AddsPages q (caller_at k.callers c).call → q.base ≡ Some base → q.copy ≡ None → ⊥
has_source k c base q r adds is none = let a = adding k c q r adds in no_source k.setup.user base (pages_of q) a.y.ioctl q.base q.copy a.fit.copy_fits is none

-- it has added no more pages than it is to
pub at_most : (k : Core) (c base : ℕ) (q : PagePlan) → IsReady k (Caller c) → AddsPages q (caller_at k.callers c).call → q.base ≡ Some base → pages_in (caller_at k.callers c).call ≤ q.pages
at_most k c base q r adds is =
    let a = adding k c q r adds in
    let l = pages_within (orders_of k) c base (pages_of q) a.y k.log.past r.settled.ruled.follows a.call_is a.plan_is is in
    let e = a.count_is in
    omega arith

pub not_all : (n m : ℕ) → n ≤ m → (n ≡ m → ⊥) → n < m
not_all n m l e = by_test (eqb n m) refl
  where
    less : (n m : ℕ) → n ≤ m → eqb n m ≡ false → n < m
    less n m l e = grind (arith, nat_tests)

    by_test : (t : Bool) → eqb n m ≡ t → n < m
    by_test true k = absurd (e (eqb-true n m k))
    by_test false k = less n m l k

-- the entry of a page

abbrev copied_page : PagePlan → ℕ → ℕ → Folio → Addition
copied_page q from pages folio = record { file = q.file; index = q.index + pages; serial = folio.serial; frame = folio.frame; pages = 1; copy = Some (from + pages) }

copied_from : (o : Option ℕ) (from first pages : ℕ) → o ≡ Some from → copy_at o first (first + pages) ≡ Some (from + pages)
copied_from None from first pages e = absurd (cc)
copied_from (Some f) from first pages e =
    let x : f ≡ from = cc in
    ap (λ (n : ℕ). Some n) (sum f from first pages x)
  where
    sum : (f from first pages : ℕ) → f ≡ from → f + ((first + pages) - first) ≡ from + pages
    sum f from first pages e = omega arith

copy_added : (k : Core) (c base from pages : ℕ) (q : PagePlan) (folio : Folio) (st : StateView) → IsReady k (Caller c) → IsPopulating k c q base from pages → CopyAdded k.setup q.file (q.index + pages) (from + pages) folio st (memory_of k.setup k.log.past) → added_by (Page (q.index + pages) folio 1) (Caller c) k.log.past ≡ Some (copied_page q from pages folio)
copy_added k c base from pages q folio st r at f =
    let past : List Entry = k.log.past in
    let a = adding k c q r at.adds in
    let d : Addition = copied_page q from pages folio in
    let more = at.more in
    let end = range_ends k c q r at.adds in
    let below = f.adds.frame.below in
    let frames = r.settled.limits.frames in
    let fits : addition_fits d (flat past).files ≡ true = all_fit (was_made q.file (flat past).files) (q.index + pages) folio.serial folio.frame 1 (used_made q.file (flat past).files a.fit.used)
    (omega arith) (next_small k c folio.serial r f.serial_is) (omega arith) (omega arith) in
    pages_added c q (q.index + pages) folio 1 r.settled.stands.callers r.actor_is at.adds (omega arith)
    ∙ (ap (λ (o : Option ℕ). if_fits (record { file = q.file; index = q.index + pages; serial = folio.serial; frame = folio.frame; pages = 1; copy = o }) (flat past).files) (copied_from q.copy from q.index pages at.copies)
    ∙ if_fits_is d (flat past).files fits)

first_of_one : (a s : ℕ) → (leb a s && ltb s (a + 1)) ≡ true → s - a ≡ 0
first_of_one a s h = grind (arith, nat_tests)

either_word : (t : Bool) (a b c : ℕ) → (t ≡ true → a ≡ b) → cond t a c ≡ cond t b c
either_word true a b c e = e refl
either_word false a b c e = refl

copied_word : (a serial word page : ℕ) (past : List Entry) → cond (leb a serial && ltb serial (a + 1)) (user_word (page + (serial - a)) word past) (folio_word serial word past) ≡ cond (leb a serial && ltb serial (a + 1)) (user_word page word past) (folio_word serial word past)
copied_word a serial word page past =
    either_word (leb a serial && ltb serial (a + 1)) (user_word (page + (serial - a)) word past) (user_word page word past) (folio_word serial word past)
    (λ new. ap (λ (n : ℕ). user_word n word past) (same page (serial - a) (first_of_one a serial new)))
  where
    same : (page n : ℕ) → n ≡ 0 → page + n ≡ page
    same page n e = omega arith

one_added : (frames file index : ℕ) (folio : Folio) (d : Addition) (f : Flat) → d.pages ≡ 1 → d.frame ≡ folio.frame → AddsOne frames index (one_page file index folio) f → AddsOne frames d.index d f
one_added frames file index folio d f one same a = record { pages = one; index_is = refl; frame = rw same a.frame }

pub populate_turn : (k : Core) (c base from pages : ℕ) (q : PagePlan) (folio : Folio) (st : StateView) → IsReady k (Caller c) → IsPopulating k c q base from pages → cached q.file (q.index + pages) (flat k.log.past).cache ≡ None → attr_of (base + pages) (flat k.log.past).attrs ≡ Private → st.slots ≡ k.state.slots → CopyAdded k.setup q.file (q.index + pages) (from + pages) folio st (memory_of k.setup k.log.past) → Turned k (noted (record k { callers = set k.callers c (paged (caller_at k.callers c)); state = st }) (Caller c) (Page (q.index + pages) folio 1)) (Caller c) false
populate_turn k c base from pages q folio st r at none private same f =
    let past : List Entry = k.log.past in
    let d : Addition = copied_page q from pages folio in
    let added = copy_added k c base from pages q folio st r at f in
    let page : PopulatesPage (pages_of q) base (q.index + pages) pages (flat past) = record { more = at.more; index_is = refl; open_here = none; is_private = private } in
    page_turn k c q (q.index + pages) folio 1 d st r at.adds added
    (record {
      is_page = subst (λ (n : ℕ). IsPageOf (pages_of q) q.base (q.index + pages) n (flat past)) at.count_is
          (subst (λ (b : Option ℕ). IsPageOf (pages_of q) b (q.index + pages) pages (flat past)) (sym at.populates) page);
      of_file = refl;
      next = f.serial_is;
      adds_by = subst (λ (b : Option ℕ). PageAddsBy k.setup.frames (pages_of q) b d (flat past)) (sym at.populates) (one_added k.setup.frames q.file (q.index + pages) folio d (flat past) refl refl f.adds);
    })
    (pages_stand k c (q.index + pages) folio 1 d (λ word. user_word (from + pages) word past) st r same added (λ serial word. copied_word folio.serial serial word (from + pages) past) f.is)

-- its end

ends_by : (frames n m : ℕ) (q : PagePlan) (base : ℕ) (reply : Reply) (f : Flat) → q.base ≡ Some base → n ≡ m → PopulateEnds frames reply (pages_of q) base n f → PagesEnd frames reply (pages_of q) q.base m f
ends_by frames n m q base reply f is count e =
    subst (λ (x : ℕ). PagesEnd frames reply (pages_of q) q.base x f) count (subst (λ (b : Option ℕ). PagesEnd frames reply (pages_of q) b n f) (sym is) e)

pub ends_whole : (k : Core) (c base pages : ℕ) (q : PagePlan) → q.base ≡ Some base → pages ≡ pages_in (caller_at k.callers c).call → pages ≡ q.pages → PagesEnd k.setup.frames (Good pages) (pages_of q) q.base (pages_in (caller_at k.callers c).call) (flat k.log.past)
ends_whole k c base pages q is count all = ends_by k.setup.frames pages (pages_in (caller_at k.callers c).call) q base (Good pages) (flat k.log.past) is count (inl (all, refl))

pub ends_early : (k : Core) (c base from pages : ℕ) (q : PagePlan) (errno : Errno) → IsPopulating k c q base from pages → Stops k.setup.frames errno (pages_of q) base pages (flat k.log.past) → PagesEnd k.setup.frames (part_done pages errno) (pages_of q) q.base (pages_in (caller_at k.callers c).call) (flat k.log.past)
ends_early k c base from pages q errno at stops =
    ends_by k.setup.frames pages (pages_in (caller_at k.callers c).call) q base (part_done pages errno) (flat k.log.past) at.populates at.count_is (inr (at.more, (errno, stops, refl)))
