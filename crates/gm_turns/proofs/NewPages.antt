-- A caller's call adds pages: what it asks of the store, and what its entry owes.
use Rattle.std.proofs.Common.{◌≡◌, ℕ, ◌+◌, ◌-◌, ◌<◌, ◌≤◌, ◌&&◌, List, ◌∷◌, Bool, true, false, set, Option, Some, None, arith, refl, ap, cond, leb, ltb, inl, inr, ◌⊎◌, subst, sym, ◌∙◌}
use Rattle.std.proofs.lemmas.Bool.Decides.{nat_tests}
use Rattle.std.specs.Prelude.{IsSome}
use Rattle.gm_base.specs.declared.calls.Ioctl.{Ioctl}
use Rattle.gm_base.specs.declared.numbers.TheConstants.{BLOCK_PAGES, PAGE_LIMIT}
use Rattle.gm_base.specs.declared.values.Actor.{Actor}
use Rattle.gm_base.specs.declared.values.Actor.TheVariants.{Caller}
use Rattle.gm_base.specs.declared.values.Errno.TheVariants.{NoMem}
use Rattle.gm_base.specs.declared.values.Folio.{Folio}
use Rattle.gm_callers.proofs.Moves.{adding_pages}
use Rattle.gm_callers.proofs.NextCommand.{added_le}
use Rattle.gm_callers.specs.Callers.{caller_at, paged, pages_in}
use Rattle.gm_callers.specs.Stand.{AddsPages}
use Rattle.gm_callers.specs.declared.caller.InProgress.{InProgress}
use Rattle.gm_calls.specs.Judgements.{pages_of}
use Rattle.gm_calls.specs.declared.judged.PagePlan.{PagePlan}
use Rattle.gm_flat.specs.Calls.{PagePlan as Planned, Paged, file_pages}
use Rattle.gm_flat.specs.Effects.{Addition, Source, add, addition_fits, if_fits, page_addition}
use Rattle.gm_flat.specs.FlatState.{Flat, FileState, added, cached, was_made}
use Rattle.gm_flat.specs.Histories.{Call as Past, call}
use Rattle.gm_flat.specs.Replay.{added_by, flat, flat_at, page_adds, states}
use Rattle.gm_flat.specs.RightCalls.{AllocateEnds, IsPageOf, PagesEnd}
use Rattle.gm_flat.specs.RightLives.{IsFirstOpen, PageAddsBy, UsesFirst, first_of_run, plan_of}
use Rattle.gm_flat.specs.RightLook.{IsFull}
use Rattle.gm_flat.specs.declared.effect.Reply.{Reply}
use Rattle.gm_flat.specs.declared.effect.Reply.TheVariants.{Bad, Good}
use Rattle.gm_flat.specs.Words.{first_word, folio_word, is_new}
use Rattle.gm_flat.specs.declared.entry.Entry.{Entry}
use Rattle.gm_flat.specs.declared.entry.What.TheVariants.{Page}
use Rattle.gm_flat.specs.declared.views.SlotView.{SlotView}
use Rattle.gm_flat.specs.Effects.{source}
use Rattle.gm_laws.proofs.BoundRanges.{ranges_now, used_made}
use Rattle.gm_laws.proofs.Kit.{by}
use Rattle.gm_laws.proofs.RowsSeen.{sees_row-now}
use Rattle.gm_laws.proofs.RuledIsRight.{right}
use Rattle.gm_laws.proofs.SlotsKeep.{slots_now}
use Rattle.gm_state.proofs.Alike.{alike}
use Rattle.gm_state.specs.Paging.{FirstAdded, with_more}
use Rattle.gm_state.specs.Stand.{StateIs}
use Rattle.gm_state.specs.Views.{StateView}
use Rattle.gm_store.specs.Added.{addition_of}
use Rattle.gm_store.specs.Asked.{AllCachedIn, IsFirstFree}
use Rattle.gm_store.specs.Views.{cached_in, file_in, first_room, page_room, pages_in as pages_of_file}
use Rattle.gm_store.specs.declared.first_use.Used.{Used}
use Rattle.gm_turns.proofs.NewFolios.{is_there, pages_by, room_by, uses_few}
use Rattle.gm_turns.proofs.PagePlans.{CopyFits, PagesFit, pages_fit}
use Rattle.gm_turns.proofs.PageTurns.{page_turn}
use Rattle.gm_turns.specs.Ready.{IsReady, Turned, noted}
use Rattle.gm_turns.specs.Room.{HasCallRoom, HasPageRoom, HasStepRoom, orders_of}
use Rattle.gm_turns.specs.Standing.{StateStands, memory_of}
use Rattle.gm_turns.specs.declared.parts.Core.{Core}
use Rattle.gm_vcpus.proofs.Holders.{holds_quiet}

-- a caller's call that adds pages, with its plan over the state of now
pub record Adding (k : Core) (c : ℕ) (q : PagePlan) : Type 0 where
  pub y : Past
  pub call_is : call c k.log.past ≡ Some y
  pub plan_is : plan_of k.setup y k.log.past ≡ Paged (pages_of q)
  pub count_is : pages_in (caller_at k.callers c).call ≡ y.pages
  pub fit : PagesFit k.setup (pages_of q) y.ioctl (flat k.log.past)

pub adding : (k : Core) (c : ℕ) (q : PagePlan) → IsReady k (Caller c) → AddsPages q (caller_at k.callers c).call → Adding k c q
adding k c q r adds =
    let o = orders_of k in
    let past : List Entry = k.log.past in
    let g = adding_pages c q r.settled.stands.callers r.actor_is adds in
    let all = right o past r.settled.ruled in
    record {
      y = g.y;
      call_is = g.call_is;
      plan_is = g.stage.is_judged;
      count_is = ap pages_in g.is_x ∙ g.ties.pages_is;
      fit = pages_fit k.setup g.y.ioctl (flat past) (pages_of q) (record { ranges = ranges_now o past all; slots = slots_now o past all; bounded = r.settled.stands.state.is.bounded })
          (sees_row-now o past all c g.y g.call_is g.stage.unmade ∙ g.stage.is_judged);
    }

-- what it asks of the store

pub in_progress : (q : PagePlan) (o : Option InProgress) → AddsPages q o → IsSome o
in_progress q None h = absurd h
in_progress q (Some x) h = refl

pub few_pages : (k : Core) (c : ℕ) (q : PagePlan) → IsReady k (Caller c) → AddsPages q (caller_at k.callers c).call → pages_in (caller_at k.callers c).call + 1 < 18446744073709551616
few_pages k c q r adds = let l = added_le c q r.settled.stands.callers r.actor_is adds in let s = r.room.short in omega arith

pub nothing_cached : (k : Core) (c file index : ℕ) → IsReady k (Caller c) → cached file index (flat k.log.past).cache ≡ None → cached_in index (file_in k.state.store.files file) ≡ None
nothing_cached k c file index r none = (r.settled.stands.state.is.store.files.each file).cached_are index ∙ none

pub is_small : (k : Core) (c file : ℕ) → IsReady k (Caller c) → pages_of_file (file_in k.state.store.files file) ≤ PAGE_LIMIT
is_small k c file r = (r.settled.stands.state.is.store.files.each file).small

file_has : (k : Core) (c : ℕ) (q : PagePlan) → IsReady k (Caller c) → Adding k c q → file_pages q.file (flat k.log.past).files ≡ pages_of_file (file_in k.state.store.files q.file)
file_has k c q r a = pages_by (file_in k.state.store.files q.file) q.file (flat k.log.past) (r.settled.stands.state.is.store.files.each q.file).state a.fit.used

pub range_ends : (k : Core) (c : ℕ) (q : PagePlan) → IsReady k (Caller c) → AddsPages q (caller_at k.callers c).call → q.index + q.pages ≤ PAGE_LIMIT
range_ends k c q r adds =
    let a = adding k c q r adds in
    let e = file_has k c q r a in
    let i = a.fit.inside in
    let s = is_small k c q.file r in
    omega arith

pub is_inside : (k : Core) (c index : ℕ) (q : PagePlan) → IsReady k (Caller c) → AddsPages q (caller_at k.callers c).call → index < q.index + q.pages → index < pages_of_file (file_in k.state.store.files q.file)
is_inside k c index q r adds lt =
    let a = adding k c q r adds in
    let e = file_has k c q r a in
    let i = a.fit.inside in
    omega arith

own_room : (k : Core) (c : ℕ) (q : PagePlan) (o : Option InProgress) → AddsPages q o → HasCallRoom k c o → HasPageRoom k.state (Some q.file)
own_room k c q None h r = absurd h
own_room k c q (Some x) h r = subst (HasStepRoom k) h r

pub has_block_room : (k : Core) (c : ℕ) (q : PagePlan) → IsReady k (Caller c) → AddsPages q (caller_at k.callers c).call → BLOCK_PAGES ≤ page_room (file_in k.state.store.files q.file)
has_block_room k c q r adds =
    let a = adding k c q r adds in
    let there = is_there (file_in k.state.store.files q.file) q.file (flat k.log.past) (r.settled.stands.state.is.store.files.each q.file).state a.fit.used in
    own_room k c q (caller_at k.callers c).call adds r.room.own there

pub has_room : (k : Core) (c : ℕ) (q : PagePlan) → IsReady k (Caller c) → AddsPages q (caller_at k.callers c).call → first_room (file_in k.state.store.files q.file) ≤ page_room (file_in k.state.store.files q.file)
has_room k c q r adds = room_by (file_in k.state.store.files q.file) (has_block_room k c q r adds)

-- what it adds fits its types

pub if_fits_is : (d : Addition) (files : List FileState) → addition_fits d files ≡ true → if_fits d files ≡ Some d
if_fits_is d files h = rw h refl

pub all_fit : (t : Bool) (i s f p : ℕ) → t ≡ true → i ≤ 4503599627370496 → s < 4611686018427387904 → f < 4294967296 - 512 → p ≤ 512 → (t && (leb (i + p) 18446744073709551616 && (leb (s + p) 18446744073709551616 && leb (f + p) 4294967296))) ≡ true
all_fit t i s f p e a b c d = grind (arith, nat_tests)

-- the next serial is small, and so are frames
pub next_small : (k : Core) (c serial : ℕ) → IsReady k (Caller c) → serial ≡ added (flat k.log.past) → serial < 4611686018427387904
next_small k c serial r e = let n = r.settled.stands.state.is.store.pool.next_is in let s = r.room.serials in omega arith

first_below : (frames index : ℕ) (d : Addition) (f : Flat) → UsesFirst frames index d f → (d.frame < frames) × (d.index ≤ index)
first_below frames index d f (inl b) = let l = b.frame.block.below in let i = b.index_is in (omega arith, omega arith)
first_below frames index d f (inr o) = let i = o.0.index_is in (o.0.frame.below, omega arith)

-- an allocation

no_copy : (user : ℕ) (p : Planned) (i : Ioctl) (base copy : Option ℕ) → CopyFits user p i base copy → base ≡ None → (index : ℕ) (slots : List SlotView) → source i index slots ≡ Some (record { file = p.file; copy = None })
no_copy user p i None None h e = h
no_copy user p i None (Some from) h e = absurd h
no_copy user p i (Some base) copy h e = absurd (cc)

first_added : (k : Core) (c index : ℕ) (q : PagePlan) (u : Used) (st : StateView) → IsReady k (Caller c) → AddsPages q (caller_at k.callers c).call → q.base ≡ None → index < q.index + q.pages → FirstAdded k.setup q.file index u st (memory_of k.setup k.log.past) → added_by (Page u.index u.first u.pages) (Caller c) k.log.past ≡ Some (addition_of q.file u)
first_added k c index q u st r adds none lt f =
    let past : List Entry = k.log.past in
    let a = adding k c q r adds in
    let d : Addition = addition_of q.file u in
    let b = first_below k.setup.frames index d (flat past) f.adds in
    let bi = b.1 in
    let bf = b.0 in
    let end = range_ends k c q r adds in
    let frames = r.settled.limits.frames in
    let fits : addition_fits d (flat past).files ≡ true = all_fit (was_made q.file (flat past).files) u.index u.first.serial u.first.frame u.pages (used_made q.file (flat past).files a.fit.used)
    (omega arith) (next_small k c u.first.serial r f.serial_is) (omega arith) (uses_few k.setup.frames index d (flat past) f.adds) in
    ap (λ (x : Option Past). page_adds u.index u.first u.pages x (states past)) a.call_is
    ∙ (ap (λ (w : Option Source). page_addition u.index u.first u.pages w (flat past).files) (no_copy k.setup.user (pages_of q) a.y.ioctl q.base q.copy a.fit.copy_fits none u.index (flat_at a.y.judged past).slots)
    ∙ if_fits_is d (flat past).files fits)

one_first : (p : Planned) (i j : ℕ) (f : Flat) → IsFirstOpen p i f → IsFirstOpen p j f → i ≡ j
one_first p i j f a b = go (ltb i j) (ltb j i) refl refl
  where
    below : (i j : ℕ) → ltb i j ≡ true → i < j
    below i j h = grind (arith, nat_tests)

    neither : (i j : ℕ) → ltb i j ≡ false → ltb j i ≡ false → i ≡ j
    neither i j h k = grind (arith, nat_tests)

    go : (t u : Bool) → ltb i j ≡ t → ltb j i ≡ u → i ≡ j
    go true u l m = absurd (b.none_before i a.from (below i j l) a.open_here)
    go false true l m = absurd (a.none_before j b.from (below j i m) b.open_here)
    go false false l m = neither i j l m

begins_at : (frames index : ℕ) (d : Addition) (f : Flat) → UsesFirst frames index d f → (d.index ≡ index) ⊎ (d.index ≡ first_of_run index)
begins_at frames index d f (inl b) = inr b.index_is
begins_at frames index d f (inr o) = inl o.0.index_is

-- the state after an entry of pages
pub pages_stand : (k : Core) (c : ℕ) (index : ℕ) (folio : Folio) (n : ℕ) (d : Addition) (now : ℕ → ℕ) (st : StateView) → IsReady k (Caller c) → st.slots ≡ k.state.slots → added_by (Page index folio n) (Caller c) k.log.past ≡ Some d → ((serial word : ℕ) → cond (is_new serial (Some d)) (first_word serial word (Some d) k.log.past) (folio_word serial word k.log.past) ≡ (with_more d now (memory_of k.setup k.log.past)).stored.words serial word) → StateIs k.setup st (with_more d now (memory_of k.setup k.log.past)) → StateStands k.setup st (by (k.turns + 1) (Caller c) (Page index folio n) ∷ k.log.past)
pages_stand k c index folio n d now st r same added words is =
    let past : List Entry = k.log.past in
    let e : Entry = by (k.turns + 1) (Caller c) (Page index folio n) in
    record {
      is = alike k.setup st (with_more d now (memory_of k.setup past)) (memory_of k.setup (e ∷ past)) (record {
        flat = ap (λ (o : Option Addition). add o (flat past)) added;
        holds = λ serial. holds_quiet k.setup.vcpus serial e past refl;
        words = λ serial word. ap (λ (o : Option Addition). cond (is_new serial o) (first_word serial word o past) (folio_word serial word past)) added ∙ words serial word;
        user_words = λ page word. refl;
      }) is;
      generation = let g = r.settled.stands.state.generation in let q = ap (λ x. x.generation) same in omega arith;
    }

pub allocate_turn : (k : Core) (c index : ℕ) (q : PagePlan) (u : Used) (st : StateView) → IsReady k (Caller c) → AddsPages q (caller_at k.callers c).call → q.base ≡ None → IsFirstOpen (pages_of q) index (flat k.log.past) → st.slots ≡ k.state.slots → FirstAdded k.setup q.file index u st (memory_of k.setup k.log.past) → Turned k (noted (record k { callers = set k.callers c (paged (caller_at k.callers c)); state = st }) (Caller c) (Page u.index u.first u.pages)) (Caller c) false
allocate_turn k c index q u st r adds none first same f =
    let past : List Entry = k.log.past in
    let d : Addition = addition_of q.file u in
    let added = first_added k c index q u st r adds none first.below f in
    page_turn k c q u.index u.first u.pages d st r adds added
    (record {
      is_page = subst (λ (base : Option ℕ). IsPageOf (pages_of q) base u.index (pages_in (caller_at k.callers c).call) (flat past)) (sym none) (index, first, begins_at k.setup.frames index d (flat past) f.adds);
      of_file = refl;
      next = f.serial_is;
      adds_by = subst (λ (base : Option ℕ). PageAddsBy k.setup.frames (pages_of q) base d (flat past)) (sym none) (λ i at. subst (λ (n : ℕ). UsesFirst k.setup.frames n d (flat past)) (one_first (pages_of q) index i (flat past) first at) f.adds);
    })
    (pages_stand k c u.index u.first u.pages d (λ word. 0) st r same added (λ serial word. refl) f.is)

-- how it ends

pub first_open : (k : Core) (q : PagePlan) (index : ℕ) → IsFirstFree q.file q.index (q.index + q.pages) (flat k.log.past) index → IsFirstOpen (pages_of q) index (flat k.log.past)
first_open k q index h = record { from = h.from; below = h.below; open_here = h.open_here; none_before = h.none_before }

ends_by : (frames n : ℕ) (q : PagePlan) (reply : Reply) (f : Flat) → q.base ≡ None → AllocateEnds frames reply (pages_of q) f → PagesEnd frames reply (pages_of q) q.base n f
ends_by frames n q reply f none e = subst (λ (b : Option ℕ). PagesEnd frames reply (pages_of q) b n f) (sym none) e

pub allocates_all : (k : Core) (c : ℕ) (q : PagePlan) → q.base ≡ None → AllCachedIn q.file q.index (q.index + q.pages) (flat k.log.past) → PagesEnd k.setup.frames (Good 0) (pages_of q) q.base (pages_in (caller_at k.callers c).call) (flat k.log.past)
allocates_all k c q none all = ends_by k.setup.frames (pages_in (caller_at k.callers c).call) q (Good 0) (flat k.log.past) none (inl (refl, all))

pub allocates_none : (k : Core) (c index : ℕ) (q : PagePlan) → q.base ≡ None → IsFirstOpen (pages_of q) index (flat k.log.past) → IsFull k.setup.frames (flat k.log.past).folios → PagesEnd k.setup.frames (Bad NoMem) (pages_of q) q.base (pages_in (caller_at k.callers c).call) (flat k.log.past)
allocates_none k c index q none first full = ends_by k.setup.frames (pages_in (caller_at k.callers c).call) q (Bad NoMem) (flat k.log.past) none (inr (refl, (index, first), full))

-- a core whose state is as it was
pub unchanged_ready : (k : Core) (st : StateView) (a : Actor) → st ≡ k.state → IsReady k a → IsReady (record k { state = st }) a
unchanged_ready k st a e r = subst (λ (x : StateView). IsReady (record k { state = x }) a) (sym e) r

pub some_there : (o : Option Folio) (x : Folio) → o ≡ Some x → o ≡ None → ⊥
some_there None x e n = absurd (cc)
some_there (Some y) x e n = absurd (cc)
