-- *right calls*: the spans, changes, pages and answers of a call are those of its plan. (As the calls' plans.)
use Rattle.std.specs.Prelude.{◌≡◌, ℕ, ◌+◌, ◌<◌, ◌≤◌, List, Bool, true, false, ◌⊎◌, Some, None, nat_eq, if◌then◌else◌}
use Rattle.std.specs.declared.option.Option.{Option}
use Rattle.gm_base.specs.Extent.{Extent}
use Rattle.gm_base.specs.declared.values.Setup.{Setup}
use Rattle.gm_base.specs.declared.values.Errno.{Errno}
use Rattle.gm_base.specs.declared.values.Errno.TheVariants.{NoMem, Exist, Inval}
use Rattle.gm_base.specs.declared.values.Kind.TheVariants.{Private, Shared}
use Rattle.gm_base.specs.declared.values.Actor.{Actor}
use Rattle.gm_base.specs.declared.values.Actor.TheVariants.{Vcpu, Caller}
use Rattle.gm_flat.specs.declared.effect.Effect.{Effect}
use Rattle.gm_flat.specs.declared.effect.Reply.{Reply}
use Rattle.gm_flat.specs.declared.effect.Reply.TheVariants.{Good, Bad}
use Rattle.gm_flat.specs.declared.entry.Entry.{Entry}
use Rattle.gm_flat.specs.declared.entry.What.{What}
use Rattle.gm_flat.specs.declared.entry.What.TheVariants.{Begin, Change, Page, Answer}
use Rattle.gm_flat.specs.Histories.{is_mark, Call, call}
use Rattle.gm_flat.specs.FlatState.{Flat, cached}
use Rattle.gm_flat.specs.Attribute.{attr_of}
use Rattle.gm_flat.specs.Replay.{flat}
use Rattle.gm_flat.specs.Words.{user_word}
use Rattle.gm_flat.specs.RightLook.{IsFull}
use Rattle.gm_flat.specs.Calls.{PagePlan, Plan, Refused, Same, Reads, Short, Bracketed, Paged, mark_of}
use Rattle.gm_flat.specs.RightLives.{IsFirstOpen, plan_of, first_of_run}

-- the spans of a Begin are those of its plan
abbrev pub RightBegin : Setup → List Extent → Option Call → List Entry → Type 0
RightBegin s spans None past = ⊥
RightBegin s spans (Some x) past = (effect : Effect) × (plan_of s x past ≡ Bracketed effect spans)

-- a Change is the effect of its plan
abbrev pub IsEffect : Effect → Plan → Type 0
IsEffect effect (Short e answer) = effect ≡ e
IsEffect effect (Bracketed e spans) = effect ≡ e
IsEffect effect _ = ⊥

-- the mark that comes with the Begin of a deletion or a move
abbrev pub IsMark : Effect → Plan → Type 0
IsMark effect (Bracketed e spans) = mark_of e ≡ Some effect
IsMark effect _ = ⊥

abbrev pub IsChange : Bool → Effect → Plan → Type 0
IsChange true effect plan = IsMark effect plan
IsChange false effect plan = IsEffect effect plan

abbrev pub RightChange : Setup → Effect → Option Call → List Entry → Type 0
RightChange s effect None past = ⊥
RightChange s effect (Some x) past = IsChange (is_mark effect) effect (plan_of s x past)

-- a page of a population: the next index, which isn't cached and whose page is private
pub record PopulatesPage (p : PagePlan) (base index pages : ℕ) (f : Flat) : Type 0 where
  pub more : pages < p.pages
  pub index_is : index ≡ p.index + pages
  pub open_here : cached p.file index f.cache ≡ None
  pub is_private : attr_of (base + pages) f.attrs ≡ Private

-- a page of an allocation stands at the first index of the range that isn't cached, or begins its aligned run
abbrev pub AddsFor : PagePlan → ℕ → Flat → Type 0
AddsFor p index f = (first : ℕ) × IsFirstOpen p first f × ((index ≡ first) ⊎ (index ≡ first_of_run first))

abbrev pub IsPageOf : PagePlan → Option ℕ → ℕ → ℕ → Flat → Type 0
IsPageOf p None index pages f = AddsFor p index f
IsPageOf p (Some base) index pages f = PopulatesPage p base index pages f

abbrev pub IsPage : ℕ → Call → Plan → Flat → Type 0
IsPage index x (Paged p) f = IsPageOf p p.base index x.pages f
IsPage index x _ f = ⊥

abbrev pub RightPage : Setup → ℕ → Option Call → List Entry → Type 0
RightPage s index None past = ⊥
RightPage s index (Some x) past = IsPage index x (plan_of s x past) (flat past)

-- answers

-- each index of the range is cached
abbrev pub AllCached : PagePlan → Flat → Type 0
AllCached p f = (index : ℕ) → p.index ≤ index → index < p.index + p.pages → (cached p.file index f.cache ≡ None) → ⊥

abbrev pub AllocateEnds : ℕ → Reply → PagePlan → Flat → Type 0
AllocateEnds frames reply p f = ((reply ≡ Good 0) × AllCached p f) ⊎ ((reply ≡ Bad NoMem) × ((index : ℕ) × IsFirstOpen p index f) × IsFull frames f.folios)

-- a population at its next page: the index is cached, else the page's attribute is shared, else no frame is free
abbrev pub Stops : ℕ → Errno → PagePlan → ℕ → ℕ → Flat → Type 0
Stops frames Exist p base pages f = (cached p.file (p.index + pages) f.cache ≡ None) → ⊥
Stops frames Inval p base pages f = (cached p.file (p.index + pages) f.cache ≡ None) × (attr_of (base + pages) f.attrs ≡ Shared)
Stops frames NoMem p base pages f = (cached p.file (p.index + pages) f.cache ≡ None) × (attr_of (base + pages) f.attrs ≡ Private) × IsFull frames f.folios
Stops frames _ p base pages f = ⊥

-- the number of pages added where that isn't 0, and the error where it is
abbrev pub part_done : ℕ → Errno → Reply
part_done pages errno = if nat_eq pages 0 then Bad errno else Good pages

abbrev pub PopulateEnds : ℕ → Reply → PagePlan → ℕ → ℕ → Flat → Type 0
PopulateEnds frames reply p base pages f = ((pages ≡ p.pages) × (reply ≡ Good pages)) ⊎ ((pages < p.pages) × ((errno : Errno) × Stops frames errno p base pages f × (reply ≡ part_done pages errno)))

abbrev pub PagesEnd : ℕ → Reply → PagePlan → Option ℕ → ℕ → Flat → Type 0
PagesEnd frames reply p None pages f = AllocateEnds frames reply p f
PagesEnd frames reply p (Some base) pages f = PopulateEnds frames reply p base pages f

abbrev pub IsAnswer : Setup → Reply → Call → Plan → List Entry → Type 0
IsAnswer s reply x (Refused errno) past = reply ≡ Bad errno
IsAnswer s reply x (Same answer) past = reply ≡ Good answer
IsAnswer s reply x (Reads page word) past = reply ≡ Good (user_word page word past)
IsAnswer s reply x (Short effect answer) past = (x.made ≡ true) × (reply ≡ Good answer)
IsAnswer s reply x (Bracketed effect spans) past = (x.made ≡ true) × (reply ≡ Good 0)
IsAnswer s reply x (Paged p) past = PagesEnd s.frames reply p p.base x.pages (flat past)

abbrev pub RightAnswer : Setup → Reply → Option Call → List Entry → Type 0
RightAnswer s reply None past = ⊥
RightAnswer s reply (Some x) past = IsAnswer s reply x (plan_of s x past) past

abbrev pub RightCalls : Setup → What → Actor → List Entry → Type 0
RightCalls s (Begin spans) (Caller c) past = RightBegin s spans.list (call c past) past
RightCalls s (Begin spans) (Vcpu v) past = ⊥
RightCalls s (Change effect) (Caller c) past = RightChange s effect (call c past) past
RightCalls s (Change effect) (Vcpu v) past = ⊥
RightCalls s (Page index folio pages) (Caller c) past = RightPage s index (call c past) past
RightCalls s (Page index folio pages) (Vcpu v) past = ⊥
RightCalls s (Answer reply) (Caller c) past = RightAnswer s reply (call c past) past
RightCalls s (Answer reply) (Vcpu v) past = ⊥
RightCalls s _ actor past = Unit {0}
