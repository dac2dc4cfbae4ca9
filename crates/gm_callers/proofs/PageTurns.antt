-- What a turn of a call that adds pages owes by the tables.
use Rattle.std.proofs.Common.{◌≡◌, ℕ, ◌<◌, List, Option, Some, None, subst, sym, ◌∙◌, ap}
use Rattle.gm_base.specs.Scripts.{Orders}
use Rattle.gm_base.specs.declared.values.Actor.TheVariants.{Caller as OfCaller}
use Rattle.gm_base.specs.declared.values.Folio.{Folio}
use Rattle.gm_base.specs.declared.values.Setup.{Setup}
use Rattle.gm_calls.specs.Judgements.{pages_of}
use Rattle.gm_calls.specs.declared.judged.PagePlan.{PagePlan}
use Rattle.gm_flat.specs.Calls.{Plan, Paged}
use Rattle.gm_flat.specs.Effects.{Addition}
use Rattle.gm_flat.specs.Histories.{Call as Past, call, bracket}
use Rattle.gm_flat.specs.Replay.{added_by, flat}
use Rattle.gm_flat.specs.RightCalls.{IsAnswer, IsPage, IsPageOf, PagesEnd, RightAnswer, RightPage}
use Rattle.gm_flat.specs.RightLives.{IsNext, PageAdds, PageAddsBy, RightPageAdds, plan_of}
use Rattle.gm_flat.specs.declared.effect.Reply.{Reply}
use Rattle.gm_flat.specs.declared.entry.Entry.{Entry}
use Rattle.gm_flat.specs.declared.entry.What.TheVariants.{Page, Answer}
use Rattle.gm_laws.specs.May.{May}
use Rattle.gm_callers.proofs.Moves.{AddingPages, adding_pages}
use Rattle.gm_callers.specs.Callers.{caller_at, pages_in}
use Rattle.gm_callers.specs.Stand.{AddsPages, CallersStand}
use Rattle.gm_callers.specs.declared.caller.Caller.{Caller}

-- a call that adds pages isn't in a bracket
pub no_bracket : {s : Setup} {cs : List Caller} {past : List Entry} (c : ℕ) (q : PagePlan) → CallersStand s cs past → c < s.callers → AddsPages q (caller_at cs c).call → bracket c past ≡ None
no_bracket c q st lt at = (adding_pages c q st lt at).stage.no_bracket

-- how many pages the history's call has added
pages_counted : {s : Setup} {cs : List Caller} {past : List Entry} (c : ℕ) (q : PagePlan) → (g : AddingPages s cs c q past) → pages_in (caller_at cs c).call ≡ g.y.pages
pages_counted c q g = ap pages_in g.is_x ∙ g.ties.pages_is

-- what an entry of one run of pages owes
pub record MayAdd (frames : ℕ) (q : PagePlan) (index pages : ℕ) (d : Addition) (past : List Entry) : Type 0 where
  pub is_page : IsPageOf (pages_of q) q.base index pages (flat past)
  pub of_file : d.file ≡ q.file
  pub next : IsNext d (flat past)
  pub adds_by : PageAddsBy frames (pages_of q) q.base d (flat past)

page_right : (s : Setup) (q : PagePlan) (index pages : ℕ) (x : Option Past) (y : Past) (past : List Entry) → x ≡ Some y → plan_of s y past ≡ Paged (pages_of q) → pages ≡ y.pages → IsPageOf (pages_of q) q.base index pages (flat past) → RightPage s index x past
page_right s q index pages x y past e p n h =
    subst (λ (z : Option Past). RightPage s index z past) (sym e)
    (subst (λ (r : Plan). IsPage index y r (flat past)) (sym p)
    (subst (λ (k : ℕ). IsPageOf (pages_of q) q.base index k (flat past)) n h))

adds_right : (s : Setup) (q : PagePlan) (x : Option Past) (y : Past) (a : Option Addition) (d : Addition) (past : List Entry) → x ≡ Some y → plan_of s y past ≡ Paged (pages_of q) → a ≡ Some d → (d.file ≡ q.file) × IsNext d (flat past) × PageAddsBy s.frames (pages_of q) q.base d (flat past) → RightPageAdds s x a past
adds_right s q x y a d past e p h m =
    subst (λ (z : Option Past). RightPageAdds s z a past) (sym e)
    (subst (λ (r : Plan). PageAdds s.frames r a (flat past)) (sym p)
    (subst (λ (b : Option Addition). PageAdds s.frames (Paged (pages_of q)) b (flat past)) (sym h) m))

pub may_page : (o : Orders) {cs : List Caller} {past : List Entry} (c : ℕ) (q : PagePlan) (index : ℕ) (folio : Folio) (n : ℕ) (d : Addition) → CallersStand o.setup cs past → c < o.setup.callers → AddsPages q (caller_at cs c).call → added_by (Page index folio n) (OfCaller c) past ≡ Some d → MayAdd o.setup.frames q index (pages_in (caller_at cs c).call) d past → May o (Page index folio n) (OfCaller c) past
may_page o {cs = cs} {past = past} c q index folio n d st lt at added m =
    let g = adding_pages c q st lt at in (
      g.stage.no_bracket,
      page_right o.setup q index (pages_in (caller_at cs c).call) (call c past) g.y past g.call_is g.stage.is_judged (pages_counted c q g) m.is_page,
      adds_right o.setup q (call c past) g.y (added_by (Page index folio n) (OfCaller c) past) d past g.call_is g.stage.is_judged added (m.of_file, m.next, m.adds_by),
    )

-- the call is answered where its pages end
pub may_answer : (o : Orders) {cs : List Caller} {past : List Entry} (c : ℕ) (q : PagePlan) (reply : Reply) → CallersStand o.setup cs past → c < o.setup.callers → AddsPages q (caller_at cs c).call → PagesEnd o.setup.frames reply (pages_of q) q.base (pages_in (caller_at cs c).call) (flat past) → May o (Answer reply) (OfCaller c) past
may_answer o {cs = cs} {past = past} c q reply st lt at ends =
    let g = adding_pages c q st lt at in (
      g.stage.no_bracket,
      subst (λ (z : Option Past). RightAnswer o.setup reply z past) (sym g.call_is)
          (subst (λ (r : Plan). IsAnswer o.setup reply g.y r past) (sym g.stage.is_judged)
          (subst (λ (k : ℕ). PagesEnd o.setup.frames reply (pages_of q) q.base k (flat past)) (pages_counted c q g) ends)),
    )
