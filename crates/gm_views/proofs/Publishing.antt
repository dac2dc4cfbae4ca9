-- To publish one change keeps the rule of the views.
use Rattle.std.proofs.Common.{rules, Result, Ok, Err, IsOk, MatchResult, ◌≡◌, ℕ, ◌+◌, ◌-◌, ◌<◌, ◌≤◌, false, nat_eq, List, [], ◌∷◌, ◌++◌, length, fold, map, All, refl, ap, sym, ◌∙◌, subst, arith, length-append}
use Rattle.std.proofs.lemmas.Bool.Decides.{nat_tests}
use mathlib.Core.List.{IsPrefix}
use Rattle.crossbeam_utils.specs.Register.{TurnsAt}
use Rattle.gm_views.specs.declared.sights.Sight.{Sight}
use Rattle.gm_views.specs.declared.shown.Shown.{Shown}
use Rattle.gm_views.specs.declared.shown.Change.{Change}
use Rattle.gm_views.specs.declared.shown.Content.{Content}
use Rattle.gm_views.specs.declared.rule.Known.{Known}
use Rattle.gm_views.specs.Sights.{last_of}
use Rattle.gm_views.specs.Shows.{sight_of, content_of, applied, changed}
use Rattle.gm_views.specs.Rules.{IsShown, Keeps, Puts}
use Rattle.gm_views.proofs.Prefixes.{prefix_self, prefix_more, prefix_whole}
use Rattle.gm_views.proofs.Rising.{last_snoc, rises_snoc}
use Rattle.gm_views.proofs.Views.{EachKnows, each_set}

-- a change that finds room
pub applied_room : (s : Content) (c : Change) → 0 < s.room → applied s c ≡ record { number = s.number + 1; room = s.room - 1; sight = changed s.sight c }
applied_room s c room = let no : nat_eq s.room 0 ≡ false = grind (arith, nat_tests) in rw no

-- what is shown after one change
pub record Next (x next : Shown) (c : Change) : Type 0 where
  pub number : next.number ≡ x.number + 1
  pub room : next.room + 1 ≡ x.room
  pub sight : sight_of next ≡ changed (sight_of x) c

pub next_of : (x next : Shown) (c : Change) → 0 < x.room → content_of next ≡ applied (content_of x) c → Next x next c
next_of x next c room is =
    let e = is ∙ applied_room (content_of x) c room in
    let r : next.room ≡ x.room - 1 = ap (λ (s : Content). s.room) e in
    record { number = ap (λ (s : Content). s.number) e; room = omega arith; sight = ap (λ (s : Content). s.sight) e }

module _ (seat : ℕ) (v : Known) (x next : Shown) (shown : IsShown x v.seen) (number : next.number ≡ x.number + 1) (up : (last_of v.seen).position ≤ (sight_of next).position) where
  added : List Sight
  added = v.seen ++ sight_of next ∷ []

  is_shown : IsShown next added
  unfolding added
  is_shown = record {
    number = let n : length (v.seen ++ sight_of next ∷ []) ≡ length v.seen + 1 = length-append v.seen (sight_of next ∷ []) in let m = shown.number in omega arith;
    last = last_snoc v.seen (sight_of next);
    rises = rises_snoc v.seen (sight_of next) shown.rises up;
  }

  each : (all : List Sight) (seats : List Known) → v.seen ≡ all → EachKnows all seats → EachKnows added seats
  unfolding added
  each all seats same knows j u e =
      let k = knows j u e in
      let P : List Sight → Type 0 = λ l. IsPrefix u.seen l × IsPrefix u.told l in
      let k' : P v.seen = subst P (sym same) k in
      (prefix_more u.seen v.seen (sight_of next ∷ []) k'.0, prefix_more u.told v.seen (sight_of next ∷ []) k'.1)

  -- the step that adds one view
  pub puts_one : TurnsAt Keeps seat v x next Puts
  unfolding added
  puts_one seats kept here =
      let all = kept.0 in
      let mine = kept.2 seat v here in
      let same : v.seen ≡ all = prefix_whole v.seen all mine.0 (let a = kept.1.number in let b = shown.number in omega arith) in
      let w : Known = record { seen = added; told = v.told } in
      let told : IsPrefix v.told added = prefix_more v.told v.seen (sight_of next ∷ []) (subst (λ (l : List Sight). IsPrefix v.told l) (sym same) mine.1) in
      (w, (added, is_shown, each_set added seats seat w (each all seats same kept.2) (prefix_self added, told)), record { seen = refl; told = refl; shown = is_shown })

-- the step that publishes the one change that waits
pub puts : (seat : ℕ) (v : Known) (x next : Shown) (changes : List Change) → IsShown x v.seen → length changes ≡ 1 → 0 < x.room
    → All (λ c. (last_of v.seen).position ≤ c.position) changes → content_of next ≡ fold applied (content_of x) changes → TurnsAt Keeps seat v x next Puts
puts seat v x next [] shown one room later is = absurd (omega arith)
puts seat v x next (c ∷ d ∷ cs) shown one room later is = absurd (omega arith)
puts seat v x next (c ∷ []) shown one room later is =
    let n = next_of x next c room is in
    let p : (sight_of next).position ≡ c.position = ap (λ (s : Sight). s.position) n.sight in
    puts_one seat v x next shown n.number (let l : (last_of v.seen).position ≤ c.position = later 0 c (omega arith) in omega arith)

-- what the writer then knows, in the words of the contract
pub one_change : (v : Known) (x next : Shown) (changes : List Change) → IsShown x v.seen → length changes ≡ 1 → 0 < x.room → content_of next ≡ fold applied (content_of x) changes
    → (sight_of next ∷ [] ≡ map (changed (last_of v.seen)) changes) × (next.room + 1 ≡ x.room)
one_change v x next [] shown one room is = absurd (omega arith)
one_change v x next (c ∷ d ∷ cs) shown one room is = absurd (omega arith)
one_change v x next (c ∷ []) shown one room is =
    let n = next_of x next c room is in
    (ap (λ (s : Sight). s ∷ []) (n.sight ∙ ap (λ (s : Sight). changed s c) (sym shown.last)), n.room)

-- what holds of an Ok holds where it is one
pub of_ok : {X E : Type 0} (A B : Type 0) (r : Result X E) → IsOk r → MatchResult r (λ _. A) (λ _. B) → A
of_ok A B (Ok x) is m = m
of_ok A B (Err e) is m = absurd (search rules)
