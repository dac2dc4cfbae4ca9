-- A turn, and what it publishes.
use Rattle.std.proofs.Common.{◌≡◌, ℕ, suc, zero, ◌+◌, ◌≤◌, List, [], ◌∷◌, ◌++◌, All, Bool, true, false, map, Option, Some, None, Result, Ok, Err, IfOk, arith, refl, ap, sym, ◌∙◌, subst}
use Rattle.std.proofs.lemmas.Bool.{both_ways}
use Rattle.gm_base.specs.Scripts.{Orders}
use Rattle.gm_base.specs.declared.numbers.TheConstants.{MOST_USER_PAGES}
use Rattle.gm_base.specs.declared.values.Actor.{Actor}
use Rattle.gm_base.specs.declared.values.Actor.TheVariants.{Caller, Vcpu}
use Rattle.gm_flat.specs.RightHistory.{Each, Right}
use Rattle.gm_flat.specs.declared.entry.Entry.{Entry}
use Rattle.gm_flat.specs.declared.entry.What.{What}
use Rattle.gm_flat.specs.declared.views.Sighting.{Sighting}
use Rattle.gm_laws.proofs.Kit.{by, none_is, some_same}
use Rattle.gm_laws.proofs.RuledIsRight.{right}
use Rattle.gm_laws.specs.Ruled.{AllFreed}
use Rattle.gm_laws.specs.Turns.{IsNewTurn, onto}
use Rattle.gm_machine.specs.Deposits.{Deposits}
use Rattle.gm_machine.specs.Flags.{Flags}
use Rattle.gm_machine.specs.Steps.{Moves, Seen, StepsTo}
use Rattle.gm_turns.proofs.Loudness.{vcpu_told}
use Rattle.gm_turns.specs.Ahead.{Loud, ahead_by, ahead_in, loud_in}
use Rattle.gm_turns.specs.Depositing.{sighting_entries}
use Rattle.gm_turns.specs.declared.outcome.Ahead.{Ahead}
use Rattle.gm_turns.specs.declared.outcome.How.{How}
use Rattle.gm_turns.specs.declared.outcome.How.TheVariants.{Kick, Next}
use Rattle.gm_turns.specs.declared.outcome.Outcome.{Outcome}
use Rattle.gm_turns.specs.declared.outcome.Outcome.TheVariants.{Done, Moved, Nothing, Waits}
use Rattle.gm_views.specs.Doors.{PublisherSeen}
use Rattle.gm_views.specs.Shows.{changed}
use Rattle.gm_views.specs.Sights.{last_of, opening}
use Rattle.gm_views.specs.declared.shown.Change.{Change as ViewChange}
use Rattle.gm_views.specs.declared.sights.Sight.{Sight}
use Rattle.gm_publish.specs.Counts.{CountedTo}
use Rattle.gm_publish.specs.Kept.{AreTied, IsCalm, IsSound, change_of, views_by}
use Rattle.gm_publish.specs.Publisheds.{DepositsAs, PublishedSeen, StepsAs, seen_by}
use Rattle.gm_publish.specs.Views.{views_of, views_until}
use Rattle.gm_publish.proofs.Calming.{turn_calm}
use Rattle.gm_publish.proofs.Counts.{next_turn}
use Rattle.gm_publish.proofs.Finding.{finds_all}
use Rattle.gm_publish.proofs.Lookups.{last_shown, views_more}
use Rattle.gm_publish.proofs.Showing.{AllBelow, IsUpTo, below_counted, loud_change, makes, makes_none, older, until_onto}

all_below : (n : ℕ) (past : List Entry) → CountedTo n past → AllBelow (n + 1) past
all_below n [] c = tt
all_below n (e ∷ past) c = below_counted (n + 1) e past c.each (let k : e.turn ≡ n = c.ends in omega arith)

-- a turn of these entries, if any, and what holds after it
pub record Adds (old new : Seen) (a : Actor) : Type 0 where
  pub ws : List What
  pub is : new.past ≡ onto (old.turns + 1) a ws old.past
  pub sound : IsSound new

same_adds : (old new : Seen) (a : Actor) → new ≡ old → IsSound old → Adds old new a
same_adds old new a same s = record { ws = []; is = ap (λ (m : Seen). m.past) same; sound = subst IsSound (sym same) s }

moves_adds : (old new : Seen) (a : Actor) (kick : Bool) → Moves old new a kick → IsSound old → Adds old new a
moves_adds old new a kick m s =
    let ws = m.turn.entries in
    let row = m.turn.by_tables.row in
    record {
      ws = ws;
      is = m.turn.past_is;
      sound = record {
        right = m.right;
        counted = subst (λ (n : ℕ). CountedTo n new.past) (sym m.turns) (subst (CountedTo (old.turns + 1)) (sym m.turn.past_is) (next_turn old.turns old.orders.setup a ws old.past row s.counted));
        calm = subst (λ (past : List Entry). Each IsCalm past) (sym m.turn.past_is) (turn_calm old.orders.setup (old.turns + 1) a ws old.past (all_below old.turns old.past s.counted) row s.calm);
        user = subst (λ (o : Orders). o.setup.user ≤ MOST_USER_PAGES) (sym m.orders) s.user;
      };
    }

pub deposits_adds : (old new : Seen) (v : ℕ) (sight : Sighting) → Deposits old new v sight → IsSound old → Adds old new (Vcpu v)
deposits_adds old new v sight m s =
    let ws = sighting_entries sight in
    let row = m.by_tables.row in
    record {
      ws = ws;
      is = m.past;
      sound = record {
        right = m.right;
        counted = subst (λ (n : ℕ). CountedTo n new.past) (sym m.turns) (subst (CountedTo (old.turns + 1)) (sym m.past) (next_turn old.turns old.orders.setup (Vcpu v) ws old.past row s.counted));
        calm = subst (λ (past : List Entry). Each IsCalm past) (sym m.past) (turn_calm old.orders.setup (old.turns + 1) (Vcpu v) ws old.past (all_below old.turns old.past s.counted) row s.calm);
        user = subst (λ (o : Orders). o.setup.user ≤ MOST_USER_PAGES) (sym m.orders) s.user;
      };
    }

-- a step, whatever its outcome
pub steps_add : (old new : Seen) (a : Actor) (how : How) (outcome : Outcome) → StepsTo old new a how outcome → IsSound old → Adds old new a
steps_add old new a Next Moved h s = moves_adds old new a false h.moves s
steps_add old new a Next Done h s = same_adds old new a h.same s
steps_add old new (Vcpu v) Kick Moved h s = moves_adds old new (Vcpu v) true h.moves s
steps_add old new (Caller c) Kick Moved h s = absurd h
steps_add old new (Vcpu v) Kick Nothing h s = same_adds old new (Vcpu v) h.same s
steps_add old new (Caller c) Kick Nothing h s = absurd h
steps_add old new a Next Nothing h s = absurd h
steps_add old new a Next (Waits blocker) h s = same_adds old new a h.same s
steps_add old new a Kick Done h s = absurd h
steps_add old new a Kick (Waits blocker) h s = absurd h

-- room that was made changes nothing of this
pub room_sound : (old new : Seen) (room : Flags) → new ≡ record old { room = room } → IsSound old → IsSound new
room_sound old new room is s = subst IsSound (sym is) (record { right = s.right; counted = s.counted; calm = s.calm; user = s.user })

-- the views before the turn, and the one that it adds

up_onto : (t : ℕ) (a : Actor) (ws : List What) (past : List Entry) → IsUpTo t past → IsUpTo t (onto t a ws past)
up_onto t a [] past u = u
up_onto t a (w ∷ ws) past u = up_onto t a ws (by t a w ∷ past) (self t)
  where
    self : (n : ℕ) → n ≤ n
    self n = omega arith

up_to : (n : ℕ) (past : List Entry) → CountedTo n past → IsUpTo (n + 1) past
up_to n [] c = tt
up_to n (e ∷ past) c = let k : e.turn ≡ n = c.ends in omega arith

none_loud : (l : Option Loud) (past : List Entry) → None ≡ ahead_by l past → l ≡ None
none_loud None past h = refl
none_loud (Some l) past h = absurd cc

-- one view more, that of the change
pub record Publishes (old new : List Entry) (c : ViewChange) : Type 0 where
  pub views : views_of new ≡ views_of old ++ changed (last_of (views_of old)) c ∷ []
  pub later : (last_of (views_of old)).position ≤ c.position

module _ (old new : Seen) (a : Actor) (s : IsSound old) (d : Adds old new a) where
  before : views_until (Some (old.turns + 1)) new.past ≡ views_of old.past
  before = ap (views_until (Some (old.turns + 1))) d.is ∙ (until_onto (old.turns + 1) a d.ws old.past ∙ older (old.turns + 1) old.past (all_below old.turns old.past s.counted))

  pub adds_none : None ≡ ahead_in (old.turns + 1) new.past → views_of new.past ≡ views_of old.past
  adds_none h =
      let up : IsUpTo (old.turns + 1) new.past = subst (IsUpTo (old.turns + 1)) (sym d.is) (up_onto (old.turns + 1) a d.ws old.past (up_to old.turns old.past s.counted)) in
      sym (makes_none (old.turns + 1) new.past d.sound.counted.each up (none_loud (loud_in (old.turns + 1) new.past) new.past h)) ∙ before

  add : (c : Ahead) (l : Option Loud) → loud_in (old.turns + 1) new.past ≡ l → Some c ≡ ahead_by l new.past → Publishes old.past new.past (change_of c)
  add c None e h = absurd (none_is c (sym h))
  add c (Some l) e h =
      let few = d.sound.user in
      let m = makes (old.turns + 1) new.past d.sound.calm (finds_all new.orders new.past (omega arith) d.sound.right) l e in
      let same : change_of c ≡ loud_change l new.past = ap change_of (some_same c _ h) in
      let P : List Sight → ViewChange → Type 0 = λ views x. views_of new.past ≡ views ++ changed (last_of views) x ∷ [] in
      record {
        views = subst (λ (views : List Sight). P views (change_of c)) before (subst (λ (x : ViewChange). P (views_until (Some (old.turns + 1)) new.past) x) (sym same) m.views);
        later = subst (λ (views : List Sight). (last_of views).position ≤ (change_of c).position) before (subst (λ (x : ViewChange). (last_of (views_until (Some (old.turns + 1)) new.past)).position ≤ x.position) (sym same) m.later);
      }

  pub adds_one : (c : Ahead) → Some c ≡ ahead_in (old.turns + 1) new.past → Publishes old.past new.past (change_of c)
  adds_one c h = add c (loud_in (old.turns + 1) new.past) refl h

-- what is tied

pub still_tied : (old new : Seen) (p : PublisherSeen) (changes : List ViewChange) → AreTied old p changes → IsSound new → views_of new.past ≡ views_of old.past → AreTied new p changes
still_tied old new p changes t s e = record { sound = s; published = t.published ∙ sym e; waiting = t.waiting; views = e ∙ t.views }

pub room_tied : (old new : Seen) (p : PublisherSeen) (changes : List ViewChange) (room : Flags) → new ≡ record old { room = room } → AreTied old p changes → AreTied new p changes
room_tied old new p changes room is t = still_tied old new p changes t (room_sound old new room is t.sound) (ap (λ (m : Seen). views_of m.past) is)

only : (s : Sight) (c : ViewChange) → s.position ≤ c.position → All (λ (d : ViewChange). s.position ≤ d.position) (c ∷ [])
only s c h zero d lt = h
only s c h (suc k) d lt = absurd (omega arith)

-- a change that was noted
pub record Noted (old : Seen) (p q : PublisherSeen) (c : ViewChange) : Type 0 where
  pub published : q.published ≡ views_of old.past
  pub waiting : q.waiting ≡ c ∷ []

pub noted : (old : Seen) (p q : PublisherSeen) (changes : List ViewChange) (c : ViewChange) → AreTied old p changes → q ≡ record p { waiting = p.waiting ++ c ∷ [] } → Noted old p q c
noted old p q changes c t is = record {
  published = ap (λ (x : PublisherSeen). x.published) is ∙ t.published;
  waiting = ap (λ (x : PublisherSeen). x.waiting) is ∙ ap (λ (ws : List ViewChange). ws ++ c ∷ []) t.waiting;
}

-- has no earlier position than the last view
pub noted_later : (old : Seen) (p q : PublisherSeen) (c : ViewChange) → Noted old p q c → (last_of (views_of old.past)).position ≤ c.position → All (λ (d : ViewChange). (last_of q.published).position ≤ d.position) q.waiting
noted_later old p q c n h =
    subst (λ (views : List Sight). All (λ (d : ViewChange). (last_of views).position ≤ d.position) q.waiting) (sym n.published)
    (subst (λ (ws : List ViewChange). All (λ (d : ViewChange). (last_of (views_of old.past)).position ≤ d.position) ws) (sym n.waiting) (only (last_of (views_of old.past)) c h))

pub published_tied : (old new : Seen) (p q r : PublisherSeen) (changes : List ViewChange) (c : ViewChange) → AreTied old p changes → IsSound new → Publishes old.past new.past c → Noted old p q c → r.published ≡ q.published ++ map (changed (last_of q.published)) q.waiting → r.waiting ≡ [] → AreTied new r (changes ++ c ∷ [])
published_tied old new p q r changes c t s m n is waiting =
    let V = views_of old.past in
    let shown : r.published ≡ V ++ changed (last_of V) c ∷ [] = is ∙ λ i. n.published i ++ map (changed (last_of (n.published i))) (n.waiting i) in
    let kept : V ++ changed (last_of V) c ∷ [] ≡ views_by opening (changes ++ c ∷ []) =
    ap (λ (views : List Sight). views ++ changed (last_of views) c ∷ []) t.views
    ∙ (ap (λ (x : Sight). views_by opening changes ++ changed x c ∷ []) (last_shown changes) ∙ sym (views_more changes c)) in
    record { sound = s; published = shown ∙ sym m.views; waiting = waiting; views = m.views ∙ kept }

-- a deposit publishes nothing

new_number : (n : ℕ) (past : List Entry) → CountedTo n past → IsNewTurn (n + 1) past
new_number n [] c = omega arith
new_number n (e ∷ past) c = let k : e.turn ≡ n = c.ends in omega arith

pub deposit_tied : (old new : Seen) (p : PublisherSeen) (changes : List ViewChange) (v : ℕ) (sight : Sighting) → AreTied old p changes → Deposits old new v sight → AreTied new p changes
deposit_tied old new p changes v sight t m =
    let d = deposits_adds old new v sight m t.sound in
    let told = vcpu_told (old.turns + 1) v (sighting_entries sight) old.past (new_number old.turns old.past t.sound.counted) m.by_tables.row in
    still_tied old new p changes t d.sound (adds_none old new (Vcpu v) t.sound d (subst (λ (past : List Entry). None ≡ ahead_in (old.turns + 1) past) (sym m.past) told))

-- what is seen of it

pub deposits_as : (old new : PublishedSeen) (earlier after : Flags) (v : ℕ) (sight : Sighting) → Deposits (seen_by old earlier) (seen_by new after) v sight → DepositsAs old new v sight
deposits_as old new earlier after v sight m = record { before = earlier; after = after; deposits = m }

pub steps_as : {E : Type 0} (old new : PublishedSeen) (earlier after : Flags) (a : Actor) (how : How) (r : Result Outcome E) → IfOk r (λ outcome. StepsTo (seen_by old earlier) (seen_by new after) a how outcome) → IfOk r (λ outcome. StepsAs old new a how outcome)
steps_as old new earlier after a how (Ok outcome) h = record { before = earlier; after = after; steps = h }
steps_as old new earlier after a how (Err e) h = h

-- at the start

nothing_freed : AllFreed []
nothing_freed h = absurd (both_ways false refl h)

pub start_right : (o : Orders) → Right o []
start_right o = right o [] (record { follows = tt; row = tt; freed = nothing_freed })

pub start_tied : (m : Seen) (p : PublisherSeen) (changes : List ViewChange) (o : Orders) (room : Flags) (views : ℕ) → m ≡ record { orders = o; past = []; turns = 0; room = room } → p ≡ record { published = []; waiting = []; room = views } → changes ≡ [] → o.setup.user ≤ MOST_USER_PAGES → AreTied m p changes
start_tied m p changes o room views is was none user =
    let start : Seen = record { orders = o; past = []; turns = 0; room = room } in
    let empty : PublisherSeen = record { published = []; waiting = []; room = views } in
    let sound : IsSound start = record { right = start_right o; counted = record { ends = refl; each = tt }; calm = tt; user = user } in
    let tied : AreTied start empty [] = record { sound = sound; published = refl; waiting = refl; views = refl } in
    subst (λ (x : Seen). AreTied x p changes) (sym is) (subst (λ (x : PublisherSeen). AreTied start x changes) (sym was) (subst (λ (x : List ViewChange). AreTied start empty x) (sym none) tied))
