-- Which samples and looks may come, and turns without spare room.
use Rattle.std.proofs.Common.{List, None, Some, [], ap, eq-eqb, eqb, false, length, refl, subst, suc, sym, true, ℕ, ◌∙◌, ◌∷◌, ◌≡◌, ◌≤◌, ◌&&◌, ◌||◌, Bool}
use Rattle.std.proofs.lemmas.Bool.{both_ways, cond-true}
use Rattle.gm_base.specs.Aim.{Aim}
use Rattle.gm_base.specs.Scripts.{IsOf, Orders}
use Rattle.gm_base.specs.declared.values.Actor.{Actor}
use Rattle.gm_base.specs.declared.values.Actor.TheVariants.{Vcpu}
use Rattle.gm_flat.specs.Attribute.{attr_of}
use Rattle.gm_flat.specs.Histories.{Fault, Faulting, fault, same_turn, with_sample}
use Rattle.gm_flat.specs.Replay.{flat_at}
use Rattle.gm_flat.specs.RightHistory.{Right}
use Rattle.gm_flat.specs.RightLook.{RightSample, RightSeen, file_of, id_of}
use Rattle.gm_flat.specs.RightOrder.{IsMissed, IsSampled}
use Rattle.gm_flat.specs.Slots.{slot_over}
use Rattle.gm_flat.specs.declared.entry.Entry.{Entry}
use Rattle.gm_flat.specs.declared.entry.What.{What}
use Rattle.gm_flat.specs.declared.entry.What.TheVariants.{Sample}
use Rattle.gm_laws.proofs.Kit.{by}
use Rattle.gm_laws.proofs.RightIsRuled.{ruled}
use Rattle.gm_laws.proofs.RuledIsRight.{right}
use Rattle.gm_laws.proofs.TurnsKeep.{new_turn, quiet_freed}
use Rattle.gm_laws.specs.Ruled.{AllFreed, Ruled, loosened, loosens}
use Rattle.gm_laws.specs.Turns.{EachMay, IsNewTurn, IsTurn, onto}
use Rattle.gm_flat.specs.InTypes.{roomless_entries}
use Rattle.gm_determined.specs.Determined.{look_at, roomless_turn, stamps}
use Rattle.gm_determined.proofs.History.{freed_bare, kick_bare, may_bare, row_bare, ruled_bare, stamps_bare, twice}
use Rattle.gm_determined.proofs.Turn.{turn_stamped}
use Rattle.gm_flat.specs.Plays.{is_kick}

quiet_step : (t v : ℕ) (w : What) (past : List Entry) → loosens w ≡ false → loosened past ≡ false → loosened (by t (Vcpu v) w ∷ past) ≡ false
quiet_step t v w past e f = both (loosens w) (same_turn (by t (Vcpu v) w) past) (loosened past) e f
  where
    both : (x y z : Bool) → x ≡ false → z ≡ false → (x || (y && z)) ≡ false
    both false true z e f = f
    both false false z e f = refl
    both true y z e f = e

quiet_first : (t v : ℕ) (w : What) (past : List Entry) → loosens w ≡ false → IsNewTurn t past → loosened (by t (Vcpu v) w ∷ past) ≡ false
quiet_first t v w past e n = both (loosens w) (same_turn (by t (Vcpu v) w) past) (loosened past) e (new_turn t (Vcpu v) w past n)
  where
    both : (x y z : Bool) → x ≡ false → y ≡ false → (x || (y && z)) ≡ false
    both false false z e f = refl
    both false true z e f = absurd (both_ways true f refl)
    both true y z e f = e

-- a sample for any position from after the Miss on
pub sample_turn : (o : Orders) (t v : ℕ) (a : Aim) (m at : ℕ) (past : List Entry) → IsOf o.setup (Vcpu v) → IsNewTurn t past → fault v past ≡ Faulting a m None None None → m ≤ at → at ≤ length past → IsTurn o t (Vcpu v) (Sample at ∷ []) past
sample_turn o t v a m at past is n f low high =
    record {
      actor_is = is;
      new = n;
      row = refl;
      each_may = ((subst IsMissed (sym f) tt, subst (RightSample at past) (sym f) (record { after_miss = low; so_far = high })), tt);
      freed = quiet_freed (by t (Vcpu v) (Sample at) ∷ past) (quiet_first t v (Sample at) past refl n);
    }

seen_now : (at page : ℕ) (a : Aim) (s : ℕ) (m : ℕ) (past : List Entry) → a.page ≡ page → s ≤ at → at ≤ length past → RightSeen at (id_of (slot_over (flat_at at past).slots page)) (attr_of page (flat_at at past).attrs) (file_of (slot_over (flat_at at past).slots page)) past (Faulting a m (Some s) None None)
seen_now at page a s m past e low high =
    subst (λ (p : ℕ). RightSeen at (id_of (slot_over (flat_at at past).slots p)) (attr_of p (flat_at at past).attrs) (file_of (slot_over (flat_at at past).slots p)) past (Faulting a m (Some s) None None)) e
    (record { after_sample = low; so_far = high; right_slot = refl; right_file = refl; right_attr = refl })

-- a look for any position from the sample's on
pub look_turn : (o : Orders) (t v : ℕ) (a : Aim) (m s at : ℕ) (past : List Entry) → IsOf o.setup (Vcpu v) → IsNewTurn t past → fault v past ≡ Faulting a m (Some s) None None → s ≤ at → at ≤ length past → IsTurn o t (Vcpu v) (look_at at a.page past ∷ []) past
look_turn o t v a m s at past is n f low high =
    record {
      actor_is = is;
      new = n;
      row = refl;
      each_may = ((subst IsSampled (sym f) tt, subst (λ (z : Fault). RightSeen at (id_of (slot_over (flat_at at past).slots a.page)) (attr_of a.page (flat_at at past).attrs) (file_of (slot_over (flat_at at past).slots a.page)) past z) (sym f) (seen_now at a.page a s m past refl low high)), tt);
      freed = quiet_freed (by t (Vcpu v) (look_at at a.page past) ∷ past) (quiet_first t v (look_at at a.page past) past refl n);
    }

-- both in one turn
sampled : (t v : ℕ) (a : Aim) (m at : ℕ) (past : List Entry) → fault v past ≡ Faulting a m None None None → fault v (by t (Vcpu v) (Sample at) ∷ past) ≡ Faulting a m (Some at) None None
sampled t v a m at past f =
    cond-true (eqb v v) (with_sample at (fault v past)) (fault v past) (eq-eqb v v refl) ∙ ap (with_sample at) f

pub both_turn : (o : Orders) (t v : ℕ) (a : Aim) (m s at : ℕ) (past : List Entry) → IsOf o.setup (Vcpu v) → IsNewTurn t past → fault v past ≡ Faulting a m None None None → m ≤ s → s ≤ length past → s ≤ at → at ≤ suc (length past) → IsTurn o t (Vcpu v) (Sample s ∷ (look_at at a.page (by t (Vcpu v) (Sample s) ∷ past) ∷ [])) past
both_turn o t v a m s at past is n f low high then so =
    let q = by t (Vcpu v) (Sample s) ∷ past in
    let g : fault v q ≡ Faulting a m (Some s) None None = sampled t v a m s past f in
    record {
      actor_is = is;
      new = n;
      row = refl;
      each_may = (
        (subst IsMissed (sym f) tt, subst (RightSample s past) (sym f) (record { after_miss = low; so_far = high })),
        ((subst IsSampled (sym g) tt, subst (λ (z : Fault). RightSeen at (id_of (slot_over (flat_at at q).slots a.page)) (attr_of a.page (flat_at at q).attrs) (file_of (slot_over (flat_at at q).slots a.page)) q z) (sym g) (seen_now at a.page a s m q refl then so)), tt),
      );
      freed = quiet_freed (by t (Vcpu v) (look_at at a.page q) ∷ q) (quiet_step t v (look_at at a.page q) q refl (quiet_first t v (Sample s) past refl n));
    }

-- turns and histories without spare room
onto_bare : (t : ℕ) (a : Actor) (ws : List What) (past : List Entry) → roomless_entries (onto t a ws past) ≡ onto t a (roomless_turn ws) (roomless_entries past)
onto_bare t a [] past = refl
onto_bare t a (w ∷ ws) past = onto_bare t a ws (by t a w ∷ past)

each_bare : (o : Orders) (t : ℕ) (a : Actor) (ws : List What) (past : List Entry) → EachMay o t a ws past → EachMay o t a (roomless_turn ws) (roomless_entries past)
each_bare o t a [] past m = tt
each_bare o t a (w ∷ ws) past m = (may_bare o w a past m.0, each_bare o t a ws (by t a w ∷ past) m.1)

new_bare : (t : ℕ) (past : List Entry) → IsNewTurn t past → IsNewTurn t (roomless_entries past)
new_bare t [] n = n
new_bare t (d ∷ p) n = n

pub turn_bare : (o : Orders) (t : ℕ) (a : Actor) (ws : List What) (past : List Entry) → IsTurn o t a ws past → IsTurn o t a (roomless_turn ws) (roomless_entries past)
turn_bare o t a ws past u =
    record {
      actor_is = u.actor_is;
      new = new_bare t past u.new;
      row = row_bare o.setup a ws past u.row;
      each_may = each_bare o t a ws past u.each_may;
      freed = subst AllFreed (onto_bare t a ws past) (freed_bare (onto t a ws past) u.freed);
    }

pub right_bare : (o : Orders) (past : List Entry) → Right o past → Right o (roomless_entries past)
right_bare o past r = right o (roomless_entries past) (ruled_bare o past (ruled o past r))

-- turns after pasts that differ in spare room alone
pub alike_turns : (o : Orders) (t : ℕ) (a : Actor) (ws gs : List What) (p q : List Entry) → Ruled o p → roomless_entries p ≡ roomless_entries q → IsTurn o t a ws p → IsTurn o t a gs q → stamps ws ≡ stamps gs → is_kick ws ≡ is_kick gs → roomless_entries (onto t a ws p) ≡ roomless_entries (onto t a gs q)
alike_turns o t a ws gs p q r e x y st k =
    let u : IsTurn o t a (roomless_turn gs) (roomless_entries p) = subst (λ (z : List Entry). IsTurn o t a (roomless_turn gs) z) (sym e) (turn_bare o t a gs q y) in
    let v = turn_stamped o t a (roomless_turn ws) (roomless_turn gs) (roomless_entries p) (ruled_bare o p r) (turn_bare o t a ws p x) u (stamps_bare ws ∙ (st ∙ sym (stamps_bare gs))) (kick_bare ws ∙ (k ∙ sym (kick_bare gs))) in
    let same : roomless_turn ws ≡ roomless_turn gs = sym (twice ws) ∙ (v ∙ twice gs) in
    onto_bare t a ws p ∙ (ap (λ (us : List What). onto t a us (roomless_entries p)) same ∙ (ap (λ (z : List Entry). onto t a (roomless_turn gs) z) e ∙ sym (onto_bare t a gs q)))
