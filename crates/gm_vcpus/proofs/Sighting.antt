-- What a fault samples and looks up, at the present position or for an earlier one.
use Rattle.std.proofs.Common.{◌≡◌, ℕ, ◌<◌, ◌≤◌, List, [], ◌∷◌, Bool, true, false, length, set, Option, Some, None, IfSome, arith, subst, sym, ◌∙◌, ap, refl, cond, eqb, leb}
use Rattle.std.proofs.lemmas.Bool.{cond-true, eq-eqb, le-leb, ne_eqb}
use Rattle.gm_base.specs.Scripts.{Orders}
use Rattle.gm_base.specs.declared.numbers.TheConstants.{PAGE_LIMIT}
use Rattle.gm_base.specs.declared.values.Actor.TheVariants.{Vcpu as OfVcpu}
use Rattle.gm_base.specs.declared.values.Setup.{Setup}
use Rattle.gm_fault.specs.declared.ticket.Ticket.{Ticket}
use Rattle.gm_flat.specs.Attribute.{attr_of}
use Rattle.gm_flat.specs.Calls.{has_memfd}
use Rattle.gm_flat.specs.FlatState.{Flat, in_use}
use Rattle.gm_flat.specs.Histories.{Fault, Faulting, Seen, fault}
use Rattle.gm_flat.specs.Replay.{flat, flat_at, looked_slot, slot_by}
use Rattle.gm_flat.specs.RightLook.{RightSample, RightSeen, file_of, id_of}
use Rattle.gm_flat.specs.RightOrder.{IsMissed, IsSampled}
use Rattle.gm_flat.specs.Slots.{is_file, lies_over, slot_by_id, slot_over}
use Rattle.gm_flat.specs.declared.entry.Entry.{Entry}
use Rattle.gm_flat.specs.declared.entry.What.TheVariants.{Sample}
use Rattle.gm_flat.specs.declared.views.Looked.{Looked}
use Rattle.gm_flat.specs.declared.views.Sampled.{Sampled}
use Rattle.gm_flat.specs.declared.views.SlotView.{SlotView}
use Rattle.gm_laws.proofs.Kit.{by, flat_at_all, flat_at_keep, some_same}
use Rattle.gm_laws.specs.May.{May}
use Rattle.gm_laws.specs.SlotsStand.{AllOf, HasOtherId, Pairwise}
use Rattle.gm_laws.specs.SmallSlots.{IsSmall}
use Rattle.gm_vcpus.proofs.Flights.{flight}
use Rattle.gm_vcpus.proofs.Moves.{looks, seen_by}
use Rattle.gm_vcpus.specs.Sights.{CanBeSeen, look_at, look_entry}
use Rattle.gm_vcpus.specs.Stages.{stage_of}
use Rattle.gm_vcpus.specs.Stand.{IsSightOf, VcpusStand}
use Rattle.gm_vcpus.specs.Vcpus.{looking, vcpu_at}
use Rattle.gm_vcpus.specs.declared.stage.Stage.TheVariants as at
use Rattle.gm_vcpus.specs.declared.vcpu.Vcpu.{Vcpu}

-- a sample for a position from the miss on may come
pub may_sample_at : (o : Orders) {s : Setup} {vs : List Vcpu} {past : List Entry} (v : ℕ) (k : Ticket) (position : ℕ) → VcpusStand s vs past → v < s.vcpus → (vcpu_at vs v).fault ≡ Some k → stage_of k ≡ at.Missed → ((missed : ℕ) → fault v past ≡ Faulting k.access missed None None None → missed ≤ length past → missed ≤ position) → position ≤ length past → May o (Sample position) (OfVcpu v) past
may_sample_at o {past = past} v k position st lt e is after so_far =
    let f = flight v k at.Missed st lt e is in
    subst (λ (x : Fault). IsMissed x × RightSample position past x) (sym f.fault_is) (tt, record { after_miss = after f.missed f.fault_is f.so_far; so_far = so_far })

-- and one at the present position
pub may_sample : (o : Orders) {s : Setup} {vs : List Vcpu} {past : List Entry} (v : ℕ) (k : Ticket) → VcpusStand s vs past → v < s.vcpus → (vcpu_at vs v).fault ≡ Some k → stage_of k ≡ at.Missed → May o (Sample (length past)) (OfVcpu v) past
may_sample o {past = past} v k st lt e is = may_sample_at o v k (length past) st lt e is (λ missed _ le. le) (omega arith)

-- a look for a position from the sample's on may come
pub may_look_at : (o : Orders) {s : Setup} {vs : List Vcpu} {past : List Entry} (v : ℕ) (k : Ticket) (x : Sampled) (z : Looked) (position : ℕ) → VcpusStand s vs past → v < s.vcpus → (vcpu_at vs v).fault ≡ Some k → stage_of k ≡ at.Sampled x → z ≡ look_at (flat_at position past) k.access.page position → x.at ≤ position → position ≤ length past → May o (look_entry z) (OfVcpu v) past
may_look_at o {past = past} v k x z position st lt e is there after so_far =
    let f = flight v k (at.Sampled x) st lt e is in
    let page : ℕ = k.access.page in
    subst (λ (y : Looked). May o (look_entry y) (OfVcpu v) past) (sym there)
    (subst (λ (y : Fault). IsSampled y × RightSeen position (id_of (slot_over (flat_at position past).slots page)) (attr_of page (flat_at position past).attrs) (file_of (slot_over (flat_at position past).slots page)) past y) (sym f.fault_is) (
      tt,
      record {
        after_sample = subst (λ (n : ℕ). n ≤ position) f.sample_is.at_is after;
        so_far = so_far;
        right_slot = refl;
        right_file = refl;
        right_attr = refl;
      },
    ))

-- what is there now is what is there at the present position
look_now : (past : List Entry) (page : ℕ) (z : Looked) → z ≡ look_at (flat past) page (length past) → z ≡ look_at (flat_at (length past) past) page (length past)
look_now past page z here = here ∙ ap (λ (f : Flat). look_at f page (length past)) (sym (flat_at_all past))

sampled_before : {s : Setup} {vs : List Vcpu} {past : List Entry} (v : ℕ) (k : Ticket) (x : Sampled) → VcpusStand s vs past → v < s.vcpus → (vcpu_at vs v).fault ≡ Some k → stage_of k ≡ at.Sampled x → x.at ≤ length past
sampled_before {past = past} v k x st lt e is =
    let f = flight v k (at.Sampled x) st lt e is in
    subst (λ (n : ℕ). n ≤ length past) (sym f.sample_is.at_is) f.sample_is.so_far

-- and one at the present position
pub may_look : (o : Orders) {s : Setup} {vs : List Vcpu} {past : List Entry} (v : ℕ) (k : Ticket) (x : Sampled) (z : Looked) → VcpusStand s vs past → v < s.vcpus → (vcpu_at vs v).fault ≡ Some k → stage_of k ≡ at.Sampled x → z ≡ look_at (flat past) k.access.page (length past) → May o (look_entry z) (OfVcpu v) past
may_look o {past = past} v k x z st lt e is here = may_look_at o v k x z (length past) st lt e is (look_now past k.access.page z here) (sampled_before v k x st lt e is) (omega arith)

-- a slot is the one with its id

all_over : (P : SlotView → Type 0) (page : ℕ) (s : SlotView) (slots : List SlotView) → AllOf P slots → slot_over slots page ≡ Some s → P s
all_over P page s [] a h = absurd (cc)
all_over P page s (r ∷ slots) a h = all_step P page s r slots (lies_over r page) a (all_over P page s slots a.1) h
  where
    all_step : (P : SlotView → Type 0) (page : ℕ) (s r : SlotView) (slots : List SlotView) (t : Bool) → AllOf P (r ∷ slots) → (slot_over slots page ≡ Some s → P s) → cond t (Some r) (slot_over slots page) ≡ Some s → P s
    all_step P page s r slots true a ih h = subst P (some_same r s h) a.0
    all_step P page s r slots false a ih h = ih h

own_step : (page : ℕ) (r : SlotView) (slots : List SlotView) (t : Bool) (o : Option SlotView) → slot_over slots page ≡ o → AllOf (HasOtherId r) slots → slot_by (id_of o) slots ≡ o → slot_by (id_of (cond t (Some r) o)) (r ∷ slots) ≡ cond t (Some r) o
own_step page r slots true o e p ih = cond-true (eqb r.id r.id) (Some r) (slot_by_id slots r.id) (eq-eqb r.id r.id refl)
own_step page r slots false None e p ih = refl
own_step page r slots false (Some s) e p ih =
    let n : r.id ≡ s.id → ⊥ = all_over (HasOtherId r) page s slots p e in
    rw (ne_eqb r.id s.id n) ih

pub own_id : (page : ℕ) (slots : List SlotView) → Pairwise HasOtherId slots → slot_by (id_of (slot_over slots page)) slots ≡ slot_over slots page
own_id page [] p = refl
own_id page (r ∷ slots) p = own_step page r slots (lies_over r page) (slot_over slots page) refl p.0 (own_id page slots p.1)

-- what is found over a page can be asked for

abbrev pub HasFlagForFile : Flat → SlotView → Type 0
HasFlagForFile f s = (file : ℕ) → is_file s.file file ≡ true → (in_use file f.files ≡ true) × (has_memfd s ≡ true)

sight_step : (user page : ℕ) (f : Flat) (r : SlotView) (slots : List SlotView) (t : Bool) → lies_over r page ≡ t → user ≤ PAGE_LIMIT → IsSmall user r → HasFlagForFile f r → IfSome (slot_over slots page) (IsSightOf user page) → IfSome (cond t (Some r) (slot_over slots page)) (IsSightOf user page)
sight_step user page f r slots true e u b g ih =
    let p = b.pages in
    let q = b.users in
    let i = b.indexes in
    record { over_page = record { over = e; base_fits = p; user_fits = omega arith; index_fits = i }; users = q; flagged = λ file h. (g file h).1 }
sight_step user page f r slots false e u b g ih = ih

pub sight_of : (user page : ℕ) (f : Flat) (slots : List SlotView) → user ≤ PAGE_LIMIT → AllOf (IsSmall user) slots → AllOf (HasFlagForFile f) slots → IfSome (slot_over slots page) (IsSightOf user page)
sight_of user page f [] u a g = tt
sight_of user page f (r ∷ slots) u a g = sight_step user page f r slots (lies_over r page) refl u a.0 g.0 (sight_of user page f slots u a.1 g.1)

-- a look finds the slot that lay over the page at its position
looked_then : (seen : Seen) (page position : ℕ) (e : Entry) (past : List Entry) → position ≤ length past → seen.place ≡ length past → seen.at ≡ position → seen.slot ≡ id_of (slot_over (flat_at position past).slots page) → Pairwise HasOtherId (flat_at position past).slots → looked_slot seen (e ∷ past) ≡ slot_over (flat_at position past).slots page
looked_then seen page position e past le p a s i =
    let o : Option ℕ = id_of (slot_over (flat_at position past).slots page) in
    rw (p, a, s) (ap (λ (f : Flat). cond (leb position (length past)) (slot_by o f.slots) None) (flat_at_keep position e past le) ∙ (cond-true (leb position (length past)) (slot_by o (flat_at position past).slots) None (le-leb position (length past) le) ∙ own_id page (flat_at position past).slots i))

-- its fault looks up its page for a position from its sample's on
pub looks_then : {s : Setup} {vs : List Vcpu} {past : List Entry} (t v : ℕ) (k : Ticket) (x : Sampled) (z : Looked) (position : ℕ) → VcpusStand s vs past → v < s.vcpus → (vcpu_at vs v).fault ≡ Some k → stage_of k ≡ at.Sampled x → z ≡ look_at (flat_at position past) k.access.page position → x.at ≤ position → position ≤ length past → CanBeSeen s.user (flat_at position past) → VcpusStand s (set vs v (looking (vcpu_at vs v) z)) (by t (OfVcpu v) (look_entry z) ∷ past)
looks_then {s = s} {vs = vs} {past = past} t v k x z position st lt e is there after so_far c =
    let page : ℕ = k.access.page in
    let f : Flat = flat_at position past in
    let w : Looked = look_at f page position in
    let entry : Entry = by t (OfVcpu v) (look_entry w) in
    subst (λ (y : Looked). VcpusStand s (set vs v (looking (vcpu_at vs v) y)) (by t (OfVcpu v) (look_entry y) ∷ past)) (sym there)
    (looks t v k x w position (id_of w.slot) (file_of w.slot) st lt e is (λ sample at_is le. record {
      at_is = refl;
      after_sample = subst (λ (n : ℕ). n ≤ position) at_is after;
      before_place = so_far;
      so_far = omega arith;
      slot_is = looked_then (seen_by (length past) position w (id_of w.slot) (file_of w.slot)) page position entry past so_far refl refl refl c.stand.ids_differ;
      attr_is = refl;
      file_is = refl;
      sight = sight_of s.user page f f.slots c.user_small c.small c.stand.files_in_use;
    }))

-- its fault looks up its page at the present position
pub looks_here : {s : Setup} {vs : List Vcpu} {past : List Entry} (t v : ℕ) (k : Ticket) (x : Sampled) (z : Looked) → VcpusStand s vs past → v < s.vcpus → (vcpu_at vs v).fault ≡ Some k → stage_of k ≡ at.Sampled x → z ≡ look_at (flat past) k.access.page (length past) → CanBeSeen s.user (flat past) → VcpusStand s (set vs v (looking (vcpu_at vs v) z)) (by t (OfVcpu v) (look_entry z) ∷ past)
looks_here {s = s} {past = past} t v k x z st lt e is here c =
    looks_then t v k x z (length past) st lt e is (look_now past k.access.page z here) (sampled_before v k x st lt e is) (omega arith)
    (subst (CanBeSeen s.user) (sym (flat_at_all past)) c)
