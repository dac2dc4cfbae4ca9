-- What a sighting says of a fault, and whether it is true.
use Rattle.std.proofs.Common.{◌≡◌, ℕ, ◌≤◌, List, length, Option, Some, None, arith, refl, ap, sym, ◌∙◌, subst}
use Rattle.gm_base.specs.Aim.{Aim}
use Rattle.gm_base.specs.declared.values.Kind.{Kind}
use Rattle.gm_flat.specs.Attribute.{attr_of}
use Rattle.gm_flat.specs.FlatState.{AttrCall, Flat}
use Rattle.gm_flat.specs.Histories.{Fault, Faulting, NoFault, fault}
use Rattle.gm_flat.specs.Replay.{flat, flat_at}
use Rattle.gm_flat.specs.Slots.{slot_over}
use Rattle.gm_flat.specs.declared.entry.Entry.{Entry}
use Rattle.gm_flat.specs.declared.views.Looked.{Looked}
use Rattle.gm_flat.specs.declared.views.Sighting.{Sighting}
use Rattle.gm_flat.specs.declared.views.SlotView.{SlotView}
use Rattle.gm_laws.proofs.Kit.{none_is, some_same}
use Rattle.gm_turns.specs.Depositing.{IsTrueBy, IsTrueOf, IsTrueSight}
use Rattle.gm_vcpus.specs.Asks.{asked_in}
use Rattle.gm_views.specs.Shows.{shown_after}
use Rattle.gm_views.specs.declared.shown.Change.{Change}
use Rattle.gm_views.specs.declared.sights.Sight.{Sight}
use Rattle.gm_publish.specs.Kept.{IsKept}
use Rattle.gm_publish.specs.Lookups.{view_by}
use Rattle.gm_publish.specs.Sightings.{page_in, present, sight_of_page}
use Rattle.gm_publish.proofs.Faults.{missed_at}
use Rattle.gm_publish.proofs.Looking.{Agrees, at_end}
use Rattle.gm_publish.proofs.Lookups.{agrees}

-- what is asked for
pub asked_is : (x : Fault) (a : Aim) (missed : ℕ) → asked_in x ≡ Some (a, missed) → x ≡ Faulting a missed None None None
asked_is (Faulting b m None None None) a missed h = let e = some_same (b, m) (a, missed) h in ap (λ (q : Aim × ℕ). Faulting q.0 q.1 None None None) e
asked_is (Faulting b m None None (Some g)) a missed h = absurd (none_is (a, missed) h)
asked_is (Faulting b m None (Some l) g) a missed h = absurd (none_is (a, missed) h)
asked_is (Faulting b m (Some s) l g) a missed h = absurd (none_is (a, missed) h)
asked_is NoFault a missed h = absurd (none_is (a, missed) h)

module _ (v : ℕ) (past : List Entry) (a : Aim) (missed : ℕ) (is : fault v past ≡ Faulting a missed None None None) where
  pub true_sight : (s : Sighting) → IsTrueOf s a missed past → IsTrueSight v s past
  true_sight s h = subst (λ (x : Fault). IsTrueBy s x past) (sym is) h

  pub of_sight : (s : Sighting) → IsTrueSight v s past → IsTrueOf s a missed past
  of_sight s h = subst (λ (x : Fault). IsTrueBy s x past) is h

  pub now_true : IsTrueSight v (sight_of_page a.page past) past
  now_true =
      let s : Sight = record { position = length past; seq = _; count = 0; hull = None; slots = (flat past).slots; calls = (flat past).attrs } in
      let f = at_end (length past) past s (omega arith) refl refl refl in
      true_sight (sight_of_page a.page past) (record {
        after_miss = missed_at v past a missed is;
        in_order = omega arith;
        so_far = omega arith;
        seq = f.seq;
        slot = ap (λ (slots : List SlotView). slot_over slots a.page) f.slots;
        attr = ap (attr_of a.page) f.calls;
      })

  pub now_is : sight_of_page a.page past ≡ present v past
  now_is = ap (λ (x : Fault). sight_of_page (page_in x) past) (sym is)

-- the look that a position had

abbrev pub look_in : ℕ → ℕ → List SlotView → List AttrCall → Looked
look_in at page slots calls = record { at = at; slot = slot_over slots page; attr = attr_of page calls }

look_same : (at page : ℕ) (s : Sight) (f : Flat) → s.slots ≡ f.slots → s.calls ≡ f.attrs → look_in at page s.slots s.calls ≡ look_in at page f.slots f.attrs
look_same at page s f slots calls = λ i. look_in at page (slots i) (calls i)

-- by the changes until then
look_then : (at page : ℕ) (past : List Entry) (changes before : List Change) → IsKept past changes → view_by at changes ≡ shown_after before → look_in at page (shown_after before).slots (shown_after before).calls ≡ look_in at page (flat_at at past).slots (flat_at at past).attrs
look_then at page past changes before k is =
    let a : Agrees at past (shown_after before) = subst (Agrees at past) is (agrees at past changes k) in
    look_same at page (shown_after before) (flat_at at past) a.slots a.calls

-- by a slot and an attribute that were told of that view
pub looked_then : (at page : ℕ) (past : List Entry) (changes before : List Change) (slot : Option SlotView) (attr : Kind) → IsKept past changes → view_by at changes ≡ shown_after before → slot ≡ slot_over (shown_after before).slots page → attr ≡ attr_of page (shown_after before).calls → record { at = at; slot = slot; attr = attr } ≡ look_in at page (flat_at at past).slots (flat_at at past).attrs
looked_then at page past changes before slot attr k is s a =
    let look : Option SlotView → Kind → Looked = λ x y. record { at = at; slot = x; attr = y } in
    (λ i. look (s i) (a i)) ∙ look_then at page past changes before k is

-- a sighting whose sequence is that of its position

module _ (past : List Entry) (changes : List Change) (a : Aim) (missed : ℕ) (s : Sighting) (k : IsKept past changes) where
  pub sequence_is : IsTrueOf s a missed past → (view_by s.sampled.at changes).seq ≡ s.sampled.seq
  sequence_is t = (agrees s.sampled.at past changes k).seq ∙ sym t.seq

  pub is_true_of : (l : Looked) → missed ≤ s.sampled.at → s.sampled.at ≤ s.looked.at → s.looked.at ≤ length past → (view_by s.sampled.at changes).seq ≡ s.sampled.seq → l ≡ look_in s.looked.at a.page (flat_at s.looked.at past).slots (flat_at s.looked.at past).attrs → l ≡ s.looked → IsTrueOf s a missed past
  is_true_of l after order far seq is same = record {
    after_miss = after;
    in_order = order;
    so_far = far;
    seq = sym seq ∙ (agrees s.sampled.at past changes k).seq;
    slot = ap (λ (x : Looked). x.slot) (sym same ∙ is);
    attr = ap (λ (x : Looked). x.attr) (sym same ∙ is);
  }

  pub look_is : (l : Looked) → l ≡ look_in s.looked.at a.page (flat_at s.looked.at past).slots (flat_at s.looked.at past).attrs → IsTrueOf s a missed past → l ≡ s.looked
  look_is l is t = is ∙ λ i. record { at = s.looked.at; slot = sym t.slot i; attr = sym t.attr i }
