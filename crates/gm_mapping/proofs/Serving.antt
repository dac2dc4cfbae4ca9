-- What serves an access: a fill or a leaf of the history, and what it gives.
use Rattle.std.proofs.Common.{◌≡◌, ℕ, ◌+◌, ◌-◌, ◌<◌, ◌≤◌, List, [], ◌∷◌, Bool, true, false, ◌&&◌, length, suc, zero, take, Option, Some, None, arith, subst, sym, ◌∙◌, ap, refl, cond, eqb, inl, inr, ◌⊎◌}
use Rattle.std.proofs.lemmas.Bool.{and_parts, both_ways, leb-true}
use Rattle.gm_base.specs.Aim.{Aim}
use Rattle.gm_base.specs.Leaf.{covers as leaf_covers, serves as leaf_serves}
use Rattle.gm_base.specs.Scripts.{Orders}
use Rattle.gm_base.specs.declared.leaf.Leaf.{Leaf}
use Rattle.gm_base.specs.declared.numbers.TheConstants.{BUFFER_FILLS}
use Rattle.gm_base.specs.declared.values.Actor.{Actor}
use Rattle.gm_base.specs.declared.values.Folio.{Folio as OneFolio}
use Rattle.gm_base.specs.declared.values.Level.{Level}
use Rattle.gm_base.specs.declared.values.Place.{Place}
use Rattle.gm_base.specs.declared.values.Place.TheVariants as place
use Rattle.gm_base.specs.declared.values.Kind.{Kind}
use Rattle.gm_base.specs.declared.values.Setup.{Setup}
use Rattle.gm_flat.specs.Attribute.{attr_of}
use Rattle.gm_flat.specs.FlatState.{Flat, cached}
use Rattle.gm_flat.specs.Histories.{is_vcpu}
use Rattle.gm_flat.specs.Mappings.{Mapping, covers, fill_if, fills, fills_step, first_serving, inside, leaves, serves}
use Rattle.gm_flat.specs.NamedPage.{Named, named, named_aside, unmarked}
use Rattle.gm_flat.specs.Replay.{flat}
use Rattle.gm_flat.specs.RightLives.{frame_of}
use Rattle.gm_flat.specs.Slots.{slot_over}
use Rattle.gm_flat.specs.declared.effect.Backing.{Backing}
use Rattle.gm_flat.specs.declared.effect.Backing.TheVariants.{User, Folio}
use Rattle.gm_flat.specs.declared.entry.Entry.{Entry}
use Rattle.gm_flat.specs.declared.entry.What.{What}
use Rattle.gm_flat.specs.declared.entry.What.TheVariants.{Flush, Touch}
use Rattle.gm_laws.proofs.Fates.{named_folio}
use Rattle.gm_laws.proofs.Frames.{cached_frames}
use Rattle.gm_laws.proofs.Kit.{some_same}
use Rattle.gm_laws.proofs.Parts.{invariant_by}
use Rattle.gm_laws.specs.May.{Backs, ServedBy}
use Rattle.gm_laws.specs.Readings.{Among}
use Rattle.gm_laws.specs.Ruled.{Follows}
use Rattle.gm_mmu.specs.Served.{Serving, fills_of, first_of, served, walked}
use Rattle.gm_table.specs.Leaves.{leaf_over}
use Rattle.gm_tlb.specs.Fills.{latest}
use Rattle.gm_tlb.specs.declared.tlb.Fill.{Fill}
use Rattle.gm_mapping.proofs.Alike.{Hit, hit, unhit}
use Rattle.gm_mapping.proofs.LeavesApart.{Walk, unwalk, walk}
use Rattle.gm_mapping.specs.Alike.{BacksAt, GivesAs, GivesNamed, IsAlike, over}
use Rattle.gm_mapping.specs.Mapping.{MappingStands}

-- a fill was made before now

abbrev AllMade : ℕ → List Mapping → Type 0
AllMade n [] = Unit {0}
AllMade n (m ∷ ms) = (m.made < n) × AllMade n ms

made_more : (n : ℕ) (ms : List Mapping) → AllMade n ms → AllMade (suc n) ms
made_more n [] h = tt
made_more n (m ∷ ms) h = let k = h.0 in (omega arith, made_more n ms h.1)

made_take : (n k : ℕ) (ms : List Mapping) → AllMade n ms → AllMade n (take k ms)
made_take n zero ms h = tt
made_take n (suc k) [] h = tt
made_take n (suc k) (m ∷ ms) h = (h.0, made_take n k ms h.1)

made_if : (t : Bool) (n : ℕ) (a : Aim) (level : Level) (f : Flat) (ms : List Mapping) → AllMade (suc n) ms → AllMade (suc n) (fill_if t n a level f ms)
made_if false n a level f ms h = h
made_if true n a level f ms h =
    let all : AllMade (suc n) (record { made = n; page = a.page; level = level; kind = a.kind; gives = λ g. named f g } ∷ ms) = (omega arith, h) in
    made_take (suc n) BUFFER_FILLS (record { made = n; page = a.page; level = level; kind = a.kind; gives = λ g. named f g } ∷ ms) all

made_cond : (t : Bool) (n : ℕ) (ms : List Mapping) → AllMade n ms → AllMade n (cond t [] ms)
made_cond true n ms h = tt
made_cond false n ms h = h

made_step : (v : ℕ) (w : What) (a : Actor) (past : List Entry) (ms : List Mapping) → AllMade (suc (length past)) ms → AllMade (suc (length past)) (fills_step v w a past ms)
made_step v Flush a past ms h = made_cond (is_vcpu v a) (suc (length past)) ms h
made_step v (Touch x b level value fill) a past ms h = made_if (is_vcpu v a && eqb fill (length past)) (length past) x level (flat past) ms h
made_step v _ a past ms h = h

all_made : (v : ℕ) (past : List Entry) → AllMade (length past) (fills v past)
all_made v [] = tt
all_made v (e ∷ past) = made_step v e.what e.actor past (fills v past) (made_more (length past) (fills v past) (all_made v past))

-- which one serves first

first_step : (a : Aim) (n : ℕ) (m x : Mapping) (ms : List Mapping) (t : Bool) → serves a x ≡ t → (x.made < n) × AllMade n ms → (AllMade n ms → first_serving a ms ≡ Some m → Among m ms × (covers m a.page ≡ true) × (m.made < n)) → cond t (Some x) (first_serving a ms) ≡ Some m → Among m (x ∷ ms) × (covers m a.page ≡ true) × (m.made < n)
first_step a n m x ms true e l ih h =
    let s : x ≡ m = some_same x m h in
    (inl (sym s), subst (λ (y : Mapping). covers y a.page ≡ true) s (and_parts _ _ e).0, subst (λ (y : Mapping). y.made < n) s l.0)
first_step a n m x ms false e l ih h = let r = ih l.1 h in (inr r.0, r.1, r.2)

first_among : (a : Aim) (n : ℕ) (m : Mapping) (ms : List Mapping) → AllMade n ms → first_serving a ms ≡ Some m → Among m ms × (covers m a.page ≡ true) × (m.made < n)
first_among a n m [] l h = absurd (cc)
first_among a n m (x ∷ ms) l h = first_step a n m x ms (serves a x) refl l (first_among a n m ms) h

among_step : (page : ℕ) (m x : Mapping) (ms : List Mapping) (t : Bool) → covers x page ≡ t → (over page ms ≡ Some m → Among m ms × (covers m page ≡ true)) → cond t (Some x) (over page ms) ≡ Some m → Among m (x ∷ ms) × (covers m page ≡ true)
among_step page m x ms true e ih k = let s : x ≡ m = some_same x m k in (inl (sym s), subst (λ (y : Mapping). covers y page ≡ true) s e)
among_step page m x ms false e ih k = let r = ih k in (inr r.0, r.1)

over_among : (page : ℕ) (m : Mapping) (ms : List Mapping) → over page ms ≡ Some m → Among m ms × (covers m page ≡ true)
over_among page m [] h = absurd (cc)
over_among page m (x ∷ ms) h = among_step page m x ms (covers x page) refl (over_among page m ms) h

-- by a fill, or by a leaf where no fill serves

pub record ByFill (v : ℕ) (f : Fill) (m : Mapping) (past : List Entry) : Type 0 where
  pub among : Among m (fills v past)
  pub older : f.at < length past

pub record ByLeaf (f : Fill) (m : Mapping) (past : List Entry) : Type 0 where
  pub among : Among m (leaves past)
  pub here : f.at ≡ length past

-- what serves an access
pub record Serves (user v : ℕ) (a : Aim) (f : Fill) (past : List Entry) : Type 0 where
  pub mapping : Mapping
  pub alike : IsAlike user f.leaf mapping
  pub is_serving : leaf_serves f.leaf a ≡ true
  pub covers_it : covers mapping a.page ≡ true
  pub which : ByFill v f mapping past ⊎ ByLeaf f mapping past
  pub gives : GivesAs user f.leaf a.page (mapping.gives a.page)
  pub by : (b : Backing) → Backs b (mapping.gives a.page) → ServedBy a b f.leaf.level f.at (length past) (first_serving a (fills v past)) (first_serving a (leaves past))

fill_serves : (user v : ℕ) (a : Aim) (f : Fill) (past : List Entry) → Hit user a f (fills v past) → Serves user v a f past
fill_serves user v a f past h =
    let i = first_among a (length past) h.mapping (fills v past) (all_made v past) h.first in
    record {
      mapping = h.mapping;
      alike = h.alike;
      is_serving = h.is_serving;
      covers_it = i.1;
      which = inl (record { among = i.0; older = subst (λ (n : ℕ). n < length past) (sym h.at_is) i.2 });
      gives = h.alike.gives_is a.page (and_parts _ _ h.is_serving).0;
      by = λ b k. rw h.first (h.at_is, h.alike.level_is, k);
    }

leaf_serves_it : (user v : ℕ) (a : Aim) (f : Fill) (past : List Entry) → Walk user a (length past) f past → first_serving a (fills v past) ≡ None → Serves user v a f past
leaf_serves_it user v a f past h none =
    let i = over_among a.page h.mapping (leaves past) h.over_is in
    record {
      mapping = h.mapping;
      alike = h.alike;
      is_serving = h.is_serving;
      covers_it = i.1;
      which = inr (record { among = i.0; here = h.at_is });
      gives = h.alike.gives_is a.page (and_parts _ _ h.is_serving).0;
      by = λ b k. rw (none, h.first) (h.at_is, h.alike.level_is, k);
    }

serves_by : (user v : ℕ) (a : Aim) (f : Fill) (fs : List Fill) (past : List Entry) (o x : Option Fill) → latest fs a ≡ o → (latest fs a ≡ None → first_serving a (fills v past) ≡ None) → ((g : Fill) → latest fs a ≡ Some g → Hit user a g (fills v past)) → (x ≡ Some f → Walk user a (length past) f past) → first_of o x ≡ Some f → Serves user v a f past
serves_by user v a f fs past None x e u h w k = leaf_serves_it user v a f past (w k) (u e)
serves_by user v a f fs past (Some g) x e u h w k =
    let s : g ≡ f = some_same g f k in
    fill_serves user v a f past (h f (e ∙ ap Some s))

pub serving : {s : Setup} {m : Serving} (v : ℕ) (a : Aim) (f : Fill) (past : List Entry) → MappingStands s m past → v < s.vcpus → served m v a (length past) ≡ Some f → Serves s.user v a f past
serving {s = s} {m = m} v a f past st lt h =
    let t = st.buffers_are v [] lt in
    serves_by s.user v a f (fills_of m v) past (latest (fills_of m v) a) (walked (leaf_over m.leaves a.page) a (length past)) refl
    (λ e. unhit s.user a (fills_of m v) (fills v past) t e)
    (λ g e. hit s.user a g (fills_of m v) (fills v past) t e)
    (λ e. walk s.user a (length past) f m.leaves past st.leaves_are e) h

-- where nothing serves

pub record Unserved (v : ℕ) (a : Aim) (past : List Entry) : Type 0 where
  pub no_fill : first_serving a (fills v past) ≡ None
  pub no_leaf : first_serving a (leaves past) ≡ None

none_first : (o x : Option Fill) → first_of o x ≡ None → (o ≡ None) × (x ≡ None)
none_first None x h = (refl, h)
none_first (Some f) x h = absurd (cc)

pub unserved : {s : Setup} {m : Serving} (v : ℕ) (a : Aim) (past : List Entry) → MappingStands s m past → v < s.vcpus → served m v a (length past) ≡ None → Unserved v a past
unserved {s = s} {m = m} v a past st lt h =
    let p = none_first (latest (fills_of m v) a) (walked (leaf_over m.leaves a.page) a (length past)) h in
    record {
      no_fill = unhit s.user a (fills_of m v) (fills v past) (st.buffers_are v [] lt) p.0;
      no_leaf = unwalk s.user a (length past) m.leaves past st.leaves_are p.1;
    }

-- what it gives: a user page of the machine, or a folio that is live

pub from_first : (leaf : Leaf) (a : Aim) → leaf_serves leaf a ≡ true → leaf.first ≤ a.page
from_first leaf a h = leb-true leaf.first a.page (and_parts _ _ (and_parts _ _ h).0).0

pub user_given : (user page first : ℕ) (leaf : Leaf) (o : Option Named) → leaf.place ≡ place.User first → GivesAs user leaf page o → Backs (User (first + (page - leaf.first))) o × (first + (page - leaf.first) < user)
user_given user page first leaf None e g = absurd g
user_given user page first leaf (Some n) e g = at_place leaf.place n.backing e g.right_backing
  where
    some_user : (x y : ℕ) → place.User x ≡ place.User y → x ≡ y
    some_user x y e = cc

    at_place : (p : Place) (b : Backing) → p ≡ place.User first → BacksAt user p (page - leaf.first) b → (b ≡ User (first + (page - leaf.first))) × (first + (page - leaf.first) < user)
    at_place (place.User x) (User u) e h =
        let s : x ≡ first = some_user x first e in
        let k : u ≡ first + (page - leaf.first) = h.0 ∙ ap (λ (y : ℕ). y + (page - leaf.first)) s in
        (ap User k, subst (λ (y : ℕ). y < user) k h.1)
    at_place (place.User x) (Folio fo) e h = absurd h
    at_place (place.Frame r) b e h = absurd (cc)

pub record FolioGiven (page first : ℕ) (leaf : Leaf) (o : Option Named) : Type 0 where
  pub folio : OneFolio
  pub frame_is : folio.frame ≡ first + (page - leaf.first)
  pub backs : Backs (Folio folio) o

pub folio_given : (user page first : ℕ) (leaf : Leaf) (o : Option Named) → leaf.place ≡ place.Frame first → GivesAs user leaf page o → FolioGiven page first leaf o
folio_given user page first leaf None e g = absurd g
folio_given user page first leaf (Some n) e g = at_place leaf.place n.backing e g.right_backing refl
  where
    some_frame : (x y : ℕ) → place.Frame x ≡ place.Frame y → x ≡ y
    some_frame x y e = cc

    at_place : (p : Place) (b : Backing) → p ≡ place.Frame first → BacksAt user p (page - leaf.first) b → n.backing ≡ b → FolioGiven page first leaf (Some n)
    at_place (place.User x) b e h k = absurd (cc)
    at_place (place.Frame r) (User u) e h k = absurd h
    at_place (place.Frame r) (Folio fo) e h k = record { folio = fo; frame_is = h ∙ ap (λ (y : ℕ). y + (page - leaf.first)) (some_frame r first e); backs = k }

-- the folio that it gives to a vCPU inside is live, with its frame

live_by : (o : Orders) (past : List Entry) (page : ℕ) (fo : OneFolio) (kind : Kind) (x : Option Named) (h : Option Named) → Follows o past → ((m : Named) → h ≡ Some m → m.backing ≡ Folio fo → (F : ℕ) × (i : ℕ) × (cached F i (flat past).cache ≡ Some fo)) → h ≡ x → Backs (Folio fo) x → frame_of fo.serial (flat past).folios ≡ Some fo.frame
live_by o past page fo kind None h r c e b = absurd b
live_by o past page fo kind (Some m) h r c e b = let k = c m e b in cached_frames o past r k.0 k.1 fo k.2

pub live_frame : (o : Orders) (user v : ℕ) (a : Aim) (f : Fill) (past : List Entry) (fo : OneFolio) → Follows o past → inside v past ≡ true → (x : Serves user v a f past) → Backs (Folio fo) (x.mapping.gives a.page) → frame_of fo.serial (flat past).folios ≡ Some fo.frame
live_frame o user v a f past fo r i x b =
    let inv = invariant_by o past r in
    let kind = attr_of a.page (flat past).attrs in
    elim x.which [
      | inl y ↦ elim (inv.fills_name_then v a.page x.mapping y.among x.covers_it).now_or_out [
        | inl n ↦ live_by o past a.page fo kind (x.mapping.gives a.page) (named_aside (flat past) a.page) r (λ m e k. named_folio (flat past) a.page fo kind (slot_over (flat past).slots a.page) m e k) n.0 b
        | inr n ↦ absurd (both_ways _ n.0 i)
      ]
      | inr y ↦ live_by o past a.page fo kind (x.mapping.gives a.page) (named (flat past) a.page) r (λ m e k. named_folio (flat past) a.page fo kind (unmarked (slot_over (flat past).slots a.page)) m e k) (inv.leaves_name_now x.mapping a.page y.among x.covers_it).now_named b
    ]
