-- The invariant of a ruled history, part by part.
use Rattle.std.proofs.Common.{◌<◌, List, None, Option, Some, ap, arith, false, inl, inr, length, suc, sym, true, ℕ, ◌∙◌, ◌∷◌, ◌≡◌, ◌≤◌, ◌⊎◌}
use Rattle.std.proofs.lemmas.Bool.{cases_lt}
use Rattle.gm_base.specs.Aim.{Aim}
use Rattle.gm_base.specs.declared.values.Kind.{Kind}
use Rattle.gm_flat.specs.Attribute.{attr_of}
use Rattle.gm_flat.specs.FlatState.{Flat}
use Rattle.gm_flat.specs.Histories.{Bracket, Fault, Faulting, Gotten, Seen, bracket, fault}
use Rattle.gm_flat.specs.Invalidation.{count, ended, hull, in_hull, stale}
use Rattle.gm_flat.specs.Mappings.{Mapping, any_holds, covers, fills, flushed, inside, leaves, pending}
use Rattle.gm_flat.specs.NamedPage.{Named, named, named_aside}
use Rattle.gm_flat.specs.Replay.{flat, flat_at}
use Rattle.gm_flat.specs.RightLook.{file_of, id_of}
use Rattle.gm_flat.specs.RightTouch.{CanUse}
use Rattle.gm_flat.specs.Window.{changed}
use Rattle.gm_flat.specs.declared.entry.Entry.{Entry}
use Rattle.gm_flat.specs.declared.views.SlotView.{SlotView}
use Rattle.gm_laws.proofs.Flats.{over}
use Rattle.gm_laws.proofs.Kit.{Mem, flat_at_here, flat_at_keep}
use Rattle.gm_laws.proofs.Tally.{tally}

abbrev pub KindIs : Kind → Option Named → Type 0
KindIs kind None = ⊥
KindIs kind (Some m) = m.kind ≡ kind

abbrev pub CountIs : ℕ → List Entry → Type 0
CountIs n past = count past ≡ tally n (λ c. bracket c past)

abbrev pub HullNone : List Entry → Type 0
HullNone past = count past ≡ 0 → hull past ≡ None

-- a bracket began in the past, and its caller is one of the n
abbrev pub FromLt : ℕ → List Entry → Type 0
FromLt n past = (c : ℕ) (b : Bracket) → bracket c past ≡ Some b → (c < n) × (b.begun < length past)

-- each vCPU has flushed since a bracket began, or is asked to
abbrev pub IsAsked : List Entry → Type 0
IsAsked past = (c v : ℕ) (b : Bracket) → bracket c past ≡ Some b → (b.begun < flushed v past) ⊎ (pending v past ≡ true)

abbrev pub InHull : List Entry → Type 0
InHull past = (c g : ℕ) (b : Bracket) → bracket c past ≡ Some b → any_holds b.spans g ≡ true → in_hull g (hull past) ≡ true

abbrev pub NoLeaf : List Entry → Type 0
NoLeaf past = (c h : ℕ) (b : Bracket) (l : Mapping) → bracket c past ≡ Some b → Mem l (leaves past) → covers l h ≡ true → any_holds b.spans h ≡ false

abbrev pub OldFill : List Entry → Type 0
OldFill past = (c v h : ℕ) (b : Bracket) (f : Mapping) → bracket c past ≡ Some b → Mem f (fills v past) → covers f h ≡ true → any_holds b.spans h ≡ true → f.made < b.begun

abbrev pub IsFlushed : List Entry → Type 0
IsFlushed past = (c v : ℕ) (b : Bracket) → bracket c past ≡ Some b → b.acked ≡ true → inside v past ≡ true → b.begun < flushed v past

-- a fill gives what was named at its position, with its kind
abbrev pub FillAt : List Entry → Mapping → Type 0
FillAt past f = (f.made < length past) × ((h : ℕ) → named (flat_at f.made past) h ≡ f.gives h) × ((h : ℕ) → covers f h ≡ true → KindIs f.kind (f.gives h))

abbrev pub FillIn : List Entry → Type 0
FillIn past = (v : ℕ) (f : Mapping) → Mem f (fills v past) → (flushed v past ≤ f.made) × FillAt past f

abbrev pub Gives : Mapping → ℕ → List Entry → Type 0
Gives l h past = (named (flat past) h ≡ l.gives h) × KindIs l.kind (l.gives h)

abbrev pub LeafNames : List Entry → Type 0
LeafNames past = (l : Mapping) (h : ℕ) → Mem l (leaves past) → covers l h ≡ true → Gives l h past

-- a fill gives what is named now with marks left aside, and is newer than each change; or its vCPU is outside and flushes before it enters
abbrev pub FillNames : List Entry → Type 0
FillNames past = (v h : ℕ) (f : Mapping) → Mem f (fills v past) → covers f h ≡ true → ((named_aside (flat past) h ≡ f.gives h) × (changed h past ≤ f.made)) ⊎ ((inside v past ≡ false) × (pending v past ≡ true))

abbrev pub SinceAt : ℕ → ℕ → Named → List Entry → Type 0
SinceAt p g m past = (ended p past ≡ true) ⊎ ((in_hull g (hull past) ≡ true) ⊎ (named (flat past) g ≡ Some m))

-- what was named at a position is named now, or the page is stale since
abbrev pub Since : List Entry → Type 0
Since past = (p g : ℕ) (m : Named) → p ≤ length past → named (flat_at p past) g ≡ Some m → SinceAt p g m past

abbrev pub LookedAt : ℕ → ℕ → SlotView → Flat → List Entry → Type 0
LookedAt p g r f past = (ended p past ≡ true) ⊎ ((in_hull g (hull past) ≡ true) ⊎ ((over g (flat past).slots ≡ Some r) × (attr_of g (flat past).attrs ≡ attr_of g f.attrs)))

-- the slot and the attribute of a position are those of now, or the page is stale since
abbrev pub LooksSince : List Entry → Type 0
LooksSince past = (p g : ℕ) (r : SlotView) → p ≤ length past → over g (flat_at p past).slots ≡ Some r → LookedAt p g r (flat_at p past) past

-- a fault after its Look: what it looked up is what lay there at its `at`
pub record LookOk (a : Aim) (s : ℕ) (l : Seen) (past : List Entry) : Type 0 where
  pub sampled : s ≤ l.at
  pub at_le : l.at ≤ l.place
  pub place_lt : l.place < length past
  pub slot_is : l.slot ≡ id_of (over a.page (flat_at l.at past).slots)
  pub file_is : l.file ≡ file_of (over a.page (flat_at l.at past).slots)
  pub attr_is : l.attr ≡ attr_of a.page (flat_at l.at past).attrs

-- a fault after its Get: it is stale, or what it got was named right after the Get
pub record GotOk (a : Aim) (s : ℕ) (g : Gotten) (past : List Entry) : Type 0 where
  pub sampled : s ≤ g.after
  pub after_le : g.after ≤ length past
  pub usable : (stale (Some s) a.page past ≡ true) ⊎ CanUse a g.backing (named (flat_at g.after past) a.page)

abbrev pub FaultOk : List Entry → Fault → Type 0
FaultOk past (Faulting a m (Some s) (Some l) None) = LookOk a s l past
FaultOk past (Faulting a m (Some s) (Some l) (Some g)) = GotOk a s g past
FaultOk past _ = Unit {0}

abbrev pub FaultsOk : List Entry → Type 0
FaultsOk past = (v : ℕ) → FaultOk past (fault v past)

pub record Good (n : ℕ) (past : List Entry) : Type 0 where
  pub count_is : CountIs n past
  pub hull_none : HullNone past
  pub from_lt : FromLt n past
  pub asked : IsAsked past
  pub in_hull_of : InHull past
  pub no_leaf : NoLeaf past
  pub old_fill : OldFill past
  pub is_flushed : IsFlushed past
  pub fill_in : FillIn past
  pub leaf_names : LeafNames past
  pub fill_names : FillNames past
  pub since : Since past
  pub looks : LooksSince past
  pub faults : FaultsOk past

-- one more entry, whatever it is
pub from_more : (n : ℕ) (past : List Entry) → FromLt n past → (c : ℕ) (b : Bracket) → bracket c past ≡ Some b → (c < n) × (b.begun < suc (length past))
from_more n past h c b e = let x = h c b e in (x.0, omega arith)

pub fill_at_more : (e : Entry) (past : List Entry) (f : Mapping) → FillAt past f → FillAt (e ∷ past) f
fill_at_more e past f x = (omega arith, (λ h. ap (λ (y : Flat). named y h) (flat_at_keep f.made e past (omega arith)) ∙ x.1 h), x.2)

abbrev pub Grows : Entry → List Entry → Type 0
Grows e past = (g : ℕ) (m : Named) → named (flat past) g ≡ Some m → named (flat (e ∷ past)) g ≡ Some m

abbrev pub SameLook : Entry → List Entry → Type 0
SameLook e past = ((flat (e ∷ past)).slots ≡ (flat past).slots) × ((flat (e ∷ past)).attrs ≡ (flat past).attrs)

-- what holds for a page's name at p holds one entry later, where the names only grow
pub since_more : (e : Entry) (past : List Entry) → Grows e past → Since past → (p g : ℕ) (m : Named) → p ≤ suc (length past) → named (flat_at p (e ∷ past)) g ≡ Some m → (ended p past ≡ true) ⊎ ((in_hull g (hull past) ≡ true) ⊎ (named (flat (e ∷ past)) g ≡ Some m))
since_more e past grow h p g m le x =
    elim (cases_lt (length past) p) [
      | inl lt ↦ inr (inr (sym (ap (λ (y : Flat). named y g) (flat_at_here p e past lt)) ∙ x))
      | inr ge ↦ elim (h p g m ge (sym (ap (λ (y : Flat). named y g) (flat_at_keep p e past ge)) ∙ x)) [
        | inl a ↦ inl a
        | inr b ↦ elim b [ inl c ↦ inr (inl c) | inr d ↦ inr (inr (grow g m d)) ]
      ]
    ]

pub looks_more : (e : Entry) (past : List Entry) → SameLook e past → LooksSince past → (p g : ℕ) (r : SlotView) → p ≤ suc (length past) → over g (flat_at p (e ∷ past)).slots ≡ Some r → (ended p past ≡ true) ⊎ ((in_hull g (hull past) ≡ true) ⊎ ((over g (flat (e ∷ past)).slots ≡ Some r) × (attr_of g (flat (e ∷ past)).attrs ≡ attr_of g (flat_at p (e ∷ past)).attrs)))
looks_more e past same h p g r le x =
    elim (cases_lt (length past) p) [
      | inl lt ↦ inr (inr (sym (ap (λ (y : Flat). over g y.slots) (flat_at_here p e past lt)) ∙ x, ap (λ (y : Flat). attr_of g y.attrs) (sym (flat_at_here p e past lt))))
      | inr ge ↦ elim (h p g r ge (sym (ap (λ (y : Flat). over g y.slots) (flat_at_keep p e past ge)) ∙ x)) [
        | inl a ↦ inl a
        | inr b ↦ elim b [
          | inl c ↦ inr (inl c)
          | inr d ↦ inr (inr (ap (over g) same.0 ∙ d.0, ap (attr_of g) same.1 ∙ (d.1 ∙ ap (λ (y : Flat). attr_of g y.attrs) (sym (flat_at_keep p e past ge)))))
        ]
      ]
    ]
