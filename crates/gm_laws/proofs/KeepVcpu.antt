-- An install and a touch keep the invariant.
use Rattle.std.proofs.Common.{◌&&◌, ◌+◌, ◌++◌, ◌-◌, ◌<◌, Bool, List, None, Option, Some, [], ap, arith, cond, eqb, eqb-true, false, inl, inr, leb, length, ltb, refl, subst, sym, true, ℕ, ◌∙◌, ◌∷◌, ◌≡◌, ◌≤◌, ◌⊎◌}
use Rattle.std.proofs.lemmas.Bool.{and_parts, both_ways, cases_Bool, or_parts}
use Rattle.std.proofs.lemmas.Bool.Decides.{nat_tests}
use Rattle.gm_base.specs.Aim.{Aim}
use Rattle.gm_base.specs.Extent.{Extent, holds}
use Rattle.gm_base.specs.Scripts.{Orders}
use Rattle.gm_base.specs.Values.{permits, same_kind}
use Rattle.gm_base.specs.declared.numbers.TheConstants.{BUFFER_FILLS}
use Rattle.gm_base.specs.declared.values.Actor.TheVariants.{Vcpu}
use Rattle.gm_base.specs.declared.values.Kind.{Kind}
use Rattle.gm_base.specs.declared.values.Kind.TheVariants.{Private, Shared}
use Rattle.gm_base.specs.declared.values.Level.{Level}
use Rattle.gm_base.specs.declared.values.Level.TheVariants.{Block, Small}
use Rattle.gm_flat.specs.Attribute.{attr_of}
use Rattle.gm_flat.specs.FlatState.{Flat}
use Rattle.gm_flat.specs.Histories.{Bracket, Fault, Faulting, NoFault, bracket, fault}
use Rattle.gm_flat.specs.Invalidation.{ended, hull, hull_meets, in_hull, stale}
use Rattle.gm_flat.specs.Mappings.{Mapping, any_holds, block_of, can_write, covered, covers, fill_if, fills, first_serving, flushed, leaf_by, leaves, off_extent, serves}
use Rattle.gm_flat.specs.NamedPage.{Named, named, named_aside}
use Rattle.gm_flat.specs.Replay.{flat, flat_at}
use Rattle.gm_flat.specs.RightInstall.{Installs, Names}
use Rattle.gm_flat.specs.RightLevel.{IsConsecutive, IsFrame, IsUserPage, LevelIs}
use Rattle.gm_flat.specs.RightTouch.{CanUse}
use Rattle.gm_flat.specs.declared.effect.Backing.{Backing}
use Rattle.gm_flat.specs.declared.entry.Entry.{Entry}
use Rattle.gm_flat.specs.declared.entry.What.TheVariants.{Install, Touch}
use Rattle.gm_laws.proofs.Flats.{named_is_aside, named_kind}
use Rattle.gm_laws.proofs.Good.{FaultOk, FillAt, Gives, Good, InHull, KindIs, Since, fill_at_more, from_more, looks_more, since_more}
use Rattle.gm_laws.proofs.Grow.{ended-mono}
use Rattle.gm_laws.proofs.Ids.{IdsAt}
use Rattle.gm_laws.proofs.Keep.{faults_keep}
use Rattle.gm_laws.proofs.Kit.{Mem, Mem-off_extent, Mem-take, apart_page, by, changed-le, flat_at_all, flat_at_keep, in_leaf, in_leaf_same, none_is, small_page}
use Rattle.gm_laws.specs.May.{Backs, May, MayInstall, ServedBy}

-- an install
abbrev pub IsNewLeaf : Mapping → ℕ → ℕ → Level → Flat → Fault → Type 0
IsNewLeaf l n page level f (Faulting a m s k (Some q)) = l ≡ record { made = n; page = page; level = level; kind = a.kind; gives = λ h. named f h }
IsNewLeaf l n page level f _ = ⊥

pub Mem-install : (l : Mapping) (n page : ℕ) (level : Level) (f : Flat) (st : Fault) (ls : List Mapping) → Mem l (leaf_by n page level f st ++ ls) → IsNewLeaf l n page level f st ⊎ Mem l ls
Mem-install l n page level f (Faulting a m s k (Some q)) ls i = i
Mem-install l n page level f (Faulting a m s k None) ls i = inr i
Mem-install l n page level f NoFault ls i = inr i

-- what a fault that isn't stale got is named now
pub use_now : (past : List Entry) (s k g : ℕ) (a : Aim) (b : Backing) (o : Option Named) → Since past → s ≤ k → k ≤ length past → named (flat_at k past) g ≡ o → stale (Some s) g past ≡ false → CanUse a b o → CanUse a b (named (flat past) g)
use_now past s k g a b None h le lt e f u = absurd u
use_now past s k g a b (Some m) h le lt e f u =
    elim (h k g m lt e) [
      | inl x ↦ absurd (both_ways (ended s past) (or_parts (ended s past) (in_hull g (hull past)) f).0 (ended-mono s k past le x))
      | inr y ↦ elim y [
        | inl x ↦ absurd (both_ways (in_hull g (hull past)) (or_parts (ended s past) (in_hull g (hull past)) f).1 x)
        | inr x ↦ subst (λ (o : Option Named). CanUse a b o) (sym x) u
      ]
    ]

-- a fault that installs
abbrev pub Installed : ℕ → List Entry → Fault → Type 0
Installed page past (Faulting a m (Some s) (Some l) (Some q)) = (page ≡ a.page) × (stale (Some s) a.page past ≡ false) × CanUse a q.backing (named (flat past) a.page)
Installed page past _ = ⊥

pub installed : (page : ℕ) (past : List Entry) (st : Fault) → Since past → FaultOk past st → MayInstall page past st → Installed page past st
installed page past (Faulting a m (Some s) (Some l) (Some q)) h ok i = (
  i.0,
  i.1,
  elim ok.usable [
    | inl x ↦ absurd (both_ways (stale (Some s) a.page past) i.1 x)
    | inr x ↦ use_now past s q.after a.page a q.backing (named (flat_at q.after past) a.page) h ok.sampled ok.after_le refl i.1 x
  ],
)
installed page past (Faulting a m (Some s) (Some l) None) h ok i = absurd i
installed page past (Faulting a m (Some s) None q) h ok i = absurd i
installed page past (Faulting a m None l q) h ok i = absurd i
installed page past NoFault h ok i = absurd i

use_names : (a : Aim) (b : Backing) (o : Option Named) → CanUse a b o → Names a.kind b o
use_names a b None u = u
use_names a b (Some m) u = (u.0, u.1)

pub install_right : (page : ℕ) (past : List Entry) (st : Fault) → Installed page past st → Installs page past st
install_right page past (Faulting a m (Some s) (Some l) (Some q)) i = record { not_stale = i.1; own_page = i.0; is_named = use_names a q.backing (named (flat past) a.page) i.2 }
install_right page past (Faulting a m (Some s) (Some l) None) i = absurd i
install_right page past (Faulting a m (Some s) None q) i = absurd i
install_right page past (Faulting a m None l q) i = absurd i
install_right page past NoFault i = absurd i

use_kind : (a : Aim) (b : Backing) (o : Option Named) → CanUse a b o → KindIs a.kind o
use_kind a b None u = u
use_kind a b (Some m) u = u.0

-- each page of a new leaf is named with its kind, and lies in no hull
attr_use : (f : Flat) (page : ℕ) (a : Aim) (b : Backing) (o : Option Named) → named f page ≡ o → CanUse a b o → attr_of page f.attrs ≡ a.kind
attr_use f page a b None e u = absurd u
attr_use f page a b (Some m) e u = sym (named_kind f page m e) ∙ u.0

kind_use : (f : Flat) (h : ℕ) (kind : Kind) (o : Option Named) → named f h ≡ o → (o ≡ None → ⊥) → attr_of h f.attrs ≡ kind → KindIs kind o
kind_use f h kind None e some k = absurd (some refl)
kind_use f h kind (Some m) e some k = named_kind f h m e ∙ k

is_user_some : (u : ℕ) (o : Option Named) → IsUserPage u o → o ≡ None → ⊥
is_user_some u None i e = i
is_user_some u (Some m) i e = none_is m (sym e)

is_frame_some : (r : ℕ) (o : Option Named) → IsFrame r o → o ≡ None → ⊥
is_frame_some r None i e = i
is_frame_some r (Some m) i e = none_is m (sym e)

block_page : (lo h : ℕ) → (leb lo h && ltb h (lo + 512)) ≡ true → (h - lo < 512) × (lo + (h - lo) ≡ h)
block_page lo h e = (grind (arith, nat_tests), grind (arith, nat_tests))

block_some : (f : Flat) (block : Extent) (h : ℕ) → block.hi ≡ block.lo + 512 → holds block h ≡ true → IsConsecutive block f → named f h ≡ None → ⊥
block_some f block h hi e c n =
    let p = block_page block.lo h (ap (λ (x : ℕ). leb block.lo h && ltb h x) (sym hi) ∙ e) in
    elim c.2 [
      | inl y ↦ is_user_some (c.0 + (h - block.lo)) (named f h) (subst (λ (x : ℕ). IsUserPage (c.0 + (h - block.lo)) (named f x)) p.1 (y (h - block.lo) p.0)) n
      | inr y ↦ is_frame_some (c.0 + (h - block.lo)) (named f h) (subst (λ (x : ℕ). IsFrame (c.0 + (h - block.lo)) (named f x)) p.1 (y (h - block.lo) p.0)) n
    ]

off_hull : (e : Extent) (h : ℕ) (o : Option Extent) → hull_meets e o ≡ false → holds e h ≡ true → in_hull h o ≡ false
off_hull e h None m k = refl
off_hull e h (Some s) m k = apart_page e.lo e.hi s.lo s.hi h m k

whole : (level : Level) (huge : Bool) (page h : ℕ) (a : Aim) (b : Backing) (past : List Entry) → in_hull page (hull past) ≡ false → CanUse a b (named (flat past) page) → LevelIs level huge page past → in_leaf level page h ≡ true → (in_hull h (hull past) ≡ false) × KindIs a.kind (named (flat past) h)
whole Small huge page h a b past out u w e =
    let x : h ≡ page = small_page page h e in
    (ap (λ (p : ℕ). in_hull p (hull past)) x ∙ out, subst (λ (p : ℕ). KindIs a.kind (named (flat past) p)) (sym x) (use_kind a b (named (flat past) page) u))
whole Block huge page h a b past out u w e = (
  off_hull (block_of page) h (hull past) w.no_invalidation e,
  kind_use (flat past) h a.kind (named (flat past) h) refl (block_some (flat past) (block_of page) h refl e w.consecutive)
      (w.one_kind h e ∙ attr_use (flat past) page a b (named (flat past) page) refl u),
)

new_leaf_gives : (l : Mapping) (page h : ℕ) (level : Level) (huge : Bool) (past : List Entry) (st : Fault) → Installed page past st → LevelIs level huge page past → IsNewLeaf l (length past) page level (flat past) st → covers l h ≡ true → Gives l h past × (in_hull h (hull past) ≡ false)
new_leaf_gives l page h level huge past (Faulting a m (Some s) (Some k) (Some q)) r lv e i =
    let out : in_hull page (hull past) ≡ false = ap (λ (p : ℕ). in_hull p (hull past)) r.0 ∙ (or_parts (ended s past) (in_hull a.page (hull past)) r.1).1 in
    let u : CanUse a q.backing (named (flat past) page) = subst (λ (p : ℕ). CanUse a q.backing (named (flat past) p)) (sym r.0) r.2 in
    let w = whole level huge page h a q.backing past out u lv (subst (λ (x : Mapping). covers x h ≡ true) e i) in
    let P : Mapping → Type 0 = λ x. (named (flat past) h ≡ x.gives h) × KindIs x.kind (x.gives h) in
    (subst P (sym e) (refl, w.1), w.0)
new_leaf_gives l page h level huge past (Faulting a m (Some s) (Some k) None) r lv e i = absurd r
new_leaf_gives l page h level huge past (Faulting a m (Some s) None q) r lv e i = absurd r
new_leaf_gives l page h level huge past (Faulting a m None k q) r lv e i = absurd r
new_leaf_gives l page h level huge past NoFault r lv e i = absurd r

install_leaf : (o : Orders) (u page h : ℕ) (level : Level) (past : List Entry) (l : Mapping) → Good o.setup.callers past → May o (Install page level) (Vcpu u) past → Mem l (leaf_by (length past) page level (flat past) (fault u past) ++ off_extent (covered level page) (leaves past)) → covers l h ≡ true → Gives l h past × ((Mem l (leaves past)) ⊎ (in_hull h (hull past) ≡ false))
install_leaf o u page h level past l g m i k =
    elim (Mem-install l (length past) page level (flat past) (fault u past) (off_extent (covered level page) (leaves past)) i) [
      | inl e ↦
          let x = new_leaf_gives l page h level o.setup.huge past (fault u past) (installed page past (fault u past) g.since (g.faults u) m.0) m.1 e k in
          (x.0, inr x.1)
      | inr y ↦ let old = Mem-off_extent (covered level page) l (leaves past) y in (g.leaf_names l h old k, inl old)
    ]

not_in_hull : (c : ℕ) (b : Bracket) (p : ℕ) (past : List Entry) → InHull past → bracket c past ≡ Some b → in_hull p (hull past) ≡ false → any_holds b.spans p ≡ false
not_in_hull c b p past h e k =
    elim (cases_Bool (any_holds b.spans p)) [
      | inl y ↦ absurd (both_ways (in_hull p (hull past)) k (h c p b e y))
      | inr y ↦ y
    ]

pub keep_install : (o : Orders) (t u page : ℕ) (level : Level) (past : List Entry) → IdsAt past → Good o.setup.callers past → May o (Install page level) (Vcpu u) past → Good o.setup.callers (by t (Vcpu u) (Install page level) ∷ past)
keep_install o t u page level past ids g m =
    record {
      count_is = g.count_is;
      hull_none = g.hull_none;
      from_lt = from_more o.setup.callers past g.from_lt;
      asked = g.asked;
      in_hull_of = g.in_hull_of;
      no_leaf = λ c h b l e i k. elim (install_leaf o u page h level past l g m i k).1 [
        | inl old ↦ g.no_leaf c h b l e old k
        | inr out ↦ not_in_hull c b h past g.in_hull_of e out
      ];
      old_fill = g.old_fill;
      is_flushed = g.is_flushed;
      fill_in = λ v f i. ((g.fill_in v f i).0, fill_at_more (by t (Vcpu u) (Install page level)) past f (g.fill_in v f i).1);
      leaf_names = λ l h i k. (install_leaf o u page h level past l g m i k).0;
      fill_names = g.fill_names;
      since = since_more (by t (Vcpu u) (Install page level)) past (λ q x y. y) g.since;
      looks = looks_more (by t (Vcpu u) (Install page level)) past (refl, refl) g.looks;
      faults = faults_keep o t (Install page level) (Vcpu u) past ids g m;
    }

-- a touch
pub Mem-fill : (f : Mapping) (t : Bool) (n : ℕ) (a : Aim) (level : Level) (fl : Flat) (fs : List Mapping) → Mem f (fill_if t n a level fl fs) → Mem f fs ⊎ ((t ≡ true) × (f ≡ record { made = n; page = a.page; level = level; kind = a.kind; gives = λ h. named fl h }))
Mem-fill f false n a level fl fs m = inl m
Mem-fill f true n a level fl fs m =
    elim (Mem-take BUFFER_FILLS f (record { made = n; page = a.page; level = level; kind = a.kind; gives = λ h. named fl h } ∷ fs) m) [
      | inl e ↦ inr (refl, e)
      | inr k ↦ inl k
    ]

abbrev pub IsFirst : Aim → List Mapping → Option Mapping → Type 0
IsFirst a ls None = Unit {0}
IsFirst a ls (Some l) = Mem l ls × (serves a l ≡ true)

pub is_first : (a : Aim) (ls : List Mapping) → IsFirst a ls (first_serving a ls)
is_first a [] = tt
is_first a (l ∷ ls) = go (serves a l) refl (first_serving a ls) (is_first a ls)
  where
    go : (t : Bool) → serves a l ≡ t → (o : Option Mapping) → IsFirst a ls o → IsFirst a (l ∷ ls) (cond t (Some l) o)
    go true e o h = (inl refl, e)
    go false e None h = tt
    go false e (Some x) h = (inr h.0, h.1)

pub kind_is : (a b : Kind) → same_kind a b ≡ true → a ≡ b
kind_is Private Private e = refl
kind_is Shared Shared e = refl
kind_is Private Shared e = absurd (both_ways _ refl e)
kind_is Shared Private e = absurd (both_ways _ refl e)

backed_use : (a : Aim) (b : Backing) (kind : Kind) (o : Option Named) → kind ≡ a.kind → permits (can_write o) a.op ≡ true → KindIs kind o → Backs b o → CanUse a b o
backed_use a b kind None e w k h = h
backed_use a b kind (Some m) e w k h = (k ∙ e, h, w)

-- what serves an access covers its page, and gives what it can use
pub serves_use : (a : Aim) (b : Backing) (l : Mapping) → serves a l ≡ true → (covers l a.page ≡ true) × (l.kind ≡ a.kind) × (KindIs l.kind (l.gives a.page) → Backs b (l.gives a.page) → CanUse a b (l.gives a.page))
serves_use a b l e =
    let x = and_parts (covers l a.page) (same_kind l.kind a.kind && permits (can_write (l.gives a.page)) a.op) e in
    let y = and_parts (same_kind l.kind a.kind) (permits (can_write (l.gives a.page)) a.op) x.1 in
    let k : l.kind ≡ a.kind = kind_is l.kind a.kind y.0 in
    (x.0, k, backed_use a b l.kind (l.gives a.page) k y.1)

-- the leaf that a touch walked
abbrev pub Walked : Aim → Backing → Level → List Entry → Type 0
Walked a b level past = (l : Mapping) × Mem l (leaves past) × (covers l a.page ≡ true) × (level ≡ l.level) × (l.kind ≡ a.kind) × CanUse a b (named (flat past) a.page)

pub walked : (o : Orders) (u fill : ℕ) (a : Aim) (b : Backing) (level : Level) (past : List Entry) (x p : Option Mapping) → Good o.setup.callers past → IsFirst a (fills u past) x → IsFirst a (leaves past) p → ServedBy a b level fill (length past) x p → fill ≡ length past → Walked a b level past
walked o u fill a b level past (Some f) p g h k s e = absurd (touch_old f.made fill (length past) s.0 e (g.fill_in u f h.0).1.0)
  where
    touch_old : (x y z : ℕ) → y ≡ x → y ≡ z → x < z → ⊥
    touch_old x y z p q r = omega arith
walked o u fill a b level past None (Some l) g h k s e =
    let x = serves_use a b l k.1 in
    let y = g.leaf_names l a.page k.0 x.0 in
    (l, k.0, x.0, s.1, x.1, subst (λ (o : Option Named). CanUse a b o) (sym y.0) (x.2 y.1 s.2))
walked o u fill a b level past None None g h k s e = absurd s

-- a fill that is there after a touch is an old one, or the new one of the vCPU that touched
abbrev IsNewFill : Mapping → List Entry → Type 0
IsNewFill f past = (f.made ≡ length past) × ((h : ℕ) → named (flat past) h ≡ f.gives h) × ((h : ℕ) → covers f h ≡ true → KindIs f.kind (f.gives h) × ((l : Mapping) × Mem l (leaves past) × (covers l h ≡ true)))

new_fill : (o : Orders) (a : Aim) (b : Backing) (level : Level) (past : List Entry) (f : Mapping) → Good o.setup.callers past → Walked a b level past → f ≡ record { made = length past; page = a.page; level = level; kind = a.kind; gives = λ h. named (flat past) h } → IsNewFill f past
new_fill o a b level past f g w e =
    subst (λ (x : Mapping). IsNewFill x past) (sym e) (
      refl,
      (λ h. refl),
      λ h k.
          let same : covers w.0 h ≡ true = in_leaf_same w.0.level w.0.page a.page h w.2 (subst (λ (x : Level). in_leaf x a.page h ≡ true) w.3 k) in
          let y = g.leaf_names w.0 h w.1 same in
          (subst (λ (x : Kind). KindIs x (named (flat past) h)) w.4 (subst (λ (o : Option Named). KindIs w.0.kind o) (sym y.0) y.1), (w.0, w.1, same)),
    )

touch_fill : (o : Orders) (u v fill : ℕ) (a : Aim) (b : Backing) (level : Level) (value : ℕ) (past : List Entry) (f : Mapping) → Good o.setup.callers past → May o (Touch a b level value fill) (Vcpu u) past → Mem f (fill_if (eqb u v && eqb fill (length past)) (length past) a level (flat past) (fills v past)) → Mem f (fills v past) ⊎ IsNewFill f past
touch_fill o u v fill a b level value past f g m i =
    elim (Mem-fill f (eqb u v && eqb fill (length past)) (length past) a level (flat past) (fills v past) i) [
      | inl old ↦ inl old
      | inr new ↦ inr (
          let w = walked o u fill a b level past (first_serving a (fills u past)) (first_serving a (leaves past)) g (is_first a (fills u past)) (is_first a (leaves past)) m.is_served (eqb-true fill (length past) (and_parts (eqb u v) (eqb fill (length past)) new.0).1) in
          new_fill o a b level past f g w new.1)
    ]

fill_new : (e : Entry) (past : List Entry) (f : Mapping) → IsNewFill f past → FillAt (e ∷ past) f
fill_new e past f x =
    (let y = x.0 in omega arith, (λ h. ap (λ (fl : Flat). named fl h) (flat_at_keep f.made e past (let y = x.0 in omega arith) ∙ (ap (λ (k : ℕ). flat_at k past) x.0 ∙ flat_at_all past)) ∙ x.1 h), λ h k. (x.2 h k).0)

-- what gives a page is named there with marks left aside
gives_aside : (kind : Kind) (f : Flat) (h : ℕ) (o : Option Named) → KindIs kind o → named f h ≡ o → named_aside f h ≡ o
gives_aside kind f h None k e = absurd k
gives_aside kind f h (Some m) k e = named_is_aside f h m e

touch_in : (past : List Entry) (v : ℕ) (f : Mapping) (fl len : ℕ) → fl ≤ len → f.made ≡ len → fl ≤ f.made
touch_in past v f fl len h e = omega arith

pub keep_touch : (o : Orders) (t u fill : ℕ) (a : Aim) (b : Backing) (level : Level) (value : ℕ) (past : List Entry) → ((v : ℕ) → flushed v past ≤ length past) → IdsAt past → Good o.setup.callers past → May o (Touch a b level value fill) (Vcpu u) past → Good o.setup.callers (by t (Vcpu u) (Touch a b level value fill) ∷ past)
keep_touch o t u fill a b level value past fl ids g m =
    record {
      count_is = g.count_is;
      hull_none = g.hull_none;
      from_lt = from_more o.setup.callers past g.from_lt;
      asked = g.asked;
      in_hull_of = g.in_hull_of;
      no_leaf = g.no_leaf;
      old_fill = λ c v h br f e i k cover. elim (touch_fill o u v fill a b level value past f g m i) [
        | inl old ↦ g.old_fill c v h br f e old k cover
        | inr new ↦ let y = (new.2 h k).1 in absurd (both_ways (any_holds br.spans h) (g.no_leaf c h br y.0 e y.1 y.2) cover)
      ];
      is_flushed = g.is_flushed;
      fill_in = λ v f i. elim (touch_fill o u v fill a b level value past f g m i) [
        | inl old ↦ ((g.fill_in v f old).0, fill_at_more (by t (Vcpu u) (Touch a b level value fill)) past f (g.fill_in v f old).1)
        | inr new ↦ (touch_in past v f (flushed v past) (length past) (fl v) new.0, fill_new (by t (Vcpu u) (Touch a b level value fill)) past f new)
      ];
      leaf_names = g.leaf_names;
      fill_names = λ v h f i k. elim (touch_fill o u v fill a b level value past f g m i) [
        | inl old ↦ g.fill_names v h f old k
        | inr new ↦ inl (gives_aside f.kind (flat past) h (f.gives h) (new.2 h k).0 (new.1 h), let y : f.made ≡ length past = new.0 in rw y (changed-le h past))
      ];
      since = since_more (by t (Vcpu u) (Touch a b level value fill)) past (λ q x y. y) g.since;
      looks = looks_more (by t (Vcpu u) (Touch a b level value fill)) past (refl, refl) g.looks;
      faults = faults_keep o t (Touch a b level value fill) (Vcpu u) past ids g m;
    }
