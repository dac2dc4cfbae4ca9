-- A touch by a fill, a touch by a leaf, which fills the buffer, and an install.
use Rattle.std.proofs.Common.{◌≡◌, ℕ, ◌+◌, ◌-◌, ◌<◌, ◌&&◌, List, [], ◌∷◌, ◌++◌, Bool, true, false, length, get_or, set, take, zero, suc, Option, Some, None, arith, subst, sym, ◌∙◌, ap, refl, cond, eqb, leb, ltb, inl, inr}
use Rattle.std.proofs.lemmas.Bool.{and_parts, eq-eqb}
use Rattle.std.proofs.lemmas.Bool.Decides.{nat_tests}
use Rattle.std.proofs.lemmas.List.{length-set}
use Rattle.gm_base.specs.Aim.{Aim}
use Rattle.gm_base.specs.Extent.{Extent, holds, meets}
use Rattle.gm_base.specs.Leaf.{covers as leaf_covers, serves as leaf_serves}
use Rattle.gm_base.specs.declared.leaf.Leaf.{Leaf}
use Rattle.gm_base.specs.declared.numbers.TheConstants.{BUFFER_FILLS}
use Rattle.gm_base.specs.declared.values.Actor.TheVariants.{Vcpu}
use Rattle.gm_base.specs.declared.values.Kind.{Kind}
use Rattle.gm_base.specs.declared.values.Level.{Level}
use Rattle.gm_base.specs.declared.values.Level.TheVariants.{Small, Block}
use Rattle.gm_base.specs.declared.values.Setup.{Setup}
use Rattle.gm_flat.specs.FlatState.{Flat}
use Rattle.gm_flat.specs.Histories.{Fault, Faulting, Gotten, Seen, fault}
use Rattle.gm_flat.specs.Mappings.{Mapping, covered, fill_if, fills, leaf_by, leaves, off_extent}
use Rattle.gm_flat.specs.NamedPage.{Named, named}
use Rattle.gm_flat.specs.Replay.{flat}
use Rattle.gm_flat.specs.declared.effect.Backing.{Backing}
use Rattle.gm_flat.specs.declared.effect.Backing.TheVariants.{User, Folio}
use Rattle.gm_flat.specs.declared.entry.Entry.{Entry}
use Rattle.gm_flat.specs.declared.entry.What.TheVariants.{Install, Touch}
use Rattle.gm_inval.specs.Range.{open_range}
use Rattle.gm_laws.proofs.Kit.{by}
use Rattle.gm_laws.specs.Invariant.{LeavesNameNow}
use Rattle.gm_mmu.specs.Served.{Serving, fills_of}
use Rattle.gm_table.specs.Leaves.{extent_of, leaf_over, unless_met}
use Rattle.gm_tlb.specs.Requests.{Requests}
use Rattle.gm_tlb.specs.declared.ring.Seat.{Seat}
use Rattle.gm_tlb.specs.declared.tlb.Fill.{Fill}
use Rattle.gm_mapping.proofs.Alike.{covered_same, same_kinds}
use Rattle.gm_mapping.proofs.LeavesApart.{install_leaves}
use Rattle.gm_mapping.proofs.Lists.{self, set_each}
use Rattle.gm_mapping.proofs.Quiet.{seat_stays}
use Rattle.gm_mapping.proofs.Serving.{ByLeaf, Serves}
use Rattle.gm_mapping.specs.Alike.{FillsAre, GivesAs, IsAlike, LeafIs, NamesLeaf, leaf_of, over}
use Rattle.gm_mapping.specs.Mapping.{MappingStands, SeatIs}

older_keep : (t u : Bool) (n : ℕ) (a : Aim) (level : Level) (f : Flat) (ms : List Mapping) → u ≡ false → fill_if (t && u) n a level f ms ≡ ms
older_keep true u n a level f ms e = rw e refl
older_keep false u n a level f ms e = refl

others_keep : (t u : Bool) (n : ℕ) (a : Aim) (level : Level) (f : Flat) (ms : List Mapping) → t ≡ false → fill_if (t && u) n a level f ms ≡ ms
others_keep t u n a level f ms e = rw e refl

own_fill : (t u : Bool) (n : ℕ) (a : Aim) (level : Level) (f : Flat) (ms : List Mapping) → t ≡ true → u ≡ true → fill_if (t && u) n a level f ms ≡ take BUFFER_FILLS (record { made = n; page = a.page; level = level; kind = a.kind; gives = λ h. named f h } ∷ ms)
own_fill t u n a level f ms e g = rw (e, g) refl

-- a touch by a fill
pub touched : {s : Setup} {m : Serving} (t v : ℕ) (a : Aim) (b : Backing) (level : Level) (value fill : ℕ) (past : List Entry) → MappingStands s m past → fill < length past → MappingStands s m (by t (Vcpu v) (Touch a b level value fill) ∷ past)
touched {s = s} {m = m} t v a b level value fill past st lt =
    let e : Entry = by t (Vcpu v) (Touch a b level value fill) in
    let older : eqb fill (length past) ≡ false = apart fill (length past) lt in
    record {
      seat_count = st.seat_count;
      buffer_count = st.buffer_count;
      asked_is = st.asked_is;
      seats_are = λ u d lu. seat_stays (get_or m.requests.seats u d) u e past refl refl (st.seats_are u d lu);
      none_beyond = st.none_beyond;
      buffers_are = λ u d lu. subst (λ (ms : List Mapping). FillsAre s.user (get_or m.fills u d) ms) (sym (older_keep (eqb v u) (eqb fill (length past)) (length past) a level (flat past) (fills u past) older)) (st.buffers_are u d lu);
      leaves_are = st.leaves_are;
      count_is = st.count_is;
      range_is = st.range_is;
      seq_is = st.seq_is;
    }
  where
    apart : (a b : ℕ) → a < b → eqb a b ≡ false
    apart a b h = grind (arith, nat_tests)

-- a touch by a leaf
abbrev pub filled : Serving → ℕ → Fill → Serving
filled m v f = record m { fills = set m.fills v (take BUFFER_FILLS (f ∷ fills_of m v)) }

abbrev fill_of : ℕ → Aim → Level → Flat → Mapping
fill_of n a level f = record { made = n; page = a.page; level = level; kind = a.kind; gives = λ h. named f h }

-- what a leaf gives now, at each of its pages
filled_alike : (user : ℕ) (a : Aim) (leaf : Leaf) (m : Mapping) (past : List Entry) → IsAlike user leaf m → leaf_serves leaf a ≡ true → holds (covered m.level m.page) a.page ≡ true → ((h : ℕ) → holds (covered m.level m.page) h ≡ true → named (flat past) h ≡ m.gives h) → IsAlike user leaf (fill_of (length past) a leaf.level (flat past))
filled_alike user a leaf m past i h c names =
    let same : covered leaf.level a.page ≡ covered m.level m.page = ap (λ (l : Level). covered l a.page) i.level_is ∙ covered_same m.level m.page a.page c in
    record {
      level_is = refl;
      kind_is = same_kinds leaf.kind a.kind (and_parts _ _ (and_parts _ _ h).1).0;
      covers_is = λ g. i.covers_is g ∙ ap (λ (x : Extent). holds x g) (sym same);
      meets_is = λ e. i.meets_is e ∙ ap (λ (x : Extent). meets e x) (sym same);
      gives_is = λ g k. subst (λ (o : Option Named). GivesAs user leaf g o) (sym (names g (sym (i.covers_is g) ∙ k))) (i.gives_is g k);
    }

take_more : (user k : ℕ) (fs : List Fill) (ms : List Mapping) → FillsAre user fs ms → FillsAre user (take k fs) (take k ms)
take_more user zero fs ms t = tt
take_more user (suc k) [] [] t = tt
take_more user (suc k) [] (m ∷ ms) t = absurd t
take_more user (suc k) (f ∷ fs) [] t = absurd t
take_more user (suc k) (f ∷ fs) (m ∷ ms) t = (t.0, take_more user k fs ms t.1)

pub filled_by_leaf : {s : Setup} {m : Serving} (t v : ℕ) (a : Aim) (b : Backing) (value : ℕ) (f : Fill) (past : List Entry) → MappingStands s m past → v < s.vcpus → (x : Serves s.user v a f past) → ByLeaf f x.mapping past → LeavesNameNow past → MappingStands s (filled m v f) (by t (Vcpu v) (Touch a b f.leaf.level value f.at) ∷ past)
filled_by_leaf {s = s} {m = m} t v a b value f past st lt x l names =
    let e : Entry = by t (Vcpu v) (Touch a b f.leaf.level value f.at) in
    let here : eqb f.at (length past) ≡ true = eq-eqb f.at (length past) l.here in
    let alike = filled_alike s.user a f.leaf x.mapping past x.alike x.is_serving x.covers_it (λ h k. (names x.mapping h l.among k).now_named) in
    let own : fills v (e ∷ past) ≡ take BUFFER_FILLS (fill_of (length past) a f.leaf.level (flat past) ∷ fills v past) = own_fill (eqb v v) (eqb f.at (length past)) (length past) a f.leaf.level (flat past) (fills v past) (self v) here in
    record {
      seat_count = st.seat_count;
      buffer_count = length-set m.fills v _ ∙ st.buffer_count;
      asked_is = st.asked_is;
      seats_are = λ u d lu. seat_stays (get_or m.requests.seats u d) u e past refl refl (st.seats_are u d lu);
      none_beyond = st.none_beyond;
      buffers_are = set_each (λ (u : ℕ) (y : List Fill). FillsAre s.user y (fills u (e ∷ past))) m.fills s.vcpus v (take BUFFER_FILLS (f ∷ fills_of m v)) st.buffer_count lt
          (subst (λ (ms : List Mapping). FillsAre s.user (take BUFFER_FILLS (f ∷ fills_of m v)) ms) (sym own)
          (take_more s.user BUFFER_FILLS (f ∷ fills_of m v) (fill_of (length past) a f.leaf.level (flat past) ∷ fills v past) ((l.here, alike), st.buffers_are v [] lt)))
          (λ u d lu ne. subst (λ (ms : List Mapping). FillsAre s.user (get_or m.fills u d) ms) (sym (others_keep (eqb v u) (eqb f.at (length past)) (length past) a f.leaf.level (flat past) (fills u past) ne)) (st.buffers_are u d lu));
      leaves_are = st.leaves_are;
      count_is = st.count_is;
      range_is = st.range_is;
      seq_is = st.seq_is;
    }

-- an install

and_swap : (x y : Bool) → (x && y) ≡ (y && x)
and_swap true true = refl
and_swap true false = refl
and_swap false true = refl
and_swap false false = refl

abbrev map_of : Level → ℕ → Kind → List Entry → Mapping
map_of level page kind past = record { made = length past; page = page; level = level; kind = kind; gives = λ h. named (flat past) h }

same_pages : (level : Level) (page : ℕ) (kind : Kind) (b : Backing) (writable : Bool) → extent_of (leaf_of level page kind b writable) ≡ covered level page
same_pages Small page kind b writable = refl
same_pages Block page kind b writable = refl

new_alike : (user : ℕ) (level : Level) (page : ℕ) (kind : Kind) (b : Backing) (writable : Bool) (past : List Entry) → NamesLeaf user (leaf_of level page kind b writable) (flat past) → IsAlike user (leaf_of level page kind b writable) (map_of level page kind past)
new_alike user level page kind b writable past n =
    let same = same_pages level page kind b writable in
    let leaf : Leaf = leaf_of level page kind b writable in
    record {
      level_is = refl;
      kind_is = refl;
      covers_is = λ h. ap (λ (e : Extent). holds e h) same;
      meets_is = λ e. and_swap (ltb leaf.first e.hi) (ltb e.lo (extent_of leaf).hi) ∙ ap (λ (x : Extent). meets e x) same;
      gives_is = n;
    }

-- what an install leaves of the memory unit
pub record InstallsIn (old new : Serving) (leaf : Leaf) : Type 0 where
  pub over_is : (page : ℕ) → leaf_over new.leaves page ≡ cond (leaf_covers leaf page) (Some leaf) (unless_met (extent_of leaf) (leaf_over old.leaves page))
  pub rest : new ≡ record old { leaves = new.leaves; spare = new.spare }

-- a fault that has its Get, with the access's kind
pub record HasItsGet (v page : ℕ) (kind : Kind) (past : List Entry) : Type 0 where
  pub access : Aim
  pub missed : ℕ
  pub sample : Option ℕ
  pub look : Option Seen
  pub gotten : Gotten
  pub fault_is : fault v past ≡ Faulting access missed sample look (Some gotten)
  pub kind_is : access.kind ≡ kind

pub installed : {s : Setup} {m : Serving} (t v : ℕ) (level : Level) (page : ℕ) (kind : Kind) (b : Backing) (writable : Bool) (n : Serving) (past : List Entry) → MappingStands s m past → HasItsGet v page kind past → NamesLeaf s.user (leaf_of level page kind b writable) (flat past) → InstallsIn m n (leaf_of level page kind b writable) → MappingStands s n (by t (Vcpu v) (Install page level) ∷ past)
installed {s = s} {m = m} t v level page kind b writable n past st got names i =
    let e : Entry = by t (Vcpu v) (Install page level) in
    let alike = new_alike s.user level page kind b writable past names in
    let made : leaves (e ∷ past) ≡ map_of level page kind past ∷ off_extent (covered level page) (leaves past) =
    ap (λ (f : Fault). leaf_by (length past) page level (flat past) f ++ off_extent (covered level page) (leaves past)) got.fault_is ∙ ap (λ (k : Kind). map_of level page k past ∷ off_extent (covered level page) (leaves past)) got.kind_is in
    let same : n ≡ record m { leaves = n.leaves; spare = n.spare } = i.rest in
    record {
      seat_count = ap (λ (z : Serving). length z.requests.seats) same ∙ st.seat_count;
      buffer_count = ap (λ (z : Serving). length z.fills) same ∙ st.buffer_count;
      asked_is = ap (λ (z : Serving). z.requests.asked) same ∙ st.asked_is;
      seats_are = λ u d lu. subst (λ (r : Requests). SeatIs (get_or r.seats u d) u (e ∷ past)) (sym (ap (λ (z : Serving). z.requests) same)) (seat_stays (get_or m.requests.seats u d) u e past refl refl (st.seats_are u d lu));
      none_beyond = st.none_beyond;
      buffers_are = λ u d lu. subst (λ (bs : List (List Fill)). FillsAre s.user (get_or bs u d) (fills u past)) (sym (ap (λ (z : Serving). z.fills) same)) (st.buffers_are u d lu);
      leaves_are = λ g. subst (λ (ms : List Mapping). LeafIs s.user (leaf_over n.leaves g) (over g ms)) (sym made) (install_leaves s.user (leaf_of level page kind b writable) (map_of level page kind past) m.leaves n.leaves past st.leaves_are alike (same_pages level page kind b writable) i.over_is g);
      count_is = ap (λ (z : Serving). z.progress.count) same ∙ st.count_is;
      range_is = ap (λ (z : Serving). open_range z.progress) same ∙ st.range_is;
      seq_is = ap (λ (z : Serving). z.progress.seq) same ∙ st.seq_is;
    }
