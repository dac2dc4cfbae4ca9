-- Each kind of entry keeps each part of the invariant: a vCPU's own.
use Rattle.std.proofs.Common.{◌<◌, Bool, List, None, Option, Some, [], ap, arith, cond, eqb, eqb-true, false, inl, inr, length, refl, subst, suc, sym, true, ℕ, ◌∙◌, ◌∷◌, ◌≡◌, ◌⊎◌}
use Rattle.std.proofs.lemmas.Bool.Decides.{nat_tests}
use Rattle.gm_base.specs.Aim.{Aim}
use Rattle.gm_base.specs.Scripts.{Orders}
use Rattle.gm_base.specs.declared.values.Actor.{Actor}
use Rattle.gm_base.specs.declared.values.Actor.TheVariants.{Caller, Vcpu}
use Rattle.gm_base.specs.declared.values.Kind.{Kind}
use Rattle.gm_flat.specs.Attribute.{attr_of}
use Rattle.gm_flat.specs.Effects.{add}
use Rattle.gm_flat.specs.FlatState.{Flat}
use Rattle.gm_flat.specs.Histories.{Fault, Faulting, Gotten, NoFault, Seen, fault, with_get, with_look, with_sample}
use Rattle.gm_flat.specs.Mappings.{Mapping, fills, flushed, inside, pending}
use Rattle.gm_flat.specs.NamedPage.{named}
use Rattle.gm_flat.specs.Replay.{flat, flat_at, get_adds, states}
use Rattle.gm_flat.specs.RightInstall.{RightGet}
use Rattle.gm_flat.specs.RightLives.{RightGetAdds}
use Rattle.gm_flat.specs.RightLook.{RightSeen, file_of, id_of}
use Rattle.gm_flat.specs.RightOrder.{IsLooked, IsMissed, IsSampled}
use Rattle.gm_flat.specs.RightTouch.{CanUse}
use Rattle.gm_flat.specs.declared.effect.Backing.{Backing}
use Rattle.gm_flat.specs.declared.entry.Entry.{Entry}
use Rattle.gm_flat.specs.declared.entry.What.{What}
use Rattle.gm_flat.specs.declared.entry.What.TheVariants.{Enter, Flush, Get, Gone, Install, Left, Look, Miss, Retry, Sample}
use Rattle.gm_laws.proofs.Flats.{over}
use Rattle.gm_laws.proofs.Good.{Good, GotOk, HullNone, LookOk, LooksSince, FaultOk, FaultsOk, fill_at_more, from_more, looks_more, since_more}
use Rattle.gm_laws.proofs.Grow.{get_ok, stale_keep}
use Rattle.gm_laws.proofs.Ids.{IdsAt}
use Rattle.gm_laws.proofs.Kit.{Mem, by, flat_at_here, flat_at_keep}
use Rattle.gm_laws.specs.May.{May}

-- faults
cond_fault : (past : List Entry) (t : Bool) (x y : Fault) → (t ≡ true → FaultOk past x) → FaultOk past y → FaultOk past (cond t x y)
cond_fault past true x y f h = f refl
cond_fault past false x y f h = h

pub look_more : (e : Entry) (a : Aim) (s : ℕ) (l : Seen) (past : List Entry) → LookOk a s l past → LookOk a s l (e ∷ past)
look_more e a s l past x =
    let same : flat_at l.at (e ∷ past) ≡ flat_at l.at past = flat_at_keep l.at e past (let p = x.at_le in let q = x.place_lt in omega arith) in
    record {
      sampled = x.sampled;
      at_le = x.at_le;
      place_lt = let q = x.place_lt in omega arith;
      slot_is = x.slot_is ∙ ap (λ (f : Flat). id_of (over a.page f.slots)) (sym same);
      file_is = x.file_is ∙ ap (λ (f : Flat). file_of (over a.page f.slots)) (sym same);
      attr_is = x.attr_is ∙ ap (λ (f : Flat). attr_of a.page f.attrs) (sym same);
    }

got_more : (t : ℕ) (w : What) (x : Actor) (a : Aim) (s : ℕ) (q : Gotten) (past : List Entry) → HullNone past → GotOk a s q past → GotOk a s q (by t x w ∷ past)
got_more t w x a s q past none h =
    record {
      sampled = h.sampled;
      after_le = let y = h.after_le in omega arith;
      usable = elim h.usable [
        | inl y ↦ inl (stale_keep t s a.page w x past none (let p = h.sampled in let q = h.after_le in omega arith) y)
        | inr y ↦ inr (subst (λ (f : Flat). CanUse a q.backing (named f a.page)) (sym (flat_at_keep q.after (by t x w) past h.after_le)) y)
      ];
    }

fault_more : (t : ℕ) (w : What) (a : Actor) (past : List Entry) (st : Fault) → HullNone past → FaultOk past st → FaultOk (by t a w ∷ past) st
fault_more t w a past NoFault none x = tt
fault_more t w a past (Faulting c m None l q) none x = tt
fault_more t w a past (Faulting c m (Some s) None q) none x = tt
fault_more t w a past (Faulting c m (Some s) (Some l) None) none x = look_more (by t a w) c s l past x
fault_more t w a past (Faulting c m (Some s) (Some l) (Some q)) none x = got_more t w a c s q past none x

sample_fault : (past : List Entry) (s : ℕ) (x : Fault) → IsMissed x → FaultOk past (with_sample s x)
sample_fault past s NoFault i = absurd i
sample_fault past s (Faulting a m None None None) i = tt
sample_fault past s (Faulting a m None None (Some q)) i = absurd i
sample_fault past s (Faulting a m None (Some l) q) i = absurd i
sample_fault past s (Faulting a m (Some k) l q) i = absurd i

pub look_fault : (past : List Entry) (at : ℕ) (slot : Option ℕ) (attr : Kind) (file : Option ℕ) (e : Entry) (x : Fault) → IsSampled x → RightSeen at slot attr file past x → FaultOk (e ∷ past) (with_look (record { place = length past; at = at; slot = slot; attr = attr; file = file }) x)
look_fault past at slot attr file e (Faulting a m (Some s) None None) i r =
    let same : flat_at at (e ∷ past) ≡ flat_at at past = flat_at_keep at e past r.so_far in
    record {
      sampled = r.after_sample;
      at_le = r.so_far;
      place_lt = omega arith;
      slot_is = r.right_slot ∙ ap (λ (f : Flat). id_of (over a.page f.slots)) (sym same);
      file_is = r.right_file ∙ ap (λ (f : Flat). file_of (over a.page f.slots)) (sym same);
      attr_is = r.right_attr ∙ ap (λ (f : Flat). attr_of a.page f.attrs) (sym same);
    }
look_fault past at slot attr file e (Faulting a m (Some s) None (Some q)) i r = absurd i
look_fault past at slot attr file e (Faulting a m (Some s) (Some l) q) i r = absurd i
look_fault past at slot attr file e (Faulting a m None l q) i r = absurd i
look_fault past at slot attr file e NoFault i r = absurd i

get_fault : (t u n frames : ℕ) (past : List Entry) (b : Backing) (x : Fault) → HullNone past → LooksSince past → IdsAt past → FaultOk past x → IsLooked x → RightGet b n past x → RightGetAdds frames n x (get_adds b n x (states past)) past → flat (by t (Vcpu u) (Get b n) ∷ past) ≡ add (get_adds b n x (states past)) (flat past) → FaultOk (by t (Vcpu u) (Get b n) ∷ past) (with_get (record { after = suc (length past); backing = b }) x)
get_fault t u n frames past b (Faulting a m (Some s) (Some l) None) none looks ids h i g adding e =
    record {
      sampled = let p = h.sampled in let q = h.at_le in let r = h.place_lt in omega arith;
      after_le = omega arith;
      usable = elim (get_ok b n s frames m a l past looks ids h g adding) [
        | inl y ↦ inl (stale_keep t s a.page (Get b n) (Vcpu u) past none (let p = h.sampled in let q = h.at_le in let r = h.place_lt in omega arith) y)
        | inr y ↦ inr (subst (λ (f : Flat). CanUse a b (named f a.page)) (sym (flat_at_here (suc (length past)) (by t (Vcpu u) (Get b n)) past (omega arith) ∙ e)) y)
      ];
    }
get_fault t u n frames past b (Faulting a m (Some s) (Some l) (Some q)) none looks ids h i g adding e = absurd i
get_fault t u n frames past b (Faulting a m (Some s) None q) none looks ids h i g adding e = absurd i
get_fault t u n frames past b (Faulting a m None l q) none looks ids h i g adding e = absurd i
get_fault t u n frames past b NoFault none looks ids h i g adding e = absurd i

pub at_vcpu : (u v : ℕ) (P : ℕ → Type 0) → eqb u v ≡ true → P u → P v
at_vcpu u v P e x = subst P (eqb-true u v e) x

pub faults_keep : (o : Orders) (t : ℕ) (w : What) (a : Actor) (past : List Entry) → IdsAt past → Good o.setup.callers past → May o w a past → FaultsOk (by t a w ∷ past)
faults_keep o t (Miss access) (Vcpu u) past ids g m v = cond_fault (by t (Vcpu u) (Miss access) ∷ past) (eqb u v) (Faulting access (suc (length past)) None None None) (fault v past) (λ _. tt) (fault_more t (Miss access) (Vcpu u) past (fault v past) g.hull_none (g.faults v))
faults_keep o t (Sample s) (Vcpu u) past ids g m v = cond_fault (by t (Vcpu u) (Sample s) ∷ past) (eqb u v) (with_sample s (fault v past)) (fault v past) (λ e. sample_fault (by t (Vcpu u) (Sample s) ∷ past) s (fault v past) (at_vcpu u v (λ x. IsMissed (fault x past)) e m.0)) (fault_more t (Sample s) (Vcpu u) past (fault v past) g.hull_none (g.faults v))
faults_keep o t (Look k slot attr file) (Vcpu u) past ids g m v = cond_fault (by t (Vcpu u) (Look k slot attr file) ∷ past) (eqb u v) (with_look (record { place = length past; at = k; slot = slot; attr = attr; file = file }) (fault v past)) (fault v past) (λ e. look_fault past k slot attr file (by t (Vcpu u) (Look k slot attr file)) (fault v past) (at_vcpu u v (λ x. IsSampled (fault x past)) e m.0) (at_vcpu u v (λ x. RightSeen k slot attr file past (fault x past)) e m.1)) (fault_more t (Look k slot attr file) (Vcpu u) past (fault v past) g.hull_none (g.faults v))
faults_keep o t (Get b k) (Vcpu u) past ids g m v =
    cond_fault (by t (Vcpu u) (Get b k) ∷ past) (eqb u v) (with_get (record { after = suc (length past); backing = b }) (fault v past)) (fault v past)
    (λ e. get_fault t u k o.setup.frames past b (fault v past) g.hull_none g.looks ids (g.faults v)
    (at_vcpu u v (λ x. IsLooked (fault x past)) e m.0)
    (at_vcpu u v (λ x. RightGet b k past (fault x past)) e m.1)
    (at_vcpu u v (λ x. RightGetAdds o.setup.frames k (fault x past) (get_adds b k (fault x past) (states past)) past) e m.2)
    (at_vcpu u v (λ x. flat (by t (Vcpu u) (Get b k) ∷ past) ≡ add (get_adds b k (fault x past) (states past)) (flat past)) e refl))
    (fault_more t (Get b k) (Vcpu u) past (fault v past) g.hull_none (g.faults v))
faults_keep o t (Install page level) (Vcpu u) past ids g m v = cond_fault (by t (Vcpu u) (Install page level) ∷ past) (eqb u v) NoFault (fault v past) (λ _. tt) (fault_more t (Install page level) (Vcpu u) past (fault v past) g.hull_none (g.faults v))
faults_keep o t Retry (Vcpu u) past ids g m v = cond_fault (by t (Vcpu u) Retry ∷ past) (eqb u v) NoFault (fault v past) (λ _. tt) (fault_more t Retry (Vcpu u) past (fault v past) g.hull_none (g.faults v))
faults_keep o t (Left why) (Vcpu u) past ids g m v = cond_fault (by t (Vcpu u) (Left why) ∷ past) (eqb u v) NoFault (fault v past) (λ _. tt) (fault_more t (Left why) (Vcpu u) past (fault v past) g.hull_none (g.faults v))
faults_keep o t (Miss access) (Caller c) past ids g m v = absurd m
faults_keep o t (Sample s) (Caller c) past ids g m v = absurd m
faults_keep o t (Look k slot attr file) (Caller c) past ids g m v = absurd m
faults_keep o t (Get b k) (Caller c) past ids g m v = absurd m
faults_keep o t (Install page level) (Caller c) past ids g m v = absurd m
faults_keep o t Retry (Caller c) past ids g m v = absurd m
faults_keep o t (Left why) (Caller c) past ids g m v = absurd m
faults_keep o t w a past ids g m v = fault_more t w a past (fault v past) g.hull_none (g.faults v)

-- a vCPU enters
enter_flushed : (u v from fl : ℕ) (ins : Bool) (pend : ℕ → Bool) → pend u ≡ false → (from < fl) ⊎ (pend v ≡ true) → (ins ≡ true → from < fl) → cond (eqb u v) true ins ≡ true → from < fl
enter_flushed u v from fl ins pend h k f e = grind (arith, nat_tests)

enter_fill : {A : Type 0} (u v : ℕ) (ins : Bool) (pend : ℕ → Bool) → pend u ≡ false → A ⊎ ((ins ≡ false) × (pend v ≡ true)) → A ⊎ ((cond (eqb u v) true ins ≡ false) × (pend v ≡ true))
enter_fill u v ins pend h (inl x) = inl x
enter_fill u v ins pend h (inr x) = inr (still_out u v ins pend h x.0 x.1, x.1)
  where
    still_out : (u v : ℕ) (ins : Bool) (pend : ℕ → Bool) → pend u ≡ false → ins ≡ false → pend v ≡ true → cond (eqb u v) true ins ≡ false
    still_out u v ins pend h i p = grind (arith, nat_tests)

pub keep_enter : (o : Orders) (t u : ℕ) (past : List Entry) → IdsAt past → Good o.setup.callers past → May o Enter (Vcpu u) past → Good o.setup.callers (by t (Vcpu u) Enter ∷ past)
keep_enter o t u past ids g m =
    record {
      count_is = g.count_is;
      hull_none = g.hull_none;
      from_lt = from_more o.setup.callers past g.from_lt;
      asked = g.asked;
      in_hull_of = g.in_hull_of;
      no_leaf = g.no_leaf;
      old_fill = g.old_fill;
      is_flushed = λ c v b e k i. enter_flushed u v b.begun (flushed v past) (inside v past) (λ x. pending x past) m.flushed_before (g.asked c v b e) (g.is_flushed c v b e k) i;
      fill_in = λ v f i. ((g.fill_in v f i).0, fill_at_more (by t (Vcpu u) Enter) past f (g.fill_in v f i).1);
      leaf_names = g.leaf_names;
      fill_names = λ v h f i k. enter_fill u v (inside v past) (λ x. pending x past) m.flushed_before (g.fill_names v h f i k);
      since = since_more (by t (Vcpu u) Enter) past (λ q x y. y) g.since;
      looks = looks_more (by t (Vcpu u) Enter) past (refl, refl) g.looks;
      faults = faults_keep o t Enter (Vcpu u) past ids g m;
    }

-- a vCPU flushes
flush_asked : (u v from fl len : ℕ) (pend : Bool) → from < len → (from < fl) ⊎ (pend ≡ true) → (from < cond (eqb u v) (suc len) fl) ⊎ (cond (eqb u v) false pend ≡ true)
flush_asked u v from fl len pend l k = grind (arith, nat_tests)

flush_flushed : (u v from fl len : ℕ) → from < len → from < fl → from < cond (eqb u v) (suc len) fl
flush_flushed u v from fl len l k = grind (arith, nat_tests)

-- what is left of the fills, and whose
Mem-flush : (t : Bool) (f : Mapping) (fs : List Mapping) → Mem f (cond t [] fs) → (t ≡ false) × Mem f fs
Mem-flush true f fs m = absurd m
Mem-flush false f fs m = (refl, m)

flush_fill : {A : Type 0} (t ins pend : Bool) → t ≡ false → A ⊎ ((ins ≡ false) × (pend ≡ true)) → A ⊎ ((ins ≡ false) × (cond t false pend ≡ true))
flush_fill t ins pend e (inl x) = inl x
flush_fill t ins pend e (inr x) = inr (x.0, rw e x.1)

pub keep_flush : (o : Orders) (t u : ℕ) (past : List Entry) → IdsAt past → Good o.setup.callers past → May o Flush (Vcpu u) past → Good o.setup.callers (by t (Vcpu u) Flush ∷ past)
keep_flush o t u past ids g m =
    record {
      count_is = g.count_is;
      hull_none = g.hull_none;
      from_lt = from_more o.setup.callers past g.from_lt;
      asked = λ c v b e. flush_asked u v b.begun (flushed v past) (length past) (pending v past) (g.from_lt c b e).1 (g.asked c v b e);
      in_hull_of = g.in_hull_of;
      no_leaf = g.no_leaf;
      old_fill = λ c v h b f e i. g.old_fill c v h b f e (Mem-flush (eqb u v) f (fills v past) i).1;
      is_flushed = λ c v b e k i. flush_flushed u v b.begun (flushed v past) (length past) (g.from_lt c b e).1 (g.is_flushed c v b e k i);
      fill_in = λ v f i. let y = Mem-flush (eqb u v) f (fills v past) i in let x = g.fill_in v f y.1 in (rw y.0 x.0, fill_at_more (by t (Vcpu u) Flush) past f x.1);
      leaf_names = g.leaf_names;
      fill_names = λ v h f i k. let y = Mem-flush (eqb u v) f (fills v past) i in flush_fill (eqb u v) (inside v past) (pending v past) y.0 (g.fill_names v h f y.1 k);
      since = since_more (by t (Vcpu u) Flush) past (λ q x y. y) g.since;
      looks = looks_more (by t (Vcpu u) Flush) past (refl, refl) g.looks;
      faults = faults_keep o t Flush (Vcpu u) past ids g m;
    }

-- a vCPU goes outside
out_flushed : (t ins : Bool) → cond t false ins ≡ true → ins ≡ true
out_flushed t ins e = grind arith

out_fill : {A B : Type 0} (t ins : Bool) → A ⊎ ((ins ≡ false) × B) → A ⊎ ((cond t false ins ≡ false) × B)
out_fill t ins (inl x) = inl x
out_fill t ins (inr x) = inr (out_is t ins x.0, x.1)
  where
    out_is : (t ins : Bool) → ins ≡ false → cond t false ins ≡ false
    out_is t ins e = grind arith

pub keep_miss : (o : Orders) (t u : ℕ) (access : Aim) (past : List Entry) → IdsAt past → Good o.setup.callers past → May o (Miss access) (Vcpu u) past → Good o.setup.callers (by t (Vcpu u) (Miss access) ∷ past)
keep_miss o t u access past ids g m =
    record {
      count_is = g.count_is;
      hull_none = g.hull_none;
      from_lt = from_more o.setup.callers past g.from_lt;
      asked = g.asked;
      in_hull_of = g.in_hull_of;
      no_leaf = g.no_leaf;
      old_fill = g.old_fill;
      is_flushed = λ c v b e k i. g.is_flushed c v b e k (out_flushed (eqb u v) (inside v past) i);
      fill_in = λ v f i. ((g.fill_in v f i).0, fill_at_more (by t (Vcpu u) (Miss access)) past f (g.fill_in v f i).1);
      leaf_names = g.leaf_names;
      fill_names = λ v h f i k. out_fill (eqb u v) (inside v past) (g.fill_names v h f i k);
      since = since_more (by t (Vcpu u) (Miss access)) past (λ q x y. y) g.since;
      looks = looks_more (by t (Vcpu u) (Miss access)) past (refl, refl) g.looks;
      faults = faults_keep o t (Miss access) (Vcpu u) past ids g m;
    }

pub keep_gone : (o : Orders) (t u : ℕ) (past : List Entry) → IdsAt past → Good o.setup.callers past → May o Gone (Vcpu u) past → Good o.setup.callers (by t (Vcpu u) Gone ∷ past)
keep_gone o t u past ids g m =
    record {
      count_is = g.count_is;
      hull_none = g.hull_none;
      from_lt = from_more o.setup.callers past g.from_lt;
      asked = g.asked;
      in_hull_of = g.in_hull_of;
      no_leaf = g.no_leaf;
      old_fill = g.old_fill;
      is_flushed = λ c v b e k i. g.is_flushed c v b e k (out_flushed (eqb u v) (inside v past) i);
      fill_in = λ v f i. ((g.fill_in v f i).0, fill_at_more (by t (Vcpu u) Gone) past f (g.fill_in v f i).1);
      leaf_names = g.leaf_names;
      fill_names = λ v h f i k. out_fill (eqb u v) (inside v past) (g.fill_names v h f i k);
      since = since_more (by t (Vcpu u) Gone) past (λ q x y. y) g.since;
      looks = looks_more (by t (Vcpu u) Gone) past (refl, refl) g.looks;
      faults = faults_keep o t Gone (Vcpu u) past ids g m;
    }
