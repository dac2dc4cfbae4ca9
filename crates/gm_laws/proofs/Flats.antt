-- What an effect and an addition leave of slots, attributes, the cache and names.
use Rattle.std.proofs.Common.{◌&&◌, ◌+◌, ◌<◌, Bool, List, None, Option, Some, [], ap, arith, cond, eqb, eqb-true, false, leb, ltb, refl, suc, sym, true, zero, ℕ, ◌∙◌, ◌∷◌, ◌≡◌, ◌≤◌}
use Rattle.std.proofs.lemmas.Bool.{and_parts, both_ways, or_parts}
use Rattle.std.proofs.lemmas.Bool.Decides.{nat_tests}
use Rattle.gm_base.specs.declared.values.Folio.{Folio}
use Rattle.gm_base.specs.declared.values.Kind.{Kind}
use Rattle.gm_base.specs.declared.values.Kind.TheVariants.{Private, Shared}
use Rattle.gm_flat.specs.Attribute.{attr_of}
use Rattle.gm_flat.specs.Effects.{apply, dropped, is_cut, marked, moved, shut_files, shut_slot, shut_slots, slot_fits, with_run, without, without_file}
use Rattle.gm_flat.specs.FlatState.{Flat, Triple, cached, is_triple, was_made}
use Rattle.gm_flat.specs.NamedPage.{Named, file_named, folio_named, named, named_aside, named_by, unmarked}
use Rattle.gm_flat.specs.Slots.{index_of, is_file, lies_over, slot_by_id, slot_over}
use Rattle.gm_flat.specs.Window.{has_file, in_cut, in_old_or_new, in_slot, is_on}
use Rattle.gm_flat.specs.declared.effect.Backing.TheVariants.{Folio as InFolio}
use Rattle.gm_flat.specs.declared.effect.Effect.{Effect}
use Rattle.gm_flat.specs.declared.effect.Effect.TheVariants.{Attr, Cut, Mark, Move, NoSlot, Shut, Slot}
use Rattle.gm_flat.specs.declared.views.SlotView.{SlotView}
use Rattle.gm_laws.proofs.Kit.{none_is, some_same}

-- look-ups with the page, the id and the file first
abbrev pub over : ℕ → List SlotView → Option SlotView
over g rs = slot_over rs g

abbrev pub with_id : ℕ → List SlotView → Option SlotView
with_id id rs = slot_by_id rs id

abbrev pub of_file : ℕ → Option ℕ → Bool
of_file F o = is_file o F

dropped_step : (t u : Bool) (g id : ℕ) (r : SlotView) (rs : List SlotView) → lies_over r g ≡ u → (in_slot g (with_id id rs) ≡ false → over g (dropped id rs) ≡ over g rs) → in_slot g (cond t (Some r) (with_id id rs)) ≡ false → over g (cond t rs (r ∷ dropped id rs)) ≡ cond u (Some r) (over g rs)
dropped_step true true g id r rs e ih h = absurd (both_ways _ h e)
dropped_step true false g id r rs e ih h = refl
dropped_step false true g id r rs e ih h = rw e refl
dropped_step false false g id r rs e ih h = rw e (ih h)

pub over-dropped : (g id : ℕ) (rs : List SlotView) → in_slot g (with_id id rs) ≡ false → over g (dropped id rs) ≡ over g rs
over-dropped g id [] h = refl
over-dropped g id (r ∷ rs) h = dropped_step (eqb r.id id) (lies_over r g) g id r rs refl (over-dropped g id rs) h

moved_step : (t u : Bool) (g id base : ℕ) (r : SlotView) (rs : List SlotView) → lies_over r g ≡ u → (in_old_or_new g base (with_id id rs) ≡ false → over g (moved id base rs) ≡ over g rs) → in_old_or_new g base (cond t (Some r) (with_id id rs)) ≡ false → over g (cond t (record r { base = base; invalid = false } ∷ rs) (r ∷ moved id base rs)) ≡ cond u (Some r) (over g rs)
moved_step true true g id base r rs e ih h = absurd (both_ways _ (or_parts _ _ h).0 e)
moved_step true false g id base r rs e ih h = let k : lies_over (record r { base = base; invalid = false }) g ≡ false = (or_parts _ _ h).1 in rw k refl
moved_step false true g id base r rs e ih h = rw e refl
moved_step false false g id base r rs e ih h = rw e (ih h)

pub over-moved : (g id base : ℕ) (rs : List SlotView) → in_old_or_new g base (with_id id rs) ≡ false → over g (moved id base rs) ≡ over g rs
over-moved g id base [] h = refl
over-moved g id base (r ∷ rs) h = moved_step (eqb r.id id) (lies_over r g) g id base r rs refl (over-moved g id base rs) h

marked_step : (t u : Bool) (g id : ℕ) (r : SlotView) (rs : List SlotView) → lies_over r g ≡ u → (in_slot g (with_id id rs) ≡ false → over g (marked id rs) ≡ over g rs) → in_slot g (cond t (Some r) (with_id id rs)) ≡ false → over g (cond t (record r { invalid = true } ∷ rs) (r ∷ marked id rs)) ≡ cond u (Some r) (over g rs)
marked_step true true g id r rs e ih h = absurd (both_ways _ h e)
marked_step true false g id r rs e ih h = rw e refl
marked_step false true g id r rs e ih h = rw e refl
marked_step false false g id r rs e ih h = rw e (ih h)

pub over-marked : (g id : ℕ) (rs : List SlotView) → in_slot g (with_id id rs) ≡ false → over g (marked id rs) ≡ over g rs
over-marked g id [] h = refl
over-marked g id (r ∷ rs) h = marked_step (eqb r.id id) (lies_over r g) g id r rs refl (over-marked g id rs) h

shut_step : (u : Bool) (g F : ℕ) (r : SlotView) (rs : List SlotView) → (has_file F (over g rs) ≡ false → over g (shut_slots F rs) ≡ over g rs) → has_file F (cond u (Some r) (over g rs)) ≡ false → cond u (Some (shut_slot F r)) (over g (shut_slots F rs)) ≡ cond u (Some r) (over g rs)
shut_step true g F r rs ih h = rw h refl
shut_step false g F r rs ih h = ih h

pub over-shut : (g F : ℕ) (rs : List SlotView) → has_file F (over g rs) ≡ false → over g (shut_slots F rs) ≡ over g rs
over-shut g F [] h = refl
over-shut g F (r ∷ rs) h = shut_step (lies_over r g) g F r rs (over-shut g F rs) h

cut_apart : (K i F lo hi file index : ℕ) → (eqb K F && (leb lo i && ltb i hi)) ≡ false → (eqb file F && (leb lo index && ltb index hi)) ≡ true → (eqb file K && eqb index i) ≡ true → ⊥
cut_apart K i F lo hi file index h a b = grind (arith, nat_tests)

without_step : (t u : Bool) (K i F lo hi : ℕ) (x : Triple) (ts : List Triple) → is_cut F lo hi x ≡ t → is_triple K i x ≡ u → (eqb K F && (leb lo i && ltb i hi)) ≡ false → cached K i (without F lo hi ts) ≡ cached K i ts → cached K i (cond t (without F lo hi ts) (x ∷ without F lo hi ts)) ≡ cond u (Some x.folio) (cached K i ts)
without_step true true K i F lo hi x ts a b h ih = absurd (cut_apart K i F lo hi x.file x.index h a b)
without_step true false K i F lo hi x ts a b h ih = ih
without_step false true K i F lo hi x ts a b h ih = rw b refl
without_step false false K i F lo hi x ts a b h ih = rw b ih

pub cached-without : (K i F lo hi : ℕ) (ts : List Triple) → (eqb K F && (leb lo i && ltb i hi)) ≡ false → cached K i (without F lo hi ts) ≡ cached K i ts
cached-without K i F lo hi [] h = refl
cached-without K i F lo hi (x ∷ ts) h = without_step (is_cut F lo hi x) (is_triple K i x) K i F lo hi x ts refl refl h (cached-without K i F lo hi ts h)

file_apart : (K i F file index : ℕ) → eqb K F ≡ false → eqb file F ≡ true → (eqb file K && eqb index i) ≡ true → ⊥
file_apart K i F file index h a b = grind (arith, nat_tests)

without_file_step : (t u : Bool) (K i F : ℕ) (x : Triple) (ts : List Triple) → eqb x.file F ≡ t → is_triple K i x ≡ u → eqb K F ≡ false → cached K i (without_file F ts) ≡ cached K i ts → cached K i (cond t (without_file F ts) (x ∷ without_file F ts)) ≡ cond u (Some x.folio) (cached K i ts)
without_file_step true true K i F x ts a b h ih = absurd (file_apart K i F x.file x.index h a b)
without_file_step true false K i F x ts a b h ih = ih
without_file_step false true K i F x ts a b h ih = rw b refl
without_file_step false false K i F x ts a b h ih = rw b ih

pub cached-without_file : (K i F : ℕ) (ts : List Triple) → eqb K F ≡ false → cached K i (without_file F ts) ≡ cached K i ts
cached-without_file K i F [] h = refl
cached-without_file K i F (x ∷ ts) h = without_file_step (eqb x.file F) (is_triple K i x) K i F x ts refl refl h (cached-without_file K i F ts h)

cut_file : (g i F lo hi : ℕ) (ts : List Triple) (o : Option ℕ) → (of_file F o && (leb lo i && ltb i hi)) ≡ false → file_named i (without F lo hi ts) o ≡ file_named i ts o
cut_file g i F lo hi ts None h = refl
cut_file g i F lo hi ts (Some K) h = ap folio_named (cached-without K i F lo hi ts h)

cut_by : (g F lo hi : ℕ) (ts : List Triple) (kind : Kind) (row : Option SlotView) → in_cut F lo hi g row ≡ false → named_by g (without F lo hi ts) kind row ≡ named_by g ts kind row
cut_by g F lo hi ts Shared row h = refl
cut_by g F lo hi ts Private None h = refl
cut_by g F lo hi ts Private (Some r) h = cut_file g (index_of r g) F lo hi ts r.file h

shut_file : (i F : ℕ) (ts : List Triple) (o : Option ℕ) → of_file F o ≡ false → file_named i (without_file F ts) o ≡ file_named i ts o
shut_file i F ts None h = refl
shut_file i F ts (Some K) h = ap folio_named (cached-without_file K i F ts h)

shut_by : (g F : ℕ) (ts : List Triple) (kind : Kind) (row : Option SlotView) → has_file F row ≡ false → named_by g (without_file F ts) kind row ≡ named_by g ts kind row
shut_by g F ts Shared row h = refl
shut_by g F ts Private None h = refl
shut_by g F ts Private (Some r) h = shut_file (index_of r g) F ts r.file h

-- a fact of both of two states is one of the state that a test chooses
pub cond_P : {A : Type 0} (P : A → Type 0) (t : Bool) (x y : A) → P x → P y → P (cond t x y)
cond_P P true x y a b = a
cond_P P false x y a b = b

abbrev plain_slot : ℕ → ℕ → ℕ → ℕ → ℕ → Option ℕ → ℕ → SlotView
plain_slot slot base pages user flags file index = record { id = slot; base = base; pages = pages; user = user; flags = flags; file = file; index = index; invalid = false }

new_over : (s : SlotView) (rs : List SlotView) (g : ℕ) → lies_over s g ≡ false → over g (s ∷ rs) ≡ over g rs
new_over s rs g h = rw h refl

-- whether an effect changes what slot or attribute lies over a page: where it is on the page, and where it marks its slot
abbrev pub alters : Effect → Flat → ℕ → Bool
alters (Mark id) f g = in_slot g (with_id id f.slots)
alters e f g = is_on e f g

pub slot_keep : (effect : Effect) (f : Flat) (g : ℕ) → alters effect f g ≡ false → over g (apply effect f).slots ≡ over g f.slots
slot_keep (Slot slot base pages user flags file index) f g h =
    let s : SlotView = plain_slot slot base pages user flags file index in
    cond_P (λ (x : Flat). over g x.slots ≡ over g f.slots) (slot_fits s) (record f { slots = s ∷ f.slots }) f (new_over s f.slots g h) refl
slot_keep (NoSlot slot) f g h = over-dropped g slot f.slots h
slot_keep (Move slot base) f g h = over-moved g slot base f.slots h
slot_keep (Mark id) f g h = over-marked g id f.slots h
slot_keep (Shut file) f g h = cond_P (λ (x : Flat). over g x.slots ≡ over g f.slots) (was_made file f.files) (record f { slots = shut_slots file f.slots; files = shut_files file f.files; cache = without_file file f.cache }) f (over-shut g file f.slots h) refl
slot_keep _ f g h = refl

pub attr_keep : (effect : Effect) (f : Flat) (g : ℕ) → is_on effect f g ≡ false → attr_of g (apply effect f).attrs ≡ attr_of g f.attrs
attr_keep (Attr span kind) f g h = rw h refl
attr_keep (Slot slot base pages user flags file index) f g h =
    let s : SlotView = plain_slot slot base pages user flags file index in
    cond_P (λ (x : Flat). attr_of g x.attrs ≡ attr_of g f.attrs) (slot_fits s) (record f { slots = s ∷ f.slots }) f refl refl
attr_keep (Shut file) f g h = cond_P (λ (x : Flat). attr_of g x.attrs ≡ attr_of g f.attrs) (was_made file f.files) (record f { slots = shut_slots file f.slots; files = shut_files file f.files; cache = without_file file f.cache }) f refl refl
attr_keep _ f g h = refl

-- what is named over the slot that is found, or over it where it isn't marked
abbrev pub named_with : (Option SlotView → Option SlotView) → Flat → ℕ → Option Named
named_with U f g = named_by g f.cache (attr_of g f.attrs) (U (over g f.slots))

-- what a slot isn't in, or has no file of, it isn't where it is left out
pub record Passes (U : Option SlotView → Option SlotView) : Type 0 where
  pub cut : (F lo hi g : ℕ) (o : Option SlotView) → in_cut F lo hi g o ≡ false → in_cut F lo hi g (U o) ≡ false
  pub file : (F : ℕ) (o : Option SlotView) → has_file F o ≡ false → has_file F (U o) ≡ false

left_out : (P : Option SlotView → Type 0) (t : Bool) (r : SlotView) → P None → P (Some r) → P (cond t None (Some r))
left_out P true r a b = a
left_out P false r a b = b

pub passes_unmarked : Passes unmarked
passes_unmarked = record { cut = cut; file = file }
  where
    cut : (F lo hi g : ℕ) (o : Option SlotView) → in_cut F lo hi g o ≡ false → in_cut F lo hi g (unmarked o) ≡ false
    cut F lo hi g None h = h
    cut F lo hi g (Some r) h = left_out (λ (o : Option SlotView). in_cut F lo hi g o ≡ false) r.invalid r refl h

    file : (F : ℕ) (o : Option SlotView) → has_file F o ≡ false → has_file F (unmarked o) ≡ false
    file F None h = h
    file F (Some r) h = left_out (λ (o : Option SlotView). has_file F o ≡ false) r.invalid r refl h

pub passes_all : Passes (λ o. o)
passes_all = record { cut = λ F lo hi g o h. h; file = λ F o h. h }

keep_with : (U : Option SlotView → Option SlotView) → Passes U → (effect : Effect) (f : Flat) (g : ℕ) → is_on effect f g ≡ false → over g (apply effect f).slots ≡ over g f.slots → named_with U (apply effect f) g ≡ named_with U f g
keep_with U p (Slot slot base pages user flags file index) f g h e =
    let s : SlotView = plain_slot slot base pages user flags file index in
    cond_P (λ (x : Flat). over g x.slots ≡ over g f.slots → named_with U x g ≡ named_with U f g) (slot_fits s) (record f { slots = s ∷ f.slots }) f (λ k. ap (λ (o : Option SlotView). named_by g f.cache (attr_of g f.attrs) (U o)) k) (λ k. refl) e
keep_with U p (NoSlot slot) f g h e = ap (λ (o : Option SlotView). named_by g f.cache (attr_of g f.attrs) (U o)) e
keep_with U p (Mark slot) f g h e = ap (λ (o : Option SlotView). named_by g f.cache (attr_of g f.attrs) (U o)) e
keep_with U p (Move slot base) f g h e = ap (λ (o : Option SlotView). named_by g f.cache (attr_of g f.attrs) (U o)) e
keep_with U p (Attr span kind) f g h e = rw h refl
keep_with U p (Cut file lo hi) f g h e = cut_by g file lo hi f.cache (attr_of g f.attrs) (U (over g f.slots)) (p.cut file lo hi g (over g f.slots) h)
keep_with U p (Shut file) f g h e =
    cond_P (λ (x : Flat). over g x.slots ≡ over g f.slots → named_with U x g ≡ named_with U f g) (was_made file f.files) (record f { slots = shut_slots file f.slots; files = shut_files file f.files; cache = without_file file f.cache }) f
    (λ k. ap (λ (o : Option SlotView). named_by g (without_file file f.cache) (attr_of g f.attrs) (U o)) k ∙ shut_by g file f.cache (attr_of g f.attrs) (U (over g f.slots)) (p.file file (over g f.slots) h))
    (λ k. refl) e
keep_with U p _ f g h e = refl

-- what alters no page is on none
pub on_altered : (effect : Effect) (f : Flat) (g : ℕ) → alters effect f g ≡ false → is_on effect f g ≡ false
on_altered (Mark id) f g h = refl
on_altered (Slot slot base pages user flags file index) f g h = h
on_altered (NoSlot slot) f g h = h
on_altered (Move slot base) f g h = h
on_altered (Attr span kind) f g h = h
on_altered (Cut file lo hi) f g h = h
on_altered (Shut file) f g h = h
on_altered _ f g h = h

pub named_keep : (effect : Effect) (f : Flat) (g : ℕ) → alters effect f g ≡ false → named (apply effect f) g ≡ named f g
named_keep effect f g h = keep_with unmarked passes_unmarked effect f g (on_altered effect f g h) (slot_keep effect f g h)

-- with marks left aside a mark changes no name
mark_over : (g id : ℕ) (ts : List Triple) (kind : Kind) (rs : List SlotView) → named_by g ts kind (over g (marked id rs)) ≡ named_by g ts kind (over g rs)
mark_over g id ts kind [] = refl
mark_over g id ts kind (r ∷ rs) = go (eqb r.id id) (mark_over g id ts kind rs)
  where
    own : (kind : Kind) → named_by g ts kind (Some (record r { invalid = true })) ≡ named_by g ts kind (Some r)
    own Shared = refl
    own Private = refl

    either : (u : Bool) → named_by g ts kind (cond u (Some (record r { invalid = true })) (over g rs)) ≡ named_by g ts kind (cond u (Some r) (over g rs))
    either true = own kind
    either false = refl

    other : (u : Bool) → named_by g ts kind (over g (marked id rs)) ≡ named_by g ts kind (over g rs) → named_by g ts kind (cond u (Some r) (over g (marked id rs))) ≡ named_by g ts kind (cond u (Some r) (over g rs))
    other true ih = refl
    other false ih = ih

    go : (t : Bool) → named_by g ts kind (over g (marked id rs)) ≡ named_by g ts kind (over g rs) → named_by g ts kind (over g (cond t (record r { invalid = true } ∷ rs) (r ∷ marked id rs))) ≡ named_by g ts kind (cond (lies_over r g) (Some r) (over g rs))
    go true ih = either (lies_over r g)
    go false ih = other (lies_over r g) ih

pub aside_keep : (effect : Effect) (f : Flat) (g : ℕ) → is_on effect f g ≡ false → named_aside (apply effect f) g ≡ named_aside f g
aside_keep (Mark id) f g h = mark_over g id f.cache (attr_of g f.attrs) f.slots
aside_keep (Slot slot base pages user flags file index) f g h = keep_with (λ o. o) passes_all (Slot slot base pages user flags file index) f g h (slot_keep (Slot slot base pages user flags file index) f g h)
aside_keep (NoSlot slot) f g h = keep_with (λ o. o) passes_all (NoSlot slot) f g h (slot_keep (NoSlot slot) f g h)
aside_keep (Move slot base) f g h = keep_with (λ o. o) passes_all (Move slot base) f g h (slot_keep (Move slot base) f g h)
aside_keep (Attr span kind) f g h = keep_with (λ o. o) passes_all (Attr span kind) f g h (slot_keep (Attr span kind) f g h)
aside_keep (Cut file lo hi) f g h = keep_with (λ o. o) passes_all (Cut file lo hi) f g h (slot_keep (Cut file lo hi) f g h)
aside_keep (Shut file) f g h = keep_with (λ o. o) passes_all (Shut file) f g h (slot_keep (Shut file) f g h)
aside_keep _ f g h = refl

-- what is named is named with marks left aside
left_in : (g : ℕ) (ts : List Triple) (kind : Kind) (o : Option SlotView) (m : Named) → named_by g ts kind (unmarked o) ≡ Some m → named_by g ts kind o ≡ Some m
left_in g ts kind None m e = e
left_in g ts kind (Some r) m e = by_mark r.invalid kind e
  where
    none : (kind : Kind) → named_by g ts kind None ≡ Some m → ⊥
    none Shared e = none_is m e
    none Private e = none_is m e

    by_mark : (t : Bool) (kind : Kind) → named_by g ts kind (cond t None (Some r)) ≡ Some m → named_by g ts kind (Some r) ≡ Some m
    by_mark true kind e = absurd (none kind e)
    by_mark false kind e = e

pub named_is_aside : (f : Flat) (g : ℕ) (m : Named) → named f g ≡ Some m → named_aside f g ≡ Some m
named_is_aside f g m e = left_in g f.cache (attr_of g f.attrs) (over g f.slots) m e

-- more folios
run_step : (t : Bool) (K j F i k : ℕ) (fo new : Folio) (ts rest : List Triple) → (eqb F K && eqb (i + k) j) ≡ t → ((x : ℕ) → i ≤ x → x < i + suc k → cached F x ts ≡ None) → cached K j ts ≡ Some fo → cached K j rest ≡ Some fo → cond t (Some new) (cached K j rest) ≡ Some fo
run_step true K j F i k fo new ts rest e free h ih = absurd (taken K j F i k fo ts e free h)
  where
    taken : (K j F i k : ℕ) (fo : Folio) (ts : List Triple) → (eqb F K && eqb (i + k) j) ≡ true → ((x : ℕ) → i ≤ x → x < i + suc k → cached F x ts ≡ None) → cached K j ts ≡ Some fo → ⊥
    taken K j F i k fo ts e free h =
        let x = and_parts (eqb F K) (eqb (i + k) j) e in
        let a : F ≡ K = eqb-true F K x.0 in
        let b : i + k ≡ j = eqb-true (i + k) j x.1 in
        let c : cached F (i + k) ts ≡ None = free (i + k) (omega arith) (omega arith) in
        cc
run_step false K j F i k fo new ts rest e free h ih = ih

-- a run of which nothing is cached leaves what is cached
pub cached-with_run : (n K j F i s r : ℕ) (fo : Folio) (ts : List Triple) → ((x : ℕ) → i ≤ x → x < i + n → cached F x ts ≡ None) → cached K j ts ≡ Some fo → cached K j (with_run n F i s r ts) ≡ Some fo
cached-with_run zero K j F i s r fo ts free h = h
cached-with_run (suc k) K j F i s r fo ts free h =
    run_step (eqb F K && eqb (i + k) j) K j F i k fo (record { serial = s + k; frame = r + k }) ts (with_run k F i s r ts) refl free h
    (cached-with_run k K j F i s r fo ts (λ x a b. free x a (omega arith)) h)

hit_step : (t : Bool) (F i k m : ℕ) (new old : Folio) (rest : Option Folio) → (eqb F F && eqb (i + k) (i + m)) ≡ t → (k ≡ m → new ≡ old) → ((k ≡ m → ⊥) → rest ≡ Some old) → cond t (Some new) rest ≡ Some old
hit_step true F i k m new old rest e f g = ap (λ (x : Folio). Some x) (f (hit F i k m e))
  where
    hit : (F i k m : ℕ) → (eqb F F && eqb (i + k) (i + m)) ≡ true → k ≡ m
    hit F i k m e = grind (arith, nat_tests)
hit_step false F i k m new old rest e f g = g (miss F i k m e)
  where
    miss : (F i k m : ℕ) → (eqb F F && eqb (i + k) (i + m)) ≡ false → k ≡ m → ⊥
    miss F i k m e h = grind (arith, nat_tests)

-- what a run caches
pub with_run_at : (n m F i s r : ℕ) (ts : List Triple) → m < n → cached F (i + m) (with_run n F i s r ts) ≡ Some (record { serial = s + m; frame = r + m })
with_run_at zero m F i s r ts h = absurd (omega arith)
with_run_at (suc k) m F i s r ts h =
    hit_step (eqb F F && eqb (i + k) (i + m)) F i k m (record { serial = s + k; frame = r + k }) (record { serial = s + m; frame = r + m }) (cached F (i + m) (with_run k F i s r ts)) refl
    (λ e. ap (λ (x : ℕ). folio_at s r x) e)
    (λ ne. with_run_at k m F i s r ts (less ne h))
  where
    folio_at : ℕ → ℕ → ℕ → Folio
    folio_at s r x = record { serial = s + x; frame = r + x }

    less : {k m : ℕ} → (k ≡ m → ⊥) → m < suc k → m < k
    less ne h = omega arith

-- what is named stays where the cache only grows
grow_file : (i : ℕ) (ts us : List Triple) (o : Option ℕ) (m : Named) → ((F j : ℕ) (fo : Folio) → cached F j ts ≡ Some fo → cached F j us ≡ Some fo) → file_named i ts o ≡ Some m → file_named i us o ≡ Some m
grow_file i ts us None m f h = h
grow_file i ts us (Some F) m f h = grow_folio F i us (cached F i ts) m (f F i) h
  where
    grow_folio : (F i : ℕ) (us : List Triple) (o : Option Folio) (m : Named) → ((fo : Folio) → o ≡ Some fo → cached F i us ≡ Some fo) → folio_named o ≡ Some m → folio_named (cached F i us) ≡ Some m
    grow_folio F i us None m f h = absurd (nothing m h)
      where
        nothing : (m : Named) → None ≡ Some m → ⊥
        nothing m e = cc
    grow_folio F i us (Some fo) m f h = ap folio_named (f fo refl) ∙ h

grow_by : (g : ℕ) (ts us : List Triple) (kind : Kind) (row : Option SlotView) (m : Named) → ((F j : ℕ) (fo : Folio) → cached F j ts ≡ Some fo → cached F j us ≡ Some fo) → named_by g ts kind row ≡ Some m → named_by g us kind row ≡ Some m
grow_by g ts us Shared row m f h = h
grow_by g ts us Private None m f h = h
grow_by g ts us Private (Some r) m f h = grow_file (index_of r g) ts us r.file m f h

pub named_grow : (U : Option SlotView → Option SlotView) (f : Flat) (us : List Triple) (g : ℕ) (m : Named) → ((F j : ℕ) (fo : Folio) → cached F j f.cache ≡ Some fo → cached F j us ≡ Some fo) → named_with U f g ≡ Some m → named_with U (record f { cache = us }) g ≡ Some m
named_grow U f us g m h e = grow_by g f.cache us (attr_of g f.attrs) (U (over g f.slots)) m h e

-- the kind of what is named is the page's attribute
file_kind : (i : ℕ) (ts : List Triple) (o : Option ℕ) (m : Named) → file_named i ts o ≡ Some m → m.kind ≡ Private
file_kind i ts None m e = absurd (none_is m e)
file_kind i ts (Some F) m e = folio_kind (cached F i ts) m e
  where
    kind_same : (fo : Folio) (m : Named) → Some (record { kind = Private; backing = InFolio fo; writable = true }) ≡ Some m → m.kind ≡ Private
    kind_same fo m e = ap (λ (x : Named). x.kind) (sym (some_same (record { kind = Private; backing = InFolio fo; writable = true }) m e))

    folio_kind : (o : Option Folio) (m : Named) → folio_named o ≡ Some m → m.kind ≡ Private
    folio_kind None m e = absurd (none_is m e)
    folio_kind (Some fo) m e = kind_same fo m e

kind_by : (g : ℕ) (ts : List Triple) (kind : Kind) (row : Option SlotView) (m : Named) → named_by g ts kind row ≡ Some m → m.kind ≡ kind
kind_by g ts Shared None m e = absurd (none_is m e)
kind_by g ts Shared (Some r) m e = ap (λ (x : Named). x.kind) (sym (some_same _ m e))
kind_by g ts Private None m e = absurd (none_is m e)
kind_by g ts Private (Some r) m e = file_kind (index_of r g) ts r.file m e

pub named_kind : (f : Flat) (g : ℕ) (m : Named) → named f g ≡ Some m → m.kind ≡ attr_of g f.attrs
named_kind f g m e = kind_by g f.cache (attr_of g f.attrs) (unmarked (over g f.slots)) m e
