-- A Get that adds what it gets.
use Rattle.std.proofs.Common.{◌≡◌, ℕ, ◌+◌, ◌-◌, ◌%◌, ◌<◌, ◌≤◌, ◌||◌, ◌&&◌, ◌⊎◌, inl, inr, List, [], ◌∷◌, Bool, true, false, Option, Some, None, arith, subst, sym, ◌∙◌, ap, refl, cond, eqb, leb}
use Rattle.std.proofs.lemmas.Bool.Decides.{nat_tests}
use Rattle.gm_base.specs.Scripts.{Orders}
use Rattle.gm_base.specs.declared.numbers.TheConstants.{BLOCK_PAGES, PAGE_LIMIT}
use Rattle.gm_base.specs.declared.values.Actor.TheVariants.{Vcpu as OfVcpu}
use Rattle.gm_base.specs.declared.values.Folio.{Folio}
use Rattle.gm_base.specs.declared.values.Setup.{Setup}
use Rattle.gm_fault.specs.Routes.{route_of}
use Rattle.gm_fault.specs.declared.routes.Route.TheVariants.{File}
use Rattle.gm_fault.specs.declared.ticket.Ticket.{Ticket}
use Rattle.gm_flat.specs.Effects.{Addition, U32_LIMIT, U64_LIMIT, addition_fits, fresh_run, get_addition, if_fits}
use Rattle.gm_flat.specs.FlatState.{FileState, Flat, in_use, was_made}
use Rattle.gm_flat.specs.Histories.{Fault, fault}
use Rattle.gm_flat.specs.Replay.{added_by, flat, get_adds, index_in, looked_slot, states}
use Rattle.gm_flat.specs.RightInstall.{CachedOrNew, GetBy, RightGet}
use Rattle.gm_flat.specs.RightLives.{GetAdds, IsNext, UsesFirst, first_of_run, looked_index}
use Rattle.gm_flat.specs.RightLook.{Route as To}
use Rattle.gm_flat.specs.RightOrder.{IsLooked}
use Rattle.gm_flat.specs.declared.effect.Backing.TheVariants.{Folio as InFolio}
use Rattle.gm_flat.specs.declared.entry.Entry.{Entry}
use Rattle.gm_flat.specs.declared.entry.What.TheVariants.{Get}
use Rattle.gm_flat.specs.declared.views.Looked.{Looked}
use Rattle.gm_flat.specs.declared.views.Sampled.{Sampled}
use Rattle.gm_laws.specs.May.{May}
use Rattle.gm_vcpus.proofs.Allowed.{AtLook, file_get_as, flying}
use Rattle.gm_vcpus.proofs.Routing.{file_right}
use Rattle.gm_vcpus.specs.Adds.{AddsByFault}
use Rattle.gm_vcpus.specs.declared.vcpu.Vcpu.{Vcpu}

-- a file in use was made
used_made : (file : ℕ) (files : List FileState) → in_use file files ≡ true → was_made file files ≡ true
used_made file [] h = absurd (cc)
used_made file (f ∷ files) h = step (eqb f.number file) f.used (in_use file files) (was_made file files) (used_made file files) h
  where
    step : (t u i m : Bool) → (i ≡ true → m ≡ true) → cond t u i ≡ true → (t || m) ≡ true
    step true u i m f h = refl
    step false u i m f h = f h

abbrev addition : ℕ → ℕ → ℕ → ℕ → ℕ → Option ℕ → Addition
addition file index serial frame pages copy = record { file = file; index = index; serial = serial; frame = frame; pages = pages; copy = copy }

same_addition : (d : Addition) (file index serial frame pages : ℕ) → file ≡ d.file → index ≡ d.index → serial ≡ d.serial → frame ≡ d.frame → pages ≡ d.pages → None ≡ d.copy → addition file index serial frame pages None ≡ d
same_addition d file index serial frame pages a b c e f g =
    ap (λ (x : ℕ). addition x index serial frame pages None) a ∙
    (ap (λ (x : ℕ). addition d.file x serial frame pages None) b ∙
    (ap (λ (x : ℕ). addition d.file d.index x frame pages None) c ∙
    (ap (λ (x : ℕ). addition d.file d.index d.serial x pages None) e ∙
    (ap (λ (x : ℕ). addition d.file d.index d.serial d.frame x None) f ∙
    ap (λ (x : Option ℕ). addition d.file d.index d.serial d.frame d.pages x) g))))

-- the run that a Get of one of its folios adds
pub record IsRunOf (folio : Folio) (fresh file index : ℕ) (d : Addition) : Type 0 where
  pub file_is : d.file ≡ file
  pub index_is : d.index + index % fresh ≡ index
  pub serial_is : folio.serial ≡ d.serial + index % fresh
  pub frame_is : folio.frame ≡ d.frame + index % fresh
  pub pages_is : d.pages ≡ fresh
  pub copy_is : d.copy ≡ None

if_fits_is : (d : Addition) (files : List FileState) → addition_fits d files ≡ true → if_fits d files ≡ Some d
if_fits_is d files h = rw h refl

run_is : (folio : Folio) (fresh file index : ℕ) (d : Addition) (files : List FileState) → IsRunOf folio fresh file index d → addition_fits d files ≡ true → fresh_run folio fresh file index files ≡ Some d
run_is folio fresh file index d files h fits =
    let r : ℕ = index % fresh in
    let a : index - r ≡ d.index = minus d.index r index h.index_is in
    let b : folio.serial - r ≡ d.serial = minus_from d.serial r folio.serial h.serial_is in
    let c : folio.frame - r ≡ d.frame = minus_from d.frame r folio.frame h.frame_is in
    when (leb r folio.serial && leb r folio.frame) (if_fits (addition file (index - r) (folio.serial - r) (folio.frame - r) fresh None) files) (Some d) (both r d.serial d.frame folio.serial folio.frame h.serial_is h.frame_is)
    (ap (λ (x : Addition). if_fits x files) (same_addition d file (index - r) (folio.serial - r) (folio.frame - r) fresh (sym h.file_is) a b c (sym h.pages_is) (sym h.copy_is)) ∙ if_fits_is d files fits)
  where
    minus : (a r b : ℕ) → a + r ≡ b → b - r ≡ a
    minus a r b h = omega arith

    minus_from : (a r b : ℕ) → b ≡ a + r → b - r ≡ a
    minus_from a r b h = omega arith

    both : (r a b x y : ℕ) → x ≡ a + r → y ≡ b + r → (leb r x && leb r y) ≡ true
    both r a b x y h k = grind (arith, nat_tests)

    when : (t : Bool) (x y : Option Addition) → t ≡ true → x ≡ y → cond t x None ≡ y
    when true x y e h = h
    when false x y e h = absurd (cc)

one_or_block : (fresh : ℕ) → (fresh ≡ 1) ⊎ (fresh ≡ BLOCK_PAGES) → (eqb fresh 1 || eqb fresh BLOCK_PAGES) ≡ true
one_or_block fresh (inl e) = grind (arith, nat_tests)
one_or_block fresh (inr e) = grind (arith, nat_tests)

get_is : (folio : Folio) (fresh file index : ℕ) (F I : Option ℕ) (d : Addition) (files : List FileState) → F ≡ Some file → I ≡ Some index → (fresh ≡ 1) ⊎ (fresh ≡ BLOCK_PAGES) → IsRunOf folio fresh file index d → addition_fits d files ≡ true → get_addition (InFolio folio) fresh F I files ≡ Some d
get_is folio fresh file index F I d files e i size h fits =
    ap (λ (x : Option ℕ). get_addition (InFolio folio) fresh x I files) e ∙
    (ap (λ (x : Option ℕ). get_addition (InFolio folio) fresh (Some file) x files) i ∙
    (ap (λ (t : Bool). cond t (fresh_run folio fresh file index files) None) (one_or_block fresh size) ∙
    run_is folio fresh file index d files h fits))

-- by a first use it is one page or a block
sizes : (frames index : ℕ) (d : Addition) (f : Flat) → UsesFirst frames index d f → ((d.pages ≡ 1) × (d.index ≡ index)) ⊎ ((d.pages ≡ BLOCK_PAGES) × (d.index ≡ first_of_run index))
sizes frames index d f (inl b) = inr (b.pages, b.index_is)
sizes frames index d f (inr o) = inl (o.0.pages, o.0.index_is)

ends_below : (frames index : ℕ) (d : Addition) (f : Flat) → UsesFirst frames index d f → d.frame + d.pages ≤ frames
ends_below frames index d f (inl b) =
    let p = b.pages in
    let l = b.frame.block.below in
    omega arith
ends_below frames index d f (inr o) =
    let p = o.0.pages in
    let l = o.0.frame.below in
    omega arith

run_of : (frames file index : ℕ) (folio : Folio) (d : Addition) (f : Flat) → AddsByFault frames file index folio d f → IsRunOf folio d.pages file index d
run_of frames file index folio d f h = by_size d.pages refl (sizes frames index d f h.uses)
  where
    one : (a index s t : ℕ) → a ≡ index → s ≡ t + (index - a) → s ≡ t + index % 1
    one a index s t e h = omega arith

    block : (a index s t : ℕ) → a ≡ index - index % 512 → s ≡ t + (index - a) → s ≡ t + index % 512
    block a index s t e h = omega arith

    starts_one : (a index : ℕ) → a ≡ index → a + index % 1 ≡ index
    starts_one a index e = omega arith

    starts_block : (a index : ℕ) → a ≡ index - index % 512 → a + index % 512 ≡ index
    starts_block a index e = omega arith

    by_size : (n : ℕ) → d.pages ≡ n → ((n ≡ 1) × (d.index ≡ index)) ⊎ ((n ≡ BLOCK_PAGES) × (d.index ≡ first_of_run index)) → IsRunOf folio n file index d
    by_size n e (inl h1) =
        subst (λ (m : ℕ). IsRunOf folio m file index d) (sym h1.0)
        (record { file_is = h.file_is; index_is = starts_one d.index index h1.1; serial_is = one d.index index folio.serial d.serial h1.1 h.serial_is; frame_is = one d.index index folio.frame d.frame h1.1 h.frame_is; pages_is = e ∙ h1.0; copy_is = h.copy_is })
    by_size n e (inr hb) =
        subst (λ (m : ℕ). IsRunOf folio m file index d) (sym hb.0)
        (record { file_is = h.file_is; index_is = starts_block d.index index hb.1; serial_is = block d.index index folio.serial d.serial hb.1 h.serial_is; frame_is = block d.index index folio.frame d.frame hb.1 h.frame_is; pages_is = e ∙ hb.0; copy_is = h.copy_is })

size_of : (frames index : ℕ) (d : Addition) (f : Flat) → UsesFirst frames index d f → (d.pages ≡ 1) ⊎ (d.pages ≡ BLOCK_PAGES)
size_of frames index d f (inl b) = inr b.pages
size_of frames index d f (inr o) = inl o.0.pages

first_le : (frames index : ℕ) (d : Addition) (f : Flat) → UsesFirst frames index d f → (d.index ≤ index) × (d.pages ≤ 512) × (0 < d.pages)
first_le frames index d f (inl b) =
    let p = b.pages in
    let i = b.index_is in
    (omega arith, omega arith, omega arith)
first_le frames index d f (inr o) =
    let p = o.0.pages in
    let i = o.0.index_is in
    (omega arith, omega arith, omega arith)

fits_is : (frames file index : ℕ) (folio : Folio) (d : Addition) (f : Flat) → AddsByFault frames file index folio d f → index < PAGE_LIMIT → addition_fits d f.files ≡ true
fits_is frames file index folio d f h small =
    let l = first_le frames index d f h.uses in
    all (was_made d.file f.files) d.index d.serial d.frame d.pages index frames
    (subst (λ (n : ℕ). was_made n f.files ≡ true) (sym h.file_is) (used_made file f.files h.used))
    l.0 l.1 small h.serials_fit (ends_below frames index d f h.uses) h.frames_fit
  where
    all : (t : Bool) (i s fr p index frames : ℕ) → t ≡ true → i ≤ index → p ≤ 512 → index < PAGE_LIMIT → s + p ≤ U64_LIMIT → fr + p ≤ frames → frames ≤ U32_LIMIT → (t && (leb (i + p) U64_LIMIT && (leb (s + p) U64_LIMIT && leb (fr + p) U32_LIMIT))) ≡ true
    all t i s fr p index frames e a b c g k l = grind (arith, nat_tests)

-- what the entry adds
pub get_added : (s : Setup) (vs : List Vcpu) (past : List Entry) (v : ℕ) (k : Ticket) (x : Sampled) (y : Looked) (frames file index : ℕ) (folio : Folio) (d : Addition) → AtLook s vs past v k x y → route_of y k.access ≡ File file index → AddsByFault frames file index folio d (flat past) → added_by (Get (InFolio folio) d.pages) (OfVcpu v) past ≡ Some d
get_added s vs past v k x y frames file index folio d h r n =
    let f = flying s vs past v k x y h in
    let g = file_right s.user f.sample file index y k.access f.seen past f.look_is r in
    ap (λ (z : Fault). get_adds (InFolio folio) d.pages z (states past)) f.fault_is ∙
    get_is folio d.pages file index f.seen.file (index_in k.access.page (looked_slot f.seen past)) d (flat past).files g.file_is g.index_is (size_of frames index d (flat past) n.uses)
    (run_of frames file index folio d (flat past) n) (fits_is frames file index folio d (flat past) n g.small)

get_adds_as : (frames index : ℕ) (I : Option ℕ) (D : Option Addition) (d : Addition) (f : Flat) → I ≡ Some index → D ≡ Some d → IsNext d f → UsesFirst frames index d f → GetAdds frames I D f
get_adds_as frames index I D d f e g n u = rw (e, g) (n, u)

-- a Get by an addition may come
pub may_get_new : (o : Orders) (s : Setup) (vs : List Vcpu) (past : List Entry) (v : ℕ) (k : Ticket) (x : Sampled) (y : Looked) (file index : ℕ) (folio : Folio) (d : Addition) → AtLook s vs past v k x y → route_of y k.access ≡ File file index → AddsByFault o.setup.frames file index folio d (flat past) → May o (Get (InFolio folio) d.pages) (OfVcpu v) past
may_get_new o s vs past v k x y file index folio d h r n =
    let f = flying s vs past v k x y h in
    let g = file_right s.user f.sample file index y k.access f.seen past f.look_is r in
    let m : IsLooked (fault v past) × RightGet (InFolio folio) d.pages past (fault v past) =
    subst (λ (z : Fault). IsLooked z × RightGet (InFolio folio) d.pages past z) (sym f.fault_is) (
      tt,
      subst (λ (to : To). GetBy to (InFolio folio) d.pages k.access f.seen past) (sym g.right_route)
          (file_get_as (InFolio folio) d.pages f.seen.file (index_in k.access.page (looked_slot f.seen past)) file index (flat past) g.file_is g.index_is n.used
          (subst (λ (c : Option Folio). CachedOrNew (InFolio folio) d.pages c) (sym n.not_cached) (first_le o.setup.frames index d (flat past) n.uses).2)),
    ) in (
      m.0,
      m.1,
      (λ some. get_adds_as o.setup.frames index (looked_index (fault v past) past) (added_by (Get (InFolio folio) d.pages) (OfVcpu v) past) d (flat past)
          (ap (λ (z : Fault). looked_index z past) f.fault_is ∙ g.index_is) (get_added s vs past v k x y o.setup.frames file index folio d h r n) n.next n.uses),
    )
