-- What a Get and a Page add: a run of which nothing was cached.
use Rattle.std.proofs.Common.{◌%◌, ◌&&◌, ◌+◌, ◌-◌, ◌<◌, List, None, Option, Some, ap, arith, eqb, inl, inr, leb, leb-true, refl, subst, sym, ℕ, ◌∙◌, ◌≡◌, ◌≤◌, ◌||◌}
use Rattle.std.proofs.lemmas.Bool.{and_parts}
use Rattle.gm_base.specs.Aim.{Aim}
use Rattle.gm_base.specs.declared.values.Folio.{Folio}
use Rattle.gm_base.specs.declared.values.Setup.{Setup}
use Rattle.gm_flat.specs.Calls.{Bracketed, PagePlan, Paged, Plan, Reads, Refused, Same, Short}
use Rattle.gm_flat.specs.Effects.{Addition, Source, add, addition_fits, fresh_run, get_addition, if_fits, page_addition, source, with_run}
use Rattle.gm_flat.specs.FlatState.{FileState, Flat, Triple, cached}
use Rattle.gm_flat.specs.Histories.{Call, Fault, Faulting, NoFault, Seen}
use Rattle.gm_flat.specs.NamedPage.{Named}
use Rattle.gm_flat.specs.Replay.{adds, flat, flat_at, get_adds, index_in, looked_slot, page_adds, states}
use Rattle.gm_flat.specs.RightCalls.{IsPage, IsPageOf, RightPage}
use Rattle.gm_flat.specs.RightInstall.{CachedOrNew, FileGet, GetBy, RightGet, UserGet}
use Rattle.gm_flat.specs.RightLives.{GetAdds, PageAdds, PageAddsBy, RightGetAdds, RightPageAdds, UsesFirst, first_of_run, plan_of}
use Rattle.gm_flat.specs.RightLook.{Route, ToAgain, ToFault, ToFile, ToMmio, ToUser, route_seen}
use Rattle.gm_flat.specs.RightOrder.{IsLooked}
use Rattle.gm_flat.specs.declared.effect.Backing.{Backing}
use Rattle.gm_flat.specs.declared.effect.Backing.TheVariants.{Folio as InFolio, User}
use Rattle.gm_flat.specs.declared.entry.Entry.{Entry}
use Rattle.gm_flat.specs.declared.views.SlotView.{SlotView}
use Rattle.gm_laws.proofs.Flats.{cached-with_run, named_grow, named_with, with_run_at}
use Rattle.gm_laws.proofs.Kit.{cond_is, none_is, some_same}

-- nothing of what is added was cached
abbrev pub IsRunFree : Option Addition → Flat → Type 0
IsRunFree None f = Unit {0}
IsRunFree (Some d) f = (j : ℕ) → d.index ≤ j → j < d.index + d.pages → cached d.file j f.cache ≡ None

-- what is named stays named
pub add_names : (U : Option SlotView → Option SlotView) (o : Option Addition) (f : Flat) (g : ℕ) (m : Named) → IsRunFree o f → named_with U f g ≡ Some m → named_with U (add o f) g ≡ Some m
add_names U None f g m free h = h
add_names U (Some d) f g m free h = named_grow U f (with_run d.pages d.file d.index d.serial d.frame f.cache) g m (λ K j fo e. cached-with_run d.pages K j d.file d.index d.serial d.frame fo f.cache free e) h

pub add_cached : (o : Option Addition) (f : Flat) (K j : ℕ) (fo : Folio) → IsRunFree o f → cached K j f.cache ≡ Some fo → cached K j (add o f).cache ≡ Some fo
add_cached None f K j fo free h = h
add_cached (Some d) f K j fo free h = cached-with_run d.pages K j d.file d.index d.serial d.frame fo f.cache free h

-- slots, attributes and files stay
abbrev pub Looks : Flat → Flat → Type 0
Looks f g = (f.slots ≡ g.slots) × (f.attrs ≡ g.attrs) × (f.files ≡ g.files)

pub add_look : (o : Option Addition) (f : Flat) → Looks (add o f) f
add_look None f = (refl, refl, refl)
add_look (Some d) f = (refl, refl, refl)

-- what a Get adds
pub record Made (fo : Folio) (fresh F i : ℕ) (d : Addition) : Type 0 where
  pub file_is : d.file ≡ F
  pub index_is : d.index ≡ i - i % fresh
  pub serial_is : d.serial ≡ fo.serial - i % fresh
  pub frame_is : d.frame ≡ fo.frame - i % fresh
  pub pages_is : d.pages ≡ fresh
  pub serial_le : i % fresh ≤ fo.serial
  pub frame_le : i % fresh ≤ fo.frame

abbrev run_of : Folio → ℕ → ℕ → ℕ → Addition
run_of fo fresh F i = record { file = F; index = i - i % fresh; serial = fo.serial - i % fresh; frame = fo.frame - i % fresh; pages = fresh; copy = None }

if_fits-some : (x d : Addition) (files : List FileState) → if_fits x files ≡ Some d → x ≡ d
if_fits-some x d files e = elim (cond_is (addition_fits x files) (Some x) None (Some d) e) [ inl y ↦ some_same x d y.1 | inr y ↦ absurd (none_is d y.1) ]

made_run : (fo : Folio) (fresh F i : ℕ) (d : Addition) → i % fresh ≤ fo.serial → i % fresh ≤ fo.frame → run_of fo fresh F i ≡ d → Made fo fresh F i d
made_run fo fresh F i d h k e =
    record {
      file_is = ap (λ (x : Addition). x.file) (sym e);
      index_is = ap (λ (x : Addition). x.index) (sym e);
      serial_is = ap (λ (x : Addition). x.serial) (sym e);
      frame_is = ap (λ (x : Addition). x.frame) (sym e);
      pages_is = ap (λ (x : Addition). x.pages) (sym e);
      serial_le = h;
      frame_le = k;
    }

fresh_run-made : (fo : Folio) (fresh F i : ℕ) (files : List FileState) (d : Addition) → fresh_run fo fresh F i files ≡ Some d → Made fo fresh F i d
fresh_run-made fo fresh F i files d e =
    elim (cond_is (leb (i % fresh) fo.serial && leb (i % fresh) fo.frame) (if_fits (run_of fo fresh F i) files) None (Some d) e) [
      | inl y ↦
          let p = and_parts (leb (i % fresh) fo.serial) (leb (i % fresh) fo.frame) y.0 in
          made_run fo fresh F i d (leb-true (i % fresh) fo.serial p.0) (leb-true (i % fresh) fo.frame p.1) (if_fits-some (run_of fo fresh F i) d files y.1)
      | inr y ↦ absurd (none_is d y.1)
    ]

pub get_made : (fo : Folio) (fresh F i : ℕ) (files : List FileState) (d : Addition) → get_addition (InFolio fo) fresh (Some F) (Some i) files ≡ Some d → Made fo fresh F i d
get_made fo fresh F i files d e =
    elim (cond_is (eqb fresh 1 || eqb fresh 512) (fresh_run fo fresh F i files) None (Some d) e) [
      | inl y ↦ fresh_run-made fo fresh F i files d y.1
      | inr y ↦ absurd (none_is d y.1)
    ]

pub none_fresh : (b : Backing) (F I : Option ℕ) (files : List FileState) → get_addition b 0 F I files ≡ None
none_fresh (User u) F I files = refl
none_fresh (InFolio fo) None I files = refl
none_fresh (InFolio fo) (Some F) None files = refl
none_fresh (InFolio fo) (Some F) (Some i) files = refl

-- a first use adds a free run
block_index : (i j n first : ℕ) → first ≡ i → first ≤ j → j < first + n → i + (j - i) ≡ j
block_index i j n first e h k = omega arith

block_in : (i j n m first : ℕ) → first ≡ i → n ≡ m → first ≤ j → j < first + n → j - i < m
block_in i j n m first e f h k = omega arith

one_index : (i j n first : ℕ) → first ≡ i → n ≡ 1 → first ≤ j → j < first + n → i ≡ j
one_index i j n first e f h k = omega arith

pub uses_free : (frames i : ℕ) (d : Addition) (f : Flat) → UsesFirst frames i d f → cached d.file i f.cache ≡ None → IsRunFree (Some d) f
uses_free frames i d f (inl x) c j h k =
    subst (λ (y : ℕ). cached d.file y f.cache ≡ None) (block_index (first_of_run i) j d.pages d.index x.index_is h k)
    (x.takes.none_cached (j - first_of_run i) (block_in (first_of_run i) j d.pages 512 d.index x.index_is x.pages h k))
uses_free frames i d f (inr x) c j h k = subst (λ (y : ℕ). cached d.file y f.cache ≡ None) (one_index i j d.pages d.index x.0.index_is x.0.pages h k) c

-- a Get by a file
abbrev pub FileHas : Backing → Option ℕ → Option ℕ → Flat → Type 0
FileHas (InFolio fo) (Some F) (Some i) f = cached F i f.cache ≡ Some fo
FileHas b F I f = ⊥

run_hit : (n F i : ℕ) (fo : Folio) (ts : List Triple) → 0 < n → i % n ≤ fo.serial → i % n ≤ fo.frame → cached F i (with_run n F (i - i % n) (fo.serial - i % n) (fo.frame - i % n) ts) ≡ Some fo
run_hit n F i fo ts more hs hr =
    let m : ℕ = i % n in
    let hit = with_run_at n (i % n) F (i - i % n) (fo.serial - i % n) (fo.frame - i % n) ts (omega arith) in
    let a : (i - i % n) + i % n ≡ i = omega arith in
    let b : (fo.serial - i % n) + i % n ≡ fo.serial = omega arith in
    let c : (fo.frame - i % n) + i % n ≡ fo.frame = omega arith in
    subst (λ (x : ℕ). cached F x (with_run n F (i - i % n) (fo.serial - i % n) (fo.frame - i % n) ts) ≡ Some fo) a (hit ∙ same_folio (fo.serial - i % n + i % n) (fo.frame - i % n + i % n) fo b c)
  where
    same_folio : (x y : ℕ) (fo : Folio) → x ≡ fo.serial → y ≡ fo.frame → Some (record { serial = x; frame = y }) ≡ Some fo
    same_folio x y fo e f = rw (e, f) refl

made_hit : (fo : Folio) (fresh F i : ℕ) (d : Addition) (ts : List Triple) → 0 < fresh → Made fo fresh F i d → cached F i (with_run d.pages d.file d.index d.serial d.frame ts) ≡ Some fo
made_hit fo fresh F i d ts more m =
    rw (m.pages_is, m.file_is, m.index_is, m.serial_is, m.frame_is) (run_hit fresh F i fo ts more m.serial_le m.frame_le)

new_get : (fo : Folio) (fresh F i frames : ℕ) (f : Flat) (o : Option Addition) → 0 < fresh → cached F i f.cache ≡ None → get_addition (InFolio fo) fresh (Some F) (Some i) f.files ≡ o → GetAdds frames (Some i) o f → IsRunFree o f × FileHas (InFolio fo) (Some F) (Some i) (add o f)
new_get fo fresh F i frames f None more c e adds = absurd adds
new_get fo fresh F i frames f (Some d) more c e adds =
    let m = get_made fo fresh F i f.files d e in
    (uses_free frames i d f adds.1 (ap (λ (K : ℕ). cached K i f.cache) m.file_is ∙ c), made_hit fo fresh F i d f.cache more m)

abbrev GetDone : Backing → ℕ → ℕ → ℕ → Flat → Type 0
GetDone b fresh F i f = IsRunFree (get_addition b fresh (Some F) (Some i) f.files) f × FileHas b (Some F) (Some i) (add (get_addition b fresh (Some F) (Some i) f.files) f)

by_cache : (b : Backing) (fresh F i frames : ℕ) (f : Flat) (c : Option Folio) → cached F i f.cache ≡ c → CachedOrNew b fresh c → (0 < fresh → GetAdds frames (Some i) (get_addition b fresh (Some F) (Some i) f.files) f) → GetDone b fresh F i f
by_cache b fresh F i frames f (Some fo) e g adds =
    subst (λ (x : Backing). GetDone x fresh F i f) (sym g.0) (subst (λ (n : ℕ). GetDone (InFolio fo) n F i f) (sym g.1) (tt, e))
by_cache (User u) fresh F i frames f None e g adds = absurd (adds g)
by_cache (InFolio fo) fresh F i frames f None e g adds = new_get fo fresh F i frames f (get_addition (InFolio fo) fresh (Some F) (Some i) f.files) g e refl (adds g)

pub file_get : (b : Backing) (fresh frames : ℕ) (F I : Option ℕ) (f : Flat) → FileGet b fresh F I f → (0 < fresh → GetAdds frames I (get_addition b fresh F I f.files) f) → IsRunFree (get_addition b fresh F I f.files) f × FileHas b F I (add (get_addition b fresh F I f.files) f)
file_get b fresh frames (Some F) (Some i) f g adds = by_cache b fresh F i frames f (cached F i f.cache) refl g.1 adds
file_get b fresh frames (Some F) None f g adds = absurd g
file_get b fresh frames None I f g adds = absurd g

user_fresh : (b : Backing) (fresh page : ℕ) (o : Option SlotView) → UserGet b fresh page o → fresh ≡ 0
user_fresh b fresh page None g = absurd g
user_fresh b fresh page (Some s) g = g.1

pub user_none : (b : Backing) (fresh page : ℕ) (o : Option SlotView) (F I : Option ℕ) (files : List FileState) → UserGet b fresh page o → get_addition b fresh F I files ≡ None
user_none b fresh page o F I files g = ap (λ (n : ℕ). get_addition b n F I files) (user_fresh b fresh page o g) ∙ none_fresh b F I files

none_free : (o : Option Addition) (f : Flat) → o ≡ None → IsRunFree o f
none_free o f e = subst (λ (x : Option Addition). IsRunFree x f) (sym e) tt

route_free : (r : Route) (b : Backing) (fresh frames : ℕ) (a : Aim) (l : Seen) (past : List Entry) → GetBy r b fresh a l past → (0 < fresh → GetAdds frames (index_in a.page (looked_slot l past)) (get_addition b fresh l.file (index_in a.page (looked_slot l past)) (flat past).files) (flat past)) → IsRunFree (get_addition b fresh l.file (index_in a.page (looked_slot l past)) (flat past).files) (flat past)
route_free ToUser b fresh frames a l past g adds = none_free (get_addition b fresh l.file (index_in a.page (looked_slot l past)) (flat past).files) (flat past) (user_none b fresh a.page (looked_slot l past) l.file (index_in a.page (looked_slot l past)) (flat past).files g)
route_free ToFile b fresh frames a l past g adds = (file_get b fresh frames l.file (index_in a.page (looked_slot l past)) (flat past) g adds).0
route_free ToAgain b fresh frames a l past g adds = absurd g
route_free ToFault b fresh frames a l past g adds = absurd g
route_free ToMmio b fresh frames a l past g adds = absurd g

pub get_free : (b : Backing) (fresh frames : ℕ) (x : Fault) (past : List Entry) → IsLooked x → RightGet b fresh past x → RightGetAdds frames fresh x (get_adds b fresh x (states past)) past → IsRunFree (get_adds b fresh x (states past)) (flat past)
get_free b fresh frames (Faulting a m (Some s) (Some l) None) past i g adds = route_free (route_seen a l past) b fresh frames a l past g adds
get_free b fresh frames (Faulting a m (Some s) (Some l) (Some q)) past i g adds = absurd i
get_free b fresh frames (Faulting a m (Some s) None q) past i g adds = absurd i
get_free b fresh frames (Faulting a m None l q) past i g adds = absurd i
get_free b fresh frames NoFault past i g adds = absurd i

-- a page of an allocation or a population
page_made : (i : ℕ) (fo : Folio) (n : ℕ) (o : Option Source) (files : List FileState) (d : Addition) → page_addition i fo n o files ≡ Some d → d.index ≡ i
page_made i fo n None files d e = absurd (none_is d e)
page_made i fo n (Some s) files d e = ap (λ (x : Addition). x.index) (sym (if_fits-some (record { file = s.file; index = i; serial = fo.serial; frame = fo.frame; pages = n; copy = s.copy }) d files e))

page_run : (frames i pages : ℕ) (p : PagePlan) (base : Option ℕ) (d : Addition) (f : Flat) → d.index ≡ i → d.file ≡ p.file → IsPageOf p base i pages f → PageAddsBy frames p base d f → IsRunFree (Some d) f
page_run frames i pages p None d f e k page adds = uses_free frames page.0 d f (adds page.0 page.1) (ap (λ (K : ℕ). cached K page.0 f.cache) k ∙ page.1.open_here)
page_run frames i pages p (Some base) d f e k page adds = λ j h q.
    subst (λ (y : ℕ). cached d.file y f.cache ≡ None) (one_index d.index j d.pages d.index refl adds.pages h q) (ap (λ (x : ℕ). cached d.file x f.cache) e ∙ (ap (λ (K : ℕ). cached K i f.cache) k ∙ page.open_here))

page_by : (frames i : ℕ) (x : Call) (fo : Folio) (n : ℕ) (plan : Plan) (o : Option Source) (a : Option Addition) (f : Flat) → page_addition i fo n o f.files ≡ a → IsPage i x plan f → PageAdds frames plan a f → IsRunFree a f
page_by frames i x fo n (Paged p) o (Some d) f e page adds = page_run frames i x.pages p p.base d f (page_made i fo n o f.files d e) adds.0 page adds.2
page_by frames i x fo n (Paged p) o None f e page adds = absurd adds
page_by frames i x fo n (Refused r) o a f e page adds = absurd page
page_by frames i x fo n (Same r) o a f e page adds = absurd page
page_by frames i x fo n (Reads p w) o a f e page adds = absurd page
page_by frames i x fo n (Short r w) o a f e page adds = absurd page
page_by frames i x fo n (Bracketed r w) o a f e page adds = absurd page

pub page_free : (s : Setup) (i : ℕ) (fo : Folio) (n : ℕ) (o : Option Call) (past : List Entry) → RightPage s i o past → RightPageAdds s o (page_adds i fo n o (states past)) past → IsRunFree (page_adds i fo n o (states past)) (flat past)
page_free s i fo n None past page adds = absurd page
page_free s i fo n (Some x) past page adds = page_by s.frames i x fo n (plan_of s x past) (source x.ioctl i (flat_at x.judged past).slots) (page_adds i fo n (Some x) (states past)) (flat past) refl page adds
