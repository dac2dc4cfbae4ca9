-- In a right history a line gives each serial that it adds the frame of its folio, and a serial that was added has the frame
-- that was given last.
use Rattle.std.proofs.Common.{◌≡◌, ℕ, zero, suc, ◌+◌, ◌-◌, ◌%◌, ◌<◌, ◌≤◌, ◌⊎◌, inl, inr, List, [], ◌∷◌, ◌++◌, Bool, true, false, ◌&&◌, ◌||◌, cond, eqb, leb, ltb, Option, None, Some, reverse, refl, sym, ◌∙◌, ap, subst, arith}
use Rattle.std.proofs.lemmas.Bool.{and_parts}
use Rattle.std.proofs.lemmas.Bool.Decides.{nat_tests}
use Rattle.std.proofs.lemmas.List.{reverse-append}
use Rattle.gm_base.specs.Aim.{Aim}
use Rattle.gm_base.specs.Scripts.{Orders}
use Rattle.gm_base.specs.declared.numbers.TheConstants.{BLOCK_PAGES}
use Rattle.gm_base.specs.declared.values.Actor.{Actor}
use Rattle.gm_base.specs.declared.values.Actor.TheVariants.{Caller, Vcpu}
use Rattle.gm_base.specs.declared.values.Folio.{Folio}
use Rattle.gm_base.specs.declared.values.Setup.{Setup}
use Rattle.gm_flat.specs.Calls.{Bracketed, PagePlan, Paged, Plan, Reads, Refused as NotDone, Same, Short}
use Rattle.gm_flat.specs.Effects.{Addition, Source, U32_LIMIT, U64_LIMIT, add, addition_fits, apply, get_addition, if_fits, page_addition, shut_files, shut_slots, slot_fits, source, with_folios, without_file}
use Rattle.gm_flat.specs.FlatState.{FileState, Flat, FolioState, cached, was_made}
use Rattle.gm_flat.specs.Histories.{Call, Fault, Faulting, NoFault, Seen, call, fault}
use Rattle.gm_flat.specs.Replay.{adds, flat, flat_at, get_adds, index_in, looked_slot, page_adds, states}
use Rattle.gm_flat.specs.RightInstall.{CachedOrNew, FileGet, GetBy, RightGet, UserGet}
use Rattle.gm_flat.specs.RightLives.{GetAdds, PageAdds, RightGetAdds, RightPageAdds, UsesFirst, frame_of, plan_of}
use Rattle.gm_flat.specs.RightLook.{Route, ToAgain, ToFault, ToFile, ToMmio, ToUser, route_seen}
use Rattle.gm_flat.specs.RightOrder.{IsLooked}
use Rattle.gm_flat.specs.declared.effect.Backing.TheVariants.{Folio as InFolio, User}
use Rattle.gm_flat.specs.declared.effect.Effect.{Effect}
use Rattle.gm_flat.specs.declared.effect.Effect.TheVariants.{Attr, Cut, File, Mark, Move, NoSlot, Shut, Slot, Word}
use Rattle.gm_flat.specs.declared.entry.Entry.{Entry}
use Rattle.gm_flat.specs.declared.entry.What.{What}
use Rattle.gm_flat.specs.declared.entry.What.TheVariants.{Change, Free, Get, Page, Touch}
use Rattle.gm_flat.specs.declared.views.SlotView.{SlotView}
use Rattle.gm_laws.proofs.Adds.{Made, get_made}
use Rattle.gm_laws.proofs.Frames.{CachedFrames, cached_frames}
use Rattle.gm_laws.proofs.Kit.{by, cond_is, none_is, some_same}
use Rattle.gm_laws.proofs.Lives.{frame_free}
use Rattle.gm_laws.specs.May.{May}
use Rattle.gm_laws.specs.Ruled.{Follows}
use Rattle.gm_history.specs.declared.given.Giving.{Giving}
use Rattle.gm_history.specs.declared.given.Giving.TheVariants.{NoSerial, Serials, Refused}
use Rattle.gm_history.specs.declared.given.Run.{Run}
use Rattle.gm_history.specs.Given.{run, giving_run, giving_block, giving_got, giving_of, after_giving, given, gives, frame_given}
use Rattle.gm_history.proofs.Runs.{given_push}

-- the frames of folios after an addition
not_in_none : (a s : ℕ) → (leb a s && ltb s (a + 0)) ≡ false
not_in_none a s = grind (arith, nat_tests)

abbrev in_run : ℕ → ℕ → ℕ → Bool
in_run a n s = leb a s && ltb s (a + n)

frame_after : (n a r s : ℕ) (xs : List FolioState) → frame_of s (with_folios n a r xs) ≡ cond (in_run a n s) (Some (r + (s - a))) (frame_of s xs)
frame_after zero a r s xs = ap (λ (t : Bool). cond t (Some (r + (s - a))) (frame_of s xs)) (sym (not_in_none a s))
frame_after (suc k) a r s xs = go (eqb (a + k) s) refl (frame_after k a r s xs)
  where
    same_in : (a k s : ℕ) → eqb (a + k) s ≡ true → in_run a (suc k) s ≡ true
    same_in a k s e = grind (arith, nat_tests)

    same_frame : (a k r s : ℕ) → eqb (a + k) s ≡ true → r + k ≡ r + (s - a)
    same_frame a k r s e = grind (arith, nat_tests)

    other_in : (a k s : ℕ) → eqb (a + k) s ≡ false → in_run a k s ≡ in_run a (suc k) s
    other_in a k s e = grind (arith, nat_tests)

    go : (t : Bool) → eqb (a + k) s ≡ t → frame_of s (with_folios k a r xs) ≡ cond (in_run a k s) (Some (r + (s - a))) (frame_of s xs) → cond t (Some (r + k)) (frame_of s (with_folios k a r xs)) ≡ cond (in_run a (suc k) s) (Some (r + (s - a))) (frame_of s xs)
    go true e old = ap (λ (n : ℕ). Some n) (same_frame a k r s e) ∙ ap (λ (t : Bool). cond t (Some (r + (s - a))) (frame_of s xs)) (sym (same_in a k s e))
    go false e old = old ∙ ap (λ (t : Bool). cond t (Some (r + (s - a))) (frame_of s xs)) (other_in a k s e)

-- what a run gives

pub range_is : (a n r : ℕ) → a + n ≤ U64_LIMIT → r + n ≤ U32_LIMIT → giving_run (run a r n) ≡ Serials (run a r n)
range_is a n r h k = pick (leb (a + n) U64_LIMIT && leb (r + n) U32_LIMIT) (both a n r h k) (Serials (run a r n)) Refused
  where
    both : (a n r : ℕ) → a + n ≤ U64_LIMIT → r + n ≤ U32_LIMIT → (leb (a + n) U64_LIMIT && leb (r + n) U32_LIMIT) ≡ true
    both a n r h k = grind (arith, nat_tests)

    pick : (t : Bool) → t ≡ true → (a b : Giving) → cond t a b ≡ a
    pick true e a b = refl
    pick false e a b = absurd cc

-- what is added lies within the types
fits_is : (x d : Addition) (files : List FileState) → if_fits x files ≡ Some d → (x ≡ d) × (d.serial + d.pages ≤ U64_LIMIT) × (d.frame + d.pages ≤ U32_LIMIT)
fits_is x d files e =
    elim (cond_is (addition_fits x files) (Some x) None (Some d) e) [
      | inl y ↦
          let same : x ≡ d = some_same x d y.1 in
          let p = and_parts (was_made x.file files) (leb (x.index + x.pages) U64_LIMIT && (leb (x.serial + x.pages) U64_LIMIT && leb (x.frame + x.pages) U32_LIMIT)) y.0 in
          let q = and_parts (leb (x.index + x.pages) U64_LIMIT) (leb (x.serial + x.pages) U64_LIMIT && leb (x.frame + x.pages) U32_LIMIT) p.1 in
          let r = and_parts (leb (x.serial + x.pages) U64_LIMIT) (leb (x.frame + x.pages) U32_LIMIT) q.1 in
          (same, subst (λ (z : Addition). z.serial + z.pages ≤ U64_LIMIT) same (most (x.serial + x.pages) U64_LIMIT r.0), subst (λ (z : Addition). z.frame + z.pages ≤ U32_LIMIT) same (most (x.frame + x.pages) U32_LIMIT r.1))
      | inr y ↦ absurd (none_is d y.1)
    ]
  where
    most : (a b : ℕ) → leb a b ≡ true → a ≤ b
    most a b h = grind (arith, nat_tests)

abbrev Fits : Addition → Type 0
Fits d = (d.serial + d.pages ≤ U64_LIMIT) × (d.frame + d.pages ≤ U32_LIMIT)

-- of a Get
run_fits : (t u : Bool) (x d : Addition) (files : List FileState) → cond (t && u) (if_fits x files) None ≡ Some d → Fits d
run_fits true true x d files e = let f = fits_is x d files e in (f.1, f.2)
run_fits true false x d files e = absurd (none_is d e)
run_fits false u x d files e = absurd (none_is d e)

get_fits : (fo : Folio) (n F i : ℕ) (files : List FileState) (d : Addition) → get_addition (InFolio fo) n (Some F) (Some i) files ≡ Some d → Fits d
get_fits fo n F i files d e = elim (cond_is (eqb n 1 || eqb n 512) _ None (Some d) e) [
  | inl y ↦ run_fits (leb (i % n) fo.serial) (leb (i % n) fo.frame) (record { file = F; index = i - i % n; serial = fo.serial - i % n; frame = fo.frame - i % n; pages = n; copy = None }) d files y.1
  | inr y ↦ absurd (none_is d y.1)
]

-- the entry gives the run that it adds
abbrev pub GivesAdded : Giving → Addition → Type 0
GivesAdded g d = g ≡ Serials (run d.serial d.frame d.pages)

one_given : (fo : Folio) (n F i : ℕ) (d : Addition) → n ≡ 1 → Made fo n F i d → Fits d → GivesAdded (giving_got fo n) d
one_given fo n F i d e m f =
    let zero_in : i % n ≡ 0 = rw e (omega arith) in
    let serial : fo.serial ≡ d.serial = sym (m.serial_is ∙ ap (λ (k : ℕ). fo.serial - k) zero_in ∙ less_none fo.serial) in
    let frame : fo.frame ≡ d.frame = sym (m.frame_is ∙ ap (λ (k : ℕ). fo.frame - k) zero_in ∙ less_none fo.frame) in
    let pages : 1 ≡ d.pages = sym (m.pages_is ∙ e) in
    ap (giving_got fo) e ∙ ap (λ (a : ℕ). giving_run (run a fo.frame 1)) serial ∙ ap (λ (r : ℕ). giving_run (run d.serial r 1)) frame ∙ ap (λ (k : ℕ). giving_run (run d.serial d.frame k)) pages ∙ range_is d.serial d.pages d.frame f.0 f.1
  where
    less_none : (k : ℕ) → k - 0 ≡ k
    less_none k = omega arith

block_given : (fo : Folio) (n F i : ℕ) (d : Addition) → n ≡ 512 → d.frame % 512 ≡ 0 → Made fo n F i d → Fits d → GivesAdded (giving_got fo n) d
block_given fo n F i d e aligned m f =
    let in_frame : fo.frame % 512 ≡ i % 512 = place fo.frame d.frame (i % 512) (rest i) (subst (λ (k : ℕ). i % k ≤ fo.frame) e m.frame_le) (m.frame_is ∙ ap (λ (k : ℕ). fo.frame - i % k) e) aligned in
    let serial : fo.serial - fo.frame % 512 ≡ d.serial = ap (λ (k : ℕ). fo.serial - k) in_frame ∙ sym (m.serial_is ∙ ap (λ (k : ℕ). fo.serial - i % k) e) in
    let frame : fo.frame - fo.frame % 512 ≡ d.frame = ap (λ (k : ℕ). fo.frame - k) in_frame ∙ sym (m.frame_is ∙ ap (λ (k : ℕ). fo.frame - i % k) e) in
    let pages : 512 ≡ d.pages = sym (m.pages_is ∙ e) in
    let above : leb (fo.frame % 512) fo.serial ≡ true = is_most (fo.frame % 512) fo.serial (subst (λ (k : ℕ). k ≤ fo.serial) (sym in_frame) (subst (λ (k : ℕ). i % k ≤ fo.serial) e m.serial_le)) in
    ap (giving_got fo) e
    ∙ ap (λ (t : Bool). cond t (giving_run (run (fo.serial - fo.frame % 512) (fo.frame - fo.frame % 512) 512)) Refused) above
    ∙ ap (λ (a : ℕ). giving_run (run a (fo.frame - fo.frame % 512) 512)) serial ∙ ap (λ (r : ℕ). giving_run (run d.serial r 512)) frame ∙ ap (λ (k : ℕ). giving_run (run d.serial d.frame k)) pages ∙ range_is d.serial d.pages d.frame f.0 f.1
  where
    rest : (i : ℕ) → i % 512 < 512
    rest i = omega arith

    place : (f d m : ℕ) → m < 512 → m ≤ f → d ≡ f - m → d % 512 ≡ 0 → f % 512 ≡ m
    place f d m l h e a = omega arith

    is_most : (a b : ℕ) → a ≤ b → leb a b ≡ true
    is_most a b h = grind (arith, nat_tests)

uses_given : (fo : Folio) (n F i frames : ℕ) (d : Addition) (f : Flat) → Made fo n F i d → Fits d → UsesFirst frames i d f → GivesAdded (giving_got fo n) d
uses_given fo n F i frames d f m k (inl x) = block_given fo n F i d (sym m.pages_is ∙ x.pages) x.frame.block.aligned m k
uses_given fo n F i frames d f m k (inr x) = one_given fo n F i d (sym m.pages_is ∙ x.0.pages) m k

-- a Get adds what it gives, or names a folio that was added
abbrev pub GetGives : Folio → ℕ → Option Addition → Flat → Type 0
GetGives fo n (Some d) f = GivesAdded (giving_got fo n) d
GetGives fo n None f = (n ≡ 0) × (frame_of fo.serial f.folios ≡ Some fo.frame)

new_gives : (fo : Folio) (n F i frames : ℕ) (f : Flat) (o : Option Addition) → get_addition (InFolio fo) n (Some F) (Some i) f.files ≡ o → GetAdds frames (Some i) o f → GetGives fo n o f
new_gives fo n F i frames f None e adds = absurd adds
new_gives fo n F i frames f (Some d) e adds = uses_given fo n F i frames d f (get_made fo n F i f.files d e) (get_fits fo n F i f.files d e) adds.1

none_added : (fo : Folio) (n F i : ℕ) (files : List FileState) → n ≡ 0 → get_addition (InFolio fo) n (Some F) (Some i) files ≡ None
none_added fo n F i files e = ap (λ (k : ℕ). get_addition (InFolio fo) k (Some F) (Some i) files) e

cache_gives : (fo : Folio) (n F i frames : ℕ) (f : Flat) (c : Option Folio) → CachedFrames f → cached F i f.cache ≡ c → CachedOrNew (InFolio fo) n c → (0 < n → GetAdds frames (Some i) (get_addition (InFolio fo) n (Some F) (Some i) f.files) f) → GetGives fo n (get_addition (InFolio fo) n (Some F) (Some i) f.files) f
cache_gives fo n F i frames f (Some x) h e g adds =
    let same : x ≡ fo = folio_is (sym g.0) in
    subst (λ (o : Option Addition). GetGives fo n o f) (sym (none_added fo n F i f.files g.1)) (g.1, subst (λ (y : Folio). frame_of y.serial f.folios ≡ Some y.frame) same (h F i x e))
  where
    folio_is : {a b : Folio} → InFolio a ≡ InFolio b → a ≡ b
    folio_is e = cc
cache_gives fo n F i frames f None h e g adds = new_gives fo n F i frames f (get_addition (InFolio fo) n (Some F) (Some i) f.files) refl (adds g)

file_gives : (fo : Folio) (n frames : ℕ) (F I : Option ℕ) (f : Flat) → CachedFrames f → FileGet (InFolio fo) n F I f → (0 < n → GetAdds frames I (get_addition (InFolio fo) n F I f.files) f) → GetGives fo n (get_addition (InFolio fo) n F I f.files) f
file_gives fo n frames (Some F) (Some i) f h g adds = cache_gives fo n F i frames f (cached F i f.cache) h refl g.1 adds
file_gives fo n frames (Some F) None f h g adds = absurd g
file_gives fo n frames None I f h g adds = absurd g

route_gives : (r : Route) (fo : Folio) (n frames : ℕ) (a : Aim) (l : Seen) (past : List Entry) → CachedFrames (flat past) → GetBy r (InFolio fo) n a l past → (0 < n → GetAdds frames (index_in a.page (looked_slot l past)) (get_addition (InFolio fo) n l.file (index_in a.page (looked_slot l past)) (flat past).files) (flat past)) → GetGives fo n (get_addition (InFolio fo) n l.file (index_in a.page (looked_slot l past)) (flat past).files) (flat past)
route_gives ToUser fo n frames a l past h g adds = user_not (looked_slot l past) g
  where
    user_folio : {A : Type 0} {u : ℕ} → InFolio fo ≡ User u → A
    user_folio e = absurd (clash e)
      where
        clash : {u : ℕ} → InFolio fo ≡ User u → ⊥
        clash e = cc

    user_not : {A : Type 0} → (o : Option SlotView) → UserGet (InFolio fo) n a.page o → A
    user_not (Some s) g = user_folio g.0
    user_not None g = absurd g
route_gives ToFile fo n frames a l past h g adds = file_gives fo n frames l.file (index_in a.page (looked_slot l past)) (flat past) h g adds
route_gives ToAgain fo n frames a l past h g adds = absurd g
route_gives ToFault fo n frames a l past h g adds = absurd g
route_gives ToMmio fo n frames a l past h g adds = absurd g

pub get_gives : (fo : Folio) (n frames : ℕ) (x : Fault) (past : List Entry) → CachedFrames (flat past) → IsLooked x → RightGet (InFolio fo) n past x → RightGetAdds frames n x (get_adds (InFolio fo) n x (states past)) past → GetGives fo n (get_adds (InFolio fo) n x (states past)) (flat past)
get_gives fo n frames (Faulting a m (Some s) (Some l) None) past h i g adds = route_gives (route_seen a l past) fo n frames a l past h g adds
get_gives fo n frames (Faulting a m (Some s) (Some l) (Some q)) past h i g adds = absurd i
get_gives fo n frames (Faulting a m (Some s) None q) past h i g adds = absurd i
get_gives fo n frames (Faulting a m None l q) past h i g adds = absurd i
get_gives fo n frames NoFault past h i g adds = absurd i

-- of a page that a call adds
source_gives : (i : ℕ) (fo : Folio) (n : ℕ) (o : Option Source) (files : List FileState) (d : Addition) → page_addition i fo n o files ≡ Some d → GivesAdded (giving_run (run fo.serial fo.frame n)) d
source_gives i fo n None files d e = absurd (none_is d e)
source_gives i fo n (Some s) files d e =
    let f = fits_is (record { file = s.file; index = i; serial = fo.serial; frame = fo.frame; pages = n; copy = s.copy }) d files e in
    ap (λ (x : Addition). giving_run (run x.serial x.frame x.pages)) f.0 ∙ range_is d.serial d.pages d.frame f.1 f.2

-- a page's line gives what it adds
abbrev pub PageGives : Folio → ℕ → Option Addition → Type 0
PageGives fo n None = ⊥
PageGives fo n (Some d) = GivesAdded (giving_run (run fo.serial fo.frame n)) d

plan_gives : (frames i : ℕ) (fo : Folio) (n : ℕ) (plan : Plan) (o : Option Source) (a : Option Addition) (f : Flat) → page_addition i fo n o f.files ≡ a → PageAdds frames plan a f → PageGives fo n a
plan_gives frames i fo n (Paged p) o (Some d) f e adds = source_gives i fo n o f.files d e
plan_gives frames i fo n (Paged p) o None f e adds = absurd adds
plan_gives frames i fo n (NotDone r) o a f e adds = absurd adds
plan_gives frames i fo n (Same r) o a f e adds = absurd adds
plan_gives frames i fo n (Reads p w) o a f e adds = absurd adds
plan_gives frames i fo n (Short r w) o a f e adds = absurd adds
plan_gives frames i fo n (Bracketed r w) o a f e adds = absurd adds

pub page_gives : (s : Setup) (i : ℕ) (fo : Folio) (n : ℕ) (o : Option Call) (past : List Entry) → RightPageAdds s o (page_adds i fo n o (states past)) past → PageGives fo n (page_adds i fo n o (states past))
page_gives s i fo n None past adds = absurd adds
page_gives s i fo n (Some x) past adds = plan_gives s.frames i fo n (plan_of s x past) (source x.ioctl i (flat_at x.judged past).slots) (page_adds i fo n (Some x) (states past)) (flat past) refl adds

-- the frame of each live folio is the one that was given last
abbrev pub runs_of : List Entry → List Run
runs_of past = given (reverse past)

pub runs_step : (e : Entry) (past : List Entry) → runs_of (e ∷ past) ≡ after_giving (giving_of e.what) (runs_of past)
runs_step e past = ap given (reverse-append (e ∷ []) past) ∙ given_push (reverse past) e

abbrev pub FramesGiven : List Entry → Type 0
FramesGiven past = (serial frame : ℕ) → frame_of serial (flat past).folios ≡ Some frame → frame_given (runs_of past) serial ≡ Some frame

abbrev AreGiven : List FolioState → List Run → Type 0
AreGiven folios runs = (serial frame : ℕ) → frame_of serial folios ≡ Some frame → frame_given runs serial ≡ Some frame

both_cond : (t : Bool) (x a b : Option ℕ) (frame : ℕ) → (a ≡ Some frame → b ≡ Some frame) → cond t x a ≡ Some frame → cond t x b ≡ Some frame
both_cond true x a b frame f e = e
both_cond false x a b frame f e = f e

added_given : (d : Addition) (g : Giving) (folios : List FolioState) (runs : List Run) → GivesAdded g d → AreGiven folios runs → AreGiven (with_folios d.pages d.serial d.frame folios) (after_giving g runs)
added_given d g folios runs e old serial frame h =
    ap (λ (z : Giving). frame_given (after_giving z runs) serial) e
    ∙ both_cond (in_run d.serial d.pages serial) (Some (d.frame + (serial - d.serial))) (frame_of serial folios) (frame_given runs serial) frame (old serial frame) (sym (frame_after d.pages d.serial d.frame serial folios) ∙ h)

-- a folio that is named again
again_given : (fo : Folio) (t : Bool) (folios : List FolioState) (runs : List Run) → frame_of fo.serial folios ≡ Some fo.frame → AreGiven folios runs → AreGiven folios (after_giving (cond t (Serials (run fo.serial fo.frame 1)) Refused) runs)
again_given fo true folios runs k old serial frame h = go (in_run fo.serial 1 serial) refl
  where
    same : (a s : ℕ) → (leb a s && ltb s (a + 1)) ≡ true → a ≡ s
    same a s e = grind (arith, nat_tests)

    here : (f a s : ℕ) → a ≡ s → f + (s - a) ≡ f
    here f a s e = omega arith

    go : (t : Bool) → in_run fo.serial 1 serial ≡ t → cond t (Some (fo.frame + (serial - fo.serial))) (frame_given runs serial) ≡ Some frame
    go true e =
        let at : fo.serial ≡ serial = same fo.serial serial e in
        ap (λ (n : ℕ). Some n) (here fo.frame fo.serial serial at) ∙ sym k ∙ ap (λ (s : ℕ). frame_of s folios) at ∙ h
    go false e = old serial frame h
again_given fo false folios runs k old serial frame h = old serial frame h

got_given : (fo : Folio) (n : ℕ) (o : Option Addition) (f : Flat) (runs : List Run) → GetGives fo n o f → AreGiven f.folios runs → AreGiven (add o f).folios (after_giving (giving_got fo n) runs)
got_given fo n (Some d) f runs g old = added_given d (giving_got fo n) f.folios runs g old
got_given fo n None f runs g old =
    subst (λ (k : ℕ). AreGiven f.folios (after_giving (giving_got fo k) runs)) (sym g.0)
    (again_given fo (leb (fo.serial + 1) U64_LIMIT && leb (fo.frame + 1) U32_LIMIT) f.folios runs g.1 old)

paged_given : (fo : Folio) (n : ℕ) (o : Option Addition) (f : Flat) (runs : List Run) → PageGives fo n o → AreGiven f.folios runs → AreGiven (add o f).folios (after_giving (giving_run (run fo.serial fo.frame n)) runs)
paged_given fo n (Some d) f runs g old = added_given d (giving_run (run fo.serial fo.frame n)) f.folios runs g old
paged_given fo n None f runs g old = absurd g

-- effects change no folio, and their lines give nothing
effect_folios : (e : Effect) (f : Flat) → (apply e f).folios ≡ f.folios
effect_folios (Shut F) f = elim (was_made F f.files) as (λ t. (cond t (record f { slots = shut_slots F f.slots; files = shut_files F f.files; cache = without_file F f.cache }) f).folios ≡ f.folios) [ true ↦ refl | false ↦ refl ]
effect_folios (Slot id base pages user flags file index) f =
    let r : SlotView = record { id = id; base = base; pages = pages; user = user; flags = flags; file = file; index = index; invalid = false } in
    elim (slot_fits r) as (λ t. (cond t (record f { slots = r ∷ f.slots }) f).folios ≡ f.folios) [ true ↦ refl | false ↦ refl ]
effect_folios (Cut F lo hi) f = refl
effect_folios (Mark id) f = refl
effect_folios (NoSlot id) f = refl
effect_folios (Move id base) f = refl
effect_folios (Attr span kind) f = refl
effect_folios (File file pages block) f = refl
effect_folios (Word page word value) f = refl

effect_gives : (e : Effect) (runs : List Run) → after_giving (giving_of (Change e)) runs ≡ runs
effect_gives (Mark id) runs = refl
effect_gives e runs = refl

step_given : (o : Orders) (t : ℕ) (w : What) (a : Actor) (past : List Entry) → CachedFrames (flat past) → May o w a past → AreGiven (flat past).folios (runs_of past) → AreGiven (flat (by t a w ∷ past)).folios (after_giving (giving_of w) (runs_of past))
step_given o t (Get (InFolio fo) n) (Vcpu v) past h m old = got_given fo n (get_adds (InFolio fo) n (fault v past) (states past)) (flat past) (runs_of past) (get_gives fo n o.setup.frames (fault v past) past h m.0 m.1 m.2) old
step_given o t (Get (InFolio fo) n) (Caller c) past h m old = absurd m
step_given o t (Get (User u) n) (Vcpu v) past h m old = user_given (fault v past)
  where
    user_given : (x : Fault) → AreGiven (add (get_adds (User u) n x (states past)) (flat past)).folios (runs_of past)
    user_given (Faulting access missed sample (Some seen) got) = old
    user_given (Faulting access missed sample None got) = old
    user_given NoFault = old
step_given o t (Get (User u) n) (Caller c) past h m old = absurd m
step_given o t (Page i fo n) (Caller c) past h m old = paged_given fo n (page_adds i fo n (call c past) (states past)) (flat past) (runs_of past) (page_gives o.setup i fo n (call c past) past m.2) old
step_given o t (Page i fo n) (Vcpu v) past h m old = absurd m
step_given o t (Change e) a past h m old = subst (λ (runs : List Run). AreGiven (apply e (flat past)).folios runs) (sym (effect_gives e (runs_of past))) (subst (λ (folios : List FolioState). AreGiven folios (runs_of past)) (sym (effect_folios e (flat past))) old)
step_given o t (Free fo n) a past h m old = λ serial frame e. old serial frame (frame_free n fo.serial serial frame (flat past).folios e)
step_given o t (Touch access (InFolio fo) level value fill) a past h m old = old
step_given o t (Touch access (User u) level value fill) a past h m old = old
step_given o t w a past h m old = old

pub frames_given : (o : Orders) (past : List Entry) → Follows o past → FramesGiven past
frames_given o [] f = λ serial frame e. absurd (none_is frame e)
frames_given o (e ∷ past) f =
    subst (λ (runs : List Run). AreGiven (flat (e ∷ past)).folios runs) (sym (runs_step e past))
    (step_given o e.turn e.what e.actor past (cached_frames o past f.1) f.0.may (frames_given o past f.1))
