-- A folio that a fault holds has the frame that it was got with.
use Rattle.std.proofs.Common.{◌≡◌, ℕ, ◌+◌, ◌<◌, List, [], ◌∷◌, Bool, true, false, length, zero, suc, Option, Some, None, arith, refl, ap, cond, eqb, inl, inr, subst, sym, ◌∙◌}
use Rattle.std.proofs.lemmas.Bool.{ne_eqb}
use Rattle.std.proofs.lemmas.Bool.Decides.{nat_tests}
use Rattle.gm_base.specs.Aim.{Aim}
use Rattle.gm_base.specs.Scripts.{Orders}
use Rattle.gm_base.specs.declared.values.Actor.{Actor}
use Rattle.gm_base.specs.declared.values.Actor.TheVariants.{Caller, Vcpu}
use Rattle.gm_base.specs.declared.values.Folio.{Folio}
use Rattle.gm_base.specs.declared.values.Setup.{Setup}
use Rattle.gm_flat.specs.Calls.{Plan, Paged, Refused, Same, Reads, Short, Bracketed}
use Rattle.gm_flat.specs.Effects.{Addition, add, apply, are_added, free_each, free_one, free_run, get_addition, shut_files, shut_slots, slot_fits, with_folios, without_file}
use Rattle.gm_flat.specs.FlatState.{Flat, FolioState, added, was_made}
use Rattle.gm_flat.specs.Histories.{Call, Fault, Faulting, NoFault, Gotten, Seen, call, fault, is_vcpu, with_get, with_look, with_sample}
use Rattle.gm_flat.specs.Replay.{adds, flat, get_adds, index_in, looked_slot, page_adds, states}
use Rattle.gm_flat.specs.RightInstall.{GetBy, RightGet, UserGet}
use Rattle.gm_flat.specs.RightLives.{FaultHolds, GetAdds, IsHeld, IsOfFolio, PageAdds, RightGetAdds, RightPageAdds, frame_of, plan_of}
use Rattle.gm_flat.specs.RightLook.{Route, ToAgain, ToFault, ToFile, ToMmio, ToUser, route_seen}
use Rattle.gm_flat.specs.RightOrder.{IsLooked}
use Rattle.gm_flat.specs.declared.effect.Backing.{Backing}
use Rattle.gm_flat.specs.declared.effect.Backing.TheVariants.{Folio as InFolio, User}
use Rattle.gm_flat.specs.declared.effect.Effect.{Effect}
use Rattle.gm_flat.specs.declared.effect.Effect.TheVariants.{Attr, Cut, File, Mark, Move, NoSlot, Shut, Slot, Word}
use Rattle.gm_flat.specs.declared.entry.Entry.{Entry}
use Rattle.gm_flat.specs.declared.entry.What.{What}
use Rattle.gm_flat.specs.declared.entry.What.TheVariants.{Change, Free, Get, Install, Left, Look, Miss, Page, Retry, Sample}
use Rattle.gm_flat.specs.declared.views.SlotView.{SlotView}
use Rattle.gm_laws.proofs.Adds.{FileHas, file_get, none_fresh}
use Rattle.gm_laws.proofs.Frames.{CachedFrames, cached_frames}
use Rattle.gm_laws.proofs.Kit.{by}
use Rattle.gm_laws.proofs.Lives.{frame_free, frame_with}
use Rattle.gm_laws.specs.May.{May}
use Rattle.gm_laws.specs.Ruled.{Follows}
use Rattle.gm_laws.specs.TouchFrames.{HasItsFrame}
use Rattle.gm_store.proofs.Folios.{frame_kept}

-- what a fault got has its frame
abbrev pub HoldsFrame : Fault → Flat → Type 0
HoldsFrame (Faulting a missed sample look (Some gotten)) f = HasItsFrame gotten.backing f
HoldsFrame x f = Unit {0}

-- serials count the folios

abbrev IsCounted : Flat → Type 0
IsCounted f = (s r : ℕ) → frame_of s f.folios ≡ Some r → s < added f

-- what is added has the next serials
abbrev AddsNext : Option Addition → Flat → Type 0
AddsNext None f = Unit {0}
AddsNext (Some d) f = d.serial ≡ added f

get_next_by : (frames : ℕ) (I : Option ℕ) (d : Option Addition) (f : Flat) → GetAdds frames I d f → AddsNext d f
get_next_by frames (Some i) (Some d) f x = x.0
get_next_by frames (Some i) None f x = tt
get_next_by frames None d f x = absurd x

none_next : (d : Option Addition) (f : Flat) → d ≡ None → AddsNext d f
none_next d f e = subst (λ (x : Option Addition). AddsNext x f) (sym e) tt

get_next : (b : Backing) (fresh frames : ℕ) (x : Fault) (past : List Entry) → IsLooked x → RightGetAdds frames fresh x (get_adds b fresh x (states past)) past → AddsNext (get_adds b fresh x (states past)) (flat past)
get_next b zero frames (Faulting a m (Some s) (Some l) None) past i h = none_next (get_adds b zero (Faulting a m (Some s) (Some l) None) (states past)) (flat past) (none_fresh b l.file (index_in a.page (looked_slot l past)) (flat past).files)
get_next b (suc k) frames (Faulting a m (Some s) (Some l) None) past i h = get_next_by frames (index_in a.page (looked_slot l past)) (get_adds b (suc k) (Faulting a m (Some s) (Some l) None) (states past)) (flat past) (h (omega arith))
get_next b fresh frames (Faulting a m (Some s) (Some l) (Some q)) past i h = absurd i
get_next b fresh frames (Faulting a m (Some s) None q) past i h = absurd i
get_next b fresh frames (Faulting a m None l q) past i h = absurd i
get_next b fresh frames NoFault past i h = absurd i

page_next_by : (frames : ℕ) (plan : Plan) (a : Option Addition) (f : Flat) → PageAdds frames plan a f → AddsNext a f
page_next_by frames (Paged p) (Some d) f h = h.1
page_next_by frames (Paged p) None f h = tt
page_next_by frames (Refused r) a f h = absurd h
page_next_by frames (Same r) a f h = absurd h
page_next_by frames (Reads p w) a f h = absurd h
page_next_by frames (Short r w) a f h = absurd h
page_next_by frames (Bracketed r w) a f h = absurd h

page_next : (s : Setup) (i : ℕ) (fo : Folio) (n : ℕ) (o : Option Call) (past : List Entry) → RightPageAdds s o (page_adds i fo n o (states past)) past → AddsNext (page_adds i fo n o (states past)) (flat past)
page_next s i fo n None past h = absurd h
page_next s i fo n (Some x) past h = page_next_by s.frames (plan_of s x past) (page_adds i fo n (Some x) (states past)) (flat past) h

-- additions

length_with : (n s r : ℕ) (xs : List FolioState) → length (with_folios n s r xs) ≡ n + length xs
length_with zero s r xs = omega arith
length_with (suc k) s r xs = let e : length (with_folios k s r xs) ≡ k + length xs = length_with k s r xs in omega arith

frame_old : (n s0 r0 s : ℕ) (xs : List FolioState) → s < s0 → frame_of s (with_folios n s0 r0 xs) ≡ frame_of s xs
frame_old zero s0 r0 s xs h = refl
frame_old (suc k) s0 r0 s xs h = let e : eqb (s0 + k) s ≡ false = other s0 k s h in rw e (frame_old k s0 r0 s xs h)
  where
    other : (s0 k s : ℕ) → s < s0 → eqb (s0 + k) s ≡ false
    other s0 k s h = grind (arith, nat_tests)

add_frame : (o : Option Addition) (f : Flat) (s r : ℕ) → AddsNext o f → IsCounted f → frame_of s f.folios ≡ Some r → frame_of s (add o f).folios ≡ Some r
add_frame None f s r n c e = e
add_frame (Some d) f s r n c e = frame_old d.pages d.serial d.frame s f.folios (subst (λ (k : ℕ). s < k) (sym n) (c s r e)) ∙ e

add_counted : (o : Option Addition) (f : Flat) → AddsNext o f → IsCounted f → IsCounted (add o f)
add_counted None f n c = c
add_counted (Some d) f n c = λ s r e. elim (frame_with d.pages d.serial d.frame s r f.folios e) [
  | inl old ↦ let b = c s r old in let l = length_with d.pages d.serial d.frame f.folios in more s (length f.folios) d.pages (length (with_folios d.pages d.serial d.frame f.folios)) b l
  | inr new ↦ let l = length_with d.pages d.serial d.frame f.folios in in_run d.serial new.0 s (length f.folios) d.pages (length (with_folios d.pages d.serial d.frame f.folios)) new.2 n new.1 l
]
  where
    more : (s n p m : ℕ) → s < n → m ≡ p + n → s < m
    more s n p m h e = omega arith

    in_run : (d k s n p m : ℕ) → d + k ≡ s → d ≡ n → k < p → m ≡ p + n → s < m
    in_run d k s n p m a b c e = omega arith

-- frees

length_free_one : (j : ℕ) (xs : List FolioState) → length (free_one j xs) ≡ length xs
length_free_one j [] = refl
length_free_one j (x ∷ xs) = go (eqb x.folio.serial j) (length_free_one j xs)
  where
    go : (t : Bool) → length (free_one j xs) ≡ length xs → length (cond t (record x { live = false } ∷ xs) (x ∷ free_one j xs)) ≡ suc (length xs)
    go true e = refl
    go false e = ap (λ (n : ℕ). suc n) e

length_free_each : (n j : ℕ) (xs : List FolioState) → length (free_each n j xs) ≡ length xs
length_free_each zero j xs = refl
length_free_each (suc k) j xs = length_free_one (j + k) (free_each k j xs) ∙ length_free_each k j xs

length_free : (n j : ℕ) (xs : List FolioState) → length (free_run n j xs) ≡ length xs
length_free n j xs = go (are_added n j xs)
  where
    go : (t : Bool) → length (cond t (free_each n j xs) xs) ≡ length xs
    go true = length_free_each n j xs
    go false = refl

free_counted : (n j : ℕ) (f : Flat) → IsCounted f → IsCounted (record f { folios = free_run n j f.folios })
free_counted n j f c = λ s r e. subst (λ (k : ℕ). s < k) (sym (length_free n j f.folios)) (c s r (frame_free n j s r f.folios e))

each_stays : (n j s : ℕ) (xs : List FolioState) → ((k : ℕ) → k < n → j + k ≡ s → ⊥) → frame_of s (free_each n j xs) ≡ frame_of s xs
each_stays zero j s xs off = refl
each_stays (suc k) j s xs off = frame_kept (j + k) s (free_each k j xs) (ne_eqb (j + k) s (off k (own k))) ∙ each_stays k j s xs (λ i h. off i (more i k h))
  where
    own : (k : ℕ) → k < suc k
    own k = omega arith

    more : (a k : ℕ) → a < k → a < suc k
    more a k h = omega arith

run_stays : (n j s : ℕ) (xs : List FolioState) → ((k : ℕ) → k < n → j + k ≡ s → ⊥) → frame_of s (free_run n j xs) ≡ frame_of s xs
run_stays n j s xs off = go (are_added n j xs)
  where
    go : (t : Bool) → frame_of s (cond t (free_each n j xs) xs) ≡ frame_of s xs
    go true = each_stays n j s xs off
    go false = refl

-- an effect leaves the folios as they were
folios_if : (t : Bool) (x y f : Flat) → x.folios ≡ f.folios → y.folios ≡ f.folios → (cond t x y).folios ≡ f.folios
folios_if true x y f a b = a
folios_if false x y f a b = b

folios_same : (e : Effect) (f : Flat) → (apply e f).folios ≡ f.folios
folios_same (Cut F lo hi) f = refl
folios_same (Shut F) f = folios_if (was_made F f.files) (record f { slots = shut_slots F f.slots; files = shut_files F f.files; cache = without_file F f.cache }) f f refl refl
folios_same (Slot id base pages user flags file index) f =
    let r : SlotView = record { id = id; base = base; pages = pages; user = user; flags = flags; file = file; index = index; invalid = false } in
    folios_if (slot_fits r) (record f { slots = r ∷ f.slots }) f f refl refl
folios_same (Mark id) f = refl
folios_same (NoSlot id) f = refl
folios_same (Move id base) f = refl
folios_same (Attr span kind) f = refl
folios_same (File file pages block) f = refl
folios_same (Word page word value) f = refl

counted_keep : (o : Orders) (t : ℕ) (w : What) (a : Actor) (past : List Entry) → May o w a past → IsCounted (flat past) → IsCounted (flat (by t a w ∷ past))
counted_keep o t (Get b n) (Vcpu u) past m c = add_counted (adds (Get b n) (Vcpu u) past (states past)) (flat past) (get_next b n o.setup.frames (fault u past) past m.0 m.2) c
counted_keep o t (Get b n) (Caller d) past m c = absurd m
counted_keep o t (Page i fo n) (Caller d) past m c = add_counted (adds (Page i fo n) (Caller d) past (states past)) (flat past) (page_next o.setup i fo n (call d past) past m.2) c
counted_keep o t (Page i fo n) (Vcpu u) past m c = absurd m
counted_keep o t (Change e) a past m c = λ s r q. subst (λ (xs : List FolioState). s < length xs) (sym (folios_same e (flat past))) (c s r (sym (ap (frame_of s) (folios_same e (flat past))) ∙ q))
counted_keep o t (Free fo n) a past m c = free_counted n fo.serial (flat past) c
counted_keep o t w a past m c = c

counted : (o : Orders) (past : List Entry) → Follows o past → IsCounted (flat past)
counted o [] r = λ s r e. absurd (cc)
counted o (e ∷ past) r = counted_keep o e.turn e.what e.actor past r.0.may (counted o past r.1)

-- what is held keeps its frame
frame_keep : (o : Orders) (t : ℕ) (w : What) (a : Actor) (past : List Entry) (s r : ℕ) → May o w a past → IsCounted (flat past) → IsHeld s past → frame_of s (flat past).folios ≡ Some r → frame_of s (flat (by t a w ∷ past)).folios ≡ Some r
frame_keep o t (Get b n) (Vcpu u) past s r m c h e = add_frame (adds (Get b n) (Vcpu u) past (states past)) (flat past) s r (get_next b n o.setup.frames (fault u past) past m.0 m.2) c e
frame_keep o t (Get b n) (Caller d) past s r m c h e = absurd m
frame_keep o t (Page i fo n) (Caller d) past s r m c h e = add_frame (adds (Page i fo n) (Caller d) past (states past)) (flat past) s r (page_next o.setup i fo n (call d past) past m.2) c e
frame_keep o t (Page i fo n) (Vcpu u) past s r m c h e = absurd m
frame_keep o t (Change f) a past s r m c h e = ap (frame_of s) (folios_same f (flat past)) ∙ e
frame_keep o t (Free fo n) (Vcpu v) past s r m c h e = run_stays n fo.serial s (flat past).folios (λ k lt q. m.not_held k lt (subst (λ (j : ℕ). IsHeld j past) (sym q) h)) ∙ e
frame_keep o t (Free fo n) (Caller d) past s r m c h e = run_stays n fo.serial s (flat past).folios (λ k lt q. m.not_held k lt (subst (λ (j : ℕ). IsHeld j past) (sym q) h)) ∙ e
frame_keep o t w a past s r m c h e = e

by_backing : (b : Backing) (f g : Flat) → ((s r : ℕ) → IsOfFolio s b → frame_of s f.folios ≡ Some r → frame_of s g.folios ≡ Some r) → HasItsFrame b f → HasItsFrame b g
by_backing (User page) f g keep h = tt
by_backing (InFolio fo) f g keep h = keep fo.serial fo.frame refl h

hold_keep : (x : Fault) (f g : Flat) → ((s r : ℕ) → FaultHolds s x → frame_of s f.folios ≡ Some r → frame_of s g.folios ≡ Some r) → HoldsFrame x f → HoldsFrame x g
hold_keep NoFault f g keep h = tt
hold_keep (Faulting a m s l None) f g keep h = tt
hold_keep (Faulting a m s l (Some q)) f g keep h = by_backing q.backing f g keep h

-- what is got has its frame

user_frame : (b : Backing) (n page : ℕ) (o : Option SlotView) (f : Flat) → UserGet b n page o → HasItsFrame b f
user_frame b n page None f g = absurd g
user_frame b n page (Some s) f g = subst (λ (x : Backing). HasItsFrame x f) (sym g.0) tt

file_frame : (b : Backing) (F I : Option ℕ) (f : Flat) → CachedFrames f → FileHas b F I f → HasItsFrame b f
file_frame (User page) F I f c h = tt
file_frame (InFolio fo) (Some F) (Some i) f c h = c F i fo h
file_frame (InFolio fo) (Some F) None f c h = absurd h
file_frame (InFolio fo) None I f c h = absurd h

route_frame : (to : Route) (b : Backing) (n frames : ℕ) (a : Aim) (l : Seen) (past : List Entry) → GetBy to b n a l past → (0 < n → GetAdds frames (index_in a.page (looked_slot l past)) (get_addition b n l.file (index_in a.page (looked_slot l past)) (flat past).files) (flat past)) → CachedFrames (add (get_addition b n l.file (index_in a.page (looked_slot l past)) (flat past).files) (flat past)) → HasItsFrame b (add (get_addition b n l.file (index_in a.page (looked_slot l past)) (flat past).files) (flat past))
route_frame ToUser b n frames a l past g adding c = user_frame b n a.page (looked_slot l past) _ g
route_frame ToFile b n frames a l past g adding c = file_frame b l.file (index_in a.page (looked_slot l past)) _ c (file_get b n frames l.file (index_in a.page (looked_slot l past)) (flat past) g adding).1
route_frame ToAgain b n frames a l past g adding c = absurd g
route_frame ToFault b n frames a l past g adding c = absurd g
route_frame ToMmio b n frames a l past g adding c = absurd g

got_frame : (b : Backing) (n frames : ℕ) (x : Fault) (past : List Entry) → IsLooked x → RightGet b n past x → RightGetAdds frames n x (get_adds b n x (states past)) past → CachedFrames (add (get_adds b n x (states past)) (flat past)) → HasItsFrame b (add (get_adds b n x (states past)) (flat past))
got_frame b n frames (Faulting a m (Some s) (Some l) None) past i g adding c = route_frame (route_seen a l past) b n frames a l past g adding c
got_frame b n frames (Faulting a m (Some s) (Some l) (Some q)) past i g adding c = absurd i
got_frame b n frames (Faulting a m (Some s) None q) past i g adding c = absurd i
got_frame b n frames (Faulting a m None l q) past i g adding c = absurd i
got_frame b n frames NoFault past i g adding c = absurd i

-- by the kinds of entries
cond_frame : (t : Bool) (x y : Fault) (f : Flat) → HoldsFrame x f → HoldsFrame y f → HoldsFrame (cond t x y) f
cond_frame true x y f a b = a
cond_frame false x y f a b = b

sample_frame : (at : ℕ) (x : Fault) (f : Flat) → HoldsFrame x f → HoldsFrame (with_sample at x) f
sample_frame at NoFault f h = tt
sample_frame at (Faulting a m s l None) f h = tt
sample_frame at (Faulting a m s l (Some q)) f h = h

look_frame : (seen : Seen) (x : Fault) (f : Flat) → HoldsFrame x f → HoldsFrame (with_look seen x) f
look_frame seen NoFault f h = tt
look_frame seen (Faulting a m s l None) f h = tt
look_frame seen (Faulting a m s l (Some q)) f h = h

get_frame : (q : Gotten) (x : Fault) (f : Flat) → HasItsFrame q.backing f → HoldsFrame (with_get q x) f
get_frame q NoFault f h = tt
get_frame q (Faulting a m s l g) f h = h

faults_keep : (o : Orders) (t : ℕ) (w : What) (a : Actor) (past : List Entry) (v : ℕ) → May o w a past → CachedFrames (flat (by t a w ∷ past)) → HoldsFrame (fault v past) (flat (by t a w ∷ past)) → HoldsFrame (fault v (by t a w ∷ past)) (flat (by t a w ∷ past))
faults_keep o t (Miss access) a past v m c h = cond_frame (is_vcpu v a) (Faulting access (suc (length past)) None None None) (fault v past) (flat past) tt h
faults_keep o t (Sample at) a past v m c h = cond_frame (is_vcpu v a) (with_sample at (fault v past)) (fault v past) (flat past) (sample_frame at (fault v past) (flat past) h) h
faults_keep o t (Look at slot attr file) a past v m c h = cond_frame (is_vcpu v a) (with_look (record { place = length past; at = at; slot = slot; attr = attr; file = file }) (fault v past)) (fault v past) (flat past) (look_frame (record { place = length past; at = at; slot = slot; attr = attr; file = file }) (fault v past) (flat past) h) h
faults_keep o t (Get b n) (Vcpu u) past v m c h = cond_frame (is_vcpu v (Vcpu u)) (with_get (record { after = suc (length past); backing = b }) (fault v past)) (fault v past) (flat (by t (Vcpu u) (Get b n) ∷ past)) (get_frame (record { after = suc (length past); backing = b }) (fault v past) (flat (by t (Vcpu u) (Get b n) ∷ past)) (got_frame b n o.setup.frames (fault u past) past m.0 m.1 m.2 c)) h
faults_keep o t (Get b n) (Caller d) past v m c h = absurd m
faults_keep o t (Install page level) a past v m c h = cond_frame (is_vcpu v a) NoFault (fault v past) (flat past) tt h
faults_keep o t Retry a past v m c h = cond_frame (is_vcpu v a) NoFault (fault v past) (flat past) tt h
faults_keep o t (Left why) a past v m c h = cond_frame (is_vcpu v a) NoFault (fault v past) (flat past) tt h
faults_keep o t w a past v m c h = h

pub held_frames : (o : Orders) (past : List Entry) → Follows o past → (v : ℕ) → HoldsFrame (fault v past) (flat past)
held_frames o [] r v = tt
held_frames o (e ∷ past) r v =
    faults_keep o e.turn e.what e.actor past v r.0.may (cached_frames o (e ∷ past) r)
    (hold_keep (fault v past) (flat past) (flat (e ∷ past)) (λ s r2 h q. frame_keep o e.turn e.what e.actor past s r2 r.0.may (counted o past r.1) (v, h) q) (held_frames o past r.1 v))
