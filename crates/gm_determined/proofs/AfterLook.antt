-- What comes after a Look, by its route.
use Rattle.std.proofs.Common.{◌+◌, ◌*◌, ◌<◌, ◌≤◌, Bool, List, None, Option, Some, ap, arith, false, inl, inr, refl, subst, sym, true, ℕ, ◌≡◌, ◌⊎◌}
use Rattle.std.proofs.lemmas.Bool.{both_ways}
use Rattle.gm_base.specs.Aim.{Aim, address_of}
use Rattle.gm_base.specs.Scripts.{Orders}
use Rattle.gm_base.specs.declared.numbers.TheConstants.{PAGE_BYTES}
use Rattle.gm_base.specs.declared.values.Actor.TheVariants.{Vcpu}
use Rattle.gm_base.specs.declared.values.Folio.{Folio}
use Rattle.gm_flat.specs.Effects.{Addition, get_addition}
use Rattle.gm_flat.specs.FlatState.{Flat, FolioState, cached, in_use, is_free}
use Rattle.gm_flat.specs.Histories.{Faulting, Seen, fault}
use Rattle.gm_flat.specs.Replay.{flat, index_in, looked_slot}
use Rattle.gm_flat.specs.RightHistory.{Right}
use Rattle.gm_flat.specs.RightInstall.{CachedOrNew, FileGet, GetBy, IsShut, UserGet}
use Rattle.gm_flat.specs.RightLives.{GetAdds, UsesFirst}
use Rattle.gm_flat.specs.RightLook.{ExitIsRight, IsFull, NotCached, Route, ToAgain, ToFault, ToFile, ToMmio, ToUser, exit_flags, route_seen}
use Rattle.gm_flat.specs.Slots.{user_page_of}
use Rattle.gm_flat.specs.declared.effect.Backing.{Backing}
use Rattle.gm_flat.specs.declared.effect.Backing.TheVariants.{Folio as InFolio, User}
use Rattle.gm_flat.specs.declared.effect.Exit.{Exit}
use Rattle.gm_flat.specs.declared.effect.Exit.TheVariants.{Fault as MemoryFault, Mmio, NoFrame}
use Rattle.gm_flat.specs.declared.entry.Entry.{Entry}
use Rattle.gm_flat.specs.declared.entry.What.{What}
use Rattle.gm_flat.specs.declared.entry.What.TheVariants.{Flush, Get, Install, Left, Retry}
use Rattle.gm_flat.specs.declared.views.SlotView.{SlotView}
use Rattle.gm_laws.specs.Stands.{Stands}
use Rattle.gm_determined.specs.Exactly.{AfterLook, CachedAt, HasFree, IsAgain, IsOpen, OneHolds}
use Rattle.gm_determined.proofs.AfterFault.{Comes, IsHeld, faults_entry, known}

free_frame : (frames i : ℕ) (d : Addition) (f : Flat) → UsesFirst frames i d f → HasFree frames f.folios
free_frame frames i d f (inl x) = (d.frame + 0, below d.frame frames x.frame.block.below, x.frame.block.free 0 (omega arith))
  where
    below : (r n : ℕ) → r + 512 ≤ n → r + 0 < n
    below r n h = omega arith
free_frame frames i d f (inr x) = (d.frame, x.0.frame.below, x.0.frame.free)

adds_free : (frames : ℕ) (i : Option ℕ) (d : Option Addition) (f : Flat) → GetAdds frames i d f → HasFree frames f.folios
adds_free frames (Some i) (Some d) f x = free_frame frames i d f x.1
adds_free frames (Some i) None f x = absurd x
adds_free frames None d f x = absurd x

adds_folio : (frames n : ℕ) (u : ℕ) (F I : Option ℕ) (f : Flat) → GetAdds frames I (get_addition (User u) n F I f.files) f → ⊥
adds_folio frames n u F (Some i) f x = x
adds_folio frames n u F None f x = x

abbrev NewGet : What → Type 0
NewGet w = (b : Backing) × (n : ℕ) × (w ≡ Get b n) × (0 < n)

abbrev NoneCached : ℕ → What → List FolioState → Type 0
NoneCached frames w folios = (IsFull frames folios × (w ≡ Left NoFrame)) ⊎ (HasFree frames folios × NewGet w)

abbrev CachedCase : ℕ → What → Option Folio → List FolioState → Type 0
CachedCase frames w (Some folio) folios = w ≡ Get (InFolio folio) 0
CachedCase frames w None folios = NoneCached frames w folios

abbrev UsedCase : ℕ → What → Bool → Option Folio → List FolioState → Type 0
UsedCase frames w false folio folios = w ≡ Retry
UsedCase frames w true folio folios = CachedCase frames w folio folios

abbrev FileCase : ℕ → What → Option ℕ → Option ℕ → Flat → Type 0
FileCase frames w (Some F) (Some i) f = UsedCase frames w (in_use F f.files) (cached F i f.cache) f.folios
FileCase frames w (Some F) None f = (in_use F f.files ≡ false) × (w ≡ Retry)
FileCase frames w None i f = ⊥

abbrev RouteCase : Route → ℕ → What → Aim → Seen → List Entry → Type 0
RouteCase ToAgain frames w a l past = w ≡ Retry
RouteCase ToFault frames w a l past = w ≡ Left (MemoryFault (exit_flags a.kind) (PAGE_BYTES * a.page) PAGE_BYTES)
RouteCase ToMmio frames w a l past = w ≡ Left (Mmio (address_of a))
RouteCase ToFile frames w a l past = FileCase frames w l.file (index_in a.page (looked_slot l past)) (flat past)
RouteCase ToUser frames w a l past = (s : SlotView) × (looked_slot l past ≡ Some s) × (w ≡ Get (User (user_page_of s a.page)) 0)

the_fault : (f g s : ℕ) (i j k : ℕ) → f ≡ i → g ≡ j → s ≡ k → Left (MemoryFault f g s) ≡ Left (MemoryFault i j k)
the_fault f g s i j k p q r = cc

used_case : (frames : ℕ) (w : What) (t u : Bool) (p q : Option Folio) (folios : List FolioState) → t ≡ u → p ≡ q → UsedCase frames w u q folios → UsedCase frames w t p folios
used_case frames w t u p q folios e f x = subst (λ (y : Bool). UsedCase frames w y p folios) (sym e) (subst (λ (y : Option Folio). UsedCase frames w u y folios) (sym f) x)

full_case : (frames : ℕ) (F I : Option ℕ) (f : Flat) → NotCached F I f → IsFull frames f.folios → FileCase frames (Left NoFrame) F I f
full_case frames (Some F) (Some i) f n x = used_case frames (Left NoFrame) (in_use F f.files) true (cached F i f.cache) None f.folios n.0 n.1 (inl (x, refl))
full_case frames (Some F) None f n x = absurd n
full_case frames None I f n x = absurd n

exit_case : (why : Exit) (frames : ℕ) (a : Aim) (l : Seen) (past : List Entry) → ExitIsRight frames why a l past → RouteCase (route_seen a l past) frames (Left why) a l past
exit_case (MemoryFault f g s) frames a l past x = subst (λ (r : Route). RouteCase r frames (Left (MemoryFault f g s)) a l past) (sym x.right_route) (the_fault f g s (exit_flags a.kind) (PAGE_BYTES * a.page) PAGE_BYTES x.right_flags x.right_gpa x.right_size)
exit_case (Mmio g) frames a l past x = subst (λ (r : Route). RouteCase r frames (Left (Mmio g)) a l past) (sym x.right_route) (ap (λ (n : ℕ). Left (Mmio n)) x.right_gpa)
exit_case NoFrame frames a l past x = subst (λ (r : Route). RouteCase r frames (Left NoFrame) a l past) (sym x.right_route) (full_case frames l.file (index_in a.page (looked_slot l past)) (flat past) x.not_cached x.full)

shut_case : (frames : ℕ) (F I : Option ℕ) (f : Flat) → IsShut F f → FileCase frames Retry F I f
shut_case frames (Some F) (Some i) f s = used_case frames Retry (in_use F f.files) false (cached F i f.cache) (cached F i f.cache) f.folios s refl refl
shut_case frames (Some F) None f s = (s, refl)
shut_case frames None I f s = absurd s

retry_case : (frames : ℕ) (a : Aim) (l : Seen) (past : List Entry) → IsAgain a l past → RouteCase (route_seen a l past) frames Retry a l past
retry_case frames a l past (inl x) = subst (λ (r : Route). RouteCase r frames Retry a l past) (sym x) refl
retry_case frames a l past (inr x) = subst (λ (r : Route). RouteCase r frames Retry a l past) (sym x.0) (shut_case frames l.file (index_in a.page (looked_slot l past)) (flat past) x.1)

same_get : (b c : Backing) (m n : ℕ) → b ≡ c → m ≡ n → Get b m ≡ Get c n
same_get b c m n p q = cc

cached_case : (frames n F i : ℕ) (b : Backing) (f : Flat) (folio : Option Folio) → CachedOrNew b n folio → (0 < n → GetAdds frames (Some i) (get_addition b n (Some F) (Some i) f.files) f) → CachedCase frames (Get b n) folio f.folios
cached_case frames n F i b f (Some folio) x p = same_get b (InFolio folio) n 0 x.0 x.1
cached_case frames n F i b f None x p = inr (adds_free frames (Some i) (get_addition b n (Some F) (Some i) f.files) f (p x), (b, n, refl, x))

file_case : (frames n : ℕ) (F I : Option ℕ) (b : Backing) (f : Flat) → FileGet b n F I f → (0 < n → GetAdds frames I (get_addition b n F I f.files) f) → FileCase frames (Get b n) F I f
file_case frames n (Some F) (Some i) b f x p = subst (λ (t : Bool). UsedCase frames (Get b n) t (cached F i f.cache) f.folios) (sym x.0) (cached_case frames n F i b f (cached F i f.cache) x.1 p)
file_case frames n (Some F) None b f x p = absurd x
file_case frames n None I b f x p = absurd x

user_case : (n page : ℕ) (b : Backing) (s : Option SlotView) → UserGet b n page s → (t : SlotView) × (s ≡ Some t) × (Get b n ≡ Get (User (user_page_of t page)) 0)
user_case n page b (Some s) x = (s, refl, same_get b (User (user_page_of s page)) n 0 x.0 x.1)
user_case n page b None x = absurd x

get_case : (r : Route) (frames n : ℕ) (b : Backing) (a : Aim) (l : Seen) (past : List Entry) → GetBy r b n a l past → (0 < n → GetAdds frames (index_in a.page (looked_slot l past)) (get_addition b n l.file (index_in a.page (looked_slot l past)) (flat past).files) (flat past)) → RouteCase r frames (Get b n) a l past
get_case ToUser frames n b a l past x p = user_case n a.page b (looked_slot l past) x
get_case ToFile frames n b a l past x p = file_case frames n l.file (index_in a.page (looked_slot l past)) b (flat past) x p
get_case ToAgain frames n b a l past x p = absurd x
get_case ToFault frames n b a l past x p = absurd x
get_case ToMmio frames n b a l past x p = absurd x

-- the case of what comes
pub look_case : (o : Orders) (w : What) (a : Aim) (m s : ℕ) (l : Seen) (past : List Entry) → Comes o w (Faulting a m (Some s) (Some l) None) past → RouteCase (route_seen a l past) o.setup.frames w a l past
look_case o (Get b n) a m s l past x = get_case (route_seen a l past) o.setup.frames n b a l past x.1 x.2
look_case o (Left why) a m s l past x = exit_case why o.setup.frames a l past x.1
look_case o Retry a m s l past x = retry_case o.setup.frames a l past x
look_case o (Install page level) a m s l past x = absurd x.0
look_case o _ a m s l past x = absurd x

-- each case tells the entry
by_route : (r : Route) (frames : ℕ) (w : What) (a : Aim) (l : Seen) (past : List Entry) → RouteCase (route_seen a l past) frames w a l past → route_seen a l past ≡ r → RouteCase r frames w a l past
by_route r frames w a l past k e = subst (λ (q : Route). RouteCase q frames w a l past) e k

by_use : (frames : ℕ) (w : What) (t u : Bool) (p q : Option Folio) (folios : List FolioState) → t ≡ u → p ≡ q → UsedCase frames w t p folios → UsedCase frames w u q folios
by_use frames w t u p q folios e f x = used_case frames w u t q p folios (sym e) (sym f) x

unused : (frames : ℕ) (w : What) (t : Bool) (p : Option Folio) (folios : List FolioState) → t ≡ false → UsedCase frames w t p folios → w ≡ Retry
unused frames w false p folios e x = x
unused frames w true p folios e x = absurd (both_ways true e refl)

shut_retries : (frames : ℕ) (w : What) (F I : Option ℕ) (f : Flat) → FileCase frames w F I f → IsShut F f → w ≡ Retry
shut_retries frames w (Some F) (Some i) f k s = unused frames w (in_use F f.files) (cached F i f.cache) f.folios s k
shut_retries frames w (Some F) None f k s = k.1
shut_retries frames w None I f k s = absurd k

folio_gets : (frames : ℕ) (w : What) (folio : Folio) (F I : Option ℕ) (f : Flat) → FileCase frames w F I f → CachedAt folio F I f → w ≡ Get (InFolio folio) 0
folio_gets frames w folio (Some F) (Some i) f k c = by_use frames w (in_use F f.files) true (cached F i f.cache) (Some folio) f.folios c.0 c.1 k
folio_gets frames w folio (Some F) None f k c = absurd c
folio_gets frames w folio None I f k c = absurd k

open_comes : (frames : ℕ) (w : What) (F I : Option ℕ) (f : Flat) → FileCase frames w F I f → NotCached F I f → NoneCached frames w f.folios
open_comes frames w (Some F) (Some i) f k c = by_use frames w (in_use F f.files) true (cached F i f.cache) None f.folios c.0 c.1 k
open_comes frames w (Some F) None f k c = absurd c
open_comes frames w None I f k c = absurd k

full_free : (frames : ℕ) (folios : List FolioState) → IsFull frames folios → HasFree frames folios → ⊥
full_free frames folios x y = both_ways (is_free y.0 folios) (x y.0 y.1) y.2

full_comes : (frames : ℕ) (w : What) (folios : List FolioState) → NoneCached frames w folios → IsFull frames folios → w ≡ Left NoFrame
full_comes frames w folios (inl x) y = x.1
full_comes frames w folios (inr x) y = absurd (full_free frames folios y x.0)

free_comes : (frames : ℕ) (w : What) (folios : List FolioState) → NoneCached frames w folios → HasFree frames folios → NewGet w
free_comes frames w folios (inl x) y = absurd (full_free frames folios x.0 y)
free_comes frames w folios (inr x) y = x.1

-- and the entry tells the case
clash_user : (u : ℕ) (folio : Folio) → User u ≡ InFolio folio → ⊥
clash_user u folio e = cc

same_folio : (x y : Folio) → InFolio x ≡ InFolio y → x ≡ y
same_folio x y e = cc

none_less : (n : ℕ) → n ≡ 0 → 0 < n → ⊥
none_less n e h = omega arith

zero_less : 0 < 0 → ⊥
zero_less h = omega arith

user_cached : (u : ℕ) (folio : Option Folio) → CachedOrNew (User u) 0 folio → ⊥
user_cached u (Some folio) x = clash_user u folio x.0
user_cached u None x = zero_less x

user_file : (u : ℕ) (F I : Option ℕ) (f : Flat) → FileGet (User u) 0 F I f → ⊥
user_file u (Some F) (Some i) f x = user_cached u (cached F i f.cache) x.1
user_file u (Some F) None f x = x
user_file u None I f x = x

got_user : (r : Route) (u : ℕ) (a : Aim) (l : Seen) (past : List Entry) → GetBy r (User u) 0 a l past → r ≡ ToUser
got_user ToUser u a l past x = refl
got_user ToFile u a l past x = absurd (user_file u l.file (index_in a.page (looked_slot l past)) (flat past) x)
got_user ToAgain u a l past x = absurd x
got_user ToFault u a l past x = absurd x
got_user ToMmio u a l past x = absurd x

folio_not_user : (folio : Folio) (n page : ℕ) (s : Option SlotView) → UserGet (InFolio folio) n page s → ⊥
folio_not_user folio n page (Some s) x = clash_user (user_page_of s page) folio (sym x.0)
folio_not_user folio n page None x = x

cached_is : (folio : Folio) (o : Option Folio) → CachedOrNew (InFolio folio) 0 o → o ≡ Some folio
cached_is folio (Some x) y = ap (λ (z : Folio). Some z) (same_folio x folio (sym y.0))
cached_is folio None y = absurd (zero_less y)

folio_file : (folio : Folio) (F I : Option ℕ) (f : Flat) → FileGet (InFolio folio) 0 F I f → CachedAt folio F I f
folio_file folio (Some F) (Some i) f x = (x.0, cached_is folio (cached F i f.cache) x.1)
folio_file folio (Some F) None f x = absurd x
folio_file folio None I f x = absurd x

got_folio : (r : Route) (folio : Folio) (a : Aim) (l : Seen) (past : List Entry) → GetBy r (InFolio folio) 0 a l past → (r ≡ ToFile) × CachedAt folio l.file (index_in a.page (looked_slot l past)) (flat past)
got_folio ToUser folio a l past x = absurd (folio_not_user folio 0 a.page (looked_slot l past) x)
got_folio ToFile folio a l past x = (refl, folio_file folio l.file (index_in a.page (looked_slot l past)) (flat past) x)
got_folio ToAgain folio a l past x = absurd x
got_folio ToFault folio a l past x = absurd x
got_folio ToMmio folio a l past x = absurd x

new_not_user : (b : Backing) (n page : ℕ) (s : Option SlotView) → UserGet b n page s → 0 < n → ⊥
new_not_user b n page (Some s) x h = none_less n x.1 h
new_not_user b n page None x h = x

new_is : (b : Backing) (n : ℕ) (o : Option Folio) → CachedOrNew b n o → 0 < n → o ≡ None
new_is b n (Some x) y h = absurd (none_less n y.1 h)
new_is b n None y h = refl

new_file : (b : Backing) (n : ℕ) (F I : Option ℕ) (f : Flat) → FileGet b n F I f → 0 < n → NotCached F I f
new_file b n (Some F) (Some i) f x h = (x.0, new_is b n (cached F i f.cache) x.1 h)
new_file b n (Some F) None f x h = absurd x
new_file b n None I f x h = absurd x

got_new : (r : Route) (b : Backing) (n : ℕ) (a : Aim) (l : Seen) (past : List Entry) → GetBy r b n a l past → 0 < n → (r ≡ ToFile) × NotCached l.file (index_in a.page (looked_slot l past)) (flat past)
got_new ToUser b n a l past x h = absurd (new_not_user b n a.page (looked_slot l past) x h)
got_new ToFile b n a l past x h = (refl, new_file b n l.file (index_in a.page (looked_slot l past)) (flat past) x h)
got_new ToAgain b n a l past x h = absurd x
got_new ToFault b n a l past x h = absurd x
got_new ToMmio b n a l past x h = absurd x

got_free : (o : Orders) (b : Backing) (n : ℕ) (a : Aim) (m s : ℕ) (l : Seen) (past : List Entry) → Comes o (Get b n) (Faulting a m (Some s) (Some l) None) past → 0 < n → IsOpen a l past × HasFree o.setup.frames (flat past).folios
got_free o b n a m s l past x h = (got_new (route_seen a l past) b n a l past x.1 h, adds_free o.setup.frames (index_in a.page (looked_slot l past)) (get_addition b n l.file (index_in a.page (looked_slot l past)) (flat past).files) (flat past) (x.2 h))

-- one of the cases holds
exit_holds : (why : Exit) (frames : ℕ) (a : Aim) (l : Seen) (past : List Entry) → ExitIsRight frames why a l past → OneHolds frames a l past
exit_holds (MemoryFault f g s) frames a l past x = inl x.right_route
exit_holds (Mmio g) frames a l past x = inr (inl x.right_route)
exit_holds NoFrame frames a l past x = inr (inr (inr (inr (inr (inl ((x.right_route, x.not_cached), x.full))))))

file_holds : (frames n : ℕ) (b : Backing) (F I : Option ℕ) (f : Flat) → FileGet b n F I f → (0 < n → GetAdds frames I (get_addition b n F I f.files) f) → ((folio : Folio) × CachedAt folio F I f) ⊎ (NotCached F I f × HasFree frames f.folios)
file_holds frames n b (Some F) (Some i) f x p = go (cached F i f.cache) refl x.1
  where
    go : (o : Option Folio) → cached F i f.cache ≡ o → CachedOrNew b n o → ((folio : Folio) × CachedAt folio (Some F) (Some i) f) ⊎ (NotCached (Some F) (Some i) f × HasFree frames f.folios)
    go (Some folio) e y = inl (folio, (x.0, e))
    go None e y = inr ((x.0, e), adds_free frames (Some i) (get_addition b n (Some F) (Some i) f.files) f (p y))
file_holds frames n b (Some F) None f x p = absurd x
file_holds frames n b None I f x p = absurd x

get_holds : (r : Route) (frames n : ℕ) (b : Backing) (a : Aim) (l : Seen) (past : List Entry) → route_seen a l past ≡ r → GetBy r b n a l past → (0 < n → GetAdds frames (index_in a.page (looked_slot l past)) (get_addition b n l.file (index_in a.page (looked_slot l past)) (flat past).files) (flat past)) → OneHolds frames a l past
get_holds ToUser frames n b a l past e x p = inr (inr (inl e))
get_holds ToFile frames n b a l past e x p = elim (file_holds frames n b l.file (index_in a.page (looked_slot l past)) (flat past) x p) [
  | inl y ↦ inr (inr (inr (inr (inl (y.0, (e, y.1))))))
  | inr y ↦ inr (inr (inr (inr (inr (inr ((e, y.0), y.1))))))
]
get_holds ToAgain frames n b a l past e x p = absurd x
get_holds ToFault frames n b a l past e x p = absurd x
get_holds ToMmio frames n b a l past e x p = absurd x

one_holds : (o : Orders) (w : What) (a : Aim) (m s : ℕ) (l : Seen) (past : List Entry) → Comes o w (Faulting a m (Some s) (Some l) None) past → OneHolds o.setup.frames a l past
one_holds o (Get b n) a m s l past x = get_holds (route_seen a l past) o.setup.frames n b a l past refl x.1 x.2
one_holds o (Left why) a m s l past x = exit_holds why o.setup.frames a l past x.1
one_holds o Retry a m s l past x = inr (inr (inr (inl x)))
one_holds o (Install page level) a m s l past x = absurd x.0
one_holds o _ a m s l past x = absurd x

again_retries : (frames : ℕ) (w : What) (a : Aim) (l : Seen) (past : List Entry) → RouteCase (route_seen a l past) frames w a l past → IsAgain a l past → w ≡ Retry
again_retries frames w a l past k (inl x) = by_route ToAgain frames w a l past k x
again_retries frames w a l past k (inr x) = shut_retries frames w l.file (index_in a.page (looked_slot l past)) (flat past) (by_route ToFile frames w a l past k x.0) x.1

open_case : (frames : ℕ) (w : What) (a : Aim) (l : Seen) (past : List Entry) → RouteCase (route_seen a l past) frames w a l past → IsOpen a l past → NoneCached frames w (flat past).folios
open_case frames w a l past k x = open_comes frames w l.file (index_in a.page (looked_slot l past)) (flat past) (by_route ToFile frames w a l past k x.0) x.1

after_look : (o : Orders) (w : What) (a : Aim) (m s : ℕ) (l : Seen) (past : List Entry) → Comes o w (Faulting a m (Some s) (Some l) None) past → AfterLook o.setup.frames w a l past
after_look o w a m s l past c =
    let z = Faulting a m (Some s) (Some l) None in
    let k = look_case o w a m s l past c in
    let to : (v : What) → w ≡ v → Comes o v z past = λ v e. subst (λ (x : What). Comes o x z past) e c in
    record {
      fault_exits = (λ e. by_route ToFault o.setup.frames w a l past k e, λ e. (to (Left (MemoryFault (exit_flags a.kind) (PAGE_BYTES * a.page) PAGE_BYTES)) e).1.right_route);
      mmio_exits = (λ e. by_route ToMmio o.setup.frames w a l past k e, λ e. (to (Left (Mmio (address_of a))) e).1.right_route);
      user_gets = (λ e. by_route ToUser o.setup.frames w a l past k e, λ e. got_user (route_seen a l past) (user_page_of e.0 a.page) a l past (to (Get (User (user_page_of e.0 a.page)) 0) e.2).1);
      again_retries = (λ e. again_retries o.setup.frames w a l past k e, λ e. to Retry e);
      cached_gets = λ folio. (
        (λ e. folio_gets o.setup.frames w folio l.file (index_in a.page (looked_slot l past)) (flat past) (by_route ToFile o.setup.frames w a l past k e.0) e.1),
        (λ e. got_folio (route_seen a l past) folio a l past (to (Get (InFolio folio) 0) e).1),
      );
      full_exits = (
        (λ e. full_comes o.setup.frames w (flat past).folios (open_case o.setup.frames w a l past k e.0) e.1),
        (λ e. let x = (to (Left NoFrame) e).1 in ((x.right_route, x.not_cached), x.full)),
      );
      free_gets = (
        (λ e. free_comes o.setup.frames w (flat past).folios (open_case o.setup.frames w a l past k e.0) e.1),
        (λ e. got_free o e.0 e.1 a m s l past (to (Get e.0 e.1) e.2) e.3),
      );
      one_holds = one_holds o w a m s l past c;
    }

looked_held : (a : Aim) (m s : ℕ) (l : Seen) → IsHeld (Faulting a m (Some s) (Some l) None)
looked_held a m s l = (λ x. x, λ x. x)

unsampled_held : (a : Aim) (m : ℕ) (l : Seen) → IsHeld (Faulting a m None (Some l) None)
unsampled_held a m l = (λ x. x, λ x. x)

unsampled : (o : Orders) (w : What) (a : Aim) (m : ℕ) (l : Seen) (past : List Entry) → Comes o w (Faulting a m None (Some l) None) past → ⊥
unsampled o (Get b n) a m l past x = x.0
unsampled o (Left why) a m l past x = x.0
unsampled o Retry a m l past x = x
unsampled o (Install page level) a m l past x = x.0
unsampled o _ a m l past x = x

pub look_followed : (o : Orders) (e : Entry) (past h : List Entry) (v : ℕ) (a : Aim) (m : ℕ) (s : Option ℕ) (l : Seen) → Right o h → Stands e past h → e.actor ≡ Vcpu v → (e.what ≡ Flush → ⊥) → fault v past ≡ Faulting a m s (Some l) None → AfterLook o.setup.frames e.what a l past
look_followed o e past h v a m (Some s) l r st actor n f =
    after_look o e.what a m s l past (faults_entry o v e.what a m (Some s) (Some l) None past (known o v e past h r st actor) f (looked_held a m s l) n)
look_followed o e past h v a m None l r st actor n f =
    absurd (unsampled o e.what a m l past (faults_entry o v e.what a m None (Some l) None past (known o v e past h r st actor) f (unsampled_held a m l) n))
