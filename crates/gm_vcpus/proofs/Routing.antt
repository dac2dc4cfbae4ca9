-- Where a fault goes on is where the table sends it.
use Rattle.std.proofs.Common.{◌≡◌, ℕ, ◌+◌, ◌-◌, ◌/◌, ◌%◌, ◌≤◌, ◌<◌, ◌⊎◌, ◌&&◌, inl, inr, List, Bool, true, false, not, Option, Some, None, IfSome, arith, subst, sym, ◌∙◌, ap, refl, cond, eqb, leb, ltb, tests}
use Rattle.std.proofs.lemmas.Bool.Decides.{nat_tests}
use Rattle.std.proofs.lemmas.Bool.{eq-eqb, cond-true}
use Rattle.std.proofs.lemmas.Nat.Bits.{and_pow, bit_at-lt}
use Rattle.std.specs.Prelude.{bit_and}
use Rattle.gm_base.specs.Aim.{Aim, address_of}
use Rattle.gm_base.specs.Values.{permits, same_kind}
use Rattle.gm_base.specs.declared.numbers.TheConstants.{KVM_MEM_READONLY, KVM_MEM_GUEST_MEMFD, PAGE_LIMIT}
use Rattle.gm_base.specs.declared.values.Kind.{Kind}
use Rattle.gm_base.specs.declared.values.Kind.TheVariants.{Private, Shared}
use Rattle.gm_fault.specs.Routes.{IsSlotOver, fault_flags, has_flag as flag_set, memory_fault, route_of, route_of_file, route_of_kind, route_of_private, route_of_shared}
use Rattle.gm_fault.specs.declared.routes.Route.{Route}
use Rattle.gm_fault.specs.declared.routes.Route.TheVariants.{Again, Exit, File, User}
use Rattle.gm_flat.specs.Calls.{has_memfd}
use Rattle.gm_flat.specs.FlatState.{has_flag}
use Rattle.gm_flat.specs.Histories.{Seen}
use Rattle.gm_flat.specs.Replay.{index_in, looked_slot}
use Rattle.gm_flat.specs.RightInstall.{UserGet}
use Rattle.gm_flat.specs.RightLook.{ExitIsRight, Route as To, ToAgain, ToFault, ToFile, ToMmio, ToUser, exit_flags, file_of, file_route, is_marked, private_route, route, route_by, route_seen, shared_route}
use Rattle.gm_flat.specs.Slots.{index_of, is_file, user_page_of}
use Rattle.gm_flat.specs.declared.effect.Backing.TheVariants.{User as InUser}
use Rattle.gm_flat.specs.declared.effect.Exit.{Exit as Why}
use Rattle.gm_flat.specs.declared.effect.Exit.TheVariants.{Fault as MemoryFault, Mmio, NoFrame}
use Rattle.gm_flat.specs.declared.entry.Entry.{Entry}
use Rattle.gm_flat.specs.declared.views.Looked.{Looked}
use Rattle.gm_flat.specs.declared.views.SlotView.{SlotView}
use Rattle.gm_vcpus.specs.Stand.{IsSightOf, LookIs}

-- flags, told by a mask and by division

pub readonly_same : (s : SlotView) → flag_set s KVM_MEM_READONLY ≡ has_flag KVM_MEM_READONLY s.flags
readonly_same s = by_flags s.flags
  where
    by_flags : (flags : ℕ) → not (eqb (bit_and flags 2) 0) ≡ eqb ((flags / 2) % 2) 1
    by_flags flags = grind (arith, tests, and_pow flags 1, bit_at-lt flags 1)

pub memfd_same : (s : SlotView) → flag_set s KVM_MEM_GUEST_MEMFD ≡ has_memfd s
memfd_same s = by_flags s.flags
  where
    by_flags : (flags : ℕ) → not (eqb (bit_and flags 4) 0) ≡ eqb ((flags / 4) % 2) 1
    by_flags flags = grind (arith, tests, and_pow flags 2, bit_at-lt flags 2)

clash : (t : Bool) → t ≡ false → t ≡ true → ⊥
clash true e f = cc
clash false e f = cc

-- a slot without the flag for a file has none
unflagged : (user page : ℕ) (s : SlotView) → IsSightOf user page s → flag_set s KVM_MEM_GUEST_MEMFD ≡ false → s.file ≡ None
unflagged user page s h e = by_file s.file refl
  where
    by_file : (o : Option ℕ) → s.file ≡ o → s.file ≡ None
    by_file None f = f
    by_file (Some file) f = absurd (clash (flag_set s KVM_MEM_GUEST_MEMFD) e (memfd_same s ∙ h.flagged file (ap (λ (x : Option ℕ). is_file x file) f ∙ eq-eqb file file refl)))

-- the route that the table has for a route of the code; one that wants a frame is to a file
abbrev pub table_exit : Why → To
table_exit (MemoryFault flags gpa size) = ToFault
table_exit (Mmio gpa) = ToMmio
table_exit NoFrame = ToFile

abbrev pub table_route : Route → To
table_route (Exit why) = table_exit why
table_route (User page) = ToUser
table_route (File file index) = ToFile
table_route Again = ToAgain

file_same : (o : Option ℕ) (s : SlotView) (a : Aim) → table_route (route_of_file o s a) ≡ file_route o
file_same None s a = refl
file_same (Some file) s a = refl

flag_step : (t : Bool) (o : Option ℕ) (s : SlotView) (a : Aim) → (t ≡ false → o ≡ None) → table_route (cond t (route_of_file o s a) (Exit (memory_fault a))) ≡ file_route o
flag_step true o s a h = file_same o s a
flag_step false o s a h = sym (ap file_route (h refl))

private_same : (user : ℕ) (o : Option SlotView) (a : Aim) → IfSome o (IsSightOf user a.page) → table_route (route_of_private o a) ≡ private_route o
private_same user None a h = refl
private_same user (Some s) a h = flag_step (flag_set s KVM_MEM_GUEST_MEMFD) s.file s a (unflagged user a.page s h)

permit_step : (t : Bool) (page : ℕ) (gpa : ℕ) → table_route (cond t (User page) (Exit (Mmio gpa))) ≡ cond t ToUser ToMmio
permit_step true page gpa = refl
permit_step false page gpa = refl

shared_same : (o : Option SlotView) (a : Aim) → table_route (route_of_shared o a) ≡ shared_route a o
shared_same None a = refl
shared_same (Some s) a =
    permit_step (permits (not (flag_set s KVM_MEM_READONLY)) a.op) (user_page_of s a.page) (address_of a) ∙
    ap (λ (b : Bool). cond (permits (not b) a.op) ToUser ToMmio) (readonly_same s)

kind_step : (user : ℕ) (attr kind : Kind) (o : Option SlotView) (a : Aim) → IfSome o (IsSightOf user a.page) → table_route (cond (same_kind attr kind) (route_of_kind kind o a) (Exit (memory_fault a))) ≡ cond (same_kind kind attr) (route_by kind a o) ToFault
kind_step user Private Private o a h = private_same user o a h
kind_step user Private Shared o a h = refl
kind_step user Shared Private o a h = refl
kind_step user Shared Shared o a h = shared_same o a

mark_step : (t : Bool) (r : Route) (z : To) → table_route r ≡ z → table_route (cond t Again r) ≡ cond t ToAgain z
mark_step true r z h = refl
mark_step false r z h = h

-- the code's route is the table's, for all five routes and both kinds
pub route_same : (user : ℕ) (y : Looked) (a : Aim) → IfSome y.slot (IsSightOf user a.page) → table_route (route_of y a) ≡ route a y.attr y.slot
route_same user y a h =
    mark_step (is_marked y.slot) (cond (same_kind y.attr a.kind) (route_of_kind a.kind y.slot a) (Exit (memory_fault a))) (cond (same_kind a.kind y.attr) (route_by a.kind a y.slot) ToFault)
    (kind_step user y.attr a.kind y.slot a h)

pub route_right : (user sample : ℕ) (y : Looked) (a : Aim) (l : Seen) (past : List Entry) → LookIs user a.page sample y l past → route_seen a l past ≡ table_route (route_of y a)
route_right user sample y a l past h =
    ap (λ (k : Kind). route a k (looked_slot l past)) h.attr_is ∙ (ap (λ (o : Option SlotView). route a y.attr o) h.slot_is ∙ sym (route_same user y a h.sight))

-- what a slot looked up may be asked for
pub over_page : (user page : ℕ) (o : Option SlotView) → IfSome o (IsSightOf user page) → IfSome o (IsSlotOver page)
over_page user page None h = tt
over_page user page (Some s) h = h.over_page

-- what each route tells: an exit is the memory fault of the access, or MMIO at its address; a user page is the one that
-- the slot gives, and an index of a file the one that the slot gives
abbrev pub RouteTells : Aim → Option SlotView → Route → Type 0
RouteTells a o (Exit why) = (why ≡ memory_fault a) ⊎ (why ≡ Mmio (address_of a))
RouteTells a o (User page) = (s : SlotView) × (o ≡ Some s) × (page ≡ user_page_of s a.page)
RouteTells a o (File file index) = (s : SlotView) × (o ≡ Some s) × (s.file ≡ Some file) × (index ≡ index_of s a.page)
RouteTells a o Again = Unit {0}

tells_file : (s : SlotView) (o : Option ℕ) (a : Aim) → s.file ≡ o → RouteTells a (Some s) (route_of_file o s a)
tells_file s None a e = inl refl
tells_file s (Some file) a e = (s, refl, e, refl)

tells_flag : (t : Bool) (s : SlotView) (a : Aim) → RouteTells a (Some s) (cond t (route_of_file s.file s a) (Exit (memory_fault a)))
tells_flag true s a = tells_file s s.file a refl
tells_flag false s a = inl refl

tells_private : (o : Option SlotView) (a : Aim) → RouteTells a o (route_of_private o a)
tells_private None a = inl refl
tells_private (Some s) a = tells_flag (flag_set s KVM_MEM_GUEST_MEMFD) s a

tells_permit : (t : Bool) (s : SlotView) (a : Aim) → RouteTells a (Some s) (cond t (User (user_page_of s a.page)) (Exit (Mmio (address_of a))))
tells_permit true s a = (s, refl, refl)
tells_permit false s a = inr refl

tells_shared : (o : Option SlotView) (a : Aim) → RouteTells a o (route_of_shared o a)
tells_shared None a = inr refl
tells_shared (Some s) a = tells_permit (permits (not (flag_set s KVM_MEM_READONLY)) a.op) s a

tells_kind : (attr kind : Kind) (o : Option SlotView) (a : Aim) → RouteTells a o (cond (same_kind attr kind) (route_of_kind kind o a) (Exit (memory_fault a)))
tells_kind Private Private o a = tells_private o a
tells_kind Private Shared o a = inl refl
tells_kind Shared Private o a = inl refl
tells_kind Shared Shared o a = tells_shared o a

tells_mark : (t : Bool) (r : Route) (o : Option SlotView) (a : Aim) → RouteTells a o r → RouteTells a o (cond t Again r)
tells_mark true r o a h = tt
tells_mark false r o a h = h

pub tells : (y : Looked) (a : Aim) → RouteTells a y.slot (route_of y a)
tells y a = tells_mark (is_marked y.slot) (cond (same_kind y.attr a.kind) (route_of_kind a.kind y.slot a) (Exit (memory_fault a))) y.slot a (tells_kind y.attr a.kind y.slot a)

-- an exit is the one of its route

flags_same : (kind : Kind) → fault_flags kind ≡ exit_flags kind
flags_same Private = refl
flags_same Shared = refl

pub exit_right : (frames user sample : ℕ) (why : Why) (y : Looked) (a : Aim) (l : Seen) (past : List Entry) → LookIs user a.page sample y l past → route_of y a ≡ Exit why → ExitIsRight frames why a l past
exit_right frames user sample why y a l past h e =
    by_why why (subst (λ (r : Route). RouteTells a y.slot r) e (tells y a)) (route_right user sample y a l past h ∙ ap table_route e)
  where
    by_why : (w : Why) → (w ≡ memory_fault a) ⊎ (w ≡ Mmio (address_of a)) → route_seen a l past ≡ table_exit w → ExitIsRight frames w a l past
    by_why w (inl f) r = subst (λ (z : Why). ExitIsRight frames z a l past) (sym f) (record { right_route = r ∙ ap table_exit f; right_flags = flags_same a.kind; right_gpa = refl; right_size = refl })
    by_why w (inr f) r = subst (λ (z : Why). ExitIsRight frames z a l past) (sym f) (record { right_route = r ∙ ap table_exit f; right_gpa = refl })

-- a get is the user page that the slot gives

pub user_right : (user sample page : ℕ) (y : Looked) (a : Aim) (l : Seen) (past : List Entry) → LookIs user a.page sample y l past → route_of y a ≡ User page → (route_seen a l past ≡ ToUser) × UserGet (InUser page) 0 a.page (looked_slot l past)
user_right user sample page y a l past h e =
    let t : RouteTells a y.slot (User page) = subst (λ (r : Route). RouteTells a y.slot r) e (tells y a) in
    (route_right user sample y a l past h ∙ ap table_route e, subst (λ (o : Option SlotView). UserGet (InUser page) 0 a.page o) (sym (h.slot_is ∙ t.1)) (ap InUser t.2, refl))

-- a user page is one of the machine's
pub user_below : (user sample page : ℕ) (y : Looked) (a : Aim) (l : Seen) (past : List Entry) → LookIs user a.page sample y l past → route_of y a ≡ User page → page < user
user_below user sample page y a l past h e =
    let t : RouteTells a y.slot (User page) = subst (λ (r : Route). RouteTells a y.slot r) e (tells y a) in
    let s = t.0 in
    let i : IsSightOf user a.page s = subst (λ (o : Option SlotView). IfSome o (IsSightOf user a.page)) t.1 h.sight in
    below (user_page_of s a.page) page s.base s.pages s.user a.page user t.2 refl i.over_page.over i.users
  where
    below : (p page base pages first h user : ℕ) → page ≡ p → p ≡ (first + h) - base → (leb base h && ltb h (base + pages)) ≡ true → first + pages ≤ user → page < user
    below p page base pages first h user e f over le = grind (arith, nat_tests)

-- a file's route is to the file and the index that the slot gives

pub record FileSeen (a : Aim) (l : Seen) (file index : ℕ) (past : List Entry) : Type 0 where
  pub right_route : route_seen a l past ≡ ToFile
  pub file_is : l.file ≡ Some file
  pub index_is : index_in a.page (looked_slot l past) ≡ Some index
  pub small : index < PAGE_LIMIT

pub file_right : (user sample file index : ℕ) (y : Looked) (a : Aim) (l : Seen) (past : List Entry) → LookIs user a.page sample y l past → route_of y a ≡ File file index → FileSeen a l file index past
file_right user sample file index y a l past h e =
    let t : RouteTells a y.slot (File file index) = subst (λ (r : Route). RouteTells a y.slot r) e (tells y a) in
    let s = t.0 in
    let i : IsSightOf user a.page s = subst (λ (o : Option SlotView). IfSome o (IsSightOf user a.page)) t.1 h.sight in
    record {
      right_route = route_right user sample y a l past h ∙ ap table_route e;
      file_is = h.file_is ∙ (ap file_of t.1 ∙ t.2);
      index_is = ap (index_in a.page) (h.slot_is ∙ t.1) ∙ (cond-true (leb s.base (s.index + a.page)) (Some (index_of s a.page)) None (from s.base s.pages s.index a.page i.over_page.over) ∙ ap (λ (n : ℕ). Some n) (sym t.3));
      small = below (index_of s a.page) index s.base s.pages s.index a.page t.3 refl i.over_page.over i.over_page.index_fits;
    }
  where
    from : (base pages first h : ℕ) → (leb base h && ltb h (base + pages)) ≡ true → leb base (first + h) ≡ true
    from base pages first h over = grind (arith, nat_tests)

    below : (p index base pages first h : ℕ) → index ≡ p → p ≡ (first + h) - base → (leb base h && ltb h (base + pages)) ≡ true → first + pages ≤ PAGE_LIMIT → index < PAGE_LIMIT
    below p index base pages first h e f over le = grind (arith, nat_tests)
