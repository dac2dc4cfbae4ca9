-- An entry is determined by its kind and by what stands before it.
use Rattle.std.proofs.Common.{◌%◌, ◌+◌, ◌-◌, ◌<◌, Bool, List, None, Option, Some, ap, arith, inl, inr, length, refl, subst, sym, ℕ, ◌∙◌, ◌≡◌, ◌≤◌, ◌⊎◌}
use Rattle.std.proofs.lemmas.Bool.{both_ways, cases_lt}
use Rattle.gm_base.specs.Aim.{Aim}
use Rattle.gm_base.specs.Scripts.{Orders}
use Rattle.gm_base.specs.declared.calls.Ioctl.{Ioctl}
use Rattle.gm_base.specs.declared.script.Command.{Command}
use Rattle.gm_base.specs.declared.script.Command.TheVariants.{Touch as TouchCommand, Call as CallCommand}
use Rattle.gm_base.specs.declared.values.Folio.{Folio}
use Rattle.gm_base.specs.declared.values.Kind.{Kind}
use Rattle.gm_base.specs.declared.values.Level.{Level}
use Rattle.gm_base.specs.declared.values.Level.TheVariants.{Block, Small}
use Rattle.gm_base.specs.declared.values.Op.{Op}
use Rattle.gm_base.specs.declared.values.Op.TheVariants.{Read, Write}
use Rattle.gm_flat.specs.Effects.{Addition, get_addition}
use Rattle.gm_flat.specs.FlatState.{Flat, FolioState, cached, in_use, is_free}
use Rattle.gm_flat.specs.Histories.{Fault as AFault, Faulting, NoFault, Seen}
use Rattle.gm_flat.specs.Mappings.{Mapping}
use Rattle.gm_flat.specs.NamedPage.{Named}
use Rattle.gm_flat.specs.Replay.{flat, get_adds, index_in, looked_slot, states}
use Rattle.gm_flat.specs.RightInstall.{CachedOrNew, FileGet, GetBy, IsShut, RightGet, UserGet}
use Rattle.gm_flat.specs.RightLevel.{LevelIs}
use Rattle.gm_flat.specs.RightLives.{AddsOne, GetAdds, IsLowestBlock, IsLowestFrame, IsNext, RightGetAdds, TakesBlock, UsesFirst}
use Rattle.gm_flat.specs.RightLook.{ExitIsRight, IsFull, LookIsRight, NotCached, RightExit, RightSeen, Route, ToAgain, ToFault, ToFile, ToMmio, ToUser, route_seen}
use Rattle.gm_flat.specs.RightTouch.{IsValue}
use Rattle.gm_flat.specs.Words.{word_of}
use Rattle.gm_flat.specs.declared.effect.Backing.{Backing}
use Rattle.gm_flat.specs.declared.effect.Backing.TheVariants.{Folio as InFolio, User}
use Rattle.gm_flat.specs.declared.effect.Exit.{Exit}
use Rattle.gm_flat.specs.declared.effect.Exit.TheVariants.{Fault as MemoryFault, Mmio, NoFrame}
use Rattle.gm_flat.specs.declared.entry.Entry.{Entry}
use Rattle.gm_flat.specs.declared.entry.What.TheVariants.{Get, Install, Left, Look, Miss, Touch}
use Rattle.gm_flat.specs.declared.views.SlotView.{SlotView}
use Rattle.gm_laws.proofs.Adds.{Made, get_made}
use Rattle.gm_laws.proofs.Kit.{none_is}
use Rattle.gm_laws.specs.May.{Backs, MayInstall, MayMiss, MayTouch, ServedBy}

-- commands
touch_command : (a b : Aim) (c : Option Command) → c ≡ Some (TouchCommand a) → c ≡ Some (TouchCommand b) → a ≡ b
touch_command a b c e f = go a b (sym e ∙ f)
  where
    go : (a b : Aim) → Some (TouchCommand a) ≡ Some (TouchCommand b) → a ≡ b
    go a b e = cc

pub call_command : (a b : Ioctl) (c : Option Command) → c ≡ Some (CallCommand a) → c ≡ Some (CallCommand b) → a ≡ b
call_command a b c e f = go a b (sym e ∙ f)
  where
    go : (a b : Ioctl) → Some (CallCommand a) ≡ Some (CallCommand b) → a ≡ b
    go a b e = cc

-- touches
backs_same : (b c : Backing) (o : Option Named) → Backs b o → Backs c o → b ≡ c
backs_same b c None x y = absurd x
backs_same b c (Some m) x y = sym x ∙ y

served_same : (a : Aim) (b c : Backing) (l k : Level) (f g here : ℕ) (F L : Option Mapping) → ServedBy a b l f here F L → ServedBy a c k g here F L → (b ≡ c) × (l ≡ k) × (f ≡ g)
served_same a b c l k f g here (Some m) L x y = (backs_same b c (m.gives a.page) x.2 y.2, x.1 ∙ sym y.1, x.0 ∙ sym y.0)
served_same a b c l k f g here None (Some m) x y = (backs_same b c (m.gives a.page) x.2 y.2, x.1 ∙ sym y.1, x.0 ∙ sym y.0)
served_same a b c l k f g here None None x y = absurd x

value_same : (op : Op) (word v w : ℕ) → IsValue op word v → IsValue op word w → v ≡ w
value_same Read word v w x y = x ∙ sym y
value_same (Write z) word v w x y = x ∙ sym y

touch_is : (a : Aim) (b c : Backing) (l k : Level) (v w f g : ℕ) → b ≡ c → l ≡ k → v ≡ w → f ≡ g → Touch a b l v f ≡ Touch a c k w g
touch_is a b c l k v w f g p q r s = cc

touch_by : (o : Orders) (u : ℕ) (a : Aim) (b c : Backing) (l k : Level) (v w f g : ℕ) (past : List Entry) → MayTouch o u a b l v f past → MayTouch o u a c k w g past → Touch a b l v f ≡ Touch a c k w g
touch_by o u a b c l k v w f g past x y =
    let s = served_same a b c l k f g (length past) _ _ x.is_served y.is_served in
    touch_is a b c l k v w f g s.0 s.1 (value_same a.op (word_of b a.word past) v w x.right_value (subst (λ (z : Backing). IsValue a.op (word_of z a.word past) w) (sym s.0) y.right_value)) s.2

pub touch_same : (o : Orders) (u : ℕ) (a d : Aim) (b c : Backing) (l k : Level) (v w f g : ℕ) (past : List Entry) → MayTouch o u a b l v f past → MayTouch o u d c k w g past → Touch a b l v f ≡ Touch d c k w g
touch_same o u a d b c l k v w f g past x y =
    let e = touch_command a d _ x.command y.command in
    touch_by o u a b c l k v w f g past x (subst (λ (z : Aim). MayTouch o u z c k w g past) (sym e) y) ∙ ap (λ (z : Aim). Touch z c k w g) e

pub miss_same : (o : Orders) (u : ℕ) (a d : Aim) (past : List Entry) → MayMiss o u a past → MayMiss o u d past → Miss a ≡ Miss d
miss_same o u a d past x y = ap (λ (z : Aim). Miss z) (touch_command a d _ x.command y.command)

no_serve : (a : Aim) (b : Backing) (l : Level) (f here : ℕ) (F L : Option Mapping) → ServedBy a b l f here F L → F ≡ None → L ≡ None → ⊥
no_serve a b l f here (Some m) L x p q = none_is m (sym p)
no_serve a b l f here None (Some m) x p q = none_is m (sym q)
no_serve a b l f here None None x p q = x

pub touch_miss : (o : Orders) (u : ℕ) (a d : Aim) (b : Backing) (l : Level) (v f : ℕ) (past : List Entry) → MayTouch o u a b l v f past → MayMiss o u d past → ⊥
touch_miss o u a d b l v f past x y =
    let z : MayMiss o u a past = subst (λ (z : Aim). MayMiss o u z past) (sym (touch_command a d _ x.command y.command)) y in
    no_serve a b l f (length past) _ _ x.is_served z.not_served.no_fill z.not_served.no_leaf

-- looks
look_is : (at ct : ℕ) (s r : Option ℕ) (k j : Kind) (f g : Option ℕ) → at ≡ ct → s ≡ r → k ≡ j → f ≡ g → Look at s k f ≡ Look ct r j g
look_is at ct s r k j f g p q t u = cc

look_by : (at : ℕ) (s r : Option ℕ) (k j : Kind) (f g : Option ℕ) (page sample : ℕ) (past : List Entry) → LookIsRight at s k f page sample past → LookIsRight at r j g page sample past → Look at s k f ≡ Look at r j g
look_by at s r k j f g page sample past x y = look_is at at s r k j f g refl (x.right_slot ∙ sym y.right_slot) (x.right_attr ∙ sym y.right_attr) (x.right_file ∙ sym y.right_file)

look_of : (at : ℕ) (s r : Option ℕ) (k j : Kind) (f g : Option ℕ) (past : List Entry) (z : AFault) → RightSeen at s k f past z → RightSeen at r j g past z → Look at s k f ≡ Look at r j g
look_of at s r k j f g past (Faulting a m (Some p) l q) x y = look_by at s r k j f g a.page p past x y
look_of at s r k j f g past (Faulting a m None l q) x y = absurd x
look_of at s r k j f g past NoFault x y = absurd x

pub look_at : (at ct : ℕ) (s r : Option ℕ) (k j : Kind) (f g : Option ℕ) (past : List Entry) (z : AFault) → at ≡ ct → RightSeen at s k f past z → RightSeen ct r j g past z → Look at s k f ≡ Look ct r j g
look_at at ct s r k j f g past z e x y = look_of at s r k j f g past z x (subst (λ (n : ℕ). RightSeen n r j g past z) (sym e) y) ∙ ap (λ (n : ℕ). Look n r j g) e

-- exits
route_clash : (r : Route) → r ≡ ToFault → r ≡ ToMmio → ⊥
route_clash r e f = go (sym e ∙ f)
  where
    go : ToFault ≡ ToMmio → ⊥
    go e = cc

route_clash2 : (r : Route) → r ≡ ToFault → r ≡ ToFile → ⊥
route_clash2 r e f = go (sym e ∙ f)
  where
    go : ToFault ≡ ToFile → ⊥
    go e = cc

route_clash3 : (r : Route) → r ≡ ToMmio → r ≡ ToFile → ⊥
route_clash3 r e f = go (sym e ∙ f)
  where
    go : ToMmio ≡ ToFile → ⊥
    go e = cc

fault_exit : (a b c d e f : ℕ) → a ≡ d → b ≡ e → c ≡ f → MemoryFault a b c ≡ MemoryFault d e f
fault_exit a b c d e f p q r = cc

again_fault : (r : Route) → r ≡ ToAgain → r ≡ ToFault → ⊥
again_fault r e f = go (sym e ∙ f)
  where
    go : ToAgain ≡ ToFault → ⊥
    go e = cc

again_mmio : (r : Route) → r ≡ ToAgain → r ≡ ToMmio → ⊥
again_mmio r e f = go (sym e ∙ f)
  where
    go : ToAgain ≡ ToMmio → ⊥
    go e = cc

again_file : (r : Route) → r ≡ ToAgain → r ≡ ToFile → ⊥
again_file r e f = go (sym e ∙ f)
  where
    go : ToAgain ≡ ToFile → ⊥
    go e = cc

exit_same : (frames : ℕ) (w u : Exit) (a : Aim) (l : Seen) (past : List Entry) → ExitIsRight frames w a l past → ExitIsRight frames u a l past → w ≡ u
exit_same frames (MemoryFault f g s) (MemoryFault h i j) a l past x y = fault_exit f g s h i j (x.right_flags ∙ sym y.right_flags) (x.right_gpa ∙ sym y.right_gpa) (x.right_size ∙ sym y.right_size)
exit_same frames (MemoryFault f g s) (Mmio h) a l past x y = absurd (route_clash (route_seen a l past) x.right_route y.right_route)
exit_same frames (MemoryFault f g s) NoFrame a l past x y = absurd (route_clash2 (route_seen a l past) x.right_route y.right_route)
exit_same frames (Mmio h) (MemoryFault f g s) a l past x y = absurd (route_clash (route_seen a l past) y.right_route x.right_route)
exit_same frames (Mmio h) (Mmio i) a l past x y = ap (λ (n : ℕ). Mmio n) (x.right_gpa ∙ sym y.right_gpa)
exit_same frames (Mmio h) NoFrame a l past x y = absurd (route_clash3 (route_seen a l past) x.right_route y.right_route)
exit_same frames NoFrame (MemoryFault f g s) a l past x y = absurd (route_clash2 (route_seen a l past) y.right_route x.right_route)
exit_same frames NoFrame (Mmio h) a l past x y = absurd (route_clash3 (route_seen a l past) y.right_route x.right_route)
exit_same frames NoFrame NoFrame a l past x y = refl

pub left_same : (frames : ℕ) (w u : Exit) (past : List Entry) (z : AFault) → RightExit frames w past z → RightExit frames u past z → Left w ≡ Left u
left_same frames w u past (Faulting a m s (Some l) q) x y = ap (λ (e : Exit). Left e) (exit_same frames w u a l past x y)
left_same frames w u past (Faulting a m s None q) x y = absurd x
left_same frames w u past NoFault x y = absurd x

-- first uses
pub lowest_same : (frames r q : ℕ) (xs : List FolioState) → IsLowestFrame frames r xs → IsLowestFrame frames q xs → r ≡ q
lowest_same frames r q xs x y = elim (cases_lt r q) [
  | inl lt ↦ absurd (both_ways (is_free r xs) (y.lowest r lt) x.free)
  | inr ge ↦ elim (cases_lt q r) [
    | inl lt ↦ absurd (both_ways (is_free q xs) (x.lowest q lt) y.free)
    | inr le ↦ omega arith
  ]
]

block_same : (frames r q : ℕ) (xs : List FolioState) → IsLowestBlock frames r xs → IsLowestBlock frames q xs → r ≡ q
block_same frames r q xs x y = elim (cases_lt r q) [
  | inl lt ↦ absurd (y.lowest r lt x.block)
  | inr ge ↦ elim (cases_lt q r) [
    | inl lt ↦ absurd (x.lowest q lt y.block)
    | inr le ↦ omega arith
  ]
]

pub record OneAddition (d e : Addition) : Type 0 where
  pub pages : d.pages ≡ e.pages
  pub frame : d.frame ≡ e.frame
  pub index : d.index ≡ e.index

pub uses_same : (frames i : ℕ) (d e : Addition) (f : Flat) → d.file ≡ e.file → UsesFirst frames i d f → UsesFirst frames i e f → OneAddition d e
uses_same frames i d e f same (inl x) (inl y) = record { pages = x.pages ∙ sym y.pages; frame = block_same frames d.frame e.frame f.folios x.frame y.frame; index = x.index_is ∙ sym y.index_is }
uses_same frames i d e f same (inl x) (inr y) = absurd (y.1 (subst (λ (n : ℕ). TakesBlock frames n i f) same x.takes))
uses_same frames i d e f same (inr x) (inl y) = absurd (x.1 (subst (λ (n : ℕ). TakesBlock frames n i f) (sym same) y.takes))
uses_same frames i d e f same (inr x) (inr y) = record { pages = x.0.pages ∙ sym y.0.pages; frame = lowest_same frames d.frame e.frame f.folios x.0.frame y.0.frame; index = x.0.index_is ∙ sym y.0.index_is }

pub one_full : (frames i : ℕ) (d : Addition) (f : Flat) → AddsOne frames i d f → IsFull frames f.folios → ⊥
one_full frames i d f x y = both_ways (is_free d.frame f.folios) (y d.frame x.frame.below) x.frame.free

pub uses_full : (frames i : ℕ) (d : Addition) (f : Flat) → UsesFirst frames i d f → IsFull frames f.folios → ⊥
uses_full frames i d f (inl x) y = both_ways (is_free (d.frame + 0) f.folios) (y (d.frame + 0) (below d.frame frames x.frame.block.below)) (x.frame.block.free 0 (omega arith))
  where
    below : (r n : ℕ) → r + 512 ≤ n → r + 0 < n
    below r n h = omega arith
uses_full frames i d f (inr x) y = one_full frames i d f x.0 y

-- gets
pub folio_is : (a b : Folio) → a.serial ≡ b.serial → a.frame ≡ b.frame → a ≡ b
folio_is a b p q = ap (λ (n : ℕ). folio n a.frame) p ∙ ap (λ (n : ℕ). folio b.serial n) q
  where
    folio : ℕ → ℕ → Folio
    folio s r = record { serial = s; frame = r }

get_is : (b c : Backing) (m n : ℕ) → b ≡ c → m ≡ n → Get b m ≡ Get c n
get_is b c m n p q = cc

new_folio : (fo go : Folio) (m n F i : ℕ) (d e : Addition) (f : Flat) → Made fo m F i d → Made go n F i e → IsNext d f → IsNext e f → OneAddition d e → Get (InFolio fo) m ≡ Get (InFolio go) n
new_folio fo go m n F i d e f x y p q s =
    let k : m ≡ n = sym x.pages_is ∙ (s.pages ∙ y.pages_is) in
    get_is (InFolio fo) (InFolio go) m n (ap (λ (z : Folio). InFolio z) (folio_is fo go
    (less fo.serial go.serial d.serial e.serial (i % m) (i % n) (ap (λ (z : ℕ). i % z) k) x.serial_is y.serial_is x.serial_le y.serial_le (p ∙ sym q))
    (less fo.frame go.frame d.frame e.frame (i % m) (i % n) (ap (λ (z : ℕ). i % z) k) x.frame_is y.frame_is x.frame_le y.frame_le s.frame))) k
  where
    less : (a b c d k l : ℕ) → k ≡ l → c ≡ a - k → d ≡ b - l → k ≤ a → l ≤ b → c ≡ d → a ≡ b
    less a b c d k l e p q r s t = omega arith

new_get : (frames m n F i : ℕ) (b c : Backing) (f : Flat) (d e : Option Addition) → get_addition b m (Some F) (Some i) f.files ≡ d → get_addition c n (Some F) (Some i) f.files ≡ e → GetAdds frames (Some i) d f → GetAdds frames (Some i) e f → Get b m ≡ Get c n
new_get frames m n F i (InFolio fo) (InFolio go) f (Some d) (Some e) p q x y =
    let u = get_made fo m F i f.files d p in
    let v = get_made go n F i f.files e q in
    new_folio fo go m n F i d e f u v x.0 y.0 (uses_same frames i d e f (u.file_is ∙ sym v.file_is) x.1 y.1)
new_get frames m n F i (User u) c f (Some d) e p q x y = absurd (none_is d p)
new_get frames m n F i (InFolio fo) (User u) f d (Some e) p q x y = absurd (none_is e q)
new_get frames m n F i (InFolio fo) (User u) f d None p q x y = absurd y
new_get frames m n F i b c f None e p q x y = absurd x
new_get frames m n F i (InFolio fo) (InFolio go) f (Some d) None p q x y = absurd y

cached_get : (frames m n F i : ℕ) (b c : Backing) (f : Flat) (o : Option Folio) → CachedOrNew b m o → CachedOrNew c n o → (0 < m → GetAdds frames (Some i) (get_addition b m (Some F) (Some i) f.files) f) → (0 < n → GetAdds frames (Some i) (get_addition c n (Some F) (Some i) f.files) f) → Get b m ≡ Get c n
cached_get frames m n F i b c f (Some fo) x y p q = get_is b c m n (x.0 ∙ sym y.0) (x.1 ∙ sym y.1)
cached_get frames m n F i b c f None x y p q = new_get frames m n F i b c f _ _ refl refl (p x) (q y)

file_get : (frames m n : ℕ) (F I : Option ℕ) (b c : Backing) (f : Flat) → FileGet b m F I f → FileGet c n F I f → (0 < m → GetAdds frames I (get_addition b m F I f.files) f) → (0 < n → GetAdds frames I (get_addition c n F I f.files) f) → Get b m ≡ Get c n
file_get frames m n (Some F) (Some i) b c f x y p q = cached_get frames m n F i b c f (cached F i f.cache) x.1 y.1 p q
file_get frames m n (Some F) None b c f x y p q = absurd x
file_get frames m n None I b c f x y p q = absurd x

user_get : (m n page : ℕ) (b c : Backing) (o : Option SlotView) → UserGet b m page o → UserGet c n page o → Get b m ≡ Get c n
user_get m n page b c (Some s) x y = get_is b c m n (x.0 ∙ sym y.0) (x.1 ∙ sym y.1)
user_get m n page b c None x y = absurd x

get_by : (r : Route) (frames m n : ℕ) (b c : Backing) (a : Aim) (l : Seen) (past : List Entry) → GetBy r b m a l past → GetBy r c n a l past → (0 < m → GetAdds frames (index_in a.page (looked_slot l past)) (get_addition b m l.file (index_in a.page (looked_slot l past)) (flat past).files) (flat past)) → (0 < n → GetAdds frames (index_in a.page (looked_slot l past)) (get_addition c n l.file (index_in a.page (looked_slot l past)) (flat past).files) (flat past)) → Get b m ≡ Get c n
get_by ToUser frames m n b c a l past x y p q = user_get m n a.page b c (looked_slot l past) x y
get_by ToFile frames m n b c a l past x y p q = file_get frames m n l.file (index_in a.page (looked_slot l past)) b c (flat past) x y p q
get_by ToAgain frames m n b c a l past x y p q = absurd x
get_by ToFault frames m n b c a l past x y p q = absurd x
get_by ToMmio frames m n b c a l past x y p q = absurd x

pub get_same : (frames m n : ℕ) (b c : Backing) (past : List Entry) (z : AFault) → RightGet b m past z → RightGet c n past z → RightGetAdds frames m z (get_adds b m z (states past)) past → RightGetAdds frames n z (get_adds c n z (states past)) past → Get b m ≡ Get c n
get_same frames m n b c past (Faulting a k s (Some l) q) x y u v = get_by (route_seen a l past) frames m n b c a l past x y u v
get_same frames m n b c past (Faulting a k s None q) x y u v = absurd x
get_same frames m n b c past NoFault x y u v = absurd x

-- an exit and a Get exclude each other
get_routed : (r : Route) (b : Backing) (m : ℕ) (a : Aim) (l : Seen) (past : List Entry) → GetBy r b m a l past → (r ≡ ToFault → ⊥) × (r ≡ ToMmio → ⊥)
get_routed ToUser b m a l past x = (λ e. route_user e, λ e. route_user2 e)
  where
    route_user : ToUser ≡ ToFault → ⊥
    route_user e = cc

    route_user2 : ToUser ≡ ToMmio → ⊥
    route_user2 e = cc
get_routed ToFile b m a l past x = (λ e. route_file e, λ e. route_file2 e)
  where
    route_file : ToFile ≡ ToFault → ⊥
    route_file e = cc

    route_file2 : ToFile ≡ ToMmio → ⊥
    route_file2 e = cc
get_routed ToAgain b m a l past x = absurd x
get_routed ToFault b m a l past x = absurd x
get_routed ToMmio b m a l past x = absurd x

full_get : (frames m F i : ℕ) (b : Backing) (f : Flat) (d : Option Addition) → GetAdds frames (Some i) d f → IsFull frames f.folios → ⊥
full_get frames m F i b f (Some d) x y = uses_full frames i d f x.1 y
full_get frames m F i b f None x y = x

no_cached : (frames m F i : ℕ) (b : Backing) (f : Flat) (o : Option Folio) → CachedOrNew b m o → o ≡ None → (0 < m → GetAdds frames (Some i) (get_addition b m (Some F) (Some i) f.files) f) → IsFull frames f.folios → ⊥
no_cached frames m F i b f (Some fo) x e p y = none_is fo (sym e)
no_cached frames m F i b f None x e p y = full_get frames m F i b f _ (p x) y

file_full : (frames m : ℕ) (F I : Option ℕ) (b : Backing) (f : Flat) → FileGet b m F I f → NotCached F I f → (0 < m → GetAdds frames I (get_addition b m F I f.files) f) → IsFull frames f.folios → ⊥
file_full frames m (Some F) (Some i) b f x n p y = no_cached frames m F i b f (cached F i f.cache) x.1 n.1 p y
file_full frames m (Some F) None b f x n p y = x
file_full frames m None I b f x n p y = x

left_get_by : (w : Exit) (frames m : ℕ) (b : Backing) (a : Aim) (l : Seen) (past : List Entry) → ExitIsRight frames w a l past → GetBy (route_seen a l past) b m a l past → (0 < m → GetAdds frames (index_in a.page (looked_slot l past)) (get_addition b m l.file (index_in a.page (looked_slot l past)) (flat past).files) (flat past)) → ⊥
left_get_by (MemoryFault f g s) frames m b a l past x y p = (get_routed (route_seen a l past) b m a l past y).0 x.right_route
left_get_by (Mmio f) frames m b a l past x y p = (get_routed (route_seen a l past) b m a l past y).1 x.right_route
left_get_by NoFrame frames m b a l past x y p = file_full frames m l.file (index_in a.page (looked_slot l past)) b (flat past) (subst (λ (r : Route). GetBy r b m a l past) x.right_route y) x.not_cached p x.full

pub left_get : (w : Exit) (frames m : ℕ) (b : Backing) (past : List Entry) (z : AFault) → RightExit frames w past z → RightGet b m past z → RightGetAdds frames m z (get_adds b m z (states past)) past → ⊥
left_get w frames m b past (Faulting a k s (Some l) q) x y p = left_get_by w frames m b a l past x y p
left_get w frames m b past (Faulting a k s None q) x y p = x
left_get w frames m b past NoFault x y p = x

-- and neither comes where the slot was marked or the file is shut
shut_not : (F I : Option ℕ) (f : Flat) → IsShut F f → NotCached F I f → ⊥
shut_not (Some F) (Some i) f s n = both_ways (in_use F f.files) s n.0
shut_not (Some F) None f s n = n
shut_not None I f s n = n

shut_get : (b : Backing) (m : ℕ) (F I : Option ℕ) (f : Flat) → IsShut F f → FileGet b m F I f → ⊥
shut_get b m (Some F) (Some i) f s n = both_ways (in_use F f.files) s n.0
shut_get b m (Some F) None f s n = n
shut_get b m None I f s n = n

abbrev pub RetryNow : Aim → Seen → List Entry → Type 0
RetryNow a l past = (route_seen a l past ≡ ToAgain) ⊎ ((route_seen a l past ≡ ToFile) × IsShut l.file (flat past))

pub left_retry : (w : Exit) (frames : ℕ) (a : Aim) (l : Seen) (past : List Entry) → ExitIsRight frames w a l past → RetryNow a l past → ⊥
left_retry (MemoryFault f g s) frames a l past x (inl y) = again_fault (route_seen a l past) y x.right_route
left_retry (MemoryFault f g s) frames a l past x (inr y) = route_clash2 (route_seen a l past) x.right_route y.0
left_retry (Mmio f) frames a l past x (inl y) = again_mmio (route_seen a l past) y x.right_route
left_retry (Mmio f) frames a l past x (inr y) = route_clash3 (route_seen a l past) x.right_route y.0
left_retry NoFrame frames a l past x (inl y) = again_file (route_seen a l past) y x.right_route
left_retry NoFrame frames a l past x (inr y) = shut_not l.file (index_in a.page (looked_slot l past)) (flat past) y.1 x.not_cached

pub get_retry : (b : Backing) (m : ℕ) (a : Aim) (l : Seen) (past : List Entry) → GetBy (route_seen a l past) b m a l past → RetryNow a l past → ⊥
get_retry b m a l past x (inl y) = subst (λ (r : Route). GetBy r b m a l past) y x
get_retry b m a l past x (inr y) = shut_get b m l.file (index_in a.page (looked_slot l past)) (flat past) y.1 (subst (λ (r : Route). GetBy r b m a l past) y.0 x)

-- installs
level_same : (l k : Level) (huge : Bool) (page : ℕ) (past : List Entry) → LevelIs l huge page past → LevelIs k huge page past → l ≡ k
level_same Block Block huge page past x y = refl
level_same Small Small huge page past x y = refl
level_same Block Small huge page past x y = absurd (y x)
level_same Small Block huge page past x y = absurd (x y)

install_page : (p q : ℕ) (past : List Entry) (z : AFault) → MayInstall p past z → MayInstall q past z → p ≡ q
install_page p q past (Faulting a m (Some s) (Some l) (Some g)) x y = x.0 ∙ sym y.0
install_page p q past (Faulting a m (Some s) (Some l) None) x y = absurd x
install_page p q past (Faulting a m (Some s) None g) x y = absurd x
install_page p q past (Faulting a m None l g) x y = absurd x
install_page p q past NoFault x y = absurd x

pub install_same : (p q : ℕ) (l k : Level) (huge : Bool) (past : List Entry) (z : AFault) → MayInstall p past z → MayInstall q past z → LevelIs l huge p past → LevelIs k huge q past → Install p l ≡ Install q k
install_same p q l k huge past z x y u v =
    let e = install_page p q past z x y in
    ap (λ (j : Level). Install p j) (level_same l k huge p past u (subst (λ (n : ℕ). LevelIs k huge n past) (sym e) v)) ∙ ap (λ (n : ℕ). Install n k) e
