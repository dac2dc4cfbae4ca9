-- What is named at the pages of a leaf that a fault installs.
use Rattle.std.proofs.Common.{◌≡◌, ℕ, ◌+◌, ◌-◌, ◌*◌, ◌/◌, ◌%◌, ◌<◌, ◌≤◌, ◌⊎◌, ◌&&◌, leb, ltb, List, Bool, true, false, Option, Some, None, arith, refl, sym, subst, cond, ◌∙◌, ap, inl, inr}
use Rattle.std.proofs.lemmas.Bool.Decides.{nat_tests}
use Rattle.gm_base.specs.Aim.{Aim}
use Rattle.gm_base.specs.Extent.{Extent, holds}
use Rattle.gm_base.specs.Leaf.{covers as leaf_covers}
use Rattle.gm_base.specs.declared.leaf.Leaf.{Leaf}
use Rattle.gm_base.specs.declared.numbers.TheConstants.{BLOCK_PAGES}
use Rattle.gm_base.specs.declared.values.Folio.{Folio}
use Rattle.gm_base.specs.declared.values.Kind.{Kind}
use Rattle.gm_base.specs.declared.values.Kind.TheVariants.{Private, Shared}
use Rattle.gm_base.specs.declared.values.Level.{Level}
use Rattle.gm_base.specs.declared.values.Level.TheVariants.{Small, Block}
use Rattle.gm_base.specs.declared.values.Op.TheVariants.{Read}
use Rattle.gm_flat.specs.Attribute.{attr_of}
use Rattle.gm_flat.specs.FlatState.{Flat, Triple, cached}
use Rattle.gm_flat.specs.Mappings.{block_of}
use Rattle.gm_flat.specs.NamedPage.{Named, file_named, folio_named, named, named_by, private_named, unmarked, user_named}
use Rattle.gm_flat.specs.RightLevel.{HasFrame, IsFrame, IsUserPage, IsWholeBlock, SlotCovers}
use Rattle.gm_flat.specs.Slots.{index_of, lies_over, slot_over}
use Rattle.gm_flat.specs.declared.effect.Backing.{Backing}
use Rattle.gm_flat.specs.declared.effect.Backing.TheVariants.{User, Folio as InFolio}
use Rattle.gm_flat.specs.declared.views.SlotView.{SlotView}
use Rattle.gm_laws.proofs.Kit.{some_same}
use Rattle.gm_mapping.specs.Alike.{BacksAt, GivesAs, GivesNamed, LieAlike, NamesLeaf, leaf_of, number_of, place_before}
use Rattle.gm_state.proofs.LeafLevels.{all_its_pages}
use Rattle.gm_state.specs.Levels.{IsLevel}
use Rattle.gm_vcpus.proofs.Putting.{put_page_below, writable_named}
use Rattle.gm_vcpus.specs.Puts.{Puts, may_be_written}
use Rattle.gm_vcpus.specs.Sights.{CanBeSeen}

-- the kind of what is named is the page's attribute

folio_kind : (o : Option Folio) (m : Named) → folio_named o ≡ Some m → m.kind ≡ Private
folio_kind None m e = absurd (cc)
folio_kind (Some folio) m e = sym (ap (λ (n : Named). n.kind) (some_same _ m e))

file_kind : (index : ℕ) (cache : List Triple) (file : Option ℕ) (m : Named) → file_named index cache file ≡ Some m → m.kind ≡ Private
file_kind index cache None m e = absurd (cc)
file_kind index cache (Some file) m e = folio_kind (cached file index cache) m e

slot_kind : (page : ℕ) (cache : List Triple) (kind : Kind) (o : Option SlotView) (m : Named) → named_by page cache kind o ≡ Some m → m.kind ≡ kind
slot_kind page cache Private None m e = absurd (cc)
slot_kind page cache Private (Some s) m e = file_kind (index_of s page) cache s.file m e
slot_kind page cache Shared None m e = absurd (cc)
slot_kind page cache Shared (Some s) m e = sym (ap (λ (n : Named). n.kind) (some_same _ m e))

named_kind : (f : Flat) (page : ℕ) (m : Named) → named f page ≡ Some m → m.kind ≡ attr_of page f.attrs
named_kind f page m e = slot_kind page f.cache (attr_of page f.attrs) (unmarked (slot_over f.slots page)) m e

-- a user page that is named is one of the machine's
user_named_below : (user u page : ℕ) (a : Aim) (f : Flat) (m : Named) → CanBeSeen user f → named f page ≡ Some m → m.backing ≡ User u → u < user
user_named_below user u page a f m c e b = put_page_below user u (record a { page = page; kind = m.kind; op = Read }) f c (record {
  gives = m;
  named_is = e;
  kind_is = refl;
  backing_is = b;
  writable_is = writable_named f page m e;
  permitted = refl;
})

-- a leaf of one page

-- a user page is one of the machine
abbrev pub IsUserBelow : ℕ → Backing → Type 0
IsUserBelow user (User page) = page < user
IsUserBelow user (InFolio folio) = Unit {0}

backs_itself : (user page : ℕ) (b : Backing) → IsUserBelow user b → BacksAt user (place_before (page - page) b) (page - page) b
backs_itself user page (User u) h = (same u page, h)
  where
    same : (u p : ℕ) → u ≡ (u - (p - p)) + (p - p)
    same u p = omega arith
backs_itself user page (InFolio folio) h = same folio.frame page
  where
    same : (u p : ℕ) → u ≡ (u - (p - p)) + (p - p)
    same u p = omega arith

abbrev pub new_leaf : Level → Aim → Backing → Flat → Leaf
new_leaf level a b f = leaf_of level a.page a.kind b (may_be_written a.kind (slot_over f.slots a.page))

names_page : (user : ℕ) (a : Aim) (b : Backing) (f : Flat) → Puts a b f → IsUserBelow user b → NamesLeaf user (new_leaf Small a b f) f
names_page user a b f p u h c =
    subst (λ (x : ℕ). GivesAs user (new_leaf Small a b f) x (named f x)) (one_page a.page h c)
    (subst (λ (o : Option Named). GivesAs user (new_leaf Small a b f) a.page o) (sym p.named_is)
    (record { right_writable = p.writable_is; right_backing = subst (λ (x : Backing). BacksAt user (place_before (a.page - a.page) b) (a.page - a.page) x) (sym p.backing_is) (backs_itself user a.page b u) }))
  where
    one_page : (page h : ℕ) → (leb page h && ltb h (page + 1)) ≡ true → page ≡ h
    one_page page h e = grind (arith, nat_tests)

-- a leaf of a block

-- the number of the access's page in its block, and of another page
abbrev place_in : ℕ → ℕ
place_in page = page - (block_of page).lo

in_block : (page : ℕ) → ((block_of page).lo + place_in page ≡ page) × (place_in page < BLOCK_PAGES)
in_block page = (whole page, few page)
  where
    whole : (p : ℕ) → 512 * (p / 512) + (p - 512 * (p / 512)) ≡ p
    whole p = grind (arith, nat_tests)

    few : (p : ℕ) → p - 512 * (p / 512) < 512
    few p = grind (arith, nat_tests)

page_in_block : (page h : ℕ) → leaf_covers (leaf_of Block page Shared (User 0) false) h ≡ true → ((block_of page).lo + (h - (block_of page).lo) ≡ h) × (h - (block_of page).lo < BLOCK_PAGES)
page_in_block page h c = (whole (512 * (page / 512)) h c, few (512 * (page / 512)) h c)
  where
    whole : (a h : ℕ) → (leb a h && ltb h (a + 512)) ≡ true → a + (h - a) ≡ h
    whole a h c = grind (arith, nat_tests)

    few : (a h : ℕ) → (leb a h && ltb h (a + 512)) ≡ true → h - a < 512
    few a h c = grind (arith, nat_tests)

-- what a page of the block is named as, but for its backing, is what the access's page is
alike_written : (huge : Bool) (user : ℕ) (a : Aim) (b : Backing) (f : Flat) (range : Option Extent) (h j : ℕ) (m : Named) → CanBeSeen user f → Puts a b f → IsWholeBlock huge a.page f range → (block_of a.page).lo + j ≡ h → j < BLOCK_PAGES → named f h ≡ Some m → m.writable ≡ may_be_written a.kind (slot_over f.slots a.page)
alike_written huge user a b f range h j m c p w e lt n =
    let kinds : m.kind ≡ a.kind = named_kind f h m n ∙ (w.one_kind h (held (block_of a.page).lo j h e lt) ∙ (sym (named_kind f a.page p.gives p.named_is) ∙ p.kind_is)) in
    writable_named f h m n ∙ (ap (λ (k : Kind). may_be_written k (slot_over f.slots h)) kinds ∙ ap (λ (o : Option SlotView). may_be_written a.kind o) (one_slot (slot_over f.slots a.page) refl w.one_slot))
  where
    held : (l j h : ℕ) → l + j ≡ h → j < 512 → (leb l h && ltb h (l + 512)) ≡ true
    held l j h e lt = grind (arith, nat_tests)

    inside : (l j h base end : ℕ) → l + j ≡ h → j < 512 → base ≤ l → l + 512 ≤ end → (leb base h && ltb h end) ≡ true
    inside l j h base end e lt g k = grind (arith, nat_tests)

    one_slot : (o : Option SlotView) → slot_over f.slots a.page ≡ o → SlotCovers (block_of a.page) o → slot_over f.slots h ≡ slot_over f.slots a.page
    one_slot None e k = absurd k
    one_slot (Some s) g k = all_its_pages a.page h s f.slots c.stand.lie_apart g (inside (block_of a.page).lo j h s.base (s.base + s.pages) e lt k.0 k.1) ∙ sym g

number : (x y : ℕ) → User x ≡ User y → x ≡ y
number x y e = cc

-- a block of user pages from this one on
user_at : (first : ℕ) (o : Option Named) (m : Named) → o ≡ Some m → IsUserPage first o → m.backing ≡ User first
user_at first None m e u = absurd u
user_at first (Some n) m e u = ap (λ (x : Named). x.backing) (some_same m n (sym e)) ∙ u

block_of_users : (user first : ℕ) (a : Aim) (b : Backing) (f : Flat) (h : ℕ) (o : Option Named) → CanBeSeen user f → Puts a b f → first % BLOCK_PAGES ≡ 0 → b ≡ User (first + place_in a.page) → named f h ≡ o → IsUserPage (first + (h - (block_of a.page).lo)) o → ((m : Named) → o ≡ Some m → m.writable ≡ may_be_written a.kind (slot_over f.slots a.page)) → GivesAs user (new_leaf Block a b f) h o
block_of_users user first a b f h None c p al e n u w = absurd u
block_of_users user first a b f h (Some m) c p al e n u w = record {
  right_writable = w m refl;
  right_backing = subst (λ (x : Backing). BacksAt user (place_before (place_in a.page) x) (h - (block_of a.page).lo) m.backing) (sym e)
      (subst (λ (x : Backing). BacksAt user (place_before (place_in a.page) (User (first + place_in a.page))) (h - (block_of a.page).lo) x) (sym u)
      (back first (place_in a.page) (h - (block_of a.page).lo), user_named_below user (first + (h - (block_of a.page).lo)) h a f m c n u));
}
  where
    back : (p k j : ℕ) → p + j ≡ ((p + k) - k) + j
    back p k j = omega arith

-- a block of frames from this one on
frame_back : (user first k j : ℕ) (b n : Backing) → HasFrame (first + k) b → HasFrame (first + j) n → BacksAt user (place_before k b) j n
frame_back user first k j (User u) n h g = absurd h
frame_back user first k j (InFolio folio) (User u) h g = absurd g
frame_back user first k j (InFolio folio) (InFolio other) h g = back folio.frame other.frame first k j h g
  where
    back : (x y p k j : ℕ) → x ≡ p + k → y ≡ p + j → y ≡ (x - k) + j
    back x y p k j h g = omega arith

frame_of_some : (first : ℕ) (o : Option Named) (m : Named) → o ≡ Some m → IsFrame first o → HasFrame first m.backing
frame_of_some first None m e u = absurd u
frame_of_some first (Some n) m e u = subst (λ (x : Named). HasFrame first x.backing) (some_same n m e) u

block_of_frames : (user first : ℕ) (a : Aim) (b : Backing) (f : Flat) (h : ℕ) (o : Option Named) → HasFrame (first + place_in a.page) b → IsFrame (first + (h - (block_of a.page).lo)) o → ((m : Named) → o ≡ Some m → m.writable ≡ may_be_written a.kind (slot_over f.slots a.page)) → GivesAs user (new_leaf Block a b f) h o
block_of_frames user first a b f h None e u w = absurd u
block_of_frames user first a b f h (Some m) e u w = record {
  right_writable = w m refl;
  right_backing = frame_back user first (place_in a.page) (h - (block_of a.page).lo) b m.backing e u;
}

-- the pages of the block are consecutive user pages, or frames
abbrev AreUsers : ℕ → ℕ → Flat → Type 0
AreUsers first page f = (k : ℕ) → k < BLOCK_PAGES → IsUserPage (first + k) (named f ((block_of page).lo + k))

abbrev AreFrames : ℕ → ℕ → Flat → Type 0
AreFrames first page f = (k : ℕ) → k < BLOCK_PAGES → IsFrame (first + k) (named f ((block_of page).lo + k))

names_block : (huge : Bool) (user : ℕ) (a : Aim) (b : Backing) (f : Flat) (range : Option Extent) → CanBeSeen user f → Puts a b f → IsWholeBlock huge a.page f range → NamesLeaf user (new_leaf Block a b f) f
names_block huge user a b f range c p w h cover =
    let own = in_block a.page in
    let at = page_in_block a.page h cover in
    let j : ℕ = h - (block_of a.page).lo in
    let written : (m : Named) → named f h ≡ Some m → m.writable ≡ may_be_written a.kind (slot_over f.slots a.page) = λ m n. alike_written huge user a b f range h j m c p w at.0 at.1 n in
    go own at written w.consecutive
  where
    go : ((block_of a.page).lo + place_in a.page ≡ a.page) × (place_in a.page < BLOCK_PAGES) → ((block_of a.page).lo + (h - (block_of a.page).lo) ≡ h) × (h - (block_of a.page).lo < BLOCK_PAGES) → ((m : Named) → named f h ≡ Some m → m.writable ≡ may_be_written a.kind (slot_over f.slots a.page)) → (first : ℕ) × (first % BLOCK_PAGES ≡ 0) × (AreUsers first a.page f ⊎ AreFrames first a.page f) → GivesAs user (new_leaf Block a b f) h (named f h)
    go own at written (first, al, inl users) =
        block_of_users user first a b f h (named f h) c p al
        (sym p.backing_is ∙ user_at (first + place_in a.page) (named f a.page) p.gives p.named_is (subst (λ (x : ℕ). IsUserPage (first + place_in a.page) (named f x)) own.0 (users (place_in a.page) own.1)))
        refl (subst (λ (x : ℕ). IsUserPage (first + (h - (block_of a.page).lo)) (named f x)) at.0 (users (h - (block_of a.page).lo) at.1)) written
    go own at written (first, al, inr frames) =
        block_of_frames user first a b f h (named f h)
        (subst (HasFrame (first + place_in a.page)) p.backing_is (frame_of_some (first + place_in a.page) (named f a.page) p.gives p.named_is (subst (λ (x : ℕ). IsFrame (first + place_in a.page) (named f x)) own.0 (frames (place_in a.page) own.1))))
        (subst (λ (x : ℕ). IsFrame (first + (h - (block_of a.page).lo)) (named f x)) at.0 (frames (h - (block_of a.page).lo) at.1)) written

-- each page of the leaf is given what is named there
pub names_leaf : (level : Level) (huge : Bool) (user : ℕ) (a : Aim) (b : Backing) (f : Flat) (range : Option Extent) → CanBeSeen user f → Puts a b f → IsUserBelow user b → IsLevel level huge a.page f range → NamesLeaf user (new_leaf level a b f) f
names_leaf Small huge user a b f range c p u l = names_page user a b f p u
names_leaf Block huge user a b f range c p u l = names_block huge user a b f range c p l

-- the access's page lies in its block as its backing does
number_alike : (page first : ℕ) (b : Backing) → first % BLOCK_PAGES ≡ 0 → number_of b ≡ first + place_in page → LieAlike page b
number_alike page first b al e = same page first (number_of b) al e
  where
    same : (p a n : ℕ) → a % 512 ≡ 0 → n ≡ a + (p - 512 * (p / 512)) → p % 512 ≡ n % 512
    same p a n al e = grind (arith, nat_tests)

frame_number : (frame : ℕ) (b : Backing) → HasFrame frame b → number_of b ≡ frame
frame_number frame (User u) h = absurd h
frame_number frame (InFolio folio) h = h

pub lie_alike : (huge : Bool) (a : Aim) (b : Backing) (f : Flat) (range : Option Extent) → Puts a b f → IsWholeBlock huge a.page f range → LieAlike a.page b
lie_alike huge a b f range p w = go (in_block a.page) w.consecutive
  where
    go : ((block_of a.page).lo + place_in a.page ≡ a.page) × (place_in a.page < BLOCK_PAGES) → (first : ℕ) × (first % BLOCK_PAGES ≡ 0) × (AreUsers first a.page f ⊎ AreFrames first a.page f) → LieAlike a.page b
    go own (first, al, inl users) = number_alike a.page first b al (ap number_of (sym p.backing_is ∙ user_at (first + place_in a.page) (named f a.page) p.gives p.named_is (subst (λ (x : ℕ). IsUserPage (first + place_in a.page) (named f x)) own.0 (users (place_in a.page) own.1))))
    go own (first, al, inr frames) = number_alike a.page first b al (frame_number (first + place_in a.page) b (subst (HasFrame (first + place_in a.page)) p.backing_is (frame_of_some (first + place_in a.page) (named f a.page) p.gives p.named_is (subst (λ (x : ℕ). IsFrame (first + place_in a.page) (named f x)) own.0 (frames (place_in a.page) own.1)))))
