-- What is alike serves the same accesses.
use Rattle.std.proofs.Common.{◌≡◌, ℕ, ◌+◌, ◌<◌, ◌*◌, ◌/◌, ◌&&◌, List, [], ◌∷◌, Bool, true, false, suc, Option, Some, None, arith, subst, sym, ◌∙◌, ap, refl, cond, leb, ltb}
use Rattle.std.proofs.lemmas.Bool.{both_ways}
use Rattle.std.proofs.lemmas.Bool.Decides.{nat_tests}
use Rattle.gm_base.specs.Aim.{Aim}
use Rattle.gm_base.specs.Extent.{holds}
use Rattle.gm_base.specs.Leaf.{covers as leaf_covers, serves as leaf_serves}
use Rattle.gm_base.specs.Values.{same_kind, permits}
use Rattle.gm_base.specs.declared.leaf.Leaf.{Leaf}
use Rattle.gm_base.specs.declared.values.Kind.{Kind}
use Rattle.gm_base.specs.declared.values.Kind.TheVariants.{Private, Shared}
use Rattle.gm_base.specs.declared.values.Level.{Level}
use Rattle.gm_base.specs.declared.values.Level.TheVariants.{Small, Block}
use Rattle.gm_flat.specs.Mappings.{Mapping, can_write, covered, covers, first_serving, serves}
use Rattle.gm_flat.specs.NamedPage.{Named}
use Rattle.gm_laws.proofs.Kit.{some_same}
use Rattle.gm_mapping.specs.Alike.{FillsAre, GivesAs, IsAlike}
use Rattle.gm_tlb.specs.Fills.{latest}
use Rattle.gm_tlb.specs.declared.tlb.Fill.{Fill}

writes_same : (user : ℕ) (leaf : Leaf) (page : ℕ) (o : Option Named) → GivesAs user leaf page o → can_write o ≡ leaf.writable
writes_same user leaf page None g = absurd g
writes_same user leaf page (Some n) g = g.right_writable

serves_by : (t u : Bool) (x y x' y' : Bool) → t ≡ u → x ≡ x' → (t ≡ true → y ≡ y') → (t && (x && y)) ≡ (u && (x' && y'))
serves_by true u x y x' y' e f g = let h : y ≡ y' = g refl in rw (← e, f, h) refl
serves_by false u x y x' y' e f g = rw (← e) refl

pub serves_same : (user : ℕ) (leaf : Leaf) (m : Mapping) (a : Aim) → IsAlike user leaf m → leaf_serves leaf a ≡ serves a m
serves_same user leaf m a s =
    serves_by (leaf_covers leaf a.page) (covers m a.page) (same_kind leaf.kind a.kind) (permits leaf.writable a.op) (same_kind m.kind a.kind) (permits (can_write (m.gives a.page)) a.op)
    (s.covers_is a.page) (ap (λ (k : Kind). same_kind k a.kind) s.kind_is) (λ c. ap (λ (b : Bool). permits b a.op) (sym (writes_same user leaf a.page (m.gives a.page) (s.gives_is a.page c))))

pub same_kinds : (k l : Kind) → same_kind k l ≡ true → k ≡ l
same_kinds Private Private e = refl
same_kinds Private Shared e = absurd (both_ways false refl e)
same_kinds Shared Private e = absurd (both_ways false refl e)
same_kinds Shared Shared e = refl

-- what a fill that serves says
pub record Hit (user : ℕ) (a : Aim) (f : Fill) (ms : List Mapping) : Type 0 where
  pub mapping : Mapping
  pub first : first_serving a ms ≡ Some mapping
  pub at_is : f.at ≡ mapping.made
  pub alike : IsAlike user f.leaf mapping
  pub is_serving : leaf_serves f.leaf a ≡ true

hit_step : (user : ℕ) (a : Aim) (x f : Fill) (fs : List Fill) (m : Mapping) (ms : List Mapping) (t : Bool) → leaf_serves x.leaf a ≡ t → ((x.at ≡ m.made) × IsAlike user x.leaf m) → (latest fs a ≡ Some f → Hit user a f ms) → cond t (Some x) (latest fs a) ≡ Some f → Hit user a f (m ∷ ms)
hit_step user a x f fs m ms true e i ih h =
    let s : x ≡ f = some_same x f h in
    subst (λ (y : Fill). Hit user a y (m ∷ ms)) s (record {
      mapping = m;
      first = let q : serves a m ≡ true = sym (serves_same user x.leaf m a i.1) ∙ e in rw q refl;
      at_is = i.0;
      alike = i.1;
      is_serving = e;
    })
hit_step user a x f fs m ms false e i ih h =
    let r = ih h in
    record {
      mapping = r.mapping;
      first = let q : serves a m ≡ false = sym (serves_same user x.leaf m a i.1) ∙ e in rw q r.first;
      at_is = r.at_is;
      alike = r.alike;
      is_serving = r.is_serving;
    }

pub hit : (user : ℕ) (a : Aim) (f : Fill) (fs : List Fill) (ms : List Mapping) → FillsAre user fs ms → latest fs a ≡ Some f → Hit user a f ms
hit user a f [] [] t h = absurd (cc)
hit user a f [] (m ∷ ms) t h = absurd t
hit user a f (x ∷ fs) [] t h = absurd t
hit user a f (x ∷ fs) (m ∷ ms) t h = hit_step user a x f fs m ms (leaf_serves x.leaf a) refl t.0 (hit user a f fs ms t.1) h

unhit_step : (user : ℕ) (a : Aim) (x : Fill) (fs : List Fill) (m : Mapping) (ms : List Mapping) (t : Bool) → leaf_serves x.leaf a ≡ t → IsAlike user x.leaf m → (latest fs a ≡ None → first_serving a ms ≡ None) → cond t (Some x) (latest fs a) ≡ None → first_serving a (m ∷ ms) ≡ None
unhit_step user a x fs m ms true e i ih h = absurd (cc)
unhit_step user a x fs m ms false e i ih h = let q : serves a m ≡ false = sym (serves_same user x.leaf m a i) ∙ e in rw q (ih h)

-- where no fill serves, none of the history's does
pub unhit : (user : ℕ) (a : Aim) (fs : List Fill) (ms : List Mapping) → FillsAre user fs ms → latest fs a ≡ None → first_serving a ms ≡ None
unhit user a [] [] t h = refl
unhit user a [] (m ∷ ms) t h = absurd t
unhit user a (x ∷ fs) [] t h = absurd t
unhit user a (x ∷ fs) (m ∷ ms) t h = unhit_step user a x fs m ms (leaf_serves x.leaf a) refl t.0.1 (unhit user a fs ms t.1) h

-- what a leaf or a fill at p covers is what one at q of its pages does
pub covered_same : (level : Level) (p q : ℕ) → holds (covered level p) q ≡ true → covered level q ≡ covered level p
covered_same Small p q h = let e : q ≡ p = small p q h in ap (λ (x : ℕ). covered Small x) e
  where
    small : (p q : ℕ) → (leb p q && ltb q (p + 1)) ≡ true → q ≡ p
    small p q h = grind (arith, nat_tests)
covered_same Block p q h = let e : q / 512 ≡ p / 512 = block p q h in ap (λ (x : ℕ). record { lo = 512 * x; hi = 512 * x + 512 }) e
  where
    block : (p q : ℕ) → (leb (512 * (p / 512)) q && ltb q (512 * (p / 512) + 512)) ≡ true → q / 512 ≡ p / 512
    block p q h = grind (arith, nat_tests)
