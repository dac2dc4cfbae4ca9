-- The latest fills, found and kept from the back of a list whose latest item stands last.
use Rattle.std.proofs.Common.{[], Bool, ◌≡◌, ℕ, ◌+◌, ◌-◌, ◌≤◌, List, ◌∷◌, ◌++◌, length, take, drop, get_or, reverse, refl, ap, sym, ◌∙◌, arith, add-one, length-drop}
use Rattle.std.specs.Prelude.{Some, None, if◌then◌else◌, true, false}
use Rattle.std.specs.declared.option.Option.{Option}
use Rattle.std.proofs.Math.Seq.{drop-cons}
use Rattle.std.proofs.lemmas.List.{reverse-append, take_at, length-reverse, take-append-drop, drop_all}
use Rattle.std.proofs.lemmas.Grind.{common_steps}
use Rattle.gm_base.specs.Aim.{Aim}
use Rattle.gm_base.specs.Leaf.{serves}
use Rattle.gm_tlb.specs.declared.tlb.Fill.{Fill}
use Rattle.gm_tlb.specs.Fills.{latest}

-- the last item
abbrev pub last_at : List Fill → Fill → Fill
last_at items d = get_or items (length items - 1) d

-- the items but the last
abbrev pub but_last : List Fill → List Fill
but_last items = take (length items - 1) items

-- the last item is the first from the end
last_first : (items : List Fill) (d : Fill) → 1 ≤ length items → reverse items ≡ last_at items d ∷ reverse (but_last items)
last_first items d h =
    let n : ℕ = length items - 1 in
    let rest : drop n items ≡ get_or items n d ∷ drop (n + 1) items = rw add-one (drop-cons items n d (omega arith)) in
    let none : drop (n + 1) items ≡ [] = drop_all (n + 1) items (omega arith) in
    let whole : items ≡ take n items ++ get_or items n d ∷ [] = sym (take-append-drop n items) ∙ ap (λ (ys : List Fill). take n items ++ ys) (rest ∙ ap (λ (ys : List Fill). get_or items n d ∷ ys) none) in
    ap (λ (ys : List Fill). reverse ys) whole ∙ reverse-append (take n items) (get_or items n d ∷ [])

latest-last : (items : List Fill) (a : Aim) (d : Fill) → 1 ≤ length items → latest (reverse items) a ≡ (if serves (last_at items d).leaf a then Some (last_at items d) else latest (reverse (but_last items)) a)
latest-last items a d h = ap (λ (ys : List Fill). latest ys a) (last_first items d h)

-- the last fill serves
pub last_found : (items : List Fill) (a : Aim) (d : Fill) (found : Option Fill) → 1 ≤ length items → latest (reverse items) a ≡ found → serves (last_at items d).leaf a ≡ true → Some (last_at items d) ≡ found
last_found items a d found h v s = sym (rw s at (latest-last items a d h)) ∙ v

-- of two runs of fills the first is looked at first
abbrev pub or_in : Option Fill → List Fill → Aim → Option Fill
or_in None ys a = latest ys a
or_in (Some fill) ys a = Some fill

or_step : (b : Bool) (fill : Fill) (found rest : Option Fill) (ys : List Fill) (a : Aim) → rest ≡ or_in found ys a → (if b then Some fill else rest) ≡ or_in (if b then Some fill else found) ys a
or_step true fill found rest ys a h = refl
or_step false fill found rest ys a h = h

latest-append : (xs ys : List Fill) (a : Aim) → latest (xs ++ ys) a ≡ or_in (latest xs a) ys a
latest-append [] ys a = refl
latest-append (x ∷ xs) ys a = or_step (serves x.leaf a) x (latest xs a) (latest (xs ++ ys) a) ys a (latest-append xs ys a)

-- older fills are looked at where none of the newer serves
pub newer_first : (older newer : List Fill) (a : Aim) (found : Option Fill) → found ≡ latest (reverse newer) a → latest (reverse (older ++ newer)) a ≡ or_in found (reverse older) a
newer_first older newer a found h = ap (λ (xs : List Fill). latest xs a) (reverse-append older newer) ∙ (latest-append (reverse newer) (reverse older) a ∙ ap (λ (o : Option Fill). or_in o (reverse older) a) (sym h))

take-reverse_long : {A : Type 0} (n k : ℕ) (xs : List A) → length xs ≡ k + n → reverse (drop k xs) ≡ take n (reverse xs)
take-reverse_long {A} n k xs h =
    let l : length (reverse (drop k xs)) ≡ n = length-reverse (drop k xs) ∙ (length-drop k xs ∙ omega arith) in
    let e : reverse xs ≡ reverse (drop k xs) ++ reverse (take k xs) = ap (λ (ys : List A). reverse ys) (sym (take-append-drop k xs)) ∙ reverse-append (take k xs) (drop k xs) in
    sym (ap (λ (ys : List A). take n ys) e ∙ take_at (reverse (drop k xs)) (reverse (take k xs)) n l)

-- the last n of a list are the first n of the list from its end
pub take-reverse : {A : Type 0} (n : ℕ) (xs : List A) → reverse (drop (length xs - n) xs) ≡ take n (reverse xs)
take-reverse n xs = grind (arith, common_steps, take-reverse_long)
