-- A block that is added folio by folio.
use Rattle.std.proofs.Common.{◌≡◌, ℕ, ◌+◌, ◌-◌, ◌<◌, ◌≤◌, List, [], ◌∷◌, false, length, set, zero, suc, Option, Some, None, arith, refl, ap, sym, subst, ◌∙◌, eqb, add-one}
use Rattle.std.proofs.lemmas.Bool.Decides.{nat_tests}
use Rattle.std.proofs.lemmas.List.{length-set, set-get_or, set-set}
use Rattle.gm_base.specs.declared.values.Folio.{Folio}
use Rattle.gm_file.proofs.Caching.{lookup-put}
use Rattle.gm_file.specs.Views.{FileView}
use Rattle.gm_words.specs.Banks.{zero_page}
use Rattle.gm_store.proofs.Basics.{set_here}
use Rattle.gm_store.specs.Views.{cached_in, file_in, page_room, pages_in, with_page, with_pages, with_zeros}

pub zeros-length : (j frame : ℕ) (bank : List (List ℕ)) → length (with_zeros j frame bank) ≡ length bank
zeros-length zero frame bank = refl
zeros-length (suc j) frame bank = length-set (with_zeros j frame bank) (frame + j) zero_page ∙ zeros-length j frame bank

pages_of : (x : Option FileView) (index : ℕ) (folio : Folio) → pages_in (with_page x index folio) ≡ pages_in x
pages_of None index folio = refl
pages_of (Some x) index folio = refl

room_of : (x : Option FileView) (index : ℕ) (folio : Folio) → page_room (with_page x index folio) ≡ page_room x - 1
room_of None index folio = refl
room_of (Some x) index folio = refl

cached_of : (x : Option FileView) (index i : ℕ) (folio : Folio) → eqb i index ≡ false → cached_in i (with_page x index folio) ≡ cached_in i x
cached_of None index i folio ne = refl
cached_of (Some x) index i folio ne = lookup-put i index folio x.cached ∙ (let e : eqb i index ≡ false = ne in rw e refl)

pub pages_same : (j : ℕ) (x : Option FileView) (index : ℕ) (folio : Folio) → pages_in (with_pages j x index folio) ≡ pages_in x
pages_same zero x index folio = refl
pages_same (suc j) x index folio = pages_of (with_pages j x index folio) (index + j) (record { serial = folio.serial + j; frame = folio.frame + j }) ∙ pages_same j x index folio

pub room_left : (j : ℕ) (x : Option FileView) (index : ℕ) (folio : Folio) → j ≤ page_room x → page_room (with_pages j x index folio) + j ≡ page_room x
room_left zero x index folio le = omega arith
room_left (suc j) x index folio le = less (page_room (with_pages (suc j) x index folio)) (page_room (with_pages j x index folio)) j (page_room x) (room_of (with_pages j x index folio) (index + j) (record { serial = folio.serial + j; frame = folio.frame + j })) (room_left j x index folio (below j (page_room x) le)) le
  where
    below : (j r : ℕ) → suc j ≤ r → j ≤ r
    below j r h = omega arith

    less : (a b j r : ℕ) → a ≡ b - 1 → b + j ≡ r → suc j ≤ r → a + suc j ≡ r
    less a b j r e h l = omega arith

pub cached_later : (j : ℕ) (x : Option FileView) (index i : ℕ) (folio : Folio) → index + j ≤ i → cached_in i (with_pages j x index folio) ≡ cached_in i x
cached_later zero x index i folio le = refl
cached_later (suc j) x index i folio le = cached_of (with_pages j x index folio) (index + j) i (record { serial = folio.serial + j; frame = folio.frame + j }) (apart index j i le) ∙ cached_later j x index i folio (less index j i le)
  where
    apart : (a j i : ℕ) → a + suc j ≤ i → eqb i (a + j) ≡ false
    apart a j i h = grind (arith, nat_tests)

    less : (a j i : ℕ) → a + suc j ≤ i → a + j ≤ i
    less a j i h = omega arith

-- so far
pub record RunSoFar (files old : List (Option FileView)) (bank before : List (List ℕ)) (file first : ℕ) (folio : Folio) (j : ℕ) : Type 0 where
  pub files_are : files ≡ set old file (with_pages j (file_in old file) first folio)
  pub bank_is : bank ≡ with_zeros j folio.frame before

pub run_start : (old : List (Option FileView)) (before : List (List ℕ)) (file first : ℕ) (folio : Folio) → RunSoFar old old before before file first folio 0
run_start old before file first folio = record { files_are = sym (set-get_or old file None); bank_is = refl }

-- the file in the middle of it
pub run_file : (files old : List (Option FileView)) (bank before : List (List ℕ)) (file first j : ℕ) (folio : Folio) → file < length old → RunSoFar files old bank before file first folio j → file_in files file ≡ with_pages j (file_in old file) first folio
run_file files old bank before file first j folio lt s = ap (λ (fs : List (Option FileView)). file_in fs file) s.files_are ∙ set_here old file file (with_pages j (file_in old file) first folio) None lt refl

pub run_more : (files old : List (Option FileView)) (next : List (Option FileView)) (bank before after : List (List ℕ)) (file first j : ℕ) (folio : Folio) → file < length old → RunSoFar files old bank before file first folio j → next ≡ set files file (with_page (file_in files file) (first + j) (record { serial = folio.serial + j; frame = folio.frame + j })) → after ≡ set bank (folio.frame + j) zero_page → RunSoFar next old after before file first folio (j + 1)
run_more files old next bank before after file first j folio lt s e h = subst (RunSoFar next old after before file first folio) (sym (add-one j)) (record {
  files_are =
      e ∙ (ap (λ (x : Option FileView). set files file (with_page x (first + j) (record { serial = folio.serial + j; frame = folio.frame + j }))) (run_file files old bank before file first j folio lt s)
      ∙ (ap (λ (fs : List (Option FileView)). set fs file (with_pages (suc j) (file_in old file) first folio)) s.files_are ∙ set-set old file (with_pages j (file_in old file) first folio) (with_pages (suc j) (file_in old file) first folio)));
  bank_is = h ∙ ap (λ (b : List (List ℕ)). set b (folio.frame + j) zero_page) s.bank_is;
})

pub file_below : (xs : List (Option FileView)) (k n : ℕ) → n < pages_in (file_in xs k) → k < length xs
file_below [] k n lt = absurd (omega arith)
file_below (x ∷ xs) zero n lt = omega arith
file_below (x ∷ xs) (suc k) n lt = let h = file_below xs k n lt in omega arith
