-- Two plain histories of one text are equal, and so are their counts of turns.
use Rattle.std.proofs.Common.{◌≡◌, ℕ, List, [], ◌∷◌, ◌++◌, length, refl}
use Rattle.std.specs.Prelude.{codes}
use Rattle.std.specs.Fmt.{decimal}
use Rattle.std.proofs.lemmas.List.{append_cancel_left}
use Rattle.gm_base.specs.declared.values.Setup.{Setup}
use Rattle.gm_flat.specs.declared.entry.Entry.{Entry}
use Rattle.gm_flat.specs.InTypes.{AreInTypes, IsU64, roomless_entries}
use Rattle.gm_flat.specs.Plain.{IsPlain}
use Rattle.gm_text.specs.Text.{history_text, joined, machine_text}
use Rattle.gm_text.proofs.Decimals.{decimal_apart}
use Rattle.gm_text.proofs.Whats.{entries_apart}

-- what stands after the count of turns
abbrev rest : List Entry → List ℕ
rest es = joined (codes " entries=" ∷ decimal (length es) ∷ codes "\n" ∷ [])

pub one_text : (s : Setup) (es fs : List Entry) (m n : ℕ) → IsPlain es → IsPlain fs → AreInTypes es → AreInTypes fs → IsU64 m → IsU64 n → history_text s es m ≡ history_text s fs n → (roomless_entries es ≡ roomless_entries fs) × (m ≡ n)
one_text s es fs m n i j p q hm hn h =
    let body = append_cancel_left (machine_text s) _ _ (append_cancel_left (codes "gmem-history 2\n") _ _ h) in
    let r = entries_apart es fs _ _ i j p q body in
    let e : decimal m ++ rest es ≡ decimal n ++ rest fs = append_cancel_left (codes "end turns=") _ _ r.1 in
    let t = decimal_apart m n (rest es) (rest fs) hm hn refl refl e in
    (r.0, t.0)
