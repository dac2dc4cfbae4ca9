-- Lists of entries whose numbers are within their types: one more, and the other way round.
use Rattle.std.proofs.Common.{List, [], ◌∷◌, ◌++◌, ◌≡◌, reverse, sym, subst}
use Rattle.std.proofs.lemmas.List.{reverse-append}
use Rattle.gm_flat.specs.declared.entry.Entry.{Entry}
use Rattle.gm_flat.specs.InTypes.{AreInTypes, IsEntryInTypes}

pub AreInTypes-push : (es : List Entry) (e : Entry) → AreInTypes es → IsEntryInTypes e → AreInTypes (es ++ e ∷ [])
AreInTypes-push [] e h k = (k, tt)
AreInTypes-push (d ∷ es) e h k = (h.0, AreInTypes-push es e h.1 k)

reverse_cons : (e : Entry) (es : List Entry) → reverse (e ∷ es) ≡ reverse es ++ e ∷ []
reverse_cons e es = reverse-append (e ∷ []) es

pub AreInTypes-reverse : (es : List Entry) → AreInTypes es → AreInTypes (reverse es)
AreInTypes-reverse [] h = tt
AreInTypes-reverse (e ∷ es) h = subst (λ (l : List Entry). AreInTypes l) (sym (reverse_cons e es)) (AreInTypes-push (reverse es) e (AreInTypes-reverse es h.1) h.0)
