-- One entry more.
use Rattle.std.proofs.Common.{◌≡◌, ℕ, ◌+◌, ◌*◌, ◌^◌, ◌<◌, ◌≤◌, List, [], ◌∷◌, length, get_or, drop, refl, ap, sym, ◌∙◌, arith}
use Rattle.std.proofs.lemmas.List.{drop_more, drop_all}
use Rattle.gm_flat.specs.declared.entry.Entry.{Entry}
use Rattle.gm_summary.specs.Totals.{totals_of, with_entry}
use Rattle.gm_summary.specs.declared.totals.Totals.{Totals}

pub entry_more : (t now end : Totals) (entries : List Entry) (i : ℕ) (d : Entry) → i < length entries → totals_of t (drop i entries) ≡ end → now ≡ with_entry t (get_or entries i d).what → totals_of now (drop (i + 1) entries) ≡ end
entry_more t now end entries i d lt e f = ap (λ (u : Totals). totals_of u (drop (i + 1) entries)) f ∙ ap (totals_of t) (sym (drop_more entries i d lt)) ∙ e

pub entries_done : (t end : Totals) (entries : List Entry) (i : ℕ) → length entries ≤ i → totals_of t (drop i entries) ≡ end → t ≡ end
entries_done t end entries i le e = ap (totals_of t) (sym (drop_all i entries le)) ∙ e

pub frees_within : (old new i : ℕ) → new ≤ old + 2 ^ 32 → old ≤ i * 2 ^ 32 → new ≤ (i + 1) * 2 ^ 32
frees_within old new i h k = omega arith
