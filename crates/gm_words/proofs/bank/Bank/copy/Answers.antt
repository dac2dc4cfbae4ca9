use Rattle.std.proofs.Common.{◌+◌, ◌*◌, ◌-◌, None, Some, List, ℕ, set, refl, sym, arith, ap, ◌∙◌}
use Rattle.gm_words.proofs.Places.{found}
use Rattle.gm_words.proofs.Tables.{placed_page}
use Rattle.gm_words.proofs.Parts.{kept_page}
use Rattle.gm_words.proofs.bank.Bank.copy.Goals as goal

pub returns-in-Some-clause-page : goal.returns-in-Some-clause-page
returns-in-Some-clause-page c =
    let place = c.in-Some.place in
    let is = found c.source.inside.places.items c.deref.result.now c.args.from (Some place) c.deref.ensures.value c.in-Some.ensures in
    let below = c.source.invariant.inside c.args.from place is in
    let at : ℕ = place * 512 in
    c.put.ensures.page
    ∙ ap (λ (part : List ℕ). set c.args.self.now c.args.page part)
    (kept_page c.args.source.now c.source.inside.pages c.source.inside.places.items c.source.inside.words.items c.deref-in-Some.result.now c.args.from place at (at + 512 - at) c.source.view_is c.requires.from is c.deref-in-Some.ensures.value refl (omega arith) (omega (arith, below, c.source.invariant.whole)))

pub returns-in-None-clause-page : goal.returns-in-None-clause-page
returns-in-None-clause-page c =
    let is = found c.source.inside.places.items c.deref.result.now c.args.from None c.deref.ensures.value c.in-None.ensures in
    c.clear.ensures.page
    ∙ ap (λ (part : List ℕ). set c.args.self.now c.args.page part) (sym (placed_page c.args.source.now c.source.inside.pages c.source.inside.places.items c.source.inside.words.items c.args.from None c.source.view_is c.requires.from is))
