-- From a row to what was judged.
use Rattle.std.proofs.Common.{◌≡◌, ℕ, ◌++◌, List, [], refl, sym, ◌∙◌, ap, subst}
use Rattle.gm_base.specs.Extent.{Extent}
use Rattle.gm_flat.specs.Calls.{Plan, Same}
use Rattle.gm_calls.specs.Judgements.{IsAnswer, Tells}
use Rattle.gm_calls.specs.declared.judged.Judged.{Judged}

-- the spans of a bracket are those that were put, since there were none before
pub filled : (old new more : List Extent) → old ≡ [] → new ≡ old ++ more → new ≡ more
filled old new more e h = h ∙ ap (λ (es : List Extent). es ++ more) e

pub is_same : (user : List (List ℕ)) (p : Plan) (n : ℕ) → p ≡ Same n → IsAnswer user p n
is_same user p n e = subst (λ (q : Plan). IsAnswer user q n) (sym e) refl

-- the same of an equal plan
pub same_plan : (user : List (List ℕ)) (p q : Plan) (j : Judged) (spans : List Extent) → p ≡ q → Tells user q j spans → Tells user p j spans
same_plan user p q j spans e h = subst (λ (r : Plan). Tells user r j spans) (sym e) h

-- the same with spans that stayed empty
pub no_spans : (user : List (List ℕ)) (p q : Plan) (j : Judged) (spans : List Extent) → p ≡ q → spans ≡ [] → Tells user q j [] → Tells user p j spans
no_spans user p q j spans e empty h = subst (λ (es : List Extent). Tells user p j es) (sym empty) (same_plan user p q j [] e h)
