-- The last 256 of the items with the fill at their end are, from the end, the first 256 with the fill at their front.
use Rattle.std.proofs.Common.{[], ◌∷◌, ◌++◌, length, drop, reverse, take, ap, ◌∙◌, List, ℕ, ◌-◌}
use Rattle.std.proofs.lemmas.List.{reverse-append}
use Rattle.circular_buffer.specs.Buffer.{Buffer}
use Rattle.gm_tlb.specs.declared.tlb.Fill.{Fill}
use Rattle.gm_tlb.proofs.Newest.{take-reverse}
use Rattle.gm_tlb.proofs.tlb.Tlb.fill.Goals as goal

pub returns : goal.returns
returns c =
    let items = c.self.inside.fills.items ++ c.args.fill ∷ [] in
    ap (λ (b : Buffer Fill). reverse b.items) c.push_back.ensures.items
    ∙ (ap (λ (n : ℕ). reverse (drop (length items - n) items)) c.self.invariant.0
    ∙ (take-reverse 256 items
    ∙ (ap (λ (xs : List Fill). take 256 xs) (reverse-append c.self.inside.fills.items (c.args.fill ∷ []))
    ∙ ap (λ (xs : List Fill). c.args.fill ∷ take 255 xs) c.self.view_is)))
