use Rattle.std.proofs.Common.{◌≡◌, ◌*◌, ◌/◌, ◌∙◌, ℕ, List, IsTrue, ◌↔◌, subst, arith}
use Rattle.gm_pool.specs.Bits.{HasRun}
use Rattle.gm_pool.proofs.number_set.NumberSet.has_block.Goals as goal

pub returns : goal.returns
returns c =
    let place : 64 * (c.args.first / 64) ≡ c.args.first = omega (arith, c.requires.0) in
    let asked : IsTrue c.are_full.result ↔ HasRun c.deref.result.now c.args.first 512 =
    subst (λ (first : ℕ). IsTrue c.are_full.result ↔ HasRun c.deref.result.now first 512) place c.are_full.ensures in
    subst (λ (words : List ℕ). IsTrue c.are_full.result ↔ HasRun words c.args.first 512) (c.deref.ensures.value ∙ c.self.view_is) asked
