use Rattle.std.proofs.Common.{◌≡◌, ◌+◌, ◌-◌, refl, sym, ap, get_or, ◌∙◌, ℕ, arith}
use Rattle.gm_pool.proofs.Words.{run_of_full, full_of_run}
use Rattle.gm_pool.proofs.number_set.are_full.Goals as goal

pub returns-then-word_at : goal.returns-then-word_at
returns-then-word_at c =
    let at : c.args.first + (c.loop-at.at - c.args.first) ≡ c.loop-at.at = omega arith in
    (λ h. cc, λ all. absurd (c.if-word_at.true (c.word_at.ensures ∙ (ap (λ (n : ℕ). get_or c.args.words.now n 0) (sym at) ∙ full_of_run c.args.words.now c.args.first c.args.count (c.loop-at.at - c.args.first) (λ w. (c.type_inv.words w).fits) all (omega arith)))))

pub returns : goal.returns
returns c = (λ h. run_of_full c.args.words.now c.args.first c.args.count (λ k l. c.loop-at.invariant k (omega arith)), λ all. refl)
