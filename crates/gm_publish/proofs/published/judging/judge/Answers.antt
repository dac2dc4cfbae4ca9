use Rattle.std.proofs.Common.{◌≡◌, ◌∙◌, ap, sym, subst, None, ℕ}
use Rattle.gm_flat.specs.Histories.{Faulting, fault}
use Rattle.gm_flat.specs.declared.views.Sighting.{Sighting}
use Rattle.gm_turns.specs.Depositing.{IsTrueSight}
use Rattle.gm_publish.proofs.Judging.{asked_is, now_true}
use Rattle.gm_publish.specs.Sightings.{sight_of_page}
use Rattle.gm_publish.proofs.published.judging.judge.Goals as goal

pub returns-else-branch-clause-true_sight : goal.returns-else-branch-clause-true_sight
returns-else-branch-clause-true_sight c =
    let v = c.args.vcpu in
    let past = c.args.machine.now.past in
    let a = c.in-Some.asked.0 in
    let missed = c.in-Some.asked.1 in
    let is : fault v past ≡ Faulting a missed None None None = asked_is (fault v past) a missed (sym c.in-Some.ensures) in
    let seen = c.sight_now.ensures ∙ ap (λ (page : ℕ). sight_of_page page past) c.page.ensures in
    subst (λ (s : Sighting). IsTrueSight v s past) (sym seen) (now_true v past a missed is)
