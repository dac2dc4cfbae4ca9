use Rattle.std.proofs.Common.{◌≡◌, []}
use Rattle.gm_views.proofs.tests.first_unseen.Given as goal

abbrev pub invariant-loop-number : goal.invariant-loop-number
invariant-loop-number g l = l.publisher.waiting ≡ []
