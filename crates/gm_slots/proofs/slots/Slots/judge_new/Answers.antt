use Rattle.std.proofs.Common.{◌≡◌, ◌≢◌, ℕ, eqb, false, true, sym, arith}
use Rattle.std.proofs.lemmas.Bool.Decides.{nat_tests}
use Rattle.gm_slots.proofs.Judging.{new_is}
use Rattle.gm_slots.proofs.slots.Slots.judge_new.Goals as goal

differ : (n : ℕ) → n ≢ 0 → eqb n 0 ≡ false
differ n ne = grind (arith, nat_tests)

pub returns-then-meets_another : goal.returns-then-meets_another
returns-then-meets_another c = sym (new_is c.args.region.now c.args.self.now.slots true (differ c.args.region.now.size c.if-region-eq0.false) c.requires.absent c.if-meets_another.ensures)

pub returns-else-meets_another : goal.returns-else-meets_another
returns-else-meets_another c = sym (new_is c.args.region.now c.args.self.now.slots false (differ c.args.region.now.size c.if-region-eq0.false) c.requires.absent c.if-meets_another.ensures)
