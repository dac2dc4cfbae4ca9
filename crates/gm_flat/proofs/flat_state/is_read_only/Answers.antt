use Rattle.std.proofs.Common.{arith, tests}
use Rattle.std.proofs.lemmas.Nat.Bits.{and_pow, bit_at-lt}
use Rattle.gm_flat.proofs.flat_state.is_read_only.Goals as goal

pub returns : goal.returns
returns c = grind (arith, tests, and_pow c.args.flags 1, bit_at-lt c.args.flags 1)
