use Rattle.std.proofs.Common.{arith, tests}
use Rattle.std.proofs.lemmas.Nat.Bits.{and_pow, bit_at-lt}
use Rattle.gm_state.proofs.flags.is_file_backed.Goals as goal

pub returns : goal.returns
returns c = grind (arith, tests, and_pow c.args.flags 2, bit_at-lt c.args.flags 2)
