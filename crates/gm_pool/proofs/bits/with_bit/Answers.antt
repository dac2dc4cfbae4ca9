use Rattle.std.proofs.Common.{w64, ap, eqb, ℕ}
use Rattle.std.proofs.lemmas.Nat.Bits.{bit_at_set_same, bit_at_set_other}
use Rattle.gm_pool.proofs.bits.with_bit.Goals as goal

pub returns : goal.returns
returns c = record {
  set = ap (λ (bit : ℕ). eqb bit 1) (bit_at_set_same w64 c.args.word c.args.bit c.requires);
  others = λ other ne. ap (λ (bit : ℕ). eqb bit 1) (bit_at_set_other w64 c.args.word c.args.bit c.requires other ne);
}
