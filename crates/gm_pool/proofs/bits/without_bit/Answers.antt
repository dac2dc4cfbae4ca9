use Rattle.std.proofs.Common.{w64, ap, eqb, ℕ}
use Rattle.std.proofs.lemmas.Nat.Bits.{bit_at_clear_same, bit_at_clear_other}
use Rattle.gm_pool.proofs.bits.without_bit.Goals as goal

pub returns : goal.returns
returns c = record {
  clear = ap (λ (bit : ℕ). eqb bit 1) (bit_at_clear_same w64 c.args.word c.args.bit c.requires);
  others = λ other l ne. ap (λ (bit : ℕ). eqb bit 1) (bit_at_clear_other w64 c.args.word c.args.bit c.requires other l ne);
}
