use Rattle.std.proofs.Common.{w64, ap, eqb, ℕ}
use Rattle.std.proofs.lemmas.Nat.Bits.{bit_at-trailing_zeros}
use Rattle.gm_pool.proofs.bits.lowest_bit.Goals as goal

pub returns : goal.returns
returns c =
    let lowest = bit_at-trailing_zeros w64 c.args.word c.requires c.ranges.word.fits in
    record {
      bound = lowest.0;
      set = ap (λ (bit : ℕ). eqb bit 1) lowest.1;
      lowest = λ other h. ap (λ (bit : ℕ). eqb bit 1) (lowest.2 other h);
    }
