use Rattle.std.proofs.Common.{◌≡◌, ◌/◌, List, ℕ, true, sym, subst, ◌∙◌, arith}
use Rattle.gm_pool.specs.Bits.{bit_in}
use Rattle.std.proofs.lemmas.List.{get_or_read}
use Rattle.gm_pool.proofs.Words.{heads_emptied, heads_kept, in_words}
use Rattle.gm_pool.proofs.number_set.NumberSet.take_out.Goals as goal

pub invariant_of-self : goal.invariant_of-self
invariant_of-self c = (
  heads_emptied c.self.inside.words.items c.take_from.new.words.items c.self.inside.heads.items c.take_from-then-index-eq0.new.words.items c.args.number c.self.invariant.0 c.take_from.ensures.words c.take_from-then-index-eq0.ensures.numbers (sym (get_or_read c.take_from.new.words.items (c.args.number / 64) c.index.result.now (omega (arith, in_words c.self.inside.words.items c.args.number (subst (λ (words : List ℕ). bit_in words c.args.number ≡ true) (sym c.self.view_is) c.requires))) c.index.ensures 0) ∙ c.if-index-eq0.true),
  omega arith,
  omega arith,
  omega arith,
)

pub invariant_of-self-else-index-eq0 : goal.invariant_of-self-else-index-eq0
invariant_of-self-else-index-eq0 c = (
  heads_kept c.self.inside.words.items c.take_from.new.words.items c.self.inside.heads.items c.args.number c.self.invariant.0 (subst (λ (words : List ℕ). bit_in words c.args.number ≡ true) (sym c.self.view_is) c.requires) c.take_from.ensures.words (λ zero. c.if-index-eq0.false (get_or_read c.take_from.new.words.items (c.args.number / 64) c.index.result.now (omega (arith, in_words c.self.inside.words.items c.args.number (subst (λ (words : List ℕ). bit_in words c.args.number ≡ true) (sym c.self.view_is) c.requires))) c.index.ensures 0 ∙ zero)),
  omega arith,
  omega arith,
  omega arith,
)
