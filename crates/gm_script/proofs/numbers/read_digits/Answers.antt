use Rattle.std.proofs.Common.{◌≡◌, ◌+◌, ◌*◌, ◌∙◌, sym, get_or, arith, Some, None}
use Rattle.std.proofs.lemmas.Grind.{common_steps}
use Rattle.gm_script.specs.Numbers.{digit_of, below_of, NUMBER_LIMIT}
use Rattle.gm_script.proofs.Digits.{overflowed, none_of, some_of}
use Rattle.gm_script.proofs.numbers.read_digits.Goals as goal

pub returns-in-None : goal.returns-in-None
returns-in-None c =
    let word = c.args.word.now in
    let i = c.loop-byte.byte-index in
    let v = c.in_ok-value.value in
    let d : digit_of (get_or word i 0) ≡ Some v = grind (arith, common_steps) in
    let o : below_of NUMBER_LIMIT (Some (c.loop-byte.n * c.args.base + v)) ≡ None = cc in
    none_of c.args.base c.args.most word (sym c.loop-byte.invariant.rest ∙ overflowed c.args.base c.loop-byte.n v i 0 word c.requires c.loop-byte-test.true d c.if-value-base.false o)

pub returns : goal.returns
returns c =
    some_of c.args.base c.args.most c.loop-byte.n c.loop-byte.byte-index c.args.word.now (grind (arith, common_steps)) c.if-word-most.false c.loop-byte-test.false c.loop-byte.invariant.small c.loop-byte.invariant.rest
