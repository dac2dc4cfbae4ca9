use Rattle.std.proofs.Common.{◌≡◌, ℕ, ◌/◌, ◌%◌, length, vec_len, arith, ltb, ◌∙◌, ap}
use Rattle.std.proofs.lemmas.List.{get_or_past}
use Rattle.gm_pool.proofs.Words.{words_below, pushed_below, pushed_some}
use Rattle.gm_pool.proofs.bits.all_below.Goals as goal

pub returns-then-rest-eq0-clause-numbers : goal.returns-then-rest-eq0-clause-numbers
returns-then-rest-eq0-clause-numbers c = λ number.
    words_below c.in_ok-words.words.items (c.args.size / 64) 0 c.args.size number c.in_ok-words.ensures.full (get_or_past c.in_ok-words.words.items (c.args.size / 64) 0 (omega (arith, c.in_ok-words.ensures.len))) (omega (arith, c.in_ok-words.ensures.len)) (omega arith) (omega (arith, c.if-rest-eq0.true))

pub returns-clause-numbers : goal.returns-clause-numbers
returns-clause-numbers c = λ number.
    pushed_below c.in_ok-words.words.items c.push.new.self.items (c.args.size / 64) (c.args.size % 64) c.args.size number c.in_ok-words.ensures.full (omega (arith, c.in_ok-words.ensures.len)) (omega arith) (omega arith) c.in_ok-push.ensures.items

pub returns-clause-some : goal.returns-clause-some
returns-clause-some c = λ word.
    let long : length c.push.new.self.items ≡ vec_len c.push.new.self = omega arith in
    pushed_some c.in_ok-words.words.items c.push.new.self.items (c.args.size / 64) (c.args.size % 64) word c.in_ok-words.ensures.full (omega (arith, c.in_ok-words.ensures.len)) (omega arith) (omega (arith, c.if-rest-eq0.false)) c.in_ok-push.ensures.items
    ∙ ap (λ (n : ℕ). ltb word n) long
