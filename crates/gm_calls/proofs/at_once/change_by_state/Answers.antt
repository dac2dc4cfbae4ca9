use Rattle.std.proofs.Common.{[]}
use Rattle.gm_flat.specs.Calls.{Short, page_of, word_in}
use Rattle.gm_flat.specs.declared.effect.Effect.TheVariants.{Word}
use Rattle.gm_calls.proofs.at_once.change_by_state.Goals as goal

pub returns-in-Poke : goal.returns-in-Poke
returns-in-Poke c = λ f st. rw c.in-Poke.is (c.effect_of-in-Poke.ensures c.args.parts.now.user.now (Short (Word (page_of c.in-Poke.address) (word_in c.in-Poke.address) c.in-Poke.value) 0) [] (c.judge_poke.ensures c.args.parts.now.user.now))
