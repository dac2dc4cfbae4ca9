use Rattle.std.proofs.Common.{◌++◌, ◌∙◌, List, ap, ℕ}
use Rattle.gm_gen.specs.Workload.{head_text}
use Rattle.gm_gen.proofs.Texts.{workload_is}
use Rattle.gm_gen.proofs.script.workload.Goals as goal

pub returns : goal.returns
unfolding head_text
returns c =
    workload_is c.args.number c.args.turns c.add_commands.new.draws.x c.add_bytes.new.text.items c.add_commands.new.text.items c.add_turns.new.text.items
    (c.in_ok-add_bytes.ensures {u = tt} ∙ ap (λ (t : List ℕ). t ++ head_text) c.new-text.ensures.items) (c.in_ok-add_commands.ensures {u = tt}).text (c.in_ok-add_commands.ensures {u = tt}).x (c.in_ok-add_turns.ensures {u = tt}).text
