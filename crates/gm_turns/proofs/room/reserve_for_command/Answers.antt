use Rattle.std.proofs.Common.{◌≡◌, ◌∙◌, ◌<◌, ℕ, List, [], ap, arith, length, slice_get, sym}
use Rattle.gm_base.specs.declared.script.Command.{Command}
use Rattle.gm_callers.specs.Callers.{caller_at}
use Rattle.gm_mapping.proofs.Lists.{get_or_any}
use Rattle.gm_turns.proofs.Rooming.{can_bind, command_of, need_not_bind, on_ok}
use Rattle.gm_turns.specs.Needs.{region_file}
use Rattle.gm_turns.proofs.room.reserve_for_command.Goals as goal

pub returns-in-Some-clause-ok : goal.returns-in-Some-clause-ok
returns-in-Some-clause-ok c =
    let k = c.args.core.now in
    let s = c.requires.settled in
    let lt : c.args.c < length k.caller_commands.items = let n = s.commanded.caller_lists in let a = c.requires.actor in omega arith in
    let got : command_of k c.args.c ≡ c.get.result =
    ap (λ (xs : List Command). slice_get xs (caller_at k.callers c.args.c).ended) (get_or_any k.caller_commands.items c.args.c [] c.index-commands.result.now lt ∙ sym c.index-commands.ensures)
    ∙ (ap (λ (n : ℕ). slice_get c.index-commands.result.now n) (sym c.ended-ended.ensures) ∙ sym c.get.ensures) in
    on_ok c.reserve_binding.result (can_bind k c.reserve_binding.new.self c.args.c c.in-Some.file s c.requires.actor (ap region_file got ∙ sym c.in-Some.ensures)) c.reserve_binding.ensures.room

pub returns-in-None-clause-ok : goal.returns-in-None-clause-ok
returns-in-None-clause-ok c =
    let k = c.args.core.now in
    let s = c.requires.settled in
    let lt : c.args.c < length k.caller_commands.items = let n = s.commanded.caller_lists in let a = c.requires.actor in omega arith in
    let got : command_of k c.args.c ≡ c.get.result =
    ap (λ (xs : List Command). slice_get xs (caller_at k.callers c.args.c).ended) (get_or_any k.caller_commands.items c.args.c [] c.index-commands.result.now lt ∙ sym c.index-commands.ensures)
    ∙ (ap (λ (n : ℕ). slice_get c.index-commands.result.now n) (sym c.ended-ended.ensures) ∙ sym c.get.ensures) in
    need_not_bind k c.args.c s c.requires.actor (ap region_file got ∙ sym c.in-None.ensures)
