-- Each generated text is a script.
use Rattle.gm_gen.proofs.ScriptReads.{is_script}
use Rattle.gm_gen.proofs.laws.workloads_are_scripts.Goals as goal

pub returns : goal.returns
returns c = is_script
