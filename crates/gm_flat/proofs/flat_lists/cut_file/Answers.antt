use Rattle.std.proofs.Common.{not, eqb, rules, ◌∙◌}
use Rattle.std.proofs.lemmas.Fn.{filter_same}
use Rattle.gm_flat.specs.FlatState.{Triple}
use Rattle.gm_flat.proofs.Cuts.{filter_file}
use Rattle.gm_flat.proofs.flat_lists.cut_file.Goals as goal

pub returns : goal.returns
returns c =
    filter_same _ (λ (t : Triple). not (eqb t.file c.args.file)) _ (λ x b f h. search rules) _ _ c.retain.ensures.filtered
    ∙ filter_file c.args.file c.args.cache.now.items
