use Rattle.std.proofs.Common.{not, rules, ◌∙◌}
use Rattle.std.proofs.lemmas.Fn.{filter_same}
use Rattle.gm_flat.specs.FlatState.{Triple}
use Rattle.gm_flat.specs.Effects.{is_cut}
use Rattle.gm_flat.proofs.Cuts.{filter_cut}
use Rattle.gm_flat.proofs.flat_lists.cut.Goals as goal

pub returns : goal.returns
returns c =
    filter_same _ (λ (t : Triple). not (is_cut c.args.file c.args.lo c.args.hi t)) _ (λ x b f h. search rules) _ _ c.retain.ensures.filtered
    ∙ filter_cut c.args.file c.args.lo c.args.hi c.args.cache.now.items
