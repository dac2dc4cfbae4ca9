use Rattle.std.proofs.Common.{◌∙◌, ap}
use Rattle.gm_radix.specs.Entries.{lookup}
use Rattle.gm_attr.proofs.Lookups.{Blocks, put_here, put_other, dropped_here, dropped_other}
use Rattle.gm_attr.proofs.Renewing.{flag_none, flag_some}
use Rattle.gm_attr.proofs.flags.renew.Goals as goal

pub returns-in-Some-clause-flag : goal.returns-in-Some-clause-flag
returns-in-Some-clause-flag c =
    flag_none c.args.runs.now.edges c.args.block c.block_span.result c.in-Some.field-0 _ (ap (λ (es : Blocks). lookup c.args.block es) c.discard.ensures.entries ∙ dropped_here c.args.block _) c.block_span.ensures c.in-Some.ensures.all

pub returns-in-Some-clause-others : goal.returns-in-Some-clause-others
returns-in-Some-clause-others c = λ k ne.
    ap (λ (es : Blocks). lookup k es) c.discard.ensures.entries ∙ dropped_other k c.args.block _ ne

pub returns-in-None-clause-flag : goal.returns-in-None-clause-flag
returns-in-None-clause-flag c =
    flag_some c.args.runs.now.edges c.args.block c.block_span.result _ (ap (λ (es : Blocks). lookup c.args.block es) c.insert.ensures.entries ∙ put_here c.args.block _) c.block_span.ensures c.in-None.ensures.differ

pub returns-in-None-clause-others : goal.returns-in-None-clause-others
returns-in-None-clause-others c = λ k ne.
    ap (λ (es : Blocks). lookup k es) c.insert.ensures.entries ∙ put_other k c.args.block _ ne
