use Rattle.std.proofs.Common.{◌<◌, subst, arith, false}
use Rattle.std.specs.Prelude.{MatchBool}
use mathlib.Core.Bool.{beq}
use Rattle.gm_attr.specs.Kinds.{AllHave, AttrsView, SomeOther, kind_at}
use Rattle.gm_attr.proofs.Telling.{all_have_is, all_or_other, one_other}
use Rattle.gm_attr.proofs.attrs.Attrs.same.Goals as goal

pub returns-in-Some-clause-exact : goal.returns-in-Some-clause-exact
returns-in-Some-clause-exact c =
    let some : c.args.span.lo < c.args.span.hi = omega arith in
    subst (λ (v : AttrsView). MatchBool (beq c.in-Some.value c.is_private_kind.result) (AllHave (kind_at v) c.args.span c.args.kind) (SomeOther (kind_at v) c.args.span c.args.kind)) c.self.view_is
    (all_or_other c.self.inside.runs.edges c.args.span c.in-Some.value c.is_private_kind.result c.args.kind c.is_private_kind.ensures.kind some c.in-Some.ensures.all)

pub returns-in-Some-clause-calls : goal.returns-in-Some-clause-calls
returns-in-Some-clause-calls c = λ calls tells.
    all_have_is (kind_at c.args.self.now) c.args.span c.args.kind calls tells (beq c.in-Some.value c.is_private_kind.result) (returns-in-Some-clause-exact c)

pub returns-in-None-clause-calls : goal.returns-in-None-clause-calls
returns-in-None-clause-calls c = λ calls tells.
    all_have_is (kind_at c.args.self.now) c.args.span c.args.kind calls tells false
    (subst (λ (v : AttrsView). SomeOther (kind_at v) c.args.span c.args.kind) c.self.view_is (one_other c.self.inside.runs.edges c.args.span c.args.kind c.in-None.ensures.differ))
