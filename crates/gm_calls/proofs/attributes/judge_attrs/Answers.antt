use Rattle.std.proofs.Common.{ap, ◌∙◌, cond, Bool}
use Rattle.gm_flat.specs.Calls.{Bracketed, Same}
use Rattle.gm_flat.specs.declared.effect.Effect.TheVariants.{Attr}
use Rattle.std.proofs.Common.{◌∷◌, []}
use Rattle.gm_ioctl.specs.Remaining.{set_kind}
use Rattle.gm_calls.proofs.Filling.{is_same}
use Rattle.gm_calls.proofs.Populating.{extent_is, kind_set}
use Rattle.gm_calls.proofs.attributes.judge_attrs.Goals as goal

pub returns-then-same : goal.returns-then-same
returns-then-same c = λ f st. (is_same c.args.parts.now.user.now (set_kind c.args.address c.args.size c.args.attributes f) 0 (kind_set c.args.address c.args.size c.args.attributes f c.wanted_kind-kind.result c.in-Some.span c.same.result c.requires.paged_address c.requires.paged_size c.wanted_kind-kind.ensures (extent_is c.in-Some.span _ _ c.in-Some.ensures.span.0 c.in-Some.ensures.span.1) (c.same.ensures.calls f.attrs st.attrs_are) ∙ ap (λ (b : Bool). cond b (Same 0) (Bracketed (Attr c.in-Some.span c.wanted_kind-kind.result) (c.in-Some.span ∷ []))) c.if-same.true), c.requires.empty)
