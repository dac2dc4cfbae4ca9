use Rattle.std.proofs.Common.{◌≡◌, ◌∙◌, ap, arith, length, sym, ℕ}
use Rattle.std.proofs.lemmas.List.{length-reverse}
use Rattle.gm_flat.specs.Replay.{flat_at}
use Rattle.gm_publish.proofs.Judging.{is_true_of, look_in, look_is, sequence_is}
use Rattle.gm_publish.proofs.published.judging.is_true.Goals as goal

pub returns-then-sequence_at-sight : goal.returns-then-sequence_at-sight
returns-then-sequence_at-sight c =
    let past = c.args.machine.now.past in (
      λ h. absurd cc,
      λ t. absurd (c.if-sequence_at-sight.true (c.sequence_at.ensures ∙ sequence_is past c.args.kept.now c.args.access c.args.missed c.args.sight.now c.requires t)),
    )

pub returns : goal.returns
returns c =
    let past = c.args.machine.now.past in
    let s = c.args.sight.now in
    let long : length past ≡ length c.history.result.now = ap length c.history.ensures.history ∙ length-reverse c.history.result.now in
    let page = c.page.ensures in
    let is = c.in_ok-looked.ensures {u = tt} ∙ ap (λ (p : ℕ). look_in s.looked.at p (flat_at s.looked.at past).slots (flat_at s.looked.at past).attrs) page in
    let seq = sym c.sequence_at.ensures ∙ c.if-sequence_at-sight.false in (
      λ h. is_true_of past c.args.kept.now c.args.access c.args.missed s c.requires c.in_ok-looked.looked (omega arith) (omega arith) (omega arith) seq is (c.is_same.ensures.0 h),
      λ t. c.is_same.ensures.1 (look_is past c.args.kept.now c.args.access c.args.missed s c.requires c.in_ok-looked.looked is t),
    )
