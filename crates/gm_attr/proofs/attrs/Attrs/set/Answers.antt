use Rattle.std.proofs.Common.{◌≡◌, ap, arith}
use Rattle.gm_radix.specs.Entries.{without}
use Rattle.gm_attr.specs.Kinds.{AttrsView, first_whole, end_whole}
use Rattle.gm_attr.proofs.Renewing.{Renewed, set_flags}
use Rattle.gm_attr.proofs.attrs.Attrs.set.Goals as goal

pub invariant_of-self : goal.invariant_of-self
invariant_of-self c =
    let calls = ap (λ (v : AttrsView). v.call_spare) c.self.view_is in
    let cleared : c.discard.new.self.entries ≡ without (first_whole c.args.span) (end_whole c.args.span) c.self.inside.mixed.entries = rw (← c.first_whole_block.ensures, ← c.end_whole_block.ensures.number) c.discard.ensures.entries in
    let one : Renewed c.set.new.self.edges c.self.inside.tracked.entries c.discard.new.self.entries c.renew_tracked.new.mixed.entries c.first_block.result = record { flag = c.renew_tracked.ensures.flag; others = c.renew_tracked.ensures.others } in
    let two : Renewed c.set.new.self.edges c.self.inside.tracked.entries c.renew_tracked.new.mixed.entries c.renew_tracked-2.new.mixed.entries c.last_block.result = record { flag = c.renew_tracked-2.ensures.flag; others = c.renew_tracked-2.ensures.others } in (
      set_flags c.self.inside.runs.edges c.set.new.self.edges c.args.span c.is_private_kind.result c.self.inside.tracked.entries c.self.inside.mixed.entries c.discard.new.self.entries c.renew_tracked.new.mixed.entries c.renew_tracked-2.new.mixed.entries c.first_block.result c.last_block.result
          c.set.ensures.pages c.self.invariant.0 cleared c.first_block.ensures.number c.last_block.ensures.number one two,
      omega (arith, c.set.ensures.spare, c.requires, calls),
      c.self.invariant.2,
      omega (arith, c.discard.ensures.spare, c.renew_tracked.ensures.spare, c.renew_tracked-2.ensures.spare, c.requires, calls),
    )
