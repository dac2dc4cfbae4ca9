use Rattle.std.proofs.Common.{◌≤◌, ℕ, subst, sym}
use Rattle.gm_turns.proofs.Populations.{at_most, ends_whole, not_all}
use Rattle.gm_turns.proofs.pages.populate.Goals as goal

pub answer_pages-requires-clause-ends : goal.answer_pages-requires-clause-ends
answer_pages-requires-clause-ends c = (c.args.plan, c.requires.adds, ends_whole c.args.core.now c.args.c c.args.base c.pages_so_far-pages.result c.args.plan c.requires.populates c.pages_so_far-pages.ensures c.if-pages-plan.true)

pub populate_next-requires-clause-at : goal.populate_next-requires-clause-at
populate_next-requires-clause-at c = record {
  adds = c.requires.adds;
  populates = c.requires.populates;
  copies = c.requires.copies;
  count_is = c.pages_so_far-pages.ensures;
  more = not_all c.pages_so_far-pages.result c.args.plan.pages (subst (λ (n : ℕ). n ≤ c.args.plan.pages) (sym c.pages_so_far-pages.ensures) (at_most c.args.core.now c.args.c c.args.base c.args.plan c.requires.ready c.requires.adds c.requires.populates)) c.if-pages-plan.false;
}
