-- The count tells whether the block has something cached.
use Rattle.std.proofs.Common.{sym, ◌∙◌, arith}
use Rattle.std.proofs.lemmas.Bool.{eqb-true, eq-eqb}
use Rattle.gm_store.proofs.Counting.{count_of_open, open_by_count}
use Rattle.gm_store.proofs.first_use.is_open.Goals as goal

pub returns-clause-yes : goal.returns-clause-yes
returns-clause-yes c = λ h.
    let a = c.if-not-is_block.false in
    let b = c.is_block.ensures in
    let d = c.count_in.ensures in
    open_by_count c.args.file.now c.args.first (sym b ∙ a) (omega (arith, c.if-pages-end.false, c.pages.ensures)) (sym d ∙ eqb-true c.count_in.result 0 h)

pub returns-clause-no : goal.returns-clause-no
returns-clause-no c = λ o. eq-eqb c.count_in.result 0 (c.count_in.ensures ∙ count_of_open c.args.file.now c.args.first o)
