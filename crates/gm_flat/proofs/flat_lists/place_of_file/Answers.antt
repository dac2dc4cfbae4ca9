use Rattle.std.proofs.Common.{eqb, arith, ap, refl, sym, ◌∙◌}
use Rattle.gm_flat.specs.FlatState.{FileState}
use Rattle.gm_flat.proofs.Walks.{files_more, made_found, made_ended, shut_found}
use Rattle.gm_flat.proofs.flat_lists.place_of_file.Goals as goal

pub loop-at-init : goal.loop-at-init
loop-at-init c = record { made = refl; shuts = refl }

pub loop-at-preserved : goal.loop-at-preserved
loop-at-preserved c =
    files_more c.args.files.now c.loop-at.at c.args.number c.index-files-at.result c.loop-at.invariant c.loop-at-test.true
    (ap (λ (f : FileState). eqb f.number c.args.number) (sym c.index-files-at.is) ∙ (sym c.is.ensures ∙ c.if-is.false))

pub returns-then-is-clause-made : goal.returns-then-is-clause-made
returns-then-is-clause-made c =
    made_found c.args.files.now c.loop-at.at c.args.number c.index-files-at.result c.loop-at.invariant c.loop-at-test.true
    (ap (λ (f : FileState). eqb f.number c.args.number) (sym c.index-files-at.is) ∙ (sym c.is.ensures ∙ c.if-is.true))

pub returns-then-is-clause-shuts : goal.returns-then-is-clause-shuts
returns-then-is-clause-shuts c = λ file is.
    shut_found c.args.files.now c.loop-at.at c.args.number c.index-files-at.result file c.loop-at.invariant c.loop-at-test.true
    (ap (λ (f : FileState). eqb f.number c.args.number) (sym c.index-files-at.is) ∙ (sym c.is.ensures ∙ c.if-is.true)) is

pub returns-clause-none : goal.returns-clause-none
returns-clause-none c = made_ended c.args.files.now c.loop-at.at c.args.number c.loop-at.invariant (omega arith)
