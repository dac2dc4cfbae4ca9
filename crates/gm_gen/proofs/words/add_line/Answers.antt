use Rattle.std.proofs.Common.{◌++◌, ◌∙◌, List, [], ap, get_or, refl, ℕ}
use Rattle.gm_gen.specs.declared.words.Word.TheVariants.{Plain}
use Rattle.gm_gen.specs.Lines.{word_text}
use Rattle.gm_gen.proofs.Texts.{line_closed, ok_tells, word_added}
use Rattle.gm_gen.proofs.words.add_line.Goals as goal

pub loop-word-init : goal.loop-word-init
loop-word-init c = refl

pub loop-word-preserved : goal.loop-word-preserved
loop-word-preserved c =
    word_added c.loop-word.text.items _ c.add_word-in-loop-word.new.text.items c.args.rest.now c.loop-word.word-index (Plain (record { ref_ptr = (0, 0); now = [] })) c.loop-word-test.true c.loop-word.invariant
    (c.in_ok-add_word-2.ensures {u = tt} ∙ ap (λ (t : List ℕ). t ++ word_text (get_or c.args.rest.now c.loop-word.word-index (Plain (record { ref_ptr = (0, 0); now = [] })))) (c.in_ok-add_bytes.ensures {u = tt}))

pub returns : goal.returns
returns c =
    ok_tells c.add_bytes-2.result _ _
    (line_closed c.args.text.now.items (word_text c.args.first) c.add_word.new.text.items c.loop-word.text.items c.args.rest.now c.loop-word.word-index c.args.first c.loop-word-test.false c.loop-word.invariant (c.in_ok-add_word.ensures {u = tt}) c.add_bytes-2.new.text.items)
    c.add_bytes-2.ensures
