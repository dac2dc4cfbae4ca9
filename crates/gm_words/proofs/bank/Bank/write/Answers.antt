use Rattle.std.proofs.Common.{◌+◌, ◌*◌, refl, arith, ◌∙◌}
use Rattle.gm_words.proofs.Tables.{same_length, length_bank, write_bank}
use Rattle.gm_words.proofs.bank.Bank.write.Goals as goal

pub keep-place-requires-clause-page : goal.keep-place-requires-clause-page
keep-place-requires-clause-page c =
    omega (arith, length_bank c.args.self.now c.self.inside.pages c.self.inside.places.items c.self.inside.words.items c.self.view_is)

pub returns-clause-page : goal.returns-clause-page
returns-clause-page c =
    let place = c.keep-place.result in
    let kept = c.keep-place.ensures.kept in
    let at = place * 512 + c.args.word in
    let below = kept.inside c.args.page place c.keep-place.ensures.place in
    write_bank c.args.self.now c.self.inside.pages c.keep-place.new.places.items c.keep-place.new.words.items c.args.page place c.args.word c.args.value at (c.keep-place.ensures.same ∙ c.self.view_is) c.requires.page c.requires.word c.keep-place.ensures.place kept.apart refl (omega (arith, below, kept.whole))

pub returns-clause-len : goal.returns-clause-len
returns-clause-len c =
    same_length c.args.self.now c.self.inside.pages c.self.inside.places.items c.keep-place.new.places.items c.self.inside.words.items _ c.self.view_is
