use Rattle.std.proofs.Common.{◌+◌, ◌*◌, None, Some, refl, ◌∙◌, arith}
use Rattle.std.proofs.lemmas.List.{get_or_read}
use Rattle.gm_words.proofs.Places.{found}
use Rattle.gm_words.proofs.Tables.{read_bank, read_zero}
use Rattle.gm_words.proofs.bank.Bank.read.Goals as goal

pub returns-in-Some : goal.returns-in-Some
returns-in-Some c =
    let place = c.in-Some.place in
    let at = place * 512 + c.args.word in
    let is = found c.self.inside.places.items c.deref.result.now c.args.page (Some place) c.deref.ensures.value c.in-Some.ensures in
    let below = c.self.invariant.inside c.args.page place is in
    get_or_read c.self.inside.words.items at c.index.result.now (omega (arith, below, c.self.invariant.whole)) c.index.ensures 0
    ∙ read_bank c.args.self.now c.self.inside.pages c.self.inside.places.items c.self.inside.words.items c.args.page c.args.word place at c.self.view_is c.requires.page c.requires.word is refl

pub returns-in-None : goal.returns-in-None
returns-in-None c =
    let is = found c.self.inside.places.items c.deref.result.now c.args.page None c.deref.ensures.value c.in-None.ensures in
    read_zero c.args.self.now c.self.inside.pages c.self.inside.places.items c.self.inside.words.items c.args.page c.args.word c.self.view_is c.requires.page c.requires.word is
