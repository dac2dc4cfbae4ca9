use Rattle.std.proofs.Common.{sym}
use Rattle.gm_words.proofs.Tables.{length_bank, whole_page}
use Rattle.gm_words.proofs.bank.Bank.pages.Goals as goal

pub returns : goal.returns
returns c = record {
  pages = sym (length_bank c.args.self.now c.self.inside.pages c.self.inside.places.items c.self.inside.words.items c.self.view_is);
  whole = λ page h. whole_page c.args.self.now c.self.inside.pages c.self.inside.places.items c.self.inside.words.items page c.self.view_is h;
}
