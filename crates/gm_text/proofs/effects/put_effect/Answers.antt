use Rattle.gm_text.proofs.effects.put_effect.Goals as goal

pub returns-in-Attr : goal.returns-in-Attr
returns-in-Attr g c = rw (c.in-Attr.is, ← c.lo.ensures.lo, ← c.hi.ensures.hi, ← c.kind_word.ensures) c.put_pieces-in-Attr.ensures

pub returns-in-Shut : goal.returns-in-Shut
returns-in-Shut g c = rw c.in-Shut.is c.put_pieces-in-Shut.ensures

pub returns-in-Word : goal.returns-in-Word
returns-in-Word g c = rw c.in-Word.is c.put_pieces-in-Word.ensures
