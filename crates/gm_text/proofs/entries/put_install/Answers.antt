use Rattle.gm_text.proofs.entries.put_install.Goals as goal

pub returns : goal.returns
returns g c = rw (← c.number.ensures.number, ← c.level_word.ensures) c.put_pieces.ensures
