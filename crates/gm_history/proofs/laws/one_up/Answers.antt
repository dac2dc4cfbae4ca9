use Rattle.gm_history.proofs.Ups.{one_up, text_up}
use Rattle.gm_history.proofs.laws.one_up.Goals as goal

pub returns : goal.returns
returns c = record { one = one_up; text = text_up }
