use Rattle.std.proofs.Common.{subst, sym}
use Rattle.gm_base.specs.declared.values.Actor.{Actor}
use Rattle.gm_turns.proofs.CoreForetold.{vcpu_foretold}
use Rattle.gm_turns.specs.Foretold.{Foretells}
use Rattle.gm_turns.specs.Ready.{IsReady}
use Rattle.gm_turns.specs.Room.{orders_of}
use Rattle.std.proofs.Common.{◌+◌, None}
use Rattle.gm_turns.proofs.foretelling.ahead.Goals as goal

pub returns-in-Vcpu : goal.returns-in-Vcpu
returns-in-Vcpu c =
    let k = c.args.core.now in
    let e = c.in-Vcpu.is in
    subst (λ (a : Actor). Foretells (orders_of k) a (k.turns + 1) k.log.past None) (sym e) (vcpu_foretold k c.in-Vcpu.field-0 (subst (λ (a : Actor). IsReady k a) e c.requires.ready))
