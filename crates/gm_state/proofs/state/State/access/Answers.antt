use Rattle.std.proofs.Common.{subst, sym}
use Rattle.gm_flat.specs.declared.effect.Backing.{Backing}
use Rattle.gm_flat.specs.RightTouch.{IsValue}
use Rattle.gm_state.specs.Accessing.{CanAccess, accessed, word_at}
use Rattle.gm_state.specs.Stand.{StateIs}
use Rattle.gm_state.proofs.state.State.access.Goals as goal

pub returns-in-User-clause-is : goal.returns-in-User-clause-is
returns-in-User-clause-is c = λ s m k. subst (λ (b : Backing). StateIs s c.access_user.new.self (accessed c.args.access b m)) (sym c.in-User.is) (c.access_user.ensures.is s m (subst (λ (b : Backing). CanAccess s c.args.self.now m b) c.in-User.is k))

pub returns-in-Folio-clause-value : goal.returns-in-Folio-clause-value
returns-in-Folio-clause-value c = λ s m k. subst (λ (b : Backing). IsValue c.args.access.op (word_at b c.args.access.word m) c.access_folio.result) (sym c.in-Folio.is) (c.access_folio.ensures.value s m (subst (λ (b : Backing). CanAccess s c.args.self.now m b) c.in-Folio.is k))

pub returns-in-Folio-clause-is : goal.returns-in-Folio-clause-is
returns-in-Folio-clause-is c = λ s m k. subst (λ (b : Backing). StateIs s c.access_folio.new.self (accessed c.args.access b m)) (sym c.in-Folio.is) (c.access_folio.ensures.is s m (subst (λ (b : Backing). CanAccess s c.args.self.now m b) c.in-Folio.is k))
