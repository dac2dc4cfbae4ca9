use Rattle.std.proofs.Common.{◌≡◌, ◌∙◌, List, ap, subst, true}
use Rattle.gm_base.specs.Scripts.{IsOf, Orders}
use Rattle.gm_base.specs.declared.values.Actor.{Actor}
use Rattle.gm_base.specs.declared.values.Setup.{Setup}
use Rattle.gm_flat.specs.Histories.{gone}
use Rattle.gm_flat.specs.declared.entry.Entry.{Entry}
use Rattle.gm_machine.specs.Steps.{Seen}
use Rattle.gm_publish.specs.Publisheds.{PublishedSeen}
use Rattle.gm_threads.proofs.Gone.{each_gone}
use Rattle.gm_threads.proofs.held.Held.is_finished.Goals as goal

pub returns-then-are_vcpus_gone : goal.returns-then-are_vcpus_gone
returns-then-are_vcpus_gone g c =
    let seen = c.machine-machine.ensures.machine in
    let setup : c.setup-setup.result ≡ g.J.Naming.orders.setup = c.setup-setup.ensures ∙ (ap (λ (m : Seen). m.orders.setup) seen ∙ ap (λ (o : Orders). o.setup) c.self.invariant) in
    let past : c.machine-machine.result.now.past ≡ c.args.self.now.past = ap (λ (m : Seen). m.past) seen ∙ ap (λ (p : PublishedSeen). p.past) c.self.view_is in
    λ all.
    subst (λ (s : Setup). (a : Actor) → IsOf s a → gone a c.args.self.now.past ≡ true) setup
    (subst (λ (p : List Entry). (a : Actor) → IsOf c.setup-setup.result a → gone a p ≡ true) past
    (each_gone c.setup-setup.result c.machine-machine.result.now.past (c.are_vcpus_gone.ensures c.if-are_vcpus_gone.true) (c.are_callers_gone.ensures all)))
