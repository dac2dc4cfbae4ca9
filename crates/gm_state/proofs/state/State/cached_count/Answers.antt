use Rattle.std.proofs.Common.{rules, ◌≡◌, ◌∙◌, Option, Some, ap, length, subst, sym}
use Rattle.gm_file.specs.Views.{FileView}
use Rattle.gm_radix.specs.Entries.{count_within}
use Rattle.gm_state.proofs.Rooming.{all_counted}
use Rattle.gm_store.specs.Stored.{RisesIn}
use Rattle.gm_store.specs.Views.{file_in, pairs_in}
use Rattle.gm_state.proofs.state.State.cached_count.Goals as goal

pub returns-in-Some-Some : goal.returns-in-Some-Some
returns-in-Some-Some c =
    let x = c.in-Some-Some.x in
    let e : file_in c.args.self.now.store.files c.args.file ≡ Some x = search rules in
    let r : RisesIn (Some x) = subst RisesIn e (c.requires.stands.2.store.files.each c.args.file).rises in
    c.count_in.ensures ∙ (ap (λ n. count_within 0 n x.cached) c.pages.ensures ∙ (all_counted x r ∙ sym (ap (λ (o : Option FileView). length (pairs_in o)) e)))
