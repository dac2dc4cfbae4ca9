-- What later changes leave of a page's look.
use Rattle.std.proofs.Common.{◌≡◌, ℕ, ◌-◌, List, Option, drop, fold, length, take, ap, sym, ◌∙◌}
use Rattle.std.proofs.lemmas.List.{take-append-drop, take_rest}
use Rattle.std.proofs.lemmas.List.Sums.{fold-append}
use Rattle.gm_flat.specs.Attribute.{attr_of}
use Rattle.gm_flat.specs.FlatState.{AttrCall}
use Rattle.gm_flat.specs.Replay.{flat}
use Rattle.gm_flat.specs.Slots.{slot_over}
use Rattle.gm_flat.specs.declared.entry.Entry.{Entry}
use Rattle.gm_flat.specs.declared.views.SlotView.{SlotView}
use Rattle.gm_views.specs.Shows.{changed, shown_after}
use Rattle.gm_views.specs.Sights.{opening}
use Rattle.gm_views.specs.declared.shown.Change.{Change}
use Rattle.gm_views.specs.declared.sights.Sight.{Sight}
use Rattle.gm_publish.specs.Kept.{IsKept}
use Rattle.gm_slots.specs.Good.{Good}
use Rattle.gm_publish.proofs.Before.{good_shown}
use Rattle.gm_publish.proofs.Lookups.{latest_shown}

-- the changes after the first so many, as a slice has them
abbrev pub rest : ℕ → List Change → List Change
rest count changes = take (length changes - count) (drop count changes)

-- they go on from what those before them show
rest_shown : (count : ℕ) (changes : List Change) → shown_after changes ≡ fold changed (shown_after (take count changes)) (rest count changes)
rest_shown count changes =
    let before : List Change = take count changes in
    let whole = ap shown_after (sym (take-append-drop count changes)) in
    whole ∙ (fold-append changed opening before (drop count changes) ∙ ap (fold changed (shown_after before)) (sym (take_rest changes count)))

-- so what they leave is still as it was then

pub slot_left : (page count : ℕ) (slot : Option SlotView) (past : List Entry) (changes : List Change) → IsKept past changes → ((p : ℕ) (s : Sight) → Good s.slots → slot_over (fold changed s (rest count changes)).slots p ≡ slot → slot_over s.slots p ≡ slot) → slot ≡ slot_over (flat past).slots page → slot ≡ slot_over (shown_after (take count changes)).slots page
slot_left page count slot past changes k h is =
    let now = ap (λ (slots : List SlotView). slot_over slots page) (latest_shown past changes k).slots in
    let later = ap (λ (s : Sight). slot_over s.slots page) (rest_shown count changes) in
    let then : Sight = shown_after (take count changes) in
    sym (h page then (good_shown (take count changes) opening tt) (sym later ∙ (now ∙ sym is)))

pub attribute_left : (page count : ℕ) (past : List Entry) (changes : List Change) → IsKept past changes → ((s : Sight) → attr_of page (fold changed s (rest count changes)).calls ≡ attr_of page s.calls) → attr_of page (flat past).attrs ≡ attr_of page (shown_after (take count changes)).calls
attribute_left page count past changes k h =
    let now = ap (λ (calls : List AttrCall). attr_of page calls) (latest_shown past changes k).calls in
    sym now ∙ (ap (λ (s : Sight). attr_of page s.calls) (rest_shown count changes) ∙ h (shown_after (take count changes)))
