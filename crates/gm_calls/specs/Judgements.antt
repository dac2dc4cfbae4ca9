-- What a judgement tells of a plan.
use Rattle.std.specs.Prelude.{◌≡◌, ℕ, List, []}
use Rattle.gm_base.specs.Extent.{Extent}
use Rattle.gm_flat.specs.Calls.{Plan, Refused, Same, Reads, Short, Bracketed, Paged}
use Rattle.gm_flat.specs.Calls.{PagePlan as Planned}
use Rattle.gm_words.specs.Banks.{word_in}
use Rattle.gm_calls.specs.declared.judged.Judged.{Judged}
use Rattle.gm_calls.specs.declared.judged.Judged.TheVariants as judged
use Rattle.gm_calls.specs.declared.judged.PagePlan.{PagePlan}

-- the plan's pages
abbrev pub pages_of : PagePlan → Planned
pages_of p = record { file = p.file; index = p.index; pages = p.pages; base = p.base; copy = p.copy }

-- what a call that changes nothing answers: the plan's number, or the word of user memory that the plan names
abbrev pub IsAnswer : List (List ℕ) → Plan → ℕ → Type 0
IsAnswer user (Same given) answer = given ≡ answer
IsAnswer user (Reads page word) answer = word_in user page word ≡ answer
IsAnswer user (Refused errno) answer = ⊥
IsAnswer user (Short effect given) answer = ⊥
IsAnswer user (Bracketed effect spans) answer = ⊥
IsAnswer user (Paged pages) answer = ⊥

-- what was judged, with its spans, is the plan; only a bracket has spans
abbrev pub Tells : List (List ℕ) → Plan → Judged → List Extent → Type 0
Tells user p (judged.Refused errno) spans = (p ≡ Refused errno) × (spans ≡ [])
Tells user p (judged.Same answer) spans = IsAnswer user p answer × (spans ≡ [])
Tells user p (judged.Short effect answer) spans = (p ≡ Short effect answer) × (spans ≡ [])
Tells user p (judged.Bracket effect) spans = p ≡ Bracketed effect spans
Tells user p (judged.Pages q) spans = (p ≡ Paged (pages_of q)) × (spans ≡ [])
