-- What an entry that moves no memory leaves as it was.
use Rattle.std.proofs.Common.{◌≡◌, ℕ, ◌≤◌, ◌||◌, List, [], ◌∷◌, Bool, true, false, length, suc, Some, None, arith, refl, ◌∙◌, ap, cond}
use Rattle.std.proofs.lemmas.Bool.{or_parts}
use Rattle.gm_base.specs.declared.values.Actor.{Actor}
use Rattle.gm_base.specs.declared.values.Actor.TheVariants.{Vcpu}
use Rattle.gm_base.specs.declared.values.Setup.{Setup}
use Rattle.gm_flat.specs.Replay.{added_by, flat}
use Rattle.gm_flat.specs.Words.{folio_step, folio_word, user_step, user_word}
use Rattle.gm_flat.specs.declared.entry.Entry.{Entry}
use Rattle.gm_flat.specs.declared.entry.What.{What}
use Rattle.gm_flat.specs.declared.entry.What.TheVariants.{Change, Free, Get, Page, Touch}
use Rattle.gm_laws.proofs.Counted.{flat_quiet, moves_flat}
use Rattle.gm_state.proofs.Alike.{SameMemory, alike}
use Rattle.gm_state.specs.Views.{StateView}
use Rattle.gm_vcpus.proofs.Holders.{holds_quiet}
use Rattle.gm_vcpus.specs.Holds.{holds_of}
use Rattle.gm_vcpus.specs.Stand.{moves_vcpus}
use Rattle.gm_turns.specs.Standing.{StateStands, memory_of}

abbrev pub is_touch : What → Bool
is_touch (Touch access backing level value fill) = true
is_touch w = false

-- whether an entry moves words
abbrev pub moves_words : What → Bool
moves_words w = moves_flat w || is_touch w

user_same : (page word : ℕ) (w : What) (x : ℕ) → moves_words w ≡ false → user_step page word w x ≡ x
user_same page word (Change effect) x h = absurd (cc)
user_same page word (Touch a b l v f) x h = absurd (cc)
user_same page word _ x h = refl

folio_same : (serial word : ℕ) (w : What) (a : Actor) (past : List Entry) → moves_words w ≡ false → folio_word serial word (record { turn = 0; actor = a; what = w } ∷ past) ≡ folio_word serial word past
folio_same serial word (Change effect) a past h = absurd (cc)
folio_same serial word (Get b n) a past h = absurd (cc)
folio_same serial word (Page i f n) a past h = absurd (cc)
folio_same serial word (Free f n) a past h = absurd (cc)
folio_same serial word (Touch x b l v f) a past h = absurd (cc)
folio_same serial word _ a past h = refl

-- one more entry, with the same holds
pub state_same : {s : Setup} {st : StateView} (e : Entry) (past : List Entry) → moves_words e.what ≡ false → ((serial : ℕ) → holds_of s.vcpus serial (e ∷ past) ≡ holds_of s.vcpus serial past) → StateStands s st past → StateStands s st (e ∷ past)
state_same {s = s} {st = st} e past m h t = record {
  is = alike s st (memory_of s past) (memory_of s (e ∷ past)) (record { flat = flat_quiet e past (or_parts (moves_flat e.what) (is_touch e.what) m).0; holds = h; words = λ serial word. folio_same serial word e.what e.actor past m; user_words = λ page word. user_same page word e.what (user_word page word past) m }) t.is;
  generation = let g = t.generation in omega arith;
}

abbrev pub moves_state : What → Actor → Bool
moves_state w a = moves_words w || moves_vcpus w a

pub quiet : {s : Setup} {st : StateView} (e : Entry) (past : List Entry) → moves_state e.what e.actor ≡ false → StateStands s st past → StateStands s st (e ∷ past)
quiet {s = s} {st = st} e past h t =
    let p = or_parts (moves_words e.what) (moves_vcpus e.what e.actor) h in
    state_same e past p.0 (λ serial. holds_quiet s.vcpus serial e past p.1) t
