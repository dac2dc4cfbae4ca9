-- What a Get of a backing that is there leaves of the state.
use Rattle.std.proofs.Common.{◌≡◌, ℕ, List, ◌∷◌, Option, Some, None, arith, refl, ap, cond}
use Rattle.gm_base.specs.declared.values.Actor.TheVariants.{Vcpu as OfVcpu}
use Rattle.gm_base.specs.declared.values.Setup.{Setup}
use Rattle.gm_fault.specs.declared.ticket.Ticket.{Ticket}
use Rattle.gm_flat.specs.Effects.{Addition, add, get_addition}
use Rattle.gm_flat.specs.FlatState.{FileState}
use Rattle.gm_flat.specs.Histories.{Fault, Faulting, NoFault, fault}
use Rattle.gm_flat.specs.Replay.{States, added_by, flat, get_adds, states}
use Rattle.gm_flat.specs.Words.{first_word, folio_word, is_new}
use Rattle.gm_flat.specs.declared.effect.Backing.{Backing}
use Rattle.gm_flat.specs.declared.effect.Backing.TheVariants.{User as InUser, Folio as InFolio}
use Rattle.gm_flat.specs.declared.entry.Entry.{Entry}
use Rattle.gm_flat.specs.declared.entry.What.TheVariants.{Get}
use Rattle.gm_flat.specs.declared.views.Looked.{Looked}
use Rattle.gm_flat.specs.declared.views.Sampled.{Sampled}
use Rattle.gm_laws.proofs.Kit.{by}
use Rattle.gm_state.proofs.Alike.{alike}
use Rattle.gm_state.specs.Views.{StateView}
use Rattle.gm_turns.specs.Standing.{StateStands, memory_of}
use Rattle.gm_vcpus.proofs.Allowed.{AtLook}
use Rattle.gm_vcpus.proofs.Holders.{holds_get}
use Rattle.gm_vcpus.specs.declared.vcpu.Vcpu.{Vcpu}

none_by : (b : Backing) (F I : Option ℕ) (files : List FileState) → get_addition b 0 F I files ≡ None
none_by (InUser page) F I files = refl
none_by (InFolio folio) None I files = refl
none_by (InFolio folio) (Some file) None files = refl
none_by (InFolio folio) (Some file) (Some index) files = refl

none_got : (b : Backing) (x : Fault) (st : States) → get_adds b 0 x st ≡ None
none_got b NoFault st = refl
none_got b (Faulting a missed sample None got) st = refl
none_got b (Faulting a missed sample (Some seen) got) st = none_by b seen.file _ st.now.files

-- nothing is added
pub adds_none : (v : ℕ) (b : Backing) (past : List Entry) → added_by (Get b 0) (OfVcpu v) past ≡ None
adds_none v b past = none_got b (fault v past) (states past)

pub flat_got : (t v : ℕ) (b : Backing) (past : List Entry) → flat (by t (OfVcpu v) (Get b 0) ∷ past) ≡ flat past
flat_got t v b past = ap (λ (d : Option Addition). add d (flat past)) (adds_none v b past)

pub words_got : (t v : ℕ) (b : Backing) (past : List Entry) (serial word : ℕ) → folio_word serial word (by t (OfVcpu v) (Get b 0) ∷ past) ≡ folio_word serial word past
words_got t v b past serial word = ap (λ (d : Option Addition). cond (is_new serial d) (first_word serial word d past) (folio_word serial word past)) (adds_none v b past)

-- a user page
pub got_user : (s : Setup) (st : StateView) (vs : List Vcpu) (past : List Entry) (t v : ℕ) (k : Ticket) (x : Sampled) (y : Looked) (page : ℕ) → AtLook s vs past v k x y → StateStands s st past → StateStands s st (by t (OfVcpu v) (Get (InUser page) 0) ∷ past)
got_user s st vs past t v k x y page h tie = record {
  is = alike s st (memory_of s past) (memory_of s (by t (OfVcpu v) (Get (InUser page) 0) ∷ past))
      (record { flat = flat_got t v (InUser page) past; holds = λ serial. holds_get s vs past serial t v k x y (InUser page) 0 h; words = words_got t v (InUser page) past; user_words = λ p word. refl }) tie.is;
  generation = let g = tie.generation in omega arith;
}
