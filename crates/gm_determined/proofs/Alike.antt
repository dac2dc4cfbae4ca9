-- The spare room of spans tells nothing: readings of a history with it and without.
use Rattle.std.proofs.Common.{◌&&◌, ◌++◌, ◌+◌, ◌-◌, Bool, List, None, Option, Some, [], ap, cond, eqb, leb, length, refl, suc, sym, true, ℕ, ◌∙◌, ◌∷◌, ◌≡◌}
use Rattle.gm_base.specs.Extent.{Extent}
use Rattle.gm_base.specs.declared.values.Actor.{Actor}
use Rattle.gm_base.specs.declared.values.Actor.TheVariants.{Caller, Vcpu}
use Rattle.gm_base.specs.declared.values.Level.{Level}
use Rattle.gm_flat.specs.Effects.{Addition, add}
use Rattle.gm_flat.specs.FlatState.{Flat}
use Rattle.gm_flat.specs.Histories.{Bracket, Call, Fault, bracket, bracket_step, call, call_step, done, ends_one, fault, fault_step, gone, gone_step, is_vcpu, same_actor}
use Rattle.gm_flat.specs.Invalidation.{count, count_step, ended, ended_step, hull, hull_step}
use Rattle.gm_flat.specs.Mappings.{Mapping, covered, fill_if, fills, fills_step, flushed, flushed_step, inside, inside_step, leaf_by, leaves, leaves_step, off_extent, pending, pending_step}
use Rattle.gm_flat.specs.Replay.{States, adds, flat, flat_step, get_adds, page_adds, states}
use Rattle.gm_flat.specs.Words.{copied, first_word, folio_step, folio_word, is_new, user_step, user_word}
use Rattle.gm_flat.specs.declared.entry.Entry.{Entry}
use Rattle.gm_flat.specs.declared.entry.What.{What}
use Rattle.gm_flat.specs.declared.entry.What.TheVariants.{Begin, Get, Install, Page, Touch}
use Rattle.gm_laws.proofs.Kit.{by}
use Rattle.gm_flat.specs.InTypes.{roomless, roomless_entries}

pub record Alike (p q : List Entry) : Type 0 where
  pub r_length : length p ≡ length q
  pub r_states : states p ≡ states q
  pub r_fault : (v : ℕ) → fault v p ≡ fault v q
  pub r_call : (c : ℕ) → call c p ≡ call c q
  pub r_bracket : (c : ℕ) → bracket c p ≡ bracket c q
  pub r_gone : (a : Actor) → gone a p ≡ gone a q
  pub r_done : (a : Actor) → done a p ≡ done a q
  pub r_flushed : (v : ℕ) → flushed v p ≡ flushed v q
  pub r_pending : (v : ℕ) → pending v p ≡ pending v q
  pub r_inside : (v : ℕ) → inside v p ≡ inside v q
  pub r_leaves : leaves p ≡ leaves q
  pub r_fills : (v : ℕ) → fills v p ≡ fills v q
  pub r_count : count p ≡ count q
  pub r_hull : hull p ≡ hull q
  pub r_ended : (i : ℕ) → ended i p ≡ ended i q
  pub r_user : (page word : ℕ) → user_word page word p ≡ user_word page word q
  pub r_folio : (serial word : ℕ) → folio_word serial word p ≡ folio_word serial word q

pub alike_sym : (p q : List Entry) → Alike p q → Alike q p
alike_sym p q x =
    record {
      r_length = sym x.r_length;
      r_states = sym x.r_states;
      r_fault = λ v. sym (x.r_fault v);
      r_call = λ v. sym (x.r_call v);
      r_bracket = λ v. sym (x.r_bracket v);
      r_gone = λ v. sym (x.r_gone v);
      r_done = λ v. sym (x.r_done v);
      r_flushed = λ v. sym (x.r_flushed v);
      r_pending = λ v. sym (x.r_pending v);
      r_inside = λ v. sym (x.r_inside v);
      r_leaves = sym x.r_leaves;
      r_fills = λ v. sym (x.r_fills v);
      r_count = sym x.r_count;
      r_hull = sym x.r_hull;
      r_ended = λ v. sym (x.r_ended v);
      r_user = λ g w. sym (x.r_user g w);
      r_folio = λ s w. sym (x.r_folio s w);
    }

-- steps
adds_alike : (w : What) (a : Actor) (p q : List Entry) → Alike p q → adds w a p (states p) ≡ adds (roomless w) a q (states q)
adds_alike (Get b n) (Vcpu v) p q x = ap (λ (z : Fault). get_adds b n z (states p)) (x.r_fault v) ∙ ap (λ (s : States). get_adds b n (fault v q) s) x.r_states
adds_alike (Page i fo n) (Caller c) p q x = ap (λ (z : Option Call). page_adds i fo n z (states p)) (x.r_call c) ∙ ap (λ (s : States). page_adds i fo n (call c q) s) x.r_states
adds_alike (Get b n) (Caller c) p q x = refl
adds_alike (Page i fo n) (Vcpu v) p q x = refl
adds_alike (Begin spans) a p q x = refl
adds_alike _ a p q x = refl

abbrev now_of : States → Flat
now_of s = s.now

flat_alike : (w : What) (a : Actor) (p q : List Entry) → Alike p q → flat_step w a p (states p) ≡ flat_step (roomless w) a q (states q)
flat_alike (Get b n) a p q x = ap (λ (d : Option Addition). add d (states p).now) (adds_alike (Get b n) a p q x) ∙ ap (λ (s : States). add (adds (Get b n) a q (states q)) s.now) x.r_states
flat_alike (Page i fo n) a p q x = ap (λ (d : Option Addition). add d (states p).now) (adds_alike (Page i fo n) a p q x) ∙ ap (λ (s : States). add (adds (Page i fo n) a q (states q)) s.now) x.r_states
flat_alike (Begin spans) a p q x = ap now_of x.r_states
flat_alike w a p q x = ap (λ (s : States). flat_step w a q s) x.r_states

abbrev the_states : Flat → ℕ → States → States
the_states f n s = record { now = f; before = λ i. cond (leb i n) (s.before i) f }

states_by : (f g : Flat) (m n : ℕ) (s r : States) → f ≡ g → m ≡ n → s ≡ r → the_states f m s ≡ the_states g n r
states_by f g m n s r a b c = ap (λ (x : Flat). the_states x m s) a ∙ (ap (λ (x : ℕ). the_states g x s) b ∙ ap (λ (x : States). the_states g n x) c)

leaf_alike : (level : Level) (page : ℕ) (a : Actor) (ms : List Mapping) (p q : List Entry) → Alike p q → leaves_step (Install page level) a p ms ≡ leaves_step (Install page level) a q ms
leaf_alike level page (Vcpu v) ms p q x =
    ap (λ (n : ℕ). leaf_by n page level (flat p) (fault v p) ++ off_extent (covered level page) ms) x.r_length ∙ (ap (λ (s : States). leaf_by (length q) page level s.now (fault v p) ++ off_extent (covered level page) ms) x.r_states ∙ ap (λ (z : Fault). leaf_by (length q) page level (flat q) z ++ off_extent (covered level page) ms) (x.r_fault v))
leaf_alike level page (Caller c) ms p q x = refl

leaves_alike : (w : What) (a : Actor) (ms : List Mapping) (p q : List Entry) → Alike p q → leaves_step w a p ms ≡ leaves_step (roomless w) a q ms
leaves_alike (Install page level) a ms p q x = leaf_alike level page a ms p q x
leaves_alike (Begin spans) a ms p q x = refl
leaves_alike _ a ms p q x = refl

fills_alike : (v : ℕ) (w : What) (a : Actor) (ms : List Mapping) (p q : List Entry) → Alike p q → fills_step v w a p ms ≡ fills_step v (roomless w) a q ms
fills_alike v (Touch access b level value fill) a ms p q x =
    ap (λ (n : ℕ). fill_if (is_vcpu v a && eqb fill n) n access level (flat p) ms) x.r_length ∙ ap (λ (s : States). fill_if (is_vcpu v a && eqb fill (length q)) (length q) access level s.now ms) x.r_states
fills_alike v (Begin spans) a ms p q x = refl
fills_alike v _ a ms p q x = refl

fault_w : (v : ℕ) (w : What) (a : Actor) (n : ℕ) (z : Fault) → fault_step v w a n z ≡ fault_step v (roomless w) a n z
fault_w v (Begin spans) a n z = refl
fault_w v _ a n z = refl

call_w : (v : ℕ) (w : What) (a : Actor) (n : ℕ) (z : Option Call) → call_step v w a n z ≡ call_step v (roomless w) a n z
call_w v (Begin spans) a n z = refl
call_w v _ a n z = refl

bracket_w : (v : ℕ) (w : What) (a : Actor) (n : ℕ) (z : Option Bracket) → bracket_step v w a n z ≡ bracket_step v (roomless w) a n z
bracket_w v (Begin spans) a n z = refl
bracket_w v _ a n z = refl

gone_w : (w : What) (t : Bool) → gone_step w t ≡ gone_step (roomless w) t
gone_w (Begin spans) t = refl
gone_w _ t = refl

ends_w : (w : What) (t : Bool) → ends_one w t ≡ ends_one (roomless w) t
ends_w (Begin spans) t = refl
ends_w _ t = refl

flushed_w : (v : ℕ) (w : What) (a : Actor) (n z : ℕ) → flushed_step v w a n z ≡ flushed_step v (roomless w) a n z
flushed_w v (Begin spans) a n z = refl
flushed_w v _ a n z = refl

pending_w : (v : ℕ) (w : What) (a : Actor) (z : Bool) → pending_step v w a z ≡ pending_step v (roomless w) a z
pending_w v (Begin spans) a z = refl
pending_w v _ a z = refl

inside_w : (v : ℕ) (w : What) (a : Actor) (z : Bool) → inside_step v w a z ≡ inside_step v (roomless w) a z
inside_w v (Begin spans) a z = refl
inside_w v _ a z = refl

count_w : (w : What) (z : ℕ) → count_step w z ≡ count_step (roomless w) z
count_w (Begin spans) z = refl
count_w _ z = refl

hull_w : (w : What) (n : ℕ) (z : Option Extent) → hull_step w n z ≡ hull_step (roomless w) n z
hull_w (Begin spans) n z = refl
hull_w _ n z = refl

ended_w : (i : ℕ) (w : What) (n : ℕ) (z : Bool) → ended_step i w n z ≡ ended_step i (roomless w) n z
ended_w i (Begin spans) n z = refl
ended_w i _ n z = refl

user_w : (page word : ℕ) (w : What) (z : ℕ) → user_step page word w z ≡ user_step page word (roomless w) z
user_w page word (Begin spans) z = refl
user_w page word _ z = refl

folio_w : (serial word : ℕ) (w : What) (z : ℕ) → folio_step serial word w z ≡ folio_step serial word (roomless w) z
folio_w serial word (Begin spans) z = refl
folio_w serial word _ z = refl

copied_alike : (k word : ℕ) (o : Option ℕ) (p q : List Entry) → Alike p q → copied k word o p ≡ copied k word o q
copied_alike k word None p q x = refl
copied_alike k word (Some u) p q x = x.r_user (u + k) word

first_alike : (serial word : ℕ) (d : Option Addition) (p q : List Entry) → Alike p q → first_word serial word d p ≡ first_word serial word d q
first_alike serial word None p q x = refl
first_alike serial word (Some d) p q x = copied_alike (serial - d.serial) word d.copy p q x

abbrev word_by : ℕ → ℕ → Option Addition → What → List Entry → ℕ → ℕ
word_by serial word d w p z = cond (is_new serial d) (first_word serial word d p) (folio_step serial word w z)

word_alike : (serial word : ℕ) (w : What) (a : Actor) (p q : List Entry) → Alike p q → word_by serial word (adds w a p (states p)) w p (folio_word serial word p) ≡ word_by serial word (adds (roomless w) a q (states q)) (roomless w) q (folio_word serial word q)
word_alike serial word w a p q x =
    ap (λ (d : Option Addition). word_by serial word d w p (folio_word serial word p)) (adds_alike w a p q x) ∙ go (adds (roomless w) a q (states q))
  where
    go : (d : Option Addition) → word_by serial word d w p (folio_word serial word p) ≡ word_by serial word d (roomless w) q (folio_word serial word q)
    go d = ap (λ (n : ℕ). cond (is_new serial d) n (folio_step serial word w (folio_word serial word p))) (first_alike serial word d p q x) ∙ ap (λ (n : ℕ). cond (is_new serial d) (first_word serial word d q) n) (ap (folio_step serial word w) (x.r_folio serial word) ∙ folio_w serial word w (folio_word serial word q))

pub alike_step : (t : ℕ) (a : Actor) (w : What) (p q : List Entry) → Alike p q → Alike (by t a w ∷ p) (by t a (roomless w) ∷ q)
alike_step t a w p q x =
    record {
      r_length = ap suc x.r_length;
      r_states = states_by (flat_step w a p (states p)) (flat_step (roomless w) a q (states q)) (length p) (length q) (states p) (states q) (flat_alike w a p q x) x.r_length x.r_states;
      r_fault = λ v. ap (λ (n : ℕ). fault_step v w a n (fault v p)) x.r_length ∙ (ap (λ (z : Fault). fault_step v w a (length q) z) (x.r_fault v) ∙ fault_w v w a (length q) (fault v q));
      r_call = λ v. ap (λ (n : ℕ). call_step v w a n (call v p)) x.r_length ∙ (ap (λ (z : Option Call). call_step v w a (length q) z) (x.r_call v) ∙ call_w v w a (length q) (call v q));
      r_bracket = λ v. ap (λ (n : ℕ). bracket_step v w a n (bracket v p)) x.r_length ∙ (ap (λ (z : Option Bracket). bracket_step v w a (length q) z) (x.r_bracket v) ∙ bracket_w v w a (length q) (bracket v q));
      r_gone = λ b. ap (λ (z : Bool). cond (gone_step w (same_actor b a)) true z) (x.r_gone b) ∙ ap (λ (z : Bool). cond z true (gone b q)) (gone_w w (same_actor b a));
      r_done = λ b. ap (λ (z : ℕ). cond (ends_one w (same_actor b a)) (suc z) z) (x.r_done b) ∙ ap (λ (z : Bool). cond z (suc (done b q)) (done b q)) (ends_w w (same_actor b a));
      r_flushed = λ v. ap (λ (n : ℕ). flushed_step v w a n (flushed v p)) x.r_length ∙ (ap (λ (z : ℕ). flushed_step v w a (length q) z) (x.r_flushed v) ∙ flushed_w v w a (length q) (flushed v q));
      r_pending = λ v. ap (λ (z : Bool). pending_step v w a z) (x.r_pending v) ∙ pending_w v w a (pending v q);
      r_inside = λ v. ap (λ (z : Bool). inside_step v w a z) (x.r_inside v) ∙ inside_w v w a (inside v q);
      r_leaves = ap (λ (ms : List Mapping). leaves_step w a p ms) x.r_leaves ∙ leaves_alike w a (leaves q) p q x;
      r_fills = λ v. ap (λ (ms : List Mapping). fills_step v w a p ms) (x.r_fills v) ∙ fills_alike v w a (fills v q) p q x;
      r_count = ap (λ (n : ℕ). count_step w n) x.r_count ∙ count_w w (count q);
      r_hull = ap (λ (n : ℕ). hull_step w n (hull p)) x.r_count ∙ (ap (λ (z : Option Extent). hull_step w (count q) z) x.r_hull ∙ hull_w w (count q) (hull q));
      r_ended = λ i. ap (λ (n : ℕ). ended_step i w n (ended i p)) x.r_length ∙ (ap (λ (z : Bool). ended_step i w (length q) z) (x.r_ended i) ∙ ended_w i w (length q) (ended i q));
      r_user = λ g k. ap (λ (z : ℕ). user_step g k w z) (x.r_user g k) ∙ user_w g k w (user_word g k q);
      r_folio = λ s k. word_alike s k w a p q x;
    }

pub alike : (past : List Entry) → Alike past (roomless_entries past)
alike [] =
    record {
      r_length = refl;
      r_states = refl;
      r_fault = λ v. refl;
      r_call = λ v. refl;
      r_bracket = λ v. refl;
      r_gone = λ v. refl;
      r_done = λ v. refl;
      r_flushed = λ v. refl;
      r_pending = λ v. refl;
      r_inside = λ v. refl;
      r_leaves = refl;
      r_fills = λ v. refl;
      r_count = refl;
      r_hull = refl;
      r_ended = λ v. refl;
      r_user = λ g w. refl;
      r_folio = λ s w. refl;
    }
alike (e ∷ past) = alike_step e.turn e.actor e.what past (roomless_entries past) (alike past)
