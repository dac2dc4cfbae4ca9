-- A folio's word is the last value written by a touch, else the word that the folio was added with.
use Rattle.std.proofs.Common.{◌&&◌, ◌+◌, ◌<◌, Bool, List, None, Option, Some, [], ap, arith, cond, eqb, eqb-true, false, leb, leb-true, length, ltb, refl, subst, suc, sym, true, zero, ℕ, ◌∙◌, ◌∷◌, ◌≡◌, ◌≤◌}
use Rattle.std.proofs.lemmas.Bool.{and_parts, both_ways}
use Rattle.std.proofs.lemmas.Bool.Decides.{nat_tests}
use Rattle.gm_base.specs.Aim.{Aim}
use Rattle.gm_base.specs.Scripts.{Orders}
use Rattle.gm_base.specs.declared.values.Actor.{Actor}
use Rattle.gm_base.specs.declared.values.Actor.TheVariants.{Caller, Vcpu}
use Rattle.gm_base.specs.declared.values.Folio.{Folio}
use Rattle.gm_base.specs.declared.values.Op.{Op}
use Rattle.gm_base.specs.declared.values.Op.TheVariants.{Read, Write}
use Rattle.gm_base.specs.declared.values.Setup.{Setup}
use Rattle.gm_flat.specs.Calls.{Bracketed, Paged, Plan, Reads, Refused, Same, Short}
use Rattle.gm_flat.specs.Effects.{Addition, add, apply, are_added, free_each, free_one, free_run, with_folios}
use Rattle.gm_flat.specs.FlatState.{Flat, FolioState, added, is_live}
use Rattle.gm_flat.specs.Histories.{Call, Fault, Faulting, NoFault, call, fault}
use Rattle.gm_flat.specs.Replay.{adds, flat, get_adds, index_in, looked_slot, page_adds, states}
use Rattle.gm_flat.specs.RightCalls.{IsPage, RightPage}
use Rattle.gm_flat.specs.RightHistory.{Each}
use Rattle.gm_flat.specs.RightLives.{GetAdds, IsLive, LivesOf, PageAdds, RightGetAdds, RightPageAdds, plan_of}
use Rattle.gm_flat.specs.RightOrder.{IsLooked}
use Rattle.gm_flat.specs.Words.{first_word, folio_step, folio_word, hits_folio, is_new, written}
use Rattle.gm_flat.specs.RightTouch.{IsValue}
use Rattle.gm_flat.specs.declared.effect.Backing.{Backing}
use Rattle.gm_flat.specs.declared.effect.Backing.TheVariants.{Folio as InFolio, User}
use Rattle.gm_flat.specs.declared.effect.Effect.{Effect}
use Rattle.gm_flat.specs.declared.entry.Entry.{Entry}
use Rattle.gm_flat.specs.declared.entry.What.{What}
use Rattle.gm_flat.specs.declared.entry.What.TheVariants.{Change, Free, Get, Page, Touch}
use Rattle.gm_laws.proofs.Adds.{none_fresh}
use Rattle.gm_laws.proofs.Fates.{lives_of}
use Rattle.gm_laws.proofs.Folios.{effect_keeps, lives}
use Rattle.gm_laws.proofs.Good.{Good}
use Rattle.gm_laws.proofs.Kit.{by}
use Rattle.gm_laws.proofs.Lives.{live_left, live_with}
use Rattle.gm_laws.proofs.RuledIsRight.{each}
use Rattle.gm_laws.proofs.Touches.{good, touched}
use Rattle.gm_laws.specs.Contents.{ReadsTheLast, added_word, last_step, last_write, or_else, write_if}
use Rattle.gm_laws.specs.May.{May}
use Rattle.gm_laws.specs.Ruled.{Follows}
use Rattle.gm_laws.specs.TouchesNow.{TouchesNow}

-- serials count the folios
abbrev pub IsCounted : Flat → Type 0
IsCounted f = (s : ℕ) → is_live s f.folios ≡ true → s < added f

length_with : (n s r : ℕ) (xs : List FolioState) → length (with_folios n s r xs) ≡ n + length xs
length_with zero s r xs = omega arith
length_with (suc k) s r xs = let e : length (with_folios k s r xs) ≡ k + length xs = length_with k s r xs in omega arith

length_free_one : (j : ℕ) (xs : List FolioState) → length (free_one j xs) ≡ length xs
length_free_one j [] = refl
length_free_one j (x ∷ xs) = go (eqb x.folio.serial j) (length_free_one j xs)
  where
    go : (t : Bool) → length (free_one j xs) ≡ length xs → length (cond t (record x { live = false } ∷ xs) (x ∷ free_one j xs)) ≡ suc (length xs)
    go true e = refl
    go false e = ap (λ (n : ℕ). suc n) e

length_free_each : (n j : ℕ) (xs : List FolioState) → length (free_each n j xs) ≡ length xs
length_free_each zero j xs = refl
length_free_each (suc k) j xs = length_free_one (j + k) (free_each k j xs) ∙ length_free_each k j xs

length_free : (n j : ℕ) (xs : List FolioState) → length (free_run n j xs) ≡ length xs
length_free n j xs = go (are_added n j xs)
  where
    go : (t : Bool) → length (cond t (free_each n j xs) xs) ≡ length xs
    go true = length_free_each n j xs
    go false = refl

-- what is added has the next serials
abbrev pub AddsNext : Option Addition → Flat → Type 0
AddsNext None f = Unit {0}
AddsNext (Some d) f = d.serial ≡ added f

get_next_by : (frames : ℕ) (I : Option ℕ) (d : Option Addition) (f : Flat) → GetAdds frames I d f → AddsNext d f
get_next_by frames (Some i) (Some d) f x = x.0
get_next_by frames (Some i) None f x = tt
get_next_by frames None d f x = absurd x

none_next : (d : Option Addition) (f : Flat) → d ≡ None → AddsNext d f
none_next d f e = subst (λ (x : Option Addition). AddsNext x f) (sym e) tt

get_next : (b : Backing) (fresh frames : ℕ) (x : Fault) (past : List Entry) → IsLooked x → RightGetAdds frames fresh x (get_adds b fresh x (states past)) past → AddsNext (get_adds b fresh x (states past)) (flat past)
get_next b zero frames (Faulting a m (Some s) (Some l) None) past i h = none_next (get_adds b zero (Faulting a m (Some s) (Some l) None) (states past)) (flat past) (none_fresh b l.file (index_in a.page (looked_slot l past)) (flat past).files)
get_next b (suc k) frames (Faulting a m (Some s) (Some l) None) past i h = get_next_by frames (index_in a.page (looked_slot l past)) (get_adds b (suc k) (Faulting a m (Some s) (Some l) None) (states past)) (flat past) (h (omega arith))
get_next b fresh frames (Faulting a m (Some s) (Some l) (Some q)) past i h = absurd i
get_next b fresh frames (Faulting a m (Some s) None q) past i h = absurd i
get_next b fresh frames (Faulting a m None l q) past i h = absurd i
get_next b fresh frames NoFault past i h = absurd i

page_next_by : (frames i : ℕ) (x : Call) (plan : Plan) (a : Option Addition) (f : Flat) → IsPage i x plan f → PageAdds frames plan a f → AddsNext a f
page_next_by frames i x (Paged p) (Some d) f page h = h.1
page_next_by frames i x (Paged p) None f page h = tt
page_next_by frames i x (Refused r) a f page h = absurd page
page_next_by frames i x (Same r) a f page h = absurd page
page_next_by frames i x (Reads p w) a f page h = absurd page
page_next_by frames i x (Short r w) a f page h = absurd page
page_next_by frames i x (Bracketed r w) a f page h = absurd page

page_next : (s : Setup) (i : ℕ) (fo : Folio) (n : ℕ) (o : Option Call) (past : List Entry) → RightPage s i o past → RightPageAdds s o (page_adds i fo n o (states past)) past → AddsNext (page_adds i fo n o (states past)) (flat past)
page_next s i fo n None past page h = absurd page
page_next s i fo n (Some x) past page h = page_next_by s.frames i x (plan_of s x past) (page_adds i fo n (Some x) (states past)) (flat past) page h

pub adds_next : (o : Orders) (w : What) (a : Actor) (past : List Entry) → May o w a past → AddsNext (adds w a past (states past)) (flat past)
adds_next o (Get b n) (Vcpu u) past m = get_next b n o.setup.frames (fault u past) past m.0 m.2
adds_next o (Get b n) (Caller c) past m = tt
adds_next o (Page i fo n) (Caller c) past m = page_next o.setup i fo n (call c past) past m.1 m.2
adds_next o (Page i fo n) (Vcpu u) past m = tt
adds_next o w a past m = tt

run_below : (d n m s : ℕ) → d ≡ m → (leb d s && ltb s (d + n)) ≡ true → s < n + m
run_below d n m s e h = grind (arith, nat_tests)

more_below : (x n m k : ℕ) → x < m → k ≡ n + m → x < k
more_below x n m k h e = omega arith

run_counted : (d : Addition) (s : ℕ) (f : Flat) → d.serial ≡ added f → IsCounted f → (t : Bool) → (leb d.serial s && ltb s (d.serial + d.pages)) ≡ t → cond t true (is_live s f.folios) ≡ true → s < length (with_folios d.pages d.serial d.frame f.folios)
run_counted d s f e c true q h = rw (length_with d.pages d.serial d.frame f.folios) (run_below d.serial d.pages (length f.folios) s e q)
run_counted d s f e c false q h = more_below s d.pages (length f.folios) (length (with_folios d.pages d.serial d.frame f.folios)) (c s h) (length_with d.pages d.serial d.frame f.folios)

add_counted : (o : Option Addition) (f : Flat) → AddsNext o f → IsCounted f → IsCounted (add o f)
add_counted None f e c = c
add_counted (Some d) f e c = λ s h. run_counted d s f e c (leb d.serial s && ltb s (d.serial + d.pages)) refl (sym (live_with d.pages d.serial d.frame s f.folios) ∙ h)

add_grows : (o : Option Addition) (f : Flat) → added f ≤ added (add o f)
add_grows None f = omega arith
add_grows (Some d) f = let e : length (with_folios d.pages d.serial d.frame f.folios) ≡ d.pages + length f.folios = length_with d.pages d.serial d.frame f.folios in omega arith

same_added : (e : Effect) (f : Flat) → added (apply e f) ≡ added f
same_added e f = ap length (effect_keeps e f).0

counted_keep : (o : Orders) (t : ℕ) (w : What) (a : Actor) (past : List Entry) → IsCounted (flat past) → May o w a past → IsCounted (flat (by t a w ∷ past))
counted_keep o t (Get b n) a past c m = add_counted (adds (Get b n) a past (states past)) (flat past) (adds_next o (Get b n) a past m) c
counted_keep o t (Page i fo n) a past c m = add_counted (adds (Page i fo n) a past (states past)) (flat past) (adds_next o (Page i fo n) a past m) c
counted_keep o t (Change e) a past c m = λ s h. subst (λ (n : ℕ). s < n) (sym (same_added e (flat past))) (c s (sym (ap (is_live s) (effect_keeps e (flat past)).0) ∙ h))
counted_keep o t (Free fo n) a past c m = λ s h. subst (λ (k : ℕ). s < k) (sym (length_free n fo.serial (flat past).folios)) (c s (live_left n fo.serial s (flat past).folios h))
counted_keep o t w a past c m = c

pub counted : (o : Orders) (past : List Entry) → Follows o past → IsCounted (flat past)
counted o [] r = λ s h. absurd (both_ways false refl h)
counted o (e ∷ past) r = counted_keep o e.turn e.what e.actor past (counted o past r.1) r.0.may

added_grows : (t : ℕ) (w : What) (a : Actor) (past : List Entry) → added (flat past) ≤ added (flat (by t a w ∷ past))
added_grows t (Get b n) a past = add_grows (adds (Get b n) a past (states past)) (flat past)
added_grows t (Page i fo n) a past = add_grows (adds (Page i fo n) a past (states past)) (flat past)
added_grows t (Change e) a past = let x : added (apply e (flat past)) ≡ added (flat past) = same_added e (flat past) in omega arith
added_grows t (Free fo n) a past = let x : length (free_run n fo.serial (flat past).folios) ≡ length (flat past).folios = length_free n fo.serial (flat past).folios in omega arith
added_grows t w a past = omega arith

-- nothing was written to a folio that is still to be added
miss_write : (t : Bool) (op : Op) (o : Option ℕ) → (t ≡ true → ⊥) → write_if t op o ≡ o
miss_write true op o n = absurd (n refl)
miss_write false op o n = refl

hits_live : (b : Backing) (a : Aim) (s w : ℕ) (f : Flat) → IsLive b f → IsCounted f → added f ≤ s → hits_folio s w a b ≡ true → ⊥
hits_live (User u) a s w f l c le h = both_ways false refl h
hits_live (InFolio fo) a s w f l c le h = below_not s (added f) le (subst (λ (x : ℕ). x < added f) (eqb-true fo.serial s (and_parts (eqb fo.serial s) (eqb a.word w) h).0) (c fo.serial l))
  where
    below_not : (s n : ℕ) → n ≤ s → s < n → ⊥
    below_not s n p q = omega arith

unwritten_step : (s w : ℕ) (k : What) (a : Actor) (past : List Entry) (setup : Setup) → LivesOf setup k a past → IsCounted (flat past) → added (flat past) ≤ s → last_write s w past ≡ None → last_step s w k (last_write s w past) ≡ None
unwritten_step s w (Touch a b level value fill) x past setup l c le h = miss_write (hits_folio s w a b) a.op (last_write s w past) (λ hit. hits_live b a s w (flat past) l c le hit) ∙ h
unwritten_step s w k x past setup l c le h = h

pub unwritten : (o : Orders) (past : List Entry) (s w : ℕ) → Follows o past → added (flat past) ≤ s → last_write s w past ≡ None
unwritten o [] s w r le = refl
unwritten o (e ∷ past) s w r le =
    let grows : added (flat past) ≤ added (flat (e ∷ past)) = added_grows e.turn e.what e.actor past in
    let low : added (flat past) ≤ s = omega arith in
    unwritten_step s w e.what e.actor past o.setup (lives_of o e.what e.actor past (lives o past r.1) (good o past r.1) r.0.may) (counted o past r.1) low (unwritten o past s w r.1 low)

write_else : (t : Bool) (op : Op) (x y : ℕ) (o : Option ℕ) → x ≡ or_else o y → written t op x ≡ or_else (write_if t op o) y
write_else true (Write value) x y o e = refl
write_else true Read x y o e = e
write_else false op x y o e = e

step_else : (s w : ℕ) (k : What) (x y : ℕ) (o : Option ℕ) → x ≡ or_else o y → folio_step s w k x ≡ or_else (last_step s w k o) y
step_else s w (Touch a b level value fill) x y o e = write_else (hits_folio s w a b) a.op x y o e
step_else s w k x y o e = e

none_else : (o : Option ℕ) (y : ℕ) → o ≡ None → y ≡ or_else o y
none_else o y e = rw e refl

word_step : (t : Bool) (f x y : ℕ) (o : Option ℕ) → (t ≡ true → o ≡ None) → x ≡ or_else o y → cond t f x ≡ or_else o (cond t f y)
word_step true f x y o n e = none_else o f (n refl)
word_step false f x y o n e = e

new_after : (s : ℕ) (d : Option Addition) (f : Flat) → AddsNext d f → is_new s d ≡ true → added f ≤ s
new_after s None f e h = absurd (both_ways false refl h)
new_after s (Some d) f e h = subst (λ (n : ℕ). n ≤ s) e (leb-true d.serial s (and_parts (leb d.serial s) (ltb s (d.serial + d.pages)) h).0)

pub word_read : (o : Orders) (past : List Entry) (s w : ℕ) → Follows o past → folio_word s w past ≡ or_else (last_write s w past) (added_word s w past)
word_read o [] s w r = refl
word_read o (e ∷ past) s w r =
    word_step (is_new s (adds e.what e.actor past (states past))) (first_word s w (adds e.what e.actor past (states past)) past) (folio_step s w e.what (folio_word s w past)) (added_word s w past) (last_step s w e.what (last_write s w past))
    (λ new.
    let low : added (flat past) ≤ s = new_after s (adds e.what e.actor past (states past)) (flat past) (adds_next o e.what e.actor past r.0.may) new in
    unwritten_step s w e.what e.actor past o.setup (lives_of o e.what e.actor past (lives o past r.1) (good o past r.1) r.0.may) (counted o past r.1) low (unwritten o past s w r.1 low))
    (step_else s w e.what (folio_word s w past) (added_word s w past) (last_write s w past) (word_read o past s w r.1))

-- touches
touches_now : (o : Orders) (w : What) (a : Actor) (past : List Entry) → Good o.setup.callers past → May o w a past → TouchesNow w a past
touches_now o (Touch a b level value fill) (Vcpu u) past g m = let t = touched o u fill value a b level past g m in (t.now_named, t.change)
touches_now o (Touch a b level value fill) (Caller c) past g m = absurd m
touches_now o w a past g m = tt

pub each_now : (o : Orders) (past : List Entry) → Follows o past → Each (λ e p. TouchesNow e.what e.actor p) past
each_now o past r = each o (λ e p. TouchesNow e.what e.actor p) (λ e p x f. touches_now o e.what e.actor p (good o p f) x.may) past r

-- what a touch reads of a folio
read_value : (op : Op) (value word : ℕ) → IsValue op word value → op ≡ Read → value ≡ word
read_value Read value word v e = v
read_value (Write x) value word v e = absurd (clash e)
  where
    clash : Write x ≡ Read → ⊥
    clash e = cc

reads_last : (o : Orders) (w : What) (a : Actor) (past : List Entry) → Follows o past → May o w a past → ReadsTheLast w a past
reads_last o (Touch a (InFolio folio) level value fill) (Vcpu u) past r m = λ e. read_value a.op value (folio_word folio.serial a.word past) m.right_value e ∙ word_read o past folio.serial a.word r
reads_last o (Touch a (User page) level value fill) (Vcpu u) past r m = tt
reads_last o (Touch a b level value fill) (Caller c) past r m = absurd m
reads_last o w a past r m = tt

pub each_read : (o : Orders) (past : List Entry) → Follows o past → Each (λ e p. ReadsTheLast e.what e.actor p) past
each_read o past r = each o (λ e p. ReadsTheLast e.what e.actor p) (λ e p x f. reads_last o e.what e.actor p f x.may) past r
