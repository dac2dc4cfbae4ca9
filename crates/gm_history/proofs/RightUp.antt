-- The text of a right history without marks is brought up from version 1 to version 2.
use Rattle.std.proofs.Common.{◌≡◌, ℕ, ◌+◌, ◌<◌, ◌≤◌, List, [], ◌∷◌, ◌++◌, length, Option, None, Some, reverse, refl, sym, ◌∙◌, ap, subst, arith}
use Rattle.std.proofs.lemmas.List.{reverse-append, reverse-reverse}
use Rattle.gm_base.specs.Scripts.{Orders}
use Rattle.gm_base.specs.declared.values.Actor.{Actor}
use Rattle.gm_base.specs.declared.values.Actor.TheVariants.{Caller, Vcpu}
use Rattle.gm_base.specs.declared.values.Folio.{Folio}
use Rattle.gm_flat.specs.Effects.{Addition, U32_LIMIT, U64_LIMIT}
use Rattle.gm_flat.specs.FlatState.{Flat}
use Rattle.gm_flat.specs.Histories.{call, fault}
use Rattle.gm_flat.specs.Plain.{IsPlain, IsPlainWhat}
use Rattle.gm_flat.specs.Replay.{flat, get_adds, page_adds, states}
use Rattle.gm_flat.specs.RightHistory.{Each, Right}
use Rattle.gm_flat.specs.declared.effect.Backing.TheVariants.{Folio as InFolio, User}
use Rattle.gm_flat.specs.declared.effect.Effect.TheVariants.{Mark}
use Rattle.gm_flat.specs.declared.entry.Entry.{Entry}
use Rattle.gm_flat.specs.declared.entry.What.{What}
use Rattle.gm_flat.specs.declared.entry.What.TheVariants.{Change, Get, Page, Touch}
use Rattle.gm_laws.proofs.Frames.{CachedFrames, cached_frames, right_frames}
use Rattle.gm_laws.proofs.RightIsRuled.{ruled}
use Rattle.gm_laws.specs.May.{May}
use Rattle.gm_laws.specs.Ruled.{Follows}
use Rattle.gm_laws.specs.TouchFrames.{TouchFrames}
use Rattle.gm_text.specs.Text.{history_text}
use Rattle.gm_text.specs.TextOne.{history_text_one}
use Rattle.gm_text.proofs.RightIsPlain.{right_is_plain}
use Rattle.gm_history.specs.declared.given.Giving.{Giving}
use Rattle.gm_history.specs.declared.given.Giving.TheVariants.{Serials}
use Rattle.gm_history.specs.declared.given.Run.{Run}
use Rattle.gm_history.specs.Given.{run, giving_run, giving_got, giving_of, after_giving, given, given_after, HasLine, IsOld, AreOld, IsNoMark, AreUnmarked}
use Rattle.gm_history.specs.Ranges.{AreRanged, IsEntryRanged, IsFolioRanged, IsU64, IsWhatRanged, IsWithin}
use Rattle.gm_history.specs.TextForm.{Told, IsBroughtUp, last_turn}
use Rattle.gm_history.proofs.GivenFrames.{FramesGiven, GetGives, PageGives, frames_given, get_gives, page_gives, range_is, runs_of}

-- an entry of a right history

line_of : (g : Giving) (r : Run) → g ≡ Serials r → HasLine g
line_of g r e = subst HasLine (sym e) tt

get_line : (fo : Folio) (n : ℕ) (o : Option Addition) (f : Flat) → IsFolioRanged fo → GetGives fo n o f → HasLine (giving_got fo n)
get_line fo n (Some d) f r g = line_of (giving_got fo n) (run d.serial d.frame d.pages) g
get_line fo n None f r g =
    let serial : fo.serial + 1 ≤ U64_LIMIT = omega (arith, r.0) in
    let frame : fo.frame + 1 ≤ U32_LIMIT = omega (arith, r.1) in
    subst (λ (k : ℕ). HasLine (giving_got fo k)) (sym g.0) (line_of (giving_run (run fo.serial fo.frame 1)) (run fo.serial fo.frame 1) (range_is fo.serial 1 fo.frame serial frame))

page_line : (fo : Folio) (n : ℕ) (o : Option Addition) → PageGives fo n o → HasLine (giving_run (run fo.serial fo.frame n))
page_line fo n (Some d) g = line_of (giving_run (run fo.serial fo.frame n)) (run d.serial d.frame d.pages) g
page_line fo n None g = absurd g

what_old : (o : Orders) (w : What) (a : Actor) (past : List Entry) → CachedFrames (flat past) → FramesGiven past → May o w a past → TouchFrames w a past → IsWhatRanged w → IsNoMark w → IsOld (runs_of past) w
what_old o (Touch access (InFolio fo) level value fill) a past h g m t r u = g fo.serial fo.frame t
what_old o (Touch access (User page) level value fill) a past h g m t r u = tt
what_old o (Get (InFolio fo) n) (Vcpu v) past h g m t r u = get_line fo n (get_adds (InFolio fo) n (fault v past) (states past)) (flat past) r.0 (get_gives fo n o.setup.frames (fault v past) past h m.0 m.1 m.2)
what_old o (Get (InFolio fo) n) (Caller c) past h g m t r u = absurd m
what_old o (Get (User page) n) a past h g m t r u = tt
what_old o (Page i fo n) (Caller c) past h g m t r u = page_line fo n (page_adds i fo n (call c past) (states past)) (page_gives o.setup i fo n (call c past) past m.2)
what_old o (Page i fo n) (Vcpu v) past h g m t r u = absurd m
what_old o (Change (Mark slot)) a past h g m t r u = absurd u
what_old o w a past h g m t r u = tt

-- lists of entries, one more at their end

old_push : (runs : List Run) (es : List Entry) (e : Entry) → AreOld runs es → IsOld (given_after runs es) e.what → AreOld runs (es ++ e ∷ [])
old_push runs [] e a i = (i, tt)
old_push runs (f ∷ es) e a i = (a.0, old_push (after_giving (giving_of f.what) runs) es e a.1 i)

ranged_parts : (es : List Entry) (e : Entry) → AreRanged (es ++ e ∷ []) → AreRanged es × IsEntryRanged e
ranged_parts [] e r = (tt, r.0)
ranged_parts (f ∷ es) e r = let p = ranged_parts es e r.1 in ((r.0, p.0), p.1)

unmarked_parts : (es : List Entry) (e : Entry) → AreUnmarked (es ++ e ∷ []) → AreUnmarked es × IsNoMark e.what
unmarked_parts [] e r = (tt, r.0)
unmarked_parts (f ∷ es) e r = let p = unmarked_parts es e r.1 in ((r.0, p.0), p.1)

plain_push : (es : List Entry) (e : Entry) → IsPlain es → IsPlainWhat e.what → IsPlain (es ++ e ∷ [])
plain_push [] e p q = (q, tt)
plain_push (f ∷ es) e p q = (p.0, plain_push es e p.1 q)

plain_reverse : (past : List Entry) → IsPlain past → IsPlain (reverse past)
plain_reverse [] p = tt
plain_reverse (e ∷ past) p = subst IsPlain (sym (reverse-append (e ∷ []) past)) (plain_push (reverse past) e (plain_reverse past p.1) p.0)

-- all entries of a right history

all_old : (o : Orders) (past : List Entry) → Follows o past → Each (λ e p. TouchFrames e.what e.actor p) past → AreRanged (reverse past) → AreUnmarked (reverse past) → AreOld [] (reverse past)
all_old o [] f t r u = tt
all_old o (e ∷ past) f t r u =
    let end : reverse (e ∷ past) ≡ reverse past ++ e ∷ [] = reverse-append (e ∷ []) past in
    let p = ranged_parts (reverse past) e (subst AreRanged end r) in
    let q = unmarked_parts (reverse past) e (subst AreUnmarked end u) in
    subst (AreOld []) (sym end)
    (old_push [] (reverse past) e (all_old o past f.1 t.1 p.0 q.0) (what_old o e.what e.actor past (cached_frames o past f.1) (frames_given o past f.1) f.0.may t.0 p.1.2 q.1))

pub right_up : (o : Orders) (history : List Entry) (turns : ℕ) → Right o (reverse history) → AreUnmarked history → IsWithin o.setup → AreRanged history → IsU64 turns → IsU64 (length history) → last_turn history ≤ turns → IsBroughtUp (history_text_one o.setup history turns) (history_text o.setup history turns)
right_up o history turns right u s r t n l =
    let past : List Entry = reverse history in
    let back : reverse past ≡ history = reverse-reverse history in
    let old : AreOld [] (reverse past) = all_old o past (ruled o past right).follows (right_frames o past right) (subst AreRanged (sym back) r) (subst AreUnmarked (sym back) u) in
    let plain : IsPlain history = subst IsPlain back (plain_reverse past (right_is_plain o past right)) in
    let h : Told = record { setup = o.setup; entries = history; turns = turns } in
    record {
      history = h;
      tells = record { tellable = record { setup = s; plain = plain; ranged = r; turns = t; count = n; late = l }; said = subst (AreOld []) back old; text = refl };
      text_is = refl;
    }
