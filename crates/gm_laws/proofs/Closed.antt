-- What holds of fills and flushes since brackets that have ended.
use Rattle.std.proofs.Common.{◌&&◌, ◌<◌, Bool, List, None, Option, Some, [], arith, cond, eqb, false, inl, inr, length, refl, subst, suc, sym, true, ℕ, ◌∙◌, ◌∷◌, ◌≡◌, ◌≤◌, ◌⊎◌}
use Rattle.std.proofs.lemmas.Bool.{both_ways}
use Rattle.std.proofs.lemmas.Bool.Decides.{nat_tests}
use Rattle.gm_base.specs.Aim.{Aim}
use Rattle.gm_base.specs.Scripts.{Orders}
use Rattle.gm_base.specs.declared.values.Actor.{Actor}
use Rattle.gm_base.specs.declared.values.Actor.TheVariants.{Caller, Vcpu}
use Rattle.gm_base.specs.declared.values.Level.{Level}
use Rattle.gm_flat.specs.FlatState.{Flat}
use Rattle.gm_flat.specs.Histories.{Bracket, bracket}
use Rattle.gm_flat.specs.Mappings.{Mapping, any_holds, covers, fill_if, fills, flushed, inside, pending}
use Rattle.gm_flat.specs.Replay.{flat}
use Rattle.gm_flat.specs.declared.entry.Entry.{Entry}
use Rattle.gm_flat.specs.declared.entry.What.{What}
use Rattle.gm_flat.specs.declared.entry.What.TheVariants.{Begin, End, Enter, Flush, Gone, Miss, Touch}
use Rattle.gm_laws.proofs.Good.{Good}
use Rattle.gm_laws.proofs.KeepVcpu.{Mem-fill}
use Rattle.gm_laws.proofs.Kit.{Mem, by}
use Rattle.gm_laws.proofs.Touches.{good}
use Rattle.gm_laws.specs.Invariant.{AmongClosed, Closed, closed, closed_by}
use Rattle.gm_laws.specs.May.{May}
use Rattle.gm_laws.specs.Ruled.{Follows}

-- of one ended bracket
pub record Since (x : Closed) (past : List Entry) : Type 0 where
  pub ended_lt : x.ended < length past
  pub begun_lt : x.begun < length past
  pub asked : (v : ℕ) → (x.begun < flushed v past) ⊎ (pending v past ≡ true)
  pub fresh : (v h : ℕ) (m : Mapping) → Mem m (fills v past) → covers m h ≡ true → any_holds x.spans h ≡ true → (m.made < x.begun) ⊎ (x.ended < m.made)
  pub is_flushed : (v : ℕ) → x.acked ≡ true → inside v past ≡ true → x.begun < flushed v past

abbrev pub AllSince : List Entry → Type 0
AllSince past = (x : Closed) → AmongClosed x (closed past) → Since x past

less_more : (a b : ℕ) → a < b → a < suc b
less_more a b h = omega arith

-- a bracket that ends
ended_now : (n : ℕ) (t d : ℕ) (past : List Entry) (b : Bracket) → Good n past → bracket d past ≡ Some b → Since (record { begun = b.begun; ended = length past; spans = b.spans; acked = b.acked }) (by t (Caller d) End ∷ past)
ended_now n t d past b g e = record {
  ended_lt = own (length past);
  begun_lt = less_more b.begun (length past) (g.from_lt d b e).1;
  asked = λ v. g.asked d v b e;
  fresh = λ v h m i c k. inl (g.old_fill d v h b m e i c k);
  is_flushed = λ v k i. g.is_flushed d v b e k i;
}
  where
    own : (n : ℕ) → n < suc n
    own n = omega arith

-- one that has ended, after one more entry
flush_more : (t : Bool) (x n f : ℕ) → x < n → x < f → x < cond t (suc n) f
flush_more t x n f h k = grind arith

flush_asked : (t pend : Bool) (x n f : ℕ) → x < n → (x < f) ⊎ (pend ≡ true) → (x < cond t (suc n) f) ⊎ (cond t false pend ≡ true)
flush_asked t pend x n f h k = grind arith

Mem-flushed : (t : Bool) (f : Mapping) (fs : List Mapping) → Mem f (cond t [] fs) → Mem f fs
Mem-flushed true f fs m = absurd m
Mem-flushed false f fs m = m

enter_since : (u v x fl : ℕ) (ins : Bool) (pend : ℕ → Bool) → pend u ≡ false → (x < fl) ⊎ (pend v ≡ true) → (ins ≡ true → x < fl) → cond (eqb u v) true ins ≡ true → x < fl
enter_since u v x fl ins pend h k f e = grind (arith, nat_tests)

out_since : (t ins : Bool) → cond t false ins ≡ true → ins ≡ true
out_since t ins e = grind arith

since_keep : (o : Orders) (t : ℕ) (w : What) (a : Actor) (past : List Entry) (x : Closed) → May o w a past → Since x past → Since x (by t a w ∷ past)
since_keep o t Flush (Vcpu u) past x m s = record {
  ended_lt = less_more x.ended (length past) s.ended_lt;
  begun_lt = less_more x.begun (length past) s.begun_lt;
  asked = λ v. flush_asked (eqb u v) (pending v past) x.begun (length past) (flushed v past) s.begun_lt (s.asked v);
  fresh = λ v h f i c k. s.fresh v h f (Mem-flushed (eqb u v) f (fills v past) i) c k;
  is_flushed = λ v k i. flush_more (eqb u v) x.begun (length past) (flushed v past) s.begun_lt (s.is_flushed v k i);
}
since_keep o t Enter (Vcpu u) past x m s = record {
  ended_lt = less_more x.ended (length past) s.ended_lt;
  begun_lt = less_more x.begun (length past) s.begun_lt;
  asked = s.asked;
  fresh = s.fresh;
  is_flushed = λ v k i. enter_since u v x.begun (flushed v past) (inside v past) (λ q. pending q past) m.flushed_before (s.asked v) (s.is_flushed v k) i;
}
since_keep o t (Miss access) (Vcpu u) past x m s = record {
  ended_lt = less_more x.ended (length past) s.ended_lt;
  begun_lt = less_more x.begun (length past) s.begun_lt;
  asked = s.asked;
  fresh = s.fresh;
  is_flushed = λ v k i. s.is_flushed v k (out_since (eqb u v) (inside v past) i);
}
since_keep o t Gone (Vcpu u) past x m s = record {
  ended_lt = less_more x.ended (length past) s.ended_lt;
  begun_lt = less_more x.begun (length past) s.begun_lt;
  asked = s.asked;
  fresh = s.fresh;
  is_flushed = λ v k i. s.is_flushed v k (out_since (eqb u v) (inside v past) i);
}
since_keep o t (Touch a b level value fill) (Vcpu u) past x m s = record {
  ended_lt = less_more x.ended (length past) s.ended_lt;
  begun_lt = less_more x.begun (length past) s.begun_lt;
  asked = s.asked;
  fresh = λ v h f i c k. elim (Mem-fill f (eqb u v && eqb fill (length past)) (length past) a level (flat past) (fills v past) i) [
    | inl old ↦ s.fresh v h f old c k
    | inr new ↦ inr (subst (λ (z : Mapping). x.ended < z.made) (sym new.1) s.ended_lt)
  ];
  is_flushed = s.is_flushed;
}
since_keep o t (Begin spans) (Caller d) past x m s = record {
  ended_lt = less_more x.ended (length past) s.ended_lt;
  begun_lt = less_more x.begun (length past) s.begun_lt;
  asked = λ v. inr refl;
  fresh = s.fresh;
  is_flushed = s.is_flushed;
}
since_keep o t Flush (Caller d) past x m s = absurd m
since_keep o t Enter (Caller d) past x m s = absurd m
since_keep o t (Miss access) (Caller d) past x m s = absurd m
since_keep o t (Touch a b level value fill) (Caller d) past x m s = absurd m
since_keep o t (Begin spans) (Vcpu u) past x m s = absurd m
since_keep o t w a past x m s = record {
  ended_lt = less_more x.ended (length past) s.ended_lt;
  begun_lt = less_more x.begun (length past) s.begun_lt;
  asked = s.asked;
  fresh = s.fresh;
  is_flushed = s.is_flushed;
}

end_closed : (o : Orders) (t d : ℕ) (past : List Entry) (b : Option Bracket) (x : Closed) → bracket d past ≡ b → Good o.setup.callers past → May o End (Caller d) past → AllSince past → AmongClosed x (closed_by (length past) b (closed past)) → Since x (by t (Caller d) End ∷ past)
end_closed o t d past None x e g m s i = since_keep o t End (Caller d) past x m (s x i)
end_closed o t d past (Some b) x e g m s i = elim i [
  | inl y ↦ subst (λ (z : Closed). Since z (by t (Caller d) End ∷ past)) (sym y) (ended_now o.setup.callers t d past b g e)
  | inr y ↦ since_keep o t End (Caller d) past x m (s x y)
]

closed_keep : (o : Orders) (t : ℕ) (w : What) (a : Actor) (past : List Entry) → Good o.setup.callers past → May o w a past → AllSince past → AllSince (by t a w ∷ past)
closed_keep o t End (Caller d) past g m s = λ x i. end_closed o t d past (bracket d past) x refl g m s i
closed_keep o t End (Vcpu u) past g m s = absurd m
closed_keep o t w a past g m s = λ x i. since_keep o t w a past x m (s x i)

pub all_since : (o : Orders) (past : List Entry) → Follows o past → AllSince past
all_since o [] r = λ x i. absurd i
all_since o (e ∷ past) r = closed_keep o e.turn e.what e.actor past (good o past r.1) r.0.may (all_since o past r.1)
