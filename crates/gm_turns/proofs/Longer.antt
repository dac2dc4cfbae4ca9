-- A history stays right where an actor that hasn't written `gone` has a command more.
use Rattle.std.proofs.Common.{◌≡◌, ℕ, List, [], ◌∷◌, ◌++◌, Bool, true, false, Option, Some, None, cond, eqb, set, slice_index_or, zero, suc, arith, sym, ◌∙◌, ap, subst, refl, inl, inr, ◌⊎◌}
use Rattle.std.proofs.lemmas.Bool.{both_ways}
use Rattle.std.proofs.lemmas.Bool.Decides.{nat_tests}
use Rattle.gm_base.specs.Scripts.{Orders, commands_of}
use Rattle.gm_base.specs.declared.script.Command.{Command}
use Rattle.gm_base.specs.declared.values.Actor.{Actor}
use Rattle.gm_base.specs.declared.values.Actor.TheVariants.{Vcpu, Caller}
use Rattle.gm_flat.specs.Histories.{done, gone, gone_step, same_actor}
use Rattle.gm_flat.specs.RightHistory.{Each, Right}
use Rattle.gm_flat.specs.RightOrder.{IsWaiting, RightOrder, StepIs, command_at, next_command}
use Rattle.gm_flat.specs.declared.entry.Entry.{Entry}
use Rattle.gm_flat.specs.declared.entry.What.{What}
use Rattle.gm_flat.specs.declared.entry.What.TheVariants.{Enter, Miss, Touch, Judge, Gone}
use Rattle.gm_turns.specs.Pushing.{list_with, with_command}

-- lists of which one has a command more

pub list_at : (lists : List (List Command)) (number other : ℕ) (list : List Command) → (slice_index_or (set lists number list) other [] ≡ slice_index_or lists other []) ⊎ ((number ≡ other) × (slice_index_or (set lists number list) other [] ≡ list))
list_at [] number other list = inl refl
list_at (x ∷ lists) zero zero list = inr (refl, refl)
list_at (x ∷ lists) zero (suc other) list = inl refl
list_at (x ∷ lists) (suc number) zero list = inl refl
list_at (x ∷ lists) (suc number) (suc other) list = elim (list_at lists number other list) [
  | inl e ↦ inl e
  | inr e ↦ inr (ap suc e.0, e.1)
]

-- the list of a number is as before, or the one that has the command more at its end
pub list_longer : (lists : List (List Command)) (number other : ℕ) (command : Command) → (slice_index_or (list_with number command lists) other [] ≡ slice_index_or lists other []) ⊎ ((number ≡ other) × (slice_index_or (list_with number command lists) other [] ≡ slice_index_or lists other [] ++ command ∷ []))
list_longer lists number other command = elim (list_at lists number other (slice_index_or lists number [] ++ command ∷ [])) [
  | inl e ↦ inl e
  | inr e ↦ inr (e.0, e.1 ∙ ap (λ (n : ℕ). slice_index_or lists n [] ++ command ∷ []) e.0)
]

-- so are the commands of an actor
pub commands_longer : (o : Orders) (a b : Actor) (command : Command) → (commands_of (with_command o a command) b ≡ commands_of o b) ⊎ ((a ≡ b) × (commands_of (with_command o a command) b ≡ commands_of o b ++ command ∷ []))
commands_longer o (Vcpu v) (Vcpu u) command = elim (list_longer o.vcpus v u command) [ inl e ↦ inl e | inr e ↦ inr (ap Vcpu e.0, e.1) ]
commands_longer o (Caller c) (Caller d) command = elim (list_longer o.callers c d command) [ inl e ↦ inl e | inr e ↦ inr (ap Caller e.0, e.1) ]
commands_longer o (Vcpu v) (Caller d) command = inl refl
commands_longer o (Caller c) (Vcpu u) command = inl refl

-- a command that stands in a list stands there with more behind it
kept_at : (xs ys : List Command) (n : ℕ) (x : Command) → command_at xs n ≡ Some x → command_at (xs ++ ys) n ≡ Some x
kept_at [] ys n x e = absurd (cc)
kept_at (y ∷ xs) ys zero x e = e
kept_at (y ∷ xs) ys (suc n) x e = kept_at xs ys n x e

pub next_kept : (o : Orders) (a b : Actor) (command x : Command) (past : List Entry) → next_command o b past ≡ Some x → next_command (with_command o a command) b past ≡ Some x
next_kept o a b command x past e = elim (commands_longer o a b command) [
  | inl same ↦ ap (λ (xs : List Command). command_at xs (done b past)) same ∙ e
  | inr more ↦ ap (λ (xs : List Command). command_at xs (done b past)) more.1 ∙ kept_at (commands_of o b) (command ∷ []) (done b past) x e
]

-- and what stands in the longer list stood there, or is the command
end_at : (xs : List Command) (command x : Command) (n : ℕ) → command_at (xs ++ command ∷ []) n ≡ Some x → (command_at xs n ≡ Some x) ⊎ (command ≡ x)
end_at [] command x zero e = inr (same command x e)
  where
    same : (p q : Command) → Some p ≡ Some q → p ≡ q
    same p q e = cc
end_at [] command x (suc n) e = inl e
end_at (y ∷ xs) command x zero e = inl e
end_at (y ∷ xs) command x (suc n) e = end_at xs command x n e

pub next_was : (o : Orders) (a b : Actor) (command x : Command) (past : List Entry) → next_command (with_command o a command) b past ≡ Some x → (next_command o b past ≡ Some x) ⊎ (command ≡ x)
next_was o a b command x past e = elim (commands_longer o a b command) [
  | inl same ↦ inl (sym (ap (λ (xs : List Command). command_at xs (done b past)) same) ∙ e)
  | inr more ↦ end_at (commands_of o b) command x (done b past) (sym (ap (λ (xs : List Command). command_at xs (done b past)) more.1) ∙ e)
]

waits_still : (x y : Option Command) → ((c : Command) → x ≡ Some c → y ≡ Some c) → IsWaiting x → IsWaiting y
waits_still None y h w = absurd w
waits_still (Some c) y h w = subst IsWaiting (sym (h c refl)) tt

-- an actor that wrote `gone` isn't the one that has the command more

own_actor : (a : Actor) → same_actor a a ≡ true
own_actor (Vcpu v) = self v
  where
    self : (n : ℕ) → eqb n n ≡ true
    self n = grind (arith, nat_tests)
own_actor (Caller c) = self c
  where
    self : (n : ℕ) → eqb n n ≡ true
    self n = grind (arith, nat_tests)

none_still : (o : Orders) (a b : Actor) (command : Command) (past : List Entry) → same_actor a b ≡ false → next_command o b past ≡ None → next_command (with_command o a command) b past ≡ None
none_still o a b command past another e = elim (commands_longer o a b command) [
  | inl same ↦ ap (λ (xs : List Command). command_at xs (done b past)) same ∙ e
  | inr more ↦ absurd (both_ways (same_actor a b) another (subst (λ (x : Actor). same_actor a x ≡ true) more.0 (own_actor a)))
]

-- each entry may come where it stands

step_still : (o : Orders) (a : Actor) (command : Command) (w : What) (b : Actor) (past : List Entry) → gone_step w (same_actor a b) ≡ false → StepIs o w b past → StepIs (with_command o a command) w b past
step_still o a command Enter (Vcpu v) past g s = record {
  outside = s.outside;
  no_fault = s.no_fault;
  flushed_before = s.flushed_before;
  waiting = waits_still (next_command o (Vcpu v) past) (next_command (with_command o a command) (Vcpu v) past) (λ x e. next_kept o a (Vcpu v) command x past e) s.waiting;
}
step_still o a command (Miss access) (Vcpu v) past g s = next_kept o a (Vcpu v) command _ past s
step_still o a command (Touch access backing level value fill) (Vcpu v) past g s = next_kept o a (Vcpu v) command _ past s
step_still o a command (Judge ioctl) (Caller c) past g s = record {
  command = next_kept o a (Caller c) command _ past s.command;
  none_in_progress = s.none_in_progress;
  locks_free = s.locks_free;
}
step_still o a command Gone b past g s = record { none_left = none_still o a b command past g s.none_left; once = s.once }
step_still o a command w b past g s = s

not_gone : (t x : Bool) → cond t true x ≡ false → (t ≡ false) × (x ≡ false)
not_gone true x e = absurd (cc)
not_gone false x e = (refl, e)

order_still : (o : Orders) (a : Actor) (command : Command) (past : List Entry) → gone a past ≡ false → Each (λ e p. RightOrder o e p) past → Each (λ e p. RightOrder (with_command o a command) e p) past
order_still o a command [] g r = tt
order_still o a command (e ∷ past) g r =
    let p = not_gone (gone_step e.what (same_actor a e.actor)) (gone a past) g in (
      record {
        actor_is = r.0.actor_is;
        together = r.0.together;
        whole_before = r.0.whole_before;
        step = step_still o a command e.what e.actor past p.0 r.0.step;
      },
      order_still o a command past p.1 r.1,
    )

pub right_longer : (o : Orders) (a : Actor) (command : Command) (past : List Entry) → gone a past ≡ false → Right o past → Right (with_command o a command) past
right_longer o a command past g r = record {
  touches = r.touches;
  looks = r.looks;
  installs = r.installs;
  levels = r.levels;
  lives = r.lives;
  at_rest = r.at_rest;
  calls = r.calls;
  order = order_still o a command past g r.order;
  whole = r.whole;
}
