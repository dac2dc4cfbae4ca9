-- One more command in one of the lists.
use Rattle.std.proofs.Common.{◌≡◌, ℕ, ◌+◌, ◌<◌, List, [], ◌∷◌, ◌++◌, zero, suc, length, set, get_or, slice_get, IfSome, refl, arith, replicate}
use Rattle.std.proofs.lemmas.Grind.{common_steps}
use Rattle.gm_base.specs.declared.script.Command.{Command}
use Rattle.gm_script.specs.Schedules.{command_count}
use Rattle.gm_script.specs.Grammar.{with_command}

pub each_pushed : (P : Command → Type 0) (xs : List Command) (x : Command) → ((k : ℕ) → IfSome (slice_get xs k) P) → P x → (k : ℕ) → IfSome (slice_get (xs ++ x ∷ []) k) P
each_pushed P [] x h p zero = p
each_pushed P [] x h p (suc k) = tt
each_pushed P (y ∷ xs) x h p zero = h zero
each_pushed P (y ∷ xs) x h p (suc k) = each_pushed P xs x (λ j. h (suc j)) p k

pub each_put : (P : Command → Type 0) (lists : List (List Command)) (n : ℕ) (xs : List Command) → ((c k : ℕ) → IfSome (slice_get (get_or lists c []) k) P) → ((k : ℕ) → IfSome (slice_get xs k) P) → (c k : ℕ) → IfSome (slice_get (get_or (set lists n xs) c []) k) P
each_put P [] n xs h q c k = h c k
each_put P (ys ∷ lists) zero xs h q zero k = q k
each_put P (ys ∷ lists) zero xs h q (suc c) k = h (suc c) k
each_put P (ys ∷ lists) (suc n) xs h q zero k = h zero k
each_put P (ys ∷ lists) (suc n) xs h q (suc c) k = each_put P lists n xs (λ d j. h (suc d) j) q c k

-- there is one command more

length_put : (xs : List Command) (x : Command) → length (xs ++ x ∷ []) ≡ length xs + 1
length_put xs x = grind (arith, common_steps)

pub count_put : (lists : List (List Command)) (n : ℕ) (x : Command) → n < length lists → command_count (with_command lists n x) ≡ command_count lists + 1
count_put [] n x h = absurd (omega arith)
count_put (ys ∷ lists) zero x h = omega (arith, length_put ys x)
count_put (ys ∷ lists) (suc n) x h = omega (arith, count_put lists n x (omega arith))

-- lists without a command

pub no_list : (n c : ℕ) → get_or (replicate {A = List Command} n []) c [] ≡ []
no_list zero c = refl
no_list (suc n) zero = refl
no_list (suc n) (suc c) = no_list n c

pub no_command : (n : ℕ) → command_count (replicate {A = List Command} n []) ≡ 0
no_command zero = refl
no_command (suc n) = omega (arith, no_command n)
