-- What a sink holds after bytes were put.
use Rattle.std.specs.Prelude.{◌≡◌, ◌<◌, ℕ, List, [], ◌++◌, length, take, None, Some, IfSome, MatchResult}
use Rattle.std.specs.declared.result.Result.{Result}
use Rattle.std.specs.declared.option.Option.{Option}

-- what is held grew by bs, where it is told afterwards: a sink that tells after a call told before it
abbrev pub Gains : Option (List ℕ) → Option (List ℕ) → List ℕ → Type 0
Gains (Some xs) (Some ys) bs = ys ≡ xs ++ bs
Gains None (Some ys) bs = ⊥
Gains (Some xs) None bs = Unit {0}
Gains None None bs = Unit {0}

-- the first n bytes at `Ok(n)`, and nothing at `Err`
abbrev pub PutGains : {E : Type 0} → Option (List ℕ) → Option (List ℕ) → Result ℕ E → List ℕ → Type 0
PutGains old new r bytes = MatchResult r (λ n. Gains old new (take n bytes)) (λ _. Gains old new [])

-- some front of the text, and never the whole where what is held is told: a failure leaves a rest that isn't empty
pub record GainsFront (old new : Option (List ℕ)) (text : List ℕ) : Type 0 where
  pub front : List ℕ
  pub rest : List ℕ
  pub split : text ≡ front ++ rest
  pub short : IfSome new (λ _. 0 < length rest)
  pub gains : Gains old new front

-- the whole text at `Ok`, and a front of it, never the whole, at `Err`
abbrev pub Wrote : {T E : Type 0} → Option (List ℕ) → Option (List ℕ) → List ℕ → Result T E → Type 0
Wrote old new text r = MatchResult r (λ _. Gains old new text) (λ _. GainsFront old new text)

-- what is held, followed by what waits to be put
abbrev pub total : Option (List ℕ) → List ℕ → Option (List ℕ)
total None waiting = None
total (Some bytes) waiting = Some (bytes ++ waiting)

-- it grew, or stayed as it was
pub record Grows (old new : Option (List ℕ)) : Type 0 where
  pub more : List ℕ
  pub gains : Gains old new more
