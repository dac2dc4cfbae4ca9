-- What a run comes to, by its status, for every list of words: how far the source was read, and what the sink got.
-- `most` is how many bytes the words may read. `Due` says which text is due, by the bytes and the status with which the
-- whole of it is written.
use Rattle.std.specs.Prelude.{◌≡◌, ℕ, List}
use Rattle.std.specs.declared.option.Option.{Option}
use Rattle.gm_io.specs.Held.{Gains, GainsFront}
use Rattle.gmemrun.specs.Reading.{ReadAll, TookOneTooMany, TookWithin}
use Rattle.gmemrun.specs.declared.status.Status.{Status}
use Rattle.gmemrun.specs.declared.status.Status.TheVariants.{Ok, BadScript, Usage, ReadFault, WriteFault, NoMemory, TooLong, BadHistory}

-- what was taken of the source in this call, and whether its end was met. Memory may run out anywhere on the way.
abbrev pub Took : ℕ → Status → Option (List ℕ) → Option (List ℕ) → List ℕ → Type 0
Took most Ok old new bytes = ReadAll most old new bytes
Took most BadScript old new bytes = ReadAll most old new bytes
Took most BadHistory old new bytes = ReadAll most old new bytes
Took most WriteFault old new bytes = ReadAll most old new bytes
Took most Usage old new bytes = new ≡ old
Took most ReadFault old new bytes = TookWithin most old new bytes
Took most NoMemory old new bytes = Unit {0}
Took most TooLong old new bytes = TookOneTooMany most old new bytes

-- the whole text that is due with the status was put
pub record PutAll (Due : List ℕ → Status → List ℕ → Type 0) (bytes : List ℕ) (status : Status) (old new : Option (List ℕ)) : Type 0 where
  pub text : List ℕ
  pub due : Due bytes status text
  pub written : Gains old new text

-- a front of the text that is due was put, and where the sink tells what it holds, never the whole
pub record PutFront (Due : List ℕ → Status → List ℕ → Type 0) (bytes : List ℕ) (old new : Option (List ℕ)) : Type 0 where
  pub status : Status
  pub text : List ℕ
  pub due : Due bytes status text
  pub written : GainsFront old new text

-- what the sink got
abbrev pub Put : (List ℕ → Status → List ℕ → Type 0) → List ℕ → Status → Option (List ℕ) → Option (List ℕ) → Type 0
Put Due bytes Ok old new = PutAll Due bytes Ok old new
Put Due bytes BadScript old new = PutAll Due bytes BadScript old new
Put Due bytes BadHistory old new = PutAll Due bytes BadHistory old new
Put Due bytes WriteFault old new = PutFront Due bytes old new
Put Due bytes Usage old new = new ≡ old
Put Due bytes ReadFault old new = new ≡ old
Put Due bytes NoMemory old new = new ≡ old
Put Due bytes TooLong old new = new ≡ old

-- what a run came to: `left` is what the source has left and `held` what the sink holds, before and after
pub record CameTo (most : ℕ) (Due : List ℕ → Status → List ℕ → Type 0) (status : Status) (left left_after held held_after : Option (List ℕ)) : Type 0 where
  pub bytes : List ℕ
  pub took : Took most status left left_after bytes
  pub put : Put Due bytes status held held_after
