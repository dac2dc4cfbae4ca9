-- Which callers' calls in progress hold a lock that a call needs.
use Rattle.std.specs.Prelude.{◌≡◌, ℕ, List, Bool, true, false, not, ◌&&◌, ◌||◌, nat_eq, Option, Some, None}
use Rattle.gm_calls.specs.LockSets.{has_lock}
use Rattle.gm_calls.specs.declared.lock_set.LockSet.{LockSet}
use Rattle.gm_flat.specs.Locks.{Lock, FileLock}
use Rattle.gm_callers.specs.Callers.{caller_at}
use Rattle.gm_callers.specs.declared.caller.Caller.{Caller}
use Rattle.gm_callers.specs.declared.caller.InProgress.{InProgress}

-- a lock in both sets
pub record HaveCommon (held needed : LockSet) : Type 0 where
  pub lock : Lock
  pub is_held : has_lock lock held ≡ true
  pub is_needed : has_lock lock needed ≡ true

-- whether the file's lock is in the set
abbrev pub is_wanted : Option ℕ → LockSet → Bool
is_wanted None needed = false
is_wanted (Some file) needed = has_lock (FileLock file) needed

-- whether the sets have a lock in common
abbrev pub locks_meet : LockSet → LockSet → Bool
locks_meet held needed = (held.slots && needed.slots) || (is_wanted held.first needed || is_wanted held.second needed)

abbrev pub call_meets : Option InProgress → LockSet → Bool
call_meets None needed = false
call_meets (Some x) needed = locks_meet x.call.locks needed

-- whether the caller `other` isn't c, and its call in progress holds one of the locks
abbrev pub is_holder : List Caller → ℕ → LockSet → ℕ → Bool
is_holder cs c needed other = not (nat_eq other c) && call_meets (caller_at cs other).call needed
