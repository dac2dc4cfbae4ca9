use Rattle.std.proofs.Common.{◌≡◌, List, ℕ, ◌+◌, ◌-◌, ◌++◌, take, drop, sym, ◌∙◌, ap, arith, take-append-drop}
use Rattle.std.proofs.lemmas.List.{drop-drop}
use Rattle.gm_io.proofs.Held.{total_same}
use Rattle.gm_io.proofs.gathered.put_waiting.Goals as goal

-- what waited is what was taken and what is left
parted : (from at : ℕ) (bytes : List ℕ) → (from + (at - from)) ≡ at → drop from bytes ≡ take (at - from) (drop from bytes) ++ drop at bytes
parted from at bytes e =
    sym (take-append-drop (at - from) (drop from bytes))
    ∙ ap (λ (x : List ℕ). take (at - from) (drop from bytes) ++ x) (drop-drop (at - from) from bytes ∙ ap (λ (k : ℕ). drop k bytes) e)

pub returns-in-Err-clause-same : goal.returns-in-Err-clause-same
returns-in-Err-clause-same g c = total_same _ _ _ _ _ (parted c.args.start.now c.put_rest.new.at (take c.args.end.now c.args.bytes.now) (omega (arith, c.put_rest.ensures.from))) c.put_rest.ensures.gains
