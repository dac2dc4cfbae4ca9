-- The spans of a bracket, one after another.
use Rattle.std.proofs.Common.{◌≡◌, List, [], ◌∷◌, ◌++◌, Option, None, Some, refl, ap, sym, append_assoc}
use Rattle.gm_base.specs.Extent.{Extent}
use Rattle.gm_history.specs.Whats.{span_on}

-- spans before others
abbrev pub before : List Extent → Option (List Extent) → Option (List Extent)
before done None = None
before done (Some more) = Some (done ++ more)

-- one span more
pub span_more : (done : List Extent) (s : Extent) (more : Option (List Extent)) → before done (span_on (Some s) more) ≡ before (done ++ s ∷ []) more
span_more done s None = refl
span_more done s (Some more) = ap (λ (l : List Extent). Some l) (sym (append_assoc done (s ∷ []) more))

pub span_none : (done : List Extent) (more : Option (List Extent)) → before done (span_on None more) ≡ None
span_none done more = refl

pub none_before : (more : Option (List Extent)) → before [] more ≡ more
none_before None = refl
none_before (Some more) = refl
