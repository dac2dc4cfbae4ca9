-- Spans of pages: one more, and that their numbers are within their types.
use Rattle.std.proofs.Common.{ℕ, ◌^◌, ◌<◌, ◌≤◌, List, [], ◌∷◌, ◌++◌, arith}
use Rattle.gm_base.specs.Extent.{Extent}
use Rattle.gm_flat.specs.InTypes.{AreSpansInTypes}
use Rattle.gm_flat.specs.Roomy.{AreOfPages, IsOfPages}

pub AreOfPages-push : (ss : List Extent) (s : Extent) → AreOfPages ss → IsOfPages s → AreOfPages (ss ++ s ∷ [])
AreOfPages-push [] s h k = (k, tt)
AreOfPages-push (t ∷ ss) s h k = (h.0, AreOfPages-push ss s h.1 k)

below_types : (lo hi : ℕ) → lo < hi → hi ≤ 4503599627370496 → lo < 2 ^ 64
below_types lo hi h k = omega arith

end_below_types : (hi : ℕ) → hi ≤ 4503599627370496 → hi < 2 ^ 64
end_below_types hi k = omega arith

pub spans_in_types : (ss : List Extent) → AreOfPages ss → AreSpansInTypes ss
spans_in_types [] h = tt
spans_in_types (s ∷ ss) h = ((below_types s.lo s.hi h.0.0 h.0.1, end_below_types s.hi h.0.1), spans_in_types ss h.1)
