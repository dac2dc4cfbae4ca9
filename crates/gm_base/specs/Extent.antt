use Rattle.std.specs.Prelude.{ℕ, Bool, ◌&&◌, nat_lt, nat_le, min, max}

-- the pages from lo on and below hi
pub record Extent : Type 0 where
  pub lo : ℕ
  pub hi : ℕ

-- whether a page is in it
abbrev pub holds : Extent → ℕ → Bool
holds s page = nat_le s.lo page && nat_lt page s.hi

-- whether a page is in both
abbrev pub meets : Extent → Extent → Bool
meets s t = nat_lt s.lo t.hi && nat_lt t.lo s.hi

-- the least that covers both
abbrev pub cover : Extent → Extent → Extent
cover s t = record { lo = min s.lo t.lo; hi = max s.hi t.hi }
