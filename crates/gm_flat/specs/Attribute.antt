-- *attribute of a page*: the kind of the last attribute call whose span holds the page, and shared where none does.
-- (Documentation/virt/kvm/api.rst, KVM_SET_MEMORY_ATTRIBUTES.)
use Rattle.std.specs.Prelude.{ℕ, List, [], ◌∷◌, if◌then◌else◌}
use Rattle.gm_base.specs.Extent.{holds}
use Rattle.gm_base.specs.declared.values.Kind.{Kind}
use Rattle.gm_base.specs.declared.values.Kind.TheVariants.{Shared}
use Rattle.gm_flat.specs.FlatState.{AttrCall}

abbrev pub attr_of : ℕ → List AttrCall → Kind
attr_of page [] = Shared
attr_of page (c ∷ calls) = if holds c.span page then c.kind else attr_of page calls
