use Rattle.std.proofs.Common.{List, ℕ, subst}
use Rattle.std.specs.List.{AllByRecursion}
use Rattle.hdf_values.specs.Attributes.{content, IsSoundAttribute}
use Rattle.hdf_values.specs.declared.attributes.Attribute.{Attribute}
use Rattle.attributes.proofs.MapLemmas.{each_entry}
use Rattle.attributes.proofs.attribute_map.Attributes.list.Goals as goal

pub listed-requires : goal.listed-requires
listed-requires c =
    let AllSound : List (List ℕ × Attribute) → Type 0 = AllByRecursion (λ e. IsSoundAttribute (content e.1)) in
    subst AllSound c.as_tree.ensures (each_entry (λ name a. IsSoundAttribute (content a)) c.self.inside.entries c.self.invariant.sound)
