use Rattle.std.proofs.Common.{◌≡◌, ◌++◌, map}
use Rattle.std.specs.List.{AllByRecursion}
use Rattle.serde_json.specs.View.{view}
use Rattle.hdf_values.specs.Attributes.{content, IsSoundAttribute}
use Rattle.object_ids.specs.NamedEntries.{named_entries}
use Rattle.attributes.specs.AttributeTrees.{entry_tree}
use Rattle.attributes.proofs.attribute_map.listed.Given as goal

-- what is listed so far, in front of what is left; and what is left is sound
abbrev pub invariant-loop-named : goal.invariant-loop-named
invariant-loop-named l = record {
  so_far : map view l.items.items ++ map (entry_tree l.form l.with_value) (named_entries l.named-iterator)
      ≡ map (entry_tree l.form l.with_value) (named_entries l.entries.entries);
  sound : AllByRecursion (λ e. IsSoundAttribute (content e.1)) (named_entries l.named-iterator);
}
