-- The attributes of an object: a finite map from names.
--     most_attributes, longest_name      the limits
--     AreAttributes m      what is true of the attributes of every object
use Rattle.std.specs.Prelude.{◌≡◌, ℕ, ◌≤◌, List, true, Some}
use Rattle.std.specs.FinMap.{FinMap, get, len}
use Rattle.object_ids.specs.Names.{is_name}
use Rattle.containers.specs.TextMaps.Keyed.{text_order}
use Rattle.hdf_values.specs.Attributes.{content, IsSoundAttribute}
use Rattle.hdf_values.specs.declared.attributes.Attribute.{Attribute}

abbrev pub AttributeMap : Type 0
AttributeMap = FinMap text_order Attribute

-- the most attributes of an object
abbrev pub most_attributes : ℕ
most_attributes = 1024

-- the most bytes of an attribute's name
abbrev pub longest_name : ℕ
longest_name = 255

pub record AreAttributes (m : AttributeMap) : Type 0 where
  pub few : len m ≤ most_attributes
  pub named : (name : List ℕ) (a : Attribute) → get m name ≡ Some a → is_name longest_name name ≡ true
  pub sound : (name : List ℕ) (a : Attribute) → get m name ≡ Some a → IsSoundAttribute (content a)
