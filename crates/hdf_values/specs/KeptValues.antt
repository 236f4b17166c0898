-- Values that are kept, and numbers of one type as those of another.
use Rattle.std.specs.Prelude.{◌≡◌, ℕ, List, ◌++◌}
use Rattle.std.specs.List.{AllByRecursion, flat_map}
use Rattle.serde_json.specs.Data.{Data}
use Rattle.hdf_types.specs.declared.IntType.{IntType}
use Rattle.hdf_types.specs.Elems.{int}
use Rattle.hdf_types.specs.Reading.{int_size}
use Rattle.hdf_values.specs.Elements.{Fits, bytes_of, decoded}
use Rattle.hdf_values.specs.Nested.{pieces}
use Rattle.hdf_values.specs.declared.kept.value.Form.{Form}
use Rattle.hdf_values.specs.declared.kept.value.Form.TheVariants as form

abbrev pub form_tree : Form → Data
form_tree (form.Text tree) = tree
form_tree (form.Numbers numbers) = numbers

-- `n` numbers of the first type are numbers of the other, and their bytes stand behind the old ones
pub record Converts (from to : IntType) (n : ℕ) (bs old new : List ℕ) : Type 0 where
  pub fits : AllByRecursion (λ b. Fits (int to) (decoded (int from) b)) (pieces n (int_size from.bits) bs)
  pub bytes : new ≡ old ++ flat_map (λ b. bytes_of (int to) (decoded (int from) b)) (pieces n (int_size from.bits) bs)
