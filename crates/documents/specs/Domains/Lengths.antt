-- How many bytes the text of a document has at least, by the shapes of its datasets alone.
use Rattle.std.specs.Prelude.{◌≡◌, ℕ, ◌+◌, ◌*◌, Bool, true, List, [], ◌∷◌, Option, Some, None, if◌then◌else◌}
use Rattle.std.specs.FinMap.{entries}
use Rattle.std.specs.List.{AllByRecursion}
use Rattle.shapes.specs.Shapes.{dims_of}
use Rattle.object_ids.specs.IdValues.{Id}
use Rattle.object_ids.specs.Ids.{InRange}
use Rattle.object_ids.specs.declared.ids.Kind.TheVariants as kind
use Rattle.object_acts.specs.Objects.{Objects}
use Rattle.object_acts.specs.declared.objects.Body.{Body}
use Rattle.object_acts.specs.declared.objects.Body.TheVariants.{Group, Dataset, Datatype}
use Rattle.object_acts.specs.declared.objects.Object.{Object}
use Rattle.documents.specs.Domains.Documents.{is_of}
use Rattle.documents.specs.declared.domains.home.Home.{Home}

-- of lists nested by some extents: one for each element, and for each list its two brackets and the commas between
abbrev pub least_nested : List ℕ → ℕ
least_nested [] = 1
least_nested (n ∷ ns) = 1 + n * (least_nested ns + 1)

-- of the value of a dataset
abbrev pub least_body : Body → ℕ
least_body (Group links) = 0
least_body (Dataset stored) = least_nested (dims_of stored.grid.shape)
least_body (Datatype type) = 0

-- of what stands at an id, where it is a dataset of the domain
abbrev pub least_at : Home → Id → Option Object → ℕ
least_at h id None = 0
least_at h id (Some o) = if is_of kind.Dataset h id then least_body o.body else 0

-- the sum of a number for each entry whose id passes a test
abbrev pub least_sum : {X : Type 0} → (Id → Bool) → (X → ℕ) → List (Id × X) → ℕ
least_sum test least [] = 0
least_sum test least (e ∷ es) = (if test e.0 then least e.1 else 0) + least_sum test least es

-- of the values of all datasets of the domain
abbrev pub least_values : Home → List (Id × Object) → ℕ
least_values h = least_sum (is_of kind.Dataset h) (λ o. least_body o.body)

-- the id of each dataset of the domain is one that an `ObjectId` can be
abbrev pub AreInRangeFrom : Home → List (Id × Object) → Type 0
AreInRangeFrom h = AllByRecursion (λ e. is_of kind.Dataset h e.0 ≡ true → InRange e.0)

abbrev pub AreDatasetsInRange : Objects → Home → Type 0
AreDatasetsInRange m h = AreInRangeFrom h (entries m)
