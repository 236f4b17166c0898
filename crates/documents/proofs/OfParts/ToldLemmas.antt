-- The fault of a lower call, told as one of the document.
use Rattle.std.proofs.Common.{◌≡◌, inl, inr, List, ℕ, Option, Result, Ok, Err, sym, subst}
use Rattle.json_trees.specs.Faults.{Fails as FailsBelow}
use Rattle.hdf_values.specs.Attributes.{Content}
use Rattle.hdf_values.specs.declared.attributes.AttributeFault.{AttributeFault}
use Rattle.hdf_values.specs.declared.attributes.AttributeFault.TheVariants as attributes
use Rattle.hdf_values.specs.declared.faults.ValueFault.{ValueFault}
use Rattle.hdf_values.specs.declared.faults.ValueFault.TheVariants as values
use Rattle.object_ops.specs.declared.creation.faults.CreationFault.{CreationFault}
use Rattle.object_ops.specs.declared.creation.faults.CreationFault.TheVariants as creations
use Rattle.documents.specs.Parts.Arrays.{IsCreationTold, IsValueTold, created, valued}
use Rattle.documents.specs.Parts.AttributeLists.{IsToldOf, attribute_or}
use Rattle.documents.specs.Parts.Faults.{Fails, Fault, Tells}
use Rattle.documents.specs.declared.parts.faults.DocFault.{DocFault}
use Rattle.documents.specs.declared.parts.faults.DocFault.TheVariants.{NoMemory}

-- want of memory is an error of every call
pub no_memory : {A : Type 0} (e : DocFault) (r : Result A Fault) → e ≡ NoMemory → Fails e r
no_memory e (Ok x) h = h
no_memory e (Err f) h = subst (λ (d : DocFault). Tells d f) (sym h) tt

-- of an error that isn't want of memory the fault is known
module _ {A E : Type 0} (memory : E) where
  other : (e : E) (r : Result A E) → (e ≡ memory → ⊥) → FailsBelow memory e r → r ≡ Err e
  other e r apart h = elim h [ inl same ↦ absurd (apart same) | inr is ↦ is ]

pub attribute_told : (path : List ℕ) (f : AttributeFault) (r : Result Content AttributeFault) (e : DocFault) → FailsBelow attributes.NoMemory f r → IsToldOf path f e → Fails e (attribute_or path r)
attribute_told path attributes.NoMemory r e h told = no_memory e (attribute_or path r) told
attribute_told path (attributes.BadType t) r e h told = rw (other attributes.NoMemory (attributes.BadType t) r (λ same. cc) h) told
attribute_told path (attributes.BadShape t) r e h told = rw (other attributes.NoMemory (attributes.BadShape t) r (λ same. cc) h) told
attribute_told path attributes.TooLarge r e h told = rw (other attributes.NoMemory attributes.TooLarge r (λ same. cc) h) told
attribute_told path (attributes.BadValue t) r e h told = rw (other attributes.NoMemory (attributes.BadValue t) r (λ same. cc) h) told

pub creation_told : (path : List ℕ) (f : CreationFault) (r : Result (List ℕ × Option (List ℕ)) CreationFault) (e : DocFault)
    → FailsBelow creations.NoMemory f r → IsCreationTold path f e → Fails e (created path r)
creation_told path creations.NoMemory r e h told = no_memory e (created path r) told
creation_told path creations.NotAnObject r e h told = rw (other creations.NoMemory creations.NotAnObject r (λ same. cc) h) told
creation_told path creations.BadLayout r e h told = rw (other creations.NoMemory creations.BadLayout r (λ same. cc) h) told
creation_told path creations.HasFilters r e h told = rw (other creations.NoMemory creations.HasFilters r (λ same. cc) h) told
creation_told path creations.BadFill r e h told = rw (other creations.NoMemory creations.BadFill r (λ same. cc) h) told

pub value_told : (path : List ℕ) (f : ValueFault) (r : Result (List ℕ) ValueFault) (e : DocFault) → FailsBelow values.NoMemory f r → IsValueTold path f e → Fails e (valued path r)
value_told path values.NoMemory r e h told = no_memory e (valued path r) told
value_told path (values.NotOfType p) r e h told = rw (other values.NoMemory (values.NotOfType p) r (λ same. cc) h) told
value_told path (values.OutOfRange p) r e h told = rw (other values.NoMemory (values.OutOfRange p) r (λ same. cc) h) told
value_told path (values.TooLong p) r e h told = rw (other values.NoMemory (values.TooLong p) r (λ same. cc) h) told
value_told path (values.NotAscii p) r e h told = rw (other values.NoMemory (values.NotAscii p) r (λ same. cc) h) told
value_told path (values.Nul p) r e h told = rw (other values.NoMemory (values.Nul p) r (λ same. cc) h) told
value_told path (values.WrongCount w g) r e h told = rw (other values.NoMemory (values.WrongCount w g) r (λ same. cc) h) told
