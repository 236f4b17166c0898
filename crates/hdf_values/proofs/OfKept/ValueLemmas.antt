-- What a reading that tells the first fault gives besides.
use Rattle.std.proofs.Common.{◌≡◌, ℕ, List, Result, Ok, Err, IfOk, sym, subst}
use Rattle.serde_json.specs.Data.{Data}
use Rattle.json_trees.specs.Faults.{Fails, Gives}
use Rattle.hdf_types.specs.Elems.{Elem}
use Rattle.hdf_types.specs.Types.{IsSoundType}
use Rattle.shapes.specs.RowMajor.{cell_count}
use Rattle.hdf_values.specs.declared.faults.ValueFault.{ValueFault}
use Rattle.hdf_values.specs.declared.faults.ValueFault.TheVariants.{NoMemory}
use Rattle.hdf_values.specs.Nested.{AreEncoded, FitsNested, nested_bytes, nested_from}
use Rattle.json_trees.specs.Trees.{AreTexts}
use Rattle.hdf_values.proofs.ExactlyLemmas.{exactly_nested}
use Rattle.hdf_values.proofs.NestedLemmas.{are_encoded, nested_read}

pub read_fits : {T : Type 0} (see : T → List ℕ) (r : Result T ValueFault) (e : Elem) (dims : List ℕ) (d : Data) → AreTexts d → Gives (Fails NoMemory) see r (nested_from e dims 0 d) → IfOk r (λ v. FitsNested e dims d × (see v ≡ nested_bytes e dims d))
read_fits see (Ok v) e dims d texts g = (exactly_nested e dims 0 d (see v) texts).0 g
read_fits see (Err f) e dims d texts g = tt

pub read_only : {T : Type 0} (see : T → List ℕ) (r : Result T ValueFault) (e : Elem) (dims : List ℕ) (d : Data) → Gives (Fails NoMemory) see r (nested_from e dims 0 d) → FitsNested e dims d → Gives (Fails NoMemory) see r (Ok (nested_bytes e dims d))
read_only see r e dims d g h = subst (Gives (Fails NoMemory) see r) (nested_read e dims 0 d h) g

pub read_encoded : {T : Type 0} (see : T → List ℕ) (r : Result T ValueFault) (e : Elem) (dims : List ℕ) (d : Data) → IsSoundType e → IfOk r (λ v. FitsNested e dims d × (see v ≡ nested_bytes e dims d)) → IfOk r (λ v. AreEncoded e (cell_count dims) (see v))
read_encoded see (Ok v) e dims d sound h = subst (AreEncoded e (cell_count dims)) (sym h.1) (are_encoded e dims d sound h.0)
read_encoded see (Err f) e dims d sound h = tt
