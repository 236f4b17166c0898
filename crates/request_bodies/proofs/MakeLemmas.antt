-- Faults of types, and layouts.
use Rattle.std.proofs.Common.{◌≡◌, ap, ℕ, List, Option, Some, None, Result, Ok, Err}
use Rattle.hdf_types.specs.declared.faults.Cause.TheVariants.{NotAType, Unsupported, TooDeep, TooMany, BadLength, DupField, TooLarge}
use Rattle.hdf_types.specs.declared.faults.TypeFault.{TypeFault}
use Rattle.hdf_types.specs.declared.faults.TypeFault.TheVariants.{NoMemory, Refused}
use Rattle.hdf_types.specs.Elems.{Elem}
use Rattle.hdf_types.specs.Faults.{Fails, Fault, fault}
use Rattle.chunk_layout.specs.Asked.{IsAnswer}
use Rattle.chunk_layout.specs.declared.Layout.{Layout}
use Rattle.chunk_layout.specs.declared.LayoutFault.{LayoutFault}
use Rattle.chunk_layout.proofs.DefaultChunks.HalvingLemmas.{default_only}
use Rattle.object_ops.specs.declared.refusals.Refusal.{Refusal}
use Rattle.request_bodies.specs.Refusing.{Answers}
use Rattle.request_bodies.specs.Makes.{class_given, type_or}
use Rattle.request_bodies.specs.Properties.{chunk_or}

-- a fault of a type is refused as its cause, or its class is kept
pub class_answers : (f : TypeFault) (r : Result Elem Fault) → Fails f r → Answers (class_given f) (type_or r)
unfolding fault
class_answers NoMemory r e = tt
class_answers (Refused path NotAType) r e = ap type_or e
class_answers (Refused path (Unsupported class)) r e = ap type_or e
class_answers (Refused path TooDeep) r e = ap type_or e
class_answers (Refused path TooMany) r e = ap type_or e
class_answers (Refused path BadLength) r e = ap type_or e
class_answers (Refused path (DupField index)) r e = ap type_or e
class_answers (Refused path TooLarge) r e = ap type_or e

-- what a layout is read as
pub answered : (size : ℕ) (dims : List ℕ) (r : Result (Option (List ℕ)) LayoutFault) (layout : Layout) → IsAnswer dims size r (Ok layout) → chunk_or size dims r ≡ Ok layout
answered size dims (Err f) layout e = let other : Ok layout ≡ Err f = e in absurd (cc)
answered size dims (Ok None) layout e =
    let as_layout : List ℕ → Result Layout Refusal = λ chunk. Ok (record { chunk = chunk }) in
    ap as_layout (default_only size dims layout.chunk e)
answered size dims (Ok (Some chunk)) layout e = let same : Ok layout ≡ Ok (record { chunk = chunk }) = e in cc
