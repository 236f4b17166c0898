-- How an act ends early, and what it then answers.
use Rattle.std.specs.Prelude.{◌≡◌, Result, Ok, Err}
use Rattle.point_select.specs.declared.PointFault.{PointFault}
use Rattle.point_select.specs.declared.PointFault.TheVariants as point
use Rattle.hdf_values.specs.declared.faults.ValueFault.{ValueFault}
use Rattle.hdf_values.specs.declared.faults.ValueFault.TheVariants as value
use Rattle.object_ops.specs.declared.refusals.Refusal.{Refusal}
use Rattle.object_ops.specs.declared.replies.Reply.{Reply}
use Rattle.object_ops.specs.declared.replies.Reply.TheVariants as reply
use Rattle.object_acts.specs.declared.arrays.faults.Stop.{Stop}
use Rattle.object_acts.specs.declared.arrays.faults.Stop.TheVariants.{NoMemory, TooManyNew, Refused}
use Rattle.object_acts.specs.declared.fault.ChangeFault.{ChangeFault}
use Rattle.object_acts.specs.declared.fault.ChangeFault.TheVariants as change
use Rattle.object_acts.specs.Arrays.Faults.{point_refusal, value_refusal}

-- a fault of points or of a value as an end
abbrev pub point_stop : PointFault → Stop
point_stop point.NoMemory = NoMemory
point_stop fault = Refused (point_refusal fault)

abbrev pub value_stop : ValueFault → Stop
value_stop value.NoMemory = NoMemory
value_stop fault = Refused (value_refusal fault)

-- an end tells the refusal, or that memory ran out; only a write that nothing refuses ends for its new chunks
abbrev pub Tells : {A : Type 0} → Stop → Result A Refusal → Type 0
Tells NoMemory r = Unit {0}
Tells TooManyNew r = ⊥
Tells (Refused refusal) r = r ≡ Err refusal

-- what is answered in the end
abbrev pub settled : Result Reply Stop → Result Reply ChangeFault
settled (Ok answer) = Ok answer
settled (Err NoMemory) = Err change.NoMemory
settled (Err TooManyNew) = Err change.TooManyNew
settled (Err (Refused refusal)) = Ok (reply.Refused refusal)

-- it holds where a write was given up since it would add too much; of nothing else is anything said
abbrev pub IfTooMany : Result Reply ChangeFault → Type 0 → Type 0
IfTooMany (Err change.TooManyNew) P = P
IfTooMany (Err change.NoMemory) P = Unit {0}
IfTooMany (Ok answer) P = Unit {0}
