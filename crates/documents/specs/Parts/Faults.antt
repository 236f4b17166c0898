-- Why a document is refused, and where: the fault with its whole path, and what a call answers beside it.
use Rattle.std.specs.Prelude.{◌≡◌, ℕ, List, [], Result, Ok, Err}
use Rattle.json_trees.specs.Faults.{Gives as GivesTold, Leaves as LeavesTold}
use Rattle.documents.specs.Parts.Paths.{IsShown}
use Rattle.documents.specs.declared.parts.faults.DocCause.{DocCause}
use Rattle.documents.specs.declared.parts.faults.DocFault.{DocFault}
use Rattle.documents.specs.declared.parts.faults.DocFault.TheVariants.{NoMemory, Refused}

pub record Fault : Type 0 where
  pub path : List ℕ
  pub cause : DocCause

unfoldable pub fault : List ℕ → DocCause → Fault
fault path cause = record { path = path; cause = cause }

-- an error shows this fault, or memory ran out
abbrev pub Tells : DocFault → Fault → Type 0
Tells NoMemory f = Unit {0}
Tells (Refused path cause) f = IsShown f.path path × (cause ≡ f.cause)

-- the whole document is refused for this, and not for want of memory
abbrev pub RefusesWhole : DocCause → DocFault → Type 0
RefusesWhole cause NoMemory = ⊥
RefusesWhole cause (Refused path why) = (path ≡ []) × (why ≡ cause)

-- an error shows the fault that the tests find; where they find none, memory ran out
abbrev pub Fails : {A : Type 0} → DocFault → Result A Fault → Type 0
Fails e (Ok x) = e ≡ NoMemory
Fails e (Err f) = Tells e f

-- a call gives what the tests find, seen through `see`, or it fails
abbrev pub Gives : {A T : Type 0} → (T → A) → Result T DocFault → Result A Fault → Type 0
Gives see given found = GivesTold Fails see given found

-- the same, where what is given is seen as it is
abbrev pub Answers : {A : Type 0} → Result A DocFault → Result A Fault → Type 0
Answers given found = GivesTold Fails (λ x. x) given found

-- a call leaves behind what the tests find, or it fails
abbrev pub Leaves : {A T : Type 0} → Result T DocFault → A → Result A Fault → Type 0
Leaves given new found = LeavesTold Fails given new found
