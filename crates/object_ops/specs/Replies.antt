-- Words on answers that the crates above share.
use Rattle.std.specs.Prelude.{◌≡◌, ℕ, List, Result, Ok, Err, Bool, true, false}
use Rattle.serde_json.specs.Data.{Data, object, member, no_members}
use Rattle.object_ops.specs.declared.replies.Reply.{Reply}
use Rattle.object_ops.specs.declared.replies.Reply.TheVariants.{Done, Refused}

-- a call answers and leaves what a definition says, or it fails, for want of memory alone, and all stays
abbrev pub Follows : {A E S : Type 0} → A × S → S → Result A E → S → Type 0
Follows p old (Ok r) new = (r ≡ p.0) × (new ≡ p.1)
Follows p old (Err e) new = new ≡ old

-- a body without a key
abbrev pub nothing : Data
nothing = object no_members

-- a body of one key
abbrev pub only : List ℕ → Data → Data
only key tree = object (member key tree no_members)

-- the answer refuses nothing
abbrev pub was_done : Reply → Bool
was_done (Done status body) = true
was_done (Refused refusal) = false
