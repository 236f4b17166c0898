-- Values that may be absent.
use Rattle.std.specs.Prelude.{Bool, Option, None, if◌then◌else◌}

-- what is there, where a test passes
abbrev pub only_if : {A : Type 0} → Bool → Option A → Option A
only_if test o = if test then o else None
