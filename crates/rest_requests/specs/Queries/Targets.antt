-- The parts of a request's target.
use Rattle.std.specs.Prelude.{ℕ, List, Bool, ◌==◌, Option, Some, None, if◌then◌else◌}
use Rattle.std.specs.List.{before_first, after_first}
use Rattle.std.specs.Str.{is_utf8}
use Rattle.percent_encoding.specs.Percent.{percent_decode}

abbrev pub is_question : ℕ → Bool
is_question byte = byte == 63

-- what stands before the first question mark
abbrev pub path_of : List ℕ → List ℕ
path_of target = before_first is_question target

-- what stands behind it
abbrev pub query_of : List ℕ → List ℕ
query_of target = after_first is_question target

-- bytes, where they are a text
abbrev pub if_text : List ℕ → Option (List ℕ)
if_text bytes = if is_utf8 bytes then Some bytes else None

-- the text that a part of a path stands for
abbrev pub parameter_text : List ℕ → Option (List ℕ)
parameter_text part = if_text (percent_decode part)
