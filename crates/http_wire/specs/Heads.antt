-- Heads of requests within the limits of the service, and their fields.
use Rattle.std.specs.Prelude.{ℕ, ◌<◌, ◌≤◌, ◌⊎◌, ◌==◌, List, [], ◌∷◌, ◌++◌, length, map, Bool, cond, Option, Some, None}
use Rattle.std.specs.Option.{is_some}
use Rattle.std.specs.Str.{str_eq_ignore_ascii_case}
use Rattle.httparse.specs.Grammar.{RequestHead, ReadsRequest, HasNoRequest, MayBecomeRequest, print_request}
use Rattle.httparse.specs.Spans.{RequestExceeds, header_bytes}
use Rattle.httparse.specs.declared.spans.HeaderSpan.{HeaderSpan}
use Rattle.http_wire.specs.declared.limits.TheConstants.{HEAD_LIMIT, FIELD_LIMIT}

-- the head is within the limits
pub record IsSmall (h : RequestHead) : Type 0 where
  pub bytes : length (print_request h) ≤ HEAD_LIMIT
  pub fields : length h.fields ≤ FIELD_LIMIT

-- whatever follows, no head within the limits stands at the front
abbrev pub NoSmallHead : List ℕ → Type 0
NoSmallHead bytes = (more : List ℕ) (h : RequestHead) (rest : List ℕ) → ReadsRequest (bytes ++ more) h rest → ¬ (IsSmall h)

-- no whole head stands at the front of fewer bytes than the limit, and they may go on, if there are any
abbrev pub IsUnfinished : List ℕ → Type 0
IsUnfinished bytes = HasNoRequest bytes × (length bytes < HEAD_LIMIT) × (0 < length bytes → MayBecomeRequest bytes)

-- as many bytes as the longest head has are no whole head, though they may go on
pub record IsFull (bytes : List ℕ) : Type 0 where
  pub full : HEAD_LIMIT ≤ length bytes
  pub none : HasNoRequest bytes
  pub goes_on : MayBecomeRequest bytes

-- a head that goes on beyond the limit of bytes, or that has more fields than the limit
abbrev pub IsLong : List ℕ → Type 0
IsLong bytes = IsFull bytes ⊎ RequestExceeds FIELD_LIMIT bytes

-- the byte that ends a line
abbrev pub is_feed : ℕ → Bool
is_feed byte = byte == 10

-- the names and values that spans cover
abbrev pub fields_at : List ℕ → List HeaderSpan → List (List ℕ × List ℕ)
fields_at bytes headers = map (header_bytes bytes) headers

-- the value of the first field of that name, in any case, of fields given as names and trimmed values
abbrev pub first_value : List ℕ → List (List ℕ × List ℕ) → Option (List ℕ)
first_value name [] = None
first_value name (field ∷ fields) = cond (str_eq_ignore_ascii_case field.0 name) (Some field.1) (first_value name fields)

-- there is a field of that name
abbrev pub has_field : List ℕ → List (List ℕ × List ℕ) → Bool
has_field name fields = is_some (first_value name fields)

-- the values of all fields of that name, in their order
abbrev pub values_of : List ℕ → List (List ℕ × List ℕ) → List (List ℕ)
values_of name [] = []
values_of name (field ∷ fields) = cond (str_eq_ignore_ascii_case field.0 name) (field.1 ∷ values_of name fields) (values_of name fields)
