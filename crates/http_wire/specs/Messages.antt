-- Messages: a head, and as many bytes as it says.
use Rattle.std.specs.Prelude.{◌≡◌, ℕ, ◌<◌, ◌⊎◌, ◌==◌, List, [], ◌∷◌, ◌++◌, length, map, codes, Bool, false, ◌||◌, nat_eq, nat_lt, nat_le, cond, if◌then◌else◌, Option, Some, None, Result, Ok, Err, ⊤}
use Rattle.std.specs.List.{list_all, list_any, slice_split}
use Rattle.std.specs.Char.{is_ascii_digit}
use Rattle.std.specs.Str.{str_eq_ignore_ascii_case}
use Rattle.std.specs.Str.Parse.{digits_value}
use Rattle.httparse.specs.Grammar.{RequestHead, IsRequestHead, ReadsRequest, HasNoRequest, NeverHasRequest, MayBecomeRequest, print_request, trim_ows}
use Rattle.httparse.specs.Spans.{name_and_value}
use Rattle.http_wire.specs.Heads.{IsSmall, NoSmallHead, IsLong, values_of, has_field}
use Rattle.http_wire.specs.declared.limits.TheConstants.{HEAD_LIMIT, BODY_LIMIT}
use Rattle.http_wire.specs.declared.message_fault.MessageFault.{MessageFault}
use Rattle.http_wire.specs.declared.message_fault.MessageFault.TheVariants.{BadHead, HeadTooLong, BadLength, BodyTooLong, TransferCoding}

-- the only one of some values, if there is one; several are refused
abbrev pub only_one : List (List ℕ) → Result (Option (List ℕ)) MessageFault
only_one [] = Ok None
only_one (value ∷ []) = Ok (Some value)
only_one (value ∷ other ∷ others) = Err BadLength

-- 1 to 19 digits
abbrev pub is_number : List ℕ → Bool
is_number text = cond (nat_eq (length text) 0 || nat_lt 19 (length text)) false (list_all is_ascii_digit text)

-- the number that digits spell, where it is a body's length
abbrev pub length_in : List ℕ → Result ℕ MessageFault
length_in text =
    if is_number text then (if nat_le (digits_value 10 text) BODY_LIMIT then Ok (digits_value 10 text) else Err BodyTooLong)
    else Err BadLength

-- without a length there is no body
abbrev pub length_given : Option (List ℕ) → Result ℕ MessageFault
length_given None = Ok 0
length_given (Some text) = length_in text

-- a body that is coded for its transfer is refused
abbrev pub uncoded : List (List ℕ × List ℕ) → ℕ → Result ℕ MessageFault
uncoded fields size = if has_field (codes "Transfer-Encoding") fields then Err TransferCoding else Ok size

-- the next step, where there was no refusal
abbrev pub then_with : {A B : Type 0} → (A → Result B MessageFault) → Result A MessageFault → Result B MessageFault
then_with f (Ok x) = f x
then_with f (Err fault) = Err fault

-- how many bytes of a body follow a head with these fields
abbrev pub size_of : List (List ℕ × List ℕ) → Result ℕ MessageFault
size_of fields = then_with (uncoded fields) (then_with length_given (only_one (values_of (codes "Content-Length") fields)))

abbrev pub body_size : RequestHead → Result ℕ MessageFault
body_size h = size_of (map name_and_value h.fields)

-- a request, as a link gives it
pub record RequestMessage : Type 0 where
  pub head : RequestHead
  pub body : List ℕ

abbrev pub spelling : RequestMessage → List ℕ
spelling m = print_request m.head ++ m.body

-- the head is one of the grammar, within the limits, and says how long the body is
pub record IsSpelled (m : RequestMessage) : Type 0 where
  pub head : IsRequestHead m.head
  pub small : IsSmall m.head
  pub size : body_size m.head ≡ Ok (length m.body)

-- no whole message stands at the front
abbrev pub HasNoMessage : List ℕ → Type 0
HasNoMessage bytes = (m : RequestMessage) (rest : List ℕ) → IsSpelled m → bytes ≡ spelling m ++ rest → ⊥

-- a head at the front is refused for what it says of its body
abbrev pub HasBadSize : List ℕ → MessageFault → Type 0
HasBadSize bytes fault = (h : RequestHead) × (rest : List ℕ) × ReadsRequest bytes h rest × IsSmall h × (body_size h ≡ Err fault)

-- no head at the front is refused so
abbrev pub HasNoBadSize : List ℕ → Type 0
HasNoBadSize bytes = (fault : MessageFault) → HasBadSize bytes fault → ⊥

-- the bytes stop inside a head: fewer than the limit, no whole one, and they may go on
abbrev pub StopsInHead : List ℕ → Type 0
StopsInHead bytes = HasNoRequest bytes × (length bytes < HEAD_LIMIT) × MayBecomeRequest bytes

-- the bytes stop inside a body: a head within the limits stands at the front, and fewer bytes follow it than it says
abbrev pub StopsInBody : List ℕ → Type 0
StopsInBody bytes =
    (h : RequestHead) × (rest : List ℕ) × (size : ℕ) × ReadsRequest bytes h rest × IsSmall h
    × (body_size h ≡ Ok size) × (length rest < size)

-- the bytes stop inside a message
abbrev pub StopsInside : List ℕ → Type 0
StopsInside bytes = StopsInHead bytes ⊎ StopsInBody bytes

-- a refusal for what a head says of its body
abbrev pub IsSizeFault : MessageFault → Type 0
IsSizeFault BadHead = ⊥
IsSizeFault HeadTooLong = ⊥
IsSizeFault BadLength = ⊤
IsSizeFault BodyTooLong = ⊤
IsSizeFault TransferCoding = ⊤

-- why the bytes at the front are refused
abbrev pub IsRefusedFor : List ℕ → MessageFault → Type 0
IsRefusedFor bytes BadHead = (0 < length bytes) × NeverHasRequest bytes
IsRefusedFor bytes HeadTooLong = (0 < length bytes) × NoSmallHead bytes × IsLong bytes
IsRefusedFor bytes BadLength = HasBadSize bytes BadLength
IsRefusedFor bytes BodyTooLong = HasBadSize bytes BodyTooLong
IsRefusedFor bytes TransferCoding = HasBadSize bytes TransferCoding

-- the words of a value: what stands between commas, without the spaces and tabs around it
abbrev pub words_of : List ℕ → List (List ℕ)
words_of value = map trim_ows (slice_split (λ byte. byte == 44) value)

-- the word close is among them
abbrev pub says_close : List ℕ → Bool
says_close value = list_any (λ word. str_eq_ignore_ascii_case word (codes "close")) (words_of value)

-- HTTP/1.0, or a Connection field with the word close
abbrev pub closes_by : ℕ → List (List ℕ × List ℕ) → Bool
closes_by minor fields = minor == 0 || list_any says_close (values_of (codes "Connection") fields)

abbrev pub closes_after : RequestHead → Bool
closes_after h = closes_by h.minor (map name_and_value h.fields)

-- the link ends after the answer to it
abbrev pub closes : RequestMessage → Bool
closes m = closes_after m.head
