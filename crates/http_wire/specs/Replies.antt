-- The bytes of answers.
use Rattle.std.specs.Prelude.{ℕ, ◌≤◌, take, Bool, true, false, ◌==◌, if◌then◌else◌, cond, List, [], ◌∷◌, ◌++◌, length, decimal, codes, Option, Some, None}
use Rattle.std.specs.Io.KnownBytes.{Appends}
use Rattle.http_wire.specs.declared.extra.Extra.{Extra}
use Rattle.http_wire.specs.declared.extra.Extra.TheVariants as extra
use Rattle.http_wire.specs.declared.extra.Methods.{Methods}
use Rattle.http_wire.specs.declared.message_fault.MessageFault.{MessageFault}
use Rattle.http_wire.specs.declared.message_fault.MessageFault.TheVariants.{BadHead, HeadTooLong, BadLength, BodyTooLong, TransferCoding}

-- CR LF, which ends a line
abbrev pub crlf : List ℕ
crlf = codes "\r\n"

-- what stands behind the digits of a status, for the statuses that are answered
abbrev pub phrase_of : ℕ → Option (List ℕ)
phrase_of status =
    if status == 200 then Some (codes "OK")
    else if status == 201 then Some (codes "Created")
    else if status == 204 then Some (codes "No Content")
    else if status == 400 then Some (codes "Bad Request")
    else if status == 401 then Some (codes "Unauthorized")
    else if status == 403 then Some (codes "Forbidden")
    else if status == 404 then Some (codes "Not Found")
    else if status == 405 then Some (codes "Method Not Allowed")
    else if status == 409 then Some (codes "Conflict")
    else if status == 410 then Some (codes "Gone")
    else if status == 413 then Some (codes "Content Too Large")
    else if status == 431 then Some (codes "Request Header Fields Too Large")
    else if status == 501 then Some (codes "Not Implemented")
    else if status == 503 then Some (codes "Service Unavailable")
    else if status == 507 then Some (codes "Insufficient Storage")
    else None

-- the status line; a status without a phrase is written as 500
abbrev pub line_of : ℕ → Option (List ℕ) → List ℕ
line_of status (Some phrase) = codes "HTTP/1.1 " ++ decimal status ++ codes " " ++ phrase ++ crlf
line_of status None = codes "HTTP/1.1 500 Internal Server Error" ++ crlf

-- texts, with another text between each two
abbrev pub joined_by : List ℕ → List (List ℕ) → List ℕ
joined_by between [] = []
joined_by between (text ∷ []) = text
joined_by between (text ∷ other ∷ others) = text ++ between ++ joined_by between (other ∷ others)

-- a name, where it is meant
abbrev pub named : Bool → List ℕ → List (List ℕ) → List (List ℕ)
named b name names = cond b (name ∷ names) names

-- the names of methods, in byte order
abbrev pub method_names : Methods → List (List ℕ)
method_names m =
    named m.delete (codes "DELETE") (named m.get (codes "GET") (named m.post (codes "POST") (named m.put (codes "PUT") [])))

-- the header line that an answer has beside
abbrev pub extra_line : Extra → List ℕ
extra_line extra.None = []
extra_line extra.Bearer = codes "WWW-Authenticate: Bearer realm=\"hsds\"" ++ crlf
extra_line (extra.Allow methods) = codes "Allow: " ++ joined_by (codes ", ") (method_names methods) ++ crlf

-- the line that tells of the link's end
abbrev pub closing_line : Bool → List ℕ
closing_line true = codes "Connection: close" ++ crlf
closing_line false = []

-- the type and the length of a body
abbrev pub content_lines : ℕ → List ℕ
content_lines size = codes "Content-Type: application/json" ++ crlf ++ codes "Content-Length: " ++ decimal size ++ crlf

-- what an answer has in front of a body of that size
unfoldable pub reply_head : ℕ → Extra → ℕ → Bool → List ℕ
reply_head status extra size close =
    line_of status (phrase_of status)
    ++ cond (status == 204) [] (content_lines size)
    ++ extra_line extra
    ++ closing_line close
    ++ crlf

-- the status line, the headers, each line ended by CR LF, an empty line, and the body; a 204 has neither type, length nor body
unfoldable pub reply_text : ℕ → Extra → List ℕ → Bool → List ℕ
reply_text status extra body close = reply_head status extra (length body) close ++ cond (status == 204) [] body

-- the status of a refusal
abbrev pub fault_status : MessageFault → ℕ
fault_status BadHead = 400
fault_status HeadTooLong = 431
fault_status BadLength = 400
fault_status BodyTooLong = 413
fault_status TransferCoding = 501

-- its reason, as JSON
abbrev pub fault_body : MessageFault → List ℕ
fault_body BadHead = codes "{\"reason\":\"bad-head\"}"
fault_body HeadTooLong = codes "{\"reason\":\"head-too-long\"}"
fault_body BadLength = codes "{\"reason\":\"bad-length\"}"
fault_body BodyTooLong = codes "{\"reason\":\"body-too-long\"}"
fault_body TransferCoding = codes "{\"reason\":\"transfer-coding\"}"

-- the whole answer to bytes that are refused; it ends the link
unfoldable pub fault_reply : MessageFault → List ℕ
fault_reply fault = reply_text (fault_status fault) extra.None (fault_body fault) true

-- the whole answer where memory is wanting
unfoldable pub no_memory_reply : Bool → List ℕ
no_memory_reply close = reply_text 507 extra.None (codes "{\"reason\":\"no-memory\"}") close

-- some first bytes of a text were appended
abbrev pub AppendsFront : Option (List ℕ) → Option (List ℕ) → List ℕ → Type 0
AppendsFront old new bytes = (n : ℕ) × (n ≤ length bytes) × Appends old new (take n bytes)
