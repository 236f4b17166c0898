-- How many bytes answers have.
use Rattle.std.proofs.Common.{◌≡◌, ℕ, ◌+◌, ◌*◌, ◌<◌, ◌≤◌, ◌^◌, ◌==◌, List, [], ◌∷◌, ◌++◌, length, length-append, codes, Bool, true, false, cond, nat_lt, decimal, refl, arith}
use Rattle.std.proofs.lemmas.Fmt.{length-decimal-le}
use Rattle.json.specs.Print.{escape, escape_byte, escape_letter, quoted}
use Rattle.std.specs.Fmt.{digits}
use Rattle.serde_json.specs.Data.{Data, Members, member, no_members, string, number, unsigned, object}
use Rattle.serde_json.specs.Written.{compact_text, members_text}
use Rattle.access_lists.specs.RightWords.{right_name}
use Rattle.access_lists.specs.declared.right.Right.{Right}
use Rattle.access_lists.specs.declared.right.Right.TheVariants.{Create, Read, Update, Delete, ReadAcl, UpdateAcl}
use Rattle.http_wire.specs.Replies.{reply_text, reply_head, line_of, phrase_of, content_lines, extra_line, closing_line, crlf}
use Rattle.http_wire.specs.declared.extra.Extra.{Extra}
use Rattle.http_wire.specs.declared.extra.Extra.TheVariants as extra
use Rattle.http_wire.specs.declared.limits.TheConstants.{ANSWER_ROOM}
use Rattle.object_ops.specs.Refusals.{reason_alone}
use Rattle.object_ops.specs.declared.refusals.Refusal.TheVariants.{DiskFault, JournalFull}
use Rattle.rest_requests.specs.Routes.Methods.{no_methods}
use Rattle.service_core.specs.declared.answers.What.TheVariants.{Denied}
use Rattle.rest_session.specs.Responses.{body_text, refused, said}

-- ---- texts as JSON

either_size : (b : Bool) (x y : List ℕ) (n : ℕ) → length x ≤ n → length y ≤ n → length (cond b x y) ≤ n
either_size true x y n p q = p
either_size false x y n p q = q

-- a byte is written as six at most
byte_size : (x : ℕ) → length (escape_byte x) ≤ 6
unfolding escape_byte
byte_size x =
    either_size (nat_lt 0 (escape_letter x)) _ _ 6 (omega arith) (either_size (nat_lt x 32) _ _ 6 (omega arith) (omega arith))

escape_size : (s : List ℕ) → length (escape s) ≤ 6 * length s
escape_size [] = omega arith
escape_size (x ∷ s) = omega (arith, byte_size x, escape_size s, length-append (escape_byte x) (escape s))

quoted_size : (s : List ℕ) → length (quoted s) ≤ 6 * length s + 2
quoted_size s = omega (arith, escape_size s, length-append (escape s) (34 ∷ []))

-- a key, a value and the rest, with a comma and a colon
member_size : (later : Bool) (k : List ℕ) (d : Data) (ms : Members) (a b c : ℕ) → length (quoted k) ≤ a → length (compact_text d) ≤ b
    → length (members_text true ms) ≤ c → length (members_text later (member k d ms)) ≤ 2 + a + b + c
member_size true k d ms a b c p q r =
    omega (arith, p, q, r, length-append (quoted k) (58 ∷ (compact_text d ++ members_text true ms)), length-append (compact_text d) (members_text true ms))
member_size false k d ms a b c p q r =
    omega (arith, p, q, r, length-append (quoted k) (58 ∷ (compact_text d ++ members_text true ms)), length-append (compact_text d) (members_text true ms))

-- a key of at most 10 bytes
key_size : (k : List ℕ) → length k ≤ 10 → length (quoted k) ≤ 62
key_size k few = omega (arith, few, quoted_size k)

number_size : (n : ℕ) → n < 2 ^ 64 → length (compact_text (number (unsigned n))) ≤ 20
number_size n small = length-decimal-le 20 n (omega arith) (omega (arith, small)) small

-- ---- answers

joined_size : (a b c d e f : List ℕ) → length ((a ++ b ++ c ++ d ++ e) ++ f) ≡ length a + length b + length c + length d + length e + length f
joined_size a b c d e f = simp length-append (omega arith)

lines_size : (a b c d e : List ℕ) → length (a ++ b ++ c ++ d ++ e) ≡ length a + length b + length c + length d + length e
lines_size a b c d e = simp length-append (omega arith)

content_size : (size : ℕ) → size < 10 ^ 5 → length (content_lines size) ≤ 55
content_size size few =
    let first : length (codes "Content-Type: application/json") ≡ 30 = refl in
    let second : length (codes "Content-Length: ") ≡ 16 = refl in
    let last : length crlf ≡ 2 = refl in
    omega (
      arith,
      first,
      second,
      last,
      length-decimal-le 5 size (omega arith) few (omega (arith, few)),
      lines_size (codes "Content-Type: application/json") crlf (codes "Content-Length: ") (decimal size) crlf,
    )

closing_size : (close : Bool) → length (closing_line close) ≤ 19
closing_size true = let e : length (closing_line true) ≡ 19 = refl in omega (arith, e)
closing_size false = omega arith

-- an answer has little beside its body
reply_size : (status : ℕ) (more : Extra) (body : List ℕ) (close : Bool) → length (line_of status (phrase_of status)) ≤ 64 → length (extra_line more) ≤ 64
    → length body < 10 ^ 5 → length (reply_text status more body close) ≤ length body + 204
unfolding reply_text reply_head
reply_size status more body close line beside few =
    let content = either_size (status == 204) [] (content_lines (length body)) 55 (omega arith) (content_size (length body) few) in
    let shown = either_size (status == 204) [] body (length body) (omega arith) (omega arith) in
    let last : length crlf ≡ 2 = refl in
    omega (
      arith,
      line,
      beside,
      content,
      shown,
      last,
      closing_size close,
      joined_size (line_of status (phrase_of status)) (cond (status == 204) [] (content_lines (length body))) (extra_line more) (closing_line close) crlf
          (cond (status == 204) [] body),
    )

line_403 : length (line_of 403 (phrase_of 403)) ≤ 64
unfolding digits
line_403 = let e : length (line_of 403 (phrase_of 403)) ≡ 24 = refl in omega (arith, e)

line_503 : length (line_of 503 (phrase_of 503)) ≤ 64
unfolding digits
line_503 = let e : length (line_of 503 (phrase_of 503)) ≡ 34 = refl in omega (arith, e)

bearer_line : length (extra_line extra.Bearer) ≤ 64
bearer_line = let e : length (extra_line extra.Bearer) ≡ 39 = refl in omega (arith, e)

-- ---- which answers are short

right_size : (right : Right) → length (right_name right) ≤ 10
right_size Create = omega arith
right_size Read = omega arith
right_size Update = omega arith
right_size Delete = omega arith
right_size ReadAcl = omega arith
right_size UpdateAcl = omega arith

denial_body : (path : List ℕ) (right : Right) → length path ≤ 1024 → length (body_text path (Denied right)) ≤ 7000
denial_body path right short =
    let last = member_size true (codes "right") (string (right_name right)) no_members 62 62 1 (key_size (codes "right") (omega arith))
    (key_size (right_name right) (right_size right)) (omega arith) in
    let middle = member_size true (codes "reason") (string (codes "forbidden")) (member (codes "right") (string (right_name right)) no_members) 62 62 127
    (key_size (codes "reason") (omega arith)) (key_size (codes "forbidden") (omega arith)) last in
    let all = member_size false (codes "domain") (string path)
    (member (codes "reason") (string (codes "forbidden")) (member (codes "right") (string (right_name right)) no_members)) 62 6146 253
    (key_size (codes "domain") (omega arith)) (omega (arith, short, quoted_size path)) middle in
    omega (arith, all)

pub denial_size : (path : List ℕ) (right : Right) (close : Bool) → length path ≤ 1024 → length (said path (Denied right) close) ≤ ANSWER_ROOM
denial_size path right close short =
    let body = denial_body path right short in
    omega (arith, body, reply_size 403 extra.Bearer (body_text path (Denied right)) close line_403 bearer_line (omega (arith, body)))

fault_body : length (compact_text (object (reason_alone (codes "disk-fault")))) ≤ 7000
fault_body =
    let all = member_size false (codes "reason") (string (codes "disk-fault")) no_members 62 62 1 (key_size (codes "reason") (omega arith))
    (key_size (codes "disk-fault") (omega arith)) (omega arith) in
    omega (arith, all)

pub fault_size : (close : Bool) → length (refused [] DiskFault no_methods close) ≤ ANSWER_ROOM
fault_size close =
    omega (arith, fault_body, reply_size 503 extra.None (compact_text (object (reason_alone (codes "disk-fault")))) close line_503 (omega arith) (omega (arith, fault_body)))

module _ (end need room : ℕ) (end_fits : end < 2 ^ 64) (need_fits : need < 2 ^ 64) (room_fits : room < 2 ^ 64) where
  full_tree : Data
  full_tree =
      object (member (codes "end") (number (unsigned end)) (member (codes "need") (number (unsigned need))
      (member (codes "reason") (string (codes "journal-full")) (member (codes "room") (number (unsigned room)) no_members))))

  full_body : length (compact_text full_tree) ≤ 7000
  unfolding full_tree
  full_body =
      let one = member (codes "room") (number (unsigned room)) no_members in
      let two = member (codes "reason") (string (codes "journal-full")) (member (codes "room") (number (unsigned room)) no_members) in
      let three = member (codes "need") (number (unsigned need)) (member (codes "reason") (string (codes "journal-full"))
      (member (codes "room") (number (unsigned room)) no_members)) in
      let last = member_size true (codes "room") (number (unsigned room)) no_members 62 20 1 (key_size (codes "room") (omega arith)) (number_size room room_fits) (omega arith) in
      let third = member_size true (codes "reason") (string (codes "journal-full")) one 62 74 85 (key_size (codes "reason") (omega arith))
      (quoted_size (codes "journal-full")) last in
      let second = member_size true (codes "need") (number (unsigned need)) two 62 20 223 (key_size (codes "need") (omega arith)) (number_size need need_fits) third in
      let all = member_size false (codes "end") (number (unsigned end)) three 62 20 307 (key_size (codes "end") (omega arith)) (number_size end end_fits) second in
      omega (arith, all)

  pub full_size : (close : Bool) → length (refused [] (JournalFull end need room) no_methods close) ≤ ANSWER_ROOM
  unfolding full_tree
  full_size close =
      omega (arith, full_body, reply_size 503 extra.None (compact_text full_tree) close line_503 (omega arith) (omega (arith, full_body)))
