-- How many bytes messages have.
use Rattle.std.proofs.Common.{◌≡◌, ℕ, ◌≤◌, List, length, map, codes, length-append, Bool, true, false, nat_le, if◌then◌else◌, Option, None, Some, Result, Ok, Err, refl, arith}
use Rattle.std.proofs.lemmas.Bool.Decides.{nat_tests}
use Rattle.std.specs.Str.Parse.{digits_value}
use Rattle.httparse.specs.Grammar.{RequestHead, IsRequestHead, LineEnd, crlf, lf, print_request, print_end}
use Rattle.httparse.specs.Spans.{name_and_value}
use Rattle.http_wire.specs.Heads.{values_of}
use Rattle.http_wire.specs.Messages.{RequestMessage, IsSpelled, spelling, is_number, only_one, length_in, length_given, uncoded, then_with}
use Rattle.http_wire.specs.declared.limits.TheConstants.{BODY_LIMIT}
use Rattle.http_wire.specs.declared.message_fault.MessageFault.{MessageFault}
use Rattle.http_wire.specs.declared.message_fault.MessageFault.TheVariants.{BadLength, BodyTooLong, TransferCoding}

end_size : (end : LineEnd) → 1 ≤ length (print_end end)
end_size crlf = omega arith
end_size lf = omega arith

-- a method and a target of one byte each, two spaces, the version, and two ends of lines
head_size : (h : RequestHead) → IsRequestHead h → 14 ≤ length (print_request h)
unfolding print_request
head_size h is =
    let method = is.method.0 in
    let target = is.target.0 in
    let line = end_size h.line_end in
    let last = end_size h.last in
    simp length-append (omega (arith, method, target, line, last))

pub spelling_size : (m : RequestMessage) → IsSpelled m → 14 ≤ length (spelling m)
spelling_size m is =
    let head = head_size m.head is.head in
    omega (arith, head, length-append (print_request m.head) m.body)

-- a length that is read is within the limit
length_bound : (text : List ℕ) (n : ℕ) → length_in text ≡ Ok n → n ≤ BODY_LIMIT
length_bound text n e = by_tests (is_number text) (nat_le (digits_value 10 text) BODY_LIMIT) refl e
  where
    by_tests : (digits small : Bool) → nat_le (digits_value 10 text) BODY_LIMIT ≡ small
        → (if digits then (if small then Ok (digits_value 10 text) else Err BodyTooLong) else Err BadLength) ≡ Ok n → n ≤ BODY_LIMIT
    by_tests true true fits e = let same : digits_value 10 text ≡ n = cc in grind (arith, nat_tests)
    by_tests true false fits e = absurd (let no : Err BodyTooLong ≡ Ok n = e in cc)
    by_tests false small fits e = absurd (let no : Err BadLength ≡ Ok n = e in cc)

given_bound : (value : Option (List ℕ)) (n : ℕ) → length_given value ≡ Ok n → n ≤ BODY_LIMIT
given_bound None n e = let same : 0 ≡ n = cc in omega (arith, same)
given_bound (Some text) n e = length_bound text n e

uncoded_same : (fields : List (List ℕ × List ℕ)) (size n : ℕ) → uncoded fields size ≡ Ok n → size ≡ n
uncoded_same fields size n e = by_test _ e
  where
    by_test : (coded : Bool) → (if coded then Err TransferCoding else Ok size) ≡ Ok n → size ≡ n
    by_test true e = absurd (let no : Err TransferCoding ≡ Ok n = e in cc)
    by_test false e = cc

size_bound : (fields : List (List ℕ × List ℕ)) (value : Result (Option (List ℕ)) MessageFault) (n : ℕ)
    → then_with (uncoded fields) (then_with length_given value) ≡ Ok n → n ≤ BODY_LIMIT
size_bound fields (Err fault) n e = absurd (let no : Err fault ≡ Ok n = e in cc)
size_bound fields (Ok value) n e = by_size (length_given value) refl e
  where
    by_size : (size : Result ℕ MessageFault) → length_given value ≡ size → then_with (uncoded fields) size ≡ Ok n → n ≤ BODY_LIMIT
    by_size (Ok k) given e = omega (arith, given_bound value k given, uncoded_same fields k n e)
    by_size (Err fault) given e = absurd (let no : Err fault ≡ Ok n = e in cc)

pub body_bound : (m : RequestMessage) → IsSpelled m → length m.body ≤ BODY_LIMIT
body_bound m is =
    let fields = map name_and_value m.head.fields in
    size_bound fields (only_one (values_of (codes "Content-Length") fields)) (length m.body) is.size
