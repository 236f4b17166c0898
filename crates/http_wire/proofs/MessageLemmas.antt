-- Messages that are taken from an input.
use Rattle.std.proofs.Common.{◌≡◌, ℕ, ◌+◌, ◌-◌, ◌<◌, ◌≤◌, min, length-take, length-drop, List, [], ◌++◌, append-nil, length, length-append, take, drop, Option, None, Some, Ok, Err, refl, sym, ap, ◌∙◌, subst, inl, inr, append_assoc, arith}
use Rattle.std.proofs.Math.Seq.{take-append_seam, drop-append_seam}
use Rattle.std.proofs.lemmas.List.{take-append-drop, drop-drop, drop_all}
use Rattle.std.specs.Io.KnownBytes.{Keeps, Consumes, prepend_known}
use Rattle.httparse.specs.Grammar.{RequestHead, IsRequestHead, ReadsRequest, HasNoRequest, print_request}
use Rattle.httparse.proofs.GrammarLemmas.{request_unique}
use Rattle.http_wire.specs.Heads.{IsSmall, IsUnfinished}
use Rattle.http_wire.specs.Messages.{RequestMessage, IsSpelled, spelling, HasNoMessage, HasNoBadSize, StopsInBody, StopsInside, body_size, IsSizeFault, IsRefusedFor}
use Rattle.http_wire.specs.declared.message_fault.MessageFault.{MessageFault}
use Rattle.http_wire.specs.declared.message_fault.MessageFault.TheVariants.{BadHead, HeadTooLong, BadLength, BodyTooLong, TransferCoding}
use Rattle.httparse.specs.declared.spans.HeaderSpan.{HeaderSpan}
use Rattle.http_wire.specs.declared.taken.Taken.{Taken}
use Rattle.http_wire.specs.declared.taken.Taken.TheVariants as taken
use Rattle.http_wire.specs.Taken.{IsTaken, IsHeldAfter, LeavesPart, waiting, head_bytes}
use Rattle.http_wire.specs.declared.inbox.Inbox.{Inbox}
use Rattle.http_wire.proofs.Pending.{used}
use Rattle.http_wire.proofs.Inputs.{some_bytes}
use Rattle.edge_traits.proofs.Pieces.{rest_slice}
use Rattle.http_wire.proofs.Windows.{known_less}
use Rattle.std.proofs.KnownBytes.{Keeps-refl, Keeps-trans}

-- without a head there is no message
pub no_message : (bytes : List ℕ) → HasNoRequest bytes → HasNoMessage bytes
no_message bytes none m rest spelled e = none m.head (m.body ++ rest) (spelled.head, e ∙ append_assoc (print_request m.head) m.body rest)

-- without a head no size is bad
pub no_bad_size : (bytes : List ℕ) → HasNoRequest bytes → HasNoBadSize bytes
no_bad_size bytes none fault bad = none bad.0 bad.1 bad.2

-- the bytes stop inside a head
pub in_head : (bytes : List ℕ) → 0 < length bytes → IsUnfinished bytes → StopsInside bytes
in_head bytes some is = inl (is.0, is.1, is.2 some)

-- or inside a body
pub in_body : (bytes front got : List ℕ) (h : RequestHead) (size : ℕ) → IsRequestHead h → IsSmall h → bytes ≡ print_request h ++ front → body_size h ≡ Ok size
    → length (front ++ got) < size → StopsInside (bytes ++ got)
in_body bytes front got h size is small e sized short =
    inr (h, front ++ got, size, (is, ap (λ l. l ++ got) e ∙ append_assoc (print_request h) front got), small, sized, short)

-- a head that says a size at the front says no bad one
pub good_size : (bytes front : List ℕ) (h : RequestHead) (size : ℕ) → IsRequestHead h → bytes ≡ print_request h ++ front → body_size h ≡ Ok size
    → HasNoBadSize bytes
good_size bytes front h size is e sized fault bad =
    let same = (request_unique bytes bad.0 h bad.1 front bad.2 (is, e)).0 in
    let two : Ok size ≡ Err fault = sym sized ∙ ap body_size (sym same) ∙ bad.4 in
    cc

-- a head with too few bytes behind it is no message
pub short_body : (bytes front got : List ℕ) (h : RequestHead) (size : ℕ) → IsRequestHead h → bytes ≡ print_request h ++ front → body_size h ≡ Ok size
    → length (front ++ got) < size → HasNoMessage (bytes ++ got)
short_body bytes front got h size is e sized short m rest spelled same =
    let both = request_unique (bytes ++ got) m.head h (m.body ++ rest) (front ++ got)
    (spelled.head, same ∙ append_assoc (print_request m.head) m.body rest) (is, ap (λ l. l ++ got) e ∙ append_assoc (print_request h) front got) in
    let sizes : Ok (length m.body) ≡ Ok size = sym spelled.size ∙ ap body_size both.0 ∙ sized in
    let size_is : length m.body ≡ size = cc in
    let all = ap length both.1 in
    let first = length-append m.body rest in
    omega (arith, size_is, all, first, short)

-- a whole message stood in the buffer
pub taken_here : (left : Option (List ℕ)) (unused : List ℕ) (h : RequestHead) (len size : ℕ) → unused ≡ print_request h ++ drop len unused
    → Consumes (prepend_known unused left) (prepend_known (drop (len + size) unused) left) (print_request h ++ take size (drop len unused))
taken_here left unused h len size e =
    known_less left unused (drop (len + size) unused) (print_request h ++ take size (drop len unused))
    (e ∙ ap (λ l. print_request h ++ l) (sym (take-append-drop size (drop len unused)) ∙ ap (λ l. take size (drop len unused) ++ l) (drop-drop size len unused))
    ∙ sym (append_assoc (print_request h) (take size (drop len unused)) (drop (len + size) unused)))

-- the buffer held the front of a message, and the source gave the rest
pub taken_behind : (a b : Option (List ℕ)) (unused front got body : List ℕ) (h : RequestHead) → unused ≡ print_request h ++ front → Consumes a b got
    → body ≡ front ++ got → Consumes (prepend_known unused a) (prepend_known (drop (length unused) unused) b) (print_request h ++ body)
taken_behind None b unused front got body h e p is = tt
taken_behind (Some x) None unused front got body h e p is = absurd p
taken_behind (Some x) (Some y) unused front got body h e p is =
    ap (λ l. l ++ x) e ∙ ap (λ l. (print_request h ++ front) ++ l) p
    ∙ append_assoc (print_request h) front (got ++ y) ∙ ap (λ l. print_request h ++ l) (sym (append_assoc front got y) ∙ ap (λ l. l ++ y) (sym is))
    ∙ sym (append_assoc (print_request h) body y)
    ∙ ap (λ l. (print_request h ++ body) ++ (l ++ y)) (sym (drop_all (length unused) unused (omega arith)))

-- what was read is left over
pub rest_behind : (a b : Option (List ℕ)) (unused got : List ℕ) → Consumes a b got → Consumes (prepend_known unused a) b (unused ++ got)
rest_behind None b unused got p = tt
rest_behind (Some x) None unused got p = absurd p
rest_behind (Some x) (Some y) unused got p = ap (λ l. unused ++ l) p ∙ sym (append_assoc unused got y)

pub rest_kept : (a b : Option (List ℕ)) (unused : List ℕ) → Keeps a b → Consumes (prepend_known unused a) b unused
rest_kept None b unused p = tt
rest_kept (Some x) None unused p = absurd p
rest_kept (Some x) (Some y) unused p = ap (λ l. unused ++ l) (sym p)

pub refused_for_size : (bytes : List ℕ) (h : RequestHead) (rest : List ℕ) (refused : MessageFault) → IsSizeFault refused → ReadsRequest bytes h rest → IsSmall h
    → body_size h ≡ Err refused → IsRefusedFor bytes refused
refused_for_size bytes h rest BadHead kind reads small e = absurd kind
refused_for_size bytes h rest HeadTooLong kind reads small e = absurd kind
refused_for_size bytes h rest BadLength kind reads small e = (h, rest, reads, small, e)
refused_for_size bytes h rest BodyTooLong kind reads small e = (h, rest, reads, small, e)
refused_for_size bytes h rest TransferCoding kind reads small e = (h, rest, reads, small, e)

-- a call kept all that is pending, and then one took from it
pub looked : (all old pending left : Option (List ℕ)) (bytes : List ℕ) (headers : List HeaderSpan) (t : Taken) → Keeps all old
    → IsTaken old bytes headers pending left t → IsTaken all bytes headers pending left t
looked all old pending left bytes headers (taken.Message spans body) kept is = (is.0, (is.1.0, is.1.1, is.1.2, used all old pending _ kept is.1.3))
looked all old pending left bytes headers taken.End kept is = (used all old left [] kept is.0, is.1)
looked all old pending left bytes headers (taken.Cut n) kept is = (is.0, used all old left _ kept is.1, is.2, is.3, is.4, is.5, is.6, is.7)
looked all old pending left bytes headers (taken.Refused r) kept is = (is.0, used all old left _ kept is.1, is.2, is.3)
looked all old pending left bytes headers (taken.Skipped close) kept is = (is.0, is.1, used all old pending _ kept is.2, is.3)
looked all old pending left bytes headers taken.Fault kept is = (is.0, used all old left _ kept is.1, is.2, is.3)

-- what stands behind the head, as a slice
front_is : (shown unused : List ℕ) (len : ℕ) → shown ≡ unused → take (length shown - len) (drop len shown) ≡ drop len unused
front_is shown unused len e = rest_slice len shown ∙ ap (drop len) e

pub whole_here : (left : Option (List ℕ)) (shown unused body : List ℕ) (h : RequestHead) (len size : ℕ) → shown ≡ unused
    → body ≡ take size (take (length shown - len) (drop len shown)) → size ≤ length (take (length shown - len) (drop len shown))
    → IsRequestHead h → IsSmall h → Ok size ≡ body_size h → unused ≡ print_request h ++ drop len unused
    → IsSpelled (record { head = h; body = body }) × Consumes (prepend_known unused left) (prepend_known (drop (len + size) unused) left) (print_request h ++ body)
whole_here left shown unused body h len size e is within whole small sized reads =
    let body_is : body ≡ take size (drop len unused) = is ∙ ap (take size) (front_is shown unused len e) in
    let length_is : length body ≡ size = ap length is ∙ length-take size (take (length shown - len) (drop len shown)) ∙ (let k : min size (length (take (length shown - len) (drop len shown))) ≡ size = omega (arith, within) in k) in (
      record { head = whole; small = small; size = sym sized ∙ ap Ok (sym length_is) },
      subst (λ l. Consumes (prepend_known unused left) (prepend_known (drop (len + size) unused) left) (print_request h ++ l)) (sym body_is) (taken_here left unused h len size reads),
    )

pub whole_behind : (a b : Option (List ℕ)) (shown unused body : List ℕ) (h : RequestHead) (len size : ℕ) → shown ≡ unused
    → (got : List ℕ) → Consumes a b got → body ≡ take (length shown - len) (drop len shown) ++ got → length body ≡ size
    → IsRequestHead h → IsSmall h → Ok size ≡ body_size h → unused ≡ print_request h ++ drop len unused
    → IsSpelled (record { head = h; body = body }) × Consumes (prepend_known unused a) (prepend_known (drop (length shown) unused) b) (print_request h ++ body)
whole_behind a b shown unused body h len size e got gave is length_is whole small sized reads = (
  record { head = whole; small = small; size = sym sized ∙ ap Ok (sym length_is) },
  subst (λ (k : ℕ). Consumes (prepend_known unused a) (prepend_known (drop k unused) b) (print_request h ++ body)) (sym (ap length e))
      (taken_behind a b unused (drop len unused) got body h reads gave (is ∙ ap (λ l. l ++ got) (front_is shown unused len e))),
)

-- a body that did not come whole
pub part_behind : (a b : Option (List ℕ)) (shown unused : List ℕ) (h : RequestHead) (len size : ℕ) → shown ≡ unused
    → (got : List ℕ) → Consumes a b got → length (take (length shown - len) (drop len shown) ++ got) < size
    → IsRequestHead h → IsSmall h → Ok size ≡ body_size h → unused ≡ print_request h ++ drop len unused → len ≡ length (print_request h)
    → Consumes (prepend_known unused a) b (unused ++ got) × HasNoMessage (unused ++ got)
    × (length (unused ++ got) ≡ len + length (take (length shown - len) (drop len shown) ++ got)) × (0 < len) × HasNoBadSize (unused ++ got)
    × StopsInside (unused ++ got)
part_behind a b shown unused h len size e got gave short whole small sized reads len_is =
    let front : take (length shown - len) (drop len shown) ++ got ≡ drop len unused ++ got = ap (λ l. l ++ got) (front_is shown unused len e) in
    let all : length unused ≡ length (print_request h) + length (drop len unused) = ap length reads ∙ length-append (print_request h) (drop len unused) in (
      rest_behind a b unused got gave,
      short_body unused (drop len unused) got h size whole reads (sym sized) (subst (λ (l : List ℕ). length l < size) front short),
      (let f = ap length front in let p = length-append unused got in let q = length-append (drop len unused) got in omega (arith, f, p, q, all, len_is)),
      (let s = some_bytes h in omega (arith, s, len_is)),
      good_size (unused ++ got) (drop len unused ++ got) h size whole
          (ap (λ l. l ++ got) reads ∙ append_assoc (print_request h) (drop len unused) got) (sym sized),
      in_body unused (drop len unused) got h size whole small reads (sym sized) (subst (λ (l : List ℕ). length l < size) front short),
    )

-- the same, where the first bytes were used before
pub kept_skipped : (first shown : List ℕ) (left now : Option (List ℕ)) → shown ≡ first → Keeps (prepend_known shown left) now → Keeps (prepend_known first left) now
kept_skipped first shown left now e kept = subst (λ (l : List ℕ). Keeps (prepend_known l left) now) e kept

same_message : (a b : RequestMessage) → a.head ≡ b.head → a.body ≡ b.body → a ≡ b
same_message a b p q = λ i. record { head = p i; body = q i }

-- bytes begin with one message at most
pub message_unique : (a b : RequestMessage) (rest others : List ℕ) → IsSpelled a → IsSpelled b → spelling a ++ rest ≡ spelling b ++ others
    → (a ≡ b) × (rest ≡ others)
message_unique a b rest others p q e =
    let both = request_unique (spelling a ++ rest) a.head b.head (a.body ++ rest) (b.body ++ others)
    (p.head, append_assoc (print_request a.head) a.body rest) (q.head, e ∙ append_assoc (print_request b.head) b.body others) in
    let sizes : Ok (length a.body) ≡ Ok (length b.body) = sym p.size ∙ ap body_size both.0 ∙ q.size in
    let same : length a.body ≡ length b.body = cc in
    let body : a.body ≡ b.body =
    sym (take-append_seam a.body rest) ∙ ap (take (length a.body)) both.1 ∙ ap (λ (k : ℕ). take k (b.body ++ others)) same ∙ take-append_seam b.body others in (
      same_message a b both.0 body,
      sym (drop-append_seam a.body rest) ∙ ap (drop (length a.body)) both.1 ∙ ap (λ (k : ℕ). drop k (b.body ++ others)) same ∙ drop-append_seam b.body others,
    )

-- the buffer held the front of a message whose rest was dropped
pub skipped_behind : (a b : Option (List ℕ)) (unused nothing got : List ℕ) (h : RequestHead) (len size : ℕ) → nothing ≡ [] → Consumes a b got
    → length got ≡ size - (length unused - len) → length unused - len < size → IsRequestHead h → IsSmall h → Ok size ≡ body_size h
    → unused ≡ print_request h ++ drop len unused
    → IsSpelled (record { head = h; body = drop len unused ++ got })
    × Consumes (prepend_known unused a) (prepend_known nothing b) (print_request h ++ (drop len unused ++ got))
skipped_behind a b unused nothing got h len size none gave count behind whole small sized reads =
    let length_is : length (drop len unused ++ got) ≡ size =
    omega (arith, length-append (drop len unused) got, length-drop len unused, count, behind) in (
      record { head = whole; small = small; size = sym sized ∙ ap Ok (sym length_is) },
      subst (λ l. Consumes (prepend_known unused a) (prepend_known l b) (print_request h ++ (drop len unused ++ got)))
          (drop_all (length unused) unused (omega arith) ∙ sym none)
          (taken_behind a b unused (drop len unused) got (drop len unused ++ got) h reads gave refl),
    )

-- the front of a message, and some of its rest
pub short_behind : (a b : Option (List ℕ)) (unused got : List ℕ) (h : RequestHead) (len size : ℕ) → Consumes a b got
    → length got < size - (length unused - len) → IsRequestHead h → IsSmall h → Ok size ≡ body_size h → unused ≡ print_request h ++ drop len unused
    → Consumes (prepend_known unused a) b (unused ++ got) × HasNoMessage (unused ++ got) × HasNoBadSize (unused ++ got)
    × (length (unused ++ got) ≡ length unused + length got) × (0 < length unused) × StopsInside (unused ++ got)
short_behind a b unused got h len size gave short whole small sized reads = (
  rest_behind a b unused got gave,
  short_body unused (drop len unused) got h size whole reads (sym sized)
      (omega (arith, length-append (drop len unused) got, length-drop len unused, short)),
  good_size (unused ++ got) (drop len unused ++ got) h size whole
      (ap (λ l. l ++ got) reads ∙ append_assoc (print_request h) (drop len unused) got) (sym sized),
  length-append unused got,
  (let s = some_bytes h in let l = ap length reads in let k = length-append (print_request h) (drop len unused) in omega (arith, s, l, k)),
  in_body unused (drop len unused) got h size whole small reads (sym sized)
      (omega (arith, length-append (drop len unused) got, length-drop len unused, short)),
)

-- where a whole message stands at the front, all of its body is there
pub body_is_here : (unused : List ℕ) (h : RequestHead) (m : RequestMessage) (rest : List ℕ) (len size : ℕ) → IsRequestHead h → Ok size ≡ body_size h
    → unused ≡ print_request h ++ drop len unused → IsSpelled m → unused ≡ spelling m ++ rest → size ≤ length (drop len unused)
body_is_here unused h m rest len size whole sized reads spelled e =
    let both = request_unique unused h m.head (drop len unused) (m.body ++ rest) (whole, reads)
    (spelled.head, e ∙ append_assoc (print_request m.head) m.body rest) in
    let sizes : Ok size ≡ Ok (length m.body) = sized ∙ ap body_size both.0 ∙ spelled.size in
    let same : size ≡ length m.body = cc in
    omega (arith, same, ap length both.1, length-append m.body rest)

-- so its body isn't read
pub not_behind : (shown unused : List ℕ) (h : RequestHead) (m : RequestMessage) (rest : List ℕ) (len size : ℕ) → shown ≡ unused
    → length (take (length shown - len) (drop len shown)) < size → IsRequestHead h → Ok size ≡ body_size h → unused ≡ print_request h ++ drop len unused
    → IsSpelled m → unused ≡ spelling m ++ rest → ⊥
not_behind shown unused h m rest len size e short whole sized reads spelled is =
    let here = body_is_here unused h m rest len size whole sized reads spelled is in
    let same = ap length (front_is shown unused len e) in
    omega (arith, here, same, short)

-- the head of a message at the front
pub head_at_front : (bytes : List ℕ) (m : RequestMessage) (rest : List ℕ) → IsSpelled m → bytes ≡ spelling m ++ rest → ReadsRequest bytes m.head (m.body ++ rest)
head_at_front bytes m rest spelled e = (spelled.head, e ∙ append_assoc (print_request m.head) m.body rest)

-- the bytes stop inside a body, of which some stand in the buffer and some came behind
pub stops_behind : (unused got : List ℕ) (h : RequestHead) (len size : ℕ) → IsRequestHead h → IsSmall h → Ok size ≡ body_size h
    → unused ≡ print_request h ++ drop len unused → length (drop len unused ++ got) < size → StopsInBody (unused ++ got)
stops_behind unused got h len size is small sized reads short =
    (h, drop len unused ++ got, size, (is, ap (λ l. l ++ got) reads ∙ append_assoc (print_request h) (drop len unused) got), small, sym sized, short)

-- what a slice of the bytes behind the head says of them
pub short_here : (shown unused got : List ℕ) (len size : ℕ) → shown ≡ unused → length (take (length shown - len) (drop len shown) ++ got) < size
    → length (drop len unused ++ got) < size
short_here shown unused got len size e short =
    subst (λ (l : List ℕ). length l < size) (ap (λ l. l ++ got) (front_is shown unused len e)) short

-- ---- what waits behind a message that didn't come whole

-- nothing waits: all that was there was dropped, and what came behind it
pub leaves_nothing : (inbox : Inbox) (a b : Option (List ℕ)) (bytes got : List ℕ) → waiting inbox ≡ [] → waiting inbox ≡ head_bytes inbox → Consumes a b got
    → StopsInBody (bytes ++ got) → LeavesPart (prepend_known bytes a) b inbox (bytes ++ got)
leaves_nothing inbox a b bytes got none same gave stops =
    let front : waiting inbox ++ (bytes ++ got) ≡ bytes ++ got = ap (λ l. l ++ (bytes ++ got)) none in record {
      came = subst (λ l. Consumes (prepend_known bytes a) b l) (sym front) (rest_behind a b bytes got gave);
      why = inr (subst (λ l. StopsInBody l) (sym front) stops);
      unused = same;
    }

-- all that was there waits: what came behind it was dropped
pub leaves_front : (inbox : Inbox) (a b : Option (List ℕ)) (bytes got : List ℕ) → waiting inbox ≡ bytes → waiting inbox ≡ head_bytes inbox → Consumes a b got
    → StopsInBody (bytes ++ got) → LeavesPart (prepend_known bytes a) b inbox got
leaves_front inbox a b bytes got is same gave stops = record {
  came = subst (λ l. Consumes (prepend_known bytes a) b (l ++ got)) (sym is) (rest_behind a b bytes got gave);
  why = inr (subst (λ l. StopsInBody (l ++ got)) (sym is) stops);
  unused = same;
}

-- all that came waits
pub leaves_all : (inbox : Inbox) (all left : Option (List ℕ)) → waiting inbox ≡ head_bytes inbox → Keeps all (prepend_known (waiting inbox) left)
    → LeavesPart all left inbox []
leaves_all inbox all left same kept = record {
  came = subst (λ l. Consumes all left l) (sym (append-nil (waiting inbox))) (used all _ left (waiting inbox) kept (rest_kept left left (waiting inbox) (Keeps-refl left)));
  why = inl refl;
  unused = same;
}

pub refused_waits : (left : Option (List ℕ)) (bytes waits : List ℕ) (refused : MessageFault) → waits ≡ bytes → IsRefusedFor bytes refused
    → Keeps (prepend_known bytes left) (prepend_known waits left) × IsRefusedFor waits refused
refused_waits left bytes waits refused is fault = (
  subst (λ l. Keeps (prepend_known bytes left) (prepend_known l left)) (sym is) (Keeps-refl (prepend_known bytes left)),
  subst (λ l. IsRefusedFor l refused) (sym is) fault,
)

part_kept : (all old left : Option (List ℕ)) (inbox : Inbox) (dropped : List ℕ) → Keeps all old → LeavesPart old left inbox dropped → LeavesPart all left inbox dropped
part_kept all old left inbox dropped kept part = record { came = used all old left _ kept part.came; why = part.why; unused = part.unused }

-- a call kept all that is pending, and then one left this of it
pub held_on : (all old left : Option (List ℕ)) (inbox : Inbox) (t : Taken) → Keeps all old → IsHeldAfter old left inbox t → IsHeldAfter all left inbox t
held_on all old left inbox (taken.Message spans body) kept is = tt
held_on all old left inbox taken.End kept is = is
held_on all old left inbox (taken.Cut n) kept is = (is.0, part_kept all old left inbox is.0 kept is.1, is.2)
held_on all old left inbox (taken.Refused r) kept is = (Keeps-trans all old _ kept is.0, is.1)
held_on all old left inbox (taken.Skipped close) kept is = tt
held_on all old left inbox taken.Fault kept is = (is.0, part_kept all old left inbox is.0 kept is.1)
