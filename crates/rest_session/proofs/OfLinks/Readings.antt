-- A stream is read in one way.
use Rattle.std.proofs.Common.{◌≡◌, ℕ, List, [], ◌∷◌, ◌++◌, ◌+◌, ◌<◌, ◌≤◌, length, length-append, arith, refl, sym, ap, ◌∙◌, append_assoc, append-nil, Some, Ok, Err, true, false, ◌⊎◌, inl, inr}
use Rattle.httparse.specs.Grammar.{print_request}
use Rattle.httparse.proofs.GrammarLemmas.{request_unique, ReadsRequest-append}
use Rattle.http_wire.specs.Messages.{RequestMessage, IsSpelled, spelling, closes, HasNoMessage, IsRefusedFor, HasBadSize, body_size}
use Rattle.http_wire.specs.declared.message_fault.MessageFault.{MessageFault}
use Rattle.http_wire.specs.declared.message_fault.MessageFault.TheVariants.{BadHead, HeadTooLong, BadLength, BodyTooLong, TransferCoding}
use Rattle.http_wire.proofs.Inputs.{some_bytes}
use Rattle.http_wire.proofs.MessageLemmas.{message_unique}
use Rattle.rest_session.specs.declared.links.end.TheConstants.{BUDGET}
use Rattle.rest_session.specs.declared.links.end.LinkEnd.{LinkEnd}
use Rattle.rest_session.specs.declared.links.end.LinkEnd.TheVariants.{Closed, Cut, Ended, ReadFault, WriteFault, Budget, NoMemory}
use Rattle.rest_session.specs.Links.Links.{Step, AllSpelled, AllOpen, spellings, IsEnd, IsCounted, IsTranscript, IsPeaceful, IsUncut, IsOfBytes}

-- two readings of one stream are one
pub same_reading : (ms ns : List RequestMessage) (x y : List ℕ) → AllOpen ms → AllOpen ns → HasNoMessage x → HasNoMessage y
    → spellings ms ++ x ≡ spellings ns ++ y → (ms ≡ ns) × (x ≡ y)
same_reading [] [] x y a b p q e = (refl, e)
same_reading [] (n ∷ ns) x y a b p q e = absurd (p n (spellings ns ++ y) b.0 (e ∙ append_assoc (spelling n) (spellings ns) y))
same_reading (m ∷ ms) [] x y a b p q e = absurd (q m (spellings ms ++ x) a.0 (sym e ∙ append_assoc (spelling m) (spellings ms) x))
same_reading (m ∷ ms) (n ∷ ns) x y a b p q e =
    let both = message_unique m n (spellings ms ++ x) (spellings ns ++ y) a.0 b.0
    (sym (append_assoc (spelling m) (spellings ms) x) ∙ e ∙ append_assoc (spelling n) (spellings ns) y) in
    let more = same_reading ms ns x y a.2 b.2 p q both.1 in
    (λ i. both.0 i ∷ more.0 i, more.1)

pub none_empty : (m : RequestMessage) (rest : List ℕ) → [] ≡ spelling m ++ rest → ⊥
none_empty m rest e =
    let l = ap length e in let p = length-append (spelling m) rest in let q = length-append (print_request m.head) m.body in let s = some_bytes m.head in
    omega (arith, l, p, q, s)

-- a reading of some of a stream reads its first messages
pub first_messages : (ms ns : List RequestMessage) (z : List ℕ) → AllSpelled ms → AllOpen ns → spellings ms ≡ spellings ns ++ z
    → (more : List RequestMessage) × AllSpelled more × (length ms ≡ length ns + length more) × (z ≡ spellings more)
first_messages ms [] z a b e = (ms, a, omega arith, sym e)
first_messages [] (n ∷ ns) z a b e = absurd (none_empty n (spellings ns ++ z) (e ∙ append_assoc (spelling n) (spellings ns) z))
first_messages (m ∷ ms) (n ∷ ns) z a b e =
    let both = message_unique m n (spellings ms) (spellings ns ++ z) a.0 b.0 (e ∙ append_assoc (spelling n) (spellings ns) z) in
    let w = first_messages ms ns z a.1 b.2 both.1 in
    (w.0, w.1, omega (arith, w.2), w.3)

-- whole messages are no bytes that no message begins with
not_cut : (more : List RequestMessage) (rest left : List ℕ) → AllSpelled more → rest ++ left ≡ spellings more → left ≡ [] → 0 < length rest → HasNoMessage rest → ⊥
not_cut [] rest left a e none some nothing = let l = ap length e in let k = length-append rest left in omega (arith, l, k, some)
not_cut (m ∷ more) rest left a e none some nothing = nothing m (spellings more) a.0 (sym (append-nil rest) ∙ ap (λ l. rest ++ l) (sym none) ∙ e)

bad_size : (m : RequestMessage) (behind rest left : List ℕ) (fault : MessageFault) → IsSpelled m → rest ++ left ≡ spelling m ++ behind → HasBadSize rest fault → ⊥
bad_size m behind rest left fault spelled e w =
    let both = request_unique (rest ++ left) w.0 m.head (w.1 ++ left) (m.body ++ behind) (ReadsRequest-append rest w.0 w.1 left w.2)
    (spelled.head, e ∙ append_assoc (print_request m.head) m.body behind) in
    let no : Err fault ≡ Ok (length m.body) = sym w.4 ∙ ap body_size both.0 ∙ spelled.size in cc

-- nor are they refused
pub refused_first : (m : RequestMessage) (behind rest left : List ℕ) (fault : MessageFault) → IsSpelled m → rest ++ left ≡ spelling m ++ behind → IsRefusedFor rest fault → ⊥
refused_first m behind rest left BadHead spelled e w = w.1 left m.head (m.body ++ behind) (spelled.head, e ∙ append_assoc (print_request m.head) m.body behind)
refused_first m behind rest left HeadTooLong spelled e w = w.1 left m.head (m.body ++ behind) (spelled.head, e ∙ append_assoc (print_request m.head) m.body behind) spelled.small
refused_first m behind rest left BadLength spelled e w = bad_size m behind rest left BadLength spelled e w
refused_first m behind rest left BodyTooLong spelled e w = bad_size m behind rest left BodyTooLong spelled e w
refused_first m behind rest left TransferCoding spelled e w = bad_size m behind rest left TransferCoding spelled e w

pub some_refused : (rest : List ℕ) (fault : MessageFault) → IsRefusedFor rest fault → 0 < length rest
some_refused rest BadHead w = w.0
some_refused rest HeadTooLong w = w.0
some_refused rest BadLength w = let s = some_bytes w.0 in let e = ap length w.2.1 in let p = length-append (print_request w.0) w.1 in omega (arith, s, e, p)
some_refused rest BodyTooLong w = let s = some_bytes w.0 in let e = ap length w.2.1 in let p = length-append (print_request w.0) w.1 in omega (arith, s, e, p)
some_refused rest TransferCoding w = let s = some_bytes w.0 in let e = ap length w.2.1 in let p = length-append (print_request w.0) w.1 in omega (arith, s, e, p)

not_refused : (more : List RequestMessage) (rest left : List ℕ) (fault : MessageFault) → AllSpelled more → rest ++ left ≡ spellings more → IsRefusedFor rest fault → ⊥
not_refused [] rest left fault a e w = let s = some_refused rest fault w in let l = ap length e in let n = length-append rest left in omega (arith, s, l, n)
not_refused (m ∷ more) rest left fault a e w = refused_first m (spellings more) rest left fault a.0 e w

uncut_by_end : {W : Type 0} (step : Step W) (u v : W) (taken sent left : List ℕ) (end : LinkEnd) (t : IsTranscript step u taken sent (Some left) v end)
    (more : List RequestMessage) → AllSpelled more → t.tail ++ left ≡ spellings more → IsUncut end
uncut_by_end step u v taken sent left Closed t more a e = tt
uncut_by_end step u v taken sent left (Cut unread) t more a e =
    let s = t.ends in not_cut more t.tail left a e s.4 (let p = s.2 in let q = s.3 in omega (arith, p, q)) s.0
uncut_by_end step u v taken sent left (Ended fault) t more a e = not_refused more t.tail left fault a e t.ends.0
uncut_by_end step u v taken sent left ReadFault t more a e = tt
uncut_by_end step u v taken sent left WriteFault t more a e = tt
uncut_by_end step u v taken sent left Budget t more a e = tt
uncut_by_end step u v taken sent left NoMemory t more a e = tt

-- an input of whole messages is served to its end, as far as the budget goes
pub uncut : {W : Type 0} (step : Step W) (u v : W) (ms : List RequestMessage) (taken sent left : List ℕ) (end : LinkEnd)
    → AllSpelled ms → spellings ms ≡ taken ++ left → IsTranscript step u taken sent (Some left) v end → IsUncut end
uncut step u v ms taken sent left end a e t =
    let w = first_messages ms t.messages (t.tail ++ left) a t.opened (e ∙ ap (λ l. l ++ left) t.bytes ∙ append_assoc (spellings t.messages) t.tail left) in
    uncut_by_end step u v taken sent left end t w.0 w.1 w.3

peace_by : (n m : ℕ) (end : LinkEnd) → IsUncut end → IsCounted n end → n ≤ m → m < BUDGET → IsPeaceful end
peace_by n m Closed u c le few = tt
peace_by n m (Cut unread) u c le few = absurd u
peace_by n m (Ended fault) u c le few = absurd u
peace_by n m ReadFault u c le few = tt
peace_by n m WriteFault u c le few = tt
peace_by n m Budget u c le few = omega (arith, c, le, few)
peace_by n m NoMemory u c le few = tt

-- and to its end, where the messages are fewer than a link may give
pub peaceful : {W : Type 0} (step : Step W) (u v : W) (ms : List RequestMessage) (taken sent left : List ℕ) (end : LinkEnd)
    → AllSpelled ms → length ms < BUDGET → spellings ms ≡ taken ++ left → IsTranscript step u taken sent (Some left) v end → IsPeaceful end
peaceful step u v ms taken sent left end a few e t =
    let w = first_messages ms t.messages (t.tail ++ left) a t.opened (e ∙ ap (λ l. l ++ left) t.bytes ∙ append_assoc (spellings t.messages) t.tail left) in
    peace_by (length t.messages) (length ms) end (uncut step u v ms taken sent left end a e t) t.counted (omega (arith, w.2)) few

-- of two readings of one stream one goes on where the other ends
one_goes_on : (ms ns : List RequestMessage) (x y : List ℕ) → AllOpen ms → AllOpen ns → spellings ms ++ x ≡ spellings ns ++ y
    → ((more : List RequestMessage) × AllOpen more × (ms ≡ ns ++ more) × (y ≡ spellings more ++ x))
    ⊎ ((more : List RequestMessage) × AllOpen more × (ns ≡ ms ++ more) × (x ≡ spellings more ++ y))
one_goes_on ms [] x y a b e = inl (ms, a, refl, sym e)
one_goes_on [] (n ∷ ns) x y a b e = inr (n ∷ ns, b, refl, e)
one_goes_on (m ∷ ms) (n ∷ ns) x y a b e =
    let both = message_unique m n (spellings ms ++ x) (spellings ns ++ y) a.0 b.0
    (sym (append_assoc (spelling m) (spellings ms) x) ∙ e ∙ append_assoc (spelling n) (spellings ns) y) in
    let first = sym both.0 in
    elim (one_goes_on ms ns x y a.2 b.2 both.1) [
      | inl w ↦ inl (w.0, w.1, λ i. both.0 i ∷ w.2 i, w.3)
      | inr w ↦ inr (w.0, w.1, λ i. first i ∷ w.2 i, w.3)
    ]

closing_first : {W : Type 0} (step : Step W) (w v : W) (tail sent left behind : List ℕ) (m : RequestMessage)
    → IsEnd step w tail sent (Some left) v Closed → IsSpelled m → closes m ≡ false → tail ++ left ≡ spelling m ++ behind → ⊥
closing_first step w v tail sent left behind m (inl s) spelled opened e =
    none_empty m behind (sym (ap (λ l. l ++ left) s.0 ∙ s.2) ∙ e)
closing_first step w v tail sent left behind m (inr s) spelled opened e =
    let both = message_unique s.0.message m (s.0.ahead ++ left) behind s.0.spelled spelled
    (sym (append_assoc (spelling s.0.message) s.0.ahead left) ∙ sym (ap (λ l. l ++ left) s.0.bytes) ∙ e) in
    let no : true ≡ false = sym s.1 ∙ ap closes both.0 ∙ opened in cc

-- where a link ends by the bytes alone, no message follows that would leave it open
no_message_follows : {W : Type 0} (step : Step W) (w v : W) (tail sent left behind : List ℕ) (m : RequestMessage)
    (more n : ℕ) (end : LinkEnd) → IsEnd step w tail sent (Some left) v end → IsCounted n end → IsOfBytes end
    → IsSpelled m → closes m ≡ false → tail ++ left ≡ spelling m ++ behind → n + (1 + more) ≤ BUDGET → ⊥
no_message_follows step w v tail sent left behind m more n Closed s counted calm spelled opened e room =
    closing_first step w v tail sent left behind m s spelled opened e
no_message_follows step w v tail sent left behind m more n (Cut unread) s counted calm spelled opened e room =
    s.0 m behind spelled (sym (append-nil tail) ∙ sym (ap (λ l. tail ++ l) s.4) ∙ e)
no_message_follows step w v tail sent left behind m more n (Ended fault) s counted calm spelled opened e room =
    refused_first m behind tail left fault spelled e s.0
no_message_follows step w v tail sent left behind m more n ReadFault s counted calm spelled opened e room = absurd calm
no_message_follows step w v tail sent left behind m more n WriteFault s counted calm spelled opened e room = absurd calm
no_message_follows step w v tail sent left behind m more n Budget s counted calm spelled opened e room = omega (arith, counted, room)
no_message_follows step w v tail sent left behind m more n NoMemory s counted calm spelled opened e room = absurd calm

none_follow : {W : Type 0} (step : Step W) (w v : W) (tail sent left behind : List ℕ) (more : List RequestMessage)
    (n : ℕ) (end : LinkEnd) → IsEnd step w tail sent (Some left) v end → IsCounted n end → IsOfBytes end → AllOpen more
    → tail ++ left ≡ spellings more ++ behind → n + length more ≤ BUDGET → more ≡ []
none_follow step w v tail sent left behind [] n end s counted calm a e room = refl
none_follow step w v tail sent left behind (m ∷ more) n end s counted calm a e room =
    absurd (no_message_follows step w v tail sent left (spellings more ++ behind) m (length more) n end s counted calm a.0 a.1
    (e ∙ append_assoc (spelling m) (spellings more) behind) (omega (arith, room)))

at_most : (n : ℕ) (end : LinkEnd) → IsCounted n end → n ≤ BUDGET
at_most n Closed c = omega (arith, c)
at_most n (Cut unread) c = omega (arith, c)
at_most n (Ended fault) c = omega (arith, c)
at_most n ReadFault c = omega (arith, c)
at_most n WriteFault c = omega (arith, c)
at_most n Budget c = omega (arith, c)
at_most n NoMemory c = omega (arith, c)

-- the one reading goes on behind the other's messages, where that one's link had ended: so it does not go on
goes_not_on : {W : Type 0} (step : Step W) (w v : W) (taken sent left behind : List ℕ) (end : LinkEnd)
    (s : IsTranscript step w taken sent (Some left) v end) (ms more : List RequestMessage) → length ms ≤ BUDGET → IsOfBytes end → AllOpen more
    → ms ≡ s.messages ++ more → s.tail ++ left ≡ spellings more ++ behind → ms ≡ s.messages
goes_not_on step w v taken sent left behind end s ms more room calm a e tail =
    let none = none_follow step s.mid v s.tail s.last left behind more (length s.messages) end s.ends s.counted calm a tail
    (let n = ap length e in let k = length-append s.messages more in omega (arith, n, k, room)) in
    e ∙ ap (λ l. s.messages ++ l) none ∙ append-nil s.messages

-- the messages are the same, in whatever pieces the bytes come
pub same_messages : {W : Type 0} (step : Step W) (u v w x : W) (taken sent left others written remaining : List ℕ)
    (end other : LinkEnd) (t : IsTranscript step u taken sent (Some left) v end) (s : IsTranscript step w others written (Some remaining) x other)
    → taken ++ left ≡ others ++ remaining → IsOfBytes end → IsOfBytes other → t.messages ≡ s.messages
same_messages step u v w x taken sent left others written remaining end other t s e calm quiet =
    let whole = one_goes_on t.messages s.messages (t.tail ++ left) (s.tail ++ remaining) t.opened s.opened
    (sym (append_assoc (spellings t.messages) t.tail left) ∙ sym (ap (λ l. l ++ left) t.bytes) ∙ e
    ∙ ap (λ l. l ++ remaining) s.bytes ∙ append_assoc (spellings s.messages) s.tail remaining) in
    elim whole [
      | inl more ↦ goes_not_on step w x others written remaining (t.tail ++ left) other s t.messages more.0
          (at_most (length t.messages) end t.counted) quiet more.1 more.2 more.3
      | inr more ↦ sym (goes_not_on step u v taken sent left (s.tail ++ remaining) end t s.messages more.0
          (at_most (length s.messages) other s.counted) calm more.1 more.2 more.3)
    ]

closing_none : {W : Type 0} (step : Step W) (w v : W) (tail sent left behind : List ℕ) (more : List RequestMessage)
    → IsEnd step w tail sent (Some left) v Closed → AllOpen more → tail ++ left ≡ spellings more ++ behind → more ≡ []
closing_none step w v tail sent left behind [] s a e = refl
closing_none step w v tail sent left behind (m ∷ more) s a e =
    absurd (closing_first step w v tail sent left (spellings more ++ behind) m s a.0 a.1
    (e ∙ append_assoc (spelling m) (spellings more) behind))

none_more : (more : List RequestMessage) (y : List ℕ) → AllOpen more → [] ≡ spellings more ++ y → more ≡ []
none_more [] y a e = refl
none_more (m ∷ more) y a e =
    absurd (none_empty m (spellings more ++ y) (e ∙ append_assoc (spelling m) (spellings more) y))

-- where all messages leave the link open and it ended as closed, each was answered
pub all_answered : {W : Type 0} (step : Step W) (u v : W) (ms : List RequestMessage) (taken sent left : List ℕ) → AllOpen ms
    → spellings ms ≡ taken ++ left → (t : IsTranscript step u taken sent (Some left) v Closed) → t.messages ≡ ms
all_answered step u v ms taken sent left a e t =
    let whole = one_goes_on ms t.messages [] (t.tail ++ left) a t.opened
    (append-nil (spellings ms) ∙ e ∙ ap (λ l. l ++ left) t.bytes ∙ append_assoc (spellings t.messages) t.tail left) in
    elim whole [
      | inl w ↦
          let none = closing_none step t.mid v t.tail t.last left [] w.0 t.ends w.1 w.3 in
          sym (w.2 ∙ ap (λ l. t.messages ++ l) none ∙ append-nil t.messages)
      | inr w ↦ w.2 ∙ ap (λ l. ms ++ l) (none_more w.0 (t.tail ++ left) w.1 w.3) ∙ append-nil ms
    ]
