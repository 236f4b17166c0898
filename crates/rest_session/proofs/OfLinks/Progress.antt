-- A link after some messages, and how it ends.
use Rattle.edge_traits.proofs.CauseLemmas.{rose_since}
use Rattle.std.proofs.Common.{◌≡◌, ℕ, ◌+◌, ◌<◌, ◌≤◌, List, [], ◌∷◌, ◌++◌, length, Some, None, false, refl, sym, ap, ◌∙◌, subst, arith, append_assoc, append-nil, length-append}
use Rattle.std.specs.declared.option.Option.{Option}
use Rattle.std.specs.Io.KnownBytes.{Keeps, Consumes, Appends, prepend_known}
use Rattle.std.proofs.KnownBytes.{Appends-nil, Appends-trans, Consumes-nil, Consumes-trans, Consumes-kept}
use Rattle.edge_traits.specs.Causes.{Rose}
use Rattle.http_wire.specs.Messages.{RequestMessage, IsSpelled, spelling, closes}
use Rattle.http_wire.specs.declared.limits.TheConstants.{HEAD_LIMIT}
use Rattle.rest_session.specs.declared.links.end.TheConstants.{BUDGET}
use Rattle.rest_session.specs.declared.links.end.LinkEnd.{LinkEnd}
use Rattle.rest_session.specs.declared.links.end.LinkEnd.TheVariants.{Closed, Cut, Ended, ReadFault, WriteFault, Budget, NoMemory}
use Rattle.rest_session.specs.Links.Links.{Step, Stop, AllOpen, spellings, Replays, IsCounted, IsStopped, IsTranscript, HasCauses}
use Rattle.rest_session.specs.Links.Steps.{IsStep, IsLateEnd}

pub open_more : (ms : List RequestMessage) (m : RequestMessage) → AllOpen ms → IsSpelled m → closes m ≡ false → AllOpen (ms ++ m ∷ [])
open_more [] m a s o = (s, o, tt)
open_more (x ∷ ms) m a s o = (a.0, a.1, open_more ms m a.2 s o)

pub spellings_more : (ms : List RequestMessage) (m : RequestMessage) → spellings (ms ++ m ∷ []) ≡ spellings ms ++ spelling m
spellings_more [] m = append-nil (spelling m)
spellings_more (x ∷ ms) m = ap (λ l. spelling x ++ l) (spellings_more ms m) ∙ sym (append_assoc (spelling x) (spellings ms) (spelling m))

-- the answers of a stream are those of its parts, one behind the other
pub replays_joined : {W : Type 0} (step : Step W) (u v w : W) (front back : List RequestMessage) (first second : List ℕ)
    → Replays step u front first v → Replays step v back second w → Replays step u (front ++ back) (first ++ second) w
replays_joined step u v w [] back first second a b =
    subst (λ x. Replays step x back (first ++ second) w) a.1 (subst (λ (l : List ℕ). Replays step v back (l ++ second) w) (sym a.0) b)
replays_joined step u v w (m ∷ front) back first second a b =
    (a.0, a.1 ++ second, a.2, ap (λ l. l ++ second) a.3 ∙ append_assoc a.0 a.1 second, a.4, replays_joined step a.2 v w front back a.1 second a.5 b)

pub replays_parted : {W : Type 0} (step : Step W) (u w : W) (front back : List RequestMessage) (bytes : List ℕ)
    → Replays step u (front ++ back) bytes w
    → (first : List ℕ) × (second : List ℕ) × (v : W) × (bytes ≡ first ++ second) × Replays step u front first v × Replays step v back second w
replays_parted step u w [] back bytes a = ([], bytes, u, refl, (refl, refl), a)
replays_parted step u w (m ∷ front) back bytes a =
    let p = replays_parted step a.2 w front back a.1 a.5 in
    (a.0 ++ p.0, p.1, p.2, a.3 ∙ ap (λ l. a.0 ++ l) p.3 ∙ sym (append_assoc a.0 p.0 p.1), (a.0, p.0, a.2, refl, a.4, p.4), p.5)

-- the messages that were answered
pub record Progress {W : Type 0} (step : Step W) (w : W) (given pending held_old held : Option (List ℕ)) (v : W) (count : ℕ) : Type 0 where
  pub messages : List RequestMessage
  pub answers : List ℕ
  pub opened : AllOpen messages
  pub used : Consumes given pending (spellings messages)
  pub replays : Replays step w messages answers v
  pub written : Appends held_old held answers
  pub count_is : length messages ≡ count

prepended : (left : Option (List ℕ)) (unused : List ℕ) → unused ≡ [] → Keeps left (prepend_known unused left)
prepended None unused e = tt
prepended (Some x) unused e = ap (λ l. l ++ x) e

-- no message yet
pub begun : {W : Type 0} (step : Step W) (w : W) (left : Option (List ℕ)) (unused : List ℕ) (held : Option (List ℕ)) → unused ≡ []
    → Progress step w left (prepend_known unused left) held held w 0
begun step w left unused held e = record {
  messages = [];
  answers = [];
  opened = tt;
  used = Consumes-kept left left (prepend_known unused left) [] (Consumes-nil left) (prepended left unused e);
  replays = (refl, refl);
  written = Appends-nil held;
  count_is = refl;
}

-- one message more
pub answered : {W : Type 0} (step : Step W) (u w v : W) (given old pending left held_old before now : Option (List ℕ)) (count : ℕ)
    → Progress step u given old held_old before w count → IsStep step w old pending left before now v None → Progress step u given pending held_old now v (count + 1)
answered step u w v given old pending left ho b n count p s = record {
  messages = p.messages ++ s.0 ∷ [];
  answers = p.answers ++ s.1;
  opened = open_more p.messages s.0 p.opened s.2 s.3;
  used = subst (Consumes given pending) (sym (spellings_more p.messages s.0)) (Consumes-trans given old pending _ _ p.used s.4);
  replays = replays_joined step u w v p.messages (s.0 ∷ []) p.answers s.1 p.replays (s.1, [], v, sym (append-nil s.1), s.5, (refl, refl));
  written = Appends-trans ho b n p.answers s.1 p.written s.6;
  count_is = omega (arith, length-append p.messages (s.0 ∷ []), p.count_is);
}

-- what a link took and what was written to it
abbrev pub Ends : {W : Type 0} → Step W → W → Option (List ℕ) → Option (List ℕ) → Option (List ℕ) → Option (List ℕ) → W → LinkEnd → Type 0
Ends step w given left held_old held v end =
    (taken : List ℕ) × (sent : List ℕ) × Consumes given left taken × Appends held_old held sent × IsTranscript step w taken sent left v end

few : (n : ℕ) (end : LinkEnd) → n < BUDGET → IsLateEnd end → IsCounted n end
few n Closed h late = h
few n (Cut unread) h late = h
few n (Ended fault) h late = h
few n ReadFault h late = h
few n WriteFault h late = h
few n Budget h late = absurd late
few n NoMemory h late = absurd late

-- the link ends with this step
pub ended : {W : Type 0} (step : Step W) (u w v : W) (given old pending left held_old before now : Option (List ℕ)) (count : ℕ) (end : LinkEnd)
    → Progress step u given old held_old before w count → count < BUDGET → IsStep step w old pending left before now v (Some end)
    → Ends step u given left held_old now v end
ended step u w v given old pending left ho b n count end p h s = (
  spellings p.messages ++ s.0,
  p.answers ++ s.1,
  Consumes-trans given old left _ _ p.used s.2,
  Appends-trans ho b n p.answers s.1 p.written s.3,
  record {
    messages = p.messages;
    answers = p.answers;
    mid = w;
    tail = s.0;
    last = s.1;
    counted = few (length p.messages) end (let c = p.count_is in omega (arith, c, h)) s.5;
    opened = p.opened;
    replays = p.replays;
    ends = s.4;
    bytes = refl;
    written = refl;
  },
)

pub behind : (given left : Option (List ℕ)) (bs unused : List ℕ) → Consumes given (prepend_known unused left) bs → Consumes given left (bs ++ unused)
behind None left bs unused p = tt
behind (Some x) None bs unused p = p
behind (Some x) (Some y) bs unused p = p ∙ sym (append_assoc bs unused y)

-- what a link took and what was written to it, where its service ended it
abbrev pub Stops : {W E : Type 0} → Step W → Stop W E → W → Option (List ℕ) → Option (List ℕ) → Option (List ℕ) → Option (List ℕ) → W → E → Type 0
Stops step stop w given left held_old held v end =
    (taken : List ℕ) × (sent : List ℕ) × Consumes given left taken × Appends held_old held sent × IsStopped step stop w taken sent v end

-- the service ends the link with this message
pub stopped : {W E : Type 0} (step : Step W) (stop : Stop W E) (u w v : W) (given old left held_old before now : Option (List ℕ)) (count : ℕ) (end : E)
    → Progress step u given old held_old before w count → count < BUDGET
    → (m : RequestMessage) (ahead : List ℕ) → IsSpelled m → length ahead ≤ HEAD_LIMIT → Consumes old left (spelling m ++ ahead) → now ≡ before → stop w m end v
    → Stops step stop u given left held_old now v end
stopped step stop u w v given old left ho before now count end p h m ahead spelled room used same stops = (
  spellings p.messages ++ (spelling m ++ ahead),
  p.answers,
  Consumes-trans given old left _ _ p.used used,
  subst (λ (o : Option (List ℕ)). Appends ho o p.answers) (sym same) p.written,
  record {
    messages = p.messages;
    mid = w;
    message = m;
    ahead = ahead;
    opened = p.opened;
    few = let c = p.count_is in omega (arith, c, h);
    replays = p.replays;
    spelled = spelled;
    room = room;
    stops = stops;
    bytes = refl;
  },
)

-- the link has given all its messages
pub spent : {W : Type 0} (step : Step W) (u v : W) (given left held_old now : Option (List ℕ)) (unused : List ℕ) (count : ℕ)
    → Progress step u given (prepend_known unused left) held_old now v count → count ≡ BUDGET → length unused ≤ HEAD_LIMIT → Ends step u given left held_old now v Budget
spent step u v given left ho n unused count p e room = (
  spellings p.messages ++ unused,
  p.answers,
  behind given left _ unused p.used,
  p.written,
  record {
    messages = p.messages;
    answers = p.answers;
    mid = v;
    tail = unused;
    last = [];
    counted = p.count_is ∙ e;
    opened = p.opened;
    replays = p.replays;
    ends = (room, refl, refl);
    bytes = refl;
    written = sym (append-nil p.answers);
  },
)

-- nothing was read
pub nothing : {W : Type 0} (step : Step W) (w : W) (left held : Option (List ℕ)) → Ends step w left left held held w NoMemory
nothing step w left held = (
  [],
  [],
  Consumes-nil left,
  Appends-nil held,
  record {
    messages = [];
    answers = [];
    mid = w;
    tail = [];
    last = [];
    counted = refl;
    opened = tt;
    replays = (refl, refl);
    ends = (refl, refl, refl);
    bytes = refl;
    written = refl;
  },
)

-- a last step has its causes, and no count fell before it
pub causes_on : (r0 r1 r2 w0 w1 w2 : ℕ) (end : LinkEnd) → r0 ≤ r1 → w0 ≤ w1 → r1 ≤ r2 → w1 ≤ w2
    → (end ≡ ReadFault → Rose r1 r2) → (end ≡ WriteFault → Rose w1 w2) → HasCauses r0 r2 w0 w2 end
causes_on r0 r1 r2 w0 w1 w2 end a b c d read write = record {
  read_later = omega (arith, a, c);
  write_later = omega (arith, b, d);
  read_fault = λ e. rose_since r0 r1 r2 a (read e);
  write_fault = λ e. rose_since w0 w1 w2 b (write e);
}
