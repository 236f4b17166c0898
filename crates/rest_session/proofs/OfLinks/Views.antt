-- A link seen through what its worlds show.
use Rattle.std.proofs.Common.{ℕ, List, [], ◌∷◌, ap, inl, inr}
use Rattle.std.specs.declared.option.Option.{Option}
use Rattle.http_wire.specs.Messages.{RequestMessage}
use Rattle.rest_session.specs.declared.links.end.LinkEnd.{LinkEnd}
use Rattle.rest_session.specs.declared.links.end.LinkEnd.TheVariants.{Closed, Cut, Ended, ReadFault, WriteFault, Budget, NoMemory}
use Rattle.rest_session.specs.Links.Links.{Step, IsAnswer, Replays, IsLastAnswer, IsEnd, IsTranscript}

-- each step is one of what the worlds show
abbrev pub Shows : {W X : Type 0} → (W → X) → Step W → Step X → Type 0
Shows {W} show step shown = (w v : W) (m : RequestMessage) (bytes : List ℕ) → step w m bytes v → shown (show w) m bytes (show v)

answer_shown : {W X : Type 0} (show : W → X) (step : Step W) (shown : Step X)
    → Shows show step shown → (w v : W) (m : RequestMessage) (bytes : List ℕ) → IsAnswer step w m bytes v → IsAnswer shown (show w) m bytes (show v)
answer_shown show step shown each w v m bytes (inl s) = inl (each w v m bytes s)
answer_shown show step shown each w v m bytes (inr s) = inr (s.0, ap show s.1)

replays_shown : {W X : Type 0} (show : W → X) (step : Step W) (shown : Step X)
    → Shows show step shown → (w v : W) (ms : List RequestMessage) (bytes : List ℕ) → Replays step w ms bytes v → Replays shown (show w) ms bytes (show v)
replays_shown show step shown each w v [] bytes r = (r.0, ap show r.1)
replays_shown show step shown each w v (m ∷ ms) bytes r =
    (r.0, r.1, show r.2, r.3, answer_shown show step shown each w r.2 m r.0 r.4, replays_shown show step shown each r.2 v ms r.1 r.5)

last_shown : {W X : Type 0} (show : W → X) (step : Step W) (shown : Step X)
    → Shows show step shown → (w v : W) (tail answer : List ℕ) → IsLastAnswer step w tail answer v → IsLastAnswer shown (show w) tail answer (show v)
last_shown show step shown each w v tail answer a = record {
  message = a.message;
  ahead = a.ahead;
  spelled = a.spelled;
  bytes = a.bytes;
  room = a.room;
  is_answer = answer_shown show step shown each w v a.message answer a.is_answer;
}

end_shown : {W X : Type 0} (show : W → X) (step : Step W) (shown : Step X)
    → Shows show step shown → (w v : W) (tail sent : List ℕ) (left : Option (List ℕ)) (end : LinkEnd) → IsEnd step w tail sent left v end
    → IsEnd shown (show w) tail sent left (show v) end
unfolding last_shown
end_shown show step shown each w v tail sent left Closed s = elim s [
  | inl e ↦ inl (e.0, e.1, e.2, ap show e.3)
  | inr e ↦ inr (last_shown show step shown each w v tail sent e.0, e.1)
]
end_shown show step shown each w v tail sent left (Cut unread) s = (s.0, s.1, s.2, s.3, s.4, s.5, ap show s.6, s.7)
end_shown show step shown each w v tail sent left (Ended fault) s = (s.0, s.1, s.2, ap show s.3)
end_shown show step shown each w v tail sent left ReadFault s = (s.0, s.1, s.2, ap show s.3)
end_shown show step shown each w v tail sent left WriteFault s = elim s [
  | inl e ↦ inl (e.0, last_shown show step shown each w v tail e.0 e.1, e.2)
  | inr e ↦ inr (e.0, e.1, e.2, e.3, ap show e.4)
]
end_shown show step shown each w v tail sent left Budget s = (s.0, s.1, ap show s.2)
end_shown show step shown each w v tail sent left NoMemory s = (s.0, s.1, ap show s.2)

pub transcript_shown : {W X : Type 0} (show : W → X) (step : Step W) (shown : Step X)
    → Shows show step shown → (w v : W) (taken sent : List ℕ) (left : Option (List ℕ)) (end : LinkEnd) → IsTranscript step w taken sent left v end
    → IsTranscript shown (show w) taken sent left (show v) end
transcript_shown show step shown each w v taken sent left end t = record {
  messages = t.messages;
  answers = t.answers;
  mid = show t.mid;
  tail = t.tail;
  last = t.last;
  opened = t.opened;
  counted = t.counted;
  replays = replays_shown show step shown each w t.mid t.messages t.answers t.replays;
  ends = end_shown show step shown each t.mid v t.tail t.last left end t.ends;
  bytes = t.bytes;
  written = t.written;
}
