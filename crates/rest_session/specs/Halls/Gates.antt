-- What went through the gate of a worker.
--     EachGoesThrough goes told old new      each turn of these entries, one after another
--     HasGoneThroughAll goes s t old new      each turn of what was asked from one account to another
--     IsAskedThrough goes s message bytes t      a message is answered, and the turns of what it asked went through the gate
use Rattle.std.specs.Prelude.{◌≡◌, ℕ, List, [], ◌∷◌, ◌++◌}
use Rattle.http_wire.specs.Messages.{RequestMessage}
use Rattle.register.specs.Grants.{turns_of}
use Rattle.hall.specs.Answers.{GoesThrough}
use Rattle.rest_session.specs.Halls.Accounts.{Account, Told}
use Rattle.rest_session.specs.Halls.Asking.{IsAskedOf}

-- what a gate may have become, by what it was, the lane and the place
abbrev pub Goes : Type 0 → Type 1
Goes G = G → ℕ → ℕ → G → Type 0

-- entry after entry, the turns that its verdict gave, in order, with the lane of each and the place of the entry
abbrev pub EachGoesThrough : {G : Type 0} → Goes G → List Told → G → G → Type 0
EachGoesThrough goes [] old new = new ≡ old
EachGoesThrough {G} goes (t ∷ ts) old new =
    (mid : G) × GoesThrough goes t.0.place (turns_of t.0.verdict) old mid × EachGoesThrough goes ts mid new

-- the pass was told these entries more, and nothing else went through its gate
pub record HasGoneThroughAll {G : Type 0} (goes : Goes G) (s t : Account) (old new : G) : Type 0 where
  pub more : List Told
  pub grew : t.told ≡ s.told ++ more
  pub gone : EachGoesThrough goes more old new

-- ---- over one link

pub record Gated (G : Type 0) : Type 0 where
  pub account : Account
  pub gate : G

abbrev pub IsAskedThrough : {G : Type 0} → Goes G → Gated G → RequestMessage → List ℕ → Gated G → Type 0
IsAskedThrough goes s m bytes t = IsAskedOf s.account m bytes t.account × HasGoneThroughAll goes s.account t.account s.gate t.gate
