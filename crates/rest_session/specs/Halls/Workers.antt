-- What a worker of a hall has done.
--     WorksAt tells links door now ..     its whole work at its door; without one it asks nothing
--     HasWorked ..                        its whole work, and what went through its gate
use Rattle.std.specs.Prelude.{◌≡◌, ℕ, List, [], Option, Some, None, Bool, false}
use Rattle.access_lists.specs.Tokens.Bearer.{TokenTable}
use Rattle.hall.specs.Passes.{who}
use Rattle.hall.specs.declared.desk.AtDesk.{Ghosts}
use Rattle.hall.specs.declared.hall.Hall.{Hall}
use Rattle.rest_session.specs.declared.halls.workers.Worker.{Worker}
use Rattle.rest_session.specs.declared.links.end.LinkEnd.{LinkEnd}
use Rattle.rest_session.specs.Halls.Accounts.{Account, HasAskedNothing, IsReady, account}
use Rattle.rest_session.specs.Halls.Gates.{Goes, HasGoneThroughAll}
use Rattle.rest_session.specs.Halls.Visits.{Telling, Works}

-- one without a door flushes, and has no link
abbrev pub WorksAt : {F L : Type 0} → Telling F L → ℕ → Option F → Option F → List LinkEnd → Account → Account → Bool → Type 0
WorksAt tells links (Some door) (Some now) ends s t failed = Works tells links door now ends s t failed
WorksAt tells links (Some door) None ends s t failed = ⊥
WorksAt tells links None (Some now) ends s t failed = ⊥
WorksAt tells links None None ends s t failed = (ends ≡ []) × (failed ≡ false) × HasAskedNothing s t

-- its pass has all its answers, and is the same but for what its links asked; each turn of that went through its gate
pub record HasWorked {D K F L G : Type 0} {g : Ghosts D K} (tells : Telling F L) (goes : Goes G) (tokens : TokenTable) (links : ℕ) (h : Hall D K)
    (old new : Worker D F G K g) : Type 0 where
  pub ready : IsReady h new.pass
  pub same : who new.pass ≡ who old.pass
  pub works : WorksAt tells links old.door new.door new.ends.items (account tokens h old.pass) (account tokens h new.pass) new.door_failed
  pub gates : HasGoneThroughAll goes (account tokens h old.pass) (account tokens h new.pass) old.gate new.gate
