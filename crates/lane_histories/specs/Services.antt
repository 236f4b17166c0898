-- What a service with a register and lanes is made of.
--     Service      its types, what the register decides, and what a turn of a lane does
--     Turns        the turns of lanes that a verdict asks for
--     World        the register, and the objects of each lane
use Rattle.std.specs.Prelude.{◌≡◌, ℕ, Bool}

-- none; one, in a lane; one and, where it went well, a second; or one in each lane
pub data Turns (Task : Type 0) : Type 0 where
  no_turn : Turns Task
  one_turn : ℕ → Task → Turns Task
  two_turns : ℕ → Task → ℕ → Task → Turns Task
  each_lane : Task → Turns Task

pub record Service : Type 1 where
  -- what the register knows, what is asked of it, and what it answers
  pub Register : Type 0
  pub Asked : Type 0
  pub Verdict : Type 0
  -- what a turn does in a lane, what it does that to, and what it replies
  pub Task : Type 0
  pub Objects : Type 0
  pub Reply : Type 0
  -- the part of the register that a journal keeps
  pub Catalogue : Type 0
  pub lanes : ℕ
  -- the verdicts that may come, the register after one, and the turns that it asks for
  pub MayAnswer : Register → Asked → Verdict → Type 0
  pub decided : Register → Asked → Verdict → Register
  pub turns : Asked → Verdict → Turns Task
  -- the register after a drawn cut, and after a register cut that found memory or didn't: the catalogue stays
  pub drawn : Register → Register
  pub recorded : Bool → Register → Register
  -- what a task replies and leaves; whether a second turn follows on it; and whether it may find no memory
  pub acted : Task → Objects → Reply × Objects
  pub went_well : Reply → Bool
  pub MayBeShort : Task → Type 0
  pub catalogue : Register → Catalogue
  pub catalogue_drawn : (d : Register) → catalogue (drawn d) ≡ catalogue d
  pub catalogue_recorded : (found : Bool) (d : Register) → catalogue (recorded found d) ≡ catalogue d
  -- the same objects, but for those of domains that the catalogue doesn't have
  pub Alike : Catalogue → Objects → Objects → Type 0
  pub alike_itself : (c : Catalogue) (o : Objects) → Alike c o o

pub record World (s : Service) : Type 0 where
  pub register : s.Register
  pub objects : ℕ → s.Objects
