-- Tests in order, of which the first that fails decides, and what a call answers beside them.
use Rattle.std.specs.Prelude.{◌≡◌, ◌⊎◌, Result, Ok, Err}

-- one test, and then another over what it gave
infixl 10 ◌>>=◌
abbrev pub ◌>>=◌ : {A B E : Type 0} → Result A E → (A → Result B E) → Result B E
Ok x >>= f = f x
Err e >>= f = Err e

-- an error is the fault that the tests find, or it is that memory ran out
abbrev pub Fails : {A E : Type 0} → E → E → Result A E → Type 0
Fails no_memory e r = (e ≡ no_memory) ⊎ (r ≡ Err e)

-- a call gives what the tests find, seen through `see`; its error tells their fault, as `Tells` says of the two
abbrev pub Gives : {A T E F : Type 0} → (E → Result A F → Type 0) → (T → A) → Result T E → Result A F → Type 0
Gives Tells see (Ok x) r = r ≡ Ok (see x)
Gives Tells see (Err e) r = Tells e r

-- a call leaves behind what the tests find; its error tells their fault
abbrev pub Leaves : {A T E F : Type 0} → (E → Result A F → Type 0) → Result T E → A → Result A F → Type 0
Leaves Tells (Ok x) new r = r ≡ Ok new
Leaves Tells (Err e) new r = Tells e r
