-- What a contract sees of an `ObjectId`.
use Rattle.std.specs.Prelude.{ℕ}
use Rattle.object_ids.specs.declared.ids.Kind.{Kind}

-- the kind of an object, the number of the domain and the run in which it was made, and its number in that run
pub record Id : Type 0 where
  pub kind : Kind
  pub domain : ℕ
  pub run : ℕ
  pub serial : ℕ
