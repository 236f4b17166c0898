-- Bytes that are read and dropped, piece after piece.
use Rattle.std.proofs.Common.{ℕ, ◌+◌, List, ◌++◌, length-append, Option, arith}
use Rattle.std.proofs.KnownBytes.{Consumes-trans}
use Rattle.http_wire.specs.Skipping.{Passes}

pub passes_more : (a b c : Option (List ℕ)) (n k : ℕ) → Passes a b n → Passes b c k → Passes a c (n + k)
passes_more a b c n k first more = (
  first.0 ++ more.0,
  Consumes-trans a b c first.0 more.0 first.1 more.1,
  (let p = first.2 in let q = more.2 in let l = length-append first.0 more.0 in omega (arith, p, q, l)),
)
