-- Some first bytes of a text that is written by two writes.
use Rattle.std.proofs.Common.{ℕ, ◌+◌, List, ◌++◌, length, length-append, take, Option, sym, subst, arith}
use Rattle.std.proofs.Math.Seq.{take-append-add}
use Rattle.std.proofs.KnownBytes.{Appends-trans}
use Rattle.std.specs.Io.KnownBytes.{Appends}
use Rattle.http_wire.specs.Replies.{AppendsFront}

-- all of the first part, and then some of the second
pub front_behind : (a b c : Option (List ℕ)) (head body : List ℕ) → Appends a b head → AppendsFront b c body → AppendsFront a c (head ++ body)
front_behind a b c head body all some = (
  length head + some.0,
  (let s = some.1 in let l = length-append head body in omega (arith, s, l)),
  subst (Appends a c) (sym (take-append-add head body some.0)) (Appends-trans a b c head (take some.0 body) all some.2),
)
