-- A fact that holds in any case holds on an outcome.
use Rattle.std.proofs.Common.{Result, Ok, Err, OnOk}

pub if_ok : {T E : Type 0} (r : Result T E) (P : Type 0) → P → OnOk r P
if_ok (Ok x) P p = p
if_ok (Err e) P p = tt
