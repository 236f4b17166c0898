use Rattle.std.proofs.Common.{List, ℕ, subst}
use Rattle.std.proofs.lemmas.Result.{on_err_weaker}
use Rattle.std.specs.Io.KnownBytes.{Appends}
use Rattle.http_wire.proofs.Writes.{front_behind}
use Rattle.http_wire.proofs.replies.write_behind.Goals as goal

pub returns-clause-err : goal.returns-clause-err
returns-clause-err g c =
    let first = subst (λ (l : List ℕ). Appends (g.K.Sink.held c.args.sink.now) (g.K.Sink.held c.write_all-2.new.sink) l) c.as_slice-2.ensures c.in_ok-write_all.ensures.ok in
    on_err_weaker c.write_all-3.result (front_behind _ _ _ _ _ first) c.write_all-3.ensures.err
