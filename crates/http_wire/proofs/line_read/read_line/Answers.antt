use Rattle.std.proofs.Common.{◌≡◌, ℕ, ◌+◌, ◌-◌, take, drop, ap, ◌∙◌, sym, arith}
use Rattle.std.specs.List.{list_any}
use Rattle.http_wire.specs.Heads.{is_feed}
use Rattle.http_wire.proofs.Windows.{came_none, came_some, came_on, quiet_none, quiet_on}
use Rattle.http_wire.proofs.line_read.read_line.Goals as goal

pub returns-in-Err-clause-read : goal.returns-in-Err-clause-read
returns-in-Err-clause-read g c =
    let before = c.pieces.invariant.0 in
    let came = came_none _ _ _ _ _ _ _ _ before c.read_behind.auto.bytes c.read_behind.ensures.stays c.in-Err.ensures.given in (
      ((let o = came.ordered in let w = came.within in omega (arith, o, w)), came.given),
      quiet_none _ _ _ _ before.ordered c.read_behind.ensures.stays c.pieces.invariant.1,
    )

pub pieces-preserved : goal.pieces-preserved
pieces-preserved g c =
    let before = c.pieces.invariant.0 in (
      came_on _ _ _ _ _ _ _ _ _ before c.read_behind.auto.bytes c.read_behind.ensures.stays c.in-Ok.ensures.bound c.in-Ok.ensures.given.0,
      quiet_on _ _ _ _ _ before.ordered before.within c.read_behind.ensures.stays c.pieces.invariant.1
          (ap (list_any is_feed) (ap (λ (k : ℕ). take k (drop c.pieces.end c.read_behind.new.bytes)) (let e : c.in-Ok.count ≡ c.pieces.end + c.in-Ok.count - c.pieces.end = omega arith in e)) ∙ sym c.has_feed-line.ensures ∙ c.if-line.false),
      c.in-Ok.ensures.beside ∙ c.pieces.invariant.2,
      c.in-Ok.ensures.names ∙ c.pieces.invariant.3,
      omega (arith, c.pieces.invariant.4, c.in-Ok.ensures.cause.later),
    )

pub returns-then-line-clause-read : goal.returns-then-line-clause-read
returns-then-line-clause-read g c = (
  (let o = c.pieces.invariant.0.ordered in let t = c.in-Ok.count-test.1 in omega (arith, o, t)),
  (came_some _ _ _ _ _ _ _ _ _ c.pieces.invariant.0 c.read_behind.auto.bytes c.read_behind.ensures.stays c.in-Ok.ensures.bound c.in-Ok.ensures.given.0).0,
)
