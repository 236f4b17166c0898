use Rattle.std.proofs.Common.{◌≡◌, ℕ, ◌-◌, ◌≤◌, List, length, take, drop, subst, sym, arith, length-take, length-drop}
use Rattle.std.specs.Io.KnownBytes.{ReadConsumes}
use Rattle.http_wire.proofs.Windows.{behind}
use Rattle.http_wire.proofs.line_read.read_behind.Goals as goal

-- how many bytes stand from a place on
room : (at : ℕ) (xs ys : List ℕ) → at ≤ length xs → length ys ≡ length (take (length xs - at) (drop at xs)) → length ys ≡ length xs - at
room at xs ys within same = omega (arith, same, length-take (length xs - at) (drop at xs), length-drop at xs)

pub returns-clause-given : goal.returns-clause-given
returns-clause-given g c =
    let size = room c.args.at c.args.bytes.now c.read.new.buf c.requires c.read.auto.buf in
    subst (ReadConsumes (g.S.Source.left c.args.source.now) (g.S.Source.left c.read.new.self) c.read.result)
    (sym (behind c.args.at c.args.bytes.now c.read.new.buf c.requires size)) c.read.ensures.bytes
