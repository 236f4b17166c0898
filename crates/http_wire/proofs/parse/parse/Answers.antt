use Rattle.std.proofs.Common.{◌≡◌, length, inl, sym, ◌∙◌, arith}
use Rattle.std.proofs.lemmas.Bool.{eqb-true}
use Rattle.http_wire.proofs.Inputs.{none_in_full, none_in_empty}
use Rattle.http_wire.proofs.parse.parse.Goals as goal

pub returns-else-unused-lt-HEAD_LIMIT : goal.returns-else-unused-lt-HEAD_LIMIT
returns-else-unused-lt-HEAD_LIMIT c =
    let told = rw c.in-Ok-Partial.field-0-is at c.in-Ok-Partial.ensures in
    let full = c.if-unused-lt-HEAD_LIMIT.false in
    (omega (arith, full), none_in_full _ full told.partial, inl (record { full = full; none = told.partial; goes_on = told.unfinished }))

pub returns-then-is_empty : goal.returns-then-is_empty
returns-then-is_empty c =
    let e : length c.args.unused.now ≡ 0 = eqb-true _ _ (sym c.is_empty.ensures ∙ c.if-is_empty.true) in
    (none_in_empty _ e, omega (arith, e), λ some. absurd (let no : ⊥ = omega (arith, e, some) in no))
