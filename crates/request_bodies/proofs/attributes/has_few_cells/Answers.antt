-- The cap stands above the most cells.
use Rattle.std.proofs.Common.{◌≡◌, ℕ, ◌-◌, ◌^◌, min, nat_le, ap, ◌∙◌, arith}
use Rattle.std.proofs.lemmas.Bool.Decides.{nat_tests}
use Rattle.shapes.specs.RowMajor.{room_of}
use Rattle.request_bodies.specs.Bodies.{room, most_cells}
use Rattle.request_bodies.proofs.attributes.has_few_cells.Goals as goal

cap_hides_none : (r : ℕ) → nat_le (min r (2 ^ 64 - 1)) most_cells ≡ nat_le r most_cells
cap_hides_none r = grind (arith, nat_tests)

pub returns : goal.returns
returns c = ap (λ n. nat_le n most_cells) (c.room.ensures ∙ ap (λ ns. min (room_of ns) (2 ^ 64 - 1)) (c.as_slice.ensures ∙ c.dims-dims.ensures))
    ∙ cap_hides_none (room c.args.shape.now)
