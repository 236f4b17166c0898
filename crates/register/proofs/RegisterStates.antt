-- A register stays one.
use Rattle.std.proofs.Common.{◌≡◌, ℕ, ◌+◌, ◌<◌, List, length, arith}
use Rattle.domains.specs.Contents.{Contents}
use Rattle.register.specs.Marks.{Marked}
use Rattle.register.specs.Decided.{AreGivenOut, IsRegister, RegisterState, serial_limit}
use Rattle.register.proofs.Roots.{all_later}

-- when a serial is taken
pub serial_taken : (d : RegisterState) → IsRegister d → d.serial < serial_limit → IsRegister (record d { serial = d.serial + 1 })
serial_taken d h below = record {
  run = h.run;
  serial = omega arith;
  some_lane = h.some_lane;
  few_lanes = h.few_lanes;
  roots = all_later d.catalogue d.run d.serial h.roots;
}

-- when tickets are given
pub recounted : (d : RegisterState) (counts : List ℕ) → IsRegister d → length counts ≡ length d.issued → IsRegister (record d { issued = counts })
recounted d counts h e = record { run = h.run; serial = h.serial; some_lane = omega (arith, h.some_lane, e); few_lanes = omega (arith, h.few_lanes, e); roots = h.roots }

-- when the catalogue changes, and what is marked
pub moved : (d : RegisterState) (catalogue : Contents) (marks : Marked) → IsRegister d → AreGivenOut catalogue d.run d.serial → IsRegister (record d { catalogue = catalogue; marks = marks })
moved d catalogue marks h roots = record { run = h.run; serial = h.serial; some_lane = h.some_lane; few_lanes = h.few_lanes; roots = roots }
