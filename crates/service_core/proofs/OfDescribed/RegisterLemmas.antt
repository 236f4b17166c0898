-- A register that records describe.
use Rattle.std.proofs.Common.{◌≡◌, sym, ◌∙◌}
use Rattle.std.specs.Cmp.Lexicographic.{nat_list_cmp_total}
use Rattle.std.specs.FinMap.{same_map}
use Rattle.containers.proofs.TextMaps.KeyedMaps.{exact_texts}
use Rattle.register.proofs.OfInstalled.NodeWalks.{one_next}
use Rattle.register.proofs.Installing.{faultless, one_run as same_run}
use Rattle.service_core.specs.Described.Faultless.{RegistersStand}
use Rattle.service_core.specs.Described.Told.{RegistersAreOne}

pub registers_stand : RegistersStand
registers_stand held run c described = faultless held run c described

pub registers_are_one : RegistersAreOne
registers_are_one held run other c d x y = (same_run held other run y.kept x.kept, λ i. record { nodes = nodes i; next = next i }) where
  nodes : d.nodes ≡ c.nodes
  nodes = same_map nat_list_cmp_total exact_texts d.nodes c.nodes (λ path. y.nodes path ∙ sym (x.nodes path))

  next : d.next ≡ c.next
  next = one_next held d.next c.next y.next x.next
