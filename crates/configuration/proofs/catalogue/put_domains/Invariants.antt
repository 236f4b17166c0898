use Rattle.std.proofs.Common.{◌≡◌, ◌≤◌, ◌+◌, length, string_bytes}
use Rattle.containers.specs.TextMaps.Keyed.{keyed}
use Rattle.configuration.specs.Catalogues.{ArePaths, CanBePut, domain_nodes, with_nodes}
use Rattle.configuration.proofs.catalogue.put_domains.Given as goal

abbrev pub invariant-domains : goal.invariant-domains
invariant-domains l =
    ArePaths (keyed string_bytes l.path-iterator)
    × CanBePut l.catalogue (domain_nodes l.catalogue.next (keyed string_bytes l.path-iterator))
    × (l.catalogue.next + length (keyed string_bytes l.path-iterator) ≤ 65536)
    × (with_nodes l.catalogue (domain_nodes l.catalogue.next (keyed string_bytes l.path-iterator)) ≡ with_nodes l.initial.catalogue (domain_nodes l.initial.catalogue.next (keyed string_bytes l.fn.domains.entries)))
