-- The words for limits.
use Rattle.std.specs.Prelude.{ℕ, List, codes}
use Rattle.object_ids.specs.declared.limits.LimitKind.{LimitKind}
use Rattle.object_ids.specs.declared.limits.LimitKind.TheVariants.{Links, Attributes, Entries, Nodes, Serial, Domain}

-- the word that a refusal has for a limit
abbrev pub limit_word : LimitKind → List ℕ
limit_word Links = codes "links"
limit_word Attributes = codes "attributes"
limit_word Entries = codes "entries"
limit_word Nodes = codes "nodes"
limit_word Serial = codes "serial"
limit_word Domain = codes "domain"
