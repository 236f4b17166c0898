use Rattle.std.proofs.Common.{◌≡◌, ◌+◌, ◌*◌, ◌≤◌, ℕ, List, None, length}
use Rattle.json.specs.Json.{items, members, value}
use Rattle.json.specs.Token.{Token}
use Rattle.serde_json.specs.Data.{Items, Members}
use Rattle.serde_json.specs.Read.{converted, of_items, of_members}
use Rattle.json_trees.specs.Copied.{ReadsItems, ReadsMembers}
use Rattle.json_trees.proofs.kept.checks.+checks.Given as goal

abbrev pub decreases-check_value : goal.decreases-check_value
decreases-check_value l = 2 * l.depth

abbrev pub decreases-check_items : goal.decreases-check_items
decreases-check_items l = 2 * l.depth + 1

abbrev pub decreases-check_members : goal.decreases-check_members
decreases-check_members l = 2 * l.depth + 1

-- what ends the array well from here ends it well from the start, and what is refused from here is refused from there
abbrev pub invariant-check_items-items : goal.invariant-check_items-items
invariant-check_items-items l = record {
  read : (trees : Items) (rest : List Token) → ReadsItems l.depth l.reader trees rest → (all : Items) × ReadsItems l.depth l.fn.reader all rest;
  refused : (n : ℕ) × (length l.reader ≤ n) × (converted of_items (items (value l.depth) n l.reader) ≡ None → converted of_items (items (value l.depth) (length l.fn.reader) l.fn.reader) ≡ None);
}

abbrev pub decreases-check_items-items : goal.decreases-check_items-items
decreases-check_items-items l = length l.reader

abbrev pub invariant-check_members-members : goal.invariant-check_members-members
invariant-check_members-members l = record {
  read : (rest : List Token) → ReadsMembers l.depth l.reader rest → ReadsMembers l.depth l.fn.reader rest;
  refused : (n : ℕ) × (length l.reader ≤ n) × (((old : Members) → converted (λ ms. of_members ms old) (members (value l.depth) n l.reader) ≡ None)
      → (old : Members) → converted (λ ms. of_members ms old) (members (value l.depth) (length l.fn.reader) l.fn.reader) ≡ None);
}

abbrev pub decreases-check_members-members : goal.decreases-check_members-members
decreases-check_members-members l = length l.reader
