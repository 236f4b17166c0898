use Rattle.std.proofs.Common.{◌≡◌, ◌+◌, ◌*◌, ◌≤◌, ℕ, List, None, length}
use Rattle.json.specs.Json.{items, members, value}
use Rattle.json.specs.Token.{Token}
use Rattle.json.specs.Written.{Written}
use Rattle.serde_json.specs.Data.{Members}
use Rattle.serde_json.specs.Read.{converted, of_items, of_members}
use Rattle.json_trees.specs.Copied.{CopiesItems, CopiesMembers}
use Rattle.json_trees.proofs.kept.copies.+copies.Given as goal

abbrev pub decreases-copy_value : goal.decreases-copy_value
decreases-copy_value l = 2 * l.depth

abbrev pub decreases-copy_items : goal.decreases-copy_items
decreases-copy_items l = 2 * l.depth + 1

abbrev pub decreases-copy_members : goal.decreases-copy_members
decreases-copy_members l = 2 * l.depth + 1

-- what ends the array well from here ends it well from the start, and what is refused from here is refused from there
abbrev pub invariant-copy_items-items : goal.invariant-copy_items-items
invariant-copy_items-items l = record {
  copied : (rest : List Token) (new : Written) → CopiesItems l.depth l.reader rest l.writer new → CopiesItems l.depth l.fn.reader rest l.fn.writer new;
  refused : (n : ℕ) × (length l.reader ≤ n) × (converted of_items (items (value l.depth) n l.reader) ≡ None → converted of_items (items (value l.depth) (length l.fn.reader) l.fn.reader) ≡ None);
}

abbrev pub decreases-copy_items-items : goal.decreases-copy_items-items
decreases-copy_items-items l = length l.reader

abbrev pub invariant-copy_members-members : goal.invariant-copy_members-members
invariant-copy_members-members l = record {
  copied : (rest : List Token) (new : Written) → CopiesMembers l.depth l.reader rest l.writer new → CopiesMembers l.depth l.fn.reader rest l.fn.writer new;
  refused : (n : ℕ) × (length l.reader ≤ n) × (((old : Members) → converted (λ ms. of_members ms old) (members (value l.depth) n l.reader) ≡ None)
      → (old : Members) → converted (λ ms. of_members ms old) (members (value l.depth) (length l.fn.reader) l.fn.reader) ≡ None);
}

abbrev pub decreases-copy_members-members : goal.decreases-copy_members-members
decreases-copy_members-members l = length l.reader
