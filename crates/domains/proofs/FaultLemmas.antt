-- When a node can't be made.
use Rattle.std.proofs.Common.{◌≡◌, ℕ, ◌≤◌, false, inl, inr, List, Some, None, IsSome, nat_lt, arith}
use Rattle.std.specs.FinMap.{get, len}
use Rattle.std.proofs.lemmas.Bool.{cases_Bool, lt-ltb, ltb-true}
use Rattle.object_ids.specs.Paths.{parent_of}
use Rattle.object_ids.specs.declared.limits.LimitKind.TheVariants.{Nodes}
use Rattle.domains.specs.declared.faults.CatFault.TheVariants.{Taken, Limit}
use Rattle.domains.specs.Contents.{Contents, IsFolderAt, IsPlace, most_nodes}
use Rattle.domains.specs.Changes.{make_fault}

not_below : (a b : ℕ) → b ≤ a → nat_lt a b ≡ false
not_below a b le = elim (cases_Bool (nat_lt a b)) [ inl under ↦ absurd (omega (arith, ltb-true a b under)) | inr over ↦ over ]

pub fault_taken : (c : Contents) (path : List ℕ) → IsFolderAt c (parent_of path) → IsSome (get c.nodes path) → make_fault c path ≡ Some Taken
fault_taken c path folder there = rw (folder, there)

pub fault_full : (c : Contents) (path : List ℕ) → IsFolderAt c (parent_of path) → get c.nodes path ≡ None → most_nodes ≤ len c.nodes → make_fault c path ≡ Some (Limit Nodes)
fault_full c path folder empty full = rw (folder, empty, not_below (len c.nodes) most_nodes full)

pub fault_none : (c : Contents) (path : List ℕ) → IsPlace c path → make_fault c path ≡ None
fault_none c path place = rw (place.parent, place.empty, lt-ltb (len c.nodes) most_nodes place.room)
