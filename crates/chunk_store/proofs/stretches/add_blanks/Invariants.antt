use Rattle.std.proofs.Common.{◌≡◌, ℕ, List, ◌++◌, length, drop}
use Rattle.std.specs.List.{flat_map}
use Rattle.chunk_store.proofs.stretches.add_blanks.Given as goal

abbrev pub invariant-loop : goal.invariant-loop
invariant-loop l = (ats : List (List ℕ)) → length ats ≡ l.many → l.out.items ++ flat_map (λ at. l.frame.blank.items) (drop l.counter ats) ≡ l.initial.out.items ++ flat_map (λ at. l.frame.blank.items) ats
