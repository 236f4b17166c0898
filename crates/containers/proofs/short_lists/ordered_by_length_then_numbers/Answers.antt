-- The order's laws.
use Rattle.std.proofs.lemmas.Slice.Eq.{bytes_eq-Decides}
use Rattle.containers.specs.ShortLists.OrderLaws.{order_total, tied_same, same_tied, shorter_first, first_decides}
use Rattle.containers.proofs.short_lists.ordered_by_length_then_numbers.Goals as goal

pub returns-clause-total : goal.returns-clause-total
returns-clause-total c = order_total

pub returns-clause-ties : goal.returns-clause-ties
returns-clause-ties c = λ xs ys. (tied_same xs ys, same_tied xs ys)

pub returns-clause-equal : goal.returns-clause-equal
returns-clause-equal c = λ xs ys. bytes_eq-Decides xs ys

pub returns-clause-shorter : goal.returns-clause-shorter
returns-clause-shorter c = shorter_first

pub returns-clause-first : goal.returns-clause-first
returns-clause-first c = first_decides
