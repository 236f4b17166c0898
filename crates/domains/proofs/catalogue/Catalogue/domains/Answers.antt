use Rattle.std.proofs.Common.{◌≡◌, ◌+◌, ◌∙◌, sym, arith}
use Rattle.std.specs.FinMap.{entries, len, len-entries}
use Rattle.domains.specs.Changes.{domain_count, folder_count, is_folder_node}
use Rattle.domains.proofs.Counts.{count_both}
use Rattle.domains.proofs.catalogue.Catalogue.domains.Goals as goal

pub overflow_sub-result : goal.overflow_sub-result
overflow_sub-result c =
    let all : folder_count c.args.self.now + domain_count c.args.self.now ≡ len c.args.self.now.nodes =
    count_both (λ e. is_folder_node e.1) (entries c.args.self.now.nodes) ∙ sym (len-entries c.args.self.now.nodes) in
    omega (arith, all, c.nodes.ensures.value, c.folders.ensures)

pub returns-clause-value : goal.returns-clause-value
returns-clause-value c =
    let all : folder_count c.args.self.now + domain_count c.args.self.now ≡ len c.args.self.now.nodes =
    count_both (λ e. is_folder_node e.1) (entries c.args.self.now.nodes) ∙ sym (len-entries c.args.self.now.nodes) in
    omega (arith, all, c.nodes.ensures.value, c.folders.ensures)
