use Rattle.std.proofs.Common.{string_bytes, count_by, ap, sym, ◌∙◌}
use Rattle.domains.specs.Changes.{folder_count, is_folder_node}
use Rattle.domains.proofs.Counts.{count_keyed}
use Rattle.domains.proofs.catalogue.Catalogue.folders.Goals as goal

pub returns : goal.returns
returns c =
    c.count_folders.ensures ∙ sym (count_keyed string_bytes is_folder_node c.as_tree.result.now.entries)
    ∙ ap (count_by (λ e. is_folder_node e.1)) (sym c.as_tree.ensures) ∙ ap folder_count c.self.view_is
