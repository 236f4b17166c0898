use Rattle.std.proofs.Common.{◌∙◌, ap, sym, string_bytes}
use Rattle.std.specs.FinMap.{entries}
use Rattle.std.proofs.lemmas.Result.{IfOk-weaker}
use Rattle.service_core.specs.Journals.Groups.{roots_in}
use Rattle.service_core.proofs.OfJournals.RootLemmas.{roots-keyed}
use Rattle.service_core.proofs.journals.roots.roots_of.Goals as goal

pub returns : goal.returns
returns c =
    IfOk-weaker c.roots_in.result _ _
    (λ roots e. e ∙ sym (roots-keyed string_bytes c.as_tree.result.now.entries)
    ∙ ap (λ nodes. roots_in nodes) (sym c.as_tree.ensures)
    ∙ ap (λ nodes. roots_in (entries nodes)) c.as_map.ensures.value)
    c.roots_in.ensures
