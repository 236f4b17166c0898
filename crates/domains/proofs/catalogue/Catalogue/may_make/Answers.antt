use Rattle.std.proofs.Common.{◌≤◌, ℕ, ◌<◌, List, sym, subst, ◌∙◌}
use Rattle.domains.specs.Contents.{IsFolderAt}
use Rattle.domains.proofs.FaultLemmas.{fault_full, fault_none, fault_taken}
use Rattle.domains.proofs.Places.{none_there, some_there}
use Rattle.domains.proofs.Puts.{place_has_no_children}
use Rattle.domains.proofs.catalogue.Catalogue.may_make.Goals as goal

pub returns-then-is_some-clause-why : goal.returns-then-is_some-clause-why
returns-then-is_some-clause-why c =
    let Folder_at : List ℕ → Type 0 = λ path. IsFolderAt c.args.self.now path in
    fault_taken c.args.self.now c.args.path.now (subst Folder_at c.parent_text.ensures.value (c.is_folder.ensures.0 c.if-not-is_folder.false))
    (sym (some_there _ _ c.find.ensures.value) ∙ sym c.is_some.ensures ∙ c.if-is_some.true)

pub returns-then-nodes-ge-MAX_NODES-clause-why : goal.returns-then-nodes-ge-MAX_NODES-clause-why
returns-then-nodes-ge-MAX_NODES-clause-why c =
    let Folder_at : List ℕ → Type 0 = λ path. IsFolderAt c.args.self.now path in
    fault_full c.args.self.now c.args.path.now (subst Folder_at c.parent_text.ensures.value (c.is_folder.ensures.0 c.if-not-is_folder.false))
    (none_there _ (sym (some_there _ _ c.find.ensures.value) ∙ sym c.is_some.ensures ∙ c.if-is_some.false))
    (subst (λ n. 65536 ≤ n) c.nodes.ensures.value c.if-nodes-ge-MAX_NODES.true)

pub returns-clause-place : goal.returns-clause-place
returns-clause-place c =
    let Folder_at : List ℕ → Type 0 = λ path. IsFolderAt c.args.self.now path in record {
      empty = none_there _ (sym (some_there _ _ c.find.ensures.value) ∙ sym c.is_some.ensures ∙ c.if-is_some.false);
      parent = subst Folder_at c.parent_text.ensures.value (c.is_folder.ensures.0 c.if-not-is_folder.false);
      room = subst (λ n. n < 65536) c.nodes.ensures.value c.if-nodes-ge-MAX_NODES.false;
    }

pub returns-clause-why : goal.returns-clause-why
returns-clause-why c = fault_none c.args.self.now c.args.path.now (returns-clause-place c)

pub returns-clause-children : goal.returns-clause-children
returns-clause-children c = place_has_no_children c.args.self.now c.args.path.now c.find.ensures.valid (returns-clause-place c)
