use Rattle.std.proofs.Common.{ℕ, ◌<◌, List, is_some, ap, sym, subst, ◌∙◌, true≢false}
use Rattle.domains.specs.Contents.{IsFolderAt}
use Rattle.domains.proofs.Places.{none_there, some_there}
use Rattle.domains.proofs.catalogue.Catalogue.has_place.Goals as goal

pub returns-then-is_some-clause-exact : goal.returns-then-is_some-clause-exact
returns-then-is_some-clause-exact c = (
  (λ yes. absurd (true≢false (sym yes))),
  (λ place. absurd (true≢false (sym c.if-is_some.true ∙ c.is_some.ensures ∙ some_there _ _ c.find.ensures.value ∙ ap is_some place.empty))),
)

pub returns-clause-exact : goal.returns-clause-exact
returns-clause-exact c =
    let Folder_at : List ℕ → Type 0 = λ path. IsFolderAt c.args.self.now path in
    let Room : ℕ → Type 0 = λ n. n < 65536 in (
      (λ yes. record {
        empty = none_there _ (sym (some_there _ _ c.find.ensures.value) ∙ sym c.is_some.ensures ∙ c.if-is_some.false);
        parent = subst Folder_at c.parent_text.ensures.value (c.is_folder.ensures.0 yes);
        room = subst Room c.nodes.ensures.value c.if-nodes-ge-MAX_NODES.false;
      }),
      (λ place. c.is_folder.ensures.1 (subst Folder_at (sym c.parent_text.ensures.value) place.parent)),
    )
