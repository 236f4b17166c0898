use Rattle.std.proofs.Common.{◌≡◌, ℕ, take, ap, ◌∙◌, arith}
use Rattle.std.proofs.lemmas.Result.{IfOk-weaker}
use Rattle.documents.proofs.parts.paths.DocPath.shown.Goals as goal

pub returns : goal.returns
returns c =
    let prefix : c.range.result.now ≡ take c.floor_char_boundary-end.result c.args.path.now = c.range.ensures.value ∙ ap (λ (n : ℕ). take n c.args.path.now) (omega arith) in
    IfOk-weaker c.new.result _ _ (λ t h. record {
      end = c.floor_char_boundary-end.result;
      is = h ∙ prefix;
      within = c.floor_char_boundary-end.ensures.bound;
      whole = c.floor_char_boundary-end.ensures.boundary;
      most = c.floor_char_boundary-end.ensures.nearest;
    }) c.new.ensures
