use Rattle.std.proofs.Common.{sym, subst, ℕ, List}
use Rattle.documents.specs.Reader.Loads.{LoadsText}
use Rattle.json_import.specs.Kept.Parts.{of_document}
use Rattle.json_import.proofs.OfKept.Refusals.{handed, not_loaded}
use Rattle.json_import.proofs.kept.reading.read_input.Goals as goal

pub returns-in_err-read_document-clause-err : goal.returns-in_err-read_document-clause-err
returns-in_err-read_document-clause-err g c =
    handed c.from_residual-in_err-read_document.result (of_document c.in_err-read_document.field-0.0) _ c.from_residual-in_err-read_document.ensures.1
    (not_loaded (g.S.Source.left c.args.input.now) (g.S.Source.left c.read_text.new.source) (g.S.Source.faults c.args.input.now) (g.S.Source.faults c.read_text.new.source) c.in_ok-text.text.items
    c.in_err-read_document.field-0.0 c.in_ok-text.ensures.ok
    (λ l loads. c.in_err-read_document.ensures.only l (subst (λ (t : List ℕ). LoadsText t l) (sym c.as_slice.ensures.value) loads)))
