use Rattle.std.proofs.Common.{sym}
use Rattle.serde_json.specs.View.{view}
use Rattle.hdf_types.specs.Views.{elem}
use Rattle.hdf_values.proofs.ElementLemmas.{bytes_written, no_fault}
use Rattle.hdf_values.proofs.elements.encode.Goals as goal

pub returns-in-Ok-clause-fits : goal.returns-in-Ok-clause-fits
returns-in-Ok-clause-fits c =
    (c.in-Ok.ensures.fits, bytes_written (elem c.args.kind.now) (view c.args.tree.now) c.encode_part.new.out c.in-Ok.ensures.fits c.in-Ok.ensures.exact)

pub returns-in-Err-clause-only : goal.returns-in-Err-clause-only
returns-in-Err-clause-only c = λ h. absurd (no_fault (elem c.args.kind.now) (view c.args.tree.now) c.in-Err.misfit (sym c.in-Err.ensures.exact) h)
