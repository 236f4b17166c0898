-- The first fault decides, and what has none fits.
use Rattle.hdf_types.specs.Views.{elem}
use Rattle.hdf_values.proofs.OfKept.ValueLemmas.{read_fits, read_only, read_encoded}
use Rattle.hdf_values.proofs.kept.nested.read_kept.Goals as goal

pub returns : goal.returns
returns c =
    let e = elem c.args.kind.now in
    let dims = c.args.extents.now in
    let fits = read_fits (λ v. v.items) c.read_cells.result e dims c.args.tree.now c.has_texts.ensures c.read_cells.ensures in
    record {
      fits = fits;
      only = read_only (λ v. v.items) c.read_cells.result e dims c.args.tree.now c.read_cells.ensures;
      first = c.read_cells.ensures;
      encoded = read_encoded (λ v. v.items) c.read_cells.result e dims c.args.tree.now c.requires.sound fits;
    }
