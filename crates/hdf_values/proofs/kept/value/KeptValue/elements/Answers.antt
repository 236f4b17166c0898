-- The first fault decides, and what has none fits.
use Rattle.hdf_types.specs.Views.{elem}
use Rattle.hdf_values.proofs.OfKept.ValueLemmas.{read_fits, read_only, read_encoded}
use Rattle.hdf_values.proofs.kept.value.KeptValue.elements.Goals as goal

pub returns : goal.returns
returns c =
    let e = elem c.args.kind.now in
    let dims = c.args.extents.now in
    let fits = read_fits (λ v. v.items) c.cells.result e dims c.args.self.now c.has_texts.ensures c.cells.ensures in
    record {
      fits = fits;
      only = read_only (λ v. v.items) c.cells.result e dims c.args.self.now c.cells.ensures;
      first = c.cells.ensures;
      encoded = read_encoded (λ v. v.items) c.cells.result e dims c.args.self.now c.requires.sound fits;
    }
