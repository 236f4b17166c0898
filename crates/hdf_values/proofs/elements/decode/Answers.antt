use Rattle.hdf_types.specs.Views.{elem}
use Rattle.hdf_values.proofs.DecodedLemmas.{decoded_normal}
use Rattle.hdf_values.proofs.elements.decode.Goals as goal

pub returns-clause-inverse : goal.returns-clause-inverse
returns-clause-inverse c = λ d h same. decoded_normal c.decode_part.result (elem c.args.kind.now) d c.args.bytes.now c.requires.sound.formed h same c.decode_part.ensures
