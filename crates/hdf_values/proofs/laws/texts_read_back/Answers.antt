use Rattle.hdf_values.specs.Nested.{nested_decoded}
use Rattle.hdf_values.proofs.ReadBackLemmas.{text_read, keyed_text_read, nested_whole}
use Rattle.hdf_values.proofs.laws.texts_read_back.Goals as goal

pub returns : goal.returns
returns c = record {
  nested = λ e dims bs s h shallow. text_read (nested_decoded e dims bs) (nested_whole e dims bs s.formed h) shallow;
  keyed = λ key e dims bs s h shallow. keyed_text_read key (nested_decoded e dims bs) (nested_whole e dims bs s.formed h) shallow;
}
