use Rattle.json_import.proofs.OfAdoption.LawLemmas.{come_back, domains_sound, exports_loaded, lines_loaded}
use Rattle.json_import.proofs.adoption.laws.exports_are_loaded.Goals as goal

pub returns : goal.returns
returns c = record {
  sound = domains_sound;
  loads = exports_loaded c.domains_are_loaded.ensures.texts;
  line = lines_loaded c.domains_are_loaded.ensures.texts;
  again = come_back c.domains_are_loaded.ensures.texts c.domains_are_loaded.ensures.loaded c.document_or_fault.ensures.one;
}
