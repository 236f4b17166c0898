use Rattle.std.proofs.Common.{List, ap, subst, sym, ◌∙◌}
use Rattle.std.proofs.lemmas.Result.{on_ok_weaker}
use Rattle.flush_journal.specs.Batches.{records}
use Rattle.flush_journal.specs.Records.{Record, put_all}
use Rattle.flush_journal.proofs.BlockLemmas.{put_both}
use Rattle.service_core.specs.Records.{WorldSays}
use Rattle.service_core.proofs.CutRecords.{nothing_to_cut}
use Rattle.service_core.proofs.RecordLemmas.{described_as_kept}
use Rattle.service_core.proofs.kept.WorldKept.cut.Goals as goal

pub returns-clause-cut : goal.returns-clause-cut
returns-clause-cut c = λ held said.
    let k = c.cut-result.ensures.cut (put_all (records c.args.into.now) held) in
    subst (WorldSays c.cut-result.new.self) (sym (ap (λ (rs : List Record). put_all rs held) k.appended ∙ put_both (records c.args.into.now) k.added held)) (k.stands said)

pub returns-clause-told : goal.returns-clause-told
returns-clause-told c = on_ok_weaker c.cut-result.result (λ kept held said. described_as_kept held c.cut-result.new.self (c.is_described.ensures.described kept held said)) c.cut-result.ensures.kept

pub returns-clause-world : goal.returns-clause-world
returns-clause-world c = λ i. record { register = c.cut-result.ensures.same.register i; objects = c.cut-result.ensures.same.objects i }

pub returns-clause-bodies : goal.returns-clause-bodies
returns-clause-bodies c = c.cut-result.ensures.bodies

pub returns-clause-none : goal.returns-clause-none
returns-clause-none c = on_ok_weaker c.cut-result.result (λ kept. nothing_to_cut c.cut-result.new.self kept) c.cut-result.ensures.kept
