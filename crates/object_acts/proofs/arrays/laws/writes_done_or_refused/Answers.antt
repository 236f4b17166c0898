use Rattle.std.proofs.Common.{ap}
use Rattle.object_acts.proofs.OfArrays.WriteLemmas.{bad_written, can_written, many_written, none_written, written_can}
use Rattle.object_acts.proofs.arrays.laws.writes_done_or_refused.Goals as goal

pub returns : goal.returns
returns c =
    let values = c.nested_or_fault.ensures in
    let faults = c.first_fault_is_told.ensures in
    record {
      done = λ g part d texts. (
        written_can (λ e dims d bs texts read. ((values.texts e dims 0 d bs texts).0 read).0) g part d texts,
        λ can. ap (λ w. w.0) (can_written g part d can (values.value g.kind can.region.extents 0 d can.fits)),
      );
      left = λ g part d can. ap (λ w. w.1) (can_written g part d can (values.value g.kind can.region.extents 0 d can.fits));
      select = none_written;
      bytes = many_written;
      value = λ g part d region fault meant few first. bad_written g part d region fault meant few ((faults.first g.kind region.extents 0 d fault).1 first);
    }
