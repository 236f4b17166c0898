use Rattle.hdf_types.specs.Views.{elem as kind_of}
use Rattle.chunk_store.proofs.ChangeLemmas.{listed_new}
use Rattle.chunk_store.proofs.PartLemmas.{made_buffered, made_grid, made_marks, new_tracked}
use Rattle.chunk_store.proofs.array.Array.new.Goals as goal

pub invariant_of-result : goal.invariant_of-result
invariant_of-result c = (
  made_buffered (kind_of c.args.elem) c.args.shape (record { layout = c.args.layout; size = c.size-size.result; blank = c.in_ok-blank.blank }) c.args.fill c.is_some-given.result c.new.result
      c.requires.kind c.requires.shape c.requires.layout c.requires.fill c.is_some-given.ensures c.in_ok-blank.ensures c.size-size.ensures c.new.ensures.empty,
  listed_new c.args.shape (record { layout = c.args.layout; size = c.size-size.result; blank = c.in_ok-blank.blank }) c.new.result c.new-2.result c.new.ensures.empty,
)

pub returns-clause-made : goal.returns-clause-made
returns-clause-made c =
    made_grid (kind_of c.args.elem) c.args.shape (record { layout = c.args.layout; size = c.size-size.result; blank = c.in_ok-blank.blank }) c.args.fill c.is_some-given.result c.new.result
    c.requires.kind c.requires.shape c.requires.layout c.requires.fill c.is_some-given.ensures c.in_ok-blank.ensures c.size-size.ensures c.new.ensures.empty

pub returns-clause-marks : goal.returns-clause-marks
returns-clause-marks c =
    made_marks (kind_of c.args.elem) c.args.shape (record { layout = c.args.layout; size = c.size-size.result; blank = c.in_ok-blank.blank }) c.args.fill c.is_some-given.result c.new.result
    c.requires.kind c.requires.shape c.requires.layout c.requires.fill c.is_some-given.ensures c.in_ok-blank.ensures c.size-size.ensures c.new.ensures.empty

pub returns-clause-tracked : goal.returns-clause-tracked
returns-clause-tracked c =
    new_tracked (kind_of c.args.elem) c.args.shape (record { layout = c.args.layout; size = c.size-size.result; blank = c.in_ok-blank.blank }) c.args.fill c.is_some-given.result c.new.result
    c.requires.kind c.requires.shape c.requires.layout c.requires.fill c.is_some-given.ensures c.in_ok-blank.ensures c.size-size.ensures c.new.ensures.empty
