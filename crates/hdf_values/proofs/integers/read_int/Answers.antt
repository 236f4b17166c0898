-- One number more.
use Rattle.hdf_values.proofs.IntegerLemmas.{range_told, place_behind}
use Rattle.hdf_values.proofs.integers.read_int.Goals as goal

pub returns-clause-fits : goal.returns-clause-fits
returns-clause-fits c = (c.in-Ok.value, c.in-Ok.ensures.0, range_told c.args.int.now c.in-Ok.value c.in-Ok.ensures.1)

pub returns-clause-place : goal.returns-clause-place
returns-clause-place c =
    place_behind c.args.int.now _ c.args.place c.args.out.now.items c.push_int.new.out.items c.in_ok-push_int-in-Ok.ensures c.requires.place
