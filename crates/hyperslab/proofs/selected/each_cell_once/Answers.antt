-- Cells by number.
use Rattle.hyperslab.proofs.StartLemmas.{first_cell}
use Rattle.hyperslab.proofs.CellLemmas.{cells_counted, cells_listed, cells_inside, cell_selected, cell_each, cell_indexed, cell_once, cells_apart, cells_within}
use Rattle.hyperslab.proofs.selected.each_cell_once.Goals as goal

pub returns : goal.returns
returns c = record {
  counted = cells_counted;
  listed = cells_listed;
  within = cells_within;
  inside = cells_inside;
  first = first_cell;
  selected = cell_selected;
  each = cell_each;
  indexed = cell_indexed;
  once = cell_once;
  apart = cells_apart;
}
