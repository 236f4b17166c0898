-- What `sample` does.
use Rattle.std.specs.Prelude.{ℕ}
use Rattle.std.specs.Io.KnownBytes.{Keeps}
use Rattle.samples.specs.Values.Samples.{sample_text}
use Rattle.hsds_cli.specs.declared.status.Status.{Status}
use Rattle.hsds_cli.specs.Lines.{IsTold}
use Rattle.hsds_cli.specs.Sides.{Sides}

-- the text of the sample was printed, or a front of it at a fault of the output, or there was no memory for it; nothing was read
abbrev pub IsSampled : ℕ → Sides → Status → Type 0
IsSampled n sides status =
    IsTold (sample_text n) sides.held_before sides.held_after sides.out_before sides.out_after status × Keeps sides.left_before sides.left_after
