-- The lanes of a hall are those that its passes know.
use Rattle.std.proofs.Common.{◌≡◌, ℕ, Some, sym, ap, subst}
use Rattle.hall_rule.specs.declared.view.Start.{Start}
use Rattle.hall_rule.specs.declared.view.View.{View}
use Rattle.hall.specs.ArrayMachines.{lanes_in, lanes_known, lanes_of_start}

module _ {Q V T R M N E : Type 0} (B : ℕ → Type 0) (start : Start M N E) (v : View Q V T R N (Start M N E)) (begun : v.start ≡ Some start) where
  pub as_known : B (lanes_in start) → B (lanes_known v)
  as_known b = subst B (sym (ap lanes_of_start begun)) b

  pub as_there : B (lanes_known v) → B (lanes_in start)
  as_there b = subst B (ap lanes_of_start begun) b
