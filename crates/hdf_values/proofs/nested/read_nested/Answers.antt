-- What was read nests by the extents, and so it is the whole tree's bytes.
use Rattle.std.proofs.Common.{◌≡◌, Ok, sym, ap, rules}
use Rattle.serde_json.specs.View.{view}
use Rattle.hdf_types.specs.Views.{elem}
use Rattle.json_trees.specs.Faults.{Fails, Gives}
use Rattle.hdf_values.specs.declared.faults.ValueFault.TheVariants.{NoMemory}
use Rattle.hdf_values.specs.Nested.{FitsNested, nested_bytes, nested_from}
use Rattle.hdf_values.proofs.NestedLemmas.{nested_read, are_encoded}
use Rattle.hdf_values.proofs.ReadLemmas.{whole_bytes}
use Rattle.hdf_values.proofs.nested.read_nested.Goals as goal

whole : (c : goal.In_ok-read_axes) → FitsNested (elem c.args.kind.now) c.args.extents.now (view c.args.tree.now) × (c.read_axes.new.out.items ≡ nested_bytes (elem c.args.kind.now) c.args.extents.now (view c.args.tree.now))
whole c =
    let fit = rw c.as_slice-2.ensures at c.in_ok-read_axes.ensures.fits in
    let reads = rw c.as_slice-2.ensures at c.in_ok-read_axes.ensures.reads in
    (fit, whole_bytes (elem c.args.kind.now) c.args.extents.now (view c.args.tree.now) c.in_ok-out.out.items c.read_axes.new.out.items c.in_ok-read_axes.field-0 c.in_ok-out.ensures.items fit reads)

pub returns-in_err-read_axes-clause-only : goal.returns-in_err-read_axes-clause-only
returns-in_err-read_axes-clause-only c h =
    let told : Gives (Fails NoMemory) (λ v. v.items) c.from_residual-in_err-read_axes.result (nested_from (elem c.args.kind.now) c.args.extents.now 0 (view c.args.tree.now)) = search rules in
    rw (nested_read (elem c.args.kind.now) c.args.extents.now 0 (view c.args.tree.now) h) at told

pub returns-clause-fits : goal.returns-clause-fits
returns-clause-fits c = whole c

pub returns-clause-only : goal.returns-clause-only
returns-clause-only c h = ap Ok (sym (whole c).1)

pub returns-clause-encoded : goal.returns-clause-encoded
returns-clause-encoded c = rw (whole c).1 (are_encoded (elem c.args.kind.now) c.args.extents.now (view c.args.tree.now) c.requires.sound (whole c).0)
