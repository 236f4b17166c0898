use Rattle.serde_json.specs.View.{view}
use Rattle.hdf_values.specs.Attributes.{content}
use Rattle.attributes.specs.AttributeMaps.{most_attributes}
use Rattle.object_records.specs.FaultsOf.{of_put}
use Rattle.object_records.specs.Lists.{attribute_in}
use Rattle.object_records.proofs.ReadLemmas.{attribute_read, handed, put_done, put_refused}
use Rattle.object_records.proofs.names.put_attribute.Goals as goal

pub returns-in_err-put : goal.returns-in_err-put
returns-in_err-put c =
    let read = attribute_read (view c.args.tree.now) c.in_ok-name.name (content c.in_ok-attribute.attribute) c.in_ok-name.ensures c.in_ok-attribute.ensures.first in
    handed _ c.from_residual-in_err-put.result _ (of_put c.in_err-put.field-0.0) c.from_residual-in_err-put.ensures.1
    (put_refused content most_attributes attribute_in c.args.attributes.now (view c.args.tree.now) c.in_ok-name.name c.in_ok-attribute.attribute c.in_err-put.field-0.0 read c.in_err-put.ensures.why)

pub returns : goal.returns
returns c =
    let read = attribute_read (view c.args.tree.now) c.in_ok-name.name (content c.in_ok-attribute.attribute) c.in_ok-name.ensures c.in_ok-attribute.ensures.first in
    put_done content most_attributes attribute_in c.args.attributes.now (view c.args.tree.now) c.in_ok-name.name c.in_ok-attribute.attribute c.put.new.self read c.in_ok-put.ensures.why c.in_ok-put.ensures.ok
