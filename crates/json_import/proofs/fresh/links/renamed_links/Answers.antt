use Rattle.std.proofs.Common.{None, length, is_some, ap, ◌∙◌, arith}
use Rattle.std.specs.FinMap.{entries, get, get-empty, len, len-empty, len-entries}
use Rattle.std.specs.Option.{option_copied}
use Rattle.containers.specs.TextMaps.Keyed.{text_order}
use Rattle.groups_links.specs.declared.target.LinkTo.{LinkTo}
use Rattle.json_import.specs.Fresh.Renamed.{renamed_link}
use Rattle.json_import.proofs.OfFresh.PutLemmas.{less_left, new_more, one_more, put_first, put_left, put_more}
use Rattle.json_import.proofs.OfFresh.TakingLemmas.{left_all}
use Rattle.json_import.proofs.fresh.links.renamed_links.Goals as goal

pub loop-title-init : goal.loop-title-init
loop-title-init c =
    let h = renamed_link c.args.ids.now.names c.args.ids.now.root in
    let links = c.args.links.now in
    record {
      put = ap (λ m. put_left h m None links) c.new-renamed.ensures ∙ put_first h links;
      new = λ q behind. ap (λ m. get m q) c.new-renamed.ensures ∙ get-empty text_order q;
      room = omega (arith, ap len c.new-renamed.ensures, len-empty text_order LinkTo, ap length (left_all (entries links)), len-entries links, c.is_whole.ensures.few);
    }

pub loop-title-smaller : goal.loop-title-smaller
loop-title-smaller c = less_left c.args.links.now (option_copied c.loop-title.after) c.in-Some.title.now c.in-Some.ensures.step

pub put_renamed-requires-clause-new : goal.put_renamed-requires-clause-new
put_renamed-requires-clause-new c = ap is_some (c.loop-title.invariant.new c.in-Some.title.now c.in-Some.ensures.least.0)

pub put_renamed-requires-clause-room : goal.put_renamed-requires-clause-room
put_renamed-requires-clause-room c = omega (arith, ap length c.in-Some.ensures.step.2, c.loop-title.invariant.room)

pub loop-title-preserved : goal.loop-title-preserved
loop-title-preserved c =
    let h = renamed_link c.args.ids.now.names c.args.ids.now.root in
    let links = c.args.links.now in
    let after = option_copied c.loop-title.after in
    let title = c.in-Some.title.now in
    record {
      put = put_more h links after title _ _ c.in-Some.ensures.step c.in_ok-put_renamed.ensures c.loop-title.invariant.put;
      new = new_more h after title (get links title) _ _ c.in-Some.ensures.least.0 c.in_ok-put_renamed.ensures c.loop-title.invariant.new;
      room = omega (arith, one_more h title (get links title) _ _ c.in_ok-put_renamed.ensures, ap length c.in-Some.ensures.step.2, c.loop-title.invariant.room);
    }
