use Rattle.std.proofs.Common.{Some, vec_items, option_map, ap, sym, ◌∙◌}
use Rattle.containers.proofs.TextMaps.Walks.{first_left, found_text, shown, text_entry}
use Rattle.containers.proofs.text_maps.byte_map.ByteMap.next_key.Goals as goal

pub returns-in_err-key-clause-least : goal.returns-in_err-key-clause-least
returns-in_err-key-clause-least g c =
    (found_text c.args.self.now c.args.after c.from_residual.result (
    ap (option_map text_entry) c.from_residual.ensures ∙ sym (ap (option_map (shown vec_items)) c.in_err-key.was)
    ∙ first_left vec_items c.self.inside.entries.entries c.next_entry.ensures.ordered c.args.self.now c.self.view_is c.args.after c.next_entry.result c.next_entry.ensures.first)).least

pub returns-in_err-key-clause-step : goal.returns-in_err-key-clause-step
returns-in_err-key-clause-step g c =
    (found_text c.args.self.now c.args.after c.from_residual.result (
    ap (option_map text_entry) c.from_residual.ensures ∙ sym (ap (option_map (shown vec_items)) c.in_err-key.was)
    ∙ first_left vec_items c.self.inside.entries.entries c.next_entry.ensures.ordered c.args.self.now c.self.view_is c.args.after c.next_entry.result c.next_entry.ensures.first)).step

pub returns-clause-least : goal.returns-clause-least
returns-clause-least g c =
    (found_text c.args.self.now c.args.after (Some (c.as_slice.result, c.in_ok-key.value)) (
    ap (λ k. Some (k, c.in_ok-key.value.now)) c.as_slice.ensures.value ∙ sym (ap (option_map (shown vec_items)) c.in_ok-key.was)
    ∙ first_left vec_items c.self.inside.entries.entries c.next_entry.ensures.ordered c.args.self.now c.self.view_is c.args.after c.next_entry.result c.next_entry.ensures.first)).least

pub returns-clause-value : goal.returns-clause-value
returns-clause-value g c =
    (found_text c.args.self.now c.args.after (Some (c.as_slice.result, c.in_ok-key.value)) (
    ap (λ k. Some (k, c.in_ok-key.value.now)) c.as_slice.ensures.value ∙ sym (ap (option_map (shown vec_items)) c.in_ok-key.was)
    ∙ first_left vec_items c.self.inside.entries.entries c.next_entry.ensures.ordered c.args.self.now c.self.view_is c.args.after c.next_entry.result c.next_entry.ensures.first)).held

pub returns-clause-step : goal.returns-clause-step
returns-clause-step g c =
    (found_text c.args.self.now c.args.after (Some (c.as_slice.result, c.in_ok-key.value)) (
    ap (λ k. Some (k, c.in_ok-key.value.now)) c.as_slice.ensures.value ∙ sym (ap (option_map (shown vec_items)) c.in_ok-key.was)
    ∙ first_left vec_items c.self.inside.entries.entries c.next_entry.ensures.ordered c.args.self.now c.self.view_is c.args.after c.next_entry.result c.next_entry.ensures.first)).step
