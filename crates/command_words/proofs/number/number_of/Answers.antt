use Rattle.std.proofs.Common.{◌∙◌, ap, sym, Bool, Some, None, cond}
use Rattle.std.specs.Result.{result_ok}
use Rattle.std.specs.Str.Parse.{digits_value}
use Rattle.command_words.proofs.Numbers.{number_parsed}
use Rattle.command_words.proofs.number.number_of.Goals as goal

pub returns : goal.returns
returns c =
    let is = sym c.is_number.ensures ∙ c.if-not-is_number.false in
    let reads = number_parsed c.args.text.now c.parse.result c.parse.ensures.value.0 is in
    c.ok.ensures.value ∙ ap result_ok reads
    ∙ sym (ap (λ (b : Bool). cond b (Some (digits_value 10 c.args.text.now)) None) is)
