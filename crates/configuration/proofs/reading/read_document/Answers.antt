use Rattle.std.proofs.Common.{◌≡◌, ◌∙◌, ap, inl, inr, sym}
use Rattle.std.proofs.lemmas.Bool.{cond-true, cond-false, false_from_ne_true}
use Rattle.std.proofs.lemmas.Str.{IsUtf8-from_is_utf8, is_utf8-from_IsUtf8}
use Rattle.toml.specs.Parse.{parse_document}
use Rattle.configuration.specs.declared.fault.ConfigFault.TheVariants.{BadToml, NoMemory}
use Rattle.configuration.proofs.reading.read_document.Goals as goal

pub returns-in_default-clause-bad_toml : goal.returns-in_default-clause-bad_toml
returns-in_default-clause-bad_toml c = λ _. cond-false _ _ _ (false_from_ne_true _ (λ h. c.in_default.ensures.cases.0 (IsUtf8-from_is_utf8 c.args.text.now h)))

pub returns-in-Ok-table_from_str-clause-ok : goal.returns-in-Ok-table_from_str-clause-ok
returns-in-Ok-table_from_str-clause-ok c =
    cond-true _ _ _ (is_utf8-from_IsUtf8 c.args.text.now c.in-Ok.ensures.cases.1)
    ∙ ap parse_document (sym c.in-Ok.ensures.cases.0) ∙ c.in-Ok-table_from_str.ensures.ok

pub returns-in-Err-clause-bad_toml : goal.returns-in-Err-clause-bad_toml
returns-in-Err-clause-bad_toml c = λ is.
    let bad : c.toml_fault.result ≡ BadToml = cc in
    elim c.toml_fault.ensures [
      | inl m ↦ let clash : NoMemory ≡ BadToml = sym m.0 ∙ bad in absurd (cc)
      | inr x ↦
          cond-true _ _ _ (is_utf8-from_IsUtf8 c.args.text.now c.in-Ok.ensures.cases.1)
          ∙ ap parse_document (sym c.in-Ok.ensures.cases.0) ∙ c.in-Err.ensures.refused x.1
    ]
