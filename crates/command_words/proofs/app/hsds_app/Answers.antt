use Rattle.std.proofs.Common.{◌∙◌, ap₂}
use Rattle.std.proofs.lemmas.Result.{IfOk-weaker}
use Rattle.clap.specs.Words.{App}
use Rattle.clap.specs.Simple.{with_subcommand}
use Rattle.command_words.proofs.app.hsds_app.Goals as goal

-- a command with another below it
abbrev both : App → App → App
both app below = with_subcommand app below.top

pub returns : goal.returns
returns c =
    let init = c.in_ok-app.ensures ∙ ap₂ both c.bare_app-app.ensures.app c.in_ok-init_app.ensures.0 in
    let session = c.in_ok-app-2.ensures ∙ ap₂ both init c.in_ok-session_app.ensures.0 in
    let serve = c.in_ok-app-3.ensures ∙ ap₂ both session c.in_ok-serve_app.ensures.0 in
    let export = c.in_ok-app-4.ensures ∙ ap₂ both serve c.in_ok-export_app.ensures.0 in
    let import = c.in_ok-app-5.ensures ∙ ap₂ both export c.in_ok-import_app.ensures.0 in
    let sample = c.in_ok-app-6.ensures ∙ ap₂ both import c.in_ok-sample_app.ensures.0 in
    IfOk-weaker c.with_command-7.result _ _
    (λ app is. is ∙ ap₂ both sample c.in_ok-verify_app.ensures.0)
    c.with_command-7.ensures
