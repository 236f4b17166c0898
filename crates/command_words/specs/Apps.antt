-- The command that `clap` is given, and the values that it finds.
use Rattle.std.specs.Prelude.{true, List, [], ◌∷◌, Option, Some, None, codes, fold, option_and_then}
use Rattle.clap.specs.Walk.{Row as Found, Rule, first_of}
use Rattle.clap.specs.Simple.{App, new_rule, with_rule, with_subcommand, new_app, on_top}
use Rattle.command_words.specs.Lines.{Text, Row}
use Rattle.command_words.specs.Commands.{Command, Values, export_row, import_row, init_row}
use Rattle.command_words.specs.Commands.{sample_row, serve_row, session_row, verb_named, verify_row}

-- an option, as it is given
abbrev pub given_option : Text → Rule
given_option name = record (new_rule name) { long = Some name }

-- a command's place, where it has one, as it is given
abbrev pub with_place : Option Text → App → App
with_place None app = app
with_place (Some name) app = with_rule app (new_rule name)

-- a command with its options and its place
abbrev pub app_for : Row → App
app_for row =
    with_place row.place (fold (λ app name. with_rule app (given_option name)) (new_app row.name) row.options)

abbrev pub bare_app : App
bare_app = on_top (λ s. record s {
  no_binary_name = true;
  disable_help_flag = true;
  disable_help_subcommand = true;
  subcommand_required = true;
}) (new_app (codes "hsds"))

abbrev pub hsds_app : App
hsds_app = fold (λ app row. with_subcommand app (app_for row).top) bare_app
    (init_row ∷ session_row ∷ serve_row ∷ export_row ∷ import_row ∷ sample_row ∷ verify_row ∷ [])

-- the command that a subcommand's name and its rows make
abbrev pub found_values : List Found → Values
found_values rows = λ name. first_of name rows

abbrev pub command_found : Text × List Found → Option Command
command_found found =
    option_and_then (λ verb. verb.meaning (found_values found.1)) (verb_named found.0)
