-- The configuration that a document spells.
use Rattle.std.specs.Prelude.{ℕ, List, Bool, ◌||◌, Option, None, option_map, option_and_then, codes, if◌then◌else◌}
use Rattle.std.specs.FinMap.{FinMap}
use Rattle.std.specs.Str.{bytes_eq, is_utf8}
use Rattle.containers.specs.TextMaps.Keyed.{text_order}
use Rattle.toml.specs.Data.{Members}
use Rattle.toml.specs.Parse.{parse_document}
use Rattle.access_lists.specs.declared.people.Caller.{Caller}
use Rattle.domains.specs.Contents.{Contents}
use Rattle.configuration.specs.People.{callers_in, groups_in, groups_with}
use Rattle.configuration.specs.Settings.{settings_in}
use Rattle.configuration.specs.Tables.{both, has_only, table_at}
use Rattle.configuration.specs.Catalogues.{catalogue_of}
use Rattle.configuration.specs.declared.config.Config.{Config}
use Rattle.containers.specs.Options.{only_if}

abbrev pub is_config_key : List ℕ → Bool
is_config_key key = bytes_eq key (codes "tokens") || bytes_eq key (codes "groups") || bytes_eq key (codes "folders") || bytes_eq key (codes "domains")

-- the tokens, each with its user and the groups that list the user
abbrev pub tokens_in : Members → Option (FinMap text_order Caller)
tokens_in table =
    option_and_then (λ groups. option_and_then (callers_in (groups_with groups)) (table_at (codes "tokens") table))
    (option_and_then groups_in (table_at (codes "groups") table))

-- the folders and domains
abbrev pub catalogue_in : Members → Option Contents
catalogue_in table =
    option_and_then (λ p. catalogue_of p.0 p.1)
    (both (option_and_then settings_in (table_at (codes "folders") table)) (option_and_then settings_in (table_at (codes "domains") table)))

-- the configuration of a table, or nothing where the table breaks a rule
abbrev pub config_of : Members → Option Config
config_of table =
    only_if (has_only is_config_key table)
    (option_map (λ p. record { tokens = p.0; catalogue = p.1 }) (both (tokens_in table) (catalogue_in table)))

-- the table of a TOML document, or nothing where the text is none
abbrev pub document_in : List ℕ → Option Members
document_in text = if is_utf8 text then parse_document text else None
