-- Where a request is asked.
use Rattle.std.specs.Prelude.{ℕ, List, Option, Some, None, Result, codes}
use Rattle.std.specs.Option.{option_or}
use Rattle.json_trees.specs.Faults.{◌>>=◌}
use Rattle.object_ids.specs.Paths.{path_of, root_path}
use Rattle.object_ops.specs.declared.refusals.Refusal.{Refusal}
use Rattle.object_ops.specs.declared.refusals.Refusal.TheVariants.{BadDomain}
use Rattle.rest_requests.specs.Queries.Targets.{if_text}
use Rattle.rest_requests.specs.Queries.Pairs.{Text, pairs_of, value_of}
use Rattle.request_bodies.specs.Refusing.{or_refuse}

-- the path that a text spells
abbrev pub path_in : Text → Result Text Refusal
path_in text = or_refuse BadDomain (path_of text)

-- what a query has at `domain`, else at `host`
abbrev pub named_domain : Text → Option Text
named_domain query = option_or (value_of (codes "domain") (pairs_of query)) (value_of (codes "host") (pairs_of query))

-- the path that bytes spell as they stand
abbrev pub bytes_path : List ℕ → Result Text Refusal
bytes_path bytes = or_refuse BadDomain (if_text bytes) >>= path_in

-- the path that a header's value spells; `/` without the header
abbrev pub header_path : Option Text → Result Text Refusal
header_path None = path_in root_path
header_path (Some bytes) = bytes_path bytes

-- the query comes before the header
abbrev pub domain_by : Option Text → Option Text → Result Text Refusal
domain_by (Some text) header = path_in text
domain_by None header = header_path header

abbrev pub domain_of : Text → Option Text → Result Text Refusal
domain_of query header = domain_by (named_domain query) header
