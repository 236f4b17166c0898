-- The parameters of a path.
use Rattle.std.specs.Prelude.{ℕ, List, Option, Result, option_and_then, slice_get}
use Rattle.std.specs.List.{slice_split}
use Rattle.json_trees.specs.Faults.{◌>>=◌}
use Rattle.object_ids.specs.IdValues.{Id}
use Rattle.object_ids.specs.Paths.{is_slash}
use Rattle.object_ids.specs.declared.ids.Kind.{Kind}
use Rattle.object_ops.specs.declared.refusals.Refusal.{Refusal}
use Rattle.object_ops.specs.declared.refusals.Refusal.TheVariants.{BadField, BadName}
use Rattle.object_ops.specs.declared.words.FieldWord.TheVariants as field
use Rattle.rest_requests.specs.Queries.Targets.{parameter_text}
use Rattle.rest_requests.specs.Queries.Pairs.{Text}
use Rattle.request_bodies.specs.Bodies.{id_in, name_in, title_in}
use Rattle.request_bodies.specs.Refusing.{or_refuse}

-- among the parts of a path the first parameter stands at 2 and the second at 4: the text before the first slash is part 0
abbrev pub first : ℕ
first = 2

abbrev pub second : ℕ
second = 4

-- the text of a part of a path, where its bytes are one
abbrev pub parameter_at : Text → ℕ → Option Text
parameter_at path place = option_and_then parameter_text (slice_get (slice_split is_slash path) place)

-- the id of an object of this kind
abbrev pub id_at : Kind → Text → Result Id Refusal
id_at kind path = or_refuse (BadField field.Id) (option_and_then (id_in kind) (parameter_at path first))

-- the name of an attribute or an entry
abbrev pub name_at : ℕ → Text → Result Text Refusal
name_at place path = or_refuse BadName (parameter_at path place) >>= name_in

-- the title of a link
abbrev pub title_at : Text → Result Text Refusal
title_at path = or_refuse BadName (parameter_at path second) >>= title_in
