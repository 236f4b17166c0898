-- The whole command: where words are a command, `clap` takes them and finds its values.
use Rattle.std.proofs.Common.{◌≡◌, ◌∙◌, ap, sym, subst, Bool, true, false, not, ◌&&◌, List, [], ◌∷◌}
use Rattle.std.proofs.Common.{fold, map, Option, Some, None, is_some, option_map, option_and_then, refl}
use Rattle.std.proofs.Common.{codes}
use Rattle.std.specs.Prelude.{cond, find}
use Rattle.std.specs.Option.{option_map_or}
use Rattle.std.specs.List.{list_all}
use Rattle.std.proofs.lemmas.Bool.{and_from}
use Rattle.std.specs.Str.{bytes_eq}
use Rattle.std.proofs.lemmas.Slice.Eq.{bytes_eq-Decides}
use Rattle.std.proofs.Math.Bool.{or-true}
use Rattle.clap.specs.Walk.{after_step, subcommand_or_other, Row as Found, Walk, answers_to, idle}
use Rattle.clap.specs.Walk.{nothing_held, rows_after, stop_after, subcommand_met, walk, walk_from}
use Rattle.clap.specs.Walk.{walked}
use Rattle.clap.specs.Simple.{App, Shape, built, entered, is_simple, label_of, names_of, new_shape}
use Rattle.clap.specs.Simple.{subcommand_of}
use Rattle.clap.specs.Takes.{built_takes, entered_passes, level_passes, other_passes, settle_passes}
use Rattle.clap.specs.Takes.{step_passes, takes, turn_passes, walk_passes}
use Rattle.clap.proofs.OnLiterals.{clap_on_literals}
use Rattle.command_words.specs.Lines.{Text, Row, Piece}
use Rattle.command_words.specs.Reading.{pieces_of}
use Rattle.command_words.specs.Commands.{Verb, command_of, export_row, import_row, init_row}
use Rattle.command_words.specs.Commands.{meaning_of, pieces_in, sample_row, serve_row, session_row}
use Rattle.command_words.specs.Commands.{values_of}
use Rattle.command_words.specs.Commands.{verb_named, verbs, verify_row}
use Rattle.command_words.specs.Apps.{command_found, found_values, hsds_app}
use Rattle.command_words.proofs.Steps.{rows_for, rules_of}
use Rattle.command_words.proofs.Spelled.{is_option_name}
use Rattle.command_words.proofs.Turns.{leaf}
use Rattle.command_words.proofs.Follow.{IsApart}
use Rattle.command_words.proofs.Level.{first_is, level_true, rows_are, stopped_held, stopped_passes}
use Rattle.command_words.proofs.Level.{stopped_walk}

-- what building makes of the command
abbrev top : Shape
top = record (new_shape (codes "hsds")) {
  is_leaf = false;
  no_binary_name = true;
  disable_help_flag = true;
  disable_help_subcommand = true;
  subcommand_required = true;
  is_built = true;
}

abbrev whole : App
whole = record { top = top; subs = map (λ v. leaf v.row.name (rules_of v.row)) verbs }

built_is : built hsds_app ≡ whole
unfolding clap_on_literals
built_is = refl

simple_is : is_simple hsds_app ≡ true
unfolding clap_on_literals
simple_is = refl

-- a command that `clap` has by its name
pub record Named (name : Text) (t : Row) : Type 0 where
  pub apart : IsApart t
  pub options : list_all is_option_name t.options ≡ true
  pub met : subcommand_met (names_of whole) idle name ≡ Some name
  pub found : find (λ s. answers_to name (label_of s)) whole.subs ≡ Some (leaf name (rules_of t))

module _ (name : Text) (t : Row) (known : Named name t) (rest : List Text) (all : List Piece) (is : pieces_of t rest ≡ Some all) where
  abbrev met_walk : Walk
  met_walk = record (walk_from nothing_held) { stopped = Some (name, []) }

  first_walked : walked [] (names_of whole) (walk_from nothing_held) name ≡ met_walk
  unfolding walked
  first_walked = ap (λ (o : Option Text). let m = subcommand_or_other [] o idle 1 name nothing_held in after_step [] name (walk_from nothing_held) m.0 m.1) known.met

  abbrev words : List Text
  words = name ∷ rest

  after : walk [] (names_of whole) nothing_held words ≡ fold (walked [] (names_of whole)) met_walk rest
  after = ap (λ (w : Walk). fold (walked [] (names_of whole)) w rest) first_walked

  stop_is : (walk [] (names_of whole) nothing_held words).stopped ≡ Some (name, rest)
  stop_is = ap (λ (w : Walk). w.stopped) after
      ∙ stopped_walk [] (names_of whole) (walk_from nothing_held) name [] rest

  entered_is : entered whole (walk [] (names_of whole) nothing_held words).stopped ≡ Some (name, rows_for all)
  entered_is = ap (entered whole) stop_is
      ∙ ap (option_map (λ (s : Shape). (s.name, rows_after s.rules [] rest))) known.found
      ∙ ap (λ (rows : List Found). Some (name, rows)) (rows_are name t known.apart rest all is)

  first_passes : turn_passes top (names_of whole) (walk_from nothing_held) name ≡ true
  first_passes = and_from _ _
      (ap (λ (o : Option Text). other_passes top o name nothing_held) known.met ∙ or-true (not (bytes_eq name (codes "help"))))
      (ap (λ (o : Option Text). let m = subcommand_or_other [] o idle 1 name nothing_held in step_passes top 1 m.0 m.1) known.met)

  below_passes : entered_passes whole (walk [] (names_of whole) nothing_held words).stopped ≡ true
  below_passes = ap (entered_passes whole) stop_is
      ∙ ap (λ (o : Option Shape). option_map_or (λ s. level_passes s [] nothing_held rest false) o true) known.found
      ∙ level_true name t known.apart rest all is

  top_passes : level_passes top (names_of whole) nothing_held words (is_some (entered whole (walk [] (names_of whole) nothing_held words).stopped)) ≡ true
  unfolding walk_passes
  top_passes = and_from _ _
      (and_from _ _ first_passes
      (ap (λ (w : Walk). walk_passes top (names_of whole) w rest) first_walked ∙ stopped_passes top (names_of whole) (walk_from nothing_held) name [] rest))
      (and_from _ _
      (ap (λ (w : Walk). settle_passes [] false w.held) after
      ∙ ap (settle_passes [] false) (stopped_held [] (names_of whole) (walk_from nothing_held) name [] rest))
      (ap (λ (o : Option (Text × List Found)). is_some o && true) entered_is))

  pub taken : takes hsds_app words ≡ true
  taken = and_from _ _ simple_is
      (ap (λ (a : App). built_takes a nothing_held words) built_is ∙ and_from _ _ below_passes top_passes)

  pub found_is : subcommand_of hsds_app words ≡ Some (name, rows_for all)
  found_is = ap (λ (a : App). entered a (stop_after a.top.rules (names_of a) words)) built_is
      ∙ entered_is

-- ---- the table

abbrev AllNamed : List Verb → Type 0
AllNamed [] = Unit {0}
AllNamed (verb ∷ verbs) = Named verb.row.name verb.row × AllNamed verbs

init_named : Named init_row.name init_row
init_named = record { apart = λ n e. cc; options = refl; met = refl; found = refl }

session_named : Named session_row.name session_row
session_named = record { apart = λ n e. cc; options = refl; met = refl; found = refl }

serve_named : Named serve_row.name serve_row
serve_named = record { apart = λ n e. cc; options = refl; met = refl; found = refl }

export_named : Named export_row.name export_row
export_named = record { apart = λ n e. cc; options = refl; met = refl; found = refl }

import_named : Named import_row.name import_row
import_named = record { apart = λ n e. cc; options = refl; met = refl; found = refl }

sample_named : Named sample_row.name sample_row
sample_named = record { apart = λ n e. refl; options = refl; met = refl; found = refl }

verify_named : Named verify_row.name verify_row
verify_named = record { apart = λ n e. cc; options = refl; met = refl; found = refl }

all_named : AllNamed verbs
all_named = (init_named, (session_named, (serve_named, (export_named, (import_named, (sample_named, (verify_named, tt)))))))

-- a verb that a name finds has this name, and is one of them
named_in : (list : List Verb) (name : Text) (verb : Verb) → AllNamed list
    → find (λ v. bytes_eq name v.row.name) list ≡ Some verb
    → (name ≡ verb.row.name) × Named verb.row.name verb.row
named_in [] name verb all e = cc
named_in (v ∷ list) name verb all e = go (bytes_eq name v.row.name) refl (named_in list name verb all.1)
  where
    go : (b : Bool) → bytes_eq name v.row.name ≡ b
        → (find (λ v. bytes_eq name v.row.name) list ≡ Some verb → (name ≡ verb.row.name) × Named verb.row.name verb.row)
        → (name ≡ verb.row.name) × Named verb.row.name verb.row
    go true is later =
        let same : Some v ≡ Some verb = sym (ap (λ (b : Bool). cond b (Some v) (find (λ v. bytes_eq name v.row.name) list)) is)
        ∙ e in
        let one : v ≡ verb = cc in
        (((bytes_eq-Decides name v.row.name).0 is) ∙ ap (λ (v : Verb). v.row.name) one, subst (λ (v : Verb). Named v.row.name v.row) one all.0)
    go false is later = later (sym (ap (λ (b : Bool). cond b (Some v) (find (λ v. bytes_eq name v.row.name) list)) is) ∙ e)

pub named_of : (name : Text) (verb : Verb) → verb_named name ≡ Some verb
    → (name ≡ verb.row.name) × Named verb.row.name verb.row
named_of name verb = named_in verbs name verb all_named

-- what `clap` makes of words that are a line of a command's row
pub record IsRead (words : List Text) : Type 0 where
  pub passes : takes hsds_app words ≡ true
  pub reads : option_and_then command_found (subcommand_of hsds_app words) ≡ command_of words

verb_read : (name : Text) (rest : List Text) (verb : Verb) (all : List Piece)
    → verb_named name ≡ Some verb → pieces_of verb.row rest ≡ Some all → IsRead (name ∷ rest)
verb_read name rest verb all at is =
    let known = named_of name verb at in
    let named : verb_named verb.row.name ≡ Some verb = ap verb_named (sym known.0) ∙ at in
    let read : IsRead (verb.row.name ∷ rest) = record {
      passes = taken verb.row.name verb.row known.1 rest all is;
      reads = ap (option_and_then command_found) (found_is verb.row.name verb.row known.1 rest all is)
          ∙ ap (option_and_then (λ (v : Verb). v.meaning (found_values (rows_for all)))) named
          ∙ ap verb.meaning (λ i n. first_is n all i)
          ∙ sym (ap (option_and_then (λ (v : Verb). meaning_of v rest)) named
          ∙ ap (option_and_then (λ (l : List Piece). verb.meaning (values_of l))) is);
    } in
    subst (λ (n : Text). IsRead (n ∷ rest)) (sym known.0) read

named_read : (name : Text) (rest : List Text) → is_some (pieces_in (name ∷ rest)) ≡ true
    → IsRead (name ∷ rest)
named_read name rest some = found (verb_named name) refl
  where
    read : (verb : Verb) → verb_named name ≡ Some verb → is_some (pieces_of verb.row rest) ≡ true
        → (o : Option (List Piece)) → pieces_of verb.row rest ≡ o → IsRead (name ∷ rest)
    read verb at some None is = let bad : false ≡ true = sym (ap is_some is) ∙ some in cc
    read verb at some (Some all) is = verb_read name rest verb all at is

    found : (o : Option Verb) → verb_named name ≡ o → IsRead (name ∷ rest)
    found None at =
        let bad : false ≡ true = sym (ap (λ (o : Option Verb). is_some (option_and_then (λ (v : Verb). pieces_of v.row rest) o)) at)
        ∙ some in cc
    found (Some verb) at =
        read verb at (sym (ap (λ (o : Option Verb). is_some (option_and_then (λ (v : Verb). pieces_of v.row rest) o)) at) ∙ some) (pieces_of verb.row rest) refl

-- words that are a line of a command's row are taken, and what `clap` finds is the command
pub line_is_read : (words : List Text) → is_some (pieces_in words) ≡ true → IsRead words
line_is_read [] some = let bad : false ≡ true = some in cc
line_is_read (name ∷ rest) some = named_read name rest some

-- other words are no command
pub no_line : (words : List Text) → is_some (pieces_in words) ≡ false → command_of words ≡ None
no_line [] none = refl
no_line (name ∷ rest) none = found (verb_named name) refl
  where
    read : (verb : Verb) → is_some (pieces_of verb.row rest) ≡ false → meaning_of verb rest ≡ None
    read verb none = by_pieces (pieces_of verb.row rest) none
      where
        by_pieces : (o : Option (List Piece)) → is_some o ≡ false
            → option_and_then (λ (l : List Piece). verb.meaning (values_of l)) o ≡ None
        by_pieces None none = refl
        by_pieces (Some all) none = let bad : true ≡ false = none in cc

    found : (o : Option Verb) → verb_named name ≡ o → command_of (name ∷ rest) ≡ None
    found None at = ap (option_and_then (λ (v : Verb). meaning_of v rest)) at
    found (Some verb) at = ap (option_and_then (λ (v : Verb). meaning_of v rest)) at
        ∙ read verb (sym (ap (λ (o : Option Verb). is_some (option_and_then (λ (v : Verb). pieces_of v.row rest) o)) at) ∙ none)
