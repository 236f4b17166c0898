-- What `clap` makes of a whole line: it passes, and the rows that are found are the pieces.
use Rattle.std.proofs.Common.{◌≡◌, ◌∙◌, ap, sym, Bool, true, false, not, ◌||◌, List, [], ◌∷◌, ◌++◌}
use Rattle.std.proofs.Common.{map, fold, Option, Some, None, option_and_then, refl, append_assoc}
use Rattle.std.specs.Prelude.{cond, slice_get, find}
use Rattle.std.specs.List.{list_all}
use Rattle.std.specs.Str.{bytes_eq}
use Rattle.std.proofs.lemmas.Bool.{and_from}
use Rattle.std.proofs.lemmas.List.{append-nil}
use Rattle.clap.specs.Walk.{Held, Names, Row as Found, Rule, Walk, finished, first_of, has_row}
use Rattle.clap.specs.Walk.{nothing_held, rows_after, settled, walk_from, walked, with_default}
use Rattle.clap.specs.Simple.{Shape}
use Rattle.clap.specs.Takes.{default_passes, is_given, is_valid, level_passes, settle_passes}
use Rattle.clap.specs.Takes.{walk_passes}
use Rattle.command_words.specs.Lines.{Text, Row, Piece}
use Rattle.command_words.specs.Reading.{pieces_of, value_of}
use Rattle.command_words.proofs.Steps.{held_for, option_rule, place_rule, place_rules, row_for}
use Rattle.command_words.proofs.Steps.{rows_for, rules_of, settle_true, settled_is}
use Rattle.command_words.proofs.Turns.{leaf}
use Rattle.command_words.proofs.Follow.{Idle, IsApart, follow}

-- ---- after the words

same_both : {X : Type 0} (b : Bool) (x : X) → cond b x x ≡ x
same_both true x = refl
same_both false x = refl

no_defaults_place : (o : Option Text) (rows : List Found)
    → fold with_default rows (place_rules o) ≡ rows
no_defaults_place None rows = refl
no_defaults_place (Some n) rows = same_both (has_row n rows) rows

no_defaults : (names : List Text) (o : Option Text) (rows : List Found)
    → fold with_default rows (map option_rule names ++ place_rules o) ≡ rows
no_defaults [] o rows = no_defaults_place o rows
no_defaults (n ∷ names) o rows =
    ap (λ (l : List Found). fold with_default l (map option_rule names ++ place_rules o)) (same_both (has_row n rows) rows)
    ∙ no_defaults names o rows

all_rules : (test : Rule → Bool) → ((n : Text) → test (option_rule n) ≡ true)
    → ((n : Text) → test (place_rule n) ≡ true) → (names : List Text) (o : Option Text)
    → list_all test (map option_rule names ++ place_rules o) ≡ true
all_rules test one other [] None = refl
all_rules test one other [] (Some n) = and_from _ _ (other n) refl
all_rules test one other (n ∷ names) o = and_from _ _ (one n) (all_rules test one other names o)

module _ (name : Text) (t : Row) (apart : IsApart t) (words : List Text) (all : List Piece) (is : pieces_of t words ≡ Some all) where
  abbrev c : List Rule
  c = rules_of t

  abbrev start : Idle t [] (walk_from nothing_held)
  start = record { g = []; p = None; k = 1; split = refl; at = refl; pending = tt; free = λ n at none. refl }

  abbrev end : Walk
  end = fold (walked c []) (walk_from nothing_held) words

  through : Idle t all end × (walk_passes (leaf name c) [] (walk_from nothing_held) words ≡ true)
  through = follow name t apart words None [] all (walk_from nothing_held) start is

  settled_end : settled c end.held ≡ held_for all None
  settled_end = ap (λ (w : Walk). settled c w.held) through.0.at
      ∙ settled_is c through.0.g through.0.p through.0.pending
      ∙ ap (λ (l : List Piece). held_for l None) (sym through.0.split)

  pub rows_are : rows_after c [] words ≡ rows_for all
  rows_are = ap (λ (h : Held). fold with_default h.rows c) settled_end
      ∙ no_defaults t.options t.place (rows_for all)

  valid : (rows : List Found) → is_valid (leaf name c) rows false ≡ true
  valid rows = and_from _ _ (all_rules (λ a. a.is_free) (λ n. refl) (λ n. refl) t.options t.place)
      (all_rules (λ a. not a.required || is_given a.id rows) (λ n. refl) (λ n. refl) t.options t.place)

  pub level_true : level_passes (leaf name c) [] nothing_held words false ≡ true
  level_true = and_from _ _ through.1 (and_from _ _
      (ap (λ (w : Walk). settle_passes c false w.held) through.0.at ∙ settle_true c through.0.g through.0.p through.0.pending)
      (and_from _ _ (all_rules default_passes (λ n. refl) (λ n. refl) t.options t.place) (valid (finished c end.held))))

-- the first value of a name
pub first_is : (name : Text) (pieces : List Piece)
    → first_of name (rows_for pieces) ≡ value_of name pieces
first_is name [] = refl
first_is name (p ∷ ps) = go (bytes_eq p.0 name) (first_is name ps)
  where
    go : (b : Bool) → first_of name (rows_for ps) ≡ value_of name ps
        → option_and_then (λ (r : Found). slice_get r.values 0) (cond b (Some (row_for p)) (find (λ r. bytes_eq r.id name) (rows_for ps))) ≡ cond b (Some p.1) (value_of name ps)
    go true later = refl
    go false later = later

-- ---- the command's name

pub stopped_walk : (c : List Rule) (names : Names) (w : Walk) (name : Text) (earlier words : List Text)
    → (fold (walked c names) (record w { stopped = Some (name, earlier) }) words).stopped ≡ Some (name, earlier ++ words)
unfolding walked
stopped_walk c names w name earlier [] = ap (λ (l : List Text). Some (name, l)) (sym (append-nil earlier))
stopped_walk c names w name earlier (word ∷ rest) = stopped_walk c names w name (earlier ++ word ∷ []) rest
    ∙ ap (λ (l : List Text). Some (name, l)) (append_assoc earlier (word ∷ []) rest)

pub stopped_held : (c : List Rule) (names : Names) (w : Walk) (name : Text) (earlier words : List Text)
    → (fold (walked c names) (record w { stopped = Some (name, earlier) }) words).held ≡ w.held
unfolding walked
stopped_held c names w name earlier [] = refl
stopped_held c names w name earlier (word ∷ rest) = stopped_held c names w name (earlier ++ word ∷ []) rest

pub stopped_passes : (s : Shape) (names : Names) (w : Walk) (name : Text) (earlier words : List Text)
    → walk_passes s names (record w { stopped = Some (name, earlier) }) words ≡ true
unfolding walked walk_passes
stopped_passes s names w name earlier [] = refl
stopped_passes s names w name earlier (word ∷ rest) = stopped_passes s names w name (earlier ++ word ∷ []) rest
