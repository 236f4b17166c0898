-- One word of a subcommand's: what the walk becomes, and that it passes.
use Rattle.std.proofs.Common.{◌≡◌, ◌∙◌, ◌⊎◌, ap, ap₂, ℕ, ◌+◌, Bool, true, false, ◌||◌, List, []}
use Rattle.std.proofs.Common.{◌∷◌, ◌++◌, min, Option, Some, None, refl, inl, inr}
use Rattle.std.specs.Prelude.{if◌then◌else◌, nat_lt}
use Rattle.std.specs.Option.{option_map_or}
use Rattle.std.specs.Str.{bytes_eq}
use Rattle.std.proofs.lemmas.Slice.Eq.{bytes_eq-Decides}
use Rattle.std.proofs.Math.Bool.{and-false}
use Rattle.std.proofs.lemmas.Bool.{and_from}
use Rattle.clap.specs.Lexer.{long_of}
use Rattle.clap.specs.Walk.{Held, Row as Found, Rule, Step, Waiting, after_flag, after_step}
use Rattle.clap.specs.Walk.{arg_by_index, arg_by_long, idle, is_pending, long_met, long_or_other}
use Rattle.clap.specs.Walk.{next, option, option_word, positional_held, pushed, reacted, settled}
use Rattle.clap.specs.Walk.{short_or_plain, subcommand_met, to_positional, trailing, used, value, walked, word_met}
use Rattle.clap.specs.Simple.{Shape, new_shape}
use Rattle.clap.specs.Takes.{flag_word_passes, long_passes, bundle_passes, other_passes, positional_passes}
use Rattle.clap.specs.Takes.{settle_passes, step_passes, turn_passes, use_passes}
use Rattle.command_words.specs.Lines.{Text, Piece, has_piece}
use Rattle.command_words.proofs.Steps.{IsKnown, IsPending, IsPlain, dashes, held_for, held_open}
use Rattle.command_words.proofs.Steps.{listed, option_rule, place_rule, settle_true, settled_is}
use Rattle.command_words.proofs.Steps.{stand, use_new, used_new, wait}

-- a built subcommand
abbrev pub leaf : Text → List Rule → Shape
leaf name c = record (new_shape name) {
  rules = c;
  no_binary_name = true;
  disable_help_flag = true;
  disable_help_subcommand = true;
  is_built = true;
}

-- a word that isn't two hyphens passes where the option that it may be does, and the step that it makes
word_passes : (name : Text) (c : List Rule) (h : Held) (waiting : Waiting) (k : ℕ) (word : Text) (o : Option (Text × Option Text)) (m : Held × Step)
    → subcommand_met [] waiting word ≡ None → bytes_eq word dashes ≡ false → long_of word ≡ o
    → word_met c [] false waiting k word h ≡ m → flag_word_passes c false o word h ≡ true
    → step_passes (leaf name c) k m.0 m.1 ≡ true
    → turn_passes (leaf name c) [] (record { held = h; waiting = waiting; position = k; is_trailing = false; stopped = None }) word ≡ true
word_passes name c h waiting k word o m none other is met flag step = and_from _ _
    (ap (λ (s : Option Text). other_passes (leaf name c) s word h) none
    ∙ ap (λ (b : Bool). b || flag_word_passes c false (long_of word) word h) other
    ∙ ap (λ (o : Option (Text × Option Text)). flag_word_passes c false o word h) is
    ∙ flag)
    (ap (λ (m : Held × Step). step_passes (leaf name c) k m.0 m.1) met ∙ step)

module _ (name : Text) (c : List Rule) (g : List Piece) (p : Option Piece) (k : ℕ) (word : Text) (ok : IsPending c g p) where
  abbrev h : Held
  h = held_for g p

  -- `--id=v`
  module _ (id v : Text) (no : bytes_eq word dashes ≡ false) (is : long_of word ≡ Some (id, Some v))
      (found : arg_by_long c id ≡ Some (option_rule id)) (new : has_piece id (g ++ listed p) ≡ false) where
    joined_met : word_met c [] false idle k word h ≡ (reacted c (option_rule id) (v ∷ []) h, next idle)
    joined_met =
        ap (λ (b : Bool). if b then (h, trailing k) else long_or_other c idle word (long_of word) h) no
        ∙ ap (λ (o : Option (Text × Option Text)). long_or_other c idle word o h) is
        ∙ ap (λ (a : Option Rule). after_flag c idle word (long_met c a (Some v) h).0 (long_met c a (Some v) h).1) found

    reacted_is : reacted c (option_rule id) (v ∷ []) h ≡ held_for ((g ++ listed p) ++ (id, v) ∷ []) None
    reacted_is =
        ap (λ (x : Held). record { rows = used (option_rule id) (v ∷ []) x.rows; pending = None; skip = 0 }) (settled_is c g p ok)
        ∙ ap (λ (rows : List Found). record { rows = rows; pending = None; skip = 0 }) (used_new id v (g ++ listed p) new)

    pub joined : walked c [] (stand g p k) word ≡ stand ((g ++ listed p) ++ (id, v) ∷ []) None k
    unfolding walked
    joined =
        ap (λ (m : Held × Step). after_step c word (stand g p k) m.0 m.1) joined_met
        ∙ ap (λ (x : Held). record (stand g p k) { held = x; waiting = idle }) reacted_is

    pub joined_passes : turn_passes (leaf name c) [] (stand g p k) word ≡ true
    joined_passes =
        word_passes name c h idle k word (Some (id, Some v)) (reacted c (option_rule id) (v ∷ []) h, next idle) refl no is joined_met
        (ap (λ (a : Option Rule). long_passes c false a (Some v) h) found
        ∙ and_from _ _ (settle_true c g p ok)
        (ap (λ (x : Held). use_passes false (option_rule id) (v ∷ []) x.rows) (settled_is c g p ok) ∙ use_new id v (g ++ listed p) new))
        refl

  -- `--id`
  module _ (id : Text) (no : bytes_eq word dashes ≡ false) (is : long_of word ≡ Some (id, None))
      (found : arg_by_long c id ≡ Some (option_rule id)) where
    opened_met : word_met c [] false idle k word h ≡ (record (settled c h) { pending = Some (id, []) }, next (option id))
    opened_met =
        ap (λ (b : Bool). if b then (h, trailing k) else long_or_other c idle word (long_of word) h) no
        ∙ ap (λ (o : Option (Text × Option Text)). long_or_other c idle word o h) is
        ∙ ap (λ (a : Option Rule). after_flag c idle word (long_met c a None h).0 (long_met c a None h).1) found

    pub opened : walked c [] (stand g p k) word ≡ wait (g ++ listed p) id k
    unfolding walked
    opened =
        ap (λ (m : Held × Step). after_step c word (stand g p k) m.0 m.1) opened_met
        ∙ ap (λ (x : Held). record (stand g p k) { held = record x { pending = Some (id, []) }; waiting = option id }) (settled_is c g p ok)

    pub opened_passes : turn_passes (leaf name c) [] (stand g p k) word ≡ true
    opened_passes =
        word_passes name c h idle k word (Some (id, None)) (record (settled c h) { pending = Some (id, []) }, next (option id)) refl no is opened_met
        (ap (λ (a : Option Rule). long_passes c false a None h) found ∙ settle_true c g p ok)
        refl

  -- PATH or N
  module _ (id : Text) (plain : IsPlain word) (first : k ≡ 1) (found : arg_by_index c 1 ≡ Some (place_rule id)) where
    place_met : word_met c [] false idle k word h ≡ (h, value)
    place_met =
        ap (λ (b : Bool). if b then (h, trailing k) else long_or_other c idle word (long_of word) h) plain.no_dashes
        ∙ ap (λ (o : Option (Text × Option Text)). long_or_other c idle word o h) plain.no_long
        ∙ ap (λ (o : Option Text). short_or_plain c idle word o h) plain.no_short

    found_here : arg_by_index c k ≡ Some (place_rule id)
    found_here = ap (arg_by_index c) first ∙ found

    place_held : positional_held c (place_rule id) word h ≡ held_for (g ++ listed p) (Some (id, word))
    place_held =
        ap (λ (b : Bool). pushed id word (if b then h else settled c h)) (and-false (is_pending (place_rule id) h.pending))
        ∙ ap (pushed id word) (settled_is c g p ok)

    pub place : walked c [] (stand g p k) word ≡ stand (g ++ listed p) (Some (id, word)) 2
    unfolding walked
    place =
        ap (λ (m : Held × Step). after_step c word (stand g p k) m.0 m.1) place_met
        ∙ ap (λ (a : Option Rule). to_positional c a word (stand g p k) h) found_here
        ∙ ap₂ (λ (x : Held) (j : ℕ). record { held = x; waiting = idle; position = min (j + 1) 18446744073709551615; is_trailing = false; stopped = None }) place_held first

    pub place_passes : turn_passes (leaf name c) [] (stand g p k) word ≡ true
    place_passes =
        word_passes name c h idle k word None (h, value) refl plain.no_dashes plain.no_long place_met
        (ap (λ (o : Option Text). option_map_or (λ flags. bundle_passes c false flags h) o true) plain.no_short)
        (ap (λ (a : Option Rule). option_map_or (λ a. positional_passes c false a h) a false) found_here
        ∙ ap (λ (b : Bool). b || settle_passes c false h) (and-false (is_pending (place_rule id) h.pending))
        ∙ settle_true c g p ok)

-- the value of the option that waits
module _ (name : Text) (c : List Rule) (g : List Piece) (k : ℕ) (word id : Text) (plain : IsPlain word) (known : IsKnown c id) where
  value_rule_word : (r : Rule) → (r ≡ option_rule id) ⊎ (r ≡ place_rule id)
      → option_word (Some r) id word (held_open g id) ≡ (held_for g (Some (id, word)), idle)
  value_rule_word r (inl e) = ap (λ (a : Rule). option_word (Some a) id word (held_open g id)) e
      ∙ ap (λ (b : Bool). (held_for g (Some (id, word)), if nat_lt (if b then 1 else 0) 1 then option id else idle)) ((bytes_eq-Decides id id).1 refl)
  value_rule_word r (inr e) = ap (λ (a : Rule). option_word (Some a) id word (held_open g id)) e
      ∙ ap (λ (b : Bool). (held_for g (Some (id, word)), if nat_lt (if b then 1 else 0) 1 then option id else idle)) ((bytes_eq-Decides id id).1 refl)

  value_met : word_met c [] false (option id) k word (held_open g id) ≡ (held_for g (Some (id, word)), next idle)
  value_met =
      ap (λ (b : Bool). if b then (held_open g id, trailing k) else long_or_other c (option id) word (long_of word) (held_open g id)) plain.no_dashes
      ∙ ap (λ (o : Option (Text × Option Text)). long_or_other c (option id) word o (held_open g id)) plain.no_long
      ∙ ap (λ (o : Option Text). short_or_plain c (option id) word o (held_open g id)) plain.no_short
      ∙ ap (λ (a : Option Rule). ((option_word a id word (held_open g id)).0, next (option_word a id word (held_open g id)).1)) known.1
      ∙ ap (λ (m : Held × Waiting). (m.0, next m.1)) (value_rule_word known.0 known.2)

  pub value_taken : walked c [] (wait g id k) word ≡ stand g (Some (id, word)) k
  unfolding walked
  value_taken = ap (λ (m : Held × Step). after_step c word (wait g id k) m.0 m.1) value_met

  pub value_passes : turn_passes (leaf name c) [] (wait g id k) word ≡ true
  value_passes =
      word_passes name c (held_open g id) (option id) k word None (held_for g (Some (id, word)), next idle) refl plain.no_dashes plain.no_long value_met
      (ap (λ (o : Option Text). option_map_or (λ flags. bundle_passes c false flags (held_open g id)) o true) plain.no_short)
      refl
