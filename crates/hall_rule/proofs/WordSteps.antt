-- What a draw, a load and a pass do to the words.
use Rattle.std.proofs.Common.{◌≡◌, ⊎_elim, ℕ, zero, suc, ◌+◌, ◌%◌, ◌^◌, ◌<◌, List, [], ◌∷◌, set, get_or, length-set, get_or-set_same}
use Rattle.std.proofs.Common.{get_or-set_other, refl, sym, ap, ◌∙◌, subst, arith}
use Rattle.hall_rule.specs.declared.queue.Queue.{Queue}
use Rattle.hall_rule.specs.declared.view.Lists.{Lists}
use Rattle.hall_rule.specs.Queues.{word_of, IsQueue}
use Rattle.hall_rule.specs.Seen.{len_of}
use Rattle.hall_rule.specs.Rule.{ShowsLengths}
use Rattle.hall_rule.proofs.QueueLemmas.{Apart, same_or_apart, word_in}

up : (n : ℕ) → n + 1 < 18446744073709551616 → (n + 1) % 18446744073709551616 ≡ n + 1
up n h = omega arith

-- a load writes what it found
pub same_words : (ws : List ℕ) (i : ℕ) → set ws i (get_or ws i 0) ≡ ws
same_words [] i = refl
same_words (x ∷ ws) zero = refl
same_words (x ∷ ws) (suc i) = ap (λ l. x ∷ l) (same_words ws i)

module _ {Q V T R N : Type 0} (lanes register_next desk_next : ℕ) (h : Lists Q V T R N) (words : List ℕ) where
  pub words_register_draw : ShowsLengths lanes register_next desk_next h words → register_next + 1 < 2 ^ 64
      → ShowsLengths lanes (register_next + 1) desk_next h (set words 0 ((get_or words 0 0 + 1) % 2 ^ 64))
  words_register_draw ok room =
      let next : ℕ = (get_or words 0 0 + 1) % 18446744073709551616 in
      let first = ok.register_next_is in
      let count = ok.count in record {
        count = length-set words 0 next ∙ ok.count;
        register_next_is = get_or-set_same words 0 next 0 (omega arith) ∙ up (get_or words 0 0) (omega arith)
            ∙ ap (λ n. n + 1) ok.register_next_is;
        desk_next_is = get_or-set_other words 0 1 next 0 (λ e. absurd (omega (arith, e))) ∙ ok.desk_next_is;
        shows = λ q is. let high = word_in lanes q is in
            get_or-set_other words 0 (word_of q) next 0 (λ e. absurd (omega (arith, e))) ∙ ok.shows q is;
      }

  pub words_desk_draw : ShowsLengths lanes register_next desk_next h words → desk_next + 1 < 2 ^ 64
      → ShowsLengths lanes register_next (desk_next + 1) h (set words 1 ((get_or words 1 0 + 1) % 2 ^ 64))
  words_desk_draw ok room =
      let next : ℕ = (get_or words 1 0 + 1) % 18446744073709551616 in
      let first = ok.desk_next_is in
      let count = ok.count in record {
        count = length-set words 1 next ∙ ok.count;
        register_next_is = get_or-set_other words 1 0 next 0 (λ e. absurd (omega (arith, e))) ∙ ok.register_next_is;
        desk_next_is = get_or-set_same words 1 next 0 (omega arith) ∙ up (get_or words 1 0) (omega arith) ∙ ap (λ n. n + 1) ok.desk_next_is;
        shows = λ q is. let high = word_in lanes q is in
            get_or-set_other words 1 (word_of q) next 0 (λ e. absurd (omega (arith, e))) ∙ ok.shows q is;
      }

  pub words_pass : (h' : Lists Q V T R N) (q : Queue) → IsQueue lanes q → len_of h q + 1 < 2 ^ 64 → len_of h' q ≡ len_of h q + 1
      → ((q' : Queue) → Apart q q' → len_of h' q' ≡ len_of h q')
      → ShowsLengths lanes register_next desk_next h words
      → ShowsLengths lanes register_next desk_next h' (set words (word_of q) ((get_or words (word_of q) 0 + 1) % 2 ^ 64))
  words_pass h' q is room longer others ok =
      let i : ℕ = word_of q in
      let next : ℕ = (get_or words i 0 + 1) % 18446744073709551616 in
      let high = word_in lanes q is in
      let shown : get_or words i 0 ≡ len_of h q = ok.shows q is in
      let count = ok.count in record {
        count = length-set words i next ∙ ok.count;
        register_next_is = get_or-set_other words i 0 next 0 (λ e. absurd (omega (arith, e))) ∙ ok.register_next_is;
        desk_next_is = get_or-set_other words i 1 next 0 (λ e. absurd (omega (arith, e))) ∙ ok.desk_next_is;
        shows = λ q' is'. ⊎_elim
            (λ (e : q ≡ q'). subst (λ (x : Queue). get_or (set words i next) (word_of x) 0 ≡ len_of h' x) e
            (get_or-set_same words i next 0 (omega arith) ∙ up (get_or words i 0) (omega arith) ∙ ap (λ n. n + 1) shown ∙ sym longer))
            (λ (a : Apart q q'). get_or-set_other words i (word_of q') next 0 a.words ∙ ok.shows q' is' ∙ sym (others q' a))
            (same_or_apart q q');
      }
