-- Legal histories cut short.
use Rattle.std.proofs.Common.{◌≡◌, ℕ, suc, ◌≤◌, [], ◌∷◌, ◌++◌, length, refl, ap, sym, ◌∙◌, subst, arith, append_assoc}
use Rattle.lane_histories.specs.Services.{Service}
use Rattle.lane_histories.specs.Histories.{tickets, ticket_of, tickets_of, issued, register_step, objects_step, RegisterList, LaneList}
use Rattle.lane_histories.specs.Legal.{IsLegalRegister, IsLegalLane, cuts_on, places_on}
use Rattle.lane_histories.specs.Laws.{PrefixesAreLegal}
use Rattle.lane_histories.proofs.Lists.{begins, in_longer}

module _ (s : Service) where
  pub register_front : (xs ys : RegisterList s) (d : s.Register) (places cuts : ℕ) → IsLegalRegister s d places cuts (xs ++ ys)
      → IsLegalRegister s d places cuts xs
  register_front [] ys d places cuts legal = tt
  register_front (x ∷ xs) ys d places cuts legal = (legal.0, register_front xs ys (register_step s d x) (places_on places x) (cuts_on cuts x) legal.1)

  lane_front : (xs ys : LaneList s) (o : s.Objects) → IsLegalLane s o (xs ++ ys) → IsLegalLane s o xs
  lane_front [] ys o legal = tt
  lane_front (x ∷ xs) ys o legal = (legal.0, lane_front xs ys (objects_step s o x) legal.1)

  pub tickets_both : (xs ys : LaneList s) → tickets (xs ++ ys) ≡ tickets xs ++ tickets ys
  tickets_both [] ys = refl
  tickets_both (x ∷ xs) ys = ap (λ l. ticket_of x ∷ l) (tickets_both xs ys)

  pub issued_both : (l : ℕ) (xs ys : RegisterList s) → issued s l (xs ++ ys) ≡ issued s l xs ++ issued s l ys
  issued_both l [] ys = refl
  issued_both l (x ∷ xs) ys = ap (λ r. tickets_of s l x ++ r) (issued_both l xs ys) ∙ sym (append_assoc (tickets_of s l x) (issued s l xs) (issued s l ys))

  tickets_length : (xs : LaneList s) → length (tickets xs) ≡ length xs
  tickets_length [] = refl
  tickets_length (x ∷ xs) = ap suc (tickets_length xs)

  pub prefixes_legal : PrefixesAreLegal s
  prefixes_legal start h g legal prefix has =
      record {
        register = register_front h.register prefix.register.0 start.register 0 0 (subst (IsLegalRegister s start.register 0 0) prefix.register.1 legal.register);
        lanes = λ l. let more = prefix.lane l in lane_front (h.lane l) more.0 (start.objects l) (subst (IsLegalLane s (start.objects l)) more.1 (legal.lanes l));
        in_order = λ l.
            let more = prefix.lane l in
            let starts = legal.in_order l in
            let mine : issued s l g.register ≡ tickets (h.lane l) ++ (tickets more.0 ++ starts.0) =
            starts.1 ∙ ap (λ i. tickets i ++ starts.0) more.1 ∙ ap (λ t. t ++ starts.0) (tickets_both (h.lane l) more.0) ∙ append_assoc (tickets (h.lane l)) (tickets more.0) starts.0 in
            let theirs : issued s l g.register ≡ issued s l h.register ++ issued s l prefix.register.0 = ap (issued s l) prefix.register.1 ∙ issued_both l h.register prefix.register.0 in
            let same : length (tickets (h.lane l)) ≡ length (h.lane l) = tickets_length (h.lane l) in
            let few : length (h.lane l) ≤ length (issued s l h.register) = has l in
            begins (tickets (h.lane l)) (issued s l h.register) (tickets more.0 ++ starts.0) (issued s l prefix.register.0) (sym mine ∙ theirs) (omega arith);
        pairs = λ a b place task next x y is_first is_second. legal.pairs a b place task next x y (in_longer _ _ _ (prefix.lane a) is_first) (in_longer _ _ _ (prefix.lane b) is_second);
      }
