-- Lists of workers, before and after.
use Rattle.std.proofs.Common.{◌≡◌, ℕ, ◌+◌, ◌<◌, List, [], ◌∷◌, ◌++◌, length, map, Option, Some, None, zero, suc, refl, sym, ap, ◌∙◌, subst, arith, append_assoc}
use Rattle.std.specs.Prelude.{All, reverse}
use Rattle.std.specs.List.{slice_get}
use Rattle.std.proofs.lemmas.List.{map-append, reverse-append, reverse-reverse}
use Rattle.std.proofs.lemmas.Option.{get_or_from_slice_get, slice_get_within}
use Rattle.std.specs.Fork.{ChangesEach}
use denote.Param.Members.{Shared}
use denote.Ref.{MutBor}
use Rattle.std.proofs.lemmas.List.Elements.{All-head, All-tail, All-append, All-cons}
use Rattle.hall_rule.specs.Sums.{upward}
use Rattle.hall.specs.declared.desk.AtDesk.{Ghosts}
use Rattle.rest_session.specs.declared.halls.hiring.Report.{Report}
use Rattle.rest_session.specs.declared.halls.workers.Worker.{Worker}

-- what a worker has to tell
abbrev pub report : {D K F G : Type 0} {g : Ghosts D K} → Worker D F G K g → Report
report w = record { ends = w.ends; door_failed = w.door_failed }

pub all_none : {X : Type 0} (P : X → Type 0) → All P []
all_none P = λ k d lt. absurd (omega arith)

pub empty_of_length : {X : Type 0} (xs : List X) → length xs ≡ 0 → xs ≡ []
empty_of_length [] e = refl
empty_of_length (x ∷ xs) e = absurd (omega (arith, e))

pub some_same : {X : Type 0} (a b : X) → ◌≡◌ {A = Option X} (Some a) (Some b) → a ≡ b
some_same a b e = cc

pub map_of : {X Y Z : Type 0} (g : Y → Z) (f : X → Y) (xs : List X) → map g (map f xs) ≡ map (λ x. g (f x)) xs
map_of g f [] = refl
map_of g f (x ∷ xs) = ap (λ l. g (f x) ∷ l) (map_of g f xs)

-- what is the same of each element is the same of the list
pub map_same : {X Y : Type 0} (f : X → Y) (xs ys : List X) → length ys ≡ length xs → ((i : ℕ) (x y : X) → slice_get xs i ≡ Some x → slice_get ys i ≡ Some y → f y ≡ f x) → map f ys ≡ map f xs
map_same f [] [] e h = refl
map_same f [] (y ∷ ys) e h = absurd (omega arith)
map_same f (x ∷ xs) [] e h = absurd (omega arith)
map_same f (x ∷ xs) (y ∷ ys) e h =
    let here = h 0 x y refl refl in
    let more = map_same f xs ys (omega arith) (λ i a b p q. h (suc i) a b p q) in
    (λ i. here i ∷ more i)

-- what holds of each by its place, holds of all
pub all_same : {X : Type 0} (P : X → Type 0) (xs ys : List X) → length ys ≡ length xs → ((i : ℕ) (x y : X) → slice_get xs i ≡ Some x → slice_get ys i ≡ Some y → P y) → All P ys
all_same P xs [] e h = all_none P
all_same P [] (y ∷ ys) e h = absurd (omega arith)
all_same P (x ∷ xs) (y ∷ ys) e h = All-cons P y ys (h 0 x y refl refl) (all_same P xs ys (omega arith) (λ i a b p q. h (suc i) a b p q))

pub all_mid : {X : Type 0} (P : X → Type 0) (xs ys : List X) (x : X) → All P (xs ++ x ∷ ys) → P x
all_mid P [] ys x h = All-head P x ys h
all_mid P (z ∷ xs) ys x h = all_mid P xs ys x (All-tail P z (xs ++ x ∷ ys) h)

pub all_front : {X : Type 0} (P : X → Type 0) (xs ys : List X) → All P (xs ++ ys) → All P xs
all_front P [] ys h = all_none P
all_front P (x ∷ xs) ys h = All-cons P x xs (All-head P x (xs ++ ys) h) (all_front P xs ys (All-tail P x (xs ++ ys) h))

pub all_back : {X : Type 0} (P : X → Type 0) (xs ys : List X) → All P (xs ++ ys) → All P ys
all_back P [] ys h = h
all_back P (x ∷ xs) ys h = all_back P xs ys (All-tail P x (xs ++ ys) h)

pub all_map : {X Y : Type 0} (P : Y → Type 0) (f : X → Y) (xs : List X) → All P (map f xs) → All (λ x. P (f x)) xs
all_map P f [] h = all_none (λ x. P (f x))
all_map P f (x ∷ xs) h = All-cons (λ x. P (f x)) x xs (All-head P (f x) (map f xs) h) (all_map P f xs (All-tail P (f x) (map f xs) h))

pub all_images : {X Y : Type 0} (P : Y → Type 0) (f : X → Y) (xs : List X) → All (λ x. P (f x)) xs → All P (map f xs)
all_images P f [] h = all_none P
all_images P f (x ∷ xs) h = All-cons P (f x) (map f xs) (All-head (λ z. P (f z)) x xs h) (all_images P f xs (All-tail (λ z. P (f z)) x xs h))

pub all_on : {X : Type 0} (P Q : X → Type 0) (xs : List X) → ((x : X) → P x → Q x) → All P xs → All Q xs
all_on P Q [] on h = all_none Q
all_on P Q (x ∷ xs) on h = All-cons Q x xs (on x (All-head P x xs h)) (all_on P Q xs on (All-tail P x xs h))

pub all_two : {X : Type 0} (P Q R : X → Type 0) (xs : List X) → ((x : X) → P x → Q x → R x) → All P xs → All Q xs → All R xs
all_two P Q R [] on h k = all_none R
all_two P Q R (x ∷ xs) on h k =
    All-cons R x xs (on x (All-head P x xs h) (All-head Q x xs k)) (all_two P Q R xs on (All-tail P x xs h) (All-tail Q x xs k))

pub all_push : {X : Type 0} (P : X → Type 0) (xs : List X) (x : X) → All P xs → P x → All P (xs ++ x ∷ [])
all_push P xs x h p = All-append P xs (x ∷ []) h (All-cons P x [] p (all_none P))

pub all_at : {X : Type 0} (P : X → Type 0) (xs : List X) (i : ℕ) (x : X) → All P xs → slice_get xs i ≡ Some x → P x
all_at P [] i x h e = absurd (let none : None ≡ Some x = e in cc)
all_at P (z ∷ xs) zero x h e = let same : z ≡ x = cc in subst P same (All-head P z xs h)
all_at P (z ∷ xs) (suc i) x h e = all_at P xs i x (All-tail P z xs h) e

module _ {X : Type 0} where
  pub reverse_push : (xs : List X) (x : X) → reverse (xs ++ x ∷ []) ≡ x ∷ reverse xs
  reverse_push xs x = reverse-append xs (x ∷ [])

  pub reverse_cons : (x : X) (xs : List X) → reverse (x ∷ xs) ≡ reverse xs ++ x ∷ []
  reverse_cons x xs = reverse-append (x ∷ []) xs

  -- what was handed over in reverse order lies in order once it is reversed
  pub reversed_back : (now old xs : List X) → old ≡ [] → now ≡ old ++ reverse xs → reverse now ≡ xs
  reversed_back now old xs none e = ap reverse (e ∙ ap (λ l. l ++ reverse xs) none) ∙ reverse-reverse xs

pub all_reverse : {X : Type 0} (P : X → Type 0) (xs : List X) → All P (reverse xs) → All P xs
all_reverse P [] h = h
all_reverse P (x ∷ xs) h =
    let h' = subst (All P) (reverse_cons x xs) h in
    All-cons P x xs (all_mid P (reverse xs) [] x h') (all_reverse P xs (all_front P (reverse xs) (x ∷ []) h'))

-- elements of a list by their place
module _ {X Y : Type 0} (f : X → Y) where
  pub get_map : (xs : List X) (i : ℕ) (x : X) → slice_get xs i ≡ Some x → slice_get (map f xs) i ≡ Some (f x)
  get_map [] i x e = absurd (let none : None ≡ Some x = e in cc)
  get_map (z ∷ xs) zero x e = let same : z ≡ x = cc in ap (λ y. Some (f y)) same
  get_map (z ∷ xs) (suc i) x e = get_map xs i x e

  pub found : (xs : List X) (i : ℕ) (y : Y) → slice_get (map f xs) i ≡ Some y → (x : X) × (slice_get xs i ≡ Some x) × (f x ≡ y)
  found [] i y e = absurd (let none : None ≡ Some y = e in cc)
  found (x ∷ xs) zero y e = (x, refl, (let same : f x ≡ y = cc in same))
  found (x ∷ xs) (suc i) y e = found xs i y e

-- the numbers from a on, one more in front or at the end
pub upward_first : (a n : ℕ) → upward a (n + 1) ≡ a ∷ upward (a + 1) n
upward_first a n = subst (λ m. upward a m ≡ a ∷ upward (a + 1) n) (let e : suc n ≡ n + 1 = omega arith in e) refl

pub upward_push : (a n : ℕ) → upward a (n + 1) ≡ upward a n ++ (a + n) ∷ []
upward_push a n = subst (λ m. upward a m ≡ upward a n ++ (a + n) ∷ []) (let e : suc n ≡ n + 1 = omega arith in e) (one_more a n)
  where
    one_more : (a n : ℕ) → upward a (suc n) ≡ upward a n ++ (a + n) ∷ []
    one_more a zero = ap (λ m. m ∷ []) (let e : a ≡ a + 0 = omega arith in e)
    one_more a (suc n) = ap (λ l. a ∷ l) (one_more (a + 1) n ∙ ap (λ m. upward (a + 1) n ++ m ∷ []) (let e : (a + 1) + n ≡ a + suc n = omega arith in e))

pub upward_at : (a n i : ℕ) → i < n → slice_get (upward a n) i ≡ Some (a + i)
upward_at a zero i lt = absurd (omega arith)
upward_at a (suc n) zero lt = ap (λ (m : ℕ). Some m) (let e : a ≡ a + 0 = omega arith in e)
upward_at a (suc n) (suc i) lt = upward_at (a + 1) n i (omega arith) ∙ ap (λ (m : ℕ). Some m) (let e : (a + 1) + i ≡ a + suc i = omega arith in e)

pub length_upward : (a n : ℕ) → length (upward a n) ≡ n
length_upward a zero = refl
length_upward a (suc n) = ap suc (length_upward (a + 1) n)

-- A list that empties from its end fills another, each element in the place that it had.
module _ {W D : Type 0} (f : W → D) where
  -- one more of those that wait was taken
  pub moved : (ws : List W) (w : W) (waiting left all : List D) → waiting ≡ f w ∷ left → map f ws ++ waiting ≡ all → map f (ws ++ w ∷ []) ++ left ≡ all
  moved ws w waiting left all first so_far =
      ap (λ l. l ++ left) (map-append f ws (w ∷ [])) ∙ append_assoc (map f ws) (f w ∷ []) left ∙ sym (ap (λ l. map f ws ++ l) first) ∙ so_far

  -- one more was taken from the end of a pile
  pub unpiled : (ws : List W) (w : W) (old new all : List D) → old ≡ new ++ f w ∷ [] → all ≡ old ++ reverse (map f ws) → all ≡ new ++ reverse (map f (ws ++ w ∷ []))
  unpiled ws w old new all last so_far =
      so_far ∙ ap (λ l. l ++ reverse (map f ws)) last ∙ append_assoc new (f w ∷ []) (reverse (map f ws))
      ∙ ap (λ l. new ++ l) (sym (ap reverse (map-append f ws (w ∷ [])) ∙ reverse_push (map f ws) (f w)))

  -- one more was handed over, in front of those that were
  pub handed_back : (done : List W) (w : W) (now old new : List D) (d : D) → new ≡ now ++ d ∷ [] → f w ≡ d → now ≡ old ++ reverse (map f done) → new ≡ old ++ reverse (map f (w ∷ done))
  handed_back done w now old new d last is so_far =
      last ∙ ap (λ l. l ++ d ∷ []) so_far ∙ append_assoc old (reverse (map f done)) (d ∷ [])
      ∙ ap (λ l. old ++ l) (ap (λ x. reverse (map f done) ++ x ∷ []) (sym is) ∙ sym (reverse_cons (f w) (map f done)))

-- what holds of each element and of what a call left of it
module _ {F T : Type 0} (g : Shared F (ℕ × (MutBor T × Unit {0})) ((Unit {0}) × (MutBor T × Unit {0}))) (f : F) (R : T → T → Type 0) where
  pub each_left : (xs ys : List T) → ChangesEach g f xs ys → ((i : ℕ) (p q : MutBor T) → g.post f (i, (p, tt)) (tt, (q, tt)) → R p.now q.now)
      → (i : ℕ) (x y : T) → slice_get xs i ≡ Some x → slice_get ys i ≡ Some y → R x y
  each_left xs ys changes one i x y was is =
      let k = (changes i x (slice_get_within xs i x was)).1 in
      let before = k.argument_is ∙ get_or_from_slice_get xs i x x was in
      let after = k.left ∙ get_or_from_slice_get ys i y x is in
      subst (λ (t : T × T). R t.0 t.1) (λ j. (before j, after j)) (one i k.argument k.after_call k.call)
