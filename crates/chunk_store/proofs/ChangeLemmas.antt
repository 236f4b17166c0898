-- Which chunks may be dirty, after each call.
use Rattle.std.proofs.Common.{◌≡◌, ℕ, suc, ◌||◌, Bool, true, false, cond, is_some, bytes_eq, List, [], ◌∷◌, Option, Some, None, option_map, inl, inr, refl, sym, ap, ◌∙◌, arith}
use Rattle.std.specs.BTreeMap.{BTreeMap}
use Rattle.std.specs.Map.{keys_of, lookup}
use Rattle.std.proofs.lemmas.Bool.{cases_Bool, or_right}
use Rattle.std.proofs.lemmas.Slice.Eq.{bytes_eq-Decides}
use Rattle.shapes.specs.declared.Shape.{Shape}
use Rattle.chunk_layout.specs.Chunks.{quotients}
use Rattle.chunk_store.specs.Buffers.{AreThere, IsNoted, flag_at, has_cell, when_cleared}
use Rattle.chunk_store.specs.Cells.{find_in, has, put}
use Rattle.chunk_store.specs.Changes.{AreListed, KeepsListed, cleaned, is_dirty_in, marked}
use Rattle.chunk_store.specs.Marks.{after_resize, flagged, touches}
use Rattle.chunk_store.specs.declared.buffers.Frame.{Frame}
use Rattle.chunk_store.specs.declared.buffers.Held.{Held}
use Rattle.chunk_store.specs.declared.changes.Changes.{Changes}
use Rattle.chunk_store.proofs.BufferLemmas.{Chunks, put_else, same_or}
use Rattle.chunk_store.proofs.GrowthLemmas.{apart_keys}
use Rattle.chunk_store.proofs.KeyLemmas.{put_cases, put_here}
use Rattle.chunk_store.proofs.TurnLemmas.{has_flag}

-- ---- listed chunks

-- a touched chunk is listed where those of all cells are
pub touched_there : {X : Type 0} (m : BTreeMap (List ℕ) X) (f : Frame) (ats : List (List ℕ)) (i : List ℕ) → AreThere m f ats → touches f.layout.chunk ats i ≡ true → has m i ≡ true
touched_there m f [] i there t = absurd (let both : false ≡ true = t in cc)
touched_there m f (at ∷ ats) i there t = elim (cases_Bool (bytes_eq (quotients at f.layout.chunk) i)) [
  | inl here ↦ ap (has m) (sym ((bytes_eq-Decides (quotients at f.layout.chunk) i).0 here)) ∙ there 0 (omega arith)
  | inr other ↦ touched_there m f ats i (λ k low. there (suc k) (omega (arith, low))) (ap (λ b. b || touches f.layout.chunk ats i) (sym other) ∙ t)
]

or_more : (a b x y : Bool) → b ≡ a → (x ≡ true → y ≡ true) → (a || x) ≡ true → (b || y) ≡ true
or_more true b x y same more on = ap (λ c. c || y) same
or_more false b x y same more on = ap (λ c. c || y) same ∙ more on

still_listed : (b c : Changes) → KeepsListed b c → (i : List ℕ) → (b.all || has b.listed i) ≡ true → (c.all || has c.listed i) ≡ true
still_listed b c keeps i = or_more b.all c.all (has b.listed i) (has c.listed i) keeps.all (keeps.more i)

pub keeps_both : (b c d : Changes) → KeepsListed b c → KeepsListed c d → KeepsListed b d
keeps_both b c d h k = record { all = k.all ∙ h.all; more = λ i there. k.more i (h.more i there) }

quiet : (touched : Bool) (o p : Option Bool) → touched ≡ false → IsNoted touched o p → p ≡ o
quiet touched o p none (inl same) = same
quiet touched o p none (inr new) = absurd (let both : true ≡ false = sym new.1 ∙ none in cc)

none_both : (b : Bool) → flagged (Some b) ≡ true → b ≡ false → ⊥
none_both b on off = let both : true ≡ false = sym on ∙ off in cc

module _ (s : Shape) (f : Frame) where
  -- a new array
  pub listed_new : (m : Chunks) (c : Changes) → m.entries ≡ [] → AreListed s f m c
  listed_new m c empty = record {
    dirty = λ i on. absurd (let both : false ≡ true = sym (ap (λ es. flagged (option_map (λ h. h.dirty) (lookup (bytes_eq i) es))) empty) ∙ on in cc);
    outside = λ i there. absurd (let both : false ≡ true = sym (ap (λ es. is_some (lookup (bytes_eq i) es)) empty) ∙ there in cc);
  }

  -- the chunks are as they were
  pub listed_same : (m n : Chunks) (b c : Changes) → ((i : List ℕ) → find_in n i ≡ find_in m i) → KeepsListed b c → AreListed s f m b → AreListed s f n c
  listed_same m n b c each keeps on = record {
    dirty = λ i d. still_listed b c keeps i (on.dirty i (ap (λ o. flagged (option_map (λ h. h.dirty) o)) (sym (each i)) ∙ d));
    outside = λ i there out.
        let was = on.outside i (ap is_some (sym (each i)) ∙ there) out in
        (keeps.all ∙ was.0, ap (option_map (λ h. h.dirty)) (each i) ∙ was.1);
  }

  -- chunks came, and were written
  pub listed_written : (m g n : Chunks) (b c : Changes) (ats : List (List ℕ)) → ((i : List ℕ) → touches f.layout.chunk ats i ≡ true → has_cell f.layout.chunk s i ≡ true)
      → ((i : List ℕ) → IsNoted (touches f.layout.chunk ats i) (flag_at m i) (flag_at g i)) → ((i : List ℕ) → flag_at n i ≡ cond (touches f.layout.chunk ats i) (Some true) (flag_at g i))
      → AreThere c.listed f ats → KeepsListed b c → AreListed s f m b → AreListed s f n c
  listed_written m g n b c ats inside noted flags there keeps on = record {
    dirty = λ i d. elim (cases_Bool (touches f.layout.chunk ats i)) [
      | inl t ↦ or_right c.all (has c.listed i) (touched_there c.listed f ats i there t)
      | inr not ↦ still_listed b c keeps i (on.dirty i (ap flagged (sym (stays i not)) ∙ d))
    ];
    outside = λ i held out. elim (cases_Bool (touches f.layout.chunk ats i)) [
      | inl t ↦ absurd (let both : true ≡ false = sym (inside i t) ∙ out in cc)
      | inr not ↦
          let was = on.outside i (has_flag m i ∙ ap is_some (sym (stays i not)) ∙ sym (has_flag n i) ∙ held) out in
          (keeps.all ∙ was.0, stays i not ∙ was.1)
    ];
  }
    where
      stays : (i : List ℕ) → touches f.layout.chunk ats i ≡ false → flag_at n i ≡ flag_at m i
      stays i not = flags i ∙ ap (λ t. cond t (Some true) (flag_at g i)) not ∙ quiet (touches f.layout.chunk ats i) (flag_at m i) (flag_at g i) not (noted i)

  -- all chunks may be dirty
  pub listed_resized : (t : Shape) (m n : Chunks) (b c : Changes) (kept : List ℕ → Bool) → c.all ≡ true → ((i : List ℕ) → flag_at n i ≡ after_resize (kept i) (flag_at m i))
      → ((i : List ℕ) → has_cell f.layout.chunk s i ≡ true → kept i ≡ true → has_cell f.layout.chunk t i ≡ true) → AreListed s f m b → AreListed t f n c
  listed_resized t m n b c kept all flags stays on = record {
    dirty = λ i d. ap (λ a. a || has c.listed i) all;
    outside = λ i held out. (all, flags i ∙ by_flag i (flag_at m i) refl (ap is_some (sym (flags i)) ∙ sym (has_flag n i) ∙ held) out);
  }
    where
      kept_clean : (i : List ℕ) (k : Bool) → kept i ≡ k → flag_at m i ≡ Some false → has_cell f.layout.chunk t i ≡ false → after_resize k (Some false) ≡ Some true
      kept_clean i false e clean out = refl
      kept_clean i true e clean out = elim (cases_Bool (has_cell f.layout.chunk s i)) [
        | inl here ↦ absurd (let both : true ≡ false = sym (stays i here e) ∙ out in cc)
        | inr gone ↦ absurd (let both : Some false ≡ Some true = sym clean ∙ (on.outside i (has_flag m i ∙ ap is_some clean) gone).1 in cc)
      ]

      still_dirty : (k : Bool) → after_resize k (Some true) ≡ Some true
      still_dirty true = refl
      still_dirty false = refl

      by_flag : (i : List ℕ) (o : Option Bool) → flag_at m i ≡ o → is_some (after_resize (kept i) o) ≡ true → has_cell f.layout.chunk t i ≡ false → after_resize (kept i) o ≡ Some true
      by_flag i None e held out = absurd (let both : false ≡ true = held in cc)
      by_flag i (Some true) e held out = still_dirty (kept i)
      by_flag i (Some false) e held out = kept_clean i (kept i) refl e out

  -- a clean chunk of the array was put in
  pub listed_put : (m n : Chunks) (c : Changes) (index : List ℕ) (h : Held) → h.dirty ≡ false → has_cell f.layout.chunk s index ≡ true → ((i : List ℕ) → find_in n i ≡ put (find_in m) index (Some h) i) → AreListed s f m c → AreListed s f n c
  listed_put m n c index h clean inside each on = record {
    dirty = λ i d. elim (put_cases (find_in m) index (Some h) i) [
      | inl here ↦ absurd (none_both h.dirty (sym (ap (λ o. flagged (option_map (λ g. g.dirty) o)) (each i ∙ here.1)) ∙ d) clean)
      | inr other ↦ on.dirty i (sym (ap (λ o. flagged (option_map (λ g. g.dirty) o)) (each i ∙ other)) ∙ d)
    ];
    outside = λ i held out. elim (put_cases (find_in m) index (Some h) i) [
      | inl here ↦ absurd (let both : true ≡ false = sym inside ∙ ap (has_cell f.layout.chunk s) here.0 ∙ out in cc)
      | inr other ↦
          let was = on.outside i (sym (ap is_some (each i ∙ other)) ∙ held) out in
          (was.0, ap (option_map (λ g. g.dirty)) (each i ∙ other) ∙ was.1)
    ];
  }

  -- all chunks were taken as clean
  pub listed_cleared : (m n : Chunks) (b c : Changes) → ((i : List ℕ) → find_in n i ≡ when_cleared (has_cell f.layout.chunk s i) (find_in m i)) → AreListed s f m b → AreListed s f n c
  listed_cleared m n b c each on = record {
    dirty = λ i d. absurd (no_flag (has_cell f.layout.chunk s i) (find_in m i) (sym (ap (λ o. flagged (option_map (λ h. h.dirty) o)) (each i)) ∙ d));
    outside = λ i held out. absurd (no_chunk i (find_in m i) refl out (sym (ap is_some (each i ∙ ap (λ b. when_cleared b (find_in m i)) out)) ∙ held));
  }
    where
      by_case : (stays : Bool) (h : Held) → flagged (option_map {T = Held} (λ g. g.dirty) (cond stays (Some (record { bytes = h.bytes; dirty = false })) None)) ≡ true → ⊥
      by_case true h on = let both : false ≡ true = on in cc
      by_case false h on = let both : false ≡ true = on in cc

      no_flag : (inside : Bool) (o : Option Held) → flagged (option_map (λ h. h.dirty) (when_cleared inside o)) ≡ true → ⊥
      no_flag inside None on = let both : false ≡ true = on in cc
      no_flag inside (Some h) on = by_case (cond h.dirty inside true) h on

      dropped : (dirty : Bool) (h : Held) → dirty ≡ true → is_some (cond {A = Option Held} (cond dirty false true) (Some (record { bytes = h.bytes; dirty = false })) None) ≡ true → ⊥
      dropped true h e on = let both : false ≡ true = on in cc
      dropped false h e on = let both : false ≡ true = e in cc

      the_flag : (h : Held) (i : List ℕ) → find_in m i ≡ Some h → has_cell f.layout.chunk s i ≡ false → h.dirty ≡ true
      the_flag h i is out =
          let flag = sym (ap (option_map (λ g. g.dirty)) is) ∙ (on.outside i (ap is_some is) out).1 in
          ap flagged flag

      no_chunk : (i : List ℕ) (o : Option Held) → find_in m i ≡ o → has_cell f.layout.chunk s i ≡ false → is_some (when_cleared false o) ≡ true → ⊥
      no_chunk i None e out held = let both : false ≡ true = held in cc
      no_chunk i (Some h) e out held = dropped h.dirty h (the_flag h i e out) held

  -- the listed chunks were taken as clean, and these are all
  pub cleaned_all : (m : Chunks) (c : Changes) → c.all ≡ false → AreListed s f m c → (i : List ℕ) → cleaned (has c.listed i) (find_in m i) ≡ when_cleared (has_cell f.layout.chunk s i) (find_in m i)
  cleaned_all m c all on i = by_chunk (find_in m i) refl
    where
      none_either : (b : Bool) → cleaned b None ≡ None
      none_either true = refl
      none_either false = refl

      clean_either : (b inside : Bool) (h : Held) → h.dirty ≡ false → cleaned b (Some h) ≡ cond (cond h.dirty inside true) (Some (record { bytes = h.bytes; dirty = false })) None
      clean_either true inside h e = sym (ap (λ d. cond {A = Option Held} (cond d inside true) (Some (record { bytes = h.bytes; dirty = false })) None) e)
      clean_either false inside h e = ap (λ d. Some (record { bytes = h.bytes; dirty = d })) e ∙ sym (ap (λ d. cond {A = Option Held} (cond d inside true) (Some (record { bytes = h.bytes; dirty = false })) None) e)

      dirty_both : (b inside : Bool) (h : Held) → b ≡ true → inside ≡ true → cleaned b (Some h) ≡ cond (cond h.dirty inside true) (Some (record { bytes = h.bytes; dirty = false })) None
      dirty_both b inside h listed here =
          ap (λ x. cleaned x (Some h)) listed ∙ sym (ap (λ x. cond {A = Option Held} (cond h.dirty x true) (Some (record { bytes = h.bytes; dirty = false })) None) here ∙ stays h h.dirty)
        where
          stays : (h : Held) (d : Bool) → cond {A = Option Held} (cond d true true) (Some (record { bytes = h.bytes; dirty = false })) None ≡ Some (record { bytes = h.bytes; dirty = false })
          stays h true = refl
          stays h false = refl

      is_listed : flagged (flag_at m i) ≡ true → has c.listed i ≡ true
      is_listed d = sym (ap (λ a. a || has c.listed i) all) ∙ on.dirty i d

      is_inside : has m i ≡ true → has_cell f.layout.chunk s i ≡ true
      is_inside held = elim (cases_Bool (has_cell f.layout.chunk s i)) [
        | inl here ↦ here
        | inr out ↦ absurd (let both : true ≡ false = sym (on.outside i held out).0 ∙ all in cc)
      ]

      by_chunk : (o : Option Held) → find_in m i ≡ o → cleaned (has c.listed i) o ≡ when_cleared (has_cell f.layout.chunk s i) o
      by_chunk None e = none_either (has c.listed i)
      by_chunk (Some h) e = elim (cases_Bool h.dirty) [
        | inl d ↦ dirty_both (has c.listed i) (has_cell f.layout.chunk s i) h (is_listed (ap (λ o. flagged (option_map (λ g. g.dirty) o)) e ∙ d)) (is_inside (ap is_some e))
        | inr n ↦ clean_either (has c.listed i) (has_cell f.layout.chunk s i) h n
      ]

-- ---- one listed chunk after another

cleaned_next : (here rest : Bool) (o : Option Held) → cleaned rest (cleaned here o) ≡ cleaned (here || rest) o
cleaned_next true true None = refl
cleaned_next true true (Some h) = refl
cleaned_next true false o = refl
cleaned_next false rest o = refl

or_some : {X : Type 0} (b : Bool) (x : X) (o : Option X) → (b || is_some o) ≡ is_some (cond b (Some x) o)
or_some true x o = refl
or_some false x o = refl

pub cleaned_step : {X : Type 0} (m n : Chunks) (e : List ℕ × X) (es : List (List ℕ × X)) → ((i : List ℕ) → find_in n i ≡ cleaned (bytes_eq i e.0) (find_in m i))
    → (i : List ℕ) → cleaned (is_some (lookup (bytes_eq i) es)) (find_in n i) ≡ cleaned (is_some (lookup (bytes_eq i) (e ∷ es))) (find_in m i)
cleaned_step m n e es each i =
    ap (cleaned (is_some (lookup (bytes_eq i) es))) (each i)
    ∙ cleaned_next (bytes_eq i e.0) (is_some (lookup (bytes_eq i) es)) (find_in m i)
    ∙ ap (λ b. cleaned b (find_in m i)) (or_some (bytes_eq i e.0) e.1 (lookup (bytes_eq i) es))

-- one chunk was taken as clean
pub cleaned_put : (m n : Chunks) (k : List ℕ) (h w : Held) → find_in m k ≡ Some h → w ≡ record { bytes = h.bytes; dirty = false } → ((i : List ℕ) → find_in n i ≡ put (find_in m) k (Some w) i) → (i : List ℕ) → find_in n i ≡ cleaned (bytes_eq i k) (find_in m i)
cleaned_put m n k h w there is each i = each i ∙ same_or i k (put (find_in m) k (Some w) i ≡ cleaned (bytes_eq i k) (find_in m i))
    (λ e.
    ap (put (find_in m) k (Some w)) e ∙ put_here (find_in m) k (Some w) ∙ ap Some is
    ∙ sym (ap (λ b. cleaned b (find_in m i)) ((bytes_eq-Decides i k).1 e) ∙ ap (cleaned true) (ap (find_in m) e ∙ there)))
    (λ apart. put_else (find_in m) k (Some w) i apart ∙ sym (ap (λ b. cleaned b (find_in m i)) (apart_keys i k apart)))

-- none stands there
pub cleaned_none : (m : Chunks) (k : List ℕ) → find_in m k ≡ None → (i : List ℕ) → find_in m i ≡ cleaned (bytes_eq i k) (find_in m i)
cleaned_none m k none i = same_or i k (find_in m i ≡ cleaned (bytes_eq i k) (find_in m i))
    (λ e. ap (find_in m) e ∙ none ∙ sym (ap (cleaned (bytes_eq i k)) (ap (find_in m) e ∙ none) ∙ no_chunk (bytes_eq i k)))
    (λ apart. sym (ap (λ b. cleaned b (find_in m i)) (apart_keys i k apart)))
  where
    no_chunk : (b : Bool) → cleaned b None ≡ None
    no_chunk true = refl
    no_chunk false = refl

-- ---- entries of the list

found_marked : {X : Type 0} (m : Chunks) (es : List (List ℕ × X)) (i : List ℕ) → lookup (bytes_eq i) (marked (is_dirty_in m) es) ≡ cond (is_some (lookup (bytes_eq i) es)) (Some (flagged (flag_at m i))) None
found_marked m [] i = refl
found_marked m (e ∷ es) i = elim (cases_Bool (bytes_eq i e.0)) [
  | inl same ↦
      ap (λ b. cond b (Some (is_dirty_in m e)) (lookup (bytes_eq i) (marked (is_dirty_in m) es))) same
      ∙ ap (λ k. Some (flagged (flag_at m k))) (sym ((bytes_eq-Decides i e.0).0 same))
      ∙ sym (ap (λ b. cond (is_some (cond b (Some e.1) (lookup (bytes_eq i) es))) (Some (flagged (flag_at m i))) None) same)
  | inr other ↦
      ap (λ b. cond b (Some (is_dirty_in m e)) (lookup (bytes_eq i) (marked (is_dirty_in m) es))) other
      ∙ found_marked m es i
      ∙ sym (ap (λ b. cond (is_some (cond b (Some e.1) (lookup (bytes_eq i) es))) (Some (flagged (flag_at m i))) None) other)
]

pub marked_keys : {X : Type 0} (flag : List ℕ × X → Bool) (es : List (List ℕ × X)) → keys_of (marked flag es) ≡ keys_of es
marked_keys flag [] = refl
marked_keys flag (e ∷ es) = ap (λ ks. e.0 ∷ ks) (marked_keys flag es)

-- by the list the dirty chunks are meant
pub listed_told : (s : Shape) (f : Frame) (m : Chunks) (c : Changes) → c.all ≡ false → AreListed s f m c → (i : List ℕ) → flagged (lookup (bytes_eq i) (marked (is_dirty_in m) c.listed.entries)) ≡ flagged (flag_at m i)
listed_told s f m c all on i = ap flagged (found_marked m c.listed.entries i) ∙ by_list (has c.listed i) (flagged (flag_at m i)) (λ d. sym (ap (λ a. a || has c.listed i) all) ∙ on.dirty i d)
  where
    by_list : (b d : Bool) → (d ≡ true → b ≡ true) → flagged (cond b (Some d) None) ≡ d
    by_list true d h = refl
    by_list false true h = h refl
    by_list false false h = refl
