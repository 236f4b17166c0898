use Rattle.std.proofs.Common.{◌≡◌, ◌++◌, ℕ, List, length, length-append, arith, subst, ap, sym, rules, []}
use Rattle.std.proofs.KnownBytes.{Consumes-nil, Consumes-trans}
use Rattle.std.specs.Io.KnownBytes.{Consumes}
use Rattle.std.specs.declared.option.Option.{Option}
use Rattle.edge_traits.proofs.source_texts.reading.read_pieces.Goals as goal

taken_more : (a b c : Option (List ℕ)) (before now bytes : List ℕ) → Consumes a b before → now ≡ before ++ bytes → Consumes b c bytes → Consumes a c now
taken_more a b c before now bytes p e q = subst (Consumes a c) (sym e) (Consumes-trans a b c before bytes p q)

empty_begins : (a : Option (List ℕ)) (text : List ℕ) → text ≡ [] → Consumes a a text
empty_begins a text e = subst (Consumes a a) (sym e) (Consumes-nil a)

pub pieces-init : goal.pieces-init
pieces-init g c = (empty_begins _ _ c.new-text.ensures.items, omega (arith, ap length c.new-text.ensures.items), omega arith)

pub returns-in_err-read_piece-clause-taken : goal.returns-in_err-read_piece-clause-taken
returns-in_err-read_piece-clause-taken g c =
    let more = c.in_err-read_piece.ensures.taken in
    (_, Consumes-trans _ _ _ _ _ c.pieces.invariant.0 more.1)

pub returns-then-branch-eq0-clause-ok : goal.returns-then-branch-eq0-clause-ok
returns-then-branch-eq0-clause-ok g c =
    let more = c.in_ok-read_piece.ensures.ok in
    record {
      taken = taken_more _ _ _ _ _ _ c.pieces.invariant.0 more.2 more.3;
      end = more.4 (search rules);
      within = omega (arith, c.pieces.invariant.1, more.1, ap length more.2, length-append {A = ℕ});
    }

pub returns-then-len-most-clause-too_long : goal.returns-then-len-most-clause-too_long
returns-then-len-most-clause-too_long g c =
    let more = c.in_ok-read_piece.ensures.ok in
    λ _. (_, taken_more _ _ _ _ _ _ c.pieces.invariant.0 more.2 more.3, omega arith)

pub pieces-preserved : goal.pieces-preserved
pieces-preserved g c =
    let more = c.in_ok-read_piece.ensures.ok in
    (taken_more _ _ _ _ _ _ c.pieces.invariant.0 more.2 more.3, omega arith, omega (arith, c.pieces.invariant.2, c.in_ok-read_piece.ensures.later))
