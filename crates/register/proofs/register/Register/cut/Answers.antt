use Rattle.std.proofs.Common.{true, false, sym, subst}
use Rattle.flush_journal.specs.Batches.{records}
use Rattle.flush_journal.specs.Records.{Held}
use Rattle.flush_journal.specs.Cuts.Cuts.{AppendsEach, IsCut}
use Rattle.register.specs.Decided.{RegisterState}
use Rattle.register.specs.Kept.{AddsInTurn, IsRegisterMarked, IsRegisterRecord, RegisterSays}
use Rattle.register.specs.Marks.{Marked}
use Rattle.register.proofs.Keeping.{appends_right, front_cut, whole_cut}
use Rattle.register.proofs.Parts.{no_more}
use Rattle.register.proofs.register.Register.cut.Goals as goal

pub returns-in_err-append_whole-clause-cut : goal.returns-in_err-append_whole-clause-cut
returns-in_err-append_whole-clause-cut c =
    let d : RegisterState = record { catalogue = c.self.inside.catalogue; run = c.self.inside.run; serial = c.self.inside.serial; places = c.self.inside.places; issued = c.self.inside.issued; marks = c.self.inside.marks } in
    let Cut : RegisterState → Type 0 = λ x. (base : Held) → IsCut (IsRegisterMarked x) base (records c.args.into.now) (records c.append_whole.new.into) (λ held. RegisterSays x base → RegisterSays x held) in
    subst Cut c.self.view_is (front_cut d (records c.args.into.now) (records c.append_whole.new.into) (no_more _ _ _ _ c.in_err-append_whole.ensures.err))

pub returns-clause-cut : goal.returns-clause-cut
returns-clause-cut c =
    let d : RegisterState = record { catalogue = c.self.inside.catalogue; run = c.self.inside.run; serial = c.self.inside.serial; places = c.self.inside.places; issued = c.self.inside.issued; marks = c.self.inside.marks } in
    let with : Marked → RegisterState = λ m. record d { marks = m } in
    let Cut : RegisterState → RegisterState → Type 0 = λ x y. (base : Held) → IsCut (IsRegisterMarked x) base (records c.args.into.now) (records c.append_whole.new.into) (λ held. RegisterSays x base → RegisterSays y held) in
    subst (λ (x : RegisterState). Cut x (with c.clear.new.self)) c.self.view_is
    (subst (λ (m : Marked). Cut d (with m)) (sym c.clear.ensures) (whole_cut d (records c.args.into.now) (records c.append_whole.new.into) c.in_ok-append_whole.ensures.ok))

pub returns-in_err-append_whole-clause-bodies : goal.returns-in_err-append_whole-clause-bodies
returns-in_err-append_whole-clause-bodies c =
    let d : RegisterState = record { catalogue = c.self.inside.catalogue; run = c.self.inside.run; serial = c.self.inside.serial; places = c.self.inside.places; issued = c.self.inside.issued; marks = c.self.inside.marks } in
    subst (λ (x : RegisterState). AppendsEach (λ r. IsRegisterMarked x r.0 × IsRegisterRecord x r) (records c.args.into.now) (records c.append_whole.new.into)) c.self.view_is
    (appends_right d false (records c.args.into.now) (records c.append_whole.new.into) (no_more _ _ _ _ c.in_err-append_whole.ensures.err))

pub returns-clause-bodies : goal.returns-clause-bodies
returns-clause-bodies c =
    let d : RegisterState = record { catalogue = c.self.inside.catalogue; run = c.self.inside.run; serial = c.self.inside.serial; places = c.self.inside.places; issued = c.self.inside.issued; marks = c.self.inside.marks } in
    subst (λ (x : RegisterState). AppendsEach (λ r. IsRegisterMarked x r.0 × IsRegisterRecord x r) (records c.args.into.now) (records c.append_whole.new.into)) c.self.view_is
    (appends_right d true (records c.args.into.now) (records c.append_whole.new.into) c.in_ok-append_whole.ensures.ok)

pub returns-clause-order : goal.returns-clause-order
returns-clause-order c =
    subst (λ (x : RegisterState). AddsInTurn x.run x.catalogue x.marks (records c.args.into.now) (records c.append_whole.new.into)) c.self.view_is
    c.in_ok-append_whole.ensures.order
