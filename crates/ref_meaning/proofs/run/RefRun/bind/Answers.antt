use Rattle.std.proofs.Common.{◌≡◌, ◌+◌, option_map, arith, refl, sym, ap, ◌∙◌}
use Rattle.c_typed.specs.Table.{type_in}
use Rattle.ref_semantics.specs.Store.{give}
use Rattle.ref_semantics.specs.Steps as steps
use Rattle.ref_meaning.specs.declared.control.Control.{Control}
use Rattle.ref_meaning.specs.declared.control.Task.TheVariants as K
use Rattle.ref_meaning.specs.Views.{around_run, table_of, part_in, config_in}
use Rattle.ref_meaning.specs.Doing.{acting}
use Rattle.ref_meaning.proofs.Moves.{ok-moves}
use Rattle.ref_meaning.proofs.Dropping.{rest-left, dropped-arrives}
use Rattle.ref_meaning.proofs.Parameters.{operand-stands, operand-next, none-of, body-enters, bind-fits, bind-node, bind-after, unawaited, all-bound, no-parameter, binds, bind-stays}
use Rattle.ref_meaning.proofs.run.RefRun.bind.Goals as goal
use Rattle.ref_meaning.proofs.run.RefRun.bind.Goals.{then-number-count+in_default, else-number-count}

pub new_holding-requires-clause-value : goal.new_holding-requires-clause-value
new_holding-requires-clause-value c =
    let old = c.args.self.now in
    operand-stands (table_of old) old.operands.items c.args.count c.args.number c.len.result c.index-value.result.now c.index-value.ensures c.if-number-count.true
    (bind-fits old c.args.node c.args.count c.args.number c.requires.control c.requires.holds).1 (omega (arith, c.len.ensures)) c.requires.holds.operands

pub returns-in_err-new_holding-clause-moves : goal.returns-in_err-new_holding-clause-moves
returns-in_err-new_holding-clause-moves c =
    let old = c.args.self.now in
    bind-stays old c.new_holding.new.self (acting old) c.from_residual.result c.from_residual.ensures.1 c.requires.holds c.in_err-new_holding.ensures.types c.in_err-new_holding.ensures.same
    (c.in_err-new_holding.ensures.err (around_run old) old.base)

pub returns-in-Some-clause-moves : goal.returns-in-Some-clause-moves
returns-in-Some-clause-moves c = λ state at.
    let old = c.args.self.now in
    let r = c.requires in
    let fits = bind-fits old c.args.node c.args.count c.args.number r.control r.holds in
    binds old c.args.node c.args.count c.args.number r.control r.holds _ c.new_holding.new.self c.in-Some.c_type c.index-value.result.now _
    (sym (c.in-Some.ensures.is (table_of old) fits.0))
    (operand-next (table_of old) old.operands.items c.args.count c.args.number c.len.result c.index-value.result.now c.index-value.ensures c.if-number-count.true fits.1 (omega (arith, c.len.ensures)))
    c.in_ok-new_holding.ensures.types c.in_ok-new_holding.ensures.locals
    (record {
      kept = record { program = refl; functions = refl; main = refl; spent = refl };
      store = refl;
      operands = refl;
      base = refl;
      depth = refl;
      control = ap {A = Control} (λ control. record control { task = K.Bind c.args.count (c.args.number + 1) }) r.control;
      stack = refl;
    })
    (λ before was. c.in_ok-new_holding.ensures.made (around_run old) old.base before r.holds.within was) state at

pub returns-clause-moves : goal.returns-clause-moves
returns-clause-moves c =
    let old = c.args.self.now in
    let r = c.requires in
    let fits = bind-fits old c.args.node c.args.count c.args.number r.control r.holds in
    let next : Control = record { node = c.args.node; task = K.Enter } in
    let given = rest-left old.operands.items c.truncate.new.self.items c.len.result c.args.count fits.1 (omega (arith, c.len.ensures)) c.truncate.ensures.items in
    let enters : acting old ≡ give (record (config_in old) { task = steps.Enter (part_in (table_of old) c.args.node) }) = elim c.if-number-count.branch [
      | then-number-count+in_default w ↦ no-parameter old c.args.node c.args.count c.args.number r.control r.holds (sym (w.parameter.ensures.is (table_of old) fits.0) ∙ ap (option_map (type_in (table_of old))) (none-of w.parameter.result w.in_default.not-Some))
      | else-number-count w ↦ all-bound old c.args.node c.args.count c.args.number r.control r.holds w.if-number-count.false
    ] in
    ok-moves old c.enter.new.self _ c.enter.result c.enter.ensures.ok (λ state at.
    dropped-arrives old c.enter.new.self c.truncate.new.self c.args.count next r.holds (bind-after old c.args.node c.args.count c.args.number r.control r.holds) given tt c.enter.ensures.becomes
    (λ awaits. absurd (unawaited old c.args.node c.args.count c.args.number r.control r.holds awaits)) (bind-node old c.args.node c.args.count c.args.number r.control r.holds) (body-enters (table_of old) c.args.node _ fits.0) (acting old) enters state at)
