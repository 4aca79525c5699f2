use Rattle.std.proofs.Common.{◌≡◌, suc, ◌+◌, rules, to_z, of_z, FitsSigned, refl, sym, ap, subst, ◌∙◌, arith}
use Rattle.std.specs.Int.{w128}
use Rattle.std.proofs.lemmas.Bool.Decides.{Decides-int_eq}
use Rattle.std.proofs.lemmas.Int.{to_z-of_z}
use Rattle.ref_meaning.specs.declared.control.Task.TheVariants as K
use Rattle.ref_meaning.specs.Views.{part_in, stmt_of, case_items_of, case_items_from}
use Rattle.ref_meaning.specs.Items.{ThisCaseItem, CaseItemIs}
use Rattle.ref_meaning.proofs.Labels.{LooksOn, switch-stands, found-moves, on-arrives, looks-found, looks-last, on-other, on-default, known-default, new-default, on-statement}
use Rattle.ref_meaning.proofs.run.RefRun.label.Goals as goal
use Rattle.ref_meaning.proofs.run.RefRun.label.Goals.{in-Case+else-label-value, in-Default+in-Some-default-2, in-Default+in-None-default, in-Statement}

pub returns-then-label-value-clause-moves : goal.returns-then-label-value-clause-moves
returns-then-label-value-clause-moves c =
    let old = c.args.self.now in
    let table = old.store.types.now in
    let all = case_items_of (stmt_of (part_in table c.args.switch)) in
    let value = c.args.value in
    let label = c.in-Case.label in
    let item = (c.in-Some.ensures table (switch-stands old c.requires.holds c.args.switch value c.args.number c.args.default c.requires.control)).0 in
    let here = subst (ThisCaseItem table c.args.number all) c.in-Case.is item in
    let fits : FitsSigned w128 label = search rules in
    let fit : FitsSigned w128 value = search rules in
    let same : value ≡ label = sym (to_z-of_z w128 value fit) ∙ (sym (ap (to_z w128) c.if-label-value.true) ∙ to_z-of_z w128 label fits) in
    found-moves old c.requires.holds c.args.switch value c.args.number c.args.default c.requires.control c.part-then-label-value.new.self c.args.number
    (looks-found old value all (case_items_from c.args.number all) _ label _ here ((Decides-int_eq value label).1 same))
    c.part-then-label-value.result c.part-then-label-value.ensures.waits c.part-then-label-value.ensures.same c.part-then-label-value.ensures.only

pub returns-in-Some-default-clause-moves : goal.returns-in-Some-default-clause-moves
returns-in-Some-default-clause-moves c =
    let old = c.args.self.now in
    let table = old.store.types.now in
    let all = case_items_of (stmt_of (part_in table c.args.switch)) in
    let value = c.args.value in
    let number = c.args.number in
    let stands = switch-stands old c.requires.holds c.args.switch value number c.args.default c.requires.control in
    let last = subst (CaseItemIs table number all) c.in_default.is (c.switch_item.ensures table stands) in
    found-moves old c.requires.holds c.args.switch value number c.args.default c.requires.control c.part.new.self c.in-Some-default.number
    (looks-last old value all (case_items_from number all) all c.args.default c.in-Some-default.number last c.in-Some-default.is)
    c.part.result c.part.ensures.waits c.part.ensures.same c.part.ensures.only

pub overflow_add-self : goal.overflow_add-self
overflow_add-self c =
    let old = c.args.self.now in
    let small = (c.in-Some.ensures old.store.types.now (switch-stands old c.requires.holds c.args.switch c.args.value c.args.number c.args.default c.requires.control)).1 in
    omega (arith, small)

pub returns-clause-moves : goal.returns-clause-moves
returns-clause-moves c = λ state at.
    let old = c.args.self.now in
    let table = old.store.types.now in
    let all = case_items_of (stmt_of (part_in table c.args.switch)) in
    let value = c.args.value in
    let number = c.args.number in
    let later = c.match-item.default in
    let item = (c.in-Some.ensures table (switch-stands old c.requires.holds c.args.switch value number c.args.default c.requires.control)).0 in
    let here = c.in-Some.item.now in
    let is : LooksOn old value table all number c.args.default later = elim c.match-item.branch [
      | in-Case+else-label-value w ↦ on-other old value table all number here w.in-Case.label c.args.default later item w.in-Case.is (λ e. w.if-label-value.false (ap (of_z w128) (sym e))) w.default-is
      | in-Default+in-Some-default-2 w ↦ on-default old value table all number here c.args.default later item w.in-Default.is (known-default old value table all number c.args.default later w.in-Some-default-2.first w.in-Some-default-2.is w.default-is)
      | in-Default+in-None-default w ↦ on-default old value table all number here c.args.default later item w.in-Default.is (new-default old value table all number c.args.default later w.in-None-default.is w.default-is)
      | in-Statement w ↦ on-statement old value table all number here _ c.args.default later item w.in-Statement.is w.default-is
    ] in
    let node = c.requires.control in
    let fit : FitsSigned w128 value = search rules in
    let next : suc number ≡ number + 1 = omega arith in
    on-arrives old c.requires.holds c.args.switch value number c.args.default c.requires.control _ later is
    (record {
      kept = record { program = refl; functions = refl; main = refl; spent = refl };
      store = refl;
      operands = refl;
      base = refl;
      depth = refl;
      control = λ i. record { node = (node i).node; task = K.Label (to_z-of_z w128 value fit i) (sym next i) later };
      stack = refl;
    }) state at
