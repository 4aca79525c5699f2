use Rattle.std.proofs.Common.{◌≡◌, true, List, map, length, sym, ap, subst, ◌∙◌, arith}
use Rattle.std.specs.List.{list_all}
use Rattle.tac_ir.specs.declared.op.Op.{Op}
use Rattle.tac_ir.specs.Views.{op_in}
use Rattle.graph_tests.specs.KnownCalls.{is_known}
use Rattle.graph_tests.specs.Plain.{HaveNoObjects, HaveSlots}
use Rattle.graph_tests.proofs.Fit.{fits}
use Rattle.graph_tests.proofs.fitting.is_fit.Goals as goal

pub returns : goal.returns
returns c =
    let program = c.args.program in
    let tac = program.tac.now in
    let known : list_all (is_known (length tac.functions.items)) (map (op_in tac.types) tac.start.points.items) ≡ true
    = sym (ap (λ (points : List Op). list_all (is_known (length tac.functions.items)) (map (op_in tac.types) points)) c.as_slice.ensures.value) ∙ (sym c.are_known.ensures ∙ c.if-not-are_known.false) in
    λ is_true.
    fits program c.requires.groups c.requires.of c.requires.known c.requires.plain (omega (arith, c.len.ensures, c.len-2.ensures, c.if-len.false)) (omega (arith, c.len-3.ensures, c.len-4.ensures, c.if-len-2.false)) known
    (subst HaveNoObjects c.as_slice-2.ensures.value (c.have_no_objects.ensures.0 c.if-not-have_no_objects.false))
    (c.has_no_objects.ensures.0 c.if-not-has_no_objects.false)
    (subst (HaveSlots tac.types) c.as_slice-3.ensures.value (c.have_slots.ensures.0 c.if-not-have_slots.false))
    (c.has_slots.ensures.0 is_true)
