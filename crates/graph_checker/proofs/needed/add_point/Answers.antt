use Rattle.std.proofs.Common.{ℕ, ◌<◌, List, length, get_or, sym, ap, subst}
use Rattle.tac_ir.specs.declared.register.FunctionId.{FunctionId}
use Rattle.tac_ir.specs.Views.{op_in, callee_in}
use Rattle.call_graph.specs.ClassLists.{numbers_of}
use Rattle.heap_graph.specs.Marks.{Adds}
use Rattle.graph_checker.specs.Programs.{family_of}
use Rattle.graph_checker.specs.Fits.{CallFits, OpFits}
use Rattle.graph_checker.proofs.CallSteps.{has_item}
use Rattle.graph_checker.specs.Needed.{AnyOf, IsImageAt}
use Rattle.graph_checker.proofs.Needing.{call_adds}
use Rattle.graph_checker.proofs.needed.add_point.Goals as goal

pub add_targets-requires-clause-within : goal.add_targets-requires-clause-within
add_targets-requires-clause-within c =
    let program = c.args.program in
    let targets = c.in_ok-targets-in-Call.targets.items in
    let are = c.in_ok-targets-in-Call.ensures c.requires.program.whole.of.classes in
    let fits : CallFits program c.args.own.group (callee_in program.tac.now.types c.in-Call.callee) = subst (OpFits program c.args.own.group) (ap (op_in program.tac.now.types) c.in-Call.is) c.requires.fits in
    subst (λ (l : List FunctionId). (k : ℕ) (d : FunctionId) → k < length l → (get_or l k d).0 < length program.tac.now.functions.items) (sym c.deref.ensures.value)
    (λ k d less. fits.within (get_or targets k d).0 ((are.each (get_or targets k d).0).0 (has_item targets k d less)))

pub returns-in_ok-targets-in-Call : goal.returns-in_ok-targets-in-Call
returns-in_ok-targets-in-Call c = λ owner member.
    let program = c.args.program in
    let table = program.tac.now.types in
    let targets = c.in_ok-targets-in-Call.targets.items in
    let are = c.in_ok-targets-in-Call.ensures c.requires.program.whole.of.classes in
    call_adds (family_of program) owner c.in-Call.site (callee_in table c.in-Call.callee) c.in-Call.arguments.items (numbers_of targets) (op_in table c.args.op.now) (ap (op_in table) c.in-Call.is) are
    c.args.needed.now.marks c.add_targets.new.needed.marks
    (subst (λ (l : List FunctionId). Adds c.args.needed.now.marks c.add_targets.new.needed.marks (AnyOf (IsImageAt (family_of program) owner c.in-Call.site) (numbers_of l))) c.deref.ensures.value
    (c.add_targets.ensures owner member))
