use Rattle.std.proofs.Common.{◌≡◌, ℕ, ◌<◌, Bool, true, false, List, length, get_or, Some, sym, ap, subst}
use Rattle.tac_ir.specs.declared.register.FunctionId.{FunctionId}
use Rattle.tac_ir.specs.declared.register.Register.{Register}
use Rattle.tac_ir.specs.Code.{Op}
use Rattle.tac_ir.specs.Views.{op_in, callee_in, tac_of}
use Rattle.call_graph.specs.ClassLists.{numbers_of}
use Rattle.call_graph.specs.TargetLists.{AreTargets}
use Rattle.heap_graph.specs.Asked.{AllTargetsAsked, OpAsked}
use Rattle.graph_checker.specs.Fits.{limit_of, CallFits, OpFits}
use Rattle.graph_checker.specs.declared.program.Program.{Program}
use Rattle.heap_graph.specs.Closed.{group_of}
use Rattle.tac_ir.specs.States.{Owner}
use Rattle.graph_checker.specs.Programs.{family_of}
use Rattle.graph_checker.proofs.CallSteps.{has_item, call_fails, call_judged}
use Rattle.graph_checker.proofs.program.Program.op_asked.Goals as goal

abbrev Judged : Program → Owner → ℕ → List Register → List FunctionId → Bool → Type 0
Judged program owner site arguments targets b =
    (b ≡ true → AllTargetsAsked (family_of program) owner site arguments (numbers_of targets)) × (AllTargetsAsked (family_of program) owner site arguments (numbers_of targets) → b ≡ true)

pub targets_asked-requires-clause-within : goal.targets_asked-requires-clause-within
targets_asked-requires-clause-within c =
    let program = c.args.self in
    let targets = c.in_ok-targets-in-Call.targets.items in
    let are = c.in_ok-targets-in-Call.ensures c.requires.program.whole.of.classes in
    let fits : CallFits program c.args.own.group (callee_in program.tac.now.types c.in-Call.callee) = subst (OpFits program c.args.own.group) (ap (op_in program.tac.now.types) c.in-Call.is) c.requires.fits in
    let here : c.deref-in-Call.result.now ≡ targets = c.deref-in-Call.ensures.value in
    subst (λ (l : List FunctionId). (k : ℕ) (d : FunctionId) → k < length l → (get_or l k d).0 < length program.tac.now.functions.items) (sym here)
    (λ k d less. fits.within (get_or targets k d).0 ((are.each (get_or targets k d).0).0 (has_item targets k d less)))

pub targets_asked-requires-clause-before : goal.targets_asked-requires-clause-before
targets_asked-requires-clause-before c =
    let program = c.args.self in
    let targets = c.in_ok-targets-in-Call.targets.items in
    let are = c.in_ok-targets-in-Call.ensures c.requires.program.whole.of.classes in
    let fits : CallFits program c.args.own.group (callee_in program.tac.now.types c.in-Call.callee) = subst (OpFits program c.args.own.group) (ap (op_in program.tac.now.types) c.in-Call.is) c.requires.fits in
    subst
    (λ (l : List FunctionId).
    (k : ℕ) (d : FunctionId) → k < length l → (c.args.own.group ≡ Some (group_of (family_of program) (get_or l k d).0) → ⊥) → group_of (family_of program) (get_or l k d).0 < limit_of program c.args.own.group)
    (sym c.deref-in-Call.ensures.value) (λ k d less other. fits.before (get_or targets k d).0 ((are.each (get_or targets k d).0).0 (has_item targets k d less)) other)

pub returns-then-not-branch : goal.returns-then-not-branch
returns-then-not-branch c = λ owner member.
    let program = c.args.self in
    let table = program.tac.now.types in
    let judged = c.in_ok-targets_asked-in-Call.ensures owner member in
    subst (λ (op : Op). (false ≡ true → OpAsked (family_of program) owner op) × (OpAsked (family_of program) owner op → false ≡ true)) (sym (ap (op_in table) c.in-Call.is))
    (call_fails (family_of program) owner c.in-Call.site (callee_in table c.in-Call.callee) c.in-Call.arguments.items c.deref.result.now c.in_ok-targets-in-Call.targets.items c.deref.ensures.value
    (c.in_ok-targets-in-Call.ensures c.requires.program.whole.of.classes) c.in_ok-targets_asked-in-Call.field-0
    (subst (λ (l : List FunctionId). Judged program owner c.in-Call.site c.deref.result.now l c.in_ok-targets_asked-in-Call.field-0) c.deref-in-Call.ensures.value judged) c.if-not-branch.true)

pub class_asked-requires-clause-within : goal.class_asked-requires-clause-within
class_asked-requires-clause-within c =
    let program = c.args.self in
    let targets = c.in_ok-targets-in-Call.targets.items in
    let are = c.in_ok-targets-in-Call.ensures c.requires.program.whole.of.classes in
    let fits : CallFits program c.args.own.group (callee_in program.tac.now.types c.in-Call.callee) = subst (OpFits program c.args.own.group) (ap (op_in program.tac.now.types) c.in-Call.is) c.requires.fits in
    subst (λ (l : List FunctionId). (k : ℕ) (d : FunctionId) → k < length l → (get_or l k d).0 < length program.tac.now.functions.items) (sym c.deref-in-Call-2.ensures.value)
    (λ k d less. fits.within (get_or targets k d).0 ((are.each (get_or targets k d).0).0 (has_item targets k d less)))

pub returns-else-not-branch : goal.returns-else-not-branch
returns-else-not-branch c = λ owner member.
    let program = c.args.self in
    let table = program.tac.now.types in
    let class = c.class_asked.result in
    let judged = c.in_ok-targets_asked-in-Call.ensures owner member in
    let are = c.in_ok-targets-in-Call.ensures c.requires.program.whole.of.classes in
    let class_judged = c.class_asked.ensures (subst (λ (l : List FunctionId). AreTargets (tac_of program.tac.now) (callee_in table c.in-Call.callee) (numbers_of l)) (sym c.deref-in-Call-2.ensures.value) are) in
    subst (λ (op : Op). (class ≡ true → OpAsked (family_of program) owner op) × (OpAsked (family_of program) owner op → class ≡ true)) (sym (ap (op_in table) c.in-Call.is))
    (call_judged (family_of program) owner c.in-Call.site (callee_in table c.in-Call.callee) c.in-Call.arguments.items c.deref.result.now c.in_ok-targets-in-Call.targets.items c.deref.ensures.value are
    c.in_ok-targets_asked-in-Call.field-0 (subst (λ (l : List FunctionId). Judged program owner c.in-Call.site c.deref.result.now l c.in_ok-targets_asked-in-Call.field-0) c.deref-in-Call.ensures.value judged)
    c.if-not-branch.false class class_judged)
