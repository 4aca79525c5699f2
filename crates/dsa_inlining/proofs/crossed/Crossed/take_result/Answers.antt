use Rattle.std.proofs.Common.{◌≡◌, true, refl, sym, ap, ◌∙◌}
use Rattle.std.proofs.lemmas.Bool.{false≢true, eq-eqb}
use Rattle.tac_ir.specs.declared.register.Register.TheVariants as R
use Rattle.tac_ir.specs.States.{InFunction}
use Rattle.heap_graph.specs.Closed.{result_of, function_type}
use Rattle.heap_graph.specs.Graphs.{OfRegister, OfResult}
use Rattle.heap_graph.specs.Memory.{target_of}
use Rattle.heap_graph.specs.Points.{is_data_pointer}
use Rattle.heap_graph.specs.Frozen.{optional_target}
use Rattle.graph_unification.specs.Memory.{owner_of}
use Rattle.graph_unification.proofs.NamedSteps.{on_ok}
use Rattle.dsa_inlining.specs.Crossed.{IsGiven}
use Rattle.dsa_inlining.specs.Shown.{code_of, shown, callee_of, copies_of}
use Rattle.dsa_inlining.proofs.Joining.{outside_is_copied, joins_same}
use Rattle.dsa_inlining.proofs.Passing.{type_read, given_one, nothing_given, given_if}
use Rattle.dsa_inlining.proofs.crossed.Crossed.take_result.Goals as goal

pub returns-then-not-gives_data_pointer-clause-joins : goal.returns-then-not-gives_data_pointer-clause-joins
returns-then-not-gives_data_pointer-clause-joins c =
    let own = c.args.self in
    let tac = code_of own in
    let read = type_read own.tac.now own.called c.index.result.now c.requires.known.within c.index.ensures in
    joins_same tac c.requires.known.code.made (callee_of own) (shown own c.args.graph.now) c.requires.graph.sound
    (IsGiven (callee_of own) (copies_of own) (owner_of c.args.owner) c.args.site own.called (function_type tac own.called))
    (λ is. absurd (false≢true (sym c.if-not-gives_data_pointer.true ∙ (c.gives_data_pointer.ensures ∙ (ap (λ t. is_data_pointer (result_of t)) (sym read) ∙ is)))))

pub returns-in_default-clause-joins : goal.returns-in_default-clause-joins
returns-in_default-clause-joins c =
    let own = c.args.self in
    let tac = code_of own in
    let made = c.requires.known.code.made in
    let graph = shown own c.args.graph.now in
    let read = type_read own.tac.now own.called c.index.result.now c.requires.known.within c.index.ensures in
    let is : is_data_pointer (result_of (function_type tac own.called)) ≡ true = ap (λ t. is_data_pointer (result_of t)) read ∙ (sym c.gives_data_pointer.ensures ∙ c.if-not-gives_data_pointer.false) in
    given_if tac made (callee_of own) (copies_of own) (owner_of c.args.owner) c.args.site own.called (function_type tac own.called) is graph graph
    (nothing_given tac made (callee_of own) (copies_of own) (OfRegister (owner_of c.args.owner) (R.Call c.args.site)) (OfResult (InFunction own.called)) (ap optional_target c.in_default.is) graph c.requires.graph.sound)

pub join_image-requires-clause-target : goal.join_image-requires-clause-target
join_image-requires-clause-target c =
    let own = c.args.self in
    outside_is_copied (code_of own) own.called (callee_of own) (copies_of own) c.requires.known.callee (OfResult (InFunction own.called)) (target_of c.in-Some.target) (eq-eqb own.called own.called refl)
    (ap optional_target c.in-Some.is)

pub returns-clause-joins : goal.returns-clause-joins
returns-clause-joins c =
    let own = c.args.self in
    let tac = code_of own in
    let made = c.requires.known.code.made in
    let read = type_read own.tac.now own.called c.index.result.now c.requires.known.within c.index.ensures in
    let is : is_data_pointer (result_of (function_type tac own.called)) ≡ true = ap (λ t. is_data_pointer (result_of t)) read ∙ (sym c.gives_data_pointer.ensures ∙ c.if-not-gives_data_pointer.false) in
    on_ok c.join_image.result c.join_image.ensures.joins
    (λ then. given_if tac made (callee_of own) (copies_of own) (owner_of c.args.owner) c.args.site own.called (function_type tac own.called) is (shown own c.args.graph.now) (shown own c.join_image.new.graph)
    (given_one tac made (callee_of own) (copies_of own) (OfRegister (owner_of c.args.owner) (R.Call c.args.site)) (OfResult (InFunction own.called)) (target_of c.in-Some.target) (ap optional_target c.in-Some.is)
    (shown own c.args.graph.now) (shown own c.join_image.new.graph) then))
