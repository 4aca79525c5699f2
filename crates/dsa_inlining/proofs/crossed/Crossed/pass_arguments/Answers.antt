use Rattle.std.proofs.Common.{◌+◌, get_or, inl, inr, refl, sym, ap, subst, ◌∙◌, arith}
use Rattle.std.proofs.lemmas.Option.{slice_get-get_or}
use Rattle.c_typed.specs.Table.{type_in, ListStands, types_in}
use Rattle.tac_ir.specs.declared.register.Local.TheVariants as L
use Rattle.tac_ir.specs.declared.register.Register.TheVariants as R
use Rattle.heap_graph.specs.Graphs.{OfRegister}
use Rattle.heap_graph.specs.Closed.{parameters_in, parameters_of, function_type}
use Rattle.heap_graph.specs.Frozen.{bare}
use Rattle.graph_unification.specs.Memory.{owner_of, IsGraph}
use Rattle.dsa_inlining.proofs.Carried.{copies_kept}
use Rattle.dsa_inlining.specs.Joins.{Joins}
use Rattle.dsa_inlining.specs.Shown.{code_of, shown, callee_of, copies_of}
use Rattle.dsa_inlining.proofs.Joining.{Below, joins_none, joins_more}
use Rattle.dsa_inlining.proofs.Passing.{type_read, next_formal, no_formal, no_function, OnePassed, one_passed_kept, this_passed, not_passed, all_passed}
use Rattle.dsa_inlining.proofs.crossed.Crossed.pass_arguments.Goals.{then-is_data_pointer+in_ok-pass, else-is_data_pointer}
use Rattle.dsa_inlining.proofs.crossed.Crossed.pass_arguments.Goals as goal

pub returns-in_default-clause-joins : goal.returns-in_default-clause-joins
returns-in_default-clause-joins c =
    let own = c.args.self in
    let tac = code_of own in
    let types = own.tac.now.types in
    let made = c.requires.known.code.made in
    let formals = parameters_of (function_type tac own.called) in
    let read = type_read own.tac.now own.called c.index.result.now c.requires.known.within c.index.ensures in
    let none = ap parameters_of (read ∙ sym c.number_of.ensures.means) ∙ no_function types _ c.shape.result c.shape.ensures c.in_default.not-Function in
    all_passed tac made (callee_of own) (copies_of own) (owner_of c.args.owner) own.called formals c.args.arguments.now 0 (inr (no_formal formals 0 none)) (shown own c.args.graph.now) (shown own c.args.graph.now)
    (joins_none tac made (callee_of own) (OnePassed (callee_of own) (copies_of own) (owner_of c.args.owner) own.called formals c.args.arguments.now) (shown own c.args.graph.now) c.requires.graph.sound)

pub loop-number-init : goal.loop-number-init
loop-number-init c =
    let own = c.args.self in
    let tac = code_of own in
    let read = type_read own.tac.now own.called c.index.result.now c.requires.known.within c.index.ensures in
    record {
      graph = c.requires.graph;
      stands = c.in-Function.ensures.parts.1;
      left = ap parameters_of (read ∙ (sym c.number_of.ensures.means ∙ c.in-Function.ensures.means));
      joins = joins_none tac c.requires.known.code.made (callee_of own) (OnePassed (callee_of own) (copies_of own) (owner_of c.args.owner) own.called (parameters_of (function_type tac own.called)) c.args.arguments.now)
          (shown own c.args.graph.now) c.requires.graph.sound;
    }

pub first_parameter-requires : goal.first_parameter-requires
first_parameter-requires c = c.loop-number.invariant.stands

pub returns-in_default-first_parameter-clause-graph : goal.returns-in_default-first_parameter-clause-graph
returns-in_default-first_parameter-clause-graph c = c.loop-number.invariant.graph

pub returns-in_default-first_parameter-clause-joins : goal.returns-in_default-first_parameter-clause-joins
returns-in_default-first_parameter-clause-joins c =
    let own = c.args.self in
    let tac = code_of own in
    let formals = parameters_of (function_type tac own.called) in
    let number = c.loop-number.number in
    all_passed tac c.requires.known.code.made (callee_of own) (copies_of own) (owner_of c.args.owner) own.called formals c.args.arguments.now number
    (inr (no_formal formals number (c.loop-number.invariant.left ∙ ap parameters_in c.in_default-first_parameter.ensures))) (shown own c.args.graph.now) (shown own c.loop-number.graph) c.loop-number.invariant.joins

pub pass-requires-clause-graph : goal.pass-requires-clause-graph
pass-requires-clause-graph c = c.loop-number.invariant.graph

pub pass-requires-clause-copied : goal.pass-requires-clause-copied
pass-requires-clause-copied c =
    let own = c.args.self in
    copies_kept (code_of own).structs c.requires.known.code.made (shown own c.args.graph.now) (shown own c.loop-number.graph) (bare own.tac.now.types own.callee.now) (copies_of own) c.requires.graph.sound
    c.loop-number.invariant.joins.goes c.requires.copied

pub pass-requires-clause-formal : goal.pass-requires-clause-formal
pass-requires-clause-formal c =
    let own = c.args.self in
    let types = own.tac.now.types in
    let number = c.loop-number.number in
    let formals = parameters_of (function_type (code_of own) own.called) in
    let next = next_formal formals (parameters_in (types_in types c.in-Some.others)) number (type_in types c.in-Some.first) (c.loop-number.invariant.left ∙ ap parameters_in c.in-Some.ensures.0) in
    c.requires.known.callee.formals number (type_in types c.in-Some.first) next.0 (sym c.is_data_pointer.ensures ∙ c.if-is_data_pointer.true)

pub pass-requires-clause-named : goal.pass-requires-clause-named
pass-requires-clause-named c =
    let number = c.loop-number.number in
    let arguments = c.args.arguments.now in
    let argument = get_or arguments number (R.Local (L.Parameter 0)) in
    c.loop-number.invariant.joins.names (OfRegister (owner_of c.args.owner) argument) refl ∙ c.requires.named number argument (slice_get-get_or arguments number (R.Local (L.Parameter 0)) c.loop-number-test.true)

pub loop-number-preserved : goal.loop-number-preserved
loop-number-preserved c =
    let own = c.args.self in
    let tac = code_of own in
    let types = own.tac.now.types in
    let made = c.requires.known.code.made in
    let callee = callee_of own in
    let copies = copies_of own in
    let number = c.loop-number.number in
    let owner = owner_of c.args.owner in
    let called = own.called in
    let arguments = c.args.arguments.now in
    let argument = get_or arguments number (R.Local (L.Parameter 0)) in
    let formals = parameters_of (function_type tac called) in
    let one = OnePassed callee copies owner called formals arguments in
    let next = next_formal formals (parameters_in (types_in types c.in-Some.others)) number (type_in types c.in-Some.first) (c.loop-number.invariant.left ∙ ap parameters_in c.in-Some.ensures.0) in
    let start = shown own c.args.graph.now in
    let graph = shown own c.loop-number.graph in
    let before = c.loop-number.invariant in
    elim c.if-is_data_pointer.branch [
      | then-is_data_pointer+in_ok-pass w ↦ (let its = w.in_ok-pass.ensures in
          let at = slice_get-get_or arguments number (R.Local (L.Parameter 0)) c.loop-number-test.true in
          let passed =
          this_passed tac made callee copies owner called formals arguments number (type_in types c.in-Some.first) argument next.0 at (sym c.is_data_pointer.ensures ∙ w.if-is_data_pointer.true) graph
          (shown own w.pass.new.graph) its.joins in
          record {
            graph = subst (λ g. IsGraph types g) (sym w.graph-is) its.graph;
            stands = subst (λ p. ListStands types p) (sym w.parameters-is) c.in-Some.ensures.2;
            left = next.1 ∙ ap (λ p. parameters_in (types_in types p)) (sym w.parameters-is);
            joins = subst (λ g. Joins tac callee (Below one (number + 1)) start (shown own g)) (sym w.graph-is)
                (joins_more tac made callee one (one_passed_kept tac made callee copies owner called formals arguments) start graph (shown own w.pass.new.graph) c.requires.graph.sound before.graph.sound number before.joins passed);
          })
      | else-is_data_pointer w ↦ (let passed =
          not_passed tac made callee copies owner called formals arguments number (type_in types c.in-Some.first) next.0 (sym c.is_data_pointer.ensures ∙ w.if-is_data_pointer.false) graph before.graph.sound in
          record {
            graph = subst (λ g. IsGraph types g) (sym w.graph-is) before.graph;
            stands = subst (λ p. ListStands types p) (sym w.parameters-is) c.in-Some.ensures.2;
            left = next.1 ∙ ap (λ p. parameters_in (types_in types p)) (sym w.parameters-is);
            joins = subst (λ g. Joins tac callee (Below one (number + 1)) start (shown own g)) (sym w.graph-is)
                (joins_more tac made callee one (one_passed_kept tac made callee copies owner called formals arguments) start graph graph c.requires.graph.sound before.graph.sound number before.joins passed);
          })
    ]

pub returns-clause-graph : goal.returns-clause-graph
returns-clause-graph c = c.loop-number.invariant.graph

pub returns-clause-joins : goal.returns-clause-joins
returns-clause-joins c =
    let own = c.args.self in
    let tac = code_of own in
    all_passed tac c.requires.known.code.made (callee_of own) (copies_of own) (owner_of c.args.owner) own.called (parameters_of (function_type tac own.called)) c.args.arguments.now c.loop-number.number
    (inl (omega (arith, c.loop-number-test.false))) (shown own c.args.graph.now) (shown own c.loop-number.graph) c.loop-number.invariant.joins
