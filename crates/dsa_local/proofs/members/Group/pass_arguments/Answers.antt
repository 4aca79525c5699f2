use Rattle.std.proofs.Common.{◌+◌, length, get_or, inl, inr, sym, ap, subst, ◌∙◌, arith}
use Rattle.std.proofs.lemmas.Option.{slice_get-get_or, slice_get_within}
use Rattle.c_typed.specs.Table.{structs_in, type_in, ListStands, types_in}
use Rattle.tac_ir.specs.declared.register.Local.TheVariants as L
use Rattle.tac_ir.specs.declared.register.Register.TheVariants as R
use Rattle.tac_ir.specs.States.{InFunction}
use Rattle.heap_graph.specs.Graphs.{OfRegister}
use Rattle.heap_graph.specs.Targets.{has_target}
use Rattle.heap_graph.specs.Closed.{parameters_in, parameters_of, formal}
use Rattle.graph_unification.specs.Memory.{name_of, IsGraph}
use Rattle.dsa_local.specs.Joined.{IsPassed, Joins, PassedNamed}
use Rattle.dsa_local.specs.Members.{code_of, shown}
use Rattle.dsa_local.proofs.Joining.{Below, joins_none, joins_more}
use Rattle.dsa_local.proofs.InnerCalls.Kept.{passed_named}
use Rattle.dsa_local.proofs.Passing.{next_formal, no_formal, no_function, OnePassed, one_passed_kept, this_passed, not_passed, all_passed}
use Rattle.dsa_local.proofs.members.Group.pass_arguments.Goals.{then-is_data_pointer+in_ok-pass, else-is_data_pointer}
use Rattle.dsa_local.proofs.members.Group.pass_arguments.Goals as goal

pub returns-in_default-clause-joins : goal.returns-in_default-clause-joins
returns-in_default-clause-joins c =
    let own = c.args.self in
    let types = own.tac.now.types in
    let none = ap parameters_of (sym c.number_of.ensures.means) ∙ no_function types _ c.shape.result c.shape.ensures c.in_default.not-Function in
    all_passed (structs_in types) c.requires.stands.made (InFunction c.args.caller.0) c.args.called (parameters_of (type_in types c.args.c_type)) c.args.arguments.now 0
    (inr (no_formal (parameters_of (type_in types c.args.c_type)) 0 none)) (shown own c.args.graph.now) (shown own c.args.graph.now)
    (joins_none (structs_in types) c.requires.stands.made (OnePassed (InFunction c.args.caller.0) c.args.called (parameters_of (type_in types c.args.c_type)) c.args.arguments.now) (shown own c.args.graph.now) c.requires.graph.sound)

pub loop-number-init : goal.loop-number-init
loop-number-init c =
    let own = c.args.self in
    let types = own.tac.now.types in
    record {
      graph = c.requires.graph;
      named = c.requires.names;
      stands = c.in-Function.ensures.parts.1;
      left = ap parameters_of (sym c.number_of.ensures.means ∙ c.in-Function.ensures.means);
      joins = joins_none (structs_in types) c.requires.stands.made (OnePassed (InFunction c.args.caller.0) c.args.called (parameters_of (type_in types c.args.c_type)) c.args.arguments.now) (shown own c.args.graph.now) c.requires.graph.sound;
    }

pub first_parameter-requires : goal.first_parameter-requires
first_parameter-requires c = c.loop-number.invariant.stands

pub returns-in_default-first_parameter-clause-graph : goal.returns-in_default-first_parameter-clause-graph
returns-in_default-first_parameter-clause-graph c = c.loop-number.invariant.graph

pub returns-in_default-first_parameter-clause-joins : goal.returns-in_default-first_parameter-clause-joins
returns-in_default-first_parameter-clause-joins c =
    let own = c.args.self in
    let types = own.tac.now.types in
    let formals = parameters_of (type_in types c.args.c_type) in
    let number = c.loop-number.number in
    all_passed (structs_in types) c.requires.stands.made (InFunction c.args.caller.0) c.args.called formals c.args.arguments.now number
    (inr (no_formal formals number (c.loop-number.invariant.left ∙ ap parameters_in c.in_default-first_parameter.ensures))) (shown own c.args.graph.now) (shown own c.loop-number.graph) c.loop-number.invariant.joins

pub pass-requires-clause-graph : goal.pass-requires-clause-graph
pass-requires-clause-graph c = c.loop-number.invariant.graph

pub pass-requires-clause-argument : goal.pass-requires-clause-argument
pass-requires-clause-argument c =
    let number = c.loop-number.number in
    let arguments = c.args.arguments.now in
    let argument = get_or arguments number (R.Local (L.Parameter 0)) in
    ap (λ name. has_target ((shown c.args.self c.loop-number.graph).targets name)) c.register-own.ensures
    ∙ c.loop-number.invariant.named.passed number argument (slice_get-get_or arguments number (R.Local (L.Parameter 0)) c.loop-number-test.true)

pub pass-requires-clause-formal : goal.pass-requires-clause-formal
pass-requires-clause-formal c =
    let own = c.args.self in
    let types = own.tac.now.types in
    let number = c.loop-number.number in
    let formals = parameters_of (type_in types c.args.c_type) in
    let next = next_formal formals (parameters_in (types_in types c.in-Some.others)) number (type_in types c.in-Some.first) (c.loop-number.invariant.left ∙ ap parameters_in c.in-Some.ensures.0) in
    let less = slice_get_within formals number (type_in types c.in-Some.first) next.0 in
    let told = ap (λ t. length (parameters_of t)) c.requires.c_type in
    ap (λ name. has_target ((shown own c.loop-number.graph).targets name)) c.formal.ensures ∙ c.loop-number.invariant.named.formals number (omega (arith, less, told))

pub loop-number-preserved : goal.loop-number-preserved
loop-number-preserved c =
    let own = c.args.self in
    let types = own.tac.now.types in
    let structs = structs_in types in
    let made = c.requires.stands.made in
    let number = c.loop-number.number in
    let owner = InFunction c.args.caller.0 in
    let called = c.args.called in
    let arguments = c.args.arguments.now in
    let argument = get_or arguments number (R.Local (L.Parameter 0)) in
    let formals = parameters_of (type_in types c.args.c_type) in
    let next = next_formal formals (parameters_in (types_in types c.in-Some.others)) number (type_in types c.in-Some.first) (c.loop-number.invariant.left ∙ ap parameters_in c.in-Some.ensures.0) in
    let start = shown own c.args.graph.now in
    let graph = shown own c.loop-number.graph in
    let before = c.loop-number.invariant in
    elim c.if-is_data_pointer.branch [
      | then-is_data_pointer+in_ok-pass w ↦ (let its = w.in_ok-pass.ensures in
          let at = slice_get-get_or arguments number (R.Local (L.Parameter 0)) c.loop-number-test.true in
          let passed : Joins structs graph (shown own w.pass.new.graph) (IsPassed (OfRegister owner argument) (formal called number)) =
          subst (λ name. Joins structs graph (shown own w.pass.new.graph) (IsPassed (OfRegister owner argument) name)) w.formal.ensures
          (subst (λ name. Joins structs graph (shown own w.pass.new.graph) (IsPassed name (name_of w.formal.result))) w.register-own.ensures its.joins) in
          let one = this_passed structs made owner called formals arguments number (type_in types c.in-Some.first) argument next.0 at (sym c.is_data_pointer.ensures ∙ w.if-is_data_pointer.true) graph (shown own w.pass.new.graph) passed in
          record {
            graph = subst (λ g. IsGraph types g) (sym w.graph-is) its.graph;
            named = subst (λ g. PassedNamed (code_of own) owner arguments called (shown own g)) (sym w.graph-is) (passed_named graph (shown own w.pass.new.graph) its.joins.leads.names (code_of own) owner arguments called before.named);
            stands = subst (λ p. ListStands types p) (sym w.parameters-is) c.in-Some.ensures.2;
            left = next.1 ∙ ap (λ p. parameters_in (types_in types p)) (sym w.parameters-is);
            joins = subst (λ g. Joins structs start (shown own g) (Below (OnePassed owner called formals arguments) (number + 1))) (sym w.graph-is)
                (joins_more structs made (OnePassed owner called formals arguments) (one_passed_kept structs made owner called formals arguments) start graph (shown own w.pass.new.graph) c.requires.graph.sound before.graph.sound number before.joins one);
          })
      | else-is_data_pointer w ↦ (let one = not_passed structs made owner called formals arguments number (type_in types c.in-Some.first) next.0 (sym c.is_data_pointer.ensures ∙ w.if-is_data_pointer.false) graph before.graph.sound in
          record {
            graph = subst (λ g. IsGraph types g) (sym w.graph-is) before.graph;
            named = subst (λ g. PassedNamed (code_of own) owner arguments called (shown own g)) (sym w.graph-is) before.named;
            stands = subst (λ p. ListStands types p) (sym w.parameters-is) c.in-Some.ensures.2;
            left = next.1 ∙ ap (λ p. parameters_in (types_in types p)) (sym w.parameters-is);
            joins = subst (λ g. Joins structs start (shown own g) (Below (OnePassed owner called formals arguments) (number + 1))) (sym w.graph-is)
                (joins_more structs made (OnePassed owner called formals arguments) (one_passed_kept structs made owner called formals arguments) start graph graph c.requires.graph.sound before.graph.sound number before.joins one);
          })
    ]

pub returns-clause-graph : goal.returns-clause-graph
returns-clause-graph c = c.loop-number.invariant.graph

pub returns-clause-joins : goal.returns-clause-joins
returns-clause-joins c =
    let own = c.args.self in
    let types = own.tac.now.types in
    all_passed (structs_in types) c.requires.stands.made (InFunction c.args.caller.0) c.args.called (parameters_of (type_in types c.args.c_type)) c.args.arguments.now c.loop-number.number
    (inl (omega (arith, c.loop-number-test.false))) (shown own c.args.graph.now) (shown own c.loop-number.graph) c.loop-number.invariant.joins
