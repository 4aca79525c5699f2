use Rattle.std.proofs.Common.{◌<◌, ◌+◌, [], None, option_map, Bor, length, drop, get_or, refl, sym, ap, subst, ◌∙◌, arith}
use Rattle.std.proofs.lemmas.List.{drop_more}
use Rattle.c_syntax.specs.declared.expr.Parameter.{out-Parameter}
use Rattle.c_syntax.specs.declared.name.Name.{Name}
use Rattle.c_syntax.specs.Views.{name_tree, parameters_of, words_tree, optional_of}
use Rattle.c_typed.specs.Table.{Interned, KnownStands}
use Rattle.c_rules.specs.Expressions.{optional_name}
use Rattle.c_types_state.specs.NameTables.{State, scope_of}
use Rattle.c_rules.specs.Programs.{unnamed, parameter_local}
use Rattle.c_types_expressions.specs.declared.pass.Pass.{Pass}
use Rattle.c_types_expressions.proofs.Parameters.{parameter-next, parameters-end}
use Rattle.c_types.specs.Made.{Covers}
use Rattle.c_types.proofs.ParameterLocals.{declares-start, declares-more, declares-end, declared-named, declared-unnamed, known-at}
use Rattle.c_types.proofs.parameters.declare_parameters.Goals.{in-Some+in_ok-declare_local-in-Some, in-None}
use Rattle.c_types.proofs.parameters.declare_parameters.Goals as goal

pub loop-index-init : goal.loop-index-init
loop-index-init c = record {
  table = refl;
  declares = λ outside. declares-start outside c.args.pass.now.checker.table c.args.types.now (parameters_of c.args.parameters.now) c.args.pass.now;
}

pub loop-index-preserved : goal.loop-index-preserved
loop-index-preserved c =
    let table = c.args.pass.now.checker.table in
    let parameters = c.args.parameters.now in
    let types = c.args.types.now in
    let index = c.loop-index.index in
    let now = c.loop-index.pass in
    let next = c.match-optional_name.pass in
    let parts = out-Parameter c.index-parameters-index.result in
    let words = words_tree parts.simple in
    let declarator = optional_of parts.declarator in
    let known = optional_name declarator in
    let first = get_or types index None in
    let so_far = c.loop-index.invariant in
    let lt : index < length types = omega (arith, c.loop-index-test.true, c.requires.length) in
    record {
      table = elim c.match-optional_name.branch [
        | in-Some+in_ok-declare_local-in-Some w ↦ ap (λ (p : Pass). p.checker.table) w.pass-is ∙ w.in_ok-declare_local-in-Some.ensures.done.table ∙ so_far.table
        | in-None w ↦ ap (λ (p : Pass). p.checker.table) w.pass-is ∙ ap (λ (state : State). state.table) w.note.ensures ∙ so_far.table
      ];
      declares = λ outside. declares-more outside table types (parameters_of parameters) c.args.pass.now (drop index types) (drop (index + 1) types) (parameters_of (drop index parameters)) (parameters_of (drop (index + 1) parameters)) now next first words declarator
          (drop_more types index None lt) (parameter-next parameters index c.index-parameters-index.result c.loop-index-test.true c.index-parameters-index.is)
          (λ h. elim c.match-optional_name.branch [
            | in-Some+in_ok-declare_local-in-Some w ↦ subst (λ (p : Pass). Covers (unnamed known words.place) [] (parameter_local outside words declarator known (scope_of now.checker)) now p) (sym w.pass-is)
                (declared-named {s = now} {t = record now { checker = w.declare_local.new.self }} outside table words declarator (name_tree w.in-Some.name.now) known w.as_slice.result.now first
                (ap (option_map (λ (name : Bor Name). name_tree name.now)) (sym w.in-Some.is) ∙ c.optional_name.ensures) w.as_slice.ensures so_far.table w.in_ok-declare_local-in-Some.ensures.done refl h)
            | in-None w ↦ subst (λ (p : Pass). Covers (unnamed known words.place) [] (parameter_local outside words declarator known (scope_of now.checker)) now p) (sym w.pass-is)
                (declared-unnamed {s = now} {t = record now { checker = w.note.new.self }} outside words declarator known words.place
                (ap (option_map (λ (name : Bor Name). name_tree name.now)) (sym w.in-None.is) ∙ c.optional_name.ensures) refl w.note.ensures refl)
          ])
          (so_far.declares outside);
    }

pub declare_local-requires : goal.declare_local-requires
declare_local-requires c =
    let lt : c.loop-index.index < length c.args.types.now = omega (arith, c.loop-index-test.true, c.requires.length) in
    subst (λ (table : Interned). KnownStands table (get_or c.args.types.now c.loop-index.index None)) (sym c.loop-index.invariant.table)
    (known-at c.args.pass.now.checker.table c.args.types.now c.loop-index.index None lt c.requires.stand)

pub returns : goal.returns
returns c = λ outside h. declares-end outside c.args.pass.now.checker.table c.args.types.now (parameters_of c.args.parameters.now) c.args.pass.now (drop c.loop-index.index c.args.types.now) (parameters_of (drop c.loop-index.index c.args.parameters.now)) c.loop-index.pass
    (parameters-end c.args.parameters.now c.loop-index.index c.loop-index-test.false) (c.loop-index.invariant.declares outside) h
