use Rattle.std.proofs.Common.{◌+◌, [], ◌∷◌, length, drop, refl, ap, subst, ◌∙◌, arith, length-append}
use Rattle.c_syntax.specs.declared.expr.Parameter.{out-Parameter}
use Rattle.c_syntax.specs.Views.{parameters_of, words_tree, optional_of}
use Rattle.c_rules.specs.Expressions.{optional_name}
use Rattle.c_types_state.specs.NameTables.{scope_of}
use Rattle.c_types_expressions.proofs.Parameters.{parameter-next, parameters-end}
use Rattle.c_types.specs.Made.{IsOptionalType}
use Rattle.c_types.specs.Outside.{local_type}
use Rattle.c_types.proofs.Covering.{covers-none, covers-two, covers-same}
use Rattle.c_types.proofs.ParameterLocals.{gathers-start, gathers-more, gathers-end}
use Rattle.c_types.proofs.parameters.parameter_locals.Goals as goal

pub loop-parameter-init : goal.loop-parameter-init
loop-parameter-init c = record {
  covers = covers-none c.args.pass.now;
  long = ap length c.new-types.ensures.items;
  gathers = gathers-start (scope_of c.args.pass.now.checker) (parameters_of c.args.parameters.now) c.args.pass.now.checker.table c.new-types.result.items c.new-types.ensures.items;
}

pub loop-parameter-preserved : goal.loop-parameter-preserved
loop-parameter-preserved c =
    let scope = scope_of c.args.pass.now.checker in
    let parameters = c.args.parameters.now in
    let index = c.loop-parameter.parameter-index in
    let next = c.parameter_local.new.pass in
    let parts = out-Parameter c.parameter-item.result in
    let words = words_tree parts.simple in
    let declarator = optional_of parts.declarator in
    let types = c.loop-parameter.types.items in
    let r = c.in_ok-parameter_local.field-0 in
    let so_far = c.loop-parameter.invariant in
    let made = c.in_ok-parameter_local.ensures in
    record {
      covers = covers-two so_far.covers (covers-same refl refl so_far.covers.scope made.covers);
      long = ap length c.in_ok-push.ensures.items ∙ length-append types (r ∷ []) ∙ ap (λ n. n + 1) so_far.long;
      gathers = gathers-more scope (parameters_of parameters) (parameters_of (drop index parameters)) (parameters_of (drop (index + 1) parameters)) words declarator c.loop-parameter.pass.checker.table next.checker.table types c.push.new.self.items r
          (parameter-next parameters index c.parameter-item.result c.loop-parameter-test.true c.parameter-item.is) c.in_ok-push.ensures.items made.covers.grows
          (subst (λ scope. IsOptionalType next.checker.table r (local_type scope words declarator (optional_name declarator))) so_far.covers.scope made.made) so_far.gathers;
    }

pub returns-clause-made : goal.returns-clause-made
returns-clause-made c =
    let parameters = c.args.parameters.now in
    let index = c.loop-parameter.parameter-index in
    record {
      covers = c.loop-parameter.invariant.covers;
      made = gathers-end (scope_of c.args.pass.now.checker) (parameters_of parameters) (parameters_of (drop index parameters)) c.loop-parameter.pass.checker.table c.loop-parameter.types.items
          (parameters-end parameters index c.loop-parameter-test.false) c.loop-parameter.invariant.gathers;
    }

pub returns-clause-length : goal.returns-clause-length
returns-clause-length c = omega (arith, c.loop-parameter.invariant.long, c.loop-parameter-test.false, c.loop-parameter.auto.parameter-index-end)
