use Rattle.std.proofs.Common.{sym, ap, subst, ◌∙◌}
use Rattle.c_typed.specs.Views.{value_in, ValueStands}
use Rattle.std.proofs.lemmas.List.{nil_from_length}
use Rattle.c_typed.specs.Table.{types_in}
use Rattle.c_types_state.specs.Finding.{Finds}
use Rattle.c_types_state.specs.Staying.{IsValues}
use Rattle.c_typed.proofs.Grown.{list_stays}
use Rattle.c_types_expressions.specs.Arguments.{arguments_in, ArgumentsStand}
use Rattle.c_types_expressions.specs.Calls.{passed_values}
use Rattle.c_types_expressions.proofs.Arguments.{with_others-start, arguments_stay, found_in_vec}
use Rattle.c_types_expressions.proofs.CallsPassing.{leads-some, leads-none, leads-free, leads-stop, leads-end}
use Rattle.c_types_expressions.proofs.calls.passed.Goals as goal
use Rattle.c_types_expressions.proofs.calls.passed.Goals.{in-None, in-Some+in_default+else-is_free}

pub loop-argument-init : goal.loop-argument-init
loop-argument-init c =
    let old = c.args.checker.now in
    let types = types_in old.table c.args.parameters in
    let items = c.into_iter-argument-iterator.ensures.into_iter_gives.0 in
    record {
      parameters = c.requires.parameters;
      arguments = subst (ArgumentsStand old.table) (sym items) c.requires.arguments;
      others = λ t r found.
          subst (Finds IsValues (passed_values c.args.whole c.args.is_free types (arguments_in old.table c.args.arguments.items)) old t) (with_others-start c.new-values.result.items r c.new-values.ensures.items)
          (subst (λ list. Finds IsValues (passed_values c.args.whole c.args.is_free types (arguments_in old.table list)) old t r) items found);
    }

pub loop-argument-preserved : goal.loop-argument-preserved
loop-argument-preserved c =
    let old = c.args.checker.now in
    let s = c.loop-argument.checker in
    let w = c.passed_value.new.checker in
    let found = c.in_ok-value.ensures in
    let split = c.in-Some-first_parameter.ensures in
    let rest = c.loop-argument.argument-iterator.rest.items in
    let rest' = c.next.new.self.rest.items in
    let is_next = c.in-Some.ensures.steps.0 in
    let stand' = (subst (ArgumentsStand s.table) is_next c.loop-argument.invariant.arguments).1 in
    let checked = passed_values c.args.whole c.args.is_free (types_in old.table c.args.parameters) (arguments_in old.table c.args.arguments.items) in
    record {
      parameters = (list_stays s.table w.table found.grows c.in-Some-first_parameter.others split.2).0;
      arguments = (arguments_stay s.table w.table found.grows rest' stand').0;
      others =
          leads-none c.args.whole c.args.is_free checked old s c.loop-argument.parameters c.in-Some.argument rest rest' c.loop-argument.are_known c.loop-argument.values.items c.loop-argument.invariant.others is_next
          w c.in-Some-first_parameter.parameter c.in-Some-first_parameter.others c.in_ok-value.field-0 split.0 split.2 stand' found c.in-None-2.is;
    }

pub loop-argument-preserved-in-Continue-branch-5 : goal.loop-argument-preserved-in-Continue-branch-5
loop-argument-preserved-in-Continue-branch-5 c =
    let old = c.args.checker.now in
    let s = c.loop-argument.checker in
    let w = c.passed_value.new.checker in
    let found = c.in_ok-value.ensures in
    let split = c.in-Some-first_parameter.ensures in
    let rest = c.loop-argument.argument-iterator.rest.items in
    let rest' = c.next.new.self.rest.items in
    let is_next = c.in-Some.ensures.steps.0 in
    let stand' = (subst (ArgumentsStand s.table) is_next c.loop-argument.invariant.arguments).1 in
    let checked = passed_values c.args.whole c.args.is_free (types_in old.table c.args.parameters) (arguments_in old.table c.args.arguments.items) in
    record {
      parameters = (list_stays s.table w.table found.grows c.in-Some-first_parameter.others split.2).0;
      arguments = (arguments_stay s.table w.table found.grows rest' stand').0;
      others =
          leads-some c.args.whole c.args.is_free checked old s c.loop-argument.parameters c.in-Some.argument rest rest' c.loop-argument.are_known c.loop-argument.values.items c.loop-argument.invariant.others is_next
          w c.in-Some-first_parameter.parameter c.in-Some-first_parameter.others c.in_ok-value.field-0 split.0 split.2 stand' found c.in-Some-2.value c.push-in-Some-2.new.self.items c.in-Some-2.is c.in_ok-push-in-Some-2.ensures.items;
    }

pub loop-argument-preserved-then-is_free : goal.loop-argument-preserved-then-is_free
loop-argument-preserved-then-is_free c =
    let old = c.args.checker.now in
    let s = c.loop-argument.checker in
    let rest = c.loop-argument.argument-iterator.rest.items in
    let rest' = c.next.new.self.rest.items in
    let is_next = c.in-Some.ensures.steps.0 in
    let stand = subst (ArgumentsStand s.table) is_next c.loop-argument.invariant.arguments in
    let checked = passed_values c.args.whole c.args.is_free (types_in old.table c.args.parameters) (arguments_in old.table c.args.arguments.items) in
    let made = c.in_ok-passed.ensures in
    record {
      parameters = c.loop-argument.invariant.parameters;
      arguments = stand.1;
      others =
          leads-free c.args.whole c.args.is_free checked old s c.loop-argument.parameters c.in-Some.argument rest rest' c.loop-argument.are_known c.loop-argument.values.items c.loop-argument.invariant.others is_next
          c.into_inner.result c.push.new.self.items c.in_default.ensures c.if-is_free.true (subst (ValueStands s.table) (sym c.into_inner.ensures) (made.stands s.table stand.0), ap (value_in s.table) c.into_inner.ensures ∙ made.unconverted s.table) c.in_ok-push.ensures.items;
    }

pub returns : goal.returns
returns c =
    let old = c.args.checker.now in
    let s = c.loop-argument.checker in
    let rest = c.loop-argument.argument-iterator.rest in
    let known = c.loop-argument.are_known in
    let values = c.loop-argument.values in
    let checked = passed_values c.args.whole c.args.is_free (types_in old.table c.args.parameters) (arguments_in old.table c.args.arguments.items) in
    found_in_vec values known c.then_some.result c.then_some.ensures
    (elim c.match-next.branch [
      | in-None w ↦
          leads-end c.args.whole c.args.is_free checked old s c.loop-argument.parameters rest.items known values.items c.loop-argument.invariant.others
          (nil_from_length rest.items (sym rest.ok.0 ∙ w.in-None.ensures.steps.0))
      | in-Some+in_default+else-is_free w ↦
          leads-stop c.args.whole c.args.is_free checked old s c.loop-argument.parameters rest.items known values.items c.loop-argument.invariant.others
          w.in_default.ensures w.if-is_free.false
    ])
