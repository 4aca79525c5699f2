use Rattle.std.proofs.Common.{List, [], Option, Some, option_map, sym, subst}
use Rattle.c_syntax.specs.declared.declaration.Init as memory_init
use Rattle.c_syntax.specs.Views.{init_tree}
use Rattle.c_typed.specs.declared.typed.Value as memory_value
use Rattle.c_typed.specs.Table.{type_in}
use Rattle.c_rules.specs.Elaborated.{first_held}
use Rattle.c_types_state.specs.Finding.{each_in}
use Rattle.c_types_state.specs.NameTables.{scope_of}
use Rattle.c_rules.specs.Programs.{first_rules}
use Rattle.c_types_expressions.specs.declared.pass.Pass.{Pass}
use Rattle.c_types.specs.declared.initializers.Target.{Target}
use Rattle.c_types.specs.InitialValues.{AddsValues, init_values, optional_values}
use Rattle.c_types.specs.Made.{Makes, IsFirst}
use Rattle.c_rules.specs.NamedItems.{named_in_first}
use Rattle.c_types.proofs.VariableNumbers.{option-none}
use Rattle.c_types.proofs.KeptValues.{adds-none}
use Rattle.c_types.proofs.OutsideMade.{first-none, first-some}
use Rattle.c_types.proofs.items.first_values.Goals.{in-Some+in_ok-first_of, in_default}
use Rattle.c_types.proofs.items.first_values.Goals as goal

pub first_of-requires : goal.first_of-requires
first_of-requires c = c.requires

pub returns-clause-made : goal.returns-clause-made
returns-clause-made c =
    let s = c.args.pass.now in
    let scope = scope_of s.checker in
    let known = each_in type_in s.checker.table c.args.c_type in
    let target : Target = record { parts = c.new.result; first = c.new-2.result } in
    elim c.match-init.branch [
      | in-Some+in_ok-first_of w ↦
          subst (λ (o : Option memory_init.Init). Makes IsFirst (first_rules scope known (option_map init_tree o)) (first_held scope known (option_map init_tree o)) (named_in_first scope (option_map init_tree o)) scope s c.match-init.pass c.match-init.target.first) (sym w.in-Some.is)
          (subst (λ (p : Pass). Makes IsFirst (first_rules scope known (Some (init_tree w.in-Some.init))) (first_held scope known (Some (init_tree w.in-Some.init))) (named_in_first scope (Some (init_tree w.in-Some.init))) scope s p c.match-init.target.first) (sym w.pass-is)
          (subst (λ (t : Target). Makes IsFirst (first_rules scope known (Some (init_tree w.in-Some.init))) (first_held scope known (Some (init_tree w.in-Some.init))) (named_in_first scope (Some (init_tree w.in-Some.init))) scope s w.first_of.new.pass t.first) (sym w.target-is)
          (first-some known (init_tree w.in-Some.init) target w.first_of.new.target c.new.ensures.items c.new-2.ensures.items w.in_ok-first_of.ensures.found w.in_ok-first_of.ensures.held)))
      | in_default w ↦
          subst (λ (o : Option memory_init.Init). Makes IsFirst (first_rules scope known (option_map init_tree o)) (first_held scope known (option_map init_tree o)) (named_in_first scope (option_map init_tree o)) scope s c.match-init.pass c.match-init.target.first) (sym (option-none c.args.init.now w.in_default.not-Some))
          (subst (λ (p : Pass). Makes IsFirst [] [] [] scope s p c.match-init.target.first) (sym w.pass-is)
          (subst (λ (t : Target). Makes IsFirst [] [] [] scope s s t.first) (sym w.target-is)
          (first-none c.new-2.result c.new-2.ensures.items)))
    ]

pub returns-clause-values : goal.returns-clause-values
returns-clause-values c =
    let s = c.args.pass.now in
    let scope = scope_of s.checker in
    elim c.match-init.branch [
      | in-Some+in_ok-first_of w ↦
          subst (λ (o : Option memory_init.Init). AddsValues (optional_values scope (option_map init_tree o)) c.match-init.pass.checker.table c.args.values.now.items c.match-init.values.items) (sym w.in-Some.is)
          (subst (λ (p : Pass). AddsValues (init_values scope (init_tree w.in-Some.init)) p.checker.table c.args.values.now.items c.match-init.values.items) (sym w.pass-is)
          (subst (λ (values : List memory_value.Value). AddsValues (init_values scope (init_tree w.in-Some.init)) w.first_of.new.pass.checker.table c.args.values.now.items values) (sym (λ i. (w.values-is i).items))
          w.in_ok-first_of.ensures.values))
      | in_default w ↦
          subst (λ (o : Option memory_init.Init). AddsValues (optional_values scope (option_map init_tree o)) c.match-init.pass.checker.table c.args.values.now.items c.match-init.values.items) (sym (option-none c.args.init.now w.in_default.not-Some))
          (subst (λ (values : List memory_value.Value). AddsValues [] c.match-init.pass.checker.table c.args.values.now.items values) (sym (λ i. (w.values-is i).items))
          (adds-none c.match-init.pass.checker.table c.args.values.now.items))
    ]
