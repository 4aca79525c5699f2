-- What tests of names tell.
use Rattle.std.proofs.Common.{◌≡◌, ◌==◌, ℕ, zero, suc, ◌<◌, Bool, true, false, ◌||◌, nat_lt, get_or, drop, List, [], ◌∷◌, length, map, Option, Some, refl, sym, ap, subst, ◌∙◌, arith}
use Rattle.std.specs.Prelude.{slice_get}
use Rattle.std.specs.List.{list_any}
use Rattle.std.specs.Map.{keys_of}
use Rattle.indexmap.specs.IndexMap.{IndexMap}
use Rattle.std.proofs.lemmas.Bool.{and_from, and_parts, false≢true, ltb-true, lt-ltb}
use Rattle.std.proofs.lemmas.Option.{none-some, same_Some}
use Rattle.c_typed.specs.Table.{Interned}
use Rattle.tac_ir.specs.declared.register.Local.{Local}
use Rattle.tac_ir.specs.declared.register.Local.TheVariants as L
use Rattle.tac_ir.specs.declared.register.Register.{Register}
use Rattle.tac_ir.specs.declared.register.Register.TheVariants as R
use Rattle.tac_ir.specs.declared.program.Function.{Function}
use Rattle.tac_ir.specs.declared.program.LocalObject.{LocalObject}
use Rattle.tac_ir.specs.Code as O
use Rattle.tac_ir.specs.Values.{same_local}
use Rattle.tac_ir.specs.Views.{object_in, function_in}
use Rattle.heap_graph.specs.declared.graph.Target as memory_target
use Rattle.heap_graph.specs.Targets.{has_target}
use Rattle.heap_graph.specs.Closed.{has_register}
use Rattle.call_graph.specs.RowLists.{is_among}
use Rattle.call_graph.specs.Rows.{AreMarks}
use Rattle.heap_graph.specs.Frozen.{static_in, target_in, register_target}
use Rattle.heap_graph.specs.declared.frozen.FunctionNames.{FunctionNames}
use Rattle.graph_checker.specs.SoundGraphs.Sound.{RegistersAreOwn, ObjectsAreOwn}
use Rattle.graph_checker.specs.Tests.{are_below, have_none, registers_within, AreMarked, with_parameter, parameter_numbers, with_variable, variable_numbers}
use Rattle.graph_checker.proofs.Listed.{ends_at, none_from, each_is_below, all_are_below}

-- ---- registers

module _ (table : Interned) (function : Function) (names : FunctionNames) where
  pub registers_told : registers_within function names ≡ true → RegistersAreOwn (function_in table function) names
  registers_told all =
      let upto_arguments = and_parts _ _ all in
      let upto_calls = and_parts _ _ upto_arguments.0 in
      let upto_variables = and_parts _ _ upto_calls.0 in
      let locals = and_parts _ _ upto_variables.0 in
      by locals.0 locals.1 upto_variables.1 upto_calls.1 upto_arguments.1
    where
      by : have_none (drop function.parameters names.parameters.items) ≡ true → have_none (drop function.counts.variables names.variables.items) ≡ true
          → have_none (drop function.counts.calls names.calls.items) ≡ true → have_none (drop function.counts.arguments names.arguments.items) ≡ true
          → have_none (drop function.counts.expressions names.expressions.items) ≡ true
          → (register : Register) → has_target (register_target names register) ≡ true → has_register (function_in table function) register ≡ true
      by parameters variables calls arguments expressions (R.Local (L.Parameter number)) has = lt-ltb _ _ (ends_at names.parameters.items function.parameters parameters number has)
      by parameters variables calls arguments expressions (R.Local (L.Variable number)) has = lt-ltb _ _ (ends_at names.variables.items function.counts.variables variables number has)
      by parameters variables calls arguments expressions (R.Call number) has = lt-ltb _ _ (ends_at names.calls.items function.counts.calls calls number has)
      by parameters variables calls arguments expressions (R.Argument number) has = lt-ltb _ _ (ends_at names.arguments.items function.counts.arguments arguments number has)
      by parameters variables calls arguments expressions (R.Expression number) has = lt-ltb _ _ (ends_at names.expressions.items function.counts.expressions expressions number has)
      by parameters variables calls arguments expressions (R.Temporary number) has = absurd (false≢true has)

  pub registers_pass : RegistersAreOwn (function_in table function) names → registers_within function names ≡ true
  registers_pass told =
      and_from _ _ (and_from _ _ (and_from _ _ (and_from _ _
      (none_from names.parameters.items function.parameters (λ number has. ltb-true _ _ (told (R.Local (L.Parameter number)) has)))
      (none_from names.variables.items function.counts.variables (λ number has. ltb-true _ _ (told (R.Local (L.Variable number)) has))))
      (none_from names.calls.items function.counts.calls (λ number has. ltb-true _ _ (told (R.Call number) has))))
      (none_from names.arguments.items function.counts.arguments (λ number has. ltb-true _ _ (told (R.Argument number) has))))
      (none_from names.expressions.items function.counts.expressions (λ number has. ltb-true _ _ (told (R.Expression number) has)))

-- ---- locals in memory

module _ (table : Interned) where
  parameter_among : (objects : List LocalObject) (number : ℕ) → is_among number (parameter_numbers objects) ≡ list_any (λ (object : O.LocalObject). same_local object.local (L.Parameter number)) (map (object_in table) objects)
  parameter_among [] number = refl
  parameter_among (object ∷ objects) number = by object.local (parameter_among objects number)
    where
      by : (local : Local) → is_among number (parameter_numbers objects) ≡ list_any (λ (object : O.LocalObject). same_local object.local (L.Parameter number)) (map (object_in table) objects)
          → is_among number (with_parameter local (parameter_numbers objects)) ≡ (same_local local (L.Parameter number) || list_any (λ (object : O.LocalObject). same_local object.local (L.Parameter number)) (map (object_in table) objects))
      by (L.Parameter own) later = ap (λ b. (own == number) || b) later
      by (L.Variable own) later = later

  variable_among : (objects : List LocalObject) (number : ℕ) → is_among number (variable_numbers objects) ≡ list_any (λ (object : O.LocalObject). same_local object.local (L.Variable number)) (map (object_in table) objects)
  variable_among [] number = refl
  variable_among (object ∷ objects) number = by object.local (variable_among objects number)
    where
      by : (local : Local) → is_among number (variable_numbers objects) ≡ list_any (λ (object : O.LocalObject). same_local object.local (L.Variable number)) (map (object_in table) objects)
          → is_among number (with_variable local (variable_numbers objects)) ≡ (same_local local (L.Variable number) || list_any (λ (object : O.LocalObject). same_local object.local (L.Variable number)) (map (object_in table) objects))
      by (L.Parameter own) later = later
      by (L.Variable own) later = ap (λ b. (own == number) || b) later

  target_within : (targets : List (Option memory_target.Target)) (number : ℕ) → has_target (target_in targets number) ≡ true → number < length targets
  target_within [] number has = absurd (false≢true has)
  target_within (target ∷ targets) zero has = omega arith
  target_within (target ∷ targets) (suc number) has = omega (arith, target_within targets number has)

  mark_read : (marks : List Bool) (number : ℕ) (mark : Bool) → slice_get marks number ≡ Some mark → get_or marks number false ≡ mark
  mark_read [] number mark is = absurd (none-some mark is)
  mark_read (first ∷ marks) zero mark is = same_Some _ _ is
  mark_read (first ∷ marks) (suc number) mark is = mark_read marks number mark is

  -- what is read of marks
  among_read : (targets : List (Option memory_target.Target)) (numbers : List ℕ) (marks : List Bool) → AreMarks (length targets) numbers marks
      → (number : ℕ) → has_target (target_in targets number) ≡ true → get_or marks number false ≡ is_among number numbers
  among_read targets numbers marks are number has = mark_read marks number _ (are.mark number (target_within targets number has))

  module _ (function : Function) (names : FunctionNames) (parameters variables : List Bool)
      (parameter_marks : AreMarks (length names.parameter_objects.items) (parameter_numbers function.objects.items) parameters)
      (variable_marks : AreMarks (length names.variable_objects.items) (variable_numbers function.objects.items) variables) where
    pub objects_told : AreMarked names.parameter_objects.items parameters → AreMarked names.variable_objects.items variables → ObjectsAreOwn (function_in table function) names
    objects_told first second (L.Parameter number) has =
        sym (parameter_among function.objects.items number) ∙ (sym (among_read names.parameter_objects.items (parameter_numbers function.objects.items) parameters parameter_marks number has) ∙ first number has)
    objects_told first second (L.Variable number) has =
        sym (variable_among function.objects.items number) ∙ (sym (among_read names.variable_objects.items (variable_numbers function.objects.items) variables variable_marks number has) ∙ second number has)

    pub parameters_pass : ObjectsAreOwn (function_in table function) names → AreMarked names.parameter_objects.items parameters
    parameters_pass told number has =
        among_read names.parameter_objects.items (parameter_numbers function.objects.items) parameters parameter_marks number has
        ∙ (parameter_among function.objects.items number ∙ told (L.Parameter number) has)

    pub variables_pass : ObjectsAreOwn (function_in table function) names → AreMarked names.variable_objects.items variables
    variables_pass told number has =
        among_read names.variable_objects.items (variable_numbers function.objects.items) variables variable_marks number has
        ∙ (variable_among function.objects.items number ∙ told (L.Variable number) has)

pub marks_moved : (count own : ℕ) (numbers given : List ℕ) (marks : List Bool) → AreMarks count numbers marks → count ≡ own → numbers ≡ given → AreMarks own given marks
marks_moved count own numbers given marks are same equal = subst (λ (n : ℕ). AreMarks n given marks) same (subst (λ (l : List ℕ). AreMarks count l marks) equal are)

-- ---- variables outside functions, and literals

module _ {S : Type 0} (targets : IndexMap ℕ memory_target.Target S) (keys : List ℕ) (is : keys ≡ keys_of targets.entries) (count total : ℕ) (same : count ≡ total) where
  pub statics_told : are_below count keys ≡ true → (number : ℕ) → has_target (static_in targets number) ≡ true → nat_lt number total ≡ true
  statics_told all number has = lt-ltb number total (omega (arith, same, each_is_below count targets.entries (ap (are_below count) (sym is) ∙ all) number has))

  pub statics_pass : ((number : ℕ) → has_target (static_in targets number) ≡ true → nat_lt number total ≡ true) → are_below count keys ≡ true
  statics_pass told = ap (are_below count) is ∙ all_are_below count targets.entries (λ number has. below number has)
    where
      below : (number : ℕ) → has_target (static_in targets number) ≡ true → number < count
      below number has = omega (arith, same, ltb-true number total (told number has))
