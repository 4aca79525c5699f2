-- The steps of passing arguments.
use Rattle.std.proofs.Common.{◌≡◌, Bool, true, false, List, [], ◌∷◌, ◌++◌, Option, Some, None, sym, subst}
use Rattle.run_theory.specs.declared.place.Pos.{Pos}
use Rattle.c_typed.specs.declared.typed.Value as memory_value
use Rattle.c_typed.specs.declared.c_type.CType as number
use Rattle.c_typed.specs.declared.c_type.Parameters as numbers
use Rattle.c_typed.specs.Types.{NoTypes, MoreTypes}
use Rattle.c_typed.specs.Typed.{Values}
use Rattle.c_typed.specs.Table.{ListStands, type_in, types_in}
use Rattle.c_rules.specs.Known.{Checked}
use Rattle.c_rules.specs.Operators.{unconverted_argument}
use Rattle.c_types_state.specs.NameTables.{State}
use Rattle.c_types_state.specs.Finding.{Finds, each_in}
use Rattle.c_types_state.specs.Staying.{IsValue, IsValues}
use Rattle.c_types_expressions.specs.declared.calls.Argument as memory_argument
use Rattle.c_types_state.specs.Operands.{operand_in}
use Rattle.c_types_expressions.specs.Arguments.{argument_in, arguments_in, ArgumentsStand}
use Rattle.c_types_expressions.specs.Calls.{passed_values, passed_one}
use Rattle.c_types_expressions.proofs.Arguments.{joined, with_others, with_others-some, with_others-none, passing_step, passing_free, passing_stops, passing_ends}

module _ (whole : Pos) (is_free : Bool) (checked : Checked Values) (start : State) where
  -- what is found of the arguments that are left, behind the values so far, is what is found of all
  abbrev pub Leads : State → numbers.Parameters → List memory_argument.Argument → Bool → List memory_value.Value → Type 0
  Leads s parameters rest known values = (t : State) (r : Option (List memory_value.Value)) → Finds IsValues (passed_values whole is_free (types_in s.table parameters) (arguments_in s.table rest)) s t r → Finds IsValues checked start t (with_others known values r)

  module _ (s : State) (parameters : numbers.Parameters) (a : memory_argument.Argument) (rest rest' : List memory_argument.Argument) (known : Bool) (values : List memory_value.Value) (leads : Leads s parameters rest known values) (is_next : rest ≡ a ∷ rest') where
    module _ (w : State) (parameter : number.CType) (others : numbers.Parameters) (one : Option memory_value.Value) (split : types_in s.table parameters ≡ MoreTypes (type_in s.table parameter) (types_in s.table others)) (stand : ListStands s.table others) (stand' : ArgumentsStand s.table rest') (first : Finds IsValue (passed_one whole is_free (type_in s.table parameter) (argument_in s.table a)) s w one) where
      pub leads-some : (v : memory_value.Value) (values' : List memory_value.Value) → one ≡ Some v → values' ≡ values ++ v ∷ [] → Leads w others rest' known values'
      leads-some v values' is pushed = λ t r found.
          let its : Finds IsValue (passed_one whole is_free (type_in s.table parameter) (argument_in s.table a)) s w (Some v) =
          subst (λ (one : Option memory_value.Value). Finds IsValue (passed_one whole is_free (type_in s.table parameter) (argument_in s.table a)) s w one) is first in
          subst (λ (vs : List memory_value.Value). Finds IsValues checked start t (with_others known vs r)) (sym pushed)
          (subst (λ (o : Option (List memory_value.Value)). Finds IsValues checked start t o) (with_others-some known values v r)
          (leads t (joined (Some v) r) (passing_step whole is_free (types_in s.table parameters) parameter others a rest rest' (Some v) split stand is_next stand' its t r found)))

      pub leads-none : one ≡ None → Leads w others rest' false values
      leads-none is = λ t r found.
          let its : Finds IsValue (passed_one whole is_free (type_in s.table parameter) (argument_in s.table a)) s w None =
          subst (λ (one : Option memory_value.Value). Finds IsValue (passed_one whole is_free (type_in s.table parameter) (argument_in s.table a)) s w one) is first in
          subst (λ (o : Option (List memory_value.Value)). Finds IsValues checked start t o) (with_others-none known values r)
          (leads t (joined None r) (passing_step whole is_free (types_in s.table parameters) parameter others a rest rest' None split stand is_next stand' its t r found))

    pub leads-free : (x : memory_value.Value) (values' : List memory_value.Value) → types_in s.table parameters ≡ NoTypes → is_free ≡ true → IsValue s.table x (unconverted_argument (each_in operand_in s.table a.value)) → values' ≡ values ++ x ∷ [] → Leads s parameters rest' known values'
    leads-free x values' none free is pushed = λ t r found.
        subst (λ (vs : List memory_value.Value). Finds IsValues checked start t (with_others known vs r)) (sym pushed)
        (subst (λ (o : Option (List memory_value.Value)). Finds IsValues checked start t o) (with_others-some known values x r)
        (leads t (joined (Some x) r) (passing_free whole is_free (types_in s.table parameters) a rest rest' x none free is_next is t r found)))

  module _ (s : State) (parameters : numbers.Parameters) (rest : List memory_argument.Argument) (known : Bool) (values : List memory_value.Value) (leads : Leads s parameters rest known values) where
    pub leads-stop : types_in s.table parameters ≡ NoTypes → is_free ≡ false → Finds IsValues checked start s (with_others known values (Some []))
    leads-stop none free = leads s (Some []) (passing_stops whole is_free (types_in s.table parameters) rest none free)

    pub leads-end : rest ≡ [] → Finds IsValues checked start s (with_others known values (Some []))
    leads-end none = leads s (Some []) (passing_ends whole is_free (types_in s.table parameters) rest none)
