-- What is found of a call.
use Rattle.std.proofs.Common.{◌≡◌, ℕ, Bool, true, false, not, if◌then◌else◌, List, Option, Some, None, Vec, Box, Global, refl, sym, ap, subst, ◌∙◌}
use Rattle.run_theory.specs.declared.place.Pos.{Pos}
use Rattle.c_rules.specs.declared.rule.TypeRule.TheVariants as T
use Rattle.c_typed.specs.declared.typed.Value as memory_value
use Rattle.c_typed.specs.Types.{CType, CTypes, Pointer, Function, decayed, is_struct, is_array}
use Rattle.c_typed.specs.Table.{Interned, Grows, Stands, ListStands, type_in, types_in}
use Rattle.c_typed.specs.Views.{value_in, ValueStands, values_in, ValuesStand}
use Rattle.c_typed.proofs.Grown.{stays}
use Rattle.c_typed.specs.Typed.{Values}
use Rattle.c_rules.specs.Known.{Checked, Known, OfLibrary, unless, value_of_type}
use Rattle.c_typed.specs.declared.typed.LibraryFunction.{LibraryFunction}
use Rattle.c_typed.specs.declared.typed.LibraryFunction.TheVariants as L
use Rattle.c_types_state.specs.declared.known.TypedExpr as memory_typed
use Rattle.c_types_state.specs.declared.known.TypedExpr.TheVariants as E
use Rattle.c_rules.specs.Operators.{ArgumentValue, as_many, is_free, passed, unconverted, call_of, call_value, call_rule, called_as}
use Rattle.c_types_state.specs.NameTables.{State}
use Rattle.c_types_state.specs.declared.known.Known as memory_known
use Rattle.c_types_state.specs.Finding.{Finds, noted, expr_in, ExprStands, typed_in, TypedStands}
use Rattle.c_types_state.proofs.Findings.{finds-also, finds-require-true, typed_stays}
use Rattle.c_types_expressions.specs.declared.calls.Argument as memory_argument
use Rattle.c_types_expressions.specs.declared.calls.Signature as memory_signature
use Rattle.c_types_state.specs.declared.operands.Operand as memory_operand
use Rattle.c_types_state.specs.Operands.{IsOperand}
use Rattle.c_types_expressions.specs.Arguments.{arguments_in}
use Rattle.c_types_expressions.specs.Signatures.{IsSignature}
use Rattle.c_types_expressions.specs.Calls.{IsValues, passed_values}
use Rattle.c_types_state.proofs.Steps.{finds-failed, same_state}
use Rattle.c_types_expressions.proofs.Arguments.{given_through, given_through-none}

-- a value, and its violation where it is a structure
module _ {s t u : State} {r : Option memory_operand.Operand} (whole : Pos) (known : Known) (arguments : List ArgumentValue) (is_value : Bool) where
  pub call_also : is_value ≡ not (is_struct known.c_type) → t ≡ record s { least = noted s.least (unless is_value T.T19 whole) } → Finds IsOperand (called_as whole known (decayed known.c_type) arguments) t u r → Finds IsOperand (call_rule whole known arguments) s u r
  call_also e same found =
      finds-also (unless (not (is_struct known.c_type)) T.T19 whole) (subst (λ b. t ≡ record s { least = noted s.least (unless b T.T19 whole) }) e same) found

module _ {s : State} (whole : Pos) (known : Known) (c_type result : CType) (parameters : CTypes) (arguments : List ArgumentValue) (looked : Bool) (e : as_many parameters arguments ≡ looked) (is : c_type ≡ Pointer (Function result parameters)) where
  -- as many arguments as parameters
  pub call_refused : {t : State} → looked ≡ false → t ≡ record s { least = noted s.least (unless looked T.T13 whole) } → Finds IsOperand (called_as whole known c_type arguments) s t None
  call_refused {t = t} h same =
      subst (λ called. Finds IsOperand (called_as whole known called arguments) s t None) (sym is)
      (finds-failed T.T13 whole _ e h same)

  module _ {Z : Type 0} {t : State} (h : looked ≡ true) where
    pub call_unknown : Finds (IsValues {Z = Z}) (passed_values whole (is_free known.typed) parameters arguments) s t None → Finds IsOperand (called_as whole known c_type arguments) s t None
    call_unknown found =
        subst (λ called. Finds IsOperand (called_as whole known called arguments) s t None) (sym is)
        (finds-require-true T.T13 whole (e ∙ h)
        (given_through-none (passed whole parameters arguments) (λ (values : Values). if is_free known.typed then unconverted arguments else values) (λ (values : Values). value_of_type result (call_value whole known (Function result parameters) arguments values)) found))

    pub call_made : (values : Vec memory_value.Value Z) (operand : memory_operand.Operand) → Finds (IsValues {Z = Z}) (passed_values whole (is_free known.typed) parameters arguments) s t (Some values) → ((given : Values) → IsValues {Z = Z} t.table values given → IsOperand t.table operand (value_of_type result (call_of whole (is_array known.c_type) known.typed (Function result parameters) given))) → Finds IsOperand (called_as whole known c_type arguments) s t (Some operand)
    call_made values operand found made =
        subst (λ called. Finds IsOperand (called_as whole known called arguments) s t (Some operand)) (sym is)
        (finds-require-true T.T13 whole (e ∙ h)
        (given_through (passed whole parameters arguments) (λ (values : Values). if is_free known.typed then unconverted arguments else values) (λ (values : Values). value_of_type result (call_of whole (is_array known.c_type) known.typed (Function result parameters) values)) values operand found made))

-- ---- whether it is `free` that is called

pub freed-library : (table : Interned) (called : memory_typed.TypedExpr) (f : LibraryFunction) (groups : ℕ) (b : Bool) → called ≡ E.Library f groups → f ≡ L.Free → b ≡ true → b ≡ is_free (typed_in table called)
freed-library table called f groups b e e' h = h ∙ sym (ap (λ (called : memory_typed.TypedExpr). is_free (typed_in table called)) e ∙ ap (λ (f : LibraryFunction). is_free (OfLibrary f groups)) e')

pub freed-other_library : (table : Interned) (called : memory_typed.TypedExpr) (f : LibraryFunction) (groups : ℕ) (b : Bool) → called ≡ E.Library f groups → (f ≡ L.Free → ⊥) → b ≡ false → b ≡ is_free (typed_in table called)
freed-other_library table called f groups b e other h = h ∙ sym (ap (λ (called : memory_typed.TypedExpr). is_free (typed_in table called)) e ∙ by f other)
  where
    by : (f : LibraryFunction) → (f ≡ L.Free → ⊥) → is_free (OfLibrary f groups) ≡ false
    by L.Free other = absurd (other refl)
    by L.Malloc other = refl
    by L.GetChar other = refl
    by L.PutChar other = refl
    by L.Exit other = refl

pub freed-other : (table : Interned) (called : memory_typed.TypedExpr) (b : Bool) → ((f : LibraryFunction) (groups : ℕ) → called ≡ E.Library f groups → ⊥) → b ≡ false → b ≡ is_free (typed_in table called)
freed-other table (E.Value value) b other h = h
freed-other table (E.Object object) b other h = h
freed-other table (E.Function function) b other h = h
freed-other table (E.Library f groups) b other h = absurd (other f groups refl)

-- ---- a call in memory

module _ (old t : State) (whole : Pos) (function : memory_known.Known) (items : List memory_argument.Argument) (is_value : Bool) (e : is_value ≡ not (is_struct (type_in old.table function.c_type))) (notes : t ≡ record old { least = noted old.least (unless is_value T.T19 whole) }) where
  abbrev its_rule : Checked Known
  its_rule = call_rule whole (expr_in old.table function) (arguments_in old.table items)

  same_table : t.table ≡ old.table
  same_table = ap (λ (s : State). s.table) notes

  -- what is called is no function
  pub call-unsigned : (u : State) (found : Option memory_signature.Signature) → found ≡ None → IsSignature t u whole (type_in t.table function.c_type) found → Finds IsOperand its_rule old u None
  call-unsigned u found none signed =
      let known = expr_in old.table function in
      let arguments = arguments_in old.table items in
      let its : IsSignature t u whole (type_in t.table function.c_type) None = subst (IsSignature t u whole (type_in t.table function.c_type)) none signed in
      call_also whole known arguments is_value e notes
      (subst (λ (table : Interned). Finds IsOperand (called_as whole known (decayed (type_in table function.c_type)) arguments) t u None) same_table (its known arguments))

  module _ (u : State) (found : Option memory_signature.Signature) (signature : memory_signature.Signature) (some : found ≡ Some signature) (signed : IsSignature t u whole (type_in t.table function.c_type) found) where
    its_signature : IsSignature t u whole (type_in t.table function.c_type) (Some signature)
    its_signature = subst (IsSignature t u whole (type_in t.table function.c_type)) some signed

    signed_table : u.table ≡ old.table
    signed_table = ap (λ (s : State). s.table) its_signature.0 ∙ same_table

    pub signed_parameters : ListStands u.table signature.parameters
    signed_parameters = subst (λ (s : State). ListStands s.table signature.parameters) (sym its_signature.0) its_signature.3

    its_result : decayed (type_in old.table function.c_type) ≡ Pointer (Function (type_in old.table signature.returned) (types_in old.table signature.parameters))
    its_result = subst (λ (table : Interned). decayed (type_in table function.c_type) ≡ Pointer (Function (type_in table signature.returned) (types_in table signature.parameters))) same_table its_signature.4

    module _ (v : State) (agrees answered : Bool) (many : agrees ≡ as_many (types_in u.table signature.parameters) (arguments_in u.table items)) (answer : answered ≡ agrees) (notes' : v ≡ record u { least = noted u.least (unless agrees T.T13 whole) }) where
      its_many : as_many (types_in old.table signature.parameters) (arguments_in old.table items) ≡ agrees
      its_many = sym (subst (λ (table : Interned). agrees ≡ as_many (types_in table signature.parameters) (arguments_in table items)) signed_table many)

      from_signed : {w : State} {r : Option memory_operand.Operand} → Finds IsOperand (called_as whole (expr_in old.table function) (decayed (type_in old.table function.c_type)) (arguments_in old.table items)) u w r → Finds IsOperand its_rule old w r
      from_signed {w = w} {r = r} its =
          call_also whole (expr_in old.table function) (arguments_in old.table items) is_value e notes
          (subst (λ (s : State). Finds IsOperand (called_as whole (expr_in old.table function) (decayed (type_in old.table function.c_type)) (arguments_in old.table items)) s w r) its_signature.0 its)

      -- not as many arguments as parameters
      pub call-not_many : answered ≡ false → Finds IsOperand its_rule old v None
      call-not_many h =
          from_signed (call_refused whole (expr_in old.table function) (decayed (type_in old.table function.c_type)) (type_in old.table signature.returned) (types_in old.table signature.parameters) (arguments_in old.table items) agrees its_many its_result (sym answer ∙ h) notes')

      module _ (holds : answered ≡ true) where
        same_signed : v ≡ u
        same_signed = same_state T.T13 whole (sym answer ∙ holds) notes'

        many_table : v.table ≡ old.table
        many_table = ap (λ (s : State). s.table) same_signed ∙ signed_table

        module _ {Z : Type 0} (w : State) (free : Bool) (given : Option (Vec memory_value.Value Z)) (freed : free ≡ is_free (typed_in old.table function.typed)) (passes : Finds (IsValues {Z = Z}) (passed_values whole free (types_in v.table signature.parameters) (arguments_in v.table items)) v w given) where
          its_passed : Finds (IsValues {Z = Z}) (passed_values whole (is_free (typed_in old.table function.typed)) (types_in old.table signature.parameters) (arguments_in old.table items)) u w given
          its_passed =
              subst (λ (s : State). Finds (IsValues {Z = Z}) (passed_values whole (is_free (typed_in old.table function.typed)) (types_in old.table signature.parameters) (arguments_in old.table items)) s w given) same_signed
              (subst (λ b. Finds (IsValues {Z = Z}) (passed_values whole b (types_in old.table signature.parameters) (arguments_in old.table items)) v w given) freed
              (subst (λ (table : Interned). Finds (IsValues {Z = Z}) (passed_values whole free (types_in table signature.parameters) (arguments_in table items)) v w given) many_table passes))

          -- an argument that isn't known, or doesn't fit
          pub call-not_passed : given ≡ None → Finds IsOperand its_rule old w None
          call-not_passed none =
              from_signed (call_unknown whole (expr_in old.table function) (decayed (type_in old.table function.c_type)) (type_in old.table signature.returned) (types_in old.table signature.parameters) (arguments_in old.table items) agrees its_many its_result (sym answer ∙ holds)
              (subst (λ (given : Option (Vec memory_value.Value Z)). Finds (IsValues {Z = Z}) (passed_values whole (is_free (typed_in old.table function.typed)) (types_in old.table signature.parameters) (arguments_in old.table items)) u w given) none its_passed))

          its_grows : Grows old.table w.table
          its_grows = subst (λ (table : Interned). Grows table w.table) signed_table its_passed.grows

          pub call-stands : Stands old.table function.c_type → Stands w.table function.c_type
          call-stands h = (stays old.table w.table its_grows function.c_type h).0

          -- a call that is made
          pub call-made : (values : Vec memory_value.Value Z) (array : Bool) (value : Box memory_value.Value Global) (operand : memory_operand.Operand) → given ≡ Some values → ExprStands old.table function → array ≡ is_array (type_in w.table function.c_type) → ((table : Interned) → TypedStands table function.typed → Stands table signature.c_type → ValuesStand table values.items → ValueStands table value.value) → ((table : Interned) → value_in table value.value ≡ call_of whole array (typed_in table function.typed) (type_in table signature.c_type) (values_in table values.items)) → ((table : Interned) → Stands table signature.returned → ValueStands table value.value → IsOperand table operand (value_of_type (type_in table signature.returned) (value_in table value.value))) → Finds IsOperand its_rule old w (Some operand)
          call-made values array value operand is stand is_its_array value_stand value_is made =
              let its = stays old.table w.table its_grows function.c_type stand.0 in
              let tree = typed_stays old.table w.table its_grows function.typed stand.1 in
              let type_stands : Stands old.table signature.c_type = subst (λ (table : Interned). Stands table signature.c_type) same_table its_signature.1 in
              let returned_stands : Stands old.table signature.returned = subst (λ (table : Interned). Stands table signature.returned) same_table its_signature.2 in
              let type_is : type_in old.table signature.c_type ≡ Function (type_in old.table signature.returned) (types_in old.table signature.parameters) =
              subst (λ (table : Interned). type_in table signature.c_type ≡ Function (type_in table signature.returned) (types_in table signature.parameters)) same_table its_signature.5 in
              let kept = stays old.table w.table its_grows signature.c_type type_stands in
              let kept' = stays old.table w.table its_grows signature.returned returned_stands in
              let array_is : array ≡ is_array (type_in old.table function.c_type) = is_its_array ∙ ap is_array its.1 in
              let called_type = kept.1 ∙ type_is in
              from_signed (call_made whole (expr_in old.table function) (decayed (type_in old.table function.c_type)) (type_in old.table signature.returned) (types_in old.table signature.parameters) (arguments_in old.table items) agrees its_many its_result (sym answer ∙ holds) values operand
              (subst (λ (given : Option (Vec memory_value.Value Z)). Finds (IsValues {Z = Z}) (passed_values whole (is_free (typed_in old.table function.typed)) (types_in old.table signature.parameters) (arguments_in old.table items)) u w given) is its_passed)
              (λ given h.
              let is_made = made w.table kept'.0 (value_stand w.table tree.0 kept.0 h.0) in
              let called : value_in w.table value.value ≡ call_of whole (is_array (type_in old.table function.c_type)) (typed_in old.table function.typed) (Function (type_in old.table signature.returned) (types_in old.table signature.parameters)) given =
              value_is w.table ∙ (λ i. call_of whole (array_is i) (tree.1 i) (called_type i) (h.1 i)) in
              (is_made.0, is_made.1 ∙ (λ i. value_of_type (kept'.1 i) (called i)))))
