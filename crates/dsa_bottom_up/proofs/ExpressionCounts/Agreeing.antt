-- The types of expressions by which they count are those of well typed trees, but of calls whose values aren't used.
use Rattle.std.proofs.Common.{◌≡◌, ℕ, Bool, true, false, not, ◌&&◌, ◌||◌, if◌then◌else◌, List, Some, slice_get, sym, ap, ◌∙◌, zero, suc, ◌==◌, [], ◌∷◌, ◌++◌, length, reverse, refl, subst, arith}
use Rattle.std.proofs.lemmas.Bool.{false≢true, eqb-true}
use Rattle.std.proofs.lemmas.List.{length-reverse, reverse-append}
use Rattle.std.proofs.lemmas.Option.{none-some, same_Some}
use Rattle.c_num.specs.declared.IntType.TheVariants as I
use Rattle.c_num.specs.Types.{is_value}
use Rattle.c_typed.specs.declared.typed.LibraryFunction.{LibraryFunction}
use Rattle.c_typed.specs.declared.typed.LibraryFunction.TheVariants as L
use Rattle.c_typed.specs.Types.{CType, CTypes, Void, Integer, Pointer, Array, Struct, Function, NoTypes, MoreTypes, int, literal_type, decayed, same_type, same_types, is_integer, is_pointer, is_void, is_void_pointer, is_function, is_object_pointer}
use Rattle.c_typed.specs.Typed as T
use Rattle.c_typed.specs.Typed.{Value, Object, Designator, Program}
use Rattle.std.specs.Prelude.{bytes_eq}
use Rattle.c_typed.specs.Context.{Context, local_type, global_type, function_type, literal_bytes}
use Rattle.c_typed.specs.Expressions.{given, given_two, where_holds, is_scalar, is_conversion, is_pointer_to_complete, are_comparable, repoints, is_right, pointed, first_element, moved, element, member_of, pointed_function, library_result, result_of, type_of, types_of, type_of_object, type_of_designator}
use Rattle.c_typed.proofs.Splitting.{held_parts, given_parts, unless_parts, two_parts, same_parts, other_parts, first_parts, both_parts, pointed_parts, element_parts, pointed_function_is, called_parts}
use Rattle.dsa_bottom_up.specs.Counting.{within}
use Rattle.dsa_bottom_up.specs.ExpressionTypes.{Surroundings, type_or_void, target_of, returned_by, library_type, value_type, object_type, designator_type}

-- names stand for the same
pub record Same (around : Context) (here : Surroundings) : Type 0 where
  pub structs : here.structs ≡ around.program.structs
  pub locals : (number : ℕ) (t : CType) → local_type around.locals number ≡ Some t → slice_get here.locals number ≡ Some t
  pub variables : (name : List ℕ) → here.variable_type name ≡ global_type around.program.globals name
  pub functions : (name : List ℕ) → here.function_type name ≡ function_type around.program.functions name

first_is : (a t : CType) → first_element a ≡ Some t → decayed a ≡ t
first_is (Array element n) t is = (held_parts (not (is_function element)) (Pointer element) t is).1
first_is Void t is = absurd (none-some t is)
first_is (Integer int_type) t is = absurd (none-some t is)
first_is (Pointer target) t is = absurd (none-some t is)
first_is (Struct tag) t is = absurd (none-some t is)
first_is (Function result parameters) t is = absurd (none-some t is)

used_gives : (is_used : Bool) (result t : CType) → (if is_used then result else Void) ≡ t → is_void t ≡ false → result ≡ t
used_gives true result t is full = is
used_gives false result t is full = absurd (false≢true (sym full ∙ ap is_void (sym is)))

library_is : (function : LibraryFunction) (types : CTypes) (t : CType) → library_result function types ≡ Some t → library_type function ≡ t
library_is L.Malloc types t is = (held_parts (same_types (MoreTypes (Integer I.ULong) NoTypes) types) (Pointer Void) t is).1
library_is L.Free NoTypes t is = absurd (none-some t is)
library_is L.Free (MoreTypes first NoTypes) t is = (held_parts (is_object_pointer first) Void t is).1
library_is L.Free (MoreTypes first (MoreTypes second others)) t is = absurd (none-some t is)
library_is L.GetChar types t is = (held_parts (same_types NoTypes types) int t is).1
library_is L.PutChar types t is = (held_parts (same_types (MoreTypes int NoTypes) types) int t is).1
library_is L.Exit types t is = (held_parts (same_types (MoreTypes int NoTypes) types) Void t is).1

module _ (around : Context) (here : Surroundings) (same : Same around here) where
  full_by : (a t : CType) → a ≡ t → is_void t ≡ false → is_void a ≡ false
  full_by a t is full = ap is_void is ∙ full

  moved_is : (a b t : CType) → moved around.program.structs a b ≡ Some t → a ≡ t
  moved_is a b t is = (held_parts (is_pointer_to_complete around.program.structs a && is_integer b) a t is).1

  mutual
    -- where it isn't void
    pub value_agrees : (value : Value) (t : CType) → type_of around value ≡ Some t → is_void t ≡ false → value_type here value ≡ t
    value_agrees (T.Constant int_type z) t is full = (held_parts (is_value int_type z) (Integer int_type) t is).1
    value_agrees T.NullPointer t is full = same_Some (Pointer Void) t is
    value_agrees (T.Grouped inner) t is full = value_agrees inner t is full
    value_agrees (T.Read place object) t is full = object_agrees object t (same_parts (type_of_object around object) is_scalar t is).0
    value_agrees (T.Decay place object) t is full =
        let parts = given_parts (type_of_object around object) first_element t is in
        ap decayed (object_agrees object parts.0 parts.1) ∙ first_is parts.0 t parts.2
    value_agrees (T.FunctionValue function) t is full =
        let parts = given_parts (type_of_designator around function) (λ t. Some (Pointer t)) t is in
        ap Pointer (designator_agrees function parts.0 parts.1) ∙ same_Some (Pointer parts.0) t parts.2
    value_agrees (T.Converted int_type value) t is full = (other_parts (type_of around value) (λ t. is_integer t && not (is_conversion value)) (Integer int_type) t is).3
    value_agrees (T.Repointed place target value) t is full = (other_parts (type_of around value) (λ t. repoints t target && not (is_conversion value)) (Pointer target) t is).3
    value_agrees (T.MadeNull target value) t is full =
        (other_parts (type_of around value) (λ t. (is_integer t || is_void_pointer t) && not (is_conversion value)) (Pointer target) t is).3
    value_agrees (T.Tested place value) t is full = (other_parts (type_of around value) (λ t. is_pointer t && not (is_conversion value)) int t is).3
    value_agrees (T.Plus operand) t is full = value_agrees operand t (same_parts (type_of around operand) is_integer t is).0 full
    value_agrees (T.Minus place int_type operand) t is full = value_agrees operand t (same_parts (type_of around operand) (λ t. same_type t (Integer int_type)) t is).0 full
    value_agrees (T.Complement int_type operand) t is full = value_agrees operand t (same_parts (type_of around operand) (λ t. same_type t (Integer int_type)) t is).0 full
    value_agrees (T.Not operand) t is full = (other_parts (type_of around operand) is_integer int t is).3
    value_agrees (T.Arithmetic op place int_type left right) t is full =
        value_agrees left t (first_parts (type_of around left) (type_of around right) (λ a b. same_type a (Integer int_type) && is_right op a b) t is).left full
    value_agrees (T.Compare relation left right) t is full = (both_parts (type_of around left) (type_of around right) (λ a b. is_integer a && same_type a b) int t is).is
    value_agrees (T.ComparePointers relation place left right) t is full = (both_parts (type_of around left) (type_of around right) (are_comparable relation) int t is).is
    value_agrees (T.PointerPlus place pointer number) t is full =
        let parts = two_parts (type_of around pointer) (type_of around number) (moved around.program.structs) t is in
        let same_type = moved_is parts.a parts.b t parts.gave in
        value_agrees pointer parts.a parts.left (full_by parts.a t same_type full) ∙ same_type
    value_agrees (T.NumberPlus place number pointer) t is full =
        let parts = two_parts (type_of around pointer) (type_of around number) (moved around.program.structs) t is in
        let same_type = moved_is parts.a parts.b t parts.gave in
        value_agrees pointer parts.a parts.left (full_by parts.a t same_type full) ∙ same_type
    value_agrees (T.PointerMinus place pointer number) t is full =
        let parts = two_parts (type_of around pointer) (type_of around number) (moved around.program.structs) t is in
        let same_type = moved_is parts.a parts.b t parts.gave in
        value_agrees pointer parts.a parts.left (full_by parts.a t same_type full) ∙ same_type
    value_agrees (T.PointerDifference place left right) t is full =
        (both_parts (type_of around left) (type_of around right) (λ a b. is_pointer_to_complete around.program.structs a && same_type a b) (Integer I.Long) t is).is
    value_agrees (T.And left right) t is full = (both_parts (type_of around left) (type_of around right) (λ a b. is_integer a && is_integer b) int t is).is
    value_agrees (T.Or left right) t is full = (both_parts (type_of around left) (type_of around right) (λ a b. is_integer a && is_integer b) int t is).is
    value_agrees (T.Conditional condition taken otherwise) t is full =
        let parts = given_parts (type_of around condition) (λ c. given_two (type_of around taken) (type_of around otherwise) (λ a b. where_holds (is_integer c && same_type a b) a)) t is in
        value_agrees taken t (first_parts (type_of around taken) (type_of around otherwise) (λ a b. is_integer parts.0 && same_type a b) t parts.2).left full
    value_agrees (T.AddressOf place object) t is full =
        let parts = given_parts (type_of_object around object) (λ t. Some (Pointer t)) t is in
        ap Pointer (object_agrees object parts.0 parts.1) ∙ same_Some (Pointer parts.0) t parts.2
    value_agrees (T.AddressOfFunction function) t is full =
        let parts = given_parts (type_of_designator around function) (λ t. Some (Pointer t)) t is in
        ap Pointer (designator_agrees function parts.0 parts.1) ∙ same_Some (Pointer parts.0) t parts.2
    value_agrees (T.Cast value) t is full = value_agrees value t (same_parts (type_of around value) is_scalar t is).0 full
    value_agrees (T.CastVoid value) t is full = same_Some Void t (given_parts (type_of around value) (λ t. Some Void) t is).2
    value_agrees (T.Assign place object value) t is full = object_agrees object t (first_parts (type_of_object around object) (type_of around value) (λ a b. is_scalar a && same_type a b) t is).left
    value_agrees (T.AssignArithmetic op place own int_type object value) t is full =
        object_agrees object t (first_parts (type_of_object around object) (type_of around value) (λ a b. same_type a (Integer own) && is_right op (Integer int_type) b) t is).left
    value_agrees (T.AssignMoved is_minus place object number) t is full =
        let parts = two_parts (type_of_object around object) (type_of around number) (moved around.program.structs) t is in
        object_agrees object parts.a parts.left ∙ moved_is parts.a parts.b t parts.gave
    value_agrees (T.StepInteger stepping place int_type object) t is full = object_agrees object t (same_parts (type_of_object around object) (λ t. same_type t (Integer int_type)) t is).0
    value_agrees (T.StepPointer stepping place object) t is full = object_agrees object t (same_parts (type_of_object around object) (is_pointer_to_complete around.program.structs) t is).0
    value_agrees (T.Call is_used place function c_type arguments) t is full =
        let parts = two_parts (type_of_designator around function) (types_of around arguments) (λ f types. given (result_of types f) (λ result. where_holds (same_type f c_type) (if is_used then result else Void))) t is in
        let called = called_parts parts.b parts.a c_type is_used t parts.gave in
        ap returned_by called.called ∙ used_gives is_used called.result t called.gives full
    value_agrees (T.LibraryCall function groups place arguments) t is full =
        let parts = given_parts (types_of around arguments) (library_result function) t is in
        library_is function parts.0 t parts.2

    pub object_agrees : (object : Object) (t : CType) → type_of_object around object ≡ Some t → object_type here object ≡ t
    object_agrees (T.Local number) t is = ap type_or_void (same.locals number t is)
    object_agrees (T.Global name) t is = ap type_or_void (same.variables name ∙ is)
    object_agrees (T.Literal place bytes) t is = (other_parts (literal_bytes around.program.literals place) (λ listed. bytes_eq listed bytes) (literal_type bytes) t is).3
    object_agrees (T.GroupedObject place inner) t is = object_agrees inner t is
    object_agrees (T.Pointed place pointer) t is =
        let parts = given_parts (type_of around pointer) (pointed around.program.structs) t is in
        let to = (pointed_parts around.program.structs parts.0 t parts.2).0 in
        ap target_of (value_agrees pointer parts.0 parts.1 (ap is_void to) ∙ to)
    object_agrees (T.Element place pointer number) t is =
        let parts = two_parts (type_of around pointer) (type_of around number) (element around.program.structs) t is in
        let to = (element_parts around.program.structs parts.a parts.b t parts.gave).0 in
        ap target_of (value_agrees pointer parts.a parts.left (ap is_void to) ∙ to)
    object_agrees (T.ElementOf place number pointer) t is =
        let parts = two_parts (type_of around pointer) (type_of around number) (element around.program.structs) t is in
        let to = (element_parts around.program.structs parts.a parts.b t parts.gave).0 in
        ap target_of (value_agrees pointer parts.a parts.left (ap is_void to) ∙ to)
    object_agrees (T.MemberOf place object number) t is =
        let parts = given_parts (type_of_object around object) (member_of around.program.structs number) t is in
        (λ i. type_or_void (member_of (same.structs i) number (object_agrees object parts.0 parts.1 i))) ∙ ap type_or_void parts.2
    object_agrees (T.PointedMember place pointer number) t is =
        let parts = given_parts (type_of around pointer) (λ t. given (pointed around.program.structs t) (member_of around.program.structs number)) t is in
        let whole = given_parts (pointed around.program.structs parts.0) (member_of around.program.structs number) t parts.2 in
        let to = (pointed_parts around.program.structs parts.0 whole.0 whole.1).0 in
        let target = ap target_of (value_agrees pointer parts.0 parts.1 (ap is_void to) ∙ to) in
        (λ i. type_or_void (member_of (same.structs i) number (target i))) ∙ ap type_or_void whole.2

    pub designator_agrees : (function : Designator) (t : CType) → type_of_designator around function ≡ Some t → designator_type here function ≡ t
    designator_agrees (T.Function name) t is = ap type_or_void (same.functions name ∙ is)
    designator_agrees (T.GroupedFunction inner) t is = designator_agrees inner t is
    designator_agrees (T.PointedFunction place pointer) t is =
        let parts = given_parts (type_of around pointer) pointed_function t is in
        let to = pointed_function_is parts.0 t parts.2 in
        ap target_of (value_agrees pointer parts.0 parts.1 (ap is_void to) ∙ to)
    designator_agrees (T.ThroughPointer place pointer) t is =
        let parts = given_parts (type_of around pointer) pointed_function t (unless_parts (is_conversion pointer) (given (type_of around pointer) pointed_function) t is).1 in
        let to = pointed_function_is parts.0 t parts.2 in
        ap target_of (value_agrees pointer parts.0 parts.1 (ap is_void to) ∙ to)

-- ---- the names of a program

at_end : {A : Type 0} (xs : List A) (y : A) (n : ℕ) → n ≡ length xs → slice_get (xs ++ y ∷ []) n ≡ Some y
at_end [] y zero is = refl
at_end [] y (suc n) is = absurd (omega (arith, is))
at_end (x ∷ xs) y zero is = absurd (omega (arith, is))
at_end (x ∷ xs) y (suc n) is = at_end xs y n (omega (arith, is))

before_end : {A : Type 0} (xs : List A) (y : A) (n : ℕ) (t : A) → slice_get xs n ≡ Some t → slice_get (xs ++ y ∷ []) n ≡ Some t
before_end [] y n t is = absurd (none-some t is)
before_end (x ∷ xs) y zero t is = is
before_end (x ∷ xs) y (suc n) t is = before_end xs y n t is

-- the newest local stands first there, and last here
numbered_local : (locals : List CType) (number : ℕ) (t : CType) → local_type locals number ≡ Some t → slice_get (reverse locals) number ≡ Some t
numbered_local [] number t is = absurd (none-some t is)
numbered_local (newest ∷ others) number t is = subst (λ locals. slice_get locals number ≡ Some t) (sym (reverse-append (newest ∷ []) others)) (by (length others == number) refl is (numbered_local others number t))
  where
    by : (same : Bool) → (length others == number) ≡ same → (if same then Some newest else local_type others number) ≡ Some t
        → (local_type others number ≡ Some t → slice_get (reverse others) number ≡ Some t) → slice_get (reverse others ++ newest ∷ []) number ≡ Some t
    by true e is older = at_end (reverse others) newest number (omega (arith, eqb-true (length others) number e, length-reverse others)) ∙ is
    by false e is older = before_end (reverse others) newest number t (older is)

pub same_within : (program : Program) (locals : List CType) → Same (record { program = program; locals = locals }) (within program (reverse locals))
same_within program locals = record { structs = refl; locals = numbered_local locals; variables = λ name. refl; functions = λ name. refl }
