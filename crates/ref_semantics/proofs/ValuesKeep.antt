-- Evaluation of a well typed expression from a sound state gives a value of its type and a sound state.
use Rattle.std.proofs.Common.{◌≡◌, true, false, not, ◌&&◌, ◌||◌, if◌then◌else◌, List, [], ◌∷◌, Some, pos, neg_ℤ, ◌-ℤ◌, refl, sym, ap, ◌∙◌, subst, bytes_eq}
use Rattle.std.proofs.lemmas.Bool.{and_parts}
use Rattle.std.proofs.lemmas.Option.{same_Some}
use Rattle.std.proofs.lemmas.Slice.Eq.{bytes_eq-Decides}
use Rattle.c_num.specs.declared.BinOp.TheVariants as B
use Rattle.c_num.specs.declared.IntType.TheVariants as I
use Rattle.c_num.specs.Types.{is_value, common_of}
use Rattle.c_num.specs.Arith.{compare_of}
use Rattle.c_typed.specs.Types.{CType, CTypes, Void, Integer, Pointer, NoTypes, MoreTypes, int, literal_type, same_type, is_integer, is_pointer, is_void_pointer}
use Rattle.c_typed.specs.Typed as T
use Rattle.c_typed.specs.Typed.{Program, Value, Values, Object, Designator}
use Rattle.c_typed.proofs.Same.{same_type-true}
use Rattle.c_typed.specs.Context.{Context, literal_bytes}
use Rattle.c_typed.specs.Expressions.{given, given_two, where_holds, is_scalar, is_conversion, is_pointer_to_complete, is_right, are_comparable, repoints, first_element, pointed, pointed_function, element, member_of, result_of, library_result, type_of, types_of, type_of_object, type_of_designator}
use Rattle.c_typed.specs.Programs.{IsWellTyped}
use Rattle.c_typed.specs.Sizes.{makes, all_make, object_makes, designator_makes, is_storable}
use Rattle.ref_semantics.specs.First.{around_of}
use Rattle.ref_semantics.specs.Values.{IntegerValue, NullValue, FunctionValue, PointerValue, LiteralObject, integer_of, object_place}
use Rattle.ref_semantics.specs.Store.{State, member_at}
use Rattle.ref_semantics.specs.Pointers.{truth}
use Rattle.ref_semantics.specs.Meaning.{Calls, is_true, converted, step_operator, step_amount, value, values, find, address, designated}
use Rattle.ref_semantics.specs.Sound.{HaveTypes, Sound}
use Rattle.ref_semantics.specs.Keeping.{Yields, GivesValue, GivesElement, IsElement, CallsKeep}
use Rattle.ref_semantics.proofs.Lasting.{GivesAt, give_gives, gives_then, gives_as, tick_gives, ticks_gives, if_gives, gives_each, type_lasts, element_lasts}
use Rattle.ref_semantics.proofs.Pointing.{truth_typed, accessed_keeps, added_keeps, element_keeps, repointed_keeps, tested_keeps, compared_keeps, difference_keeps, global_keeps, local_keeps, literal_element, global_complete, local_complete}
use Rattle.ref_semantics.proofs.Storing.{read_keeps, write_keeps, library_keeps}
use Rattle.c_typed.proofs.Splitting.{held_parts, given_parts, unless_parts, two_parts, same_parts, other_parts, first_parts, both_parts, pointed_parts, element_parts, pointed_function_is, called_parts}
use Rattle.ref_semantics.proofs.Operating.{ValueAt, ElementAt, converted_type, of_type, step_type, decay_type, address_type, member_type, member_address_type, function_type_is, value_of, arithmetic_keeps, moved_keeps, call_keeps, complete_scalar, integer_scalar}

module _ (program : Program) (well : IsWellTyped program) (calls : Calls) (keep : CallsKeep program calls) (locals : List CType) where
  abbrev around : Context
  around = record { program = program; locals = locals }

  mutual
    value_at : (v : Value) → makes (is_storable program.structs) v ≡ true → (t : CType) → type_of around v ≡ Some t
        → (before : State) → Sound around before → ValueAt program locals t (value (around_of program) calls v) before
    value_at (T.Constant n z) small t typed before sound =
        let held = held_parts (is_value n z) (Integer n) t typed in
        tick_gives sound (λ s k. give_gives k.sound (of_type program s (Integer n) t (IntegerValue z) held.1 held.0))
    value_at T.NullPointer small t typed before sound =
        tick_gives sound (λ s k. give_gives k.sound (of_type program s (Pointer Void) t NullValue (same_Some (Pointer Void) t typed) tt))
    value_at (T.Grouped inner) small t typed before sound =
        tick_gives sound (λ s k. value_at inner small t typed s k.sound)
    value_at (T.Read place object) small t typed before sound =
        let parts = same_parts (type_of_object around object) is_scalar t typed in
        gives_then (find_at object small t parts.0 before sound) (λ p s k h. read_keeps program well locals s k.sound place t p parts.1 h)
    value_at (T.Decay place object) small t typed before sound =
        let parts = given_parts (type_of_object around object) first_element t typed in
        gives_then (find_at object small parts.0 parts.1 before sound) (λ p s k h. give_gives k.sound (decay_type program s well parts.0 t p parts.2 h))
    value_at (T.FunctionValue function) small t typed before sound =
        let parts = given_parts (type_of_designator around function) (λ u. Some (Pointer u)) t typed in
        value_of program locals before (Pointer parts.0) t (designated (around_of program) calls function) (same_Some (Pointer parts.0) t parts.2)
        (designated_at function small parts.0 parts.1 before sound)
    value_at (T.Converted n operand) small t typed before sound =
        let parts = other_parts (type_of around operand) (λ u. is_integer u && not (is_conversion operand)) (Integer n) t typed in
        gives_then (value_at operand small parts.0 parts.1 before sound)
        (λ a s k h. give_gives k.sound (of_type program s (Integer n) t (converted n a) parts.3 (converted_type program s n a)))
    value_at (T.Repointed place target operand) small t typed before sound =
        let sizes = and_parts (is_storable program.structs target) (makes (is_storable program.structs) operand) small in
        let parts = other_parts (type_of around operand) (λ u. repoints u target && not (is_conversion operand)) (Pointer target) t typed in
        let fits = and_parts (repoints parts.0 target) (not (is_conversion operand)) parts.2 in
        value_of program locals before (Pointer target) t (value (around_of program) calls (T.Repointed place target operand)) parts.3
        (gives_then (value_at operand sizes.1 parts.0 parts.1 before sound)
        (λ a s k h. repointed_keeps program well locals s k.sound place parts.0 target a fits.0 sizes.0 h))
    value_at (T.MadeNull target operand) small t typed before sound =
        let parts = other_parts (type_of around operand) (λ u. (is_integer u || is_void_pointer u) && not (is_conversion operand)) (Pointer target) t typed in
        gives_then (value_at operand small parts.0 parts.1 before sound) (λ a s k h. give_gives k.sound (of_type program s (Pointer target) t NullValue parts.3 tt))
    value_at (T.Tested place operand) small t typed before sound =
        let parts = other_parts (type_of around operand) (λ u. is_pointer u && not (is_conversion operand)) int t typed in
        value_of program locals before int t (value (around_of program) calls (T.Tested place operand)) parts.3
        (gives_then (value_at operand small parts.0 parts.1 before sound) (λ a s k h. tested_keeps program well locals s k.sound place a))
    value_at (T.Plus operand) small t typed before sound =
        let parts = same_parts (type_of around operand) is_integer t typed in
        tick_gives sound (λ s k. value_at operand small t parts.0 s k.sound)
    value_at (T.Minus place n operand) small t typed before sound =
        let parts = same_parts (type_of around operand) (λ u. same_type u (Integer n)) t typed in
        value_of program locals before (Integer n) t (value (around_of program) calls (T.Minus place n operand)) (sym (same_type-true t (Integer n) parts.1))
        (tick_gives sound (λ s k. gives_then (value_at operand small t parts.0 s k.sound) (λ a s' k' h. arithmetic_keeps program locals s' k'.sound B.Sub n place (IntegerValue (pos 0)) a)))
    value_at (T.Complement n operand) small t typed before sound =
        let parts = same_parts (type_of around operand) (λ u. same_type u (Integer n)) t typed in
        value_of program locals before (Integer n) t (value (around_of program) calls (T.Complement n operand)) (sym (same_type-true t (Integer n) parts.1))
        (tick_gives sound (λ s k. gives_then (value_at operand small t parts.0 s k.sound)
        (λ a s' k' h. give_gives {value = converted n (IntegerValue (neg_ℤ (integer_of a) -ℤ pos 1))} k'.sound (converted_type program s' n (IntegerValue (neg_ℤ (integer_of a) -ℤ pos 1))))))
    value_at (T.Not operand) small t typed before sound =
        let parts = other_parts (type_of around operand) is_integer int t typed in
        value_of program locals before int t (value (around_of program) calls (T.Not operand)) parts.3
        (tick_gives sound (λ s k. gives_then (value_at operand small parts.0 parts.1 s k.sound) (λ a s' k' h. give_gives {value = truth (not (is_true a))} k'.sound (truth_typed program s' (not (is_true a))))))
    value_at (T.Arithmetic op place n left right) small t typed before sound =
        let sizes = and_parts (makes (is_storable program.structs) left) (makes (is_storable program.structs) right) small in
        let parts = first_parts (type_of around left) (type_of around right) (λ a b. same_type a (Integer n) && is_right op a b) t typed in
        let is = same_type-true t (Integer n) (and_parts (same_type t (Integer n)) (is_right op t parts.b) parts.holds).0 in
        value_of program locals before (Integer n) t (value (around_of program) calls (T.Arithmetic op place n left right)) (sym is)
        (tick_gives sound (λ s k. gives_then (value_at left sizes.0 t parts.left s k.sound) (λ a s' k' h. gives_then (value_at right sizes.1 parts.b parts.right s' k'.sound)
        (λ b s'' k'' h'. arithmetic_keeps program locals s'' k''.sound op n place a b))))
    value_at (T.Compare relation left right) small t typed before sound =
        let sizes = and_parts (makes (is_storable program.structs) left) (makes (is_storable program.structs) right) small in
        let parts = both_parts (type_of around left) (type_of around right) (λ a b. is_integer a && same_type a b) int t typed in
        value_of program locals before int t (value (around_of program) calls (T.Compare relation left right)) parts.is
        (tick_gives sound (λ s k. gives_then (value_at left sizes.0 parts.a parts.left s k.sound) (λ a s' k' h. gives_then (value_at right sizes.1 parts.b parts.right s' k'.sound)
        (λ b s'' k'' h'. give_gives k''.sound (truth_typed program s'' (compare_of relation (integer_of a) (integer_of b)))))))
    value_at (T.ComparePointers relation place left right) small t typed before sound =
        let sizes = and_parts (makes (is_storable program.structs) left) (makes (is_storable program.structs) right) small in
        let parts = both_parts (type_of around left) (type_of around right) (are_comparable relation) int t typed in
        value_of program locals before int t (value (around_of program) calls (T.ComparePointers relation place left right)) parts.is
        (tick_gives sound (λ s k. gives_then (value_at left sizes.0 parts.a parts.left s k.sound) (λ a s' k' h. gives_then (value_at right sizes.1 parts.b parts.right s' k'.sound)
        (λ b s'' k'' h'. compared_keeps program well locals s'' k''.sound relation place a b))))
    value_at (T.PointerPlus place pointer number) small t typed before sound =
        let sizes = and_parts (makes (is_storable program.structs) pointer) (makes (is_storable program.structs) number) small in
        let parts = first_parts (type_of around pointer) (type_of around number) (λ a b. is_pointer_to_complete program.structs a && is_integer b) t typed in
        let complete = (and_parts (is_pointer_to_complete program.structs t) (is_integer parts.b) parts.holds).0 in
        tick_gives sound (λ s k. gives_then (value_at pointer sizes.0 t parts.left s k.sound) (λ p s' k' h. gives_then (value_at number sizes.1 parts.b parts.right s' k'.sound)
        (λ n s'' k'' h'. moved_keeps program locals s'' k''.sound well place t p (integer_of n) complete (type_lasts program k''.later t p h))))
    value_at (T.NumberPlus place number pointer) small t typed before sound =
        let sizes = and_parts (makes (is_storable program.structs) number) (makes (is_storable program.structs) pointer) small in
        let parts = first_parts (type_of around pointer) (type_of around number) (λ a b. is_pointer_to_complete program.structs a && is_integer b) t typed in
        let complete = (and_parts (is_pointer_to_complete program.structs t) (is_integer parts.b) parts.holds).0 in
        tick_gives sound (λ s k. gives_then (value_at number sizes.0 parts.b parts.right s k.sound) (λ n s' k' h. gives_then (value_at pointer sizes.1 t parts.left s' k'.sound)
        (λ p s'' k'' h'. moved_keeps program locals s'' k''.sound well place t p (integer_of n) complete h')))
    value_at (T.PointerMinus place pointer number) small t typed before sound =
        let sizes = and_parts (makes (is_storable program.structs) pointer) (makes (is_storable program.structs) number) small in
        let parts = first_parts (type_of around pointer) (type_of around number) (λ a b. is_pointer_to_complete program.structs a && is_integer b) t typed in
        let complete = (and_parts (is_pointer_to_complete program.structs t) (is_integer parts.b) parts.holds).0 in
        tick_gives sound (λ s k. gives_then (value_at pointer sizes.0 t parts.left s k.sound) (λ p s' k' h. gives_then (value_at number sizes.1 parts.b parts.right s' k'.sound)
        (λ n s'' k'' h'. moved_keeps program locals s'' k''.sound well place t p (neg_ℤ (integer_of n)) complete (type_lasts program k''.later t p h))))
    value_at (T.PointerDifference place left right) small t typed before sound =
        let sizes = and_parts (makes (is_storable program.structs) left) (makes (is_storable program.structs) right) small in
        let parts = both_parts (type_of around left) (type_of around right) (λ a b. is_pointer_to_complete program.structs a && same_type a b) (Integer I.Long) t typed in
        value_of program locals before (Integer I.Long) t (value (around_of program) calls (T.PointerDifference place left right)) parts.is
        (tick_gives sound (λ s k. gives_then (value_at left sizes.0 parts.a parts.left s k.sound) (λ a s' k' h. gives_then (value_at right sizes.1 parts.b parts.right s' k'.sound)
        (λ b s'' k'' h'. difference_keeps program well locals s'' k''.sound place a b))))
    value_at (T.And left right) small t typed before sound =
        let sizes = and_parts (makes (is_storable program.structs) left) (makes (is_storable program.structs) right) small in
        let parts = both_parts (type_of around left) (type_of around right) (λ a b. is_integer a && is_integer b) int t typed in
        value_of program locals before int t (value (around_of program) calls (T.And left right)) parts.is
        (tick_gives sound (λ s k. gives_then (value_at left sizes.0 parts.a parts.left s k.sound) (λ a s' k' h. if_gives (is_true a)
        (λ yes. gives_then (value_at right sizes.1 parts.b parts.right s' k'.sound) (λ b s'' k'' h'. give_gives {value = truth (is_true b)} k''.sound (truth_typed program s'' (is_true b))))
        (λ no. give_gives {value = truth false} k'.sound (truth_typed program s' false)))))
    value_at (T.Or left right) small t typed before sound =
        let sizes = and_parts (makes (is_storable program.structs) left) (makes (is_storable program.structs) right) small in
        let parts = both_parts (type_of around left) (type_of around right) (λ a b. is_integer a && is_integer b) int t typed in
        value_of program locals before int t (value (around_of program) calls (T.Or left right)) parts.is
        (tick_gives sound (λ s k. gives_then (value_at left sizes.0 parts.a parts.left s k.sound) (λ a s' k' h. if_gives (is_true a)
        (λ yes. give_gives {value = truth true} k'.sound (truth_typed program s' true))
        (λ no. gives_then (value_at right sizes.1 parts.b parts.right s' k'.sound) (λ b s'' k'' h'. give_gives {value = truth (is_true b)} k''.sound (truth_typed program s'' (is_true b)))))))
    value_at (T.Conditional condition taken otherwise) small t typed before sound =
        let sizes = and_parts (makes (is_storable program.structs) condition && makes (is_storable program.structs) taken) (makes (is_storable program.structs) otherwise) small in
        let sizes' = and_parts (makes (is_storable program.structs) condition) (makes (is_storable program.structs) taken) sizes.0 in
        let whole = given_parts (type_of around condition) (λ c. given_two (type_of around taken) (type_of around otherwise) (λ a b. where_holds (is_integer c && same_type a b) a)) t typed in
        let parts = first_parts (type_of around taken) (type_of around otherwise) (λ a b. is_integer whole.0 && same_type a b) t whole.2 in
        let is = same_type-true t parts.b (and_parts (is_integer whole.0) (same_type t parts.b) parts.holds).1 in
        tick_gives sound (λ s k. gives_then (value_at condition sizes'.0 whole.0 whole.1 s k.sound) (λ c s' k' h. if_gives (is_true c)
        (λ yes. value_at taken sizes'.1 t parts.left s' k'.sound)
        (λ no. value_of program locals s' parts.b t (value (around_of program) calls otherwise) (sym is) (value_at otherwise sizes.1 parts.b parts.right s' k'.sound))))
    value_at (T.AddressOf place object) small t typed before sound =
        let parts = given_parts (type_of_object around object) (λ u. Some (Pointer u)) t typed in
        value_of program locals before (Pointer parts.0) t (value (around_of program) calls (T.AddressOf place object)) (same_Some (Pointer parts.0) t parts.2)
        (tick_gives sound (λ s k. address_at object small parts.0 parts.1 s k.sound))
    value_at (T.AddressOfFunction function) small t typed before sound =
        let parts = given_parts (type_of_designator around function) (λ u. Some (Pointer u)) t typed in
        value_of program locals before (Pointer parts.0) t (value (around_of program) calls (T.AddressOfFunction function)) (same_Some (Pointer parts.0) t parts.2)
        (tick_gives sound (λ s k. designated_at function small parts.0 parts.1 s k.sound))
    value_at (T.Cast operand) small t typed before sound =
        let parts = same_parts (type_of around operand) is_scalar t typed in
        tick_gives sound (λ s k. value_at operand small t parts.0 s k.sound)
    value_at (T.CastVoid operand) small t typed before sound =
        let parts = given_parts (type_of around operand) (λ u. Some Void) t typed in
        value_of program locals before Void t (value (around_of program) calls (T.CastVoid operand)) (same_Some Void t parts.2)
        (tick_gives sound (λ s k. gives_as (value_at operand small parts.0 parts.1 s k.sound) (λ a s' k' h. tt)))
    value_at (T.Assign place object operand) small t typed before sound =
        let sizes = and_parts (object_makes (is_storable program.structs) object) (makes (is_storable program.structs) operand) small in
        let parts = first_parts (type_of_object around object) (type_of around operand) (λ a b. is_scalar a && same_type a b) t typed in
        let fits = and_parts (is_scalar t) (same_type t parts.b) parts.holds in
        tick_gives sound (λ s k. gives_then (find_at object sizes.0 t parts.left s k.sound) (λ p s' k' h. gives_then (value_at operand sizes.1 parts.b parts.right s' k'.sound)
        (λ a s'' k'' h'. write_keeps program well locals s'' k''.sound place t p a fits.0 (element_lasts program k''.later t p h)
        (of_type program s'' parts.b t a (sym (same_type-true t parts.b fits.1)) h'))))
    value_at (T.AssignArithmetic op place object_type n object operand) small t typed before sound =
        let sizes = and_parts (object_makes (is_storable program.structs) object) (makes (is_storable program.structs) operand) small in
        let parts = first_parts (type_of_object around object) (type_of around operand) (λ a b. same_type a (Integer object_type) && is_right op (Integer n) b) t typed in
        let is = same_type-true t (Integer object_type) (and_parts (same_type t (Integer object_type)) (is_right op (Integer n) parts.b) parts.holds).0 in
        let scalar = integer_scalar t object_type is in
        tick_gives sound (λ s k. gives_then (find_at object sizes.0 t parts.left s k.sound) (λ p s1 k1 h1. gives_then (value_at operand sizes.1 parts.b parts.right s1 k1.sound)
        (λ b s2 k2 h2. let stands = element_lasts program k2.later t p h1 in
        gives_then (read_keeps program well locals s2 k2.sound place t p scalar stands)
        (λ a s3 k3 h3. let stands' = element_lasts program k3.later t p stands in
        gives_then (arithmetic_keeps program locals s3 k3.sound op n place (converted n a) b)
        (λ c s4 k4 h4. write_keeps program well locals s4 k4.sound place t p (converted object_type c) scalar (element_lasts program k4.later t p stands')
        (of_type program s4 (Integer object_type) t (converted object_type c) (sym is) (converted_type program s4 object_type c)))))))
    value_at (T.AssignMoved is_minus place object number) small t typed before sound =
        let sizes = and_parts (object_makes (is_storable program.structs) object) (makes (is_storable program.structs) number) small in
        let parts = first_parts (type_of_object around object) (type_of around number) (λ a b. is_pointer_to_complete program.structs a && is_integer b) t typed in
        let complete = (and_parts (is_pointer_to_complete program.structs t) (is_integer parts.b) parts.holds).0 in
        let scalar = complete_scalar program t complete in
        tick_gives sound (λ s k. gives_then (find_at object sizes.0 t parts.left s k.sound) (λ p s1 k1 h1. gives_then (value_at number sizes.1 parts.b parts.right s1 k1.sound)
        (λ n s2 k2 h2. let stands = element_lasts program k2.later t p h1 in
        gives_then (read_keeps program well locals s2 k2.sound place t p scalar stands)
        (λ a s3 k3 h3. let stands' = element_lasts program k3.later t p stands in
        gives_then (moved_keeps program locals s3 k3.sound well place t a (if is_minus then neg_ℤ (integer_of n) else integer_of n) complete h3)
        (λ c s4 k4 h4. write_keeps program well locals s4 k4.sound place t p c scalar (element_lasts program k4.later t p stands') h4)))))
    value_at (T.StepInteger stepping place n object) small t typed before sound =
        let parts = same_parts (type_of_object around object) (λ u. same_type u (Integer n)) t typed in
        let is = same_type-true t (Integer n) parts.1 in
        let scalar = integer_scalar t n is in
        tick_gives sound (λ s k. gives_then (find_at object small t parts.0 s k.sound) (λ p s1 k1 h1. gives_then (read_keeps program well locals s1 k1.sound place t p scalar h1)
        (λ a s2 k2 h2. let stands = element_lasts program k2.later t p h1 in
        gives_then (arithmetic_keeps program locals s2 k2.sound (step_operator stepping) (common_of n I.Int) place (converted (common_of n I.Int) a) (IntegerValue (pos 1)))
        (λ c s3 k3 h3. gives_then (write_keeps program well locals s3 k3.sound place t p (converted n c) scalar (element_lasts program k3.later t p stands)
        (of_type program s3 (Integer n) t (converted n c) (sym is) (converted_type program s3 n c)))
        (λ new s4 k4 h4. give_gives k4.sound (step_type program s4 stepping t a new (type_lasts program k4.later t a (type_lasts program k3.later t a h2)) h4))))))
    value_at (T.StepPointer stepping place object) small t typed before sound =
        let parts = same_parts (type_of_object around object) (is_pointer_to_complete program.structs) t typed in
        let scalar = complete_scalar program t parts.1 in
        tick_gives sound (λ s k. gives_then (find_at object small t parts.0 s k.sound) (λ p s1 k1 h1. gives_then (read_keeps program well locals s1 k1.sound place t p scalar h1)
        (λ a s2 k2 h2. let stands = element_lasts program k2.later t p h1 in
        gives_then (moved_keeps program locals s2 k2.sound well place t a (step_amount stepping) parts.1 h2)
        (λ c s3 k3 h3. gives_then (write_keeps program well locals s3 k3.sound place t p c scalar (element_lasts program k3.later t p stands) h3)
        (λ new s4 k4 h4. give_gives k4.sound (step_type program s4 stepping t a new (type_lasts program k4.later t a (type_lasts program k3.later t a h2)) h4))))))
    value_at (T.Call is_used place function c_type arguments) small t typed before sound =
        let sizes = and_parts (designator_makes (is_storable program.structs) function) (all_make (is_storable program.structs) arguments) small in
        let parts = two_parts (type_of_designator around function) (types_of around arguments)
        (λ f types. given (result_of types f) (λ result. where_holds (same_type f c_type) (if is_used then result else Void))) t typed in
        let called = called_parts parts.b parts.a c_type is_used t parts.gave in
        tick_gives sound (λ s k. gives_then (designated_at function sizes.0 parts.a parts.left s k.sound) (λ f s' k' h. gives_then (values_at arguments sizes.1 parts.b parts.right s' k'.sound)
        (λ given s'' k'' h'. call_keeps program locals s'' k''.sound calls keep place is_used parts.b parts.a c_type t f given called (type_lasts program k''.later (Pointer parts.a) f h) h')))
    value_at (T.LibraryCall function groups place arguments) small t typed before sound =
        let parts = given_parts (types_of around arguments) (library_result function) t typed in
        tick_gives sound (λ s k. ticks_gives groups k.sound (λ s1 k1. tick_gives k1.sound (λ s2 k2. gives_then (values_at arguments small parts.0 parts.1 s2 k2.sound)
        (λ given s3 k3 h. library_keeps program well locals s3 k3.sound function place parts.0 t given parts.2 h))))

    values_at : (vs : Values) → all_make (is_storable program.structs) vs ≡ true → (ts : CTypes) → types_of around vs ≡ Some ts
        → (before : State) → Sound around before
        → GivesAt around (λ after given. HaveTypes program after ts given) (values (around_of program) calls vs) before
    values_at T.NoValues small ts typed before sound = give_gives sound (subst (λ us. HaveTypes program before us []) (same_Some NoTypes ts typed) tt)
    values_at (T.MoreValues first others) small ts typed before sound =
        let sizes = and_parts (makes (is_storable program.structs) first) (all_make (is_storable program.structs) others) small in
        let parts = two_parts (type_of around first) (types_of around others) (λ t types. Some (MoreTypes t types)) ts typed in
        gives_then (value_at first sizes.0 parts.a parts.left before sound) (λ a s k h. gives_then (values_at others sizes.1 parts.b parts.right s k.sound)
        (λ given s' k' h'. give_gives k'.sound
        (subst (λ us. HaveTypes program s' us (a ∷ given)) (same_Some (MoreTypes parts.a parts.b) ts parts.gave) (type_lasts program k'.later parts.a a h, h'))))

    find_at : (o : Object) → object_makes (is_storable program.structs) o ≡ true → (t : CType) → type_of_object around o ≡ Some t
        → (before : State) → Sound around before → ElementAt program locals t (find (around_of program) calls o) before
    find_at (T.Local number) small t typed before sound = tick_gives sound (λ s k. local_keeps program well locals s k.sound number t typed)
    find_at (T.Global name) small t typed before sound = tick_gives sound (λ s k. global_keeps program well locals s k.sound name t typed)
    find_at (T.Literal place bytes) small t typed before sound =
        let parts = other_parts (literal_bytes program.literals place) (λ listed. bytes_eq listed bytes) (literal_type bytes) t typed in
        let is = parts.1 ∙ ap Some ((bytes_eq-Decides parts.0 bytes).0 parts.2) in
        tick_gives sound (λ s k. give_gives k.sound (subst (λ u. IsElement program s u (object_place (LiteralObject place) (literal_type bytes))) parts.3
        (literal_element program well locals s k.sound place bytes is)))
    find_at (T.GroupedObject place inner) small t typed before sound = tick_gives sound (λ s k. find_at inner small t typed s k.sound)
    find_at (T.Pointed place pointer) small t typed before sound =
        let parts = given_parts (type_of around pointer) (pointed program.structs) t typed in
        let to = pointed_parts program.structs parts.0 t parts.2 in
        tick_gives sound (λ s k. gives_then (value_at pointer small parts.0 parts.1 s k.sound)
        (λ p s' k' h. accessed_keeps program well locals s' k'.sound place t p to.1 (of_type program s' parts.0 (Pointer t) p to.0 h)))
    find_at (T.Element place pointer number) small t typed before sound =
        let sizes = and_parts (makes (is_storable program.structs) pointer) (makes (is_storable program.structs) number) small in
        let parts = two_parts (type_of around pointer) (type_of around number) (element program.structs) t typed in
        let to = element_parts program.structs parts.a parts.b t parts.gave in
        tick_gives sound (λ s k. gives_then (value_at pointer sizes.0 parts.a parts.left s k.sound) (λ p s' k' h. gives_then (value_at number sizes.1 parts.b parts.right s' k'.sound)
        (λ n s'' k'' h'. element_keeps program well locals s'' k''.sound place t p (integer_of n) to.1 (of_type program s'' parts.a (Pointer t) p to.0 (type_lasts program k''.later parts.a p h)))))
    find_at (T.ElementOf place number pointer) small t typed before sound =
        let sizes = and_parts (makes (is_storable program.structs) number) (makes (is_storable program.structs) pointer) small in
        let parts = two_parts (type_of around pointer) (type_of around number) (element program.structs) t typed in
        let to = element_parts program.structs parts.a parts.b t parts.gave in
        tick_gives sound (λ s k. gives_then (value_at number sizes.0 parts.b parts.right s k.sound) (λ n s' k' h. gives_then (value_at pointer sizes.1 parts.a parts.left s' k'.sound)
        (λ p s'' k'' h'. element_keeps program well locals s'' k''.sound place t p (integer_of n) to.1 (of_type program s'' parts.a (Pointer t) p to.0 h'))))
    find_at (T.MemberOf place object number) small t typed before sound =
        let parts = given_parts (type_of_object around object) (member_of program.structs number) t typed in
        tick_gives sound (λ s k. gives_then (find_at object small parts.0 parts.1 s k.sound) (λ p s' k' h. give_gives k'.sound (member_type program s' well number parts.0 t p parts.2 h)))
    find_at (T.PointedMember place pointer number) small t typed before sound =
        let parts = given_parts (type_of around pointer) (λ u. given (pointed program.structs u) (member_of program.structs number)) t typed in
        let inner = given_parts (pointed program.structs parts.0) (member_of program.structs number) t parts.2 in
        let to = pointed_parts program.structs parts.0 inner.0 inner.1 in
        tick_gives sound (λ s k. gives_then (value_at pointer small parts.0 parts.1 s k.sound)
        (λ a s' k' h. gives_then (accessed_keeps program well locals s' k'.sound place inner.0 a to.1 (of_type program s' parts.0 (Pointer inner.0) a to.0 h))
        (λ p s'' k'' h'. give_gives k''.sound (member_type program s'' well number inner.0 t p inner.2 h'))))

    address_at : (o : Object) → object_makes (is_storable program.structs) o ≡ true → (t : CType) → type_of_object around o ≡ Some t
        → (before : State) → Sound around before → ValueAt program locals (Pointer t) (address (around_of program) calls o) before
    address_at (T.Local number) small t typed before sound =
        gives_then (tick_gives sound (λ s k. local_keeps program well locals s k.sound number t typed))
        (λ p s k h. give_gives k.sound (address_type program s well t p (local_complete program well locals s k.sound number t typed) h))
    address_at (T.Global name) small t typed before sound =
        tick_gives sound (λ s k. gives_then (global_keeps program well locals s k.sound name t typed)
        (λ p s' k' h. give_gives {value = PointerValue p} k'.sound (address_type program s' well t p (global_complete program well locals s' k'.sound name t typed) h)))
    address_at (T.Literal place bytes) small t typed before sound =
        let parts = other_parts (literal_bytes program.literals place) (λ listed. bytes_eq listed bytes) (literal_type bytes) t typed in
        let is = parts.1 ∙ ap Some ((bytes_eq-Decides parts.0 bytes).0 parts.2) in
        let found = object_place (LiteralObject place) (literal_type bytes) in
        tick_gives sound (λ s k. give_gives {value = PointerValue found} k.sound (of_type program s (Pointer (literal_type bytes)) (Pointer t) (PointerValue found) (ap Pointer parts.3)
        (address_type program s well (literal_type bytes) found refl (literal_element program well locals s k.sound place bytes is))))
    address_at (T.GroupedObject place inner) small t typed before sound = tick_gives sound (λ s k. address_at inner small t typed s k.sound)
    address_at (T.Pointed place pointer) small t typed before sound =
        let parts = given_parts (type_of around pointer) (pointed program.structs) t typed in
        let to = pointed_parts program.structs parts.0 t parts.2 in
        value_of program locals before parts.0 (Pointer t) (address (around_of program) calls (T.Pointed place pointer)) to.0
        (tick_gives sound (λ s k. value_at pointer small parts.0 parts.1 s k.sound))
    address_at (T.Element place pointer number) small t typed before sound =
        let sizes = and_parts (makes (is_storable program.structs) pointer) (makes (is_storable program.structs) number) small in
        let parts = two_parts (type_of around pointer) (type_of around number) (element program.structs) t typed in
        let to = element_parts program.structs parts.a parts.b t parts.gave in
        tick_gives sound (λ s k. gives_then (value_at pointer sizes.0 parts.a parts.left s k.sound) (λ p s' k' h. gives_then (value_at number sizes.1 parts.b parts.right s' k'.sound)
        (λ n s'' k'' h'. added_keeps program well locals s'' k''.sound place t p (integer_of n) to.1 (of_type program s'' parts.a (Pointer t) p to.0 (type_lasts program k''.later parts.a p h)))))
    address_at (T.ElementOf place number pointer) small t typed before sound =
        let sizes = and_parts (makes (is_storable program.structs) number) (makes (is_storable program.structs) pointer) small in
        let parts = two_parts (type_of around pointer) (type_of around number) (element program.structs) t typed in
        let to = element_parts program.structs parts.a parts.b t parts.gave in
        tick_gives sound (λ s k. gives_then (value_at number sizes.0 parts.b parts.right s k.sound) (λ n s' k' h. gives_then (value_at pointer sizes.1 parts.a parts.left s' k'.sound)
        (λ p s'' k'' h'. added_keeps program well locals s'' k''.sound place t p (integer_of n) to.1 (of_type program s'' parts.a (Pointer t) p to.0 h'))))
    address_at (T.MemberOf place object number) small t typed before sound =
        let parts = given_parts (type_of_object around object) (member_of program.structs number) t typed in
        tick_gives sound (λ s k. gives_then (find_at object small parts.0 parts.1 s k.sound)
        (λ p s' k' h. give_gives {value = PointerValue (member_at (around_of program) p number)} k'.sound (member_address_type program s' well number parts.0 t p parts.2 h)))
    address_at (T.PointedMember place pointer number) small t typed before sound =
        let parts = given_parts (type_of around pointer) (λ u. given (pointed program.structs u) (member_of program.structs number)) t typed in
        let inner = given_parts (pointed program.structs parts.0) (member_of program.structs number) t parts.2 in
        let to = pointed_parts program.structs parts.0 inner.0 inner.1 in
        tick_gives sound (λ s k. gives_then (value_at pointer small parts.0 parts.1 s k.sound)
        (λ a s' k' h. gives_then (accessed_keeps program well locals s' k'.sound place inner.0 a to.1 (of_type program s' parts.0 (Pointer inner.0) a to.0 h))
        (λ p s'' k'' h'. give_gives {value = PointerValue (member_at (around_of program) p number)} k''.sound (member_address_type program s'' well number inner.0 t p inner.2 h'))))

    designated_at : (d : Designator) → designator_makes (is_storable program.structs) d ≡ true → (t : CType) → type_of_designator around d ≡ Some t
        → (before : State) → Sound around before → ValueAt program locals (Pointer t) (designated (around_of program) calls d) before
    designated_at (T.Function name) small t typed before sound = tick_gives sound (λ s k. give_gives {value = FunctionValue name} k.sound (function_type_is program s well name t typed))
    designated_at (T.GroupedFunction inner) small t typed before sound = tick_gives sound (λ s k. designated_at inner small t typed s k.sound)
    designated_at (T.PointedFunction place pointer) small t typed before sound =
        let parts = given_parts (type_of around pointer) pointed_function t typed in
        value_of program locals before parts.0 (Pointer t) (designated (around_of program) calls (T.PointedFunction place pointer)) (pointed_function_is parts.0 t parts.2)
        (tick_gives sound (λ s k. value_at pointer small parts.0 parts.1 s k.sound))
    designated_at (T.ThroughPointer place pointer) small t typed before sound =
        let plain = unless_parts (is_conversion pointer) (given (type_of around pointer) pointed_function) t typed in
        let parts = given_parts (type_of around pointer) pointed_function t plain.1 in
        value_of program locals before parts.0 (Pointer t) (designated (around_of program) calls (T.ThroughPointer place pointer)) (pointed_function_is parts.0 t parts.2)
        (value_at pointer small parts.0 parts.1 before sound)

  pub value_keeps : (v : Value) → makes (is_storable program.structs) v ≡ true → (t : CType) → type_of (record { program = program; locals = locals }) v ≡ Some t
      → GivesValue (record { program = program; locals = locals }) t (value (around_of program) calls v)
  value_keeps v small t typed = gives_each (value (around_of program) calls v) (value_at v small t typed)

  pub values_keep : (vs : Values) → all_make (is_storable program.structs) vs ≡ true → (ts : CTypes) → types_of (record { program = program; locals = locals }) vs ≡ Some ts
      → Yields (record { program = program; locals = locals }) (λ after given. HaveTypes program after ts given) (values (around_of program) calls vs)
  values_keep vs small ts typed = gives_each (values (around_of program) calls vs) (values_at vs small ts typed)

  pub find_keeps : (o : Object) → object_makes (is_storable program.structs) o ≡ true → (t : CType) → type_of_object (record { program = program; locals = locals }) o ≡ Some t
      → GivesElement (record { program = program; locals = locals }) t (find (around_of program) calls o)
  find_keeps o small t typed = gives_each (find (around_of program) calls o) (find_at o small t typed)

  pub address_keeps : (o : Object) → object_makes (is_storable program.structs) o ≡ true → (t : CType) → type_of_object (record { program = program; locals = locals }) o ≡ Some t
      → GivesValue (record { program = program; locals = locals }) (Pointer t) (address (around_of program) calls o)
  address_keeps o small t typed = gives_each (address (around_of program) calls o) (address_at o small t typed)

  pub designated_keeps : (d : Designator) → designator_makes (is_storable program.structs) d ≡ true → (t : CType) → type_of_designator (record { program = program; locals = locals }) d ≡ Some t
      → GivesValue (record { program = program; locals = locals }) (Pointer t) (designated (around_of program) calls d)
  designated_keeps d small t typed = gives_each (designated (around_of program) calls d) (designated_at d small t typed)
