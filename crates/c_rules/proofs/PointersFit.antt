-- Names, pointers and members fit.
use Rattle.std.proofs.Common.{◌≡◌, ℕ, suc, ◌+◌, true, false, not, ◌&&◌, ◌||◌, List, [], ◌∷◌, slice_get, Option, Some, None, is_some, bytes_eq, refl, ap, sym, ◌∙◌, subst, inl, inr, arith}
use Rattle.std.proofs.lemmas.Bool.{false≢true, true≢false}
use Rattle.run_theory.specs.declared.place.Pos.{Pos}
use Rattle.c_syntax.specs.Trees.{NameTree}
use Rattle.c_rules.specs.declared.rule.TypeRule.TheVariants as T
use Rattle.c_typed.specs.Types.{CType, Pointer, Struct, Function, is_integer, is_pointer, is_void, is_struct, is_function, is_void_pointer, is_function_pointer}
use Rattle.c_typed.specs.Layouts.{StructDef, MemberDef, is_complete, members_by_tag, known_members, member_type}
use Rattle.c_typed.specs.Typed as typed
use Rattle.c_typed.specs.Typed.{Value, Object}
use Rattle.c_rules.specs.Names.{Scope}
use Rattle.c_rules.specs.Known.{Checked, Known, TypedExpr, OfValue, OfObject, OfFunction, OfLibrary, Address, give, object_at, value_in, grouped}
use Rattle.c_rules.specs.declared.constness.Constness.{Constness}
use Rattle.c_rules.specs.Constants
use Rattle.c_rules.specs.Operators
use Rattle.c_rules.specs.Operators.{element, indexed, dereferenced, address_of, target_of, add_number, object_in}
use Rattle.c_typed.specs.Context.{Context}
use Rattle.c_typed.specs.Expressions as well
use Rattle.c_typed.specs.Expressions.{is_scalar, is_conversion, type_of, type_of_object, type_of_designator, pointed, pointed_function}
use Rattle.c_rules.specs.Proper.{is_proper}
use Rattle.c_rules.specs.Fitting.{Fits, Yields, TypedFits, AddressFits, StandsIn, KnownFits, ValueFits, IsOfValue, IsNoObject}
use Rattle.c_rules.proofs.Yielding.{either_case, give_yields, refuse_yields, require_yields}
use Rattle.c_rules.proofs.TypeSteps.{given_is, given_two_is, or_left, bool_case}
use Rattle.c_rules.proofs.Completeness.{pointer_stays, not_like_void, target_complete, pointed_is, element_is, complete_no_function}
use Rattle.c_rules.proofs.Addresses.{refit, value_stands, moved_fits, member_fits}
use Rattle.c_rules.proofs.ConversionsFit.{value_has}
use Rattle.c_rules.proofs.Results.{address_result, object_result}

-- ---- in parentheses

grouped_typed : (around : Context) (place : Pos) (t : CType) (expression : TypedExpr) → TypedFits around t expression → TypedFits around t (grouped place expression)
grouped_typed around place t (OfValue value) fit = (fit.0, refl, fit.2)
grouped_typed around place t (OfObject object) fit = fit
grouped_typed around place t (OfFunction function) fit = fit
grouped_typed around place t (OfLibrary function groups) fit = fit

grouped_value : (place : Pos) (expression : TypedExpr) → IsOfValue expression → IsOfValue (grouped place expression)
grouped_value place (OfValue value) is = is
grouped_value place (OfObject object) is = is
grouped_value place (OfFunction function) is = is
grouped_value place (OfLibrary function groups) is = is

grouped_stands : (completed : List (List ℕ)) (place : Pos) (t : CType) (expression : TypedExpr) (element : CType) → StandsIn completed t expression element → StandsIn completed t (grouped place expression) element
grouped_stands completed place t (OfValue value) element stands = value_stands completed t value (typed.Grouped value) element stands
grouped_stands completed place t (OfObject object) element stands = stands
grouped_stands completed place t (OfFunction function) element stands = stands
grouped_stands completed place t (OfLibrary function groups) element stands = stands

grouped_no_object : (place : Pos) (expression : TypedExpr) → IsNoObject expression → IsNoObject (grouped place expression)
grouped_no_object place (OfValue value) plain = plain
grouped_no_object place (OfObject object) plain = plain
grouped_no_object place (OfFunction function) plain = plain
grouped_no_object place (OfLibrary function groups) plain = plain

pub grouped_fits : (around : Context) (place : Pos) (known : Known) → KnownFits around known → KnownFits around (record known { typed = grouped place known.typed })
grouped_fits around place known fit = record {
  typed = grouped_typed around place known.c_type known.typed fit.typed;
  proper = fit.proper;
  null = λ null. ((fit.null null).0, grouped_value place known.typed (fit.null null).1);
  address = refit around.program known.c_type known.c_type known.typed (grouped place known.typed) known.address fit.address (λ h plain. (h, grouped_no_object place known.typed plain)) (λ element. grouped_stands around.program.completed place known.c_type known.typed element);
}

-- ---- pointers

pub target_proper : (t : CType) → is_proper t ≡ true → is_pointer t ≡ true → is_proper (target_of t) ≡ true
target_proper (Pointer target) proper is = proper
target_proper t proper is = absurd (false≢true is)

complete_pointer : (structs : List StructDef) (t : CType) → well.is_pointer_to_complete structs t ≡ true → is_pointer t ≡ true
complete_pointer structs (Pointer target) complete = refl
complete_pointer structs t complete = absurd (false≢true complete)

-- an object behind a pointer stands where the pointer points
pointed_stands : (scope : Scope) (around : Context) → Fits scope around → (t : CType) (value : Value) (object : Object) (element : CType) → well.is_pointer_to_complete around.program.structs t ≡ true
    → StandsIn around.program.completed t (OfValue value) element → StandsIn around.program.completed (target_of t) (OfObject object) element
pointed_stands scope around fits (Pointer target) value object element complete (no_function, inl like) = absurd (not_like_void scope around fits target complete like)
pointed_stands scope around fits (Pointer target) value object element complete (no_function, inr same) = same
pointed_stands scope around fits t value object element complete stands = absurd (false≢true complete)

-- a pointer to complete objects is none to a function
no_function_at : (structs : List StructDef) (t : CType) → well.is_pointer_to_complete structs t ≡ true → (is_function t || is_function_pointer t) ≡ true → ⊥
no_function_at structs (Pointer target) complete h = true≢false (sym h ∙ complete_no_function structs target complete)
no_function_at structs t complete h = false≢true complete

-- the object behind a pointer
pub pointed_object : (scope : Scope) (around : Context) → Fits scope around → (t : CType) (value : Value) (object : Object) (at : Address) → well.is_pointer_to_complete around.program.structs t ≡ true → is_proper t ≡ true
    → type_of_object around object ≡ Some (target_of t) → AddressFits around.program t (OfValue value) at → KnownFits around (object_at (target_of t) object at)
pointed_object scope around fits t value object at complete proper typed address =
    object_result around (target_of t) object at typed (target_complete around.program.structs t complete) (target_proper t proper (complete_pointer around.program.structs t complete))
    (refit around.program t (target_of t) (OfValue value) (OfObject object) at address (λ h plain. absurd (no_function_at around.program.structs t complete h)) (λ element. pointed_stands scope around fits t value object element complete))

-- the value's address, at the value's tree
pub value_address_fits : (around : Context) (known : Known) → ValueFits around known → AddressFits around.program known.c_type (OfValue (value_in known)) known.address
value_address_fits around known fit = by known.typed fit.value fit.known_fits.address
  where
    by : (expression : TypedExpr) → IsOfValue expression → AddressFits around.program known.c_type expression known.address → AddressFits around.program known.c_type (OfValue (value_in known)) known.address
    by (OfValue value) is fits = refit around.program known.c_type known.c_type (OfValue value) (OfValue (value_in known)) known.address fits (λ h plain. (h, tt)) (λ element. value_stands around.program.completed known.c_type value (value_in known) element)
    by (OfObject object) is fits = absurd is
    by (OfFunction function) is fits = absurd is
    by (OfLibrary function groups) is fits = absurd is

pub element_yields : (scope : Scope) (around : Context) → Fits scope around → (whole index_place : Pos) (object : Object) (pointer index : Known) → ValueFits around pointer → ValueFits around index
    → (well.is_pointer_to_complete around.program.structs pointer.c_type ≡ true → is_integer index.c_type ≡ true → type_of_object around object ≡ Some (target_of pointer.c_type))
    → Yields (KnownFits around) (element scope whole index_place object pointer index)
element_yields scope around fits whole index_place object pointer index fit index_fit typed =
    require_yields (KnownFits around) (Operators.is_pointer_to_complete scope pointer.c_type) T.T14 whole _
    (λ complete. require_yields (KnownFits around) (is_integer index.c_type) T.T07 index_place _
    (λ integer. let stays = pointer_stays scope around fits pointer.c_type complete in
    give_yields (KnownFits around) _ (pointed_object scope around fits pointer.c_type (value_in pointer) object (Constants.moved pointer.address index.constness) stays fit.known_fits.proper (typed stays integer)
    (moved_fits around.program pointer.c_type (OfValue (value_in pointer)) pointer.address index.constness (value_address_fits around pointer fit)))))

pub indexed_yields : (scope : Scope) (around : Context) → Fits scope around → (left_place right_place : Pos) (left right : Known) → ValueFits around left → ValueFits around right
    → Yields (KnownFits around) (indexed scope left_place right_place left right)
indexed_yields scope around fits left_place right_place left right left_fit right_fit =
    either_case (λ (checked : Checked Known). Yields (KnownFits around) checked) (not (is_pointer left.c_type) && is_pointer right.c_type) _ _
    (λ swapped. element_yields scope around fits left_place left_place (typed.ElementOf left_place (value_in left) (value_in right)) right left right_fit left_fit
    (λ complete integer. given_two_is (type_of around (value_in right)) right.c_type (type_of around (value_in left)) left.c_type (well.element around.program.structs) (target_of right.c_type)
    (value_has around right right_fit).0 (value_has around left left_fit).0 (element_is around.program.structs right.c_type left.c_type complete integer)))
    (λ straight. element_yields scope around fits left_place right_place (typed.Element left_place (value_in left) (value_in right)) left right left_fit right_fit
    (λ complete integer. given_two_is (type_of around (value_in left)) left.c_type (type_of around (value_in right)) right.c_type (well.element around.program.structs) (target_of left.c_type)
    (value_has around left left_fit).0 (value_has around right right_fit).0 (element_is around.program.structs left.c_type right.c_type complete integer)))

-- what a pointer to a function points to
function_target : (t : CType) → is_function_pointer t ≡ true → (pointed_function t ≡ Some (target_of t)) × (is_function (target_of t) ≡ true) × (is_pointer t ≡ true)
function_target (Pointer (Function result parameters)) is = (refl, refl, refl)
function_target (Pointer t) is = absurd (false≢true is)
function_target t is = absurd (false≢true is)

-- into a row no pointer to a function points
pub no_row : (completed : List (List ℕ)) (t : CType) (value : Value) (element : CType) → is_function_pointer t ≡ true → StandsIn completed t (OfValue value) element → ⊥
no_row completed (Pointer target) value element is stands = false≢true (sym stands.0 ∙ is)
no_row completed t value element is stands = false≢true is

not_null_function : (t : CType) → is_function_pointer t ≡ true → (is_integer t || is_void_pointer t) ≡ true → ⊥
not_null_function (Pointer (Function result parameters)) is null = false≢true null
not_null_function (Pointer t) is null = false≢true is
not_null_function t is null = false≢true is

pub dereferenced_yields : (scope : Scope) (around : Context) → Fits scope around → (whole : Pos) (pointer : Known) → ValueFits around pointer → Yields (KnownFits around) (dereferenced scope whole pointer)
dereferenced_yields scope around fits whole pointer fit =
    either_case (λ (checked : Checked Known). Yields (KnownFits around) checked) (is_function_pointer pointer.c_type) _ _
    (λ function. let parts = function_target pointer.c_type function in
    give_yields (KnownFits around) _ (record {
      typed = (given_is (type_of around (value_in pointer)) pointer.c_type pointed_function (target_of pointer.c_type) has.0 parts.0, parts.1);
      proper = target_proper pointer.c_type fit.known_fits.proper parts.2;
      null = λ null. absurd (not_null_function pointer.c_type function (fit.known_fits.null null).0);
      address = refit around.program pointer.c_type (target_of pointer.c_type) (OfValue (value_in pointer)) (OfFunction (typed.PointedFunction whole (value_in pointer))) pointer.address (value_address_fits around pointer fit)
          (λ h plain. (or_left (is_function (target_of pointer.c_type)) _ parts.1, tt)) (λ element stands. absurd (no_row around.program.completed pointer.c_type (value_in pointer) element function stands));
    }))
    (λ other. require_yields (KnownFits around) (Operators.is_pointer_to_complete scope pointer.c_type) T.T14 whole _
    (λ complete. let stays = pointer_stays scope around fits pointer.c_type complete in
    give_yields (KnownFits around) _ (pointed_object scope around fits pointer.c_type (value_in pointer) (typed.Pointed whole (value_in pointer)) pointer.address stays fit.known_fits.proper
    (given_is (type_of around (value_in pointer)) pointer.c_type (pointed around.program.structs) (target_of pointer.c_type) has.0 (pointed_is around.program.structs pointer.c_type stays))
    (value_address_fits around pointer fit))))
  where
    has : TypedFits around pointer.c_type (OfValue (value_in pointer))
    has = value_has around pointer fit

-- ---- addresses

object_stands : (around : Context) (t : CType) (object : Object) (value : Value) (element : CType) → is_complete around.program.structs t ≡ true
    → StandsIn around.program.completed t (OfObject object) element → StandsIn around.program.completed (Pointer t) (OfValue value) element
object_stands around t object value element complete stands = (complete_no_function around.program.structs t complete, inr stands)

pub address_yields : (around : Context) (whole : Pos) (operand : Known) → KnownFits around operand → Yields (KnownFits around) (address_of whole operand)
address_yields around whole operand fit = by operand.typed fit.typed fit.address
  where
    by : (expression : TypedExpr) → TypedFits around operand.c_type expression → AddressFits around.program operand.c_type expression operand.address → Yields (KnownFits around) (Operators.address_in whole operand expression)
    by (OfObject object) fits_type fits_address = give_yields (KnownFits around) _
        (address_result around (Pointer operand.c_type) (typed.AddressOf whole object) operand.address
        (given_is (type_of_object around object) operand.c_type (λ t. Some (Pointer t)) (Pointer operand.c_type) fits_type.0 refl) refl refl fit.proper
        (refit around.program operand.c_type (Pointer operand.c_type) (OfObject object) (OfValue (typed.AddressOf whole object)) operand.address fits_address
        (λ h plain. absurd plain) (λ element. object_stands around operand.c_type object (typed.AddressOf whole object) element fits_type.1)))
    by (OfFunction function) fits_type fits_address = give_yields (KnownFits around) _
        (address_result around (Pointer operand.c_type) (typed.AddressOfFunction function) operand.address
        (given_is (type_of_designator around function) operand.c_type (λ t. Some (Pointer t)) (Pointer operand.c_type) fits_type.0 refl) refl refl fit.proper
        (refit around.program operand.c_type (Pointer operand.c_type) (OfFunction function) (OfValue (typed.AddressOfFunction function)) operand.address fits_address (λ h plain. (fits_type.1, tt)) (λ element stands. absurd stands)))
    by (OfValue value) fits_type fits_address = refuse_yields (KnownFits around) T.T09 whole
    by (OfLibrary function groups) fits_type fits_address = refuse_yields (KnownFits around) T.T09 whole

-- ---- pointers that move

pointer_kind : (structs : List StructDef) (t : CType) → well.is_pointer_to_complete structs t ≡ true → (is_scalar t || is_void t) ≡ true
pointer_kind structs (Pointer target) complete = refl
pointer_kind structs t complete = absurd (false≢true complete)

pub add_yields : (scope : Scope) (around : Context) → Fits scope around → (whole : Pos) (value : Value) (pointer : Known) (number : Constness) → ValueFits around pointer → is_conversion value ≡ false
    → (well.is_pointer_to_complete around.program.structs pointer.c_type ≡ true → type_of around value ≡ Some pointer.c_type)
    → Yields (KnownFits around) (add_number scope whole value pointer number)
add_yields scope around fits whole value pointer number fit plain typed =
    require_yields (KnownFits around) (Operators.is_pointer_to_complete scope pointer.c_type) T.T14 whole _
    (λ complete. let stays = pointer_stays scope around fits pointer.c_type complete in
    give_yields (KnownFits around) _ (address_result around pointer.c_type value (Constants.moved pointer.address number) (typed stays) plain (pointer_kind around.program.structs pointer.c_type stays) fit.known_fits.proper
    (moved_fits around.program pointer.c_type (OfValue value) pointer.address number
    (refit around.program pointer.c_type pointer.c_type (OfValue (value_in pointer)) (OfValue value) pointer.address (value_address_fits around pointer fit) (λ h plain. (h, tt))
    (λ element. value_stands around.program.completed pointer.c_type (value_in pointer) value element)))))

-- ---- members

-- the members from a number on, of which each has a type and fits
members_from : (around : Context) (whole : Pos) (tag : List ℕ) (all members : List MemberDef) (number : ℕ) (name : List ℕ) (object : ℕ → Object) (from : Address)
    → ((n : ℕ) → slice_get all (number + n) ≡ slice_get members n)
    → ((n : ℕ) (member : MemberDef) → slice_get all n ≡ Some member → is_some member.c_type ≡ true)
    → ((n : ℕ) (c_type : CType) → member_type (slice_get all n) ≡ Some c_type → KnownFits around (object_at c_type (object n) (Constants.member_address from n c_type)))
    → Yields (KnownFits around) (Operators.member_at number members name object from whole)
members_from around whole tag all [] number name object from same have fit = refuse_yields (KnownFits around) T.T15 whole
members_from around whole tag all (member ∷ members) number name object from same have fit =
    either_case (λ (checked : Checked Known). Yields (KnownFits around) checked) (bytes_eq member.name name) _ _
    (λ found. by member.c_type refl)
    (λ other. members_from around whole tag all members (number + 1) name object from (λ n. ap (slice_get all) (shifted number n) ∙ same (suc n)) have fit)
  where
    shifted : (m n : ℕ) → m + 1 + n ≡ m + suc n
    shifted m n = omega arith

    here : slice_get all number ≡ Some member
    here = ap (slice_get all) (plus_zero number) ∙ same 0
      where
        plus_zero : (m : ℕ) → m ≡ m + 0
        plus_zero m = omega arith

    by : (option : Option CType) → member.c_type ≡ option → Yields (KnownFits around) (Operators.of_type option (λ c_type. give (object_at c_type (object number) (Constants.member_address from number c_type))))
    by (Some c_type) is = give_yields (KnownFits around) _ (fit number c_type (ap member_type here ∙ is))
    by None is = absurd (false≢true (sym (ap is_some is) ∙ have number member here))

pub member_yields : (scope : Scope) (around : Context) → Fits scope around → (whole : Pos) (t : CType) (object : ℕ → Object) (from : Address) (member : NameTree) (whole_object : Object)
    → ((n : ℕ) (c_type : CType) → well.member_of around.program.structs n t ≡ Some c_type → type_of_object around (object n) ≡ Some c_type)
    → AddressFits around.program t (OfObject whole_object) from → Yields (KnownFits around) (Operators.member_of scope whole t object from member)
member_yields scope around fits whole (Struct tag) object from member whole_object typed address = by (members_by_tag scope.structs tag) refl
  where
    zero_plus : (n : ℕ) → 0 + n ≡ n
    zero_plus n = omega arith

    by : (option : Option (List MemberDef)) → members_by_tag scope.structs tag ≡ option → Yields (KnownFits around) (Operators.member_in option member.bytes object from whole)
    by None is = refuse_yields (KnownFits around) T.T15 whole
    by (Some members) is = members_from around whole tag members members 0 member.bytes object from (λ n. ap (slice_get members) (zero_plus n)) (λ n one found. fits.typed_members tag members n one is found)
        (λ n c_type found. let kept = fits.structs tag members is in let parts = fits.members tag members n c_type kept found in
        object_result around c_type (object n) (Constants.member_address from n c_type)
        (typed n c_type (ap (λ o. member_type (slice_get (known_members o) n)) kept ∙ found)) parts.0 parts.1
        (member_fits around.program tag members n c_type whole_object (object n) from kept found address))
member_yields scope around fits whole t object from member whole_object typed address = refuse_yields (KnownFits around) T.T15 whole

no_member : (scope : Scope) (around : Context) (whole : Pos) (t : CType) (object : ℕ → Object) (from : Address) (member : NameTree) → is_struct t ≡ false → Yields (KnownFits around) (Operators.member_of scope whole t object from member)
no_member scope around whole (Struct tag) object from member differs = absurd (true≢false differs)
no_member scope around whole t object from member differs = refuse_yields (KnownFits around) T.T15 whole

-- an expression of a structure's type is an object
object_only : (around : Context) (t : CType) (expression : TypedExpr) → is_struct t ≡ true → TypedFits around t expression → expression ≡ OfObject (object_in expression)
object_only around t (OfObject object) is fit = refl
object_only around (Struct tag) (OfValue value) is fit = absurd (false≢true fit.2)
object_only around (Struct tag) (OfFunction function) is fit = absurd (false≢true fit.1)
object_only around t (OfLibrary function groups) is fit = absurd fit
object_only around t expression is fit = absurd (false≢true is)

pub object_member_yields : (scope : Scope) (around : Context) → Fits scope around → (whole : Pos) (member : NameTree) (known : Known) → KnownFits around known → Yields (KnownFits around) (Operators.object_member scope whole member known)
object_member_yields scope around fits whole member known fit = bool_case (is_struct known.c_type) structure other
  where
    structure : is_struct known.c_type ≡ true → Yields (KnownFits around) (Operators.object_member scope whole member known)
    structure is =
        let only = object_only around known.c_type known.typed is fit.typed in
        member_yields scope around fits whole known.c_type (typed.MemberOf whole (object_in known.typed)) known.address member (object_in known.typed)
        (λ n c_type found. given_is (type_of_object around (object_in known.typed)) known.c_type (well.member_of around.program.structs n) c_type
        (subst (λ expression. TypedFits around known.c_type expression) only fit.typed).0 found)
        (subst (λ expression. AddressFits around.program known.c_type expression known.address) only fit.address)

    other : is_struct known.c_type ≡ false → Yields (KnownFits around) (Operators.object_member scope whole member known)
    other differs = no_member scope around whole known.c_type (typed.MemberOf whole (object_in known.typed)) known.address member differs

pub pointer_member_yields : (scope : Scope) (around : Context) → Fits scope around → (whole : Pos) (member : NameTree) (pointer : Known) → ValueFits around pointer → Yields (KnownFits around) (Operators.pointer_member scope whole member pointer)
pointer_member_yields scope around fits whole member pointer fit =
    require_yields (KnownFits around) (Operators.is_pointer_to_complete scope pointer.c_type) T.T14 whole _
    (λ complete. let stays = pointer_stays scope around fits pointer.c_type complete in
    member_yields scope around fits whole (target_of pointer.c_type) (typed.PointedMember whole (value_in pointer)) pointer.address member (typed.Pointed whole (value_in pointer))
    (λ n c_type found. given_is (type_of around (value_in pointer)) pointer.c_type (λ t. well.given (pointed around.program.structs t) (well.member_of around.program.structs n)) c_type (value_has around pointer fit).0
    (given_is (pointed around.program.structs pointer.c_type) (target_of pointer.c_type) (well.member_of around.program.structs n) c_type (pointed_is around.program.structs pointer.c_type stays) found))
    (refit around.program pointer.c_type (target_of pointer.c_type) (OfValue (value_in pointer)) (OfObject (typed.Pointed whole (value_in pointer))) pointer.address (value_address_fits around pointer fit)
    (λ h plain. absurd (no_function_at around.program.structs pointer.c_type stays h)) (λ element. pointed_stands scope around fits pointer.c_type (value_in pointer) (typed.Pointed whole (value_in pointer)) element stays)))
