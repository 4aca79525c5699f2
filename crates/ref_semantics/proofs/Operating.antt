-- What an operator at the end of an expression gives.
use Rattle.std.proofs.Common.{◌≡◌, ℕ, Bool, true, false, not, if◌then◌else◌, List, Some, ℤ, Result, Ok, Err, cond, refl, sym, subst}
use Rattle.std.proofs.lemmas.Bool.{not-true}
use Rattle.std.proofs.lemmas.Option.{none-some}
use Rattle.run_theory.specs.declared.place.Pos.{Pos}
use Rattle.c_num.specs.declared.IntType.{IntType}
use Rattle.c_num.specs.declared.BinOp.{BinOp}
use Rattle.c_num.specs.declared.ArithUb.{ArithUb}
use Rattle.c_num.specs.declared.ArithUb.TheVariants as U
use Rattle.c_num.specs.Types.{is_value}
use Rattle.c_num.specs.Conversion.{convert_to}
use Rattle.c_num.specs.Arith.{outcome_of, exact, divides_by_zero, is_bad_shift, overflows}
use Rattle.c_num.proofs.Conversions.{convert_to-in_range}
use Rattle.c_num.proofs.Outcomes.{is_value-Decides}
use Rattle.c_typed.specs.declared.typed.Stepping.{Stepping}
use Rattle.c_typed.specs.declared.typed.Stepping.TheVariants as S
use Rattle.c_typed.specs.Types.{CType, CTypes, Void, Integer, Pointer, Array, Struct, Function, is_function}
use Rattle.c_typed.specs.Layouts.{is_complete}
use Rattle.c_typed.specs.Typed.{Program}
use Rattle.c_typed.specs.Context.{function_type}
use Rattle.c_typed.specs.Expressions.{is_scalar, is_pointer_to_complete, first_element, member_of}
use Rattle.c_typed.specs.Programs.{IsWellTyped}
use Rattle.ref_semantics.specs.First.{around_of}
use Rattle.ref_semantics.specs.Values.{Place, Scalar, FunctionValue, PointerValue, integer_of}
use Rattle.ref_semantics.specs.Store.{State, Eval, member_at, decayed}
use Rattle.ref_semantics.specs.Pointers.{added}
use Rattle.ref_semantics.specs.Meaning.{Calls, outcome_at, converted, right_of, arithmetic, step_result}
use Rattle.ref_semantics.specs.Sound.{HasType, HaveTypes, Sound}
use Rattle.ref_semantics.specs.Keeping.{IsElement, CallsKeep}
use Rattle.ref_semantics.proofs.Lasting.{GivesAt, give_gives, undefined_gives}
use Rattle.c_typed.proofs.Splitting.{held_parts, to_complete, Called, function_is, some_is}
use Rattle.ref_semantics.proofs.WellTyped.{well_functions}
use Rattle.ref_semantics.proofs.Pointing.{complete_object, element_address, decayed_address, member_element, member_complete, added_keeps}

-- ---- integers

outcome_value : (op : BinOp) (n : IntType) (a b : ℤ) → (z : ℤ) → outcome_of op n a b ≡ Ok z → is_value n z ≡ true
unfolding outcome_of
outcome_value op n a b z is =
    subst (λ w. is_value n w ≡ true) (by (divides_by_zero op b) (is_bad_shift op n a b) (overflows op n a b) (convert_to n (exact op n a b)) is)
    ((is_value-Decides n (convert_to n (exact op n a b))).1 (convert_to-in_range n (exact op n a b)))
  where
    by : (d s o : Bool) (w : ℤ) → ◌≡◌ {A = Result ℤ ArithUb} (cond d (Err U.DivideByZero) (cond s (Err U.BadShift) (cond o (Err U.Overflow) (Ok w)))) (Ok z) → w ≡ z
    by true s o w is = cc
    by false true o w is = cc
    by false false true w is = cc
    by false false false w is = cc

module _ (program : Program) (state : State) where
  pub converted_type : (n : IntType) (a : Scalar) → HasType program state (Integer n) (converted n a)
  converted_type n a = (is_value-Decides n (convert_to n (integer_of a))).1 (convert_to-in_range n (integer_of a))

  -- a value of an equal type
  pub of_type : (t u : CType) (a : Scalar) → t ≡ u → HasType program state t a → HasType program state u a
  of_type t u a is h = subst (λ v. HasType program state v a) is h

  pub step_type : (stepping : Stepping) (t : CType) (old new : Scalar) → HasType program state t old → HasType program state t new → HasType program state t (step_result stepping old new)
  step_type S.PreIncrement t old new one other = other
  step_type S.PostIncrement t old new one other = one
  step_type S.PreDecrement t old new one other = other
  step_type S.PostDecrement t old new one other = one

  -- ---- pointers

  module _ (well : IsWellTyped program) where
    pub decay_type : (u t : CType) (p : Place) → first_element u ≡ Some t → IsElement program state u p → HasType program state t (PointerValue (decayed (around_of program) p))
    decay_type (Array element n) t p is h =
        let held = held_parts (not (is_function element)) (Pointer element) t is in
        of_type (Pointer element) t (PointerValue (decayed (around_of program) p)) held.1
        (decayed_address program well state element n p (not-true (is_function element) held.0) h)
    decay_type Void t p is h = absurd (none-some t is)
    decay_type (Integer n) t p is h = absurd (none-some t is)
    decay_type (Pointer u) t p is h = absurd (none-some t is)
    decay_type (Struct tag) t p is h = absurd (none-some t is)
    decay_type (Function u us) t p is h = absurd (none-some t is)

    pub address_type : (t : CType) (p : Place) → is_complete program.structs t ≡ true → IsElement program state t p → HasType program state (Pointer t) (PointerValue p)
    address_type t p complete h = element_address program well state t p (complete_object program well t complete) h

    pub member_type : (number : ℕ) (own t : CType) (p : Place) → member_of program.structs number own ≡ Some t → IsElement program state own p
        → IsElement program state t (member_at (around_of program) p number)
    member_type number own t p is h = member_element program well state number own t p is h

    pub member_address_type : (number : ℕ) (own t : CType) (p : Place) → member_of program.structs number own ≡ Some t → IsElement program state own p
        → HasType program state (Pointer t) (PointerValue (member_at (around_of program) p number))
    member_address_type number own t p is h = address_type t (member_at (around_of program) p number) (member_complete program well number own t is) (member_type number own t p is h)

    pub function_type_is : (name : List ℕ) (t : CType) → function_type program.functions name ≡ Some t → HasType program state (Pointer t) (FunctionValue name)
    function_type_is name t is = (function_is program (well_functions program well) name t is, some_is (function_type program.functions name) t is)

-- ---- evaluations

-- an evaluation that gives a value of a type
abbrev pub ValueAt : Program → List CType → CType → Eval Scalar → State → Type 0
ValueAt program locals t eval before = GivesAt (record { program = program; locals = locals }) (λ after a. HasType program after t a) eval before

abbrev pub ElementAt : Program → List CType → CType → Eval Place → State → Type 0
ElementAt program locals t eval before = GivesAt (record { program = program; locals = locals }) (λ after p. IsElement program after t p) eval before

module _ (program : Program) (locals : List CType) (before : State) where
  -- one that gives a value of an equal type
  pub value_of : (t u : CType) (eval : Eval Scalar) → t ≡ u → ValueAt program locals t eval before → ValueAt program locals u eval before
  value_of t u eval is h = subst (λ v. ValueAt program locals v eval before) is h

  module _ (sound : Sound (record { program = program; locals = locals }) before) where
    pub arithmetic_keeps : (op : BinOp) (n : IntType) (here : Pos) (a b : Scalar) → ValueAt program locals (Integer n) (arithmetic op n here a b) before
    arithmetic_keeps op n here a b = by (outcome_of op n (convert_to n (integer_of a)) (right_of op n (integer_of b))) refl
      where
        by : (outcome : Result ℤ ArithUb) → outcome_of op n (convert_to n (integer_of a)) (right_of op n (integer_of b)) ≡ outcome
            → ValueAt program locals (Integer n) (outcome_at here outcome) before
        by (Ok z) is = give_gives sound (outcome_value op n (convert_to n (integer_of a)) (right_of op n (integer_of b)) z is)
        by (Err kind) is = undefined_gives

    module _ (well : IsWellTyped program) where
      -- a pointer that is moved
      pub moved_keeps : (here : Pos) (t : CType) (p : Scalar) (z : ℤ) → is_pointer_to_complete program.structs t ≡ true → HasType program before t p
          → ValueAt program locals t (added here p z) before
      moved_keeps here t p z complete h =
          let to = to_complete program.structs t complete in
          value_of (Pointer to.target) t (added here p z) (sym to.is)
          (added_keeps program well locals before sound here to.target p z to.complete (subst (λ v. HasType program before v p) to.is h))

    -- a call
    pub call_keeps : (calls : Calls) → CallsKeep program calls → (here : Pos) (is_used : Bool) (types : CTypes) (f c_type t : CType) (function : Scalar) (given : List Scalar)
        → Called types f c_type is_used t → HasType program before (Pointer f) function → HaveTypes program before types given
        → ValueAt program locals t (calls here is_used c_type function given) before
    call_keeps calls keep here is_used types f c_type t function given called one others =
        value_of (if is_used then called.result else Void) t (calls here is_used c_type function given) called.gives
        (subst (λ u. ValueAt program locals (if is_used then called.result else Void) (calls here is_used u function given) before) (sym called.called)
        (record {
          gives = keep locals here is_used called.result called.parameters function given before sound
              (subst (λ u. HasType program before (Pointer u) function) called.is_function one)
              (subst (λ us. HaveTypes program before us given) called.passed others);
        }))

-- a pointer to a complete type is a scalar
pub complete_scalar : (program : Program) (t : CType) → is_pointer_to_complete program.structs t ≡ true → is_scalar t ≡ true
complete_scalar program t complete = let to = to_complete program.structs t complete in subst (λ u. is_scalar u ≡ true) (sym to.is) refl

pub integer_scalar : (t : CType) (n : IntType) → t ≡ Integer n → is_scalar t ≡ true
integer_scalar t n is = subst (λ u. is_scalar u ≡ true) (sym is) refl
