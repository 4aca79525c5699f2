-- What the type of an expression tells of its parts.
use Rattle.std.proofs.Common.{◌≡◌, ℕ, Bool, true, false, ◌&&◌, ◌||◌, if◌then◌else◌, List, [], ◌∷◌, Option, Some, None, is_some, refl, sym, ap, subst, bytes_eq}
use Rattle.std.proofs.lemmas.Bool.{false≢true, and_parts}
use Rattle.std.proofs.lemmas.Option.{none-some, same_Some}
use Rattle.c_typed.specs.Types.{CType, CTypes, Void, Integer, Pointer, Array, Struct, Function, NoTypes, MoreTypes, same_type, same_types, is_integer, is_void, is_function}
use Rattle.c_typed.specs.Layouts.{StructDef, is_complete}
use Rattle.c_typed.specs.Typed.{Program, FunctionDef}
use Rattle.c_typed.proofs.Same.{same_type-true}
use Rattle.c_typed.specs.Context.{function_type}
use Rattle.c_typed.specs.Expressions.{given, given_two, where_holds, is_scalar, is_pointer_to_complete, pointed, pointed_function, element, all_scalar, result_of}
use Rattle.c_typed.specs.Programs.{are_functions, function_of, is_function_def}

-- ---- what rules ask

pub held_parts : {A : Type 0} (b : Bool) (a u : A) → where_holds b a ≡ Some u → (b ≡ true) × (a ≡ u)
held_parts true a u is = (refl, same_Some a u is)
held_parts false a u is = absurd (none-some u is)

pub given_parts : {A B : Type 0} (option : Option A) (rule : A → Option B) (b : B) → given option rule ≡ Some b → (a : A) × (option ≡ Some a) × (rule a ≡ Some b)
given_parts (Some a) rule b is = (a, refl, is)
given_parts None rule b is = absurd (none-some b is)

-- what is asked where nothing is against it
pub unless_parts : {A : Type 0} (b : Bool) (option : Option A) (t : A) → (if b then None else option) ≡ Some t → (b ≡ false) × (option ≡ Some t)
unless_parts true option t is = absurd (none-some t is)
unless_parts false option t is = (refl, is)

pub record Two {A B C : Type 0} (first : Option A) (second : Option B) (rule : A → B → Option C) (c : C) : Type 0 where
  pub a : A
  pub b : B
  pub left : first ≡ Some a
  pub right : second ≡ Some b
  pub gave : rule a b ≡ Some c

pub two_parts : {A B C : Type 0} (first : Option A) (second : Option B) (rule : A → B → Option C) (c : C) → given_two first second rule ≡ Some c → Two first second rule c
two_parts (Some a) (Some b) rule c is = record { a = a; b = b; left = refl; right = refl; gave = is }
two_parts (Some a) None rule c is = absurd (none-some c is)
two_parts None second rule c is = absurd (none-some c is)

-- the type of the operand itself, where it is of a kind
pub same_parts : {A : Type 0} (option : Option A) (test : A → Bool) (t : A) → given option (λ a. where_holds (test a) a) ≡ Some t → (option ≡ Some t) × (test t ≡ true)
same_parts None test t is = absurd (none-some t is)
same_parts (Some a) test t is =
    let held = held_parts (test a) a t is in
    (ap Some held.1, subst (λ u. test u ≡ true) held.1 held.0)

-- another type, where that of the operand is of a kind
pub other_parts : {A B : Type 0} (option : Option A) (test : A → Bool) (u t : B) → given option (λ a. where_holds (test a) u) ≡ Some t → (a : A) × (option ≡ Some a) × (test a ≡ true) × (u ≡ t)
other_parts None test u t is = absurd (none-some t is)
other_parts (Some a) test u t is = let held = held_parts (test a) u t is in (a, refl, held.0, held.1)

-- the type of the first operand
pub record First {A B : Type 0} (first : Option A) (second : Option B) (test : A → B → Bool) (t : A) : Type 0 where
  pub b : B
  pub left : first ≡ Some t
  pub right : second ≡ Some b
  pub holds : test t b ≡ true

pub first_parts : {A B : Type 0} (first : Option A) (second : Option B) (test : A → B → Bool) (t : A) → given_two first second (λ a b. where_holds (test a b) a) ≡ Some t
    → First first second test t
first_parts None second test t is = absurd (none-some t is)
first_parts (Some a) None test t is = absurd (none-some t is)
first_parts (Some a) (Some b) test t is =
    let held = held_parts (test a b) a t is in
    record { b = b; left = ap Some held.1; right = refl; holds = subst (λ u. test u b ≡ true) held.1 held.0 }

-- another type, where those of the operands are of a kind
pub record Both {A B C : Type 0} (first : Option A) (second : Option B) (test : A → B → Bool) (u t : C) : Type 0 where
  pub a : A
  pub b : B
  pub left : first ≡ Some a
  pub right : second ≡ Some b
  pub holds : test a b ≡ true
  pub is : u ≡ t

pub both_parts : {A B C : Type 0} (first : Option A) (second : Option B) (test : A → B → Bool) (u t : C) → given_two first second (λ a b. where_holds (test a b) u) ≡ Some t
    → Both first second test u t
both_parts None second test u t is = absurd (none-some t is)
both_parts (Some a) None test u t is = absurd (none-some t is)
both_parts (Some a) (Some b) test u t is =
    let held = held_parts (test a b) u t is in
    record { a = a; b = b; left = refl; right = refl; holds = held.0; is = held.1 }

-- ---- types

pub same_types-true : (ps qs : CTypes) → same_types ps qs ≡ true → ps ≡ qs
same_types-true NoTypes NoTypes h = refl
same_types-true (MoreTypes a others) (MoreTypes b others') h =
    let parts = and_parts (same_type a b) (same_types others others') h in
    let first = same_type-true a b parts.0 in
    let second = same_types-true others others' parts.1 in
    λ i. MoreTypes (first i) (second i)
same_types-true NoTypes (MoreTypes b others') h = absurd (false≢true h)
same_types-true (MoreTypes a others) NoTypes h = absurd (false≢true h)

pub pointed_parts : (structs : List StructDef) (u t : CType) → pointed structs u ≡ Some t → (u ≡ Pointer t) × (is_complete structs t ≡ true)
pointed_parts structs (Pointer target) t is =
    let held = held_parts (is_complete structs target) target t is in
    (ap Pointer held.1, subst (λ v. is_complete structs v ≡ true) held.1 held.0)
pointed_parts structs Void t is = absurd (none-some t is)
pointed_parts structs (Integer n) t is = absurd (none-some t is)
pointed_parts structs (Array u n) t is = absurd (none-some t is)
pointed_parts structs (Struct tag) t is = absurd (none-some t is)
pointed_parts structs (Function u us) t is = absurd (none-some t is)

pub element_parts : (structs : List StructDef) (u number t : CType) → element structs u number ≡ Some t → (u ≡ Pointer t) × (is_complete structs t ≡ true)
element_parts structs u number t is = by (is_integer number) is
  where
    by : (b : Bool) → (if b then pointed structs u else None) ≡ Some t → (u ≡ Pointer t) × (is_complete structs t ≡ true)
    by true is = pointed_parts structs u t is
    by false is = absurd (none-some t is)

pub pointed_function_is : (u t : CType) → pointed_function u ≡ Some t → u ≡ Pointer t
pointed_function_is (Pointer (Function result parameters)) t is = ap Pointer (same_Some (Function result parameters) t is)
pointed_function_is (Pointer Void) t is = absurd (none-some t is)
pointed_function_is (Pointer (Integer n)) t is = absurd (none-some t is)
pointed_function_is (Pointer (Pointer u)) t is = absurd (none-some t is)
pointed_function_is (Pointer (Array u n)) t is = absurd (none-some t is)
pointed_function_is (Pointer (Struct tag)) t is = absurd (none-some t is)
pointed_function_is Void t is = absurd (none-some t is)
pointed_function_is (Integer n) t is = absurd (none-some t is)
pointed_function_is (Array u n) t is = absurd (none-some t is)
pointed_function_is (Struct tag) t is = absurd (none-some t is)
pointed_function_is (Function u us) t is = absurd (none-some t is)

-- a pointer to a complete type
pub record ToComplete (structs : List StructDef) (t : CType) : Type 0 where
  pub target : CType
  pub is : t ≡ Pointer target
  pub complete : is_complete structs target ≡ true

pub to_complete : (structs : List StructDef) (t : CType) → is_pointer_to_complete structs t ≡ true → ToComplete structs t
to_complete structs (Pointer target) h = record { target = target; is = refl; complete = h }
to_complete structs Void h = absurd (false≢true h)
to_complete structs (Integer n) h = absurd (false≢true h)
to_complete structs (Array u n) h = absurd (false≢true h)
to_complete structs (Struct tag) h = absurd (false≢true h)
to_complete structs (Function u us) h = absurd (false≢true h)

-- ---- calls

pub record Called (types : CTypes) (f c_type : CType) (is_used : Bool) (t : CType) : Type 0 where
  pub result : CType
  pub parameters : CTypes
  pub is_function : f ≡ Function result parameters
  pub called : c_type ≡ Function result parameters
  pub passed : types ≡ parameters
  pub gives_scalar : (is_scalar result || is_void result) ≡ true
  pub takes_scalars : all_scalar parameters ≡ true
  pub gives : (if is_used then result else Void) ≡ t

pub called_parts : (types : CTypes) (f c_type : CType) (is_used : Bool) (t : CType)
    → given (result_of types f) (λ result. where_holds (same_type f c_type) (if is_used then result else Void)) ≡ Some t → Called types f c_type is_used t
called_parts types (Function result parameters) c_type is_used t is =
    let known = given_parts (result_of types (Function result parameters)) (λ r. where_holds (same_type (Function result parameters) c_type) (if is_used then r else Void)) t is in
    let fits = held_parts (all_scalar parameters && same_types parameters types && (is_scalar result || is_void result)) result known.0 known.1 in
    let both = and_parts (all_scalar parameters && same_types parameters types) (is_scalar result || is_void result) fits.0 in
    let held = held_parts (same_type (Function result parameters) c_type) (if is_used then known.0 else Void) t known.2 in
    record {
      result = result;
      parameters = parameters;
      is_function = refl;
      called = sym (same_type-true (Function result parameters) c_type held.0);
      passed = sym (same_types-true parameters types (and_parts (all_scalar parameters) (same_types parameters types) both.0).1);
      gives_scalar = both.1;
      takes_scalars = (and_parts (all_scalar parameters) (same_types parameters types) both.0).0;
      gives = subst (λ r. (if is_used then r else Void) ≡ t) (sym fits.1) held.1;
    }
called_parts types Void c_type is_used t is = absurd (none-some t is)
called_parts types (Integer n) c_type is_used t is = absurd (none-some t is)
called_parts types (Pointer u) c_type is_used t is = absurd (none-some t is)
called_parts types (Array u n) c_type is_used t is = absurd (none-some t is)
called_parts types (Struct tag) c_type is_used t is = absurd (none-some t is)

-- ---- functions

module _ (program : Program) where
  one_of : (a b c d : Bool) → (a && b && c && d) ≡ true → a ≡ true
  one_of true b c d h = refl
  one_of false b c d h = absurd (false≢true h)

  def_is : (function : FunctionDef) → is_function_def program function ≡ true → is_function function.c_type ≡ true
  def_is function h =
      let same = same_type-true function.c_type (function_of function.result function.parameters) (one_of _ _ _ _ h) in
      subst (λ t. is_function t ≡ true) (sym same) refl

  functions_are : (functions : List FunctionDef) → are_functions program functions ≡ true → (name : List ℕ) (t : CType) → function_type functions name ≡ Some t → is_function t ≡ true
  functions_are [] all name t is = absurd (none-some t is)
  functions_are (first ∷ others) all name t is =
      let parts = and_parts (is_function_def program first) (are_functions program others) all in
      by (bytes_eq first.name name) (def_is first parts.0) (functions_are others parts.1 name t) is
    where
      by : (b : Bool) → is_function first.c_type ≡ true → (function_type others name ≡ Some t → is_function t ≡ true)
          → (if b then Some first.c_type else function_type others name) ≡ Some t → is_function t ≡ true
      by true one rest is = subst (λ u. is_function u ≡ true) (same_Some first.c_type t is) one
      by false one rest is = rest is

  -- a function of the program has a function's type
  pub function_is : are_functions program program.functions ≡ true → (name : List ℕ) (t : CType) → function_type program.functions name ≡ Some t → is_function t ≡ true
  function_is well name t is = functions_are program.functions well name t is

pub some_is : {A : Type 0} (option : Option A) (a : A) → option ≡ Some a → is_some option ≡ true
some_is option a is = subst (λ o. is_some o ≡ true) (sym is) refl
