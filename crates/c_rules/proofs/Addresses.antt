-- Addresses that are known fit.
use Rattle.std.proofs.Common.{◌≡◌, ℕ, ◌≤◌, Bool, true, false, not, ◌||◌, cond, ltb, ltb-false, List, [], ◌∷◌, ◌++◌, slice_get, Option, Some, None, ℤ, pos, negsuc, ◌+ℤ◌, ◌⊎◌, inl, inr, refl, ap, sym, subst, ◌∙◌, arith}
use Rattle.std.proofs.lemmas.Bool.{false≢true, and_parts}
use Rattle.c_typed.specs.declared.part.Part.{Part}
use Rattle.c_typed.specs.declared.part.Part.TheVariants as Parts
use Rattle.c_typed.specs.Types.{CType, Void, Integer, Pointer, Array, Struct, Function, is_function, is_function_pointer, is_like_void, same_type, decayed}
use Rattle.c_typed.specs.Layouts.{StructDef, MemberDef, members_by_tag, known_members, member_type}
use Rattle.c_typed.specs.Values.{Static}
use Rattle.c_typed.specs.Typed.{Value, Object, Program}
use Rattle.c_typed.proofs.Same.{same_type-true}
use Rattle.c_rules.specs.Known.{TypedExpr, OfValue, OfObject, OfFunction, OfLibrary, Address, NoAddress, Outside, NullAddress, FunctionAddress, Element, value_address, first_element}
use Rattle.c_rules.specs.Constants.{index_within, element_at, moved, member_address, retyped}
use Rattle.c_rules.specs.declared.constness.Constness.{Constness}
use Rattle.c_rules.specs.declared.constness.Constness.TheVariants.{NotConstant, Undefined, Constant}
use Rattle.c_typed.specs.Context.{Context}
use Rattle.c_typed.specs.Expressions.{given}
use Rattle.c_typed.specs.Programs.{RowType, one_of, row_within, row_at, static_type}
use Rattle.c_rules.specs.Proper.{is_proper}
use Rattle.c_rules.specs.Fitting.{TypedFits, AddressFits, IsRow, StandsIn, IsNoObject}
use Rattle.c_rules.proofs.Yielding.{either_case}

-- ---- rows

-- what was given came from something
pub given_parts : {A B : Type 0} (option : Option A) (rule : A → Option B) (b : B) → given option rule ≡ Some b → (a : A) × (option ≡ Some a) × (rule a ≡ Some b)
given_parts (Some a) rule b is = (a, refl, is)
given_parts None rule b is = cc

-- one step more leads from the row that was reached
pub row_more : (structs : List StructDef) (start row : RowType) (steps : List Part) (step : Part) (inner : RowType)
    → row_at structs start steps ≡ Some row → row_within structs row step ≡ Some inner → row_at structs start (steps ++ step ∷ []) ≡ Some inner
row_more structs start row [] step inner reached within =
    let same : start ≡ row = cc in
    subst (λ r. given (row_within structs r step) (λ i. Some i) ≡ Some inner) (sym same) (ap (λ o. given o (λ i. Some i)) within)
row_more structs start row (first ∷ steps) step inner reached within =
    let parts = given_parts (row_within structs start first) (λ i. row_at structs i steps) row reached in
    ap (λ o. given o (λ i. row_at structs i (steps ++ step ∷ []))) parts.1 ∙ row_more structs parts.0 row steps step inner parts.2 within

pub is_row_more : (program : Program) (root : Static) (steps : List Part) (step : Part) (c_type : CType) (count index : ℕ) (element : CType) (n : ℕ) → IsRow program root steps c_type count index
    → row_within program.structs (record { element = c_type; count = count }) step ≡ Some (record { element = element; count = n }) → IsRow program root (steps ++ step ∷ []) element n 0
is_row_more program root steps step c_type count index element n is within =
    let parts = given_parts (static_type program root) (λ t. row_at program.structs (one_of t) steps) (record { element = c_type; count = count }) is.row in
    record {
      row = ap (λ o. given o (λ t. row_at program.structs (one_of t) (steps ++ step ∷ []))) parts.1
          ∙ row_more program.structs (one_of parts.0) (record { element = c_type; count = count }) steps step (record { element = element; count = n }) parts.2 within;
      within = omega arith;
    }

-- ---- addresses

-- the same address of another expression that stands where this one does
pub refit : (program : Program) (t u : CType) (one other : TypedExpr) (address : Address) → AddressFits program t one address
    → ((is_function t || is_function_pointer t) ≡ true → IsNoObject one → ((is_function u || is_function_pointer u) ≡ true) × IsNoObject other)
    → ((element : CType) → StandsIn program.completed t one element → StandsIn program.completed u other element) → AddressFits program u other address
refit program t u one other NoAddress fits names stands = tt
refit program t u one other Outside fits names stands = tt
refit program t u one other NullAddress fits names stands = tt
refit program t u one other (FunctionAddress name) fits names stands = let of_function = names fits.1 fits.2 in (fits.0, of_function.0, of_function.1)
refit program t u one other (Element root steps element count index) fits names stands = (fits.0, stands element fits.1)

pub value_stands : (completed : List (List ℕ)) (t : CType) (one other : Value) (element : CType) → StandsIn completed t (OfValue one) element → StandsIn completed t (OfValue other) element
value_stands completed (Pointer target) one other element stands = stands
value_stands completed t one other element stands = absurd stands

-- an array's first element
first_row : (program : Program) (element : CType) (n : ℕ) (value : Value) (root : Static) (steps : List Part) (c_type : CType) (count index : ℕ) → is_function element ≡ false
    → Array element n ≡ c_type → IsRow program root steps c_type count index → AddressFits program (Pointer element) (OfValue value) (first_element (Element root steps c_type count index))
first_row program element n value root steps c_type count index no_function is =
    subst (λ t. IsRow program root steps t count index → AddressFits program (Pointer element) (OfValue value) (first_element (Element root steps t count index))) is
    (λ row. either_case (λ address. AddressFits program (Pointer element) (OfValue value) address) (ltb index count) (Element root (steps ++ Parts.Elements index ∷ []) element n 0) Outside
    (λ inside. (is_row_more program root steps (Parts.Elements index) (Array element n) count index element n row (elements_within inside), (no_function, inr refl)))
    (λ outside. tt))
  where
    elements_within : ltb index count ≡ true → row_within program.structs (record { element = Array element n; count = count }) (Parts.Elements index) ≡ Some (record { element = element; count = n })
    elements_within inside = rw inside refl

first_fits : (program : Program) (element : CType) (n : ℕ) (object : Object) (value : Value) (address : Address) → is_function element ≡ false
    → AddressFits program (Array element n) (OfObject object) address → AddressFits program (Pointer element) (OfValue value) (first_element address)
first_fits program element n object value NoAddress no_function fits = tt
first_fits program element n object value Outside no_function fits = tt
first_fits program element n object value NullAddress no_function fits = tt
first_fits program element n object value (FunctionAddress name) no_function fits = tt
first_fits program element n object value (Element root steps c_type count index) no_function fits = first_row program element n value root steps c_type count index no_function fits.1 fits.0

pub no_function_in : (element : CType) → not (is_function element) ≡ true → is_function element ≡ false
no_function_in (Function result parameters) h = absurd (false≢true h)
no_function_in Void h = refl
no_function_in (Integer n) h = refl
no_function_in (Pointer target) h = refl
no_function_in (Array inner n) h = refl
no_function_in (Struct tag) h = refl

-- a function's value is a pointer to it
function_decays : (t : CType) → (is_function t || is_function_pointer t) ≡ true → (is_function (decayed t) || is_function_pointer (decayed t)) ≡ true
function_decays (Function result parameters) h = refl
function_decays (Pointer target) h = h
function_decays t h = absurd (false≢true h)

pub read_address : (around : Context) (value : Value) (t : CType) (expression : TypedExpr) (address : Address) → TypedFits around t expression → is_proper t ≡ true → AddressFits around.program t expression address
    → AddressFits around.program (decayed t) (OfValue value) (value_address expression t address)
read_address around value (Array element n) (OfObject object) stored fit proper fits =
    first_fits around.program element n object value stored (no_function_in element (and_parts (not (is_function element)) (is_proper element) proper).0) fits
read_address around value Void (OfObject object) stored fit proper fits = tt
read_address around value (Integer n) (OfObject object) stored fit proper fits = tt
read_address around value (Pointer target) (OfObject object) stored fit proper fits = tt
read_address around value (Struct tag) (OfObject object) stored fit proper fits = tt
read_address around value (Function result parameters) (OfObject object) stored fit proper fits = tt
read_address around value t (OfFunction function) stored fit proper fits = refit around.program t (decayed t) (OfFunction function) (OfValue value) stored fits (λ h plain. (function_decays t h, tt)) (λ element stands. absurd stands)
read_address around value t (OfLibrary function groups) stored fit proper fits = absurd fit
read_address around value Void (OfValue old) stored fit proper fits = refit around.program Void Void (OfValue old) (OfValue value) stored fits (λ h plain. (h, tt)) (λ element. value_stands around.program.completed Void old value element)
read_address around value (Integer n) (OfValue old) stored fit proper fits = refit around.program (Integer n) (Integer n) (OfValue old) (OfValue value) stored fits (λ h plain. (h, tt)) (λ element. value_stands around.program.completed (Integer n) old value element)
read_address around value (Pointer target) (OfValue old) stored fit proper fits = refit around.program (Pointer target) (Pointer target) (OfValue old) (OfValue value) stored fits (λ h plain. (h, tt)) (λ element. value_stands around.program.completed (Pointer target) old value element)
read_address around value t (OfValue old) stored fit proper fits = absurd (false≢true fit.2)

-- ---- an index that moves

index_is_within : (count : ℕ) (z : ℤ) (index : ℕ) → index_within count z ≡ Some index → index ≤ count
index_is_within count (pos n) index is = by (ltb count n) refl is
  where
    by : (b : Bool) → ltb count n ≡ b → ◌≡◌ {A = Option ℕ} (cond b None (Some n)) (Some index) → index ≤ count
    by true above is = cc
    by false above is = let same : n ≡ index = cc in let below : n ≤ count = ltb-false count n above in omega arith
index_is_within count (negsuc n) index is = cc

moved_row : (program : Program) (t : CType) (expression : TypedExpr) (root : Static) (steps : List Part) (element : CType) (count : ℕ) (option : Option ℕ)
    → given (static_type program root) (λ c_type. row_at program.structs (one_of c_type) steps) ≡ Some (record { element = element; count = count }) → StandsIn program.completed t expression element
    → ((index : ℕ) → option ≡ Some index → index ≤ count) → AddressFits program t expression (element_at root steps element count option)
moved_row program t expression root steps element count (Some index) row stands within = (record { row = row; within = within index refl }, stands)
moved_row program t expression root steps element count None row stands within = tt

pub moved_fits : (program : Program) (t : CType) (expression : TypedExpr) (address : Address) (constness : Constness) → AddressFits program t expression address → AddressFits program t expression (moved address constness)
moved_fits program t expression NoAddress constness fits = tt
moved_fits program t expression Outside NotConstant fits = tt
moved_fits program t expression Outside Undefined fits = tt
moved_fits program t expression Outside (Constant z) fits = tt
moved_fits program t expression NullAddress NotConstant fits = tt
moved_fits program t expression NullAddress Undefined fits = tt
moved_fits program t expression NullAddress (Constant z) fits = tt
moved_fits program t expression (FunctionAddress name) NotConstant fits = tt
moved_fits program t expression (FunctionAddress name) Undefined fits = tt
moved_fits program t expression (FunctionAddress name) (Constant z) fits = tt
moved_fits program t expression (Element root steps element count index) NotConstant fits = tt
moved_fits program t expression (Element root steps element count index) Undefined fits = tt
moved_fits program t expression (Element root steps element count index) (Constant z) fits =
    moved_row program t expression root steps element count (index_within count (pos index +ℤ z)) fits.0.row fits.1 (λ moved_index. index_is_within count (pos index +ℤ z) moved_index)

-- ---- members

member_row : (program : Program) (tag : List ℕ) (members : List MemberDef) (number : ℕ) (c_type : CType) (object : Object) (root : Static) (steps : List Part) (struct : CType) (count index : ℕ)
    → members_by_tag program.structs tag ≡ Some members → member_type (slice_get members number) ≡ Some c_type
    → Struct tag ≡ struct → IsRow program root steps struct count index → AddressFits program c_type (OfObject object) (member_address (Element root steps struct count index) number c_type)
member_row program tag members number c_type object root steps struct count index found typed is =
    subst (λ t. IsRow program root steps t count index → AddressFits program c_type (OfObject object) (member_address (Element root steps t count index) number c_type)) is
    (λ row. either_case (λ address. AddressFits program c_type (OfObject object) address) (ltb index count) (Element root (steps ++ Parts.Member index number ∷ []) c_type 1 0) Outside
    (λ inside. (is_row_more program root steps (Parts.Member index number) (Struct tag) count index c_type 1 row (member_within inside), refl))
    (λ outside. tt))
  where
    member_within : ltb index count ≡ true → row_within program.structs (record { element = Struct tag; count = count }) (Parts.Member index number) ≡ Some (record { element = c_type; count = 1 })
    member_within inside = rw inside (ap (λ o. given (member_type (slice_get (known_members o) number)) (λ t. Some (one_of t))) found ∙ ap (λ o. given o (λ t. Some (one_of t))) typed)

pub member_fits : (program : Program) (tag : List ℕ) (members : List MemberDef) (number : ℕ) (c_type : CType) (whole object : Object) (address : Address)
    → members_by_tag program.structs tag ≡ Some members → member_type (slice_get members number) ≡ Some c_type
    → AddressFits program (Struct tag) (OfObject whole) address → AddressFits program c_type (OfObject object) (member_address address number c_type)
member_fits program tag members number c_type whole object NoAddress found typed fits = tt
member_fits program tag members number c_type whole object Outside found typed fits = tt
member_fits program tag members number c_type whole object NullAddress found typed fits = tt
member_fits program tag members number c_type whole object (FunctionAddress name) found typed fits = tt
member_fits program tag members number c_type whole object (Element root steps struct count index) found typed fits =
    member_row program tag members number c_type object root steps struct count index found typed fits.1 fits.0

-- ---- conversions

retyped_row : (program : Program) (target : CType) (value : Value) (root : Static) (steps : List Part) (element : CType) (count index : ℕ) → is_function target ≡ false → IsRow program root steps element count index
    → AddressFits program (Pointer target) (OfValue value) (retyped program.completed target (Element root steps element count index))
retyped_row program target value root steps element count index no_function row =
    by (is_like_void program.completed target) refl (same_type element target) refl
  where
    by : (b : Bool) → is_like_void program.completed target ≡ b → (c : Bool) → same_type element target ≡ c
        → AddressFits program (Pointer target) (OfValue value) (cond (b || c) (Element root steps element count index) Outside)
    by true like c same = (row, (no_function, inl like))
    by false like true same = (row, (no_function, inr (sym (same_type-true element target same))))
    by false like false same = tt

pub retyped_fits : (program : Program) (t : CType) (target : CType) (old value : Value) (address : Address) → (is_function target ≡ false) ⊎ ((element : CType) → StandsIn program.completed t (OfValue old) element → ⊥)
    → ((is_function t || is_function_pointer t) ≡ true → is_function target ≡ true)
    → AddressFits program t (OfValue old) address → AddressFits program (Pointer target) (OfValue value) (retyped program.completed target address)
retyped_fits program t target old value NoAddress either names fits = tt
retyped_fits program t target old value Outside either names fits = tt
retyped_fits program t target old value NullAddress either names fits = tt
retyped_fits program t target old value (FunctionAddress name) either names fits = (fits.0, names fits.1, tt)
retyped_fits program t target old value (Element root steps element count index) (inl no_function) names fits = retyped_row program target value root steps element count index no_function fits.0
retyped_fits program t target old value (Element root steps element count index) (inr never) names fits = absurd (never element fits.1)
