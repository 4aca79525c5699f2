-- The code of what is called, of arguments, and of calls of library functions.
use Rattle.std.proofs.Common.{◌≡◌, ℕ, suc, ◌<◌, ◌≤◌, Bool, true, false, ◌||◌, if◌then◌else◌, List, [], ◌∷◌, ◌++◌, length, get_or, Some, None, is_some, append_assoc, append-nil, bytes_eq, refl, sym, ap, ◌∙◌, subst, arith}
use Rattle.std.proofs.lemmas.Bool.{false≢true, true≢false, and_parts}
use Rattle.std.proofs.lemmas.Option.{none-some, same_Some}
use Rattle.c_num.specs.declared.IntType.TheVariants as I
use Rattle.c_typed.specs.declared.typed.Value as memory_value
use Rattle.c_typed.specs.declared.typed.Designator as memory_designator
use Rattle.c_typed.specs.declared.typed.Designator.TheVariants as D
use Rattle.c_typed.specs.declared.typed.LibraryFunction.{LibraryFunction}
use Rattle.c_typed.specs.declared.typed.LibraryFunction.TheVariants as F
use Rattle.c_typed.specs.Types.{CType, CTypes, Void, Integer, Pointer, NoTypes, MoreTypes, int, same_type, same_types, is_integer, is_object_pointer}
use Rattle.c_typed.specs.Table.{Interned, Stands, type_in}
use Rattle.c_typed.specs.Typed as T
use Rattle.c_typed.specs.Typed.{FunctionDef}
use Rattle.c_typed.specs.Views.{value_in, designator_in, values_in}
use Rattle.c_typed.specs.TypedNodes.{value_nodes, values_nodes, designator_nodes}
use Rattle.c_typed.specs.Context.{function_type}
use Rattle.c_typed.specs.Expressions.{given, given_two, is_scalar, is_conversion, pointed_function, all_scalar, library_result, type_of, types_of}
use Rattle.c_typed.proofs.Same.{same_type-true}
use Rattle.c_typed.proofs.Splitting.{held_parts, given_parts, unless_parts, two_parts, pointed_function_is}
use Rattle.tac_ir.specs.declared.register.Register.{Register}
use Rattle.tac_ir.specs.declared.register.Register.TheVariants as R
use Rattle.tac_ir.specs.Code.{Op, Known, Through, Held}
use Rattle.tac_ir.specs.Code as C
use Rattle.tac_ir.specs.Views.{callee_in}
use Rattle.tac_build.specs.declared.builder.Builder.{Builder}
use Rattle.tac_build.specs.declared.names.Source.{Source}
use Rattle.tac_build.specs.declared.homes.Home as memory_home
use Rattle.tac_build.specs.declared.lowered.Lowered as memory_lowered
use Rattle.tac_build.specs.declared.lowered.Lowered.TheVariants as L
use Rattle.tac_build.specs.declared.lowered.Mode.TheVariants as N
use Rattle.tac_build.specs.declared.calls.Called.{Called}
use Rattle.tac_build.specs.Homes.{takes, takes_called, takes_any}
use Rattle.tac_build.specs.Spots.{Spot, Lowered, AsInteger, AsPointer, Kept, with_call, with_argument}
use Rattle.tac_build.specs.Forms.{HasForm}
use Rattle.tac_build.specs.Code.{function_number, type_of_function, Emits, Writes, ValueCode, ArgumentsCode, LibraryCode}
use Rattle.tac_build.specs.Building.{lowered_in, IsInteger, IsPointer, IsScalar, LibraryTakes, LibraryGives, Fills, Grows, points_in, spot_of, Leads, Lowers, HasRoom, Adds}
use Rattle.tac_build.specs.Lowering.{names_for, AddsFewer, program_in, types_of_source, scope_of, context_in, ValueTyped, DesignatorTyped, ValuesTyped, LibraryTyped, LieInMemory, ValueLives, LoweredHolds, ValueLowers, CallsThrough, DesignatorLowers, ArgumentsLower, LibraryLowers}
use Rattle.tac_build.specs.Passing.{Passes}
use Rattle.tac_build.proofs.Points.{fills_same, fills_equal, fills_grown, grows_on, grows_equal}
use Rattle.tac_build.proofs.Forms.{value_form}
use Rattle.tac_build.proofs.Everywhere.{stands_everywhere, holds_integer, holds_nothing, holds_pointer}
use Rattle.c_typed.proofs.Grown.{void_stands}

-- ---- kinds of what expressions come to

form_pointer : (table : Interned) (lowered : memory_lowered.Lowered) (target : CType) → HasForm Kept (lowered_in table lowered) (Pointer target) → IsPointer lowered
form_pointer table (L.Integer own tree) target form = absurd (cc)
form_pointer table (L.Pointer register own) target form = tt
form_pointer table (L.Object path own) target form = absurd form
form_pointer table L.Nothing target form = absurd (cc)

form_integer : (table : Interned) (lowered : memory_lowered.Lowered) (t : CType) → is_integer t ≡ true → HasForm Kept (lowered_in table lowered) t → IsInteger lowered
form_integer table (L.Integer own tree) t integer form = tt
form_integer table (L.Pointer register own) t integer form = absurd (false≢true (ap is_integer (sym form) ∙ integer))
form_integer table (L.Object path own) t integer form = absurd form
form_integer table L.Nothing t integer form = absurd (false≢true (ap is_integer (sym form) ∙ integer))

form_scalar : (table : Interned) (lowered : memory_lowered.Lowered) (t : CType) → is_scalar t ≡ true → HasForm Kept (lowered_in table lowered) t → IsScalar lowered
form_scalar table (L.Integer own tree) t scalar form = tt
form_scalar table (L.Pointer register own) t scalar form = tt
form_scalar table (L.Object path own) t scalar form = absurd form
form_scalar table L.Nothing t scalar form = absurd (false≢true (ap is_scalar (sym form) ∙ scalar))

form_free : (table : Interned) (lowered : memory_lowered.Lowered) (t : CType) → is_object_pointer t ≡ true → HasForm Kept (lowered_in table lowered) t → IsPointer lowered
form_free table (L.Integer own tree) t pointer form = absurd (false≢true (ap is_object_pointer (sym form) ∙ pointer))
form_free table (L.Pointer register own) t pointer form = tt
form_free table (L.Object path own) t pointer form = absurd form
form_free table L.Nothing t pointer form = absurd (false≢true (ap is_object_pointer (sym form) ∙ pointer))

-- the point of `exit` is told without a call's number
pub exit_gives : (site : ℕ) (points : List Op) (given : Lowered) (from to : Spot) (lowered : Lowered) → LibraryGives F.Exit 0 points given from to lowered → LibraryGives F.Exit site points given from to lowered
exit_gives site points (AsInteger own tree) from to lowered gives = gives
exit_gives site points _ from to lowered gives = absurd gives

-- a tree in memory, with what its boxes hold
pub named_is : {function : memory_designator.Designator} {a name : List ℕ} → function ≡ D.Named a → name ≡ a → function ≡ D.Named name
named_is e d = e ∙ (λ i. D.Named (sym d i))

pub grouped_is : {function : memory_designator.Designator} {p : _} {a inner : memory_designator.Designator} → function ≡ D.Grouped' p a → inner ≡ a → function ≡ D.Grouped' p inner
grouped_is {p = p} e d = e ∙ (λ i. D.Grouped' p (sym d i))

pub pointed_is : {function : memory_designator.Designator} {place : _} {p : _} {a pointer : memory_value.Value} → function ≡ D.Pointed' place p a → pointer ≡ a → function ≡ D.Pointed' place p pointer
pointed_is {place = place} {p = p} e d = e ∙ (λ i. D.Pointed' place p (sym d i))

pub through_is : {function : memory_designator.Designator} {place : _} {p : _} {a pointer : memory_value.Value} → function ≡ D.ThroughPointer' place p a → pointer ≡ a → function ≡ D.ThroughPointer' place p pointer
through_is {place = place} {p = p} e d = e ∙ (λ i. D.ThroughPointer' place p (sym d i))

-- a pointer is one register, and points to one type
pub through_told : (register other : Register) (target own : CType) → AsPointer register target ≡ AsPointer other own → (Through register target ≡ Through other own) × (target ≡ own)
through_told register other target own is = (ap callee is, ap target_of is)
  where
    callee : Lowered → C.Callee
    callee (AsPointer register target) = Through register target
    callee _ = Known 0

    target_of : Lowered → CType
    target_of (AsPointer register target) = target
    target_of _ = Void

pub only_item : {A : Type 0} → (items : List A) (item : A) → 1 ≤ length items → length items < 2 → item ≡ get_or items 0 item → items ≡ item ∷ []
only_item [] item some few is = absurd (omega arith)
only_item (first ∷ []) item some few is = ap (λ first. first ∷ []) (sym is)
only_item (first ∷ second ∷ others) item some few is = absurd (omega arith)

pub no_item : {A : Type 0} → (items : List A) → length items < 1 → items ≡ []
no_item [] few = refl
no_item (first ∷ others) few = absurd (omega arith)

module _ (source : Source) (scope : List memory_home.Home) where
  -- the form of a value that was lowered, by its type
  lowered_form : (value : memory_value.Value) (t : CType) (old new : Builder) (lowered : memory_lowered.Lowered) → type_of (context_in source scope) (value_in (types_of_source source) value) ≡ Some t
      → ValueLowers source scope N.Kept value old new lowered → HasForm Kept (lowered_in (types_of_source source) lowered) t
  lowered_form value t old new lowered typed code =
      let points = points_in (types_of_source source) new in
      value_form (program_in source) points (scope_of source scope) (value_in (types_of_source source) value) Kept t (spot_of (types_of_source source) old) (spot_of (types_of_source source) new) (lowered_in (types_of_source source) lowered) typed
      (code.0 points (fills_same points))

  -- an address that is kept is taken
  pub value_lives : (value : memory_value.Value) → LieInMemory (scope_of source scope) (λ number. takes false number (value_in (types_of_source source) value)) → ValueLives (scope_of source scope) Kept (value_in (types_of_source source) value)
  value_lives value lives = record { taken = lives; behind = λ kept. absurd (true≢false kept) }

  -- ---- what is called

  pub function_there : (functions : List FunctionDef) (name : List ℕ) (first : ℕ) (t : CType) → function_type functions name ≡ Some t → is_some (function_number first functions name) ≡ true
  function_there [] name first t is = absurd (none-some t is)
  function_there (function ∷ others) name first t is = by (bytes_eq function.name name) is (function_there others name (suc first) t)
    where
      by : (b : Bool) → (if b then Some function.c_type else function_type others name) ≡ Some t → (function_type others name ≡ Some t → is_some (function_number (suc first) others name) ≡ true)
          → is_some (if b then Some first else function_number (suc first) others name) ≡ true
      by true is rest = refl
      by false is rest = rest is

  pub named_there : (function : memory_designator.Designator) (name : List ℕ) → function ≡ D.Named name → DesignatorTyped source scope function → is_some (function_number 0 (program_in source).functions name) ≡ true
  named_there function name is typed =
      let named = subst (λ function. DesignatorTyped source scope function) is typed in
      function_there (program_in source).functions name 0 named.c_type named.typed

  pub named_code : (function : memory_designator.Designator) (name : List ℕ) (old : Builder) (called : Called) (number : ℕ) → function ≡ D.Named name → callee_in (types_of_source source) called.callee ≡ Known number
      → function_number 0 (program_in source).functions name ≡ Some number → type_of_function (program_in source).functions name ≡ Some (type_in (types_of_source source) called.c_type) → Stands (types_of_source source) called.c_type
      → DesignatorLowers source scope function old old called
  named_code function name old called number is known numbered typed stands =
      subst (λ function. DesignatorLowers source scope function old old called) (sym is) ((λ points fills. (number, numbered, refl, known, typed)), stands)

  -- a pointer to a function
  pub pointed_parts : (pointer : memory_value.Value) (t : CType) → given (type_of (context_in source scope) (value_in (types_of_source source) pointer)) pointed_function ≡ Some t
      → type_of (context_in source scope) (value_in (types_of_source source) pointer) ≡ Some (Pointer t)
  pointed_parts pointer t typed =
      let parts = given_parts (type_of (context_in source scope) (value_in (types_of_source source) pointer)) pointed_function t typed in
      parts.1 ∙ ap Some (pointed_function_is parts.0 t parts.2)

  pub through_parts : (pointer : memory_value.Value) (t : CType) → (if is_conversion (value_in (types_of_source source) pointer) then None else given (type_of (context_in source scope) (value_in (types_of_source source) pointer)) pointed_function) ≡ Some t
      → type_of (context_in source scope) (value_in (types_of_source source) pointer) ≡ Some (Pointer t)
  through_parts pointer t typed =
      pointed_parts pointer t (unless_parts (is_conversion (value_in (types_of_source source) pointer)) (given (type_of (context_in source scope) (value_in (types_of_source source) pointer)) pointed_function) t typed).1

  pub pointer_found : (pointer : memory_value.Value) (t : CType) (old new : Builder) (found : memory_lowered.Lowered) → type_of (context_in source scope) (value_in (types_of_source source) pointer) ≡ Some (Pointer t)
      → ValueLowers source scope N.Kept pointer old new found → IsPointer found
  pointer_found pointer t old new found typed code = form_pointer (types_of_source source) found t (lowered_form pointer (Pointer t) old new found typed code)

  -- what is called through a pointer
  record ThroughCode (pointer : memory_value.Value) (old new : Builder) (called : Called) : Type 0 where
    pub register : Register
    pub code : (points : List Op) → Fills (points_in (types_of_source source) new) points
        → ValueCode (program_in source) points (scope_of source scope) Kept (value_in (types_of_source source) pointer) (spot_of (types_of_source source) old) (spot_of (types_of_source source) new) (AsPointer register (type_in (types_of_source source) called.c_type))
    pub callee : callee_in (types_of_source source) called.callee ≡ Through register (type_in (types_of_source source) called.c_type)
    pub stands : Stands (types_of_source source) called.c_type

  through_code : (pointer : memory_value.Value) (old new : Builder) (found : memory_lowered.Lowered) (called : Called) → IsPointer found → CallsThrough found called → ValueLowers source scope N.Kept pointer old new found
      → ThroughCode pointer old new called
  through_code pointer old new (L.Pointer register target) called is told code =
      let here = told (types_of_source source) register (type_in (types_of_source source) target) refl in
      record {
        register = register;
        code = λ points fills. subst (λ c_type. ValueCode (program_in source) points (scope_of source scope) Kept (value_in (types_of_source source) pointer) (spot_of (types_of_source source) old) (spot_of (types_of_source source) new) (AsPointer register c_type)) (sym here.1) (code.0 points fills);
        callee = here.0 ∙ ap (Through register) (sym here.1);
        stands = stands_everywhere called.c_type target (λ any. (told any register (type_in any target) refl).1) (types_of_source source) code.1;
      }
  through_code pointer old new (L.Integer own tree) called is told code = absurd is
  through_code pointer old new (L.Object path own) called is told code = absurd is
  through_code pointer old new L.Nothing called is told code = absurd is

  -- ---- the forms of what is called

  pub grouped_typed : {p : _} (function inner : memory_designator.Designator) → function ≡ D.Grouped' p inner → DesignatorTyped source scope function → DesignatorTyped source scope inner
  grouped_typed function inner is typed =
      let whole = subst (DesignatorTyped source scope) is typed in
      record { stands = whole.stands; c_type = whole.c_type; typed = whole.typed }

  pub grouped_lives : {p : _} (function inner : memory_designator.Designator) → function ≡ D.Grouped' p inner
      → LieInMemory (scope_of source scope) (λ number. takes_called number (designator_in (types_of_source source) function)) → LieInMemory (scope_of source scope) (λ number. takes_called number (designator_in (types_of_source source) inner))
  grouped_lives function inner is lives = subst (λ function. LieInMemory (scope_of source scope) (λ number. takes_called number (designator_in (types_of_source source) function))) is lives

  pub grouped_room : {p : _} (function inner : memory_designator.Designator) (old : Builder) → function ≡ D.Grouped' p inner
      → HasRoom old (names_for (designator_nodes (designator_in (types_of_source source) function))) → HasRoom old (names_for (designator_nodes (designator_in (types_of_source source) inner)))
  grouped_room function inner old is room = let nodes = ap (λ function. designator_nodes (designator_in (types_of_source source) function)) is in omega (arith, nodes, room)

  pub grouped_code : {p : _} (function inner : memory_designator.Designator) (old new : Builder) (called : Called) → function ≡ D.Grouped' p inner → DesignatorLowers source scope inner old new called → DesignatorLowers source scope function old new called
  grouped_code function inner old new called is code = subst (λ function. DesignatorLowers source scope function old new called) (sym is) (code.0, code.1)

  pub grouped_adds : {p : _} (function inner : memory_designator.Designator) (old new : Builder) → function ≡ D.Grouped' p inner
      → AddsFewer old new (names_for (designator_nodes (designator_in (types_of_source source) inner))) → AddsFewer old new (names_for (designator_nodes (designator_in (types_of_source source) function)))
  grouped_adds function inner old new is adds = let nodes = ap (λ function. designator_nodes (designator_in (types_of_source source) function)) is in omega (arith, nodes, adds)

  pub named_adds : (function : memory_designator.Designator) (name : List ℕ) (old : Builder) → function ≡ D.Named name → AddsFewer old old (names_for (designator_nodes (designator_in (types_of_source source) function)))
  named_adds function name old is = let nodes = ap (λ function. designator_nodes (designator_in (types_of_source source) function)) is in omega (arith, nodes)

  pub pointed_typed : {place : _} {p : _} (function : memory_designator.Designator) (pointer : memory_value.Value) → function ≡ D.Pointed' place p pointer → DesignatorTyped source scope function → ValueTyped source scope pointer
  pointed_typed function pointer is typed =
      let whole = subst (DesignatorTyped source scope) is typed in
      record { stands = whole.stands; c_type = Pointer whole.c_type; typed = pointed_parts pointer whole.c_type whole.typed }

  pub pointed_lives : {place : _} {p : _} (function : memory_designator.Designator) (pointer : memory_value.Value) → function ≡ D.Pointed' place p pointer
      → LieInMemory (scope_of source scope) (λ number. takes_called number (designator_in (types_of_source source) function)) → ValueLives (scope_of source scope) Kept (value_in (types_of_source source) pointer)
  pointed_lives function pointer is lives =
      value_lives pointer (subst (λ function. LieInMemory (scope_of source scope) (λ number. takes_called number (designator_in (types_of_source source) function))) is lives)

  pub pointed_room : {place : _} {p : _} (function : memory_designator.Designator) (pointer : memory_value.Value) (old : Builder) → function ≡ D.Pointed' place p pointer
      → HasRoom old (names_for (designator_nodes (designator_in (types_of_source source) function))) → HasRoom old (names_for (value_nodes (value_in (types_of_source source) pointer)))
  pointed_room function pointer old is room = let nodes = ap (λ function. designator_nodes (designator_in (types_of_source source) function)) is in omega (arith, nodes, room)

  pub pointed_kind : {place : _} {p : _} (function : memory_designator.Designator) (pointer : memory_value.Value) (old new : Builder) (found : memory_lowered.Lowered) → function ≡ D.Pointed' place p pointer → DesignatorTyped source scope function
      → ValueLowers source scope N.Kept pointer old new found → IsPointer found
  pointed_kind function pointer old new found is typed code =
      let whole = subst (DesignatorTyped source scope) is typed in
      pointer_found pointer whole.c_type old new found (pointed_parts pointer whole.c_type whole.typed) code

  pub pointed_code : {place : _} {p : _} (function : memory_designator.Designator) (pointer : memory_value.Value) (old new : Builder) (found : memory_lowered.Lowered) (called : Called) → function ≡ D.Pointed' place p pointer
      → DesignatorTyped source scope function → ValueLowers source scope N.Kept pointer old new found → CallsThrough found called → DesignatorLowers source scope function old new called
  pointed_code function pointer old new found called is typed code told =
      let through = through_code pointer old new found called (pointed_kind function pointer old new found is typed code) told code in
      subst (λ function. DesignatorLowers source scope function old new called) (sym is) ((λ points fills. (through.register, through.code points fills, through.callee)), through.stands)

  pub pointed_adds : {place : _} {p : _} (function : memory_designator.Designator) (pointer : memory_value.Value) (old new : Builder) → function ≡ D.Pointed' place p pointer
      → AddsFewer old new (names_for (value_nodes (value_in (types_of_source source) pointer))) → AddsFewer old new (names_for (designator_nodes (designator_in (types_of_source source) function)))
  pointed_adds function pointer old new is adds = let nodes = ap (λ function. designator_nodes (designator_in (types_of_source source) function)) is in omega (arith, nodes, adds)

  pub through_typed : {place : _} {p : _} (function : memory_designator.Designator) (pointer : memory_value.Value) → function ≡ D.ThroughPointer' place p pointer → DesignatorTyped source scope function → ValueTyped source scope pointer
  through_typed function pointer is typed =
      let whole = subst (DesignatorTyped source scope) is typed in
      record { stands = whole.stands; c_type = Pointer whole.c_type; typed = through_parts pointer whole.c_type whole.typed }

  pub through_lives : {place : _} {p : _} (function : memory_designator.Designator) (pointer : memory_value.Value) → function ≡ D.ThroughPointer' place p pointer
      → LieInMemory (scope_of source scope) (λ number. takes_called number (designator_in (types_of_source source) function)) → ValueLives (scope_of source scope) Kept (value_in (types_of_source source) pointer)
  through_lives function pointer is lives =
      value_lives pointer (subst (λ function. LieInMemory (scope_of source scope) (λ number. takes_called number (designator_in (types_of_source source) function))) is lives)

  pub through_room : {place : _} {p : _} (function : memory_designator.Designator) (pointer : memory_value.Value) (old : Builder) → function ≡ D.ThroughPointer' place p pointer
      → HasRoom old (names_for (designator_nodes (designator_in (types_of_source source) function))) → HasRoom old (names_for (value_nodes (value_in (types_of_source source) pointer)))
  through_room function pointer old is room = let nodes = ap (λ function. designator_nodes (designator_in (types_of_source source) function)) is in omega (arith, nodes, room)

  pub through_kind : {place : _} {p : _} (function : memory_designator.Designator) (pointer : memory_value.Value) (old new : Builder) (found : memory_lowered.Lowered) → function ≡ D.ThroughPointer' place p pointer → DesignatorTyped source scope function
      → ValueLowers source scope N.Kept pointer old new found → IsPointer found
  through_kind function pointer old new found is typed code =
      let whole = subst (DesignatorTyped source scope) is typed in
      pointer_found pointer whole.c_type old new found (through_parts pointer whole.c_type whole.typed) code

  pub through_pointer_code : {place : _} {p : _} (function : memory_designator.Designator) (pointer : memory_value.Value) (old new : Builder) (found : memory_lowered.Lowered) (called : Called) → function ≡ D.ThroughPointer' place p pointer
      → DesignatorTyped source scope function → ValueLowers source scope N.Kept pointer old new found → CallsThrough found called → DesignatorLowers source scope function old new called
  through_pointer_code function pointer old new found called is typed code told =
      let through = through_code pointer old new found called (through_kind function pointer old new found is typed code) told code in
      subst (λ function. DesignatorLowers source scope function old new called) (sym is) ((λ points fills. (through.register, through.code points fills, through.callee)), through.stands)

  pub through_adds : {place : _} {p : _} (function : memory_designator.Designator) (pointer : memory_value.Value) (old new : Builder) → function ≡ D.ThroughPointer' place p pointer
      → AddsFewer old new (names_for (value_nodes (value_in (types_of_source source) pointer))) → AddsFewer old new (names_for (designator_nodes (designator_in (types_of_source source) function)))
  through_adds function pointer old new is adds = let nodes = ap (λ function. designator_nodes (designator_in (types_of_source source) function)) is in omega (arith, nodes, adds)

  -- ---- arguments

  record Types (first : memory_value.Value) (others : List memory_value.Value) (c_types : CTypes) : Type 0 where
    pub t : CType
    pub rest : CTypes
    pub left : type_of (context_in source scope) (value_in (types_of_source source) first) ≡ Some t
    pub right : types_of (context_in source scope) (values_in (types_of_source source) others) ≡ Some rest
    pub is : MoreTypes t rest ≡ c_types

  types_parts : (first : memory_value.Value) (others : List memory_value.Value) (c_types : CTypes) → types_of (context_in source scope) (values_in (types_of_source source) (first ∷ others)) ≡ Some c_types → Types first others c_types
  types_parts first others c_types typed =
      let parts = two_parts (type_of (context_in source scope) (value_in (types_of_source source) first)) (types_of (context_in source scope) (values_in (types_of_source source) others)) (λ t types. Some (MoreTypes t types)) c_types typed in
      record { t = parts.a; rest = parts.b; left = parts.left; right = parts.right; is = same_Some (MoreTypes parts.a parts.b) c_types parts.gave }

  either_left : (a b : Bool) → a ≡ true → (a || b) ≡ true
  either_left true b e = refl
  either_left false b e = absurd (false≢true e)

  either_right : (a b : Bool) → b ≡ true → (a || b) ≡ true
  either_right true b e = refl
  either_right false b e = e

  first_typed : (first : memory_value.Value) (others : List memory_value.Value) → ValuesTyped source scope (first ∷ others) → ValueTyped source scope first
  first_typed first others typed =
      let parts = types_parts first others typed.c_types typed.typed in
      record { stands = typed.stand.0; c_type = parts.t; typed = parts.left }

  first_lives : (first : memory_value.Value) (others : List memory_value.Value) → LieInMemory (scope_of source scope) (λ number. takes_any number (values_in (types_of_source source) (first ∷ others)))
      → ValueLives (scope_of source scope) Kept (value_in (types_of_source source) first)
  first_lives first others lives =
      value_lives first (λ number home at taken. lives number home at (either_left (takes false number (value_in (types_of_source source) first)) (takes_any number (values_in (types_of_source source) others)) taken))

  pub passes_none : (values : List memory_value.Value) (old : Builder) → ValuesTyped source scope values
      → ((c_types : CTypes) → types_of (context_in source scope) (values_in (types_of_source source) values) ≡ Some c_types → all_scalar c_types ≡ true)
      → LieInMemory (scope_of source scope) (λ number. takes_any number (values_in (types_of_source source) values)) → Passes source scope values values old old []
  passes_none values old typed scalars lives =
      record { typed = typed; scalars = scalars; lives = lives; code = λ points fills to others more. more; grows = grows_equal old old refl; adds = omega arith }

  pub passes_typed : (values rest : List memory_value.Value) (first : memory_value.Value) (others : List memory_value.Value) (old now : Builder) (done : List Register) → rest ≡ first ∷ others → Passes source scope values rest old now done
      → ValueTyped source scope first
  passes_typed values rest first others old now done is passes = first_typed first others (subst (ValuesTyped source scope) is passes.typed)

  pub passes_lives : (values rest : List memory_value.Value) (first : memory_value.Value) (others : List memory_value.Value) (old now : Builder) (done : List Register) → rest ≡ first ∷ others → Passes source scope values rest old now done
      → ValueLives (scope_of source scope) Kept (value_in (types_of_source source) first)
  passes_lives values rest first others old now done is passes =
      first_lives first others (subst (λ rest. LieInMemory (scope_of source scope) (λ number. takes_any number (values_in (types_of_source source) rest))) is passes.lives)

  -- there is room for one name more than those of the rest
  pub passes_room : (values rest : List memory_value.Value) (first : memory_value.Value) (others : List memory_value.Value) (old now mid : Builder) (done : List Register) → rest ≡ first ∷ others → Passes source scope values rest old now done
      → HasRoom old (suc (names_for (values_nodes (values_in (types_of_source source) values)))) → Adds now mid 1 → HasRoom mid (names_for (value_nodes (value_in (types_of_source source) first)))
  passes_room values rest first others old now mid done is passes room one =
      let adds = passes.adds in
      let same = ap (λ rest. values_nodes (values_in (types_of_source source) rest)) is in
      omega (arith, adds, same, room, one)

  pub passes_one : (values rest : List memory_value.Value) (old now : Builder) (done : List Register) → Passes source scope values rest old now done
      → HasRoom old (suc (names_for (values_nodes (values_in (types_of_source source) values)))) → HasRoom now 1
  passes_one values rest old now done passes room = let adds = passes.adds in omega (arith, adds, room)

  passes_scalar : (values rest : List memory_value.Value) (first : memory_value.Value) (others : List memory_value.Value) (old now : Builder) (done : List Register) → rest ≡ first ∷ others → Passes source scope values rest old now done
      → (t : CType) × (type_of (context_in source scope) (value_in (types_of_source source) first) ≡ Some t) × (is_scalar t ≡ true)
  passes_scalar values rest first others old now done is passes =
      let typed = subst (ValuesTyped source scope) is passes.typed in
      let scalars = subst (λ rest. (c_types : CTypes) → types_of (context_in source scope) (values_in (types_of_source source) rest) ≡ Some c_types → all_scalar c_types ≡ true) is passes.scalars in
      let parts = types_parts first others typed.c_types typed.typed in
      (parts.t, parts.left, (and_parts (is_scalar parts.t) (all_scalar parts.rest) (ap all_scalar parts.is ∙ scalars typed.c_types typed.typed)).0)

  pub passes_kind : (values rest : List memory_value.Value) (first : memory_value.Value) (others : List memory_value.Value) (old now named mid : Builder) (done : List Register) (lowered : memory_lowered.Lowered) → rest ≡ first ∷ others
      → Passes source scope values rest old now done → ValueLowers source scope N.Kept first named mid lowered → IsScalar lowered
  passes_kind values rest first others old now named mid done lowered is passes code =
      let scalar = passes_scalar values rest first others old now done is passes in
      form_scalar (types_of_source source) lowered scalar.0 scalar.2 (lowered_form first scalar.0 named mid lowered scalar.1 code)

  -- one more argument: its register is named, and its value comes there
  pub passes_more : (values rest : List memory_value.Value) (first : memory_value.Value) (others : List memory_value.Value) (old now named mid new : Builder) (done more : List Register) (register : Register) (lowered : memory_lowered.Lowered)
      → rest ≡ first ∷ others → Passes source scope values rest old now done
      → register ≡ R.Argument now.counts.arguments → ((any : Interned) → spot_of any named ≡ with_argument (spot_of any now)) → named.points.items ≡ now.points.items → Adds now named 1
      → ValueLowers source scope N.Kept first named mid lowered → Grows named mid → AddsFewer named mid (names_for (value_nodes (value_in (types_of_source source) first)))
      → Leads (λ any points. Writes points register (lowered_in any lowered)) mid new → Grows mid new → Adds mid new 0
      → more ≡ done ++ register ∷ [] → Passes source scope values others old new more
  passes_more values rest first others old now named mid new done more register lowered is passes at spot same one code grows adds writes write_grows write_adds is_more =
      let before = passes.adds in
      let nodes = ap (λ rest. values_nodes (values_in (types_of_source source) rest)) is in
      let typed = subst (ValuesTyped source scope) is passes.typed in
      let parts = types_parts first others typed.c_types typed.typed in
      let scalars = subst (λ rest. (c_types : CTypes) → types_of (context_in source scope) (values_in (types_of_source source) rest) ≡ Some c_types → all_scalar c_types ≡ true) is passes.scalars in
      let lives = subst (λ rest. LieInMemory (scope_of source scope) (λ number. takes_any number (values_in (types_of_source source) rest))) is passes.lives in
      record {
        typed = record { stand = typed.stand.1; c_types = parts.rest; typed = parts.right };
        scalars = λ types told.
            (and_parts (is_scalar parts.t) (all_scalar types) (scalars (MoreTypes parts.t types) (both parts.t types parts.left told))).1;
        lives = λ number home there taken. lives number home there (either_right (takes false number (value_in (types_of_source source) first)) (takes_any number (values_in (types_of_source source) others)) taken);
        code = λ points fills to registers behind. all_code points fills to registers behind;
        grows = grows_on old named new (grows_on old now named passes.grows (grows_equal now named same)) (grows_on named mid new grows write_grows);
        adds = omega (arith, before, nodes, one, adds, write_adds);
      }
    where
      both : (t : CType) (types : CTypes) → type_of (context_in source scope) (value_in (types_of_source source) first) ≡ Some t → types_of (context_in source scope) (values_in (types_of_source source) others) ≡ Some types
          → types_of (context_in source scope) (values_in (types_of_source source) (first ∷ others)) ≡ Some (MoreTypes t types)
      both t types left right = λ i. given_two (left i) (right i) (λ t types. Some (MoreTypes t types))

      all_code : (points : List Op) → Fills (points_in (types_of_source source) new) points → (to : Spot) (registers : List Register)
          → ArgumentsCode (program_in source) points (scope_of source scope) (values_in (types_of_source source) others) (spot_of (types_of_source source) new) to registers
          → ArgumentsCode (program_in source) points (scope_of source scope) (values_in (types_of_source source) values) (spot_of (types_of_source source) old) to (more ++ registers)
      all_code points fills to registers behind =
          let any = types_of_source source in
          let fills_mid = fills_grown any mid new points write_grows fills in
          let fills_now = fills_equal any now named points same (fills_grown any named mid points grows fills_mid) in
          let first_code = subst (λ from. ValueCode (program_in source) points (scope_of source scope) Kept (value_in any first) from (spot_of any mid) (lowered_in any lowered)) (spot any) (code.0 points fills_mid) in
          let written = subst (λ register. Writes points register (lowered_in any lowered) (spot_of any mid) (spot_of any new)) at (writes any points fills) in
          let here : ArgumentsCode (program_in source) points (scope_of source scope) (values_in any (first ∷ others)) (spot_of any now) to (R.Argument now.counts.arguments ∷ registers) =
          (spot_of any mid, spot_of any new, lowered_in any lowered, registers, first_code, written, behind, refl) in
          let there = passes.code points fills_now to (R.Argument now.counts.arguments ∷ registers)
          (subst (λ rest. ArgumentsCode (program_in source) points (scope_of source scope) (values_in any rest) (spot_of any now) to (R.Argument now.counts.arguments ∷ registers)) (sym is) here) in
          let list : done ++ R.Argument now.counts.arguments ∷ registers ≡ more ++ registers =
          ap (λ register. done ++ register ∷ registers) (sym at) ∙ (sym (append_assoc done (register ∷ []) registers) ∙ ap (λ done. done ++ registers) (sym is_more)) in
          subst (λ registers. ArgumentsCode (program_in source) points (scope_of source scope) (values_in any values) (spot_of any old) to registers) list there

  -- at the end
  pub passes_all : (values rest : List memory_value.Value) (old now : Builder) (done : List Register) → rest ≡ [] → Passes source scope values rest old now done → ArgumentsLower source scope values old now done
  passes_all values rest old now done is passes = λ points fills.
      let any = types_of_source source in
      subst (λ registers. ArgumentsCode (program_in source) points (scope_of source scope) (values_in any values) (spot_of any old) (spot_of any now) registers) (append-nil done)
      (passes.code points fills (spot_of any now) []
      (subst (λ rest. ArgumentsCode (program_in source) points (scope_of source scope) (values_in any rest) (spot_of any now) (spot_of any now) []) (sym is) (refl, refl)))

  pub passes_adds : (values rest : List memory_value.Value) (old now : Builder) (done : List Register) → rest ≡ [] → Passes source scope values rest old now done → Adds old now (names_for (values_nodes (values_in (types_of_source source) values)))
  passes_adds values rest old now done is passes =
      let adds = passes.adds in
      let nodes = ap (λ rest. values_nodes (values_in (types_of_source source) rest)) is in
      omega (arith, adds, nodes)

  -- ---- library functions

  argument_taken : (function : LibraryFunction) (lowered : memory_lowered.Lowered) (t c_type : CType) → library_result function (MoreTypes t NoTypes) ≡ Some c_type → HasForm Kept (lowered_in (types_of_source source) lowered) t → LibraryTakes function lowered
  argument_taken F.Malloc lowered t c_type typed form =
      let same = same_type-true (Integer I.ULong) t (and_parts (same_type (Integer I.ULong) t) (same_types NoTypes NoTypes) (held_parts (same_types (MoreTypes (Integer I.ULong) NoTypes) (MoreTypes t NoTypes)) (Pointer Void) c_type typed).0).0 in
      form_integer (types_of_source source) lowered t (ap is_integer (sym same)) form
  argument_taken F.Free lowered t c_type typed form = form_free (types_of_source source) lowered t (held_parts (is_object_pointer t) Void c_type typed).0 form
  argument_taken F.GetChar lowered t c_type typed form = absurd (none-some c_type typed)
  argument_taken F.PutChar lowered t c_type typed form =
      let same = same_type-true int t (and_parts (same_type int t) (same_types NoTypes NoTypes) (held_parts (same_types (MoreTypes int NoTypes) (MoreTypes t NoTypes)) int c_type typed).0).0 in
      form_integer (types_of_source source) lowered t (ap is_integer (sym same)) form
  argument_taken F.Exit lowered t c_type typed form =
      let same = same_type-true int t (and_parts (same_type int t) (same_types NoTypes NoTypes) (held_parts (same_types (MoreTypes int NoTypes) (MoreTypes t NoTypes)) Void c_type typed).0).0 in
      form_integer (types_of_source source) lowered t (ap is_integer (sym same)) form

  -- no library function takes more
  pub too_many : (function : LibraryFunction) (t u : CType) (types : CTypes) (c_type : CType) → library_result function (MoreTypes t (MoreTypes u types)) ≡ Some c_type → ⊥
  too_many F.Malloc t u types c_type typed =
      false≢true (and_parts (same_type (Integer I.ULong) t) (same_types NoTypes (MoreTypes u types)) (held_parts (same_types (MoreTypes (Integer I.ULong) NoTypes) (MoreTypes t (MoreTypes u types))) (Pointer Void) c_type typed).0).1
  too_many F.Free t u types c_type typed = none-some c_type typed
  too_many F.GetChar t u types c_type typed = none-some c_type typed
  too_many F.PutChar t u types c_type typed =
      false≢true (and_parts (same_type int t) (same_types NoTypes (MoreTypes u types)) (held_parts (same_types (MoreTypes int NoTypes) (MoreTypes t (MoreTypes u types))) int c_type typed).0).1
  too_many F.Exit t u types c_type typed =
      false≢true (and_parts (same_type int t) (same_types NoTypes (MoreTypes u types)) (held_parts (same_types (MoreTypes int NoTypes) (MoreTypes t (MoreTypes u types))) Void c_type typed).0).1

  few_parts : (function : LibraryFunction) (first second : memory_value.Value) (others : List memory_value.Value) (types : CTypes) (c_type : CType) → types_of (context_in source scope) (values_in (types_of_source source) (first ∷ second ∷ others)) ≡ Some types
      → library_result function types ≡ Some c_type → ⊥
  few_parts function first second others types c_type told typed =
      let one = types_parts first (second ∷ others) types told in
      let two = types_parts second others one.rest one.right in
      let same : types ≡ MoreTypes one.t (MoreTypes two.t two.rest) = sym one.is ∙ ap (MoreTypes one.t) (sym two.is) in
      too_many function one.t two.t two.rest c_type (subst (λ types. library_result function types ≡ Some c_type) same typed)

  pub library_few : (function : LibraryFunction) (values : List memory_value.Value) (first second : memory_value.Value) (others : List memory_value.Value) → values ≡ first ∷ second ∷ others → LibraryTyped source scope function values → ⊥
  library_few function values first second others is typed =
      let call = subst (λ values. LibraryTyped source scope function values) is typed in
      let known = given_parts (types_of (context_in source scope) (values_in (types_of_source source) (first ∷ second ∷ others))) (library_result function) call.c_type call.typed in
      few_parts function first second others known.0 call.c_type known.1 known.2

  pub library_typed : (function : LibraryFunction) (values : List memory_value.Value) (first : memory_value.Value) → values ≡ first ∷ [] → LibraryTyped source scope function values → ValueTyped source scope first
  library_typed function values first is typed =
      let call = subst (λ values. LibraryTyped source scope function values) is typed in
      let known = given_parts (types_of (context_in source scope) (values_in (types_of_source source) (first ∷ []))) (library_result function) call.c_type call.typed in
      first_typed first [] (record { stand = call.stand; c_types = known.0; typed = known.1 })

  pub library_lives : (values : List memory_value.Value) (first : memory_value.Value) → values ≡ first ∷ [] → LieInMemory (scope_of source scope) (λ number. takes_any number (values_in (types_of_source source) values))
      → ValueLives (scope_of source scope) Kept (value_in (types_of_source source) first)
  library_lives values first is lives = first_lives first [] (subst (λ values. LieInMemory (scope_of source scope) (λ number. takes_any number (values_in (types_of_source source) values))) is lives)

  pub library_room : (values : List memory_value.Value) (first : memory_value.Value) (old named : Builder) → values ≡ first ∷ [] → HasRoom old (suc (names_for (values_nodes (values_in (types_of_source source) values)))) → Adds old named 1
      → HasRoom named (names_for (value_nodes (value_in (types_of_source source) first)))
  library_room values first old named is room one =
      let same = ap (λ rest. values_nodes (values_in (types_of_source source) rest)) is in
      omega (arith, same, room, one)

  pub library_adds : (values : List memory_value.Value) (first : memory_value.Value) (old named mid new : Builder) → values ≡ first ∷ [] → Adds old named 1 → AddsFewer named mid (names_for (value_nodes (value_in (types_of_source source) first))) → Adds mid new 0
      → Adds old new (suc (names_for (values_nodes (values_in (types_of_source source) values))))
  library_adds values first old named mid new is one adds none =
      let same = ap (λ rest. values_nodes (values_in (types_of_source source) rest)) is in
      omega (arith, same, one, adds, none)

  pub library_takes : (function : LibraryFunction) (values : List memory_value.Value) (first : memory_value.Value) (old new : Builder) (lowered : memory_lowered.Lowered) → values ≡ first ∷ [] → LibraryTyped source scope function values
      → ValueLowers source scope N.Kept first old new lowered → LibraryTakes function lowered
  library_takes function values first old new lowered is typed code =
      let call = subst (λ values. LibraryTyped source scope function values) is typed in
      let known = given_parts (types_of (context_in source scope) (values_in (types_of_source source) (first ∷ []))) (library_result function) call.c_type call.typed in
      let one = types_parts first [] known.0 known.1 in
      let types : known.0 ≡ MoreTypes one.t NoTypes = sym one.is ∙ ap (MoreTypes one.t) (sym (same_Some NoTypes one.rest one.right)) in
      argument_taken function lowered one.t call.c_type (subst (λ types. library_result function types ≡ Some call.c_type) types known.2) (lowered_form first one.t old new lowered one.left code)

  library_points : (function : LibraryFunction) (value : T.Value) (points : List Op) (from mid to : Spot) (site : ℕ) (given lowered : Lowered) → site ≡ from.counts.calls
      → ValueCode (program_in source) points (scope_of source scope) Kept value (with_call from) mid given → LibraryGives function site points given mid to lowered
      → LibraryCode (program_in source) points (scope_of source scope) function (T.MoreValues value T.NoValues) from to lowered
  library_points F.Malloc value points from mid to site (AsInteger own tree) lowered at code gives =
      (mid, own, tree, code, subst (λ site. Emits points (C.Allocate site tree) mid to) at gives.0, gives.1 ∙ ap (λ site. AsPointer (R.Call site) Void) at)
  library_points F.Malloc value points from mid to site _ lowered at code gives = absurd gives
  library_points F.Free value points from mid to site (AsPointer register own) lowered at code gives =
      (mid, own, register, code, subst (λ site. Emits points (C.Free site register) mid to) at gives.0, gives.1)
  library_points F.Free value points from mid to site _ lowered at code gives = absurd gives
  library_points F.GetChar value points from mid to site given lowered at code gives = absurd gives
  library_points F.PutChar value points from mid to site (AsInteger own tree) lowered at code gives =
      (mid, own, tree, code, subst (λ site. Emits points (C.PutChar site tree) mid to) at gives.0, gives.1 ∙ ap (λ site. AsInteger I.Int (Held (R.Call site))) at)
  library_points F.PutChar value points from mid to site _ lowered at code gives = absurd gives
  library_points F.Exit value points from mid to site (AsInteger own tree) lowered at code gives = (mid, own, tree, code, gives.0, gives.1)
  library_points F.Exit value points from mid to site _ lowered at code gives = absurd gives

  library_holds : (function : LibraryFunction) (given lowered : memory_lowered.Lowered) (site : ℕ) (mid new : Builder) → LibraryTakes function given → Lowers (λ any points. LibraryGives function site points (lowered_in any given)) mid new lowered
      → LoweredHolds (types_of_source source) lowered
  library_holds F.Malloc (L.Integer own tree) lowered site mid new takes told =
      holds_pointer lowered (record { 0 = 0 }) (λ any. R.Call site)
      (λ any. (told any (points_in any new) (fills_same (points_in any new))).1 ∙ sym (ap (AsPointer (R.Call site)) (void_stands any (record { 0 = 0 }) refl).1)) (types_of_source source) (void_stands (types_of_source source) (record { 0 = 0 }) refl).0
  library_holds F.Malloc _ lowered site mid new takes told = absurd takes
  library_holds F.Free (L.Pointer register own) lowered site mid new takes told =
      let any = types_of_source source in holds_nothing any lowered (told any (points_in any new) (fills_same (points_in any new))).1
  library_holds F.Free _ lowered site mid new takes told = absurd takes
  library_holds F.GetChar given lowered site mid new takes told = absurd takes
  library_holds F.PutChar (L.Integer own tree) lowered site mid new takes told =
      let any = types_of_source source in holds_integer any lowered I.Int (Held (R.Call site)) (told any (points_in any new) (fills_same (points_in any new))).1
  library_holds F.PutChar _ lowered site mid new takes told = absurd takes
  library_holds F.Exit (L.Integer own tree) lowered site mid new takes told =
      let any = types_of_source source in holds_nothing any lowered (told any (points_in any new) (fills_same (points_in any new))).1
  library_holds F.Exit _ lowered site mid new takes told = absurd takes

  pub library_code : (function : LibraryFunction) (values : List memory_value.Value) (first : memory_value.Value) (old named mid new : Builder) (site : ℕ) (given lowered : memory_lowered.Lowered) → values ≡ first ∷ []
      → site ≡ old.counts.calls → ((any : Interned) → spot_of any named ≡ with_call (spot_of any old)) → ValueLowers source scope N.Kept first named mid given → LibraryTakes function given
      → Lowers (λ any points. LibraryGives function site points (lowered_in any given)) mid new lowered → Grows mid new → LibraryLowers source scope function values old new lowered
  library_code function values first old named mid new site given lowered is at spot code takes told grows =
      subst (λ values. LibraryLowers source scope function values old new lowered) (sym is) (
        (λ points fills.
            let any = types_of_source source in
            let fills_mid = fills_grown any mid new points grows fills in
            library_points function (value_in any first) points (spot_of any old) (spot_of any mid) (spot_of any new) site (lowered_in any given) (lowered_in any lowered) at
            (subst (λ from. ValueCode (program_in source) points (scope_of source scope) Kept (value_in any first) from (spot_of any mid) (lowered_in any given)) (spot any) (code.0 points fills_mid))
            (told any points fills)),
        library_holds function given lowered site mid new takes told,
      )

  is_getchar : (function : LibraryFunction) (c_type : CType) → library_result function NoTypes ≡ Some c_type → function ≡ F.GetChar
  is_getchar F.Malloc c_type typed = absurd (none-some c_type typed)
  is_getchar F.Free c_type typed = absurd (none-some c_type typed)
  is_getchar F.GetChar c_type typed = refl
  is_getchar F.PutChar c_type typed = absurd (none-some c_type typed)
  is_getchar F.Exit c_type typed = absurd (none-some c_type typed)

  pub getchar_code : (function : LibraryFunction) (values : List memory_value.Value) (old named new : Builder) (site : ℕ) (lowered : memory_lowered.Lowered) → values ≡ [] → LibraryTyped source scope function values
      → site ≡ old.counts.calls → ((any : Interned) → spot_of any named ≡ with_call (spot_of any old))
      → Lowers (λ any points start end lowered. Emits points (C.GetChar site) start end × (lowered ≡ AsInteger I.Int (Held (R.Call site)))) named new lowered → LibraryLowers source scope function values old new lowered
  getchar_code function values old named new site lowered is typed at spot told =
      let call = subst (λ values. LibraryTyped source scope function values) is typed in
      let same : function ≡ F.GetChar = is_getchar function call.c_type call.typed in
      let any = types_of_source source in
      let code : LibraryLowers source scope F.GetChar [] old new lowered = (
        (λ points fills.
            let emitted = told any points fills in (
              subst (λ site. Emits points (C.GetChar site) (with_call (spot_of any old)) (spot_of any new)) at (subst (λ from. Emits points (C.GetChar site) from (spot_of any new)) (spot any) emitted.0),
              emitted.1 ∙ ap (λ site. AsInteger I.Int (Held (R.Call site))) at,
            )),
        holds_integer any lowered I.Int (Held (R.Call site)) (told any (points_in any new) (fills_same (points_in any new))).1,
      ) in
      subst (λ values. LibraryLowers source scope function values old new lowered) (sym is) (subst (λ function. LibraryLowers source scope function [] old new lowered) (sym same) code)

  pub library_many : (function : LibraryFunction) (values : List memory_value.Value) → 2 ≤ length values → LibraryTyped source scope function values → ⊥
  library_many function [] many typed = omega arith
  library_many function (first ∷ []) many typed = omega arith
  library_many function (first ∷ second ∷ others) many typed = library_few function (first ∷ second ∷ others) first second others refl typed
