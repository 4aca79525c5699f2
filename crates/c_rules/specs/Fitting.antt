-- What the rules know at a place of the text fits what surrounds the typed tree.
use Rattle.std.specs.Prelude.{◌≡◌, ℕ, ◌≤◌, true, false, ◌||◌, List, [], ◌∷◌, slice_get, Some, None, is_some, ◌⊎◌}
use Rattle.c_typed.specs.declared.part.Part.{Part}
use Rattle.c_typed.specs.Names.{contains}
use Rattle.c_typed.specs.Types.{CType, Pointer, Function, is_integer, is_void, is_void_pointer, is_function, is_function_pointer, is_like_void}
use Rattle.c_typed.specs.Layouts.{StructDef, MemberDef, is_complete, members_by_tag, member_type}
use Rattle.c_typed.specs.Values.{Static}
use Rattle.c_typed.specs.Typed.{LiteralDef, Program}
use Rattle.c_rules.specs.Names.{Scope, FileName, LocalName, file_name, locals_in}
use Rattle.c_rules.specs.Known.{Checked, Known, TypedExpr, OfValue, OfObject, OfFunction, OfLibrary, Address, FunctionAddress, Element}
use Rattle.c_typed.specs.Context.{Context, global_type, function_type, literal_bytes}
use Rattle.c_typed.specs.Expressions.{given, is_scalar, is_conversion, type_of, type_of_object, type_of_designator}
use Rattle.c_typed.specs.Programs.{one_of, row_at, static_type}
use Rattle.c_rules.specs.Proper.{is_proper}

-- ---- names

-- each local in scope has its type, which is complete
abbrev pub LocalsFit : List StructDef → List LocalName → List CType → Type 0
LocalsFit structs [] [] = Unit {0}
LocalsFit structs (newest ∷ others) (c_type ∷ types) =
    (newest.c_type ≡ Some c_type) × (is_complete structs c_type ≡ true) × (is_proper c_type ≡ true) × LocalsFit structs others types
LocalsFit structs _ _ = ⊥

-- a name outside functions is that of a function of its type, if it is defined, or of a variable of its type
abbrev pub OuterFits : List (List ℕ) → Program → List ℕ → CType → Type 0
OuterFits defined program name (Function result parameters) = contains defined name ≡ true → function_type program.functions name ≡ Some (Function result parameters)
OuterFits defined program name c_type = (global_type program.globals name ≡ Some c_type) × (is_complete program.structs c_type ≡ true)

pub record Fits (scope : Scope) (around : Context) : Type 0 where
  -- what is completed stays so
  pub structs : (tag : List ℕ) (members : List MemberDef) → members_by_tag scope.structs tag ≡ Some members → members_by_tag around.program.structs tag ≡ Some members
  pub completed : scope.completed ≡ around.program.completed
  -- what is never completed has no members
  pub never : (tag : List ℕ) → contains scope.completed tag ≡ false → members_by_tag around.program.structs tag ≡ None
  pub members : (tag : List ℕ) (members : List MemberDef) (number : ℕ) (c_type : CType) → members_by_tag around.program.structs tag ≡ Some members
      → member_type (slice_get members number) ≡ Some c_type → (is_complete around.program.structs c_type ≡ true) × (is_proper c_type ≡ true)
  -- each member has a type
  pub typed_members : (tag : List ℕ) (members : List MemberDef) (number : ℕ) (member : MemberDef) → members_by_tag scope.structs tag ≡ Some members
      → slice_get members number ≡ Some member → is_some member.c_type ≡ true
  pub locals : LocalsFit around.program.structs (locals_in scope) around.locals
  pub outer : (name : List ℕ) (entry : FileName) (c_type : CType) → file_name scope.file name ≡ Some entry → entry.c_type ≡ Some c_type
      → OuterFits scope.defined around.program name c_type × (is_proper c_type ≡ true)
  -- each name outside functions has a type
  pub known : (name : List ℕ) (entry : FileName) → file_name scope.file name ≡ Some entry → is_some entry.c_type ≡ true

-- ---- literals

-- each of these literals is found at its place
abbrev pub AreListed : List LiteralDef → List LiteralDef → Type 0
AreListed all [] = Unit {0}
AreListed all (first ∷ others) = (literal_bytes all first.place ≡ Some first.bytes) × AreListed all others

-- ---- what the rules find

-- where nothing is violated, something of that kind is known
abbrev pub Yields : {A : Type 0} → (A → Type 0) → Checked A → Type 0
Yields {A} kind checked = checked.found ≡ [] → (a : A) × (checked.known ≡ Some a) × kind a

-- ---- expressions

-- A library function's name is none: it is looked at where it is called.
abbrev pub TypedFits : Context → CType → TypedExpr → Type 0
TypedFits around c_type (OfValue value) = (type_of around value ≡ Some c_type) × (is_conversion value ≡ false) × ((is_scalar c_type || is_void c_type) ≡ true)
TypedFits around c_type (OfObject object) = (type_of_object around object ≡ Some c_type) × (is_complete around.program.structs c_type ≡ true)
TypedFits around c_type (OfFunction function) = (type_of_designator around function ≡ Some c_type) × (is_function c_type ≡ true)
TypedFits around c_type (OfLibrary function groups) = ⊥

-- the row to which steps lead, and an index in it or at its end
pub record IsRow (program : Program) (root : Static) (steps : List Part) (element : CType) (count index : ℕ) : Type 0 where
  pub row : given (static_type program root) (λ c_type. row_at program.structs (one_of c_type) steps) ≡ Some (record { element = element; count = count })
  pub within : index ≤ count

-- An object of this type stands in such a row; a pointer of this type, unless what it points to is like void, points into one.
abbrev pub StandsIn : List (List ℕ) → CType → TypedExpr → CType → Type 0
StandsIn completed c_type (OfObject object) element = c_type ≡ element
StandsIn completed (Pointer target) (OfValue value) element = (is_function target ≡ false) × ((is_like_void completed target ≡ true) ⊎ (target ≡ element))
StandsIn completed c_type typed element = ⊥

abbrev pub IsNoObject : TypedExpr → Type 0
IsNoObject (OfObject object) = ⊥
IsNoObject _ = Unit {0}

-- an address that is known before the program runs
abbrev pub AddressFits : Program → CType → TypedExpr → Address → Type 0
AddressFits program c_type typed (FunctionAddress name) = (is_some (function_type program.functions name) ≡ true) × ((is_function c_type || is_function_pointer c_type) ≡ true) × IsNoObject typed
AddressFits program c_type typed (Element root steps element count index) = IsRow program root steps element count index × StandsIn program.completed c_type typed element
AddressFits program c_type typed _ = Unit {0}

abbrev pub IsOfValue : TypedExpr → Type 0
IsOfValue (OfValue value) = Unit {0}
IsOfValue _ = ⊥

-- what is known of an expression of a text without violations
pub record KnownFits (around : Context) (known : Known) : Type 0 where
  pub typed : TypedFits around known.c_type known.typed
  pub proper : is_proper known.c_type ≡ true
  -- a null pointer constant is an integer or a pointer to void
  pub null : known.is_null ≡ true → ((is_integer known.c_type || is_void_pointer known.c_type) ≡ true) × IsOfValue known.typed
  pub address : AddressFits around.program known.c_type known.typed known.address

-- the same of a value
pub record ValueFits (around : Context) (known : Known) : Type 0 where
  pub known_fits : KnownFits around known
  pub value : IsOfValue known.typed
