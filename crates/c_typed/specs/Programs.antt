-- Well typed first values and programs (C17 6.7.9, 6.9).
use Rattle.std.specs.Prelude.{◌≡◌, ℕ, Bool, true, false, not, ◌&&◌, ◌||◌, nat_lt, nat_le, if◌then◌else◌, List, [], ◌∷◌, slice_get, Option, Some, None, is_some, codes}
use Rattle.c_num.specs.Types.{is_value}
use Rattle.c_typed.specs.declared.part.Part.{Part}
use Rattle.c_typed.specs.declared.part.Part.TheVariants as P
use Rattle.c_typed.specs.Names.{contains}
use Rattle.c_typed.specs.Types.{CType, CTypes, Integer, Pointer, Array, Struct, Function, NoTypes, MoreTypes, int, literal_type, same_type, is_void, is_function, is_like_void}
use Rattle.c_typed.specs.Layouts.{StructDef, MemberDef, is_complete, members_by_tag, known_members, member_type, has_members}
use Rattle.c_typed.specs.Inside.{is_sized}
use Rattle.c_typed.specs.Values.{Static, StaticVariable, StaticLiteral, FirstPlace, FirstScalar, IntegerValue, NullValue, FunctionValue, PointerValue, Held}
use Rattle.c_typed.specs.Typed.{GlobalDef, FunctionDef, Program}
use Rattle.c_typed.specs.Context.{global_type, function_type, literal_bytes}
use Rattle.c_typed.specs.Expressions.{given, is_scalar}
use Rattle.c_typed.specs.Statements.{is_block}

-- ---- structures (C17 6.7.2.1 paragraph 3)

-- each member is complete by the older structures, and so are the elements of its arrays
abbrev pub are_members : List StructDef → List MemberDef → Bool
are_members older [] = true
are_members older (first ∷ others) = is_member first.c_type && are_members older others
  where
    is_member : Option CType → Bool
    is_member (Some c_type) = is_sized older c_type
    is_member None = false

-- the newest first, each with a tag of its own
abbrev pub are_structs : List StructDef → Bool
are_structs [] = true
are_structs (newest ∷ older) = not (has_members (members_by_tag older newest.tag)) && are_members older newest.members && are_structs older

-- the tags that are completed are theirs
abbrev pub all_complete : List StructDef → List (List ℕ) → Bool
all_complete structs [] = true
all_complete structs (tag ∷ others) = has_members (members_by_tag structs tag) && all_complete structs others

abbrev pub all_listed : List (List ℕ) → List StructDef → Bool
all_listed completed [] = true
all_listed completed (first ∷ others) = contains completed first.tag && all_listed completed others

-- ---- first values

-- a row of so many elements of a type
pub record RowType : Type 0 where
  pub element : CType
  pub count : ℕ

abbrev pub one_of : CType → RowType
one_of c_type = record { element = c_type; count = 1 }

-- the row to which a step leads from an element of a row
abbrev pub row_within : List StructDef → RowType → Part → Option RowType
row_within structs row (P.Member index number) = if nat_lt index row.count then given (member row.element) (λ c_type. Some (one_of c_type)) else None
  where
    member : CType → Option CType
    member (Struct tag) = member_type (slice_get (known_members (members_by_tag structs tag)) number)
    member _ = None
row_within structs row (P.Elements index) = if nat_lt index row.count then elements row.element else None
  where
    elements : CType → Option RowType
    elements (Array element n) = Some (record { element = element; count = n })
    elements _ = None

abbrev pub row_at : List StructDef → RowType → List Part → Option RowType
row_at structs row [] = Some row
row_at structs row (step ∷ steps) = given (row_within structs row step) (λ inner. row_at structs inner steps)

abbrev pub static_type : Program → Static → Option CType
static_type program (StaticVariable name) = global_type program.globals name
static_type program (StaticLiteral place) = given (literal_bytes program.literals place) (λ bytes. Some (literal_type bytes))

-- an element of a row of the target's type, or the row's end; what is like void may point to any
abbrev pub is_place : Program → CType → FirstPlace → Bool
is_place program target place = by (given (static_type program place.root) (λ c_type. row_at program.structs (one_of c_type) place.steps))
  where
    by : Option RowType → Bool
    by None = false
    by (Some row) = nat_le place.index row.count && (is_like_void program.completed target || same_type row.element target)

-- a constant of a scalar type (C17 6.6 paragraphs 7 to 9)
abbrev pub is_first : Program → CType → FirstScalar → Bool
is_first program (Integer int_type) (IntegerValue z) = is_value int_type z
is_first program (Pointer target) NullValue = true
is_first program (Pointer target) (FunctionValue name) = is_function target && is_some (function_type program.functions name)
is_first program (Pointer target) (PointerValue place) = not (is_function target) && is_place program target place
is_first program _ _ = false

-- it stands in a scalar of its type
abbrev pub is_held : Program → CType → Held → Bool
is_held program c_type held = by (row_at program.structs (one_of c_type) held.leaf.steps)
  where
    by : Option RowType → Bool
    by None = false
    by (Some row) = nat_lt held.leaf.index row.count && is_scalar row.element && is_first program row.element held.value

abbrev pub all_held : Program → CType → List Held → Bool
all_held program c_type [] = true
all_held program c_type (first ∷ others) = is_held program c_type first && all_held program c_type others

-- a variable outside functions is complete (C17 6.9.2)
abbrev pub is_global : Program → GlobalDef → Bool
is_global program global = is_complete program.structs global.c_type && all_held program global.c_type global.first

abbrev pub are_globals : Program → List GlobalDef → Bool
are_globals program [] = true
are_globals program (first ∷ others) = is_global program first && are_globals program others

-- ---- functions (C17 6.7.6.3, 6.9.1)

abbrev pub function_of : CType → List CType → CType
function_of result parameters = Function result (all parameters)
  where
    all : List CType → CTypes
    all [] = NoTypes
    all (first ∷ others) = MoreTypes first (all others)

abbrev pub are_scalars : List CType → Bool
are_scalars [] = true
are_scalars (first ∷ others) = is_scalar first && are_scalars others

-- parameters are the first locals, the first of them the oldest
abbrev pub with_parameters : List CType → List CType → List CType
with_parameters [] locals = locals
with_parameters (first ∷ others) locals = with_parameters others (first ∷ locals)

abbrev pub is_function_def : Program → FunctionDef → Bool
is_function_def program function =
    same_type function.c_type (function_of function.result function.parameters)
    && (is_scalar function.result || is_void function.result)
    && are_scalars function.parameters
    && is_block (record { program = program; locals = with_parameters function.parameters [] }) (record { result = function.result; may_break = false; may_continue = false }) function.body

abbrev pub are_functions : Program → List FunctionDef → Bool
are_functions program [] = true
are_functions program (first ∷ others) = is_function_def program first && are_functions program others

-- `main` is `int main(void)` (C17 5.1.2.2.1; it has no other form here)
abbrev pub has_main : Program → Bool
has_main program = by (function_type program.functions (codes "main"))
  where
    by : Option CType → Bool
    by None = false
    by (Some c_type) = same_type c_type (Function int NoTypes)

-- ---- programs

abbrev pub is_well_typed : Program → Bool
is_well_typed program =
    are_structs program.structs && all_complete program.structs program.completed && all_listed program.completed program.structs
    && are_globals program program.globals && are_functions program program.functions && has_main program

abbrev pub IsWellTyped : Program → Type 0
IsWellTyped program = is_well_typed program ≡ true
