-- The types that objects of a program get: those of variables, of locals and of literals, and those to which pointers are converted, which
-- allocations get (a parameter is a scalar). Their sizes are exact (C17 6.2.6.1: none reaches the size at which sizes end; the limits of
-- this project lie far below), and their objects have a byte at least.
use Rattle.std.specs.Prelude.{◌≡◌, Bool, true, false, not, ◌&&◌, ◌||◌, nat_lt, List, [], ◌∷◌, Option, Some, None}
use Rattle.c_typed.specs.Types.{CType, Array, literal_type}
use Rattle.c_typed.specs.Layouts.{StructDef, MemberDef, is_complete, layout_of, greatest}
use Rattle.c_typed.specs.Typed as T
use Rattle.c_typed.specs.Typed.{Value, Object, Designator, Values, Stmt, Block, SwitchItems, LocalDef, ForStart, GlobalDef, LiteralDef, FunctionDef, Program}

-- ---- the types that a program's objects get are among those that are allowed

module _ (allowed : CType → Bool) where
  abbrev mutual
    -- a conversion gives an allocation its type
    pub makes : Value → Bool
    makes (T.Constant int_type z) = true
    makes T.NullPointer = true
    makes (T.Grouped inner) = makes inner
    makes (T.Read place object) = object_makes object
    makes (T.Decay place object) = object_makes object
    makes (T.FunctionValue function) = designator_makes function
    makes (T.Converted int_type value) = makes value
    makes (T.Repointed place target value) = allowed target && makes value
    makes (T.MadeNull target value) = makes value
    makes (T.Tested place value) = makes value
    makes (T.Plus operand) = makes operand
    makes (T.Minus place int_type operand) = makes operand
    makes (T.Complement int_type operand) = makes operand
    makes (T.Not operand) = makes operand
    makes (T.Arithmetic op place int_type left right) = makes left && makes right
    makes (T.Compare relation left right) = makes left && makes right
    makes (T.ComparePointers relation place left right) = makes left && makes right
    makes (T.PointerPlus place pointer number) = makes pointer && makes number
    makes (T.NumberPlus place number pointer) = makes number && makes pointer
    makes (T.PointerMinus place pointer number) = makes pointer && makes number
    makes (T.PointerDifference place left right) = makes left && makes right
    makes (T.And left right) = makes left && makes right
    makes (T.Or left right) = makes left && makes right
    makes (T.Conditional condition taken otherwise) = makes condition && makes taken && makes otherwise
    makes (T.AddressOf place object) = object_makes object
    makes (T.AddressOfFunction function) = designator_makes function
    makes (T.Cast value) = makes value
    makes (T.CastVoid value) = makes value
    makes (T.Assign place object value) = object_makes object && makes value
    makes (T.AssignArithmetic op place object_type int_type object value) = object_makes object && makes value
    makes (T.AssignMoved is_minus place object number) = object_makes object && makes number
    makes (T.StepInteger stepping place int_type object) = object_makes object
    makes (T.StepPointer stepping place object) = object_makes object
    makes (T.Call is_used place function c_type arguments) = designator_makes function && all_make arguments
    makes (T.LibraryCall function groups place arguments) = all_make arguments

    pub all_make : Values → Bool
    all_make T.NoValues = true
    all_make (T.MoreValues first others) = makes first && all_make others

    pub object_makes : Object → Bool
    object_makes (T.Local number) = true
    object_makes (T.Global name) = true
    object_makes (T.Literal place bytes) = true
    object_makes (T.GroupedObject place inner) = object_makes inner
    object_makes (T.Pointed place pointer) = makes pointer
    object_makes (T.Element place pointer number) = makes pointer && makes number
    object_makes (T.ElementOf place number pointer) = makes number && makes pointer
    object_makes (T.MemberOf place object number) = object_makes object
    object_makes (T.PointedMember place pointer number) = makes pointer

    pub designator_makes : Designator → Bool
    designator_makes (T.Function name) = true
    designator_makes (T.GroupedFunction inner) = designator_makes inner
    designator_makes (T.PointedFunction place pointer) = makes pointer
    designator_makes (T.ThroughPointer place pointer) = makes pointer

  abbrev pub any_makes : Option Value → Bool
  any_makes None = true
  any_makes (Some value) = makes value

  abbrev pub local_makes : LocalDef → Bool
  local_makes local = allowed local.c_type && any_makes local.first

  abbrev pub locals_make : List LocalDef → Bool
  locals_make [] = true
  locals_make (first ∷ others) = local_makes first && locals_make others

  abbrev pub start_makes : ForStart → Bool
  start_makes T.StartNothing = true
  start_makes (T.StartValue value) = makes value
  start_makes (T.StartLocals locals) = locals_make locals

  abbrev mutual
    pub stmt_makes : Stmt → Bool
    stmt_makes (T.BlockStmt items) = block_makes items
    stmt_makes T.Empty = true
    stmt_makes (T.Expression value) = makes value
    stmt_makes (T.If condition taken) = makes condition && stmt_makes taken
    stmt_makes (T.IfElse condition taken otherwise) = makes condition && stmt_makes taken && stmt_makes otherwise
    stmt_makes (T.While condition body) = makes condition && stmt_makes body
    stmt_makes (T.DoWhile body condition) = stmt_makes body && makes condition
    stmt_makes (T.For start condition step body) = start_makes start && any_makes condition && any_makes step && stmt_makes body
    stmt_makes (T.Switch value items) = makes value && items_make items
    stmt_makes T.Break = true
    stmt_makes T.Continue = true
    stmt_makes (T.Return value) = any_makes value

    pub block_makes : Block → Bool
    block_makes T.Close = true
    block_makes (T.Declare local others) = local_makes local && block_makes others
    block_makes (T.Perform stmt others) = stmt_makes stmt && block_makes others

    pub items_make : SwitchItems → Bool
    items_make T.SwitchEnd = true
    items_make (T.Case label others) = items_make others
    items_make (T.Default others) = items_make others
    items_make (T.SwitchStmt stmt others) = stmt_makes stmt && items_make others

  abbrev pub functions_make : List FunctionDef → Bool
  functions_make [] = true
  functions_make (first ∷ others) = block_makes first.body && functions_make others

  abbrev pub globals_make : List GlobalDef → Bool
  globals_make [] = true
  globals_make (first ∷ others) = allowed first.c_type && globals_make others

  abbrev pub literals_make : List LiteralDef → Bool
  literals_make [] = true
  literals_make (first ∷ others) = allowed (literal_type first.bytes) && literals_make others

  abbrev pub program_makes : Program → Bool
  program_makes program = globals_make program.globals && literals_make program.literals && functions_make program.functions

-- ---- exact sizes

abbrev pub is_small : List StructDef → CType → Bool
is_small structs c_type = nat_lt (layout_of structs c_type).size greatest

abbrev pub HasSmallTypes : Program → Type 0
HasSmallTypes program = program_makes (is_small program.structs) program ≡ true

-- ---- at least a byte: no array is without elements (C17 6.7.6.2 paragraph 1), and no structure without members (C17 6.7.2.1 paragraph 8;
-- it has a member that is named)

-- a complete type, whose arrays have an element each
abbrev pub is_filled : List StructDef → CType → Bool
is_filled structs (Array element n) = nat_lt 0 n && is_filled structs element
is_filled structs c_type = is_complete structs c_type

abbrev pub is_known_filled : List StructDef → Option CType → Bool
is_known_filled structs (Some c_type) = is_filled structs c_type
is_known_filled structs None = false

abbrev pub all_filled : List StructDef → List MemberDef → Bool
all_filled structs [] = true
all_filled structs (member ∷ members) = is_known_filled structs member.c_type && all_filled structs members

abbrev pub has_some : List MemberDef → Bool
has_some [] = false
has_some (member ∷ members) = true

-- each has a member, and its members are filled by older structures
abbrev pub are_filled : List StructDef → Bool
are_filled [] = true
are_filled (newest ∷ older) = (has_some newest.members && all_filled older newest.members) && are_filled older

-- where a type is complete, it is filled; no object gets another
abbrev pub fills : List StructDef → CType → Bool
fills structs c_type = not (is_complete structs c_type) || is_filled structs c_type

abbrev pub IsFilled : Program → Type 0
IsFilled program = (are_filled program.structs ≡ true) × (program_makes (fills program.structs) program ≡ true)

-- ---- both

abbrev pub is_storable : List StructDef → CType → Bool
is_storable structs c_type = is_small structs c_type && fills structs c_type

abbrev pub HasStorableTypes : Program → Type 0
HasStorableTypes program = (are_filled program.structs ≡ true) × (program_makes (is_storable program.structs) program ≡ true)
