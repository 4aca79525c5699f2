-- What checking each part of a text comes to, and what is made of it.
use Rattle.std.specs.Prelude.{◌≡◌, Bool, false, if◌then◌else◌, ℕ, ℤ, List, [], ◌∷◌, ◌++◌, map, Option, Some, None, Vec}
use Rattle.run_theory.specs.declared.place.Pos.{Pos}
use Rattle.c_num.specs.declared.IntType.{IntType}
use Rattle.c_syntax.specs.declared.declaration.Member as text_member
use Rattle.c_syntax.specs.declared.expr.Declarator as text_declarator
use Rattle.c_syntax.specs.declared.expr.Parameter as text_parameter
use Rattle.c_syntax.specs.declared.expr.Parameter.{out-Parameter}
use Rattle.c_syntax.specs.declared.name.Name as text_name
use Rattle.c_syntax.specs.declared.expr.Expr as text_expr
use Rattle.c_syntax.specs.declared.statement.ForFirst as text_first
use Rattle.c_syntax.specs.declared.statement.Stmt as text_stmt
use Rattle.c_syntax.specs.declared.statement.Block as text_block
use Rattle.c_syntax.specs.declared.statement.BlockItem as text_item
use Rattle.c_syntax.specs.declared.statement.SwitchItem as text_switch
use Rattle.c_syntax.specs.Trees
use Rattle.c_syntax.specs.Trees.{NameTree, ExprTree, InitTree, InitsTree, InitDeclaratorTree, DeclarationTree, ForTree, StmtTree, BlockTree, SwitchTree, MemberTree, BaseTree, ItemTree, ParametersTree}
use Rattle.c_syntax.specs.Views.{name_tree, words_tree, optional_of, declarator_tree, value_tree, for_tree, stmt_tree, block_of}
use Rattle.c_typed.specs.declared.c_type.CType as number
use Rattle.c_typed.specs.declared.part.Part.TheVariants as Steps
use Rattle.c_typed.specs.declared.typed.Value as memory_value
use Rattle.c_typed.specs.declared.statement.Stmt as memory_stmt
use Rattle.c_typed.specs.declared.statement.BlockItem as memory_item
use Rattle.c_typed.specs.declared.statement.SwitchItem as memory_switch
use Rattle.c_typed.specs.declared.statement.ForStart as memory_start
use Rattle.c_typed.specs.declared.statement.LocalDef as memory_local
use Rattle.c_typed.specs.declared.definition.First as memory_first
use Rattle.c_typed.specs.declared.structure.Member as memory_member
use Rattle.c_typed.specs.declared.c_type.StructId as tag
use Rattle.c_typed.specs.Types as T
use Rattle.c_typed.specs.Types.{CType}
use Rattle.c_typed.specs.Values.{FirstScalar, NullValue}
use Rattle.c_typed.specs.Typed as typed
use Rattle.c_typed.specs.Typed.{GlobalDef, FunctionDef}
use Rattle.c_typed.specs.Table.{Interned, type_in, tag_in, structs_in, members_of}
use Rattle.c_typed.specs.Views.{value_in}
use Rattle.c_typed.specs.DefinitionViews.{all_first}
use Rattle.c_rules.specs.declared.rule.TypeRule.{TypeRule}
use Rattle.c_rules.specs.declared.violation.Violation.{Violation}
use Rattle.c_rules.specs.Names.{Scope, file_name}
use Rattle.c_rules.specs.Known.{as_value, at}
use Rattle.c_rules.specs.Constants.{address_as}
use Rattle.c_rules.specs.Operators.{as_integer}
use Rattle.c_rules.specs.Expressions as expressions
use Rattle.c_rules.specs.Initializers as initializers
use Rattle.c_rules.specs.Statements as statements
use Rattle.c_rules.specs.Programs as programs
use Rattle.c_rules.specs.Elaborated as elaborated
use Rattle.c_types_state.specs.declared.file_name.FileEntry as memory_file
use Rattle.c_types_state.specs.NameTables.{State, scope_of}
use Rattle.c_types_state.specs.declared.known.Address as memory_address
use Rattle.c_types_state.specs.Finding.{each_in, address_in, noted}
use Rattle.c_types_state.specs.Staying.{IsValue, IsSame}
use Rattle.c_types_state.specs.declared.operands.Operand as memory_operand
use Rattle.c_types_state.specs.Operands.{IsOperand, operand_in}
use Rattle.c_types_expressions.specs.declared.pass.Pass.{Pass}
use Rattle.c_rules.specs.Named.{named_in}
use Rattle.c_types_expressions.specs.Passes.{Passes}
use Rattle.c_types.specs.declared.initializers.Target.{Target}
use Rattle.c_types.specs.declared.labels.Labels.{Labels}
use Rattle.c_types.specs.declared.structures.Members.{Members}
use Rattle.c_types.specs.declared.statements.Around as memory_around
use Rattle.c_types.specs.declared.defined.Defined.{Defined}
use Rattle.c_rules.specs.NamedItems.{named_in_init, named_in_inits, named_in_first, named_in_value, named_in_local, named_in_declaration, named_in_start, named_in_stmt, named_in_block, named_in_switch, named_in_members, named_in_all_members, named_in_base, named_in_file_declarator, named_in_file_declarators, named_in_function, named_in_item}
use Rattle.c_types.specs.Made.{Covers, Makes, Reaches, IsBoth, IsOptionalType, IsOptionalValue, IsStmt, IsBlock, IsSwitchItems, IsStart, IsLocal, IsLocals, IsFirst, IsMembers, AddsItems}
use Rattle.c_types.specs.Parts.{around_in, behind_block, item_found, item_named, item_adds, item_scope, part_found, part_named, part_adds, IsPart, switched_type, switched_value}
use Rattle.c_types.specs.FirstValues.{HoldsFirst, scalar_found, too_many}
use Rattle.c_types.specs.InitialValues.{AddsValues, init_values, inits_values, optional_values, declarator_values, declarators_values, item_values}
use Rattle.c_types.specs.Outside.{HasDefined, defs_in, item_globals, item_functions, row_of, local_type, local_types, AreTypes}

-- ---- values

-- the value of an expression, where it has one
abbrev pub ChecksValue : ExprTree → Pass → Pass → Option memory_operand.Operand → Type 0
ChecksValue tree old new result =
    Passes IsOperand (as_value (expressions.place_of tree) (expressions.expr (scope_of old.checker) tree)) (named_in (scope_of old.checker) tree) old new result

-- the value of an integer constant expression
abbrev pub ChecksConstant : ExprTree → Pass → Pass → Option ℤ → Type 0
ChecksConstant tree old new result =
    Passes IsSame (expressions.as_constant (expressions.place_of tree) (expressions.expr (scope_of old.checker) tree)) (named_in (scope_of old.checker) tree) old new result

-- An expression, by what it violates and by the value that it gives in every case.
abbrev pub MakesValue : (Scope → ExprTree → List Violation) → (Scope → ExprTree → typed.Value) → ExprTree → Pass → Pass → memory_value.Value → Type 0
MakesValue found value tree old new made =
    Makes IsValue (found (scope_of old.checker) tree) (value (scope_of old.checker) tree) (named_in (scope_of old.checker) tree) (scope_of old.checker) old new made

-- the same of one that may be left out
abbrev pub MakesOptional : (Scope → ExprTree → List Violation) → (Scope → ExprTree → typed.Value) → Option ExprTree → Pass → Pass → Option memory_value.Value → Type 0
MakesOptional found value tree old new made =
    Makes IsOptionalValue (statements.optional_rules (found (scope_of old.checker)) tree) (elaborated.mapped (value (scope_of old.checker)) tree) (named_in_value (scope_of old.checker) tree) (scope_of old.checker) old new made

-- one whose value is left unused, and one that is tested
abbrev pub MakesUnused : ExprTree → Pass → Pass → memory_value.Value → Type 0
MakesUnused tree old new made = MakesValue statements.value_rules elaborated.unused tree old new made

abbrev pub MakesOptionalUnused : Option ExprTree → Pass → Pass → Option memory_value.Value → Type 0
MakesOptionalUnused tree old new made = MakesOptional statements.value_rules elaborated.unused tree old new made

abbrev pub MakesTest : ExprTree → Pass → Pass → memory_value.Value → Type 0
MakesTest tree old new made = MakesValue statements.condition_rules elaborated.test_of tree old new made

abbrev pub MakesOptionalTest : Option ExprTree → Pass → Pass → Option memory_value.Value → Type 0
MakesOptionalTest tree old new made = MakesOptional statements.condition_rules elaborated.test_of tree old new made

-- what a `switch` compares, and the type of its labels
abbrev pub MakesSwitched : ExprTree → Pass → Pass → memory_value.Value × Option IntType → Type 0
MakesSwitched tree old new made =
    Makes (IsBoth IsValue IsSame) (as_integer (expressions.place_of tree) (expressions.expr (scope_of old.checker) tree)).found (switched_value (scope_of old.checker) tree, switched_type (scope_of old.checker) tree)
    (named_in (scope_of old.checker) tree) (scope_of old.checker) old new made

-- what `return` gives, where the function's result has this type
abbrev pub MakesReturn : Option number.CType → Pos → Option ExprTree → Pass → Pass → Option memory_value.Value → Type 0
MakesReturn expected place tree old new made =
    Makes IsOptionalValue (statements.return_rules (scope_of old.checker) (each_in type_in old.checker.table expected) place tree)
    (elaborated.mapped (elaborated.value_as (scope_of old.checker) (each_in type_in old.checker.table expected)) tree) (named_in_value (scope_of old.checker) tree) (scope_of old.checker) old new made

abbrev pub MakesReturned : number.CType → Pos → ExprTree → Pass → Pass → memory_value.Value → Type 0
MakesReturned expected place tree old new made =
    Makes IsValue (statements.returned place (type_in old.checker.table expected) (as_value (expressions.place_of tree) (expressions.expr (scope_of old.checker) tree)) (expressions.place_of tree))
    (elaborated.value_as (scope_of old.checker) (Some (type_in old.checker.table expected)) tree) (named_in (scope_of old.checker) tree) (scope_of old.checker) old new made

-- an operand, as a value of a type
abbrev pub IsValueAs : Pos → number.CType → Option memory_operand.Operand → Interned → memory_value.Value → Type 0
IsValueAs place c_type operand table value = IsValue table value (elaborated.known_as place (type_in table c_type) (each_in operand_in table operand))

-- ---- declarations in blocks

abbrev pub CoversDeclaration : DeclarationTree → Pass → Pass → Type 0
CoversDeclaration tree old new =
    Covers (statements.declaration (scope_of old.checker) tree).found (named_in_declaration (scope_of old.checker) tree) (statements.declaration (scope_of old.checker) tree).scope old new

abbrev pub AddsDeclaration : DeclarationTree → Pass → Pass → List memory_item.BlockItem → List memory_item.BlockItem → Type 0
AddsDeclaration tree old new before after = AddsItems (elaborated.declare_each (elaborated.declared_locals (scope_of old.checker) tree)) new.checker.table before after

abbrev pub MakesLocals : {Z : Type 0} → DeclarationTree → Pass → Pass → Vec memory_local.LocalDef Z → Type 0
MakesLocals tree old new made =
    Makes IsLocals (statements.declaration (scope_of old.checker) tree).found (elaborated.declared_locals (scope_of old.checker) tree) (named_in_declaration (scope_of old.checker) tree)
    (statements.declaration (scope_of old.checker) tree).scope old new made

-- one declarator, where the words before it name this type
abbrev pub MakesDeclared : Pos → Option number.CType → InitDeclaratorTree → Pass → Pass → memory_local.LocalDef → Type 0
MakesDeclared place base tree old new made =
    Makes IsLocal (statements.declare_local place (each_in type_in old.checker.table base) tree (scope_of old.checker)).found (elaborated.local_of place (each_in type_in old.checker.table base) tree (scope_of old.checker))
    (named_in_local place (each_in type_in old.checker.table base) tree (scope_of old.checker)) (statements.declare_local place (each_in type_in old.checker.table base) tree (scope_of old.checker)).scope old new made

-- its name
abbrev pub CoversName : Option NameTree → Option number.CType → Pass → Pass → Type 0
CoversName name c_type old new =
    Covers (statements.local_clash (scope_of old.checker) name) [] (statements.with_declared name (each_in type_in old.checker.table c_type) (scope_of old.checker)) old new

-- ---- statements

abbrev pub MakesStmt : memory_around.Around → StmtTree → Pass → Pass → memory_stmt.Stmt → Type 0
MakesStmt around tree old new made =
    Makes IsStmt (statements.stmt (scope_of old.checker) (around_in old.checker.table around) tree) (elaborated.stmt_of (scope_of old.checker) (each_in type_in old.checker.table around.returned) tree)
    (named_in_stmt (scope_of old.checker) tree) (scope_of old.checker) old new made

-- a `for`
abbrev pub MakesFor : memory_around.Around → text_first.ForFirst → Option text_expr.Expr → Option text_expr.Expr → text_stmt.Stmt → Pass → Pass → memory_stmt.Stmt → Type 0
MakesFor around first condition step body old new made = (place : Pos) → MakesStmt around (Trees.For place (for_tree first) (value_tree condition) (value_tree step) (stmt_tree body)) old new made

-- what stands first in it
abbrev pub MakesStart : ForTree → Pass → Pass → memory_start.ForStart → Type 0
MakesStart tree old new made =
    Makes IsStart (statements.for_start (scope_of old.checker) tree).found (elaborated.start_of (scope_of old.checker) tree) (named_in_start (scope_of old.checker) tree) (statements.for_start (scope_of old.checker) tree).scope old new made

-- what stands in a block
abbrev pub MakesBlock : {Z : Type 0} → memory_around.Around → BlockTree → Pass → Pass → Vec memory_item.BlockItem Z → Type 0
MakesBlock around tree old new made =
    Makes IsBlock (statements.block (scope_of old.checker) (around_in old.checker.table around) tree) (elaborated.block_of (scope_of old.checker) (each_in type_in old.checker.table around.returned) tree)
    (named_in_block (scope_of old.checker) tree) (behind_block (scope_of old.checker) tree) old new made

-- one item of it
abbrev pub CoversItem : memory_around.Around → text_item.BlockItem → Pass → Pass → Type 0
CoversItem around item old new =
    Covers (item_found (scope_of old.checker) (around_in old.checker.table around) item) (item_named (scope_of old.checker) item) (item_scope (scope_of old.checker) item) old new

abbrev pub AddsItem : memory_around.Around → text_item.BlockItem → Pass → Pass → List memory_item.BlockItem → List memory_item.BlockItem → Type 0
AddsItem around item old new before after = AddsItems (item_adds (scope_of old.checker) (each_in type_in old.checker.table around.returned) item) new.checker.table before after

-- what stands in a `switch`
abbrev pub MakesSwitch : {Z : Type 0} → memory_around.Around → Option IntType → SwitchTree → Pass → Pass → Vec memory_switch.SwitchItem Z → Type 0
MakesSwitch around int_type tree old new made =
    Makes IsSwitchItems (statements.switch_items (scope_of old.checker) (around_in old.checker.table around) int_type [] false tree)
    (elaborated.switch_of (scope_of old.checker) (each_in type_in old.checker.table around.returned) int_type tree) (named_in_switch (scope_of old.checker) tree) (scope_of old.checker) old new made

-- one item of it, behind these labels
abbrev pub MakesPart : memory_around.Around → Option IntType → Labels → text_switch.SwitchItem → Pass → Pass → memory_switch.SwitchItem → Type 0
MakesPart around int_type labels item old new made =
    Makes IsPart (part_found (scope_of old.checker) (around_in old.checker.table around) int_type labels.values.keys labels.has_default item)
    (part_adds (scope_of old.checker) (each_in type_in old.checker.table around.returned) int_type item) (part_named (scope_of old.checker) item) (scope_of old.checker) old new made

-- ---- structures

-- the words before declarators, which may complete a structure
abbrev pub ReachesBase : BaseTree → Pass → Pass → Type 0
ReachesBase tree old new =
    Reaches (programs.base_type (scope_of old.checker) tree).type_of.found (named_in_base (scope_of old.checker) tree) (programs.base_type (scope_of old.checker) tree).scope old new

-- the type that they name
abbrev pub IsBase : BaseTree → Pass → Pass → Option number.CType → Type 0
IsBase tree old new made = IsOptionalType new.checker.table made (programs.base_type (scope_of old.checker) tree).type_of.known

abbrev pub MakesMembers : {Z : Type 0} → List MemberTree → Pass → Pass → Vec memory_member.Member Z → Type 0
MakesMembers trees old new made =
    Makes IsMembers (programs.all_members (scope_of old.checker) trees []).found (programs.all_members (scope_of old.checker) trees []).members (named_in_all_members (scope_of old.checker) trees) (scope_of old.checker) old new made

-- declarators of members, behind other members
abbrev pub declared_on : text_member.Member → Option number.CType → Members → Pass → programs.Members
declared_on tree base members pass =
    programs.declared_members (scope_of pass.checker) tree.simple.place (each_in type_in pass.checker.table base) (map declarator_tree tree.declarators.items) (defs_in pass.checker.table members)

abbrev pub CoversMembers : text_member.Member → Option number.CType → Members → Pass → Pass → Type 0
CoversMembers tree base members old new =
    Covers (declared_on tree base members old).found (named_in_members (scope_of old.checker) tree.simple.place (each_in type_in old.checker.table base) (map declarator_tree tree.declarators.items)) (scope_of old.checker) old new

abbrev pub AddsMembers : text_member.Member → Option number.CType → Members → Members → Pass → Pass → Type 0
AddsMembers tree base before after old new = defs_in new.checker.table after ≡ (declared_on tree base before old).members

-- one of them
abbrev pub CoversMember : NameTree → Members → Pass → Pass → Type 0
CoversMember name members old new = Covers (programs.member_clash (defs_in old.checker.table members) (Some name)) [] (scope_of old.checker) old new

abbrev pub AddsMember : NameTree → Option number.CType → Members → Members → Pass → Pass → Type 0
AddsMember name c_type before after old new =
    defs_in new.checker.table after ≡ programs.with_member (Some name) (each_in type_in old.checker.table c_type) (defs_in old.checker.table before)

-- ---- initializers

-- one for which there is nothing, and several
abbrev pub CoversWithin : InitTree → Pass → Pass → Type 0
CoversWithin tree old new = Covers (initializers.found_within (scope_of old.checker) tree) (named_in_init (scope_of old.checker) tree) (scope_of old.checker) old new

abbrev pub CoversAllWithin : InitsTree → Pass → Pass → Type 0
CoversAllWithin tree old new = Covers (initializers.found_within_all (scope_of old.checker) tree) (named_in_inits (scope_of old.checker) tree) (scope_of old.checker) old new

abbrev pub CoversTooMany : InitsTree → Pass → Pass → Type 0
CoversTooMany tree old new = Covers (too_many (scope_of old.checker) tree) (named_in_inits (scope_of old.checker) tree) (scope_of old.checker) old new

-- an expression for its typed tree alone
abbrev pub CoversValue : ExprTree → Pass → Pass → Type 0
CoversValue tree old new = Covers (initializers.value_found (scope_of old.checker) tree) (named_in (scope_of old.checker) tree) (scope_of old.checker) old new

-- their typed trees, which are kept
abbrev pub AddsExpr : ExprTree → Pass → Pass → List memory_value.Value → List memory_value.Value → Type 0
AddsExpr tree old new before after = AddsValues (elaborated.value_of (scope_of old.checker) tree ∷ []) new.checker.table before after

abbrev pub AddsInit : InitTree → Pass → Pass → List memory_value.Value → List memory_value.Value → Type 0
AddsInit tree old new before after = AddsValues (init_values (scope_of old.checker) tree) new.checker.table before after

abbrev pub AddsInits : InitsTree → Pass → Pass → List memory_value.Value → List memory_value.Value → Type 0
AddsInits tree old new before after = AddsValues (inits_values (scope_of old.checker) tree) new.checker.table before after

abbrev pub AddsOptional : Option InitTree → Pass → Pass → List memory_value.Value → List memory_value.Value → Type 0
AddsOptional tree old new before after = AddsValues (optional_values (scope_of old.checker) tree) new.checker.table before after

abbrev pub AddsOperand : memory_operand.Operand → Pass → Pass → List memory_value.Value → List memory_value.Value → Type 0
AddsOperand operand old new before after = AddsValues (value_in old.checker.table operand.value.value ∷ []) new.checker.table before after

-- these are no literal in braces
abbrev pub IsNoText : InitsTree → Type 0
IsNoText tree = (place : Pos) (element : CType) → (initializers.literal_alone (Trees.InitList place tree) ≡ None) × (initializers.is_text element tree ≡ false)

-- that of a local
abbrev pub MakesLocalFirst : Option number.CType → InitTree → Pass → Pass → Option memory_value.Value → Type 0
MakesLocalFirst c_type tree old new made =
    Makes IsOptionalValue (initializers.local_first (scope_of old.checker) (each_in type_in old.checker.table c_type) tree) (elaborated.first_local (scope_of old.checker) (each_in type_in old.checker.table c_type) (Some tree))
    (named_in_init (scope_of old.checker) tree) (scope_of old.checker) old new made

abbrev pub MakesLocalValue : number.CType → ExprTree → Pass → Pass → memory_value.Value → Type 0
MakesLocalValue c_type tree old new made =
    Makes IsValue (initializers.local_first (scope_of old.checker) (Some (type_in old.checker.table c_type)) (Trees.InitValue tree)) (elaborated.value_as (scope_of old.checker) (Some (type_in old.checker.table c_type)) tree)
    (named_in (scope_of old.checker) tree) (scope_of old.checker) old new made

-- ---- first values of variables outside functions

-- an initializer of an object of this type
abbrev pub CoversFirst : Option number.CType → InitTree → Pass → Pass → Type 0
CoversFirst c_type tree old new =
    Covers (initializers.first_of (scope_of old.checker) (each_in type_in old.checker.table c_type) tree) (named_in_init (scope_of old.checker) tree) (scope_of old.checker) old new

abbrev pub HoldsInit : Pass → ℕ → Option number.CType → InitTree → Target → Target → Type 0
HoldsInit pass index c_type tree old new = HoldsFirst (elaborated.held_of (scope_of pass.checker) old.parts.items index (each_in type_in pass.checker.table c_type) tree) old new

-- one of a structure's member
abbrev pub HoldsMember : Pass → ℕ → ℕ → Option number.CType → InitTree → Target → Target → Type 0
HoldsMember pass index number c_type tree old new =
    HoldsFirst (elaborated.held_of (scope_of pass.checker) (elaborated.within old.parts.items (Steps.Member index number)) 0 (each_in type_in pass.checker.table c_type) tree) old new

-- those of an array's elements
abbrev pub CoversElements : number.CType → ℕ → InitsTree → Pass → Pass → Type 0
CoversElements element length tree old new =
    Covers (initializers.elements_first (scope_of old.checker) (type_in old.checker.table element) length tree) (named_in_inits (scope_of old.checker) tree) (scope_of old.checker) old new

abbrev pub HoldsElements : Pass → number.CType → ℕ → InitsTree → Target → Target → Type 0
HoldsElements pass element length tree old new =
    HoldsFirst (elaborated.elements_held (scope_of pass.checker) old.parts.items 0 (type_in pass.checker.table element) length tree) old new

-- those of a structure's members
abbrev pub CoversStruct : tag.StructId → InitsTree → Pass → Pass → Type 0
CoversStruct id tree old new =
    Covers (initializers.members_first (scope_of old.checker) (members_of (structs_in old.checker.table) (T.Struct (tag_in old.checker.table id))) tree) (named_in_inits (scope_of old.checker) tree) (scope_of old.checker) old new

abbrev pub HoldsStruct : Pass → ℕ → tag.StructId → InitsTree → Target → Target → Type 0
HoldsStruct pass index id tree old new =
    HoldsFirst (elaborated.members_held (scope_of pass.checker) old.parts.items index 0 (members_of (structs_in pass.checker.table) (T.Struct (tag_in pass.checker.table id))) tree) old new

-- an expression
abbrev pub CoversExpr : CType → ExprTree → Pass → Pass → Type 0
CoversExpr c_type tree old new = Covers (initializers.value_first (scope_of old.checker) c_type tree) (named_in (scope_of old.checker) tree) (scope_of old.checker) old new

abbrev pub HoldsExpr : Pass → ℕ → CType → ExprTree → Target → Target → Type 0
HoldsExpr pass index c_type tree old new = HoldsFirst (elaborated.value_held (scope_of pass.checker) old.parts.items index c_type tree) old new

-- one that is refused
abbrev pub CoversRefused : TypeRule → ExprTree → Pass → Pass → Type 0
CoversRefused kind tree old new =
    Covers (initializers.value_found (scope_of old.checker) tree ++ at kind (initializers.init_place (Trees.InitValue tree))) (named_in (scope_of old.checker) tree) (scope_of old.checker) old new

-- a literal
abbrev pub HoldsText : Pass → ℕ → number.CType → ℕ → List ℕ → Target → Target → Type 0
HoldsText pass index element length bytes old new = HoldsFirst (elaborated.text_held old.parts.items index (type_in pass.checker.table element) length bytes) old new

-- a scalar
abbrev pub CoversScalar : Pos → number.CType → memory_operand.Operand → Pass → Pass → Type 0
CoversScalar place c_type operand old new =
    Covers (scalar_found (scope_of old.checker) place (type_in old.checker.table c_type) (operand_in old.checker.table operand)) [] (scope_of old.checker) old new

abbrev pub HoldsScalar : Pass → ℕ → number.CType → memory_operand.Operand → Target → Target → Type 0
HoldsScalar pass index c_type operand old new =
    HoldsFirst (elaborated.scalar_held (scope_of pass.checker) old.parts.items index (type_in pass.checker.table c_type) (Some (operand_in pass.checker.table operand))) old new

-- a pointer: what it violates was noted
abbrev pub NotesPointer : Pos → number.CType → Bool → memory_address.Address → State → State → Type 0
NotesPointer place pointed is_null address old new =
    new ≡ record old { least = noted old.least (if is_null then [] else initializers.address_first place (address_as (scope_of old).completed (T.Pointer (type_in old.table pointed)) (address_in old.table address))) }

abbrev pub first_pointer : State → number.CType → Bool → memory_address.Address → FirstScalar
first_pointer state pointed is_null address =
    if is_null then NullValue else elaborated.address_value (address_as (scope_of state).completed (T.Pointer (type_in state.table pointed)) (address_in state.table address))

-- ---- outside functions

abbrev pub ReachesItem : ItemTree → Pass → Pass → Type 0
ReachesItem tree old new = Reaches (programs.item (scope_of old.checker) tree).found (named_in_item (scope_of old.checker) tree) (programs.item (scope_of old.checker) tree).scope old new

-- the variables and functions that it defines stand behind those before it
abbrev pub DefinesItem : ItemTree → Pass → Pass → Defined → Defined → Type 0
DefinesItem tree old new before after =
    (globals : List GlobalDef) (functions : List FunctionDef) → HasDefined old.checker.table before globals functions
    → HasDefined new.checker.table after (elaborated.each_global globals (item_globals (scope_of old.checker) tree)) (functions ++ item_functions (scope_of old.checker) tree)

-- declarators outside functions
abbrev pub CoversFile : Pos → Option number.CType → List InitDeclaratorTree → Pass → Pass → Type 0
CoversFile place base trees old new =
    Covers (programs.file_declarators (scope_of old.checker) place (each_in type_in old.checker.table base) trees).found (named_in_file_declarators (scope_of old.checker) place (each_in type_in old.checker.table base) trees)
    (programs.file_declarators (scope_of old.checker) place (each_in type_in old.checker.table base) trees).scope old new

abbrev pub DefinesFile : Pos → Option number.CType → List InitDeclaratorTree → Pass → Pass → Defined → Defined → Type 0
DefinesFile place base trees old new before after =
    (globals : List GlobalDef) (functions : List FunctionDef) → HasDefined old.checker.table before globals functions
    → HasDefined new.checker.table after (elaborated.each_global globals (elaborated.declared_globals (scope_of old.checker) place (each_in type_in old.checker.table base) trees)) functions

-- one of them
abbrev pub CoversDeclarator : Pos → Option number.CType → InitDeclaratorTree → Pass → Pass → Type 0
CoversDeclarator place base tree old new =
    Covers (programs.file_declarator (scope_of old.checker) place (each_in type_in old.checker.table base) tree (expressions.declared_name tree.declarator)).found
    (named_in_file_declarator (scope_of old.checker) (each_in type_in old.checker.table base) tree (expressions.declared_name tree.declarator))
    (programs.file_declarator (scope_of old.checker) place (each_in type_in old.checker.table base) tree (expressions.declared_name tree.declarator)).scope old new

abbrev pub DefinesDeclarator : Option number.CType → InitDeclaratorTree → Pass → Pass → Defined → Defined → Type 0
DefinesDeclarator base tree old new before after =
    (globals : List GlobalDef) (functions : List FunctionDef) → HasDefined old.checker.table before globals functions
    → HasDefined new.checker.table after (elaborated.each_global globals (elaborated.declared_global (scope_of old.checker) (each_in type_in old.checker.table base) tree (expressions.declared_name tree.declarator))) functions

-- a variable, where a name outside functions is one
abbrev pub DefinesGlobal : NameTree → Option number.CType → List memory_first.First → Interned → Defined → Defined → Type 0
DefinesGlobal name c_type first table before after =
    (globals : List GlobalDef) (functions : List FunctionDef) → HasDefined table before globals functions
    → HasDefined table after (elaborated.each_global globals (elaborated.global_of name (each_in type_in table c_type) (all_first first))) functions

-- the typed trees of their first values' expressions
abbrev pub AddsFirstOfDeclarator : Option number.CType → InitDeclaratorTree → Pass → Pass → List memory_value.Value → List memory_value.Value → Type 0
AddsFirstOfDeclarator base tree old new before after =
    AddsValues (declarator_values (scope_of old.checker) (each_in type_in old.checker.table base) tree (expressions.declared_name tree.declarator)) new.checker.table before after

abbrev pub AddsFirstOfFile : Pos → Option number.CType → List InitDeclaratorTree → Pass → Pass → List memory_value.Value → List memory_value.Value → Type 0
AddsFirstOfFile place base trees old new before after = AddsValues (declarators_values (scope_of old.checker) place (each_in type_in old.checker.table base) trees) new.checker.table before after

abbrev pub AddsFirstOfItem : ItemTree → Pass → Pass → List memory_value.Value → List memory_value.Value → Type 0
AddsFirstOfItem tree old new before after = AddsValues (item_values (scope_of old.checker) tree) new.checker.table before after

-- a function with its body
abbrev pub CoversFunction : Option number.CType → text_declarator.Declarator → text_block.Block → text_name.Name → Pass → Pass → Type 0
CoversFunction base declarator body name old new =
    (place : Pos) → Covers (programs.function_item (scope_of old.checker) place (each_in type_in old.checker.table base) (declarator_tree declarator) (block_of body.items.items) (Some (name_tree name))).found
    (named_in_function (scope_of old.checker) (each_in type_in old.checker.table base) (declarator_tree declarator) (block_of body.items.items) (Some (name_tree name)))
    (programs.function_item (scope_of old.checker) place (each_in type_in old.checker.table base) (declarator_tree declarator) (block_of body.items.items) (Some (name_tree name))).scope old new

abbrev pub DefinesFunction : Option number.CType → text_declarator.Declarator → text_block.Block → text_name.Name → Pass → Pass → Defined → Defined → Type 0
DefinesFunction base declarator body name old new before after =
    (globals : List GlobalDef) (functions : List FunctionDef) → HasDefined old.checker.table before globals functions
    → HasDefined new.checker.table after globals (functions ++ elaborated.defined_function (scope_of old.checker) (each_in type_in old.checker.table base) (declarator_tree declarator) (block_of body.items.items) (Some (name_tree name)))

-- a name outside functions
abbrev pub CoversOutside : NameTree → Option number.CType → Bool → Bool → Pass → Pass → Type 0
CoversOutside name c_type has_init has_body old new =
    Covers (programs.declare_outside name (each_in type_in old.checker.table c_type) has_init has_body (scope_of old.checker)).found []
    (programs.declare_outside name (each_in type_in old.checker.table c_type) has_init has_body (scope_of old.checker)).scope old new

-- one that may have been declared before
abbrev pub CoversAgain : NameTree → memory_file.FileEntry → Pass → Pass → Type 0
CoversAgain name entry old new =
    Covers (programs.again_clash name.place (file_name (scope_of old.checker).file name.bytes) (row_of old.checker.table name.bytes entry)) [] (scope_of old.checker) old new

abbrev pub IsJoined : List ℕ → memory_file.FileEntry → Pass → Pass → memory_file.FileEntry → Type 0
IsJoined name entry old new joined = row_of new.checker.table name joined ≡ programs.joined_name (file_name (scope_of old.checker).file name) (row_of old.checker.table name entry)

-- `main`
abbrev pub CoversMain : NameTree → Option number.CType → Pass → Pass → Type 0
CoversMain name c_type old new = Covers (programs.main_clash name (each_in type_in old.checker.table c_type)) [] (scope_of old.checker) old new

abbrev pub MakesMain : Option number.CType → Pass → Pass → Bool → Type 0
MakesMain c_type old new made = Makes IsSame [] (programs.is_main_type (each_in type_in old.checker.table c_type)) [] (scope_of old.checker) old new made

-- its first values
abbrev pub MakesFirst : {Z : Type 0} → Option number.CType → Option InitTree → Pass → Pass → Vec memory_first.First Z → Type 0
MakesFirst c_type tree old new made =
    Makes IsFirst (programs.first_rules (scope_of old.checker) (each_in type_in old.checker.table c_type) tree) (elaborated.first_held (scope_of old.checker) (each_in type_in old.checker.table c_type) tree)
    (named_in_first (scope_of old.checker) tree) (scope_of old.checker) old new made

-- ---- the parameters of a function

-- as its first locals
abbrev pub CoversEntered : ParametersTree → Pass → Pass → Type 0
CoversEntered parameters old new = Covers (programs.entered_function (scope_of old.checker) parameters).found [] (programs.entered_function (scope_of old.checker) parameters).scope old new

-- their types
abbrev pub MakesTypes : {Z : Type 0} → ParametersTree → Pass → Pass → Vec (Option number.CType) Z → Type 0
MakesTypes parameters old new made =
    Makes (λ table types. AreTypes table types.items) [] (local_types (scope_of old.checker) parameters) [] (scope_of old.checker) old new made

-- the type of one with a name
abbrev pub MakesParameter : text_parameter.Parameter → Pass → Pass → Option number.CType → Type 0
MakesParameter parameter old new made =
    Makes IsOptionalType []
    (local_type (scope_of old.checker) (words_tree (out-Parameter parameter).simple) (optional_of (out-Parameter parameter).declarator) (expressions.optional_name (optional_of (out-Parameter parameter).declarator)))
    [] (scope_of old.checker) old new made

-- parameters that are declared with these types
abbrev pub DeclaresParameters : ParametersTree → List (Option number.CType) → Pass → Pass → Type 0
DeclaresParameters parameters types old new =
    (outside : Scope) → AreTypes old.checker.table types (local_types outside parameters)
    → Covers (programs.enter_parameters outside parameters (scope_of old.checker)).found [] (programs.enter_parameters outside parameters (scope_of old.checker)).scope old new
