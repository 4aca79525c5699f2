-- The parts of statements and blocks, one at a time.
use Rattle.std.specs.Prelude.{◌≡◌, Bool, true, not, List, [], ◌∷◌, ◌++◌, Option, ℤ}
use Rattle.c_num.specs.declared.IntType.{IntType}
use Rattle.c_syntax.specs.declared.statement.BlockItem as memory_item
use Rattle.c_syntax.specs.declared.statement.BlockItem.TheVariants as B
use Rattle.c_syntax.specs.declared.statement.SwitchItem as memory_switch
use Rattle.c_syntax.specs.declared.statement.SwitchItem.TheVariants as W
use Rattle.c_syntax.specs.Trees.{ExprTree, BlockTree, Close, Declare, Perform}
use Rattle.c_syntax.specs.Views.{expr_tree, declaration_tree, stmt_tree}
use Rattle.c_typed.specs.declared.statement.SwitchItem as made_switch
use Rattle.c_typed.specs.Types.{CType}
use Rattle.c_typed.specs.Typed as typed
use Rattle.c_typed.specs.Table.{Interned, type_in}
use Rattle.c_typed.specs.StatementViews.{switch_in, SwitchStands}
use Rattle.c_rules.specs.declared.rule.TypeRule.TheVariants as T
use Rattle.c_rules.specs.declared.violation.Violation.{Violation}
use Rattle.c_rules.specs.Names.{Scope}
use Rattle.c_rules.specs.Known.{unless}
use Rattle.c_types_state.specs.Finding.{each_in}
use Rattle.c_rules.specs.Operators.{as_integer}
use Rattle.c_rules.specs.Expressions.{expr, place_of, as_constant}
use Rattle.c_rules.specs.Statements.{FunctionContext, stmt, declaration, label_type, converted_label, repeats, with_label, has_label}
use Rattle.c_rules.specs.Elaborated.{value_of, switched, declared_locals, declare_each, stmt_of, label_or_zero}
use Rattle.c_rules.specs.Named.{NamedType, named_in}
use Rattle.c_types.specs.declared.statements.Around as memory_around
use Rattle.c_rules.specs.NamedItems.{named_in_declaration, named_in_stmt}

-- what surrounds a statement
abbrev pub around_in : Interned → memory_around.Around → FunctionContext
around_in table around = record { result = each_in type_in table around.returned; may_break = around.may_break; may_continue = around.may_continue }

-- ---- blocks

-- the scope behind what stands in a block
abbrev pub behind_block : Scope → BlockTree → Scope
behind_block scope Close = scope
behind_block scope (Declare tree others) = behind_block (declaration scope tree).scope others
behind_block scope (Perform one others) = behind_block scope others

-- one item of a block: what it violates and names, what it adds to what stands behind it, and the scope behind it
abbrev pub item_found : Scope → FunctionContext → memory_item.BlockItem → List Violation
item_found scope around (B.Declaration tree) = (declaration scope (declaration_tree tree)).found
item_found scope around (B.Statement one) = stmt scope around (stmt_tree one)

abbrev pub item_named : Scope → memory_item.BlockItem → List NamedType
item_named scope (B.Declaration tree) = named_in_declaration scope (declaration_tree tree)
item_named scope (B.Statement one) = named_in_stmt scope (stmt_tree one)

abbrev pub item_adds : Scope → Option CType → memory_item.BlockItem → typed.Block → typed.Block
item_adds scope result (B.Declaration tree) others = declare_each (declared_locals scope (declaration_tree tree)) others
item_adds scope result (B.Statement one) others = typed.Perform (stmt_of scope result (stmt_tree one)) others

abbrev pub item_scope : Scope → memory_item.BlockItem → Scope
item_scope scope (B.Declaration tree) = (declaration scope (declaration_tree tree)).scope
item_scope scope (B.Statement one) = scope

-- ---- `switch`

-- the type to which the labels are converted, and the value with its conversion
abbrev pub switched_type : Scope → ExprTree → Option IntType
switched_type scope value = label_type (as_integer (place_of value) (expr scope value)).known

abbrev pub switched_value : Scope → ExprTree → typed.Value
switched_value scope value = switched (switched_type scope value) (value_of scope value)

-- the label of a `case`
abbrev pub label_of : Scope → Option IntType → ExprTree → Option ℤ
label_of scope int_type value = converted_label int_type (as_constant (place_of value) (expr scope value)).known

-- one item of a `switch`, behind these labels
abbrev pub part_found : Scope → FunctionContext → Option IntType → List ℤ → Bool → memory_switch.SwitchItem → List Violation
part_found scope around int_type labels has_default (W.Case place value) =
    (as_constant (place_of (expr_tree value)) (expr scope (expr_tree value))).found ++ unless (not (repeats labels (label_of scope int_type (expr_tree value)))) T.T21 place
part_found scope around int_type labels has_default (W.Default place) = unless (not has_default) T.T21 place
part_found scope around int_type labels has_default (W.Statement one) = stmt scope around (stmt_tree one)

abbrev pub part_named : Scope → memory_switch.SwitchItem → List NamedType
part_named scope (W.Case place value) = named_in scope (expr_tree value)
part_named scope (W.Default place) = []
part_named scope (W.Statement one) = named_in_stmt scope (stmt_tree one)

abbrev pub part_labels : Scope → Option IntType → memory_switch.SwitchItem → List ℤ → List ℤ
part_labels scope int_type (W.Case place value) labels = with_label (label_of scope int_type (expr_tree value)) labels
part_labels scope int_type _ labels = labels

abbrev pub part_default : memory_switch.SwitchItem → Bool → Bool
part_default (W.Default place) has_default = true
part_default _ has_default = has_default

abbrev pub part_adds : Scope → Option CType → Option IntType → memory_switch.SwitchItem → typed.SwitchItems → typed.SwitchItems
part_adds scope result int_type (W.Case place value) others = typed.Case (label_or_zero (label_of scope int_type (expr_tree value))) others
part_adds scope result int_type (W.Default place) others = typed.Default others
part_adds scope result int_type (W.Statement one) others = typed.SwitchStmt (stmt_of scope result (stmt_tree one)) others

-- an item of a typed `switch`, by what it adds to those behind it
abbrev pub IsPart : Interned → made_switch.SwitchItem → (typed.SwitchItems → typed.SwitchItems) → Type 0
IsPart table item adds = SwitchStands table (item ∷ []) × ((more : List made_switch.SwitchItem) → switch_in table (item ∷ more) ≡ adds (switch_in table more))

-- the same labels, in whatever order
abbrev pub SameLabels : List ℤ → List ℤ → Type 0
SameLabels labels others = (label : ℤ) → has_label labels label ≡ has_label others label
