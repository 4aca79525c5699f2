-- What a pass over a part of a text adds.
use Rattle.std.specs.Prelude.{◌≡◌, Bool, false, List, [], ◌∷◌, ◌++◌, map, Option, Result, OnOk}
use Rattle.c_syntax.specs.declared.expr.Suffix as memory_suffix
use Rattle.c_syntax.specs.declared.expr.Suffix.TheVariants as S
use Rattle.c_syntax.specs.declared.statement.BlockItem as memory_item
use Rattle.c_syntax.specs.declared.statement.BlockItem.TheVariants as B
use Rattle.c_syntax.specs.declared.statement.SwitchItem as memory_switch
use Rattle.c_syntax.specs.declared.statement.SwitchItem.TheVariants as W
use Rattle.c_syntax.specs.Trees.{ExprTree, ArgumentsTree, StmtTree}
use Rattle.c_syntax.specs.Views.{length_tree, parameters_tree, expr_tree, declaration_tree, stmt_tree}
use Rattle.c_rules.specs.Names.{Scope}
use Rattle.c_rules.specs.Expressions.{expr}
use Rattle.c_types_state.specs.NameTables.{scope_of}
use Rattle.graph_text.specs.declared.marks.Mark.{Mark}
use Rattle.graph_text.specs.declared.marks.Mark.TheVariants as M
use Rattle.graph_text.specs.declared.marks.Marker.{Marker}
use Rattle.graph_text.specs.Marks.{Marked, LocalMark, CallMark, ArgumentMark, call_mark, called_pointers, marks_in, marks_in_arguments, marks_in_value, marks_in_length, marks_in_parameters, marks_in_declaration, marks_in_stmt}

abbrev pub mark_of : Mark → Marked
mark_of (M.Local name) = LocalMark name.items
mark_of (M.Call is_done is_pointer) = CallMark is_done is_pointer
mark_of (M.Argument is_done is_pointer) = ArgumentMark is_done is_pointer

-- the scope at the place of the text to which a pass has come
unfoldable pub scope_at : Marker → Scope
scope_at marker = scope_of marker.pass.checker

-- these marks were added
abbrev pub Adds : List Marked → Marker → Marker → Type 0
Adds marks old new = map mark_of new.marks.items ≡ map mark_of old.marks.items ++ marks

-- those that a part has in its scope, where memory suffices
abbrev pub AddsHere : {T E : Type 0} → (Scope → List Marked) → Marker → Marker → Result T E → Type 0
AddsHere marks old new result = OnOk result (Adds (marks (scope_at old)) old new)

-- ---- parts, one at a time

-- a call
abbrev pub call_marks : Scope → Bool → ExprTree → ArgumentsTree → List Marked
call_marks scope is_done function arguments =
    marks_in scope is_done function ++ call_mark scope is_done function (expr scope function).known ∷ marks_in_arguments scope is_done (called_pointers (expr scope function).known) 0 arguments

abbrev pub suffix_marks : Scope → memory_suffix.Suffix → List Marked
suffix_marks scope (S.Array' length) = marks_in_length scope (length_tree length)
suffix_marks scope (S.Function' shape parameters) = marks_in_parameters scope (parameters_tree parameters)

abbrev pub item_marks : Scope → memory_item.BlockItem → List Marked
item_marks scope (B.Declaration tree) = marks_in_declaration scope (declaration_tree tree)
item_marks scope (B.Statement one) = marks_in_stmt scope (stmt_tree one)

abbrev pub part_marks : Scope → memory_switch.SwitchItem → List Marked
part_marks scope (W.Case place value) = marks_in scope false (expr_tree value)
part_marks scope (W.Default place) = []
part_marks scope (W.Statement one) = marks_in_stmt scope (stmt_tree one)

-- `for` behind its beginning
abbrev pub marks_in_turns : Scope → Option ExprTree → Option ExprTree → StmtTree → List Marked
marks_in_turns scope condition step body = marks_in_value scope condition ++ marks_in_value scope step ++ marks_in_stmt scope body
