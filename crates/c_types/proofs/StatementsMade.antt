-- Statements and blocks that are made, part by part.
use Rattle.std.proofs.Common.{◌≡◌, ℕ, ℤ, pos, unwrap_or, ◌+◌, ◌≤◌, Bool, true, false, not, ◌||◌, length, List, [], ◌∷◌, ◌++◌, Option, Some, None, Vec, Global, Box, refl, sym, ap, subst, ◌∙◌, arith, append_assoc, append-nil, length-append}
use Rattle.std.specs.Ordering.{int_eq}
use Rattle.run_theory.specs.declared.place.Pos.{Pos}
use Rattle.c_num.specs.declared.IntType.{IntType}
use Rattle.c_syntax.specs.Trees
use Rattle.c_syntax.specs.Trees.{ExprTree, InitDeclaratorTree, DeclarationTree, ForTree, StmtTree, BlockTree, SwitchTree, NameTree}
use Rattle.c_syntax.specs.Views.{expr_tree, declaration_tree, stmt_tree, block_of, switch_of}
use Rattle.c_syntax.specs.declared.expr.Expr.{Expr}
use Rattle.c_syntax.specs.declared.statement.Stmt as memory_syntax
use Rattle.c_syntax.specs.declared.statement.BlockItem as syntax_item
use Rattle.c_syntax.specs.declared.statement.BlockItem.TheVariants as SB
use Rattle.c_syntax.specs.declared.statement.SwitchItem as syntax_switch
use Rattle.c_syntax.specs.declared.statement.SwitchItem.TheVariants as SW
use Rattle.c_typed.specs.declared.c_type.CType as number
use Rattle.c_typed.specs.declared.typed.Value as memory_value
use Rattle.c_typed.specs.declared.statement.Stmt as memory_stmt
use Rattle.c_typed.specs.declared.statement.Stmt.TheVariants as S
use Rattle.c_typed.specs.declared.statement.BlockItem as memory_item
use Rattle.c_typed.specs.declared.statement.BlockItem.TheVariants as B
use Rattle.c_typed.specs.declared.statement.SwitchItem as memory_switch
use Rattle.c_typed.specs.declared.statement.SwitchItem.TheVariants as W
use Rattle.c_typed.specs.declared.statement.LocalDef as memory_local
use Rattle.c_typed.specs.declared.statement.ForStart as memory_start
use Rattle.c_typed.specs.declared.statement.ForStart.TheVariants as F
use Rattle.c_typed.specs.Types.{CType}
use Rattle.c_typed.specs.Typed as typed
use Rattle.c_typed.specs.Table.{Interned, Grows, Stands, type_in}
use Rattle.c_typed.specs.StatementViews.{local_in, stmt_in, block_in, BlockStands, switch_in, SwitchStands}
use Rattle.c_typed.proofs.Grown.{stays, grows_trans}
use Rattle.c_typed.proofs.StatementsStay.{optional_stays, start_stays, stmt_stays, block_stays, switch_stays, stmt_in-block, StmtStands-block, stmt_in-switch, StmtStands-switch}
use Rattle.c_rules.specs.declared.rule.TypeRule.TheVariants as T
use Rattle.c_rules.specs.declared.violation.Violation.{Violation}
use Rattle.c_rules.specs.Names.{Scope, LocalName, entered}
use Rattle.c_rules.specs.Known.{unless}
use Rattle.c_types_state.specs.Finding.{AllStand, each_in, IsOption, noted}
use Rattle.c_types_state.specs.NameTables.{State, scope_of, ScopeGrows}
use Rattle.c_types_state.specs.Staying.{Stays, IsValue, IsSame}
use Rattle.c_rules.specs.Operators.{as_integer}
use Rattle.c_rules.specs.Expressions.{expr, place_of, as_constant, words_type}
use Rattle.c_rules.specs.Statements as rules
use Rattle.c_rules.specs.Statements.{FunctionContext, stmt, block, switch_items, declaration, declare_locals, declare_local, with_declared, within_loop, condition_rules, value_rules, optional_rules, for_start, repeats, with_label, converted_label}
use Rattle.c_rules.specs.Elaborated as elaborated
use Rattle.c_rules.specs.Elaborated.{stmt_of, start_of, test_of, unused, mapped, declare_each, declared_locals, label_or_zero}
use Rattle.c_types_state.proofs.Findings.{stays-value}
use Rattle.c_types_expressions.specs.declared.pass.Pass.{Pass}
use Rattle.c_rules.specs.Named.{NamedType, named_in}
use Rattle.c_types_expressions.specs.Passes.{Passes}
use Rattle.c_types.specs.declared.statements.Around as memory_around
use Rattle.c_rules.specs.NamedItems.{named_in_stmt, named_in_block, named_in_switch, named_in_declaration, named_in_start, named_in_value}
use Rattle.c_types.specs.Made.{Covers, Makes, IsBoth, IsOptionalValue, IsStmt, IsStart, IsLocals, IsBlock, IsSwitchItems, AddsItems}
use Rattle.c_types.specs.Parts.{around_in, behind_block, item_found, item_named, item_adds, item_scope, part_found, part_named, part_labels, part_default, part_adds, label_of, switched_type, switched_value, IsPart, SameLabels}
use Rattle.c_types.proofs.Covering.{covers-none, covers-same, covers-then, covers-leads, covers-passes, covers-noted, makes-same, makes-then, makes-behind, makes-of, makes-both}

-- ---- what was made stays

pub stays-optional : Stays IsOptionalValue
stays-optional old new grows b a h = let kept = optional_stays old new grows b h.0 in (kept.0, kept.1 ∙ h.1)

pub stays-stmt : Stays IsStmt
stays-stmt old new grows b a h = let kept = stmt_stays old new grows b h.0 in (kept.0, kept.1 ∙ h.1)

pub stays-start : Stays IsStart
stays-start old new grows b a h = let kept = start_stays old new grows b h.0 in (kept.0, kept.1 ∙ h.1)

-- a type that need not be known
pub known-stays : (old new : Interned) → Grows old new → (t : Option number.CType) → AllStand Stands old t → AllStand Stands new t × (each_in type_in new t ≡ each_in type_in old t)
known-stays old new grows None h = (tt, refl)
known-stays old new grows (Some t) h = let kept = stays old new grows t h in (kept.0, ap Some kept.1)

-- what surrounds a statement stays
pub around-stands : (old new : Interned) → Grows old new → (around : memory_around.Around) → AllStand Stands old around.returned → AllStand Stands new around.returned
around-stands old new grows around h = (known-stays old new grows around.returned h).0

pub around-same : (old new : Interned) → Grows old new → (around : memory_around.Around) → AllStand Stands old around.returned → around_in new around ≡ around_in old around
around-same old new grows around h =
    let same = (known-stays old new grows around.returned h).1 in
    λ i. record { result = same i; may_break = around.may_break; may_continue = around.may_continue }

-- ---- a statement

-- What is made of a statement, in the surroundings that stand in this table.
abbrev pub MadeStmt : memory_around.Around → Interned → StmtTree → Pass → Pass → memory_stmt.Stmt → Type 0
MadeStmt around table tree s t b =
    Makes IsStmt (stmt (scope_of s.checker) (around_in table around) tree) (stmt_of (scope_of s.checker) (each_in type_in table around.returned) tree) (named_in_stmt (scope_of s.checker) tree) (scope_of s.checker) s t b

pub stmt-tree : (around : memory_around.Around) (table : Interned) {tree tree' : StmtTree} {s t : Pass} {b : memory_stmt.Stmt} → tree ≡ tree' → MadeStmt around table tree' s t b → MadeStmt around table tree s t b
stmt-tree around table {s = s} {t = t} {b = b} e made = subst (λ tree. MadeStmt around table tree s t b) (sym e) made

-- a table before
pub stmt-before : (around : memory_around.Around) (tree : StmtTree) {s t : Pass} {b : memory_stmt.Stmt} (old new : Interned) → Grows old new → AllStand Stands old around.returned → MadeStmt around new tree s t b → MadeStmt around old tree s t b
stmt-before around tree {s = s} old new grows h made =
    makes-same (λ i. stmt (scope_of s.checker) (around-same old new grows around h i) tree) (λ i. stmt_of (scope_of s.checker) ((known-stays old new grows around.returned h).1 i) tree) refl refl made

-- the same statement and the same surroundings by other words
pub stmt-same : (table : Interned) {around around' : memory_around.Around} {tree tree' : StmtTree} {s t : Pass} {b b' : memory_stmt.Stmt} → around ≡ around' → tree ≡ tree' → b' ≡ b → MadeStmt around table tree s t b → MadeStmt around' table tree' s t b'
stmt-same table {around' = around'} {tree = tree} {tree' = tree'} {s = s} {t = t} {b = b} ea et eb made =
    subst (λ (x : memory_stmt.Stmt). MadeStmt around' table tree' s t x) (sym eb)
    (subst (λ (now : StmtTree). MadeStmt around' table now s t b) et
    (subst (λ (a : memory_around.Around). MadeStmt a table tree s t b) ea made))

abbrev pub looping : memory_around.Around → memory_around.Around
looping around = record around { may_break = true; may_continue = true }

abbrev pub switching : memory_around.Around → memory_around.Around
switching around = record around { may_break = true }

abbrev pub MadeTest : ExprTree → Pass → Pass → memory_value.Value → Type 0
MadeTest tree s t v = Makes IsValue (condition_rules (scope_of s.checker) tree) (test_of (scope_of s.checker) tree) (named_in (scope_of s.checker) tree) (scope_of s.checker) s t v

module _ (table : Interned) where
  of-expression : (v : memory_value.Value) {x : typed.Value} → IsValue table v x → IsStmt table (S.Expression v) (typed.Expression x)
  of-expression v h = (h.0, ap typed.Expression h.1)

  of-return : (v : Option memory_value.Value) {x : Option typed.Value} → IsOptionalValue table v x → IsStmt table (S.Return v) (typed.Return x)
  of-return v h = (h.0, ap typed.Return h.1)

  module _ (v : memory_value.Value) (b : Box memory_stmt.Stmt Global) {x : typed.Value} {y : typed.Stmt} where
    of-if : IsBoth IsValue IsStmt table (v, b.value) (x, y) → IsStmt table (S.If v b) (typed.If x y)
    of-if h = ((h.0.0, h.1.0), λ i. typed.If (h.0.1 i) (h.1.1 i))

    of-while : IsBoth IsValue IsStmt table (v, b.value) (x, y) → IsStmt table (S.While v b) (typed.While x y)
    of-while h = ((h.0.0, h.1.0), λ i. typed.While (h.0.1 i) (h.1.1 i))

    of-do : IsBoth IsStmt IsValue table (b.value, v) (y, x) → IsStmt table (S.DoWhile b v) (typed.DoWhile y x)
    of-do h = ((h.0.0, h.1.0), λ i. typed.DoWhile (h.0.1 i) (h.1.1 i))

    of-if_else : (b' : Box memory_stmt.Stmt Global) {z : typed.Stmt} → IsBoth IsValue (IsBoth IsStmt IsStmt) table (v, (b.value, b'.value)) (x, (y, z)) → IsStmt table (S.IfElse v b b') (typed.IfElse x y z)
    of-if_else b' h = ((h.0.0, h.1.0.0, h.1.1.0), λ i. typed.IfElse (h.0.1 i) (h.1.0.1 i) (h.1.1.1 i))

  of-for : (start : memory_start.ForStart) (v w : Option memory_value.Value) (b : Box memory_stmt.Stmt Global) {p : typed.ForStart} {x y : Option typed.Value} {z : typed.Stmt}
      → IsBoth IsStart (IsBoth IsOptionalValue (IsBoth IsOptionalValue IsStmt)) table (start, (v, (w, b.value))) (p, (x, (y, z))) → IsStmt table (S.For start v w b) (typed.For p x y z)
  of-for start v w b h = ((h.0.0, h.1.0.0, h.1.1.0.0, h.1.1.1.0), λ i. typed.For (h.0.1 i) (h.1.0.1 i) (h.1.1.0.1 i) (h.1.1.1.1 i))

  of-block : (items : Vec memory_item.BlockItem Global) {x : typed.Block} → IsBlock table items x → IsStmt table (S.Block items) (typed.BlockStmt x)
  of-block items h = (StmtStands-block table items h.0, stmt_in-block table items ∙ ap typed.BlockStmt h.1)

  of-switch : (v : memory_value.Value) (items : Vec memory_switch.SwitchItem Global) {x : typed.Value} {y : typed.SwitchItems} → IsBoth IsValue IsSwitchItems table (v, items) (x, y) → IsStmt table (S.Switch v items) (typed.Switch x y)
  of-switch v items h = (StmtStands-switch table v items h.0.0 h.1.0, stmt_in-switch table v items ∙ (λ i. typed.Switch (h.0.1 i) (h.1.1 i)))

module _ (around : memory_around.Around) where
  pub made-empty : (table : Interned) (place : Pos) {s : Pass} → MadeStmt around table (Trees.Empty place) s s S.Empty
  made-empty table place {s = s} = record { covers = covers-none s; made = (tt, refl) }

  pub made-expression : (table : Interned) (value : ExprTree) {s t : Pass} {v : memory_value.Value} → Makes IsValue (value_rules (scope_of s.checker) value) (unused (scope_of s.checker) value) (named_in (scope_of s.checker) value) (scope_of s.checker) s t v → MadeStmt around table (Trees.Expression value) s t (S.Expression v)
  made-expression table value {t = t} {v = v} made = makes-of {Is = IsValue} {Is' = IsStmt} (of-expression t.checker.table v) made

  module _ (condition : ExprTree) {s s1 t : Pass} {v : memory_value.Value} (stand : AllStand Stands s.checker.table around.returned) (test : MadeTest condition s s1 v) where
    pub made-if : (place : Pos) (taken : StmtTree) (b : Box memory_stmt.Stmt Global) → MadeStmt around s1.checker.table taken s1 t b.value → MadeStmt around s.checker.table (Trees.If place condition taken) s t (S.If v b)
    made-if place taken b made =
        makes-of {Is = IsBoth IsValue IsStmt} {Is' = IsStmt} (of-if t.checker.table v b)
        (makes-both stays-value (λ scope. stmt scope (around_in s.checker.table around) taken) (λ scope. stmt_of scope (each_in type_in s.checker.table around.returned) taken) (λ scope. named_in_stmt scope taken) (λ scope. scope)
        test (stmt-before around taken s.checker.table s1.checker.table test.covers.grows stand made))

    pub made-while : (place : Pos) (body : StmtTree) (b : Box memory_stmt.Stmt Global) → MadeStmt (looping around) s1.checker.table body s1 t b.value → MadeStmt around s.checker.table (Trees.While place condition body) s t (S.While v b)
    made-while place body b made =
        makes-of {Is = IsBoth IsValue IsStmt} {Is' = IsStmt} (of-while t.checker.table v b)
        (makes-both stays-value (λ scope. stmt scope (within_loop (around_in s.checker.table around)) body) (λ scope. stmt_of scope (each_in type_in s.checker.table around.returned) body) (λ scope. named_in_stmt scope body) (λ scope. scope)
        test (stmt-before (looping around) body s.checker.table s1.checker.table test.covers.grows stand made))

    pub made-if_else : (place : Pos) (taken otherwise : StmtTree) {s2 : Pass} (b b' : Box memory_stmt.Stmt Global) → MadeStmt around s1.checker.table taken s1 s2 b.value → MadeStmt around s2.checker.table otherwise s2 t b'.value → MadeStmt around s.checker.table (Trees.IfElse place condition taken otherwise) s t (S.IfElse v b b')
    made-if_else place taken otherwise {s2 = s2} b b' made made' =
        let around' = around_in s.checker.table around in
        let result = each_in type_in s.checker.table around.returned in
        let scope = scope_of s.checker in
        let first = stmt-before around taken s.checker.table s1.checker.table test.covers.grows stand made in
        let stand1 = around-stands s.checker.table s1.checker.table test.covers.grows around stand in
        let second = stmt-before around otherwise s.checker.table s1.checker.table test.covers.grows stand (stmt-before around otherwise s1.checker.table s2.checker.table made.covers.grows stand1 made') in
        makes-same (sym (append_assoc (condition_rules scope condition) (stmt scope around' taken) (stmt scope around' otherwise))) refl (sym (append_assoc (named_in scope condition) (named_in_stmt scope taken) (named_in_stmt scope otherwise))) refl
        (makes-of {Is = IsBoth IsValue (IsBoth IsStmt IsStmt)} {Is' = IsStmt} (of-if_else t.checker.table v b b')
        (makes-both stays-value (λ scope. stmt scope around' taken ++ stmt scope around' otherwise) (λ scope. (stmt_of scope result taken, stmt_of scope result otherwise)) (λ scope. named_in_stmt scope taken ++ named_in_stmt scope otherwise) (λ scope. scope) test
        (makes-both stays-stmt (λ scope. stmt scope around' otherwise) (λ scope. stmt_of scope result otherwise) (λ scope. named_in_stmt scope otherwise) (λ scope. scope) first second)))

  pub made-do : (place : Pos) (body : StmtTree) (condition : ExprTree) {s s1 t : Pass} {v : memory_value.Value} (b : Box memory_stmt.Stmt Global) → MadeStmt (looping around) s.checker.table body s s1 b.value → MadeTest condition s1 t v → MadeStmt around s.checker.table (Trees.Do place body condition) s t (S.DoWhile b v)
  made-do place body condition {t = t} {v = v} b made test =
      makes-of {Is = IsBoth IsStmt IsValue} {Is' = IsStmt} (of-do t.checker.table v b)
      (makes-both stays-stmt (λ scope. condition_rules scope condition) (λ scope. test_of scope condition) (λ scope. named_in scope condition) (λ scope. scope) made test)

  pub made-return : (place : Pos) (value : Option ExprTree) {s t : Pass} {v : Option memory_value.Value} → Makes IsOptionalValue (rules.return_rules (scope_of s.checker) (each_in type_in s.checker.table around.returned) place value) (mapped (elaborated.value_as (scope_of s.checker) (each_in type_in s.checker.table around.returned)) value) (named_in_value (scope_of s.checker) value) (scope_of s.checker) s t v → MadeStmt around s.checker.table (Trees.Return place value) s t (S.Return v)
  made-return place value {t = t} {v = v} made = makes-of {Is = IsOptionalValue} {Is' = IsStmt} (of-return t.checker.table v) made

  pub made-switch : (place : Pos) (value : ExprTree) (items : SwitchTree) {s s1 t : Pass} {v : memory_value.Value} {int_type : Option IntType} (b : Vec memory_switch.SwitchItem Global) → AllStand Stands s.checker.table around.returned
      → Makes (IsBoth IsValue IsSame) (as_integer (place_of value) (expr (scope_of s.checker) value)).found (switched_value (scope_of s.checker) value, switched_type (scope_of s.checker) value) (named_in (scope_of s.checker) value) (scope_of s.checker) s s1 (v, int_type)
      → Makes IsSwitchItems (switch_items (scope_of s1.checker) (around_in s1.checker.table (switching around)) int_type [] false items) (elaborated.switch_of (scope_of s1.checker) (each_in type_in s1.checker.table around.returned) int_type items) (named_in_switch (scope_of s1.checker) items) (scope_of s1.checker) s1 t b
      → MadeStmt around s.checker.table (Trees.Switch place value items) s t (S.Switch v b)
  made-switch place value items {s = s} {s1 = s1} {t = t} {v = v} {int_type = int_type} b stand tested made =
      let old = s.checker.table in
      let now = s1.checker.table in
      let grows = tested.covers.grows in
      let own = switched_type (scope_of s.checker) value in
      let same_type : int_type ≡ own = tested.made.1 in
      let second = makes-same (λ i. switch_items (scope_of s1.checker) (around-same old now grows (switching around) stand i) (same_type i) [] false items) (λ i. elaborated.switch_of (scope_of s1.checker) ((known-stays old now grows around.returned stand).1 i) (same_type i) items) refl refl made in
      let first = makes-of {Is = IsBoth IsValue IsSame} {Is' = IsValue} (λ h. h.0) tested in
      makes-of {Is = IsBoth IsValue IsSwitchItems} {Is' = IsStmt} (of-switch t.checker.table v b)
      (makes-both stays-value (λ scope. switch_items scope (around_in old (switching around)) own [] false items) (λ scope. elaborated.switch_of scope (each_in type_in old around.returned) own items) (λ scope. named_in_switch scope items) (λ scope. scope) first second)

-- ---- what a `for` begins with

abbrev pub MadeStart : ForTree → Pass → Pass → memory_start.ForStart → Type 0
MadeStart tree s t b = Makes IsStart (for_start (scope_of s.checker) tree).found (start_of (scope_of s.checker) tree) (named_in_start (scope_of s.checker) tree) (for_start (scope_of s.checker) tree).scope s t b

pub start-same : {tree tree' : ForTree} {s t : Pass} {b b' : memory_start.ForStart} → tree ≡ tree' → b ≡ b' → MadeStart tree' s t b' → MadeStart tree s t b
start-same {tree = tree} {s = s} {t = t} {b' = b'} et eb made = subst (λ (b : memory_start.ForStart). MadeStart tree s t b) (sym eb) (subst (λ tree. MadeStart tree s t b') (sym et) made)

pub start-nothing : {s : Pass} → MadeStart Trees.ForNothing s s F.Nothing
start-nothing {s = s} = record { covers = covers-none s; made = (tt, refl) }

pub start-value : (value : ExprTree) {s t : Pass} {v : memory_value.Value} → Makes IsValue (value_rules (scope_of s.checker) value) (unused (scope_of s.checker) value) (named_in (scope_of s.checker) value) (scope_of s.checker) s t v → MadeStart (Trees.ForExpression value) s t (F.Value v)
start-value value {t = t} {v = v} made = makes-of {Is = IsValue} {Is' = IsStart} (of-value t.checker.table v) made
  where
    of-value : (table : Interned) (v : memory_value.Value) {x : typed.Value} → IsValue table v x → IsStart table (F.Value v) (typed.StartValue x)
    of-value table v h = (h.0, ap typed.StartValue h.1)

pub start-locals : (tree : DeclarationTree) {s t : Pass} {locals : Vec memory_local.LocalDef Global} → Makes IsLocals (declaration (scope_of s.checker) tree).found (declared_locals (scope_of s.checker) tree) (named_in_declaration (scope_of s.checker) tree) (declaration (scope_of s.checker) tree).scope s t locals → MadeStart (Trees.ForDeclaration tree) s t (F.Locals locals)
start-locals tree {t = t} {locals = locals} made = makes-of {Is = IsLocals} {Is' = IsStart} (of-locals t.checker.table locals) made
  where
    of-locals : (table : Interned) (locals : Vec memory_local.LocalDef Global) {xs : List typed.LocalDef} → IsLocals table locals xs → IsStart table (F.Locals locals) (typed.StartLocals xs)
    of-locals table locals h = (h.0, ap typed.StartLocals h.1)

-- ---- the scope of a block

-- All but the locals of the innermost block is as there.
abbrev pub Within : Scope → Scope → Type 0
Within there scope = (inner : List LocalName) → record there { inner = inner } ≡ record scope { inner = inner }

within-declared : (name : Option NameTree) (c_type : Option CType) (scope : Scope) → Within (with_declared name c_type scope) scope
within-declared None c_type scope inner = refl
within-declared (Some name) c_type scope inner = refl

within-locals : (place : Pos) (base : Option CType) (trees : List InitDeclaratorTree) (scope : Scope) → Within (declare_locals place base trees scope).scope scope
within-locals place base [] scope inner = refl
within-locals place base (first ∷ others) scope inner =
    within-locals place base others (declare_local place base first scope).scope inner ∙ within-declared _ _ scope inner

pub within-declaration : (scope : Scope) (tree : DeclarationTree) → Within (declaration scope tree).scope scope
within-declaration scope tree inner = within-locals tree.words.place (words_type scope tree.words).known tree.declarators scope inner

pub within-start : (scope : Scope) (tree : ForTree) → Within (for_start scope tree).scope scope
within-start scope Trees.ForNothing inner = refl
within-start scope (Trees.ForExpression value) inner = refl
within-start scope (Trees.ForDeclaration tree) inner = within-declaration scope tree inner

pub within-block : (scope : Scope) (tree : BlockTree) → Within (behind_block scope tree) scope
within-block scope Trees.Close inner = refl
within-block scope (Trees.Declare tree others) inner = within-block (declaration scope tree).scope others inner ∙ within-declaration scope tree inner
within-block scope (Trees.Perform one others) inner = within-block scope others inner

-- the locals around it
pub outer-within : (there scope : Scope) → Within there (entered scope) → there.outer ≡ scope.inner ++ scope.outer
outer-within there scope within = λ i. (within [] i).outer

-- a pass leaves the innermost block
abbrev pub Leaves : ℕ → State → State → Type 0
Leaves outer old new = (inside around : List LocalName) → (scope_of old).outer ≡ inside ++ around → length around ≡ outer → ScopeGrows (record (scope_of old) { inner = inside; outer = around }) old new

-- there are as many locals to go back to
pub leaves-enough : {there : Scope} (scope : Scope) (t : State) (outer : ℕ) → scope_of t ≡ there → Within there (entered scope) → outer ≡ length scope.outer → outer ≤ length (scope_of t).outer
leaves-enough {there = there} scope t outer is within same =
    let outer_is : (scope_of t).outer ≡ scope.inner ++ scope.outer = ap (λ (s : Scope). s.outer) is ∙ outer-within there scope within in
    let long : length (scope_of t).outer ≡ length scope.inner + length scope.outer = ap length outer_is ∙ length-append scope.inner scope.outer in
    omega arith

-- what a pass made inside of a block, which it leaves
pub makes-left : {A B : Type 0} {Is : Interned → B → A → Type 0} {found : List Violation} {a : A} {named : List NamedType} {there : Scope} {s t u : Pass} {b : B} {outer : ℕ}
    → Stays Is → Makes Is found a named there s t b → Within there (entered (scope_of s.checker)) → outer ≡ length (scope_of s.checker).outer → Leaves outer t.checker u.checker → u.named.items ≡ t.named.items
    → Makes Is found a named (scope_of s.checker) s u b
makes-left {found = found} {named = named} {there = there} {s = s} stay made within same leave kept =
    let scope = scope_of s.checker in
    let leads = leave scope.inner scope.outer ((λ i. (made.covers.scope i).outer) ∙ outer-within there scope within) (sym same) in
    makes-same (append-nil found) refl (append-nil named) (λ i. record (within scope.inner i) { outer = scope.outer })
    (makes-then stay (λ _. []) (λ _. []) (λ now. record now { inner = scope.inner; outer = scope.outer }) made (covers-leads leads kept))

module _ (around : memory_around.Around) {s s0 t u : Pass} {outer : ℕ} (stand : AllStand Stands s.checker.table around.returned) (enters : ScopeGrows (entered (scope_of s.checker)) s.checker s0.checker) (same : outer ≡ length (scope_of s.checker).outer) (kept : s0.named.items ≡ s.named.items) where
  -- a block
  pub made-block : (tree : BlockTree) (items : Vec memory_item.BlockItem Global)
      → Makes IsBlock (block (scope_of s0.checker) (around_in s0.checker.table around) tree) (elaborated.block_of (scope_of s0.checker) (each_in type_in s0.checker.table around.returned) tree) (named_in_block (scope_of s0.checker) tree) (behind_block (scope_of s0.checker) tree) s0 t items
      → Leaves outer t.checker u.checker → u.named.items ≡ t.named.items → (place : Pos) → MadeStmt around s.checker.table (Trees.BlockStmt place tree) s u (S.Block items)
  made-block tree items made leave kept' place =
      let old = s.checker.table in
      let enter = covers-leads enters kept in
      let here = makes-same (λ i. block (scope_of s0.checker) (around-same old s0.checker.table enter.grows around stand i) tree) (λ i. elaborated.block_of (scope_of s0.checker) ((known-stays old s0.checker.table enter.grows around.returned stand).1 i) tree) refl refl made in
      let inside = makes-behind (λ scope. block scope (around_in old around) tree) (λ scope. elaborated.block_of scope (each_in type_in old around.returned) tree) (λ scope. named_in_block scope tree) (λ scope. behind_block scope tree) enter here in
      makes-left stays-stmt (makes-of {Is = IsBlock} {Is' = IsStmt} (of-block t.checker.table items) inside) (within-block (entered (scope_of s.checker)) tree) same leave kept'

  -- a `for`
  pub made-for : {s1 s2 s3 : Pass} (first : ForTree) (condition step : Option ExprTree) (body : StmtTree) (start : memory_start.ForStart) (v w : Option memory_value.Value) (b : Box memory_stmt.Stmt Global)
      → Makes IsStart (for_start (scope_of s0.checker) first).found (start_of (scope_of s0.checker) first) (named_in_start (scope_of s0.checker) first) (for_start (scope_of s0.checker) first).scope s0 s1 start
      → Makes IsOptionalValue (optional_rules (condition_rules (scope_of s1.checker)) condition) (mapped (test_of (scope_of s1.checker)) condition) (named_in_value (scope_of s1.checker) condition) (scope_of s1.checker) s1 s2 v
      → Makes IsOptionalValue (optional_rules (value_rules (scope_of s2.checker)) step) (mapped (unused (scope_of s2.checker)) step) (named_in_value (scope_of s2.checker) step) (scope_of s2.checker) s2 s3 w
      → MadeStmt (looping around) s3.checker.table body s3 t b.value
      → Leaves outer t.checker u.checker → u.named.items ≡ t.named.items → (place : Pos) → MadeStmt around s.checker.table (Trees.For place first condition step body) s u (S.For start v w b)
  made-for {s1 = s1} {s2 = s2} {s3 = s3} first condition step body start v w b started tested stepped made leave kept' place =
      let old = s.checker.table in
      let result = each_in type_in old around.returned in
      let around' = within_loop (around_in old around) in
      let enter = covers-leads enters kept in
      let scope = entered (scope_of s.checker) in
      let inside = (for_start scope first).scope in
      let begun = makes-behind (λ scope. (for_start scope first).found) (λ scope. start_of scope first) (λ scope. named_in_start scope first) (λ scope. (for_start scope first).scope) enter started in
      let far1 = begun.covers.grows in
      let far2 = grows_trans old s1.checker.table s2.checker.table far1 tested.covers.grows in
      let far3 = grows_trans old s2.checker.table s3.checker.table far2 stepped.covers.grows in
      let own = stmt-before (looping around) body old s3.checker.table far3 stand made in
      let both = makes-both stays-optional (λ scope. stmt scope around' body) (λ scope. stmt_of scope result body) (λ scope. named_in_stmt scope body) (λ scope. scope) stepped own in
      let three = makes-both stays-optional (λ scope. optional_rules (value_rules scope) step ++ stmt scope around' body) (λ scope. (mapped (unused scope) step, stmt_of scope result body)) (λ scope. named_in_value scope step ++ named_in_stmt scope body) (λ scope. scope) tested both in
      let all = makes-both stays-start (λ scope. optional_rules (condition_rules scope) condition ++ (optional_rules (value_rules scope) step ++ stmt scope around' body)) (λ scope. (mapped (test_of scope) condition, (mapped (unused scope) step, stmt_of scope result body))) (λ scope. named_in_value scope condition ++ (named_in_value scope step ++ named_in_stmt scope body)) (λ scope. scope) begun three in
      let names = sym (append_assoc (named_in_start scope first) (named_in_value inside condition) (named_in_value inside step ++ named_in_stmt inside body)) ∙ sym (append_assoc (named_in_start scope first ++ named_in_value inside condition) (named_in_value inside step) (named_in_stmt inside body)) in
      let found = sym (append_assoc (for_start scope first).found (optional_rules (condition_rules inside) condition) (optional_rules (value_rules inside) step ++ stmt inside around' body)) ∙ sym (append_assoc ((for_start scope first).found ++ optional_rules (condition_rules inside) condition) (optional_rules (value_rules inside) step) (stmt inside around' body)) in
      let whole = makes-same found refl names refl (makes-of {Is = IsBoth IsStart (IsBoth IsOptionalValue (IsBoth IsOptionalValue IsStmt))} {Is' = IsStmt} (of-for t.checker.table start v w b) all) in
      makes-left stays-stmt whole (within-start scope first) same leave kept'

-- ---- blocks

-- one block behind another
abbrev pub behind : typed.Block → typed.Block → typed.Block
behind typed.Close more = more
behind (typed.Declare local others) more = typed.Declare local (behind others more)
behind (typed.Perform one others) more = typed.Perform one (behind others more)

behind-close : (first : typed.Block) → behind first typed.Close ≡ first
behind-close typed.Close = refl
behind-close (typed.Declare local others) = ap (typed.Declare local) (behind-close others)
behind-close (typed.Perform one others) = ap (typed.Perform one) (behind-close others)

behind-behind : (first second third : typed.Block) → behind (behind first second) third ≡ behind first (behind second third)
behind-behind typed.Close second third = refl
behind-behind (typed.Declare local others) second third = ap (typed.Declare local) (behind-behind others second third)
behind-behind (typed.Perform one others) second third = ap (typed.Perform one) (behind-behind others second third)

behind-each : (locals : List typed.LocalDef) (more : typed.Block) → behind (declare_each locals typed.Close) more ≡ declare_each locals more
behind-each [] more = refl
behind-each (first ∷ others) more = ap (typed.Declare first) (behind-each others more)

behind-item : (scope : Scope) (result : Option CType) (item : syntax_item.BlockItem) (more : typed.Block) → behind (item_adds scope result item typed.Close) more ≡ item_adds scope result item more
behind-item scope result (SB.Declaration tree) more = behind-each (declared_locals scope (declaration_tree tree)) more
behind-item scope result (SB.Statement one) more = refl

module _ (table : Interned) where
  block_in-append : (items more : List memory_item.BlockItem) → block_in table (items ++ more) ≡ behind (block_in table items) (block_in table more)
  block_in-append [] more = refl
  block_in-append (B.Local local ∷ others) more = ap (typed.Declare (local_in table local)) (block_in-append others more)
  block_in-append (B.Statement one ∷ others) more = ap (typed.Perform (stmt_in table one)) (block_in-append others more)

  BlockStands-append : (items more : List memory_item.BlockItem) → BlockStands table items → BlockStands table more → BlockStands table (items ++ more)
  BlockStands-append [] more h h' = h'
  BlockStands-append (B.Local local ∷ others) more h h' = (h.0, BlockStands-append others more h.1 h')
  BlockStands-append (B.Statement one ∷ others) more h h' = (h.0, BlockStands-append others more h.1 h')

-- a block by its first item
block-item : (scope : Scope) (around : FunctionContext) (item : syntax_item.BlockItem) (others : List syntax_item.BlockItem) → block scope around (block_of (item ∷ others)) ≡ item_found scope around item ++ block (item_scope scope item) around (block_of others)
block-item scope around (SB.Declaration tree) others = refl
block-item scope around (SB.Statement one) others = refl

named-item : (scope : Scope) (item : syntax_item.BlockItem) (others : List syntax_item.BlockItem) → named_in_block scope (block_of (item ∷ others)) ≡ item_named scope item ++ named_in_block (item_scope scope item) (block_of others)
named-item scope (SB.Declaration tree) others = refl
named-item scope (SB.Statement one) others = refl

adds-item : (scope : Scope) (result : Option CType) (item : syntax_item.BlockItem) (others : List syntax_item.BlockItem) → elaborated.block_of scope result (block_of (item ∷ others)) ≡ item_adds scope result item (elaborated.block_of (item_scope scope item) result (block_of others))
adds-item scope result (SB.Declaration tree) others = refl
adds-item scope result (SB.Statement one) others = refl

behind-item_scope : (scope : Scope) (item : syntax_item.BlockItem) (others : List syntax_item.BlockItem) → behind_block scope (block_of (item ∷ others)) ≡ behind_block (item_scope scope item) (block_of others)
behind-item_scope scope (SB.Declaration tree) others = refl
behind-item_scope scope (SB.Statement one) others = refl

-- What was made of a block's items so far, before those that are left.
pub record BlockFar (around : FunctionContext) (s : Pass) (all left : List syntax_item.BlockItem) (t : Pass) (made : List memory_item.BlockItem) : Type 0 where
  pub found : List Violation
  pub named : List NamedType
  pub covers : Covers found named (scope_of t.checker) s t
  pub finds : found ++ block (scope_of t.checker) around (block_of left) ≡ block (scope_of s.checker) around (block_of all)
  pub names : named ++ named_in_block (scope_of t.checker) (block_of left) ≡ named_in_block (scope_of s.checker) (block_of all)
  pub leads : behind_block (scope_of t.checker) (block_of left) ≡ behind_block (scope_of s.checker) (block_of all)
  pub stands : BlockStands t.checker.table made
  pub means : behind (block_in t.checker.table made) (elaborated.block_of (scope_of t.checker) around.result (block_of left)) ≡ elaborated.block_of (scope_of s.checker) around.result (block_of all)

pub block-none : (around : FunctionContext) (s : Pass) (all : List syntax_item.BlockItem) → BlockFar around s all all s []
block-none around s all = record { found = []; named = []; covers = covers-none s; finds = refl; names = refl; leads = refl; stands = tt; means = refl }

-- one item more, which is added in the scope before it
pub block-more : (around : FunctionContext) (s t u : Pass) (all : List syntax_item.BlockItem) (item : syntax_item.BlockItem) (left : List syntax_item.BlockItem) (old new : List memory_item.BlockItem)
    → Covers (item_found (scope_of t.checker) around item) (item_named (scope_of t.checker) item) (item_scope (scope_of t.checker) item) t u
    → AddsItems (item_adds (scope_of t.checker) around.result item) u.checker.table old new
    → BlockFar around s all (item ∷ left) t old → BlockFar around s all left u new
block-more around s t u all item left old new covers adds far =
    let scope = scope_of t.checker in
    let result = around.result in
    let kept = block_stays t.checker.table u.checker.table covers.grows old far.stands in
    let rest = elaborated.block_of (scope_of u.checker) result (block_of left) in
    let same_added : block_in u.checker.table adds.added ≡ item_adds scope result item typed.Close = ap (block_in u.checker.table) (sym (append-nil adds.added)) ∙ adds.means [] in
    record {
      found = far.found ++ item_found scope around item;
      named = far.named ++ item_named scope item;
      covers = covers-same refl refl (sym covers.scope) (covers-then (λ _. item_found scope around item) (λ _. item_named scope item) (λ _. item_scope scope item) far.covers covers);
      finds = append_assoc far.found (item_found scope around item) (block (scope_of u.checker) around (block_of left))
          ∙ (λ i. far.found ++ (item_found scope around item ++ block (covers.scope i) around (block_of left)))
          ∙ ap (λ xs. far.found ++ xs) (sym (block-item scope around item left)) ∙ far.finds;
      names = append_assoc far.named (item_named scope item) (named_in_block (scope_of u.checker) (block_of left))
          ∙ (λ i. far.named ++ (item_named scope item ++ named_in_block (covers.scope i) (block_of left)))
          ∙ ap (λ xs. far.named ++ xs) (sym (named-item scope item left)) ∙ far.names;
      leads = (λ i. behind_block (covers.scope i) (block_of left)) ∙ sym (behind-item_scope scope item left) ∙ far.leads;
      stands = subst (BlockStands u.checker.table) (sym adds.is) (BlockStands-append u.checker.table old adds.added kept.0 adds.stand);
      means = (λ i. behind (block_in u.checker.table (adds.is i)) rest)
          ∙ ap (λ b. behind b rest) (block_in-append u.checker.table old adds.added)
          ∙ (λ i. behind (behind (kept.1 i) (same_added i)) rest)
          ∙ behind-behind (block_in t.checker.table old) (item_adds scope result item typed.Close) rest
          ∙ ap (behind (block_in t.checker.table old)) (behind-item scope result item rest
          ∙ (λ i. item_adds scope result item (elaborated.block_of (covers.scope i) result (block_of left)))
          ∙ sym (adds-item scope result item left))
          ∙ far.means;
    }

-- where none are left
pub block-end : {around : FunctionContext} {s t : Pass} {all : List syntax_item.BlockItem} (made : Vec memory_item.BlockItem Global) → BlockFar around s all [] t made.items
    → Makes IsBlock (block (scope_of s.checker) around (block_of all)) (elaborated.block_of (scope_of s.checker) around.result (block_of all)) (named_in_block (scope_of s.checker) (block_of all)) (behind_block (scope_of s.checker) (block_of all)) s t made
block-end {t = t} made far =
    record {
      covers = covers-same (sym (append-nil far.found) ∙ far.finds) (sym (append-nil far.named) ∙ far.names) far.leads far.covers;
      made = (far.stands, sym (behind-close (block_in t.checker.table made.items)) ∙ far.means);
    }

-- one statement is added
pub adds-statement : (table : Interned) (one : memory_stmt.Stmt) (tree : typed.Stmt) (old new : List memory_item.BlockItem) → IsStmt table one tree → new ≡ old ++ B.Statement one ∷ [] → AddsItems (typed.Perform tree) table old new
adds-statement table one tree old new h is =
    record { added = B.Statement one ∷ []; is = is; stand = (h.0, tt); means = λ more. ap (λ s. typed.Perform s (block_in table more)) h.1 }

-- ---- `switch`

-- the same labels have the same violations
repeats-same : (labels others : List ℤ) (label : Option ℤ) → SameLabels labels others → repeats labels label ≡ repeats others label
repeats-same labels others None same = refl
repeats-same labels others (Some label) same = same label

with-same : (labels others : List ℤ) (label : Option ℤ) → SameLabels labels others → SameLabels (with_label label labels) (with_label label others)
with-same labels others None same label = same label
with-same labels others (Some first) same label = ap (λ has. int_eq first label || has) (same label)

pub labels-same : (scope : Scope) (around : FunctionContext) (int_type : Option IntType) (labels others : List ℤ) (has_default : Bool) (tree : SwitchTree) → SameLabels labels others → switch_items scope around int_type labels has_default tree ≡ switch_items scope around int_type others has_default tree
labels-same scope around int_type labels others has_default Trees.SwitchEnd same = refl
labels-same scope around int_type labels others has_default (Trees.Case place value rest) same =
    let stated = as_constant (place_of value) (expr scope value) in
    let label = converted_label int_type stated.known in
    λ i. stated.found ++ unless (not (repeats-same labels others label same i)) T.T21 place ++ labels-same scope around int_type (with_label label labels) (with_label label others) has_default rest (with-same labels others label same) i
labels-same scope around int_type labels others has_default (Trees.Default place rest) same =
    ap (λ xs. unless (not has_default) T.T21 place ++ xs) (labels-same scope around int_type labels others true rest same)
labels-same scope around int_type labels others has_default (Trees.SwitchStmt one rest) same =
    ap (λ xs. stmt scope around one ++ xs) (labels-same scope around int_type labels others has_default rest same)

abbrev pub switch_behind : typed.SwitchItems → typed.SwitchItems → typed.SwitchItems
switch_behind typed.SwitchEnd more = more
switch_behind (typed.Case label others) more = typed.Case label (switch_behind others more)
switch_behind (typed.Default others) more = typed.Default (switch_behind others more)
switch_behind (typed.SwitchStmt one others) more = typed.SwitchStmt one (switch_behind others more)

switch_behind-end : (first : typed.SwitchItems) → switch_behind first typed.SwitchEnd ≡ first
switch_behind-end typed.SwitchEnd = refl
switch_behind-end (typed.Case label others) = ap (typed.Case label) (switch_behind-end others)
switch_behind-end (typed.Default others) = ap typed.Default (switch_behind-end others)
switch_behind-end (typed.SwitchStmt one others) = ap (typed.SwitchStmt one) (switch_behind-end others)

switch_behind-behind : (first second third : typed.SwitchItems) → switch_behind (switch_behind first second) third ≡ switch_behind first (switch_behind second third)
switch_behind-behind typed.SwitchEnd second third = refl
switch_behind-behind (typed.Case label others) second third = ap (typed.Case label) (switch_behind-behind others second third)
switch_behind-behind (typed.Default others) second third = ap typed.Default (switch_behind-behind others second third)
switch_behind-behind (typed.SwitchStmt one others) second third = ap (typed.SwitchStmt one) (switch_behind-behind others second third)

behind-part : (scope : Scope) (result : Option CType) (int_type : Option IntType) (item : syntax_switch.SwitchItem) (more : typed.SwitchItems) → switch_behind (part_adds scope result int_type item typed.SwitchEnd) more ≡ part_adds scope result int_type item more
behind-part scope result int_type (SW.Case place value) more = refl
behind-part scope result int_type (SW.Default place) more = refl
behind-part scope result int_type (SW.Statement one) more = refl

module _ (table : Interned) where
  switch_in-append : (items more : List memory_switch.SwitchItem) → switch_in table (items ++ more) ≡ switch_behind (switch_in table items) (switch_in table more)
  switch_in-append [] more = refl
  switch_in-append (W.Case label ∷ others) more = ap (typed.Case label) (switch_in-append others more)
  switch_in-append (W.Default ∷ others) more = ap typed.Default (switch_in-append others more)
  switch_in-append (W.Statement one ∷ others) more = ap (typed.SwitchStmt (stmt_in table one)) (switch_in-append others more)

  SwitchStands-append : (items more : List memory_switch.SwitchItem) → SwitchStands table items → SwitchStands table more → SwitchStands table (items ++ more)
  SwitchStands-append [] more h h' = h'
  SwitchStands-append (W.Case label ∷ others) more h h' = SwitchStands-append others more h h'
  SwitchStands-append (W.Default ∷ others) more h h' = SwitchStands-append others more h h'
  SwitchStands-append (W.Statement one ∷ others) more h h' = (h.0, SwitchStands-append others more h.1 h')

-- the items of a `switch` by the first
switch-part : (scope : Scope) (around : FunctionContext) (int_type : Option IntType) (labels : List ℤ) (has_default : Bool) (item : syntax_switch.SwitchItem) (others : List syntax_switch.SwitchItem)
    → switch_items scope around int_type labels has_default (switch_of (item ∷ others)) ≡ part_found scope around int_type labels has_default item ++ switch_items scope around int_type (part_labels scope int_type item labels) (part_default item has_default) (switch_of others)
switch-part scope around int_type labels has_default (SW.Case place value) others = refl
switch-part scope around int_type labels has_default (SW.Default place) others = refl
switch-part scope around int_type labels has_default (SW.Statement one) others = refl

named-part : (scope : Scope) (item : syntax_switch.SwitchItem) (others : List syntax_switch.SwitchItem) → named_in_switch scope (switch_of (item ∷ others)) ≡ part_named scope item ++ named_in_switch scope (switch_of others)
named-part scope (SW.Case place value) others = refl
named-part scope (SW.Default place) others = refl
named-part scope (SW.Statement one) others = refl

adds-part : (scope : Scope) (result : Option CType) (int_type : Option IntType) (item : syntax_switch.SwitchItem) (others : List syntax_switch.SwitchItem) → elaborated.switch_of scope result int_type (switch_of (item ∷ others)) ≡ part_adds scope result int_type item (elaborated.switch_of scope result int_type (switch_of others))
adds-part scope result int_type (SW.Case place value) others = refl
adds-part scope result int_type (SW.Default place) others = refl
adds-part scope result int_type (SW.Statement one) others = refl

-- What was made of a `switch` so far, before the items that are left.
pub record SwitchFar (around : FunctionContext) (int_type : Option IntType) (s : Pass) (all left : List syntax_switch.SwitchItem) (labels : List ℤ) (has_default : Bool) (t : Pass) (made : List memory_switch.SwitchItem) : Type 0 where
  pub found : List Violation
  pub named : List NamedType
  pub covers : Covers found named (scope_of s.checker) s t
  pub finds : found ++ switch_items (scope_of s.checker) around int_type labels has_default (switch_of left) ≡ switch_items (scope_of s.checker) around int_type [] false (switch_of all)
  pub names : named ++ named_in_switch (scope_of s.checker) (switch_of left) ≡ named_in_switch (scope_of s.checker) (switch_of all)
  pub stands : SwitchStands t.checker.table made
  pub means : switch_behind (switch_in t.checker.table made) (elaborated.switch_of (scope_of s.checker) around.result int_type (switch_of left)) ≡ elaborated.switch_of (scope_of s.checker) around.result int_type (switch_of all)

pub switch-none : (around : FunctionContext) (int_type : Option IntType) (s : Pass) (all : List syntax_switch.SwitchItem) (labels : List ℤ) (has_default : Bool) → labels ≡ [] → has_default ≡ false → SwitchFar around int_type s all all labels has_default s []
switch-none around int_type s all labels has_default none fresh =
    record { found = []; named = []; covers = covers-none s; finds = λ i. switch_items (scope_of s.checker) around int_type (none i) (fresh i) (switch_of all); names = refl; stands = tt; means = refl }

pub switch-more : (around : FunctionContext) (int_type : Option IntType) (s t u : Pass) (all : List syntax_switch.SwitchItem) (item : syntax_switch.SwitchItem) (left : List syntax_switch.SwitchItem) (labels labels' : List ℤ) (has_default has_default' : Bool) (old new : List memory_switch.SwitchItem) (one : memory_switch.SwitchItem)
    → Makes IsPart (part_found (scope_of t.checker) around int_type labels has_default item) (part_adds (scope_of t.checker) around.result int_type item) (part_named (scope_of t.checker) item) (scope_of t.checker) t u one
    → SameLabels labels' (part_labels (scope_of t.checker) int_type item labels) → has_default' ≡ part_default item has_default → new ≡ old ++ one ∷ []
    → SwitchFar around int_type s all (item ∷ left) labels has_default t old → SwitchFar around int_type s all left labels' has_default' u new
switch-more around int_type s t u all item left labels labels' has_default has_default' old new one part same_labels same_default is far =
    let scope = scope_of s.checker in
    let here : scope_of t.checker ≡ scope = far.covers.scope in
    let result = around.result in
    let kept = switch_stays t.checker.table u.checker.table part.covers.grows old far.stands in
    let rest = elaborated.switch_of scope result int_type (switch_of left) in
    let same_one : switch_in u.checker.table (one ∷ []) ≡ part_adds scope result int_type item typed.SwitchEnd = part.made.1 [] ∙ (λ i. part_adds (here i) result int_type item typed.SwitchEnd) in
    let left_same : switch_items scope around int_type labels' has_default' (switch_of left) ≡ switch_items scope around int_type (part_labels scope int_type item labels) (part_default item has_default) (switch_of left)
    = labels-same scope around int_type labels' (part_labels (scope_of t.checker) int_type item labels) has_default' (switch_of left) same_labels ∙ (λ i. switch_items scope around int_type (part_labels (here i) int_type item labels) (same_default i) (switch_of left)) in
    record {
      found = far.found ++ part_found scope around int_type labels has_default item;
      named = far.named ++ part_named scope item;
      covers = covers-then (λ scope. part_found scope around int_type labels has_default item) (λ scope. part_named scope item) (λ scope. scope) far.covers part.covers;
      finds = append_assoc far.found (part_found scope around int_type labels has_default item) (switch_items scope around int_type labels' has_default' (switch_of left))
          ∙ ap (λ xs. far.found ++ xs) (ap (λ xs. part_found scope around int_type labels has_default item ++ xs) left_same ∙ sym (switch-part scope around int_type labels has_default item left)) ∙ far.finds;
      names = append_assoc far.named (part_named scope item) (named_in_switch scope (switch_of left)) ∙ ap (λ xs. far.named ++ xs) (sym (named-part scope item left)) ∙ far.names;
      stands = subst (SwitchStands u.checker.table) (sym is) (SwitchStands-append u.checker.table old (one ∷ []) kept.0 part.made.0);
      means = (λ i. switch_behind (switch_in u.checker.table (is i)) rest)
          ∙ ap (λ b. switch_behind b rest) (switch_in-append u.checker.table old (one ∷ []))
          ∙ (λ i. switch_behind (switch_behind (kept.1 i) (same_one i)) rest)
          ∙ switch_behind-behind (switch_in t.checker.table old) (part_adds scope result int_type item typed.SwitchEnd) rest
          ∙ ap (switch_behind (switch_in t.checker.table old)) (behind-part scope result int_type item rest ∙ sym (adds-part scope result int_type item left))
          ∙ far.means;
    }

pub switch-end : {around : FunctionContext} {int_type : Option IntType} {s t : Pass} {all : List syntax_switch.SwitchItem} {labels : List ℤ} {has_default : Bool} (made : Vec memory_switch.SwitchItem Global) → SwitchFar around int_type s all [] labels has_default t made.items
    → Makes IsSwitchItems (switch_items (scope_of s.checker) around int_type [] false (switch_of all)) (elaborated.switch_of (scope_of s.checker) around.result int_type (switch_of all)) (named_in_switch (scope_of s.checker) (switch_of all)) (scope_of s.checker) s t made
switch-end {t = t} made far =
    record {
      covers = covers-same (sym (append-nil far.found) ∙ far.finds) (sym (append-nil far.named) ∙ far.names) refl far.covers;
      made = (far.stands, sym (switch_behind-end (switch_in t.checker.table made.items)) ∙ far.means);
    }

-- ---- one item of a `switch`

-- What is made of one, behind these labels.
abbrev pub MadePart : memory_around.Around → Interned → Option IntType → List ℤ → Bool → syntax_switch.SwitchItem → Pass → Pass → memory_switch.SwitchItem → Type 0
MadePart around table int_type labels has_default item s t b =
    Makes IsPart (part_found (scope_of s.checker) (around_in table around) int_type labels has_default item) (part_adds (scope_of s.checker) (each_in type_in table around.returned) int_type item) (part_named (scope_of s.checker) item) (scope_of s.checker) s t b

pub part-item : (around : memory_around.Around) (table : Interned) (int_type : Option IntType) (labels : List ℤ) (has_default : Bool) {item item' : syntax_switch.SwitchItem} {s t : Pass} {b : memory_switch.SwitchItem} → item ≡ item' → MadePart around table int_type labels has_default item' s t b → MadePart around table int_type labels has_default item s t b
part-item around table int_type labels has_default {s = s} {t = t} {b = b} e made = subst (λ item. MadePart around table int_type labels has_default item s t b) (sym e) made

same-known : {A : Type 0} (stated known : Option A) → IsOption (λ b a. b ≡ a) stated known → stated ≡ known
same-known (Some b) (Some a) h = ap Some h
same-known (Some b) None h = absurd h
same-known None (Some a) h = absurd h
same-known None None h = refl

or-zero : (label : Option ℤ) → unwrap_or label (pos 0) ≡ label_or_zero label
or-zero None = refl
or-zero (Some label) = refl

-- the label of a `case`
pub label-same : (scope : Scope) (value : ExprTree) (table : Interned) (int_type : Option IntType) (stated : Option ℤ) {label : Option ℤ} → IsOption (IsSame table) stated (as_constant (place_of value) (expr scope value)).known → label ≡ converted_label int_type stated → label ≡ label_of scope int_type value
label-same scope value table int_type stated known is = is ∙ ap (converted_label int_type) (same-known stated (as_constant (place_of value) (expr scope value)).known known)

module _ (around : memory_around.Around) (table : Interned) (int_type : Option IntType) (labels : List ℤ) (has_default : Bool) where
  pub part-case : {s t u : Pass} (place : Pos) (value : Expr) {stated label : Option ℤ} {is_new : Bool} (z : ℤ) → Passes IsSame (as_constant (place_of (expr_tree value)) (expr (scope_of s.checker) (expr_tree value))) (named_in (scope_of s.checker) (expr_tree value)) s t stated
      → label ≡ converted_label int_type stated → is_new ≡ not (repeats labels label) → z ≡ unwrap_or label (pos 0) → u.checker ≡ record t.checker { least = noted t.checker.least (unless is_new T.T21 place) } → u.named.items ≡ t.named.items
      → MadePart around table int_type labels has_default (SW.Case place value) s u (W.Case z)
  part-case {s = s} {t = t} {u = u} place value {stated = stated} {label = label} {is_new = is_new} z passes is new here noted_there kept =
      let tree = expr_tree value in
      let scope = scope_of s.checker in
      let stated_found = (as_constant (place_of tree) (expr scope tree)).found in
      let own : label ≡ label_of scope int_type tree = label-same scope tree t.checker.table int_type stated {label = label} passes.finds.known is in
      let holds : is_new ≡ not (repeats labels (label_of scope int_type tree)) = new ∙ ap (λ l. not (repeats labels l)) own in
      record {
        covers = covers-same (ap (λ holds. stated_found ++ unless holds T.T21 place) holds) (append-nil (named_in scope tree)) refl
            (covers-then (λ _. unless is_new T.T21 place) (λ _. []) (λ scope. scope) (covers-passes passes) (covers-noted (unless is_new T.T21 place) noted_there kept));
        made = (tt, λ more. ap (λ z. typed.Case z (switch_in u.checker.table more)) (here ∙ or-zero label ∙ ap label_or_zero own));
      }

  pub part-default : {s u : Pass} (place : Pos) {is_first : Bool} → is_first ≡ not has_default → u.checker ≡ record s.checker { least = noted s.checker.least (unless is_first T.T21 place) } → u.named.items ≡ s.named.items
      → MadePart around table int_type labels has_default (SW.Default place) s u W.Default
  part-default place {is_first = is_first} first noted_there kept =
      record { covers = covers-same (ap (λ holds. unless holds T.T21 place) first) refl refl (covers-noted (unless is_first T.T21 place) noted_there kept); made = (tt, λ more. refl) }

  pub part-statement : {s t : Pass} (one : memory_syntax.Stmt) (made : memory_stmt.Stmt) → MadeStmt around table (stmt_tree one) s t made → MadePart around table int_type labels has_default (SW.Statement one) s t (W.Statement made)
  part-statement {t = t} one made makes = record { covers = makes.covers; made = ((makes.made.0, tt), λ more. ap (λ s. typed.SwitchStmt s (switch_in t.checker.table more)) makes.made.1) }

-- `break` and `continue`, where they may not stand
module _ (around : memory_around.Around) (table : Interned) {s u : Pass} (place : Pos) (kept : u.named.items ≡ s.named.items) where
  pub made-break : u.checker ≡ record s.checker { least = noted s.checker.least (unless around.may_break T.T20 place) } → MadeStmt around table (Trees.Break place) s u S.Break
  made-break noted_there = record { covers = covers-noted (unless around.may_break T.T20 place) noted_there kept; made = (tt, refl) }

  pub made-continue : u.checker ≡ record s.checker { least = noted s.checker.least (unless around.may_continue T.T20 place) } → MadeStmt around table (Trees.Continue place) s u S.Continue
  made-continue noted_there = record { covers = covers-noted (unless around.may_continue T.T20 place) noted_there kept; made = (tt, refl) }

-- ---- the steps of loops, in the surroundings of the function

module _ (around : memory_around.Around) (s t u : Pass) (stand : AllStand Stands s.checker.table around.returned) where
  pub block-step : {all rest left : List syntax_item.BlockItem} {item : syntax_item.BlockItem} {old new : List memory_item.BlockItem} → rest ≡ item ∷ left
      → Covers (item_found (scope_of t.checker) (around_in t.checker.table around) item) (item_named (scope_of t.checker) item) (item_scope (scope_of t.checker) item) t u
      → AddsItems (item_adds (scope_of t.checker) (each_in type_in t.checker.table around.returned) item) u.checker.table old new
      → BlockFar (around_in s.checker.table around) s all rest t old → BlockFar (around_in s.checker.table around) s all left u new
  block-step {all = all} {left = left} {item = item} {old = old} {new = new} e covers adds far =
      let grows = far.covers.grows in
      let scope = scope_of t.checker in
      block-more (around_in s.checker.table around) s t u all item left old new
      (subst (λ (a : FunctionContext). Covers (item_found scope a item) (item_named scope item) (item_scope scope item) t u) (around-same s.checker.table t.checker.table grows around stand) covers)
      (subst (λ (r : Option CType). AddsItems (item_adds scope r item) u.checker.table old new) (known-stays s.checker.table t.checker.table grows around.returned stand).1 adds)
      (subst (λ left. BlockFar (around_in s.checker.table around) s all left t old) e far)

  pub switch-step : {all rest left : List syntax_switch.SwitchItem} {item : syntax_switch.SwitchItem} {int_type : Option IntType} {labels labels' : List ℤ} {has_default has_default' : Bool} {old new : List memory_switch.SwitchItem} {one : memory_switch.SwitchItem} → rest ≡ item ∷ left
      → MadePart around t.checker.table int_type labels has_default item t u one
      → SameLabels labels' (part_labels (scope_of t.checker) int_type item labels) → has_default' ≡ part_default item has_default → new ≡ old ++ one ∷ []
      → SwitchFar (around_in s.checker.table around) int_type s all rest labels has_default t old → SwitchFar (around_in s.checker.table around) int_type s all left labels' has_default' u new
  switch-step {all = all} {left = left} {item = item} {int_type = int_type} {labels = labels} {labels' = labels'} {has_default = has_default} {has_default' = has_default'} {old = old} {new = new} {one = one} e part same_labels same_default is far =
      let grows = far.covers.grows in
      let scope = scope_of t.checker in
      let own = makes-same (λ i. part_found scope (around-same s.checker.table t.checker.table grows around stand i) int_type labels has_default item) (λ i. part_adds scope ((known-stays s.checker.table t.checker.table grows around.returned stand).1 i) int_type item) refl refl part in
      switch-more (around_in s.checker.table around) int_type s t u all item left labels labels' has_default has_default' old new one own same_labels same_default is
      (subst (λ left. SwitchFar (around_in s.checker.table around) int_type s all left labels has_default t old) e far)

-- where none are left
pub block-all : {around : FunctionContext} {s t : Pass} {all rest : List syntax_item.BlockItem} (made : Vec memory_item.BlockItem Global) → rest ≡ [] → BlockFar around s all rest t made.items
    → Makes IsBlock (block (scope_of s.checker) around (block_of all)) (elaborated.block_of (scope_of s.checker) around.result (block_of all)) (named_in_block (scope_of s.checker) (block_of all)) (behind_block (scope_of s.checker) (block_of all)) s t made
block-all {around = around} {s = s} {t = t} {all = all} made e far = block-end made (subst (λ left. BlockFar around s all left t made.items) e far)

pub switch-all : {around : FunctionContext} {int_type : Option IntType} {s t : Pass} {all rest : List syntax_switch.SwitchItem} {labels : List ℤ} {has_default : Bool} (made : Vec memory_switch.SwitchItem Global) → rest ≡ [] → SwitchFar around int_type s all rest labels has_default t made.items
    → Makes IsSwitchItems (switch_items (scope_of s.checker) around int_type [] false (switch_of all)) (elaborated.switch_of (scope_of s.checker) around.result int_type (switch_of all)) (named_in_switch (scope_of s.checker) (switch_of all)) (scope_of s.checker) s t made
switch-all {around = around} {int_type = int_type} {s = s} {t = t} {all = all} {labels = labels} {has_default = has_default} made e far = switch-end made (subst (λ left. SwitchFar around int_type s all left labels has_default t made.items) e far)
