-- What a pass finds of a node of a tree, where it has found that of the node's parts.
use Rattle.std.proofs.Common.{◌≡◌, [], Option, Some, None, Result, Ok, Err, IfOk, refl, sym, ap, subst, ◌∙◌}
use Rattle.run_theory.specs.declared.place.Pos.{Pos}
use Rattle.c_syntax.specs.declared.operator.PrefixOperator.{PrefixOperator}
use Rattle.c_syntax.specs.declared.operator.PrefixOperator.TheVariants as P
use Rattle.c_syntax.specs.declared.expr.Expr.{Expr}
use Rattle.c_syntax.specs.declared.expr.TypeName as memory_type
use Rattle.c_syntax.specs.declared.expr.TypeName.{out-TypeName, roll-out-TypeName}
use Rattle.c_syntax.specs.Trees.{ExprTree}
use Rattle.c_syntax.specs.Views.{expr_tree, type_tree}
use Rattle.c_syntax.proofs.SyntaxRows.{type_tree-name}
use Rattle.c_typed.specs.Table.{Interned}
use Rattle.c_typed.proofs.Grown.{grows_refl}
use Rattle.c_types_state.specs.declared.known.Known as memory_known
use Rattle.c_rules.specs.Names.{Scope}
use Rattle.c_rules.specs.Known.{Checked, Known, give, given, known_already, with_known, value_rule}
use Rattle.c_rules.specs.Operators.{prefixed, integer_rule, scalar_rule, dereferenced, with_plus, with_minus, with_complement, logical_not, condition_of}
use Rattle.c_rules.specs.Expressions.{expr, place_of, type_place}
use Rattle.c_types_state.specs.NameTables.{State, scope_of}
use Rattle.c_types_state.specs.Finding.{Finds, IsExpr, ExprStands, expr_in, AllStand, each_in, IsOption}
use Rattle.c_types_state.specs.Staying.{IsSeen}
use Rattle.c_types_state.proofs.Findings.{finds-give}
use Rattle.c_types_expressions.specs.Unary.{prefixed_rule}
use Rattle.c_types_expressions.specs.declared.pass.Pass.{Pass}
use Rattle.c_rules.specs.Named.{named_in}
use Rattle.c_types_expressions.specs.Forms.{grouped_rule, grouped_known}
use Rattle.c_types_expressions.specs.Passes.{Passes}
use Rattle.c_types_expressions.proofs.Naming.{passes-plain}
use Rattle.c_types_expressions.proofs.Giving.{given-given, stands-now}
use Rattle.c_types_expressions.proofs.Passing.{passes-one, with_checker}

-- ---- what is known already

module _ {A B : Type 0} (Stand : Interned → B → Type 0) (view : Interned → B → A) where
  each-seen : (table : Interned) (r : Option B) → AllStand Stand table r → IsOption (IsSeen Stand view table) r (each_in view table r)
  each-seen table None h = tt
  each-seen table (Some b) h = (h, refl)

  pub finds-already : (s : State) (r : Option B) (k : Option A) → AllStand Stand s.table r → each_in view s.table r ≡ k → Finds (IsSeen Stand view) (known_already k) s s r
  finds-already s r k h e =
      record { grows = grows_refl s.table; scope = refl; least = refl; known = subst (λ k. IsOption (IsSeen Stand view s.table) r k) e (each-seen s.table r h) }

-- ---- trees

-- a pass over a tree that is this one
pub passes-tree : {tree node : ExprTree} {s t : Pass} {r : Option memory_known.Known} → tree ≡ node → Passes IsExpr (expr (scope_of s.checker) node) (named_in (scope_of s.checker) node) s t r → Passes IsExpr (expr (scope_of s.checker) tree) (named_in (scope_of s.checker) tree) s t r
passes-tree {s = s} {t = t} {r = r} e h = subst (λ (tree : ExprTree). Passes IsExpr (expr (scope_of s.checker) tree) (named_in (scope_of s.checker) tree) s t r) (sym e) h

-- the place of a type's name
pub type_name-place : (t : memory_type.TypeName) → (out-TypeName t).simple.place ≡ type_place (type_tree t)
type_name-place t = sym (ap type_place (ap type_tree (sym (roll-out-TypeName t)) ∙ type_tree-name (out-TypeName t).simple (out-TypeName t).declarator))

-- what is known of itself
pub passes-give : {s : Pass} {b : memory_known.Known} {a : Known} → IsExpr s.checker.table b a → Passes IsExpr (give a) [] s s (Some b)
passes-give h = passes-plain (finds-give h) refl

-- a rule of one operand, which is looked at twice, and of its place
pub passes-part : (rule : Pos → Scope → Known → Checked Known) {operand first second : Expr} {here : Pos} {s0 s1 : Pass} {t : State} {r r' : Option memory_known.Known} → first ≡ operand → second ≡ operand → here ≡ place_of (expr_tree second)
    → Passes IsExpr (expr (scope_of s0.checker) (expr_tree first)) (named_in (scope_of s0.checker) (expr_tree first)) s0 s1 r
    → Finds IsExpr (with_known (each_in expr_in s1.checker.table r) (rule here (scope_of s1.checker))) s1.checker t r'
    → Passes IsExpr (given (expr (scope_of s0.checker) (expr_tree operand)) (rule (place_of (expr_tree operand)) (scope_of s0.checker))) (named_in (scope_of s0.checker) (expr_tree operand)) s0 (with_checker s1 t) r'
passes-part rule {operand = operand} {here = here} {s0 = s0} {s1 = s1} {t = t} {r' = r'} e e' p part found =
    let scope = scope_of s0.checker in
    subst (λ (p : Pos). Passes IsExpr (given (expr scope (expr_tree operand)) (rule p scope)) (named_in scope (expr_tree operand)) s0 (with_checker s1 t) r') (p ∙ ap (λ x. place_of (expr_tree x)) e')
    (passes-one ExprStands expr_in (λ scope. expr scope (expr_tree operand)) (rule here) (λ scope. named_in scope (expr_tree operand)) (passes-tree (ap expr_tree (sym e)) part) found)

-- ---- an expression in parentheses

grouped-known : (place : Pos) (k : Option Known) → known_already (grouped_known place k) ≡ with_known k (λ known. give (grouped_rule place known))
grouped-known place None = refl
grouped-known place (Some known) = refl

pub passes-grouped : {E : Type 0} (inner : ExprTree) {s0 s1 : Pass} {part : Option memory_known.Known} (r : Result (Option memory_known.Known) E) → Passes IsExpr (expr (scope_of s0.checker) inner) (named_in (scope_of s0.checker) inner) s0 s1 part
    → IfOk r (λ made. (table : Interned) → AllStand ExprStands table part → AllStand ExprStands table made) → IfOk r (λ made. (table : Interned) → each_in expr_in table made ≡ grouped_known (place_of inner) (each_in expr_in table part))
    → IfOk r (Passes IsExpr (given (expr (scope_of s0.checker) inner) (λ known. give (grouped_rule (place_of inner) known))) (named_in (scope_of s0.checker) inner) s0 s1)
passes-grouped inner {s1 = s1} {part = part} (Ok made) first stand same =
    let table = s1.checker.table in
    passes-one ExprStands expr_in (λ scope. expr scope inner) (λ _ known. give (grouped_rule (place_of inner) known)) (λ scope. named_in scope inner) first
    (subst (λ checked. Finds IsExpr checked s1.checker s1.checker made) (grouped-known (place_of inner) (each_in expr_in table part))
    (finds-already ExprStands expr_in s1.checker made (grouped_known (place_of inner) (each_in expr_in table part)) (stand table (stands-now ExprStands expr_in first.finds)) (same table)))
passes-grouped inner (Err e) first stand same = tt

-- ---- operators before their operand

-- three rules one behind another
given-three : {A B C D : Type 0} (part : Checked A) (f : A → Checked B) (g : B → Checked C) (h : C → Checked D) → given (given (given part f) g) h ≡ given part (λ a. given (given (f a) g) h)
given-three part f g h = ap (λ checked. given checked h) (given-given part f g) ∙ given-given part (λ a. given (f a) g) h

pub prefixed-given : (scope : Scope) (operator : PrefixOperator) (whole place : Pos) (part : Checked Known) → given part (prefixed_rule scope operator whole place) ≡ prefixed scope operator whole place part
prefixed-given scope P.Increment whole place part = refl
prefixed-given scope P.Decrement whole place part = refl
prefixed-given scope P.Address whole place part = refl
prefixed-given scope P.Dereference whole place part = sym (given-given part (value_rule place) (dereferenced scope whole))
prefixed-given scope P.Plus whole place part = sym (given-three part (value_rule place) (integer_rule place) (λ value. give (with_plus value)))
prefixed-given scope P.Minus whole place part = sym (given-three part (value_rule place) (integer_rule place) (λ value. give (with_minus whole value)))
prefixed-given scope P.Complement whole place part = sym (given-three part (value_rule place) (integer_rule place) (λ value. give (with_complement value)))
prefixed-given scope P.Not whole place part = sym (given-three part (value_rule place) (scalar_rule place) (λ value. give (logical_not (condition_of place value))))
