use Rattle.std.proofs.Common.{◌≡◌, List, [], ◌∷◌, ◌++◌, Option, Some, None, OnOk, refl, sym, ap, subst, ◌∙◌}
use Rattle.std.proofs.Common.{append-nil}
use Rattle.c_syntax.specs.Trees.{ExprTree}
use Rattle.c_syntax.specs.Views.{expr_tree}
use Rattle.c_typed.specs.declared.c_type.Shape.{Shape}
use Rattle.c_typed.specs.declared.c_type.Shape.TheVariants as S
use Rattle.c_typed.specs.declared.part.Part.{Part}
use Rattle.c_typed.specs.declared.typed.Value.TheVariants as V
use Rattle.c_typed.specs.Table.{Interned, type_in, shape_type}
use Rattle.c_typed.proofs.Grown.{stays}
use Rattle.c_rules.specs.Names.{Scope}
use Rattle.c_rules.specs.Known.{Known, as_value}
use Rattle.c_rules.specs.Expressions.{expr, place_of}
use Rattle.c_rules.specs.Initializers as rules
use Rattle.c_rules.specs.Elaborated as elaborated
use Rattle.c_types_state.specs.NameTables.{scope_of}
use Rattle.c_types_state.specs.Finding.{each_in}
use Rattle.c_types_state.proofs.Findings.{seen-known}
use Rattle.c_types_state.specs.Operands.{OperandStands, operand_in}
use Rattle.c_rules.specs.Named.{named_in}
use Rattle.c_types.specs.FirstValues.{HoldsFirst, scalar_found}
use Rattle.c_types.proofs.Covering.{covers-same, covers-then, covers-passes}
use Rattle.c_types.proofs.Firsts.{on_ok}
use Rattle.c_types.proofs.KeptValues.{adds-one, adds-same}
use Rattle.c_types.proofs.scalars.value_first.Goals as goal

-- a scalar's first value
scalar-found : (scope : Scope) (table : Interned) (shape : Shape) (tree : ExprTree) → ((element : _) (length : _) → shape ≡ S.Array element length → ⊥) → ((id : _) → shape ≡ S.Struct id → ⊥) → ((result : _) (parameters : _) → shape ≡ S.Function result parameters → ⊥)
    → rules.scalar_first scope (place_of tree) (shape_type table shape) (as_value (place_of tree) (expr scope tree)) ≡ rules.value_first scope (shape_type table shape) tree
scalar-found scope table S.Void tree _ _ _ = refl
scalar-found scope table (S.Integer int_type) tree _ _ _ = refl
scalar-found scope table (S.Pointer target) tree _ _ _ = refl
scalar-found scope table (S.Array element length) tree h _ _ = absurd (h element length refl)
scalar-found scope table (S.Struct id) tree _ h _ = absurd (h id refl)
scalar-found scope table (S.Function result parameters) tree _ _ h = absurd (h result parameters refl)

scalar-held : (scope : Scope) (steps : List Part) (index : _) (table : Interned) (shape : Shape) (tree : ExprTree) → ((element : _) (length : _) → shape ≡ S.Array element length → ⊥)
    → elaborated.scalar_held scope steps index (shape_type table shape) (as_value (place_of tree) (expr scope tree)).known ≡ elaborated.value_held scope steps index (shape_type table shape) tree
scalar-held scope steps index table S.Void tree _ = refl
scalar-held scope steps index table (S.Integer int_type) tree _ = refl
scalar-held scope steps index table (S.Pointer target) tree _ = refl
scalar-held scope steps index table (S.Array element length) tree h = absurd (h element length refl)
scalar-held scope steps index table (S.Struct id) tree _ = refl
scalar-held scope steps index table (S.Function result parameters) tree _ = refl

pub scalar_first-requires-clause-c_type : goal.scalar_first-requires-clause-c_type
scalar_first-requires-clause-c_type c =
    (stays c.args.pass.now.checker.table c.value.new.pass.checker.table c.in_ok-operand-in_default.ensures.finds.grows c.args.c_type c.requires).0

pub returns-in-Some-clause-found : goal.returns-in-Some-clause-found
returns-in-Some-clause-found c =
    let s = c.args.pass.now in
    let t = c.value.new.pass in
    let u = c.scalar_first.new.pass in
    let scope = scope_of s.checker in
    let tree = expr_tree c.args.tree.now in
    let passes = c.in_ok-operand-in_default.ensures in
    let part = as_value (place_of tree) (expr scope tree) in
    let place = c.place_of-place.result in
    let known = operand_in t.checker.table c.in-Some.operand in
    let own : Some known ≡ part.known =
    ap (λ r. each_in operand_in t.checker.table r) (sym c.in-Some.is) ∙ seen-known OperandStands operand_in t.checker.table c.in_ok-operand-in_default.field-0 part.known passes.finds.known in
    let kept = (stays s.checker.table t.checker.table passes.finds.grows c.args.c_type c.requires).1 in
    let c_type = type_in s.checker.table c.args.c_type in
    let whole : part.found ++ scalar_found scope place (type_in t.checker.table c.args.c_type) known ≡ rules.value_first scope c_type tree =
    (λ i. part.found ++ scalar_found scope (c.place_of-place.ensures i) (kept i) known)
    ∙ ap (λ (k : Option Known). rules.scalar_first scope (place_of tree) c_type (record { found = part.found; known = k })) own
    ∙ (λ i. rules.scalar_first scope (place_of tree) (c.shape.ensures.means i) part)
    ∙ scalar-found scope s.checker.table c.shape.result tree c.in_default.not-Array c.in_default.not-Struct c.in_default.not-Function
    ∙ (λ i. rules.value_first scope (sym c.shape.ensures.means i) tree) in
    on_ok c.scalar_first.result (λ h. covers-same whole (append-nil (named_in scope tree)) refl
    (covers-then (λ scope. scalar_found scope place (type_in t.checker.table c.args.c_type) known) (λ _. []) (λ scope. scope) (covers-passes passes) h)) c.scalar_first.ensures.found

pub returns-in-Some-clause-held : goal.returns-in-Some-clause-held
returns-in-Some-clause-held c =
    let s = c.args.pass.now in
    let t = c.value.new.pass in
    let scope = scope_of s.checker in
    let steps = c.args.target.now.parts.items in
    let tree = expr_tree c.args.tree.now in
    let passes = c.in_ok-operand-in_default.ensures in
    let part = as_value (place_of tree) (expr scope tree) in
    let known = operand_in t.checker.table c.in-Some.operand in
    let own : Some known ≡ part.known =
    ap (λ r. each_in operand_in t.checker.table r) (sym c.in-Some.is) ∙ seen-known OperandStands operand_in t.checker.table c.in_ok-operand-in_default.field-0 part.known passes.finds.known in
    let kept = (stays s.checker.table t.checker.table passes.finds.grows c.args.c_type c.requires).1 in
    let c_type = type_in s.checker.table c.args.c_type in
    let whole : elaborated.scalar_held (scope_of t.checker) steps c.args.index (type_in t.checker.table c.args.c_type) (Some known) ≡ elaborated.value_held scope steps c.args.index c_type tree =
    (λ i. elaborated.scalar_held (passes.finds.scope i) steps c.args.index (kept i) (own i))
    ∙ (λ i. elaborated.scalar_held scope steps c.args.index (c.shape.ensures.means i) part.known)
    ∙ scalar-held scope steps c.args.index s.checker.table c.shape.result tree c.in_default.not-Array
    ∙ (λ i. elaborated.value_held scope steps c.args.index (sym c.shape.ensures.means i) tree) in
    subst (λ held. OnOk c.scalar_first.result (HoldsFirst held c.args.target.now c.scalar_first.new.target)) whole c.scalar_first.ensures.held

pub returns-in-Some-clause-values : goal.returns-in-Some-clause-values
returns-in-Some-clause-values c =
    let s = c.args.pass.now in
    let t = c.value.new.pass in
    let scope = scope_of s.checker in
    let tree = expr_tree c.args.tree.now in
    let part = as_value (place_of tree) (expr scope tree) in
    let own : Some (operand_in t.checker.table c.in-Some.operand) ≡ part.known =
    ap (λ r. each_in operand_in t.checker.table r) (sym c.in-Some.is) ∙ seen-known OperandStands operand_in t.checker.table c.in_ok-operand-in_default.field-0 part.known c.in_ok-operand-in_default.ensures.finds.known in
    on_ok c.scalar_first.result (adds-same (ap (λ (k : Option Known). elaborated.known_value k ∷ []) own)) c.scalar_first.ensures.values

pub returns-in_ok-push-in-None-clause-values : goal.returns-in_ok-push-in-None-clause-values
returns-in_ok-push-in-None-clause-values c =
    let s = c.args.pass.now in
    let t = c.value.new.pass in
    let scope = scope_of s.checker in
    let tree = expr_tree c.args.tree.now in
    let part = as_value (place_of tree) (expr scope tree) in
    let own : None ≡ part.known =
    ap (λ r. each_in operand_in t.checker.table r) (sym c.in-None.is) ∙ seen-known OperandStands operand_in t.checker.table c.in_ok-operand-in_default.field-0 part.known c.in_ok-operand-in_default.ensures.finds.known in
    adds-one V.NullPointer V.NullPointer refl c.in_ok-push-in-None.ensures.items tt (ap elaborated.known_value own)
