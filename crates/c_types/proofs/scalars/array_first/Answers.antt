use Rattle.std.proofs.Common.{◌≡◌, ℕ, nat_le, true, List, [], ◌++◌, length, append-nil, Option, Some, None, refl, sym, ap, subst, ◌∙◌}
use Rattle.std.proofs.lemmas.Bool.{false≢true}
use Rattle.run_theory.specs.declared.place.Pos.{Pos}
use Rattle.c_num.specs.declared.IntType.TheVariants as I
use Rattle.c_syntax.specs.Trees.{Literal}
use Rattle.c_syntax.specs.Views.{expr_tree}
use Rattle.c_syntax.specs.declared.expr.Expr.{Expr}
use Rattle.c_syntax.specs.declared.expr.Expr.TheVariants as E
use Rattle.c_typed.specs.declared.part.Part.{Part}
use Rattle.c_typed.specs.Types.{CType, Void, Integer, Pointer, Array, Struct, Function, is_character}
use Rattle.c_typed.specs.Table.{type_in}
use Rattle.c_rules.specs.Names.{Scope}
use Rattle.c_rules.specs.declared.rule.TypeRule.TheVariants as R
use Rattle.c_rules.specs.Known.{Known, as_value, unless}
use Rattle.c_rules.specs.Initializers as rules
use Rattle.c_rules.specs.Expressions.{expr, place_of}
use Rattle.c_rules.specs.Elaborated as elaborated
use Rattle.c_types_state.specs.NameTables.{scope_of}
use Rattle.c_types_expressions.specs.declared.pass.Pass.{Pass}
use Rattle.c_rules.specs.Named.{named_in}
use Rattle.c_types.specs.Made.{Covers}
use Rattle.c_types.specs.Checked.{CoversValue, CoversExpr}
use Rattle.c_types.specs.FirstValues.{HoldsFirst}
use Rattle.c_types.proofs.Covering.{covers-same, covers-then}
use Rattle.c_types.proofs.Firsts.{holds-none, on_ok}
use Rattle.c_types.proofs.scalars.array_first.Goals as goal

module _ (scope : Scope) (steps : List Part) (index : ℕ) (element : CType) (n : ℕ) where
  -- no value is stored in an array
  none-held : (known : Option Known) → elaborated.scalar_held scope steps index (Array element n) known ≡ []
  none-held None = refl
  none-held (Some known) = refl

  none-of : (tree : Expr) → elaborated.scalar_held scope steps index (Array element n) (as_value (place_of (expr_tree tree)) (expr scope (expr_tree tree))).known ≡ []
  none-of tree = none-held (as_value (place_of (expr_tree tree)) (expr scope (expr_tree tree))).known

  other-held : (tree : Expr) → ((bytes : List ℕ) (place : Pos) → tree ≡ E.Literal bytes place → ⊥) → elaborated.value_held scope steps index (Array element n) (expr_tree tree) ≡ []
  other-held (E.Named name) _ = none-held _
  other-held (E.Integer value int_type place) _ = none-of (E.Integer value int_type place)
  other-held (E.Character byte place) _ = none-of (E.Character byte place)
  other-held (E.Null place) _ = none-of (E.Null place)
  other-held (E.EndOfFile place) _ = none-of (E.EndOfFile place)
  other-held (E.SizeofExpr' place p operand) _ = none-held _
  other-held (E.SizeofType' place p type_name) _ = none-held _
  other-held (E.Literal bytes place) h = absurd (h bytes place refl)
  other-held (E.Parenthesized' place p inner) _ = none-held _
  other-held (E.Index' p array q index) _ = none-held _
  other-held (E.Call' p function open_place shape row) _ = none-held _
  other-held (E.Member' p object member) _ = none-held _
  other-held (E.PointerMember' p pointer member) _ = none-held _
  other-held (E.PostIncrement' p operand) _ = none-held _
  other-held (E.PostDecrement' p operand) _ = none-held _
  other-held (E.Prefix' operator place p operand) _ = none-held _
  other-held (E.Cast' place p type_name q operand) _ = none-held _
  other-held (E.Binary' operator p left q right) _ = none-held _
  other-held (E.Conditional' p condition q taken r otherwise) _ = none-held _
  other-held (E.Assign' operator p object q value) _ = none-held _

pub returns-in_default-clause-held : goal.returns-in_default-clause-held
returns-in_default-clause-held c =
    let target = c.args.target.now in
    on_ok c.refused_first-in_default.result
    (λ _. subst (λ held. HoldsFirst held target target) (sym (other-held (scope_of c.args.pass.now.checker) target.parts.items c.args.index (type_in c.args.pass.now.checker.table c.args.element) c.args.length c.args.tree.now c.in_default.not-Literal)) (holds-none target))
    c.refused_first-in_default.ensures.found

-- a literal has room, or it is noted, and it violates nothing else
literal-first : (scope : Scope) (element : CType) (n : ℕ) (bytes : List ℕ) (place : Pos) → is_character element ≡ true
    → unless (nat_le (length bytes) n) R.T18 place ++ rules.value_found scope (Literal bytes place) ≡ rules.value_first scope (Array element n) (Literal bytes place)
literal-first scope (Integer I.Char) n bytes place e = append-nil (unless (nat_le (length bytes) n) R.T18 place)
literal-first scope (Integer I.UChar) n bytes place e = append-nil (unless (nat_le (length bytes) n) R.T18 place)
literal-first scope (Integer I.Short) n bytes place e = absurd (false≢true e)
literal-first scope (Integer I.UShort) n bytes place e = absurd (false≢true e)
literal-first scope (Integer I.Int) n bytes place e = absurd (false≢true e)
literal-first scope (Integer I.UInt) n bytes place e = absurd (false≢true e)
literal-first scope (Integer I.Long) n bytes place e = absurd (false≢true e)
literal-first scope (Integer I.ULong) n bytes place e = absurd (false≢true e)
literal-first scope Void n bytes place e = absurd (false≢true e)
literal-first scope (Pointer target) n bytes place e = absurd (false≢true e)
literal-first scope (Array own count) n bytes place e = absurd (false≢true e)
literal-first scope (Struct tag) n bytes place e = absurd (false≢true e)
literal-first scope (Function result parameters) n bytes place e = absurd (false≢true e)

literal-covers : {s t u : Pass} (element : CType) (n : ℕ) (bytes : List ℕ) (place : Pos) (tree : Expr) → tree ≡ E.Literal bytes place → is_character element ≡ true
    → Covers (unless (nat_le (length bytes) n) R.T18 place) [] (scope_of s.checker) s t → CoversValue (expr_tree tree) t u → CoversExpr (Array element n) (expr_tree tree) s u
literal-covers {s = s} element n bytes place tree is character text kept =
    let scope = scope_of s.checker in
    let room = unless (nat_le (length bytes) n) R.T18 place in
    covers-same
    (ap (λ (tree : Expr). room ++ rules.value_found scope (expr_tree tree)) is ∙ literal-first scope element n bytes place character ∙ sym (ap (λ (tree : Expr). rules.value_first scope (Array element n) (expr_tree tree)) is))
    refl refl
    (covers-then (λ scope. rules.value_found scope (expr_tree tree)) (λ scope. named_in scope (expr_tree tree)) (λ scope. scope) text kept)

pub returns-in_ok-text_first-in-Literal-clause-found : goal.returns-in_ok-text_first-in-Literal-clause-found
returns-in_ok-text_first-in-Literal-clause-found c =
    on_ok c.keep_value.result
    (literal-covers (type_in c.args.pass.now.checker.table c.args.element) c.args.length c.in-Literal.bytes c.in-Literal.place c.args.tree.now c.in-Literal.is (sym c.is_character.ensures ∙ c.if-is_character.true)
    (c.in_ok-text_first-in-Literal.ensures {u = tt}).found)
    c.keep_value.ensures.found
