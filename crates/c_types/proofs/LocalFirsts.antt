-- An expression as the first value of a local.
use Rattle.std.proofs.Common.{◌≡◌, Bool, true, false, not, ◌||◌, if◌then◌else◌, List, [], ◌++◌, Option, Some, None, Vec, Global, refl, sym, ap, subst, ◌∙◌}
use Rattle.std.proofs.Common.{append-nil}
use Rattle.std.proofs.lemmas.Bool.{false≢true}
use Rattle.run_theory.specs.declared.place.Pos.{Pos}
use Rattle.c_syntax.specs.Trees as Trees
use Rattle.c_syntax.specs.Trees.{ExprTree}
use Rattle.c_syntax.specs.declared.declaration.Init.{Init}
use Rattle.c_syntax.specs.declared.declaration.Init.TheVariants as I
use Rattle.c_syntax.specs.Views.{init_tree, inits_of}
use Rattle.c_syntax.proofs.SyntaxRows.{init_tree-list}
use Rattle.c_typed.specs.declared.c_type.CType as number
use Rattle.c_typed.specs.declared.typed.Value as memory_value
use Rattle.c_typed.specs.Types.{CType, is_array, is_struct}
use Rattle.c_typed.specs.Table.{Interned, Stands, type_in}
use Rattle.c_typed.proofs.Grown.{stays}
use Rattle.c_rules.specs.declared.rule.TypeRule.TheVariants as T
use Rattle.c_rules.specs.declared.violation.Violation.{Violation}
use Rattle.c_rules.specs.Names.{Scope}
use Rattle.c_rules.specs.Known.{Checked, Known, as_value, give, given, require, unless, at, with_known}
use Rattle.c_rules.specs.Operators.{fits}
use Rattle.c_rules.specs.Expressions.{expr, place_of}
use Rattle.c_rules.specs.Initializers as rules
use Rattle.c_rules.specs.Elaborated as elaborated
use Rattle.c_types_state.specs.NameTables.{State, scope_of}
use Rattle.c_types_state.specs.Finding.{noted, lesser, each_in}
use Rattle.c_types_state.specs.Staying.{IsValue}
use Rattle.c_types_state.proofs.Findings.{seen-known}
use Rattle.c_types_state.specs.declared.operands.Operand as memory_operand
use Rattle.c_types_state.specs.Operands.{IsOperand, OperandStands, operand_in}
use Rattle.c_types_expressions.specs.declared.pass.Pass.{Pass}
use Rattle.c_rules.specs.Named.{named_in}
use Rattle.c_types_expressions.specs.Passes.{Passes}
use Rattle.c_rules.specs.NamedItems.{named_in_init, named_in_inits}
use Rattle.c_types.specs.Made.{Covers, Makes, IsOptionalValue}
use Rattle.c_types.proofs.Covering.{covers-same, covers-then, covers-passes, covers-noted}
use Rattle.c_types.proofs.Firsts.{covers-behind}

-- what is noted behind the value, where the type is an array or a structure or isn't
abbrev pub behind_local : Bool → Pos → CType → Option Known → List Violation
behind_local true place c_type known = []
behind_local false place c_type None = []
behind_local false place c_type (Some known) = unless (fits c_type known) T.T10 place

pub behind-some : (aggregate : Bool) (table : Interned) (place : Pos) (c_type : CType) (operand : Option memory_operand.Operand) (x : memory_operand.Operand) (holds : Bool) → aggregate ≡ false → operand ≡ Some x → holds ≡ fits c_type (operand_in table x)
    → unless holds T.T10 place ≡ behind_local aggregate place c_type (each_in operand_in table operand)
behind-some true table place c_type operand x holds h e is = absurd (false≢true (sym h))
behind-some false table place c_type operand x holds h e is = (λ i. unless (is i) T.T10 place) ∙ (λ i. behind_local false place c_type (each_in operand_in table (sym e i)))

pub behind-none : (aggregate : Bool) (table : Interned) (place : Pos) (c_type : CType) (operand : Option memory_operand.Operand) → aggregate ≡ false → ((x : memory_operand.Operand) → operand ≡ Some x → ⊥) → [] ≡ behind_local aggregate place c_type (each_in operand_in table operand)
behind-none true table place c_type operand h absent = absurd (false≢true (sym h))
behind-none false table place c_type None h absent = refl
behind-none false table place c_type (Some x) h absent = absurd (absent x refl)

pub behind-aggregate : (aggregate : Bool) (place : Pos) (c_type : CType) (known : Option Known) → aggregate ≡ true → [] ≡ behind_local aggregate place c_type known
behind-aggregate true place c_type known h = refl
behind-aggregate false place c_type known h = absurd (false≢true h)

pub local-found : (scope : Scope) (c_type : CType) (tree : ExprTree) (aggregate : Bool) → aggregate ≡ (is_array c_type || is_struct c_type)
    → unless (not aggregate) T.T18 (place_of tree) ++ ((as_value (place_of tree) (expr scope tree)).found ++ behind_local aggregate (place_of tree) c_type (as_value (place_of tree) (expr scope tree)).known) ≡ rules.local_first scope (Some c_type) (Trees.InitValue tree)
local-found scope c_type tree aggregate is =
    subst (λ b. unless (not aggregate) T.T18 place ++ (part.found ++ behind_local aggregate place c_type part.known) ≡ (if b then at T.T18 place ++ part.found else (given part rule).found)) is (by aggregate)
  where
    place : Pos
    place = place_of tree

    part : Checked Known
    part = as_value place (expr scope tree)

    rule : Known → Checked Known
    rule known = require (fits c_type known) T.T10 place (give known)

    one : (known : Known) (b : Bool) → unless b T.T10 place ≡ (require b T.T10 place (give known)).found
    one known true = refl
    one known false = refl

    rest : (k : Option Known) → behind_local false place c_type k ≡ (with_known k rule).found
    rest None = refl
    rest (Some known) = one known (fits c_type known)

    by : (b : Bool) → unless (not b) T.T18 place ++ (part.found ++ behind_local b place c_type part.known) ≡ (if b then at T.T18 place ++ part.found else (given part rule).found)
    by true = ap (λ found. at T.T18 place ++ found) (append-nil part.found)
    by false = ap (λ found. part.found ++ found) (rest part.known)

module _ (tree : ExprTree) (c_type : number.CType) (s s1 t : Pass) (aggregate : Bool) (place : Pos) (operand : Option memory_operand.Operand) where
  -- the type stands behind the value
  pub local-stands : Stands s.checker.table c_type → s1.checker ≡ record s.checker { least = noted s.checker.least (unless (not aggregate) T.T18 place) }
      → Passes IsOperand (as_value (place_of tree) (expr (scope_of s1.checker) tree)) (named_in (scope_of s1.checker) tree) s1 t operand
      → Stands t.checker.table c_type × (type_in t.checker.table c_type ≡ type_in s.checker.table c_type)
  local-stands stands e passes =
      let first = subst (λ (u : State). Stands u.table c_type) (sym e) stands in
      let kept = stays s1.checker.table t.checker.table passes.finds.grows c_type first in
      (kept.0, kept.1 ∙ (λ i. type_in (e i).table c_type))

  pub local-made : (r : Pass) (value : memory_value.Value) → aggregate ≡ (is_array (type_in s.checker.table c_type) || is_struct (type_in s.checker.table c_type)) → Stands s.checker.table c_type → place ≡ place_of tree
      → s1.checker ≡ record s.checker { least = noted s.checker.least (unless (not aggregate) T.T18 place) } → s1.named.items ≡ s.named.items
      → Passes IsOperand (as_value (place_of tree) (expr (scope_of s1.checker) tree)) (named_in (scope_of s1.checker) tree) s1 t operand
      → r.checker ≡ record t.checker { least = noted t.checker.least (behind_local aggregate place (type_in t.checker.table c_type) (each_in operand_in t.checker.table operand)) } → r.named.items ≡ t.named.items
      → IsValue r.checker.table value (elaborated.known_as place (type_in r.checker.table c_type) (each_in operand_in r.checker.table operand))
      → Makes IsValue (rules.local_first (scope_of s.checker) (Some (type_in s.checker.table c_type)) (Trees.InitValue tree)) (elaborated.value_as (scope_of s.checker) (Some (type_in s.checker.table c_type)) tree) (named_in (scope_of s.checker) tree) (scope_of s.checker) s r value
  local-made r value is stands at_place e e' passes er er' h =
      record {
        covers =
            covers-same
            ((λ i. unless (not aggregate) T.T18 (at_place i) ++ ((part scope).found ++ behind_local aggregate (at_place i) (kept i) (own i))) ∙ local-found scope c_type' tree aggregate is)
            (append-nil (named_in scope tree)) refl
            (covers-then (λ scope. (part scope).found ++ behind) (λ scope. named_in scope tree ++ []) (λ scope. scope) (covers-noted (unless (not aggregate) T.T18 place) e e')
            (covers-then (λ _. behind) (λ _. []) (λ scope. scope) (covers-passes passes) (covers-noted behind er er')));
        made = (h.0, h.1 ∙ (λ i. elaborated.known_as (at_place i) (((λ i. type_in (er i).table c_type) ∙ kept) i) (((λ i. each_in operand_in (er i).table operand) ∙ own) i)));
      }
    where
      scope : Scope
      scope = scope_of s.checker

      part : Scope → Checked Known
      part scope = as_value (place_of tree) (expr scope tree)

      c_type' : CType
      c_type' = type_in s.checker.table c_type

      behind : List Violation
      behind = behind_local aggregate place (type_in t.checker.table c_type) (each_in operand_in t.checker.table operand)

      kept : type_in t.checker.table c_type ≡ c_type'
      kept = (local-stands stands e passes).1

      own : each_in operand_in t.checker.table operand ≡ (part scope).known
      own = seen-known OperandStands operand_in t.checker.table operand (part (scope_of s1.checker)).known passes.finds.known ∙ ap (λ (u : State). (part (scope_of u)).known) e

-- ---- lists in braces

module _ (c_type : Option number.CType) (init : Init) {place : Pos} (inits : Vec Init Global) (slice : List Init) (is : init ≡ I.List place inits) (same : slice ≡ inits.items) (s t : Pass) where
  listed : Trees.InitList place (inits_of slice) ≡ init_tree init
  listed = sym (ap init_tree is ∙ init_tree-list place inits ∙ ap (λ (l : List Init). Trees.InitList place (inits_of l)) (sym same))

  first-listed : (c_type' : Option CType) → c_type' ≡ each_in type_in s.checker.table c_type
      → Covers (rules.local_first (scope_of s.checker) c_type' (Trees.InitList place (inits_of slice))) (named_in_inits (scope_of s.checker) (inits_of slice)) (scope_of s.checker) s t
      → Makes IsOptionalValue (rules.local_first (scope_of s.checker) (each_in type_in s.checker.table c_type) (init_tree init)) (elaborated.first_local (scope_of s.checker) (each_in type_in s.checker.table c_type) (Some (init_tree init)))
      (named_in_init (scope_of s.checker) (init_tree init)) (scope_of s.checker) s t None
  first-listed c_type' e covers =
      record {
        covers = covers-same (λ i. rules.local_first (scope_of s.checker) (e i) (listed i)) (λ i. named_in_init (scope_of s.checker) (listed i)) refl covers;
        made = (tt, λ i. elaborated.first_local (scope_of s.checker) (e i) (Some (listed i)));
      }

  pub first-list : c_type ≡ None → Covers (rules.found_within_all (scope_of s.checker) (inits_of slice)) (named_in_inits (scope_of s.checker) (inits_of slice)) (scope_of s.checker) s t
      → Makes IsOptionalValue (rules.local_first (scope_of s.checker) (each_in type_in s.checker.table c_type) (init_tree init)) (elaborated.first_local (scope_of s.checker) (each_in type_in s.checker.table c_type) (Some (init_tree init)))
      (named_in_init (scope_of s.checker) (init_tree init)) (scope_of s.checker) s t None
  first-list e covers = first-listed None (λ i. each_in type_in s.checker.table (sym e i)) covers

  pub first-list-refused : (x : number.CType) (u : Pass) → c_type ≡ Some x → u.checker ≡ record s.checker { least = lesser s.checker.least (record { kind = T.T18; place = place }) } → u.named.items ≡ s.named.items
      → Covers (rules.found_within_all (scope_of u.checker) (inits_of slice)) (named_in_inits (scope_of u.checker) (inits_of slice)) (scope_of u.checker) u t
      → Makes IsOptionalValue (rules.local_first (scope_of s.checker) (each_in type_in s.checker.table c_type) (init_tree init)) (elaborated.first_local (scope_of s.checker) (each_in type_in s.checker.table c_type) (Some (init_tree init)))
      (named_in_init (scope_of s.checker) (init_tree init)) (scope_of s.checker) s t None
  first-list-refused x u e noting same' covers =
      first-listed (Some (type_in s.checker.table x)) (λ i. each_in type_in s.checker.table (sym e i))
      (covers-behind (λ scope. rules.found_within_all scope (inits_of slice)) (λ scope. named_in_inits scope (inits_of slice)) (λ scope. scope) (at T.T18 place) noting same' covers)
