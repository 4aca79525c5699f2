-- What is made of a function with its body.
use Rattle.std.proofs.Common.{◌≡◌, ℕ, ◌≤◌, arith, length, true, false, List, [], ◌∷◌, ◌++◌, map, Option, Some, None, Vec, Global, unwrap_or, refl, sym, ap, subst, ◌∙◌}
use Rattle.std.proofs.Common.{append-nil, append_assoc}
use Rattle.run_theory.specs.declared.place.Pos.{Pos}
use Rattle.c_syntax.specs.Trees.{NameTree, DeclaratorTree, BlockTree}
use Rattle.c_typed.specs.declared.c_type.CType as number
use Rattle.c_typed.specs.declared.statement.BlockItem as memory_item
use Rattle.c_typed.specs.declared.definition.FunctionDef as memory_function
use Rattle.c_typed.specs.Types.{CType}
use Rattle.c_typed.specs.Typed.{GlobalDef, FunctionDef}
use Rattle.c_typed.specs.Table.{Interned, Grows, Stands, type_in}
use Rattle.c_typed.specs.DefinitionViews.{TypesStand}
use Rattle.c_typed.specs.StatementViews.{block_in, BlockStands}
use Rattle.c_typed.proofs.Grown.{grows_trans, void_stands}
use Rattle.c_typed.proofs.StatementsStay.{block_stays}
use Rattle.c_rules.specs.Names.{Scope}
use Rattle.c_rules.specs.Known.{Checked, with_known}
use Rattle.c_rules.specs.Expressions.{Required, declared_type}
use Rattle.c_rules.specs.Statements.{FunctionContext, block}
use Rattle.c_rules.specs.Programs.{Filed, declare_outside, own_parameters, entered_function, result_of, function_item}
use Rattle.c_rules.specs.Elaborated.{type_or_void, defined_function}
use Rattle.c_rules.specs.Elaborated as elaborated
use Rattle.c_types_state.specs.NameTables.{State, scope_of, ScopeGrows}
use Rattle.c_types_state.specs.Finding.{Finds, AllStand, IsType, each_in}
use Rattle.c_types_state.specs.Staying.{Stays}
use Rattle.c_types_expressions.specs.declared.pass.Pass.{Pass}
use Rattle.c_rules.specs.Named.{NamedType, named_at, named_in_declarator}
use Rattle.c_types_expressions.specs.Passes.{Names, Passes}
use Rattle.c_types.specs.declared.defined.Defined.{Defined}
use Rattle.c_rules.specs.NamedItems.{named_in_block, named_in_function}
use Rattle.c_types.specs.Made.{Covers, Makes, IsBlock}
use Rattle.c_types.specs.Parts.{around_in, behind_block}
use Rattle.c_types.specs.Outside.{IsOutside, HasDefined, body_rule}
use Rattle.c_types.proofs.Covering.{covers-then, covers-leads, makes-same, makes-then, makes-behind}
use Rattle.c_types.proofs.Filed.{each_stays}
use Rattle.c_types.proofs.FunctionScopes.{around-function, outside-again, LeavesBlock}
use Rattle.c_types.proofs.DefinedStays.{defined_stays, defined-function}
use Rattle.c_types.proofs.OutsideMade.{own_of, filed_of, outside-stands, outside-known, outside-covers}

-- ---- what was made stays

stays-block : {Z : Type 0} → Stays (IsBlock {Z = Z})
stays-block old new grows b a h = let kept = block_stays old new grows b.items h.0 in (kept.0, kept.1 ∙ h.1)

-- a type that may be missing, or `void`
or_void : (table : Interned) (void : number.CType) → void.0 ≡ 0 → (t : Option number.CType) → AllStand Stands table t → Stands table (unwrap_or t void) × (type_in table (unwrap_or t void) ≡ type_or_void (each_in type_in table t))
or_void table void e None h = void_stands table void e
or_void table void e (Some t) h = (h, refl)

-- ---- a function

module _ (base : Option CType) (declarator : DeclaratorTree) (body : BlockTree) (name : NameTree) where
  abbrev pub type_part : Scope → Checked CType
  type_part scope = declared_type scope name.place Required base declarator

  abbrev pub body_part : Scope → CType → Checked CType
  body_part scope = body_rule name.place

  abbrev pub type_names : Scope → List NamedType
  type_names scope = named_in_declarator scope declarator

  abbrev its_type : Scope → Checked CType
  its_type scope = own_of type_part body_part type_names name false true scope

  abbrev its_file : Scope → Filed
  its_file scope = filed_of type_part body_part type_names name false true scope

  abbrev its_inside : Scope → Scope
  its_inside scope = (entered_function (its_file scope).scope (own_parameters declarator)).scope

  abbrev its_around : Scope → FunctionContext
  its_around scope = record { result = result_of (its_type scope).known; may_break = false; may_continue = false }

  module _ {s0 s1 s3 s4 : Pass} {c2 : State} {declared own : Option number.CType}
      (first : Passes IsType (type_part (scope_of s0.checker)) (type_names (scope_of s0.checker)) s0 s1 declared)
      (second : Finds IsType (with_known (each_in type_in s1.checker.table declared) (body_rule name.place)) s1.checker c2 own)
      (same : s3.checker ≡ c2) (names : Names (named_at name.place (each_in type_in c2.table own)) c2.table s1.named.items s3.named.items)
      (third : Covers (declare_outside name (each_in type_in s3.checker.table own) false true (scope_of s3.checker)).found [] (declare_outside name (each_in type_in s3.checker.table own) false true (scope_of s3.checker)).scope s3 s4)
      (outside : IsOutside (scope_of s0.checker)) where
    covers : Covers ((its_type (scope_of s0.checker)).found ++ (its_file (scope_of s0.checker)).found) (type_names (scope_of s0.checker) ++ named_at name.place (its_type (scope_of s0.checker)).known) (its_file (scope_of s0.checker)).scope s0 s4
    covers = outside-covers type_part body_part type_names name false true first second same names third

    -- no local is in scope behind its declaration
    pub function-outside : IsOutside (scope_of s4.checker)
    function-outside = ((λ i. (covers.scope i).inner) ∙ outside.0, (λ i. (covers.scope i).outer) ∙ outside.1)

    module _ {s6 : Pass} (enter : Covers (entered_function (scope_of s4.checker) (own_parameters declarator)).found [] (entered_function (scope_of s4.checker) (own_parameters declarator)).scope s4 s6) where
      kept_inside : AllStand Stands s6.checker.table own × (each_in type_in s6.checker.table own ≡ each_in type_in s4.checker.table own)
      kept_inside = each_stays s4.checker.table s6.checker.table enter.grows own (outside-stands type_part body_part type_names name false true first second same names third)

      pub entered-stands : AllStand Stands s6.checker.table own
      entered-stands = kept_inside.0

      known_inside : each_in type_in s6.checker.table own ≡ (its_type (scope_of s0.checker)).known
      known_inside = kept_inside.1 ∙ outside-known type_part body_part type_names name false true first second same names third

      module _ {s7 : Pass} {items : Vec memory_item.BlockItem Global} (returned : Option number.CType) (returned_is : each_in type_in s6.checker.table returned ≡ result_of (each_in type_in s6.checker.table own))
          (returned_stands : AllStand Stands s6.checker.table returned) (body' : BlockTree) (same_body : body' ≡ body)
          (makes' : Makes IsBlock (block (scope_of s6.checker) (around_in s6.checker.table (record { returned = returned; may_break = false; may_continue = false })) body') (elaborated.block_of (scope_of s6.checker) (each_in type_in s6.checker.table returned) body') (named_in_block (scope_of s6.checker) body') (behind_block (scope_of s6.checker) body') s6 s7 items) where
        makes : Makes IsBlock (block (scope_of s6.checker) (around_in s6.checker.table (record { returned = returned; may_break = false; may_continue = false })) body) (elaborated.block_of (scope_of s6.checker) (each_in type_in s6.checker.table returned) body) (named_in_block (scope_of s6.checker) body) (behind_block (scope_of s6.checker) body) s6 s7 items
        makes = subst (λ (body : BlockTree). Makes IsBlock (block (scope_of s6.checker) (around_in s6.checker.table (record { returned = returned; may_break = false; may_continue = false })) body) (elaborated.block_of (scope_of s6.checker) (each_in type_in s6.checker.table returned) body) (named_in_block (scope_of s6.checker) body) (behind_block (scope_of s6.checker) body) s6 s7 items) same_body makes'

        result_inside : each_in type_in s6.checker.table returned ≡ result_of (its_type (scope_of s0.checker)).known
        result_inside = returned_is ∙ ap result_of known_inside

        entered_covers : Covers (((its_type (scope_of s0.checker)).found ++ (its_file (scope_of s0.checker)).found) ++ (entered_function (its_file (scope_of s0.checker)).scope (own_parameters declarator)).found)
            ((type_names (scope_of s0.checker) ++ named_at name.place (its_type (scope_of s0.checker)).known) ++ []) (its_inside (scope_of s0.checker)) s0 s6
        entered_covers = covers-then (λ scope. (entered_function scope (own_parameters declarator)).found) (λ _. []) (λ scope. (entered_function scope (own_parameters declarator)).scope) covers enter

        made_inside : Makes IsBlock ((((its_type (scope_of s0.checker)).found ++ (its_file (scope_of s0.checker)).found) ++ (entered_function (its_file (scope_of s0.checker)).scope (own_parameters declarator)).found) ++ block (its_inside (scope_of s0.checker)) (its_around (scope_of s0.checker)) body)
            (elaborated.block_of (its_inside (scope_of s0.checker)) (result_of (its_type (scope_of s0.checker)).known) body)
            (((type_names (scope_of s0.checker) ++ named_at name.place (its_type (scope_of s0.checker)).known) ++ []) ++ named_in_block (its_inside (scope_of s0.checker)) body)
            (behind_block (its_inside (scope_of s0.checker)) body) s0 s7 items
        made_inside =
            makes-behind (λ scope. block scope (its_around (scope_of s0.checker)) body) (λ scope. elaborated.block_of scope (result_of (its_type (scope_of s0.checker)).known) body) (λ scope. named_in_block scope body) (λ scope. behind_block scope body) entered_covers
            (makes-same (λ i. block (scope_of s6.checker) (record { result = result_inside i; may_break = false; may_continue = false }) body) (λ i. elaborated.block_of (scope_of s6.checker) (result_inside i) body) refl refl makes)

        no_outer : (scope_of s7.checker).outer ≡ []
        no_outer = (λ i. (made_inside.covers.scope i).outer) ∙ (λ i. (around-function (its_file (scope_of s0.checker)).scope (own_parameters declarator) body [] i).outer)

        -- there are as many locals to go back to
        pub function-leave : (outer : ℕ) → outer ≡ 0 → outer ≤ length (scope_of s7.checker).outer
        function-leave outer none = omega arith

        module _ (s8 : Pass) (outer : ℕ) (none : outer ≡ 0) (leave : LeavesBlock outer s7.checker s8.checker) (kept : s8.named.items ≡ s7.named.items) where
          left : ScopeGrows (record (scope_of s7.checker) { inner = []; outer = [] }) s7.checker s8.checker
          left = leave [] [] no_outer (sym none)

          made : Makes IsBlock (function_item (scope_of s0.checker) name.place base declarator body (Some name)).found (elaborated.block_of (its_inside (scope_of s0.checker)) (result_of (its_type (scope_of s0.checker)).known) body) (named_in_function (scope_of s0.checker) base declarator body (Some name)) (function_item (scope_of s0.checker) name.place base declarator body (Some name)).scope s0 s8 items
          made =
              let scope = scope_of s0.checker in
              let file = (its_file scope).scope in
              let parts = (its_type scope).found ++ (its_file scope).found in
              let names = type_names scope ++ named_at name.place (its_type scope).known in
              makes-same
              (append-nil _ ∙ append_assoc parts (entered_function file (own_parameters declarator)).found (block (its_inside scope) (its_around scope) body))
              refl
              (append-nil _ ∙ ap (λ ns. ns ++ named_in_block (its_inside scope) body) (append-nil names))
              ((λ i. record (around-function file (own_parameters declarator) body [] i) { outer = [] }) ∙ outside-again file outside)
              (makes-then stays-block (λ _. []) (λ _. []) (λ now. record now { inner = []; outer = [] }) made_inside (covers-leads left kept))

          pub function-covers : (place : Pos) → Covers (function_item (scope_of s0.checker) place base declarator body (Some name)).found (named_in_function (scope_of s0.checker) base declarator body (Some name)) (function_item (scope_of s0.checker) place base declarator body (Some name)).scope s0 s8
          function-covers place = made.covers

          later : Grows s6.checker.table s8.checker.table
          later = grows_trans s6.checker.table s7.checker.table s8.checker.table makes.covers.grows (covers-leads {s = s7} {t = s8} left kept).grows

          -- its type, and that of its result
          pub function-stands : AllStand Stands s8.checker.table own
          function-stands = (each_stays s6.checker.table s8.checker.table later own entered-stands).0

          own_left : each_in type_in s8.checker.table own ≡ (its_type (scope_of s0.checker)).known
          own_left = (each_stays s6.checker.table s8.checker.table later own entered-stands).1 ∙ known_inside

          pub function-defines : (old new : Defined) (one : memory_function.FunctionDef) (void : number.CType) → void.0 ≡ 0 → new.globals ≡ old.globals → new.functions.items ≡ old.functions.items ++ one ∷ []
              → one.name ≡ name.bytes → one.c_type ≡ unwrap_or own void → one.returned ≡ unwrap_or returned void → one.body.items ≡ items.items
              → TypesStand s8.checker.table one.parameters.items → map (type_in s8.checker.table) one.parameters.items ≡ elaborated.parameters_of (each_in type_in s8.checker.table own)
              → (globals : List GlobalDef) (functions : List FunctionDef) → HasDefined s0.checker.table old globals functions → HasDefined s8.checker.table new globals (functions ++ defined_function (scope_of s0.checker) base declarator body (Some name))
          function-defines old new one void e same_globals more is_name is_type is_returned is_body types_stand types globals functions h =
              let table = s8.checker.table in
              let own_is = or_void table void e own function-stands in
              let back = each_stays s6.checker.table table later returned returned_stands in
              let returned_is = or_void table void e returned back.0 in
              defined-function table old new one _ same_globals more
              (subst (Stands table) (sym is_type) own_is.0, types_stand, subst (Stands table) (sym is_returned) returned_is.0, subst (BlockStands table) (sym is_body) made.made.0)
              (λ i. record {
                name = is_name i;
                c_type = (ap (type_in table) is_type ∙ own_is.1 ∙ ap type_or_void own_left) i;
                parameters = (types ∙ ap elaborated.parameters_of own_left) i;
                result = (ap (type_in table) is_returned ∙ returned_is.1 ∙ ap type_or_void (back.1 ∙ result_inside)) i;
                body = (ap (block_in table) is_body ∙ made.made.1) i;
              })
              globals functions (defined_stays s0.checker.table table made.covers.grows old globals functions h)
