-- Functions have small types, and all items.
use Rattle.std.proofs.Common.{◌≡◌, Bool, true, false, ◌&&◌, ◌||◌, List, [], ◌∷◌, ◌++◌, Option, Some, None, refl, sym, ap, subst, ◌∙◌}
use Rattle.std.proofs.lemmas.Bool.{true≢false, and_parts, and_from}
use Rattle.run_theory.specs.declared.place.Pos.{Pos}
use Rattle.c_syntax.specs.Trees
use Rattle.c_syntax.specs.Trees.{NameTree, DeclaratorTree, BlockTree, ItemTree}
use Rattle.c_typed.specs.Types.{CType, CTypes, Function, NoTypes, MoreTypes, is_function, is_void}
use Rattle.c_typed.specs.Layouts.{StructDef}
use Rattle.c_typed.specs.Typed.{FunctionDef}
use Rattle.c_typed.specs.Expressions.{is_scalar}
use Rattle.c_typed.specs.Programs.{with_parameters}
use Rattle.c_typed.specs.Sizes.{block_makes, functions_make, is_small}
use Rattle.c_rules.specs.Names.{Scope, LocalName, locals_in}
use Rattle.c_rules.specs.Expressions.{Required, declared_type, declared_name, adds}
use Rattle.c_rules.specs.Statements.{FunctionContext, block}
use Rattle.c_rules.specs.Programs.{Filed, base_type, base_place, own_parameters, entered_function, result_of, function_item, item, items}
use Rattle.c_rules.specs.Elaborated.{literals_in_block, literals_in_base, literals_in_declarator, literals_in_declarators, literals_in_items, types_in, block_of, declared_globals, defined_function, in_items}
use Rattle.c_rules.specs.Proper.{is_proper, are_proper}
use Rattle.c_rules.specs.Fitting.{LocalsFit}
use Rattle.c_rules.proofs.Nothing.{both_none}
use Rattle.c_rules.proofs.Outside.{Good}
use Rattle.c_rules.proofs.Items.{ProperKnown, base_fits, FunctionFits, function_fits, body_own, body_filed, item_passes}
use Rattle.c_rules.proofs.Around.{SameOutside}
use Rattle.c_rules.proofs.Parameters.{Takes, adds_nothing, own_takes}
use Rattle.c_rules.proofs.SameNames.{named_alike}
use Rattle.c_rules.specs.Named.{NamedType, named_at, named_in_declarator}
use Rattle.c_rules.specs.NamedItems.{named_in_block, named_in_base, named_in_file_declarators, named_in_function, named_in_item, named_in_items}
use Rattle.accepted_programs.specs.Small.{IfKnown, Every, IsSmall, small_type, small_types, LocalSmall, EntrySmall, StructSmall, SmallNames}
use Rattle.accepted_programs.proofs.CTypesSizes.Holding.{every_both}
use Rattle.accepted_programs.proofs.CTypesSizes.Types.{function_small}
use Rattle.accepted_programs.proofs.CTypesSizes.Expressions.{Named, Listed, named_left, named_right, listed_left, listed_right, at_small}
use Rattle.accepted_programs.proofs.CTypesSizes.Statements.{block_small}
use Rattle.accepted_programs.proofs.CTypesSizes.Entering.{entered_good, function_parts, base_never}
use Rattle.accepted_programs.proofs.CTypesSizes.Structures.{base_small, outside_small, GlobalSmall, file_declarators_small}

module _ (structs : List StructDef) where
  -- ---- parameters are the first locals

  parameters_small : (types : CTypes) → small_types structs types ≡ true → (locals : List CType) → Every (IsSmall structs) locals → Every (IsSmall structs) (with_parameters (types_in types) locals)
  parameters_small NoTypes small locals all = all
  parameters_small (MoreTypes first others) small locals all =
      let parts = and_parts (small_type structs first) (small_types structs others) small in
      parameters_small others parts.1 (first ∷ locals) (parts.0, all)

  fitting_small : (complete : List StructDef) (names : List LocalName) (types : List CType) → LocalsFit complete names types → Every (IsSmall structs) types → Every (LocalSmall structs) names
  fitting_small complete [] [] fit all = tt
  fitting_small complete [] (t ∷ types) fit all = absurd fit
  fitting_small complete (newest ∷ others) [] fit all = absurd fit
  fitting_small complete (newest ∷ others) (t ∷ types) fit all = (subst (IfKnown (IsSmall structs)) (sym fit.0) all.0, fitting_small complete others types fit.3 all.1)

  result_small : (known : Option CType) (result : CType) (types : CTypes) → known ≡ Some (Function result types) → IsSmall structs result → IfKnown (IsSmall structs) (result_of known)
  result_small known result types is small = subst (λ (k : Option CType). IfKnown (IsSmall structs) (result_of k)) (sym is) small

  -- ---- one function

  function_typed : (scope : Scope) → Good scope → SmallNames structs scope → (base : Option CType) → ((t : CType) → base ≡ Some t → is_function t ≡ false) → (declarator : DeclaratorTree) (body : BlockTree) (name : NameTree)
      → FunctionFits scope base declarator body name → Named structs (named_in_function scope base declarator body (Some name)) → Listed structs (literals_in_block body)
      → block_makes (is_small structs) (block_of (entered_function (body_filed scope base declarator name).scope (own_parameters declarator)).scope (result_of (body_own scope base declarator name).known) body) ≡ true
  function_typed scope good names base never declarator body name fit all listed =
      block_small structs (result_of own) (result_small own result types known own_parts.0) inside inside_small body (named_right structs front (named_in_block inside body) all) listed
    where
      filed : Filed
      filed = body_filed scope base declarator name

      own : Option CType
      own = (body_own scope base declarator name).known

      inside : Scope
      inside = (entered_function filed.scope (own_parameters declarator)).scope

      front : List NamedType
      front = named_in_declarator scope declarator ++ named_at name.place own

      parts : (result : CType) × (types : CTypes) × (fit.c_type ≡ Function result types)
      parts = function_parts fit.c_type fit.function

      result : CType
      result = parts.0

      types : CTypes
      types = parts.1

      known : own ≡ Some (Function result types)
      known = fit.done.is ∙ ap Some parts.2

      own_small : IfKnown (IsSmall structs) own
      own_small = at_small structs name.place own (named_right structs (named_in_declarator scope declarator) (named_at name.place own) (named_left structs front (named_in_block inside body) all))

      own_parts : IsSmall structs result × (small_types structs types ≡ true)
      own_parts = function_small structs result types (subst (IfKnown (IsSmall structs)) known own_small)

      proper : (((is_scalar result || is_void result) && is_proper result) ≡ true) × (are_proper types ≡ true)
      proper = and_parts ((is_scalar result || is_void result) && is_proper result) (are_proper types) (ap is_proper (sym parts.2) ∙ fit.done.proper)

      named : (declared_type scope name.place Required base declarator).known ≡ Some (Function result types)
      named = fit.named ∙ ap Some parts.2

      adding : (b : Bool) → adds declarator ≡ b → adds declarator ≡ true
      adding true e = e
      adding false e =
          let is : base ≡ Some (Function result types) = sym (ap (λ c. c.known) (adds_nothing scope name.place Required base declarator e)) ∙ named in
          absurd (true≢false (never (Function result types) is))

      takes : Takes scope (own_parameters declarator) types
      takes = own_takes scope name.place Required base declarator result types (adding (adds declarator) refl) fit.none named

      context : FunctionContext
      context = record { result = result_of own; may_break = false; may_continue = false }

      rules : ((entered_function filed.scope (own_parameters declarator)).found ≡ []) × (block inside context body ≡ [])
      rules = both_none (entered_function filed.scope (own_parameters declarator)).found (block inside context body) fit.rules

      entered : LocalsFit structs (locals_in inside) (with_parameters (types_in types) []) × SameOutside filed.scope inside
      entered = entered_good structs scope filed.scope (named_alike scope good name own false true fit.c_type fit.done) refl (own_parameters declarator) types proper.1 takes rules.0

      filed_small : SmallNames structs filed.scope
      filed_small = outside_small structs scope names name own false true own_small

      inside_small : SmallNames structs inside
      inside_small = record {
        locals = fitting_small structs (locals_in inside) (with_parameters (types_in types) []) entered.0 (parameters_small types own_parts.1 [] tt);
        file = subst (Every (EntrySmall structs)) entered.1.file filed_small.file;
        members = subst (Every (StructSmall structs)) entered.1.structs filed_small.members;
      }

  defined_small : (scope : Scope) → Good scope → SmallNames structs scope → (place : Pos) (base : Option CType) → ProperKnown base → ((t : CType) → base ≡ Some t → is_function t ≡ false) → (declarator : DeclaratorTree) (body : BlockTree) (name : Option NameTree)
      → (function_item scope place base declarator body name).found ≡ [] → Named structs (named_in_function scope base declarator body name) → Listed structs (literals_in_block body)
      → (others : List FunctionDef) → functions_make (is_small structs) others ≡ true → functions_make (is_small structs) (defined_function scope base declarator body name ++ others) ≡ true
  defined_small scope good names place base proper never declarator body None e all listed others rest = rest
  defined_small scope good names place base proper never declarator body (Some name) e all listed others rest =
      let fit = function_fits scope good place base proper declarator body name e in
      and_from (block_makes (is_small structs) (block_of (entered_function (body_filed scope base declarator name).scope (own_parameters declarator)).scope (result_of (body_own scope base declarator name).known) body)) (functions_make (is_small structs) others)
      (function_typed scope good names base never declarator body name fit all listed) rest

  -- the scope behind a function
  function_names : (scope : Scope) → SmallNames structs scope → (place : Pos) (base : Option CType) (declarator : DeclaratorTree) (body : BlockTree) (name : Option NameTree) → Named structs (named_in_function scope base declarator body name)
      → SmallNames structs (function_item scope place base declarator body name).scope
  function_names scope names place base declarator body None all = names
  function_names scope names place base declarator body (Some name) all =
      let own = (body_own scope base declarator name).known in
      let inside = (entered_function (body_filed scope base declarator name).scope (own_parameters declarator)).scope in
      outside_small structs scope names name own false true
      (at_small structs name.place own (named_right structs (named_in_declarator scope declarator) (named_at name.place own)
      (named_left structs (named_in_declarator scope declarator ++ named_at name.place own) (named_in_block inside body) all)))

  -- ---- items

  pub items_small : (scope : Scope) → Good scope → SmallNames structs scope → (trees : List ItemTree) → items scope trees ≡ [] → Named structs (named_in_items scope trees) → Listed structs (literals_in_items trees)
      → Every (GlobalSmall structs) (in_items scope trees).globals × (functions_make (is_small structs) (in_items scope trees).functions ≡ true)
  items_small scope good names [] e all listed = (tt, refl)
  items_small scope good names (Trees.Declaration base declarators ∷ others) e all listed =
      let first = Trees.Declaration base declarators in
      let behind = (item scope first).scope in
      let parts = both_none (item scope first).found (items behind others) e in
      let passed = item_passes scope good first parts.0 in
      let based = base_type scope base in
      let own = named_left structs (named_in_item scope first) (named_in_items behind others) all in
      let n_base = named_in_base scope base in
      let n_own = named_in_file_declarators based.scope (base_place base) based.type_of.known declarators in
      let based_small = base_small structs scope names base (named_left structs n_base n_own own) in
      let declared = file_declarators_small structs based.scope based_small (base_place base) based.type_of.known declarators (named_right structs n_base n_own own) in
      let rest = items_small behind passed.0 declared.1 others parts.1 (named_right structs (named_in_item scope first) (named_in_items behind others) all)
      (listed_right structs (literals_in_base base ++ literals_in_declarators declarators) (literals_in_items others) listed) in
      (every_both (GlobalSmall structs) (declared_globals based.scope (base_place base) based.type_of.known declarators) (in_items behind others).globals declared.0 rest.0, rest.1)
  items_small scope good names (Trees.Function base declarator place body ∷ others) e all listed =
      let first = Trees.Function base declarator place body in
      let behind = (item scope first).scope in
      let parts = both_none (item scope first).found (items behind others) e in
      let passed = item_passes scope good first parts.0 in
      let based = base_type scope base in
      let one = function_item based.scope (base_place base) based.type_of.known declarator body (declared_name declarator) in
      let inner = both_none based.type_of.found one.found parts.0 in
      let fit = base_fits scope good base inner.0 in
      let own = named_left structs (named_in_item scope first) (named_in_items behind others) all in
      let n_base = named_in_base scope base in
      let n_own = named_in_function based.scope based.type_of.known declarator body (declared_name declarator) in
      let based_small = base_small structs scope names base (named_left structs n_base n_own own) in
      let own_named = named_right structs n_base n_own own in
      let l_front = literals_in_base base ++ literals_in_declarator declarator in
      let own_listed = listed_right structs l_front (literals_in_block body) (listed_left structs (l_front ++ literals_in_block body) (literals_in_items others) listed) in
      let behind_small = function_names based.scope based_small (base_place base) based.type_of.known declarator body (declared_name declarator) own_named in
      let rest = items_small behind passed.0 behind_small others parts.1 (named_right structs (named_in_item scope first) (named_in_items behind others) all)
      (listed_right structs (l_front ++ literals_in_block body) (literals_in_items others) listed) in
      (rest.0, defined_small based.scope fit.good based_small (base_place base) based.type_of.known fit.proper (base_never scope base) declarator body (declared_name declarator) inner.1 own_named own_listed (in_items behind others).functions rest.1)
