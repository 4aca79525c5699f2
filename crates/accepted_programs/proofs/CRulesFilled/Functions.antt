-- Functions have filled types, and all items.
use Rattle.std.proofs.Common.{◌≡◌, Bool, true, false, ◌&&◌, ◌||◌, List, [], ◌∷◌, ◌++◌, Option, Some, None, refl, sym, ap, subst, ◌∙◌}
use Rattle.std.proofs.lemmas.Bool.{true≢false, and_parts, and_from}
use Rattle.run_theory.specs.declared.place.Pos.{Pos}
use Rattle.c_syntax.specs.Trees
use Rattle.c_syntax.specs.Trees.{NameTree, DeclaratorTree, BlockTree, ItemTree}
use Rattle.c_typed.specs.Types.{CType, CTypes, Function, NoTypes, MoreTypes, is_function, is_void}
use Rattle.c_typed.specs.Layouts.{StructDef}
use Rattle.c_typed.specs.Typed.{FunctionDef}
use Rattle.c_typed.specs.Expressions.{is_scalar}
use Rattle.c_typed.specs.Programs.{with_parameters}
use Rattle.c_typed.specs.Sizes.{block_makes, functions_make, fills}
use Rattle.c_rules.specs.Names.{Scope, LocalName, locals_in}
use Rattle.c_rules.specs.Expressions.{Required, declared_type, declared_name, adds}
use Rattle.c_rules.specs.Statements.{FunctionContext, block}
use Rattle.c_rules.specs.Programs.{Filed, base_type, base_place, own_parameters, entered_function, result_of, file_declarators, function_item, item, items}
use Rattle.c_rules.specs.Elaborated.{types_in, block_of, declared_globals, defined_function, in_items}
use Rattle.c_rules.specs.Proper.{is_proper, are_proper}
use Rattle.c_rules.specs.Fitting.{LocalsFit}
use Rattle.c_rules.proofs.Nothing.{both_none}
use Rattle.c_rules.proofs.Outside.{Good}
use Rattle.c_rules.proofs.Items.{ProperKnown, base_fits, FunctionFits, function_fits, body_own, body_filed, declarators_pass, function_passes, item_passes, items_pass, last}
use Rattle.c_rules.proofs.Structures.{Keeps}
use Rattle.c_rules.proofs.Around.{SameOutside}
use Rattle.c_rules.proofs.Parameters.{Takes, adds_nothing, own_takes}
use Rattle.c_rules.proofs.SameNames.{named_alike}
use Rattle.accepted_programs.specs.Knows.{IfKnown, Every}
use Rattle.accepted_programs.specs.Whole.{IsWhole, is_whole, are_whole, LocalFilled, EntryFilled, StructFilled, FilledNames}
use Rattle.accepted_programs.proofs.CRulesFilled.Holding.{every_both}
use Rattle.accepted_programs.proofs.CRulesFilled.Types.{function_filled}
use Rattle.accepted_programs.proofs.CRulesFilled.Statements.{block_filled}
use Rattle.accepted_programs.proofs.CRulesFilled.Entering.{entered_good, function_parts, base_never}
use Rattle.accepted_programs.specs.Given.{base_given, firsts_given, items_given}
use Rattle.accepted_programs.proofs.Declared.{body_whole}
use Rattle.accepted_programs.proofs.CRulesFilled.Structures.{base_filled, base_whole, outside_filled, GlobalFilled, file_declarators_filled}

module _ (structs : List StructDef) where
  -- ---- parameters are the first locals

  parameters_filled : (types : CTypes) → are_whole structs types ≡ true → (locals : List CType) → Every (IsWhole structs) locals → Every (IsWhole structs) (with_parameters (types_in types) locals)
  parameters_filled NoTypes filled locals all = all
  parameters_filled (MoreTypes first others) filled locals all =
      let parts = and_parts (is_whole structs first) (are_whole structs others) filled in
      parameters_filled others parts.1 (first ∷ locals) (parts.0, all)

  fitting_filled : (complete : List StructDef) (names : List LocalName) (types : List CType) → LocalsFit complete names types → Every (IsWhole structs) types → Every (LocalFilled structs) names
  fitting_filled complete [] [] fit all = tt
  fitting_filled complete [] (t ∷ types) fit all = absurd fit
  fitting_filled complete (newest ∷ others) [] fit all = absurd fit
  fitting_filled complete (newest ∷ others) (t ∷ types) fit all = (subst (IfKnown (IsWhole structs)) (sym fit.0) all.0, fitting_filled complete others types fit.3 all.1)

  result_filled : (known : Option CType) (result : CType) (types : CTypes) → known ≡ Some (Function result types) → IsWhole structs result → IfKnown (IsWhole structs) (result_of known)
  result_filled known result types is filled = subst (λ (k : Option CType). IfKnown (IsWhole structs) (result_of k)) (sym is) filled

  -- ---- one function

  function_typed : (scope : Scope) → Good scope → FilledNames structs scope → (base : Option CType) → IfKnown (IsWhole structs) base → ((t : CType) → base ≡ Some t → is_function t ≡ false) → (declarator : DeclaratorTree) (body : BlockTree) (name : NameTree)
      → FunctionFits scope base declarator body name
      → block_makes (fills structs) (block_of (entered_function (body_filed scope base declarator name).scope (own_parameters declarator)).scope (result_of (body_own scope base declarator name).known) body) ≡ true
  function_typed scope good names base whole never declarator body name fit =
      block_filled structs (result_of own) (result_filled own result types known own_parts.0) inside inside_filled body
    where
      filed : Filed
      filed = body_filed scope base declarator name

      own : Option CType
      own = (body_own scope base declarator name).known

      inside : Scope
      inside = (entered_function filed.scope (own_parameters declarator)).scope

      parts : (result : CType) × (types : CTypes) × (fit.c_type ≡ Function result types)
      parts = function_parts fit.c_type fit.function

      result : CType
      result = parts.0

      types : CTypes
      types = parts.1

      known : own ≡ Some (Function result types)
      known = fit.done.is ∙ ap Some parts.2

      own_filled : IfKnown (IsWhole structs) own
      own_filled = body_whole structs scope names.keeps name.place base whole declarator

      own_parts : IsWhole structs result × (are_whole structs types ≡ true)
      own_parts = function_filled structs result types (subst (IfKnown (IsWhole structs)) known own_filled)

      proper : (((is_scalar result || is_void result) && is_proper result) ≡ true) × (are_proper types ≡ true)
      proper = and_parts ((is_scalar result || is_void result) && is_proper result) (are_proper types) (ap is_proper (sym parts.2) ∙ fit.done.proper)

      named : (declared_type scope name.place Required base declarator).known ≡ Some (Function result types)
      named = fit.named ∙ ap Some parts.2

      adding : (b : Bool) → adds declarator ≡ b → adds declarator ≡ true
      adding true e = e
      adding false e =
          let is : base ≡ Some (Function result types) = sym (ap (λ c. c.known) (adds_nothing scope name.place Required base declarator e)) ∙ named in
          absurd (true≢false (never (Function result types) is))

      takes : Takes scope (own_parameters declarator) types
      takes = own_takes scope name.place Required base declarator result types (adding (adds declarator) refl) fit.none named

      context : FunctionContext
      context = record { result = result_of own; may_break = false; may_continue = false }

      rules : ((entered_function filed.scope (own_parameters declarator)).found ≡ []) × (block inside context body ≡ [])
      rules = both_none (entered_function filed.scope (own_parameters declarator)).found (block inside context body) fit.rules

      entered : LocalsFit structs (locals_in inside) (with_parameters (types_in types) []) × SameOutside filed.scope inside
      entered = entered_good structs scope filed.scope (named_alike scope good name own false true fit.c_type fit.done) refl (own_parameters declarator) types proper.1 takes rules.0

      filed_filled : FilledNames structs filed.scope
      filed_filled = outside_filled structs scope names name own false true own_filled

      inside_filled : FilledNames structs inside
      inside_filled = record {
        locals = fitting_filled structs (locals_in inside) (with_parameters (types_in types) []) entered.0 (parameters_filled types own_parts.1 [] tt);
        file = subst (Every (EntryFilled structs)) entered.1.file filed_filled.file;
        members = subst (Every (StructFilled structs)) entered.1.structs filed_filled.members;
        keeps = subst (λ (s : List StructDef). Keeps s structs) entered.1.structs filed_filled.keeps;
      }

  defined_filled : (scope : Scope) → Good scope → FilledNames structs scope → (place : Pos) (base : Option CType) → ProperKnown base → IfKnown (IsWhole structs) base → ((t : CType) → base ≡ Some t → is_function t ≡ false) → (declarator : DeclaratorTree) (body : BlockTree) (name : Option NameTree)
      → (function_item scope place base declarator body name).found ≡ []
      → (others : List FunctionDef) → functions_make (fills structs) others ≡ true → functions_make (fills structs) (defined_function scope base declarator body name ++ others) ≡ true
  defined_filled scope good names place base proper whole never declarator body None e others rest = rest
  defined_filled scope good names place base proper whole never declarator body (Some name) e others rest =
      let fit = function_fits scope good place base proper declarator body name e in
      and_from (block_makes (fills structs) (block_of (entered_function (body_filed scope base declarator name).scope (own_parameters declarator)).scope (result_of (body_own scope base declarator name).known) body)) (functions_make (fills structs) others)
      (function_typed scope good names base whole never declarator body name fit) rest

  -- the scope behind a function
  function_names : (scope : Scope) → FilledNames structs scope → (place : Pos) (base : Option CType) → IfKnown (IsWhole structs) base → (declarator : DeclaratorTree) (body : BlockTree) (name : Option NameTree)
      → FilledNames structs (function_item scope place base declarator body name).scope
  function_names scope names place base whole declarator body None = names
  function_names scope names place base whole declarator body (Some name) =
      outside_filled structs scope names name (body_own scope base declarator name).known false true (body_whole structs scope names.keeps name.place base whole declarator)

  -- ---- items

  pub items_filled : (scope : Scope) → Good scope → FilledNames structs scope → (trees : List ItemTree) → items scope trees ≡ [] → items_given trees ≡ true → Keeps (last scope trees).structs structs
      → Every (GlobalFilled structs) (in_items scope trees).globals × (functions_make (fills structs) (in_items scope trees).functions ≡ true)
  items_filled scope good names [] e given keeps = (tt, refl)
  items_filled scope good names (Trees.Declaration base declarators ∷ others) e given keeps =
      let first = Trees.Declaration base declarators in
      let behind = (item scope first).scope in
      let parts = both_none (item scope first).found (items behind others) e in
      let given_parts = and_parts (base_given base && firsts_given declarators) (items_given others) given in
      let own_given = and_parts (base_given base) (firsts_given declarators) given_parts.0 in
      let passed = item_passes scope good first parts.0 in
      let based = base_type scope base in
      let inner = both_none based.type_of.found (file_declarators based.scope (base_place base) based.type_of.known declarators).found parts.0 in
      let fit = base_fits scope good base inner.0 in
      let later = items_pass behind passed.0 others parts.1 in
      let own_later = declarators_pass based.scope fit.good (base_place base) based.type_of.known fit.proper declarators inner.1 in
      let based_keeps : Keeps based.scope.structs structs = λ tag members is. keeps tag members (later.1.structs tag members (own_later.1.structs tag members is)) in
      let based_filled = base_filled structs scope names base based_keeps in
      let declared = file_declarators_filled structs based.scope based_filled (base_place base) based.type_of.known (base_whole structs scope names base) declarators own_given.1 in
      let rest = items_filled behind passed.0 declared.1 others parts.1 given_parts.1 keeps in
      (every_both (GlobalFilled structs) (declared_globals based.scope (base_place base) based.type_of.known declarators) (in_items behind others).globals declared.0 rest.0, rest.1)
  items_filled scope good names (Trees.Function base declarator place body ∷ others) e given keeps =
      let first = Trees.Function base declarator place body in
      let behind = (item scope first).scope in
      let parts = both_none (item scope first).found (items behind others) e in
      let given_parts = and_parts (base_given base) (items_given others) given in
      let passed = item_passes scope good first parts.0 in
      let based = base_type scope base in
      let one = function_item based.scope (base_place base) based.type_of.known declarator body (declared_name declarator) in
      let inner = both_none based.type_of.found one.found parts.0 in
      let fit = base_fits scope good base inner.0 in
      let later = items_pass behind passed.0 others parts.1 in
      let own_later = function_passes based.scope fit.good (base_place base) based.type_of.known fit.proper declarator body (declared_name declarator) inner.1 in
      let based_keeps : Keeps based.scope.structs structs = λ tag members is. keeps tag members (later.1.structs tag members (own_later.1.structs tag members is)) in
      let based_filled = base_filled structs scope names base based_keeps in
      let whole = base_whole structs scope names base in
      let behind_filled = function_names based.scope based_filled (base_place base) based.type_of.known whole declarator body (declared_name declarator) in
      let rest = items_filled behind passed.0 behind_filled others parts.1 given_parts.1 keeps in
      (rest.0, defined_filled based.scope fit.good based_filled (base_place base) based.type_of.known fit.proper whole (base_never scope base) declarator body (declared_name declarator) inner.1 (in_items behind others).functions rest.1)
