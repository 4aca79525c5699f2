-- The calls of all functions of a text have few arguments where the types that it names are narrow.
use Rattle.std.proofs.Common.{◌≡◌, Bool, true, false, ◌&&◌, ◌||◌, List, [], ◌∷◌, ◌++◌, Option, Some, None, refl, sym, ap, subst, ◌∙◌}
use Rattle.std.proofs.lemmas.Bool.{true≢false, and_parts}
use Rattle.run_theory.specs.declared.place.Pos.{Pos}
use Rattle.c_syntax.specs.Trees
use Rattle.c_syntax.specs.Trees.{NameTree, DeclaratorTree, BlockTree, ItemTree}
use Rattle.c_typed.specs.Types.{CType, CTypes, Function, NoTypes, MoreTypes, is_function, is_void}
use Rattle.c_typed.specs.Layouts.{StructDef}
use Rattle.c_typed.specs.Typed.{FunctionDef}
use Rattle.c_typed.specs.Expressions.{is_scalar}
use Rattle.c_typed.specs.Programs.{with_parameters}
use Rattle.c_typed.specs.TypedArguments.{BlockFew, FunctionsFew}
use Rattle.c_rules.specs.Names.{Scope, LocalName, locals_in}
use Rattle.c_rules.specs.Expressions.{Required, declared_type, declared_name, adds}
use Rattle.c_rules.specs.Statements.{FunctionContext, block}
use Rattle.c_rules.specs.Programs.{Filed, base_type, base_place, own_parameters, entered_function, result_of, function_item, item, items}
use Rattle.c_rules.specs.Elaborated.{types_in, block_of, defined_function, in_items}
use Rattle.c_rules.specs.Proper.{is_proper, are_proper}
use Rattle.c_rules.specs.Fitting.{LocalsFit}
use Rattle.c_rules.proofs.Nothing.{both_none}
use Rattle.c_rules.proofs.Outside.{Good}
use Rattle.c_rules.proofs.Items.{ProperKnown, base_fits, FunctionFits, function_fits, body_own, body_filed, item_passes}
use Rattle.c_rules.proofs.Around.{SameOutside}
use Rattle.c_rules.proofs.Parameters.{Takes, adds_nothing, own_takes}
use Rattle.c_rules.proofs.SameNames.{named_alike}
use Rattle.c_rules.specs.Named.{NamedType, named_at, named_in_declarator}
use Rattle.c_rules.specs.NamedItems.{named_in_block, named_in_base, named_in_file_declarators, named_in_function, named_in_item, named_in_items}
use Rattle.accepted_programs.specs.Small.{IfKnown, Every}
use Rattle.accepted_programs.specs.Narrow.{IsNarrow, AreNarrow, LocalNarrow, EntryNarrow, StructNarrow, NarrowNames}
use Rattle.accepted_programs.proofs.CTypesArguments.Expressions.{Named, named_left, named_right, at_narrow}
use Rattle.accepted_programs.proofs.CTypesArguments.Statements.{block_narrow}
use Rattle.accepted_programs.proofs.CTypesSizes.Entering.{entered_good, function_parts, base_never}
use Rattle.accepted_programs.proofs.CTypesArguments.Structures.{base_narrow, outside_narrow, file_declarators_narrow}

-- ---- parameters are the first locals

parameters_narrow : (types : CTypes) → AreNarrow types → (locals : List CType) → Every IsNarrow locals → Every IsNarrow (with_parameters (types_in types) locals)
parameters_narrow NoTypes narrow locals all = all
parameters_narrow (MoreTypes first others) narrow locals all =
    parameters_narrow others narrow.1 (first ∷ locals) (narrow.0, all)

fitting_narrow : (complete : List StructDef) (names : List LocalName) (types : List CType) → LocalsFit complete names types → Every IsNarrow types → Every LocalNarrow names
fitting_narrow complete [] [] fit all = tt
fitting_narrow complete [] (t ∷ types) fit all = absurd fit
fitting_narrow complete (newest ∷ others) [] fit all = absurd fit
fitting_narrow complete (newest ∷ others) (t ∷ types) fit all = (subst (IfKnown IsNarrow) (sym fit.0) all.0, fitting_narrow complete others types fit.3 all.1)

result_narrow : (known : Option CType) (result : CType) (types : CTypes) → known ≡ Some (Function result types) → IsNarrow result → IfKnown IsNarrow (result_of known)
result_narrow known result types is narrow = subst (λ (k : Option CType). IfKnown IsNarrow (result_of k)) (sym is) narrow

-- ---- one function

function_typed : (scope : Scope) → Good scope → NarrowNames scope → (base : Option CType) → ((t : CType) → base ≡ Some t → is_function t ≡ false) → (declarator : DeclaratorTree) (body : BlockTree) (name : NameTree)
    → FunctionFits scope base declarator body name → Named (named_in_function scope base declarator body (Some name))
    → BlockFew (block_of (entered_function (body_filed scope base declarator name).scope (own_parameters declarator)).scope (result_of (body_own scope base declarator name).known) body)
function_typed scope good names base never declarator body name fit all =
    block_narrow (result_of own) (result_narrow own result types known own_parts.0) inside inside_narrow body (named_right front (named_in_block inside body) all)
  where
    filed : Filed
    filed = body_filed scope base declarator name

    own : Option CType
    own = (body_own scope base declarator name).known

    inside : Scope
    inside = (entered_function filed.scope (own_parameters declarator)).scope

    front : List NamedType
    front = named_in_declarator scope declarator ++ named_at name.place own

    parts : (result : CType) × (types : CTypes) × (fit.c_type ≡ Function result types)
    parts = function_parts fit.c_type fit.function

    result : CType
    result = parts.0

    types : CTypes
    types = parts.1

    known : own ≡ Some (Function result types)
    known = fit.done.is ∙ ap Some parts.2

    own_narrow : IfKnown IsNarrow own
    own_narrow = at_narrow name.place own (named_right (named_in_declarator scope declarator) (named_at name.place own) (named_left front (named_in_block inside body) all))

    own_parts : IsNarrow result × AreNarrow types
    own_parts = (subst (IfKnown IsNarrow) known own_narrow).0

    proper : (((is_scalar result || is_void result) && is_proper result) ≡ true) × (are_proper types ≡ true)
    proper = and_parts ((is_scalar result || is_void result) && is_proper result) (are_proper types) (ap is_proper (sym parts.2) ∙ fit.done.proper)

    named : (declared_type scope name.place Required base declarator).known ≡ Some (Function result types)
    named = fit.named ∙ ap Some parts.2

    adding : (b : Bool) → adds declarator ≡ b → adds declarator ≡ true
    adding true e = e
    adding false e =
        let is : base ≡ Some (Function result types) = sym (ap (λ c. c.known) (adds_nothing scope name.place Required base declarator e)) ∙ named in
        absurd (true≢false (never (Function result types) is))

    takes : Takes scope (own_parameters declarator) types
    takes = own_takes scope name.place Required base declarator result types (adding (adds declarator) refl) fit.none named

    context : FunctionContext
    context = record { result = result_of own; may_break = false; may_continue = false }

    rules : ((entered_function filed.scope (own_parameters declarator)).found ≡ []) × (block inside context body ≡ [])
    rules = both_none (entered_function filed.scope (own_parameters declarator)).found (block inside context body) fit.rules

    entered : LocalsFit filed.scope.structs (locals_in inside) (with_parameters (types_in types) []) × SameOutside filed.scope inside
    entered = entered_good filed.scope.structs scope filed.scope (named_alike scope good name own false true fit.c_type fit.done) refl (own_parameters declarator) types proper.1 takes rules.0

    filed_narrow : NarrowNames filed.scope
    filed_narrow = outside_narrow scope names name own false true own_narrow

    inside_narrow : NarrowNames inside
    inside_narrow = record {
      locals = fitting_narrow filed.scope.structs (locals_in inside) (with_parameters (types_in types) []) entered.0 (parameters_narrow types own_parts.1 [] tt);
      file = subst (Every EntryNarrow) entered.1.file filed_narrow.file;
      members = subst (Every StructNarrow) entered.1.structs filed_narrow.members;
    }

defined_narrow : (scope : Scope) → Good scope → NarrowNames scope → (place : Pos) (base : Option CType) → ProperKnown base → ((t : CType) → base ≡ Some t → is_function t ≡ false) → (declarator : DeclaratorTree) (body : BlockTree) (name : Option NameTree)
    → (function_item scope place base declarator body name).found ≡ [] → Named (named_in_function scope base declarator body name)
    → (others : List FunctionDef) → FunctionsFew others → FunctionsFew (defined_function scope base declarator body name ++ others)
defined_narrow scope good names place base proper never declarator body None e all others rest = rest
defined_narrow scope good names place base proper never declarator body (Some name) e all others rest =
    let fit = function_fits scope good place base proper declarator body name e in
    (function_typed scope good names base never declarator body name fit all, rest)

-- the scope behind a function
function_names : (scope : Scope) → NarrowNames scope → (place : Pos) (base : Option CType) (declarator : DeclaratorTree) (body : BlockTree) (name : Option NameTree) → Named (named_in_function scope base declarator body name)
    → NarrowNames (function_item scope place base declarator body name).scope
function_names scope names place base declarator body None all = names
function_names scope names place base declarator body (Some name) all =
    let own = (body_own scope base declarator name).known in
    let inside = (entered_function (body_filed scope base declarator name).scope (own_parameters declarator)).scope in
    outside_narrow scope names name own false true
    (at_narrow name.place own (named_right (named_in_declarator scope declarator) (named_at name.place own)
    (named_left (named_in_declarator scope declarator ++ named_at name.place own) (named_in_block inside body) all)))

-- ---- items

pub items_narrow : (scope : Scope) → Good scope → NarrowNames scope → (trees : List ItemTree) → items scope trees ≡ [] → Named (named_in_items scope trees)
    → FunctionsFew (in_items scope trees).functions
items_narrow scope good names [] e all = tt
items_narrow scope good names (Trees.Declaration base declarators ∷ others) e all =
    let first = Trees.Declaration base declarators in
    let behind = (item scope first).scope in
    let parts = both_none (item scope first).found (items behind others) e in
    let passed = item_passes scope good first parts.0 in
    let based = base_type scope base in
    let own = named_left (named_in_item scope first) (named_in_items behind others) all in
    let n_base = named_in_base scope base in
    let n_own = named_in_file_declarators based.scope (base_place base) based.type_of.known declarators in
    let based_narrow = base_narrow scope names base (named_left n_base n_own own) in
    let declared = file_declarators_narrow based.scope based_narrow (base_place base) based.type_of.known declarators (named_right n_base n_own own) in
    items_narrow behind passed.0 declared others parts.1 (named_right (named_in_item scope first) (named_in_items behind others) all)
items_narrow scope good names (Trees.Function base declarator place body ∷ others) e all =
    let first = Trees.Function base declarator place body in
    let behind = (item scope first).scope in
    let parts = both_none (item scope first).found (items behind others) e in
    let passed = item_passes scope good first parts.0 in
    let based = base_type scope base in
    let one = function_item based.scope (base_place base) based.type_of.known declarator body (declared_name declarator) in
    let inner = both_none based.type_of.found one.found parts.0 in
    let fit = base_fits scope good base inner.0 in
    let own = named_left (named_in_item scope first) (named_in_items behind others) all in
    let n_base = named_in_base scope base in
    let n_own = named_in_function based.scope based.type_of.known declarator body (declared_name declarator) in
    let based_narrow = base_narrow scope names base (named_left n_base n_own own) in
    let own_named = named_right n_base n_own own in
    let behind_narrow = function_names based.scope based_narrow (base_place base) based.type_of.known declarator body (declared_name declarator) own_named in
    let rest = items_narrow behind passed.0 behind_narrow others parts.1 (named_right (named_in_item scope first) (named_in_items behind others) all) in
    defined_narrow based.scope fit.good based_narrow (base_place base) based.type_of.known fit.proper (base_never scope base) declarator body (declared_name declarator) inner.1 own_named (in_items behind others).functions rest
