-- The functions of a program are well typed.
use Rattle.std.proofs.Common.{◌≡◌, Bool, true, false, ◌&&◌, ◌||◌, cond, List, [], ◌∷◌, ◌++◌, Option, Some, None, refl, sym, ap, subst, ◌∙◌}
use Rattle.std.proofs.lemmas.Bool.{true≢false, false≢true, and_parts, and_from}
use Rattle.std.proofs.lemmas.Option.{none-some, same_Some}
use Rattle.run_theory.specs.declared.place.Pos.{Pos}
use Rattle.c_syntax.specs.Trees
use Rattle.c_syntax.specs.Trees.{NameTree, SimpleTree, DeclaratorTree, ParametersTree, BlockTree, BaseTree, ItemTree}
use Rattle.c_typed.specs.Types.{CType, CTypes, Void, Integer, Pointer, Array, Struct, Function, NoTypes, MoreTypes, is_function, is_void, same_type}
use Rattle.c_typed.specs.Layouts.{StructDef}
use Rattle.c_typed.specs.Typed.{FunctionDef, Program}
use Rattle.c_typed.proofs.Same.{same_type-refl}
use Rattle.c_rules.specs.declared.rule.TypeRule.TheVariants as T
use Rattle.c_rules.specs.Names.{Scope, locals_in, in_function, declares_tag}
use Rattle.c_rules.specs.Known.{give, require}
use Rattle.c_rules.specs.Expressions.{Required, declared_type, declared_name, is_void_alone, parameter_types, simple_type, adds}
use Rattle.c_rules.specs.Statements.{FunctionContext, block}
use Rattle.c_rules.specs.Programs.{Filed, base_type, base_place, own_parameters, enter_parameters, entered_function, result_of, function_item, item, items}
use Rattle.c_rules.specs.Elaborated.{literals_in_block, literals_in_base, literals_in_declarator, literals_in_declarators, literals_in_items, types_in, parameters_of, type_or_void, block_of, defined_function, in_items}
use Rattle.c_typed.specs.Context.{Context}
use Rattle.c_typed.specs.Expressions.{is_scalar}
use Rattle.c_typed.specs.Statements.{Within, is_block}
use Rattle.c_typed.specs.Programs.{function_of, are_scalars, with_parameters, is_function_def, are_functions}
use Rattle.c_rules.specs.Proper.{is_proper, are_proper}
use Rattle.c_rules.specs.Fitting.{AreListed, LocalsFit, Fits}
use Rattle.c_rules.proofs.StatementsFit.{SameWithin, block_fits}
use Rattle.c_rules.proofs.Nothing.{both_none, listed_both}
use Rattle.c_rules.proofs.Outside.{Later, Good}
use Rattle.c_rules.proofs.Items.{ProperKnown, base_fits, FunctionFits, function_fits, body_own, body_filed, item_passes, items_pass, last}
use Rattle.c_rules.proofs.Around.{Whole, SameOutside, fits_at}
use Rattle.c_rules.proofs.Parameters.{NamesAlike, Takes, adds_nothing, own_takes, entered_same, entered_fits}
use Rattle.c_rules.proofs.SameNames.{named_alike}

-- ---- a function's type

abbrev parameters_in : CType → CTypes
parameters_in (Function result types) = types
parameters_in _ = NoTypes

function_again : (result : CType) (types : CTypes) → function_of result (types_in types) ≡ Function result types
function_again result NoTypes = refl
function_again result (MoreTypes first others) = ap (λ c_type. Function result (MoreTypes first (parameters_in c_type))) (function_again result others)

scalars : (types : CTypes) → are_proper types ≡ true → are_scalars (types_in types) ≡ true
scalars NoTypes e = refl
scalars (MoreTypes first others) e =
    let parts = and_parts (is_scalar first && is_proper first) (are_proper others) e in
    and_from (is_scalar first) (are_scalars (types_in others)) (and_parts (is_scalar first) (is_proper first) parts.0).0 (scalars others parts.1)

-- no words name a function's type
words_never : (scope : Scope) (words : SimpleTree) (c_type : CType) → (simple_type scope words).known ≡ Some c_type → is_function c_type ≡ false
words_never scope Trees.VoidWord c_type e = ap is_function (sym (same_Some Void c_type e))
words_never scope (Trees.IntegerWords int_type) c_type e = ap is_function (sym (same_Some (Integer int_type) c_type e))
words_never scope (Trees.StructTag tag) c_type e = by (declares_tag scope.tags tag) e
  where
    by : (b : Bool) → (require b T.T03 tag.place (give (Struct tag.bytes))).known ≡ Some c_type → is_function c_type ≡ false
    by true h = ap is_function (sym (same_Some (Struct tag.bytes) c_type h))
    by false h = absurd (none-some c_type h)

base_never : (scope : Scope) (base : BaseTree) (c_type : CType) → (base_type scope base).type_of.known ≡ Some c_type → is_function c_type ≡ false
base_never scope (Trees.Plain words) c_type e = words_never scope words.words c_type e
base_never scope (Trees.StructBody place name members) c_type e = ap is_function (sym (same_Some (Struct name.bytes) c_type e))

-- ---- where a body begins

entered_good : (structs : List StructDef) (scope outside : Scope) → NamesAlike scope outside → scope.structs ≡ outside.structs → (parameters : ParametersTree) (types : CTypes) → are_proper types ≡ true → Takes scope parameters types
    → (entered_function outside parameters).found ≡ []
    → LocalsFit structs (locals_in (entered_function outside parameters).scope) (with_parameters (types_in types) []) × SameOutside outside (entered_function outside parameters).scope
entered_good structs scope outside alike same list types proper takes e = by (is_void_alone list) takes.none takes.known e
  where
    inside : Scope
    inside = in_function outside

    by : (b : Bool) → (cond b (give NoTypes) (parameter_types scope [] list)).found ≡ [] → (cond b (give NoTypes) (parameter_types scope [] list)).known ≡ Some types
        → (cond b (record { found = []; scope = inside }) (enter_parameters outside list inside)).found ≡ []
        → LocalsFit structs (locals_in (cond b (record { found = []; scope = inside }) (enter_parameters outside list inside)).scope) (with_parameters (types_in types) [])
        × SameOutside outside (cond b (record { found = []; scope = inside }) (enter_parameters outside list inside)).scope
    by true none known entered =
        (subst (λ (ts : CTypes). LocalsFit structs [] (with_parameters (types_in ts) [])) (same_Some NoTypes types known) tt, record { structs = refl; file = refl; completed = refl; defined = refl })
    by false none known entered =
        let kept = entered_same outside list inside in (
          entered_fits structs scope outside alike (λ here c_type i. Rattle.c_rules.specs.Expressions.parameter_type (record scope { structs = sym same i }) here c_type) [] list types proper none known inside [] entered tt,
          record { structs = kept.structs; file = kept.file; completed = kept.completed; defined = kept.defined },
        )

function_parts : (c_type : CType) → is_function c_type ≡ true → (result : CType) × (types : CTypes) × (c_type ≡ Function result types)
function_parts Void e = absurd (false≢true e)
function_parts (Integer int_type) e = absurd (false≢true e)
function_parts (Pointer target) e = absurd (false≢true e)
function_parts (Array element n) e = absurd (false≢true e)
function_parts (Struct tag) e = absurd (false≢true e)
function_parts (Function result types) e = (result, types, refl)

module _ (program : Program) (end : Scope) (whole : Whole program end) where
  -- ---- one function

  abbrev made : Scope → NameTree → BlockTree → Option CType → FunctionDef
  made inside name body known = record {
    name = name.bytes;
    c_type = type_or_void known;
    parameters = parameters_of known;
    result = type_or_void (result_of known);
    body = block_of inside (result_of known) body;
  }

  function_typed : (scope : Scope) → Good scope → (base : Option CType) → ((c_type : CType) → base ≡ Some c_type → is_function c_type ≡ false) → (declarator : DeclaratorTree) (body : BlockTree) (name : NameTree)
      → FunctionFits scope base declarator body name → Later (body_filed scope base declarator name).scope end → AreListed program.literals (literals_in_block body)
      → is_function_def program (made (entered_function (body_filed scope base declarator name).scope (own_parameters declarator)).scope name body (body_own scope base declarator name).known) ≡ true
  function_typed scope good base never declarator body name fit later listed =
      subst (λ (k : Option CType). is_function_def program (made inside name body k) ≡ true) (sym known)
      (and_from (same_type whole_type (function_of result (types_in types)) && (is_scalar result || is_void result) && are_scalars (types_in types)) (is_block around within (block_of inside (Some result) body))
      (and_from (same_type whole_type (function_of result (types_in types)) && (is_scalar result || is_void result)) (are_scalars (types_in types))
      (and_from (same_type whole_type (function_of result (types_in types))) (is_scalar result || is_void result)
      (ap (same_type whole_type) (function_again result types) ∙ same_type-refl whole_type) proper_result)
      (scalars types proper_types))
      (block_fits inside around fits context within same body listed rules.1))
    where
      filed : Filed
      filed = body_filed scope base declarator name

      own : Option CType
      own = (body_own scope base declarator name).known

      inside : Scope
      inside = (entered_function filed.scope (own_parameters declarator)).scope

      parts : (result : CType) × (types : CTypes) × (fit.c_type ≡ Function result types)
      parts = function_parts fit.c_type fit.function

      result : CType
      result = parts.0

      types : CTypes
      types = parts.1

      whole_type : CType
      whole_type = Function result types

      known : own ≡ Some whole_type
      known = fit.done.is ∙ ap Some parts.2

      proper : (((is_scalar result || is_void result) && is_proper result) ≡ true) × (are_proper types ≡ true)
      proper = and_parts ((is_scalar result || is_void result) && is_proper result) (are_proper types) (ap is_proper (sym parts.2) ∙ fit.done.proper)

      proper_types : are_proper types ≡ true
      proper_types = proper.1

      proper_result : (is_scalar result || is_void result) ≡ true
      proper_result = (and_parts (is_scalar result || is_void result) (is_proper result) proper.0).0

      named : (declared_type scope name.place Required base declarator).known ≡ Some whole_type
      named = fit.named ∙ ap Some parts.2

      adding : (b : Bool) → adds declarator ≡ b → adds declarator ≡ true
      adding true e = e
      adding false e =
          let is : base ≡ Some whole_type = sym (ap (λ c. c.known) (adds_nothing scope name.place Required base declarator e)) ∙ named in
          absurd (true≢false (never whole_type is))

      takes : Takes scope (own_parameters declarator) types
      takes = own_takes scope name.place Required base declarator result types (adding (adds declarator) refl) fit.none named

      context : FunctionContext
      context = record { result = result_of own; may_break = false; may_continue = false }

      within : Within
      within = record { result = result; may_break = false; may_continue = false }

      same : SameWithin context within
      same = record { result = ap result_of known; may_break = refl; may_continue = refl; proper = proper_result }

      rules : ((entered_function filed.scope (own_parameters declarator)).found ≡ []) × (block inside context body ≡ [])
      rules = both_none (entered_function filed.scope (own_parameters declarator)).found (block inside context body) fit.rules

      entered : LocalsFit program.structs (locals_in inside) (with_parameters (types_in types) []) × SameOutside filed.scope inside
      entered = entered_good program.structs scope filed.scope (named_alike scope good name own false true fit.c_type fit.done) refl (own_parameters declarator) types proper_types takes rules.0

      around : Context
      around = record { program = program; locals = with_parameters (types_in types) [] }

      fits : Fits inside around
      fits = fits_at program end whole filed.scope fit.done.good later inside entered.1 (with_parameters (types_in types) []) entered.0

  -- ---- all functions

  defined_typed : (scope : Scope) → Good scope → (place : Pos) (base : Option CType) → ProperKnown base → ((c_type : CType) → base ≡ Some c_type → is_function c_type ≡ false) → (declarator : DeclaratorTree) (body : BlockTree) (name : Option NameTree)
      → (function_item scope place base declarator body name).found ≡ [] → Later (function_item scope place base declarator body name).scope end → AreListed program.literals (literals_in_block body)
      → (others : List FunctionDef) → are_functions program others ≡ true → are_functions program (defined_function scope base declarator body name ++ others) ≡ true
  defined_typed scope good place base proper never declarator body None e later listed others rest = rest
  defined_typed scope good place base proper never declarator body (Some name) e later listed others rest =
      let fit = function_fits scope good place base proper declarator body name e in
      and_from (is_function_def program (made (entered_function (body_filed scope base declarator name).scope (own_parameters declarator)).scope name body (body_own scope base declarator name).known)) (are_functions program others)
      (function_typed scope good base never declarator body name fit later listed) rest

  pub functions_typed : (scope : Scope) → Good scope → (trees : List ItemTree) → items scope trees ≡ [] → last scope trees ≡ end → AreListed program.literals (literals_in_items trees)
      → are_functions program (in_items scope trees).functions ≡ true
  functions_typed scope good [] e ends listed = refl
  functions_typed scope good (Trees.Declaration base declarators ∷ others) e ends listed =
      let first = Trees.Declaration base declarators in
      let behind = (item scope first).scope in
      let parts = both_none (item scope first).found (items behind others) e in
      let passed = item_passes scope good first parts.0 in
      functions_typed behind passed.0 others parts.1 ends (listed_both program.literals (literals_in_base base ++ literals_in_declarators declarators) (literals_in_items others) listed).1
  functions_typed scope good (Trees.Function base declarator place body ∷ others) e ends listed =
      let first = Trees.Function base declarator place body in
      let behind = (item scope first).scope in
      let parts = both_none (item scope first).found (items behind others) e in
      let passed = item_passes scope good first parts.0 in
      let based = base_type scope base in
      let one = function_item based.scope (base_place base) based.type_of.known declarator body (declared_name declarator) in
      let inner = both_none based.type_of.found one.found parts.0 in
      let fit = base_fits scope good base inner.0 in
      let literals = listed_both program.literals (literals_in_base base ++ literals_in_declarator declarator ++ literals_in_block body) (literals_in_items others) listed in
      let own_literals = listed_both program.literals (literals_in_base base ++ literals_in_declarator declarator) (literals_in_block body) literals.0 in
      let rest = items_pass behind passed.0 others parts.1 in
      defined_typed based.scope fit.good (base_place base) based.type_of.known fit.proper (base_never scope base) declarator body (declared_name declarator) inner.1
      (subst (Later behind) ends rest.1) own_literals.1 (in_items behind others).functions
      (functions_typed behind passed.0 others parts.1 ends literals.1)
