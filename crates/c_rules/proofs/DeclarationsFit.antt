-- Declarations in blocks without a violation fit: their locals are well typed, and what is behind them fits with these in scope.
use Rattle.std.proofs.Common.{◌≡◌, Bool, true, false, cond, ◌&&◌, ◌||◌, List, [], ◌∷◌, ◌++◌, Option, Some, None, is_some, refl, sym, ap, subst, ◌∙◌}
use Rattle.std.proofs.lemmas.Bool.{and_from, and_parts}
use Rattle.run_theory.specs.declared.place.Pos.{Pos}
use Rattle.c_syntax.specs.Trees
use Rattle.c_syntax.specs.Trees.{ExprTree, InitTree, InitDeclaratorTree, DeclarationTree, ForTree, NameTree}
use Rattle.c_typed.specs.Types.{CType, is_array, is_struct, same_type}
use Rattle.c_typed.specs.Layouts.{is_complete}
use Rattle.c_typed.specs.Typed.{LiteralDef, LocalDef, Value, Block}
use Rattle.c_typed.proofs.Same.{same_type-refl}
use Rattle.c_rules.specs.declared.rule.TypeRule.TheVariants as T
use Rattle.c_rules.specs.declared.violation.Violation.{Violation}
use Rattle.c_rules.specs.Names.{Scope, entered}
use Rattle.c_rules.specs.Known.{Known, at, give, require, given, with_known, as_value, value_in}
use Rattle.c_rules.specs.Operators.{fits, converted, dropped}
use Rattle.c_rules.specs.Expressions.{expr, place_of, words_type, declared_type, declared_name, name_place, Required}
use Rattle.c_rules.specs.Initializers.{value_found}
use Rattle.c_rules.specs.Statements.{object_type, with_declared, local_clash, optional_first, declare_local, declare_locals, declaration, for_start, value_rules, condition_rules, optional_rules}
use Rattle.c_rules.specs.Elaborated.{known_value, unused, test_of, condition_test, mapped, known_as, value_as, first_local, type_or_void, local_of, locals_of, declared_locals, declare_each, start_of, literals_in, literals_in_first, literals_in_declarators, literals_in_declarator, literals_in_value, literals_in_start}
use Rattle.c_typed.specs.Context.{Context, with_local}
use Rattle.c_typed.specs.Expressions.{is_scalar}
use Rattle.c_typed.specs.Statements.{Within, holds_for, is_expression, is_condition, is_of_type, if_any, is_local, are_locals, with_locals, is_start, with_start, is_block}
use Rattle.c_rules.specs.Proper.{is_proper}
use Rattle.c_rules.specs.Fitting.{Fits, AreListed}
use Rattle.c_rules.proofs.Yielding.{none_left, none_right}
use Rattle.c_rules.proofs.Completeness.{complete_stays}
use Rattle.c_rules.proofs.ConversionsFit.{value_has, converted_fits, fits_scalar, condition_yields}
use Rattle.c_rules.proofs.TypeNames.{words_yield, declared_yields, object_yields, have_types}
use Rattle.c_rules.proofs.Unused.{dropped-some}
use Rattle.c_rules.proofs.ExpressionsFit.{expr_fits, value_fits}

-- ---- lists of literals

pub listed-left : (all xs ys : List LiteralDef) → AreListed all (xs ++ ys) → AreListed all xs
listed-left all [] ys listed = tt
listed-left all (x ∷ xs) ys listed = (listed.0, listed-left all xs ys listed.1)

pub listed-right : (all xs ys : List LiteralDef) → AreListed all (xs ++ ys) → AreListed all ys
listed-right all [] ys listed = listed
listed-right all (x ∷ xs) ys listed = listed-right all xs ys listed.1

-- ---- scopes

pub entered-fits : (scope : Scope) (around : Context) → Fits scope around → Fits (entered scope) around
entered-fits scope around fit =
    record {
      structs = fit.structs;
      completed = fit.completed;
      never = fit.never;
      members = fit.members;
      typed_members = fit.typed_members;
      locals = fit.locals;
      outer = fit.outer;
      known = fit.known;
    }

pub declared-fits : (scope : Scope) (around : Context) → Fits scope around → (name : Option NameTree) (c_type : CType) → is_complete scope.structs c_type ≡ true → is_proper c_type ≡ true
    → Fits (with_declared name (Some c_type) scope) (with_local c_type around)
declared-fits scope around fit None c_type complete proper =
    record {
      structs = fit.structs;
      completed = fit.completed;
      never = fit.never;
      members = fit.members;
      typed_members = fit.typed_members;
      locals = (refl, complete_stays scope around fit c_type complete, proper, fit.locals);
      outer = fit.outer;
      known = fit.known;
    }
declared-fits scope around fit (Some name) c_type complete proper =
    record {
      structs = fit.structs;
      completed = fit.completed;
      never = fit.never;
      members = fit.members;
      typed_members = fit.typed_members;
      locals = (refl, complete_stays scope around fit c_type complete, proper, fit.locals);
      outer = fit.outer;
      known = fit.known;
    }

-- ---- values

pub unused-fits : (scope : Scope) (around : Context) → Fits scope around → (e : ExprTree) → AreListed around.program.literals (literals_in e) → value_rules scope e ≡ [] → is_expression around (unused scope e) ≡ true
unused-fits scope around fit e listed none =
    let found = value_fits scope around fit (place_of e) e listed none in
    subst (λ known. is_expression around (dropped (known_value known)) ≡ true) (sym found.1)
    (dropped-some around (value_in found.0) (ap is_some (value_has around found.0 found.2).0))

pub test-fits : (scope : Scope) (around : Context) → Fits scope around → (e : ExprTree) → AreListed around.program.literals (literals_in e) → condition_rules scope e ≡ [] → is_condition around (test_of scope e) ≡ true
test-fits scope around fit e listed none =
    let found = condition_yields around (place_of e) (expr scope e) (expr_fits scope around fit e listed) none in
    subst (λ known. is_condition around (condition_test known) ≡ true) (sym found.1) found.2

-- an expression that may be left out
pub optional-fits : (around : Context) (rules : ExprTree → List Violation) (make : ExprTree → Value) (test : Value → Bool)
    → ((e : ExprTree) → AreListed around.program.literals (literals_in e) → rules e ≡ [] → test (make e) ≡ true)
    → (value : Option ExprTree) → AreListed around.program.literals (literals_in_value value) → optional_rules rules value ≡ [] → if_any test (mapped make value) ≡ true
optional-fits around rules make test fit None listed none = refl
optional-fits around rules make test fit (Some e) listed none = fit e listed none

required : (c_type : CType) (place : Pos) (known : Known) → (require (fits c_type known) T.T10 place (give known)).found ≡ [] → fits c_type known ≡ true
required c_type place known none = by (fits c_type known) refl none
  where
    by : (b : Bool) → fits c_type known ≡ b → (require b T.T10 place (give known)).found ≡ [] → fits c_type known ≡ true
    by true is none = is
    by false is none = cc

-- a value that is assigned, returned or a first value
pub assigned-fits : (scope : Scope) (around : Context) → Fits scope around → (c_type : CType) (e : ExprTree) → AreListed around.program.literals (literals_in e)
    → (given (as_value (place_of e) (expr scope e)) (λ known. require (fits c_type known) T.T10 (place_of e) (give known))).found ≡ []
    → (is_scalar c_type && is_of_type around c_type (value_as scope (Some c_type) e)) ≡ true
assigned-fits scope around fit c_type e listed none =
    let part = as_value (place_of e) (expr scope e) in
    let rule = λ (known : Known). require (fits c_type known) T.T10 (place_of e) (give known) in
    let found = value_fits scope around fit (place_of e) e listed (none_left part.found (with_known part.known rule).found none) in
    let fitting = required c_type (place_of e) found.0 (subst (λ known. (with_known known rule).found ≡ []) found.1 (none_right part.found (with_known part.known rule).found none)) in
    subst (λ known. (is_scalar c_type && is_of_type around c_type (known_as (place_of e) c_type known)) ≡ true) (sym found.1)
    (and_from (is_scalar c_type) (is_of_type around c_type (converted (place_of e) c_type found.0)) (fits_scalar c_type found.0 fitting)
    (ap (holds_for (same_type c_type)) (converted_fits around (place_of e) c_type found.0 found.2 fitting) ∙ same_type-refl c_type))

-- ---- locals

first-fits : (behind : Scope) (inside : Context) → Fits behind inside → (c_type : CType) (init : Option InitTree) → AreListed inside.program.literals (literals_in_first init) → optional_first behind (Some c_type) init ≡ []
    → if_any (λ value. is_scalar c_type && is_of_type inside c_type value) (first_local behind (Some c_type) init) ≡ true
first-fits behind inside fit c_type None listed none = refl
first-fits behind inside fit c_type (Some (Trees.InitList place inits)) listed none = cc
first-fits behind inside fit c_type (Some (Trees.InitValue value)) listed none = by (is_array c_type || is_struct c_type) none
  where
    by : (b : Bool)
        → cond b (at T.T18 (place_of value) ++ value_found behind value)
        (given (as_value (place_of value) (expr behind value)) (λ known. require (fits c_type known) T.T10 (place_of value) (give known))).found ≡ []
        → (is_scalar c_type && is_of_type inside c_type (value_as behind (Some c_type) value)) ≡ true
    by true none = cc
    by false none = assigned-fits behind inside fit c_type value listed none

-- one local, and what is behind its declarator
module _ (scope : Scope) (around : Context) (fit : Fits scope around) (place : Pos) (base : CType) (proper : is_proper base ≡ true) (tree : InitDeclaratorTree) where
  abbrev LocalFits : Scope → LocalDef → Type 0
  LocalFits behind local = (is_local around local ≡ true) × Fits behind (with_local local.c_type around)

  local-fits : AreListed around.program.literals (literals_in_first tree.init) → (declare_local place (Some base) tree scope).found ≡ []
      → LocalFits (declare_local place (Some base) tree scope).scope (local_of place (Some base) tree scope)
  local-fits listed none =
      let name = declared_name tree.declarator in
      let here = name_place name place in
      let own = object_type scope here (declared_type scope here Required (Some base) tree.declarator) in
      let clash = local_clash scope name in
      let last = optional_first (with_declared name own.known scope) own.known tree.init in
      let found = object_yields scope here (declared_type scope here Required (Some base) tree.declarator) (declared_yields scope (have_types scope around fit) here Required base tree.declarator proper) (none_left own.found clash (none_left (own.found ++ clash) last none)) in
      let behind = declared-fits scope around fit name found.0 found.2.0 found.2.1 in
      let first = subst (λ known. optional_first (with_declared name known scope) known tree.init ≡ []) found.1 (none_right (own.found ++ clash) last none) in
      subst (λ known. LocalFits (with_declared name known scope) (record { c_type = type_or_void known; first = first_local (with_declared name known scope) known tree.init })) (sym found.1) (
        and_from (is_complete around.program.structs found.0) _ (complete_stays scope around fit found.0 found.2.0)
            (first-fits (with_declared name (Some found.0) scope) (with_local found.0 around) behind found.0 tree.init listed first),
        behind,
      )

-- all of them
locals-fit : (scope : Scope) (around : Context) → Fits scope around → (place : Pos) (base : CType) → is_proper base ≡ true → (trees : List InitDeclaratorTree)
    → AreListed around.program.literals (literals_in_declarators trees) → (declare_locals place (Some base) trees scope).found ≡ []
    → (are_locals around (locals_of place (Some base) trees scope) ≡ true) × Fits (declare_locals place (Some base) trees scope).scope (with_locals (locals_of place (Some base) trees scope) around)
locals-fit scope around fit place base proper [] listed none = (refl, fit)
locals-fit scope around fit place base proper (first ∷ others) listed none =
    let one = declare_local place (Some base) first scope in
    let local = local_of place (Some base) first scope in
    let all = around.program.literals in
    let own = literals_in_declarator first.declarator ++ literals_in_first first.init in
    let listed_first = listed-right all (literals_in_declarator first.declarator) (literals_in_first first.init) (listed-left all own (literals_in_declarators others) listed) in
    let fits_one = local-fits scope around fit place base proper first listed_first (none_left one.found _ none) in
    let rest = locals-fit one.scope (with_local local.c_type around) fits_one.1 place base proper others (listed-right all own (literals_in_declarators others) listed) (none_right one.found _ none) in
    (and_from (is_local around local) _ fits_one.0 rest.0, rest.1)

-- a declaration
pub declaration-fits : (scope : Scope) (around : Context) → Fits scope around → (tree : DeclarationTree) → AreListed around.program.literals (literals_in_declarators tree.declarators) → (declaration scope tree).found ≡ []
    → (are_locals around (declared_locals scope tree) ≡ true) × Fits (declaration scope tree).scope (with_locals (declared_locals scope tree) around)
declaration-fits scope around fit tree listed none =
    let base = words_type scope tree.words in
    let found = words_yield scope tree.words (none_left base.found (declare_locals tree.words.place base.known tree.declarators scope).found none) in
    let rest = none_right base.found (declare_locals tree.words.place base.known tree.declarators scope).found none in
    subst (λ known. (are_locals around (locals_of tree.words.place known tree.declarators scope) ≡ true) × Fits (declare_locals tree.words.place known tree.declarators scope).scope (with_locals (locals_of tree.words.place known tree.declarators scope) around)) (sym found.1)
    (locals-fit scope around fit tree.words.place found.0 found.2 tree.declarators listed
    (subst (λ known. (declare_locals tree.words.place known tree.declarators scope).found ≡ []) found.1 rest))

-- ---- what is behind locals

pub same-program : (locals : List LocalDef) (around : Context) → (with_locals locals around).program ≡ around.program
same-program [] around = refl
same-program (first ∷ others) around = same-program others (with_local first.c_type around)

pub block-behind : (within : Within) (block : Block) (locals : List LocalDef) (around : Context) → are_locals around locals ≡ true → is_block (with_locals locals around) within block ≡ true → is_block around within (declare_each locals block) ≡ true
block-behind within block [] around are is = is
block-behind within block (first ∷ others) around are is =
    let parts = and_parts (is_local around first) (are_locals (with_local first.c_type around) others) are in
    and_from (is_local around first) _ parts.0 (block-behind within block others (with_local first.c_type around) parts.1 is)

-- what a `for` begins with
pub start-fits : (scope : Scope) (around : Context) → Fits scope around → (tree : ForTree) → AreListed around.program.literals (literals_in_start tree) → (for_start scope tree).found ≡ []
    → (is_start around (start_of scope tree) ≡ true) × Fits (for_start scope tree).scope (with_start (start_of scope tree) around) × ((with_start (start_of scope tree) around).program ≡ around.program)
start-fits scope around fit Trees.ForNothing listed none = (refl, fit, refl)
start-fits scope around fit (Trees.ForExpression value) listed none = (unused-fits scope around fit value listed none, fit, refl)
start-fits scope around fit (Trees.ForDeclaration tree) listed none =
    let found = declaration-fits scope around fit tree listed none in (found.0, found.1, same-program (declared_locals scope tree) around)
