-- What items declare, where they violate nothing.
use Rattle.std.proofs.Common.{◌≡◌, true, false, not, ◌||◌, cond, List, [], ◌∷◌, Option, Some, None, refl, sym, ap, subst}
use Rattle.std.proofs.lemmas.Bool.{false≢true}
use Rattle.run_theory.specs.declared.place.Pos.{Pos}
use Rattle.c_syntax.specs.Trees
use Rattle.c_syntax.specs.Trees.{NameTree, DeclaratorTree, InitDeclaratorTree, BlockTree, BaseTree, ItemTree}
use Rattle.c_typed.specs.Types.{CType, is_function}
use Rattle.c_typed.specs.Layouts.{MemberDef, is_complete, members_by_tag}
use Rattle.c_rules.specs.declared.rule.TypeRule.TheVariants as T
use Rattle.c_rules.specs.declared.violation.Violation.{Violation}
use Rattle.c_rules.specs.Names.{Scope}
use Rattle.c_rules.specs.Known.{Checked, unless, give, also}
use Rattle.c_rules.specs.Expressions.{Required, declared_type, declared_name}
use Rattle.c_rules.specs.Programs.{Filed, Based, Members, all_members, is_completed_before, with_struct, base_type, base_place, outside_type, body_type, role_of, has_first, first_rules, declare_outside, file_declarator, file_declarators, function_item, body_rules, item, items}
use Rattle.c_rules.specs.Elaborated.{all_structs}
use Rattle.c_rules.specs.Proper.{is_proper}
use Rattle.c_rules.proofs.TypeNames.{words_yield, declared_yields}
use Rattle.c_rules.proofs.Nothing.{both_none, three_none, unless_none, yields_tested, given_known, given_part}
use Rattle.c_rules.proofs.Structures.{Keeps, newest_keeps, body_fits}
use Rattle.c_rules.proofs.Outside.{Later, later_same, later_both, Good, Declared, declared, good_within, good_types}

-- ---- the words of an item

abbrev pub ProperKnown : Option CType → Type 0
ProperKnown None = ⊥
ProperKnown (Some c_type) = is_proper c_type ≡ true

pub record BaseFits (before : Scope) (based : Based) : Type 0 where
  pub proper : ProperKnown based.type_of.known
  pub good : Good based.scope
  pub later : Later before based.scope

not_completed : (members : Option (List MemberDef)) → not (is_completed_before members) ≡ true → members ≡ None
not_completed None e = refl
not_completed (Some members) e = absurd (false≢true e)

pub base_fits : (scope : Scope) → Good scope → (base : BaseTree) → (base_type scope base).type_of.found ≡ [] → BaseFits scope (base_type scope base)
base_fits scope good (Trees.Plain words) e =
    let some = words_yield scope words e in
    record { proper = subst ProperKnown (sym some.1) some.2; good = good; later = later_same scope }
base_fits scope good (Trees.StructBody place name members) e = record { proper = refl; good = subst Good (sym is) newer_good; later = subst (Later scope) (sym is) newer_later }
  where
    all : Members
    all = all_members scope members []

    before : Option (List MemberDef)
    before = members_by_tag scope.structs name.bytes

    newer : Scope
    newer = record scope { structs = record { tag = name.bytes; members = all.members } ∷ scope.structs }

    parts : (unless (not (is_completed_before before)) T.T04 name.place ≡ []) × (all.found ≡ []) × (◌≡◌ {A = List Violation} [] [])
    parts = three_none (unless (not (is_completed_before before)) T.T04 name.place) all.found [] e

    new : before ≡ None
    new = not_completed before (unless_none (not (is_completed_before before)) T.T04 name.place parts.0)

    is : with_struct name.bytes all.members scope ≡ newer
    is = ap (λ m. cond (is_completed_before m) scope newer) new

    keeps : Keeps scope.structs newer.structs
    keeps = newest_keeps (record { tag = name.bytes; members = all.members }) scope.structs new

    newer_good : Good newer
    newer_good = good_within scope newer good keeps (new, body_fits scope (good_types scope good) members parts.1, good.structs) good.locals refl

    newer_later : Later scope newer
    newer_later = record { structs = keeps; file = λ name' c_type h. h; completed = refl; defined = refl }

-- ---- declarators outside functions

abbrev pub outside_own : Scope → Option CType → InitDeclaratorTree → NameTree → Checked CType
outside_own scope base tree name = outside_type scope name.place (declared_type scope name.place (role_of tree.init) base tree.declarator)

abbrev pub outside_filed : Scope → Option CType → InitDeclaratorTree → NameTree → Filed
outside_filed scope base tree name = declare_outside name (outside_own scope base tree name).known (has_first tree.init) false scope

pub outside_declared : (scope : Scope) → Good scope → (place : Pos) (base : Option CType) → ProperKnown base → (tree : InitDeclaratorTree) (name : NameTree)
    → (file_declarator scope place base tree (Some name)).found ≡ [] → (c_type : CType) × Declared scope (outside_filed scope base tree name) name (outside_own scope base tree name).known c_type
outside_declared scope good place None proper tree name e = absurd proper
outside_declared scope good place (Some base) proper tree name e =
    let own = outside_own scope (Some base) tree name in
    let filed = outside_filed scope (Some base) tree name in
    let parts = three_none own.found filed.found (first_rules filed.scope own.known tree.init) e in
    let part = declared_type scope name.place (role_of tree.init) (Some base) tree.declarator in
    let some = yields_tested part (λ t. is_proper t ≡ true) (λ t. is_function t || is_complete scope.structs t) T.T05 name.place
    (declared_yields scope (good_types scope good) name.place (role_of tree.init) base tree.declarator proper) parts.0 in
    (some.0, declared scope good name own.known (has_first tree.init) false some.0 some.1 some.2.1 some.2.0 parts.1)

abbrev pub Passes : Scope → Scope → Type 0
Passes before after = Good after × Later before after

pub declarator_passes : (scope : Scope) → Good scope → (place : Pos) (base : Option CType) → ProperKnown base → (tree : InitDeclaratorTree) (name : Option NameTree)
    → (file_declarator scope place base tree name).found ≡ [] → Passes scope (file_declarator scope place base tree name).scope
declarator_passes scope good place base proper tree None e = (good, later_same scope)
declarator_passes scope good place base proper tree (Some name) e = let done = outside_declared scope good place base proper tree name e in (done.1.good, done.1.later)

pub declarators_pass : (scope : Scope) → Good scope → (place : Pos) (base : Option CType) → ProperKnown base → (trees : List InitDeclaratorTree)
    → (file_declarators scope place base trees).found ≡ [] → Passes scope (file_declarators scope place base trees).scope
declarators_pass scope good place base proper [] e = (good, later_same scope)
declarators_pass scope good place base proper (first ∷ others) e =
    let one = file_declarator scope place base first (declared_name first.declarator) in
    let parts = both_none one.found (file_declarators one.scope place base others).found e in
    let passed = declarator_passes scope good place base proper first (declared_name first.declarator) parts.0 in
    let rest = declarators_pass one.scope passed.0 place base proper others parts.1 in
    (rest.0, later_both scope one.scope (file_declarators one.scope place base others).scope passed.1 rest.1)

-- ---- functions

abbrev pub body_own : Scope → Option CType → DeclaratorTree → NameTree → Checked CType
body_own scope base declarator name = body_type name.place (declared_type scope name.place Required base declarator)

abbrev pub body_filed : Scope → Option CType → DeclaratorTree → NameTree → Filed
body_filed scope base declarator name = declare_outside name (body_own scope base declarator name).known false true scope

pub record FunctionFits (scope : Scope) (base : Option CType) (declarator : DeclaratorTree) (body : BlockTree) (name : NameTree) : Type 0 where
  pub c_type : CType
  pub done : Declared scope (body_filed scope base declarator name) name (body_own scope base declarator name).known c_type
  pub function : is_function c_type ≡ true
  -- its declarator violates nothing, and names this type
  pub none : (declared_type scope name.place Required base declarator).found ≡ []
  pub named : (declared_type scope name.place Required base declarator).known ≡ Some c_type
  pub rules : body_rules (body_filed scope base declarator name).scope (body_own scope base declarator name).known declarator body ≡ []

pub function_fits : (scope : Scope) → Good scope → (place : Pos) (base : Option CType) → ProperKnown base → (declarator : DeclaratorTree) (body : BlockTree) (name : NameTree)
    → (function_item scope place base declarator body (Some name)).found ≡ [] → FunctionFits scope base declarator body name
function_fits scope good place None proper declarator body name e = absurd proper
function_fits scope good place (Some base) proper declarator body name e =
    let own = body_own scope (Some base) declarator name in
    let filed = body_filed scope (Some base) declarator name in
    let parts = three_none own.found filed.found (body_rules filed.scope own.known declarator body) e in
    let part = declared_type scope name.place Required (Some base) declarator in
    let rule : CType → Checked CType = λ (c_type : CType). also (unless (is_function c_type) T.T05 name.place) (give c_type) in
    let none = given_part part rule parts.0 in
    let some = declared_yields scope (good_types scope good) name.place Required base declarator proper none in
    let known = given_known part rule some.0 some.1 parts.0 in
    let function = unless_none (is_function some.0) T.T05 name.place (both_none (unless (is_function some.0) T.T05 name.place) [] known.0).0 in
    record {
      c_type = some.0;
      done = declared scope good name own.known false true some.0 known.1 some.2 (ap (λ b. b || is_complete scope.structs some.0) function) parts.1;
      function = function;
      none = none;
      named = some.1;
      rules = parts.2;
    }

pub function_passes : (scope : Scope) → Good scope → (place : Pos) (base : Option CType) → ProperKnown base → (declarator : DeclaratorTree) (body : BlockTree) (name : Option NameTree)
    → (function_item scope place base declarator body name).found ≡ [] → Passes scope (function_item scope place base declarator body name).scope
function_passes scope good place base proper declarator body None e = (good, later_same scope)
function_passes scope good place base proper declarator body (Some name) e = let fit = function_fits scope good place base proper declarator body name e in (fit.done.good, fit.done.later)

-- ---- items

pub item_passes : (scope : Scope) → Good scope → (tree : ItemTree) → (item scope tree).found ≡ [] → Passes scope (item scope tree).scope
item_passes scope good (Trees.Declaration base declarators) e =
    let based = base_type scope base in
    let all = file_declarators based.scope (base_place base) based.type_of.known declarators in
    let parts = both_none based.type_of.found all.found e in
    let fit = base_fits scope good base parts.0 in
    let passed = declarators_pass based.scope fit.good (base_place base) based.type_of.known fit.proper declarators parts.1 in
    (passed.0, later_both scope based.scope all.scope fit.later passed.1)
item_passes scope good (Trees.Function base declarator place body) e =
    let based = base_type scope base in
    let one = function_item based.scope (base_place base) based.type_of.known declarator body (declared_name declarator) in
    let parts = both_none based.type_of.found one.found e in
    let fit = base_fits scope good base parts.0 in
    let passed = function_passes based.scope fit.good (base_place base) based.type_of.known fit.proper declarator body (declared_name declarator) parts.1 in
    (passed.0, later_both scope based.scope one.scope fit.later passed.1)

-- the place behind all items
abbrev pub last : Scope → List ItemTree → Scope
last scope [] = scope
last scope (first ∷ others) = last (item scope first).scope others

pub items_pass : (scope : Scope) → Good scope → (trees : List ItemTree) → items scope trees ≡ [] → Passes scope (last scope trees)
items_pass scope good [] e = (good, later_same scope)
items_pass scope good (first ∷ others) e =
    let parts = both_none (item scope first).found (items (item scope first).scope others) e in
    let passed = item_passes scope good first parts.0 in
    let rest = items_pass (item scope first).scope passed.0 others parts.1 in
    (rest.0, later_both scope (item scope first).scope (last scope (first ∷ others)) passed.1 rest.1)

pub last_structs : (scope : Scope) (trees : List ItemTree) → all_structs scope trees ≡ (last scope trees).structs
last_structs scope [] = refl
last_structs scope (first ∷ others) = last_structs (item scope first).scope others
