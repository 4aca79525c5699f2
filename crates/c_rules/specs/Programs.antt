-- The rules of programs (C17 6.9), and what a program violates.
use Rattle.std.specs.Prelude.{ℕ, Bool, true, false, not, ◌&&◌, ◌||◌, if◌then◌else◌, List, [], ◌∷◌, ◌++◌, Option, Some, None, bytes_eq, codes}
use Rattle.run_theory.specs.declared.place.Pos.{Pos}
use Rattle.c_syntax.specs.Trees
use Rattle.c_syntax.specs.Trees.{NameTree, WordsTree, SimpleTree, ExprTree, ArgumentsTree, TypeTree, OptionalTree, DeclaratorTree, DirectTree, SuffixesTree, LengthTree, ParametersTree, InitTree, InitsTree, InitDeclaratorTree, MemberTree, BaseTree, ItemTree, BlockTree, ProgramTree}
use Rattle.c_rules.specs.declared.rule.TypeRule.TheVariants as T
use Rattle.c_rules.specs.declared.violation.Violation.{Violation}
use Rattle.c_typed.specs.Types
use Rattle.c_typed.specs.Types.{CType, Struct, Function, NoTypes, same_type}
use Rattle.c_typed.specs.Layouts.{MemberDef, is_complete, members_by_tag}
use Rattle.c_rules.specs.Names.{Scope, FileName, file_name, is_library, with_local, in_function, with_file_name}
use Rattle.c_typed.specs.Names.{contains}
use Rattle.c_rules.specs.Known.{Checked, also, require, given, at, unless, give, least}
use Rattle.c_rules.specs.Expressions.{LengthRole, Required, Adjusted, Initialized, words_type, declared_type, optional_type, declared_name, optional_name, name_place, is_void_alone, adds, parameter_type}
use Rattle.c_rules.specs.Initializers.{first_of, initial_length}
use Rattle.c_rules.specs.Statements.{block}

-- ---- the tags that a program declares: those of each `struct NAME` outside function bodies and parameter lists

abbrev pub tag_of : SimpleTree → List NameTree
tag_of (Trees.StructTag tag) = tag ∷ []
tag_of _ = []

abbrev mutual
  pub tags_in : ExprTree → List NameTree
  tags_in (Trees.Parenthesized place inner) = tags_in inner
  tags_in (Trees.Index array index) = tags_in array ++ tags_in index
  tags_in (Trees.Call function open_place arguments) = tags_in function ++ tags_in_arguments arguments
  tags_in (Trees.Member object member) = tags_in object
  tags_in (Trees.PointerMember pointer member) = tags_in pointer
  tags_in (Trees.PostIncrement operand) = tags_in operand
  tags_in (Trees.PostDecrement operand) = tags_in operand
  tags_in (Trees.Prefix operator place operand) = tags_in operand
  tags_in (Trees.SizeofExpr place operand) = tags_in operand
  tags_in (Trees.SizeofType place type_name) = tags_in_type type_name
  tags_in (Trees.Cast place type_name operand) = tags_in_type type_name ++ tags_in operand
  tags_in (Trees.Binary operator left right) = tags_in left ++ tags_in right
  tags_in (Trees.Conditional condition taken otherwise) = tags_in condition ++ tags_in taken ++ tags_in otherwise
  tags_in (Trees.Assign operator object value) = tags_in object ++ tags_in value
  tags_in _ = []

  pub tags_in_arguments : ArgumentsTree → List NameTree
  tags_in_arguments Trees.NoArguments = []
  tags_in_arguments (Trees.Argument value others) = tags_in value ++ tags_in_arguments others

  pub tags_in_type : TypeTree → List NameTree
  tags_in_type (Trees.TypeName words declarator) = tag_of words.words ++ tags_in_optional declarator

  pub tags_in_optional : OptionalTree → List NameTree
  tags_in_optional Trees.NoDeclarator = []
  tags_in_optional (Trees.Declared declarator) = tags_in_declarator declarator

  pub tags_in_declarator : DeclaratorTree → List NameTree
  tags_in_declarator (Trees.Declarator stars direct suffixes) = tags_in_direct direct ++ tags_in_suffixes suffixes

  pub tags_in_direct : DirectTree → List NameTree
  tags_in_direct (Trees.Nested declarator) = tags_in_declarator declarator
  tags_in_direct _ = []

  pub tags_in_suffixes : SuffixesTree → List NameTree
  tags_in_suffixes Trees.NoSuffixes = []
  tags_in_suffixes (Trees.ArraySuffix length others) = tags_in_length length ++ tags_in_suffixes others
  tags_in_suffixes (Trees.FunctionSuffix _ others) = tags_in_suffixes others

  pub tags_in_length : LengthTree → List NameTree
  tags_in_length Trees.NoLength = []
  tags_in_length (Trees.ArrayLength value) = tags_in value

abbrev mutual
  pub tags_in_init : InitTree → List NameTree
  tags_in_init (Trees.InitValue value) = tags_in value
  tags_in_init (Trees.InitList place inits) = tags_in_inits inits

  pub tags_in_inits : InitsTree → List NameTree
  tags_in_inits Trees.NoInits = []
  tags_in_inits (Trees.Inits init others) = tags_in_init init ++ tags_in_inits others

abbrev pub tags_in_first : Option InitTree → List NameTree
tags_in_first None = []
tags_in_first (Some init) = tags_in_init init

abbrev pub tags_in_declarators : List InitDeclaratorTree → List NameTree
tags_in_declarators [] = []
tags_in_declarators (first ∷ others) = tags_in_declarator first.declarator ++ tags_in_first first.init ++ tags_in_declarators others

abbrev pub tags_in_each : List DeclaratorTree → List NameTree
tags_in_each [] = []
tags_in_each (first ∷ others) = tags_in_declarator first ++ tags_in_each others

abbrev pub tags_in_members : List MemberTree → List NameTree
tags_in_members [] = []
tags_in_members (member ∷ members) = tag_of member.words.words ++ tags_in_each member.declarators ++ tags_in_members members

abbrev pub tags_in_base : BaseTree → List NameTree
tags_in_base (Trees.Plain words) = tag_of words.words
tags_in_base (Trees.StructBody place name members) = name ∷ tags_in_members members

abbrev pub tags_in_items : List ItemTree → List NameTree
tags_in_items [] = []
tags_in_items (Trees.Declaration base declarators ∷ items) = tags_in_base base ++ tags_in_declarators declarators ++ tags_in_items items
tags_in_items (Trees.Function base declarator place body ∷ items) = tags_in_base base ++ tags_in_declarator declarator ++ tags_in_items items

-- ---- the structures that it completes, and the functions that it defines

abbrev pub completed_by : BaseTree → List (List ℕ)
completed_by (Trees.Plain words) = []
completed_by (Trees.StructBody place name members) = name.bytes ∷ []

abbrev pub completed_in : List ItemTree → List (List ℕ)
completed_in [] = []
completed_in (Trees.Declaration base declarators ∷ items) = completed_by base ++ completed_in items
completed_in (Trees.Function base declarator place body ∷ items) = completed_by base ++ completed_in items

abbrev pub bytes_of_name : Option NameTree → List (List ℕ)
bytes_of_name None = []
bytes_of_name (Some name) = name.bytes ∷ []

abbrev pub defined_in : List ItemTree → List (List ℕ)
defined_in [] = []
defined_in (Trees.Declaration base declarators ∷ items) = defined_in items
defined_in (Trees.Function base declarator place body ∷ items) = bytes_of_name (declared_name declarator) ++ defined_in items

-- ---- structures (C17 6.7.2.1)

-- members as far as they were declared, and what that violates
pub record Members : Type 0 where
  pub found : List Violation
  pub members : List MemberDef

abbrev pub has_member : List MemberDef → List ℕ → Bool
has_member [] name = false
has_member (first ∷ others) name = bytes_eq first.name name || has_member others name

abbrev pub member_clash : List MemberDef → Option NameTree → List Violation
member_clash members None = []
member_clash members (Some name) = unless (not (has_member members name.bytes)) T.T04 name.place

abbrev pub with_member : Option NameTree → Option CType → List MemberDef → List MemberDef
with_member None c_type members = members
with_member (Some name) c_type members = members ++ record { name = name.bytes; c_type = c_type } ∷ []

abbrev pub declared_members : Scope → Pos → Option CType → List DeclaratorTree → List MemberDef → Members
declared_members scope place base [] members = record { found = []; members = members }
declared_members scope place base (declarator ∷ others) members =
    let name = declared_name declarator in
    let here = name_place name place in
    let own = given (declared_type scope here Required base declarator) (λ c_type. require (is_complete scope.structs c_type) T.T05 here (give c_type)) in
    let rest = declared_members scope place base others (with_member name own.known members) in
    record rest { found = own.found ++ member_clash members name ++ rest.found }

abbrev pub all_members : Scope → List MemberTree → List MemberDef → Members
all_members scope [] members = record { found = []; members = members }
all_members scope (first ∷ others) members =
    let base = words_type scope first.words in
    let some = declared_members scope first.words.place base.known first.declarators members in
    let rest = all_members scope others some.members in
    record rest { found = base.found ++ some.found ++ rest.found }

-- the type that an item's words name, and the scope behind them
pub record Based : Type 0 where
  pub type_of : Checked CType
  pub scope : Scope

abbrev pub is_completed_before : Option (List MemberDef) → Bool
is_completed_before (Some members) = true
is_completed_before None = false

abbrev pub with_struct : List ℕ → List MemberDef → Scope → Scope
with_struct tag members scope = if is_completed_before (members_by_tag scope.structs tag) then scope else record scope { structs = record { tag = tag; members = members } ∷ scope.structs }

abbrev pub base_type : Scope → BaseTree → Based
base_type scope (Trees.Plain words) = record { type_of = words_type scope words; scope = scope }
base_type scope (Trees.StructBody place name members) =
    let all = all_members scope members [] in
    let again = unless (not (is_completed_before (members_by_tag scope.structs name.bytes))) T.T04 name.place in
    record { type_of = also (again ++ all.found) (give (Struct name.bytes)); scope = with_struct name.bytes all.members scope }

abbrev pub base_place : BaseTree → Pos
base_place (Trees.Plain words) = words.place
base_place (Trees.StructBody place name members) = place

-- ---- names outside functions (C17 6.7 paragraph 4, 6.9.2)

abbrev pub differs : Option CType → Option CType → Bool
differs (Some a) (Some b) = not (same_type a b)
differs _ _ = false

abbrev pub known_first : Option CType → Option CType → Option CType
known_first (Some c_type) other = Some c_type
known_first None other = other

-- the same name once more: with another type, a second initializer or a second body
abbrev pub again_clash : Pos → Option FileName → FileName → List Violation
again_clash here None name = []
again_clash here (Some old) name = unless (not (differs old.c_type name.c_type || ((old.has_init && name.has_init) || (old.has_body && name.has_body)))) T.T04 here

abbrev pub joined_name : Option FileName → FileName → FileName
joined_name None name = name
joined_name (Some old) name =
    record {
      name = name.name;
      c_type = known_first old.c_type name.c_type;
      has_init = old.has_init || name.has_init;
      has_body = old.has_body || name.has_body;
    }

-- `main` is `int main(void)` (C17 5.1.2.2.1; it has no other form here)
abbrev pub is_main_type : Option CType → Bool
is_main_type None = true
is_main_type (Some c_type) = same_type c_type (Function Types.int NoTypes)

abbrev pub main_clash : NameTree → Option CType → List Violation
main_clash name c_type = if bytes_eq name.bytes (codes "main") then unless (is_main_type c_type) T.T02 name.place else []

pub record Filed : Type 0 where
  pub found : List Violation
  pub scope : Scope

-- a name with its type, and what its declaration violates
abbrev pub declare_outside : NameTree → Option CType → Bool → Bool → Scope → Filed
declare_outside name c_type has_init has_body scope =
    let entry : FileName = record { name = name.bytes; c_type = c_type; has_init = has_init; has_body = has_body } in
    let old = file_name scope.file name.bytes in
    record {
      found = unless (not (is_library name.bytes)) T.T04 name.place ++ main_clash name c_type ++ again_clash name.place old entry;
      scope = record scope { file = with_file_name (joined_name old entry) scope.file };
    }

abbrev pub role_of : Option InitTree → LengthRole
role_of None = Required
role_of (Some init) = Initialized (initial_length init)

-- the type of a name outside functions that has no body: a function, or an object
abbrev pub outside_type : Scope → Pos → Checked CType → Checked CType
outside_type scope here part = given part (λ c_type. require (Types.is_function c_type || is_complete scope.structs c_type) T.T05 here (give c_type))

-- the type of a name that has a body: a function. One that isn't keeps its type for the other rules of its declaration.
abbrev pub body_type : Pos → Checked CType → Checked CType
body_type here part = given part (λ c_type. also (unless (Types.is_function c_type) T.T05 here) (give c_type))

abbrev pub has_first : Option InitTree → Bool
has_first None = false
has_first (Some init) = true

abbrev pub first_rules : Scope → Option CType → Option InitTree → List Violation
first_rules scope c_type None = []
first_rules scope c_type (Some init) = first_of scope c_type init

abbrev pub file_declarator : Scope → Pos → Option CType → InitDeclaratorTree → Option NameTree → Filed
file_declarator scope place base tree None = record { found = []; scope = scope }
file_declarator scope place base tree (Some name) =
    let own = outside_type scope name.place (declared_type scope name.place (role_of tree.init) base tree.declarator) in
    let filed = declare_outside name own.known (has_first tree.init) false scope in
    record filed { found = own.found ++ filed.found ++ first_rules filed.scope own.known tree.init }

abbrev pub file_declarators : Scope → Pos → Option CType → List InitDeclaratorTree → Filed
file_declarators scope place base [] = record { found = []; scope = scope }
file_declarators scope place base (first ∷ others) =
    let one = file_declarator scope place base first (declared_name first.declarator) in
    let rest = file_declarators one.scope place base others in
    record rest { found = one.found ++ rest.found }

-- ---- functions (C17 6.9.1)

abbrev pub first_parameters : SuffixesTree → ParametersTree
first_parameters (Trees.FunctionSuffix parameters others) = parameters
first_parameters _ = Trees.NoParameters

-- The parameters of a function's own list, which stands next to its name.
abbrev mutual
  pub own_parameters : DeclaratorTree → ParametersTree
  own_parameters (Trees.Declarator stars direct suffixes) = direct_parameters direct suffixes

  pub direct_parameters : DirectTree → SuffixesTree → ParametersTree
  direct_parameters (Trees.Nested declarator) suffixes = if adds declarator then own_parameters declarator else first_parameters suffixes
  direct_parameters _ suffixes = first_parameters suffixes

abbrev pub parameter_local : Scope → WordsTree → OptionalTree → Option NameTree → Scope → Scope
parameter_local outside words _ None scope = scope
parameter_local outside words declarator (Some name) scope =
    with_local name.bytes (given (optional_type outside name.place Adjusted (words_type outside words) declarator) (parameter_type outside name.place)).known scope

abbrev pub unnamed : Option NameTree → Pos → List Violation
unnamed None place = at T.T05 place
unnamed (Some name) place = []

-- they are the function's first locals, and each has a name
abbrev pub enter_parameters : Scope → ParametersTree → Scope → Filed
enter_parameters outside Trees.NoParameters scope = record { found = []; scope = scope }
enter_parameters outside (Trees.Parameter words declarator others) scope =
    let rest = enter_parameters outside others (parameter_local outside words declarator (optional_name declarator) scope) in
    record rest { found = unnamed (optional_name declarator) words.place ++ rest.found }

abbrev pub entered_function : Scope → ParametersTree → Filed
entered_function scope parameters =
    let inside = in_function scope in
    if is_void_alone parameters then record { found = []; scope = inside } else enter_parameters scope parameters inside

abbrev pub result_of : Option CType → Option CType
result_of (Some (Function result parameters)) = Some result
result_of _ = None

abbrev pub body_rules : Scope → Option CType → DeclaratorTree → BlockTree → List Violation
body_rules scope c_type declarator body =
    let entered = entered_function scope (own_parameters declarator) in
    entered.found ++ block entered.scope (record { result = result_of c_type; may_break = false; may_continue = false }) body

abbrev pub function_item : Scope → Pos → Option CType → DeclaratorTree → BlockTree → Option NameTree → Filed
function_item scope place base declarator body None = record { found = []; scope = scope }
function_item scope place base declarator body (Some name) =
    let own = body_type name.place (declared_type scope name.place Required base declarator) in
    let filed = declare_outside name own.known false true scope in
    record filed { found = own.found ++ filed.found ++ body_rules filed.scope own.known declarator body }

-- ---- programs

abbrev pub item : Scope → ItemTree → Filed
item scope (Trees.Declaration base declarators) =
    let based = base_type scope base in
    let all = file_declarators based.scope (base_place base) based.type_of.known declarators in
    record all { found = based.type_of.found ++ all.found }
item scope (Trees.Function base declarator place body) =
    let based = base_type scope base in
    let one = function_item based.scope (base_place base) based.type_of.known declarator body (declared_name declarator) in
    record one { found = based.type_of.found ++ one.found }

abbrev pub items : Scope → List ItemTree → List Violation
items scope [] = []
items scope (first ∷ others) = let one = item scope first in one.found ++ items one.scope others

abbrev pub has_tag : List NameTree → List ℕ → Bool
has_tag [] name = false
has_tag (first ∷ others) name = bytes_eq first.bytes name || has_tag others name

-- each tag once, with its first place, behind these
abbrev pub first_places : List NameTree → List NameTree → List NameTree
first_places tags [] = tags
first_places tags (tag ∷ others) = first_places (if has_tag tags tag.bytes then tags else tags ++ tag ∷ []) others

-- each name once, behind these
abbrev pub each_once : List (List ℕ) → List (List ℕ) → List (List ℕ)
each_once names [] = names
each_once names (name ∷ others) = each_once (if contains names name then names else names ++ name ∷ []) others

-- what is known where a program begins
abbrev pub outermost : ProgramTree → Scope
outermost program =
    record {
      tags = first_places [] (tags_in_items program.items);
      completed = each_once [] (completed_in program.items);
      defined = each_once [] (defined_in program.items);
      structs = [];
      file = [];
      inner = [];
      outer = [];
    }

-- all that a program violates
abbrev pub violations : ProgramTree → List Violation
violations program = items (outermost program) program.items ++ unless (contains (outermost program).defined (codes "main")) T.T01 program.end

-- what is answered: the least pair of place and rule
abbrev pub refusal : ProgramTree → Option Violation
refusal program = least (violations program)
