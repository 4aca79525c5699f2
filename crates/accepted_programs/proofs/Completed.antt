-- Structures that a text completes have members, which are filled.
use Rattle.std.proofs.Common.{◌≡◌, Bool, true, false, ◌&&◌, ◌||◌, List, [], ◌∷◌, ◌++◌, Option, Some, None, is_some, refl, ap, subst, sym, ◌∙◌}
use Rattle.std.proofs.lemmas.Bool.{and_parts, and_from}
use Rattle.std.proofs.lemmas.Option.{none-some, same_Some}
use Rattle.run_theory.specs.declared.place.Pos.{Pos}
use Rattle.c_syntax.specs.Trees
use Rattle.c_syntax.specs.Trees.{NameTree, DeclaratorTree, InitDeclaratorTree, MemberTree, BlockTree, BaseTree, ItemTree}
use Rattle.c_typed.specs.Types.{CType}
use Rattle.c_typed.specs.Layouts.{StructDef, MemberDef, is_complete, members_by_tag}
use Rattle.c_rules.specs.Names.{Scope}
use Rattle.c_rules.specs.Expressions.{words_type, declared_type, declared_name, name_place, Required}
use Rattle.c_rules.specs.Statements.{object_type}
use Rattle.c_rules.specs.Programs.{with_member, declared_members, all_members, is_completed_before, base_type, base_place, file_declarator, file_declarators, function_item, item}
use Rattle.c_rules.proofs.Structures.{MemberFits, MembersFit, StructsFit}
use Rattle.c_rules.proofs.Items.{last}
use Rattle.accepted_programs.specs.Knows.{IfKnown, Every}
use Rattle.accepted_programs.proofs.CRulesFilled.Holding.{by_test}
use Rattle.c_typed.specs.Sizes.{is_known_filled, all_filled, has_some, are_filled}
use Rattle.accepted_programs.specs.Whole.{IsWhole, MemberFilled}
use Rattle.accepted_programs.specs.Given.{some_named, declares_member, base_given, firsts_given, items_given}
use Rattle.accepted_programs.proofs.CRulesFilled.Types.{complete_filled}
use Rattle.accepted_programs.proofs.CRulesFilled.Structures.{all_members_filled}

-- each has a member, and its members' types are whole by older structures
abbrev pub StructsWhole : List StructDef → Type 0
StructsWhole [] = Unit {0}
StructsWhole (newest ∷ older) = ((has_some newest.members ≡ true) × Every (MemberFilled older) newest.members) × StructsWhole older

-- ---- they are filled

known_filled : (older : List StructDef) (known : Option CType) → MemberFits older known → IfKnown (IsWhole older) known → is_known_filled older known ≡ true
known_filled older None one whole = absurd (none-some one.0 one.1)
known_filled older (Some t) one whole = complete_filled older t whole (ap (is_complete older) (same_Some t one.0 one.1) ∙ one.2)

members_filled : (older : List StructDef) (members : List MemberDef) → MembersFit older members → Every (MemberFilled older) members → all_filled older members ≡ true
members_filled older [] fit all = refl
members_filled older (first ∷ others) fit all = and_from (is_known_filled older first.c_type) (all_filled older others) (known_filled older first.c_type fit.0 all.0) (members_filled older others fit.1 all.1)

pub structs_filled : (structs : List StructDef) → StructsFit structs → StructsWhole structs → are_filled structs ≡ true
structs_filled [] fit whole = refl
structs_filled (newest ∷ older) fit whole =
    and_from (has_some newest.members && all_filled older newest.members) (are_filled older)
    (and_from (has_some newest.members) (all_filled older newest.members) whole.0.0 (members_filled older newest.members fit.1 whole.0.1))
    (structs_filled older fit.2 whole.1)

-- ---- they have members

some_more : (members : List MemberDef) (last : MemberDef) → has_some (members ++ last ∷ []) ≡ true
some_more [] last = refl
some_more (first ∷ others) last = refl

either : (b c : Bool) → c ≡ true → (b || c) ≡ true
either true c e = refl
either false c e = e

named_some : (name : Option NameTree) (known : Option CType) (members : List MemberDef) (others : Bool) → ((is_some name || others) || has_some members) ≡ true → (others || has_some (with_member name known members)) ≡ true
named_some None known members others e = e
named_some (Some name) known members others e = either others _ (some_more members (record { name = name.bytes; c_type = known }))

declared_some : (scope : Scope) (place : Pos) (base : Option CType) (declarators : List DeclaratorTree) (members : List MemberDef) → (some_named declarators || has_some members) ≡ true
    → has_some (declared_members scope place base declarators members).members ≡ true
declared_some scope place base [] members e = e
declared_some scope place base (declarator ∷ others) members e =
    let name = declared_name declarator in
    let own = (object_type scope (name_place name place) (declared_type scope (name_place name place) Required base declarator)).known in
    declared_some scope place base others (with_member name own members) (named_some name own members (some_named others) e)

third : (a b c d : Bool) → ((a || b) || c) ≡ true → ((a || c) ≡ true → d ≡ true) → (b || d) ≡ true
third a true c d e then = refl
third true false c d e then = then refl
third false false c d e then = then e

all_some : (scope : Scope) (trees : List MemberTree) (members : List MemberDef) → (declares_member trees || has_some members) ≡ true → has_some (all_members scope trees members).members ≡ true
all_some scope [] members e = e
all_some scope (first ∷ others) members e =
    let base = (words_type scope first.words).known in
    let some = (declared_members scope first.words.place base first.declarators members).members in
    all_some scope others some
    (third (some_named first.declarators) (declares_member others) (has_some members) (has_some some) e (declared_some scope first.words.place base first.declarators members))

-- ---- the structures of a text

or_nothing : (b : Bool) → b ≡ true → (b || false) ≡ true
or_nothing true e = refl
or_nothing false e = e

base_structs : (scope : Scope) (base : BaseTree) → base_given base ≡ true → StructsWhole scope.structs → StructsWhole (base_type scope base).scope.structs
base_structs scope (Trees.Plain words) given whole = whole
base_structs scope (Trees.StructBody place name trees) given whole =
    let members = (all_members scope trees []).members in
    by_test (λ (s : Scope). StructsWhole s.structs) (is_completed_before (members_by_tag scope.structs name.bytes)) scope (record scope { structs = record { tag = name.bytes; members = members } ∷ scope.structs }) whole
    ((all_some scope trees [] (or_nothing (declares_member trees) given), all_members_filled scope.structs scope (λ tag those is. is) trees [] tt), whole)

declarator_structs : (scope : Scope) (place : Pos) (base : Option CType) (tree : InitDeclaratorTree) (name : Option NameTree) → (file_declarator scope place base tree name).scope.structs ≡ scope.structs
declarator_structs scope place base tree None = refl
declarator_structs scope place base tree (Some name) = refl

declarators_structs : (scope : Scope) (place : Pos) (base : Option CType) (trees : List InitDeclaratorTree) → (file_declarators scope place base trees).scope.structs ≡ scope.structs
declarators_structs scope place base [] = refl
declarators_structs scope place base (first ∷ others) =
    declarators_structs (file_declarator scope place base first (declared_name first.declarator)).scope place base others ∙ declarator_structs scope place base first (declared_name first.declarator)

function_structs : (scope : Scope) (place : Pos) (base : Option CType) (declarator : DeclaratorTree) (body : BlockTree) (name : Option NameTree) → (function_item scope place base declarator body name).scope.structs ≡ scope.structs
function_structs scope place base declarator body None = refl
function_structs scope place base declarator body (Some name) = refl

pub items_structs : (scope : Scope) → StructsWhole scope.structs → (trees : List ItemTree) → items_given trees ≡ true → StructsWhole (last scope trees).structs
items_structs scope whole [] given = whole
items_structs scope whole (Trees.Declaration base declarators ∷ others) given =
    let based = base_type scope base in
    let parts = and_parts (base_given base && firsts_given declarators) (items_given others) given in
    let own = base_structs scope base (and_parts (base_given base) (firsts_given declarators) parts.0).0 whole in
    items_structs (item scope (Trees.Declaration base declarators)).scope
    (subst StructsWhole (sym (declarators_structs based.scope (base_place base) based.type_of.known declarators)) own) others parts.1
items_structs scope whole (Trees.Function base declarator place body ∷ others) given =
    let based = base_type scope base in
    let parts = and_parts (base_given base) (items_given others) given in
    items_structs (item scope (Trees.Function base declarator place body)).scope
    (subst StructsWhole (sym (function_structs based.scope (base_place base) based.type_of.known declarator body (declared_name declarator))) (base_structs scope base parts.0 whole)) others parts.1
