-- The structures that are completed behind all items are those that the program says.
use Rattle.std.proofs.Common.{◌≡◌, ℕ, Bool, true, false, ◌||◌, cond, List, [], ◌∷◌, ◌++◌, Option, Some, None, bytes_eq, refl, sym, ap, ◌∙◌, ◌⊎◌, inl, inr}
use Rattle.std.proofs.lemmas.Bool.{false≢true, and_from, and_parts, or_left, or_right, or_cases}
use Rattle.run_theory.specs.declared.place.Pos.{Pos}
use Rattle.c_syntax.specs.Trees
use Rattle.c_syntax.specs.Trees.{NameTree, DeclaratorTree, InitDeclaratorTree, BlockTree, BaseTree, ItemTree}
use Rattle.c_typed.specs.Types.{CType}
use Rattle.c_typed.specs.Names.{contains}
use Rattle.c_typed.specs.Layouts.{StructDef, MemberDef, members_by_tag, has_members}
use Rattle.c_rules.specs.Names.{Scope}
use Rattle.c_rules.specs.Expressions.{declared_name}
use Rattle.c_rules.specs.Programs.{is_completed_before, all_members, base_type, base_place, completed_by, completed_in, each_once, file_declarator, file_declarators, function_item, item, items}
use Rattle.c_typed.specs.Programs.{all_complete, all_listed}
use Rattle.c_rules.proofs.Nothing.{both_none, same_name, name_itself}
use Rattle.c_rules.proofs.Structures.{has_kept}
use Rattle.c_rules.proofs.Outside.{Good}
use Rattle.c_rules.proofs.Items.{base_fits, declarators_pass, function_passes, item_passes, items_pass, last}

-- ---- names in lists

or_assoc : (a b c : Bool) → ((a || b) || c) ≡ (a || (b || c))
or_assoc true b c = refl
or_assoc false b c = refl

or_false : (a : Bool) → a ≡ (a || false)
or_false true = refl
or_false false = refl

pub contains_both : (xs ys : List (List ℕ)) (name : List ℕ) → contains (xs ++ ys) name ≡ (contains xs name || contains ys name)
contains_both [] ys name = refl
contains_both (x ∷ xs) ys name = ap (λ b. bytes_eq x name || b) (contains_both xs ys name) ∙ sym (or_assoc (bytes_eq x name) (contains xs name) (contains ys name))

with_once : (names : List (List ℕ)) (one name : List ℕ) → contains (cond (contains names one) names (names ++ one ∷ [])) name ≡ (contains names name || bytes_eq one name)
with_once names one name = by (contains names one) refl (bytes_eq one name) refl
  where
    by : (b : Bool) → contains names one ≡ b → (c : Bool) → bytes_eq one name ≡ c → contains (cond b names (names ++ one ∷ [])) name ≡ (contains names name || bytes_eq one name)
    by true is true same = sym (ap (contains names) (same_name one name same)) ∙ is ∙ sym (or_right (contains names name) (bytes_eq one name) same)
    by true is false other = or_false (contains names name) ∙ sym (ap (λ c. contains names name || c) other)
    by false is c h = contains_both names (one ∷ []) name ∙ ap (λ c. contains names name || c) (sym (or_false (bytes_eq one name)))

pub each_contained : (names others : List (List ℕ)) (name : List ℕ) → contains (each_once names others) name ≡ (contains names name || contains others name)
each_contained names [] name = or_false (contains names name)
each_contained names (one ∷ others) name =
    each_contained (cond (contains names one) names (names ++ one ∷ [])) others name
    ∙ ap (λ b. b || contains others name) (with_once names one name) ∙ or_assoc (contains names name) (bytes_eq one name) (contains others name)

-- ---- what is completed, has members

completed_here : (scope : Scope) (base : BaseTree) (tag : List ℕ) → contains (completed_by base) tag ≡ true → has_members (members_by_tag (base_type scope base).scope.structs tag) ≡ true
completed_here scope (Trees.Plain words) tag e = absurd (false≢true e)
completed_here scope (Trees.StructBody place name members) tag e = by (members_by_tag scope.structs name.bytes) refl
  where
    same : bytes_eq name.bytes tag ≡ true
    same = or_false (bytes_eq name.bytes tag) ∙ e

    all : List MemberDef
    all = (all_members scope members []).members

    by : (before : Option (List MemberDef)) → members_by_tag scope.structs name.bytes ≡ before
        → has_members (members_by_tag (cond (is_completed_before before) scope (record scope { structs = record { tag = name.bytes; members = all } ∷ scope.structs })).structs tag) ≡ true
    by None is = ap (λ b. has_members (cond b (Some all) (members_by_tag scope.structs tag))) same
    by (Some old) is = ap has_members (sym (ap (members_by_tag scope.structs) (same_name name.bytes tag same)) ∙ is)

completed_in_one : (scope : Scope) → Good scope → (tree : ItemTree) → (item scope tree).found ≡ [] → (tag : List ℕ) → contains (completed_in (tree ∷ [])) tag ≡ true
    → has_members (members_by_tag (item scope tree).scope.structs tag) ≡ true
completed_in_one scope good (Trees.Declaration base declarators) e tag inside =
    let based = base_type scope base in
    let all = file_declarators based.scope (base_place base) based.type_of.known declarators in
    let parts = both_none based.type_of.found all.found e in
    let fit = base_fits scope good base parts.0 in
    let passed = declarators_pass based.scope fit.good (base_place base) based.type_of.known fit.proper declarators parts.1 in
    let here = or_false (contains (completed_by base) tag) ∙ sym (contains_both (completed_by base) [] tag) ∙ inside in
    has_kept (members_by_tag based.scope.structs tag) (members_by_tag all.scope.structs tag) (passed.1.structs tag) (completed_here scope base tag here)
completed_in_one scope good (Trees.Function base declarator place body) e tag inside =
    let based = base_type scope base in
    let one = function_item based.scope (base_place base) based.type_of.known declarator body (declared_name declarator) in
    let parts = both_none based.type_of.found one.found e in
    let fit = base_fits scope good base parts.0 in
    let passed = function_passes based.scope fit.good (base_place base) based.type_of.known fit.proper declarator body (declared_name declarator) parts.1 in
    let here = or_false (contains (completed_by base) tag) ∙ sym (contains_both (completed_by base) [] tag) ∙ inside in
    has_kept (members_by_tag based.scope.structs tag) (members_by_tag one.scope.structs tag) (passed.1.structs tag) (completed_here scope base tag here)

first_completed : (tree : ItemTree) (others : List ItemTree) → completed_in (tree ∷ others) ≡ completed_in (tree ∷ []) ++ completed_in others
first_completed (Trees.Declaration (Trees.Plain words) declarators) others = refl
first_completed (Trees.Declaration (Trees.StructBody place name members) declarators) others = refl
first_completed (Trees.Function (Trees.Plain words) declarator place body) others = refl
first_completed (Trees.Function (Trees.StructBody place' name members) declarator place body) others = refl

completed_all : (scope : Scope) → Good scope → (trees : List ItemTree) → items scope trees ≡ [] → (tag : List ℕ) → contains (completed_in trees) tag ≡ true
    → has_members (members_by_tag (last scope trees).structs tag) ≡ true
completed_all scope good [] e tag inside = absurd (false≢true inside)
completed_all scope good (first ∷ others) e tag inside =
    let one = item scope first in
    let parts = both_none one.found (items one.scope others) e in
    let passed = item_passes scope good first parts.0 in
    let rest = items_pass one.scope passed.0 others parts.1 in
    let split = sym (ap (λ names. contains names tag) (first_completed first others) ∙ contains_both (completed_in (first ∷ [])) (completed_in others) tag) ∙ inside in
    by one.scope (or_cases (contains (completed_in (first ∷ [])) tag) (contains (completed_in others) tag) split)
    (λ here. has_kept (members_by_tag one.scope.structs tag) (members_by_tag (last one.scope others).structs tag) (rest.1.structs tag) (completed_in_one scope good first parts.0 tag here))
    (completed_all one.scope passed.0 others parts.1 tag)
  where
    by : (behind : Scope) → (contains (completed_in (first ∷ [])) tag ≡ true) ⊎ (contains (completed_in others) tag ≡ true)
        → (contains (completed_in (first ∷ [])) tag ≡ true → has_members (members_by_tag (last behind others).structs tag) ≡ true)
        → (contains (completed_in others) tag ≡ true → has_members (members_by_tag (last behind others).structs tag) ≡ true)
        → has_members (members_by_tag (last behind others).structs tag) ≡ true
    by behind (inl here) now later = now here
    by behind (inr there) now later = later there

all_complete_from : (structs : List StructDef) (tags : List (List ℕ)) → ((tag : List ℕ) → contains tags tag ≡ true → has_members (members_by_tag structs tag) ≡ true) → all_complete structs tags ≡ true
all_complete_from structs [] each = refl
all_complete_from structs (tag ∷ others) each =
    and_from (has_members (members_by_tag structs tag)) (all_complete structs others) (each tag (or_left (bytes_eq tag tag) (contains others tag) (name_itself tag)))
    (all_complete_from structs others (λ other inside. each other (or_right (bytes_eq tag other) (contains others other) inside)))

pub all_are_complete : (scope : Scope) → Good scope → (trees : List ItemTree) → items scope trees ≡ [] → all_complete (last scope trees).structs (each_once [] (completed_in trees)) ≡ true
all_are_complete scope good trees e =
    all_complete_from (last scope trees).structs (each_once [] (completed_in trees)) (λ tag inside. completed_all scope good trees e tag (sym (each_contained [] (completed_in trees) tag) ∙ inside))

-- ---- what has members, is completed

declarator_structs : (scope : Scope) (place : Pos) (base : Option CType) (tree : InitDeclaratorTree) (name : Option NameTree) → (file_declarator scope place base tree name).scope.structs ≡ scope.structs
declarator_structs scope place base tree None = refl
declarator_structs scope place base tree (Some name) = refl

declarators_structs : (scope : Scope) (place : Pos) (base : Option CType) (trees : List InitDeclaratorTree) → (file_declarators scope place base trees).scope.structs ≡ scope.structs
declarators_structs scope place base [] = refl
declarators_structs scope place base (first ∷ others) =
    declarators_structs (file_declarator scope place base first (declared_name first.declarator)).scope place base others ∙ declarator_structs scope place base first (declared_name first.declarator)

function_structs : (scope : Scope) (place : Pos) (base : Option CType) (declarator : DeclaratorTree) (body : BlockTree) (name : Option NameTree) → (function_item scope place base declarator body name).scope.structs ≡ scope.structs
function_structs scope place base declarator body None = refl
function_structs scope place base declarator body (Some name) = refl

abbrev HasAll : List (List ℕ) → List (List ℕ) → Type 0
HasAll completed names = (name : List ℕ) → contains names name ≡ true → contains completed name ≡ true

listed_base : (completed : List (List ℕ)) (scope : Scope) (base : BaseTree) → HasAll completed (completed_by base) → all_listed completed scope.structs ≡ true → all_listed completed (base_type scope base).scope.structs ≡ true
listed_base completed scope (Trees.Plain words) has e = e
listed_base completed scope (Trees.StructBody place name members) has e = by (is_completed_before (members_by_tag scope.structs name.bytes))
  where
    all : List MemberDef
    all = (all_members scope members []).members

    by : (b : Bool) → all_listed completed (cond b scope (record scope { structs = record { tag = name.bytes; members = all } ∷ scope.structs })).structs ≡ true
    by true = e
    by false = and_from (contains completed name.bytes) (all_listed completed scope.structs) (has name.bytes (or_left (bytes_eq name.bytes name.bytes) false (name_itself name.bytes))) e

listed_item : (completed : List (List ℕ)) (scope : Scope) (tree : ItemTree) → HasAll completed (completed_in (tree ∷ [])) → all_listed completed scope.structs ≡ true → all_listed completed (item scope tree).scope.structs ≡ true
listed_item completed scope (Trees.Declaration base declarators) has e =
    let based = base_type scope base in
    let begun = listed_base completed scope base (λ name inside. has name (contains_both (completed_by base) [] name ∙ sym (or_false (contains (completed_by base) name)) ∙ inside)) e in
    ap (all_listed completed) (declarators_structs based.scope (base_place base) based.type_of.known declarators) ∙ begun
listed_item completed scope (Trees.Function base declarator place body) has e =
    let based = base_type scope base in
    let begun = listed_base completed scope base (λ name inside. has name (contains_both (completed_by base) [] name ∙ sym (or_false (contains (completed_by base) name)) ∙ inside)) e in
    ap (all_listed completed) (function_structs based.scope (base_place base) based.type_of.known declarator body (declared_name declarator)) ∙ begun

listed_items : (completed : List (List ℕ)) (scope : Scope) (trees : List ItemTree) → HasAll completed (completed_in trees) → all_listed completed scope.structs ≡ true → all_listed completed (last scope trees).structs ≡ true
listed_items completed scope [] has e = e
listed_items completed scope (first ∷ others) has e =
    listed_items completed (item scope first).scope others
    (λ name inside. has name (split name ∙ or_right (contains (completed_in (first ∷ [])) name) (contains (completed_in others) name) inside))
    (listed_item completed scope first (λ name inside. has name (split name ∙ or_left (contains (completed_in (first ∷ [])) name) (contains (completed_in others) name) inside)) e)
  where
    split : (name : List ℕ) → contains (completed_in (first ∷ others)) name ≡ (contains (completed_in (first ∷ [])) name || contains (completed_in others) name)
    split name = ap (λ names. contains names name) (first_completed first others) ∙ contains_both (completed_in (first ∷ [])) (completed_in others) name

pub all_are_listed : (scope : Scope) → scope.structs ≡ [] → (trees : List ItemTree) → all_listed (each_once [] (completed_in trees)) (last scope trees).structs ≡ true
all_are_listed scope none trees =
    listed_items (each_once [] (completed_in trees)) scope trees (λ name inside. each_contained [] (completed_in trees) name ∙ inside) (ap (all_listed (each_once [] (completed_in trees))) none)

-- what is never completed has no members
pub listed_tag : (completed : List (List ℕ)) (structs : List StructDef) → all_listed completed structs ≡ true → (tag : List ℕ) → contains completed tag ≡ false → members_by_tag structs tag ≡ None
listed_tag completed [] e tag never = refl
listed_tag completed (first ∷ others) e tag never =
    let parts = and_parts (contains completed first.tag) (all_listed completed others) e in
    by (bytes_eq first.tag tag) refl parts.0 (listed_tag completed others parts.1 tag never)
  where
    by : (b : Bool) → bytes_eq first.tag tag ≡ b → contains completed first.tag ≡ true → members_by_tag others tag ≡ None → cond b (Some first.members) (members_by_tag others tag) ≡ None
    by true same inside rest = absurd (false≢true (sym never ∙ sym (ap (contains completed) (same_name first.tag tag same)) ∙ inside))
    by false other inside rest = rest
