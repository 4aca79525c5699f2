-- The variables and functions of a program have the types of their names.
use Rattle.std.proofs.Common.{◌≡◌, ℕ, Bool, true, false, ◌||◌, cond, List, [], ◌∷◌, ◌++◌, Option, Some, None, bytes_eq, refl, sym, ap, subst, ◌∙◌, ◌⊎◌, inl, inr}
use Rattle.std.proofs.lemmas.Bool.{false≢true}
use Rattle.std.proofs.lemmas.Option.{none-some, same_Some}
use Rattle.run_theory.specs.declared.place.Pos.{Pos}
use Rattle.c_syntax.specs.Trees
use Rattle.c_syntax.specs.Trees.{NameTree, DeclaratorTree, InitDeclaratorTree, BlockTree, BaseTree, ItemTree}
use Rattle.c_typed.specs.Types.{CType, Void, Integer, Pointer, Array, Struct, Function, is_function}
use Rattle.c_typed.specs.Names.{contains}
use Rattle.c_typed.specs.Layouts.{members_by_tag}
use Rattle.c_typed.specs.Values.{Held}
use Rattle.c_typed.specs.Typed.{GlobalDef, FunctionDef}
use Rattle.c_rules.specs.Names.{Scope, FileName, file_name}
use Rattle.c_rules.specs.Expressions.{declared_name}
use Rattle.c_rules.specs.Programs.{is_completed_before, all_members, base_type, base_place, joined_name, declare_outside, has_first, defined_in, bytes_of_name, file_declarator, file_declarators, function_item, item, items}
use Rattle.c_rules.specs.Elaborated.{is_object_type, global_of, first_held, declared_global, declared_globals, defined_function, type_or_void, in_items, latest_first, with_global, each_global}
use Rattle.c_typed.specs.Context.{global_type, function_type}
use Rattle.c_rules.proofs.Nothing.{both_none, same_name}
use Rattle.c_rules.proofs.Outside.{file_type, type_in, entered_other, joined_bytes, Later, Good, Declared}
use Rattle.c_rules.proofs.Items.{ProperKnown, base_fits, outside_own, outside_filed, outside_declared, declarator_passes, FunctionFits, function_fits, body_own, body_filed, item_passes, items_pass, last}

-- ---- one variable

abbrev pub object_only : Option CType → Option CType
object_only None = None
object_only (Some c_type) = cond (is_object_type c_type) (Some c_type) None

-- each variable has its name's type
abbrev pub Matches : List FileName → List GlobalDef → Type 0
Matches file globals = (name : List ℕ) → global_type globals name ≡ object_only (file_type file name)

with_global-itself : (global : GlobalDef) (globals : List GlobalDef) (name : List ℕ) → bytes_eq global.name name ≡ true
    → (global_type globals name ≡ None) ⊎ (global_type globals name ≡ Some global.c_type) → global_type (with_global global globals) name ≡ Some global.c_type
with_global-itself global [] name same before = ap (λ b. cond b (Some global.c_type) None) same
with_global-itself global (first ∷ others) name same before = by (bytes_eq first.name global.name) refl (with_global-itself global others name same)
  where
    named : global.name ≡ name
    named = same_name global.name name same

    changed : GlobalDef
    changed = record first { first = latest_first first.first global.first }

    old : (global_type (first ∷ others) name ≡ None) ⊎ (global_type (first ∷ others) name ≡ Some global.c_type) → bytes_eq first.name name ≡ true → first.c_type ≡ global.c_type
    old (inl none) is = absurd (none-some first.c_type (sym none ∙ ap (λ b. cond b (Some first.c_type) (global_type others name)) is))
    old (inr some) is = same_Some first.c_type global.c_type (sym (ap (λ b. cond b (Some first.c_type) (global_type others name)) is) ∙ some)

    by : (b : Bool) → bytes_eq first.name global.name ≡ b
        → ((global_type others name ≡ None) ⊎ (global_type others name ≡ Some global.c_type) → global_type (with_global global others) name ≡ Some global.c_type)
        → global_type (cond b (changed ∷ others) (first ∷ with_global global others)) name ≡ Some global.c_type
    by true is rest =
        let here : bytes_eq first.name name ≡ true = sym (ap (bytes_eq first.name) named) ∙ is in
        ap (λ b. cond b (Some first.c_type) (global_type others name)) here ∙ ap Some (old before here)
    by false is rest =
        let other : bytes_eq first.name name ≡ false = sym (ap (bytes_eq first.name) named) ∙ is in
        let skip : global_type (first ∷ others) name ≡ global_type others name = ap (λ b. cond b (Some first.c_type) (global_type others name)) other in
        ap (λ b. cond b (Some first.c_type) (global_type (with_global global others) name)) other ∙ rest (subst (λ (o : Option CType). (o ≡ None) ⊎ (o ≡ Some global.c_type)) skip before)

with_global-other : (global : GlobalDef) (globals : List GlobalDef) (name : List ℕ) → bytes_eq global.name name ≡ false → global_type (with_global global globals) name ≡ global_type globals name
with_global-other global [] name other = ap (λ b. cond b (Some global.c_type) None) other
with_global-other global (first ∷ others) name other = by (bytes_eq first.name global.name) (with_global-other global others name other)
  where
    by : (b : Bool) → global_type (with_global global others) name ≡ global_type others name
        → global_type (cond b (record first { first = latest_first first.first global.first } ∷ others) (first ∷ with_global global others)) name ≡ global_type (first ∷ others) name
    by true rest = refl
    by false rest = ap (cond (bytes_eq first.name name) (Some first.c_type)) rest

pub each_both : (globals some others : List GlobalDef) → each_global globals (some ++ others) ≡ each_global (each_global globals some) others
each_both globals [] others = refl
each_both globals (first ∷ rest) others = each_both (with_global first globals) rest others

-- ---- a name that is declared

declares_other : (scope : Scope) (name : NameTree) (known : Option CType) (has_init has_body : Bool) (other : List ℕ) → bytes_eq name.bytes other ≡ false
    → file_type (declare_outside name known has_init has_body scope).scope.file other ≡ file_type scope.file other
declares_other scope name known has_init has_body other apart =
    let entry : FileName = record { name = name.bytes; c_type = known; has_init = has_init; has_body = has_body } in
    let old = file_name scope.file name.bytes in
    ap type_in (entered_other (joined_name old entry) scope.file other (ap (λ n. bytes_eq n other) (joined_bytes old entry) ∙ apart))

old_type : (before after : Option CType) (c_type : CType) → ((t : CType) → before ≡ Some t → after ≡ Some t) → after ≡ Some c_type → (before ≡ None) ⊎ (before ≡ Some c_type)
old_type None after c_type keeps is = inl refl
old_type (Some t) after c_type keeps is = inr (sym (keeps t refl) ∙ is)

abbrev SameType : List FileName → List ℕ → List GlobalDef → Type 0
SameType file name globals = global_type globals name ≡ object_only (file_type file name)

matched : (scope : Scope) (name : NameTree) (known : Option CType) (has_init has_body : Bool) (c_type : CType)
    → Declared scope (declare_outside name known has_init has_body scope) name known c_type → (first : List Held) (globals : List GlobalDef) → Matches scope.file globals
    → Matches (declare_outside name known has_init has_body scope).scope.file (each_global globals (global_of name known first))
matched scope name known has_init has_body c_type done first globals match other = subst (λ (k : Option CType). SameType newer other (each_global globals (global_of name k first))) (sym done.is) (by (is_object_type c_type) refl (bytes_eq name.bytes other) refl)
  where
    newer : List FileName
    newer = (declare_outside name known has_init has_body scope).scope.file

    global : GlobalDef
    global = record { name = name.bytes; c_type = c_type; first = first }

    now : bytes_eq name.bytes other ≡ true → file_type newer other ≡ Some c_type
    now same = sym (ap (file_type newer) (same_name name.bytes other same)) ∙ done.declares

    old : bytes_eq name.bytes other ≡ true → (file_type scope.file other ≡ None) ⊎ (file_type scope.file other ≡ Some c_type)
    old same = old_type (file_type scope.file other) (file_type newer other) c_type (done.later.file other) (now same)

    by_old : (b : Bool) → is_object_type c_type ≡ b → (file_type scope.file other ≡ None) ⊎ (file_type scope.file other ≡ Some c_type)
        → (global_type globals other ≡ None) ⊎ (global_type globals other ≡ cond b (Some c_type) None)
    by_old b is (inl none) = inl (match other ∙ ap object_only none)
    by_old b is (inr some) = inr (match other ∙ ap object_only some ∙ ap (λ o. cond o (Some c_type) None) is)

    none_either : (global_type globals other ≡ None) ⊎ (global_type globals other ≡ None) → global_type globals other ≡ None
    none_either (inl e) = e
    none_either (inr e) = e

    by : (o : Bool) → is_object_type c_type ≡ o → (b : Bool) → bytes_eq name.bytes other ≡ b → SameType newer other (each_global globals (cond o (global ∷ []) []))
    by true object true same =
        with_global-itself global globals other same (by_old true object (old same))
        ∙ sym (ap object_only (now same) ∙ ap (λ o. cond o (Some c_type) None) object)
    by true object false apart = with_global-other global globals other apart ∙ match other ∙ sym (ap object_only (declares_other scope name known has_init has_body other apart))
    by false function true same = none_either (by_old false function (old same)) ∙ sym (ap object_only (now same) ∙ ap (λ o. cond o (Some c_type) None) function)
    by false function false apart = match other ∙ sym (ap object_only (declares_other scope name known has_init has_body other apart))

-- ---- variables

matched_one : (scope : Scope) → Good scope → (place : Pos) (base : Option CType) → ProperKnown base → (tree : InitDeclaratorTree) (name : Option NameTree)
    → (file_declarator scope place base tree name).found ≡ [] → (globals : List GlobalDef) → Matches scope.file globals
    → Matches (file_declarator scope place base tree name).scope.file (each_global globals (declared_global scope base tree name))
matched_one scope good place base proper tree None e globals match = match
matched_one scope good place base proper tree (Some name) e globals match =
    let done = outside_declared scope good place base proper tree name e in
    let own = outside_own scope base tree name in
    let filed = outside_filed scope base tree name in
    matched scope name own.known (has_first tree.init) false done.0 done.1 (first_held filed.scope own.known tree.init) globals match

matched_each : (scope : Scope) → Good scope → (place : Pos) (base : Option CType) → ProperKnown base → (trees : List InitDeclaratorTree)
    → (file_declarators scope place base trees).found ≡ [] → (globals : List GlobalDef) → Matches scope.file globals
    → Matches (file_declarators scope place base trees).scope.file (each_global globals (declared_globals scope place base trees))
matched_each scope good place base proper [] e globals match = match
matched_each scope good place base proper (first ∷ others) e globals match =
    let one = file_declarator scope place base first (declared_name first.declarator) in
    let parts = both_none one.found (file_declarators one.scope place base others).found e in
    let passed = declarator_passes scope good place base proper first (declared_name first.declarator) parts.0 in
    let here = declared_global scope base first (declared_name first.declarator) in
    let behind = declared_globals one.scope place base others in
    let begun = matched_one scope good place base proper first (declared_name first.declarator) parts.0 globals match in
    subst (λ (all : List GlobalDef). Matches (file_declarators one.scope place base others).scope.file all) (sym (each_both globals here behind))
    (matched_each one.scope passed.0 place base proper others parts.1 (each_global globals here) begun)

function_only : (c_type : CType) → is_function c_type ≡ true → is_object_type c_type ≡ false
function_only (Function result parameters) e = refl
function_only Void e = absurd (false≢true e)
function_only (Integer int_type) e = absurd (false≢true e)
function_only (Pointer target) e = absurd (false≢true e)
function_only (Array element n) e = absurd (false≢true e)
function_only (Struct tag) e = absurd (false≢true e)

matched_function : (scope : Scope) → Good scope → (place : Pos) (base : Option CType) → ProperKnown base → (declarator : DeclaratorTree) (body : BlockTree) (name : Option NameTree)
    → (function_item scope place base declarator body name).found ≡ [] → (globals : List GlobalDef) → Matches scope.file globals
    → Matches (function_item scope place base declarator body name).scope.file globals
matched_function scope good place base proper declarator body None e globals match = match
matched_function scope good place base proper declarator body (Some name) e globals match =
    let fit = function_fits scope good place base proper declarator body name e in
    let own = body_own scope base declarator name in
    let filed = body_filed scope base declarator name in
    let nothing : global_of name own.known [] ≡ [] =
    ap (λ k. global_of name k []) fit.done.is ∙ ap (λ o. cond o (record { name = name.bytes; c_type = fit.c_type; first = [] } ∷ []) []) (function_only fit.c_type fit.function) in
    subst (λ (some : List GlobalDef). Matches filed.scope.file (each_global globals some)) nothing
    (matched scope name own.known false true fit.c_type fit.done [] globals match)

base_file : (scope : Scope) (base : BaseTree) → (base_type scope base).scope.file ≡ scope.file
base_file scope (Trees.Plain words) = refl
base_file scope (Trees.StructBody place name members) = by (is_completed_before (members_by_tag scope.structs name.bytes))
  where
    by : (b : Bool) → (cond b scope (record scope { structs = record { tag = name.bytes; members = (all_members scope members []).members } ∷ scope.structs })).file ≡ scope.file
    by true = refl
    by false = refl

pub matched_items : (scope : Scope) → Good scope → (trees : List ItemTree) → items scope trees ≡ [] → (globals : List GlobalDef) → Matches scope.file globals
    → Matches (last scope trees).file (each_global globals (in_items scope trees).globals)
matched_items scope good [] e globals match = match
matched_items scope good (Trees.Declaration base declarators ∷ others) e globals match =
    let first = Trees.Declaration base declarators in
    let behind = (item scope first).scope in
    let parts = both_none (item scope first).found (items behind others) e in
    let passed = item_passes scope good first parts.0 in
    let based = base_type scope base in
    let inner = both_none based.type_of.found (file_declarators based.scope (base_place base) based.type_of.known declarators).found parts.0 in
    let fit = base_fits scope good base inner.0 in
    let here = declared_globals based.scope (base_place base) based.type_of.known declarators in
    let begun : Matches based.scope.file globals = subst (λ (f : List FileName). Matches f globals) (sym (base_file scope base)) match in
    let done = matched_each based.scope fit.good (base_place base) based.type_of.known fit.proper declarators inner.1 globals begun in
    subst (λ (all : List GlobalDef). Matches (last behind others).file all) (sym (each_both globals here (in_items behind others).globals))
    (matched_items behind passed.0 others parts.1 (each_global globals here) done)
matched_items scope good (Trees.Function base declarator place body ∷ others) e globals match =
    let first = Trees.Function base declarator place body in
    let behind = (item scope first).scope in
    let parts = both_none (item scope first).found (items behind others) e in
    let passed = item_passes scope good first parts.0 in
    let based = base_type scope base in
    let inner = both_none based.type_of.found (function_item based.scope (base_place base) based.type_of.known declarator body (declared_name declarator)).found parts.0 in
    let fit = base_fits scope good base inner.0 in
    let begun : Matches based.scope.file globals = subst (λ (f : List FileName). Matches f globals) (sym (base_file scope base)) match in
    matched_items behind passed.0 others parts.1 globals
    (matched_function based.scope fit.good (base_place base) based.type_of.known fit.proper declarator body (declared_name declarator) inner.1 globals begun)

-- ---- functions

abbrev pub IsDefined : List FunctionDef → List FileName → List ℕ → Type 0
IsDefined functions file name = (c_type : CType) × (function_type functions name ≡ Some c_type) × (file_type file name ≡ Some c_type)

defined_one : (scope : Scope) → Good scope → (place : Pos) (base : Option CType) → ProperKnown base → (declarator : DeclaratorTree) (body : BlockTree) (named : Option NameTree)
    → (function_item scope place base declarator body named).found ≡ [] → (functions : List FunctionDef) (end : Scope) (defined : List (List ℕ)) (name : List ℕ)
    → Later (function_item scope place base declarator body named).scope end
    → (contains defined name ≡ true → IsDefined functions end.file name)
    → contains (bytes_of_name named ++ defined) name ≡ true → IsDefined (defined_function scope base declarator body named ++ functions) end.file name
defined_one scope good place base proper declarator body None e functions end defined name later rest inside = rest inside
defined_one scope good place base proper declarator body (Some named) e functions end defined name later rest inside = by (bytes_eq named.bytes name) refl
  where
    fit : FunctionFits scope base declarator body named
    fit = function_fits scope good place base proper declarator body named e

    own : Option CType
    own = (body_own scope base declarator named).known

    by : (b : Bool) → bytes_eq named.bytes name ≡ b → (c_type : CType) × (cond (bytes_eq named.bytes name) (Some (type_or_void own)) (function_type functions name) ≡ Some c_type) × (file_type end.file name ≡ Some c_type)
    by true same = (
      fit.c_type,
      ap (λ b. cond b (Some (type_or_void own)) (function_type functions name)) same ∙ ap (λ k. Some (type_or_void k)) fit.done.is,
      later.file name fit.c_type (sym (ap (file_type (body_filed scope base declarator named).scope.file) (same_name named.bytes name same)) ∙ fit.done.declares),
    )
    by false other =
        let there : contains defined name ≡ true = sym (ap (λ b. b || contains defined name) other) ∙ inside in
        let found = rest there in
        (found.0, ap (λ b. cond b (Some (type_or_void own)) (function_type functions name)) other ∙ found.1, found.2)

pub defined_items : (scope : Scope) → Good scope → (trees : List ItemTree) → items scope trees ≡ [] → (name : List ℕ) → contains (defined_in trees) name ≡ true
    → IsDefined (in_items scope trees).functions (last scope trees).file name
defined_items scope good [] e name inside = absurd (false≢true inside)
defined_items scope good (Trees.Declaration base declarators ∷ others) e name inside =
    let first = Trees.Declaration base declarators in
    let behind = (item scope first).scope in
    let parts = both_none (item scope first).found (items behind others) e in
    defined_items behind (item_passes scope good first parts.0).0 others parts.1 name inside
defined_items scope good (Trees.Function base declarator place body ∷ others) e name inside =
    let first = Trees.Function base declarator place body in
    let behind = (item scope first).scope in
    let parts = both_none (item scope first).found (items behind others) e in
    let passed = item_passes scope good first parts.0 in
    let based = base_type scope base in
    let inner = both_none based.type_of.found (function_item based.scope (base_place base) based.type_of.known declarator body (declared_name declarator)).found parts.0 in
    let fit = base_fits scope good base inner.0 in
    defined_one based.scope fit.good (base_place base) based.type_of.known fit.proper declarator body (declared_name declarator) inner.1
    (in_items behind others).functions (last behind others) (defined_in others) name (items_pass behind passed.0 others parts.1).1
    (defined_items behind passed.0 others parts.1 name) inside
