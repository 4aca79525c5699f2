-- Structures and names outside functions have narrow types.
use Rattle.std.proofs.Common.{ℕ, Bool, false, List, [], ◌∷◌, ◌++◌, Option, Some, None, bytes_eq}
use Rattle.run_theory.specs.declared.place.Pos.{Pos}
use Rattle.c_syntax.specs.Trees
use Rattle.c_syntax.specs.Trees.{NameTree, DeclaratorTree, MemberTree, BaseTree, InitDeclaratorTree}
use Rattle.c_typed.specs.Types.{CType, Struct}
use Rattle.c_typed.specs.Layouts.{MemberDef, members_by_tag}
use Rattle.c_rules.specs.Names.{Scope, FileName, file_name, with_file_name}
use Rattle.c_rules.specs.Expressions.{words_type, declared_type, declared_name, name_place, Required}
use Rattle.c_rules.specs.Statements.{object_type}
use Rattle.c_rules.specs.Programs.{with_member, declared_members, all_members, is_completed_before, with_struct, base_type, known_first, joined_name, declare_outside, role_of, outside_type, has_first, file_declarator, file_declarators}
use Rattle.c_rules.specs.Named.{named_at, named_in_declarator}
use Rattle.c_rules.specs.NamedItems.{named_in_first, named_in_members, named_in_all_members, named_in_base, named_in_file_declarator, named_in_file_declarators}
use Rattle.accepted_programs.specs.Small.{IfKnown, Every}
use Rattle.accepted_programs.specs.Narrow.{IsNarrow, EntryNarrow, MemberNarrow, NarrowNames}
use Rattle.accepted_programs.proofs.CTypesSizes.Holding.{by_test, every_both}
use Rattle.accepted_programs.proofs.CTypesArguments.Operands.{entry_narrow}
use Rattle.accepted_programs.proofs.CTypesArguments.Expressions.{Named, named_left, named_right, at_narrow}

-- ---- members

with_member_narrow : (name : Option NameTree) (known : Option CType) (members : List MemberDef) → IfKnown IsNarrow known → Every MemberNarrow members → Every MemberNarrow (with_member name known members)
with_member_narrow None known members narrow all = all
with_member_narrow (Some name) known members narrow all = every_both MemberNarrow members (record { name = name.bytes; c_type = known } ∷ []) all (narrow, tt)

members_narrow : (scope : Scope) (place : Pos) (base : Option CType) (declarators : List DeclaratorTree) (members : List MemberDef) → Every MemberNarrow members → Named (named_in_members scope place base declarators)
    → Every MemberNarrow (declared_members scope place base declarators members).members
members_narrow scope place base [] members narrow all = narrow
members_narrow scope place base (declarator ∷ others) members narrow all =
    let name = declared_name declarator in
    let here = name_place name place in
    let own = (object_type scope here (declared_type scope here Required base declarator)).known in
    let one = named_in_declarator scope declarator ++ named_at here own in
    let rest = named_in_members scope place base others in
    let own_narrow = at_narrow here own (named_right (named_in_declarator scope declarator) (named_at here own) (named_left one rest all)) in
    members_narrow scope place base others (with_member name own members) (with_member_narrow name own members own_narrow narrow) (named_right one rest all)

all_members_narrow : (scope : Scope) (trees : List MemberTree) (members : List MemberDef) → Every MemberNarrow members → Named (named_in_all_members scope trees) → Every MemberNarrow (all_members scope trees members).members
all_members_narrow scope [] members narrow all = narrow
all_members_narrow scope (first ∷ others) members narrow all =
    let base = (words_type scope first.words).known in
    let one = named_in_members scope first.words.place base first.declarators in
    let rest = named_in_all_members scope others in
    all_members_narrow scope others (declared_members scope first.words.place base first.declarators members).members
    (members_narrow scope first.words.place base first.declarators members narrow (named_left one rest all)) (named_right one rest all)

with_struct_narrow : (scope : Scope) → NarrowNames scope → (tag : List ℕ) (members : List MemberDef) → Every MemberNarrow members → NarrowNames (with_struct tag members scope)
with_struct_narrow scope names tag members narrow =
    by_test NarrowNames (is_completed_before (members_by_tag scope.structs tag)) scope (record scope { structs = record { tag = tag; members = members } ∷ scope.structs }) names
    (record { locals = names.locals; file = names.file; members = (narrow, names.members) })

pub base_narrow : (scope : Scope) → NarrowNames scope → (base : BaseTree) → Named (named_in_base scope base) → NarrowNames (base_type scope base).scope
base_narrow scope names (Trees.Plain words) all = names
base_narrow scope names (Trees.StructBody place name trees) all =
    with_struct_narrow scope names name.bytes (all_members scope trees []).members
    (all_members_narrow scope trees [] tt (named_left (named_in_all_members scope trees) (named_at name.place (Some (Struct name.bytes))) all))

-- ---- names

with_file_narrow : (entry : FileName) (file : List FileName) → EntryNarrow entry → Every EntryNarrow file → Every EntryNarrow (with_file_name entry file)
with_file_narrow entry [] narrow all = (narrow, tt)
with_file_narrow entry (first ∷ others) narrow all =
    by_test (Every EntryNarrow) (bytes_eq first.name entry.name) (entry ∷ others) (first ∷ with_file_name entry others) (narrow, all.1) (all.0, with_file_narrow entry others narrow all.1)

known_first_narrow : (one other : Option CType) → IfKnown IsNarrow one → IfKnown IsNarrow other → IfKnown IsNarrow (known_first one other)
known_first_narrow (Some t) other narrow narrow_other = narrow
known_first_narrow None other narrow narrow_other = narrow_other

joined_narrow : (old : Option FileName) (entry : FileName) → IfKnown EntryNarrow old → EntryNarrow entry → EntryNarrow (joined_name old entry)
joined_narrow None entry narrow_old narrow = narrow
joined_narrow (Some old) entry narrow_old narrow = known_first_narrow old.c_type entry.c_type narrow_old narrow

pub outside_narrow : (scope : Scope) → NarrowNames scope → (name : NameTree) (known : Option CType) (has_init has_body : Bool) → IfKnown IsNarrow known → NarrowNames (declare_outside name known has_init has_body scope).scope
outside_narrow scope names name known has_init has_body narrow =
    let entry : FileName = record { name = name.bytes; c_type = known; has_init = has_init; has_body = has_body } in
    let old = file_name scope.file name.bytes in
    record {
      locals = names.locals;
      file = with_file_narrow (joined_name old entry) scope.file (joined_narrow old entry (entry_narrow scope.file names.file name.bytes) narrow) names.file;
      members = names.members;
    }

-- ---- variables

file_declarator_narrow : (scope : Scope) → NarrowNames scope → (place : Pos) (base : Option CType) (tree : InitDeclaratorTree) (name : Option NameTree) → Named (named_in_file_declarator scope base tree name)
    → NarrowNames (file_declarator scope place base tree name).scope
file_declarator_narrow scope names place base tree None all = names
file_declarator_narrow scope names place base tree (Some name) all =
    let own = (outside_type scope name.place (declared_type scope name.place (role_of tree.init) base tree.declarator)).known in
    let behind = (declare_outside name own (has_first tree.init) false scope).scope in
    let one = named_in_declarator scope tree.declarator ++ named_at name.place own in
    let own_narrow = at_narrow name.place own (named_right (named_in_declarator scope tree.declarator) (named_at name.place own) (named_left one (named_in_first behind tree.init) all)) in
    outside_narrow scope names name own (has_first tree.init) false own_narrow

pub file_declarators_narrow : (scope : Scope) → NarrowNames scope → (place : Pos) (base : Option CType) (trees : List InitDeclaratorTree) → Named (named_in_file_declarators scope place base trees)
    → NarrowNames (file_declarators scope place base trees).scope
file_declarators_narrow scope names place base [] all = names
file_declarators_narrow scope names place base (first ∷ others) all =
    let name = declared_name first.declarator in
    let behind = (file_declarator scope place base first name).scope in
    let one = named_in_file_declarator scope base first name in
    let rest = named_in_file_declarators behind place base others in
    let first_narrow = file_declarator_narrow scope names place base first name (named_left one rest all) in
    file_declarators_narrow behind first_narrow place base others (named_right one rest all)
