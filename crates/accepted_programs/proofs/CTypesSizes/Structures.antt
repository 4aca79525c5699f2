-- Structures and names outside functions have small types.
use Rattle.std.proofs.Common.{◌≡◌, ℕ, Bool, true, false, List, [], ◌∷◌, ◌++◌, Option, Some, None, bytes_eq}
use Rattle.run_theory.specs.declared.place.Pos.{Pos}
use Rattle.c_syntax.specs.Trees
use Rattle.c_syntax.specs.Trees.{NameTree, DeclaratorTree, MemberTree, BaseTree, InitDeclaratorTree}
use Rattle.c_typed.specs.Types.{CType, Struct}
use Rattle.c_typed.specs.Layouts.{StructDef, MemberDef, members_by_tag}
use Rattle.c_typed.specs.Values.{Held}
use Rattle.c_typed.specs.Typed.{GlobalDef}
use Rattle.c_typed.specs.Sizes.{is_small}
use Rattle.c_rules.specs.Names.{Scope, FileName, file_name, with_file_name}
use Rattle.c_rules.specs.Expressions.{words_type, declared_type, declared_name, name_place, Required}
use Rattle.c_rules.specs.Statements.{object_type}
use Rattle.c_rules.specs.Programs.{with_member, declared_members, all_members, is_completed_before, with_struct, base_type, known_first, joined_name, declare_outside, role_of, outside_type, has_first, file_declarator, file_declarators}
use Rattle.c_rules.specs.Elaborated.{is_object_type, global_of, first_held, declared_global, declared_globals, latest_first, with_global, each_global}
use Rattle.c_rules.specs.Named.{named_at, named_in_declarator}
use Rattle.c_rules.specs.NamedItems.{named_in_first, named_in_members, named_in_all_members, named_in_base, named_in_file_declarator, named_in_file_declarators}
use Rattle.accepted_programs.specs.Small.{IfKnown, Every, IsSmall, EntrySmall, MemberSmall, SmallNames}
use Rattle.accepted_programs.proofs.CTypesSizes.Holding.{by_test, every_both}
use Rattle.accepted_programs.proofs.CTypesSizes.Types.{small_itself}
use Rattle.accepted_programs.proofs.CTypesSizes.Operands.{entry_small}
use Rattle.accepted_programs.proofs.CTypesSizes.Expressions.{Named, named_left, named_right, at_small}

module _ (structs : List StructDef) where
  -- ---- members

  with_member_small : (name : Option NameTree) (known : Option CType) (members : List MemberDef) → IfKnown (IsSmall structs) known → Every (MemberSmall structs) members → Every (MemberSmall structs) (with_member name known members)
  with_member_small None known members small all = all
  with_member_small (Some name) known members small all = every_both (MemberSmall structs) members (record { name = name.bytes; c_type = known } ∷ []) all (small, tt)

  members_small : (scope : Scope) (place : Pos) (base : Option CType) (declarators : List DeclaratorTree) (members : List MemberDef) → Every (MemberSmall structs) members → Named structs (named_in_members scope place base declarators)
      → Every (MemberSmall structs) (declared_members scope place base declarators members).members
  members_small scope place base [] members small all = small
  members_small scope place base (declarator ∷ others) members small all =
      let name = declared_name declarator in
      let here = name_place name place in
      let own = (object_type scope here (declared_type scope here Required base declarator)).known in
      let one = named_in_declarator scope declarator ++ named_at here own in
      let rest = named_in_members scope place base others in
      let own_small = at_small structs here own (named_right structs (named_in_declarator scope declarator) (named_at here own) (named_left structs one rest all)) in
      members_small scope place base others (with_member name own members) (with_member_small name own members own_small small) (named_right structs one rest all)

  all_members_small : (scope : Scope) (trees : List MemberTree) (members : List MemberDef) → Every (MemberSmall structs) members → Named structs (named_in_all_members scope trees) → Every (MemberSmall structs) (all_members scope trees members).members
  all_members_small scope [] members small all = small
  all_members_small scope (first ∷ others) members small all =
      let base = (words_type scope first.words).known in
      let one = named_in_members scope first.words.place base first.declarators in
      let rest = named_in_all_members scope others in
      all_members_small scope others (declared_members scope first.words.place base first.declarators members).members
      (members_small scope first.words.place base first.declarators members small (named_left structs one rest all)) (named_right structs one rest all)

  with_struct_small : (scope : Scope) → SmallNames structs scope → (tag : List ℕ) (members : List MemberDef) → Every (MemberSmall structs) members → SmallNames structs (with_struct tag members scope)
  with_struct_small scope names tag members small =
      by_test (SmallNames structs) (is_completed_before (members_by_tag scope.structs tag)) scope (record scope { structs = record { tag = tag; members = members } ∷ scope.structs }) names
      (record { locals = names.locals; file = names.file; members = (small, names.members) })

  pub base_small : (scope : Scope) → SmallNames structs scope → (base : BaseTree) → Named structs (named_in_base scope base) → SmallNames structs (base_type scope base).scope
  base_small scope names (Trees.Plain words) all = names
  base_small scope names (Trees.StructBody place name trees) all =
      with_struct_small scope names name.bytes (all_members scope trees []).members
      (all_members_small scope trees [] tt (named_left structs (named_in_all_members scope trees) (named_at name.place (Some (Struct name.bytes))) all))

  -- ---- names

  with_file_small : (entry : FileName) (file : List FileName) → EntrySmall structs entry → Every (EntrySmall structs) file → Every (EntrySmall structs) (with_file_name entry file)
  with_file_small entry [] small all = (small, tt)
  with_file_small entry (first ∷ others) small all =
      by_test (Every (EntrySmall structs)) (bytes_eq first.name entry.name) (entry ∷ others) (first ∷ with_file_name entry others) (small, all.1) (all.0, with_file_small entry others small all.1)

  known_first_small : (one other : Option CType) → IfKnown (IsSmall structs) one → IfKnown (IsSmall structs) other → IfKnown (IsSmall structs) (known_first one other)
  known_first_small (Some t) other small small_other = small
  known_first_small None other small small_other = small_other

  joined_small : (old : Option FileName) (entry : FileName) → IfKnown (EntrySmall structs) old → EntrySmall structs entry → EntrySmall structs (joined_name old entry)
  joined_small None entry small_old small = small
  joined_small (Some old) entry small_old small = known_first_small old.c_type entry.c_type small_old small

  pub outside_small : (scope : Scope) → SmallNames structs scope → (name : NameTree) (known : Option CType) (has_init has_body : Bool) → IfKnown (IsSmall structs) known → SmallNames structs (declare_outside name known has_init has_body scope).scope
  outside_small scope names name known has_init has_body small =
      let entry : FileName = record { name = name.bytes; c_type = known; has_init = has_init; has_body = has_body } in
      let old = file_name scope.file name.bytes in
      record {
        locals = names.locals;
        file = with_file_small (joined_name old entry) scope.file (joined_small old entry (entry_small structs scope.file names.file name.bytes) small) names.file;
        members = names.members;
      }

  -- ---- variables

  abbrev pub GlobalSmall : GlobalDef → Type 0
  GlobalSmall global = is_small structs global.c_type ≡ true

  global_of_small : (name : NameTree) (known : Option CType) (first : List Held) → IfKnown (IsSmall structs) known → Every GlobalSmall (global_of name known first)
  global_of_small name None first small = tt
  global_of_small name (Some t) first small = by_test (Every GlobalSmall) (is_object_type t) (record { name = name.bytes; c_type = t; first = first } ∷ []) [] (small_itself structs t small, tt) tt

  abbrev DeclaratorSmall : Scope → List GlobalDef → Type 0
  DeclaratorSmall behind globals = Every GlobalSmall globals × SmallNames structs behind

  file_declarator_small : (scope : Scope) → SmallNames structs scope → (place : Pos) (base : Option CType) (tree : InitDeclaratorTree) (name : Option NameTree) → Named structs (named_in_file_declarator scope base tree name)
      → DeclaratorSmall (file_declarator scope place base tree name).scope (declared_global scope base tree name)
  file_declarator_small scope names place base tree None all = (tt, names)
  file_declarator_small scope names place base tree (Some name) all =
      let own = (outside_type scope name.place (declared_type scope name.place (role_of tree.init) base tree.declarator)).known in
      let behind = (declare_outside name own (has_first tree.init) false scope).scope in
      let one = named_in_declarator scope tree.declarator ++ named_at name.place own in
      let own_small = at_small structs name.place own (named_right structs (named_in_declarator scope tree.declarator) (named_at name.place own) (named_left structs one (named_in_first behind tree.init) all)) in
      (global_of_small name own (first_held behind own tree.init) own_small, outside_small scope names name own (has_first tree.init) false own_small)

  pub file_declarators_small : (scope : Scope) → SmallNames structs scope → (place : Pos) (base : Option CType) (trees : List InitDeclaratorTree) → Named structs (named_in_file_declarators scope place base trees)
      → Every GlobalSmall (declared_globals scope place base trees) × SmallNames structs (file_declarators scope place base trees).scope
  file_declarators_small scope names place base [] all = (tt, names)
  file_declarators_small scope names place base (first ∷ others) all =
      let name = declared_name first.declarator in
      let behind = (file_declarator scope place base first name).scope in
      let one = named_in_file_declarator scope base first name in
      let rest = named_in_file_declarators behind place base others in
      let first_small = file_declarator_small scope names place base first name (named_left structs one rest all) in
      let others_small = file_declarators_small behind first_small.1 place base others (named_right structs one rest all) in
      (every_both GlobalSmall (declared_global scope base first name) (declared_globals behind place base others) first_small.0 others_small.0, others_small.1)

  -- each variable once
  with_global_small : (global : GlobalDef) (globals : List GlobalDef) → GlobalSmall global → Every GlobalSmall globals → Every GlobalSmall (with_global global globals)
  with_global_small global [] small all = (small, tt)
  with_global_small global (first ∷ others) small all =
      by_test (Every GlobalSmall) (bytes_eq first.name global.name) (record first { first = latest_first first.first global.first } ∷ others) (first ∷ with_global global others) all (all.0, with_global_small global others small all.1)

  pub each_global_small : (globals others : List GlobalDef) → Every GlobalSmall globals → Every GlobalSmall others → Every GlobalSmall (each_global globals others)
  each_global_small globals [] all rest = all
  each_global_small globals (first ∷ others) all rest = each_global_small (with_global first globals) others (with_global_small first globals rest.0 all) rest.1
