-- Structures and names outside functions have filled types.
use Rattle.std.proofs.Common.{◌≡◌, ℕ, Bool, true, false, List, [], ◌∷◌, Option, Some, None, bytes_eq, refl}
use Rattle.std.proofs.lemmas.Bool.{and_parts}
use Rattle.run_theory.specs.declared.place.Pos.{Pos}
use Rattle.c_syntax.specs.Trees
use Rattle.c_syntax.specs.Trees.{NameTree, DeclaratorTree, MemberTree, BaseTree, InitDeclaratorTree}
use Rattle.c_typed.specs.Types.{CType}
use Rattle.c_typed.specs.Layouts.{StructDef, MemberDef, members_by_tag}
use Rattle.c_typed.specs.Values.{Held}
use Rattle.c_typed.specs.Typed.{GlobalDef}
use Rattle.c_typed.specs.Sizes.{fills}
use Rattle.c_rules.specs.Names.{Scope, FileName, file_name, with_file_name, locals_in}
use Rattle.c_rules.specs.Expressions.{words_type, declared_type, declared_name, name_place, Required}
use Rattle.c_rules.specs.Statements.{object_type}
use Rattle.c_rules.specs.Programs.{with_member, declared_members, all_members, is_completed_before, with_struct, base_type, known_first, joined_name, declare_outside, role_of, outside_type, has_first, file_declarator, file_declarators}
use Rattle.c_rules.specs.Elaborated.{is_object_type, global_of, first_held, declared_global, declared_globals, latest_first, with_global, each_global}
use Rattle.accepted_programs.specs.Knows.{IfKnown, Every}
use Rattle.accepted_programs.specs.Whole.{IsWhole, LocalFilled, EntryFilled, MemberFilled, StructFilled, FilledNames}
use Rattle.accepted_programs.specs.Given.{first_given, firsts_given}
use Rattle.accepted_programs.proofs.CRulesFilled.Holding.{by_test, every_both}
use Rattle.accepted_programs.proofs.CRulesFilled.Types.{filled_itself}
use Rattle.accepted_programs.proofs.CRulesFilled.Operands.{entry_filled}
use Rattle.accepted_programs.proofs.Declared.{words_whole, object_whole, outside_whole, role_has}
use Rattle.c_rules.proofs.Structures.{Keeps}

module _ (structs : List StructDef) where
  -- ---- members

  with_member_filled : (name : Option NameTree) (known : Option CType) (members : List MemberDef) → IfKnown (IsWhole structs) known → Every (MemberFilled structs) members → Every (MemberFilled structs) (with_member name known members)
  with_member_filled None known members filled all = all
  with_member_filled (Some name) known members filled all = every_both (MemberFilled structs) members (record { name = name.bytes; c_type = known } ∷ []) all (filled, tt)

  members_filled : (scope : Scope) → Keeps scope.structs structs → (place : Pos) (base : Option CType) → IfKnown (IsWhole structs) base → (declarators : List DeclaratorTree) (members : List MemberDef) → Every (MemberFilled structs) members
      → Every (MemberFilled structs) (declared_members scope place base declarators members).members
  members_filled scope keeps place base whole [] members filled = filled
  members_filled scope keeps place base whole (declarator ∷ others) members filled =
      let name = declared_name declarator in
      let here = name_place name place in
      let own = (object_type scope here (declared_type scope here Required base declarator)).known in
      members_filled scope keeps place base whole others (with_member name own members) (with_member_filled name own members (object_whole structs scope keeps here base whole declarator) filled)

  pub all_members_filled : (scope : Scope) → Keeps scope.structs structs → (trees : List MemberTree) (members : List MemberDef) → Every (MemberFilled structs) members → Every (MemberFilled structs) (all_members scope trees members).members
  all_members_filled scope keeps [] members filled = filled
  all_members_filled scope keeps (first ∷ others) members filled =
      let base = (words_type scope first.words).known in
      all_members_filled scope keeps others (declared_members scope first.words.place base first.declarators members).members
      (members_filled scope keeps first.words.place base (words_whole structs scope keeps first.words).holds first.declarators members filled)

  struct_members : (scope : Scope) (tag : List ℕ) (members : List MemberDef) → Every (MemberFilled structs) members → Every (StructFilled structs) scope.structs → Every (StructFilled structs) (with_struct tag members scope).structs
  struct_members scope tag members filled all =
      by_test (λ (s : Scope). Every (StructFilled structs) s.structs) (is_completed_before (members_by_tag scope.structs tag)) scope (record scope { structs = record { tag = tag; members = members } ∷ scope.structs }) all (filled, all)

  struct_locals : (scope : Scope) (tag : List ℕ) (members : List MemberDef) → Every (LocalFilled structs) (locals_in scope) → Every (LocalFilled structs) (locals_in (with_struct tag members scope))
  struct_locals scope tag members all =
      by_test (λ (s : Scope). Every (LocalFilled structs) (locals_in s)) (is_completed_before (members_by_tag scope.structs tag)) scope (record scope { structs = record { tag = tag; members = members } ∷ scope.structs }) all all

  struct_file : (scope : Scope) (tag : List ℕ) (members : List MemberDef) → Every (EntryFilled structs) scope.file → Every (EntryFilled structs) (with_struct tag members scope).file
  struct_file scope tag members all =
      by_test (λ (s : Scope). Every (EntryFilled structs) s.file) (is_completed_before (members_by_tag scope.structs tag)) scope (record scope { structs = record { tag = tag; members = members } ∷ scope.structs }) all all

  pub base_filled : (scope : Scope) → FilledNames structs scope → (base : BaseTree) → Keeps (base_type scope base).scope.structs structs → FilledNames structs (base_type scope base).scope
  base_filled scope names (Trees.Plain words) keeps = names
  base_filled scope names (Trees.StructBody place name trees) keeps =
      let members = (all_members scope trees []).members in
      record {
        locals = struct_locals scope name.bytes members names.locals;
        file = struct_file scope name.bytes members names.file;
        members = struct_members scope name.bytes members (all_members_filled scope names.keeps trees [] tt) names.members;
        keeps = keeps;
      }

  pub base_whole : (scope : Scope) → FilledNames structs scope → (base : BaseTree) → IfKnown (IsWhole structs) (base_type scope base).type_of.known
  base_whole scope names (Trees.Plain words) = (words_whole structs scope names.keeps words).holds
  base_whole scope names (Trees.StructBody place name trees) = refl

  -- ---- names

  with_file_filled : (entry : FileName) (file : List FileName) → EntryFilled structs entry → Every (EntryFilled structs) file → Every (EntryFilled structs) (with_file_name entry file)
  with_file_filled entry [] filled all = (filled, tt)
  with_file_filled entry (first ∷ others) filled all =
      by_test (Every (EntryFilled structs)) (bytes_eq first.name entry.name) (entry ∷ others) (first ∷ with_file_name entry others) (filled, all.1) (all.0, with_file_filled entry others filled all.1)

  known_first_filled : (one other : Option CType) → IfKnown (IsWhole structs) one → IfKnown (IsWhole structs) other → IfKnown (IsWhole structs) (known_first one other)
  known_first_filled (Some t) other filled filled_other = filled
  known_first_filled None other filled filled_other = filled_other

  joined_filled : (old : Option FileName) (entry : FileName) → IfKnown (EntryFilled structs) old → EntryFilled structs entry → EntryFilled structs (joined_name old entry)
  joined_filled None entry filled_old filled = filled
  joined_filled (Some old) entry filled_old filled = known_first_filled old.c_type entry.c_type filled_old filled

  pub outside_filled : (scope : Scope) → FilledNames structs scope → (name : NameTree) (known : Option CType) (has_init has_body : Bool) → IfKnown (IsWhole structs) known → FilledNames structs (declare_outside name known has_init has_body scope).scope
  outside_filled scope names name known has_init has_body filled =
      let entry : FileName = record { name = name.bytes; c_type = known; has_init = has_init; has_body = has_body } in
      let old = file_name scope.file name.bytes in
      record {
        locals = names.locals;
        file = with_file_filled (joined_name old entry) scope.file (joined_filled old entry (entry_filled structs scope.file names.file name.bytes) filled) names.file;
        members = names.members;
        keeps = names.keeps;
      }

  -- ---- variables

  abbrev pub GlobalFilled : GlobalDef → Type 0
  GlobalFilled global = fills structs global.c_type ≡ true

  global_of_filled : (name : NameTree) (known : Option CType) (first : List Held) → IfKnown (IsWhole structs) known → Every GlobalFilled (global_of name known first)
  global_of_filled name None first filled = tt
  global_of_filled name (Some t) first filled = by_test (Every GlobalFilled) (is_object_type t) (record { name = name.bytes; c_type = t; first = first } ∷ []) [] (filled_itself structs t filled, tt) tt

  abbrev DeclaratorFilled : Scope → List GlobalDef → Type 0
  DeclaratorFilled behind globals = Every GlobalFilled globals × FilledNames structs behind

  file_declarator_filled : (scope : Scope) → FilledNames structs scope → (place : Pos) (base : Option CType) → IfKnown (IsWhole structs) base → (tree : InitDeclaratorTree) → first_given tree.init ≡ true → (name : Option NameTree)
      → DeclaratorFilled (file_declarator scope place base tree name).scope (declared_global scope base tree name)
  file_declarator_filled scope names place base whole tree given None = (tt, names)
  file_declarator_filled scope names place base whole tree given (Some name) =
      let own = (outside_type scope name.place (declared_type scope name.place (role_of tree.init) base tree.declarator)).known in
      let behind = (declare_outside name own (has_first tree.init) false scope).scope in
      let own_filled = outside_whole structs scope names.keeps name.place (role_of tree.init) (role_has tree.init given) base whole tree.declarator in
      (global_of_filled name own (first_held behind own tree.init) own_filled, outside_filled scope names name own (has_first tree.init) false own_filled)

  pub file_declarators_filled : (scope : Scope) → FilledNames structs scope → (place : Pos) (base : Option CType) → IfKnown (IsWhole structs) base → (trees : List InitDeclaratorTree) → firsts_given trees ≡ true
      → Every GlobalFilled (declared_globals scope place base trees) × FilledNames structs (file_declarators scope place base trees).scope
  file_declarators_filled scope names place base whole [] given = (tt, names)
  file_declarators_filled scope names place base whole (first ∷ others) given =
      let name = declared_name first.declarator in
      let behind = (file_declarator scope place base first name).scope in
      let parts = and_parts (first_given first.init) (firsts_given others) given in
      let first_filled = file_declarator_filled scope names place base whole first parts.0 name in
      let others_filled = file_declarators_filled behind first_filled.1 place base whole others parts.1 in
      (every_both GlobalFilled (declared_global scope base first name) (declared_globals behind place base others) first_filled.0 others_filled.0, others_filled.1)

  -- each variable once
  with_global_filled : (global : GlobalDef) (globals : List GlobalDef) → GlobalFilled global → Every GlobalFilled globals → Every GlobalFilled (with_global global globals)
  with_global_filled global [] filled all = (filled, tt)
  with_global_filled global (first ∷ others) filled all =
      by_test (Every GlobalFilled) (bytes_eq first.name global.name) (record first { first = latest_first first.first global.first } ∷ others) (first ∷ with_global global others) all (all.0, with_global_filled global others filled all.1)

  pub each_global_filled : (globals others : List GlobalDef) → Every GlobalFilled globals → Every GlobalFilled others → Every GlobalFilled (each_global globals others)
  each_global_filled globals [] all rest = all
  each_global_filled globals (first ∷ others) all rest = each_global_filled (with_global first globals) others (with_global_filled first globals rest.0 all) rest.1
