-- The variables of a program are well typed.
use Rattle.std.proofs.Common.{◌≡◌, Bool, true, false, ◌||◌, cond, List, [], ◌∷◌, ◌++◌, Option, Some, None, bytes_eq, refl, sym, ap, subst, ◌∙◌}
use Rattle.std.proofs.lemmas.Bool.{false≢true, and_from}
use Rattle.std.proofs.lemmas.Option.{same_Some}
use Rattle.run_theory.specs.declared.place.Pos.{Pos}
use Rattle.c_syntax.specs.Trees
use Rattle.c_syntax.specs.Trees.{NameTree, InitTree, InitDeclaratorTree, ItemTree}
use Rattle.c_typed.specs.Types.{CType, Void, Integer, Pointer, Array, Struct, Function, is_function}
use Rattle.c_typed.specs.Layouts.{StructDef, is_complete}
use Rattle.c_typed.specs.Values.{Held}
use Rattle.c_typed.specs.Typed.{GlobalDef, Program}
use Rattle.c_rules.specs.Names.{Scope}
use Rattle.c_rules.specs.Known.{Checked}
use Rattle.c_rules.specs.Expressions.{declared_name}
use Rattle.c_rules.specs.Initializers.{first_of}
use Rattle.c_rules.specs.Programs.{Filed, base_type, base_place, first_rules, file_declarator, file_declarators, item, items}
use Rattle.c_rules.specs.Elaborated.{literals_in_first, literals_in_declarator, literals_in_declarators, literals_in_base, literals_in_block, literals_in_items, is_object_type, global_of, held_of, first_held, declared_global, declared_globals, in_items, latest_first, with_global, each_global}
use Rattle.c_typed.specs.Programs.{all_held, is_global, are_globals}
use Rattle.c_rules.specs.Fitting.{AreListed}
use Rattle.c_rules.proofs.Nothing.{both_none, three_none, same_name, listed_both}
use Rattle.c_rules.proofs.Structures.{complete_kept}
use Rattle.c_rules.proofs.Outside.{file_type, Later, later_both, Good, Declared}
use Rattle.c_rules.proofs.Items.{ProperKnown, base_fits, outside_own, outside_filed, outside_declared, declarator_passes, declarators_pass, item_passes, items_pass, last}
use Rattle.c_rules.proofs.Around.{Whole, keeps_structs, fits_outside}
use Rattle.c_rules.proofs.FirstRows.{at_start}
use Rattle.c_rules.proofs.FirstHolds.{init_holds}

object_complete : (structs : List StructDef) (c_type : CType) → is_object_type c_type ≡ true → (is_function c_type || is_complete structs c_type) ≡ true → is_complete structs c_type ≡ true
object_complete structs Void object e = e
object_complete structs (Integer int_type) object e = refl
object_complete structs (Pointer target) object e = refl
object_complete structs (Array element n) object e = refl
object_complete structs (Struct tag) object e = e
object_complete structs (Function result parameters) object e = absurd (false≢true object)

module _ (program : Program) (end : Scope) (whole : Whole program end) where
  -- a declaration of a variable, of the type that its name has
  abbrev DeclaredFit : GlobalDef → Type 0
  DeclaredFit global = (file_type end.file global.name ≡ Some global.c_type) × (is_complete program.structs global.c_type ≡ true) × (all_held program global.c_type global.first ≡ true)

  abbrev AllFit : List GlobalDef → Type 0
  AllFit [] = Unit {0}
  AllFit (first ∷ others) = DeclaredFit first × AllFit others

  both_fit : (some others : List GlobalDef) → AllFit some → AllFit others → AllFit (some ++ others)
  both_fit [] others first rest = rest
  both_fit (global ∷ some) others first rest = (first.0, both_fit some others first.1 rest)

  -- ---- one that is declared more than once

  latest_held : (c_type : CType) (old new : List Held) → all_held program c_type old ≡ true → all_held program c_type new ≡ true → all_held program c_type (latest_first old new) ≡ true
  latest_held c_type old [] first second = first
  latest_held c_type old (held ∷ new) first second = second

  with_fit : (global : GlobalDef) (globals : List GlobalDef) → DeclaredFit global → AllFit globals → AllFit (with_global global globals)
  with_fit global [] one all = (one, tt)
  with_fit global (first ∷ others) one all = by (bytes_eq first.name global.name) refl (with_fit global others one all.1)
    where
      by : (b : Bool) → bytes_eq first.name global.name ≡ b → AllFit (with_global global others)
          → AllFit (cond b (record first { first = latest_first first.first global.first } ∷ others) (first ∷ with_global global others))
      by false other rest = (all.0, rest)
      by true is rest =
          let same : first.c_type ≡ global.c_type = same_Some first.c_type global.c_type (sym all.0.0 ∙ ap (file_type end.file) (same_name first.name global.name is) ∙ one.0) in
          ((all.0.0, all.0.1, latest_held first.c_type first.first global.first all.0.2 (ap (λ t. all_held program t global.first) same ∙ one.2)), all.1)

  each_fit : (globals others : List GlobalDef) → AllFit globals → AllFit others → AllFit (each_global globals others)
  each_fit globals [] all rest = all
  each_fit globals (first ∷ others) all rest = each_fit (with_global first globals) others (with_fit first globals rest.0 all) rest.1

  all_global : (globals : List GlobalDef) → AllFit globals → are_globals program globals ≡ true
  all_global [] all = refl
  all_global (first ∷ others) all =
      and_from (is_global program first) (are_globals program others) (and_from (is_complete program.structs first.c_type) (all_held program first.c_type first.first) all.0.1 all.0.2) (all_global others all.1)

  -- ---- declarations

  first_holds : (scope : Scope) → Good scope → Later scope end → (known : Option CType) (c_type : CType) → known ≡ Some c_type → (init : Option InitTree) → AreListed program.literals (literals_in_first init)
      → first_rules scope known init ≡ [] → all_held program c_type (first_held scope known init) ≡ true
  first_holds scope good later known c_type is None listed e = refl
  first_holds scope good later known c_type is (Some init) listed e =
      ap (λ k. all_held program c_type (held_of scope [] 0 k init)) is
      ∙ init_holds program scope (fits_outside program end whole scope good later) c_type [] 0 c_type (at_start program c_type) init listed (sym (ap (λ k. first_of scope k init) is) ∙ e)

  one_fits : (scope : Scope) → Good scope → (place : Pos) (base : Option CType) → ProperKnown base → (tree : InitDeclaratorTree) (name : Option NameTree)
      → (file_declarator scope place base tree name).found ≡ [] → Later (file_declarator scope place base tree name).scope end → AreListed program.literals (literals_in_first tree.init)
      → AllFit (declared_global scope base tree name)
  one_fits scope good place base proper tree None e later listed = tt
  one_fits scope good place base proper tree (Some name) e later listed = subst (λ (k : Option CType). AllFit (global_of name k first)) (sym done.1.is) (by (is_object_type c_type) refl)
    where
      own : Checked CType
      own = outside_own scope base tree name

      filed : Filed
      filed = outside_filed scope base tree name

      done : (c_type : CType) × Declared scope filed name own.known c_type
      done = outside_declared scope good place base proper tree name e

      c_type : CType
      c_type = done.0

      first : List Held
      first = first_held filed.scope own.known tree.init

      rules : first_rules filed.scope own.known tree.init ≡ []
      rules = (three_none own.found filed.found (first_rules filed.scope own.known tree.init) e).2

      by : (b : Bool) → is_object_type c_type ≡ b → AllFit (cond b (record { name = name.bytes; c_type = c_type; first = first } ∷ []) [])
      by false object = tt
      by true object = (
        (
          later.file name.bytes c_type done.1.declares,
          complete_kept filed.scope.structs program.structs (keeps_structs program end whole filed.scope later) c_type (object_complete filed.scope.structs c_type object done.1.complete),
          first_holds filed.scope done.1.good later own.known c_type done.1.is tree.init listed rules,
        ),
        tt,
      )

  declared_fit : (scope : Scope) → Good scope → (place : Pos) (base : Option CType) → ProperKnown base → (trees : List InitDeclaratorTree)
      → (file_declarators scope place base trees).found ≡ [] → Later (file_declarators scope place base trees).scope end → AreListed program.literals (literals_in_declarators trees)
      → AllFit (declared_globals scope place base trees)
  declared_fit scope good place base proper [] e later listed = tt
  declared_fit scope good place base proper (first ∷ others) e later listed =
      let one = file_declarator scope place base first (declared_name first.declarator) in
      let parts = both_none one.found (file_declarators one.scope place base others).found e in
      let passed = declarator_passes scope good place base proper first (declared_name first.declarator) parts.0 in
      let rest = declarators_pass one.scope passed.0 place base proper others parts.1 in
      let literals = listed_both program.literals (literals_in_declarator first.declarator ++ literals_in_first first.init) (literals_in_declarators others) listed in
      let own_literals = listed_both program.literals (literals_in_declarator first.declarator) (literals_in_first first.init) literals.0 in
      both_fit (declared_global scope base first (declared_name first.declarator)) (declared_globals one.scope place base others)
      (one_fits scope good place base proper first (declared_name first.declarator) parts.0 (later_both one.scope (file_declarators one.scope place base others).scope end rest.1 later) own_literals.1)
      (declared_fit one.scope passed.0 place base proper others parts.1 later literals.1)

  items_fit : (scope : Scope) → Good scope → (trees : List ItemTree) → items scope trees ≡ [] → last scope trees ≡ end → AreListed program.literals (literals_in_items trees) → AllFit (in_items scope trees).globals
  items_fit scope good [] e ends listed = tt
  items_fit scope good (Trees.Declaration base declarators ∷ others) e ends listed =
      let first = Trees.Declaration base declarators in
      let behind = (item scope first).scope in
      let parts = both_none (item scope first).found (items behind others) e in
      let passed = item_passes scope good first parts.0 in
      let based = base_type scope base in
      let inner = both_none based.type_of.found (file_declarators based.scope (base_place base) based.type_of.known declarators).found parts.0 in
      let fit = base_fits scope good base inner.0 in
      let literals = listed_both program.literals (literals_in_base base ++ literals_in_declarators declarators) (literals_in_items others) listed in
      let own_literals = listed_both program.literals (literals_in_base base) (literals_in_declarators declarators) literals.0 in
      let rest = items_pass behind passed.0 others parts.1 in
      both_fit (declared_globals based.scope (base_place base) based.type_of.known declarators) (in_items behind others).globals
      (declared_fit based.scope fit.good (base_place base) based.type_of.known fit.proper declarators inner.1 (subst (Later behind) ends rest.1) own_literals.1)
      (items_fit behind passed.0 others parts.1 ends literals.1)
  items_fit scope good (Trees.Function base declarator place body ∷ others) e ends listed =
      let first = Trees.Function base declarator place body in
      let behind = (item scope first).scope in
      let parts = both_none (item scope first).found (items behind others) e in
      let passed = item_passes scope good first parts.0 in
      items_fit behind passed.0 others parts.1 ends (listed_both program.literals (literals_in_base base ++ literals_in_declarator declarator ++ literals_in_block body) (literals_in_items others) listed).1

  pub globals_typed : (scope : Scope) → Good scope → (trees : List ItemTree) → items scope trees ≡ [] → last scope trees ≡ end → AreListed program.literals (literals_in_items trees)
      → are_globals program (each_global [] (in_items scope trees).globals) ≡ true
  globals_typed scope good trees e ends listed = all_global (each_global [] (in_items scope trees).globals) (each_fit [] (in_items scope trees).globals tt (items_fit scope good trees e ends listed))
