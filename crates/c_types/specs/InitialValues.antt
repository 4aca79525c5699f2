-- The expressions of the first values of variables outside functions, as typed trees, in the order of the text. They are constant, and a
-- typed program keeps only their values.
use Rattle.std.specs.Prelude.{◌≡◌, false, map, List, [], ◌∷◌, ◌++◌, Option, Some, None}
use Rattle.c_syntax.specs.Trees
use Rattle.c_syntax.specs.Trees.{NameTree, InitTree, InitsTree, InitDeclaratorTree, ItemTree, ProgramTree}
use Rattle.run_theory.specs.declared.place.Pos.{Pos}
use Rattle.c_typed.specs.Types.{CType}
use Rattle.c_typed.specs.declared.typed.Value as memory_value
use Rattle.c_typed.specs.Typed.{Value}
use Rattle.c_typed.specs.Table.{Interned}
use Rattle.c_typed.specs.Views.{value_in, ValuesStand}
use Rattle.c_rules.specs.Names.{Scope}
use Rattle.c_rules.specs.Expressions.{declared_type, declared_name}
use Rattle.c_rules.specs.Elaborated.{value_of}
use Rattle.c_rules.specs.Programs.{base_type, base_place, file_declarator, outside_type, role_of, outermost, declare_outside, has_first, item}

-- an initializer's, in braces or not
abbrev mutual
  pub init_values : Scope → InitTree → List Value
  init_values scope (Trees.InitValue value) = value_of scope value ∷ []
  init_values scope (Trees.InitList place inits) = inits_values scope inits

  pub inits_values : Scope → InitsTree → List Value
  inits_values scope Trees.NoInits = []
  inits_values scope (Trees.Inits init others) = init_values scope init ++ inits_values scope others

abbrev pub optional_values : Scope → Option InitTree → List Value
optional_values scope None = []
optional_values scope (Some init) = init_values scope init

-- a declarator's: the declared name is in scope
abbrev pub declarator_values : Scope → Option CType → InitDeclaratorTree → Option NameTree → List Value
declarator_values scope base tree None = []
declarator_values scope base tree (Some name) =
    let own = outside_type scope name.place (declared_type scope name.place (role_of tree.init) base tree.declarator) in
    optional_values (declare_outside name own.known (has_first tree.init) false scope).scope tree.init

abbrev pub declarators_values : Scope → Pos → Option CType → List InitDeclaratorTree → List Value
declarators_values scope place base [] = []
declarators_values scope place base (first ∷ others) =
    declarator_values scope base first (declared_name first.declarator) ++ declarators_values (file_declarator scope place base first (declared_name first.declarator)).scope place base others

abbrev pub item_values : Scope → ItemTree → List Value
item_values scope (Trees.Declaration base declarators) =
    let based = base_type scope base in
    declarators_values based.scope (base_place base) based.type_of.known declarators
item_values scope (Trees.Function base declarator place body) = []

abbrev pub items_values : Scope → List ItemTree → List Value
items_values scope [] = []
items_values scope (first ∷ others) = item_values scope first ++ items_values (item scope first).scope others

abbrev pub first_values : ProgramTree → List Value
first_values program = items_values (outermost program) program.items

-- these typed trees were put behind the others
pub record AddsValues (values : List Value) (table : Interned) (old new : List memory_value.Value) : Type 0 where
  pub added : List memory_value.Value
  pub is : new ≡ old ++ added
  pub stand : ValuesStand table added
  pub means : map (value_in table) added ≡ values
