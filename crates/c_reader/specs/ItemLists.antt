-- The syntax trees of items and members, from the trees in memory and from parts that were read before.
use Rattle.std.specs.Prelude.{List, [], ◌∷◌, map, Box, Vec}
use Rattle.std.specs.declared.alloc.Global.{Global}
use Rattle.run_theory.specs.declared.place.Pos.{Pos}
use Rattle.c_grammar.specs.Table.{Then, Node, Nothing}
use Rattle.c_grammar.specs.Forms
use Rattle.c_syntax.specs.declared.name.Name as memory_name
use Rattle.c_syntax.specs.declared.expr.Declarator.{Declarator}
use Rattle.c_syntax.specs.declared.declaration.Base.{Base}
use Rattle.c_syntax.specs.declared.declaration.Item.{Item}
use Rattle.c_syntax.specs.declared.declaration.Member.{Member}
use Rattle.c_syntax.specs.Trees
use Rattle.c_syntax.specs.Views.{name_tree, base_tree, declarator_tree, member_tree, item_tree}
use Rattle.c_reader.specs.Grammar.{Parse}
use Rattle.c_reader.specs.Shapes.{first_value_of, declarators_of, member_declarators_of, member_of, more_members_of, body_of}

abbrev pub item_before : Item → List Trees.ItemTree → List Trees.ItemTree
item_before item items = item_tree item ∷ items

abbrev pub member_before : Member → List Trees.MemberTree → List Trees.MemberTree
member_before member members = member_tree member ∷ members

abbrev pub member_declarator_before : Declarator → List Trees.DeclaratorTree → List Trees.DeclaratorTree
member_declarator_before declarator declarators = declarator_tree declarator ∷ declarators

-- a struct of a name at a place, with the members where they stand
abbrev pub struct_from : Pos → memory_name.Name → Parse → Trees.BaseTree
struct_from place name (Node Forms.Members (Then opening (Then member (Then others Nothing)))) = Trees.StructBody place (name_tree name) (member_of member ∷ more_members_of others)
struct_from place name members = Trees.Plain (record { place = place; words = Trees.StructTag (name_tree name) })

-- what follows the first declarator of an item
abbrev pub after_of : Trees.BaseTree → Trees.DeclaratorTree → Parse → Trees.ItemTree
after_of base declarator (Node Forms.FunctionBody (Then body Nothing)) = body_of base declarator body
after_of base declarator (Node Forms.DeclaredValues (Then value (Then others Nothing))) = Trees.Declaration base (record { declarator = declarator; init = first_value_of value } ∷ declarators_of others)
after_of base declarator after = Trees.Declaration base []

-- the members of a declaration in memory, and one with those that are read behind it
abbrev pub member_declarators_in : Vec Declarator Global → List Trees.DeclaratorTree
member_declarators_in declarators = map declarator_tree declarators.items

abbrev pub member_declarators_from : Declarator → Parse → List Trees.DeclaratorTree
member_declarators_from first parse = declarator_tree first ∷ member_declarators_of parse

-- the declarations of members in memory, and one with those that are read behind it
abbrev pub members_in : Vec Member Global → List Trees.MemberTree
members_in members = map member_tree members.items

abbrev pub members_from : Member → Parse → List Trees.MemberTree
members_from first parse = member_tree first ∷ more_members_of parse

-- what follows the first declarator of an item in memory, and a body there
abbrev pub after_in : Box Base Global → Box Declarator Global → Parse → Trees.ItemTree
after_in base declarator parse = after_of (base_tree base.value) (declarator_tree declarator.value) parse

abbrev pub body_in : Box Base Global → Box Declarator Global → Parse → Trees.ItemTree
body_in base declarator parse = body_of (base_tree base.value) (declarator_tree declarator.value) parse
