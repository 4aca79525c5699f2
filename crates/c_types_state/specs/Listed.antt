-- What a part of a text lists.
use Rattle.std.specs.Prelude.{List, ◌++◌, map, option_map, Result, OnOk}
use Rattle.c_syntax.specs.Views.{declarator_tree, words_tree, init_tree}
use Rattle.c_syntax.specs.Trees.{NameTree}
use Rattle.c_syntax.specs.declared.declaration.Member as memory_member
use Rattle.c_syntax.specs.declared.declaration.InitDeclarator as memory_init_declarator
use Rattle.c_typed.specs.Typed.{LiteralDef}
use Rattle.c_rules.specs.Elaborated as elaborated
use Rattle.c_rules.specs.Programs as programs
use Rattle.c_types_state.specs.declared.literals.Literals as memory_literals
use Rattle.c_types_state.specs.Lists.{AddsLiterals}

-- ---- tags

abbrev pub member_tags : memory_member.Member → List NameTree
member_tags member = programs.tag_of (words_tree member.simple).words ++ programs.tags_in_each (map declarator_tree member.declarators.items)

abbrev pub declarator_tags : memory_init_declarator.InitDeclarator → List NameTree
declarator_tags tree = programs.tags_in_declarator (declarator_tree tree.declarator) ++ programs.tags_in_first (option_map init_tree tree.init)

-- ---- literals

abbrev pub declarator_literals : memory_init_declarator.InitDeclarator → List LiteralDef
declarator_literals tree = elaborated.literals_in_declarator (declarator_tree tree.declarator) ++ elaborated.literals_in_first (option_map init_tree tree.init)

-- they were added, where memory suffices
abbrev pub ListsLiterals : {T E : Type 0} → List LiteralDef → memory_literals.Literals → memory_literals.Literals → Result T E → Type 0
ListsLiterals literals old new result = OnOk result (AddsLiterals literals old.found.items new.found.items)
