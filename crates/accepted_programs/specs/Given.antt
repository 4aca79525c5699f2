-- What the syntax of C asks of a text: a structure's list declares a member with a name, and a list of first values has one (C17 6.7.2.1,
-- 6.7.9).
use Rattle.std.specs.Prelude.{◌≡◌, Bool, true, false, ◌&&◌, ◌||◌, List, [], ◌∷◌, Option, Some, is_some}
use Rattle.c_syntax.specs.Trees
use Rattle.c_syntax.specs.Trees.{DeclaratorTree, InitTree, InitDeclaratorTree, MemberTree, BaseTree, ItemTree, ProgramTree}
use Rattle.c_rules.specs.Expressions.{declared_name}

abbrev pub some_named : List DeclaratorTree → Bool
some_named [] = false
some_named (first ∷ others) = is_some (declared_name first) || some_named others

abbrev pub declares_member : List MemberTree → Bool
declares_member [] = false
declares_member (first ∷ others) = some_named first.declarators || declares_member others

abbrev pub base_given : BaseTree → Bool
base_given (Trees.Plain words) = true
base_given (Trees.StructBody place name members) = declares_member members

abbrev pub first_given : Option InitTree → Bool
first_given (Some (Trees.InitList place Trees.NoInits)) = false
first_given _ = true

abbrev pub firsts_given : List InitDeclaratorTree → Bool
firsts_given [] = true
firsts_given (first ∷ others) = first_given first.init && firsts_given others

abbrev pub items_given : List ItemTree → Bool
items_given [] = true
items_given (Trees.Declaration base declarators ∷ items) = (base_given base && firsts_given declarators) && items_given items
items_given (Trees.Function base declarator place body ∷ items) = base_given base && items_given items

abbrev pub IsGiven : ProgramTree → Type 0
IsGiven program = items_given program.items ≡ true
