-- What is listed in a checker.
use Rattle.std.specs.Prelude.{◌≡◌, List, [], ◌++◌, map}
use Rattle.c_syntax.specs.declared.expr.Suffix as memory_suffix
use Rattle.c_syntax.specs.declared.expr.Suffix.TheVariants as S
use Rattle.c_syntax.specs.Trees
use Rattle.c_syntax.specs.Trees.{NameTree, BaseTree, ItemTree}
use Rattle.c_syntax.specs.Views.{length_tree, parameters_tree}
use Rattle.c_typed.specs.declared.definition.LiteralDef as memory_literal
use Rattle.c_typed.specs.DefinitionViews.{literal_of, LiteralStands}
use Rattle.c_typed.specs.Table.{Interned, Grows}
use Rattle.c_types_state.specs.declared.literals.Text.{Text}
use Rattle.c_typed.specs.Typed.{LiteralDef}
use Rattle.c_rules.specs.Elaborated.{literals_in_length, literals_in_parameters, literals_in_base, literals_in_declarator, literals_in_declarators, literals_in_block}
use Rattle.c_types_state.specs.NameTables.{State}
use Rattle.c_rules.specs.Programs.{first_places, each_once, tags_in_length, tags_in_base, completed_by, tags_in_items, completed_in, defined_in}

-- the tags of these places
abbrev pub with_tags : List NameTree → State → State
with_tags tags state = record state { tags = first_places state.tags tags }

-- those of a suffix
abbrev pub suffix_tags : memory_suffix.Suffix → List NameTree
suffix_tags (S.Array' length) = tags_in_length (length_tree length)
suffix_tags (S.Function' shape parameters) = []

-- the words of an item, which may complete a structure
abbrev pub with_outline_base : BaseTree → State → State
with_outline_base base state = record state { tags = first_places state.tags (tags_in_base base); completed = each_once state.completed (completed_by base) }

-- the items of a program
abbrev pub with_outline : List ItemTree → State → State
with_outline items state =
    record state {
      tags = first_places state.tags (tags_in_items items);
      completed = each_once state.completed (completed_in items);
      defined = each_once state.defined (defined_in items);
    }

-- the literals of a suffix
abbrev pub suffix_literals : memory_suffix.Suffix → List LiteralDef
suffix_literals (S.Array' length) = literals_in_length (length_tree length)
suffix_literals (S.Function' shape parameters) = literals_in_parameters (parameters_tree parameters)

-- those of an item
abbrev pub item_literals : ItemTree → List LiteralDef
item_literals (Trees.Declaration base declarators) = literals_in_base base ++ literals_in_declarators declarators
item_literals (Trees.Function base declarator place body) = literals_in_base base ++ literals_in_declarator declarator ++ literals_in_block body

-- what a text that was found is
abbrev pub text_of : Text → LiteralDef
text_of text = record { place = text.place; bytes = text.bytes }

-- these literals were added
abbrev pub AddsLiterals : List LiteralDef → List Text → List Text → Type 0
AddsLiterals literals old new = map text_of new ≡ map text_of old ++ literals

-- a literal was made of a text, with its type, and all else stays
pub record MakesLiteral (old new : Interned) (text : Text) (made : memory_literal.LiteralDef) : Type 0 where
  pub is_text : literal_of made ≡ text_of text
  pub stands : LiteralStands new made
  pub grows : Grows old new
