use Rattle.std.proofs.Common.{◌≡◌, ◌++◌, map}
use Rattle.c_syntax.specs.Views.{program_tree}
use Rattle.c_typed.specs.Table.{Grows}
use Rattle.c_typed.specs.DefinitionViews.{literal_of, LiteralsStand}
use Rattle.c_rules.specs.Elaborated.{literals_in_items}
use Rattle.c_types_state.specs.Lists.{text_of}
use Rattle.c_types_state.proofs.literals.literals_of.Given as goal

abbrev pub invariant-loop-text : goal.invariant-loop-text
invariant-loop-text l = record {
  literals : map literal_of l.literals.items ++ map text_of l.text-iterator.rest.items ≡ literals_in_items (program_tree l.fn.program).items;
  stand : LiteralsStand l.types l.literals.items;
  grows : Grows l.fn.types l.types;
}
