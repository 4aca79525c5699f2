-- The grammar of the language over the tokens of a text.
use Rattle.c_grammar.specs.Table.{Table, Tree}
use Rattle.c_grammar.specs.declared.kind.Kind.{Kind}
use Rattle.c_grammar.specs.Forms.{Sort, Production}
use Rattle.c_grammar.specs.Language.{language}
use Rattle.c_grammar.specs.Leaves.{Leaf, kind_of, sample}

abbrev pub grammar : Table Leaf Kind Sort Production
grammar = language kind_of sample

abbrev pub Parse : Type 0
Parse = Tree Leaf Production
