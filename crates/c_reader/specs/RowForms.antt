-- The rows of the grammar that the rows in the code are.
use Rattle.c_grammar.specs.Forms
use Rattle.c_reader.specs.declared.declaration.InitRow.{InitRow}
use Rattle.c_reader.specs.declared.declaration.InitRow.TheVariants as I
use Rattle.c_reader.specs.declared.declaration.InitMoreRow.{InitMoreRow}
use Rattle.c_reader.specs.declared.declaration.InitMoreRow.TheVariants as M
use Rattle.c_reader.specs.declared.declaration.InitNextRow.{InitNextRow}
use Rattle.c_reader.specs.declared.declaration.InitNextRow.TheVariants as N
use Rattle.c_reader.specs.declared.declaration.FirstValueRow.{FirstValueRow}
use Rattle.c_reader.specs.declared.declaration.FirstValueRow.TheVariants as V
use Rattle.c_reader.specs.declared.declaration.DeclaratorsRow.{DeclaratorsRow}
use Rattle.c_reader.specs.declared.declaration.DeclaratorsRow.TheVariants as D

abbrev pub init_form : InitRow → Forms.Production
init_form I.Value = Forms.InitValue
init_form I.List = Forms.InitList

abbrev pub init_more_form : InitMoreRow → Forms.Production
init_more_form M.End = Forms.InitEnd
init_more_form M.Comma = Forms.InitComma

abbrev pub init_next_form : InitNextRow → Forms.Production
init_next_form N.Close = Forms.InitClose
init_next_form N.Other = Forms.InitOther

abbrev pub first_value_form : FirstValueRow → Forms.Production
first_value_form V.Value = Forms.Value
first_value_form V.Nothing = Forms.NoValue

abbrev pub declarators_form : DeclaratorsRow → Forms.Production
declarators_form D.End = Forms.DeclarationEnd
declarators_form D.Next = Forms.DeclarationNext
