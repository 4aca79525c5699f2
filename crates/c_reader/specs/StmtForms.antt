-- The rows of the grammar that the rows of statements in the code are.
use Rattle.c_grammar.specs.Forms
use Rattle.c_reader.specs.declared.statement.StmtRow.{StmtRow}
use Rattle.c_reader.specs.declared.statement.StmtRow.TheVariants as stmt_form_rows
use Rattle.c_reader.specs.declared.statement.ElseRow.{ElseRow}
use Rattle.c_reader.specs.declared.statement.ElseRow.TheVariants as else_form_rows
use Rattle.c_reader.specs.declared.statement.ForRow.{ForRow}
use Rattle.c_reader.specs.declared.statement.ForRow.TheVariants as for_form_rows
use Rattle.c_reader.specs.declared.statement.OptionalRow.{OptionalRow}
use Rattle.c_reader.specs.declared.statement.OptionalRow.TheVariants as optional_form_rows
use Rattle.c_reader.specs.declared.statement.ReturnRow.{ReturnRow}
use Rattle.c_reader.specs.declared.statement.ReturnRow.TheVariants as return_form_rows
use Rattle.c_reader.specs.declared.statement.BlockRow.{BlockRow}
use Rattle.c_reader.specs.declared.statement.BlockRow.TheVariants as block_form_rows
use Rattle.c_reader.specs.declared.statement.SwitchRow.{SwitchRow}
use Rattle.c_reader.specs.declared.statement.SwitchRow.TheVariants as switch_form_rows

abbrev pub stmt_form : StmtRow → Forms.Production
stmt_form stmt_form_rows.Block = Forms.Block
stmt_form stmt_form_rows.Empty = Forms.Empty
stmt_form stmt_form_rows.Expression = Forms.Expression
stmt_form stmt_form_rows.If = Forms.IfRow
stmt_form stmt_form_rows.While = Forms.WhileRow
stmt_form stmt_form_rows.Do = Forms.DoRow
stmt_form stmt_form_rows.For = Forms.ForRow
stmt_form stmt_form_rows.Switch = Forms.SwitchRow
stmt_form stmt_form_rows.Break = Forms.BreakRow
stmt_form stmt_form_rows.Continue = Forms.ContinueRow
stmt_form stmt_form_rows.Return = Forms.ReturnRow

abbrev pub else_form : ElseRow → Forms.Production
else_form else_form_rows.Else = Forms.ElseRow
else_form else_form_rows.Nothing = Forms.NoElse

abbrev pub for_form : ForRow → Forms.Production
for_form for_form_rows.Declaration = Forms.ForDeclaration
for_form for_form_rows.Nothing = Forms.ForEmpty
for_form for_form_rows.Expression = Forms.ForExpression

abbrev pub optional_form : OptionalRow → Forms.Production
optional_form optional_form_rows.Value = Forms.SomeExpr
optional_form optional_form_rows.Nothing = Forms.NoExpr

abbrev pub return_form : ReturnRow → Forms.Production
return_form return_form_rows.Nothing = Forms.ReturnNothing
return_form return_form_rows.Value = Forms.ReturnExpr

abbrev pub block_form : BlockRow → Forms.Production
block_form block_form_rows.End = Forms.BlockEnd
block_form block_form_rows.Declaration = Forms.BlockDeclaration
block_form block_form_rows.Statement = Forms.BlockStatement

abbrev pub switch_form : SwitchRow → Forms.Production
switch_form switch_form_rows.End = Forms.SwitchEnd
switch_form switch_form_rows.Case = Forms.CaseRow
switch_form switch_form_rows.Default = Forms.DefaultRow
switch_form switch_form_rows.Statement = Forms.SwitchStatement
