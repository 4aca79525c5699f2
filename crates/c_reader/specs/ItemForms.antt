-- The rows of the grammar that the rows of items in the code are.
use Rattle.c_grammar.specs.declared.kind.Kind.{Kind}
use Rattle.c_grammar.specs.Forms
use Rattle.c_reader.specs.declared.item.MemberMoreRow.{MemberMoreRow}
use Rattle.c_reader.specs.declared.item.MemberMoreRow.TheVariants as member_more_form_rows
use Rattle.c_reader.specs.declared.item.MembersRow.{MembersRow}
use Rattle.c_reader.specs.declared.item.MembersRow.TheVariants as members_form_rows
use Rattle.c_reader.specs.declared.item.MembersOptRow.{MembersOptRow}
use Rattle.c_reader.specs.declared.item.MembersOptRow.TheVariants as members_opt_form_rows
use Rattle.c_reader.specs.declared.item.AfterRow.{AfterRow}
use Rattle.c_reader.specs.declared.item.AfterRow.TheVariants as after_form_rows
use Rattle.c_reader.specs.declared.item.TailRow.{TailRow}
use Rattle.c_reader.specs.declared.item.TailRow.TheVariants as tail_form_rows
use Rattle.c_reader.specs.declared.item.ItemsRow.{ItemsRow}
use Rattle.c_reader.specs.declared.item.ItemsRow.TheVariants as items_form_rows
use Rattle.c_reader.specs.declared.item.ItemRow.{ItemRow}
use Rattle.c_reader.specs.declared.item.ItemRow.TheVariants as item_form_rows

abbrev pub member_more_form : MemberMoreRow → Forms.Production
member_more_form member_more_form_rows.End = Forms.MemberEnd
member_more_form member_more_form_rows.Next = Forms.MemberNext

abbrev pub members_form : MembersRow → Forms.Production
members_form members_form_rows.End = Forms.MembersEnd
members_form members_form_rows.Next = Forms.MembersNext

abbrev pub members_opt_form : MembersOptRow → Forms.Production
members_opt_form members_opt_form_rows.Members = Forms.Members
members_opt_form members_opt_form_rows.Nothing = Forms.NoMembers

abbrev pub after_form : AfterRow → Forms.Production
after_form after_form_rows.Body = Forms.FunctionBody
after_form after_form_rows.Values = Forms.DeclaredValues

abbrev pub tail_form : TailRow → Forms.Production
tail_form tail_form_rows.Alone = Forms.TailAlone
tail_form tail_form_rows.Typed = Forms.TailTyped

abbrev pub items_form : ItemsRow → Forms.Production
items_form items_form_rows.Item = Forms.OneItem
items_form items_form_rows.End = Forms.NoItem

abbrev pub item_form : Kind → ItemRow → Forms.Production
item_form kind item_form_rows.Storage = Forms.Storage kind
item_form kind item_form_rows.Struct = Forms.ItemStruct
item_form kind (item_form_rows.Typed next) = Forms.ItemTyped kind next
