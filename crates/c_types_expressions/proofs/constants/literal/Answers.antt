use Rattle.std.proofs.Common.{ℕ, List, suc, sym, ap, length, ◌+◌, add-one}
use Rattle.c_num.specs.declared.IntType.TheVariants as I
use Rattle.c_typed.specs.Layouts.{is_complete}
use Rattle.c_typed.specs.Table.{structs_in}
use Rattle.c_typed.proofs.Grown.{integer_stands}
use Rattle.c_types_expressions.proofs.Deriving.{literal-known}
use Rattle.c_types_expressions.proofs.constants.literal.Goals as goal

pub array_of-requires-clause-stands : goal.array_of-requires-clause-stands
array_of-requires-clause-stands c = (integer_stands c.args.checker.now.table c.integer.result I.Char c.integer.ensures).0

pub array_of-requires-clause-complete : goal.array_of-requires-clause-complete
array_of-requires-clause-complete c =
    ap (is_complete (structs_in c.args.checker.now.table)) (integer_stands c.args.checker.now.table c.integer.result I.Char c.integer.ensures).1

pub returns : goal.returns
returns c =
    literal-known c.integer.result c.in_ok-c_type.c_type (length c.args.bytes.now + 1) (suc (length c.args.bytes.now)) c.args.place c.args.bytes.now c.in_ok-from_slice.field-0 c.in_ok-new.field-0 c.new-2.result
    c.in_ok-new.ensures.ok c.integer.ensures c.in_ok-from_slice.ensures c.new-2.ensures.items (add-one (length c.args.bytes.now)) (ap (λ (bytes : List ℕ). suc (length bytes)) (sym c.in_ok-from_slice.ensures)) c.in_ok-c_type.ensures.made
