use Rattle.ref_meaning.specs.declared.control.Node.TheVariants as N
use Rattle.ref_meaning.proofs.Leftover.{awaited-value}
use Rattle.ref_meaning.proofs.entry.value_entry.Goals as goal

pub returns-in_default : goal.returns-in_default
returns-in_default c = record {
  means = λ table. c.operand_entry.ensures.means table (awaited-value table c.args.value.now c.in_default.not-Constant c.in_default.not-NullPointer c.in_default.not-Grouped c.in_default.not-Plus c.in_default.not-Cast c.in_default.not-CastVoid c.in_default.not-FunctionValue c.in_default.not-AddressOfFunction c.in_default.not-AddressOf c.in_default.not-LibraryCall);
  stands = λ table. c.operand_entry.ensures.stands table (N.Value c.args.value);
  placed = c.operand_entry.ensures.placed;
}
