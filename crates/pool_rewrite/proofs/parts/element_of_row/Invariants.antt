use Rattle.std.proofs.Common.{◌≡◌, drop}
use Rattle.c_typed.specs.Table.{structs_in}
use Rattle.tac_ir.specs.Layouts.{parts_of}
use Rattle.pool_rewrite.specs.Made.{inner_in}
use Rattle.pool_rewrite.specs.Firsts.{PartsFit, whole_of}
use Rattle.pool_rewrite.proofs.parts.element_of_row.Given as goal

-- the steps from the index on lead from here
abbrev pub invariant-loop-part : goal.invariant-loop-part
invariant-loop-part l = record {
  leads : parts_of (structs_in l.types) (drop l.part-index l.parts) (inner_in l.types l.inner) ≡ parts_of (structs_in l.types) l.parts (whole_of l.types l.fn.c_type);
  fit : PartsFit (structs_in l.types) (drop l.part-index l.parts) l.index (inner_in l.types l.inner);
}
