use Rattle.std.proofs.Common.{Some, ◌∙◌}
use Rattle.tac_ir.specs.declared.op.Op.TheVariants as M
use Rattle.tac_ir.specs.Code as C
use Rattle.tac_ir.specs.Views.{tree_of, path_in, scalar_in}
use Rattle.tac_build.specs.Spots.{behind, with_temporary, AsInteger}
use Rattle.tac_build.specs.Building.{spot_of}
use Rattle.tac_build.proofs.Points.{if_ok, on_ok, grows_on, grows_equal, fills_grown, named_then, emits_from}
use Rattle.tac_ir.specs.declared.register.Register.TheVariants as R
use Rattle.tac_build.proofs.builder.Builder.store_kept.Goals as goal

pub returns-clause-code : goal.returns-clause-code
returns-clause-code c = if_ok _ _ c.held.result (λ lowered is table points fills.
    let named = c.new_temporary-to.ensures in
    let later = c.in_ok-store_operand.ensures.code table points fills in
    let first = named_then table c.args.self.now c.new_temporary-to.new.self c.append.new.self points _ named.points (named.spot table)
    (c.in_ok-append.ensures.code table points (fills_grown table c.append.new.self c.store_operand.new.self points c.in_ok-store_operand.ensures.grows fills)) in (
      first.0 ∙ (λ i. Some (C.Assign (named.named i) (tree_of (c.into_inner-tree.ensures i)))),
      emits_from points (C.Store (path_in table c.args.path.value) (scalar_in table c.args.scalar) (C.IntegerOperand (C.Held (R.Temporary c.args.self.now.counts.temporaries)))) (spot_of table c.append.new.self) (behind (with_temporary (spot_of table c.args.self.now))) (spot_of table c.store_operand.new.self) first.1
          (later.0 ∙ (λ i. Some (C.Store (path_in table c.args.path.value) (scalar_in table c.args.scalar) (C.IntegerOperand (C.Held (named.named i))))), later.1),
      is table ∙ (λ i. AsInteger c.args.int_type (C.Held (named.named i))),
    )) c.held.ensures

pub returns-clause-grows : goal.returns-clause-grows
returns-clause-grows c = on_ok c.held.result (grows_on c.args.self.now c.new_temporary-to.new.self c.store_operand.new.self (grows_equal c.args.self.now c.new_temporary-to.new.self c.new_temporary-to.ensures.points)
    (grows_on c.new_temporary-to.new.self c.append.new.self c.store_operand.new.self c.in_ok-append.ensures.grows c.in_ok-store_operand.ensures.grows))
