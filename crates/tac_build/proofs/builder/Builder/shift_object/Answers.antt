use Rattle.std.proofs.Common.{Some, refl, ap, ◌∙◌, subst}
use Rattle.c_typed.specs.Table.{type_in}
use Rattle.tac_ir.specs.Code as C
use Rattle.tac_ir.specs.Views.{path_in, scalar_in}
use Rattle.tac_build.specs.Code.{Loads}
use Rattle.tac_build.specs.Building.{lowered_in, pointer_in, points_in, spot_of}
use Rattle.tac_build.proofs.Points.{fills_same, fills_grown, loads_pointer}
use Rattle.tac_build.proofs.builder.Builder.shift_object.Goals as goal

pub pointer-old-requires : goal.pointer-old-requires
pointer-old-requires c =
    let table = c.args.types.now in
    let points = points_in table c.load.new.self in
    loads_pointer table points (type_in table c.args.place.c_type) (path_in table c.in_ok-path-2.path.value) (spot_of table c.args.self.now) (spot_of table c.load.new.self) c.in_ok-load.field-0 c.requires.kind
    (subst (λ c_type. Loads points c_type (path_in table c.in_ok-path-2.path.value) (spot_of table c.args.self.now) (spot_of table c.load.new.self) (lowered_in table c.in_ok-load.field-0)) c.scalar-scalar.ensures.code
    (c.in_ok-load.ensures.code table points (fills_same points)))

pub returns-clause-code : goal.returns-clause-code
returns-clause-code c = λ points fills.
    let table = c.args.types.now in
    let before = fills_grown table c.move_pointer.new.self c.store_operand.new.self points c.in_ok-store_operand.ensures.grows fills in
    let first = fills_grown table c.load.new.self c.move_pointer.new.self points c.in_ok-new.ensures.grows before in
    let path = ap (path_in table) c.in_ok-path-2.ensures.ok ∙ c.in_ok-path.ensures table ∙ ap (path_in table) c.deref.ensures in
    let read = subst (λ lowered. Loads points (scalar_in table c.scalar-scalar.result) (path_in table c.in_ok-path-2.path.value) (spot_of table c.args.self.now) (spot_of table c.load.new.self) lowered) (c.pointer-old.ensures table)
    (c.in_ok-load.ensures.code table points first) in
    let typed = subst (λ c_type. Loads points c_type (path_in table c.in_ok-path-2.path.value) (spot_of table c.args.self.now) (spot_of table c.load.new.self) (pointer_in table c.pointer-old.result)) c.scalar-scalar.ensures.code read in
    let placed = subst (λ path. Loads points (type_in table c.args.place.c_type) path (spot_of table c.args.self.now) (spot_of table c.load.new.self) (pointer_in table c.pointer-old.result)) path typed in
    let stored = c.in_ok-store_operand.ensures.code table points fills in (
      pointer_in table c.pointer-old.result,
      pointer_in table c.in_ok-new.new,
      (
        spot_of table c.load.new.self,
        spot_of table c.move_pointer.new.self,
        c.pointer-old.result.register,
        type_in table c.pointer-old.result.target,
        placed,
        refl,
        c.in_ok-new.ensures.code table points before,
        ((stored.0 ∙ (λ i. Some (C.Store (path_in table c.args.place.path.value) (c.scalar-scalar.ensures.code i) (C.PointerOperand c.in_ok-new.new.register))), stored.1), refl),
      ),
      c.moved_value.ensures table,
    )
