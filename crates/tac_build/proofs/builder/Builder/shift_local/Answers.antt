use Rattle.std.proofs.Common.{refl, subst}
use Rattle.c_typed.specs.Table.{type_in}
use Rattle.tac_build.specs.Code.{ReadsLocal}
use Rattle.tac_build.specs.Building.{home_in, pointer_in, points_in, spot_of}
use Rattle.tac_build.proofs.Points.{fills_same, fills_grown, reads_pointer}
use Rattle.tac_build.proofs.builder.Builder.shift_local.Goals as goal

pub pointer-old-requires : goal.pointer-old-requires
pointer-old-requires c =
    let table = c.args.types.now in
    let points = points_in table c.read_local.new.self in
    reads_pointer table points c.args.home.local c.args.home.is_object (type_in table c.args.home.c_type) (spot_of table c.args.self.now) (spot_of table c.read_local.new.self) c.in_ok-read_local.field-0 c.requires.kind
    (c.in_ok-read_local.ensures.code points (fills_same points))

pub returns-clause-code : goal.returns-clause-code
returns-clause-code c = λ points fills.
    let table = c.args.types.now in
    let before = fills_grown table c.move_pointer.new.self c.append.new.self points c.in_ok-append.ensures.grows fills in
    let first = fills_grown table c.read_local.new.self c.move_pointer.new.self points c.in_ok-new.ensures.grows before in
    let read = subst (λ lowered. ReadsLocal points (home_in table c.args.home) (spot_of table c.args.self.now) (spot_of table c.read_local.new.self) lowered) (c.pointer-old.ensures table) (c.in_ok-read_local.ensures.code points first) in (
      pointer_in table c.pointer-old.result,
      pointer_in table c.in_ok-new.new,
      (
        spot_of table c.read_local.new.self,
        spot_of table c.move_pointer.new.self,
        c.pointer-old.result.register,
        type_in table c.pointer-old.result.target,
        read,
        refl,
        c.in_ok-new.ensures.code table points before,
        c.in_ok-append.ensures.code table points fills,
      ),
      c.moved_value.ensures table,
    )
