use Rattle.std.proofs.Common.{◌≡◌, sym, ◌∙◌, subst}
use Rattle.c_typed.specs.Table.{Stands, type_in}
use Rattle.tac_ir.specs.Code as C
use Rattle.tac_ir.specs.Views.{path_in, scalar_in, operand_of}
use Rattle.tac_build.specs.Building.{IsScalarType}
use Rattle.tac_build.specs.Lowering.{types_of_source}
use Rattle.tac_build.proofs.Points.{on_ok_then, grows_on, grows_equal}
use Rattle.tac_build.proofs.FirstStores.{parameter_register, parameter_memory, emits_counts, not_true, not_false}
use Rattle.tac_build.proofs.builder.Builder.parameter.Goals as goal

pub returns-then-not-home-clause-code : goal.returns-then-not-home-clause-code
returns-then-not-home-clause-code c = λ number own. parameter_register (types_of_source c.args.source.now) c.args.home c.args.self.now (not_true c.args.home.is_object c.if-not-home.true) number own

pub scalar-scalar-requires-clause-stands : goal.scalar-scalar-requires-clause-stands
scalar-scalar-requires-clause-stands c = subst (λ table. Stands table c.args.home.c_type) (sym c.types.ensures) c.requires.stands

pub scalar-scalar-requires-clause-kind : goal.scalar-scalar-requires-clause-kind
scalar-scalar-requires-clause-kind c = subst (λ table. IsScalarType (type_in table c.args.home.c_type)) (sym c.types.ensures) c.requires.kind

pub returns-clause-code : goal.returns-clause-code
returns-clause-code c =
    let table = types_of_source c.args.source.now in
    let scalar = c.scalar-scalar.result in
    let is_scalar = subst (λ table. scalar_in table scalar ≡ type_in table c.args.home.c_type) c.types.ensures c.scalar-scalar.ensures.code in
    on_ok_then c.store_operand.result (λ code. parameter_memory table c.args.home c.in_ok-path.path.value scalar (operand_of c.stored_argument-argument.result) c.args.self.now c.with_home.new.self c.store_operand.new.self (not_false c.args.home.is_object c.if-not-home.false)
    (c.in_ok-with_home.ensures.spot table) c.in_ok-path.ensures is_scalar (λ number own. c.stored_argument-argument.ensures table number own) code) c.store_operand.ensures.code

pub returns-clause-grows : goal.returns-clause-grows
returns-clause-grows c = on_ok_then c.store_operand.result (λ grows. grows_on c.args.self.now c.with_home.new.self c.store_operand.new.self (grows_equal c.args.self.now c.with_home.new.self c.in_ok-with_home.ensures.points) grows)
    c.store_operand.ensures.grows

pub returns-clause-counts : goal.returns-clause-counts
returns-clause-counts c = on_ok_then c.store_operand.result (λ code. emits_counts (types_of_source c.args.source.now)
    (λ table. C.Store (path_in table c.in_ok-path.path.value) (scalar_in table c.scalar-scalar.result) (operand_of c.stored_argument-argument.result)) c.with_home.new.self c.store_operand.new.self code ∙ c.in_ok-with_home.ensures.counts)
    c.store_operand.ensures.code
