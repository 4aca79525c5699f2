use Rattle.std.proofs.Common.{Some, None, refl, sym, subst}
use Rattle.c_typed.specs.declared.structure.Step.TheVariants as Steps
use Rattle.c_typed.specs.Types.{Array, Struct}
use Rattle.c_typed.specs.Table.{known_in, shape_type, tag_in, type_in}
use Rattle.c_typed.specs.Inside.{IsStep}
use Rattle.c_typed.proofs.Steps.{nowhere, no_step, element_step, step_from}
use Rattle.c_typed.proofs.type_table.TypeTable.step.Goals as goal

pub returns-in_default : goal.returns-in_default
returns-in_default c =
    let table = c.args.self.now in
    subst (λ w. IsStep table (known_in table.tags table.entries w) c.args.step (0, None)) (sym c.in_default.is) (nowhere table None c.args.step (λ path. refl))

pub returns-in-Element : goal.returns-in-Element
returns-in-Element c =
    let table = c.args.self.now in
    let whole = Struct (tag_in table c.in-Struct.id) in
    step_from table c.args.whole c.in-Some.whole whole c.args.step (Steps.Element c.in-Element.field-0) (0, None) c.in-Some.is c.in-Struct.ensures.means c.in-Element.is
    (nowhere table (Some whole) (Steps.Element c.in-Element.field-0) (λ path. refl))

pub returns-in-Member-step : goal.returns-in-Member-step
returns-in-Member-step c =
    let table = c.args.self.now in
    let whole = Array (type_in table c.in-Array.element) c.in-Array.length in
    step_from table c.args.whole c.in-Some.whole whole c.args.step (Steps.Member c.in-Member-step.field-0) (0, None) c.in-Some.is c.in-Array.ensures.means c.in-Member-step.is
    (nowhere table (Some whole) (Steps.Member c.in-Member-step.field-0) (λ path. refl))

pub returns-in-Element-step : goal.returns-in-Element-step
returns-in-Element-step c =
    let table = c.args.self.now in
    let whole = Array (type_in table c.in-Array.element) c.in-Array.length in
    step_from table c.args.whole c.in-Some.whole whole c.args.step (Steps.Element c.in-Element-step.field-0) (0, Some c.in-Array.element) c.in-Some.is c.in-Array.ensures.means c.in-Element-step.is
    (element_step table c.in-Array.element c.in-Array.length c.in-Element-step.field-0 c.in-Array.ensures.parts)

pub returns-in_default-shape : goal.returns-in_default-shape
returns-in_default-shape c =
    let table = c.args.self.now in
    step_from table c.args.whole c.in-Some.whole (shape_type table c.shape.result) c.args.step c.args.step (0, None) c.in-Some.is c.shape.ensures.means refl
    (no_step table c.shape.result c.args.step c.in_default-shape.not-Struct c.in_default-shape.not-Array)
