use Rattle.c_types_expressions.proofs.Assigned.{assigned-stands, assigned-compound}
use Rattle.c_types_expressions.proofs.assignments.assigned_object.Goals as goal

pub compound_object-requires : goal.compound_object-requires
compound_object-requires c =
    assigned-stands c.args.checker.now c.modifiable.new.checker c.args.place c.in-Some.known c.modifiable.result c.in-Some-modifiable.target c.in-Some-modifiable.is c.modifiable.ensures

pub returns-in-Some-operator : goal.returns-in-Some-operator
returns-in-Some-operator c =
    assigned-compound c.args.checker.now c.modifiable.new.checker c.args.place c.in-Some.known c.modifiable.result c.in-Some-modifiable.target c.in-Some-modifiable.is c.modifiable.ensures
    c.compound_object.new.checker c.args.part c.args.operator c.in-Some-operator.op c.compound_object.result c.in-Some.is c.in-Some-operator.is c.compound_object.ensures
