use Rattle.std.proofs.Common.{◌≡◌, suc, ◌+◌, Some, length, ap, ◌∙◌, arith}
use Rattle.c_num.specs.declared.IntType.TheVariants as I
use Rattle.c_num.specs.declared.Relation.TheVariants as relations
use Rattle.tac_ir.specs.Code as C
use Rattle.tac_ir.specs.Views.{tree_of}
use Rattle.tac_build.proofs.Points.{on_ok_then}
use Rattle.tac_build.proofs.builder.Builder.label_test.Goals as goal

pub returns-clause-code : goal.returns-clause-code
returns-clause-code c =
    let switched = c.args.switched in
    let long : length c.args.self.now.points.items ≡ c.len.result = omega (arith, c.len.ensures, c.args.self.now.points.ok) in
    let next : c.len.result + 1 ≡ suc (length c.args.self.now.points.items) = omega (arith, long) in
    on_ok_then c.append.result (λ leads table points fills.
    let found = leads table points fills in
    (found.0 ∙ (λ i. Some (C.Branch I.Int (C.Compare relations.Eq switched.int_type (ap tree_of c.in_ok-new.ensures.ok i) (ap tree_of c.in_ok-new-2.ensures.ok i)) c.args.case.place.0 (next i))), found.1))
    c.append.ensures.code
