use Rattle.std.proofs.Common.{List, map, sym, subst}
use Rattle.tac_ir.specs.declared.op.Op.{Op}
use Rattle.tac_ir.specs.States.{InStart}
use Rattle.tac_ir.specs.Views.{op_in}
use Rattle.heap_graph.specs.Marks.{Adds, IsNamedBy}
use Rattle.heap_graph.proofs.Adding.{adds_both}
use Rattle.graph_checker.specs.Programs.{family_of}
use Rattle.graph_checker.specs.Fits.{AllFit}
use Rattle.graph_checker.proofs.GroupsFit.{start_fits}
use Rattle.graph_checker.specs.Needed.{AnyOf, IsImageFrom, IsNeededBy}
use Rattle.graph_checker.proofs.Decided.{marks_needed}
use Rattle.graph_checker.proofs.graphs.is_start_needed.Goals as goal

pub add_points-requires-clause-fit : goal.add_points-requires-clause-fit
add_points-requires-clause-fit c =
    let tac = c.args.program.tac.now in
    subst (λ (l : List Op). AllFit c.args.program c.start.result.group (map (op_in tac.types) l)) (sym c.as_slice-points.ensures.value)
    (subst (λ g. AllFit c.args.program g (map (op_in tac.types) tac.start.points.items)) (sym c.start.ensures.group) (start_fits c.args.program c.requires.program))

pub returns : goal.returns
returns c =
    let program = c.args.program in
    let family = family_of program in
    let table = program.tac.now.types in
    let names = program.graphs.now.start_function.names in
    let points = family.tac.start.points in
    let fresh = c.in_ok-needed.needed.marks in
    let stated = c.add_statics.new.self.marks in
    let named = c.add_names.new.self.marks in
    let final = c.add_points.new.needed.marks in
    marks_needed table program.graphs.now.start (IsNeededBy family InStart names points) fresh stated final c.in_ok-needed.ensures c.add_statics.ensures
    (adds_both stated named final (IsNamedBy names) (AnyOf (IsImageFrom family InStart) points) c.add_names.ensures
    (subst (λ (l : List Op). Adds named final (AnyOf (IsImageFrom family InStart) (map (op_in table) l))) c.as_slice-points.ensures.value (c.in_ok-add_points.ensures InStart c.start.ensures)))
    c.are_all.result (c.are_all.ensures table)
