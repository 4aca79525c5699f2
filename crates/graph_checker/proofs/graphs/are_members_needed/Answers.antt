use Rattle.call_graph.specs.ClassLists.{numbers_of}
use Rattle.graph_checker.specs.Programs.{family_of}
use Rattle.graph_checker.specs.Needed.{AnyOf, IsNeededIn}
use Rattle.graph_checker.proofs.Decided.{marks_needed}
use Rattle.graph_checker.proofs.graphs.are_members_needed.Goals as goal

pub returns : goal.returns
returns c =
    let program = c.args.program in
    marks_needed program.tac.now.types c.args.graph.now (AnyOf (IsNeededIn (family_of program) program.graphs.now.functions.items) (numbers_of c.args.members.now)) c.in_ok-needed.needed.marks
    c.add_statics.new.self.marks c.add_members.new.needed.marks c.in_ok-needed.ensures c.add_statics.ensures c.in_ok-add_members.ensures c.are_all.result (c.are_all.ensures program.tac.now.types)
