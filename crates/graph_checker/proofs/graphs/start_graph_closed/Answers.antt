use Rattle.std.proofs.Common.{refl}
use Rattle.std.proofs.lemmas.Result.{IfOk-weaker}
use Rattle.tac_ir.specs.States.{InStart}
use Rattle.graph_checker.specs.Programs.{family_of}
use Rattle.graph_checker.proofs.Decided.{fails_by}
use Rattle.graph_checker.proofs.ClosedGroups.Groups.{start_shows, start_graph_closed, start_sound, start_names_sound, start_needed}
use Rattle.graph_checker.proofs.graphs.start_graph_closed.Goals as goal

pub returns-then-not-is_sound : goal.returns-then-not-is_sound
returns-then-not-is_sound c = fails_by c.is_sound.result (c.is_sound.ensures InStart (start_shows c.args.program)) (start_sound c.args.program) c.if-not-is_sound.true

pub returns-then-not-branch : goal.returns-then-not-branch
returns-then-not-branch c = fails_by c.in_ok-are_names_sound.field-0 (c.in_ok-are_names_sound.ensures c.args.program.tac.now.types) (start_names_sound c.args.program) c.if-not-branch.true

pub returns-then-not-all_complete : goal.returns-then-not-all_complete
returns-then-not-all_complete c =
    let program = c.args.program in
    fails_by c.all_complete.result (c.all_complete.ensures program.tac.now.types (family_of program).graphs.start refl) (λ closed. closed.complete) c.if-not-all_complete.true

pub returns : goal.returns
returns c =
    let program = c.args.program in
    let table = program.tac.now.types in
    IfOk-weaker c.is_start_needed.result _ _
    (λ needed is. (
      (λ t.
          start_graph_closed program ((c.is_sound.ensures InStart (start_shows program)).0 c.if-not-is_sound.false) ((c.in_ok-are_names_sound.ensures table).0 c.if-not-branch.false)
          ((c.all_complete.ensures table (family_of program).graphs.start refl).0 c.if-not-all_complete.false) (is.0 t)),
      (λ closed. is.1 (start_needed program closed)),
    ))
    c.is_start_needed.ensures
