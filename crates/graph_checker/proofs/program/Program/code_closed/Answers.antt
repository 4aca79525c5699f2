use Rattle.std.proofs.Common.{◌≡◌, true, List, map, sym, ap, subst, ◌∙◌}
use Rattle.std.proofs.lemmas.Result.{IfOk-weaker}
use Rattle.c_typed.specs.Table.{structs_in, type_in}
use Rattle.tac_ir.specs.declared.program.LocalObject.{LocalObject}
use Rattle.tac_ir.specs.States.{function_of}
use Rattle.tac_ir.specs.Views.{tac_of, op_in, object_in, function_in}
use Rattle.heap_graph.specs.Closed.{locals_closed}
use Rattle.heap_graph.specs.Shows.{ShowsGraph, ShowsNames}
use Rattle.heap_graph.specs.Known.{owner_at}
use Rattle.graph_checker.specs.Objects.{ObjectsHaveSlots}
use Rattle.heap_graph.specs.Plain.{plain_closed}
use Rattle.graph_checker.specs.Programs.{family_of}
use Rattle.heap_graph.specs.Asked.{AllAsked}
use Rattle.graph_checker.proofs.CodeJudged.{context_is, calls_judged}
use Rattle.graph_checker.proofs.program.Program.code_closed.Goals as goal

pub locals_closed-requires-clause-some : goal.locals_closed-requires-clause-some
locals_closed-requires-clause-some c =
    let table = c.args.self.tac.now.types in
    subst (λ (l : List LocalObject). ObjectsHaveSlots (structs_in table) (map (λ (object : LocalObject). type_in table object.c_type) l)) (sym c.as_slice-objects.ensures.value) c.requires.objects

pub points_closed-requires : goal.points_closed-requires
points_closed-requires c =
    let program = c.args.self in
    let fit = c.requires.program in
    record {
      context = context_is _ c.args.code.now (c.in_ok-scope.ensures.describes program.tac.now.types)
          (ap (λ o. function_of (tac_of program.tac.now) (owner_at o)) c.in_ok-scope.ensures.owner ∙ c.requires.code) fit.literals fit.made fit.filled;
    }

pub returns : goal.returns
returns c =
    let program = c.args.self in
    let table = program.tac.now.types in
    let family = family_of program in
    let owner = owner_at c.args.owner in
    let function = function_in table c.args.code.now in
    let same : owner_at c.in_ok-scope.scope.owner ≡ owner = ap owner_at c.in_ok-scope.ensures.owner in
    IfOk-weaker c.calls_asked.result _ _
    (λ asked judged. λ member.
    calls_judged family owner function c.locals_closed.result c.points_closed.result
    (c.locals_closed.ensures family owner member.graph member.names ∙ ap (λ l. locals_closed family owner (map (object_in table) l)) c.as_slice-objects.ensures.value)
    c.if-not-locals_closed.false
    (c.points_closed.ensures family (subst (λ o. ShowsGraph table family o c.args.own.graph.now) (sym same) member.graph) (subst (λ o. ShowsNames family o c.args.own.names.now) (sym same) member.names)
    ∙ (λ i. plain_closed (tac_of program.tac.now) family (same i) (map (op_in table) (c.as_slice.ensures.value i))))
    c.if-not-points_closed.false asked
    (subst (λ l. (asked ≡ true → AllAsked family owner (map (op_in table) l)) × (AllAsked family owner (map (op_in table) l) → asked ≡ true)) c.as_slice-2.ensures.value (judged owner member)))
    c.calls_asked.ensures
