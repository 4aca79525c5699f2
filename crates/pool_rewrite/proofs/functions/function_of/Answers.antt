use Rattle.std.proofs.Common.{◌≡◌, List, map, ap, subst, ◌∙◌}
use Rattle.c_typed.specs.Table.{structs_in}
use Rattle.tac_ir.specs.declared.op.Op.{Op}
use Rattle.tac_ir.specs.Views.{function_in, op_in, tac_of}
use Rattle.pool_ir.specs.declared.program.Edge.{Edge}
use Rattle.pool_ir.specs.Code.{FrameLayout}
use Rattle.pool_ir.specs.Views as V
use Rattle.pool_rewrite.specs.declared.frames.Place.{Place}
use Rattle.pool_rewrite.specs.Placing.{frame_of}
use Rattle.pool_rewrite.specs.Rewriting as R
use Rattle.pool_rewrite.specs.Views.{function_plan_of}
use Rattle.pool_rewrite.specs.Places.{LiesInFrame, TellsPlaces}
use Rattle.pool_rewrite.proofs.FoundLocals.{locals_told}
use Rattle.pool_rewrite.proofs.functions.function_of.Goals as goal

pub returns : goal.returns
returns c =
    let tac = c.args.tac.now in
    let plan = function_plan_of c.args.plan.now in
    let function = c.args.function.now in
    let frame : FrameLayout = frame_of (structs_in tac.types) plan (function_in tac.types function) in
    let own = (function_in tac.types function).objects in
    let lies : LiesInFrame tac.types plan function c.in_ok-places.places = c.in_ok-places.ensures in
    let tells : TellsPlaces c.in_ok-places.places.locals.items c.in_ok-locals.locals = subst (λ (items : List Place). TellsPlaces items c.in_ok-locals.locals) c.as_slice.ensures.value c.in_ok-locals.ensures in
    let told = locals_told tac.types plan function c.in_ok-places.places c.in_ok-locals.locals lies tells in
    let entering : c.in_ok-copied_actions.field-0.items ≡ c.args.plan.now.entering.items = c.in_ok-copied_actions.ensures ∙ c.as_slice-2.ensures.value in
    let edges = c.in_ok-copied_edges.ensures ∙ ap (λ (items : List Edge). map V.edge_of items) c.as_slice-3.ensures.value in
    let leaving : c.in_ok-copied_actions-2.field-0.items ≡ c.args.plan.now.leaving.items = c.in_ok-copied_actions-2.ensures ∙ c.as_slice-4.ensures.value in
    let points = c.in_ok-points_of.ensures own frame told ∙ ap (λ (ops : List Op). map (R.op_of (tac_of tac) plan own frame) (map (op_in tac.types) ops)) c.as_slice-points.ensures.value in
    λ i. record {
      signature = c.of_type.ensures tac.functions.items c.requires.found.signatures i;
      taken = c.args.plan.now.taken;
      frame = c.in_ok-layout_of.ensures tac.types lies i;
      entering = map V.action_of (entering i);
      edges = edges i;
      leaving = map V.action_of (leaving i);
      points = points i;
    }
