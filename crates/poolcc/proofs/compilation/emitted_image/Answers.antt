use Rattle.std.proofs.Common.{◌≡◌, IfOk, ap, ◌∙◌, subst, sym}
use Rattle.tac_ir.specs.Views.{tac_of}
use Rattle.pool_ir.specs.Views.{code_of}
use Rattle.pool_isa.specs.Machine as M
use Rattle.pool_rewrite.specs.Plan.{Plan}
use Rattle.pool_rewrite.specs.Rewriting.{rewritten}
use Rattle.pool_rewrite.specs.Views.{plan_of}
use Rattle.backend_correct.proofs.Rewritable.{one_pool_rewritable}
use Rattle.stack_code.specs.Emitting.{emitted}
use Rattle.pool_linker.specs.Linking.{linked}
use Rattle.stack_code.specs.Units.{units_code}
use Rattle.image_form.specs.declared.image.Image.{Image}
use Rattle.image_form.specs.Form.{form_of}
use Rattle.poolcc.proofs.Pipeline.{IsLinkable, emitted_linkable, made_fits, image_if}
use Rattle.poolcc.proofs.compilation.emitted_image.Goals as goal
use Rattle.poolcc.proofs.compilation.emitted_image.Goals.{In_ok-units}

pub rewrite-requires : goal.rewrite-requires
rewrite-requires c =
    let lowered = c.requires.lowered in
    let known = lowered.compilable in
    one_pool_rewritable lowered.program c.args.tac.now known.named c.in_ok-plan.plan lowered.code known.well_typed known.storable known.within
    known.small lowered.literals c.in_ok-plan.ensures

pub emit-requires : goal.emit-requires
emit-requires c =
    record {
      fits =
          made_fits c.requires.lowered.program (tac_of c.args.tac.now) c.requires.lowered.compilable c.requires.lowered.code (plan_of c.in_ok-plan.plan) c.in_ok-plan.ensures
          (code_of c.in_ok-code.code) c.in_ok-code.ensures;
    }

-- the units can be linked
linkable : (c : In_ok-units) → IsLinkable (units_code c.in_ok-units.units)
linkable c =
    subst IsLinkable (sym c.in_ok-units.ensures.code)
    (emitted_linkable (code_of c.in_ok-code.code)
    (made_fits c.requires.lowered.program (tac_of c.args.tac.now) c.requires.lowered.compilable c.requires.lowered.code (plan_of c.in_ok-plan.plan) c.in_ok-plan.ensures
    (code_of c.in_ok-code.code) c.in_ok-code.ensures))

pub link-requires-clause-functions : goal.link-requires-clause-functions
link-requires-clause-functions c = (linkable c).functions

pub link-requires-clause-count : goal.link-requires-clause-count
link-requires-clause-count c = (linkable c).count

pub link-requires-clause-globals : goal.link-requires-clause-globals
link-requires-clause-globals c = (linkable c).globals

pub link-requires-clause-contents : goal.link-requires-clause-contents
link-requires-clause-contents c = (linkable c).contents

pub link-requires-clause-bytes : goal.link-requires-clause-bytes
link-requires-clause-bytes c = (linkable c).bytes

pub returns : goal.returns
returns c = λ lowered.
    let tac = tac_of c.args.tac.now in
    let made : code_of c.in_ok-code.code ≡ rewritten (plan_of c.in_ok-plan.plan) tac = c.in_ok-code.ensures in
    let same = c.in_ok-units.ensures.code ∙ ap emitted (made ∙ ap (λ (own : Plan). rewritten own tac) c.in_ok-plan.ensures) in
    image_if lowered.program tac lowered.compilable lowered.code c.args.limits c.link.result
    (subst (λ (code : M.Code). IfOk c.link.result (λ (image : Image). form_of image ≡ linked code c.args.limits)) same c.link.ensures.holds) c.link.ensures.ranges
