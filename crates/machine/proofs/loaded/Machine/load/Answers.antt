use Rattle.std.proofs.Common.{rules, slice_get, ap, ◌∙◌}
use Rattle.image_form.specs.Form.{code_of, form_of}
use Rattle.machine.proofs.Running.{first_extra, first_state}
use Rattle.machine.proofs.loaded.Machine.load.Goals as goal

pub returns-clause-start : goal.returns-clause-start
returns-clause-start c =
    let image = c.args.image.now in
    let limits = c.args.limits in
    let extra = first_extra c.map_or-extra.result c.first.result image.functions.items (c.first.ensures.value ∙ ap (λ fs. slice_get fs 0) c.deref.ensures.value) (search rules) in
    first_state (code_of (form_of image)) limits.slabs limits.index c.map_or-extra.result c.in_ok-new.field-0 _ c.in_ok-new.ensures extra c.in_ok-new-2.ensures
