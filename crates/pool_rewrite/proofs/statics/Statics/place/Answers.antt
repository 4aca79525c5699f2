use Rattle.std.proofs.Common.{◌≤◌, ◌+◌, [], ◌∷◌, ◌++◌, refl, ap, ◌∙◌, arith}
use Rattle.c_typed.specs.Layouts.{greatest}
use Rattle.c_typed.specs.Table.{structs_in, type_in}
use Rattle.pool_rewrite.specs.Placing.{begins}
use Rattle.pool_rewrite.specs.Rewritable.{layout_in_table}
use Rattle.pool_rewrite.proofs.AlignedLayouts.{aligned_layout, aligned_above}
use Rattle.pool_rewrite.proofs.statics.Statics.place.Goals as goal

pub begin_of-begin-requires : goal.begin_of-begin-requires
begin_of-begin-requires c =
    let table = c.args.types.now in
    let layout = layout_in_table table c.args.c_type in
    let front = c.args.self.now.size in
    let above : front ≤ begins front layout = aligned_above layout.alignment front (aligned_layout (structs_in table) (type_in table c.args.c_type)).one in
    let within : begins front layout + layout.size ≤ greatest = c.requires in
    omega (arith, above, within)

pub returns : goal.returns
returns c =
    let front = c.args.self.now.size in
    record {
      begins = c.in_ok-push.ensures.items ∙ ap (λ begin. c.args.self.now.begins.items ++ begin ∷ []) c.begin_of-begin.ensures;
      globals = refl;
      size = λ i. c.begin_of-begin.ensures i + c.size_of.ensures i;
    }
