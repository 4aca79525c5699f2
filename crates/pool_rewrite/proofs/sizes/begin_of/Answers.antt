use Rattle.std.proofs.Common.{◌≤◌, sym, ap, subst, ◌∙◌}
use Rattle.c_typed.specs.Types.{CType}
use Rattle.c_typed.specs.Layouts.{layout_of, aligned}
use Rattle.c_typed.specs.Table.{structs_in, type_in}
use Rattle.pool_rewrite.proofs.AlignedLayouts.{aligned_layout}
use Rattle.pool_rewrite.proofs.sizes.begin_of.Goals as goal

pub align_of-requires : goal.align_of-requires
align_of-requires c = c.number_of.ensures.stands

pub aligned-requires : goal.aligned-requires
aligned-requires c =
    let structs = structs_in c.args.types.now in
    let within = aligned_layout structs (type_in c.args.types.now c.number_of.result) in
    record {
      small = c.requires;
      least = subst (λ alignment. 1 ≤ alignment) (sym c.align_of.ensures) within.one;
      most = subst (λ alignment. alignment ≤ 8) (sym c.align_of.ensures) within.eight;
    }

pub returns : goal.returns
returns c =
    c.aligned.ensures ∙ (ap (λ alignment. aligned alignment c.args.front) c.align_of.ensures ∙ ap (λ (t : CType). aligned (layout_of (structs_in c.args.types.now) t).alignment c.args.front) c.number_of.ensures.means)
