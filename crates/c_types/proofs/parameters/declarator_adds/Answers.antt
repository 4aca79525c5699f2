use Rattle.std.proofs.Common.{sym, ◌∙◌}
use Rattle.c_syntax.specs.Views.{direct_tree, suffixes_of}
use Rattle.c_types_expressions.proofs.Deriving.{adds-stars, adds-suffixes, some-there}
use Rattle.c_types.proofs.parameters.declarator_adds.Goals.{then-declarator-gt0, else-declarator-gt0}
use Rattle.c_types.proofs.parameters.declarator_adds.Goals as goal

pub returns-then-not-is_empty : goal.returns-then-not-is_empty
returns-then-not-is_empty c =
    let d = c.args.declarator.now in
    c.if-not-is_empty.true
    ∙ sym (elim c.if-declarator-gt0.branch [
      | then-declarator-gt0 w ↦ adds-stars d.stars (direct_tree d.direct) (suffixes_of d.suffixes.items) w.if-declarator-gt0.true
      | else-declarator-gt0 w ↦ adds-suffixes d.stars (direct_tree d.direct) d.suffixes.items
          (some-there d.suffixes.len _ c.if-declarator-gt0.value w.is_empty.result d.suffixes.ok.0 c.if-not-is_empty.true w.value-is w.is_empty.ensures)
    ])
