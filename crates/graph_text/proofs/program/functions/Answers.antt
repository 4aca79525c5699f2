use Rattle.std.proofs.Common.{◌≡◌, List, map, IfOk, sym, subst}
use Rattle.c_syntax.specs.declared.declaration.Item.{Item}
use Rattle.c_syntax.specs.Views.{item_tree, program_tree}
use Rattle.c_rules.specs.Names.{Scope}
use Rattle.c_types.specs.Outside.{IsOutside}
use Rattle.graph_text.specs.Adding.{scope_at}
use Rattle.graph_text.specs.ProgramLabels as L
use Rattle.graph_text.proofs.ScopesWithin.{outermost-outside}
use Rattle.graph_text.proofs.program.functions.Goals as goal

pub functions-requires : goal.functions-requires
functions-requires c = subst IsOutside (sym c.in_ok-marker.ensures) (outermost-outside (program_tree c.args.program.now))

pub returns : goal.returns
returns c =
    subst (λ (scope : Scope). IfOk c.functions.result (λ functions. map L.own_in functions.items ≡ L.items_labels scope (map item_tree c.args.program.now.items.items))) c.in_ok-marker.ensures
    (subst (λ (items : List Item). IfOk c.functions.result (λ functions. map L.own_in functions.items ≡ L.items_labels (scope_at c.in_ok-marker.marker) (map item_tree items))) c.as_slice.ensures.value c.functions.ensures)
