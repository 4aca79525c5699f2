use Rattle.std.proofs.Common.{ap, ◌∙◌, map}
use Rattle.std.specs.List.{list_any}
use Rattle.c_typed.specs.Table.{type_in}
use Rattle.tac_ir.specs.Views.{op_in}
use Rattle.heap_graph.specs.Points.{makes_null}
use Rattle.heap_graph.specs.Scopes.{type_among}
use Rattle.heap_graph.proofs.Collecting.{marked_alone, type_told}
use Rattle.heap_graph.proofs.scopes.scope_of.Goals as goal

pub returns-clause-describes : goal.returns-clause-describes
returns-clause-describes c = λ table. record {
  nulls = λ register. marked_alone _ _ _ (c.no_marks-nulls.ensures register) (c.in_ok-mark_nulls.ensures table register)
      ∙ ap (λ points. list_any (makes_null register) (map (op_in table) points)) c.as_slice.ensures.value;
  types = λ local. ap (type_in table) (c.in_ok-locals.ensures local)
      ∙ (ap (λ objects. type_in table (type_among objects local)) c.as_slice-2.ensures.value ∙ type_told table c.args.function.now.objects.items local);
}
