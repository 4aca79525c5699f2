-- What a relation in memory stands for.
use Rattle.heap_graph.specs.Relations.{Relation, Inside, Around, Clashing}
use Rattle.graph_unification.specs.declared.relation.Relation as memory_relation
use Rattle.graph_unification.specs.declared.relation.Relation.TheVariants as R

abbrev pub relation_in : memory_relation.Relation → Relation
relation_in (R.Inside distance) = Inside distance
relation_in (R.Around distance) = Around distance
relation_in R.Clashing = Clashing
