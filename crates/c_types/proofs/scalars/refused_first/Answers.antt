use Rattle.std.proofs.Common.{◌++◌, refl, ap}
use Rattle.run_theory.specs.declared.place.Pos.{Pos}
use Rattle.c_syntax.specs.Views.{expr_tree}
use Rattle.c_rules.specs.Known.{at}
use Rattle.c_types_state.specs.NameTables.{scope_of}
use Rattle.c_rules.specs.Initializers as rules
use Rattle.c_types.proofs.Covering.{covers-same}
use Rattle.c_types.proofs.Firsts.{covers-refused}
use Rattle.c_types.proofs.KeptValues.{adds-noted}
use Rattle.c_types.proofs.scalars.refused_first.Goals as goal

pub returns-clause-found : goal.returns-clause-found
returns-clause-found c =
    let scope = scope_of c.args.pass.now.checker in
    let tree = expr_tree c.args.tree.now in
    covers-same (ap (λ (p : Pos). rules.value_found scope tree ++ at c.args.kind p) c.place_of-place.ensures) refl refl
    (covers-refused c.args.kind c.place_of-place.result c.in_ok-keep_value.ensures.found c.note.ensures refl)

pub returns-clause-values : goal.returns-clause-values
returns-clause-values c = adds-noted c.keep_value.new.pass.checker c.note.new.self _ c.note.ensures c.in_ok-keep_value.ensures.values
