use Rattle.std.proofs.Common.{sym, ap, ◌∙◌}
use Rattle.c_syntax.specs.Trees as Trees
use Rattle.c_syntax.specs.Views.{expr_tree, init_tree, inits_of}
use Rattle.c_syntax.proofs.SyntaxRows.{init_tree-list}
use Rattle.c_typed.specs.Types.{Void}
use Rattle.c_rules.specs.Initializers as rules
use Rattle.c_types.proofs.LiteralFirsts.{literal-listed}
use Rattle.c_types.proofs.initializers.literal_alone.Goals as goal

pub returns-in-Some : goal.returns-in-Some
returns-in-Some c =
    let place = c.in-List.place in
    c.literal_of-in-Some.ensures ∙ sym (literal-listed place (expr_tree c.in-Some.tree.now))
    ∙ ap (λ inits. rules.literal_alone (Trees.InitList place inits)) (sym c.in-Some.ensures.some ∙ ap inits_of c.deref.ensures.value)
    ∙ ap rules.literal_alone (sym (ap init_tree c.in-List.is ∙ init_tree-list place c.in-List.inits))

pub returns-in-None : goal.returns-in-None
returns-in-None c =
    let place = c.in-List.place in
    sym (ap rules.literal_alone (ap init_tree c.in-List.is ∙ init_tree-list place c.in-List.inits)
    ∙ ap (λ inits. rules.literal_alone (Trees.InitList place inits)) (ap inits_of (sym c.deref.ensures.value))
    ∙ (c.in-None.ensures.none place Void).0)
