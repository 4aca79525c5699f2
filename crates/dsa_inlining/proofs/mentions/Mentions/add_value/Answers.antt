use Rattle.std.proofs.Common.{[], ◌∷◌, length, ◌||◌, sym, ap, subst, ◌∙◌}
use Rattle.std.specs.Prelude.{◌==◌}
use Rattle.c_typed.specs.declared.definition.First as memory_first
use Rattle.c_typed.specs.DefinitionViews.{held_of, scalar_of, first_of, characters_held}
use Rattle.tac_ir.specs.Code.{AtGlobal}
use Rattle.tac_ir.specs.Views.{tac_of}
use Rattle.dsa_inlining.specs.Counting.{points_at}
use Rattle.dsa_inlining.specs.Tallies.{Adds, begins}
use Rattle.dsa_inlining.specs.FirstValues.{values_mention}
use Rattle.dsa_inlining.proofs.GroupCounts.Adding.{adds_both, adds_same}
use Rattle.dsa_inlining.proofs.Firsts.{one_value, text_mentions}
use Rattle.dsa_inlining.proofs.mentions.Mentions.add_value.Goals as goal

pub returns-in-Scalar : goal.returns-in-Scalar
returns-in-Scalar c = λ tac numbers.
    let own = c.args.own.0 in
    let held = c.in-Scalar.held in
    let old = c.args.self.now in
    let mid = c.add_global.new.self in
    let new = c.add_scalar.new.self in
    subst (λ (first : memory_first.First). Adds (values_mention (tac_of tac) own (first_of first)) old new) (sym c.in-Scalar.is)
    (adds_same (λ name. begins name (AtGlobal own) || points_at (tac_of tac) (begins name) (scalar_of held.value)) (values_mention (tac_of tac) own (held_of held ∷ [])) old new
    (one_value (tac_of tac) own (held_of held))
    (adds_both (λ name. begins name (AtGlobal own)) (λ name. points_at (tac_of tac) (begins name) (scalar_of held.value)) old mid new c.add_global.ensures (c.add_scalar.ensures tac numbers)))

pub returns-then-not-is_empty : goal.returns-then-not-is_empty
returns-then-not-is_empty c = λ tac numbers.
    let own = c.args.own.0 in
    let old = c.args.self.now in
    let new = c.add_global-then-not-is_empty.new.self in
    let bytes = c.in-Text.bytes in
    subst (λ (first : memory_first.First). Adds (values_mention (tac_of tac) own (first_of first)) old new) (sym c.in-Text.is)
    (adds_same (λ name. begins name (AtGlobal own)) (values_mention (tac_of tac) own (characters_held c.in-Text.parts.items c.in-Text.int_type 0 bytes)) old new
    (text_mentions (tac_of tac) own c.in-Text.parts.items c.in-Text.int_type bytes
    (ap (λ l. length l == 0) (sym c.as_slice.ensures) ∙ (sym c.is_empty.ensures ∙ c.if-not-is_empty.true)))
    c.add_global-then-not-is_empty.ensures)
