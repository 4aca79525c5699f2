use Rattle.std.proofs.Common.{sym, ◌∙◌}
use Rattle.std.proofs.lemmas.Bool.{false≢true}
use Rattle.std.proofs.lemmas.List.{length-map}
use Rattle.c_typed.specs.DefinitionViews.{global_in, literal_of}
use Rattle.graph_checker.proofs.OwnTold.{statics_told, statics_pass}
use Rattle.graph_checker.proofs.owned.statics_are_own.Goals as goal

pub returns-then-are_below : goal.returns-then-are_below
returns-then-are_below c =
    let tac = c.args.tac.now in
    let graph = c.args.graph.now in
    let globals = c.len.ensures ∙ (tac.globals.ok.0 ∙ sym (length-map tac.globals.items (global_in tac.types))) in
    let literals = c.len-then-are_below.ensures ∙ (tac.literals.ok.0 ∙ sym (length-map tac.literals.items literal_of)) in
    let global_keys = c.as_slice.ensures ∙ c.keys.ensures.rest in
    let literal_keys = c.as_slice-then-are_below.ensures ∙ c.keys-then-are_below.ensures.rest in (
      λ is. record {
        globals = statics_told graph.globals _ global_keys _ _ globals (sym c.are_below.ensures ∙ c.if-are_below.true);
        literals = statics_told graph.literals _ literal_keys _ _ literals (sym c.are_below-then-are_below.ensures ∙ is);
      },
      λ told. c.are_below-then-are_below.ensures ∙ statics_pass graph.literals _ literal_keys _ _ literals told.literals,
    )

pub returns-else-are_below : goal.returns-else-are_below
returns-else-are_below c =
    let tac = c.args.tac.now in
    let graph = c.args.graph.now in
    let globals = c.len.ensures ∙ (tac.globals.ok.0 ∙ sym (length-map tac.globals.items (global_in tac.types))) in
    let global_keys = c.as_slice.ensures ∙ c.keys.ensures.rest in (
      λ is. absurd (false≢true (sym c.if-are_below.false ∙ is)),
      λ told. c.are_below.ensures ∙ statics_pass graph.globals _ global_keys _ _ globals told.globals,
    )
