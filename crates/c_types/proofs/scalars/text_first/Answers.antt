use Rattle.std.proofs.Common.{[], length, nat_le, if◌then◌else◌, refl, sym, ap, subst, ◌∙◌}
use Rattle.c_typed.specs.declared.part.Part.TheVariants as Parts
use Rattle.c_typed.specs.Table.{type_in}
use Rattle.c_typed.specs.DefinitionViews.{characters_held}
use Rattle.c_rules.specs.declared.rule.TypeRule.TheVariants as R
use Rattle.c_rules.specs.Elaborated as elaborated
use Rattle.c_types_state.specs.NameTables.{State}
use Rattle.c_types.specs.FirstValues.{HoldsFirst}
use Rattle.c_types.proofs.Firsts.{unless-met, holds-one}
use Rattle.c_types.proofs.scalars.text_first.Goals as goal

pub returns-clause-held : goal.returns-clause-held
returns-clause-held c =
    let s = c.args.pass.now in
    let bytes = c.args.bytes.now in
    let n = c.args.length in
    let met = sym c.require.ensures.result ∙ c.if-not-require.false in
    let here = unless-met s.checker c.require.new.self R.T18 c.args.place _ met c.require.ensures.noted in
    let int_type = c.character_type.ensures ∙ ap (λ (u : State). elaborated.character_type (type_in u.table c.args.element)) here in
    let steps = c.in_ok-push.ensures.items ∙ (λ i. elaborated.within (c.in_ok-parts.ensures i) (Parts.Elements c.args.index)) in
    let stored = c.in_ok-bytes_held.ensures ∙ ap (λ bs. elaborated.bytes_held n bs) c.as_slice-bytes.ensures in
    let held = characters_held (elaborated.within c.args.target.now.parts.items (Parts.Elements c.args.index)) (elaborated.character_type (type_in s.checker.table c.args.element)) 0 (elaborated.bytes_held n bytes) in
    subst (λ b. HoldsFirst (if b then held else []) c.args.target.now (record c.args.target.now { first = c.push-2.new.self })) (sym met ∙ ap (λ bs. nat_le (length bs) n) c.as_slice-bytes.ensures)
    (holds-one _ refl c.in_ok-push-2.ensures.items (λ i. characters_held (steps i) (int_type i) 0 (stored i)))
