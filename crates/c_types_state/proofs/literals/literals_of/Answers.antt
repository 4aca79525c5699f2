use Rattle.std.proofs.Common.{rules, ◌≡◌, ◌++◌, ◌∷◌, [], List, length, map, sym, ap, subst, ◌∙◌, append-nil, append_assoc}
use Rattle.std.proofs.lemmas.List.{nil_from_length, map-append}
use Rattle.c_typed.specs.declared.definition.LiteralDef as memory_literal
use Rattle.c_typed.specs.Typed.{LiteralDef}
use Rattle.c_typed.specs.DefinitionViews.{literal_of, LiteralsStand}
use Rattle.c_typed.proofs.Grown.{grows_refl, grows_trans}
use Rattle.c_types_state.specs.declared.literals.Text.{Text}
use Rattle.c_types_state.specs.Lists.{text_of}
use Rattle.c_types_state.proofs.LiteralTypes.{literals_stay, literals_more}
use Rattle.c_types_state.proofs.literals.literals_of.Goals as goal

pub loop-text-init : goal.loop-text-init
loop-text-init c =
    let rest = c.into_iter-text-iterator.result.rest.items in
    record {
      literals =
          ap (λ (literals : List memory_literal.LiteralDef). map literal_of literals ++ map text_of rest) c.new-literals.ensures.items
          ∙ ap (λ (texts : List Text). map text_of texts) c.into_iter-text-iterator.ensures.into_iter_gives.0
          ∙ c.in_ok-text-items.ensures {u = tt};
      stand = subst (LiteralsStand c.args.types.now) (sym c.new-literals.ensures.items) tt;
      grows = grows_refl c.args.types.now;
    }

pub loop-text-preserved : goal.loop-text-preserved
loop-text-preserved c =
    let made = c.in_ok-with_type.field-0 in
    let makes = c.in_ok-with_type.ensures {u = tt} in
    let had = c.loop-text.literals.items in
    let rest = c.next.new.self.rest.items in
    let more : c.push.new.self.items ≡ had ++ made ∷ [] = c.in_ok-push.ensures.items in
    record {
      literals =
          ap (λ (literals : List memory_literal.LiteralDef). map literal_of literals ++ map text_of rest) more
          ∙ ap (λ (literals : List LiteralDef). literals ++ map text_of rest) (map-append literal_of had (made ∷ []))
          ∙ append_assoc (map literal_of had) (literal_of made ∷ []) (map text_of rest)
          ∙ ap (λ (one : LiteralDef). map literal_of had ++ one ∷ map text_of rest) makes.is_text
          ∙ ap (λ (texts : List Text). map literal_of had ++ map text_of texts) (sym c.in-Some.ensures.steps.0)
          ∙ c.loop-text.invariant.literals;
      stand =
          subst (LiteralsStand c.with_type.new.types) (sym more)
          (literals_more c.with_type.new.types had made (literals_stay c.loop-text.types c.with_type.new.types makes.grows had c.loop-text.invariant.stand) makes.stands);
      grows = grows_trans c.args.types.now c.loop-text.types c.with_type.new.types c.loop-text.invariant.grows makes.grows;
    }

pub returns-clause-literals : goal.returns-clause-literals
returns-clause-literals c =
    let rest = c.loop-text.text-iterator.rest.items in
    let long : length rest ≡ 0 = search rules in
    sym (append-nil (map literal_of c.loop-text.literals.items))
    ∙ ap (λ (texts : List Text). map literal_of c.loop-text.literals.items ++ map text_of texts) (sym (nil_from_length rest long))
    ∙ c.loop-text.invariant.literals

pub returns-clause-stand : goal.returns-clause-stand
returns-clause-stand c = c.loop-text.invariant.stand

pub returns-clause-grows : goal.returns-clause-grows
returns-clause-grows c = c.loop-text.invariant.grows
