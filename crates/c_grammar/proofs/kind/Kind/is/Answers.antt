use Rattle.std.proofs.Common.{◌≡◌, ◌∙◌, ap, refl, eqb}
use denote.Enum.Declared.{tag_of}
use Rattle.c_grammar.specs.contracts.kind.Kind.{the_type}
use Rattle.c_grammar.specs.declared.kind.Kind.{Kind}
use Rattle.c_grammar.specs.declared.kind.Kind.TheVariants.{Name}
use Rattle.c_grammar.specs.Kinds.{number}
use Rattle.c_grammar.proofs.kind.Kind.is.Goals as goal

-- The tag of each kind is its number.
tagged : (kind : Kind) → tag_of the_type kind ≡ number kind
tagged Name = refl
tagged _ = refl

pub returns : goal.returns
returns c =
    c.eq.ensures ∙ ap (λ n. eqb n (tag_of the_type c.args.kind)) (tagged c.args.self) ∙ ap (eqb (number c.args.self)) (tagged c.args.kind)
