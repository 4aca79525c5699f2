use Rattle.std.proofs.Common.{refl, sym, ◌∙◌, ap, rules}
use denote.Enum.Bare.{same_true, same_false}
use Rattle.c_grammar.specs.contracts.kind.Kind.{the_type}
use Rattle.c_grammar.specs.Leaves.{leaf_of, leaves_of, kind_of}
use Rattle.c_grammar.specs.Runs.{fits_first}
use Rattle.c_reader.specs.Grammar.{grammar}
use Rattle.c_reader.proofs.KindTests.{is_other}
use Rattle.c_reader.proofs.token.pass.Goals as goal

pub returns-then-eq-clause-found : goal.returns-then-eq-clause-found
returns-then-eq-clause-found c =
    record {
      leaf = leaf_of c.in-Some.token.now;
      parts = ap leaves_of c.in-Some.ensures.cases.0;
      is_kind = sym c.kind.ensures ∙ same_true the_type (search rules) _ _ (sym c.eq.ensures ∙ c.if-eq.true);
      stands = refl;
    }

pub returns-else-eq-clause-none : goal.returns-else-eq-clause-none
returns-else-eq-clause-none c =
    ap (λ tokens. fits_first grammar c.args.kind (leaves_of tokens)) c.in-Some.ensures.cases.0
    ∙ is_other c.args.kind (kind_of (leaf_of c.in-Some.token.now)) (λ same. same_false the_type c.kind.result c.args.kind (sym c.eq.ensures ∙ c.if-eq.false) (c.kind.ensures ∙ sym same))
