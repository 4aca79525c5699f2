use Rattle.std.proofs.Common.{◌≡◌, ◌++◌, refl, sym, subst, arith}
use Rattle.c_grammar.specs.Leaves.{leaves_of}
use Rattle.c_reader.specs.Steps.{first_bytes}
use Rattle.c_reader.specs.ExpressionSteps.{GivesLiterals}
use Rattle.c_reader.proofs.Results.{passed_on}
use Rattle.c_reader.proofs.ExprRows.{LiteralsSoFar, no_literals, one_literal, last_literal, literals_cut}
use Rattle.c_reader.proofs.operand.read_literals.Goals as goal

pub loop-bytes-init : goal.loop-bytes-init
loop-bytes-init c = record { so_far = λ room. no_literals room _ _; shorter = omega arith }

pub returns-in_err-first_kind-clause-gives : goal.returns-in_err-first_kind-clause-gives
returns-in_err-first_kind-clause-gives c room =
    passed_on c.from_residual.result _ (λ r. GivesLiterals room c.args.first.items (leaves_of c.args.tokens.now) r) c.from_residual.ensures.1 (literals_cut room _ (c.loop-bytes.invariant.so_far room) c.in_err-first_kind.ensures.none c.in_err-first_kind.ensures.misfit)

pub loop-bytes-preserved : goal.loop-bytes-preserved
loop-bytes-preserved c =
    let e : c.extend_from_slice.new.self.items ≡ c.loop-bytes.bytes.items ++ first_bytes (leaves_of c.loop-bytes.rest.now) = cc (c.in_ok-extend_from_slice-in-Literal.ensures.items, c.as_slice.ensures, c.in_ok-literal-in-Literal.ensures) in
    record {
      so_far = λ room. subst (λ items. LiteralsSoFar room (leaves_of c.args.tokens.now) (leaves_of c.in_ok-rest-in-Literal.field-0.rest.now) c.args.first.items items) (sym e) (one_literal (c.loop-bytes.invariant.so_far room) c.in_ok-first_kind.ensures.found c.in-Literal.is c.in_ok-rest-in-Literal.ensures.found refl);
      shorter = omega (arith, c.loop-bytes.invariant.shorter, c.in_ok-rest-in-Literal.ensures.shorter);
    }

pub returns-in_default : goal.returns-in_default
returns-in_default c = record { gives = λ room. last_literal (c.loop-bytes.invariant.so_far room) c.in_ok-first_kind.ensures.found c.in_default.not-Literal; shorter = c.loop-bytes.invariant.shorter }
