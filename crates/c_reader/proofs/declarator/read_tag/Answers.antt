use Rattle.std.proofs.Common.{false}
use Rattle.c_grammar.specs.Leaves.{leaves_of}
use Rattle.c_reader.specs.Steps.{GivesTag}
use Rattle.c_reader.proofs.Results.{passed_on}
use Rattle.c_reader.proofs.WordRows.{no_tag, no_name, tag_cut, tag_read}
use Rattle.c_reader.proofs.declarator.read_tag.Goals as goal

pub returns-in_err-word-clause-gives : goal.returns-in_err-word-clause-gives
returns-in_err-word-clause-gives c room =
    passed_on c.from_residual.result _ (λ r. GivesTag room (leaves_of c.args.tokens.now) r) c.from_residual.ensures.1 (no_tag false _ room _ c.requires c.in_err-word.ensures.none c.in_err-word.ensures.misfit)

pub returns-in_err-name-clause-gives : goal.returns-in_err-name-clause-gives
returns-in_err-name-clause-gives c room =
    passed_on c.from_residual-in_err-name.result _ (λ r. GivesTag room (leaves_of c.args.tokens.now) r) c.from_residual-in_err-name.ensures.1 (no_name room _ c.in_ok-word.ensures.found c.in_err-name.ensures.gives)

pub returns-in_err-first_kind-clause-gives : goal.returns-in_err-first_kind-clause-gives
returns-in_err-first_kind-clause-gives c room =
    passed_on c.from_residual-in_err-first_kind.result _ (λ r. GivesTag room (leaves_of c.args.tokens.now) r) c.from_residual-in_err-first_kind.ensures.1 (tag_cut room _ c.in_ok-word.ensures.found c.in_ok-name.ensures.gives (c.pass_words.ensures.passes false room) c.in_err-first_kind.ensures.none c.in_err-first_kind.ensures.misfit)

pub returns-clause-gives : goal.returns-clause-gives
returns-clause-gives c room =
    tag_read room c.in_ok-word.ensures.found c.in_ok-name.ensures.gives (c.pass_words.ensures.passes false room) c.pass_words.ensures.ends c.in_ok-first_kind.ensures.found
