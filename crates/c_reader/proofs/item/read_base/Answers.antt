use Rattle.std.proofs.lemmas.Result.{err_from_is_err_and}
use Rattle.c_syntax.specs.Views as views
use Rattle.c_reader.proofs.ItemRows as steps
use Rattle.c_reader.proofs.WordRows as words
use Rattle.std.proofs.Common.{true, ◌≤◌, length}
use Rattle.std.specs.Prelude.{IfOk}
use Rattle.c_reader.proofs.Results.{passed_on}
use Rattle.c_reader.proofs.item.read_base.Goals as goal

pub returns-in_err-first_kind-in_default : goal.returns-in_err-first_kind-in_default
returns-in_err-first_kind-in_default c =
    let p = err_from_is_err_and c.from_residual.result c.from_residual.ensures.1 in
    record {
      gives = rw (p.1, p.2) (words.words_cut c.args.room _ (c.pass_words-words.ensures.passes true c.args.room) c.in_err-first_kind-in_default.ensures.none c.in_err-first_kind-in_default.ensures.misfit);
      not_longer = passed_on c.from_residual.result _ (λ r. IfOk r (λ part. length part.rest.now ≤ length c.args.tokens.now)) c.from_residual.ensures.1 tt;
    }

pub returns-in-NoWord-clause-gives : goal.returns-in-NoWord-clause-gives
returns-in-NoWord-clause-gives c =
    steps.words_before c.args.place views.base_tree _ (c.pass_words-words.ensures.passes true c.args.room) c.in-NoWord.is c.read_struct_base.ensures.gives

pub returns-in_ok-first_kind-in_default : goal.returns-in_ok-first_kind-in_default
returns-in_ok-first_kind-in_default c =
    record {
      gives = rw c.words_type.ensures (steps.words_all c.args.place (c.pass_words-words.ensures.passes true c.args.room) c.pass_words-words.ensures.ends c.in_ok-first_kind-in_default.ensures.found c.in_default.not-NoWord);
      not_longer = c.pass_words-words.ensures.shorter;
    }
