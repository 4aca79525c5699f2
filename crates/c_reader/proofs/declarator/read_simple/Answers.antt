use Rattle.std.proofs.Common.{false}
use Rattle.c_grammar.specs.Runs.{Whole}
use Rattle.c_grammar.specs.declared.words.Words.TheVariants.{NoWord}
use Rattle.c_grammar.specs.Forms as forms
use Rattle.c_grammar.specs.Leaves.{leaves_of}
use Rattle.c_syntax.specs.Views.{words_tree}
use Rattle.c_reader.specs.Shapes.{words_of}
use Rattle.c_reader.specs.Readings.{IsReading}
use Rattle.c_reader.proofs.Results.{passed_on}
use Rattle.c_reader.proofs.WordRows.{words_end, words_cut, before_tag, before_tag_fault, moved}
use Rattle.c_reader.proofs.declarator.read_simple.Goals as goal

pub returns-in_err-tag-in-NoWord-clause-gives : goal.returns-in_err-tag-in-NoWord-clause-gives
returns-in_err-tag-in-NoWord-clause-gives c =
    passed_on c.from_residual.result _ (λ r. IsReading (Whole (forms.Base false NoWord) 0) c.args.room (leaves_of c.args.tokens.now) words_of words_tree r) c.from_residual.ensures.1 (before_tag_fault c.args.room _ (c.pass_words-words.ensures.passes false c.args.room) c.in-NoWord.is (c.in_err-tag-in-NoWord.ensures.gives c.args.room))

pub returns-in_ok-tag-in-NoWord-clause-gives : goal.returns-in_ok-tag-in-NoWord-clause-gives
returns-in_ok-tag-in-NoWord-clause-gives c =
    rw c.first_place-place.ensures (before_tag (c.pass_words-words.ensures.passes false c.args.room) c.in-NoWord.is (c.in_ok-tag-in-NoWord.ensures.gives c.args.room))

pub returns-in_err-first_kind-in_default-clause-gives : goal.returns-in_err-first_kind-in_default-clause-gives
returns-in_err-first_kind-in_default-clause-gives c =
    passed_on c.from_residual-in_err-first_kind-in_default.result _ (λ r. IsReading (Whole (forms.Base false NoWord) 0) c.args.room (leaves_of c.args.tokens.now) words_of words_tree r) c.from_residual-in_err-first_kind-in_default.ensures.1 (words_cut c.args.room _ (c.pass_words-words.ensures.passes false c.args.room) c.in_err-first_kind-in_default.ensures.none c.in_err-first_kind-in_default.ensures.misfit)

pub returns-in_ok-first_kind-in_default : goal.returns-in_ok-first_kind-in_default
returns-in_ok-first_kind-in_default c =
    record {
      gives = rw (c.first_place-place.ensures, c.words_type.ensures) (words_end (c.pass_words-words.ensures.passes false c.args.room) c.pass_words-words.ensures.ends c.in_ok-first_kind-in_default.ensures.found c.in_default.not-NoWord);
      shorter = moved c.pass_words-words.ensures.passed c.in_default.not-NoWord;
    }
