use Rattle.pcc_words.proofs.lines.put_answer.Goals as goal

pub returns-in-Trapped-clause-puts : goal.returns-in-Trapped-clause-puts
returns-in-Trapped-clause-puts g c = rw c.in-Trapped.is (rw c.name.ensures at c.put_line-in-Trapped.ensures.puts)

pub returns-in-Undefined-clause-puts : goal.returns-in-Undefined-clause-puts
returns-in-Undefined-clause-puts g c = rw c.in-Undefined.is (rw c.name-in-Undefined.ensures at c.put_at_place.ensures.puts)

pub returns-in-BadImage-clause-puts : goal.returns-in-BadImage-clause-puts
returns-in-BadImage-clause-puts g c = rw c.in-BadImage.is c.put_number.ensures.puts
