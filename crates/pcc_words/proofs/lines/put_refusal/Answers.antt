use Rattle.std.proofs.Common.{append_assoc}
use Rattle.pcc_words.proofs.lines.put_refusal.Goals as goal

pub returns-in-Lex-clause-puts : goal.returns-in-Lex-clause-puts
returns-in-Lex-clause-puts g c = rw c.in-Lex.is (rw c.name.ensures at c.put_at_place.ensures.puts)

pub returns-in-Syntax-clause-puts : goal.returns-in-Syntax-clause-puts
returns-in-Syntax-clause-puts g c = rw c.in-Syntax.is (rw c.name-in-Syntax.ensures at c.put_at_place-in-Syntax.ensures.puts)

pub returns-in-TypeRule-clause-puts : goal.returns-in-TypeRule-clause-puts
returns-in-TypeRule-clause-puts g c = rw c.in-TypeRule.is (rw c.name-in-TypeRule.ensures at c.put_at_place-in-TypeRule.ensures.puts)

pub returns-in-Limit-clause-puts : goal.returns-in-Limit-clause-puts
returns-in-Limit-clause-puts g c = rw c.in-Limit.is (simp append_assoc (rw (c.name-in-Limit.ensures, c.format-count.ensures.text) at c.put_line.ensures.puts))

pub returns-in-Graph-clause-puts : goal.returns-in-Graph-clause-puts
returns-in-Graph-clause-puts g c = rw c.in-Graph.is c.put_number.ensures.puts

pub returns-in-Pools-clause-puts : goal.returns-in-Pools-clause-puts
returns-in-Pools-clause-puts g c = rw c.in-Pools.is (simp append_assoc (rw c.as_slice.ensures at c.put_pools.ensures.puts))
