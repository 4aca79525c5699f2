use Rattle.std.proofs.Common.{Some}
use Rattle.ref_meaning.specs.Views.{table_of}
use Rattle.ref_meaning.proofs.Moves.{becomes-then}
use Rattle.ref_meaning.proofs.run.RefRun.next_argument.Goals as goal

pub returns-in-Some-clause-goes : goal.returns-in-Some-clause-goes
returns-in-Some-clause-goes c = λ first others is. record {
  next = Some c.in-Some.next;
  is = c.in-Some.ensures.is (table_of c.args.self.now);
  stands = c.in-Some.ensures.stands (table_of c.args.self.now) c.requires.node;
  goes = becomes-then c.args.self.now c.at_stage.new.self c.enter.new.self _ _ _ (c.at_stage.ensures first others is) c.enter.ensures.becomes;
}
