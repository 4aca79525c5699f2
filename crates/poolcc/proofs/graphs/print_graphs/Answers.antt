use Rattle.poolcc.proofs.Printing.{all_printed, part_printed}
use Rattle.poolcc.proofs.graphs.print_graphs.Goals as goal

pub returns-in-Ok-write_all-clause-gives : goal.returns-in-Ok-write_all-clause-gives
returns-in-Ok-write_all-clause-gives g c = λ base w.
    all_printed c.args.text.now base c.deref.result.now c.in-Ok.lines.items (g.O.Sink.written c.args.out.now) (g.O.Sink.written c.write_all.new.sink) c.requires c.in-Ok.ensures.printed c.deref.ensures.value w c.in-Ok-write_all.ensures.all

pub returns-clause-gives : goal.returns-clause-gives
returns-clause-gives g c = λ base w.
    part_printed c.args.text.now base c.deref.result.now c.in-Ok.lines.items (g.O.Sink.written c.args.out.now) (g.O.Sink.written c.write_all.new.sink) c.requires c.in-Ok.ensures.printed c.deref.ensures.value w c.in-Err.ensures.part
