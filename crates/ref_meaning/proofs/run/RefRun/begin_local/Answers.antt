use Rattle.ref_meaning.specs.declared.control.Node.TheVariants as N
use Rattle.ref_meaning.specs.declared.control.Stage.TheVariants as S
use Rattle.ref_meaning.specs.declared.control.Task.TheVariants as K
use Rattle.ref_meaning.proofs.Advancing.{local-becomes}
use Rattle.ref_meaning.proofs.run.RefRun.begin_local.Goals as goal

pub returns-clause-becomes : goal.returns-clause-becomes
returns-clause-becomes c = λ first others stack.
    local-becomes c.args.self.now c.enter.new.self c.push_reserved.new.self (record { node = N.Value c.args.value; task = K.Enter }) c.args.top (record { node = c.args.node; stage = c.args.stage })
    (record { node = N.Nothing; stage = S.Local c.args.place }) first others c.requires.top c.push_reserved.ensures.items stack c.enter.ensures.becomes
