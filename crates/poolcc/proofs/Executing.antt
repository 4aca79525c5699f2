-- From the answer of an image's run to the answer of the command.
use Rattle.std.proofs.Common.{ℕ, ◌≤◌, List, length, Option, inr}
use Rattle.image_form.specs.declared.image.MachineLimits.{MachineLimits}
use Rattle.image_form.specs.Form.{Form}
use Rattle.machine.specs.declared.ends.RunEnd.{RunEnd}
use Rattle.machine.specs.declared.ends.RunEnd.TheVariants as E
use Rattle.poolcc.specs.Compiled.{RunsImageTo, Compiles}
use Rattle.poolcc.specs.Exec.{source_limit, Executes, ExecGives}
use Rattle.poolcc.specs.Seen.{status_seen}

module _ (text : List ℕ) (limits : MachineLimits) (steps : ℕ) (left base : List ℕ) (left' written' : Option (List ℕ)) (form : Form) (compiles : Compiles text limits form) (short : length text ≤ source_limit) where
  executes : (answer : RunEnd) → RunsImageTo form left base steps answer left' written' → Executes text limits steps left base answer left' written'
  executes answer ran = record { short = short; form = form; compiles = compiles; ran = ran }

  pub exec_gives : (answer : RunEnd) → RunsImageTo form left base steps answer left' written' → ExecGives text limits steps left base (status_seen answer) left' written'
  exec_gives (E.Ended status) ran = executes (E.Ended status) ran
  exec_gives E.Depth ran = executes E.Depth ran
  exec_gives E.HeapExhausted ran = executes E.HeapExhausted ran
  exec_gives E.IndexExhausted ran = executes E.IndexExhausted ran
  exec_gives E.StepsSpent ran = executes E.StepsSpent ran
  exec_gives (E.Trapped kind) ran = executes (E.Trapped kind) ran
  exec_gives E.ReadFault ran = inr (executes E.ReadFault ran)
  exec_gives E.WriteFault ran = executes E.WriteFault ran
  exec_gives E.OutOfMemory ran = inr (executes E.OutOfMemory ran)
