-- What a whole command does.
use Rattle.std.specs.Prelude.{◌≡◌, ℕ, ◌⊎◌, Bool, List, Option, Some}
use Rattle.pcc_outside.specs.Outside.{Told, Missing, Holds}
use Rattle.pcc_words.specs.declared.status.Status.{Status}
use Rattle.pcc_words.specs.declared.status.Status.TheVariants as S
use Rattle.pcc_words.specs.declared.status.UsageKind.TheVariants as U
use Rattle.poolcc.specs.Build.{BuildGives}
use Rattle.pcc_words.specs.Line.{Line, Limits, NoCommand, NoLine, Build, Exec, Run, Ref, Graph}
use Rattle.poolcc.specs.Command.{Names, machine_limits}
use Rattle.poolcc.specs.Exec.{ExecGives}
use Rattle.poolcc.specs.ImageRun.{ImageGives}
use Rattle.poolcc.specs.Printed.{GraphGives}
use Rattle.poolcc.specs.Ref.{RefGives}

-- What a command line comes to, before its line on the error output, by what is told of each file, of the input and of
-- the output.
pub record IsAnswer (line : Line) (contents : List ℕ → Told) (left written left' written' : Option (List ℕ)) (answer : Status) : Type 0 where
  pub no_command : line ≡ NoCommand → ((answer ≡ S.Usage U.Command) ⊎ (answer ≡ S.OutOfMemory)) × (left' ≡ left) × (written' ≡ written)
  pub no_line : line ≡ NoLine → ((answer ≡ S.Usage U.Words) ⊎ (answer ≡ S.OutOfMemory)) × (left' ≡ left) × (written' ≡ written)
  pub build : (file : List ℕ) (limits : Limits) (one_pool : Bool) (text base : List ℕ) → line ≡ Build file limits one_pool → contents file ≡ Holds text → written ≡ Some base → (left' ≡ left) × BuildGives text (machine_limits limits) base answer written'
  pub exec : (file : List ℕ) (limits : Limits) (one_pool : Bool) (steps : ℕ) (text input base : List ℕ) → line ≡ Exec file limits one_pool steps → contents file ≡ Holds text → left ≡ Some input → written ≡ Some base → ExecGives text (machine_limits limits) steps input base answer left' written'
  pub run : (file : List ℕ) (steps : ℕ) (bytes input base : List ℕ) → line ≡ Run file steps → contents file ≡ Holds bytes → left ≡ Some input → written ≡ Some base → ImageGives bytes steps input base answer left' written'
  pub ref : (file : List ℕ) (steps : ℕ) (text input base : List ℕ) → line ≡ Ref file steps → contents file ≡ Holds text → left ≡ Some input → written ≡ Some base → RefGives text steps input base answer left' written'
  pub graph : (file text base : List ℕ) → line ≡ Graph file → contents file ≡ Holds text → written ≡ Some base → (left' ≡ left) × GraphGives text base answer written'
  pub missing : (file : List ℕ) → Names line file → contents file ≡ Missing → ((answer ≡ S.ReadFault) ⊎ (answer ≡ S.OutOfMemory)) × (left' ≡ left) × (written' ≡ written)
