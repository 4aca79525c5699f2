-- What `graph` answers.
use Rattle.std.specs.Prelude.{◌≡◌, ℕ, ◌<◌, ◌≤◌, List, ◌++◌, map, length, Option, Some}
use Rattle.pcc_outside.specs.Outside.{AddsPart}
use Rattle.pcc_words.specs.declared.status.Status.{Status}
use Rattle.pcc_words.specs.declared.status.Status.TheVariants as S
use Rattle.c_syntax.specs.Trees.{ProgramTree}
use Rattle.c_rules.specs.Elaborated.{typed_of}
use Rattle.tac_ir.specs.declared.program.Tac.{Tac}
use Rattle.tac_ir.specs.Views.{tac_of}
use Rattle.call_graph.specs.GroupViews.{groups_of}
use Rattle.dsa_bottom_up.specs.declared.graphed.CodeGraphs.{CodeGraphs}
use Rattle.dsa_bottom_up.specs.Graphed.{HasGraphs}
use Rattle.dsa_bottom_up.specs.CodeGraphs.Made.{graphs_in}
use Rattle.graph_text.specs.declared.function_labels.Labels.{Labels}
use Rattle.graph_text.specs.Texts.{GraphText}
use Rattle.graph_text.specs.ProgramLabels.{labels_of, labels_in}
use Rattle.poolcc.specs.Compiled.{IsAccepted, initial_values}
use Rattle.poolcc.specs.Exec.{source_limit}
use Rattle.poolcc.specs.Refused.{IsUncompiled}

-- The lines are those of the graphs, in which functions, their parameters and locals, calls, arguments, variables and literals are called as in
-- the program.
pub record IsTextOf (program : ProgramTree) (tac : Tac) (made : CodeGraphs) (lines : List ℕ) : Type 0 where
  pub labels : Labels
  pub called : labels_in labels ≡ labels_of program (map (λ global. global.name) tac.globals.items) (length tac.literals.items)
  pub text : GraphText tac made.groups made.graphs labels lines

-- The text is accepted, and the lines are those of the graphs of its code.
pub record IsPrinted (text lines : List ℕ) : Type 0 where
  pub program : ProgramTree
  pub accepted : IsAccepted text program
  pub tac : Tac
  pub made : CodeGraphs
  pub has : HasGraphs (typed_of program) (initial_values program) (tac_of tac) (groups_of made.groups) (graphs_in tac made)
  pub is : IsTextOf program tac made lines

-- The text is within the limit, and all lines of its graphs were written behind the base.
pub record Prints (text base : List ℕ) (written' : Option (List ℕ)) : Type 0 where
  pub short : length text ≤ source_limit
  pub lines : List ℕ
  pub printed : IsPrinted text lines
  pub output : written' ≡ Some (base ++ lines)

-- The same, but the writing broke off: a front of those lines was written, and not all of them.
pub record PrintsPart (text base : List ℕ) (written' : Option (List ℕ)) : Type 0 where
  pub short : length text ≤ source_limit
  pub lines : List ℕ
  pub printed : IsPrinted text lines
  pub output : AddsPart (Some base) lines written'

-- What graph answers for a file's text, before its line on the error output: that the lines of its graphs are written; a refusal of the text;
-- that it is too long; or a fault or want of memory. It reads nothing of the input.
abbrev pub GraphGives : List ℕ → List ℕ → Status → Option (List ℕ) → Type 0
GraphGives text base S.Done written' = Prints text base written'
GraphGives text base S.WriteFault written' = PrintsPart text base written'
GraphGives text base (S.Refused refusal) written' = (length text ≤ source_limit) × IsUncompiled text refusal × (written' ≡ Some base)
GraphGives text base S.SourceTooLong written' = (source_limit < length text) × (written' ≡ Some base)
GraphGives text base S.ReadFault written' = written' ≡ Some base
GraphGives text base S.OutOfMemory written' = written' ≡ Some base
GraphGives text base (S.Program status) written' = ⊥
GraphGives text base S.Depth written' = ⊥
GraphGives text base S.HeapExhausted written' = ⊥
GraphGives text base S.IndexExhausted written' = ⊥
GraphGives text base S.StepsSpent written' = ⊥
GraphGives text base (S.Trapped kind) written' = ⊥
GraphGives text base (S.Undefined kind place) written' = ⊥
GraphGives text base (S.BadImage at) written' = ⊥
GraphGives text base S.ImageTooLong written' = ⊥
GraphGives text base (S.Usage kind) written' = ⊥
