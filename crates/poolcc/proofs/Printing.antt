-- From the lines that were written to the answer of `graph`, and what follows from this where nothing outside fails.
use Rattle.std.proofs.Common.{◌≡◌, ℕ, ◌≤◌, ◌⊎◌, inl, inr, List, ◌++◌, map, Option, Some, Result, Ok, Err, IfOk, length, ap, ◌∙◌, refl, subst, arith}
use Rattle.pcc_outside.specs.Outside.{Adds, AddsPart}
use Rattle.c_syntax.specs.Trees.{ProgramTree}
use Rattle.std.specs.Prelude.{Vec}
use Rattle.std.specs.declared.alloc.AllocError.{AllocError}
use Rattle.tac_ir.specs.declared.program.Tac.{Tac}
use Rattle.tac_ir.specs.Views.{tac_of}
use Rattle.call_graph.specs.GroupViews.{groups_of}
use Rattle.dsa_bottom_up.specs.declared.graphed.CodeGraphs.{CodeGraphs}
use Rattle.dsa_bottom_up.specs.CodeGraphs.Made.{graphs_in}
use Rattle.graph_text.specs.declared.function_labels.Labels.{Labels}
use Rattle.graph_text.specs.Texts.{GraphText}
use Rattle.graph_text.specs.ProgramLabels.{labels_of, labels_in}
use Rattle.pcc_words.specs.declared.status.Refusal.{Refusal}
use Rattle.pcc_words.specs.declared.status.Status.{Status}
use Rattle.pcc_words.specs.declared.status.Status.TheVariants as S
use Rattle.poolcc.specs.Compiled.{IsBuildable}
use Rattle.poolcc.specs.Complete.{AreShownUnlessMemory}
use Rattle.poolcc.specs.Exec.{source_limit}
use Rattle.poolcc.specs.Printed.{IsTextOf, IsPrinted, Prints, PrintsPart, GraphGives}
use Rattle.poolcc.specs.Refused.{IsUncompiled}
use Rattle.poolcc.proofs.Refusals.{one_refusal_of_all, not_buildable, not_graphed}

-- the lines of graphs are those of the program, if memory didn't run out
pub text_if : {A : Type 0} (program : ProgramTree) (tac : Tac) (made : CodeGraphs) (labels : Labels) → labels_in labels ≡ labels_of program (map (λ global. global.name) tac.globals.items) (length tac.literals.items)
    → (result : Result (Vec ℕ A) AllocError) → IfOk result (λ lines. GraphText tac made.groups made.graphs labels lines.items) → IfOk result (λ lines. IsTextOf program tac made lines.items)
text_if program tac made labels called (Ok lines) text = record { labels = labels; called = called; text = text }
text_if program tac made labels called (Err error) text = tt

module _ (text base bytes lines : List ℕ) (written written' : Option (List ℕ)) (short : length text ≤ source_limit) (printed : IsPrinted text lines) (same : bytes ≡ lines) (told : written ≡ Some base) where
  pub all_printed : Adds written bytes written' → Prints text base written'
  all_printed adds = record {
    short = short;
    lines = lines;
    printed = printed;
    output = subst (λ old. Adds old bytes written') told adds ∙ ap (λ those. Some (base ++ those)) same;
  }

  pub part_printed : AddsPart written bytes written' → PrintsPart text base written'
  part_printed adds = record {
    short = short;
    lines = lines;
    printed = printed;
    output = subst (λ those. AddsPart (Some base) those written') same (subst (λ old. AddsPart old bytes written') told adds);
  }

module _ (text base : List ℕ) (written' : Option (List ℕ)) (short : length text ≤ source_limit) where
  module _ (program : ProgramTree) (buildable : IsBuildable text program) where
    -- an answer of graph that is no fault is that it is done, or memory ran out
    pub shown : (status : Status) → GraphGives text base status written' → (status ≡ S.ReadFault → ⊥) → (status ≡ S.WriteFault → ⊥) → AreShownUnlessMemory text base status written'
    shown S.Done gives read write = inr (record { lines = gives.lines; printed = gives.printed; ends = refl; output = gives.output })
    shown S.OutOfMemory gives read write = inl refl
    shown S.ReadFault gives read write = absurd (read refl)
    shown S.WriteFault gives read write = absurd (write refl)
    shown (S.Refused refusal) gives read write = absurd (not_buildable text program refusal buildable gives.1)
    shown S.SourceTooLong gives read write = let long = gives.0 in absurd (omega arith)
    shown (S.Program status) gives read write = absurd gives
    shown S.Depth gives read write = absurd gives
    shown S.HeapExhausted gives read write = absurd gives
    shown S.IndexExhausted gives read write = absurd gives
    shown S.StepsSpent gives read write = absurd gives
    shown (S.Trapped kind) gives read write = absurd gives
    shown (S.Undefined kind place) gives read write = absurd gives
    shown (S.BadImage at) gives read write = absurd gives
    shown S.ImageTooLong gives read write = absurd gives
    shown (S.Usage kind) gives read write = absurd gives

  module _ (refusal : Refusal) (refused : IsUncompiled text refusal) where
    not_printed : (lines : List ℕ) → IsPrinted text lines → ⊥
    not_printed lines its = not_graphed text its.program refusal its.accepted (tac_of its.tac) (groups_of its.made.groups) (graphs_in its.tac its.made) its.has refused

    -- a text that is refused gets that answer, or memory ran out
    pub graph_refuses : (status : Status) → GraphGives text base status written' → (status ≡ S.ReadFault → ⊥) → (status ≡ S.WriteFault → ⊥) → (status ≡ S.OutOfMemory) ⊎ (status ≡ S.Refused refusal)
    graph_refuses (S.Refused other) gives read write = inr (ap S.Refused (one_refusal_of_all text other refusal gives.1 refused))
    graph_refuses S.OutOfMemory gives read write = inl refl
    graph_refuses S.ReadFault gives read write = absurd (read refl)
    graph_refuses S.WriteFault gives read write = absurd (write refl)
    graph_refuses S.SourceTooLong gives read write = let long = gives.0 in absurd (omega arith)
    graph_refuses S.Done gives read write = absurd (not_printed gives.lines gives.printed)
    graph_refuses (S.Program status) gives read write = absurd gives
    graph_refuses S.Depth gives read write = absurd gives
    graph_refuses S.HeapExhausted gives read write = absurd gives
    graph_refuses S.IndexExhausted gives read write = absurd gives
    graph_refuses S.StepsSpent gives read write = absurd gives
    graph_refuses (S.Trapped kind) gives read write = absurd gives
    graph_refuses (S.Undefined kind place) gives read write = absurd gives
    graph_refuses (S.BadImage at) gives read write = absurd gives
    graph_refuses S.ImageTooLong gives read write = absurd gives
    graph_refuses (S.Usage kind) gives read write = absurd gives
