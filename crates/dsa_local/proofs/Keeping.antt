-- What is told of the graph of a group is told where it goes on.
use Rattle.std.proofs.Common.{◌≡◌, ℕ, Bool, true, false, List, Option, Some, None, refl, sym, ap, ◌∙◌}
use Rattle.std.proofs.lemmas.Bool.{false≢true}
use Rattle.tac_ir.specs.Code.{Tac}
use Rattle.tac_ir.specs.States.{Owner, InFunction}
use Rattle.heap_graph.specs.Graphs.{Target, Name, OfCopy, Graph}
use Rattle.heap_graph.specs.Targets.{has_target}
use Rattle.heap_graph.specs.Structures.{AreMade}
use Rattle.heap_graph.specs.Merging.{IsSound}
use Rattle.graph_unification.specs.Going.{GoesOn}
use Rattle.dsa_local.specs.Mentioned.{is_among}
use Rattle.dsa_local.specs.Told.{NamesTold, NoCopies, SameNames}
use Rattle.dsa_local.proofs.GroupBegins.Kept.{told_kept}
use Rattle.dsa_local.specs.Joined.{AllHaveOwn}
use Rattle.dsa_local.proofs.InnerCalls.Kept.{calls_joined_kept, classes_joined_kept}
use Rattle.dsa_local.specs.Local.{IsJoinedGroup}

-- the same names have targets
abbrev pub EachSame : Graph → Graph → Type 0
EachSame old new = (name : Name) → has_target (new.targets name) ≡ has_target (old.targets name)

pub joined_kept : (tac : Tac) (made : AreMade tac.structs) (owners : List Owner) (inside : ℕ → Bool) (old new : Graph) → IsSound tac.structs old → GoesOn tac.structs old new → SameNames old new
    → IsJoinedGroup tac owners inside old → IsJoinedGroup tac owners inside new
joined_kept tac made owners inside old new sound goes same joined = record {
  told = told_kept tac made old new sound goes owners same joined.told;
  named = goes.named joined.named;
  classes = classes_joined_kept tac.structs made tac inside old new sound goes joined.classes;
  calls = λ caller is. calls_joined_kept tac.structs made tac inside caller old new sound goes (joined.calls caller is);
}

-- ---- copies

without : (found : Option Target) → has_target found ≡ false → found ≡ None
without None has = refl
without (Some target) has = absurd (false≢true (sym has))

pub copies_kept : (old new : Graph) → EachSame old new → NoCopies old → NoCopies new
copies_kept old new same copies = λ number. without (new.targets (OfCopy number)) (same (OfCopy number) ∙ ap has_target (copies number))

-- ---- names

-- the functions of a group have their registers and results
pub have_own : (tac : Tac) (owners : List Owner) (inside : ℕ → Bool) (graph : Graph) → NamesTold tac owners graph → ((function : ℕ) → inside function ≡ true → is_among (InFunction function) owners ≡ true)
    → AllHaveOwn tac inside graph
have_own tac owners inside graph told among = λ number function is within.
    let names = (told.functions (InFunction number) function (among number within) is).names in
    record { registers = names.registers; result = names.result }
