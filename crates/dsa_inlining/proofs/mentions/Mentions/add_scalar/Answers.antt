use Rattle.std.proofs.Common.{sym, subst}
use Rattle.c_typed.specs.declared.definition.Scalar as memory_scalar
use Rattle.c_typed.specs.DefinitionViews.{scalar_of}
use Rattle.tac_ir.specs.Views.{tac_of}
use Rattle.dsa_inlining.specs.Counting.{points_at}
use Rattle.dsa_inlining.specs.Tallies.{Adds, begins}
use Rattle.dsa_inlining.proofs.mentions.Mentions.add_scalar.Goals as goal

pub returns-in-Pointer : goal.returns-in-Pointer
returns-in-Pointer c = λ tac numbers.
    subst (λ (value : memory_scalar.Scalar). Adds (λ name. points_at (tac_of tac) (begins name) (scalar_of value)) c.args.self.now c.add_root.new.self) (sym c.in-Pointer.is) (c.add_root.ensures tac numbers)
