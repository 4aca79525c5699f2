use Rattle.std.proofs.Common.{sym, ap, ◌∙◌}
use Rattle.ref_semantics.specs.Pointers.{is_past}
use Rattle.ref_meaning.specs.RefStore.Views.{scalar_in}
use Rattle.ref_meaning.proofs.pointer.is_past.Goals as goal

pub returns-in-Pointer : goal.returns-in-Pointer
returns-in-Pointer c = λ table. c.is_end.ensures table ∙ ap (λ v. is_past (scalar_in table v)) (sym c.in-Pointer.is)
