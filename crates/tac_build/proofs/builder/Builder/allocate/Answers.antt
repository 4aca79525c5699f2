use Rattle.std.proofs.Common.{Some, ap, sym, refl, subst, ◌∙◌}
use Rattle.c_typed.specs.declared.typed.LibraryFunction.TheVariants as F
use Rattle.c_typed.specs.Table.{type_in}
use Rattle.c_typed.proofs.Grown.{void_stands}
use Rattle.tac_ir.specs.declared.register.Register.TheVariants as R
use Rattle.tac_ir.specs.Code as C
use Rattle.tac_ir.specs.Views.{tree_of}
use Rattle.tac_build.specs.Spots.{AsPointer}
use Rattle.tac_build.specs.Building.{spot_of, LibraryGives}
use Rattle.tac_build.proofs.builder.Builder.allocate.Goals as goal

pub returns-clause-code : goal.returns-clause-code
returns-clause-code c = λ table points fills.
    let emitted = c.in_ok-append.ensures.code table points fills in
    subst (λ given. LibraryGives F.Malloc c.args.site points given (spot_of table c.args.self.now) (spot_of table c.append.new.self) (AsPointer (R.Call c.args.site) (type_in table (record { 0 = 0 })))) (sym (c.integer.ensures table))
    ((emitted.0 ∙ (λ i. Some (C.Allocate c.args.site (tree_of (c.into_inner-size.ensures i)))), emitted.1), ap (AsPointer (R.Call c.args.site)) (void_stands table (record { 0 = 0 }) refl).1)
