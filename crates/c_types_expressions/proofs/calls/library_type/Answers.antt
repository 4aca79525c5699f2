use Rattle.std.proofs.Common.{Some, refl, sym, subst}
use Rattle.std.specs.Prelude.{IfOk}
use Rattle.std.proofs.lemmas.Result.{IfOk-weaker}
use Rattle.c_num.specs.declared.IntType.TheVariants as I
use Rattle.c_typed.specs.declared.c_type.CType as number
use Rattle.c_typed.specs.declared.typed.LibraryFunction.{LibraryFunction}
use Rattle.c_typed.proofs.Grown.{void_stands, integer_stands}
use Rattle.c_rules.specs.Known.{give}
use Rattle.c_rules.specs.Names.{library_type}
use Rattle.c_types_state.specs.Finding.{Finds, IsType}
use Rattle.c_types_expressions.proofs.LibraryTypes.{to_pointer, from_pointer, from_nothing, from_integer, to_nothing}
use Rattle.c_types_expressions.proofs.calls.library_type.Goals as goal

void : number.CType
void = record { 0 = 0 }

pub pointer_to-requires : goal.pointer_to-requires
unfolding void
pointer_to-requires c = (void_stands c.args.checker.now.table void refl).0

pub function_of-requires-clause-parameter : goal.function_of-requires-clause-parameter
function_of-requires-clause-parameter c = (integer_stands c.pointer_to.new.self.table c.integer.result I.ULong c.integer.ensures).0

pub pointer_to-requires-in-Free : goal.pointer_to-requires-in-Free
unfolding void
pointer_to-requires-in-Free c = (void_stands c.args.checker.now.table void refl).0

pub function_of-requires-in-Free-clause-returned : goal.function_of-requires-in-Free-clause-returned
unfolding void
function_of-requires-in-Free-clause-returned c = (void_stands c.pointer_to-in-Free.new.self.table void refl).0

pub function-requires-clause-returned : goal.function-requires-clause-returned
function-requires-clause-returned c = (integer_stands c.no_parameters.new.self.table c.integer-int.result I.Int c.integer-int.ensures).0

pub function_of-requires-in-PutChar-clause-returned : goal.function_of-requires-in-PutChar-clause-returned
function_of-requires-in-PutChar-clause-returned c = (integer_stands c.args.checker.now.table c.integer-int.result I.Int c.integer-int.ensures).0

pub function_of-requires-in-PutChar-clause-parameter : goal.function_of-requires-in-PutChar-clause-parameter
function_of-requires-in-PutChar-clause-parameter c = (integer_stands c.args.checker.now.table c.integer-int.result I.Int c.integer-int.ensures).0

pub function_of-requires-in-Exit-clause-returned : goal.function_of-requires-in-Exit-clause-returned
unfolding void
function_of-requires-in-Exit-clause-returned c = (void_stands c.args.checker.now.table void refl).0

pub function_of-requires-in-Exit-clause-parameter : goal.function_of-requires-in-Exit-clause-parameter
function_of-requires-in-Exit-clause-parameter c = (integer_stands c.args.checker.now.table c.integer-int.result I.Int c.integer-int.ensures).0

pub returns-in_ok-returned-in-Malloc : goal.returns-in_ok-returned-in-Malloc
unfolding void
returns-in_ok-returned-in-Malloc c =
    let s = c.args.checker.now in
    let u = c.function_of.new.checker in
    subst (λ (f : LibraryFunction). IfOk c.function_of.result (λ made. Finds IsType (give (library_type f)) s u (Some made))) (sym c.in-Malloc.is)
    (IfOk-weaker c.function_of.result _ _
    (λ made found. to_pointer s c.pointer_to.new.self u made void c.in_ok-returned-in-Malloc.returned c.integer.result I.ULong refl c.integer.ensures c.in_ok-returned-in-Malloc.ensures.made found)
    c.function_of.ensures)

pub returns-in_ok-parameter-in-Free : goal.returns-in_ok-parameter-in-Free
unfolding void
returns-in_ok-parameter-in-Free c =
    let s = c.args.checker.now in
    let u = c.function_of-in-Free.new.checker in
    subst (λ (f : LibraryFunction). IfOk c.function_of-in-Free.result (λ made. Finds IsType (give (library_type f)) s u (Some made))) (sym c.in-Free.is)
    (IfOk-weaker c.function_of-in-Free.result _ _
    (λ made found. from_pointer s c.pointer_to-in-Free.new.self u made void c.in_ok-parameter-in-Free.parameter refl c.in_ok-parameter-in-Free.ensures.made found)
    c.function_of-in-Free.ensures)

pub returns-in_ok-none-in-GetChar : goal.returns-in_ok-none-in-GetChar
returns-in_ok-none-in-GetChar c =
    let s = c.args.checker.now in
    let u = c.function.new.self in
    subst (λ (f : LibraryFunction). IfOk c.function.result (λ made. Finds IsType (give (library_type f)) s u (Some made))) (sym c.in-GetChar.is)
    (IfOk-weaker c.function.result _ _
    (λ made found. from_nothing s c.no_parameters.new.self u made c.integer-int.result c.in_ok-none-in-GetChar.none I.Int c.integer-int.ensures c.in_ok-none-in-GetChar.ensures.made found)
    c.function.ensures.made)

pub returns-in-PutChar : goal.returns-in-PutChar
returns-in-PutChar c =
    let s = c.args.checker.now in
    let u = c.function_of-in-PutChar.new.checker in
    subst (λ (f : LibraryFunction). IfOk c.function_of-in-PutChar.result (λ made. Finds IsType (give (library_type f)) s u (Some made))) (sym c.in-PutChar.is)
    (IfOk-weaker c.function_of-in-PutChar.result _ _
    (λ made found. from_integer s u made c.integer-int.result I.Int c.integer-int.ensures found)
    c.function_of-in-PutChar.ensures)

pub returns-in-Exit : goal.returns-in-Exit
unfolding void
returns-in-Exit c =
    let s = c.args.checker.now in
    let u = c.function_of-in-Exit.new.checker in
    subst (λ (f : LibraryFunction). IfOk c.function_of-in-Exit.result (λ made. Finds IsType (give (library_type f)) s u (Some made))) (sym c.in-Exit.is)
    (IfOk-weaker c.function_of-in-Exit.result _ _
    (λ made found. to_nothing s u made c.integer-int.result I.Int c.integer-int.ensures void refl found)
    c.function_of-in-Exit.ensures)
