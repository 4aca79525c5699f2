use Rattle.std.proofs.Common.{sym, subst}
use Rattle.c_typed.specs.Views.{value_in, values_in}
use Rattle.ref_meaning.specs.Trees.{ValueFits, ValuesFit}
use Rattle.c_typed.proofs.TypedStays.{row_in-vec}
use Rattle.ref_meaning.proofs.TreeRows.{ValuesFit-vec}
use Rattle.ref_meaning.specs.Views.{arguments_of, arguments_from}
use Rattle.ref_meaning.specs.Calling.{IsArgument}
use Rattle.ref_meaning.proofs.call.argument_of.Goals as goal

pub returns-in-Call-clause-is : goal.returns-in-Call-clause-is
returns-in-Call-clause-is c = λ table.
    let n = c.args.number in
    let r = c.numbered.result in
    subst (λ v. IsArgument table (arguments_from n (arguments_of (value_in table v))) r) (sym c.in-Call.is)
    (subst (λ vs. IsArgument table (arguments_from n vs) r) (sym (row_in-vec table c.in-Call.arguments))
    (subst (λ xs. IsArgument table (arguments_from n (values_in table xs)) r) c.deref.ensures.value (c.numbered.ensures.is table)))

pub returns-in-Call-clause-stands : goal.returns-in-Call-clause-stands
returns-in-Call-clause-stands c = λ table stands.
    c.numbered.ensures.stands table (subst (ValuesFit table) (sym c.deref.ensures.value) (ValuesFit-vec table c.in-Call.arguments (subst (ValueFits table) c.in-Call.is stands).2))

pub returns-in-LibraryCall-clause-is : goal.returns-in-LibraryCall-clause-is
returns-in-LibraryCall-clause-is c = λ table.
    let n = c.args.number in
    let r = c.numbered-in-LibraryCall.result in
    subst (λ v. IsArgument table (arguments_from n (arguments_of (value_in table v))) r) (sym c.in-LibraryCall.is)
    (subst (λ vs. IsArgument table (arguments_from n vs) r) (sym (row_in-vec table c.in-LibraryCall.arguments))
    (subst (λ xs. IsArgument table (arguments_from n (values_in table xs)) r) c.deref-in-LibraryCall.ensures.value (c.numbered-in-LibraryCall.ensures.is table)))

pub returns-in-LibraryCall-clause-stands : goal.returns-in-LibraryCall-clause-stands
returns-in-LibraryCall-clause-stands c = λ table stands.
    c.numbered-in-LibraryCall.ensures.stands table (subst (ValuesFit table) (sym c.deref-in-LibraryCall.ensures.value) (ValuesFit-vec table c.in-LibraryCall.arguments (subst (ValueFits table) c.in-LibraryCall.is stands)))
