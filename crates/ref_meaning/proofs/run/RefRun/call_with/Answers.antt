use Rattle.std.proofs.Common.{◌∷◌, [], Ok, FitsSigned, to_z, of_z, to_z-of_z, rules, refl, sym, subst, ◌∙◌}
use Rattle.std.specs.Int.{w128}
use Rattle.c_typed.specs.declared.typed.LibraryFunction.{LibraryFunction}
use Rattle.ref_semantics.specs.Values.{NullValue}
use Rattle.ref_semantics.specs.Library.{library, allocated, natural_of, written}
use Rattle.ref_meaning.specs.RefStore.Views.{scalar_in}
use Rattle.ref_meaning.specs.declared.value.Scalar.TheVariants as M
use Rattle.ref_meaning.specs.Views.{table_of, around_run}
use Rattle.ref_meaning.specs.Calling.{Evaluates}
use Rattle.ref_meaning.proofs.Provided.{gives-evaluates, gives-remains, stops-evaluates, written-evaluates}
use Rattle.ref_meaning.proofs.run.RefRun.call_with.Goals as goal

-- ---- `malloc`

pub returns-in_err-allocate-in-Malloc-clause-evaluates : goal.returns-in_err-allocate-in-Malloc-clause-evaluates
returns-in_err-allocate-in-Malloc-clause-evaluates g c = λ is_left.
    let old = c.args.self.now in
    let mid = c.allocate.new.self in
    let fits : FitsSigned w128 c.integer.result = search rules in
    let size = to_z w128 (of_z w128 c.integer.result) in
    let view = scalar_in (table_of old) in
    let told = g.O.Sink.written c.args.out.now in
    subst (λ (function : LibraryFunction). Evaluates old (record old { store = mid }) (library (around_run old) function c.args.place (view c.args.argument ∷ [])) c.from_residual.result is_left told is_left told) (sym c.in-Malloc.is)
    (subst (λ z. Evaluates old (record old { store = mid }) (allocated (natural_of z)) c.from_residual.result is_left told is_left told) (to_z-of_z fits ∙ c.integer.ensures (table_of old))
    (stops-evaluates old mid view (allocated (natural_of size)) is_left told c.in_err-allocate-in-Malloc.field-0.0 c.from_residual.result c.from_residual.ensures.1
    (c.in_err-allocate-in-Malloc.ensures.gives (around_run old) old.base)))

pub returns-in_ok-allocate-in-Malloc-clause-evaluates : goal.returns-in_ok-allocate-in-Malloc-clause-evaluates
returns-in_ok-allocate-in-Malloc-clause-evaluates g c = λ is_left.
    let old = c.args.self.now in
    let mid = c.allocate.new.self in
    let fits : FitsSigned w128 c.integer.result = search rules in
    let size = to_z w128 (of_z w128 c.integer.result) in
    let view = scalar_in (table_of old) in
    let value = c.in_ok-allocate-in-Malloc.field-0 in
    let told = g.O.Sink.written c.args.out.now in
    subst (λ (function : LibraryFunction). Evaluates old (record old { store = mid }) (library (around_run old) function c.args.place (view c.args.argument ∷ [])) (Ok value) is_left told is_left told) (sym c.in-Malloc.is)
    (subst (λ z. Evaluates old (record old { store = mid }) (allocated (natural_of z)) (Ok value) is_left told is_left told) (to_z-of_z fits ∙ c.integer.ensures (table_of old))
    (gives-evaluates old mid view (allocated (natural_of size)) is_left told value value refl (c.in_ok-allocate-in-Malloc.ensures.gives (around_run old) old.base)))

pub returns-in_ok-allocate-in-Malloc-clause-remains : goal.returns-in_ok-allocate-in-Malloc-clause-remains
returns-in_ok-allocate-in-Malloc-clause-remains g c =
    let old = c.args.self.now in
    gives-remains old c.allocate.new.self (scalar_in (table_of old)) (allocated (natural_of (to_z w128 (of_z w128 c.integer.result)))) c.in_ok-allocate-in-Malloc.field-0 (c.in_ok-allocate-in-Malloc.ensures.gives (around_run old) old.base)

-- ---- `free`

pub returns-in_err-free-in-Free-clause-evaluates : goal.returns-in_err-free-in-Free-clause-evaluates
returns-in_err-free-in-Free-clause-evaluates g c = λ is_left.
    let old = c.args.self.now in
    let mid = c.free.new.self in
    let given = scalar_in (table_of old) c.args.argument ∷ [] in
    let told = g.O.Sink.written c.args.out.now in
    subst (λ (function : LibraryFunction). Evaluates old (record old { store = mid }) (library (around_run old) function c.args.place given) c.from_residual-in_err-free-in-Free.result is_left told is_left told) (sym c.in-Free.is)
    (stops-evaluates {B = Unit {0}} old mid (λ done. NullValue) _ is_left told c.in_err-free-in-Free.field-0.0 c.from_residual-in_err-free-in-Free.result c.from_residual-in_err-free-in-Free.ensures.1
    (c.in_err-free-in-Free.ensures.gives (around_run old) old.base))

pub returns-in_ok-free-in-Free-clause-evaluates : goal.returns-in_ok-free-in-Free-clause-evaluates
returns-in_ok-free-in-Free-clause-evaluates g c = λ is_left.
    let old = c.args.self.now in
    let mid = c.free.new.self in
    let given = scalar_in (table_of old) c.args.argument ∷ [] in
    let told = g.O.Sink.written c.args.out.now in
    subst (λ (function : LibraryFunction). Evaluates old (record old { store = mid }) (library (around_run old) function c.args.place given) (Ok M.Null) is_left told is_left told) (sym c.in-Free.is)
    (gives-evaluates {B = Unit {0}} old mid (λ done. NullValue) _ is_left told tt M.Null refl (c.in_ok-free-in-Free.ensures.gives (around_run old) old.base))

pub returns-in_ok-free-in-Free-clause-remains : goal.returns-in_ok-free-in-Free-clause-remains
returns-in_ok-free-in-Free-clause-remains g c =
    let old = c.args.self.now in
    gives-remains {B = Unit {0}} old c.free.new.self (λ done. NullValue) _ tt (c.in_ok-free-in-Free.ensures.gives (around_run old) old.base)

-- ---- `putchar`

pub returns-in-Ok-clause-evaluates : goal.returns-in-Ok-clause-evaluates
returns-in-Ok-clause-evaluates g c = λ is_left.
    let old = c.args.self.now in
    let table = table_of old in
    let told = g.O.Sink.written c.args.out.now in
    let told' = g.O.Sink.written c.write_byte.new.out in
    let fits : FitsSigned w128 c.from.result = search rules in
    let value = to_z w128 (of_z w128 c.from.result) in
    subst (λ (function : LibraryFunction). Evaluates old old (library (around_run old) function c.args.place (scalar_in table c.args.argument ∷ [])) (Ok (M.Integer value)) is_left told is_left told') (sym c.in-PutChar.is)
    (subst (λ byte. Evaluates old old (written byte) (Ok (M.Integer value)) is_left told is_left told') (c.low_byte-byte.ensures table)
    (written-evaluates old c.low_byte-byte.result value is_left told told' (to_z-of_z fits ∙ c.from.ensures) c.in-Ok.ensures.written))
