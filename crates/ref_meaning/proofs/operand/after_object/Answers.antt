use Rattle.std.proofs.Common.{Ok, Err, ℤ, FitsSigned, to_z-of_z, sym, ap, subst, ◌∙◌}
use Rattle.std.specs.Int.{w128}
use Rattle.c_typed.specs.Views.{object_in}
use Rattle.ref_semantics.specs.Values.{PointerValue, integer_of}
use Rattle.ref_semantics.specs.Store.{give}
use Rattle.ref_semantics.specs.Pointers.{element}
use Rattle.ref_semantics.specs.Parts.{object_of_both}
use Rattle.ref_meaning.specs.declared.value.Scalar.TheVariants as M
use Rattle.ref_meaning.specs.RefStore.Views.{place_in, scalar_in}
use Rattle.ref_meaning.specs.RefStore.Holding.{CallGives}
use Rattle.ref_meaning.proofs.Both.{gives-stopped, gives-bind, gives-handed, gives-same}
use Rattle.ref_meaning.proofs.operand.after_object.Goals as goal
use Rattle.ref_meaning.proofs.operand.after_object.Goals.{in-Element+in_ok-found-in-Element, in-ElementOf+in_ok-found-in-ElementOf}

pub returns-in_err-found-in-Element-clause-gives : goal.returns-in_err-found-in-Element-clause-gives
returns-in_err-found-in-Element-clause-gives c = λ around base.
    let store = c.args.store.now in
    let table = store.types.now in
    let a = scalar_in table c.args.first in
    let b = scalar_in table c.args.second in
    let stop = c.in_err-found-in-Element.field-0.0 in
    let fits : FitsSigned w128 c.integer.result = record { sfits = c.integer.type_inv } in
    gives-handed around store store base (scalar_in table) (object_of_both (object_in table c.args.object.now) a b) stop c.from_residual.result c.from_residual.ensures.1
    (subst (λ object. CallGives around store store base (scalar_in table) (object_of_both (object_in table object) a b) (Err stop)) (sym c.in-Element.is)
    (gives-stopped around store store base (place_in table) (scalar_in table) (element c.in-Element.place a (integer_of b)) (λ p. give (PointerValue p)) stop
    (subst (λ (z : ℤ). CallGives around store store base (place_in table) (element c.in-Element.place a z) (Err stop)) (to_z-of_z fits ∙ c.integer.ensures table) (c.in_err-found-in-Element.ensures.gives around base))))

pub returns-in_err-found-in-ElementOf-clause-gives : goal.returns-in_err-found-in-ElementOf-clause-gives
returns-in_err-found-in-ElementOf-clause-gives c = λ around base.
    let store = c.args.store.now in
    let table = store.types.now in
    let a = scalar_in table c.args.first in
    let b = scalar_in table c.args.second in
    let stop = c.in_err-found-in-ElementOf.field-0.0 in
    let fits : FitsSigned w128 c.integer-in-ElementOf.result = record { sfits = c.integer-in-ElementOf.type_inv } in
    gives-handed around store store base (scalar_in table) (object_of_both (object_in table c.args.object.now) a b) stop c.from_residual-in_err-found-in-ElementOf.result c.from_residual-in_err-found-in-ElementOf.ensures.1
    (subst (λ object. CallGives around store store base (scalar_in table) (object_of_both (object_in table object) a b) (Err stop)) (sym c.in-ElementOf.is)
    (gives-stopped around store store base (place_in table) (scalar_in table) (element c.in-ElementOf.place b (integer_of a)) (λ p. give (PointerValue p)) stop
    (subst (λ (z : ℤ). CallGives around store store base (place_in table) (element c.in-ElementOf.place b z) (Err stop)) (to_z-of_z fits ∙ c.integer-in-ElementOf.ensures table) (c.in_err-found-in-ElementOf.ensures.gives around base))))

pub returns-clause-gives : goal.returns-clause-gives
returns-clause-gives c = λ around base.
    let store = c.args.store.now in
    let table = store.types.now in
    let a = scalar_in table c.args.first in
    let b = scalar_in table c.args.second in
    elim c.match-object.branch [
      | in-Element+in_ok-found-in-Element w ↦
          let fits : FitsSigned w128 w.integer.result = record { sfits = w.integer.type_inv } in
          let found = w.in_ok-found-in-Element.found in
          subst (λ object. CallGives around store store base (scalar_in table) (object_of_both (object_in table object) a b) (Ok (M.Pointer c.match-object.found))) (sym w.in-Element.is)
          (gives-bind around store store base (place_in table) (scalar_in table) (element w.in-Element.place a (integer_of b)) (λ p. give (PointerValue p)) found (Ok (M.Pointer c.match-object.found))
          (subst (λ (z : ℤ). CallGives around store store base (place_in table) (element w.in-Element.place a z) (Ok found)) (to_z-of_z fits ∙ w.integer.ensures table) (w.in_ok-found-in-Element.ensures.gives around base))
          (gives-same around store base (scalar_in table) (M.Pointer c.match-object.found) (PointerValue (place_in table found)) (ap (λ p. PointerValue (place_in table p)) w.found-is)))
      | in-ElementOf+in_ok-found-in-ElementOf w ↦
          let fits : FitsSigned w128 w.integer-in-ElementOf.result = record { sfits = w.integer-in-ElementOf.type_inv } in
          let found = w.in_ok-found-in-ElementOf.found in
          subst (λ object. CallGives around store store base (scalar_in table) (object_of_both (object_in table object) a b) (Ok (M.Pointer c.match-object.found))) (sym w.in-ElementOf.is)
          (gives-bind around store store base (place_in table) (scalar_in table) (element w.in-ElementOf.place b (integer_of a)) (λ p. give (PointerValue p)) found (Ok (M.Pointer c.match-object.found))
          (subst (λ (z : ℤ). CallGives around store store base (place_in table) (element w.in-ElementOf.place b z) (Ok found)) (to_z-of_z fits ∙ w.integer-in-ElementOf.ensures table) (w.in_ok-found-in-ElementOf.ensures.gives around base))
          (gives-same around store base (scalar_in table) (M.Pointer c.match-object.found) (PointerValue (place_in table found)) (ap (λ p. PointerValue (place_in table p)) w.found-is)))
    ]
