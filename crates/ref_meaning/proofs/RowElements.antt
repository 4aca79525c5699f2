-- Objects are found as elements.
use Rattle.std.proofs.Common.{◌≡◌, Result, Ok, Err, IfOk, sym, subst}
use Rattle.c_typed.specs.Table.{Interned, structs_in}
use Rattle.ref_semantics.specs.Values.{Place, place_of}
use Rattle.ref_meaning.specs.declared.value.Place as memory_place
use Rattle.ref_meaning.specs.declared.value.Scalar as memory_scalar
use Rattle.ref_meaning.specs.declared.value.Scalar.TheVariants as A
use Rattle.ref_meaning.specs.declared.value.Stop.{Stop}
use Rattle.ref_meaning.specs.Fitting.{HasRoom}
use Rattle.ref_meaning.specs.RefStore.Views.{place_in, scalar_in, IsElement}
use Rattle.ref_meaning.specs.declared.control.Node as memory_node
use Rattle.ref_meaning.specs.declared.first_operand.Next as memory_next
use Rattle.ref_meaning.specs.Holding.{PointsToElement}
use Rattle.ref_meaning.specs.Doing.{NextFinds}
use Rattle.ref_meaning.specs.Nexts.{place_next}

-- the place of a pointer to an element
pub pointed-element : (table : Interned) (a : memory_scalar.Scalar) (place : memory_place.Place) → place_in table place ≡ place_of (scalar_in table a) → PointsToElement table a → IsElement table place
pointed-element table (A.Pointer p) place e element = subst (λ (q : Place). HasRoom (structs_in table) q.row q.index) (sym e) element
pointed-element table (A.Integer value) place e element = absurd element
pointed-element table A.Null place e element = absurd element
pointed-element table (A.Function name) place e element = absurd element
pointed-element table (A.Raw number) place e element = absurd element

-- what is found is an element, and a pointer to it comes next
pub found-next : (table : Interned) (node : memory_node.Node) (r : Result memory_place.Place Stop) (r' : Result memory_next.Next Stop) → r' ≡ place_next r → IfOk r (λ p. IsElement table p) → IfOk r' (λ next. NextFinds table node next)
found-next table node (Ok place) r' e element = subst (λ (x : Result memory_next.Next Stop). IfOk x (λ next. NextFinds table node next)) (sym e) element
found-next table node (Err stop) r' e element = subst (λ (x : Result memory_next.Next Stop). IfOk x (λ next. NextFinds table node next)) (sym e) tt
