-- Each name has a key of its own.
use Rattle.std.proofs.Common.{◌≡◌, ℕ, Bool, true, false, Option, Some, None, refl, sym, ap, ◌∙◌, ◌⊎◌, inl, inr}
use Rattle.std.proofs.lemmas.Bool.{false≢true, and_parts, and_from, eq-eqb, eqb-true}
use Rattle.tac_ir.specs.declared.register.Local.{Local}
use Rattle.tac_ir.specs.declared.register.Local.TheVariants as L
use Rattle.tac_ir.specs.declared.register.Register.{Register}
use Rattle.tac_ir.specs.declared.register.Register.TheVariants as R
use Rattle.tac_ir.specs.States.{Owner, InStart, InFunction}
use Rattle.heap_graph.specs.Graphs.{Name, OfRegister, OfResult, OfObject, OfGlobal, OfLiteral, OfCopy}
use Rattle.graph_unification.specs.declared.name.Place.{Place}
use Rattle.graph_unification.specs.declared.name.Place.TheVariants as P
use Rattle.graph_unification.specs.declared.name.NameKey.{NameKey}
use Rattle.graph_unification.specs.declared.name.NameKey.TheVariants as K
use Rattle.graph_unification.specs.Memory.{function_of, register_place, object_place, key_of, same_function, same_place, same_key}

-- the name of a key
abbrev owner_name : Option ℕ → Owner
owner_name None = InStart
owner_name (Some function) = InFunction function

abbrev place_name : Owner → Place → Name
place_name owner (P.Parameter n) = OfRegister owner (R.Local (L.Parameter n))
place_name owner (P.Variable n) = OfRegister owner (R.Local (L.Variable n))
place_name owner (P.Call n) = OfRegister owner (R.Call n)
place_name owner (P.Argument n) = OfRegister owner (R.Argument n)
place_name owner (P.Expression n) = OfRegister owner (R.Expression n)
place_name owner (P.Temporary n) = OfRegister owner (R.Temporary n)
place_name owner P.Returned = OfResult owner
place_name owner (P.ParameterObject n) = OfObject owner (L.Parameter n)
place_name owner (P.VariableObject n) = OfObject owner (L.Variable n)

abbrev key_name : NameKey → Name
key_name (K.Local function place) = place_name (owner_name function) place
key_name (K.Global number) = OfGlobal number
key_name (K.Literal number) = OfLiteral number
key_name (K.Copy number) = OfCopy number

owner_back : (owner : Owner) → owner_name (function_of owner) ≡ owner
owner_back InStart = refl
owner_back (InFunction function) = refl

register_back : (owner : Owner) (register : Register) → place_name owner (register_place register) ≡ OfRegister owner register
register_back owner (R.Local (L.Parameter n)) = refl
register_back owner (R.Local (L.Variable n)) = refl
register_back owner (R.Call n) = refl
register_back owner (R.Argument n) = refl
register_back owner (R.Expression n) = refl
register_back owner (R.Temporary n) = refl

object_back : (owner : Owner) (local : Local) → place_name owner (object_place local) ≡ OfObject owner local
object_back owner (L.Parameter n) = refl
object_back owner (L.Variable n) = refl

back : (name : Name) → key_name (key_of name) ≡ name
back (OfRegister owner register) = ap (λ o. place_name o (register_place register)) (owner_back owner) ∙ register_back owner register
back (OfResult owner) = ap OfResult (owner_back owner)
back (OfObject owner local) = ap (λ o. place_name o (object_place local)) (owner_back owner) ∙ object_back owner local
back (OfGlobal number) = refl
back (OfLiteral number) = refl
back (OfCopy number) = refl

function_same : (a b : Option ℕ) → same_function a b ≡ true → a ≡ b
function_same None None e = refl
function_same None (Some b) e = absurd (false≢true e)
function_same (Some a) None e = absurd (false≢true e)
function_same (Some a) (Some b) e = ap Some (eqb-true a b e)

place_same : (a b : Place) → same_place a b ≡ true → a ≡ b
place_same (P.Parameter a) (P.Parameter b) e = ap P.Parameter (eqb-true a b e)
place_same (P.Parameter a) (P.Variable b) e = absurd (false≢true e)
place_same (P.Parameter a) (P.Call b) e = absurd (false≢true e)
place_same (P.Parameter a) (P.Argument b) e = absurd (false≢true e)
place_same (P.Parameter a) (P.Expression b) e = absurd (false≢true e)
place_same (P.Parameter a) (P.Temporary b) e = absurd (false≢true e)
place_same (P.Parameter a) P.Returned e = absurd (false≢true e)
place_same (P.Parameter a) (P.ParameterObject b) e = absurd (false≢true e)
place_same (P.Parameter a) (P.VariableObject b) e = absurd (false≢true e)
place_same (P.Variable a) (P.Parameter b) e = absurd (false≢true e)
place_same (P.Variable a) (P.Variable b) e = ap P.Variable (eqb-true a b e)
place_same (P.Variable a) (P.Call b) e = absurd (false≢true e)
place_same (P.Variable a) (P.Argument b) e = absurd (false≢true e)
place_same (P.Variable a) (P.Expression b) e = absurd (false≢true e)
place_same (P.Variable a) (P.Temporary b) e = absurd (false≢true e)
place_same (P.Variable a) P.Returned e = absurd (false≢true e)
place_same (P.Variable a) (P.ParameterObject b) e = absurd (false≢true e)
place_same (P.Variable a) (P.VariableObject b) e = absurd (false≢true e)
place_same (P.Call a) (P.Parameter b) e = absurd (false≢true e)
place_same (P.Call a) (P.Variable b) e = absurd (false≢true e)
place_same (P.Call a) (P.Call b) e = ap P.Call (eqb-true a b e)
place_same (P.Call a) (P.Argument b) e = absurd (false≢true e)
place_same (P.Call a) (P.Expression b) e = absurd (false≢true e)
place_same (P.Call a) (P.Temporary b) e = absurd (false≢true e)
place_same (P.Call a) P.Returned e = absurd (false≢true e)
place_same (P.Call a) (P.ParameterObject b) e = absurd (false≢true e)
place_same (P.Call a) (P.VariableObject b) e = absurd (false≢true e)
place_same (P.Argument a) (P.Parameter b) e = absurd (false≢true e)
place_same (P.Argument a) (P.Variable b) e = absurd (false≢true e)
place_same (P.Argument a) (P.Call b) e = absurd (false≢true e)
place_same (P.Argument a) (P.Argument b) e = ap P.Argument (eqb-true a b e)
place_same (P.Argument a) (P.Expression b) e = absurd (false≢true e)
place_same (P.Argument a) (P.Temporary b) e = absurd (false≢true e)
place_same (P.Argument a) P.Returned e = absurd (false≢true e)
place_same (P.Argument a) (P.ParameterObject b) e = absurd (false≢true e)
place_same (P.Argument a) (P.VariableObject b) e = absurd (false≢true e)
place_same (P.Expression a) (P.Parameter b) e = absurd (false≢true e)
place_same (P.Expression a) (P.Variable b) e = absurd (false≢true e)
place_same (P.Expression a) (P.Call b) e = absurd (false≢true e)
place_same (P.Expression a) (P.Argument b) e = absurd (false≢true e)
place_same (P.Expression a) (P.Expression b) e = ap P.Expression (eqb-true a b e)
place_same (P.Expression a) (P.Temporary b) e = absurd (false≢true e)
place_same (P.Expression a) P.Returned e = absurd (false≢true e)
place_same (P.Expression a) (P.ParameterObject b) e = absurd (false≢true e)
place_same (P.Expression a) (P.VariableObject b) e = absurd (false≢true e)
place_same (P.Temporary a) (P.Parameter b) e = absurd (false≢true e)
place_same (P.Temporary a) (P.Variable b) e = absurd (false≢true e)
place_same (P.Temporary a) (P.Call b) e = absurd (false≢true e)
place_same (P.Temporary a) (P.Argument b) e = absurd (false≢true e)
place_same (P.Temporary a) (P.Expression b) e = absurd (false≢true e)
place_same (P.Temporary a) (P.Temporary b) e = ap P.Temporary (eqb-true a b e)
place_same (P.Temporary a) P.Returned e = absurd (false≢true e)
place_same (P.Temporary a) (P.ParameterObject b) e = absurd (false≢true e)
place_same (P.Temporary a) (P.VariableObject b) e = absurd (false≢true e)
place_same P.Returned (P.Parameter b) e = absurd (false≢true e)
place_same P.Returned (P.Variable b) e = absurd (false≢true e)
place_same P.Returned (P.Call b) e = absurd (false≢true e)
place_same P.Returned (P.Argument b) e = absurd (false≢true e)
place_same P.Returned (P.Expression b) e = absurd (false≢true e)
place_same P.Returned (P.Temporary b) e = absurd (false≢true e)
place_same P.Returned P.Returned e = refl
place_same P.Returned (P.ParameterObject b) e = absurd (false≢true e)
place_same P.Returned (P.VariableObject b) e = absurd (false≢true e)
place_same (P.ParameterObject a) (P.Parameter b) e = absurd (false≢true e)
place_same (P.ParameterObject a) (P.Variable b) e = absurd (false≢true e)
place_same (P.ParameterObject a) (P.Call b) e = absurd (false≢true e)
place_same (P.ParameterObject a) (P.Argument b) e = absurd (false≢true e)
place_same (P.ParameterObject a) (P.Expression b) e = absurd (false≢true e)
place_same (P.ParameterObject a) (P.Temporary b) e = absurd (false≢true e)
place_same (P.ParameterObject a) P.Returned e = absurd (false≢true e)
place_same (P.ParameterObject a) (P.ParameterObject b) e = ap P.ParameterObject (eqb-true a b e)
place_same (P.ParameterObject a) (P.VariableObject b) e = absurd (false≢true e)
place_same (P.VariableObject a) (P.Parameter b) e = absurd (false≢true e)
place_same (P.VariableObject a) (P.Variable b) e = absurd (false≢true e)
place_same (P.VariableObject a) (P.Call b) e = absurd (false≢true e)
place_same (P.VariableObject a) (P.Argument b) e = absurd (false≢true e)
place_same (P.VariableObject a) (P.Expression b) e = absurd (false≢true e)
place_same (P.VariableObject a) (P.Temporary b) e = absurd (false≢true e)
place_same (P.VariableObject a) P.Returned e = absurd (false≢true e)
place_same (P.VariableObject a) (P.ParameterObject b) e = absurd (false≢true e)
place_same (P.VariableObject a) (P.VariableObject b) e = ap P.VariableObject (eqb-true a b e)

key_same : (a b : NameKey) → same_key a b ≡ true → a ≡ b
key_same (K.Local f p) (K.Local g q) e =
    let parts = and_parts (same_function f g) (same_place p q) e in
    ap (λ h. K.Local h p) (function_same f g parts.0) ∙ ap (K.Local g) (place_same p q parts.1)
key_same (K.Local f p) (K.Global b) e = absurd (false≢true e)
key_same (K.Local f p) (K.Literal b) e = absurd (false≢true e)
key_same (K.Local f p) (K.Copy b) e = absurd (false≢true e)
key_same (K.Global a) (K.Local g q) e = absurd (false≢true e)
key_same (K.Global a) (K.Global b) e = ap K.Global (eqb-true a b e)
key_same (K.Global a) (K.Literal b) e = absurd (false≢true e)
key_same (K.Global a) (K.Copy b) e = absurd (false≢true e)
key_same (K.Literal a) (K.Local g q) e = absurd (false≢true e)
key_same (K.Literal a) (K.Global b) e = absurd (false≢true e)
key_same (K.Literal a) (K.Literal b) e = ap K.Literal (eqb-true a b e)
key_same (K.Literal a) (K.Copy b) e = absurd (false≢true e)
key_same (K.Copy a) (K.Local g q) e = absurd (false≢true e)
key_same (K.Copy a) (K.Global b) e = absurd (false≢true e)
key_same (K.Copy a) (K.Literal b) e = absurd (false≢true e)
key_same (K.Copy a) (K.Copy b) e = ap K.Copy (eqb-true a b e)

function_itself : (a : Option ℕ) → same_function a a ≡ true
function_itself None = refl
function_itself (Some a) = eq-eqb a a refl

place_itself : (a : Place) → same_place a a ≡ true
place_itself (P.Parameter a) = eq-eqb a a refl
place_itself (P.Variable a) = eq-eqb a a refl
place_itself (P.Call a) = eq-eqb a a refl
place_itself (P.Argument a) = eq-eqb a a refl
place_itself (P.Expression a) = eq-eqb a a refl
place_itself (P.Temporary a) = eq-eqb a a refl
place_itself P.Returned = refl
place_itself (P.ParameterObject a) = eq-eqb a a refl
place_itself (P.VariableObject a) = eq-eqb a a refl

pub key_itself : (key : NameKey) → same_key key key ≡ true
key_itself (K.Local f p) = and_from (same_function f f) (same_place p p) (function_itself f) (place_itself p)
key_itself (K.Global a) = eq-eqb a a refl
key_itself (K.Literal a) = eq-eqb a a refl
key_itself (K.Copy a) = eq-eqb a a refl

pub same_name : (a b : Name) → same_key (key_of a) (key_of b) ≡ true → a ≡ b
same_name a b e = sym (back a) ∙ ap key_name (key_same (key_of a) (key_of b) e) ∙ back b

pub other_key : (a b : Name) → (a ≡ b → ⊥) → same_key (key_of a) (key_of b) ≡ false
other_key a b differ = by (same_key (key_of a) (key_of b)) refl
  where
    by : (t : Bool) → same_key (key_of a) (key_of b) ≡ t → t ≡ false
    by true e = absurd (differ (same_name a b e))
    by false e = refl

pub name_cases : (name other : Name) → (other ≡ name) ⊎ (other ≡ name → ⊥)
name_cases name other = by (same_key (key_of other) (key_of name)) refl
  where
    by : (t : Bool) → same_key (key_of other) (key_of name) ≡ t → (other ≡ name) ⊎ (other ≡ name → ⊥)
    by true e = inl (same_name other name e)
    by false e = inr (λ same. absurd (false≢true (sym e ∙ ap (λ n. same_key (key_of other) (key_of n)) (sym same) ∙ key_itself (key_of other))))
