-- Targets that are set for names.
use Rattle.std.proofs.Common.{◌≡◌, ℕ, cond, Option, Some, None, refl, sym, ap, ◌∙◌}
use Rattle.std.specs.Prelude.{◌&&◌, ◌==◌}
use Rattle.std.proofs.lemmas.Bool.{cond-true, cond-false}
use Rattle.indexmap.specs.IndexMap.{IndexMap, get, get_by, Updates}
use Rattle.heap_graph.specs.Graphs.{Name}
use Rattle.graph_unification.specs.declared.name.Place.{Place}
use Rattle.graph_unification.specs.declared.name.Place.TheVariants as P
use Rattle.graph_unification.specs.declared.name.NameKey.{NameKey}
use Rattle.graph_unification.specs.declared.name.NameKey.TheVariants as K
use Rattle.graph_unification.specs.declared.graph.Graph as memory_graph
use Rattle.graph_unification.specs.Memory.{key_of, same_place, same_key, set_for}
use Rattle.graph_unification.proofs.NameKeys.{key_itself, other_key}
use Rattle.graph_unification.specs.contracts.name.NameKeyPartialEq.TheImpl.{eq-value}
use Rattle.graph_unification.specs.contracts.name.PlacePartialEq.TheImpl as places

place_eq : (a b : Place) → places.eq-value.it a b ≡ same_place a b
place_eq (P.Parameter a) (P.Parameter b) = refl
place_eq (P.Parameter a) (P.Variable b) = refl
place_eq (P.Parameter a) (P.Call b) = refl
place_eq (P.Parameter a) (P.Argument b) = refl
place_eq (P.Parameter a) (P.Expression b) = refl
place_eq (P.Parameter a) (P.Temporary b) = refl
place_eq (P.Parameter a) P.Returned = refl
place_eq (P.Parameter a) (P.ParameterObject b) = refl
place_eq (P.Parameter a) (P.VariableObject b) = refl
place_eq (P.Variable a) (P.Parameter b) = refl
place_eq (P.Variable a) (P.Variable b) = refl
place_eq (P.Variable a) (P.Call b) = refl
place_eq (P.Variable a) (P.Argument b) = refl
place_eq (P.Variable a) (P.Expression b) = refl
place_eq (P.Variable a) (P.Temporary b) = refl
place_eq (P.Variable a) P.Returned = refl
place_eq (P.Variable a) (P.ParameterObject b) = refl
place_eq (P.Variable a) (P.VariableObject b) = refl
place_eq (P.Call a) (P.Parameter b) = refl
place_eq (P.Call a) (P.Variable b) = refl
place_eq (P.Call a) (P.Call b) = refl
place_eq (P.Call a) (P.Argument b) = refl
place_eq (P.Call a) (P.Expression b) = refl
place_eq (P.Call a) (P.Temporary b) = refl
place_eq (P.Call a) P.Returned = refl
place_eq (P.Call a) (P.ParameterObject b) = refl
place_eq (P.Call a) (P.VariableObject b) = refl
place_eq (P.Argument a) (P.Parameter b) = refl
place_eq (P.Argument a) (P.Variable b) = refl
place_eq (P.Argument a) (P.Call b) = refl
place_eq (P.Argument a) (P.Argument b) = refl
place_eq (P.Argument a) (P.Expression b) = refl
place_eq (P.Argument a) (P.Temporary b) = refl
place_eq (P.Argument a) P.Returned = refl
place_eq (P.Argument a) (P.ParameterObject b) = refl
place_eq (P.Argument a) (P.VariableObject b) = refl
place_eq (P.Expression a) (P.Parameter b) = refl
place_eq (P.Expression a) (P.Variable b) = refl
place_eq (P.Expression a) (P.Call b) = refl
place_eq (P.Expression a) (P.Argument b) = refl
place_eq (P.Expression a) (P.Expression b) = refl
place_eq (P.Expression a) (P.Temporary b) = refl
place_eq (P.Expression a) P.Returned = refl
place_eq (P.Expression a) (P.ParameterObject b) = refl
place_eq (P.Expression a) (P.VariableObject b) = refl
place_eq (P.Temporary a) (P.Parameter b) = refl
place_eq (P.Temporary a) (P.Variable b) = refl
place_eq (P.Temporary a) (P.Call b) = refl
place_eq (P.Temporary a) (P.Argument b) = refl
place_eq (P.Temporary a) (P.Expression b) = refl
place_eq (P.Temporary a) (P.Temporary b) = refl
place_eq (P.Temporary a) P.Returned = refl
place_eq (P.Temporary a) (P.ParameterObject b) = refl
place_eq (P.Temporary a) (P.VariableObject b) = refl
place_eq P.Returned (P.Parameter b) = refl
place_eq P.Returned (P.Variable b) = refl
place_eq P.Returned (P.Call b) = refl
place_eq P.Returned (P.Argument b) = refl
place_eq P.Returned (P.Expression b) = refl
place_eq P.Returned (P.Temporary b) = refl
place_eq P.Returned P.Returned = refl
place_eq P.Returned (P.ParameterObject b) = refl
place_eq P.Returned (P.VariableObject b) = refl
place_eq (P.ParameterObject a) (P.Parameter b) = refl
place_eq (P.ParameterObject a) (P.Variable b) = refl
place_eq (P.ParameterObject a) (P.Call b) = refl
place_eq (P.ParameterObject a) (P.Argument b) = refl
place_eq (P.ParameterObject a) (P.Expression b) = refl
place_eq (P.ParameterObject a) (P.Temporary b) = refl
place_eq (P.ParameterObject a) P.Returned = refl
place_eq (P.ParameterObject a) (P.ParameterObject b) = refl
place_eq (P.ParameterObject a) (P.VariableObject b) = refl
place_eq (P.VariableObject a) (P.Parameter b) = refl
place_eq (P.VariableObject a) (P.Variable b) = refl
place_eq (P.VariableObject a) (P.Call b) = refl
place_eq (P.VariableObject a) (P.Argument b) = refl
place_eq (P.VariableObject a) (P.Expression b) = refl
place_eq (P.VariableObject a) (P.Temporary b) = refl
place_eq (P.VariableObject a) P.Returned = refl
place_eq (P.VariableObject a) (P.ParameterObject b) = refl
place_eq (P.VariableObject a) (P.VariableObject b) = refl

pub key_eq : (a b : NameKey) → eq-value.it a b ≡ same_key a b
key_eq (K.Local None p) (K.Local None q) = place_eq p q
key_eq (K.Local None p) (K.Local (Some g) q) = refl
key_eq (K.Local (Some f) p) (K.Local None q) = refl
key_eq (K.Local (Some f) p) (K.Local (Some g) q) = ap (λ t. (f == g) && t) (place_eq p q)
key_eq (K.Local f p) (K.Global b) = refl
key_eq (K.Local f p) (K.Literal b) = refl
key_eq (K.Local f p) (K.Copy b) = refl
key_eq (K.Global a) (K.Local g q) = refl
key_eq (K.Global a) (K.Global b) = refl
key_eq (K.Global a) (K.Literal b) = refl
key_eq (K.Global a) (K.Copy b) = refl
key_eq (K.Literal a) (K.Local g q) = refl
key_eq (K.Literal a) (K.Global b) = refl
key_eq (K.Literal a) (K.Literal b) = refl
key_eq (K.Literal a) (K.Copy b) = refl
key_eq (K.Copy a) (K.Local g q) = refl
key_eq (K.Copy a) (K.Global b) = refl
key_eq (K.Copy a) (K.Literal b) = refl
key_eq (K.Copy a) (K.Copy b) = refl

module _ {S : Type 0} where
  pub get_key : (m : IndexMap NameKey ℕ S) (k : NameKey) → get eq-value.it m k ≡ get_by (same_key k) m
  get_key m k = λ i. get_by (λ b. key_eq k b i) m

  updated : (m n : IndexMap NameKey ℕ S) (k : NameKey) (w : Option ℕ) → Updates eq-value.it m n k w → (q : NameKey)
      → get_by (same_key q) n ≡ cond (same_key k q) w (get_by (same_key q) m)
  updated m n k w h q = sym (get_key n q) ∙ h.0 q ∙ ap (λ b. cond b w (get eq-value.it m q)) (key_eq k q) ∙ ap (cond (same_key k q) w) (get_key m q)

pub set_now : (old new : memory_graph.Graph) (name : Name) (to : ℕ) → Updates eq-value.it old.names new.names (key_of name) (Some to) → set_for new name ≡ Some to
set_now old new name to h =
    updated old.names new.names (key_of name) (Some to) h (key_of name)
    ∙ cond-true (same_key (key_of name) (key_of name)) (Some to) (set_for old name) (key_itself (key_of name))

pub set_others : (old new : memory_graph.Graph) (name : Name) (to : ℕ) → Updates eq-value.it old.names new.names (key_of name) (Some to) → (other : Name) → (other ≡ name → ⊥)
    → set_for new other ≡ set_for old other
set_others old new name to h other differ =
    updated old.names new.names (key_of name) (Some to) h (key_of other)
    ∙ cond-false (same_key (key_of name) (key_of other)) (Some to) (set_for old other) (other_key name other (λ e. differ (sym e)))
