-- Graphs to which the first nodes of a function's names can be mapped.
use Rattle.std.proofs.Common.{◌≡◌, ℕ, Bool, true, false, List, Option, Some, None, refl, sym, ap, subst, ◌∙◌}
use Rattle.std.specs.Prelude.{◌==◌}
use Rattle.std.proofs.lemmas.Bool.{false≢true, and_from, ltb-true}
use Rattle.std.proofs.lemmas.Option.{none-some, same_Some}
use Rattle.c_typed.specs.Layouts.{StructDef}
use Rattle.tac_ir.specs.declared.register.Local.{Local}
use Rattle.tac_ir.specs.declared.register.Local.TheVariants as L
use Rattle.tac_ir.specs.declared.register.Register.{Register}
use Rattle.tac_ir.specs.declared.register.Register.TheVariants as R
use Rattle.tac_ir.specs.Code.{Function}
use Rattle.tac_ir.specs.Layouts.{Inner}
use Rattle.tac_ir.specs.Objects.{own_type}
use Rattle.tac_ir.specs.States.{Owner}
use Rattle.heap_graph.specs.Escaping.{same_owner}
use Rattle.heap_graph.specs.Graphs.{Target, Flags, Node, Name, OfRegister, OfResult, OfObject, OfGlobal, OfLiteral, OfCopy, Graph, node_at}
use Rattle.heap_graph.specs.Targets.{has_target, at_target, is_collapsed, implies, element_kept, marks_kept}
use Rattle.heap_graph.specs.Closed.{has_register, is_slot}
use Rattle.heap_graph.specs.Merging.{GraphMap, Maps}
use Rattle.heap_graph.proofs.MapsCompose.{at_there, at_from}
use Rattle.graph_unification.specs.Adding.{NameFits, NamesFit}
use Rattle.graph_unification.specs.GraphNames.First.{pointer_flags, pointer_node, is_certain_register, of_register, object_node, local_flags, of_inner, first_node, AddsFunction}
use Rattle.graph_unification.specs.Fitting.{FunctionFits}
use Rattle.graph_unification.proofs.WholeFunction.{cond_some, owner_eq}
use Rattle.graph_unification.proofs.Leading.{function_leads}

-- something holds of the node of each target
pub target_there : (other : Graph) (name : Name) (t : Option Target) → other.targets name ≡ t → has_target t ≡ true → (target : Target) × (other.targets name ≡ Some target)
target_there other name None e h = absurd (false≢true h)
target_there other name (Some target) e h = (target, e)

name_fits : (structs : List StructDef) (other : Graph) (name : Name) (node : Node) → has_target (other.targets name) ≡ true → is_slot other (other.targets name) ≡ true
    → at_target other (other.targets name) (element_kept structs node.element) ≡ true → at_target other (other.targets name) (λ image shift. marks_kept node.flags image.flags) ≡ true
    → NameFits structs other name node
name_fits structs other name node has slot element flags =
    let there = target_there other name (other.targets name) refl has in
    record {
      target = there.0;
      is = there.1;
      slot = ap (is_slot other) (sym there.1) ∙ slot;
      element = ap (λ t. at_target other t (element_kept structs node.element)) (sym there.1) ∙ element;
      flags = ap (λ t. at_target other t (λ image shift. marks_kept node.flags image.flags)) (sym there.1) ∙ flags;
    }

-- what holds of all nodes holds at a slot
everywhere : (other : Graph) (t : Option Target) (holds : Node → ℕ → Bool) → is_slot other t ≡ true → ((node : Node) (shift : ℕ) → holds node shift ≡ true) → at_target other t holds ≡ true
everywhere other None holds h all = refl
everywhere other (Some target) holds h all =
    let it = at_there other target (λ node shift. implies (is_collapsed node.element) (shift == 0)) h in
    at_from other target holds it.node it.is (all it.node target.shift)

-- nothing is kept of a node that isn't certain, and that a node is certain of one of which nothing else is told
certain_kept : (certain : Bool) (flags : Flags) → implies certain flags.certain ≡ true → marks_kept (pointer_flags certain) flags ≡ true
certain_kept certain flags h = and_from (implies certain flags.certain) true h refl

pointer_fits : (structs : List StructDef) (other : Graph) (name : Name) (certain : Bool) → has_target (other.targets name) ≡ true → is_slot other (other.targets name) ≡ true
    → (certain ≡ true → at_target other (other.targets name) (λ image shift. image.flags.certain) ≡ true) → NameFits structs other name (pointer_node certain)
pointer_fits structs other name false has slot is =
    name_fits structs other name (pointer_node false) has slot
    (everywhere other (other.targets name) (element_kept structs (pointer_node false).element) slot (λ node shift. refl))
    (everywhere other (other.targets name) (λ image shift. marks_kept (pointer_flags false) image.flags) slot (λ node shift. refl))
pointer_fits structs other name true has slot is =
    let there = target_there other name (other.targets name) refl has in
    let certain = at_there other there.0 (λ image shift. image.flags.certain) (ap (λ t. at_target other t (λ image shift. image.flags.certain)) (sym there.1) ∙ is refl) in
    name_fits structs other name (pointer_node true) has slot
    (everywhere other (other.targets name) (element_kept structs (pointer_node true).element) slot (λ node shift. refl))
    (ap (λ t. at_target other t (λ image shift. marks_kept (pointer_flags true) image.flags)) there.1
    ∙ at_from other there.0 (λ image shift. marks_kept (pointer_flags true) image.flags) certain.node certain.is (certain_kept true certain.node.flags certain.so))

module _ (structs : List StructDef) (other : Graph) (owner : Owner) (function : Function) (fits : FunctionFits structs other owner function) where
  certain_there : (register : Register) → has_register function register ≡ true → is_certain_register function register ≡ true
      → at_target other (other.targets (OfRegister owner register)) (λ image shift. image.flags.certain) ≡ true
  certain_there (R.Local (L.Parameter number)) has h = fits.formals number (ltb-true number function.parameters has) h
  certain_there (R.Local (L.Variable number)) has h = absurd (false≢true h)
  certain_there (R.Call number) has h = absurd (false≢true h)
  certain_there (R.Argument number) has h = absurd (false≢true h)
  certain_there (R.Expression number) has h = absurd (false≢true h)
  certain_there (R.Temporary number) has h = absurd (false≢true h)

  object_fits : (local : Local) (t : Option Inner) (node : Node) → own_type function.objects local ≡ t → of_inner t ≡ Some node → NameFits structs other (OfObject owner local) node
  object_fits local None node e is = absurd (none-some node is)
  object_fits local (Some inner) node e is =
      subst (NameFits structs other (OfObject owner local)) (same_Some (object_node inner.c_type (local_flags inner.c_type)) node is)
      (name_fits structs other (OfObject owner local) (object_node inner.c_type (local_flags inner.c_type)) (fits.objects local inner e) (fits.slots (OfObject owner local)) (fits.elements local inner e)
      (fits.flags local inner e))

  -- each of the function's names fits
  pub names_fit : NamesFit structs other (first_node owner function)
  names_fit (OfRegister its register) node e =
      let of_owner = cond_some (same_owner its owner) (of_register function register) node e in
      let there = cond_some (has_register function register) (Some (pointer_node (is_certain_register function register))) node of_owner.1 in
      subst (λ o. NameFits structs other (OfRegister o register) node) (sym (owner_eq its owner of_owner.0))
      (subst (NameFits structs other (OfRegister owner register)) (same_Some (pointer_node (is_certain_register function register)) node there.1)
      (pointer_fits structs other (OfRegister owner register) (is_certain_register function register) (fits.registers register there.0) (fits.slots (OfRegister owner register)) (certain_there register there.0)))
  names_fit (OfResult its) node e =
      let of_owner = cond_some (same_owner its owner) (Some (pointer_node false)) node e in
      subst (λ o. NameFits structs other (OfResult o) node) (sym (owner_eq its owner of_owner.0))
      (subst (NameFits structs other (OfResult owner)) (same_Some (pointer_node false) node of_owner.1)
      (pointer_fits structs other (OfResult owner) false fits.result (fits.slots (OfResult owner)) (λ h. absurd (false≢true h))))
  names_fit (OfObject its local) node e =
      let of_owner = cond_some (same_owner its owner) (of_inner (own_type function.objects local)) node e in
      subst (λ o. NameFits structs other (OfObject o local) node) (sym (owner_eq its owner of_owner.0)) (object_fits local (own_type function.objects local) node refl of_owner.1)
  names_fit (OfGlobal number) node e = absurd (none-some node e)
  names_fit (OfLiteral number) node e = absurd (none-some node e)
  names_fit (OfCopy number) node e = absurd (none-some node e)

-- a map of the old graph is extended to the names of a function
pub fitting_leads : (structs : List StructDef) (old new other : Graph) (owner : Owner) (function : Function) (into : GraphMap) → AddsFunction old new owner function → Maps structs old other into
    → FunctionFits structs other owner function
    → (rest : GraphMap) × Maps structs new other rest × ((number : ℕ) (its : Node) → node_at old number ≡ Some its → rest number ≡ into number)
fitting_leads structs old new other owner function into added maps fits = function_leads structs old new other owner function into added maps (names_fit structs other owner function fits)
