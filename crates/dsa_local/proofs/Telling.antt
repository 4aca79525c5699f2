-- What is told of the names of a group where its graph begins.
use Rattle.std.proofs.Common.{◌≡◌, ℕ, ◌<◌, Bool, true, false, cond, List, [], ◌∷◌, length, Option, Some, None, refl, sym, ap, subst, ◌∙◌, ◌⊎◌, inl, inr, arith}
use Rattle.std.specs.Prelude.{slice_get, nat_lt}
use Rattle.std.specs.List.{list_any}
use Rattle.std.proofs.lemmas.Bool.{false≢true, cond-true, and_from, lt-ltb, eq-eqb}
use Rattle.std.proofs.lemmas.Option.{none-some, slice_get_within}
use Rattle.c_typed.specs.Types.{CType, literal_type}
use Rattle.c_typed.specs.Layouts.{StructDef}
use Rattle.c_typed.specs.Typed.{GlobalDef, LiteralDef}
use Rattle.tac_ir.specs.declared.register.Local.{Local}
use Rattle.tac_ir.specs.declared.register.Local.TheVariants.{Parameter}
use Rattle.tac_ir.specs.declared.register.Register.{Register}
use Rattle.tac_ir.specs.declared.register.Register.TheVariants as R
use Rattle.tac_ir.specs.Code as O
use Rattle.tac_ir.specs.Code.{Base, AtLocal, AtGlobal, AtLiteral, Pointed, Indexed, LocalObject, Function, Op, Tac}
use Rattle.tac_ir.specs.Values.{same_local}
use Rattle.tac_ir.specs.Layouts.{Inner}
use Rattle.tac_ir.specs.Objects.{whole, own_type, global_type, literal_object}
use Rattle.tac_ir.specs.States.{Owner, InFunction, function_of}
use Rattle.heap_graph.specs.Graphs.{Target, OfType, Flags, Node, Name, OfRegister, OfResult, OfObject, OfGlobal, OfLiteral, OfCopy, Graph, node_at}
use Rattle.heap_graph.specs.Escaping.{same_owner}
use Rattle.heap_graph.specs.Structures.{AreMade}
use Rattle.heap_graph.specs.Targets.{has_target, at_target, holds_part, is_array, elements_of, implies}
use Rattle.heap_graph.specs.Points.{is_data_pointer}
use Rattle.heap_graph.specs.Closed.{no_graph, parameters_of, has_register, has_object, of_function}
use Rattle.heap_graph.proofs.MapsCompose.{at_from}
use Rattle.heap_graph.proofs.StepsCompose.{kept_itself}
use Rattle.heap_graph.specs.Asks.{is_certain}
use Rattle.heap_graph.proofs.Certain.{certain_some}
use Rattle.graph_unification.specs.Adding.{HasOwnNode}
use Rattle.graph_unification.specs.GraphNames.First.{pointer_node, is_pointer_there, is_certain_register, of_register, of_inner, object_node, local_flags, static_flags, first_node, formal_at}
use Rattle.graph_unification.proofs.WholeFunction.{owner_eq, cond_some, register_first, result_first, object_first}
use Rattle.graph_unification.proofs.Leading as L
use Rattle.graph_unification.proofs.Leading.{own_node, others_kept, old_or_named}
use Rattle.graph_unification.specs.Going.{AllNamed}
use Rattle.graph_unification.specs.Standing.{BaseStands, OpStands, FunctionStands, CodeStands}
use Rattle.graph_unification.specs.Named.{BaseNamed, OpNamed, HasNames}
use Rattle.graph_unification.proofs.Fitting.{found_below}
use Rattle.dsa_local.specs.Mentioned.{is_global, is_literal, op_begins, any_begins, is_among}
use Rattle.dsa_local.specs.Beginning.{static_node, global_node, literal_node, function_node, member_node, group_node, Begins}
use Rattle.dsa_local.specs.Told.{IsObject, FunctionTold, StaticsTold, OnlyNames, NamesTold, NoCopies}
use Rattle.dsa_local.proofs.GroupBegins.Beginning.{each_at, at_each, first_true, either_true, passes, member_is, begins_at}

pub certain_has : (graph : Graph) (target : Option Target) → is_certain graph target ≡ true → has_target target ≡ true
certain_has graph None h = absurd (false≢true h)
certain_has graph (Some target) h = refl

implies_itself : (b : Bool) → implies b b ≡ true
implies_itself true = refl
implies_itself false = refl

-- the object of a node of its own
pub object_of_node : (structs : List StructDef) → AreMade structs → (graph : Graph) (name : Name) (number : ℕ) (c_type : CType) (flags : Flags) (has_flag : Flags → Bool)
    → graph.targets name ≡ Some (record { node = number; shift = 0 }) → node_at graph number ≡ Some (object_node c_type flags) → flags.certain ≡ true → has_flag flags ≡ true → flags.array ≡ is_array c_type
    → IsObject structs graph c_type has_flag (graph.targets name)
object_of_node structs made graph name number c_type flags has_flag target at certain flag array = record {
  certain = ap (is_certain graph) target ∙ (certain_some graph (record { node = number; shift = 0 }) (object_node c_type flags) at ∙ certain);
  part = holds (holds_part structs (elements_of c_type)) (kept_itself structs made (OfType (elements_of c_type)) flags []);
  flag = holds (λ node shift. has_flag node.flags) flag;
  array = holds (λ node shift. implies (is_array c_type) node.flags.array) (subst (λ b. implies (is_array c_type) b ≡ true) (sym array) (implies_itself (is_array c_type)));
}
  where
    holds : (what : Node → ℕ → Bool) → what (object_node c_type flags) 0 ≡ true → at_target graph (graph.targets name) what ≡ true
    holds what h = ap (λ t. at_target graph t what) target ∙ at_from graph (record { node = number; shift = 0 }) what (object_node c_type flags) at h

module _ (tac : Tac) (stands : CodeStands tac) (owners : List Owner) (graph : Graph) (begins : Begins tac owners graph) where
  -- ---- the node of a name

  own : (name : Name) (node : Node) → group_node tac owners name ≡ Some node → HasOwnNode no_graph graph name node
  own name node e = own_node (group_node tac owners) no_graph graph name node begins.adds e refl (begins.has name node e)

  certain_told : (name : Name) (node : Node) → group_node tac owners name ≡ Some node → node.flags.certain ≡ true → is_certain graph (graph.targets name) ≡ true
  certain_told name node e h =
      let its = own name node e in
      ap (is_certain graph) its.target ∙ (certain_some graph (record { node = its.number; shift = 0 }) node its.at ∙ h)

  object_told : (name : Name) (c_type : CType) (flags : Flags) (has_flag : Flags → Bool) → group_node tac owners name ≡ Some (object_node c_type flags) → flags.certain ≡ true → has_flag flags ≡ true
      → flags.array ≡ is_array c_type → IsObject tac.structs graph c_type has_flag (graph.targets name)
  object_told name c_type flags has_flag e certain flag array =
      let its = own name (object_node c_type flags) e in
      object_of_node tac.structs stands.made graph name its.number c_type flags has_flag its.target its.at certain flag array

  -- ---- variables outside functions, and literals

  global_is : (number : ℕ) (global : GlobalDef) → slice_get tac.globals number ≡ Some global → any_begins (is_global number) tac owners ≡ true
      → IsObject tac.structs graph global.c_type (λ flags. flags.global) (graph.targets (OfGlobal number))
  global_is number global is any =
      object_told (OfGlobal number) global.c_type (static_flags global.c_type) (λ flags. flags.global)
      (cond-true (any_begins (is_global number) tac owners) (global_node tac number) None any ∙ ap (λ o. static_node (global_type o)) is) refl refl refl

  literal_is : (number : ℕ) (literal : LiteralDef) → slice_get tac.literals number ≡ Some literal → any_begins (is_literal number) tac owners ≡ true
      → IsObject tac.structs graph (literal_type literal.bytes) (λ flags. flags.global) (graph.targets (OfLiteral number))
  literal_is number literal is any =
      object_told (OfLiteral number) (literal_type literal.bytes) (static_flags (literal_type literal.bytes)) (λ flags. flags.global)
      (cond-true (any_begins (is_literal number) tac owners) (literal_node tac number) None any ∙ ap (λ o. static_node (literal_object o)) is) refl refl refl

  -- a name that has a target has a first node
  found : (name : Name) → has_target (graph.targets name) ≡ true → (node : Node) × (group_node tac owners name ≡ Some node)
  found name has = by (group_node tac owners name) refl
    where
      by : (o : Option Node) → group_node tac owners name ≡ o → (node : Node) × (group_node tac owners name ≡ Some node)
      by (Some node) e = (node, e)
      by None e = absurd (false≢true (ap has_target (sym (others_kept (group_node tac owners) no_graph graph begins.adds name e)) ∙ has))

  statics : StaticsTold tac graph
  statics = record {
    globals = λ number global is has.
        let its = found (OfGlobal number) has in
        global_is number global is (cond_some (any_begins (is_global number) tac owners) (global_node tac number) its.0 its.1).0;
    literals = λ number literal is has.
        let its = found (OfLiteral number) has in
        literal_is number literal is (cond_some (any_begins (is_literal number) tac owners) (literal_node tac number) its.0 its.1).0;
  }

  -- ---- functions

  module _ (owner : Owner) (function : Function) (among : is_among owner owners ≡ true) (there : function_of tac owner ≡ Some function) where
    code : FunctionStands tac owner function
    code = stands.functions owner function there

    register_is : (register : Register) → has_register function register ≡ true → group_node tac owners (OfRegister owner register) ≡ Some (pointer_node (is_certain_register function register))
    register_is register has = member_is tac owners owner function among there (OfRegister owner register) ∙ register_first owner function register has

    local_is : (local : Local) (inner : Inner) → own_type function.objects local ≡ Some inner → IsObject tac.structs graph inner.c_type (λ flags. flags.stack) (graph.targets (OfObject owner local))
    local_is local inner e =
        object_told (OfObject owner local) inner.c_type (local_flags inner.c_type) (λ flags. flags.stack)
        (member_is tac owners owner function among there (OfObject owner local) ∙ object_first owner function local (object_node inner.c_type (local_flags inner.c_type)) (ap of_inner e)) refl refl refl

    base_named : (base : Base) → BaseStands tac owner function base → ((test : Base → Bool) → test base ≡ true → any_begins test tac owners ≡ true) → BaseNamed tac graph base
    base_named (AtGlobal number) less any =
        let here = any (is_global number) (eq-eqb number number refl) in
        let some = found_below tac.globals number less in
        record {
          has = certain_has graph (graph.targets (OfGlobal number)) (global_is number some.0 some.1 here).certain;
          part = λ global is. (global_is number global is here).part;
        }
    base_named (AtLiteral number) less any =
        let here = any (is_literal number) (eq-eqb number number refl) in
        let some = found_below tac.literals number less in
        record {
          has = certain_has graph (graph.targets (OfLiteral number)) (literal_is number some.0 some.1 here).certain;
          part = λ literal is. (literal_is number literal is here).part;
        }
    base_named (AtLocal local) stood any = tt
    base_named (Pointed pointer target) stood any = tt
    base_named (Indexed pointer target number) stood any = tt

    op_named : (op : Op) → OpStands tac owner function op → ((test : Base → Bool) → op_begins test op ≡ true → any_begins test tac owners ≡ true) → OpNamed tac graph op
    op_named (O.AddressOf to path) stood any = base_named path.base stood.1.base any
    op_named (O.Load to scalar path) stood any = base_named path.base stood.1.stands.base any
    op_named (O.Store path scalar value) stood any = base_named path.base stood.1.stands.base any
    op_named (O.Copy to from) stood any = tt
    op_named (O.Move to from element is_minus number) stood any = tt
    op_named (O.Repoint to target from) stood any = tt
    op_named (O.Allocate site size) stood any = tt
    op_named (O.Return value) stood any = tt
    op_named O.Reserved stood any = tt
    op_named (O.Jump to) stood any = tt
    op_named (O.Branch int_type condition holds fails) stood any = tt
    op_named (O.Assign to tree) stood any = tt
    op_named (O.Null to) stood any = tt
    op_named (O.FunctionAddress to callee) stood any = tt
    op_named (O.Test to pointer) stood any = tt
    op_named (O.Difference to element left right) stood any = tt
    op_named (O.ComparePointers to relation left right) stood any = tt
    op_named (O.Free site pointer) stood any = tt
    op_named (O.Call site callee arguments) stood any = tt
    op_named (O.GetChar site) stood any = tt
    op_named (O.PutChar site value) stood any = tt
    op_named (O.Exit status) stood any = tt

    names : HasNames tac graph owner function
    names = record {
      registers = λ register has. begins.has (OfRegister owner register) _ (register_is register has);
      result = begins.has (OfResult owner) _ (member_is tac owners owner function among there (OfResult owner) ∙ result_first owner function);
      objects = λ local inner e.
          let its = local_is local inner e in
          (certain_has graph (graph.targets (OfObject owner local)) its.certain, its.part);
      outside =
          let place = passes (λ other. same_owner other owner) owners among in
          each_at (OpNamed tac graph) function.points
          (λ at op point. op_named op (at_each (OpStands tac owner function) function.points code.points at op point) (λ test holds.
          begins_at tac owners test owner function place.at at op (place.is ∙ ap Some (owner_eq place.x owner place.holds)) there point holds));
    }

    formal_is : (called : ℕ) → owner ≡ InFunction called → (number : ℕ) (c_type : CType) → slice_get (parameters_of function.c_type) number ≡ Some c_type → is_data_pointer c_type ≡ true → is_certain graph (graph.targets (formal_at owner number)) ≡ true
    formal_is called same number c_type is pointer =
        let counted = stands.parameters called function (subst (λ own. function_of tac own ≡ Some function) same there) in
        let less : number < function.parameters = omega (arith, counted, slice_get_within (parameters_of function.c_type) number c_type is) in
        let register = R.Local (Parameter number) in
        certain_told (formal_at owner number) (pointer_node (is_certain_register function register)) (register_is register (lt-ltb number function.parameters less))
        (ap is_pointer_there is ∙ pointer)

    function_told : FunctionTold tac graph owner function
    function_told = record { names = names; formals = formal_is; locals = local_is }

  -- ---- all names

  name_is : (owner : Owner) (name : Name) (node : Node) → member_node tac owners owner name ≡ Some node → (holds : Function → Bool)
      → ((function : Function) → first_node owner function name ≡ Some node → holds function ≡ true) → (is_among owner owners ≡ true) × (of_function (function_of tac owner) holds ≡ true)
  name_is owner name node e holds gives =
      let its = cond_some (is_among owner owners) (function_node owner (function_of tac owner) name) node e in
      (its.0, by (function_of tac owner) its.1)
    where
      by : (o : Option Function) → function_node owner o name ≡ Some node → of_function o holds ≡ true
      by None e = absurd (none-some node e)
      by (Some function) e = gives function e

  local_in : (first : LocalObject) (others : List LocalObject) (local : Local) (node : Node) (b : Bool) → same_local first.local local ≡ b → of_inner (cond b (whole first.c_type) (own_type others local)) ≡ Some node
      → (of_inner (own_type others local) ≡ Some node → list_any (λ (object : LocalObject). same_local object.local local) others ≡ true)
      → list_any (λ (object : LocalObject). same_local object.local local) (first ∷ others) ≡ true
  local_in first others local node true is e rest = first_true (same_local first.local local) _ is
  local_in first others local node false is e rest = either_true (same_local first.local local) _ (rest e)

  has_local : (objects : List LocalObject) (local : Local) (node : Node) → of_inner (own_type objects local) ≡ Some node → list_any (λ (object : LocalObject). same_local object.local local) objects ≡ true
  has_local [] local node e = absurd (none-some node e)
  has_local (first ∷ others) local node e = local_in first others local node (same_local first.local local) refl e (has_local others local node)

  only : OnlyNames tac owners graph
  only (OfRegister owner register) own has =
      let its = found (OfRegister owner register) has in
      let both = name_is owner (OfRegister owner register) its.0 its.1 (λ function. has_register function register)
      (λ function e.
      (cond_some (has_register function register) (Some (pointer_node (is_certain_register function register))) its.0
      (cond_some (same_owner owner owner) (of_register function register) its.0 e).1).0) in
      and_from _ _ both.0 both.1
  only (OfResult owner) own has =
      let its = found (OfResult owner) has in
      (cond_some (is_among owner owners) (function_node owner (function_of tac owner) (OfResult owner)) its.0 its.1).0
  only (OfObject owner local) own has =
      let its = found (OfObject owner local) has in
      let both = name_is owner (OfObject owner local) its.0 its.1 (λ function. has_object function local)
      (λ function e. has_local function.objects local its.0 (cond_some (same_owner owner owner) (of_inner (own_type function.objects local)) its.0 e).1) in
      and_from _ _ both.0 both.1
  only (OfGlobal number) own has =
      let its = found (OfGlobal number) has in
      by its.0 (slice_get tac.globals number) refl (cond_some (any_begins (is_global number) tac owners) (global_node tac number) its.0 its.1).1
    where
      by : (node : Node) (o : Option GlobalDef) → slice_get tac.globals number ≡ o → static_node (global_type o) ≡ Some node → nat_lt number (length tac.globals) ≡ true
      by node None is e = absurd (none-some node e)
      by node (Some global) is e = lt-ltb number (length tac.globals) (slice_get_within tac.globals number global is)
  only (OfLiteral number) own has =
      let its = found (OfLiteral number) has in
      by its.0 (slice_get tac.literals number) refl (cond_some (any_begins (is_literal number) tac owners) (literal_node tac number) its.0 its.1).1
    where
      by : (node : Node) (o : Option LiteralDef) → slice_get tac.literals number ≡ o → static_node (literal_object o) ≡ Some node → nat_lt number (length tac.literals) ≡ true
      by node None is e = absurd (none-some node e)
      by node (Some literal) is e = lt-ltb number (length tac.literals) (slice_get_within tac.literals number literal is)
  only (OfCopy number) own has = absurd (false≢true (sym own))

  pub begins_told : NamesTold tac owners graph
  begins_told = record { functions = λ owner function among there. function_told owner function among there; statics = statics; only = only }

  pub begins_copies : NoCopies graph
  begins_copies number = others_kept (group_node tac owners) no_graph graph begins.adds (OfCopy number) refl

  pub begins_named : AllNamed graph
  begins_named number node e = by (old_or_named (group_node tac owners) no_graph graph begins.adds number node e)
    where
      by : (node_at no_graph number ≡ Some node) ⊎ L.IsNamed (group_node tac owners) graph number node → (name : Name) × (target : Target) × (graph.targets name ≡ Some target) × (target.node ≡ number)
      by (inl was) = absurd (none-some node was)
      by (inr named) = (named.name, record { node = number; shift = 0 }, named.target, refl)
