-- The graph with which a group begins can be mapped to the completed graph of the group in each closed family.
use Rattle.std.proofs.Common.{◌≡◌, ℕ, zero, suc, ◌+◌, ◌<◌, Bool, true, false, cond, List, [], ◌∷◌, ◌++◌, map, length, Option, Some, None, refl, sym, ap, subst, ◌∙◌, arith}
use Rattle.std.specs.Prelude.{◌==◌, slice_get, option_map, ◌&&◌}
use Rattle.std.specs.List.{list_any}
use Rattle.std.proofs.lemmas.Bool.{false≢true, and_parts, and_from, eqb-true}
use Rattle.std.proofs.lemmas.Option.{none-some, same_Some}
use Rattle.c_typed.specs.Types.{CType, literal_type}
use Rattle.c_typed.specs.Layouts.{StructDef}
use Rattle.c_typed.specs.Typed.{GlobalDef, LiteralDef}
use Rattle.tac_ir.specs.declared.register.Local.{Local}
use Rattle.tac_ir.specs.declared.register.Local.TheVariants as L
use Rattle.tac_ir.specs.Code as O
use Rattle.tac_ir.specs.Code.{Base, AtLocal, AtGlobal, AtLiteral, Pointed, Indexed, LocalObject, Function, Op}
use Rattle.tac_ir.specs.Layouts.{Inner}
use Rattle.tac_ir.specs.Objects.{whole, own_type}
use Rattle.tac_ir.specs.Values.{same_local}
use Rattle.tac_ir.specs.States.{Owner, InStart, InFunction, function_of, points_of}
use Rattle.heap_graph.specs.Graphs.{Target, Flags, Node, Name, OfRegister, OfResult, OfObject, OfGlobal, OfLiteral, Graph, there}
use Rattle.heap_graph.specs.Targets.{has_target, at_target, is_collapsed, holds_part, is_array, elements_of, implies, marks_kept}
use Rattle.heap_graph.specs.Points.{is_data_pointer}
use Rattle.heap_graph.specs.Closed.{Family, graph_of, formal, parameters_of, formals_closed, object_closed, locals_closed, globals_closed, literals_closed, base_mentioned, mentions_closed, ops_closed, FunctionClosed, GraphClosed, is_slot}
use Rattle.heap_graph.specs.Merging.{GraphMap, Maps}
use Rattle.heap_graph.proofs.MapsCompose.{at_some, at_there, at_from}
use Rattle.heap_graph.specs.Asks.{is_certain}
use Rattle.heap_graph.specs.Restricted.{SameFlags}
use Rattle.heap_graph.specs.Completed.{or_target, completed_node, nothing_node, nothing_in, completed, HasNodes}
use Rattle.heap_graph.proofs.Certain.{target_of_certain}
use Rattle.heap_graph.proofs.CompletedGraph.{closed_has_nodes}
use Rattle.heap_graph.proofs.CompletedNames.{object_depends, name_certain, at_completed, certain_has, at_name}
use Rattle.graph_unification.specs.GraphNames.First.{is_pointer_there, formal_at, local_flags}
use Rattle.graph_unification.specs.Fitting.{FunctionFits}
use Rattle.dsa_local.specs.Mentioned.{is_global, is_literal, op_begins, owner_begins, any_begins, is_among}
use Rattle.dsa_local.specs.Beginning.{Begins}
use Rattle.dsa_local.specs.Told.{IsObject, GroupFits}
use Rattle.dsa_local.proofs.GroupBegins.Beginning.{passes, among_at}
use Rattle.dsa_local.proofs.GroupBegins.Leading.{group_fits, begins_leads}

-- ---- completed graphs

last_in : (change : Node → Node) (last : Node) (nodes : List (Option Node)) → there (slice_get (map (option_map change) nodes ++ Some last ∷ []) (length nodes)) ≡ Some last
last_in change last [] = refl
last_in change last (first ∷ nodes) = last_in change last nodes

module _ (bound : ℕ) (graph : Graph) (sound : HasNodes graph) where
  completed_has : (name : Name) → has_target ((completed bound graph).targets name) ≡ true
  completed_has name = by (graph.targets name)
    where
      by : (t : Option Target) → has_target (or_target (nothing_in graph) t) ≡ true
      by None = refl
      by (Some target) = refl

  completed_slot : (name : Name) → is_slot (completed bound graph) ((completed bound graph).targets name) ≡ true
  completed_slot name = by (graph.targets name) refl
    where
      by : (t : Option Target) → graph.targets name ≡ t → is_slot (completed bound graph) (or_target (nothing_in graph) t) ≡ true
      by None e =
          at_from (completed bound graph) (nothing_in graph) (λ node shift. implies (is_collapsed node.element) (shift == 0)) (nothing_node (nothing_in graph))
          (last_in (completed_node bound (nothing_in graph)) (nothing_node (nothing_in graph)) graph.nodes) refl
      by (Some target) e =
          at_completed bound graph sound (Some target) (λ node shift. implies (is_collapsed node.element) (shift == 0))
          (λ a b shift element flags. ap (λ x. implies (is_collapsed x) (shift == 0)) element) (name_certain bound graph sound name target e)
          ∙ subst (λ t. is_slot graph t ≡ true) e (sound.names name)

-- what holds of the node of a target, each by itself
split_at : (graph : Graph) (target : Option Target) (one two : Node → ℕ → Bool) → at_target graph target (λ node shift. one node shift && two node shift) ≡ true
    → (at_target graph target one ≡ true) × (at_target graph target two ≡ true)
split_at graph None one two h = (refl, refl)
split_at graph (Some target) one two h =
    let it = at_there graph target (λ node shift. one node shift && two node shift) h in
    let parts = and_parts (one it.node target.shift) (two it.node target.shift) it.so in
    (at_from graph target one it.node it.is parts.0, at_from graph target two it.node it.is parts.1)

-- an object of a closed graph is one of the completed graph
module _ (family : Family) (one : Owner) (bound : ℕ) (sound : HasNodes (graph_of family one)) where
  object_fits : (name : Name) (c_type : CType) (kind : Flags → Bool) → ((a b : Flags) → SameFlags a b → kind a ≡ kind b) → object_closed family one c_type kind ((graph_of family one).targets name) ≡ true
      → IsObject family.tac.structs (completed bound (graph_of family one)) c_type kind ((completed bound (graph_of family one)).targets name)
  object_fits name c_type kind same closed =
      let structs = family.tac.structs in
      let graph = completed bound (graph_of family one) in
      let target = graph.targets name in
      let both = and_parts (is_certain graph target) _
      (at_name bound (graph_of family one) sound name (λ node shift. holds_part structs (elements_of c_type) node shift && (kind node.flags && implies (is_array c_type) node.flags.array))
      (object_depends structs c_type kind same) closed) in
      let part = split_at graph target (holds_part structs (elements_of c_type)) (λ node shift. kind node.flags && implies (is_array c_type) node.flags.array) both.1 in
      let flags = split_at graph target (λ node shift. kind node.flags) (λ node shift. implies (is_array c_type) node.flags.array) part.1 in
      record { certain = both.0; part = part.0; flag = flags.0; array = flags.1 }

local_kept : (c_type : CType) (flags : Flags) → flags.certain ≡ true → flags.stack ≡ true → implies (is_array c_type) flags.array ≡ true → marks_kept (local_flags c_type) flags ≡ true
local_kept c_type flags certain stack array = and_from flags.certain _ certain (and_from flags.stack _ stack (and_from _ true array refl))

-- the flags of a local in memory
local_marks : (structs : List StructDef) (graph : Graph) (target : Option Target) (c_type : CType) → IsObject structs graph c_type (λ flags. flags.stack) target
    → at_target graph target (λ image shift. marks_kept (local_flags c_type) image.flags) ≡ true
local_marks structs graph target c_type its =
    let found = target_of_certain graph target its.certain in
    let node = found.2 in
    let so : (holds : Node → ℕ → Bool) → at_target graph target holds ≡ true → holds node.node found.0.shift ≡ true = λ holds h.
    sym (at_some graph found.0 holds node.node node.is) ∙ (ap (λ t. at_target graph t holds) (sym found.1) ∙ h) in
    ap (λ t. at_target graph t (λ image shift. marks_kept (local_flags c_type) image.flags)) found.1
    ∙ at_from graph found.0 (λ image shift. marks_kept (local_flags c_type) image.flags) node.node node.is
    (local_kept c_type node.node.flags node.so (so (λ n shift. n.flags.stack) its.flag) (so (λ n shift. implies (is_array c_type) n.flags.array) its.array))

certain_at : (graph : Graph) (target : Option Target) → is_certain graph target ≡ true → at_target graph target (λ image shift. image.flags.certain) ≡ true
certain_at graph target h =
    let found = target_of_certain graph target h in
    ap (λ t. at_target graph t (λ image shift. image.flags.certain)) found.1 ∙ at_from graph found.0 (λ image shift. image.flags.certain) found.2.node found.2.is found.2.so

-- ---- lists of what is closed

local_eq : (a b : Local) → same_local a b ≡ true → a ≡ b
local_eq (L.Parameter a) (L.Parameter b) h = ap L.Parameter (eqb-true a b h)
local_eq (L.Parameter a) (L.Variable b) h = absurd (false≢true h)
local_eq (L.Variable a) (L.Parameter b) h = absurd (false≢true h)
local_eq (L.Variable a) (L.Variable b) h = ap L.Variable (eqb-true a b h)

module _ (family : Family) (owner : Owner) where
  formal_closed : (number first : ℕ) (types : List CType) → formals_closed family owner number first types ≡ true → (at index : ℕ) (c_type : CType) → at ≡ first + index → slice_get types index ≡ Some c_type
      → is_data_pointer c_type ≡ true → has_target ((graph_of family owner).targets (formal number at)) ≡ true
  formal_closed number first [] closed at index c_type same found pointer = absurd (none-some c_type found)
  formal_closed number first (own ∷ types) closed at zero c_type same found pointer =
      let here = (and_parts _ _ closed).0 in
      let is : own ≡ c_type = same_Some own c_type found in
      let place : first ≡ at = omega (arith, same) in
      subst (λ n. has_target ((graph_of family owner).targets (formal number n)) ≡ true) place
      (implied (is_data_pointer own) (has_target ((graph_of family owner).targets (formal number first))) here (ap is_data_pointer is ∙ pointer))
    where
      implied : (a b : Bool) → implies a b ≡ true → a ≡ true → b ≡ true
      implied true b h e = h
      implied false b h e = absurd (false≢true e)
  formal_closed number first (own ∷ types) closed at (suc index) c_type same found pointer =
      formal_closed number (suc first) types (and_parts (implies (is_data_pointer own) (has_target ((graph_of family owner).targets (formal number first)))) _ closed).1 at index c_type (omega (arith, same)) found pointer

  local_in : (b : Bool) (first : LocalObject) (others : List LocalObject) (local : Local) (inner : Inner) → same_local first.local local ≡ b → cond b (whole first.c_type) (own_type others local) ≡ Some inner
      → object_closed family owner first.c_type (λ flags. flags.stack) ((graph_of family owner).targets (OfObject owner first.local)) ≡ true
      → (own_type others local ≡ Some inner → object_closed family owner inner.c_type (λ flags. flags.stack) ((graph_of family owner).targets (OfObject owner local)) ≡ true)
      → object_closed family owner inner.c_type (λ flags. flags.stack) ((graph_of family owner).targets (OfObject owner local)) ≡ true
  local_in true first others local inner same e closed rest =
      subst (λ (i : Inner). object_closed family owner i.c_type (λ flags. flags.stack) ((graph_of family owner).targets (OfObject owner local)) ≡ true)
      (same_Some (record { offset = 0; c_type = first.c_type }) inner e)
      (subst (λ n. object_closed family owner first.c_type (λ flags. flags.stack) ((graph_of family owner).targets (OfObject owner n)) ≡ true) (local_eq first.local local same) closed)
  local_in false first others local inner same e closed rest = rest e

  local_closed : (objects : List LocalObject) → locals_closed family owner objects ≡ true → (local : Local) (inner : Inner) → own_type objects local ≡ Some inner
      → object_closed family owner inner.c_type (λ flags. flags.stack) ((graph_of family owner).targets (OfObject owner local)) ≡ true
  local_closed [] closed local inner e = absurd (none-some inner e)
  local_closed (first ∷ others) closed local inner e =
      let both = and_parts (object_closed family owner first.c_type (λ flags. flags.stack) ((graph_of family owner).targets (OfObject owner first.local))) (locals_closed family owner others) closed in
      local_in (same_local first.local local) first others local inner refl e both.0 (local_closed others both.1 local inner)

  mention_closed : (ops : List Op) → ops_closed family owner ops ≡ true → (at : ℕ) (op : Op) → slice_get ops at ≡ Some op → mentions_closed family owner op ≡ true
  mention_closed [] closed at op is = absurd (none-some op is)
  mention_closed (first ∷ ops) closed zero op is = subst (λ o. mentions_closed family owner o ≡ true) (same_Some first op is) (and_parts (mentions_closed family owner first) _ closed).0
  mention_closed (first ∷ ops) closed (suc at) op is = mention_closed ops (and_parts _ (ops_closed family owner ops) (and_parts (mentions_closed family owner first) _ closed).1).1 at op is

  base_closed : (test : Base → Bool) (op : Op) → op_begins test op ≡ true → mentions_closed family owner op ≡ true → (base : Base) × (test base ≡ true) × (base_mentioned family owner base ≡ true)
  base_closed test (O.AddressOf to path) begins closed = (path.base, begins, closed)
  base_closed test (O.Load to scalar path) begins closed = (path.base, begins, closed)
  base_closed test (O.Store path scalar value) begins closed = (path.base, begins, closed)
  base_closed test (O.Copy to from) begins closed = absurd (false≢true begins)
  base_closed test (O.Move to from element is_minus number) begins closed = absurd (false≢true begins)
  base_closed test (O.Repoint to target from) begins closed = absurd (false≢true begins)
  base_closed test (O.Allocate site size) begins closed = absurd (false≢true begins)
  base_closed test (O.Return value) begins closed = absurd (false≢true begins)
  base_closed test O.Reserved begins closed = absurd (false≢true begins)
  base_closed test (O.Jump to) begins closed = absurd (false≢true begins)
  base_closed test (O.Branch int_type condition holds fails) begins closed = absurd (false≢true begins)
  base_closed test (O.Assign to tree) begins closed = absurd (false≢true begins)
  base_closed test (O.Null to) begins closed = absurd (false≢true begins)
  base_closed test (O.FunctionAddress to callee) begins closed = absurd (false≢true begins)
  base_closed test (O.Test to pointer) begins closed = absurd (false≢true begins)
  base_closed test (O.Difference to element left right) begins closed = absurd (false≢true begins)
  base_closed test (O.ComparePointers to relation left right) begins closed = absurd (false≢true begins)
  base_closed test (O.Free site pointer) begins closed = absurd (false≢true begins)
  base_closed test (O.Call site callee arguments) begins closed = absurd (false≢true begins)
  base_closed test (O.GetChar site) begins closed = absurd (false≢true begins)
  base_closed test (O.PutChar site value) begins closed = absurd (false≢true begins)
  base_closed test (O.Exit status) begins closed = absurd (false≢true begins)

  global_mentioned : (number : ℕ) (base : Base) → is_global number base ≡ true → base_mentioned family owner base ≡ true → has_target ((graph_of family owner).targets (OfGlobal number)) ≡ true
  global_mentioned number (AtGlobal other) is has = subst (λ n. has_target ((graph_of family owner).targets (OfGlobal n)) ≡ true) (eqb-true other number is) has
  global_mentioned number (AtLocal local) is has = absurd (false≢true is)
  global_mentioned number (AtLiteral other) is has = absurd (false≢true is)
  global_mentioned number (Pointed pointer target) is has = absurd (false≢true is)
  global_mentioned number (Indexed pointer target index) is has = absurd (false≢true is)

  literal_mentioned : (number : ℕ) (base : Base) → is_literal number base ≡ true → base_mentioned family owner base ≡ true → has_target ((graph_of family owner).targets (OfLiteral number)) ≡ true
  literal_mentioned number (AtLiteral other) is has = subst (λ n. has_target ((graph_of family owner).targets (OfLiteral n)) ≡ true) (eqb-true other number is) has
  literal_mentioned number (AtLocal local) is has = absurd (false≢true is)
  literal_mentioned number (AtGlobal other) is has = absurd (false≢true is)
  literal_mentioned number (Pointed pointer target) is has = absurd (false≢true is)
  literal_mentioned number (Indexed pointer target index) is has = absurd (false≢true is)

  global_in : (first : ℕ) (globals : List GlobalDef) → globals_closed family owner first globals ≡ true → (at index : ℕ) (global : GlobalDef) → at ≡ first + index → slice_get globals index ≡ Some global
      → has_target ((graph_of family owner).targets (OfGlobal at)) ≡ true → object_closed family owner global.c_type (λ flags. flags.global) ((graph_of family owner).targets (OfGlobal at)) ≡ true
  global_in first [] closed at index global same found has = absurd (none-some global found)
  global_in first (own ∷ others) closed at zero global same found has =
      let here = (and_parts _ (globals_closed family owner (suc first) others) closed).0 in
      let place : first ≡ at = omega (arith, same) in
      by (has_target ((graph_of family owner).targets (OfGlobal at)))
      (subst (λ (d : GlobalDef). implies (has_target ((graph_of family owner).targets (OfGlobal at))) (object_closed family owner d.c_type (λ flags. flags.global) ((graph_of family owner).targets (OfGlobal at))) ≡ true)
      (same_Some own global found)
      (subst (λ n. implies (has_target ((graph_of family owner).targets (OfGlobal n))) (object_closed family owner own.c_type (λ flags. flags.global) ((graph_of family owner).targets (OfGlobal n))) ≡ true) place here))
      has
    where
      by : (b : Bool) → implies b (object_closed family owner global.c_type (λ flags. flags.global) ((graph_of family owner).targets (OfGlobal at))) ≡ true → b ≡ true
          → object_closed family owner global.c_type (λ flags. flags.global) ((graph_of family owner).targets (OfGlobal at)) ≡ true
      by true h e = h
      by false h e = absurd (false≢true e)
  global_in first (own ∷ others) closed at (suc index) global same found has =
      global_in (suc first) others (and_parts _ (globals_closed family owner (suc first) others) closed).1 at index global (omega (arith, same)) found has

  literal_in : (first : ℕ) (literals : List LiteralDef) → literals_closed family owner first literals ≡ true → (at index : ℕ) (literal : LiteralDef) → at ≡ first + index → slice_get literals index ≡ Some literal
      → has_target ((graph_of family owner).targets (OfLiteral at)) ≡ true → object_closed family owner (literal_type literal.bytes) (λ flags. flags.global) ((graph_of family owner).targets (OfLiteral at)) ≡ true
  literal_in first [] closed at index literal same found has = absurd (none-some literal found)
  literal_in first (own ∷ others) closed at zero literal same found has =
      let here = (and_parts _ (literals_closed family owner (suc first) others) closed).0 in
      let place : first ≡ at = omega (arith, same) in
      by (has_target ((graph_of family owner).targets (OfLiteral at)))
      (subst
      (λ (d : LiteralDef). implies (has_target ((graph_of family owner).targets (OfLiteral at))) (object_closed family owner (literal_type d.bytes) (λ flags. flags.global) ((graph_of family owner).targets (OfLiteral at))) ≡ true)
      (same_Some own literal found)
      (subst (λ n. implies (has_target ((graph_of family owner).targets (OfLiteral n))) (object_closed family owner (literal_type own.bytes) (λ flags. flags.global) ((graph_of family owner).targets (OfLiteral n))) ≡ true) place here))
      has
    where
      by : (b : Bool) → implies b (object_closed family owner (literal_type literal.bytes) (λ flags. flags.global) ((graph_of family owner).targets (OfLiteral at))) ≡ true → b ≡ true
          → object_closed family owner (literal_type literal.bytes) (λ flags. flags.global) ((graph_of family owner).targets (OfLiteral at)) ≡ true
      by true h e = h
      by false h e = absurd (false≢true e)
  literal_in first (own ∷ others) closed at (suc index) literal same found has =
      literal_in (suc first) others (and_parts _ (literals_closed family owner (suc first) others) closed).1 at index literal (omega (arith, same)) found has

-- ---- the group

-- a function of the group is closed, and its graph is the group's
pub record IsMember (family : Family) (one owner : Owner) (function : Function) : Type 0 where
  pub closed : FunctionClosed family owner function
  pub graph : graph_of family owner ≡ graph_of family one

module _ (family : Family) (owners : List Owner) (one : Owner) (test : Owner → Bool) (bound : ℕ) (start : family.tac.start.parameters ≡ 0) (closed : GraphClosed family (graph_of family one) test one)
    (members : (owner : Owner) (function : Function) → is_among owner owners ≡ true → function_of family.tac owner ≡ Some function → IsMember family one owner function) where
  sound : HasNodes (graph_of family one)
  sound = closed_has_nodes family (graph_of family one) test one closed

  -- a formal that is a pointer to an object or to void has a target
  formal_there : (owner : Owner) (function : Function) → function_of family.tac owner ≡ Some function → FunctionClosed family owner function → (number : ℕ) → number < function.parameters
      → is_pointer_there (slice_get (parameters_of function.c_type) number) ≡ true → has_target ((graph_of family owner).targets (formal_at owner number)) ≡ true
  formal_there InStart function there its number less pointer =
      let none : function.parameters ≡ 0 = ap (λ (f : Function). f.parameters) (sym (same_Some family.tac.start function there)) ∙ start in
      absurd (omega (arith, none, less))
  formal_there (InFunction own) function there its number less pointer = by (slice_get (parameters_of function.c_type) number) refl pointer
    where
      by : (o : Option CType) → slice_get (parameters_of function.c_type) number ≡ o → is_pointer_there o ≡ true → has_target ((graph_of family (InFunction own)).targets (formal_at (InFunction own) number)) ≡ true
      by None e h = absurd (false≢true h)
      by (Some c_type) e h = formal_closed family (InFunction own) own 0 (parameters_of function.c_type) (its.formals own refl) number number c_type (omega arith) e h

  member_fits : (owner : Owner) (function : Function) → function_of family.tac owner ≡ Some function → IsMember family one owner function
      → FunctionFits family.tac.structs (completed bound (graph_of family one)) owner function
  member_fits owner function there its =
      let structs = family.tac.structs in
      let graph = completed bound (graph_of family one) in
      let local : (l : Local) (inner : Inner) → own_type function.objects l ≡ Some inner → IsObject structs graph inner.c_type (λ flags. flags.stack) (graph.targets (OfObject owner l)) = λ l inner e.
      object_fits family one bound sound (OfObject owner l) inner.c_type (λ flags. flags.stack) (λ a b same. same.stack)
      (subst (λ g. (has_target (g.targets (OfObject owner l))
      && at_target g (g.targets (OfObject owner l)) (λ node shift. holds_part structs (elements_of inner.c_type) node shift && (node.flags.stack && implies (is_array inner.c_type) node.flags.array))) ≡ true) its.graph
      (local_closed family owner function.objects its.closed.locals l inner e)) in
      record {
        slots = completed_slot bound (graph_of family one) sound;
        registers = λ register has. completed_has bound (graph_of family one) sound (OfRegister owner register);
        formals = λ number less pointer.
            certain_at graph (graph.targets (formal_at owner number))
            (certain_has bound (graph_of family one) sound (formal_at owner number)
            ∙ (ap (λ (g : Graph). has_target (g.targets (formal_at owner number))) (sym its.graph) ∙ formal_there owner function there its.closed number less pointer));
        result = completed_has bound (graph_of family one) sound (OfResult owner);
        objects = λ l inner e. completed_has bound (graph_of family one) sound (OfObject owner l);
        elements = λ l inner e. (local l inner e).part;
        flags = λ l inner e. local_marks structs graph (graph.targets (OfObject owner l)) inner.c_type (local l inner e);
      }

  -- what a path of the group begins with is mentioned
  base_there : (test : Base → Bool) → any_begins test family.tac owners ≡ true → (owner : Owner) × (base : Base) × (graph_of family owner ≡ graph_of family one) × (test base ≡ true) × (base_mentioned family owner base ≡ true)
  base_there test any =
      let found = passes (owner_begins test family.tac) owners any in
      by found.x (among_at family.tac owners found.x found.at found.is) (function_of family.tac found.x) refl found.holds
    where
      by : (owner : Owner) → is_among owner owners ≡ true → (o : Option Function) → function_of family.tac owner ≡ o → list_any (op_begins test) (points_of o) ≡ true
          → (owner : Owner) × (base : Base) × (graph_of family owner ≡ graph_of family one) × (test base ≡ true) × (base_mentioned family owner base ≡ true)
      by owner among None e h = absurd (false≢true h)
      by owner among (Some function) e h =
          let its = members owner function among e in
          let point = passes (op_begins test) function.points h in
          let base = base_closed family owner test point.x point.holds (mention_closed family owner function.points its.closed.points point.at point.x point.is) in
          (owner, base.0, its.graph, base.1, base.2)

  pub closed_fits : GroupFits family.tac owners (completed bound (graph_of family one))
  closed_fits = record {
    slots = completed_slot bound (graph_of family one) sound;
    functions = λ owner function among there. member_fits owner function there (members owner function among there);
    globals = λ number global is any.
        let base = base_there (is_global number) any in
        let has = ap (λ (g : Graph). has_target (g.targets (OfGlobal number))) (sym base.2) ∙ global_mentioned family base.0 number base.1 base.3 base.4 in
        object_fits family one bound sound (OfGlobal number) global.c_type (λ flags. flags.global) (λ a b same. same.global)
        (global_in family one 0 family.tac.globals closed.globals number number global (omega arith) is has);
    literals = λ number literal is any.
        let base = base_there (is_literal number) any in
        let has = ap (λ (g : Graph). has_target (g.targets (OfLiteral number))) (sym base.2) ∙ literal_mentioned family base.0 number base.1 base.3 base.4 in
        object_fits family one bound sound (OfLiteral number) (literal_type literal.bytes) (λ flags. flags.global) (λ a b same. same.global)
        (literal_in family one 0 family.tac.literals closed.literals number number literal (omega arith) is has);
  }

  pub closed_leads : (graph : Graph) → Begins family.tac owners graph → (into : GraphMap) × Maps family.tac.structs graph (completed bound (graph_of family one)) into
  closed_leads graph begins =
      begins_leads family.tac.structs family.tac owners graph (completed bound (graph_of family one)) begins (group_fits family.tac owners (completed bound (graph_of family one)) closed_fits)
