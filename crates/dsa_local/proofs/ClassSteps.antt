-- The functions of a class are joined with the first of it, and so with each other.
use Rattle.std.proofs.Common.{◌≡◌, ℕ, ◌<◌, ◌≤◌, Bool, true, false, List, [], ◌∷◌, length, inl, inr, Some, None, refl, sym, ap, subst, ◌∙◌, arith, lt-ltb}
use Rattle.std.specs.Prelude.{slice_get}
use Rattle.std.proofs.lemmas.Bool.{false≢true}
use Rattle.std.proofs.lemmas.Option.{none-some, same_Some, slice_get_within}
use Rattle.c_typed.specs.Types.{CType}
use Rattle.c_typed.specs.Layouts.{StructDef}
use Rattle.tac_ir.specs.declared.register.Register.{Register}
use Rattle.tac_ir.specs.declared.register.Register.TheVariants as R
use Rattle.tac_ir.specs.declared.register.Local.TheVariants as L
use Rattle.tac_ir.specs.Code.{Callee, Known, Through, Function, Tac}
use Rattle.tac_ir.specs.States.{InFunction}
use Rattle.tac_ir.specs.Targets.{is_target}
use Rattle.tac_ir.specs.Groups.{IsIn}
use Rattle.call_graph.specs.RowLists.{Has}
use Rattle.call_graph.proofs.RowLists.{has_at, at_has, some_at}
use Rattle.call_graph.specs.TargetLists.{AreTargets, IsFirstTarget, IsClassOf}
use Rattle.call_graph.proofs.TargetFacts.{some_first}
use Rattle.call_graph.specs.GroupViews.{groups_of, IsOf}
use Rattle.heap_graph.specs.Structures.{AreMade}
use Rattle.heap_graph.specs.Graphs.{Name, OfResult, Graph}
use Rattle.heap_graph.specs.Targets.{has_target}
use Rattle.heap_graph.specs.Closed.{parameters_of, type_of, function_type, formal}
use Rattle.graph_unification.specs.Standing.{CodeStands}
use Rattle.dsa_local.specs.declared.members.Group.{Group}
use Rattle.dsa_local.specs.declared.called.CalledClasses.{CalledClasses}
use Rattle.dsa_local.specs.Joined.{HaveOne, AreJoined, IsCalled, ClassJoined, ClassesJoined, Joins, HasOwn, AllHaveOwn, BothNamed}
use Rattle.dsa_local.specs.Called.{call_at, AreCalled}
use Rattle.dsa_local.specs.Members.{code_of, is_inside}
use Rattle.dsa_local.proofs.Joining.{Below, AtEach, joins_for}
use Rattle.dsa_local.proofs.CalledSteps.{target_within}
use Rattle.dsa_local.proofs.Inside.{one_type, type_told, in_list}

-- ---- functions that share formals and result

module _ (tac : Tac) (graph : Graph) where
  -- two that share them with a third do so
  pub joined_by : (first a b : ℕ) → function_type tac a ≡ function_type tac first → AreJoined tac first a graph → AreJoined tac first b graph → AreJoined tac a b graph
  joined_by first a b same one other = record {
    formals = λ number less. both (formal first number) (formal a number) (formal b number) (one.formals number (within number less)) (other.formals number (within number less));
    result = both (OfResult (InFunction first)) (OfResult (InFunction a)) (OfResult (InFunction b)) one.result other.result;
  }
    where
      within : (number : ℕ) → number < length (parameters_of (function_type tac a)) → number < length (parameters_of (function_type tac first))
      within number less = subst (λ t. number < length (parameters_of t)) same less

      both : (x y z : Name) → HaveOne x y graph → HaveOne x z graph → HaveOne y z graph
      both x y z one other = record { target = one.target; first = one.second; second = other.second ∙ (sym other.first ∙ one.first) }

-- ---- what has targets

module _ (tac : Tac) (code : CodeStands tac) (inside : ℕ → Bool) (graph : Graph) (all : AllHaveOwn tac inside graph) where
  own_of : (function : ℕ) → function < length tac.functions → inside function ≡ true → (its : Function) × (slice_get tac.functions function ≡ Some its) × HasOwn (InFunction function) its graph
  own_of function less is = let found = some_at tac.functions function less in (found.0, found.1, all function found.0 found.1 is)

  pub formals_named : (function : ℕ) → function < length tac.functions → inside function ≡ true → (number : ℕ) → number < length (parameters_of (function_type tac function))
      → has_target (graph.targets (formal function number)) ≡ true
  formals_named function less is number within =
      let own = own_of function less is in
      let many = code.parameters function own.0 own.1 in
      let told = ap (λ f. length (parameters_of (type_of f))) own.1 in
      own.2.registers (R.Local (L.Parameter number)) (lt-ltb number own.0.parameters (omega (arith, within, many, told)))

  pub result_named : (function : ℕ) → function < length tac.functions → inside function ≡ true → has_target (graph.targets (OfResult (InFunction function))) ≡ true
  result_named function less is = (own_of function less is).2.result

  pub two_named : (a b : ℕ) → a < length tac.functions → b < length tac.functions → inside a ≡ true → inside b ≡ true → function_type tac a ≡ function_type tac b → BothNamed tac a b graph
  two_named a b less also is other same = record {
    formals = λ number within. (formals_named a less is number within, formals_named b also other number (subst (λ t. number < length (parameters_of t)) same within));
    results = (result_named a less is, result_named b also other);
  }

-- ---- the class that begins with a function

-- a call through a pointer
pub record IsThrough (tac : Tac) (callee : Callee) (first : ℕ) : Type 0 where
  pub pointer : Register
  pub c_type : CType
  pub is : callee ≡ Through pointer c_type
  pub starts : IsFirstTarget tac (Through pointer c_type) (Some first)

pub is_through : (tac : Tac) (callee : Callee) (first : ℕ) → IsClassOf tac callee (Some first) → IsThrough tac callee first
is_through tac (Known function) first class = absurd (none-some first (sym class))
is_through tac (Through pointer c_type) first class = record { pointer = pointer; c_type = c_type; is = refl; starts = class }

-- which functions calls may reach through pointers is told by their types
other_target : (tac : Tac) (p q : Register) (c d : CType) (first other : ℕ) → is_target tac (Through p c) first ≡ true → is_target tac (Through q d) first ≡ true → is_target tac (Through p c) other ≡ true
    → is_target tac (Through q d) other ≡ true
other_target tac p q c d first other one two is =
    let same : c ≡ d = sym (type_told tac p c first one) ∙ type_told tac q d first two in
    subst (λ t. is_target tac (Through q t) other ≡ true) same is

module _ (tac : Tac) (inside : ℕ → Bool) (callee : Callee) (first : ℕ) (called : IsCalled tac callee) (class : IsClassOf tac callee (Some first)) (targets : List ℕ) (are : AreTargets tac callee targets) where
  abbrev its : IsThrough tac callee first
  its = is_through tac callee first class

  abbrev Through' : Callee
  Through' = Through its.pointer its.c_type

  listed : (function : ℕ) → Has targets function → is_target tac Through' function ≡ true
  listed function has = subst (λ (c : Callee). is_target tac c function ≡ true) its.is ((are.each function).0 has)

  list_of : (function : ℕ) → is_target tac Through' function ≡ true → Has targets function
  list_of function is = (are.each function).1 (subst (λ (c : Callee). is_target tac c function ≡ true) (sym its.is) is)

  -- each of them is joined with the first
  abbrev pub Each : ℕ → Graph → Type 0
  Each k graph = (other : ℕ) → slice_get targets k ≡ Some other → AreJoined tac first other graph

  pub first_listed : Has targets first
  first_listed = list_of first its.starts.0

  pub listed_within : (function : ℕ) → Has targets function → function < length tac.functions
  listed_within function has = target_within tac its.pointer its.c_type function (listed function has)

  pub listed_type : (a b : ℕ) → Has targets a → Has targets b → function_type tac a ≡ function_type tac b
  listed_type a b one other = one_type tac its.pointer its.c_type a b (listed a one) (listed b other)

  pub each_joined : (graph : Graph) (count : ℕ) → length targets ≤ count → Below Each count graph → ClassJoined tac inside first graph
  each_joined graph count long all = λ other shared starts.
      let has = list_of other (other_target tac shared.pointer its.pointer shared.c_type its.c_type first other shared.first its.starts.0 shared.second) in
      let at = at_has targets other has in
      let less = slice_get_within targets at.0 other at.1 in
      all at.0 (omega (arith, less, long)) other at.1

  pub each_wanted : ((function : ℕ) → Has targets function → inside function ≡ true) → (graph : Graph) (count : ℕ) → ClassJoined tac inside first graph → Below Each count graph
  each_wanted all graph count joined = λ k less other at.
      joined other
      (record {
        pointer = its.pointer;
        c_type = its.c_type;
        called = subst (λ (c : Callee). IsCalled tac c) its.is called;
        within = λ function is. all function (list_of function is);
        first = its.starts.0;
        second = listed other (has_at targets k other at);
      })
      its.starts

  pub class_done : (structs : List StructDef) → AreMade structs → ((function : ℕ) → Has targets function → inside function ≡ true) → (old new : Graph) (count : ℕ) → length targets ≤ count
      → Joins structs old new (Below (AtEach (AreJoined tac first) targets) count) → Joins structs old new (ClassJoined tac inside first)
  class_done structs made all old new count long joins =
      joins_for structs made old new (Below Each count) (ClassJoined tac inside first) (λ graph joined. each_wanted all graph count joined) (each_joined new count long) joins

  -- a class that isn't inside asks nothing
  pub not_inside : (graph : Graph) (outside : ℕ) → Has targets outside → inside outside ≡ false → ClassJoined tac inside first graph
  not_inside graph outside has is = λ other shared starts.
      absurd (false≢true (sym is ∙ shared.within outside (other_target tac its.pointer shared.pointer its.c_type shared.c_type first outside its.starts.0 shared.first (listed outside has))))

-- ---- all classes

module _ (group : Group) (of : IsOf group.tac.now group.groups.now) (called : CalledClasses) (are : AreCalled group.tac.now called) where
  abbrev inside : ℕ → Bool
  inside = is_inside group

  -- where no call is put down, there is none
  pub none_called : (first : ℕ) → call_at called.callees.items first ≡ None → (graph : Graph) → ClassJoined (code_of group) inside first graph
  none_called first none graph = λ other shared starts.
      let put = are.to first (Through shared.pointer shared.c_type) shared.called starts in
      absurd (none-some put.0 (sym none ∙ put.1))

  abbrev pub Members : List ℕ → ℕ → Graph → Type 0
  Members members k graph = (first : ℕ) → slice_get members k ≡ Some first → ClassJoined (code_of group) inside first graph

  pub members_joined : (members : List ℕ) → slice_get (groups_of group.groups.now) group.number ≡ Some members → (graph : Graph) (count : ℕ) → length members ≤ count → Below (Members members) count graph
      → ClassesJoined (code_of group) inside graph
  members_joined members at graph count long all = λ a b shared.
      let tac = code_of group in
      let start = some_first group.tac.now group.groups.now.classes of.classes shared.pointer shared.c_type a shared.first in
      let first = start.0 in
      let place = in_list group of first (shared.within first start.1.0) in
      let here = at_has members first (is_has first members (subst (IsIn first) (same_Some place.0 members (sym place.1 ∙ at)) place.2)) in
      let less = slice_get_within members here.0 first here.1 in
      let joined = all here.0 (omega (arith, less, long)) first here.1 in
      let with : (other : ℕ) → is_target tac (Through shared.pointer shared.c_type) other ≡ true → AreJoined tac first other graph =
      λ other target. joined other (record { pointer = shared.pointer; c_type = shared.c_type; called = shared.called; within = shared.within; first = start.1.0; second = target }) start.1 in
      joined_by tac graph first a b (one_type tac shared.pointer shared.c_type a first shared.first start.1.0) (with a shared.first) (with b shared.second)
    where
      is_has : (number : ℕ) (list : List ℕ) → IsIn number list → Has list number
      is_has number [] none = absurd none
      is_has number (x ∷ list) (inl same) = inl same
      is_has number (x ∷ list) (inr rest) = inr (is_has number list rest)

  pub members_wanted : (members : List ℕ) (graph : Graph) (count : ℕ) → ClassesJoined (code_of group) inside graph → Below (Members members) count graph
  members_wanted members graph count joined = λ k less first at other shared starts. joined first other shared

  pub members_done : (structs : List StructDef) → AreMade structs → (members : List ℕ) → slice_get (groups_of group.groups.now) group.number ≡ Some members → (old new : Graph) (count : ℕ) → length members ≤ count
      → Joins structs old new (Below (AtEach (ClassJoined (code_of group) inside) members) count) → Joins structs old new (ClassesJoined (code_of group) inside)
  members_done structs made members at old new count long joins =
      joins_for structs made old new (Below (Members members) count) (ClassesJoined (code_of group) inside) (λ graph joined. members_wanted members graph count joined) (members_joined members at new count long) joins

  -- a group that isn't there has no classes
  pub no_members : slice_get (groups_of group.groups.now) group.number ≡ None → (graph : Graph) → ClassesJoined (code_of group) inside graph
  no_members none graph = λ a b shared.
      let place = in_list group of a (shared.within a shared.first) in
      absurd (none-some place.0 (sym none ∙ place.1))
