-- A call is joined with each function of the group to which it may come, where it is with the first of them.
use Rattle.std.proofs.Common.{◌≡◌, ℕ, zero, suc, ◌≤◌, Bool, true, false, List, [], ◌∷◌, length, Some, None, refl, sym, ap, subst, ◌∙◌, arith, eqb-true}
use Rattle.std.specs.Prelude.{slice_get}
use Rattle.std.specs.List.{AllByRecursion}
use Rattle.std.proofs.lemmas.Bool.{false≢true}
use Rattle.std.proofs.lemmas.Option.{none-some, same_Some, slice_get_within}
use Rattle.tac_ir.specs.declared.register.Register.{Register}
use Rattle.tac_ir.specs.declared.register.Register.TheVariants as R
use Rattle.tac_ir.specs.Code as O
use Rattle.tac_ir.specs.Code.{Callee, Known, Through, Function, Op, Tac}
use Rattle.tac_ir.specs.States.{Owner, InFunction}
use Rattle.tac_ir.specs.Targets.{is_target}
use Rattle.tac_ir.specs.Groups.{Makes, AreGroups}
use Rattle.call_graph.specs.TargetLists.{IsFirstTarget}
use Rattle.call_graph.specs.GroupViews.{groups_of, IsOf}
use Rattle.heap_graph.specs.Structures.{AreMade}
use Rattle.heap_graph.specs.Graphs.{Name, OfRegister, OfResult, Graph}
use Rattle.heap_graph.specs.Merging.{IsSound}
use Rattle.heap_graph.specs.Closed.{parameters_of, function_type, formal}
use Rattle.graph_unification.specs.Standing.{IsOwn, OpStands, CodeStands}
use Rattle.dsa_local.specs.declared.members.Group.{Group}
use Rattle.dsa_local.specs.Joined.{HaveOne, IsTaken, IsJoined, OpJoined, CallsJoined, AreJoined, ClassesJoined, Joins, AllHaveOwn, CallNamed}
use Rattle.dsa_local.specs.Members.{code_of, is_inside, IsOwnPoint}
use Rattle.dsa_local.proofs.Joining.{Below, AtEach, joins_for}
use Rattle.dsa_local.proofs.InnerCalls.Kept.{classes_joined_kept}
use Rattle.dsa_local.proofs.Inside.{one_type, inside_within, class_inside, is_shared}
use Rattle.dsa_local.proofs.ClassSteps.{formals_named, result_named}

-- ---- one call

module _ (tac : Tac) (graph : Graph) where
  -- what is joined with a function is joined with each that shares its formals and its result
  pub joined_other : (owner : Owner) (site : ℕ) (arguments : List Register) (a b : ℕ) → function_type tac a ≡ function_type tac b → AreJoined tac a b graph → IsJoined tac owner site arguments a graph
      → IsJoined tac owner site arguments b graph
  joined_other owner site arguments a b same shared joined = record {
    passed = λ number c_type argument at its is.
        let here : slice_get (parameters_of (function_type tac a)) number ≡ Some c_type = ap (λ t. slice_get (parameters_of t) number) same ∙ at in
        let passed = joined.passed number c_type argument here its is in
        let one = shared.formals number (slice_get_within (parameters_of (function_type tac a)) number c_type here) in
        record { certain = passed.certain; one = both (OfRegister owner argument) (formal a number) (formal b number) passed.one one };
    taken = λ is.
        both (OfRegister owner (R.Call site)) (OfResult (InFunction a)) (OfResult (InFunction b)) (subst (λ t. IsTaken owner site a t graph) same joined.taken is) shared.result;
  }
    where
      both : (x y z : Name) → HaveOne x y graph → HaveOne y z graph → HaveOne x z graph
      both x y z one other = record { target = one.target; first = one.first; second = other.second ∙ (sym other.first ∙ one.second) }

-- points that are no calls ask nothing
pub no_call_joined : (tac : Tac) (inside : ℕ → Bool) (owner : Owner) (op : Op) → ((site : ℕ) (callee : Callee) (arguments : List Register) → op ≡ O.Call site callee arguments → ⊥) → (graph : Graph) → OpJoined tac inside owner op graph
no_call_joined tac inside owner op none graph = λ site callee arguments called same target within. absurd (none site callee arguments same)

-- ---- a point of a function of the group

at_each : {X : Type 0} (P : X → Type 0) (xs : List X) → AllByRecursion P xs → (at : ℕ) (x : X) → slice_get xs at ≡ Some x → P x
at_each P [] all at x is = absurd (none-some x is)
at_each P (first ∷ others) all zero x is = subst P (same_Some first x is) all.0
at_each P (first ∷ others) all (suc at) x is = at_each P others all.1 at x is

module _ (group : Group) (of : IsOf group.tac.now group.groups.now) (are : AreGroups (code_of group) (groups_of group.groups.now)) where
  abbrev tac : Tac
  tac = code_of group

  abbrev inside : ℕ → Bool
  inside = is_inside group

  makes_of : (caller : ℕ) (site : ℕ) (callee : Callee) (arguments : List Register) → IsOwnPoint group caller (O.Call site callee arguments) → Makes tac caller callee
  makes_of caller site callee arguments own = record { function = own.function; is = own.is; at = own.at; site = site; arguments = arguments; point = own.point }

  -- where one function to which it may come is inside, all are
  target_inside : (caller : ℕ) (callee : Callee) → Makes tac caller callee → (a b : ℕ) → is_target tac callee a ≡ true → is_target tac callee b ≡ true → inside a ≡ true → inside b ≡ true
  target_inside caller (Known function) makes a b one other is =
      subst (λ n. inside n ≡ true) (sym (eqb-true function a one) ∙ eqb-true function b other) is
  target_inside caller (Through pointer c_type) makes a b one other is = class_inside group of are caller pointer c_type makes a b one other is

  same_call : (a b : ℕ) (c d : Callee) (p q : List Register) → O.Call a c p ≡ O.Call b d q → (a ≡ b) × (c ≡ d) × (p ≡ q)
  same_call a b c d p q e = (cc, cc, cc)

  -- what is joined with the first is joined with all
  all_joined : (graph : Graph) (caller site : ℕ) (callee : Callee) (arguments : List Register) → Makes tac caller callee → (first : ℕ) → is_target tac callee first ≡ true → inside first ≡ true
      → ClassesJoined tac inside graph → IsJoined tac (InFunction caller) site arguments first graph → (called : ℕ) → is_target tac callee called ≡ true → IsJoined tac (InFunction caller) site arguments called graph
  all_joined graph caller site (Known function) arguments makes first starts is classes joined called target =
      subst (λ n. IsJoined tac (InFunction caller) site arguments n graph) (sym (eqb-true function first starts) ∙ eqb-true function called target) joined
  all_joined graph caller site (Through pointer c_type) arguments makes first starts is classes joined called target =
      joined_other tac graph (InFunction caller) site arguments first called (one_type tac pointer c_type first called starts target)
      (classes first called (is_shared group of are caller pointer c_type makes first called starts target is))
      joined

  module _ (caller site : ℕ) (callee : Callee) (arguments : List Register) (own : IsOwnPoint group caller (O.Call site callee arguments)) where
    abbrev op : Op
    op = O.Call site callee arguments

    abbrev Wanted : Graph → Type 0
    Wanted = OpJoined tac inside (InFunction caller) op

    pub op_joined : (first : ℕ) → is_target tac callee first ≡ true → inside first ≡ true → (graph : Graph) → ClassesJoined tac inside graph → IsJoined tac (InFunction caller) site arguments first graph → Wanted graph
    op_joined first starts is graph classes joined = λ site' callee' arguments' called same target within.
        let parts = same_call site site' callee callee' arguments arguments' same in
        let its = all_joined graph caller site callee arguments (makes_of caller site callee arguments own) first starts is classes joined called (subst (λ (c : Callee). is_target tac c called ≡ true) (sym parts.1) target) in
        subst (λ s. IsJoined tac (InFunction caller) s arguments' called graph) parts.0 (subst (λ l. IsJoined tac (InFunction caller) site l called graph) parts.2 its)

    pub op_wanted : (first : ℕ) → is_target tac callee first ≡ true → inside first ≡ true → (graph : Graph) → Wanted graph → IsJoined tac (InFunction caller) site arguments first graph
    op_wanted first starts is graph wanted = wanted site callee arguments first refl starts is

    pub op_done : AreMade tac.structs → (first : ℕ) → is_target tac callee first ≡ true → inside first ≡ true → (old new : Graph) → IsSound tac.structs old → ClassesJoined tac inside old
        → Joins tac.structs old new (IsJoined tac (InFunction caller) site arguments first) → Joins tac.structs old new Wanted
    op_done made first starts is old new sound classes its =
        joins_for tac.structs made old new (IsJoined tac (InFunction caller) site arguments first) Wanted (op_wanted first starts is)
        (op_joined first starts is new (classes_joined_kept tac.structs made tac inside old new sound its.goes classes)) its

    -- nothing is asked where it comes to no function
    pub no_target : IsFirstTarget tac callee None → (graph : Graph) → Wanted graph
    no_target none graph = λ site' callee' arguments' called same target within.
        let parts = same_call site site' callee callee' arguments arguments' same in
        absurd (none called (subst (λ (c : Callee). is_target tac c called ≡ true) (sym parts.1) target))

    -- or to functions of another group
    pub elsewhere : (first : ℕ) → is_target tac callee first ≡ true → inside first ≡ false → (graph : Graph) → Wanted graph
    elsewhere first starts out graph = λ site' callee' arguments' called same target within.
        let parts = same_call site site' callee callee' arguments arguments' same in
        let is = target_inside caller callee (makes_of caller site callee arguments own) called first (subst (λ (c : Callee). is_target tac c called ≡ true) (sym parts.1) target) starts within in
        absurd (false≢true (sym out ∙ is))

    -- what it passes and takes has targets
    pub point_named : CodeStands tac → (graph : Graph) → AllHaveOwn tac inside graph → (called : ℕ) → inside called ≡ true → CallNamed tac (InFunction caller) site arguments called graph
    point_named code graph all called is =
        let its = all caller own.function own.is own.inside in
        let standing = at_each (OpStands tac (InFunction caller) own.function) own.function.points (code.functions (InFunction caller) own.function own.is).points own.at op own.point in
        let less = inside_within group of called is in
        record {
          passed = record {
            passed = λ number argument at. its.registers argument (at_each (IsOwn tac (InFunction caller) own.function) arguments standing.1 number argument at);
            formals = formals_named tac code inside graph all called less is;
          };
          call = its.registers (R.Call site) standing.0;
          result = result_named tac code inside graph all called less is;
        }

  -- ---- all points of a function

  pub calls_done : AreMade tac.structs → (caller : ℕ) (function : Function) → slice_get tac.functions caller ≡ Some function → (old new : Graph) (count : ℕ) → length function.points ≤ count
      → Joins tac.structs old new (Below (AtEach (OpJoined tac inside (InFunction caller)) function.points) count) → Joins tac.structs old new (CallsJoined tac inside caller)
  calls_done made caller function is old new count long joins =
      joins_for tac.structs made old new (Below (AtEach (OpJoined tac inside (InFunction caller)) function.points) count) (CallsJoined tac inside caller)
      (λ graph all k less op at. all function k op is at)
      (λ below other k op there at.
      let here : slice_get function.points k ≡ Some op = ap (λ (f : Function). slice_get f.points k) (same_Some function other (sym is ∙ there)) ∙ at in
      let less = slice_get_within function.points k op here in
      below k (omega (arith, less, long)) op here)
      joins

  pub no_function_joined : (caller : ℕ) → slice_get tac.functions caller ≡ None → (graph : Graph) → CallsJoined tac inside caller graph
  no_function_joined caller none graph = λ function at op is point. absurd (none-some function (sym none ∙ is))
