-- What is judged of the functions to which a call may come is what the call asks.
use Rattle.std.proofs.Common.{◌≡◌, ℕ, zero, suc, ◌<◌, Bool, true, false, List, [], ◌∷◌, length, get_or, Some, None, inl, inr, refl, sym, ap, subst, ◌∙◌, arith}
use Rattle.std.specs.Prelude.{slice_get}
use Rattle.std.specs.List.{AllByRecursion}
use Rattle.std.proofs.lemmas.Bool.{false≢true}
use Rattle.std.proofs.lemmas.Option.{none-some, same_Some}
use Rattle.c_typed.specs.Types.{CType}
use Rattle.tac_ir.specs.declared.register.FunctionId.{FunctionId}
use Rattle.tac_ir.specs.declared.register.Register.{Register}
use Rattle.tac_ir.specs.declared.op.Op as memory_op
use Rattle.tac_ir.specs.declared.op.Op.TheVariants as M
use Rattle.tac_ir.specs.Code.{Callee, Through}
use Rattle.tac_ir.specs.States.{Owner, InFunction}
use Rattle.tac_ir.specs.Views.{op_in}
use Rattle.c_typed.specs.Table.{Interned}
use Rattle.call_graph.specs.RowLists.{Has}
use Rattle.call_graph.specs.ClassLists.{numbers_of}
use Rattle.call_graph.specs.TargetLists.{AreTargets}
use Rattle.heap_graph.specs.Graphs.{Graph}
use Rattle.heap_graph.specs.Closed.{Family, AreOne, graph_of, or_no_graph, formal}
use Rattle.heap_graph.specs.Graphs.{OfResult}
use Rattle.heap_graph.specs.Asked.{TargetAsked, AllTargetsAsked, ClassAsked, CallAsked, OpAsked, AllOne}

-- ---- lists of functions

pub has_item : (items : List FunctionId) (k : ℕ) (d : FunctionId) → k < length items → Has (numbers_of items) (get_or items k d).0
has_item [] k d less = absurd (omega (arith, less))
has_item (first ∷ others) zero d less = inl refl
has_item (first ∷ others) (suc k) d less = inr (has_item others k d (omega (arith, less)))

pub of_each : {X : Type 0} (P : X → Type 0) (xs : List X) → AllByRecursion P xs → (x : X) → Has xs x → P x
of_each P [] all x has = absurd has
of_each P (first ∷ others) all x (inl same) = subst P (sym same) all.0
of_each P (first ∷ others) all x (inr has) = of_each P others all.1 x has

pub each_of : {X : Type 0} (P : X → Type 0) (xs : List X) → ((x : X) → Has xs x → P x) → AllByRecursion P xs
each_of P [] all = tt
each_of P (first ∷ others) all = (all first (inl refl), each_of P others (λ x has. all x (inr has)))

pub empty_at : (items : List FunctionId) → slice_get items 0 ≡ None → items ≡ []
empty_at [] e = refl
empty_at (first ∷ others) e = absurd (none-some first (sym e))

pub first_at : (items : List FunctionId) (first : FunctionId) → slice_get items 0 ≡ Some first → Has (numbers_of items) first.0
first_at [] first e = absurd (none-some first e)
first_at (own ∷ others) first e = inl (ap (λ (f : FunctionId). f.0) (sym (same_Some own first e)))

-- ---- classes

one_between : (family : Family) (first a b : ℕ) → AreOne family first a → AreOne family first b → AreOne family a b
one_between family first a b one other =
    let graph : graph_of family (InFunction first) ≡ graph_of family (InFunction a) = ap (λ g. or_no_graph (slice_get family.graphs.graphs g)) one.group in
    record {
      group = sym one.group ∙ other.group;
      formals = λ number. subst (λ (g : Graph). g.targets (formal a number) ≡ g.targets (formal b number)) graph (sym (one.formals number) ∙ other.formals number);
      result = subst (λ (g : Graph). g.targets (OfResult (InFunction a)) ≡ g.targets (OfResult (InFunction b))) graph (sym one.result ∙ other.result);
    }

module _ (family : Family) (pointer : Register) (c_type : CType) (targets : List FunctionId) (are : AreTargets family.tac (Through pointer c_type) (numbers_of targets)) where
  pub class_judged : (first : FunctionId) → slice_get targets 0 ≡ Some first → (b : Bool) → (b ≡ true → AllOne family first.0 (numbers_of targets)) × (AllOne family first.0 (numbers_of targets) → b ≡ true)
      → (b ≡ true → ClassAsked family (Through pointer c_type)) × (ClassAsked family (Through pointer c_type) → b ≡ true)
  class_judged first e b judged = (
    (λ t a c a_is c_is.
        let all = judged.0 t in
        one_between family first.0 a c (of_each (AreOne family first.0) (numbers_of targets) all a ((are.each a).1 a_is)) (of_each (AreOne family first.0) (numbers_of targets) all c ((are.each c).1 c_is))),
    (λ class. judged.1 (each_of (AreOne family first.0) (numbers_of targets) (λ called has. class first.0 called ((are.each first.0).0 (first_at targets first e)) ((are.each called).0 has)))),
  )

  pub no_class : slice_get targets 0 ≡ None → ClassAsked family (Through pointer c_type)
  no_class none a b a_is b_is = absurd (subst (λ (l : List FunctionId). Has (numbers_of l) a) (empty_at targets none) ((are.each a).1 a_is))

-- ---- calls

module _ (family : Family) (owner : Owner) (site : ℕ) (callee : Callee) (arguments passed : List Register) (targets : List FunctionId) (same : passed ≡ arguments)
    (are : AreTargets family.tac callee (numbers_of targets)) (b : Bool)
    (judged : (b ≡ true → AllTargetsAsked family owner site passed (numbers_of targets)) × (AllTargetsAsked family owner site passed (numbers_of targets) → b ≡ true)) where
  all_asked : CallAsked family owner site callee arguments → AllTargetsAsked family owner site passed (numbers_of targets)
  all_asked call = subst (λ l. AllTargetsAsked family owner site l (numbers_of targets)) (sym same) (each_of (TargetAsked family owner site arguments) (numbers_of targets) (λ called has. call.targets called ((are.each called).0 has)))

  pub call_fails : b ≡ false → (false ≡ true → CallAsked family owner site callee arguments) × (CallAsked family owner site callee arguments → false ≡ true)
  call_fails e = ((λ h. absurd (false≢true h)), (λ call. sym e ∙ judged.1 (all_asked call)))

  pub call_judged : b ≡ true → (class : Bool) → (class ≡ true → ClassAsked family callee) × (ClassAsked family callee → class ≡ true)
      → (class ≡ true → CallAsked family owner site callee arguments) × (CallAsked family owner site callee arguments → class ≡ true)
  call_judged e class asked = (
    (λ t.
        record {
          targets = λ called is. of_each (TargetAsked family owner site arguments) (numbers_of targets) (subst (λ l. AllTargetsAsked family owner site l (numbers_of targets)) same (judged.0 e)) called ((are.each called).1 is);
          class = asked.0 t;
        }),
    (λ call. asked.1 call.class),
  )

-- a point that is no call asks nothing
pub nothing_asked : (family : Family) (owner : Owner) (table : Interned) (op : memory_op.Op) → ((site : ℕ) (callee : _) (arguments : _) → op ≡ M.Call site callee arguments → ⊥) → OpAsked family owner (op_in table op)
nothing_asked family owner table M.Reserved none = tt
nothing_asked family owner table (M.Jump to) none = tt
nothing_asked family owner table (M.Branch int_type condition holds fails) none = tt
nothing_asked family owner table (M.Assign to tree) none = tt
nothing_asked family owner table (M.Null to) none = tt
nothing_asked family owner table (M.FunctionAddress to function) none = tt
nothing_asked family owner table (M.Copy to from) none = tt
nothing_asked family owner table (M.Test to pointer) none = tt
nothing_asked family owner table (M.Move to pointer element is_minus number) none = tt
nothing_asked family owner table (M.Difference to element left right) none = tt
nothing_asked family owner table (M.ComparePointers to relation left right) none = tt
nothing_asked family owner table (M.Repoint to target from) none = tt
nothing_asked family owner table (M.Address to path) none = tt
nothing_asked family owner table (M.Load to scalar path) none = tt
nothing_asked family owner table (M.Store path scalar value) none = tt
nothing_asked family owner table (M.Allocate site size) none = tt
nothing_asked family owner table (M.Free site pointer) none = tt
nothing_asked family owner table (M.GetChar site) none = tt
nothing_asked family owner table (M.PutChar site value) none = tt
nothing_asked family owner table (M.Exit status) none = tt
nothing_asked family owner table (M.Return value) none = tt
nothing_asked family owner table (M.Call site callee arguments) none = absurd (none site callee arguments refl)
