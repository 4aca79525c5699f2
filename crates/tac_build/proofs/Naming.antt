-- What registers trees and paths name, and how spots grow.
use Rattle.std.proofs.Common.{◌≡◌, List, [], ◌∷◌, ◌++◌, refl, sym, ◌∙◌, subst, arith}
use Rattle.tac_ir.specs.declared.program.Counts.{Counts}
use Rattle.tac_ir.specs.declared.register.Register.{Register}
use Rattle.tac_ir.specs.declared.register.Register.TheVariants as R
use Rattle.tac_ir.specs.Code.{Tree, Constant, Held, Convert, Complement, Not, Arithmetic, Compare, Base, AtLocal, AtGlobal, AtLiteral, Pointed, Indexed, Step, Member, Element, Path, Callee, Known, Through}
use Rattle.tac_build.specs.Spots.{Spot, behind, with_call, with_argument, with_expression, with_temporary, Lowered, AsInteger, AsPointer, AsObject, AsNothing}
use Rattle.tac_build.specs.Code.{then_step}
use Rattle.tac_build.specs.Forms.{IsBefore, IsNamed, IsStable, TreeHolds, BaseHolds, StepHolds, StepsHold, PathHolds, LoweredNamed, CalleeNamed, RegistersNamed, SpotGrows, Names}

-- ---- spots

pub stays : (spot : Spot) → SpotGrows spot spot
stays spot = record { at = omega arith; variables = refl; calls = omega arith; arguments = omega arith; expressions = omega arith; temporaries = omega arith; objects = refl }

pub grows_then : {a b c : Spot} → SpotGrows a b → SpotGrows b c → SpotGrows a c
grows_then {a = a} {b = b} {c = c} first second = record {
  at = omega arith;
  variables = second.variables ∙ first.variables;
  calls = omega arith;
  arguments = omega arith;
  expressions = omega arith;
  temporaries = omega arith;
  objects = second.objects ∙ first.objects;
}

pub behind_grows : (spot : Spot) → SpotGrows spot (behind spot)
behind_grows spot = record { at = omega arith; variables = refl; calls = omega arith; arguments = omega arith; expressions = omega arith; temporaries = omega arith; objects = refl }

pub call_grows : (spot : Spot) → SpotGrows spot (with_call spot)
call_grows spot = record { at = omega arith; variables = refl; calls = omega arith; arguments = omega arith; expressions = omega arith; temporaries = omega arith; objects = refl }

pub argument_grows : (spot : Spot) → SpotGrows spot (with_argument spot)
argument_grows spot = record { at = omega arith; variables = refl; calls = omega arith; arguments = omega arith; expressions = omega arith; temporaries = omega arith; objects = refl }

pub expression_grows : (spot : Spot) → SpotGrows spot (with_expression spot)
expression_grows spot = record { at = omega arith; variables = refl; calls = omega arith; arguments = omega arith; expressions = omega arith; temporaries = omega arith; objects = refl }

pub temporary_grows : (spot : Spot) → SpotGrows spot (with_temporary spot)
temporary_grows spot = record { at = omega arith; variables = refl; calls = omega arith; arguments = omega arith; expressions = omega arith; temporaries = omega arith; objects = refl }

-- ---- registers

pub before_more : {a b : Spot} → SpotGrows a b → (register : Register) → IsBefore a.counts register → IsBefore b.counts register
before_more grows (R.Local local) own = own
before_more grows (R.Call number) own = omega (arith, own, grows.calls)
before_more grows (R.Argument number) own = omega (arith, own, grows.arguments)
before_more grows (R.Expression number) own = omega (arith, own, grows.expressions)
before_more grows (R.Temporary number) own = omega (arith, own, grows.temporaries)

pub named_more : {a b : Spot} → SpotGrows a b → (register : Register) → IsNamed a.counts register → IsNamed b.counts register
named_more grows (R.Local local) named = named
named_more grows (R.Call number) named = omega (arith, named, grows.calls)
named_more grows (R.Argument number) named = omega (arith, named, grows.arguments)
named_more grows (R.Expression number) named = omega (arith, named, grows.expressions)
named_more grows (R.Temporary number) named = omega (arith, named, grows.temporaries)

pub before_named : (counts : Counts) (register : Register) → IsBefore counts register → IsNamed counts register
before_named counts (R.Local local) own = tt
before_named counts (R.Call number) own = own
before_named counts (R.Argument number) own = own
before_named counts (R.Expression number) own = own
before_named counts (R.Temporary number) own = own

pub before_stable : (counts : Counts) (register : Register) → IsBefore counts register → IsStable register
before_stable counts (R.Local local) own = absurd own
before_stable counts (R.Call number) own = tt
before_stable counts (R.Argument number) own = tt
before_stable counts (R.Expression number) own = tt
before_stable counts (R.Temporary number) own = tt

pub named_before : (counts : Counts) (register : Register) → IsNamed counts register → IsStable register → IsBefore counts register
named_before counts (R.Local local) named stable = stable
named_before counts (R.Call number) named stable = named
named_before counts (R.Argument number) named stable = named
named_before counts (R.Expression number) named stable = named
named_before counts (R.Temporary number) named stable = named

-- ---- trees and paths

module _ (P Q : Register → Type 0) (more : (register : Register) → P register → Q register) where
  pub tree_more : (tree : Tree) → TreeHolds P tree → TreeHolds Q tree
  tree_more (Constant z) holds = tt
  tree_more (Held register) holds = more register holds
  tree_more (Convert int_type operand) holds = tree_more operand holds
  tree_more (Complement int_type operand) holds = tree_more operand holds
  tree_more (Not int_type operand) holds = tree_more operand holds
  tree_more (Arithmetic operator int_type left right) holds = (tree_more left holds.0, tree_more right holds.1)
  tree_more (Compare relation int_type left right) holds = (tree_more left holds.0, tree_more right holds.1)

  pub steps_more : (steps : List Step) → StepsHold P steps → StepsHold Q steps
  steps_more [] holds = tt
  steps_more (Member number ∷ others) holds = (tt, steps_more others holds.1)
  steps_more (Element index ∷ others) holds = (tree_more index holds.0, steps_more others holds.1)

  module _ (P' Q' : Register → Type 0) (more' : (register : Register) → P' register → Q' register) where
    pub base_more : (base : Base) → BaseHolds P' P base → BaseHolds Q' Q base
    base_more (AtLocal local) holds = tt
    base_more (AtGlobal number) holds = tt
    base_more (AtLiteral number) holds = tt
    base_more (Pointed pointer target) holds = more' pointer holds
    base_more (Indexed pointer target number) holds = (more' pointer holds.0, tree_more number holds.1)

    pub path_more : (path : Path) → PathHolds P' P path → PathHolds Q' Q path
    path_more path holds = (base_more path.base holds.0, steps_more path.steps holds.1)

pub steps_then : (Trees : Register → Type 0) (steps : List Step) (step : Step) → StepsHold Trees steps → StepHolds Trees step → StepsHold Trees (steps ++ step ∷ [])
steps_then Trees [] step holds one = (one, tt)
steps_then Trees (first ∷ others) step holds one = (holds.0, steps_then Trees others step holds.1 one)

pub path_then : (Pointers Trees : Register → Type 0) (path : Path) (step : Step) → PathHolds Pointers Trees path → StepHolds Trees step → PathHolds Pointers Trees (then_step path step)
path_then Pointers Trees path step holds one = (holds.0, steps_then Trees path.steps step holds.1 one)

pub tree_later : {a b : Spot} → SpotGrows a b → (tree : Tree) → TreeHolds (IsNamed a.counts) tree → TreeHolds (IsNamed b.counts) tree
tree_later {a = a} {b = b} grows tree named = tree_more (IsNamed a.counts) (IsNamed b.counts) (named_more grows) tree named

pub lowered_later : {a b : Spot} → SpotGrows a b → (lowered : Lowered) → LoweredNamed a.counts lowered → LoweredNamed b.counts lowered
lowered_later grows (AsInteger own tree) named = tree_later grows tree named
lowered_later grows (AsPointer register target) named = before_more grows register named
lowered_later {a = a} {b = b} grows (AsObject path own) named =
    path_more (IsNamed a.counts) (IsNamed b.counts) (named_more grows) (IsBefore a.counts) (IsBefore b.counts) (before_more grows) path named
lowered_later grows AsNothing named = tt

pub callee_later : {a b : Spot} → SpotGrows a b → (callee : Callee) → CalleeNamed a.counts callee → CalleeNamed b.counts callee
callee_later grows (Known number) named = tt
callee_later grows (Through register c_type) named = before_more grows register named

pub registers_later : {a b : Spot} → SpotGrows a b → (registers : List Register) → RegistersNamed a.counts registers → RegistersNamed b.counts registers
registers_later grows [] named = tt
registers_later grows (first ∷ others) named = (before_more grows first named.0, registers_later grows others named.1)

-- ---- code

pub grows_to : {from next to : Spot} → to ≡ next → SpotGrows from next → SpotGrows from to
grows_to {from = from} at grows = subst (λ spot. SpotGrows from spot) (sym at) grows

pub names_as : {from to : Spot} {lowered other : Lowered} → lowered ≡ other → Names from to other → Names from to lowered
names_as {from = from} {to = to} is names = subst (λ l. Names from to l) (sym is) names

pub names_to : {from next to : Spot} {lowered other : Lowered} → to ≡ next → lowered ≡ other → Names from next other → Names from to lowered
names_to {from = from} {lowered = lowered} at is names = subst (λ spot. Names from spot lowered) (sym at) (names_as is names)

pub names_after : {a b c : Spot} {lowered : Lowered} → SpotGrows a b → Names b c lowered → Names a c lowered
names_after first names = record { grows = grows_then first names.grows; named = names.named }

pub names_later : {a b c : Spot} {lowered : Lowered} → Names a b lowered → SpotGrows b c → Names a c lowered
names_later {lowered = lowered} names second = record { grows = grows_then names.grows second; named = lowered_later second lowered names.named }
