-- What a call out of a group asks stays done while a graph goes on.
use Rattle.std.proofs.Common.{◌≡◌, ℕ, List, Option, Some, sym, ap, ◌∙◌}
use Rattle.c_typed.specs.Types.{CType}
use Rattle.c_typed.specs.Layouts.{StructDef}
use Rattle.tac_ir.specs.declared.register.Register.{Register}
use Rattle.tac_ir.specs.declared.register.Register.TheVariants as R
use Rattle.tac_ir.specs.Code.{Tac}
use Rattle.tac_ir.specs.States.{Owner, InFunction}
use Rattle.heap_graph.specs.Structures.{AreMade}
use Rattle.heap_graph.specs.Graphs.{Target, Name, OfRegister, OfResult, OfGlobal, OfLiteral, Graph}
use Rattle.heap_graph.specs.Targets.{element_kept}
use Rattle.heap_graph.specs.Merging.{IsSound, GraphMap, mapped, Maps}
use Rattle.heap_graph.specs.Closed.{parameters_of, function_type, formal}
use Rattle.heap_graph.proofs.MapsCompose.{at_there, mapped_there, target_in}
use Rattle.heap_graph.specs.Asks.{is_certain}
use Rattle.graph_unification.proofs.Staying.{certain_kept}
use Rattle.graph_unification.specs.Going.{GoesOn}
use Rattle.dsa_inlining.proofs.Carried.{image_carried}
use Rattle.dsa_inlining.specs.Crossed.{IsImage, Comes, AllCome, IsPassed, ArePassed, IsGiven, IsCrossed}

-- what is kept where a graph goes on
abbrev pub Keeps : List StructDef → (Graph → Type 0) → Type 0
Keeps structs told = (old new : Graph) → IsSound structs old → GoesOn structs old new → told old → told new

-- where the target of a name is in the other graph
pub image_of : (structs : List StructDef) (old new : Graph) (map : GraphMap) → Maps structs old new map → IsSound structs old → (name : Name) (target : Target) → old.targets name ≡ Some target
    → (place : Target) × (mapped new map target ≡ Some place)
image_of structs old new map maps sound name target is =
    let slot = sound.names name target is in
    let there = at_there new (map target.node) (element_kept structs slot.node.element) (maps.elements target.node slot.node slot.is) in
    (target_in map target there.node, mapped_there new map target there.node there.is)

module _ (structs : List StructDef) (made : AreMade structs) where
  pub image_kept : (copies : ℕ → Option ℕ) (name : Name) (target : Target) → Keeps structs (IsImage copies name target)
  image_kept copies name target old new sound goes its =
      let place = image_of structs old new goes.map goes.maps sound name its.at its.is in
      let is = goes.maps.names name its.at its.is ∙ place.1 in
      record {
        at = place.0;
        is = is;
        certain = ap (is_certain new) (sym is) ∙ certain_kept structs made old new goes.map sound goes.maps name (ap (is_certain old) its.is ∙ its.certain);
        copied = image_carried structs made old new goes.map sound goes.maps copies target its.at its.copied ∙ place.1;
      }

  pub comes_kept : (callee : Graph) (copies : ℕ → Option ℕ) (name its : Name) → Keeps structs (Comes callee copies name its)
  comes_kept callee copies name its old new sound goes comes = λ target is. image_kept copies name target old new sound goes (comes target is)

  pub all_come_kept : (callee : Graph) (copies : ℕ → Option ℕ) (name : ℕ → Name) → Keeps structs (AllCome callee copies name)
  all_come_kept callee copies name old new sound goes come = λ number. comes_kept callee copies (name number) (name number) old new sound goes (come number)

  pub passed_kept : (callee : Graph) (copies : ℕ → Option ℕ) (argument its : Name) → Keeps structs (IsPassed callee copies argument its)
  passed_kept callee copies argument its old new sound goes passed = record { target = passed.target; is = passed.is; comes = image_kept copies argument passed.target old new sound goes passed.comes }

  pub are_passed_kept : (callee : Graph) (copies : ℕ → Option ℕ) (owner : Owner) (called : ℕ) (types : List CType) (arguments : List Register) → Keeps structs (ArePassed callee copies owner called types arguments)
  are_passed_kept callee copies owner called types arguments old new sound goes are = λ number c_type argument at its is.
      passed_kept callee copies (OfRegister owner argument) (formal called number) old new sound goes (are number c_type argument at its is)

  pub given_kept : (callee : Graph) (copies : ℕ → Option ℕ) (owner : Owner) (site called : ℕ) (c_type : CType) → Keeps structs (IsGiven callee copies owner site called c_type)
  given_kept callee copies owner site called c_type old new sound goes given = λ is.
      comes_kept callee copies (OfRegister owner (R.Call site)) (OfResult (InFunction called)) old new sound goes (given is)

  -- what a call asks is kept
  pub crossed_kept : (tac : Tac) (owner : Owner) (site : ℕ) (arguments : List Register) (called : ℕ) (callee : Graph) (copies : ℕ → Option ℕ)
      → Keeps structs (IsCrossed tac owner site arguments called callee copies)
  crossed_kept tac owner site arguments called callee copies old new sound goes its = record {
    passed = are_passed_kept callee copies owner called (parameters_of (function_type tac called)) arguments old new sound goes its.passed;
    given = given_kept callee copies owner site called (function_type tac called) old new sound goes its.given;
    globals = all_come_kept callee copies OfGlobal old new sound goes its.globals;
    literals = all_come_kept callee copies OfLiteral old new sound goes its.literals;
  }
