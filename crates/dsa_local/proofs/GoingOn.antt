-- Where a graph goes on, its targets are carried: so what is told of first values is told still.
use Rattle.std.proofs.Common.{◌≡◌, ℕ, ◌+◌, Bool, true, false, cond, List, [], Option, Some, None, refl, sym, ap, subst, ◌∙◌, arith}
use Rattle.std.specs.Prelude.{◌&&◌, slice_get}
use Rattle.std.proofs.lemmas.Bool.{false≢true, and_parts}
use Rattle.c_typed.specs.Layouts.{StructDef}
use Rattle.c_typed.specs.Values as first
use Rattle.tac_ir.specs.Code.{Tac}
use Rattle.tac_ir.specs.Objects.{global_type}
use Rattle.heap_graph.specs.Graphs.{Target, Flags, Node, Name, OfGlobal, OfLiteral, Graph, edge_in, node_at}
use Rattle.heap_graph.specs.Structures.{AreMade}
use Rattle.heap_graph.specs.Targets.{has_target, at_target, is_collapsed, shifted, edge_at, implies, marks_kept, element_kept}
use Rattle.heap_graph.specs.Points.{type_of_inner}
use Rattle.heap_graph.specs.Merging.{IsSound, mapped}
use Rattle.heap_graph.proofs.MapsCompose.{There, at_some, at_there, at_from, shift_in, shifted_there, edge_there, target_in, mapped_there, kept_collapsed}
use Rattle.graph_unification.proofs.Staying.{implied_holds}
use Rattle.graph_unification.specs.Going.{GoesOn}
use Rattle.graph_unification.proofs.Kept.{global_kept}
use Rattle.dsa_local.specs.FirstTold.{alone, FirstTold}
use Rattle.dsa_local.specs.Storing.{IsWritten, AreStored}
use Rattle.dsa_local.proofs.Carried.{Carries, all_carried, first_carried}

shifts : (c d : Bool) → (c ≡ true → d ≡ true) → (r m t : ℕ) → cond d 0 (cond d 0 (r + m) + t) ≡ cond d 0 (r + cond c 0 (m + t))
shifts c true h r m t = refl
shifts true false h r m t = absurd (false≢true (h refl))
shifts false false h r m t = omega arith

array_kept : (asked : Bool) (a b : Flags) → marks_kept a b ≡ true → implies asked a.array ≡ true → implies asked b.array ≡ true
array_kept false a b h is = refl
array_kept true a b h is =
    let last = implies a.modified b.modified && implies a.read b.read in
    let stack = and_parts (implies a.heap b.heap) (implies a.stack b.stack && (implies a.global b.global && (implies a.array b.array && last))) (and_parts (implies a.certain b.certain) _ h).1 in
    let global = and_parts (implies a.stack b.stack) (implies a.global b.global && (implies a.array b.array && last)) stack.1 in
    let array = and_parts (implies a.global b.global) (implies a.array b.array && last) global.1 in
    implied_holds a.array b.array (and_parts (implies a.array b.array) last array.1).0 is

modified_kept : (a b : Flags) → marks_kept a b ≡ true → a.modified ≡ true → b.modified ≡ true
modified_kept a b h is =
    let last = implies a.modified b.modified && implies a.read b.read in
    let stack = and_parts (implies a.heap b.heap) (implies a.stack b.stack && (implies a.global b.global && (implies a.array b.array && last))) (and_parts (implies a.certain b.certain) _ h).1 in
    let global = and_parts (implies a.stack b.stack) (implies a.global b.global && (implies a.array b.array && last)) stack.1 in
    let array = and_parts (implies a.global b.global) (implies a.array b.array && last) global.1 in
    let rest = and_parts (implies a.array b.array) last array.1 in
    implied_holds a.modified b.modified (and_parts (implies a.modified b.modified) (implies a.read b.read) rest.1).0 is

-- a target whose node is there
pub record IsFound (graph : Graph) (found : Option Target) : Type 0 where
  pub target : Target
  pub at : found ≡ Some target
  pub node : Node
  pub is : node_at graph target.node ≡ Some node

module _ (structs : List StructDef) (made : AreMade structs) (old new : Graph) (sound : IsSound structs old) (goes : GoesOn structs old new) where
  abbrev to : Option Target → Option Target
  to None = None
  to (Some target) = mapped new goes.map target

  image_of : (target : Target) (node : Node) → node_at old target.node ≡ Some node → There new (goes.map target.node) (element_kept structs node.element)
  image_of target node is = at_there new (goes.map target.node) (element_kept structs node.element) (goes.maps.elements target.node node is)

  image_is : (target : Target) (node : Node) (is : node_at old target.node ≡ Some node) → mapped new goes.map target ≡ Some (target_in goes.map target (image_of target node is).node)
  image_is target node is = mapped_there new goes.map target (image_of target node is).node (image_of target node is).is

  has_image : (found : Option Target) → IsFound old found → has_target (to found) ≡ true
  has_image found its = ap (λ t. has_target (to t)) its.at ∙ ap has_target (image_is its.target its.node its.is)

  parts_of : (slots : ℕ) (found : Option Target) → IsFound old found → (shifted new slots (to found) ≡ to (shifted old slots found)) × IsFound old (shifted old slots found)
  parts_of slots found its =
      subst (λ t. (shifted new slots (to t) ≡ to (shifted old slots t)) × IsFound old (shifted old slots t)) (sym its.at) (
        ap (shifted new slots) (image_is target node its.is)
            ∙ (shifted_there new slots (target_in goes.map target image.node) image.node image.is
            ∙ (ap (λ s. Some (record { node = (goes.map target.node).node; shift = s }))
            (shifts (is_collapsed node.element) (is_collapsed image.node.element) (kept_collapsed structs node.element image.node (goes.map target.node).shift image.so) (goes.map target.node).shift target.shift slots)
            ∙ sym (ap to there ∙ mapped_there new goes.map part image.node image.is))),
        record { target = part; at = there; node = node; is = its.is },
      )
    where
      target : Target
      target = its.target

      node : Node
      node = its.node

      image : There new (goes.map its.target.node) (element_kept structs its.node.element)
      image = image_of its.target its.node its.is

      part : Target
      part = record { node = its.target.node; shift = shift_in its.node (its.target.shift + slots) }

      there : shifted old slots (Some its.target) ≡ Some (record { node = its.target.node; shift = shift_in its.node (its.target.shift + slots) })
      there = shifted_there old slots its.target its.node its.is

  edges_of : (found end : Option Target) → IsFound old found → IsFound old end → edge_at old found ≡ end → edge_at new (to found) ≡ to end
  edges_of found end its last e =
      let edge : edge_in its.node.edges its.target.shift ≡ Some last.target = sym (edge_there old its.target its.node its.is) ∙ (ap (edge_at old) (sym its.at) ∙ (e ∙ last.at)) in
      ap (λ t. edge_at new (to t)) its.at ∙ (goes.maps.edges its.target.node its.target.shift its.node last.target its.is edge ∙ sym (ap to last.at))

  flags_of : (holds : Flags → Bool) → ((a b : Flags) → marks_kept a b ≡ true → holds a ≡ true → holds b ≡ true) → (found : Option Target) → IsFound old found
      → at_target old found (λ node shift. holds node.flags) ≡ true → at_target new (to found) (λ node shift. holds node.flags) ≡ true
  flags_of holds kept found its h =
      let what : Node → ℕ → Bool = λ node shift. holds node.flags in
      let image = image_of its.target its.node its.is in
      let marks : marks_kept its.node.flags image.node.flags ≡ true =
      sym (at_some new (goes.map its.target.node) (λ i shift. marks_kept its.node.flags i.flags) image.node image.is) ∙ goes.maps.flags its.target.node its.node its.is in
      let was : holds its.node.flags ≡ true = sym (at_some old its.target what its.node its.is) ∙ (ap (λ t. at_target old t what) (sym its.at) ∙ h) in
      ap (λ t. at_target new (to t) what) its.at
      ∙ (ap (λ t. at_target new t what) (image_is its.target its.node its.is) ∙ at_from new (target_in goes.map its.target image.node) what image.node image.is (kept its.node.flags image.node.flags marks was))

  names_of : (name : Name) → has_target (old.targets name) ≡ true → IsFound old (old.targets name) × (new.targets name ≡ to (old.targets name))
  names_of name has = by (old.targets name) refl has
    where
      by : (o : Option Target) → old.targets name ≡ o → has_target o ≡ true → IsFound old (old.targets name) × (new.targets name ≡ to (old.targets name))
      by None e h = absurd (false≢true h)
      by (Some target) e h =
          let slot = sound.names name target e in
          (record { target = target; at = e; node = slot.node; is = slot.is }, goes.maps.names name target e ∙ sym (ap to e))

  -- ---- what is told of names

  pub flag_goes : (holds : Flags → Bool) → ((a b : Flags) → marks_kept a b ≡ true → holds a ≡ true → holds b ≡ true) → (name : Name) → has_target (old.targets name) ≡ true
      → at_target old (old.targets name) (λ node shift. holds node.flags) ≡ true → at_target new (new.targets name) (λ node shift. holds node.flags) ≡ true
  flag_goes holds kept name has h =
      let its = names_of name has in
      subst (λ t. at_target new t (λ node shift. holds node.flags) ≡ true) (sym its.1) (flags_of holds kept (old.targets name) its.0 h)

  pub array_goes : (asked : Bool) (name : Name) → has_target (old.targets name) ≡ true → at_target old (old.targets name) (λ node shift. implies asked node.flags.array) ≡ true
      → at_target new (new.targets name) (λ node shift. implies asked node.flags.array) ≡ true
  array_goes asked name has h = flag_goes (λ flags. implies asked flags.array) (array_kept asked) name has h

  pub goes_carries : Carries old new to (IsFound old)
  goes_carries = record {
    has = has_image;
    parts = parts_of;
    leads = edges_of;
    array = λ asked. flags_of (λ flags. implies asked flags.array) (array_kept asked);
    modified = flags_of (λ flags. flags.modified) modified_kept;
    globals = λ number has. names_of (OfGlobal number) has;
    literals = λ number has. names_of (OfLiteral number) has;
  }

module _ (tac : Tac) (made : AreMade tac.structs) (old new : Graph) (sound : IsSound tac.structs old) (goes : GoesOn tac.structs old new) (number : ℕ) where
  -- a variable that is written stays so
  pub written_kept : IsWritten tac old number → IsWritten tac new number
  written_kept its = record {
    named = global_kept tac made old new sound goes number its.named;
    modified = flag_goes tac.structs made old new sound goes (λ flags. flags.modified) modified_kept (OfGlobal number) its.named.has its.modified;
  }

  -- and first values that are stored into one
  pub stored_kept : (helds : List first.Held) → AreStored tac old number helds → AreStored tac new number helds
  stored_kept helds h =
      all_carried (alone tac new) old (to tac.structs made old new sound goes) (IsFound old) (goes_carries tac.structs made old new sound goes)
      (number, record { name = []; c_type = type_of_inner (global_type (slice_get tac.globals number)); first = [] }) helds h

-- what is told of first values is kept
pub first_kept : (tac : Tac) → AreMade tac.structs → (old new : Graph) → IsSound tac.structs old → GoesOn tac.structs old new → FirstTold tac old → FirstTold tac new
first_kept tac made old new sound goes told =
    first_carried (alone tac new) old (to tac.structs made old new sound goes) (IsFound old) (goes_carries tac.structs made old new sound goes) 0 tac.globals told
