-- What first values ask of a graph, they ask of each to which its targets are carried.
use Rattle.std.proofs.Common.{◌≡◌, ℕ, suc, Bool, true, List, [], ◌∷◌, Option, Some, None, refl, sym, ap, subst, ◌∙◌}
use Rattle.std.specs.Prelude.{◌==◌, ◌&&◌, ◌||◌, not}
use Rattle.std.specs.List.{list_any}
use Rattle.std.proofs.lemmas.Bool.{false≢true, and_parts, and_from}
use Rattle.c_typed.specs.Types.{literal_type}
use Rattle.c_typed.specs.declared.part.Part.{Part}
use Rattle.c_typed.specs.declared.part.Part.TheVariants as P
use Rattle.c_typed.specs.Values as first
use Rattle.c_typed.specs.Typed.{GlobalDef, LiteralDef}
use Rattle.tac_ir.specs.Code.{Tac}
use Rattle.tac_ir.specs.First.{named_global, placed_literal}
use Rattle.heap_graph.specs.Graphs.{Target, OfGlobal, OfLiteral, Graph, ProgramGraphs}
use Rattle.heap_graph.specs.Targets.{same_target, has_target, at_target, shifted, edge_at, implies, slots_before, type_of_member, member_part, element_part}
use Rattle.heap_graph.specs.Targets as T
use Rattle.heap_graph.specs.Closed.{Family, first_part, global_part, literal_part, static_part, is_moved, place_closed, constant_closed, held_closed, all_held_closed, first_closed}
use Rattle.heap_graph.proofs.Certain.{same_eq, eq_same}
use Rattle.dsa_local.specs.FirstTold.{alone}

-- Good targets of a graph are carried to another: the parts of their objects, what they point to, and what is told of their nodes.
pub record Carries (old new : Graph) (to : Option Target → Option Target) (Good : Option Target → Type 0) : Type 0 where
  pub has : (target : Option Target) → Good target → has_target (to target) ≡ true
  pub parts : (slots : ℕ) (target : Option Target) → Good target → (shifted new slots (to target) ≡ to (shifted old slots target)) × Good (shifted old slots target)
  pub leads : (target end : Option Target) → Good target → Good end → edge_at old target ≡ end → edge_at new (to target) ≡ to end
  pub array : (asked : Bool) (target : Option Target) → Good target → at_target old target (λ node shift. implies asked node.flags.array) ≡ true
      → at_target new (to target) (λ node shift. implies asked node.flags.array) ≡ true
  pub modified : (target : Option Target) → Good target → at_target old target (λ node shift. node.flags.modified) ≡ true → at_target new (to target) (λ node shift. node.flags.modified) ≡ true
  pub globals : (number : ℕ) → has_target (old.targets (OfGlobal number)) ≡ true → Good (old.targets (OfGlobal number)) × (new.targets (OfGlobal number) ≡ to (old.targets (OfGlobal number)))
  pub literals : (number : ℕ) → has_target (old.targets (OfLiteral number)) ≡ true → Good (old.targets (OfLiteral number)) × (new.targets (OfLiteral number) ≡ to (old.targets (OfLiteral number)))

-- whether steps move within an array is no matter of the graph
moves_alike : (a b : Family) (part : Part) → is_moved a part ≡ is_moved b part
moves_alike a b (P.Member index number) = refl
moves_alike a b (P.Elements index) = refl

moved_alike : (a b : Family) (steps : List Part) → list_any (is_moved a) steps ≡ list_any (is_moved b) steps
moved_alike a b [] = refl
moved_alike a b (step ∷ steps) = λ i. (moves_alike a b step i || moved_alike a b steps i)

-- two families with the same program
module _ (tac : Tac) (groups others : List (List ℕ)) (before after : ProgramGraphs) (to : Option Target → Option Target) (Good : Option Target → Type 0) (carries : Carries before.start after.start to Good) where
  abbrev given : Family
  given = record { tac = tac; groups = groups; graphs = before }

  abbrev family : Family
  family = record { tac = tac; groups = others; graphs = after }

  abbrev carried : T.Part → T.Part
  carried part = record { target = to part.target; c_type = part.c_type }

  -- ---- parts

  part_carried : (steps : List Part) (part : T.Part) → Good part.target
      → (first_part family steps (carried part) ≡ carried (first_part given steps part)) × Good (first_part given steps part).target
  part_carried [] part good = (refl, good)
  part_carried (P.Member index number ∷ steps) part good =
      let structs = family.tac.structs in
      let moved = carries.parts (slots_before structs part.c_type number) part.target good in
      let rest = part_carried steps (member_part structs before.start number part) moved.1 in
      let same : member_part structs family.graphs.start number (carried part) ≡ carried (member_part structs before.start number part) =
      λ i. record { target = moved.0 i; c_type = type_of_member structs part.c_type number } in
      (ap (first_part family steps) same ∙ rest.0, rest.1)
  part_carried (P.Elements index ∷ steps) part good = part_carried steps (element_part part) good

  global_carried : (found : Option (ℕ × GlobalDef)) → has_target (global_part given found).target ≡ true
      → (global_part family found ≡ carried (global_part given found)) × Good (global_part given found).target
  global_carried None has = absurd (false≢true has)
  global_carried (Some found) has =
      let its = carries.globals found.0 has in
      (λ i. record { target = its.1 i; c_type = found.1.c_type }, its.0)

  literal_carried : (found : Option (ℕ × LiteralDef)) → has_target (literal_part given found).target ≡ true
      → (literal_part family found ≡ carried (literal_part given found)) × Good (literal_part given found).target
  literal_carried None has = absurd (false≢true has)
  literal_carried (Some found) has =
      let its = carries.literals found.0 has in
      (λ i. record { target = its.1 i; c_type = literal_type found.1.bytes }, its.0)

  static_carried : (root : first.Static) → has_target (static_part given root).target ≡ true
      → (static_part family root ≡ carried (static_part given root)) × Good (static_part given root).target
  static_carried (first.StaticVariable name) has = global_carried (named_global 0 family.tac.globals name) has
  static_carried (first.StaticLiteral place) has = literal_carried (placed_literal 0 family.tac.literals place) has

  -- ---- pointers

  place_carried : (at : Option Target) → Good at → (place : first.FirstPlace) → place_closed given (edge_at before.start at) place ≡ true
      → place_closed family (edge_at family.graphs.start (to at)) place ≡ true
  place_carried at good place h =
      let start = family.graphs.start in
      let whole = static_part given place.root in
      let asked : Family → Bool = λ f. list_any (is_moved f) place.steps || not (place.index == 0) in
      let one = and_parts _ _ h in
      let two = and_parts _ _ one.1 in
      let root = static_carried place.root one.0 in
      let part = part_carried place.steps whole root.1 in
      let edge = carries.leads at (first_part given place.steps whole).target good part.1 (same_eq _ _ two.0) in
      let array : at_target start (to whole.target) (λ node shift. implies (asked family) node.flags.array) ≡ true =
      subst (λ b. at_target start (to whole.target) (λ node shift. implies (b || not (place.index == 0)) node.flags.array) ≡ true) (moved_alike given family place.steps)
      (carries.array (asked given) whole.target root.1 two.1) in
      subst
      (λ (r : T.Part).
      (has_target r.target && (same_target (edge_at start (to at)) (first_part family place.steps r).target && at_target start r.target (λ node shift. implies (asked family) node.flags.array))) ≡ true)
      (sym root.0)
      (and_from _ _ (carries.has whole.target root.1) (and_from _ _ (eq_same _ _ (edge ∙ sym (ap (λ (p : T.Part). p.target) part.0))) array))

  constant_carried : (at : Option Target) → Good at → (value : first.FirstScalar) → constant_closed given (edge_at before.start at) value ≡ true
      → constant_closed family (edge_at family.graphs.start (to at)) value ≡ true
  constant_carried at good (first.IntegerValue value) h = refl
  constant_carried at good first.NullValue h = refl
  constant_carried at good (first.FunctionValue name) h = refl
  constant_carried at good (first.PointerValue place) h = place_carried at good place h

  -- ---- variables

  held_carried : (found : ℕ × GlobalDef) (held : first.Held) → held_closed given (global_part given (Some found)) held ≡ true
      → held_closed family (global_part family (Some found)) held ≡ true
  held_carried found held h =
      let start = family.graphs.start in
      let whole = global_part given (Some found) in
      let one = and_parts _ _ h in
      let two = and_parts _ _ one.1 in
      let global = global_carried (Some found) one.0 in
      let part = part_carried held.leaf.steps whole global.1 in
      let value = constant_carried (first_part given held.leaf.steps whole).target part.1 held.value two.1 in
      subst (λ (g : T.Part). held_closed family g held ≡ true) (sym global.0)
      (and_from _ _ (carries.has whole.target global.1) (and_from _ _ (carries.modified whole.target global.1 two.0)
      (subst (λ t. constant_closed family (edge_at start t) held.value ≡ true) (sym (ap (λ (p : T.Part). p.target) part.0)) value)))

  pub all_on : (found : ℕ × GlobalDef) (helds : List first.Held) → all_held_closed given (global_part given (Some found)) helds ≡ true
      → all_held_closed family (global_part family (Some found)) helds ≡ true
  all_on found [] h = refl
  all_on found (held ∷ others) h =
      let both = and_parts _ _ h in
      and_from _ _ (held_carried found held both.0) (all_on found others both.1)

  pub first_on : (number : ℕ) (globals : List GlobalDef) → first_closed given number globals ≡ true → first_closed family number globals ≡ true
  first_on number [] h = refl
  first_on number (global ∷ others) h =
      let both = and_parts _ _ h in
      and_from _ _ (all_on (number, global) global.first both.0) (first_on (suc number) others both.1)

-- from a graph alone
module _ (family : Family) (old : Graph) (to : Option Target → Option Target) (Good : Option Target → Type 0) (carries : Carries old family.graphs.start to Good) where
  pub all_carried : (found : ℕ × GlobalDef) (helds : List first.Held) → all_held_closed (alone family.tac old) (global_part (alone family.tac old) (Some found)) helds ≡ true
      → all_held_closed family (global_part family (Some found)) helds ≡ true
  all_carried found helds h = all_on family.tac [] family.groups (alone family.tac old).graphs family.graphs to Good carries found helds h

  pub first_carried : (number : ℕ) (globals : List GlobalDef) → first_closed (alone family.tac old) number globals ≡ true → first_closed family number globals ≡ true
  first_carried number globals h = first_on family.tac [] family.groups (alone family.tac old).graphs family.graphs to Good carries number globals h
