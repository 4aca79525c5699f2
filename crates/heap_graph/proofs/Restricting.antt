-- What points ask of a graph that is being made is asked of the graph of its certain nodes.
use Rattle.std.proofs.Common.{◌≡◌, ℕ, ◌+◌, Bool, true, cond, List, [], ◌∷◌, Option, Some, refl, sym, ap, subst, ◌∙◌}
use Rattle.c_typed.specs.Types.{CType}
use Rattle.c_typed.specs.Layouts.{StructDef, is_complete}
use Rattle.tac_ir.specs.declared.register.Register.{Register}
use Rattle.tac_ir.specs.Code.{AtLocal, AtGlobal, AtLiteral, Base, Pointed, Indexed, Step, Member, Element, Path, Tac}
use Rattle.tac_ir.specs.States.{Owner}
use Rattle.heap_graph.specs.Graphs.{Target, Node, OfRegister, OfObject, OfGlobal, OfLiteral, Graph}
use Rattle.heap_graph.specs.Targets.{Part, same_target, has_target, at_target, shifted, edge_at, holds_part, points_to, implies, slots_before, member_part, element_part}
use Rattle.heap_graph.specs.Points.{is_null, is_indexed, takes, base_part, steps_part, path_part, base_typed, base_used}
use Rattle.heap_graph.proofs.MapsCompose.{at_some, shifted_there, shift_in}
use Rattle.heap_graph.specs.Asks.{is_certain, base_of, own}
use Rattle.heap_graph.specs.Restricted.{if_certain, SameFlags, Restricts}
use Rattle.heap_graph.proofs.Certain.{certain_some, certain_is, target_of_certain, if_yes, has_if, same_eq, eq_same, or_step}

-- what depends on elements and flags alone
abbrev pub Depends : (Node → ℕ → Bool) → Type 0
Depends holds = (a b : Node) (shift : ℕ) → a.element ≡ b.element → SameFlags a.flags b.flags → holds a shift ≡ holds b shift

pub holds_depends : (structs : List StructDef) (c_type : CType) → Depends (holds_part structs c_type)
holds_depends structs c_type a b shift element flags = ap (λ e. holds_part structs c_type (record { element = e; flags = a.flags; edges = [] }) shift) element

-- ---- targets

module _ (graph kept : Graph) (restricts : Restricts graph kept) where
  pub at_certain : (target : Option Target) (holds : Node → ℕ → Bool) → Depends holds → is_certain graph target ≡ true → at_target kept target holds ≡ at_target graph target holds
  at_certain target holds depends h =
      let x = target_of_certain graph target h in
      let now = restricts.nodes x.0.node x.2.node x.2.is x.2.so in
      subst (λ t. at_target kept t holds ≡ at_target graph t holds) (sym x.1)
      (at_some kept x.0 holds now.now now.is ∙ depends now.now x.2.node x.0.shift now.element now.flags ∙ sym (at_some graph x.0 holds x.2.node x.2.is))

  pub shifted_certain : (slots : ℕ) (target : Option Target) → is_certain graph target ≡ true → (shifted kept slots target ≡ shifted graph slots target) × (is_certain graph (shifted graph slots target) ≡ true)
  shifted_certain slots target h =
      let x = target_of_certain graph target h in
      let now = restricts.nodes x.0.node x.2.node x.2.is x.2.so in
      subst (λ t. (shifted kept slots t ≡ shifted graph slots t) × (is_certain graph (shifted graph slots t) ≡ true)) (sym x.1) (
        shifted_there kept slots x.0 now.now now.is
            ∙ ap (λ e. Some (record { node = x.0.node; shift = shift_in (record { element = e; flags = now.now.flags; edges = [] }) (x.0.shift + slots) })) now.element
            ∙ sym (shifted_there graph slots x.0 x.2.node x.2.is),
        ap (is_certain graph) (shifted_there graph slots x.0 x.2.node x.2.is) ∙ (certain_some graph (record { node = x.0.node; shift = shift_in x.2.node (x.0.shift + slots) }) x.2.node x.2.is ∙ x.2.so),
      )

  pub edge_certain : (target : Option Target) → is_certain graph target ≡ true → edge_at kept target ≡ if_certain graph (edge_at graph target)
  edge_certain target h =
      let x = target_of_certain graph target h in
      subst (λ t. edge_at kept t ≡ if_certain graph (edge_at graph t)) (sym x.1) (restricts.edges x.0 (certain_is graph x.0 x.2))

module _ (tac : Tac) (graph kept : Graph) (owner : Owner) (restricts : Restricts graph kept) where
  -- ---- paths

  pub steps_certain : (steps : List Step) (part : Part) → is_certain graph part.target ≡ true
      → (steps_part tac kept owner steps part ≡ steps_part tac graph owner steps part) × (is_certain graph (steps_part tac graph owner steps part).target ≡ true)
  steps_certain [] part h = (refl, h)
  steps_certain (Member number ∷ steps) part h =
      let moved = shifted_certain graph kept restricts (slots_before tac.structs part.c_type number) part.target h in
      let same : member_part tac.structs kept number part ≡ member_part tac.structs graph number part = λ i. record { target = moved.0 i; c_type = (member_part tac.structs graph number part).c_type } in
      let rest = steps_certain steps (member_part tac.structs graph number part) moved.1 in
      (ap (steps_part tac kept owner steps) same ∙ rest.0, rest.1)
  steps_certain (Element index ∷ steps) part h = steps_certain steps (element_part part) h

  pub base_certain : (base : Base) → is_certain graph (base_part tac graph owner base).target ≡ true → base_part tac kept owner base ≡ base_part tac graph owner base
  base_certain (AtLocal local) h = λ i. record { target = (restricts.names (OfObject owner local) refl ∙ if_yes graph (graph.targets (OfObject owner local)) h) i; c_type = (base_part tac graph owner (AtLocal local)).c_type }
  base_certain (AtGlobal number) h = λ i. record { target = (restricts.names (OfGlobal number) refl ∙ if_yes graph (graph.targets (OfGlobal number)) h) i; c_type = (base_part tac graph owner (AtGlobal number)).c_type }
  base_certain (AtLiteral number) h = λ i. record { target = (restricts.names (OfLiteral number) refl ∙ if_yes graph (graph.targets (OfLiteral number)) h) i; c_type = (base_part tac graph owner (AtLiteral number)).c_type }
  base_certain (Pointed pointer target) h = λ i. record { target = (restricts.names (OfRegister owner pointer) refl ∙ if_yes graph (graph.targets (OfRegister owner pointer)) h) i; c_type = target }
  base_certain (Indexed pointer target number) h = λ i. record { target = (restricts.names (OfRegister owner pointer) refl ∙ if_yes graph (graph.targets (OfRegister owner pointer)) h) i; c_type = target }

  pub base_has : (base : Base) → has_target (base_part tac kept owner base).target ≡ is_certain graph (base_part tac graph owner base).target
  base_has (AtLocal local) = ap has_target (restricts.names (OfObject owner local) refl) ∙ has_if graph (graph.targets (OfObject owner local))
  base_has (AtGlobal number) = ap has_target (restricts.names (OfGlobal number) refl) ∙ has_if graph (graph.targets (OfGlobal number))
  base_has (AtLiteral number) = ap has_target (restricts.names (OfLiteral number) refl) ∙ has_if graph (graph.targets (OfLiteral number))
  base_has (Pointed pointer target) = ap has_target (restricts.names (OfRegister owner pointer) refl) ∙ has_if graph (graph.targets (OfRegister owner pointer))
  base_has (Indexed pointer target number) = ap has_target (restricts.names (OfRegister owner pointer) refl) ∙ has_if graph (graph.targets (OfRegister owner pointer))

  pub path_certain : (path : Path) → is_certain graph (base_of tac graph owner path) ≡ true
      → (path_part tac kept owner path ≡ path_part tac graph owner path) × (is_certain graph (path_part tac graph owner path).target ≡ true)
  path_certain path h =
      let rest = steps_certain path.steps (base_part tac graph owner path.base) h in
      (ap (steps_part tac kept owner path.steps) (base_certain path.base h) ∙ rest.0, rest.1)

  -- ---- what is told of objects

  pub told_certain : (c_type : CType) (target : Option Target) → is_certain graph target ≡ true → points_to tac.structs kept c_type target ≡ points_to tac.structs graph c_type target
  told_certain c_type target h = ap (λ b. cond (is_complete tac.structs c_type) b true) (at_certain graph kept restricts target (holds_part tac.structs c_type) (holds_depends tac.structs c_type) h)

  pub register_certain : (register : Register) → is_certain graph (own tac graph owner register) ≡ true → own tac kept owner register ≡ own tac graph owner register
  register_certain register h = restricts.names (OfRegister owner register) refl ∙ if_yes graph (own tac graph owner register) h

  pub typed_certain : (base : Base) → is_certain graph (base_part tac graph owner base).target ≡ true → base_typed tac kept owner base ≡ base_typed tac graph owner base
  typed_certain (AtLocal local) h = refl
  typed_certain (AtGlobal number) h = refl
  typed_certain (AtLiteral number) h = refl
  typed_certain (Pointed pointer target) h = ap (points_to tac.structs kept target) (register_certain pointer h) ∙ told_certain target (own tac graph owner pointer) h
  typed_certain (Indexed pointer target number) h = ap (points_to tac.structs kept target) (register_certain pointer h) ∙ told_certain target (own tac graph owner pointer) h

  -- at the object with which a path begins
  pub at_base : (path : Path) (holds : Node → ℕ → Bool) → Depends holds → is_certain graph (base_of tac graph owner path) ≡ true
      → at_target kept (base_of tac kept owner path) holds ≡ at_target graph (base_of tac graph owner path) holds
  at_base path holds depends h = ap (λ (part : Part). at_target kept part.target holds) (base_certain path.base h) ∙ at_certain graph kept restricts (base_of tac graph owner path) holds depends h

  pub used_certain : (path : Path) → is_certain graph (base_of tac graph owner path) ≡ true → base_used tac kept owner path ≡ base_used tac graph owner path
  used_certain path h = at_base path (λ node shift. implies (is_indexed path.base) node.flags.array) (λ a b shift element flags. ap (implies (is_indexed path.base)) flags.array) h

  -- what one register takes from another, where neither has to be certain
  pub takes_kept : (target there : Option Target) → there ≡ if_certain graph target → (from : Register) → takes tac graph owner target from ≡ true → takes tac kept owner there from ≡ true
  takes_kept target there e from h =
      or_step (is_null tac owner from) (same_target target (own tac graph owner from)) (same_target there (own tac kept owner from))
      (λ _ same. eq_same there (own tac kept owner from) (e ∙ (ap (if_certain graph) (same_eq target (own tac graph owner from) same) ∙ sym (restricts.names (OfRegister owner from) refl)))) h

  -- what the pointer points to that is where a path leads
  pub path_edge : (path : Path) → is_certain graph (base_of tac graph owner path) ≡ true
      → edge_at kept (path_part tac kept owner path).target ≡ if_certain graph (edge_at graph (path_part tac graph owner path).target)
  path_edge path h =
      let leads = path_certain path h in
      ap (λ (part : Part). edge_at kept part.target) leads.0 ∙ edge_certain graph kept restricts (path_part tac graph owner path).target leads.1
