-- The names of a group have their first nodes.
use Rattle.std.proofs.Common.{◌≡◌, ℕ, zero, suc, Bool, true, false, eqb, List, [], ◌∷◌, Option, Some, None, refl, sym, ap, subst, ◌∙◌}
use Rattle.std.specs.Prelude.{slice_get, ◌||◌}
use Rattle.std.specs.List.{list_any, AllByRecursion}
use Rattle.std.proofs.lemmas.Bool.{false≢true, cond-true, eqb-true, eq-eqb}
use Rattle.std.proofs.lemmas.Option.{none-some, same_Some}
use Rattle.tac_ir.specs.Code.{Base, AtLocal, AtGlobal, AtLiteral, Pointed, Indexed, Path, Function, Op, Tac}
use Rattle.tac_ir.specs.Objects.{own_type}
use Rattle.tac_ir.specs.States.{Owner, InStart, InFunction, function_of, points_of}
use Rattle.heap_graph.specs.Escaping.{same_owner}
use Rattle.heap_graph.specs.Graphs.{Node, Name, OfRegister, OfResult, OfObject, OfGlobal, OfLiteral, OfCopy, Graph}
use Rattle.heap_graph.specs.Targets.{has_target}
use Rattle.heap_graph.specs.Closed.{no_graph}
use Rattle.graph_unification.specs.GraphNames.First.{pointer_node, of_register, of_inner, first_node}
use Rattle.graph_unification.proofs.WholeFunction.{owner_eq, cond_some}
use Rattle.dsa_local.specs.Mentioned.{path_of, is_global, is_literal, path_begins, op_begins, owner_begins, any_begins, is_among}
use Rattle.dsa_local.specs.Beginning.{global_node, literal_node, function_node, member_node, group_node, Begins, Covers, HaveTargets, base_node, path_node, op_node, OpsHave, CoversOwner, OwnerHas, CoversOwners, OwnersHave, AddsOwners}

-- ---- lists

pub each_at : {X : Type 0} (P : X → Type 0) (xs : List X) → ((at : ℕ) (x : X) → slice_get xs at ≡ Some x → P x) → AllByRecursion P xs
each_at P [] all = tt
each_at P (first ∷ others) all = (all 0 first refl, each_at P others (λ at. all (suc at)))

pub at_each : {X : Type 0} (P : X → Type 0) (xs : List X) → AllByRecursion P xs → (at : ℕ) (x : X) → slice_get xs at ≡ Some x → P x
at_each P [] all at x is = absurd (none-some x is)
at_each P (first ∷ others) all zero x is = subst P (same_Some first x is) all.0
at_each P (first ∷ others) all (suc at) x is = at_each P others all.1 at x is

pub first_true : (b x : Bool) → b ≡ true → (b || x) ≡ true
first_true true x h = refl
first_true false x h = absurd (false≢true h)

pub either_true : (b x : Bool) → x ≡ true → (b || x) ≡ true
either_true true x h = refl
either_true false x h = h

-- what passes a test is found
pub any_from : {X : Type 0} (test : X → Bool) (xs : List X) (at : ℕ) (x : X) → slice_get xs at ≡ Some x → test x ≡ true → list_any test xs ≡ true
any_from test [] at x is holds = absurd (none-some x is)
any_from test (first ∷ others) zero x is holds = first_true (test first) (list_any test others) (ap test (same_Some first x is) ∙ holds)
any_from test (first ∷ others) (suc at) x is holds = either_true (test first) (list_any test others) (any_from test others at x is holds)

pub record Passes {X : Type 0} (test : X → Bool) (xs : List X) : Type 0 where
  pub at : ℕ
  pub x : X
  pub is : slice_get xs at ≡ Some x
  pub holds : test x ≡ true

later : {X : Type 0} (test : X → Bool) (first : X) (others : List X) → Passes test others → Passes test (first ∷ others)
later test first others p = record { at = suc p.at; x = p.x; is = p.is; holds = p.holds }

-- of a choice of the first and others
chosen : {X : Type 0} (test : X → Bool) (first : X) (others : List X) (b : Bool) → test first ≡ b → (b || list_any test others) ≡ true → (list_any test others ≡ true → Passes test others)
    → Passes test (first ∷ others)
chosen test first others true e h rest = record { at = 0; x = first; is = refl; holds = e }
chosen test first others false e h rest = later test first others (rest h)

pub passes : {X : Type 0} (test : X → Bool) (xs : List X) → list_any test xs ≡ true → Passes test xs
passes test [] h = absurd (false≢true h)
passes test (first ∷ others) h = chosen test first others (test first) refl h (passes test others)

-- ---- what first nodes cover

owner_itself : (owner : Owner) → same_owner owner owner ≡ true
owner_itself InStart = refl
owner_itself (InFunction number) = eq-eqb number number refl

module _ (tac : Tac) (owners : List Owner) where
  -- a name of a function of the group
  pub member_is : (owner : Owner) (function : Function) → is_among owner owners ≡ true → function_of tac owner ≡ Some function → (name : Name) → member_node tac owners owner name ≡ first_node owner function name
  member_is owner function among there name = cond-true (is_among owner owners) (function_node owner (function_of tac owner) name) None among ∙ ap (λ f. function_node owner f name) there

  own_covered : (owner : Owner) (function : Function) → is_among owner owners ≡ true → function_of tac owner ≡ Some function → Covers (first_node owner function) (group_node tac owners)
  own_covered owner function among there (OfRegister other register) node e =
      let same = owner_eq other owner (cond_some (same_owner other owner) (of_register function register) node e).0 in
      subst (λ o. member_node tac owners o (OfRegister o register) ≡ Some node) (sym same)
      (member_is owner function among there (OfRegister owner register) ∙ (ap (λ o. first_node owner function (OfRegister o register)) (sym same) ∙ e))
  own_covered owner function among there (OfResult other) node e =
      let same = owner_eq other owner (cond_some (same_owner other owner) (Some (pointer_node false)) node e).0 in
      subst (λ o. member_node tac owners o (OfResult o) ≡ Some node) (sym same)
      (member_is owner function among there (OfResult owner) ∙ (ap (λ o. first_node owner function (OfResult o)) (sym same) ∙ e))
  own_covered owner function among there (OfObject other local) node e =
      let same = owner_eq other owner (cond_some (same_owner other owner) (of_inner (own_type function.objects local)) node e).0 in
      subst (λ o. member_node tac owners o (OfObject o local) ≡ Some node) (sym same)
      (member_is owner function among there (OfObject owner local) ∙ (ap (λ o. first_node owner function (OfObject o local)) (sym same) ∙ e))
  own_covered owner function among there (OfGlobal number) node e = absurd (none-some node e)
  own_covered owner function among there (OfLiteral number) node e = absurd (none-some node e)
  own_covered owner function among there (OfCopy number) node e = absurd (none-some node e)

  base_covered : (base : Base) → ((test : Base → Bool) → test base ≡ true → any_begins test tac owners ≡ true) → Covers (base_node tac base) (group_node tac owners)
  base_covered (AtGlobal number) begins (OfGlobal other) node e =
      let its = cond_some (eqb number other) (global_node tac number) node e in
      cond-true (any_begins (is_global other) tac owners) (global_node tac other) None (begins (is_global other) its.0)
      ∙ (ap (global_node tac) (sym (eqb-true number other its.0)) ∙ its.1)
  base_covered (AtLiteral number) begins (OfLiteral other) node e =
      let its = cond_some (eqb number other) (literal_node tac number) node e in
      cond-true (any_begins (is_literal other) tac owners) (literal_node tac other) None (begins (is_literal other) its.0)
      ∙ (ap (literal_node tac) (sym (eqb-true number other its.0)) ∙ its.1)
  base_covered (AtGlobal number) begins (OfRegister owner register) node e = absurd (none-some node e)
  base_covered (AtGlobal number) begins (OfResult owner) node e = absurd (none-some node e)
  base_covered (AtGlobal number) begins (OfObject owner local) node e = absurd (none-some node e)
  base_covered (AtGlobal number) begins (OfLiteral other) node e = absurd (none-some node e)
  base_covered (AtGlobal number) begins (OfCopy other) node e = absurd (none-some node e)
  base_covered (AtLiteral number) begins (OfRegister owner register) node e = absurd (none-some node e)
  base_covered (AtLiteral number) begins (OfResult owner) node e = absurd (none-some node e)
  base_covered (AtLiteral number) begins (OfObject owner local) node e = absurd (none-some node e)
  base_covered (AtLiteral number) begins (OfGlobal other) node e = absurd (none-some node e)
  base_covered (AtLiteral number) begins (OfCopy other) node e = absurd (none-some node e)
  base_covered (AtLocal local) begins name node e = absurd (none-some node e)
  base_covered (Pointed pointer target) begins name node e = absurd (none-some node e)
  base_covered (Indexed pointer target number) begins name node e = absurd (none-some node e)

  path_covered : (path : Option Path) → ((test : Base → Bool) → path_begins test path ≡ true → any_begins test tac owners ≡ true) → Covers (path_node tac path) (group_node tac owners)
  path_covered None begins name node e = absurd (none-some node e)
  path_covered (Some path) begins name node e = base_covered path.base begins name node e

  -- a point of a function of the group begins so
  pub begins_at : (test : Base → Bool) (owner : Owner) (function : Function) (number at : ℕ) (op : Op) → slice_get owners number ≡ Some owner → function_of tac owner ≡ Some function
      → slice_get function.points at ≡ Some op → op_begins test op ≡ true → any_begins test tac owners ≡ true
  begins_at test owner function number at op is there point holds =
      any_from (owner_begins test tac) owners number owner is
      (ap (λ f. list_any (op_begins test) (points_of f)) there ∙ any_from (op_begins test) function.points at op point holds)

  pub among_at : (owner : Owner) (number : ℕ) → slice_get owners number ≡ Some owner → is_among owner owners ≡ true
  among_at owner number is = any_from (λ other. same_owner other owner) owners number owner is (owner_itself owner)

  pub owners_covered : CoversOwners tac owners (group_node tac owners)
  owners_covered = each_at (λ owner. CoversOwner tac owner (group_node tac owners)) owners (λ number owner is function there. record {
    own = own_covered owner function (among_at owner number is) there;
    outside = each_at (λ op. Covers (op_node tac op) (group_node tac owners)) function.points
        (λ at op point. path_covered (path_of op) (λ test holds. begins_at test owner function number at op is there point holds));
  })

  -- ---- what has targets then

  module _ (graph : Graph) (have : OwnersHave tac owners graph) where
    own_has : (owner : Owner) (name : Name) (node : Node) → (found : Option Function) → function_of tac owner ≡ found → OwnerHas tac owner graph → function_node owner found name ≡ Some node
        → has_target (graph.targets name) ≡ true
    own_has owner name node None there all e = absurd (none-some node e)
    own_has owner name node (Some function) there all e = (all function there).own name node e

    -- a function of the group that is there has its names
    pub owner_has : (owner : Owner) → is_among owner owners ≡ true → OwnerHas tac owner graph
    owner_has owner among =
        let found = passes (λ other. same_owner other owner) owners among in
        subst (λ o. OwnerHas tac o graph) (owner_eq found.x owner found.holds) (at_each (λ o. OwnerHas tac o graph) owners have found.at found.x found.is)

    member_has : (owner : Owner) (name : Name) (node : Node) → member_node tac owners owner name ≡ Some node → has_target (graph.targets name) ≡ true
    member_has owner name node e =
        let its = cond_some (is_among owner owners) (function_node owner (function_of tac owner) name) node e in
        own_has owner name node (function_of tac owner) refl (owner_has owner its.0) its.1

    -- a point that begins so
    record BeginsAt (test : Base → Bool) : Type 0 where
      path : Path
      holds : test path.base ≡ true
      has : HaveTargets (base_node tac path.base) graph

    path_at : (test : Base → Bool) (path : Option Path) → path_begins test path ≡ true → HaveTargets (path_node tac path) graph → BeginsAt test
    path_at test None holds has = absurd (false≢true holds)
    path_at test (Some path) holds has = record { path = path; holds = holds; has = has }

    points_at : (test : Base → Bool) (found : Option Function) → list_any (op_begins test) (points_of found) ≡ true → ((function : Function) → found ≡ Some function → OpsHave tac function.points graph) → BeginsAt test
    points_at test None any all = absurd (false≢true any)
    points_at test (Some function) any all =
        let point = passes (op_begins test) function.points any in
        path_at test (path_of point.x) point.holds (at_each (λ op. HaveTargets (op_node tac op) graph) function.points (all function refl) point.at point.x point.is)

    begins_found : (test : Base → Bool) → any_begins test tac owners ≡ true → BeginsAt test
    begins_found test any =
        let owner = passes (owner_begins test tac) owners any in
        let all = at_each (λ o. OwnerHas tac o graph) owners have owner.at owner.x owner.is in
        points_at test (function_of tac owner.x) owner.holds (λ function there. (all function there).outside)

    global_has : (number : ℕ) (node : Node) (base : Base) → is_global number base ≡ true → HaveTargets (base_node tac base) graph → global_node tac number ≡ Some node
        → has_target (graph.targets (OfGlobal number)) ≡ true
    global_has number node (AtGlobal other) holds has e =
        has (OfGlobal number) node (cond-true (eqb other number) (global_node tac other) None holds ∙ (ap (global_node tac) (eqb-true other number holds) ∙ e))
    global_has number node (AtLocal local) holds has e = absurd (false≢true holds)
    global_has number node (AtLiteral other) holds has e = absurd (false≢true holds)
    global_has number node (Pointed pointer target) holds has e = absurd (false≢true holds)
    global_has number node (Indexed pointer target index) holds has e = absurd (false≢true holds)

    literal_has : (number : ℕ) (node : Node) (base : Base) → is_literal number base ≡ true → HaveTargets (base_node tac base) graph → literal_node tac number ≡ Some node
        → has_target (graph.targets (OfLiteral number)) ≡ true
    literal_has number node (AtLiteral other) holds has e =
        has (OfLiteral number) node (cond-true (eqb other number) (literal_node tac other) None holds ∙ (ap (literal_node tac) (eqb-true other number holds) ∙ e))
    literal_has number node (AtLocal local) holds has e = absurd (false≢true holds)
    literal_has number node (AtGlobal other) holds has e = absurd (false≢true holds)
    literal_has number node (Pointed pointer target) holds has e = absurd (false≢true holds)
    literal_has number node (Indexed pointer target index) holds has e = absurd (false≢true holds)

    group_has : (name : Name) (node : Node) → group_node tac owners name ≡ Some node → has_target (graph.targets name) ≡ true
    group_has (OfRegister owner register) node e = member_has owner (OfRegister owner register) node e
    group_has (OfResult owner) node e = member_has owner (OfResult owner) node e
    group_has (OfObject owner local) node e = member_has owner (OfObject owner local) node e
    group_has (OfGlobal number) node e =
        let its = cond_some (any_begins (is_global number) tac owners) (global_node tac number) node e in
        let at = begins_found (is_global number) its.0 in
        global_has number node at.path.base at.holds at.has its.1
    group_has (OfLiteral number) node e =
        let its = cond_some (any_begins (is_literal number) tac owners) (literal_node tac number) node e in
        let at = begins_found (is_literal number) its.0 in
        literal_has number node at.path.base at.holds at.has its.1
    group_has (OfCopy number) node e = absurd (none-some node e)

-- where all functions are added to a graph without nodes, the group begins
pub group_begins : (tac : Tac) (owners : List Owner) (graph : Graph) → AddsOwners tac owners no_graph graph → Begins tac owners graph
group_begins tac owners graph its = record { adds = its.adds (group_node tac owners) (owners_covered tac owners); has = group_has tac owners graph its.has }
