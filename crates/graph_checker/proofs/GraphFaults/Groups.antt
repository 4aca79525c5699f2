-- A group is closed where its graph is and its functions are.
use Rattle.std.proofs.Common.{◌≡◌, ℕ, ◌+◌, ◌<◌, ◌↔◌, Bool, true, false, List, length, Some, inl, inr, sym, subst, ◌∙◌, arith}
use Rattle.std.specs.Prelude.{slice_get, get_or}
use Rattle.std.proofs.lemmas.Bool.{cases_lt}
use Rattle.std.proofs.lemmas.Option.{same_Some, slice_get_within}
use Rattle.tac_ir.specs.declared.register.FunctionId.{FunctionId}
use Rattle.tac_ir.specs.Code.{Function}
use Rattle.tac_ir.specs.States.{InStart, InFunction}
use Rattle.tac_ir.specs.Views.{tac_of}
use Rattle.call_graph.specs.ClassLists.{numbers_of}
use Rattle.call_graph.specs.GroupViews.{groups_of}
use Rattle.heap_graph.specs.Closed.{Family, graph_of, group_of, is_in, is_start, of_group, first_closed, FunctionClosed, GraphClosed}
use Rattle.heap_graph.proofs.GroupNumbers.{in_is, stands, own_number, in_own, among_at}
use Rattle.heap_graph.specs.Faults.{GroupClosed, StartClosed, AreGrouped}
use Rattle.graph_checker.specs.declared.program.Program.{Program}
use Rattle.graph_checker.specs.Programs.{family_of}
use Rattle.graph_checker.specs.Fits.{IsFit}
use Rattle.graph_checker.proofs.CallSteps.{has_item}
use Rattle.graph_checker.proofs.GroupsFit.{as_many, many_groups, group_below}
use Rattle.graph_checker.proofs.ClosedGroups.Groups.{each_in, in_each, has_in}
use Rattle.graph_checker.proofs.Decided.{fails_by}
use Rattle.heap_graph.specs.Code.{IsMemberClosed}
use Rattle.graph_checker.specs.Members.{AreMembersClosed}

module _ (program : Program) (fit : IsFit program) where
  abbrev groups : List (List ℕ)
  groups = groups_of program.groups.now

  abbrev family : Family
  family = family_of program

  pub grouped : AreGrouped family
  grouped number less =
      let below = group_below program fit number (omega (arith, less, as_many program fit)) in
      omega (arith, below, many_groups program fit)

  module _ (at : ℕ) (members : List ℕ) (found : slice_get groups at ≡ Some members) where
    abbrev GraphsClosed : Type 0
    GraphsClosed = (one : ℕ) → is_in one members ≡ true → GraphClosed family (graph_of family (InFunction one)) (of_group members) (InFunction one)

    pub group_from : GraphsClosed → AreMembersClosed family members → GroupClosed family at
    group_from graphs functions = record {
      functions = function_closed;
      graph = λ one group other inside.
          let same : members ≡ group = same_Some members group (sym found ∙ other) in
          subst (λ g. is_in one g ≡ true → GraphClosed family (graph_of family (InFunction one)) (of_group g) (InFunction one)) same (graphs one) inside;
    }
      where
        function_closed : (own : ℕ) (function : Function) → slice_get family.tac.functions own ≡ Some function → group_of family own ≡ at → FunctionClosed family (InFunction own) function
        function_closed own function is same =
            let home = in_own (tac_of program.tac.now) groups fit.whole.groups at own (slice_get_within family.tac.functions own function is) same in
            let inside = subst (λ g. is_in own g ≡ true) (same_Some home.0 members (sym home.1 ∙ found)) home.2 in
            each_in (IsMemberClosed family) members functions own inside function is

    pub graphs_of : GroupClosed family at → GraphsClosed
    graphs_of closed one inside = closed.graph one members found inside

    pub members_of : GroupClosed family at → AreMembersClosed family members
    members_of closed =
        in_each (IsMemberClosed family) members
        (λ number inside function is. closed.functions number function is (own_number (tac_of program.tac.now) groups fit.whole.groups at number members found inside))

    -- ---- judged

    pub graph_fails : (test : Bool) → (test ≡ true) ↔ GraphsClosed → test ≡ false → (false ≡ true → GroupClosed family at) × (GroupClosed family at → false ≡ true)
    graph_fails test decides fails = fails_by test decides graphs_of fails

    pub members_judged : (graphs : Bool) → (graphs ≡ true) ↔ GraphsClosed → graphs ≡ true → (test : Bool) → (test ≡ true) ↔ AreMembersClosed family members
        → (test ≡ true → GroupClosed family at) × (GroupClosed family at → test ≡ true)
    members_judged graphs graphs_are hold test decides = ((λ t. group_from (graphs_are.0 hold) (decides.0 t)), (λ closed. decides.1 (members_of closed)))

  -- ---- the functions of a group

  module _ (at : ℕ) (items : List FunctionId) (found : slice_get groups at ≡ Some (numbers_of items)) where
    inside : (k : ℕ) (d : FunctionId) → k < length items → is_in (get_or items k d).0 (numbers_of items) ≡ true
    inside k d less = has_in (get_or items k d).0 (numbers_of items) (has_item items k d less)

    pub members_within : (k : ℕ) (d : FunctionId) → k < length items → (get_or items k d).0 < length program.tac.now.functions.items
    members_within k d less =
        let place = stands groups at (numbers_of items) found in
        let number = (get_or items k d).0 in
        let below = fit.whole.groups.only number (among_at place.before place.after (numbers_of items) number groups place.is (in_is number (numbers_of items) (inside k d less))) in
        omega (arith, below, as_many program fit)

    pub members_numbered : (k : ℕ) (d : FunctionId) → k < length items → group_of family (get_or items k d).0 ≡ at
    members_numbered k d less = own_number (tac_of program.tac.now) groups fit.whole.groups at (get_or items k d).0 (numbers_of items) found (inside k d less)

-- ---- `start`

pub start_judged : (whole : Family) → GraphClosed whole whole.graphs.start is_start InStart → FunctionClosed whole InStart whole.tac.start → (test : Bool) → test ≡ first_closed whole 0 whole.tac.globals
    → (test ≡ true → StartClosed whole) × (StartClosed whole → test ≡ true)
start_judged whole last start test is = ((λ t. record { start = start; first = sym is ∙ t; last = last }), (λ closed. is ∙ closed.first))

-- ---- all

pub one_more : (whole : Family) (number : ℕ) → ((before : ℕ) → before < number → GroupClosed whole before) → GroupClosed whole number → (before : ℕ) → before < number + 1 → GroupClosed whole before
one_more whole number closed now before less =
    elim (cases_lt before number) [
      | inl lt ↦ closed before lt
      | inr le ↦ (let same : before ≡ number = omega (arith, le, less) in subst (GroupClosed whole) (sym same) now)
    ]
