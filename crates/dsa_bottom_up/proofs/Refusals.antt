-- A program is refused once, by one count; and not where there are graphs of which no group begins with too many nodes.
use Rattle.std.proofs.Common.{◌≡◌, ℕ, ◌<◌, ◌≤◌, ◌⊎◌, inl, inr, List, length, subst, arith}
use Rattle.std.proofs.lemmas.Bool.{cases_lt}
use Rattle.std.proofs.lemmas.Option.{slice_get_within}
use Rattle.tac_ir.specs.Code.{Tac}
use Rattle.tac_ir.specs.Groups.{AreGroups}
use Rattle.heap_graph.specs.Graphs.{ProgramGraphs}
use Rattle.heap_graph.specs.Closed.{Family}
use Rattle.dsa_bottom_up.specs.Below.{ClosedBelow, LeastBelow}
use Rattle.dsa_bottom_up.proofs.Below.{closed_less, least_less}
use Rattle.dsa_bottom_up.specs.Refused.{limit, AreFew, GroupCounts, StartCounts, IsRefused, in_group, in_start}
use Rattle.dsa_bottom_up.proofs.RoundTrips.{family_with}
use Rattle.dsa_bottom_up.proofs.SameCounts.{same_counts, same_start_counts}

module _ (tac : Tac) (groups : List (List ℕ)) (counts : List ℕ) (own : ℕ) where
  -- graphs that are closed and the least below a number, of which no group so far begins with too many nodes
  record Reached (number : ℕ) : Type 0 where
    graphs : ProgramGraphs
    closed : ClosedBelow (family_with tac groups graphs) number
    least : LeastBelow (family_with tac groups graphs) number
    few : AreFew (family_with tac groups graphs) counts number

  record AtGroup (n : ℕ) : Type 0 where
    number : ℕ
    reached : Reached number
    counted : GroupCounts (family_with tac groups reached.graphs) counts number n
    many : limit < n

  record AtStart (n : ℕ) : Type 0 where
    reached : Reached (length groups)
    counted : StartCounts (family_with tac groups reached.graphs) own n
    many : limit < n

  -- a family of the program is that of its graphs
  same_family : (family : Family) → family.tac ≡ tac → family.groups ≡ groups → family ≡ family_with tac groups family.graphs
  same_family family code lists = λ i. record { tac = code i; groups = lists i; graphs = family.graphs }

  reached_by : (family : Family) (number : ℕ) → family ≡ family_with tac groups family.graphs → ClosedBelow family number → LeastBelow family number → AreFew family counts number → Reached number
  reached_by family number same closed least few = record {
    graphs = family.graphs;
    closed = subst (λ f. ClosedBelow f number) same closed;
    least = subst (λ f. LeastBelow f number) same least;
    few = subst (λ f. AreFew f counts number) same few;
  }

  refused_at : (n : ℕ) → IsRefused tac groups counts own n → AtGroup n ⊎ AtStart n
  unfolding reached_by
  refused_at n (in_group family number code lists closed least few counted many) =
      let same = same_family family code lists in
      inl (record { number = number; reached = reached_by family number same closed least few; counted = subst (λ f. GroupCounts f counts number n) same counted; many = many })
  refused_at n (in_start family code lists closed least few counted many) =
      let same = same_family family code lists in
      inr (record { reached = reached_by family (length groups) same closed least few; counted = subst (λ f. StartCounts f own n) same counted; many = many })

  module _ (are : AreGroups tac groups) where
    -- of two families that are known as far as a group both count as much of it
    same_count : (number one two : ℕ) → number ≤ one → number ≤ two → (first : Reached one) (second : Reached two) (n m : ℕ) → GroupCounts (family_with tac groups first.graphs) counts number n
        → GroupCounts (family_with tac groups second.graphs) counts number m → n ≡ m
    same_count number one two below also first second n m counted others =
        let place = slice_get_within groups number counted.group counted.is in
        same_counts tac groups are first.graphs second.graphs number (omega (arith, place)) (closed_less (family_with tac groups first.graphs) one number below first.closed)
        (least_less (family_with tac groups first.graphs) one number below first.least) (closed_less (family_with tac groups second.graphs) two number also second.closed)
        (least_less (family_with tac groups second.graphs) two number also second.least) counts n m counted others

    -- no group that is refused stands before one that is reached
    none_before : (n number : ℕ) (its : AtGroup n) → Reached number → its.number < number → ⊥
    none_before n number its other less =
        let few = other.few its.number less in
        let same = same_count its.number its.number number (omega arith) (omega (arith, less)) its.reached other n few.0 its.counted few.1 in
        let many = its.many in
        let most = few.2 in
        omega (arith, same, many, most)

    once : (n m : ℕ) → AtGroup n ⊎ AtStart n → AtGroup m ⊎ AtStart m → n ≡ m
    once n m (inl one) (inl two) = elim (cases_lt one.number two.number) [
      | inl less ↦ absurd (none_before n two.number one two.reached less)
      | inr past ↦ elim (cases_lt two.number one.number) [
        | inl less ↦ absurd (none_before m one.number two one.reached less)
        | inr behind ↦
            let same : two.number ≡ one.number = omega (arith, past, behind) in
            same_count one.number one.number two.number (omega arith) (omega (arith, same)) one.reached two.reached n m one.counted (subst (λ number. GroupCounts (family_with tac groups two.reached.graphs) counts number m) same two.counted)
      ]
    ]
    once n m (inl one) (inr two) = absurd (none_before n (length groups) one two.reached (slice_get_within groups one.number one.counted.group one.counted.is))
    once n m (inr one) (inl two) = absurd (none_before m (length groups) two one.reached (slice_get_within groups two.number two.counted.group two.counted.is))
    once n m (inr one) (inr two) =
        same_start_counts tac groups are one.reached.graphs two.reached.graphs one.reached.closed one.reached.least two.reached.closed two.reached.least own n m one.counted two.counted

pub refused_once : (tac : Tac) (groups : List (List ℕ)) → AreGroups tac groups → (counts : List ℕ) (own n m : ℕ) → IsRefused tac groups counts own n → IsRefused tac groups counts own m → n ≡ m
refused_once tac groups are counts own n m one two = once tac groups counts own are n m (refused_at tac groups counts own n one) (refused_at tac groups counts own m two)

pub few_not_refused : (family : Family) → AreGroups family.tac family.groups → ClosedBelow family (length family.groups) → LeastBelow family (length family.groups) → (counts : List ℕ) (own : ℕ)
    → AreFew family counts (length family.groups) → ((count : ℕ) × StartCounts family own count × (count ≤ limit)) → (n : ℕ) → IsRefused family.tac family.groups counts own n → ⊥
few_not_refused family are closed least counts own few first n refused = by (refused_at family.tac family.groups counts own n refused)
  where
    all : Reached family.tac family.groups counts own (length family.groups)
    all = record { graphs = family.graphs; closed = closed; least = least; few = few }

    by : AtGroup family.tac family.groups counts own n ⊎ AtStart family.tac family.groups counts own n → ⊥
    by (inl one) = none_before family.tac family.groups counts own are n (length family.groups) one all (slice_get_within family.groups one.number one.counted.group one.counted.is)
    by (inr one) =
        let same = same_start_counts family.tac family.groups are one.reached.graphs family.graphs one.reached.closed one.reached.least closed least own n first.0 one.counted first.1 in
        let many = one.many in
        let most = first.2 in
        omega (arith, same, many, most)
