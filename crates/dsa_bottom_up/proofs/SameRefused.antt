-- Programs of the same code are refused by the same counts.
use Rattle.std.proofs.Common.{◌≡◌, ℕ, ◌<◌, List, length, refl, subst}
use Rattle.c_typed.specs.Types.{CType}
use Rattle.tac_ir.specs.Code.{Tac}
use Rattle.heap_graph.specs.Graphs.{ProgramGraphs}
use Rattle.dsa_bottom_up.specs.Below.{ClosedBelow, LeastBelow}
use Rattle.dsa_bottom_up.specs.Refused.{limit, AreFew, GroupCounts, StartCounts, IsRefused, in_group, in_start}
use Rattle.dsa_bottom_up.specs.Same.{SameCode, renamed}
use Rattle.dsa_bottom_up.proofs.CodeIsOne.Programs.{same_held}
use Rattle.dsa_bottom_up.proofs.Renamed.{closed_renamed, maps_renamed, group_counts_renamed, start_counts_renamed, few_renamed}

module _ (tac : Tac) (own_name : List ℕ) (own_type : CType) (groups : List (List ℕ)) where
  abbrev other : Tac
  other = renamed own_name own_type tac

  least_renamed : (graphs : ProgramGraphs) (number : ℕ) → LeastBelow (record { tac = tac; groups = groups; graphs = graphs }) number → LeastBelow (record { tac = renamed own_name own_type tac; groups = groups; graphs = graphs }) number
  least_renamed graphs number least others at reach closed =
      let its = least others at reach (closed_renamed other tac.start.name tac.start.c_type groups others at closed) in
      (its.0, maps_renamed tac own_name own_type groups graphs others at its.0 its.1)

  refused_group : (counts : List ℕ) (own n number : ℕ) (graphs : ProgramGraphs) → ClosedBelow (record { tac = tac; groups = groups; graphs = graphs }) number → LeastBelow (record { tac = tac; groups = groups; graphs = graphs }) number
      → AreFew (record { tac = tac; groups = groups; graphs = graphs }) counts number → GroupCounts (record { tac = tac; groups = groups; graphs = graphs }) counts number n → limit < n → IsRefused other groups counts own n
  refused_group counts own n number graphs closed least few counted many =
      in_group (record { tac = other; groups = groups; graphs = graphs }) number refl refl (closed_renamed tac own_name own_type groups graphs number closed) (least_renamed graphs number least)
      (few_renamed tac own_name own_type groups graphs counts number few) (group_counts_renamed tac own_name own_type groups graphs counts number n counted) many

  refused_first : (counts : List ℕ) (own n : ℕ) (graphs : ProgramGraphs) → ClosedBelow (record { tac = tac; groups = groups; graphs = graphs }) (length groups)
      → LeastBelow (record { tac = tac; groups = groups; graphs = graphs }) (length groups) → AreFew (record { tac = tac; groups = groups; graphs = graphs }) counts (length groups)
      → StartCounts (record { tac = tac; groups = groups; graphs = graphs }) own n → limit < n → IsRefused other groups counts own n
  refused_first counts own n graphs closed least few counted many =
      in_start (record { tac = other; groups = groups; graphs = graphs }) refl refl (closed_renamed tac own_name own_type groups graphs (length groups) closed) (least_renamed graphs (length groups) least)
      (few_renamed tac own_name own_type groups graphs counts (length groups) few) (start_counts_renamed tac own_name own_type groups graphs own n counted) many

  refused_renamed : (counts : List ℕ) (own n : ℕ) → IsRefused tac groups counts own n → IsRefused other groups counts own n
  refused_renamed counts own n (in_group family number code lists closed least few counted many) =
      let same : family ≡ record { tac = tac; groups = groups; graphs = family.graphs } = λ i. record { tac = code i; groups = lists i; graphs = family.graphs } in
      refused_group counts own n number family.graphs (subst (λ f. ClosedBelow f number) same closed) (subst (λ f. LeastBelow f number) same least) (subst (λ f. AreFew f counts number) same few)
      (subst (λ f. GroupCounts f counts number n) same counted) many
  refused_renamed counts own n (in_start family code lists closed least few counted many) =
      let same : family ≡ record { tac = tac; groups = groups; graphs = family.graphs } = λ i. record { tac = code i; groups = lists i; graphs = family.graphs } in
      refused_first counts own n family.graphs (subst (λ f. ClosedBelow f (length groups)) same closed) (subst (λ f. LeastBelow f (length groups)) same least) (subst (λ f. AreFew f counts (length groups)) same few)
      (subst (λ f. StartCounts f own n) same counted) many

pub same_refused : (a b : Tac) → SameCode a b → (groups : List (List ℕ)) (counts : List ℕ) (own n : ℕ) → IsRefused b groups counts own n → IsRefused a groups counts own n
same_refused a b same groups counts own n refused =
    same_held a b same (λ tac. IsRefused tac groups counts own n) (λ tac name c_type held. refused_renamed tac name c_type groups counts own n held) refused
