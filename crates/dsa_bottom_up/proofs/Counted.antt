-- Groups are counted one after the other: none so far begins with too many nodes, or one does, and the program is refused.
use Rattle.std.proofs.Common.{◌≡◌, ℕ, suc, ◌<◌, ◌≤◌, ◌⊎◌, List, length, refl, sym, subst, inl, inr, arith}
use Rattle.std.proofs.lemmas.Bool.{cases_lt}
use Rattle.tac_ir.specs.declared.program.Tac as memory_tac
use Rattle.tac_ir.specs.Views.{tac_of}
use Rattle.call_graph.specs.declared.group_lists.Groups.{Groups}
use Rattle.call_graph.specs.GroupViews.{groups_of}
use Rattle.heap_graph.specs.declared.program.ProgramGraphs.{ProgramGraphs}
use Rattle.dsa_bottom_up.specs.AssembledGroups.Making.{IsGrouped, family_at, BeginsWith, IsMaking}
use Rattle.dsa_bottom_up.specs.Below.{LeastBelow}
use Rattle.dsa_bottom_up.specs.LeastGraphs.Making.{AreLeast}
use Rattle.dsa_bottom_up.proofs.Adding.{least_begins}
use Rattle.dsa_bottom_up.proofs.Mapped.{none_below, below_more}
use Rattle.dsa_bottom_up.specs.Bare.{AreBare}
use Rattle.dsa_bottom_up.proofs.AllBare.{bare_begins}
use Rattle.dsa_bottom_up.specs.declared.making.Making.{Making}
use Rattle.dsa_bottom_up.specs.Making.{made_in, AreKeptBelow}
use Rattle.dsa_bottom_up.specs.Refused.{limit, AreFew, GroupCounts, StartCounts, IsRefused, in_group, in_start}
use Rattle.dsa_bottom_up.proofs.ClosedSoFar.{closed_so_far}

-- the graphs so far
abbrev pub all_so_far : Making → ProgramGraphs
all_so_far making = record { graphs = making.graphs; functions = making.functions; start = making.start; start_function = making.start_function }

-- So many groups have their graphs, and none of them begins with too many nodes. The graphs are mapped to those of each other family that is
-- closed below this number, or a smaller one, and no flag can be taken away.
pub record SoFar (tac : memory_tac.Tac) (groups : Groups) (counts : List ℕ) (making : Making) (number : ℕ) : Type 0 where
  pub made : IsMaking (made_in tac groups making) number
  pub kept : AreKeptBelow (made_in tac groups making) number
  pub few : (all : ProgramGraphs) → BeginsWith (made_in tac groups making) number all → AreFew (family_at (made_in tac groups making) all) counts number
  pub least : (tac_of tac).start.parameters ≡ 0 → AreLeast (made_in tac groups making) number
  pub below : (tac_of tac).start.parameters ≡ 0 → (all : ProgramGraphs) → BeginsWith (made_in tac groups making) number all → LeastBelow (family_at (made_in tac groups making) all) number
  pub bare : (tac_of tac).start.parameters ≡ 0 → AreBare (made_in tac groups making) number

module _ (tac : memory_tac.Tac) (groups : Groups) (counts : List ℕ) where
  pub begins_itself : (making : Making) (number : ℕ) → IsMaking (made_in tac groups making) number → BeginsWith (made_in tac groups making) number (all_so_far making)
  begins_itself making number made = record { functions = made.functions; graphs = λ at less. refl; own = λ called group is less. refl }

  pub none_so_far : (making : Making) → IsMaking (made_in tac groups making) 0 → AreKeptBelow (made_in tac groups making) 0 → SoFar tac groups counts making 0
  none_so_far making made kept = record { made = made; kept = kept; few = λ all begins at less. absurd (omega (arith, less)); least = λ start. least_begins (made_in tac groups making); below = λ start all begins. none_below (family_at (made_in tac groups making) all); bare = λ start. bare_begins (made_in tac groups making) }

  -- one group more
  pub one_more : (old new : Making) (number : ℕ) → SoFar tac groups counts old number → IsMaking (made_in tac groups new) (suc number) → AreKeptBelow (made_in tac groups new) (suc number)
      → ((all : ProgramGraphs) → BeginsWith (made_in tac groups new) (suc number) all → BeginsWith (made_in tac groups old) number all)
      → ((all : ProgramGraphs) → BeginsWith (made_in tac groups old) number all → (count : ℕ) × GroupCounts (family_at (made_in tac groups old) all) counts number count × (count ≤ limit))
      → ((tac_of tac).start.parameters ≡ 0 → AreLeast (made_in tac groups old) number → AreLeast (made_in tac groups new) (suc number))
      → ((tac_of tac).start.parameters ≡ 0 → AreLeast (made_in tac groups old) number → AreBare (made_in tac groups old) number → AreBare (made_in tac groups new) (suc number)) → SoFar tac groups counts new (suc number)
  one_more old new number so_far made kept begins counted least bare = record {
    made = made;
    kept = kept;
    least = λ start. least start (so_far.least start);
    below = λ start all begun. below_more (made_in tac groups new) number (least start (so_far.least start)) all begun (so_far.below start all (begins all begun));
    bare = λ start. bare start (so_far.least start) (so_far.bare start);
    few = λ all begun at less. by all (begins all begun) at (less_or at less);
  }
    where
      less_or : (at : ℕ) → at < suc number → (at < number) ⊎ (at ≡ number)
      less_or at less = elim (cases_lt at number) [
        | inl before ↦ inl before
        | inr past ↦ inr (omega (arith, less, past))
      ]

      by : (all : ProgramGraphs) → BeginsWith (made_in tac groups old) number all → (at : ℕ) → (at < number) ⊎ (at ≡ number)
          → (count : ℕ) × GroupCounts (family_at (made_in tac groups old) all) counts at count × (count ≤ limit)
      by all begun at (inl less) = so_far.few all begun at less
      by all begun at (inr same) = subst (λ n. (count : ℕ) × GroupCounts (family_at (made_in tac groups old) all) counts n count × (count ≤ limit)) (sym same) (counted all begun)

  -- the next group begins with too many
  pub group_refused : (making : Making) (own number count : ℕ) → SoFar tac groups counts making number → IsGrouped tac groups → (tac_of tac).start.parameters ≡ 0 → limit < count
      → ((all : ProgramGraphs) → BeginsWith (made_in tac groups making) number all → GroupCounts (family_at (made_in tac groups making) all) counts number count)
      → IsRefused (tac_of tac) (groups_of groups) counts own count
  group_refused making own number count so_far grouped start many counted =
      let begins = begins_itself making number so_far.made in
      in_group (family_at (made_in tac groups making) (all_so_far making)) number refl refl (closed_so_far (made_in tac groups making) grouped number so_far.made (all_so_far making) begins)
      (so_far.below start (all_so_far making) begins) (so_far.few (all_so_far making) begins) (counted (all_so_far making) begins) many

  pub start_refused : (making : Making) (own count : ℕ) → SoFar tac groups counts making (length (groups_of groups)) → IsGrouped tac groups → (tac_of tac).start.parameters ≡ 0 → limit < count
      → ((all : ProgramGraphs) → BeginsWith (made_in tac groups making) (length (groups_of groups)) all → StartCounts (family_at (made_in tac groups making) all) own count)
      → IsRefused (tac_of tac) (groups_of groups) counts own count
  start_refused making own count so_far grouped start many counted =
      let begins = begins_itself making (length (groups_of groups)) so_far.made in
      in_start (family_at (made_in tac groups making) (all_so_far making)) refl refl (closed_so_far (made_in tac groups making) grouped (length (groups_of groups)) so_far.made (all_so_far making) begins)
      (so_far.below start (all_so_far making) begins) (so_far.few (all_so_far making) begins) (counted (all_so_far making) begins) many
