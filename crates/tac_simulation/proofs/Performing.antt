-- The code of statements without loops does what they do, if that of their parts does.
use Rattle.std.proofs.Common.{◌≡◌, ℕ, suc, ◌+◌, ◌≤◌, ◌<◌, ◌⊎◌, inl, inr, Bool, true, false, not, if◌then◌else◌, ◌&&◌, List, [], ◌∷◌, ◌++◌, append_assoc, length-append, Option, Some, ℤ, refl, sym, ap, ◌∙◌, subst, arith}
use Rattle.std.proofs.lemmas.Bool.{and_parts}
use Rattle.c_num.specs.declared.IntType.{IntType}
use Rattle.c_num.specs.Types.{is_value}
use Rattle.c_typed.specs.Types.{CType, Integer, is_integer}
use Rattle.c_typed.specs.Values.{not_zero}
use Rattle.c_typed.specs.Typed as T
use Rattle.c_typed.specs.Typed.{Value, Stmt, Block, LocalDef, Program}
use Rattle.c_typed.specs.Context.{with_local}
use Rattle.c_typed.specs.Expressions.{type_of}
use Rattle.c_typed.specs.Statements.{Within, is_condition, is_local, is_stmt, is_block}
use Rattle.c_typed.specs.Programs.{IsWellTyped}
use Rattle.c_typed.specs.Sizes.{makes, local_makes, stmt_makes, block_makes, is_storable}
use Rattle.ref_semantics.specs.Values as V
use Rattle.ref_semantics.specs.Store as S
use Rattle.ref_semantics.specs.Store.{Outcome, Then, Eval, ◌>>=◌, give, continue_with}
use Rattle.ref_semantics.specs.Meaning as Meaning
use Rattle.ref_semantics.specs.Meaning.{Calls, Completion, Normal, Break, Continue, Return, is_true, value, block_rest}
use Rattle.ref_semantics.specs.First.{around_of}
use Rattle.ref_semantics.specs.Sound.{HasType}
use Rattle.ref_semantics.specs.Keeping.{Keeps, CallsKeep}
use Rattle.ref_semantics.proofs.StatementsKeep.{stmt_keeps, holds_for-some, some_type}
use Rattle.tac_ir.specs.Code.{Op, Tree, Tac}
use Rattle.tac_ir.specs.Code as O
use Rattle.tac_ir.specs.Values.{OfActivation}
use Rattle.tac_ir.specs.Trees.{computes, is_zero, tree_nodes}
use Rattle.tac_ir.specs.Costs.{more_cost}
use Rattle.tac_ir.specs.States.{State, go_to}
use Rattle.tac_ir.specs.Meaning.{execute}
use Rattle.tac_build.specs.Homes.{Home, Scope}
use Rattle.tac_build.specs.Spots.{Spot, behind, AsInteger, Kept, Dropped}
use Rattle.tac_build.specs.Code.{HasOp}
use Rattle.tac_build.specs.StatementCode.{Ways, BranchCode}
use Rattle.tac_build.specs.Forms.{scope_types, context_of}
use Rattle.tac_simulation.specs.Standing.{Placement, Frame, At, surroundings}
use Rattle.tac_simulation.proofs.Paths.{Stand, Passage as Passing, Passes, Does, comes, stops, start, stepped, eased, eases, along, allows, bind, chosen}
use Rattle.tac_simulation.proofs.Spotting.{Runs, before_at, around_is}
use Rattle.tac_simulation.proofs.Evaluating.{ValueDoes, value_units}
use Rattle.tac_build.proofs.Forms.{value_form}
use Rattle.tac_simulation.proofs.Combining.{ticked, then_value}
use Rattle.tac_simulation.proofs.Constants.{left_most}
use Rattle.tac_simulation.proofs.Going.{gone, at_gone, jumps}
use Rattle.tac_simulation.proofs.Executing
use Rattle.tac_simulation.proofs.Executing.{left_behind}
use Rattle.tac_simulation.proofs.Widens.{numbers_later, objects_before, local_widens, local_numbered, branch_widens, stmt_widens, block_widens}

module _ (tac : Tac) (program : Program) (calls : Calls) (worth : ℕ) (points : List Op) (hidden : ℕ → Option V.Content) (frame : Frame)
    (runs : Runs tac program points frame) (well : IsWellTyped program) (keep : CallsKeep program calls)
    (values_do : (placement : Placement) (scope : Scope) (tree : Value) → ValueDoes tac program calls worth points placement hidden frame scope tree) where
  abbrev Stays : Placement → Scope → ℕ → S.State → State → Type 0
  Stays placement scope at s t = Executing.StaysAt tac program calls worth points hidden frame placement scope at s t

  abbrev Leaving : Placement → Scope → ℕ → Ways program points → Stand Completion
  Leaving placement scope onward ways way s t = Executing.Leaves tac program calls worth points hidden frame placement scope onward ways way s t

  abbrev pub Executed : Stmt → Type 0
  Executed tree = Executing.Executes tac program calls worth points hidden frame tree

  abbrev pub ExecutedBlock : Block → Type 0
  ExecutedBlock items = Executing.ExecutesBlock tac program calls worth points hidden frame items

  -- ---- conditions

  branch_passes : (placement : Placement) (scope : Scope) (own : IntType) (tree : Tree) (holds fails at : ℕ) (z : ℤ) (test : Bool) (s : S.State) (state : State) → At program placement hidden frame scope at s state
      → HasOp points at (O.Branch own tree holds fails) → computes state.running.registers tree ≡ Some z → is_value own z ≡ true → not_zero z ≡ test
      → Passes tac (O.Branch own tree holds fails) state (gone (if test then holds else fails) state)
  branch_passes placement scope own tree holds fails at z test s state h has is fits tests = record {
    before = before_at tac program points placement hidden frame scope runs at (O.Branch own tree holds fails) s state has h;
    does = ap (λ around. execute tac around (O.Branch own tree holds fails) state) (around_is tac program points placement hidden frame scope runs at s state h) ∙ by (is_zero z) refl;
  }
    where
      by : (b : Bool) → is_zero z ≡ b → execute tac (surroundings program frame) (O.Branch own tree holds fails) state ≡ go_to (if test then holds else fails) state
      by true e = let off : test ≡ false = sym tests ∙ ap not e in rw (is, fits, e, off) refl
      by false e = let on : test ≡ true = sym tests ∙ ap not e in rw (is, fits, e, on) refl

  -- A condition is evaluated, and the code branches. The branch isn't yet passed, since in a loop it pays for the turn.
  pub conditions : {B : Type 0} {Stands : Stand B} {begin : State} {n lag lag' slack slack' : ℕ} (first second : Eval B) (condition : Value) (placement : Placement) (scope : Scope) (from to : Spot) (holds fails : ℕ)
      → BranchCode program points scope condition from to holds fails → is_condition (context_of program scope) condition ≡ true → makes (is_storable program.structs) condition ≡ true
      → (s : S.State) (state : State) → Passing tac worth begin state n s.units lag slack → Stays placement scope from.at s state → lag + value_units condition ≤ lag'
      → ((s' : S.State) (op : Op) (mid state' : State) → Passing tac worth begin mid n s'.units (lag + value_units condition) (slack + 3 + more_cost op) → Passes tac op mid state' → Stays placement scope holds s' state'
      → Keeps (context_of program scope) s s' → Does tac worth begin n lag' slack' Stands (first s'))
      → ((s' : S.State) (op : Op) (mid state' : State) → Passing tac worth begin mid n s'.units (lag + value_units condition) (slack + 3 + more_cost op) → Passes tac op mid state' → Stays placement scope fails s' state'
      → Keeps (context_of program scope) s s' → Does tac worth begin n lag' slack' Stands (second s'))
      → Does tac worth begin n lag' slack' Stands (continue_with (λ c. if is_true c then first else second) (value (around_of program) calls condition s))
  conditions {B} {Stands} {begin} {n} {lag} {lag'} {slack} {slack'} first second condition placement scope from to holds fails code typed small s state p at more true_way false_way =
      let known = holds_for-some is_integer (type_of (context_of program scope) condition) typed in
      let form : known.0 ≡ Integer code.1 = value_form program points scope condition Kept known.0 from code.0 (AsInteger code.1 code.2) known.1 code.3 in
      let least = left_most condition in
      then_value tac program calls worth points placement hidden frame scope runs well keep condition (values_do placement scope condition) (λ c. if is_true c then first else second) Kept from code.0 (AsInteger code.1 code.2) known.0
      code.3 known.1 small s state p at more (λ scalar s' state' p' come keeps has_type.
      let z = come.1.0 in
      let fits : is_value code.1 z ≡ true = subst (λ c. HasType program s' (Integer code.1) c) come.1.1 (subst (λ u. HasType program s' u scalar) form has_type) in
      let there : (to : ℕ) → Stays placement scope to s' (gone to state') = λ to. record { stands = at_gone tac program worth points placement hidden frame scope runs code.0.at to s' state' come.0.there; sound = keeps.sound } in
      let p'' : Passing tac worth begin state' n s'.units (lag + value_units condition) (slack + 3 + tree_nodes code.2) = eased p' (omega arith) (omega (arith, least)) in
      subst (λ c. Does tac worth begin n lag' slack' Stands ((if is_true c then first else second) s')) (sym come.1.1)
      (chosen (not_zero z) first second s'
      (λ yes. true_way s' (O.Branch code.1 code.2 holds fails) state' (gone holds state') p''
      (branch_passes placement scope code.1 code.2 holds fails code.0.at z true s' state' come.0.there code.4.0 come.1.2 fits yes) (there holds) keeps)
      (λ no. false_way s' (O.Branch code.1 code.2 holds fails) state' (gone fails state') p''
      (branch_passes placement scope code.1 code.2 holds fails code.0.at z false s' state' come.0.there code.4.0 come.1.2 fits no) (there fails) keeps)))

  -- ---- statements without parts

  pub empties : Executed T.Empty
  empties within placement scope from to ways code typed small numbered objects enough s state at =
      ticked tac program calls worth points placement hidden frame scope runs well keep (give Normal) from.at s state (start state s.units) at (omega arith) (λ left p at'.
      comes Normal (record s { units = left }) state (eased p (omega arith) (omega arith)) (subst (λ (spot : Spot). Stays placement scope spot.at (record s { units = left }) state) (sym code) at'))

  pub breaks : Executed T.Break
  breaks within placement scope from to ways code typed small numbered objects enough s state at =
      ticked tac program calls worth points placement hidden frame scope runs well keep (give Break) from.at s state (start state s.units) at (omega arith) (λ left p at'.
      let there = jumps tac program worth points placement hidden frame scope runs left_behind ways.broken from.at (record s { units = left }) state p at'.stands code.0 (omega arith) in
      comes Break (record s { units = left }) (gone ways.broken state) (eased there.passing (omega arith) (omega arith)) (record { stands = there.there; sound = at'.sound }))

  pub continues : Executed T.Continue
  continues within placement scope from to ways code typed small numbered objects enough s state at =
      ticked tac program calls worth points placement hidden frame scope runs well keep (give Continue) from.at s state (start state s.units) at (omega arith) (λ left p at'.
      let there = jumps tac program worth points placement hidden frame scope runs left_behind ways.continued from.at (record s { units = left }) state p at'.stands code.0 (omega arith) in
      comes Continue (record s { units = left }) (gone ways.continued state) (eased there.passing (omega arith) (omega arith)) (record { stands = there.there; sound = at'.sound }))

  pub expressions : (v : Value) → Executed (T.Expression v)
  expressions v within placement scope from to ways code typed small numbered objects enough s state at =
      let known = some_type (type_of (context_of program scope) v) typed in
      ticked tac program calls worth points placement hidden frame scope runs well keep (value (around_of program) calls v >>= λ a. give Normal) from.at s state (start state s.units) at (omega arith) (λ left p at'.
      then_value tac program calls worth points placement hidden frame scope runs well keep v (values_do placement scope v) (λ a. give Normal) Dropped from to code.0 known.0 code.1 known.1 small (record s { units = left }) state p at' (omega arith)
      (λ scalar s1 state1 p1 come keeps has_type. comes Normal s1 state1 (eased p1 (omega arith) (omega arith)) (record { stands = come.0.there; sound = keeps.sound })))

  -- ---- branches

  pub ifs : (condition : Value) (taken : Stmt) → Executed taken → Executed (T.If condition taken)
  ifs condition taken does within placement scope from to ways code typed small numbered objects enough s state at =
      let parts = and_parts (is_condition (context_of program scope) condition) (is_stmt (context_of program scope) within taken) typed in
      let sizes = and_parts (makes (is_storable program.structs) condition) (stmt_makes (is_storable program.structs) taken) small in
      let front = branch_widens program points scope condition from code.0 code.0.at to.at code.1 in
      ticked tac program calls worth points placement hidden frame scope runs well keep
      (value (around_of program) calls condition >>= λ c. if is_true c then Meaning.stmt (around_of program) calls taken else give Normal) from.at s state (start state s.units) at (omega arith) (λ left p at'.
      conditions (Meaning.stmt (around_of program) calls taken) (give Normal) condition placement scope from code.0 code.0.at to.at code.1 parts.0 sizes.0 (record s { units = left }) state p at' (omega arith)
      (λ s1 op mid state1 p1 passes there keeps.
      eases (along (stepped {lag' = 1 + value_units condition} {slack' = 16} p1 passes (omega arith) (omega arith))
      (does within placement scope code.0 to ways code.2 parts.1 sizes.1 (numbers_later from.counts code.0.counts front.variables scope numbered) objects (omega arith) s1 state1 there)) (omega arith) (omega arith))
      (λ s1 op mid state1 p1 passes there keeps. comes Normal s1 state1 (stepped p1 passes (omega arith) (omega arith)) there))

  pub if_elses : (condition : Value) (taken otherwise : Stmt) → Executed taken → Executed otherwise → Executed (T.IfElse condition taken otherwise)
  if_elses condition taken otherwise does does' within placement scope from to ways code typed small numbered objects enough s state at =
      let parts = and_parts (is_condition (context_of program scope) condition && is_stmt (context_of program scope) within taken) (is_stmt (context_of program scope) within otherwise) typed in
      let parts' = and_parts (is_condition (context_of program scope) condition) (is_stmt (context_of program scope) within taken) parts.0 in
      let sizes = and_parts (makes (is_storable program.structs) condition && stmt_makes (is_storable program.structs) taken) (stmt_makes (is_storable program.structs) otherwise) small in
      let sizes' = and_parts (makes (is_storable program.structs) condition) (stmt_makes (is_storable program.structs) taken) sizes.0 in
      let front = branch_widens program points scope condition from code.0 code.0.at (suc code.1.at) code.2 in
      let middle = stmt_widens program points taken scope code.0 code.1 ways code.3 in
      let last = stmt_widens program points otherwise scope (behind code.1) to ways code.5 in
      let more = front.variables in
      let more' = middle.variables in
      ticked tac program calls worth points placement hidden frame scope runs well keep
      (value (around_of program) calls condition >>= λ c. if is_true c then Meaning.stmt (around_of program) calls taken else Meaning.stmt (around_of program) calls otherwise) from.at s state (start state s.units) at (omega arith) (λ left p at'.
      conditions (Meaning.stmt (around_of program) calls taken) (Meaning.stmt (around_of program) calls otherwise) condition placement scope from code.0 code.0.at (suc code.1.at) code.2 parts'.0 sizes'.0 (record s { units = left }) state p at' (omega arith)
      (λ s1 op mid state1 p1 passes there keeps.
      jumps_behind taken within placement scope code.0 code.1 to ways code.4 (along (stepped {lag' = 1 + value_units condition} {slack' = 16} p1 passes (omega arith) (omega arith))
      (does within placement scope code.0 code.1 ways code.3 parts'.1 sizes'.1 (numbers_later from.counts code.0.counts front.variables scope numbered) (objects_before frame.objects last objects) (omega arith) s1 state1 there)) (omega arith) (omega arith))
      (λ s1 op mid state1 p1 passes there keeps.
      eases (along (stepped {lag' = 1 + value_units condition} {slack' = 16} p1 passes (omega arith) (omega arith))
      (does' within placement scope (behind code.1) to ways code.5 parts.1 sizes.1 (numbers_later from.counts code.1.counts (omega (arith, more, more')) scope numbered) objects (omega arith) s1 state1 there)) (omega arith) (omega arith)))
    where
      -- a jump behind a statement that goes on
      jumps_behind : {begin : State} {n lag lag' slack slack' : ℕ} {outcome : Outcome Completion} (tree : Stmt) (within : Within) (placement : Placement) (scope : Scope) (from last to : Spot) (ways : Ways program points) → HasOp points last.at (O.Jump to.at)
          → Does tac worth begin n lag slack (Leaving placement scope last.at ways) outcome → lag ≤ lag' → slack' < slack → Does tac worth begin n lag' slack' (Leaving placement scope to.at ways) outcome
      jumps_behind {slack' = slack'} tree within placement scope from last to ways has (comes Normal s t p leaves) more less =
          let there = jumps tac program worth points placement hidden frame scope runs slack' to.at last.at s t p leaves.stands has less in
          comes Normal s (gone to.at t) (eased there.passing more (omega arith)) (record { stands = there.there; sound = leaves.sound })
      jumps_behind tree within placement scope from last to ways has (comes Break s t p leaves) more less = comes Break s t (eased p more (omega arith)) leaves
      jumps_behind tree within placement scope from last to ways has (comes Continue s t p leaves) more less = comes Continue s t (eased p more (omega arith)) leaves
      jumps_behind tree within placement scope from last to ways has (comes (Return given) s t p leaves) more less = comes (Return given) s t (eased p more (omega arith)) leaves
      jumps_behind {begin = begin} {slack' = slack'} tree within placement scope from last to ways has (stops answer s a) more less =
          let same : Does tac worth begin _ _ slack' (Leaving placement scope to.at ways) (S.Stopped answer s) = stops answer s a in eases same more (omega arith)

  -- ---- the items of a block

  pub closes : ExecutedBlock T.Close
  closes within placement scope from to ways code typed small numbered objects enough s state at =
      comes Normal s state (start state s.units) (record {
        placed = placement;
        more = [];
        fresh = [];
        extends = λ number. inl refl;
        own = refl;
        depth = refl;
        left = subst (λ (spot : Spot). Stays placement scope spot.at s state) (sym code) at;
      })

  grown_later : {LeftIn : Placement → Scope → Type 0} {s : S.State} (count count' : ℕ) (outer outer' : List ℕ) (placement : Placement) (scope : Scope) → count ≤ count' → outer' ≡ outer
      → Executing.Grown tac program calls worth points hidden frame count' outer' placement scope LeftIn s → Executing.Grown tac program calls worth points hidden frame count outer placement scope LeftIn s
  grown_later count count' outer outer' placement scope more same g = record {
    placed = g.placed;
    more = g.more;
    fresh = g.fresh;
    extends = λ number. by number (g.extends number);
    own = g.own ∙ ap (λ names. g.fresh ++ names) same;
    depth = g.depth;
    left = g.left;
  }
    where
      by : (number : ℕ) → (g.placed number ≡ placement number) ⊎ ((count' ≤ number) × ((local : _) × (g.placed number ≡ Some (OfActivation frame.number local))))
          → (g.placed number ≡ placement number) ⊎ ((count ≤ number) × ((local : _) × (g.placed number ≡ Some (OfActivation frame.number local))))
      by number (inl same) = inl same
      by number (inr new) = inr (omega (arith, new.0), new.1)

  alone : {LeftIn : Placement → Scope → Type 0} (s s1 : S.State) (placement : Placement) (scope : Scope) → s1.locals ≡ s.locals → LeftIn placement scope
      → Executing.Grown tac program calls worth points hidden frame s.next_local s.locals placement scope LeftIn s1
  alone s s1 placement scope same left = record { placed = placement; more = []; fresh = []; extends = λ number. inl refl; own = same; depth = refl; left = left }

  -- what follows a statement in a block
  then_items : {begin : State} {n lag lag' : ℕ} (placement : Placement) (scope : Scope) (mid onward : ℕ) (ways : Ways program points) (rest : Eval Completion) (s : S.State) (outcome : Outcome Completion)
      → ((way : Completion) (s1 : S.State) → outcome ≡ Then way s1 → Keeps (context_of program scope) s s1)
      → Does tac worth begin n lag left_behind (Leaving placement scope mid ways) outcome → lag ≤ lag'
      → ((s1 : S.State) (state1 : State) → Passing tac worth begin state1 n s1.units lag left_behind → Stays placement scope mid s1 state1
      → Does tac worth begin n lag' 0 (λ way s2 state2. Executing.LeavesWithin tac program calls worth points hidden frame s1.next_local s1.locals placement scope onward ways way s2 state2) (rest s1))
      → Does tac worth begin n lag' 0 (λ way s2 state2. Executing.LeavesWithin tac program calls worth points hidden frame s.next_local s.locals placement scope onward ways way s2 state2) (continue_with (λ way. block_rest way rest) outcome)
  then_items placement scope mid onward ways rest s _ keeps (comes Normal s1 state1 p leaves) more next =
      let kept = keeps Normal s1 refl in
      allows (next s1 state1 p leaves) (λ way s2 state2 g. grown_later s.next_local s1.next_local s.locals s1.locals placement scope kept.later.next_local kept.locals g)
  then_items placement scope mid onward ways rest s _ keeps (comes Break s1 state1 p leaves) more next =
      comes Break s1 state1 (eased p more (omega arith)) (alone s s1 placement scope (keeps Break s1 refl).locals leaves)
  then_items placement scope mid onward ways rest s _ keeps (comes Continue s1 state1 p leaves) more next =
      comes Continue s1 state1 (eased p more (omega arith)) (alone s s1 placement scope (keeps Continue s1 refl).locals leaves)
  then_items placement scope mid onward ways rest s _ keeps (comes (Return given) s1 state1 p leaves) more next =
      comes (Return given) s1 state1 (eased p more (omega arith)) (alone s s1 placement scope (keeps (Return given) s1 refl).locals leaves)
  then_items {begin} {n} {lag} placement scope mid onward ways rest s _ keeps (stops answer s1 a) more next =
      let same : Does tac worth begin n lag 0 (λ way s2 state2. Executing.LeavesWithin tac program calls worth points hidden frame s.next_local s.locals placement scope onward ways way s2 state2) (S.Stopped answer s1) = stops answer s1 a in
      eases same more (omega arith)

  pub performs : (one : Stmt) (others : Block) → Executed one → ExecutedBlock others → ExecutedBlock (T.Perform one others)
  performs one others does does' within placement scope from to ways code typed small numbered objects enough s state at =
      let parts = and_parts (is_stmt (context_of program scope) within one) (is_block (context_of program scope) within others) typed in
      let sizes = and_parts (stmt_makes (is_storable program.structs) one) (block_makes (is_storable program.structs) others) small in
      let front = stmt_widens program points one scope from code.0 ways code.1 in
      let last = block_widens program points others scope code.0 to ways code.2 in
      then_items placement scope code.0.at to.at ways (Meaning.block (around_of program) calls others) s (Meaning.stmt (around_of program) calls one s)
      (λ way s1 e. (stmt_keeps program well calls keep (scope_types scope) within one parts.0 sizes.0 s at.sound way s1 e).0)
      (does within placement scope from code.0 ways code.1 parts.0 sizes.0 numbered (objects_before frame.objects last objects) (omega arith) s state at) (omega arith) (λ s1 state1 p leaves.
      eases (along p (does' within placement scope code.0 to ways code.2 parts.1 sizes.1 (numbers_later from.counts code.0.counts front.variables scope numbered) objects (omega arith) s1 state1 leaves)) (omega arith) (omega arith))

  -- more is in scope behind a declaration
  grown_then : {LeftIn : Placement → Scope → Type 0} {s1 s2 : S.State} {t1 : State} {way : Completion} {at : ℕ} (count : ℕ) (outer : List ℕ) (placement : Placement) (scope inner : Scope)
      → (begun : Executing.Begun tac program calls worth points hidden frame count outer placement scope inner at way s1 t1)
      → Executing.Grown tac program calls worth points hidden frame s1.next_local s1.locals begun.placed inner LeftIn s2 → Executing.Grown tac program calls worth points hidden frame count outer placement scope LeftIn s2
  grown_then {LeftIn} {s1} {s2} count outer placement scope inner begun g = record {
    placed = g.placed;
    more = g.more ++ begun.more;
    fresh = g.fresh ++ begun.fresh;
    extends = λ number. by number (g.extends number) (begun.extends number);
    own = g.own ∙ (ap (λ names. g.fresh ++ names) begun.own ∙ sym (append_assoc g.fresh begun.fresh outer));
    depth = (let one = g.depth in let other = begun.depth in omega (arith, one, other, length-append g.fresh begun.fresh, length-append g.more begun.more));
    left = subst (LeftIn g.placed) (ap (λ l. g.more ++ l) begun.inner_is ∙ sym (append_assoc g.more begun.more scope)) g.left;
  }
    where
      by : (number : ℕ) → (g.placed number ≡ begun.placed number) ⊎ ((s1.next_local ≤ number) × ((local : _) × (g.placed number ≡ Some (OfActivation frame.number local))))
          → (begun.placed number ≡ placement number) ⊎ ((count ≤ number) × ((local : _) × (begun.placed number ≡ Some (OfActivation frame.number local))))
          → (g.placed number ≡ placement number) ⊎ ((count ≤ number) × ((local : _) × (g.placed number ≡ Some (OfActivation frame.number local))))
      by number (inl same) (inl before) = inl (same ∙ before)
      by number (inl same) (inr new) = inr (new.0, (new.1.0, same ∙ new.1.1))
      by number (inr new) before = let older = begun.newer in inr (omega (arith, older, new.0), new.1)

  pub declarations : (local : LocalDef) (others : Block) → Executing.Declares tac program calls worth points hidden frame local → ExecutedBlock others → ExecutedBlock (T.Declare local others)
  declarations local others declares does within placement scope from to ways code typed small numbered objects enough s state at =
      let parts = and_parts (is_local (context_of program scope) local) (is_block (with_local local.c_type (context_of program scope)) within others) typed in
      let sizes = and_parts (local_makes (is_storable program.structs) local) (block_makes (is_storable program.structs) others) small in
      let front = local_widens program points scope local _ from code.0 code.1 code.2 in
      let last = block_widens program points others (code.1 ∷ scope) code.0 to ways code.3 in
      let inside = subst (λ (c : CType). is_block (with_local c (context_of program scope)) within others ≡ true) (sym (ap (λ (h : Home). h.c_type) code.2.0)) parts.1 in
      bind (λ way. Meaning.block (around_of program) calls others) (declares _ placement scope from code.0 code.1 code.2 parts.0 sizes.0 numbered (objects_before frame.objects last objects) s state at) (omega arith) (λ way s1 t1 p begun.
      eases (along p (allows (does within begun.placed (code.1 ∷ scope) code.0 to ways code.3 inside sizes.1
      (local_numbered program points scope local _ from code.0 code.1 code.2, numbers_later from.counts code.0.counts front.variables scope numbered) objects (omega arith) s1 t1 begun.there)
      (λ way' s2 t2 g. grown_then s.next_local s.locals placement scope (code.1 ∷ scope) begun g))) (omega arith) (omega arith))
