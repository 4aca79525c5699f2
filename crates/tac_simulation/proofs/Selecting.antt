-- The code of `switch`: the tests of its labels, its items from one on, and the whole.
use Rattle.std.proofs.Common.{◌≡◌, ℕ, zero, suc, ◌+◌, ◌⊎◌, inl, inr, Bool, true, false, if◌then◌else◌, List, Option, Some, None, ℤ, refl, sym, ap, ◌∙◌, subst, arith}
use Rattle.std.specs.Ordering.{int_eq}
use Rattle.std.proofs.lemmas.Bool.{and_parts}
use Rattle.std.proofs.lemmas.Option.{none-some, same_Some}
use Rattle.c_num.specs.declared.IntType.{IntType}
use Rattle.c_num.specs.declared.IntType.TheVariants as I
use Rattle.c_num.specs.declared.Relation.TheVariants as relations
use Rattle.c_num.specs.Types.{is_value}
use Rattle.c_typed.specs.Types.{CType, Integer, is_integer, integer_type}
use Rattle.c_typed.specs.Typed as T
use Rattle.c_typed.specs.Typed.{Value, Stmt, SwitchItems, Program}
use Rattle.c_typed.specs.Values.{not_zero}
use Rattle.c_typed.specs.Expressions.{given, type_of}
use Rattle.c_typed.specs.Statements.{in_switch, is_label, is_condition, is_stmt, are_items}
use Rattle.c_typed.specs.Programs.{IsWellTyped}
use Rattle.c_typed.specs.Sizes.{makes, stmt_makes, items_make, is_storable}
use Rattle.ref_semantics.specs.Values as V
use Rattle.ref_semantics.specs.Values.{integer_of}
use Rattle.ref_semantics.specs.Store as S
use Rattle.ref_semantics.specs.Store.{Then, Eval, ◌>>=◌, give}
use Rattle.ref_semantics.specs.Meaning.{Calls, Completion, Normal, Break, Continue, Return, Entry, NoEntry, At, later_entry, default_at, case_at, entry_or, broken_out, block_rest, switch_from, value}
use Rattle.ref_semantics.specs.First.{around_of}
use Rattle.ref_semantics.specs.Keeping.{CallsKeep}
use Rattle.tac_ir.specs.declared.register.Register.{Register}
use Rattle.tac_ir.specs.Code.{Op, Tac}
use Rattle.tac_ir.specs.Code as O
use Rattle.tac_ir.specs.Values as M
use Rattle.tac_ir.specs.States.{State}
use Rattle.tac_ir.specs.Trees.{computes, tree_nodes, truth, integer_in}
use Rattle.tac_build.specs.Homes.{Scope}
use Rattle.tac_build.specs.Spots.{Spot, behind, with_temporary, temporary, AsInteger, Kept}
use Rattle.tac_build.specs.StatementCode.{Ways, SwitchCode, GoesPast}
use Rattle.tac_build.specs.Forms.{context_of}
use Rattle.tac_simulation.specs.Standing.{Placement, Frame}
use Rattle.tac_simulation.proofs.Spotting.{Runs, written_there, with_written}
use Rattle.tac_simulation.proofs.Evaluating.{ValueDoes, value_units}
use Rattle.tac_simulation.proofs.Paths.{Stand, Passage as Passing, Does, comes, start, eased, along, eases, allows, bind}
use Rattle.tac_simulation.proofs.Combining.{ticked}
use Rattle.tac_simulation.proofs.Constants.{left_most}
use Rattle.tac_simulation.proofs.Computing.{truth_fits, computes_compare}
use Rattle.tac_build.proofs.Forms.{value_form}
use Rattle.tac_simulation.proofs.Going.{gone, some_node, branches, jumps, assigns}
use Rattle.tac_simulation.proofs.Integers.{integer_fits}
use Rattle.tac_build.proofs.Named.{value_named}
use Rattle.tac_simulation.proofs.Widening.{Wider, wider_grows, have_before, numbered_behind, stmt_wider, items_wider}
use Rattle.tac_simulation.proofs.Executing.{label_units, switch_units, stmt_units, left_behind, HaveObjects, item_at, entry_at, Executes, ExecutesItems, Enters, TestsItems}
use Rattle.tac_simulation.proofs.Statements.{held_type}
use Rattle.tac_simulation.proofs.Statements

not_zero_truth : (b : Bool) → not_zero (truth b) ≡ b
not_zero_truth true = refl
not_zero_truth false = refl

-- ---- where items begin

module _ (program : Program) (points : List Op) (scope : Scope) (own : IntType) (switched : Register) (to : Spot) (last : ℕ) (ways : Ways program points) where
  first_item : (items : SwitchItems) (tests : ℕ) (from : Spot) (default : Option ℕ) (code : SwitchCode program points scope items own switched tests from to last default ways)
      → item_at program points scope items own switched tests from to last default ways code 0 ≡ from.at
  first_item T.SwitchEnd tests from default code = refl
  first_item (T.Case label others) tests from default code = refl
  first_item (T.Default others) tests from default code = refl
  first_item (T.SwitchStmt one others) tests from default code = refl

  -- where `default` leads
  default_leads : (items : SwitchItems) (tests : ℕ) (from : Spot) (default : Option ℕ) (code : SwitchCode program points scope items own switched tests from to last default ways)
      → ((default_at items ≡ NoEntry) × (default ≡ None)) ⊎ ((k : ℕ) × (default_at items ≡ At k) × (default ≡ Some (item_at program points scope items own switched tests from to last default ways code k)))
  default_leads T.SwitchEnd tests from default code = inl (refl, code.2)
  default_leads (T.Case label others) tests from default code = by (default_leads others (suc tests) from default code.1)
    where
      by : ((default_at others ≡ NoEntry) × (default ≡ None)) ⊎ ((k : ℕ) × (default_at others ≡ At k) × (default ≡ Some (item_at program points scope others own switched (suc tests) from to last default ways code.1 k)))
          → ((later_entry (default_at others) ≡ NoEntry) × (default ≡ None)) ⊎ ((k : ℕ) × (later_entry (default_at others) ≡ At k) × (default ≡ Some (item_at program points scope (T.Case label others) own switched tests from to last default ways code k)))
      by (inl none) = inl (ap later_entry none.0, none.1)
      by (inr found) = inr (suc found.0, ap later_entry found.1, found.2)
  default_leads (T.Default others) tests from default code = inr (0, refl, code.1)
  default_leads (T.SwitchStmt one others) tests from default code = by (default_leads others tests code.0 default code.2)
    where
      by : ((default_at others ≡ NoEntry) × (default ≡ None)) ⊎ ((k : ℕ) × (default_at others ≡ At k) × (default ≡ Some (item_at program points scope others own switched tests code.0 to last default ways code.2 k)))
          → ((later_entry (default_at others) ≡ NoEntry) × (default ≡ None)) ⊎ ((k : ℕ) × (later_entry (default_at others) ≡ At k) × (default ≡ Some (item_at program points scope (T.SwitchStmt one others) own switched tests from to last default ways code k)))
      by (inl none) = inl (ap later_entry none.0, none.1)
      by (inr found) = inr (suc found.0, ap later_entry found.1, found.2)

module _ (tac : Tac) (program : Program) (calls : Calls) (worth : ℕ) (points : List Op) (hidden : ℕ → Option V.Content) (frame : Frame)
    (runs : Runs tac program points frame) (well : IsWellTyped program) (keep : CallsKeep program calls)
    (follows : (placement : Placement) (scope : Scope) (tree : Value) → ValueDoes tac program calls worth points placement hidden frame scope tree) where
  abbrev Stays : Placement → Scope → ℕ → S.State → State → Type 0
  Stays placement scope at s t = Statements.Stays tac program calls worth points hidden frame runs well keep follows placement scope at s t

  abbrev Left : Placement → Scope → ℕ → Ways program points → Stand Completion
  Left placement scope onward ways = Statements.Left tac program calls worth points hidden frame runs well keep follows placement scope onward ways

  abbrev Done : Stmt → Type 0
  Done tree = Executes tac program calls worth points hidden frame tree

  abbrev Tested : SwitchItems → Type 0
  Tested items = TestsItems tac program calls worth points hidden frame items

  abbrev DoneItems : SwitchItems → Type 0
  DoneItems items = ExecutesItems tac program calls worth points hidden frame items

  -- ---- labels

  -- what is found behind an item
  found_behind : (placement : Placement) (scope : Scope) (skipped : ℕ) (one_less all : Entry → ℕ) → one_less NoEntry ≡ all NoEntry → ((k : ℕ) → one_less (At k) ≡ all (At (suc k)))
      → (entry : Entry) (s : S.State) (state : State) → Enters tac program calls worth points hidden frame (suc skipped) one_less placement scope entry s state → Enters tac program calls worth points hidden frame skipped all placement scope entry s state
  found_behind placement scope skipped one_less all none some NoEntry s state there = subst (λ at. Stays placement scope at s state) none there
  found_behind placement scope skipped one_less all none some (At number) s state found = (suc found.0, omega (arith, found.1), subst (λ at. Stays placement scope at s state) (some found.0) found.2)

  pub end_tests : Tested T.SwitchEnd
  end_tests within placement scope own switched tests from to last default ways code typed z fits skipped s state held at =
      comes NoEntry s state (start state s.units) (subst (λ there. Stays placement scope there s state) (sym code.1) at)

  pub default_tests : (others : SwitchItems) → Tested others → Tested (T.Default others)
  default_tests others does within placement scope own switched tests from to last default ways code typed z fits skipped s state held at =
      allows (does within placement scope own switched tests from to last code.0 ways code.2 typed z fits (suc skipped) s state held at)
      (found_behind placement scope skipped (entry_at program points scope others own switched tests from to last code.0 ways code.2) (entry_at program points scope (T.Default others) own switched tests from to last default ways code) refl (λ k. refl))

  pub stmt_tests : (one : Stmt) (others : SwitchItems) → Tested others → Tested (T.SwitchStmt one others)
  stmt_tests one others does within placement scope own switched tests from to last default ways code typed z fits skipped s state held at =
      let parts = and_parts (is_stmt (context_of program scope) within one) (are_items (context_of program scope) within (Some own) others) typed in
      allows (does within placement scope own switched tests code.0 to last default ways code.2 parts.1 z fits (suc skipped) s state held at)
      (found_behind placement scope skipped (entry_at program points scope others own switched tests code.0 to last default ways code.2) (entry_at program points scope (T.SwitchStmt one others) own switched tests from to last default ways code) refl (λ k. refl))

  pub case_tests : (label : ℤ) (others : SwitchItems) → Tested others → Tested (T.Case label others)
  case_tests label others does within placement scope own switched tests from to last default ways code typed z fits skipped s state held at =
      ticked tac program calls worth points placement hidden frame scope runs well keep (if int_eq z label then give (At skipped) else case_at z (suc skipped) others) tests s state (start state s.units) at (omega arith) (λ left p at'.
      by left (eased p (omega arith) (omega arith)) at' (int_eq z label) refl)
    where
      parts : (is_value own label ≡ true) × (are_items (context_of program scope) within (Some own) others ≡ true)
      parts = and_parts (is_value own label) (are_items (context_of program scope) within (Some own) others) typed

      is : computes state.running.registers (O.Compare relations.Eq own (O.Held switched) (O.Constant label)) ≡ Some (truth (int_eq z label))
      is = computes_compare state.running.registers relations.Eq own (O.Held switched) (O.Constant label) z label (ap integer_in held) refl fits parts.0

      by : (left : ℕ) → Passing tac worth state state s.units left 1 16 → Stays placement scope tests (record s { units = left }) state → (test : Bool) → int_eq z label ≡ test
          → Does tac worth state s.units (1 + label_units others) 0 (Enters tac program calls worth points hidden frame skipped (entry_at program points scope (T.Case label others) own switched tests from to last default ways code) placement scope)
          ((if test then give (At skipped) else case_at z (suc skipped) others) (record s { units = left }))
      by left p at' true e =
          let g = branches tac program worth points placement hidden frame scope runs 1 I.Int (O.Compare relations.Eq own (O.Held switched) (O.Constant label)) from.at (suc tests) tests (truth (int_eq z label)) true (record s { units = left }) state p at'.stands code.0
          is (truth_fits (int_eq z label)) (not_zero_truth (int_eq z label) ∙ e) (omega arith) in
          comes (At skipped) (record s { units = left }) (gone from.at state) (eased g.passing (omega arith) (omega arith)) (0, omega arith, record { stands = g.there; sound = at'.sound })
      by left p at' false e =
          let g = branches tac program worth points placement hidden frame scope runs 1 I.Int (O.Compare relations.Eq own (O.Held switched) (O.Constant label)) from.at (suc tests) tests (truth (int_eq z label)) false (record s { units = left }) state p at'.stands code.0
          is (truth_fits (int_eq z label)) (not_zero_truth (int_eq z label) ∙ e) (omega arith) in
          eases (along g.passing (allows (does within placement scope own switched (suc tests) from to last default ways code.1 parts.1 z fits (suc skipped) (record s { units = left }) (gone (suc tests) state) held (record { stands = g.there; sound = at'.sound }))
          (found_behind placement scope skipped (entry_at program points scope others own switched (suc tests) from to last default ways code.1) (entry_at program points scope (T.Case label others) own switched tests from to last default ways code) refl (λ k. refl))))
          (omega arith) (omega arith)

  -- ---- items

  pub end_items : DoneItems T.SwitchEnd
  end_items within labels placement scope own switched tests from to last default ways code typed small numbered objects enough number s state at =
      comes Normal s state (start state s.units) (subst (λ (spot : Spot). Stays placement scope spot.at s state) (sym code.0) at)

  pub case_items : (label : ℤ) (others : SwitchItems) → DoneItems others → DoneItems (T.Case label others)
  case_items label others does within labels placement scope own switched tests from to last default ways code typed small numbered objects enough zero s state at =
      let parts = and_parts (is_label labels label) (are_items (context_of program scope) within labels others) typed in
      does within labels placement scope own switched (suc tests) from to last default ways code.1 parts.1 small numbered objects enough 0 s state
      (subst (λ there. Stays placement scope there s state) (sym (first_item program points scope own switched to last ways others (suc tests) from default code.1)) at)
  case_items label others does within labels placement scope own switched tests from to last default ways code typed small numbered objects enough (suc number) s state at =
      let parts = and_parts (is_label labels label) (are_items (context_of program scope) within labels others) typed in
      does within labels placement scope own switched (suc tests) from to last default ways code.1 parts.1 small numbered objects enough number s state at

  pub default_items : (others : SwitchItems) → DoneItems others → DoneItems (T.Default others)
  default_items others does within labels placement scope own switched tests from to last default ways code typed small numbered objects enough zero s state at =
      does within labels placement scope own switched tests from to last code.0 ways code.2 typed small numbered objects enough 0 s state
      (subst (λ there. Stays placement scope there s state) (sym (first_item program points scope own switched to last ways others tests from code.0 code.2)) at)
  default_items others does within labels placement scope own switched tests from to last default ways code typed small numbered objects enough (suc number) s state at =
      does within labels placement scope own switched tests from to last code.0 ways code.2 typed small numbered objects enough number s state at

  pub stmt_items : (one : Stmt) (others : SwitchItems) → Done one → DoneItems others → DoneItems (T.SwitchStmt one others)
  stmt_items one others does does' within labels placement scope own switched tests from to last default ways code typed small numbered objects enough (suc number) s state at =
      let parts = and_parts (is_stmt (context_of program scope) within one) (are_items (context_of program scope) within labels others) typed in
      let sizes = and_parts (stmt_makes (is_storable program.structs) one) (items_make (is_storable program.structs) others) small in
      eases (does' within labels placement scope own switched tests code.0 to last default ways code.2 parts.1 sizes.1 (numbered_behind (stmt_wider program points one scope from code.0 ways code.1) scope numbered) objects (omega arith) number s state at) (omega arith) (omega arith)
  stmt_items one others does does' within labels placement scope own switched tests from to last default ways code typed small numbered objects enough zero s state at =
      bind (λ way. block_rest way (switch_from (around_of program) calls (At 0) others))
      (does within placement scope from code.0 ways code.1 parts.0 sizes.0 numbered (have_before frame.objects (items_wider program points others scope own switched tests code.0 to last default ways code.2) objects) (omega arith) s state at) (omega arith)
      (λ way s' state' p leaves. by way s' state' p leaves)
    where
      parts : (is_stmt (context_of program scope) within one ≡ true) × (are_items (context_of program scope) within labels others ≡ true)
      parts = and_parts (is_stmt (context_of program scope) within one) (are_items (context_of program scope) within labels others) typed

      sizes : (stmt_makes (is_storable program.structs) one ≡ true) × (items_make (is_storable program.structs) others ≡ true)
      sizes = and_parts (stmt_makes (is_storable program.structs) one) (items_make (is_storable program.structs) others) small

      by : (way : Completion) (s' : S.State) (state' : State) → Passing tac worth state state' s.units s'.units (stmt_units one) left_behind → Left placement scope code.0.at ways way s' state'
          → Does tac worth state s.units (stmt_units one + switch_units others) 0 (Left placement scope to.at ways) (block_rest way (switch_from (around_of program) calls (At 0) others) s')
      by Normal s' state' p leaves =
          eases (along p (does' within labels placement scope own switched tests code.0 to last default ways code.2 parts.1 sizes.1 (numbered_behind (stmt_wider program points one scope from code.0 ways code.1) scope numbered) objects (omega arith) 0 s' state'
          (subst (λ there. Stays placement scope there s' state') (sym (first_item program points scope own switched to last ways others tests code.0 default code.2)) leaves))) (omega arith) (omega arith)
      by Break s' state' p leaves = comes Break s' state' (eased p (omega arith) (omega arith)) leaves
      by Continue s' state' p leaves = comes Continue s' state' (eased p (omega arith) (omega arith)) leaves
      by (Return given) s' state' p leaves = comes (Return given) s' state' (eased p (omega arith) (omega arith)) leaves

  -- ---- the whole

  pub switches : (v : Value) (items : SwitchItems) → Tested items → DoneItems items → Done (T.Switch v items)
  switches v items tested does within placement scope from to ways code typed small numbered objects enough s state at =
      ticked tac program calls worth points placement hidden frame scope runs well keep (value (around_of program) calls v >>= λ a. found_in (integer_of a)) from.at s state (start state s.units) at (omega arith) (λ left p at'.
      bind (λ a. found_in (integer_of a)) (along p (Statements.evaluated tac program calls worth points hidden frame runs well keep follows placement scope v Kept from code.0 (AsInteger code.2 code.3) is.0 code.7 is.1 sizes.0 (record s { units = left }) state at')) (omega arith)
      (λ scalar s' state' p' came.
      let z : ℤ = came.stands.0 in
      let fits = integer_fits program s' is.0 code.2 scalar z form came.stands.1 came.typed in
      let some = some_node code.3 in
      let w = assigns tac program worth points placement hidden frame scope runs 18 (temporary code.0) code.3 code.0.at z s' state' (eased {slack' = 19 + tree_nodes code.3} p' (omega arith) (let least = left_most v in omega (arith, least))) came.there.stands code.8 came.stands.2 tt (omega arith) in
      let written = with_written tac program points placement hidden frame scope runs (temporary code.0) (M.Number z) state' in
      let g = jumps tac program worth points placement hidden frame scope runs 17 (suc code.1.at) (suc code.0.at) s' written w.passing w.there code.9 (omega arith) in
      subst (λ x. Does tac worth state s.units (1 + value_units v + label_units items + switch_units items) left_behind (Left placement scope to.at ways) (found_in (integer_of x) s')) (sym came.stands.1)
      (bind (λ found. done (entry_or found (default_at items)))
      (along g.passing (tested (in_switch within) placement scope code.2 (temporary code.0) (suc code.1.at) inner code.1 code.5 code.4 inside code.11 items_typed z fits 0 s' (gone (suc code.1.at) written)
      (written_there (temporary code.0) (Some (M.Number z)) state'.running.registers) (record { stands = g.there; sound = came.there.sound }))) (omega arith)
      (λ found s'' state'' p'' enters. entered found s'' state'' p'' enters))))
    where
      parts : (is_condition (context_of program scope) v ≡ true) × (are_items (context_of program scope) (in_switch within) (given (type_of (context_of program scope) v) integer_type) items ≡ true)
      parts = and_parts (is_condition (context_of program scope) v) (are_items (context_of program scope) (in_switch within) (given (type_of (context_of program scope) v) integer_type) items) typed

      sizes : (makes (is_storable program.structs) v ≡ true) × (items_make (is_storable program.structs) items ≡ true)
      sizes = and_parts (makes (is_storable program.structs) v) (items_make (is_storable program.structs) items) small

      done : Entry → Eval Completion
      done entry = switch_from (around_of program) calls entry items >>= λ way. give (broken_out way)

      found_in : ℤ → Eval Completion
      found_in z = case_at z 0 items >>= λ found. done (entry_or found (default_at items))

      is : (t : CType) × (type_of (context_of program scope) v ≡ Some t) × (is_integer t ≡ true)
      is = held_type is_integer (type_of (context_of program scope) v) parts.0

      form : is.0 ≡ Integer code.2
      form = value_form program points scope v Kept is.0 from code.0 (AsInteger code.2 code.3) is.1 code.7

      labels_are : given (type_of (context_of program scope) v) integer_type ≡ Some code.2
      labels_are = ap (λ (found : Option CType). given found integer_type) (is.1 ∙ ap Some form)

      items_typed : are_items (context_of program scope) (in_switch within) (Some code.2) items ≡ true
      items_typed = subst (λ labels. are_items (context_of program scope) (in_switch within) labels items ≡ true) labels_are parts.1

      inside : Ways program points
      inside = record { broken = suc (suc code.0.at); continued = ways.continued }

      inner : Spot
      inner = behind (behind (behind (with_temporary code.0)))

      front : Wider from inner
      front =
          let wider : Wider from code.0 = wider_grows (value_named program points scope v Kept from code.0 (AsInteger code.2 code.3) code.7).grows in
          record { variables = wider.variables; more = wider.more; objects = wider.objects }

      inner_objects : HaveObjects frame.objects code.1.objects
      inner_objects = subst (λ (spot : Spot). HaveObjects frame.objects spot.objects) code.14.1 objects

      units_in_all : ℕ
      units_in_all = 1 + value_units v + label_units items + switch_units items

      -- the way out
      out : (way : Completion) (s' : S.State) (state' : State) → Passing tac worth state state' s.units s'.units units_in_all 15 → Left placement scope code.1.at inside way s' state'
          → Does tac worth state s.units units_in_all left_behind (Left placement scope to.at ways) (Then (broken_out way) s')
      out Normal s' state' p leaves =
          let g = Statements.reaches tac program calls worth points hidden frame runs well keep follows 14 placement scope code.1.at (suc (suc code.0.at)) s' state' p leaves (inr code.12) (omega arith) in
          let g' = Statements.reaches tac program calls worth points hidden frame runs well keep follows 8 placement scope (suc (suc code.0.at)) to.at s' g.state g.passing g.there (inr code.10) (omega arith) in
          comes Normal s' g'.state (eased g'.passing (omega arith) (omega arith)) g'.there
      out Break s' state' p leaves =
          let g = Statements.reaches tac program calls worth points hidden frame runs well keep follows 8 placement scope (suc (suc code.0.at)) to.at s' state' p leaves (inr code.10) (omega arith) in
          comes Normal s' g.state (eased g.passing (omega arith) (omega arith)) g.there
      out Continue s' state' p leaves = comes Continue s' state' (eased p (omega arith) (omega arith)) leaves
      out (Return result) s' state' p leaves = comes (Return result) s' state' (eased p (omega arith) (omega arith)) leaves

      run : (k : ℕ) (s' : S.State) (state' : State) → Passing tac worth state state' s.units s'.units (1 + value_units v + label_units items) 15
          → Stays placement scope (item_at program points scope items code.2 (temporary code.0) (suc code.1.at) inner code.1 code.5 code.4 inside code.11 k) s' state'
          → Does tac worth state s.units units_in_all left_behind (Left placement scope to.at ways) (done (At k) s')
      run k s' state' p there =
          bind (λ way. give (broken_out way))
          (along p (does (in_switch within) (Some code.2) placement scope code.2 (temporary code.0) (suc code.1.at) inner code.1 code.5 code.4 inside code.11 items_typed sizes.1 (numbered_behind front scope numbered) inner_objects (omega arith) k s' state' there)) (omega arith)
          (λ way s'' state'' p'' leaves. out way s'' state'' (eased p'' (omega arith) (omega arith)) leaves)

      past : (default : Option ℕ) → default ≡ None → GoesPast program points default code.6 (suc (suc code.0.at)) → code.6 ≡ suc (suc code.0.at)
      past None e goes = goes
      past (Some default) e goes = absurd (none-some default (sym e))

      leads : (default : Option ℕ) (at : ℕ) → default ≡ Some at → GoesPast program points default code.6 (suc (suc code.0.at)) → code.6 ≡ at
      leads None at e goes = absurd (none-some at e)
      leads (Some default) at e goes = goes ∙ same_Some default at e

      entered : (found : Entry) (s' : S.State) (state' : State) → Passing tac worth state state' s.units s'.units (1 + value_units v + label_units items) 17
          → Enters tac program calls worth points hidden frame 0 (entry_at program points scope items code.2 (temporary code.0) (suc code.1.at) inner code.1 code.5 code.4 inside code.11) placement scope found s' state'
          → Does tac worth state s.units units_in_all left_behind (Left placement scope to.at ways) (done (entry_or found (default_at items)) s')
      entered (At number) s' state' p enters =
          let same : enters.0 ≡ number = omega (arith, enters.1) in
          subst (λ k. Does tac worth state s.units units_in_all left_behind (Left placement scope to.at ways) (done (At k) s')) same (run enters.0 s' state' (eased p (omega arith) (omega arith)) enters.2)
      entered NoEntry s' state' p enters =
          let g = Statements.reaches tac program calls worth points hidden frame runs well keep follows 16 placement scope code.5 code.6 s' state' p enters (inr code.14.0) (omega arith) in
          by g.state g.passing g.there (default_leads program points scope code.2 (temporary code.0) code.1 code.5 inside items (suc code.1.at) inner code.4 code.11)
        where
          by : (state'' : State) → Passing tac worth state state'' s.units s'.units (1 + value_units v + label_units items) 16 → Stays placement scope code.6 s' state''
              → ((default_at items ≡ NoEntry) × (code.4 ≡ None)) ⊎ ((k : ℕ) × (default_at items ≡ At k) × (code.4 ≡ Some (item_at program points scope items code.2 (temporary code.0) (suc code.1.at) inner code.1 code.5 code.4 inside code.11 k)))
              → Does tac worth state s.units units_in_all left_behind (Left placement scope to.at ways) (done (default_at items) s')
          by state'' p' there (inl none) =
              let g = Statements.reaches tac program calls worth points hidden frame runs well keep follows 8 placement scope (suc (suc code.0.at)) to.at s' state'' p' (subst (λ at. Stays placement scope at s' state'') (past code.4 none.1 code.13) there) (inr code.10) (omega arith) in
              subst (λ entry. Does tac worth state s.units units_in_all left_behind (Left placement scope to.at ways) (done entry s')) (sym none.0)
              (comes Normal s' g.state (eased g.passing (omega arith) (omega arith)) g.there)
          by state'' p' there (inr found) =
              subst (λ entry. Does tac worth state s.units units_in_all left_behind (Left placement scope to.at ways) (done entry s')) (sym found.1)
              (run found.0 s' state'' (eased p' (omega arith) (omega arith)) (subst (λ at. Stays placement scope at s' state'') (leads code.4 _ found.2 code.13) there))
