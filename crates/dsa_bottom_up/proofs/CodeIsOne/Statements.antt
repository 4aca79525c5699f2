-- From one spot a statement has one code: it leads to one spot, and has the same points.
use Rattle.std.proofs.Common.{◌≡◌, ℕ, suc, Bool, true, false, ◌||◌, List, [], ◌∷◌, length, Option, Some, None, refl, sym, subst, ap, ◌∙◌}
use Rattle.std.proofs.Math.Path.{transport}
use Rattle.c_num.specs.declared.IntType.{IntType}
use Rattle.c_num.specs.declared.IntType.TheVariants as I
use Rattle.c_num.specs.declared.Relation.TheVariants as relations
use Rattle.c_typed.specs.Typed as T
use Rattle.c_typed.specs.Typed.{Value, Stmt, Block, SwitchItems, LocalDef, ForStart, Program}
use Rattle.tac_ir.specs.declared.register.Register.{Register}
use Rattle.tac_ir.specs.declared.register.Register.TheVariants as R
use Rattle.tac_ir.specs.Code.{Constant, Held, Compare, AtLocal, IntegerOperand, PointerOperand, Op}
use Rattle.tac_ir.specs.Code as O
use Rattle.tac_build.specs.Homes.{Home, Scope, takes_optional, takes_first, takes_stmt, takes_block}
use Rattle.tac_build.specs.Spots.{Spot, behind, with_variable, with_temporary, temporary, Lowered, AsInteger, AsPointer, AsObject, AsNothing, Kept, Dropped}
use Rattle.tac_build.specs.Code.{path_from, HasOp}
use Rattle.tac_build.specs.StatementCode.{Ways, Begins, with_home, new_home, FirstCode, LocalCode, LocalsCode, StartCode, BranchCode, TestCode, StepCode, ReturnCode, GoesPast, StmtCode, BlockCode, SwitchCode}
use Rattle.dsa_bottom_up.proofs.CodeIsOne.Agreeing.{Agrees, Ends, Gives, agrees_then, onward, ends_then, nothing, point, stays, emits}
use Rattle.dsa_bottom_up.proofs.Lowering.{type_in, tree_in}
use Rattle.dsa_bottom_up.proofs.CodeIsOne.Parts.{writes_same}
use Rattle.dsa_bottom_up.proofs.CodeIsOne.Expressions.{value_same}

-- ---- locals

-- no point is added for the place of a local
home_at : (home : Home) (spot : Spot) → spot.at ≡ (with_home home spot).at
home_at home spot = by home.is_object
  where
    by : (b : Bool) → spot.at ≡ (with_home (record home { is_object = b }) spot).at
    by true = refl
    by false = refl

module _ (first second : List Op) where
  -- a branch leads to one spot; where its ways are the same, so are its points
  record Branches (from to end : Spot) (holds fails here there : ℕ) : Type 0 where
    same : end ≡ to
    agrees : here ≡ holds → there ≡ fails → Agrees first second from.at to.at

  -- the items of a `switch`; where the tests of its labels begin at one point, they are the same, too
  record Items (from to end : Spot) (tests begins last ends : ℕ) (default other : Option ℕ) : Type 0 where
    leads : Ends first second from to end
    chosen : other ≡ default
    tested : begins ≡ tests → ends ≡ last
    agrees : begins ≡ tests → Agrees first second tests last

  begins_same : (home : Home) (given : Lowered) (from to begin end : Spot) → begin ≡ from → Begins first home given from to → Begins second home given begin end → Ends first second from to end
  begins_same home given from to begin end start code again = by home.is_object given code again
    where
      by : (b : Bool) (given : Lowered) → Begins first (record home { is_object = b }) given from to → Begins second (record home { is_object = b }) given begin end → Ends first second from to end
      by false given code again = writes_same first second (R.Local home.local) given from to begin end start code again
      by true (AsInteger own tree) code again =
          emits first second from to begin end (O.Store (path_from (AtLocal home.local)) home.c_type (IntegerOperand tree)) (O.Store (path_from (AtLocal home.local)) home.c_type (IntegerOperand tree)) start refl code again
      by true (AsPointer pointer target) code again =
          emits first second from to begin end (O.Store (path_from (AtLocal home.local)) home.c_type (PointerOperand pointer)) (O.Store (path_from (AtLocal home.local)) home.c_type (PointerOperand pointer)) start refl code again
      by true (AsObject path own) code again = absurd code
      by true AsNothing code again = absurd code

module _ (program : Program) (first second : List Op) where
  first_same : (scope : Scope) (home : Home) (given : Option Value) (from to begin end : Spot) → begin ≡ from → FirstCode program first scope home given from to → FirstCode program second scope home given begin end
      → Ends first second from to end
  first_same scope home None from to begin end start code again = stays first second from to begin end start code again
  first_same scope home (Some v) from to begin end start code again =
      let made = value_same program first second scope v Kept from code.0 begin again.0 code.1 again.1 start code.2 again.2 in
      ends_then first second made.ends (begins_same first second home code.1 code.0 to again.0 end made.ends.same code.3 (transport (λ i. Begins second home (made.is i) again.0 end) again.3))

  local_same : (scope : Scope) (local : LocalDef) (is_taken : Bool) (from to begin end : Spot) (home other : Home) → begin ≡ from → LocalCode program first scope local is_taken from to home
      → LocalCode program second scope local is_taken begin end other → Gives first second from to end home other
  local_same scope local is_taken from to begin end home other start code again =
      let homes : other ≡ home = again.0 ∙ (λ i. new_home (start i) local.c_type is_taken) ∙ sym code.0 in
      let held = first_same (home ∷ scope) home local.first (with_home home (with_variable from)) to (with_home home (with_variable from)) end refl code.1
      (transport (λ i. FirstCode program second (homes i ∷ scope) (homes i) local.first (with_home (homes i) (with_variable (start i))) end) again.1) in
      record {
        ends = record { same = held.same; agrees = subst (λ at. Agrees first second at to.at) (sym (home_at home (with_variable from))) held.agrees };
        is = homes;
      }

  locals_same : (scope : Scope) (is_taken : ℕ → Bool) (locals : List LocalDef) (from to begin end : Spot) (inner other : Scope) → begin ≡ from → LocalsCode program first scope is_taken locals from to inner
      → LocalsCode program second scope is_taken locals begin end other → Gives first second from to end inner other
  locals_same scope is_taken [] from to begin end inner other start code again = record { ends = stays first second from to begin end start code.0 again.0; is = again.1 ∙ sym code.1 }
  locals_same scope is_taken (local ∷ others) from to begin end inner other start code again =
      let one = local_same scope local (takes_first (length scope) (local ∷ others) || is_taken (length scope)) from code.0 begin again.0 code.1 again.1 start code.2 again.2 in
      let more = locals_same (code.1 ∷ scope) is_taken others code.0 to again.0 end inner other one.ends.same code.3
      (transport (λ i. LocalsCode program second (one.is i ∷ scope) is_taken others again.0 end other) again.3) in
      record { ends = ends_then first second one.ends more.ends; is = more.is }

  start_same : (scope : Scope) (is_taken : ℕ → Bool) (starts : ForStart) (from to begin end : Spot) (inner other : Scope) → begin ≡ from → StartCode program first scope is_taken starts from to inner
      → StartCode program second scope is_taken starts begin end other → Gives first second from to end inner other
  start_same scope is_taken T.StartNothing from to begin end inner other start code again = record { ends = stays first second from to begin end start code.0 again.0; is = again.1 ∙ sym code.1 }
  start_same scope is_taken (T.StartValue v) from to begin end inner other start code again =
      let made = value_same program first second scope v Dropped from to begin end code.0 again.0 start code.1 again.1 in
      record { ends = made.ends; is = again.2 ∙ sym code.2 }
  start_same scope is_taken (T.StartLocals locals) from to begin end inner other start code again = locals_same scope is_taken locals from to begin end inner other start code again

  -- ---- branches

  branch_same : (scope : Scope) (condition : Value) (from to begin end : Spot) (holds fails here there : ℕ) → begin ≡ from → BranchCode program first scope condition from to holds fails
      → BranchCode program second scope condition begin end here there → Branches first second from to end holds fails here there
  branch_same scope condition from to begin end holds fails here there start code again =
      let tested = value_same program first second scope condition Kept from code.0 begin again.0 (AsInteger code.1 code.2) (AsInteger again.1 again.2) start code.3 again.3 in
      record {
        same = again.4.1 ∙ (λ i. behind (tested.ends.same i)) ∙ sym code.4.1;
        agrees = λ held failed. agrees_then first second tested.ends.agrees
            (emits first second code.0 to again.0 end (O.Branch code.1 code.2 holds fails) (O.Branch again.1 again.2 here there) tested.ends.same
            (λ i. O.Branch (type_in (tested.is i)) (tree_in (tested.is i)) (held i) (failed i)) code.4 again.4).agrees;
      }

  test_same : (scope : Scope) (condition : Option Value) (from to begin end : Spot) (holds fails here there : ℕ) → begin ≡ from → TestCode program first scope condition from to holds fails
      → TestCode program second scope condition begin end here there → Branches first second from to end holds fails here there
  test_same scope None from to begin end holds fails here there start code again = record {
    same = again.1 ∙ (λ i. behind (start i)) ∙ sym code.1;
    agrees = λ held failed. (emits first second from to begin end (O.Jump holds) (O.Jump here) start (λ i. O.Jump (held i)) code again).agrees;
  }
  test_same scope (Some condition) from to begin end holds fails here there start code again = branch_same scope condition from to begin end holds fails here there start code again

  step_same : (scope : Scope) (step : Option Value) (from to begin end : Spot) → begin ≡ from → StepCode program first scope step from to → StepCode program second scope step begin end → Ends first second from to end
  step_same scope None from to begin end start code again = stays first second from to begin end start code again
  step_same scope (Some v) from to begin end start code again = (value_same program first second scope v Dropped from to begin end code.0 again.0 start code.1 again.1).ends

  return_same : (given : Lowered) (from to begin end : Spot) → begin ≡ from → ReturnCode program first given from to → ReturnCode program second given begin end → Ends first second from to end
  return_same (AsInteger own tree) from to begin end start code again =
      emits first second from to begin end (O.Return (Some (IntegerOperand tree))) (O.Return (Some (IntegerOperand tree))) start refl code again
  return_same (AsPointer pointer target) from to begin end start code again =
      emits first second from to begin end (O.Return (Some (PointerOperand pointer))) (O.Return (Some (PointerOperand pointer))) start refl code again
  return_same (AsObject path own) from to begin end start code again = absurd code
  return_same AsNothing from to begin end start code again = absurd code

  past_same : (default : Option ℕ) (otherwise onward other next : ℕ) → next ≡ onward → GoesPast program first default otherwise onward → GoesPast program second default other next → other ≡ otherwise
  past_same (Some default) otherwise onward other next same code again = again ∙ sym code
  past_same None otherwise onward other next same code again = again ∙ same ∙ sym code

  -- a jump
  jumped : (at place to onward : ℕ) → place ≡ at → onward ≡ to → HasOp first at (O.Jump to) → HasOp second place (O.Jump onward) → Agrees first second at (suc at)
  jumped at place to onward places ways code again = point first second at place (O.Jump to) (O.Jump onward) places (λ i. O.Jump (ways i)) code again

  -- ---- statements

  mutual
    pub stmt_same : (tree : Stmt) (scope : Scope) (from to begin end : Spot) (ways : Ways program first) (others : Ways program second) → begin ≡ from → others.broken ≡ ways.broken
        → others.continued ≡ ways.continued → StmtCode program first scope tree from to ways → StmtCode program second scope tree begin end others → Ends first second from to end
    stmt_same (T.BlockStmt items) scope from to begin end ways others start out on code again = block_same items scope from to begin end ways others start out on code again
    stmt_same T.Empty scope from to begin end ways others start out on code again = stays first second from to begin end start code again
    stmt_same (T.Expression v) scope from to begin end ways others start out on code again = (value_same program first second scope v Dropped from to begin end code.0 again.0 start code.1 again.1).ends
    stmt_same (T.If condition taken) scope from to begin end ways others start out on code again =
        let tested = branch_same scope condition from code.0 begin again.0 code.0.at to.at again.0.at end.at start code.1 again.1 in
        let inside = stmt_same taken scope code.0 to again.0 end ways others tested.same out on code.2 again.2 in
        record { same = inside.same; agrees = agrees_then first second (tested.agrees (λ i. (tested.same i).at) (λ i. (inside.same i).at)) inside.agrees }
    stmt_same (T.IfElse condition taken otherwise) scope from to begin end ways others start out on code again =
        let tested = branch_same scope condition from code.0 begin again.0 code.0.at (suc code.1.at) again.0.at (suc again.1.at) start code.2 again.2 in
        let one = stmt_same taken scope code.0 code.1 again.0 again.1 ways others tested.same out on code.3 again.3 in
        let other = stmt_same otherwise scope (behind code.1) to (behind again.1) end ways others (λ i. behind (one.same i)) out on code.5 again.5 in
        let passes = jumped code.1.at again.1.at to.at end.at (λ i. (one.same i).at) (λ i. (other.same i).at) code.4 again.4 in
        record {
          same = other.same;
          agrees = agrees_then first second (tested.agrees (λ i. (tested.same i).at) (λ i. suc (one.same i).at)) (agrees_then first second one.agrees (agrees_then first second passes other.agrees));
        }
    stmt_same (T.While condition body) scope from to begin end ways others start out on code again =
        let tested = branch_same scope condition from code.0 begin again.0 (suc code.0.at) code.0.at (suc again.0.at) again.0.at start code.2 again.2 in
        let inside = stmt_same body scope (behind code.0) code.1 (behind again.0) again.1 (record { broken = code.0.at; continued = from.at }) (record { broken = again.0.at; continued = begin.at })
        (λ i. behind (tested.same i)) (λ i. (tested.same i).at) (λ i. (start i).at) code.4 again.4 in
        let back = emits first second code.1 to again.1 end (O.Jump from.at) (O.Jump begin.at) inside.same (λ i. O.Jump (start i).at) code.5 again.5 in
        let leaves = jumped code.0.at again.0.at to.at end.at (λ i. (tested.same i).at) (λ i. (back.same i).at) code.3 again.3 in
        record {
          same = back.same;
          agrees = agrees_then first second (tested.agrees (λ i. suc (tested.same i).at) (λ i. (tested.same i).at)) (agrees_then first second leaves (agrees_then first second inside.agrees back.agrees));
        }
    stmt_same (T.DoWhile body condition) scope from to begin end ways others start out on code again =
        let inside = stmt_same body scope (behind (behind (behind from))) code.0 (behind (behind (behind begin))) again.0 (record { broken = suc from.at; continued = suc (suc from.at) })
        (record { broken = suc begin.at; continued = suc (suc begin.at) }) (λ i. behind (behind (behind (start i)))) (λ i. suc (start i).at) (λ i. suc (suc (start i).at)) code.4 again.4 in
        let tested = branch_same scope condition code.0 to again.0 end (suc (suc (suc from.at))) (suc from.at) (suc (suc (suc begin.at))) (suc begin.at) inside.same code.5 again.5 in
        let enters = jumped from.at begin.at (suc (suc (suc from.at))) (suc (suc (suc begin.at))) (λ i. (start i).at) (λ i. suc (suc (suc (start i).at))) code.1 again.1 in
        let leaves = jumped (suc from.at) (suc begin.at) to.at end.at (λ i. suc (start i).at) (λ i. (tested.same i).at) code.2 again.2 in
        let checks = jumped (suc (suc from.at)) (suc (suc begin.at)) code.0.at again.0.at (λ i. suc (suc (start i).at)) (λ i. (inside.same i).at) code.3 again.3 in
        record {
          same = tested.same;
          agrees = agrees_then first second enters (agrees_then first second leaves (agrees_then first second checks (agrees_then first second inside.agrees
              (tested.agrees (λ i. suc (suc (suc (start i).at))) (λ i. suc (start i).at)))));
        }
    stmt_same (T.For starts condition step body) scope from to begin end ways others start out on code again =
        let opened = start_same scope (λ number. takes_optional number condition || (takes_optional number step || takes_stmt number body)) starts from code.0 begin again.0 code.4 again.4 start code.5 again.5 in
        let tested = test_same code.4 condition code.0 code.1 again.0 again.1 (suc code.2.at) code.1.at (suc again.2.at) again.1.at opened.ends.same code.6
        (transport (λ i. TestCode program second (opened.is i) condition again.0 again.1 (suc again.2.at) again.1.at) again.6) in
        let stepped = step_same code.4 step (behind code.1) code.2 (behind again.1) again.2 (λ i. behind (tested.same i)) code.8 (transport (λ i. StepCode program second (opened.is i) step (behind again.1) again.2) again.8) in
        let inside = stmt_same body code.4 (behind code.2) code.3 (behind again.2) again.3 (record { broken = code.1.at; continued = suc code.1.at }) (record { broken = again.1.at; continued = suc again.1.at })
        (λ i. behind (stepped.same i)) (λ i. (tested.same i).at) (λ i. suc (tested.same i).at) code.10
        (transport (λ i. StmtCode program second (opened.is i) body (behind again.2) again.3 (record { broken = again.1.at; continued = suc again.1.at })) again.10) in
        let back = emits first second code.3 to again.3 end (O.Jump (suc code.1.at)) (O.Jump (suc again.1.at)) inside.same (λ i. O.Jump (suc (tested.same i).at)) code.11 again.11 in
        let leaves = jumped code.1.at again.1.at to.at end.at (λ i. (tested.same i).at) (λ i. (back.same i).at) code.7 again.7 in
        let checks = jumped code.2.at again.2.at code.0.at again.0.at (λ i. (stepped.same i).at) (λ i. (opened.ends.same i).at) code.9 again.9 in
        record {
          same = back.same;
          agrees = agrees_then first second opened.ends.agrees (agrees_then first second (tested.agrees (λ i. suc (stepped.same i).at) (λ i. (tested.same i).at)) (agrees_then first second leaves
              (agrees_then first second stepped.agrees (agrees_then first second checks (agrees_then first second inside.agrees back.agrees)))));
        }
    stmt_same (T.Switch v items) scope from to begin end ways others start out on code again =
        let made = value_same program first second scope v Kept from code.0 begin again.0 (AsInteger code.2 code.3) (AsInteger again.2 again.3) start code.7 again.7 in
        let inside = switch_same items scope code.2 (temporary code.0) (suc code.1.at) (suc again.1.at) (behind (behind (behind (with_temporary code.0)))) code.1
        (behind (behind (behind (with_temporary again.0)))) again.1 code.5 again.5 code.4 again.4
        (record { broken = suc (suc code.0.at); continued = ways.continued }) (record { broken = suc (suc again.0.at); continued = others.continued })
        (λ i. behind (behind (behind (with_temporary (made.ends.same i))))) (λ i. suc (suc (made.ends.same i).at)) on code.11
        (transport (λ i. SwitchCode program second scope items (type_in (made.is i)) (temporary (made.ends.same i)) (suc again.1.at) (behind (behind (behind (with_temporary again.0)))) again.1 again.5 again.4
        (record { broken = suc (suc again.0.at); continued = others.continued })) again.11) in
        let tests : suc again.1.at ≡ suc code.1.at = λ i. suc (inside.leads.same i).at in
        let last = inside.tested tests in
        let otherwise = past_same code.4 code.6 (suc (suc code.0.at)) again.6 (suc (suc again.0.at)) (λ i. suc (suc (made.ends.same i).at)) code.13
        (transport (λ i. GoesPast program second (inside.chosen i) again.6 (suc (suc again.0.at))) again.13) in
        let passes = emits first second (record code.1 { at = code.5 }) to (record again.1 { at = again.5 }) end (O.Jump code.6) (O.Jump again.6) (λ i. record (inside.leads.same i) { at = last i })
        (λ i. O.Jump (otherwise i)) code.14 again.14 in
        let held = point first second code.0.at again.0.at (O.Assign (temporary code.0) code.3) (O.Assign (temporary again.0) again.3) (λ i. (made.ends.same i).at)
        (λ i. O.Assign (temporary (made.ends.same i)) (tree_in (made.is i))) code.8 again.8 in
        let enters = jumped (suc code.0.at) (suc again.0.at) (suc code.1.at) (suc again.1.at) (λ i. suc (made.ends.same i).at) tests code.9 again.9 in
        let leaves = jumped (suc (suc code.0.at)) (suc (suc again.0.at)) to.at end.at (λ i. suc (suc (made.ends.same i).at)) (λ i. (passes.same i).at) code.10 again.10 in
        let out_of = jumped code.1.at again.1.at (suc (suc code.0.at)) (suc (suc again.0.at)) (λ i. (inside.leads.same i).at) (λ i. suc (suc (made.ends.same i).at)) code.12 again.12 in
        record {
          same = passes.same;
          agrees = agrees_then first second made.ends.agrees (agrees_then first second held (agrees_then first second enters (agrees_then first second leaves (agrees_then first second inside.leads.agrees
              (agrees_then first second out_of (agrees_then first second (inside.agrees tests) passes.agrees))))));
        }
    stmt_same T.Break scope from to begin end ways others start out on code again = emits first second from to begin end (O.Jump ways.broken) (O.Jump others.broken) start (λ i. O.Jump (out i)) code again
    stmt_same T.Continue scope from to begin end ways others start out on code again = emits first second from to begin end (O.Jump ways.continued) (O.Jump others.continued) start (λ i. O.Jump (on i)) code again
    stmt_same (T.Return None) scope from to begin end ways others start out on code again = emits first second from to begin end (O.Return None) (O.Return None) start refl code again
    stmt_same (T.Return (Some v)) scope from to begin end ways others start out on code again =
        let made = value_same program first second scope v Kept from code.0 begin again.0 code.1 again.1 start code.2 again.2 in
        ends_then first second made.ends (return_same code.1 code.0 to again.0 end made.ends.same code.3 (transport (λ i. ReturnCode program second (made.is i) again.0 end) again.3))

    pub block_same : (items : Block) (scope : Scope) (from to begin end : Spot) (ways : Ways program first) (others : Ways program second) → begin ≡ from → others.broken ≡ ways.broken
        → others.continued ≡ ways.continued → BlockCode program first scope items from to ways → BlockCode program second scope items begin end others → Ends first second from to end
    block_same T.Close scope from to begin end ways others start out on code again = stays first second from to begin end start code again
    block_same (T.Declare local items) scope from to begin end ways others start out on code again =
        let one = local_same scope local (takes_optional (length scope) local.first || takes_block (length scope) items) from code.0 begin again.0 code.1 again.1 start code.2 again.2 in
        let more = block_same items (code.1 ∷ scope) code.0 to again.0 end ways others one.ends.same out on code.3 (transport (λ i. BlockCode program second (one.is i ∷ scope) items again.0 end others) again.3) in
        ends_then first second one.ends more
    block_same (T.Perform one items) scope from to begin end ways others start out on code again =
        let made = stmt_same one scope from code.0 begin again.0 ways others start out on code.1 again.1 in
        ends_then first second made (block_same items scope code.0 to again.0 end ways others made.same out on code.2 again.2)

    switch_same : (items : SwitchItems) (scope : Scope) (own : IntType) (switched : Register) (tests begins : ℕ) (from to begin end : Spot) (last ends : ℕ) (default other : Option ℕ)
        (ways : Ways program first) (others : Ways program second) → begin ≡ from → others.broken ≡ ways.broken → others.continued ≡ ways.continued
        → SwitchCode program first scope items own switched tests from to last default ways → SwitchCode program second scope items own switched begins begin end ends other others
        → Items first second from to end tests begins last ends default other
    switch_same T.SwitchEnd scope own switched tests begins from to begin end last ends default other ways others start out on code again = record {
      leads = stays first second from to begin end start code.0 again.0;
      chosen = again.2 ∙ sym code.2;
      tested = λ same. again.1 ∙ same ∙ sym code.1;
      agrees = λ same. subst (λ at. Agrees first second tests at) (sym code.1) (nothing first second tests);
    }
    switch_same (T.Case label items) scope own switched tests begins from to begin end last ends default other ways others start out on code again =
        let rest = switch_same items scope own switched (suc tests) (suc begins) from to begin end last ends default other ways others start out on code.1 again.1 in
        record {
          leads = rest.leads;
          chosen = rest.chosen;
          tested = λ same. rest.tested (ap suc same);
          agrees = λ same. agrees_then first second
              (point first second tests begins (O.Branch I.Int (Compare relations.Eq own (Held switched) (Constant label)) from.at (suc tests))
              (O.Branch I.Int (Compare relations.Eq own (Held switched) (Constant label)) begin.at (suc begins)) same
              (λ i. O.Branch I.Int (Compare relations.Eq own (Held switched) (Constant label)) (start i).at (suc (same i))) code.0 again.0)
              (rest.agrees (ap suc same));
        }
    switch_same (T.Default items) scope own switched tests begins from to begin end last ends default other ways others start out on code again =
        let rest = switch_same items scope own switched tests begins from to begin end last ends code.0 again.0 ways others start out on code.2 again.2 in
        record { leads = rest.leads; chosen = again.1 ∙ (λ i. Some (start i).at) ∙ sym code.1; tested = rest.tested; agrees = rest.agrees }
    switch_same (T.SwitchStmt one items) scope own switched tests begins from to begin end last ends default other ways others start out on code again =
        let made = stmt_same one scope from code.0 begin again.0 ways others start out on code.1 again.1 in
        let rest = switch_same items scope own switched tests begins code.0 to again.0 end last ends default other ways others made.same out on code.2 again.2 in
        record { leads = ends_then first second made rest.leads; chosen = rest.chosen; tested = rest.tested; agrees = rest.agrees }
