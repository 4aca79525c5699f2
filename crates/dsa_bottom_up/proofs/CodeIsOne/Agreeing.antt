-- Two lists of points agree where code of one tree stands in both, and leads to one spot.
use Rattle.std.proofs.Common.{◌≡◌, ℕ, suc, ◌≤◌, ◌<◌, ◌⊎◌, inl, inr, List, Some, sym, ap, subst, ◌∙◌, arith}
use Rattle.std.specs.Prelude.{slice_get}
use Rattle.std.proofs.lemmas.Bool.{cases_lt}
use Rattle.c_num.specs.declared.IntType.{IntType}
use Rattle.c_typed.specs.Types.{CType}
use Rattle.tac_ir.specs.declared.register.Register.{Register}
use Rattle.tac_ir.specs.Code.{Held, Op}
use Rattle.tac_build.specs.Spots.{Spot, behind, with_expression, with_temporary, temporary, expression, Lowered, AsInteger, AsPointer}
use Rattle.tac_build.specs.Code.{PartCode, HasOp, Emits, GivesInteger, GivesPointer}

module _ (first second : List Op) where
  -- from a point to a point
  pub record Agrees (low high : ℕ) : Type 0 where
    pub order : low ≤ high
    pub told : (at : ℕ) → low ≤ at → at < high → slice_get first at ≡ slice_get second at

  -- from a spot the code in one leads to a spot, and that in the other to the same
  pub record Ends (from to end : Spot) : Type 0 where
    pub same : end ≡ to
    pub agrees : Agrees from.at to.at

  -- and both come to the same
  pub record Gives {X : Type 0} (from to end : Spot) (one other : X) : Type 0 where
    pub ends : Ends from to end
    pub is : other ≡ one

  abbrev pub Single : PartCode → PartCode → Type 0
  Single part other = (from to begin end : Spot) (lowered given : Lowered) → begin ≡ from → part from to lowered → other begin end given → Gives from to end lowered given

  -- ---- code behind code

  pub agrees_then : {low mid high : ℕ} → Agrees low mid → Agrees mid high → Agrees low high
  agrees_then {low} {mid} {high} one other = record {
    order = let less = one.order in let more = other.order in omega (arith, less, more);
    told = λ at from to. by at from to (cases_lt at mid);
  }
    where
      by : (at : ℕ) → low ≤ at → at < high → (at < mid) ⊎ (mid ≤ at) → slice_get first at ≡ slice_get second at
      by at from to (inl less) = one.told at from less
      by at from to (inr more) = other.told at more to

  pub onward : {from next to end : Spot} → Agrees from.at next.at → Ends next to end → Ends from to end
  onward before ends = record { same = ends.same; agrees = agrees_then before ends.agrees }

  pub ends_then : {from mid middle to end : Spot} → Ends from mid middle → Ends mid to end → Ends from to end
  ends_then before ends = onward before.agrees ends

  pub gives_then : {X : Type 0} {from mid middle to end : Spot} {one other : X} → Ends from mid middle → Gives mid to end one other → Gives from to end one other
  gives_then before gives = record { ends = ends_then before gives.ends; is = gives.is }

  -- ---- points

  pub nothing : (at : ℕ) → Agrees at at
  nothing at = record { order = omega arith; told = λ number low high. absurd (omega (arith, low, high)) }

  pub point : (at place : ℕ) (op other : Op) → place ≡ at → other ≡ op → HasOp first at op → HasOp second place other → Agrees at (suc at)
  point at place op other places ops code again = record {
    order = omega arith;
    told = λ number low high.
        let is : number ≡ at = omega (arith, low, high) in
        ap (slice_get first) is ∙ code ∙ ap Some (sym ops) ∙ sym again ∙ ap (slice_get second) (places ∙ sym is);
  }

  -- ---- spots

  pub arrives : (from to end mid middle : Spot) → to ≡ mid → end ≡ middle → middle ≡ mid → Agrees from.at mid.at → Ends from to end
  arrives from to end mid middle here there spots agrees = record { same = there ∙ spots ∙ sym here; agrees = subst (λ (spot : Spot). Agrees from.at spot.at) (sym here) agrees }

  pub stays : (from to begin end : Spot) → begin ≡ from → to ≡ from → end ≡ begin → Ends from to end
  stays from to begin end start here there = arrives from to end from begin here there start (nothing from.at)

  pub emits : (from to begin end : Spot) (op other : Op) → begin ≡ from → other ≡ op → Emits first op from to → Emits second other begin end → Ends from to end
  emits from to begin end op other start ops code again =
      arrives from to end (behind from) (behind begin) code.1 again.1 (λ i. behind (start i)) (point from.at begin.at op other (λ i. (start i).at) ops code.0 again.0)

  pub gives_integer : (op other : Register → Op) (own number : IntType) (from to begin end : Spot) (lowered given : Lowered) → begin ≡ from → other ≡ op → number ≡ own
      → GivesInteger first op own from to lowered → GivesInteger second other number begin end given → Gives from to end lowered given
  gives_integer op other own number from to begin end lowered given start ops types code again = record {
    ends = arrives from to end (behind (with_temporary from)) (behind (with_temporary begin)) code.1 again.1 (λ i. behind (with_temporary (start i)))
        (point from.at begin.at (op (temporary from)) (other (temporary begin)) (λ i. (start i).at) (λ i. (ops i) (temporary (start i))) code.0 again.0);
    is = again.2 ∙ (λ i. AsInteger (types i) (Held (temporary (start i)))) ∙ sym code.2;
  }

  pub gives_pointer : (op other : Register → Op) (target own : CType) (from to begin end : Spot) (lowered given : Lowered) → begin ≡ from → other ≡ op → own ≡ target
      → GivesPointer first op target from to lowered → GivesPointer second other own begin end given → Gives from to end lowered given
  gives_pointer op other target own from to begin end lowered given start ops types code again = record {
    ends = arrives from to end (behind (with_expression from)) (behind (with_expression begin)) code.1 again.1 (λ i. behind (with_expression (start i)))
        (point from.at begin.at (op (expression from)) (other (expression begin)) (λ i. (start i).at) (λ i. (ops i) (expression (start i))) code.0 again.0);
    is = again.2 ∙ (λ i. AsPointer (expression (start i)) (types i)) ∙ sym code.2;
  }
