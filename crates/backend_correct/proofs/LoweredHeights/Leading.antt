-- Code leads from a point to a point over points that need few operands.
use Rattle.std.proofs.Common.{◌≡◌, ℕ, suc, ◌≤◌, ◌<◌, ◌⊎◌, inl, inr, List, Some, sym, ap, subst, ◌∙◌, arith}
use Rattle.std.specs.Prelude.{slice_get}
use Rattle.std.proofs.lemmas.Bool.{cases_lt}
use Rattle.std.proofs.lemmas.Option.{same_Some}
use Rattle.c_num.specs.declared.IntType.{IntType}
use Rattle.c_typed.specs.Types.{CType}
use Rattle.tac_ir.specs.declared.register.Register.{Register}
use Rattle.tac_ir.specs.Code.{Held, Op}
use Rattle.tac_build.specs.Spots.{Spot, temporary, expression, Lowered, AsInteger, AsPointer}
use Rattle.tac_build.specs.Code.{PartCode, HasOp, Emits, GivesInteger, GivesPointer}
use Rattle.backend_correct.specs.Operands.{greatest_operands, op_operands, lowered_operands}

module _ (points : List Op) where
  abbrev pub Covered : ℕ → ℕ → Type 0
  Covered from to = (number : ℕ) (op : Op) → from ≤ number → number < to → slice_get points number ≡ Some op → op_operands op ≤ greatest_operands

  covered_then : (a b c : ℕ) → Covered a b → Covered b c → Covered a c
  covered_then a b c one other number op low high there = by (cases_lt number b)
    where
      by : (number < b) ⊎ (b ≤ number) → op_operands op ≤ greatest_operands
      by (inl less) = one number op low less there
      by (inr more) = other number op more high there

  covered_one : (at : ℕ) (op : Op) → HasOp points at op → op_operands op ≤ greatest_operands → Covered at (suc at)
  covered_one at op stands few number found low high there =
      subst (λ op. op_operands op ≤ greatest_operands) (same_Some op found (sym stands ∙ ap (slice_get points) (omega (arith, low, high)) ∙ there)) few

  none_covered : (at : ℕ) → Covered at at
  none_covered at number op low high there = absurd (omega (arith, low, high))

  pub record Leads (from to : ℕ) : Type 0 where
    pub order : from ≤ to
    pub covered : Covered from to

  -- what it comes to needs so many operands at most
  pub record Gives (from to most : ℕ) (lowered : Lowered) : Type 0 where
    pub leads : Leads from to
    pub few : lowered_operands lowered ≤ most

  -- so does what each code of a part comes to
  abbrev pub Part : ℕ → PartCode → Type 0
  Part most part = (from to : Spot) (lowered : Lowered) → part from to lowered → Gives from.at to.at most lowered

  pub leads_then : {from mid to : ℕ} → Leads from mid → Leads mid to → Leads from to
  leads_then {from} {mid} {to} one other = record {
    order = let first = one.order in let second = other.order in omega (arith, first, second);
    covered = covered_then from mid to one.covered other.covered;
  }

  pub nothing : (at : ℕ) → Leads at at
  nothing at = record { order = omega arith; covered = none_covered at }

  pub stays : {from to : Spot} → to ≡ from → Leads from.at to.at
  stays {from} same = subst (λ (spot : Spot). Leads from.at spot.at) (sym same) (nothing from.at)

  pub point : (at : ℕ) (op : Op) → HasOp points at op → op_operands op ≤ greatest_operands → Leads at (suc at)
  point at op stands few = record { order = omega arith; covered = covered_one at op stands few }

  pub emits : {from to : Spot} (op : Op) → Emits points op from to → op_operands op ≤ greatest_operands → Leads from.at to.at
  emits {from} op code few = subst (λ (spot : Spot). Leads from.at spot.at) (sym code.1) (point from.at op code.0 few)

  -- ---- what code comes to

  pub gives : {from to most : ℕ} {lowered : Lowered} (given : Lowered) → lowered ≡ given → Leads from to → lowered_operands given ≤ most → Gives from to most lowered
  gives {from} {to} {most} given is leads few = record { leads = leads; few = subst (λ one. lowered_operands one ≤ most) (sym is) few }

  -- what comes behind other code
  pub then_gives : {from mid to most : ℕ} {lowered : Lowered} → Leads from mid → Gives mid to most lowered → Gives from to most lowered
  then_gives one other = record { leads = leads_then one other.leads; few = other.few }

  pub at_most : {from to n : ℕ} (most : ℕ) {lowered : Lowered} → n ≤ most → Gives from to n lowered → Gives from to most lowered
  at_most most h made = record { leads = made.leads; few = let few = made.few in omega (arith, h, few) }

  pub gives_integer : {from to : Spot} {lowered : Lowered} (n : ℕ) (op : Register → Op) (int_type : IntType) → GivesInteger points op int_type from to lowered → op_operands (op (temporary from)) ≤ greatest_operands
      → Gives from.at to.at (suc n) lowered
  gives_integer {from} {to} {lowered} n op int_type code few =
      gives (AsInteger int_type (Held (temporary from))) code.2 (subst (λ (spot : Spot). Leads from.at spot.at) (sym code.1) (point from.at (op (temporary from)) code.0 few)) (omega arith)

  pub gives_pointer : {from to : Spot} {lowered : Lowered} (n : ℕ) (op : Register → Op) (target : CType) → GivesPointer points op target from to lowered → op_operands (op (expression from)) ≤ greatest_operands
      → Gives from.at to.at n lowered
  gives_pointer {from} {to} {lowered} n op target code few =
      gives (AsPointer (expression from) target) code.2 (subst (λ (spot : Spot). Leads from.at spot.at) (sym code.1) (point from.at (op (expression from)) code.0 few)) (omega arith)
