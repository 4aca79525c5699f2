-- Code leads from a point to a point: what the points in between name is there, and their weights with what is left are no more than what
-- is given for them.
use Rattle.std.proofs.Common.{◌≡◌, ℕ, zero, suc, ◌+◌, ◌*◌, ◌≤◌, ◌<◌, ◌⊎◌, inl, inr, List, [], ◌∷◌, length, Some, sym, ap, subst, ◌∙◌, arith}
use Rattle.std.specs.Prelude.{slice_get}
use Rattle.std.proofs.lemmas.Bool.{cases_lt}
use Rattle.std.proofs.lemmas.Option.{none-some, same_Some}
use Rattle.c_num.specs.declared.IntType.{IntType}
use Rattle.c_typed.specs.Types.{CType}
use Rattle.tac_ir.specs.declared.register.Register.{Register}
use Rattle.tac_ir.specs.Code.{Held, Op}
use Rattle.tac_build.specs.Spots.{Spot, with_expression, with_temporary, expression, temporary, Lowered, AsInteger, AsPointer}
use Rattle.tac_build.specs.Code.{HasOp, Emits, GivesInteger, GivesPointer}
use Rattle.backend_correct.specs.Weights.{op_weight, weight_before, lowered_weight}
use Rattle.backend_correct.specs.Naming.{NamesThere}

pub none_before : (points : List Op) → weight_before points 0 ≡ 0
unfolding weight_before
none_before [] = omega arith
none_before (first ∷ others) = omega arith

pub weight_behind : (points : List Op) (at : ℕ) (op : Op) → slice_get points at ≡ Some op → weight_before points (suc at) ≡ weight_before points at + op_weight op
unfolding weight_before
weight_behind [] at op there = absurd (none-some op there)
weight_behind (first ∷ others) zero op there =
    let none = none_before others in
    let same = ap op_weight (same_Some first op there) in
    omega (arith, none, same)
weight_behind (first ∷ others) (suc at) op there = let rest = weight_behind others at op there in omega (arith, rest)

module _ (functions : ℕ) (points : List Op) where
  abbrev pub Covered : ℕ → ℕ → Type 0
  Covered from to = (number : ℕ) (op : Op) → from ≤ number → number < to → slice_get points number ≡ Some op → NamesThere functions (length points) op

  -- the names are there if something is known
  pub record Leading (most less from to : ℕ) (known : Type 0) : Type 0 where
    pub order : from ≤ to
    pub weight : weight_before points to + less ≤ weight_before points from + most
    pub there : known → Covered from to

  -- they are there if the end is
  abbrev pub Leads : ℕ → ℕ → ℕ → ℕ → Type 0
  Leads most less from to = Leading most less from to (to < length points)

  pub covered_then : (a b c : ℕ) → Covered a b → Covered b c → Covered a c
  covered_then a b c one other number op low high there = by (cases_lt number b)
    where
      by : (number < b) ⊎ (b ≤ number) → NamesThere functions (length points) op
      by (inl less) = one number op low less there
      by (inr more) = other number op more high there

  pub covered_one : (at : ℕ) (op : Op) → HasOp points at op → NamesThere functions (length points) op → Covered at (suc at)
  covered_one at op stands named number found low high there =
      subst (λ op. NamesThere functions (length points) op) (same_Some op found (sym stands ∙ ap (slice_get points) (omega (arith, low, high)) ∙ there)) named

  pub none_covered : (at : ℕ) → Covered at at
  none_covered at number op low high there = absurd (omega (arith, low, high))

  -- ---- one behind another

  pub both : {a b c d from mid to : ℕ} {known : Type 0} → Leading a c from mid known → Leading b d mid to known → Leading (a + b) (c + d) from to known
  both {from = from} {mid = mid} {to = to} one other = record {
    order = omega (arith, one.order, other.order);
    weight = omega (arith, one.weight, other.weight);
    there = λ known. covered_then from mid to (one.there known) (other.there known);
  }

  pub knowing : {a c from to : ℕ} {known : Type 0} (other : Type 0) → (other → known) → Leading a c from to known → Leading a c from to other
  knowing other gives one = record { order = one.order; weight = one.weight; there = λ k. one.there (gives k) }

  pub leads_then : {a b c d from mid to : ℕ} → Leads a c from mid → Leads b d mid to → Leads (a + b) (c + d) from to
  leads_then {to = to} one other = both (knowing (to < length points) (λ low. omega (arith, low, other.order)) one) other

  pub loosened : {a c from to : ℕ} {known : Type 0} (b d : ℕ) → a + d ≤ b + c → Leading a c from to known → Leading b d from to known
  loosened b d less one = record { order = one.order; weight = omega (arith, one.weight, less); there = one.there }

  -- ---- points

  pub stays : {from to : Spot} (known : Type 0) → to ≡ from → Leading 0 0 from.at to.at known
  stays {from} known same =
      subst (λ (spot : Spot). Leading 0 0 from.at spot.at known) (sym same) (record { order = omega arith; weight = omega arith; there = λ k. none_covered from.at })

  pub point : (known : Type 0) (from : ℕ) (op : Op) → HasOp points from op → (known → NamesThere functions (length points) op) → Leading (op_weight op) 0 from (suc from) known
  point known from op stands named =
      let more = weight_behind points from op stands in
      record { order = omega arith; weight = omega (arith, more); there = λ k. covered_one from op stands (named k) }

  pub emits : (known : Type 0) (from to : Spot) (op : Op) → Emits points op from to → (known → NamesThere functions (length points) op) → Leading (op_weight op) 0 from.at to.at known
  emits known from to op code named = subst (λ (spot : Spot). Leading (op_weight op) 0 from.at spot.at known) (sym code.1) (point known from.at op code.0 named)

  -- ---- what code comes to

  -- so much is left that it may stand in two points
  abbrev pub Gives : ℕ → Spot → Spot → Lowered → Type 0
  Gives budget from to lowered = Leads budget (2 * lowered_weight lowered) from.at to.at

  -- with some more left
  abbrev pub Spares : ℕ → Spot → Spot → Lowered → Type 0
  Spares budget from to lowered = Leads budget (2 * lowered_weight lowered + 20) from.at to.at

  pub spares : (given lowered : Lowered) (budget : ℕ) {most less from to : ℕ} → lowered ≡ given → most + (2 * lowered_weight given + 20) ≤ budget + less → Leads most less from to
      → Leads budget (2 * lowered_weight lowered + 20) from to
  spares given lowered budget {most} {less} {from} {to} is low leads =
      subst (λ (one : Lowered). Leads budget (2 * lowered_weight one + 20) from to) (sym is) (loosened budget (2 * lowered_weight given + 20) low leads)

  pub gives : (given lowered : Lowered) (from to budget : ℕ) → lowered ≡ given → Leads budget (2 * lowered_weight given) from to → Leads budget (2 * lowered_weight lowered) from to
  gives given lowered from to budget is leads = subst (λ (one : Lowered). Leads budget (2 * lowered_weight one) from to) (sym is) leads

  pub gives_integer : (from to : Spot) (lowered : Lowered) (op : Register → Op) (int_type : IntType) → GivesInteger points op int_type from to lowered
      → NamesThere functions (length points) (op (temporary from)) → Gives (op_weight (op (temporary from)) + 4) from to lowered
  gives_integer from to lowered op int_type code named =
      gives (AsInteger int_type (Held (temporary from))) lowered from.at to.at (op_weight (op (temporary from)) + 4) code.2
      (loosened (op_weight (op (temporary from)) + 4) 4 (omega arith) (emits (to.at < length points) (with_temporary from) to (op (temporary from)) (code.0, code.1) (λ low. named)))

  pub gives_pointer : (from to : Spot) (lowered : Lowered) (op : Register → Op) (target : CType) → GivesPointer points op target from to lowered
      → NamesThere functions (length points) (op (expression from)) → Gives (op_weight (op (expression from)) + 4) from to lowered
  gives_pointer from to lowered op target code named =
      gives (AsPointer (expression from) target) lowered from.at to.at (op_weight (op (expression from)) + 4) code.2
      (loosened (op_weight (op (expression from)) + 4) 4 (omega arith) (emits (to.at < length points) (with_expression from) to (op (expression from)) (code.0, code.1) (λ low. named)))
