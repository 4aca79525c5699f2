-- Code leads from a spot to a spot over points that name only registers of its function, if those that are named up to its end are.
use Rattle.std.proofs.Common.{◌≡◌, ℕ, suc, ◌≤◌, ◌<◌, ◌⊎◌, inl, inr, List, Some, sym, ap, subst, ◌∙◌, arith}
use Rattle.std.specs.Prelude.{slice_get}
use Rattle.std.proofs.lemmas.Bool.{cases_lt}
use Rattle.std.proofs.lemmas.Option.{same_Some}
use Rattle.c_num.specs.declared.IntType.{IntType}
use Rattle.c_typed.specs.Types.{CType}
use Rattle.tac_ir.specs.declared.program.Counts.{Counts}
use Rattle.tac_ir.specs.declared.register.Register.{Register}
use Rattle.tac_ir.specs.Code.{Held, Op}
use Rattle.tac_build.specs.Spots.{Spot, behind, with_variable, with_call, with_argument, with_expression, with_temporary, argument, expression, temporary, Lowered, AsInteger, AsPointer}
use Rattle.tac_build.specs.Code.{HasOp, Emits, GivesInteger, GivesPointer}
use Rattle.backend_correct.specs.Named.{Registers, Has, OpNamed, LoweredNamed}

module _ (all : Registers) (points : List Op) where
  -- so many registers of each kind are among those of the function
  pub record Below (named : Counts) : Type 0 where
    pub variables : named.variables ≤ all.counts.variables
    pub calls : named.calls ≤ all.counts.calls
    pub arguments : named.arguments ≤ all.counts.arguments
    pub expressions : named.expressions ≤ all.counts.expressions
    pub temporaries : named.temporaries ≤ all.counts.temporaries

  abbrev pub Covered : ℕ → ℕ → Type 0
  Covered from to = (number : ℕ) (op : Op) → from ≤ number → number < to → slice_get points number ≡ Some op → OpNamed all op

  pub covered_then : (a b c : ℕ) → Covered a b → Covered b c → Covered a c
  covered_then a b c one other number op low high there = by (cases_lt number b)
    where
      by : (number < b) ⊎ (b ≤ number) → OpNamed all op
      by (inl less) = one number op low less there
      by (inr more) = other number op more high there

  pub covered_one : (at : ℕ) (op : Op) → HasOp points at op → OpNamed all op → Covered at (suc at)
  covered_one at op stands named number found low high there =
      subst (λ op. OpNamed all op) (same_Some op found (sym stands ∙ ap (slice_get points) (omega (arith, low, high)) ∙ there)) named

  pub record Leads (from to : Spot) : Type 0 where
    pub back : Below to.counts → Below from.counts
    pub order : from.at ≤ to.at
    pub covered : Below to.counts → Covered from.at to.at

  -- what it comes to names only such registers, too
  pub record Gives (from to : Spot) (lowered : Lowered) : Type 0 where
    pub leads : Leads from to
    pub value : Below to.counts → LoweredNamed all lowered

  pub after : {S : Type 0} {from to : Spot} → Leads from to → (Below from.counts → S) → Below to.counts → S
  after leads known below = known (leads.back below)

  pub leads_then : {from mid to : Spot} → Leads from mid → Leads mid to → Leads from to
  leads_then {from} {mid} {to} one other = record {
    back = λ below. one.back (other.back below);
    order = omega (arith, one.order, other.order);
    covered = λ below. covered_then from.at mid.at to.at (one.covered (other.back below)) (other.covered below);
  }

  pub none_covered : (at : ℕ) → Covered at at
  none_covered at number op low high there = absurd (omega (arith, low, high))

  pub stays : {from to : Spot} → to ≡ from → Leads from to
  stays {from} same = subst (λ spot. Leads from spot) (sym same) (record { back = λ below. below; order = omega arith; covered = λ below. none_covered from.at })

  pub point : (from : Spot) (op : Op) → HasOp points from.at op → (Below from.counts → OpNamed all op) → Leads from (behind from)
  point from op stands named = record { back = λ below. below; order = omega arith; covered = λ below. covered_one from.at op stands (named below) }

  pub emits : {from to : Spot} (op : Op) → Emits points op from to → (Below from.counts → OpNamed all op) → Leads from to
  emits {from} op code named = subst (λ spot. Leads from spot) (sym code.1) (point from op code.0 named)

  -- ---- names

  pub names_variable : (from : Spot) → Leads from (with_variable from)
  names_variable from = record {
    back = λ below. let more = below.variables in record { variables = omega (arith, more); calls = below.calls; arguments = below.arguments; expressions = below.expressions; temporaries = below.temporaries };
    order = omega arith;
    covered = λ below. none_covered from.at;
  }

  pub names_call : (from : Spot) → Leads from (with_call from)
  names_call from = record {
    back = λ below. let more = below.calls in record { variables = below.variables; calls = omega (arith, more); arguments = below.arguments; expressions = below.expressions; temporaries = below.temporaries };
    order = omega arith;
    covered = λ below. none_covered from.at;
  }

  pub names_argument : (from : Spot) → Leads from (with_argument from)
  names_argument from = record {
    back = λ below. let more = below.arguments in record { variables = below.variables; calls = below.calls; arguments = omega (arith, more); expressions = below.expressions; temporaries = below.temporaries };
    order = omega arith;
    covered = λ below. none_covered from.at;
  }

  pub names_expression : (from : Spot) → Leads from (with_expression from)
  names_expression from = record {
    back = λ below. let more = below.expressions in record { variables = below.variables; calls = below.calls; arguments = below.arguments; expressions = omega (arith, more); temporaries = below.temporaries };
    order = omega arith;
    covered = λ below. none_covered from.at;
  }

  pub names_temporary : (from : Spot) → Leads from (with_temporary from)
  names_temporary from = record {
    back = λ below. let more = below.temporaries in record { variables = below.variables; calls = below.calls; arguments = below.arguments; expressions = below.expressions; temporaries = omega (arith, more) };
    order = omega arith;
    covered = λ below. none_covered from.at;
  }

  pub has_temporary : (from : Spot) → Below (with_temporary from).counts → Has all (temporary from)
  has_temporary from below = let more = below.temporaries in omega (arith, more)

  pub has_expression : (from : Spot) → Below (with_expression from).counts → Has all (expression from)
  has_expression from below = let more = below.expressions in omega (arith, more)

  pub has_argument : (from : Spot) → Below (with_argument from).counts → Has all (argument from)
  has_argument from below = let more = below.arguments in omega (arith, more)

  -- ---- what code comes to

  pub gives : {from to : Spot} {lowered : Lowered} (given : Lowered) → lowered ≡ given → Leads from to → (Below to.counts → LoweredNamed all given) → Gives from to lowered
  gives given is leads value = record { leads = leads; value = λ below. subst (λ one. LoweredNamed all one) (sym is) (value below) }

  pub assigned : (from : Spot) (op : Register → Op) → HasOp points from.at (op (temporary from)) → (Below from.counts → (register : Register) → Has all register → OpNamed all (op register)) → Leads from (behind (with_temporary from))
  assigned from op stands named =
      leads_then (names_temporary from) (point (with_temporary from) (op (temporary from)) stands (λ below. named ((names_temporary from).back below) (temporary from) (has_temporary from below)))

  pub gives_integer : {from to : Spot} {lowered : Lowered} (op : Register → Op) (int_type : IntType) → GivesInteger points op int_type from to lowered
      → (Below from.counts → (register : Register) → Has all register → OpNamed all (op register)) → Gives from to lowered
  gives_integer {from} {to} {lowered} op int_type code named =
      subst (λ spot. Gives from spot lowered) (sym code.1) (gives (AsInteger int_type (Held (temporary from))) code.2 (assigned from op code.0 named) (λ below. has_temporary from below))

  pub gives_pointer : {from to : Spot} {lowered : Lowered} (op : Register → Op) (target : CType) → GivesPointer points op target from to lowered
      → (Below from.counts → (register : Register) → Has all register → OpNamed all (op register)) → Gives from to lowered
  gives_pointer {from} {to} {lowered} op target code named =
      subst (λ spot. Gives from spot lowered) (sym code.1)
      (gives (AsPointer (expression from) target) code.2
      (leads_then (names_expression from) (point (with_expression from) (op (expression from)) code.0 (λ below. named ((names_expression from).back below) (expression from) (has_expression from below))))
      (λ below. has_expression from below))
