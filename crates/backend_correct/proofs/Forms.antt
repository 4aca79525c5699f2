-- Forms over the code of their parts: what they weigh, and that what they name is there.
use Rattle.std.proofs.Common.{◌≡◌, ℕ, suc, ◌+◌, ◌*◌, ◌≤◌, ◌<◌, Bool, true, false, ◌&&◌, not, List, length, Option, Some, None, pos, arith}
use Rattle.std.specs.Prelude.{if◌then◌else◌}
use Rattle.c_num.specs.declared.IntType.{IntType}
use Rattle.c_num.specs.declared.IntType.TheVariants as I
use Rattle.c_typed.specs.declared.typed.Stepping.{Stepping}
use Rattle.c_typed.specs.declared.typed.Stepping.TheVariants as Steppings
use Rattle.c_typed.specs.Types.{CType}
use Rattle.tac_ir.specs.declared.register.Local.{Local}
use Rattle.tac_ir.specs.declared.register.Register.{Register}
use Rattle.tac_ir.specs.declared.register.Register.TheVariants as R
use Rattle.tac_ir.specs.Code.{Tree, Constant, Held, Op}
use Rattle.tac_ir.specs.Code as O
use Rattle.tac_build.specs.Homes.{Home}
use Rattle.tac_build.specs.Spots.{Spot, behind, with_temporary, temporary, Lowered, AsInteger, AsPointer, AsObject, AsNothing}
use Rattle.tac_build.specs.Code.{PartCode, truth_tree, gives_old, step_tree, HasOp, Emits, WritesLocal, ReadCode, MovedCode, AssignCode, CompoundCode, PointerCode, SteppingCode, LogicalCode}
use Rattle.backend_correct.specs.Weights.{tree_weight, lowered_weight}
use Rattle.backend_correct.proofs.ImagePremises.Leading.{Leads, both, leads_then, loosened, point, emits, Gives, Spares, gives, spares}
use Rattle.backend_correct.proofs.ImagePremises.Parts.{reads_gives, loads_gives, writes_leads, stores_gives, moves_gives, GivesBoth, steps_give, steps_object_give}

-- how a local in a register steps, and whether its old value is kept
abbrev StepsHome : List Op → Bool → Stepping → IntType → Home → Spot → Spot → Lowered → Type 0
StepsHome points false stepping own home from to lowered = Emits points (O.Assign (R.Local home.local) (step_tree stepping own (R.Local home.local))) from to × (lowered ≡ AsInteger own (Held (R.Local home.local)))
StepsHome points true stepping own home from to lowered =
    HasOp points from.at (O.Assign (temporary from) (Held (R.Local home.local)))
    × Emits points (O.Assign (R.Local home.local) (step_tree stepping own (R.Local home.local))) (behind (with_temporary from)) to × (lowered ≡ AsInteger own (Held (temporary from)))

-- both ways of a branch are there, whichever comes first
chosen : (b : Bool) (one other limit : ℕ) → one < limit → other < limit → ((if b then one else other) < limit) × ((if b then other else one) < limit)
chosen true one other limit first second = (first, second)
chosen false one other limit first second = (second, first)

module _ (functions : ℕ) (points : List Op) where
  abbrev Low : Spot → Type 0
  Low to = to.at < length points

  -- a part of a form spares some
  abbrev pub Part : ℕ → PartCode → Type 0
  Part budget part = (from to : Spot) (lowered : Lowered) → part from to lowered → Spares functions points budget from to lowered

  -- some is spared where there is enough
  pub spared : (lowered : Lowered) (budget : ℕ) {most less from to : ℕ} → most + (2 * lowered_weight lowered + 20) ≤ budget + less → Leads functions points most less from to
      → Leads functions points budget (2 * lowered_weight lowered + 20) from to
  spared lowered budget low leads = loosened functions points budget (2 * lowered_weight lowered + 20) low leads

  module _ (a b : ℕ) where
    pub read_gives : (home : Option Home) (object : PartCode) → Part a object → Part (a + 80) (ReadCode points home object)
    read_gives (Some home) object one from to lowered code = spared lowered (a + 80) (omega arith) (reads_gives functions points home.local home.is_object home.c_type from to lowered code)
    read_gives None object one from to lowered code =
        spared lowered (a + 80) (omega arith) (leads_then functions points (one from code.0 (AsObject code.1 code.2) code.3) (loads_gives functions points code.2 code.1 code.0 to lowered code.4))

    pub moved_gives : (is_minus : Bool) (pointer number : PartCode) → Part a pointer → Part b number → Part (a + b + 80) (MovedCode points is_minus pointer number)
    moved_gives is_minus pointer number one other from to lowered code =
        let first = one from code.0 (AsPointer code.2 code.3) code.6 in
        let second = other code.0 code.1 (AsInteger code.4 code.5) code.7 in
        spared lowered (a + b + 80) (omega arith)
        (leads_then functions points first (leads_then functions points second (moves_gives functions points code.2 code.3 is_minus code.5 code.1 to lowered code.8)))

    written : (local : Local) (given lowered : Lowered) (is_object : Bool) (own : CType) (from to : Spot) → WritesLocal points (record { local = local; is_object = is_object; c_type = own }) given from to lowered
        → Gives functions points (lowered_weight given + 14) from to lowered
    written local (AsInteger int_type tree) lowered is_object own from to code =
        gives functions points (AsInteger int_type (Held (R.Local local))) lowered from.at to.at (tree_weight tree + 14) code.1
        (loosened functions points (tree_weight tree + 14) 4 (omega arith) (writes_leads functions points (Low to) (R.Local local) (AsInteger int_type tree) from to code.0))
    written local (AsPointer pointer target) lowered is_object own from to code =
        gives functions points (AsPointer pointer target) lowered from.at to.at 16 code.1
        (loosened functions points 16 4 (omega arith) (writes_leads functions points (Low to) (R.Local local) (AsPointer pointer target) from to code.0))
    written local (AsObject path c_type) lowered is_object own from to code = absurd code.0
    written local AsNothing lowered is_object own from to code = absurd code.0

    pub assign_gives : (used : Bool) (home : Option Home) (object value : PartCode) → Part a object → Part b value → Part (a + b + 80) (AssignCode points used home object value)
    assign_gives used (Some home) object value one other from to lowered code =
        spared lowered (a + b + 80) (omega arith)
        (leads_then functions points (other from code.0 code.1 code.2) (written home.local code.1 lowered home.is_object home.c_type code.0 to code.3))
    assign_gives used None object value one other from to lowered code =
        let first = one from code.0 (AsObject code.2 code.3) code.5 in
        let second = other code.0 code.1 code.4 code.6 in
        spared lowered (a + b + 80) (omega arith) (leads_then functions points first (leads_then functions points second (stores_gives functions points used code.4 code.2 code.3 code.1 to lowered code.7)))

    pub compound_gives : (used : Bool) (home : Option Home) (object operand : PartCode) (own : IntType) (new : Register → Tree → Tree)
        → ((register : Register) (tree : Tree) → tree_weight (new register tree) ≤ tree_weight tree + 5) → Part a object → Part b operand → Part (a + b + 80) (CompoundCode points used home object operand own new)
    compound_gives used (Some home) object operand own new trees one other from to lowered code =
        let first = other from code.0 (AsInteger code.1 code.2) code.3 in
        let low = trees (R.Local home.local) code.2 in
        let assigns = emits functions points (Low to) code.0 to (O.Assign (R.Local home.local) (new (R.Local home.local) code.2)) code.4 (λ k. tt) in
        spares functions points (AsInteger own (Held (R.Local home.local))) lowered (a + b + 80) code.5 (omega (arith, low)) (leads_then functions points first assigns)
    compound_gives used None object operand own new trees one other from to lowered code =
        let first = one from code.0 (AsObject code.2 code.3) code.6 in
        let second = other code.0 code.1 (AsInteger code.4 code.5) code.7 in
        let low = trees (temporary code.1) code.5 in
        let load = point functions points (suc code.1.at < length points) code.1.at (O.Load (temporary code.1) code.3 code.2) code.8 (λ k. tt) in
        let stored = stores_gives functions points used (AsInteger own (new (temporary code.1) code.5)) code.2 code.3 (behind (with_temporary code.1)) to lowered code.9 in
        spared lowered (a + b + 80) (omega (arith, low)) (leads_then functions points first (leads_then functions points second (leads_then functions points load stored)))

    pub pointer_gives : (home : Option Home) (is_minus : Bool) (object number : PartCode) → Part a object → Part b number → (from to : Spot) (old new : Lowered)
        → PointerCode points home object is_minus number from to old new → GivesBoth functions points (a + b + 40) from to old new
    pointer_gives (Some home) is_minus object number one other from to old new code =
        let first = other from code.0 (AsInteger code.1 code.2) code.3 in
        let steps = steps_give functions points home is_minus code.2 code.0 to old new code.4 in
        record { leads = loosened functions points (a + b + 40) 0 (omega arith) (leads_then functions points first steps.leads); old_weight = steps.old_weight; new_weight = steps.new_weight }
    pointer_gives None is_minus object number one other from to old new code =
        let first = one from code.0 (AsObject code.2 code.3) code.6 in
        let second = other code.0 code.1 (AsInteger code.4 code.5) code.7 in
        let steps = steps_object_give functions points code.2 code.3 is_minus code.5 code.1 to old new code.8 in
        record {
          leads = loosened functions points (a + b + 40) 0 (omega arith) (leads_then functions points first (leads_then functions points second steps.leads));
          old_weight = steps.old_weight;
          new_weight = steps.new_weight;
        }

    steps_home : (keeps : Bool) (stepping : Stepping) (own : IntType) (home : Home) (from to : Spot) (lowered : Lowered) → StepsHome points keeps stepping own home from to lowered → Spares functions points (a + 80) from to lowered
    steps_home false stepping own home from to lowered code =
        let assigns = emits functions points (Low to) from to (O.Assign (R.Local home.local) (step_tree stepping own (R.Local home.local))) code.0 (λ k. tt) in
        spares functions points (AsInteger own (Held (R.Local home.local))) lowered (a + 80) code.1 (omega arith) assigns
    steps_home true stepping own home from to lowered code =
        let kept = point functions points (suc from.at < length points) from.at (O.Assign (temporary from) (Held (R.Local home.local))) code.0 (λ k. tt) in
        let assigns = emits functions points (Low to) (behind (with_temporary from)) to (O.Assign (R.Local home.local) (step_tree stepping own (R.Local home.local))) code.1 (λ k. tt) in
        spares functions points (AsInteger own (Held (temporary from))) lowered (a + 80) code.2 (omega arith) (leads_then functions points kept assigns)

    pub stepping_gives : (used : Bool) (stepping : Stepping) (own : IntType) (home : Option Home) (object : PartCode) → Part a object → Part (a + 80) (SteppingCode points used stepping own home object)
    stepping_gives false stepping own (Some home) object one from to lowered code = steps_home false stepping own home from to lowered code
    stepping_gives true Steppings.PreIncrement own (Some home) object one from to lowered code = steps_home false Steppings.PreIncrement own home from to lowered code
    stepping_gives true Steppings.PreDecrement own (Some home) object one from to lowered code = steps_home false Steppings.PreDecrement own home from to lowered code
    stepping_gives true Steppings.PostIncrement own (Some home) object one from to lowered code = steps_home true Steppings.PostIncrement own home from to lowered code
    stepping_gives true Steppings.PostDecrement own (Some home) object one from to lowered code = steps_home true Steppings.PostDecrement own home from to lowered code
    stepping_gives used stepping own None object one from to lowered code =
        let first = one from code.0 (AsObject code.1 code.2) code.4 in
        let load = point functions points (suc code.0.at < length points) code.0.at (O.Load (temporary code.0) code.2 code.1) code.5 (λ k. tt) in
        let stored = stores_gives functions points (used && not (gives_old stepping)) (AsInteger own (step_tree stepping own (temporary code.0))) code.1 code.2 (behind (with_temporary code.0)) to code.3 code.6 in
        let low = by (temporary code.0) own (gives_old stepping) code.3 in
        spares functions points (if gives_old stepping then AsInteger own (Held (temporary code.0)) else code.3) lowered (a + 80) code.7 (omega (arith, low))
        (leads_then functions points first (leads_then functions points load stored))
      where
        by : (register : Register) (int_type : IntType) (b : Bool) (new : Lowered) → lowered_weight (if b then AsInteger int_type (Held register) else new) ≤ lowered_weight new + 2
        by register int_type true new = omega arith
        by register int_type false new = omega arith

    pub logical_gives : (is_and : Bool) (left right : PartCode) → Part a left → Part b right → Part (a + b + 80) (LogicalCode points is_and left right)
    logical_gives is_and left right one other from to lowered code =
        let test = code.0 in
        let last = code.1 in
        let first = one (with_temporary from) test (AsInteger code.4 code.2) code.6 in
        let second = other (behind test) last (AsInteger code.5 code.3) code.8 in
        let short = emits functions points (Low to) (behind (behind last)) to (O.Assign (temporary from) (Constant (if is_and then pos 0 else pos 1))) code.11 (λ k. tt) in
        let past = both functions points (point functions points (Low to) (suc last.at) (O.Jump to.at) code.10 (λ low. low)) short in
        let ending = both functions points (point functions points (Low to) last.at (O.Assign (temporary from) (truth_tree code.5 code.3)) code.9 (λ k. tt)) past in
        let rest = leads_then functions points second ending in
        let branch = point functions points (Low to) test.at (O.Branch code.4 code.2 (if is_and then suc test.at else suc (suc last.at)) (if is_and then suc (suc last.at) else suc test.at)) code.7
        (λ low. chosen is_and (suc test.at) (suc (suc last.at)) (length points) (omega (arith, low, rest.order)) (omega (arith, low, short.order))) in
        spares functions points (AsInteger I.Int (Held (temporary from))) lowered (a + b + 80) code.12 (omega arith) (leads_then functions points first (both functions points branch rest))
