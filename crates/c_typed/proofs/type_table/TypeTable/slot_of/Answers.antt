use Rattle.std.proofs.Common.{◌≡◌, ◌+◌, ◌<◌, length, ◌∷◌, Some, refl, ap, ◌∙◌, arith, drop, add-one, drop-cons, get_or}
use Rattle.c_typed.specs.Layouts.{saturated, slot_at}
use Rattle.c_typed.specs.Table.{structs_in, known_in, type_in}
use Rattle.c_typed.specs.declared.structure.Step.{Step}
use Rattle.c_typed.specs.declared.structure.Step.TheVariants as Steps
use Rattle.c_typed.proofs.Steps.{slot_at-small, slots_on}
use Rattle.c_typed.proofs.type_table.TypeTable.slot_of.Goals as goal

pub loop-step-init : goal.loop-step-init
loop-step-init c = record {
  slots = let le = slot_at-small (structs_in c.args.self.now) (Some (type_in c.args.self.now c.args.t)) c.args.path.now in omega arith;
  small = omega arith;
  stands = c.requires;
}

pub loop-step-preserved : goal.loop-step-preserved
loop-step-preserved c =
    let table = c.args.self.now in
    let path = c.args.path.now in
    let n = c.loop-step.step-index in
    let step : Step = get_or path n (Steps.Member 0) in
    let within : n < length path = c.loop-step-test.true in
    let next : drop n path ≡ step ∷ drop (n + 1) path = rw (add-one, drop-cons path n (Steps.Member 0)) refl in
    let sum = c.saturated_sum-slot.ensures in
    record {
      slots =
          ap (λ k. saturated (k + slot_at (structs_in table) (known_in table.tags table.entries c.step-slots.result.1) (drop (n + 1) path))) sum
          ∙ slots_on table (known_in table.tags table.entries c.loop-step.part) path n step c.loop-step.slot (slot_at (structs_in table) (Some (type_in table c.args.t)) path) c.step-slots.result next c.step-slots.ensures c.loop-step.invariant.slots;
      small = omega arith;
      stands = c.step-slots.ensures.stands;
    }
