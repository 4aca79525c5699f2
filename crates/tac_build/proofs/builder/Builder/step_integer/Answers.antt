use Rattle.std.proofs.Common.{◌≡◌, ap, sym, subst, ◌∙◌}
use Rattle.std.specs.Prelude.{if◌then◌else◌}
use Rattle.c_typed.specs.Table.{Interned}
use Rattle.tac_ir.specs.Code.{Held}
use Rattle.tac_ir.specs.Views.{tree_of}
use Rattle.tac_build.specs.Spots.{AsInteger, temporary}
use Rattle.tac_build.specs.Building.{lowered_in, spot_of, Lowers, StepsTarget}
use Rattle.tac_build.proofs.Points.{if_ok, on_ok, grows_on, fills_grown, steps_memory}
use Rattle.tac_build.proofs.builder.Builder.step_integer.Goals as goal

pub returns-then-gives_old-2-clause-code : goal.returns-then-gives_old-2-clause-code
returns-then-gives_old-2-clause-code c =
    if_ok (λ lowered. (table : Interned) → lowered_in table lowered ≡ AsInteger c.args.int_type (Held c.in_ok-old-in-Memory.old)) (Lowers (λ table. StepsTarget table c.args.is_used c.args.stepping c.args.target c.args.int_type) c.args.self.now c.store_updated.new.self) c.held-then-gives_old-2.result
    (λ lowered held table points fills.
    let loaded = c.in_ok-old-in-Memory.ensures.code table points (fills_grown table c.load_old.new.self c.store_updated.new.self points c.in_ok-new-in-Memory.ensures.grows fills) in
    subst (λ target. StepsTarget table c.args.is_used c.args.stepping target c.args.int_type points (spot_of table c.args.self.now) (spot_of table c.store_updated.new.self) (lowered_in table lowered)) (sym c.in-Memory.is)
    (steps_memory table points c.args.self.now c.load_old.new.self c.store_updated.new.self c.args.is_used c.needs_new-is_new_used.result c.args.stepping c.in-Memory.place c.args.int_type
    c.of_step-update.result.object_type c.of_step-update.result.int_type c.of_step-update.result.operator c.in_ok-old-in-Memory.old (tree_of c.in_ok-one.one.value) c.in_ok-new-in-Memory.new (lowered_in table lowered)
    c.needs_new-is_new_used.ensures c.of_step-update.ensures.operator c.of_step-update.ensures.object_type c.of_step-update.ensures.int_type (ap tree_of c.in_ok-one.ensures.ok) loaded.0 loaded.1 loaded.2 (c.in_ok-new-in-Memory.ensures.code table points fills)
    (held table ∙ (λ i. AsInteger c.args.int_type (Held (loaded.2 i))) ∙ ap (λ old. if old then AsInteger c.args.int_type (Held (temporary (spot_of table c.args.self.now))) else lowered_in table c.in_ok-new-in-Memory.new) (sym c.if-gives_old-2.true ∙ c.gives_old-in-Memory.ensures))))
    c.held-then-gives_old-2.ensures

pub returns-then-gives_old-2-clause-grows : goal.returns-then-gives_old-2-clause-grows
returns-then-gives_old-2-clause-grows c = on_ok c.held-then-gives_old-2.result (grows_on c.args.self.now c.load_old.new.self c.store_updated.new.self c.in_ok-old-in-Memory.ensures.grows c.in_ok-new-in-Memory.ensures.grows)

pub returns-else-gives_old-2-clause-code : goal.returns-else-gives_old-2-clause-code
returns-else-gives_old-2-clause-code c = λ table points fills.
    let loaded = c.in_ok-old-in-Memory.ensures.code table points (fills_grown table c.load_old.new.self c.store_updated.new.self points c.in_ok-new-in-Memory.ensures.grows fills) in
    subst (λ target. StepsTarget table c.args.is_used c.args.stepping target c.args.int_type points (spot_of table c.args.self.now) (spot_of table c.store_updated.new.self) (lowered_in table c.in_ok-new-in-Memory.new)) (sym c.in-Memory.is)
    (steps_memory table points c.args.self.now c.load_old.new.self c.store_updated.new.self c.args.is_used c.needs_new-is_new_used.result c.args.stepping c.in-Memory.place c.args.int_type
    c.of_step-update.result.object_type c.of_step-update.result.int_type c.of_step-update.result.operator c.in_ok-old-in-Memory.old (tree_of c.in_ok-one.one.value) c.in_ok-new-in-Memory.new (lowered_in table c.in_ok-new-in-Memory.new)
    c.needs_new-is_new_used.ensures c.of_step-update.ensures.operator c.of_step-update.ensures.object_type c.of_step-update.ensures.int_type (ap tree_of c.in_ok-one.ensures.ok) loaded.0 loaded.1 loaded.2 (c.in_ok-new-in-Memory.ensures.code table points fills)
    (ap (λ old. if old then AsInteger c.args.int_type (Held (temporary (spot_of table c.args.self.now))) else lowered_in table c.in_ok-new-in-Memory.new) (sym c.if-gives_old-2.false ∙ c.gives_old-in-Memory.ensures)))
