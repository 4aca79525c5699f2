use Rattle.std.proofs.Common.{IfOk, subst, sym}
use Rattle.c_typed.specs.Types.{Integer}
use Rattle.tac_ir.specs.Views.{tree_of, path_in}
use Rattle.tac_build.specs.declared.objects.Target.TheVariants as Targets
use Rattle.tac_build.specs.Spots.{temporary, AsInteger}
use Rattle.tac_build.specs.Code.{Stores, compound_tree}
use Rattle.tac_build.specs.Building.{lowered_in, spot_of, Lowers, UpdatesTarget}
use Rattle.tac_build.proofs.Points.{if_on_ok, on_ok_then, grows_on, fills_grown}
use Rattle.tac_build.proofs.builder.Builder.update.Goals as goal

pub returns-in_ok-old-in-Memory-clause-code : goal.returns-in_ok-old-in-Memory-clause-code
returns-in_ok-old-in-Memory-clause-code c =
    let object_type = c.args.update.object_type in
    subst (λ target. IfOk c.store_updated.result (Lowers (λ table. UpdatesTarget table c.args.is_used target object_type (λ register. compound_tree c.args.update.operator object_type c.args.update.int_type register (tree_of c.args.operand.value))) c.args.self.now c.store_updated.new.self))
    (sym c.in-Memory.is)
    (if_on_ok (Lowers (λ table points. Stores points c.args.is_used (path_in table c.in-Memory.place.path.value) (Integer object_type) (AsInteger object_type (compound_tree c.args.update.operator object_type c.args.update.int_type c.in_ok-old-in-Memory.old (tree_of c.args.operand.value)))) c.load_old.new.self c.store_updated.new.self)
    (Lowers (λ table. UpdatesTarget table c.args.is_used (Targets.Memory c.in-Memory.place) object_type (λ register. compound_tree c.args.update.operator object_type c.args.update.int_type register (tree_of c.args.operand.value))) c.args.self.now c.store_updated.new.self)
    c.store_updated.result
    (λ lowered is grows table points fills.
    let loaded = c.in_ok-old-in-Memory.ensures.code table points (fills_grown table c.load_old.new.self c.store_updated.new.self points grows fills) in
    let start = spot_of table c.args.self.now in
    let named = subst (λ register. Stores points c.args.is_used (path_in table c.in-Memory.place.path.value) (Integer object_type) (AsInteger object_type (compound_tree c.args.update.operator object_type c.args.update.int_type register (tree_of c.args.operand.value))) (spot_of table c.load_old.new.self) (spot_of table c.store_updated.new.self) (lowered_in table lowered)) loaded.2 (is table points fills) in
    (loaded.0, subst (λ from. Stores points c.args.is_used (path_in table c.in-Memory.place.path.value) (Integer object_type) (AsInteger object_type (compound_tree c.args.update.operator object_type c.args.update.int_type (temporary start) (tree_of c.args.operand.value))) from (spot_of table c.store_updated.new.self) (lowered_in table lowered)) loaded.1 named))
    c.store_updated.ensures.code c.store_updated.ensures.grows)

pub returns-in_ok-old-in-Memory-clause-grows : goal.returns-in_ok-old-in-Memory-clause-grows
returns-in_ok-old-in-Memory-clause-grows c = on_ok_then c.store_updated.result (grows_on c.args.self.now c.load_old.new.self c.store_updated.new.self c.in_ok-old-in-Memory.ensures.grows) c.store_updated.ensures.grows
