use Rattle.std.proofs.Common.{rules, ◌≡◌, suc, true, Some, refl, sym, ap, subst, ◌∙◌, false, IfOk, not, ℕ, Bool, ◌||◌, is_some, ◌+◌, List, drop, add-one, arith}
use Rattle.c_typed.specs.declared.typed.Value.{the_lemmas as value_lemmas}
use Rattle.c_typed.specs.Types.{CTypes, is_integer, is_pointer}
use Rattle.c_typed.specs.Table.{Stands, type_in}
use Rattle.c_typed.specs.Views.{value_in, object_in, designator_in, values_in, ValueStands}
use Rattle.c_typed.specs.TypedNodes.{value_nodes, object_nodes, designator_nodes, values_nodes}
use Rattle.c_typed.specs.Expressions.{all_scalar, types_of, type_of, is_scalar}
use Rattle.tac_build.specs.Homes.{takes_called, takes_any, takes, takes_in, is_pure}
use Rattle.tac_build.specs.Building.{mode_of, IsArrayType, IsFunctionType, TargetStands, HasRoom, Adds, HomesStand, lowered_in, optional_home, points_in, spot_of}
use Rattle.tac_build.specs.Lowering.{names_for, AddsFewer, types_of_source, scope_of, context_in, DesignatorTyped, ValuesTyped, LibraryTyped, LieInMemory, DesignatorLowers, ArgumentsLower, LibraryLowers, ValueLives, ValueTyped, ValueLowers, program_in, ObjectTyped, ObjectLives, ObjectLowers}
use Rattle.tac_build.proofs.Points.{if_ok, on_ok, if_on_ok, on_ok_then, grows_on, grows_equal, grows_same, fills_same}
use Rattle.tac_build.proofs.Matched.{grouped_is as matched_grouped_is, read_is, decay_is, address_is, function_is, named_function_is, cast_is, cast_void_is, and_is, or_is, conditional_is}
use Rattle.tac_build.proofs.Sources.{typed_integer, integer_lowered}
use Rattle.tac_build.proofs.NodeNames.{room_inner, room_last as node_names_room_last, adds_inner, adds_last, room_one as node_names_room_one, room_left, room_right, adds_both, room_tested, room_taken, room_ended, room_otherwise, adds_ways, room_called, room_site, room_arguments, adds_called, room_library, adds_library}
use Rattle.tac_build.proofs.ReadValues.{place_stands as read_values_place_stands, grouped_typed as read_values_grouped_typed, grouped_lives as read_values_grouped_lives, grouped_lowers, cast_typed, cast_lives, cast_lowers, cast_void_typed, cast_void_lives, cast_void_lowers, read_typed, read_lives, read_target, read_done, decay_typed, decay_lives, decay_is_object, decay_array, decay_done, address_typed, address_lives, address_lowers, function_typed, function_lives, function_lowers, named_function_typed, named_function_lives, named_function_lowers}
use Rattle.tac_build.proofs.Branching.{grows_decided, grows_joined, and_typed, or_typed, and_lives, or_lives, and_lowers, or_lowers, conditional_typed, conditional_lives, way_is_value, ways_alike, conditional_lowers}
use Rattle.tac_build.proofs.CallValues.{grows_called, call_nodes, call_typed, call_lives, call_done, library_nodes, library_typed as call_values_library_typed, library_lives as call_values_library_lives, library_lowers}
use Rattle.tac_build.proofs.HandedOn.{is_operation}
use Rattle.tac_ir.specs.Views.{tree_of}
use Rattle.tac_build.proofs.OperationForms.{room_part, room_first as operation_forms_room_first, room_keep as operation_forms_room_keep, room_kept as operation_forms_room_kept, fewer_same as operation_forms_fewer_same, fewer_one as operation_forms_fewer_one, fewer_two as operation_forms_fewer_two, lives_kept, lie_left as operation_forms_lie_left, lie_right as operation_forms_lie_right, operand_typed, comes_integer, converted_part, plus_part, minus_part, complement_part, not_part, arithmetic_left, arithmetic_right, compare_left, compare_right, TypedLowers, constant_code, converted_code, plus_code, minus_code, complement_code, not_code, LeftKept, arithmetic_code, compare_code, room_one as operation_forms_room_one, room_after, room_second as operation_forms_room_second, room_last as operation_forms_room_last, room_kept_last as operation_forms_room_kept_last, fewer_point, fewer_after, fewer_last as operation_forms_fewer_last, fewer_kept_last as operation_forms_fewer_kept_last, comes_pointer}
use Rattle.tac_build.proofs.OperationKinds.{is_pointer_operation, is_assignment}
use Rattle.tac_build.proofs.PointerOperationForms.{repointed_part, made_null_part, tested_part, compared_left, compared_right, moved_pointer, moving_number, difference_left, difference_right, null_code, repointed_code, made_null_code, tested_code, compared_code, difference_code, plus_moved_code, minus_moved_code, number_plus_code}
use Rattle.tac_build.proofs.AssignmentKinds.{no_assignment}
use Rattle.tac_build.proofs.AssignmentLowering.{assign_is, compound_is, moved_is, step_is, step_pointer_is, room_for_two, fewer_two as assignment_lowering_fewer_two, room_step, fewer_step, object_typed, value_typed, is_the, points_to_complete, assign_object, assign_value, compound_object, compound_value, moved_object, moved_value, step_object, step_pointer, given_scalar, given_integer, target_stands, target_points, assign_code, compound_code, moved_code, step_code, step_integer_code}
use Rattle.tac_build.proofs.ObjectLowering.{pure_here, room_first as object_lowering_room_first, room_second as object_lowering_room_second, room_last as object_lowering_room_last, room_of_one, fewer_last as object_lowering_fewer_last, lie_left as object_lowering_lie_left, lie_right as object_lowering_lie_right, kept_lives, grouped_is as object_lowering_grouped_is, pointed_is as object_lowering_pointed_is, element_is, element_of_is, member_is, behind_is, or_first, or_second, room_keep as object_lowering_room_keep, room_kept as object_lowering_room_kept, room_kept_last as object_lowering_room_kept_last, fewer_same as object_lowering_fewer_same, fewer_one as object_lowering_fewer_one, fewer_kept_last as object_lowering_fewer_kept_last, pointed_lives as object_lowering_pointed_lives, row_lives, local_there, local_code, global_there, GlobalFound, global_code, literal_there, literal_code, grouped_typed as object_lowering_grouped_typed, grouped_code as object_lowering_grouped_code, pointed_typed as object_lowering_pointed_typed, pointed_code as object_lowering_pointed_code, element_row, element_of_row, row_pointer, row_number, row_integer, row_is, element_code, element_of_code, member_part, member_typed, member_lives, behind_typed, behind_lives, behind_found, behind_stands, behind_member, part_found, part_stands, part_member, member_code, behind_code}
use Rattle.tac_build.specs.Code.{ObjectCode, function_number}
use Rattle.tac_build.proofs.Forms.{object_form}
use Rattle.tac_build.proofs.ObjectForms.{object_found, place_stands as object_forms_place_stands}
use Rattle.tac_ir.specs.First.{named_global}
use Rattle.tac_build.proofs.builder.Builder.+values.Goals.{object-then-is_followed, object-else-is_followed}
use Rattle.std.specs.Prelude.{is_some, true, ◌≡◌}
use Rattle.tac_build.proofs.Calling.{named_is, named_there, named_code, named_adds, grouped_is as calling_grouped_is, grouped_typed as calling_grouped_typed, grouped_lives as calling_grouped_lives, grouped_room, grouped_code as calling_grouped_code, grouped_adds, pointed_is as calling_pointed_is, pointed_typed as calling_pointed_typed, pointed_lives as calling_pointed_lives, pointed_room, pointed_kind, pointed_code as calling_pointed_code, pointed_adds, through_is, through_typed, through_lives, through_room, through_kind, through_pointer_code, through_adds, passes_none, passes_one, passes_typed, passes_lives, passes_room, passes_kind, passes_more, passes_all, passes_adds, only_item, no_item, library_many, library_typed as calling_library_typed, library_lives as calling_library_lives, library_room, library_adds, library_takes, library_code, getchar_code}
use Rattle.std.proofs.lemmas.List.{drop_all}
use Rattle.tac_ir.specs.declared.register.Register.{Register}
use Rattle.tac_build.specs.Passing.{Passes}
use Rattle.tac_build.proofs.Numbering.{from_here}
use Rattle.tac_ir.specs.declared.op.Op.TheVariants as M
use Rattle.c_typed.specs.Typed as T
use Rattle.tac_build.specs.declared.lowered.Mode.TheVariants as N
use Rattle.tac_ir.specs.declared.op.Callee.TheVariants as Callees
use Rattle.tac_build.proofs.builder.Builder.+values.Goals as goal

pub value-value-requires : goal.value-value-requires
value-value-requires t c = (search (rules, value_lemmas), (c.requires.source, (c.requires.homes, (read_values_grouped_typed c.args.source.now c.args.scope.now c.args.value.now c.deref.result.now (matched_grouped_is c.in-Grouped.is c.deref.ensures) c.requires.typed, (read_values_grouped_lives c.args.source.now c.args.scope.now (mode_of c.args.mode) c.args.value.now c.deref.result.now (matched_grouped_is c.in-Grouped.is c.deref.ensures) c.requires.lives, room_inner c.args.self.now (value_nodes (value_in (types_of_source c.args.source.now) c.args.value.now)) (value_nodes (value_in (types_of_source c.args.source.now) c.deref.result.now)) (ap (λ v. value_nodes (value_in (types_of_source c.args.source.now) v)) (matched_grouped_is c.in-Grouped.is c.deref.ensures)) c.requires.room)))))

pub value-returns-in-Grouped-clause-code : goal.value-returns-in-Grouped-clause-code
value-returns-in-Grouped-clause-code t c = if_ok _ _ c.value.result (λ lowered lowers. grouped_lowers c.args.source.now c.args.scope.now c.args.mode c.args.value.now c.deref.result.now c.args.self.now c.value.new.self lowered (matched_grouped_is c.in-Grouped.is c.deref.ensures) lowers) c.value.ensures.code

pub value-returns-in-Grouped-clause-grows : goal.value-returns-in-Grouped-clause-grows
value-returns-in-Grouped-clause-grows t c = c.value.ensures.grows

pub value-returns-in-Grouped-clause-adds : goal.value-returns-in-Grouped-clause-adds
value-returns-in-Grouped-clause-adds t c = on_ok_then c.value.result (λ adds. adds_inner c.args.self.now c.value.new.self (value_nodes (value_in (types_of_source c.args.source.now) c.args.value.now)) (value_nodes (value_in (types_of_source c.args.source.now) c.deref.result.now)) (ap (λ v. value_nodes (value_in (types_of_source c.args.source.now) v)) (matched_grouped_is c.in-Grouped.is c.deref.ensures)) adds) c.value.ensures.adds

pub value-target-requires : goal.value-target-requires
value-target-requires t c = (search (rules, value_lemmas), ((c.requires.source), ((c.requires.homes), ((read_typed c.args.source.now c.args.scope.now c.args.value.now c.deref-in-Read.result.now (read_is c.in-Read.is c.deref-in-Read.ensures) c.requires.typed), ((read_lives c.args.source.now c.args.scope.now (mode_of c.args.mode) c.args.value.now c.deref-in-Read.result.now (read_is c.in-Read.is c.deref-in-Read.ensures) c.requires.lives), (room_inner c.args.self.now (value_nodes (value_in (types_of_source c.args.source.now) c.args.value.now)) (object_nodes (object_in (types_of_source c.args.source.now) c.deref-in-Read.result.now)) (ap (λ v. value_nodes (value_in (types_of_source c.args.source.now) v)) (read_is c.in-Read.is c.deref-in-Read.ensures)) c.requires.room))))))

pub value-read-requires-clause-target : goal.value-read-requires-clause-target
value-read-requires-clause-target t c = subst (λ table. TargetStands table c.in_ok-target-in-Read.target) (sym c.types.ensures) (read_target c.args.source.now c.args.scope.now c.args.value.now c.deref-in-Read.result.now c.args.self.now c.target.new.self c.in_ok-target-in-Read.target (read_is c.in-Read.is c.deref-in-Read.ensures) c.requires.typed c.in_ok-target-in-Read.ensures.code)

pub value-read-requires-clause-room : goal.value-read-requires-clause-room
value-read-requires-clause-room t c = node_names_room_last c.args.self.now c.target.new.self (value_nodes (value_in (types_of_source c.args.source.now) c.args.value.now)) (object_nodes (object_in (types_of_source c.args.source.now) c.deref-in-Read.result.now)) (ap (λ v. value_nodes (value_in (types_of_source c.args.source.now) v)) (read_is c.in-Read.is c.deref-in-Read.ensures)) c.requires.room c.in_ok-target-in-Read.ensures.adds

pub value-returns-in_ok-target-in-Read-clause-code : goal.value-returns-in_ok-target-in-Read-clause-code
value-returns-in_ok-target-in-Read-clause-code t c = read_done c.args.source.now c.args.scope.now c.args.mode c.args.value.now c.deref-in-Read.result.now c.args.self.now c.target.new.self c.read.new.self c.in_ok-target-in-Read.target c.types.result.now c.read.result (read_is c.in-Read.is c.deref-in-Read.ensures) c.types.ensures
    c.in_ok-target-in-Read.ensures.code c.read.ensures.code c.read.ensures.grows c.read.ensures.holds

pub value-returns-in_ok-target-in-Read-clause-grows : goal.value-returns-in_ok-target-in-Read-clause-grows
value-returns-in_ok-target-in-Read-clause-grows t c = on_ok_then c.read.result (λ grows. grows_on c.args.self.now c.target.new.self c.read.new.self c.in_ok-target-in-Read.ensures.grows grows) c.read.ensures.grows

pub value-returns-in_ok-target-in-Read-clause-adds : goal.value-returns-in_ok-target-in-Read-clause-adds
value-returns-in_ok-target-in-Read-clause-adds t c = on_ok_then c.read.result (λ adds. adds_last c.args.self.now c.target.new.self c.read.new.self (value_nodes (value_in (types_of_source c.args.source.now) c.args.value.now)) (object_nodes (object_in (types_of_source c.args.source.now) c.deref-in-Read.result.now)) (ap (λ v. value_nodes (value_in (types_of_source c.args.source.now) v)) (read_is c.in-Read.is c.deref-in-Read.ensures)) c.in_ok-target-in-Read.ensures.adds adds) c.read.ensures.adds

pub value-object-requires : goal.value-object-requires
value-object-requires t c = (search (rules, value_lemmas), ((c.requires.source), ((c.requires.homes), ((decay_typed c.args.source.now c.args.scope.now c.args.value.now c.deref-in-Decay.result.now (decay_is c.in-Decay.is c.deref-in-Decay.ensures) c.requires.typed), ((decay_lives c.args.source.now c.args.scope.now (mode_of c.args.mode) c.args.value.now c.deref-in-Decay.result.now (decay_is c.in-Decay.is c.deref-in-Decay.ensures) c.requires.homes c.requires.typed c.requires.lives), (room_inner c.args.self.now (value_nodes (value_in (types_of_source c.args.source.now) c.args.value.now)) (object_nodes (object_in (types_of_source c.args.source.now) c.deref-in-Decay.result.now)) (ap (λ v. value_nodes (value_in (types_of_source c.args.source.now) v)) (decay_is c.in-Decay.is c.deref-in-Decay.ensures)) c.requires.room))))))

pub value-object_of-requires : goal.value-object_of-requires
value-object_of-requires t c = decay_is_object c.args.source.now c.args.scope.now c.args.value.now c.deref-in-Decay.result.now c.is_followed.result c.args.self.now c.object.new.self c.in_ok-found-in-Decay.found (decay_is c.in-Decay.is c.deref-in-Decay.ensures) c.requires.typed c.in_ok-found-in-Decay.ensures.code

pub value-decay-requires-clause-stands : goal.value-decay-requires-clause-stands
value-decay-requires-clause-stands t c = subst (λ table. Stands table c.object_of.result.c_type) (sym c.types-in-Decay.ensures) (read_values_place_stands c.in_ok-found-in-Decay.found c.object_of.result c.object_of.ensures (types_of_source c.args.source.now) c.in_ok-found-in-Decay.ensures.code.1)

pub value-decay-requires-clause-kind : goal.value-decay-requires-clause-kind
value-decay-requires-clause-kind t c = subst (λ table. IsArrayType (type_in table c.object_of.result.c_type)) (sym c.types-in-Decay.ensures) (decay_array c.args.source.now c.args.scope.now c.args.value.now c.deref-in-Decay.result.now c.is_followed.result c.args.self.now c.object.new.self c.in_ok-found-in-Decay.found c.object_of.result (decay_is c.in-Decay.is c.deref-in-Decay.ensures) c.requires.typed c.in_ok-found-in-Decay.ensures.code (c.object_of.ensures (types_of_source c.args.source.now)))

pub value-decay-requires-clause-room : goal.value-decay-requires-clause-room
value-decay-requires-clause-room t c = node_names_room_last c.args.self.now c.object.new.self (value_nodes (value_in (types_of_source c.args.source.now) c.args.value.now)) (object_nodes (object_in (types_of_source c.args.source.now) c.deref-in-Decay.result.now)) (ap (λ v. value_nodes (value_in (types_of_source c.args.source.now) v)) (decay_is c.in-Decay.is c.deref-in-Decay.ensures)) c.requires.room c.in_ok-found-in-Decay.ensures.adds

pub value-returns-in_ok-found-in-Decay-clause-code : goal.value-returns-in_ok-found-in-Decay-clause-code
value-returns-in_ok-found-in-Decay-clause-code t c = decay_done c.args.source.now c.args.scope.now c.args.mode c.args.value.now c.deref-in-Decay.result.now c.is_followed.result c.args.self.now c.object.new.self c.decay.new.self c.in_ok-found-in-Decay.found c.object_of.result c.types-in-Decay.result.now c.decay.result (decay_is c.in-Decay.is c.deref-in-Decay.ensures) c.types-in-Decay.ensures c.is_followed.ensures
    c.in_ok-found-in-Decay.ensures.code (c.object_of.ensures (types_of_source c.args.source.now)) c.decay.ensures.code c.decay.ensures.grows c.decay.ensures.holds

pub value-returns-in_ok-found-in-Decay-clause-grows : goal.value-returns-in_ok-found-in-Decay-clause-grows
value-returns-in_ok-found-in-Decay-clause-grows t c = on_ok_then c.decay.result (λ grows. grows_on c.args.self.now c.object.new.self c.decay.new.self c.in_ok-found-in-Decay.ensures.grows grows) c.decay.ensures.grows

pub value-returns-in_ok-found-in-Decay-clause-adds : goal.value-returns-in_ok-found-in-Decay-clause-adds
value-returns-in_ok-found-in-Decay-clause-adds t c = on_ok_then c.decay.result (λ adds. adds_last c.args.self.now c.object.new.self c.decay.new.self (value_nodes (value_in (types_of_source c.args.source.now) c.args.value.now)) (object_nodes (object_in (types_of_source c.args.source.now) c.deref-in-Decay.result.now)) (ap (λ v. value_nodes (value_in (types_of_source c.args.source.now) v)) (decay_is c.in-Decay.is c.deref-in-Decay.ensures)) c.in_ok-found-in-Decay.ensures.adds adds) c.decay.ensures.adds

pub value-object-requires-in-AddressOf : goal.value-object-requires-in-AddressOf
value-object-requires-in-AddressOf t c = (search (rules, value_lemmas), ((c.requires.source), ((c.requires.homes), ((address_typed c.args.source.now c.args.scope.now c.args.value.now c.deref-in-AddressOf.result.now (address_is c.in-AddressOf.is c.deref-in-AddressOf.ensures) c.requires.typed), ((address_lives c.args.source.now c.args.scope.now (mode_of c.args.mode) c.is_address-is_kept.result c.args.value.now c.deref-in-AddressOf.result.now (address_is c.in-AddressOf.is c.deref-in-AddressOf.ensures) c.is_address-is_kept.ensures c.requires.lives), (room_inner c.args.self.now (value_nodes (value_in (types_of_source c.args.source.now) c.args.value.now)) (object_nodes (object_in (types_of_source c.args.source.now) c.deref-in-AddressOf.result.now)) (ap (λ v. value_nodes (value_in (types_of_source c.args.source.now) v)) (address_is c.in-AddressOf.is c.deref-in-AddressOf.ensures)) c.requires.room))))))

pub value-take_address-requires : goal.value-take_address-requires
value-take_address-requires t c = record { room = node_names_room_last c.args.self.now c.object-in-AddressOf.new.self (value_nodes (value_in (types_of_source c.args.source.now) c.args.value.now)) (object_nodes (object_in (types_of_source c.args.source.now) c.deref-in-AddressOf.result.now)) (ap (λ v. value_nodes (value_in (types_of_source c.args.source.now) v)) (address_is c.in-AddressOf.is c.deref-in-AddressOf.ensures)) c.requires.room c.in_ok-found-in-AddressOf.ensures.adds }

pub value-returns-in_ok-found-in-AddressOf-clause-code : goal.value-returns-in_ok-found-in-AddressOf-clause-code
value-returns-in_ok-found-in-AddressOf-clause-code t c = if_on_ok _ _ c.take_address.result
    (λ lowered code grows. address_lowers c.args.source.now c.args.scope.now c.args.mode c.is_address-is_kept.result c.is_followed-is_followed.result c.args.value.now c.deref-in-AddressOf.result.now c.args.self.now c.object-in-AddressOf.new.self c.take_address.new.self c.in_ok-found-in-AddressOf.found lowered (address_is c.in-AddressOf.is c.deref-in-AddressOf.ensures) c.is_address-is_kept.ensures c.is_followed-is_followed.ensures c.in_ok-found-in-AddressOf.ensures.code code grows)
    c.take_address.ensures.code c.take_address.ensures.grows

pub value-returns-in_ok-found-in-AddressOf-clause-grows : goal.value-returns-in_ok-found-in-AddressOf-clause-grows
value-returns-in_ok-found-in-AddressOf-clause-grows t c = on_ok_then c.take_address.result (λ grows. grows_on c.args.self.now c.object-in-AddressOf.new.self c.take_address.new.self c.in_ok-found-in-AddressOf.ensures.grows grows) c.take_address.ensures.grows

pub value-returns-in_ok-found-in-AddressOf-clause-adds : goal.value-returns-in_ok-found-in-AddressOf-clause-adds
value-returns-in_ok-found-in-AddressOf-clause-adds t c = on_ok_then c.take_address.result (λ adds. adds_last c.args.self.now c.object-in-AddressOf.new.self c.take_address.new.self (value_nodes (value_in (types_of_source c.args.source.now) c.args.value.now)) (object_nodes (object_in (types_of_source c.args.source.now) c.deref-in-AddressOf.result.now)) (ap (λ v. value_nodes (value_in (types_of_source c.args.source.now) v)) (address_is c.in-AddressOf.is c.deref-in-AddressOf.ensures)) c.in_ok-found-in-AddressOf.ensures.adds adds) c.take_address.ensures.adds

pub value-designator-requires : goal.value-designator-requires
value-designator-requires t c = (search (rules, value_lemmas), ((c.requires.source), ((c.requires.homes), ((function_typed c.args.source.now c.args.scope.now c.args.value.now c.deref-in-FunctionValue.result.now (function_is c.in-FunctionValue.is c.deref-in-FunctionValue.ensures) c.requires.typed), ((function_lives c.args.source.now c.args.scope.now (mode_of c.args.mode) c.args.value.now c.deref-in-FunctionValue.result.now (function_is c.in-FunctionValue.is c.deref-in-FunctionValue.ensures) c.requires.lives), (room_inner c.args.self.now (value_nodes (value_in (types_of_source c.args.source.now) c.args.value.now)) (designator_nodes (designator_in (types_of_source c.args.source.now) c.deref-in-FunctionValue.result.now)) (ap (λ v. value_nodes (value_in (types_of_source c.args.source.now) v)) (function_is c.in-FunctionValue.is c.deref-in-FunctionValue.ensures)) c.requires.room))))))

pub value-function_address-requires : goal.value-function_address-requires
value-function_address-requires t c = record { room = node_names_room_last c.args.self.now c.designator.new.self (value_nodes (value_in (types_of_source c.args.source.now) c.args.value.now)) (designator_nodes (designator_in (types_of_source c.args.source.now) c.deref-in-FunctionValue.result.now)) (ap (λ v. value_nodes (value_in (types_of_source c.args.source.now) v)) (function_is c.in-FunctionValue.is c.deref-in-FunctionValue.ensures)) c.requires.room c.in_ok-called-in-FunctionValue.ensures.adds }

pub value-returns-in_ok-called-in-FunctionValue-clause-code : goal.value-returns-in_ok-called-in-FunctionValue-clause-code
value-returns-in_ok-called-in-FunctionValue-clause-code t c = if_on_ok _ _ c.function_address.result
    (λ lowered code grows. function_lowers c.args.source.now c.args.scope.now c.args.mode c.args.value.now c.deref-in-FunctionValue.result.now c.in_ok-called-in-FunctionValue.called c.args.self.now c.designator.new.self c.function_address.new.self lowered (function_is c.in-FunctionValue.is c.deref-in-FunctionValue.ensures) c.requires.typed c.in_ok-called-in-FunctionValue.ensures.code code grows)
    c.function_address.ensures.code c.function_address.ensures.grows

pub value-returns-in_ok-called-in-FunctionValue-clause-grows : goal.value-returns-in_ok-called-in-FunctionValue-clause-grows
value-returns-in_ok-called-in-FunctionValue-clause-grows t c = on_ok_then c.function_address.result (λ grows. grows_on c.args.self.now c.designator.new.self c.function_address.new.self c.in_ok-called-in-FunctionValue.ensures.grows grows) c.function_address.ensures.grows

pub value-returns-in_ok-called-in-FunctionValue-clause-adds : goal.value-returns-in_ok-called-in-FunctionValue-clause-adds
value-returns-in_ok-called-in-FunctionValue-clause-adds t c = on_ok_then c.function_address.result (λ adds. adds_last c.args.self.now c.designator.new.self c.function_address.new.self (value_nodes (value_in (types_of_source c.args.source.now) c.args.value.now)) (designator_nodes (designator_in (types_of_source c.args.source.now) c.deref-in-FunctionValue.result.now)) (ap (λ v. value_nodes (value_in (types_of_source c.args.source.now) v)) (function_is c.in-FunctionValue.is c.deref-in-FunctionValue.ensures)) c.in_ok-called-in-FunctionValue.ensures.adds adds) c.function_address.ensures.adds

pub value-designator-requires-in-AddressOfFunction : goal.value-designator-requires-in-AddressOfFunction
value-designator-requires-in-AddressOfFunction t c = (search (rules, value_lemmas), ((c.requires.source), ((c.requires.homes), ((named_function_typed c.args.source.now c.args.scope.now c.args.value.now c.deref-in-AddressOfFunction.result.now (named_function_is c.in-AddressOfFunction.is c.deref-in-AddressOfFunction.ensures) c.requires.typed), ((named_function_lives c.args.source.now c.args.scope.now (mode_of c.args.mode) c.args.value.now c.deref-in-AddressOfFunction.result.now (named_function_is c.in-AddressOfFunction.is c.deref-in-AddressOfFunction.ensures) c.requires.lives), (room_inner c.args.self.now (value_nodes (value_in (types_of_source c.args.source.now) c.args.value.now)) (designator_nodes (designator_in (types_of_source c.args.source.now) c.deref-in-AddressOfFunction.result.now)) (ap (λ v. value_nodes (value_in (types_of_source c.args.source.now) v)) (named_function_is c.in-AddressOfFunction.is c.deref-in-AddressOfFunction.ensures)) c.requires.room))))))

pub value-function_address-requires-in-AddressOfFunction : goal.value-function_address-requires-in-AddressOfFunction
value-function_address-requires-in-AddressOfFunction t c = record { room = node_names_room_last c.args.self.now c.designator-in-AddressOfFunction.new.self (value_nodes (value_in (types_of_source c.args.source.now) c.args.value.now)) (designator_nodes (designator_in (types_of_source c.args.source.now) c.deref-in-AddressOfFunction.result.now)) (ap (λ v. value_nodes (value_in (types_of_source c.args.source.now) v)) (named_function_is c.in-AddressOfFunction.is c.deref-in-AddressOfFunction.ensures)) c.requires.room c.in_ok-called-in-AddressOfFunction.ensures.adds }

pub value-returns-in_ok-called-in-AddressOfFunction-clause-code : goal.value-returns-in_ok-called-in-AddressOfFunction-clause-code
value-returns-in_ok-called-in-AddressOfFunction-clause-code t c = if_on_ok _ _ c.function_address-in-AddressOfFunction.result
    (λ lowered code grows. named_function_lowers c.args.source.now c.args.scope.now c.args.mode c.args.value.now c.deref-in-AddressOfFunction.result.now c.in_ok-called-in-AddressOfFunction.called c.args.self.now c.designator-in-AddressOfFunction.new.self c.function_address-in-AddressOfFunction.new.self lowered (named_function_is c.in-AddressOfFunction.is c.deref-in-AddressOfFunction.ensures) c.requires.typed c.in_ok-called-in-AddressOfFunction.ensures.code code grows)
    c.function_address-in-AddressOfFunction.ensures.code c.function_address-in-AddressOfFunction.ensures.grows

pub value-returns-in_ok-called-in-AddressOfFunction-clause-grows : goal.value-returns-in_ok-called-in-AddressOfFunction-clause-grows
value-returns-in_ok-called-in-AddressOfFunction-clause-grows t c = on_ok_then c.function_address-in-AddressOfFunction.result (λ grows. grows_on c.args.self.now c.designator-in-AddressOfFunction.new.self c.function_address-in-AddressOfFunction.new.self c.in_ok-called-in-AddressOfFunction.ensures.grows grows) c.function_address-in-AddressOfFunction.ensures.grows

pub value-returns-in_ok-called-in-AddressOfFunction-clause-adds : goal.value-returns-in_ok-called-in-AddressOfFunction-clause-adds
value-returns-in_ok-called-in-AddressOfFunction-clause-adds t c = on_ok_then c.function_address-in-AddressOfFunction.result (λ adds. adds_last c.args.self.now c.designator-in-AddressOfFunction.new.self c.function_address-in-AddressOfFunction.new.self (value_nodes (value_in (types_of_source c.args.source.now) c.args.value.now)) (designator_nodes (designator_in (types_of_source c.args.source.now) c.deref-in-AddressOfFunction.result.now)) (ap (λ v. value_nodes (value_in (types_of_source c.args.source.now) v)) (named_function_is c.in-AddressOfFunction.is c.deref-in-AddressOfFunction.ensures)) c.in_ok-called-in-AddressOfFunction.ensures.adds adds) c.function_address-in-AddressOfFunction.ensures.adds

pub value-value-requires-in-Cast : goal.value-value-requires-in-Cast
value-value-requires-in-Cast t c = (search (rules, value_lemmas), (c.requires.source, (c.requires.homes, (cast_typed c.args.source.now c.args.scope.now c.args.value.now c.deref-in-Cast.result.now (cast_is c.in-Cast.is c.deref-in-Cast.ensures) c.requires.typed, (cast_lives c.args.source.now c.args.scope.now c.args.mode c.of_cast.result c.args.value.now c.deref-in-Cast.result.now (cast_is c.in-Cast.is c.deref-in-Cast.ensures) c.of_cast.ensures c.requires.lives, room_inner c.args.self.now (value_nodes (value_in (types_of_source c.args.source.now) c.args.value.now)) (value_nodes (value_in (types_of_source c.args.source.now) c.deref-in-Cast.result.now)) (ap (λ v. value_nodes (value_in (types_of_source c.args.source.now) v)) (cast_is c.in-Cast.is c.deref-in-Cast.ensures)) c.requires.room)))))

pub value-returns-in-Cast-clause-code : goal.value-returns-in-Cast-clause-code
value-returns-in-Cast-clause-code t c = if_ok _ _ c.value-in-Cast.result (λ lowered lowers. cast_lowers c.args.source.now c.args.scope.now c.args.mode c.of_cast.result c.args.value.now c.deref-in-Cast.result.now c.args.self.now c.value-in-Cast.new.self lowered (cast_is c.in-Cast.is c.deref-in-Cast.ensures) c.of_cast.ensures lowers) c.value-in-Cast.ensures.code

pub value-returns-in-Cast-clause-grows : goal.value-returns-in-Cast-clause-grows
value-returns-in-Cast-clause-grows t c = c.value-in-Cast.ensures.grows

pub value-returns-in-Cast-clause-adds : goal.value-returns-in-Cast-clause-adds
value-returns-in-Cast-clause-adds t c = on_ok_then c.value-in-Cast.result (λ adds. adds_inner c.args.self.now c.value-in-Cast.new.self (value_nodes (value_in (types_of_source c.args.source.now) c.args.value.now)) (value_nodes (value_in (types_of_source c.args.source.now) c.deref-in-Cast.result.now)) (ap (λ v. value_nodes (value_in (types_of_source c.args.source.now) v)) (cast_is c.in-Cast.is c.deref-in-Cast.ensures)) adds) c.value-in-Cast.ensures.adds

pub value-value-requires-in-CastVoid : goal.value-value-requires-in-CastVoid
value-value-requires-in-CastVoid t c = (search (rules, value_lemmas), (c.requires.source, (c.requires.homes, (cast_void_typed c.args.source.now c.args.scope.now c.args.value.now c.deref-in-CastVoid.result.now (cast_void_is c.in-CastVoid.is c.deref-in-CastVoid.ensures) c.requires.typed, (cast_void_lives c.args.source.now c.args.scope.now (mode_of c.args.mode) c.args.value.now c.deref-in-CastVoid.result.now (cast_void_is c.in-CastVoid.is c.deref-in-CastVoid.ensures) c.requires.lives, room_inner c.args.self.now (value_nodes (value_in (types_of_source c.args.source.now) c.args.value.now)) (value_nodes (value_in (types_of_source c.args.source.now) c.deref-in-CastVoid.result.now)) (ap (λ v. value_nodes (value_in (types_of_source c.args.source.now) v)) (cast_void_is c.in-CastVoid.is c.deref-in-CastVoid.ensures)) c.requires.room)))))

pub value-returns-in_ok-value-in-CastVoid-clause-code : goal.value-returns-in_ok-value-in-CastVoid-clause-code
value-returns-in_ok-value-in-CastVoid-clause-code t c = cast_void_lowers c.args.source.now c.args.scope.now c.args.mode c.args.value.now c.deref-in-CastVoid.result.now c.args.self.now c.value-in-CastVoid.new.self c.in_ok-value-in-CastVoid.field-0 (cast_void_is c.in-CastVoid.is c.deref-in-CastVoid.ensures) c.in_ok-value-in-CastVoid.ensures.code

pub value-returns-in_ok-value-in-CastVoid-clause-grows : goal.value-returns-in_ok-value-in-CastVoid-clause-grows
value-returns-in_ok-value-in-CastVoid-clause-grows t c = c.in_ok-value-in-CastVoid.ensures.grows

pub value-returns-in_ok-value-in-CastVoid-clause-adds : goal.value-returns-in_ok-value-in-CastVoid-clause-adds
value-returns-in_ok-value-in-CastVoid-clause-adds t c = adds_inner c.args.self.now c.value-in-CastVoid.new.self (value_nodes (value_in (types_of_source c.args.source.now) c.args.value.now)) (value_nodes (value_in (types_of_source c.args.source.now) c.deref-in-CastVoid.result.now)) (ap (λ v. value_nodes (value_in (types_of_source c.args.source.now) v)) (cast_void_is c.in-CastVoid.is c.deref-in-CastVoid.ensures)) c.in_ok-value-in-CastVoid.ensures.adds

pub value-new_temporary-to-requires : goal.value-new_temporary-to-requires
value-new_temporary-to-requires t c = record { room = node_names_room_one c.args.self.now (value_nodes (value_in (types_of_source c.args.source.now) c.args.value.now)) (value_nodes (value_in (types_of_source c.args.source.now) c.in-And.left.value)) (value_nodes (value_in (types_of_source c.args.source.now) c.in-And.right.value)) (ap (λ v. value_nodes (value_in (types_of_source c.args.source.now) v)) (and_is c.in-And.is refl refl)) c.requires.room }

pub value-value-requires-in-And : goal.value-value-requires-in-And
value-value-requires-in-And t c = (search (rules, value_lemmas), (c.requires.source, (c.requires.homes, (typed_integer c.args.source.now c.args.scope.now c.deref-in-And.result.now (and_typed c.args.source.now c.args.scope.now c.args.value.now c.deref-in-And.result.now c.in-And.right.value (and_is c.in-And.is c.deref-in-And.ensures refl) c.requires.typed).first, ((and_lives c.args.source.now c.args.scope.now (mode_of c.args.mode) c.args.value.now c.deref-in-And.result.now c.in-And.right.value (and_is c.in-And.is c.deref-in-And.ensures refl) c.requires.lives).0, room_left c.args.self.now c.new_temporary-to.new.self (value_nodes (value_in (types_of_source c.args.source.now) c.args.value.now)) (value_nodes (value_in (types_of_source c.args.source.now) c.deref-in-And.result.now)) (value_nodes (value_in (types_of_source c.args.source.now) c.in-And.right.value)) (ap (λ v. value_nodes (value_in (types_of_source c.args.source.now) v)) (and_is c.in-And.is c.deref-in-And.ensures refl)) c.requires.room c.new_temporary-to.ensures.adds)))))

pub value-integer-left-requires : goal.value-integer-left-requires
value-integer-left-requires t c = integer_lowered c.args.source.now c.args.scope.now c.deref-in-And.result.now c.new_temporary-to.new.self c.value-in-And.new.self c.in_ok-value-in-And.field-0 (and_typed c.args.source.now c.args.scope.now c.args.value.now c.deref-in-And.result.now c.in-And.right.value (and_is c.in-And.is c.deref-in-And.ensures refl) c.requires.typed).first c.in_ok-value-in-And.ensures.code

pub value-value-requires-in-And-2 : goal.value-value-requires-in-And-2
value-value-requires-in-And-2 t c = (search (rules, value_lemmas), (c.requires.source, (c.requires.homes, (typed_integer c.args.source.now c.args.scope.now c.deref-in-And-2.result.now (and_typed c.args.source.now c.args.scope.now c.args.value.now c.deref-in-And.result.now c.deref-in-And-2.result.now (and_is c.in-And.is c.deref-in-And.ensures c.deref-in-And-2.ensures) c.requires.typed).second, ((and_lives c.args.source.now c.args.scope.now (mode_of c.args.mode) c.args.value.now c.deref-in-And.result.now c.deref-in-And-2.result.now (and_is c.in-And.is c.deref-in-And.ensures c.deref-in-And-2.ensures) c.requires.lives).1, room_right c.args.self.now c.new_temporary-to.new.self c.value-in-And.new.self c.reserve.new.self (value_nodes (value_in (types_of_source c.args.source.now) c.args.value.now)) (value_nodes (value_in (types_of_source c.args.source.now) c.deref-in-And.result.now)) (value_nodes (value_in (types_of_source c.args.source.now) c.deref-in-And-2.result.now)) (ap (λ v. value_nodes (value_in (types_of_source c.args.source.now) v)) (and_is c.in-And.is c.deref-in-And.ensures c.deref-in-And-2.ensures)) c.requires.room c.new_temporary-to.ensures.adds c.in_ok-value-in-And.ensures.adds c.in_ok-test-in-And.ensures.counts)))))

pub value-integer-right-requires : goal.value-integer-right-requires
value-integer-right-requires t c = integer_lowered c.args.source.now c.args.scope.now c.deref-in-And-2.result.now c.reserve.new.self c.value-in-And-2.new.self c.in_ok-value-in-And-2.field-0 (and_typed c.args.source.now c.args.scope.now c.args.value.now c.deref-in-And.result.now c.deref-in-And-2.result.now (and_is c.in-And.is c.deref-in-And.ensures c.deref-in-And-2.ensures) c.requires.typed).second c.in_ok-value-in-And-2.ensures.code

pub value-decide-requires : goal.value-decide-requires
value-decide-requires t c = c.in_ok-value-in-And-2.ensures.grows.stands c.in_ok-test-in-And.test.0 M.Reserved c.in_ok-test-in-And.ensures.reserved

pub value-returns-in_ok-value-in-And-2-clause-code : goal.value-returns-in_ok-value-in-And-2-clause-code
value-returns-in_ok-value-in-And-2-clause-code t c = if_on_ok _ _ c.decide.result
    (λ lowered code grows. and_lowers c.args.source.now c.args.scope.now c.args.mode c.args.value.now c.deref-in-And.result.now c.deref-in-And-2.result.now c.args.self.now c.new_temporary-to.new.self c.value-in-And.new.self c.reserve.new.self c.value-in-And-2.new.self c.decide.new.self c.new_temporary-to.result c.in_ok-test-in-And.test.0 c.in_ok-value-in-And.field-0 c.in_ok-value-in-And-2.field-0 c.integer-left.result c.integer-right.result lowered
    (and_is c.in-And.is c.deref-in-And.ensures c.deref-in-And-2.ensures) c.new_temporary-to.ensures.named c.new_temporary-to.ensures.spot c.in_ok-value-in-And.ensures.code c.integer-left.ensures c.in_ok-test-in-And.ensures.at c.in_ok-test-in-And.ensures.reserved c.in_ok-test-in-And.ensures.spot c.in_ok-test-in-And.ensures.grows
    c.in_ok-value-in-And-2.ensures.code c.integer-right.ensures c.in_ok-value-in-And-2.ensures.grows code grows)
    c.decide.ensures.code c.decide.ensures.grows

pub value-returns-in_ok-value-in-And-2-clause-grows : goal.value-returns-in_ok-value-in-And-2-clause-grows
value-returns-in_ok-value-in-And-2-clause-grows t c = on_ok_then c.decide.result (λ grows. grows_decided c.args.self.now c.value-in-And.new.self c.reserve.new.self c.value-in-And-2.new.self c.decide.new.self c.in_ok-test-in-And.test.0 (grows_on c.args.self.now c.new_temporary-to.new.self c.value-in-And.new.self (grows_equal c.args.self.now c.new_temporary-to.new.self c.new_temporary-to.ensures.points) c.in_ok-value-in-And.ensures.grows) c.in_ok-test-in-And.ensures.at c.in_ok-test-in-And.ensures.grows c.in_ok-value-in-And-2.ensures.grows grows) c.decide.ensures.grows

pub value-returns-in_ok-value-in-And-2-clause-adds : goal.value-returns-in_ok-value-in-And-2-clause-adds
value-returns-in_ok-value-in-And-2-clause-adds t c = on_ok_then c.decide.result (λ adds. adds_both c.args.self.now c.new_temporary-to.new.self c.value-in-And.new.self c.reserve.new.self c.value-in-And-2.new.self c.decide.new.self (value_nodes (value_in (types_of_source c.args.source.now) c.args.value.now)) (value_nodes (value_in (types_of_source c.args.source.now) c.deref-in-And.result.now)) (value_nodes (value_in (types_of_source c.args.source.now) c.deref-in-And-2.result.now)) (ap (λ v. value_nodes (value_in (types_of_source c.args.source.now) v)) (and_is c.in-And.is c.deref-in-And.ensures c.deref-in-And-2.ensures)) c.new_temporary-to.ensures.adds c.in_ok-value-in-And.ensures.adds c.in_ok-test-in-And.ensures.counts c.in_ok-value-in-And-2.ensures.adds adds) c.decide.ensures.adds

pub value-new_temporary-to-requires-in-Or : goal.value-new_temporary-to-requires-in-Or
value-new_temporary-to-requires-in-Or t c = record { room = node_names_room_one c.args.self.now (value_nodes (value_in (types_of_source c.args.source.now) c.args.value.now)) (value_nodes (value_in (types_of_source c.args.source.now) c.in-Or.left.value)) (value_nodes (value_in (types_of_source c.args.source.now) c.in-Or.right.value)) (ap (λ v. value_nodes (value_in (types_of_source c.args.source.now) v)) (or_is c.in-Or.is refl refl)) c.requires.room }

pub value-value-requires-in-Or : goal.value-value-requires-in-Or
value-value-requires-in-Or t c = (search (rules, value_lemmas), (c.requires.source, (c.requires.homes, (typed_integer c.args.source.now c.args.scope.now c.deref-in-Or.result.now (or_typed c.args.source.now c.args.scope.now c.args.value.now c.deref-in-Or.result.now c.in-Or.right.value (or_is c.in-Or.is c.deref-in-Or.ensures refl) c.requires.typed).first, ((or_lives c.args.source.now c.args.scope.now (mode_of c.args.mode) c.args.value.now c.deref-in-Or.result.now c.in-Or.right.value (or_is c.in-Or.is c.deref-in-Or.ensures refl) c.requires.lives).0, room_left c.args.self.now c.new_temporary-to-in-Or.new.self (value_nodes (value_in (types_of_source c.args.source.now) c.args.value.now)) (value_nodes (value_in (types_of_source c.args.source.now) c.deref-in-Or.result.now)) (value_nodes (value_in (types_of_source c.args.source.now) c.in-Or.right.value)) (ap (λ v. value_nodes (value_in (types_of_source c.args.source.now) v)) (or_is c.in-Or.is c.deref-in-Or.ensures refl)) c.requires.room c.new_temporary-to-in-Or.ensures.adds)))))

pub value-integer-left-requires-in-Or : goal.value-integer-left-requires-in-Or
value-integer-left-requires-in-Or t c = integer_lowered c.args.source.now c.args.scope.now c.deref-in-Or.result.now c.new_temporary-to-in-Or.new.self c.value-in-Or.new.self c.in_ok-value-in-Or.field-0 (or_typed c.args.source.now c.args.scope.now c.args.value.now c.deref-in-Or.result.now c.in-Or.right.value (or_is c.in-Or.is c.deref-in-Or.ensures refl) c.requires.typed).first c.in_ok-value-in-Or.ensures.code

pub value-value-requires-in-Or-2 : goal.value-value-requires-in-Or-2
value-value-requires-in-Or-2 t c = (search (rules, value_lemmas), (c.requires.source, (c.requires.homes, (typed_integer c.args.source.now c.args.scope.now c.deref-in-Or-2.result.now (or_typed c.args.source.now c.args.scope.now c.args.value.now c.deref-in-Or.result.now c.deref-in-Or-2.result.now (or_is c.in-Or.is c.deref-in-Or.ensures c.deref-in-Or-2.ensures) c.requires.typed).second, ((or_lives c.args.source.now c.args.scope.now (mode_of c.args.mode) c.args.value.now c.deref-in-Or.result.now c.deref-in-Or-2.result.now (or_is c.in-Or.is c.deref-in-Or.ensures c.deref-in-Or-2.ensures) c.requires.lives).1, room_right c.args.self.now c.new_temporary-to-in-Or.new.self c.value-in-Or.new.self c.reserve-in-Or.new.self (value_nodes (value_in (types_of_source c.args.source.now) c.args.value.now)) (value_nodes (value_in (types_of_source c.args.source.now) c.deref-in-Or.result.now)) (value_nodes (value_in (types_of_source c.args.source.now) c.deref-in-Or-2.result.now)) (ap (λ v. value_nodes (value_in (types_of_source c.args.source.now) v)) (or_is c.in-Or.is c.deref-in-Or.ensures c.deref-in-Or-2.ensures)) c.requires.room c.new_temporary-to-in-Or.ensures.adds c.in_ok-value-in-Or.ensures.adds c.in_ok-test-in-Or.ensures.counts)))))

pub value-integer-right-requires-in-Or : goal.value-integer-right-requires-in-Or
value-integer-right-requires-in-Or t c = integer_lowered c.args.source.now c.args.scope.now c.deref-in-Or-2.result.now c.reserve-in-Or.new.self c.value-in-Or-2.new.self c.in_ok-value-in-Or-2.field-0 (or_typed c.args.source.now c.args.scope.now c.args.value.now c.deref-in-Or.result.now c.deref-in-Or-2.result.now (or_is c.in-Or.is c.deref-in-Or.ensures c.deref-in-Or-2.ensures) c.requires.typed).second c.in_ok-value-in-Or-2.ensures.code

pub value-decide-requires-in-Or : goal.value-decide-requires-in-Or
value-decide-requires-in-Or t c = c.in_ok-value-in-Or-2.ensures.grows.stands c.in_ok-test-in-Or.test.0 M.Reserved c.in_ok-test-in-Or.ensures.reserved

pub value-returns-in_ok-value-in-Or-2-clause-code : goal.value-returns-in_ok-value-in-Or-2-clause-code
value-returns-in_ok-value-in-Or-2-clause-code t c = if_on_ok _ _ c.decide-in-Or.result
    (λ lowered code grows. or_lowers c.args.source.now c.args.scope.now c.args.mode c.args.value.now c.deref-in-Or.result.now c.deref-in-Or-2.result.now c.args.self.now c.new_temporary-to-in-Or.new.self c.value-in-Or.new.self c.reserve-in-Or.new.self c.value-in-Or-2.new.self c.decide-in-Or.new.self c.new_temporary-to-in-Or.result c.in_ok-test-in-Or.test.0 c.in_ok-value-in-Or.field-0 c.in_ok-value-in-Or-2.field-0 c.integer-left-in-Or.result c.integer-right-in-Or.result lowered
    (or_is c.in-Or.is c.deref-in-Or.ensures c.deref-in-Or-2.ensures) c.new_temporary-to-in-Or.ensures.named c.new_temporary-to-in-Or.ensures.spot c.in_ok-value-in-Or.ensures.code c.integer-left-in-Or.ensures c.in_ok-test-in-Or.ensures.at c.in_ok-test-in-Or.ensures.reserved c.in_ok-test-in-Or.ensures.spot c.in_ok-test-in-Or.ensures.grows
    c.in_ok-value-in-Or-2.ensures.code c.integer-right-in-Or.ensures c.in_ok-value-in-Or-2.ensures.grows code grows)
    c.decide-in-Or.ensures.code c.decide-in-Or.ensures.grows

pub value-returns-in_ok-value-in-Or-2-clause-grows : goal.value-returns-in_ok-value-in-Or-2-clause-grows
value-returns-in_ok-value-in-Or-2-clause-grows t c = on_ok_then c.decide-in-Or.result (λ grows. grows_decided c.args.self.now c.value-in-Or.new.self c.reserve-in-Or.new.self c.value-in-Or-2.new.self c.decide-in-Or.new.self c.in_ok-test-in-Or.test.0 (grows_on c.args.self.now c.new_temporary-to-in-Or.new.self c.value-in-Or.new.self (grows_equal c.args.self.now c.new_temporary-to-in-Or.new.self c.new_temporary-to-in-Or.ensures.points) c.in_ok-value-in-Or.ensures.grows) c.in_ok-test-in-Or.ensures.at c.in_ok-test-in-Or.ensures.grows c.in_ok-value-in-Or-2.ensures.grows grows) c.decide-in-Or.ensures.grows

pub value-returns-in_ok-value-in-Or-2-clause-adds : goal.value-returns-in_ok-value-in-Or-2-clause-adds
value-returns-in_ok-value-in-Or-2-clause-adds t c = on_ok_then c.decide-in-Or.result (λ adds. adds_both c.args.self.now c.new_temporary-to-in-Or.new.self c.value-in-Or.new.self c.reserve-in-Or.new.self c.value-in-Or-2.new.self c.decide-in-Or.new.self (value_nodes (value_in (types_of_source c.args.source.now) c.args.value.now)) (value_nodes (value_in (types_of_source c.args.source.now) c.deref-in-Or.result.now)) (value_nodes (value_in (types_of_source c.args.source.now) c.deref-in-Or-2.result.now)) (ap (λ v. value_nodes (value_in (types_of_source c.args.source.now) v)) (or_is c.in-Or.is c.deref-in-Or.ensures c.deref-in-Or-2.ensures)) c.new_temporary-to-in-Or.ensures.adds c.in_ok-value-in-Or.ensures.adds c.in_ok-test-in-Or.ensures.counts c.in_ok-value-in-Or-2.ensures.adds adds) c.decide-in-Or.ensures.adds

pub value-value-requires-in-Conditional : goal.value-value-requires-in-Conditional
value-value-requires-in-Conditional t c = (search (rules, value_lemmas), (c.requires.source, (c.requires.homes, (typed_integer c.args.source.now c.args.scope.now c.deref-in-Conditional.result.now (conditional_typed c.args.source.now c.args.scope.now c.args.value.now c.deref-in-Conditional.result.now c.in-Conditional.then.value c.in-Conditional.otherwise.value (conditional_is c.in-Conditional.is c.deref-in-Conditional.ensures refl refl) c.requires.typed).tested, ((conditional_lives c.args.source.now c.args.scope.now (mode_of c.args.mode) c.args.value.now c.deref-in-Conditional.result.now c.in-Conditional.then.value c.in-Conditional.otherwise.value (conditional_is c.in-Conditional.is c.deref-in-Conditional.ensures refl refl) c.requires.lives).0, room_tested c.args.self.now (value_nodes (value_in (types_of_source c.args.source.now) c.args.value.now)) (value_nodes (value_in (types_of_source c.args.source.now) c.deref-in-Conditional.result.now)) (value_nodes (value_in (types_of_source c.args.source.now) c.in-Conditional.then.value)) (value_nodes (value_in (types_of_source c.args.source.now) c.in-Conditional.otherwise.value)) (ap (λ v. value_nodes (value_in (types_of_source c.args.source.now) v)) (conditional_is c.in-Conditional.is c.deref-in-Conditional.ensures refl refl)) c.requires.room)))))

pub value-integer-condition-requires : goal.value-integer-condition-requires
value-integer-condition-requires t c = integer_lowered c.args.source.now c.args.scope.now c.deref-in-Conditional.result.now c.args.self.now c.value-in-Conditional.new.self c.in_ok-value-in-Conditional.field-0 (conditional_typed c.args.source.now c.args.scope.now c.args.value.now c.deref-in-Conditional.result.now c.in-Conditional.then.value c.in-Conditional.otherwise.value (conditional_is c.in-Conditional.is c.deref-in-Conditional.ensures refl refl) c.requires.typed).tested c.in_ok-value-in-Conditional.ensures.code

pub value-value-requires-in-Conditional-2 : goal.value-value-requires-in-Conditional-2
value-value-requires-in-Conditional-2 t c = (search (rules, value_lemmas), (c.requires.source, (c.requires.homes, ((conditional_typed c.args.source.now c.args.scope.now c.args.value.now c.deref-in-Conditional.result.now c.deref-in-Conditional-2.result.now c.in-Conditional.otherwise.value (conditional_is c.in-Conditional.is c.deref-in-Conditional.ensures c.deref-in-Conditional-2.ensures refl) c.requires.typed).one, ((conditional_lives c.args.source.now c.args.scope.now (mode_of c.args.mode) c.args.value.now c.deref-in-Conditional.result.now c.deref-in-Conditional-2.result.now c.in-Conditional.otherwise.value (conditional_is c.in-Conditional.is c.deref-in-Conditional.ensures c.deref-in-Conditional-2.ensures refl) c.requires.lives).1, room_taken c.args.self.now c.value-in-Conditional.new.self c.reserve-in-Conditional.new.self (value_nodes (value_in (types_of_source c.args.source.now) c.args.value.now)) (value_nodes (value_in (types_of_source c.args.source.now) c.deref-in-Conditional.result.now)) (value_nodes (value_in (types_of_source c.args.source.now) c.deref-in-Conditional-2.result.now)) (value_nodes (value_in (types_of_source c.args.source.now) c.in-Conditional.otherwise.value)) (ap (λ v. value_nodes (value_in (types_of_source c.args.source.now) v)) (conditional_is c.in-Conditional.is c.deref-in-Conditional.ensures c.deref-in-Conditional-2.ensures refl)) c.requires.room c.in_ok-value-in-Conditional.ensures.adds c.in_ok-test-in-Conditional.ensures.counts)))))

pub value-end_way-requires-clause-reserved : goal.value-end_way-requires-clause-reserved
value-end_way-requires-clause-reserved t c = c.in_ok-one-in-Conditional.ensures.grows.stands c.in_ok-test-in-Conditional.test.0 M.Reserved c.in_ok-test-in-Conditional.ensures.reserved

pub value-end_way-requires-clause-value : goal.value-end_way-requires-clause-value
value-end_way-requires-clause-value t c = way_is_value c.args.source.now c.args.scope.now c.deref-in-Conditional-2.result.now (conditional_typed c.args.source.now c.args.scope.now c.args.value.now c.deref-in-Conditional.result.now c.deref-in-Conditional-2.result.now c.in-Conditional.otherwise.value (conditional_is c.in-Conditional.is c.deref-in-Conditional.ensures c.deref-in-Conditional-2.ensures refl) c.requires.typed).c_type c.reserve-in-Conditional.new.self c.value-in-Conditional-2.new.self c.in_ok-one-in-Conditional.one (conditional_typed c.args.source.now c.args.scope.now c.args.value.now c.deref-in-Conditional.result.now c.deref-in-Conditional-2.result.now c.in-Conditional.otherwise.value (conditional_is c.in-Conditional.is c.deref-in-Conditional.ensures c.deref-in-Conditional-2.ensures refl) c.requires.typed).first c.in_ok-one-in-Conditional.ensures.code

pub value-end_way-requires-clause-room : goal.value-end_way-requires-clause-room
value-end_way-requires-clause-room t c = room_ended c.args.self.now c.value-in-Conditional.new.self c.reserve-in-Conditional.new.self c.value-in-Conditional-2.new.self (value_nodes (value_in (types_of_source c.args.source.now) c.args.value.now)) (value_nodes (value_in (types_of_source c.args.source.now) c.deref-in-Conditional.result.now)) (value_nodes (value_in (types_of_source c.args.source.now) c.deref-in-Conditional-2.result.now)) (value_nodes (value_in (types_of_source c.args.source.now) c.in-Conditional.otherwise.value)) (ap (λ v. value_nodes (value_in (types_of_source c.args.source.now) v)) (conditional_is c.in-Conditional.is c.deref-in-Conditional.ensures c.deref-in-Conditional-2.ensures refl)) c.requires.room c.in_ok-value-in-Conditional.ensures.adds c.in_ok-test-in-Conditional.ensures.counts c.in_ok-one-in-Conditional.ensures.adds

pub value-value-requires-in-Conditional-3 : goal.value-value-requires-in-Conditional-3
value-value-requires-in-Conditional-3 t c = (search (rules, value_lemmas), (c.requires.source, (c.requires.homes, ((conditional_typed c.args.source.now c.args.scope.now c.args.value.now c.deref-in-Conditional.result.now c.deref-in-Conditional-2.result.now c.deref-in-Conditional-3.result.now (conditional_is c.in-Conditional.is c.deref-in-Conditional.ensures c.deref-in-Conditional-2.ensures c.deref-in-Conditional-3.ensures) c.requires.typed).other, ((conditional_lives c.args.source.now c.args.scope.now (mode_of c.args.mode) c.args.value.now c.deref-in-Conditional.result.now c.deref-in-Conditional-2.result.now c.deref-in-Conditional-3.result.now (conditional_is c.in-Conditional.is c.deref-in-Conditional.ensures c.deref-in-Conditional-2.ensures c.deref-in-Conditional-3.ensures) c.requires.lives).2, room_otherwise c.args.self.now c.value-in-Conditional.new.self c.reserve-in-Conditional.new.self c.value-in-Conditional-2.new.self c.end_way.new.self (value_nodes (value_in (types_of_source c.args.source.now) c.args.value.now)) (value_nodes (value_in (types_of_source c.args.source.now) c.deref-in-Conditional.result.now)) (value_nodes (value_in (types_of_source c.args.source.now) c.deref-in-Conditional-2.result.now)) (value_nodes (value_in (types_of_source c.args.source.now) c.deref-in-Conditional-3.result.now)) (ap (λ v. value_nodes (value_in (types_of_source c.args.source.now) v)) (conditional_is c.in-Conditional.is c.deref-in-Conditional.ensures c.deref-in-Conditional-2.ensures c.deref-in-Conditional-3.ensures)) c.requires.room c.in_ok-value-in-Conditional.ensures.adds c.in_ok-test-in-Conditional.ensures.counts c.in_ok-one-in-Conditional.ensures.adds c.in_ok-way-in-Conditional.ensures.adds)))))

pub value-join_ways-requires-clause-reserved : goal.value-join_ways-requires-clause-reserved
value-join_ways-requires-clause-reserved t c = c.in_ok-other-in-Conditional.ensures.grows.stands c.in_ok-way-in-Conditional.way.end.0 M.Reserved c.in_ok-way-in-Conditional.ensures.reserved

pub value-join_ways-requires-clause-alike : goal.value-join_ways-requires-clause-alike
value-join_ways-requires-clause-alike t c = ways_alike c.args.source.now c.args.scope.now c.integer-condition.result c.deref-in-Conditional-2.result.now c.deref-in-Conditional-3.result.now (conditional_typed c.args.source.now c.args.scope.now c.args.value.now c.deref-in-Conditional.result.now c.deref-in-Conditional-2.result.now c.deref-in-Conditional-3.result.now (conditional_is c.in-Conditional.is c.deref-in-Conditional.ensures c.deref-in-Conditional-2.ensures c.deref-in-Conditional-3.ensures) c.requires.typed).c_type c.reserve-in-Conditional.new.self c.value-in-Conditional-2.new.self c.end_way.new.self c.value-in-Conditional-3.new.self c.in_ok-test-in-Conditional.test.0 c.in_ok-way-in-Conditional.way.end.0 c.in_ok-one-in-Conditional.one c.in_ok-other-in-Conditional.other c.in_ok-way-in-Conditional.way.joined (conditional_typed c.args.source.now c.args.scope.now c.args.value.now c.deref-in-Conditional.result.now c.deref-in-Conditional-2.result.now c.deref-in-Conditional-3.result.now (conditional_is c.in-Conditional.is c.deref-in-Conditional.ensures c.deref-in-Conditional-2.ensures c.deref-in-Conditional-3.ensures) c.requires.typed).first (conditional_typed c.args.source.now c.args.scope.now c.args.value.now c.deref-in-Conditional.result.now c.deref-in-Conditional-2.result.now c.deref-in-Conditional-3.result.now (conditional_is c.in-Conditional.is c.deref-in-Conditional.ensures c.deref-in-Conditional-2.ensures c.deref-in-Conditional-3.ensures) c.requires.typed).second c.in_ok-one-in-Conditional.ensures.code c.in_ok-way-in-Conditional.ensures.code c.in_ok-other-in-Conditional.ensures.code

pub value-returns-in_ok-other-in-Conditional-clause-code : goal.value-returns-in_ok-other-in-Conditional-clause-code
value-returns-in_ok-other-in-Conditional-clause-code t c = if_on_ok _ _ c.join_ways.result
    (λ lowered code grows. conditional_lowers c.args.source.now c.args.scope.now c.args.mode c.args.value.now c.deref-in-Conditional.result.now c.deref-in-Conditional-2.result.now c.deref-in-Conditional-3.result.now c.args.self.now c.value-in-Conditional.new.self c.reserve-in-Conditional.new.self c.value-in-Conditional-2.new.self c.end_way.new.self c.value-in-Conditional-3.new.self c.join_ways.new.self c.in_ok-test-in-Conditional.test.0 c.in_ok-way-in-Conditional.way.end.0 c.in_ok-value-in-Conditional.field-0 c.in_ok-one-in-Conditional.one c.in_ok-other-in-Conditional.other c.integer-condition.result c.in_ok-way-in-Conditional.way.joined lowered
    (conditional_is c.in-Conditional.is c.deref-in-Conditional.ensures c.deref-in-Conditional-2.ensures c.deref-in-Conditional-3.ensures) c.in_ok-value-in-Conditional.ensures.code c.integer-condition.ensures c.in_ok-test-in-Conditional.ensures.at c.in_ok-test-in-Conditional.ensures.reserved c.in_ok-test-in-Conditional.ensures.spot c.in_ok-test-in-Conditional.ensures.grows c.in_ok-one-in-Conditional.ensures.code c.in_ok-one-in-Conditional.ensures.grows
    c.in_ok-way-in-Conditional.ensures.code c.in_ok-way-in-Conditional.ensures.reserved c.in_ok-way-in-Conditional.ensures.grows c.in_ok-other-in-Conditional.ensures.code c.in_ok-other-in-Conditional.ensures.grows code grows)
    c.join_ways.ensures.code c.join_ways.ensures.grows

pub value-returns-in_ok-other-in-Conditional-clause-grows : goal.value-returns-in_ok-other-in-Conditional-clause-grows
value-returns-in_ok-other-in-Conditional-clause-grows t c = on_ok_then c.join_ways.result (λ grows. grows_joined c.args.self.now c.value-in-Conditional.new.self c.reserve-in-Conditional.new.self c.value-in-Conditional-2.new.self c.end_way.new.self c.value-in-Conditional-3.new.self c.join_ways.new.self c.in_ok-test-in-Conditional.test.0 c.in_ok-way-in-Conditional.way.end.0 c.in_ok-value-in-Conditional.ensures.grows c.in_ok-test-in-Conditional.ensures.at c.in_ok-test-in-Conditional.ensures.grows c.in_ok-one-in-Conditional.ensures.grows c.in_ok-way-in-Conditional.ensures.grows c.in_ok-way-in-Conditional.ensures.beyond c.in_ok-other-in-Conditional.ensures.grows grows) c.join_ways.ensures.grows

pub value-returns-in_ok-other-in-Conditional-clause-adds : goal.value-returns-in_ok-other-in-Conditional-clause-adds
value-returns-in_ok-other-in-Conditional-clause-adds t c = on_ok_then c.join_ways.result (λ adds. adds_ways c.args.self.now c.value-in-Conditional.new.self c.reserve-in-Conditional.new.self c.value-in-Conditional-2.new.self c.end_way.new.self c.value-in-Conditional-3.new.self c.join_ways.new.self (value_nodes (value_in (types_of_source c.args.source.now) c.args.value.now)) (value_nodes (value_in (types_of_source c.args.source.now) c.deref-in-Conditional.result.now)) (value_nodes (value_in (types_of_source c.args.source.now) c.deref-in-Conditional-2.result.now)) (value_nodes (value_in (types_of_source c.args.source.now) c.deref-in-Conditional-3.result.now)) (ap (λ v. value_nodes (value_in (types_of_source c.args.source.now) v)) (conditional_is c.in-Conditional.is c.deref-in-Conditional.ensures c.deref-in-Conditional-2.ensures c.deref-in-Conditional-3.ensures)) c.in_ok-value-in-Conditional.ensures.adds c.in_ok-test-in-Conditional.ensures.counts c.in_ok-one-in-Conditional.ensures.adds c.in_ok-way-in-Conditional.ensures.adds c.in_ok-other-in-Conditional.ensures.adds adds) c.join_ways.ensures.adds

pub value-designator-requires-in-Call : goal.value-designator-requires-in-Call
value-designator-requires-in-Call t c = (search (rules, value_lemmas), ((c.requires.source), ((c.requires.homes), ((subst (DesignatorTyped c.args.source.now c.args.scope.now) (sym c.deref-in-Call.ensures) (call_typed c.args.source.now c.args.scope.now c.in-Call.is_used c.in-Call.place c.in-Call.function c.in-Call.c_type c.in-Call.arguments c.args.value.now c.in-Call.is c.requires.typed).called), ((subst (λ function. LieInMemory (scope_of c.args.source.now c.args.scope.now) (λ number. takes_called number (designator_in (types_of_source c.args.source.now) function))) (sym c.deref-in-Call.ensures) (call_lives c.args.source.now c.args.scope.now c.in-Call.is_used c.in-Call.place c.in-Call.function c.in-Call.c_type c.in-Call.arguments (mode_of c.args.mode) c.args.value.now c.in-Call.is c.requires.lives).0), (subst (λ function. HasRoom c.args.self.now (names_for (designator_nodes (designator_in (types_of_source c.args.source.now) function)))) (sym c.deref-in-Call.ensures) (room_called c.args.self.now (value_nodes (value_in (types_of_source c.args.source.now) c.args.value.now)) (designator_nodes (designator_in (types_of_source c.args.source.now) c.in-Call.function.value)) (values_nodes (values_in (types_of_source c.args.source.now) c.in-Call.arguments.items)) (call_nodes c.args.source.now c.args.scope.now c.in-Call.is_used c.in-Call.place c.in-Call.function c.in-Call.c_type c.in-Call.arguments c.args.value.now c.in-Call.is) c.requires.room)))))))

pub value-new_call-site-requires : goal.value-new_call-site-requires
value-new_call-site-requires t c = record { room = room_site c.args.self.now c.designator-in-Call.new.self (value_nodes (value_in (types_of_source c.args.source.now) c.args.value.now)) (designator_nodes (designator_in (types_of_source c.args.source.now) c.in-Call.function.value)) (values_nodes (values_in (types_of_source c.args.source.now) c.in-Call.arguments.items)) (call_nodes c.args.source.now c.args.scope.now c.in-Call.is_used c.in-Call.place c.in-Call.function c.in-Call.c_type c.in-Call.arguments c.args.value.now c.in-Call.is) c.requires.room (subst (λ function. AddsFewer c.args.self.now c.designator-in-Call.new.self (names_for (designator_nodes (designator_in (types_of_source c.args.source.now) function)))) c.deref-in-Call.ensures c.in_ok-called-in-Call.ensures.adds) }

pub value-arguments-requires : goal.value-arguments-requires
value-arguments-requires t c = (search (rules, value_lemmas), ((c.requires.source), ((c.requires.homes), ((subst (ValuesTyped c.args.source.now c.args.scope.now) (sym c.as_slice.ensures.value) (call_typed c.args.source.now c.args.scope.now c.in-Call.is_used c.in-Call.place c.in-Call.function c.in-Call.c_type c.in-Call.arguments c.args.value.now c.in-Call.is c.requires.typed).given_types), ((subst (λ items. (c_types : CTypes) → types_of (context_in c.args.source.now c.args.scope.now) (values_in (types_of_source c.args.source.now) items) ≡ Some c_types → all_scalar c_types ≡ true) (sym c.as_slice.ensures.value) (call_typed c.args.source.now c.args.scope.now c.in-Call.is_used c.in-Call.place c.in-Call.function c.in-Call.c_type c.in-Call.arguments c.args.value.now c.in-Call.is c.requires.typed).scalars), ((subst (λ items. LieInMemory (scope_of c.args.source.now c.args.scope.now) (λ number. takes_any number (values_in (types_of_source c.args.source.now) items))) (sym c.as_slice.ensures.value) (call_lives c.args.source.now c.args.scope.now c.in-Call.is_used c.in-Call.place c.in-Call.function c.in-Call.c_type c.in-Call.arguments (mode_of c.args.mode) c.args.value.now c.in-Call.is c.requires.lives).1), (subst (λ items. HasRoom c.new_call-site.new.self (suc (names_for (values_nodes (values_in (types_of_source c.args.source.now) items))))) (sym c.as_slice.ensures.value) (room_arguments c.args.self.now c.designator-in-Call.new.self c.new_call-site.new.self (value_nodes (value_in (types_of_source c.args.source.now) c.args.value.now)) (designator_nodes (designator_in (types_of_source c.args.source.now) c.in-Call.function.value)) (values_nodes (values_in (types_of_source c.args.source.now) c.in-Call.arguments.items)) (call_nodes c.args.source.now c.args.scope.now c.in-Call.is_used c.in-Call.place c.in-Call.function c.in-Call.c_type c.in-Call.arguments c.args.value.now c.in-Call.is) c.requires.room (subst (λ function. AddsFewer c.args.self.now c.designator-in-Call.new.self (names_for (designator_nodes (designator_in (types_of_source c.args.source.now) function)))) c.deref-in-Call.ensures c.in_ok-called-in-Call.ensures.adds) c.new_call-site.ensures.adds))))))))

pub value-given-requires-clause-stands : goal.value-given-requires-clause-stands
value-given-requires-clause-stands t c = subst (λ table. Stands table c.in-Call.c_type) (sym c.types-in-Call.ensures) (call_typed c.args.source.now c.args.scope.now c.in-Call.is_used c.in-Call.place c.in-Call.function c.in-Call.c_type c.in-Call.arguments c.args.value.now c.in-Call.is c.requires.typed).stands

pub value-given-requires-clause-kind : goal.value-given-requires-clause-kind
value-given-requires-clause-kind t c = subst (λ table. IsFunctionType (type_in table c.in-Call.c_type)) (sym c.types-in-Call.ensures) (call_typed c.args.source.now c.args.scope.now c.in-Call.is_used c.in-Call.place c.in-Call.function c.in-Call.c_type c.in-Call.arguments c.args.value.now c.in-Call.is c.requires.typed).is_function

pub value-returns-in_ok-call-in-Call-clause-code : goal.value-returns-in_ok-call-in-Call-clause-code
value-returns-in_ok-call-in-Call-clause-code t c = call_done c.args.source.now c.args.scope.now c.in-Call.is_used c.in-Call.place c.in-Call.function c.in-Call.c_type c.in-Call.arguments c.args.mode c.args.value.now c.args.self.now c.designator-in-Call.new.self c.new_call-site.new.self c.arguments.new.self c.call.new.self c.in_ok-called-in-Call.called c.new_call-site.result c.in_ok-arguments-in-Call.arguments.items c.types-in-Call.result.now c.given.result c.in-Call.is c.types-in-Call.ensures
    (subst (λ function. DesignatorLowers c.args.source.now c.args.scope.now function c.args.self.now c.designator-in-Call.new.self c.in_ok-called-in-Call.called) c.deref-in-Call.ensures c.in_ok-called-in-Call.ensures.code) c.new_call-site.ensures.named c.new_call-site.ensures.spot c.new_call-site.ensures.points
    (subst (λ items. ArgumentsLower c.args.source.now c.args.scope.now items c.new_call-site.new.self c.arguments.new.self c.in_ok-arguments-in-Call.arguments.items) c.as_slice.ensures.value c.in_ok-arguments-in-Call.ensures.code) c.in_ok-arguments-in-Call.ensures.grows c.in_ok-call-in-Call.ensures.code c.in_ok-call-in-Call.ensures.grows c.given.ensures.code c.given.ensures.holds

pub value-returns-in_ok-call-in-Call-clause-grows : goal.value-returns-in_ok-call-in-Call-clause-grows
value-returns-in_ok-call-in-Call-clause-grows t c = on_ok c.given.result (grows_called c.args.self.now c.designator-in-Call.new.self c.new_call-site.new.self c.arguments.new.self c.call.new.self c.in_ok-called-in-Call.ensures.grows c.new_call-site.ensures.points c.in_ok-arguments-in-Call.ensures.grows c.in_ok-call-in-Call.ensures.grows)

pub value-returns-in_ok-call-in-Call-clause-adds : goal.value-returns-in_ok-call-in-Call-clause-adds
value-returns-in_ok-call-in-Call-clause-adds t c = on_ok c.given.result (adds_called c.args.self.now c.designator-in-Call.new.self c.new_call-site.new.self c.arguments.new.self c.call.new.self (value_nodes (value_in (types_of_source c.args.source.now) c.args.value.now)) (designator_nodes (designator_in (types_of_source c.args.source.now) c.in-Call.function.value)) (values_nodes (values_in (types_of_source c.args.source.now) c.in-Call.arguments.items)) (call_nodes c.args.source.now c.args.scope.now c.in-Call.is_used c.in-Call.place c.in-Call.function c.in-Call.c_type c.in-Call.arguments c.args.value.now c.in-Call.is) (subst (λ function. AddsFewer c.args.self.now c.designator-in-Call.new.self (names_for (designator_nodes (designator_in (types_of_source c.args.source.now) function)))) c.deref-in-Call.ensures c.in_ok-called-in-Call.ensures.adds) c.new_call-site.ensures.adds (subst (λ items. Adds c.new_call-site.new.self c.arguments.new.self (names_for (values_nodes (values_in (types_of_source c.args.source.now) items)))) c.as_slice.ensures.value c.in_ok-arguments-in-Call.ensures.adds) c.in_ok-call-in-Call.ensures.adds)

pub value-library_call-requires : goal.value-library_call-requires
value-library_call-requires t c = (search (rules, value_lemmas), ((c.requires.source), ((c.requires.homes), ((subst (LibraryTyped c.args.source.now c.args.scope.now c.in-LibraryCall.function) (sym c.as_slice-in-LibraryCall.ensures.value) (call_values_library_typed c.args.source.now c.args.scope.now c.in-LibraryCall.function c.in-LibraryCall.groups c.in-LibraryCall.place c.in-LibraryCall.arguments c.args.value.now c.in-LibraryCall.is c.requires.typed)), ((subst (λ items. LieInMemory (scope_of c.args.source.now c.args.scope.now) (λ number. takes_any number (values_in (types_of_source c.args.source.now) items))) (sym c.as_slice-in-LibraryCall.ensures.value) (call_values_library_lives c.args.source.now c.args.scope.now c.in-LibraryCall.function c.in-LibraryCall.groups c.in-LibraryCall.place c.in-LibraryCall.arguments (mode_of c.args.mode) c.args.value.now c.in-LibraryCall.is c.requires.lives)), (subst (λ items. HasRoom c.args.self.now (suc (names_for (values_nodes (values_in (types_of_source c.args.source.now) items))))) (sym c.as_slice-in-LibraryCall.ensures.value) (room_library c.args.self.now (value_nodes (value_in (types_of_source c.args.source.now) c.args.value.now)) (values_nodes (values_in (types_of_source c.args.source.now) c.in-LibraryCall.arguments.items)) (library_nodes c.args.source.now c.args.scope.now c.in-LibraryCall.function c.in-LibraryCall.groups c.in-LibraryCall.place c.in-LibraryCall.arguments c.args.value.now c.in-LibraryCall.is) c.requires.room)))))))

pub value-returns-in-LibraryCall-clause-code : goal.value-returns-in-LibraryCall-clause-code
value-returns-in-LibraryCall-clause-code t c = if_ok _ _ c.library_call.result (λ lowered lowers. library_lowers c.args.source.now c.args.scope.now c.in-LibraryCall.function c.in-LibraryCall.groups c.in-LibraryCall.place c.in-LibraryCall.arguments c.args.mode c.args.value.now c.args.self.now c.library_call.new.self lowered c.in-LibraryCall.is
    (subst (λ items. LibraryLowers c.args.source.now c.args.scope.now c.in-LibraryCall.function items c.args.self.now c.library_call.new.self lowered) c.as_slice-in-LibraryCall.ensures.value lowers)) c.library_call.ensures.code

pub value-returns-in-LibraryCall-clause-grows : goal.value-returns-in-LibraryCall-clause-grows
value-returns-in-LibraryCall-clause-grows t c = c.library_call.ensures.grows

pub value-returns-in-LibraryCall-clause-adds : goal.value-returns-in-LibraryCall-clause-adds
value-returns-in-LibraryCall-clause-adds t c = on_ok_then c.library_call.result (λ adds. adds_library c.args.self.now c.library_call.new.self (value_nodes (value_in (types_of_source c.args.source.now) c.args.value.now)) (values_nodes (values_in (types_of_source c.args.source.now) c.in-LibraryCall.arguments.items)) (library_nodes c.args.source.now c.args.scope.now c.in-LibraryCall.function c.in-LibraryCall.groups c.in-LibraryCall.place c.in-LibraryCall.arguments c.args.value.now c.in-LibraryCall.is) (subst (λ items. Adds c.args.self.now c.library_call.new.self (suc (names_for (values_nodes (values_in (types_of_source c.args.source.now) items))))) c.as_slice-in-LibraryCall.ensures.value adds)) c.library_call.ensures.adds

pub value-operation-requires : goal.value-operation-requires
value-operation-requires t c = (search (rules, value_lemmas), ((c.requires.source), ((c.requires.homes), ((c.requires.typed), ((c.requires.lives), ((is_operation c.args.value.now c.in_default.not-Grouped c.in_default.not-Read c.in_default.not-Decay c.in_default.not-AddressOf c.in_default.not-FunctionValue c.in_default.not-AddressOfFunction c.in_default.not-Cast c.in_default.not-CastVoid c.in_default.not-And c.in_default.not-Or c.in_default.not-Conditional c.in_default.not-Call c.in_default.not-LibraryCall), (c.requires.room)))))))

pub operation-returns-in-Constant-clause-code : goal.operation-returns-in-Constant-clause-code
operation-returns-in-Constant-clause-code t c =
    subst (λ v. IfOk c.constant.result (TypedLowers c.args.source.now c.args.scope.now c.args.mode v c.args.self.now c.args.self.now)) (sym (ap (value_in (types_of_source c.args.source.now)) c.in-Constant.is)) (constant_code c.args.source.now c.args.scope.now c.args.mode c.in-Constant.int_type c.in-Constant.value c.args.self.now c.constant.result c.requires.typed.c_type (subst (λ v. type_of (context_in c.args.source.now c.args.scope.now) v ≡ Some c.requires.typed.c_type) (ap (value_in (types_of_source c.args.source.now)) c.in-Constant.is) c.requires.typed.typed) c.constant.ensures)

pub operation-returns-in-Constant-clause-grows : goal.operation-returns-in-Constant-clause-grows
operation-returns-in-Constant-clause-grows t c =
    on_ok c.constant.result (grows_same c.args.self.now)

pub operation-returns-in-Constant-clause-adds : goal.operation-returns-in-Constant-clause-adds
operation-returns-in-Constant-clause-adds t c =
    on_ok c.constant.result (subst (λ v. AddsFewer c.args.self.now c.args.self.now (names_for (value_nodes v))) (sym (ap (value_in (types_of_source c.args.source.now)) c.in-Constant.is)) (operation_forms_fewer_same c.args.self.now))

pub operation-value-requires : goal.operation-value-requires
operation-value-requires t c = (search (rules, value_lemmas), ((c.requires.source), ((c.requires.homes), ((operand_typed c.args.source.now c.args.scope.now is_integer c.deref.result.now (converted_part c.args.source.now c.args.scope.now c.in-Converted.int_type c.deref.result.now c.requires.typed.c_type (subst (λ v. type_of (context_in c.args.source.now c.args.scope.now) v ≡ Some c.requires.typed.c_type) (ap (value_in (types_of_source c.args.source.now)) c.in-Converted.is ∙ ap (λ v. T.Converted c.in-Converted.int_type (value_in (types_of_source c.args.source.now) v)) (sym c.deref.ensures)) c.requires.typed.typed) (subst (λ v. ValueStands (types_of_source c.args.source.now) v) (sym c.deref.ensures) (subst (λ v. ValueStands (types_of_source c.args.source.now) v) c.in-Converted.is c.requires.typed.stands)))), ((lives_kept (scope_of c.args.source.now c.args.scope.now) N.Kept (value_in (types_of_source c.args.source.now) c.deref.result.now) refl ((subst (λ v. ValueLives (scope_of c.args.source.now c.args.scope.now) (mode_of c.args.mode) v) (ap (value_in (types_of_source c.args.source.now)) c.in-Converted.is ∙ ap (λ v. T.Converted c.in-Converted.int_type (value_in (types_of_source c.args.source.now) v)) (sym c.deref.ensures)) c.requires.lives).taken)), (room_part c.args.self.now (value_nodes (value_in (types_of_source c.args.source.now) c.deref.result.now)) (subst (λ v. HasRoom c.args.self.now (names_for (value_nodes v))) (ap (value_in (types_of_source c.args.source.now)) c.in-Converted.is ∙ ap (λ v. T.Converted c.in-Converted.int_type (value_in (types_of_source c.args.source.now) v)) (sym c.deref.ensures)) c.requires.room)))))))

pub operation-integer-operand-requires : goal.operation-integer-operand-requires
operation-integer-operand-requires t c =
    comes_integer c.args.source.now c.args.scope.now c.deref.result.now (converted_part c.args.source.now c.args.scope.now c.in-Converted.int_type c.deref.result.now c.requires.typed.c_type (subst (λ v. type_of (context_in c.args.source.now c.args.scope.now) v ≡ Some c.requires.typed.c_type) (ap (value_in (types_of_source c.args.source.now)) c.in-Converted.is ∙ ap (λ v. T.Converted c.in-Converted.int_type (value_in (types_of_source c.args.source.now) v)) (sym c.deref.ensures)) c.requires.typed.typed) (subst (λ v. ValueStands (types_of_source c.args.source.now) v) (sym c.deref.ensures) (subst (λ v. ValueStands (types_of_source c.args.source.now) v) c.in-Converted.is c.requires.typed.stands))) c.args.self.now c.value.new.self c.in_ok-value-in-Converted.field-0 c.in_ok-value-in-Converted.ensures.code

pub operation-returns-in_ok-value-in-Converted-clause-code : goal.operation-returns-in_ok-value-in-Converted-clause-code
operation-returns-in_ok-value-in-Converted-clause-code t c =
    subst (λ v. IfOk c.computed.result (TypedLowers c.args.source.now c.args.scope.now c.args.mode v c.args.self.now c.value.new.self)) (sym (ap (value_in (types_of_source c.args.source.now)) c.in-Converted.is ∙ ap (λ v. T.Converted c.in-Converted.int_type (value_in (types_of_source c.args.source.now) v)) (sym c.deref.ensures))) (converted_code c.args.source.now c.args.scope.now c.args.mode c.in-Converted.int_type c.deref.result.now c.args.self.now c.value.new.self c.in_ok-value-in-Converted.field-0 c.integer-operand.result (tree_of c.conversion.result) c.computed.result c.in_ok-value-in-Converted.ensures.code c.integer-operand.ensures c.conversion.ensures c.computed.ensures)

pub operation-returns-in_ok-value-in-Converted-clause-grows : goal.operation-returns-in_ok-value-in-Converted-clause-grows
operation-returns-in_ok-value-in-Converted-clause-grows t c =
    on_ok c.computed.result c.in_ok-value-in-Converted.ensures.grows

pub operation-returns-in_ok-value-in-Converted-clause-adds : goal.operation-returns-in_ok-value-in-Converted-clause-adds
operation-returns-in_ok-value-in-Converted-clause-adds t c =
    on_ok c.computed.result (subst (λ v. AddsFewer c.args.self.now c.value.new.self (names_for (value_nodes v))) (sym (ap (value_in (types_of_source c.args.source.now)) c.in-Converted.is ∙ ap (λ v. T.Converted c.in-Converted.int_type (value_in (types_of_source c.args.source.now) v)) (sym c.deref.ensures))) (operation_forms_fewer_one c.args.self.now c.value.new.self (value_nodes (value_in (types_of_source c.args.source.now) c.deref.result.now)) c.in_ok-value-in-Converted.ensures.adds))

pub operation-value-requires-in-Plus : goal.operation-value-requires-in-Plus
operation-value-requires-in-Plus t c = (search (rules, value_lemmas), ((c.requires.source), ((c.requires.homes), ((operand_typed c.args.source.now c.args.scope.now is_integer c.deref-in-Plus.result.now (plus_part c.args.source.now c.args.scope.now c.deref-in-Plus.result.now c.requires.typed.c_type (subst (λ v. type_of (context_in c.args.source.now c.args.scope.now) v ≡ Some c.requires.typed.c_type) (ap (value_in (types_of_source c.args.source.now)) c.in-Plus.is ∙ ap (λ v. T.Plus (value_in (types_of_source c.args.source.now) v)) (sym c.deref-in-Plus.ensures)) c.requires.typed.typed) (subst (λ v. ValueStands (types_of_source c.args.source.now) v) (sym c.deref-in-Plus.ensures) (subst (λ v. ValueStands (types_of_source c.args.source.now) v) c.in-Plus.is c.requires.typed.stands)))), ((lives_kept (scope_of c.args.source.now c.args.scope.now) N.Kept (value_in (types_of_source c.args.source.now) c.deref-in-Plus.result.now) refl ((subst (λ v. ValueLives (scope_of c.args.source.now c.args.scope.now) (mode_of c.args.mode) v) (ap (value_in (types_of_source c.args.source.now)) c.in-Plus.is ∙ ap (λ v. T.Plus (value_in (types_of_source c.args.source.now) v)) (sym c.deref-in-Plus.ensures)) c.requires.lives).taken)), (room_part c.args.self.now (value_nodes (value_in (types_of_source c.args.source.now) c.deref-in-Plus.result.now)) (subst (λ v. HasRoom c.args.self.now (names_for (value_nodes v))) (ap (value_in (types_of_source c.args.source.now)) c.in-Plus.is ∙ ap (λ v. T.Plus (value_in (types_of_source c.args.source.now) v)) (sym c.deref-in-Plus.ensures)) c.requires.room)))))))

pub operation-returns-in-Plus-clause-code : goal.operation-returns-in-Plus-clause-code
operation-returns-in-Plus-clause-code t c =
    subst (λ v. IfOk c.value-in-Plus.result (TypedLowers c.args.source.now c.args.scope.now c.args.mode v c.args.self.now c.value-in-Plus.new.self)) (sym (ap (value_in (types_of_source c.args.source.now)) c.in-Plus.is ∙ ap (λ v. T.Plus (value_in (types_of_source c.args.source.now) v)) (sym c.deref-in-Plus.ensures))) (plus_code c.args.source.now c.args.scope.now c.args.mode c.deref-in-Plus.result.now c.args.self.now c.value-in-Plus.new.self c.value-in-Plus.result c.value-in-Plus.ensures.code)

pub operation-returns-in-Plus-clause-adds : goal.operation-returns-in-Plus-clause-adds
operation-returns-in-Plus-clause-adds t c =
    on_ok_then c.value-in-Plus.result (λ adds. subst (λ v. AddsFewer c.args.self.now c.value-in-Plus.new.self (names_for (value_nodes v))) (sym (ap (value_in (types_of_source c.args.source.now)) c.in-Plus.is ∙ ap (λ v. T.Plus (value_in (types_of_source c.args.source.now) v)) (sym c.deref-in-Plus.ensures))) (operation_forms_fewer_one c.args.self.now c.value-in-Plus.new.self (value_nodes (value_in (types_of_source c.args.source.now) c.deref-in-Plus.result.now)) adds)) c.value-in-Plus.ensures.adds

pub operation-returns-in-Plus-clause-grows : goal.operation-returns-in-Plus-clause-grows
operation-returns-in-Plus-clause-grows t c =
    c.value-in-Plus.ensures.grows

pub operation-value-requires-in-Minus : goal.operation-value-requires-in-Minus
operation-value-requires-in-Minus t c = (search (rules, value_lemmas), ((c.requires.source), ((c.requires.homes), ((operand_typed c.args.source.now c.args.scope.now is_integer c.deref-in-Minus.result.now (minus_part c.args.source.now c.args.scope.now c.in-Minus.place c.in-Minus.int_type c.deref-in-Minus.result.now c.requires.typed.c_type (subst (λ v. type_of (context_in c.args.source.now c.args.scope.now) v ≡ Some c.requires.typed.c_type) (ap (value_in (types_of_source c.args.source.now)) c.in-Minus.is ∙ ap (λ v. T.Minus c.in-Minus.place c.in-Minus.int_type (value_in (types_of_source c.args.source.now) v)) (sym c.deref-in-Minus.ensures)) c.requires.typed.typed) (subst (λ v. ValueStands (types_of_source c.args.source.now) v) (sym c.deref-in-Minus.ensures) (subst (λ v. ValueStands (types_of_source c.args.source.now) v) c.in-Minus.is c.requires.typed.stands)))), ((lives_kept (scope_of c.args.source.now c.args.scope.now) N.Kept (value_in (types_of_source c.args.source.now) c.deref-in-Minus.result.now) refl ((subst (λ v. ValueLives (scope_of c.args.source.now c.args.scope.now) (mode_of c.args.mode) v) (ap (value_in (types_of_source c.args.source.now)) c.in-Minus.is ∙ ap (λ v. T.Minus c.in-Minus.place c.in-Minus.int_type (value_in (types_of_source c.args.source.now) v)) (sym c.deref-in-Minus.ensures)) c.requires.lives).taken)), (room_part c.args.self.now (value_nodes (value_in (types_of_source c.args.source.now) c.deref-in-Minus.result.now)) (subst (λ v. HasRoom c.args.self.now (names_for (value_nodes v))) (ap (value_in (types_of_source c.args.source.now)) c.in-Minus.is ∙ ap (λ v. T.Minus c.in-Minus.place c.in-Minus.int_type (value_in (types_of_source c.args.source.now) v)) (sym c.deref-in-Minus.ensures)) c.requires.room)))))))

pub operation-integer-operand-requires-in-Minus : goal.operation-integer-operand-requires-in-Minus
operation-integer-operand-requires-in-Minus t c =
    comes_integer c.args.source.now c.args.scope.now c.deref-in-Minus.result.now (minus_part c.args.source.now c.args.scope.now c.in-Minus.place c.in-Minus.int_type c.deref-in-Minus.result.now c.requires.typed.c_type (subst (λ v. type_of (context_in c.args.source.now c.args.scope.now) v ≡ Some c.requires.typed.c_type) (ap (value_in (types_of_source c.args.source.now)) c.in-Minus.is ∙ ap (λ v. T.Minus c.in-Minus.place c.in-Minus.int_type (value_in (types_of_source c.args.source.now) v)) (sym c.deref-in-Minus.ensures)) c.requires.typed.typed) (subst (λ v. ValueStands (types_of_source c.args.source.now) v) (sym c.deref-in-Minus.ensures) (subst (λ v. ValueStands (types_of_source c.args.source.now) v) c.in-Minus.is c.requires.typed.stands))) c.args.self.now c.value-in-Minus.new.self c.in_ok-value-in-Minus.field-0 c.in_ok-value-in-Minus.ensures.code

pub operation-returns-in_ok-tree-in-Minus-clause-code : goal.operation-returns-in_ok-tree-in-Minus-clause-code
operation-returns-in_ok-tree-in-Minus-clause-code t c =
    subst (λ v. IfOk c.computed-in-Minus.result (TypedLowers c.args.source.now c.args.scope.now c.args.mode v c.args.self.now c.value-in-Minus.new.self)) (sym (ap (value_in (types_of_source c.args.source.now)) c.in-Minus.is ∙ ap (λ v. T.Minus c.in-Minus.place c.in-Minus.int_type (value_in (types_of_source c.args.source.now) v)) (sym c.deref-in-Minus.ensures))) (minus_code c.args.source.now c.args.scope.now c.args.mode c.in-Minus.place c.in-Minus.int_type c.deref-in-Minus.result.now c.args.self.now c.value-in-Minus.new.self c.in_ok-value-in-Minus.field-0 c.integer-operand-in-Minus.result (tree_of c.in_ok-tree-in-Minus.tree) c.computed-in-Minus.result c.in_ok-value-in-Minus.ensures.code c.integer-operand-in-Minus.ensures c.in_ok-tree-in-Minus.ensures c.computed-in-Minus.ensures)

pub operation-returns-in_ok-tree-in-Minus-clause-grows : goal.operation-returns-in_ok-tree-in-Minus-clause-grows
operation-returns-in_ok-tree-in-Minus-clause-grows t c =
    on_ok c.computed-in-Minus.result c.in_ok-value-in-Minus.ensures.grows

pub operation-returns-in_ok-tree-in-Minus-clause-adds : goal.operation-returns-in_ok-tree-in-Minus-clause-adds
operation-returns-in_ok-tree-in-Minus-clause-adds t c =
    on_ok c.computed-in-Minus.result (subst (λ v. AddsFewer c.args.self.now c.value-in-Minus.new.self (names_for (value_nodes v))) (sym (ap (value_in (types_of_source c.args.source.now)) c.in-Minus.is ∙ ap (λ v. T.Minus c.in-Minus.place c.in-Minus.int_type (value_in (types_of_source c.args.source.now) v)) (sym c.deref-in-Minus.ensures))) (operation_forms_fewer_one c.args.self.now c.value-in-Minus.new.self (value_nodes (value_in (types_of_source c.args.source.now) c.deref-in-Minus.result.now)) c.in_ok-value-in-Minus.ensures.adds))

pub operation-value-requires-in-Complement : goal.operation-value-requires-in-Complement
operation-value-requires-in-Complement t c = (search (rules, value_lemmas), ((c.requires.source), ((c.requires.homes), ((operand_typed c.args.source.now c.args.scope.now is_integer c.deref-in-Complement.result.now (complement_part c.args.source.now c.args.scope.now c.in-Complement.int_type c.deref-in-Complement.result.now c.requires.typed.c_type (subst (λ v. type_of (context_in c.args.source.now c.args.scope.now) v ≡ Some c.requires.typed.c_type) (ap (value_in (types_of_source c.args.source.now)) c.in-Complement.is ∙ ap (λ v. T.Complement c.in-Complement.int_type (value_in (types_of_source c.args.source.now) v)) (sym c.deref-in-Complement.ensures)) c.requires.typed.typed) (subst (λ v. ValueStands (types_of_source c.args.source.now) v) (sym c.deref-in-Complement.ensures) (subst (λ v. ValueStands (types_of_source c.args.source.now) v) c.in-Complement.is c.requires.typed.stands)))), ((lives_kept (scope_of c.args.source.now c.args.scope.now) N.Kept (value_in (types_of_source c.args.source.now) c.deref-in-Complement.result.now) refl ((subst (λ v. ValueLives (scope_of c.args.source.now c.args.scope.now) (mode_of c.args.mode) v) (ap (value_in (types_of_source c.args.source.now)) c.in-Complement.is ∙ ap (λ v. T.Complement c.in-Complement.int_type (value_in (types_of_source c.args.source.now) v)) (sym c.deref-in-Complement.ensures)) c.requires.lives).taken)), (room_part c.args.self.now (value_nodes (value_in (types_of_source c.args.source.now) c.deref-in-Complement.result.now)) (subst (λ v. HasRoom c.args.self.now (names_for (value_nodes v))) (ap (value_in (types_of_source c.args.source.now)) c.in-Complement.is ∙ ap (λ v. T.Complement c.in-Complement.int_type (value_in (types_of_source c.args.source.now) v)) (sym c.deref-in-Complement.ensures)) c.requires.room)))))))

pub operation-integer-operand-requires-in-Complement : goal.operation-integer-operand-requires-in-Complement
operation-integer-operand-requires-in-Complement t c =
    comes_integer c.args.source.now c.args.scope.now c.deref-in-Complement.result.now (complement_part c.args.source.now c.args.scope.now c.in-Complement.int_type c.deref-in-Complement.result.now c.requires.typed.c_type (subst (λ v. type_of (context_in c.args.source.now c.args.scope.now) v ≡ Some c.requires.typed.c_type) (ap (value_in (types_of_source c.args.source.now)) c.in-Complement.is ∙ ap (λ v. T.Complement c.in-Complement.int_type (value_in (types_of_source c.args.source.now) v)) (sym c.deref-in-Complement.ensures)) c.requires.typed.typed) (subst (λ v. ValueStands (types_of_source c.args.source.now) v) (sym c.deref-in-Complement.ensures) (subst (λ v. ValueStands (types_of_source c.args.source.now) v) c.in-Complement.is c.requires.typed.stands))) c.args.self.now c.value-in-Complement.new.self c.in_ok-value-in-Complement.field-0 c.in_ok-value-in-Complement.ensures.code

pub operation-returns-in_ok-value-in-Complement-clause-code : goal.operation-returns-in_ok-value-in-Complement-clause-code
operation-returns-in_ok-value-in-Complement-clause-code t c =
    subst (λ v. IfOk c.computed-in-Complement.result (TypedLowers c.args.source.now c.args.scope.now c.args.mode v c.args.self.now c.value-in-Complement.new.self)) (sym (ap (value_in (types_of_source c.args.source.now)) c.in-Complement.is ∙ ap (λ v. T.Complement c.in-Complement.int_type (value_in (types_of_source c.args.source.now) v)) (sym c.deref-in-Complement.ensures))) (complement_code c.args.source.now c.args.scope.now c.args.mode c.in-Complement.int_type c.deref-in-Complement.result.now c.args.self.now c.value-in-Complement.new.self c.in_ok-value-in-Complement.field-0 c.integer-operand-in-Complement.result (tree_of c.complement.result) c.computed-in-Complement.result c.in_ok-value-in-Complement.ensures.code c.integer-operand-in-Complement.ensures c.complement.ensures c.computed-in-Complement.ensures)

pub operation-returns-in_ok-value-in-Complement-clause-grows : goal.operation-returns-in_ok-value-in-Complement-clause-grows
operation-returns-in_ok-value-in-Complement-clause-grows t c =
    on_ok c.computed-in-Complement.result c.in_ok-value-in-Complement.ensures.grows

pub operation-returns-in_ok-value-in-Complement-clause-adds : goal.operation-returns-in_ok-value-in-Complement-clause-adds
operation-returns-in_ok-value-in-Complement-clause-adds t c =
    on_ok c.computed-in-Complement.result (subst (λ v. AddsFewer c.args.self.now c.value-in-Complement.new.self (names_for (value_nodes v))) (sym (ap (value_in (types_of_source c.args.source.now)) c.in-Complement.is ∙ ap (λ v. T.Complement c.in-Complement.int_type (value_in (types_of_source c.args.source.now) v)) (sym c.deref-in-Complement.ensures))) (operation_forms_fewer_one c.args.self.now c.value-in-Complement.new.self (value_nodes (value_in (types_of_source c.args.source.now) c.deref-in-Complement.result.now)) c.in_ok-value-in-Complement.ensures.adds))

pub operation-value-requires-in-Not : goal.operation-value-requires-in-Not
operation-value-requires-in-Not t c = (search (rules, value_lemmas), ((c.requires.source), ((c.requires.homes), ((operand_typed c.args.source.now c.args.scope.now is_integer c.deref-in-Not.result.now (not_part c.args.source.now c.args.scope.now c.deref-in-Not.result.now c.requires.typed.c_type (subst (λ v. type_of (context_in c.args.source.now c.args.scope.now) v ≡ Some c.requires.typed.c_type) (ap (value_in (types_of_source c.args.source.now)) c.in-Not.is ∙ ap (λ v. T.Not (value_in (types_of_source c.args.source.now) v)) (sym c.deref-in-Not.ensures)) c.requires.typed.typed) (subst (λ v. ValueStands (types_of_source c.args.source.now) v) (sym c.deref-in-Not.ensures) (subst (λ v. ValueStands (types_of_source c.args.source.now) v) c.in-Not.is c.requires.typed.stands)))), ((lives_kept (scope_of c.args.source.now c.args.scope.now) N.Kept (value_in (types_of_source c.args.source.now) c.deref-in-Not.result.now) refl ((subst (λ v. ValueLives (scope_of c.args.source.now c.args.scope.now) (mode_of c.args.mode) v) (ap (value_in (types_of_source c.args.source.now)) c.in-Not.is ∙ ap (λ v. T.Not (value_in (types_of_source c.args.source.now) v)) (sym c.deref-in-Not.ensures)) c.requires.lives).taken)), (room_part c.args.self.now (value_nodes (value_in (types_of_source c.args.source.now) c.deref-in-Not.result.now)) (subst (λ v. HasRoom c.args.self.now (names_for (value_nodes v))) (ap (value_in (types_of_source c.args.source.now)) c.in-Not.is ∙ ap (λ v. T.Not (value_in (types_of_source c.args.source.now) v)) (sym c.deref-in-Not.ensures)) c.requires.room)))))))

pub operation-integer-operand-requires-in-Not : goal.operation-integer-operand-requires-in-Not
operation-integer-operand-requires-in-Not t c =
    comes_integer c.args.source.now c.args.scope.now c.deref-in-Not.result.now (not_part c.args.source.now c.args.scope.now c.deref-in-Not.result.now c.requires.typed.c_type (subst (λ v. type_of (context_in c.args.source.now c.args.scope.now) v ≡ Some c.requires.typed.c_type) (ap (value_in (types_of_source c.args.source.now)) c.in-Not.is ∙ ap (λ v. T.Not (value_in (types_of_source c.args.source.now) v)) (sym c.deref-in-Not.ensures)) c.requires.typed.typed) (subst (λ v. ValueStands (types_of_source c.args.source.now) v) (sym c.deref-in-Not.ensures) (subst (λ v. ValueStands (types_of_source c.args.source.now) v) c.in-Not.is c.requires.typed.stands))) c.args.self.now c.value-in-Not.new.self c.in_ok-value-in-Not.field-0 c.in_ok-value-in-Not.ensures.code

pub operation-returns-in_ok-value-in-Not-clause-code : goal.operation-returns-in_ok-value-in-Not-clause-code
operation-returns-in_ok-value-in-Not-clause-code t c =
    subst (λ v. IfOk c.computed-in-Not.result (TypedLowers c.args.source.now c.args.scope.now c.args.mode v c.args.self.now c.value-in-Not.new.self)) (sym (ap (value_in (types_of_source c.args.source.now)) c.in-Not.is ∙ ap (λ v. T.Not (value_in (types_of_source c.args.source.now) v)) (sym c.deref-in-Not.ensures))) (not_code c.args.source.now c.args.scope.now c.args.mode c.deref-in-Not.result.now c.args.self.now c.value-in-Not.new.self c.in_ok-value-in-Not.field-0 c.integer-operand-in-Not.result (tree_of c.negated.result) c.computed-in-Not.result c.in_ok-value-in-Not.ensures.code c.integer-operand-in-Not.ensures c.negated.ensures c.computed-in-Not.ensures)

pub operation-returns-in_ok-value-in-Not-clause-grows : goal.operation-returns-in_ok-value-in-Not-clause-grows
operation-returns-in_ok-value-in-Not-clause-grows t c =
    on_ok c.computed-in-Not.result c.in_ok-value-in-Not.ensures.grows

pub operation-returns-in_ok-value-in-Not-clause-adds : goal.operation-returns-in_ok-value-in-Not-clause-adds
operation-returns-in_ok-value-in-Not-clause-adds t c =
    on_ok c.computed-in-Not.result (subst (λ v. AddsFewer c.args.self.now c.value-in-Not.new.self (names_for (value_nodes v))) (sym (ap (value_in (types_of_source c.args.source.now)) c.in-Not.is ∙ ap (λ v. T.Not (value_in (types_of_source c.args.source.now) v)) (sym c.deref-in-Not.ensures))) (operation_forms_fewer_one c.args.self.now c.value-in-Not.new.self (value_nodes (value_in (types_of_source c.args.source.now) c.deref-in-Not.result.now)) c.in_ok-value-in-Not.ensures.adds))

pub operation-value-requires-in-Arithmetic : goal.operation-value-requires-in-Arithmetic
operation-value-requires-in-Arithmetic t c = (search (rules, value_lemmas), ((c.requires.source), ((c.requires.homes), ((operand_typed c.args.source.now c.args.scope.now is_integer c.deref-in-Arithmetic.result.now (arithmetic_left c.args.source.now c.args.scope.now c.in-Arithmetic.op c.in-Arithmetic.place c.in-Arithmetic.int_type c.deref-in-Arithmetic.result.now c.in-Arithmetic.right.value c.requires.typed.c_type (subst (λ v. type_of (context_in c.args.source.now c.args.scope.now) v ≡ Some c.requires.typed.c_type) (ap (value_in (types_of_source c.args.source.now)) c.in-Arithmetic.is ∙ (λ i. T.Arithmetic c.in-Arithmetic.op c.in-Arithmetic.place c.in-Arithmetic.int_type (value_in (types_of_source c.args.source.now) (sym c.deref-in-Arithmetic.ensures i)) (value_in (types_of_source c.args.source.now) c.in-Arithmetic.right.value))) c.requires.typed.typed) (subst (λ v. ValueStands (types_of_source c.args.source.now) v) (sym c.deref-in-Arithmetic.ensures) (subst (λ v. ValueStands (types_of_source c.args.source.now) v) c.in-Arithmetic.is c.requires.typed.stands).0))), ((lives_kept (scope_of c.args.source.now c.args.scope.now) N.Kept (value_in (types_of_source c.args.source.now) c.deref-in-Arithmetic.result.now) refl (operation_forms_lie_left (scope_of c.args.source.now c.args.scope.now) (λ number. takes false number (value_in (types_of_source c.args.source.now) c.deref-in-Arithmetic.result.now)) (λ number. takes false number (value_in (types_of_source c.args.source.now) c.in-Arithmetic.right.value)) (subst (λ v. ValueLives (scope_of c.args.source.now c.args.scope.now) (mode_of c.args.mode) v) (ap (value_in (types_of_source c.args.source.now)) c.in-Arithmetic.is ∙ (λ i. T.Arithmetic c.in-Arithmetic.op c.in-Arithmetic.place c.in-Arithmetic.int_type (value_in (types_of_source c.args.source.now) (sym c.deref-in-Arithmetic.ensures i)) (value_in (types_of_source c.args.source.now) c.in-Arithmetic.right.value))) c.requires.lives).taken)), (operation_forms_room_first c.args.self.now (value_nodes (value_in (types_of_source c.args.source.now) c.deref-in-Arithmetic.result.now)) (value_nodes (value_in (types_of_source c.args.source.now) c.in-Arithmetic.right.value)) (subst (λ v. HasRoom c.args.self.now (names_for (value_nodes v))) (ap (value_in (types_of_source c.args.source.now)) c.in-Arithmetic.is ∙ (λ i. T.Arithmetic c.in-Arithmetic.op c.in-Arithmetic.place c.in-Arithmetic.int_type (value_in (types_of_source c.args.source.now) (sym c.deref-in-Arithmetic.ensures i)) (value_in (types_of_source c.args.source.now) c.in-Arithmetic.right.value))) c.requires.room)))))))

pub operation-left_operand-requires-clause-integer : goal.operation-left_operand-requires-clause-integer
operation-left_operand-requires-clause-integer t c =
    comes_integer c.args.source.now c.args.scope.now c.deref-in-Arithmetic.result.now (arithmetic_left c.args.source.now c.args.scope.now c.in-Arithmetic.op c.in-Arithmetic.place c.in-Arithmetic.int_type c.deref-in-Arithmetic.result.now c.in-Arithmetic.right.value c.requires.typed.c_type (subst (λ v. type_of (context_in c.args.source.now c.args.scope.now) v ≡ Some c.requires.typed.c_type) (ap (value_in (types_of_source c.args.source.now)) c.in-Arithmetic.is ∙ (λ i. T.Arithmetic c.in-Arithmetic.op c.in-Arithmetic.place c.in-Arithmetic.int_type (value_in (types_of_source c.args.source.now) (sym c.deref-in-Arithmetic.ensures i)) (value_in (types_of_source c.args.source.now) c.in-Arithmetic.right.value))) c.requires.typed.typed) (subst (λ v. ValueStands (types_of_source c.args.source.now) v) (sym c.deref-in-Arithmetic.ensures) (subst (λ v. ValueStands (types_of_source c.args.source.now) v) c.in-Arithmetic.is c.requires.typed.stands).0)) c.args.self.now c.value-in-Arithmetic.new.self c.in_ok-left-in-Arithmetic.left c.in_ok-left-in-Arithmetic.ensures.code

pub operation-left_operand-requires-clause-homes : goal.operation-left_operand-requires-clause-homes
operation-left_operand-requires-clause-homes t c =
    subst (λ t. HomesStand t c.args.scope.now) (sym c.types.ensures) c.requires.homes.stand

pub operation-left_operand-requires-clause-room : goal.operation-left_operand-requires-clause-room
operation-left_operand-requires-clause-room t c =
    operation_forms_room_keep c.args.self.now c.value-in-Arithmetic.new.self (value_nodes (value_in (types_of_source c.args.source.now) c.deref-in-Arithmetic.result.now)) (value_nodes (value_in (types_of_source c.args.source.now) c.in-Arithmetic.right.value)) (subst (λ v. HasRoom c.args.self.now (names_for (value_nodes v))) (ap (value_in (types_of_source c.args.source.now)) c.in-Arithmetic.is ∙ (λ i. T.Arithmetic c.in-Arithmetic.op c.in-Arithmetic.place c.in-Arithmetic.int_type (value_in (types_of_source c.args.source.now) (sym c.deref-in-Arithmetic.ensures i)) (value_in (types_of_source c.args.source.now) c.in-Arithmetic.right.value))) c.requires.room) c.in_ok-left-in-Arithmetic.ensures.adds

pub operation-value-requires-in-Arithmetic-2 : goal.operation-value-requires-in-Arithmetic-2
operation-value-requires-in-Arithmetic-2 t c = (search (rules, value_lemmas), ((c.requires.source), ((c.requires.homes), ((operand_typed c.args.source.now c.args.scope.now is_integer c.deref-in-Arithmetic-3.result.now (arithmetic_right c.args.source.now c.args.scope.now c.in-Arithmetic.op c.in-Arithmetic.place c.in-Arithmetic.int_type c.deref-in-Arithmetic.result.now c.deref-in-Arithmetic-3.result.now c.requires.typed.c_type (subst (λ v. type_of (context_in c.args.source.now c.args.scope.now) v ≡ Some c.requires.typed.c_type) (ap (value_in (types_of_source c.args.source.now)) c.in-Arithmetic.is ∙ (λ i. T.Arithmetic c.in-Arithmetic.op c.in-Arithmetic.place c.in-Arithmetic.int_type (value_in (types_of_source c.args.source.now) (sym c.deref-in-Arithmetic.ensures i)) (value_in (types_of_source c.args.source.now) (sym c.deref-in-Arithmetic-3.ensures i)))) c.requires.typed.typed) (subst (λ v. ValueStands (types_of_source c.args.source.now) v) (sym c.deref-in-Arithmetic-3.ensures) (subst (λ v. ValueStands (types_of_source c.args.source.now) v) c.in-Arithmetic.is c.requires.typed.stands).1))), ((lives_kept (scope_of c.args.source.now c.args.scope.now) N.Kept (value_in (types_of_source c.args.source.now) c.deref-in-Arithmetic-3.result.now) refl (operation_forms_lie_right (scope_of c.args.source.now c.args.scope.now) (λ number. takes false number (value_in (types_of_source c.args.source.now) c.deref-in-Arithmetic.result.now)) (λ number. takes false number (value_in (types_of_source c.args.source.now) c.deref-in-Arithmetic-3.result.now)) (subst (λ v. ValueLives (scope_of c.args.source.now c.args.scope.now) (mode_of c.args.mode) v) (ap (value_in (types_of_source c.args.source.now)) c.in-Arithmetic.is ∙ (λ i. T.Arithmetic c.in-Arithmetic.op c.in-Arithmetic.place c.in-Arithmetic.int_type (value_in (types_of_source c.args.source.now) (sym c.deref-in-Arithmetic.ensures i)) (value_in (types_of_source c.args.source.now) (sym c.deref-in-Arithmetic-3.ensures i)))) c.requires.lives).taken)), (operation_forms_room_kept c.args.self.now c.value-in-Arithmetic.new.self c.left_operand.new.self (value_nodes (value_in (types_of_source c.args.source.now) c.deref-in-Arithmetic.result.now)) (value_nodes (value_in (types_of_source c.args.source.now) c.deref-in-Arithmetic-3.result.now)) (subst (λ v. HasRoom c.args.self.now (names_for (value_nodes v))) (ap (value_in (types_of_source c.args.source.now)) c.in-Arithmetic.is ∙ (λ i. T.Arithmetic c.in-Arithmetic.op c.in-Arithmetic.place c.in-Arithmetic.int_type (value_in (types_of_source c.args.source.now) (sym c.deref-in-Arithmetic.ensures i)) (value_in (types_of_source c.args.source.now) (sym c.deref-in-Arithmetic-3.ensures i)))) c.requires.room) c.in_ok-left-in-Arithmetic.ensures.adds c.in_ok-left-in-Arithmetic-2.ensures.adds))))))

pub operation-integer-right-requires : goal.operation-integer-right-requires
operation-integer-right-requires t c =
    comes_integer c.args.source.now c.args.scope.now c.deref-in-Arithmetic-3.result.now (arithmetic_right c.args.source.now c.args.scope.now c.in-Arithmetic.op c.in-Arithmetic.place c.in-Arithmetic.int_type c.deref-in-Arithmetic.result.now c.deref-in-Arithmetic-3.result.now c.requires.typed.c_type (subst (λ v. type_of (context_in c.args.source.now c.args.scope.now) v ≡ Some c.requires.typed.c_type) (ap (value_in (types_of_source c.args.source.now)) c.in-Arithmetic.is ∙ (λ i. T.Arithmetic c.in-Arithmetic.op c.in-Arithmetic.place c.in-Arithmetic.int_type (value_in (types_of_source c.args.source.now) (sym c.deref-in-Arithmetic.ensures i)) (value_in (types_of_source c.args.source.now) (sym c.deref-in-Arithmetic-3.ensures i)))) c.requires.typed.typed) (subst (λ v. ValueStands (types_of_source c.args.source.now) v) (sym c.deref-in-Arithmetic-3.ensures) (subst (λ v. ValueStands (types_of_source c.args.source.now) v) c.in-Arithmetic.is c.requires.typed.stands).1)) c.left_operand.new.self c.value-in-Arithmetic-2.new.self c.in_ok-value-in-Arithmetic.field-0 c.in_ok-value-in-Arithmetic.ensures.code

pub operation-returns-in_ok-value-in-Arithmetic-clause-code : goal.operation-returns-in_ok-value-in-Arithmetic-clause-code
operation-returns-in_ok-value-in-Arithmetic-clause-code t c =
    subst (λ v. IfOk c.computed-in-Arithmetic.result (TypedLowers c.args.source.now c.args.scope.now c.args.mode v c.args.self.now c.value-in-Arithmetic-2.new.self)) (sym (ap (value_in (types_of_source c.args.source.now)) c.in-Arithmetic.is ∙ (λ i. T.Arithmetic c.in-Arithmetic.op c.in-Arithmetic.place c.in-Arithmetic.int_type (value_in (types_of_source c.args.source.now) (sym c.deref-in-Arithmetic.ensures i)) (value_in (types_of_source c.args.source.now) (sym c.deref-in-Arithmetic-3.ensures i))))) (arithmetic_code c.args.source.now c.args.scope.now c.args.mode c.in-Arithmetic.op c.in-Arithmetic.place c.in-Arithmetic.int_type c.deref-in-Arithmetic.result.now c.deref-in-Arithmetic-3.result.now c.args.self.now c.value-in-Arithmetic.new.self c.left_operand.new.self c.value-in-Arithmetic-2.new.self c.types.result.now c.in_ok-left-in-Arithmetic.left c.in_ok-value-in-Arithmetic.field-0 c.in_ok-left-in-Arithmetic-2.left c.integer-right.result (tree_of c.arithmetic-tree.result) c.computed-in-Arithmetic.result c.in_ok-left-in-Arithmetic.ensures.code c.types.ensures (subst (λ v. LeftKept c.args.source.now c.args.scope.now c.types.result.now v c.in_ok-left-in-Arithmetic.left c.in_ok-left-in-Arithmetic-2.left c.value-in-Arithmetic.new.self c.left_operand.new.self) (c.deref-in-Arithmetic-2.ensures ∙ sym c.deref-in-Arithmetic-3.ensures) c.in_ok-left-in-Arithmetic-2.ensures.code) c.in_ok-left-in-Arithmetic-2.ensures.grows c.in_ok-value-in-Arithmetic.ensures.code c.in_ok-value-in-Arithmetic.ensures.grows c.integer-right.ensures c.arithmetic-tree.ensures c.computed-in-Arithmetic.ensures)

pub operation-returns-in_ok-value-in-Arithmetic-clause-grows : goal.operation-returns-in_ok-value-in-Arithmetic-clause-grows
operation-returns-in_ok-value-in-Arithmetic-clause-grows t c =
    on_ok c.computed-in-Arithmetic.result (grows_on c.args.self.now c.value-in-Arithmetic.new.self c.value-in-Arithmetic-2.new.self c.in_ok-left-in-Arithmetic.ensures.grows (grows_on c.value-in-Arithmetic.new.self c.left_operand.new.self c.value-in-Arithmetic-2.new.self c.in_ok-left-in-Arithmetic-2.ensures.grows c.in_ok-value-in-Arithmetic.ensures.grows))

pub operation-returns-in_ok-value-in-Arithmetic-clause-adds : goal.operation-returns-in_ok-value-in-Arithmetic-clause-adds
operation-returns-in_ok-value-in-Arithmetic-clause-adds t c =
    on_ok c.computed-in-Arithmetic.result (subst (λ v. AddsFewer c.args.self.now c.value-in-Arithmetic-2.new.self (names_for (value_nodes v))) (sym (ap (value_in (types_of_source c.args.source.now)) c.in-Arithmetic.is ∙ (λ i. T.Arithmetic c.in-Arithmetic.op c.in-Arithmetic.place c.in-Arithmetic.int_type (value_in (types_of_source c.args.source.now) (sym c.deref-in-Arithmetic.ensures i)) (value_in (types_of_source c.args.source.now) (sym c.deref-in-Arithmetic-3.ensures i))))) (operation_forms_fewer_two c.args.self.now c.value-in-Arithmetic.new.self c.left_operand.new.self c.value-in-Arithmetic-2.new.self (value_nodes (value_in (types_of_source c.args.source.now) c.deref-in-Arithmetic.result.now)) (value_nodes (value_in (types_of_source c.args.source.now) c.deref-in-Arithmetic-3.result.now)) c.in_ok-left-in-Arithmetic.ensures.adds c.in_ok-left-in-Arithmetic-2.ensures.adds c.in_ok-value-in-Arithmetic.ensures.adds))

pub operation-value-requires-in-Compare : goal.operation-value-requires-in-Compare
operation-value-requires-in-Compare t c = (search (rules, value_lemmas), ((c.requires.source), ((c.requires.homes), ((operand_typed c.args.source.now c.args.scope.now is_integer c.deref-in-Compare.result.now (compare_left c.args.source.now c.args.scope.now c.in-Compare.relation c.deref-in-Compare.result.now c.in-Compare.right.value c.requires.typed.c_type (subst (λ v. type_of (context_in c.args.source.now c.args.scope.now) v ≡ Some c.requires.typed.c_type) (ap (value_in (types_of_source c.args.source.now)) c.in-Compare.is ∙ (λ i. T.Compare c.in-Compare.relation (value_in (types_of_source c.args.source.now) (sym c.deref-in-Compare.ensures i)) (value_in (types_of_source c.args.source.now) c.in-Compare.right.value))) c.requires.typed.typed) (subst (λ v. ValueStands (types_of_source c.args.source.now) v) (sym c.deref-in-Compare.ensures) (subst (λ v. ValueStands (types_of_source c.args.source.now) v) c.in-Compare.is c.requires.typed.stands).0))), ((lives_kept (scope_of c.args.source.now c.args.scope.now) N.Kept (value_in (types_of_source c.args.source.now) c.deref-in-Compare.result.now) refl (operation_forms_lie_left (scope_of c.args.source.now c.args.scope.now) (λ number. takes false number (value_in (types_of_source c.args.source.now) c.deref-in-Compare.result.now)) (λ number. takes false number (value_in (types_of_source c.args.source.now) c.in-Compare.right.value)) (subst (λ v. ValueLives (scope_of c.args.source.now c.args.scope.now) (mode_of c.args.mode) v) (ap (value_in (types_of_source c.args.source.now)) c.in-Compare.is ∙ (λ i. T.Compare c.in-Compare.relation (value_in (types_of_source c.args.source.now) (sym c.deref-in-Compare.ensures i)) (value_in (types_of_source c.args.source.now) c.in-Compare.right.value))) c.requires.lives).taken)), (operation_forms_room_first c.args.self.now (value_nodes (value_in (types_of_source c.args.source.now) c.deref-in-Compare.result.now)) (value_nodes (value_in (types_of_source c.args.source.now) c.in-Compare.right.value)) (subst (λ v. HasRoom c.args.self.now (names_for (value_nodes v))) (ap (value_in (types_of_source c.args.source.now)) c.in-Compare.is ∙ (λ i. T.Compare c.in-Compare.relation (value_in (types_of_source c.args.source.now) (sym c.deref-in-Compare.ensures i)) (value_in (types_of_source c.args.source.now) c.in-Compare.right.value))) c.requires.room)))))))

pub operation-left_operand-requires-in-Compare-clause-integer : goal.operation-left_operand-requires-in-Compare-clause-integer
operation-left_operand-requires-in-Compare-clause-integer t c =
    comes_integer c.args.source.now c.args.scope.now c.deref-in-Compare.result.now (compare_left c.args.source.now c.args.scope.now c.in-Compare.relation c.deref-in-Compare.result.now c.in-Compare.right.value c.requires.typed.c_type (subst (λ v. type_of (context_in c.args.source.now c.args.scope.now) v ≡ Some c.requires.typed.c_type) (ap (value_in (types_of_source c.args.source.now)) c.in-Compare.is ∙ (λ i. T.Compare c.in-Compare.relation (value_in (types_of_source c.args.source.now) (sym c.deref-in-Compare.ensures i)) (value_in (types_of_source c.args.source.now) c.in-Compare.right.value))) c.requires.typed.typed) (subst (λ v. ValueStands (types_of_source c.args.source.now) v) (sym c.deref-in-Compare.ensures) (subst (λ v. ValueStands (types_of_source c.args.source.now) v) c.in-Compare.is c.requires.typed.stands).0)) c.args.self.now c.value-in-Compare.new.self c.in_ok-left-in-Compare.left c.in_ok-left-in-Compare.ensures.code

pub operation-left_operand-requires-in-Compare-clause-homes : goal.operation-left_operand-requires-in-Compare-clause-homes
operation-left_operand-requires-in-Compare-clause-homes t c =
    subst (λ t. HomesStand t c.args.scope.now) (sym c.types-in-Compare.ensures) c.requires.homes.stand

pub operation-left_operand-requires-in-Compare-clause-room : goal.operation-left_operand-requires-in-Compare-clause-room
operation-left_operand-requires-in-Compare-clause-room t c =
    operation_forms_room_keep c.args.self.now c.value-in-Compare.new.self (value_nodes (value_in (types_of_source c.args.source.now) c.deref-in-Compare.result.now)) (value_nodes (value_in (types_of_source c.args.source.now) c.in-Compare.right.value)) (subst (λ v. HasRoom c.args.self.now (names_for (value_nodes v))) (ap (value_in (types_of_source c.args.source.now)) c.in-Compare.is ∙ (λ i. T.Compare c.in-Compare.relation (value_in (types_of_source c.args.source.now) (sym c.deref-in-Compare.ensures i)) (value_in (types_of_source c.args.source.now) c.in-Compare.right.value))) c.requires.room) c.in_ok-left-in-Compare.ensures.adds

pub operation-value-requires-in-Compare-2 : goal.operation-value-requires-in-Compare-2
operation-value-requires-in-Compare-2 t c = (search (rules, value_lemmas), ((c.requires.source), ((c.requires.homes), ((operand_typed c.args.source.now c.args.scope.now is_integer c.deref-in-Compare-3.result.now (compare_right c.args.source.now c.args.scope.now c.in-Compare.relation c.deref-in-Compare.result.now c.deref-in-Compare-3.result.now c.requires.typed.c_type (subst (λ v. type_of (context_in c.args.source.now c.args.scope.now) v ≡ Some c.requires.typed.c_type) (ap (value_in (types_of_source c.args.source.now)) c.in-Compare.is ∙ (λ i. T.Compare c.in-Compare.relation (value_in (types_of_source c.args.source.now) (sym c.deref-in-Compare.ensures i)) (value_in (types_of_source c.args.source.now) (sym c.deref-in-Compare-3.ensures i)))) c.requires.typed.typed) (subst (λ v. ValueStands (types_of_source c.args.source.now) v) (sym c.deref-in-Compare-3.ensures) (subst (λ v. ValueStands (types_of_source c.args.source.now) v) c.in-Compare.is c.requires.typed.stands).1))), ((lives_kept (scope_of c.args.source.now c.args.scope.now) N.Kept (value_in (types_of_source c.args.source.now) c.deref-in-Compare-3.result.now) refl (operation_forms_lie_right (scope_of c.args.source.now c.args.scope.now) (λ number. takes false number (value_in (types_of_source c.args.source.now) c.deref-in-Compare.result.now)) (λ number. takes false number (value_in (types_of_source c.args.source.now) c.deref-in-Compare-3.result.now)) (subst (λ v. ValueLives (scope_of c.args.source.now c.args.scope.now) (mode_of c.args.mode) v) (ap (value_in (types_of_source c.args.source.now)) c.in-Compare.is ∙ (λ i. T.Compare c.in-Compare.relation (value_in (types_of_source c.args.source.now) (sym c.deref-in-Compare.ensures i)) (value_in (types_of_source c.args.source.now) (sym c.deref-in-Compare-3.ensures i)))) c.requires.lives).taken)), (operation_forms_room_kept c.args.self.now c.value-in-Compare.new.self c.left_operand-in-Compare.new.self (value_nodes (value_in (types_of_source c.args.source.now) c.deref-in-Compare.result.now)) (value_nodes (value_in (types_of_source c.args.source.now) c.deref-in-Compare-3.result.now)) (subst (λ v. HasRoom c.args.self.now (names_for (value_nodes v))) (ap (value_in (types_of_source c.args.source.now)) c.in-Compare.is ∙ (λ i. T.Compare c.in-Compare.relation (value_in (types_of_source c.args.source.now) (sym c.deref-in-Compare.ensures i)) (value_in (types_of_source c.args.source.now) (sym c.deref-in-Compare-3.ensures i)))) c.requires.room) c.in_ok-left-in-Compare.ensures.adds c.in_ok-left-in-Compare-2.ensures.adds))))))

pub operation-integer-right-requires-in-Compare : goal.operation-integer-right-requires-in-Compare
operation-integer-right-requires-in-Compare t c =
    comes_integer c.args.source.now c.args.scope.now c.deref-in-Compare-3.result.now (compare_right c.args.source.now c.args.scope.now c.in-Compare.relation c.deref-in-Compare.result.now c.deref-in-Compare-3.result.now c.requires.typed.c_type (subst (λ v. type_of (context_in c.args.source.now c.args.scope.now) v ≡ Some c.requires.typed.c_type) (ap (value_in (types_of_source c.args.source.now)) c.in-Compare.is ∙ (λ i. T.Compare c.in-Compare.relation (value_in (types_of_source c.args.source.now) (sym c.deref-in-Compare.ensures i)) (value_in (types_of_source c.args.source.now) (sym c.deref-in-Compare-3.ensures i)))) c.requires.typed.typed) (subst (λ v. ValueStands (types_of_source c.args.source.now) v) (sym c.deref-in-Compare-3.ensures) (subst (λ v. ValueStands (types_of_source c.args.source.now) v) c.in-Compare.is c.requires.typed.stands).1)) c.left_operand-in-Compare.new.self c.value-in-Compare-2.new.self c.in_ok-value-in-Compare.field-0 c.in_ok-value-in-Compare.ensures.code

pub operation-returns-in_ok-value-in-Compare-clause-code : goal.operation-returns-in_ok-value-in-Compare-clause-code
operation-returns-in_ok-value-in-Compare-clause-code t c =
    subst (λ v. IfOk c.computed-in-Compare.result (TypedLowers c.args.source.now c.args.scope.now c.args.mode v c.args.self.now c.value-in-Compare-2.new.self)) (sym (ap (value_in (types_of_source c.args.source.now)) c.in-Compare.is ∙ (λ i. T.Compare c.in-Compare.relation (value_in (types_of_source c.args.source.now) (sym c.deref-in-Compare.ensures i)) (value_in (types_of_source c.args.source.now) (sym c.deref-in-Compare-3.ensures i))))) (compare_code c.args.source.now c.args.scope.now c.args.mode c.in-Compare.relation c.deref-in-Compare.result.now c.deref-in-Compare-3.result.now c.args.self.now c.value-in-Compare.new.self c.left_operand-in-Compare.new.self c.value-in-Compare-2.new.self c.types-in-Compare.result.now c.in_ok-left-in-Compare.left c.in_ok-value-in-Compare.field-0 c.in_ok-left-in-Compare-2.left c.integer-right-in-Compare.result (tree_of c.comparison-tree.result) c.computed-in-Compare.result c.in_ok-left-in-Compare.ensures.code c.types-in-Compare.ensures (subst (λ v. LeftKept c.args.source.now c.args.scope.now c.types-in-Compare.result.now v c.in_ok-left-in-Compare.left c.in_ok-left-in-Compare-2.left c.value-in-Compare.new.self c.left_operand-in-Compare.new.self) (c.deref-in-Compare-2.ensures ∙ sym c.deref-in-Compare-3.ensures) c.in_ok-left-in-Compare-2.ensures.code) c.in_ok-left-in-Compare-2.ensures.grows c.in_ok-value-in-Compare.ensures.code c.in_ok-value-in-Compare.ensures.grows c.integer-right-in-Compare.ensures c.comparison-tree.ensures c.computed-in-Compare.ensures)

pub operation-returns-in_ok-value-in-Compare-clause-grows : goal.operation-returns-in_ok-value-in-Compare-clause-grows
operation-returns-in_ok-value-in-Compare-clause-grows t c =
    on_ok c.computed-in-Compare.result (grows_on c.args.self.now c.value-in-Compare.new.self c.value-in-Compare-2.new.self c.in_ok-left-in-Compare.ensures.grows (grows_on c.value-in-Compare.new.self c.left_operand-in-Compare.new.self c.value-in-Compare-2.new.self c.in_ok-left-in-Compare-2.ensures.grows c.in_ok-value-in-Compare.ensures.grows))

pub operation-returns-in_ok-value-in-Compare-clause-adds : goal.operation-returns-in_ok-value-in-Compare-clause-adds
operation-returns-in_ok-value-in-Compare-clause-adds t c =
    on_ok c.computed-in-Compare.result (subst (λ v. AddsFewer c.args.self.now c.value-in-Compare-2.new.self (names_for (value_nodes v))) (sym (ap (value_in (types_of_source c.args.source.now)) c.in-Compare.is ∙ (λ i. T.Compare c.in-Compare.relation (value_in (types_of_source c.args.source.now) (sym c.deref-in-Compare.ensures i)) (value_in (types_of_source c.args.source.now) (sym c.deref-in-Compare-3.ensures i))))) (operation_forms_fewer_two c.args.self.now c.value-in-Compare.new.self c.left_operand-in-Compare.new.self c.value-in-Compare-2.new.self (value_nodes (value_in (types_of_source c.args.source.now) c.deref-in-Compare.result.now)) (value_nodes (value_in (types_of_source c.args.source.now) c.deref-in-Compare-3.result.now)) c.in_ok-left-in-Compare.ensures.adds c.in_ok-left-in-Compare-2.ensures.adds c.in_ok-value-in-Compare.ensures.adds))

pub operation-pointer_operation-requires : goal.operation-pointer_operation-requires
operation-pointer_operation-requires t c = (search (rules, value_lemmas), ((c.requires.source), ((c.requires.homes), ((c.requires.typed), ((c.requires.lives), ((is_pointer_operation c.args.value.now c.requires.kind c.in_default.not-Constant c.in_default.not-Converted c.in_default.not-Plus c.in_default.not-Minus c.in_default.not-Complement c.in_default.not-Not c.in_default.not-Arithmetic c.in_default.not-Compare), (c.requires.room)))))))

pub operation-returns-in_default : goal.operation-returns-in_default
operation-returns-in_default t c =
    c.pointer_operation.ensures

pub pointer_operation-null-requires : goal.pointer_operation-null-requires
pointer_operation-null-requires t c =
    record { room = operation_forms_room_one c.args.self.now (subst (λ v. HasRoom c.args.self.now (names_for (value_nodes v))) (ap (value_in (types_of_source c.args.source.now)) c.in-NullPointer.is) c.requires.room) }

pub pointer_operation-returns-in-NullPointer-clause-code : goal.pointer_operation-returns-in-NullPointer-clause-code
pointer_operation-returns-in-NullPointer-clause-code t c =
    subst (λ v. IfOk c.null.result (TypedLowers c.args.source.now c.args.scope.now c.args.mode v c.args.self.now c.null.new.self)) (sym (ap (value_in (types_of_source c.args.source.now)) c.in-NullPointer.is)) (null_code c.args.source.now c.args.scope.now c.args.mode _ c.args.self.now c.null.new.self c.null.result c.null.ensures.code refl)

pub pointer_operation-returns-in-NullPointer-clause-grows : goal.pointer_operation-returns-in-NullPointer-clause-grows
pointer_operation-returns-in-NullPointer-clause-grows t c =
    c.null.ensures.grows

pub pointer_operation-returns-in-NullPointer-clause-adds : goal.pointer_operation-returns-in-NullPointer-clause-adds
pointer_operation-returns-in-NullPointer-clause-adds t c =
    on_ok_then c.null.result (λ adds. subst (λ v. AddsFewer c.args.self.now c.null.new.self (names_for (value_nodes v))) (sym (ap (value_in (types_of_source c.args.source.now)) c.in-NullPointer.is)) (fewer_point c.args.self.now c.null.new.self adds)) c.null.ensures.adds

pub pointer_operation-value-requires : goal.pointer_operation-value-requires
pointer_operation-value-requires t c = (search (rules, value_lemmas), ((c.requires.source), ((c.requires.homes), ((operand_typed c.args.source.now c.args.scope.now is_pointer c.deref.result.now (repointed_part c.args.source.now c.args.scope.now c.in-Repointed.place (type_in (types_of_source c.args.source.now) c.in-Repointed.target) c.deref.result.now c.requires.typed.c_type (subst (λ v. type_of (context_in c.args.source.now c.args.scope.now) v ≡ Some c.requires.typed.c_type) (ap (value_in (types_of_source c.args.source.now)) c.in-Repointed.is ∙ ap (λ v. T.Repointed c.in-Repointed.place (type_in (types_of_source c.args.source.now) c.in-Repointed.target) (value_in (types_of_source c.args.source.now) v)) (sym c.deref.ensures)) c.requires.typed.typed) (subst (λ v. ValueStands (types_of_source c.args.source.now) v) (sym c.deref.ensures) (subst (λ v. ValueStands (types_of_source c.args.source.now) v) c.in-Repointed.is c.requires.typed.stands).1))), ((lives_kept (scope_of c.args.source.now c.args.scope.now) N.Kept (value_in (types_of_source c.args.source.now) c.deref.result.now) refl ((subst (λ v. ValueLives (scope_of c.args.source.now c.args.scope.now) (mode_of c.args.mode) v) (ap (value_in (types_of_source c.args.source.now)) c.in-Repointed.is ∙ ap (λ v. T.Repointed c.in-Repointed.place (type_in (types_of_source c.args.source.now) c.in-Repointed.target) (value_in (types_of_source c.args.source.now) v)) (sym c.deref.ensures)) c.requires.lives).taken)), (room_part c.args.self.now (value_nodes (value_in (types_of_source c.args.source.now) c.deref.result.now)) (subst (λ v. HasRoom c.args.self.now (names_for (value_nodes v))) (ap (value_in (types_of_source c.args.source.now)) c.in-Repointed.is ∙ ap (λ v. T.Repointed c.in-Repointed.place (type_in (types_of_source c.args.source.now) c.in-Repointed.target) (value_in (types_of_source c.args.source.now) v)) (sym c.deref.ensures)) c.requires.room)))))))

pub pointer_operation-pointer-from-requires : goal.pointer_operation-pointer-from-requires
pointer_operation-pointer-from-requires t c =
    comes_pointer c.args.source.now c.args.scope.now c.deref.result.now (repointed_part c.args.source.now c.args.scope.now c.in-Repointed.place (type_in (types_of_source c.args.source.now) c.in-Repointed.target) c.deref.result.now c.requires.typed.c_type (subst (λ v. type_of (context_in c.args.source.now c.args.scope.now) v ≡ Some c.requires.typed.c_type) (ap (value_in (types_of_source c.args.source.now)) c.in-Repointed.is ∙ ap (λ v. T.Repointed c.in-Repointed.place (type_in (types_of_source c.args.source.now) c.in-Repointed.target) (value_in (types_of_source c.args.source.now) v)) (sym c.deref.ensures)) c.requires.typed.typed) (subst (λ v. ValueStands (types_of_source c.args.source.now) v) (sym c.deref.ensures) (subst (λ v. ValueStands (types_of_source c.args.source.now) v) c.in-Repointed.is c.requires.typed.stands).1)) c.args.self.now c.value.new.self c.in_ok-value-in-Repointed.field-0 c.in_ok-value-in-Repointed.ensures.code

pub pointer_operation-repoint-requires : goal.pointer_operation-repoint-requires
pointer_operation-repoint-requires t c =
    record { room = room_after c.args.self.now c.value.new.self (value_nodes (value_in (types_of_source c.args.source.now) c.deref.result.now)) (subst (λ v. HasRoom c.args.self.now (names_for (value_nodes v))) (ap (value_in (types_of_source c.args.source.now)) c.in-Repointed.is ∙ ap (λ v. T.Repointed c.in-Repointed.place (type_in (types_of_source c.args.source.now) c.in-Repointed.target) (value_in (types_of_source c.args.source.now) v)) (sym c.deref.ensures)) c.requires.room) c.in_ok-value-in-Repointed.ensures.adds }

pub pointer_operation-returns-in_ok-value-in-Repointed-clause-code : goal.pointer_operation-returns-in_ok-value-in-Repointed-clause-code
pointer_operation-returns-in_ok-value-in-Repointed-clause-code t c =
    subst (λ v. IfOk c.repoint.result (TypedLowers c.args.source.now c.args.scope.now c.args.mode v c.args.self.now c.repoint.new.self)) (sym (ap (value_in (types_of_source c.args.source.now)) c.in-Repointed.is ∙ ap (λ v. T.Repointed c.in-Repointed.place (type_in (types_of_source c.args.source.now) c.in-Repointed.target) (value_in (types_of_source c.args.source.now) v)) (sym c.deref.ensures))) (repointed_code c.args.source.now c.args.scope.now c.args.mode c.in-Repointed.place c.in-Repointed.target c.deref.result.now c.args.self.now c.value.new.self c.repoint.new.self c.in_ok-value-in-Repointed.field-0 c.pointer-from.result c.repoint.result (subst (λ v. ValueStands (types_of_source c.args.source.now) v) c.in-Repointed.is c.requires.typed.stands).0 c.in_ok-value-in-Repointed.ensures.code c.pointer-from.ensures c.repoint.ensures.code c.repoint.ensures.grows)

pub pointer_operation-returns-in_ok-value-in-Repointed-clause-grows : goal.pointer_operation-returns-in_ok-value-in-Repointed-clause-grows
pointer_operation-returns-in_ok-value-in-Repointed-clause-grows t c =
    on_ok_then c.repoint.result (λ grows. grows_on c.args.self.now c.value.new.self c.repoint.new.self c.in_ok-value-in-Repointed.ensures.grows grows) c.repoint.ensures.grows

pub pointer_operation-returns-in_ok-value-in-Repointed-clause-adds : goal.pointer_operation-returns-in_ok-value-in-Repointed-clause-adds
pointer_operation-returns-in_ok-value-in-Repointed-clause-adds t c =
    on_ok_then c.repoint.result (λ adds. subst (λ v. AddsFewer c.args.self.now c.repoint.new.self (names_for (value_nodes v))) (sym (ap (value_in (types_of_source c.args.source.now)) c.in-Repointed.is ∙ ap (λ v. T.Repointed c.in-Repointed.place (type_in (types_of_source c.args.source.now) c.in-Repointed.target) (value_in (types_of_source c.args.source.now) v)) (sym c.deref.ensures))) (fewer_after c.args.self.now c.value.new.self c.repoint.new.self (value_nodes (value_in (types_of_source c.args.source.now) c.deref.result.now)) c.in_ok-value-in-Repointed.ensures.adds adds)) c.repoint.ensures.adds

pub pointer_operation-value-requires-in-MadeNull : goal.pointer_operation-value-requires-in-MadeNull
pointer_operation-value-requires-in-MadeNull t c = (search (rules, value_lemmas), ((c.requires.source), ((c.requires.homes), ((made_null_part c.args.source.now c.args.scope.now (type_in (types_of_source c.args.source.now) c.in-MadeNull.target) c.deref-in-MadeNull.result.now c.requires.typed.c_type (subst (λ v. type_of (context_in c.args.source.now c.args.scope.now) v ≡ Some c.requires.typed.c_type) (ap (value_in (types_of_source c.args.source.now)) c.in-MadeNull.is ∙ ap (λ v. T.MadeNull (type_in (types_of_source c.args.source.now) c.in-MadeNull.target) (value_in (types_of_source c.args.source.now) v)) (sym c.deref-in-MadeNull.ensures)) c.requires.typed.typed) (subst (λ v. ValueStands (types_of_source c.args.source.now) v) (sym c.deref-in-MadeNull.ensures) (subst (λ v. ValueStands (types_of_source c.args.source.now) v) c.in-MadeNull.is c.requires.typed.stands).1)), ((lives_kept (scope_of c.args.source.now c.args.scope.now) N.Dropped (value_in (types_of_source c.args.source.now) c.deref-in-MadeNull.result.now) refl ((subst (λ v. ValueLives (scope_of c.args.source.now c.args.scope.now) (mode_of c.args.mode) v) (ap (value_in (types_of_source c.args.source.now)) c.in-MadeNull.is ∙ ap (λ v. T.MadeNull (type_in (types_of_source c.args.source.now) c.in-MadeNull.target) (value_in (types_of_source c.args.source.now) v)) (sym c.deref-in-MadeNull.ensures)) c.requires.lives).taken)), (room_part c.args.self.now (value_nodes (value_in (types_of_source c.args.source.now) c.deref-in-MadeNull.result.now)) (subst (λ v. HasRoom c.args.self.now (names_for (value_nodes v))) (ap (value_in (types_of_source c.args.source.now)) c.in-MadeNull.is ∙ ap (λ v. T.MadeNull (type_in (types_of_source c.args.source.now) c.in-MadeNull.target) (value_in (types_of_source c.args.source.now) v)) (sym c.deref-in-MadeNull.ensures)) c.requires.room)))))))

pub pointer_operation-null-requires-in-MadeNull : goal.pointer_operation-null-requires-in-MadeNull
pointer_operation-null-requires-in-MadeNull t c =
    record { room = room_after c.args.self.now c.value-in-MadeNull.new.self (value_nodes (value_in (types_of_source c.args.source.now) c.deref-in-MadeNull.result.now)) (subst (λ v. HasRoom c.args.self.now (names_for (value_nodes v))) (ap (value_in (types_of_source c.args.source.now)) c.in-MadeNull.is ∙ ap (λ v. T.MadeNull (type_in (types_of_source c.args.source.now) c.in-MadeNull.target) (value_in (types_of_source c.args.source.now) v)) (sym c.deref-in-MadeNull.ensures)) c.requires.room) c.in_ok-value-in-MadeNull.ensures.adds }

pub pointer_operation-returns-in_ok-value-in-MadeNull-clause-code : goal.pointer_operation-returns-in_ok-value-in-MadeNull-clause-code
pointer_operation-returns-in_ok-value-in-MadeNull-clause-code t c =
    subst (λ v. IfOk c.null-in-MadeNull.result (TypedLowers c.args.source.now c.args.scope.now c.args.mode v c.args.self.now c.null-in-MadeNull.new.self)) (sym (ap (value_in (types_of_source c.args.source.now)) c.in-MadeNull.is ∙ ap (λ v. T.MadeNull (type_in (types_of_source c.args.source.now) c.in-MadeNull.target) (value_in (types_of_source c.args.source.now) v)) (sym c.deref-in-MadeNull.ensures))) (made_null_code c.args.source.now c.args.scope.now c.args.mode c.in-MadeNull.target c.deref-in-MadeNull.result.now c.args.self.now c.value-in-MadeNull.new.self c.null-in-MadeNull.new.self c.in_ok-value-in-MadeNull.field-0 c.null-in-MadeNull.result (subst (λ v. ValueStands (types_of_source c.args.source.now) v) c.in-MadeNull.is c.requires.typed.stands).0 c.in_ok-value-in-MadeNull.ensures.code c.null-in-MadeNull.ensures.code c.null-in-MadeNull.ensures.grows)

pub pointer_operation-returns-in_ok-value-in-MadeNull-clause-grows : goal.pointer_operation-returns-in_ok-value-in-MadeNull-clause-grows
pointer_operation-returns-in_ok-value-in-MadeNull-clause-grows t c =
    on_ok_then c.null-in-MadeNull.result (λ grows. grows_on c.args.self.now c.value-in-MadeNull.new.self c.null-in-MadeNull.new.self c.in_ok-value-in-MadeNull.ensures.grows grows) c.null-in-MadeNull.ensures.grows

pub pointer_operation-returns-in_ok-value-in-MadeNull-clause-adds : goal.pointer_operation-returns-in_ok-value-in-MadeNull-clause-adds
pointer_operation-returns-in_ok-value-in-MadeNull-clause-adds t c =
    on_ok_then c.null-in-MadeNull.result (λ adds. subst (λ v. AddsFewer c.args.self.now c.null-in-MadeNull.new.self (names_for (value_nodes v))) (sym (ap (value_in (types_of_source c.args.source.now)) c.in-MadeNull.is ∙ ap (λ v. T.MadeNull (type_in (types_of_source c.args.source.now) c.in-MadeNull.target) (value_in (types_of_source c.args.source.now) v)) (sym c.deref-in-MadeNull.ensures))) (fewer_after c.args.self.now c.value-in-MadeNull.new.self c.null-in-MadeNull.new.self (value_nodes (value_in (types_of_source c.args.source.now) c.deref-in-MadeNull.result.now)) c.in_ok-value-in-MadeNull.ensures.adds adds)) c.null-in-MadeNull.ensures.adds

pub pointer_operation-value-requires-in-Tested : goal.pointer_operation-value-requires-in-Tested
pointer_operation-value-requires-in-Tested t c = (search (rules, value_lemmas), ((c.requires.source), ((c.requires.homes), ((operand_typed c.args.source.now c.args.scope.now is_pointer c.deref-in-Tested.result.now (tested_part c.args.source.now c.args.scope.now c.in-Tested.place c.deref-in-Tested.result.now c.requires.typed.c_type (subst (λ v. type_of (context_in c.args.source.now c.args.scope.now) v ≡ Some c.requires.typed.c_type) (ap (value_in (types_of_source c.args.source.now)) c.in-Tested.is ∙ ap (λ v. T.Tested c.in-Tested.place (value_in (types_of_source c.args.source.now) v)) (sym c.deref-in-Tested.ensures)) c.requires.typed.typed) (subst (λ v. ValueStands (types_of_source c.args.source.now) v) (sym c.deref-in-Tested.ensures) (subst (λ v. ValueStands (types_of_source c.args.source.now) v) c.in-Tested.is c.requires.typed.stands)))), ((lives_kept (scope_of c.args.source.now c.args.scope.now) N.Kept (value_in (types_of_source c.args.source.now) c.deref-in-Tested.result.now) refl ((subst (λ v. ValueLives (scope_of c.args.source.now c.args.scope.now) (mode_of c.args.mode) v) (ap (value_in (types_of_source c.args.source.now)) c.in-Tested.is ∙ ap (λ v. T.Tested c.in-Tested.place (value_in (types_of_source c.args.source.now) v)) (sym c.deref-in-Tested.ensures)) c.requires.lives).taken)), (room_part c.args.self.now (value_nodes (value_in (types_of_source c.args.source.now) c.deref-in-Tested.result.now)) (subst (λ v. HasRoom c.args.self.now (names_for (value_nodes v))) (ap (value_in (types_of_source c.args.source.now)) c.in-Tested.is ∙ ap (λ v. T.Tested c.in-Tested.place (value_in (types_of_source c.args.source.now) v)) (sym c.deref-in-Tested.ensures)) c.requires.room)))))))

pub pointer_operation-pointer-from-requires-in-Tested : goal.pointer_operation-pointer-from-requires-in-Tested
pointer_operation-pointer-from-requires-in-Tested t c =
    comes_pointer c.args.source.now c.args.scope.now c.deref-in-Tested.result.now (tested_part c.args.source.now c.args.scope.now c.in-Tested.place c.deref-in-Tested.result.now c.requires.typed.c_type (subst (λ v. type_of (context_in c.args.source.now c.args.scope.now) v ≡ Some c.requires.typed.c_type) (ap (value_in (types_of_source c.args.source.now)) c.in-Tested.is ∙ ap (λ v. T.Tested c.in-Tested.place (value_in (types_of_source c.args.source.now) v)) (sym c.deref-in-Tested.ensures)) c.requires.typed.typed) (subst (λ v. ValueStands (types_of_source c.args.source.now) v) (sym c.deref-in-Tested.ensures) (subst (λ v. ValueStands (types_of_source c.args.source.now) v) c.in-Tested.is c.requires.typed.stands))) c.args.self.now c.value-in-Tested.new.self c.in_ok-value-in-Tested.field-0 c.in_ok-value-in-Tested.ensures.code

pub pointer_operation-test_pointer-requires : goal.pointer_operation-test_pointer-requires
pointer_operation-test_pointer-requires t c =
    record { room = room_after c.args.self.now c.value-in-Tested.new.self (value_nodes (value_in (types_of_source c.args.source.now) c.deref-in-Tested.result.now)) (subst (λ v. HasRoom c.args.self.now (names_for (value_nodes v))) (ap (value_in (types_of_source c.args.source.now)) c.in-Tested.is ∙ ap (λ v. T.Tested c.in-Tested.place (value_in (types_of_source c.args.source.now) v)) (sym c.deref-in-Tested.ensures)) c.requires.room) c.in_ok-value-in-Tested.ensures.adds }

pub pointer_operation-returns-in_ok-value-in-Tested-clause-code : goal.pointer_operation-returns-in_ok-value-in-Tested-clause-code
pointer_operation-returns-in_ok-value-in-Tested-clause-code t c =
    subst (λ v. IfOk c.test_pointer.result (TypedLowers c.args.source.now c.args.scope.now c.args.mode v c.args.self.now c.test_pointer.new.self)) (sym (ap (value_in (types_of_source c.args.source.now)) c.in-Tested.is ∙ ap (λ v. T.Tested c.in-Tested.place (value_in (types_of_source c.args.source.now) v)) (sym c.deref-in-Tested.ensures))) (tested_code c.args.source.now c.args.scope.now c.args.mode c.in-Tested.place c.deref-in-Tested.result.now c.args.self.now c.value-in-Tested.new.self c.test_pointer.new.self c.in_ok-value-in-Tested.field-0 c.pointer-from-in-Tested.result c.test_pointer.result c.in_ok-value-in-Tested.ensures.code c.pointer-from-in-Tested.ensures c.test_pointer.ensures.code c.test_pointer.ensures.grows)

pub pointer_operation-returns-in_ok-value-in-Tested-clause-grows : goal.pointer_operation-returns-in_ok-value-in-Tested-clause-grows
pointer_operation-returns-in_ok-value-in-Tested-clause-grows t c =
    on_ok_then c.test_pointer.result (λ grows. grows_on c.args.self.now c.value-in-Tested.new.self c.test_pointer.new.self c.in_ok-value-in-Tested.ensures.grows grows) c.test_pointer.ensures.grows

pub pointer_operation-returns-in_ok-value-in-Tested-clause-adds : goal.pointer_operation-returns-in_ok-value-in-Tested-clause-adds
pointer_operation-returns-in_ok-value-in-Tested-clause-adds t c =
    on_ok_then c.test_pointer.result (λ adds. subst (λ v. AddsFewer c.args.self.now c.test_pointer.new.self (names_for (value_nodes v))) (sym (ap (value_in (types_of_source c.args.source.now)) c.in-Tested.is ∙ ap (λ v. T.Tested c.in-Tested.place (value_in (types_of_source c.args.source.now) v)) (sym c.deref-in-Tested.ensures))) (fewer_after c.args.self.now c.value-in-Tested.new.self c.test_pointer.new.self (value_nodes (value_in (types_of_source c.args.source.now) c.deref-in-Tested.result.now)) c.in_ok-value-in-Tested.ensures.adds adds)) c.test_pointer.ensures.adds

pub pointer_operation-value-requires-in-ComparePointers : goal.pointer_operation-value-requires-in-ComparePointers
pointer_operation-value-requires-in-ComparePointers t c = (search (rules, value_lemmas), ((c.requires.source), ((c.requires.homes), ((operand_typed c.args.source.now c.args.scope.now is_pointer c.deref-in-ComparePointers.result.now (compared_left c.args.source.now c.args.scope.now c.in-ComparePointers.relation c.in-ComparePointers.place c.deref-in-ComparePointers.result.now c.in-ComparePointers.right.value c.requires.typed.c_type (subst (λ v. type_of (context_in c.args.source.now c.args.scope.now) v ≡ Some c.requires.typed.c_type) (ap (value_in (types_of_source c.args.source.now)) c.in-ComparePointers.is ∙ (λ i. T.ComparePointers c.in-ComparePointers.relation c.in-ComparePointers.place (value_in (types_of_source c.args.source.now) (sym c.deref-in-ComparePointers.ensures i)) (value_in (types_of_source c.args.source.now) c.in-ComparePointers.right.value))) c.requires.typed.typed) (subst (λ v. ValueStands (types_of_source c.args.source.now) v) (sym c.deref-in-ComparePointers.ensures) (subst (λ v. ValueStands (types_of_source c.args.source.now) v) c.in-ComparePointers.is c.requires.typed.stands).0))), ((lives_kept (scope_of c.args.source.now c.args.scope.now) N.Kept (value_in (types_of_source c.args.source.now) c.deref-in-ComparePointers.result.now) refl (operation_forms_lie_left (scope_of c.args.source.now c.args.scope.now) (λ number. takes false number (value_in (types_of_source c.args.source.now) c.deref-in-ComparePointers.result.now)) (λ number. takes false number (value_in (types_of_source c.args.source.now) c.in-ComparePointers.right.value)) (subst (λ v. ValueLives (scope_of c.args.source.now c.args.scope.now) (mode_of c.args.mode) v) (ap (value_in (types_of_source c.args.source.now)) c.in-ComparePointers.is ∙ (λ i. T.ComparePointers c.in-ComparePointers.relation c.in-ComparePointers.place (value_in (types_of_source c.args.source.now) (sym c.deref-in-ComparePointers.ensures i)) (value_in (types_of_source c.args.source.now) c.in-ComparePointers.right.value))) c.requires.lives).taken)), (operation_forms_room_first c.args.self.now (value_nodes (value_in (types_of_source c.args.source.now) c.deref-in-ComparePointers.result.now)) (value_nodes (value_in (types_of_source c.args.source.now) c.in-ComparePointers.right.value)) (subst (λ v. HasRoom c.args.self.now (names_for (value_nodes v))) (ap (value_in (types_of_source c.args.source.now)) c.in-ComparePointers.is ∙ (λ i. T.ComparePointers c.in-ComparePointers.relation c.in-ComparePointers.place (value_in (types_of_source c.args.source.now) (sym c.deref-in-ComparePointers.ensures i)) (value_in (types_of_source c.args.source.now) c.in-ComparePointers.right.value))) c.requires.room)))))))

pub pointer_operation-value-requires-in-ComparePointers-2 : goal.pointer_operation-value-requires-in-ComparePointers-2
pointer_operation-value-requires-in-ComparePointers-2 t c = (search (rules, value_lemmas), ((c.requires.source), ((c.requires.homes), ((operand_typed c.args.source.now c.args.scope.now is_pointer c.deref-in-ComparePointers-2.result.now (compared_right c.args.source.now c.args.scope.now c.in-ComparePointers.relation c.in-ComparePointers.place c.deref-in-ComparePointers.result.now c.deref-in-ComparePointers-2.result.now c.requires.typed.c_type (subst (λ v. type_of (context_in c.args.source.now c.args.scope.now) v ≡ Some c.requires.typed.c_type) (ap (value_in (types_of_source c.args.source.now)) c.in-ComparePointers.is ∙ (λ i. T.ComparePointers c.in-ComparePointers.relation c.in-ComparePointers.place (value_in (types_of_source c.args.source.now) (sym c.deref-in-ComparePointers.ensures i)) (value_in (types_of_source c.args.source.now) (sym c.deref-in-ComparePointers-2.ensures i)))) c.requires.typed.typed) (subst (λ v. ValueStands (types_of_source c.args.source.now) v) (sym c.deref-in-ComparePointers-2.ensures) (subst (λ v. ValueStands (types_of_source c.args.source.now) v) c.in-ComparePointers.is c.requires.typed.stands).1))), ((lives_kept (scope_of c.args.source.now c.args.scope.now) N.Kept (value_in (types_of_source c.args.source.now) c.deref-in-ComparePointers-2.result.now) refl (operation_forms_lie_right (scope_of c.args.source.now c.args.scope.now) (λ number. takes false number (value_in (types_of_source c.args.source.now) c.deref-in-ComparePointers.result.now)) (λ number. takes false number (value_in (types_of_source c.args.source.now) c.deref-in-ComparePointers-2.result.now)) (subst (λ v. ValueLives (scope_of c.args.source.now c.args.scope.now) (mode_of c.args.mode) v) (ap (value_in (types_of_source c.args.source.now)) c.in-ComparePointers.is ∙ (λ i. T.ComparePointers c.in-ComparePointers.relation c.in-ComparePointers.place (value_in (types_of_source c.args.source.now) (sym c.deref-in-ComparePointers.ensures i)) (value_in (types_of_source c.args.source.now) (sym c.deref-in-ComparePointers-2.ensures i)))) c.requires.lives).taken)), (operation_forms_room_second c.args.self.now c.value-in-ComparePointers.new.self (value_nodes (value_in (types_of_source c.args.source.now) c.deref-in-ComparePointers.result.now)) (value_nodes (value_in (types_of_source c.args.source.now) c.deref-in-ComparePointers-2.result.now)) (subst (λ v. HasRoom c.args.self.now (names_for (value_nodes v))) (ap (value_in (types_of_source c.args.source.now)) c.in-ComparePointers.is ∙ (λ i. T.ComparePointers c.in-ComparePointers.relation c.in-ComparePointers.place (value_in (types_of_source c.args.source.now) (sym c.deref-in-ComparePointers.ensures i)) (value_in (types_of_source c.args.source.now) (sym c.deref-in-ComparePointers-2.ensures i)))) c.requires.room) c.in_ok-value-in-ComparePointers.ensures.adds))))))

pub pointer_operation-pointer-left-requires : goal.pointer_operation-pointer-left-requires
pointer_operation-pointer-left-requires t c =
    comes_pointer c.args.source.now c.args.scope.now c.deref-in-ComparePointers.result.now (compared_left c.args.source.now c.args.scope.now c.in-ComparePointers.relation c.in-ComparePointers.place c.deref-in-ComparePointers.result.now c.in-ComparePointers.right.value c.requires.typed.c_type (subst (λ v. type_of (context_in c.args.source.now c.args.scope.now) v ≡ Some c.requires.typed.c_type) (ap (value_in (types_of_source c.args.source.now)) c.in-ComparePointers.is ∙ (λ i. T.ComparePointers c.in-ComparePointers.relation c.in-ComparePointers.place (value_in (types_of_source c.args.source.now) (sym c.deref-in-ComparePointers.ensures i)) (value_in (types_of_source c.args.source.now) c.in-ComparePointers.right.value))) c.requires.typed.typed) (subst (λ v. ValueStands (types_of_source c.args.source.now) v) (sym c.deref-in-ComparePointers.ensures) (subst (λ v. ValueStands (types_of_source c.args.source.now) v) c.in-ComparePointers.is c.requires.typed.stands).0)) c.args.self.now c.value-in-ComparePointers.new.self c.in_ok-value-in-ComparePointers.field-0 c.in_ok-value-in-ComparePointers.ensures.code

pub pointer_operation-pointer-right-requires : goal.pointer_operation-pointer-right-requires
pointer_operation-pointer-right-requires t c =
    comes_pointer c.args.source.now c.args.scope.now c.deref-in-ComparePointers-2.result.now (compared_right c.args.source.now c.args.scope.now c.in-ComparePointers.relation c.in-ComparePointers.place c.deref-in-ComparePointers.result.now c.deref-in-ComparePointers-2.result.now c.requires.typed.c_type (subst (λ v. type_of (context_in c.args.source.now c.args.scope.now) v ≡ Some c.requires.typed.c_type) (ap (value_in (types_of_source c.args.source.now)) c.in-ComparePointers.is ∙ (λ i. T.ComparePointers c.in-ComparePointers.relation c.in-ComparePointers.place (value_in (types_of_source c.args.source.now) (sym c.deref-in-ComparePointers.ensures i)) (value_in (types_of_source c.args.source.now) (sym c.deref-in-ComparePointers-2.ensures i)))) c.requires.typed.typed) (subst (λ v. ValueStands (types_of_source c.args.source.now) v) (sym c.deref-in-ComparePointers-2.ensures) (subst (λ v. ValueStands (types_of_source c.args.source.now) v) c.in-ComparePointers.is c.requires.typed.stands).1)) c.value-in-ComparePointers.new.self c.value-in-ComparePointers-2.new.self c.in_ok-value-in-ComparePointers-2.field-0 c.in_ok-value-in-ComparePointers-2.ensures.code

pub pointer_operation-compare_pointers-requires : goal.pointer_operation-compare_pointers-requires
pointer_operation-compare_pointers-requires t c =
    record { room = operation_forms_room_last c.args.self.now c.value-in-ComparePointers.new.self c.value-in-ComparePointers-2.new.self (value_nodes (value_in (types_of_source c.args.source.now) c.deref-in-ComparePointers.result.now)) (value_nodes (value_in (types_of_source c.args.source.now) c.deref-in-ComparePointers-2.result.now)) (subst (λ v. HasRoom c.args.self.now (names_for (value_nodes v))) (ap (value_in (types_of_source c.args.source.now)) c.in-ComparePointers.is ∙ (λ i. T.ComparePointers c.in-ComparePointers.relation c.in-ComparePointers.place (value_in (types_of_source c.args.source.now) (sym c.deref-in-ComparePointers.ensures i)) (value_in (types_of_source c.args.source.now) (sym c.deref-in-ComparePointers-2.ensures i)))) c.requires.room) c.in_ok-value-in-ComparePointers.ensures.adds c.in_ok-value-in-ComparePointers-2.ensures.adds }

pub pointer_operation-returns-in_ok-value-in-ComparePointers-2-clause-code : goal.pointer_operation-returns-in_ok-value-in-ComparePointers-2-clause-code
pointer_operation-returns-in_ok-value-in-ComparePointers-2-clause-code t c =
    subst (λ v. IfOk c.compare_pointers.result (TypedLowers c.args.source.now c.args.scope.now c.args.mode v c.args.self.now c.compare_pointers.new.self)) (sym (ap (value_in (types_of_source c.args.source.now)) c.in-ComparePointers.is ∙ (λ i. T.ComparePointers c.in-ComparePointers.relation c.in-ComparePointers.place (value_in (types_of_source c.args.source.now) (sym c.deref-in-ComparePointers.ensures i)) (value_in (types_of_source c.args.source.now) (sym c.deref-in-ComparePointers-2.ensures i))))) (compared_code c.args.source.now c.args.scope.now c.args.mode c.in-ComparePointers.relation c.in-ComparePointers.place c.deref-in-ComparePointers.result.now c.deref-in-ComparePointers-2.result.now c.args.self.now c.value-in-ComparePointers.new.self c.value-in-ComparePointers-2.new.self c.compare_pointers.new.self c.in_ok-value-in-ComparePointers.field-0 c.in_ok-value-in-ComparePointers-2.field-0 c.pointer-left.result c.pointer-right.result c.compare_pointers.result c.in_ok-value-in-ComparePointers.ensures.code c.pointer-left.ensures c.in_ok-value-in-ComparePointers-2.ensures.code c.in_ok-value-in-ComparePointers-2.ensures.grows c.pointer-right.ensures c.compare_pointers.ensures.code c.compare_pointers.ensures.grows)

pub pointer_operation-returns-in_ok-value-in-ComparePointers-2-clause-grows : goal.pointer_operation-returns-in_ok-value-in-ComparePointers-2-clause-grows
pointer_operation-returns-in_ok-value-in-ComparePointers-2-clause-grows t c =
    on_ok_then c.compare_pointers.result (λ grows. grows_on c.args.self.now c.value-in-ComparePointers.new.self c.compare_pointers.new.self c.in_ok-value-in-ComparePointers.ensures.grows (grows_on c.value-in-ComparePointers.new.self c.value-in-ComparePointers-2.new.self c.compare_pointers.new.self c.in_ok-value-in-ComparePointers-2.ensures.grows grows)) c.compare_pointers.ensures.grows

pub pointer_operation-returns-in_ok-value-in-ComparePointers-2-clause-adds : goal.pointer_operation-returns-in_ok-value-in-ComparePointers-2-clause-adds
pointer_operation-returns-in_ok-value-in-ComparePointers-2-clause-adds t c =
    on_ok_then c.compare_pointers.result (λ adds. subst (λ v. AddsFewer c.args.self.now c.compare_pointers.new.self (names_for (value_nodes v))) (sym (ap (value_in (types_of_source c.args.source.now)) c.in-ComparePointers.is ∙ (λ i. T.ComparePointers c.in-ComparePointers.relation c.in-ComparePointers.place (value_in (types_of_source c.args.source.now) (sym c.deref-in-ComparePointers.ensures i)) (value_in (types_of_source c.args.source.now) (sym c.deref-in-ComparePointers-2.ensures i))))) (operation_forms_fewer_last c.args.self.now c.value-in-ComparePointers.new.self c.value-in-ComparePointers-2.new.self c.compare_pointers.new.self (value_nodes (value_in (types_of_source c.args.source.now) c.deref-in-ComparePointers.result.now)) (value_nodes (value_in (types_of_source c.args.source.now) c.deref-in-ComparePointers-2.result.now)) c.in_ok-value-in-ComparePointers.ensures.adds c.in_ok-value-in-ComparePointers-2.ensures.adds adds)) c.compare_pointers.ensures.adds

pub pointer_operation-value-requires-in-PointerPlus : goal.pointer_operation-value-requires-in-PointerPlus
pointer_operation-value-requires-in-PointerPlus t c = (search (rules, value_lemmas), ((c.requires.source), ((c.requires.homes), ((operand_typed c.args.source.now c.args.scope.now is_pointer c.deref-in-PointerPlus.result.now (moved_pointer c.args.source.now c.args.scope.now c.deref-in-PointerPlus.result.now c.in-PointerPlus.number.value c.requires.typed.c_type (subst (λ v. type_of (context_in c.args.source.now c.args.scope.now) v ≡ Some c.requires.typed.c_type) (ap (value_in (types_of_source c.args.source.now)) c.in-PointerPlus.is ∙ (λ i. T.PointerPlus c.in-PointerPlus.place (value_in (types_of_source c.args.source.now) (sym c.deref-in-PointerPlus.ensures i)) (value_in (types_of_source c.args.source.now) c.in-PointerPlus.number.value))) c.requires.typed.typed) (subst (λ v. ValueStands (types_of_source c.args.source.now) v) (sym c.deref-in-PointerPlus.ensures) (subst (λ v. ValueStands (types_of_source c.args.source.now) v) c.in-PointerPlus.is c.requires.typed.stands).0))), ((lives_kept (scope_of c.args.source.now c.args.scope.now) N.Kept (value_in (types_of_source c.args.source.now) c.deref-in-PointerPlus.result.now) refl (operation_forms_lie_left (scope_of c.args.source.now c.args.scope.now) (λ number. takes false number (value_in (types_of_source c.args.source.now) c.deref-in-PointerPlus.result.now)) (λ number. takes false number (value_in (types_of_source c.args.source.now) c.in-PointerPlus.number.value)) (subst (λ v. ValueLives (scope_of c.args.source.now c.args.scope.now) (mode_of c.args.mode) v) (ap (value_in (types_of_source c.args.source.now)) c.in-PointerPlus.is ∙ (λ i. T.PointerPlus c.in-PointerPlus.place (value_in (types_of_source c.args.source.now) (sym c.deref-in-PointerPlus.ensures i)) (value_in (types_of_source c.args.source.now) c.in-PointerPlus.number.value))) c.requires.lives).taken)), (operation_forms_room_first c.args.self.now (value_nodes (value_in (types_of_source c.args.source.now) c.deref-in-PointerPlus.result.now)) (value_nodes (value_in (types_of_source c.args.source.now) c.in-PointerPlus.number.value)) (subst (λ v. HasRoom c.args.self.now (names_for (value_nodes v))) (ap (value_in (types_of_source c.args.source.now)) c.in-PointerPlus.is ∙ (λ i. T.PointerPlus c.in-PointerPlus.place (value_in (types_of_source c.args.source.now) (sym c.deref-in-PointerPlus.ensures i)) (value_in (types_of_source c.args.source.now) c.in-PointerPlus.number.value))) c.requires.room)))))))

pub pointer_operation-value-requires-in-PointerPlus-2 : goal.pointer_operation-value-requires-in-PointerPlus-2
pointer_operation-value-requires-in-PointerPlus-2 t c = (search (rules, value_lemmas), ((c.requires.source), ((c.requires.homes), ((operand_typed c.args.source.now c.args.scope.now is_integer c.deref-in-PointerPlus-2.result.now (moving_number c.args.source.now c.args.scope.now c.deref-in-PointerPlus.result.now c.deref-in-PointerPlus-2.result.now c.requires.typed.c_type (subst (λ v. type_of (context_in c.args.source.now c.args.scope.now) v ≡ Some c.requires.typed.c_type) (ap (value_in (types_of_source c.args.source.now)) c.in-PointerPlus.is ∙ (λ i. T.PointerPlus c.in-PointerPlus.place (value_in (types_of_source c.args.source.now) (sym c.deref-in-PointerPlus.ensures i)) (value_in (types_of_source c.args.source.now) (sym c.deref-in-PointerPlus-2.ensures i)))) c.requires.typed.typed) (subst (λ v. ValueStands (types_of_source c.args.source.now) v) (sym c.deref-in-PointerPlus-2.ensures) (subst (λ v. ValueStands (types_of_source c.args.source.now) v) c.in-PointerPlus.is c.requires.typed.stands).1))), ((lives_kept (scope_of c.args.source.now c.args.scope.now) N.Kept (value_in (types_of_source c.args.source.now) c.deref-in-PointerPlus-2.result.now) refl (operation_forms_lie_right (scope_of c.args.source.now c.args.scope.now) (λ number. takes false number (value_in (types_of_source c.args.source.now) c.deref-in-PointerPlus.result.now)) (λ number. takes false number (value_in (types_of_source c.args.source.now) c.deref-in-PointerPlus-2.result.now)) (subst (λ v. ValueLives (scope_of c.args.source.now c.args.scope.now) (mode_of c.args.mode) v) (ap (value_in (types_of_source c.args.source.now)) c.in-PointerPlus.is ∙ (λ i. T.PointerPlus c.in-PointerPlus.place (value_in (types_of_source c.args.source.now) (sym c.deref-in-PointerPlus.ensures i)) (value_in (types_of_source c.args.source.now) (sym c.deref-in-PointerPlus-2.ensures i)))) c.requires.lives).taken)), (operation_forms_room_second c.args.self.now c.value-in-PointerPlus.new.self (value_nodes (value_in (types_of_source c.args.source.now) c.deref-in-PointerPlus.result.now)) (value_nodes (value_in (types_of_source c.args.source.now) c.deref-in-PointerPlus-2.result.now)) (subst (λ v. HasRoom c.args.self.now (names_for (value_nodes v))) (ap (value_in (types_of_source c.args.source.now)) c.in-PointerPlus.is ∙ (λ i. T.PointerPlus c.in-PointerPlus.place (value_in (types_of_source c.args.source.now) (sym c.deref-in-PointerPlus.ensures i)) (value_in (types_of_source c.args.source.now) (sym c.deref-in-PointerPlus-2.ensures i)))) c.requires.room) c.in_ok-value-in-PointerPlus.ensures.adds))))))

pub pointer_operation-pointer-from-requires-in-PointerPlus : goal.pointer_operation-pointer-from-requires-in-PointerPlus
pointer_operation-pointer-from-requires-in-PointerPlus t c =
    comes_pointer c.args.source.now c.args.scope.now c.deref-in-PointerPlus.result.now (moved_pointer c.args.source.now c.args.scope.now c.deref-in-PointerPlus.result.now c.in-PointerPlus.number.value c.requires.typed.c_type (subst (λ v. type_of (context_in c.args.source.now c.args.scope.now) v ≡ Some c.requires.typed.c_type) (ap (value_in (types_of_source c.args.source.now)) c.in-PointerPlus.is ∙ (λ i. T.PointerPlus c.in-PointerPlus.place (value_in (types_of_source c.args.source.now) (sym c.deref-in-PointerPlus.ensures i)) (value_in (types_of_source c.args.source.now) c.in-PointerPlus.number.value))) c.requires.typed.typed) (subst (λ v. ValueStands (types_of_source c.args.source.now) v) (sym c.deref-in-PointerPlus.ensures) (subst (λ v. ValueStands (types_of_source c.args.source.now) v) c.in-PointerPlus.is c.requires.typed.stands).0)) c.args.self.now c.value-in-PointerPlus.new.self c.in_ok-value-in-PointerPlus.field-0 c.in_ok-value-in-PointerPlus.ensures.code

pub pointer_operation-integer-number-requires : goal.pointer_operation-integer-number-requires
pointer_operation-integer-number-requires t c =
    comes_integer c.args.source.now c.args.scope.now c.deref-in-PointerPlus-2.result.now (moving_number c.args.source.now c.args.scope.now c.deref-in-PointerPlus.result.now c.deref-in-PointerPlus-2.result.now c.requires.typed.c_type (subst (λ v. type_of (context_in c.args.source.now c.args.scope.now) v ≡ Some c.requires.typed.c_type) (ap (value_in (types_of_source c.args.source.now)) c.in-PointerPlus.is ∙ (λ i. T.PointerPlus c.in-PointerPlus.place (value_in (types_of_source c.args.source.now) (sym c.deref-in-PointerPlus.ensures i)) (value_in (types_of_source c.args.source.now) (sym c.deref-in-PointerPlus-2.ensures i)))) c.requires.typed.typed) (subst (λ v. ValueStands (types_of_source c.args.source.now) v) (sym c.deref-in-PointerPlus-2.ensures) (subst (λ v. ValueStands (types_of_source c.args.source.now) v) c.in-PointerPlus.is c.requires.typed.stands).1)) c.value-in-PointerPlus.new.self c.value-in-PointerPlus-2.new.self c.in_ok-value-in-PointerPlus-2.field-0 c.in_ok-value-in-PointerPlus-2.ensures.code

pub pointer_operation-moved-requires : goal.pointer_operation-moved-requires
pointer_operation-moved-requires t c =
    record { room = operation_forms_room_last c.args.self.now c.value-in-PointerPlus.new.self c.value-in-PointerPlus-2.new.self (value_nodes (value_in (types_of_source c.args.source.now) c.deref-in-PointerPlus.result.now)) (value_nodes (value_in (types_of_source c.args.source.now) c.deref-in-PointerPlus-2.result.now)) (subst (λ v. HasRoom c.args.self.now (names_for (value_nodes v))) (ap (value_in (types_of_source c.args.source.now)) c.in-PointerPlus.is ∙ (λ i. T.PointerPlus c.in-PointerPlus.place (value_in (types_of_source c.args.source.now) (sym c.deref-in-PointerPlus.ensures i)) (value_in (types_of_source c.args.source.now) (sym c.deref-in-PointerPlus-2.ensures i)))) c.requires.room) c.in_ok-value-in-PointerPlus.ensures.adds c.in_ok-value-in-PointerPlus-2.ensures.adds }

pub pointer_operation-returns-in_ok-value-in-PointerPlus-2-clause-code : goal.pointer_operation-returns-in_ok-value-in-PointerPlus-2-clause-code
pointer_operation-returns-in_ok-value-in-PointerPlus-2-clause-code t c =
    subst (λ v. IfOk c.moved.result (TypedLowers c.args.source.now c.args.scope.now c.args.mode v c.args.self.now c.moved.new.self)) (sym (ap (value_in (types_of_source c.args.source.now)) c.in-PointerPlus.is ∙ (λ i. T.PointerPlus c.in-PointerPlus.place (value_in (types_of_source c.args.source.now) (sym c.deref-in-PointerPlus.ensures i)) (value_in (types_of_source c.args.source.now) (sym c.deref-in-PointerPlus-2.ensures i))))) (plus_moved_code c.args.source.now c.args.scope.now c.args.mode c.in-PointerPlus.place c.deref-in-PointerPlus.result.now c.deref-in-PointerPlus-2.result.now c.args.self.now c.value-in-PointerPlus.new.self c.value-in-PointerPlus-2.new.self c.moved.new.self c.in_ok-value-in-PointerPlus.field-0 c.in_ok-value-in-PointerPlus-2.field-0 c.pointer-from-in-PointerPlus.result c.integer-number.result c.moved.result c.in_ok-value-in-PointerPlus.ensures.code c.pointer-from-in-PointerPlus.ensures c.in_ok-value-in-PointerPlus-2.ensures.code c.in_ok-value-in-PointerPlus-2.ensures.grows c.integer-number.ensures c.moved.ensures.code c.moved.ensures.grows)

pub pointer_operation-returns-in_ok-value-in-PointerPlus-2-clause-grows : goal.pointer_operation-returns-in_ok-value-in-PointerPlus-2-clause-grows
pointer_operation-returns-in_ok-value-in-PointerPlus-2-clause-grows t c =
    on_ok_then c.moved.result (λ grows. grows_on c.args.self.now c.value-in-PointerPlus.new.self c.moved.new.self c.in_ok-value-in-PointerPlus.ensures.grows (grows_on c.value-in-PointerPlus.new.self c.value-in-PointerPlus-2.new.self c.moved.new.self c.in_ok-value-in-PointerPlus-2.ensures.grows grows)) c.moved.ensures.grows

pub pointer_operation-returns-in_ok-value-in-PointerPlus-2-clause-adds : goal.pointer_operation-returns-in_ok-value-in-PointerPlus-2-clause-adds
pointer_operation-returns-in_ok-value-in-PointerPlus-2-clause-adds t c =
    on_ok_then c.moved.result (λ adds. subst (λ v. AddsFewer c.args.self.now c.moved.new.self (names_for (value_nodes v))) (sym (ap (value_in (types_of_source c.args.source.now)) c.in-PointerPlus.is ∙ (λ i. T.PointerPlus c.in-PointerPlus.place (value_in (types_of_source c.args.source.now) (sym c.deref-in-PointerPlus.ensures i)) (value_in (types_of_source c.args.source.now) (sym c.deref-in-PointerPlus-2.ensures i))))) (operation_forms_fewer_last c.args.self.now c.value-in-PointerPlus.new.self c.value-in-PointerPlus-2.new.self c.moved.new.self (value_nodes (value_in (types_of_source c.args.source.now) c.deref-in-PointerPlus.result.now)) (value_nodes (value_in (types_of_source c.args.source.now) c.deref-in-PointerPlus-2.result.now)) c.in_ok-value-in-PointerPlus.ensures.adds c.in_ok-value-in-PointerPlus-2.ensures.adds adds)) c.moved.ensures.adds

pub pointer_operation-value-requires-in-NumberPlus : goal.pointer_operation-value-requires-in-NumberPlus
pointer_operation-value-requires-in-NumberPlus t c = (search (rules, value_lemmas), ((c.requires.source), ((c.requires.homes), ((operand_typed c.args.source.now c.args.scope.now is_integer c.deref-in-NumberPlus.result.now (moving_number c.args.source.now c.args.scope.now c.in-NumberPlus.from.value c.deref-in-NumberPlus.result.now c.requires.typed.c_type (subst (λ v. type_of (context_in c.args.source.now c.args.scope.now) v ≡ Some c.requires.typed.c_type) (ap (value_in (types_of_source c.args.source.now)) c.in-NumberPlus.is ∙ (λ i. T.NumberPlus c.in-NumberPlus.place (value_in (types_of_source c.args.source.now) (sym c.deref-in-NumberPlus.ensures i)) (value_in (types_of_source c.args.source.now) c.in-NumberPlus.from.value))) c.requires.typed.typed) (subst (λ v. ValueStands (types_of_source c.args.source.now) v) (sym c.deref-in-NumberPlus.ensures) (subst (λ v. ValueStands (types_of_source c.args.source.now) v) c.in-NumberPlus.is c.requires.typed.stands).0))), ((lives_kept (scope_of c.args.source.now c.args.scope.now) N.Kept (value_in (types_of_source c.args.source.now) c.deref-in-NumberPlus.result.now) refl (operation_forms_lie_left (scope_of c.args.source.now c.args.scope.now) (λ number. takes false number (value_in (types_of_source c.args.source.now) c.deref-in-NumberPlus.result.now)) (λ number. takes false number (value_in (types_of_source c.args.source.now) c.in-NumberPlus.from.value)) (subst (λ v. ValueLives (scope_of c.args.source.now c.args.scope.now) (mode_of c.args.mode) v) (ap (value_in (types_of_source c.args.source.now)) c.in-NumberPlus.is ∙ (λ i. T.NumberPlus c.in-NumberPlus.place (value_in (types_of_source c.args.source.now) (sym c.deref-in-NumberPlus.ensures i)) (value_in (types_of_source c.args.source.now) c.in-NumberPlus.from.value))) c.requires.lives).taken)), (operation_forms_room_first c.args.self.now (value_nodes (value_in (types_of_source c.args.source.now) c.deref-in-NumberPlus.result.now)) (value_nodes (value_in (types_of_source c.args.source.now) c.in-NumberPlus.from.value)) (subst (λ v. HasRoom c.args.self.now (names_for (value_nodes v))) (ap (value_in (types_of_source c.args.source.now)) c.in-NumberPlus.is ∙ (λ i. T.NumberPlus c.in-NumberPlus.place (value_in (types_of_source c.args.source.now) (sym c.deref-in-NumberPlus.ensures i)) (value_in (types_of_source c.args.source.now) c.in-NumberPlus.from.value))) c.requires.room)))))))

pub pointer_operation-value-requires-in-NumberPlus-2 : goal.pointer_operation-value-requires-in-NumberPlus-2
pointer_operation-value-requires-in-NumberPlus-2 t c = (search (rules, value_lemmas), ((c.requires.source), ((c.requires.homes), ((operand_typed c.args.source.now c.args.scope.now is_pointer c.deref-in-NumberPlus-2.result.now (moved_pointer c.args.source.now c.args.scope.now c.deref-in-NumberPlus-2.result.now c.deref-in-NumberPlus.result.now c.requires.typed.c_type (subst (λ v. type_of (context_in c.args.source.now c.args.scope.now) v ≡ Some c.requires.typed.c_type) (ap (value_in (types_of_source c.args.source.now)) c.in-NumberPlus.is ∙ (λ i. T.NumberPlus c.in-NumberPlus.place (value_in (types_of_source c.args.source.now) (sym c.deref-in-NumberPlus.ensures i)) (value_in (types_of_source c.args.source.now) (sym c.deref-in-NumberPlus-2.ensures i)))) c.requires.typed.typed) (subst (λ v. ValueStands (types_of_source c.args.source.now) v) (sym c.deref-in-NumberPlus-2.ensures) (subst (λ v. ValueStands (types_of_source c.args.source.now) v) c.in-NumberPlus.is c.requires.typed.stands).1))), ((lives_kept (scope_of c.args.source.now c.args.scope.now) N.Kept (value_in (types_of_source c.args.source.now) c.deref-in-NumberPlus-2.result.now) refl (operation_forms_lie_right (scope_of c.args.source.now c.args.scope.now) (λ number. takes false number (value_in (types_of_source c.args.source.now) c.deref-in-NumberPlus.result.now)) (λ number. takes false number (value_in (types_of_source c.args.source.now) c.deref-in-NumberPlus-2.result.now)) (subst (λ v. ValueLives (scope_of c.args.source.now c.args.scope.now) (mode_of c.args.mode) v) (ap (value_in (types_of_source c.args.source.now)) c.in-NumberPlus.is ∙ (λ i. T.NumberPlus c.in-NumberPlus.place (value_in (types_of_source c.args.source.now) (sym c.deref-in-NumberPlus.ensures i)) (value_in (types_of_source c.args.source.now) (sym c.deref-in-NumberPlus-2.ensures i)))) c.requires.lives).taken)), (operation_forms_room_kept c.args.self.now c.value-in-NumberPlus.new.self c.keep.new.self (value_nodes (value_in (types_of_source c.args.source.now) c.deref-in-NumberPlus.result.now)) (value_nodes (value_in (types_of_source c.args.source.now) c.deref-in-NumberPlus-2.result.now)) (subst (λ v. HasRoom c.args.self.now (names_for (value_nodes v))) (ap (value_in (types_of_source c.args.source.now)) c.in-NumberPlus.is ∙ (λ i. T.NumberPlus c.in-NumberPlus.place (value_in (types_of_source c.args.source.now) (sym c.deref-in-NumberPlus.ensures i)) (value_in (types_of_source c.args.source.now) (sym c.deref-in-NumberPlus-2.ensures i)))) c.requires.room) c.in_ok-value-in-NumberPlus.ensures.adds c.in_ok-tree-in-NumberPlus.ensures.adds))))))

pub pointer_operation-integer-number-requires-in-NumberPlus : goal.pointer_operation-integer-number-requires-in-NumberPlus
pointer_operation-integer-number-requires-in-NumberPlus t c =
    comes_integer c.args.source.now c.args.scope.now c.deref-in-NumberPlus.result.now (moving_number c.args.source.now c.args.scope.now c.in-NumberPlus.from.value c.deref-in-NumberPlus.result.now c.requires.typed.c_type (subst (λ v. type_of (context_in c.args.source.now c.args.scope.now) v ≡ Some c.requires.typed.c_type) (ap (value_in (types_of_source c.args.source.now)) c.in-NumberPlus.is ∙ (λ i. T.NumberPlus c.in-NumberPlus.place (value_in (types_of_source c.args.source.now) (sym c.deref-in-NumberPlus.ensures i)) (value_in (types_of_source c.args.source.now) c.in-NumberPlus.from.value))) c.requires.typed.typed) (subst (λ v. ValueStands (types_of_source c.args.source.now) v) (sym c.deref-in-NumberPlus.ensures) (subst (λ v. ValueStands (types_of_source c.args.source.now) v) c.in-NumberPlus.is c.requires.typed.stands).0)) c.args.self.now c.value-in-NumberPlus.new.self c.in_ok-value-in-NumberPlus.field-0 c.in_ok-value-in-NumberPlus.ensures.code

pub pointer_operation-pointer-from-requires-in-NumberPlus : goal.pointer_operation-pointer-from-requires-in-NumberPlus
pointer_operation-pointer-from-requires-in-NumberPlus t c =
    comes_pointer c.args.source.now c.args.scope.now c.deref-in-NumberPlus-2.result.now (moved_pointer c.args.source.now c.args.scope.now c.deref-in-NumberPlus-2.result.now c.deref-in-NumberPlus.result.now c.requires.typed.c_type (subst (λ v. type_of (context_in c.args.source.now c.args.scope.now) v ≡ Some c.requires.typed.c_type) (ap (value_in (types_of_source c.args.source.now)) c.in-NumberPlus.is ∙ (λ i. T.NumberPlus c.in-NumberPlus.place (value_in (types_of_source c.args.source.now) (sym c.deref-in-NumberPlus.ensures i)) (value_in (types_of_source c.args.source.now) (sym c.deref-in-NumberPlus-2.ensures i)))) c.requires.typed.typed) (subst (λ v. ValueStands (types_of_source c.args.source.now) v) (sym c.deref-in-NumberPlus-2.ensures) (subst (λ v. ValueStands (types_of_source c.args.source.now) v) c.in-NumberPlus.is c.requires.typed.stands).1)) c.keep.new.self c.value-in-NumberPlus-2.new.self c.in_ok-value-in-NumberPlus-2.field-0 c.in_ok-value-in-NumberPlus-2.ensures.code

pub pointer_operation-keep-requires : goal.pointer_operation-keep-requires
pointer_operation-keep-requires t c =
    record { room = operation_forms_room_keep c.args.self.now c.value-in-NumberPlus.new.self (value_nodes (value_in (types_of_source c.args.source.now) c.deref-in-NumberPlus.result.now)) (value_nodes (value_in (types_of_source c.args.source.now) c.in-NumberPlus.from.value)) (subst (λ v. HasRoom c.args.self.now (names_for (value_nodes v))) (ap (value_in (types_of_source c.args.source.now)) c.in-NumberPlus.is ∙ (λ i. T.NumberPlus c.in-NumberPlus.place (value_in (types_of_source c.args.source.now) (sym c.deref-in-NumberPlus.ensures i)) (value_in (types_of_source c.args.source.now) c.in-NumberPlus.from.value))) c.requires.room) c.in_ok-value-in-NumberPlus.ensures.adds }

pub pointer_operation-moved-requires-in-NumberPlus : goal.pointer_operation-moved-requires-in-NumberPlus
pointer_operation-moved-requires-in-NumberPlus t c =
    record { room = operation_forms_room_kept_last c.args.self.now c.value-in-NumberPlus.new.self c.keep.new.self c.value-in-NumberPlus-2.new.self (value_nodes (value_in (types_of_source c.args.source.now) c.deref-in-NumberPlus.result.now)) (value_nodes (value_in (types_of_source c.args.source.now) c.deref-in-NumberPlus-2.result.now)) (subst (λ v. HasRoom c.args.self.now (names_for (value_nodes v))) (ap (value_in (types_of_source c.args.source.now)) c.in-NumberPlus.is ∙ (λ i. T.NumberPlus c.in-NumberPlus.place (value_in (types_of_source c.args.source.now) (sym c.deref-in-NumberPlus.ensures i)) (value_in (types_of_source c.args.source.now) (sym c.deref-in-NumberPlus-2.ensures i)))) c.requires.room) c.in_ok-value-in-NumberPlus.ensures.adds c.in_ok-tree-in-NumberPlus.ensures.adds c.in_ok-value-in-NumberPlus-2.ensures.adds }

pub pointer_operation-returns-in_ok-value-in-NumberPlus-2-clause-code : goal.pointer_operation-returns-in_ok-value-in-NumberPlus-2-clause-code
pointer_operation-returns-in_ok-value-in-NumberPlus-2-clause-code t c =
    subst (λ v. IfOk c.moved-in-NumberPlus.result (TypedLowers c.args.source.now c.args.scope.now c.args.mode v c.args.self.now c.moved-in-NumberPlus.new.self)) (sym (ap (value_in (types_of_source c.args.source.now)) c.in-NumberPlus.is ∙ (λ i. T.NumberPlus c.in-NumberPlus.place (value_in (types_of_source c.args.source.now) (sym c.deref-in-NumberPlus.ensures i)) (value_in (types_of_source c.args.source.now) (sym c.deref-in-NumberPlus-2.ensures i))))) (number_plus_code c.args.source.now c.args.scope.now c.args.mode c.in-NumberPlus.place c.deref-in-NumberPlus.result.now c.deref-in-NumberPlus-2.result.now c.args.self.now c.value-in-NumberPlus.new.self c.keep.new.self c.value-in-NumberPlus-2.new.self c.moved-in-NumberPlus.new.self c.in_ok-value-in-NumberPlus.field-0 c.in_ok-value-in-NumberPlus-2.field-0 c.integer-number-in-NumberPlus.result (tree_of c.in_ok-tree-in-NumberPlus.tree.value) c.pointer-from-in-NumberPlus.result c.moved-in-NumberPlus.result c.in_ok-value-in-NumberPlus.ensures.code c.integer-number-in-NumberPlus.ensures c.in_ok-tree-in-NumberPlus.ensures.code c.in_ok-tree-in-NumberPlus.ensures.grows c.in_ok-value-in-NumberPlus-2.ensures.code c.in_ok-value-in-NumberPlus-2.ensures.grows c.pointer-from-in-NumberPlus.ensures c.moved-in-NumberPlus.ensures.code c.moved-in-NumberPlus.ensures.grows)

pub pointer_operation-returns-in_ok-value-in-NumberPlus-2-clause-grows : goal.pointer_operation-returns-in_ok-value-in-NumberPlus-2-clause-grows
pointer_operation-returns-in_ok-value-in-NumberPlus-2-clause-grows t c =
    on_ok_then c.moved-in-NumberPlus.result (λ grows. grows_on c.args.self.now c.value-in-NumberPlus.new.self c.moved-in-NumberPlus.new.self c.in_ok-value-in-NumberPlus.ensures.grows (grows_on c.value-in-NumberPlus.new.self c.keep.new.self c.moved-in-NumberPlus.new.self c.in_ok-tree-in-NumberPlus.ensures.grows (grows_on c.keep.new.self c.value-in-NumberPlus-2.new.self c.moved-in-NumberPlus.new.self c.in_ok-value-in-NumberPlus-2.ensures.grows grows))) c.moved-in-NumberPlus.ensures.grows

pub pointer_operation-returns-in_ok-value-in-NumberPlus-2-clause-adds : goal.pointer_operation-returns-in_ok-value-in-NumberPlus-2-clause-adds
pointer_operation-returns-in_ok-value-in-NumberPlus-2-clause-adds t c =
    on_ok_then c.moved-in-NumberPlus.result (λ adds. subst (λ v. AddsFewer c.args.self.now c.moved-in-NumberPlus.new.self (names_for (value_nodes v))) (sym (ap (value_in (types_of_source c.args.source.now)) c.in-NumberPlus.is ∙ (λ i. T.NumberPlus c.in-NumberPlus.place (value_in (types_of_source c.args.source.now) (sym c.deref-in-NumberPlus.ensures i)) (value_in (types_of_source c.args.source.now) (sym c.deref-in-NumberPlus-2.ensures i))))) (operation_forms_fewer_kept_last c.args.self.now c.value-in-NumberPlus.new.self c.keep.new.self c.value-in-NumberPlus-2.new.self c.moved-in-NumberPlus.new.self (value_nodes (value_in (types_of_source c.args.source.now) c.deref-in-NumberPlus.result.now)) (value_nodes (value_in (types_of_source c.args.source.now) c.deref-in-NumberPlus-2.result.now)) c.in_ok-value-in-NumberPlus.ensures.adds c.in_ok-tree-in-NumberPlus.ensures.adds c.in_ok-value-in-NumberPlus-2.ensures.adds adds)) c.moved-in-NumberPlus.ensures.adds

pub pointer_operation-value-requires-in-PointerMinus : goal.pointer_operation-value-requires-in-PointerMinus
pointer_operation-value-requires-in-PointerMinus t c = (search (rules, value_lemmas), ((c.requires.source), ((c.requires.homes), ((operand_typed c.args.source.now c.args.scope.now is_pointer c.deref-in-PointerMinus.result.now (moved_pointer c.args.source.now c.args.scope.now c.deref-in-PointerMinus.result.now c.in-PointerMinus.number.value c.requires.typed.c_type (subst (λ v. type_of (context_in c.args.source.now c.args.scope.now) v ≡ Some c.requires.typed.c_type) (ap (value_in (types_of_source c.args.source.now)) c.in-PointerMinus.is ∙ (λ i. T.PointerMinus c.in-PointerMinus.place (value_in (types_of_source c.args.source.now) (sym c.deref-in-PointerMinus.ensures i)) (value_in (types_of_source c.args.source.now) c.in-PointerMinus.number.value))) c.requires.typed.typed) (subst (λ v. ValueStands (types_of_source c.args.source.now) v) (sym c.deref-in-PointerMinus.ensures) (subst (λ v. ValueStands (types_of_source c.args.source.now) v) c.in-PointerMinus.is c.requires.typed.stands).0))), ((lives_kept (scope_of c.args.source.now c.args.scope.now) N.Kept (value_in (types_of_source c.args.source.now) c.deref-in-PointerMinus.result.now) refl (operation_forms_lie_left (scope_of c.args.source.now c.args.scope.now) (λ number. takes false number (value_in (types_of_source c.args.source.now) c.deref-in-PointerMinus.result.now)) (λ number. takes false number (value_in (types_of_source c.args.source.now) c.in-PointerMinus.number.value)) (subst (λ v. ValueLives (scope_of c.args.source.now c.args.scope.now) (mode_of c.args.mode) v) (ap (value_in (types_of_source c.args.source.now)) c.in-PointerMinus.is ∙ (λ i. T.PointerMinus c.in-PointerMinus.place (value_in (types_of_source c.args.source.now) (sym c.deref-in-PointerMinus.ensures i)) (value_in (types_of_source c.args.source.now) c.in-PointerMinus.number.value))) c.requires.lives).taken)), (operation_forms_room_first c.args.self.now (value_nodes (value_in (types_of_source c.args.source.now) c.deref-in-PointerMinus.result.now)) (value_nodes (value_in (types_of_source c.args.source.now) c.in-PointerMinus.number.value)) (subst (λ v. HasRoom c.args.self.now (names_for (value_nodes v))) (ap (value_in (types_of_source c.args.source.now)) c.in-PointerMinus.is ∙ (λ i. T.PointerMinus c.in-PointerMinus.place (value_in (types_of_source c.args.source.now) (sym c.deref-in-PointerMinus.ensures i)) (value_in (types_of_source c.args.source.now) c.in-PointerMinus.number.value))) c.requires.room)))))))

pub pointer_operation-value-requires-in-PointerMinus-2 : goal.pointer_operation-value-requires-in-PointerMinus-2
pointer_operation-value-requires-in-PointerMinus-2 t c = (search (rules, value_lemmas), ((c.requires.source), ((c.requires.homes), ((operand_typed c.args.source.now c.args.scope.now is_integer c.deref-in-PointerMinus-2.result.now (moving_number c.args.source.now c.args.scope.now c.deref-in-PointerMinus.result.now c.deref-in-PointerMinus-2.result.now c.requires.typed.c_type (subst (λ v. type_of (context_in c.args.source.now c.args.scope.now) v ≡ Some c.requires.typed.c_type) (ap (value_in (types_of_source c.args.source.now)) c.in-PointerMinus.is ∙ (λ i. T.PointerMinus c.in-PointerMinus.place (value_in (types_of_source c.args.source.now) (sym c.deref-in-PointerMinus.ensures i)) (value_in (types_of_source c.args.source.now) (sym c.deref-in-PointerMinus-2.ensures i)))) c.requires.typed.typed) (subst (λ v. ValueStands (types_of_source c.args.source.now) v) (sym c.deref-in-PointerMinus-2.ensures) (subst (λ v. ValueStands (types_of_source c.args.source.now) v) c.in-PointerMinus.is c.requires.typed.stands).1))), ((lives_kept (scope_of c.args.source.now c.args.scope.now) N.Kept (value_in (types_of_source c.args.source.now) c.deref-in-PointerMinus-2.result.now) refl (operation_forms_lie_right (scope_of c.args.source.now c.args.scope.now) (λ number. takes false number (value_in (types_of_source c.args.source.now) c.deref-in-PointerMinus.result.now)) (λ number. takes false number (value_in (types_of_source c.args.source.now) c.deref-in-PointerMinus-2.result.now)) (subst (λ v. ValueLives (scope_of c.args.source.now c.args.scope.now) (mode_of c.args.mode) v) (ap (value_in (types_of_source c.args.source.now)) c.in-PointerMinus.is ∙ (λ i. T.PointerMinus c.in-PointerMinus.place (value_in (types_of_source c.args.source.now) (sym c.deref-in-PointerMinus.ensures i)) (value_in (types_of_source c.args.source.now) (sym c.deref-in-PointerMinus-2.ensures i)))) c.requires.lives).taken)), (operation_forms_room_second c.args.self.now c.value-in-PointerMinus.new.self (value_nodes (value_in (types_of_source c.args.source.now) c.deref-in-PointerMinus.result.now)) (value_nodes (value_in (types_of_source c.args.source.now) c.deref-in-PointerMinus-2.result.now)) (subst (λ v. HasRoom c.args.self.now (names_for (value_nodes v))) (ap (value_in (types_of_source c.args.source.now)) c.in-PointerMinus.is ∙ (λ i. T.PointerMinus c.in-PointerMinus.place (value_in (types_of_source c.args.source.now) (sym c.deref-in-PointerMinus.ensures i)) (value_in (types_of_source c.args.source.now) (sym c.deref-in-PointerMinus-2.ensures i)))) c.requires.room) c.in_ok-value-in-PointerMinus.ensures.adds))))))

pub pointer_operation-pointer-from-requires-in-PointerMinus : goal.pointer_operation-pointer-from-requires-in-PointerMinus
pointer_operation-pointer-from-requires-in-PointerMinus t c =
    comes_pointer c.args.source.now c.args.scope.now c.deref-in-PointerMinus.result.now (moved_pointer c.args.source.now c.args.scope.now c.deref-in-PointerMinus.result.now c.in-PointerMinus.number.value c.requires.typed.c_type (subst (λ v. type_of (context_in c.args.source.now c.args.scope.now) v ≡ Some c.requires.typed.c_type) (ap (value_in (types_of_source c.args.source.now)) c.in-PointerMinus.is ∙ (λ i. T.PointerMinus c.in-PointerMinus.place (value_in (types_of_source c.args.source.now) (sym c.deref-in-PointerMinus.ensures i)) (value_in (types_of_source c.args.source.now) c.in-PointerMinus.number.value))) c.requires.typed.typed) (subst (λ v. ValueStands (types_of_source c.args.source.now) v) (sym c.deref-in-PointerMinus.ensures) (subst (λ v. ValueStands (types_of_source c.args.source.now) v) c.in-PointerMinus.is c.requires.typed.stands).0)) c.args.self.now c.value-in-PointerMinus.new.self c.in_ok-value-in-PointerMinus.field-0 c.in_ok-value-in-PointerMinus.ensures.code

pub pointer_operation-integer-number-requires-in-PointerMinus : goal.pointer_operation-integer-number-requires-in-PointerMinus
pointer_operation-integer-number-requires-in-PointerMinus t c =
    comes_integer c.args.source.now c.args.scope.now c.deref-in-PointerMinus-2.result.now (moving_number c.args.source.now c.args.scope.now c.deref-in-PointerMinus.result.now c.deref-in-PointerMinus-2.result.now c.requires.typed.c_type (subst (λ v. type_of (context_in c.args.source.now c.args.scope.now) v ≡ Some c.requires.typed.c_type) (ap (value_in (types_of_source c.args.source.now)) c.in-PointerMinus.is ∙ (λ i. T.PointerMinus c.in-PointerMinus.place (value_in (types_of_source c.args.source.now) (sym c.deref-in-PointerMinus.ensures i)) (value_in (types_of_source c.args.source.now) (sym c.deref-in-PointerMinus-2.ensures i)))) c.requires.typed.typed) (subst (λ v. ValueStands (types_of_source c.args.source.now) v) (sym c.deref-in-PointerMinus-2.ensures) (subst (λ v. ValueStands (types_of_source c.args.source.now) v) c.in-PointerMinus.is c.requires.typed.stands).1)) c.value-in-PointerMinus.new.self c.value-in-PointerMinus-2.new.self c.in_ok-value-in-PointerMinus-2.field-0 c.in_ok-value-in-PointerMinus-2.ensures.code

pub pointer_operation-moved-requires-in-PointerMinus : goal.pointer_operation-moved-requires-in-PointerMinus
pointer_operation-moved-requires-in-PointerMinus t c =
    record { room = operation_forms_room_last c.args.self.now c.value-in-PointerMinus.new.self c.value-in-PointerMinus-2.new.self (value_nodes (value_in (types_of_source c.args.source.now) c.deref-in-PointerMinus.result.now)) (value_nodes (value_in (types_of_source c.args.source.now) c.deref-in-PointerMinus-2.result.now)) (subst (λ v. HasRoom c.args.self.now (names_for (value_nodes v))) (ap (value_in (types_of_source c.args.source.now)) c.in-PointerMinus.is ∙ (λ i. T.PointerMinus c.in-PointerMinus.place (value_in (types_of_source c.args.source.now) (sym c.deref-in-PointerMinus.ensures i)) (value_in (types_of_source c.args.source.now) (sym c.deref-in-PointerMinus-2.ensures i)))) c.requires.room) c.in_ok-value-in-PointerMinus.ensures.adds c.in_ok-value-in-PointerMinus-2.ensures.adds }

pub pointer_operation-returns-in_ok-value-in-PointerMinus-2-clause-code : goal.pointer_operation-returns-in_ok-value-in-PointerMinus-2-clause-code
pointer_operation-returns-in_ok-value-in-PointerMinus-2-clause-code t c =
    subst (λ v. IfOk c.moved-in-PointerMinus.result (TypedLowers c.args.source.now c.args.scope.now c.args.mode v c.args.self.now c.moved-in-PointerMinus.new.self)) (sym (ap (value_in (types_of_source c.args.source.now)) c.in-PointerMinus.is ∙ (λ i. T.PointerMinus c.in-PointerMinus.place (value_in (types_of_source c.args.source.now) (sym c.deref-in-PointerMinus.ensures i)) (value_in (types_of_source c.args.source.now) (sym c.deref-in-PointerMinus-2.ensures i))))) (minus_moved_code c.args.source.now c.args.scope.now c.args.mode c.in-PointerMinus.place c.deref-in-PointerMinus.result.now c.deref-in-PointerMinus-2.result.now c.args.self.now c.value-in-PointerMinus.new.self c.value-in-PointerMinus-2.new.self c.moved-in-PointerMinus.new.self c.in_ok-value-in-PointerMinus.field-0 c.in_ok-value-in-PointerMinus-2.field-0 c.pointer-from-in-PointerMinus.result c.integer-number-in-PointerMinus.result c.moved-in-PointerMinus.result c.in_ok-value-in-PointerMinus.ensures.code c.pointer-from-in-PointerMinus.ensures c.in_ok-value-in-PointerMinus-2.ensures.code c.in_ok-value-in-PointerMinus-2.ensures.grows c.integer-number-in-PointerMinus.ensures c.moved-in-PointerMinus.ensures.code c.moved-in-PointerMinus.ensures.grows)

pub pointer_operation-returns-in_ok-value-in-PointerMinus-2-clause-grows : goal.pointer_operation-returns-in_ok-value-in-PointerMinus-2-clause-grows
pointer_operation-returns-in_ok-value-in-PointerMinus-2-clause-grows t c =
    on_ok_then c.moved-in-PointerMinus.result (λ grows. grows_on c.args.self.now c.value-in-PointerMinus.new.self c.moved-in-PointerMinus.new.self c.in_ok-value-in-PointerMinus.ensures.grows (grows_on c.value-in-PointerMinus.new.self c.value-in-PointerMinus-2.new.self c.moved-in-PointerMinus.new.self c.in_ok-value-in-PointerMinus-2.ensures.grows grows)) c.moved-in-PointerMinus.ensures.grows

pub pointer_operation-returns-in_ok-value-in-PointerMinus-2-clause-adds : goal.pointer_operation-returns-in_ok-value-in-PointerMinus-2-clause-adds
pointer_operation-returns-in_ok-value-in-PointerMinus-2-clause-adds t c =
    on_ok_then c.moved-in-PointerMinus.result (λ adds. subst (λ v. AddsFewer c.args.self.now c.moved-in-PointerMinus.new.self (names_for (value_nodes v))) (sym (ap (value_in (types_of_source c.args.source.now)) c.in-PointerMinus.is ∙ (λ i. T.PointerMinus c.in-PointerMinus.place (value_in (types_of_source c.args.source.now) (sym c.deref-in-PointerMinus.ensures i)) (value_in (types_of_source c.args.source.now) (sym c.deref-in-PointerMinus-2.ensures i))))) (operation_forms_fewer_last c.args.self.now c.value-in-PointerMinus.new.self c.value-in-PointerMinus-2.new.self c.moved-in-PointerMinus.new.self (value_nodes (value_in (types_of_source c.args.source.now) c.deref-in-PointerMinus.result.now)) (value_nodes (value_in (types_of_source c.args.source.now) c.deref-in-PointerMinus-2.result.now)) c.in_ok-value-in-PointerMinus.ensures.adds c.in_ok-value-in-PointerMinus-2.ensures.adds adds)) c.moved-in-PointerMinus.ensures.adds

pub pointer_operation-value-requires-in-PointerDifference : goal.pointer_operation-value-requires-in-PointerDifference
pointer_operation-value-requires-in-PointerDifference t c = (search (rules, value_lemmas), ((c.requires.source), ((c.requires.homes), ((operand_typed c.args.source.now c.args.scope.now is_pointer c.deref-in-PointerDifference.result.now (difference_left c.args.source.now c.args.scope.now c.in-PointerDifference.place c.deref-in-PointerDifference.result.now c.in-PointerDifference.right.value c.requires.typed.c_type (subst (λ v. type_of (context_in c.args.source.now c.args.scope.now) v ≡ Some c.requires.typed.c_type) (ap (value_in (types_of_source c.args.source.now)) c.in-PointerDifference.is ∙ (λ i. T.PointerDifference c.in-PointerDifference.place (value_in (types_of_source c.args.source.now) (sym c.deref-in-PointerDifference.ensures i)) (value_in (types_of_source c.args.source.now) c.in-PointerDifference.right.value))) c.requires.typed.typed) (subst (λ v. ValueStands (types_of_source c.args.source.now) v) (sym c.deref-in-PointerDifference.ensures) (subst (λ v. ValueStands (types_of_source c.args.source.now) v) c.in-PointerDifference.is c.requires.typed.stands).0))), ((lives_kept (scope_of c.args.source.now c.args.scope.now) N.Kept (value_in (types_of_source c.args.source.now) c.deref-in-PointerDifference.result.now) refl (operation_forms_lie_left (scope_of c.args.source.now c.args.scope.now) (λ number. takes false number (value_in (types_of_source c.args.source.now) c.deref-in-PointerDifference.result.now)) (λ number. takes false number (value_in (types_of_source c.args.source.now) c.in-PointerDifference.right.value)) (subst (λ v. ValueLives (scope_of c.args.source.now c.args.scope.now) (mode_of c.args.mode) v) (ap (value_in (types_of_source c.args.source.now)) c.in-PointerDifference.is ∙ (λ i. T.PointerDifference c.in-PointerDifference.place (value_in (types_of_source c.args.source.now) (sym c.deref-in-PointerDifference.ensures i)) (value_in (types_of_source c.args.source.now) c.in-PointerDifference.right.value))) c.requires.lives).taken)), (operation_forms_room_first c.args.self.now (value_nodes (value_in (types_of_source c.args.source.now) c.deref-in-PointerDifference.result.now)) (value_nodes (value_in (types_of_source c.args.source.now) c.in-PointerDifference.right.value)) (subst (λ v. HasRoom c.args.self.now (names_for (value_nodes v))) (ap (value_in (types_of_source c.args.source.now)) c.in-PointerDifference.is ∙ (λ i. T.PointerDifference c.in-PointerDifference.place (value_in (types_of_source c.args.source.now) (sym c.deref-in-PointerDifference.ensures i)) (value_in (types_of_source c.args.source.now) c.in-PointerDifference.right.value))) c.requires.room)))))))

pub pointer_operation-value-requires-in-PointerDifference-2 : goal.pointer_operation-value-requires-in-PointerDifference-2
pointer_operation-value-requires-in-PointerDifference-2 t c = (search (rules, value_lemmas), ((c.requires.source), ((c.requires.homes), ((operand_typed c.args.source.now c.args.scope.now is_pointer c.deref-in-PointerDifference-2.result.now (difference_right c.args.source.now c.args.scope.now c.in-PointerDifference.place c.deref-in-PointerDifference.result.now c.deref-in-PointerDifference-2.result.now c.requires.typed.c_type (subst (λ v. type_of (context_in c.args.source.now c.args.scope.now) v ≡ Some c.requires.typed.c_type) (ap (value_in (types_of_source c.args.source.now)) c.in-PointerDifference.is ∙ (λ i. T.PointerDifference c.in-PointerDifference.place (value_in (types_of_source c.args.source.now) (sym c.deref-in-PointerDifference.ensures i)) (value_in (types_of_source c.args.source.now) (sym c.deref-in-PointerDifference-2.ensures i)))) c.requires.typed.typed) (subst (λ v. ValueStands (types_of_source c.args.source.now) v) (sym c.deref-in-PointerDifference-2.ensures) (subst (λ v. ValueStands (types_of_source c.args.source.now) v) c.in-PointerDifference.is c.requires.typed.stands).1))), ((lives_kept (scope_of c.args.source.now c.args.scope.now) N.Kept (value_in (types_of_source c.args.source.now) c.deref-in-PointerDifference-2.result.now) refl (operation_forms_lie_right (scope_of c.args.source.now c.args.scope.now) (λ number. takes false number (value_in (types_of_source c.args.source.now) c.deref-in-PointerDifference.result.now)) (λ number. takes false number (value_in (types_of_source c.args.source.now) c.deref-in-PointerDifference-2.result.now)) (subst (λ v. ValueLives (scope_of c.args.source.now c.args.scope.now) (mode_of c.args.mode) v) (ap (value_in (types_of_source c.args.source.now)) c.in-PointerDifference.is ∙ (λ i. T.PointerDifference c.in-PointerDifference.place (value_in (types_of_source c.args.source.now) (sym c.deref-in-PointerDifference.ensures i)) (value_in (types_of_source c.args.source.now) (sym c.deref-in-PointerDifference-2.ensures i)))) c.requires.lives).taken)), (operation_forms_room_second c.args.self.now c.value-in-PointerDifference.new.self (value_nodes (value_in (types_of_source c.args.source.now) c.deref-in-PointerDifference.result.now)) (value_nodes (value_in (types_of_source c.args.source.now) c.deref-in-PointerDifference-2.result.now)) (subst (λ v. HasRoom c.args.self.now (names_for (value_nodes v))) (ap (value_in (types_of_source c.args.source.now)) c.in-PointerDifference.is ∙ (λ i. T.PointerDifference c.in-PointerDifference.place (value_in (types_of_source c.args.source.now) (sym c.deref-in-PointerDifference.ensures i)) (value_in (types_of_source c.args.source.now) (sym c.deref-in-PointerDifference-2.ensures i)))) c.requires.room) c.in_ok-value-in-PointerDifference.ensures.adds))))))

pub pointer_operation-pointer-left-requires-in-PointerDifference : goal.pointer_operation-pointer-left-requires-in-PointerDifference
pointer_operation-pointer-left-requires-in-PointerDifference t c =
    comes_pointer c.args.source.now c.args.scope.now c.deref-in-PointerDifference.result.now (difference_left c.args.source.now c.args.scope.now c.in-PointerDifference.place c.deref-in-PointerDifference.result.now c.in-PointerDifference.right.value c.requires.typed.c_type (subst (λ v. type_of (context_in c.args.source.now c.args.scope.now) v ≡ Some c.requires.typed.c_type) (ap (value_in (types_of_source c.args.source.now)) c.in-PointerDifference.is ∙ (λ i. T.PointerDifference c.in-PointerDifference.place (value_in (types_of_source c.args.source.now) (sym c.deref-in-PointerDifference.ensures i)) (value_in (types_of_source c.args.source.now) c.in-PointerDifference.right.value))) c.requires.typed.typed) (subst (λ v. ValueStands (types_of_source c.args.source.now) v) (sym c.deref-in-PointerDifference.ensures) (subst (λ v. ValueStands (types_of_source c.args.source.now) v) c.in-PointerDifference.is c.requires.typed.stands).0)) c.args.self.now c.value-in-PointerDifference.new.self c.in_ok-value-in-PointerDifference.field-0 c.in_ok-value-in-PointerDifference.ensures.code

pub pointer_operation-pointer-right-requires-in-PointerDifference : goal.pointer_operation-pointer-right-requires-in-PointerDifference
pointer_operation-pointer-right-requires-in-PointerDifference t c =
    comes_pointer c.args.source.now c.args.scope.now c.deref-in-PointerDifference-2.result.now (difference_right c.args.source.now c.args.scope.now c.in-PointerDifference.place c.deref-in-PointerDifference.result.now c.deref-in-PointerDifference-2.result.now c.requires.typed.c_type (subst (λ v. type_of (context_in c.args.source.now c.args.scope.now) v ≡ Some c.requires.typed.c_type) (ap (value_in (types_of_source c.args.source.now)) c.in-PointerDifference.is ∙ (λ i. T.PointerDifference c.in-PointerDifference.place (value_in (types_of_source c.args.source.now) (sym c.deref-in-PointerDifference.ensures i)) (value_in (types_of_source c.args.source.now) (sym c.deref-in-PointerDifference-2.ensures i)))) c.requires.typed.typed) (subst (λ v. ValueStands (types_of_source c.args.source.now) v) (sym c.deref-in-PointerDifference-2.ensures) (subst (λ v. ValueStands (types_of_source c.args.source.now) v) c.in-PointerDifference.is c.requires.typed.stands).1)) c.value-in-PointerDifference.new.self c.value-in-PointerDifference-2.new.self c.in_ok-value-in-PointerDifference-2.field-0 c.in_ok-value-in-PointerDifference-2.ensures.code

pub pointer_operation-difference-requires : goal.pointer_operation-difference-requires
pointer_operation-difference-requires t c =
    record { room = operation_forms_room_last c.args.self.now c.value-in-PointerDifference.new.self c.value-in-PointerDifference-2.new.self (value_nodes (value_in (types_of_source c.args.source.now) c.deref-in-PointerDifference.result.now)) (value_nodes (value_in (types_of_source c.args.source.now) c.deref-in-PointerDifference-2.result.now)) (subst (λ v. HasRoom c.args.self.now (names_for (value_nodes v))) (ap (value_in (types_of_source c.args.source.now)) c.in-PointerDifference.is ∙ (λ i. T.PointerDifference c.in-PointerDifference.place (value_in (types_of_source c.args.source.now) (sym c.deref-in-PointerDifference.ensures i)) (value_in (types_of_source c.args.source.now) (sym c.deref-in-PointerDifference-2.ensures i)))) c.requires.room) c.in_ok-value-in-PointerDifference.ensures.adds c.in_ok-value-in-PointerDifference-2.ensures.adds }

pub pointer_operation-returns-in_ok-value-in-PointerDifference-2-clause-code : goal.pointer_operation-returns-in_ok-value-in-PointerDifference-2-clause-code
pointer_operation-returns-in_ok-value-in-PointerDifference-2-clause-code t c =
    subst (λ v. IfOk c.difference.result (TypedLowers c.args.source.now c.args.scope.now c.args.mode v c.args.self.now c.difference.new.self)) (sym (ap (value_in (types_of_source c.args.source.now)) c.in-PointerDifference.is ∙ (λ i. T.PointerDifference c.in-PointerDifference.place (value_in (types_of_source c.args.source.now) (sym c.deref-in-PointerDifference.ensures i)) (value_in (types_of_source c.args.source.now) (sym c.deref-in-PointerDifference-2.ensures i))))) (difference_code c.args.source.now c.args.scope.now c.args.mode c.in-PointerDifference.place c.deref-in-PointerDifference.result.now c.deref-in-PointerDifference-2.result.now c.args.self.now c.value-in-PointerDifference.new.self c.value-in-PointerDifference-2.new.self c.difference.new.self c.in_ok-value-in-PointerDifference.field-0 c.in_ok-value-in-PointerDifference-2.field-0 c.pointer-left-in-PointerDifference.result c.pointer-right-in-PointerDifference.result c.difference.result c.in_ok-value-in-PointerDifference.ensures.code c.pointer-left-in-PointerDifference.ensures c.in_ok-value-in-PointerDifference-2.ensures.code c.in_ok-value-in-PointerDifference-2.ensures.grows c.pointer-right-in-PointerDifference.ensures c.difference.ensures.code c.difference.ensures.grows)

pub pointer_operation-returns-in_ok-value-in-PointerDifference-2-clause-grows : goal.pointer_operation-returns-in_ok-value-in-PointerDifference-2-clause-grows
pointer_operation-returns-in_ok-value-in-PointerDifference-2-clause-grows t c =
    on_ok_then c.difference.result (λ grows. grows_on c.args.self.now c.value-in-PointerDifference.new.self c.difference.new.self c.in_ok-value-in-PointerDifference.ensures.grows (grows_on c.value-in-PointerDifference.new.self c.value-in-PointerDifference-2.new.self c.difference.new.self c.in_ok-value-in-PointerDifference-2.ensures.grows grows)) c.difference.ensures.grows

pub pointer_operation-returns-in_ok-value-in-PointerDifference-2-clause-adds : goal.pointer_operation-returns-in_ok-value-in-PointerDifference-2-clause-adds
pointer_operation-returns-in_ok-value-in-PointerDifference-2-clause-adds t c =
    on_ok_then c.difference.result (λ adds. subst (λ v. AddsFewer c.args.self.now c.difference.new.self (names_for (value_nodes v))) (sym (ap (value_in (types_of_source c.args.source.now)) c.in-PointerDifference.is ∙ (λ i. T.PointerDifference c.in-PointerDifference.place (value_in (types_of_source c.args.source.now) (sym c.deref-in-PointerDifference.ensures i)) (value_in (types_of_source c.args.source.now) (sym c.deref-in-PointerDifference-2.ensures i))))) (operation_forms_fewer_last c.args.self.now c.value-in-PointerDifference.new.self c.value-in-PointerDifference-2.new.self c.difference.new.self (value_nodes (value_in (types_of_source c.args.source.now) c.deref-in-PointerDifference.result.now)) (value_nodes (value_in (types_of_source c.args.source.now) c.deref-in-PointerDifference-2.result.now)) c.in_ok-value-in-PointerDifference.ensures.adds c.in_ok-value-in-PointerDifference-2.ensures.adds adds)) c.difference.ensures.adds

pub pointer_operation-assignment-requires : goal.pointer_operation-assignment-requires
pointer_operation-assignment-requires t c = (search (rules, value_lemmas), ((c.requires.source), ((c.requires.homes), ((c.requires.typed), ((c.requires.lives), ((is_assignment c.args.value.now c.requires.kind c.in_default.not-NullPointer c.in_default.not-Repointed c.in_default.not-MadeNull c.in_default.not-Tested c.in_default.not-ComparePointers c.in_default.not-PointerPlus c.in_default.not-NumberPlus c.in_default.not-PointerMinus c.in_default.not-PointerDifference), (c.requires.room)))))))

pub pointer_operation-returns-in_default : goal.pointer_operation-returns-in_default
pointer_operation-returns-in_default t c =
    c.assignment.ensures

pub assignment-is_pure-is_followed-requires : goal.assignment-is_pure-is_followed-requires
assignment-is_pure-is_followed-requires t c =
    subst (λ t. HomesStand t c.args.scope.now) (sym c.types.ensures) c.requires.homes.stand

pub assignment-target-requires : goal.assignment-target-requires
assignment-target-requires t c = (search (rules, value_lemmas), ((c.requires.source), ((c.requires.homes), ((object_typed c.args.source.now c.args.scope.now is_scalar c.deref-in-Assign.result.now (assign_object c.args.source.now c.args.scope.now c.in-Assign.place _ c.deref-in-Assign.result.now _ c.deref.result.now (subst (λ v. ValueTyped c.args.source.now c.args.scope.now v) (assign_is c.in-Assign.is c.deref-in-Assign.ensures c.deref.ensures) c.requires.typed))), ((object_lowering_lie_left (scope_of c.args.source.now c.args.scope.now) (λ number. takes_in number (object_in (types_of_source c.args.source.now) c.deref-in-Assign.result.now)) (λ number. takes false number (value_in (types_of_source c.args.source.now) c.deref.result.now)) (subst (λ v. ValueLives (scope_of c.args.source.now c.args.scope.now) (mode_of c.args.mode) (value_in (types_of_source c.args.source.now) v)) (assign_is c.in-Assign.is c.deref-in-Assign.ensures c.deref.ensures) c.requires.lives).taken), (object_lowering_room_first c.args.self.now (object_nodes (object_in (types_of_source c.args.source.now) c.deref-in-Assign.result.now)) (value_nodes (value_in (types_of_source c.args.source.now) c.deref.result.now)) (subst (λ v. HasRoom c.args.self.now (names_for (value_nodes (value_in (types_of_source c.args.source.now) v)))) (assign_is c.in-Assign.is c.deref-in-Assign.ensures c.deref.ensures) c.requires.room)))))))

pub assignment-returns-in_err-target-in-Assign-clause-code : goal.assignment-returns-in_err-target-in-Assign-clause-code
assignment-returns-in_err-target-in-Assign-clause-code t c =
    search rules

pub assignment-returns-in_err-target-in-Assign-clause-grows : goal.assignment-returns-in_err-target-in-Assign-clause-grows
assignment-returns-in_err-target-in-Assign-clause-grows t c =
    search rules

pub assignment-returns-in_err-target-in-Assign-clause-adds : goal.assignment-returns-in_err-target-in-Assign-clause-adds
assignment-returns-in_err-target-in-Assign-clause-adds t c =
    search rules

pub assignment-value-requires : goal.assignment-value-requires
assignment-value-requires t c = (search (rules, value_lemmas), ((c.requires.source), ((c.requires.homes), ((value_typed c.args.source.now c.args.scope.now is_scalar c.deref-in-Assign-2.result.now (assign_value c.args.source.now c.args.scope.now c.in-Assign.place _ c.deref-in-Assign.result.now _ c.deref-in-Assign-2.result.now (subst (λ v. ValueTyped c.args.source.now c.args.scope.now v) (assign_is c.in-Assign.is c.deref-in-Assign.ensures c.deref-in-Assign-2.ensures) c.requires.typed))), ((kept_lives (scope_of c.args.source.now c.args.scope.now) (value_in (types_of_source c.args.source.now) c.deref-in-Assign-2.result.now) (object_lowering_lie_right (scope_of c.args.source.now c.args.scope.now) (λ number. takes_in number (object_in (types_of_source c.args.source.now) c.deref-in-Assign.result.now)) (λ number. takes false number (value_in (types_of_source c.args.source.now) c.deref-in-Assign-2.result.now)) (subst (λ v. ValueLives (scope_of c.args.source.now c.args.scope.now) (mode_of c.args.mode) (value_in (types_of_source c.args.source.now) v)) (assign_is c.in-Assign.is c.deref-in-Assign.ensures c.deref-in-Assign-2.ensures) c.requires.lives).taken)), (object_lowering_room_second c.args.self.now c.target.new.self (object_nodes (object_in (types_of_source c.args.source.now) c.deref-in-Assign.result.now)) (value_nodes (value_in (types_of_source c.args.source.now) c.deref-in-Assign-2.result.now)) (subst (λ v. HasRoom c.args.self.now (names_for (value_nodes (value_in (types_of_source c.args.source.now) v)))) (assign_is c.in-Assign.is c.deref-in-Assign.ensures c.deref-in-Assign-2.ensures) c.requires.room) c.in_ok-target-in-Assign.ensures.adds))))))

pub assignment-returns-in_err-given-in-Assign-clause-code : goal.assignment-returns-in_err-given-in-Assign-clause-code
assignment-returns-in_err-given-in-Assign-clause-code t c =
    search rules

pub assignment-returns-in_err-given-in-Assign-clause-grows : goal.assignment-returns-in_err-given-in-Assign-clause-grows
assignment-returns-in_err-given-in-Assign-clause-grows t c =
    search rules

pub assignment-returns-in_err-given-in-Assign-clause-adds : goal.assignment-returns-in_err-given-in-Assign-clause-adds
assignment-returns-in_err-given-in-Assign-clause-adds t c =
    search rules

pub assignment-assign-requires-clause-value : goal.assignment-assign-requires-clause-value
assignment-assign-requires-clause-value t c =
    given_scalar c.args.source.now c.args.scope.now c.deref-in-Assign-2.result.now (assign_value c.args.source.now c.args.scope.now c.in-Assign.place _ c.deref-in-Assign.result.now _ c.deref-in-Assign-2.result.now (subst (λ v. ValueTyped c.args.source.now c.args.scope.now v) (assign_is c.in-Assign.is c.deref-in-Assign.ensures c.deref-in-Assign-2.ensures) c.requires.typed)) c.target.new.self c.value.new.self c.in_ok-given-in-Assign.given c.in_ok-given-in-Assign.ensures.code

pub assignment-assign-requires-clause-target : goal.assignment-assign-requires-clause-target
assignment-assign-requires-clause-target t c =
    target_stands c.args.source.now c.args.scope.now c.deref-in-Assign.result.now (assign_object c.args.source.now c.args.scope.now c.in-Assign.place _ c.deref-in-Assign.result.now _ c.deref-in-Assign-2.result.now (subst (λ v. ValueTyped c.args.source.now c.args.scope.now v) (assign_is c.in-Assign.is c.deref-in-Assign.ensures c.deref-in-Assign-2.ensures) c.requires.typed)) (not c.is_pure-is_followed.result) c.args.self.now c.target.new.self c.in_ok-target-in-Assign.target c.types-in-Assign.result.now c.types-in-Assign.ensures c.in_ok-target-in-Assign.ensures.code

pub assignment-assign-requires-clause-room : goal.assignment-assign-requires-clause-room
assignment-assign-requires-clause-room t c =
    object_lowering_room_last c.args.self.now c.target.new.self c.value.new.self (object_nodes (object_in (types_of_source c.args.source.now) c.deref-in-Assign.result.now)) (value_nodes (value_in (types_of_source c.args.source.now) c.deref-in-Assign-2.result.now)) (subst (λ v. HasRoom c.args.self.now (names_for (value_nodes (value_in (types_of_source c.args.source.now) v)))) (assign_is c.in-Assign.is c.deref-in-Assign.ensures c.deref-in-Assign-2.ensures) c.requires.room) c.in_ok-target-in-Assign.ensures.adds c.in_ok-given-in-Assign.ensures.adds

pub assignment-is_pure-is_followed-requires-in-AssignArithmetic : goal.assignment-is_pure-is_followed-requires-in-AssignArithmetic
assignment-is_pure-is_followed-requires-in-AssignArithmetic t c =
    subst (λ t. HomesStand t c.args.scope.now) (sym c.types-in-AssignArithmetic.ensures) c.requires.homes.stand

pub assignment-target-requires-in-AssignArithmetic : goal.assignment-target-requires-in-AssignArithmetic
assignment-target-requires-in-AssignArithmetic t c = (search (rules, value_lemmas), ((c.requires.source), ((c.requires.homes), ((object_typed c.args.source.now c.args.scope.now (is_the c.args.source.now c.args.scope.now c.in-AssignArithmetic.object_type) c.deref-in-AssignArithmetic-2.result.now (compound_object c.args.source.now c.args.scope.now c.in-AssignArithmetic.op c.in-AssignArithmetic.place c.in-AssignArithmetic.object_type c.in-AssignArithmetic.int_type _ c.deref-in-AssignArithmetic-2.result.now _ c.deref-in-AssignArithmetic.result.now (subst (λ v. ValueTyped c.args.source.now c.args.scope.now v) (compound_is c.in-AssignArithmetic.is c.deref-in-AssignArithmetic-2.ensures c.deref-in-AssignArithmetic.ensures) c.requires.typed))), ((object_lowering_lie_left (scope_of c.args.source.now c.args.scope.now) (λ number. takes_in number (object_in (types_of_source c.args.source.now) c.deref-in-AssignArithmetic-2.result.now)) (λ number. takes false number (value_in (types_of_source c.args.source.now) c.deref-in-AssignArithmetic.result.now)) (subst (λ v. ValueLives (scope_of c.args.source.now c.args.scope.now) (mode_of c.args.mode) (value_in (types_of_source c.args.source.now) v)) (compound_is c.in-AssignArithmetic.is c.deref-in-AssignArithmetic-2.ensures c.deref-in-AssignArithmetic.ensures) c.requires.lives).taken), (object_lowering_room_first c.args.self.now (object_nodes (object_in (types_of_source c.args.source.now) c.deref-in-AssignArithmetic-2.result.now)) (value_nodes (value_in (types_of_source c.args.source.now) c.deref-in-AssignArithmetic.result.now)) (subst (λ v. HasRoom c.args.self.now (names_for (value_nodes (value_in (types_of_source c.args.source.now) v)))) (compound_is c.in-AssignArithmetic.is c.deref-in-AssignArithmetic-2.ensures c.deref-in-AssignArithmetic.ensures) c.requires.room)))))))

pub assignment-returns-in_err-target-in-AssignArithmetic-clause-code : goal.assignment-returns-in_err-target-in-AssignArithmetic-clause-code
assignment-returns-in_err-target-in-AssignArithmetic-clause-code t c =
    search rules

pub assignment-returns-in_err-target-in-AssignArithmetic-clause-grows : goal.assignment-returns-in_err-target-in-AssignArithmetic-clause-grows
assignment-returns-in_err-target-in-AssignArithmetic-clause-grows t c =
    search rules

pub assignment-returns-in_err-target-in-AssignArithmetic-clause-adds : goal.assignment-returns-in_err-target-in-AssignArithmetic-clause-adds
assignment-returns-in_err-target-in-AssignArithmetic-clause-adds t c =
    search rules

pub assignment-value-requires-in-AssignArithmetic : goal.assignment-value-requires-in-AssignArithmetic
assignment-value-requires-in-AssignArithmetic t c = (search (rules, value_lemmas), ((c.requires.source), ((c.requires.homes), ((value_typed c.args.source.now c.args.scope.now is_integer c.deref-in-AssignArithmetic-3.result.now (compound_value c.args.source.now c.args.scope.now c.in-AssignArithmetic.op c.in-AssignArithmetic.place c.in-AssignArithmetic.object_type c.in-AssignArithmetic.int_type _ c.deref-in-AssignArithmetic-2.result.now _ c.deref-in-AssignArithmetic-3.result.now (subst (λ v. ValueTyped c.args.source.now c.args.scope.now v) (compound_is c.in-AssignArithmetic.is c.deref-in-AssignArithmetic-2.ensures c.deref-in-AssignArithmetic-3.ensures) c.requires.typed))), ((kept_lives (scope_of c.args.source.now c.args.scope.now) (value_in (types_of_source c.args.source.now) c.deref-in-AssignArithmetic-3.result.now) (object_lowering_lie_right (scope_of c.args.source.now c.args.scope.now) (λ number. takes_in number (object_in (types_of_source c.args.source.now) c.deref-in-AssignArithmetic-2.result.now)) (λ number. takes false number (value_in (types_of_source c.args.source.now) c.deref-in-AssignArithmetic-3.result.now)) (subst (λ v. ValueLives (scope_of c.args.source.now c.args.scope.now) (mode_of c.args.mode) (value_in (types_of_source c.args.source.now) v)) (compound_is c.in-AssignArithmetic.is c.deref-in-AssignArithmetic-2.ensures c.deref-in-AssignArithmetic-3.ensures) c.requires.lives).taken)), (object_lowering_room_second c.args.self.now c.target-in-AssignArithmetic.new.self (object_nodes (object_in (types_of_source c.args.source.now) c.deref-in-AssignArithmetic-2.result.now)) (value_nodes (value_in (types_of_source c.args.source.now) c.deref-in-AssignArithmetic-3.result.now)) (subst (λ v. HasRoom c.args.self.now (names_for (value_nodes (value_in (types_of_source c.args.source.now) v)))) (compound_is c.in-AssignArithmetic.is c.deref-in-AssignArithmetic-2.ensures c.deref-in-AssignArithmetic-3.ensures) c.requires.room) c.in_ok-target-in-AssignArithmetic.ensures.adds))))))

pub assignment-returns-in_err-value-in-AssignArithmetic-clause-code : goal.assignment-returns-in_err-value-in-AssignArithmetic-clause-code
assignment-returns-in_err-value-in-AssignArithmetic-clause-code t c =
    search rules

pub assignment-returns-in_err-value-in-AssignArithmetic-clause-grows : goal.assignment-returns-in_err-value-in-AssignArithmetic-clause-grows
assignment-returns-in_err-value-in-AssignArithmetic-clause-grows t c =
    search rules

pub assignment-returns-in_err-value-in-AssignArithmetic-clause-adds : goal.assignment-returns-in_err-value-in-AssignArithmetic-clause-adds
assignment-returns-in_err-value-in-AssignArithmetic-clause-adds t c =
    search rules

pub assignment-integer-operand-requires : goal.assignment-integer-operand-requires
assignment-integer-operand-requires t c =
    given_integer c.args.source.now c.args.scope.now c.deref-in-AssignArithmetic-3.result.now (compound_value c.args.source.now c.args.scope.now c.in-AssignArithmetic.op c.in-AssignArithmetic.place c.in-AssignArithmetic.object_type c.in-AssignArithmetic.int_type _ c.deref-in-AssignArithmetic-2.result.now _ c.deref-in-AssignArithmetic-3.result.now (subst (λ v. ValueTyped c.args.source.now c.args.scope.now v) (compound_is c.in-AssignArithmetic.is c.deref-in-AssignArithmetic-2.ensures c.deref-in-AssignArithmetic-3.ensures) c.requires.typed)) c.target-in-AssignArithmetic.new.self c.value-in-AssignArithmetic.new.self c.in_ok-value-in-AssignArithmetic.field-0 c.in_ok-value-in-AssignArithmetic.ensures.code

pub assignment-update-requires : goal.assignment-update-requires
assignment-update-requires t c =
    record { room = room_for_two c.args.self.now c.target-in-AssignArithmetic.new.self c.value-in-AssignArithmetic.new.self (object_nodes (object_in (types_of_source c.args.source.now) c.deref-in-AssignArithmetic-2.result.now)) (value_nodes (value_in (types_of_source c.args.source.now) c.deref-in-AssignArithmetic-3.result.now)) (subst (λ v. HasRoom c.args.self.now (names_for (value_nodes (value_in (types_of_source c.args.source.now) v)))) (compound_is c.in-AssignArithmetic.is c.deref-in-AssignArithmetic-2.ensures c.deref-in-AssignArithmetic-3.ensures) c.requires.room) c.in_ok-target-in-AssignArithmetic.ensures.adds c.in_ok-value-in-AssignArithmetic.ensures.adds }

pub assignment-is_pure-is_followed-requires-in-AssignMoved : goal.assignment-is_pure-is_followed-requires-in-AssignMoved
assignment-is_pure-is_followed-requires-in-AssignMoved t c =
    subst (λ t. HomesStand t c.args.scope.now) (sym c.types-in-AssignMoved.ensures) c.requires.homes.stand

pub assignment-target-requires-in-AssignMoved : goal.assignment-target-requires-in-AssignMoved
assignment-target-requires-in-AssignMoved t c = (search (rules, value_lemmas), ((c.requires.source), ((c.requires.homes), ((object_typed c.args.source.now c.args.scope.now (points_to_complete c.args.source.now c.args.scope.now) c.deref-in-AssignMoved-2.result.now (moved_object c.args.source.now c.args.scope.now c.in-AssignMoved.is_minus c.in-AssignMoved.place _ c.deref-in-AssignMoved-2.result.now _ c.deref-in-AssignMoved.result.now (subst (λ v. ValueTyped c.args.source.now c.args.scope.now v) (moved_is c.in-AssignMoved.is c.deref-in-AssignMoved-2.ensures c.deref-in-AssignMoved.ensures) c.requires.typed))), ((object_lowering_lie_left (scope_of c.args.source.now c.args.scope.now) (λ number. takes_in number (object_in (types_of_source c.args.source.now) c.deref-in-AssignMoved-2.result.now)) (λ number. takes false number (value_in (types_of_source c.args.source.now) c.deref-in-AssignMoved.result.now)) (subst (λ v. ValueLives (scope_of c.args.source.now c.args.scope.now) (mode_of c.args.mode) (value_in (types_of_source c.args.source.now) v)) (moved_is c.in-AssignMoved.is c.deref-in-AssignMoved-2.ensures c.deref-in-AssignMoved.ensures) c.requires.lives).taken), (object_lowering_room_first c.args.self.now (object_nodes (object_in (types_of_source c.args.source.now) c.deref-in-AssignMoved-2.result.now)) (value_nodes (value_in (types_of_source c.args.source.now) c.deref-in-AssignMoved.result.now)) (subst (λ v. HasRoom c.args.self.now (names_for (value_nodes (value_in (types_of_source c.args.source.now) v)))) (moved_is c.in-AssignMoved.is c.deref-in-AssignMoved-2.ensures c.deref-in-AssignMoved.ensures) c.requires.room)))))))

pub assignment-returns-in_err-target-in-AssignMoved-clause-code : goal.assignment-returns-in_err-target-in-AssignMoved-clause-code
assignment-returns-in_err-target-in-AssignMoved-clause-code t c =
    search rules

pub assignment-returns-in_err-target-in-AssignMoved-clause-grows : goal.assignment-returns-in_err-target-in-AssignMoved-clause-grows
assignment-returns-in_err-target-in-AssignMoved-clause-grows t c =
    search rules

pub assignment-returns-in_err-target-in-AssignMoved-clause-adds : goal.assignment-returns-in_err-target-in-AssignMoved-clause-adds
assignment-returns-in_err-target-in-AssignMoved-clause-adds t c =
    search rules

pub assignment-value-requires-in-AssignMoved : goal.assignment-value-requires-in-AssignMoved
assignment-value-requires-in-AssignMoved t c = (search (rules, value_lemmas), ((c.requires.source), ((c.requires.homes), ((value_typed c.args.source.now c.args.scope.now is_integer c.deref-in-AssignMoved-3.result.now (moved_value c.args.source.now c.args.scope.now c.in-AssignMoved.is_minus c.in-AssignMoved.place _ c.deref-in-AssignMoved-2.result.now _ c.deref-in-AssignMoved-3.result.now (subst (λ v. ValueTyped c.args.source.now c.args.scope.now v) (moved_is c.in-AssignMoved.is c.deref-in-AssignMoved-2.ensures c.deref-in-AssignMoved-3.ensures) c.requires.typed))), ((kept_lives (scope_of c.args.source.now c.args.scope.now) (value_in (types_of_source c.args.source.now) c.deref-in-AssignMoved-3.result.now) (object_lowering_lie_right (scope_of c.args.source.now c.args.scope.now) (λ number. takes_in number (object_in (types_of_source c.args.source.now) c.deref-in-AssignMoved-2.result.now)) (λ number. takes false number (value_in (types_of_source c.args.source.now) c.deref-in-AssignMoved-3.result.now)) (subst (λ v. ValueLives (scope_of c.args.source.now c.args.scope.now) (mode_of c.args.mode) (value_in (types_of_source c.args.source.now) v)) (moved_is c.in-AssignMoved.is c.deref-in-AssignMoved-2.ensures c.deref-in-AssignMoved-3.ensures) c.requires.lives).taken)), (object_lowering_room_second c.args.self.now c.target-in-AssignMoved.new.self (object_nodes (object_in (types_of_source c.args.source.now) c.deref-in-AssignMoved-2.result.now)) (value_nodes (value_in (types_of_source c.args.source.now) c.deref-in-AssignMoved-3.result.now)) (subst (λ v. HasRoom c.args.self.now (names_for (value_nodes (value_in (types_of_source c.args.source.now) v)))) (moved_is c.in-AssignMoved.is c.deref-in-AssignMoved-2.ensures c.deref-in-AssignMoved-3.ensures) c.requires.room) c.in_ok-target-in-AssignMoved.ensures.adds))))))

pub assignment-returns-in_err-value-in-AssignMoved-clause-code : goal.assignment-returns-in_err-value-in-AssignMoved-clause-code
assignment-returns-in_err-value-in-AssignMoved-clause-code t c =
    search rules

pub assignment-returns-in_err-value-in-AssignMoved-clause-grows : goal.assignment-returns-in_err-value-in-AssignMoved-clause-grows
assignment-returns-in_err-value-in-AssignMoved-clause-grows t c =
    search rules

pub assignment-returns-in_err-value-in-AssignMoved-clause-adds : goal.assignment-returns-in_err-value-in-AssignMoved-clause-adds
assignment-returns-in_err-value-in-AssignMoved-clause-adds t c =
    search rules

pub assignment-integer-number-requires : goal.assignment-integer-number-requires
assignment-integer-number-requires t c =
    given_integer c.args.source.now c.args.scope.now c.deref-in-AssignMoved-3.result.now (moved_value c.args.source.now c.args.scope.now c.in-AssignMoved.is_minus c.in-AssignMoved.place _ c.deref-in-AssignMoved-2.result.now _ c.deref-in-AssignMoved-3.result.now (subst (λ v. ValueTyped c.args.source.now c.args.scope.now v) (moved_is c.in-AssignMoved.is c.deref-in-AssignMoved-2.ensures c.deref-in-AssignMoved-3.ensures) c.requires.typed)) c.target-in-AssignMoved.new.self c.value-in-AssignMoved.new.self c.in_ok-value-in-AssignMoved.field-0 c.in_ok-value-in-AssignMoved.ensures.code

pub assignment-shift-requires-clause-target : goal.assignment-shift-requires-clause-target
assignment-shift-requires-clause-target t c =
    target_points c.args.source.now c.args.scope.now c.deref-in-AssignMoved-2.result.now (moved_object c.args.source.now c.args.scope.now c.in-AssignMoved.is_minus c.in-AssignMoved.place _ c.deref-in-AssignMoved-2.result.now _ c.deref-in-AssignMoved-3.result.now (subst (λ v. ValueTyped c.args.source.now c.args.scope.now v) (moved_is c.in-AssignMoved.is c.deref-in-AssignMoved-2.ensures c.deref-in-AssignMoved-3.ensures) c.requires.typed)) (not c.is_pure-is_followed-in-AssignMoved.result) c.args.self.now c.target-in-AssignMoved.new.self c.in_ok-target-in-AssignMoved.target c.types-in-AssignMoved-2.result.now c.types-in-AssignMoved-2.ensures c.in_ok-target-in-AssignMoved.ensures.code

pub assignment-shift-requires-clause-room : goal.assignment-shift-requires-clause-room
assignment-shift-requires-clause-room t c =
    room_for_two c.args.self.now c.target-in-AssignMoved.new.self c.value-in-AssignMoved.new.self (object_nodes (object_in (types_of_source c.args.source.now) c.deref-in-AssignMoved-2.result.now)) (value_nodes (value_in (types_of_source c.args.source.now) c.deref-in-AssignMoved-3.result.now)) (subst (λ v. HasRoom c.args.self.now (names_for (value_nodes (value_in (types_of_source c.args.source.now) v)))) (moved_is c.in-AssignMoved.is c.deref-in-AssignMoved-2.ensures c.deref-in-AssignMoved-3.ensures) c.requires.room) c.in_ok-target-in-AssignMoved.ensures.adds c.in_ok-value-in-AssignMoved.ensures.adds

pub assignment-target-requires-in-StepInteger : goal.assignment-target-requires-in-StepInteger
assignment-target-requires-in-StepInteger t c = (search (rules, value_lemmas), ((c.requires.source), ((c.requires.homes), ((object_typed c.args.source.now c.args.scope.now (is_the c.args.source.now c.args.scope.now c.in-StepInteger.int_type) c.deref-in-StepInteger.result.now (step_object c.args.source.now c.args.scope.now c.in-StepInteger.stepping c.in-StepInteger.place c.in-StepInteger.int_type _ c.deref-in-StepInteger.result.now (subst (λ v. ValueTyped c.args.source.now c.args.scope.now v) (step_is c.in-StepInteger.is c.deref-in-StepInteger.ensures) c.requires.typed))), (((subst (λ v. ValueLives (scope_of c.args.source.now c.args.scope.now) (mode_of c.args.mode) (value_in (types_of_source c.args.source.now) v)) (step_is c.in-StepInteger.is c.deref-in-StepInteger.ensures) c.requires.lives).taken), (room_of_one c.args.self.now (object_nodes (object_in (types_of_source c.args.source.now) c.deref-in-StepInteger.result.now)) (subst (λ v. HasRoom c.args.self.now (names_for (value_nodes (value_in (types_of_source c.args.source.now) v)))) (step_is c.in-StepInteger.is c.deref-in-StepInteger.ensures) c.requires.room)))))))

pub assignment-returns-in_err-target-in-StepInteger-clause-code : goal.assignment-returns-in_err-target-in-StepInteger-clause-code
assignment-returns-in_err-target-in-StepInteger-clause-code t c =
    search rules

pub assignment-returns-in_err-target-in-StepInteger-clause-grows : goal.assignment-returns-in_err-target-in-StepInteger-clause-grows
assignment-returns-in_err-target-in-StepInteger-clause-grows t c =
    search rules

pub assignment-returns-in_err-target-in-StepInteger-clause-adds : goal.assignment-returns-in_err-target-in-StepInteger-clause-adds
assignment-returns-in_err-target-in-StepInteger-clause-adds t c =
    search rules

pub assignment-step_integer-requires : goal.assignment-step_integer-requires
assignment-step_integer-requires t c =
    record { room = room_step c.args.self.now c.target-in-StepInteger.new.self (object_nodes (object_in (types_of_source c.args.source.now) c.deref-in-StepInteger.result.now)) (subst (λ v. HasRoom c.args.self.now (names_for (value_nodes (value_in (types_of_source c.args.source.now) v)))) (step_is c.in-StepInteger.is c.deref-in-StepInteger.ensures) c.requires.room) c.in_ok-target-in-StepInteger.ensures.adds }

pub assignment-target-requires-in-StepPointer : goal.assignment-target-requires-in-StepPointer
assignment-target-requires-in-StepPointer t c = (search (rules, value_lemmas), ((c.requires.source), ((c.requires.homes), ((object_typed c.args.source.now c.args.scope.now (points_to_complete c.args.source.now c.args.scope.now) c.deref-in-StepPointer.result.now (step_pointer c.args.source.now c.args.scope.now c.in-StepPointer.stepping c.in-StepPointer.place _ c.deref-in-StepPointer.result.now (subst (λ v. ValueTyped c.args.source.now c.args.scope.now v) (step_pointer_is c.in-StepPointer.is c.deref-in-StepPointer.ensures) c.requires.typed))), (((subst (λ v. ValueLives (scope_of c.args.source.now c.args.scope.now) (mode_of c.args.mode) (value_in (types_of_source c.args.source.now) v)) (step_pointer_is c.in-StepPointer.is c.deref-in-StepPointer.ensures) c.requires.lives).taken), (room_of_one c.args.self.now (object_nodes (object_in (types_of_source c.args.source.now) c.deref-in-StepPointer.result.now)) (subst (λ v. HasRoom c.args.self.now (names_for (value_nodes (value_in (types_of_source c.args.source.now) v)))) (step_pointer_is c.in-StepPointer.is c.deref-in-StepPointer.ensures) c.requires.room)))))))

pub assignment-returns-in_err-target-in-StepPointer-clause-code : goal.assignment-returns-in_err-target-in-StepPointer-clause-code
assignment-returns-in_err-target-in-StepPointer-clause-code t c =
    search rules

pub assignment-returns-in_err-target-in-StepPointer-clause-grows : goal.assignment-returns-in_err-target-in-StepPointer-clause-grows
assignment-returns-in_err-target-in-StepPointer-clause-grows t c =
    search rules

pub assignment-returns-in_err-target-in-StepPointer-clause-adds : goal.assignment-returns-in_err-target-in-StepPointer-clause-adds
assignment-returns-in_err-target-in-StepPointer-clause-adds t c =
    search rules

pub assignment-returns-in_err-new-in-StepPointer-clause-code : goal.assignment-returns-in_err-new-in-StepPointer-clause-code
assignment-returns-in_err-new-in-StepPointer-clause-code t c =
    search rules

pub assignment-returns-in_err-new-in-StepPointer-clause-grows : goal.assignment-returns-in_err-new-in-StepPointer-clause-grows
assignment-returns-in_err-new-in-StepPointer-clause-grows t c =
    search rules

pub assignment-returns-in_err-new-in-StepPointer-clause-adds : goal.assignment-returns-in_err-new-in-StepPointer-clause-adds
assignment-returns-in_err-new-in-StepPointer-clause-adds t c =
    search rules

pub assignment-shift-requires-in-StepPointer-clause-target : goal.assignment-shift-requires-in-StepPointer-clause-target
assignment-shift-requires-in-StepPointer-clause-target t c =
    target_points c.args.source.now c.args.scope.now c.deref-in-StepPointer.result.now (step_pointer c.args.source.now c.args.scope.now c.in-StepPointer.stepping c.in-StepPointer.place _ c.deref-in-StepPointer.result.now (subst (λ v. ValueTyped c.args.source.now c.args.scope.now v) (step_pointer_is c.in-StepPointer.is c.deref-in-StepPointer.ensures) c.requires.typed)) false c.args.self.now c.target-in-StepPointer.new.self c.in_ok-target-in-StepPointer.target c.types-in-StepPointer.result.now c.types-in-StepPointer.ensures c.in_ok-target-in-StepPointer.ensures.code

pub assignment-shift-requires-in-StepPointer-clause-room : goal.assignment-shift-requires-in-StepPointer-clause-room
assignment-shift-requires-in-StepPointer-clause-room t c =
    room_step c.args.self.now c.target-in-StepPointer.new.self (object_nodes (object_in (types_of_source c.args.source.now) c.deref-in-StepPointer.result.now)) (subst (λ v. HasRoom c.args.self.now (names_for (value_nodes (value_in (types_of_source c.args.source.now) v)))) (step_pointer_is c.in-StepPointer.is c.deref-in-StepPointer.ensures) c.requires.room) c.in_ok-target-in-StepPointer.ensures.adds

pub assignment-unreachable-requires : goal.assignment-unreachable-requires
assignment-unreachable-requires t c =
    absurd (no_assignment c.args.value.now c.requires.kind c.in_default.not-Assign c.in_default.not-AssignArithmetic c.in_default.not-AssignMoved c.in_default.not-StepInteger c.in_default.not-StepPointer)

pub assignment-unreachable-unreachable : goal.assignment-unreachable-unreachable
assignment-unreachable-unreachable t c =
    absurd (no_assignment c.args.value.now c.requires.kind c.in_default.not-Assign c.in_default.not-AssignArithmetic c.in_default.not-AssignMoved c.in_default.not-StepInteger c.in_default.not-StepPointer)

pub assignment-returns-in_ok-given-in-Assign-clause-code : goal.assignment-returns-in_ok-given-in-Assign-clause-code
assignment-returns-in_ok-given-in-Assign-clause-code t c =
    subst (λ v. IfOk c.assign.result (ValueLowers c.args.source.now c.args.scope.now c.args.mode v c.args.self.now c.assign.new.self)) (sym (assign_is c.in-Assign.is c.deref-in-Assign.ensures c.deref-in-Assign-2.ensures)) (assign_code c.args.source.now c.args.scope.now c.in-Assign.place _ c.deref-in-Assign.result.now _ c.deref-in-Assign-2.result.now c.args.mode c.is_used.result (not c.is_pure-is_followed.result) c.args.self.now c.target.new.self c.value.new.self c.assign.new.self c.in_ok-target-in-Assign.target c.in_ok-given-in-Assign.given c.types-in-Assign.result.now c.assign.result c.types-in-Assign.ensures (subst (λ v. ValueTyped c.args.source.now c.args.scope.now v) (assign_is c.in-Assign.is c.deref-in-Assign.ensures c.deref-in-Assign-2.ensures) c.requires.typed) c.is_used.ensures (ap not (c.is_pure-is_followed.ensures ∙ pure_here c.types.result.now (types_of_source c.args.source.now) c.args.scope.now c.deref.result.now c.deref-in-Assign-2.result.now c.types.ensures (c.deref.ensures ∙ sym c.deref-in-Assign-2.ensures))) c.in_ok-target-in-Assign.ensures.code c.in_ok-given-in-Assign.ensures.code c.in_ok-given-in-Assign.ensures.grows c.assign.ensures.code c.assign.ensures.holds c.assign.ensures.grows)

pub assignment-returns-in_ok-given-in-Assign-clause-grows : goal.assignment-returns-in_ok-given-in-Assign-clause-grows
assignment-returns-in_ok-given-in-Assign-clause-grows t c =
    on_ok_then c.assign.result (λ grows. grows_on c.args.self.now c.target.new.self c.assign.new.self c.in_ok-target-in-Assign.ensures.grows (grows_on c.target.new.self c.value.new.self c.assign.new.self c.in_ok-given-in-Assign.ensures.grows grows)) c.assign.ensures.grows

pub assignment-returns-in_ok-given-in-Assign-clause-adds : goal.assignment-returns-in_ok-given-in-Assign-clause-adds
assignment-returns-in_ok-given-in-Assign-clause-adds t c =
    on_ok_then c.assign.result (λ adds. (subst (λ v. AddsFewer c.args.self.now c.assign.new.self (names_for (value_nodes (value_in (types_of_source c.args.source.now) v)))) (sym (assign_is c.in-Assign.is c.deref-in-Assign.ensures c.deref-in-Assign-2.ensures)) (object_lowering_fewer_last c.args.self.now c.target.new.self c.value.new.self c.assign.new.self (object_nodes (object_in (types_of_source c.args.source.now) c.deref-in-Assign.result.now)) (value_nodes (value_in (types_of_source c.args.source.now) c.deref-in-Assign-2.result.now)) c.in_ok-target-in-Assign.ensures.adds c.in_ok-given-in-Assign.ensures.adds adds))) c.assign.ensures.adds

pub assignment-returns-in_ok-value-in-AssignArithmetic-clause-code : goal.assignment-returns-in_ok-value-in-AssignArithmetic-clause-code
assignment-returns-in_ok-value-in-AssignArithmetic-clause-code t c =
    subst (λ v. IfOk c.update.result (ValueLowers c.args.source.now c.args.scope.now c.args.mode v c.args.self.now c.update.new.self)) (sym (compound_is c.in-AssignArithmetic.is c.deref-in-AssignArithmetic-2.ensures c.deref-in-AssignArithmetic-3.ensures)) (compound_code c.args.source.now c.args.scope.now c.in-AssignArithmetic.op c.in-AssignArithmetic.place c.in-AssignArithmetic.object_type c.in-AssignArithmetic.int_type _ c.deref-in-AssignArithmetic-2.result.now _ c.deref-in-AssignArithmetic-3.result.now c.args.mode c.is_used-in-AssignArithmetic.result (not c.is_pure-is_followed-in-AssignArithmetic.result) c.args.self.now c.target-in-AssignArithmetic.new.self c.value-in-AssignArithmetic.new.self c.update.new.self c.in_ok-target-in-AssignArithmetic.target c.integer-operand.result c.in_ok-value-in-AssignArithmetic.field-0 c.update.result (subst (λ v. ValueTyped c.args.source.now c.args.scope.now v) (compound_is c.in-AssignArithmetic.is c.deref-in-AssignArithmetic-2.ensures c.deref-in-AssignArithmetic-3.ensures) c.requires.typed) c.is_used-in-AssignArithmetic.ensures (ap not (c.is_pure-is_followed-in-AssignArithmetic.ensures ∙ pure_here c.types-in-AssignArithmetic.result.now (types_of_source c.args.source.now) c.args.scope.now c.deref-in-AssignArithmetic.result.now c.deref-in-AssignArithmetic-3.result.now c.types-in-AssignArithmetic.ensures (c.deref-in-AssignArithmetic.ensures ∙ sym c.deref-in-AssignArithmetic-3.ensures))) c.in_ok-target-in-AssignArithmetic.ensures.code c.in_ok-value-in-AssignArithmetic.ensures.code c.in_ok-value-in-AssignArithmetic.ensures.grows c.integer-operand.ensures c.update.ensures.code c.update.ensures.grows)

pub assignment-returns-in_ok-value-in-AssignArithmetic-clause-grows : goal.assignment-returns-in_ok-value-in-AssignArithmetic-clause-grows
assignment-returns-in_ok-value-in-AssignArithmetic-clause-grows t c =
    on_ok_then c.update.result (λ grows. grows_on c.args.self.now c.target-in-AssignArithmetic.new.self c.update.new.self c.in_ok-target-in-AssignArithmetic.ensures.grows (grows_on c.target-in-AssignArithmetic.new.self c.value-in-AssignArithmetic.new.self c.update.new.self c.in_ok-value-in-AssignArithmetic.ensures.grows grows)) c.update.ensures.grows

pub assignment-returns-in_ok-value-in-AssignArithmetic-clause-adds : goal.assignment-returns-in_ok-value-in-AssignArithmetic-clause-adds
assignment-returns-in_ok-value-in-AssignArithmetic-clause-adds t c =
    on_ok_then c.update.result (λ adds. (subst (λ v. AddsFewer c.args.self.now c.update.new.self (names_for (value_nodes (value_in (types_of_source c.args.source.now) v)))) (sym (compound_is c.in-AssignArithmetic.is c.deref-in-AssignArithmetic-2.ensures c.deref-in-AssignArithmetic-3.ensures)) (assignment_lowering_fewer_two c.args.self.now c.target-in-AssignArithmetic.new.self c.value-in-AssignArithmetic.new.self c.update.new.self (object_nodes (object_in (types_of_source c.args.source.now) c.deref-in-AssignArithmetic-2.result.now)) (value_nodes (value_in (types_of_source c.args.source.now) c.deref-in-AssignArithmetic-3.result.now)) c.in_ok-target-in-AssignArithmetic.ensures.adds c.in_ok-value-in-AssignArithmetic.ensures.adds adds))) c.update.ensures.adds

pub assignment-returns-in_ok-value-in-AssignMoved-clause-code : goal.assignment-returns-in_ok-value-in-AssignMoved-clause-code
assignment-returns-in_ok-value-in-AssignMoved-clause-code t c =
    subst (λ v. IfOk c.shift.result (ValueLowers c.args.source.now c.args.scope.now c.args.mode v c.args.self.now c.shift.new.self)) (sym (moved_is c.in-AssignMoved.is c.deref-in-AssignMoved-2.ensures c.deref-in-AssignMoved-3.ensures)) (moved_code c.args.source.now c.args.scope.now c.in-AssignMoved.is_minus c.in-AssignMoved.place _ c.deref-in-AssignMoved-2.result.now _ c.deref-in-AssignMoved-3.result.now c.args.mode (not c.is_pure-is_followed-in-AssignMoved.result) c.args.self.now c.target-in-AssignMoved.new.self c.value-in-AssignMoved.new.self c.shift.new.self c.in_ok-target-in-AssignMoved.target c.integer-number.result c.in_ok-value-in-AssignMoved.field-0 c.types-in-AssignMoved-2.result.now c.shift.result c.types-in-AssignMoved-2.ensures (subst (λ v. ValueTyped c.args.source.now c.args.scope.now v) (moved_is c.in-AssignMoved.is c.deref-in-AssignMoved-2.ensures c.deref-in-AssignMoved-3.ensures) c.requires.typed) (ap not (c.is_pure-is_followed-in-AssignMoved.ensures ∙ pure_here c.types-in-AssignMoved.result.now (types_of_source c.args.source.now) c.args.scope.now c.deref-in-AssignMoved.result.now c.deref-in-AssignMoved-3.result.now c.types-in-AssignMoved.ensures (c.deref-in-AssignMoved.ensures ∙ sym c.deref-in-AssignMoved-3.ensures))) c.in_ok-target-in-AssignMoved.ensures.code c.in_ok-value-in-AssignMoved.ensures.code c.in_ok-value-in-AssignMoved.ensures.grows c.integer-number.ensures c.shift.ensures.code c.shift.ensures.grows)

pub assignment-returns-in_ok-value-in-AssignMoved-clause-grows : goal.assignment-returns-in_ok-value-in-AssignMoved-clause-grows
assignment-returns-in_ok-value-in-AssignMoved-clause-grows t c =
    on_ok_then c.shift.result (λ grows. grows_on c.args.self.now c.target-in-AssignMoved.new.self c.shift.new.self c.in_ok-target-in-AssignMoved.ensures.grows (grows_on c.target-in-AssignMoved.new.self c.value-in-AssignMoved.new.self c.shift.new.self c.in_ok-value-in-AssignMoved.ensures.grows grows)) c.shift.ensures.grows

pub assignment-returns-in_ok-value-in-AssignMoved-clause-adds : goal.assignment-returns-in_ok-value-in-AssignMoved-clause-adds
assignment-returns-in_ok-value-in-AssignMoved-clause-adds t c =
    on_ok_then c.shift.result (λ adds. (subst (λ v. AddsFewer c.args.self.now c.shift.new.self (names_for (value_nodes (value_in (types_of_source c.args.source.now) v)))) (sym (moved_is c.in-AssignMoved.is c.deref-in-AssignMoved-2.ensures c.deref-in-AssignMoved-3.ensures)) (assignment_lowering_fewer_two c.args.self.now c.target-in-AssignMoved.new.self c.value-in-AssignMoved.new.self c.shift.new.self (object_nodes (object_in (types_of_source c.args.source.now) c.deref-in-AssignMoved-2.result.now)) (value_nodes (value_in (types_of_source c.args.source.now) c.deref-in-AssignMoved-3.result.now)) c.in_ok-target-in-AssignMoved.ensures.adds c.in_ok-value-in-AssignMoved.ensures.adds adds))) c.shift.ensures.adds

pub assignment-returns-in_ok-target-in-StepInteger-clause-code : goal.assignment-returns-in_ok-target-in-StepInteger-clause-code
assignment-returns-in_ok-target-in-StepInteger-clause-code t c =
    subst (λ v. IfOk c.step_integer.result (ValueLowers c.args.source.now c.args.scope.now c.args.mode v c.args.self.now c.step_integer.new.self)) (sym (step_is c.in-StepInteger.is c.deref-in-StepInteger.ensures)) (step_integer_code c.args.source.now c.args.scope.now c.in-StepInteger.stepping c.in-StepInteger.place c.in-StepInteger.int_type _ c.deref-in-StepInteger.result.now c.args.mode c.is_used-in-StepInteger.result c.args.self.now c.target-in-StepInteger.new.self c.step_integer.new.self c.in_ok-target-in-StepInteger.target c.step_integer.result (subst (λ v. ValueTyped c.args.source.now c.args.scope.now v) (step_is c.in-StepInteger.is c.deref-in-StepInteger.ensures) c.requires.typed) c.is_used-in-StepInteger.ensures c.in_ok-target-in-StepInteger.ensures.code c.step_integer.ensures.code c.step_integer.ensures.grows)

pub assignment-returns-in_ok-target-in-StepInteger-clause-grows : goal.assignment-returns-in_ok-target-in-StepInteger-clause-grows
assignment-returns-in_ok-target-in-StepInteger-clause-grows t c =
    on_ok_then c.step_integer.result (λ grows. grows_on c.args.self.now c.target-in-StepInteger.new.self c.step_integer.new.self c.in_ok-target-in-StepInteger.ensures.grows grows) c.step_integer.ensures.grows

pub assignment-returns-in_ok-target-in-StepInteger-clause-adds : goal.assignment-returns-in_ok-target-in-StepInteger-clause-adds
assignment-returns-in_ok-target-in-StepInteger-clause-adds t c =
    on_ok_then c.step_integer.result (λ adds. (subst (λ v. AddsFewer c.args.self.now c.step_integer.new.self (names_for (value_nodes (value_in (types_of_source c.args.source.now) v)))) (sym (step_is c.in-StepInteger.is c.deref-in-StepInteger.ensures)) (fewer_step c.args.self.now c.target-in-StepInteger.new.self c.step_integer.new.self (object_nodes (object_in (types_of_source c.args.source.now) c.deref-in-StepInteger.result.now)) c.in_ok-target-in-StepInteger.ensures.adds adds))) c.step_integer.ensures.adds

pub assignment-returns-in_ok-new-in-StepPointer-clause-code : goal.assignment-returns-in_ok-new-in-StepPointer-clause-code
assignment-returns-in_ok-new-in-StepPointer-clause-code t c =
    subst (λ v. IfOk c.shift-in-StepPointer.result (ValueLowers c.args.source.now c.args.scope.now c.args.mode v c.args.self.now c.shift-in-StepPointer.new.self)) (sym (step_pointer_is c.in-StepPointer.is c.deref-in-StepPointer.ensures)) (step_code c.args.source.now c.args.scope.now c.in-StepPointer.stepping c.in-StepPointer.place _ c.deref-in-StepPointer.result.now c.args.mode (not c.is_up.result) (tree_of c.in_ok-new-in-StepPointer.field-0.value) c.of_step.result c.args.self.now c.target-in-StepPointer.new.self c.shift-in-StepPointer.new.self c.in_ok-target-in-StepPointer.target c.types-in-StepPointer.result.now c.shift-in-StepPointer.result c.types-in-StepPointer.ensures (subst (λ v. ValueTyped c.args.source.now c.args.scope.now v) (step_pointer_is c.in-StepPointer.is c.deref-in-StepPointer.ensures) c.requires.typed) (ap not c.is_up.ensures) (ap tree_of c.in_ok-new-in-StepPointer.ensures.ok) c.of_step.ensures c.in_ok-target-in-StepPointer.ensures.code c.shift-in-StepPointer.ensures.code c.shift-in-StepPointer.ensures.grows)

pub assignment-returns-in_ok-new-in-StepPointer-clause-grows : goal.assignment-returns-in_ok-new-in-StepPointer-clause-grows
assignment-returns-in_ok-new-in-StepPointer-clause-grows t c =
    on_ok_then c.shift-in-StepPointer.result (λ grows. grows_on c.args.self.now c.target-in-StepPointer.new.self c.shift-in-StepPointer.new.self c.in_ok-target-in-StepPointer.ensures.grows grows) c.shift-in-StepPointer.ensures.grows

pub assignment-returns-in_ok-new-in-StepPointer-clause-adds : goal.assignment-returns-in_ok-new-in-StepPointer-clause-adds
assignment-returns-in_ok-new-in-StepPointer-clause-adds t c =
    on_ok_then c.shift-in-StepPointer.result (λ adds. (subst (λ v. AddsFewer c.args.self.now c.shift-in-StepPointer.new.self (names_for (value_nodes (value_in (types_of_source c.args.source.now) v)))) (sym (step_pointer_is c.in-StepPointer.is c.deref-in-StepPointer.ensures)) (fewer_step c.args.self.now c.target-in-StepPointer.new.self c.shift-in-StepPointer.new.self (object_nodes (object_in (types_of_source c.args.source.now) c.deref-in-StepPointer.result.now)) c.in_ok-target-in-StepPointer.ensures.adds adds))) c.shift-in-StepPointer.ensures.adds

pub target-object_of-requires : goal.target-object_of-requires
target-object_of-requires t c =
    let table = types_of_source c.args.source.now in
    let points = points_in table c.object.new.self in
    let found = c.in_ok-found-in-None.found in
    object_found table found c.requires.typed.c_type
    (object_form (program_in c.args.source.now) points (scope_of c.args.source.now c.args.scope.now) (object_in table c.args.object.now) false c.args.is_followed c.requires.typed.c_type
    (spot_of table c.args.self.now) (spot_of table c.object.new.self) (lowered_in table found) c.requires.typed.typed (c.in_ok-found-in-None.ensures.code.0 points (fills_same points)))

pub target-returns-in_ok-found-in-None-clause-code : goal.target-returns-in_ok-found-in-None-clause-code
target-returns-in_ok-found-in-None-clause-code t c =
    let table = types_of_source c.args.source.now in
    let found = c.in_ok-found-in-None.found in (
      sym (c.register_home.ensures.home table) ∙ ap (optional_home table) c.in-None.is,
      λ points fills. subst (λ lowered. ObjectCode (program_in c.args.source.now) points (scope_of c.args.source.now c.args.scope.now) false c.args.is_followed (object_in table c.args.object.now)
          (spot_of table c.args.self.now) (spot_of table c.object.new.self) lowered) (c.object_of.ensures table) (c.in_ok-found-in-None.ensures.code.0 points fills),
      object_forms_place_stands found c.object_of.result c.object_of.ensures table c.in_ok-found-in-None.ensures.code.1,
    )

pub object-local-requires : goal.object-local-requires
object-local-requires t c =
    local_there c.args.source.now c.args.scope.now c.in-Local.number (subst (λ o. ObjectTyped c.args.source.now c.args.scope.now o) c.in-Local.is c.requires.typed)

pub object-global-found-requires-clause-source : goal.object-global-found-requires-clause-source
object-global-found-requires-clause-source t c =
    c.requires.source

pub object-global-found-requires-clause-there : goal.object-global-found-requires-clause-there
object-global-found-requires-clause-there t c =
    subst (λ name. is_some (named_global 0 (program_in c.args.source.now).globals name) ≡ true) (sym c.as_slice.ensures) (global_there c.args.source.now c.args.scope.now c.in-Global.name (subst (λ o. ObjectTyped c.args.source.now c.args.scope.now o) c.in-Global.is c.requires.typed))

pub object-literal-requires-clause-source : goal.object-literal-requires-clause-source
object-literal-requires-clause-source t c =
    c.requires.source

pub object-literal-requires-clause-there : goal.object-literal-requires-clause-there
object-literal-requires-clause-there t c =
    literal_there c.args.source.now c.args.scope.now c.in-Literal.place c.in-Literal.bytes c.in-Literal.c_type (subst (λ o. ObjectTyped c.args.source.now c.args.scope.now o) c.in-Literal.is c.requires.typed)

pub object-object-requires : goal.object-object-requires
object-object-requires t c =
    (search (rules, value_lemmas), (c.requires.source, (c.requires.homes, (object_lowering_grouped_typed c.args.source.now c.args.scope.now _ _ c.deref.result.now (subst (λ o. ObjectTyped c.args.source.now c.args.scope.now o) (object_lowering_grouped_is c.in-Grouped.is c.deref.ensures) c.requires.typed), (record { taken = (subst (λ o. ObjectLives (scope_of c.args.source.now c.args.scope.now) c.args.is_kept (object_in (types_of_source c.args.source.now) o)) (object_lowering_grouped_is c.in-Grouped.is c.deref.ensures) c.requires.lives).taken; kept = (subst (λ o. ObjectLives (scope_of c.args.source.now c.args.scope.now) c.args.is_kept (object_in (types_of_source c.args.source.now) o)) (object_lowering_grouped_is c.in-Grouped.is c.deref.ensures) c.requires.lives).kept; memory = (subst (λ o. ObjectLives (scope_of c.args.source.now c.args.scope.now) c.args.is_kept (object_in (types_of_source c.args.source.now) o)) (object_lowering_grouped_is c.in-Grouped.is c.deref.ensures) c.requires.lives).memory }, room_of_one c.args.self.now (object_nodes (object_in (types_of_source c.args.source.now) c.deref.result.now)) (subst (λ o. HasRoom c.args.self.now (names_for (object_nodes (object_in (types_of_source c.args.source.now) o)))) (object_lowering_grouped_is c.in-Grouped.is c.deref.ensures) c.requires.room))))))

pub object-value-requires : goal.object-value-requires
object-value-requires t c = (search (rules, value_lemmas), ((c.requires.source), ((c.requires.homes), ((object_lowering_pointed_typed c.args.source.now c.args.scope.now _ _ c.deref-in-Pointed.result.now (subst (λ o. ObjectTyped c.args.source.now c.args.scope.now o) (object_lowering_pointed_is c.in-Pointed.is c.deref-in-Pointed.ensures) c.requires.typed)), ((object_lowering_pointed_lives (scope_of c.args.source.now c.args.scope.now) c.args.is_kept c.args.is_followed (mode_of c.of_pointer-mode.result) c.in-Pointed.place (value_in (types_of_source c.args.source.now) c.deref-in-Pointed.result.now) c.of_pointer-mode.ensures (subst (λ o. ObjectLives (scope_of c.args.source.now c.args.scope.now) c.args.is_kept (object_in (types_of_source c.args.source.now) o)) (object_lowering_pointed_is c.in-Pointed.is c.deref-in-Pointed.ensures) c.requires.lives)), (room_of_one c.args.self.now (value_nodes (value_in (types_of_source c.args.source.now) c.deref-in-Pointed.result.now)) (subst (λ o. HasRoom c.args.self.now (names_for (object_nodes (object_in (types_of_source c.args.source.now) o)))) (object_lowering_pointed_is c.in-Pointed.is c.deref-in-Pointed.ensures) c.requires.room)))))))

pub object-returns-in_err-found-in-Pointed-clause-code : goal.object-returns-in_err-found-in-Pointed-clause-code
object-returns-in_err-found-in-Pointed-clause-code t c =
    search rules

pub object-returns-in_err-found-in-Pointed-clause-grows : goal.object-returns-in_err-found-in-Pointed-clause-grows
object-returns-in_err-found-in-Pointed-clause-grows t c =
    search rules

pub object-returns-in_err-found-in-Pointed-clause-adds : goal.object-returns-in_err-found-in-Pointed-clause-adds
object-returns-in_err-found-in-Pointed-clause-adds t c =
    search rules

pub object-is_pure-requires : goal.object-is_pure-requires
object-is_pure-requires t c =
    subst (λ t. HomesStand t c.args.scope.now) (sym c.types.ensures) c.requires.homes.stand

pub object-value-requires-in-Element : goal.object-value-requires-in-Element
object-value-requires-in-Element t c = (search (rules, value_lemmas), ((c.requires.source), ((c.requires.homes), ((row_pointer c.args.source.now c.args.scope.now c.deref-in-Element.result.now c.in-Element.number.value _ (element_row c.args.source.now c.args.scope.now _ _ c.deref-in-Element.result.now _ c.in-Element.number.value (subst (λ o. ObjectTyped c.args.source.now c.args.scope.now o) (element_is c.in-Element.is c.deref-in-Element.ensures refl) c.requires.typed))), ((row_lives (scope_of c.args.source.now c.args.scope.now) c.if-is_followed.is_row_followed (value_in (types_of_source c.args.source.now) c.deref-in-Element.result.now) (object_lowering_lie_left (scope_of c.args.source.now c.args.scope.now) (λ number. takes false number (value_in (types_of_source c.args.source.now) c.deref-in-Element.result.now)) (λ number. takes false number (value_in (types_of_source c.args.source.now) c.in-Element.number.value)) (subst (λ o. ObjectLives (scope_of c.args.source.now c.args.scope.now) c.args.is_kept (object_in (types_of_source c.args.source.now) o)) (element_is c.in-Element.is c.deref-in-Element.ensures refl) c.requires.lives).taken)), (object_lowering_room_first c.args.self.now (value_nodes (value_in (types_of_source c.args.source.now) c.deref-in-Element.result.now)) (value_nodes (value_in (types_of_source c.args.source.now) c.in-Element.number.value)) (subst (λ o. HasRoom c.args.self.now (names_for (object_nodes (object_in (types_of_source c.args.source.now) o)))) (element_is c.in-Element.is c.deref-in-Element.ensures refl) c.requires.room)))))))

pub object-returns-in_err-row-in-Element-clause-code : goal.object-returns-in_err-row-in-Element-clause-code
object-returns-in_err-row-in-Element-clause-code t c =
    search rules

pub object-returns-in_err-row-in-Element-clause-grows : goal.object-returns-in_err-row-in-Element-clause-grows
object-returns-in_err-row-in-Element-clause-grows t c =
    search rules

pub object-returns-in_err-row-in-Element-clause-adds : goal.object-returns-in_err-row-in-Element-clause-adds
object-returns-in_err-row-in-Element-clause-adds t c =
    search rules

pub object-value-requires-in-Element-2 : goal.object-value-requires-in-Element-2
object-value-requires-in-Element-2 t c = (search (rules, value_lemmas), ((c.requires.source), ((c.requires.homes), ((row_number c.args.source.now c.args.scope.now c.deref-in-Element.result.now c.deref-in-Element-2.result.now _ (element_row c.args.source.now c.args.scope.now _ _ c.deref-in-Element.result.now _ c.deref-in-Element-2.result.now (subst (λ o. ObjectTyped c.args.source.now c.args.scope.now o) (element_is c.in-Element.is c.deref-in-Element.ensures c.deref-in-Element-2.ensures) c.requires.typed))), ((kept_lives (scope_of c.args.source.now c.args.scope.now) (value_in (types_of_source c.args.source.now) c.deref-in-Element-2.result.now) (object_lowering_lie_right (scope_of c.args.source.now c.args.scope.now) (λ number. takes false number (value_in (types_of_source c.args.source.now) c.deref-in-Element.result.now)) (λ number. takes false number (value_in (types_of_source c.args.source.now) c.deref-in-Element-2.result.now)) (subst (λ o. ObjectLives (scope_of c.args.source.now c.args.scope.now) c.args.is_kept (object_in (types_of_source c.args.source.now) o)) (element_is c.in-Element.is c.deref-in-Element.ensures c.deref-in-Element-2.ensures) c.requires.lives).taken)), (object_lowering_room_second c.args.self.now c.value-in-Element.new.self (value_nodes (value_in (types_of_source c.args.source.now) c.deref-in-Element.result.now)) (value_nodes (value_in (types_of_source c.args.source.now) c.deref-in-Element-2.result.now)) (subst (λ o. HasRoom c.args.self.now (names_for (object_nodes (object_in (types_of_source c.args.source.now) o)))) (element_is c.in-Element.is c.deref-in-Element.ensures c.deref-in-Element-2.ensures) c.requires.room) c.in_ok-row-in-Element.ensures.adds))))))

pub object-returns-in_err-value-in-Element-clause-code : goal.object-returns-in_err-value-in-Element-clause-code
object-returns-in_err-value-in-Element-clause-code t c =
    search rules

pub object-returns-in_err-value-in-Element-clause-grows : goal.object-returns-in_err-value-in-Element-clause-grows
object-returns-in_err-value-in-Element-clause-grows t c =
    search rules

pub object-returns-in_err-value-in-Element-clause-adds : goal.object-returns-in_err-value-in-Element-clause-adds
object-returns-in_err-value-in-Element-clause-adds t c =
    search rules

pub object-integer-index-requires : goal.object-integer-index-requires
object-integer-index-requires t c =
    row_integer c.args.source.now c.args.scope.now c.deref-in-Element.result.now c.deref-in-Element-2.result.now _ (element_row c.args.source.now c.args.scope.now _ _ c.deref-in-Element.result.now _ c.deref-in-Element-2.result.now (subst (λ o. ObjectTyped c.args.source.now c.args.scope.now o) (element_is c.in-Element.is c.deref-in-Element.ensures c.deref-in-Element-2.ensures) c.requires.typed)) c.value-in-Element.new.self c.value-in-Element-2.new.self c.in_ok-value-in-Element.field-0 c.in_ok-value-in-Element.ensures.code

pub object-indexed-requires-clause-row : goal.object-indexed-requires-clause-row
object-indexed-requires-clause-row t c =
    row_is c.args.source.now c.args.scope.now c.deref-in-Element.result.now c.deref-in-Element-2.result.now _ (element_row c.args.source.now c.args.scope.now _ _ c.deref-in-Element.result.now _ c.deref-in-Element-2.result.now (subst (λ o. ObjectTyped c.args.source.now c.args.scope.now o) (element_is c.in-Element.is c.deref-in-Element.ensures c.deref-in-Element-2.ensures) c.requires.typed)) c.if-is_followed.is_row_followed c.args.self.now c.value-in-Element.new.self c.in_ok-row-in-Element.row c.types-in-Element.result.now c.types-in-Element.ensures c.in_ok-row-in-Element.ensures.code

pub object-indexed-requires-clause-room : goal.object-indexed-requires-clause-room
object-indexed-requires-clause-room t c =
    object_lowering_room_last c.args.self.now c.value-in-Element.new.self c.value-in-Element-2.new.self (value_nodes (value_in (types_of_source c.args.source.now) c.deref-in-Element.result.now)) (value_nodes (value_in (types_of_source c.args.source.now) c.deref-in-Element-2.result.now)) (subst (λ o. HasRoom c.args.self.now (names_for (object_nodes (object_in (types_of_source c.args.source.now) o)))) (element_is c.in-Element.is c.deref-in-Element.ensures c.deref-in-Element-2.ensures) c.requires.room) c.in_ok-row-in-Element.ensures.adds c.in_ok-value-in-Element.ensures.adds

pub object-value-requires-in-ElementOf : goal.object-value-requires-in-ElementOf
object-value-requires-in-ElementOf t c = (search (rules, value_lemmas), ((c.requires.source), ((c.requires.homes), ((row_number c.args.source.now c.args.scope.now c.in-ElementOf.pointer.value c.deref-in-ElementOf.result.now _ (element_of_row c.args.source.now c.args.scope.now _ _ c.deref-in-ElementOf.result.now _ c.in-ElementOf.pointer.value (subst (λ o. ObjectTyped c.args.source.now c.args.scope.now o) (element_of_is c.in-ElementOf.is c.deref-in-ElementOf.ensures refl) c.requires.typed))), ((kept_lives (scope_of c.args.source.now c.args.scope.now) (value_in (types_of_source c.args.source.now) c.deref-in-ElementOf.result.now) (object_lowering_lie_left (scope_of c.args.source.now c.args.scope.now) (λ number. takes false number (value_in (types_of_source c.args.source.now) c.deref-in-ElementOf.result.now)) (λ number. takes false number (value_in (types_of_source c.args.source.now) c.in-ElementOf.pointer.value)) (subst (λ o. ObjectLives (scope_of c.args.source.now c.args.scope.now) c.args.is_kept (object_in (types_of_source c.args.source.now) o)) (element_of_is c.in-ElementOf.is c.deref-in-ElementOf.ensures refl) c.requires.lives).taken)), (object_lowering_room_first c.args.self.now (value_nodes (value_in (types_of_source c.args.source.now) c.deref-in-ElementOf.result.now)) (value_nodes (value_in (types_of_source c.args.source.now) c.in-ElementOf.pointer.value)) (subst (λ o. HasRoom c.args.self.now (names_for (object_nodes (object_in (types_of_source c.args.source.now) o)))) (element_of_is c.in-ElementOf.is c.deref-in-ElementOf.ensures refl) c.requires.room)))))))

pub object-returns-in_err-value-in-ElementOf-clause-code : goal.object-returns-in_err-value-in-ElementOf-clause-code
object-returns-in_err-value-in-ElementOf-clause-code t c =
    search rules

pub object-returns-in_err-value-in-ElementOf-clause-grows : goal.object-returns-in_err-value-in-ElementOf-clause-grows
object-returns-in_err-value-in-ElementOf-clause-grows t c =
    search rules

pub object-returns-in_err-value-in-ElementOf-clause-adds : goal.object-returns-in_err-value-in-ElementOf-clause-adds
object-returns-in_err-value-in-ElementOf-clause-adds t c =
    search rules

pub object-integer-index-requires-in-ElementOf : goal.object-integer-index-requires-in-ElementOf
object-integer-index-requires-in-ElementOf t c =
    row_integer c.args.source.now c.args.scope.now c.in-ElementOf.pointer.value c.deref-in-ElementOf.result.now _ (element_of_row c.args.source.now c.args.scope.now _ _ c.deref-in-ElementOf.result.now _ c.in-ElementOf.pointer.value (subst (λ o. ObjectTyped c.args.source.now c.args.scope.now o) (element_of_is c.in-ElementOf.is c.deref-in-ElementOf.ensures refl) c.requires.typed)) c.args.self.now c.value-in-ElementOf.new.self c.in_ok-value-in-ElementOf.field-0 c.in_ok-value-in-ElementOf.ensures.code

pub object-keep-requires : goal.object-keep-requires
object-keep-requires t c =
    record { room = object_lowering_room_keep c.args.self.now c.value-in-ElementOf.new.self (value_nodes (value_in (types_of_source c.args.source.now) c.deref-in-ElementOf.result.now)) (value_nodes (value_in (types_of_source c.args.source.now) c.in-ElementOf.pointer.value)) (subst (λ o. HasRoom c.args.self.now (names_for (object_nodes (object_in (types_of_source c.args.source.now) o)))) (element_of_is c.in-ElementOf.is c.deref-in-ElementOf.ensures refl) c.requires.room) c.in_ok-value-in-ElementOf.ensures.adds }

pub object-returns-in_err-kept-in-ElementOf-clause-code : goal.object-returns-in_err-kept-in-ElementOf-clause-code
object-returns-in_err-kept-in-ElementOf-clause-code t c =
    search rules

pub object-returns-in_err-kept-in-ElementOf-clause-grows : goal.object-returns-in_err-kept-in-ElementOf-clause-grows
object-returns-in_err-kept-in-ElementOf-clause-grows t c =
    search rules

pub object-returns-in_err-kept-in-ElementOf-clause-adds : goal.object-returns-in_err-kept-in-ElementOf-clause-adds
object-returns-in_err-kept-in-ElementOf-clause-adds t c =
    search rules

pub object-value-requires-in-ElementOf-2 : goal.object-value-requires-in-ElementOf-2
object-value-requires-in-ElementOf-2 t c = (search (rules, value_lemmas), ((c.requires.source), ((c.requires.homes), ((row_pointer c.args.source.now c.args.scope.now c.deref-in-ElementOf-2.result.now c.deref-in-ElementOf.result.now _ (element_of_row c.args.source.now c.args.scope.now _ _ c.deref-in-ElementOf.result.now _ c.deref-in-ElementOf-2.result.now (subst (λ o. ObjectTyped c.args.source.now c.args.scope.now o) (element_of_is c.in-ElementOf.is c.deref-in-ElementOf.ensures c.deref-in-ElementOf-2.ensures) c.requires.typed))), ((row_lives (scope_of c.args.source.now c.args.scope.now) c.args.is_followed (value_in (types_of_source c.args.source.now) c.deref-in-ElementOf-2.result.now) (object_lowering_lie_right (scope_of c.args.source.now c.args.scope.now) (λ number. takes false number (value_in (types_of_source c.args.source.now) c.deref-in-ElementOf.result.now)) (λ number. takes false number (value_in (types_of_source c.args.source.now) c.deref-in-ElementOf-2.result.now)) (subst (λ o. ObjectLives (scope_of c.args.source.now c.args.scope.now) c.args.is_kept (object_in (types_of_source c.args.source.now) o)) (element_of_is c.in-ElementOf.is c.deref-in-ElementOf.ensures c.deref-in-ElementOf-2.ensures) c.requires.lives).taken)), (object_lowering_room_kept c.args.self.now c.value-in-ElementOf.new.self c.keep.new.self (value_nodes (value_in (types_of_source c.args.source.now) c.deref-in-ElementOf.result.now)) (value_nodes (value_in (types_of_source c.args.source.now) c.deref-in-ElementOf-2.result.now)) (subst (λ o. HasRoom c.args.self.now (names_for (object_nodes (object_in (types_of_source c.args.source.now) o)))) (element_of_is c.in-ElementOf.is c.deref-in-ElementOf.ensures c.deref-in-ElementOf-2.ensures) c.requires.room) c.in_ok-value-in-ElementOf.ensures.adds c.in_ok-kept-in-ElementOf.ensures.adds))))))

pub object-returns-in_err-row-in-ElementOf-clause-code : goal.object-returns-in_err-row-in-ElementOf-clause-code
object-returns-in_err-row-in-ElementOf-clause-code t c =
    search rules

pub object-returns-in_err-row-in-ElementOf-clause-grows : goal.object-returns-in_err-row-in-ElementOf-clause-grows
object-returns-in_err-row-in-ElementOf-clause-grows t c =
    search rules

pub object-returns-in_err-row-in-ElementOf-clause-adds : goal.object-returns-in_err-row-in-ElementOf-clause-adds
object-returns-in_err-row-in-ElementOf-clause-adds t c =
    search rules

pub object-indexed-requires-in-ElementOf-clause-row : goal.object-indexed-requires-in-ElementOf-clause-row
object-indexed-requires-in-ElementOf-clause-row t c =
    row_is c.args.source.now c.args.scope.now c.deref-in-ElementOf-2.result.now c.deref-in-ElementOf.result.now _ (element_of_row c.args.source.now c.args.scope.now _ _ c.deref-in-ElementOf.result.now _ c.deref-in-ElementOf-2.result.now (subst (λ o. ObjectTyped c.args.source.now c.args.scope.now o) (element_of_is c.in-ElementOf.is c.deref-in-ElementOf.ensures c.deref-in-ElementOf-2.ensures) c.requires.typed)) c.args.is_followed c.keep.new.self c.value-in-ElementOf-2.new.self c.in_ok-row-in-ElementOf.row c.types-in-ElementOf.result.now c.types-in-ElementOf.ensures c.in_ok-row-in-ElementOf.ensures.code

pub object-indexed-requires-in-ElementOf-clause-room : goal.object-indexed-requires-in-ElementOf-clause-room
object-indexed-requires-in-ElementOf-clause-room t c =
    object_lowering_room_kept_last c.args.self.now c.value-in-ElementOf.new.self c.keep.new.self c.value-in-ElementOf-2.new.self (value_nodes (value_in (types_of_source c.args.source.now) c.deref-in-ElementOf.result.now)) (value_nodes (value_in (types_of_source c.args.source.now) c.deref-in-ElementOf-2.result.now)) (subst (λ o. HasRoom c.args.self.now (names_for (object_nodes (object_in (types_of_source c.args.source.now) o)))) (element_of_is c.in-ElementOf.is c.deref-in-ElementOf.ensures c.deref-in-ElementOf-2.ensures) c.requires.room) c.in_ok-value-in-ElementOf.ensures.adds c.in_ok-kept-in-ElementOf.ensures.adds c.in_ok-row-in-ElementOf.ensures.adds

pub object-object-requires-in-MemberOf : goal.object-object-requires-in-MemberOf
object-object-requires-in-MemberOf t c =
    (search (rules, value_lemmas), (c.requires.source, (c.requires.homes, (member_typed c.args.source.now c.args.scope.now _ _ c.deref-in-MemberOf.result.now c.in-MemberOf.number (subst (λ o. ObjectTyped c.args.source.now c.args.scope.now o) (member_is c.in-MemberOf.is c.deref-in-MemberOf.ensures) c.requires.typed), (member_lives c.args.source.now c.args.scope.now c.in-MemberOf.place _ c.deref-in-MemberOf.result.now c.in-MemberOf.number c.args.is_kept c.requires.homes (subst (λ o. ObjectTyped c.args.source.now c.args.scope.now o) (member_is c.in-MemberOf.is c.deref-in-MemberOf.ensures) c.requires.typed) (subst (λ o. ObjectLives (scope_of c.args.source.now c.args.scope.now) c.args.is_kept (object_in (types_of_source c.args.source.now) o)) (member_is c.in-MemberOf.is c.deref-in-MemberOf.ensures) c.requires.lives), room_of_one c.args.self.now (object_nodes (object_in (types_of_source c.args.source.now) c.deref-in-MemberOf.result.now)) (subst (λ o. HasRoom c.args.self.now (names_for (object_nodes (object_in (types_of_source c.args.source.now) o)))) (member_is c.in-MemberOf.is c.deref-in-MemberOf.ensures) c.requires.room))))))

pub object-returns-in_err-found-in-MemberOf-clause-code : goal.object-returns-in_err-found-in-MemberOf-clause-code
object-returns-in_err-found-in-MemberOf-clause-code t c =
    search rules

pub object-returns-in_err-found-in-MemberOf-clause-grows : goal.object-returns-in_err-found-in-MemberOf-clause-grows
object-returns-in_err-found-in-MemberOf-clause-grows t c =
    search rules

pub object-returns-in_err-found-in-MemberOf-clause-adds : goal.object-returns-in_err-found-in-MemberOf-clause-adds
object-returns-in_err-found-in-MemberOf-clause-adds t c =
    search rules

pub object-object_of-requires : goal.object-object_of-requires
object-object_of-requires t c =
    part_found c.args.source.now c.args.scope.now c.deref-in-MemberOf.result.now (member_part c.args.source.now c.args.scope.now _ _ c.deref-in-MemberOf.result.now c.in-MemberOf.number (subst (λ o. ObjectTyped c.args.source.now c.args.scope.now o) (member_is c.in-MemberOf.is c.deref-in-MemberOf.ensures) c.requires.typed)).own (member_part c.args.source.now c.args.scope.now _ _ c.deref-in-MemberOf.result.now c.in-MemberOf.number (subst (λ o. ObjectTyped c.args.source.now c.args.scope.now o) (member_is c.in-MemberOf.is c.deref-in-MemberOf.ensures) c.requires.typed)).typed c.args.is_followed c.args.self.now c.object-in-MemberOf.new.self c.in_ok-found-in-MemberOf.found c.in_ok-found-in-MemberOf.ensures.code

pub object-member-requires-clause-stands : goal.object-member-requires-clause-stands
object-member-requires-clause-stands t c =
    part_stands c.args.source.now c.args.scope.now c.deref-in-MemberOf.result.now c.args.is_followed c.args.self.now c.object-in-MemberOf.new.self c.in_ok-found-in-MemberOf.found c.object_of.result c.types-in-MemberOf.result.now c.types-in-MemberOf.ensures c.in_ok-found-in-MemberOf.ensures.code c.object_of.ensures

pub object-member-requires-clause-there : goal.object-member-requires-clause-there
object-member-requires-clause-there t c =
    part_member c.args.source.now c.args.scope.now c.deref-in-MemberOf.result.now c.in-MemberOf.number _ (member_part c.args.source.now c.args.scope.now _ _ c.deref-in-MemberOf.result.now c.in-MemberOf.number (subst (λ o. ObjectTyped c.args.source.now c.args.scope.now o) (member_is c.in-MemberOf.is c.deref-in-MemberOf.ensures) c.requires.typed)) c.args.is_followed c.args.self.now c.object-in-MemberOf.new.self c.in_ok-found-in-MemberOf.found c.object_of.result c.types-in-MemberOf.result.now c.types-in-MemberOf.ensures c.in_ok-found-in-MemberOf.ensures.code c.object_of.ensures

pub object-value-requires-in-PointedMember : goal.object-value-requires-in-PointedMember
object-value-requires-in-PointedMember t c = (search (rules, value_lemmas), ((c.requires.source), ((c.requires.homes), ((behind_typed c.args.source.now c.args.scope.now _ _ c.deref-in-PointedMember.result.now c.in-PointedMember.number (subst (λ o. ObjectTyped c.args.source.now c.args.scope.now o) (behind_is c.in-PointedMember.is c.deref-in-PointedMember.ensures) c.requires.typed)), ((behind_lives c.args.source.now c.args.scope.now c.in-PointedMember.place _ c.deref-in-PointedMember.result.now c.in-PointedMember.number c.args.is_kept c.args.is_followed c.requires.homes (subst (λ o. ObjectTyped c.args.source.now c.args.scope.now o) (behind_is c.in-PointedMember.is c.deref-in-PointedMember.ensures) c.requires.typed) (subst (λ o. ObjectLives (scope_of c.args.source.now c.args.scope.now) c.args.is_kept (object_in (types_of_source c.args.source.now) o)) (behind_is c.in-PointedMember.is c.deref-in-PointedMember.ensures) c.requires.lives)), (room_of_one c.args.self.now (value_nodes (value_in (types_of_source c.args.source.now) c.deref-in-PointedMember.result.now)) (subst (λ o. HasRoom c.args.self.now (names_for (object_nodes (object_in (types_of_source c.args.source.now) o)))) (behind_is c.in-PointedMember.is c.deref-in-PointedMember.ensures) c.requires.room)))))))

pub object-returns-in_err-found-in-PointedMember-clause-code : goal.object-returns-in_err-found-in-PointedMember-clause-code
object-returns-in_err-found-in-PointedMember-clause-code t c =
    search rules

pub object-returns-in_err-found-in-PointedMember-clause-grows : goal.object-returns-in_err-found-in-PointedMember-clause-grows
object-returns-in_err-found-in-PointedMember-clause-grows t c =
    search rules

pub object-returns-in_err-found-in-PointedMember-clause-adds : goal.object-returns-in_err-found-in-PointedMember-clause-adds
object-returns-in_err-found-in-PointedMember-clause-adds t c =
    search rules

pub object-returns-in_err-pointed-in-PointedMember-clause-code : goal.object-returns-in_err-pointed-in-PointedMember-clause-code
object-returns-in_err-pointed-in-PointedMember-clause-code t c =
    search rules

pub object-returns-in_err-pointed-in-PointedMember-clause-grows : goal.object-returns-in_err-pointed-in-PointedMember-clause-grows
object-returns-in_err-pointed-in-PointedMember-clause-grows t c =
    search rules

pub object-returns-in_err-pointed-in-PointedMember-clause-adds : goal.object-returns-in_err-pointed-in-PointedMember-clause-adds
object-returns-in_err-pointed-in-PointedMember-clause-adds t c =
    search rules

pub object-object_of-place-requires : goal.object-object_of-place-requires
object-object_of-place-requires t c =
    behind_found c.args.source.now c.args.scope.now c.in-PointedMember.place _ c.deref-in-PointedMember.result.now c.in-PointedMember.number (subst (λ o. ObjectTyped c.args.source.now c.args.scope.now o) (behind_is c.in-PointedMember.is c.deref-in-PointedMember.ensures) c.requires.typed) c.args.is_followed c.args.self.now c.value-in-PointedMember.new.self c.in_ok-found-in-PointedMember.found c.in_ok-pointed-in-PointedMember.field-0 c.in_ok-found-in-PointedMember.ensures.code c.in_ok-pointed-in-PointedMember.ensures

pub object-member-requires-in-PointedMember-clause-stands : goal.object-member-requires-in-PointedMember-clause-stands
object-member-requires-in-PointedMember-clause-stands t c =
    behind_stands c.args.source.now c.args.scope.now c.in-PointedMember.place _ c.deref-in-PointedMember.result.now c.in-PointedMember.number (subst (λ o. ObjectTyped c.args.source.now c.args.scope.now o) (behind_is c.in-PointedMember.is c.deref-in-PointedMember.ensures) c.requires.typed) c.args.is_followed c.args.self.now c.value-in-PointedMember.new.self c.in_ok-found-in-PointedMember.found c.in_ok-pointed-in-PointedMember.field-0 c.object_of-place.result c.types-in-PointedMember.result.now c.types-in-PointedMember.ensures c.in_ok-found-in-PointedMember.ensures.code c.in_ok-pointed-in-PointedMember.ensures c.object_of-place.ensures

pub object-member-requires-in-PointedMember-clause-there : goal.object-member-requires-in-PointedMember-clause-there
object-member-requires-in-PointedMember-clause-there t c =
    behind_member c.args.source.now c.args.scope.now c.in-PointedMember.place _ c.deref-in-PointedMember.result.now c.in-PointedMember.number (subst (λ o. ObjectTyped c.args.source.now c.args.scope.now o) (behind_is c.in-PointedMember.is c.deref-in-PointedMember.ensures) c.requires.typed) c.args.is_followed c.args.self.now c.value-in-PointedMember.new.self c.in_ok-found-in-PointedMember.found c.in_ok-pointed-in-PointedMember.field-0 c.object_of-place.result c.types-in-PointedMember.result.now c.types-in-PointedMember.ensures c.in_ok-found-in-PointedMember.ensures.code c.in_ok-pointed-in-PointedMember.ensures c.object_of-place.ensures

pub object-returns-in-Local-clause-code : goal.object-returns-in-Local-clause-code
object-returns-in-Local-clause-code t c =
    subst (λ o. IfOk c.local.result (ObjectLowers c.args.source.now c.args.scope.now c.args.is_kept c.args.is_followed o c.args.self.now c.args.self.now)) (sym c.in-Local.is) (local_code c.args.source.now c.args.scope.now c.in-Local.number c.args.is_kept c.args.is_followed c.args.self.now c.local.result c.requires.homes (subst (λ o. ObjectLives (scope_of c.args.source.now c.args.scope.now) c.args.is_kept (object_in (types_of_source c.args.source.now) o)) c.in-Local.is c.requires.lives) c.local.ensures)

pub object-returns-in-Local-clause-grows : goal.object-returns-in-Local-clause-grows
object-returns-in-Local-clause-grows t c =
    on_ok c.local.result (grows_same c.args.self.now)

pub object-returns-in-Local-clause-adds : goal.object-returns-in-Local-clause-adds
object-returns-in-Local-clause-adds t c =
    on_ok c.local.result (subst (λ o. AddsFewer c.args.self.now c.args.self.now (names_for (object_nodes (object_in (types_of_source c.args.source.now) o)))) (sym c.in-Local.is) (object_lowering_fewer_same c.args.self.now))

pub object-returns-in-Global-clause-code : goal.object-returns-in-Global-clause-code
object-returns-in-Global-clause-code t c =
    subst (λ o. IfOk c.whole.result (ObjectLowers c.args.source.now c.args.scope.now c.args.is_kept c.args.is_followed o c.args.self.now c.args.self.now)) (sym c.in-Global.is) (global_code c.args.source.now c.args.scope.now c.in-Global.name c.args.is_kept c.args.is_followed c.args.self.now c.whole.result c.global-found.result.global.0 c.global-found.result.c_type (subst (λ name. GlobalFound c.args.source.now c.args.scope.now name c.global-found.result.global.0 c.global-found.result.c_type) c.as_slice.ensures c.global-found.ensures) c.whole.ensures)

pub object-returns-in-Global-clause-grows : goal.object-returns-in-Global-clause-grows
object-returns-in-Global-clause-grows t c =
    on_ok c.whole.result (grows_same c.args.self.now)

pub object-returns-in-Global-clause-adds : goal.object-returns-in-Global-clause-adds
object-returns-in-Global-clause-adds t c =
    on_ok c.whole.result (subst (λ o. AddsFewer c.args.self.now c.args.self.now (names_for (object_nodes (object_in (types_of_source c.args.source.now) o)))) (sym c.in-Global.is) (object_lowering_fewer_same c.args.self.now))

pub object-returns-in-Literal-clause-code : goal.object-returns-in-Literal-clause-code
object-returns-in-Literal-clause-code t c =
    subst (λ o. IfOk c.whole-in-Literal.result (ObjectLowers c.args.source.now c.args.scope.now c.args.is_kept c.args.is_followed o c.args.self.now c.args.self.now)) (sym c.in-Literal.is) (literal_code c.args.source.now c.args.scope.now c.in-Literal.place c.in-Literal.bytes c.in-Literal.c_type c.args.is_kept c.args.is_followed c.args.self.now c.whole-in-Literal.result c.literal.result.0 (subst (λ o. ObjectTyped c.args.source.now c.args.scope.now o) c.in-Literal.is c.requires.typed) c.literal.ensures c.whole-in-Literal.ensures)

pub object-returns-in-Literal-clause-grows : goal.object-returns-in-Literal-clause-grows
object-returns-in-Literal-clause-grows t c =
    on_ok c.whole-in-Literal.result (grows_same c.args.self.now)

pub object-returns-in-Literal-clause-adds : goal.object-returns-in-Literal-clause-adds
object-returns-in-Literal-clause-adds t c =
    on_ok c.whole-in-Literal.result (subst (λ o. AddsFewer c.args.self.now c.args.self.now (names_for (object_nodes (object_in (types_of_source c.args.source.now) o)))) (sym c.in-Literal.is) (object_lowering_fewer_same c.args.self.now))

pub object-returns-in-Grouped-clause-code : goal.object-returns-in-Grouped-clause-code
object-returns-in-Grouped-clause-code t c =
    subst (λ o. IfOk c.object.result (ObjectLowers c.args.source.now c.args.scope.now c.args.is_kept c.args.is_followed o c.args.self.now c.object.new.self)) (sym (object_lowering_grouped_is c.in-Grouped.is c.deref.ensures)) (object_lowering_grouped_code c.args.source.now c.args.scope.now _ _ c.deref.result.now c.args.is_kept c.args.is_followed c.args.self.now c.object.new.self c.object.result (subst (λ o. ObjectTyped c.args.source.now c.args.scope.now o) (object_lowering_grouped_is c.in-Grouped.is c.deref.ensures) c.requires.typed) c.object.ensures.code)

pub object-returns-in-Grouped-clause-grows : goal.object-returns-in-Grouped-clause-grows
object-returns-in-Grouped-clause-grows t c =
    c.object.ensures.grows

pub object-returns-in-Grouped-clause-adds : goal.object-returns-in-Grouped-clause-adds
object-returns-in-Grouped-clause-adds t c =
    on_ok_then c.object.result (λ adds. (subst (λ o. AddsFewer c.args.self.now c.object.new.self (names_for (object_nodes (object_in (types_of_source c.args.source.now) o)))) (sym (object_lowering_grouped_is c.in-Grouped.is c.deref.ensures)) (object_lowering_fewer_one c.args.self.now c.object.new.self (object_nodes (object_in (types_of_source c.args.source.now) c.deref.result.now)) adds))) c.object.ensures.adds

pub object-returns-in_ok-found-in-Pointed-clause-code : goal.object-returns-in_ok-found-in-Pointed-clause-code
object-returns-in_ok-found-in-Pointed-clause-code t c =
    subst (λ o. IfOk c.pointed.result (ObjectLowers c.args.source.now c.args.scope.now c.args.is_kept c.args.is_followed o c.args.self.now c.value.new.self)) (sym (object_lowering_pointed_is c.in-Pointed.is c.deref-in-Pointed.ensures)) (object_lowering_pointed_code c.args.source.now c.args.scope.now _ _ c.deref-in-Pointed.result.now c.args.is_kept c.args.is_followed c.of_pointer-mode.result c.args.self.now c.value.new.self c.in_ok-found-in-Pointed.found c.pointed.result (subst (λ o. ObjectTyped c.args.source.now c.args.scope.now o) (object_lowering_pointed_is c.in-Pointed.is c.deref-in-Pointed.ensures) c.requires.typed) c.of_pointer-mode.ensures c.in_ok-found-in-Pointed.ensures.code c.pointed.ensures)

pub object-returns-in_ok-found-in-Pointed-clause-grows : goal.object-returns-in_ok-found-in-Pointed-clause-grows
object-returns-in_ok-found-in-Pointed-clause-grows t c =
    on_ok c.pointed.result c.in_ok-found-in-Pointed.ensures.grows

pub object-returns-in_ok-found-in-Pointed-clause-adds : goal.object-returns-in_ok-found-in-Pointed-clause-adds
object-returns-in_ok-found-in-Pointed-clause-adds t c =
    on_ok c.pointed.result (subst (λ o. AddsFewer c.args.self.now c.value.new.self (names_for (object_nodes (object_in (types_of_source c.args.source.now) o)))) (sym (object_lowering_pointed_is c.in-Pointed.is c.deref-in-Pointed.ensures)) (object_lowering_fewer_one c.args.self.now c.value.new.self (value_nodes (value_in (types_of_source c.args.source.now) c.deref-in-Pointed.result.now)) c.in_ok-found-in-Pointed.ensures.adds))

pub object-returns-in_ok-value-in-Element-clause-code : goal.object-returns-in_ok-value-in-Element-clause-code
object-returns-in_ok-value-in-Element-clause-code t c =
    let row : c.if-is_followed.is_row_followed ≡ (c.args.is_followed || not (is_pure (scope_of c.args.source.now c.args.scope.now) (value_in (types_of_source c.args.source.now) c.deref-in-Element-2.result.now))) = elim c.if-is_followed.branch [
      | object-then-is_followed w ↦ or_first c.if-is_followed.is_row_followed c.args.is_followed (not (is_pure (scope_of c.args.source.now c.args.scope.now) (value_in (types_of_source c.args.source.now) c.deref-in-Element-2.result.now))) w.is_row_followed-is w.if-is_followed.true
      | object-else-is_followed w ↦ or_second c.if-is_followed.is_row_followed c.args.is_followed (not (is_pure (scope_of c.args.source.now c.args.scope.now) (value_in (types_of_source c.args.source.now) c.deref-in-Element-2.result.now))) (w.is_row_followed-is ∙ ap not (w.is_pure.ensures ∙ pure_here w.types.result.now (types_of_source c.args.source.now) c.args.scope.now w.deref-else-is_followed.result.now c.deref-in-Element-2.result.now w.types.ensures (w.deref-else-is_followed.ensures ∙ sym c.deref-in-Element-2.ensures))) w.if-is_followed.false
    ] in
    subst (λ o. IfOk c.indexed.result (ObjectLowers c.args.source.now c.args.scope.now c.args.is_kept c.args.is_followed o c.args.self.now c.indexed.new.self)) (sym (element_is c.in-Element.is c.deref-in-Element.ensures c.deref-in-Element-2.ensures)) (element_code c.args.source.now c.args.scope.now _ _ c.deref-in-Element.result.now _ c.deref-in-Element-2.result.now c.args.is_kept c.args.is_followed c.if-is_followed.is_row_followed c.args.self.now c.value-in-Element.new.self c.value-in-Element-2.new.self c.indexed.new.self c.types-in-Element.result.now c.in_ok-row-in-Element.row c.in_ok-value-in-Element.field-0 c.integer-index.result c.indexed.result (subst (λ o. ObjectTyped c.args.source.now c.args.scope.now o) (element_is c.in-Element.is c.deref-in-Element.ensures c.deref-in-Element-2.ensures) c.requires.typed) c.types-in-Element.ensures row c.in_ok-row-in-Element.ensures.code c.in_ok-value-in-Element.ensures.code c.in_ok-value-in-Element.ensures.grows c.integer-index.ensures c.indexed.ensures.code c.indexed.ensures.grows)

pub object-returns-in_ok-value-in-Element-clause-grows : goal.object-returns-in_ok-value-in-Element-clause-grows
object-returns-in_ok-value-in-Element-clause-grows t c =
    on_ok_then c.indexed.result (λ grows. grows_on c.args.self.now c.value-in-Element.new.self c.indexed.new.self c.in_ok-row-in-Element.ensures.grows (grows_on c.value-in-Element.new.self c.value-in-Element-2.new.self c.indexed.new.self c.in_ok-value-in-Element.ensures.grows grows)) c.indexed.ensures.grows

pub object-returns-in_ok-value-in-Element-clause-adds : goal.object-returns-in_ok-value-in-Element-clause-adds
object-returns-in_ok-value-in-Element-clause-adds t c =
    on_ok_then c.indexed.result (λ adds. (subst (λ o. AddsFewer c.args.self.now c.indexed.new.self (names_for (object_nodes (object_in (types_of_source c.args.source.now) o)))) (sym (element_is c.in-Element.is c.deref-in-Element.ensures c.deref-in-Element-2.ensures)) (object_lowering_fewer_last c.args.self.now c.value-in-Element.new.self c.value-in-Element-2.new.self c.indexed.new.self (value_nodes (value_in (types_of_source c.args.source.now) c.deref-in-Element.result.now)) (value_nodes (value_in (types_of_source c.args.source.now) c.deref-in-Element-2.result.now)) c.in_ok-row-in-Element.ensures.adds c.in_ok-value-in-Element.ensures.adds adds))) c.indexed.ensures.adds

pub object-returns-in_ok-row-in-ElementOf-clause-code : goal.object-returns-in_ok-row-in-ElementOf-clause-code
object-returns-in_ok-row-in-ElementOf-clause-code t c =
    subst (λ o. IfOk c.indexed-in-ElementOf.result (ObjectLowers c.args.source.now c.args.scope.now c.args.is_kept c.args.is_followed o c.args.self.now c.indexed-in-ElementOf.new.self)) (sym (element_of_is c.in-ElementOf.is c.deref-in-ElementOf.ensures c.deref-in-ElementOf-2.ensures)) (element_of_code c.args.source.now c.args.scope.now _ _ c.deref-in-ElementOf.result.now _ c.deref-in-ElementOf-2.result.now c.args.is_kept c.args.is_followed c.args.self.now c.value-in-ElementOf.new.self c.keep.new.self c.value-in-ElementOf-2.new.self c.indexed-in-ElementOf.new.self c.types-in-ElementOf.result.now c.in_ok-value-in-ElementOf.field-0 c.in_ok-row-in-ElementOf.row c.integer-index-in-ElementOf.result (tree_of c.in_ok-kept-in-ElementOf.kept.value) c.indexed-in-ElementOf.result (subst (λ o. ObjectTyped c.args.source.now c.args.scope.now o) (element_of_is c.in-ElementOf.is c.deref-in-ElementOf.ensures c.deref-in-ElementOf-2.ensures) c.requires.typed) c.types-in-ElementOf.ensures c.in_ok-value-in-ElementOf.ensures.code c.integer-index-in-ElementOf.ensures c.in_ok-kept-in-ElementOf.ensures.code c.in_ok-kept-in-ElementOf.ensures.grows c.in_ok-row-in-ElementOf.ensures.code c.in_ok-row-in-ElementOf.ensures.grows c.indexed-in-ElementOf.ensures.code c.indexed-in-ElementOf.ensures.grows)

pub object-returns-in_ok-row-in-ElementOf-clause-grows : goal.object-returns-in_ok-row-in-ElementOf-clause-grows
object-returns-in_ok-row-in-ElementOf-clause-grows t c =
    on_ok_then c.indexed-in-ElementOf.result (λ grows. grows_on c.args.self.now c.value-in-ElementOf.new.self c.indexed-in-ElementOf.new.self c.in_ok-value-in-ElementOf.ensures.grows (grows_on c.value-in-ElementOf.new.self c.keep.new.self c.indexed-in-ElementOf.new.self c.in_ok-kept-in-ElementOf.ensures.grows (grows_on c.keep.new.self c.value-in-ElementOf-2.new.self c.indexed-in-ElementOf.new.self c.in_ok-row-in-ElementOf.ensures.grows grows))) c.indexed-in-ElementOf.ensures.grows

pub object-returns-in_ok-row-in-ElementOf-clause-adds : goal.object-returns-in_ok-row-in-ElementOf-clause-adds
object-returns-in_ok-row-in-ElementOf-clause-adds t c =
    on_ok_then c.indexed-in-ElementOf.result (λ adds. (subst (λ o. AddsFewer c.args.self.now c.indexed-in-ElementOf.new.self (names_for (object_nodes (object_in (types_of_source c.args.source.now) o)))) (sym (element_of_is c.in-ElementOf.is c.deref-in-ElementOf.ensures c.deref-in-ElementOf-2.ensures)) (object_lowering_fewer_kept_last c.args.self.now c.value-in-ElementOf.new.self c.keep.new.self c.value-in-ElementOf-2.new.self c.indexed-in-ElementOf.new.self (value_nodes (value_in (types_of_source c.args.source.now) c.deref-in-ElementOf.result.now)) (value_nodes (value_in (types_of_source c.args.source.now) c.deref-in-ElementOf-2.result.now)) c.in_ok-value-in-ElementOf.ensures.adds c.in_ok-kept-in-ElementOf.ensures.adds c.in_ok-row-in-ElementOf.ensures.adds adds))) c.indexed-in-ElementOf.ensures.adds

pub object-returns-in_ok-found-in-MemberOf-clause-code : goal.object-returns-in_ok-found-in-MemberOf-clause-code
object-returns-in_ok-found-in-MemberOf-clause-code t c =
    subst (λ o. IfOk c.member.result (ObjectLowers c.args.source.now c.args.scope.now c.args.is_kept c.args.is_followed o c.args.self.now c.object-in-MemberOf.new.self)) (sym (member_is c.in-MemberOf.is c.deref-in-MemberOf.ensures)) (member_code c.args.source.now c.args.scope.now _ _ c.deref-in-MemberOf.result.now c.in-MemberOf.number c.args.is_kept c.args.is_followed c.args.self.now c.object-in-MemberOf.new.self c.in_ok-found-in-MemberOf.found c.object_of.result c.types-in-MemberOf.result.now c.member.result (subst (λ o. ObjectTyped c.args.source.now c.args.scope.now o) (member_is c.in-MemberOf.is c.deref-in-MemberOf.ensures) c.requires.typed) c.types-in-MemberOf.ensures c.in_ok-found-in-MemberOf.ensures.code c.object_of.ensures c.member.ensures.code c.member.ensures.holds)

pub object-returns-in_ok-found-in-MemberOf-clause-grows : goal.object-returns-in_ok-found-in-MemberOf-clause-grows
object-returns-in_ok-found-in-MemberOf-clause-grows t c =
    on_ok c.member.result c.in_ok-found-in-MemberOf.ensures.grows

pub object-returns-in_ok-found-in-MemberOf-clause-adds : goal.object-returns-in_ok-found-in-MemberOf-clause-adds
object-returns-in_ok-found-in-MemberOf-clause-adds t c =
    on_ok c.member.result (subst (λ o. AddsFewer c.args.self.now c.object-in-MemberOf.new.self (names_for (object_nodes (object_in (types_of_source c.args.source.now) o)))) (sym (member_is c.in-MemberOf.is c.deref-in-MemberOf.ensures)) (object_lowering_fewer_one c.args.self.now c.object-in-MemberOf.new.self (object_nodes (object_in (types_of_source c.args.source.now) c.deref-in-MemberOf.result.now)) c.in_ok-found-in-MemberOf.ensures.adds))

pub object-returns-in_ok-pointed-in-PointedMember-clause-code : goal.object-returns-in_ok-pointed-in-PointedMember-clause-code
object-returns-in_ok-pointed-in-PointedMember-clause-code t c =
    subst (λ o. IfOk c.member-in-PointedMember.result (ObjectLowers c.args.source.now c.args.scope.now c.args.is_kept c.args.is_followed o c.args.self.now c.value-in-PointedMember.new.self)) (sym (behind_is c.in-PointedMember.is c.deref-in-PointedMember.ensures)) (behind_code c.args.source.now c.args.scope.now _ _ c.deref-in-PointedMember.result.now c.in-PointedMember.number c.args.is_kept c.args.is_followed c.args.self.now c.value-in-PointedMember.new.self c.in_ok-found-in-PointedMember.found c.in_ok-pointed-in-PointedMember.field-0 c.object_of-place.result c.types-in-PointedMember.result.now c.member-in-PointedMember.result (subst (λ o. ObjectTyped c.args.source.now c.args.scope.now o) (behind_is c.in-PointedMember.is c.deref-in-PointedMember.ensures) c.requires.typed) c.types-in-PointedMember.ensures c.in_ok-found-in-PointedMember.ensures.code c.in_ok-pointed-in-PointedMember.ensures c.object_of-place.ensures c.member-in-PointedMember.ensures.code c.member-in-PointedMember.ensures.holds)

pub object-returns-in_ok-pointed-in-PointedMember-clause-grows : goal.object-returns-in_ok-pointed-in-PointedMember-clause-grows
object-returns-in_ok-pointed-in-PointedMember-clause-grows t c =
    on_ok c.member-in-PointedMember.result c.in_ok-found-in-PointedMember.ensures.grows

pub object-returns-in_ok-pointed-in-PointedMember-clause-adds : goal.object-returns-in_ok-pointed-in-PointedMember-clause-adds
object-returns-in_ok-pointed-in-PointedMember-clause-adds t c =
    on_ok c.member-in-PointedMember.result (subst (λ o. AddsFewer c.args.self.now c.value-in-PointedMember.new.self (names_for (object_nodes (object_in (types_of_source c.args.source.now) o)))) (sym (behind_is c.in-PointedMember.is c.deref-in-PointedMember.ensures)) (object_lowering_fewer_one c.args.self.now c.value-in-PointedMember.new.self (value_nodes (value_in (types_of_source c.args.source.now) c.deref-in-PointedMember.result.now)) c.in_ok-found-in-PointedMember.ensures.adds))

pub designator-function-function-requires-clause-there : goal.designator-function-function-requires-clause-there
designator-function-function-requires-clause-there t c =
    subst (λ name. is_some (function_number 0 (program_in c.args.source.now).functions name) ≡ true) (sym c.as_slice.ensures) (named_there c.args.source.now c.args.scope.now c.args.function.now c.in-Named.name c.in-Named.is c.requires.typed)

pub designator-function_type-requires-clause-there : goal.designator-function_type-requires-clause-there
designator-function_type-requires-clause-there t c = (c.as_slice.result.now, c.function-function.ensures)

pub designator-designator-requires : goal.designator-designator-requires
designator-designator-requires t c =
    let is = calling_grouped_is c.in-Grouped.is c.deref.ensures in (
      search (rules, value_lemmas),
      (
        c.requires.source,
        (
          c.requires.homes,
          (
            calling_grouped_typed c.args.source.now c.args.scope.now c.args.function.now c.deref.result.now is c.requires.typed,
            (calling_grouped_lives c.args.source.now c.args.scope.now c.args.function.now c.deref.result.now is c.requires.lives, grouped_room c.args.source.now c.args.scope.now c.args.function.now c.deref.result.now c.args.self.now is c.requires.room),
          ),
        ),
      ),
    )

pub designator-returns-in-Named-clause-code : goal.designator-returns-in-Named-clause-code
designator-returns-in-Named-clause-code t c =
    named_code c.args.source.now c.args.scope.now c.args.function.now c.as_slice.result.now c.args.self.now (record { callee = Callees.Function c.function-function.result; c_type = c.function_type.result }) c.function-function.result.0 (named_is c.in-Named.is c.as_slice.ensures) refl
    c.function-function.ensures (c.function_type.ensures.1 c.as_slice.result.now c.function-function.ensures) c.function_type.ensures.0

pub designator-returns-in-Named-clause-grows : goal.designator-returns-in-Named-clause-grows
designator-returns-in-Named-clause-grows t c = grows_same c.args.self.now

pub designator-returns-in-Named-clause-adds : goal.designator-returns-in-Named-clause-adds
designator-returns-in-Named-clause-adds t c = named_adds c.args.source.now c.args.scope.now c.args.function.now c.in-Named.name c.args.self.now c.in-Named.is

pub designator-returns-in-Grouped-clause-code : goal.designator-returns-in-Grouped-clause-code
designator-returns-in-Grouped-clause-code t c =
    if_ok _ _ c.designator.result (λ called code. calling_grouped_code c.args.source.now c.args.scope.now c.args.function.now c.deref.result.now c.args.self.now c.designator.new.self called (calling_grouped_is c.in-Grouped.is c.deref.ensures) code) c.designator.ensures.code

pub designator-returns-in-Grouped-clause-grows : goal.designator-returns-in-Grouped-clause-grows
designator-returns-in-Grouped-clause-grows t c = c.designator.ensures.grows

pub designator-returns-in-Grouped-clause-adds : goal.designator-returns-in-Grouped-clause-adds
designator-returns-in-Grouped-clause-adds t c =
    on_ok_then c.designator.result (grouped_adds c.args.source.now c.args.scope.now c.args.function.now c.deref.result.now c.args.self.now c.designator.new.self (calling_grouped_is c.in-Grouped.is c.deref.ensures)) c.designator.ensures.adds

pub designator-value-requires : goal.designator-value-requires
designator-value-requires t c = (search (rules, value_lemmas), ((c.requires.source), ((c.requires.homes), ((calling_pointed_typed c.args.source.now c.args.scope.now c.args.function.now c.deref-in-Pointed.result.now (calling_pointed_is c.in-Pointed.is c.deref-in-Pointed.ensures) c.requires.typed), ((calling_pointed_lives c.args.source.now c.args.scope.now c.args.function.now c.deref-in-Pointed.result.now (calling_pointed_is c.in-Pointed.is c.deref-in-Pointed.ensures) c.requires.lives), (pointed_room c.args.source.now c.args.scope.now c.args.function.now c.deref-in-Pointed.result.now c.args.self.now (calling_pointed_is c.in-Pointed.is c.deref-in-Pointed.ensures) c.requires.room))))))

pub designator-through-requires : goal.designator-through-requires
designator-through-requires t c = pointed_kind c.args.source.now c.args.scope.now c.args.function.now c.deref-in-Pointed.result.now c.args.self.now c.value.new.self c.in_ok-found-in-Pointed.found (calling_pointed_is c.in-Pointed.is c.deref-in-Pointed.ensures) c.requires.typed c.in_ok-found-in-Pointed.ensures.code

pub designator-returns-in_ok-found-in-Pointed-clause-code : goal.designator-returns-in_ok-found-in-Pointed-clause-code
designator-returns-in_ok-found-in-Pointed-clause-code t c = calling_pointed_code c.args.source.now c.args.scope.now c.args.function.now c.deref-in-Pointed.result.now c.args.self.now c.value.new.self c.in_ok-found-in-Pointed.found c.through.result (calling_pointed_is c.in-Pointed.is c.deref-in-Pointed.ensures) c.requires.typed c.in_ok-found-in-Pointed.ensures.code c.through.ensures

pub designator-returns-in_ok-found-in-Pointed-clause-grows : goal.designator-returns-in_ok-found-in-Pointed-clause-grows
designator-returns-in_ok-found-in-Pointed-clause-grows t c = c.in_ok-found-in-Pointed.ensures.grows

pub designator-returns-in_ok-found-in-Pointed-clause-adds : goal.designator-returns-in_ok-found-in-Pointed-clause-adds
designator-returns-in_ok-found-in-Pointed-clause-adds t c = pointed_adds c.args.source.now c.args.scope.now c.args.function.now c.deref-in-Pointed.result.now c.args.self.now c.value.new.self (calling_pointed_is c.in-Pointed.is c.deref-in-Pointed.ensures) c.in_ok-found-in-Pointed.ensures.adds

pub designator-value-requires-in-ThroughPointer : goal.designator-value-requires-in-ThroughPointer
designator-value-requires-in-ThroughPointer t c = (search (rules, value_lemmas), ((c.requires.source), ((c.requires.homes), ((through_typed c.args.source.now c.args.scope.now c.args.function.now c.deref-in-ThroughPointer.result.now (through_is c.in-ThroughPointer.is c.deref-in-ThroughPointer.ensures) c.requires.typed), ((through_lives c.args.source.now c.args.scope.now c.args.function.now c.deref-in-ThroughPointer.result.now (through_is c.in-ThroughPointer.is c.deref-in-ThroughPointer.ensures) c.requires.lives), (through_room c.args.source.now c.args.scope.now c.args.function.now c.deref-in-ThroughPointer.result.now c.args.self.now (through_is c.in-ThroughPointer.is c.deref-in-ThroughPointer.ensures) c.requires.room))))))

pub designator-through-requires-in-ThroughPointer : goal.designator-through-requires-in-ThroughPointer
designator-through-requires-in-ThroughPointer t c = through_kind c.args.source.now c.args.scope.now c.args.function.now c.deref-in-ThroughPointer.result.now c.args.self.now c.value-in-ThroughPointer.new.self c.in_ok-found-in-ThroughPointer.found (through_is c.in-ThroughPointer.is c.deref-in-ThroughPointer.ensures) c.requires.typed c.in_ok-found-in-ThroughPointer.ensures.code

pub designator-returns-in_ok-found-in-ThroughPointer-clause-code : goal.designator-returns-in_ok-found-in-ThroughPointer-clause-code
designator-returns-in_ok-found-in-ThroughPointer-clause-code t c = through_pointer_code c.args.source.now c.args.scope.now c.args.function.now c.deref-in-ThroughPointer.result.now c.args.self.now c.value-in-ThroughPointer.new.self c.in_ok-found-in-ThroughPointer.found c.through-in-ThroughPointer.result (through_is c.in-ThroughPointer.is c.deref-in-ThroughPointer.ensures) c.requires.typed c.in_ok-found-in-ThroughPointer.ensures.code c.through-in-ThroughPointer.ensures

pub designator-returns-in_ok-found-in-ThroughPointer-clause-grows : goal.designator-returns-in_ok-found-in-ThroughPointer-clause-grows
designator-returns-in_ok-found-in-ThroughPointer-clause-grows t c = c.in_ok-found-in-ThroughPointer.ensures.grows

pub designator-returns-in_ok-found-in-ThroughPointer-clause-adds : goal.designator-returns-in_ok-found-in-ThroughPointer-clause-adds
designator-returns-in_ok-found-in-ThroughPointer-clause-adds t c = through_adds c.args.source.now c.args.scope.now c.args.function.now c.deref-in-ThroughPointer.result.now c.args.self.now c.value-in-ThroughPointer.new.self (through_is c.in-ThroughPointer.is c.deref-in-ThroughPointer.ensures) c.in_ok-found-in-ThroughPointer.ensures.adds

pub arguments-loop-argument-init : goal.arguments-loop-argument-init
arguments-loop-argument-init t c =
    subst (λ (done : List Register). Passes c.args.source.now c.args.scope.now c.args.arguments.now c.args.arguments.now c.args.self.now c.args.self.now done) (sym c.new-registers.ensures.items)
    (passes_none c.args.source.now c.args.scope.now c.args.arguments.now c.args.self.now c.requires.typed c.requires.scalars c.requires.lives)

pub arguments-new_argument-register-requires : goal.arguments-new_argument-register-requires
arguments-new_argument-register-requires t c = record {
  room = passes_one c.args.source.now c.args.scope.now c.args.arguments.now (drop c.loop-argument.argument-index c.args.arguments.now) c.args.self.now c.loop-argument.self c.loop-argument.registers.items c.loop-argument.invariant c.requires.room;
}

pub arguments-value-requires : goal.arguments-value-requires
arguments-value-requires t c = (
  search (rules, value_lemmas),
  (
    (c.requires.source),
    (
      (c.requires.homes),
      (
        (let rest = drop c.loop-argument.argument-index c.args.arguments.now in
            let others = drop (suc c.loop-argument.argument-index) c.args.arguments.now in
            passes_typed c.args.source.now c.args.scope.now c.args.arguments.now rest c.argument-item.result others c.args.self.now c.loop-argument.self c.loop-argument.registers.items
            (from_here c.args.arguments.now c.loop-argument.argument-index c.argument-item.result c.loop-argument-test.true c.argument-item.is) c.loop-argument.invariant),
        (
          (let rest = drop c.loop-argument.argument-index c.args.arguments.now in
              let others = drop (suc c.loop-argument.argument-index) c.args.arguments.now in
              passes_lives c.args.source.now c.args.scope.now c.args.arguments.now rest c.argument-item.result others c.args.self.now c.loop-argument.self c.loop-argument.registers.items
              (from_here c.args.arguments.now c.loop-argument.argument-index c.argument-item.result c.loop-argument-test.true c.argument-item.is) c.loop-argument.invariant),
          (let rest = drop c.loop-argument.argument-index c.args.arguments.now in
              let others = drop (suc c.loop-argument.argument-index) c.args.arguments.now in
              passes_room c.args.source.now c.args.scope.now c.args.arguments.now rest c.argument-item.result others c.args.self.now c.loop-argument.self c.new_argument-register.new.self c.loop-argument.registers.items
              (from_here c.args.arguments.now c.loop-argument.argument-index c.argument-item.result c.loop-argument-test.true c.argument-item.is) c.loop-argument.invariant c.requires.room c.new_argument-register.ensures.adds),
        ),
      ),
    ),
  ),
)

pub arguments-write-requires : goal.arguments-write-requires
arguments-write-requires t c =
    let rest = drop c.loop-argument.argument-index c.args.arguments.now in
    let others = drop (suc c.loop-argument.argument-index) c.args.arguments.now in
    passes_kind c.args.source.now c.args.scope.now c.args.arguments.now rest c.argument-item.result others c.args.self.now c.loop-argument.self c.new_argument-register.new.self c.value.new.self c.loop-argument.registers.items c.in_ok-given.given
    (from_here c.args.arguments.now c.loop-argument.argument-index c.argument-item.result c.loop-argument-test.true c.argument-item.is) c.loop-argument.invariant c.in_ok-given.ensures.code

pub arguments-loop-argument-preserved : goal.arguments-loop-argument-preserved
arguments-loop-argument-preserved t c =
    let rest = drop c.loop-argument.argument-index c.args.arguments.now in
    let others = drop (suc c.loop-argument.argument-index) c.args.arguments.now in
    subst (λ k. Passes c.args.source.now c.args.scope.now c.args.arguments.now (drop k c.args.arguments.now) c.args.self.now c.write.new.self c.push.new.self.items) (sym (add-one c.loop-argument.argument-index))
    (passes_more c.args.source.now c.args.scope.now c.args.arguments.now rest c.argument-item.result others c.args.self.now c.loop-argument.self c.new_argument-register.new.self c.value.new.self c.write.new.self
    c.loop-argument.registers.items c.push.new.self.items c.new_argument-register.result c.in_ok-given.given
    (from_here c.args.arguments.now c.loop-argument.argument-index c.argument-item.result c.loop-argument-test.true c.argument-item.is) c.loop-argument.invariant
    c.new_argument-register.ensures.named c.new_argument-register.ensures.spot c.new_argument-register.ensures.points c.new_argument-register.ensures.adds
    c.in_ok-given.ensures.code c.in_ok-given.ensures.grows c.in_ok-given.ensures.adds c.in_ok-write.ensures.code c.in_ok-write.ensures.grows c.in_ok-write.ensures.adds c.in_ok-push.ensures.items)

pub arguments-returns-clause-code : goal.arguments-returns-clause-code
arguments-returns-clause-code t c =
    passes_all c.args.source.now c.args.scope.now c.args.arguments.now (drop c.loop-argument.argument-index c.args.arguments.now) c.args.self.now c.loop-argument.self c.loop-argument.registers.items
    (drop_all c.loop-argument.argument-index c.args.arguments.now (omega (arith, c.loop-argument-test.false))) c.loop-argument.invariant

pub arguments-returns-clause-grows : goal.arguments-returns-clause-grows
arguments-returns-clause-grows t c = c.loop-argument.invariant.grows

pub arguments-returns-clause-adds : goal.arguments-returns-clause-adds
arguments-returns-clause-adds t c =
    passes_adds c.args.source.now c.args.scope.now c.args.arguments.now (drop c.loop-argument.argument-index c.args.arguments.now) c.args.self.now c.loop-argument.self c.loop-argument.registers.items
    (drop_all c.loop-argument.argument-index c.args.arguments.now (omega (arith, c.loop-argument-test.false))) c.loop-argument.invariant

pub library_call-new_call-site-requires : goal.library_call-new_call-site-requires
library_call-new_call-site-requires t c = record { room = omega (arith, c.requires.room) }

pub library_call-value-requires : goal.library_call-value-requires
library_call-value-requires t c = (
  search (rules, value_lemmas),
  (
    (c.requires.source),
    (
      (c.requires.homes),
      (
        (calling_library_typed c.args.source.now c.args.scope.now c.args.function c.args.arguments.now c.argument-item.result (only_item c.args.arguments.now c.argument-item.result c.in-len1.len_at_least c.in-len1.len_below c.argument-item.is) c.requires.typed),
        (
          (calling_library_lives c.args.source.now c.args.scope.now c.args.arguments.now c.argument-item.result (only_item c.args.arguments.now c.argument-item.result c.in-len1.len_at_least c.in-len1.len_below c.argument-item.is) c.requires.lives),
          (library_room c.args.source.now c.args.scope.now c.args.arguments.now c.argument-item.result c.args.self.now c.new_call-site.new.self
              (only_item c.args.arguments.now c.argument-item.result c.in-len1.len_at_least c.in-len1.len_below c.argument-item.is) c.requires.room c.new_call-site.ensures.adds),
        ),
      ),
    ),
  ),
)

pub library_call-library-requires : goal.library_call-library-requires
library_call-library-requires t c =
    library_takes c.args.source.now c.args.scope.now c.args.function c.args.arguments.now c.argument-item.result c.new_call-site.new.self c.value.new.self c.in_ok-given-in-len1.given
    (only_item c.args.arguments.now c.argument-item.result c.in-len1.len_at_least c.in-len1.len_below c.argument-item.is) c.requires.typed c.in_ok-given-in-len1.ensures.code

pub library_call-unreachable-requires : goal.library_call-unreachable-requires
library_call-unreachable-requires t c = library_many c.args.source.now c.args.scope.now c.args.function c.args.arguments.now c.in_default.len_at_least c.requires.typed

pub library_call-returns-in-empty-clause-code : goal.library_call-returns-in-empty-clause-code
library_call-returns-in-empty-clause-code t c =
    if_ok _ _ c.get_char.result
    (λ lowered told. getchar_code c.args.source.now c.args.scope.now c.args.function c.args.arguments.now c.args.self.now c.new_call-site.new.self c.get_char.new.self c.new_call-site.result lowered
    (no_item c.args.arguments.now c.in-empty.len_below) c.requires.typed c.new_call-site.ensures.named c.new_call-site.ensures.spot told)
    c.get_char.ensures.code

pub library_call-returns-in-empty-clause-grows : goal.library_call-returns-in-empty-clause-grows
library_call-returns-in-empty-clause-grows t c =
    on_ok_then c.get_char.result (grows_on c.args.self.now c.new_call-site.new.self c.get_char.new.self (grows_equal c.args.self.now c.new_call-site.new.self c.new_call-site.ensures.points)) c.get_char.ensures.grows

pub library_call-returns-in-empty-clause-adds : goal.library_call-returns-in-empty-clause-adds
library_call-returns-in-empty-clause-adds t c = on_ok_then c.get_char.result (λ more. omega (arith, more, c.new_call-site.ensures.adds)) c.get_char.ensures.adds

pub library_call-returns-in_ok-given-in-len1-clause-code : goal.library_call-returns-in_ok-given-in-len1-clause-code
library_call-returns-in_ok-given-in-len1-clause-code t c =
    let is = only_item c.args.arguments.now c.argument-item.result c.in-len1.len_at_least c.in-len1.len_below c.argument-item.is in
    let takes = library_takes c.args.source.now c.args.scope.now c.args.function c.args.arguments.now c.argument-item.result c.new_call-site.new.self c.value.new.self c.in_ok-given-in-len1.given is c.requires.typed c.in_ok-given-in-len1.ensures.code in
    if_on_ok _ _ c.library.result
    (λ lowered told grows. library_code c.args.source.now c.args.scope.now c.args.function c.args.arguments.now c.argument-item.result c.args.self.now c.new_call-site.new.self c.value.new.self c.library.new.self c.new_call-site.result
    c.in_ok-given-in-len1.given lowered is c.new_call-site.ensures.named c.new_call-site.ensures.spot c.in_ok-given-in-len1.ensures.code takes told grows)
    c.library.ensures.code c.library.ensures.grows

pub library_call-returns-in_ok-given-in-len1-clause-grows : goal.library_call-returns-in_ok-given-in-len1-clause-grows
library_call-returns-in_ok-given-in-len1-clause-grows t c =
    let before = grows_on c.args.self.now c.new_call-site.new.self c.value.new.self (grows_equal c.args.self.now c.new_call-site.new.self c.new_call-site.ensures.points) c.in_ok-given-in-len1.ensures.grows in
    on_ok_then c.library.result (grows_on c.args.self.now c.value.new.self c.library.new.self before) c.library.ensures.grows

pub library_call-returns-in_ok-given-in-len1-clause-adds : goal.library_call-returns-in_ok-given-in-len1-clause-adds
library_call-returns-in_ok-given-in-len1-clause-adds t c =
    on_ok_then c.library.result
    (library_adds c.args.source.now c.args.scope.now c.args.arguments.now c.argument-item.result c.args.self.now c.new_call-site.new.self c.value.new.self c.library.new.self
    (only_item c.args.arguments.now c.argument-item.result c.in-len1.len_at_least c.in-len1.len_below c.argument-item.is) c.new_call-site.ensures.adds c.in_ok-given-in-len1.ensures.adds)
    c.library.ensures.adds
