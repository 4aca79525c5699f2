use Rattle.std.proofs.Common.{◌≡◌, true, false, map, sym, ap, subst, ◌∙◌}
use Rattle.std.specs.Prelude.{◌||◌}
use Rattle.tac_ir.specs.Views.{step_of, path_in}
use Rattle.std.specs.List.{list_any}
use Rattle.heap_graph.specs.Targets.{has_target}
use Rattle.heap_graph.specs.Points.{is_indexed, is_element}
use Rattle.graph_unification.specs.Memory.{name_of}
use Rattle.heap_graph.specs.Asks.{is_certain, base_of, address_asked}
use Rattle.graph_unification.specs.Applying.{code_of, owner_of, shown, Applies}
use Rattle.graph_unification.proofs.Staying.{path_fits_kept}
use Rattle.graph_unification.proofs.PointSteps.{certain_has}
use Rattle.graph_unification.proofs.ObjectSteps.{member_typed_kept, no_address, addressed}
use Rattle.graph_unification.proofs.applied.Applied.take_address.Goals as goal

pub returns-then-not-is_certain-clause-applies : goal.returns-then-not-is_certain-clause-applies
returns-then-not-is_certain-clause-applies c =
    let own = c.args.self in
    let table = own.tac.now.types in
    let old = shown own c.args.graph.now in
    no_address (code_of own) c.requires.known.made (owner_of own) (path_in table c.args.path.now) old old false c.requires.graph.sound c.args.to
    (ap (is_certain old) (sym (c.base_name-name.ensures old)) ∙ sym (c.if-not-is_certain.ensures table c.requires.graph))

pub tell_member-requires-clause-base : goal.tell_member-requires-clause-base
tell_member-requires-clause-base c =
    let own = c.args.self in
    let table = own.tac.now.types in
    let old = shown own c.args.graph.now in
    certain_has old (base_of (code_of own) old (owner_of own) (path_in table c.args.path.now))
    (ap (is_certain old) (sym (c.base_name-name.ensures old)) ∙ sym (c.if-not-is_certain.ensures table c.requires.graph))

pub mark_if-used-requires-clause-target : goal.mark_if-used-requires-clause-target
mark_if-used-requires-clause-target c =
    let own = c.args.self in
    let old = shown own c.args.graph.now in
    c.in_ok-told.ensures.applies.leads.names (name_of c.base_name-name.result)
    ∙ certain_has old (old.targets (name_of c.base_name-name.result)) (sym (c.if-not-is_certain.ensures own.tac.now.types c.requires.graph))

pub join_place-requires-clause-base : goal.join_place-requires-clause-base
join_place-requires-clause-base c =
    let own = c.args.self in
    let name = name_of c.base_name-name.result in
    let old = shown own c.args.graph.now in
    ap has_target (sym (c.base_name-name.ensures (shown own c.mark_if-used.new.graph))) ∙ c.mark_if-used.ensures.applies.leads.names name ∙ c.in_ok-told.ensures.applies.leads.names name
    ∙ certain_has old (old.targets name) (sym (c.if-not-is_certain.ensures own.tac.now.types c.requires.graph))

pub join_place-requires-clause-fits : goal.join_place-requires-clause-fits
join_place-requires-clause-fits c =
    let own = c.args.self in
    let told = c.in_ok-told.ensures.applies in
    let used = c.mark_if-used.ensures.applies in
    let path = path_in own.tac.now.types c.args.path.now in
    let one = shown own c.args.graph.now in
    let two = shown own c.tell_member.new.graph in
    path_fits_kept (code_of own) c.requires.known.made (owner_of own) two (shown own c.mark_if-used.new.graph) used.map c.in_ok-told.ensures.graph.sound used.maps path
    (path_fits_kept (code_of own) c.requires.known.made (owner_of own) one two told.map c.requires.graph.sound told.maps path c.requires.fits)

pub join_place-requires-clause-typed : goal.join_place-requires-clause-typed
join_place-requires-clause-typed c =
    let own = c.args.self in
    let name = name_of c.base_name-name.result in
    let used = c.mark_if-used.ensures.applies in
    let one = shown own c.args.graph.now in
    let two = shown own c.tell_member.new.graph in
    member_typed_kept (code_of own) c.requires.known.made (owner_of own) (path_in own.tac.now.types c.args.path.now) two (shown own c.mark_if-used.new.graph) used.map c.in_ok-told.ensures.graph.sound used.maps
    (ap has_target (sym (c.base_name-name.ensures two)) ∙ c.in_ok-told.ensures.applies.leads.names name
    ∙ certain_has one (one.targets name) (sym (c.if-not-is_certain.ensures own.tac.now.types c.requires.graph))) c.in_ok-told.ensures.typed

pub join_place-requires-clause-target : goal.join_place-requires-clause-target
join_place-requires-clause-target c =
    let own = c.args.self in
    let name = name_of c.own.result in
    c.mark_if-used.ensures.applies.leads.names name ∙ c.in_ok-told.ensures.applies.leads.names name ∙ ap (λ n. has_target ((shown own c.args.graph.now).targets n)) c.own.ensures ∙ c.requires.target

pub returns-clause-applies : goal.returns-clause-applies
returns-clause-applies c =
    let own = c.args.self in
    let code = code_of own in
    let owner = owner_of own in
    let table = own.tac.now.types in
    let path = path_in table c.args.path.now in
    let one = shown own c.args.graph.now in
    let two = shown own c.tell_member.new.graph in
    let three = shown own c.mark_if-used.new.graph in
    let four = shown own c.join_place.new.graph in
    let index = c.either-indexed.ensures ∙ ap (λ b. b || c.has_element.result) (c.is_indexed.ensures table)
    ∙ ap (λ b. is_indexed path.base || b) (c.has_element.ensures ∙ ap (λ s. list_any is_element (map step_of s)) c.as_slice.ensures.value) in
    subst (λ b. Applies code.structs b one four (λ graph. address_asked code graph owner c.args.to path ≡ true)) (sym (c.either-2.ensures ∙ ap (λ b. c.in_ok-told.told || b) c.either.ensures))
    (addressed code c.requires.known.made owner path (name_of c.base_name-name.result) c.base_name-name.ensures one two three four c.in_ok-told.told c.mark_if-used.result c.in_ok-joined.joined
    c.requires.graph.sound c.in_ok-told.ensures.graph.sound c.args.to (name_of c.own.result) c.own.ensures c.either-indexed.result index
    (ap (is_certain one) (sym (c.base_name-name.ensures one)) ∙ sym (c.if-not-is_certain.ensures table c.requires.graph)) c.in_ok-told.ensures.applies c.mark_if-used.ensures.applies c.in_ok-joined.ensures.applies)
