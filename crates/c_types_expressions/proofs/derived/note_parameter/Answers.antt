use Rattle.std.proofs.Common.{option_map, Bor, sym, ap, ◌∙◌}
use Rattle.c_syntax.specs.declared.name.Name.{Name}
use Rattle.c_syntax.specs.Views.{name_tree}
use Rattle.c_typed.specs.Names.{contains}
use Rattle.c_types_state.specs.Checkers.{names_of}
use Rattle.c_types_expressions.proofs.ParameterNames.{contains_names, names-added, names-stay, is_new-then, is_new-else, note-found}
use Rattle.c_types_expressions.proofs.derived.note_parameter.Goals.{then-not-contains, else-not-contains}
use Rattle.c_types_expressions.proofs.derived.note_parameter.Goals as goal

pub returns-in_ok-insert-clause-found : goal.returns-in_ok-insert-clause-found
returns-in_ok-insert-clause-found c =
    let name = name_tree c.in-Some.name.now in
    let keys = c.args.names.now.keys in
    let view = λ (name : Bor Name). name_tree name.now in
    let is = c.contains.ensures ∙ contains_names c.as_slice-bytes.result.now keys ∙ ap (contains (names_of keys)) c.as_slice-bytes.ensures in
    note-found (names_of keys) (option_map view c.args.name) name c.if-not-contains.is_new (ap (option_map view) c.in-Some.is)
    (elim c.if-not-contains.branch [
      | then-not-contains w ↦ is_new-then (names_of keys) name.bytes c.contains.result c.if-not-contains.is_new is c.as_slice-bytes.result.now w.is_none-is_new.result w.library_function.result w.if-not-contains.true c.as_slice-bytes.ensures w.library_function.ensures w.is_none-is_new.ensures w.is_new-is
      | else-not-contains w ↦ is_new-else (names_of keys) name.bytes c.contains.result c.if-not-contains.is_new is w.if-not-contains.false w.is_new-is
    ])
    c.require.ensures.noted

pub returns-in_ok-insert-clause-names : goal.returns-in_ok-insert-clause-names
returns-in_ok-insert-clause-names c =
    let view = λ (name : Bor Name). name_tree name.now in
    names-added c.args.names.now.keys c.insert.new.self.keys c.in_ok-from_slice.field-0 (option_map view c.args.name) (name_tree c.in-Some.name.now) (ap (option_map view) c.in-Some.is)
    (c.in_ok-from_slice.ensures.items ∙ c.as_slice-bytes.ensures) c.in_ok-insert.ensures.keys

pub returns-else-not-contains-2-clause-found : goal.returns-else-not-contains-2-clause-found
returns-else-not-contains-2-clause-found c =
    let name = name_tree c.in-Some.name.now in
    let keys = c.args.names.now.keys in
    let view = λ (name : Bor Name). name_tree name.now in
    let is = c.contains.ensures ∙ contains_names c.as_slice-bytes.result.now keys ∙ ap (contains (names_of keys)) c.as_slice-bytes.ensures in
    note-found (names_of keys) (option_map view c.args.name) name c.if-not-contains.is_new (ap (option_map view) c.in-Some.is)
    (elim c.if-not-contains.branch [
      | then-not-contains w ↦ is_new-then (names_of keys) name.bytes c.contains.result c.if-not-contains.is_new is c.as_slice-bytes.result.now w.is_none-is_new.result w.library_function.result w.if-not-contains.true c.as_slice-bytes.ensures w.library_function.ensures w.is_none-is_new.ensures w.is_new-is
      | else-not-contains w ↦ is_new-else (names_of keys) name.bytes c.contains.result c.if-not-contains.is_new is w.if-not-contains.false w.is_new-is
    ])
    c.require.ensures.noted

pub returns-else-not-contains-2-clause-names : goal.returns-else-not-contains-2-clause-names
returns-else-not-contains-2-clause-names c =
    let keys = c.args.names.now.keys in
    let view = λ (name : Bor Name). name_tree name.now in
    names-stay keys (option_map view c.args.name) (name_tree c.in-Some.name.now) (ap (option_map view) c.in-Some.is)
    (sym (ap (contains (names_of keys)) c.as_slice-bytes.ensures) ∙ sym (contains_names c.as_slice-bytes.result.now keys) ∙ sym c.if-not-contains-2.ensures)
