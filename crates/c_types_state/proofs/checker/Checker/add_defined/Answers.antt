use Rattle.std.proofs.Common.{ℕ, List, sym, ap, ◌∙◌}
use Rattle.c_typed.specs.Names.{contains}
use Rattle.c_types_state.specs.NameTables.{State, with_once}
use Rattle.c_types_state.specs.Checkers.{names_of, state_of}
use Rattle.c_types_state.proofs.Named.{contains_names, names_with, once_there, defined_set}
use Rattle.c_types_state.proofs.checker.Checker.add_defined.Goals as goal

pub returns-in_ok-insert-clause-done : goal.returns-in_ok-insert-clause-done
returns-in_ok-insert-clause-done c =
    let had = c.self.inside in
    let state = state_of had.types had.tags.entries had.completed.keys had.defined.keys had.file.entries had.locals had.least in
    let added = ap names_of c.in_ok-insert.ensures.keys ∙ names_with had.defined.keys c.in_ok-from_slice.field-0 c.args.name.now c.in_ok-from_slice.ensures.items in
    ap (λ (names : List (List ℕ)). defined_set state names) added ∙ ap (λ (s : State). defined_set s (with_once s.defined c.args.name.now)) c.self.view_is

pub returns-else-not-contains-clause-done : goal.returns-else-not-contains-clause-done
returns-else-not-contains-clause-done c =
    let now = c.args.self.now in
    let there = ap (λ (s : State). contains s.defined c.args.name.now) (sym c.self.view_is) ∙ sym (contains_names c.args.name.now c.self.inside.defined.keys) ∙ sym c.if-not-contains.ensures in
    ap (λ (names : List (List ℕ)). defined_set now names) (once_there now.defined c.args.name.now there)
