use Rattle.std.proofs.Common.{◌≡◌, Option, sym, subst}
use Rattle.c_typed.specs.Table.{KnownStands, known_in}
use Rattle.c_types_state.specs.declared.file_name.FileEntry.{FileEntry}
use Rattle.c_rules.specs.Names.{file_name, meaning_of, Local, Outer, Library, NoMeaning, library_type}
use Rattle.c_types_state.specs.NameTables.{State, scope_of, all_locals, IsFileEntry}
use Rattle.c_types_state.specs.Checkers.{state_of}
use Rattle.c_types_state.proofs.Named.{file_found, file_entry_stands, locals_joined, local_stands, means_local, means_outer, means_library, means_nothing}
use Rattle.c_types_state.proofs.checker.Checker.meaning.Goals as goal

pub returns-in-Some-clause-means : goal.returns-in-Some-clause-means
returns-in-Some-clause-means c =
    let had = c.self.inside in
    let state = state_of had.types had.tags.entries had.completed.keys had.defined.keys had.file.entries had.locals had.least in
    subst (λ (s : State). Local c.in-Some.number (known_in s.table.tags s.table.entries c.c_type.result) ≡ meaning_of (scope_of s) c.args.name.now) c.self.view_is
    (means_local state c.args.name.now c.in-Some.number c.c_type.result c.in-Some.ensures c.c_type.ensures)

pub returns-in-Some-clause-stands : goal.returns-in-Some-clause-stands
returns-in-Some-clause-stands c =
    let had = c.self.inside in
    let all = locals_joined had.types had.locals.inner had.locals.outer c.self.invariant.inner c.self.invariant.outer in
    subst (λ (s : State). KnownStands s.table c.c_type.result) c.self.view_is
    (subst (KnownStands had.types) (sym c.c_type.ensures) (local_stands had.types c.args.name.now (all_locals had.locals) all))

pub returns-in-Some-get-clause-means : goal.returns-in-Some-get-clause-means
returns-in-Some-get-clause-means c =
    let had = c.self.inside in
    let state = state_of had.types had.tags.entries had.completed.keys had.defined.keys had.file.entries had.locals had.least in
    let name = c.args.name.now in
    let entry = c.in-Some-get.entry.now in
    let found = subst (λ (o : Option FileEntry). IsFileEntry had.types (file_name (scope_of state).file name) o) (sym c.in-Some-get.ensures.value) (file_found had.types name had.file.entries c.self.invariant.file) in
    subst (λ (s : State). Outer (known_in s.table.tags s.table.entries entry.c_type) ≡ meaning_of (scope_of s) name) c.self.view_is
    (means_outer state name c.in_default.ensures entry found)

pub returns-in-Some-get-clause-stands : goal.returns-in-Some-get-clause-stands
returns-in-Some-get-clause-stands c =
    let had = c.self.inside in
    let state = state_of had.types had.tags.entries had.completed.keys had.defined.keys had.file.entries had.locals had.least in
    let name = c.args.name.now in
    let entry = c.in-Some-get.entry.now in
    let found = subst (λ (o : Option FileEntry). IsFileEntry had.types (file_name (scope_of state).file name) o) (sym c.in-Some-get.ensures.value) (file_found had.types name had.file.entries c.self.invariant.file) in
    subst (λ (s : State). KnownStands s.table entry.c_type) c.self.view_is
    (file_entry_stands had.types name (file_name (scope_of state).file name) entry found)

pub returns-in-Some-library_function-clause-means : goal.returns-in-Some-library_function-clause-means
returns-in-Some-library_function-clause-means c =
    let had = c.self.inside in
    let state = state_of had.types had.tags.entries had.completed.keys had.defined.keys had.file.entries had.locals had.least in
    let name = c.args.name.now in
    let found = subst (λ (o : Option FileEntry). IsFileEntry had.types (file_name (scope_of state).file name) o) (sym c.in_default-get.ensures.value) (file_found had.types name had.file.entries c.self.invariant.file) in
    let function = c.in-Some-library_function.function in
    subst (λ (s : State). Library function (library_type function) ≡ meaning_of (scope_of s) name) c.self.view_is
    (means_library state name c.in_default.ensures found function c.in-Some-library_function.ensures)

pub returns-in-None-clause-means : goal.returns-in-None-clause-means
returns-in-None-clause-means c =
    let had = c.self.inside in
    let state = state_of had.types had.tags.entries had.completed.keys had.defined.keys had.file.entries had.locals had.least in
    let name = c.args.name.now in
    let found = subst (λ (o : Option FileEntry). IsFileEntry had.types (file_name (scope_of state).file name) o) (sym c.in_default-get.ensures.value) (file_found had.types name had.file.entries c.self.invariant.file) in
    subst (λ (s : State). NoMeaning ≡ meaning_of (scope_of s) name) c.self.view_is
    (means_nothing state name c.in_default.ensures found c.in-None.ensures)
