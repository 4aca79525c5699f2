use Rattle.std.proofs.Common.{ℕ, List, map, Vec, Global, sym, ap, subst, ◌∙◌}
use Rattle.c_typed.specs.Table.{KnownStands}
use Rattle.c_types_state.specs.declared.file_name.FileEntry.{FileEntry}
use Rattle.c_rules.specs.Names.{with_file_name}
use Rattle.c_types_state.specs.NameTables.{State, FileStands, file_row}
use Rattle.c_types_state.specs.Checkers.{rows_of, state_of}
use Rattle.c_types_state.proofs.Named.{file_stands, file_put, file_leads}
use Rattle.c_types_state.proofs.checker.Checker.put_file_entry.Goals as goal

pub invariant_of-self-2 : goal.invariant_of-self-2
invariant_of-self-2 c =
    let had = c.self.inside in
    let stands = subst (λ (s : State). KnownStands s.table c.args.entry.c_type) (sym c.self.view_is) c.requires in
    record {
      file = subst (λ (es : List (Vec ℕ Global × FileEntry)). FileStands had.types (rows_of es)) (sym c.in_ok-insert.ensures.entries)
          (file_stands had.types had.file.entries c.in_ok-from_slice.field-0 c.args.entry c.self.invariant.file stands);
      inner = c.self.invariant.inner;
      outer = c.self.invariant.outer;
    }

pub returns-clause-done : goal.returns-clause-done
returns-clause-done c =
    let had = c.self.inside in
    let state = state_of had.types had.tags.entries had.completed.keys had.defined.keys had.file.entries had.locals had.least in
    let name = c.args.name.now in
    let put = ap (λ (es : List (Vec ℕ Global × FileEntry)). map (file_row had.types) (rows_of es)) c.in_ok-insert.ensures.entries
    ∙ file_put had.types had.file.entries c.in_ok-from_slice.field-0 c.args.entry
    ∙ ap (λ (n : List ℕ). with_file_name (file_row had.types (record { name = n; entry = c.args.entry })) (map (file_row had.types) (rows_of had.file.entries))) c.in_ok-from_slice.ensures.items in
    file_leads state c.args.self.now c.self.view_is (rows_of c.insert.new.self.entries) name c.args.entry put
