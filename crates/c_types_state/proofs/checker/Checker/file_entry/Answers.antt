use Rattle.std.proofs.Common.{ℕ, Option, Vec, Global, sym, subst, ◌∙◌}
use Rattle.std.specs.Prelude.{bytes_eq}
use Rattle.std.specs.Map.{lookup}
use Rattle.c_types_state.specs.declared.file_name.FileEntry.{FileEntry}
use Rattle.c_rules.specs.Names.{file_name}
use Rattle.c_types_state.specs.NameTables.{State, IsFileEntry, scope_of}
use Rattle.c_types_state.proofs.Named.{file_found}
use Rattle.c_types_state.proofs.checker.Checker.file_entry.Goals as goal

pub returns : goal.returns
returns c =
    let had = c.self.inside in
    let name = c.args.name.now in
    subst (λ (found : Option FileEntry). IsFileEntry c.args.self.now.table (file_name (scope_of c.args.self.now).file name) found) (sym (c.copied.ensures ∙ c.get.ensures.value))
    (subst (λ (s : State). IsFileEntry s.table (file_name (scope_of s).file name) (lookup (λ (k : Vec ℕ Global). bytes_eq name k.items) had.file.entries)) c.self.view_is
    (file_found had.types name had.file.entries c.self.invariant.file))
