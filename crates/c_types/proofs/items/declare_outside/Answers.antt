use Rattle.std.proofs.Common.{◌≡◌, rules, ◌++◌, List, [], ℕ, refl, sym, subst, ◌∙◌, not, append-nil}
use Rattle.std.proofs.lemmas.Result.{on_ok_weaker}
use Rattle.c_types_state.specs.declared.file_name.FileEntry.{FileEntry}
use Rattle.c_typed.specs.Table.{type_in, KnownStands}
use Rattle.c_typed.proofs.Grown.{grows_trans}
use Rattle.c_rules.specs.declared.rule.TypeRule.TheVariants as T
use Rattle.c_rules.specs.Known.{unless}
use Rattle.c_rules.specs.Names.{Scope, FileName, file_name, with_file_name, is_library}
use Rattle.c_types_state.specs.NameTables.{State, scope_of, ScopeGrows}
use Rattle.c_types_state.specs.Finding.{each_in}
use Rattle.c_rules.specs.Programs.{main_clash, again_clash, joined_name}
use Rattle.c_syntax.specs.Views.{name_tree}
use Rattle.c_types_expressions.specs.declared.pass.Pass.{Pass}
use Rattle.c_types.specs.Outside.{row_of}
use Rattle.c_types.proofs.Covering.{covers-noted, covers-then, covers-leads, covers-same}
use Rattle.c_types.proofs.Filed.{known_stands-each, row-stays, known-each, known_stays}
use Rattle.c_types.proofs.items.declare_outside.Goals as goal

-- the table behind the first rule
pub note_again-joined-requires : goal.note_again-joined-requires
note_again-joined-requires c =
    let t1 = c.require.new.self.table in
    let t2 = c.note_main.new.pass.checker.table in
    let had = subst (λ (state : State). KnownStands state.table c.args.c_type) (sym c.require.ensures.noted) (known_stands-each c.args.pass.now.checker.table c.args.c_type c.requires) in
    (known_stays t1 t2 c.in_ok-note_main.ensures.grows c.args.c_type had).0

abbrev filed : FileName → Scope → Scope
filed n there = record there { file = with_file_name n there.file }

free_name : (c : goal.After-put_file_entry) → c.is_none-is_free.result ≡ not (is_library c.args.name.now.bytes)
free_name c = search rules

pub returns : goal.returns
returns c =
    let s = c.args.pass.now in
    let table = s.checker.table in
    let name = c.args.name.now in
    let here = name.place in
    let bytes = name.bytes in
    let scope = scope_of s.checker in
    let s1 : Pass = record s { checker = c.require.new.self } in
    let t2 = c.note_main.new.pass in
    let t3 = c.note_again-joined.new.pass in
    let tree = name_tree name in
    let free = free_name c in
    let first = covers-noted {s = s} {t = s1} (unless c.is_none-is_free.result T.T04 here) c.require.ensures.noted refl in
    let row : FileName = record { name = bytes; c_type = each_in type_in table c.args.c_type; has_init = c.args.has_init; has_body = c.args.has_body } in
    let entry : FileEntry = record { c_type = c.args.c_type; has_init = c.args.has_init; has_body = c.args.has_body } in
    let row_now = row_of t2.checker.table bytes entry in
    let stands = known_stands-each table c.args.c_type c.requires in
    let grows = grows_trans table c.require.new.self.table t2.checker.table first.grows c.in_ok-note_main.ensures.grows in
    let same_row : row_now ≡ row = row-stays table t2.checker.table grows bytes entry stands ∙ (λ i. record { name = bytes; c_type = known-each table c.args.c_type i; has_init = c.args.has_init; has_body = c.args.has_body }) in
    let joined = row_of t3.checker.table bytes c.note_again-joined.result in
    let two = covers-then (λ _. main_clash tree (each_in type_in c.require.new.self.table c.args.c_type)) (λ _. []) (λ (there : Scope). there) first c.in_ok-note_main.ensures in
    let three = covers-then (λ (there : Scope). again_clash here (file_name there.file bytes) row_now) (λ _. []) (λ (there : Scope). there) two c.note_again-joined.ensures.covers in
    let same_joined = c.note_again-joined.ensures.joined ∙ (λ i. joined_name (file_name (two.scope i).file bytes) (same_row i)) in
    let same_bytes = c.as_slice-bytes.ensures in
    on_ok_weaker c.put_file_entry.result
    (λ (leads : ScopeGrows (filed (row_of t3.checker.table c.as_slice-bytes.result.now c.note_again-joined.result) (scope_of t3.checker)) t3.checker c.put_file_entry.new.self).
    covers-same
    (append-nil _ ∙ (λ i. (unless (free i) T.T04 here ++ main_clash tree (each_in type_in (c.require.ensures.noted i).table c.args.c_type)) ++ again_clash here (file_name scope.file bytes) (same_row i)))
    refl
    (λ i. filed (same_joined i) scope)
    (covers-then (λ _. []) (λ _. []) (filed joined) three (covers-leads {s = t3} {t = record t3 { checker = c.put_file_entry.new.self }} (subst (λ (b : List ℕ). ScopeGrows (filed (row_of t3.checker.table b c.note_again-joined.result) (scope_of t3.checker)) t3.checker c.put_file_entry.new.self) same_bytes leads) refl)))
    c.put_file_entry.ensures.done
