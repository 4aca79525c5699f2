use Rattle.std.proofs.Common.{◌≡◌, refl, sym, ap, subst, ◌∙◌, List, ℕ, Option, Some, not}
use Rattle.c_rules.specs.declared.rule.TypeRule.TheVariants as T
use Rattle.c_typed.specs.Table.{KnownStands}
use Rattle.c_rules.specs.Known.{unless}
use Rattle.c_rules.specs.Names.{FileName, file_name}
use Rattle.c_types_state.specs.NameTables.{State, scope_of, IsFileEntry}
use Rattle.c_rules.specs.Programs.{again_clash, joined_name}
use Rattle.c_types.specs.Outside.{row_of}
use Rattle.c_types.proofs.Covering.{covers-noted, covers-same}
use Rattle.c_types.proofs.Filed.{entry-row}
use Rattle.c_types.proofs.items.note_again.Goals as goal

row : (c : goal.After-joined) → (file_name (scope_of c.args.pass.now.checker).file c.args.name.now.bytes ≡ Some (row_of c.args.pass.now.checker.table c.args.name.now.bytes c.in-Some.old)) × KnownStands c.args.pass.now.checker.table c.in-Some.old.c_type
row c =
    let s = c.args.pass.now.checker in
    let files = (scope_of s).file in
    entry-row s.table files c.args.name.now.bytes c.in-Some.old (subst (λ (bytes : List ℕ). IsFileEntry s.table (file_name files bytes) (Some c.in-Some.old)) c.as_slice.ensures c.in-Some.ensures)

pub returns-clause-covers : goal.returns-clause-covers
returns-clause-covers c =
    let table = c.args.pass.now.checker.table in
    let name = c.args.name.now in
    let new = row_of table name.bytes c.args.entry in
    covers-same (ap (λ b. unless (not b) T.T04 name.place) (c.clashes-agrees.ensures name.bytes) ∙ ap (λ (o : Option FileName). again_clash name.place o new) (sym (row c).0)) refl refl
    (covers-noted (unless (not c.clashes-agrees.result) T.T04 name.place) c.require.ensures.noted refl)

pub returns-clause-stands : goal.returns-clause-stands
returns-clause-stands c =
    subst (λ (state : State). KnownStands state.table c.joined.result.c_type) (sym c.require.ensures.noted)
    (c.joined.ensures.stands c.args.pass.now.checker.table (row c).1 c.requires)

pub returns-clause-joined : goal.returns-clause-joined
returns-clause-joined c =
    let table = c.args.pass.now.checker.table in
    let name = c.args.name.now in
    ap (λ (state : State). row_of state.table name.bytes c.joined.result) c.require.ensures.noted
    ∙ c.joined.ensures.joined table name.bytes
    ∙ ap (λ (o : Option FileName). joined_name o (row_of table name.bytes c.args.entry)) (sym (row c).0)
