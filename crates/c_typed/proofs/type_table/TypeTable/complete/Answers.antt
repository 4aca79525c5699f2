use Rattle.std.proofs.Common.{rules, ◌≡◌, ◌++◌, ◌∷◌, [], length, Some, List, false, sym, ap, subst, ◌∙◌, cond, is_ok}
use Rattle.indexmap.specs.IndexMap.{set_value_at}
use Rattle.c_typed.specs.declared.structure.Structure.{Structure}
use Rattle.c_typed.specs.Types.{Struct}
use Rattle.c_typed.specs.Layouts.{is_complete}
use Rattle.c_typed.specs.Table.{Interned, structs_in, tag_in, TagStands, member_entries, AreComplete, completed}
use Rattle.c_typed.specs.Inside.{IsTable, IsBuilt, interned}
use Rattle.c_typed.proofs.Completing.{complete_stand, IsTable-completed, view-completed}
use Rattle.c_typed.proofs.type_table.TypeTable.complete.Goals as goal

pub invariant_of-self-2 : goal.invariant_of-self-2
invariant_of-self-2 c =
    let had = c.self.inside in
    let entries = had.entries.entries in
    let tags = had.tags.entries in
    let structures = had.structures.items in
    let s = c.in_ok-structure.structure in
    let all = member_entries c.args.members.items in
    let view = c.self.view_is in
    let items = c.push.ensures.items
    ∙ ap (λ r. cond (is_ok r) (c.reserve.new.self.items ++ s ∷ []) c.reserve.new.self.items) c.unwrap.ensures
    ∙ ap (λ ss. ss ++ s ∷ []) c.in_ok-reserve.ensures.items in
    let reserved : length c.reserve.new.self.items ≡ c.len-index.result = search rules in
    let index : length structures ≡ c.len-index.result = sym (ap length c.in_ok-reserve.ensures.items) ∙ reserved in
    let lt = subst (λ (t : Interned). TagStands t c.args.id) (sym view) c.requires.tag in
    let unknown = subst (λ (t : Interned). is_complete (structs_in t) (Struct (tag_in t c.args.id)) ≡ false) (sym view) c.requires.open_until_now in
    let built = subst (λ (t : Interned). IsBuilt t c.args.id all s) (sym view) c.in_ok-structure.ensures in
    let stand = complete_stand (interned entries tags structures) all (subst (λ (t : Interned). AreComplete t all) (sym view) c.requires.members) in
    let table = IsTable-completed entries tags structures c.self.invariant c.args.id lt unknown all s built stand in
    subst (λ (ss : List Structure). IsTable entries (set_value_at tags c.args.id.0 (Some c.len-index.result)) ss) (sym items)
    (subst (λ n. IsTable entries (set_value_at tags c.args.id.0 (Some n)) (structures ++ s ∷ [])) index table)

pub returns-clause-ok : goal.returns-clause-ok
returns-clause-ok c =
    let had = c.self.inside in
    let entries = had.entries.entries in
    let tags = had.tags.entries in
    let structures = had.structures.items in
    let s = c.in_ok-structure.structure in
    let all = member_entries c.args.members.items in
    let view = c.self.view_is in
    let items = c.push.ensures.items
    ∙ ap (λ r. cond (is_ok r) (c.reserve.new.self.items ++ s ∷ []) c.reserve.new.self.items) c.unwrap.ensures
    ∙ ap (λ ss. ss ++ s ∷ []) c.in_ok-reserve.ensures.items in
    let reserved : length c.reserve.new.self.items ≡ c.len-index.result = search rules in
    let index : length structures ≡ c.len-index.result = sym (ap length c.in_ok-reserve.ensures.items) ∙ reserved in
    let lt = subst (λ (t : Interned). TagStands t c.args.id) (sym view) c.requires.tag in
    let unknown = subst (λ (t : Interned). is_complete (structs_in t) (Struct (tag_in t c.args.id)) ≡ false) (sym view) c.requires.open_until_now in
    let built = subst (λ (t : Interned). IsBuilt t c.args.id all s) (sym view) c.in_ok-structure.ensures in
    let stand = complete_stand (interned entries tags structures) all (subst (λ (t : Interned). AreComplete t all) (sym view) c.requires.members) in
    ap (λ (ss : List Structure). interned entries (set_value_at tags c.args.id.0 (Some c.len-index.result)) ss) items
    ∙ ap (λ n. interned entries (set_value_at tags c.args.id.0 (Some n)) (structures ++ s ∷ [])) (sym index)
    ∙ view-completed entries tags structures c.self.invariant c.args.id lt unknown all s built stand
    ∙ ap (λ (t : Interned). completed t c.args.id.0 all) view
