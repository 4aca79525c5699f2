use Rattle.std.proofs.Common.{◌≡◌, ℕ, ◌+◌, ◌<◌, None, Some, sym, ap, subst, ◌∙◌, arith, length, ◌++◌, ◌∷◌, [], List, Option, Vec, Global}
use Rattle.std.specs.Prelude.{OnOk, bytes_eq}
use Rattle.std.specs.Map.{lookup}
use Rattle.indexmap.specs.IndexMap.{insert_entry}
use Rattle.indexmap.proofs.CallerLemmas.{insert_entry-new}
use Rattle.c_typed.specs.declared.c_type.Derived.{Derived}
use Rattle.c_typed.specs.declared.c_type.Derived.TheVariants as D
use Rattle.c_typed.specs.declared.extent.Extent.{Extent}
use Rattle.c_typed.specs.Types.{Struct}
use Rattle.c_typed.specs.Table.{Interned, numbered, MakesType}
use Rattle.c_typed.specs.Inside.{IsTable, interned, tags_of, greatest_count}
use Rattle.c_typed.proofs.Keys.{same_entry}
use Rattle.c_typed.proofs.Tags.{no_tag_entry, no_struct_entry, IsTable-struct, MakesType-struct}
use Rattle.c_typed.proofs.type_table.TypeTable.new_struct_type.Goals as goal

pub invariant_of-self-2 : goal.invariant_of-self-2
invariant_of-self-2 c =
    let had = c.self.inside in
    let entries = had.entries.entries in
    let tags = had.tags.entries in
    let key = c.in_ok-from_slice.field-0 in
    let name : key.items ≡ c.args.tag.now = c.in_ok-from_slice.ensures.items in
    let new : (n : ℕ) → numbered (tags_of tags) n ≡ Some c.args.tag.now → ⊥ = (λ n at. c.requires n (sym (ap (λ (t : Interned). numbered t.tags n) c.self.view_is) ∙ at)) in
    let absent : (n : ℕ) → numbered (tags_of tags) n ≡ Some key.items → ⊥ = (λ n at. new n (at ∙ ap Some name)) in
    let few : length tags < greatest_count = omega (arith, c.len-id.ensures.len) in
    let room : length entries < greatest_count = omega (arith, c.len-index.ensures.len) in
    let structure : Derived = D.Struct (record { 0 = c.len-id.result }) in
    let nothing : Extent = record { size = 0; alignment = 1; slots = 0 } in
    let more_tags = c.in_ok-insert.ensures.entries
    ∙ insert_entry-new (λ (a b : Vec ℕ Global). bytes_eq a.items b.items) had.tags key None (no_tag_entry tags c.args.tag.now key name new) in
    let kept = c.in_ok-reserve.ensures.entries in
    let inserted = subst (λ r. OnOk r (c.insert-2.new.self.entries ≡ insert_entry same_entry c.reserve.new.self.entries structure nothing)) c.unwrap.ensures c.insert-2.ensures.entries in
    let more_entries = inserted
    ∙ insert_entry-new same_entry c.reserve.new.self structure nothing (ap (lookup (same_entry structure)) kept ∙ no_struct_entry entries tags had.structures.items c.self.invariant key absent few room nothing c.len-id.result c.len-id.ensures.len)
    ∙ ap (λ es. es ++ (structure, nothing) ∷ []) kept in
    let table = IsTable-struct entries tags had.structures.items c.self.invariant key absent few room nothing c.len-id.result c.len-id.ensures.len in
    subst (λ (ts : List (Vec ℕ Global × Option ℕ)). IsTable c.insert-2.new.self.entries ts had.structures.items) (sym more_tags)
    (subst (λ (es : List (Derived × Extent)). IsTable es (tags ++ (key, None) ∷ []) had.structures.items) (sym more_entries) table)

pub returns-clause-ok : goal.returns-clause-ok
returns-clause-ok c =
    let had = c.self.inside in
    let entries = had.entries.entries in
    let tags = had.tags.entries in
    let key = c.in_ok-from_slice.field-0 in
    let name : key.items ≡ c.args.tag.now = c.in_ok-from_slice.ensures.items in
    let new : (n : ℕ) → numbered (tags_of tags) n ≡ Some c.args.tag.now → ⊥ = (λ n at. c.requires n (sym (ap (λ (t : Interned). numbered t.tags n) c.self.view_is) ∙ at)) in
    let absent : (n : ℕ) → numbered (tags_of tags) n ≡ Some key.items → ⊥ = (λ n at. new n (at ∙ ap Some name)) in
    let few : length tags < greatest_count = omega (arith, c.len-id.ensures.len) in
    let room : length entries < greatest_count = omega (arith, c.len-index.ensures.len) in
    let structure : Derived = D.Struct (record { 0 = c.len-id.result }) in
    let nothing : Extent = record { size = 0; alignment = 1; slots = 0 } in
    let more_tags = c.in_ok-insert.ensures.entries
    ∙ insert_entry-new (λ (a b : Vec ℕ Global). bytes_eq a.items b.items) had.tags key None (no_tag_entry tags c.args.tag.now key name new) in
    let kept = c.in_ok-reserve.ensures.entries in
    let inserted = subst (λ r. OnOk r (c.insert-2.new.self.entries ≡ insert_entry same_entry c.reserve.new.self.entries structure nothing)) c.unwrap.ensures c.insert-2.ensures.entries in
    let more_entries = inserted
    ∙ insert_entry-new same_entry c.reserve.new.self structure nothing (ap (lookup (same_entry structure)) kept ∙ no_struct_entry entries tags had.structures.items c.self.invariant key absent few room nothing c.len-id.result c.len-id.ensures.len)
    ∙ ap (λ es. es ++ (structure, nothing) ∷ []) kept in
    let made = MakesType-struct entries tags had.structures.items c.self.invariant key absent few room nothing c.len-id.result c.len-id.ensures.len in
    let new_tags = subst (λ (ts : List (Vec ℕ Global × Option ℕ)). MakesType (interned entries tags had.structures.items) (interned (entries ++ (structure, nothing) ∷ []) ts had.structures.items) (record { 0 = length entries + 9 }) (Struct key.items)) (sym more_tags) made in
    let new_entries = subst (λ (es : List (Derived × Extent)). MakesType (interned entries tags had.structures.items) (interned es c.insert.new.self.entries had.structures.items) (record { 0 = length entries + 9 }) (Struct key.items)) (sym more_entries) new_tags in
    let old_view = subst (λ (t : Interned). MakesType t (interned c.insert-2.new.self.entries c.insert.new.self.entries had.structures.items) (record { 0 = length entries + 9 }) (Struct key.items)) c.self.view_is new_entries in
    let number = subst (λ n. MakesType c.args.self.now (interned c.insert-2.new.self.entries c.insert.new.self.entries had.structures.items) (record { 0 = n + 9 }) (Struct key.items)) (sym c.len-index.ensures.len) old_view in
    subst (λ t. MakesType c.args.self.now (interned c.insert-2.new.self.entries c.insert.new.self.entries had.structures.items) (record { 0 = c.len-index.result + 9 }) (Struct t)) name number
