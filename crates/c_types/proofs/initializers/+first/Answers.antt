use Rattle.std.proofs.Common.{◌≡◌, ℕ, ◌+◌, ◌-◌, ◌≤◌, false, List, Some, None, slice_get, take, drop, length, refl, sym, ap, subst, ◌∙◌, arith}
use denote.Param.Weighed.{most, at_most}
use Rattle.std.proofs.lemmas.List.{take_rest}
use Rattle.c_syntax.specs.declared.declaration.Init.{Init}
use Rattle.c_syntax.proofs.declaration.Init.TheLaws.{the_size}
use Rattle.c_syntax.specs.Trees as Trees
use Rattle.c_syntax.specs.Views.{expr_tree, init_tree, inits_of}
use Rattle.c_syntax.proofs.SyntaxRows.{init_tree-list}
use Rattle.c_typed.specs.Types as T
use Rattle.c_typed.specs.Layouts.{MemberDef}
use Rattle.c_typed.specs.Values.{Held}
use Rattle.c_typed.specs.declared.part.Part.TheVariants as Parts
use Rattle.c_typed.specs.Table.{type_in, tag_in, structs_in, members_of, shape_type}
use Rattle.c_typed.proofs.Grown.{stays}
use Rattle.c_rules.specs.Initializers as initializers
use Rattle.c_rules.specs.Elaborated as elaborated
use Rattle.c_types_state.specs.Finding.{each_in}
use Rattle.c_types_state.specs.NameTables.{State, scope_of}
use Rattle.c_rules.specs.NamedItems.{named_in_inits}
use Rattle.c_types.specs.Made.{Covers}
use Rattle.c_types.specs.FirstValues.{HoldsFirst, too_many}
use Rattle.c_types.proofs.Covering.{covers-same}
use Rattle.c_types.specs.InitialValues.{AddsValues, init_values, inits_values}
use Rattle.c_types.proofs.DefinedStays.{on_ok_both}
use Rattle.c_types.proofs.Firsts.{on_ok, left-more}
use Rattle.c_types.proofs.KeptValues.{ValuesFar, adds-same, kept-none, kept-init, kept-rest}
use Rattle.c_types.proofs.ListedFirsts.{ElementsFar, MembersFar, elements-none, elements-more, elements-refused, members-none, members-more, members-refused}
use Rattle.c_types.proofs.BracedFirsts.{no_text-literal, no_text-element, no_literal-none, braced-elements-found, braced-elements-held, popped, held-within, member-none, member-some, same_members, listed-found, listed-named, listed-held}
use Rattle.c_types.proofs.initializers.+first.Goals.{list_first-in-Some+else-is_some, list_first-else-is_some-via-then-is_some+else-is_character, list_first-else-is_some-via-else-is_some, list_first-in_default-value_in}
use Rattle.c_types.proofs.initializers.+first.Goals as goal

pub elements_first-loop-index-init : goal.elements_first-loop-index-init
elements_first-loop-index-init t c =
    let s = c.args.pass.now in
    let all = inits_of c.args.inits.now in
    record {
      far = elements-none (type_in s.checker.table c.args.element) c.args.length all s c.args.target.now;
      values = kept-none (inits_values (scope_of s.checker) all) s.checker.table c.args.values.now.items;
    }

pub elements_first-returns-then-index-length-clause-found : goal.elements_first-returns-then-index-length-clause-found
elements_first-returns-then-index-length-clause-found t c =
    let s = c.args.pass.now in
    let all = c.args.inits.now in
    let here = c.loop-index.index in
    let mid = c.loop-index.pass in
    let new = c.refuse_too_many.new.pass in
    let scope = scope_of mid.checker in
    on_ok c.refuse_too_many.result
    (λ h. (elements-refused (type_in s.checker.table c.args.element) c.args.length (inits_of all) (inits_of (drop here all)) here s mid new c.args.target.now c.loop-index.target
    c.if-index-length.true c.loop-index.invariant.far
    (subst (λ (left : List Init). Covers (too_many scope (inits_of left)) (named_in_inits scope (inits_of left)) scope mid new) (take_rest all here) h)).0)
    c.refuse_too_many.ensures.found

pub elements_first-returns-then-index-length-clause-values : goal.elements_first-returns-then-index-length-clause-values
elements_first-returns-then-index-length-clause-values t c =
    let all = c.args.inits.now in
    let here = c.loop-index.index in
    let mid = c.loop-index.pass in
    let rest = inits_of (drop here all) in
    let far = c.loop-index.invariant in
    on_ok_both c.refuse_too_many.result
    (λ found values. kept-rest rest far.far.passed.covers.scope far.values found.grows
    (subst (λ (left : List Init). AddsValues (inits_values (scope_of mid.checker) (inits_of left)) c.refuse_too_many.new.pass.checker.table c.loop-index.values.items c.refuse_too_many.new.values.items) (take_rest all here) values))
    c.refuse_too_many.ensures.found c.refuse_too_many.ensures.values

pub elements_first-first_of-requires : goal.elements_first-first_of-requires
elements_first-first_of-requires t c =
    let init = c.index-inits-index.result in
    let least : the_size init ≤ most the_size c.args.inits.now = subst (λ (i : Init). the_size i ≤ most the_size c.args.inits.now) (sym c.index-inits-index.is) (at_most the_size c.args.inits.now c.loop-index.index init (omega arith)) in
    (omega (arith, least), (stays c.args.pass.now.checker.table c.loop-index.pass.checker.table c.loop-index.invariant.far.passed.covers.grows c.args.element c.requires).0)

pub elements_first-loop-index-preserved : goal.elements_first-loop-index-preserved
elements_first-loop-index-preserved t c =
    let s = c.args.pass.now in
    let all = c.args.inits.now in
    let here = c.loop-index.index in
    let mid = c.loop-index.pass in
    let init = c.index-inits-index.result in
    let element = type_in s.checker.table c.args.element in
    let more = left-more all here init (omega arith) c.index-inits-index.is in
    let far = c.loop-index.invariant in
    let own = c.in_ok-first_of.ensures {u = tt} in
    record {
      far = elements-more element (type_in mid.checker.table c.args.element) c.args.length (inits_of all) (init_tree init) (inits_of (drop (here + 1) all)) here s mid c.first_of.new.pass c.args.target.now c.loop-index.target c.first_of.new.target
          c.if-index-length.false (stays s.checker.table mid.checker.table c.loop-index.invariant.far.passed.covers.grows c.args.element c.requires).1
          (subst (λ (left : List Init). ElementsFar element c.args.length (inits_of all) (inits_of left) here s mid c.args.target.now c.loop-index.target) more far.far)
          own.found own.held;
      values = kept-init (init_tree init) (inits_of (drop (here + 1) all)) far.far.passed.covers.scope
          (subst (λ (left : List Init). ValuesFar (inits_values (scope_of s.checker) (inits_of all)) (inits_values (scope_of s.checker) (inits_of left)) mid.checker.table c.args.values.now.items c.loop-index.values.items) more far.values)
          own.found.grows own.values;
    }

pub first_of-returns-in-List-clause-found : goal.first_of-returns-in-List-clause-found
first_of-returns-in-List-clause-found t c =
    let s = c.args.pass.now in
    let scope = scope_of s.checker in
    let init = c.args.init.now in
    on_ok c.list_first.result
    (λ h. covers-same (listed-found scope c.args.c_type c.in-Some.c_type init c.in-List.place c.in-List.inits c.deref.result.now s.checker.table c.in-Some.is c.in-List.is c.deref.ensures.value)
    (listed-named scope c.args.c_type c.in-Some.c_type init c.in-List.place c.in-List.inits c.deref.result.now s.checker.table c.in-Some.is c.in-List.is c.deref.ensures.value) refl h)
    c.list_first.ensures.found

pub first_of-returns-in-List-clause-held : goal.first_of-returns-in-List-clause-held
first_of-returns-in-List-clause-held t c =
    let s = c.args.pass.now in
    let scope = scope_of s.checker in
    let init = c.args.init.now in
    on_ok c.list_first.result
    (λ h. subst (λ (held : List Held). HoldsFirst held c.args.target.now c.list_first.new.target)
    (listed-held scope c.args.c_type c.in-Some.c_type init c.in-List.place c.in-List.inits c.deref.result.now s.checker.table c.in-Some.is c.in-List.is c.deref.ensures.value c.args.target.now.parts.items c.args.index) h)
    c.list_first.ensures.held

pub first_of-returns-in-Value-clause-values : goal.first_of-returns-in-Value-clause-values
first_of-returns-in-Value-clause-values t c =
    on_ok c.value_first.result (adds-same (ap (init_values (scope_of c.args.pass.now.checker)) (sym (ap init_tree c.in-Value.is)))) c.value_first.ensures.values

pub first_of-returns-in-List-clause-values : goal.first_of-returns-in-List-clause-values
first_of-returns-in-List-clause-values t c =
    let scope = scope_of c.args.pass.now.checker in
    on_ok c.list_first.result
    (adds-same (ap (λ inits. inits_values scope inits) (ap inits_of c.deref.ensures.value) ∙ ap (λ init. init_values scope init) (sym (ap init_tree c.in-List.is ∙ init_tree-list c.in-List.place c.in-List.inits))))
    c.list_first.ensures.values

pub list_first-returns-in_default-clause-values : goal.list_first-returns-in_default-clause-values
list_first-returns-in_default-clause-values t c =
    on_ok c.found_within_all.result (adds-same (ap (λ (state : State). inits_values (scope_of state) (inits_of c.args.inits.now)) c.note.ensures)) c.found_within_all.ensures.values

pub list_first-returns-in_ok-elements_first-in-Array : goal.list_first-returns-in_ok-elements_first-in-Array
list_first-returns-in_ok-elements_first-in-Array t c =
    let s = c.args.pass.now in
    let scope = scope_of s.checker in
    let table = s.checker.table in
    let element = type_in table c.in-Array.element in
    let inits = inits_of c.args.inits.now in
    let old = c.args.target.now in
    let mid = c.elements_first.new.target in
    let step = Parts.Elements c.args.index in
    let array : type_in table c.args.c_type ≡ T.Array element c.in-Array.length = c.shape.ensures.means ∙ ap (shape_type table) c.in-Array.is in
    let no_text : initializers.is_text element inits ≡ false =
    elim c.match-value_in.branch [
      | list_first-in-Some+else-is_some w ↦
          ap (initializers.is_text element) w.in-Some.ensures.some
          ∙ (elim w.else-is_some.branch [
            | list_first-else-is_some-via-then-is_some+else-is_character w' ↦ no_text-element element (expr_tree w.in-Some.tree.now) (sym w'.is_character.ensures ∙ w'.if-is_character.false)
            | list_first-else-is_some-via-else-is_some w' ↦ no_text-literal element (expr_tree w.in-Some.tree.now) (sym w.literal_of.ensures ∙ no_literal-none w.literal_of.result (sym w.is_some.ensures ∙ w'.if-is_some.false))
          ])
      | list_first-in_default-value_in w ↦ (w.in_default-value_in.ensures.none c.args.place element).1
    ] in
    let pushed = (c.in_ok-push-in-Array.ensures {u = tt}).items in
    let own = c.in_ok-elements_first-in-Array.ensures {u = tt} in
    let holds = own.held in
    let new = record old { parts = c.pop.new.self; first = mid.first } in
    record {
      found =
          covers-same (braced-elements-found scope c.args.place element c.in-Array.length inits no_text ∙ (λ i. initializers.first_of scope (Some (sym array i)) (Trees.InitList c.args.place inits))) refl refl
          own.found;
      held =
          subst (λ (held : List Held). HoldsFirst held old new)
          ((λ i. elaborated.elements_held scope (pushed i) 0 element c.in-Array.length inits) ∙ braced-elements-held scope c.args.place element c.in-Array.length old.parts.items c.args.index inits no_text
          ∙ (λ i. elaborated.held_of scope old.parts.items c.args.index (Some (sym array i)) (Trees.InitList c.args.place inits)))
          (held-within refl holds (popped mid.parts.items old.parts.items c.pop.new.self.items step mid.parts.len (holds.parts ∙ pushed) (omega (arith, mid.parts.ok.0)) c.pop.ensures.rest) refl);
      values = own.values;
    }

pub members_first-loop-number-init : goal.members_first-loop-number-init
members_first-loop-number-init t c =
    let s = c.args.pass.now in
    let table = s.checker.table in
    let all = inits_of c.args.inits.now in
    record {
      far = members-none c.args.index (members_of (structs_in table) (T.Struct (tag_in table c.args.id))) all s c.args.target.now;
      values = kept-none (inits_values (scope_of s.checker) all) table c.args.values.now.items;
    }

pub members_first-returns-in_default : goal.members_first-returns-in_default
members_first-returns-in_default t c =
    let s = c.args.pass.now in
    let all = c.args.inits.now in
    let here = c.loop-number.number in
    let mid = c.loop-number.pass in
    let new = c.refuse_too_many.new.pass in
    let scope = scope_of mid.checker in
    let members = members_of (structs_in s.checker.table) (T.Struct (tag_in s.checker.table c.args.id)) in
    let none : slice_get members here ≡ None =
    ap (λ (ms : List MemberDef). slice_get ms here) (sym (same_members s.checker.table mid.checker.table c.loop-number.invariant.far.passed.covers.grows c.args.id c.requires))
    ∙ member-none mid.checker.table _ c.member_at.result c.member_at.ensures c.in_default.is in
    let far = c.loop-number.invariant in
    let both = λ (h : Covers (too_many scope (inits_of (take (length all - here) (drop here all)))) (named_in_inits scope (inits_of (take (length all - here) (drop here all)))) scope mid new).
    members-refused c.args.index members (inits_of all) (inits_of (drop here all)) here s mid new c.args.target.now c.loop-number.target none c.loop-number.invariant.far
    (subst (λ (left : List Init). Covers (too_many scope (inits_of left)) (named_in_inits scope (inits_of left)) scope mid new) (take_rest all here) h) in
    record {
      found = on_ok c.refuse_too_many.result (λ h. (both h).0) c.refuse_too_many.ensures.found;
      held = on_ok c.refuse_too_many.result (λ h. (both h).1) c.refuse_too_many.ensures.found;
      values =
          on_ok_both c.refuse_too_many.result
          (λ found values. kept-rest (inits_of (drop here all)) far.far.passed.covers.scope far.values found.grows
          (subst (λ (left : List Init). AddsValues (inits_values scope (inits_of left)) new.checker.table c.loop-number.values.items c.refuse_too_many.new.values.items) (take_rest all here) values))
          c.refuse_too_many.ensures.found c.refuse_too_many.ensures.values;
    }

pub members_first-loop-number-preserved : goal.members_first-loop-number-preserved
members_first-loop-number-preserved t c =
    let s = c.args.pass.now in
    let all = c.args.inits.now in
    let here = c.loop-number.number in
    let mid = c.loop-number.pass in
    let table = mid.checker.table in
    let new = c.member_first.new.pass in
    let init = c.index-inits-number.result in
    let members = members_of (structs_in s.checker.table) (T.Struct (tag_in s.checker.table c.args.id)) in
    let same : members_of (structs_in table) (T.Struct (tag_in table c.args.id)) ≡ members = same_members s.checker.table table c.loop-number.invariant.far.passed.covers.grows c.args.id c.requires in
    let member = member-some table _ c.member_at.result c.in-Some.c_type c.member_at.ensures c.in-Some.is in
    let more = left-more all here init (omega arith) c.index-inits-number.is in
    let far = c.loop-number.invariant in
    let own = c.in_ok-member_first.ensures {u = tt} in
    record {
      far =
          subst (λ (k : ℕ). MembersFar c.args.index members (inits_of all) (inits_of (drop (here + 1) all)) k s new c.args.target.now c.member_first.new.target) (omega arith)
          (members-more c.args.index members (inits_of all) (init_tree init) (inits_of (drop (here + 1) all)) here member.its (each_in type_in table c.in-Some.c_type) s mid new c.args.target.now c.loop-number.target c.member_first.new.target
          (ap (λ (ms : List MemberDef). slice_get ms here) (sym same) ∙ member.is) member.means
          (subst (λ (left : List Init). MembersFar c.args.index members (inits_of all) (inits_of left) here s mid c.args.target.now c.loop-number.target) more far.far)
          own.found own.held);
      values =
          kept-init (init_tree init) (inits_of (drop (here + 1) all)) far.far.passed.covers.scope
          (subst (λ (left : List Init). ValuesFar (inits_values (scope_of s.checker) (inits_of all)) (inits_values (scope_of s.checker) (inits_of left)) table c.args.values.now.items c.loop-number.values.items) more far.values)
          own.found.grows own.values;
    }
