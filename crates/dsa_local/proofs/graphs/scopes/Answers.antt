use Rattle.std.proofs.Common.{◌≡◌, ◌<◌, ◌+◌, take, get_or, length, option_map, Some, refl, sym, ap, subst, ◌∙◌, arith}
use Rattle.std.proofs.lemmas.Option.{slice_get-map, slice_get_read}
use Rattle.tac_ir.specs.States.{InFunction, function_of}
use Rattle.tac_ir.specs.Views.{function_in, tac_of}
use Rattle.call_graph.proofs.RowLists.{take_all, has_at}
use Rattle.call_graph.specs.ClassLists.{numbers_of}
use Rattle.heap_graph.specs.declared.scope.Scope.{Scope}
use Rattle.heap_graph.specs.Known.{owner_at}
use Rattle.dsa_local.specs.Rounds.{owners_of}
use Rattle.dsa_local.specs.Local.{owners_in, IsScope, AreScopes}
use Rattle.dsa_local.proofs.Collecting.{all_more, map_more}
use Rattle.dsa_local.proofs.Scoping.{none, number_at, numbers_more, scope_told}
use Rattle.dsa_local.proofs.graphs.scopes.Goals as goal

pub loop-member-init : goal.loop-member-init
loop-member-init c = record {
  owners = ap owners_of c.new-scopes.ensures.items;
  each = subst (AreScopes c.args.tac.now) (sym c.new-scopes.ensures.items) tt;
}

pub index-requires : goal.index-requires
index-requires c =
    let members = c.args.members.now in
    let i = c.loop-member.member-index in
    let n = (get_or members i none).0 in
    let less : n < length c.args.tac.now.functions.items = c.requires.within n (has_at (numbers_of members) i n (number_at members i c.loop-member-test.true)) in
    omega (arith, less, c.args.tac.now.functions.ok.0)

pub loop-member-preserved : goal.loop-member-preserved
loop-member-preserved c =
    let tac = c.args.tac.now in
    let functions = tac.functions.items in
    let members = c.args.members.now in
    let i = c.loop-member.member-index in
    let n = (get_or members i none).0 in
    let scope = c.in_ok-scope_of.field-0 in
    let function = c.index.result.now in
    let less : n < length functions = c.requires.within n (has_at (numbers_of members) i n (number_at members i c.loop-member-test.true)) in
    let at : function_of (tac_of tac) (InFunction n) ≡ Some (function_in tac.types function) =
    slice_get-map (function_in tac.types) functions n ∙ ap (option_map (function_in tac.types)) (slice_get_read functions (length functions) n function refl less c.index.ensures) in
    let same : owner_at scope.owner ≡ InFunction n = ap owner_at c.in_ok-scope_of.ensures.owner in
    record {
      owners = map_more (λ (s : Scope). owner_at s.owner) InFunction c.loop-member.scopes.items c.push.new.self.items scope (numbers_of (take i members)) (numbers_of (take (i + 1) members)) n c.in_ok-push.ensures.items
          (numbers_more members i c.loop-member-test.true) c.loop-member.invariant.owners same;
      each = subst (AreScopes tac) (sym c.in_ok-push.ensures.items)
          (all_more (IsScope tac) c.loop-member.scopes.items scope c.loop-member.invariant.each (scope_told tac (InFunction n) function scope at same (c.in_ok-scope_of.ensures.describes tac.types)));
    }

pub returns-clause-owners : goal.returns-clause-owners
returns-clause-owners c = c.loop-member.invariant.owners ∙ ap (λ l. owners_in (numbers_of l)) (take_all c.loop-member.member-index c.args.members.now c.loop-member-test.false)

pub returns-clause-each : goal.returns-clause-each
returns-clause-each c = c.loop-member.invariant.each
