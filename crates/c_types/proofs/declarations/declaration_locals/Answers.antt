use Rattle.std.proofs.Common.{◌≡◌, ◌+◌, List, [], ◌∷◌, ◌++◌, map, take, sym, ap, subst, ◌∙◌, arith}
use Rattle.std.proofs.lemmas.List.{take_more, take_all, map-append}
use Rattle.c_syntax.specs.declared.declaration.InitDeclarator as memory_init_declarator
use Rattle.c_syntax.specs.Trees.{InitDeclaratorTree}
use Rattle.c_syntax.specs.Views.{init_declarator_tree, words_tree}
use Rattle.c_rules.specs.Expressions.{words_type}
use Rattle.c_types_state.specs.NameTables.{scope_of}
use Rattle.c_types.proofs.LocalsMade.{LocalsSoFar, so_far-none, so_far-more}
use Rattle.c_types.proofs.declarations.declaration_locals.Goals as goal

pub local-requires : goal.local-requires
local-requires c = c.loop-declarator.invariant.stands

pub loop-declarator-init : goal.loop-declarator-init
loop-declarator-init c = so_far-none c.args.declaration.now.simple.place (words_tree c.args.declaration.now.simple) c.new-locals.result c.new-locals.ensures.items c.in_ok-base.ensures

pub loop-declarator-preserved : goal.loop-declarator-preserved
loop-declarator-preserved c =
    let items = c.as_slice-declarator-items.result.now in
    let index = c.loop-declarator.declarator-index in
    let one = c.declarator-item.result in
    let words = words_type (scope_of c.args.pass.now.checker) (words_tree c.args.declaration.now.simple) in
    let more : map init_declarator_tree (take (index + 1) items) ≡ map init_declarator_tree (take index items) ++ init_declarator_tree one ∷ [] =
    ap (map init_declarator_tree) (take_more items index one (omega arith) ∙ ap (λ (x : memory_init_declarator.InitDeclarator). take index items ++ x ∷ []) (sym c.declarator-item.is)) ∙ map-append init_declarator_tree (take index items) (one ∷ []) in
    subst (λ (ds : List InitDeclaratorTree). LocalsSoFar words.found c.args.declaration.now.simple.place words.known ds c.in_ok-base.base c.args.pass.now c.local.new.pass c.push.new.self) (sym more)
    (so_far-more c.args.declaration.now.simple.place (map init_declarator_tree (take index items)) (init_declarator_tree one) c.loop-declarator.locals c.push.new.self c.in_ok-local.field-0 c.in_ok-push.ensures.items c.loop-declarator.invariant c.in_ok-local.ensures)

pub returns : goal.returns
returns c =
    let items = c.as_slice-declarator-items.result.now in
    let words = words_type (scope_of c.args.pass.now.checker) (words_tree c.args.declaration.now.simple) in
    let all : map init_declarator_tree (take c.loop-declarator.declarator-index items) ≡ map init_declarator_tree c.args.declaration.now.declarators.items =
    ap (map init_declarator_tree) (take_all c.loop-declarator.declarator-index items (omega arith) ∙ c.as_slice-declarator-items.ensures.value) in
    (subst (λ (ds : List InitDeclaratorTree). LocalsSoFar words.found c.args.declaration.now.simple.place words.known ds c.in_ok-base.base c.args.pass.now c.loop-declarator.pass c.loop-declarator.locals) all c.loop-declarator.invariant).makes
