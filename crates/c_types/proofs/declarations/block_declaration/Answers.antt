use Rattle.std.proofs.Common.{◌≡◌, List, [], ◌∷◌, ◌++◌, map, sym, ap, ◌∙◌}
use Rattle.std.proofs.Common.{append-nil, append_assoc, arith}
use Rattle.std.proofs.lemmas.List.{nil_from_length}
use Rattle.c_typed.specs.declared.statement.LocalDef as memory_local
use Rattle.c_typed.specs.declared.statement.BlockItem as memory_item
use Rattle.c_typed.specs.declared.statement.BlockItem.TheVariants as B
use Rattle.c_types.proofs.LocalsMade.{adds-locals}
use Rattle.c_types.proofs.declarations.block_declaration.Goals as goal

pub loop-local-preserved : goal.loop-local-preserved
loop-local-preserved c =
    let made = c.loop-local.made.items in
    let rest = c.next.new.self.rest.items in
    ap (λ (items : List memory_item.BlockItem). items ++ map B.Local rest) c.in_ok-push.ensures.items
    ∙ append_assoc made (B.Local c.in-Some.local ∷ []) (map B.Local rest)
    ∙ ap (λ (locals : List memory_local.LocalDef). made ++ map B.Local locals) (sym c.in-Some.ensures.steps.0)
    ∙ c.loop-local.invariant

pub returns : goal.returns
returns c =
    let made = c.loop-local.made.items in
    let rest = c.loop-local.local-iterator.rest in
    let locals = c.in_ok-local-items.local-items.items in
    let makes = c.in_ok-local-items.ensures in
    let all : made ≡ c.args.made.now.items ++ map B.Local locals =
    sym (append-nil made)
    ∙ ap (λ (ls : List memory_local.LocalDef). made ++ map B.Local ls) (sym (nil_from_length rest.items (omega (arith, rest.ok.0, c.in-None.ensures.steps.0))))
    ∙ c.loop-local.invariant
    ∙ ap (λ (ls : List memory_local.LocalDef). c.args.made.now.items ++ map B.Local ls) c.into_iter-local-iterator.ensures.into_iter_gives.0 in
    record { covers = makes.covers; made = adds-locals locals makes.made.0 makes.made.1 all }
