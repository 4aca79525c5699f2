use Rattle.std.proofs.Common.{◌≡◌, ℕ, ◌+◌, ◌<◌, List, ◌++◌, map, length, get_or, take, drop, sym, ap, subst, ◌∙◌, arith}
use Rattle.std.specs.Prelude.{slice_set}
use Rattle.std.proofs.lemmas.List.{drop_more, get_or_at, get_or_default, length-map, length-take-le}
use Rattle.std.proofs.lemmas.List.Edits.{map_over_more}
use Rattle.std.proofs.lemmas.List.Elements.{All-from_recursion}
use Rattle.pool_isa.specs.declared.instr.Instr.{Instr}
use Rattle.pool_isa.specs.declared.instr.Instr.TheVariants.{Constant}
use Rattle.pool_linker.specs.Linking.{NamesBelow, linked_instr}
use Rattle.pool_linker.proofs.linking.link_code.Goals as goal

-- an instruction that is not yet linked is as it was
unlinked : (f : Instr → Instr) (old new : List Instr) (i : ℕ) (d : Instr) → i < length old → new ≡ map f (take i old) ++ drop i old → get_or new i d ≡ get_or old i d
unlinked f old new i d lt is =
    let front : length (map f (take i old)) ≡ i = length-map (take i old) f ∙ length-take-le i old (omega (arith, lt)) in
    ap (λ l. get_or l i d) (is ∙ ap (λ l. map f (take i old) ++ l) (drop_more old i d lt)) ∙ get_or_at (map f (take i old)) (get_or old i d) (drop (i + 1) old) d i front

-- one more instruction, linked
one_more : (f : Instr → Instr) (old new : List Instr) (i : ℕ) (d made : Instr) → i < length old → new ≡ map f (take i old) ++ drop i old → i < length new → made ≡ f (get_or new i d)
    → slice_set new i made ≡ map f (take (i + 1) old) ++ drop (i + 1) old
one_more f old new i d made lt is lt_new made_is =
    ap (slice_set new i) made_is ∙ map_over_more f old new i (get_or new i d) lt is (get_or_default new i d (get_or new i d) lt_new)

pub linked_instr-requires : goal.linked_instr-requires
linked_instr-requires c =
    let below = NamesBelow (length c.args.numbers.now) in
    let same = unlinked (linked_instr c.args.numbers.now) c.args.code.now c.loop-instr.code c.loop-instr.instr-index (Constant 0) c.loop-instr-test.true c.loop-instr.invariant in
    subst below (sym same) (All-from_recursion below c.args.code.now c.requires c.loop-instr.instr-index (Constant 0) c.loop-instr-test.true)

pub loop-instr-preserved : goal.loop-instr-preserved
loop-instr-preserved c =
    let lt : c.loop-instr.instr-index < length c.loop-instr.code = omega (arith, c.loop-instr-test.true, c.loop-instr.auto.code) in
    one_more (linked_instr c.args.numbers.now) c.args.code.now c.loop-instr.code c.loop-instr.instr-index (Constant 0) c.linked_instr.result c.loop-instr-test.true c.loop-instr.invariant lt c.linked_instr.ensures
