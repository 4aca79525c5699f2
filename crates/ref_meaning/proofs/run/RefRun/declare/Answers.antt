use Rattle.std.proofs.Common.{reverse, refl, ap, subst, ◌∙◌, add-one}
use Rattle.c_typed.specs.StatementViews.{local_in, optional_value_in}
use Rattle.ref_meaning.specs.Trees.{OptionalFits}
use Rattle.c_typed.specs.Views.{value_in}
use Rattle.ref_meaning.specs.declared.control.Stage.TheVariants as S
use Rattle.ref_meaning.specs.Views.{around_run, table_of, part_in}
use Rattle.ref_meaning.proofs.Advancing.{out-moves, local-fails, local-alters, room-becomes, first-moves, bare-moves, numbered-stage, at-next}
use Rattle.ref_meaning.proofs.Moves.{becomes-then}
use Rattle.ref_meaning.proofs.run.RefRun.declare.Goals as goal

pub returns-in_err-place-clause-moves : goal.returns-in_err-place-clause-moves
returns-in_err-place-clause-moves c =
    let old = c.args.self.now in
    out-moves old (record old { store = c.new_local.new.self; frames = c.reserve.new.self }) _ c.from_residual-in_err-place.result c.from_residual-in_err-place.ensures.1
    (local-fails old c.new_local.new.self c.reserve.new.self c.requires.holds c.reserve.ensures.items c.new_local.ensures.types c.in_err-place.ensures.same c.in_err-place.ensures.err)

pub returns-in-Some-clause-moves : goal.returns-in-Some-clause-moves
returns-in-Some-clause-moves c =
    let old = c.args.self.now in
    let table = table_of old in
    let waits = c.requires.innermost in
    let mid = c.new_local.new.self in
    let becomes = c.begin_local.ensures.becomes (record { node = waits.node; stage = S.Item c.args.number }) waits.others (ap reverse c.reserve.ensures.items ∙ waits.stack) in
    first-moves old c.begin_local.new.self mid c.args.top (part_in table c.args.node) c.args.number waits c.args.node _ (local_in table c.args.local.now) (value_in table c.in-Some.value) c.in_ok-place.place c.begin_local.result
    c.begin_local.ensures.ok c.requires.holds c.requires.free c.requires.node c.requires.items (subst (OptionalFits table) c.in-Some.is c.requires.local.1) tt refl c.in_ok-place.ensures.stands
    (local-alters old c.begin_local.new.self mid old.store.next_local _ _ c.requires.holds c.new_local.ensures.types c.in_ok-place.ensures.locals
    (room-becomes old c.begin_local.new.self mid c.reserve.new.self _ _
    (at-next (record old { store = mid; frames = c.reserve.new.self }) c.begin_local.new.self _ _ c.args.node c.args.number _ waits.others (add-one c.args.number) becomes)))
    becomes.store (ap (optional_value_in table) c.in-Some.is) (λ state at. c.in_ok-place.ensures.made (around_run old) old.base state c.requires.holds.within at)

pub returns-in-None-clause-moves : goal.returns-in-None-clause-moves
returns-in-None-clause-moves c =
    let old = c.args.self.now in
    let table = table_of old in
    let waits = c.requires.innermost in
    let mid = c.new_local.new.self in
    let run = record old { store = mid; frames = c.reserve.new.self } in
    let first = numbered-stage run c.at_stage.new.self c.args.node c.args.number _ waits.others (add-one c.args.number) (c.at_stage.ensures (record { node = waits.node; stage = S.Item c.args.number }) waits.others (ap reverse c.reserve.ensures.items ∙ waits.stack)) in
    bare-moves old c.go.new.self mid c.args.top (part_in table c.args.node) c.args.number waits c.args.node (local_in table c.args.local.now) c.in_ok-place.place c.at_stage.new.self.control.node c.go.result
    c.go.ensures.ok c.requires.holds c.requires.free c.requires.node c.requires.items (ap (λ k. k.node) first.control)
    (local-alters old c.go.new.self mid old.store.next_local _ _ c.requires.holds c.new_local.ensures.types c.in_ok-place.ensures.locals
    (room-becomes old c.go.new.self mid c.reserve.new.self _ _ (becomes-then run c.at_stage.new.self c.go.new.self old.control _ _ first c.go.ensures.becomes)))
    (c.go.ensures.becomes.store ∙ first.store) (ap (optional_value_in table) c.in-None.is) (λ state at. c.in_ok-place.ensures.made (around_run old) old.base state c.requires.holds.within at)
