use Rattle.std.proofs.Common.{arith, refl, ap, sym, ◌∙◌, ◌∷◌}
use Rattle.std.proofs.lemmas.Result.{err_from_is_err_and}
use Rattle.c_grammar.specs.Forms as forms
use Rattle.c_reader.specs.Shapes as shapes
use Rattle.c_reader.proofs.Reaching as Rows
use Rattle.c_grammar.specs.Kinds as kinds
use Rattle.c_reader.proofs.SameItems as same
use Rattle.c_reader.proofs.item.read_member.Goals as goal

pub returns-in_err-first_kind-clause-gives : goal.returns-in_err-first_kind-clause-gives
returns-in_err-first_kind-clause-gives c =
    let p = err_from_is_err_and c.from_residual.result c.from_residual.ensures.1 in
    rw (p.1, p.2) (Rows.empty_fails _ _ _ _ c.in_err-first_kind.ensures.none c.in_err-first_kind.ensures.misfit)

pub returns-then-not-is_type_word-clause-gives : goal.returns-then-not-is_type_word-clause-gives
returns-then-not-is_type_word-clause-gives c =
    Rows.none_fails _ _ c.in_ok-first_kind.ensures.found (Rows.tells_none forms.MemberRow (kinds.is_type_word _) (sym c.is_type_word.ensures ∙ c.if-not-is_type_word.true) (λ next. refl)) c.first_place.ensures

pub returns-in_err-has_room-clause-gives : goal.returns-in_err-has_room-clause-gives
returns-in_err-has_room-clause-gives c =
    let p = err_from_is_err_and c.from_residual-in_err-has_room.result c.from_residual-in_err-has_room.ensures.1 in
    rw (p.1, p.2) (Rows.deep_fails _ c.in_ok-first_kind.ensures.found (Rows.tells_if forms.MemberRow _ (kinds.is_type_word _) (sym c.is_type_word.ensures ∙ c.if-not-is_type_word.false) (λ next. refl)) c.in_err-has_room.ensures.none c.in_err-has_room.ensures.deep)

pub returns-in_err-simple-clause-gives : goal.returns-in_err-simple-clause-gives
returns-in_err-simple-clause-gives c =
    let r0 = Rows.begin {below = c.args.room} record { kind = _; begins = c.in_ok-first_kind.ensures.found; tells = Rows.tells_if forms.MemberRow _ (kinds.is_type_word _) (sym c.is_type_word.ensures ∙ c.if-not-is_type_word.false) (λ next. refl); fits = c.in_ok-has_room.ensures.fits; down = omega arith; ends = record { ends = λ own kind. refl } } in
    let p = err_from_is_err_and c.from_residual-in_err-simple.result c.from_residual-in_err-simple.ensures.1 in
    rw (p.1, p.2) (Rows.part_at _ r0 c.in_err-simple.ensures.gives)

pub returns-in_err-first-clause-gives : goal.returns-in_err-first-clause-gives
returns-in_err-first-clause-gives c =
    let r0 = Rows.begin {below = c.args.room} record { kind = _; begins = c.in_ok-first_kind.ensures.found; tells = Rows.tells_if forms.MemberRow _ (kinds.is_type_word _) (sym c.is_type_word.ensures ∙ c.if-not-is_type_word.false) (λ next. refl); fits = c.in_ok-has_room.ensures.fits; down = omega arith; ends = record { ends = λ own kind. refl } } in
    let r1 = Rows.read r0 c.in_ok-simple.ensures.gives in
    let p = err_from_is_err_and c.from_residual-in_err-first.result c.from_residual-in_err-first.ensures.1 in
    rw (p.1, p.2) (Rows.part_at _ r1 c.in_err-first.ensures.gives)

pub returns-in_err-declarators-clause-gives : goal.returns-in_err-declarators-clause-gives
returns-in_err-declarators-clause-gives c =
    let r0 = Rows.begin {below = c.args.room} record { kind = _; begins = c.in_ok-first_kind.ensures.found; tells = Rows.tells_if forms.MemberRow _ (kinds.is_type_word _) (sym c.is_type_word.ensures ∙ c.if-not-is_type_word.false) (λ next. refl); fits = c.in_ok-has_room.ensures.fits; down = omega arith; ends = record { ends = λ own kind. refl } } in
    let r1 = Rows.read r0 c.in_ok-simple.ensures.gives in
    let r2 = Rows.read r1 c.in_ok-first.ensures.gives in
    let p = err_from_is_err_and c.from_residual-in_err-declarators.result c.from_residual-in_err-declarators.ensures.1 in
    rw (p.1, p.2) (Rows.part_at _ r2 c.in_err-declarators.ensures.gives)

pub returns-clause-gives : goal.returns-clause-gives
returns-clause-gives c =
    let r0 = Rows.begin {below = c.args.room} record { kind = _; begins = c.in_ok-first_kind.ensures.found; tells = Rows.tells_if forms.MemberRow _ (kinds.is_type_word _) (sym c.is_type_word.ensures ∙ c.if-not-is_type_word.false) (λ next. refl); fits = c.in_ok-has_room.ensures.fits; down = omega arith; ends = record { ends = λ own kind. refl } } in
    let r1 = Rows.read r0 c.in_ok-simple.ensures.gives in
    let r2 = Rows.read r1 c.in_ok-first.ensures.gives in
    let r3 = Rows.found r2 c.in_ok-declarators.ensures.gives in
    let s0 = c.in_ok-simple.ensures.gives.shape in
    let s1 = c.in_ok-first.ensures.gives.shape in
    let s2 = c.in_ok-declarators.ensures.gives.shape in
    Rows.finish shapes.member_of _ r3 (same.same_member s0 (ap (λ d. d ∷ shapes.member_declarators_of c.in_ok-declarators.ensures.gives.parse) s1 ∙ s2))
