use Rattle.std.proofs.Common.{◌∷◌, [], ◌++◌, ◌<◌, ◌≤◌, if◌then◌else◌, reverse, refl, sym, ap, subst, ◌∙◌}
use Rattle.std.proofs.lemmas.List.{reverse-append}
use Rattle.ref_semantics.specs.Meaning.{greatest_depth}
use Rattle.ref_meaning.specs.declared.control.Frame.{Frame}
use Rattle.ref_meaning.specs.declared.control.Node.TheVariants as N
use Rattle.ref_meaning.specs.declared.control.Stage.TheVariants as S
use Rattle.ref_meaning.proofs.Beginnings.{depth-is, too-deep, begins}
use Rattle.ref_meaning.proofs.run.RefRun.begin.Goals as goal

pub returns-then-self-ge-GREATEST_DEPTH-clause-moves : goal.returns-then-self-ge-GREATEST_DEPTH-clause-moves
returns-then-self-ge-GREATEST_DEPTH-clause-moves c = λ number state at.
    too-deep c.args.self.now c.args.is_used c.args.place number _ _ _ (subst (λ d. d ≤ c.args.self.now.depth) (sym depth-is) c.if-self-ge-GREATEST_DEPTH.true) state

pub returns-clause-moves : goal.returns-clause-moves
returns-clause-moves c = λ number state at.
    let old = c.args.self.now in
    let r = c.requires in
    let frame : Frame = record { node = N.Body c.args.function; stage = S.Call c.args.is_used c.args.place old.base } in
    let items = c.push.ensures.items ∙ ap (λ b. if b then old.frames.items ++ frame ∷ [] else old.frames.items) c.if-is_err.ensures.negation in
    let shallow : old.depth < greatest_depth = subst (λ d. old.depth < d) (sym depth-is) c.if-self-ge-GREATEST_DEPTH.false in
    begins old _ c.args.is_used c.args.place number c.args.function c.args.count r.holds r.unawaited r.function r.there r.operands shallow
    (record {
      kept = record { program = refl; functions = refl; main = refl; spent = refl };
      types = refl;
      given = refl;
      based = c.height-self.ensures;
      nested = refl;
      control = refl;
      stack = ap reverse items ∙ reverse-append old.frames.items (frame ∷ []);
    })
    refl state at
