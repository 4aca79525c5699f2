-- `write` follows the pointer through the `&mut`, lends the bytes to `write_word`, and takes them back.
use Rattle.std.proofs.Common.{◌≡◌, ℕ, ◌+◌, ◌≤◌, List, [], ◌∷◌, refl, sym, ap, subst, ◌∙◌, w64, MutBor}
use Rattle.std.proofs.raw_atomic.Walks.{proved}
use Rattle.std.specs.Box.Ownership.{box_owns}
use base.Fml.{Fml, GName, ftrue, flft, fres, flent}
use base.Fraction.{full_share}
use base.Logic.{SProp, never, emp, id⊢, fst∗}
use contract.Monad.{fact, fact_i}
use contract.Running.{tables}
use denote.Builtin.{usize, u64, unit}
use denote.Exit.{yes}
use denote.Laws.{shows}
use denote.Lend.{lends_ref, ref_back}
use denote.Memory.{cell_at, mem, lone}
use denote.Plain.{uint_Makes, uint_vals, uint_Tells}
use denote.RattleType.{owns}
use denote.RawPtr.{Ptr, null_ptr, in_a_block}
use denote.Ref.{MutRef, mut_vals, mut_Tells}
use denote.Signature.{plain, types_at}
use denote.Steps.{heard, nothing, owned, only, opens, closes, peeks}
use denote.Triple.Call.{calls_at}
use denote.Triple.Clauses.{lasts}
use denote.Triple.Spec.{triple_of}
use denote.Triple.Table.{framed}
use denote.Triple.Walked.{says, Stays, stay_ref, stay_dropped, walk_of, ends_at, Goes-ref, Goes-dropped}
use mir.Raw.{raw as bare}
use mir.Syntax.{named}
use mir.Val.{Val, vptr, vunit}
use types.ByLocal.{alloc_all, pass_all, free_all, look_at, get, through, sets, sets_last, lands_as, env}
use types.Kit.{at_ret, ‵, raw, ◌⊛◌, some, later, ◌$◌, ◌∵◌, !, qed, move, keep, drop, use0, use1, use3, split, join, pick, await, fsplit, fsplit3, fjoin, feq_i, feq_l, rewrite, suffices, frame, group, done}
use types.Logic.{sem}
use types.Part.{whole, sub, look_in}
use types.Run.{hop, fld, stop, addr, of_opd, unit_lit, first, blocks, exec, returns, enter, and_then, no_more}
use types.SemTy.{Body as Borrowed}
use types.Tokens.{lft_new, lft_end}
use Rattle.std.specs.contracts.impls.GlobalAllocator.TheImpl.{ghosts}
use Rattle.run_theory.specs.Words.{with_word}
use Rattle.raw_slab.specs.contracts.RawSlab.{the_row as R}
use Rattle.raw_slab.specs.contracts.RawSlab.write as f
use Rattle.raw_slab.specs.contracts.write_word as g
use Rattle.raw_slab.proofs.PageAsBox.{Page}
use Rattle.raw_slab.proofs.WordsWritten.{length-with_word}
use Rattle.raw_slab.proofs.write_word.Met.{met}
use Rattle.raw_slab.proofs.RawSlab.TheLaws.{lowers}
use Rattle.raw_slab.proofs.RawSlab.write.Statement.{statement}
use Rattle.raw_slab.proofs.RawSlab.write.Code as code

abbrev stayed : Stays f.ended.signature.params f.ended.kept
stayed = (stay_ref (0 ∷ []) tt (plain (λ _. R)), (stay_dropped (plain (λ _. usize)) yes, (stay_dropped (plain (λ _. usize)) yes, (stay_dropped (plain (λ _. u64)) yes, tt))))

pub write_spec : {M : Type 1} → statement M
write_spec 𝓤 𝓛 𝓜 𝓡 wired =
    let c = f.clauses 𝓛 𝓜.mem 𝓡.returns in let W = walk_of 𝓛 f.ended stayed c in let 𝓣 = tables 𝓤 𝓛.H 𝓜 𝓡 𝓡.env in
    let number = Goes-dropped 𝓛 1 (plain (λ _. usize)) yes (λ κs x w. refl) in
    proved 𝓛 f.ended stayed c 𝓜 𝓡 (Goes-ref 𝓛 1 0 tt (plain (λ _. R)), (number, (number, (Goes-dropped 𝓛 1 (plain (λ _. u64)) yes (λ κs x w. refl), tt))))
    f.Key.name code.function (code.unfolded 𝓤 𝓛.H 𝓜 𝓡 wired)
    (λ κs. (mut_vals, (uint_vals w64, (uint_vals w64, (uint_vals w64, tt))))) (λ κs. (mut_Tells (named 0) κs.0 R, (uint_Tells w64, (uint_Tells w64, (uint_Tells w64, tt))))) (λ κs qs bounds a _ are.
    let κ = κs.0 in let q = qs.0 in let b = a.0.ref_ptr.0 in let o = a.0.ref_ptr.1 in let h = a.0.now in let off = a.1.0 in let width = a.1.1.0 in let word = a.1.1.1.0 in
    let vs : List Val × (List Val × (List Val × (List Val × Unit {0}))) = (mut_vals a.0, (uint_vals w64 off, (uint_vals w64 width, (uint_vals w64 word, tt)))) in
    let y : W.Ghost = ((κs, qs, bounds, a, vs), tt) in
    let Post : Val → SProp 𝓤 = W.post y in
    let Most : Type 0 = width ≤ 8 in let Inside : Type 0 = off + width ≤ 4096 in
    let Token : Ptr → Fml = ghosts.dealloc_token h.alloc (bare (lone Page.mir)) in
    qed 𝓛 (((‵ (flft κ q) ⊛ ‵ ftrue) ⊛ ‵ (owns (types_at f.ended.signature.params κs) a vs)) ∷ (raw (fact 𝓤 Most) ⊛ raw (fact 𝓤 Inside)) ∷ []) ∵
    move ! (1 ∷ []) $ split ! $ heard ! Most (λ most. heard ! Inside (λ inside.
    split ! $ split ! $ move ! (2 ∷ []) $ fsplit ! $ keep ! (0 ∷ 2 ∷ []) $
    enter ! _ _ _ _ _ $ alloc_all ! (λ l. pass_all ! refl ((tt, tt), ((tt, record { fits = are.1.0.1 }), ((tt, record { fits = are.1.1.0.1 }), ((tt, record { fits = are.1.1.1.0.1 }), tt)))) $
    fsplit3 ! $ move ! (1 ∷ 2 ∷ 3 ∷ []) $ opens ! tt R b o (λ us.
    move ! (1 ∷ []) $ peeks ! R _ (shows 𝓛 R) h us (λ is. fsplit ! $ move ! (1 ∷ []) $
    in_a_block ! h.page (λ p. box_owns (ghosts.dealloc_token h.alloc) Page p h.bytes) (fst∗ 𝓤 (never 𝓤) (sem 𝓛 (Token null_ptr))) (λ b' o' e. fsplit ! $
    let words = lowers.val_is h us is ∙ ap (λ (p : Ptr). lowers.lowered (record h { page = p }) ∷ []) e in
    let Cell = λ (ws : List Val). ‵ (cell_at full_share R.mir ws b o) in
    rewrite ! 3 Cell words refl $
    -- [the bytes; the right to free them; what the fields own; the struct's cell; the open borrow, in three entries]
    first ! $ blocks ! $
    sets_last ! (addr ! (through ! refl (fld ! refl (hop ! (look_in ! 3 (sub ! 0 refl (whole !))) (stop !))))) refl (tt, tt) $
    exec ! 𝓣.C 𝓣.Λ (env code.Mir.locals l) code.Mir.t-2 (at_ret _ Post) $
    sets ! (of_opd ! (get ! refl)) refl (tt, tt) $
    sets ! (addr ! (through ! refl (stop !))) refl (tt, tt) $
    lft_new ! tt (λ α. move ! (1 ∷ []) $
    use1 𝓛 (later (some (λ (γ : GName). ‵ ((MutRef (named 0) (α ∷ []) Page).own_val (record { ref_ptr = (b', o'); ghost_name = γ; now = h.bytes }) (vptr b' o' ∷ [])) ⊛ ‵ (flent (α ∷ []) (Borrowed (mem Page) b' o' γ)))))
    (lends_ref 𝓛 Page (named 0) (α ∷ []) h.bytes b' o') $ await ! tt $ pick ! (λ γ. split ! $
    -- [the loan; what the lender keeps; the token of α; the right to free the bytes; ..]
    let G = triple_of 𝓛 g.signature (g.spec 𝓛 𝓜.mem 𝓡.returns) in
    let loan : MutBor (List ℕ) = record { ref_ptr = (b', o'); ghost_name = γ; now = h.bytes } in
    let z : G.Ghost = (((α ∷ [], tt), (full_share, tt), tt, (loan, (off, (width, (word, tt)))), (mut_vals loan, (uint_vals w64 off, (uint_vals w64 width, (uint_vals w64 word, tt))))), tt) in
    nothing ! $ move ! (3 ∷ 0 ∷ []) $ join ! $
    use0 𝓛 (raw (fact 𝓤 Inside)) (fact_i 𝓤 Inside (emp 𝓤) inside) $ use0 𝓛 (raw (fact 𝓤 Most)) (fact_i 𝓤 Most (emp 𝓤) most) $ join ! $
    -- [what it requires; the tokens; the loan; what the lender keeps; ..]
    nothing ! $ owned ! u64 _ (uint_Makes 𝓛 w64) word _ (refl, are.1.1.1.0.1) $ fjoin ! $ owned ! usize _ (uint_Makes 𝓛 w64) width _ (refl, are.1.1.0.1) $ fjoin ! $ owned ! usize _ (uint_Makes 𝓛 w64) off _ (refl, are.1.0.1) $ fjoin ! $
    move ! (3 ∷ []) $ fjoin ! $ move ! (2 ∷ 0 ∷ []) $ join ! $ join ! $ use1 𝓛 (raw (G.pre z)) (id⊢ 𝓤 _) $
    calls_at ! (framed 𝓤 𝓛.H 𝓜 𝓣) G (met 𝓤 𝓛 𝓜 𝓡 (code.calls-raw_slab::write_word 𝓡.env wired)) z
    (and_then ! (get ! refl) (and_then ! (get ! refl) (and_then ! (get ! refl) (and_then ! (get ! refl) (no_more !))))) (λ v.
    let new : List ℕ = with_word h.bytes off width word in
    use1 𝓛 (later (some (λ (u : Unit {0}). ((‵ (flft (α ∷ []) full_share) ⊛ ‵ ftrue) ⊛ ‵ (unit.own_val u (v ∷ []))) ⊛
    some (λ (ws : List ℕ × (Unit {0} × (Unit {0} × (Unit {0} × Unit {0})))). ‵ (lasts g.ended z.0.0 z.0.3 ws) ⊛ raw (fact 𝓤 (ws.0 ≡ new)))))) (id⊢ 𝓤 _) $
    await ! tt $ pick ! (λ u. split ! $ split ! $ split ! $ lft_end ! tt $ move ! (2 ∷ []) $ feq_l ! (λ is_unit. lands_as ! (ap only is_unit) refl (tt, tt) $
    move ! (2 ∷ []) $ pick ! (λ ws. split ! $ move ! (1 ∷ []) $ heard ! (ws.0 ≡ new) (λ is_new. fsplit ! $ fsplit ! $
    rewrite ! 0 (λ (bs : List ℕ). ‵ (fres γ (Page.coded.code bs))) is_new refl $
    -- [the loan's last value; its borrow; the other parameters; α is over; nothing; what the lender keeps; ..]
    move ! (3 ∷ 5 ∷ 0 ∷ []) $ use3 𝓛 (later (‵ ((mem Page).own_at new b' o'))) (ref_back 𝓛 Page (α ∷ []) γ new b' o') $ await ! tt $
    move ! (1 ∷ 2 ∷ 3 ∷ []) $ drop ! $ drop ! $ drop ! $
    sets ! (of_opd ! (unit_lit !)) refl (tt, tt) $
    let after : R.Denot = record h { bytes = new; whole = length-with_word h.bytes off width word (subst (λ n. off + width ≤ n) (sym h.whole) inside) ∙ h.whole } in
    fjoin ! $ rewrite ! 0 (λ (p : Ptr). ‵ (box_owns (ghosts.dealloc_token h.alloc) Page p new)) (sym e) refl $ rewrite ! 2 Cell (sym words) refl $
    move ! (1 ∷ []) $ fjoin ! $ move ! (1 ∷ []) $ closes ! tt R after us b o $
    -- [two parts of self; the token; self's first part]
    returns ! (look_at ! 0 refl) $ free_all ! refl $ move ! (3 ∷ []) $
    suffices ! _ (ends_at 𝓛 f.ended stayed c y vunit tt (after, (tt, (tt, (tt, tt)))) (tt, (tt, (tt, (tt, tt))))) $ says ! refl $
    group ! 3 $ nothing ! $ nothing ! $ join ! $ nothing ! $ join ! $ nothing ! $ join ! $ move ! (1 ∷ 0 ∷ []) $ join ! $ nothing ! $ move ! (2 ∷ 0 ∷ []) $ join ! $ frame ! $ frame ! $
    feq_i ! _ (vunit ∷ []) _ refl $ done !))))))))))))))
