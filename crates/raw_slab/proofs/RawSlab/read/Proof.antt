-- `read` follows the pointer through the `&`, and hands what the slab shares to `read_word`.
use Rattle.std.proofs.Common.{◌≡◌, ℕ, ◌+◌, ◌^◌, ◌<◌, ◌≤◌, List, [], ◌∷◌, refl, ap, w64}
use Rattle.std.proofs.raw_atomic.Walks.{proved}
use base.Fml.{ftrue, fhide, flft}
use base.Logic.{SProp, ent, sep, emp, id⊢, via, comm∗, mono_l, emp∗, assoc∗}
use contract.Monad.{fact, fact_i}
use contract.Running.{tables}
use denote.Builtin.{usize, u64, RefOf}
use denote.Exit.{yes}
use denote.Memory.{hidden_shr}
use denote.Opens.{shr_dup, unhide, hide}
use denote.Plain.{uint_Makes, uint_vals, uint_Tells}
use denote.RattleType.{RattleType, RowLaws, owns}
use denote.RawPtr.{RawPtr, block_of, count_of, InBlock, ptr_row_laws}
use denote.Ref.{shr_vals, shr_Tells}
use denote.Signature.{Slot, plain, types_at}
use denote.Steps.{heard, nothing, owned, only}
use denote.Struct.Lending.{in_block_says, lent_out}
use denote.Struct.Owning.{shape, to}
use denote.Struct.Struct.{Struct, Struct-row_laws}
use denote.Triple.Call.{calls_at}
use denote.Triple.Clauses.{lasts}
use denote.Triple.Spec.{triple_of}
use denote.Triple.Table.{framed}
use denote.Triple.Walked.{Stays, stay_dropped, walk_of, ends_at, Goes-dropped}
use mir.Syntax.{named}
use mir.Val.{Val, vint, vptr}
use seplogic.Ra.Ura.{Ura}
use types.ByLocal.{alloc_all, pass_all, free_all, look_at, get, through, sets, sets_last, lands_as, env}
use types.Kit.{Item, Step, step, prop, at_ret, ‵, raw, ◌⊛◌, some, later, ◌$◌, ◌∵◌, !, qed, move, keep, drop, use0, use1, split, split3, join, pick, await, fsplit, fjoin, feq_i, feq_l, flt_l, suffices, frame, done}
use types.Logic.{Logic, sem}
use types.Run.{look, hop, fld, stop, addr, of_opd, first, blocks, exec, returns, enter, and_then, no_more}
use Rattle.std_alloc.proofs.Words.{pointer_in, pointer_out}
use Rattle.std.specs.contracts.alloc.Global as Heap
use Rattle.std.proofs.alloc.Global.TheLaws as heap
use Rattle.run_theory.specs.Words.{word_at}
use Rattle.raw_slab.specs.contracts.RawSlab as Slab
use Rattle.raw_slab.specs.contracts.RawSlab.read as f
use Rattle.raw_slab.specs.contracts.read_word as g
use Rattle.raw_slab.proofs.read_word.Met.{met}
use Rattle.raw_slab.proofs.RawSlab.read.Statement.{statement}
use Rattle.raw_slab.proofs.RawSlab.read.Code as code

-- two facts are said at once
with_fact : {M : Type 1} (𝓤 : Ura M) {φ : Type 0} (P : SProp 𝓤) → φ → ent 𝓤 P (sep 𝓤 P (fact 𝓤 φ))
with_fact 𝓤 {φ} P x = via 𝓤 (sep 𝓤 (emp 𝓤) P) (emp∗ 𝓤 P) (via 𝓤 (sep 𝓤 (fact 𝓤 φ) P) (mono_l 𝓤 P (fact_i 𝓤 φ (emp 𝓤) x)) (comm∗ 𝓤 (fact 𝓤 φ) P))

says_both : {M : Type 1} {𝓤 : Ura M} {𝓛 : Logic 𝓤} {K : Type 0} {Γ : List (Item 𝓤)} → K → {φ ψ : Type 0} {P : SProp 𝓤} → φ → ψ → Step K 𝓛 Γ (prop P) Γ (prop (sep 𝓤 P (sep 𝓤 (fact 𝓤 φ) (fact 𝓤 ψ))))
says_both {𝓤 = 𝓤} t {φ} {ψ} {P} x y = step (λ s. record { prf = via 𝓤 P s.prf (via 𝓤 (sep 𝓤 P (fact 𝓤 φ)) (with_fact 𝓤 P x) (via 𝓤 (sep 𝓤 (sep 𝓤 P (fact 𝓤 φ)) (fact 𝓤 ψ)) (with_fact 𝓤 (sep 𝓤 P (fact 𝓤 φ)) y) (assoc∗ 𝓤 P (fact 𝓤 φ) (fact 𝓤 ψ)))) })

abbrev Self : Slot 1
Self = RefOf (0 ∷ []) tt (plain (λ _. Slab.the_row)) (λ _. tt)

abbrev stayed : Stays f.ended.signature.params f.ended.kept
stayed = (stay_dropped Self yes, (stay_dropped (plain (λ _. usize)) yes, (stay_dropped (plain (λ _. usize)) yes, tt)))

abbrev Words : RattleType
Words = Struct (shape Slab.the_type)

words_laws : RowLaws Words
words_laws = Struct-row_laws (shape Slab.the_type) (ptr_row_laws, (heap.the_field_shared.shr_laws, tt))

-- a `&` to the slab shows the pointer
shows_ptr : {M : Type 1} {𝓤 : Ura M} (𝓛 : Logic 𝓤) (κ : List ℕ) (b o : ℕ) (d : Words.Denot)
    → ent 𝓤 (sem 𝓛 (hidden_shr Words κ d b o)) (sep 𝓤 (sem 𝓛 (hidden_shr RawPtr κ d.0 b (o + 0))) (sem 𝓛 (hidden_shr Words κ d b o)))
shows_ptr 𝓛 κ b o d = qed 𝓛 (‵ (hidden_shr Words κ d b o) ∷ []) ∵ shr_dup ! Words words_laws d b o κ $ unhide ! $ fsplit ! $ fsplit ! $ hide ! $ keep ! (0 ∷ 3 ∷ []) $ done !

pub read_spec : {M : Type 1} → statement M
read_spec 𝓤 𝓛 𝓜 𝓡 wired =
    let c = f.clauses 𝓛 𝓜.mem 𝓡.returns in let W = walk_of 𝓛 f.ended stayed c in let 𝓣 = tables 𝓤 𝓛.H 𝓜 𝓡 𝓡.env in
    let number = Goes-dropped 𝓛 1 (plain (λ _. usize)) yes (λ κs x w. refl) in
    proved 𝓛 f.ended stayed c 𝓜 𝓡 (Goes-dropped 𝓛 1 Self yes (λ κs x w. refl), (number, (number, tt)))
    f.Key.name code.function (code.unfolded 𝓤 𝓛.H 𝓜 𝓡 wired)
    (λ κs. (shr_vals, (uint_vals w64, (uint_vals w64, tt)))) (λ κs. (shr_Tells (named 0) κs.0 Slab.the_row, (uint_Tells w64, (uint_Tells w64, tt)))) (λ κs qs bounds a _ are.
    let κ = κs.0 in let q = qs.0 in let b = a.0.ref_ptr.0 in let o = a.0.ref_ptr.1 in let d = a.0.now in let off = a.1.0 in let width = a.1.1.0 in
    let vs : List Val × (List Val × (List Val × Unit {0})) = (shr_vals a.0, (uint_vals w64 off, (uint_vals w64 width, tt))) in
    let y : W.Ghost = ((κs, qs, bounds, a, vs), tt) in
    let Post : Val → SProp 𝓤 = W.post y in
    let Least : Type 0 = 1 ≤ width in let Most : Type 0 = width ≤ 8 in let Inside : Type 0 = off + width ≤ 4096 in
    let at : ℕ × ℕ = (block_of d.page, count_of d.page) in
    let ts : Item 𝓤 = ‵ (flft κ q) ⊛ ‵ ftrue in
    qed 𝓛 ((ts ⊛ ‵ (owns (types_at f.ended.signature.params κs) a vs)) ∷ (raw (fact 𝓤 Least) ⊛ raw (fact 𝓤 Most) ⊛ raw (fact 𝓤 Inside)) ∷ []) ∵
    move ! (1 ∷ []) $ split3 ! $ heard ! Least (λ least. heard ! Most (λ most. heard ! Inside (λ inside.
    split ! $ split ! $ move ! (2 ∷ []) $ fsplit ! $ fsplit ! $ drop ! $
    use1 𝓛 (‵ (hidden_shr Words κ (to Slab.the_type d) b o) ⊛ ‵ (fhide (Slab.the_lent d d.page κ))) (lent_out 𝓛 Slab.struct (Slab.the_codes Heap.the_row.coded) Slab.the_heap Slab.the_lent κ d b o) $ split ! $ move ! (1 ∷ []) $
    unhide ! $ fsplit ! $ use1 𝓛 (raw (fact 𝓤 (InBlock d.page))) (in_block_says 𝓛 d.page) $ heard ! (InBlock d.page) (λ inb. hide ! $
    -- [the bytes; the fields; the other parameters; the token; nothing]
    keep ! (1 ∷ 3 ∷ 0 ∷ []) $
    enter ! _ _ _ _ _ $ alloc_all ! (λ l. pass_all ! refl ((tt, tt), ((tt, record { fits = are.1.0.1 }), ((tt, record { fits = are.1.1.0.1 }), tt))) $
    first ! $ blocks ! $
    pointer_in ! tt d.page inb b (o + 0) (shows_ptr 𝓛 κ b o (to Slab.the_type d)) (λ q'.
    sets_last ! (addr ! (through ! refl (fld ! refl (hop ! (look ! 1 refl) (stop !))))) refl (tt, tt) $
    exec ! 𝓣.C 𝓣.Λ (env code.Mir.locals l) code.Mir.t-2 (at_ret _ Post) $
    pointer_out ! tt d.page inb b (o + 0) $
    sets ! (of_opd ! (get ! refl)) refl (tt, tt) $
    -- [the token; the fields; the bytes; the locals]
    let G = triple_of 𝓛 g.signature (g.spec 𝓛 𝓜.mem 𝓡.returns) in
    let z : G.Ghost = ((κs, qs, bounds, (record { ref_ptr = at; now = d.bytes }, (off, (width, tt))), (vptr at.0 at.1 ∷ [], (vint w64 off ∷ [], (vint w64 width ∷ [], tt)))), tt) in
    move ! (1 ∷ []) $ drop ! $ nothing ! $ move ! (1 ∷ 0 ∷ []) $ join ! $
    use0 𝓛 (raw (fact 𝓤 Inside)) (fact_i 𝓤 Inside (emp 𝓤) inside) $ use0 𝓛 (raw (fact 𝓤 Most)) (fact_i 𝓤 Most (emp 𝓤) most) $ join ! $ use0 𝓛 (raw (fact 𝓤 Least)) (fact_i 𝓤 Least (emp 𝓤) least) $ join ! $
    -- [what it requires; the tokens; the bytes; the locals]
    nothing ! $ owned ! usize _ (uint_Makes 𝓛 w64) width _ (refl, are.1.1.0.1) $ fjoin ! $ owned ! usize _ (uint_Makes 𝓛 w64) off _ (refl, are.1.0.1) $ fjoin ! $
    move ! (3 ∷ []) $ feq_i ! (List Val) (vptr at.0 at.1 ∷ []) (vptr at.0 at.1 ∷ []) refl $ fjoin ! $ fjoin ! $ move ! (2 ∷ 0 ∷ []) $ join ! $ join ! $
    use1 𝓛 (raw (G.pre z)) (id⊢ 𝓤 _) $
    calls_at ! (framed 𝓤 𝓛.H 𝓜 𝓣) G (met 𝓤 𝓛 𝓜 𝓡 (code.calls-raw_slab::read_word 𝓡.env wired)) z
    (and_then ! (get ! refl) (and_then ! (get ! refl) (and_then ! (get ! refl) (no_more !)))) (λ v.
    use1 𝓛 (later (some (λ (r : ℕ). (ts ⊛ ‵ (u64.own_val r (v ∷ []))) ⊛ some (λ (ws : Unit {0} × (Unit {0} × (Unit {0} × Unit {0}))). ‵ (lasts g.ended κs z.0.3 ws) ⊛ (raw (fact 𝓤 (r ≡ word_at d.bytes off width)) ⊛ raw (fact 𝓤 (r < 256 ^ width))))))) (id⊢ 𝓤 _) $
    await ! tt $ pick ! (λ r. split ! $ split ! $ move ! (2 ∷ []) $ pick ! (λ ws. split3 ! $ drop ! $ heard ! (r ≡ word_at d.bytes off width) (λ is. heard ! (r < 256 ^ width) (λ small.
    move ! (1 ∷ []) $ fsplit ! $ feq_l ! (λ e. flt_l ! (λ fits.
    lands_as ! (ap only e) refl (tt, record { fits = fits }) $ returns ! (look_at ! 0 refl) $ free_all ! refl $
    suffices ! _ (ends_at 𝓛 f.ended stayed c y (vint w64 r) r (tt, (tt, (tt, tt))) (tt, (tt, (tt, tt)))) $ says_both ! is small $
    frame ! $ owned ! u64 _ (uint_Makes 𝓛 w64) r _ (refl, fits) $ nothing ! $ nothing ! $ fjoin ! $ nothing ! $ fjoin ! $ nothing ! $ fjoin ! $ done !))))))))))))))
