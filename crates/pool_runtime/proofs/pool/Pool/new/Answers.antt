use Rattle.std.proofs.Common.{ℕ, List, [], ◌∷◌, take, refl, sym, subst, ◌∙◌}
use Rattle.std.proofs.lemmas.List.{take_more, take_all}
use Rattle.pool_runtime.proofs.Fresh.{AreFresh, fresh_none, fresh_more, new_homogeneous, new_mixed}
use Rattle.pool_runtime.proofs.pool.Pool.new.Goals as goal
use Rattle.pool_runtime.proofs.pool.Pool.new.Goals.{in-Homogeneous+in_ok-add_class-in-Homogeneous, in-Mixed+else-loop-size-test}

sizes : List ℕ
sizes = 16 ∷ 32 ∷ 64 ∷ 128 ∷ 256 ∷ 512 ∷ 1024 ∷ 2048 ∷ []

pub loop-size-init : goal.loop-size-init
loop-size-init c = fresh_none c.new-classes.result.items c.new-classes.ensures.items

pub loop-size-preserved : goal.loop-size-preserved
unfolding sizes
loop-size-preserved c =
    let i = c.loop-size.size-index in
    subst (λ (ns : List ℕ). AreFresh ns c.add_class-in-loop-size.new.classes.items) (sym (take_more sizes i 0 c.loop-size-test.true))
    (fresh_more (take i sizes) _ c.loop-size.classes.items c.add_class-in-loop-size.new.classes.items c.loop-size.invariant c.in_ok-add_class-in-Mixed.ensures)

pub returns : goal.returns
unfolding sizes
returns c = elim c.match-kind.branch [
  | in-Homogeneous+in_ok-add_class-in-Homogeneous w ↦ new_homogeneous c.args.kind w.in-Homogeneous.source w.in-Homogeneous.cell w.in-Homogeneous.indexed _ w.in-Homogeneous.is (w.kind-is ∙ sym w.in-Homogeneous.is) c.requires
      (rw w.classes-is (fresh_more [] w.in-Homogeneous.cell c.new-classes.result.items _ (fresh_none c.new-classes.result.items c.new-classes.ensures.items) w.in_ok-add_class-in-Homogeneous.ensures)) c.new.ensures.ordered c.new.ensures.empty refl refl refl
  | in-Mixed+else-loop-size-test w ↦ new_mixed c.args.kind _ w.in-Mixed.is w.kind-is
      (rw w.classes-is (subst (λ (ns : List ℕ). AreFresh ns w.loop-size.classes.items) (take_all w.loop-size.size-index sizes w.loop-size-test.false) w.loop-size.invariant)) c.new.ensures.ordered c.new.ensures.empty refl refl refl
]
