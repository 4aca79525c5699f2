-- Equal targets, and the names that two functions share.
use Rattle.std.proofs.Common.{◌≡◌, ℕ, ◌==◌, Bool, true, false, ◌&&◌, Option, Some, None, refl, sym, ap, ◌∙◌, true≢false, eqb-true, eq-eqb}
use Rattle.tac_ir.specs.declared.register.Local.TheVariants as L
use Rattle.tac_ir.specs.declared.register.Register.TheVariants as R
use Rattle.tac_ir.specs.States.{InFunction}
use Rattle.heap_graph.specs.Graphs.{Target, Graph, OfResult}
use Rattle.heap_graph.specs.Targets.{same_target}
use Rattle.heap_graph.specs.Closed.{Family, graph_of, formal}
use Rattle.heap_graph.specs.declared.frozen.FunctionNames.{FunctionNames}
use Rattle.heap_graph.specs.Frozen.{optional_target, register_target}
use Rattle.heap_graph.specs.Shows.{ShowsNames}

pub same_target_is : (a b : Option Target) → same_target a b ≡ true → a ≡ b
same_target_is None None same = refl
same_target_is None (Some b) same = absurd (true≢false (sym same))
same_target_is (Some a) None same = absurd (true≢false (sym same))
same_target_is (Some a) (Some b) same = by (a.node == b.node) refl (a.shift == b.shift) refl same
  where
    by : (node : Bool) → (a.node == b.node) ≡ node → (shift : Bool) → (a.shift == b.shift) ≡ shift → (node && shift) ≡ true → Some a ≡ Some b
    by true node true shift both = λ i. Some (record { node = eqb-true a.node b.node node i; shift = eqb-true a.shift b.shift shift i })
    by true node false shift both = absurd (true≢false (sym both))
    by false node test shift both = absurd (true≢false (sym both))

same_target_self : (a : Option Target) → same_target a a ≡ true
same_target_self None = refl
same_target_self (Some a) = λ i. eq-eqb a.node a.node refl i && eq-eqb a.shift a.shift refl i

pub is_same_target : (a b : Option Target) → a ≡ b → same_target a b ≡ true
is_same_target a b is = ap (same_target a) (sym is) ∙ same_target_self a

module _ (family : Family) (m n : ℕ) (a b : FunctionNames) (one : ShowsNames family (InFunction m) a) (other : ShowsNames family (InFunction n) b)
    (group : graph_of family (InFunction m) ≡ graph_of family (InFunction n)) where
  abbrev SharesFormals : Type 0
  SharesFormals = (number : ℕ) → register_target a (R.Local (L.Parameter number)) ≡ register_target b (R.Local (L.Parameter number))

  abbrev Shares : Type 0
  Shares =
      ((number : ℕ) → (graph_of family (InFunction m)).targets (formal m number) ≡ (graph_of family (InFunction m)).targets (formal n number))
      × ((graph_of family (InFunction m)).targets (OfResult (InFunction m)) ≡ (graph_of family (InFunction m)).targets (OfResult (InFunction n)))

  other_formal : (number : ℕ) → (graph_of family (InFunction m)).targets (formal n number) ≡ register_target b (R.Local (L.Parameter number))
  other_formal number = ap (λ (graph : Graph). graph.targets (formal n number)) group ∙ other.registers (R.Local (L.Parameter number))

  other_result : (graph_of family (InFunction m)).targets (OfResult (InFunction n)) ≡ optional_target b.returned
  other_result = ap (λ (graph : Graph). graph.targets (OfResult (InFunction n))) group ∙ other.returned

  pub shares : SharesFormals → optional_target a.returned ≡ optional_target b.returned → Shares
  shares formals result = (λ number. one.registers (R.Local (L.Parameter number)) ∙ (formals number ∙ sym (other_formal number)), one.returned ∙ (result ∙ sym other_result))

  pub shares_formals : Shares → SharesFormals
  shares_formals both number = sym (one.registers (R.Local (L.Parameter number))) ∙ (both.0 number ∙ other_formal number)

  pub shares_result : Shares → optional_target a.returned ≡ optional_target b.returned
  shares_result both = sym one.returned ∙ (both.1 ∙ other_result)
