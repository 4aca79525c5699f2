-- The nodes from which callers of a function begin.
use Rattle.std.proofs.Common.{◌≡◌, ℕ, ◌⊎◌, inl, inr, true, Option, Some, None, refl, sym, ap, subst, ◌∙◌}
use Rattle.std.proofs.lemmas.Bool.{false≢true}
use Rattle.std.proofs.lemmas.Bool.Decides.{Decides-eqb}
use Rattle.tac_ir.specs.declared.register.Local.TheVariants as L
use Rattle.tac_ir.specs.declared.register.Register.TheVariants as R
use Rattle.tac_ir.specs.States.{Owner, InStart, InFunction}
use Rattle.heap_graph.specs.Graphs.{Target, Name, OfRegister, OfResult, OfObject, OfGlobal, OfLiteral, OfCopy, Graph}
use Rattle.heap_graph.specs.Escaping.{Reaches, is_outside, same_owner, Escapes}
use Rattle.heap_graph.specs.Frozen.{optional_target, target_in, static_in}
use Rattle.heap_graph.specs.declared.frozen.FunctionNames.{FunctionNames}
use Rattle.heap_graph.specs.declared.frozen.FrozenGraph.{FrozenGraph}
use Rattle.heap_graph.specs.Marks.{IsNodeOf, IsOutside, IsMentionedBy}

pub same_itself : (owner : Owner) → same_owner owner owner ≡ true
same_itself InStart = refl
same_itself (InFunction number) = (Decides-eqb number number).1 refl

pub same_owners : (a b : Owner) → same_owner a b ≡ true → a ≡ b
same_owners InStart InStart is = refl
same_owners InStart (InFunction b) is = absurd (false≢true is)
same_owners (InFunction a) InStart is = absurd (false≢true is)
same_owners (InFunction a) (InFunction b) is = ap InFunction ((Decides-eqb a b).0 is)

-- the node of a name that callers of the function see
pub record Begins (shown : Graph) (owner : Owner) (number : ℕ) : Type 0 where
  pub name : Name
  pub outside : is_outside owner name ≡ true
  pub target : Target
  pub is : shown.targets name ≡ Some target
  pub node : target.node ≡ number

pub begins_at : (shown : Graph) (owner : Owner) (number : ℕ) (name : Name) (target : Option Target) → is_outside owner name ≡ true → shown.targets name ≡ target → IsNodeOf target number
    → Begins shown owner number
begins_at shown owner number name None outside is node = absurd node
begins_at shown owner number name (Some target) outside is node = record { name = name; outside = outside; target = target; is = is; node = node }

pub escapes_from : (shown : Graph) (owner : Owner) (start number : ℕ) → Begins shown owner start → Reaches shown start number → Escapes shown owner number
escapes_from shown owner start number begins reaches =
    record { name = begins.name; outside = begins.outside; target = begins.target; is = begins.is; reaches = subst (λ n. Reaches shown n number) (sym begins.node) reaches }

module _ (shown : Graph) (owner : Owner) (names : FunctionNames) (graph : FrozenGraph)
    (formals : (number : ℕ) → shown.targets (OfRegister owner (R.Local (L.Parameter number))) ≡ target_in names.parameters.items number)
    (returned : shown.targets (OfResult owner) ≡ optional_target names.returned)
    (globals : (number : ℕ) → shown.targets (OfGlobal number) ≡ static_in graph.globals number)
    (literals : (number : ℕ) → shown.targets (OfLiteral number) ≡ static_in graph.literals number) where
  pub begins_outside : (number : ℕ) → IsOutside names number → Begins shown owner number
  begins_outside number (inl found) = begins_at shown owner number (OfRegister owner (R.Local (L.Parameter found.0))) _ (same_itself owner) (formals found.0) found.1
  begins_outside number (inr is) = begins_at shown owner number (OfResult owner) _ (same_itself owner) returned is

  pub begins_mentioned : (number : ℕ) → IsMentionedBy graph number → Begins shown owner number
  begins_mentioned number (inl found) = begins_at shown owner number (OfGlobal found.0) _ refl (globals found.0) found.1
  begins_mentioned number (inr found) = begins_at shown owner number (OfLiteral found.0) _ refl (literals found.0) found.1

  node_of : (name : Name) (target : Target) (found : Option Target) → shown.targets name ≡ Some target → shown.targets name ≡ found → IsNodeOf found target.node
  node_of name target found is same = subst (λ t. IsNodeOf t target.node) (sym is ∙ same) refl

  pub outside_or_mentioned : (name : Name) (target : Target) → is_outside owner name ≡ true → shown.targets name ≡ Some target → IsOutside names target.node ⊎ IsMentionedBy graph target.node
  outside_or_mentioned (OfRegister own (R.Local (L.Parameter number))) target outside is =
      inl (inl (
        number,
        node_of (OfRegister own (R.Local (L.Parameter number))) target (target_in names.parameters.items number) is
            (ap (λ o. shown.targets (OfRegister o (R.Local (L.Parameter number)))) (same_owners own owner outside) ∙ formals number),
      ))
  outside_or_mentioned (OfRegister own (R.Local (L.Variable number))) target outside is = absurd (false≢true outside)
  outside_or_mentioned (OfRegister own (R.Call number)) target outside is = absurd (false≢true outside)
  outside_or_mentioned (OfRegister own (R.Argument number)) target outside is = absurd (false≢true outside)
  outside_or_mentioned (OfRegister own (R.Expression number)) target outside is = absurd (false≢true outside)
  outside_or_mentioned (OfRegister own (R.Temporary number)) target outside is = absurd (false≢true outside)
  outside_or_mentioned (OfResult own) target outside is =
      inl (inr (node_of (OfResult own) target (optional_target names.returned) is (ap (λ o. shown.targets (OfResult o)) (same_owners own owner outside) ∙ returned)))
  outside_or_mentioned (OfObject own local) target outside is = absurd (false≢true outside)
  outside_or_mentioned (OfGlobal number) target outside is = inr (inl (number, node_of (OfGlobal number) target (static_in graph.globals number) is (globals number)))
  outside_or_mentioned (OfLiteral number) target outside is = inr (inr (number, node_of (OfLiteral number) target (static_in graph.literals number) is (literals number)))
  outside_or_mentioned (OfCopy number) target outside is = absurd (false≢true outside)
