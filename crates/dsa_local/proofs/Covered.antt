-- Names that get nodes where they have none: nothing, one name, and one thing after another.
use Rattle.std.proofs.Common.{◌≡◌, ℕ, ◌+◌, ◌<◌, ◌≤◌, Bool, true, false, cond, eqb, List, [], ◌∷◌, length, drop, get_or, map, Option, Some, None, refl, sym, ap, subst, ◌∙◌}
use Rattle.std.specs.List.{AllByRecursion}
use Rattle.std.proofs.lemmas.Bool.{cond-true, eqb-true, eq-eqb}
use Rattle.std.proofs.lemmas.List.{at_drop_more, drop_all}
use Rattle.std.proofs.lemmas.Option.{none-some}
use Rattle.heap_graph.specs.Graphs.{Node, Name, OfRegister, OfResult, OfObject, OfGlobal, OfLiteral, OfCopy, Graph}
use Rattle.heap_graph.specs.Targets.{has_target}
use Rattle.graph_unification.specs.Adding.{AddsMissing, AddsSome, Same, More}
use Rattle.graph_unification.proofs.Missing.{joined, missing_some, missing_has, missing_stays}
use Rattle.graph_unification.proofs.WholeFunction.{cond_some}
use Rattle.dsa_local.specs.Beginning.{FirstNodes, Covers, HaveTargets, AddsCovered, if_global, if_literal, no_node}

-- ---- more first nodes

pub some_covered : (own first : FirstNodes) (old new : Graph) → Covers own first → AddsSome own old new → AddsSome first old new
some_covered own first old new covers Same = Same
some_covered own first old new covers (More middle _ name node more is adds) = More middle new name node (some_covered own first old middle covers more) (covers name node is) adds

pub have_stays : (own : FirstNodes) (old new : Graph) → ((name : Name) → has_target (old.targets name) ≡ true → has_target (new.targets name) ≡ true) → HaveTargets own old → HaveTargets own new
have_stays own old new stays had name node is = stays name (had name node is)

-- ---- nothing, and one after the other

pub nothing_added : (covered : FirstNodes → Type 0) (had : Graph → Type 0) (graph : Graph) → had graph → AddsCovered covered had graph graph
nothing_added covered had graph has = record { adds = λ first covers. Same; has = has; stays = λ name h. h }

pub then_added : (covered one two : FirstNodes → Type 0) (had before after : Graph → Type 0) (old middle new : Graph) → ((first : FirstNodes) → covered first → one first) → ((first : FirstNodes) → covered first → two first)
    → (((name : Name) → has_target (middle.targets name) ≡ true → has_target (new.targets name) ≡ true) → before middle → after new → had new)
    → AddsCovered one before old middle → AddsCovered two after middle new → AddsCovered covered had old new
then_added covered one two had before after old middle new to_one to_two to_had first then = record {
  adds = λ by covers. joined by old middle new (first.adds by (to_one by covers)) (then.adds by (to_two by covers));
  has = to_had then.stays first.has then.has;
  stays = λ name h. then.stays name (first.stays name h);
}

-- ---- one name

module _ (old new : Graph) (name : Name) (node : Node) (missing : AddsMissing old new name node) (own : FirstNodes) (is : own name ≡ Some node)
    (alone : (other : Name) (its : Node) → own other ≡ Some its → other ≡ name) where
  pub name_added : AddsCovered (Covers own) (HaveTargets own) old new
  name_added = record {
    adds = λ first covers. missing_some first old new name node missing (λ none. covers name node is);
    has = λ other its e. ap (λ n. has_target (new.targets n)) (alone other its e) ∙ missing_has old new name node missing;
    stays = λ other h. missing_stays old new name node other missing h;
  }

global_alone : (number : ℕ) (found : Option Node) (name : Name) (its : Node) → if_global number found name ≡ Some its → name ≡ OfGlobal number
global_alone number found (OfGlobal other) its e = ap OfGlobal (sym (eqb-true number other (cond_some (eqb number other) found its e).0))
global_alone number found (OfRegister owner register) its e = absurd (none-some its e)
global_alone number found (OfResult owner) its e = absurd (none-some its e)
global_alone number found (OfObject owner local) its e = absurd (none-some its e)
global_alone number found (OfLiteral other) its e = absurd (none-some its e)
global_alone number found (OfCopy other) its e = absurd (none-some its e)

literal_alone : (number : ℕ) (found : Option Node) (name : Name) (its : Node) → if_literal number found name ≡ Some its → name ≡ OfLiteral number
literal_alone number found (OfLiteral other) its e = ap OfLiteral (sym (eqb-true number other (cond_some (eqb number other) found its e).0))
literal_alone number found (OfRegister owner register) its e = absurd (none-some its e)
literal_alone number found (OfResult owner) its e = absurd (none-some its e)
literal_alone number found (OfObject owner local) its e = absurd (none-some its e)
literal_alone number found (OfGlobal other) its e = absurd (none-some its e)
literal_alone number found (OfCopy other) its e = absurd (none-some its e)

pub global_added : (old new : Graph) (number : ℕ) (found : Option Node) (node : Node) → found ≡ Some node → AddsMissing old new (OfGlobal number) node
    → AddsCovered (Covers (if_global number found)) (HaveTargets (if_global number found)) old new
global_added old new number found node is missing =
    name_added old new (OfGlobal number) node missing (if_global number found) (cond-true (eqb number number) found None (eq-eqb number number refl) ∙ is) (global_alone number found)

pub literal_added : (old new : Graph) (number : ℕ) (found : Option Node) (node : Node) → found ≡ Some node → AddsMissing old new (OfLiteral number) node
    → AddsCovered (Covers (if_literal number found)) (HaveTargets (if_literal number found)) old new
literal_added old new number found node is missing =
    name_added old new (OfLiteral number) node missing (if_literal number found) (cond-true (eqb number number) found None (eq-eqb number number refl) ∙ is) (literal_alone number found)

-- ---- lists

module _ {X : Type 0} (covers : X → FirstNodes → Type 0) (had : X → Graph → Type 0)
    (kept : (x : X) (old new : Graph) → ((name : Name) → has_target (old.targets name) ≡ true → has_target (new.targets name) ≡ true) → had x old → had x new) where
  abbrev CoversAll : List X → FirstNodes → Type 0
  CoversAll xs first = AllByRecursion (λ x. covers x first) xs

  abbrev AllHave : List X → Graph → Type 0
  AllHave xs graph = AllByRecursion (λ x. had x graph) xs

  abbrev Adds : List X → Graph → Graph → Type 0
  Adds xs old new = AddsCovered (CoversAll xs) (AllHave xs) old new

  abbrev GoOn : List X → Graph → List X → Graph → Type 0
  GoOn all start left graph = (new : Graph) → Adds left graph new → Adds all start new

  pub next_added : (x : X) (xs : List X) (old middle new : Graph) → AddsCovered (covers x) (had x) old middle → Adds xs middle new → Adds (x ∷ xs) old new
  next_added x xs old middle new first then =
      then_added (CoversAll (x ∷ xs)) (covers x) (CoversAll xs) (AllHave (x ∷ xs)) (had x) (AllHave xs) old middle new (λ by all. all.0) (λ by all. all.1)
      (λ stays before after. (kept x middle new stays before, after)) first then

  module _ {Y : Type 0} (f : Y → X) (ys : List Y) (start : Graph) where
    next : (i : ℕ) (y : Y) → y ≡ get_or ys i y → i < length ys → map f (drop i ys) ≡ f y ∷ map f (drop (i + 1) ys)
    next i y is within = at_drop_more (map f) ys i y within ∙ ap (λ z. f z ∷ map f (drop (i + 1) ys)) (sym is)

    pub goes_on : (i : ℕ) (y : Y) → y ≡ get_or ys i y → i < length ys → (graph after : Graph) → GoOn (map f ys) start (map f (drop i ys)) graph → AddsCovered (covers (f y)) (had (f y)) graph after
        → GoOn (map f ys) start (map f (drop (i + 1) ys)) after
    goes_on i y is within graph after goes its new rest =
        goes new (subst (λ l. Adds l graph new) (sym (next i y is within)) (next_added (f y) (map f (drop (i + 1) ys)) graph after new its rest))

    pub ends : (i : ℕ) → length ys ≤ i → (graph : Graph) → GoOn (map f ys) start (map f (drop i ys)) graph → Adds (map f ys) start graph
    ends i out graph goes = goes graph (subst (λ l. Adds (map f l) graph graph) (sym (drop_all i ys out)) (nothing_added (CoversAll []) (AllHave []) graph tt))

-- ---- what isn't there

pub none_added : (own : FirstNodes) (graph : Graph) → own ≡ no_node → AddsCovered (Covers own) (HaveTargets own) graph graph
none_added own graph e = nothing_added (Covers own) (HaveTargets own) graph (subst (λ (o : FirstNodes). HaveTargets o graph) (sym e) (λ name node is. absurd (none-some node is)))

both_none : (b : Bool) (found : Option Node) → found ≡ None → cond b found None ≡ None
both_none true found e = e
both_none false found e = refl

no_global : (number : ℕ) (name : Name) → if_global number None name ≡ None
no_global number (OfGlobal other) = both_none (eqb number other) None refl
no_global number (OfRegister owner register) = refl
no_global number (OfResult owner) = refl
no_global number (OfObject owner local) = refl
no_global number (OfLiteral other) = refl
no_global number (OfCopy other) = refl

no_literal : (number : ℕ) (name : Name) → if_literal number None name ≡ None
no_literal number (OfLiteral other) = both_none (eqb number other) None refl
no_literal number (OfRegister owner register) = refl
no_literal number (OfResult owner) = refl
no_literal number (OfObject owner local) = refl
no_literal number (OfGlobal other) = refl
no_literal number (OfCopy other) = refl

pub no_global_added : (graph : Graph) (number : ℕ) (found : Option Node) → found ≡ None → AddsCovered (Covers (if_global number found)) (HaveTargets (if_global number found)) graph graph
no_global_added graph number found e = none_added (if_global number found) graph (ap (if_global number) e ∙ λ i. λ name. no_global number name i)

pub no_literal_added : (graph : Graph) (number : ℕ) (found : Option Node) → found ≡ None → AddsCovered (Covers (if_literal number found)) (HaveTargets (if_literal number found)) graph graph
no_literal_added graph number found e = none_added (if_literal number found) graph (ap (if_literal number) e ∙ λ i. λ name. no_literal number name i)
