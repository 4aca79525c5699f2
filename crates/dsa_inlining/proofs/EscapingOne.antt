-- What escapes one of a group's functions is marked.
use Rattle.std.proofs.Common.{◌≡◌, ◌⊎◌, inl, inr, ℕ, zero, suc, ◌<◌, Bool, true, false, cond, List, [], ◌∷◌, length, Option, Some, None, refl, sym, ap, subst, ◌∙◌, eqb-true}
use Rattle.std.specs.Prelude.{◌||◌, slice_get}
use Rattle.std.proofs.lemmas.Bool.{false≢true}
use Rattle.std.proofs.lemmas.Option.{none-some, same_Some}
use Rattle.c_typed.specs.Table.{Interned}
use Rattle.tac_ir.specs.declared.register.FunctionId.{FunctionId}
use Rattle.tac_ir.specs.declared.register.Local.TheVariants as L
use Rattle.tac_ir.specs.declared.register.Register.TheVariants as R
use Rattle.tac_ir.specs.declared.program.Function.{Function}
use Rattle.tac_ir.specs.declared.program.Tac.{Tac}
use Rattle.tac_ir.specs.States.{Owner, InFunction}
use Rattle.heap_graph.specs.Graphs.{Target, OfRegister, OfResult, OfGlobal, OfLiteral, Graph}
use Rattle.heap_graph.specs.Escaping.{same_owner, Escapes}
use Rattle.graph_unification.specs.Memory.{owner_of}
use Rattle.heap_graph.specs.declared.frozen.FunctionNames.{FunctionNames}
use Rattle.heap_graph.specs.declared.frozen.FrozenGraph.{FrozenGraph}
use Rattle.heap_graph.specs.Frozen.{optional_target, target_in, static_in, register_target, named, graph_with}
use Rattle.graph_unification.specs.Freezing.{certain_name, has_register, TellsNames}
use Rattle.heap_graph.specs.declared.marks.NodeMarks.{NodeMarks}
use Rattle.heap_graph.specs.Marks.{is_marked, IsOutside, IsMentionedBy}
use Rattle.heap_graph.specs.Edges.{EdgesAreFound}
use Rattle.heap_graph.proofs.Outside.{Begins, same_itself, begins_at, escapes_from, begins_outside, outside_or_mentioned}
use Rattle.heap_graph.proofs.Reaching.{reaches_from_comes, comes_from_reaches}
use Rattle.dsa_inlining.specs.Owners.{is_owner, names_in, TellsOwn, TellsAt, TellsEach}
use Rattle.dsa_inlining.specs.Complete.{IsSeen, AreEscaping}
use Rattle.dsa_inlining.proofs.NamesTold.{AreNames, names_told}

-- ---- owners at their places

owner_there : (owners : List (Option FunctionId)) (place : ℕ) (owner : Option FunctionId) → slice_get owners place ≡ Some owner → is_owner owners (owner_of owner) ≡ true
owner_there [] place owner is = absurd (none-some owner is)
owner_there (first ∷ owners) zero owner is =
    ap (λ o. same_owner (owner_of o) (owner_of owner) || is_owner owners (owner_of owner)) (same_Some first owner is) ∙ ap (λ b. b || is_owner owners (owner_of owner)) (same_itself (owner_of owner))
owner_there (first ∷ owners) (suc place) owner is = by (same_owner (owner_of first) (owner_of owner)) (owner_there owners place owner is)
  where
    by : (b : Bool) → is_owner owners (owner_of owner) ≡ true → (b || is_owner owners (owner_of owner)) ≡ true
    by true e = refl
    by false e = e

pub record IsAt (owners : List (Option FunctionId)) (function : ℕ) : Type 0 where
  pub place : ℕ
  pub own : FunctionId
  pub is : slice_get owners place ≡ Some (Some own)
  pub same : own.0 ≡ function

place_there : (owners : List (Option FunctionId)) (function : ℕ) → is_owner owners (InFunction function) ≡ true → IsAt owners function
place_there [] function is = absurd (false≢true is)
place_there (first ∷ owners) function is = by first (same_owner (owner_of first) (InFunction function)) refl is (place_there owners function)
  where
    at_first : (first : Option FunctionId) → same_owner (owner_of first) (InFunction function) ≡ true → IsAt (first ∷ owners) function
    at_first None e = absurd (false≢true e)
    at_first (Some own) e = record { place = 0; own = own; is = refl; same = eqb-true own.0 function e }

    by : (first : Option FunctionId) (b : Bool) → same_owner (owner_of first) (InFunction function) ≡ b → (b || is_owner owners (InFunction function)) ≡ true
        → (is_owner owners (InFunction function) ≡ true → IsAt owners function) → IsAt (first ∷ owners) function
    by first true e h later = at_first first e
    by first false e h later = let rest = later h in record { place = suc rest.place; own = rest.own; is = rest.is; same = rest.same }

-- ---- names of the same function are told alike

module _ (made : Graph) (tac : Tac) (owners : List (Option FunctionId)) (names : List FunctionNames) (tells : TellsEach made tac owners names) where
  own_at : (place : ℕ) (owner : Option FunctionId) (own : FunctionNames) → slice_get owners place ≡ Some owner → slice_get names place ≡ Some own → TellsOwn made tac (owner_of owner) own
  own_at place owner own is there = subst (TellsAt made tac (Some owner)) there (subst (λ o. TellsAt made tac o (slice_get names place)) is (tells place))

  pub names_at : (place : ℕ) (owner : Option FunctionId) → slice_get owners place ≡ Some owner → (own : FunctionNames) × (slice_get names place ≡ Some own)
  names_at place owner is = by (slice_get names place) refl (subst (λ o. TellsAt made tac o (slice_get names place)) is (tells place))
    where
      by : (o : Option FunctionNames) → slice_get names place ≡ o → TellsAt made tac (Some owner) o → (own : FunctionNames) × (slice_get names place ≡ Some own)
      by None e h = absurd h
      by (Some own) e h = (own, e)

  alike : (owner : Owner) (one other : FunctionNames) (tell : FunctionNames → Option Target) (told : Function → Option Target)
      → ((function : Function) (own : FunctionNames) → TellsNames made owner function own → tell own ≡ told function) → TellsOwn made tac owner one → TellsOwn made tac owner other → tell one ≡ tell other
  alike owner one other tell told all a b =
      all a.function one a.tells ∙ ap told (same_Some a.function b.function (sym a.is ∙ b.is)) ∙ sym (all b.function other b.tells)

  named_at : (owner : Owner) (own : FunctionNames) → is_owner owners owner ≡ true → TellsOwn made tac owner own → (tell : FunctionNames → Option Target) (told : Function → Option Target)
      → ((function : Function) (n : FunctionNames) → TellsNames made owner function n → tell n ≡ told function) → named tell (names_in owners names owner) ≡ tell own
  named_at owner own is told_own tell told all =
      by (names_in owners names owner) (subst (λ b. AreNames made tac owner b (names_in owners names owner)) is (names_told made tac owners names tells owner))
    where
      by : (o : Option FunctionNames) → AreNames made tac owner true o → named tell o ≡ tell own
      by None h = absurd h
      by (Some listed) h = alike owner listed own tell told all h told_own

-- ---- from memory to the graph

module _ (table : Interned) (made : Graph) (tac : Tac) (owners : List (Option FunctionId)) (frozen : FrozenGraph) (names : List FunctionNames) (tells : TellsEach made tac owners names) where
  abbrev shown : Graph
  shown = graph_with table frozen (names_in owners names)

  module _ (place : ℕ) (function : FunctionId) (own : FunctionNames) (is : slice_get owners place ≡ Some (Some function)) (there : slice_get names place ≡ Some own) where
    abbrev owner : Owner
    owner = InFunction function.0

    told_own : TellsOwn made tac owner own
    told_own = own_at made tac owners names tells place (Some function) own is there

    formals : (number : ℕ) → shown.targets (OfRegister owner (R.Local (L.Parameter number))) ≡ target_in own.parameters.items number
    formals number =
        named_at made tac owners names tells owner own (owner_there owners place (Some function) is) told_own (λ n. register_target n (R.Local (L.Parameter number)))
        (λ f. cond (has_register f.parameters f.counts (R.Local (L.Parameter number))) (certain_name made (OfRegister owner (R.Local (L.Parameter number)))) None)
        (λ f n h. h.of_registers (R.Local (L.Parameter number)))

    returned : shown.targets (OfResult owner) ≡ optional_target own.returned
    returned =
        named_at made tac owners names tells owner own (owner_there owners place (Some function) is) told_own (λ n. optional_target n.returned) (λ f. certain_name made (OfResult owner))
        (λ f n h. h.of_result)

    outside_begins : (number : ℕ) → IsOutside own number → Begins shown owner number
    outside_begins = begins_outside shown owner own frozen formals returned (λ number. refl) (λ number. refl)

    outside_from : (number : ℕ) (escapes : Escapes shown owner number) → IsOutside own escapes.target.node ⊎ IsMentionedBy frozen escapes.target.node
    outside_from number escapes = outside_or_mentioned shown owner own frozen formals returned (λ number. refl) (λ number. refl) escapes.name escapes.target escapes.outside escapes.is

  mentioned_begins : (owner : Owner) (number : ℕ) → IsMentionedBy frozen number → Begins shown owner number
  mentioned_begins owner number (inl found) = begins_at shown owner number (OfGlobal found.0) (static_in frozen.globals found.0) refl refl found.1
  mentioned_begins owner number (inr found) = begins_at shown owner number (OfLiteral found.0) (static_in frozen.literals found.0) refl refl found.1

  pub record EscapesOne (number : ℕ) : Type 0 where
    pub function : ℕ
    pub is : is_owner owners (InFunction function) ≡ true
    pub escapes : Escapes shown (InFunction function) number

  seen_begins : (number : ℕ) → IsSeen frozen owners names number → (function : ℕ) × (is_owner owners (InFunction function) ≡ true) × Begins shown (InFunction function) number
  seen_begins number (inl one) = (one.function.0, owner_there owners one.place (Some one.function) one.is, outside_begins one.place one.function one.own one.is one.there number one.outside)
  seen_begins number (inr mentioned) =
      let has = mentioned.0 in
      (has.1.0, owner_there owners has.0 (Some has.1) has.2, mentioned_begins (InFunction has.1.0) number mentioned.1)

  module _ (marks : NodeMarks) (escaping : AreEscaping frozen owners names marks) (edges : EdgesAreFound frozen) where
    pub escapes_one : (number : ℕ) → number < length frozen.nodes.items → is_marked marks number ≡ true → EscapesOne number
    escapes_one number within is =
        let come = (escaping.exactly number within).0 is in
        let begins = seen_begins come.0 come.1 in
        record {
          function = begins.0;
          is = begins.1;
          escapes = escapes_from shown (InFunction begins.0) come.0 number begins.2 (reaches_from_comes table frozen shown refl edges come.0 number come.2);
        }

    at_function : (number function : ℕ) → number < length frozen.nodes.items → (at : IsAt owners function) → Escapes shown (InFunction at.own.0) number → is_marked marks number ≡ true
    at_function number function within at escapes =
        let own = names_at made tac owners names tells at.place (Some at.own) at.is in
        (escaping.exactly number within).1 (
          escapes.target.node,
          by own.0 own.1 (outside_from at.place at.own own.0 at.is own.1 number escapes),
          comes_from_reaches table frozen shown refl escapes.target.node number escapes.reaches,
        )
      where
        by : (own : FunctionNames) → slice_get names at.place ≡ Some own → IsOutside own escapes.target.node ⊎ IsMentionedBy frozen escapes.target.node → IsSeen frozen owners names escapes.target.node
        by own there (inl outside) = inl (record { place = at.place; function = at.own; is = at.is; own = own; there = there; outside = outside })
        by own there (inr mentioned) = inr ((at.place, at.own, at.is), mentioned)

    pub one_escapes : (number function : ℕ) → number < length frozen.nodes.items → is_owner owners (InFunction function) ≡ true → Escapes shown (InFunction function) number → is_marked marks number ≡ true
    one_escapes number function within is escapes =
        let at = place_there owners function is in
        at_function number function within at (subst (λ f. Escapes shown (InFunction f) number) (sym at.same) escapes)
