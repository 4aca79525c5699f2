-- The classes of functions, by their first functions.
use Rattle.std.proofs.Common.{◌≡◌, ℕ, ◌<◌, ◌≤◌, ◌⊎◌, List, [], ◌∷◌, ◌++◌, length, set, length-set, length-append, ◌+◌, true, Option, Some, None, inl, inr, sym, ap, subst, ◌∙◌, arith}
use Rattle.std.specs.Prelude.{slice_get}
use Rattle.std.proofs.lemmas.Bool.{cases_eq}
use Rattle.std.proofs.lemmas.Option.{none-some, same_Some}
use Rattle.tac_ir.specs.declared.program.Tac as memory_tac
use Rattle.tac_ir.specs.declared.register.Register.{Register}
use Rattle.tac_ir.specs.declared.register.Register.TheVariants as R
use Rattle.tac_ir.specs.Code.{Through}
use Rattle.tac_ir.specs.Views.{tac_of}
use Rattle.tac_ir.specs.Targets.{is_target}
use Rattle.call_graph.specs.declared.class_table.Classes.{Classes}
use Rattle.call_graph.specs.ClassLists.{AreClasses}
use Rattle.call_graph.specs.TargetLists.{IsFirstTarget}
use Rattle.call_graph.proofs.TargetFacts.{one_first_target, IsLink, link_from, link_to, one_type, target_inside}
use Rattle.call_graph.specs.RowLists.{Has}
use Rattle.call_graph.proofs.RowLists.{in_front, in_back, in_either}
use Rattle.call_graph.proofs.RowPlaces.{set_same, set_other, at_more}
use Rattle.dsa_inlining.specs.declared.live.LiveTargets.{LiveTargets}
use Rattle.dsa_inlining.specs.Live.{TellClasses, class_from, class_in, AreClassesOf}

-- ---- links, one after another

pub no_links : (classes : List (Option ℕ)) → classes ≡ [] → TellClasses 0 [] classes
no_links classes is = record {
  each = ap length is;
  from = λ first function at. absurd (none-some (Some first) (sym (ap (λ l. slice_get l function) is) ∙ at));
  to = λ first function has. absurd has;
}

pub one_blank : (count : ℕ) (old new : List (Option ℕ)) → TellClasses count [] old → new ≡ old ++ None ∷ [] → TellClasses (count + 1) [] new
one_blank count old new known is = record {
  each = ap length is ∙ (length-append old (None ∷ []) ∙ omega (arith, known.each));
  from = λ first function at. elim (at_more old None function (Some first) (sym (ap (λ l. slice_get l function) is) ∙ at)) [
    | inl there ↦ known.from first function there
    | inr last ↦ absurd (none-some first last.1)
  ];
  to = λ first function has. absurd has;
}

module _ (count : ℕ) (done : List (ℕ × ℕ)) (link : ℕ × ℕ) (more : List (ℕ × ℕ)) (old new : List (Option ℕ)) (known : TellClasses count done old) (is_more : more ≡ done ++ link ∷ []) where
  earlier : (other : ℕ × ℕ) → Has done other → Has more other
  earlier other has = subst (λ l. Has l other) (sym is_more) (in_front done (link ∷ []) other has)

  parts : (other : ℕ × ℕ) → Has more other → Has done other ⊎ (other ≡ link)
  parts other has = elim (in_either done (link ∷ []) other (subst (λ l. Has l other) is_more has)) [
    | inl front ↦ inl front
    | inr back ↦ (elim back [ inl same ↦ inr same | inr none ↦ absurd none ])
  ]

  pub link_set : link.1 < count → new ≡ set old link.1 (Some link.0) → TellClasses count more new
  link_set less is = record {
    each = ap length is ∙ (length-set old link.1 (Some link.0) ∙ known.each);
    from = λ first function at. by_from first function (sym (ap (λ l. slice_get l function) is) ∙ at) (cases_eq function link.1);
    to = λ first function has below. by_to first function below (parts (first, function) has) (cases_eq function link.1);
  }
    where
      here : slice_get new link.1 ≡ Some (Some link.0)
      here = ap (λ l. slice_get l link.1) is ∙ set_same old link.1 (Some link.0) (omega (arith, less, known.each))

      by_from : (first function : ℕ) → slice_get (set old link.1 (Some link.0)) function ≡ Some (Some first) → (function ≡ link.1) ⊎ (function ≡ link.1 → ⊥) → Has more (first, function)
      by_from first function at (inl same) =
          let own : link.0 ≡ first = same_Some link.0 first (same_Some (Some link.0) (Some first) (sym (set_same old link.1 (Some link.0) (omega (arith, less, known.each))) ∙ (ap (slice_get (set old link.1 (Some link.0))) (sym same) ∙ at))) in
          subst (λ l. Has l (first, function)) (sym is_more) (in_back done (link ∷ []) (first, function) (inl (λ i. (sym own i, same i))))
      by_from first function at (inr apart) = earlier (first, function) (known.from first function (sym (set_other old link.1 function (Some link.0) apart) ∙ at))

      by_to : (first function : ℕ) → function < count → Has done (first, function) ⊎ ((first, function) ≡ link) → (function ≡ link.1) ⊎ (function ≡ link.1 → ⊥) → (other : ℕ) × (slice_get new function ≡ Some (Some other))
      by_to first function below has (inl same) = (link.0, ap (slice_get new) same ∙ here)
      by_to first function below (inl has) (inr apart) =
          let was = known.to first function has below in (was.0, ap (λ l. slice_get l function) is ∙ (set_other old link.1 function (Some link.0) apart ∙ was.1))
      by_to first function below (inr last) (inr apart) = absurd (apart (ap (λ (l : ℕ × ℕ). l.1) last))

  pub link_past : count ≤ link.1 → new ≡ old → TellClasses count more new
  link_past past is = record {
    each = ap length is ∙ known.each;
    from = λ first function at. earlier (first, function) (known.from first function (sym (ap (λ l. slice_get l function) is) ∙ at));
    to = λ first function has below. by first function below (parts (first, function) has);
  }
    where
      by : (first function : ℕ) → function < count → Has done (first, function) ⊎ ((first, function) ≡ link) → (other : ℕ) × (slice_get new function ≡ Some (Some other))
      by first function below (inl has) = let was = known.to first function has below in (was.0, ap (λ l. slice_get l function) is ∙ was.1)
      by first function below (inr last) = absurd (let same : function ≡ link.1 = ap (λ (l : ℕ × ℕ). l.1) last in omega (arith, below, past, same))

-- ---- classes

class_at : (found : Option (Option ℕ)) (first : ℕ) → class_from found ≡ Some first → found ≡ Some (Some first)
class_at None first is = absurd (none-some first is)
class_at (Some class) first is = ap Some is

module _ (tac : memory_tac.Tac) (classes : Classes) (known : AreClasses tac classes) (live : LiveTargets) (told : TellClasses (length tac.functions.items) classes.links.items live.classes.items) where
  linked : (pointer : Register) (first called : ℕ) → class_in live called ≡ Some first → IsLink tac classes known pointer first called
  linked pointer first called is = link_from tac classes known pointer first called (told.from first called (class_at (slice_get live.classes.items called) first is))

  pub classes_of : AreClassesOf tac live
  classes_of = record {
    class = λ pointer c_type first called starts target.
        let own = told.to first called (link_to tac classes known pointer c_type first called starts target) (target_inside tac classes known pointer c_type called target) in
        let there : class_in live called ≡ Some own.0 = ap class_from own.1 in
        let link = linked pointer own.0 called there in
        let same : link.c_type ≡ c_type = one_type tac classes known pointer pointer link.c_type c_type called link.target target in
        there ∙ ap Some (one_first_target (tac_of tac) (Through pointer c_type) own.0 first (subst (λ t. IsFirstTarget (tac_of tac) (Through pointer t) (Some own.0)) same link.first') starts);
    target = λ pointer c_type first called starts is.
        let link = linked pointer first called is in
        let same : link.c_type ≡ c_type = one_type tac classes known pointer pointer link.c_type c_type first link.first'.0 starts.0 in
        subst (λ t. is_target (tac_of tac) (Through pointer t) called ≡ true) same link.target;
    within = λ first called is.
        let link = linked (R.Temporary 0) first called is in
        target_inside tac classes known (R.Temporary 0) link.c_type first link.first'.0;
  }

-- they are those of the classes alone
pub classes_same : (tac : memory_tac.Tac) (old new : LiveTargets) → new.classes ≡ old.classes → AreClassesOf tac old → AreClassesOf tac new
classes_same tac old new same are = record {
  class = λ pointer c_type first called starts target. moved called ∙ are.class pointer c_type first called starts target;
  target = λ pointer c_type first called starts is. are.target pointer c_type first called starts (sym (moved called) ∙ is);
  within = λ first called is. are.within first called (sym (moved called) ∙ is);
}
  where
    moved : (called : ℕ) → class_in new called ≡ class_in old called
    moved called = ap (λ v. class_from (slice_get v.items called)) same
