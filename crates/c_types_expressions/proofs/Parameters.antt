-- The parameters of a function, one after the other.
use Rattle.std.proofs.Common.{◌≡◌, ℕ, ◌+◌, ◌<◌, ◌≤◌, length, drop, get_or, Bool, true, false, not, ◌||◌, if◌then◌else◌, List, [], ◌∷◌, ◌++◌, Option, Some, None, refl, sym, ap, subst, ◌∙◌, bytes_eq}
use Rattle.std.proofs.Common.{append-nil, append_assoc}
use Rattle.std.proofs.lemmas.List.{drop_more}
use Rattle.std.proofs.Math.ListN.{drop_of_length-le}
use Rattle.c_syntax.specs.declared.expr.Parameter as memory_parameter
use Rattle.c_syntax.specs.declared.expr.Parameter.{out-Parameter}
use Rattle.c_syntax.specs.Views.{words_tree, optional_of, parameters_of}
use Rattle.run_theory.specs.declared.place.Pos.{Pos}
use Rattle.c_syntax.specs.Trees
use Rattle.c_syntax.specs.Trees.{NameTree, WordsTree, OptionalTree, ParametersTree}
use Rattle.c_typed.specs.declared.c_type.CType as number
use Rattle.c_typed.specs.declared.c_type.Parameters as numbers
use Rattle.c_typed.specs.Types.{CType, CTypes, NoTypes, MoreTypes}
use Rattle.c_typed.specs.Table.{Interned, Grows, Stands, type_in}
use Rattle.c_typed.proofs.Grown.{grows_refl, grows_trans, stays}
use Rattle.c_rules.specs.declared.violation.Violation.{Violation}
use Rattle.c_rules.specs.declared.rule.TypeRule.TheVariants as T
use Rattle.c_rules.specs.Names.{Scope, is_library}
use Rattle.c_rules.specs.Known.{Checked, known_already, give, also, given, given_two, with_known, unless}
use Rattle.c_rules.specs.Expressions.{parameter_types, name_clash, with_name, is_void_alone, parameter_type, optional_type, optional_name, name_place, words_type, Adjusted}
use Rattle.c_types_state.specs.NameTables.{State, scope_of}
use Rattle.c_types_state.specs.Finding.{Finds, IsType, IsTypes, IsOption, each_in}
use Rattle.c_types_state.specs.Staying.{IsSame}
use Rattle.c_types_state.proofs.Findings.{Goes, goes-trans, finds-goes, finds-after, finds-give, finds-known, finds-then}
use Rattle.c_types_expressions.specs.declared.pass.Pass.{Pass}
use Rattle.c_rules.specs.Named.{named_at, named_in_optional, named_in_parameters}
use Rattle.c_types_expressions.specs.Passes.{Passes, Names, TypesStand, list_in, parameter_list}
use Rattle.c_types_expressions.specs.Derived.{SameNames}
use Rattle.c_types_expressions.specs.Suffixes.{parameter_rule, named_parameter, named_in_list_of}
use Rattle.c_types_expressions.proofs.Naming.{names-none, names-grow, names-then, passes-made, passes-plain}
use Rattle.c_types_expressions.proofs.Passing.{with_checker}
use Rattle.c_types_expressions.proofs.Suffixed.{optional_found, parameters_of-out}

-- ---- the same names

same_clash : (names others : List (List ℕ)) → SameNames names others → (name : Option NameTree) → name_clash names name ≡ name_clash others name
same_clash names others same None = refl
same_clash names others same (Some name) = ap (λ b. unless (not (b || is_library name.bytes)) T.T04 name.place) (same name.bytes)

same_more : (names others : List (List ℕ)) → SameNames names others → (name : Option NameTree) → SameNames (with_name name names) (with_name name others)
same_more names others same None = same
same_more names others same (Some name) = λ bytes. ap (λ b. bytes_eq name.bytes bytes || b) (same bytes)

pub same_parameters : (scope : Scope) (names others : List (List ℕ)) → SameNames names others → (tree : ParametersTree) → parameter_types scope names tree ≡ parameter_types scope others tree
same_parameters scope names others same Trees.NoParameters = refl
same_parameters scope names others same (Trees.Parameter words declarator rest) =
    λ i. given_two
    (also (same_clash names others same (optional_name declarator) i) (given (optional_type scope (name_place (optional_name declarator) words.place) Adjusted (words_type scope words) declarator) (parameter_type scope (name_place (optional_name declarator) words.place))))
    (same_parameters scope (with_name (optional_name declarator) names) (with_name (optional_name declarator) others) (same_more names others same (optional_name declarator)) rest i)
    (λ first types. give (MoreTypes first types))

-- ---- lists of types

abbrev pub IsList : Interned → List number.CType → CTypes → Type 0
IsList table types known = TypesStand table types × (list_in table types ≡ known)

-- what is known of types in front, and of those behind them
abbrev pub joined : {V : Type 0} → Option V → Option (List V) → Option (List V)
joined (Some v) (Some vs) = Some (v ∷ vs)
joined _ _ = None

abbrev pub with_others : {V : Type 0} → Bool → List V → Option (List V) → Option (List V)
with_others true vs (Some more) = Some (vs ++ more)
with_others _ _ _ = None

with_others-some : {V : Type 0} (b : Bool) (vs : List V) (v : V) (r : Option (List V)) → with_others b vs (joined (Some v) r) ≡ with_others b (vs ++ v ∷ []) r
with_others-some true vs v (Some more) = ap Some (sym (append_assoc vs (v ∷ []) more))
with_others-some true vs v None = refl
with_others-some false vs v r = refl

with_others-none : {V : Type 0} (b : Bool) (vs : List V) (r : Option (List V)) → with_others b vs (joined None r) ≡ with_others false vs r
with_others-none true vs r = refl
with_others-none false vs r = refl

with_others-start : {V : Type 0} (vs : List V) (r : Option (List V)) → vs ≡ [] → r ≡ with_others true vs r
with_others-start vs (Some more) e = ap (λ vs. Some (vs ++ more)) (sym e)
with_others-start vs None e = refl

-- ---- one parameter, and then the others

module _ (old new : Interned) (grows : Grows old new) where
  joined_known : (ka : Option CType) (kb : Option CTypes) (r : Option number.CType) (r' : Option (List number.CType)) → IsOption (IsType old) r ka → IsOption (IsList new) r' kb → IsOption (IsList new) (joined r r') (with_known ka (λ first. with_known kb (λ types. give (MoreTypes first types)))).known
  joined_known None kb (Some t) r' h h' = absurd h
  joined_known None kb None r' h h' = tt
  joined_known (Some first) kb None r' h h' = absurd h
  joined_known (Some first) None (Some t) None h h' = tt
  joined_known (Some first) None (Some t) (Some ts) h h' = absurd h'
  joined_known (Some first) (Some types) (Some t) None h h' = absurd h'
  joined_known (Some first) (Some types) (Some t) (Some ts) h h' =
      let kept = stays old new grows t h.0 in
      ((kept.0, h'.0), λ i. MoreTypes ((kept.1 ∙ h.1) i) (h'.1 i))

joined_found : (fs : List Violation) (ka : Option CType) (kb : Option CTypes) → fs ≡ fs ++ (with_known ka (λ first. with_known kb (λ types. give (MoreTypes first types)))).found
joined_found fs None kb = sym (append-nil fs)
joined_found fs (Some first) None = sym (append-nil fs)
joined_found fs (Some first) (Some types) = sym (append-nil fs)

pub both_found : {s t w : State} (one : Checked CType) (two : Checked CTypes) (r : Option number.CType) (r' : Option (List number.CType)) → Finds IsType one s t r → Finds IsList two t w r' → Finds IsList (given_two one two (λ first types. give (MoreTypes first types))) s w (joined r r')
both_found {s = s} {t = t} {w = w} one two r r' first second =
    let whole = subst (λ found. Goes found s w) (joined_found (one.found ++ two.found) one.known two.known) (goes-trans (finds-goes first) (finds-goes second)) in
    record {
      grows = whole.grows;
      scope = whole.scope;
      least = whole.least;
      known = joined_known t.table w.table second.grows one.known two.known r r' first.known second.known;
    }

-- ---- a loop over the parameters

-- what was passed of those that are left
abbrev pub Left : List (List ℕ) → ParametersTree → Scope → Pass → Pass → Option (List number.CType) → Type 0
Left names tree scope p q r = Passes IsList (parameter_types scope names tree) (named_in_parameters scope tree) p q r

pub left-more : {p q w : Pass} (scope : Scope) (names others : List (List ℕ)) (words : WordsTree) (declarator : OptionalTree) (rest tree : ParametersTree) (r : Option number.CType) (r' : Option (List number.CType)) → tree ≡ Trees.Parameter words declarator rest → scope_of p.checker ≡ scope → SameNames others (with_name (optional_name declarator) names)
    → Passes IsType (parameter_rule (scope_of p.checker) names words declarator) (named_parameter (scope_of p.checker) words declarator) p q r
    → Left others rest scope q w r' → Left names tree scope p w (joined r r')
left-more {p = p} {q = q} {w = w} scope names others words declarator rest tree r r' is_tree here same first second =
    let first' = subst (λ scope. Passes IsType (parameter_rule scope names words declarator) (named_parameter scope words declarator) p q r) here first in
    let second' = subst (λ (checked : Checked CTypes). Passes IsList checked (named_in_parameters scope rest) q w r') (same_parameters scope others (with_name (optional_name declarator) names) same rest) second in
    let whole : Left names (Trees.Parameter words declarator rest) scope p w (joined r r') = record {
      finds = both_found (parameter_rule scope names words declarator) (parameter_types scope (with_name (optional_name declarator) names) rest) r r' first'.finds second'.finds;
      names = names-then w.checker.table (names-grow q.checker.table w.checker.table second'.finds.grows first'.names) second'.names;
    } in
    subst (λ (tree : ParametersTree). Left names tree scope p w (joined r r')) (sym is_tree) whole

pub left-none : {p : Pass} (scope : Scope) (names : List (List ℕ)) (tree : ParametersTree) → tree ≡ Trees.NoParameters → Left names tree scope p p (Some [])
left-none {p = p} scope names tree is_tree =
    subst (λ (tree : ParametersTree). Left names tree scope p p (Some [])) (sym is_tree)
    (record { finds = finds-give (tt, refl); names = names-none p.checker.table p.named.items })

-- Whatever is passed of those that are left, behind the types so far, is passed of all.
abbrev pub NotedParameters : Pass → ParametersTree → Pass → List (List ℕ) → ParametersTree → Bool → List number.CType → Type 0
NotedParameters old all now names left are_known types =
    (t : Pass) (r : Option (List number.CType)) → Left names left (scope_of old.checker) now t r → Left [] all (scope_of old.checker) old t (with_others are_known types r)

pub leads-start : (old : Pass) (all : ParametersTree) (names : List (List ℕ)) (types : List number.CType) → names ≡ [] → types ≡ [] → NotedParameters old all old names all true types
leads-start old all names types no_names no_types t r found =
    subst (λ r. Left [] all (scope_of old.checker) old t r) (with_others-start types r no_types)
    (subst (λ (names : List (List ℕ)). Left names all (scope_of old.checker) old t r) no_names found)

module _ (old : Pass) (all : ParametersTree) (now : Pass) (names : List (List ℕ)) (left : ParametersTree) (are_known : Bool) (types : List number.CType) (leads : NotedParameters old all now names left are_known types)
    (next : Pass) (others : List (List ℕ)) (words : WordsTree) (declarator : OptionalTree) (rest : ParametersTree) (r : Option number.CType)
    (is_left : left ≡ Trees.Parameter words declarator rest) (here : scope_of now.checker ≡ scope_of old.checker) (same : SameNames others (with_name (optional_name declarator) names))
    (found : Passes IsType (parameter_rule (scope_of now.checker) names words declarator) (named_parameter (scope_of now.checker) words declarator) now next r) where
  pub leads-some : (x : number.CType) (types' : List number.CType) → r ≡ Some x → types' ≡ types ++ x ∷ [] → NotedParameters old all next others rest are_known types'
  leads-some x types' is_some is_more t r' behind =
      subst (λ (types : List number.CType). Left [] all (scope_of old.checker) old t (with_others are_known types r')) (sym is_more)
      (subst (λ r. Left [] all (scope_of old.checker) old t r) (with_others-some are_known types x r')
      (leads t (joined (Some x) r')
      (subst (λ (r : Option number.CType). Left names left (scope_of old.checker) now t (joined r r')) is_some
      (left-more (scope_of old.checker) names others words declarator rest left r r' is_left here same found behind))))

  pub leads-none : r ≡ None → NotedParameters old all next others rest false types
  leads-none is_none t r' behind =
      subst (λ r. Left [] all (scope_of old.checker) old t r) (with_others-none are_known types r')
      (leads t (joined None r')
      (subst (λ (r : Option number.CType). Left names left (scope_of old.checker) now t (joined r r')) is_none
      (left-more (scope_of old.checker) names others words declarator rest left r r' is_left here same found behind)))

-- ---- in the end

module _ (old : Pass) (all : ParametersTree) (now : Pass) (names : List (List ℕ)) (left : ParametersTree) (are_known : Bool) (types : List number.CType) (leads : NotedParameters old all now names left are_known types) (is_left : left ≡ Trees.NoParameters) where
  all_left : Left [] all (scope_of old.checker) old now (with_others are_known types (Some []))
  all_left = leads now (Some []) (left-none (scope_of old.checker) names left is_left)

  is_listed : is_void_alone all ≡ false → (parameter_types (scope_of old.checker) [] all ≡ parameter_list (scope_of old.checker) all) × (named_in_parameters (scope_of old.checker) all ≡ named_in_list_of (scope_of old.checker) all)
  is_listed e =
      let scope = scope_of old.checker in (
        ap (λ b. if b then give NoTypes else parameter_types scope [] all) (sym e),
        ap (λ b. if b then [] else named_in_parameters scope all) (sym e),
      )

  -- one of them isn't known
  pub listed-none : is_void_alone all ≡ false → are_known ≡ false → Passes IsTypes (parameter_list (scope_of old.checker) all) (named_in_list_of (scope_of old.checker) all) old now None
  listed-none e unknown =
      let scope = scope_of old.checker in
      let whole = subst (λ b. Left [] all scope old now (with_others b types (Some []))) unknown all_left in
      let listed = is_listed e in
      subst (λ (checked : Checked CTypes). Passes IsTypes checked (named_in_list_of scope all) old now None) listed.0
      (subst (λ named. Passes IsTypes (parameter_types scope [] all) named old now None) listed.1
      (passes-made whole (grows_refl now.checker.table) refl
      (record { grows = whole.finds.grows; scope = whole.finds.scope; least = whole.finds.least; known = by (parameter_types scope [] all).known whole.finds.known })))
    where
      by : (k : Option CTypes) → IsOption (IsList now.checker.table) None k → IsOption (IsTypes now.checker.table) None k
      by None h = tt
      by (Some types) h = absurd h

  all_known : are_known ≡ true → Left [] all (scope_of old.checker) old now (Some types)
  all_known known =
      subst (λ (types : List number.CType). Left [] all (scope_of old.checker) old now (Some types)) (append-nil types)
      (subst (λ b. Left [] all (scope_of old.checker) old now (with_others b types (Some []))) known all_left)

  -- all stand
  pub listed-stand : are_known ≡ true → TypesStand now.checker.table types
  listed-stand known = by (parameter_types (scope_of old.checker) [] all).known (all_known known).finds.known
    where
      by : (k : Option CTypes) → IsOption (IsList now.checker.table) (Some types) k → TypesStand now.checker.table types
      by None h = absurd h
      by (Some known_types) h = h.0

  pub listed-some : {u : State} (made : numbers.Parameters) → is_void_alone all ≡ false → are_known ≡ true → Finds IsTypes (give (list_in now.checker.table types)) now.checker u (Some made) → Passes IsTypes (parameter_list (scope_of old.checker) all) (named_in_list_of (scope_of old.checker) all) old (record now { checker = u }) (Some made)
  listed-some {u = u} made e known last =
      let scope = scope_of old.checker in
      let whole = all_known known in
      let listed = is_listed e in
      subst (λ (checked : Checked CTypes). Passes IsTypes checked (named_in_list_of scope all) old (record now { checker = u }) (Some made)) listed.0
      (subst (λ named. Passes IsTypes (parameter_types scope [] all) named old (record now { checker = u }) (Some made)) listed.1
      (passes-made whole last.grows refl
      (record {
        grows = grows_trans old.checker.table now.checker.table u.table whole.finds.grows last.grows;
        scope = last.scope ∙ whole.finds.scope;
        least = last.least ∙ whole.finds.least;
        known = by (parameter_types scope [] all).known whole.finds.known;
      })))
    where
      by : (k : Option CTypes) → IsOption (IsList now.checker.table) (Some types) k → IsOption (IsTypes u.table) (Some made) k
      by None h = absurd h
      by (Some known_types) h = (last.known.0, last.known.1 ∙ h.1)

-- `(void)`
pub listed-void : {s : Pass} {t : State} (all : ParametersTree) (made : numbers.Parameters) → is_void_alone all ≡ true → Finds IsTypes (give NoTypes) s.checker t (Some made) → Passes IsTypes (parameter_list (scope_of s.checker) all) (named_in_list_of (scope_of s.checker) all) s (record s { checker = t }) (Some made)
listed-void {s = s} {t = t} all made e found =
    let scope = scope_of s.checker in
    let plain : Passes IsTypes (give NoTypes) [] s (record s { checker = t }) (Some made) = passes-plain found refl in
    subst (λ b. Passes IsTypes (if b then give NoTypes else parameter_types scope [] all) (if b then [] else named_in_parameters scope all) s (record s { checker = t }) (Some made)) (sym e) plain

-- ---- one parameter

pub passes-parameter : {s p q : Pass} {t t' u : State} {r r' r'' : Option number.CType} (names : List (List ℕ)) (simple : WordsTree) (declarator : OptionalTree) (name : Option NameTree) (here : Pos) → name ≡ optional_name declarator → here ≡ name_place name simple.place
    → Finds (IsSame {A = Unit {0}}) (also (name_clash names name) (give tt)) s.checker t (Some tt)
    → Finds IsType (words_type (scope_of t) simple) t t' r
    → Passes IsType (optional_type (scope_of t') here Adjusted (known_already (each_in type_in t'.table r)) declarator) (named_in_optional (scope_of t') declarator) (with_checker s t') p r'
    → Finds IsType (with_known (each_in type_in p.checker.table r') (parameter_type (scope_of p.checker) here)) p.checker u r''
    → q.checker ≡ u → Names (named_at here (each_in type_in u.table r'')) u.table p.named.items q.named.items
    → Passes IsType (parameter_rule (scope_of s.checker) names simple declarator) (named_parameter (scope_of s.checker) simple declarator) s q r''
passes-parameter {s = s} {p = p} {q = q} {t = t} {t' = t'} {u = u} {r = r} {r' = r'} {r'' = r''} names simple declarator name here is_name is_here noted first second last same named =
    let at_place : here ≡ name_place (optional_name declarator) simple.place = is_here ∙ ap (λ name. name_place name simple.place) is_name in
    let rule : Scope → Pos → Checked CType = λ scope place. given (optional_type scope place Adjusted (words_type scope simple) declarator) (parameter_type scope place) in
    let whole : Finds IsType (rule (scope_of t) here) t u r'' =
    finds-then Stands type_in (λ _. optional_type (scope_of t) here Adjusted (words_type (scope_of t) simple) declarator) (λ scope. parameter_type scope here) (optional_found {s = t} here Adjusted (words_type (scope_of t) simple) declarator first second.finds) last in
    let inner = names-grow p.checker.table u.table last.grows (subst (λ scope. Names (named_in_optional scope declarator) p.checker.table s.named.items p.named.items) first.scope second.names) in
    let own = subst (λ known. Names (named_at here known) u.table p.named.items q.named.items) (finds-known Stands type_in whole) named in
    let all : Passes IsType (rule (scope_of t) here) (named_in_optional (scope_of t) declarator ++ named_at here (rule (scope_of t) here).known) (with_checker s t) (with_checker q u) r'' =
    record { finds = whole; names = names-then u.table inner own } in
    let all' = subst (λ scope. Passes IsType (rule scope here) (named_in_optional scope declarator ++ named_at here (rule scope here).known) (with_checker s t) (with_checker q u) r'') noted.scope all in
    let clash = subst (λ name. Goes (name_clash names name) s.checker t) is_name (subst (λ found. Goes found s.checker t) (append-nil (name_clash names name)) (finds-goes noted)) in
    subst (λ (state : State). Passes IsType (parameter_rule (scope_of s.checker) names simple declarator) (named_parameter (scope_of s.checker) simple declarator) s (with_checker q state) r'') (sym same)
    (subst (λ (place : Pos). Passes IsType (also (name_clash names (optional_name declarator)) (rule (scope_of s.checker) place)) (named_in_optional (scope_of s.checker) declarator ++ named_at place (rule (scope_of s.checker) place).known) s (with_checker q u) r'') at_place
    (record { finds = finds-after clash all'.finds; names = all'.names }))

-- ---- the parameters from one on

pub parameter-next : (parameters : List memory_parameter.Parameter) (n : ℕ) (p : memory_parameter.Parameter) → n < length parameters → p ≡ get_or parameters n p → parameters_of (drop n parameters) ≡ Trees.Parameter (words_tree (out-Parameter p).simple) (optional_of (out-Parameter p).declarator) (parameters_of (drop (n + 1) parameters))
parameter-next parameters n p lt is = ap parameters_of (drop_more parameters n p lt ∙ ap (λ (first : memory_parameter.Parameter). first ∷ drop (n + 1) parameters) (sym is)) ∙ parameters_of-out p (drop (n + 1) parameters)

pub parameters-end : (parameters : List memory_parameter.Parameter) (n : ℕ) → length parameters ≤ n → parameters_of (drop n parameters) ≡ Trees.NoParameters
parameters-end parameters n h = ap parameters_of (drop_of_length-le parameters h)

-- as much was known, and these were the types
pub leads-same : (old : Pass) (all : ParametersTree) (now : Pass) (names : List (List ℕ)) (left : ParametersTree) {b b' : Bool} {types types' : List number.CType} → b' ≡ b → types' ≡ types → NotedParameters old all now names left b types → NotedParameters old all now names left b' types'
leads-same old all now names left {b = b} {types' = types'} same same' leads =
    subst (λ (b : Bool). NotedParameters old all now names left b types') (sym same)
    (subst (λ (types : List number.CType). NotedParameters old all now names left b types) (sym same') leads)
