-- Components in their order are the groups of the program.
use Rattle.std.proofs.Common.{◌≡◌, ℕ, zero, suc, ◌+◌, ◌<◌, ◌≤◌, ◌==◌, ◌||◌, Bool, true, false, if◌then◌else◌, List, [], ◌∷◌, ◌++◌, length, map, Some, inl, inr, refl, sym, ap, subst, ◌∙◌, append_assoc, arith, eqb-true, eq-eqb}
use Rattle.std.specs.Prelude.{slice_get}
use Rattle.std.proofs.lemmas.Bool.{false≢true, cases_lt}
use Rattle.std.proofs.lemmas.List.{map-append}
use Rattle.std.proofs.lemmas.Option.{none-some, same_Some, slice_get_within}
use Rattle.tac_ir.specs.Code.{Tac}
use Rattle.call_graph.specs.RowLists.{Has, is_among}
use Rattle.call_graph.proofs.RowLists.{in_front, in_back, in_either, among_has, has_among, among_append, some_at}
use Rattle.tac_ir.specs.Groups.{Calls, Reaches, itself, through, IsIn, IsAmong, IsAscending, IsReady, BeginsFirst, AreGroups}
use Rattle.call_graph.specs.Search.{Path, stay, along}
use Rattle.call_graph.specs.Heads.{IsFirst}
use Rattle.call_graph.specs.Orders.{IsPrepared, IsNext, IsOrder}
use Rattle.call_graph.proofs.Turned.{under}
use Rattle.call_graph.specs.CallLists.{IsCallGraph, LeadsTo}
use Rattle.call_graph.specs.GroupLists.{Leads, AreCallHeads, functions_in, in_groups}

-- ---- the functions of a group

pub in_group : (number : ℕ) (heads : List ℕ) (head x : ℕ) → IsIn x (functions_in number heads head) → (at : ℕ) × (x ≡ number + at) × (slice_get heads at ≡ Some head)
in_group number [] head x is = absurd is
in_group number (own ∷ others) head x is = by (λ rest. in_group (suc number) others head x rest) (own == head) refl is
  where
    by : (IsIn x (functions_in (suc number) others head) → (at : ℕ) × (x ≡ suc number + at) × (slice_get others at ≡ Some head)) → (b : Bool) → (own == head) ≡ b
        → IsIn x (if b then number ∷ functions_in (suc number) others head else functions_in (suc number) others head) → (at : ℕ) × (x ≡ number + at) × (slice_get (own ∷ others) at ≡ Some head)
    by later true e (inl same) = (0, omega (arith, same), ap Some (eqb-true own head e))
    by later true e (inr rest) = let found = later rest in (suc found.0, omega (arith, found.1), found.2)
    by later false e rest = let found = later rest in (suc found.0, omega (arith, found.1), found.2)

pub group_in : (number : ℕ) (heads : List ℕ) (head at x : ℕ) → x ≡ number + at → slice_get heads at ≡ Some head → IsIn x (functions_in number heads head)
group_in number [] head at x e is = absurd (none-some head is)
group_in number (own ∷ others) head zero x e is = by (own == head) (eq-eqb own head (same_Some own head is))
  where
    by : (b : Bool) → b ≡ true → IsIn x (if b then number ∷ functions_in (suc number) others head else functions_in (suc number) others head)
    by true t = inl (omega (arith, e))
    by false t = absurd (false≢true t)
group_in number (own ∷ others) head (suc at) x e is = by (own == head) (group_in (suc number) others head at x (omega (arith, e)) is)
  where
    by : (b : Bool) → IsIn x (functions_in (suc number) others head) → IsIn x (if b then number ∷ functions_in (suc number) others head else functions_in (suc number) others head)
    by true rest = inr rest
    by false rest = rest

-- in order, where there are some
abbrev Rises : List ℕ → Type 0
Rises list = (x : ℕ) → IsIn x list → IsAscending list

rises_on : (first : ℕ) (list : List ℕ) → ((x : ℕ) → IsIn x list → first < x) → Rises list → IsAscending (first ∷ list)
rises_on first [] above rises = tt
rises_on first (next ∷ others) above rises = (above next (inl refl), rises next (inl refl))

rises : (number : ℕ) (heads : List ℕ) (head : ℕ) → Rises (functions_in number heads head)
rises number [] head x is = absurd is
rises number (own ∷ others) head x is = by (λ y is'. rises (suc number) others head y is') (own == head) is
  where
    by : Rises (functions_in (suc number) others head) → (b : Bool) → IsIn x (if b then number ∷ functions_in (suc number) others head else functions_in (suc number) others head)
        → IsAscending (if b then number ∷ functions_in (suc number) others head else functions_in (suc number) others head)
    by later true here = rises_on number (functions_in (suc number) others head) (λ y is'. let found = in_group (suc number) others head y is' in omega (arith, found.1)) later
    by later false here = later x here

least_first : (first : ℕ) (list : List ℕ) (x : ℕ) → IsAscending (first ∷ list) → IsIn x (first ∷ list) → first ≤ x
least_first first list x ascending (inl same) = omega (arith, same)
least_first first [] x ascending (inr is) = absurd is
least_first first (next ∷ list) x ascending (inr is) = let le = least_first next list x ascending.1 is in omega (arith, ascending.0, le)

begins_first : (group other : List ℕ) → ((x : ℕ) → IsIn x group → IsAscending group) → ((x : ℕ) → IsIn x other → (y : ℕ) × IsIn y group × (y ≤ x)) → BeginsFirst group other
begins_first [] other ascending before = tt
begins_first (first ∷ group) [] ascending before = tt
begins_first (first ∷ group) (next ∷ other) ascending before =
    let own = before next (inl refl) in
    let le = least_first first group own.0 (ascending own.0 own.1) own.1 in
    omega (arith, le, own.2)

-- ---- lists of groups

split_map : {X Y : Type 0} (f : X → Y) (order : List X) (before after : List Y) (group : Y) → map f order ≡ before ++ group ∷ after
    → (b : List X) × (c : X) × (a : List X) × (order ≡ b ++ c ∷ a) × (map f b ≡ before) × (f c ≡ group) × (map f a ≡ after)
split_map f [] [] after group e = absurd (cc)
split_map f [] (x ∷ before) after group e = absurd (cc)
split_map f (c ∷ order) [] after group e = let head : f c ≡ group = cc in let rest : map f order ≡ after = cc in ([], c, order, refl, refl, head, rest)
split_map f (c ∷ order) (x ∷ before) after group e =
    let head : f c ≡ x = cc in
    let rest : map f order ≡ before ++ group ∷ after = cc in
    let own = split_map f order before after group rest in
    (c ∷ own.0, own.1, own.2, ap (λ l. c ∷ l) own.3, (λ i. head i ∷ own.4 i), own.5, own.6)

module _ (heads : List ℕ) where
  abbrev group_of : ℕ → List ℕ
  group_of = functions_in 0 heads

  pub held : (head x : ℕ) → IsIn x (group_of head) → slice_get heads x ≡ Some head
  held head x is = let found = in_group 0 heads head x is in let same : x ≡ found.0 = omega (arith, found.1) in ap (slice_get heads) same ∙ found.2

  pub holds : (head x : ℕ) → slice_get heads x ≡ Some head → IsIn x (group_of head)
  holds head x is = group_in 0 heads head x x (omega arith) is

  among : (order : List ℕ) (x : ℕ) → IsAmong x (map group_of order) → (head : ℕ) × Has order head × (slice_get heads x ≡ Some head)
  among [] x is = absurd is
  among (head ∷ order) x (inl here) = (head, inl refl, held head x here)
  among (head ∷ order) x (inr rest) = let own = among order x rest in (own.0, inr own.1, own.2)

  among_by : (order : List ℕ) (head x : ℕ) → Has order head → slice_get heads x ≡ Some head → IsAmong x (map group_of order)
  among_by [] head x is here = absurd is
  among_by (first ∷ order) head x (inl same) here = inl (subst (λ (c : ℕ). IsIn x (group_of c)) same (holds head x here))
  among_by (first ∷ order) head x (inr is) here = inr (among_by order head x is here)

absent : (x : ℕ) (a b : List ℕ) → is_among x (a ++ b) ≡ false → is_among x a ≡ false
absent x a b is = by (is_among x a) refl (sym (among_append x a b) ∙ is)
  where
    by : (t : Bool) → is_among x a ≡ t → (t || is_among x b) ≡ false → is_among x a ≡ false
    by false e given = e
    by true e given = absurd (false≢true (sym given))

not_below : (numbers : List ℕ) (number first x : ℕ) → IsFirst numbers number first → slice_get numbers x ≡ Some number → first ≤ x
not_below numbers number first x starts is = elim (cases_lt x first) [ inl lt ↦ absurd (starts.before x lt is) | inr le ↦ le ]

-- where a head stands
pub divided : (order : List ℕ) (head : ℕ) → Has order head → (before : List ℕ) × (after : List ℕ) × (order ≡ before ++ head ∷ after)
divided [] head is = absurd is
divided (first ∷ order) head (inl same) = ([], order, ap (λ h. h ∷ order) (sym same))
divided (first ∷ order) head (inr is) = let own = divided order head is in (first ∷ own.0, own.1, ap (λ l. first ∷ l) own.2)

-- ---- the groups of a program

module _ (tac : Tac) (edges : List (ℕ × ℕ)) (heads order : List ℕ) (made : AreCallHeads (length tac.functions) edges heads) (ordered : IsOrder heads edges order) (graph : IsCallGraph tac edges) where
  path_by_edge : (a b : ℕ) → Has edges (a, b) → Path (Leads edges) a b
  path_by_edge a b edge = along a b b edge (stay b)

  joined : (a b c : ℕ) → Path (Leads edges) a b → Path (Leads edges) b c → Path (Leads edges) a c
  joined a b c (stay _) further = further
  joined a b c (along _ next _ edge rest) further = along a next c edge (joined next b c rest further)

  reaches_by_path : (a b : ℕ) → Path (Leads edges) a b → Reaches tac a b
  reaches_by_path a b (stay _) = itself a
  reaches_by_path a b (along _ next _ edge rest) = through a next b (graph.from a next edge) (reaches_by_path next b rest)

  led : (a node b : ℕ) → LeadsTo edges node b → Path (Leads edges) node b
  led a node b (inl same) = subst (λ (x : ℕ). Path (Leads edges) node x) same (stay node)
  led a node b (inr both) = path_by_edge node b both.0

  path_by_reaches : (a b : ℕ) → Reaches tac a b → Path (Leads edges) a b
  path_by_reaches a b (itself _) = stay a
  path_by_reaches a b (through _ called _ call rest) =
      let own = graph.to a called call in
      along a own.0 b own.1 (joined own.0 called b (led a own.0 called own.2) (path_by_reaches called b rest))

  own_head : (x : ℕ) → x < length tac.functions → (head : ℕ) × (slice_get heads x ≡ Some head)
  own_head x lt = some_at heads x (omega (arith, lt, made.each))

  inside : (x head : ℕ) → slice_get heads x ≡ Some head → x < length tac.functions
  inside x head is = omega (arith, slice_get_within heads x head is, made.each)

  edge_inside : (a b : ℕ) → Has edges (a, b) → b < length tac.functions
  edge_inside a b edge = let own = made.of.inside (a, b) edge in omega (arith, own.1, made.each)

  one_head : (c d x : ℕ) → slice_get heads x ≡ Some c → slice_get heads x ≡ Some d → c ≡ d
  one_head c d x here there = same_Some c d (sym here ∙ there)

  end_inside : (a b : ℕ) → a < length tac.functions → Path (Leads edges) a b → b < length tac.functions
  end_inside a b lt (stay _) = lt
  end_inside a b lt (along _ next _ edge rest) = end_inside next b (edge_inside a next edge) rest

  reached_inside : (a b : ℕ) → a < length tac.functions → Reaches tac a b → b < length tac.functions
  reached_inside a b lt reaches = end_inside a b lt (path_by_reaches a b reaches)

  called_inside : (a b : ℕ) → a < length tac.functions → Calls tac a b → b < length tac.functions
  called_inside a b lt call = reached_inside a b lt (through a b b call (itself b))

  -- what a call leads to is in the group of the function that is called
  call_edge : (a b : ℕ) → Calls tac a b → (d : ℕ) → slice_get heads b ≡ Some d → (node : ℕ) × Has edges (a, node) × (slice_get heads node ≡ Some d)
  call_edge a b call d there = let own = graph.to a b call in (own.0, own.1, by own.0 own.1 own.2)
    where
      by : (node : ℕ) → Has edges (a, node) → LeadsTo edges node b → slice_get heads node ≡ Some d
      by node edge (inl same) = ap (slice_get heads) same ∙ there
      by node edge (inr both) =
          let head = own_head node (edge_inside a node edge) in
          head.1 ∙ ap Some (made.same node b head.0 d head.1 there (path_by_edge node b both.0) (path_by_edge b node both.1))

  module _ (before after : List (List ℕ)) (group : List ℕ) (e : in_groups heads order ≡ before ++ group ∷ after) where
    parts : (b : List ℕ) × (c : ℕ) × (a : List ℕ) × (order ≡ b ++ c ∷ a) × (map (group_of heads) b ≡ before) × (group_of heads c ≡ group) × (map (group_of heads) a ≡ after)
    parts = split_map (group_of heads) order before after group e

    next_here : IsNext heads edges parts.0 parts.1
    next_here = ordered.in_order parts.0 parts.2 parts.1 parts.3

    holds_own : (x : ℕ) → IsIn x group → slice_get heads x ≡ Some parts.1
    holds_own x is = held heads parts.1 x (subst (IsIn x) (sym parts.5) is)

    own_holds : (x : ℕ) → slice_get heads x ≡ Some parts.1 → IsIn x group
    own_holds x is = subst (IsIn x) parts.5 (holds heads parts.1 x is)

    -- a head stands once
    not_later : (later : List ℕ) → (middle : List ℕ) → order ≡ (parts.0 ++ parts.1 ∷ middle) ++ later → Has later parts.1 → ⊥
    not_later later middle is there =
        let own = divided later parts.1 there in
        let next' = ordered.in_order ((parts.0 ++ parts.1 ∷ middle) ++ own.0) own.1 parts.1 (is ∙ (ap (λ l. (parts.0 ++ parts.1 ∷ middle) ++ l) own.2 ∙ sym (append_assoc (parts.0 ++ parts.1 ∷ middle) own.0 (parts.1 ∷ own.1)))) in
        false≢true (sym next'.new ∙ has_among parts.1 ((parts.0 ++ parts.1 ∷ middle) ++ own.0) (in_front (parts.0 ++ parts.1 ∷ middle) own.0 parts.1 (in_back parts.0 (parts.1 ∷ middle) parts.1 (inl refl))))

    group_once : (x : ℕ) → IsIn x group → IsAmong x (before ++ after) → ⊥
    group_once x is other =
        let both : map (group_of heads) (parts.0 ++ parts.2) ≡ before ++ after = map-append (group_of heads) parts.0 parts.2 ∙ (λ i. parts.4 i ++ parts.6 i) in
        let found = among heads (parts.0 ++ parts.2) x (subst (IsAmong x) (sym both) other) in
        let same = one_head found.0 parts.1 x found.2 (holds_own x is) in
        elim (in_either parts.0 parts.2 parts.1 (subst (Has (parts.0 ++ parts.2)) same found.1)) [
          | inl earlier ↦ false≢true (sym next_here.new ∙ has_among parts.1 parts.0 earlier)
          | inr later ↦ not_later parts.2 [] (parts.3 ∙ sym (append_assoc parts.0 (parts.1 ∷ []) parts.2)) later
        ]

    group_rises : IsAscending group
    group_rises = subst IsAscending parts.5 (rises 0 heads parts.1 parts.1 (holds heads parts.1 parts.1 next_here.head))

    group_together : (a b : ℕ) → IsIn a group → Reaches tac a b × Reaches tac b a → IsIn b group
    group_together a b is both =
        let here = holds_own a is in
        let there = own_head b (reached_inside a b (inside a parts.1 here) both.0) in
        let same = made.same a b parts.1 there.0 here there.1 (path_by_reaches a b both.0) (path_by_reaches b a both.1) in
        own_holds b (there.1 ∙ ap Some (sym same))

    group_apart : (a b : ℕ) → IsIn a group → IsIn b group → Reaches tac a b × Reaches tac b a
    group_apart a b is is' =
        let here = holds_own a is in
        let there = holds_own b is' in
        (reaches_by_path a b (made.together a b parts.1 here there), reaches_by_path b a (made.together b a parts.1 there here))

    group_ready : IsReady tac before group
    group_ready caller called is call =
        let here = holds_own caller is in
        let there = own_head called (called_inside caller called (inside caller parts.1 here) call) in
        let edge = call_edge caller called call there.0 there.1 in
        elim (next_here.prepared caller edge.0 there.0 here edge.1 edge.2) [
          | inl same ↦ inl (own_holds called (there.1 ∙ ap Some same))
          | inr earlier ↦ inr (subst (IsAmong called) parts.4 (among_by heads parts.0 there.0 called (among_has there.0 parts.0 earlier) there.1))
        ]

    group_next : (other : List ℕ) (before_other after_other : List (List ℕ)) → after ≡ before_other ++ other ∷ after_other → IsReady tac before other → BeginsFirst group other
    group_next other before_other after_other e' ready =
        let own = split_map (group_of heads) parts.2 before_other after_other other (parts.6 ∙ e') in
        let whole : order ≡ (parts.0 ++ parts.1 ∷ own.0) ++ own.1 ∷ own.2 = parts.3 ∙ (ap (λ l. parts.0 ++ parts.1 ∷ l) own.3 ∙ sym (append_assoc parts.0 (parts.1 ∷ own.0) (own.1 ∷ own.2))) in
        let next' = ordered.in_order (parts.0 ++ parts.1 ∷ own.0) own.2 own.1 whole in
        let prepared : IsPrepared heads edges parts.0 own.1 = λ from to callee here edge is. elim (ready from to (subst (IsIn from) own.5 (holds heads own.1 from here)) (graph.from from to edge)) [
          | inl in_other ↦ inl (one_head callee own.1 to is (held heads own.1 to (subst (IsIn to) (sym own.5) in_other)))
          | inr earlier ↦ (let found = among heads parts.0 to (subst (IsAmong to) (sym parts.4) earlier) in
              inr (ap (λ h. is_among h parts.0) (one_head callee found.0 to is found.2) ∙ has_among found.0 parts.0 found.1))
        ] in
        let not_yet : is_among own.1 parts.0 ≡ false = absent own.1 parts.0 (parts.1 ∷ own.0) next'.new in
        let le = next_here.first own.1 next'.head not_yet prepared in
        begins_first group other (λ x is. group_rises) (λ x is.
        let under_x = under edges heads made.of x own.1 (held heads own.1 x (subst (IsIn x) (sym own.5) is)) in
        let low = not_below made.of.numbers under_x.number own.1 x under_x.first under_x.own in
        (parts.1, own_holds parts.1 next_here.head, omega (arith, le, low)))

  pub are_groups : AreGroups tac (in_groups heads order)
  are_groups = record {
    all = λ x lt.
        let own = own_head x lt in
        let under_x = under edges heads made.of x own.0 own.1 in
        among_by heads order own.0 x (among_has own.0 order (ordered.all own.0 under_x.itself)) own.1;
    only = λ x is. let own = among heads order x is in inside x own.0 own.2;
    once = λ before after group x e. group_once before after group e x;
    ascending = λ before after group e. group_rises before after group e;
    together = λ before after group a b e. group_together before after group e a b;
    apart = λ before after group a b e. group_apart before after group e a b;
    ready = λ before after group e. group_ready before after group e;
    next = λ before after group other before_other after_other e e' ready. group_next before after group e other before_other after_other e' ready;
  }
