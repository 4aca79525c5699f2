-- The literals that stand in a tree rise as its leaves do.
use Rattle.std.proofs.Common.{◌≡◌, List, [], ◌∷◌, ◌++◌, sym, subst, append_assoc}
use Rattle.std.proofs.lemmas.List.{append-nil}
use Rattle.run_theory.specs.declared.place.Pos.{Pos}
use Rattle.c_grammar.specs.Table.{leaves}
use Rattle.c_grammar.specs.Leaves.{Leaf}
use Rattle.c_typed.specs.Typed.{LiteralDef}
use Rattle.c_reader.specs.Grammar.{Parse}
use Rattle.accepted_programs.specs.Places.{NotBefore, next_to, LeavesRise, LiteralsRise}
use Rattle.accepted_programs.specs.Literals.{LiteralsStand, no_literal, literal, in_row, in_first, in_others, in_both, regrouped}
use Rattle.accepted_programs.proofs.Rising.{not_before_through, not_before_next, leaves_rise_before}

abbrev Carries : List LiteralDef → List Leaf → Type 0
Carries literals those = (from : Pos) → LeavesRise from those → LiteralsRise from literals

-- what is behind other leaves rises as they do
rise_behind : (front behind : List Leaf) (from : Pos) → LeavesRise from (front ++ behind) → LeavesRise from behind
rise_behind [] behind from rise = rise
rise_behind (leaf ∷ front) behind from rise =
    let through = not_before_through from leaf.place (next_to leaf.place) rise.0 (not_before_next leaf.place) in
    leaves_rise_before from (next_to leaf.place) behind through (rise_behind front behind (next_to leaf.place) rise.1)

carries_behind : (literals : List LiteralDef) (front behind : List Leaf) → Carries literals behind → Carries literals (front ++ behind)
carries_behind literals front behind carries = λ from rise. carries from (rise_behind front behind from rise)

carries_literal : (one : LiteralDef) (leaf : Leaf) (others : List LiteralDef) (behind : List Leaf) → one.place ≡ leaf.place → Carries others behind → Carries (one ∷ others) (leaf ∷ behind)
carries_literal one leaf others behind same carries = λ from rise.
    (subst (NotBefore from) (sym same) rise.0, subst (λ place. LiteralsRise (next_to place) others) (sym same) (carries (next_to leaf.place) rise.1))

carried : (literals : List LiteralDef) (parse : Parse) → LiteralsStand literals parse → (others : List LiteralDef) (behind : List Leaf) → Carries others behind → Carries (literals ++ others) (leaves parse ++ behind)
carried literals parse no_literal others behind carries = carries_behind others (leaves parse) behind carries
carried literals parse (literal {leaf = leaf} one same) others behind carries = carries_literal one leaf others behind same carries
carried literals parse (in_row holds) others behind carries = carried _ _ holds others behind carries
carried literals parse (in_first {first = first} {others = more} holds) others behind carries =
    subst (Carries (literals ++ others)) (sym (append_assoc (leaves first) (leaves more) behind)) (carried literals first holds others (leaves more ++ behind) (carries_behind others (leaves more) behind carries))
carried literals parse (in_others {first = first} {others = more} holds) others behind carries =
    subst (Carries (literals ++ others)) (sym (append_assoc (leaves first) (leaves more) behind)) (carries_behind (literals ++ others) (leaves first) (leaves more ++ behind) (carried literals more holds others behind carries))
carried literals parse (in_both {literals = front} {more = back} {first = first} {others = more} holds later) others behind carries =
    subst (λ ls. Carries ls (leaves first ++ leaves more ++ behind)) (sym (append_assoc front back others))
    (subst (Carries (front ++ (back ++ others))) (sym (append_assoc (leaves first) (leaves more) behind))
    (carried front first holds (back ++ others) (leaves more ++ behind) (carried back more later others behind carries)))
carried literals parse (regrouped front back last holds) others behind carries =
    subst (λ ls. Carries (ls ++ others) (leaves parse ++ behind)) (sym (append_assoc front back last)) (carried (front ++ (back ++ last)) parse holds others behind carries)

pub held_rise : (literals : List LiteralDef) (parse : Parse) → LiteralsStand literals parse → (from : Pos) → LeavesRise from (leaves parse) → LiteralsRise from literals
held_rise literals parse holds from rise =
    subst (LiteralsRise from) (append-nil literals) (carried literals parse holds [] [] (λ from rise. tt) from (subst (LeavesRise from) (sym (append-nil (leaves parse))) rise))
