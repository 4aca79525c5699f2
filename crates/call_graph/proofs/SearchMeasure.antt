-- Each part of the search leaves less to do.
use Rattle.std.proofs.Common.{◌≡◌, ℕ, zero, suc, ◌+◌, ◌≤◌, List, [], ◌∷◌, length, set, Some, refl, ap, arith}
use Rattle.std.specs.Prelude.{slice_get}
use Rattle.std.proofs.lemmas.Option.{none-some, same_Some}
use Rattle.call_graph.specs.declared.components.Mark.{Mark}
use Rattle.call_graph.specs.declared.components.Mark.TheVariants.{Unseen, Open, Done}
use Rattle.call_graph.specs.Searches.{unseen_size}

-- a node that is opened
pub opened_size : (edges : List (List ℕ)) (marks : List Mark) (node place : ℕ) (targets : List ℕ) → slice_get edges node ≡ Some targets → slice_get marks node ≡ Some Unseen
    → unseen_size edges (set marks node (Open place)) + (2 + length targets) ≡ unseen_size edges marks
opened_size [] marks node place targets row is = absurd (none-some targets row)
opened_size (first ∷ edges) [] node place targets row is = absurd (none-some Unseen is)
opened_size (first ∷ edges) (mark ∷ marks) zero place targets row is = by mark (same_Some mark Unseen is)
  where
    by : (m : Mark) → m ≡ Unseen → unseen_size edges marks + (2 + length targets) ≡ unseen_size (first ∷ edges) (m ∷ marks)
    by Unseen e = let long : length first ≡ length targets = ap length (same_Some first targets row) in omega (arith, long)
    by (Open i) e = absurd (cc)
    by (Done c) e = absurd (cc)
opened_size (first ∷ edges) (Unseen ∷ marks) (suc node) place targets row is = let rest = opened_size edges marks node place targets row is in omega (arith, rest)
opened_size (first ∷ edges) (Open i ∷ marks) (suc node) place targets row is = opened_size edges marks node place targets row is
opened_size (first ∷ edges) (Done c ∷ marks) (suc node) place targets row is = opened_size edges marks node place targets row is

nothing : (edges : List (List ℕ)) → unseen_size edges [] ≡ 0
nothing [] = refl
nothing (row ∷ rows) = refl

-- where fewer are unseen, no more is to do
pub fewer_unseen : (edges : List (List ℕ)) (marks marks' : List Mark) → ((node : ℕ) → slice_get marks' node ≡ Some Unseen → slice_get marks node ≡ Some Unseen) → unseen_size edges marks' ≤ unseen_size edges marks
fewer_unseen [] marks marks' seen = omega arith
fewer_unseen (first ∷ edges) marks [] seen = omega arith
fewer_unseen (first ∷ edges) [] (Unseen ∷ marks') seen = absurd (none-some Unseen (seen 0 refl))
fewer_unseen (first ∷ edges) [] (Open i ∷ marks') seen = let rest = fewer_unseen edges [] marks' (λ node is. seen (suc node) is) in omega (arith, rest, nothing edges)
fewer_unseen (first ∷ edges) [] (Done c ∷ marks') seen = let rest = fewer_unseen edges [] marks' (λ node is. seen (suc node) is) in omega (arith, rest, nothing edges)
fewer_unseen (first ∷ edges) (mark ∷ marks) (Unseen ∷ marks') seen = by mark (same_Some mark Unseen (seen 0 refl)) (fewer_unseen edges marks marks' (λ node is. seen (suc node) is))
  where
    by : (m : Mark) → m ≡ Unseen → unseen_size edges marks' ≤ unseen_size edges marks → unseen_size (first ∷ edges) (Unseen ∷ marks') ≤ unseen_size (first ∷ edges) (m ∷ marks)
    by Unseen e rest = omega (arith, rest)
    by (Open i) e rest = absurd (cc)
    by (Done c) e rest = absurd (cc)
fewer_unseen (first ∷ edges) (Unseen ∷ marks) (Open i ∷ marks') seen = let rest = fewer_unseen edges marks marks' (λ node is. seen (suc node) is) in omega (arith, rest)
fewer_unseen (first ∷ edges) (Unseen ∷ marks) (Done i ∷ marks') seen = let rest = fewer_unseen edges marks marks' (λ node is. seen (suc node) is) in omega (arith, rest)
fewer_unseen (first ∷ edges) (Open j ∷ marks) (Open i ∷ marks') seen = fewer_unseen edges marks marks' (λ node is. seen (suc node) is)
fewer_unseen (first ∷ edges) (Open j ∷ marks) (Done i ∷ marks') seen = fewer_unseen edges marks marks' (λ node is. seen (suc node) is)
fewer_unseen (first ∷ edges) (Done j ∷ marks) (Open i ∷ marks') seen = fewer_unseen edges marks marks' (λ node is. seen (suc node) is)
fewer_unseen (first ∷ edges) (Done j ∷ marks) (Done i ∷ marks') seen = fewer_unseen edges marks marks' (λ node is. seen (suc node) is)
