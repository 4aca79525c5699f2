-- A word inside a part of a list of bytes.
use Rattle.std.proofs.Common.{◌≡◌, ℕ, ◌+◌, ◌≤◌, List, ◌++◌, length, take, drop, sym, ap, ◌∙◌, arith, append_assoc, length-drop, drop-drop}
use Rattle.std.proofs.Math.Seq.{take-append-add}
use Rattle.std.proofs.lemmas.List.{take-append-le, drop-append-le, drop_at}
use Rattle.byteorder.specs.Endian.{little_bytes, little_number}
use Rattle.run_theory.specs.Words.{word_at, with_word}

module _ (A P G : List ℕ) (at off width : ℕ) (before : length A ≡ at) (inside : off + width ≤ length P) where
  -- what lies behind a place inside the part
  drop-parts : (k : ℕ) → k ≤ length P → drop (at + k) (A ++ (P ++ G)) ≡ drop k P ++ G
  drop-parts k h = sym (drop-drop k at (A ++ (P ++ G))) ∙ ap (drop k) (drop_at A (P ++ G) at before) ∙ drop-append-le k P G h

  pub word_at-inside : word_at (A ++ (P ++ G)) (at + off) width ≡ word_at P off width
  word_at-inside =
      let there = drop-parts off (omega arith) in
      let long : width ≤ length (drop off P) = simp length-drop (omega arith) in
      ap (λ (q : List ℕ). little_number width (take width q)) there ∙ ap (little_number width) (take-append-le width (drop off P) G long)

  pub with_word-inside : (word : ℕ) → with_word (A ++ (P ++ G)) (at + off) width word ≡ A ++ (with_word P off width word ++ G)
  with_word-inside word =
      let W = little_bytes width word in
      let assoc : at + off + width ≡ at + (off + width) = omega arith in
      let front : take (at + off) (A ++ (P ++ G)) ≡ A ++ take off P =
      ap (λ k. take (k + off) (A ++ (P ++ G))) (sym before) ∙ take-append-add A (P ++ G) off ∙ ap (λ (q : List ℕ). A ++ q) (take-append-le off P G (omega arith)) in
      let back : drop (at + off + width) (A ++ (P ++ G)) ≡ drop (off + width) P ++ G = ap (λ k. drop k (A ++ (P ++ G))) assoc ∙ drop-parts (off + width) inside in
      ap (λ (p : List ℕ). p ++ W ++ drop (at + off + width) (A ++ (P ++ G))) front
      ∙ ap (λ (q : List ℕ). A ++ take off P ++ W ++ q) back
      ∙ simp append_assoc
