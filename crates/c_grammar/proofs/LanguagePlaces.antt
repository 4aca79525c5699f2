-- Where a refusal of a program stands, and which tree was read.
use Rattle.std.proofs.Common.{◌≡◌, ℕ, List, [], arith}
use Rattle.c_grammar.specs.Runs.{Whole, Bad, Deep, Outcome, Done, Failed, Run}
use Rattle.c_grammar.specs.Prefixes.{Accepted, IsMisfit, IsTooDeep}
use Rattle.c_grammar.proofs.Agree.{Agrees}
use Rattle.c_grammar.proofs.Places
use Rattle.c_grammar.specs.declared.kind.Kind.{Kind}
use Rattle.c_grammar.specs.Forms
use Rattle.c_grammar.specs.Language.{language}
use Rattle.c_grammar.specs.Follows.{Ends, Stands}
use Rattle.c_grammar.proofs.LanguageTells.{tells}
use Rattle.c_grammar.proofs.LanguageBounds.{bounds}
use Rattle.c_grammar.proofs.LanguageCompletes.{completes}
use Rattle.c_grammar.proofs.LanguageReads.{reads, at_text_end}

module _ {Leaf : Type 0} (kind_of : Leaf → Kind) (sample : Kind → Leaf) (real : (kind : Kind) → kind_of (sample kind) ≡ kind) where
  -- A program that nests no deeper than the limit is read as its tree.
  pub is_read : (limit : ℕ) (text : List Leaf) (accepted : Accepted (language kind_of sample) Forms.Program 0 limit text) → Run (language kind_of sample) (Whole Forms.Program 0) limit text (Done accepted.tree [])
  is_read = Places.is_read (language kind_of sample) (Ends kind_of) (Stands kind_of) (tells kind_of sample) (bounds kind_of sample) (completes kind_of sample real) (reads kind_of sample) Forms.Program 0 (at_text_end kind_of sample 0)

  -- Where a token doesn't fit, what stands before it begins a program, and with it none.
  pub misfit : (limit : ℕ) (text behind : List Leaf) → Run (language kind_of sample) (Whole Forms.Program 0) limit text (Failed Bad behind) → IsMisfit (language kind_of sample) Forms.Program 0 limit text behind
  misfit limit text behind run = Places.misfit (language kind_of sample) (Ends kind_of) (Stands kind_of) (tells kind_of sample) (bounds kind_of sample) (completes kind_of sample real) (reads kind_of sample) Forms.Program 0 (at_text_end kind_of sample 0) limit text behind (omega arith) run

  -- Where one is too deep, what stands before it begins a program, and with it only one that nests deeper.
  pub too_deep : (limit : ℕ) (text behind : List Leaf) → Run (language kind_of sample) (Whole Forms.Program 0) limit text (Failed Deep behind) → IsTooDeep (language kind_of sample) Forms.Program 0 limit text behind
  too_deep limit text behind run = Places.too_deep (language kind_of sample) (Ends kind_of) (Stands kind_of) (tells kind_of sample) (bounds kind_of sample) (completes kind_of sample real) (reads kind_of sample) Forms.Program 0 (at_text_end kind_of sample 0) limit text behind (omega arith) run

  -- A program has one tree, which is what was read.
  pub only : (limit : ℕ) (text : List Leaf) (outcome : Outcome Leaf Forms.Production) → Run (language kind_of sample) (Whole Forms.Program 0) limit text outcome → (larger : ℕ) (accepted : Accepted (language kind_of sample) Forms.Program 0 larger text) → Agrees (language kind_of sample) limit accepted.tree [] outcome
  only = Places.only (language kind_of sample) (Ends kind_of) (Stands kind_of) (tells kind_of sample) (bounds kind_of sample) (completes kind_of sample real) (reads kind_of sample) Forms.Program 0 (at_text_end kind_of sample 0)
