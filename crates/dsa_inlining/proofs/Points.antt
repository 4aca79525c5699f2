-- What is counted at one point.
use Rattle.std.proofs.Common.{◌≡◌, ℕ, ◌+◌, ◌||◌, false, List, length, Vec, Global, refl, sym, ap, ◌∙◌, arith}
use Rattle.c_typed.specs.Table.{Interned}
use Rattle.tac_ir.specs.declared.register.Register.{Register}
use Rattle.tac_ir.specs.declared.op.Callee as memory_callee
use Rattle.tac_ir.specs.declared.op.Op as memory_op
use Rattle.tac_ir.specs.declared.op.Op.TheVariants as M
use Rattle.tac_ir.specs.Code as O
use Rattle.tac_ir.specs.Code.{Callee, Op, Tac}
use Rattle.tac_ir.specs.Views.{op_in}
use Rattle.heap_graph.specs.Graphs.{Name}
use Rattle.dsa_local.specs.Mentioned.{op_begins}
use Rattle.dsa_inlining.specs.declared.before.Before.{Before}
use Rattle.dsa_inlining.specs.declared.tally.Tally.{Tally}
use Rattle.dsa_inlining.specs.Counting.{Outside, copies_to, copies_of, call_tells}
use Rattle.dsa_inlining.specs.Tallies.{Adds, Counts, begins, call_names, op_mentions}
use Rattle.dsa_inlining.proofs.MarkSteps.{or_false}
use Rattle.dsa_inlining.proofs.GroupCounts.Adding.{adds_both, adds_same}
use Rattle.dsa_inlining.proofs.GroupCounts.ToldGroups.{told_stays}

module _ (tac : Tac) (outside : Outside) (before : Before) (old mid : Tally) (same : mid.count ≡ old.count) (kept : mid.told ≡ old.told) where
  -- a point that calls
  pub call_counted : (op : Op) (site : ℕ) (callee : Callee) (arguments : List Register) → op ≡ O.Call site callee arguments → Adds (λ name. op_begins (begins name) op) old.mentions mid.mentions
      → (new : Tally) → Counts before (copies_to tac outside (length tac.functions) callee) (call_names tac outside callee) mid new → Counts before (copies_of tac outside op) (op_mentions tac outside op) old new
  call_counted op site callee arguments is path new counts = record {
    count = counts.count ∙ (ap (λ n. n + copies_to tac outside (length tac.functions) callee) same ∙ ap (λ o. old.count + copies_of tac outside o) (sym is));
    names = λ told. adds_same (λ name. op_begins (begins name) op || call_names tac outside callee name) (op_mentions tac outside op) old.mentions new.mentions
        (λ name. ap (λ o. op_begins (begins name) op || call_tells tac outside name o) (sym is))
        (adds_both (λ name. op_begins (begins name) op) (call_names tac outside callee) old.mentions mid.mentions new.mentions path (counts.names (told_stays before (λ name. op_begins (begins name) op) old mid kept path told)));
    told = λ told. counts.told (told_stays before (λ name. op_begins (begins name) op) old mid kept path told);
  }

  -- one that doesn't
  pub others_counted : (op : Op) → copies_of tac outside op ≡ 0 → ((name : Name) → call_tells tac outside name op ≡ false) → Adds (λ name. op_begins (begins name) op) old.mentions mid.mentions
      → Counts before (copies_of tac outside op) (op_mentions tac outside op) old mid
  others_counted op none never path = record {
    count = same ∙ (plus_none old.count ∙ ap (λ n. old.count + n) (sym none));
    names = λ told. adds_same (λ name. op_begins (begins name) op) (op_mentions tac outside op) old.mentions mid.mentions
        (λ name. sym (or_false (op_begins (begins name) op)) ∙ ap (λ t. op_begins (begins name) op || t) (sym (never name))) path;
    told = λ told. told_stays before (λ name. op_begins (begins name) op) old mid kept path told;
  }
    where
      plus_none : (n : ℕ) → n ≡ n + 0
      plus_none n = omega arith

-- a point that doesn't call has no copies, and nothing is told at it
module _ (tac : Tac) (outside : Outside) (table : Interned) where
  pub record IsOther (op : Op) : Type 0 where
    pub none : copies_of tac outside op ≡ 0
    pub never : (name : Name) → call_tells tac outside name op ≡ false

  pub other_point : (op : memory_op.Op) → ((site : ℕ) (callee : memory_callee.Callee) (arguments : Vec Register Global) → op ≡ M.Call site callee arguments → ⊥) → IsOther (op_in table op)
  other_point M.Reserved calls = record { none = refl; never = λ name. refl }
  other_point (M.Jump to) calls = record { none = refl; never = λ name. refl }
  other_point (M.Branch int_type condition holds fails) calls = record { none = refl; never = λ name. refl }
  other_point (M.Assign to tree) calls = record { none = refl; never = λ name. refl }
  other_point (M.Null to) calls = record { none = refl; never = λ name. refl }
  other_point (M.FunctionAddress to function) calls = record { none = refl; never = λ name. refl }
  other_point (M.Copy to from) calls = record { none = refl; never = λ name. refl }
  other_point (M.Test to pointer) calls = record { none = refl; never = λ name. refl }
  other_point (M.Move to pointer element is_minus number) calls = record { none = refl; never = λ name. refl }
  other_point (M.Difference to element left right) calls = record { none = refl; never = λ name. refl }
  other_point (M.ComparePointers to relation left right) calls = record { none = refl; never = λ name. refl }
  other_point (M.Repoint to target from) calls = record { none = refl; never = λ name. refl }
  other_point (M.Address to path) calls = record { none = refl; never = λ name. refl }
  other_point (M.Load to scalar path) calls = record { none = refl; never = λ name. refl }
  other_point (M.Store path scalar value) calls = record { none = refl; never = λ name. refl }
  other_point (M.Allocate site size) calls = record { none = refl; never = λ name. refl }
  other_point (M.Free site pointer) calls = record { none = refl; never = λ name. refl }
  other_point (M.Call site callee arguments) calls = absurd (calls site callee arguments refl)
  other_point (M.GetChar site) calls = record { none = refl; never = λ name. refl }
  other_point (M.PutChar site value) calls = record { none = refl; never = λ name. refl }
  other_point (M.Exit status) calls = record { none = refl; never = λ name. refl }
  other_point (M.Return value) calls = record { none = refl; never = λ name. refl }
