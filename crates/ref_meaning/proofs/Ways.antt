-- Where first values stand.
use Rattle.std.proofs.Common.{◌≡◌, ℕ, zero, suc, ◌+◌, ◌<◌, ◌≤◌, List, [], ◌∷◌, ◌++◌, length, get_or, sym, ap, subst, arith}
use Rattle.c_num.specs.declared.IntType.{IntType}
use Rattle.c_typed.specs.declared.part.Part.{Part}
use Rattle.c_typed.specs.declared.part.Part.TheVariants as P
use Rattle.c_typed.specs.declared.definition.First as memory_first
use Rattle.c_typed.specs.Types.{CType}
use Rattle.c_typed.specs.Values as values
use Rattle.c_typed.specs.Typed.{Program}
use Rattle.c_typed.specs.DefinitionViews.{characters_held, first_of, all_first}
use Rattle.ref_semantics.specs.Values.{Heap, Place, object_place, at_index}
use Rattle.ref_semantics.specs.Store.{TypeEnvironment, member_at, decayed}
use Rattle.ref_semantics.specs.First.{around_of, stepped, walked}
use Rattle.ref_meaning.specs.Firsts.{StepsLead, AllLead}

-- ---- environments with the same structures

same_step : (a b : TypeEnvironment) → a.structs ≡ b.structs → (place : Place) (step : Part) → stepped a place step ≡ stepped b place step
same_step a b same place (P.Member index number) = ap (λ s. member_at (record { structs = s; completed = a.completed }) (at_index place index) number) same
same_step a b same place (P.Elements index) = ap (λ s. decayed (record { structs = s; completed = a.completed }) (at_index place index)) same

pub steps_same : (a b : TypeEnvironment) → a.structs ≡ b.structs → (place : Place) (steps : List Part) (index : ℕ) → StepsLead a place steps index → StepsLead b place steps index
steps_same a b same place [] index leads = leads
steps_same a b same place (step ∷ steps) index leads =
    (leads.0, steps_same a b same (stepped b place step) steps index (subst (λ p. StepsLead a p steps index) (same_step a b same place step) leads.1))

-- where they end
pub steps_end : (around : TypeEnvironment) (place : Place) (steps : List Part) (index : ℕ) → StepsLead around place steps index → index ≤ (walked around place steps 0).row.count
steps_end around place [] index leads = leads
steps_end around place (step ∷ steps) index leads = steps_end around (stepped around place step) steps index leads.1

-- ---- several of them

module _ (program : Program) (c_type : CType) where
  lead_parts : (xs ys : List values.Held) → AllLead program c_type (xs ++ ys) → AllLead program c_type xs × AllLead program c_type ys
  lead_parts [] ys all = (tt, all)
  lead_parts (x ∷ xs) ys all = let rest = lead_parts xs ys all.1 in ((all.0, rest.0), rest.1)

  pub lead_at : (all : List memory_first.First) (n : ℕ) (x : memory_first.First) → n < length all → x ≡ get_or all n x → AllLead program c_type (all_first all) → AllLead program c_type (first_of x)
  lead_at [] n x lt is leads = absurd (omega arith)
  lead_at (y ∷ ys) zero x lt is leads = subst (λ z. AllLead program c_type (first_of z)) (sym is) (lead_parts (first_of y) (all_first ys) leads).0
  lead_at (y ∷ ys) (suc n) x lt is leads = lead_at ys n x (omega arith) is (lead_parts (first_of y) (all_first ys) leads).1

  -- the bytes of a text
  pub text_lead : (steps : List Part) (int_type : IntType) (start : ℕ) (bytes : List ℕ) → AllLead program c_type (characters_held steps int_type start bytes) → (index : ℕ) → index < length bytes
      → StepsLead (around_of program) (object_place (Heap 0) c_type) steps (start + index)
  text_lead steps int_type start [] leads index lt = absurd (omega arith)
  text_lead steps int_type start (byte ∷ bytes) leads zero lt = subst (StepsLead (around_of program) (object_place (Heap 0) c_type) steps) (first start) leads.0.0
    where
      first : (n : ℕ) → n ≡ n + 0
      first n = omega arith
  text_lead steps int_type start (byte ∷ bytes) leads (suc index) lt =
      subst (StepsLead (around_of program) (object_place (Heap 0) c_type) steps) (further start index) (text_lead steps int_type (suc start) bytes leads.1 index (omega arith))
    where
      further : (n k : ℕ) → suc n + k ≡ n + suc k
      further n k = omega arith
