-- What the contracts of commands say of the outside: what they presume of it, and what they leave.
use Rattle.std.specs.Prelude.{◌≡◌, ℕ, ◌≤◌, ◌<◌, ◌⊎◌, List, length, map, String, string_bytes, Option, Some}
use Rattle.pcc_outside.specs.Outside.{Told, Missing, Holds, Rose}
use Rattle.pcc_words.specs.declared.status.Status.{Status}
use Rattle.pcc_words.specs.declared.status.Status.TheVariants as S
use Rattle.pcc_words.specs.Line.{Line, line_of}
use Rattle.poolcc.specs.Command.{Names}

-- the command line that these words are
abbrev pub line_said : {Z : Type 0} → List (String Z) → Line
line_said words = line_of (map string_bytes words)

-- Where a file holds these bytes, of which there are no more than the limit, this is left of the input and that has been written,
-- the rest holds.
abbrev pub FromText : ℕ → Told → List ℕ → Option (List ℕ) → List ℕ → Option (List ℕ) → List ℕ → Type 0 → Type 0
FromText limit told text left input written base rest = told ≡ Holds text → length text ≤ limit → left ≡ Some input → written ≡ Some base → rest

-- The same where the input isn't read.
abbrev pub FromSource : ℕ → Told → List ℕ → Option (List ℕ) → List ℕ → Type 0 → Type 0
FromSource limit told text written base rest = told ≡ Holds text → length text ≤ limit → written ≡ Some base → rest

-- Where no count of faults rose, of the file, the input, the output and the error output, the rest holds.
abbrev pub Undisturbed : (file file' input input' out out' err err' : ℕ) → Type 0 → Type 0
Undisturbed file file' input input' out out' err err' rest = (Rose file file' → ⊥) → (Rose input input' → ⊥) → (Rose out out' → ⊥) → (Rose err err' → ⊥) → rest

-- a read of the file or of the input failed
abbrev pub AReadFailed : (file file' input input' : ℕ) → Type 0
AReadFailed file file' input input' = Rose file file' ⊎ Rose input input'

-- no count of faults changed, of files, the input and the output
abbrev pub NoneFailed : (files files' : List ℕ → ℕ) (input input' out out' : ℕ) → Type 0
NoneFailed files files' input input' out out' = ((other : List ℕ) → files' other ≡ files other) × (input' ≡ input) × (out' ≡ out)

-- the same where the input isn't read
abbrev pub NoFileFailed : (files files' : List ℕ → ℕ) (out out' : ℕ) → Type 0
NoFileFailed files files' out out' = ((other : List ℕ) → files' other ≡ files other) × (out' ≡ out)

-- where a file isn't there, the answer is a read fault or want of memory, and nothing is read or written
abbrev pub AnswersMissing : Told → Status → (left left' written written' : Option (List ℕ)) → Type 0
AnswersMissing told result left left' written written' = told ≡ Missing → ((result ≡ S.ReadFault) ⊎ (result ≡ S.OutOfMemory)) × (left' ≡ left) × (written' ≡ written)

abbrev pub AnswersNoSource : Told → Status → (written written' : Option (List ℕ)) → Type 0
AnswersNoSource told result written written' = told ≡ Missing → ((result ≡ S.ReadFault) ⊎ (result ≡ S.OutOfMemory)) × (written' ≡ written)

-- the command line names a file whose bytes reach beyond the limit
abbrev pub ReachesBeyond : Line → ℕ → (List ℕ → ℕ) → Type 0
ReachesBeyond line limit reach = (file : List ℕ) × Names line file × (limit < reach file)
