-- What the caller of `clap` knows of the words.
use Rattle.std.proofs.Common.{◌≡◌, ◌⊎◌, inl, inr, cond, subst, List, [], ◌∷◌, map, string_bytes}
use Rattle.std.specs.Prelude.{String}
use Rattle.std.proofs.lemmas.Str.{IsUtf8-string_bytes}
use Rattle.clap.specs.Kinds.{IsAmong, Kinds}
use Rattle.clap.specs.Simple.{subcommand_of}
use Rattle.clap.specs.Faults.{fault_of}
use Rattle.clap.specs.Walk.{Text}
use Rattle.clap.specs.declared.error.kind.ErrorKind.{ErrorKind}
use Rattle.clap.specs.declared.error.kind.ErrorKind.TheVariants.{OutOfMemory}
use Rattle.pcc_words.specs.Line.{NoCommand, NoLine, line_of}
use Rattle.pcc_words.specs.Clap.{app, names_command}
use Rattle.pcc_words.specs.Found.{found_line}
use Rattle.pcc_words.proofs.WordTurns.{AllText}
use Rattle.pcc_words.proofs.WordApp.{all_say}

pub all_text : {Z : Type 0} (words : List (String Z)) → AllText (map string_bytes words)
all_text [] = tt
all_text (word ∷ words) = (IsUtf8-string_bytes word, all_text words)

-- an error that is no want of memory has a kind among the faults
pub none_among : (k : ErrorKind) (kinds : Kinds) → (k ≡ OutOfMemory) ⊎ IsAmong k kinds → (k ≡ OutOfMemory → ⊥) → kinds ≡ [] → ⊥
none_among k [] (inl memory) other none = other memory
none_among k [] (inr among) other none = among
none_among k (x ∷ xs) (inl memory) other none = other memory
none_among k (x ∷ xs) (inr among) other none = subst (λ ks. IsAmong k ks) none among

pub taken : (words : List Text) → AllText words → fault_of app words ≡ [] → found_line (subcommand_of app words) ≡ line_of words
taken words texts none = (all_say words texts).0 none

pub refused : (words : List Text) → AllText words → (fault_of app words ≡ [] → ⊥) → line_of words ≡ cond (names_command app words) NoLine NoCommand
refused words texts some = (all_say words texts).1 some
