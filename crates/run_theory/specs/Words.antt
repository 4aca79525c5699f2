-- Words in a list of bytes, the low byte first.
use Rattle.std.specs.Prelude.{ℕ, ◌+◌, List, ◌++◌, take, drop, replicate}
use Rattle.byteorder.specs.Endian.{little_bytes, little_number}

-- so many bytes, each zero
unfoldable pub zeros : ℕ → List ℕ
zeros count = replicate count 0

-- the number in the `width` bytes from `off` on
abbrev pub word_at : List ℕ → ℕ → ℕ → ℕ
word_at bytes off width = little_number width (take width (drop off bytes))

-- the bytes after the lowest `width` bytes of `word` were written from `off` on
abbrev pub with_word : List ℕ → ℕ → ℕ → ℕ → List ℕ
with_word bytes off width word = take off bytes ++ little_bytes width word ++ drop (off + width) bytes
