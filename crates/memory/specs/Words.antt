-- Places kept in 64-bit words. Assumes nothing.
use Rattle.std.specs.Prelude.{ℕ, ◌+◌, ◌*◌, ◌/◌, ◌%◌, ◌^◌, if◌then◌else◌, Some, None, Option, ◌==◌}
use Rattle.store.specs.declared.place.Entry.{Entry}
use Rattle.memory.specs.Encodings.{Encoding}

-- bits 0 to 27 are the digest, 28 to 39 the hop number, 40 to 45 the tread number, 46 to 53 the length, and bit 54 is set
abbrev pub word_of_entry : Entry → ℕ
word_of_entry e = e.digest % 2 ^ 28 + e.hop % 2 ^ 12 * 2 ^ 28 + e.tread % 2 ^ 6 * 2 ^ 40 + e.length * 2 ^ 46 + 2 ^ 54

-- the word that is written
abbrev pub word_of : Option Entry → ℕ
word_of None = 0
word_of (Some e) = word_of_entry e

-- what a word is read as: an entry where bit 54 is set
abbrev pub word_content : ℕ → Option Entry
word_content n =
    if n / 2 ^ 54 % 2 == 0 then None
    else Some (record { digest = n % 2 ^ 28; hop = n / 2 ^ 28 % 2 ^ 12; length = n / 2 ^ 46 % 2 ^ 8; tread = n / 2 ^ 40 % 2 ^ 6 })

abbrev pub word_encoding : Encoding ℕ
word_encoding = record { bits = 28; blank = 0; decoded = word_content; encoded = word_of }
