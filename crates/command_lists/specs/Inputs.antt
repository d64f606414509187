-- What is known of the list of a router on the input.
use Rattle.std.specs.Prelude.{◌≡◌, ℕ, ◌<◌, ◌≤◌, List, [], Some, IfSome, length}
use Rattle.inet_num.specs.Net.{Cidr}
use Rattle.prefix_list.specs.Reading.{IsList, IsRefused}
use Rattle.command_words.specs.declared.asked.ListAsked.{ListAsked}
use Rattle.command_streams.specs.Streams.{Told, Failed}
use Rattle.command_lists.specs.declared.reading.InputStop.{InputStop}
use Rattle.command_lists.specs.declared.reading.InputStop.TheVariants.{Unread, TooLong, Line, Memory}
use Rattle.command_lists.specs.Texts.{style_named}

-- how many bytes a list may have
abbrev pub most_bytes : ℕ
most_bytes = 4194304

-- the bytes are a list of these blocks, in the style, under the name and of the family that are asked for
abbrev pub IsListAsked : ListAsked → List ℕ → List Cidr → Type 0
IsListAsked asked bytes blocks = IsList (style_named asked.style) asked.name asked.family bytes blocks

-- the first line of the bytes that is not of the style has this number
abbrev pub IsRefusedLine : ListAsked → List ℕ → ℕ → Type 0
IsRefusedLine asked bytes n = IsRefused (style_named asked.style) asked.name asked.family bytes n

-- the input, if its bytes are known, is a list of these blocks, and it was read to its end
abbrev pub GivesList : ListAsked → Told → Told → List Cidr → Type 0
GivesList asked old new blocks =
    IfSome old.bytes (λ bytes. (length bytes ≤ most_bytes) × IsListAsked asked bytes blocks × (new.bytes ≡ Some []))

-- the input, if its bytes are known, has more of them than a list may have
abbrev pub IsTooLong : Told → Type 0
IsTooLong old = IfSome old.bytes (λ bytes. most_bytes < length bytes)

-- the input, if its bytes are known, is not too long, and the first line that is not of the style has this number
abbrev pub RefusesLine : ListAsked → Told → ℕ → Type 0
RefusesLine asked old n = IfSome old.bytes (λ bytes. (length bytes ≤ most_bytes) × IsRefusedLine asked bytes n)

-- why the input gave no list
abbrev pub IsInputStop : ListAsked → Told → Told → InputStop → Type 0
IsInputStop asked old new Unread = Failed old new
IsInputStop asked old new TooLong = IsTooLong old
IsInputStop asked old new (Line n) = RefusesLine asked old n
IsInputStop asked old new Memory = Unit {0}
