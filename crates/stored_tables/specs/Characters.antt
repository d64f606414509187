-- What a text is made of.
use Rattle.std.specs.Prelude.{List, ℕ, [], codes, string_bytes}
use Rattle.stored_tables.specs.declared.word.Word.{Word}
use Rattle.stored_tables.specs.declared.tables.Characters.{Characters}

-- the characters of a word
abbrev pub word_text : Word → List ℕ
word_text Word.Empty = []
word_text Word.True = codes "true"
word_text Word.False = codes "false"
word_text Word.Container = codes "container"
word_text Word.Active = codes "active"
word_text Word.Reserved = codes "reserved"
word_text Word.Deprecated = codes "deprecated"
word_text Word.Dhcp = codes "dhcp"
word_text Word.Slaac = codes "slaac"
word_text Word.Loopback = codes "loopback"
word_text Word.Secondary = codes "secondary"
word_text Word.Anycast = codes "anycast"
word_text Word.Vip = codes "vip"
word_text Word.Vrrp = codes "vrrp"
word_text Word.Hsrp = codes "hsrp"
word_text Word.Glbp = codes "glbp"
word_text Word.Carp = codes "carp"

-- and the bytes of a text
abbrev pub text_bytes : Characters → List ℕ
text_bytes (Characters.Fixed word) = word_text word
text_bytes (Characters.Owned string) = string_bytes string
