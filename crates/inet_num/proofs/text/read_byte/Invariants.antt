use Rattle.std.proofs.Common.{◌≡◌, take}
use Rattle.std.specs.Str.Parse.{AllDigits, digits_value}
use Rattle.inet_num.proofs.text.read_byte.Given as goal

abbrev pub invariant-digits : goal.invariant-digits
invariant-digits l = record {
  all : AllDigits 10 (take l.byte-index l.text);
  value : l.value ≡ digits_value 10 (take l.byte-index l.text);
}
