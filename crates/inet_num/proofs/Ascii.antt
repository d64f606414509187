-- The text of an address in groups is ASCII, so it is text.
use Rattle.std.proofs.Common.{ℕ, zero, suc, ◌^◌, ◌<◌, get_or, [], ◌∷◌, ◌++◌, decimal, All, IsUtf8, arith, inl, inr}
use Rattle.std.specs.Int.{w128, to_be_bytes}
use Rattle.std.specs.Net.Addr.{segments_of}
use Rattle.std.proofs.NetLemmas.Alphabet.{IsHexOrColon, All-hex_groups_text}
use Rattle.std.proofs.lemmas.Fmt.{IsAscii-decimal}
use Rattle.std.proofs.lemmas.List.Elements.{All-weaker}
use Rattle.std.proofs.lemmas.Str.{IsAscii-append, IsUtf8-from_ascii}
use Rattle.std.proofs.lemmas.Str.Ascii.{IsAscii-cons, IsAscii-from_all}
use Rattle.inet_num.specs.declared.Family.TheVariants.{V6}
use Rattle.inet_num.specs.Text.{canonical_text_of}

-- eight groups are below 65536, and past them there is 0
eight_small : (a b c d e f g h : ℕ) → a < 65536 → b < 65536 → c < 65536 → d < 65536 → e < 65536 → f < 65536 → g < 65536 → h < 65536 → (k : ℕ) → get_or (a ∷ b ∷ c ∷ d ∷ e ∷ f ∷ g ∷ h ∷ []) k 0 < 2 ^ 16
eight_small a b c d e f g h p q r s t u v w zero = p
eight_small a b c d e f g h p q r s t u v w (suc zero) = q
eight_small a b c d e f g h p q r s t u v w (suc (suc zero)) = r
eight_small a b c d e f g h p q r s t u v w (suc (suc (suc zero))) = s
eight_small a b c d e f g h p q r s t u v w (suc (suc (suc (suc zero)))) = t
eight_small a b c d e f g h p q r s t u v w (suc (suc (suc (suc (suc zero))))) = u
eight_small a b c d e f g h p q r s t u v w (suc (suc (suc (suc (suc (suc zero)))))) = v
eight_small a b c d e f g h p q r s t u v w (suc (suc (suc (suc (suc (suc (suc zero))))))) = w
eight_small a b c d e f g h p q r s t u v w (suc (suc (suc (suc (suc (suc (suc (suc k)))))))) = omega arith

colon_ascii : (c : ℕ) → IsHexOrColon c → c < 128
colon_ascii c (inl h) = omega arith
colon_ascii c (inr h) = omega arith

-- the text of an IPv6 address with the length of its mask is UTF-8
pub groups_are_text : (n len : ℕ) → n < 2 ^ 128 → len < 256 → IsUtf8 (canonical_text_of V6 n ++ 47 ∷ decimal len)
groups_are_text n len h l =
    let all : All IsHexOrColon (canonical_text_of V6 n) = All-hex_groups_text (segments_of (to_be_bytes w128 n)) (eight_small _ _ _ _ _ _ _ _ (omega arith) (omega arith) (omega arith) (omega arith) (omega arith) (omega arith) (omega arith) (omega arith)) in
    let small : len < 2 ^ 64 = omega arith in
    IsUtf8-from_ascii _ (IsAscii-append (canonical_text_of V6 n) (47 ∷ decimal len) (IsAscii-from_all _ (All-weaker IsHexOrColon (λ c. c < 128) colon_ascii _ all)) (IsAscii-cons 47 (decimal len) (omega arith) (IsAscii-decimal len small)))
