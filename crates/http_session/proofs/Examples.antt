-- Small examples of the definitions.
use Rattle.std.proofs.Common.{◌≡◌, ◌++◌, ℕ, Bool, List, Option, [], ◌∷◌, true, false, Ok, Err, None, codes, refl, sym, ap, append-nil}
use Rattle.httparse.specs.Grammar.{trim_ows}
use Rattle.http_session.specs.declared.request.Fault.TheVariants.{BadHead, LargeBody, Coding}
use Rattle.http_session.specs.Fields.{names_close, is_close, length_from, is_length_text, length_by, values_of, is_named, close_by}
use Rattle.http_session.specs.Answers.{NamedNumber, answer_text, head_text, phrase_of}
use Rattle.http_session.specs.Talk.{is_head}

close_among_tokens : names_close (codes "keep-alive, CLOSE") ≡ true
unfolding names_close is_close trim_ows
close_among_tokens = refl

no_part_of_a_word : names_close (codes "closed, clos e") ≡ false
unfolding names_close is_close trim_ows
no_part_of_a_word = refl

leading_zeros : length_from (codes "0000005") ≡ Ok 5
unfolding length_from is_length_text
leading_zeros = refl

no_sign : length_from (codes "+5") ≡ Err BadHead
unfolding length_from is_length_text
no_sign = refl

no_text : length_from [] ≡ Err BadHead
unfolding length_from is_length_text
no_text = refl

one_too_many : length_from (codes "4194305") ≡ Err LargeBody
unfolding length_from is_length_text
one_too_many = refl

coding_first : length_by ((codes "Content-Length", codes "x") ∷ (codes "transfer-ENCODING", []) ∷ []) ≡ Err Coding
unfolding length_by is_named
coding_first = refl

two_lengths : length_by ((codes "Content-Length", codes "0") ∷ (codes "content-length", codes "0") ∷ []) ≡ Err BadHead
unfolding length_by is_named values_of
two_lengths = refl

no_length : length_by [] ≡ Ok 0
unfolding length_by values_of
no_length = refl

closes_at_version_1_0 : close_by 0 [] ≡ true
unfolding close_by
closes_at_version_1_0 = refl

with_methods : answer_text 405 (codes "GET, POST") None (codes "text/plain") true false [] ≡ codes "HTTP/1.1 405 Method Not Allowed\r\nAllow: GET, POST\r\nConnection: close\r\n\r\n"
unfolding head_text phrase_of
with_methods = refl

no_body : answer_text 204 [] None (codes "text/plain") false false [] ≡ codes "HTTP/1.1 204 No Content\r\n\r\n"
unfolding head_text phrase_of
no_body = refl

-- an answer is the bare one, and then its body
head_alone : (status : ℕ) (allow : List ℕ) (field : Option NamedNumber) (media : List ℕ) (close : Bool) (body : List ℕ) → answer_text status allow field media close false body ≡ answer_text status allow field media close true body ++ body
head_alone status allow field media close body = ap (λ l. l ++ body) (sym (append-nil (head_text status allow field media close body)))

head_in_capitals : is_head (codes "HEAD") ≡ true
head_in_capitals = refl

no_head_in_small_letters : is_head (codes "head") ≡ false
no_head_in_small_letters = refl
