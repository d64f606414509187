-- The parts of an answer, joined.
use Rattle.std.proofs.Common.{◌≡◌, ℕ, Bool, true, List, ◌++◌, length, Option, codes, decimal, subst, append_assoc}
use Rattle.http_session.specs.declared.answer.PutEnd.{PutEnd}
use Rattle.http.specs.StatusCode.{code_digits}
use Rattle.http_session.specs.Answers.{IsPutEnd, NamedNumber, answer_text, body_fields, field_line, head_text, is_there, line_where, phrase_of, sent_body}

lines_joined : (v s i p e b a n c body : List ℕ) → ((((((((v ++ s) ++ (i ++ p ++ e)) ++ b) ++ a) ++ n) ++ c) ++ e) ++ body) ≡ v ++ s ++ i ++ p ++ e ++ b ++ a ++ n ++ c ++ e ++ body
lines_joined v s i p e b a n c body = simp append_assoc

-- two lines, with the end of the first and the name of the second as one piece
two_lines : (before t m e l n : List ℕ) → (((((before ++ t) ++ m) ++ (e ++ l)) ++ n) ++ e) ≡ before ++ ((t ++ m ++ e) ++ (l ++ n ++ e))
two_lines before t m e l n = simp append_assoc

pub body_lines : (before media size : List ℕ) (there : Bool) → there ≡ true
    → (((((before ++ codes "Content-Type: ") ++ media) ++ codes "\r\nContent-Length: ") ++ size) ++ codes "\r\n") ≡ before ++ body_fields there media size
body_lines before media size there e = rw e (two_lines before (codes "Content-Type: ") media (codes "\r\n") (codes "Content-Length: ") size)

-- the pieces as they are written, and the answer
pub text_is : (status : ℕ) (allow : List ℕ) (field : Option NamedNumber) (media : List ℕ) (close bare : Bool) (body sent s p l said : List ℕ) (has_body has_allow : Bool)
    → s ≡ code_digits status → p ≡ phrase_of status → l ≡ decimal (length said)
    → has_body ≡ is_there said → has_allow ≡ is_there allow → sent ≡ sent_body bare said → said ≡ body
    → ((((((((codes "HTTP/1.1 " ++ s) ++ line_where true (codes " ") p) ++ body_fields has_body media l)
    ++ line_where has_allow (codes "Allow: ") allow) ++ field_line field) ++ line_where close (codes "Connection: ") (codes "close")) ++ codes "\r\n") ++ sent)
    ≡ answer_text status allow field media close bare body
unfolding head_text
text_is status allow field media close bare body sent s p l said has_body has_allow hs hp hl hb ha ht same =
    rw (hs, hp, hl, hb, ha, ht, same) (lines_joined (codes "HTTP/1.1 ") (code_digits status) (codes " ") (phrase_of status) (codes "\r\n") _ _ _ _ (sent_body bare body))

pub put_text : (old new : Option (List ℕ)) (end : PutEnd) (text other : List ℕ) → text ≡ other → IsPutEnd old new end text → IsPutEnd old new end other
put_text old new end text other e h = subst (IsPutEnd old new end) e h
