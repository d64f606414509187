-- What is answered to the items of a connection, one after another, and the text of it.
use Rattle.std.specs.Prelude.{◌≡◌, ℕ, Bool, false, List, [], ◌∷◌, ◌++◌, Option, codes}
use Rattle.std.specs.Str.{bytes_eq}
use Rattle.http_session.specs.declared.request.Fault.{Fault}
use Rattle.http_session.specs.Requests.{Framed, Item, Asks, Refuses, closes}
use Rattle.http_session.specs.Answers.{NamedNumber, answer_text}

-- what an answer says, before its frame
pub record Answer : Type 0 where
  pub status : ℕ
  pub allow : List ℕ
  pub field : Option NamedNumber
  pub media : List ℕ
  pub body : List ℕ

-- the method HEAD, in this case alone (RFC 9110, section 9.1)
abbrev pub is_head : List ℕ → Bool
is_head method = bytes_eq method (codes "HEAD")

-- a HEAD request is answered with the head of the answer, its length too, and no byte of the body after it (RFC 9110, section 9.3.2;
-- RFC 9112, section 6.3); a refusal has its body, whatever was asked, since no answer follows it
abbrev pub is_bare : Item → Bool
is_bare (Asks r) = is_head r.method
is_bare (Refuses fault) = false

-- the bytes of an answer that closes the connection or not, and is bare or not
abbrev pub framed_text : Answer → Bool → Bool → List ℕ
framed_text a close bare = answer_text a.status a.allow a.field a.media close bare a.body

-- the bytes of the answer to an item
abbrev pub text_of : Answer → Item → List ℕ
text_of a item = framed_text a (closes item) (is_bare item)

-- what a desk may answer: a request, from one state to the next, and bytes that are refused in the place of a request
pub record May (S : Type 0) : Type 1 where
  pub answers : S → Framed → Answer → S → Type 0
  pub refuses : Fault → Answer → Type 0

-- an item may be answered so; a refusal changes no state
abbrev pub Answered : {S : Type 0} → May S → S → Item → Answer → S → Type 0
Answered may s (Asks r) a t = may.answers s r a t
Answered may s (Refuses fault) a t = may.refuses fault a × (t ≡ s)

-- the items are answered one after another
abbrev pub Run : {S : Type 0} → May S → S → List Item → List Answer → S → Type 0
Run may s [] [] t = t ≡ s
Run {S} may s (item ∷ items) (a ∷ answers) t = (mid : S) × Answered may s item a mid × Run may mid items answers t
Run may s [] (a ∷ answers) t = ⊥
Run may s (item ∷ items) [] t = ⊥

-- the texts of the answers, one after another
abbrev pub texts : List Item → List Answer → List ℕ
texts [] answers = []
texts (item ∷ items) [] = []
texts (item ∷ items) (a ∷ answers) = text_of a item ++ texts items answers
