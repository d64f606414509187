-- Answers beside something that stays as it is.
use Rattle.std.proofs.Common.{◌≡◌, ℕ, List, Option, Result, Ok, Err, IfOk, OnErr, refl, ◌∙◌, inl, inr}
use Rattle.ipam_edge.specs.Reading.{Step}
use Rattle.http_session.specs.declared.reply.Reply.{Reply as Written}
use Rattle.http_session.specs.Replies.{answer_of}
use Rattle.http_session.specs.Requests.{Framed}
use Rattle.http_session.specs.Talk.{May}
use Rattle.http_session.specs.Ends.{IsLeft, IsSession}
use Rattle.http_session.specs.declared.session.SessionEnd.{SessionEnd}
use Rattle.machine_session.specs.Owned.{tagged}
use Rattle.machine_session.proofs.Carried.{IsCarried, end_ahead, end_carried}

module _ {S T F : Type 0} (may : May S) where
  pub told_tagged : (s t : S) (x y : T) (request : Framed) (result : Result Written F) → y ≡ x
      → IfOk result (λ r. may.answers s request (answer_of r) t) → IfOk result (λ r. (tagged may).answers (s, x) request (answer_of r) (t, y))
  told_tagged s t x y request (Ok a) same is = (is, same)
  told_tagged s t x y request (Err e) same is = tt

  pub lost_tagged : (s t : S) (x y : T) (request : Framed) (result : Result Written F) → y ≡ x
      → OnErr result (IsLeft may s request t) → OnErr result (IsLeft (tagged may) (s, x) request (t, y))
  lost_tagged s t x y request (Ok a) same is = tt
  lost_tagged s t x y request (Err e) same is = elim is [ inl stays ↦ inl (λ i. (stays i, same i)) | inr answered ↦ inr (answered.0, (answered.1, same)) ]

module _ {S T : Type 0} (may : May S) where
  first : IsCarried (tagged {T = T} may) may (λ (p : S × T). p.0) (λ p. Unit {0}) (λ p. Unit {0})
  first =
      record {
        ahead = λ s r a t k x. x;
        behind = λ s r a t k y. y;
        carry = λ s r a t k x y. k.0;
        refuse = λ why a k. k;
      }

  stays : (x : T) → IsCarried (tagged may) (tagged may) (λ (p : S × T). p) (λ (p : S × T). p.1 ≡ x) (λ p. Unit {0})
  stays x =
      record {
        ahead = λ s r a t k is. k.1 ∙ is;
        behind = λ s r a t k y. y;
        carry = λ s r a t k y z. k;
        refuse = λ why a k. k;
      }

  -- a session beside something that stays as it is, is one without it ..
  pub untagged : {Z : Type 0} (step : Step Z) (v w : S × T) (from to : Z) (left_old left_new old new : Option (List ℕ)) (how : SessionEnd)
      → IsSession (tagged may) step v w from to left_old left_new old new how → IsSession may step v.0 w.0 from to left_old left_new old new how
  untagged step v w from to left_old left_new old new how s =
      record {
        bytes = s.bytes;
        grown = s.grown;
        ends = end_carried (tagged may) may (λ (p : S × T). p.0) (λ p. Unit {0}) (λ p. Unit {0}) first v w old new s.bytes left_new how s.ends tt tt;
        needed = s.needed;
        last = s.last;
        last_is = s.last_is;
        reads = s.reads;
      }

  -- .. and that is the same at its end
  pub tag_stays : {Z : Type 0} (step : Step Z) (v w : S × T) (from to : Z) (left_old left_new old new : Option (List ℕ)) (how : SessionEnd)
      → IsSession (tagged may) step v w from to left_old left_new old new how → w.1 ≡ v.1
  tag_stays step v w from to left_old left_new old new how s =
      end_ahead (tagged may) (tagged may) (λ (p : S × T). p) (λ (p : S × T). p.1 ≡ v.1) (λ p. Unit {0}) (stays v.1) v w old new s.bytes left_new how s.ends refl
