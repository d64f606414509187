-- A session of a machine of its own: how many answers tell a fault, and where none does, it is one of the plain machine.
use Rattle.std.proofs.Common.{◌≡◌, ◌≢◌, ◌⊎◌, ◌+◌, ◌≤◌, ℕ, List, [], Option, Result, Ok, Err, refl, sym, ap, ◌∙◌, subst, inl, inr, arith}
use Rattle.ipam_edge.specs.Reading.{Open, Step}
use Rattle.history_lock.specs.Machines.{Reaches}
use Rattle.history_lock.specs.Replies.{ReplyKind, fault, failures_of}
use Rattle.http_session.specs.Requests.{Framed}
use Rattle.http_session.specs.Talk.{Answer}
use Rattle.http_session.specs.Ends.{IsEnd, IsSession}
use Rattle.http_session.specs.declared.session.SessionEnd.{SessionEnd}
use Rattle.http_session.specs.declared.session.SessionEnd.TheVariants.{Memory}
use Rattle.machine_session.specs.Protocols.{Protocol}
use Rattle.machine_session.specs.Owned.{Counted, IsCertainAnswer, IsCountedAnswer, IsOwnAnswer, Owned, answers_alone, answers_certainly, answers_counted, counted, plain_of_owned}
use Rattle.machine_session.specs.Sessions.{IsOwnSession}
use Rattle.machine_session.proofs.Carried.{IsCarried, end_ahead, end_carried}
use Rattle.machine_session.proofs.Counting.{IsTakenOn, end_counted}
use Rattle.machine_session.proofs.Starved.{nothing_done, nothing_read}

-- a count that rises with each fault is bounded by how many were told
raised : (from told more a b : ℕ) → Reaches (from + told) a → Reaches (a + more) b → a ≤ b → Reaches (from + (told + more)) b
raised from told more a b before now later = elim before [
  | inl le ↦ elim now [ inl lt ↦ inl (omega arith) | inr most ↦ inr most ]
  | inr most ↦ inr (omega arith)
]

-- and stays where none was
stayed : (kind : ReplyKind) (from told a b : ℕ) → (told ≡ 0 → a ≡ from) → (kind ≡ fault) ⊎ (b ≡ a) → told + failures_of kind ≡ 0 → b ≡ from
stayed kind from told a b before now none = elim now [
  | inl is ↦ (let one : failures_of kind ≡ 1 = ap failures_of is in absurd (omega arith))
  | inr same ↦ (let none_yet : told ≡ 0 = omega arith in same ∙ before none_yet)
]

no_fault : (kind : ReplyKind) (told : ℕ) → told + failures_of kind ≡ 0 → kind ≢ fault
no_fault kind told none is = let one : failures_of kind ≡ 1 = ap failures_of is in absurd (omega arith)

-- what a machine that was v came to, with so many faults told
record HasComeTo {S C : Type 0} (v : Owned S C) (x : Counted S C) : Type 0 where
  opening : x.now.opening ≡ v.opening
  later : v.faults ≤ x.now.faults
  bounded : Reaches (v.faults + x.told) x.now.faults
  still : x.told ≡ 0 → x.now.faults ≡ v.faults

module _ {S C A R W E : Type 0} (P : Protocol S C A R W E) where
  count_answer : (v : Owned S C) (request : Framed) (asked : Result (C × W) E) (a : Answer) (w : Owned S C) (n : ℕ) → IsOwnAnswer P v request asked a w
      → (m : ℕ) × IsCountedAnswer P (counted v n) request asked a (counted w m)
  count_answer v request (Ok asked) a w n k = (n + failures_of (P.kind k.0), (k.0, k.1, k.2, refl))
  count_answer v request (Err why) a w n k = (n, (k.0, ap (λ (x : Owned S C). counted x n) k.1))

  counts : IsTakenOn (answers_alone P) (answers_counted P) counted
  counts =
      record {
        take = λ s r a t n k. let c = count_answer s r k.0 a t n k.2 in (c.0, (k.0, k.1, c.1));
        refuse = λ why a k. k;
      }

  answer_after : (v : Owned S C) (s : Counted S C) (request : Framed) (asked : Result (C × W) E) (a : Answer) (t : Counted S C) → IsCountedAnswer P s request asked a t → HasComeTo v s → HasComeTo v t
  answer_after v s request (Ok asked) a t k h =
      let call = k.1 in
      let low = h.later in
      let up = call.later in
      let kind = P.kind k.0 in
      record {
        opening = call.opening ∙ h.opening;
        later = omega arith;
        bounded = subst (λ (n : ℕ). Reaches (v.faults + n) t.now.faults) (sym k.3) (raised v.faults s.told (failures_of kind) s.now.faults t.now.faults h.bounded call.counted up);
        still = λ none. stayed kind v.faults s.told s.now.faults t.now.faults h.still call.still (sym k.3 ∙ none);
      }
  answer_after v s request (Err why) a t k h = subst (HasComeTo v) (sym k.1) h

  after : (v : Owned S C) → IsCarried (answers_counted P) (answers_counted P) (λ s. s) (HasComeTo v) (λ s. Unit {0})
  after v =
      record {
        ahead = λ s r a t k x. answer_after v s r k.0 a t k.2 x;
        behind = λ s r a t k y. y;
        carry = λ s r a t k x y. k;
        refuse = λ why a k. k;
      }

  begun : (v : Owned S C) → HasComeTo v (counted v 0)
  begun v = record { opening = refl; later = omega arith; bounded = inl (omega arith); still = λ none. refl }

  answer_behind : (s : Counted S C) (request : Framed) (asked : Result (C × W) E) (a : Answer) (t : Counted S C) → IsCountedAnswer P s request asked a t → t.told ≡ 0 → s.told ≡ 0
  answer_behind s request (Ok asked) a t k none = let is = k.3 in omega arith
  answer_behind s request (Err why) a t k none = ap (λ (x : Counted S C). x.told) (sym k.1) ∙ none

  certain_answer : (s : Counted S C) (request : Framed) (asked : Result (C × W) E) (a : Answer) (t : Counted S C) → IsCountedAnswer P s request asked a t → t.told ≡ 0
      → IsCertainAnswer P (plain_of_owned P.step s.now) request asked a (plain_of_owned P.step t.now)
  certain_answer s request (Ok asked) a t k none = (k.0, no_fault (P.kind k.0) s.told (sym k.3 ∙ none), k.1.replied, k.2)
  certain_answer s request (Err why) a t k none = (k.0, ap (λ (x : Counted S C). plain_of_owned P.step x.now) k.1)

  certain : IsCarried (answers_counted P) (answers_certainly P) (λ (s : Counted S C). plain_of_owned P.step s.now) (λ s. Unit {0}) (λ s. s.told ≡ 0)
  certain =
      record {
        ahead = λ s r a t k x. x;
        behind = λ s r a t k y. answer_behind s r k.0 a t k.2 y;
        carry = λ s r a t k x y. (k.0, k.1, certain_answer s r k.0 a t k.2 y);
        refuse = λ why a k. k;
      }

  -- where no answer tells a fault, they are those of a plain machine that does not fail
  pub own_is_certain : (v w : Counted S C) (old new : Option (List ℕ)) (bytes : List ℕ) (left : Option (List ℕ)) (how : SessionEnd)
      → IsEnd (answers_counted P) v w old new bytes left how → w.told ≡ 0 → IsEnd (answers_certainly P) (plain_of_owned P.step v.now) (plain_of_owned P.step w.now) old new bytes left how
  own_is_certain v w old new bytes left how e none =
      end_carried (answers_counted P) (answers_certainly P) (λ (s : Counted S C). plain_of_owned P.step s.now) (λ s. Unit {0}) (λ s. s.told ≡ 0) certain v w old new bytes left how e tt none

  pub own_session : {Z : Type 0} (step : Step Z) (v w : Owned S C) (from to : Z) (left_old left_new old new : Option (List ℕ)) (how : SessionEnd)
      → IsSession (answers_alone P) step v w from to left_old left_new old new how → IsOwnSession P step v w from to left_old left_new old new how
  own_session step v w from to left_old left_new old new how s =
      let e = end_counted (answers_alone P) (answers_counted P) counted counts v w 0 old new s.bytes left_new how s.ends in
      let h = end_ahead (answers_counted P) (answers_counted P) (λ x. x) (HasComeTo v) (λ x. Unit {0}) (after v) (counted v 0) (counted w e.0) old new s.bytes left_new how e.1 (begun v) in
      record {
        told = e.0;
        session = record {
          bytes = s.bytes;
          grown = s.grown;
          ends = e.1;
          needed = s.needed;
          last = s.last;
          last_is = s.last_is;
          reads = s.reads;
        };
        opening = h.opening;
        later = h.later;
        bounded = h.bounded;
        still = h.still;
        certain = λ none. own_is_certain (counted v 0) (counted w e.0) old new s.bytes left_new how e.1 none;
      }

  -- without memory nothing is done
  pub own_starved : {Z : Type 0} (step : Step Z) (v : Owned S C) (from : Z) (left written : Option (List ℕ)) → IsOwnSession P step v v from from left left written written Memory
  own_starved step v from left written = own_session step v v from from left left written written Memory record {
    bytes = [];
    grown = nothing_read left;
    ends = nothing_done (answers_alone P) v left written;
    needed = inl refl;
    last = Open;
    last_is = refl;
    reads = record { pieces = []; reads = refl; grown = refl };
  }

  -- nor with a machine that comes back as it was
  pub own_returned : {Z : Type 0} (step : Step Z) (v w : Owned S C) (from : Z) (left written : Option (List ℕ)) → w ≡ v → IsOwnSession P step v w from from left left written written Memory
  own_returned step v w from left written same = subst (λ (x : Owned S C). IsOwnSession P step v x from from left left written written Memory) (sym same) (own_starved step v from left written)
