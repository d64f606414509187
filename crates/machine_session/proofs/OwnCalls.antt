-- One call of a machine of one's own: what it leaves, and what it is to the request that asked for it.
use Rattle.std.proofs.Common.{◌≡◌, ◌≢◌, ◌+◌, ◌<◌, ◌≤◌, ◌⊎◌, ℕ, Bool, List, [], ◌∷◌, ◌++◌, length, length-append, IfOk, OnErr, Result, Ok, Err, refl, sym, ap, ◌∙◌, subst, inl, inr, arith}
use Rattle.history_lock.specs.Machines.{IsAct, Reaches, last_count, meaning}
use Rattle.history_lock.specs.Replies.{ReplyKind, accepted, fault, memory, plain, AnswersAs, failures_of, grown}
use Rattle.history_lock.specs.Replay.{replay}
use Rattle.http_session.specs.declared.reply.Reply.{Reply as Written}
use Rattle.http_session.specs.Replies.{answer_of}
use Rattle.http_session.specs.Requests.{Framed}
use Rattle.http_session.specs.Ends.{IsLeft}
use Rattle.machine_session.specs.Protocols.{Protocol}
use Rattle.machine_session.specs.Owned.{IsActed, IsBehind, IsOwnCall, Owned, answers_alone, owned}
use Rattle.machine_session.proofs.Plainly.{grown_replay}

reaches : (kind : ReplyKind) (a b : ℕ) → a ≤ b → (kind ≡ fault → (a < b) ⊎ (last_count ≤ b)) → Reaches (a + failures_of kind) b
reaches accepted a b le k = inl (omega arith)
reaches fault a b le k = elim (k refl) [ inl lt ↦ inl (omega arith) | inr most ↦ inr most ]
reaches memory a b le k = inl (omega arith)
reaches plain a b le k = inl (omega arith)

-- as many accepted changes as before are those before
stays : {C : Type 0} (kind : ReplyKind) (e : ℕ × C) (h g : List (ℕ × C)) → g ≡ grown kind e h → length g ≡ length h → g ≡ h
stays accepted e h g is same = let more = ap length is ∙ length-append h (e ∷ []) in absurd (omega arith)
stays fault e h g is same = is
stays memory e h g is same = is
stays plain e h g is same = is

-- and another number of them has one more
changes : {C : Type 0} (kind : ReplyKind) (e : ℕ × C) (h g : List (ℕ × C)) → g ≡ grown kind e h → length g ≢ length h → (kind ≡ accepted) × (g ≡ h ++ e ∷ [])
changes accepted e h g is other = (refl, is)
changes fault e h g is other = absurd (other (ap length is))
changes memory e h g is other = absurd (other (ap length is))
changes plain e h g is other = absurd (other (ap length is))

module _ {M S C A : Type 0} (opening state : M → S) (log : M → List (ℕ × C)) (faults : M → ℕ) (step : S → C → S × A) (fallible : A → Bool) where
  pub own_call : (m w : M) (call : C) (answer : A) (kind : ReplyKind) → state m ≡ replay step (opening m) (log m) → IsAct (meaning opening state log faults step) fallible m w 0 call answer kind
      → IsOwnCall step fallible (owned (opening m) (log m) (faults m)) (owned (opening w) (log w) (faults w)) call answer kind
  own_call m w call answer kind is a =
      record {
        opening = a.opening_stays;
        replied = record {
          right = subst (λ (s : S). AnswersAs fallible kind answer (step s call).1) is a.answer_is_right;
          state = ap (λ (o : S). replay step o (log w)) a.opening_stays ∙ (ap (replay step (opening m)) a.log_grows ∙ grown_replay step kind (opening m) (log m) 0 call);
          log = a.log_grows;
        };
        later = a.faults_never_fall;
        counted = reaches kind (faults m) (faults w) a.faults_never_fall a.fault_is_counted;
        still = a.faults_stay;
      }

  -- where no change was accepted, what is kept of the machine is kept of it still
  pub still_kept : (Keeps : S → List (ℕ × C) → Type 0) (m w : M) (call : C) (answer : A) (kind : ReplyKind) → IsAct (meaning opening state log faults step) fallible m w 0 call answer kind
      → length (log w) ≡ length (log m) → Keeps (opening m) (log m) → Keeps (opening w) (log w)
  still_kept Keeps m w call answer kind a same kept =
      let is : log w ≡ log m = stays kind (0, call) (log m) (log w) a.log_grows same in
      subst (λ (x : S × List (ℕ × C)). Keeps x.0 x.1) (λ i. (sym a.opening_stays i, sym is i)) kept

  -- where one was, it is kept of all but the last
  pub kept_behind : (Keeps : S → List (ℕ × C) → Type 0) (m w : M) (call : C) (answer : A) (kind : ReplyKind) → IsAct (meaning opening state log faults step) fallible m w 0 call answer kind
      → length (log w) ≢ length (log m) → Keeps (opening m) (log m) → IsBehind (Keeps (opening w)) (log w)
  kept_behind Keeps m w call answer kind a other kept =
      let is = changes kind (0, call) (log m) (log w) a.log_grows other in
      (log m, (0, call), is.1, subst (λ (o : S). Keeps o (log m)) (sym a.opening_stays) kept)

module _ {S C A R W E F : Type 0} (P : Protocol S C A R W E) where
  pub acted : (v w : Owned S C) (call : C) (shown : W) (reply : R) (place : ℕ) (result : Result Written F) → IsOwnCall P.step P.fallible v w call (P.answer reply) (P.kind reply) → place ≡ length v.log
      → IfOk result (λ a. answer_of a ≡ P.tells call reply shown place) → IsActed P v call shown result w
  acted v w call shown reply place (Ok a) k is told = (reply, k, told ∙ ap (P.tells call reply shown) is)
  acted v w call shown reply place (Err e) k is told = (reply, k, tt)

  pub told_alone : (v w : Owned S C) (request : Framed) (call : C) (shown : W) (result : Result Written F)
      → P.asks request (Ok (call, shown)) → IsActed P v call shown result w → IfOk result (λ r. (answers_alone P).answers v request (answer_of r) w)
  told_alone v w request call shown (Ok a) asks k = (Ok (call, shown), asks, (k.0, k.1, k.2))
  told_alone v w request call shown (Err e) asks k = tt

  pub lost_alone : (v w : Owned S C) (request : Framed) (call : C) (shown : W) (result : Result Written F)
      → P.asks request (Ok (call, shown)) → IsActed P v call shown result w → OnErr result (IsLeft (answers_alone P) v request w)
  lost_alone v w request call shown (Ok a) asks k = tt
  lost_alone v w request call shown (Err e) asks k = inr (P.tells call k.0 shown (length v.log), (Ok (call, shown), asks, (k.0, k.1, refl)))
