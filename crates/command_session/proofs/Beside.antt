-- What a session of the register answered, as the lock sees it, is what the plain register answered.
use Rattle.std.proofs.Common.{◌≡◌, ℕ, List, Option, Result, Ok, Err, refl, sym, ap, ◌∙◌, subst}
use Rattle.history_lock.specs.Replies.{ReplyKind, AnswersAs}
use Rattle.history_lock.specs.Replay.{replay}
use Rattle.http_session.specs.Requests.{Framed}
use Rattle.http_session.specs.Talk.{Answer}
use Rattle.http_session.specs.Ends.{IsEnd}
use Rattle.http_session.specs.declared.session.SessionEnd.{SessionEnd}
use Rattle.ipam_data.specs.declared.calls.Call.{Call}
use Rattle.ipam_data.specs.declared.replies.Refusal.{Refusal}
use Rattle.ipam_data.specs.declared.replies.Reply.{Reply}
use Rattle.ipam_data.specs.Replays.{is_accepted}
use Rattle.ipam_data.specs.State.{State}
use Rattle.ipam_data.specs.Steps.{plain_step}
use Rattle.ipam_json.specs.declared.replies.Links.{Links}
use Rattle.machine_session.specs.Owned.{Counted, IsCountedAnswer, IsOwnCall, Owned, answers_counted, counted, owned_part}
use Rattle.machine_session.proofs.Carried.{IsCarried, end_ahead, end_carried}
use Rattle.machine_session.proofs.Plainly.{grown_replay}
use Rattle.register_core.specs.Machines.{Seen, seen_step}
use Rattle.register_core.proofs.MachineFits.{answer_plainly}
use Rattle.rest_ipam.specs.Protocol.{register_protocol, seen_protocol}

-- the plain register's part of what is seen
abbrev pub part : Owned Seen Call → Owned State Call
part v = owned_part (λ (s : Seen). s.state) v

abbrev pub counted_part : Counted Seen Call → Counted State Call
counted_part s = counted (part s.now) s.told

part_called : (v w : Owned Seen Call) (call : Call) (answer : Reply) (kind : ReplyKind)
    → IsOwnCall seen_step is_accepted v w call answer kind → IsOwnCall plain_step is_accepted (part v) (part w) call answer kind
part_called v w call answer kind k =
    record {
      opening = ap (λ (s : Seen). s.state) k.opening;
      replied = record {
        right = subst (AnswersAs is_accepted kind answer) (sym (answer_plainly v.opening v.log call)) k.replied.right;
        state = ap (λ (t : Seen). replay plain_step t.state w.log) k.opening
            ∙ (ap (replay plain_step v.opening.state) k.replied.log ∙ grown_replay plain_step kind v.opening.state v.log 0 call);
        log = k.replied.log;
      };
      later = k.later;
      counted = k.counted;
      still = k.still;
    }

answer_part : (s : Counted Seen Call) (request : Framed) (asked : Result (Call × Links) Refusal) (a : Answer) (w : Counted Seen Call)
    → IsCountedAnswer seen_protocol s request asked a w → IsCountedAnswer register_protocol (counted_part s) request asked a (counted_part w)
answer_part s request (Ok asked) a w k = (k.0, part_called s.now w.now asked.0 k.0 (register_protocol.kind k.0) k.1, k.2, k.3)
answer_part s request (Err why) a w k = (k.0, ap counted_part k.1)

answer_ahead : (first : Seen) (s : Counted Seen Call) (request : Framed) (asked : Result (Call × Links) Refusal) (a : Answer) (w : Counted Seen Call)
    → IsCountedAnswer seen_protocol s request asked a w → s.now.opening ≡ first → w.now.opening ≡ first
answer_ahead first s request (Ok asked) a w k x = k.1.opening ∙ x
answer_ahead first s request (Err why) a w k x = ap (λ (t : Counted Seen Call). t.now.opening) k.1 ∙ x

carried : (first : Seen) → IsCarried (answers_counted seen_protocol) (answers_counted register_protocol) counted_part (λ s. s.now.opening ≡ first) (λ s. Unit {0})
carried first =
    record {
      ahead = λ s r a w k x. answer_ahead first s r k.0 a w k.2 x;
      behind = λ s r a w k y. y;
      carry = λ s r a w k x y. (k.0, k.1, answer_part s r k.0 a w k.2);
      refuse = λ why a k. k;
    }

module _ (s t : Counted Seen Call) (old new : Option (List ℕ)) (bytes : List ℕ) (left : Option (List ℕ)) (how : SessionEnd) (e : IsEnd (answers_counted seen_protocol) s t old new bytes left how) where
  pub end_plainly : IsEnd (answers_counted register_protocol) (counted_part s) (counted_part t) old new bytes left how
  end_plainly =
      end_carried (answers_counted seen_protocol) (answers_counted register_protocol) counted_part (λ x. x.now.opening ≡ s.now.opening) (λ x. Unit {0}) (carried s.now.opening)
      s t old new bytes left how e refl tt

  -- the state before the first accepted change stays
  pub end_opening : t.now.opening ≡ s.now.opening
  end_opening =
      end_ahead (answers_counted seen_protocol) (answers_counted register_protocol) counted_part (λ x. x.now.opening ≡ s.now.opening) (λ x. Unit {0}) (carried s.now.opening)
      s t old new bytes left how e refl
