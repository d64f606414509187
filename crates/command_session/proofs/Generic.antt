-- A run of the command of any machine, by a register over the store of the words, is one of the register's own record.
use Rattle.std.proofs.Common.{◌≡◌, ◌⊎◌, ◌+◌, ℕ, List, [], inl, inr, Option, IsSome, is_some, zero, suc, refl, sym, ap, ◌∙◌, subst, arith}
use Rattle.command_words.specs.declared.asked.Store.{Store}
use Rattle.command_store.specs.Outside.{Outside}
use Rattle.command_store.proofs.Refused.{quiet_refused}
use Rattle.command_streams.specs.Streams.{Told}
use Rattle.history_lock.specs.Machines.{Reaches}
use Rattle.http_session.specs.Ends.{IsEnd}
use Rattle.http_session.specs.declared.session.SessionEnd.{SessionEnd}
use Rattle.http_session.specs.declared.session.SessionEnd.TheVariants.{Memory}
use Rattle.ipam_data.specs.declared.calls.Call.{Call}
use Rattle.ipam_data.specs.State.{State}
use Rattle.ipam_keeper.specs.Keeping.{Rose}
use Rattle.machine_command.specs.Session as generic
use Rattle.machine_session.specs.Owned.{Counted, counted, owned}
use Rattle.machine_session.proofs.Certainly.{own_is_certain}
use Rattle.register_store.specs.Meaning.{register_opener}
use Rattle.register_store.proofs.Plainly.{holds_here}
use Rattle.rest_ipam.specs.Answered.{answers_kept, fresh}
use Rattle.rest_ipam.specs.Protocol.{register_protocol, seen_protocol}
use Rattle.stored_tables.specs.declared.tables.Tables.{Tables}
use Rattle.command_session.specs.Session.{HasFailedCall, IsSession, Serves}
use Rattle.command_session.proofs.Beside.{counted_part, end_opening, end_plainly}
use Rattle.command_session.proofs.Refused.{of_refused}
use Rattle.command_session.proofs.Sessions.{of_ended}

-- where the count did not rise no answer told a fault
none_told : (old new told : ℕ) → Reaches (old + told) new → (¬ Rose old new) → told ≡ 0
none_told old new zero few well = refl
none_told old new (suc told) (inl few) well = absurd (well (inl (omega arith)))
none_told old new (suc told) (inr most) well = absurd (well (inr most))

module _ (store : Store) (old new : Outside) where
  pub serves_here : (how : SessionEnd) → generic.Serves seen_protocol register_opener store old new how → Serves store old new how
  serves_here how s =
      let start = s.first.opening.state in
      let last = counted_part (counted s.last s.told) in
      let begun : counted_part (counted s.first 0) ≡ fresh start = λ i. counted (owned start (s.fresh.0 i) (s.fresh.1 i)) 0 in
      let ends : IsEnd answers_kept (fresh start) last old.streams.output.bytes new.streams.output.bytes s.bytes new.streams.input.bytes how =
      subst (λ (v : Counted State Call). IsEnd answers_kept v last old.streams.output.bytes new.streams.output.bytes s.bytes new.streams.input.bytes how) begun
      (end_plainly (counted s.first 0) (counted s.last s.told) old.streams.output.bytes new.streams.output.bytes s.bytes new.streams.input.bytes how s.ends) in
      record {
        state = start;
        loaded = s.loaded.opened;
        bytes = s.bytes;
        last = last;
        grown = s.grown;
        ends = ends;
        bounded = s.bounded;
        plain = λ well. own_is_certain register_protocol (fresh start) last old.streams.output.bytes new.streams.output.bytes s.bytes new.streams.input.bytes how ends
            (none_told old.stores.faults new.stores.faults s.told s.bounded well);
        needed = s.needed;
        calm = s.still;
        holds = holds_here store old new s.first.opening s.last.opening s.last.log
            (end_opening (counted s.first 0) (counted s.last s.told) old.streams.output.bytes new.streams.output.bytes s.bytes new.streams.input.bytes how s.ends) s.loaded.tells s.holds;
        silent = s.silent;
      }

  pub of_generic : (status : ℕ) → generic.IsSession seen_protocol register_opener store old new status → IsSession store old new status
  of_generic status r = elim r.run [
    | inl x ↦ of_ended store old new x.0 status x.3 (serves_here x.0 x.1) x.2.source x.2.sink r.later x.2.source_kept x.2.sink_kept
    | inr x ↦ of_refused store old new status x.fault x.refused.cause x.refused.failed x.said
        (record { input = x.input; output = x.output; stored = x.refused.same }) r.later
        (λ five. quiet_refused old new x.fault status x.refused.still x.said (ap (λ (t : Told). t.faults) x.input) (ap (λ (t : Told). t.faults) x.output) five)
  ]
