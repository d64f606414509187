-- What a command leaves for which memory ran out before it began.
use Rattle.std.proofs.Common.{◌≡◌, ◌≤◌, ◌+◌, ℕ, List, Option, length, inl, inr, refl, sym, ◌∙◌, ap, subst, arith}
use Rattle.command_streams.specs.Streams.{NeverRises, Streams, Told}
use Rattle.machine_command.specs.Outside.{NoCountFalls, Stores}
use Rattle.machine_command.specs.Session.{IsRefused, IsSession}
use Rattle.machine_serving.specs.Serve.{IsServe, Serving}
use Rattle.machine_serving.specs.Views.{ListenerView}
use Rattle.pool_keeper.specs.declared.tables.PoolTables.{PoolTables}
use Rattle.pool_opening.specs.declared.faults.PoolFault.TheVariants.{Memory}
use Rattle.pool_service.specs.Protocol.{pool_protocol}
use Rattle.pool_store.specs.Meaning.{pool_opener}
use Rattle.pool_store.proofs.Refused.{unchanged, unopened_so}
use Rattle.pool_texts.specs.Print.{IsPrint}
use Rattle.pool_words.specs.declared.asked.Listing.{Listing}
use Rattle.pool_words.specs.declared.asked.Command.{Command}
use Rattle.pool_words.specs.declared.asked.Command.TheVariants.{Session, Serve, Print, About}
use Rattle.program_entry.proofs.Printed.{printed_not_begun}
use Rattle.pool_command.specs.About.{topic_text}
use Rattle.pool_command.specs.Runs.{Answers, PoolOutside}

-- streams that are as they were
pub none_rose : (old new : PoolOutside) → new ≡ old → NeverRises old.streams new.streams
none_rose old new same = record {
  input = ap (λ (o : PoolOutside). o.streams.input.faults) same;
  output = ap (λ (o : PoolOutside). o.streams.output.faults) same;
  errors = ap (λ (o : PoolOutside). o.streams.errors.faults) same;
}

pub none_fell : (old new : PoolOutside) → new ≡ old → NoCountFalls old new
none_fell old new same = subst (λ (o : PoolOutside). NoCountFalls old o) (sym same) (record { streams = record { input = omega arith; output = omega arith; errors = omega arith }; stores = omega arith })

refused_nothing : (path : Option (List ℕ)) (old new : PoolOutside) (status : ℕ) → status ≡ 5 → new ≡ old → IsRefused pool_opener path old new status
refused_nothing path old new status five same = record {
  fault = Memory;
  refused = record {
    cause = unopened_so _ Memory (inr refl);
    failed = λ wrong. absurd (cc wrong);
    same = unchanged old.stores.stored new.stores.stored (ap (λ (o : PoolOutside). o.stores.stored) same);
  };
  said = (five, ap (λ (o : PoolOutside). o.streams.errors) same);
  input = ap (λ (o : PoolOutside). o.streams.input) same;
  output = ap (λ (o : PoolOutside). o.streams.output) same;
}

pub no_session : (path : Option (List ℕ)) (old new : PoolOutside) (status : ℕ) → status ≡ 5 → new ≡ old → IsSession pool_protocol pool_opener path old new status
no_session path old new status five same = record {
  run = inr (refused_nothing path old new status five same);
  later = none_fell old new same;
  quiet = λ z. (none_rose old new same, inl (ap (λ (o : PoolOutside). o.stores.faults) same));
}

pub no_print : (listing : Listing) (path : Option (List ℕ)) (old new : PoolOutside) (status : ℕ) → status ≡ 5 → new ≡ old → IsPrint listing path old new status
no_print listing path old new status five same = record {
  run = inr (refused_nothing path old new status five same);
  later = none_fell old new same;
  quiet = λ z. (none_rose old new same, ap (λ (o : PoolOutside). o.stores.faults) same);
}

pub no_serve : (path : Option (List ℕ)) (s : Serving) (old new : PoolOutside) (before after : ListenerView) (status : ℕ) → status ≡ 5 → new ≡ old → after ≡ before
    → IsServe pool_protocol pool_opener path s old new before after status
no_serve path s old new before after status five same idle =
    let lanes = ap (λ (v : ListenerView). v.lanes) idle in
    let back = ap (λ (v : ListenerView). v.returned) idle in
    record {
      run = inr (inl (refused_nothing path old new status five same, idle));
      unread = ap (λ (o : PoolOutside). o.streams.input) same;
      lanes_back = ap (λ (v : ListenerView). length v.returned + before.lanes) idle ∙ ap (λ (n : ℕ). length before.returned + n) (sym lanes);
      bound = λ came. absurd (omega arith);
      later = none_fell old new same;
      listener_later = (let e = ap (λ (v : ListenerView). v.faults) idle in omega arith);
      quiet = λ z. (none_rose old new same, ap (λ (o : PoolOutside). o.stores.faults) same, idle);
    }

pub no_command : (command : Command) (old new : PoolOutside) (before after : ListenerView) (status : ℕ) → status ≡ 5 → new ≡ old → after ≡ before
    → Answers command old new before after status
no_command (Session db) old new before after status five same idle = (no_session db old new status five same, idle)
no_command (Serve s) old new before after status five same idle = no_serve s.db _ old new before after status five same idle
no_command (Print listing db) old new before after status five same idle = (no_print listing db old new status five same, idle)
no_command (About topic) old new before after status five same idle =
    (printed_not_begun (topic_text topic) old.streams new.streams status five (ap (λ (o : PoolOutside). o.streams) same), ap (λ (o : PoolOutside). o.stores) same, idle)
