-- What a run of `serve` leaves whose register was served, as the command's record has it.
use Rattle.std.proofs.Common.{◌≡◌, ℕ, ◌⊎◌, inl, inr, arith}
use Rattle.http_lanes.specs.Listened.{IsListening}
use Rattle.http_lanes.specs.declared.listening.Listening.{Listening}
use Rattle.http_lanes.specs.declared.listening.Listening.TheVariants.{Whole, Broken}
use Rattle.command_words.specs.declared.asked.Serving.{Serving}
use Rattle.command_streams.specs.Streams.{Gains, GainsFront, Failed, EndsWith}
use Rattle.command_store.specs.Outside.{Outside}
use Rattle.machine_serving.specs.Serve.{entries_line, listening_status}
use Rattle.machine_serving.specs.Views.{ListenerView, ListeningFailed, NoneFailed}
use Rattle.command_serve.specs.Serve.{AllCame, ServesStore, IsServe}
use Rattle.command_serve.proofs.Unserved.{Whatever}

-- the count of the changes is on the output
printed : (serving : Serving) (old new : Outside) (before after : ListenerView) (entries : ℕ) (listening : Listening) (status : ℕ)
    → Whatever serving old new before after status → ServesStore serving old new before after entries
    → IsListening (AllCame serving before after × NoneFailed before after) (ListeningFailed before after) listening
    → status ≡ listening_status listening → Gains old.streams.output new.streams.output (entries_line entries)
    → IsServe serving old new before after status
printed serving old new before after entries Whole status all serves came zero said = record {
  statuses = inl zero;
  done = λ z. record { all_came = came.0; none_failed = came.1; entries = entries; serves = serves; said = said };
  refused = λ z. absurd (omega arith);
  fault = λ z. absurd (omega arith);
  store_fault = λ z. absurd (omega arith);
  memory = λ z. absurd (omega arith);
  unread = all.unread;
  lanes_back = all.lanes_back;
  bound = λ came. serves.bound;
  later = all.later;
  listener_later = all.listener_later;
  quiet = all.quiet;
}
printed serving old new before after entries Broken status all serves failed three said = record {
  statuses = inr (inr (inl three));
  done = λ z. absurd (omega arith);
  refused = λ z. absurd (omega arith);
  fault = λ z. inl (record { failed = failed; entries = entries; serves = serves; said = said });
  store_fault = λ z. absurd (omega arith);
  memory = λ z. absurd (omega arith);
  unread = all.unread;
  lanes_back = all.lanes_back;
  bound = λ came. serves.bound;
  later = all.later;
  listener_later = all.listener_later;
  quiet = all.quiet;
}

-- the output failed
not_printed : (serving : Serving) (old new : Outside) (before after : ListenerView) (entries status : ℕ)
    → Whatever serving old new before after status → ServesStore serving old new before after entries
    → status ≡ 3 → Failed old.streams.output new.streams.output → GainsFront old.streams.output new.streams.output (entries_line entries)
    → IsServe serving old new before after status
not_printed serving old new before after entries status all serves three failed front = record {
  statuses = inr (inr (inl three));
  done = λ z. absurd (omega arith);
  refused = λ z. absurd (omega arith);
  fault = λ z. inr (inl (record { failed = failed; entries = entries; serves = serves; front = front }));
  store_fault = λ z. absurd (omega arith);
  memory = λ z. absurd (omega arith);
  unread = all.unread;
  lanes_back = all.lanes_back;
  bound = λ came. serves.bound;
  later = all.later;
  listener_later = all.listener_later;
  quiet = all.quiet;
}

-- the register was served, and its count was said as far as that could be
pub of_served : (serving : Serving) (old new : Outside) (before after : ListenerView) (entries : ℕ) (listening : Listening) (status : ℕ)
    → Whatever serving old new before after status → ServesStore serving old new before after entries
    → IsListening (AllCame serving before after × NoneFailed before after) (ListeningFailed before after) listening
    → EndsWith old.streams.output new.streams.output (entries_line entries) (listening_status listening) status
    → IsServe serving old new before after status
of_served serving old new before after entries listening status all serves heard (inl said) = printed serving old new before after entries listening status all serves heard said.0 said.1
of_served serving old new before after entries listening status all serves heard (inr said) = not_printed serving old new before after entries status all serves said.0 said.1 said.2
