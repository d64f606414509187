-- A run of `mirror` gives each promise.
use Rattle.std.proofs.Common.{◌≡◌, ℕ, ◌<◌, ◌⊎◌, inl, inr, ap, subst, arith, List, None}
use Rattle.command_words.specs.declared.asked.Mirroring.{Mirroring}
use Rattle.command_words.specs.declared.asked.Command.{Command}
use Rattle.command_words.specs.declared.asked.Command.TheVariants.{Free, Session, Serve, Mirror, Import, Export, Report, Migrate, Load}
use Rattle.command_words.specs.Asked.{Asks}
use Rattle.command_words.proofs.Unique.{words_ask_for_one}
use Rattle.command_store.specs.Outside.{Outside, AnyFailed}
use Rattle.machine_serving.specs.Views.{ListenerView, ListeningFailed}
use Rattle.command_mirror.specs.Mirror.{Exhausts, IsBoundBy, IsMirror, Starves}
use Rattle.ipam_command.specs.Clauses.{AsksMirror, HasClauses, IsQuiet, ListenerFailed}
use Rattle.ipam_command.proofs.Apart.{answers_of, count_kept, lanes_kept, nobody, none_rose, quiet_beside}
use Rattle.ipam_command.proofs.OfficeLaws.{none_fell, tables_stay}

-- words that ask for one mirror ask for no other
same_mirroring : (words : List (List ℕ)) (a b : Mirroring) → Asks words (Mirror a) → Asks words (Mirror b) → a ≡ b
same_mirroring words a b f g = let e = words_ask_for_one words (Mirror a) (Mirror b) f g in cc

-- it ends by itself where nothing fails
mirrored_complete : (words : List (List ℕ)) (old new : Outside) (before after : ListenerView) (status : ℕ) (mirroring : Mirroring) (command : Command)
    → Asks words (Mirror mirroring) → Asks words command → IsMirror mirroring old new before after status
    → (¬ AnyFailed old new) → (¬ ListenerFailed command before after) → (status ≡ 0) ⊎ (status ≡ 1) ⊎ (status ≡ 5)
mirrored_complete words old new before after status mirroring command asks a s well heard =
    let still : ¬ ListeningFailed before after = λ failed. heard (subst (λ (c : Command). ListenerFailed c before after) (words_ask_for_one words (Mirror mirroring) command asks a) failed) in
    elim s.statuses [
      | inl e ↦ inl e
      | inr b ↦ elim b [
        | inl e ↦ inr (inl e)
        | inr c ↦ elim c [
          | inl e ↦ absurd (elim (s.fault e) [
            | inl h ↦ elim h.cause [
              | inl input ↦ well (inl (inl input.1))
              | inr more ↦ elim more [ inl output ↦ well (inl (inr (inl output.1))) | inr listener ↦ still listener.1 ]
            ]
            | inr rest ↦ elim rest [ inl h ↦ still h.lanes.failed | inr h ↦ well (inl (inr (inr h.0.failed))) ]
          ])
          | inr d ↦ elim d [ inl e ↦ absurd (well (inr (s.store_fault e).0.failed)) | inr e ↦ inr (inr e) ]
        ]
      ]
    ]

-- where memory ran out before the mirror ran no count rose
quiet_mirror : (words : List (List ℕ)) (old new : Outside) (before after : ListenerView) (mirroring : Mirroring) → Asks words (Mirror mirroring)
    → Starves old new before after ⊎ Exhausts mirroring old new before after
    → IsQuiet words old new before after ⊎ ((other : Mirroring) × AsksMirror words other × Exhausts other old new before after)
quiet_mirror words old new before after mirroring asks (inl s) = quiet_beside words old new before after s.quiet s.idle
quiet_mirror words old new before after mirroring asks (inr s) = inr (mirroring, asks, s)

pub of_mirror : (words : List (List ℕ)) (old new : Outside) (before after : ListenerView) (status : ℕ) (mirroring : Mirroring) → Asks words (Mirror mirroring)
    → IsMirror mirroring old new before after status → HasClauses words old new before after status
of_mirror words old new before after status mirroring asks s = record {
  status_ = elim s.statuses [ inl e ↦ omega arith | inr a ↦ elim a [ inl e ↦ omega arith | inr b ↦ elim b [ inl e ↦ omega arith | inr c ↦ elim c [ inl e ↦ omega arith | inr e ↦ omega arith ] ] ] ];
  done = λ z. (let t = (s.done z).0 in (inr (inr (inr (inr (inr (inr (inr (inr (inr (inr (inr (inr (inl (mirroring, asks, t))))))))))))), t.mirrored.mirrors.serves.silent));
  refused = λ z. inr (inr (inr (inr (inr (inr (inr (inr (inr (inr (inr (mirroring, asks, (s.refused z).0)))))))))));
  usage = λ z. absurd (elim s.statuses [ inl e ↦ omega arith | inr a ↦ elim a [ inl e ↦ omega arith | inr b ↦ elim b [ inl e ↦ omega arith | inr c ↦ elim c [ inl e ↦ omega arith | inr e ↦ omega arith ] ] ] ]);
  usage_first = λ n. absurd (n (Mirror mirroring) asks);
  fault = λ z. elim (s.fault z) [
    | inl h ↦ elim h.cause [
      | inl input ↦ inl input.1
      | inr more ↦ elim more [ inl output ↦ inr (inl output.1) | inr listener ↦ inr (inr (inr (inr (mirroring, asks, listener.1)))) ]
    ]
    | inr rest ↦ elim rest [ inl h ↦ inr (inr (inr (inr (mirroring, asks, h.lanes.failed)))) | inr h ↦ inr (inr (inl h.0.failed)) ]
  ];
  free_fault = λ within a z. absurd (let e = words_ask_for_one words (Free within) (Mirror mirroring) a asks in cc);
  starved = λ store a z output errors. absurd (let e = words_ask_for_one words (Session store) (Mirror mirroring) a asks in cc);
  store_fault = λ z. (nobody before after (s.store_fault z).1, inl (inr (inr (inr (inr (inr (inr (mirroring, asks)))))), (s.store_fault z).0));
  memory = λ z. ((s.memory z).0, inr (inr (mirroring, asks)));
  nothing_else = λ within a. absurd (let e = words_ask_for_one words (Free within) (Mirror mirroring) a asks in cc);
  refuses = λ within number fault a. absurd (let e = words_ask_for_one words (Free within) (Mirror mirroring) a asks in cc);
  no_store = λ within a. absurd (let e = words_ask_for_one words (Free within) (Mirror mirroring) a asks in cc);
  no_listener = λ none others. absurd (others mirroring asks);
  lanes_back = s.lanes_back;
  session = λ store a. absurd (let e = words_ask_for_one words (Session store) (Mirror mirroring) a asks in cc);
  serve = λ serving a. absurd (let e = words_ask_for_one words (Serve serving) (Mirror mirroring) a asks in cc);
  mirror = λ other a. subst (λ (t : Mirroring). IsMirror t old new before after status) (same_mirroring words mirroring other asks a) s;
  load = λ count workers a. absurd (let e = words_ask_for_one words (Load count workers) (Mirror mirroring) a asks in cc);
  migrate_whole = λ db populated a. absurd (let e = words_ask_for_one words (Migrate db populated) (Mirror mirroring) a asks in cc);
  answers = λ one a. answers_of words (Mirror mirroring) one old new before after status asks a s;
  empty = λ unique a well z. absurd (let e = words_ask_for_one words (Session (record { db = None; global_unique = unique })) (Mirror mirroring) a asks in cc);
  import = λ kind store a. absurd (let e = words_ask_for_one words (Import kind store) (Mirror mirroring) a asks in cc);
  import_whole = λ kind store a. absurd (let e = words_ask_for_one words (Import kind store) (Mirror mirroring) a asks in cc);
  export = λ kind store a. absurd (let e = words_ask_for_one words (Export kind store) (Mirror mirroring) a asks in cc);
  export_keeps = λ kind store a. absurd (let e = words_ask_for_one words (Export kind store) (Mirror mirroring) a asks in cc);
  report = λ report store a. absurd (let e = words_ask_for_one words (Report report store) (Mirror mirroring) a asks in cc);
  report_keeps = λ report store a. absurd (let e = words_ask_for_one words (Report report store) (Mirror mirroring) a asks in cc);
  complete = λ command a well heard. mirrored_complete words old new before after status mirroring command asks a s well heard;
  exact = λ within a well. absurd (let e = words_ask_for_one words (Free within) (Mirror mirroring) a asks in cc);
  later = s.later;
  listener_later = s.listener_later;
  quiet = λ z. quiet_mirror words old new before after mirroring asks (s.memory z).1;
}

-- no lane came of a listener that was not used
none_bound : (mirroring : Mirroring) (before after : ListenerView) → after ≡ before → before.lanes < after.lanes → IsBoundBy mirroring after
none_bound mirroring before after same came = let e = ap (λ (d : ListenerView). d.lanes) same in absurd (omega arith)

-- where memory ran out before anything was used
pub not_begun : (mirroring : Mirroring) (old new : Outside) (before after : ListenerView) (status : ℕ) → status ≡ 5 → new ≡ old → after ≡ before
    → IsMirror mirroring old new before after status
not_begun mirroring old new before after status five same same_listener =
    let stored = tables_stay old new (ap (λ (t : Outside). t.stores) same) in
    record {
      statuses = inr (inr (inr (inr five)));
      done = λ z. absurd (omega arith);
      refused = λ z. absurd (omega arith);
      fault = λ z. absurd (omega arith);
      store_fault = λ z. absurd (omega arith);
      memory = λ z. (
        ap (λ (t : Outside). t.streams.errors) same,
        inl (record {
          unused = record { input = ap (λ (t : Outside). t.streams.input) same; output = ap (λ (t : Outside). t.streams.output) same; stored = stored };
          quiet = none_rose old new same;
          idle = same_listener;
        }),
      );
      lanes_back = lanes_kept before after same_listener;
      bound = none_bound mirroring before after same_listener;
      later = none_fell old new same;
      listener_later = count_kept before after same_listener;
    }
