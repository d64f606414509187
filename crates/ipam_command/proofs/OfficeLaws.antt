-- A run of `import`, `export` or `report` gives each promise.
use Rattle.std.proofs.Common.{◌≡◌, ℕ, ◌≤◌, ◌⊎◌, inl, inr, refl, sym, ap, subst, arith, List, None}
use Rattle.inet_num.specs.Net.{Cidr}
use Rattle.command_words.specs.declared.asked.KindName.{KindName}
use Rattle.command_words.specs.declared.asked.Report.{Report as ReportName}
use Rattle.command_words.specs.declared.asked.Store.{Store}
use Rattle.command_words.specs.declared.asked.Command.TheVariants.{Free, Session, Serve, Mirror, Import, Export, Report, Migrate, Load}
use Rattle.command_words.specs.Asked.{Asks}
use Rattle.command_words.proofs.Unique.{words_ask_for_one}
use Rattle.command_streams.specs.Streams.{Failed}
use Rattle.ipam_data.specs.declared.kinds.Kind.{Kind}
use Rattle.command_store.specs.Outside.{Stores, Outside, AreSame, NoCountFalls}
use Rattle.command_store.proofs.Refused.{unchanged}
use Rattle.machine_serving.specs.Views.{ListenerView}
use Rattle.command_files.specs.Files.{kind_named}
use Rattle.command_files.specs.Import.{IsStored, IsImport}
use Rattle.command_files.specs.Export.{IsExportText, IsPrinting, IsExport}
use Rattle.command_files.specs.Report.{IsReportText, IsReport}
use Rattle.ipam_command.specs.Clauses.{HasClauses}
use Rattle.ipam_command.proofs.Apart.{lanes_kept, count_kept, nobody, same_import, same_export, same_report, answers_of, none_rose, quiet_beside}

-- where no opener was used told tables are as they were
pub tables_stay : (old new : Outside) → new.stores ≡ old.stores → AreSame old.stores.stored new.stores.stored
tables_stay old new same = unchanged old.stores.stored new.stores.stored (ap (λ (t : Stores). t.stored) same)

pub none_fell : (old new : Outside) → new ≡ old → NoCountFalls old new
none_fell old new same = subst (λ (t : Outside). NoCountFalls old t) (sym same)
    (record { streams = record { input = omega arith; output = omega arith; errors = omega arith }; stores = omega arith })

-- where memory ran out before anything was used
pub import_not_begun : (kind : Kind) (store : Store) (old new : Outside) (status : ℕ) → status ≡ 5 → new ≡ old → IsImport kind store old new status
import_not_begun kind store old new status five same = record {
  statuses = inr (inr (inr (inr five)));
  done = λ z. absurd (omega arith);
  refused = λ z. absurd (omega arith);
  fault = λ z. absurd (omega arith);
  store_fault = λ z. absurd (omega arith);
  memory = λ z. (
    record { output = ap (λ (t : Outside). t.streams.output) same; stored = tables_stay old new (ap (λ (t : Outside). t.stores) same) },
    ap (λ (t : Outside). t.streams.errors) same,
  );
  later = none_fell old new same;
  quiet = λ z. none_rose old new same;
}

pub export_not_begun : (kind : Kind) (store : Store) (old new : Outside) (status : ℕ) → status ≡ 5 → new ≡ old → IsExport kind store old new status
export_not_begun kind store old new status five same = record {
  statuses = inr (inr (inr (inr five)));
  done = λ z. absurd (omega arith);
  refused = λ z. absurd (omega arith);
  fault = λ z. absurd (omega arith);
  store_fault = λ z. absurd (omega arith);
  memory = λ z. (
    record {
      input = ap (λ (t : Outside). t.streams.input) same;
      errors = ap (λ (t : Outside). t.streams.errors) same;
      stored = tables_stay old new (ap (λ (t : Outside). t.stores) same);
    },
    ap (λ (t : Outside). t.streams.output) same,
  );
  later = none_fell old new same;
  quiet = λ z. none_rose old new same;
}

pub report_not_begun : (report : ReportName) (store : Store) (old new : Outside) (status : ℕ) → status ≡ 5 → new ≡ old → IsReport report store old new status
report_not_begun report store old new status five same = record {
  statuses = inr (inr (inr (inr five)));
  done = λ z. absurd (omega arith);
  refused = λ z. absurd (omega arith);
  fault = λ z. absurd (omega arith);
  store_fault = λ z. absurd (omega arith);
  memory = λ z. (
    record {
      input = ap (λ (t : Outside). t.streams.input) same;
      errors = ap (λ (t : Outside). t.streams.errors) same;
      stored = tables_stay old new (ap (λ (t : Outside). t.stores) same);
    },
    ap (λ (t : Outside). t.streams.output) same,
  );
  later = none_fell old new same;
  quiet = λ z. none_rose old new same;
}

-- an import is stored whole, or told tables are as they were
import_whole : (kind : Kind) (store : Store) (old new : Outside) (status : ℕ) → IsImport kind store old new status
    → (AreSame old.stores.stored new.stores.stored × ¬ (status ≡ 0))
    ⊎ (IsStored kind store old new × ((status ≡ 0) ⊎ ((status ≡ 3) × Failed old.streams.output new.streams.output)))
import_whole kind store old new status s = elim s.statuses [
  | inl e ↦ inr ((s.done e).done, inl e)
  | inr a ↦ elim a [
    | inl e ↦ inl (elim (s.refused e) [ inl h ↦ h.left.stored | inr h ↦ h.left.stored ], (λ z. omega arith))
    | inr b ↦ elim b [
      | inl e ↦ elim (s.fault e) [
        | inl h ↦ inl (h.left.stored, (λ z. omega arith))
        | inr more ↦ elim more [ inl h ↦ inr (h.done, inr (e, h.failed)) | inr h ↦ inl (h.left.stored, (λ z. omega arith)) ]
      ]
      | inr c ↦ elim c [ inl e ↦ inl (elim (s.store_fault e) [ inl h ↦ h.left.stored | inr h ↦ h.left.stored ], (λ z. omega arith)) | inr e ↦ inl ((s.memory e).0.stored, (λ z. omega arith)) ]
    ]
  ]
]

-- a command that prints a text of the register leaves told tables as they were
printing_keeps : (IsText : List ℕ → Type 0) (store : Store) (old new : Outside) (status : ℕ) → IsPrinting IsText store old new status
    → AreSame old.stores.stored new.stores.stored
printing_keeps IsText store old new status s = elim s.statuses [
  | inl e ↦ (s.done e).3.stored
  | inr a ↦ elim a [
    | inl e ↦ (s.refused e).unused.stored
    | inr b ↦ elim b [
      | inl e ↦ elim (s.fault e) [ inl h ↦ h.4.stored | inr h ↦ h.unused.stored ]
      | inr c ↦ elim c [ inl e ↦ (s.store_fault e).unused.stored | inr e ↦ (s.memory e).0.stored ]
    ]
  ]
]

report_keeps : (report : ReportName) (store : Store) (old new : Outside) (status : ℕ) → IsReport report store old new status
    → AreSame old.stores.stored new.stores.stored
report_keeps report store old new status s = elim s.statuses [
  | inl e ↦ (s.done e).3.stored
  | inr a ↦ elim a [
    | inl e ↦ elim (s.refused e) [ inl h ↦ h.unused.stored | inr h ↦ h.unused.stored ]
    | inr b ↦ elim b [
      | inl e ↦ elim (s.fault e) [ inl h ↦ h.4.stored | inr more ↦ elim more [ inl h ↦ h.unused.stored | inr h ↦ h.unused.stored ] ]
      | inr c ↦ elim c [ inl e ↦ (s.store_fault e).unused.stored | inr e ↦ (s.memory e).0.stored ]
    ]
  ]
]

-- ---- a run of `import`

pub of_import : (words : List (List ℕ)) (old new : Outside) (before after : ListenerView) (status : ℕ) (kind : KindName) (store : Store) → Asks words (Import kind store)
    → IsImport (kind_named kind) store old new status → after ≡ before → HasClauses words old new before after status
of_import words old new before after status kind store asks s same_listener = record {
  status_ = elim s.statuses [ inl e ↦ omega arith | inr a ↦ elim a [ inl e ↦ omega arith | inr b ↦ elim b [ inl e ↦ omega arith | inr c ↦ elim c [ inl e ↦ omega arith | inr e ↦ omega arith ] ] ] ];
  done = λ z. (let t = s.done z in (inr (inr (inr (inr (inl (kind, store, asks, t))))), t.silent));
  refused = λ z. inr (inr (inr (inl (kind, store, asks, s.refused z))));
  usage = λ z. absurd (elim s.statuses [ inl e ↦ omega arith | inr a ↦ elim a [ inl e ↦ omega arith | inr b ↦ elim b [ inl e ↦ omega arith | inr c ↦ elim c [ inl e ↦ omega arith | inr e ↦ omega arith ] ] ] ]);
  usage_first = λ n. absurd (n (Import kind store) asks);
  fault = λ z. elim (s.fault z) [ inl h ↦ inl h.failed | inr more ↦ elim more [ inl h ↦ inr (inl h.failed) | inr h ↦ inr (inr (inl h.failed)) ] ];
  free_fault = λ within a z. absurd (let e = words_ask_for_one words (Free within) (Import kind store) a asks in cc);
  starved = λ other a z output errors. absurd (let e = words_ask_for_one words (Session other) (Import kind store) a asks in cc);
  store_fault = λ z. (nobody before after same_listener, inr (inl (kind, store, asks, s.store_fault z)));
  memory = λ z. ((s.memory z).1, inr (inl (s.memory z).0.output));
  nothing_else = λ within a. absurd (let e = words_ask_for_one words (Free within) (Import kind store) a asks in cc);
  refuses = λ within number fault a. absurd (let e = words_ask_for_one words (Free within) (Import kind store) a asks in cc);
  no_store = λ within a. absurd (let e = words_ask_for_one words (Free within) (Import kind store) a asks in cc);
  no_listener = λ none others. same_listener;
  lanes_back = lanes_kept before after same_listener;
  session = λ other a. absurd (let e = words_ask_for_one words (Session other) (Import kind store) a asks in cc);
  serve = λ serving a. absurd (let e = words_ask_for_one words (Serve serving) (Import kind store) a asks in cc);
  mirror = λ mirroring a. absurd (let e = words_ask_for_one words (Mirror mirroring) (Import kind store) a asks in cc);
  load = λ count workers a. absurd (let e = words_ask_for_one words (Load count workers) (Import kind store) a asks in cc);
  import = λ other_kind other a. (same_import words kind other_kind store other (λ k t. IsImport (kind_named k) t old new status) asks a s, same_listener);
  import_whole = λ other_kind other a. import_whole (kind_named other_kind) other old new status
      (same_import words kind other_kind store other (λ k t. IsImport (kind_named k) t old new status) asks a s);
  export = λ other_kind other a. absurd (let e = words_ask_for_one words (Export other_kind other) (Import kind store) a asks in cc);
  export_keeps = λ other_kind other a. absurd (let e = words_ask_for_one words (Export other_kind other) (Import kind store) a asks in cc);
  report = λ report other a. absurd (let e = words_ask_for_one words (Report report other) (Import kind store) a asks in cc);
  report_keeps = λ report other a. absurd (let e = words_ask_for_one words (Report report other) (Import kind store) a asks in cc);
  migrate_whole = λ db populated a. absurd (let e = words_ask_for_one words (Migrate db populated) (Import kind store) a asks in cc);
  answers = λ one a. answers_of words (Import kind store) one old new before after status asks a (s, same_listener);
  empty = λ unique a well z. absurd (let e = words_ask_for_one words (Session (record { db = None; global_unique = unique })) (Import kind store) a asks in cc);
  complete = λ command a well heard. elim s.statuses [
    | inl e ↦ inl e
    | inr a ↦ elim a [
      | inl e ↦ inr (inl e)
      | inr b ↦ elim b [
        | inl e ↦ absurd (well (inl (elim (s.fault e) [ inl h ↦ inl h.failed | inr more ↦ elim more [ inl h ↦ inr (inl h.failed) | inr h ↦ inr (inr h.failed) ] ])))
        | inr c ↦ elim c [ inl e ↦ absurd (well (inr (elim (s.store_fault e) [ inl h ↦ h.failed | inr h ↦ h.unwritten.failed ]))) | inr e ↦ inr (inr e) ]
      ]
    ]
  ];
  exact = λ within a well. absurd (let e = words_ask_for_one words (Free within) (Import kind store) a asks in cc);
  later = s.later;
  listener_later = count_kept before after same_listener;
  quiet = λ z. quiet_beside words old new before after (s.quiet z) same_listener;
}

-- ---- a run of `export`

pub of_export : (words : List (List ℕ)) (old new : Outside) (before after : ListenerView) (status : ℕ) (kind : KindName) (store : Store) → Asks words (Export kind store)
    → IsExport (kind_named kind) store old new status → after ≡ before → HasClauses words old new before after status
of_export words old new before after status kind store asks s same_listener = record {
  status_ = elim s.statuses [ inl e ↦ omega arith | inr a ↦ elim a [ inl e ↦ omega arith | inr b ↦ elim b [ inl e ↦ omega arith | inr c ↦ elim c [ inl e ↦ omega arith | inr e ↦ omega arith ] ] ] ];
  done = λ z. (let t = s.done z in (inr (inr (inr (inr (inr (inl (kind, store, asks, t)))))), t.3.errors));
  refused = λ z. inr (inr (inr (inr (inl (kind, store, asks, s.refused z)))));
  usage = λ z. absurd (elim s.statuses [ inl e ↦ omega arith | inr a ↦ elim a [ inl e ↦ omega arith | inr b ↦ elim b [ inl e ↦ omega arith | inr c ↦ elim c [ inl e ↦ omega arith | inr e ↦ omega arith ] ] ] ]);
  usage_first = λ n. absurd (n (Export kind store) asks);
  fault = λ z. elim (s.fault z) [ inl h ↦ inr (inl h.2) | inr h ↦ inr (inr (inl h.failed)) ];
  free_fault = λ within a z. absurd (let e = words_ask_for_one words (Free within) (Export kind store) a asks in cc);
  starved = λ other a z output errors. absurd (let e = words_ask_for_one words (Session other) (Export kind store) a asks in cc);
  store_fault = λ z. (nobody before after same_listener, inl (inr (inr (inl (kind, store, asks))), s.store_fault z));
  memory = λ z. ((s.memory z).0.errors, inr (inl (s.memory z).1));
  nothing_else = λ within a. absurd (let e = words_ask_for_one words (Free within) (Export kind store) a asks in cc);
  refuses = λ within number fault a. absurd (let e = words_ask_for_one words (Free within) (Export kind store) a asks in cc);
  no_store = λ within a. absurd (let e = words_ask_for_one words (Free within) (Export kind store) a asks in cc);
  no_listener = λ none others. same_listener;
  lanes_back = lanes_kept before after same_listener;
  session = λ other a. absurd (let e = words_ask_for_one words (Session other) (Export kind store) a asks in cc);
  serve = λ serving a. absurd (let e = words_ask_for_one words (Serve serving) (Export kind store) a asks in cc);
  mirror = λ mirroring a. absurd (let e = words_ask_for_one words (Mirror mirroring) (Export kind store) a asks in cc);
  load = λ count workers a. absurd (let e = words_ask_for_one words (Load count workers) (Export kind store) a asks in cc);
  export = λ other_kind other a. (same_export words kind other_kind store other (λ k t. IsExport (kind_named k) t old new status) asks a s, same_listener);
  export_keeps = λ other_kind other a. printing_keeps (IsExportText (kind_named kind) store old) store old new status s;
  report = λ report other a. absurd (let e = words_ask_for_one words (Report report other) (Export kind store) a asks in cc);
  report_keeps = λ report other a. absurd (let e = words_ask_for_one words (Report report other) (Export kind store) a asks in cc);
  import = λ other_kind other a. absurd (let e = words_ask_for_one words (Import other_kind other) (Export kind store) a asks in cc);
  import_whole = λ other_kind other a. absurd (let e = words_ask_for_one words (Import other_kind other) (Export kind store) a asks in cc);
  migrate_whole = λ db populated a. absurd (let e = words_ask_for_one words (Migrate db populated) (Export kind store) a asks in cc);
  answers = λ one a. answers_of words (Export kind store) one old new before after status asks a (s, same_listener);
  empty = λ unique a well z. absurd (let e = words_ask_for_one words (Session (record { db = None; global_unique = unique })) (Export kind store) a asks in cc);
  complete = λ command a well heard. elim s.statuses [
    | inl e ↦ inl e
    | inr a ↦ elim a [
      | inl e ↦ inr (inl e)
      | inr b ↦ elim b [
        | inl e ↦ absurd (well (inl (elim (s.fault e) [ inl h ↦ inr (inl h.2) | inr h ↦ inr (inr h.failed) ])))
        | inr c ↦ elim c [ inl e ↦ absurd (well (inr (s.store_fault e).failed)) | inr e ↦ inr (inr e) ]
      ]
    ]
  ];
  exact = λ within a well. absurd (let e = words_ask_for_one words (Free within) (Export kind store) a asks in cc);
  later = s.later;
  listener_later = count_kept before after same_listener;
  quiet = λ z. quiet_beside words old new before after (s.quiet z) same_listener;
}

-- ---- a run of `report`

pub of_report : (words : List (List ℕ)) (old new : Outside) (before after : ListenerView) (status : ℕ) (report : ReportName) (store : Store) → Asks words (Report report store)
    → IsReport report store old new status → after ≡ before → HasClauses words old new before after status
of_report words old new before after status report store asks s same_listener = record {
  status_ = elim s.statuses [ inl e ↦ omega arith | inr a ↦ elim a [ inl e ↦ omega arith | inr b ↦ elim b [ inl e ↦ omega arith | inr c ↦ elim c [ inl e ↦ omega arith | inr e ↦ omega arith ] ] ] ];
  done = λ z. (let t = s.done z in (inr (inr (inr (inr (inr (inr (inl (report, store, asks, t))))))), t.3.errors));
  refused = λ z. inr (inr (inr (inr (inr (inl (report, store, asks, s.refused z))))));
  usage = λ z. absurd (elim s.statuses [ inl e ↦ omega arith | inr a ↦ elim a [ inl e ↦ omega arith | inr b ↦ elim b [ inl e ↦ omega arith | inr c ↦ elim c [ inl e ↦ omega arith | inr e ↦ omega arith ] ] ] ]);
  usage_first = λ n. absurd (n (Report report store) asks);
  fault = λ z. elim (s.fault z) [ inl h ↦ inr (inl h.2) | inr more ↦ elim more [ inl h ↦ inr (inr (inl h.failed)) | inr h ↦ inr (inr (inl h.failed)) ] ];
  free_fault = λ within a z. absurd (let e = words_ask_for_one words (Free within) (Report report store) a asks in cc);
  starved = λ other a z output errors. absurd (let e = words_ask_for_one words (Session other) (Report report store) a asks in cc);
  store_fault = λ z. (nobody before after same_listener, inl (inr (inr (inr (inl (report, store, asks)))), s.store_fault z));
  memory = λ z. ((s.memory z).0.errors, inr (inl (s.memory z).1));
  nothing_else = λ within a. absurd (let e = words_ask_for_one words (Free within) (Report report store) a asks in cc);
  refuses = λ within number fault a. absurd (let e = words_ask_for_one words (Free within) (Report report store) a asks in cc);
  no_store = λ within a. absurd (let e = words_ask_for_one words (Free within) (Report report store) a asks in cc);
  no_listener = λ none others. same_listener;
  lanes_back = lanes_kept before after same_listener;
  session = λ other a. absurd (let e = words_ask_for_one words (Session other) (Report report store) a asks in cc);
  serve = λ serving a. absurd (let e = words_ask_for_one words (Serve serving) (Report report store) a asks in cc);
  mirror = λ mirroring a. absurd (let e = words_ask_for_one words (Mirror mirroring) (Report report store) a asks in cc);
  load = λ count workers a. absurd (let e = words_ask_for_one words (Load count workers) (Report report store) a asks in cc);
  report = λ other_report other a. (same_report words report other_report store other (λ r t. IsReport r t old new status) asks a s, same_listener);
  report_keeps = λ other_report other a. report_keeps report store old new status s;
  export = λ other_kind other a. absurd (let e = words_ask_for_one words (Export other_kind other) (Report report store) a asks in cc);
  export_keeps = λ other_kind other a. absurd (let e = words_ask_for_one words (Export other_kind other) (Report report store) a asks in cc);
  import = λ other_kind other a. absurd (let e = words_ask_for_one words (Import other_kind other) (Report report store) a asks in cc);
  import_whole = λ other_kind other a. absurd (let e = words_ask_for_one words (Import other_kind other) (Report report store) a asks in cc);
  migrate_whole = λ db populated a. absurd (let e = words_ask_for_one words (Migrate db populated) (Report report store) a asks in cc);
  answers = λ one a. answers_of words (Report report store) one old new before after status asks a (s, same_listener);
  empty = λ unique a well z. absurd (let e = words_ask_for_one words (Session (record { db = None; global_unique = unique })) (Report report store) a asks in cc);
  complete = λ command a well heard. elim s.statuses [
    | inl e ↦ inl e
    | inr a ↦ elim a [
      | inl e ↦ inr (inl e)
      | inr b ↦ elim b [
        | inl e ↦ absurd (well (inl (elim (s.fault e) [ inl h ↦ inr (inl h.2) | inr more ↦ elim more [ inl h ↦ inr (inr h.failed) | inr h ↦ inr (inr h.failed) ] ])))
        | inr c ↦ elim c [ inl e ↦ absurd (well (inr (s.store_fault e).failed)) | inr e ↦ inr (inr e) ]
      ]
    ]
  ];
  exact = λ within a well. absurd (let e = words_ask_for_one words (Free within) (Report report store) a asks in cc);
  later = s.later;
  listener_later = count_kept before after same_listener;
  quiet = λ z. quiet_beside words old new before after (s.quiet z) same_listener;
}
