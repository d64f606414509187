-- A run has the headline of its command.
use Rattle.std.proofs.Common.{◌≡◌, ◌⊎◌, ℕ, List, [], length, Option, Some, None, IfSome, refl, sym, ap, ◌∙◌, subst, inl, inr, arith}
use Rattle.std.proofs.lemmas.List.{append-nil}
use Rattle.std.proofs.lemmas.List.Elements.{All-nil}
use Rattle.ipam_listen.specs.Connections.{Connection, Returned}
use Rattle.stored_tables.specs.declared.tables.Tables.{Tables}
use Rattle.command_words.specs.declared.asked.Command.{Command}
use Rattle.command_words.specs.declared.asked.Command.TheVariants.{Session, Serve, Mirror}
use Rattle.command_words.specs.declared.asked.Mirroring.{Mirroring}
use Rattle.command_words.specs.declared.asked.Serving.{Serving}
use Rattle.command_words.specs.declared.asked.Store.{Store}
use Rattle.command_words.specs.Asked.{Asks}
use Rattle.command_streams.specs.Streams.{Gains, Streams}
use Rattle.command_store.specs.Outside.{AreSame, IsUnused, Outside}
use Rattle.machine_serving.specs.Serve.{entries_line}
use Rattle.machine_serving.specs.Views.{ListenerView, NobodyCame}
use Rattle.command_session.specs.Session.{IsSession, Serves}
use Rattle.command_serve.specs.Serve.{Counts, IsServe, IsUnserved, ServesStore}
use Rattle.command_mirror.specs.Mirror.{IsMirror, Mirrors}
use Rattle.ipam_headline.specs.Headline.{Alone, Mirrored, Served}
use Rattle.ipam_headline.specs.Laws.{HeadlinesHold}
use Rattle.ipam_command.specs.Runs.{Answers, Runs}
use Rattle.ipam_command.specs.Headlines.{HasHeadline, HasHeadlines, NobodyRead, ServedCounted}
use Rattle.ipam_command.proofs.Apart.{answers_of, nobody}

-- ---- nothing was used

same_stored : (told : Option (List (List ℕ × Tables))) → AreSame told told
same_stored None = tt
same_stored (Some tables) = λ path. refl

none_used : (old new : Outside) → new ≡ old → IsUnused old new
none_used old new same = subst (λ (t : Outside). IsUnused old t) (sym same) (record { input = refl; output = refl; stored = same_stored old.stores.stored })

of_unserved : (old new : Outside) (before after : ListenerView) → IsUnserved old new before after → IsUnused old new × NobodyCame before after
of_unserved old new before after u =
    (record { input = ap (λ (s : Streams). s.input) u.streams; output = ap (λ (s : Streams). s.output) u.streams; stored = u.stored }, u.nobody)

-- a listener that was not used answered nobody
nobody_read : (before after : ListenerView) → after ≡ before → NobodyRead before after
nobody_read before after same =
    ([], ap (λ (d : ListenerView). d.returned) same ∙ sym (append-nil before.returned), All-nil (λ (r : Returned). IfSome r.told (λ (connections : List Connection). connections ≡ [])))

-- ---- each command

of_session : HeadlinesHold → (store : Store) (old new : Outside) (before after : ListenerView) (status : ℕ) → IsSession store old new status
    → HasHeadline (Session store) old new before after status
of_session hold store old new before after status s = (
  λ z. (let d = s.done z in hold.session store old new _ d.serves),
  elim s.statuses [
    | inl z ↦ (let d = s.done z in inl (hold.session store old new _ d.serves))
    | inr more ↦ elim more [
      | inl z ↦ inr (s.refused z).unused
      | inr rest ↦ elim rest [
        | inl z ↦ elim (s.fault z) [
          | inl h ↦ inl (hold.session store old new _ h.serves)
          | inr faults ↦ elim faults [ inl h ↦ inl (hold.session store old new _ h.serves) | inr h ↦ inr h.unused ]
        ]
        | inr last ↦ elim last [
          | inl z ↦ inr (s.store_fault z).unused
          | inr z ↦ elim (s.memory z).1 [ inl u ↦ inr u | inr h ↦ inl (hold.session store old new _ h) ]
        ]
      ]
    ]
  ],
)

of_serve : HeadlinesHold → (serving : Serving) (old new : Outside) (before after : ListenerView) (status : ℕ) → IsServe serving old new before after status
    → HasHeadline (Serve serving) old new before after status
of_serve hold serving old new before after status s = (
  λ z. counted (s.done z),
  elim s.statuses [
    | inl z ↦ inl (counted (s.done z)).0
    | inr more ↦ elim more [
      | inl z ↦ inr ((s.refused z).0.unused, nobody before after (s.refused z).1)
      | inr rest ↦ elim rest [
        | inl z ↦ elim (s.fault z) [
          | inl h ↦ inl (held h.entries h.serves)
          | inr faults ↦ elim faults [
            | inl h ↦ inl (held h.entries h.serves)
            | inr others ↦ elim others [ inl h ↦ inr (of_unserved old new before after h.unserved) | inr h ↦ inr (h.0.unused, nobody before after h.1) ]
          ]
        ]
        | inr last ↦ elim last [
          | inl z ↦ inr ((s.store_fault z).0.unused, nobody before after (s.store_fault z).1)
          | inr z ↦ inr (of_unserved old new before after (s.memory z).0)
        ]
      ]
    ]
  ],
)
  where
    held : (entries : ℕ) → ServesStore serving old new before after entries → Served serving.store old new before after
    held entries h = (hold.serve serving old new before after entries h).0

    counted : Counts serving old new before after → ServedCounted serving.store old new before after
    counted c =
        let served : (of : Served serving.store old new before after) × (c.entries ≡ length of.kept.history) = hold.serve serving old new before after c.entries c.serves in
        (served.0, subst (λ (n : ℕ). Gains old.streams.output new.streams.output (entries_line n)) served.1 c.said)

of_mirror : HeadlinesHold → (mirroring : Mirroring) (old new : Outside) (before after : ListenerView) (status : ℕ) → IsMirror mirroring old new before after status
    → HasHeadline (Mirror mirroring) old new before after status
of_mirror hold mirroring old new before after status s = (
  λ z. hold.mirror mirroring old new before after _ (s.done z).0.mirrored.mirrors,
  elim s.statuses [
    | inl z ↦ inl (hold.mirror mirroring old new before after _ (s.done z).0.mirrored.mirrors)
    | inr more ↦ elim more [
      | inl z ↦ inr ((s.refused z).0.unused, nobody_read before after (s.refused z).1)
      | inr rest ↦ elim rest [
        | inl z ↦ elim (s.fault z) [
          | inl h ↦ inl (hold.mirror mirroring old new before after _ h.mirrored.mirrors)
          | inr faults ↦ elim faults [ inl h ↦ inr (h.unused, (h.lanes.back, h.lanes.returned, h.lanes.unused)) | inr h ↦ inr (h.0.unused, nobody_read before after h.1) ]
        ]
        | inr last ↦ elim last [
          | inl z ↦ inr ((s.store_fault z).0.unused, nobody_read before after (s.store_fault z).1)
          | inr z ↦ elim (s.memory z).1 [
            | inl h ↦ inr (h.unused, nobody_read before after h.idle)
            | inr h ↦ inl (hold.mirror mirroring old new before after _ h.mirrors)
          ]
        ]
      ]
    ]
  ],
)

of_command : HeadlinesHold → (command : Command) (old new : Outside) (before after : ListenerView) (status : ℕ) → Answers command old new before after status
    → HasHeadline command old new before after status
of_command hold (Session store) old new before after status k = of_session hold store old new before after status k.0
of_command hold (Serve serving) old new before after status k = of_serve hold serving old new before after status k
of_command hold (Mirror mirroring) old new before after status k = of_mirror hold mirroring old new before after status k
of_command hold command old new before after status k = tt

-- memory ran out to read the words
of_none : (command : Command) (old new : Outside) (before after : ListenerView) (status : ℕ) → status ≡ 5 → new ≡ old → after ≡ before
    → HasHeadline command old new before after status
of_none (Session store) old new before after status five same idle = (λ z. absurd (omega arith), inr (none_used old new same))
of_none (Serve serving) old new before after status five same idle = (λ z. absurd (omega arith), inr (none_used old new same, nobody before after idle))
of_none (Mirror mirroring) old new before after status five same idle = (λ z. absurd (omega arith), inr (none_used old new same, nobody_read before after idle))
of_none command old new before after status five same idle = tt

pub headline_of_run : HeadlinesHold → (words : List (List ℕ)) (old new : Outside) (before after : ListenerView) (status : ℕ) → Runs words old new before after status
    → HasHeadlines words old new before after status
headline_of_run hold words old new before after status (inl (command, asks, answers)) other a =
    of_command hold other old new before after status (answers_of words command other old new before after status asks a answers)
headline_of_run hold words old new before after status (inr (inl (none, usage))) other a = absurd (none other a)
headline_of_run hold words old new before after status (inr (inr (five, same, idle))) other a = of_none other old new before after status five same idle
