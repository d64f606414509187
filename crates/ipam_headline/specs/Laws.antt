-- What the commands ensure of a store gives the headline.
use Rattle.std.specs.Prelude.{◌≡◌, ℕ, length}
use Rattle.http_session.specs.declared.session.SessionEnd.{SessionEnd}
use Rattle.machine_serving.specs.Views.{ListenerView}
use Rattle.command_words.specs.declared.asked.Mirroring.{Mirroring}
use Rattle.command_words.specs.declared.asked.Serving.{Serving}
use Rattle.command_words.specs.declared.asked.Store.{Store}
use Rattle.command_store.specs.Outside.{Outside}
use Rattle.command_serve.specs.Serve.{ServesStore}
use Rattle.command_session.specs.Session.{Serves}
use Rattle.command_mirror.specs.Mirror.{Mirrors}
use Rattle.ipam_headline.specs.Headline.{Alone, Mirrored, Served}

pub record HeadlinesHold : Type 0 where
  -- a store that was served, with the number of its changes
  pub serve : (serving : Serving) (old new : Outside) (before after : ListenerView) (entries : ℕ) → ServesStore serving old new before after entries
      → (served : Served serving.store old new before after) × (entries ≡ length served.kept.history)
  -- a session over a store, however it ended
  pub session : (store : Store) (old new : Outside) (how : SessionEnd) → Serves store old new how → Alone store old new
  -- an operator next to readers
  pub mirror : (asked : Mirroring) (old new : Outside) (before after : ListenerView) (how : SessionEnd) → Mirrors asked old new before after how
      → Mirrored asked.store old new before after
