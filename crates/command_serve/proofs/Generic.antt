-- A run of the command of any machine, by a register over the store of the words, is one of the register's own record.
use Rattle.std.proofs.Common.{◌≡◌, ◌⊎◌, ℕ, List, inl, inr, refl, ap, subst}
use Rattle.command_words.specs.declared.asked.Serving.{Serving}
use Rattle.command_words.specs.declared.asked.Store.{Store}
use Rattle.command_streams.specs.Streams.{Streams}
use Rattle.command_store.specs.Outside.{Outside}
use Rattle.machine_command.specs.Session.{IsRefused}
use Rattle.machine_server.proofs.Beside.{served_beside}
use Rattle.machine_serving.specs.Serve as generic
use Rattle.machine_serving.specs.Views.{ListenerView}
use Rattle.register_core.specs.Machines.{seen_step}
use Rattle.register_store.specs.Meaning.{register_opener}
use Rattle.register_store.proofs.Plainly.{holds_here, left_same}
use Rattle.rest_ipam.specs.Protocol.{register_protocol, seen_protocol}
use Rattle.stored_tables.specs.declared.tables.Tables.{Tables}
use Rattle.command_serve.specs.Serve.{IsServe, ServesStore}
use Rattle.command_serve.proofs.Served.{of_served}
use Rattle.command_serve.proofs.Unserved.{Whatever, of_fault, of_memory, of_place}

-- the place of the words
abbrev pub place_of : Serving → generic.Serving
place_of s = generic.serving s.bind s.workers s.connections

-- a place that is that of the words
pub serves_place : (store : Store) (s : Serving) (place : List ℕ) (old new : Outside) (before after : ListenerView) (status : ℕ) → place ≡ s.bind
    → generic.IsServe seen_protocol register_opener store (generic.serving place s.workers s.connections) old new before after status
    → generic.IsServe seen_protocol register_opener store (place_of s) old new before after status
serves_place store s place old new before after status same served =
    subst (λ (p : List ℕ). generic.IsServe seen_protocol register_opener store (generic.serving p s.workers s.connections) old new before after status) same served

module _ (s : Serving) (old new : Outside) (before after : ListenerView) where
  pub serves_here : (entries : ℕ) → generic.ServesStore seen_protocol register_opener s.store (place_of s) old new before after entries → new.streams.errors ≡ old.streams.errors
      → ServesStore s old new before after entries
  serves_here entries k silent =
      record {
        bound = k.bound;
        state = k.opening.state;
        loaded = k.loaded.opened;
        history = k.history;
        served = served_beside register_protocol seen_step (λ x. x.state) (λ x call. refl) k.opening old.stores.faults new.stores.faults before.returned after.returned
            (generic.AllCame (place_of s) before after) k.history k.served;
        entries_are = k.entries_are;
        holds = holds_here s.store old new k.opening k.opening k.history refl k.loaded.tells k.holds;
        silent = silent;
      }

  whatever : (status : ℕ) → generic.IsServe seen_protocol register_opener s.store (place_of s) old new before after status → Whatever s old new before after status
  whatever status r =
      record {
        unread = r.unread;
        lanes_back = r.lanes_back;
        later = r.later;
        listener_later = r.listener_later;
        quiet = λ five. (let q = r.quiet five in record { streams = q.0; stores = q.1 });
      }

  pub of_generic : (status : ℕ) → generic.IsServe seen_protocol register_opener s.store (place_of s) old new before after status → IsServe s old new before after status
  of_generic status r =
      let all = whatever status r in
      elim r.run [
        | inl v ↦ of_served s old new before after v.entries v.listening status all (serves_here v.entries v.serves v.silent) v.heard v.said
        | inr more ↦ elim more [
          | inl v ↦ of_fault s old new before after status v.0.fault all v.0.output v.0.refused.same v.1 v.0.refused.cause v.0.refused.failed v.0.said
          | inr rest ↦ elim rest [
            | inl v ↦ of_memory s old new before after status all (ap (λ (t : Streams). t.output) v.streams) (left_same s.store old.stores.stored new.stores.stored v.left) v.idle v.is
                (ap (λ (t : Streams). t.errors) v.streams)
            | inr v ↦ of_place s old new before after status all (ap (λ (t : Streams). t.output) v.streams) (left_same s.store old.stores.stored new.stores.stored v.left) v.nobody v.failed v.is
                (ap (λ (t : Streams). t.errors) v.streams)
          ]
        ]
      ]
