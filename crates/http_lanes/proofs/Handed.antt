-- What a lane tells from one connection to the next, and what was served.
use Rattle.std.specs.Prelude.{option_map}
use Rattle.std.proofs.Common.{◌≡◌, List, [], ◌∷◌, ◌++◌, Option, Some, None, IfSome, refl, ap, ◌∙◌, subst}
use Rattle.ipam_listen.specs.Connections.{Connection, Ends, finished, handed_out, last_finished}
use Rattle.ipam_listen.proofs.Told.{last_finished_push, with_one_out}
use Rattle.http_session.specs.Talk.{May}
use Rattle.http_lanes.specs.Served.{AreServed, HasServed, IsServed, IsServedWhole}

abbrev pub with_last_finished : Ends → Option (List Connection) → Option (List Connection)
with_last_finished after told = option_map (λ connections. last_finished connections after) told

told_more : (told : Option (List Connection)) (before after : Ends) (cs : List Connection) → IfSome told (λ all. all ≡ cs)
    → IfSome (with_last_finished after (with_one_out before told)) (λ all. all ≡ cs ++ finished before after ∷ [])
told_more None before after cs e = tt
told_more (Some all) before after cs e = last_finished_push all (handed_out before) after ∙ ap (λ (l : List Connection). l ++ finished before after ∷ []) e

module _ {V : Type 0} (may : May V) where
  -- a lane that has handed out nothing
  pub none_yet : (s : V) (told : Option (List Connection)) → IfSome told (λ all. all ≡ []) → HasServed may s s told
  none_yet s told fresh = record { connections = []; told_are = fresh; served = refl }

  served_push : (cs : List Connection) (c : Connection) (s t u : V) → AreServed may cs s t → IsServedWhole may c t u → AreServed may (cs ++ c ∷ []) s u
  served_push [] c s t u k one = (u, subst (λ (x : V). IsServedWhole may c x u) k one, refl)
  served_push (x ∷ cs) c s t u k one = (k.0, k.1, served_push cs c k.0 t u k.2 one)

  -- one more connection was handed out, served and taken back
  pub one_more : (s t u : V) (told : Option (List Connection)) (before after : Ends) → HasServed may s t told → IsServed may before after t u
      → HasServed may s u (with_last_finished after (with_one_out before told))
  one_more s t u told before after k one =
      record {
        connections = k.connections ++ finished before after ∷ [];
        told_are = told_more told before after k.connections k.told_are;
        served = served_push k.connections (finished before after) s t u k.served (after, refl, one);
      }
