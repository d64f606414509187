-- What a lane tells as its last connection is out, and as it is taken back.
use Rattle.std.specs.Prelude.{option_map}
use Rattle.std.proofs.Common.{Option, None, IfSome, ◌≡◌, List, [], ◌∷◌, ◌++◌, map, Some, refl, sym, ap, ◌∙◌}
use mathlib.Core.List.{map-append}
use Rattle.ipam_edge.specs.declared.memory.BytesSource.{BytesSource}
use Rattle.ipam_edge.specs.declared.memory.BytesSink.{BytesSink}
use Rattle.ipam_listen.specs.Connections.{Connection, Ends, IsLastOut, finished, handed_out, last_finished}
use Rattle.ipam_listen.specs.ListLanes.{connection_of, ends_of_pair}
use Rattle.ipam_listen.specs.declared.list_lane.Handed.{Handed}

pub last_finished_push : (cs : List Connection) (c : Connection) (after : Ends) → last_finished (cs ++ c ∷ []) after ≡ cs ++ finished c.before after ∷ []
last_finished_push [] c after = refl
last_finished_push (x ∷ []) c after = refl
last_finished_push (x ∷ y ∷ cs) c after = ap (λ (l : List Connection). x ∷ l) (last_finished_push (y ∷ cs) c after)

pub last_out_push : (cs : List Connection) (before : Ends) → IsLastOut (cs ++ handed_out before ∷ [])
last_out_push [] before = refl
last_out_push (x ∷ []) before = refl
last_out_push (x ∷ y ∷ cs) before = last_out_push (y ∷ cs) before

pub taken_back : (xs ys zs : List Handed) (last : Handed) (source : BytesSource) (sink : BytesSink)
    → xs ≡ ys ++ last ∷ [] → zs ≡ ys ++ record { was = last.was; is = Some (source, sink) } ∷ []
    → map connection_of zs ≡ last_finished (map connection_of xs) (ends_of_pair (source, sink))
taken_back xs ys zs last source sink e f =
    let new : Handed = record { was = last.was; is = Some (source, sink) } in
    (ap (map connection_of) f ∙ map-append connection_of ys (new ∷ []))
    ∙ sym (ap (λ (l : List Handed). last_finished (map connection_of l) (ends_of_pair (source, sink))) e
    ∙ (ap (λ (l : List Connection). last_finished l (ends_of_pair (source, sink))) (map-append connection_of ys (last ∷ []))
    ∙ last_finished_push (map connection_of ys) (connection_of last) (ends_of_pair (source, sink))))

-- the connections with one more, which is out
abbrev pub with_one_out : Ends → Option (List Connection) → Option (List Connection)
with_one_out before told = option_map (λ connections. connections ++ handed_out before ∷ []) told

-- behind an accept the last connection is out
pub out_after : (told : Option (List Connection)) (before : Ends) → IfSome (with_one_out before told) IsLastOut
out_after None before = tt
out_after (Some cs) before = last_out_push cs before
